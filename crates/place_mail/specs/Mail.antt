-- What contracts see of the mail between places, and how each call changes it.
use Rattle.std.specs.Prelude.{ℕ, ◌-◌, List, [], ◌∷◌, ◌++◌, Option, drop, slice_get, slice_index_or, slice_set, refl}
use Rattle.std.specs.Coded.{Coded, code_by, coded×, coded_list, coded_ℕ}
use Rattle.rising_list.specs.Rising.{inserted, removed}
use Rattle.place_mail.specs.declared.request.Request.{Request}

pub record Mail : Type 0 where
  -- the requests that wait at each place, by its index, in the order in which they were posted
  pub requests : List (List Request)
  -- the replies that are there, each with the number of its request, by rising number
  pub answers : List (ℕ × ℕ)
  -- the numbers of posts and of replies for which there is room
  pub posts : ℕ
  pub replies : ℕ

abbrev pub request_code : Coded Request
request_code = code_by (ℕ × ℕ) (coded× coded_ℕ coded_ℕ) (λ r. (r.name, r.evidence)) (λ p. record { name = p.0; evidence = p.1 }) (λ _. refl)

abbrev pub mail_code : Coded Mail
mail_code =
    code_by (List (List Request) × (List (ℕ × ℕ) × (ℕ × ℕ)))
    (coded× (coded_list (coded_list request_code)) (coded× (coded_list (coded× coded_ℕ coded_ℕ)) (coded× coded_ℕ coded_ℕ)))
    (λ m. (m.requests, (m.answers, (m.posts, m.replies))))
    (λ p. record { requests = p.0; answers = p.1.0; posts = p.1.1.0; replies = p.1.1.1 })
    (λ _. refl)

-- the requests that wait at a place
abbrev pub waiting_at : ℕ → List (List Request) → List Request
waiting_at place requests = slice_index_or requests place []

-- the first request that waits at a place
abbrev pub front_at : ℕ → List (List Request) → Option Request
front_at place requests = slice_get (waiting_at place requests) 0

-- a request more, behind the others that wait at the place
abbrev pub posted : ℕ → Request → List (List Request) → List (List Request)
posted place request requests = slice_set requests place (waiting_at place requests ++ request ∷ [])

-- the requests without the first that waits at a place
abbrev pub taken : ℕ → List (List Request) → List (List Request)
taken place requests = slice_set requests place (drop 1 (waiting_at place requests))

-- the mail after a request was posted to a place
abbrev pub after_post : ℕ → Request → Mail → Mail
after_post place request mail = record mail { requests = posted place request mail.requests; posts = mail.posts - 1 }

-- the mail after the first request at a place was taken, or where none waits, as it was
abbrev pub after_take : ℕ → Mail → Mail
after_take place mail = record mail { requests = taken place mail.requests }

-- the mail after a reply came to the request of a number
abbrev pub after_answer : ℕ → ℕ → Mail → Mail
after_answer number evidence mail = record mail { answers = inserted number evidence mail.answers; replies = mail.replies - 1 }

-- the mail after the reply to the request of a number was taken, or where none is there, as it was
abbrev pub after_reply : ℕ → Mail → Mail
after_reply number mail = record mail { answers = removed number mail.answers }

-- what contracts see of the replies alone
pub record Replied : Type 0 where
  pub entries : List (ℕ × ℕ)
  pub room : ℕ

abbrev pub replied_code : Coded Replied
replied_code =
    code_by (List (ℕ × ℕ) × ℕ) (coded× (coded_list (coded× coded_ℕ coded_ℕ)) coded_ℕ) (λ r. (r.entries, r.room)) (λ p. record { entries = p.0; room = p.1 }) (λ _. refl)
