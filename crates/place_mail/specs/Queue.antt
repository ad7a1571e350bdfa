-- Posts to all places in one list, and what of them waits at each place. A post leads to the next one of
-- the same place, and each place to the first of its posts that waits and to its last one.
use Rattle.std.specs.Prelude.{◌≡◌, ℕ, zero, suc, List, [], ◌∷◌, Option, None, Some, drop, slice_set, nat_eq, if◌then◌else◌, refl}
use Rattle.std.specs.Coded.{Coded, code_by, coded×, coded_list, coded_ℕ}
use Rattle.place_mail.specs.declared.request.Request.{Request}
use Rattle.place_mail.specs.declared.queue.Post.{Post}
use Rattle.place_mail.specs.declared.queue.Ends.{Ends}
use Rattle.place_mail.specs.Mail.{request_code}

-- what contracts see of such a list: what waits at each place, and the number of posts for which there is room
pub record Queued : Type 0 where
  pub lists : List (List Request)
  pub room : ℕ

abbrev pub queued_code : Coded Queued
queued_code =
    code_by (List (List Request) × ℕ) (coded× (coded_list (coded_list request_code)) coded_ℕ) (λ q. (q.lists, q.room)) (λ p. record { lists = p.0; room = p.1 }) (λ _. refl)

-- the requests among these posts that went to a place
abbrev pub sent_to : ℕ → List Post → List Request
sent_to place [] = []
sent_to place (post ∷ rest) = if nat_eq post.place place then post.request ∷ sent_to place rest else sent_to place rest

-- those from an index on; with no index, none
abbrev pub sent_from : List Post → ℕ → Option ℕ → List Request
sent_from posts place None = []
sent_from posts place (Some index) = sent_to place (drop index posts)

-- the place of the post at an index
abbrev pub place_at : List Post → ℕ → Option ℕ
place_at [] index = None
place_at (post ∷ rest) zero = Some post.place
place_at (post ∷ rest) (suc index) = place_at rest index

-- a post of this place stands at the index, where there is one
abbrev pub LeadsTo : List Post → ℕ → Option ℕ → Type 0
LeadsTo posts place None = Unit {0}
LeadsTo posts place (Some index) = place_at posts index ≡ Some place

-- each of these posts leads to what was posted to its place after it
abbrev pub Linked : List Post → List Post → List (Option ℕ) → Type 0
Linked posts [] [] = Unit {0}
Linked posts [] (link ∷ links) = ⊥
Linked posts (post ∷ rest) [] = ⊥
Linked posts (post ∷ rest) (link ∷ links) =
    LeadsTo posts post.place link × (sent_from posts post.place link ≡ sent_to post.place rest) × Linked posts rest links

-- the last post of a place stands at the index; with no index it has none
abbrev pub IsLast : List Post → ℕ → Option ℕ → Type 0
IsLast posts place None = sent_to place posts ≡ []
IsLast posts place (Some index) = (place_at posts index ≡ Some place) × (sent_to place (drop (suc index) posts) ≡ [])

-- what each place from this one on leads to are posts of its own, and its last one
abbrev pub Ended : List Post → ℕ → List Ends → Type 0
Ended posts place [] = Unit {0}
Ended posts place (ends ∷ rest) = LeadsTo posts place ends.first × IsLast posts place ends.last × Ended posts (suc place) rest

-- what waits at each place from this one on
abbrev pub lists_from : List Post → ℕ → List Ends → List (List Request)
lists_from posts place [] = []
lists_from posts place (ends ∷ rest) = sent_from posts place ends.first ∷ lists_from posts (suc place) rest

-- the links after the one of the last post was set to the next one
abbrev pub relinked : List (Option ℕ) → Option ℕ → ℕ → List (Option ℕ)
relinked links None next = links
relinked links (Some last) next = slice_set links last (Some next)

-- the ends of a place whose last post is now this one: its first one too, where none waited
abbrev pub first_or : Option ℕ → ℕ → ℕ
first_or None next = next
first_or (Some first) next = first

abbrev pub extended : Ends → ℕ → Ends
extended ends next = record { first = Some (first_or ends.first next); last = Some next }
