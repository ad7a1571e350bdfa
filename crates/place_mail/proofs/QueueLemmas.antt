-- The list of posts: what waits at each place after one more, and after the first at a place was taken.
use Rattle.std.proofs.Common.{◌≡◌, ℕ, zero, suc, ◌+◌, ◌<◌, ◌≤◌, List, [], ◌∷◌, ◌++◌, Option, Some, None, length, get_or, drop, replicate, slice_get, slice_set, IfSome, refl, sym, ap, ◌∙◌, subst, append-nil, add-zero, zero-add, arith, inl, inr}
use Rattle.std.proofs.lemmas.List.{get_or_default}
use Rattle.std.proofs.lemmas.Bool.{cases_eq, eq-eqb, ne_eqb}
use Rattle.place_mail.specs.declared.request.Request.{Request}
use Rattle.place_mail.specs.declared.queue.Post.{Post}
use Rattle.place_mail.specs.declared.queue.Ends.{Ends}
use Rattle.place_mail.specs.Mail.{waiting_at, front_at, posted, taken}
use Rattle.place_mail.specs.Queue.{sent_to, sent_from, place_at, LeadsTo, Linked, IsLast, Ended, lists_from, relinked, first_or, extended, Queued}

-- ---- posts to one place

sent_to-here : (place : ℕ) (post : Post) (rest : List Post) → post.place ≡ place → sent_to place (post ∷ rest) ≡ post.request ∷ sent_to place rest
sent_to-here place post rest e = rw (eq-eqb post.place place e)

sent_to-other : (place : ℕ) (post : Post) (rest : List Post) → (post.place ≡ place → ⊥) → sent_to place (post ∷ rest) ≡ sent_to place rest
sent_to-other place post rest e = rw (ne_eqb post.place place e)

sent_to-append : (place : ℕ) (posts more : List Post) → sent_to place (posts ++ more) ≡ sent_to place posts ++ sent_to place more
sent_to-append place [] more = refl
sent_to-append place (post ∷ rest) more =
    elim (cases_eq post.place place) [
      | inl e ↦
          sent_to-here place post (rest ++ more) e
          ∙ ap (λ (t : List Request). post.request ∷ t) (sent_to-append place rest more)
          ∙ ap (λ (t : List Request). t ++ sent_to place more) (sym (sent_to-here place post rest e))
      | inr e ↦
          sent_to-other place post (rest ++ more) e
          ∙ sent_to-append place rest more
          ∙ ap (λ (t : List Request). t ++ sent_to place more) (sym (sent_to-other place post rest e))
    ]

-- a post to another place adds nothing
sent_to-push : (place : ℕ) (posts : List Post) (post : Post) → (post.place ≡ place → ⊥) → sent_to place (posts ++ post ∷ []) ≡ sent_to place posts
sent_to-push place posts post e =
    sent_to-append place posts (post ∷ [])
    ∙ ap (λ (t : List Request). sent_to place posts ++ t) (sent_to-other place post [] e)
    ∙ append-nil (sent_to place posts)

pub place_at-within : (posts : List Post) (index place : ℕ) → place_at posts index ≡ Some place → index < length posts
place_at-within [] index place e = none_some place e
  where
    none_some : {P : Type 0} (x : ℕ) → None ≡ Some x → P
    none_some x e = cc
place_at-within (post ∷ rest) zero place e = omega arith
place_at-within (post ∷ rest) (suc index) place e = omega (arith, place_at-within rest index place e)

place_at-append : (posts more : List Post) (index place : ℕ) → place_at posts index ≡ Some place → place_at (posts ++ more) index ≡ Some place
place_at-append [] more index place e = none_some place e
  where
    none_some : {P : Type 0} (x : ℕ) → None ≡ Some x → P
    none_some x e = cc
place_at-append (post ∷ rest) more zero place e = e
place_at-append (post ∷ rest) more (suc index) place e = place_at-append rest more index place e

place_at-end : (posts : List Post) (post : Post) → place_at (posts ++ post ∷ []) (length posts) ≡ Some post.place
place_at-end [] post = refl
place_at-end (first ∷ rest) post = place_at-end rest post

drop-within : (posts more : List Post) (index : ℕ) → index ≤ length posts → drop index (posts ++ more) ≡ drop index posts ++ more
drop-within posts more zero h = refl
drop-within [] more (suc index) h = absurd (omega arith)
drop-within (post ∷ rest) more (suc index) h = drop-within rest more index (omega arith)

drop-all : (posts : List Post) → drop (length posts) posts ≡ []
drop-all [] = refl
drop-all (post ∷ rest) = drop-all rest

-- where a place has a post, something was sent to it
some_sent : {P : Type 0} (posts : List Post) (index place : ℕ) → place_at posts index ≡ Some place → sent_to place posts ≡ [] → P
some_sent {P} [] index place e none = none_some place e
  where
    none_some : (x : ℕ) → None ≡ Some x → P
    none_some x e = cc
some_sent {P} (post ∷ rest) zero place e none = cons_nil (post.request) (sent_to place rest) (sym (sent_to-here place post rest (same post.place place e)) ∙ none)
  where
    same : (x y : ℕ) → Some x ≡ Some y → x ≡ y
    same x y e = cc

    cons_nil : (x : Request) (xs : List Request) → x ∷ xs ≡ [] → P
    cons_nil x xs e = cc
some_sent {P} (post ∷ rest) (suc index) place e none =
    elim (cases_eq post.place place) [
      | inl here ↦ cons_nil (post.request) (sent_to place rest) (sym (sent_to-here place post rest here) ∙ none)
      | inr other ↦ some_sent rest index place e (sym (sent_to-other place post rest other) ∙ none)
    ]
  where
    cons_nil : (x : Request) (xs : List Request) → x ∷ xs ≡ [] → P
    cons_nil x xs e = cc

pub sent_here : (posts : List Post) (index place : ℕ) (other : Post) → place_at posts index ≡ Some place → sent_to place (drop index posts) ≡ (get_or posts index other).request ∷ sent_to place (drop (suc index) posts)
sent_here [] index place other e = none_some place e
  where
    none_some : {P : Type 0} (x : ℕ) → None ≡ Some x → P
    none_some x e = cc
sent_here (post ∷ rest) zero place other e = sent_to-here place post rest (same post.place place e)
  where
    same : (x y : ℕ) → Some x ≡ Some y → x ≡ y
    same x y e = cc
sent_here (post ∷ rest) (suc index) place other e = sent_here rest index place other e

-- ---- what a lead says after a post more

LeadsTo-append : (posts more : List Post) (place : ℕ) (lead : Option ℕ) → LeadsTo posts place lead → LeadsTo (posts ++ more) place lead
LeadsTo-append posts more place None h = tt
LeadsTo-append posts more place (Some index) h = place_at-append posts more index place h

sent_from-other : (posts : List Post) (post : Post) (place : ℕ) (lead : Option ℕ) → (post.place ≡ place → ⊥) → LeadsTo posts place lead → sent_from (posts ++ post ∷ []) place lead ≡ sent_from posts place lead
sent_from-other posts post place None other h = refl
sent_from-other posts post place (Some index) other h =
    let inside : index < length posts = place_at-within posts index place h in
    ap (λ (t : List Post). sent_to place t) (drop-within posts (post ∷ []) index (omega arith)) ∙ sent_to-push place (drop index posts) post other

-- a link stays right, where the post more isn't the next of its place
link_on : (posts rest : List Post) (post : Post) (place : ℕ) (link : Option ℕ) → LeadsTo posts place link → sent_from posts place link ≡ sent_to place rest → (sent_to place rest ≡ [] → post.place ≡ place → ⊥)
    → sent_from (posts ++ post ∷ []) place link ≡ sent_to place (rest ++ post ∷ [])
link_on posts rest post place None leads e apart = sym (sent_to-push place rest post (apart (sym e)) ∙ sym e)
link_on posts rest post place (Some index) leads e apart =
    let inside : index < length posts = place_at-within posts index place leads in
    ap (λ (t : List Post). sent_to place t) (drop-within posts (post ∷ []) index (omega arith))
    ∙ sent_to-append place (drop index posts) (post ∷ [])
    ∙ ap (λ (t : List Request). t ++ sent_to place (post ∷ [])) e
    ∙ sym (sent_to-append place rest (post ∷ []))

-- the posts after the last one of the new post's place
linked_on : (posts rest : List Post) (post : Post) (links : List (Option ℕ)) → Linked posts rest links → sent_to post.place rest ≡ [] → Linked (posts ++ post ∷ []) (rest ++ post ∷ []) (links ++ None ∷ [])
linked_on posts [] post [] l none = (tt, refl, tt)
linked_on posts [] post (link ∷ links) l none = elim l [ ]
linked_on posts (first ∷ rest) post [] l none = elim l [ ]
linked_on posts (first ∷ rest) post (link ∷ links) l none =
    let other : first.place ≡ post.place → ⊥ = λ e. some_sent (first ∷ rest) 0 post.place (ap Some e) none in (
      LeadsTo-append posts (post ∷ []) first.place link l.0,
      link_on posts rest post first.place link l.0 l.1 (λ empty e. other (sym e)),
      linked_on posts rest post links l.2 (sym (sent_to-other post.place first rest other) ∙ none),
    )

-- the new post's link from the last post of its place on
linked_at : (posts rest : List Post) (post : Post) (links : List (Option ℕ)) (last : ℕ) → Linked posts rest links → place_at rest last ≡ Some post.place → sent_to post.place (drop (suc last) rest) ≡ []
    → Linked (posts ++ post ∷ []) (rest ++ post ∷ []) (slice_set links last (Some (length posts)) ++ None ∷ [])
linked_at posts [] post links last l here none = none_some post.place here
  where
    none_some : {P : Type 0} (x : ℕ) → None ≡ Some x → P
    none_some x e = cc
linked_at posts (first ∷ rest) post [] last l here none = elim l [ ]
linked_at posts (first ∷ rest) post (link ∷ links) zero l here none =
    let same : first.place ≡ post.place = some_same first.place post.place here in (
      place_at-end posts post ∙ ap Some (sym same),
      ap (λ (t : List Post). sent_to first.place t) (drop-within posts (post ∷ []) (length posts) (omega arith) ∙ ap (λ (t : List Post). t ++ post ∷ []) (drop-all posts))
          ∙ ap (λ (t : List Request). t ++ sent_to first.place (post ∷ [])) (sym none ∙ ap (λ (p : ℕ). sent_to p rest) (sym same))
          ∙ sym (sent_to-append first.place rest (post ∷ [])),
      linked_on posts rest post links l.2 none,
    )
  where
    some_same : (x y : ℕ) → Some x ≡ Some y → x ≡ y
    some_same x y e = cc
linked_at posts (first ∷ rest) post (link ∷ links) (suc last) l here none = (
  LeadsTo-append posts (post ∷ []) first.place link l.0,
  link_on posts rest post first.place link l.0 l.1 (λ empty e. some_sent rest last post.place here (ap (λ (p : ℕ). sent_to p rest) e ∙ empty)),
  linked_at posts rest post links last l.2 here none,
)

linked-append : (posts : List Post) (post : Post) (links : List (Option ℕ)) (last : Option ℕ) → Linked posts posts links → IsLast posts post.place last → Linked (posts ++ post ∷ []) (posts ++ post ∷ []) (relinked links last (length posts) ++ None ∷ [])
linked-append posts post links None l h = linked_on posts posts post links l h
linked-append posts post links (Some last) l h = linked_at posts posts post links last l h.0 h.1

pub linked-length : (posts rest : List Post) (links : List (Option ℕ)) → Linked posts rest links → length links ≡ length rest
linked-length posts [] [] l = refl
linked-length posts [] (link ∷ links) l = elim l [ ]
linked-length posts (first ∷ rest) [] l = elim l [ ]
linked-length posts (first ∷ rest) (link ∷ links) l = ap suc (linked-length posts rest links l.2)

linked-get : (posts rest : List Post) (links : List (Option ℕ)) (index place : ℕ) (other : Option ℕ) → Linked posts rest links → place_at rest index ≡ Some place
    → LeadsTo posts place (get_or links index other) × (sent_from posts place (get_or links index other) ≡ sent_to place (drop (suc index) rest))
linked-get posts [] links index place other l here = none_some place here
  where
    none_some : {P : Type 0} (x : ℕ) → None ≡ Some x → P
    none_some x e = cc
linked-get posts (first ∷ rest) [] index place other l here = elim l [ ]
linked-get posts (first ∷ rest) (link ∷ links) zero place other l here =
    let same : first.place ≡ place = some_same first.place place here in
    subst (λ (p : ℕ). LeadsTo posts p link × (sent_from posts p link ≡ sent_to p rest)) same (l.0, l.1)
  where
    some_same : (x y : ℕ) → Some x ≡ Some y → x ≡ y
    some_same x y e = cc
linked-get posts (first ∷ rest) (link ∷ links) (suc index) place other l here = linked-get posts rest links index place other l.2 here

-- ---- the ends of each place

IsLast-other : (posts : List Post) (post : Post) (place : ℕ) (last : Option ℕ) → (post.place ≡ place → ⊥) → IsLast posts place last → IsLast (posts ++ post ∷ []) place last
IsLast-other posts post place None other h = sent_to-push place posts post other ∙ h
IsLast-other posts post place (Some index) other h =
    let inside : index < length posts = place_at-within posts index place h.0 in (
      place_at-append posts (post ∷ []) index place h.0,
      ap (λ (t : List Post). sent_to place t) (drop-within posts (post ∷ []) (suc index) (omega arith))
          ∙ sent_to-push place (drop (suc index) posts) post other ∙ h.1,
    )

-- the places behind the new post's
ended_on : (posts : List Post) (post : Post) (place : ℕ) (places : List Ends) → post.place < place → Ended posts place places → Ended (posts ++ post ∷ []) place places
ended_on posts post place [] h e = tt
ended_on posts post place (ends ∷ rest) h e =
    (LeadsTo-append posts (post ∷ []) place ends.first e.0, IsLast-other posts post place ends.last (λ same. omega arith) e.1, ended_on posts post (suc place) rest (omega arith) e.2)

lists_on : (posts : List Post) (post : Post) (place : ℕ) (places : List Ends) → post.place < place → Ended posts place places → lists_from (posts ++ post ∷ []) place places ≡ lists_from posts place places
lists_on posts post place [] h e = refl
lists_on posts post place (ends ∷ rest) h e =
    ap (λ (t : List Request). t ∷ lists_from (posts ++ post ∷ []) (suc place) rest) (sent_from-other posts post place ends.first (λ same. omega arith) e.0)
    ∙ ap (λ (t : List (List Request)). sent_from posts place ends.first ∷ t) (lists_on posts post (suc place) rest (omega arith) e.2)

first_leads : (posts : List Post) (post : Post) (first : Option ℕ) → LeadsTo posts post.place first → place_at (posts ++ post ∷ []) (first_or first (length posts)) ≡ Some post.place
first_leads posts post None h = place_at-end posts post
first_leads posts post (Some index) h = place_at-append posts (post ∷ []) index post.place h

first_sends : (posts : List Post) (post : Post) (first : Option ℕ) → LeadsTo posts post.place first → sent_to post.place (drop (first_or first (length posts)) (posts ++ post ∷ [])) ≡ sent_from posts post.place first ++ post.request ∷ []
first_sends posts post None h =
    ap (λ (t : List Post). sent_to post.place t) (drop-within posts (post ∷ []) (length posts) (omega arith) ∙ ap (λ (t : List Post). t ++ post ∷ []) (drop-all posts))
    ∙ sent_to-here post.place post [] refl
first_sends posts post (Some index) h =
    let inside : index < length posts = place_at-within posts index post.place h in
    ap (λ (t : List Post). sent_to post.place t) (drop-within posts (post ∷ []) index (omega arith))
    ∙ sent_to-append post.place (drop index posts) (post ∷ [])
    ∙ ap (λ (t : List Request). sent_to post.place (drop index posts) ++ t) (sent_to-here post.place post [] refl)

past_end : (posts : List Post) (post : Post) → drop (suc (length posts)) (posts ++ post ∷ []) ≡ []
past_end [] post = refl
past_end (first ∷ rest) post = past_end rest post

-- the new post's place and those behind it
ended_at : (posts : List Post) (post : Post) (from index : ℕ) (places : List Ends) (ends : Ends) → post.place ≡ from + index → index < length places → ends ≡ get_or places index ends → Ended posts from places
    → Ended (posts ++ post ∷ []) from (slice_set places index (extended ends (length posts)))
ended_at posts post from index [] ends at h is e = absurd (omega arith)
ended_at posts post from zero (first ∷ rest) ends at h is e =
    let here : from ≡ post.place = sym (at ∙ add-zero from) in
    let leads : LeadsTo posts post.place ends.first = subst (λ (p : ℕ). LeadsTo posts p ends.first) here (subst (λ (t : Ends). LeadsTo posts from t.first) (sym is) e.0) in (
      first_leads posts post ends.first leads ∙ ap Some (sym here),
      (place_at-end posts post ∙ ap Some (sym here), ap (λ (t : List Post). sent_to from t) (past_end posts post)),
      ended_on posts post (suc from) rest (omega arith) e.2,
    )
ended_at posts post from (suc index) (first ∷ rest) ends at h is e = (
  LeadsTo-append posts (post ∷ []) from first.first e.0,
  IsLast-other posts post from first.last (λ same. omega arith) e.1,
  ended_at posts post (suc from) index rest ends (omega arith) (omega arith) is e.2,
)

lists_at : (posts : List Post) (post : Post) (from index : ℕ) (places : List Ends) (ends : Ends) → post.place ≡ from + index → index < length places → ends ≡ get_or places index ends → Ended posts from places
    → lists_from (posts ++ post ∷ []) from (slice_set places index (extended ends (length posts))) ≡ posted index post.request (lists_from posts from places)
lists_at posts post from index [] ends at h is e = absurd (omega arith)
lists_at posts post from zero (first ∷ rest) ends at h is e =
    let here : from ≡ post.place = sym (at ∙ add-zero from) in
    let same : first ≡ ends = sym is in
    let leads : LeadsTo posts post.place first.first = subst (λ (p : ℕ). LeadsTo posts p first.first) here e.0 in
    ap (λ (t : List (List Request)). sent_to from (drop (first_or ends.first (length posts)) (posts ++ post ∷ [])) ∷ t) (lists_on posts post (suc from) rest (omega arith) e.2)
    ∙ ap (λ (t : List Request). t ∷ lists_from posts (suc from) rest)
    (ap (λ (p : ℕ). sent_to p (drop (first_or ends.first (length posts)) (posts ++ post ∷ []))) here
    ∙ ap (λ (t : Ends). sent_to post.place (drop (first_or t.first (length posts)) (posts ++ post ∷ []))) (sym same)
    ∙ first_sends posts post first.first leads
    ∙ ap (λ (p : ℕ). sent_from posts p first.first ++ post.request ∷ []) (sym here))
lists_at posts post from (suc index) (first ∷ rest) ends at h is e =
    ap (λ (t : List Request). t ∷ lists_from (posts ++ post ∷ []) (suc from) (slice_set rest index (extended ends (length posts)))) (sent_from-other posts post from first.first (λ same. omega arith) e.0)
    ∙ ap (λ (t : List (List Request)). sent_from posts from first.first ∷ t) (lists_at posts post (suc from) index rest ends (omega arith) (omega arith) is e.2)

pub lists-length : (posts : List Post) (from : ℕ) (places : List Ends) → length (lists_from posts from places) ≡ length places
lists-length posts from [] = refl
lists-length posts from (ends ∷ rest) = ap suc (lists-length posts (suc from) rest)

-- ---- the first that waits at a place

pub lists-get : (posts : List Post) (from index : ℕ) (places : List Ends) (other : Ends) → index < length places → waiting_at index (lists_from posts from places) ≡ sent_from posts (from + index) (get_or places index other).first
lists-get posts from index [] other h = absurd (omega arith)
lists-get posts from zero (ends ∷ rest) other h = ap (λ (p : ℕ). sent_from posts p ends.first) (sym (add-zero from))
lists-get posts from (suc index) (ends ∷ rest) other h =
    lists-get posts (suc from) index rest other (omega arith) ∙ ap (λ (p : ℕ). sent_from posts p (get_or rest index other).first) (omega arith)

pub ended-get : (posts : List Post) (from index : ℕ) (places : List Ends) (other : Ends) → index < length places → Ended posts from places → LeadsTo posts (from + index) (get_or places index other).first × IsLast posts (from + index) (get_or places index other).last
ended-get posts from index [] other h e = absurd (omega arith)
ended-get posts from zero (ends ∷ rest) other h e = subst (λ (p : ℕ). LeadsTo posts p ends.first × IsLast posts p ends.last) (sym (add-zero from)) (e.0, e.1)
ended-get posts from (suc index) (ends ∷ rest) other h e =
    subst (λ (p : ℕ). LeadsTo posts p (get_or rest index other).first × IsLast posts p (get_or rest index other).last) (omega arith) (ended-get posts (suc from) index rest other (omega arith) e.2)

-- a place leads on to another of its posts
ended_lead : (posts : List Post) (from index : ℕ) (places : List Ends) (ends : Ends) → ends.last ≡ (get_or places index ends).last → Ended posts from places → LeadsTo posts (from + index) ends.first → Ended posts from (slice_set places index ends)
ended_lead posts from index [] ends same e leads = tt
ended_lead posts from zero (first ∷ rest) ends same e leads =
    (subst (λ (p : ℕ). LeadsTo posts p ends.first) (add-zero from) leads, subst (λ (l : Option ℕ). IsLast posts from l) (sym same) e.1, e.2)
ended_lead posts from (suc index) (first ∷ rest) ends same e leads =
    (e.0, e.1, ended_lead posts (suc from) index rest ends same e.2 (subst (λ (p : ℕ). LeadsTo posts p ends.first) (omega arith) leads))

lists_lead : (posts : List Post) (from index : ℕ) (places : List Ends) (ends : Ends) → lists_from posts from (slice_set places index ends) ≡ slice_set (lists_from posts from places) index (sent_from posts (from + index) ends.first)
lists_lead posts from index [] ends = refl
lists_lead posts from zero (first ∷ rest) ends = ap (λ (p : ℕ). sent_from posts p ends.first ∷ lists_from posts (suc from) rest) (sym (add-zero from))
lists_lead posts from (suc index) (first ∷ rest) ends =
    ap (λ (t : List (List Request)). sent_from posts from first.first ∷ t)
    (lists_lead posts (suc from) index rest ends ∙ ap (λ (p : ℕ). slice_set (lists_from posts (suc from) rest) index (sent_from posts p ends.first)) (omega arith))

-- ---- by a place's own index

pub ended-here : (posts : List Post) (place : ℕ) (places : List Ends) (other : Ends) → place < length places → Ended posts 0 places → LeadsTo posts place (get_or places place other).first × IsLast posts place (get_or places place other).last
ended-here posts place places other h e =
    subst (λ (p : ℕ). LeadsTo posts p (get_or places place other).first × IsLast posts p (get_or places place other).last) (zero-add place) (ended-get posts 0 place places other h e)

lists-here : (posts : List Post) (place : ℕ) (places : List Ends) (other : Ends) → place < length places → waiting_at place (lists_from posts 0 places) ≡ sent_from posts place (get_or places place other).first
lists-here posts place places other h =
    lists-get posts 0 place places other h ∙ ap (λ (p : ℕ). sent_from posts p (get_or places place other).first) (zero-add place)

lead_here : (posts : List Post) (place : ℕ) (places : List Ends) (ends : Ends) → ends.last ≡ (get_or places place ends).last → Ended posts 0 places → LeadsTo posts place ends.first → Ended posts 0 (slice_set places place ends)
lead_here posts place places ends same e leads =
    ended_lead posts 0 place places ends same e (subst (λ (p : ℕ). LeadsTo posts p ends.first) (sym (zero-add place)) leads)

lists_here : (posts : List Post) (place : ℕ) (places : List Ends) (ends : Ends) → lists_from posts 0 (slice_set places place ends) ≡ slice_set (lists_from posts 0 places) place (sent_from posts place ends.first)
lists_here posts place places ends =
    lists_lead posts 0 place places ends ∙ ap (λ (p : ℕ). slice_set (lists_from posts 0 places) place (sent_from posts p ends.first)) (zero-add place)

-- ---- together

-- what holds of the posts, the links and the ends of the places
pub record IsQueue (posts : List Post) (links : List (Option ℕ)) (places : List Ends) : Type 0 where
  pub linked : Linked posts posts links
  pub ended : Ended posts 0 places

pub record IsAppended (posts : List Post) (places : List Ends) (post : Post) (more : List Post) (links : List (Option ℕ)) (now : List Ends) : Type 0 where
  pub linked : Linked more more links
  pub ended : Ended more 0 now
  pub lists : lists_from more 0 now ≡ posted post.place post.request (lists_from posts 0 places)

pub appended : (posts : List Post) (links : List (Option ℕ)) (places : List Ends) (post : Post) (ends : Ends) → IsQueue posts links places → post.place < length places → ends ≡ get_or places post.place ends
    → IsAppended posts places post (posts ++ post ∷ []) (relinked links ends.last (length posts) ++ None ∷ []) (slice_set places post.place (extended ends (length posts)))
appended posts links places post ends q h is = record {
  linked = linked-append posts post links ends.last q.linked (subst (λ (t : Ends). IsLast posts post.place t.last) (sym is) (ended-here posts post.place places ends h q.ended).1);
  ended = ended_at posts post 0 post.place places ends (sym (zero-add post.place)) h is q.ended;
  lists = lists_at posts post 0 post.place places ends (sym (zero-add post.place)) h is q.ended;
}

pub record IsTaken (posts : List Post) (places : List Ends) (place : ℕ) (request : Request) (now : List Ends) : Type 0 where
  pub ended : Ended posts 0 now
  pub lists : lists_from posts 0 now ≡ taken place (lists_from posts 0 places)
  pub front : Some request ≡ front_at place (lists_from posts 0 places)

-- the first post of a place is there
pub first_within : (posts : List Post) (links : List (Option ℕ)) (places : List Ends) (place first : ℕ) (ends : Ends) → IsQueue posts links places → place < length places → ends ≡ get_or places place ends → ends.first ≡ Some first → place_at posts first ≡ Some place
first_within posts links places place first ends q h is waits =
    subst (λ (l : Option ℕ). LeadsTo posts place l) waits (subst (λ (t : Ends). LeadsTo posts place t.first) (sym is) (ended-here posts place places ends h q.ended).0)

waiting_is : (posts : List Post) (links : List (Option ℕ)) (places : List Ends) (place first : ℕ) (ends : Ends) (post : Post) → IsQueue posts links places → place < length places → ends ≡ get_or places place ends → ends.first ≡ Some first → post ≡ get_or posts first post
    → waiting_at place (lists_from posts 0 places) ≡ post.request ∷ sent_to place (drop (suc first) posts)
waiting_is posts links places place first ends post q h is waits reads =
    lists-here posts place places ends h
    ∙ ap (λ (t : Ends). sent_from posts place t.first) (sym is)
    ∙ ap (λ (l : Option ℕ). sent_from posts place l) waits
    ∙ sent_here posts first place post (first_within posts links places place first ends q h is waits)
    ∙ ap (λ (p : Post). p.request ∷ sent_to place (drop (suc first) posts)) (sym reads)

pub front_is : (posts : List Post) (links : List (Option ℕ)) (places : List Ends) (place first : ℕ) (ends : Ends) (post : Post) → IsQueue posts links places → place < length places → ends ≡ get_or places place ends → ends.first ≡ Some first → post ≡ get_or posts first post
    → Some post.request ≡ front_at place (lists_from posts 0 places)
front_is posts links places place first ends post q h is waits reads =
    ap (λ (t : List Request). slice_get t 0) (sym (waiting_is posts links places place first ends post q h is waits reads))

pub took : (posts : List Post) (links : List (Option ℕ)) (places : List Ends) (place first : ℕ) (ends : Ends) (post : Post) (link : Option ℕ) → IsQueue posts links places → place < length places → ends ≡ get_or places place ends → ends.first ≡ Some first → post ≡ get_or posts first post → link ≡ get_or links first link
    → IsTaken posts places place post.request (slice_set places place (record { first = link; last = ends.last }))
took posts links places place first ends post link q h is waits reads led =
    let there : place_at posts first ≡ Some place = first_within posts links places place first ends q h is waits in
    let next = linked-get posts posts links first place link q.linked there in
    let leads : LeadsTo posts place link = subst (λ (l : Option ℕ). LeadsTo posts place l) (sym led) next.0 in
    let sends : sent_from posts place link ≡ sent_to place (drop (suc first) posts) = ap (λ (l : Option ℕ). sent_from posts place l) led ∙ next.1 in
    let later : Ends = record { first = link; last = ends.last } in
    record {
      ended = lead_here posts place places later (ap (λ (t : Ends). t.last) (is ∙ get_or_default places place ends later h)) q.ended leads;
      lists = lists_here posts place places later ∙ ap (λ (t : List Request). slice_set (lists_from posts 0 places) place t) (sends ∙ ap (λ (t : List Request). drop 1 t) (sym (waiting_is posts links places place first ends post q h is waits reads)));
      front = front_is posts links places place first ends post q h is waits reads;
    }

-- where no post waits at a place, its list is empty, and stays
pub record IsIdle (place : ℕ) (lists : List (List Request)) : Type 0 where
  pub front : None ≡ front_at place lists
  pub stays : taken place lists ≡ lists

pub idle : (posts : List Post) (links : List (Option ℕ)) (places : List Ends) (place : ℕ) (ends : Ends) → place < length places → ends ≡ get_or places place ends → ends.first ≡ None → IsIdle place (lists_from posts 0 places)
idle posts links places place ends h is none =
    let waiting : waiting_at place (lists_from posts 0 places) ≡ [] =
    lists-here posts place places ends h ∙ ap (λ (t : Ends). sent_from posts place t.first) (sym is) ∙ ap (λ (l : Option ℕ). sent_from posts place l) none in
    record {
      front = ap (λ (t : List Request). slice_get t 0) (sym waiting);
      stays = ap (λ (t : List Request). slice_set (lists_from posts 0 places) place (drop 1 t)) waiting ∙ set-get (lists_from posts 0 places) place waiting;
    }
  where
    set-get : (lists : List (List Request)) (index : ℕ) → waiting_at index lists ≡ [] → slice_set lists index [] ≡ lists
    set-get [] index e = refl
    set-get (first ∷ rest) zero e = ap (λ (t : List Request). t ∷ rest) (sym e)
    set-get (first ∷ rest) (suc index) e = ap (λ (t : List (List Request)). first ∷ t) (set-get rest index e)

pub lists_none : (count from : ℕ) → lists_from [] from (replicate count (record { first = None; last = None })) ≡ replicate count []
lists_none zero from = refl
lists_none (suc count) from = ap (λ (t : List (List Request)). [] ∷ t) (lists_none count (suc from))

pub ended_none : (count from : ℕ) → Ended [] from (replicate count (record { first = None; last = None }))
ended_none zero from = tt
ended_none (suc count) from = (tt, refl, ended_none count (suc from))

-- ---- as the code has them

abbrev pub queued : List (List Request) → ℕ → Queued
queued lists room = record { lists = lists; room = room }

pub appended_as : (posts : List Post) (links : List (Option ℕ)) (places : List Ends) (post : Post) (ends : Ends) (more : List Post) (leads : List (Option ℕ)) (later : Ends) → IsQueue posts links places → post.place < length places → ends ≡ get_or places post.place ends
    → more ≡ posts ++ post ∷ [] → leads ≡ relinked links ends.last (length posts) ++ None ∷ [] → later ≡ extended ends (length posts)
    → IsAppended posts places post more leads (slice_set places post.place later)
appended_as posts links places post ends more leads later q h is e1 e2 e3 = rw (e1, e2, e3) (appended posts links places post ends q h is)

pub last_within : (posts : List Post) (place : ℕ) (last : Option ℕ) (count : ℕ) → IsLast posts place last → length posts ≡ count → IfSome last (λ index. index < count)
last_within posts place None count h e = tt
last_within posts place (Some index) count h e = omega (arith, place_at-within posts index place h.0)

pub within_places : (posts : List Post) (places : List Ends) (room : ℕ) (seen : Queued) (place : ℕ) → queued (lists_from posts 0 places) room ≡ seen → place < length seen.lists → place < length places
within_places posts places room seen place e h = omega (arith, h, ap (λ (q : Queued). length q.lists) e, lists-length posts 0 places)
