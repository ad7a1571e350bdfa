-- The lines that one walk down the phrase gives are those of the event list, each with the direct
-- predecessors of its number.
use Rattle.std.proofs.Common.{◌≡◌, ◌+◌, ◌-◌, ◌≤◌, ◌<◌, ◌++◌, ℕ, List, [], ◌∷◌, Option, Some, None, refl, ap, ◌∙◌, sym, append_assoc, arith, codes, decimal, eqb, ltb, cond}
use Rattle.std.proofs.lemmas.Bool.{cond-true, cond-false, ne_eqb, eq-eqb, lt-ltb, le-ltb}
use Rattle.std.proofs.lemmas.List.{append-nil}
use Rattle.phrase_tree.specs.Term.{Term, leaf, at, chain, seq, par}
use Rattle.phrase_tree.specs.Numbering.{event_count}
use Rattle.phrase_tree.specs.Events.{Event, requests, replies, splits, joins, event, events_of, leaf_kind}
use Rattle.event_system.specs.declared.direct.Needs.{Needs}
use Rattle.event_system.specs.Needs.{only, needs_behind, needs_of}
use Rattle.report_text.specs.Events.{event_line, event_lines, events_text}
use Rattle.report_text.specs.Walk.{lines_behind}

-- a phrase has an event
some_event : (phrase : Term) → 0 < event_count phrase
some_event (leaf form) = omega arith
some_event (at asked body) = omega arith
some_event (chain left right) = omega (arith, some_event left)
some_event (seq split left right) = omega arith
some_event (par split left right) = omega arith

-- the needs of each event of a part of a phrase that starts at `i`
record Gives (needs : ℕ → Needs) (entry : Option ℕ) (phrase : Term) (i : ℕ) : Type 0 where
  each : (y : ℕ) → i ≤ y → y < i + event_count phrase → needs y ≡ needs_behind entry phrase i y

lines_joined : (needs : ℕ → Needs) (front back : List Event) → event_lines needs (front ++ back) ≡ event_lines needs front ++ event_lines needs back
lines_joined needs [] back = refl
lines_joined needs (first ∷ front) back =
    ap (λ l. event_line first (needs first.number) ++ l) (lines_joined needs front back)
    ∙ sym (append_assoc (event_line first (needs first.number)) (event_lines needs front) (event_lines needs back))

one_line : (needs : ℕ → Needs) (happened : Event) (own : Needs) → needs happened.number ≡ own → event_line happened own ≡ event_lines needs (happened ∷ [])
one_line needs happened own e = ap (event_line happened) (sym e) ∙ sym (append-nil (event_line happened (needs happened.number)))

-- an event, what is inside, and an event
framed_lines : (needs : ℕ → Needs) (first last : Event) (first_needs last_needs : Needs) (inside : List Event) (lines : List ℕ) → needs first.number ≡ first_needs → needs last.number ≡ last_needs → lines ≡ event_lines needs inside → event_line first first_needs ++ (lines ++ event_line last last_needs) ≡ event_lines needs (first ∷ (inside ++ last ∷ []))
framed_lines needs first last first_needs last_needs inside lines f l e =
    ap (λ n. event_line first n ++ (lines ++ event_line last last_needs)) (sym f)
    ∙ ap (λ t. event_line first (needs first.number) ++ t)
    (ap (λ t. t ++ event_line last last_needs) e
    ∙ (ap (λ t. event_lines needs inside ++ t) (one_line needs last last_needs l)
    ∙ sym (lines_joined needs inside (last ∷ []))))

-- an event, two parts, and an event
armed_lines : (needs : ℕ → Needs) (first last : Event) (first_needs last_needs : Needs) (left right : List Event) (left_lines right_lines : List ℕ) → needs first.number ≡ first_needs → needs last.number ≡ last_needs → left_lines ≡ event_lines needs left → right_lines ≡ event_lines needs right → event_line first first_needs ++ (left_lines ++ (right_lines ++ event_line last last_needs)) ≡ event_lines needs (first ∷ ((left ++ right) ++ last ∷ []))
armed_lines needs first last first_needs last_needs left right left_lines right_lines f e l r =
    ap (λ n. event_line first n ++ (left_lines ++ (right_lines ++ event_line last last_needs))) (sym f)
    ∙ ap (λ t. event_line first (needs first.number) ++ t)
    (ap (λ t. t ++ (right_lines ++ event_line last last_needs)) l
    ∙ (ap (λ t. event_lines needs left ++ (t ++ event_line last last_needs)) r
    ∙ (ap (λ t. event_lines needs left ++ (event_lines needs right ++ t)) (one_line needs last last_needs e)
    ∙ (ap (λ t. event_lines needs left ++ t) (sym (lines_joined needs right (last ∷ [])))
    ∙ (sym (lines_joined needs left (right ++ last ∷ []))
    ∙ ap (event_lines needs) (sym (append_assoc left right (last ∷ []))))))))

-- a choice between the first, the inside and the last of a range
at_first : (y i m : ℕ) (a b c : Needs) → y ≡ i → cond (eqb y i) a (cond (ltb y m) b c) ≡ a
at_first y i m a b c e = cond-true (eqb y i) a (cond (ltb y m) b c) (eq-eqb y i e)

at_inside : (y i m : ℕ) (a b c : Needs) → i < y → y < m → cond (eqb y i) a (cond (ltb y m) b c) ≡ b
at_inside y i m a b c low high =
    cond-false (eqb y i) a (cond (ltb y m) b c) (ne_eqb y i (λ e. omega (arith, e, low)))
    ∙ cond-true (ltb y m) b c (lt-ltb y m high)

at_last : (y i m : ℕ) (a b c : Needs) → i < y → m ≤ y → cond (eqb y i) a (cond (ltb y m) b c) ≡ c
at_last y i m a b c low high =
    cond-false (eqb y i) a (cond (ltb y m) b c) (ne_eqb y i (λ e. omega (arith, e, low)))
    ∙ cond-false (ltb y m) b c (le-ltb y m high)

in_left : (y m : ℕ) (a b : Needs) → y < m → cond (ltb y m) a b ≡ a
in_left y m a b h = cond-true (ltb y m) a b (lt-ltb y m h)

in_right : (y m : ℕ) (a b : Needs) → m ≤ y → cond (ltb y m) a b ≡ b
in_right y m a b h = cond-false (ltb y m) a b (le-ltb y m h)

only_at : (m n : ℕ) → m ≡ n → only (Some m) ≡ only (Some n)
only_at m n e = ap (λ k. only (Some k)) e

walk_is : (needs : ℕ → Needs) (entry : Option ℕ) (phrase : Term) (place : List ℕ) (i : ℕ) → Gives needs entry phrase i → lines_behind entry phrase place i ≡ event_lines needs (events_of phrase place i)
walk_is needs entry (leaf form) place i g = one_line needs (event i (leaf_kind form) place) (only entry) (g.each i (omega arith) (omega arith))
walk_is needs entry (at asked body) place i g =
    let count = event_count body in
    let m = i + 1 + count in
    let a = only entry in
    let b : ℕ → Needs = λ y. needs_behind (Some i) body (i + 1) y in
    let c = only (Some (i + count)) in
    framed_lines needs (event i (requests asked) place) (event m (replies asked) place) a (only (Some (m - 1))) (events_of body asked (i + 1)) (lines_behind (Some i) body asked (i + 1))
    (g.each i (omega arith) (omega arith) ∙ at_first i i m a (b i) c refl)
    (g.each m (omega arith) (omega arith) ∙ (at_last m i m a (b m) c (omega arith) (omega arith) ∙ only_at (i + count) (m - 1) (omega arith)))
    (walk_is needs (Some i) body asked (i + 1) (record { each = λ y low high. g.each y (omega (arith, low)) (omega (arith, high)) ∙ at_inside y i m a (b y) c (omega (arith, low)) (omega (arith, high)) }))
walk_is needs entry (chain left right) place i g =
    let middle = i + event_count left in
    let a : ℕ → Needs = λ y. needs_behind entry left i y in
    let b : ℕ → Needs = λ y. needs_behind (Some (middle - 1)) right middle y in
    ap (λ t. t ++ lines_behind (Some (middle - 1)) right place middle)
    (walk_is needs entry left place i (record { each = λ y low high. g.each y (omega (arith, low)) (omega (arith, high)) ∙ in_left y middle (a y) (b y) (omega (arith, high)) }))
    ∙ (ap (λ t. event_lines needs (events_of left place i) ++ t)
    (walk_is needs (Some (middle - 1)) right place middle (record { each = λ y low high. g.each y (omega (arith, low)) (omega (arith, high)) ∙ in_right y middle (a y) (b y) (omega (arith, low)) }))
    ∙ sym (lines_joined needs (events_of left place i) (events_of right place middle)))
walk_is needs entry (seq split left right) place i g =
    let l = event_count left in
    let r = event_count right in
    let middle = i + 1 + l in
    let m = i + 1 + (l + r) in
    let last = i + 1 + l + r in
    let a = only entry in
    let b : ℕ → Needs = λ y. needs_behind (Some i) left (i + 1) y in
    let d : ℕ → Needs = λ y. needs_behind (Some (middle - 1)) right middle y in
    let c = only (Some (i + (l + r))) in
    armed_lines needs (event i splits place) (event last joins place) a (only (Some (last - 1))) (events_of left place (i + 1)) (events_of right place middle) (lines_behind (Some i) left place (i + 1)) (lines_behind (Some (middle - 1)) right place middle)
    (g.each i (omega arith) (omega arith) ∙ at_first i i m a (cond (ltb i middle) (b i) (d i)) c refl)
    (g.each last (omega arith) (omega arith) ∙ (at_last last i m a (cond (ltb last middle) (b last) (d last)) c (omega arith) (omega arith) ∙ only_at (i + (l + r)) (last - 1) (omega arith)))
    (walk_is needs (Some i) left place (i + 1) (record { each = λ y low high. g.each y (omega (arith, low)) (omega (arith, high)) ∙ (at_inside y i m a (cond (ltb y middle) (b y) (d y)) c (omega (arith, low)) (omega (arith, high, some_event right)) ∙ in_left y middle (b y) (d y) (omega (arith, high))) }))
    (walk_is needs (Some (middle - 1)) right place middle (record { each = λ y low high. g.each y (omega (arith, low)) (omega (arith, high)) ∙ (at_inside y i m a (cond (ltb y middle) (b y) (d y)) c (omega (arith, low)) (omega (arith, high)) ∙ in_right y middle (b y) (d y) (omega (arith, low))) }))
walk_is needs entry (par split left right) place i g =
    let l = event_count left in
    let r = event_count right in
    let middle = i + 1 + l in
    let m = i + 1 + (l + r) in
    let last = i + 1 + l + r in
    let a = only entry in
    let b : ℕ → Needs = λ y. needs_behind (Some i) left (i + 1) y in
    let d : ℕ → Needs = λ y. needs_behind (Some i) right middle y in
    let both : ℕ → ℕ → Needs = λ x y. record { first = Some x; second = Some y } in
    armed_lines needs (event i splits place) (event last joins place) a (both (middle - 1) (last - 1)) (events_of left place (i + 1)) (events_of right place middle) (lines_behind (Some i) left place (i + 1)) (lines_behind (Some i) right place middle)
    (g.each i (omega arith) (omega arith) ∙ at_first i i m a (cond (ltb i middle) (b i) (d i)) (both (i + l) (i + (l + r))) refl)
    (g.each last (omega arith) (omega arith) ∙ (at_last last i m a (cond (ltb last middle) (b last) (d last)) (both (i + l) (i + (l + r))) (omega arith) (omega arith) ∙ (ap (λ x. both x (i + (l + r))) (omega arith) ∙ ap (both (middle - 1)) (omega arith))))
    (walk_is needs (Some i) left place (i + 1) (record { each = λ y low high. g.each y (omega (arith, low)) (omega (arith, high)) ∙ (at_inside y i m a (cond (ltb y middle) (b y) (d y)) (both (i + l) (i + (l + r))) (omega (arith, low)) (omega (arith, high, some_event right)) ∙ in_left y middle (b y) (d y) (omega (arith, high))) }))
    (walk_is needs (Some i) right place middle (record { each = λ y low high. g.each y (omega (arith, low)) (omega (arith, high)) ∙ (at_inside y i m a (cond (ltb y middle) (b y) (d y)) (both (i + l) (i + (l + r))) (omega (arith, low)) (omega (arith, high)) ∙ in_right y middle (b y) (d y) (omega (arith, low))) }))

whole_walk : (phrase : Term) (place : List ℕ) → lines_behind None phrase place 0 ≡ event_lines (needs_of phrase) (events_of phrase place 0)
whole_walk phrase place =
    walk_is (needs_of phrase) None phrase place 0
    (record { each = λ y low high. in_left y (event_count phrase) (needs_behind None phrase 0 y) (only None) (omega (arith, high)) })

pub report_is : (session : ℕ) (phrase : Term) (place : List ℕ) → codes "session " ++ (decimal session ++ (codes " events " ++ (decimal (event_count phrase) ++ (10 ∷ lines_behind None phrase place 0)))) ≡ events_text session phrase place
report_is session phrase place =
    ap (λ lines. codes "session " ++ (decimal session ++ (codes " events " ++ (decimal (event_count phrase) ++ (10 ∷ lines))))) (whole_walk phrase place)
