-- A move of a number is possible only where the configuration says what the move needs of it.
use Rattle.std.proofs.Common.{◌≡◌, ℕ, ◌+◌, inl, inr, List, refl, sym, ◌∙◌, ap, arith}
use Rattle.std.specs.Prelude.{Bool, true, false, not, None, Some, nat_eq, if◌then◌else◌}
use Rattle.std.proofs.lemmas.Bool.{cases_lt, cases_eq}
use Rattle.evidence_types.specs.Evidence.{Evidence}
use Rattle.session_model.specs.Value.{Makings}
use Rattle.avm_code.specs.declared.program.Block.{Block as CodeBlock}
use Rattle.session_runs.specs.Configuration.{Configuration, todo, asked, posted, remote, first, left_arm, right_arm, both_arms, finished, once_finished, followed_by}
use Rattle.session_runs.specs.Moves.{Step, Deed, in_block, answer, delivery, Effect, silent, Moved, on_run, on_step, only_if, inside, or_else, own_moves, block_moves, inner_moves}
use Rattle.session_runs.specs.Standing.{Block, of}
use Rattle.session_tables.specs.Found.{View, unseen, asks_for, waits, runs, seen_or, block_view, found}
use Rattle.session_tables.proofs.Starting.{going_or}
use Rattle.session_tables.proofs.Fitting.{IsOver, Fits, if_other, if_same, seen_or_none, outside}

abbrev pub deed_number : Deed → ℕ
deed_number (in_block n step) = n
deed_number (answer n bytes) = n
deed_number (delivery n) = n

-- what is said of a number is what a move of it needs
abbrev pub suits : View → Deed → Bool
suits (asks_for name) (answer n bytes) = true
suits (waits evidence) (delivery n) = true
suits (runs for_request left) (in_block n step) = true
suits _ _ = false

pub none_inside : (whole : Configuration → Configuration) (x : Moved) → x ≡ None → inside whole x ≡ None
none_inside whole x e = ap (λ m. inside whole m) e

pub none_else : (x y : Moved) → x ≡ None → or_else x y ≡ y
none_else x y e = ap (λ m. or_else m y) e

pub else_none : (x y : Moved) → y ≡ None → or_else x y ≡ x
else_none None y e = e
else_none (Some move) y e = refl

-- a move of another number is none of this block
pub other_step : (deed : Deed) (i : ℕ) (moves : Step → Moved) → (deed_number deed ≡ i → ⊥) → on_step deed i moves ≡ None
other_step (in_block n step) i moves ne = if_other Moved n i (moves step) None ne
other_step (answer n bytes) i moves ne = refl
other_step (delivery n) i moves ne = refl

-- a block that is over has no moves
over_none : (c : Configuration) (ended : Bool) (whole : Configuration → Bool → Configuration) (moves : Step → Moved) (step : Step) → ended ≡ true → IsOver ended c → block_moves c ended whole moves step ≡ None
over_none c false whole moves step e over = absurd (cc)
over_none c true whole moves step e over = elim (going_or c) [
  | inl going ↦ absurd (over going)
  | inr w ↦ ap (λ d. once_finished d (inside (λ after. whole after true) (moves step)) (λ result. only_if (not true) (on_run step silent (whole (finished result) true)))) w.1
]

-- what is said of a block doesn't suit a move of it: then it isn't its step, or the block is over
block_none : (for_request : Bool) (c : Configuration) (ended : Bool) (deed : Deed) (i : ℕ) (whole : Configuration → Bool → Configuration) (moves : Step → Moved) → IsOver ended c → deed_number deed ≡ i → suits (block_view for_request c ended) deed ≡ false → on_step deed i (block_moves c ended whole moves) ≡ None
block_none for_request c false (in_block n step) i whole moves over e h = absurd (cc)
block_none for_request c true (in_block n step) i whole moves over e h =
    if_same Moved n i (block_moves c true whole moves step) None e ∙ over_none c true whole moves step refl over
block_none for_request c ended (answer n bytes) i whole moves over e h = refl
block_none for_request c ended (delivery n) i whole moves over e h = refl

pub suits_none : (v : View) (deed : Deed) → v ≡ unseen → suits v deed ≡ false
suits_none v (in_block n step) e = ap (λ w. suits w (in_block n step)) e
suits_none v (answer n bytes) e = ap (λ w. suits w (answer n bytes)) e
suits_none v (delivery n) e = ap (λ w. suits w (delivery n)) e

asked_none : (name : Block) (n i : ℕ) (bytes : List ℕ) (m : Effect × Configuration) → suits (if nat_eq n i then asks_for name else unseen) (answer n bytes) ≡ false → ◌≡◌ {A = Moved} (if nat_eq n i then Some m else None) None
asked_none name n i bytes m = split (nat_eq n i)
  where
    split : (b : Bool) → suits (if b then asks_for name else unseen) (answer n bytes) ≡ false → ◌≡◌ {A = Moved} (if b then Some m else None) None
    split true h = absurd (cc)
    split false h = refl

posted_none : (before : Evidence) (n i : ℕ) (m : Effect × Configuration) → suits (if nat_eq n i then waits before else unseen) (delivery n) ≡ false → ◌≡◌ {A = Moved} (if nat_eq n i then Some m else None) None
posted_none before n i m = split (nat_eq n i)
  where
    split : (b : Bool) → suits (if b then waits before else unseen) (delivery n) ≡ false → ◌≡◌ {A = Moved} (if b then Some m else None) None
    split true h = absurd (cc)
    split false h = refl

-- a configuration has no move of a number of which it says nothing that suits it
pub no_deed : (all : List CodeBlock) (from : Makings) (name : Block) (place : List ℕ) (c : Configuration) (low high : ℕ) (deed : Deed) → Fits all place c low high → suits (found name c (deed_number deed)) deed ≡ false → inner_moves from place c deed ≡ None
no_deed all from name place (todo phrase i before) low high deed h e = refl
no_deed all from name place (asked form i before) low high (in_block n step) h e = refl
no_deed all from name place (asked form i before) low high (answer n bytes) h e = asked_none name n i bytes _ e
no_deed all from name place (asked form i before) low high (delivery n) h e = refl
no_deed all from name place (posted asked_place i body before) low high (in_block n step) h e = refl
no_deed all from name place (posted asked_place i body before) low high (answer n bytes) h e = refl
no_deed all from name place (posted asked_place i body before) low high (delivery n) h e = posted_none before n i _ e
no_deed all from name place (remote asked_place i last inner ended) low high deed h e = elim (cases_eq (deed_number deed) i) [
  | inl is ↦
      let below : inner_moves from asked_place inner deed ≡ None = no_deed all from (of i) asked_place inner (i + 1) last deed h.4 (suits_none (found (of i) inner (deed_number deed)) deed (outside all (of i) asked_place inner (i + 1) last (deed_number deed) h.4 (λ le. omega (arith, is, le)))) in
      let mine : on_step deed i (block_moves inner ended (λ after over. remote asked_place i last after over) (own_moves from asked_place inner)) ≡ None = block_none true inner ended deed i (λ after over. remote asked_place i last after over) (own_moves from asked_place inner) h.3 is (ap (λ v. suits v deed) (sym (if_same View (deed_number deed) i (block_view true inner ended) (found (of i) inner (deed_number deed)) is)) ∙ e) in
      none_else (inside (λ after. remote asked_place i last after ended) (inner_moves from asked_place inner deed)) _ (none_inside (λ after. remote asked_place i last after ended) (inner_moves from asked_place inner deed) below) ∙ mine
  | inr ne ↦
      let below : inner_moves from asked_place inner deed ≡ None = no_deed all from (of i) asked_place inner (i + 1) last deed h.4 (ap (λ v. suits v deed) (sym (if_other View (deed_number deed) i (block_view true inner ended) (found (of i) inner (deed_number deed)) ne)) ∙ e) in
      none_else (inside (λ after. remote asked_place i last after ended) (inner_moves from asked_place inner deed)) _ (none_inside (λ after. remote asked_place i last after ended) (inner_moves from asked_place inner deed) below) ∙ other_step deed i (block_moves inner ended (λ after over. remote asked_place i last after over) (own_moves from asked_place inner)) ne
]
no_deed all from name place (first inner right i) low high deed h e =
    none_inside (λ after. followed_by after right i) (inner_moves from place inner deed) (no_deed all from name place inner low i deed h.4 e)
no_deed all from name place (left_arm inner right i before last) low high deed h e =
    none_inside (λ after. left_arm after right i before last) (inner_moves from place inner deed) (no_deed all from name place inner low i deed h.4 e)
no_deed all from name place (right_arm left_result inner last) low high deed h e =
    none_inside (λ after. right_arm left_result after last) (inner_moves from place inner deed) (no_deed all from name place inner low last deed h.1 e)
no_deed all from name place (both_arms i last left right ended) low high deed h e = elim (cases_eq (deed_number deed) i) [
  | inl is ↦
      let in_left : inner_moves from place left deed ≡ None = no_deed all from name place left (i + 1) h.4.0 deed h.4.3 (suits_none (found name left (deed_number deed)) deed (outside all name place left (i + 1) h.4.0 (deed_number deed) h.4.3 (λ le. omega (arith, is, le)))) in
      let in_right : inner_moves from place right deed ≡ None = no_deed all from (of i) place right h.4.0 last deed h.4.4 (suits_none (found (of i) right (deed_number deed)) deed (outside all (of i) place right h.4.0 last (deed_number deed) h.4.4 (λ le. omega (arith, is, le, h.4.1)))) in
      let mine : on_step deed i (block_moves right ended (λ after over. both_arms i last left after over) (own_moves from place right)) ≡ None = block_none false right ended deed i (λ after over. both_arms i last left after over) (own_moves from place right) h.3 is (ap (λ v. suits v deed) (sym (if_same View (deed_number deed) i (block_view false right ended) (seen_or (found name left (deed_number deed)) (found (of i) right (deed_number deed))) is)) ∙ e) in
      none_both in_left in_right mine
  | inr ne ↦
      let seen : suits (seen_or (found name left (deed_number deed)) (found (of i) right (deed_number deed))) deed ≡ false = ap (λ v. suits v deed) (sym (if_other View (deed_number deed) i (block_view false right ended) (seen_or (found name left (deed_number deed)) (found (of i) right (deed_number deed))) ne)) ∙ e in
      let mine : on_step deed i (block_moves right ended (λ after over. both_arms i last left after over) (own_moves from place right)) ≡ None = other_step deed i (block_moves right ended (λ after over. both_arms i last left after over) (own_moves from place right)) ne in
      elim (cases_lt (deed_number deed) h.4.0) [
        | inl below ↦
            let unseen_right : found (of i) right (deed_number deed) ≡ unseen = outside all (of i) place right h.4.0 last (deed_number deed) h.4.4 (λ le. omega (arith, below, le)) in
            let in_left : inner_moves from place left deed ≡ None = no_deed all from name place left (i + 1) h.4.0 deed h.4.3 (ap (λ v. suits v deed) (sym (ap (λ v. seen_or (found name left (deed_number deed)) v) unseen_right ∙ seen_or_none (found name left (deed_number deed)))) ∙ seen) in
            let in_right : inner_moves from place right deed ≡ None = no_deed all from (of i) place right h.4.0 last deed h.4.4 (suits_none (found (of i) right (deed_number deed)) deed unseen_right) in
            none_both in_left in_right mine
        | inr above ↦
            let unseen_left : found name left (deed_number deed) ≡ unseen = outside all name place left (i + 1) h.4.0 (deed_number deed) h.4.3 (λ le. above) in
            let in_left : inner_moves from place left deed ≡ None = no_deed all from name place left (i + 1) h.4.0 deed h.4.3 (suits_none (found name left (deed_number deed)) deed unseen_left) in
            let in_right : inner_moves from place right deed ≡ None = no_deed all from (of i) place right h.4.0 last deed h.4.4 (ap (λ v. suits v deed) (sym (ap (λ v. seen_or v (found (of i) right (deed_number deed))) unseen_left)) ∙ seen) in
            none_both in_left in_right mine
      ]
]
  where
    none_both : inner_moves from place left deed ≡ None → inner_moves from place right deed ≡ None → on_step deed i (block_moves right ended (λ after over. both_arms i last left after over) (own_moves from place right)) ≡ None → inner_moves from place (both_arms i last left right ended) deed ≡ None
    none_both a b m =
        none_else (inside (λ after. both_arms i last after right ended) (inner_moves from place left deed)) _ (none_inside (λ after. both_arms i last after right ended) (inner_moves from place left deed) a)
        ∙ none_else (inside (λ after. both_arms i last left after ended) (inner_moves from place right deed)) _ (none_inside (λ after. both_arms i last left after ended) (inner_moves from place right deed) b)
        ∙ m
no_deed all from name place (finished result) low high deed h e = refl
