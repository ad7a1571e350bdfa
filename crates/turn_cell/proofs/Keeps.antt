-- Each kind of step keeps the rule.
use Rattle.std.proofs.Common.{◌≡◌, ◌≢◌, ℕ, suc, zero, ◌+◌, ◌-◌, ◌*◌, ◌<◌, ◌≤◌, ◌⊎◌, inl, inr, true, false, eq-eqb, ne_eqb, List, [], ◌∷◌, ◌++◌, length, get_or, set, length-set, length-append, refl, sym, ap, ◌∙◌, subst, arith}
use mathlib.Core.Option.{none, some, some-injective, some-ne-none}
use mathlib.Core.Option as maybe
use native.Mathlib.Decide.{ℕ_discrete}
use lib.ListN.{get_elem?}
use Rattle.std.specs.Prelude.{Option, Some}
use Rattle.std.specs.Int.Bits.{bit_or}
use Rattle.atomic_table.specs.Table.{State, Me, step, keeps, takes, gives, stepped, Act, Valid, carried_after, Allows, Splits, opening}
use Rattle.turn_cell.specs.declared.chronicle.Entry.{Entry}
use Rattle.turn_cell.specs.declared.pass.Known.{Known}
use Rattle.turn_cell.specs.History.{IsOpening, opening_of, made_by, Continues, own, Extends}
use Rattle.turn_cell.specs.Rule.{Turn, free, worn_out, held, last_number, IsTaking, word_of, InRange, is_turn_of, WhileHeld, EachPass, IsMaker, Numbered, InHand, Begins, Sees, total_takings, Counted, IsNewest, AtHome, Rule, Ruled}
use Rattle.turn_cell.specs.Steps.{word_after, maker, after_one_more, newcomer, after_winning, after_losing, after_giving, Wins, Misses, tried, gave}
use Rattle.turn_cell.proofs.Histories.{others_behind, opening_of_none, begins_alike, continues_itself, continues_longer, others_stay, own_grow}
use Rattle.turn_cell.proofs.Views.{at_below, each_set, each_more, first_stays, total_set, total_more}
use Rattle.turn_cell.proofs.Words.{odd_from_even, odd_from_odd, even_rest, odd_rest, even_half, odd_half, IsOff, off_not, off_nobodys, off_held, held_map, held_both}

true_not_false : true ≡ false → ⊥
true_not_false e = cc

module _ (O I : Type 0) where
  -- a history that the pass of this number may have made longer
  record Grows (number : ℕ) (before after : List (Entry O I)) : Type 0 where
    longer : (seen : List (Entry O I)) → Continues seen before → Continues seen after
    others : (n : ℕ) → n ≢ number → made_by n after ≡ made_by n before

  stays : (number : ℕ) (history : List (Entry O I)) → Grows number history history
  stays number history = record { longer = λ seen c. c; others = λ n ne. refl }

  grows : (number : ℕ) (before after : List (Entry O I)) → Extends number before after → Grows number before after
  grows number before after x = record { longer = λ seen c. continues_longer O I seen before after number c x; others = λ n ne. others_stay O I n number before after (λ e. ne (sym e)) x }

  module _ (views : List (Known O I)) (k : ℕ) (v w : Known O I) (at : get_elem? views (suc k) ≡ some v) where
    numbered_set : (opening before after : List (Entry O I)) → Grows k before after → w.makes ≡ false → w.number ≡ k → Numbered opening before views → Numbered opening after (set views (suc k) w)
    numbered_set opening before after g pass is r = record {
      maker = λ u first. let m = r.maker u (first_stays O I views k u w first) in
          record { makes = m.makes; count = m.count ∙ sym (length-set views (suc k) w); seen = m.seen; takings = m.takings };
      each = each_set O I views (λ n u. (u.makes ≡ false) × (u.number ≡ n)) (λ n u. (u.makes ≡ false) × (u.number ≡ n)) k w r.each (λ n u ne p. p) (pass, is);
      later = λ n far. let below = at_below views (suc k) v at in let long = length-set views (suc k) w in let far' : length views ≤ suc n = omega arith in
          g.others n (λ e. omega arith) ∙ r.later n far';
    }

    sees_set : (opening before after : List (Entry O I)) → Grows k before after → Sees opening after k w → EachPass views (Sees opening before) → EachPass (set views (suc k) w) (Sees opening after)
    sees_set opening before after g here each = each_set O I views (Sees opening before) (Sees opening after) k w each
        (λ n u ne p. record { begins = p.begins; seen = g.longer u.seen p.seen; own = p.own; mine = p.mine ∙ sym (g.others n ne) }) here

    counted_set : (t t' : ℕ) → t ≤ t' → w.takings + t ≡ v.takings + t' → w.last ≤ t' → w.met ≤ t' → Counted t views → Counted t' (set views (suc k) w)
    counted_set t t' more sum last met r = record {
      total = let a : ℕ = total_takings (set views (suc k) w) in let b : ℕ = total_takings views in let h : a + v.takings ≡ b + w.takings = total_set O I views (suc k) v w at in let b' : b ≡ t = r.total in omega arith;
      known = each_set O I views (λ n u. (u.last ≤ t) × (u.met ≤ t)) (λ n u. (u.last ≤ t') × (u.met ≤ t')) k w r.known
          (λ n u ne p. let p' : (u.last ≤ t) × (u.met ≤ t) = p in (omega arith, omega arith)) (last, met);
    }

    holder_set : (turn turn' : Turn) → ((n : ℕ) → n ≢ k → is_turn_of turn n ≡ is_turn_of turn' n) → w.holds ≡ is_turn_of turn' k → EachPass views (λ n u. u.holds ≡ is_turn_of turn n) → EachPass (set views (suc k) w) (λ n u. u.holds ≡ is_turn_of turn' n)
    holder_set turn turn' same here each = each_set O I views (λ n u. u.holds ≡ is_turn_of turn n) (λ n u. u.holds ≡ is_turn_of turn' n) k w each (λ n u ne p. p ∙ same n ne) here

  module _ (S : Type 0) (history_of : S → List (Entry O I)) where
    abbrev St : Type 0
    St = State (Option S) (Known O I)

    abbrev Sat : Type 0
    Sat = Me (Option S) (Known O I)

    -- what a step that finds the number f owes, where it makes the word odd
    abbrev Tries : List (Entry O I) → ℕ → St → ℕ → Sat → ℕ → Type 0
    Tries opening slots s k m f = (w : Known O I) × (a : Act (Option S)) × Valid s.homes m.1 a × Ruled history_of opening (stepped s 0 (bit_or f 1) (suc k) m.1 w a)
        × tried history_of (step slots 0 1 0 none) m f (w, carried_after m.1 a)

    loses : (opening : List (Entry O I)) (slots k : ℕ) (m : Sat) (s : St) (history : List (Entry O I)) (t : ℕ) (turn : Turn) → Rule history_of opening history t turn s → get_elem? s.views (suc k) ≡ some m.0 → word_of t turn ≡ 2 * t - 1 → IsTaking t
        → (m.0.last < t) ⊎ (t ≡ last_number) → Tries opening slots s k m (get_or s.words 0 0)
    loses opening slots k m s history t turn r at odd range later =
        let pos : 0 < t = range.0 in
        let w : Known O I = after_losing m.0 t in
        let found : get_or s.words 0 0 ≡ 2 * t - 1 = ap (λ (ws : List ℕ). get_or ws 0 0) r.one_turn.word ∙ odd in
        let mine = r.numbered.each k m.0 at in
        let keep : (P : ℕ → Known O I → Type 0) → (P k m.0 → P k w) → EachPass s.views P → EachPass (set s.views (suc k) w) P = λ P here each. each_set O I s.views P P k w each (λ n u ne p. p) (here (each k m.0 at)) in
        subst (Tries opening slots s k m) (sym found) (
          w,
          keeps,
          tt,
          (
            history,
            t,
            turn,
            record {
              numbered = numbered_set s.views k m.0 w at opening history history (stays k history) mine.0 mine.1 r.numbered;
              one_turn = record {
                word = ap (λ (ws : List ℕ). set ws 0 (bit_or (2 * t - 1) 1)) r.one_turn.word ∙ ap (λ (n : ℕ). n ∷ []) (odd_from_odd t pos ∙ sym odd);
                range = r.one_turn.range;
                holder = keep (λ n u. u.holds ≡ is_turn_of turn n) (λ p. p) r.one_turn.holder;
                made = held_map turn (λ n. suc n < length s.views) (λ n. suc n < length (set s.views (suc k) w)) (λ n below. let long = length-set s.views (suc k) w in omega arith) r.one_turn.made;
              };
              at_home = r.at_home;
              in_hand = held_map turn (InHand history s.homes s.views) (InHand history s.homes (set s.views (suc k) w)) (λ n p. record { out = p.out; got = keep (λ j u. j ≡ n → u.got ≡ history) (λ q. q) p.got }) r.in_hand;
              begins = r.begins;
              sees = keep (Sees opening history) (λ p. record { begins = p.begins; seen = p.seen; own = p.own; mine = p.mine }) r.sees;
              counted = counted_set s.views k m.0 w at t t (omega arith) refl ((r.counted.known k m.0 at).0) (let e : t ≤ t = omega arith in e) r.counted;
              newest = held_map turn (IsNewest t s.views) (IsNewest t (set s.views (suc k) w))
                  (λ n p. record { own = keep (λ j u. j ≡ n → u.last ≡ t) (λ q. q) p.own; others = keep (λ j u. j ≢ n → u.last < t) (λ q. q) p.others }) r.newest;
            },
          ),
          (
            (λ even. absurd (odd_rest t pos even)),
            (λ _. let P : ℕ → Type 0 = λ z. Misses history_of m (w, m.1) z in subst P (sym (odd_half t pos)) record { hand = refl; view = refl; is_taking = range; later = later }),
          ),
        )

    wins : (opening : List (Entry O I)) (slots k : ℕ) (m : Sat) (s : St) (history : List (Entry O I)) (t : ℕ) → Rule history_of opening history t free s → get_elem? s.views (suc k) ≡ some m.0 → Tries opening slots s k m (get_or s.words 0 0)
    wins opening slots k m s history t r at =
        let home = r.at_home in
        let w : Known O I = after_winning m.0 (history_of home.state) (t + 1) in
        let found : get_or s.words 0 0 ≡ 2 * t = ap (λ (ws : List ℕ). get_or ws 0 0) r.one_turn.word in
        let mine = r.numbered.each k m.0 at in
        let knows : (m.0.last ≤ t) × (m.0.met ≤ t) = r.counted.known k m.0 at in
        let last : m.0.last ≤ t = knows.0 in
        let met : m.0.met ≤ t = knows.1 in
        let range : t < last_number = r.one_turn.range in
        subst (Tries opening slots s k m) (sym found) (
          w,
          takes 0 (Some home.state),
          ap (λ (hs : List (maybe.Option (Option S))). get_elem? hs 0) home.is_home,
          (
            history,
            t + 1,
            held k,
            record {
              numbered = numbered_set s.views k m.0 w at opening history history (stays k history) mine.0 mine.1 r.numbered;
              one_turn = record {
                word = ap (λ (ws : List ℕ). set ws 0 (bit_or (2 * t) 1)) r.one_turn.word ∙ ap (λ (n : ℕ). n ∷ []) (odd_from_even t);
                range = (omega arith, omega arith);
                holder = holder_set s.views k m.0 w at free (held k) (λ n ne. sym (ne_eqb n k ne)) (sym (eq-eqb k k refl)) r.one_turn.holder;
                made = let below = at_below s.views (suc k) m.0 at in let long = length-set s.views (suc k) w in omega arith;
              };
              at_home = tt;
              in_hand = record {
                out = ap (λ (hs : List (maybe.Option (Option S))). set hs 0 none) home.is_home;
                got = each_set O I s.views (Sees opening history) (λ n u. n ≡ k → u.got ≡ history) k w r.sees (λ n u ne p e. absurd (ne e)) (λ _. home.history_is);
              };
              begins = r.begins;
              sees = sees_set s.views k m.0 w at opening history history (stays k history) (let p = r.sees k m.0 at in record { begins = p.begins; seen = p.seen; own = p.own; mine = p.mine }) r.sees;
              counted = counted_set s.views k m.0 w at t (t + 1) (omega arith) (omega arith) (let e : t + 1 ≤ t + 1 = omega arith in e) (omega arith) r.counted;
              newest = record {
                own = each_set O I s.views (Sees opening history) (λ n u. n ≡ k → u.last ≡ t + 1) k w r.sees (λ n u ne p e. absurd (ne e)) (λ _. refl);
                others = each_set O I s.views (λ n u. (u.last ≤ t) × (u.met ≤ t)) (λ n u. n ≢ k → u.last < t + 1) k w r.counted.known (λ n u ne p ne'. let p' : u.last ≤ t = p.0 in omega arith) (λ ne. absurd (ne refl));
              };
            },
          ),
          (
            (λ _. let P : ℕ → Type 0 = λ z. Wins history_of m (w, (0, Some home.state) ∷ m.1) z in subst P (sym (even_half t)) record {
              state = home.state;
              hand = refl;
              view = refl;
              begins = ap opening_of home.history_is ∙ begins_alike O I opening history m.0.seen r.begins.alone r.begins.first (r.sees k m.0 at).begins;
              continues = record { rest = (r.sees k m.0 at).seen.rest; is = home.history_is ∙ (r.sees k m.0 at).seen.is };
              others = let p = r.sees k m.0 at in ap (λ (n : ℕ). made_by n p.seen.rest) mine.1 ∙ others_behind O I k m.0.seen p.seen.rest history m.0.mine p.seen.is p.own p.mine;
              mine = ap (λ (n : ℕ). made_by n (history_of home.state)) mine.1 ∙ ap (made_by k) home.history_is ∙ sym (r.sees k m.0 at).mine;
              is_taking = (omega arith, omega arith);
              later = let e : m.0.last < t + 1 = omega arith in e;
            }),
            (λ odd. absurd (odd (even_rest t))),
          ),
        )

    tries_in : (opening : List (Entry O I)) (slots k : ℕ) (m : Sat) (s : St) (history : List (Entry O I)) (t : ℕ) (turn : Turn) → Rule history_of opening history t turn s → get_elem? s.views (suc k) ≡ some m.0 → m.0.holds ≡ false → Tries opening slots s k m (get_or s.words 0 0)
    tries_in opening slots k m s history t free r at idle = wins opening slots k m s history t r at
    tries_in opening slots k m s history t worn_out r at idle = let all : t ≡ last_number = r.one_turn.range in loses opening slots k m s history t worn_out r at refl (omega arith, omega arith) (inr all)
    tries_in opening slots k m s history t (held n) r at idle =
        let other : k ≢ n = λ e. true_not_false (sym (eq-eqb k n e) ∙ sym (r.one_turn.holder k m.0 at) ∙ idle) in
        loses opening slots k m s history t (held n) r at refl r.one_turn.range (inl (r.newest.others k m.0 at other))

    -- the step that makes the word odd
    pub tries : (opening : List (Entry O I)) (slots id : ℕ) (m : Sat) → m.0.makes ≡ false → m.0.holds ≡ false → Allows (Ruled history_of opening) slots id m 0 (λ n. bit_or n 1) (tried history_of (step slots 0 1 0 none) m)
    tries opening slots zero m pass idle s (history, t, turn, r) wide at small = absurd (true_not_false (sym (r.numbered.maker m.0 at).makes ∙ pass))
    tries opening slots (suc k) m pass idle s (history, t, turn, r) wide at small = tries_in opening slots k m s history t turn r at idle

    -- what the step owes that gives the turn back
    abbrev GivesBack : List (Entry O I) → ℕ → St → ℕ → Sat → ℕ → Type 0
    GivesBack opening slots s k m new = (w : Known O I) × (a : Act (Option S)) × Valid s.homes m.1 a × Ruled history_of opening (stepped s 0 new (suc k) m.1 w a)
        × gave history_of (step slots 0 new 0 none) m new (w, carried_after m.1 a)

    gives_to : (opening : List (Entry O I)) (slots k new : ℕ) (v : Known O I) (state : S) (more : List (ℕ × Option S)) (s : St) (history : List (Entry O I)) (t : ℕ) (turn : Turn) → Rule history_of opening history t (held k) s → get_elem? s.views (suc k) ≡ some v
        → Extends v.number v.got (history_of state) → IsOff turn → InRange t turn → new ≡ word_of t turn → GivesBack opening slots s k (v, (0, Some state) ∷ more) new
    gives_to opening slots k new v state more s history t turn r at longer off range stored =
        let after : List (Entry O I) = history_of state in
        let w : Known O I = after_giving v after in
        let mine = r.numbered.each k v at in
        let got : v.got ≡ history = r.in_hand.got k v at refl in
        let g : Grows k history after = grows k history after (subst (λ (z : ℕ × List (Entry O I)). Extends z.0 z.1 after) (λ i. (mine.1 i, got i)) longer) in
        let first : Continues opening after = g.longer opening r.begins.first in
        let knows : (v.last ≤ t) × (v.met ≤ t) = r.counted.known k v at in (
          w,
          gives,
          tt,
          (
            after,
            t,
            turn,
            record {
              numbered = numbered_set s.views k v w at opening history after g mine.0 mine.1 r.numbered;
              one_turn = record {
                word = ap (λ (ws : List ℕ). set ws 0 new) r.one_turn.word ∙ ap (λ (n : ℕ). n ∷ []) stored;
                range = range;
                holder = holder_set s.views k v w at (held k) turn (λ n ne. ne_eqb n k ne ∙ sym (off_not turn n off)) (sym (off_not turn k off)) r.one_turn.holder;
                made = off_held turn (λ n. suc n < length (set s.views (suc k) w)) off;
              };
              at_home = off_nobodys turn (AtHome history_of after (set s.homes 0 (some (Some state)))) off
                  record { state = state; is_home = ap (λ (hs : List (maybe.Option (Option S))). set hs 0 (some (Some state))) r.in_hand.out; history_is = refl };
              in_hand = off_held turn (InHand after (set s.homes 0 (some (Some state))) (set s.views (suc k) w)) off;
              begins = record { alone = r.begins.alone; first = first };
              sees = sees_set s.views k v w at opening history after g record { begins = first; seen = continues_itself O I after; own = ap (λ (n : ℕ). made_by n after) mine.1; mine = ap (λ (n : ℕ). made_by n after) mine.1 } r.sees;
              counted = counted_set s.views k v w at t t (omega arith) refl knows.0 knows.1 r.counted;
              newest = off_held turn (IsNewest t (set s.views (suc k) w)) off;
            },
          ),
          record {
            hand = refl;
            view = refl;
            begins = begins_alike O I opening after v.seen r.begins.alone first (r.sees k v at).begins;
            grown = λ items is. own_grow O I v.number v.got after items is
                ∙ ap (λ (l : List (Entry O I)). l ++ own v.number items) (ap (made_by v.number) got ∙ ap (λ (n : ℕ). made_by n history) mine.1 ∙ sym (r.sees k v at).mine);
          },
        )

    gives_at : (opening : List (Entry O I)) (slots k new : ℕ) (v : Known O I) (state : S) (more : List (ℕ × Option S)) (s : St) (history : List (Entry O I)) (t : ℕ) → Rule history_of opening history t (held k) s → get_elem? s.views (suc k) ≡ some v
        → Extends v.number v.got (history_of state) → new ≡ word_after t → Dec (t ≡ last_number) → GivesBack opening slots s k (v, (0, Some state) ∷ more) new
    gives_at opening slots k new v state more s history t r at longer stored (yes e) = gives_to opening slots k new v state more s history t worn_out r at longer tt e (stored ∙ rw (eq-eqb t last_number e) refl)
    gives_at opening slots k new v state more s history t r at longer stored (no ne) =
        let range : (0 < t) × (t ≤ last_number) = r.one_turn.range in
        let most : t ≤ last_number = range.1 in
        gives_to opening slots k new v state more s history t free r at longer tt (omega arith) (stored ∙ rw (ne_eqb t last_number ne) refl)

    gives_in : (opening : List (Entry O I)) (slots k new : ℕ) (v : Known O I) (state : S) (more : List (ℕ × Option S)) (s : St) (history : List (Entry O I)) (t : ℕ) (turn : Turn) → Rule history_of opening history t turn s → get_elem? s.views (suc k) ≡ some v
        → Extends v.number v.got (history_of state) → new ≡ word_after v.last → v.holds ≡ true → GivesBack opening slots s k (v, (0, Some state) ∷ more) new
    gives_in opening slots k new v state more s history t free r at longer stored holds = absurd (true_not_false (sym holds ∙ r.one_turn.holder k v at))
    gives_in opening slots k new v state more s history t worn_out r at longer stored holds = absurd (true_not_false (sym holds ∙ r.one_turn.holder k v at))
    gives_in opening slots k new v state more s history t (held n) r at longer stored holds = here (ℕ_discrete k n)
      where
        here : Dec (k ≡ n) → GivesBack opening slots s k (v, (0, Some state) ∷ more) new
        here (yes e) = let r' = subst (λ (j : ℕ). Rule history_of opening history t (held j) s) (sym e) r in gives_at opening slots k new v state more s history t r' at longer (stored ∙ ap word_after (r'.newest.own k v at refl)) (ℕ_discrete t last_number)
        here (no ne) = absurd (true_not_false (sym holds ∙ r.one_turn.holder k v at ∙ ne_eqb k n ne))

    -- the step that gives the turn back
    pub gives_back : (opening : List (Entry O I)) (slots id new : ℕ) (m : Sat) (state : S) (more : List (ℕ × Option S)) → m.1 ≡ (0, Some state) ∷ more → m.0.makes ≡ false → m.0.holds ≡ true → Extends m.0.number m.0.got (history_of state) → new ≡ word_after m.0.last
        → Allows (Ruled history_of opening) slots id m 0 (λ _. new) (λ _. gave history_of (step slots 0 new 0 none) m new)
    gives_back opening slots zero new m state more has pass holds longer stored s (history, t, turn, r) wide at small = absurd (true_not_false (sym (r.numbered.maker m.0 at).makes ∙ pass))
    gives_back opening slots (suc k) new m state more has pass holds longer stored s (history, t, turn, r) wide at small =
        let P : List (ℕ × Option S) → Type 0 = λ c. GivesBack opening slots s k (m.0, c) new in subst P (sym has) (gives_in opening slots k new m.0 state more s history t turn r at longer stored holds)

    -- a state as the views grow by one pass
    abbrev grown : List ℕ → List (maybe.Option (Option S)) → List (Known O I) → St
    grown ws hs vs = record { words = ws; homes = hs; views = vs }

    not_made : (turn : Turn) (xs : List (Known O I)) (x : Known O I) → WhileHeld turn (λ n. suc n < length (x ∷ xs)) → is_turn_of turn (length xs) ≡ false
    not_made free xs x made = refl
    not_made worn_out xs x made = refl
    not_made (held n) xs x made = ne_eqb (length xs) n (λ e. let made' : suc n < suc (length xs) = made in omega arith)

    makes_in : (opening : List (Entry O I)) (ws : List ℕ) (hs : List (maybe.Option (Option S))) (x : Known O I) (xs : List (Known O I)) (history : List (Entry O I)) (t : ℕ) (turn : Turn) → Rule history_of opening history t turn (grown ws hs (x ∷ xs))
        → Rule history_of opening history t turn (grown ws hs (after_one_more x ∷ (xs ++ newcomer x ∷ [])))
    makes_in opening ws hs x xs history t turn r =
        let m : Known O I = after_one_more x in
        let w : Known O I = newcomer x in
        let old = r.numbered.maker x refl in
        let count : suc x.number ≡ suc (length xs) = old.count in
        let long : length (xs ++ w ∷ []) ≡ length xs + 1 = length-append xs (w ∷ []) in
        let more : (P : ℕ → Known O I → Type 0) → P (length xs) w → EachPass (x ∷ xs) P → EachPass (m ∷ (xs ++ w ∷ [])) P = λ P here each. each_more O I x m xs P P w each (λ n u below p. p) here in
        record {
          numbered = record {
            maker = λ u first. subst (IsMaker opening (length (m ∷ (xs ++ w ∷ [])))) (some-injective m u first) record { makes = old.makes; count = omega arith; seen = old.seen; takings = old.takings };
            each = more (λ n u. (u.makes ≡ false) × (u.number ≡ n)) (refl, omega arith) r.numbered.each;
            later = λ n far. r.numbered.later n (omega arith);
          };
          one_turn = record {
            word = r.one_turn.word;
            range = r.one_turn.range;
            holder = more (λ n u. u.holds ≡ is_turn_of turn n) (sym (not_made turn xs x r.one_turn.made)) r.one_turn.holder;
            made = held_map turn (λ n. suc n < length (x ∷ xs)) (λ n. suc n < length (m ∷ (xs ++ w ∷ []))) (λ n below. omega arith) r.one_turn.made;
          };
          at_home = r.at_home;
          in_hand = held_both turn (λ n. suc n < length (x ∷ xs)) (InHand history hs (x ∷ xs)) (InHand history hs (m ∷ (xs ++ w ∷ [])))
              (λ n below p. record { out = p.out; got = more (λ j u. j ≡ n → u.got ≡ history) (λ e. absurd (omega arith)) p.got }) r.one_turn.made r.in_hand;
          begins = r.begins;
          sees = more (Sees opening history)
              record {
                begins = subst (Continues opening) (sym old.seen) (continues_itself O I opening);
                seen = subst (λ (l : List (Entry O I)). Continues l history) (sym old.seen) r.begins.first;
                own = sym (ap (made_by (length xs)) old.seen ∙ opening_of_none O I (length xs) opening r.begins.alone);
                mine = sym (r.numbered.later (length xs) (omega arith));
              } r.sees;
          counted = record {
            total = let h = total_more O I xs w in let all : x.takings + total_takings xs ≡ t = r.counted.total in omega arith;
            known = more (λ n u. (u.last ≤ t) × (u.met ≤ t)) (omega arith, omega arith) r.counted.known;
          };
          newest = newer turn r.one_turn.range r.one_turn.made r.newest;
        }
      where
        m : Known O I
        m = after_one_more x

        newer : (turn' : Turn) → InRange t turn' → WhileHeld turn' (λ n. suc n < length (x ∷ xs)) → WhileHeld turn' (IsNewest t (x ∷ xs)) → WhileHeld turn' (IsNewest t (after_one_more x ∷ (xs ++ newcomer x ∷ [])))
        newer free range made p = tt
        newer worn_out range made p = tt
        newer (held n) range made p = record {
          own = each_more O I x (after_one_more x) xs (λ j u. j ≡ n → u.last ≡ t) (λ j u. j ≡ n → u.last ≡ t) (newcomer x) p.own (λ j u below q. q) (λ e. let made' : suc n < suc (length xs) = made in absurd (omega arith));
          others = each_more O I x (after_one_more x) xs (λ j u. j ≢ n → u.last < t) (λ j u. j ≢ n → u.last < t) (newcomer x) p.others (λ j u below q. q) (λ ne. range.0);
        }

    -- a pass more
    pub makes : (opening : List (Entry O I)) (v : Known O I) → Splits (Ruled history_of opening) 0 v (after_one_more v) (newcomer v)
    makes opening v s (history, t, turn, r) at = go s.views r at
      where
        go : (views : List (Known O I)) → Rule history_of opening history t turn (grown s.words s.homes views) → get_elem? views 0 ≡ some v → Ruled history_of opening (grown s.words s.homes (set views 0 (after_one_more v) ++ newcomer v ∷ []))
        go [] r' at' = absurd (some-ne-none v (sym at'))
        go (x ∷ xs) r' at' = (history, t, turn, subst (λ (u : Known O I). Rule history_of opening history t turn (grown s.words s.homes (after_one_more u ∷ (xs ++ newcomer u ∷ [])))) (some-injective x v at') (makes_in opening s.words s.homes x xs history t turn r'))

    -- the table as it is made
    pub starts : (state : S) → IsOpening (history_of state) → Ruled history_of (history_of state) (opening (0 ∷ []) (Some state ∷ []) (maker (history_of state)))
    starts state o =
        let history : List (Entry O I) = history_of state in
        let none_made : (P : ℕ → Known O I → Type 0) → EachPass (maker history ∷ []) P = λ P n u at. absurd (some-ne-none u (sym at)) in (
          history,
          0,
          free,
          record {
            numbered = record {
              maker = λ u first. subst (IsMaker history 1) (some-injective (maker history) u first) record { makes = refl; count = refl; seen = refl; takings = refl };
              each = none_made (λ n u. (u.makes ≡ false) × (u.number ≡ n));
              later = λ n far. ap (made_by n) o.is;
            };
            one_turn = record { word = refl; range = omega arith; holder = none_made (λ n u. u.holds ≡ is_turn_of free n); made = tt };
            at_home = record { state = state; is_home = refl; history_is = refl };
            in_hand = tt;
            begins = record { alone = o; first = continues_itself O I history };
            sees = none_made (Sees history history);
            counted = record { total = refl; known = none_made (λ n u. (u.last ≤ 0) × (u.met ≤ 0)) };
            newest = tt;
          },
        )

    pub starts_with : (state about : S) (slots : List (Option S)) → slots ≡ Some state ∷ [] → about ≡ state → IsOpening (history_of state) → Ruled history_of (history_of about) (opening (0 ∷ []) slots (maker (history_of about)))
    starts_with state about slots is same o = subst (λ (z : List (Option S) × S). Ruled history_of (history_of z.1) (opening (0 ∷ []) z.0 (maker (history_of z.1)))) (λ i. (sym is i, sym same i)) (starts state o)
