-- Worked rows, written down outside this project: what is found in some texts, what refuses them, what
-- they spell, and the canonical texts of some phrases. An edit of the definitions is refused here.
use Rattle.std.proofs.Common.{◌≡◌, ◌≤◌, ◌↔◌, ℕ, List, [], ◌∷◌, length, refl, codes, true, false, arith, inr}
use Rattle.std.specs.Fmt.{digits}
use Rattle.phrase_reader.specs.declared.reader.TheConstants.{TEXT_BYTES}
use Rattle.phrase_tree.specs.declared.measurement.Arg.TheVariants.{Word, Number}
use Rattle.phrase_tree.specs.declared.measurement.Asp.{Asp}
use Rattle.phrase_tree.specs.declared.phrase.Split.{Split}
use Rattle.phrase_tree.specs.Term.{cpy, sig, hsh, kim, leaf, at, chain, seq, par}
use Rattle.phrase_reader.specs.declared.refusal.Kind.{Kind}
use Rattle.phrase_reader.specs.declared.refusal.Kind.TheVariants as kinds
use Rattle.phrase_reader.specs.declared.token.Leaf.TheVariants.{Cpy, Sig}
use Rattle.phrase_reader.specs.declared.token.Token.TheVariants as tokens
use Rattle.phrase_reader.specs.Tokens.{found, token_at, refused_at, ends_at, decimal_token}
use Rattle.phrase_reader.specs.Refusal.{Refuses, IsRefusal, IsRead}
use Rattle.phrase_reader.specs.Canonical.{canonical}
use Rattle.phrase_reader.specs.Machine.{State, start, fresh, ended}
use Rattle.phrase_reader.proofs.Progress.{progress_start, progress_next, progress_stops, progress_refused, progress_unfinished}
use Rattle.phrase_reader.proofs.RoundTrip.{round_trip}

empty_text : found 0 0 [] ≡ ends_at 0 ∷ []
empty_text = refl

half_an_op : found 0 0 (codes "CPY +<* CPY") ≡ token_at 0 (tokens.Leaf Cpy) ∷ refused_at 6 kinds.Char ∷ []
half_an_op = refl

a_sign_at_the_end : found 0 0 (codes "CPY -") ≡ token_at 0 (tokens.Leaf Cpy) ∷ refused_at 5 kinds.Char ∷ []
a_sign_at_the_end = refl

a_capital : found 0 0 (codes "USM Scan") ≡ token_at 0 tokens.Usm ∷ refused_at 4 kinds.Word ∷ []
a_capital = refl

a_leading_zero : found 0 0 (codes "USM a 007") ≡ token_at 0 tokens.Usm ∷ token_at 4 (tokens.Value (Word (codes "a"))) ∷ refused_at 6 kinds.Word ∷ []
a_leading_zero = refl

a_request : found 0 0 (codes "@q[(CPY)]") ≡ token_at 0 tokens.At ∷ token_at 1 (tokens.Value (Word (codes "q"))) ∷ token_at 2 tokens.OpenSquare ∷ token_at 3 tokens.OpenRound ∷ token_at 4 (tokens.Leaf Cpy) ∷ token_at 7 tokens.CloseRound ∷ token_at 8 tokens.CloseSquare ∷ ends_at 9 ∷ []
a_request = refl

a_decimal_too_large : found 0 0 (codes "USM a 4294967296") ≡ token_at 0 tokens.Usm ∷ token_at 4 (tokens.Value (Word (codes "a"))) ∷ refused_at 6 kinds.NumberTooLarge ∷ []
unfolding decimal_token
a_decimal_too_large = refl

the_last_decimal : found 0 0 (codes "4294967295") ≡ token_at 0 (tokens.Value (Number 4294967295)) ∷ ends_at 10 ∷ []
unfolding decimal_token
the_last_decimal = refl

an_arrow_and_an_op : found 0 0 (codes "CPY->SIG -~+") ≡ token_at 0 (tokens.Leaf Cpy) ∷ token_at 3 tokens.Arrow ∷ token_at 5 (tokens.Leaf Sig) ∷ token_at 9 (tokens.Op (record { parallel = true; split = record { left = false; right = true } })) ∷ ends_at 12 ∷ []
an_arrow_and_an_op = refl

-- one refusal, and no other, is that of the text
refused_row : (text : List ℕ) (place : ℕ) (kind : Kind) → length text ≤ TEXT_BYTES → ((q : ℕ) (k : Kind) → Refuses [] (found 0 0 text) q k ↔ ((place ≡ q) × (kind ≡ k))) → IsRefusal text place kind
refused_row text place kind few h = inr (few, (h place kind).1 (refl, refl))

nothing_is_refused : IsRefusal [] 0 kinds.Expected
nothing_is_refused =
    refused_row [] 0 kinds.Expected (omega arith) (progress_unfinished [] 0 start 0 0 (progress_start [] start refl) refl refl)

a_small_keyword_is_refused : IsRefusal (codes "usm a") 0 kinds.Expected
a_small_keyword_is_refused =
    refused_row (codes "usm a") 0 kinds.Expected (omega arith)
    (progress_stops (codes "usm a") 0 start 0 (tokens.Value (Word (codes "usm"))) 0 (found 3 0 (codes " a")) kinds.Expected (progress_start (codes "usm a") start refl) refl refl)

abbrev copied : State
copied = record { inner = fresh; stack = []; stage = ended (leaf cpy) }

two_copies_are_refused : IsRefusal (codes "CPY CPY") 4 kinds.Trailing
two_copies_are_refused =
    let text = codes "CPY CPY" in
    refused_row text 4 kinds.Trailing (omega arith)
    (progress_stops text 3 copied 1 (tokens.Leaf Cpy) 4 (ends_at 7 ∷ []) kinds.Trailing
    (progress_next text 0 start 0 (tokens.Leaf Cpy) 0 3 copied 1 (progress_start text start refl) refl refl refl refl (omega arith))
    refl refl)

half_an_op_is_refused : IsRefusal (codes "CPY +<* CPY") 6 kinds.Char
half_an_op_is_refused =
    let text = codes "CPY +<* CPY" in
    refused_row text 6 kinds.Char (omega arith)
    (progress_refused text 3 copied 1 6 kinds.Char
    (progress_next text 0 start 0 (tokens.Leaf Cpy) 0 3 copied 1 (progress_start text start refl) refl refl refl refl (omega arith))
    refl)

abbrev to_left : Split
to_left = record { left = true; right = false }

abbrev service : Asp
service = record { name = codes "a"; args = Word (codes "x") ∷ Number 1 ∷ [] }

a_measurement_prints : canonical (leaf (kim (codes "q") service)) ≡ codes "KIM q a x 1"
unfolding digits
a_measurement_prints = refl

a_chain_on_the_left_prints : canonical (chain (chain (leaf cpy) (leaf sig)) (leaf cpy)) ≡ codes "CPY -> SIG -> CPY"
a_chain_on_the_left_prints = refl

a_chain_on_the_right_prints : canonical (chain (leaf cpy) (chain (leaf cpy) (leaf cpy))) ≡ codes "CPY -> (CPY -> CPY)"
a_chain_on_the_right_prints = refl

a_request_prints : canonical (at (codes "q") (leaf cpy)) ≡ codes "@q [CPY]"
a_request_prints = refl

a_branch_in_a_request_prints : canonical (chain (at (codes "q") (seq to_left (leaf cpy) (leaf sig))) (leaf hsh)) ≡ codes "@q [CPY +<- SIG] -> HSH"
a_branch_in_a_request_prints = refl

a_branch_as_an_arm_prints : canonical (par to_left (seq to_left (leaf cpy) (leaf sig)) (chain (leaf hsh) (leaf cpy))) ≡ codes "(CPY +<- SIG) +~- HSH -> CPY"
a_branch_as_an_arm_prints = refl

a_chain_is_read : IsRead (codes "CPY -> (CPY -> CPY)") (chain (leaf cpy) (chain (leaf cpy) (leaf cpy)))
a_chain_is_read =
    round_trip (chain (leaf cpy) (chain (leaf cpy) (leaf cpy))) (record { events = omega arith; nesting = omega arith }) (tt, (tt, tt)) (omega arith)
