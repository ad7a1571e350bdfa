-- Nodes that agree are passed, whatever comes behind them, and the first that does not agree stops the walk.
use Rattle.std.proofs.Common.{◌≡◌, ◌+◌, ◌&&◌, ℕ, zero, suc, true, false, List, [], ◌∷◌, ◌++◌, length, drop, refl, ap, ◌∙◌, append_assoc, length-append, arith, nat_eq, Some, Result, Ok, Err, if◌then◌else◌}
use Rattle.phrase_tree.specs.declared.measurement.Asp.{Asp}
use Rattle.evidence_types.specs.Evidence.{Evidence, usm, kim}
use Rattle.evidence_types.specs.Heads.{Head, usm_head, kim_head, heads, next_mark}
use Rattle.evidence_types.specs.Marked.{measurements}
use Rattle.evidence_types.specs.Shape.{Form, measured, measured_at}
use Rattle.place_check.specs.declared.entry.PlaceEntry.{PlaceEntry}
use Rattle.appraiser.specs.declared.fitting.Passed.{Passed}
use Rattle.appraiser.specs.Fit.{agrees, is_mark, misfit_from, nodes}
use Rattle.appraiser.specs.Walked.{Passes, Stops, Walked}

-- the first of two lists of nodes
step : (places : List PlaceEntry) (number : ℕ) (head : Head) (form : Form) (read : List Head) (forms : List Form) → agrees places head form ≡ true → misfit_from places number (head ∷ read) (form ∷ forms) ≡ misfit_from places (number + 1) read forms
step places number head form read forms e = ap (λ b. if b then misfit_from places (number + 1) read forms else Some number) e

halt : (places : List PlaceEntry) (number : ℕ) (head : Head) (form : Form) (read : List Head) (forms : List Form) → agrees places head form ≡ false → misfit_from places number (head ∷ read) (form ∷ forms) ≡ Some number
halt places number head form read forms e = ap (λ b. if b then misfit_from places (number + 1) read forms else Some number) e

pub passes_one : (places : List PlaceEntry) (number : ℕ) (head : Head) (form : Form) → agrees places head form ≡ true → Passes places number (head ∷ []) (form ∷ [])
passes_one places number head form e = record { passes = λ rest more. step places number head form rest more e }

pub stops_here : (places : List PlaceEntry) (number : ℕ) (head : Head) (form : Form) (read : List Head) (forms : List Form) → agrees places head form ≡ false → Stops places number (head ∷ read) (form ∷ forms) number
stops_here places number head form read forms e = record { stops = λ rest more. halt places number head form (read ++ rest) (forms ++ more) e }

pub passes_then : (places : List PlaceEntry) (number : ℕ) (head : Head) (form : Form) (read : List Head) (forms : List Form) → agrees places head form ≡ true → Passes places (number + 1) read forms → Passes places number (head ∷ read) (form ∷ forms)
passes_then places number head form read forms e h = record {
  passes = λ rest more.
      step places number head form (read ++ rest) (forms ++ more) e
      ∙ h.passes rest more
      ∙ (let n : number + 1 + length forms ≡ number + length (form ∷ forms) = omega arith in ap (λ k. misfit_from places k rest more) n);
}

pub stops_later : (places : List PlaceEntry) (number at : ℕ) (head : Head) (form : Form) (read : List Head) (forms : List Form) → agrees places head form ≡ true → Stops places (number + 1) read forms at → Stops places number (head ∷ read) (form ∷ forms) at
stops_later places number at head form read forms e h = record {
  stops = λ rest more. step places number head form (read ++ rest) (forms ++ more) e ∙ h.stops rest more;
}

joined : (places : List PlaceEntry) (number : ℕ) (read others rest : List Head) (forms more_forms more : List Form) → misfit_from places number ((read ++ others) ++ rest) ((forms ++ more_forms) ++ more) ≡ misfit_from places number (read ++ (others ++ rest)) (forms ++ (more_forms ++ more))
joined places number read others rest forms more_forms more =
    ap (λ (t : List Head). misfit_from places number t ((forms ++ more_forms) ++ more)) (append_assoc read others rest)
    ∙ ap (λ (t : List Form). misfit_from places number (read ++ (others ++ rest)) t) (append_assoc forms more_forms more)

pub passes_both : (places : List PlaceEntry) (number : ℕ) (read others : List Head) (forms more_forms : List Form) → Passes places number read forms → Passes places (number + length forms) others more_forms → Passes places number (read ++ others) (forms ++ more_forms)
passes_both places number read others forms more_forms h k = record {
  passes = λ rest more.
      joined places number read others rest forms more_forms more
      ∙ h.passes (others ++ rest) (more_forms ++ more)
      ∙ k.passes rest more
      ∙ (let n : number + length forms + length more_forms ≡ number + length (forms ++ more_forms) = omega (arith, length-append forms more_forms) in ap (λ j. misfit_from places j rest more) n);
}

pub stops_first : (places : List PlaceEntry) (number at : ℕ) (read others : List Head) (forms more_forms : List Form) → Stops places number read forms at → Stops places number (read ++ others) (forms ++ more_forms) at
stops_first places number at read others forms more_forms h = record {
  stops = λ rest more. joined places number read others rest forms more_forms more ∙ h.stops (others ++ rest) (more_forms ++ more);
}

pub stops_second : (places : List PlaceEntry) (number at : ℕ) (read others : List Head) (forms more_forms : List Form) → Passes places number read forms → Stops places (number + length forms) others more_forms at → Stops places number (read ++ others) (forms ++ more_forms) at
stops_second places number at read others forms more_forms h k = record {
  stops = λ rest more.
      joined places number read others rest forms more_forms more
      ∙ h.passes (others ++ rest) (more_forms ++ more)
      ∙ k.stops rest more;
}

-- ---- measurements, each with its mark

drop-next : (count : ℕ) (marks : List ℕ) → drop count (drop 1 marks) ≡ drop (suc count) marks
drop-next zero [] = refl
drop-next (suc count) [] = refl
drop-next count (mark ∷ marks) = refl

pub walked_usm : (places : List PlaceEntry) (number event own : ℕ) (answer : List ℕ) (under : Evidence) (marks place : List ℕ) (asp : Asp) (below : Form) (walked : Result Passed ℕ) → nat_eq event own && is_mark places (next_mark marks) place ≡ true → Walked places (number + 1) under (drop 1 marks) below walked → Walked places number (usm event answer under) marks (measured own place asp below) walked
walked_usm places number event own answer under marks place asp below (Ok passed) e h = (
  passes_then places number (usm_head event (next_mark marks) answer) (measured own place asp below) (heads under (drop 1 marks)) (nodes below) e h.0,
  omega (arith, h.1),
  h.2 ∙ drop-next (measurements under) marks,
)
walked_usm places number event own answer under marks place asp below (Err at) e h =
    stops_later places number at (usm_head event (next_mark marks) answer) (measured own place asp below) (heads under (drop 1 marks)) (nodes below) e h

pub walked_kim : (places : List PlaceEntry) (number event own : ℕ) (answer : List ℕ) (under : Evidence) (marks place target : List ℕ) (asp : Asp) (below : Form) (walked : Result Passed ℕ) → nat_eq event own && is_mark places (next_mark marks) place ≡ true → Walked places (number + 1) under (drop 1 marks) below walked → Walked places number (kim event answer under) marks (measured_at own place target asp below) walked
walked_kim places number event own answer under marks place target asp below (Ok passed) e h = (
  passes_then places number (kim_head event (next_mark marks) answer) (measured_at own place target asp below) (heads under (drop 1 marks)) (nodes below) e h.0,
  omega (arith, h.1),
  h.2 ∙ drop-next (measurements under) marks,
)
walked_kim places number event own answer under marks place target asp below (Err at) e h =
    stops_later places number at (kim_head event (next_mark marks) answer) (measured_at own place target asp below) (heads under (drop 1 marks)) (nodes below) e h
