-- What a history begins with is a history.
use Rattle.std.proofs.Common.{◌≡◌, ℕ, ◌≤◌, List, [], ◌∷◌, ◌++◌, length, refl, sym, ◌∙◌, arith}
use Rattle.std.specs.Prelude.{Option, None, Some}
use Rattle.bench_trait.specs.declared.ask.Ask.{Ask}
use Rattle.bench_trait.specs.declared.bench.BenchFault.{BenchFault}
use Rattle.session_model.specs.Session.{Session, session_questions}
use Rattle.session_runs.specs.Standing.{Entry, opened, played, answered, failed, starved, Standing, opening}
use Rattle.session_runs.specs.History.{further, standing_after, AreResults, IsLegal}
use Rattle.session_runs.proofs.EntryLaws.{no_standing}
use Rattle.session_runs.proofs.FlightLaws.{further_parts}

-- a standing, where there is one
there_is : (session : Session) (keys : List (List ℕ × List ℕ)) (x : Option Standing) (more : List Entry) (t : Standing) → further session keys x more ≡ Some t → (s : Standing) × (x ≡ Some s)
there_is session keys None more t e = no_standing ((s : Standing) × (◌≡◌ {A = Option Standing} None (Some s))) t e
there_is session keys (Some s) more t e = (s, refl)

pub stands_before : (session : Session) (keys : List (List ℕ × List ℕ)) (history more : List Entry) (t : Standing) → 1 ≤ length history → standing_after session keys (history ++ more) ≡ Some t → (s : Standing) × (standing_after session keys history ≡ Some s)
stands_before session keys [] more t some e = absurd (omega (arith, some))
stands_before session keys (opened ∷ entries) more t some e =
    there_is session keys (further session keys (Some (opening session)) entries) more t (sym (further_parts session keys (Some (opening session)) entries more) ∙ e)
stands_before session keys (played pass move ∷ entries) more t some e = absurd (cc)
stands_before session keys (answered pass event bytes ∷ entries) more t some e = absurd (cc)
stands_before session keys (failed pass event fault ∷ entries) more t some e = absurd (cc)
stands_before session keys (starved pass event ∷ entries) more t some e = absurd (cc)

module _ (Gives : Ask → List ℕ → Type 0) (Fails : Ask → BenchFault → Type 0) (Starves : Ask → Type 0) where
  results_before : (asks : List Ask) (entries more : List Entry) → AreResults Gives Fails Starves asks (entries ++ more) → AreResults Gives Fails Starves asks entries
  results_before asks [] more h = tt
  results_before asks (entry ∷ entries) more h = (h.0, results_before asks entries more h.1)

  pub legal_before : (session : Session) (keys : List (List ℕ × List ℕ)) (history more : List Entry) (t : Standing) → 1 ≤ length history → IsLegal Gives Fails Starves session keys (history ++ more) t → (s : Standing) × IsLegal Gives Fails Starves session keys history s
  legal_before session keys history more t some legal =
      let w = stands_before session keys history more t some legal.stands in
      (w.0, record { stands = w.1; results = results_before (session_questions session) history more legal.results })
