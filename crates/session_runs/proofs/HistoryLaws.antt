-- Histories with one entry more.
use Rattle.std.proofs.Common.{◌≡◌, ℕ, List, [], ◌∷◌, ◌++◌, refl, sym, ◌∙◌, ap}
use Rattle.std.specs.Prelude.{Option, None, Some, ◌↔◌}
use Rattle.bench_trait.specs.declared.ask.Ask.{Ask}
use Rattle.bench_trait.specs.declared.bench.BenchFault.{BenchFault}
use Rattle.session_model.specs.Session.{Session, session_questions}
use Rattle.session_runs.specs.Standing.{Entry, opened, played, answered, failed, starved, Standing, opening, next}
use Rattle.session_runs.specs.History.{further, standing_after, IsResult, AreResults, IsLegal}
use Rattle.session_runs.proofs.EntryLaws.{some_is, no_standing}

further_none : (session : Session) (keys : List (List ℕ × List ℕ)) (x : Option Standing) → further session keys x [] ≡ x
further_none session keys None = refl
further_none session keys (Some s) = refl

further_more : (session : Session) (keys : List (List ℕ × List ℕ)) (x : Option Standing) (entries : List Entry) (s : Standing) (entry : Entry) → further session keys x entries ≡ Some s → further session keys x (entries ++ entry ∷ []) ≡ next session keys s entry
further_more session keys None entries s entry e = no_standing (further session keys None (entries ++ entry ∷ []) ≡ next session keys s entry) s e
further_more session keys (Some u) [] s entry e =
    ap (λ v. further session keys (next session keys v entry) []) (some_is Standing u s e) ∙ further_none session keys (next session keys s entry)
further_more session keys (Some u) (one ∷ entries) s entry e = further_more session keys (next session keys u one) entries s entry e

-- how a session stands after one entry more
pub after_more : (session : Session) (keys : List (List ℕ × List ℕ)) (history : List Entry) (s : Standing) (entry : Entry) → standing_after session keys history ≡ Some s → standing_after session keys (history ++ entry ∷ []) ≡ next session keys s entry
after_more session keys [] s entry e = no_standing (standing_after session keys (entry ∷ []) ≡ next session keys s entry) s e
after_more session keys (opened ∷ entries) s entry e = further_more session keys (Some (opening session)) entries s entry e
after_more session keys (played pass move ∷ entries) s entry e = no_standing (standing_after session keys (played pass move ∷ (entries ++ entry ∷ [])) ≡ next session keys s entry) s e
after_more session keys (answered pass event bytes ∷ entries) s entry e = no_standing (standing_after session keys (answered pass event bytes ∷ (entries ++ entry ∷ [])) ≡ next session keys s entry) s e
after_more session keys (failed pass event fault ∷ entries) s entry e = no_standing (standing_after session keys (failed pass event fault ∷ (entries ++ entry ∷ [])) ≡ next session keys s entry) s e
after_more session keys (starved pass event ∷ entries) s entry e = no_standing (standing_after session keys (starved pass event ∷ (entries ++ entry ∷ [])) ≡ next session keys s entry) s e

module _ (Gives : Ask → List ℕ → Type 0) (Fails : Ask → BenchFault → Type 0) (Starves : Ask → Type 0) where
  results_more : (asks : List Ask) (entries : List Entry) (entry : Entry) → AreResults Gives Fails Starves asks entries → IsResult Gives Fails Starves asks entry → AreResults Gives Fails Starves asks (entries ++ entry ∷ [])
  results_more asks [] entry h r = (r, tt)
  results_more asks (one ∷ entries) entry h r = (h.0, results_more asks entries entry h.1 r)

  last_result : (asks : List Ask) (entries : List Entry) (entry : Entry) → AreResults Gives Fails Starves asks (entries ++ entry ∷ []) → IsResult Gives Fails Starves asks entry
  last_result asks [] entry h = h.0
  last_result asks (one ∷ entries) entry h = last_result asks entries entry h.1

  -- a legal history with one entry more is legal just where the entry can come next, and is one of the bench if it is a result
  pub legal_more : (session : Session) (keys : List (List ℕ × List ℕ)) (history : List Entry) (s : Standing) (entry : Entry) (t : Standing) → IsLegal Gives Fails Starves session keys history s → IsLegal Gives Fails Starves session keys (history ++ entry ∷ []) t ↔ ((next session keys s entry ≡ Some t) × IsResult Gives Fails Starves (session_questions session) entry)
  legal_more session keys history s entry t legal =
      let same : standing_after session keys (history ++ entry ∷ []) ≡ next session keys s entry = after_more session keys history s entry legal.stands in (
        λ h. (sym same ∙ h.stands, last_result (session_questions session) history entry h.results),
        λ h. record { stands = same ∙ h.0; results = results_more (session_questions session) history entry legal.results h.1 },
      )
