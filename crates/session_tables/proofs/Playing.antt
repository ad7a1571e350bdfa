-- A light session is played on entry by entry.
use Rattle.std.proofs.Common.{◌≡◌, ℕ, List, [], ◌∷◌, ◌++◌, length, refl, ◌∙◌, ap, subst}
use Rattle.std.specs.Prelude.{Option, None, Some, ◌↔◌}
use Rattle.evidence_types.specs.Evidence.{Evidence, nonce}
use Rattle.evidence_types.specs.Measure.{IsLight}
use Rattle.session_model.specs.Session.{Session}
use Rattle.session_model.specs.Value.{Makings}
use Rattle.avm_code.specs.declared.program.Block.{Block as CodeBlock}
use Rattle.avm_compile.specs.Program.{program_of}
use Rattle.machine_tables.specs.Tables.{Tables, step_tables, opening_tables, tables_further, tables_after}
use Rattle.session_runs.specs.Standing.{Entry, opened, played, answered, failed, starved, Standing, opening, makings, next}
use Rattle.session_runs.specs.Light.{IsShort, AreShort}
use Rattle.session_runs.specs.Progress.{CanCome}
use Rattle.session_runs.proofs.HistoryLaws.{after_more}
use Rattle.session_tables.specs.Shown.{IsShown, AreShown}
use Rattle.session_tables.specs.Played.{IsPlayed, IsPlayedOn, CanTake}
use Rattle.session_tables.proofs.Entries.{entry_shown, opening_shown}

further_more : (all : List CodeBlock) (from : Makings) (x : Option Tables) (entries : List Entry) (t : Tables) (entry : Entry) → tables_further all from x entries ≡ Some t → tables_further all from x (entries ++ entry ∷ []) ≡ step_tables all from t entry
further_more all from None entries t entry e = absurd (cc)
further_more all from (Some u) [] t entry e = ap (λ x. tables_further all from (stepped x) []) e ∙ over (step_tables all from t entry)
  where
    stepped : Option Tables → Option Tables
    stepped None = None
    stepped (Some x) = step_tables all from x entry

    over : (x : Option Tables) → tables_further all from x [] ≡ x
    over None = refl
    over (Some x) = refl
further_more all from (Some u) (one ∷ entries) t entry e = further_more all from (step_tables all from u one) entries t entry e

-- the tables after one entry more
pub tables_more : (all : List CodeBlock) (from : Makings) (before : Evidence) (history : List Entry) (t : Tables) (entry : Entry) → tables_after all from before history ≡ Some t → tables_after all from before (history ++ entry ∷ []) ≡ step_tables all from t entry
tables_more all from before [] t entry e = absurd (cc)
tables_more all from before (opened ∷ entries) t entry e = further_more all from (Some (opening_tables all before)) entries t entry e
tables_more all from before (played pass move ∷ entries) t entry e = absurd (cc)
tables_more all from before (answered pass event bytes ∷ entries) t entry e = absurd (cc)
tables_more all from before (failed pass event fault ∷ entries) t entry e = absurd (cc)
tables_more all from before (starved pass event ∷ entries) t entry e = absurd (cc)

short_more : (history : List Entry) (entry : Entry) → AreShort history → IsShort entry → AreShort (history ++ entry ∷ [])
short_more [] entry h k = (k, tt)
short_more (one ∷ history) entry h k = (h.0, short_more history entry h.1 k)

pub session_opens : (session : Session) (keys : List (List ℕ × List ℕ)) → IsLight session.phrase → length session.nonce ≡ 16 → IsPlayed session keys (opened ∷ []) (opening session) (opening_tables (program_of session.phrase session.root) (nonce session.nonce))
session_opens session keys light sixteen = record {
  light = light;
  sixteen = sixteen;
  short = (tt, tt);
  stands = refl;
  holds = refl;
  shown = opening_shown session;
}

-- an entry that the tables take can come next, and they show how the session stands then
record IsShownNext (session : Session) (keys : List (List ℕ × List ℕ)) (s : Standing) (entry : Entry) (u : Tables) : Type 0 where
  pub then_stands : Standing
  pub possible : next session keys s entry ≡ Some then_stands
  pub shown : IsShown u then_stands

shown_next : (session : Session) (keys : List (List ℕ × List ℕ)) (history : List Entry) (s : Standing) (t u : Tables) (entry : Entry) → IsPlayed session keys history s t → step_tables (program_of session.phrase session.root) (makings session keys) t entry ≡ Some u → IsShownNext session keys s entry u
shown_next session keys history s t u entry p e =
    by_next (next session keys s entry) refl (subst (λ x. AreShown x (next session keys s entry)) e (entry_shown session keys history s t entry p.stands p.shown))
  where
    by_next : (y : Option Standing) → next session keys s entry ≡ y → AreShown (Some u) y → IsShownNext session keys s entry u
    by_next None is shown = absurd shown
    by_next (Some v) is shown = record { then_stands = v; possible = is; shown = shown }

pub session_goes_on : (session : Session) (keys : List (List ℕ × List ℕ)) (history : List Entry) (s : Standing) (t u : Tables) (entry : Entry) → IsPlayed session keys history s t → IsShort entry → step_tables (program_of session.phrase session.root) (makings session keys) t entry ≡ Some u → IsPlayedOn session keys history s entry u
session_goes_on session keys history s t u entry p short e =
    let n : IsShownNext session keys s entry u = shown_next session keys history s t u entry p e in
    record {
      then_stands = n.then_stands;
      possible = n.possible;
      played = record {
        light = p.light;
        sixteen = p.sixteen;
        short = short_more history entry p.short short;
        stands = after_more session keys history s entry p.stands ∙ n.possible;
        holds = tables_more (program_of session.phrase session.root) (makings session keys) (nonce session.nonce) history t entry p.holds ∙ e;
        shown = n.shown;
      };
    }

pub entry_taken : (session : Session) (keys : List (List ℕ × List ℕ)) (history : List Entry) (s : Standing) (t : Tables) (entry : Entry) → IsPlayed session keys history s t → CanCome session keys s entry ↔ CanTake (program_of session.phrase session.root) (makings session keys) t entry
entry_taken session keys history s t entry p = (
  λ can. by_step (step_tables (program_of session.phrase session.root) (makings session keys) t entry) refl can.then_stands (subst (λ y. AreShown (step_tables (program_of session.phrase session.root) (makings session keys) t entry) y) can.possible (entry_shown session keys history s t entry p.stands p.shown)),
  λ take.
      let n : IsShownNext session keys s entry take.later = shown_next session keys history s t take.later entry p take.taken in
      record { then_stands = n.then_stands; possible = n.possible },
)
  where
    by_step : (x : Option Tables) → step_tables (program_of session.phrase session.root) (makings session keys) t entry ≡ x → (v : Standing) → AreShown x (Some v) → CanTake (program_of session.phrase session.root) (makings session keys) t entry
    by_step None is v shown = absurd shown
    by_step (Some u) is v shown = record { later = u; taken = is }
