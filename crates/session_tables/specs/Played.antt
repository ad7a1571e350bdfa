-- A light session after a history: how it stands, and what its machines hold (this project's own).
use Rattle.std.specs.Prelude.{◌≡◌, ℕ, List, [], ◌∷◌, ◌++◌, Some, length}
use Rattle.evidence_types.specs.Evidence.{nonce}
use Rattle.evidence_types.specs.Measure.{IsLight}
use Rattle.avm_code.specs.declared.program.Block.{Block as CodeBlock}
use Rattle.avm_compile.specs.Program.{program_of}
use Rattle.machine_tables.specs.Tables.{Tables, step_tables, tables_after}
use Rattle.session_model.specs.Session.{Session}
use Rattle.session_model.specs.Value.{Makings}
use Rattle.session_runs.specs.Standing.{Entry, Standing, makings, next}
use Rattle.session_runs.specs.History.{standing_after}
use Rattle.session_runs.specs.Light.{AreShort}
use Rattle.session_tables.specs.Shown.{IsShown}

-- a session whose phrase is nowhere oversize, with a nonce of 16 bytes and answers of at most 1,024, after a
-- history: it stands like this, and its machines have these tables, which show it
pub record IsPlayed (session : Session) (keys : List (List ℕ × List ℕ)) (history : List Entry) (standing : Standing) (tables : Tables) : Type 0 where
  pub light : IsLight session.phrase
  pub sixteen : length session.nonce ≡ 16
  pub short : AreShort history
  pub stands : standing_after session keys history ≡ Some standing
  pub holds : tables_after (program_of session.phrase session.root) (makings session keys) (nonce session.nonce) history ≡ Some tables
  pub shown : IsShown tables standing

-- the same after one entry more
pub record IsPlayedOn (session : Session) (keys : List (List ℕ × List ℕ)) (history : List Entry) (standing : Standing) (entry : Entry) (tables : Tables) : Type 0 where
  pub then_stands : Standing
  pub possible : next session keys standing entry ≡ Some then_stands
  pub played : IsPlayed session keys (history ++ entry ∷ []) then_stands tables

-- the machines can take an entry
pub record CanTake (program : List CodeBlock) (from : Makings) (tables : Tables) (entry : Entry) : Type 0 where
  pub later : Tables
  pub taken : step_tables program from tables entry ≡ Some later
