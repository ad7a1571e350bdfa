-- What the program's own bench gives, and where it fails; and which sessions it brings to their end.
use Rattle.std.specs.Prelude.{◌≡◌, ◌↔◌, ℕ, List, [], ◌∷◌, Some}
use Rattle.bench_trait.specs.declared.artefacts.Artefact.{Artefact}
use Rattle.bench_trait.specs.Digest.{LacksArtefact, digest_answer}
use Rattle.session_model.specs.Record.{Record}
use Rattle.session_model.specs.Session.{Session, session_questions}
use Rattle.plain_eval.specs.Fixed.{HaveArtefacts, SaysDone}
use Rattle.copland_cli.specs.Reported.{Failing, Giving, Starving, ending_of, some_failed}
use Rattle.copland_cli.specs.declared.ending.Ending.{Ending}

-- the digest over the artefact that is asked for
abbrev pub DigestGives : Giving
DigestGives artefacts ask answer = digest_answer artefacts ask ≡ Some answer

-- there is no such artefact
abbrev pub DigestFails : Failing
DigestFails artefacts ask fault = LacksArtefact artefacts ask fault

-- it takes no memory
abbrev pub DigestStarves : Starving
DigestStarves artefacts ask = ⊥

-- one record of each session, in their order, which says that the session is done exactly where these
-- artefacts have each one that the session asks for
abbrev pub AreDoneWhereThere : List Artefact → List Session → List Record → Type 0
AreDoneWhereThere artefacts [] [] = Unit {0}
AreDoneWhereThere artefacts [] (found ∷ records) = ⊥
AreDoneWhereThere artefacts (session ∷ sessions) [] = ⊥
AreDoneWhereThere artefacts (session ∷ sessions) (found ∷ records) =
    (SaysDone found ↔ HaveArtefacts artefacts (session_questions session)) × AreDoneWhereThere artefacts sessions records

-- the report is this text of such records, and ends by whether one of the sessions failed
pub record IsDoneWhereThere (artefacts : List Artefact) (sessions : List Session) (text_of : List Record → List ℕ) (text : List ℕ) (ending : Ending) : Type 0 where
  pub records : List Record
  pub each : AreDoneWhereThere artefacts sessions records
  pub reported : text ≡ text_of records
  pub ended : ending ≡ ending_of (some_failed records)
