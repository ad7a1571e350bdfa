-- What it means that sessions are played to their end (this project's own).
use Rattle.std.specs.Prelude.{◌≡◌, ◌+◌, ◌⊎◌, ℕ, true, List, [], ◌∷◌, Some, Result, Ok, Err, Contains}
use Rattle.phrase_tree.specs.Term.{Term, at, chain, seq, par}
use Rattle.bench_trait.specs.declared.ask.Ask.{Ask}
use Rattle.bench_trait.specs.declared.bench.BenchFault.{BenchFault}
use Rattle.bench_trait.specs.declared.bench.MeasureError.{MeasureError}
use Rattle.bench_trait.specs.declared.bench.MeasureError.TheVariants.{Fault, NoMemory}
use Rattle.bench_trait.specs.Asking.{question_among}
use Rattle.bench_trait.specs.Bench.{MatchMeasured}
use Rattle.session_model.specs.Session.{Session, session_questions}
use Rattle.session_runs.specs.Standing.{Entry, opened, played, answered, failed, starved}
use Rattle.session_runs.specs.History.{standing_after, IsLegal}
use Rattle.session_runs.specs.Schedule.{Walked, open_count, one_starves}

-- the places that a phrase asks are among these
abbrev pub AsksOnly : List (List ℕ) → Term → Type 0
AsksOnly places (at asked body) = Contains places asked × AsksOnly places body
AsksOnly places (chain left right) = AsksOnly places left × AsksOnly places right
AsksOnly places (seq split left right) = AsksOnly places left × AsksOnly places right
AsksOnly places (par split left right) = AsksOnly places left × AsksOnly places right
AsksOnly places _ = Unit {0}

-- those that the phrases of these sessions ask
abbrev pub AskOnly : List (List ℕ) → List Session → Type 0
AskOnly places [] = Unit {0}
AskOnly places (session ∷ sessions) = AsksOnly places session.phrase × AskOnly places sessions

-- an entry by the pass 0; a result is the one of its event
abbrev pub IsWalked : (ℕ → Result (List ℕ) MeasureError) → Entry → Type 0
IsWalked results opened = Unit {0}
IsWalked results (played pass move) = pass ≡ 0
IsWalked results (answered pass event bytes) = (pass ≡ 0) × (results event ≡ Ok bytes)
IsWalked results (failed pass event fault) = (pass ≡ 0) × (results event ≡ Err (Fault fault))
IsWalked results (starved pass event) = (pass ≡ 0) × (results event ≡ Err NoMemory)

abbrev pub AreWalked : (ℕ → Result (List ℕ) MeasureError) → List Entry → Type 0
AreWalked results [] = Unit {0}
AreWalked results (entry ∷ entries) = IsWalked results entry × AreWalked results entries

-- that of each of these sessions; `number` is that of the first
abbrev pub AllWalked : (ℕ → ℕ → Result (List ℕ) MeasureError) → ℕ → List Walked → Type 0
AllWalked results number [] = Unit {0}
AllWalked results number (walked ∷ all) = AreWalked (results number) walked.history × AllWalked results (number + 1) all

-- this session, with a history that it can have and that has these results, and as it stands after it
pub record IsPlayed (keys : List (List ℕ × List ℕ)) (results : ℕ → Result (List ℕ) MeasureError) (session : Session) (walked : Walked) : Type 0 where
  pub same : walked.session ≡ session
  pub stands : standing_after session keys walked.history ≡ Some walked.standing
  pub entries : AreWalked results walked.history

-- these sessions, each so; `number` is that of the first
abbrev pub ArePlayed : List (List ℕ × List ℕ) → (ℕ → ℕ → Result (List ℕ) MeasureError) → ℕ → List Session → List Walked → Type 0
ArePlayed keys results number [] [] = Unit {0}
ArePlayed keys results number [] (walked ∷ all) = ⊥
ArePlayed keys results number (session ∷ sessions) [] = ⊥
ArePlayed keys results number (session ∷ sessions) (walked ∷ all) =
    IsPlayed keys (results number) session walked × ArePlayed keys results (number + 1) sessions all

-- none is open, or one is starved
abbrev pub AreOver : List Walked → Type 0
AreOver all = (open_count all ≡ 0) ⊎ (one_starves all ≡ true)

-- the result of an event is one of the bench for its question, where it has one
abbrev pub IsMeasured : (Ask → List ℕ → Type 0) → (Ask → BenchFault → Type 0) → (Ask → Type 0) → (ℕ → Result (List ℕ) MeasureError) → List Ask → ℕ → Type 0
IsMeasured Gives Fails Starves results asks event =
    (ask : Ask) → question_among asks event ≡ Some ask → MatchMeasured (results event) (Gives ask) (Fails ask) (Starves ask)

-- that of the event of an entry, where it is a result
abbrev pub IsMeasuredAt : (Ask → List ℕ → Type 0) → (Ask → BenchFault → Type 0) → (Ask → Type 0) → (ℕ → Result (List ℕ) MeasureError) → List Ask → Entry → Type 0
IsMeasuredAt Gives Fails Starves results asks (answered pass event bytes) = IsMeasured Gives Fails Starves results asks event
IsMeasuredAt Gives Fails Starves results asks (failed pass event fault) = IsMeasured Gives Fails Starves results asks event
IsMeasuredAt Gives Fails Starves results asks (starved pass event) = IsMeasured Gives Fails Starves results asks event
IsMeasuredAt Gives Fails Starves results asks _ = Unit {0}

-- each result that stands in a history is one of the bench
abbrev pub AreMeasured : (Ask → List ℕ → Type 0) → (Ask → BenchFault → Type 0) → (Ask → Type 0) → (ℕ → Result (List ℕ) MeasureError) → List Ask → List Entry → Type 0
AreMeasured Gives Fails Starves results asks [] = Unit {0}
AreMeasured Gives Fails Starves results asks (entry ∷ entries) =
    IsMeasuredAt Gives Fails Starves results asks entry × AreMeasured Gives Fails Starves results asks entries

-- each that stands in the histories of these sessions; `number` is that of the first
abbrev pub AllMeasured : (Ask → List ℕ → Type 0) → (Ask → BenchFault → Type 0) → (Ask → Type 0) → (ℕ → ℕ → Result (List ℕ) MeasureError) → ℕ → List Walked → Type 0
AllMeasured Gives Fails Starves results number [] = Unit {0}
AllMeasured Gives Fails Starves results number (walked ∷ all) =
    AreMeasured Gives Fails Starves (results number) (session_questions walked.session) walked.history × AllMeasured Gives Fails Starves results (number + 1) all

-- each of these sessions has a legal history
abbrev pub AreLegal : (Ask → List ℕ → Type 0) → (Ask → BenchFault → Type 0) → (Ask → Type 0) → List (List ℕ × List ℕ) → List Session → List Walked → Type 0
AreLegal Gives Fails Starves keys [] [] = Unit {0}
AreLegal Gives Fails Starves keys [] (walked ∷ all) = ⊥
AreLegal Gives Fails Starves keys (session ∷ sessions) [] = ⊥
AreLegal Gives Fails Starves keys (session ∷ sessions) (walked ∷ all) =
    IsLegal Gives Fails Starves session keys walked.history walked.standing × AreLegal Gives Fails Starves keys sessions all
