-- A block asks: its question is the session's own.
use Rattle.std.proofs.Common.{◌≡◌, ℕ, Bool, true, false, List, [], ◌∷◌, Option, None, Some, refl, sym, ap, ◌∙◌, subst}
use Rattle.bench_trait.specs.declared.ask.Ask.{Ask}
use Rattle.bench_trait.specs.declared.ask.AskKind.TheVariants.{Usm as OfItself, Kim as OfTarget}
use Rattle.bench_trait.specs.Asking.{question}
use Rattle.session_model.specs.Session.{Session}
use Rattle.session_runs.specs.Moves.{Step, run as run_step, ask as ask_step}
use Rattle.session_runs.specs.Standing.{Block, of}
use Rattle.evidence_types.specs.Evidence.{Evidence}
use Rattle.avm_code.specs.declared.instr.Instr.{Instr}
use Rattle.avm_code.specs.declared.instr.Instr.TheVariants.{Copy, Usm, Kim, Sign, Hash, Null, Split, Swap, JoinSeq, Send, Recv, Fork, JoinPar, End}
use Rattle.machine_tables.specs.Allowed.{Measures}
use Rattle.machine_tables.specs.Tables.{BlockState, not_started, running, over, Tables, Next, next_unless, next_with, next_by, next_in, next_at, next_of, is_asked, result_of}
use Rattle.machine_world.specs.Answers.{ask_for, ask_in, ask_at}
use Rattle.session_tables.specs.Questions.{AsksItsQuestion, AsksNext}

-- ---- a step that asks has an event

abbrev StepAsks : Step → Option ℕ → Type 0
StepAsks run_step event = Unit {0}
StepAsks ask_step None = ⊥
StepAsks ask_step (Some n) = Unit {0}

abbrev NextAsks : Next → Type 0
NextAsks None = Unit {0}
NextAsks (Some step) = StepAsks step.0 step.1

unless_asks : (b : Bool) (n : ℕ) → NextAsks (next_unless b n)
unless_asks true n = tt
unless_asks false n = tt

with_asks : (o : Option Evidence) (n : ℕ) → NextAsks (next_with o n)
with_asks None n = tt
with_asks (Some v) n = tt

by_asks : (tables : Tables) (instr : Instr) → NextAsks (next_by tables instr)
by_asks tables (Copy i) = tt
by_asks tables (Usm i asp) = unless_asks (is_asked (tables.in_flight i)) i
by_asks tables (Kim i target asp) = unless_asks (is_asked (tables.in_flight i)) i
by_asks tables (Sign i) = tt
by_asks tables (Hash i) = tt
by_asks tables (Null i) = tt
by_asks tables (Split i split) = tt
by_asks tables Swap = tt
by_asks tables (JoinSeq i) = tt
by_asks tables (Send i place) = tt
by_asks tables (Recv j i) = with_asks (tables.replies i) j
by_asks tables (Fork i split) = tt
by_asks tables (JoinPar j i) = with_asks (result_of (tables.blocks (of i))) j
by_asks tables End = tt

in_asks : (tables : Tables) (code : List Instr) → NextAsks (next_in tables code)
in_asks tables [] = tt
in_asks tables (instr ∷ rest) = by_asks tables instr

at_asks : (tables : Tables) (cell : BlockState) → NextAsks (next_at tables cell)
at_asks tables not_started = tt
at_asks tables (running remote local) = in_asks tables local.rest
at_asks tables (over result) = tt

some_event : (event : Option ℕ) → StepAsks ask_step event → (n : ℕ) × (event ≡ Some n)
some_event None h = elim h [ ]
some_event (Some n) h = (n, refl)

as_step : (event : Option ℕ) → NextAsks (Some (ask_step, event)) → StepAsks ask_step event
as_step event h = h

pub asks-event : (tables : Tables) (name : Block) (event : Option ℕ) → next_of tables name ≡ Some (ask_step, event) → (n : ℕ) × (next_of tables name ≡ Some (ask_step, Some n))
asks-event tables name event is =
    let one = some_event event (as_step event (subst NextAsks is (at_asks tables (tables.blocks name)))) in
    (one.0, is ∙ ap (λ (o : Option ℕ). let n : Next = Some (ask_step, o) in n) one.1)

-- ---- the question

pub record Finds (session : Session) (event : ℕ) (found : Option Ask) : Type 0 where
  pub asked : Ask
  pub is : found ≡ Some asked
  pub names : asked.event ≡ event
  pub own : question session.phrase session.root session.nonce asked.event ≡ Some asked

finds_for : (session : Session) (place : List ℕ) (event : ℕ) (instr : Instr) → Measures event instr → AsksItsQuestion session place instr → Finds session event (ask_for session.nonce place instr)
finds_for session place event (Usm i asp) m q =
    record { asked = record { nonce = session.nonce; event = i; place = place; kind = OfItself; asp = asp }; is = refl; names = m; own = q }
finds_for session place event (Kim i target asp) m q =
    record { asked = record { nonce = session.nonce; event = i; place = place; kind = OfTarget target; asp = asp }; is = refl; names = m; own = q }
finds_for session place event (Copy i) m q = elim m [ ]
finds_for session place event (Sign i) m q = elim m [ ]
finds_for session place event (Hash i) m q = elim m [ ]
finds_for session place event (Null i) m q = elim m [ ]
finds_for session place event (Split i split) m q = elim m [ ]
finds_for session place event Swap m q = elim m [ ]
finds_for session place event (JoinSeq i) m q = elim m [ ]
finds_for session place event (Send i asked) m q = elim m [ ]
finds_for session place event (Recv j i) m q = elim m [ ]
finds_for session place event (Fork i split) m q = elim m [ ]
finds_for session place event (JoinPar j i) m q = elim m [ ]
finds_for session place event End m q = elim m [ ]

pub finds : (session : Session) (nonce : List ℕ) (place : List ℕ) (event : ℕ) (cell : BlockState) → nonce ≡ session.nonce → AsksNext session place event cell → Finds session event (ask_at nonce place cell)
finds session nonce place event cell same next =
    let e = ap (λ (n : List ℕ). ask_at n place cell) same ∙ ap (ask_at session.nonce place) next.runs ∙ ap (ask_in session.nonce place) next.next in
    subst (Finds session event) (sym e) (finds_for session place event next.instr next.measures next.asks)

some_same : (a b : Ask) → (let o : Option Ask = Some a in o) ≡ Some b → a ≡ b
some_same a b e = cc

pub found-is : (session : Session) (event : ℕ) (found : Option Ask) (asked : Ask) → Finds session event found → found ≡ Some asked → (asked.event ≡ event) × (question session.phrase session.root session.nonce asked.event ≡ Some asked)
found-is session event found asked finds is =
    let same = some_same finds.asked asked (sym finds.is ∙ is) in
    (subst (λ (a : Ask). a.event ≡ event) same finds.names, subst (λ (a : Ask). question session.phrase session.root session.nonce a.event ≡ Some a) same finds.own)

pub not-found : (session : Session) (event : ℕ) (found : Option Ask) → Finds session event found → found ≡ None → ⊥
not-found session event found finds is = absurd (some_none (sym finds.is ∙ is))
  where
    some_none : (let o : Option Ask = Some finds.asked in o) ≡ None → ⊥
    some_none e = cc
