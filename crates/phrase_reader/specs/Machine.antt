-- How a reader goes from token to token. Nothing public names this: it is what the reader's own functions
-- promise one another, and the laws in proofs/ lead from it to the grammar.
use Rattle.std.specs.Prelude.{◌≡◌, ◌+◌, ◌++◌, ℕ, Bool, true, false, List, [], ◌∷◌, Option, Some, None, Result, Ok, Err, is_some, length, nat_le, nat_lt, option_map, option_and_then, if◌then◌else◌, Box}
use Rattle.phrase_tree.specs.declared.phrase.TheConstants.{EVENTS, BRACKETS}
use Rattle.phrase_tree.specs.declared.measurement.Arg.{Arg}
use Rattle.phrase_tree.specs.declared.measurement.Arg.TheVariants.{Word, Number}
use Rattle.phrase_tree.specs.declared.measurement.Asp.{Asp}
use Rattle.phrase_tree.specs.declared.phrase.Phrase.{Phrase}
use Rattle.phrase_tree.specs.Term.{Term, leaf, usm, kim, at, chain, term}
use Rattle.phrase_reader.specs.declared.refusal.Kind.{Kind}
use Rattle.phrase_reader.specs.declared.refusal.Kind.TheVariants as kinds
use Rattle.phrase_reader.specs.declared.token.Op.{Op}
use Rattle.phrase_reader.specs.declared.token.Token.{Token}
use Rattle.phrase_reader.specs.declared.token.Token.TheVariants as tokens
use Rattle.phrase_reader.specs.declared.state.Bracket.{Bracket}
use Rattle.phrase_reader.specs.declared.state.Bracket.TheVariants.{Round, Square}
use Rattle.phrase_reader.specs.declared.state.Arm as coded_arm
use Rattle.phrase_reader.specs.declared.state.Parts as coded_parts
use Rattle.phrase_reader.specs.declared.state.Frame as coded_frame
use Rattle.phrase_reader.specs.declared.state.Stage as coded_stage
use Rattle.phrase_reader.specs.declared.state.Stage.TheVariants as stages
use Rattle.phrase_reader.specs.declared.state.State as coded
use Rattle.phrase_reader.specs.declared.state.Stop.{Stop}
use Rattle.phrase_reader.specs.declared.state.Stop.TheVariants.{Unfit, Limit, Memory}
use Rattle.phrase_reader.specs.Grammar.{bare, measurement, joined}
use Rattle.phrase_reader.specs.Refusal.{token_events}

-- the left arm of a branch whose op was read
pub record Arm : Type 0 where
  pub op : Op
  pub left : Term

-- what was read of an open branch before its last unit: the left arm with the op, the chain with its arrow
pub record Parts : Type 0 where
  pub arm : Option Arm
  pub link : Option Term

-- an open branch with the bracket that was opened behind its parts
pub record Frame : Type 0 where
  pub outer : Parts
  pub bracket : Bracket

-- what was read of the last unit
pub data Stage : Type 0 where
  unit_next : Stage
  place_next : Stage
  square_next : List ℕ → Stage
  target_next : Stage
  service_next : Option (List ℕ) → Stage
  measured : Option (List ℕ) → Asp → Stage
  ended : Term → Stage

-- the innermost open branch, those around it from the inside out, and the stage
pub record State : Type 0 where
  pub inner : Parts
  pub stack : List Frame
  pub stage : Stage

abbrev pub fresh : Parts
fresh = record { arm = None; link = None }

abbrev pub start : State
start = record { inner = fresh; stack = []; stage = unit_next }

abbrev pub chain_with : Option Term → Term → Term
chain_with None unit = unit
chain_with (Some left) unit = chain left unit

abbrev pub branch_with : Option Arm → Term → Term
branch_with None right = right
branch_with (Some arm) right = joined arm.op arm.left right

-- the unit that has ended, or that may end here
abbrev pub unit_of : Stage → Option Term
unit_of (measured target asp) = Some (measurement target asp)
unit_of (ended unit) = Some unit
unit_of _ = None

abbrev pub whole_with : Parts → Term → Term
whole_with parts unit = branch_with parts.arm (chain_with parts.link unit)

-- the innermost branch, if it may end here
abbrev pub branch_of : State → Option Term
branch_of state = option_map (whole_with state.inner) (unit_of state.stage)

abbrev pub finished_with : List Frame → Option Term → Option Term
finished_with [] phrase = phrase
finished_with (frame ∷ rest) phrase = None

-- the phrase, if it may end here
abbrev pub finished : State → Option Term
finished state = finished_with state.stack (branch_of state)

abbrev pub bracketed : Bracket → Term → Term
bracketed Round phrase = phrase
bracketed (Square place) phrase = at place phrase

abbrev pub begun_from : Stage → Parts → List Frame → Stage → Option State
begun_from unit_next inner stack next = Some (record { inner = inner; stack = stack; stage = next })
begun_from _ inner stack next = None

-- a unit begins
abbrev pub begun : State → Stage → Option State
begun state next = begun_from state.stage state.inner state.stack next

abbrev pub inside : Parts → List Frame → Bracket → State
inside inner stack bracket =
    record { inner = fresh; stack = record { outer = inner; bracket = bracket } ∷ stack; stage = unit_next }

abbrev pub round_opened : Stage → State → Option State
round_opened unit_next state = Some (inside state.inner state.stack Round)
round_opened _ state = None

abbrev pub square_opened : Stage → State → Option State
square_opened (square_next place) state = Some (inside state.inner state.stack (Square place))
square_opened _ state = None

abbrev pub left_behind : Frame → List Frame → Term → State
left_behind frame rest phrase =
    record { inner = frame.outer; stack = rest; stage = ended (bracketed frame.bracket phrase) }

abbrev pub round_left : Bracket → State → Option State
round_left Round next = Some next
round_left (Square place) next = None

abbrev pub square_left : Bracket → State → Option State
square_left Round next = None
square_left (Square place) next = Some next

abbrev pub round_closed : List Frame → Option Term → Option State
round_closed [] phrase = None
round_closed (frame ∷ rest) None = None
round_closed (frame ∷ rest) (Some phrase) = round_left frame.bracket (left_behind frame rest phrase)

abbrev pub square_closed : List Frame → Option Term → Option State
square_closed [] phrase = None
square_closed (frame ∷ rest) None = None
square_closed (frame ∷ rest) (Some phrase) = square_left frame.bracket (left_behind frame rest phrase)

abbrev pub linked : Parts → List Frame → Term → State
linked inner stack unit =
    record { inner = record { arm = inner.arm; link = Some (chain_with inner.link unit) }; stack = stack; stage = unit_next }

abbrev pub armed : Parts → List Frame → Op → Term → State
armed inner stack op unit =
    record { inner = record { arm = Some (record { op = op; left = chain_with inner.link unit }); link = None }; stack = stack; stage = unit_next }

abbrev pub branched : Option Arm → Option State → Option State
branched None next = next
branched (Some arm) next = None

-- a name, where one must come
abbrev pub with_name : Stage → List ℕ → Option Stage
with_name place_next name = Some (square_next name)
with_name target_next name = Some (service_next (Some name))
with_name (service_next target) name = Some (measured target (record { name = name; args = [] }))
with_name _ name = None

abbrev pub named : Stage → Arg → Option Stage
named stage (Word name) = with_name stage name
named stage (Number number) = None

abbrev pub with_arg : Asp → Arg → Asp
with_arg asp value = record { name = asp.name; args = asp.args ++ value ∷ [] }

-- a name or a decimal
abbrev pub valued : Stage → Arg → Option Stage
valued (measured target asp) value = Some (measured target (with_arg asp value))
valued stage value = named stage value

abbrev pub with_stage : State → Stage → State
with_stage state stage = record { inner = state.inner; stack = state.stack; stage = stage }

-- the state behind one more token, if it fits
abbrev pub step : State → Token → Option State
step state (tokens.Leaf which) = begun state (ended (bare which))
step state tokens.Usm = begun state (service_next None)
step state tokens.Kim = begun state target_next
step state tokens.At = begun state place_next
step state tokens.OpenRound = round_opened state.stage state
step state tokens.CloseRound = round_closed state.stack (branch_of state)
step state tokens.OpenSquare = square_opened state.stage state
step state tokens.CloseSquare = square_closed state.stack (branch_of state)
step state tokens.Arrow = option_map (linked state.inner state.stack) (unit_of state.stage)
step state (tokens.Op op) =
    branched state.inner.arm (option_map (armed state.inner state.stack op) (unit_of state.stage))
step state (tokens.Value value) = option_map (with_stage state) (valued state.stage value)

abbrev pub run : State → List Token → Option State
run state [] = Some state
run state (token ∷ rest) = option_and_then (λ next. run next rest) (step state token)

abbrev pub full : Asp → Option Kind
full asp = if nat_le 4 (length asp.args) then Some kinds.TooManyArgs else None

abbrev pub args_full : Stage → Bool
args_full (measured target asp) = nat_le 4 (length asp.args)
args_full _ = false

abbrev pub too_many : Stage → Option Kind
too_many stage = if args_full stage then Some kinds.TooManyArgs else None

abbrev pub too_deep : List Frame → Option Kind
too_deep stack = if nat_le BRACKETS (length stack) then Some kinds.TooDeep else None

-- the limit that a token breaks which fits, the count of events aside
abbrev pub limit : State → Token → Option Kind
limit state (tokens.Value value) = too_many state.stage
limit state tokens.OpenRound = too_deep state.stack
limit state tokens.OpenSquare = too_deep state.stack
limit state _ = None

abbrev pub limited : Option Kind → ℕ → Option Kind
limited (Some kind) events = Some kind
limited None events = if nat_lt EVENTS events then Some kinds.TooManyEvents else None

abbrev pub unfit : Option Term → Kind
unfit (Some phrase) = kinds.Trailing
unfit None = kinds.Expected

abbrev pub verdict_on : Option State → Kind → Option Kind → Option Kind
verdict_on None kind limits = Some kind
verdict_on (Some next) kind limits = limits

-- the rule that a token breaks behind a state with so many events
abbrev pub verdict : State → ℕ → Token → Option Kind
verdict state events token =
    verdict_on (step state token) (unfit (finished state)) (limited (limit state token) (events + token_events token))

-- what the program's values stand for
abbrev pub boxed_term : {Z : Type 0} → Box Phrase Z → Term
boxed_term phrase = term phrase.value

-- a measurement that may have more arguments; any other phrase takes none
abbrev pub measured_of : Term → Stage
measured_of (leaf (usm asp)) = measured None asp
measured_of (leaf (kim target asp)) = measured (Some target) asp
measured_of phrase = ended phrase

abbrev pub arm_of : coded_arm.Arm → Arm
arm_of arm = record { op = arm.op; left = boxed_term arm.left }

abbrev pub parts_of : coded_parts.Parts → Parts
parts_of parts = record { arm = option_map arm_of parts.arm; link = option_map boxed_term parts.link }

abbrev pub frame_of : coded_frame.Frame → Frame
frame_of frame = record { outer = parts_of frame.outer; bracket = frame.bracket }

-- the frames from the inside out: the last of the list is the innermost
abbrev pub frames_on : List Frame → List coded_frame.Frame → List Frame
frames_on stack [] = stack
frames_on stack (frame ∷ rest) = frames_on (frame_of frame ∷ stack) rest

abbrev pub stage_of : coded_stage.Stage → Stage
stage_of stages.Unit = unit_next
stage_of stages.Place = place_next
stage_of (stages.Square place) = square_next place
stage_of stages.Target = target_next
stage_of (stages.Service target) = service_next target
stage_of (stages.Measured unit) = measured_of (boxed_term unit)
stage_of (stages.Ended unit) = ended (boxed_term unit)

abbrev pub state_of : coded.State → State
state_of state =
    record { inner = parts_of state.inner; stack = frames_on [] state.frames.items; stage = stage_of state.stage }

-- a call took what it was called on to what stands behind a token, unless the token doesn't fit, or breaks
-- a limit; then nothing is said of what it was called on
abbrev pub Steps : {A S : Type 0} → Result A Stop → S → Option S → Option Kind → Type 0
Steps (Ok done) next after limits = (after ≡ Some next) × (limits ≡ None)
Steps (Err Unfit) next after limits = after ≡ None
Steps (Err (Limit kind)) next after limits = (is_some after ≡ true) × (limits ≡ Some kind)
Steps (Err Memory) next after limits = Unit {0}

-- the same for a call that gives a stage
abbrev pub GivesStage : Result coded_stage.Stage Stop → Option Stage → Option Kind → Type 0
GivesStage (Ok next) after limits = (after ≡ Some (stage_of next)) × (limits ≡ None)
GivesStage (Err Unfit) after limits = after ≡ None
GivesStage (Err (Limit kind)) after limits = (is_some after ≡ true) × (limits ≡ Some kind)
GivesStage (Err Memory) after limits = Unit {0}
