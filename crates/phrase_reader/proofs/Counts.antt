-- Events and brackets, counted token by token: the open branches are the open brackets.
use Rattle.std.proofs.Common.{◌≡◌, ◌+◌, ◌++◌, ℕ, List, [], ◌∷◌, Option, Some, None, length, refl, ap, arith, option_map, option_and_then}
use Rattle.phrase_tree.specs.Term.{Term}
use Rattle.phrase_reader.specs.declared.token.Op.{Op}
use Rattle.phrase_reader.specs.declared.token.Token.{Token}
use Rattle.phrase_reader.specs.declared.token.Token.TheVariants as tokens
use Rattle.phrase_reader.specs.declared.state.Bracket.{Bracket}
use Rattle.phrase_reader.specs.declared.state.Bracket.TheVariants.{Round, Square}
use Rattle.phrase_reader.specs.Grammar.{bare}
use Rattle.phrase_reader.specs.Refusal.{events_in, opens, closes, opened_in, closed_in, open_in}
use Rattle.phrase_reader.specs.Machine.{Arm, Parts, Frame, Stage, State, unit_next, place_next, square_next, target_next, service_next, measured, ended, start, unit_of, branch_of, begun_from, inside, round_opened, square_opened, left_behind, round_left, square_left, round_closed, square_closed, linked, armed, branched, valued, with_stage, step, run}
use Rattle.phrase_reader.proofs.Drives.{some_same, state_at}

pub events_joined : (front back : List Token) → events_in (front ++ back) ≡ events_in front + events_in back
events_joined [] back = omega arith
events_joined (token ∷ rest) back = omega (arith, events_joined rest back)

pub opened_joined : (front back : List Token) → opened_in (front ++ back) ≡ opened_in front + opened_in back
opened_joined [] back = omega arith
opened_joined (token ∷ rest) back = omega (arith, opened_joined rest back)

pub closed_joined : (front back : List Token) → closed_in (front ++ back) ≡ closed_in front + closed_in back
closed_joined [] back = omega arith
closed_joined (token ∷ rest) back = omega (arith, closed_joined rest back)

abbrev pub height : State → ℕ
height state = length state.stack

height_same : (state next : State) → Some state ≡ Some next → height state ≡ height next
height_same state next h = ap height (some_same state next h)

begun_height : (stage : Stage) (inner : Parts) (stack : List Frame) (new : Stage) (next : State) → begun_from stage inner stack new ≡ Some next → length stack ≡ height next
begun_height unit_next inner stack new next h = height_same (state_at inner stack new) next h
begun_height _ inner stack new next h = cc

round_opened_height : (stage : Stage) (inner : Parts) (stack : List Frame) (next : State) → round_opened stage (state_at inner stack stage) ≡ Some next → 1 + length stack ≡ height next
round_opened_height unit_next inner stack next h = omega (arith, height_same (inside inner stack Round) next h)
round_opened_height _ inner stack next h = cc

square_opened_height : (stage : Stage) (inner : Parts) (stack : List Frame) (next : State) → square_opened stage (state_at inner stack stage) ≡ Some next → 1 + length stack ≡ height next
square_opened_height (square_next place) inner stack next h = omega (arith, height_same (inside inner stack (Square place)) next h)
square_opened_height unit_next inner stack next h = cc
square_opened_height place_next inner stack next h = cc
square_opened_height target_next inner stack next h = cc
square_opened_height (service_next target) inner stack next h = cc
square_opened_height (measured target asp) inner stack next h = cc
square_opened_height (ended unit) inner stack next h = cc

round_left_height : (bracket : Bracket) (state next : State) → round_left bracket state ≡ Some next → height state ≡ height next
round_left_height Round state next h = height_same state next h
round_left_height (Square place) state next h = cc

square_left_height : (bracket : Bracket) (state next : State) → square_left bracket state ≡ Some next → height state ≡ height next
square_left_height Round state next h = cc
square_left_height (Square place) state next h = height_same state next h

round_closed_height : (stack : List Frame) (phrase : Option Term) (next : State) → round_closed stack phrase ≡ Some next → length stack ≡ 1 + height next
round_closed_height [] phrase next h = cc
round_closed_height (frame ∷ rest) None next h = cc
round_closed_height (frame ∷ rest) (Some phrase) next h =
    omega (arith, round_left_height frame.bracket (left_behind frame rest phrase) next h)

square_closed_height : (stack : List Frame) (phrase : Option Term) (next : State) → square_closed stack phrase ≡ Some next → length stack ≡ 1 + height next
square_closed_height [] phrase next h = cc
square_closed_height (frame ∷ rest) None next h = cc
square_closed_height (frame ∷ rest) (Some phrase) next h =
    omega (arith, square_left_height frame.bracket (left_behind frame rest phrase) next h)

arrow_height : (inner : Parts) (stack : List Frame) (o : Option Term) (next : State) → option_map (linked inner stack) o ≡ Some next → length stack ≡ height next
arrow_height inner stack None next h = cc
arrow_height inner stack (Some unit) next h = height_same (linked inner stack unit) next h

op_height : (arm : Option Arm) (inner : Parts) (stack : List Frame) (op : Op) (o : Option Term) (next : State) → branched arm (option_map (armed inner stack op) o) ≡ Some next → length stack ≡ height next
op_height (Some arm) inner stack op o next h = cc
op_height None inner stack op None next h = cc
op_height None inner stack op (Some unit) next h = height_same (armed inner stack op unit) next h

value_height : (state : State) (o : Option Stage) (next : State) → option_map (with_stage state) o ≡ Some next → height state ≡ height next
value_height state None next h = cc
value_height state (Some stage) next h = height_same (with_stage state stage) next h

pub step_height : (state : State) (token : Token) (next : State) → step state token ≡ Some next → opens token + height state ≡ closes token + height next
step_height s (tokens.Leaf which) next h = omega (arith, begun_height s.stage s.inner s.stack (ended (bare which)) next h)
step_height s tokens.Usm next h = omega (arith, begun_height s.stage s.inner s.stack (service_next None) next h)
step_height s tokens.Kim next h = omega (arith, begun_height s.stage s.inner s.stack target_next next h)
step_height s tokens.At next h = omega (arith, begun_height s.stage s.inner s.stack place_next next h)
step_height s tokens.OpenRound next h = omega (arith, round_opened_height s.stage s.inner s.stack next h)
step_height s tokens.CloseRound next h = omega (arith, round_closed_height s.stack (branch_of s) next h)
step_height s tokens.OpenSquare next h = omega (arith, square_opened_height s.stage s.inner s.stack next h)
step_height s tokens.CloseSquare next h = omega (arith, square_closed_height s.stack (branch_of s) next h)
step_height s tokens.Arrow next h = omega (arith, arrow_height s.inner s.stack (unit_of s.stage) next h)
step_height s (tokens.Op op) next h = omega (arith, op_height s.inner.arm s.inner s.stack op (unit_of s.stage) next h)
step_height s (tokens.Value value) next h = omega (arith, value_height s (valued s.stage value) next h)

height_after : (state : State) (token : Token) (rest : List Token) (next : State) (o : Option State) → step state token ≡ o → option_and_then (λ s. run s rest) o ≡ Some next → ((s : State) → run s rest ≡ Some next → opened_in rest + height s ≡ closed_in rest + height next) → opened_in (token ∷ rest) + height state ≡ closed_in (token ∷ rest) + height next
height_after state token rest next None e h f = cc
height_after state token rest next (Some s) e h f = omega (arith, step_height state token s e, f s h)

pub run_height : (spelled : List Token) (state next : State) → run state spelled ≡ Some next → opened_in spelled + height state ≡ closed_in spelled + height next
run_height [] state next h = omega (arith, height_same state next h)
run_height (token ∷ rest) state next h =
    height_after state token rest next (step state token) refl h (λ s g. run_height rest s next g)

pub open_height : (spelled : List Token) (state : State) → run start spelled ≡ Some state → open_in spelled ≡ height state
open_height spelled state h = omega (arith, run_height spelled start state h)
