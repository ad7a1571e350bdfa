-- What spells a phrase drives the reader to its end: a run over a joined list, and the run of a derivation.
use Rattle.std.proofs.Common.{◌≡◌, ◌++◌, ℕ, List, [], ◌∷◌, Option, Some, None, map, refl, ap, ◌∙◌, sym, append_assoc, option_map, option_and_then}
use Rattle.std.proofs.lemmas.List.{append-nil}
use Rattle.phrase_tree.specs.declared.measurement.Arg.{Arg}
use Rattle.phrase_tree.specs.declared.measurement.Asp.{Asp}
use Rattle.phrase_tree.specs.Term.{Term, chain, at}
use Rattle.phrase_reader.specs.declared.token.Op.{Op}
use Rattle.phrase_reader.specs.declared.token.Token.{Token}
use Rattle.phrase_reader.specs.declared.token.Token.TheVariants as tokens
use Rattle.phrase_reader.specs.declared.state.Bracket.TheVariants.{Round, Square}
use Rattle.phrase_reader.specs.Grammar.{bare, measurement_tokens, name_token, joined, IsBranch, IsChain, IsUnit, alone, branches, single, links, leaves, measures, asks, brackets}
use Rattle.phrase_reader.specs.Machine.{Arm, Parts, Frame, Stage, State, unit_next, measured, ended, fresh, start, chain_with, whole_with, unit_of, branch_of, finished, step, run, armed, linked, round_closed, square_closed}

bound : (o : Option State) (f g : State → Option State) (next : State) (target : Option State) → option_and_then f o ≡ Some next → ((s : State) → f s ≡ Some next → g s ≡ target) → option_and_then g o ≡ target
bound None f g next target h k = cc
bound (Some s) f g next target h k = k s h

pub some_same : {A : Type 0} (x y : A) → Some x ≡ Some y → x ≡ y
some_same x y h = cc

-- a run over a joined list goes on where the run over its front stopped
pub run_joined : (state : State) (front back : List Token) (next : State) → run state front ≡ Some next → run state (front ++ back) ≡ run next back
run_joined state [] back next h = ap (λ s. run s back) (some_same state next h)
run_joined state (token ∷ rest) back next h =
    bound (step state token) (λ s. run s rest) (λ s. run s (rest ++ back)) next (run next back) h
    (λ s g. run_joined s rest back next g)

abbrev pub state_at : Parts → List Frame → Stage → State
state_at inner stack stage = record { inner = inner; stack = stack; stage = stage }

abbrev pub parts_with : Option Arm → Option Term → Parts
parts_with arm link = record { arm = arm; link = link }

-- a unit was read
pub record UnitRun (inner : Parts) (stack : List Frame) (spelled : List Token) (phrase : Term) : Type 0 where
  pub stage : Stage
  pub runs : run (state_at inner stack unit_next) spelled ≡ Some (state_at inner stack stage)
  pub ends : unit_of stage ≡ Some phrase

-- a chain was read
pub record ChainRun (arm : Option Arm) (stack : List Frame) (spelled : List Token) (phrase : Term) : Type 0 where
  pub link : Option Term
  pub stage : Stage
  pub unit : Term
  pub runs : run (state_at (parts_with arm None) stack unit_next) spelled ≡ Some (state_at (parts_with arm link) stack stage)
  pub ends : unit_of stage ≡ Some unit
  pub whole : chain_with link unit ≡ phrase

-- a branch was read
pub record BranchRun (stack : List Frame) (spelled : List Token) (phrase : Term) : Type 0 where
  pub inner : Parts
  pub stage : Stage
  pub runs : run (state_at fresh stack unit_next) spelled ≡ Some (state_at inner stack stage)
  pub ends : branch_of (state_at inner stack stage) ≡ Some phrase

args_run : (inner : Parts) (stack : List Frame) (target : Option (List ℕ)) (name : List ℕ) (before args : List Arg) → run (state_at inner stack (measured target (record { name = name; args = before }))) (map tokens.Value args) ≡ Some (state_at inner stack (measured target (record { name = name; args = before ++ args })))
args_run inner stack target name before [] =
    ap (λ args. Some (state_at inner stack (measured target (record { name = name; args = args })))) (sym (append-nil before))
args_run inner stack target name before (arg ∷ rest) =
    args_run inner stack target name (before ++ arg ∷ []) rest
    ∙ ap (λ args. Some (state_at inner stack (measured target (record { name = name; args = args })))) (append_assoc before (arg ∷ []) rest)

pub measurement_run : (inner : Parts) (stack : List Frame) (target : Option (List ℕ)) (asp : Asp) → run (state_at inner stack unit_next) (measurement_tokens target asp) ≡ Some (state_at inner stack (measured target asp))
measurement_run inner stack None asp = args_run inner stack None asp.name [] asp.args
measurement_run inner stack (Some target) asp = args_run inner stack (Some target) asp.name [] asp.args

from_chain : (stack : List Frame) (spelled : List Token) (phrase : Term) → ChainRun None stack spelled phrase → BranchRun stack spelled phrase
from_chain stack spelled phrase c = record {
  inner = parts_with None c.link;
  stage = c.stage;
  runs = c.runs;
  ends = ap (option_map (whole_with (parts_with None c.link))) c.ends ∙ ap Some c.whole;
}

from_arms : (stack : List Frame) (spelled ls rs : List Token) (phrase l r : Term) (op : Op) → ChainRun None stack ls l → ((arm : Arm) → ChainRun (Some arm) stack rs r) → spelled ≡ ls ++ tokens.Op op ∷ rs → phrase ≡ joined op l r → BranchRun stack spelled phrase
from_arms stack spelled ls rs phrase l r op a second spells makes =
    let arm : Arm = record { op = op; left = chain_with a.link a.unit } in
    let b = second arm in
    record {
      inner = parts_with (Some arm) b.link;
      stage = b.stage;
      runs =
          ap (run (state_at fresh stack unit_next)) spells
          ∙ (run_joined (state_at fresh stack unit_next) ls (tokens.Op op ∷ rs) (state_at (parts_with None a.link) stack a.stage) a.runs
          ∙ (ap (λ o. option_and_then (λ s. run s rs) (option_map (armed (parts_with None a.link) stack op) o)) a.ends
          ∙ b.runs));
      ends =
          ap (option_map (whole_with (parts_with (Some arm) b.link))) b.ends
          ∙ (ap (λ t. Some (joined op t (chain_with b.link b.unit))) a.whole
          ∙ (ap (λ t. Some (joined op l t)) b.whole
          ∙ ap Some (sym makes)));
    }

from_unit : (arm : Option Arm) (stack : List Frame) (spelled : List Token) (phrase : Term) → UnitRun (parts_with arm None) stack spelled phrase → ChainRun arm stack spelled phrase
from_unit arm stack spelled phrase u = record {
  link = None;
  stage = u.stage;
  unit = phrase;
  runs = u.runs;
  ends = u.ends;
  whole = refl;
}

from_link : (arm : Option Arm) (stack : List Frame) (spelled ls rs : List Token) (phrase l r : Term) → ChainRun arm stack ls l → ((link : Term) → UnitRun (parts_with arm (Some link)) stack rs r) → spelled ≡ ls ++ tokens.Arrow ∷ rs → phrase ≡ chain l r → ChainRun arm stack spelled phrase
from_link arm stack spelled ls rs phrase l r a second spells makes =
    let u = second (chain_with a.link a.unit) in
    record {
      link = Some (chain_with a.link a.unit);
      stage = u.stage;
      unit = r;
      runs =
          ap (run (state_at (parts_with arm None) stack unit_next)) spells
          ∙ (run_joined (state_at (parts_with arm None) stack unit_next) ls (tokens.Arrow ∷ rs) (state_at (parts_with arm a.link) stack a.stage) a.runs
          ∙ (ap (λ o. option_and_then (λ s. run s rs) (option_map (linked (parts_with arm a.link) stack) o)) a.ends
          ∙ u.runs));
      ends = u.ends;
      whole = ap (λ t. chain t r) a.whole ∙ sym makes;
    }

from_brackets : (inner : Parts) (stack : List Frame) (spelled within : List Token) (phrase : Term) → ((frame : Frame) → BranchRun (frame ∷ stack) within phrase) → spelled ≡ tokens.OpenRound ∷ (within ++ tokens.CloseRound ∷ []) → UnitRun inner stack spelled phrase
from_brackets inner stack spelled within phrase second spells =
    let frame : Frame = record { outer = inner; bracket = Round } in
    let b = second frame in
    record {
      stage = ended phrase;
      runs =
          ap (run (state_at inner stack unit_next)) spells
          ∙ (run_joined (state_at fresh (frame ∷ stack) unit_next) within (tokens.CloseRound ∷ []) (state_at b.inner (frame ∷ stack) b.stage) b.runs
          ∙ ap (λ o. option_and_then (λ s. run s []) (round_closed (frame ∷ stack) o)) b.ends);
      ends = refl;
    }

from_request : (inner : Parts) (stack : List Frame) (spelled within : List Token) (place : List ℕ) (phrase body : Term) → ((frame : Frame) → BranchRun (frame ∷ stack) within body) → spelled ≡ tokens.At ∷ name_token place ∷ tokens.OpenSquare ∷ (within ++ tokens.CloseSquare ∷ []) → phrase ≡ at place body → UnitRun inner stack spelled phrase
from_request inner stack spelled within place phrase body second spells makes =
    let frame : Frame = record { outer = inner; bracket = Square place } in
    let b = second frame in
    record {
      stage = ended (at place body);
      runs =
          ap (run (state_at inner stack unit_next)) spells
          ∙ (run_joined (state_at fresh (frame ∷ stack) unit_next) within (tokens.CloseSquare ∷ []) (state_at b.inner (frame ∷ stack) b.stage) b.runs
          ∙ ap (λ o. option_and_then (λ s. run s []) (square_closed (frame ∷ stack) o)) b.ends);
      ends = ap Some (sym makes);
    }

mutual
  pub branch_runs : {spelled : List Token} {phrase : Term} → IsBranch spelled phrase → (stack : List Frame) → BranchRun stack spelled phrase
  branch_runs {spelled} {phrase} (alone only) stack = from_chain stack spelled phrase (chain_runs only None stack)
  branch_runs {spelled} {phrase} (branches ls rs l r op left right spells makes) stack =
      from_arms stack spelled ls rs phrase l r op (chain_runs left None stack) (λ arm. chain_runs right (Some arm) stack) spells makes

  pub chain_runs : {spelled : List Token} {phrase : Term} → IsChain spelled phrase → (arm : Option Arm) (stack : List Frame) → ChainRun arm stack spelled phrase
  chain_runs {spelled} {phrase} (single unit) arm stack = from_unit arm stack spelled phrase (unit_runs unit (parts_with arm None) stack)
  chain_runs {spelled} {phrase} (links ls rs l r left right spells makes) arm stack =
      from_link arm stack spelled ls rs phrase l r (chain_runs left arm stack) (λ link. unit_runs right (parts_with arm (Some link)) stack) spells makes

  pub unit_runs : {spelled : List Token} {phrase : Term} → IsUnit spelled phrase → (inner : Parts) (stack : List Frame) → UnitRun inner stack spelled phrase
  unit_runs {spelled} {phrase} (leaves which spells makes) inner stack = record {
    stage = ended (bare which);
    runs = ap (run (state_at inner stack unit_next)) spells;
    ends = ap Some (sym makes);
  }
  unit_runs {spelled} {phrase} (measures target asp spells makes) inner stack = record {
    stage = measured target asp;
    runs = ap (run (state_at inner stack unit_next)) spells ∙ measurement_run inner stack target asp;
    ends = ap Some (sym makes);
  }
  unit_runs {spelled} {phrase} (asks place within body branch spells makes) inner stack =
      from_request inner stack spelled within place phrase body (λ frame. branch_runs branch (frame ∷ stack)) spells makes
  unit_runs {spelled} {phrase} (brackets within branch spells) inner stack =
      from_brackets inner stack spelled within phrase (λ frame. branch_runs branch (frame ∷ stack)) spells

-- the tokens of a phrase lead from the start to a state in which that phrase has ended
pub whole_runs : (spelled : List Token) (phrase : Term) → IsBranch spelled phrase → (state : State) × (run start spelled ≡ Some state) × (finished state ≡ Some phrase)
whole_runs spelled phrase h =
    let b = branch_runs h [] in
    (state_at b.inner [] b.stage, b.runs, b.ends)
