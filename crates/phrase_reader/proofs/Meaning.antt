-- What the reader's state means: which tokens were read. A step keeps it, and any state can be closed.
use Rattle.std.proofs.Common.{◌≡◌, ◌++◌, ℕ, List, [], ◌∷◌, Option, Some, None, refl, ap, ◌∙◌, sym, subst, append_assoc, option_map, option_and_then}
use Rattle.std.proofs.lemmas.List.{append-nil, map-append}
use Rattle.phrase_tree.specs.declared.measurement.Arg.{Arg}
use Rattle.phrase_tree.specs.declared.measurement.Arg.TheVariants.{Word, Number}
use Rattle.phrase_tree.specs.declared.measurement.Asp.{Asp}
use Rattle.phrase_tree.specs.Term.{Term}
use Rattle.phrase_reader.specs.declared.token.Op.{Op}
use Rattle.phrase_reader.specs.declared.token.Token.{Token}
use Rattle.phrase_reader.specs.declared.token.Token.TheVariants as tokens
use Rattle.phrase_reader.specs.declared.state.Bracket.{Bracket}
use Rattle.phrase_reader.specs.declared.state.Bracket.TheVariants.{Round, Square}
use Rattle.phrase_reader.specs.Grammar.{bare, measurement, measurement_tokens, name_token, IsBranch, IsChain, IsUnit, alone, branches, single, links, leaves, measures, asks, brackets}
use Rattle.phrase_reader.specs.Machine.{Arm, Parts, Frame, Stage, State, unit_next, place_next, square_next, target_next, service_next, measured, ended, fresh, start, chain_with, branch_with, whole_with, unit_of, finished_with, bracketed, begun_from, inside, round_opened, square_opened, left_behind, round_left, square_left, round_closed, square_closed, linked, armed, branched, with_name, named, with_arg, valued, with_stage, step, run}
use Rattle.phrase_reader.proofs.Drives.{some_same, state_at, parts_with}

abbrev pub LinkTokens : Option Term → List Token → Type 0
LinkTokens None spelled = spelled ≡ []
LinkTokens (Some left) spelled = (ls : List Token) × IsChain ls left × (spelled ≡ ls ++ tokens.Arrow ∷ [])

abbrev pub ArmTokens : Option Arm → List Token → Type 0
ArmTokens None spelled = spelled ≡ []
ArmTokens (Some arm) spelled = (ls : List Token) × IsChain ls arm.left × (spelled ≡ ls ++ tokens.Op arm.op ∷ [])

pub record PartsTokens (parts : Parts) (spelled : List Token) : Type 0 where
  pub first : List Token
  pub second : List Token
  pub arm : ArmTokens parts.arm first
  pub link : LinkTokens parts.link second
  pub all : spelled ≡ first ++ second

abbrev pub bracket_tokens : Bracket → List Token
bracket_tokens Round = tokens.OpenRound ∷ []
bracket_tokens (Square place) = tokens.At ∷ name_token place ∷ tokens.OpenSquare ∷ []

abbrev pub StackTokens : List Frame → List Token → Type 0
StackTokens [] spelled = spelled ≡ []
StackTokens (frame ∷ rest) spelled =
    (before : List Token) × (parts : List Token) × StackTokens rest before × PartsTokens frame.outer parts × (spelled ≡ (before ++ parts) ++ bracket_tokens frame.bracket)

abbrev pub service_tokens : Option (List ℕ) → List Token
service_tokens None = tokens.Usm ∷ []
service_tokens (Some target) = tokens.Kim ∷ name_token target ∷ []

abbrev pub StageTokens : Stage → List Token → Type 0
StageTokens unit_next spelled = spelled ≡ []
StageTokens place_next spelled = spelled ≡ tokens.At ∷ []
StageTokens (square_next place) spelled = spelled ≡ tokens.At ∷ name_token place ∷ []
StageTokens target_next spelled = spelled ≡ tokens.Kim ∷ []
StageTokens (service_next target) spelled = spelled ≡ service_tokens target
StageTokens (measured target asp) spelled = spelled ≡ measurement_tokens target asp
StageTokens (ended unit) spelled = IsUnit spelled unit

pub record Means (inner : Parts) (stack : List Frame) (stage : Stage) (spelled : List Token) : Type 0 where
  pub before : List Token
  pub parts : List Token
  pub last : List Token
  pub stack_read : StackTokens stack before
  pub parts_read : PartsTokens inner parts
  pub stage_read : StageTokens stage last
  pub all : spelled ≡ (before ++ parts) ++ last

abbrev pub StateMeans : State → List Token → Type 0
StateMeans state spelled = Means state.inner state.stack state.stage spelled

pub fresh_tokens : PartsTokens fresh []
fresh_tokens = record { first = []; second = []; arm = refl; link = refl; all = refl }

pub start_means : StateMeans start []
start_means = record {
  before = [];
  parts = [];
  last = [];
  stack_read = refl;
  parts_read = fresh_tokens;
  stage_read = refl;
  all = refl;
}

-- a unit that may end here was spelled by the last tokens
pub unit_read : (stage : Stage) (last : List Token) (unit : Term) → StageTokens stage last → unit_of stage ≡ Some unit → IsUnit last unit
unit_read (measured target asp) last unit h e = measures target asp h (sym (some_same (measurement target asp) unit e))
unit_read (ended other) last unit h e = subst (λ t. IsUnit last t) (some_same other unit e) h
unit_read unit_next last unit h e = cc
unit_read place_next last unit h e = cc
unit_read (square_next place) last unit h e = cc
unit_read target_next last unit h e = cc
unit_read (service_next target) last unit h e = cc

linked_read : (link : Option Term) (second last : List Token) (unit : Term) → LinkTokens link second → IsUnit last unit → IsChain (second ++ last) (chain_with link unit)
linked_read None second last unit h u = subst (λ s. IsChain (s ++ last) unit) (sym h) (single u)
linked_read (Some left) second last unit (ls, left_read, spells) u =
    links ls last left unit left_read u (ap (λ s. s ++ last) spells ∙ append_assoc ls (tokens.Arrow ∷ []) last) refl

armed_read : (arm : Option Arm) (first chain_tokens : List Token) (phrase : Term) → ArmTokens arm first → IsChain chain_tokens phrase → IsBranch (first ++ chain_tokens) (branch_with arm phrase)
armed_read None first chain_tokens phrase h c = subst (λ s. IsBranch (s ++ chain_tokens) phrase) (sym h) (alone c)
armed_read (Some arm) first chain_tokens phrase (ls, left_read, spells) c =
    branches ls chain_tokens arm.left phrase arm.op left_read c
    (ap (λ s. s ++ chain_tokens) spells ∙ append_assoc ls (tokens.Op arm.op ∷ []) chain_tokens)
    refl

-- the innermost branch, with a unit as its last, was spelled by its parts and the last tokens
pub branch_read : (inner : Parts) (parts last : List Token) (unit : Term) → PartsTokens inner parts → IsUnit last unit → IsBranch (parts ++ last) (whole_with inner unit)
branch_read inner parts last unit p u =
    let c = linked_read inner.link p.second last unit p.link u in
    let b = armed_read inner.arm p.first (p.second ++ last) (chain_with inner.link unit) p.arm c in
    let P : List Token → Type 0 = λ s. IsBranch s (whole_with inner unit) in
    subst P (sym (ap (λ s. s ++ last) p.all ∙ append_assoc p.first p.second last)) b

-- a unit begins with a token, which is all of it so far
begun_means : (stage : Stage) (inner : Parts) (stack : List Frame) (new : Stage) (token : Token) (next : State) (spelled : List Token) → Means inner stack stage spelled → StageTokens new (token ∷ []) → begun_from stage inner stack new ≡ Some next → StateMeans next (spelled ++ token ∷ [])
begun_means unit_next inner stack new token next spelled m ok h =
    let made : StateMeans (state_at inner stack new) (spelled ++ token ∷ []) = record {
      before = m.before;
      parts = m.parts;
      last = token ∷ [];
      stack_read = m.stack_read;
      parts_read = m.parts_read;
      stage_read = ok;
      all = ap (λ s. s ++ token ∷ []) (m.all ∙ (ap (λ l. (m.before ++ m.parts) ++ l) m.stage_read ∙ append-nil (m.before ++ m.parts)));
    } in
    subst (λ s. StateMeans s (spelled ++ token ∷ [])) (some_same (state_at inner stack new) next h) made
begun_means _ inner stack new token next spelled m ok h = cc

-- one more token of the last unit
stage_means : (stage new : Stage) (inner : Parts) (stack : List Frame) (token : Token) (spelled : List Token) → Means inner stack stage spelled → ((last : List Token) → StageTokens stage last → StageTokens new (last ++ token ∷ [])) → Means inner stack new (spelled ++ token ∷ [])
stage_means stage new inner stack token spelled m more = record {
  before = m.before;
  parts = m.parts;
  last = m.last ++ token ∷ [];
  stack_read = m.stack_read;
  parts_read = m.parts_read;
  stage_read = more m.last m.stage_read;
  all = ap (λ s. s ++ token ∷ []) m.all ∙ append_assoc (m.before ++ m.parts) m.last (token ∷ []);
}

named_read : (stage new : Stage) (name : List ℕ) → with_name stage name ≡ Some new → (last : List Token) → StageTokens stage last → StageTokens new (last ++ name_token name ∷ [])
named_read place_next new name h last read =
    subst (λ s. StageTokens s (last ++ name_token name ∷ [])) (some_same (square_next name) new h) (ap (λ l. l ++ name_token name ∷ []) read)
named_read target_next new name h last read =
    subst (λ s. StageTokens s (last ++ name_token name ∷ [])) (some_same (service_next (Some name)) new h) (ap (λ l. l ++ name_token name ∷ []) read)
named_read (service_next None) new name h last read =
    subst (λ s. StageTokens s (last ++ name_token name ∷ [])) (some_same (measured None (record { name = name; args = [] })) new h) (ap (λ l. l ++ name_token name ∷ []) read)
named_read (service_next (Some target)) new name h last read =
    subst (λ s. StageTokens s (last ++ name_token name ∷ [])) (some_same (measured (Some target) (record { name = name; args = [] })) new h) (ap (λ l. l ++ name_token name ∷ []) read)
named_read unit_next new name h last read = cc
named_read (square_next place) new name h last read = cc
named_read (measured target asp) new name h last read = cc
named_read (ended unit) new name h last read = cc

named_value_read : (stage new : Stage) (value : Arg) → named stage value ≡ Some new → (last : List Token) → StageTokens stage last → StageTokens new (last ++ tokens.Value value ∷ [])
named_value_read stage new (Word name) h last read = named_read stage new name h last read
named_value_read stage new (Number number) h last read = cc

more_read : (target : Option (List ℕ)) (asp : Asp) (value : Arg) (last : List Token) → last ≡ measurement_tokens target asp → last ++ tokens.Value value ∷ [] ≡ measurement_tokens target (with_arg asp value)
more_read None asp value last read =
    ap (λ l. l ++ tokens.Value value ∷ []) read
    ∙ ap (λ l. tokens.Usm ∷ name_token asp.name ∷ l) (sym (map-append tokens.Value asp.args (value ∷ [])))
more_read (Some target) asp value last read =
    ap (λ l. l ++ tokens.Value value ∷ []) read
    ∙ ap (λ l. tokens.Kim ∷ name_token target ∷ name_token asp.name ∷ l) (sym (map-append tokens.Value asp.args (value ∷ [])))

value_read : (stage new : Stage) (value : Arg) → valued stage value ≡ Some new → (last : List Token) → StageTokens stage last → StageTokens new (last ++ tokens.Value value ∷ [])
value_read (measured target asp) new value h last read =
    subst (λ s. StageTokens s (last ++ tokens.Value value ∷ [])) (some_same (measured target (with_arg asp value)) new h) (more_read target asp value last read)
value_read unit_next new value h last read = named_value_read unit_next new value h last read
value_read place_next new value h last read = named_value_read place_next new value h last read
value_read (square_next place) new value h last read = named_value_read (square_next place) new value h last read
value_read target_next new value h last read = named_value_read target_next new value h last read
value_read (service_next target) new value h last read = named_value_read (service_next target) new value h last read
value_read (ended unit) new value h last read = named_value_read (ended unit) new value h last read

value_means : (o : Option Stage) (inner : Parts) (stack : List Frame) (stage : Stage) (value : Arg) (next : State) (spelled : List Token) → Means inner stack stage spelled → valued stage value ≡ o → option_map (with_stage (state_at inner stack stage)) o ≡ Some next → StateMeans next (spelled ++ tokens.Value value ∷ [])
value_means None inner stack stage value next spelled m v h = cc
value_means (Some new) inner stack stage value next spelled m v h =
    subst (λ s. StateMeans s (spelled ++ tokens.Value value ∷ [])) (some_same (state_at inner stack new) next h)
    (stage_means stage new inner stack (tokens.Value value) spelled m (value_read stage new value v))

-- a bracket is opened: what was read of the unit is the bracket's tokens but the last
opened_means : (inner : Parts) (stack : List Frame) (bracket : Bracket) (token : Token) (spelled before parts last : List Token) → StackTokens stack before → PartsTokens inner parts → spelled ≡ (before ++ parts) ++ last → last ++ token ∷ [] ≡ bracket_tokens bracket → StateMeans (inside inner stack bracket) (spelled ++ token ∷ [])
opened_means inner stack bracket token spelled before parts last stack_read parts_read all e = record {
  before = (before ++ parts) ++ bracket_tokens bracket;
  parts = [];
  last = [];
  stack_read = (before, parts, stack_read, parts_read, refl);
  parts_read = fresh_tokens;
  stage_read = refl;
  all =
      ap (λ s. s ++ token ∷ []) all
      ∙ (append_assoc (before ++ parts) last (token ∷ [])
      ∙ (ap (λ l. (before ++ parts) ++ l) e
      ∙ sym (append-nil (((before ++ parts) ++ bracket_tokens bracket) ++ []) ∙ append-nil ((before ++ parts) ++ bracket_tokens bracket))));
}

round_opened_means : (stage : Stage) (inner : Parts) (stack : List Frame) (next : State) (spelled : List Token) → Means inner stack stage spelled → round_opened stage (state_at inner stack stage) ≡ Some next → StateMeans next (spelled ++ tokens.OpenRound ∷ [])
round_opened_means unit_next inner stack next spelled m h =
    subst (λ s. StateMeans s (spelled ++ tokens.OpenRound ∷ [])) (some_same (inside inner stack Round) next h)
    (opened_means inner stack Round tokens.OpenRound spelled m.before m.parts m.last m.stack_read m.parts_read m.all (ap (λ l. l ++ tokens.OpenRound ∷ []) m.stage_read))
round_opened_means _ inner stack next spelled m h = cc

square_opened_means : (stage : Stage) (inner : Parts) (stack : List Frame) (next : State) (spelled : List Token) → Means inner stack stage spelled → square_opened stage (state_at inner stack stage) ≡ Some next → StateMeans next (spelled ++ tokens.OpenSquare ∷ [])
square_opened_means (square_next place) inner stack next spelled m h =
    subst (λ s. StateMeans s (spelled ++ tokens.OpenSquare ∷ [])) (some_same (inside inner stack (Square place)) next h)
    (opened_means inner stack (Square place) tokens.OpenSquare spelled m.before m.parts m.last m.stack_read m.parts_read m.all (ap (λ l. l ++ tokens.OpenSquare ∷ []) m.stage_read))
square_opened_means unit_next inner stack next spelled m h = cc
square_opened_means place_next inner stack next spelled m h = cc
square_opened_means target_next inner stack next spelled m h = cc
square_opened_means (service_next target) inner stack next spelled m h = cc
square_opened_means (measured target asp) inner stack next spelled m h = cc
square_opened_means (ended unit) inner stack next spelled m h = cc

-- the unit that a closed bracket makes
abbrev pub closing : Bracket → Token
closing Round = tokens.CloseRound
closing (Square place) = tokens.CloseSquare

pub closed_read : (bracket : Bracket) (within : List Token) (phrase : Term) → IsBranch within phrase → IsUnit (bracket_tokens bracket ++ (within ++ closing bracket ∷ [])) (bracketed bracket phrase)
closed_read Round within phrase b = brackets within b refl
closed_read (Square place) within phrase b = asks place within phrase b refl refl

-- the tokens with a bracket's branch in their midst, regrouped
pub regrouped : (before parts opening within last : List Token) (token : Token) → (((((before ++ parts) ++ opening) ++ within) ++ last) ++ token ∷ []) ≡ (before ++ parts) ++ (opening ++ ((within ++ last) ++ token ∷ []))
regrouped before parts opening within last token = simp append_assoc

closed_means : (inner : Parts) (frame : Frame) (rest : List Frame) (stage : Stage) (unit : Term) (spelled : List Token) → Means inner (frame ∷ rest) stage spelled → unit_of stage ≡ Some unit → StateMeans (left_behind frame rest (whole_with inner unit)) (spelled ++ closing frame.bracket ∷ [])
closed_means inner frame rest stage unit spelled m e =
    let outside = m.stack_read in
    let b = branch_read inner m.parts m.last unit m.parts_read (unit_read stage m.last unit m.stage_read e) in
    record {
      before = outside.0;
      parts = outside.1;
      last = bracket_tokens frame.bracket ++ ((m.parts ++ m.last) ++ closing frame.bracket ∷ []);
      stack_read = outside.2;
      parts_read = outside.3;
      stage_read = closed_read frame.bracket (m.parts ++ m.last) (whole_with inner unit) b;
      all =
          ap (λ s. s ++ closing frame.bracket ∷ []) (m.all ∙ ap (λ s. (s ++ m.parts) ++ m.last) outside.4)
          ∙ regrouped outside.0 outside.1 (bracket_tokens frame.bracket) m.parts m.last (closing frame.bracket);
    }

round_closed_means : (stack : List Frame) (inner : Parts) (stage : Stage) (o : Option Term) (next : State) (spelled : List Token) → Means inner stack stage spelled → unit_of stage ≡ o → round_closed stack (option_map (whole_with inner) o) ≡ Some next → StateMeans next (spelled ++ tokens.CloseRound ∷ [])
round_closed_means [] inner stage o next spelled m e h = cc
round_closed_means (frame ∷ rest) inner stage None next spelled m e h = cc
round_closed_means (frame ∷ rest) inner stage (Some unit) next spelled m e h = by_bracket frame.bracket refl h
  where
    by_bracket : (bracket : Bracket) → frame.bracket ≡ bracket → round_left bracket (left_behind frame rest (whole_with inner unit)) ≡ Some next → StateMeans next (spelled ++ tokens.CloseRound ∷ [])
    by_bracket Round is g =
        subst (λ s. StateMeans s (spelled ++ tokens.CloseRound ∷ [])) (some_same (left_behind frame rest (whole_with inner unit)) next g)
        (subst (λ b. StateMeans (left_behind frame rest (whole_with inner unit)) (spelled ++ closing b ∷ [])) is (closed_means inner frame rest stage unit spelled m e))
    by_bracket (Square place) is g = cc

square_closed_means : (stack : List Frame) (inner : Parts) (stage : Stage) (o : Option Term) (next : State) (spelled : List Token) → Means inner stack stage spelled → unit_of stage ≡ o → square_closed stack (option_map (whole_with inner) o) ≡ Some next → StateMeans next (spelled ++ tokens.CloseSquare ∷ [])
square_closed_means [] inner stage o next spelled m e h = cc
square_closed_means (frame ∷ rest) inner stage None next spelled m e h = cc
square_closed_means (frame ∷ rest) inner stage (Some unit) next spelled m e h = by_bracket frame.bracket refl h
  where
    by_bracket : (bracket : Bracket) → frame.bracket ≡ bracket → square_left bracket (left_behind frame rest (whole_with inner unit)) ≡ Some next → StateMeans next (spelled ++ tokens.CloseSquare ∷ [])
    by_bracket Round is g = cc
    by_bracket (Square place) is g =
        subst (λ s. StateMeans s (spelled ++ tokens.CloseSquare ∷ [])) (some_same (left_behind frame rest (whole_with inner unit)) next g)
        (subst (λ b. StateMeans (left_behind frame rest (whole_with inner unit)) (spelled ++ closing b ∷ [])) is (closed_means inner frame rest stage unit spelled m e))

arrow_regrouped : (before first second last : List Token) (token : Token) → ((before ++ (first ++ second)) ++ last) ++ token ∷ [] ≡ (before ++ (first ++ ((second ++ last) ++ token ∷ []))) ++ []
arrow_regrouped before first second last token =
    sym (append-nil (before ++ (first ++ ((second ++ last) ++ token ∷ []))) ∙ simp append_assoc)

op_regrouped : (before second last : List Token) (token : Token) → ((before ++ second) ++ last) ++ token ∷ [] ≡ (before ++ (((second ++ last) ++ token ∷ []) ++ [])) ++ []
op_regrouped before second last token =
    sym (append-nil (before ++ (((second ++ last) ++ token ∷ []) ++ [])) ∙ (ap (λ s. before ++ s) (append-nil ((second ++ last) ++ token ∷ [])) ∙ simp append_assoc))

arrow_means : (inner : Parts) (stack : List Frame) (stage : Stage) (o : Option Term) (next : State) (spelled : List Token) → Means inner stack stage spelled → unit_of stage ≡ o → option_map (linked inner stack) o ≡ Some next → StateMeans next (spelled ++ tokens.Arrow ∷ [])
arrow_means inner stack stage None next spelled m e h = cc
arrow_means inner stack stage (Some unit) next spelled m e h =
    let p = m.parts_read in
    let c = linked_read inner.link p.second m.last unit p.link (unit_read stage m.last unit m.stage_read e) in
    let made : StateMeans (linked inner stack unit) (spelled ++ tokens.Arrow ∷ []) = record {
      before = m.before;
      parts = p.first ++ ((p.second ++ m.last) ++ tokens.Arrow ∷ []);
      last = [];
      stack_read = m.stack_read;
      parts_read = record {
        first = p.first;
        second = (p.second ++ m.last) ++ tokens.Arrow ∷ [];
        arm = p.arm;
        link = (p.second ++ m.last, c, refl);
        all = refl;
      };
      stage_read = refl;
      all = ap (λ s. s ++ tokens.Arrow ∷ []) (m.all ∙ ap (λ s. (m.before ++ s) ++ m.last) p.all) ∙ arrow_regrouped m.before p.first p.second m.last tokens.Arrow;
    } in
    subst (λ s. StateMeans s (spelled ++ tokens.Arrow ∷ [])) (some_same (linked inner stack unit) next h) made

op_means : (arm : Option Arm) (link : Option Term) (stack : List Frame) (stage : Stage) (o : Option Term) (op : Op) (next : State) (spelled : List Token) → Means (parts_with arm link) stack stage spelled → unit_of stage ≡ o → branched arm (option_map (armed (parts_with arm link) stack op) o) ≡ Some next → StateMeans next (spelled ++ tokens.Op op ∷ [])
op_means (Some arm) link stack stage o op next spelled m e h = cc
op_means None link stack stage None op next spelled m e h = cc
op_means None link stack stage (Some unit) op next spelled m e h =
    let p = m.parts_read in
    let c = linked_read link p.second m.last unit p.link (unit_read stage m.last unit m.stage_read e) in
    let made : StateMeans (armed (parts_with None link) stack op unit) (spelled ++ tokens.Op op ∷ []) = record {
      before = m.before;
      parts = ((p.second ++ m.last) ++ tokens.Op op ∷ []) ++ [];
      last = [];
      stack_read = m.stack_read;
      parts_read = record {
        first = (p.second ++ m.last) ++ tokens.Op op ∷ [];
        second = [];
        arm = (p.second ++ m.last, c, refl);
        link = refl;
        all = refl;
      };
      stage_read = refl;
      all = ap (λ s. s ++ tokens.Op op ∷ []) (m.all ∙ ap (λ s. (m.before ++ s) ++ m.last) (p.all ∙ ap (λ f. f ++ p.second) p.arm)) ∙ op_regrouped m.before p.second m.last (tokens.Op op);
    } in
    subst (λ s. StateMeans s (spelled ++ tokens.Op op ∷ [])) (some_same (armed (parts_with None link) stack op unit) next h) made

-- what a state means is kept by its step
pub step_means : (state : State) (token : Token) (next : State) (spelled : List Token) → StateMeans state spelled → step state token ≡ Some next → StateMeans next (spelled ++ token ∷ [])
step_means s (tokens.Leaf which) next spelled m h =
    begun_means s.stage s.inner s.stack (ended (bare which)) (tokens.Leaf which) next spelled m (leaves which refl refl) h
step_means s tokens.Usm next spelled m h = begun_means s.stage s.inner s.stack (service_next None) tokens.Usm next spelled m refl h
step_means s tokens.Kim next spelled m h = begun_means s.stage s.inner s.stack target_next tokens.Kim next spelled m refl h
step_means s tokens.At next spelled m h = begun_means s.stage s.inner s.stack place_next tokens.At next spelled m refl h
step_means s tokens.OpenRound next spelled m h = round_opened_means s.stage s.inner s.stack next spelled m h
step_means s tokens.CloseRound next spelled m h = round_closed_means s.stack s.inner s.stage (unit_of s.stage) next spelled m refl h
step_means s tokens.OpenSquare next spelled m h = square_opened_means s.stage s.inner s.stack next spelled m h
step_means s tokens.CloseSquare next spelled m h = square_closed_means s.stack s.inner s.stage (unit_of s.stage) next spelled m refl h
step_means s tokens.Arrow next spelled m h = arrow_means s.inner s.stack s.stage (unit_of s.stage) next spelled m refl h
step_means s (tokens.Op op) next spelled m h = op_means s.inner.arm s.inner.link s.stack s.stage (unit_of s.stage) op next spelled m refl h
step_means s (tokens.Value value) next spelled m h = value_means (valued s.stage value) s.inner s.stack s.stage value next spelled m refl h

-- what a run reaches means the tokens that it went over
pub run_means : (rest : List Token) (state next : State) (spelled : List Token) → StateMeans state spelled → run state rest ≡ Some next → StateMeans next (spelled ++ rest)
run_means [] state next spelled m h =
    subst (λ ts. StateMeans next ts) (sym (append-nil spelled)) (subst (λ s. StateMeans s spelled) (some_same state next h) m)
run_means (token ∷ rest) state next spelled m h =
    by_step (step state token) refl h (λ s g k. subst (λ ts. StateMeans next ts) (append_assoc spelled (token ∷ []) rest) (run_means rest s next (spelled ++ token ∷ []) (step_means state token s spelled m g) k))
  where
    by_step : (o : Option State) → step state token ≡ o → option_and_then (λ s. run s rest) o ≡ Some next → ((s : State) → step state token ≡ Some s → run s rest ≡ Some next → StateMeans next (spelled ++ token ∷ rest)) → StateMeans next (spelled ++ token ∷ rest)
    by_step None g k f = cc
    by_step (Some s) g k f = f s g k

-- a finished state spells its phrase
pub finished_read : (stack : List Frame) (inner : Parts) (stage : Stage) (o : Option Term) (phrase : Term) (spelled : List Token) → Means inner stack stage spelled → unit_of stage ≡ o → finished_with stack (option_map (whole_with inner) o) ≡ Some phrase → IsBranch spelled phrase
finished_read (frame ∷ rest) inner stage o phrase spelled m e h = cc
finished_read [] inner stage None phrase spelled m e h = cc
finished_read [] inner stage (Some unit) phrase spelled m e h =
    let b = branch_read inner m.parts m.last unit m.parts_read (unit_read stage m.last unit m.stage_read e) in
    let spells : spelled ≡ m.parts ++ m.last = m.all ∙ ap (λ s. (s ++ m.parts) ++ m.last) m.stack_read in
    subst (λ ts. IsBranch ts phrase) (sym spells) (subst (λ t. IsBranch (m.parts ++ m.last) t) (some_same (whole_with inner unit) phrase h) b)
