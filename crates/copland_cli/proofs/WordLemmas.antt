-- Words spell one command only.
use Rattle.std.proofs.Common.{◌≡◌, ◌<◌, ◌^◌, ℕ, List, [], ◌∷◌, refl, sym, ap, ◌∙◌, arith, subst}
use Rattle.std.specs.Prelude.{◌≢◌, codes, decimal, nat_eq, if◌then◌else◌, MatchOption, Option, None, Some}
use lib.Pointwise.{pointwise}
use Rattle.std.proofs.lemmas.Fmt.{decimal_injective}
use Rattle.copland_cli.specs.Command.{Command, Check, Shape, Events, Code, Eval, Walk, Order, Choose, Attest, Appraise, Upgrade, Load, Audit, Record}
use Rattle.copland_cli.specs.Words.{Spells}

-- commands without their numbers and texts
data Kind : Type 0 where
  check : Kind
  shape : Kind
  events : Kind
  code : Kind
  eval : Kind
  walk : Kind
  order : Kind
  choose : Kind
  attest : Kind
  appraise : Kind
  upgrade : Kind
  load : Kind
  audit : Kind
  recording : Kind

abbrev kind_of : Command → Kind
kind_of Check = check
kind_of Shape = shape
kind_of Events = events
kind_of Code = code
kind_of Eval = eval
kind_of (Walk number) = walk
kind_of (Order text) = order
kind_of (Choose text) = choose
kind_of (Attest workers) = attest
kind_of Appraise = appraise
kind_of Upgrade = upgrade
kind_of (Load number) = load
kind_of Audit = audit
kind_of (Record number) = recording

-- the number of a command that has one
abbrev number_of : Command → ℕ
number_of Check = 0
number_of Shape = 0
number_of Events = 0
number_of Code = 0
number_of Eval = 0
number_of (Walk number) = number
number_of (Order text) = 0
number_of (Choose text) = 0
number_of (Attest workers) = workers
number_of Appraise = 0
number_of Upgrade = 0
number_of (Load number) = number
number_of Audit = 0
number_of (Record number) = number

-- the last word of a command, where it has more than one; else a zero
abbrev last_of : Command → List ℕ
last_of Check = decimal 0
last_of Shape = decimal 0
last_of Events = decimal 0
last_of Code = decimal 0
last_of Eval = decimal 0
last_of (Walk number) = decimal number
last_of (Order text) = text
last_of (Choose text) = text
last_of (Attest workers) = decimal workers
last_of Appraise = decimal 0
last_of Upgrade = decimal 0
last_of (Load number) = decimal number
last_of Audit = decimal 0
last_of (Record number) = decimal number

abbrev command_of : Kind → ℕ → List ℕ → Command
command_of check number text = Check
command_of shape number text = Shape
command_of events number text = Events
command_of code number text = Code
command_of eval number text = Eval
command_of walk number text = Walk number
command_of order number text = Order text
command_of choose number text = Choose text
command_of attest number text = Attest number
command_of appraise number text = Appraise
command_of upgrade number text = Upgrade
command_of load number text = Load number
command_of audit number text = Audit
command_of recording number text = Record number

parts : (command : Command) → command_of (kind_of command) (number_of command) (last_of command) ≡ command
parts Check = refl
parts Shape = refl
parts Events = refl
parts Code = refl
parts Eval = refl
parts (Walk number) = refl
parts (Order text) = refl
parts (Choose text) = refl
parts (Attest workers) = refl
parts Appraise = refl
parts Upgrade = refl
parts (Load number) = refl
parts Audit = refl
parts (Record number) = refl

-- the number as a word, where the last word is that of a number
abbrev number_word : Kind → List ℕ → List ℕ
number_word check last = last
number_word shape last = last
number_word events last = last
number_word code last = last
number_word eval last = last
number_word walk last = last
number_word order last = decimal 0
number_word choose last = decimal 0
number_word attest last = last
number_word appraise last = last
number_word upgrade last = last
number_word load last = last
number_word audit last = last
number_word recording last = last

number_is : (command : Command) → number_word (kind_of command) (last_of command) ≡ decimal (number_of command)
number_is Check = refl
number_is Shape = refl
number_is Events = refl
number_is Code = refl
number_is Eval = refl
number_is (Walk number) = refl
number_is (Order text) = refl
number_is (Choose text) = refl
number_is (Attest workers) = refl
number_is Appraise = refl
number_is Upgrade = refl
number_is (Load number) = refl
number_is Audit = refl
number_is (Record number) = refl

-- the kind that a first word names
abbrev kind_named : List ℕ → Option Kind
kind_named word =
    if pointwise nat_eq word (codes "check") then Some check
    else if pointwise nat_eq word (codes "shape") then Some shape
    else if pointwise nat_eq word (codes "events") then Some events
    else if pointwise nat_eq word (codes "code") then Some code
    else if pointwise nat_eq word (codes "eval") then Some eval
    else if pointwise nat_eq word (codes "walk") then Some walk
    else if pointwise nat_eq word (codes "order") then Some order
    else if pointwise nat_eq word (codes "choose") then Some choose
    else if pointwise nat_eq word (codes "attest") then Some attest
    else if pointwise nat_eq word (codes "appraise") then Some appraise
    else if pointwise nat_eq word (codes "upgrade") then Some upgrade
    else if pointwise nat_eq word (codes "load") then Some load
    else if pointwise nat_eq word (codes "audit") then Some audit
    else if pointwise nat_eq word (codes "record") then Some recording
    else None

abbrev kind_among : List (List ℕ) → Option Kind
kind_among [] = None
kind_among (word ∷ words) = kind_named word

-- the last of a command's words, where there are more than one; else a zero
abbrev last_among : List (List ℕ) → List ℕ
last_among [] = decimal 0
last_among (word ∷ []) = decimal 0
last_among (word ∷ last ∷ []) = last
last_among (word ∷ flag ∷ last ∷ words) = last

-- the words of a command tell its kind and its last word
record Tells (words : List (List ℕ)) (command : Command) : Type 0 where
  kind : kind_among words ≡ Some (kind_of command)
  last : last_among words ≡ last_of command
  small : number_of command < 2 ^ 32

tells : (words : List (List ℕ)) (command : Command) → Spells words command → Tells words command
tells words Check h = record { kind = ap (λ w. kind_among w) h; last = ap (λ w. last_among w) h; small = omega arith }
tells words Shape h = record { kind = ap (λ w. kind_among w) h; last = ap (λ w. last_among w) h; small = omega arith }
tells words Events h = record { kind = ap (λ w. kind_among w) h; last = ap (λ w. last_among w) h; small = omega arith }
tells words Code h = record { kind = ap (λ w. kind_among w) h; last = ap (λ w. last_among w) h; small = omega arith }
tells words Eval h = record { kind = ap (λ w. kind_among w) h; last = ap (λ w. last_among w) h; small = omega arith }
tells words (Walk number) h = record { kind = ap (λ w. kind_among w) h.0; last = ap (λ w. last_among w) h.0; small = h.1 }
tells words (Order text) h = record { kind = ap (λ w. kind_among w) h.0; last = ap (λ w. last_among w) h.0; small = omega arith }
tells words (Choose text) h = record { kind = ap (λ w. kind_among w) h.0; last = ap (λ w. last_among w) h.0; small = omega arith }
tells words (Attest workers) h = record { kind = ap (λ w. kind_among w) h.0; last = ap (λ w. last_among w) h.0; small = omega (arith, h.2) }
tells words Appraise h = record { kind = ap (λ w. kind_among w) h; last = ap (λ w. last_among w) h; small = omega arith }
tells words Upgrade h = record { kind = ap (λ w. kind_among w) h; last = ap (λ w. last_among w) h; small = omega arith }
tells words (Load number) h = record { kind = ap (λ w. kind_among w) h.0; last = ap (λ w. last_among w) h.0; small = h.1 }
tells words (Record number) h = record { kind = ap (λ w. kind_among w) h.0; last = ap (λ w. last_among w) h.0; small = h.1 }
tells words Audit h = record { kind = ap (λ w. kind_among w) h; last = ap (λ w. last_among w) h; small = omega arith }

pub one_command : (words : List (List ℕ)) (one other : Command) → Spells words one → Spells words other → one ≡ other
one_command words one other h k =
    let a = tells words one h in
    let b = tells words other k in
    let both : Some (kind_of one) ≡ Some (kind_of other) = sym a.kind ∙ b.kind in
    let kind : kind_of one ≡ kind_of other = cc both in
    let last : last_of one ≡ last_of other = sym a.last ∙ b.last in
    let spelled : decimal (number_of one) ≡ decimal (number_of other) =
    sym (number_is one) ∙ ap (λ k. number_word k (last_of one)) kind ∙ ap (λ w. number_word (kind_of other) w) last ∙ number_is other in
    let number = decimal_injective (number_of one) (number_of other) (omega (arith, a.small)) (omega (arith, b.small)) spelled in
    sym (parts one)
    ∙ ap (λ k. command_of k (number_of one) (last_of one)) kind
    ∙ ap (λ n. command_of (kind_of other) n (last_of one)) number
    ∙ ap (λ w. command_of (kind_of other) (number_of other) w) last
    ∙ parts other

-- the workers of words that spell a command are those of the command
pub workers_in : (words : List (List ℕ)) (command : Command) (found : Option ℕ) → Spells words command → MatchOption found ((workers : ℕ) → command ≢ Attest workers) (λ workers. command ≡ Attest workers) → MatchOption found ((workers : ℕ) → ¬ Spells words (Attest workers)) (λ workers. Spells words (Attest workers))
workers_in words command None spelled by = λ workers again. by workers (one_command words command (Attest workers) spelled again)
workers_in words command (Some workers) spelled by = subst (λ (c : Command). Spells words c) by spelled
