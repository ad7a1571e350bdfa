-- The program of a phrase can be run: its blocks are there, its places are listed, its events are counted.
use Rattle.std.proofs.Common.{◌≡◌, ℕ, suc, ◌+◌, ◌≤◌, Bool, true, false, cond, IsTrue, List, [], ◌∷◌, ◌++◌, length, length-append, nat_eq, if◌then◌else◌, refl, sym, ap, ◌∙◌, arith}
use Rattle.std.specs.List.{AllByRecursion, count_by}
use Rattle.std.specs.Cmp.Lexicographic.{pointwise}
use Rattle.std.proofs.lemmas.Bool.{false≢true}
use Rattle.std.proofs.lemmas.List.Sums.{sum_by-cons}
use Rattle.phrase_tree.specs.Term.{Term, leaf, at, chain, seq, par}
use Rattle.phrase_tree.specs.Numbering.{event_count}
use Rattle.phrase_tree.specs.Events.{Event, event, replies, joins, events_of}
use Rattle.avm_code.specs.declared.instr.BlockName.{BlockName}
use Rattle.avm_code.specs.declared.instr.BlockName.TheVariants.{Root, Of}
use Rattle.avm_code.specs.declared.instr.Instr.{Instr}
use Rattle.avm_code.specs.declared.instr.Instr.TheVariants.{Copy, Usm, Kim, Sign, Hash, Null, Split, Swap, JoinSeq, Send, Recv, Fork, JoinPar, End}
use Rattle.avm_code.specs.declared.program.Block.{Block}
use Rattle.avm_code.specs.Blocks.{HasOne, NamesBlock}
use Rattle.avm_code.specs.Made.{made_by, made_in, made_by_blocks}
use Rattle.avm_code.specs.Order.{IsWithin, number_after, NamesRise, RootComesFirst, HasBlock}
use Rattle.machine_world.specs.World.{IsListed, IsKnown, KnowsNames, events_of as count_of, events_in, events_among}
use Rattle.machine_world.specs.Playable.{is_listed, asks_listed}

-- ---- a place that is listed has an index

listed_if : (first : List ℕ) (rest : List (List ℕ)) (place : List ℕ) (b : Bool) → pointwise nat_eq first place ≡ b → IsTrue (if b then true else is_listed rest place) → (IsTrue (is_listed rest place) → IsListed rest place) → IsListed (first ∷ rest) place
listed_if first rest place true hit e f = record { index = 0; there = hit }
listed_if first rest place false miss e f = let r = f e in record { index = suc r.index; there = (miss, r.there) }

pub listed : (places : List (List ℕ)) (place : List ℕ) → IsTrue (is_listed places place) → IsListed places place
listed [] place e = absurd (false≢true e)
listed (first ∷ rest) place e = listed_if first rest place (pointwise nat_eq first place) refl e (listed rest place)

-- ---- what passes a test among the events of a phrase passes it among those of its program

none_fail : {A : Type 0} (p : A → Bool) (items : List A) → AllByRecursion (λ x. IsTrue (p x)) items → count_by (λ x. cond (p x) false true) items ≡ 0
none_fail p [] all = refl
none_fail p (item ∷ rest) all =
    let apart : count_by (λ x. cond (p x) false true) (item ∷ rest) ≡ cond (cond (p item) false true) 1 0 + count_by (λ x. cond (p x) false true) rest = sum_by-cons (λ x. cond (cond (p x) false true) 1 0) item rest in
    let here : cond (cond (p item) false true) 1 0 ≡ 0 = ap (λ (b : Bool). cond (cond b false true) 1 0) all.0 in
    let more : count_by (λ x. cond (p x) false true) rest ≡ 0 = none_fail p rest all.1 in
    apart ∙ ap (λ (n : ℕ). n + count_by (λ x. cond (p x) false true) rest) here ∙ ap (λ (n : ℕ). 0 + n) more

all_pass_if : (b : Bool) (count : ℕ) → cond (cond b false true) 1 0 + count ≡ 0 → (IsTrue b) × (count ≡ 0)
all_pass_if true count e = (refl, omega (arith, e))
all_pass_if false count e = absurd (omega (arith, e))

all_pass : {A : Type 0} (p : A → Bool) (items : List A) → count_by (λ x. cond (p x) false true) items ≡ 0 → AllByRecursion (λ x. IsTrue (p x)) items
all_pass p [] e = tt
all_pass p (item ∷ rest) e =
    let here = all_pass_if (p item) (count_by (λ x. cond (p x) false true) rest) (sym (sum_by-cons (λ x. cond (cond (p x) false true) 1 0) item rest) ∙ e) in
    (here.0, all_pass p rest here.1)

pub passed_on : {A : Type 0} (p : A → Bool) (items others : List A) → count_by (λ x. cond (p x) false true) others ≡ count_by (λ x. cond (p x) false true) items → AllByRecursion (λ x. IsTrue (p x)) items → AllByRecursion (λ x. IsTrue (p x)) others
passed_on p items others e all = all_pass p others (e ∙ none_fail p items all)

-- ---- the names in a program are known

all_front : {A : Type 0} (P : A → Type 0) (items more : List A) → AllByRecursion P (items ++ more) → AllByRecursion P items × AllByRecursion P more
all_front P [] more all = (tt, all)
all_front P (item ∷ rest) more all = let r = all_front P rest more all.1 in ((all.0, r.0), r.1)

has_one : (blocks : List Block) (number : ℕ) (place : List ℕ) → HasOne blocks number place → HasBlock blocks (Of number)
has_one blocks number place h = record { one = h.one; others = []; there = h.only }

module _ (blocks : List Block) (places : List (List ℕ)) (names : ℕ → List ℕ) (place : List ℕ) where
  instr_known : (instr : Instr) → NamesBlock blocks place instr → AllByRecursion (λ (one : Event). IsTrue (asks_listed places one.kind)) (made_by names place instr) → IsKnown blocks places instr
  instr_known (Send event asked) named all = (has_one blocks event asked named, listed places asked all.0)
  instr_known (Fork event split) named all = has_one blocks event place named
  instr_known (Copy i) named all = tt
  instr_known (Usm i asp) named all = tt
  instr_known (Kim i target asp) named all = tt
  instr_known (Sign i) named all = tt
  instr_known (Hash i) named all = tt
  instr_known (Null i) named all = tt
  instr_known (Split i split) named all = tt
  instr_known Swap named all = tt
  instr_known (JoinSeq i) named all = tt
  instr_known (Recv j i) named all = tt
  instr_known (JoinPar j i) named all = tt
  instr_known End named all = tt

  code_known : (code : List Instr) → AllByRecursion (NamesBlock blocks place) code → AllByRecursion (λ (one : Event). IsTrue (asks_listed places one.kind)) (made_in names place code) → AllByRecursion (IsKnown blocks places) code
  code_known [] named all = tt
  code_known (instr ∷ rest) named all =
      let parts = all_front (λ (one : Event). IsTrue (asks_listed places one.kind)) (made_by names place instr) (made_in names place rest) all in
      (instr_known instr named.0 parts.0, code_known rest named.1 parts.1)

pub program_known : (program : List Block) (places : List (List ℕ)) (names : ℕ → List ℕ) (blocks : List Block) → AllByRecursion (λ (one : Block). AllByRecursion (NamesBlock program one.place) one.code) blocks → AllByRecursion (λ (one : Event). IsTrue (asks_listed places one.kind)) (made_by_blocks names blocks)
    → AllByRecursion (KnowsNames program places) blocks
program_known program places names [] named all = tt
program_known program places names (one ∷ rest) named all =
    let parts = all_front (λ (e : Event). IsTrue (asks_listed places e.kind)) (made_in names one.place one.code) (made_by_blocks names rest) all in
    (code_known program places names one.place one.code named.0 parts.0, program_known program places names rest named.1 parts.1)

-- ---- events are counted

pub count_all : {A : Type 0} (items : List A) → count_by (λ x. true) items ≡ length items
count_all [] = refl
count_all (item ∷ rest) =
    let apart : count_by (λ x. true) (item ∷ rest) ≡ 1 + count_by (λ x. true) rest = sum_by-cons (λ x. 1) item rest in
    let more : count_by (λ x. true) rest ≡ length rest = count_all rest in
    omega arith

one_made : (names : ℕ → List ℕ) (place : List ℕ) (instr : Instr) → length (made_by names place instr) ≡ count_of instr
one_made names place (Copy i) = refl
one_made names place (Usm i asp) = refl
one_made names place (Kim i target asp) = refl
one_made names place (Sign i) = refl
one_made names place (Hash i) = refl
one_made names place (Null i) = refl
one_made names place (Split i split) = refl
one_made names place Swap = refl
one_made names place (JoinSeq i) = refl
one_made names place (Send i asked) = refl
one_made names place (Recv j i) = refl
one_made names place (Fork i split) = refl
one_made names place (JoinPar j i) = refl
one_made names place End = refl

code_made : (names : ℕ → List ℕ) (place : List ℕ) (code : List Instr) → length (made_in names place code) ≡ events_in code
code_made names place [] = refl
code_made names place (instr ∷ rest) =
    let joined : length (made_by names place instr ++ made_in names place rest) ≡ length (made_by names place instr) + length (made_in names place rest) = length-append (made_by names place instr) (made_in names place rest) in
    let one : length (made_by names place instr) ≡ count_of instr = one_made names place instr in
    let more : length (made_in names place rest) ≡ events_in rest = code_made names place rest in
    omega arith

pub program_made : (names : ℕ → List ℕ) (blocks : List Block) → length (made_by_blocks names blocks) ≡ events_among blocks
program_made names [] = refl
program_made names (one ∷ rest) =
    let joined : length (made_in names one.place one.code ++ made_by_blocks names rest) ≡ length (made_in names one.place one.code) + length (made_by_blocks names rest) = length-append (made_in names one.place one.code) (made_by_blocks names rest) in
    let here : length (made_in names one.place one.code) ≡ events_in one.code = code_made names one.place one.code in
    let more : length (made_by_blocks names rest) ≡ events_among rest = program_made names rest in
    omega arith

branch_count : (a b j : List Event) → length ((a ++ b) ++ j) ≡ (length a + length b) + length j
branch_count a b j =
    let outer : length ((a ++ b) ++ j) ≡ length (a ++ b) + length j = length-append (a ++ b) j in
    let inner : length (a ++ b) ≡ length a + length b = length-append a b in
    omega arith

pub events_counted : (phrase : Term) (place : List ℕ) (i : ℕ) → length (events_of phrase place i) ≡ event_count phrase
events_counted (leaf form) place i = refl
events_counted (at asked body) place i =
    let joined : length (events_of body asked (i + 1) ++ event (i + 1 + event_count body) (replies asked) place ∷ []) ≡ length (events_of body asked (i + 1)) + 1 = length-append (events_of body asked (i + 1)) (event (i + 1 + event_count body) (replies asked) place ∷ []) in
    let inner : length (events_of body asked (i + 1)) ≡ event_count body = events_counted body asked (i + 1) in
    omega arith
events_counted (chain left right) place i =
    let joined : length (events_of left place i ++ events_of right place (i + event_count left)) ≡ length (events_of left place i) + length (events_of right place (i + event_count left)) = length-append (events_of left place i) (events_of right place (i + event_count left)) in
    let l : length (events_of left place i) ≡ event_count left = events_counted left place i in
    let r : length (events_of right place (i + event_count left)) ≡ event_count right = events_counted right place (i + event_count left) in
    omega arith
events_counted (seq split left right) place i =
    let joined = branch_count (events_of left place (i + 1)) (events_of right place (i + 1 + event_count left)) (event (i + 1 + event_count left + event_count right) joins place ∷ []) in
    let l : length (events_of left place (i + 1)) ≡ event_count left = events_counted left place (i + 1) in
    let r : length (events_of right place (i + 1 + event_count left)) ≡ event_count right = events_counted right place (i + 1 + event_count left) in
    omega (arith, joined)
events_counted (par split left right) place i =
    let joined = branch_count (events_of left place (i + 1)) (events_of right place (i + 1 + event_count left)) (event (i + 1 + event_count left + event_count right) joins place ∷ []) in
    let l : length (events_of left place (i + 1)) ≡ event_count left = events_counted left place (i + 1) in
    let r : length (events_of right place (i + 1 + event_count left)) ≡ event_count right = events_counted right place (i + 1 + event_count left) in
    omega (arith, joined)

-- ---- blocks are counted

rise_count : (first end : ℕ) (name : BlockName) (rest : List Block) → IsWithin first end name → length rest + number_after name ≤ end → suc (length rest) + first ≤ end
rise_count first end Root rest w h = elim w [ ]
rise_count first end (Of number) rest w h = omega (arith, w.0, h)

rises : (first end : ℕ) (blocks : List Block) → first ≤ end → NamesRise first end blocks → length blocks + first ≤ end
rises first end [] le r = omega arith
rises first end (one ∷ rest) le r = rise_count first end one.name rest r.0 (rises (number_after one.name) end rest (after one.name r.0) r.1)
  where
    after : (name : BlockName) → IsWithin first end name → number_after name ≤ end
    after Root w = elim w [ ]
    after (Of number) w = omega (arith, w.1)

pub blocks_counted : (blocks : List Block) (place : List ℕ) (end : ℕ) → RootComesFirst blocks place end → length blocks ≤ end + 1
blocks_counted [] place end r = elim r [ ]
blocks_counted (one ∷ rest) place end r = let h : length rest + 0 ≤ end = rises 0 end rest (omega arith) r.2 in omega arith

pub has_root : (blocks : List Block) (place : List ℕ) (end : ℕ) → RootComesFirst blocks place end → HasBlock blocks Root
has_root [] place end r = elim r [ ]
has_root (one ∷ rest) place end r = record { one = one; others = rest; there = refl }
