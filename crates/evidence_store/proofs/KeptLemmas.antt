-- Nodes beside the bytes of their answers: bytes and nodes that are put behind keep what stands.
use Rattle.std.proofs.Common.{◌≡◌, ℕ, suc, ◌+◌, ◌-◌, ◌^◌, ◌<◌, ◌≤◌, List, [], ◌∷◌, ◌++◌, length, take, drop, slice_index_or, refl, sym, ap, ap₂, subst, ◌∙◌, append-nil, length-append, arith, Ok, Err}
use Rattle.std.specs.List.{All}
use Rattle.std.specs.Prelude.{Bool, true, false, if◌then◌else◌, Option, Some, get_or, Result, IfOk}
use Rattle.std.specs.Option.{option_to_list}
use Rattle.std.proofs.lemmas.List.{get_or-map, length-map, map-append, take-append-le, drop-append-le, length-drop}
use Rattle.std.proofs.lemmas.List.Elements.{All-push}
use Rattle.std.proofs.Math.Seq.{drop-append_seam, take-length}
use Rattle.phrase_tree.specs.declared.memory.NoMemory.{NoMemory}
use Rattle.evidence_types.specs.Evidence.{Evidence}
use Rattle.evidence_types.specs.Answer.{FitsAnswer}
use Rattle.evidence_types.specs.Bytes.{encoding, bundle, FitsBundle}
use Rattle.evidence_types.specs.Bundle.{IsBundleOf}
use Rattle.evidence_types.specs.WellFormed.{IsWellFormed}
use Rattle.evidence_types.specs.Heads.{Head, IsHead, head_bytes}
use Rattle.evidence_store.specs.Kept.{Kept, value_at, Adds, measured}
use Rattle.evidence_store.specs.Nodes.{FullNode, empty_node, nonce_node, usm_node, kim_node, seal_node, hash_node, seq_node, par_node, answer_in, full, all_full, answered, single_part, is_leaf, IsSpanOf, AnswerWithin, node_value, node_head, NamesBelow, IsSound, AreKept, kept_values, head, parts}
use Rattle.evidence_store.specs.Walk.{to_come, Nests, Steps, IsOver, IsAlone}
use Rattle.evidence_store.specs.declared.node.Span.{Span}
use Rattle.evidence_store.specs.declared.node.Node.{Node}
use Rattle.evidence_store.specs.declared.node.Node.TheVariants.{Empty, Nonce, Usm, Kim, Seal, Hash, SeqPair, ParPair}
use Rattle.evidence_store.specs.declared.nodes.Nodes.{Nodes}
use Rattle.evidence_store.proofs.NodeLemmas.{IsSound-nil, IsSound-push, Adds-added, Grows-same}
use Rattle.evidence_store.proofs.WalkLemmas.{place_within, step_room, step_taken, node_came}

-- ---- bytes that are put behind

answer_in-append : (answers more : List ℕ) (span : Span) → IsSpanOf answers span → answer_in (answers ++ more) span ≡ answer_in answers span
answer_in-append answers more span h =
    ap (take span.count) (drop-append-le span.start answers more (omega (arith, h.0)))
    ∙ take-append-le span.count (drop span.start answers) more (omega (arith, h.0, length-drop span.start answers))

pub full-append : (answers more : List ℕ) (node : Node) → AnswerWithin answers node → full (answers ++ more) node ≡ full answers node
full-append answers more Empty h = refl
full-append answers more (Nonce bytes) h = refl
full-append answers more (Usm event span under) h = ap (λ (a : List ℕ). usm_node event a under) (answer_in-append answers more span h)
full-append answers more (Kim event span under) h = ap (λ (a : List ℕ). kim_node event a under) (answer_in-append answers more span h)
full-append answers more (Seal event bytes under) h = refl
full-append answers more (Hash event bytes) h = refl
full-append answers more (SeqPair left right) h = refl
full-append answers more (ParPair left right) h = refl

within-append : (answers more : List ℕ) (node : Node) → AnswerWithin answers node → AnswerWithin (answers ++ more) node
within-append answers more Empty h = tt
within-append answers more (Nonce bytes) h = tt
within-append answers more (Usm event span under) h = (omega (arith, h.0, length-append answers more), h.1)
within-append answers more (Kim event span under) h = (omega (arith, h.0, length-append answers more), h.1)
within-append answers more (Seal event bytes under) h = tt
within-append answers more (Hash event bytes) h = tt
within-append answers more (SeqPair left right) h = tt
within-append answers more (ParPair left right) h = tt

all_full-append : (answers more : List ℕ) (nodes : List Node) → All (AnswerWithin answers) nodes → all_full (answers ++ more) nodes ≡ all_full answers nodes
all_full-append answers more [] all = refl
all_full-append answers more (node ∷ nodes) all =
    ap₂ (λ (n : FullNode) (ns : List FullNode). n ∷ ns) (full-append answers more node (all 0 node (omega arith))) (all_full-append answers more nodes (λ k d h. all (suc k) d (omega (arith, h))))

all_full-push : (answers more : List ℕ) (nodes : List Node) (node : Node) → All (AnswerWithin answers) nodes → all_full (answers ++ more) (nodes ++ node ∷ []) ≡ all_full answers nodes ++ full (answers ++ more) node ∷ []
all_full-push answers more nodes node all =
    map-append (full (answers ++ more)) nodes (node ∷ []) ∙ ap (λ (ns : List FullNode). ns ++ full (answers ++ more) node ∷ []) (all_full-append answers more nodes all)

AreKept-push : (answers more : List ℕ) (nodes : List Node) (node : Node) → AreKept answers nodes → AnswerWithin (answers ++ more) node → NamesBelow (length (kept_values answers nodes)) (full (answers ++ more) node) → FitsBundle (node_value (kept_values answers nodes) (full (answers ++ more) node))
    → IsHead (node_head (full (answers ++ more) node)) → AreKept (answers ++ more) (nodes ++ node ∷ [])
AreKept-push answers more nodes node k within names fits is_head = record {
  sound = subst IsSound (sym (all_full-push answers more nodes node k.within)) (IsSound-push (all_full answers nodes) (full (answers ++ more) node) k.sound names fits is_head);
  within = All-push (AnswerWithin (answers ++ more)) nodes node (λ i d h. within-append answers more (slice_index_or nodes i d) (k.within i d h)) within;
}

pub AreKept-nil : (answers : List ℕ) → AreKept answers []
AreKept-nil answers = record {
  sound = IsSound-nil;
  within = λ i d h. absurd (omega arith);
}

-- ---- the node of an answer that is put behind

pub span_behind : (answers answer : List ℕ) (span : Span) → span.start ≡ length answers → span.count ≡ length answer → FitsAnswer answer → IsSpanOf (answers ++ answer) span
span_behind answers answer span start count few = (omega (arith, start, count, length-append answers answer), omega (arith, count, few))

answer_behind : (answers answer : List ℕ) (span : Span) → span.start ≡ length answers → span.count ≡ length answer → answer_in (answers ++ answer) span ≡ answer
answer_behind answers answer span start count =
    ap (λ (at : ℕ). take span.count (drop at (answers ++ answer))) start ∙ ap (take span.count) (drop-append_seam answers answer) ∙ ap (λ (n : ℕ). take n answer) count ∙ take-length answer

abbrev pub answer_node : ℕ → Bool → List ℕ → ℕ → FullNode
answer_node event true answer under = kim_node event answer under
answer_node event false answer under = usm_node event answer under

full_behind : (answers answer : List ℕ) (event : ℕ) (kim : Bool) (span : Span) (under : ℕ) → span.start ≡ length answers → span.count ≡ length answer → full (answers ++ answer) (answered event kim span under) ≡ answer_node event kim answer under
full_behind answers answer event true span under start count = ap (λ (a : List ℕ). kim_node event a under) (answer_behind answers answer span start count)
full_behind answers answer event false span under start count = ap (λ (a : List ℕ). usm_node event a under) (answer_behind answers answer span start count)

within_behind : (answers answer : List ℕ) (event : ℕ) (kim : Bool) (span : Span) (under : ℕ) → IsSpanOf (answers ++ answer) span → AnswerWithin (answers ++ answer) (answered event kim span under)
within_behind answers answer event true span under h = h
within_behind answers answer event false span under h = h

names_behind : (event : ℕ) (kim : Bool) (answer : List ℕ) (under place : ℕ) → under < place → NamesBelow place (answer_node event kim answer under)
names_behind event true answer under place h = h
names_behind event false answer under place h = h

head_behind : (event : ℕ) (kim : Bool) (answer : List ℕ) (under : ℕ) → event < 2 ^ 32 → FitsAnswer answer → IsHead (node_head (answer_node event kim answer under))
head_behind event true answer under numbered few = (numbered, few)
head_behind event false answer under numbered few = (numbered, few)

value_behind : (values : List Evidence) (event : ℕ) (kim : Bool) (answer : List ℕ) (under : ℕ) → node_value values (answer_node event kim answer under) ≡ measured kim event answer (value_at values under)
value_behind values event true answer under = refl
value_behind values event false answer under = refl

-- ---- the nodes before and after an addition

-- what contracts see of them
abbrev pub kept_of : Nodes → Kept
kept_of nodes = record { values = kept_values nodes.answers.items nodes.list.items; spare = nodes.spare }

-- a node was put behind, and an answer's bytes
pub record IsPushed (old : Nodes) (answer : List ℕ) (node : Node) (place : ℕ) (new : Nodes) : Type 0 where
  pub kept : AreKept old.answers.items old.list.items
  pub here : place ≡ length old.list.items
  pub nodes : new.list.items ≡ old.list.items ++ node ∷ []
  pub bytes : new.answers.items ≡ old.answers.items ++ answer
  pub spare : new.spare ≡ old.spare - 1

AreKept-pushed : (old : Nodes) (answer : List ℕ) (node : Node) (place : ℕ) (new : Nodes) → IsPushed old answer node place new → AreKept (old.answers.items ++ answer) (old.list.items ++ node ∷ []) → AreKept new.answers.items new.list.items
AreKept-pushed old answer node place new p k =
    subst (λ (bytes : List ℕ). AreKept bytes new.list.items) (sym p.bytes) (subst (λ (nodes : List Node). AreKept (old.answers.items ++ answer) nodes) (sym p.nodes) k)

Adds-pushed : (seen : Kept) (old : Nodes) (answer : List ℕ) (node : Node) (place : ℕ) (new : Nodes) → IsPushed old answer node place new → kept_of old ≡ seen
    → Adds seen (node_value seen.values (full (old.answers.items ++ answer) node)) (Ok place) (kept_of new)
Adds-pushed seen old answer node place new p is =
    let nodes : List FullNode = all_full old.answers.items old.list.items in
    let grown : all_full new.answers.items new.list.items ≡ nodes ++ full (old.answers.items ++ answer) node ∷ [] =
    ap₂ all_full p.bytes p.nodes ∙ all_full-push old.answers.items answer old.list.items node p.kept.within in
    Adds-added seen nodes (all_full new.answers.items new.list.items) (full (old.answers.items ++ answer) node) place new.spare p.kept.sound (ap (λ (k : Kept). k.values) is)
    (p.here ∙ sym (length-map old.list.items (full old.answers.items))) grown (λ h. omega (arith, h, p.spare, ap (λ (k : Kept). k.spare) is))

-- ---- a node without an answer

plain_full : (answers : List ℕ) (node : Node) → AnswerWithin [] node → full (answers ++ []) node ≡ full [] node
plain_full answers node h = full-append [] (answers ++ []) node h

pub plain_kept : (seen : Kept) (old : Nodes) (node : Node) (place : ℕ) (new : Nodes) → IsPushed old [] node place new → kept_of old ≡ seen → AnswerWithin [] node → NamesBelow (length seen.values) (full [] node) → FitsBundle (node_value seen.values (full [] node)) → IsHead (node_head (full [] node))
    → AreKept new.answers.items new.list.items
plain_kept seen old node place new p is within names fits is_head =
    let before : List Evidence = kept_values old.answers.items old.list.items in
    let values : before ≡ seen.values = ap (λ (k : Kept). k.values) is in
    let same : full (old.answers.items ++ []) node ≡ full [] node = plain_full old.answers.items node within in
    AreKept-pushed old [] node place new p (AreKept-push old.answers.items [] old.list.items node p.kept (within-append [] (old.answers.items ++ []) node within)
    (subst (NamesBelow (length before)) (sym same) (subst (λ (vs : List Evidence). NamesBelow (length vs) (full [] node)) (sym values) names))
    (subst (λ (n : FullNode). FitsBundle (node_value before n)) (sym same) (subst (λ (vs : List Evidence). FitsBundle (node_value vs (full [] node))) (sym values) fits))
    (subst (λ (n : FullNode). IsHead (node_head n)) (sym same) is_head))

pub plain_added : (seen : Kept) (old : Nodes) (node : Node) (place : ℕ) (new : Nodes) → IsPushed old [] node place new → kept_of old ≡ seen → AnswerWithin [] node → Adds seen (node_value seen.values (full [] node)) (Ok place) (kept_of new)
plain_added seen old node place new p is within =
    subst (λ (n : FullNode). Adds seen (node_value seen.values n) (Ok place) (kept_of new)) (plain_full old.answers.items node within) (Adds-pushed seen old [] node place new p is)

-- ---- the node of an answer

pub answer_kept : (seen : Kept) (old : Nodes) (answer : List ℕ) (event : ℕ) (kim : Bool) (span : Span) (under place : ℕ) (new : Nodes) → IsPushed old answer (answered event kim span under) place new → kept_of old ≡ seen
    → span.start ≡ length old.answers.items → span.count ≡ length answer → FitsAnswer answer → event < 2 ^ 32 → under < length seen.values → FitsBundle (measured kim event answer (value_at seen.values under)) → AreKept new.answers.items new.list.items
answer_kept seen old answer event kim span under place new p is start count few numbered below fits =
    let before : List Evidence = kept_values old.answers.items old.list.items in
    let values : before ≡ seen.values = ap (λ (k : Kept). k.values) is in
    let same : full (old.answers.items ++ answer) (answered event kim span under) ≡ answer_node event kim answer under = full_behind old.answers.items answer event kim span under start count in
    AreKept-pushed old answer (answered event kim span under) place new p (AreKept-push old.answers.items answer old.list.items (answered event kim span under) p.kept
    (within_behind old.answers.items answer event kim span under (span_behind old.answers.items answer span start count few))
    (subst (NamesBelow (length before)) (sym same) (names_behind event kim answer under (length before) (omega (arith, below, ap length values))))
    (subst (λ (n : FullNode). FitsBundle (node_value before n)) (sym same)
    (subst FitsBundle (sym (value_behind before event kim answer under)) (subst (λ (vs : List Evidence). FitsBundle (measured kim event answer (value_at vs under))) (sym values) fits)))
    (subst (λ (n : FullNode). IsHead (node_head n)) (sym same) (head_behind event kim answer under numbered few)))

pub answer_added : (seen : Kept) (old : Nodes) (answer : List ℕ) (event : ℕ) (kim : Bool) (span : Span) (under place : ℕ) (new : Nodes) → IsPushed old answer (answered event kim span under) place new → kept_of old ≡ seen
    → span.start ≡ length old.answers.items → span.count ≡ length answer → Adds seen (measured kim event answer (value_at seen.values under)) (Ok place) (kept_of new)
answer_added seen old answer event kim span under place new p is start count =
    subst (λ (v : Evidence). Adds seen v (Ok place) (kept_of new)) (ap (node_value seen.values) (full_behind old.answers.items answer event kim span under start count) ∙ value_behind seen.values event kim answer under)
    (Adds-pushed seen old answer (answered event kim span under) place new p is)

-- ---- an addition that failed

pub Adds-refused : (seen : Kept) (value : Evidence) (e : NoMemory) (new : Kept) → new.values ≡ seen.values → new.spare ≡ seen.spare → (1 ≤ seen.spare → ⊥) → Adds seen value (Err e) new
Adds-refused seen value e new values spare none = record {
  added = tt;
  refused = values;
  spare_stays = spare;
  grows = Grows-same seen.values new.values values;
  in_spare = λ h. absurd (none h);
}

-- ---- a bundle

pub readable : (outcome : Result (List ℕ) NoMemory) (value seen : Evidence) → IfOk outcome (λ bytes. bytes ≡ bundle value) → value ≡ seen → IsWellFormed seen → FitsBundle seen → IfOk outcome (λ bytes. IsBundleOf bytes seen)
readable (Ok bytes) value seen e is well_formed fits = record { well_formed = well_formed; fits = fits; spelled = e ∙ ap bundle is }
readable (Err refused) value seen e is well_formed fits = tt

-- ---- a node that is read

full_at : (answers : List ℕ) (nodes : List Node) (place : ℕ) (node : Node) → place < length nodes → node ≡ slice_index_or nodes place node → full answers node ≡ slice_index_or (all_full answers nodes) place (full answers node)
full_at answers nodes place node h read = ap (full answers) read ∙ sym (get_or-map (full answers) nodes place node (full answers node) h)

within_full : (answers : List ℕ) (nodes : List Node) (place : ℕ) → place < length nodes → place < length (all_full answers nodes)
within_full answers nodes place h = omega (arith, h, length-map nodes (full answers))

pub place_at : (answers : List ℕ) (nodes : List Node) (old below : List ℕ) (place : ℕ) → AreKept answers nodes → Nests (kept_values answers nodes) 0 old → old ≡ below ++ place ∷ [] → place < length nodes
place_at answers nodes old below place k n e = omega (arith, place_within (all_full answers nodes) old below place k.sound n e, length-map nodes (full answers))

pub answer_at : (answers : List ℕ) (nodes : List Node) (place : ℕ) (node : Node) → AreKept answers nodes → place < length nodes → node ≡ slice_index_or nodes place node → AnswerWithin answers node
answer_at answers nodes place node k h read = subst (AnswerWithin answers) (sym read) (k.within place node h)

parts-full : (answers : List ℕ) (node : Node) → parts (full [] node) ≡ parts (full answers node)
parts-full answers Empty = refl
parts-full answers (Nonce bytes) = refl
parts-full answers (Usm event span under) = refl
parts-full answers (Kim event span under) = refl
parts-full answers (Seal event bytes under) = refl
parts-full answers (Hash event bytes) = refl
parts-full answers (SeqPair left right) = refl
parts-full answers (ParPair left right) = refl

pub parts_fit : (answers : List ℕ) (nodes : List Node) (old below : List ℕ) (place : ℕ) (node : Node) → AreKept answers nodes → Nests (kept_values answers nodes) 0 old → old ≡ below ++ place ∷ [] → node ≡ slice_index_or nodes place node → length below + length (parts (full [] node)) ≤ 1025
parts_fit answers nodes old below place node k n e read =
    let h : place < length nodes = place_at answers nodes old below place k n e in
    let made = step_room (all_full answers nodes) old below place (full answers node) k.sound n e (full_at answers nodes place node h read) in
    omega (arith, made.fits, ap length (parts-full answers node))

pub step_at : (answers : List ℕ) (nodes : List Node) (old below : List ℕ) (place : ℕ) (node : Node) (new : List ℕ) (h : Head) → AreKept answers nodes → Nests (kept_values answers nodes) 0 old → old ≡ below ++ place ∷ [] → node ≡ slice_index_or nodes place node → new ≡ below ++ parts (full [] node)
    → h ≡ node_head (full answers node) → IsHead h → Steps (kept_values answers nodes) old h new
step_at answers nodes old below place node new h k n e read f is is_head =
    let within : place < length nodes = place_at answers nodes old below place k n e in
    step_taken (all_full answers nodes) old below place (full answers node) new h k.sound n e (full_at answers nodes place node within read) (f ∙ ap (λ (ps : List ℕ). below ++ ps) (parts-full answers node)) is is_head

-- ---- a value with one part or none

-- its own bytes, then those of its parts
parts_came : (values : List Evidence) (node : FullNode) (ps : List ℕ) → parts node ≡ ps → encoding (node_value values node) ≡ head node ++ to_come values ps
parts_came values node ps e =
    sym (append-nil (encoding (node_value values node))) ∙ node_came values [] node ∙ ap (λ (t : List ℕ). head node ++ to_come values t) e

parts_below : (place : ℕ) (node : FullNode) (under : ℕ) → NamesBelow place node → parts node ≡ under ∷ [] → under < place
parts_below place empty_node under h e = absurd (omega (arith, ap length e))
parts_below place (nonce_node bytes) under h e = absurd (omega (arith, ap length e))
parts_below place (usm_node event answer below) under h e = omega (arith, h, ap (λ (ps : List ℕ). get_or ps 0 0) e)
parts_below place (kim_node event answer below) under h e = omega (arith, h, ap (λ (ps : List ℕ). get_or ps 0 0) e)
parts_below place (seal_node event bytes below) under h e = omega (arith, h, ap (λ (ps : List ℕ). get_or ps 0 0) e)
parts_below place (hash_node event bytes) under h e = absurd (omega (arith, ap length e))
parts_below place (seq_node left right) under h e = absurd (omega (arith, ap length e))
parts_below place (par_node left right) under h e = absurd (omega (arith, ap length e))

one_part : (answers : List ℕ) (node : Node) (under : ℕ) → single_part node ≡ Some under → parts (full answers node) ≡ under ∷ []
one_part answers Empty under e = ap option_to_list e
one_part answers (Nonce bytes) under e = ap option_to_list e
one_part answers (Usm event span below) under e = ap option_to_list e
one_part answers (Kim event span below) under e = ap option_to_list e
one_part answers (Seal event bytes below) under e = ap option_to_list e
one_part answers (Hash event bytes) under e = ap option_to_list e
one_part answers (SeqPair left right) under e = absurd (omega (arith, ap (λ (o : Option ℕ). length (option_to_list o)) e))
one_part answers (ParPair left right) under e = absurd (omega (arith, ap (λ (o : Option ℕ). length (option_to_list o)) e))

no_parts : (answers : List ℕ) (node : Node) → is_leaf node ≡ true → parts (full answers node) ≡ []
no_parts answers Empty e = refl
no_parts answers (Nonce bytes) e = refl
no_parts answers (Usm event span under) e = ap (λ (b : Bool). if b then [] else (under ∷ [])) e
no_parts answers (Kim event span under) e = ap (λ (b : Bool). if b then [] else (under ∷ [])) e
no_parts answers (Seal event bytes under) e = ap (λ (b : Bool). if b then [] else (under ∷ [])) e
no_parts answers (Hash event bytes) e = refl
no_parts answers (SeqPair left right) e = ap (λ (b : Bool). if b then [] else (right ∷ left ∷ [])) e
no_parts answers (ParPair left right) e = ap (λ (b : Bool). if b then [] else (right ∷ left ∷ [])) e

value_stands : (answers : List ℕ) (nodes : List Node) (place : ℕ) (node : Node) → AreKept answers nodes → place < length nodes → node ≡ slice_index_or nodes place node → value_at (kept_values answers nodes) place ≡ node_value (kept_values answers nodes) (full answers node)
value_stands answers nodes place node k h read =
    k.sound.stands place (full answers node) (within_full answers nodes place h) ∙ ap (node_value (kept_values answers nodes)) (sym (full_at answers nodes place node h read))

pub over_at : (answers : List ℕ) (nodes : List Node) (place : ℕ) (node : Node) (h : Head) (under : ℕ) → AreKept answers nodes → place < length nodes → node ≡ slice_index_or nodes place node → single_part node ≡ Some under → h ≡ node_head (full answers node) → IsHead h
    → IsOver (kept_values answers nodes) place h under
over_at answers nodes place node h under k within read single is is_head =
    let values : List Evidence = kept_values answers nodes in
    let one : parts (full answers node) ≡ under ∷ [] = one_part answers node under single in
    let names : NamesBelow place (full answers node) = subst (NamesBelow place) (sym (full_at answers nodes place node within read)) (k.sound.backward place (full answers node) (within_full answers nodes place within)) in
    record {
      came = ap encoding (value_stands answers nodes place node k within read) ∙ parts_came values (full answers node) (under ∷ []) one ∙ ap (λ (x : Head). head_bytes x ++ encoding (value_at values under)) (sym is);
      before = parts_below place (full answers node) under names one;
      is_head = is_head;
    }

pub alone_at : (answers : List ℕ) (nodes : List Node) (place : ℕ) (node : Node) (h : Head) → AreKept answers nodes → place < length nodes → node ≡ slice_index_or nodes place node → is_leaf node ≡ true → h ≡ node_head (full answers node) → IsHead h → IsAlone (kept_values answers nodes) place h
alone_at answers nodes place node h k within read leaf is is_head =
    let values : List Evidence = kept_values answers nodes in
    record {
      came = ap encoding (value_stands answers nodes place node k within read) ∙ parts_came values (full answers node) [] (no_parts answers node leaf) ∙ append-nil (head (full answers node)) ∙ ap head_bytes (sym is);
      is_head = is_head;
    }
