-- A walk: the bytes that came and those that are still to come are those of the value.
use Rattle.std.proofs.Common.{◌≡◌, ℕ, suc, ◌+◌, ◌<◌, ◌≤◌, max, List, [], ◌∷◌, ◌++◌, length, slice_index_or, refl, sym, ap, subst, ◌∙◌, append_assoc, append-nil, length-append, arith}
use Rattle.evidence_types.specs.Evidence.{Evidence, empty, nonce, usm, kim, seal, hash, seq_pair, par_pair}
use Rattle.evidence_types.specs.Bytes.{encoding, nesting, be16, be32, FitsBundle}
use Rattle.evidence_types.specs.Heads.{Head, empty_head, nonce_head, usm_head, kim_head, seal_head, hash_head, seq_head, par_head, IsHead, head_bytes}
use Rattle.evidence_store.specs.Kept.{value_at}
use Rattle.evidence_store.specs.Nodes.{FullNode, empty_node, nonce_node, usm_node, kim_node, seal_node, hash_node, seq_node, par_node, node_value, node_head, values_of, NamesBelow, IsSound, head, parts}
use Rattle.evidence_store.specs.Walk.{to_come, Nests, Steps, IsOver}
use Rattle.evidence_store.specs.Feeding.{IsFed, IsFedUpTo}
use Rattle.seal_hmac.specs.declared.digester.Digester.{Digester}
use Rattle.seal_hmac.specs.Digests.{Digests}
use Rattle.evidence_store.proofs.NodeLemmas.{NamesBelow-more}

nesting-positive : (value : Evidence) → 1 ≤ nesting value
nesting-positive empty = omega arith
nesting-positive (nonce bytes) = omega arith
nesting-positive (usm event answer under) = omega arith
nesting-positive (kim event answer under) = omega arith
nesting-positive (seal event bytes under) = omega arith
nesting-positive (hash event bytes) = omega arith
nesting-positive (seq_pair left right) = omega arith
nesting-positive (par_pair left right) = omega arith

-- ---- the bytes

to_come-push : (values : List Evidence) (below : List ℕ) (place : ℕ) → to_come values (below ++ place ∷ []) ≡ encoding (value_at values place) ++ to_come values below
to_come-push values [] place = sym (append-nil (encoding (value_at values place)))
to_come-push values (first ∷ below) place =
    ap (λ (t : List ℕ). t ++ encoding (value_at values first)) (to_come-push values below place)
    ∙ append_assoc (encoding (value_at values place)) (to_come values below) (encoding (value_at values first))

to_come-push_two : (values : List Evidence) (below : List ℕ) (right left : ℕ) → to_come values (below ++ right ∷ left ∷ []) ≡ encoding (value_at values left) ++ (encoding (value_at values right) ++ to_come values below)
to_come-push_two values below right left =
    ap (to_come values) (sym (append_assoc below (right ∷ []) (left ∷ [])))
    ∙ to_come-push values (below ++ right ∷ []) left
    ∙ ap (λ (t : List ℕ). encoding (value_at values left) ++ t) (to_come-push values below right)

leaf_came : (values : List Evidence) (below bytes : List ℕ) → bytes ++ to_come values below ≡ bytes ++ to_come values (below ++ [])
leaf_came values below bytes = ap (λ (t : List ℕ). bytes ++ to_come values t) (sym (append-nil below))

-- a node with one part: its own bytes, then those of the part
over_came : (values : List Evidence) (below own : List ℕ) (under : ℕ) → (own ++ encoding (value_at values under)) ++ to_come values below ≡ own ++ to_come values (below ++ under ∷ [])
over_came values below own under =
    append_assoc own (encoding (value_at values under)) (to_come values below) ∙ ap (λ (t : List ℕ). own ++ t) (sym (to_come-push values below under))

answer_own : (event len answer under : List ℕ) (tag : ℕ) → tag ∷ (event ++ (len ++ (answer ++ under))) ≡ (tag ∷ (event ++ (len ++ answer))) ++ under
answer_own event len answer under tag =
    ap (λ (t : List ℕ). tag ∷ t) (ap (λ (t : List ℕ). event ++ t) (sym (append_assoc len answer under)) ∙ sym (append_assoc event (len ++ answer) under))

seal_own : (event bytes under : List ℕ) (tag : ℕ) → tag ∷ (event ++ (bytes ++ under)) ≡ (tag ∷ (event ++ bytes)) ++ under
seal_own event bytes under tag = ap (λ (t : List ℕ). tag ∷ t) (sym (append_assoc event bytes under))

pair_came : (values : List Evidence) (below : List ℕ) (left right tag : ℕ) → (tag ∷ (encoding (value_at values left) ++ encoding (value_at values right))) ++ to_come values below ≡ (tag ∷ []) ++ to_come values (below ++ right ∷ left ∷ [])
pair_came values below left right tag =
    ap (λ (t : List ℕ). tag ∷ t) (append_assoc (encoding (value_at values left)) (encoding (value_at values right)) (to_come values below) ∙ sym (to_come-push_two values below right left))

pub node_came : (values : List Evidence) (below : List ℕ) (node : FullNode) → encoding (node_value values node) ++ to_come values below ≡ head node ++ to_come values (below ++ parts node)
node_came values below empty_node = leaf_came values below (0 ∷ [])
node_came values below (nonce_node bytes) = leaf_came values below (1 ∷ bytes)
node_came values below (usm_node event answer under) =
    ap (λ (t : List ℕ). t ++ to_come values below) (answer_own (be32 event) (be16 (length answer)) answer (encoding (value_at values under)) 2)
    ∙ over_came values below (2 ∷ (be32 event ++ (be16 (length answer) ++ answer))) under
node_came values below (kim_node event answer under) =
    ap (λ (t : List ℕ). t ++ to_come values below) (answer_own (be32 event) (be16 (length answer)) answer (encoding (value_at values under)) 3)
    ∙ over_came values below (3 ∷ (be32 event ++ (be16 (length answer) ++ answer))) under
node_came values below (seal_node event bytes under) =
    ap (λ (t : List ℕ). t ++ to_come values below) (seal_own (be32 event) bytes (encoding (value_at values under)) 4)
    ∙ over_came values below (4 ∷ (be32 event ++ bytes)) under
node_came values below (hash_node event bytes) = leaf_came values below (5 ∷ (be32 event ++ bytes))
node_came values below (seq_node left right) = pair_came values below left right 6
node_came values below (par_node left right) = pair_came values below left right 7

-- ---- the room on the stack

pub record Pushed (values : List Evidence) (height : ℕ) (below : List ℕ) (place : ℕ) : Type 0 where
  pub below_it : Nests values height below
  pub here : place < length values
  pub room : nesting (value_at values place) + (height + length below) ≤ 1025

Nests-push : (values : List Evidence) (height : ℕ) (below : List ℕ) (place : ℕ) → Nests values height below → place < length values → nesting (value_at values place) + (height + length below) ≤ 1025 → Nests values height (below ++ place ∷ [])
Nests-push values height [] place n h room = (h, omega arith, tt)
Nests-push values height (first ∷ below) place n h room = (n.0, n.1, Nests-push values (suc height) below place n.2 h (omega arith))

Nests-pop : (values : List Evidence) (height : ℕ) (below : List ℕ) (place : ℕ) → Nests values height (below ++ place ∷ []) → Pushed values height below place
Nests-pop values height [] place n = record { below_it = tt; here = n.0; room = omega (arith, n.1) }
Nests-pop values height (first ∷ below) place n =
    let rest : Pushed values (suc height) below place = Nests-pop values (suc height) below place n.2 in
    record { below_it = (n.0, n.1, rest.below_it); here = rest.here; room = omega (arith, rest.room) }

-- after a node was taken, its parts are put on the stack
pub record Room (values : List Evidence) (below : List ℕ) (node : FullNode) : Type 0 where
  pub nests : Nests values 0 (below ++ parts node)
  pub fits : length below + length (parts node) ≤ 1025

leaf_room : (values : List Evidence) (below : List ℕ) → Nests values 0 below → 1 + length below ≤ 1025 → Nests values 0 (below ++ []) × (length below + 0 ≤ 1025)
leaf_room values below n room = (subst (Nests values 0) (sym (append-nil below)) n, omega arith)

over_room : (values : List Evidence) (below : List ℕ) (under : ℕ) → Nests values 0 below → under < length values → 1 + nesting (value_at values under) + length below ≤ 1025 → Nests values 0 (below ++ under ∷ []) × (length below + 1 ≤ 1025)
over_room values below under n h room = (Nests-push values 0 below under n h (omega arith), omega arith)

pair_room : (values : List Evidence) (below : List ℕ) (left right : ℕ) → Nests values 0 below → left < length values → right < length values → 1 + max (nesting (value_at values left)) (nesting (value_at values right)) + length below ≤ 1025
    → Nests values 0 (below ++ right ∷ left ∷ []) × (length below + 2 ≤ 1025)
pair_room values below left right n l r room =
    let first : Nests values 0 (below ++ right ∷ []) = Nests-push values 0 below right n r (omega arith) in
    let both : Nests values 0 ((below ++ right ∷ []) ++ left ∷ []) = Nests-push values 0 (below ++ right ∷ []) left first l (omega (arith, length-append below (right ∷ []))) in
    (subst (Nests values 0) (append_assoc below (right ∷ []) (left ∷ [])) both, omega (arith, nesting-positive (value_at values left)))

node_room : (values : List Evidence) (below : List ℕ) (node : FullNode) → Nests values 0 below → NamesBelow (length values) node → nesting (node_value values node) + length below ≤ 1025 → Nests values 0 (below ++ parts node) × (length below + length (parts node) ≤ 1025)
node_room values below empty_node n names room = leaf_room values below n room
node_room values below (nonce_node bytes) n names room = leaf_room values below n room
node_room values below (usm_node event answer under) n names room = over_room values below under n names room
node_room values below (kim_node event answer under) n names room = over_room values below under n names room
node_room values below (seal_node event bytes under) n names room = over_room values below under n names room
node_room values below (hash_node event bytes) n names room = leaf_room values below n room
node_room values below (seq_node left right) n names room = pair_room values below left right n names.0 names.1 room
node_room values below (par_node left right) n names room = pair_room values below left right n names.0 names.1 room

-- ---- one step of a walk

pub place_within : (nodes : List FullNode) (old below : List ℕ) (place : ℕ) → IsSound nodes → Nests (values_of nodes) 0 old → old ≡ below ++ place ∷ [] → place < length nodes
place_within nodes old below place s n e =
    let p : Pushed (values_of nodes) 0 below place = Nests-pop (values_of nodes) 0 below place (subst (Nests (values_of nodes) 0) e n) in
    omega (arith, p.here, s.counted)

pub step_room : (nodes : List FullNode) (old below : List ℕ) (place : ℕ) (node : FullNode) → IsSound nodes → Nests (values_of nodes) 0 old → old ≡ below ++ place ∷ [] → node ≡ slice_index_or nodes place node → Room (values_of nodes) below node
step_room nodes old below place node s n e read =
    let values : List Evidence = values_of nodes in
    let p : Pushed values 0 below place = Nests-pop values 0 below place (subst (Nests values 0) e n) in
    let h : place < length nodes = place_within nodes old below place s n e in
    let stands : value_at values place ≡ node_value values node = s.stands place node h ∙ ap (node_value values) (sym read) in
    let names : NamesBelow (length values) node = NamesBelow-more place (length values) node (omega (arith, p.here)) (subst (NamesBelow place) (sym read) (s.backward place node h)) in
    let room = node_room values below node p.below_it names (omega (arith, p.room, ap nesting stands)) in
    record { nests = room.0; fits = room.1 }

pub step_taken : (nodes : List FullNode) (old below : List ℕ) (place : ℕ) (node : FullNode) (new : List ℕ) (h : Head) → IsSound nodes → Nests (values_of nodes) 0 old → old ≡ below ++ place ∷ [] → node ≡ slice_index_or nodes place node → new ≡ below ++ parts node → h ≡ node_head node → IsHead h
    → Steps (values_of nodes) old h new
step_taken nodes old below place node new h s n e read f is is_head =
    let values : List Evidence = values_of nodes in
    let within : place < length nodes = place_within nodes old below place s n e in
    let stands : value_at values place ≡ node_value values node = s.stands place node within ∙ ap (node_value values) (sym read) in
    record {
      came = ap (to_come values) e ∙ to_come-push values below place ∙ ap (λ (v : Evidence). encoding v ++ to_come values below) stands ∙ node_came values below node
          ∙ ap (λ (t : List ℕ). head node ++ to_come values t) (sym f) ∙ ap (λ (x : Head). head_bytes x ++ to_come values new) (sym is);
      nests = subst (Nests values 0) (sym f) (step_room nodes old below place node s n e read).nests;
      is_head = is_head;
    }

-- ---- whole walks

-- what came, and what waits, of a value's bytes
pub record Walk (values : List Evidence) (value : Evidence) (came waiting : List ℕ) : Type 0 where
  pub spelled : came ++ to_come values waiting ≡ encoding value
  pub nests : Nests values 0 waiting

pub walk_begins : (nodes : List FullNode) (place : ℕ) (waiting : List ℕ) → IsSound nodes → place < length nodes → waiting ≡ place ∷ [] → Walk (values_of nodes) (value_at (values_of nodes) place) [] waiting
walk_begins nodes place waiting s h e =
    let fits : FitsBundle (value_at (values_of nodes) place) = s.fits place h in
    let first : Nests (values_of nodes) 0 (place ∷ []) = (omega (arith, s.counted), omega (arith, fits.shallow), tt) in
    record {
      spelled = ap (to_come (values_of nodes)) e;
      nests = subst (Nests (values_of nodes) 0) (sym e) first;
    }

pub walk_steps : (values : List Evidence) (value : Evidence) (came old : List ℕ) (h : Head) (new : List ℕ) → Walk values value came old → Steps values old h new → Walk values value (came ++ head_bytes h) new
walk_steps values value came old h new w s = record {
  spelled = append_assoc came (head_bytes h) (to_come values new) ∙ ap (λ (t : List ℕ). came ++ t) (sym s.came) ∙ w.spelled;
  nests = s.nests;
}

pub walk_ends : (values : List Evidence) (value : Evidence) (came waiting : List ℕ) → Walk values value came waiting → waiting ≡ [] → came ≡ encoding value
walk_ends values value came waiting w e =
    sym (append-nil came) ∙ ap (λ (t : List ℕ). came ++ to_come values t) (sym e) ∙ w.spelled

pub head-some : (h : Head) → 1 ≤ length (head_bytes h)
head-some empty_head = omega arith
head-some (nonce_head bytes) = omega arith
head-some (usm_head event mark answer) = omega arith
head-some (kim_head event mark answer) = omega arith
head-some (seal_head event bytes) = omega arith
head-some (hash_head event bytes) = omega arith
head-some seq_head = omega arith
head-some par_head = omega arith

pub step_smaller : (values : List Evidence) (old : List ℕ) (h : Head) (new : List ℕ) → Steps values old h new → length (to_come values new) < length (to_come values old)
step_smaller values old h new s =
    omega (arith, ap length s.came, length-append (head_bytes h) (to_come values new), head-some h)

-- ---- the three walks

-- the bytes that came were counted
pub record Counted (values : List Evidence) (value : Evidence) (total : ℕ) (waiting : List ℕ) : Type 0 where
  pub came : List ℕ
  pub walk : Walk values value came waiting
  pub count : total ≡ length came

pub Counted-steps : (values : List Evidence) (value : Evidence) (total : ℕ) (old : List ℕ) (h : Head) (size : ℕ) (new : List ℕ) → Counted values value total old → Steps values old h new → size ≡ length (head_bytes h) → Counted values value (total + size) new
Counted-steps values value total old h size new c s e = record {
  came = c.came ++ head_bytes h;
  walk = walk_steps values value c.came old h new c.walk s;
  count = omega (arith, c.count, length-append c.came (head_bytes h));
}

pub Counted-within : (values : List Evidence) (value : Evidence) (total : ℕ) (waiting : List ℕ) → Counted values value total waiting → total ≤ length (encoding value)
Counted-within values value total waiting c =
    omega (arith, c.count, length-append c.came (to_come values waiting), ap length c.walk.spelled)

pub Counted-ends : (values : List Evidence) (value : Evidence) (total : ℕ) (waiting : List ℕ) → Counted values value total waiting → waiting ≡ [] → total ≡ length (encoding value)
Counted-ends values value total waiting c e = c.count ∙ ap length (walk_ends values value c.came waiting c.walk e)

-- the bytes that came were appended
pub record Pushing (values : List Evidence) (value : Evidence) (old now : List ℕ) (waiting : List ℕ) : Type 0 where
  pub came : List ℕ
  pub walk : Walk values value came waiting
  pub pushed : now ≡ old ++ came

pub Pushing-steps : (values : List Evidence) (value : Evidence) (first now next : List ℕ) (old : List ℕ) (h : Head) (new : List ℕ) → Pushing values value first now old → Steps values old h new → next ≡ now ++ head_bytes h → Pushing values value first next new
Pushing-steps values value first now next old h new c s e = record {
  came = c.came ++ head_bytes h;
  walk = walk_steps values value c.came old h new c.walk s;
  pushed = e ∙ ap (λ (t : List ℕ). t ++ head_bytes h) c.pushed ∙ append_assoc first c.came (head_bytes h);
}

pub Pushing-ends : (values : List Evidence) (value : Evidence) (first now : List ℕ) (waiting : List ℕ) → Pushing values value first now waiting → waiting ≡ [] → now ≡ first ++ encoding value
Pushing-ends values value first now waiting c e = c.pushed ∙ ap (λ (t : List ℕ). first ++ t) (walk_ends values value c.came waiting c.walk e)

-- the bytes that came were fed
pub record Feeding (values : List Evidence) (value : Evidence) (old now : Digester) (waiting : List ℕ) : Type 0 where
  pub came : List ℕ
  pub walk : Walk values value came waiting
  pub fed : IsFed old came now

IsFed-then : (first now next : Digester) (x y : List ℕ) → IsFed first x now → IsFed now y next → IsFed first (x ++ y) next
IsFed-then first now next x y f g = λ kind fed h. subst (λ (t : List ℕ). Digests kind t next) (append_assoc fed x y) (g kind (fed ++ x) (f kind fed h))

pub Feeding-begins : (values : List Evidence) (value : Evidence) (first : Digester) (waiting : List ℕ) → Walk values value [] waiting → Feeding values value first first waiting
Feeding-begins values value first waiting w = record {
  came = [];
  walk = w;
  fed = λ kind fed h. subst (λ (t : List ℕ). Digests kind t first) (sym (append-nil fed)) h;
}

pub Feeding-steps : (values : List Evidence) (value : Evidence) (first now next : Digester) (old : List ℕ) (h : Head) (new : List ℕ) → Feeding values value first now old → Steps values old h new → IsFed now (head_bytes h) next → Feeding values value first next new
Feeding-steps values value first now next old h new c s e = record {
  came = c.came ++ head_bytes h;
  walk = walk_steps values value c.came old h new c.walk s;
  fed = IsFed-then first now next c.came (head_bytes h) c.fed e;
}

pub Feeding-ends : (values : List Evidence) (value : Evidence) (first now : Digester) (waiting : List ℕ) → Feeding values value first now waiting → waiting ≡ [] → IsFed first (encoding value) now
Feeding-ends values value first now waiting c e = subst (λ (t : List ℕ). IsFed first t now) (walk_ends values value c.came waiting c.walk e) c.fed

-- ---- a chain of values, each with one part

pub chain_begins : (values : List Evidence) (place : ℕ) (first : Digester) → IsFedUpTo values place first place first
chain_begins values place first = record {
  came = [];
  fed = λ kind fed h. subst (λ (t : List ℕ). Digests kind t first) (sym (append-nil fed)) h;
  whole = refl;
}

pub chain_steps : (values : List Evidence) (place : ℕ) (first now next : Digester) (here under : ℕ) (h : Head) → IsFedUpTo values place first here now → IsOver values here h under → IsFed now (head_bytes h) next → IsFedUpTo values place first under next
chain_steps values place first now next here under h c o f = record {
  came = c.came ++ head_bytes h;
  fed = IsFed-then first now next c.came (head_bytes h) c.fed f;
  whole = append_assoc c.came (head_bytes h) (encoding (value_at values under)) ∙ ap (λ (t : List ℕ). c.came ++ t) (sym o.came) ∙ c.whole;
}

pub chain_ends : (values : List Evidence) (place : ℕ) (first now next : Digester) (here : ℕ) → IsFedUpTo values place first here now → IsFed now (encoding (value_at values here)) next → IsFed first (encoding (value_at values place)) next
chain_ends values place first now next here c f =
    subst (λ (t : List ℕ). IsFed first t next) c.whole (IsFed-then first now next c.came (encoding (value_at values here)) c.fed f)
