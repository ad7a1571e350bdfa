-- A node that is added keeps the nodes and the values that were there.
use Rattle.std.proofs.Common.{◌≡◌, ℕ, ◌+◌, ◌<◌, ◌≤◌, List, [], ◌∷◌, ◌++◌, length, slice_index_or, refl, sym, ap, ap₂, subst, ◌∙◌, length-append, eq-or-lt_of_le, arith, ⊎_elim, Ok}
use Rattle.std.proofs.lemmas.List.{get_or_append_left, get_or_push}
use Rattle.evidence_types.specs.Evidence.{Evidence, empty, usm, kim, seal, seq_pair, par_pair}
use Rattle.evidence_types.specs.Bytes.{FitsBundle}
use Rattle.evidence_types.specs.Heads.{IsHead}
use Rattle.evidence_types.specs.WellFormed.{IsWellFormed}
use Rattle.evidence_store.specs.Kept.{Kept, value_at, Grows, Adds}
use Rattle.evidence_store.specs.Nodes.{FullNode, empty_node, nonce_node, usm_node, kim_node, seal_node, hash_node, seq_node, par_node, node_value, node_head, values_after, values_of, NamesBelow, IsSound}

pub value_at-append : (values more : List Evidence) (id : ℕ) → id < length values → value_at (values ++ more) id ≡ value_at values id
value_at-append values more id h = get_or_append_left values more empty id h

-- later values change no node
node_value-append : (values more : List Evidence) (node : FullNode) → NamesBelow (length values) node → node_value (values ++ more) node ≡ node_value values node
node_value-append values more empty_node h = refl
node_value-append values more (nonce_node bytes) h = refl
node_value-append values more (usm_node event answer under) h = ap (usm event answer) (value_at-append values more under h)
node_value-append values more (kim_node event answer under) h = ap (kim event answer) (value_at-append values more under h)
node_value-append values more (seal_node event bytes under) h = ap (seal event bytes) (value_at-append values more under h)
node_value-append values more (hash_node event bytes) h = refl
node_value-append values more (seq_node left right) h = ap₂ seq_pair (value_at-append values more left h.0) (value_at-append values more right h.1)
node_value-append values more (par_node left right) h = ap₂ par_pair (value_at-append values more left h.0) (value_at-append values more right h.1)

pub NamesBelow-more : (low high : ℕ) (node : FullNode) → low ≤ high → NamesBelow low node → NamesBelow high node
NamesBelow-more low high empty_node le h = tt
NamesBelow-more low high (nonce_node bytes) le h = tt
NamesBelow-more low high (usm_node event answer under) le h = omega arith
NamesBelow-more low high (kim_node event answer under) le h = omega arith
NamesBelow-more low high (seal_node event bytes under) le h = omega arith
NamesBelow-more low high (hash_node event bytes) le h = tt
NamesBelow-more low high (seq_node left right) le h = (omega arith, omega arith)
NamesBelow-more low high (par_node left right) le h = (omega arith, omega arith)

values_after-push : (values : List Evidence) (nodes : List FullNode) (node : FullNode) → values_after values (nodes ++ node ∷ []) ≡ values_after values nodes ++ node_value (values_after values nodes) node ∷ []
values_after-push values [] node = refl
values_after-push values (first ∷ nodes) node = values_after-push (values ++ node_value values first ∷ []) nodes node

pub values_of-push : (nodes : List FullNode) (node : FullNode) → values_of (nodes ++ node ∷ []) ≡ values_of nodes ++ node_value (values_of nodes) node ∷ []
values_of-push nodes node = values_after-push [] nodes node

-- ---- what is said of every place, when one is added

each_place : (P : ℕ → Type 0) (len : ℕ) → ((place : ℕ) → place < len → P place) → P len → (place : ℕ) → place < len + 1 → P place
each_place P len below here place h =
    ⊎_elim (λ (e : place ≡ len). subst P (sym e) here) (λ (l : place < len). below place l) (eq-or-lt_of_le (omega arith))

pub IsSound-nil : IsSound []
IsSound-nil = record {
  counted = refl;
  backward = λ place other h. absurd (omega arith);
  stands = λ place other h. absurd (omega arith);
  fits = λ place h. absurd (omega arith);
  well_formed = λ place h. absurd (omega arith);
}

-- a node whose parts are well formed is so itself
node-well_formed : (values : List Evidence) (node : FullNode) → ((place : ℕ) → place < length values → IsWellFormed (value_at values place)) → NamesBelow (length values) node → IsHead (node_head node) → IsWellFormed (node_value values node)
node-well_formed values empty_node each names h = tt
node-well_formed values (nonce_node bytes) each names h = h
node-well_formed values (usm_node event answer under) each names h = (h.0, h.1, each under names)
node-well_formed values (kim_node event answer under) each names h = (h.0, h.1, each under names)
node-well_formed values (seal_node event bytes under) each names h = (h.0, h.1, each under names)
node-well_formed values (hash_node event bytes) each names h = h
node-well_formed values (seq_node left right) each names h = (each left names.0, each right names.1)
node-well_formed values (par_node left right) each names h = (each left names.0, each right names.1)

pub IsSound-push : (nodes : List FullNode) (node : FullNode) → IsSound nodes → NamesBelow (length (values_of nodes)) node → FitsBundle (node_value (values_of nodes) node) → IsHead (node_head node) → IsSound (nodes ++ node ∷ [])
IsSound-push nodes node s names fits is_head =
    let values : List Evidence = values_of nodes in
    let value : Evidence = node_value values node in
    let grown : values_of (nodes ++ node ∷ []) ≡ values ++ value ∷ [] = values_of-push nodes node in
    let len : length (nodes ++ node ∷ []) ≡ length nodes + 1 = length-append nodes (node ∷ []) in
    let names_nodes : NamesBelow (length nodes) node = subst (λ (n : ℕ). NamesBelow n node) s.counted names in
    record {
      counted = ap length grown ∙ length-append values (value ∷ []) ∙ ap (λ (n : ℕ). n + 1) s.counted ∙ sym len;
      backward = λ place other h. each_place (λ (p : ℕ). NamesBelow p (slice_index_or (nodes ++ node ∷ []) p other)) (length nodes)
          (λ p l. subst (NamesBelow p) (sym (get_or_append_left nodes (node ∷ []) other p l)) (s.backward p other l))
          (subst (NamesBelow (length nodes)) (sym (get_or_push nodes node other (length nodes) refl)) names_nodes)
          place (omega (arith, len));
      stands = λ place other h. subst (λ (vs : List Evidence). value_at vs place ≡ node_value vs (slice_index_or (nodes ++ node ∷ []) place other)) (sym grown)
          (each_place (λ (p : ℕ). value_at (values ++ value ∷ []) p ≡ node_value (values ++ value ∷ []) (slice_index_or (nodes ++ node ∷ []) p other)) (length nodes)
          (λ p l.
          value_at-append values (value ∷ []) p (omega (arith, s.counted)) ∙ s.stands p other l
          ∙ sym (node_value-append values (value ∷ []) (slice_index_or nodes p other) (NamesBelow-more p (length values) (slice_index_or nodes p other) (omega (arith, s.counted)) (s.backward p other l)))
          ∙ ap (node_value (values ++ value ∷ [])) (sym (get_or_append_left nodes (node ∷ []) other p l)))
          (get_or_push values value empty (length nodes) s.counted
          ∙ sym (node_value-append values (value ∷ []) node names)
          ∙ ap (node_value (values ++ value ∷ [])) (sym (get_or_push nodes node other (length nodes) refl)))
          place (omega (arith, len)));
      fits = λ place h. subst (λ (vs : List Evidence). FitsBundle (value_at vs place)) (sym grown)
          (each_place (λ (p : ℕ). FitsBundle (value_at (values ++ value ∷ []) p)) (length nodes)
          (λ p l. subst FitsBundle (sym (value_at-append values (value ∷ []) p (omega (arith, s.counted)))) (s.fits p l))
          (subst FitsBundle (sym (get_or_push values value empty (length nodes) s.counted)) fits)
          place (omega (arith, len)));
      well_formed = λ place h. subst (λ (vs : List Evidence). IsWellFormed (value_at vs place)) (sym grown)
          (each_place (λ (p : ℕ). IsWellFormed (value_at (values ++ value ∷ []) p)) (length nodes)
          (λ p l. subst IsWellFormed (sym (value_at-append values (value ∷ []) p (omega (arith, s.counted)))) (s.well_formed p l))
          (subst IsWellFormed (sym (get_or_push values value empty (length nodes) s.counted)) (node-well_formed values node (λ p l. s.well_formed p (omega (arith, l, s.counted))) names is_head))
          place (omega (arith, len)));
    }

-- ---- additions

pub Grows-same : (old new : List Evidence) → new ≡ old → Grows old new
Grows-same old new e = record {
  longer = omega (arith, ap length e);
  same = λ id h. ap (λ (vs : List Evidence). value_at vs id) e;
}

pub Grows-then : (first second third : List Evidence) → Grows first second → Grows second third → Grows first third
Grows-then first second third g h = record {
  longer = omega (arith, g.longer, h.longer);
  same = λ id lt. h.same id (omega (arith, lt, g.longer)) ∙ g.same id lt;
}

pub Grows-added : (old : List Evidence) (value : Evidence) (new : List Evidence) → new ≡ old ++ value ∷ [] → Grows old new
Grows-added old value new e = record {
  longer = omega (arith, ap length e, length-append old (value ∷ []));
  same = λ id h. ap (λ (vs : List Evidence). value_at vs id) e ∙ value_at-append old (value ∷ []) id h;
}

pub Adds-added : (old : Kept) (nodes new : List FullNode) (node : FullNode) (place spare : ℕ) → IsSound nodes → values_of nodes ≡ old.values → place ≡ length nodes → new ≡ nodes ++ node ∷ [] → (1 ≤ old.spare → old.spare ≡ spare + 1)
    → Adds old (node_value old.values node) (Ok place) (record { values = values_of new; spare = spare })
Adds-added old nodes new node place spare s seen here pushed room =
    let grown : values_of new ≡ old.values ++ node_value old.values node ∷ [] =
    ap values_of pushed ∙ values_of-push nodes node ∙ ap (λ (vs : List Evidence). vs ++ node_value vs node ∷ []) seen in
    let place_is : place ≡ length old.values = here ∙ sym s.counted ∙ ap length seen in
    record {
      added = record {
        place = place_is;
        grown = grown;
        within = omega (arith, place_is, ap length grown, length-append old.values (node_value old.values node ∷ []));
        stands = ap (λ (vs : List Evidence). value_at vs place) grown ∙ get_or_push old.values (node_value old.values node) empty place (sym place_is);
      };
      refused = tt;
      spare_stays = tt;
      grows = Grows-added old.values (node_value old.values node) (values_of new) grown;
      in_spare = λ h. (refl, room h);
    }
