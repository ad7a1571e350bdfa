-- What the open nodes come to, with the heads to come.
use Rattle.std.proofs.Common.{◌≡◌, ℕ, List, [], ◌∷◌, ◌++◌, drop, Option, Some, None, refl, sym, ap, ◌∙◌, append_assoc, append-nil}
use Rattle.evidence_types.specs.Evidence.{Evidence, empty, nonce, usm, kim, seal, hash, seq_pair, par_pair}
use Rattle.evidence_types.specs.Heads.{Head, empty_head, nonce_head, usm_head, kim_head, seal_head, hash_head, seq_head, par_head, heads, next_mark, mark_byte, marks_of}
use Rattle.evidence_types.specs.Marked.{measurements}
use Rattle.evidence_codec.specs.Building.{Values, over, both, first, put, values_of, wrapped, paired, Open, over_open, left_open, right_open, in_node, in_nodes, made_of, closed, waiting, filled, Closes, Opens, Takes, Builds}

-- the value of its own heads, in front of those of the heads behind them
pub value-of : (value : Evidence) (marks : List ℕ) (rest : List Head) → values_of (heads value marks ++ rest) ≡ Some value ∷ values_of rest
value-of empty marks rest = refl
value-of (nonce bytes) marks rest = refl
value-of (usm event answer under) marks rest = ap (λ (values : Values). put (usm_head event (next_mark marks) answer) values) (value-of under (drop 1 marks) rest)
value-of (kim event answer under) marks rest = ap (λ (values : Values). put (kim_head event (next_mark marks) answer) values) (value-of under (drop 1 marks) rest)
value-of (seal event bytes under) marks rest = ap (λ (values : Values). put (seal_head event bytes) values) (value-of under marks rest)
value-of (hash event bytes) marks rest = refl
value-of (seq_pair left right) marks rest =
    let behind : List Head = heads right (drop (measurements left) marks) in
    ap (λ (hs : List Head). put seq_head (values_of hs)) (append_assoc (heads left marks) behind rest)
    ∙ ap (λ (values : Values). put seq_head values) (value-of left marks (behind ++ rest) ∙ ap (λ (values : Values). Some left ∷ values) (value-of right (drop (measurements left) marks) rest))
value-of (par_pair left right) marks rest =
    let behind : List Head = heads right (drop (measurements left) marks) in
    ap (λ (hs : List Head). put par_head (values_of hs)) (append_assoc (heads left marks) behind rest)
    ∙ ap (λ (values : Values). put par_head values) (value-of left marks (behind ++ rest) ∙ ap (λ (values : Values). Some left ∷ values) (value-of right (drop (measurements left) marks) rest))

pub in_nodes-push : (nodes : List Open) (node : Open) (values : Values) → in_nodes (nodes ++ node ∷ []) values ≡ in_nodes nodes (in_node node values)
in_nodes-push [] node values = refl
in_nodes-push (outer ∷ nodes) node values = ap (λ (v : Values). in_node outer v) (in_nodes-push nodes node values)

-- ---- a part put into the innermost node

-- what the open nodes come to with this value as the part that the innermost waits for
pub record Same (old : List Open) (value : Evidence) (new : List Open) (whole : Evidence) : Type 0 where
  pub come : (values : Values) → in_nodes old (Some value ∷ values) ≡ in_nodes new (Some whole ∷ values)

pub same-first : (old : List Open) (value : Evidence) → Same old value old value
same-first old value = record { come = λ values. refl }

filled-closed : (node : Open) (part whole : Evidence) (values : Values) → filled node part ≡ closed whole → in_node node (Some part ∷ values) ≡ Some whole ∷ values
filled-closed (over_open node) part whole values e = let k : wrapped node part ≡ whole = cc in ap (λ (v : Evidence). Some v ∷ values) k
filled-closed (left_open parallel) part whole values e = absurd cc
filled-closed (right_open parallel left) part whole values e = let k : paired parallel left part ≡ whole = cc in ap (λ (v : Evidence). Some v ∷ values) k

both-over : (make : Evidence → Evidence → Evidence) (left : Evidence) (right : Option Evidence) → both make (Some left) right ≡ over (make left) right
both-over make left None = refl
both-over make left (Some right) = refl

filled-waiting : (node : Open) (part : Evidence) (now : Open) (values : Values) → filled node part ≡ waiting now → in_node node (Some part ∷ values) ≡ in_node now values
filled-waiting (over_open node) part now values e = absurd cc
filled-waiting (left_open parallel) part now values e =
    let k : right_open parallel part ≡ now = cc in
    ap (λ (v : Option Evidence). v ∷ drop 1 values) (both-over (paired parallel) part (first values)) ∙ ap (λ (n : Open). in_node n values) k
filled-waiting (right_open parallel left) part now values e = absurd cc

pub same-closed : (old : List Open) (value : Evidence) (below : List Open) (node : Open) (part whole : Evidence) → Same old value (below ++ node ∷ []) part → filled node part ≡ closed whole → Same old value below whole
same-closed old value below node part whole s e = record {
  come = λ values. s.come values ∙ in_nodes-push below node (Some part ∷ values) ∙ ap (λ (v : Values). in_nodes below v) (filled-closed node part whole values e);
}

pub same-waiting : (old : List Open) (value : Evidence) (below : List Open) (node now : Open) (part : Evidence) → Same old value (below ++ node ∷ []) part → filled node part ≡ waiting now → Closes old value (below ++ now ∷ []) None
same-waiting old value below node now part s e = record {
  come = λ values. s.come values ∙ in_nodes-push below node (Some part ∷ values) ∙ ap (λ (v : Values). in_nodes below v) (filled-waiting node part now values e) ∙ sym (in_nodes-push below now values);
}

pub same-all : (old : List Open) (value whole : Evidence) → Same old value [] whole → Closes old value [] (Some whole)
same-all old value whole s = record { come = s.come }

pub opens-push : (old : List Open) (node : Open) → Opens old node (old ++ node ∷ []) None
opens-push old node = record { come = λ values. sym (in_nodes-push old node values) }

-- ---- the heads so far

pub builds-first : Builds [] [] None
builds-first = record { come = λ value marks rest e. ap values_of e ∙ ap values_of (sym (append-nil (heads value marks))) ∙ value-of value marks [] }

front-none : (v : Option Evidence) (values : Values) (w : Option Evidence) → v ∷ values ≡ w ∷ [] → values ≡ []
front-none v values w e = cc

put-some : (head : Head) (values : Values) → put head values ≡ [] → ⊥
put-some empty_head values e = absurd cc
put-some (nonce_head bytes) values e = absurd cc
put-some (usm_head event mark answer) values e = absurd cc
put-some (kim_head event mark answer) values e = absurd cc
put-some (seal_head event bytes) values e = absurd cc
put-some (hash_head event bytes) values e = absurd cc
put-some seq_head values e = absurd cc
put-some par_head values e = absurd cc

next_come : (nodes : List Open) (all : Option Evidence) (head : Head) (new : List Open) (now : Option Evidence) (values : Values) (value : Evidence) → Takes nodes head new now → made_of nodes all (put head values) ≡ Some value ∷ [] → made_of new now values ≡ Some value ∷ []
next_come nodes None head new now values value t e = sym (t.come values) ∙ e
next_come nodes (Some whole) head new now values value t e = absurd (put-some head values (front-none (Some whole) (put head values) (Some value) e))

pub builds-next : (read : List Head) (nodes : List Open) (all : Option Evidence) (head : Head) (new : List Open) (now : Option Evidence) → Builds read nodes all → Takes nodes head new now → Builds (read ++ head ∷ []) new now
builds-next read nodes all head new now b t = record {
  come = λ value marks rest e. next_come nodes all head new now (values_of rest) value t (b.come value marks (head ∷ rest) (sym (append_assoc read (head ∷ []) rest) ∙ e));
}

-- ---- the end

first-none : (node : Open) (values : Values) → first values ≡ None → first (in_node node values) ≡ None
first-none (over_open node) values e = ap (λ (v : Option Evidence). over (λ under. wrapped node under) v) e
first-none (left_open parallel) values e = ap (λ (v : Option Evidence). both (λ left right. paired parallel left right) v (first (drop 1 values))) e
first-none (right_open parallel left) values e = ap (λ (v : Option Evidence). over (λ right. paired parallel left right) v) e

nodes-none : (nodes : List Open) → first (in_nodes nodes []) ≡ None
nodes-none [] = refl
nodes-none (node ∷ nodes) = first-none node (in_nodes nodes []) (nodes-none nodes)

some-none : (value : Evidence) → Some value ≡ None → ⊥
some-none value e = absurd cc

-- where the heads were those of a value, it is whole
pub whole-is : (read : List Head) (nodes : List Open) (all : Option Evidence) (value : Evidence) (marks : List ℕ) → Builds read nodes all → read ≡ heads value marks → all ≡ Some value
whole-is read nodes None value marks b e =
    let come = b.come value marks [] (append-nil read ∙ e) in
    absurd (some-none value (sym (ap first come) ∙ nodes-none nodes))
whole-is read nodes (Some whole) value marks b e =
    ap first (b.come value marks [] (append-nil read ∙ e))

-- ---- the marks of the heads

pub marks-push : (read : List Head) (head : Head) → marks_of (read ++ head ∷ []) ≡ marks_of read ++ marks_of (head ∷ [])
marks-push [] head = refl
marks-push (empty_head ∷ rest) head = marks-push rest head
marks-push (nonce_head bytes ∷ rest) head = marks-push rest head
marks-push (usm_head event mark answer ∷ rest) head = ap (λ (t : List ℕ). mark_byte mark ++ t) (marks-push rest head) ∙ sym (append_assoc (mark_byte mark) (marks_of rest) (marks_of (head ∷ [])))
marks-push (kim_head event mark answer ∷ rest) head = ap (λ (t : List ℕ). mark_byte mark ++ t) (marks-push rest head) ∙ sym (append_assoc (mark_byte mark) (marks_of rest) (marks_of (head ∷ [])))
marks-push (seal_head event bytes ∷ rest) head = marks-push rest head
marks-push (hash_head event bytes ∷ rest) head = marks-push rest head
marks-push (seq_head ∷ rest) head = marks-push rest head
marks-push (par_head ∷ rest) head = marks-push rest head
