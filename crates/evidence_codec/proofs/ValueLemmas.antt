-- The heads that are read are those of a value, and the heads of a value are read again, whatever follows them.
use Rattle.std.proofs.Common.{◌≡◌, ℕ, zero, suc, ◌+◌, ◌≤◌, List, [], ◌∷◌, ◌++◌, length, drop, Option, Ok, Err, refl, sym, ap, ap₂, subst, ◌∙◌, append_assoc, append-nil, length-append, arith}
use Rattle.std.proofs.lemmas.List.{drop_at, length-drop}
use Rattle.evidence_types.specs.Evidence.{Evidence, empty, nonce, usm, kim, seal, hash, seq_pair, par_pair}
use Rattle.evidence_types.specs.Bytes.{nesting}
use Rattle.evidence_types.specs.Heads.{Head, empty_head, nonce_head, usm_head, kim_head, seal_head, hash_head, seq_head, par_head, head_bytes, heads, joined, mark_byte, next_mark, IsHead}
use Rattle.evidence_types.specs.Marked.{measurements}
use Rattle.evidence_types.specs.WellFormed.{IsWellFormed}
use Rattle.evidence_types.proofs.HeadLemmas.{joined-append}
use Rattle.evidence_codec.specs.declared.fault.Fault.{Fault}
use Rattle.evidence_codec.specs.declared.version.Version.{Version}
use Rattle.evidence_codec.specs.declared.version.Version.TheVariants.{Plain, Marked}
use Rattle.evidence_codec.specs.Versions.{AreMarks}
use Rattle.evidence_codec.specs.Reading.{Front, Found, head_at, part_count, before, followed, parts_at, with_parts, heads_at}
use Rattle.evidence_codec.proofs.FieldLemmas.{IsBytes, Split, Split-then, IsMark}
use Rattle.evidence_codec.proofs.HeadLemmas.{HasMark, head_takes, head_again}

abbrev pub found : List Head × List ℕ → Found
found x = Ok x

pub found-is : (x y : List Head × List ℕ) → found x ≡ found y → x ≡ y
found-is x y e = cc

-- ---- marks

-- the marks of a pair are those of its left part and then those of its right part
marks-joined : (version : Version) (m n : ℕ) (left right : List ℕ) → AreMarks version m left → AreMarks version n right → AreMarks version (m + n) (left ++ right)
marks-joined Plain m n left right l r = ap₂ (λ (a b : List ℕ). a ++ b) l r
marks-joined Marked m n left right l r = length-append left right ∙ ap₂ (λ (a b : ℕ). a + b) l r

-- what a value makes of marks, where there are enough of them or none
abbrev pub Enough : Version → ℕ → List ℕ → Type 0
Enough Plain count marks = marks ≡ []
Enough Marked count marks = count ≤ length marks

abbrev no_marks : List ℕ
no_marks = []

drop-none : (n : ℕ) → drop n no_marks ≡ []
drop-none zero = refl
drop-none (suc n) = refl

drop-append : (n : ℕ) (left right : List ℕ) → n ≤ length left → drop n (left ++ right) ≡ drop n left ++ right
drop-append zero left right le = refl
drop-append (suc n) [] right le = absurd (omega arith)
drop-append (suc n) (first ∷ rest) right le = drop-append n rest right (omega arith)

next-append : (left right : List ℕ) → 1 ≤ length left → next_mark (left ++ right) ≡ next_mark left
next-append [] right le = absurd (omega arith)
next-append (first ∷ rest) right le = refl

-- marks behind those that a value takes change none of its heads
heads-more : (value : Evidence) (marks more : List ℕ) → measurements value ≤ length marks → heads value (marks ++ more) ≡ heads value marks
heads-more empty marks more le = refl
heads-more (nonce bytes) marks more le = refl
heads-more (usm event answer under) marks more le =
    ap₂ (λ (m : Option ℕ) (t : List Head). usm_head event m answer ∷ t) (next-append marks more (omega (arith, le)))
    (ap (heads under) (drop-append 1 marks more (omega (arith, le))) ∙ heads-more under (drop 1 marks) more (omega (arith, le, length-drop 1 marks)))
heads-more (kim event answer under) marks more le =
    ap₂ (λ (m : Option ℕ) (t : List Head). kim_head event m answer ∷ t) (next-append marks more (omega (arith, le)))
    (ap (heads under) (drop-append 1 marks more (omega (arith, le))) ∙ heads-more under (drop 1 marks) more (omega (arith, le, length-drop 1 marks)))
heads-more (seal event bytes under) marks more le = ap (λ (t : List Head). seal_head event bytes ∷ t) (heads-more under marks more le)
heads-more (hash event bytes) marks more le = refl
heads-more (seq_pair left right) marks more le =
    ap₂ (λ (a b : List Head). seq_head ∷ (a ++ b)) (heads-more left marks more (omega (arith, le)))
    (ap (heads right) (drop-append (measurements left) marks more (omega (arith, le))) ∙ heads-more right (drop (measurements left) marks) more (omega (arith, le, length-drop (measurements left) marks)))
heads-more (par_pair left right) marks more le =
    ap₂ (λ (a b : List Head). par_head ∷ (a ++ b)) (heads-more left marks more (omega (arith, le)))
    (ap (heads right) (drop-append (measurements left) marks more (omega (arith, le))) ∙ heads-more right (drop (measurements left) marks) more (omega (arith, le, length-drop (measurements left) marks)))

-- the heads of the two parts of a pair, each with its own marks, are those with the marks of both
pair-heads : (version : Version) (left right : Evidence) (first second : List ℕ) → AreMarks version (measurements left) first → AreMarks version (measurements right) second
    → heads left (first ++ second) ++ heads right (drop (measurements left) (first ++ second)) ≡ heads left first ++ heads right second
pair-heads Plain left right first second l r =
    rw (l, r) (ap (λ (m : List ℕ). heads left no_marks ++ heads right m) (drop-none (measurements left)))
pair-heads Marked left right first second l r =
    ap₂ (λ (a : List Head) (m : List ℕ). a ++ heads right m) (heads-more left first second (omega (arith, l))) (drop_at first second (measurements left) l)

-- ---- what is read was written

-- heads are those of a value with marks, which nests at most so deep
pub record ValueRead (version : Version) (depth : ℕ) (bytes : List ℕ) (x : List Head × List ℕ) : Type 0 where
  pub value : Evidence
  pub marks : List ℕ
  pub heads_are : x.0 ≡ heads value marks
  pub are_marks : AreMarks version (measurements value) marks
  pub well_formed : IsWellFormed value
  pub shallow : nesting value ≤ depth
  pub front : Split bytes (joined x.0) x.1

-- heads are those of so many values
abbrev AreParts : Version → ℕ → ℕ → List ℕ → List Head × List ℕ → Type 0
AreParts version depth zero bytes x = (x.0 ≡ []) × (x.1 ≡ bytes)
AreParts version depth (suc more) bytes x =
    (first : List Head × List ℕ) × (rest : List Head × List ℕ) × ValueRead version depth bytes first × AreParts version depth more first.1 rest × (x ≡ (first.0 ++ rest.0, rest.1))

-- a thing that is followed by another
pub record Followed (r : Found) (next : List ℕ → Found) (x : List Head × List ℕ) : Type 0 where
  pub first : List Head × List ℕ
  pub rest : List Head × List ℕ
  pub first_is : r ≡ Ok first
  pub rest_is : next first.1 ≡ Ok rest
  pub both : x ≡ (first.0 ++ rest.0, rest.1)

before_ok : (hs : List Head) (r : Found) (x : List Head × List ℕ) → before hs r ≡ Ok x → (rest : List Head × List ℕ) × (r ≡ Ok rest) × (x ≡ (hs ++ rest.0, rest.1))
before_ok hs (Ok rest) x e = (rest, refl, sym (found-is (hs ++ rest.0, rest.1) x e))
before_ok hs (Err d) x e = absurd cc

followed_ok : (r : Found) (next : List ℕ → Found) (x : List Head × List ℕ) → followed r next ≡ Ok x → Followed r next x
followed_ok (Ok first) next x e =
    let b = before_ok first.0 (next first.1) x e in
    record { first = first; rest = b.0; first_is = refl; rest_is = b.1; both = b.2 }
followed_ok (Err d) next x e = absurd cc

parts_take : (version : Version) (part : List ℕ → Found) (depth : ℕ) → ((bytes : List ℕ) (x : List Head × List ℕ) → IsBytes bytes → part bytes ≡ Ok x → ValueRead version depth bytes x)
    → (count : ℕ) (bytes : List ℕ) (x : List Head × List ℕ) → IsBytes bytes → parts_at part count bytes ≡ Ok x → AreParts version depth count bytes x
unfolding parts_at
parts_take version part depth each zero bytes x fits e =
    let k : ([], bytes) ≡ x = found-is ([], bytes) x e in
    (sym (ap (λ (p : List Head × List ℕ). p.0) k), sym (ap (λ (p : List Head × List ℕ). p.1) k))
parts_take version part depth each (suc more) bytes x fits e =
    let f = followed_ok (part bytes) (λ rest. parts_at part more rest) x e in
    let v = each bytes f.first fits f.first_is in
    (f.first, f.rest, v, parts_take version part depth each more f.first.1 f.rest v.front.rest_fits f.rest_is, f.both)

parts-front : (version : Version) (depth count : ℕ) (bytes : List ℕ) (x : List Head × List ℕ) → IsBytes bytes → AreParts version depth count bytes x → Split bytes (joined x.0) x.1
parts-front version depth zero bytes x fits p = record {
  parts = sym p.1 ∙ ap (λ (hs : List Head). joined hs ++ x.1) (sym p.0);
  rest_fits = subst IsBytes (sym p.1) fits;
}
parts-front version depth (suc more) bytes x fits p =
    let behind = parts-front version depth more p.0.1 p.1 p.2.front.rest_fits p.3 in
    let both = Split-then bytes (joined p.0.0) p.0.1 (joined p.1.0) p.1.1 p.2.front behind in
    subst (λ (y : List Head × List ℕ). Split bytes (joined y.0) y.1) (sym p.4)
    (subst (λ (t : List ℕ). Split bytes t p.1.1) (sym (joined-append p.0.0 p.1.0)) both)

-- a head with the heads of its parts: those of a node
record Node (version : Version) (head : Head) (under : List Head) (depth : ℕ) : Type 0 where
  pub value : Evidence
  pub marks : List ℕ
  pub heads_are : head ∷ under ≡ heads value marks
  pub are_marks : AreMarks version (measurements value) marks
  pub well_formed : IsWellFormed value
  pub shallow : nesting value ≤ suc depth

none-marks : (version : Version) → AreMarks version 0 no_marks
none-marks Plain = refl
none-marks Marked = refl

leaf_node : (version : Version) (head : Head) (under : List Head) (depth : ℕ) (value : Evidence) → heads value no_marks ≡ head ∷ [] → measurements value ≡ 0 → IsWellFormed value → nesting value ≡ 1 → under ≡ [] → Node version head under depth
leaf_node version head under depth value h m w n e = record {
  value = value;
  marks = no_marks;
  heads_are = ap (λ (t : List Head). head ∷ t) e ∙ sym h;
  are_marks = subst (λ (k : ℕ). AreMarks version k no_marks) (sym m) (none-marks version);
  well_formed = w;
  shallow = omega (arith, n);
}

-- a mark in front of those of the part
record Carries (version : Version) (mark : Option ℕ) (count : ℕ) (marks : List ℕ) : Type 0 where
  pub first_is : next_mark (mark_byte mark ++ marks) ≡ mark
  pub rest_is : drop 1 (mark_byte mark ++ marks) ≡ marks
  pub are_marks : AreMarks version (suc count) (mark_byte mark ++ marks)

carries : (version : Version) (mark : Option ℕ) (count : ℕ) (marks : List ℕ) → IsMark version mark → AreMarks version count marks → Carries version mark count marks
carries Plain mark count marks is are = rw (is, are) (record { first_is = refl; rest_is = refl; are_marks = refl })
carries Marked mark count marks is are = rw is.1 (record { first_is = refl; rest_is = refl; are_marks = ap suc are })

-- the only part
only : (version : Version) (depth : ℕ) (bytes : List ℕ) (x : List Head × List ℕ) (p : AreParts version depth 1 bytes x) → x.0 ≡ heads p.2.value p.2.marks
only version depth bytes x p = ap (λ (y : List Head × List ℕ). y.0) p.4 ∙ ap (λ (t : List Head). p.0.0 ++ t) p.3.0 ∙ append-nil p.0.0 ∙ p.2.heads_are

node-read : (version : Version) (depth : ℕ) (head : Head) (bytes : List ℕ) (x : List Head × List ℕ) → IsHead head → HasMark version head → AreParts version depth (part_count head) bytes x → Node version head x.0 depth
node-read version depth empty_head bytes x h m p = leaf_node version empty_head x.0 depth empty refl refl tt refl p.0
node-read version depth (nonce_head text) bytes x h m p = leaf_node version (nonce_head text) x.0 depth (nonce text) refl refl h refl p.0
node-read version depth (hash_head event text) bytes x h m p = leaf_node version (hash_head event text) x.0 depth (hash event text) refl refl h refl p.0
node-read version depth (usm_head event mark answer) bytes x h m p =
    let c = carries version mark (measurements p.2.value) p.2.marks m p.2.are_marks in
    record {
      value = usm event answer p.2.value;
      marks = mark_byte mark ++ p.2.marks;
      heads_are = ap (λ (t : List Head). usm_head event mark answer ∷ t) (only version depth bytes x p)
          ∙ ap₂ (λ (k : Option ℕ) (l : List ℕ). usm_head event k answer ∷ heads p.2.value l) (sym c.first_is) (sym c.rest_is);
      are_marks = c.are_marks;
      well_formed = (h.0, h.1, p.2.well_formed);
      shallow = omega (arith, p.2.shallow);
    }
node-read version depth (kim_head event mark answer) bytes x h m p =
    let c = carries version mark (measurements p.2.value) p.2.marks m p.2.are_marks in
    record {
      value = kim event answer p.2.value;
      marks = mark_byte mark ++ p.2.marks;
      heads_are = ap (λ (t : List Head). kim_head event mark answer ∷ t) (only version depth bytes x p)
          ∙ ap₂ (λ (k : Option ℕ) (l : List ℕ). kim_head event k answer ∷ heads p.2.value l) (sym c.first_is) (sym c.rest_is);
      are_marks = c.are_marks;
      well_formed = (h.0, h.1, p.2.well_formed);
      shallow = omega (arith, p.2.shallow);
    }
node-read version depth (seal_head event text) bytes x h m p = record {
  value = seal event text p.2.value;
  marks = p.2.marks;
  heads_are = ap (λ (t : List Head). seal_head event text ∷ t) (only version depth bytes x p);
  are_marks = p.2.are_marks;
  well_formed = (h.0, h.1, p.2.well_formed);
  shallow = omega (arith, p.2.shallow);
}
node-read version depth seq_head bytes x h m p =
    let second = only version depth p.0.1 p.1 p.3 in
    record {
      value = seq_pair p.2.value p.3.2.value;
      marks = p.2.marks ++ p.3.2.marks;
      heads_are = ap (λ (t : List Head). seq_head ∷ t)
          (ap (λ (y : List Head × List ℕ). y.0) p.4 ∙ ap₂ (λ (a b : List Head). a ++ b) p.2.heads_are second
          ∙ sym (pair-heads version p.2.value p.3.2.value p.2.marks p.3.2.marks p.2.are_marks p.3.2.are_marks));
      are_marks = marks-joined version (measurements p.2.value) (measurements p.3.2.value) p.2.marks p.3.2.marks p.2.are_marks p.3.2.are_marks;
      well_formed = (p.2.well_formed, p.3.2.well_formed);
      shallow = omega (arith, p.2.shallow, p.3.2.shallow);
    }
node-read version depth par_head bytes x h m p =
    let second = only version depth p.0.1 p.1 p.3 in
    record {
      value = par_pair p.2.value p.3.2.value;
      marks = p.2.marks ++ p.3.2.marks;
      heads_are = ap (λ (t : List Head). par_head ∷ t)
          (ap (λ (y : List Head × List ℕ). y.0) p.4 ∙ ap₂ (λ (a b : List Head). a ++ b) p.2.heads_are second
          ∙ sym (pair-heads version p.2.value p.3.2.value p.2.marks p.3.2.marks p.2.are_marks p.3.2.are_marks));
      are_marks = marks-joined version (measurements p.2.value) (measurements p.3.2.value) p.2.marks p.3.2.marks p.2.are_marks p.3.2.are_marks;
      well_formed = (p.2.well_formed, p.3.2.well_formed);
      shallow = omega (arith, p.2.shallow, p.3.2.shallow);
    }

-- a head and its parts were read
record WithParts (part : List ℕ → Found) (r : Front Head) (x : List Head × List ℕ) : Type 0 where
  pub head : Head × List ℕ
  pub rest : List Head × List ℕ
  pub head_is : r ≡ Ok head
  pub rest_is : parts_at part (part_count head.0) head.1 ≡ Ok rest
  pub both : x ≡ (head.0 ∷ rest.0, rest.1)

with_parts_ok : (edge : Fault) (bytes : List ℕ) (part : List ℕ → Found) (r : Front Head) (x : List Head × List ℕ) → with_parts edge bytes part r ≡ Ok x → WithParts part r x
unfolding with_parts
with_parts_ok edge bytes part (Ok head) x e =
    let b = before_ok (head.0 ∷ []) (parts_at part (part_count head.0) head.1) x e in
    record { head = head; rest = b.0; head_is = refl; rest_is = b.1; both = b.2 }
with_parts_ok edge bytes part (Err stop) x e = absurd cc

pub heads_take : (version : Version) (edge : Fault) (depth : ℕ) (bytes : List ℕ) (x : List Head × List ℕ) → IsBytes bytes → heads_at version edge depth bytes ≡ Ok x → ValueRead version depth bytes x
unfolding heads_at
heads_take version edge zero [] x fits e = absurd cc
heads_take version edge zero (tag ∷ rest) x fits e = absurd cc
heads_take version edge (suc depth) bytes x fits e =
    let w = with_parts_ok edge bytes (heads_at version edge depth) (head_at version bytes) x e in
    let h = head_takes version bytes w.head fits w.head_is in
    let p = parts_take version (heads_at version edge depth) depth (λ bytes x fits e. heads_take version edge depth bytes x fits e) (part_count w.head.0) w.head.1 w.rest h.front.rest_fits w.rest_is in
    let n = node-read version depth w.head.0 w.head.1 w.rest h.is_head h.has_mark p in
    let f = parts-front version depth (part_count w.head.0) w.head.1 w.rest h.front.rest_fits p in
    subst (λ (y : List Head × List ℕ). ValueRead version (suc depth) bytes y) (sym w.both) (record {
      value = n.value;
      marks = n.marks;
      heads_are = n.heads_are;
      are_marks = n.are_marks;
      well_formed = n.well_formed;
      shallow = n.shallow;
      front = Split-then bytes (head_bytes w.head.0) w.head.1 (joined w.rest.0) w.rest.1 h.front f;
    })

-- ---- what was written is read

pub with-head : (version : Version) (edge : Fault) (depth : ℕ) (bytes : List ℕ) (head : Head) (rest : List ℕ) → head_at version bytes ≡ Ok (head, rest) → heads_at version edge (suc depth) bytes ≡ before (head ∷ []) (parts_at (heads_at version edge depth) (part_count head) rest)
unfolding heads_at with_parts
with-head version edge depth bytes head rest e = ap (λ (r : Front Head). with_parts edge bytes (heads_at version edge depth) r) e

leaf_again : (version : Version) (edge : Fault) (head : Head) (depth : ℕ) (rest : List ℕ) → IsHead head → HasMark version head → part_count head ≡ 0 → heads_at version edge (suc depth) ((head_bytes head ++ []) ++ rest) ≡ Ok (head ∷ [], rest)
unfolding parts_at
leaf_again version edge head depth rest h m none =
    ap (λ (t : List ℕ). heads_at version edge (suc depth) (t ++ rest)) (append-nil (head_bytes head))
    ∙ with-head version edge depth (head_bytes head ++ rest) head rest (head_again version head rest h m)
    ∙ ap (λ (k : ℕ). before (head ∷ []) (parts_at (heads_at version edge depth) k rest)) none

one_again : (version : Version) (edge : Fault) (head : Head) (under : List Head) (depth : ℕ) (rest : List ℕ) → IsHead head → HasMark version head → part_count head ≡ 1 → heads_at version edge depth (joined under ++ rest) ≡ Ok (under, rest)
    → heads_at version edge (suc depth) ((head_bytes head ++ joined under) ++ rest) ≡ Ok (head ∷ under, rest)
unfolding parts_at
one_again version edge head under depth rest h m one e =
    ap (λ (t : List ℕ). heads_at version edge (suc depth) t) (append_assoc (head_bytes head) (joined under) rest)
    ∙ with-head version edge depth (head_bytes head ++ (joined under ++ rest)) head (joined under ++ rest) (head_again version head (joined under ++ rest) h m)
    ∙ ap (λ (k : ℕ). before (head ∷ []) (parts_at (heads_at version edge depth) k (joined under ++ rest))) one
    ∙ ap (λ (r : Found). before (head ∷ []) (followed r (λ (t : List ℕ). found ([], t)))) e
    ∙ ap (λ (hs : List Head). found (head ∷ hs, rest)) (append-nil under)

two_again : (version : Version) (edge : Fault) (head : Head) (left right : List Head) (depth : ℕ) (rest : List ℕ) → IsHead head → HasMark version head → part_count head ≡ 2
    → heads_at version edge depth (joined left ++ (joined right ++ rest)) ≡ Ok (left, joined right ++ rest) → heads_at version edge depth (joined right ++ rest) ≡ Ok (right, rest)
    → heads_at version edge (suc depth) ((head_bytes head ++ joined (left ++ right)) ++ rest) ≡ Ok (head ∷ (left ++ right), rest)
unfolding parts_at
two_again version edge head left right depth rest h m two l r =
    let behind : List ℕ = joined left ++ (joined right ++ rest) in
    ap (λ (t : List ℕ). heads_at version edge (suc depth) ((head_bytes head ++ t) ++ rest)) (joined-append left right)
    ∙ ap (λ (t : List ℕ). heads_at version edge (suc depth) t) (append_assoc (head_bytes head) (joined left ++ joined right) rest ∙ ap (λ (t : List ℕ). head_bytes head ++ t) (append_assoc (joined left) (joined right) rest))
    ∙ with-head version edge depth (head_bytes head ++ behind) head behind (head_again version head behind h m)
    ∙ ap (λ (k : ℕ). before (head ∷ []) (parts_at (heads_at version edge depth) k behind)) two
    ∙ ap (λ (x : Found). before (head ∷ []) (followed x (λ (t : List ℕ). followed (heads_at version edge depth t) (λ (u : List ℕ). found ([], u))))) l
    ∙ ap (λ (x : Found). before (head ∷ []) (before left (followed x (λ (u : List ℕ). found ([], u))))) r
    ∙ ap (λ (hs : List Head). found (head ∷ (left ++ hs), rest)) (append-nil right)

-- the marks of a measurement's part, and its own
enough-rest : (version : Version) (count : ℕ) (marks : List ℕ) → Enough version (suc count) marks → Enough version count (drop 1 marks)
enough-rest Plain count marks e = rw e refl
enough-rest Marked count marks le = omega (arith, le, length-drop 1 marks)

enough-first : (version : Version) (count : ℕ) (marks : List ℕ) → Enough version (suc count) marks → IsMark version (next_mark marks)
enough-first Plain count marks e = rw e refl
enough-first Marked count [] le = absurd (omega arith)
enough-first Marked count (mark ∷ marks) le = (mark, refl)

enough-left : (version : Version) (m n : ℕ) (marks : List ℕ) → Enough version (m + n) marks → Enough version m marks
enough-left Plain m n marks e = e
enough-left Marked m n marks le = omega (arith, le)

enough-right : (version : Version) (m n : ℕ) (marks : List ℕ) → Enough version (m + n) marks → Enough version n (drop m marks)
enough-right Plain m n marks e = rw e (drop-none m)
enough-right Marked m n marks le = omega (arith, le, length-drop m marks)

pub enough : (version : Version) (count : ℕ) (marks : List ℕ) → AreMarks version count marks → Enough version count marks
enough Plain count marks e = e
enough Marked count marks e = omega (arith, e)

pub heads_again : (version : Version) (edge : Fault) (value : Evidence) (marks : List ℕ) (depth : ℕ) (rest : List ℕ) → IsWellFormed value → Enough version (measurements value) marks → nesting value ≤ depth → heads_at version edge depth (joined (heads value marks) ++ rest) ≡ Ok (heads value marks, rest)
heads_again version edge empty marks zero rest w m le = absurd (omega arith)
heads_again version edge empty marks (suc depth) rest w m le = leaf_again version edge empty_head depth rest tt tt refl
heads_again version edge (nonce bytes) marks zero rest w m le = absurd (omega arith)
heads_again version edge (nonce bytes) marks (suc depth) rest w m le = leaf_again version edge (nonce_head bytes) depth rest w tt refl
heads_again version edge (usm event answer under) marks zero rest w m le = absurd (omega arith)
heads_again version edge (usm event answer under) marks (suc depth) rest w m le =
    one_again version edge (usm_head event (next_mark marks) answer) (heads under (drop 1 marks)) depth rest (w.0, w.1) (enough-first version (measurements under) marks m) refl
    (heads_again version edge under (drop 1 marks) depth rest w.2 (enough-rest version (measurements under) marks m) (omega arith))
heads_again version edge (kim event answer under) marks zero rest w m le = absurd (omega arith)
heads_again version edge (kim event answer under) marks (suc depth) rest w m le =
    one_again version edge (kim_head event (next_mark marks) answer) (heads under (drop 1 marks)) depth rest (w.0, w.1) (enough-first version (measurements under) marks m) refl
    (heads_again version edge under (drop 1 marks) depth rest w.2 (enough-rest version (measurements under) marks m) (omega arith))
heads_again version edge (seal event bytes under) marks zero rest w m le = absurd (omega arith)
heads_again version edge (seal event bytes under) marks (suc depth) rest w m le =
    one_again version edge (seal_head event bytes) (heads under marks) depth rest (w.0, w.1) tt refl (heads_again version edge under marks depth rest w.2 m (omega arith))
heads_again version edge (hash event bytes) marks zero rest w m le = absurd (omega arith)
heads_again version edge (hash event bytes) marks (suc depth) rest w m le = leaf_again version edge (hash_head event bytes) depth rest w tt refl
heads_again version edge (seq_pair left right) marks zero rest w m le = absurd (omega arith)
heads_again version edge (seq_pair left right) marks (suc depth) rest w m le =
    let behind : List Head = heads right (drop (measurements left) marks) in
    two_again version edge seq_head (heads left marks) behind depth rest tt tt refl
    (heads_again version edge left marks depth (joined behind ++ rest) w.0 (enough-left version (measurements left) (measurements right) marks m) (omega arith))
    (heads_again version edge right (drop (measurements left) marks) depth rest w.1 (enough-right version (measurements left) (measurements right) marks m) (omega arith))
heads_again version edge (par_pair left right) marks zero rest w m le = absurd (omega arith)
heads_again version edge (par_pair left right) marks (suc depth) rest w m le =
    let behind : List Head = heads right (drop (measurements left) marks) in
    two_again version edge par_head (heads left marks) behind depth rest tt tt refl
    (heads_again version edge left marks depth (joined behind ++ rest) w.0 (enough-left version (measurements left) (measurements right) marks m) (omega arith))
    (heads_again version edge right (drop (measurements left) marks) depth rest w.1 (enough-right version (measurements left) (measurements right) marks m) (omega arith))
