-- Scanning bytes one after the other comes to what reading them as a whole gives.
use Rattle.std.proofs.Common.{◌≡◌, ℕ, zero, suc, ◌+◌, ◌-◌, ◌<◌, ◌≤◌, Bool, true, false, cond, ltb, eqb, List, [], ◌∷◌, ◌++◌, length, take, drop, Result, Ok, Err, refl, sym, ap, ◌∙◌, append_assoc, append-nil, length-append, arith, inl, inr}
use Rattle.std.specs.Int.{w32, from_be_bytes}
use Rattle.std.proofs.lemmas.Bool.{cases_lt, le-ltb, lt-ltb, ne_eqb}
use Rattle.std.proofs.lemmas.List.{take_at, drop_at, length-take, nil_from_length}
use Rattle.std.proofs.Math.Seq.{take-append-add}
use Rattle.evidence_codec.specs.Versions.{most}
use Rattle.evidence_types.specs.Heads.{Head}
use Rattle.evidence_codec.specs.declared.fault.BadKind.{BadKind}
use Rattle.evidence_codec.specs.declared.fault.BadKind.TheVariants.{Short, Tag, Length, Deep}
use Rattle.evidence_codec.specs.declared.fault.Fault.{Fault}
use Rattle.evidence_codec.specs.declared.fault.Stop.{Stop}
use Rattle.evidence_codec.specs.declared.fault.Stop.TheVariants.{Wanting, Faulty}
use Rattle.evidence_codec.specs.declared.version.Version.{Version}
use Rattle.evidence_codec.specs.Reading.{◌>>=◌, fault, Front, head_at, part_count, Found, before, followed, parts_at, placed, with_parts, heads_at, edge_of, alone, ended, value_in, Bundle, in_version, behind_length, behind_version, version_of, behind_first, behind_bytes, read_bundle}
use Rattle.evidence_codec.specs.Scanning.{Scan, opening, choosing, sizing, inside, whole, failed, start, Step, closed, opened, behind_head, settled, begun, sized, chosen, opened_by, step, scan, ending, finished}
use Rattle.evidence_codec.specs.Scanned.{Stands}
use Rattle.evidence_codec.specs.declared.version.Version.TheVariants.{Plain, Marked}
use Rattle.evidence_codec.proofs.FrontLemmas.{head-front}
use Rattle.evidence_codec.proofs.ValueLemmas.{found, with-head}

-- ---- one thing read behind another

before-nothing : (r : Found) → before [] r ≡ r
before-nothing (Ok x) = refl
before-nothing (Err d) = refl

before-before : (a b : List Head) (r : Found) → before a (before b r) ≡ before (a ++ b) r
before-before a b (Ok x) = ap (λ (hs : List Head). found (hs, x.1)) (sym (append_assoc a b x.0))
before-before a b (Err d) = refl

followed-before : (hs : List Head) (r : Found) (next : List ℕ → Found) → followed (before hs r) next ≡ before hs (followed r next)
followed-before hs (Ok x) next = sym (before-before hs x.0 (next x.1))
followed-before hs (Err d) next = refl

followed-followed : (r : Found) (next last : List ℕ → Found) → followed (followed r next) last ≡ followed r (λ bytes. followed (next bytes) last)
followed-followed (Ok x) next last = followed-before x.0 (next x.1) last
followed-followed (Err d) next last = refl

-- ---- what is left to read at open nodes

-- the parts that the open nodes still wait for, behind the one that is read
unfoldable pub rest_at : Version → Fault → List ℕ → List ℕ → Found
rest_at version edge [] bytes = found ([], bytes)
rest_at version edge (more ∷ below) bytes = followed (parts_at (heads_at version edge (1025 - length (more ∷ below))) more bytes) (λ rest. rest_at version edge below rest)

-- the part that is wanted, and those behind it
unfoldable pub part_at : Version → Fault → List ℕ → List ℕ → Found
part_at version edge nodes bytes = followed (heads_at version edge (1025 - length nodes) bytes) (λ rest. rest_at version edge nodes rest)

-- the same where no part may be wanted any more
unfoldable pub stand_at : Version → Fault → List ℕ → List ℕ → Found
stand_at version edge [] bytes = found ([], bytes)
stand_at version edge (more ∷ below) bytes = part_at version edge (more ∷ below) bytes

-- a node that waits for one part more, read to its end
more_at : (version : Version) (edge : Fault) (more : ℕ) (below bytes : List ℕ) (depth : ℕ) → 1025 - suc (length below) ≡ depth
    → followed (parts_at (heads_at version edge depth) (suc more) bytes) (λ rest. rest_at version edge below rest) ≡ part_at version edge (more ∷ below) bytes
unfolding parts_at part_at rest_at
more_at version edge more below bytes depth e =
    followed-followed (heads_at version edge depth bytes) (λ rest. parts_at (heads_at version edge depth) more rest) (λ rest. rest_at version edge below rest)
    ∙ ap (λ (d : ℕ). followed (heads_at version edge d bytes) (λ rest. followed (parts_at (heads_at version edge d) more rest) (λ last. rest_at version edge below last))) (sym e)

some-more : (more : ℕ) → eqb (suc more) 0 ≡ false
some-more more = ne_eqb (suc more) 0 (λ e. absurd (omega (arith, e)))

one-less : (more : ℕ) → suc more - 1 ≡ more
one-less more = omega arith

closed-more : (more : ℕ) (below : List ℕ) → closed (suc more ∷ below) ≡ more ∷ below
closed-more more below = rw (some-more more) (ap (λ (n : ℕ). n ∷ below) (one-less more))

opened-more : (more : ℕ) (nodes : List ℕ) → opened (suc more) nodes ≡ more ∷ nodes
opened-more more nodes = rw (some-more more) (ap (λ (n : ℕ). n ∷ nodes) (one-less more))

rest-closed : (version : Version) (edge : Fault) (nodes bytes : List ℕ) → rest_at version edge nodes bytes ≡ stand_at version edge (closed nodes) bytes
unfolding rest_at stand_at parts_at
rest-closed version edge [] bytes = refl
rest-closed version edge (zero ∷ below) bytes = before-nothing (rest_at version edge below bytes) ∙ rest-closed version edge below bytes
rest-closed version edge (suc more ∷ below) bytes =
    more_at version edge more below bytes (1025 - suc (length below)) refl ∙ ap (λ (nodes : List ℕ). stand_at version edge nodes bytes) (sym (closed-more more below))

behind_head_is : (version : Version) (edge : Fault) (nodes rest : List ℕ) (count : ℕ) → followed (parts_at (heads_at version edge (1025 - suc (length nodes))) count rest) (λ left. rest_at version edge nodes left) ≡ stand_at version edge (opened count nodes) rest
unfolding parts_at stand_at
behind_head_is version edge nodes rest zero = before-nothing (rest_at version edge nodes rest) ∙ rest-closed version edge nodes rest
behind_head_is version edge nodes rest (suc more) =
    more_at version edge more nodes rest (1025 - suc (length nodes)) refl ∙ ap (λ (n : List ℕ). stand_at version edge n rest) (sym (opened-more more nodes))

-- a head, and what is left behind it
part-head : (version : Version) (edge : Fault) (nodes bytes rest : List ℕ) (head : Head) → length nodes < 1025 → head_at version bytes ≡ Ok (head, rest)
    → part_at version edge nodes bytes ≡ before (head ∷ []) (stand_at version edge (opened (part_count head) nodes) rest)
unfolding part_at
part-head version edge nodes bytes rest head lt e =
    let depth : ℕ = 1025 - suc (length nodes) in
    let k : 1025 - length nodes ≡ suc depth = omega (arith, lt) in
    ap (λ (d : ℕ). followed (heads_at version edge d bytes) (λ left. rest_at version edge nodes left)) k
    ∙ ap (λ (r : Found). followed r (λ left. rest_at version edge nodes left)) (with-head version edge depth bytes head rest e)
    ∙ followed-before (head ∷ []) (parts_at (heads_at version edge depth) (part_count head) rest) (λ left. rest_at version edge nodes left)
    ∙ ap (λ (r : Found). before (head ∷ []) r) (behind_head_is version edge nodes rest (part_count head))

-- a head that isn't there
part-stopped : (version : Version) (edge : Fault) (nodes bytes : List ℕ) (stop : Stop) → length nodes < 1025 → head_at version bytes ≡ Err stop → part_at version edge nodes bytes ≡ Err (placed edge bytes stop)
unfolding part_at heads_at with_parts
part-stopped version edge nodes bytes stop lt e =
    let depth : ℕ = 1025 - suc (length nodes) in
    let k : 1025 - length nodes ≡ suc depth = omega (arith, lt) in
    ap (λ (d : ℕ). followed (heads_at version edge d bytes) (λ left. rest_at version edge nodes left)) k
    ∙ ap (λ (r : Front Head). followed (with_parts edge bytes (heads_at version edge depth) r) (λ left. rest_at version edge nodes left)) e

-- where a byte is wanted and none is there
heads-none : (version : Version) (edge : Fault) (depth : ℕ) → heads_at version edge depth [] ≡ Err edge
unfolding heads_at with_parts head_at
heads-none version edge zero = refl
heads-none version edge (suc depth) = refl

part-none : (version : Version) (edge : Fault) (nodes : List ℕ) → part_at version edge nodes [] ≡ Err edge
unfolding part_at
part-none version edge nodes = ap (λ (r : Found). followed r (λ left. rest_at version edge nodes left)) (heads-none version edge (1025 - length nodes))

part-deep : (version : Version) (edge : Fault) (nodes : List ℕ) (byte : ℕ) (bytes : List ℕ) → 1025 ≤ length nodes → part_at version edge nodes (byte ∷ bytes) ≡ Err (fault (edge.at - suc (length bytes)) Deep)
unfolding part_at heads_at
part-deep version edge nodes byte bytes le =
    let k : 1025 - length nodes ≡ 0 = omega (arith, le) in
    ap (λ (d : ℕ). followed (heads_at version edge d (byte ∷ bytes)) (λ left. rest_at version edge nodes left)) k

-- ---- the region

-- where the bytes of a value that are left end
edge-next : (at left byte : ℕ) (bytes : List ℕ) (next : ℕ) → next ≡ at + 1 → edge_of at (suc left) (byte ∷ bytes) ≡ edge_of next left bytes
unfolding edge_of
edge-next at left byte bytes next e =
    elim (cases_lt (length bytes) left) [
      | inl lt ↦ rw (lt-ltb (length bytes) left lt, lt-ltb (suc (length bytes)) (suc left) (omega (arith, lt))) (ap (λ (n : ℕ). fault n Short) (omega (arith, e)))
      | inr le ↦ rw (le-ltb (length bytes) left le, le-ltb (suc (length bytes)) (suc left) (omega (arith, le))) (ap (λ (n : ℕ). fault n Length) (omega (arith, e)))
    ]

edge-at : (at left : ℕ) (bytes : List ℕ) → (edge_of at left bytes).at ≡ at + length (take left bytes)
unfolding edge_of
edge-at at left bytes =
    elim (cases_lt (length bytes) left) [
      | inl lt ↦ rw (lt-ltb (length bytes) left lt) (omega (arith, length-take left bytes, lt))
      | inr le ↦ rw (le-ltb (length bytes) left le) (omega (arith, length-take left bytes, le))
    ]

edge-none : (at : ℕ) (bytes : List ℕ) → edge_of at 0 bytes ≡ fault at Length
unfolding edge_of
edge-none at bytes = rw (le-ltb (length bytes) 0 (omega arith)) (ap (λ (n : ℕ). fault n Length) (omega arith))

edge-short : (at left : ℕ) → edge_of at (suc left) [] ≡ fault at Short
unfolding edge_of
edge-short at left = rw (lt-ltb 0 (suc left) (omega arith)) (ap (λ (n : ℕ). fault n Short) (omega arith))

-- what is read of a value from open nodes on, where its bytes end at an edge and should end at `end`
abbrev read_from : Version → Fault → ℕ → List ℕ → Found → Result Bundle Fault
read_from version edge end behind r = in_version version (r >>= λ x. ended edge end behind x)

-- the same from an offset on, with so many bytes left, and those of the next head that are there
abbrev read_left : Version → ℕ → ℕ → List ℕ → List ℕ → List ℕ → Result Bundle Fault
read_left version at count nodes held bytes =
    read_from version (edge_of (at + length held) count bytes) (at + length held + count) (drop count bytes) (part_at version (edge_of (at + length held) count bytes) nodes (held ++ take count bytes))

-- ---- what reading gives from where a scan stands

abbrev rest_of : Bool → Scan → List ℕ → Result Bundle Fault
rest_of either (opening wanted at) bytes = behind_bytes wanted at bytes >>= λ rest. behind_first either rest
rest_of either choosing bytes = behind_first either bytes
rest_of either (sizing version held) bytes = behind_version version (held ++ bytes)
rest_of either (inside version at left nodes held) bytes = read_left version at (suc left) nodes held bytes
rest_of either (whole version at) bytes = in_version version (alone at bytes [])
rest_of either (failed first) bytes = Err first

abbrev bundle_of : Version → List Head → Result Bundle Fault
bundle_of version heads = Ok (version, heads)

abbrev with_heads : List Head → Result Bundle Fault → Result Bundle Fault
with_heads heads (Ok x) = Ok (x.0, heads ++ x.1)
with_heads heads (Err first) = Err first

with-nothing : (r : Result Bundle Fault) → with_heads [] r ≡ r
with-nothing (Ok x) = refl
with-nothing (Err first) = refl

with-with : (a b : List Head) (r : Result Bundle Fault) → with_heads a (with_heads b r) ≡ with_heads (a ++ b) r
with-with a b (Ok x) = let e : a ++ (b ++ x.1) ≡ (a ++ b) ++ x.1 = sym (append_assoc a b x.1) in ap (λ (hs : List Head). bundle_of x.0 hs) e
with-with a b (Err first) = refl

abbrev failing : Fault → Result Bundle Fault
failing first = Err first

-- ---- heads in front

ended-before : (edge : Fault) (end : ℕ) (behind : List ℕ) (hs : List Head) (x : List Head × List ℕ) (version : Version) → in_version version (ended edge end behind (hs ++ x.0, x.1)) ≡ with_heads hs (in_version version (ended edge end behind x))
unfolding ended
ended-before edge end behind hs x version =
    elim (cases_lt (edge.at - length x.1) end) [
      | inl lt ↦ rw (lt-ltb (edge.at - length x.1) end lt) refl
      | inr le ↦ rw (le-ltb (edge.at - length x.1) end le) (alone_before behind)
    ]
  where
    alone_before : (behind : List ℕ) → in_version version (alone end behind (hs ++ x.0)) ≡ with_heads hs (in_version version (alone end behind x.0))
    alone_before [] = refl
    alone_before (byte ∷ more) = refl

read_from-before : (version : Version) (edge : Fault) (end : ℕ) (behind : List ℕ) (hs : List Head) (r : Found) → read_from version edge end behind (before hs r) ≡ with_heads hs (read_from version edge end behind r)
read_from-before version edge end behind hs (Ok x) = ended-before edge end behind hs x version
read_from-before version edge end behind hs (Err first) = refl

-- ---- one byte more of a value

read-next : (version : Version) (at left : ℕ) (nodes held : List ℕ) (byte : ℕ) (bytes : List ℕ) → read_left version at (suc left) nodes held (byte ∷ bytes) ≡ read_left version at left nodes (held ++ byte ∷ []) bytes
read-next version at left nodes held byte bytes =
    let next : ℕ = at + length (held ++ byte ∷ []) in
    let one : next ≡ at + length held + 1 = omega (arith, length-append held (byte ∷ [])) in
    let edge : edge_of (at + length held) (suc left) (byte ∷ bytes) ≡ edge_of next left bytes = edge-next (at + length held) left byte bytes next one in
    let end : at + length held + suc left ≡ next + left = omega (arith, one) in
    let text : held ++ byte ∷ take left bytes ≡ (held ++ byte ∷ []) ++ take left bytes = sym (append_assoc held (byte ∷ []) (take left bytes)) in
    ap (λ (e : Fault). read_from version e (at + length held + suc left) (drop left bytes) (part_at version e nodes (held ++ byte ∷ take left bytes))) edge
    ∙ ap (λ (n : ℕ). read_from version (edge_of next left bytes) n (drop left bytes) (part_at version (edge_of next left bytes) nodes (held ++ byte ∷ take left bytes))) end
    ∙ ap (λ (t : List ℕ). read_from version (edge_of next left bytes) (next + left) (drop left bytes) (part_at version (edge_of next left bytes) nodes t)) text

-- ---- behind a head

-- all is read, and the value should end so many bytes on
end_early : (version : Version) (at left : ℕ) (bytes : List ℕ) → read_from version (edge_of at (suc left) bytes) (at + suc left) (drop (suc left) bytes) (found ([], take (suc left) bytes)) ≡ Err (fault at Length)
unfolding ended
end_early version at left bytes =
    let here : (edge_of at (suc left) bytes).at - length (take (suc left) bytes) ≡ at = omega (arith, edge-at at (suc left) bytes) in
    rw (here, lt-ltb at (at + suc left) (omega arith)) refl

end_here : (version : Version) (at : ℕ) (bytes : List ℕ) → read_from version (edge_of at 0 bytes) (at + 0) bytes (found ([], [])) ≡ in_version version (alone at bytes [])
unfolding ended
end_here version at bytes =
    let none : at + 0 ≡ at = omega arith in
    let late : ltb (at - 0) at ≡ false = le-ltb _ _ (omega arith) in
    rw (edge-none at bytes, none, late) refl

behind-is : (either : Bool) (version : Version) (at left : ℕ) (nodes bytes : List ℕ) → read_from version (edge_of at left bytes) (at + left) (drop left bytes) (stand_at version (edge_of at left bytes) nodes (take left bytes)) ≡ rest_of either (behind_head version at left nodes) bytes
unfolding stand_at
behind-is either version at zero [] bytes = end_here version at bytes
behind-is either version at zero (more ∷ below) bytes =
    rw (part-none version (edge_of at 0 bytes) (more ∷ below), some-more (length below)) (ap (λ (f : Fault). failing f) (edge-none at bytes))
behind-is either version at (suc left) [] bytes = rw (some-more left) (end_early version at left bytes)
behind-is either version at (suc left) (more ∷ below) bytes =
    let none : at + 0 ≡ at = omega arith in
    rw (some-more left, some-more (length below), one-less left)
    (sym (ap (λ (n : ℕ). read_from version (edge_of n (suc left) bytes) (n + suc left) (drop (suc left) bytes) (part_at version (edge_of n (suc left) bytes) (more ∷ below) (take (suc left) bytes))) none))

-- ---- the bytes of a head that are there

-- the state that bytes lead to gives, behind the heads that they ended, what is read from there
abbrev gives : Bool → Step → List ℕ → Result Bundle Fault
gives either s bytes = with_heads s.0 (rest_of either s.1 bytes)

fault-placed : (at left index : ℕ) (kind : BadKind) (held bytes : List ℕ) → placed (edge_of (at + length held) left bytes) (held ++ take left bytes) (Faulty index kind) ≡ fault (at + index) kind
fault-placed at left index kind held bytes =
    ap (λ (n : ℕ). fault n kind) (omega (arith, edge-at (at + length held) left bytes, length-append held (take left bytes)))

settled-by : (either : Bool) (version : Version) (at left : ℕ) (nodes held bytes : List ℕ) (r : Front Head) → length nodes < 1025 → head_at version held ≡ r → ((x : Head × List ℕ) → r ≡ Ok x → x.1 ≡ [])
    → read_left version at left nodes held bytes ≡ gives either (settled version at left nodes held r) bytes
settled-by either version at left nodes held bytes (Ok x) lt e nil =
    let edge : Fault = edge_of (at + length held) left bytes in
    let t = (head-front version).takes held x e in
    let front : t.front ≡ held = sym (t.parts ∙ ap (λ (l : List ℕ). t.front ++ l) (nil x refl) ∙ append-nil t.front) in
    let read : head_at version (held ++ take left bytes) ≡ Ok (x.0, take left bytes) = ap (λ (l : List ℕ). head_at version (l ++ take left bytes)) (sym front) ∙ t.again (take left bytes) in
    ap (λ (f : Found). read_from version edge (at + length held + left) (drop left bytes) f) (part-head version edge nodes (held ++ take left bytes) (take left bytes) x.0 lt read)
    ∙ read_from-before version edge (at + length held + left) (drop left bytes) (x.0 ∷ []) (stand_at version edge (opened (part_count x.0) nodes) (take left bytes))
    ∙ ap (λ (b : Result Bundle Fault). with_heads (x.0 ∷ []) b) (behind-is either version (at + length held) left (opened (part_count x.0) nodes) bytes)
settled-by either version at zero nodes held bytes (Err Wanting) lt e nil =
    let edge : Fault = edge_of (at + length held) 0 bytes in
    let none : head_at version (held ++ []) ≡ Err Wanting = ap (head_at version) (append-nil held) ∙ e in
    ap (λ (f : Found). read_from version edge (at + length held + 0) bytes f) (part-stopped version edge nodes (held ++ []) Wanting lt none)
    ∙ ap (λ (f : Fault). failing f) (edge-none (at + length held) bytes)
settled-by either version at (suc left) nodes held bytes (Err Wanting) lt e nil =
    rw (some-more left, one-less left) (sym (with-nothing (read_left version at (suc left) nodes held bytes)))
settled-by either version at left nodes held bytes (Err (Faulty index kind)) lt e nil =
    let edge : Fault = edge_of (at + length held) left bytes in
    ap (λ (f : Found). read_from version edge (at + length held + left) (drop left bytes) f) (part-stopped version edge nodes (held ++ take left bytes) (Faulty index kind) lt ((head-front version).faults held (take left bytes) index kind e))
    ∙ ap (λ (f : Fault). failing f) (fault-placed at left index kind held bytes)

abbrev right_of : {A : Type 0} → A → Result A Stop
right_of x = Ok x

abbrev left_of : {A : Type 0} → Stop → Result A Stop
left_of stop = Err stop

pub ok-err : {A : Type 0} (x : A) (stop : Stop) → right_of x ≡ left_of stop → ⊥
ok-err x stop e = absurd cc

-- a head that one byte more ends is all that is there
ends-there : (version : Version) (held : List ℕ) (byte : ℕ) (x : Head × List ℕ) → head_at version held ≡ Err Wanting → head_at version (held ++ byte ∷ []) ≡ Ok x → x.1 ≡ []
ends-there version held byte x wanting e =
    let t = (head-front version).takes (held ++ byte ∷ []) x e in
    elim (cases_lt 0 (length x.1)) [
      | inl lt ↦
          let k : length t.front + (length held - length t.front) ≡ length held = omega (arith, lt, ap length t.parts, length-append t.front x.1, length-append held (byte ∷ [])) in
          let same : held ≡ t.front ++ take (length held - length t.front) x.1 =
          sym (take_at held (byte ∷ []) (length held) refl) ∙ ap (λ (l : List ℕ). take (length held) l) t.parts ∙ ap (λ (n : ℕ). take n (t.front ++ x.1)) (sym k) ∙ take-append-add t.front x.1 (length held - length t.front) in
          absurd (ok-err (x.0, take (length held - length t.front) x.1) Wanting (sym (t.again (take (length held - length t.front) x.1)) ∙ ap (head_at version) (sym same) ∙ wanting))
      | inr le ↦ nil_from_length x.1 (omega (arith, le))
    ]

-- ---- one byte more, and none

begun-is : (either : Bool) (version : Version) (len : ℕ) (bytes : List ℕ) → in_version version (value_in version 9 len bytes) ≡ rest_of either (begun version len) bytes
unfolding value_in part_at rest_at
begun-is either version zero bytes =
    ap (λ (f : Found). read_from version (edge_of 9 0 bytes) 9 bytes f) (heads-none version (edge_of 9 0 bytes) 1025) ∙ ap (λ (f : Fault). failing f) (edge-none 9 bytes)
begun-is either version (suc left) bytes =
    rw (some-more left, one-less left) (ap (λ (f : Found). read_from version (edge_of 9 (suc left) bytes) (9 + suc left) (drop (suc left) bytes) f) (sym (all_of version (edge_of 9 (suc left) bytes) (take (suc left) bytes))))
  where
    followed-done : (r : Found) → followed r (λ bytes. found ([], bytes)) ≡ r
    followed-done (Ok x) = ap (λ (hs : List Head). found (hs, x.1)) (append-nil x.0)
    followed-done (Err d) = refl

    all_of : (version : Version) (edge : Fault) (bytes : List ℕ) → part_at version edge [] bytes ≡ heads_at version edge 1025 bytes
    all_of version edge bytes = followed-done (heads_at version edge 1025 bytes)

sized-is : (either : Bool) (version : Version) (len : ℕ) (bytes : List ℕ) → behind_length version len bytes ≡ rest_of either (sized version len) bytes
unfolding behind_length
sized-is either version len bytes =
    elim (cases_lt (most version) len) [
      | inl lt ↦ rw (lt-ltb (most version) len lt) refl
      | inr le ↦ rw (le-ltb (most version) len le) (begun-is either version len bytes)
    ]

sizing-is : (either : Bool) (version : Version) (held : List ℕ) (byte : ℕ) (bytes : List ℕ) → length held < 4 → behind_version version (held ++ byte ∷ bytes) ≡ rest_of either (step either (sizing version held) byte).1 bytes
unfolding behind_version step
sizing-is either version held byte bytes few =
    let now : List ℕ = held ++ byte ∷ [] in
    let text : held ++ byte ∷ bytes ≡ now ++ bytes = sym (append_assoc held (byte ∷ []) bytes) in
    elim (cases_lt (length now) 4) [
      | inl lt ↦ rw (lt-ltb (length now) 4 lt) (ap (behind_version version) text)
      | inr le ↦
          let four : length now ≡ 4 = omega (arith, few, le, length-append held (byte ∷ [])) in
          ap (behind_version version) text
          ∙ rw (le-ltb (length now) 4 le, le-ltb (length (now ++ bytes)) 4 (omega (arith, length-append now bytes, le)), take_at now bytes 4 four, drop_at now bytes 4 four) (sized-is either version (from_be_bytes w32 now) bytes)
    ]

chosen-is : (either : Bool) (r : Result Version Fault) (bytes : List ℕ) → (r >>= λ version. behind_version version bytes) ≡ rest_of either (chosen r) bytes
chosen-is either (Ok version) bytes = refl
chosen-is either (Err first) bytes = refl

abbrev went : List ℕ → Result (List ℕ) Fault
went bytes = Ok bytes

abbrev not_went : Fault → Result (List ℕ) Fault
not_went first = Err first

first-is : (either : Bool) (b : Bool) (more : List ℕ) (at : ℕ) (bytes : List ℕ) → (cond b (went bytes) (not_went (fault at Tag)) >>= (λ rest. behind_bytes more (suc at) rest) >>= λ rest. behind_first either rest) ≡ rest_of either (cond b (opened_by more (suc at)) (failed (fault at Tag))) bytes
unfolding behind_bytes
first-is either true [] at bytes = refl
first-is either true (wanted ∷ more) at bytes = refl
first-is either false more at bytes = refl

no_byte : (held : List ℕ) → length held < 1 → held ≡ []
no_byte held lt = nil_from_length held (omega (arith, lt))

-- no byte of a head is there where no node more may be open
pub no_room : (nodes held : List ℕ) → (1 ≤ length held → length nodes < 1025) → 1025 ≤ length nodes → held ≡ []
no_room nodes held room le = elim (cases_lt (length held) 1) [ inl lt ↦ no_byte held lt | inr some ↦ absurd (omega (arith, room some, le)) ]

deep-is : (either : Bool) (version : Version) (at left : ℕ) (nodes held : List ℕ) (byte : ℕ) (bytes : List ℕ) → 1025 ≤ length nodes → held ≡ [] → read_left version at (suc left) nodes held (byte ∷ bytes) ≡ Err (fault at Deep)
deep-is either version at left nodes held byte bytes le none =
    let edge : Fault = edge_of (at + 0) (suc left) (byte ∷ bytes) in
    let text : part_at version edge nodes (byte ∷ take left bytes) ≡ Err (fault (edge.at - suc (length (take left bytes))) Deep) = part-deep version edge nodes byte (take left bytes) le in
    ap (λ (h : List ℕ). read_left version at (suc left) nodes h (byte ∷ bytes)) none
    ∙ ap (λ (f : Found). read_from version edge (at + 0 + suc left) (drop left bytes) f) text
    ∙ ap (λ (n : ℕ). failing (fault n Deep)) (omega (arith, edge-at (at + 0) (suc left) (byte ∷ bytes)))

pub step-is : (either : Bool) (state : Scan) (byte : ℕ) (bytes : List ℕ) → Stands state → rest_of either state (byte ∷ bytes) ≡ gives either (step either state byte) bytes
unfolding step behind_first behind_bytes
step-is either (opening [] at) byte bytes s = absurd s
step-is either (opening (wanted ∷ more) at) byte bytes s =
    first-is either (eqb byte wanted) more at bytes ∙ sym (with-nothing (rest_of either (cond (eqb byte wanted) (opened_by more (suc at)) (failed (fault at Tag))) bytes))
step-is either choosing byte bytes s = chosen-is either (version_of either byte) bytes ∙ sym (with-nothing (rest_of either (chosen (version_of either byte)) bytes))
step-is either (sizing version held) byte bytes s = sizing-is either version held byte bytes s ∙ sym (with-nothing (rest_of either (step either (sizing version held) byte).1 bytes))
step-is either (inside version at left nodes held) byte bytes s =
    elim (cases_lt (length nodes) 1025) [
      | inl lt ↦ rw (lt-ltb (length nodes) 1025 lt)
          (read-next version at left nodes held byte bytes
          ∙ settled-by either version at left nodes (held ++ byte ∷ []) bytes (head_at version (held ++ byte ∷ [])) lt refl (λ x e. ends-there version held byte x s.wanting e))
      | inr le ↦ rw (le-ltb (length nodes) 1025 le)
          (deep-is either version at left nodes held byte bytes le (no_room nodes held s.room le))
    ]
step-is either (whole version at) byte bytes s = refl
step-is either (failed first) byte bytes s = refl

-- ---- where a scan stands

closed-few : (nodes : List ℕ) → length (closed nodes) ≤ length nodes
closed-few [] = omega arith
closed-few (zero ∷ below) = let few : length (closed below) ≤ length below = closed-few below in omega (arith, few)
closed-few (suc more ∷ below) = rw (closed-more more below) (omega arith)

opened-few : (count : ℕ) (nodes : List ℕ) → length nodes < 1025 → length (opened count nodes) ≤ 1025
opened-few zero nodes lt = let few : length (closed nodes) ≤ length nodes = closed-few nodes in omega (arith, few, lt)
opened-few (suc more) nodes lt = rw (opened-more more nodes) (omega (arith, lt))

behind-stands : (version : Version) (at left : ℕ) (nodes : List ℕ) → length nodes ≤ 1025 → at + left < 262408 → Stands (behind_head version at left nodes)
unfolding head_at
behind-stands version at zero [] few within = tt
behind-stands version at zero (more ∷ below) few within = rw (some-more (length below)) tt
behind-stands version at (suc left) [] few within = rw (some-more left) tt
behind-stands version at (suc left) (more ∷ below) few within =
    rw (some-more left, some-more (length below), one-less left) (record { few = few; room = λ le. absurd (omega (arith, le)); wanting = refl; within = omega (arith, within) })

settled-stands : (version : Version) (at left : ℕ) (nodes held : List ℕ) (r : Front Head) → length nodes < 1025 → head_at version held ≡ r → at + length held + left < 262408 → Stands (settled version at left nodes held r).1
settled-stands version at left nodes held (Ok x) lt e within = behind-stands version (at + length held) left (opened (part_count x.0) nodes) (opened-few (part_count x.0) nodes lt) within
settled-stands version at zero nodes held (Err Wanting) lt e within = tt
settled-stands version at (suc left) nodes held (Err Wanting) lt e within =
    rw (some-more left, one-less left) (record { few = omega (arith, lt); room = λ le. lt; wanting = e; within = omega (arith, within) })
settled-stands version at left nodes held (Err (Faulty index kind)) lt e within = tt

opened_by-stands : (more : List ℕ) (at : ℕ) → Stands (opened_by more at)
opened_by-stands [] at = tt
opened_by-stands (wanted ∷ more) at = tt

pub either-stands : (b : Bool) (x y : Scan) → Stands x → Stands y → Stands (cond b x y)
either-stands true x y s t = s
either-stands false x y s t = t

chosen-stands : (r : Result Version Fault) → Stands (chosen r)
chosen-stands (Ok version) = omega arith
chosen-stands (Err first) = tt

most-few : (version : Version) → most version ≤ 262398
most-few Plain = omega arith
most-few Marked = omega arith

begun-stands : (version : Version) (len : ℕ) → len ≤ 262398 → Stands (begun version len)
unfolding head_at
begun-stands version zero le = tt
begun-stands version (suc left) le = rw (some-more left, one-less left) (record { few = omega arith; room = λ some. omega arith; wanting = refl; within = omega (arith, le) })

sized-stands : (version : Version) (len : ℕ) → Stands (sized version len)
sized-stands version len =
    elim (cases_lt (most version) len) [
      | inl lt ↦ rw (lt-ltb (most version) len lt) tt
      | inr le ↦ rw (le-ltb (most version) len le) (begun-stands version len (omega (arith, le, most-few version)))
    ]

sizing-stands : (version : Version) (held : List ℕ) → Stands (cond (ltb (length held) 4) (sizing version held) (sized version (from_be_bytes w32 held)))
sizing-stands version held =
    elim (cases_lt (length held) 4) [
      | inl lt ↦ rw (lt-ltb (length held) 4 lt) lt
      | inr le ↦ rw (le-ltb (length held) 4 le) (sized-stands version (from_be_bytes w32 held))
    ]

pub step-stands : (either : Bool) (state : Scan) (byte : ℕ) → Stands state → Stands (step either state byte).1
unfolding step
step-stands either (opening [] at) byte s = tt
step-stands either (opening (wanted ∷ more) at) byte s = either-stands (eqb byte wanted) (opened_by more (suc at)) (failed (fault at Tag)) (opened_by-stands more (suc at)) tt
step-stands either choosing byte s = chosen-stands (version_of either byte)
step-stands either (sizing version held) byte s = sizing-stands version (held ++ byte ∷ [])
step-stands either (inside version at left nodes held) byte s =
    elim (cases_lt (length nodes) 1025) [
      | inl lt ↦ rw (lt-ltb (length nodes) 1025 lt)
          (settled-stands version at left nodes (held ++ byte ∷ []) (head_at version (held ++ byte ∷ [])) lt refl (omega (arith, s.within, length-append held (byte ∷ []))))
      | inr le ↦ rw (le-ltb (length nodes) 1025 le) tt
    ]
step-stands either (whole version at) byte s = tt
step-stands either (failed first) byte s = tt

abbrev done_in : Version → Result Bundle Fault
done_in version = Ok (version, [])

pub ending-is : (either : Bool) (state : Scan) → Stands state → rest_of either state [] ≡ (ending state >>= λ version. done_in version)
unfolding behind_first behind_bytes behind_version
ending-is either (opening [] at) s = absurd s
ending-is either (opening (wanted ∷ more) at) s = refl
ending-is either choosing s = refl
ending-is either (sizing version held) s =
    ap (behind_version version) (append-nil held) ∙ rw (lt-ltb (length held) 4 s) refl
ending-is either (inside version at left nodes held) s =
    let edge : Fault = edge_of (at + length held) (suc left) [] in
    let text : part_at version edge nodes (held ++ []) ≡ Err edge = none_left in
    ap (λ (f : Found). read_from version edge (at + length held + suc left) [] f) text ∙ ap (λ (f : Fault). failing f) (edge-short (at + length held) left)
  where
    none_left : part_at version (edge_of (at + length held) (suc left) []) nodes (held ++ []) ≡ Err (edge_of (at + length held) (suc left) [])
    none_left =
        elim (cases_lt (length nodes) 1025) [
          | inl lt ↦ part-stopped version (edge_of (at + length held) (suc left) []) nodes (held ++ []) Wanting lt (ap (head_at version) (append-nil held) ∙ s.wanting)
          | inr le ↦ ap (λ (t : List ℕ). part_at version (edge_of (at + length held) (suc left) []) nodes t) (append-nil held ∙ no_room nodes held s.room le) ∙ part-none version (edge_of (at + length held) (suc left) []) nodes
        ]
ending-is either (whole version at) s = refl
ending-is either (failed first) s = refl

-- ---- bytes one after the other

ended-heads : (hs : List Head) (more : List Head) (r : Result Version Fault) → with_heads hs (r >>= λ version. bundle_of version more) ≡ (r >>= λ version. bundle_of version (hs ++ more))
ended-heads hs more (Ok version) = refl
ended-heads hs more (Err first) = refl

pub scan-is : (either : Bool) (state : Scan) (bytes : List ℕ) → Stands state → rest_of either state bytes ≡ finished (scan either state bytes)
scan-is either state [] s = ending-is either state s
scan-is either state (byte ∷ bytes) s =
    let now : Step = step either state byte in
    step-is either state byte bytes s
    ∙ ap (λ (r : Result Bundle Fault). with_heads now.0 r) (scan-is either now.1 bytes (step-stands either state byte s))
    ∙ ended-heads now.0 (scan either now.1 bytes).0 (ending (scan either now.1 bytes).1)

pub read-is : (either : Bool) (bytes : List ℕ) → read_bundle either bytes ≡ finished (scan either start bytes)
unfolding read_bundle
read-is either bytes = scan-is either start bytes tt

abbrev joined_steps : List Head → Step → Step
joined_steps hs s = (hs ++ s.0, s.1)

abbrev step_of : List Head → Scan → Step
step_of hs state = (hs, state)

pub scan-append : (either : Bool) (state : Scan) (left right : List ℕ) → scan either state (left ++ right) ≡ ((scan either state left).0 ++ (scan either (scan either state left).1 right).0, (scan either (scan either state left).1 right).1)
scan-append either state [] right = refl
scan-append either state (byte ∷ left) right =
    let now : Step = step either state byte in
    ap (λ (s : Step). joined_steps now.0 s) (scan-append either now.1 left right)
    ∙ ap (λ (hs : List Head). step_of hs (scan either (scan either now.1 left).1 right).1) (sym (append_assoc now.0 (scan either now.1 left).0 (scan either (scan either now.1 left).1 right).0))
