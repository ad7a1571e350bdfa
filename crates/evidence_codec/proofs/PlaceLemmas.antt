-- A fault is decided by the bytes up to it: none counts that stands four or more behind its place.
use Rattle.std.proofs.Common.{◌≡◌, ℕ, zero, suc, ◌+◌, ◌-◌, ◌≤◌, Bool, true, false, cond, ltb, eqb, List, [], ◌∷◌, ◌++◌, length, take, drop, Option, Ok, Err, refl, sym, ap, subst, ◌∙◌, append_assoc, length-append, arith, inl, inr, ◌⊎◌}
use Rattle.std.specs.Int.{Width, w16, w32, byte_len, from_be_bytes}
use Rattle.std.proofs.lemmas.Bool.{cases_lt, le-ltb, lt-ltb}
use Rattle.std.proofs.lemmas.List.{take_at}
use Rattle.std.proofs.Math.Seq.{take-append-add}
use Rattle.evidence_types.specs.Heads.{Head, nonce_head, usm_head, kim_head, seal_head, hash_head}
use Rattle.evidence_codec.specs.declared.fault.BadKind.{BadKind}
use Rattle.evidence_codec.specs.declared.fault.BadKind.TheVariants.{Tag, Length}
use Rattle.evidence_codec.specs.declared.fault.Fault.{Fault}
use Rattle.evidence_codec.specs.declared.fault.Stop.{Stop}
use Rattle.evidence_codec.specs.declared.fault.Stop.TheVariants.{Wanting, Faulty}
use Rattle.evidence_codec.specs.declared.version.Version.{Version}
use Rattle.evidence_codec.specs.declared.version.Version.TheVariants.{Plain, Marked}
use Rattle.evidence_codec.specs.Versions.{most}
use Rattle.evidence_codec.specs.Reading.{◌>>=◌, fault, Front, bytes_at, number_at, mark_at, length_index, answer_of_length, answer_at, nonce_at, usm_at, kim_at, seal_at, hash_at, fields_at, head_at, part_count, version_of}
use Rattle.evidence_codec.specs.Scanning.{Scan, opening, choosing, sizing, inside, whole, failed, start, Step, behind_head, settled, begun, sized, chosen, opened, opened_by, step, scan}
use Rattle.evidence_codec.specs.Scanned.{Stands}
use Rattle.evidence_codec.proofs.FieldLemmas.{done}
use Rattle.evidence_codec.proofs.FrontLemmas.{IsFront, bind_faults, guard_faults, number-front, mark-front}
use Rattle.evidence_codec.proofs.ScanLemmas.{no_room, step-stands}

-- ---- what has no fault

abbrev IsNever : (A : Type 0) → (List ℕ → Front A) → Type 0
IsNever A f = (bytes : List ℕ) (index : ℕ) (kind : BadKind) → f bytes ≡ Err (Faulty index kind) → ⊥

bytes-never : (count : ℕ) → IsNever (List ℕ) (bytes_at count)
bytes-never count = λ bytes index kind e. guard_faults (ltb (length bytes) count) (take count bytes, drop count bytes) index kind e

done-never : (A : Type 0) (x : A) → IsNever A (λ rest. done (x, rest))
done-never A x = λ bytes index kind e. absurd cc

bind-never : (A B : Type 0) (f : List ℕ → Front A) (g : A → List ℕ → Front B) → IsNever A f → ((x : A) → IsNever B (g x)) → IsNever B (λ bytes. f bytes >>= λ x. g x.0 x.1)
bind-never A B f g F G = λ bytes index kind e.
    elim (bind_faults (f bytes) (λ x. g x.0 x.1) index kind e) [
      | inl w ↦ F bytes index kind w
      | inr b ↦ G b.0.0 b.0.1 index kind b.2
    ]

number-never : (w : Width) → IsNever ℕ (number_at w)
number-never w = bind-never (List ℕ) ℕ (bytes_at (byte_len w)) (λ text rest. done (from_be_bytes w text, rest)) (bytes-never (byte_len w)) (λ text. done-never ℕ (from_be_bytes w text))

mark-never : (version : Version) → IsNever (Option ℕ) (mark_at version)
unfolding mark_at
mark-never Plain = λ bytes index kind e. absurd cc
mark-never Marked = marked
  where
    marked : IsNever (Option ℕ) (mark_at Marked)
    marked [] index kind e = absurd cc
    marked (mark ∷ rest) index kind e = absurd cc

nonce-never : IsNever Head nonce_at
unfolding nonce_at
nonce-never = bind-never (List ℕ) Head (bytes_at 16) (λ text rest. done (nonce_head text, rest)) (bytes-never 16) (λ text. done-never Head (nonce_head text))

seal-never : IsNever Head seal_at
unfolding seal_at
seal-never =
    bind-never ℕ Head (number_at w32) (λ event rest. bytes_at 32 rest >>= λ found. done (seal_head event found.0, found.1)) (number-never w32)
    (λ event. bind-never (List ℕ) Head (bytes_at 32) (λ text rest. done (seal_head event text, rest)) (bytes-never 32) (λ text. done-never Head (seal_head event text)))

hash-never : IsNever Head hash_at
unfolding hash_at
hash-never =
    bind-never ℕ Head (number_at w32) (λ event rest. bytes_at 32 rest >>= λ found. done (hash_head event found.0, found.1)) (number-never w32)
    (λ event. bind-never (List ℕ) Head (bytes_at 32) (λ text rest. done (hash_head event text, rest)) (bytes-never 32) (λ text. done-never Head (hash_head event text)))

-- ---- the length of an answer

-- these first bytes decide a fault, which is at the fifth byte of a head or behind it
record Decides (A : Type 0) (f : List ℕ → Front A) (few index : ℕ) (kind : BadKind) (bytes : List ℕ) : Type 0 where
  pub front : List ℕ
  pub rest : List ℕ
  pub parts : bytes ≡ front ++ rest
  pub short : length front ≤ few
  pub late : 5 ≤ index
  pub again : (more : List ℕ) → f (front ++ more) ≡ Err (Faulty index kind)

abbrev Decided : (A : Type 0) → (List ℕ → Front A) → ℕ → Type 0
Decided A f few = (bytes : List ℕ) (index : ℕ) (kind : BadKind) → f bytes ≡ Err (Faulty index kind) → Decides A f few index kind bytes

bind-decided : (A B : Type 0) (f : List ℕ → Front A) (g : A → List ℕ → Front B) (m n : ℕ) → IsFront A f m → IsNever A f → ((x : A) → Decided B (g x) n) → Decided B (λ bytes. f bytes >>= λ x. g x.0 x.1) (m + n)
bind-decided A B f g m n F N G = λ bytes index kind e.
    elim (bind_faults (f bytes) (λ x. g x.0 x.1) index kind e) [
      | inl w ↦ absurd (N bytes index kind w)
      | inr b ↦
          let t = F.takes bytes b.0 b.1 in
          let u = G b.0.0 b.0.1 index kind b.2 in
          record {
            front = t.front ++ u.front;
            rest = u.rest;
            parts = t.parts ∙ ap (λ (l : List ℕ). t.front ++ l) u.parts ∙ sym (append_assoc t.front u.front u.rest);
            short = omega (arith, t.short, u.short, length-append t.front u.front);
            late = u.late;
            again = λ more.
                ap (λ (l : List ℕ). f l >>= λ x. g x.0 x.1) (append_assoc t.front u.front more)
                ∙ ap (λ (r : Front A). r >>= λ x. g x.0 x.1) (t.again (u.front ++ more))
                ∙ u.again more;
          }
    ]

-- what comes behind has no fault
then-decided : (A B : Type 0) (f : List ℕ → Front A) (g : A → List ℕ → Front B) (n : ℕ) → Decided A f n → ((x : A) → IsNever B (g x)) → Decided B (λ bytes. f bytes >>= λ x. g x.0 x.1) n
then-decided A B f g n F N = λ bytes index kind e.
    elim (bind_faults (f bytes) (λ x. g x.0 x.1) index kind e) [
      | inl w ↦
          let t = F bytes index kind w in
          record { front = t.front; rest = t.rest; parts = t.parts; short = t.short; late = t.late; again = λ more. ap (λ (r : Front A). r >>= λ x. g x.0 x.1) (t.again more) }
      | inr b ↦ absurd (N b.0.0 b.0.1 index kind b.2)
    ]

abbrev halted : Stop → Front (List ℕ)
halted stop = Err stop

halted-is : (i index : ℕ) (k kind : BadKind) → halted (Faulty i k) ≡ halted (Faulty index kind) → i ≡ index
halted-is i index k kind e = cc

limited-decided : (b : Bool) (i : ℕ) (k : BadKind) (f : List ℕ → Front (List ℕ)) → 5 ≤ i → IsNever (List ℕ) f → Decided (List ℕ) (λ bytes. cond b (halted (Faulty i k)) (f bytes)) 0
limited-decided true i k f le N = λ bytes index kind e.
    record { front = []; rest = bytes; parts = refl; short = omega arith; late = omega (arith, le, halted-is i index k kind e); again = λ more. e }
limited-decided false i k f le N = λ bytes index kind e. absurd (N bytes index kind e)

index_late : (version : Version) → 5 ≤ length_index version
index_late Plain = omega arith
index_late Marked = omega arith

answer-decided : (version : Version) → Decided (List ℕ) (answer_at version) 2
unfolding answer_at answer_of_length
answer-decided version =
    bind-decided ℕ (List ℕ) (number_at w16) (λ count rest. answer_of_length version count rest) 2 0 (number-front w16) (number-never w16)
    (λ count. limited-decided (ltb 1024 count) (length_index version) Length (bytes_at count) (index_late version) (bytes-never count))

usm-decided : (version : Version) → Decided Head (usm_at version) 7
unfolding usm_at
usm-decided version =
    bind-decided ℕ Head (number_at w32) (λ event rest. mark_at version rest >>= λ mark. answer_at version mark.1 >>= λ answer. done (usm_head event mark.0 answer.0, answer.1)) 4 3 (number-front w32) (number-never w32)
    (λ event. bind-decided (Option ℕ) Head (mark_at version) (λ mark rest. answer_at version rest >>= λ answer. done (usm_head event mark answer.0, answer.1)) 1 2 (mark-front version) (mark-never version)
    (λ mark. then-decided (List ℕ) Head (answer_at version) (λ answer rest. done (usm_head event mark answer, rest)) 2 (answer-decided version) (λ answer. done-never Head (usm_head event mark answer))))

kim-decided : (version : Version) → Decided Head (kim_at version) 7
unfolding kim_at
kim-decided version =
    bind-decided ℕ Head (number_at w32) (λ event rest. mark_at version rest >>= λ mark. answer_at version mark.1 >>= λ answer. done (kim_head event mark.0 answer.0, answer.1)) 4 3 (number-front w32) (number-never w32)
    (λ event. bind-decided (Option ℕ) Head (mark_at version) (λ mark rest. answer_at version rest >>= λ answer. done (kim_head event mark answer.0, answer.1)) 1 2 (mark-front version) (mark-never version)
    (λ mark. then-decided (List ℕ) Head (answer_at version) (λ answer rest. done (kim_head event mark answer, rest)) 2 (answer-decided version) (λ answer. done-never Head (kim_head event mark answer))))

-- ---- a head

record HeadDecides (version : Version) (index : ℕ) (kind : BadKind) (bytes : List ℕ) : Type 0 where
  pub front : List ℕ
  pub rest : List ℕ
  pub parts : bytes ≡ front ++ rest
  pub short : length front ≤ index + 4
  pub again : (more : List ℕ) → head_at version (front ++ more) ≡ Err (Faulty index kind)

measured-decides : (version : Version) (tag index : ℕ) (kind : BadKind) (f : List ℕ → Front Head) (bytes : List ℕ) → ((rest : List ℕ) → head_at version (tag ∷ rest) ≡ f rest) → Decides Head f 7 index kind bytes → HeadDecides version index kind (tag ∷ bytes)
measured-decides version tag index kind f bytes same d = record {
  front = tag ∷ d.front;
  rest = d.rest;
  parts = ap (λ (l : List ℕ). tag ∷ l) d.parts;
  short = omega (arith, d.short, d.late);
  again = λ more. same (d.front ++ more) ∙ d.again more;
}

fields-decide : (version : Version) (tag : ℕ) (rest : List ℕ) (index : ℕ) (kind : BadKind) → fields_at version tag rest ≡ Err (Faulty index kind) → HeadDecides version index kind (tag ∷ rest)
unfolding fields_at head_at
fields-decide version zero rest index kind e = absurd cc
fields-decide version (suc zero) rest index kind e = absurd (nonce-never rest index kind e)
fields-decide version (suc (suc zero)) rest index kind e = measured-decides version 2 index kind (usm_at version) rest (λ rest. refl) (usm-decided version rest index kind e)
fields-decide version (suc (suc (suc zero))) rest index kind e = measured-decides version 3 index kind (kim_at version) rest (λ rest. refl) (kim-decided version rest index kind e)
fields-decide version (suc (suc (suc (suc zero)))) rest index kind e = absurd (seal-never rest index kind e)
fields-decide version (suc (suc (suc (suc (suc zero))))) rest index kind e = absurd (hash-never rest index kind e)
fields-decide version (suc (suc (suc (suc (suc (suc zero)))))) rest index kind e = absurd cc
fields-decide version (suc (suc (suc (suc (suc (suc (suc zero))))))) rest index kind e = absurd cc
fields-decide version (suc (suc (suc (suc (suc (suc (suc (suc more)))))))) rest index kind e =
    record { front = suc (suc (suc (suc (suc (suc (suc (suc more))))))) ∷ []; rest = rest; parts = refl; short = omega arith; again = λ more. e }

head-decides : (version : Version) (bytes : List ℕ) (index : ℕ) (kind : BadKind) → head_at version bytes ≡ Err (Faulty index kind) → HeadDecides version index kind bytes
unfolding head_at
head-decides version [] index kind e = absurd cc
head-decides version (tag ∷ rest) index kind e = fields-decide version tag rest index kind e

abbrev stopped : Stop → Front Head
stopped stop = Err stop

wanting-faulty : (index : ℕ) (kind : BadKind) → stopped Wanting ≡ stopped (Faulty index kind) → ⊥
wanting-faulty index kind e = absurd cc

-- one byte more makes a fault that stands less than four bytes before it
near : (version : Version) (held : List ℕ) (byte index : ℕ) (kind : BadKind) → head_at version held ≡ Err Wanting → head_at version (held ++ byte ∷ []) ≡ Err (Faulty index kind) → length held + 1 ≤ index + 4
near version held byte index kind wanting e =
    let d = head-decides version (held ++ byte ∷ []) index kind e in
    let long : length held + 1 ≡ length d.front + length d.rest = omega (arith, ap length d.parts, length-append d.front d.rest, length-append held (byte ∷ [])) in
    elim (cases_lt 0 (length d.rest)) [
      | inl lt ↦
          let k : length d.front + (length held - length d.front) ≡ length held = omega (arith, lt, long) in
          let same : held ≡ d.front ++ take (length held - length d.front) d.rest =
          sym (take_at held (byte ∷ []) (length held) refl) ∙ ap (λ (l : List ℕ). take (length held) l) d.parts ∙ ap (λ (n : ℕ). take n (d.front ++ d.rest)) (sym k) ∙ take-append-add d.front d.rest (length held - length d.front) in
          absurd (wanting-faulty index kind (sym wanting ∙ ap (head_at version) same ∙ d.again (take (length held - length d.front) d.rest)))
      | inr le ↦ omega (arith, le, long, d.short)
    ]

-- ---- where a scan stands behind so many bytes

abbrev IsAt : ℕ → Scan → Type 0
IsAt n (opening wanted at) = (n ≡ at) × (at + length wanted ≡ 4)
IsAt n choosing = n ≡ 4
IsAt n (sizing version held) = n ≡ 5 + length held
IsAt n (inside version at left nodes held) = n ≡ at + length held
IsAt n (whole version at) = n ≡ at
IsAt n (failed first) = n ≤ first.at + 4

abbrev Goes : Scan → Type 0
Goes (opening wanted at) = Unit {0}
Goes choosing = Unit {0}
Goes (sizing version held) = Unit {0}
Goes (inside version at left nodes held) = Unit {0}
Goes (whole version at) = Unit {0}
Goes (failed first) = ⊥

cond-at : (n : ℕ) (b : Bool) (x y : Scan) → IsAt n x → IsAt n y → IsAt n (cond b x y)
cond-at n true x y p q = p
cond-at n false x y p q = q

opened_by-at : (more : List ℕ) (at n : ℕ) → n ≡ at → at + suc (length more) ≡ 4 → IsAt (suc n) (opened_by more (suc at))
opened_by-at [] at n e four = omega (arith, e, four)
opened_by-at (wanted ∷ more) at n e four = (omega (arith, e), omega (arith, four))

chosen-at : (either : Bool) (byte n : ℕ) → n ≡ 4 → IsAt (suc n) (chosen (version_of either byte))
unfolding version_of
chosen-at either byte n e = by (eqb byte 1) (eqb byte 2) either
  where
    sizes : suc n ≡ 5 + 0
    sizes = omega (arith, e)

    fails : suc n ≤ 4 + 4
    fails = omega (arith, e)

    by : (a b c : Bool) → IsAt (suc n) (chosen (cond a (Ok Plain) (cond b (cond c (Ok Marked) (Err (fault 4 Tag))) (Err (fault 4 Tag)))))
    by true b c = sizes
    by false true true = sizes
    by false true false = fails
    by false false c = fails

sized-at : (version : Version) (len n : ℕ) → n ≡ 9 → IsAt n (sized version len)
sized-at version len n e =
    cond-at n (ltb (most version) len) (failed (fault 5 Length)) (begun version len) (omega (arith, e))
    (cond-at n (eqb len 0) (failed (fault 9 Length)) (inside version 9 (len - 1) [] []) (omega (arith, e)) (omega (arith, e)))

behind-at : (version : Version) (at left : ℕ) (nodes : List ℕ) (n : ℕ) → n ≡ at → IsAt n (behind_head version at left nodes)
behind-at version at left nodes n e =
    let fails : n ≤ at + 4 = omega (arith, e) in
    let stays : n ≡ at + 0 = omega (arith, e) in
    cond-at n (eqb (length nodes) 0) _ _
    (cond-at n (eqb left 0) (whole version at) (failed (fault at Length)) e fails)
    (cond-at n (eqb left 0) (failed (fault at Length)) (inside version at (left - 1) nodes []) fails stays)

settled-at : (version : Version) (at left : ℕ) (nodes held : List ℕ) (r : Front Head) (n : ℕ) → n ≡ at + length held → ((index : ℕ) (kind : BadKind) → r ≡ Err (Faulty index kind) → length held ≤ index + 4) → IsAt n (settled version at left nodes held r).1
settled-at version at left nodes held (Ok x) n e close = behind-at version (at + length held) left (opened (part_count x.0) nodes) n e
settled-at version at left nodes held (Err Wanting) n e close =
    cond-at n (eqb left 0) (failed (fault (at + length held) Length)) (inside version at (left - 1) nodes held) (omega (arith, e)) e
settled-at version at left nodes held (Err (Faulty index kind)) n e close = let few : length held ≤ index + 4 = close index kind refl in omega (arith, e, few)

step-at : (either : Bool) (state : Scan) (byte n : ℕ) → Stands state → Goes state → IsAt n state → IsAt (suc n) (step either state byte).1
unfolding step
step-at either (opening [] at) byte n s g is = absurd s
step-at either (opening (wanted ∷ more) at) byte n s g is =
    cond-at (suc n) (eqb byte wanted) (opened_by more (suc at)) (failed (fault at Tag)) (opened_by-at more at n is.0 is.1) (omega (arith, is.0))
step-at either choosing byte n s g is = chosen-at either byte n is
step-at either (sizing version held) byte n s g is =
    let now : List ℕ = held ++ byte ∷ [] in
    let one : length now ≡ length held + 1 = length-append held (byte ∷ []) in
    elim (cases_lt (length now) 4) [
      | inl lt ↦ rw (lt-ltb (length now) 4 lt) (omega (arith, is, one))
      | inr le ↦ rw (le-ltb (length now) 4 le) (sized-at version (from_be_bytes w32 now) (suc n) (omega (arith, is, one, le, s)))
    ]
step-at either (inside version at left nodes held) byte n s g is =
    let now : List ℕ = held ++ byte ∷ [] in
    let one : length now ≡ length held + 1 = length-append held (byte ∷ []) in
    elim (cases_lt (length nodes) 1025) [
      | inl lt ↦ rw (lt-ltb (length nodes) 1025 lt)
          (settled-at version at left nodes now (head_at version now) (suc n) (omega (arith, is, one)) (λ index kind e. let few : length held + 1 ≤ index + 4 = near version held byte index kind s.wanting e in omega (arith, one, few)))
      | inr le ↦ rw (le-ltb (length nodes) 1025 le) (omega (arith, is, ap length (no_room nodes held s.room le)))
    ]
step-at either (whole version at) byte n s g is = omega (arith, is)
step-at either (failed first) byte n s g is = absurd g

-- ---- so many bytes are enough

pub failed-stays : (either : Bool) (d : Fault) (bytes : List ℕ) → scan either (failed d) bytes ≡ ([], failed d)
unfolding step
failed-stays either d [] = refl
failed-stays either d (byte ∷ bytes) = failed-stays either d bytes

goes-or : (state : Scan) → Goes state ⊎ ((d : Fault) × (state ≡ failed d))
goes-or (opening wanted at) = inl tt
goes-or choosing = inl tt
goes-or (sizing version held) = inl tt
goes-or (inside version at left nodes held) = inl tt
goes-or (whole version at) = inl tt
goes-or (failed first) = inr (first, refl)

not_failed : (state : Scan) (d : Fault) → Goes state → state ≡ failed d → ⊥
not_failed state d g e = subst Goes e g

-- a state that failed has this fault
same-fault : (either : Bool) (bytes : List ℕ) (state : Scan) (first d : Fault) → state ≡ failed first → (scan either state bytes).1 ≡ failed d → state ≡ failed d
same-fault either bytes state first d e f =
    e ∙ sym (ap (λ (s : Step). s.1) (failed-stays either first bytes)) ∙ sym (ap (λ (s : Scan). (scan either s bytes).1) e) ∙ f

late : (either : Bool) (bytes : List ℕ) (state : Scan) (n : ℕ) (d : Fault) → Stands state → IsAt n state → (scan either state bytes).1 ≡ failed d → n ≤ d.at + 4
late either [] state n d s is e = subst (λ (x : Scan). IsAt n x) e is
late either (byte ∷ bytes) state n d s is e =
    elim (goes-or state) [
      | inl g ↦
          let next : suc n ≤ d.at + 4 = late either bytes (step either state byte).1 (suc n) d (step-stands either state byte s) (step-at either state byte n s g is) e in
          omega (arith, next)
      | inr f ↦ subst (λ (x : Scan). IsAt n x) (same-fault either (byte ∷ bytes) state f.0 d f.1 e) is
    ]

pub enough : (either : Bool) (bytes : List ℕ) (state : Scan) (n count : ℕ) (d : Fault) → Stands state → IsAt n state → (scan either state bytes).1 ≡ failed d → d.at + 4 ≤ n + count → (scan either state (take count bytes)).1 ≡ failed d
enough either [] state n zero d s is e le = e
enough either [] state n (suc count) d s is e le = e
enough either (byte ∷ bytes) state n zero d s is e le =
    elim (goes-or state) [
      | inl g ↦
          let next : suc n ≤ d.at + 4 = late either bytes (step either state byte).1 (suc n) d (step-stands either state byte s) (step-at either state byte n s g is) e in
          absurd (omega (arith, next, le))
      | inr f ↦ same-fault either (byte ∷ bytes) state f.0 d f.1 e
    ]
enough either (byte ∷ bytes) state n (suc count) d s is e le =
    elim (goes-or state) [
      | inl g ↦ enough either bytes (step either state byte).1 (suc n) count d (step-stands either state byte s) (step-at either state byte n s g is) e (omega (arith, le))
      | inr f ↦
          let here : state ≡ failed d = same-fault either (byte ∷ bytes) state f.0 d f.1 e in
          ap (λ (x : Scan). (scan either x (byte ∷ take count bytes)).1) here ∙ ap (λ (x : Step). x.1) (failed-stays either d (byte ∷ take count bytes))
    ]

pub enough-at_start : (either : Bool) (bytes : List ℕ) (d : Fault) → (scan either start bytes).1 ≡ failed d → (scan either start (take (d.at + 4) bytes)).1 ≡ failed d
enough-at_start either bytes d e = enough either bytes start 0 (d.at + 4) d tt (refl, refl) e (omega arith)
