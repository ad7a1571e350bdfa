-- The head that is read is the head that was written, and a head that was written is read again.
use Rattle.std.proofs.Common.{◌≡◌, ℕ, zero, suc, ◌^◌, ◌<◌, List, [], ◌∷◌, ◌++◌, length, Option, Ok, refl, sym, ap, subst, ◌∙◌, append_assoc}
use Rattle.std.specs.Int.{w32}
use Rattle.evidence_types.specs.Answer.{FitsAnswer}
use Rattle.evidence_types.specs.Bytes.{be16, be32}
use Rattle.evidence_types.specs.Heads.{Head, empty_head, nonce_head, usm_head, kim_head, seal_head, hash_head, seq_head, par_head, head_bytes, mark_byte, IsHead}
use Rattle.evidence_codec.specs.declared.version.Version.{Version}
use Rattle.evidence_codec.specs.Reading.{◌>>=◌, bytes_at, number_at, mark_at, answer_at, nonce_at, usm_at, kim_at, seal_at, hash_at, fields_at, head_at}
use Rattle.evidence_codec.proofs.FieldLemmas.{IsBytes, IsBytes-rest, bind_ok, done, ok_is, Split, Split-then, bytes_take, bytes_again, wide32, number_takes, number_again, IsMark, mark_takes, mark_again, answer_takes, answer_again}

-- a measurement carries a mark where the version has them
abbrev pub HasMark : Version → Head → Type 0
HasMark version (usm_head event mark answer) = IsMark version mark
HasMark version (kim_head event mark answer) = IsMark version mark
HasMark version empty_head = Unit {0}
HasMark version (nonce_head bytes) = Unit {0}
HasMark version (seal_head event bytes) = Unit {0}
HasMark version (hash_head event bytes) = Unit {0}
HasMark version seq_head = Unit {0}
HasMark version par_head = Unit {0}

-- ---- what is read was written

pub record HeadRead (version : Version) (bytes : List ℕ) (x : Head × List ℕ) : Type 0 where
  pub front : Split bytes (head_bytes x.0) x.1
  pub is_head : IsHead x.0
  pub has_mark : HasMark version x.0

tagged : (tag : ℕ) (bytes text rest : List ℕ) → Split bytes text rest → Split (tag ∷ bytes) (tag ∷ text) rest
tagged tag bytes text rest front = record { parts = ap (λ (t : List ℕ). tag ∷ t) front.parts; rest_fits = front.rest_fits }

nonce_takes : (version : Version) (rest : List ℕ) (x : Head × List ℕ) → IsBytes rest → nonce_at rest ≡ Ok x → HeadRead version (1 ∷ rest) x
unfolding nonce_at
nonce_takes version rest x fits e =
    let b = bind_ok (bytes_at 16 rest) (λ found. done (nonce_head found.0, found.1)) x e in
    let t = bytes_take 16 rest b.0 fits b.1 in
    subst (λ (p : Head × List ℕ). HeadRead version (1 ∷ rest) p) (ok_is (nonce_head b.0.0, b.0.1) x b.2) (record { front = tagged 1 rest b.0.0 b.0.1 t.0; is_head = t.1; has_mark = tt })

hash_takes : (version : Version) (rest : List ℕ) (x : Head × List ℕ) → IsBytes rest → hash_at rest ≡ Ok x → HeadRead version (5 ∷ rest) x
unfolding hash_at
hash_takes version rest x fits e =
    let a = bind_ok (number_at w32 rest) (λ event. bytes_at 32 event.1 >>= λ found. done (hash_head event.0 found.0, found.1)) x e in
    let b = bind_ok (bytes_at 32 a.0.1) (λ found. done (hash_head a.0.0 found.0, found.1)) x a.2 in
    let t0 = number_takes w32 (2 ^ 32) wide32 rest a.0 fits a.1 in
    let t1 = bytes_take 32 a.0.1 b.0 t0.0.rest_fits b.1 in
    let both = Split-then rest (be32 a.0.0) a.0.1 b.0.0 b.0.1 t0.0 t1.0 in
    subst (λ (p : Head × List ℕ). HeadRead version (5 ∷ rest) p) (ok_is (hash_head a.0.0 b.0.0, b.0.1) x b.2) (record { front = tagged 5 rest (be32 a.0.0 ++ b.0.0) b.0.1 both; is_head = (t0.1, t1.1); has_mark = tt })

seal_takes : (version : Version) (rest : List ℕ) (x : Head × List ℕ) → IsBytes rest → seal_at rest ≡ Ok x → HeadRead version (4 ∷ rest) x
unfolding seal_at
seal_takes version rest x fits e =
    let a = bind_ok (number_at w32 rest) (λ event. bytes_at 32 event.1 >>= λ found. done (seal_head event.0 found.0, found.1)) x e in
    let b = bind_ok (bytes_at 32 a.0.1) (λ found. done (seal_head a.0.0 found.0, found.1)) x a.2 in
    let t0 = number_takes w32 (2 ^ 32) wide32 rest a.0 fits a.1 in
    let t1 = bytes_take 32 a.0.1 b.0 t0.0.rest_fits b.1 in
    let both = Split-then rest (be32 a.0.0) a.0.1 b.0.0 b.0.1 t0.0 t1.0 in
    subst (λ (p : Head × List ℕ). HeadRead version (4 ∷ rest) p) (ok_is (seal_head a.0.0 b.0.0, b.0.1) x b.2) (record { front = tagged 4 rest (be32 a.0.0 ++ b.0.0) b.0.1 both; is_head = (t0.1, t1.1); has_mark = tt })

usm_takes : (version : Version) (rest : List ℕ) (x : Head × List ℕ) → IsBytes rest → usm_at version rest ≡ Ok x → HeadRead version (2 ∷ rest) x
unfolding usm_at
usm_takes version rest x fits e =
    let a = bind_ok (number_at w32 rest) (λ event. mark_at version event.1 >>= λ mark. answer_at version mark.1 >>= λ answer. done (usm_head event.0 mark.0 answer.0, answer.1)) x e in
    let m = bind_ok (mark_at version a.0.1) (λ mark. answer_at version mark.1 >>= λ answer. done (usm_head a.0.0 mark.0 answer.0, answer.1)) x a.2 in
    let b = bind_ok (answer_at version m.0.1) (λ answer. done (usm_head a.0.0 m.0.0 answer.0, answer.1)) x m.2 in
    let t0 = number_takes w32 (2 ^ 32) wide32 rest a.0 fits a.1 in
    let t1 = mark_takes version a.0.1 m.0 t0.0.rest_fits m.1 in
    let t2 = answer_takes version m.0.1 b.0 t1.0.rest_fits b.1 in
    let two = Split-then a.0.1 (mark_byte m.0.0) m.0.1 (be16 (length b.0.0) ++ b.0.0) b.0.1 t1.0 t2.0 in
    let both = Split-then rest (be32 a.0.0) a.0.1 (mark_byte m.0.0 ++ (be16 (length b.0.0) ++ b.0.0)) b.0.1 t0.0 two in
    subst (λ (p : Head × List ℕ). HeadRead version (2 ∷ rest) p) (ok_is (usm_head a.0.0 m.0.0 b.0.0, b.0.1) x b.2)
    (record { front = tagged 2 rest (be32 a.0.0 ++ (mark_byte m.0.0 ++ (be16 (length b.0.0) ++ b.0.0))) b.0.1 both; is_head = (t0.1, t2.1); has_mark = t1.1 })

kim_takes : (version : Version) (rest : List ℕ) (x : Head × List ℕ) → IsBytes rest → kim_at version rest ≡ Ok x → HeadRead version (3 ∷ rest) x
unfolding kim_at
kim_takes version rest x fits e =
    let a = bind_ok (number_at w32 rest) (λ event. mark_at version event.1 >>= λ mark. answer_at version mark.1 >>= λ answer. done (kim_head event.0 mark.0 answer.0, answer.1)) x e in
    let m = bind_ok (mark_at version a.0.1) (λ mark. answer_at version mark.1 >>= λ answer. done (kim_head a.0.0 mark.0 answer.0, answer.1)) x a.2 in
    let b = bind_ok (answer_at version m.0.1) (λ answer. done (kim_head a.0.0 m.0.0 answer.0, answer.1)) x m.2 in
    let t0 = number_takes w32 (2 ^ 32) wide32 rest a.0 fits a.1 in
    let t1 = mark_takes version a.0.1 m.0 t0.0.rest_fits m.1 in
    let t2 = answer_takes version m.0.1 b.0 t1.0.rest_fits b.1 in
    let two = Split-then a.0.1 (mark_byte m.0.0) m.0.1 (be16 (length b.0.0) ++ b.0.0) b.0.1 t1.0 t2.0 in
    let both = Split-then rest (be32 a.0.0) a.0.1 (mark_byte m.0.0 ++ (be16 (length b.0.0) ++ b.0.0)) b.0.1 t0.0 two in
    subst (λ (p : Head × List ℕ). HeadRead version (3 ∷ rest) p) (ok_is (kim_head a.0.0 m.0.0 b.0.0, b.0.1) x b.2)
    (record { front = tagged 3 rest (be32 a.0.0 ++ (mark_byte m.0.0 ++ (be16 (length b.0.0) ++ b.0.0))) b.0.1 both; is_head = (t0.1, t2.1); has_mark = t1.1 })

-- a head whose tag is all that it has
bare_takes : (version : Version) (tag : ℕ) (head : Head) (rest : List ℕ) (x : Head × List ℕ) → IsBytes rest → head_bytes head ≡ tag ∷ [] → IsHead head → HasMark version head → done (head, rest) ≡ done x → HeadRead version (tag ∷ rest) x
bare_takes version tag head rest x fits s h m e =
    let front : Split (tag ∷ rest) (head_bytes head) rest = record { parts = ap (λ (t : List ℕ). t ++ rest) (sym s); rest_fits = fits } in
    subst (λ (p : Head × List ℕ). HeadRead version (tag ∷ rest) p) (ok_is (head, rest) x e) (record { front = front; is_head = h; has_mark = m })

fields_take : (version : Version) (tag : ℕ) (rest : List ℕ) (x : Head × List ℕ) → IsBytes rest → fields_at version tag rest ≡ Ok x → HeadRead version (tag ∷ rest) x
unfolding fields_at
fields_take version zero rest x fits e = bare_takes version 0 empty_head rest x fits refl tt tt e
fields_take version (suc zero) rest x fits e = nonce_takes version rest x fits e
fields_take version (suc (suc zero)) rest x fits e = usm_takes version rest x fits e
fields_take version (suc (suc (suc zero))) rest x fits e = kim_takes version rest x fits e
fields_take version (suc (suc (suc (suc zero)))) rest x fits e = seal_takes version rest x fits e
fields_take version (suc (suc (suc (suc (suc zero))))) rest x fits e = hash_takes version rest x fits e
fields_take version (suc (suc (suc (suc (suc (suc zero)))))) rest x fits e = bare_takes version 6 seq_head rest x fits refl tt tt e
fields_take version (suc (suc (suc (suc (suc (suc (suc zero))))))) rest x fits e = bare_takes version 7 par_head rest x fits refl tt tt e
fields_take version (suc (suc (suc (suc (suc (suc (suc (suc more)))))))) rest x fits e = absurd cc

pub head_takes : (version : Version) (bytes : List ℕ) (x : Head × List ℕ) → IsBytes bytes → head_at version bytes ≡ Ok x → HeadRead version bytes x
unfolding head_at
head_takes version [] x fits e = absurd cc
head_takes version (tag ∷ rest) x fits e = fields_take version tag rest x (IsBytes-rest tag rest fits) e

-- ---- what was written is read

nonce_again : (bytes rest : List ℕ) → length bytes ≡ 16 → nonce_at (bytes ++ rest) ≡ Ok (nonce_head bytes, rest)
unfolding nonce_at
nonce_again bytes rest len = rw (bytes_again 16 bytes rest len) refl

hash_again : (event : ℕ) (bytes rest : List ℕ) → event < 2 ^ 32 → length bytes ≡ 32 → hash_at (be32 event ++ (bytes ++ rest)) ≡ Ok (hash_head event bytes, rest)
unfolding hash_at
hash_again event bytes rest lt len = rw (number_again w32 (2 ^ 32) wide32 event (bytes ++ rest) lt, bytes_again 32 bytes rest len) refl

seal_again : (event : ℕ) (bytes rest : List ℕ) → event < 2 ^ 32 → length bytes ≡ 32 → seal_at (be32 event ++ (bytes ++ rest)) ≡ Ok (seal_head event bytes, rest)
unfolding seal_at
seal_again event bytes rest lt len = rw (number_again w32 (2 ^ 32) wide32 event (bytes ++ rest) lt, bytes_again 32 bytes rest len) refl

usm_again : (version : Version) (event : ℕ) (mark : Option ℕ) (answer rest : List ℕ) → event < 2 ^ 32 → IsMark version mark → FitsAnswer answer → usm_at version (be32 event ++ (mark_byte mark ++ (be16 (length answer) ++ (answer ++ rest)))) ≡ Ok (usm_head event mark answer, rest)
unfolding usm_at
usm_again version event mark answer rest lt is fits =
    rw (number_again w32 (2 ^ 32) wide32 event (mark_byte mark ++ (be16 (length answer) ++ (answer ++ rest))) lt, mark_again version mark (be16 (length answer) ++ (answer ++ rest)) is, answer_again version answer rest fits) refl

kim_again : (version : Version) (event : ℕ) (mark : Option ℕ) (answer rest : List ℕ) → event < 2 ^ 32 → IsMark version mark → FitsAnswer answer → kim_at version (be32 event ++ (mark_byte mark ++ (be16 (length answer) ++ (answer ++ rest)))) ≡ Ok (kim_head event mark answer, rest)
unfolding kim_at
kim_again version event mark answer rest lt is fits =
    rw (number_again w32 (2 ^ 32) wide32 event (mark_byte mark ++ (be16 (length answer) ++ (answer ++ rest))) lt, mark_again version mark (be16 (length answer) ++ (answer ++ rest)) is, answer_again version answer rest fits) refl

-- the fields of a measurement, apart
apart : (event : ℕ) (mark : Option ℕ) (answer rest : List ℕ) → (be32 event ++ (mark_byte mark ++ (be16 (length answer) ++ answer))) ++ rest ≡ be32 event ++ (mark_byte mark ++ (be16 (length answer) ++ (answer ++ rest)))
apart event mark answer rest =
    append_assoc (be32 event) (mark_byte mark ++ (be16 (length answer) ++ answer)) rest
    ∙ ap (λ (t : List ℕ). be32 event ++ t) (append_assoc (mark_byte mark) (be16 (length answer) ++ answer) rest
    ∙ ap (λ (t : List ℕ). mark_byte mark ++ t) (append_assoc (be16 (length answer)) answer rest))

pub head_again : (version : Version) (head : Head) (rest : List ℕ) → IsHead head → HasMark version head → head_at version (head_bytes head ++ rest) ≡ Ok (head, rest)
unfolding head_at fields_at
head_again version empty_head rest h m = refl
head_again version (nonce_head bytes) rest h m = nonce_again bytes rest h
head_again version (usm_head event mark answer) rest h m = ap (λ (t : List ℕ). usm_at version t) (apart event mark answer rest) ∙ usm_again version event mark answer rest h.0 m h.1
head_again version (kim_head event mark answer) rest h m = ap (λ (t : List ℕ). kim_at version t) (apart event mark answer rest) ∙ kim_again version event mark answer rest h.0 m h.1
head_again version (seal_head event bytes) rest h m = ap (λ (t : List ℕ). seal_at t) (append_assoc (be32 event) bytes rest) ∙ seal_again event bytes rest h.0 h.1
head_again version (hash_head event bytes) rest h m = ap (λ (t : List ℕ). hash_at t) (append_assoc (be32 event) bytes rest) ∙ hash_again event bytes rest h.0 h.1
head_again version seq_head rest h m = refl
head_again version par_head rest h m = refl
