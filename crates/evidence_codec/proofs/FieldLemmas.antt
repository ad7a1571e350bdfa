-- A field that is read is the field that was written, and what was written is read again.
use Rattle.std.proofs.Common.{◌≡◌, ℕ, suc, ◌+◌, ◌^◌, ◌<◌, ◌≤◌, Bool, true, false, cond, ltb, List, [], ◌∷◌, ◌++◌, length, get_or, take, drop, Option, Some, None, Result, Ok, Err, refl, sym, ap, subst, ◌∙◌, append_assoc, arith, inl, inr}
use Rattle.std.specs.Int.{Width, w16, w32, byte_len, from_be_bytes, to_be_bytes}
use Rattle.std.proofs.lemmas.Bool.{cases_lt, ltb-false, le-ltb}
use Rattle.std.proofs.lemmas.List.{take_at, drop_at, take-append-drop, length-append, length-take, get_or-drop, get_or-take, get_or_past}
use Rattle.std.proofs.lemmas.Nat.{be_bytes_2, be_bytes_4, from_be_bytes-to_be_bytes_2, from_be_bytes-to_be_bytes_4}
use Rattle.evidence_types.specs.Answer.{FitsAnswer}
use Rattle.evidence_types.specs.Bytes.{be16}
use Rattle.evidence_types.specs.Heads.{mark_byte}
use Rattle.evidence_codec.specs.declared.fault.BadKind.TheVariants.{Length}
use Rattle.evidence_codec.specs.declared.fault.Stop.{Stop}
use Rattle.evidence_codec.specs.declared.fault.Stop.TheVariants.{Wanting, Faulty}
use Rattle.evidence_codec.specs.declared.version.Version.{Version}
use Rattle.evidence_codec.specs.declared.version.Version.TheVariants.{Plain, Marked}
use Rattle.evidence_codec.specs.Reading.{◌>>=◌, Front, bytes_at, number_at, mark_at, length_index, answer_of_length, answer_at}

abbrev pub IsBytes : List ℕ → Type 0
IsBytes bytes = (i : ℕ) → get_or bytes i 0 < 256

pub IsBytes-drop : (n : ℕ) (bytes : List ℕ) → IsBytes bytes → IsBytes (drop n bytes)
IsBytes-drop n bytes h i = rw get_or-drop (h (n + i))

pub IsBytes-take : (n : ℕ) (bytes : List ℕ) → IsBytes bytes → IsBytes (take n bytes)
IsBytes-take n bytes h i =
    elim (cases_lt i n) [
      | inl lt ↦ rw (get_or-take n bytes i 0 lt) (h i)
      | inr le ↦ rw (get_or_past (take n bytes) i 0 (omega (arith, length-take n bytes))) (omega arith)
    ]

pub IsBytes-rest : (byte : ℕ) (bytes : List ℕ) → IsBytes (byte ∷ bytes) → IsBytes bytes
IsBytes-rest byte bytes h i = h (suc i)

-- the value of a step that did not fail
pub bind_ok : {A B E : Type 0} (r : Result A E) (f : A → Result B E) (y : B) → (r >>= f) ≡ Ok y → (x : A) × (r ≡ Ok x) × (f x ≡ Ok y)
bind_ok (Ok x) f y e = (x, refl, e)
bind_ok (Err d) f y e = absurd cc

-- a test that did not fail
pub guard_ok : {A E : Type 0} (b : Bool) (d : E) (r : Result A E) (y : A) → cond b (Err d) r ≡ Ok y → (b ≡ false) × (r ≡ Ok y)
guard_ok true d r y e = absurd cc
guard_ok false d r y e = (refl, e)

abbrev pub done : {A : Type 0} → A → Result A Stop
done x = Ok x

pub ok_is : {A : Type 0} (x y : A) → done x ≡ done y → x ≡ y
ok_is x y e = cc

-- what a reader took from the front
pub record Split (bytes text rest : List ℕ) : Type 0 where
  pub parts : bytes ≡ text ++ rest
  pub rest_fits : IsBytes rest

pub Split-then : (a x b y c : List ℕ) → Split a x b → Split b y c → Split a (x ++ y) c
Split-then a x b y c p q = record { parts = p.parts ∙ ap (λ (t : List ℕ). x ++ t) q.parts ∙ sym (append_assoc x y c); rest_fits = q.rest_fits }

-- ---- as many bytes as are wanted

pub bytes_take : (count : ℕ) (bytes : List ℕ) (x : List ℕ × List ℕ) → IsBytes bytes → bytes_at count bytes ≡ Ok x → Split bytes x.0 x.1 × (length x.0 ≡ count)
bytes_take count bytes x fits e =
    let g = guard_ok (ltb (length bytes) count) Wanting (done (take count bytes, drop count bytes)) x e in
    let long : count ≤ length bytes = ltb-false _ _ g.0 in
    let found : Split bytes (take count bytes) (drop count bytes) = record { parts = sym (take-append-drop count bytes); rest_fits = IsBytes-drop count bytes fits } in
    subst (λ (p : List ℕ × List ℕ). Split bytes p.0 p.1 × (length p.0 ≡ count)) (ok_is (take count bytes, drop count bytes) x g.1) (found, omega (arith, length-take count bytes))

pub bytes_again : (count : ℕ) (text rest : List ℕ) → length text ≡ count → bytes_at count (text ++ rest) ≡ Ok (text, rest)
bytes_again count text rest len =
    let long : ltb (length (text ++ rest)) count ≡ false = le-ltb _ _ (omega (arith, length-append text rest)) in
    rw (long, take_at text rest count len, drop_at text rest count len) refl

-- ---- numbers

pub record IsWide (w : Width) (limit : ℕ) : Type 0 where
  pub len : (n : ℕ) → length (to_be_bytes w n) ≡ byte_len w
  pub back : (bytes : List ℕ) → length bytes ≡ byte_len w → IsBytes bytes → to_be_bytes w (from_be_bytes w bytes) ≡ bytes
  pub again : (n : ℕ) → n < limit → from_be_bytes w (to_be_bytes w n) ≡ n
  pub below : (bytes : List ℕ) → IsBytes bytes → from_be_bytes w bytes < limit

pub wide16 : IsWide w16 (2 ^ 16)
wide16 = record {
  len = λ n. refl;
  back = λ bytes len fits. be_bytes_2 bytes _ len fits refl;
  again = λ n lt. from_be_bytes-to_be_bytes_2 n lt;
  below = λ bytes fits. omega (arith, fits 0, fits 1);
}

pub wide32 : IsWide w32 (2 ^ 32)
wide32 = record {
  len = λ n. refl;
  back = λ bytes len fits. be_bytes_4 bytes _ len fits refl;
  again = λ n lt. from_be_bytes-to_be_bytes_4 n lt;
  below = λ bytes fits. omega (arith, fits 0, fits 1, fits 2, fits 3);
}

pub prefix_fits : (bytes text rest : List ℕ) → bytes ≡ text ++ rest → IsBytes bytes → IsBytes text
prefix_fits bytes text rest e fits =
    let k : take (length text) bytes ≡ text = rw e (take_at text rest (length text) refl) in
    subst IsBytes k (IsBytes-take (length text) bytes fits)

pub number_takes : (w : Width) (limit : ℕ) (wide : IsWide w limit) (bytes : List ℕ) (x : ℕ × List ℕ) → IsBytes bytes → number_at w bytes ≡ Ok x → Split bytes (to_be_bytes w x.0) x.1 × (x.0 < limit)
number_takes w limit wide bytes x fits e =
    let b = bind_ok (bytes_at (byte_len w) bytes) (λ found. done (from_be_bytes w found.0, found.1)) x e in
    let t = bytes_take (byte_len w) bytes b.0 fits b.1 in
    let text_fits : IsBytes b.0.0 = prefix_fits bytes b.0.0 b.0.1 t.0.parts fits in
    let same : to_be_bytes w (from_be_bytes w b.0.0) ≡ b.0.0 = wide.back b.0.0 t.1 text_fits in
    subst (λ (p : ℕ × List ℕ). Split bytes (to_be_bytes w p.0) p.1 × (p.0 < limit)) (ok_is (from_be_bytes w b.0.0, b.0.1) x b.2)
    (subst (λ (text : List ℕ). Split bytes text b.0.1) (sym same) t.0, wide.below b.0.0 text_fits)

pub number_again : (w : Width) (limit : ℕ) (wide : IsWide w limit) (n : ℕ) (rest : List ℕ) → n < limit → number_at w (to_be_bytes w n ++ rest) ≡ Ok (n, rest)
number_again w limit wide n rest lt =
    ap (λ (r : Front (List ℕ)). r >>= λ found. done (from_be_bytes w found.0, found.1)) (bytes_again (byte_len w) (to_be_bytes w n) rest (wide.len n)) ∙ ap (λ (k : ℕ). done (k, rest)) (wide.again n lt)

-- ---- marks

-- a mark where the version has them, and none where it hasn't
abbrev pub IsMark : Version → Option ℕ → Type 0
IsMark Plain mark = mark ≡ None
IsMark Marked mark = (byte : ℕ) × (mark ≡ Some byte)

pub mark_takes : (version : Version) (bytes : List ℕ) (x : Option ℕ × List ℕ) → IsBytes bytes → mark_at version bytes ≡ Ok x → Split bytes (mark_byte x.0) x.1 × IsMark version x.0
unfolding mark_at
mark_takes Plain bytes x fits e =
    subst (λ (p : Option ℕ × List ℕ). Split bytes (mark_byte p.0) p.1 × IsMark Plain p.0) (ok_is (None, bytes) x e) (record { parts = refl; rest_fits = fits }, refl)
mark_takes Marked [] x fits e = absurd cc
mark_takes Marked (mark ∷ rest) x fits e =
    subst (λ (p : Option ℕ × List ℕ). Split (mark ∷ rest) (mark_byte p.0) p.1 × IsMark Marked p.0) (ok_is (Some mark, rest) x e) (record { parts = refl; rest_fits = IsBytes-rest mark rest fits }, (mark, refl))

pub mark_again : (version : Version) (mark : Option ℕ) (rest : List ℕ) → IsMark version mark → mark_at version (mark_byte mark ++ rest) ≡ Ok (mark, rest)
unfolding mark_at
mark_again Plain mark rest e = rw e refl
mark_again Marked mark rest is = rw is.1 refl

-- ---- answers

pub answer_takes : (version : Version) (bytes : List ℕ) (x : List ℕ × List ℕ) → IsBytes bytes → answer_at version bytes ≡ Ok x → Split bytes (be16 (length x.0) ++ x.0) x.1 × FitsAnswer x.0
unfolding answer_at answer_of_length
answer_takes version bytes x fits e =
    let b = bind_ok (number_at w16 bytes) (λ count. cond (ltb 1024 count.0) (Err (Faulty (length_index version) Length)) (bytes_at count.0 count.1)) x e in
    let t = number_takes w16 (2 ^ 16) wide16 bytes b.0 fits b.1 in
    let g = guard_ok (ltb 1024 b.0.0) (Faulty (length_index version) Length) (bytes_at b.0.0 b.0.1) x b.2 in
    let few : b.0.0 ≤ 1024 = ltb-false _ _ g.0 in
    let u = bytes_take b.0.0 b.0.1 x t.0.rest_fits g.1 in
    let both = Split-then bytes (be16 b.0.0) b.0.1 x.0 x.1 t.0 u.0 in
    (subst (λ (k : ℕ). Split bytes (be16 k ++ x.0) x.1) (sym u.1) both, omega (arith, u.1))

pub answer_again : (version : Version) (answer rest : List ℕ) → FitsAnswer answer → answer_at version (be16 (length answer) ++ (answer ++ rest)) ≡ Ok (answer, rest)
unfolding answer_at answer_of_length
answer_again version answer rest fits =
    let few : ltb 1024 (length answer) ≡ false = le-ltb _ _ fits in
    rw (number_again w16 (2 ^ 16) wide16 (length answer) (answer ++ rest) (omega arith), few) (bytes_again (length answer) answer rest refl)
