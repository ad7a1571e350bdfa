-- A field that is read is the field that was written, and what was written is read again.
use Rattle.std.proofs.Common.{◌≡◌, ℕ, zero, suc, ◌+◌, ◌^◌, ◌<◌, ◌≤◌, ◌&&◌, Bool, true, false, cond, ltb, nat_le, List, [], ◌∷◌, ◌++◌, length, get_or, take, drop, Option, Some, None, Result, Ok, Err, refl, sym, ap, subst, ◌∙◌, append_assoc, arith, inl, inr}
use Rattle.std.specs.Int.{Width, w16, w32, byte_len, from_be_bytes, to_be_bytes}
use Rattle.std.specs.List.{list_all}
use Rattle.std.proofs.lemmas.Bool.{cases_lt, ltb-false, le-ltb, and_parts}
use Rattle.std.proofs.lemmas.Bool.Decides.{nat_tests}
use Rattle.std.proofs.lemmas.List.{take_at, drop_at, take-append-drop, length-append, length-take, get_or-drop, get_or-take, get_or_past}
use Rattle.std.proofs.lemmas.Nat.{be_bytes_2, be_bytes_4, from_be_bytes-to_be_bytes_2, from_be_bytes-to_be_bytes_4}
use Rattle.phrase_tree.specs.Name.{IsName, is_name, is_name_byte, is_small_letter}
use Rattle.evidence_types.specs.Answer.{FitsAnswer}
use Rattle.evidence_types.specs.Bytes.{be16}
use Rattle.transcript.specs.declared.fault.TranscriptKind.TheVariants.{Length, Name}
use Rattle.transcript.specs.declared.fault.Stop.{Stop}
use Rattle.transcript.specs.Reading.{stop, short, Front, ◌>>=◌, bytes_at, number_at, choice_by, choice_at, named, name_by, name_at, answer_at}

abbrev pub IsBytes : List ℕ → Type 0
IsBytes bytes = (i : ℕ) → get_or bytes i 0 < 256

pub IsBytes-drop : (n : ℕ) (bytes : List ℕ) → IsBytes bytes → IsBytes (drop n bytes)
IsBytes-drop n bytes h i = rw get_or-drop (h (n + i))

pub IsBytes-take : (n : ℕ) (bytes : List ℕ) → IsBytes bytes → IsBytes (take n bytes)
IsBytes-take n bytes h i =
    elim (cases_lt i n) [
      | inl lt ↦ rw (get_or-take n bytes i 0 lt) (h i)
      | inr le ↦ rw (get_or_past (take n bytes) i 0 (omega (arith, length-take n bytes))) (omega arith)
    ]

pub IsBytes-rest : (byte : ℕ) (bytes : List ℕ) → IsBytes (byte ∷ bytes) → IsBytes bytes
IsBytes-rest byte bytes h i = h (suc i)

-- the value of a step that did not fail
pub bind_ok : {A B E : Type 0} (r : Result A E) (f : A → Result B E) (y : B) → (r >>= f) ≡ Ok y → (x : A) × (r ≡ Ok x) × (f x ≡ Ok y)
bind_ok (Ok x) f y e = (x, refl, e)
bind_ok (Err d) f y e = absurd cc

-- a test that did not fail
pub guard_ok : {A E : Type 0} (b : Bool) (d : E) (r : Result A E) (y : A) → cond b (Err d) r ≡ Ok y → (b ≡ false) × (r ≡ Ok y)
guard_ok true d r y e = absurd cc
guard_ok false d r y e = (refl, e)

pub guard_met : {A E : Type 0} (b : Bool) (d : E) (r : Result A E) (y : A) → cond b r (Err d) ≡ Ok y → (b ≡ true) × (r ≡ Ok y)
guard_met true d r y e = (refl, e)
guard_met false d r y e = absurd cc

abbrev pub done : {A : Type 0} → A → Result A Stop
done x = Ok x

pub ok_is : {A : Type 0} (x y : A) → done x ≡ done y → x ≡ y
ok_is x y e = cc

-- what a reader took from the front
pub record Split (bytes text rest : List ℕ) : Type 0 where
  pub parts : bytes ≡ text ++ rest
  pub rest_fits : IsBytes rest

pub Split-then : (a x b y c : List ℕ) → Split a x b → Split b y c → Split a (x ++ y) c
Split-then a x b y c p q = record { parts = p.parts ∙ ap (λ (t : List ℕ). x ++ t) q.parts ∙ sym (append_assoc x y c); rest_fits = q.rest_fits }

pub behind_tag : (tag : ℕ) (bytes text rest : List ℕ) → Split bytes text rest → Split (tag ∷ bytes) (tag ∷ text) rest
behind_tag tag bytes text rest front = record { parts = ap (λ (t : List ℕ). tag ∷ t) front.parts; rest_fits = front.rest_fits }

-- ---- as many bytes as are wanted

pub bytes_take : (count : ℕ) (bytes : List ℕ) (x : List ℕ × List ℕ) → IsBytes bytes → bytes_at count bytes ≡ Ok x → Split bytes x.0 x.1 × (length x.0 ≡ count)
bytes_take count bytes x fits e =
    let g = guard_ok (ltb (length bytes) count) short (done (take count bytes, drop count bytes)) x e in
    let long : count ≤ length bytes = ltb-false _ _ g.0 in
    let found : Split bytes (take count bytes) (drop count bytes) = record { parts = sym (take-append-drop count bytes); rest_fits = IsBytes-drop count bytes fits } in
    subst (λ (p : List ℕ × List ℕ). Split bytes p.0 p.1 × (length p.0 ≡ count)) (ok_is (take count bytes, drop count bytes) x g.1) (found, omega (arith, length-take count bytes))

pub bytes_again : (count : ℕ) (text rest : List ℕ) → length text ≡ count → bytes_at count (text ++ rest) ≡ Ok (text, rest)
bytes_again count text rest len =
    let long : ltb (length (text ++ rest)) count ≡ false = le-ltb _ _ (omega (arith, length-append text rest)) in
    rw (long, take_at text rest count len, drop_at text rest count len) refl

-- ---- numbers

pub record IsWide (w : Width) (limit : ℕ) : Type 0 where
  pub len : (n : ℕ) → length (to_be_bytes w n) ≡ byte_len w
  pub back : (bytes : List ℕ) → length bytes ≡ byte_len w → IsBytes bytes → to_be_bytes w (from_be_bytes w bytes) ≡ bytes
  pub again : (n : ℕ) → n < limit → from_be_bytes w (to_be_bytes w n) ≡ n
  pub below : (bytes : List ℕ) → IsBytes bytes → from_be_bytes w bytes < limit

pub wide16 : IsWide w16 (2 ^ 16)
wide16 = record {
  len = λ n. refl;
  back = λ bytes len fits. be_bytes_2 bytes _ len fits refl;
  again = λ n lt. from_be_bytes-to_be_bytes_2 n lt;
  below = λ bytes fits. omega (arith, fits 0, fits 1);
}

pub wide32 : IsWide w32 (2 ^ 32)
wide32 = record {
  len = λ n. refl;
  back = λ bytes len fits. be_bytes_4 bytes _ len fits refl;
  again = λ n lt. from_be_bytes-to_be_bytes_4 n lt;
  below = λ bytes fits. omega (arith, fits 0, fits 1, fits 2, fits 3);
}

prefix_fits : (bytes text rest : List ℕ) → bytes ≡ text ++ rest → IsBytes bytes → IsBytes text
prefix_fits bytes text rest e fits =
    let k : take (length text) bytes ≡ text = rw e (take_at text rest (length text) refl) in
    subst IsBytes k (IsBytes-take (length text) bytes fits)

pub number_takes : (w : Width) (limit : ℕ) (wide : IsWide w limit) (bytes : List ℕ) (x : ℕ × List ℕ) → IsBytes bytes → number_at w bytes ≡ Ok x → Split bytes (to_be_bytes w x.0) x.1 × (x.0 < limit)
number_takes w limit wide bytes x fits e =
    let b = bind_ok (bytes_at (byte_len w) bytes) (λ found. done (from_be_bytes w found.0, found.1)) x e in
    let t = bytes_take (byte_len w) bytes b.0 fits b.1 in
    let text_fits : IsBytes b.0.0 = prefix_fits bytes b.0.0 b.0.1 t.0.parts fits in
    let same : to_be_bytes w (from_be_bytes w b.0.0) ≡ b.0.0 = wide.back b.0.0 t.1 text_fits in
    subst (λ (p : ℕ × List ℕ). Split bytes (to_be_bytes w p.0) p.1 × (p.0 < limit)) (ok_is (from_be_bytes w b.0.0, b.0.1) x b.2)
    (subst (λ (text : List ℕ). Split bytes text b.0.1) (sym same) t.0, wide.below b.0.0 text_fits)

pub number_again : (w : Width) (limit : ℕ) (wide : IsWide w limit) (n : ℕ) (rest : List ℕ) → n < limit → number_at w (to_be_bytes w n ++ rest) ≡ Ok (n, rest)
number_again w limit wide n rest lt =
    ap (λ (r : Front (List ℕ)). r >>= λ found. done (from_be_bytes w found.0, found.1)) (bytes_again (byte_len w) (to_be_bytes w n) rest (wide.len n)) ∙ ap (λ (k : ℕ). done (k, rest)) (wide.again n lt)

-- ---- one of two, the second with a number

abbrev pub choice_bytes : Width → Option ℕ → List ℕ
choice_bytes w None = 0 ∷ []
choice_bytes w (Some n) = 1 ∷ to_be_bytes w n

abbrev pub ChoiceFits : ℕ → Option ℕ → Type 0
ChoiceFits limit None = Unit {0}
ChoiceFits limit (Some n) = n < limit

some_takes : (w : Width) (limit : ℕ) (wide : IsWide w limit) (bytes : List ℕ) (x : Option ℕ × List ℕ) → IsBytes bytes → (number_at w bytes >>= λ number. done (Some number.0, number.1)) ≡ Ok x → Split (1 ∷ bytes) (choice_bytes w x.0) x.1 × ChoiceFits limit x.0
some_takes w limit wide bytes x fits e =
    let b = bind_ok (number_at w bytes) (λ number. done (Some number.0, number.1)) x e in
    let t = number_takes w limit wide bytes b.0 fits b.1 in
    subst (λ (p : Option ℕ × List ℕ). Split (1 ∷ bytes) (choice_bytes w p.0) p.1 × ChoiceFits limit p.0) (ok_is (Some b.0.0, b.0.1) x b.2) (behind_tag 1 bytes (to_be_bytes w b.0.0) b.0.1 t.0, t.1)

choice_takes_by : (w : Width) (limit : ℕ) (wide : IsWide w limit) (byte : ℕ) (bytes : List ℕ) (x : Option ℕ × List ℕ) → IsBytes bytes → choice_by w byte bytes ≡ Ok x → Split (byte ∷ bytes) (choice_bytes w x.0) x.1 × ChoiceFits limit x.0
unfolding choice_by
choice_takes_by w limit wide zero bytes x fits e =
    subst (λ (p : Option ℕ × List ℕ). Split (0 ∷ bytes) (choice_bytes w p.0) p.1 × ChoiceFits limit p.0) (ok_is (None, bytes) x e) (record { parts = refl; rest_fits = fits }, tt)
choice_takes_by w limit wide (suc zero) bytes x fits e = some_takes w limit wide bytes x fits e
choice_takes_by w limit wide (suc (suc more)) bytes x fits e = absurd cc

pub choice_takes : (w : Width) (limit : ℕ) (wide : IsWide w limit) (bytes : List ℕ) (x : Option ℕ × List ℕ) → IsBytes bytes → choice_at w bytes ≡ Ok x → Split bytes (choice_bytes w x.0) x.1 × ChoiceFits limit x.0
unfolding choice_at
choice_takes w limit wide [] x fits e = absurd cc
choice_takes w limit wide (byte ∷ bytes) x fits e = choice_takes_by w limit wide byte bytes x (IsBytes-rest byte bytes fits) e

pub choice_again : (w : Width) (limit : ℕ) (wide : IsWide w limit) (choice : Option ℕ) (rest : List ℕ) → ChoiceFits limit choice → choice_at w (choice_bytes w choice ++ rest) ≡ Ok (choice, rest)
unfolding choice_at choice_by
choice_again w limit wide None rest fits = refl
choice_again w limit wide (Some n) rest fits =
    ap (λ (r : Front ℕ). r >>= λ number. done (Some number.0, number.1)) (number_again w limit wide n rest fits)

-- ---- names

name_bounds : (text : List ℕ) → IsName text → (1 ≤ length text) × (length text ≤ 32)
name_bounds [] h = absurd cc
name_bounds (first ∷ rest) h =
    let parts = and_parts (is_small_letter first && nat_le (length rest) 31) (list_all is_name_byte rest) h in
    let short_rest : nat_le (length rest) 31 ≡ true = (and_parts (is_small_letter first) (nat_le (length rest) 31) parts.0).1 in
    (omega arith, grind (arith, nat_tests, short_rest))

-- a name is short
pub name_is_short : (text : List ℕ) → IsName text → length text ≤ 32
name_is_short text h = (name_bounds text h).1

pub name_fits : (text : List ℕ) → IsName text → (nat_le 1 (length text) && nat_le (length text) 32) ≡ true
name_fits text h = let b = name_bounds text h in grind (arith, nat_tests, b.0, b.1)

name_takes_by : (count : ℕ) (bytes : List ℕ) (x : List ℕ × List ℕ) → IsBytes bytes → name_by count bytes ≡ Ok x → Split (count ∷ bytes) (length x.0 ∷ x.0) x.1 × IsName x.0
unfolding name_by named
name_takes_by count bytes x fits e =
    let g = guard_met (nat_le 1 count && nat_le count 32) (stop Length (suc (length bytes))) (bytes_at count bytes >>= λ found. named bytes found) x e in
    let b = bind_ok (bytes_at count bytes) (λ found. named bytes found) x g.1 in
    let t = bytes_take count bytes b.0 fits b.1 in
    let n = guard_met (is_name b.0.0) (stop Name (length bytes)) (done b.0) x b.2 in
    subst (λ (p : List ℕ × List ℕ). Split (count ∷ bytes) (length p.0 ∷ p.0) p.1 × IsName p.0) (ok_is b.0 x n.1)
    (subst (λ (k : ℕ). Split (count ∷ bytes) (k ∷ b.0.0) b.0.1) (sym t.1) (behind_tag count bytes b.0.0 b.0.1 t.0), n.0)

pub name_takes : (bytes : List ℕ) (x : List ℕ × List ℕ) → IsBytes bytes → name_at bytes ≡ Ok x → Split bytes (length x.0 ∷ x.0) x.1 × IsName x.0
unfolding name_at
name_takes [] x fits e = absurd cc
name_takes (count ∷ bytes) x fits e = name_takes_by count bytes x (IsBytes-rest count bytes fits) e

pub name_again : (text rest : List ℕ) → IsName text → name_at (length text ∷ (text ++ rest)) ≡ Ok (text, rest)
unfolding name_at name_by named
name_again text rest is = rw (name_fits text is, bytes_again (length text) text rest refl) (rw is refl)

-- ---- answers

pub answer_takes : (bytes : List ℕ) (x : List ℕ × List ℕ) → IsBytes bytes → answer_at bytes ≡ Ok x → Split bytes (be16 (length x.0) ++ x.0) x.1 × FitsAnswer x.0
unfolding answer_at
answer_takes bytes x fits e =
    let b = bind_ok (number_at w16 bytes) (λ count. cond (ltb 1024 count.0) (Err (stop Length (length bytes))) (bytes_at count.0 count.1)) x e in
    let t = number_takes w16 (2 ^ 16) wide16 bytes b.0 fits b.1 in
    let g = guard_ok (ltb 1024 b.0.0) (stop Length (length bytes)) (bytes_at b.0.0 b.0.1) x b.2 in
    let few : b.0.0 ≤ 1024 = ltb-false _ _ g.0 in
    let u = bytes_take b.0.0 b.0.1 x t.0.rest_fits g.1 in
    let both = Split-then bytes (be16 b.0.0) b.0.1 x.0 x.1 t.0 u.0 in
    (subst (λ (k : ℕ). Split bytes (be16 k ++ x.0) x.1) (sym u.1) both, omega (arith, u.1))

pub answer_again : (answer rest : List ℕ) → FitsAnswer answer → answer_at (be16 (length answer) ++ (answer ++ rest)) ≡ Ok (answer, rest)
unfolding answer_at
answer_again answer rest fits =
    let few : ltb 1024 (length answer) ≡ false = le-ltb _ _ fits in
    rw (number_again w16 (2 ^ 16) wide16 (length answer) (answer ++ rest) (omega arith), few) (bytes_again (length answer) answer rest refl)
