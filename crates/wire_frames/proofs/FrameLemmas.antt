-- The bytes of a frame are read again, and begin those of no other.
use Rattle.std.proofs.Common.{◌≡◌, ℕ, zero, suc, ◌+◌, ◌-◌, ◌^◌, ◌<◌, ◌≤◌, Bool, true, false, nat_eq, List, [], ◌∷◌, ◌++◌, length, get_or, take, drop, refl, sym, ap, subst, ◌∙◌, append_assoc, arith, inl, inr}
use Rattle.std.specs.Int.{w32, from_be_bytes, to_be_bytes}
use Rattle.std.proofs.lemmas.Bool.Decides.{eqb_tells}
use Rattle.std.proofs.lemmas.List.{take-append-drop, length-append, length-take, length-drop, get_or-drop, get_or_past, get_or_append_left, take-append-le, append_cancel_left}
use Rattle.std.proofs.lemmas.Nat.{be_bytes_4, from_be_bytes-to_be_bytes_4}
use Rattle.std.proofs.lemmas.List.{get_or-take}
use Rattle.std.proofs.lemmas.Bool.{cases_lt}
use Rattle.wire_frames.specs.declared.frame.Frame.{Frame}
use Rattle.wire_frames.specs.Frames.{be32, kind_byte, frame_bytes, IsFrame}
use Rattle.wire_frames.specs.Reading.{length_field, IsLength}
use Rattle.wire_frames.specs.Front.{IsOtherKind, IsWhole}

abbrev pub IsBytes : List ℕ → Type 0
IsBytes bytes = (i : ℕ) → get_or bytes i 0 < 256

pub IsBytes-drop : (n : ℕ) (bytes : List ℕ) → IsBytes bytes → IsBytes (drop n bytes)
IsBytes-drop n bytes h i = rw get_or-drop (h (n + i))

pub IsBytes-take : (n : ℕ) (bytes : List ℕ) → IsBytes bytes → IsBytes (take n bytes)
IsBytes-take n bytes h i =
    elim (cases_lt i n) [
      | inl lt ↦ rw (get_or-take n bytes i 0 lt) (h i)
      | inr le ↦ rw (get_or_past (take n bytes) i 0 (omega (arith, length-take n bytes))) (omega arith)
    ]

pub four_again : (bytes : List ℕ) (n : ℕ) → length bytes ≡ 4 → IsBytes bytes → n ≡ from_be_bytes w32 bytes → be32 n ≡ bytes
four_again bytes n four fits is = be_bytes_4 bytes n four fits is

pub four_below : (bytes : List ℕ) → IsBytes bytes → from_be_bytes w32 bytes < 2 ^ 32
four_below bytes fits = omega (arith, fits 0, fits 1, fits 2, fits 3)

-- the byte of a kind, read
pub kind_again : (kind : ℕ) (rest : List ℕ) → (IsOtherKind (kind ∷ rest) → ⊥) → kind_byte (nat_eq kind 2) ≡ kind
kind_again kind rest never =
    elim (eqb_tells kind 2) [
      | inl two ↦ rw two.0 (sym two.1)
      | inr other ↦ rw other.0 (one_left kind rest never other.1)
    ]
  where
    one_left : (kind : ℕ) (rest : List ℕ) → (IsOtherKind (kind ∷ rest) → ⊥) → (kind ≡ 2 → ⊥) → 1 ≡ kind
    one_left kind rest never two =
        elim (eqb_tells kind 1) [
          | inl one ↦ sym one.1
          | inr other ↦ absurd (never (record { there = omega (arith); no_request = other.1; no_reply = two }))
        ]

-- what follows the kind, read
pub fields_again : (rest : List ℕ) → IsBytes rest → 20 ≤ length rest →
    take 16 rest ++ (be32 (from_be_bytes w32 (take 4 (drop 16 rest))) ++ drop 4 (drop 16 rest)) ≡ rest
fields_again rest fits long =
    let four : length (take 4 (drop 16 rest)) ≡ 4 = omega (arith, length-take 4 (drop 16 rest), length-drop 16 rest) in
    let name : be32 (from_be_bytes w32 (take 4 (drop 16 rest))) ≡ take 4 (drop 16 rest) =
    four_again (take 4 (drop 16 rest)) _ four (IsBytes-take 4 (drop 16 rest) (IsBytes-drop 16 rest fits)) refl in
    ap (λ (s : List ℕ). take 16 rest ++ (s ++ drop 4 (drop 16 rest))) name
    ∙ ap (λ (s : List ℕ). take 16 rest ++ s) (take-append-drop 4 (drop 16 rest))
    ∙ take-append-drop 16 rest

abbrev pub frame_behind : ℕ → List ℕ → Frame
frame_behind kind rest =
    record { reply = nat_eq kind 2; nonce = take 16 rest; name = from_be_bytes w32 (take 4 (drop 16 rest)); bundle = drop 4 (drop 16 rest) }

pub frame_again : (four : List ℕ) (kind : ℕ) (rest : List ℕ) → length four ≡ 4 → IsBytes four → IsBytes rest →
    IsLength (from_be_bytes w32 four) → 1 + length rest ≡ from_be_bytes w32 four → (IsOtherKind (kind ∷ rest) → ⊥) →
    IsFrame (frame_behind kind rest) × (frame_bytes (frame_behind kind rest) ≡ four ++ (kind ∷ rest))
frame_again four kind rest four_long fits rest_fits count says never =
    let long : length (drop 4 (drop 16 rest)) + 20 ≡ length rest = omega (arith, length-drop 4 (drop 16 rest), length-drop 16 rest, count.least, says) in
    let sixteen : length (take 16 rest) ≡ 16 = omega (arith, length-take 16 rest, long) in
    let below : from_be_bytes w32 (take 4 (drop 16 rest)) < 2 ^ 32 = four_below (take 4 (drop 16 rest)) (IsBytes-take 4 (drop 16 rest) (IsBytes-drop 16 rest rest_fits)) in
    let small : length (drop 4 (drop 16 rest)) ≤ 262153 = omega (arith, count.most, says, long) in
    let head : be32 (21 + length (drop 4 (drop 16 rest))) ≡ four = four_again four _ four_long fits (omega (arith, says, long)) in (
      record { nonce = sixteen; name = below; fits = small },
      ap (λ (s : List ℕ). s ++ (kind_byte (nat_eq kind 2) ∷ (take 16 rest ++ (be32 (from_be_bytes w32 (take 4 (drop 16 rest))) ++ drop 4 (drop 16 rest))))) head
          ∙ ap (λ (s : List ℕ). four ++ s) (λ i. kind_again kind rest never i ∷ fields_again rest rest_fits (omega (arith, long)) i),
    )

-- bytes of which a frame takes all are its bytes
pub whole_again : (bytes : List ℕ) (size : ℕ) → IsBytes bytes → IsWhole bytes size → size ≡ length bytes →
    IsFrame (frame_behind (get_or bytes 4 0) (drop 5 bytes)) × (frame_bytes (frame_behind (get_or bytes 4 0) (drop 5 bytes)) ≡ bytes)
whole_again [] size fits is all = absurd (omega (arith, is.size_is, all, is.count.least))
whole_again (a ∷ []) size fits is all = absurd (omega (arith, is.size_is, all, is.count.least))
whole_again (a ∷ b ∷ []) size fits is all = absurd (omega (arith, is.size_is, all, is.count.least))
whole_again (a ∷ b ∷ c ∷ []) size fits is all = absurd (omega (arith, is.size_is, all, is.count.least))
whole_again (a ∷ b ∷ c ∷ d ∷ []) size fits is all = absurd (omega (arith, is.size_is, all, is.count.least))
whole_again (a ∷ b ∷ c ∷ d ∷ kind ∷ rest) size fits is all =
    frame_again (a ∷ b ∷ c ∷ d ∷ []) kind rest refl (IsBytes-take 4 (a ∷ b ∷ c ∷ d ∷ kind ∷ rest) fits) (IsBytes-drop 5 (a ∷ b ∷ c ∷ d ∷ kind ∷ rest) fits)
    is.count (omega (arith, is.size_is, all)) is.kind

-- ---- what stands at the front of a frame's bytes

-- the length field of a frame says this
abbrev pub count_of : Frame → ℕ
count_of frame = 21 + length frame.bundle

-- what the front of a frame's bytes says of it
pub record Fronts (frame : Frame) (bytes : List ℕ) : Type 0 where
  pub field : length_field bytes ≡ count_of frame
  pub kind : get_or bytes 4 0 ≡ kind_byte frame.reply

pub frame_fronts : (frame : Frame) → IsFrame frame → Fronts frame (frame_bytes frame)
frame_fronts frame is = record {
  field = from_be_bytes-to_be_bytes_4 (count_of frame) (omega (arith, is.fits));
  kind = refl;
}

pub frame_fronts_more : (frame : Frame) (more : List ℕ) → IsFrame frame → Fronts frame (frame_bytes frame ++ more)
frame_fronts_more frame more is = record {
  field = from_be_bytes-to_be_bytes_4 (count_of frame) (omega (arith, is.fits));
  kind = refl;
}

pub frame_size : (frame : Frame) → IsFrame frame → length (frame_bytes frame) ≡ count_of frame + 4
frame_size frame is = omega (arith, is.nonce, length-append frame.nonce (be32 frame.name ++ frame.bundle))

pub is_length : (frame : Frame) → IsFrame frame → IsLength (count_of frame)
is_length frame is = record { least = omega arith; most = omega (arith, is.fits) }

-- ---- no frame's bytes begin another's

pub parts_same : (xs ys u v : List ℕ) → length xs ≡ length ys → xs ++ u ≡ ys ++ v → (xs ≡ ys) × (u ≡ v)
parts_same [] [] u v len e = (refl, e)
parts_same [] (y ∷ ys) u v len e = absurd (omega (arith, len))
parts_same (x ∷ xs) [] u v len e = absurd (omega (arith, len))
parts_same (x ∷ xs) (y ∷ ys) u v len e =
    let more : (xs ≡ ys) × (u ≡ v) = parts_same xs ys u v (omega (arith, len)) (cc) in
    let heads : x ≡ y = cc in
    ((λ i. heads i ∷ more.0 i), more.1)

pub kind_one : (left right : Bool) → kind_byte left ≡ kind_byte right → left ≡ right
kind_one true true e = refl
kind_one true false e = absurd (omega (arith, e))
kind_one false true e = absurd (omega (arith, e))
kind_one false false e = refl

pub frame_same : (left right : Frame) → left.reply ≡ right.reply → left.nonce ≡ right.nonce → left.name ≡ right.name → left.bundle ≡ right.bundle → left ≡ right
frame_same left right reply nonce name bundle = λ i. record { reply = reply i; nonce = nonce i; name = name i; bundle = bundle i }

-- what stands behind the kind
abbrev tail : Frame → List ℕ → List ℕ
tail frame x = frame.nonce ++ (be32 frame.name ++ (frame.bundle ++ x))

tail_is : (frame : Frame) (x : List ℕ) → drop 5 (frame_bytes frame ++ x) ≡ tail frame x
tail_is frame x =
    append_assoc frame.nonce (be32 frame.name ++ frame.bundle) x
    ∙ ap (λ (s : List ℕ). frame.nonce ++ s) (append_assoc (be32 frame.name) frame.bundle x)

pub one_frame : (left right : Frame) (x y : List ℕ) → IsFrame left → IsFrame right → frame_bytes left ++ x ≡ frame_bytes right ++ y → (left ≡ right) × (x ≡ y)
one_frame left right x y is_left is_right e =
    let l : Fronts left (frame_bytes left ++ x) = frame_fronts_more left x is_left in
    let r : Fronts right (frame_bytes right ++ y) = frame_fronts_more right y is_right in
    let counts : count_of left ≡ count_of right = sym l.field ∙ ap length_field e ∙ r.field in
    let kinds : left.reply ≡ right.reply = kind_one left.reply right.reply (sym l.kind ∙ ap (λ (s : List ℕ). get_or s 4 0) e ∙ r.kind) in
    let tails : tail left x ≡ tail right y = sym (tail_is left x) ∙ ap (λ (s : List ℕ). drop 5 s) e ∙ tail_is right y in
    let nonces : (left.nonce ≡ right.nonce) × (be32 left.name ++ (left.bundle ++ x) ≡ be32 right.name ++ (right.bundle ++ y)) =
    parts_same left.nonce right.nonce _ _ (is_left.nonce ∙ sym is_right.nonce) tails in
    let names : (be32 left.name ≡ be32 right.name) × (left.bundle ++ x ≡ right.bundle ++ y) =
    parts_same (be32 left.name) (be32 right.name) _ _ refl nonces.1 in
    let bundles : (left.bundle ≡ right.bundle) × (x ≡ y) = parts_same left.bundle right.bundle x y (omega (arith, counts)) names.1 in
    let name : left.name ≡ right.name =
    sym (from_be_bytes-to_be_bytes_4 left.name is_left.name) ∙ ap (λ (s : List ℕ). from_be_bytes w32 s) names.0 ∙ from_be_bytes-to_be_bytes_4 right.name is_right.name in
    (frame_same left right kinds nonces.0 name bundles.0, bundles.1)
