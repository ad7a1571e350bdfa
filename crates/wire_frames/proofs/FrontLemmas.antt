-- What stands at the front of bytes says whether they are part of a frame.
use Rattle.std.proofs.Common.{◌≡◌, ℕ, zero, suc, ◌+◌, ◌-◌, ◌<◌, ◌≤◌, Bool, true, false, List, [], ◌∷◌, ◌++◌, length, get_or, take, drop, replicate, Result, Ok, Err, refl, sym, ap, subst, ◌∙◌, arith, ◌⊎◌, inl, inr}
use Rattle.std.specs.Int.{w32, from_be_bytes}
use Rattle.std.proofs.lemmas.Bool.{cases_lt}
use Rattle.std.proofs.lemmas.List.{length-append, length-replicate, length-take, length-drop, get_or_append_left, get_or-drop, take-append-le, drop-append-le, take-append-drop}
use Rattle.wire_frames.specs.declared.frame.Frame.{Frame}
use Rattle.wire_frames.specs.Frames.{kind_byte, frame_bytes, IsFrame}
use Rattle.wire_frames.specs.Standing.{Reading}
use Rattle.wire_frames.specs.Reading.{length_field, IsLength, HasBadLength, HasBadKind, IsBadAt, IsProperPrefix, IsPart, Takes}
use Rattle.wire_frames.specs.Front.{IsOtherKind, IsShort, IsWhole}
use Rattle.wire_frames.proofs.FrameLemmas.{IsBytes, IsBytes-take, frame_behind, whole_again, Fronts, frame_fronts, frame_size, count_of, is_length}

-- ---- bytes that are too few are filled up with the byte 1

ones-fits : (n i : ℕ) → get_or (replicate n 1) i 0 < 256
ones-fits zero i = omega arith
ones-fits (suc n) zero = omega arith
ones-fits (suc n) (suc i) = ones-fits n i

filled-fits : (bytes : List ℕ) (n : ℕ) → IsBytes bytes → IsBytes (bytes ++ replicate n 1)
filled-fits [] n fits i = ones-fits n i
filled-fits (byte ∷ bytes) n fits zero = fits zero
filled-fits (byte ∷ bytes) n fits (suc i) = filled-fits bytes n (λ (k : ℕ). fits (suc k)) i

filled-kind : (behind : List ℕ) (n : ℕ) → 0 < n → (IsOtherKind behind → ⊥) → IsOtherKind (behind ++ replicate n 1) → ⊥
filled-kind [] zero some never is = omega (arith, some)
filled-kind [] (suc n) some never is = is.no_request refl
filled-kind (kind ∷ behind) n some never is = never (record { there = omega arith; no_request = is.no_request; no_reply = is.no_reply })

field_kept : (bytes more : List ℕ) → 4 ≤ length bytes → length_field (bytes ++ more) ≡ length_field bytes
field_kept bytes more long = ap (λ (s : List ℕ). from_be_bytes w32 s) (take-append-le 4 bytes more long)

pub short_part : (bytes : List ℕ) → IsBytes bytes → IsShort bytes → IsProperPrefix bytes
short_part bytes fits short =
    let n : ℕ = length_field bytes + 4 - length bytes in
    let whole : List ℕ = bytes ++ replicate n 1 in
    let some : 0 < n = omega (arith, short.few) in
    let long : length whole ≡ length_field bytes + 4 = omega (arith, length-append bytes (replicate n 1), length-replicate {A = ℕ} n 1, short.few) in
    let field : length_field whole ≡ length_field bytes = field_kept bytes (replicate n 1) short.there in
    let is : IsWhole whole (length whole) = record {
      count = subst IsLength (sym field) short.count;
      size_is = long ∙ ap (λ (k : ℕ). k + 4) (sym field);
      enough = omega arith;
      kind = λ other. filled-kind (drop 4 bytes) n some short.kind (subst IsOtherKind (drop-append-le 4 bytes (replicate n 1) short.there) other);
    } in
    let again : IsFrame (frame_behind (get_or whole 4 0) (drop 5 whole)) × (frame_bytes (frame_behind (get_or whole 4 0) (drop 5 whole)) ≡ whole) =
    whole_again whole (length whole) (filled-fits bytes n fits) is refl in
    record { frame = frame_behind (get_or whole 4 0) (drop 5 whole); is_frame = again.0; behind = replicate n 1; some = omega (arith, length-replicate {A = ℕ} n 1, some); whole = again.1 }

pub part_of_front : (bytes : List ℕ) → IsBytes bytes → (length bytes < 4) ⊎ IsShort bytes → IsPart bytes
part_of_front bytes fits (inl few) = inl few
part_of_front bytes fits (inr short) = inr (short_part bytes fits short)

-- ---- a part of a frame is nothing else

-- what a prefix of a frame's bytes says
pub record Prefixes (bytes : List ℕ) : Type 0 where
  pub count : IsLength (length_field bytes)
  pub few : length bytes < length_field bytes + 4
  pub kind : 5 ≤ length bytes → (get_or bytes 4 0 ≡ 1) ⊎ (get_or bytes 4 0 ≡ 2)

kind_cases : (reply : Bool) (n : ℕ) → n ≡ kind_byte reply → (n ≡ 1) ⊎ (n ≡ 2)
kind_cases true n is = inr is
kind_cases false n is = inl is

pub prefixes : (bytes : List ℕ) → 4 ≤ length bytes → IsProperPrefix bytes → Prefixes bytes
prefixes bytes long is =
    let fronts : Fronts is.frame (frame_bytes is.frame) =
    frame_fronts is.frame is.is_frame in
    let field : length_field bytes ≡ count_of is.frame = sym (field_kept bytes is.behind long) ∙ ap length_field (sym is.whole) ∙ fronts.field in
    let size : length bytes + length is.behind ≡ count_of is.frame + 4 =
    sym (length-append bytes is.behind) ∙ ap (λ (s : List ℕ). length s) (sym is.whole) ∙ frame_size is.frame is.is_frame in
    record {
      count = subst IsLength (sym field) (is_length is.frame is.is_frame);
      few = omega (arith, field, size, is.some);
      kind = λ five. kind_cases is.frame.reply (get_or bytes 4 0)
          (sym (get_or_append_left bytes is.behind 0 4 (omega (arith, five))) ∙ ap (λ (s : List ℕ). get_or s 4 0) (sym is.whole) ∙ fronts.kind);
    }

pub no_bad_length : (bytes : List ℕ) → IsPart bytes → HasBadLength bytes → ⊥
no_bad_length bytes (inl few) bad = omega (arith, few, bad.there)
no_bad_length bytes (inr is) bad = bad.out (prefixes bytes bad.there is).count

pub no_bad_kind : (bytes : List ℕ) → IsPart bytes → HasBadKind bytes → ⊥
no_bad_kind bytes (inl few) bad = omega (arith, few, bad.there)
no_bad_kind bytes (inr is) bad =
    elim ((prefixes bytes (omega (arith, bad.there)) is).kind bad.there) [ inl one ↦ bad.no_request one | inr two ↦ bad.no_reply two ]

pub no_whole : (bytes : List ℕ) (size : ℕ) → IsPart bytes → IsWhole bytes size → ⊥
no_whole bytes size (inl few) whole = omega (arith, few, whole.size_is, whole.enough)
no_whole bytes size (inr is) whole =
    omega (arith, (prefixes bytes (omega (arith, whole.size_is, whole.enough)) is).few, whole.size_is, whole.enough)

pub no_bad_part : (old : Reading) (at : ℕ) → IsPart old.rest → IsBadAt old at → ⊥
no_bad_part old at part (inl bad) = no_bad_length old.rest part bad.0
no_bad_part old at part (inr bad) = no_bad_kind old.rest part bad.0

-- a frame that is whole is not bad
pub no_bad_whole : (old : Reading) (size at : ℕ) → IsWhole old.rest size → IsBadAt old at → ⊥
no_bad_whole old size at whole (inl bad) = bad.0.out whole.count
no_bad_whole old size at whole (inr bad) =
    whole.kind (record { there = omega (arith, length-drop 4 old.rest, bad.0.there); no_request = λ one. bad.0.no_request (sym (get_or-drop 4 old.rest 0 0) ∙ one); no_reply = λ two. bad.0.no_reply (sym (get_or-drop 4 old.rest 0 0) ∙ two) })

-- the frame at the front is taken
pub taken : (old new : Reading) (frame : Frame) (size : ℕ) → size ≤ length old.rest → IsFrame frame → frame_bytes frame ≡ take size old.rest →
    new ≡ record { at = old.at + size; rest = drop size old.rest } → Takes old frame new
taken old new frame size enough is bytes new_is = record {
  is_frame = is;
  bytes = sym (ap (λ (s : List ℕ). s ++ new.rest) bytes ∙ ap (λ (r : Reading). take size old.rest ++ r.rest) new_is ∙ take-append-drop size old.rest);
  at = ap (λ (r : Reading). r.at) new_is ∙ ap (λ (k : ℕ). old.at + k) (sym (ap (λ (s : List ℕ). length s) bytes ∙ omega (arith, length-take size old.rest, enough)));
}
