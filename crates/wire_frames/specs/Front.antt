-- What stands at the front of bytes, as the code finds it.
use Rattle.std.specs.Prelude.{◌≡◌, ◌+◌, ◌<◌, ◌≤◌, ℕ, List, length, drop, slice_index}
use Rattle.wire_frames.specs.declared.front.Front.{Front}
use Rattle.wire_frames.specs.declared.front.Front.TheVariants.{Part, BadLength, BadKind, Whole}
use Rattle.wire_frames.specs.Reading.{length_field, IsLength, HasBadLength, HasBadKind, IsPart}

-- a byte is there, and is that of no kind
pub record IsOtherKind (behind : List ℕ) : Type 0 where
  pub there : 0 < length behind
  pub no_request : ¬ (slice_index behind 0 ≡ 1)
  pub no_reply : ¬ (slice_index behind 0 ≡ 2)

-- the bytes are fewer than the frame has that they begin
pub record IsShort (bytes : List ℕ) : Type 0 where
  pub there : 4 ≤ length bytes
  pub count : IsLength (length_field bytes)
  pub few : length bytes < length_field bytes + 4
  pub kind : ¬ IsOtherKind (drop 4 bytes)

-- a frame of so many bytes stands at the front
pub record IsWhole (bytes : List ℕ) (size : ℕ) : Type 0 where
  pub count : IsLength (length_field bytes)
  pub size_is : size ≡ length_field bytes + 4
  pub enough : size ≤ length bytes
  pub kind : ¬ IsOtherKind (drop 4 bytes)

abbrev pub IsFront : List ℕ → Front → Type 0
IsFront bytes Part = IsPart bytes
IsFront bytes BadLength = HasBadLength bytes
IsFront bytes BadKind = HasBadKind bytes
IsFront bytes (Whole size) = IsWhole bytes size
