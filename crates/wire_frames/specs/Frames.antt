-- The bytes of a frame. They are this project's own.
use Rattle.std.specs.Prelude.{◌≡◌, ◌+◌, ◌^◌, ◌<◌, ◌≤◌, ℕ, Bool, true, false, List, [], ◌∷◌, ◌++◌, length}
use Rattle.std.specs.Int.{to_be_bytes, w32}
use Rattle.wire_frames.specs.declared.frame.Frame.{Frame}
use Rattle.wire_frames.specs.declared.frame.TheConstants.{LENGTH_LEAST, BUNDLE_MOST}

-- a number as four bytes, the highest first
abbrev pub be32 : ℕ → List ℕ
be32 n = to_be_bytes w32 n

-- the byte of a reply, and of a request
abbrev pub kind_byte : Bool → ℕ
kind_byte true = 2
kind_byte false = 1

-- the bytes of a frame: the length of what follows it, the kind, the nonce, the name, the bundle
abbrev pub frame_bytes : Frame → List ℕ
frame_bytes frame = be32 (LENGTH_LEAST + length frame.bundle) ++ (kind_byte frame.reply ∷ (frame.nonce ++ (be32 frame.name ++ frame.bundle)))

-- the nonce has 16 bytes, the name fits four bytes, and the bundle fits a frame
pub record IsFrame (frame : Frame) : Type 0 where
  pub nonce : length frame.nonce ≡ 16
  pub name : frame.name < 2 ^ 32
  pub fits : length frame.bundle ≤ BUNDLE_MOST

-- frames one after the other
abbrev pub frames_bytes : List Frame → List ℕ
frames_bytes [] = []
frames_bytes (frame ∷ frames) = frame_bytes frame ++ frames_bytes frames

abbrev pub AreFrames : List Frame → Type 0
AreFrames [] = Unit {0}
AreFrames (frame ∷ frames) = IsFrame frame × AreFrames frames
