-- What a reader of frames stands for, and what it answers.
use Rattle.std.specs.Prelude.{◌≡◌, ◌+◌, ◌<◌, ◌≤◌, ◌⊎◌, ℕ, List, ◌++◌, length, take, slice_index, Result, Ok, Err}
use Rattle.std.specs.Int.{from_be_bytes, w32}
use Rattle.wire_frames.specs.declared.frame.Frame.{Frame}
use Rattle.wire_frames.specs.declared.frame.TheConstants.{LENGTH_LEAST, LENGTH_MOST}
use Rattle.wire_frames.specs.declared.reader.NextFrame.{NextFrame}
use Rattle.wire_frames.specs.declared.reader.NextFrame.TheVariants.{Whole, More}
use Rattle.wire_frames.specs.declared.reader.FrameError.{FrameError}
use Rattle.wire_frames.specs.declared.reader.FrameError.TheVariants.{BadFrame, NoMemory}
use Rattle.wire_frames.specs.Frames.{frame_bytes, frames_bytes, IsFrame, AreFrames}
use Rattle.wire_frames.specs.Standing.{Reading}

-- the length field of bytes of which there are four or more
abbrev pub length_field : List ℕ → ℕ
length_field bytes = from_be_bytes w32 (take 4 bytes)

-- a length field may say this
pub record IsLength (count : ℕ) : Type 0 where
  pub least : LENGTH_LEAST ≤ count
  pub most : count ≤ LENGTH_MOST

-- in the place of a frame stands a length that is wholly there and that no frame has
pub record HasBadLength (bytes : List ℕ) : Type 0 where
  pub there : 4 ≤ length bytes
  pub out : ¬ IsLength (length_field bytes)

-- the length is one of a frame, and behind it stands the byte of no kind
pub record HasBadKind (bytes : List ℕ) : Type 0 where
  pub there : 5 ≤ length bytes
  pub count : IsLength (length_field bytes)
  pub no_request : ¬ (slice_index bytes 4 ≡ 1)
  pub no_reply : ¬ (slice_index bytes 4 ≡ 2)

-- bytes whose first has this offset are bad here: at the first byte of the length, or at that of the kind
abbrev pub IsBadAt : Reading → ℕ → Type 0
IsBadAt reading at = (HasBadLength reading.rest × (at ≡ reading.at)) ⊎ (HasBadKind reading.rest × (at ≡ reading.at + 4))

-- bytes are a proper prefix of the bytes of a frame
pub record IsProperPrefix (bytes : List ℕ) : Type 0 where
  pub frame : Frame
  pub is_frame : IsFrame frame
  pub behind : List ℕ
  pub some : 0 < length behind
  pub whole : frame_bytes frame ≡ bytes ++ behind

-- more bytes are wanted: there are fewer than four, or they are a proper prefix of a frame's
abbrev pub IsPart : List ℕ → Type 0
IsPart bytes = (length bytes < 4) ⊎ IsProperPrefix bytes

-- a frame was at the front, and is taken
pub record Takes (old : Reading) (frame : Frame) (new : Reading) : Type 0 where
  pub is_frame : IsFrame frame
  pub bytes : old.rest ≡ frame_bytes frame ++ new.rest
  pub at : new.at ≡ old.at + length (frame_bytes frame)

-- the next frame is taken; in all other cases the reader stays as it was
abbrev pub Reads : Reading → Result NextFrame FrameError → Reading → Type 0
Reads old (Ok (Whole frame)) new = Takes old frame new
Reads old (Ok More) new = IsPart old.rest × (new ≡ old)
Reads old (Err (BadFrame at)) new = IsBadAt old at × (new ≡ old)
Reads old (Err NoMemory) new = new ≡ old

-- the same where a frame stands at the front
abbrev pub Gives : Reading → Result NextFrame FrameError → Reading → Type 0
Gives old (Ok (Whole frame)) new = Takes old frame new
Gives old (Ok More) new = ⊥
Gives old (Err (BadFrame at)) new = ⊥
Gives old (Err NoMemory) new = new ≡ old

-- these bytes begin with a frame
pub record BeginsWithFrame (bytes : List ℕ) : Type 0 where
  pub frame : Frame
  pub is_frame : IsFrame frame
  pub behind : List ℕ
  pub bytes_are : bytes ≡ frame_bytes frame ++ behind

-- Bytes come to these frames, and this is left behind them: no frame stands at its front.
pub record ComesTo (bytes : List ℕ) (frames : List Frame) (rest : List ℕ) : Type 0 where
  pub are_frames : AreFrames frames
  pub parts : bytes ≡ frames_bytes frames ++ rest
  pub ends : ¬ BeginsWithFrame rest
