-- Bytes come to one list of frames, however they are cut.
use Rattle.std.proofs.Common.{◌≡◌, ℕ, List, [], ◌∷◌, ◌++◌, refl, sym, ap, ◌∙◌, append_assoc}
use Rattle.wire_frames.specs.declared.frame.Frame.{Frame}
use Rattle.wire_frames.specs.Frames.{frame_bytes, frames_bytes, IsFrame, AreFrames}
use Rattle.wire_frames.specs.Reading.{BeginsWithFrame, ComesTo}
use Rattle.wire_frames.proofs.FrameLemmas.{one_frame}

begins : (frame : Frame) (frames : List Frame) (bytes left : List ℕ) → IsFrame frame → bytes ≡ frames_bytes (frame ∷ frames) ++ left → BeginsWithFrame bytes
begins frame frames bytes left is e =
    record { frame = frame; is_frame = is; behind = frames_bytes frames ++ left; bytes_are = e ∙ append_assoc (frame_bytes frame) (frames_bytes frames) left }

same : (frames others : List Frame) (rest left : List ℕ) → AreFrames frames → AreFrames others → (BeginsWithFrame rest → ⊥) → (BeginsWithFrame left → ⊥) →
    frames_bytes frames ++ rest ≡ frames_bytes others ++ left → (frames ≡ others) × (rest ≡ left)
same [] [] rest left are also never none e = (refl, e)
same [] (other ∷ others) rest left are also never none e = absurd (never (begins other others rest left also.0 e))
same (frame ∷ frames) [] rest left are also never none e = absurd (none (begins frame frames left rest are.0 (sym e)))
same (frame ∷ frames) (other ∷ others) rest left are also never none e =
    let one : (frame ≡ other) × (frames_bytes frames ++ rest ≡ frames_bytes others ++ left) =
    one_frame frame other (frames_bytes frames ++ rest) (frames_bytes others ++ left) are.0 also.0
    (sym (append_assoc (frame_bytes frame) (frames_bytes frames) rest) ∙ e ∙ append_assoc (frame_bytes other) (frames_bytes others) left) in
    let more : (frames ≡ others) × (rest ≡ left) = same frames others rest left are.1 also.1 never none one.1 in
    ((λ i. one.0 i ∷ more.0 i), more.1)

pub one_way : (bytes : List ℕ) (frames others : List Frame) (rest left : List ℕ) → ComesTo bytes frames rest → ComesTo bytes others left → (frames ≡ others) × (rest ≡ left)
one_way bytes frames others rest left is also =
    same frames others rest left is.are_frames also.are_frames is.ends also.ends (sym is.parts ∙ also.parts)

are_joined : (frames others : List Frame) → AreFrames frames → AreFrames others → AreFrames (frames ++ others)
are_joined [] others are also = also
are_joined (frame ∷ frames) others are also = (are.0, are_joined frames others are.1 also)

bytes_joined : (frames others : List Frame) (left : List ℕ) → frames_bytes (frames ++ others) ++ left ≡ frames_bytes frames ++ (frames_bytes others ++ left)
bytes_joined [] others left = refl
bytes_joined (frame ∷ frames) others left =
    append_assoc (frame_bytes frame) (frames_bytes (frames ++ others)) left
    ∙ ap (λ (s : List ℕ). frame_bytes frame ++ s) (bytes_joined frames others left)
    ∙ sym (append_assoc (frame_bytes frame) (frames_bytes frames) (frames_bytes others ++ left))

pub joined : (first second : List ℕ) (frames others : List Frame) (rest left : List ℕ) →
    ComesTo first frames rest → ComesTo (rest ++ second) others left → ComesTo (first ++ second) (frames ++ others) left
joined first second frames others rest left is also = record {
  are_frames = are_joined frames others is.are_frames also.are_frames;
  parts = ap (λ (s : List ℕ). s ++ second) is.parts
      ∙ append_assoc (frames_bytes frames) rest second
      ∙ ap (λ (s : List ℕ). frames_bytes frames ++ s) also.parts
      ∙ sym (bytes_joined frames others left);
  ends = also.ends;
}
