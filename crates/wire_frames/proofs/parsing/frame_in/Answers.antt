use Rattle.std.proofs.Common.{arith, ◌≡◌, ℕ, List, drop, take, refl, sym, ap, subst, ◌∙◌, get_or}
use Rattle.std.specs.Int.{w32, from_be_bytes}
use Rattle.wire_frames.specs.declared.frame.Frame.{Frame}
use Rattle.wire_frames.specs.Frames.{frame_bytes, IsFrame}
use Rattle.wire_frames.proofs.FrameLemmas.{frame_behind, frame_same, whole_again}
use Rattle.wire_frames.proofs.parsing.frame_in.Goals as goal

pub returns : goal.returns
returns c =
    let rest : c.in-Some.rest.now ≡ drop 5 c.args.bytes.now = c.in-Some.ensures.cases.1 in
    let nonce : c.in-Some-split_first_chunk.nonce.now ≡ take 16 (drop 5 c.args.bytes.now) =
    c.in-Some-split_first_chunk.ensures.cases.0 ∙ ap (λ (s : List ℕ). take 16 s) rest in
    let behind : c.in-Some-split_first_chunk.rest.now ≡ drop 16 (drop 5 c.args.bytes.now) =
    c.in-Some-split_first_chunk.ensures.cases.1 ∙ ap (λ (s : List ℕ). drop 16 s) rest in
    let name : c.from_be_bytes.result ≡ from_be_bytes w32 (take 4 (drop 16 (drop 5 c.args.bytes.now))) =
    c.from_be_bytes.ensures ∙ ap (λ (s : List ℕ). from_be_bytes w32 s) (c.in-Some-split_first_chunk-2.ensures.cases.0 ∙ ap (λ (s : List ℕ). take 4 s) behind) in
    let bundle : c.in_ok-copied.field-0 ≡ drop 4 (drop 16 (drop 5 c.args.bytes.now)) =
    c.in_ok-copied.ensures ∙ c.in-Some-split_first_chunk-2.ensures.cases.1 ∙ ap (λ (s : List ℕ). drop 4 s) behind in
    let P : Frame → Type 0 = λ f. IsFrame f × (frame_bytes f ≡ c.args.bytes.now) in
    let same : frame_behind (get_or c.args.bytes.now 4 0) (drop 5 c.args.bytes.now) ≡ record { reply = _; nonce = c.in-Some-split_first_chunk.nonce.now; name = c.from_be_bytes.result; bundle = c.in_ok-copied.field-0 } =
    frame_same _ _ refl (sym nonce) (sym name) (sym bundle) in
    subst P same (whole_again c.args.bytes.now _ (λ i. omega (arith, c.type_inv.bytes i)) c.requires refl)
