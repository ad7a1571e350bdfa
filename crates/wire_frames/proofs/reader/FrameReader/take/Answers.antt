use Rattle.std.proofs.Common.{◌≡◌, List, ℕ, take, ap, ◌∙◌}
use Rattle.wire_frames.specs.Frames.{frame_bytes}
use Rattle.wire_frames.proofs.FrontLemmas.{taken}
use Rattle.wire_frames.proofs.reader.FrameReader.take.Goals as goal

pub returns-in-Ok : goal.returns-in-Ok
returns-in-Ok c =
    let bytes : frame_bytes c.in-Ok.frame ≡ take c.args.size c.args.self.now.rest =
    c.in-Ok.ensures.1 ∙ ap (λ (s : List ℕ). take c.args.size s) c.rest.ensures in
    taken c.args.self.now c.forget.new.self c.in-Ok.frame c.args.size c.requires.enough c.in-Ok.ensures.0 bytes c.forget.ensures
