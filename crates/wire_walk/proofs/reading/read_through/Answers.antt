use Rattle.std.proofs.Common.{[], ◌++◌, sym, ◌∙◌, ap, subst}
use Rattle.std.proofs.lemmas.List.{append-nil}
use Rattle.wire_frames.specs.Frames.{frame_bytes}
use Rattle.wire_frames.specs.Reading.{Reads}
use Rattle.std.specs.Prelude.{Ok}
use Rattle.wire_walk.proofs.reading.read_through.Goals as goal

pub returns-in-Ok-Whole-clause-frame : goal.returns-in-Ok-Whole-clause-frame
returns-in-Ok-Whole-clause-frame c = λ meant is_frame bytes.
    let took = subst (λ r. Reads c.feed.new.reader (Ok r) c.next.new.self) c.in-Ok-Whole.field-0-is c.in-Ok-Whole.ensures.reads in
    let fed = c.in_ok-feed.ensures ∙ ap (λ xs. xs ++ c.args.bytes.now) c.requires in
    (c.one_frame.ensures c.in-Ok-Whole.frame meant c.next.new.self.rest [] took.is_frame is_frame (sym took.bytes ∙ (fed ∙ (bytes ∙ sym (append-nil (frame_bytes meant)))))).0
