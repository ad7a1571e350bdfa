-- What stands before the longest field is fed, and then that field.
use Rattle.std.proofs.Common.{◌++◌, ap, ◌∙◌, subst, List, ℕ}
use Rattle.evidence_types.specs.Heads.{head_bytes}
use Rattle.stream_appraiser.specs.Open.{AreOpen}
use Rattle.stream_appraiser.specs.Standing.{OpenSeal, fed_all}
use Rattle.stream_appraiser.proofs.RunLemmas.{fed_twice}
use Rattle.stream_appraiser.proofs.walk.feed_head.Goals as goal

pub returns : goal.returns
returns c = λ basis states was.
    let prefix = c.deref.result.now in
    let tail = c.bytes-prefix.result.1.now in
    let P : List OpenSeal → Type 0 = λ t. AreOpen basis c.feed-2.new.self t in
    subst P
    (fed_twice prefix tail states
    ∙ ap (λ (bytes : List ℕ). fed_all bytes states) (ap (λ (front : List ℕ). front ++ tail) c.deref.ensures.0 ∙ c.bytes-prefix.ensures ∙ ap head_bytes c.unmarked.ensures.head))
    (c.feed-2.ensures basis (fed_all prefix states) (c.feed.ensures basis states was))
