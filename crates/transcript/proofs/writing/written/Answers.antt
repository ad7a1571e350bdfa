use Rattle.transcript.proofs.WritingLemmas.{is_transcript}
use Rattle.transcript.proofs.writing.written.Goals as goal

pub returns : goal.returns
returns g c =
    is_transcript c.args.session.now.items c.item_count-count.result c.in_ok-out.out.items c.push_entries.new.out.items c.of.result
    c.item_count-count.ensures.count c.item_count-count.ensures.few c.in_ok-out.ensures c.in_ok-push_entries.ensures.bytes c.in_ok-push_entries.ensures.can c.of.ensures
