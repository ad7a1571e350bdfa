use Rattle.std.proofs.Common.{◌++◌, List, map, sym, ◌∙◌, ap, subst, arith}
use Rattle.session_runs.specs.Standing.{Entry}
use Rattle.session_book.specs.Entries.{entry_of}
use Rattle.transcript.specs.Bytes.{entries_bytes, CanAllBeWritten}
use Rattle.transcript.specs.Starved.{IsWritten}
use Rattle.transcript.proofs.WritingLemmas.{behind_opening, none_behind, holds_at, one_pushed, all_taken}
use Rattle.transcript.proofs.writing.push_entries.Goals as goal

pub unreachable-requires : goal.unreachable-requires
unreachable-requires g c =
    none_behind c.args.session.now.items c.loop-index.index (omega (arith, c.loop-index-test.true, c.requires.count)) (sym c.nth_entry.ensures ∙ c.in_default.is)

pub push_entry-requires : goal.push_entry-requires
push_entry-requires g c =
    let items = c.args.session.now.items in
    holds_at IsWritten (map entry_of items) c.loop-index.index (entry_of c.in-Some.entry) c.requires.written
    (behind_opening items c.loop-index.index c.in-Some.entry (sym c.nth_entry.ensures ∙ c.in-Some.is))

pub loop-index-preserved : goal.loop-index-preserved
loop-index-preserved g c =
    let items = c.args.session.now.items in
    one_pushed (map entry_of items) c.loop-index.index (entry_of c.in-Some.entry) c.args.out.now.items c.loop-index.out.items c.push_entry.new.out.items
    (behind_opening items c.loop-index.index c.in-Some.entry (sym c.nth_entry.ensures ∙ c.in-Some.is))
    c.loop-index.invariant.0 c.loop-index.invariant.1 c.in_ok-push_entry.ensures.bytes c.in_ok-push_entry.ensures.can

pub returns-clause-bytes : goal.returns-clause-bytes
returns-clause-bytes g c =
    let all = all_taken c.args.session.now.items c.loop-index.index (omega (arith, c.loop-index-test.false, c.requires.count)) in
    c.loop-index.invariant.0 ∙ ap (λ (es : List Entry). c.args.out.now.items ++ entries_bytes es) all

pub returns-clause-can : goal.returns-clause-can
returns-clause-can g c =
    let all = all_taken c.args.session.now.items c.loop-index.index (omega (arith, c.loop-index-test.false, c.requires.count)) in
    subst CanAllBeWritten all c.loop-index.invariant.1
