-- The entries up to the index are written.
use Rattle.std.proofs.Common.{◌≡◌, ◌++◌, map, take}
use Rattle.session_book.specs.Entries.{entry_of}
use Rattle.transcript.specs.Bytes.{entries_bytes, CanAllBeWritten}
use Rattle.transcript.proofs.writing.push_entries.Given as goal

abbrev pub invariant-loop-index : goal.invariant-loop-index
invariant-loop-index g l =
    (l.out.items ≡ l.initial.out.items ++ entries_bytes (take l.index (map entry_of l.session.items)))
    × CanAllBeWritten (take l.index (map entry_of l.session.items))
