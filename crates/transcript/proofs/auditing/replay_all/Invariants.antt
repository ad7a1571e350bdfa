-- The session took the entries up to the index, and those that are left stand in the bytes that are left.
use Rattle.std.proofs.Common.{◌≡◌, List, length, map}
use Rattle.session_runs.specs.Standing.{Entry}
use Rattle.session_book.specs.Entries.{entry_of}
use Rattle.transcript.specs.Flights.{Mirrors}
use Rattle.transcript.specs.Audit.{IsReplayed, StandIn}
use Rattle.transcript.proofs.AuditLemmas.{GoneSoFar}
use Rattle.transcript.proofs.auditing.replay_all.Given as goal

abbrev pub invariant-loop-index : goal.invariant-loop-index
invariant-loop-index g l =
    IsReplayed l.artefacts l.bench l.session
    × Mirrors l.flights.items l.session
    × (l.session.opening ≡ l.fn.session.opening)
    × (length l.session.items ≡ l.index)
    × ((all : List Entry) → StandIn l.fn.entries.count l.fn.entries.bytes.now all → GoneSoFar l.fn.entries.count l.index l.rest (map entry_of l.session.items) all)
