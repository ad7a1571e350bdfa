-- What the code's steps of a walk make.
use Rattle.std.specs.Prelude.{ℕ, List}
use Rattle.phrase_tree.specs.Numbering.{event_count}
use Rattle.evidence_types.specs.Bytes.{bundle}
use Rattle.bench_trait.specs.declared.bench.BenchFault.{BenchFault}
use Rattle.session_model.specs.Record.{Record, done, failed, numbers_below}
use Rattle.session_model.specs.Session.{Session}
use Rattle.session_model.specs.Value.{session_value}

-- the record of a session that is done with these keys and answers, its events in the order of their numbers
abbrev pub done_with : Session → List (List ℕ × List ℕ) → List (ℕ × List ℕ) → Record
done_with session keys answers =
    done
    (numbers_below (event_count session.phrase))
    answers
    (bundle (session_value session.phrase session.root (record { nonce = session.nonce; answers = answers; keys = keys })))

-- the record of a session that failed at an event, the events before it in the order of their numbers
abbrev pub failed_at : ℕ → BenchFault → Record
failed_at event fault = failed event fault (numbers_below event)
