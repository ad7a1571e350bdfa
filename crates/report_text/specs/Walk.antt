-- How the lines come in one walk down the phrase. Nothing public names this: that the lines are those of
-- the report is a law in proofs/.
use Rattle.std.specs.Prelude.{◌+◌, ◌-◌, ◌++◌, ℕ, List, Option, Some}
use Rattle.phrase_tree.specs.Term.{Term, leaf, at, chain, seq, par}
use Rattle.phrase_tree.specs.Numbering.{event_count}
use Rattle.phrase_tree.specs.Events.{leaf_kind, requests, replies, splits, joins, event}
use Rattle.event_system.specs.Needs.{only}
use Rattle.report_text.specs.Events.{event_line}

-- the lines of a part of a phrase that starts at `i`, entered from an event or from none
abbrev pub lines_behind : Option ℕ → Term → List ℕ → ℕ → List ℕ
lines_behind entry (leaf form) place i = event_line (event i (leaf_kind form) place) (only entry)
lines_behind entry (at asked body) place i =
    event_line (event i (requests asked) place) (only entry) ++ (lines_behind (Some i) body asked (i + 1) ++ event_line (event (i + 1 + event_count body) (replies asked) place) (only (Some (i + 1 + event_count body - 1))))
lines_behind entry (chain left right) place i =
    lines_behind entry left place i ++ lines_behind (Some (i + event_count left - 1)) right place (i + event_count left)
lines_behind entry (seq split left right) place i =
    event_line (event i splits place) (only entry) ++ (lines_behind (Some i) left place (i + 1) ++ (lines_behind (Some (i + 1 + event_count left - 1)) right place (i + 1 + event_count left) ++ event_line (event (i + 1 + event_count left + event_count right) joins place) (only (Some (i + 1 + event_count left + event_count right - 1)))))
lines_behind entry (par split left right) place i =
    event_line (event i splits place) (only entry) ++ (lines_behind (Some i) left place (i + 1) ++ (lines_behind (Some i) right place (i + 1 + event_count left) ++ event_line (event (i + 1 + event_count left + event_count right) joins place) (record { first = Some (i + 1 + event_count left - 1); second = Some (i + 1 + event_count left + event_count right - 1) })))
