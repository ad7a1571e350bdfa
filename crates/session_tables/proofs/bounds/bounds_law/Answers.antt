use Rattle.session_runs.proofs.CountLaws.{history_short}
use Rattle.session_tables.proofs.Counting.{events_held, answers_held}
use Rattle.session_tables.proofs.bounds.bounds_law.Goals as goal

pub returns : goal.returns
returns c = record {
  entries = λ session keys history standing tables is_played. history_short session keys history standing is_played.stands;
  events = λ session keys history standing tables is_played. events_held session keys history standing tables is_played;
  answers = λ session keys history standing tables is_played. answers_held session keys history standing tables is_played;
}
