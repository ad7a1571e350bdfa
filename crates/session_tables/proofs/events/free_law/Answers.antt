use Rattle.session_tables.proofs.OwnEvents.{next_apart, next_unasked, next_within, next_block_within, started_within, asked_within}
use Rattle.session_tables.proofs.Counting.{asked_unanswered}
use Rattle.session_tables.proofs.events.free_law.Goals as goal

pub returns : goal.returns
returns c = record {
  one = λ session keys history standing tables name other step other_step event is_played still. next_apart session keys history standing tables is_played name other step other_step event still;
  unasked = λ session keys history standing tables name step event is_played still. next_unasked session keys history standing tables is_played name step event still;
  events = λ session keys history standing tables name step event is_played still. next_within session keys history standing tables is_played name step event still;
  blocks = λ session keys history standing tables number step event is_played. next_block_within session keys history standing tables is_played number step event;
  started = λ session keys history standing tables number is_played. started_within session keys history standing tables is_played number;
  asked = λ session keys history standing tables event pass name is_played. asked_within session keys history standing tables is_played event pass name;
  unanswered = λ session keys history standing tables event pass name is_played. asked_unanswered session keys history standing tables is_played event pass name;
}
