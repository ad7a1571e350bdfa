use Rattle.session_tables.proofs.OwnQuestions.{next_asks_own, asked_asks_own, instr_asks_own}
use Rattle.session_tables.proofs.events.own_question_law.Goals as goal

pub returns : goal.returns
returns c = record {
  next = λ session keys history standing tables event name is_played. next_asks_own session keys history standing tables is_played event name;
  asked = λ session keys history standing tables event pass name is_played still. asked_asks_own session keys history standing tables is_played event pass name still;
  instr = λ session keys history standing tables name for_request local instr rest is_played. instr_asks_own session keys history standing tables is_played name for_request local instr rest;
}
