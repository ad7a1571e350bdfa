use Rattle.session_tables.proofs.Results.{answer_taken, fault_taken, want_taken, fault_stops, want_stops, asks_fly}
use Rattle.session_tables.proofs.taken.results_law.Goals as goal

pub returns : goal.returns
returns c = record {
  answers = λ session keys history standing tables pass event bytes is_played still. answer_taken session keys history standing tables is_played pass event bytes still;
  fails = λ program from tables pass event fault still. fault_taken program from tables still pass event fault;
  starves = λ program from tables pass event still. want_taken program from tables still pass event;
  after_fault = λ program from tables pass event fault still. fault_stops program from tables still pass event fault;
  after_want = λ program from tables pass event still. want_stops program from tables still pass event;
  flies = λ session keys history standing tables pass event is_played. asks_fly session keys history standing tables is_played pass event;
}
