use Rattle.session_runs.proofs.RoundLaws.{same_rounds, agreeing_rounds, rounds_played, one_round_more, rounds_over}
use Rattle.session_runs.proofs.schedules.rounds_law.Goals as goal

pub returns : goal.returns
returns c = record { table = same_rounds; agree = agreeing_rounds; played = rounds_played; more = one_round_more; ends = rounds_over }
