-- The job is the made one, whose questions have their references.
use Rattle.std.proofs.Common.{ap, arith, length, subst, sym}
use Rattle.std.specs.Prelude.{IfOk}
use Rattle.std.proofs.lemmas.List.{length-map}
use Rattle.place_check.specs.Session.{session_of}
use Rattle.job_reader.specs.Finding.{JobView}
use Rattle.load_maker.specs.Answered.{HaveAnswers}
use Rattle.load_runner.specs.Run.{IsRunOf}
use Rattle.load_runner.proofs.AcceptedLemmas.{made_count}
use Rattle.load_runner.proofs.run.run_load.Goals as goal

pub run_sessions-requires-clause-answered : goal.run_sessions-requires-clause-answered
run_sessions-requires-clause-answered g c =
    subst (λ (j : JobView). HaveAnswers j) (sym c.in_ok-job.ensures.made) (c.made_questions_are_answered.ensures c.args.number)

pub run_sessions-requires-clause-few : goal.run_sessions-requires-clause-few
run_sessions-requires-clause-few g c =
    omega (arith, length-map c.in_ok-job.job.sessions.items session_of, ap (λ (j : JobView). length j.sessions) c.in_ok-job.ensures.made, made_count c.args.number)

pub returns : goal.returns
returns g c =
    subst (λ (j : JobView). IfOk c.run_sessions.result (λ figures. IsRunOf (g.B.Bench.gives c.args.bench.now j.artefacts) (g.B.Bench.fails c.args.bench.now j.artefacts) j figures)) c.in_ok-job.ensures.made c.run_sessions.ensures
