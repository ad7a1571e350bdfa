-- The tree of the bytes decides; bytes without one are no JSON text.
use Rattle.serde_json.specs.View.{view}
use Rattle.job_reader.specs.Finding.{IsTreeOf}
use Rattle.job_reader.proofs.AnswerLemmas.{answer_exact, answer_found}
use Rattle.job_reader.proofs.reading.job_of.Goals as goal

pub returns-in-Ok-clause-finding : goal.returns-in-Ok-clause-finding
returns-in-Ok-clause-finding c =
    let of_bytes : IsTreeOf c.args.bytes.now (view c.in-Ok.tree) = record { utf8 = c.in-Ok.ensures.ok.0; read = c.in-Ok.ensures.ok.1 } in
    answer_found c.args.bytes.now c.args.appraise (view c.in-Ok.tree) c.job_in.result of_bytes c.job_in.ensures.answer

pub returns-in-Ok-clause-exact : goal.returns-in-Ok-clause-exact
returns-in-Ok-clause-exact c =
    let of_bytes : IsTreeOf c.args.bytes.now (view c.in-Ok.tree) = record { utf8 = c.in-Ok.ensures.ok.0; read = c.in-Ok.ensures.ok.1 } in
    answer_exact c.args.bytes.now c.args.appraise (view c.in-Ok.tree) c.job_in.result of_bytes c.job_in.ensures.answer
