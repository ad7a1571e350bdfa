use Rattle.std.proofs.Common.{sym, ◌∙◌}
use Rattle.session_core.proofs.Facts.{open-word, open-done, open-failed, open-starved}
use Rattle.session_core.proofs.Told.{closed-core}
use Rattle.session_core.proofs.steps.Core.tell.Goals as goal

pub tell_now-requires-clause-opened : goal.tell_now-requires-clause-opened
tell_now-requires-clause-opened c = open-word c.args.self.now.book.ending (sym c.state.ensures ∙ c.in-Open.is)

pub returns-in-Done-clause-core : goal.returns-in-Done-clause-core
returns-in-Done-clause-core c = λ session keys places b.
    closed-core session keys places c.args.first c.args.second c.args.place c.args.self.now b (λ is. absurd (open-done (sym (sym c.state.ensures ∙ c.in-Done.is) ∙ is)))

pub returns-in-Failed-clause-core : goal.returns-in-Failed-clause-core
returns-in-Failed-clause-core c = λ session keys places b.
    closed-core session keys places c.args.first c.args.second c.args.place c.args.self.now b (λ is. absurd (open-failed (sym (sym c.state.ensures ∙ c.in-Failed.is) ∙ is)))

pub returns-in-Starved-clause-core : goal.returns-in-Starved-clause-core
returns-in-Starved-clause-core c = λ session keys places b.
    closed-core session keys places c.args.first c.args.second c.args.place c.args.self.now b (λ is. absurd (open-starved (sym (sym c.state.ensures ∙ c.in-Starved.is) ∙ is)))
