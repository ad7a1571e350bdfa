use Rattle.std.proofs.Common.{map, refl}
use Rattle.session_book.specs.Entries.{entry_of}
use Rattle.session_core.specs.Session.{session_in, keys_in}
use Rattle.transcript.proofs.LawLemmas.{history_written}
use Rattle.transcript.proofs.WritingLemmas.{not_both}
use Rattle.transcript.proofs.writing.write_transcript.Goals as goal

pub written-requires : goal.written-requires
written-requires g c =
    let seen = c.args.session.now in
    let legal = c.legal.ensures in
    history_written (session_in seen.opening) (keys_in seen.opening) (map entry_of seen.items) legal.0 legal.1.stands
    (λ starved. not_both c.has_starved.result c.if-has_starved.false ((c.has_starved.ensures legal.0 legal.1.stands).1 starved))

pub returns-then-has_starved-clause-starved : goal.returns-then-has_starved-clause-starved
returns-then-has_starved-clause-starved g c = λ standing stands. (λ e. (c.has_starved.ensures standing stands).0 c.if-has_starved.true, λ h. refl)

pub returns-in-Ok-clause-starved : goal.returns-in-Ok-clause-starved
returns-in-Ok-clause-starved g c = λ standing stands. (
  λ e. absurd cc,
  λ starved. absurd (not_both c.has_starved.result c.if-has_starved.false ((c.has_starved.ensures standing stands).1 starved)),
)

pub returns-in-Err-clause-starved : goal.returns-in-Err-clause-starved
returns-in-Err-clause-starved g c = λ standing stands. (
  λ e. absurd cc,
  λ starved. absurd (not_both c.has_starved.result c.if-has_starved.false ((c.has_starved.ensures standing stands).1 starved)),
)
