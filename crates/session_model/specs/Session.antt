-- Sessions.
use Rattle.std.specs.Prelude.{ℕ, List}
use Rattle.phrase_tree.specs.Term.{Term}
use Rattle.bench_trait.specs.declared.ask.Ask.{Ask}
use Rattle.bench_trait.specs.Asking.{questions}

-- a session: the place at which its phrase starts, its nonce, and its phrase
pub record Session : Type 0 where
  pub root : List ℕ
  pub nonce : List ℕ
  pub phrase : Term

-- the session's own questions, one for each measurement event, in the order of their numbers
abbrev pub session_questions : Session → List Ask
session_questions session = questions session.phrase session.root session.nonce
