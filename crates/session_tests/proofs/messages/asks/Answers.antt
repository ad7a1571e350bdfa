use Rattle.std.proofs.Common.{◌≡◌, ℕ, List, ◌∷◌, true, refl, ap, ◌∙◌, subst}
use Rattle.std.specs.Prelude.{◌&&◌, ◌||◌, nat_eq, Some}
use Rattle.std.proofs.lemmas.Bool.{eq-eqb}
use Rattle.bench_trait.specs.declared.ask.Ask.{Ask}
use Rattle.bench_trait.specs.Asking.{question}
use Rattle.session_model.specs.Session.{Session}
use Rattle.session_runs.specs.Standing.{is_in_flight, Standing}
use Rattle.session_book.specs.declared.entry.Move.{Move}
use Rattle.session_core.specs.declared.opened.Opened.{Opened}
use Rattle.session_core.specs.declared.played.Played.{Played}
use Rattle.session_core.specs.declared.played.Played.TheVariants.{Asked}
use Rattle.session_core.specs.Reading.{TellsOf}
use Rattle.session_core.specs.Session.{Seen, session_in, StandsAt, IsAwaited}
use Rattle.session_tests.proofs.messages.asks.Goals as goal

first_flies : (event pass : ℕ) (rest : List (ℕ × ℕ)) → is_in_flight ((event, pass) ∷ rest) pass event ≡ true
first_flies event pass rest =
    ap (λ b. (b && nat_eq pass pass) || is_in_flight rest pass event) (eq-eqb event event refl) ∙ ap (λ b. (true && b) || is_in_flight rest pass event) (eq-eqb pass pass refl)

asked_of : (session : Session) (pass : ℕ) (step : Move) (told : Played) (ask : Ask) (before after : Standing) → told ≡ Asked ask → TellsOf session pass step before after told → (question session.phrase session.root session.nonce ask.event ≡ Some ask) × (after.in_flight ≡ (ask.event, pass) ∷ before.in_flight)
asked_of session pass step told ask before after e tells =
    let t : TellsOf session pass step before after (Asked ask) = subst (λ (p : Played). TellsOf session pass step before after p) e tells in
    (t.1, t.2)

awaited : (B : Type 0) (new : Seen (Opened B)) (session : Session) (pass : ℕ) (step : Move) (told : Played) (ask : Ask) (before after : Standing) → told ≡ Asked ask → TellsOf session pass step before after told → StandsAt new after → IsAwaited new pass ask.event
awaited B new session pass step told ask before after e tells stands = record {
  standing = after;
  stands = stands;
  flies =
      ap (λ flying. is_in_flight flying pass ask.event) (asked_of session pass step told ask before after e tells).1 ∙ first_flies ask.event pass before.in_flight;
}

own_in : (B : Type 0) (old new : Opened B) (ask : Ask) → new ≡ old → question (session_in old).phrase (session_in old).root (session_in old).nonce ask.event ≡ Some ask → question (session_in new).phrase (session_in new).root (session_in new).nonce ask.event ≡ Some ask
own_in B old new ask e own =
    ap (λ (o : Opened B). question (session_in o).phrase (session_in o).root (session_in o).nonce ask.event) e ∙ own

same_opening : (B : Type 0) (a b : Seen (Opened B)) → a ≡ b → a.opening ≡ b.opening
same_opening B a b e = ap (λ (s : Seen (Opened B)). s.opening) e

pub returns-in-Asked-clause-asked : goal.returns-in-Asked-clause-asked
returns-in-Asked-clause-asked c =
    awaited _ c.play.new.self (session_in c.args.session.now.opening) c.args.pass c.args.step c.in-Ok.told c.in-Asked.ask c.legal.ensures.0 c.legal-in-Asked.ensures.0 c.in-Asked.is (c.in-Ok.ensures.tells c.legal.ensures.0 c.legal-in-Asked.ensures.0 c.legal.ensures.1.stands c.legal-in-Asked.ensures.1.stands) c.legal-in-Asked.ensures.1.stands

pub returns-in-Asked-clause-own : goal.returns-in-Asked-clause-own
returns-in-Asked-clause-own c =
    own_in _ c.args.session.now.opening c.play.new.self.opening c.in-Asked.ask (same_opening _ c.play.new.self _ c.in-Ok.ensures.ok) (asked_of (session_in c.args.session.now.opening) c.args.pass c.args.step c.in-Ok.told c.in-Asked.ask c.legal.ensures.0 c.legal-in-Asked.ensures.0 c.in-Asked.is (c.in-Ok.ensures.tells c.legal.ensures.0 c.legal-in-Asked.ensures.0 c.legal.ensures.1.stands c.legal-in-Asked.ensures.1.stands)).0
