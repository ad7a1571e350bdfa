-- What `load` reports over digests.
use Rattle.std.proofs.Common.{◌≡◌, ◌∙◌, ℕ, Bool, true, List, ap, inl, subst, sym}
use Rattle.std.specs.Prelude.{◌&&◌, nat_eq}
use Rattle.load_maker.specs.Job.{made_job}
use Rattle.load_runner.specs.Figures.{has_accepted_all}
use Rattle.load_runner.specs.Run.{IsRunOf}
use Rattle.load_runner.specs.declared.figures.Figures.{Figures}
use Rattle.copland_cli.specs.Command.{Command}
use Rattle.copland_cli.specs.Commands.{input_of}
use Rattle.copland_cli.specs.Digests.{DigestFails, DigestGives}
use Rattle.copland_cli.specs.Input.{IsSubjectBy, IsWithoutSubjectBy}
use Rattle.copland_cli.specs.Loaded.{HasAcceptedAll, ending_of_load}
use Rattle.copland_cli.specs.Meaning.{IsOfLoadIn}
use Rattle.copland_cli.specs.Outcome.{IsMadeRun, IsRun}
use Rattle.copland_cli.specs.Port.{Port, IsUnread}
use Rattle.copland_cli.specs.Reported.{Failing, Giving, Starving}
use Rattle.copland_cli.specs.declared.ending.Ending.{Ending}
use Rattle.copland_cli.specs.declared.input.Input.{Input}
use Rattle.copland_cli.specs.declared.input.Input.TheVariants.{Nothing}
use Rattle.copland_cli.specs.declared.outcome.Outcome.{Outcome}
use Rattle.copland_cli.specs.declared.outcome.Outcome.TheVariants.{Refused, Reported}

-- figures that are all 256
all_256 : (figures : Figures) → figures.sessions ≡ 256 → figures.done ≡ 256 → figures.accepted ≡ 256 → has_accepted_all figures ≡ true
all_256 figures sessions done accepted =
    ap (λ (n : ℕ). nat_eq n figures.sessions && nat_eq figures.accepted figures.sessions) done
    ∙ ap (λ (n : ℕ). nat_eq 256 figures.sessions && nat_eq n figures.sessions) accepted
    ∙ ap (λ (n : ℕ). nat_eq 256 n && nat_eq 256 n) sessions

pub accepted_all : (law : (number : ℕ) (figures : Figures) → IsRunOf (DigestGives (made_job number).artefacts) (DigestFails (made_job number).artefacts) (made_job number) figures → (figures.sessions ≡ 256) × (figures.done ≡ 256) × (figures.accepted ≡ 256)) (number : ℕ) (text : List ℕ) (ending : Ending) → IsOfLoadIn DigestGives DigestFails (made_job number) number text ending → HasAcceptedAll number text ending
accepted_all law number text ending h =
    let all = law number h.figures h.run in
    record {
      figures = h.figures;
      reported = h.reported;
      sessions = all.0;
      done = all.1;
      accepted = all.2;
      ended = h.ended ∙ ap (λ (b : Bool). ending_of_load b) (all_256 h.figures all.0 all.1 all.2);
    }

-- the run of a command that reads nothing, by what it decides over the job that it makes
pub made_run : (Gives : Giving) (Fails : Failing) (Starves : Starving) (command : Command) (source : Port) (outcome : Outcome) → input_of command ≡ Nothing → IsUnread source → IsMadeRun Gives Fails Starves command outcome → IsRun Gives Fails Starves command source outcome
made_run Gives Fails Starves command source (Refused why) is unread h =
    inl (subst (λ (i : Input). IsWithoutSubjectBy i source why) (sym is) (h, unread))
made_run Gives Fails Starves command source (Reported report) is unread h =
    (h.0, subst (λ (i : Input). IsSubjectBy i command source h.0) (sym is) (h.1, unread), h.2)
