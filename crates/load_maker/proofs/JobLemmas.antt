-- The job as a whole, from what its parts are.
use Rattle.std.proofs.Common.{◌≡◌, ℕ, List, Option, None, Some, refl}
use Rattle.session_model.specs.Session.{Session}
use Rattle.bench_trait.specs.declared.artefacts.Artefact.{Artefact}
use Rattle.place_check.specs.declared.entry.PlaceEntry.{PlaceEntry}
use Rattle.reference_book.specs.declared.reference.Reference.{Reference}
use Rattle.load_maker.specs.Artefacts.{made_artefacts}
use Rattle.load_maker.specs.Job.{made_job}
use Rattle.load_maker.specs.Places.{made_places}
use Rattle.load_maker.specs.References.{made_references}
use Rattle.load_maker.specs.Sessions.{made_sessions}

pub job_made : (number : ℕ) (from : Option ℕ) (places : List PlaceEntry) (artefacts : List Artefact) (sessions : List Session) (references : List Reference) → places ≡ made_places → artefacts ≡ (made_artefacts 64 (Some number)).thing → from ≡ (made_artefacts 64 (Some number)).from → sessions ≡ (made_sessions number 256 from).thing → references ≡ made_references artefacts → record { places = places; artefacts = artefacts; sessions = sessions; references = references; bundle = None } ≡ made_job number
unfolding made_job
job_made number from places artefacts sessions references is_places is_artefacts is_from is_sessions is_references =
    rw (is_places, is_references, is_sessions, is_artefacts, is_from) refl
