-- The made job of a number (this project's own).
use Rattle.std.specs.Prelude.{ℕ, None, Some}
use Rattle.job_reader.specs.Finding.{JobView}
use Rattle.load_maker.specs.Artefacts.{made_artefacts}
use Rattle.load_maker.specs.Places.{made_places}
use Rattle.load_maker.specs.References.{made_references}
use Rattle.load_maker.specs.Sessions.{made_sessions}

-- eight places with eight artefacts each, which are drawn from the number on; then 256 sessions, which are
-- drawn behind them; a reference for each measurement, and no bundle
unfoldable pub made_job : ℕ → JobView
made_job number =
    let artefacts = made_artefacts 64 (Some number) in
    record {
      places = made_places;
      artefacts = artefacts.thing;
      sessions = (made_sessions number 256 artefacts.from).thing;
      references = made_references artefacts.thing;
      bundle = None;
    }
