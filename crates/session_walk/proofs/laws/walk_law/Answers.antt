use Rattle.std.specs.Prelude.{ℕ, List}
use Rattle.session_model.specs.Session.{Session}
use Rattle.session_runs.specs.Played.{AskOnly}
use Rattle.session_walk.proofs.UnderWayLemmas.{RoundLaws, begins, opens_at, walks_on, over}
use Rattle.session_walk.proofs.laws.walk_law.Goals as goal

pub returns : goal.returns
returns g c =
    let laws : (places : List (List ℕ)) (keys : List (List ℕ × List ℕ)) (sessions : List Session) (number : ℕ) → AskOnly places sessions → RoundLaws places keys sessions number = λ places keys sessions number only. record {
      only = only;
      agree = λ results others count. c.rounds_law.ensures.agree places keys results others sessions number count only;
      plays = λ results count. c.rounds_law.ensures.played places keys results sessions number count only;
      more = λ results count. c.rounds_law.ensures.more places keys results sessions number count;
      none = λ session. c.result_count_law.ensures.in_flight session keys;
      listed = λ in_flight asked. (c.order_law.ensures.asks_listed in_flight asked).0;
      awaited = λ session history standing event stands still flies.
          let w = c.result_law.ensures session keys history standing 0 event stands still flies in (w.ask, w.asked);
      lists = λ session. c.progress_law.ensures.listed session keys places;
      ends = λ results count. c.rounds_law.ensures.ends places keys results sessions number count only;
      short = λ session. c.length_law.ensures session keys;
    } in
    record {
      begins = λ bench artefacts places keys sessions number only.
          begins (g.B.Bench.gives bench artefacts) (g.B.Bench.fails bench artefacts) (g.B.Bench.starves bench artefacts) places keys sessions number (laws places keys sessions number only);
      listed = λ bench artefacts places keys sessions number all going from drawn played only.
          opens_at (g.B.Bench.gives bench artefacts) (g.B.Bench.fails bench artefacts) (g.B.Bench.starves bench artefacts) places keys sessions number (laws places keys sessions number only) all going from drawn played;
      goes_on = λ bench artefacts places keys sessions number all going from drawn played before after index later only.
          walks_on (g.B.Bench.gives bench artefacts) (g.B.Bench.fails bench artefacts) (g.B.Bench.starves bench artefacts) places keys sessions number (laws places keys sessions number only) all going from drawn played before after index later;
      ends = λ bench artefacts places keys sessions number all from only. over (g.B.Bench.gives bench artefacts) (g.B.Bench.fails bench artefacts) (g.B.Bench.starves bench artefacts) places keys sessions number (laws places keys sessions number only) all from;
    }
