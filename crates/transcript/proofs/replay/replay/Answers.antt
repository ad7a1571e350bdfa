use Rattle.std.proofs.Common.{sym, subst}
use Rattle.transcript.specs.declared.written.Written.{Written}
use Rattle.transcript.specs.Written.{entry_in}
use Rattle.transcript.specs.Audit.{Replays}
use Rattle.transcript.proofs.replay.replay.Goals as goal

pub returns-in-Played : goal.returns-in-Played
returns-in-Played g c =
    subst (λ (e : Written). Replays (λ ask answer. g.B.Bench.gives c.args.bench.now c.args.artefacts.now ask answer) (λ ask fault. g.B.Bench.fails c.args.bench.now c.args.artefacts.now ask fault) (entry_in e) c.play.new.flights.items c.args.session.now c.play.new.session c.play.result) (sym c.in-Played.is) c.play.ensures

pub returns-in-Answered : goal.returns-in-Answered
returns-in-Answered g c =
    subst (λ (e : Written). Replays (λ ask answer. g.B.Bench.gives c.args.bench.now c.args.artefacts.now ask answer) (λ ask fault. g.B.Bench.fails c.args.bench.now c.args.artefacts.now ask fault) (entry_in e) c.repeat.new.flights.items c.args.session.now c.repeat.new.session c.repeat.result) (sym c.in-Answered.is) c.repeat.ensures

pub returns-in-Failed : goal.returns-in-Failed
returns-in-Failed g c =
    subst (λ (e : Written). Replays (λ ask answer. g.B.Bench.gives c.args.bench.now c.args.artefacts.now ask answer) (λ ask fault. g.B.Bench.fails c.args.bench.now c.args.artefacts.now ask fault) (entry_in e) c.repeat-in-Failed.new.flights.items c.args.session.now c.repeat-in-Failed.new.session c.repeat-in-Failed.result) (sym c.in-Failed.is) c.repeat-in-Failed.ensures
