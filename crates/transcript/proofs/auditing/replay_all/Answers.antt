use Rattle.std.proofs.Common.{◌<◌, ◌++◌, ◌+◌, ◌∷◌, [], map, sym, ap, ◌∙◌, subst, arith}
use Rattle.session_book.specs.Entries.{entry_of}
use Rattle.session_core.specs.Session.{session_in, keys_in}
use Rattle.transcript.specs.Audit.{IsCause}
use Rattle.transcript.proofs.AuditLemmas.{GoneSoFar, gone_here, gone_on, gone_all, replayed_on, one_longer}
use Rattle.transcript.proofs.auditing.replay_all.Goals as goal

pub replay_next-requires-clause-read : goal.replay_next-requires-clause-read
replay_next-requires-clause-read g c =
    let gone = c.loop-index.invariant.4 c.requires.read.0 c.requires.read.1 in
    let n = gone_here c.args.entries.count c.loop-index.index c.loop-index.rest.now (map entry_of c.loop-index.session.items) c.requires.read.0 gone (omega (arith, c.loop-index-test.true)) in
    ((n.one, n.behind), n.here)

pub returns-in-Err : goal.returns-in-Err
returns-in-Err g c = λ all stand.
    let so_far = map entry_of c.loop-index.session.items in
    let o = c.loop-index.session.opening in
    let gone = c.loop-index.invariant.4 all stand in
    let n = gone_here c.args.entries.count c.loop-index.index c.loop-index.rest.now so_far all gone (omega (arith, c.loop-index-test.true)) in
    subst (λ x. IsCause (λ ask answer. g.B.Bench.gives c.args.bench.now c.args.artefacts.now ask answer) (λ ask fault. g.B.Bench.fails c.args.bench.now c.args.artefacts.now ask fault) (λ ask. g.B.Bench.starves c.args.bench.now c.args.artefacts.now ask) (session_in x) (keys_in x) all c.in-Err.error) c.loop-index.invariant.2
    (subst (λ xs. IsCause (λ ask answer. g.B.Bench.gives c.args.bench.now c.args.artefacts.now ask answer) (λ ask fault. g.B.Bench.fails c.args.bench.now c.args.artefacts.now ask fault) (λ ask. g.B.Bench.starves c.args.bench.now c.args.artefacts.now ask) (session_in o) (keys_in o) xs c.in-Err.error) (sym (gone.parts ∙ ap (λ xs. so_far ++ xs) n.parts))
    (c.in-Err.ensures n.one n.behind n.here n.rest))

pub loop-index-preserved : goal.loop-index-preserved
loop-index-preserved g c =
    let old = c.loop-index.session in
    let new = c.replay_next.new.session in
    let so_far = map entry_of old.items in
    let less : c.loop-index.index < c.args.entries.count = omega (arith, c.loop-index-test.true) in
    let any = c.loop-index.invariant.4 c.requires.read.0 c.requires.read.1 in
    let m = gone_here c.args.entries.count c.loop-index.index c.loop-index.rest.now so_far c.requires.read.0 any less in
    let took = (c.in-Ok.ensures m.one m.behind m.here).1 in (
      replayed_on c.args.artefacts.now c.args.bench.now old new took.opening c.loop-index.invariant.0,
      took.mirrors,
      took.opening ∙ c.loop-index.invariant.2,
      one_longer old new m.one c.loop-index.index took.items c.loop-index.invariant.3,
      λ all stand.
          let gone = c.loop-index.invariant.4 all stand in
          let n = gone_here c.args.entries.count c.loop-index.index c.loop-index.rest.now so_far all gone less in
          let t = c.in-Ok.ensures n.one n.behind n.here in
          subst (λ xs. GoneSoFar c.args.entries.count (c.loop-index.index + 1) c.in-Ok.behind.now xs all) (sym t.1.items)
          (subst (λ bytes. GoneSoFar c.args.entries.count (c.loop-index.index + 1) bytes (so_far ++ n.one ∷ []) all) (sym t.0)
          (gone_on c.args.entries.count c.loop-index.index c.loop-index.rest.now so_far all gone n)),
    )

pub returns : goal.returns
returns g c = λ all stand. (
  c.loop-index.invariant.2,
  gone_all c.args.entries.count c.loop-index.index c.loop-index.rest.now (map entry_of c.loop-index.session.items) all (omega (arith, c.loop-index-test.false)) (c.loop-index.invariant.4 all stand),
)
