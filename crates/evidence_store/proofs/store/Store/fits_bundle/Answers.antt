-- The store keeps that each of its values is well formed and within the limits.
use Rattle.std.proofs.Common.{◌≡◌, List, length, ap, subst, arith}
use Rattle.evidence_types.specs.Evidence.{Evidence}
use Rattle.evidence_types.specs.Bytes.{FitsBundle}
use Rattle.evidence_types.specs.WellFormed.{IsWellFormed}
use Rattle.evidence_store.specs.Kept.{Kept, value_at}
use Rattle.evidence_store.specs.Nodes.{kept_values}
use Rattle.evidence_store.proofs.store.Store.fits_bundle.Goals as goal

pub returns-clause-fits : goal.returns-clause-fits
returns-clause-fits c =
    let seen : kept_values c.self.inside.kept.answers.items c.self.inside.kept.list.items ≡ c.args.self.now.values = ap (λ (k : Kept). k.values) c.self.view_is in
    let sound = c.self.invariant.0.sound in
    subst (λ (vs : List Evidence). FitsBundle (value_at vs c.args.id)) seen (sound.fits c.args.id (omega (arith, c.requires, ap length seen, sound.counted)))

pub returns-clause-well_formed : goal.returns-clause-well_formed
returns-clause-well_formed c =
    let seen : kept_values c.self.inside.kept.answers.items c.self.inside.kept.list.items ≡ c.args.self.now.values = ap (λ (k : Kept). k.values) c.self.view_is in
    let sound = c.self.invariant.0.sound in
    subst (λ (vs : List Evidence). IsWellFormed (value_at vs c.args.id)) seen (sound.well_formed c.args.id (omega (arith, c.requires, ap length seen, sound.counted)))
