use Rattle.std.proofs.Common.{◌≡◌, ap, ap₂, ◌∙◌}
use Rattle.evidence_store.specs.Kept.{Kept, value_at}
use Rattle.evidence_store.specs.Nodes.{kept_values}
use Rattle.evidence_store.proofs.KeptLemmas.{readable}
use Rattle.evidence_store.proofs.store.Store.emit.Goals as goal

pub returns-clause-readable : goal.returns-clause-readable
returns-clause-readable c =
    let seen : kept_values c.deref-2.result.now c.deref.result.now ≡ c.args.self.now.values = ap₂ kept_values c.deref-2.ensures.value c.deref.ensures.value ∙ ap (λ (k : Kept). k.values) c.self.view_is in
    let same : value_at (kept_values c.deref-2.result.now c.deref.result.now) c.index.result ≡ value_at c.args.self.now.values c.args.id = ap₂ value_at seen c.index.ensures in
    readable c.bundle.result (value_at (kept_values c.deref-2.result.now c.deref.result.now) c.index.result) (value_at c.args.self.now.values c.args.id) c.bundle.ensures same c.fits_bundle.ensures.well_formed c.fits_bundle.ensures.fits
