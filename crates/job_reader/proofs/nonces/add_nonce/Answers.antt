-- The index is as before but for the new nonce.
use Rattle.std.proofs.Common.{Some, ap, cond, ◌∙◌, sym}
use Rattle.std.specs.BTreeMap as index
use Rattle.std.proofs.lemmas.Map.Text.{is_eq-slice_cmp}
use Rattle.job_reader.specs.Testing.{nonce_cmp}
use Rattle.job_reader.proofs.nonces.add_nonce.Goals as goal

pub returns-in-Ok : goal.returns-in-Ok
returns-in-Ok c = (
  sym c.in_default.ensures.value,
  λ other.
      c.in-Ok.ensures.updates.0 other
      ∙ ap (λ test. cond test (Some c.args.second) (index.get nonce_cmp c.args.nonces.now other)) (is_eq-slice_cmp c.args.nonce other),
)
