use Rattle.std.proofs.Common.{refl, sym}
use Rattle.turn_cell.proofs.Histories.{made_by-append, made_by-own, made_by-other, others_behind}
use Rattle.turn_cell.proofs.laws.made_by_law.Goals as goal

pub returns : goal.returns
returns g c = record {
  joined = made_by-append _ _;
  own_items = made_by-own _ _;
  others_items = made_by-other _ _;
  behind = λ number seen history longer same. others_behind _ _ number seen longer.rest history _ longer.is refl (sym same);
}
