-- The stage of a measurement that may have more arguments.
use Rattle.std.proofs.Common.{◌≡◌, ℕ, List, Some, None, refl}
use Rattle.phrase_tree.specs.declared.measurement.Arg.{Arg}
use Rattle.phrase_tree.specs.declared.measurement.Arg.TheVariants.{Word, Number}
use Rattle.phrase_tree.specs.Term.{Term, leaf, cpy, sig, hsh, nul, usm, kim, at, chain, seq, par}
use Rattle.phrase_reader.specs.Machine.{unit_of, ended, measured_of, with_name, valued}

pub measured_unit : (phrase : Term) → unit_of (measured_of phrase) ≡ Some phrase
measured_unit (leaf cpy) = refl
measured_unit (leaf sig) = refl
measured_unit (leaf hsh) = refl
measured_unit (leaf nul) = refl
measured_unit (leaf (usm asp)) = refl
measured_unit (leaf (kim target asp)) = refl
measured_unit (at place body) = refl
measured_unit (chain left right) = refl
measured_unit (seq split left right) = refl
measured_unit (par split left right) = refl

pub measured_takes_none : (phrase : Term) (name : List ℕ) → with_name (measured_of phrase) name ≡ None
measured_takes_none (leaf cpy) name = refl
measured_takes_none (leaf sig) name = refl
measured_takes_none (leaf hsh) name = refl
measured_takes_none (leaf nul) name = refl
measured_takes_none (leaf (usm asp)) name = refl
measured_takes_none (leaf (kim target asp)) name = refl
measured_takes_none (at place body) name = refl
measured_takes_none (chain left right) name = refl
measured_takes_none (seq split left right) name = refl
measured_takes_none (par split left right) name = refl

pub ended_takes_none : (phrase : Term) (value : Arg) → valued (ended phrase) value ≡ None
ended_takes_none phrase (Word name) = refl
ended_takes_none phrase (Number number) = refl
