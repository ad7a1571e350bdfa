use Rattle.std.proofs.Common.{◌≡◌, ℕ, List, sym, ◌∙◌, ap}
use Rattle.std.specs.Prelude.{Option, Some, None, IfSome, slice_get}
use Rattle.std.specs.Option.{option_map}
use Rattle.rising_list.specs.Rising.{RisesFrom}
use Rattle.evidence_types.specs.Evidence.{Evidence}
use Rattle.session_book.specs.declared.entry.Flight.{Flight}
use Rattle.session_book.specs.Kept.{flight_of, in_flight_by}
use Rattle.session_book.proofs.Asking.{nth_ask, flies_at}
use Rattle.session_book.proofs.book.SessionBook.nth_flight.Goals as goal

pub returns-clause-listed : goal.returns-clause-listed
returns-clause-listed c = ap (option_map (λ (entry : ℕ × Flight). (entry.0, entry.1.pass))) c.nth.ensures ∙ sym (nth_ask c.args.self.now.in_flight.entries c.args.index)

some_flies : (xs : List (ℕ × Flight)) (index : ℕ) (o : Option (ℕ × Flight)) → RisesFrom 0 xs → o ≡ slice_get xs index → IfSome o (λ entry. List Evidence → in_flight_by xs entry.0 ≡ Some (flight_of entry.1))
some_flies xs index None rises e = tt
some_flies xs index (Some x) rises e = λ values. flies_at index xs x rises (sym e)

pub returns-clause-flies : goal.returns-clause-flies
returns-clause-flies c = some_flies c.args.self.now.in_flight.entries c.args.index c.nth.result c.rises.ensures.rises c.nth.ensures
