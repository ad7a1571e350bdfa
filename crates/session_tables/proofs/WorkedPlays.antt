-- A session that copies its nonce, played to its end: what the laws ask for can be met.
use Rattle.std.proofs.Common.{◌≡◌, [], ◌∷◌, refl}
use Rattle.std.specs.Prelude.{codes}
use Rattle.phrase_tree.specs.Term.{cpy, leaf}
use Rattle.evidence_types.specs.Evidence.{nonce}
use Rattle.evidence_types.specs.Measure.{IsLight}
use Rattle.avm_compile.specs.Program.{program_of}
use Rattle.machine_tables.specs.Tables.{over, Tables, opening_tables}
use Rattle.session_model.specs.Session.{Session}
use Rattle.session_runs.specs.Standing.{root, run, opened, played, is_done, opening, makings}
use Rattle.session_tables.specs.Played.{IsPlayed, IsPlayedOn, CanTake}
use Rattle.session_tables.proofs.Playing.{session_opens, session_goes_on}

abbrev copies : Session
copies = record { root = codes "bank"; nonce = codes "0123456789abcdef"; phrase = leaf cpy }

light : IsLight copies.phrase
light = refl

abbrev first_tables : Tables
first_tables = opening_tables (program_of copies.phrase copies.root) (nonce copies.nonce)

opens : IsPlayed copies [] (opened ∷ []) (opening copies) first_tables
opens = session_opens copies [] light refl

-- pass 3 lets the root copy
abbrev copied : CanTake (program_of copies.phrase copies.root) (makings copies []) first_tables (played 3 (run root))
copied = record { later = _; taken = refl }

it_happened : copied.later.trace ≡ 0 ∷ []
it_happened = refl

goes_on : IsPlayedOn copies [] (opened ∷ []) (opening copies) (played 3 (run root)) copied.later
goes_on = session_goes_on copies [] (opened ∷ []) (opening copies) first_tables copied.later (played 3 (run root)) opens tt copied.taken

-- and pass 4 lets it end
abbrev ended : CanTake (program_of copies.phrase copies.root) (makings copies []) copied.later (played 4 (run root))
ended = record { later = _; taken = refl }

is_played_out : IsPlayedOn copies [] (opened ∷ played 3 (run root) ∷ []) goes_on.then_stands (played 4 (run root)) ended.later
is_played_out = session_goes_on copies [] (opened ∷ played 3 (run root) ∷ []) goes_on.then_stands copied.later ended.later (played 4 (run root)) goes_on.played tt ended.taken

it_is_done : ended.later.state ≡ is_done (nonce copies.nonce)
it_is_done = refl

its_root_is_over : ended.later.blocks root ≡ over (nonce copies.nonce)
its_root_is_over = refl
