-- That threads may share a desk, and that a pass may go from one to another, where they may share the bench.
-- The tactics alone give up at a type of this depth: so it goes by parts, from a phrase up.
use denote.Ref.{NamedLft}
use denote.RattleType.{RattleType}
use denote.Struct.Struct.{Struct}
use denote.Struct.Declared.{shape}
use denote.Param.Send.{IsSend, IsSync, sendable, view_send, view_sync, recorded_send, recorded_sync, struct_send, struct_sync}
use Rattle.std.proofs.Crossing as crossing
use Rattle.phrase_tree.specs.contracts.phrase.Phrase as phrases
use Rattle.phrase_tree.proofs.phrase.Phrase.TheLaws.TheKnot as phrase
use Rattle.phrase_tree.proofs.phrase.Split.TheSendSync as split
use Rattle.phrase_tree.proofs.name.Name.TheSendSync as name
use Rattle.phrase_tree.proofs.measurement.Asp.TheSendSync as asp
use Rattle.bench_trait.specs.declared.bench.Bench.{Ghosts}
use Rattle.bench_trait.proofs.artefacts.ArtefactBook.TheSendSync as artefacts
use Rattle.place_check.specs.contracts.session.Checked as checked
use Rattle.place_check.specs.contracts.session.Checked.TheInside as checked_inside
use Rattle.place_check.proofs.places.Places.TheSendSync as places
use Rattle.turn_cell.specs.contracts.cell.TurnCell as cell
use Rattle.turn_cell.specs.contracts.pass.CellPass as seat
use Rattle.turn_cell.proofs.cell.TurnCell.TheSendSync as cells
use Rattle.turn_cell.proofs.pass.CellPass.TheSendSync as seats
use Rattle.session_book.specs.contracts.entry.Entry as entry
use Rattle.session_core.specs.contracts.opened.Opened as opened
use Rattle.session_core.specs.contracts.session.Session as session
use Rattle.session_core.specs.contracts.session.Session.TheInside as session_inside
use Rattle.session_core.specs.contracts.chronicle.SessionChronicle.TheImpl as chronicle
use Rattle.session_core.proofs.steps.Core.TheSendSync as core
use Rattle.session_desk.specs.contracts.desk.Desk as desk
use Rattle.session_desk.specs.contracts.desk.Desk.TheInside as desk_inside
use Rattle.session_desk.specs.contracts.pass.Pass as pass
use Rattle.session_desk.specs.contracts.pass.Pass.TheInside as pass_inside

phrase_sync : IsSync (phrases.the_field).row
phrase_sync =
    phrase.sync-Phrase
    (search (sendable, asp.the_sync, crossing.Box-sync) depth 20)
    (search (sendable, name.the_sync) depth 20)
    (λ part shared. search (sendable, shared, crossing.Box-sync) depth 20)
    (search sendable depth 20)

checked_sync : IsSync checked.the_row
checked_sync = view_sync checked_inside.the_row _ _ _ _ (search (sendable, phrase_sync, name.the_sync) depth 20)

module _ (κ : NamedLft) (B : RattleType) (g : Ghosts B.Denot) (shared : IsSync B) where
  opened_send : IsSend (opened.the_field κ B).row
  opened_send = search (sendable, checked_sync, places.the_sync, artefacts.the_sync) depth 20

  pub session_send : IsSend (session.the_row κ B g)
  session_send =
      let type = session_inside.the_type κ B g in
      view_send (session_inside.the_row κ B g) _ _ _ _ (recorded_send (Struct (shape type)) type.D type.to type.to_one (struct_send (shape type) (search (opened_send, core.the_field_send))))

  cell_sync : IsSync (cell.the_row (session.the_row κ B g) (opened.the_row κ B) entry.the_row (chronicle.ghosts B g chronicle.no_dict))
  cell_sync = cells.the_sync (session.the_row κ B g) (opened.the_row κ B) entry.the_row (chronicle.ghosts B g chronicle.no_dict) session_send

  seat_send : IsSend (seat.the_row (session.the_row κ B g) (opened.the_row κ B) entry.the_row)
  seat_send = search (seats.the_send, session_send)

  pub desk_sync : IsSync (desk.the_row κ B g)
  desk_sync =
      let type = desk_inside.the_type κ B g in
      view_sync (desk_inside.the_row κ B g) _ _ _ _ (recorded_sync (Struct (shape type)) type.D type.to type.to_one (struct_sync (shape type) (search (sendable, cell_sync, crossing.Vec-sync) depth 20, tt)))

  pub pass_send : IsSend (pass.the_row κ B g)
  pass_send =
      let type = pass_inside.the_type κ B g in
      view_send (pass_inside.the_row κ B g) _ _ _ _ (recorded_send (Struct (shape type)) type.D type.to type.to_one (struct_send (shape type) (search sendable depth 20, (search (sendable, seat_send, crossing.Vec-send) depth 20, tt))))
