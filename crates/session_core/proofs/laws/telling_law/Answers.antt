use Rattle.std.proofs.Common.{sym, ◌∙◌}
use Rattle.phrase_tree.specs.Numbering.{event_count}
use Rattle.machine_tables.specs.Tables.{next_of}
use Rattle.session_agenda.specs.Told.{touched_place}
use Rattle.session_core.specs.Core.{tables_in}
use Rattle.session_book.specs.Entries.{history_of}
use Rattle.session_core.proofs.Told.{room_all, place_below, standing-open, new-open}
use Rattle.session_core.proofs.laws.telling_law.Goals as goal

pub returns-clause-becomes : goal.returns-clause-becomes
returns-clause-becomes c = λ session keys places first second place core updates b opened names says.
    let new = tables_in core in
    let stands = standing-open session keys places first second place core b opened in
    c.told_law.ensures.blocks session keys b.late.history b.before new b.entry places core.agenda updates place b.late.held b.late.taken (new-open session keys places first second place core b opened)
    (λ one other step step_of_other event is of_other. c.free_law.ensures.one session keys (history_of core.book) b.standing new one other step step_of_other event b.late.played.played stands is of_other)
    b.late.follows
    (record { names = names ∙ sym b.names; said = says; where_waits = b.where_waits })

pub returns-clause-room : goal.returns-clause-room
returns-clause-room c = λ session keys places first second place core updates b opened says.
    let new = tables_in core in
    let stands = standing-open session keys places first second place core b opened in (
      room_all (event_count session.phrase) core.agenda (next_of new) b.late.made.blocks b.late.made.events
          (λ number step event is. c.free_law.ensures.blocks session keys (history_of core.book) b.standing new number step event b.late.played.played is)
          (λ block step event is. c.free_law.ensures.events session keys (history_of core.book) b.standing new block step event b.late.played.played stands is)
          updates says,
      place_below places new (touched_place b.before b.entry) place core.agenda.places.bound b.late.made.deliveries b.where_waits,
    )

pub returns-clause-follows : goal.returns-clause-follows
returns-clause-follows c = λ session keys places first second place core updates after b opened names says blocks waits.
    c.told_law.ensures.follows session keys b.before (tables_in core) b.entry places core.agenda after updates place b.late.taken b.late.made.apart b.late.follows
    (record { names = names ∙ sym b.names; said = says; where_waits = b.where_waits }) blocks waits
