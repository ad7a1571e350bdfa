use Rattle.std.proofs.Common.{List, [], ◌∷◌, refl, ap, ◌∙◌, subst}
use Rattle.phrase_tree.specs.Numbering.{event_count}
use Rattle.evidence_types.specs.Evidence.{nonce}
use Rattle.session_runs.specs.Standing.{Block, opening}
use Rattle.avm_code.specs.declared.instr.BlockName.{BlockName}
use Rattle.machine_tables.specs.Tables.{Tables, next_of, opening_tables}
use Rattle.session_tables.specs.Touched.{named}
use Rattle.session_agenda.specs.declared.moves.Update.{Update}
use Rattle.session_agenda.specs.Updated.{Says}
use Rattle.session_book.specs.Entries.{history_of}
use Rattle.session_core.specs.Core.{program_in, tables_in}
use Rattle.session_core.proofs.Told.{room_all, opened-told}
use Rattle.session_core.proofs.steps.Core.tell_of_opening.Goals as goal

pub update-root-requires : goal.update-root-requires
update-root-requires c = (c.requires.1, c.requires.3.played.knows)

pub follow-requires-clause-kept : goal.follow-requires-clause-kept
follow-requires-clause-kept c = c.requires.3.made.kept

pub follow-requires-clause-room : goal.follow-requires-clause-room
follow-requires-clause-room c =
    let core = c.args.self.now in
    let session = c.requires.0 in
    let keys = c.requires.1 in
    let o = c.requires.3 in
    let updates : List Update = c.update-root.result ∷ [] in
    room_all (event_count session.phrase) core.agenda (next_of (tables_in core)) o.made.blocks o.made.events
    (λ number step event is. c.free_law.ensures.blocks session keys (history_of core.book) (opening session) (tables_in core) number step event o.played.played is)
    (λ block step event is. c.free_law.ensures.events session keys (history_of core.book) (opening session) (tables_in core) block step event o.played.played refl is)
    updates (c.update-root.ensures.says, tt)

pub follow-requires-clause-updates : goal.follow-requires-clause-updates
follow-requires-clause-updates c =
    let core = c.args.self.now in
    let session = c.requires.0 in
    let o = c.requires.3 in
    let updates : List Update = c.update-root.result ∷ [] in
    let names = ap (λ (n : BlockName). let l : List Block = named n ∷ [] in l) c.update-root.ensures.name in
    let says = subst (λ (t : Tables). Says (next_of t) c.update-root.result) o.opens c.update-root.ensures.says in
    (next_of (opening_tables (program_in session) (nonce session.nonce)), c.opening_law.ensures.blocks (program_in session) (nonce session.nonce) core.agenda updates o.idle names (says, tt))

pub returns-clause-core : goal.returns-clause-core
returns-clause-core c = λ session keys places o.
    let core = c.args.self.now in
    let updates : List Update = c.update-root.result ∷ [] in
    let names = ap (λ (n : BlockName). let l : List Block = named n ∷ [] in l) c.update-root.ensures.name in
    let says = subst (λ (t : Tables). Says (next_of t) c.update-root.result) o.opens c.update-root.ensures.says in
    let becomes = c.opening_law.ensures.blocks (program_in session) (nonce session.nonce) core.agenda updates o.idle names (says, tt) in
    opened-told session keys places core o c.follow.new.self
    (c.opening_law.ensures.follows (program_in session) (nonce session.nonce) places c.follow.new.self
    (c.follow.ensures.blocks (next_of (opening_tables (program_in session) (nonce session.nonce))) becomes)
    (λ index. c.follow.ensures.places index ∙ o.empty index))
    c.follow.ensures.kept c.follow.ensures.bounds
