use Rattle.std.proofs.Common.{[], ◌∷◌, List, sym, ap, ◌∙◌}
use Rattle.std.specs.List.{AllByRecursion}
use Rattle.session_runs.specs.Standing.{Block}
use Rattle.avm_code.specs.declared.instr.BlockName.{BlockName}
use Rattle.machine_tables.specs.Tables.{next_of}
use Rattle.session_tables.specs.Touched.{named}
use Rattle.session_agenda.specs.declared.moves.Update.{Update}
use Rattle.session_agenda.specs.Updated.{Says}
use Rattle.session_core.specs.Core.{tables_in}
use Rattle.session_core.specs.Steps.{told_names}
use Rattle.session_core.proofs.Told.{told-core}
use Rattle.session_core.proofs.steps.Core.tell_now.Goals as goal

pub update-one-requires : goal.update-one-requires
update-one-requires c = (c.requires.behind.1, c.requires.behind.3.late.played.knows)

pub follow-requires-clause-kept : goal.follow-requires-clause-kept
follow-requires-clause-kept c = c.requires.behind.3.late.made.kept

pub follow-requires-clause-room : goal.follow-requires-clause-room
follow-requires-clause-room c =
    let b = c.requires.behind in
    let updates : List Update = c.update-one.result ∷ [] in
    (c.telling_law.ensures.room b.0 b.1 b.2 c.args.first c.args.second c.args.place c.args.self.now updates b.3 c.requires.opened (c.update-one.ensures.says, tt)).0

pub follow-requires-clause-place : goal.follow-requires-clause-place
follow-requires-clause-place c =
    let b = c.requires.behind in
    let updates : List Update = c.update-one.result ∷ [] in
    (c.telling_law.ensures.room b.0 b.1 b.2 c.args.first c.args.second c.args.place c.args.self.now updates b.3 c.requires.opened (c.update-one.ensures.says, tt)).1

pub follow-requires-clause-updates : goal.follow-requires-clause-updates
follow-requires-clause-updates c =
    let b = c.requires.behind in
    let updates : List Update = c.update-one.result ∷ [] in
    let names = ap (λ (n : BlockName). let l : List Block = named n ∷ [] in l) c.update-one.ensures.name ∙ ap (told_names c.args.first) (sym c.in-None.is) in
    (next_of (tables_in c.args.self.now), c.telling_law.ensures.becomes b.0 b.1 b.2 c.args.first c.args.second c.args.place c.args.self.now updates b.3 c.requires.opened names (c.update-one.ensures.says, tt))

pub returns-in-None-clause-core : goal.returns-in-None-clause-core
returns-in-None-clause-core c = λ session keys places b.
    let core = c.args.self.now in
    let updates : List Update = c.update-one.result ∷ [] in
    let names = ap (λ (n : BlockName). let l : List Block = named n ∷ [] in l) c.update-one.ensures.name ∙ ap (told_names c.args.first) (sym c.in-None.is) in
    let says : AllByRecursion (Says (next_of (tables_in core))) updates = (c.update-one.ensures.says, tt) in
    let becomes = c.telling_law.ensures.becomes session keys places c.args.first c.args.second c.args.place core updates b c.requires.opened names says in
    told-core session keys places c.args.first c.args.second c.args.place core b c.follow.new.self c.requires.opened
    (c.telling_law.ensures.follows session keys places c.args.first c.args.second c.args.place core updates c.follow.new.self b c.requires.opened names says (c.follow.ensures.blocks (next_of (tables_in core)) becomes) c.follow.ensures.places)
    c.follow.ensures.kept c.follow.ensures.bounds

pub update-other-requires : goal.update-other-requires
update-other-requires c = (c.requires.behind.1, c.requires.behind.3.late.played.knows)

pub follow-requires-in-Some-clause-kept : goal.follow-requires-in-Some-clause-kept
follow-requires-in-Some-clause-kept c = c.requires.behind.3.late.made.kept

pub follow-requires-in-Some-clause-room : goal.follow-requires-in-Some-clause-room
follow-requires-in-Some-clause-room c =
    let b = c.requires.behind in
    let updates : List Update = c.update-one.result ∷ c.update-other.result ∷ [] in
    (c.telling_law.ensures.room b.0 b.1 b.2 c.args.first c.args.second c.args.place c.args.self.now updates b.3 c.requires.opened (c.update-one.ensures.says, (c.update-other.ensures.says, tt))).0

pub follow-requires-in-Some-clause-place : goal.follow-requires-in-Some-clause-place
follow-requires-in-Some-clause-place c =
    let b = c.requires.behind in
    let updates : List Update = c.update-one.result ∷ c.update-other.result ∷ [] in
    (c.telling_law.ensures.room b.0 b.1 b.2 c.args.first c.args.second c.args.place c.args.self.now updates b.3 c.requires.opened (c.update-one.ensures.says, (c.update-other.ensures.says, tt))).1

pub follow-requires-in-Some-clause-updates : goal.follow-requires-in-Some-clause-updates
follow-requires-in-Some-clause-updates c =
    let b = c.requires.behind in
    let updates : List Update = c.update-one.result ∷ c.update-other.result ∷ [] in
    let names = ap (λ (n : BlockName). let l : List Block = named n ∷ named c.update-other.result.name ∷ [] in l) c.update-one.ensures.name ∙ ap (λ (n : BlockName). let l : List Block = named c.args.first ∷ named n ∷ [] in l) c.update-other.ensures.name ∙ ap (told_names c.args.first) (sym c.in-Some.is) in
    (next_of (tables_in c.args.self.now), c.telling_law.ensures.becomes b.0 b.1 b.2 c.args.first c.args.second c.args.place c.args.self.now updates b.3 c.requires.opened names (c.update-one.ensures.says, (c.update-other.ensures.says, tt)))

pub returns-in-Some-clause-core : goal.returns-in-Some-clause-core
returns-in-Some-clause-core c = λ session keys places b.
    let core = c.args.self.now in
    let updates : List Update = c.update-one.result ∷ c.update-other.result ∷ [] in
    let names = ap (λ (n : BlockName). let l : List Block = named n ∷ named c.update-other.result.name ∷ [] in l) c.update-one.ensures.name ∙ ap (λ (n : BlockName). let l : List Block = named c.args.first ∷ named n ∷ [] in l) c.update-other.ensures.name ∙ ap (told_names c.args.first) (sym c.in-Some.is) in
    let says : AllByRecursion (Says (next_of (tables_in core))) updates = (c.update-one.ensures.says, (c.update-other.ensures.says, tt)) in
    let becomes = c.telling_law.ensures.becomes session keys places c.args.first c.args.second c.args.place core updates b c.requires.opened names says in
    told-core session keys places c.args.first c.args.second c.args.place core b c.follow-in-Some.new.self c.requires.opened
    (c.telling_law.ensures.follows session keys places c.args.first c.args.second c.args.place core updates c.follow-in-Some.new.self b c.requires.opened names says (c.follow-in-Some.ensures.blocks (next_of (tables_in core)) becomes) c.follow-in-Some.ensures.places)
    c.follow-in-Some.ensures.kept c.follow-in-Some.ensures.bounds
