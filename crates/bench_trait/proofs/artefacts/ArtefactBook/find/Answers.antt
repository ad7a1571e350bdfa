-- The index leads to the artefact of that place and name, where there is one.
use Rattle.std.proofs.Common.{[], sym, ◌∙◌, ap, Some}
use Rattle.bench_trait.specs.Artefacts.{artefact_bytes}
use Rattle.bench_trait.specs.declared.artefacts.Artefact.{Artefact}
use Rattle.bench_trait.proofs.BookLemmas.{bytes-at_index, bytes-none}
use Rattle.bench_trait.proofs.artefacts.ArtefactBook.find.Goals as goal

nothing : Artefact
nothing = record { place = []; name = []; bytes = [] }

pub index-requires : goal.index-requires
index-requires c =
    rw c.self.inside.entries.ok.0 (bytes-at_index c.self.inside.entries.items c.args.place c.args.name c.in-Some.at.now nothing (sym (c.in-Some.ensures.value ∙ c.self.invariant.indexed c.args.place c.args.name))).0

pub returns-in-Some : goal.returns-in-Some
returns-in-Some c =
    let found = bytes-at_index c.self.inside.entries.items c.args.place c.args.name c.in-Some.at.now c.index.result.now (sym (c.in-Some.ensures.value ∙ c.self.invariant.indexed c.args.place c.args.name)) in
    ap (λ bytes. Some bytes) (c.items.ensures ∙ ap (λ (artefact : Artefact). artefact.bytes) c.index.ensures)
    ∙ sym found.1
    ∙ ap (λ book. artefact_bytes book c.args.place c.args.name) c.self.view_is

pub returns-in-None : goal.returns-in-None
returns-in-None c =
    sym (bytes-none c.self.inside.entries.items c.args.place c.args.name (sym (c.in-None.ensures.value ∙ c.self.invariant.indexed c.args.place c.args.name)))
    ∙ ap (λ book. artefact_bytes book c.args.place c.args.name) c.self.view_is
