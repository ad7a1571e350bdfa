use Rattle.std.proofs.Common.{◌≡◌, ap, sym, ◌∙◌, subst, arith}
use Rattle.std.specs.List.{insert}
use Rattle.rising_list.specs.Rising.{RisesFrom, place}
use Rattle.rising_list.proofs.RisingLemmas.{inserted_at, RisesFrom-inserted}
use Rattle.rising_list.proofs.entries.insert_in.Goals as goal

pub returns-clause-items : goal.returns-clause-items
returns-clause-items g c =
    let made : c.insert.new.self.items ≡ insert c.args.entries.now.items c.place_of-at.result (c.args.number, c.args.value) = rw c.unwrap.ensures at c.insert.ensures.items in
    let at : c.place_of-at.result ≡ place c.args.number c.args.entries.now.items = c.place_of-at.ensures.place ∙ ap (λ items. place c.args.number items) c.deref.ensures.value in
    made
    ∙ ap (λ index. insert c.args.entries.now.items index (c.args.number, c.args.value)) at
    ∙ sym (inserted_at c.args.number c.args.value c.args.entries.now.items)

pub returns-clause-rises : goal.returns-clause-rises
returns-clause-rises g c =
    subst (λ items. RisesFrom 0 items) (sym (returns-clause-items g c)) (RisesFrom-inserted 0 c.args.number c.args.value c.args.entries.now.items c.requires.rises (omega arith) c.requires.free)
