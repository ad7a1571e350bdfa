use Rattle.std.proofs.Common.{length, ap, ◌∙◌, arith}
use Rattle.rising_list.proofs.RisingLemmas.{inserted_length}
use Rattle.place_mail.specs.Mail.{Replied}
use Rattle.place_mail.proofs.replies.Replies.put.Goals as goal

pub invariant_of-self : goal.invariant_of-self
invariant_of-self c =
    let old = c.self.inside.entries in
    let new = c.insert_in.new.entries in (
      c.insert_in.ensures.rises,
      omega (arith, old.ok.0, new.ok.0, c.self.invariant.1, c.requires.room, ap (λ (r : Replied). r.room) c.self.view_is, c.insert_in.ensures.capacity, ap (λ entries. length entries) c.insert_in.ensures.items ∙ inserted_length c.args.number c.args.evidence old.items),
    )
