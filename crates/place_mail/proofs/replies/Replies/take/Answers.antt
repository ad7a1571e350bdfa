use Rattle.std.proofs.Common.{length, ap, arith}
use Rattle.rising_list.proofs.RisingLemmas.{removed_length}
use Rattle.place_mail.proofs.replies.Replies.take.Goals as goal

pub invariant_of-self : goal.invariant_of-self
invariant_of-self c =
    let old = c.self.inside.entries in
    let new = c.remove_in.new.entries in (
      c.remove_in.ensures.rises,
      omega (arith, old.ok.0, new.ok.0, c.self.invariant.1, c.remove_in.ensures.capacity, ap (λ entries. length entries) c.remove_in.ensures.items, removed_length c.args.number old.items),
    )
