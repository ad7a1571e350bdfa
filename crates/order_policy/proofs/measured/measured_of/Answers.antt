use Rattle.std.proofs.Common.{◌≡◌, ◌∙◌, sym, ap, length, map, List}
use Rattle.phrase_tree.specs.Term.{term}
use Rattle.phrase_tree.specs.Events.{events_of}
use Rattle.event_system.specs.declared.event.Event.{Event}
use Rattle.event_system.specs.Events.{event_of}
use Rattle.order_policy.specs.declared.label.Label.{Label}
use Rattle.order_policy.proofs.MeasuredLaws.{mapped_length}
use Rattle.order_policy.proofs.measured.measured_of.Goals as goal

pub gather-requires : goal.gather-requires
gather-requires c =
    let of_phrase : map event_of c.in_ok-events.events ≡ events_of (term c.args.phrase.now) c.args.root 0 = c.in_ok-events.ensures in
    ap (λ (events : List Event). length events) c.items.ensures
    ∙ mapped_length event_of c.in_ok-events.events (term c.args.phrase.now) c.args.root of_phrase
    ∙ sym (ap (λ (labels : List Label). length labels) (c.items-2.ensures ∙ c.requires.labels))
