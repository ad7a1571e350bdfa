-- The events of the program as those of the event list.
use Rattle.std.specs.Prelude.{Bool, if◌then◌else◌}
use Rattle.phrase_tree.specs.Term.{Term, leaf, at, chain, seq, par}
use Rattle.phrase_tree.specs.Events.{Kind, copies, measures, measures_at, seals, hashes, empties, requests, replies, splits, joins, event, leaf_kind}
use Rattle.phrase_tree.specs.Events as listed
use Rattle.event_system.specs.declared.event.EventKind.{EventKind}
use Rattle.event_system.specs.declared.event.EventKind.TheVariants.{Cpy, Usm, Kim, Sig, Hsh, Nul, Req, Rpl, Split, Join}
use Rattle.event_system.specs.declared.event.Event.{Event}

-- what happens, as the event list has it
abbrev pub kind_of : EventKind → Kind
kind_of Cpy = copies
kind_of (Usm asp) = measures asp
kind_of (Kim target asp) = measures_at target asp
kind_of Sig = seals
kind_of Hsh = hashes
kind_of Nul = empties
kind_of (Req asked) = requests asked
kind_of (Rpl asked) = replies asked
kind_of Split = splits
kind_of Join = joins

-- an event, as the event list has it
abbrev pub event_of : Event → listed.Event
event_of happened = event happened.number (kind_of happened.kind) happened.place

-- what happens at the first event of a part that isn't a chain, and at its last where it has others
abbrev pub edge_kind : Bool → Term → Kind
edge_kind closing (leaf form) = leaf_kind form
edge_kind closing (at asked body) = if closing then replies asked else requests asked
edge_kind closing (chain left right) = copies
edge_kind closing (seq split left right) = if closing then joins else splits
edge_kind closing (par split left right) = if closing then joins else splits
