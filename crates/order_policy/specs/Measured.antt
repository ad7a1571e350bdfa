-- The measurements of a phrase with their labels, and how claims are judged over them.
use Rattle.std.specs.Prelude.{◌==◌, ◌+◌, ◌&&◌, ◌||◌, ℕ, List, [], ◌∷◌, ◌++◌, Option, Some, None, length, count_by, filter, max, min, nat_le, not, if◌then◌else◌}
use Rattle.std.specs.List.{range_with_len}
use Rattle.phrase_tree.specs.Events.{Event}
use Rattle.order_policy.specs.declared.claim.Ahead.{Ahead}
use Rattle.order_policy.specs.declared.claim.Ahead.TheVariants.{One, Every}
use Rattle.order_policy.specs.declared.claim.Service.{Service}
use Rattle.order_policy.specs.declared.claim.Claim.{Claim}
use Rattle.order_policy.specs.declared.judgement.Judgement.{Judgement}
use Rattle.order_policy.specs.declared.judgement.Judgement.TheVariants.{Holds, Broken}
use Rattle.order_policy.specs.declared.label.Label.{Label}
use Rattle.order_policy.specs.declared.measured.Measured.{Measured}
use Rattle.order_policy.specs.declared.bounds.Bounds.{Bounds}
use Rattle.order_policy.specs.Claims.{is_same, service, measured_name}
use Rattle.order_policy.specs.Labels.{is_less}

-- an event with its labels, where it is a measurement
abbrev pub measured_at : Option (List ℕ) → List ℕ → Label → List Measured
measured_at None place label = []
measured_at (Some name) place label = record { label = label; service = service name place } ∷ []

-- the measurements among these events, each with its labels
abbrev pub measured_of : List Event → List Label → List Measured
measured_of [] labels = []
measured_of (event ∷ events) [] = []
measured_of (event ∷ events) (label ∷ labels) =
    measured_at (measured_name event.kind) event.place label ++ measured_of events labels

-- the first measurement of the later service, of those in the order of their numbers, to which none of
-- the earlier service with a lesser second label comes before it; `least` is the least second label
-- of those that are passed already
abbrev pub first_bare : Claim → ℕ → List Measured → Option ℕ
first_bare claim least [] = None
first_bare claim least (one ∷ rest) =
    if is_same claim.later one.service && nat_le one.label.second least then Some one.label.first
    else first_bare claim (if is_same claim.earlier one.service then min least one.label.second else least) rest

-- numbers that are more than each label of the measurements of a service, and than what stood before
abbrev pub bounds_of : Service → Bounds → List Measured → Bounds
bounds_of wanted bounds [] = bounds
bounds_of wanted bounds (one ∷ rest) =
    bounds_of wanted
    (if is_same wanted one.service
    then record { first = max bounds.first (one.label.first + 1); second = max bounds.second (one.label.second + 1) }
    else bounds) rest

-- the first measurement of a service with a label that is less than its bound
abbrev pub first_below : Service → Bounds → List Measured → Option ℕ
first_below wanted bounds [] = None
first_below wanted bounds (one ∷ rest) =
    if is_same wanted one.service && not (nat_le bounds.first one.label.first && nat_le bounds.second one.label.second)
    then Some one.label.first
    else first_below wanted bounds rest

-- the first measurement of the later service at which some trace breaks the claim
abbrev pub first_breaking : Ahead → Claim → List Measured → Option ℕ
first_breaking One claim measured = first_bare claim 4294967295 measured
first_breaking Every claim measured =
    first_below claim.later (bounds_of claim.earlier (record { first = 0; second = 0 }) measured) measured

-- the events whose labels are both less than those of an event, in rising order, then that event, then
-- the others in rising order
abbrev pub early_trace : List Label → ℕ → List ℕ
early_trace labels event =
    filter (λ x. is_less labels x event) (range_with_len 0 (length labels))
    ++ event ∷ filter (λ x. not (x == event || is_less labels x event)) (range_with_len 0 (length labels))

-- what is found of a claim
abbrev pub judgement_from : Claim → List Label → List Measured → Option ℕ → Judgement
judgement_from claim labels measured None = Holds (count_by (λ one. is_same claim.later one.service) measured)
judgement_from claim labels measured (Some event) = Broken event (early_trace labels event)

-- the same, where the event at which it is broken is looked for
abbrev pub judgement_of : List Label → List Measured → Claim → Judgement
judgement_of labels measured claim = judgement_from claim labels measured (first_breaking claim.ahead claim measured)
