-- Claims about the order in which measurements happen, and what it is for a trace to have one.
use Rattle.std.specs.Prelude.{◌≡◌, ◌<◌, ◌⊎◌, ◌&&◌, ℕ, Bool, false, List, [], ◌∷◌, Option, Some, None, IsTrue, length, take, nat_eq, count_by, slice_index, Contains}
use Rattle.std.specs.Cmp.Lexicographic.{pointwise}
use Rattle.phrase_tree.specs.Events.{Event, Kind, copies, measures, measures_at, seals, hashes, empties, requests, replies, splits, joins}
use Rattle.order_policy.specs.declared.claim.Ahead.{Ahead}
use Rattle.order_policy.specs.declared.claim.Ahead.TheVariants.{One, Every}
use Rattle.order_policy.specs.declared.claim.Claim.{Claim}
use Rattle.order_policy.specs.declared.claim.Service.{Service}

-- the same name and the same place
abbrev pub is_same : Service → Service → Bool
is_same one other = pointwise nat_eq one.name other.name && pointwise nat_eq one.place other.place

-- a name and a place as a service
abbrev pub service : List ℕ → List ℕ → Service
service name place = record { name = name; place = place }

-- the name of the measurement that happens; none where another thing happens
abbrev pub measured_name : Kind → Option (List ℕ)
measured_name copies = None
measured_name (measures asp) = Some asp.name
measured_name (measures_at target asp) = Some asp.name
measured_name seals = None
measured_name hashes = None
measured_name empties = None
measured_name (requests asked) = None
measured_name (replies asked) = None
measured_name splits = None
measured_name joins = None

-- this measurement at this place is one of the service
abbrev pub names_service : Service → List ℕ → Option (List ℕ) → Bool
names_service wanted place None = false
names_service wanted place (Some name) = is_same wanted (service name place)

-- the event is a measurement of the service, whatever its arguments
abbrev pub is_of : Service → Event → Bool
is_of wanted event = names_service wanted event.place (measured_name event.kind)

-- the number is that of one of these events, which is a measurement of the service
abbrev pub IsOf : List Event → Service → ℕ → Type 0
IsOf [] wanted n = ⊥
IsOf (event ∷ rest) wanted n = ((event.number ≡ n) × IsTrue (is_of wanted event)) ⊎ IsOf rest wanted n

-- how many of these events are measurements of the service
abbrev pub count_of : List Event → Service → ℕ
count_of events wanted = count_by (is_of wanted) events

-- x stands ahead of y in a trace
pub record StandsAhead (trace : List ℕ) (x y : ℕ) : Type 0 where
  pub position : ℕ
  pub within : position < length trace
  pub there : slice_index trace position ≡ y
  pub ahead : Contains (take position trace) x

-- one or every measurement of the earlier service stands ahead of y
abbrev pub HasAhead : Ahead → List Event → Service → List ℕ → ℕ → Type 0
HasAhead One events earlier trace y = (x : ℕ) × (IsOf events earlier x × StandsAhead trace x y)
HasAhead Every events earlier trace y = (x : ℕ) → IsOf events earlier x → StandsAhead trace x y

-- the trace has the claim at each measurement of the later service
abbrev pub HasClaim : List Event → Claim → List ℕ → Type 0
HasClaim events claim trace = (y : ℕ) → IsOf events claim.later y → HasAhead claim.ahead events claim.earlier trace y
