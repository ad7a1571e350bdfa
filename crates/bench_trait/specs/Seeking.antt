-- How the code looks for the question of an event.
use Rattle.std.specs.Prelude.{◌≡◌, ◌+◌, ◌^◌, ◌<◌, ℕ, Option, None, Some, nat_eq, if◌then◌else◌}
use Rattle.bench_trait.specs.declared.ask.Ask.{Ask}
use Rattle.bench_trait.specs.declared.asking.Sought.{Sought}
use Rattle.bench_trait.specs.declared.asking.Sought.TheVariants.{Found, Passed}

-- the question was found, or is not there and all events up to a number were passed
abbrev pub IsSought : Sought → Option Ask → ℕ → Type 0
IsSought (Found ask) question next = question ≡ Some ask
IsSought (Passed after) question next = (question ≡ None) × (after ≡ next)

-- the question of one measurement event, where it is the one that is looked for
abbrev pub asked_by : Ask → ℕ → Option Ask
asked_by ask event = if nat_eq ask.event event then Some ask else None

-- one more event may be passed
abbrev pub MayPassOne : Sought → Type 0
MayPassOne (Found ask) = Unit {0}
MayPassOne (Passed next) = next + 1 < 2 ^ 32

-- one more event was passed
abbrev pub PassesOne : Sought → Sought → Type 0
PassesOne (Found ask) (Found same) = same ≡ ask
PassesOne (Found ask) (Passed next) = ⊥
PassesOne (Passed next) (Found ask) = ⊥
PassesOne (Passed next) (Passed after) = after ≡ next + 1
