-- What a source told is what it gave.
use Rattle.std.proofs.Common.{◌≡◌, ◌≤◌, ℕ, List, ◌++◌, length, sym, ap, ◌∙◌, arith, length-append}
use Rattle.std.proofs.lemmas.List.{append-nil}
use Rattle.std.specs.Prelude.{Option, None, Some}
use Rattle.byte_ports.specs.Port.{Gave, IsAtEnd}
use Rattle.copland_cli.specs.Port.{Port, IsTooLong, IsUnread, input_limit}

-- what was given up to the end is what was told
pub whole : (before after : Option (List ℕ)) (told bytes : List ℕ) → before ≡ Some told → Gave before after bytes → IsAtEnd after → bytes ≡ told
whole None None told bytes is gave end = absurd cc
whole None (Some after) told bytes is gave end = absurd gave
whole (Some before) None told bytes is gave end = absurd gave
whole (Some before) (Some after) told bytes is gave end =
    let same : before ≡ told = cc in
    sym (append-nil bytes) ∙ ap (λ rest. bytes ++ rest) (sym end) ∙ sym gave ∙ same

-- no more is given than was told
pub within : (before after : Option (List ℕ)) (told given : List ℕ) → before ≡ Some told → Gave before after given → length given ≤ length told
within None None told given is gave = absurd cc
within None (Some after) told given is gave = absurd gave
within (Some before) None told given is gave = absurd gave
within (Some before) (Some after) told given is gave =
    let same : before ≡ told = cc in
    omega (arith, ap length same, ap length gave, length-append given after)

-- two pieces that were given between the same moments are of one length
same_length : (before after : Option (List ℕ)) (told given bytes : List ℕ) → before ≡ Some told → Gave before after given → Gave before after bytes → length given ≡ length bytes
same_length None None told given bytes is gave other = absurd cc
same_length None (Some after) told given bytes is gave other = absurd gave
same_length (Some before) None told given bytes is gave other = absurd gave
same_length (Some before) (Some after) told given bytes is gave other =
    omega (arith, ap length gave, ap length other, length-append given after, length-append bytes after)

-- a source that tells its bytes didn't give both too many and few
pub not_both : (source : Port) (left bytes : List ℕ) → source.bytes_before ≡ Some left → IsTooLong source → Gave source.bytes_before source.bytes_after bytes → length bytes ≤ input_limit → ⊥
not_both source left bytes told long gave short =
    let same = same_length source.bytes_before source.bytes_after left long.0 bytes told long.1 gave in omega (arith, same, short, long.2)

-- a source that wasn't read gave nothing
same_left : (told given : List ℕ) → told ≡ given ++ told → length given ≡ 0
same_left told given is = let grown = ap length is in omega (arith, grown, length-append given told)

none_between : (before after : Option (List ℕ)) (told given : List ℕ) → before ≡ Some told → after ≡ before → Gave before after given → length given ≡ 0
none_between None None told given is same gave = absurd cc
none_between None (Some after) told given is same gave = absurd gave
none_between (Some before) None told given is same gave = absurd gave
none_between (Some before) (Some after) told given is same gave =
    let equal : after ≡ before = cc same in same_left before given (gave ∙ ap (λ rest. given ++ rest) equal)

pub none_given : (source : Port) (left : List ℕ) → source.bytes_before ≡ Some left → IsTooLong source → IsUnread source → ⊥
none_given source left told long unread =
    let none = none_between source.bytes_before source.bytes_after left long.0 told unread.bytes long.1 in omega (arith, none, long.2)
