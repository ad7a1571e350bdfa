-- Books of artefacts: look-ups by place and name.
use Rattle.std.specs.Prelude.{◌≡◌, ◌^◌, ◌<◌, ◌&&◌, ℕ, suc, Bool, List, [], ◌∷◌, ◌++◌, length, Option, None, Some, Result, Ok, Err, nat_eq, if◌then◌else◌}
use Rattle.std.specs.Option.{option_map}
use Rattle.std.specs.Ordering.{nat_cmp, ordering_then}
use Rattle.std.specs.declared.cmp.Ordering.{Ordering}
use Rattle.std.specs.Cmp.Lexicographic.{pointwise, slice_cmp}
use Rattle.std.specs.BTreeMap as tree
use Rattle.std.specs.BTreeMap.{BTreeMap}
use Rattle.bench_trait.specs.declared.artefacts.Artefact.{Artefact}
use Rattle.bench_trait.specs.declared.artefacts.BookError.{BookError}
use Rattle.bench_trait.specs.declared.artefacts.BookError.TheVariants.{Repeated, NoMemory}

-- the artefact stands at that place under that name
abbrev pub is_artefact : List ℕ → List ℕ → Artefact → Bool
is_artefact place name artefact = pointwise nat_eq artefact.place place && pointwise nat_eq artefact.name name

-- the bytes of the first artefact of that place and name
abbrev pub artefact_bytes : List Artefact → List ℕ → List ℕ → Option (List ℕ)
artefact_bytes [] place name = None
artefact_bytes (artefact ∷ rest) place name =
    if is_artefact place name artefact then Some artefact.bytes else artefact_bytes rest place name

-- where the first artefact of that place and name stands
abbrev pub artefact_index : List Artefact → List ℕ → List ℕ → Option ℕ
artefact_index [] place name = None
artefact_index (artefact ∷ rest) place name =
    if is_artefact place name artefact then Some 0 else option_map suc (artefact_index rest place name)

-- an artefact is added at the end, exactly where the book has none of its place and name; else the
-- error names the one that it has; want of memory may come in place of either, and changes nothing
abbrev pub Adds : List Artefact → List Artefact → Result Unit BookError → Artefact → Type 0
Adds old new (Ok done) artefact =
    (artefact_index old artefact.place artefact.name ≡ None) × (new ≡ old ++ artefact ∷ [])
Adds old new (Err (Repeated first)) artefact =
    (artefact_index old artefact.place artefact.name ≡ Some first) × (new ≡ old)
Adds old new (Err NoMemory) artefact = new ≡ old

-- the order of keys: by place, then by name, each as a text
abbrev pub key_cmp : List ℕ × List ℕ → List ℕ × List ℕ → Ordering
key_cmp key other = ordering_then (slice_cmp nat_cmp key.0 other.0) (slice_cmp nat_cmp key.1 other.1)

-- the index has the place of every artefact, and of nothing else
pub record IsIndexed (entries : List Artefact) (index : BTreeMap (List ℕ × List ℕ) ℕ) : Type 0 where
  pub few : length entries < 2 ^ 32
  pub indexed : (place name : List ℕ) → tree.get key_cmp index (place, name) ≡ artefact_index entries place name
