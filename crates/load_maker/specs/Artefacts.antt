-- The artefacts of a made job (this project's own).
use Rattle.std.specs.Prelude.{◌/◌, ◌%◌, ◌<◌, ℕ, zero, suc, List, [], ◌∷◌, ◌++◌, Option, IsSome}
use Rattle.bench_trait.specs.declared.artefacts.Artefact.{Artefact}
use Rattle.bench_trait.specs.Artefacts.{artefact_bytes}
use Rattle.session_runs.specs.Schedule.{draw}
use Rattle.load_maker.specs.Made.{Made, made}
use Rattle.load_maker.specs.Names.{asp_name, place_name}

-- so many bytes, each drawn below 256
unfoldable pub drawn_bytes : ℕ → Option ℕ → Made (List ℕ)
drawn_bytes zero from = made [] from
drawn_bytes (suc n) from =
    let before = drawn_bytes n from in
    let byte = draw 256 before.from in
    made (before.thing ++ byte.drawn ∷ []) byte.from

-- the artefact of a number: each place has eight, in the order of the places and at each of the names
abbrev pub numbered_artefact : ℕ → List ℕ → Artefact
numbered_artefact number bytes = record { place = place_name (number / 8); name = asp_name (number % 8); bytes = bytes }

-- the artefacts of the numbers below one, each of 64 bytes
unfoldable pub made_artefacts : ℕ → Option ℕ → Made (List Artefact)
made_artefacts zero from = made [] from
made_artefacts (suc n) from =
    let before = made_artefacts n from in
    let bytes = drawn_bytes 64 before.from in
    made (before.thing ++ numbered_artefact n bytes.thing ∷ []) bytes.from

-- each place has one of each name
abbrev pub HasEachArtefact : List Artefact → Type 0
HasEachArtefact artefacts =
    (place name : ℕ) → place < 8 → name < 8 → IsSome (artefact_bytes artefacts (place_name place) (asp_name name))
