-- The references of a made job: what the program's own bench answers (this project's own).
use Rattle.std.specs.Prelude.{◌-◌, ◌/◌, ◌%◌, ℕ, List, [], nat_lt, unwrap_or, if◌then◌else◌}
use Rattle.phrase_tree.specs.declared.measurement.Asp.{Asp}
use Rattle.bench_trait.specs.declared.artefacts.Artefact.{Artefact}
use Rattle.bench_trait.specs.declared.ask.AskKind.{AskKind}
use Rattle.bench_trait.specs.declared.ask.AskKind.TheVariants.{Usm, Kim}
use Rattle.bench_trait.specs.Digest.{digest_answer}
use Rattle.reference_book.specs.declared.reference.Reference.{Reference}
use Rattle.load_maker.specs.Made.{listed}
use Rattle.load_maker.specs.Names.{place_name, plain_asp}

-- what that bench answers to a measurement, whatever the session and the event are
abbrev pub bench_answer : List Artefact → List ℕ → AskKind → Asp → List ℕ
bench_answer artefacts place kind asp =
    unwrap_or (digest_answer artefacts (record { nonce = []; event = 0; place = place; kind = kind; asp = asp })) []

abbrev pub bench_reference : List Artefact → List ℕ → AskKind → Asp → Reference
bench_reference artefacts place kind asp =
    record { place = place; kind = kind; asp = asp; answer = bench_answer artefacts place kind asp }

-- the reference of a number for a place's own measurements: by place, and for each by name
abbrev pub usm_reference : List Artefact → ℕ → Reference
usm_reference artefacts number = bench_reference artefacts (place_name (number / 8)) Usm (plain_asp (number % 8))

-- the reference of a number for measurements of a target: by place, for each by target, and then by name
abbrev pub kim_reference : List Artefact → ℕ → Reference
kim_reference artefacts number =
    bench_reference artefacts (place_name (number / 64)) (Kim (place_name (number / 8 % 8))) (plain_asp (number % 8))

-- the reference of a number: 64 for the places' own measurements, and then 512 for those of targets
abbrev pub made_reference : List Artefact → ℕ → Reference
made_reference artefacts number =
    if nat_lt number 64 then usm_reference artefacts number else kim_reference artefacts (number - 64)

-- all of them
unfoldable pub made_references : List Artefact → List Reference
made_references artefacts = listed (made_reference artefacts) 576
