-- The places of a made job (this project's own).
use Rattle.std.specs.Prelude.{◌+◌, ◌*◌, ℕ, List}
use Rattle.place_check.specs.declared.entry.PlaceEntry.{PlaceEntry}
use Rattle.load_maker.specs.Made.{listed}
use Rattle.load_maker.specs.Names.{asp_name, place_name}

-- the key of a place: 32 bytes, which count up from 16 times its number
unfoldable pub key_bytes : ℕ → List ℕ
key_bytes number = listed (λ byte. 16 * number + byte) 32

-- a place asks and sees all eight, and offers eight measurements
unfoldable pub place_entry : ℕ → PlaceEntry
place_entry number = record {
  name = place_name number;
  key = key_bytes number;
  asks = listed place_name 8;
  sees = listed place_name 8;
  offers = listed asp_name 8;
}

-- all eight
unfoldable pub made_places : List PlaceEntry
made_places = listed place_entry 8
