-- Lists and objects of a tree, as the readers see them.
use Rattle.std.proofs.Common.{◌≡◌, suc, not, ◌||◌, List, [], ◌∷◌, length, refl, ap, ◌∙◌, add-one, string_bytes}
use Rattle.std.specs.List.{list_any}
use Rattle.std.specs.Prelude.{String}
use Rattle.std.specs.Map.{keys_of}
use Rattle.std.specs.declared.alloc.Global.{Global}
use Rattle.serde_json.specs.declared.value.Value.{Value}
use Rattle.serde_json.specs.View.{items_view, members_view}
use Rattle.job_values.specs.declared.words.Field.{Field}
use Rattle.job_values.specs.Reading.{count, has_other, is_known}

pub count_items : (items : List Value) → count (items_view items) ≡ length items
count_items [] = refl
count_items (item ∷ rest) = add-one (count (items_view rest)) ∙ ap suc (count_items rest)

pub other_keys : (fields : List Field) (members : List (String Global × Value)) → list_any (λ key. not (is_known fields (string_bytes key))) (keys_of members) ≡ has_other fields (members_view members)
other_keys fields [] = refl
other_keys fields (entry ∷ rest) = ap (λ found. not (is_known fields (string_bytes entry.0)) || found) (other_keys fields rest)
