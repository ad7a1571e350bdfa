-- The order of references by which they are looked up, and indices that stand in it.
use Rattle.std.specs.Prelude.{◌<◌, ◌^◌, ◌&&◌, ℕ, Bool, true, false, List, [], ◌∷◌, Option, None, Some, Vec, IfSome, length, slice_get, filter, nat_lt, if◌then◌else◌}
use Rattle.std.specs.declared.alloc.Global.{Global}
use Rattle.std.specs.List.{range_with_len}
use Rattle.std.specs.List.Sorted.{IsSorted, IsStable}
use Rattle.std.specs.Option.{option_cmp}
use Rattle.std.specs.Ordering.{is_eq, is_lt, nat_cmp, ordering_then}
use Rattle.std.specs.declared.cmp.Ordering.{Ordering}
use Rattle.std.specs.declared.cmp.Ordering.TheVariants.{Less, Equal, Greater}
use Rattle.std.specs.Cmp.Lexicographic.{slice_cmp}
use Rattle.phrase_tree.specs.declared.measurement.Arg.{Arg}
use Rattle.phrase_tree.specs.declared.measurement.Arg.TheVariants.{Word, Number}
use Rattle.phrase_tree.specs.declared.measurement.Asp.{Asp}
use Rattle.phrase_tree.specs.Repeats.{AreDistinct}
use Rattle.bench_trait.specs.declared.ask.AskKind.{AskKind}
use Rattle.bench_trait.specs.declared.ask.AskKind.TheVariants.{Usm, Kim}
use Rattle.reference_book.specs.declared.reference.Reference.{Reference}
use Rattle.reference_book.specs.declared.sought.Sought.{Sought}
use Rattle.reference_book.specs.References.{repeats}

-- numbers, then words by their texts
abbrev pub arg_cmp : Arg → Arg → Ordering
arg_cmp (Number number) (Number other) = nat_cmp number other
arg_cmp (Number number) (Word other) = Less
arg_cmp (Word name) (Number other) = Greater
arg_cmp (Word name) (Word other) = slice_cmp nat_cmp name other

-- by the name, and then by the arguments in turn
abbrev pub asp_cmp : Asp → Asp → Ordering
asp_cmp asp other = ordering_then (slice_cmp nat_cmp asp.name other.name) (slice_cmp arg_cmp asp.args other.args)

-- those of the place itself, then those of targets by their names
abbrev pub kind_cmp : AskKind → AskKind → Ordering
kind_cmp Usm Usm = Equal
kind_cmp Usm (Kim other) = Less
kind_cmp (Kim target) Usm = Greater
kind_cmp (Kim target) (Kim other) = slice_cmp nat_cmp target other

-- the answer, where it is asked to tell references apart
abbrev pub told_by : Bool → Reference → List ℕ
told_by true reference = reference.answer
told_by false reference = []

-- by place, kind with target and measurement, and then by the answer where it is asked to
abbrev pub reference_cmp : Bool → Reference → Reference → Ordering
reference_cmp by_answer reference other =
    ordering_then
    (slice_cmp nat_cmp reference.place other.place)
    (ordering_then (kind_cmp reference.kind other.kind) (ordering_then (asp_cmp reference.asp other.asp) (slice_cmp nat_cmp (told_by by_answer reference) (told_by by_answer other))))

-- the reference that is looked for
abbrev pub sought_reference : Sought → Reference
sought_reference sought = record {
  place = sought.place;
  kind = sought.kind.now;
  asp = sought.asp.now;
  answer = sought.answer.now;
}

-- the references at two indices
abbrev pub index_cmp : Bool → List Reference → ℕ → ℕ → Ordering
index_cmp by_answer references index other =
    option_cmp (reference_cmp by_answer) (slice_get references index) (slice_get references other)

-- the reference at an index is before that at another
abbrev pub is_before : Bool → List Reference → ℕ → ℕ → Bool
is_before by_answer references index other = is_lt (index_cmp by_answer references index other)

-- each of a number and those behind it is before the next
abbrev pub rises_from : {X : Type 0} → (X → X → Bool) → X → List X → Bool
rises_from before first [] = true
rises_from before first (next ∷ rest) = before first next && rises_from before next rest

-- each is before the next
abbrev pub rises : {X : Type 0} → (X → X → Bool) → List X → Bool
rises before [] = true
rises before (first ∷ rest) = rises_from before first rest

-- the reference at an index against one that is looked for
abbrev pub sought_cmp : Bool → List Reference → Reference → ℕ → Ordering
sought_cmp by_answer references sought index =
    option_cmp (reference_cmp by_answer) (slice_get references index) (Some sought)

-- the indices of the references that are the same as one that is looked for, in the list's order
abbrev pub indices_of : Bool → List Reference → Reference → List ℕ
indices_of by_answer references sought =
    filter (λ index. is_eq (sought_cmp by_answer references sought index)) (range_with_len 0 (length references))

-- an index, where it is below a number
abbrev pub if_below : ℕ → Option ℕ → Option ℕ
if_below bound None = None
if_below bound (Some index) = if nat_lt index bound then Some index else None

-- all indices of a list, in the order of their references, and where these tie in the list's order
pub record IsInOrder (by_answer : Bool) (references : List Reference) (indices : List ℕ) : Type 0 where
  pub sorted : IsSorted (index_cmp by_answer references) indices
  pub stable : IsStable (index_cmp by_answer references) (range_with_len 0 (length references)) indices

-- distinct references with an index of them, where there was memory for one
pub record IsIndexed (references : List Reference) (order : Option (Vec ℕ Global)) : Type 0 where
  pub few : length references < 2 ^ 32
  pub distinct : AreDistinct (repeats references)
  pub indexed : IfSome order (λ indices. IsInOrder false references indices.items)
