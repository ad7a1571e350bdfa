-- The order of references is total, and ties those that are the same.
use Rattle.std.proofs.Common.{◌≡◌, ◌&&◌, ℕ, Bool, true, false, List, [], ◌∷◌, nat_eq, refl, sym, ap, ◌∙◌, subst, is_eq}
use Rattle.std.specs.Ordering.{nat_cmp, ordering_then}
use Rattle.std.specs.declared.cmp.Ordering.{Ordering}
use Rattle.std.specs.declared.cmp.Ordering.TheVariants.{Less, Equal, Greater}
use Rattle.std.specs.Cmp.{IsTotalOrder, unsigned_ties, both_tied}
use Rattle.std.specs.Cmp.Lexicographic.{pointwise, slice_cmp, texts_ties}
use Rattle.std.proofs.lemmas.Cmp.{then_total, on_total, nat_cmp_total, nat_list_cmp_total, lists_total}
use Rattle.phrase_tree.specs.declared.measurement.Arg.{Arg}
use Rattle.phrase_tree.specs.declared.measurement.Arg.TheVariants.{Word, Number}
use Rattle.phrase_tree.specs.declared.measurement.Asp.{Asp}
use Rattle.bench_trait.specs.declared.ask.AskKind.{AskKind}
use Rattle.bench_trait.specs.declared.ask.AskKind.TheVariants.{Usm, Kim}
use Rattle.reference_book.specs.declared.reference.Reference.{Reference}
use Rattle.reference_book.specs.Same.{same_arg, same_args, same_asp, same_kind}
use Rattle.reference_book.specs.References.{is_for, same_reference}
use Rattle.reference_book.specs.Order.{arg_cmp, asp_cmp, kind_cmp, reference_cmp, told_by}

then_equal : (order : Ordering) → ordering_then order Equal ≡ order
then_equal Less = refl
then_equal Equal = refl
then_equal Greater = refl

-- the text of an argument that is a word, and its number otherwise
abbrev word_key : Arg → List ℕ
word_key (Word name) = 1 ∷ name
word_key (Number number) = []

abbrev number_key : Arg → ℕ
number_key (Word name) = 0
number_key (Number number) = number

by_keys : (arg other : Arg) → ordering_then (slice_cmp nat_cmp (word_key arg) (word_key other)) (nat_cmp (number_key arg) (number_key other)) ≡ arg_cmp arg other
by_keys (Word name) (Word other) = then_equal (slice_cmp nat_cmp name other)
by_keys (Word name) (Number other) = refl
by_keys (Number number) (Word other) = refl
by_keys (Number number) (Number other) = refl

pub arg_total : IsTotalOrder arg_cmp
arg_total =
    subst IsTotalOrder (λ i arg other. by_keys arg other i) (then_total (on_total word_key nat_list_cmp_total) (on_total number_key nat_cmp_total))

abbrev target_key : AskKind → List ℕ
target_key Usm = []
target_key (Kim target) = 1 ∷ target

by_target : (kind other : AskKind) → slice_cmp nat_cmp (target_key kind) (target_key other) ≡ kind_cmp kind other
by_target Usm Usm = refl
by_target Usm (Kim other) = refl
by_target (Kim target) Usm = refl
by_target (Kim target) (Kim other) = refl

pub kind_total : IsTotalOrder kind_cmp
kind_total = subst IsTotalOrder (λ i kind other. by_target kind other i) (on_total target_key nat_list_cmp_total)

pub asp_total : IsTotalOrder asp_cmp
asp_total = then_total (on_total (λ asp. asp.name) nat_list_cmp_total) (on_total (λ asp. asp.args) (lists_total arg_total))

pub reference_total : (by_answer : Bool) → IsTotalOrder (reference_cmp by_answer)
reference_total by_answer =
    then_total (on_total (λ reference. reference.place) nat_list_cmp_total) (then_total (on_total (λ reference. reference.kind) kind_total) (then_total (on_total (λ reference. reference.asp) asp_total) (on_total (told_by by_answer) nat_list_cmp_total)))

arg_tied : (arg other : Arg) → same_arg arg other ≡ is_eq (arg_cmp arg other)
arg_tied (Word name) (Word other) = texts_ties name other
arg_tied (Word name) (Number other) = refl
arg_tied (Number number) (Word other) = refl
arg_tied (Number number) (Number other) = unsigned_ties number other

args_tied : (args others : List Arg) → same_args args others ≡ is_eq (slice_cmp arg_cmp args others)
args_tied [] [] = refl
args_tied [] (other ∷ others) = refl
args_tied (arg ∷ rest) [] = refl
args_tied (arg ∷ rest) (other ∷ others) =
    both_tied (same_arg arg other) (same_args rest others) (arg_cmp arg other) (slice_cmp arg_cmp rest others) (arg_tied arg other) (args_tied rest others)

asp_tied : (asp other : Asp) → same_asp asp other ≡ is_eq (asp_cmp asp other)
asp_tied asp other =
    both_tied _ _ (slice_cmp nat_cmp asp.name other.name) (slice_cmp arg_cmp asp.args other.args) (texts_ties asp.name other.name) (args_tied asp.args other.args)

kind_tied : (kind other : AskKind) → same_kind kind other ≡ is_eq (kind_cmp kind other)
kind_tied Usm Usm = refl
kind_tied Usm (Kim other) = refl
kind_tied (Kim target) Usm = refl
kind_tied (Kim target) (Kim other) = texts_ties target other

of_three : (a b c : Bool) → (a && b) && c ≡ a && (b && c)
of_three true b c = refl
of_three false b c = refl

of_four : (a b c d : Bool) → ((a && b) && c) && d ≡ a && (b && (c && d))
of_four true true c d = refl
of_four true false c d = refl
of_four false b c d = refl

-- without answers it ties the references for one measurement
pub tied_for : (reference sought : Reference) → is_for sought.place sought.kind sought.asp reference ≡ is_eq (reference_cmp false reference sought)
tied_for reference sought =
    of_three (pointwise nat_eq reference.place sought.place) (same_kind reference.kind sought.kind) (same_asp reference.asp sought.asp)
    ∙ both_tied _ _ (slice_cmp nat_cmp reference.place sought.place) _ (texts_ties reference.place sought.place) (both_tied _ _ (kind_cmp reference.kind sought.kind) _ (kind_tied reference.kind sought.kind) (asp_tied reference.asp sought.asp ∙ ap is_eq (sym (then_equal (asp_cmp reference.asp sought.asp)))))

-- with answers it ties those that are the same
pub tied_same : (reference sought : Reference) → same_reference sought reference ≡ is_eq (reference_cmp true reference sought)
tied_same reference sought =
    of_four (pointwise nat_eq reference.place sought.place) (same_kind reference.kind sought.kind) (same_asp reference.asp sought.asp) (pointwise nat_eq reference.answer sought.answer)
    ∙ both_tied _ _ (slice_cmp nat_cmp reference.place sought.place) _ (texts_ties reference.place sought.place) (both_tied _ _ (kind_cmp reference.kind sought.kind) _ (kind_tied reference.kind sought.kind) (both_tied _ _ (asp_cmp reference.asp sought.asp) _ (asp_tied reference.asp sought.asp) (texts_ties reference.answer sought.answer)))
