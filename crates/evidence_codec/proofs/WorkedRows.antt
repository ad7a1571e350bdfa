-- Faults and values that were found outside this project, by hand from the format: an edit of the definitions is refused here.
use Rattle.std.proofs.Common.{◌≡◌, ℕ, zero, suc, true, false, List, [], ◌∷◌, take, Option, Some, None, Ok, refl}
use Rattle.evidence_types.specs.Evidence.{Evidence, empty, usm}
use Rattle.evidence_types.specs.Bytes.{bundle}
use Rattle.evidence_types.specs.Heads.{nonce_head, usm_head}
use Rattle.evidence_types.specs.Marked.{marked_bundle}
use Rattle.evidence_codec.specs.declared.fault.BadKind.TheVariants.{Short, Tag, Length, Rest, Deep}
use Rattle.evidence_codec.specs.declared.fault.Fault.{Fault}
use Rattle.evidence_codec.specs.declared.version.Version.TheVariants.{Plain, Marked}
use Rattle.evidence_codec.specs.Reading.{fault, first_fault, first_fault_of_either, read_bundle, behind_bytes, behind_first, behind_version, version_of, behind_length, value_in, ended, edge_of, heads_at, with_parts, parts_at, head_at, fields_at, nonce_at, usm_at, kim_at, seal_at, hash_at, mark_at, answer_at, answer_of_length}

abbrev of_the_nonce : List ℕ
of_the_nonce = 67 ∷ 80 ∷ 76 ∷ 66 ∷ 1 ∷ 0 ∷ 0 ∷ 0 ∷ 17 ∷ 1 ∷ 0 ∷ 1 ∷ 2 ∷ 3 ∷ 4 ∷ 5 ∷ 6 ∷ 7 ∷ 8 ∷ 9 ∷ 10 ∷ 11 ∷ 12 ∷ 13 ∷ 14 ∷ 15 ∷ []

abbrev the_nonce : List ℕ
the_nonce = 0 ∷ 1 ∷ 2 ∷ 3 ∷ 4 ∷ 5 ∷ 6 ∷ 7 ∷ 8 ∷ 9 ∷ 10 ∷ 11 ∷ 12 ∷ 13 ∷ 14 ∷ 15 ∷ []

it_is_read : read_bundle false of_the_nonce ≡ Ok (Plain, nonce_head the_nonce ∷ [])
unfolding read_bundle behind_bytes behind_first behind_version version_of behind_length value_in ended edge_of heads_at with_parts parts_at head_at fields_at nonce_at usm_at kim_at seal_at hash_at mark_at answer_at answer_of_length
it_is_read = refl

-- the faults of the bundle when it is cut to its first bytes, from `n` bytes less one down to none
abbrev faults_when_cut : ℕ → List (Option Fault)
faults_when_cut zero = []
faults_when_cut (suc n) = first_fault (take n of_the_nonce) ∷ faults_when_cut n

abbrev short_at_each : ℕ → List (Option Fault)
short_at_each zero = []
short_at_each (suc n) = Some (fault n Short) ∷ short_at_each n

cut_to_fewer_bytes : faults_when_cut 26 ≡ short_at_each 26
unfolding read_bundle behind_bytes behind_first behind_version version_of behind_length value_in ended edge_of heads_at with_parts parts_at head_at fields_at nonce_at usm_at kim_at seal_at hash_at mark_at answer_at answer_of_length
cut_to_fewer_bytes = refl

one_byte_more : first_fault (67 ∷ 80 ∷ 76 ∷ 66 ∷ 1 ∷ 0 ∷ 0 ∷ 0 ∷ 17 ∷ 1 ∷ 0 ∷ 1 ∷ 2 ∷ 3 ∷ 4 ∷ 5 ∷ 6 ∷ 7 ∷ 8 ∷ 9 ∷ 10 ∷ 11 ∷ 12 ∷ 13 ∷ 14 ∷ 15 ∷ 0 ∷ []) ≡ Some (fault 26 Rest)
unfolding read_bundle behind_bytes behind_first behind_version version_of behind_length value_in ended edge_of heads_at with_parts parts_at head_at fields_at nonce_at usm_at kim_at seal_at hash_at mark_at answer_at answer_of_length
one_byte_more = refl

length_of_one_more : first_fault (67 ∷ 80 ∷ 76 ∷ 66 ∷ 1 ∷ 0 ∷ 0 ∷ 0 ∷ 18 ∷ 1 ∷ 0 ∷ 1 ∷ 2 ∷ 3 ∷ 4 ∷ 5 ∷ 6 ∷ 7 ∷ 8 ∷ 9 ∷ 10 ∷ 11 ∷ 12 ∷ 13 ∷ 14 ∷ 15 ∷ []) ≡ Some (fault 26 Length)
unfolding read_bundle behind_bytes behind_first behind_version version_of behind_length value_in ended edge_of heads_at with_parts parts_at head_at fields_at nonce_at usm_at kim_at seal_at hash_at mark_at answer_at answer_of_length
length_of_one_more = refl

length_of_one_less : first_fault (67 ∷ 80 ∷ 76 ∷ 66 ∷ 1 ∷ 0 ∷ 0 ∷ 0 ∷ 16 ∷ 1 ∷ 0 ∷ 1 ∷ 2 ∷ 3 ∷ 4 ∷ 5 ∷ 6 ∷ 7 ∷ 8 ∷ 9 ∷ 10 ∷ 11 ∷ 12 ∷ 13 ∷ 14 ∷ 15 ∷ []) ≡ Some (fault 25 Length)
unfolding read_bundle behind_bytes behind_first behind_version version_of behind_length value_in ended edge_of heads_at with_parts parts_at head_at fields_at nonce_at usm_at kim_at seal_at hash_at mark_at answer_at answer_of_length
length_of_one_less = refl

another_version : first_fault (67 ∷ 80 ∷ 76 ∷ 66 ∷ 2 ∷ 0 ∷ 0 ∷ 0 ∷ 17 ∷ 1 ∷ 0 ∷ 1 ∷ 2 ∷ 3 ∷ 4 ∷ 5 ∷ 6 ∷ 7 ∷ 8 ∷ 9 ∷ 10 ∷ 11 ∷ 12 ∷ 13 ∷ 14 ∷ 15 ∷ []) ≡ Some (fault 4 Tag)
unfolding read_bundle behind_bytes behind_first behind_version version_of behind_length value_in ended edge_of heads_at with_parts parts_at head_at fields_at nonce_at usm_at kim_at seal_at hash_at mark_at answer_at answer_of_length
another_version = refl

a_tag_of_eight : first_fault (67 ∷ 80 ∷ 76 ∷ 66 ∷ 1 ∷ 0 ∷ 0 ∷ 0 ∷ 17 ∷ 8 ∷ 0 ∷ 1 ∷ 2 ∷ 3 ∷ 4 ∷ 5 ∷ 6 ∷ 7 ∷ 8 ∷ 9 ∷ 10 ∷ 11 ∷ 12 ∷ 13 ∷ 14 ∷ 15 ∷ []) ≡ Some (fault 9 Tag)
unfolding read_bundle behind_bytes behind_first behind_version version_of behind_length value_in ended edge_of heads_at with_parts parts_at head_at fields_at nonce_at usm_at kim_at seal_at hash_at mark_at answer_at answer_of_length
a_tag_of_eight = refl

length_above_the_limit : first_fault (67 ∷ 80 ∷ 76 ∷ 66 ∷ 1 ∷ 0 ∷ 4 ∷ 0 ∷ 1 ∷ 1 ∷ 0 ∷ 1 ∷ 2 ∷ 3 ∷ 4 ∷ 5 ∷ 6 ∷ 7 ∷ 8 ∷ 9 ∷ 10 ∷ 11 ∷ 12 ∷ 13 ∷ 14 ∷ 15 ∷ []) ≡ Some (fault 5 Length)
unfolding read_bundle behind_bytes behind_first behind_version version_of behind_length value_in ended edge_of heads_at with_parts parts_at head_at fields_at nonce_at usm_at kim_at seal_at hash_at mark_at answer_at answer_of_length
length_above_the_limit = refl

no_length : first_fault (67 ∷ 80 ∷ 76 ∷ 66 ∷ 1 ∷ 0 ∷ 0 ∷ 0 ∷ 0 ∷ 1 ∷ 0 ∷ 1 ∷ 2 ∷ 3 ∷ 4 ∷ 5 ∷ 6 ∷ 7 ∷ 8 ∷ 9 ∷ 10 ∷ 11 ∷ 12 ∷ 13 ∷ 14 ∷ 15 ∷ []) ≡ Some (fault 9 Length)
unfolding read_bundle behind_bytes behind_first behind_version version_of behind_length value_in ended edge_of heads_at with_parts parts_at head_at fields_at nonce_at usm_at kim_at seal_at hash_at mark_at answer_at answer_of_length
no_length = refl

a_long_answer : first_fault (67 ∷ 80 ∷ 76 ∷ 66 ∷ 1 ∷ 0 ∷ 0 ∷ 0 ∷ 8 ∷ 2 ∷ 0 ∷ 0 ∷ 0 ∷ 0 ∷ 4 ∷ 1 ∷ 0 ∷ []) ≡ Some (fault 14 Length)
unfolding read_bundle behind_bytes behind_first behind_version version_of behind_length value_in ended edge_of heads_at with_parts parts_at head_at fields_at nonce_at usm_at kim_at seal_at hash_at mark_at answer_at answer_of_length
a_long_answer = refl

tag_before_short : first_fault (67 ∷ 81 ∷ []) ≡ Some (fault 1 Tag)
unfolding read_bundle behind_bytes behind_first behind_version version_of behind_length value_in ended edge_of heads_at with_parts parts_at head_at fields_at nonce_at usm_at kim_at seal_at hash_at mark_at answer_at answer_of_length
tag_before_short = refl

an_answer_past_the_length : first_fault (67 ∷ 80 ∷ 76 ∷ 66 ∷ 1 ∷ 0 ∷ 0 ∷ 0 ∷ 8 ∷ 2 ∷ 0 ∷ 0 ∷ 0 ∷ 0 ∷ 0 ∷ 2 ∷ 9 ∷ []) ≡ Some (fault 17 Length)
unfolding read_bundle behind_bytes behind_first behind_version version_of behind_length value_in ended edge_of heads_at with_parts parts_at head_at fields_at nonce_at usm_at kim_at seal_at hash_at mark_at answer_at answer_of_length
an_answer_past_the_length = refl

an_answer_past_the_bytes : first_fault (67 ∷ 80 ∷ 76 ∷ 66 ∷ 1 ∷ 0 ∷ 0 ∷ 0 ∷ 9 ∷ 2 ∷ 0 ∷ 0 ∷ 0 ∷ 0 ∷ 0 ∷ 2 ∷ 9 ∷ []) ≡ Some (fault 17 Short)
unfolding read_bundle behind_bytes behind_first behind_version version_of behind_length value_in ended edge_of heads_at with_parts parts_at head_at fields_at nonce_at usm_at kim_at seal_at hash_at mark_at answer_at answer_of_length
an_answer_past_the_bytes = refl

a_value_that_ends_early : first_fault (67 ∷ 80 ∷ 76 ∷ 66 ∷ 1 ∷ 0 ∷ 0 ∷ 0 ∷ 5 ∷ 0 ∷ []) ≡ Some (fault 10 Length)
unfolding read_bundle behind_bytes behind_first behind_version version_of behind_length value_in ended edge_of heads_at with_parts parts_at head_at fields_at nonce_at usm_at kim_at seal_at hash_at mark_at answer_at answer_of_length
a_value_that_ends_early = refl

a_pair_without_its_right_part : first_fault (67 ∷ 80 ∷ 76 ∷ 66 ∷ 1 ∷ 0 ∷ 0 ∷ 0 ∷ 2 ∷ 6 ∷ 0 ∷ []) ≡ Some (fault 11 Length)
unfolding read_bundle behind_bytes behind_first behind_version version_of behind_length value_in ended edge_of heads_at with_parts parts_at head_at fields_at nonce_at usm_at kim_at seal_at hash_at mark_at answer_at answer_of_length
a_pair_without_its_right_part = refl

abbrev nested : ℕ → Evidence
nested zero = empty
nested (suc n) = usm 0 [] (nested n)

nested_too_deep : first_fault (bundle (nested 1026)) ≡ Some (fault 7184 Deep)
unfolding read_bundle behind_bytes behind_first behind_version version_of behind_length value_in ended edge_of heads_at with_parts parts_at head_at fields_at nonce_at usm_at kim_at seal_at hash_at mark_at answer_at answer_of_length
nested_too_deep = refl

nested_as_deep_as_may_be : first_fault (bundle (nested 1024)) ≡ None
unfolding read_bundle behind_bytes behind_first behind_version version_of behind_length value_in ended edge_of heads_at with_parts parts_at head_at fields_at nonce_at usm_at kim_at seal_at hash_at mark_at answer_at answer_of_length
nested_as_deep_as_may_be = refl

-- ---- version 2

it_is_read_with_its_mark : read_bundle true (67 ∷ 80 ∷ 76 ∷ 66 ∷ 2 ∷ 0 ∷ 0 ∷ 0 ∷ 27 ∷ 2 ∷ 0 ∷ 0 ∷ 0 ∷ 0 ∷ 0 ∷ 0 ∷ 2 ∷ 170 ∷ 187 ∷ 1 ∷ 0 ∷ 1 ∷ 2 ∷ 3 ∷ 4 ∷ 5 ∷ 6 ∷ 7 ∷ 8 ∷ 9 ∷ 10 ∷ 11 ∷ 12 ∷ 13 ∷ 14 ∷ 15 ∷ []) ≡ Ok (Marked, usm_head 0 (Some 0) (170 ∷ 187 ∷ []) ∷ nonce_head the_nonce ∷ [])
unfolding read_bundle behind_bytes behind_first behind_version version_of behind_length value_in ended edge_of heads_at with_parts parts_at head_at fields_at nonce_at usm_at kim_at seal_at hash_at mark_at answer_at answer_of_length
it_is_read_with_its_mark = refl

either_version_may_be_version_1 : read_bundle true of_the_nonce ≡ Ok (Plain, nonce_head the_nonce ∷ [])
unfolding read_bundle behind_bytes behind_first behind_version version_of behind_length value_in ended edge_of heads_at with_parts parts_at head_at fields_at nonce_at usm_at kim_at seal_at hash_at mark_at answer_at answer_of_length
either_version_may_be_version_1 = refl

version_2_is_not_version_1 : first_fault (67 ∷ 80 ∷ 76 ∷ 66 ∷ 2 ∷ 0 ∷ 0 ∷ 0 ∷ 27 ∷ 2 ∷ 0 ∷ 0 ∷ 0 ∷ 0 ∷ 0 ∷ 0 ∷ 2 ∷ 170 ∷ 187 ∷ 1 ∷ 0 ∷ 1 ∷ 2 ∷ 3 ∷ 4 ∷ 5 ∷ 6 ∷ 7 ∷ 8 ∷ 9 ∷ 10 ∷ 11 ∷ 12 ∷ 13 ∷ 14 ∷ 15 ∷ []) ≡ Some (fault 4 Tag)
unfolding read_bundle behind_bytes behind_first behind_version version_of behind_length value_in ended edge_of heads_at with_parts parts_at head_at fields_at nonce_at usm_at kim_at seal_at hash_at mark_at answer_at answer_of_length
version_2_is_not_version_1 = refl

no_version_is_3 : first_fault_of_either (67 ∷ 80 ∷ 76 ∷ 66 ∷ 3 ∷ 0 ∷ 0 ∷ 0 ∷ 27 ∷ 2 ∷ 0 ∷ 0 ∷ 0 ∷ 0 ∷ 0 ∷ 0 ∷ 2 ∷ 170 ∷ 187 ∷ 1 ∷ 0 ∷ 1 ∷ 2 ∷ 3 ∷ 4 ∷ 5 ∷ 6 ∷ 7 ∷ 8 ∷ 9 ∷ 10 ∷ 11 ∷ 12 ∷ 13 ∷ 14 ∷ 15 ∷ []) ≡ Some (fault 4 Tag)
unfolding read_bundle behind_bytes behind_first behind_version version_of behind_length value_in ended edge_of heads_at with_parts parts_at head_at fields_at nonce_at usm_at kim_at seal_at hash_at mark_at answer_at answer_of_length
no_version_is_3 = refl

no_version_is_0 : first_fault_of_either (67 ∷ 80 ∷ 76 ∷ 66 ∷ 0 ∷ 0 ∷ 0 ∷ 0 ∷ 27 ∷ 2 ∷ 0 ∷ 0 ∷ 0 ∷ 0 ∷ 0 ∷ 0 ∷ 2 ∷ 170 ∷ 187 ∷ 1 ∷ 0 ∷ 1 ∷ 2 ∷ 3 ∷ 4 ∷ 5 ∷ 6 ∷ 7 ∷ 8 ∷ 9 ∷ 10 ∷ 11 ∷ 12 ∷ 13 ∷ 14 ∷ 15 ∷ []) ≡ Some (fault 4 Tag)
unfolding read_bundle behind_bytes behind_first behind_version version_of behind_length value_in ended edge_of heads_at with_parts parts_at head_at fields_at nonce_at usm_at kim_at seal_at hash_at mark_at answer_at answer_of_length
no_version_is_0 = refl

any_byte_is_a_mark : first_fault_of_either (67 ∷ 80 ∷ 76 ∷ 66 ∷ 2 ∷ 0 ∷ 0 ∷ 0 ∷ 27 ∷ 2 ∷ 0 ∷ 0 ∷ 0 ∷ 0 ∷ 255 ∷ 0 ∷ 2 ∷ 170 ∷ 187 ∷ 1 ∷ 0 ∷ 1 ∷ 2 ∷ 3 ∷ 4 ∷ 5 ∷ 6 ∷ 7 ∷ 8 ∷ 9 ∷ 10 ∷ 11 ∷ 12 ∷ 13 ∷ 14 ∷ 15 ∷ []) ≡ None
unfolding read_bundle behind_bytes behind_first behind_version version_of behind_length value_in ended edge_of heads_at with_parts parts_at head_at fields_at nonce_at usm_at kim_at seal_at hash_at mark_at answer_at answer_of_length
any_byte_is_a_mark = refl

another_tag_before_the_version : first_fault_of_either (67 ∷ 80 ∷ 77 ∷ 66 ∷ 3 ∷ []) ≡ Some (fault 2 Tag)
unfolding read_bundle behind_bytes behind_first behind_version version_of behind_length value_in ended edge_of heads_at with_parts parts_at head_at fields_at nonce_at usm_at kim_at seal_at hash_at mark_at answer_at answer_of_length
another_tag_before_the_version = refl

the_version_is_missing : first_fault_of_either (67 ∷ 80 ∷ 76 ∷ 66 ∷ []) ≡ Some (fault 4 Short)
unfolding read_bundle behind_bytes behind_first behind_version version_of behind_length value_in ended edge_of heads_at with_parts parts_at head_at fields_at nonce_at usm_at kim_at seal_at hash_at mark_at answer_at answer_of_length
the_version_is_missing = refl

length_above_the_limit_of_version_2 : first_fault_of_either (67 ∷ 80 ∷ 76 ∷ 66 ∷ 2 ∷ 0 ∷ 4 ∷ 0 ∷ 255 ∷ 0 ∷ []) ≡ Some (fault 5 Length)
unfolding read_bundle behind_bytes behind_first behind_version version_of behind_length value_in ended edge_of heads_at with_parts parts_at head_at fields_at nonce_at usm_at kim_at seal_at hash_at mark_at answer_at answer_of_length
length_above_the_limit_of_version_2 = refl

length_at_the_limit_of_version_2 : first_fault_of_either (67 ∷ 80 ∷ 76 ∷ 66 ∷ 2 ∷ 0 ∷ 4 ∷ 0 ∷ 254 ∷ 2 ∷ []) ≡ Some (fault 10 Short)
unfolding read_bundle behind_bytes behind_first behind_version version_of behind_length value_in ended edge_of heads_at with_parts parts_at head_at fields_at nonce_at usm_at kim_at seal_at hash_at mark_at answer_at answer_of_length
length_at_the_limit_of_version_2 = refl

length_of_version_2_in_version_1 : first_fault_of_either (67 ∷ 80 ∷ 76 ∷ 66 ∷ 1 ∷ 0 ∷ 4 ∷ 0 ∷ 254 ∷ 2 ∷ []) ≡ Some (fault 5 Length)
unfolding read_bundle behind_bytes behind_first behind_version version_of behind_length value_in ended edge_of heads_at with_parts parts_at head_at fields_at nonce_at usm_at kim_at seal_at hash_at mark_at answer_at answer_of_length
length_of_version_2_in_version_1 = refl

a_long_answer_behind_its_mark : first_fault_of_either (67 ∷ 80 ∷ 76 ∷ 66 ∷ 2 ∷ 0 ∷ 0 ∷ 0 ∷ 9 ∷ 2 ∷ 0 ∷ 0 ∷ 0 ∷ 0 ∷ 7 ∷ 4 ∷ 1 ∷ 0 ∷ []) ≡ Some (fault 15 Length)
unfolding read_bundle behind_bytes behind_first behind_version version_of behind_length value_in ended edge_of heads_at with_parts parts_at head_at fields_at nonce_at usm_at kim_at seal_at hash_at mark_at answer_at answer_of_length
a_long_answer_behind_its_mark = refl

a_mark_past_the_length : first_fault_of_either (67 ∷ 80 ∷ 76 ∷ 66 ∷ 2 ∷ 0 ∷ 0 ∷ 0 ∷ 5 ∷ 2 ∷ 0 ∷ 0 ∷ 0 ∷ 0 ∷ 7 ∷ []) ≡ Some (fault 14 Length)
unfolding read_bundle behind_bytes behind_first behind_version version_of behind_length value_in ended edge_of heads_at with_parts parts_at head_at fields_at nonce_at usm_at kim_at seal_at hash_at mark_at answer_at answer_of_length
a_mark_past_the_length = refl

a_mark_past_the_bytes : first_fault_of_either (67 ∷ 80 ∷ 76 ∷ 66 ∷ 2 ∷ 0 ∷ 0 ∷ 0 ∷ 9 ∷ 3 ∷ 0 ∷ 0 ∷ 0 ∷ 0 ∷ []) ≡ Some (fault 14 Short)
unfolding read_bundle behind_bytes behind_first behind_version version_of behind_length value_in ended edge_of heads_at with_parts parts_at head_at fields_at nonce_at usm_at kim_at seal_at hash_at mark_at answer_at answer_of_length
a_mark_past_the_bytes = refl

a_bundle_without_its_mark : first_fault_of_either (67 ∷ 80 ∷ 76 ∷ 66 ∷ 2 ∷ 0 ∷ 0 ∷ 0 ∷ 26 ∷ 2 ∷ 0 ∷ 0 ∷ 0 ∷ 0 ∷ 0 ∷ 2 ∷ 170 ∷ 187 ∷ 1 ∷ 0 ∷ 1 ∷ 2 ∷ 3 ∷ 4 ∷ 5 ∷ 6 ∷ 7 ∷ 8 ∷ 9 ∷ 10 ∷ 11 ∷ 12 ∷ 13 ∷ 14 ∷ 15 ∷ []) ≡ Some (fault 35 Length)
unfolding read_bundle behind_bytes behind_first behind_version version_of behind_length value_in ended edge_of heads_at with_parts parts_at head_at fields_at nonce_at usm_at kim_at seal_at hash_at mark_at answer_at answer_of_length
a_bundle_without_its_mark = refl

bytes_behind_a_marked_bundle : first_fault_of_either (67 ∷ 80 ∷ 76 ∷ 66 ∷ 2 ∷ 0 ∷ 0 ∷ 0 ∷ 27 ∷ 2 ∷ 0 ∷ 0 ∷ 0 ∷ 0 ∷ 0 ∷ 0 ∷ 2 ∷ 170 ∷ 187 ∷ 1 ∷ 0 ∷ 1 ∷ 2 ∷ 3 ∷ 4 ∷ 5 ∷ 6 ∷ 7 ∷ 8 ∷ 9 ∷ 10 ∷ 11 ∷ 12 ∷ 13 ∷ 14 ∷ 15 ∷ 0 ∷ []) ≡ Some (fault 36 Rest)
unfolding read_bundle behind_bytes behind_first behind_version version_of behind_length value_in ended edge_of heads_at with_parts parts_at head_at fields_at nonce_at usm_at kim_at seal_at hash_at mark_at answer_at answer_of_length
bytes_behind_a_marked_bundle = refl

abbrev marks_of_zero : ℕ → List ℕ
marks_of_zero zero = []
marks_of_zero (suc n) = 0 ∷ marks_of_zero n

marked_and_nested_too_deep : first_fault_of_either (marked_bundle (nested 1026) (marks_of_zero 1026)) ≡ Some (fault 8209 Deep)
unfolding read_bundle behind_bytes behind_first behind_version version_of behind_length value_in ended edge_of heads_at with_parts parts_at head_at fields_at nonce_at usm_at kim_at seal_at hash_at mark_at answer_at answer_of_length
marked_and_nested_too_deep = refl
