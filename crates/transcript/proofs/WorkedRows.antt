-- Transcripts and first faults that were found outside this project: an edit of the definitions is refused here.
use Rattle.std.proofs.Common.{◌≡◌, [], ◌∷◌, Ok, Err, refl}
use Rattle.bench_trait.specs.declared.bench.BenchFault.TheVariants.{Broken}
use Rattle.session_runs.specs.Standing.{root, of, run, ask, deliver, played, answered, failed}
use Rattle.transcript.specs.declared.fault.TranscriptKind.TheVariants.{Short, Tag, Length, Name, Rest}
use Rattle.transcript.specs.Bytes.{transcript}
use Rattle.transcript.specs.Reading.{stop, read_transcript, read_counted, read_all, alone, behind_bytes, behind_byte, entries_at, entry_at, entry_by, run_at, ask_at, delivery_at, answered_at, failed_at, block_at, fault_at, choice_at, choice_by, name_at, name_by, named, answer_at}

the_transcript_of_one_copy : read_transcript (67 ∷ 80 ∷ 76 ∷ 84 ∷ 1 ∷ 0 ∷ 0 ∷ 0 ∷ 2 ∷ 0 ∷ 0 ∷ 0 ∷ 0 ∷ 0 ∷ 0 ∷ 0 ∷ 0 ∷ 0 ∷ 0 ∷ 0 ∷ 0 ∷ []) ≡ Ok (played 0 (run root) ∷ played 0 (run root) ∷ [])
unfolding read_transcript read_counted read_all alone behind_bytes behind_byte entries_at entry_at entry_by run_at ask_at delivery_at answered_at failed_at block_at fault_at choice_at choice_by name_at name_by named answer_at
the_transcript_of_one_copy = refl

the_transcript_of_one_copy_is_written : transcript (played 0 (run root) ∷ played 0 (run root) ∷ []) ≡ 67 ∷ 80 ∷ 76 ∷ 84 ∷ 1 ∷ 0 ∷ 0 ∷ 0 ∷ 2 ∷ 0 ∷ 0 ∷ 0 ∷ 0 ∷ 0 ∷ 0 ∷ 0 ∷ 0 ∷ 0 ∷ 0 ∷ 0 ∷ 0 ∷ []
the_transcript_of_one_copy_is_written = refl

a_measurement_and_its_answer : read_transcript (67 ∷ 80 ∷ 76 ∷ 84 ∷ 1 ∷ 0 ∷ 0 ∷ 0 ∷ 3 ∷ 1 ∷ 0 ∷ 0 ∷ 0 ∷ 0 ∷ 0 ∷ 3 ∷ 0 ∷ 0 ∷ 0 ∷ 0 ∷ 0 ∷ 0 ∷ 0 ∷ 0 ∷ 0 ∷ 2 ∷ 170 ∷ 187 ∷ 0 ∷ 0 ∷ 0 ∷ 0 ∷ 0 ∷ 0 ∷ []) ≡ Ok (played 0 (ask root) ∷ answered 0 0 (170 ∷ 187 ∷ []) ∷ played 0 (run root) ∷ [])
unfolding read_transcript read_counted read_all alone behind_bytes behind_byte entries_at entry_at entry_by run_at ask_at delivery_at answered_at failed_at block_at fault_at choice_at choice_by name_at name_by named answer_at
a_measurement_and_its_answer = refl

a_measurement_and_its_answer_is_written : transcript (played 0 (ask root) ∷ answered 0 0 (170 ∷ 187 ∷ []) ∷ played 0 (run root) ∷ []) ≡ 67 ∷ 80 ∷ 76 ∷ 84 ∷ 1 ∷ 0 ∷ 0 ∷ 0 ∷ 3 ∷ 1 ∷ 0 ∷ 0 ∷ 0 ∷ 0 ∷ 0 ∷ 3 ∷ 0 ∷ 0 ∷ 0 ∷ 0 ∷ 0 ∷ 0 ∷ 0 ∷ 0 ∷ 0 ∷ 2 ∷ 170 ∷ 187 ∷ 0 ∷ 0 ∷ 0 ∷ 0 ∷ 0 ∷ 0 ∷ []
a_measurement_and_its_answer_is_written = refl

a_delivery_a_block_and_a_fault : read_transcript (67 ∷ 80 ∷ 76 ∷ 84 ∷ 1 ∷ 0 ∷ 0 ∷ 0 ∷ 3 ∷ 2 ∷ 0 ∷ 0 ∷ 0 ∷ 7 ∷ 4 ∷ 98 ∷ 97 ∷ 110 ∷ 107 ∷ 0 ∷ 0 ∷ 0 ∷ 0 ∷ 2 ∷ 1 ∷ 0 ∷ 0 ∷ 0 ∷ 5 ∷ 4 ∷ 0 ∷ 0 ∷ 0 ∷ 3 ∷ 0 ∷ 0 ∷ 0 ∷ 9 ∷ 1 ∷ 0 ∷ 12 ∷ []) ≡ Ok (played 7 (deliver (98 ∷ 97 ∷ 110 ∷ 107 ∷ [])) ∷ played 2 (run (of 5)) ∷ failed 3 9 (Broken 12) ∷ [])
unfolding read_transcript read_counted read_all alone behind_bytes behind_byte entries_at entry_at entry_by run_at ask_at delivery_at answered_at failed_at block_at fault_at choice_at choice_by name_at name_by named answer_at
a_delivery_a_block_and_a_fault = refl

a_delivery_a_block_and_a_fault_is_written : transcript (played 7 (deliver (98 ∷ 97 ∷ 110 ∷ 107 ∷ [])) ∷ played 2 (run (of 5)) ∷ failed 3 9 (Broken 12) ∷ []) ≡ 67 ∷ 80 ∷ 76 ∷ 84 ∷ 1 ∷ 0 ∷ 0 ∷ 0 ∷ 3 ∷ 2 ∷ 0 ∷ 0 ∷ 0 ∷ 7 ∷ 4 ∷ 98 ∷ 97 ∷ 110 ∷ 107 ∷ 0 ∷ 0 ∷ 0 ∷ 0 ∷ 2 ∷ 1 ∷ 0 ∷ 0 ∷ 0 ∷ 5 ∷ 4 ∷ 0 ∷ 0 ∷ 0 ∷ 3 ∷ 0 ∷ 0 ∷ 0 ∷ 9 ∷ 1 ∷ 0 ∷ 12 ∷ []
a_delivery_a_block_and_a_fault_is_written = refl

no_bytes : read_transcript ([]) ≡ Err (stop Short 0)
unfolding read_transcript read_counted read_all alone behind_bytes behind_byte entries_at entry_at entry_by run_at ask_at delivery_at answered_at failed_at block_at fault_at choice_at choice_by name_at name_by named answer_at
no_bytes = refl

another_letter : read_transcript (67 ∷ 81 ∷ 76 ∷ 84 ∷ []) ≡ Err (stop Tag 3)
unfolding read_transcript read_counted read_all alone behind_bytes behind_byte entries_at entry_at entry_by run_at ask_at delivery_at answered_at failed_at block_at fault_at choice_at choice_by name_at name_by named answer_at
another_letter = refl

another_version : read_transcript (67 ∷ 80 ∷ 76 ∷ 84 ∷ 2 ∷ []) ≡ Err (stop Tag 1)
unfolding read_transcript read_counted read_all alone behind_bytes behind_byte entries_at entry_at entry_by run_at ask_at delivery_at answered_at failed_at block_at fault_at choice_at choice_by name_at name_by named answer_at
another_version = refl

the_number_of_entries_is_cut : read_transcript (67 ∷ 80 ∷ 76 ∷ 84 ∷ 1 ∷ 0 ∷ 0 ∷ []) ≡ Err (stop Short 0)
unfolding read_transcript read_counted read_all alone behind_bytes behind_byte entries_at entry_at entry_by run_at ask_at delivery_at answered_at failed_at block_at fault_at choice_at choice_by name_at name_by named answer_at
the_number_of_entries_is_cut = refl

an_entry_is_missing : read_transcript (67 ∷ 80 ∷ 76 ∷ 84 ∷ 1 ∷ 0 ∷ 0 ∷ 0 ∷ 3 ∷ 0 ∷ 0 ∷ 0 ∷ 0 ∷ 0 ∷ 0 ∷ 0 ∷ 0 ∷ 0 ∷ 0 ∷ 0 ∷ 0 ∷ []) ≡ Err (stop Short 0)
unfolding read_transcript read_counted read_all alone behind_bytes behind_byte entries_at entry_at entry_by run_at ask_at delivery_at answered_at failed_at block_at fault_at choice_at choice_by name_at name_by named answer_at
an_entry_is_missing = refl

an_entry_too_many : read_transcript (67 ∷ 80 ∷ 76 ∷ 84 ∷ 1 ∷ 0 ∷ 0 ∷ 0 ∷ 1 ∷ 0 ∷ 0 ∷ 0 ∷ 0 ∷ 0 ∷ 0 ∷ 0 ∷ 0 ∷ 0 ∷ 0 ∷ 0 ∷ 0 ∷ []) ≡ Err (stop Rest 6)
unfolding read_transcript read_counted read_all alone behind_bytes behind_byte entries_at entry_at entry_by run_at ask_at delivery_at answered_at failed_at block_at fault_at choice_at choice_by name_at name_by named answer_at
an_entry_too_many = refl

a_tag_of_5 : read_transcript (67 ∷ 80 ∷ 76 ∷ 84 ∷ 1 ∷ 0 ∷ 0 ∷ 0 ∷ 1 ∷ 5 ∷ []) ≡ Err (stop Tag 1)
unfolding read_transcript read_counted read_all alone behind_bytes behind_byte entries_at entry_at entry_by run_at ask_at delivery_at answered_at failed_at block_at fault_at choice_at choice_by name_at name_by named answer_at
a_tag_of_5 = refl

a_block_of_2 : read_transcript (67 ∷ 80 ∷ 76 ∷ 84 ∷ 1 ∷ 0 ∷ 0 ∷ 0 ∷ 1 ∷ 0 ∷ 0 ∷ 0 ∷ 0 ∷ 0 ∷ 2 ∷ []) ≡ Err (stop Tag 1)
unfolding read_transcript read_counted read_all alone behind_bytes behind_byte entries_at entry_at entry_by run_at ask_at delivery_at answered_at failed_at block_at fault_at choice_at choice_by name_at name_by named answer_at
a_block_of_2 = refl

a_name_of_0 : read_transcript (67 ∷ 80 ∷ 76 ∷ 84 ∷ 1 ∷ 0 ∷ 0 ∷ 0 ∷ 1 ∷ 2 ∷ 0 ∷ 0 ∷ 0 ∷ 0 ∷ 0 ∷ []) ≡ Err (stop Length 1)
unfolding read_transcript read_counted read_all alone behind_bytes behind_byte entries_at entry_at entry_by run_at ask_at delivery_at answered_at failed_at block_at fault_at choice_at choice_by name_at name_by named answer_at
a_name_of_0 = refl

a_name_of_33 : read_transcript (67 ∷ 80 ∷ 76 ∷ 84 ∷ 1 ∷ 0 ∷ 0 ∷ 0 ∷ 1 ∷ 2 ∷ 0 ∷ 0 ∷ 0 ∷ 0 ∷ 33 ∷ []) ≡ Err (stop Length 1)
unfolding read_transcript read_counted read_all alone behind_bytes behind_byte entries_at entry_at entry_by run_at ask_at delivery_at answered_at failed_at block_at fault_at choice_at choice_by name_at name_by named answer_at
a_name_of_33 = refl

a_name_that_is_none : read_transcript (67 ∷ 80 ∷ 76 ∷ 84 ∷ 1 ∷ 0 ∷ 0 ∷ 0 ∷ 1 ∷ 2 ∷ 0 ∷ 0 ∷ 0 ∷ 0 ∷ 2 ∷ 65 ∷ 97 ∷ []) ≡ Err (stop Name 2)
unfolding read_transcript read_counted read_all alone behind_bytes behind_byte entries_at entry_at entry_by run_at ask_at delivery_at answered_at failed_at block_at fault_at choice_at choice_by name_at name_by named answer_at
a_name_that_is_none = refl

a_name_that_is_cut : read_transcript (67 ∷ 80 ∷ 76 ∷ 84 ∷ 1 ∷ 0 ∷ 0 ∷ 0 ∷ 1 ∷ 2 ∷ 0 ∷ 0 ∷ 0 ∷ 0 ∷ 2 ∷ 65 ∷ []) ≡ Err (stop Short 0)
unfolding read_transcript read_counted read_all alone behind_bytes behind_byte entries_at entry_at entry_by run_at ask_at delivery_at answered_at failed_at block_at fault_at choice_at choice_by name_at name_by named answer_at
a_name_that_is_cut = refl

an_answer_of_1025 : read_transcript (67 ∷ 80 ∷ 76 ∷ 84 ∷ 1 ∷ 0 ∷ 0 ∷ 0 ∷ 1 ∷ 3 ∷ 0 ∷ 0 ∷ 0 ∷ 0 ∷ 0 ∷ 0 ∷ 0 ∷ 0 ∷ 4 ∷ 1 ∷ []) ≡ Err (stop Length 2)
unfolding read_transcript read_counted read_all alone behind_bytes behind_byte entries_at entry_at entry_by run_at ask_at delivery_at answered_at failed_at block_at fault_at choice_at choice_by name_at name_by named answer_at
an_answer_of_1025 = refl

a_fault_of_2 : read_transcript (67 ∷ 80 ∷ 76 ∷ 84 ∷ 1 ∷ 0 ∷ 0 ∷ 0 ∷ 1 ∷ 4 ∷ 0 ∷ 0 ∷ 0 ∷ 0 ∷ 0 ∷ 0 ∷ 0 ∷ 0 ∷ 2 ∷ []) ≡ Err (stop Tag 1)
unfolding read_transcript read_counted read_all alone behind_bytes behind_byte entries_at entry_at entry_by run_at ask_at delivery_at answered_at failed_at block_at fault_at choice_at choice_by name_at name_by named answer_at
a_fault_of_2 = refl
