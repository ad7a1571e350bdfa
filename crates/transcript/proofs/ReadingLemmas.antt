-- Reading goes on behind what was read.
use Rattle.std.proofs.Common.{◌≡◌, ℕ, suc, ◌+◌, ◌-◌, ◌<◌, ◌≤◌, Bool, true, false, List, [], ◌∷◌, length, drop, get_or, Result, Ok, Err, refl, sym, ap, ◌∙◌, arith, drop-cons}
use Rattle.std.specs.Int.{w32}
use Rattle.std.proofs.lemmas.List.{drop_all}
use Rattle.session_runs.specs.Standing.{Entry}
use Rattle.transcript.specs.declared.fault.TranscriptKind.TheVariants.{Rest}
use Rattle.transcript.specs.declared.fault.Stop.{Stop}
use Rattle.transcript.specs.Bytes.{transcript_head}
use Rattle.transcript.specs.Reading.{stop, Front, ◌>>=◌, number_at, entry_at, entries_at, behind_byte, behind_bytes, alone, read_all, read_counted, read_transcript}
use Rattle.transcript.specs.Written.{rest_of, behind_entry, behind_entries}
use Rattle.transcript.proofs.FieldLemmas.{done}

-- ---- the bytes that never change

one_on : (i : ℕ) → i + 1 ≡ suc i
one_on i = omega arith

pub head_step : (wanted : List ℕ) (i : ℕ) (rest behind : List ℕ) → i < length wanted → behind_byte (get_or wanted i 0) rest ≡ Ok behind → behind_bytes (drop (i + 1) wanted) behind ≡ behind_bytes (drop i wanted) rest
unfolding behind_bytes
head_step wanted i rest behind lt e =
    let one : drop i wanted ≡ get_or wanted i 0 ∷ drop (suc i) wanted = drop-cons wanted i 0 lt in
    ap (λ (n : ℕ). behind_bytes (drop n wanted) behind) (one_on i)
    ∙ sym (ap (λ (r : Result (List ℕ) Stop). r >>= λ behind. behind_bytes (drop (suc i) wanted) behind) e)
    ∙ sym (ap (λ (w : List ℕ). behind_bytes w rest) one)

pub head_fails : (wanted : List ℕ) (i : ℕ) (rest : List ℕ) (first : Stop) → i < length wanted → behind_byte (get_or wanted i 0) rest ≡ Err first → behind_bytes (drop i wanted) rest ≡ Err first
unfolding behind_bytes
head_fails wanted i rest first lt e =
    let one : drop i wanted ≡ get_or wanted i 0 ∷ drop (suc i) wanted = drop-cons wanted i 0 lt in
    ap (λ (w : List ℕ). behind_bytes w rest) one
    ∙ ap (λ (r : Result (List ℕ) Stop). r >>= λ behind. behind_bytes (drop (suc i) wanted) behind) e

pub head_done : (wanted : List ℕ) (i : ℕ) (rest : List ℕ) → length wanted ≤ i → behind_bytes (drop i wanted) rest ≡ Ok rest
unfolding behind_bytes
head_done wanted i rest le = ap (λ (w : List ℕ). behind_bytes w rest) (drop_all i wanted le)

-- ---- entries

pub entries_over : (left : ℕ) (bytes : List ℕ) → left ≡ 0 → behind_entries left bytes ≡ Ok bytes
unfolding entries_at
entries_over left bytes none = ap (λ (n : ℕ). behind_entries n bytes) none

entries_more : (more : ℕ) (bytes rest : List ℕ) → behind_entry bytes ≡ Ok rest → behind_entries (suc more) bytes ≡ behind_entries more rest
unfolding entries_at
entries_more more bytes rest e = by_entry (entry_at bytes) e
  where
    by_rest : (entry : Entry) (found : Front (List Entry)) → rest_of (found >>= λ rest. done (entry ∷ rest.0, rest.1)) ≡ rest_of found
    by_rest entry (Ok found) = refl
    by_rest entry (Err first) = refl

    ok_is : (x y : List ℕ) → done x ≡ done y → x ≡ y
    ok_is x y e = cc

    by_entry : (found : Front Entry) → rest_of found ≡ Ok rest → rest_of (found >>= λ entry. entries_at more entry.1 >>= λ rest. done (entry.0 ∷ rest.0, rest.1)) ≡ rest_of (entries_at more rest)
    by_entry (Ok found) e = by_rest found.0 (entries_at more found.1) ∙ ap (λ (t : List ℕ). rest_of (entries_at more t)) (ok_is found.1 rest e)
    by_entry (Err first) e = absurd cc

entries_stop : (more : ℕ) (bytes : List ℕ) (first : Stop) → behind_entry bytes ≡ Err first → behind_entries (suc more) bytes ≡ Err first
unfolding entries_at
entries_stop more bytes first e = by_entry (entry_at bytes) e
  where
    by_entry : (found : Front Entry) → rest_of found ≡ Err first → rest_of (found >>= λ entry. entries_at more entry.1 >>= λ rest. done (entry.0 ∷ rest.0, rest.1)) ≡ Err first
    by_entry (Ok found) e = absurd cc
    by_entry (Err other) e = e

pub entries_step : (left : ℕ) (rest behind : List ℕ) → 0 < left → behind_entry rest ≡ Ok behind → behind_entries (left - 1) behind ≡ behind_entries left rest
entries_step left rest behind some e =
    let one : suc (left - 1) ≡ left = omega arith in
    sym (entries_more (left - 1) rest behind e) ∙ ap (λ (n : ℕ). behind_entries n rest) one

pub entries_fail : (left : ℕ) (rest : List ℕ) (first : Stop) → 0 < left → behind_entry rest ≡ Err first → behind_entries left rest ≡ Err first
entries_fail left rest first some e =
    let one : left ≡ suc (left - 1) = omega arith in
    ap (λ (n : ℕ). behind_entries n rest) one ∙ entries_stop (left - 1) rest first e

-- ---- the whole

whole_of : (found : Front (List Entry)) (behind : List ℕ) → rest_of found ≡ Ok behind → (entries : List Entry) × (found ≡ Ok (entries, behind))
whole_of (Ok found) behind e = (found.0, ap (λ (r : List ℕ). done (found.0, r)) (ok_is found.1 behind e))
  where
    ok_is : (x y : List ℕ) → done x ≡ done y → x ≡ y
    ok_is x y e = cc
whole_of (Err first) behind e = absurd cc

failed_of : (found : Front (List Entry)) (first : Stop) → rest_of found ≡ Err first → found ≡ Err first
failed_of (Ok found) first e = absurd cc
failed_of (Err other) first e = stop_is other first e
  where
    stop_is : (x y : Stop) → rest_of {A = List Entry} (Err x) ≡ Err y → ◌≡◌ {A = Front (List Entry)} (Err x) (Err y)
    stop_is x y e = cc

pub all_fails : (count : ℕ) (bytes : List ℕ) (first : Stop) → behind_entries count bytes ≡ Err first → read_all count bytes ≡ Err first
unfolding read_all
all_fails count bytes first e = ap (λ (f : Front (List Entry)). f >>= λ found. alone found.0 found.1) (failed_of (entries_at count bytes) first e)

pub all_rest : (count : ℕ) (bytes behind : List ℕ) → behind_entries count bytes ≡ Ok behind → (behind ≡ [] → ⊥) → read_all count bytes ≡ Err (stop Rest (length behind))
unfolding read_all alone
all_rest count bytes [] e some = absurd (some refl)
all_rest count bytes (byte ∷ behind) e some =
    let w = whole_of (entries_at count bytes) (byte ∷ behind) e in
    ap (λ (f : Front (List Entry)). f >>= λ found. alone found.0 found.1) w.1

pub all_whole : (count : ℕ) (bytes behind : List ℕ) → behind_entries count bytes ≡ Ok behind → behind ≡ [] → (entries : List Entry) × (read_all count bytes ≡ Ok entries) × (entries_at count bytes ≡ Ok (entries, []))
unfolding read_all alone
all_whole count bytes behind e none =
    let w = whole_of (entries_at count bytes) behind e in
    let all : entries_at count bytes ≡ Ok (w.0, []) = w.1 ∙ ap (λ (r : List ℕ). done (w.0, r)) none in
    (w.0, ap (λ (f : Front (List Entry)). f >>= λ found. alone found.0 found.1) all, all)

pub counted_fails : (bytes : List ℕ) (first : Stop) → number_at w32 bytes ≡ Err first → read_counted bytes ≡ Err first
unfolding read_counted
counted_fails bytes first e = ap (λ (r : Front ℕ). r >>= λ count. read_all count.0 count.1) e

pub counted_goes : (bytes rest : List ℕ) (count : ℕ) → number_at w32 bytes ≡ Ok (count, rest) → read_counted bytes ≡ read_all count rest
unfolding read_counted
counted_goes bytes rest count e = ap (λ (r : Front ℕ). r >>= λ count. read_all count.0 count.1) e

pub transcript_fails : (bytes : List ℕ) (first : Stop) → behind_bytes transcript_head bytes ≡ Err first → read_transcript bytes ≡ Err first
unfolding read_transcript
transcript_fails bytes first e = ap (λ (r : Result (List ℕ) Stop). r >>= λ rest. read_counted rest) e

pub transcript_goes : (bytes rest : List ℕ) → behind_bytes transcript_head bytes ≡ Ok rest → read_transcript bytes ≡ read_counted rest
unfolding read_transcript
transcript_goes bytes rest e = ap (λ (r : Result (List ℕ) Stop). r >>= λ rest. read_counted rest) e

pub not_both : (b : Bool) → b ≡ false → b ≡ true → ⊥
not_both true f t = absurd cc
not_both false f t = absurd cc
