-- The entry that is read is the entry that was written, and an entry that was written is read again; and so for
-- whole transcripts.
use Rattle.std.proofs.Common.{◌≡◌, ℕ, zero, suc, ◌^◌, ◌<◌, List, [], ◌∷◌, ◌++◌, length, Option, Some, None, Ok, refl, sym, ap, subst, ◌∙◌, append_assoc, append-nil, eqb}
use Rattle.std.specs.Int.{w16, w32}
use Rattle.std.proofs.lemmas.Bool.{eqb-true, eq-eqb}
use Rattle.phrase_tree.specs.Name.{IsName}
use Rattle.evidence_types.specs.Answer.{FitsAnswer}
use Rattle.evidence_types.specs.Bytes.{be16, be32}
use Rattle.bench_trait.specs.declared.bench.BenchFault.{BenchFault}
use Rattle.bench_trait.specs.declared.bench.BenchFault.TheVariants.{NoArtefact, Broken}
use Rattle.session_runs.specs.Standing.{Block, root, of, run, ask, deliver, Entry, opened, played, answered, failed, starved}
use Rattle.transcript.specs.declared.fault.TranscriptKind.TheVariants.{Tag}
use Rattle.transcript.specs.Bytes.{block_bytes, fault_bytes, entry_bytes, entries_bytes, BlockFits, FaultFits, CanBeWritten, CanAllBeWritten, transcript_head, transcript, IsTranscriptOf}
use Rattle.transcript.specs.Reading.{stop, ◌>>=◌, number_at, choice_at, block_by, block_at, fault_by, fault_at, name_at, answer_at, run_at, ask_at, delivery_at, answered_at, failed_at, entry_by, entry_at, entries_at, behind_byte, behind_bytes, alone, read_all, read_counted, read_transcript}
use Rattle.transcript.proofs.FieldLemmas.{IsBytes, IsBytes-rest, bind_ok, guard_met, done, ok_is, Split, Split-then, behind_tag, wide16, wide32, number_takes, number_again, choice_bytes, ChoiceFits, choice_takes, choice_again, name_takes, name_again, answer_takes, answer_again}

-- ---- blocks and faults

block_spelled : (choice : Option ℕ) → choice_bytes w32 choice ≡ block_bytes (block_by choice)
block_spelled None = refl
block_spelled (Some n) = refl

block_fits : (choice : Option ℕ) → ChoiceFits (2 ^ 32) choice → BlockFits (block_by choice)
block_fits None fits = tt
block_fits (Some n) fits = fits

block_takes : (bytes : List ℕ) (x : Block × List ℕ) → IsBytes bytes → block_at bytes ≡ Ok x → Split bytes (block_bytes x.0) x.1 × BlockFits x.0
unfolding block_at
block_takes bytes x fits e =
    let b = bind_ok (choice_at w32 bytes) (λ choice. done (block_by choice.0, choice.1)) x e in
    let t = choice_takes w32 (2 ^ 32) wide32 bytes b.0 fits b.1 in
    subst (λ (p : Block × List ℕ). Split bytes (block_bytes p.0) p.1 × BlockFits p.0) (ok_is (block_by b.0.0, b.0.1) x b.2)
    (subst (λ (text : List ℕ). Split bytes text b.0.1) (block_spelled b.0.0) t.0, block_fits b.0.0 t.1)

block_again : (block : Block) (rest : List ℕ) → BlockFits block → block_at (block_bytes block ++ rest) ≡ Ok (block, rest)
unfolding block_at
block_again root rest fits = rw (choice_again w32 (2 ^ 32) wide32 None rest tt) refl
block_again (of n) rest fits = rw (choice_again w32 (2 ^ 32) wide32 (Some n) rest fits) refl

fault_spelled : (choice : Option ℕ) → choice_bytes w16 choice ≡ fault_bytes (fault_by choice)
fault_spelled None = refl
fault_spelled (Some n) = refl

fault_fits : (choice : Option ℕ) → ChoiceFits (2 ^ 16) choice → FaultFits (fault_by choice)
fault_fits None fits = tt
fault_fits (Some n) fits = fits

fault_takes : (bytes : List ℕ) (x : BenchFault × List ℕ) → IsBytes bytes → fault_at bytes ≡ Ok x → Split bytes (fault_bytes x.0) x.1 × FaultFits x.0
unfolding fault_at
fault_takes bytes x fits e =
    let b = bind_ok (choice_at w16 bytes) (λ choice. done (fault_by choice.0, choice.1)) x e in
    let t = choice_takes w16 (2 ^ 16) wide16 bytes b.0 fits b.1 in
    subst (λ (p : BenchFault × List ℕ). Split bytes (fault_bytes p.0) p.1 × FaultFits p.0) (ok_is (fault_by b.0.0, b.0.1) x b.2)
    (subst (λ (text : List ℕ). Split bytes text b.0.1) (fault_spelled b.0.0) t.0, fault_fits b.0.0 t.1)

fault_again : (fault : BenchFault) (rest : List ℕ) → FaultFits fault → fault_at (fault_bytes fault ++ rest) ≡ Ok (fault, rest)
unfolding fault_at
fault_again NoArtefact rest fits = rw (choice_again w16 (2 ^ 16) wide16 None rest tt) refl
fault_again (Broken n) rest fits = rw (choice_again w16 (2 ^ 16) wide16 (Some n) rest fits) refl

-- ---- an entry that is read was written

pub record EntryRead (bytes : List ℕ) (x : Entry × List ℕ) : Type 0 where
  pub front : Split bytes (entry_bytes x.0) x.1
  pub can : CanBeWritten x.0

run_takes : (bytes : List ℕ) (x : Entry × List ℕ) → IsBytes bytes → run_at bytes ≡ Ok x → EntryRead (0 ∷ bytes) x
unfolding run_at
run_takes bytes x fits e =
    let a = bind_ok (number_at w32 bytes) (λ pass. block_at pass.1 >>= λ block. done (played pass.0 (run block.0), block.1)) x e in
    let b = bind_ok (block_at a.0.1) (λ block. done (played a.0.0 (run block.0), block.1)) x a.2 in
    let t0 = number_takes w32 (2 ^ 32) wide32 bytes a.0 fits a.1 in
    let t1 = block_takes a.0.1 b.0 t0.0.rest_fits b.1 in
    let both = Split-then bytes (be32 a.0.0) a.0.1 (block_bytes b.0.0) b.0.1 t0.0 t1.0 in
    subst (λ (p : Entry × List ℕ). EntryRead (0 ∷ bytes) p) (ok_is (played a.0.0 (run b.0.0), b.0.1) x b.2)
    (record { front = behind_tag 0 bytes (be32 a.0.0 ++ block_bytes b.0.0) b.0.1 both; can = (t0.1, t1.1) })

ask_takes : (bytes : List ℕ) (x : Entry × List ℕ) → IsBytes bytes → ask_at bytes ≡ Ok x → EntryRead (1 ∷ bytes) x
unfolding ask_at
ask_takes bytes x fits e =
    let a = bind_ok (number_at w32 bytes) (λ pass. block_at pass.1 >>= λ block. done (played pass.0 (ask block.0), block.1)) x e in
    let b = bind_ok (block_at a.0.1) (λ block. done (played a.0.0 (ask block.0), block.1)) x a.2 in
    let t0 = number_takes w32 (2 ^ 32) wide32 bytes a.0 fits a.1 in
    let t1 = block_takes a.0.1 b.0 t0.0.rest_fits b.1 in
    let both = Split-then bytes (be32 a.0.0) a.0.1 (block_bytes b.0.0) b.0.1 t0.0 t1.0 in
    subst (λ (p : Entry × List ℕ). EntryRead (1 ∷ bytes) p) (ok_is (played a.0.0 (ask b.0.0), b.0.1) x b.2)
    (record { front = behind_tag 1 bytes (be32 a.0.0 ++ block_bytes b.0.0) b.0.1 both; can = (t0.1, t1.1) })

delivery_takes : (bytes : List ℕ) (x : Entry × List ℕ) → IsBytes bytes → delivery_at bytes ≡ Ok x → EntryRead (2 ∷ bytes) x
unfolding delivery_at
delivery_takes bytes x fits e =
    let a = bind_ok (number_at w32 bytes) (λ pass. name_at pass.1 >>= λ place. done (played pass.0 (deliver place.0), place.1)) x e in
    let b = bind_ok (name_at a.0.1) (λ place. done (played a.0.0 (deliver place.0), place.1)) x a.2 in
    let t0 = number_takes w32 (2 ^ 32) wide32 bytes a.0 fits a.1 in
    let t1 = name_takes a.0.1 b.0 t0.0.rest_fits b.1 in
    let both = Split-then bytes (be32 a.0.0) a.0.1 (length b.0.0 ∷ b.0.0) b.0.1 t0.0 t1.0 in
    subst (λ (p : Entry × List ℕ). EntryRead (2 ∷ bytes) p) (ok_is (played a.0.0 (deliver b.0.0), b.0.1) x b.2)
    (record { front = behind_tag 2 bytes (be32 a.0.0 ++ (length b.0.0 ∷ b.0.0)) b.0.1 both; can = (t0.1, t1.1) })

answered_takes : (bytes : List ℕ) (x : Entry × List ℕ) → IsBytes bytes → answered_at bytes ≡ Ok x → EntryRead (3 ∷ bytes) x
unfolding answered_at
answered_takes bytes x fits e =
    let a = bind_ok (number_at w32 bytes) (λ pass. number_at w32 pass.1 >>= λ event. answer_at event.1 >>= λ answer. done (answered pass.0 event.0 answer.0, answer.1)) x e in
    let m = bind_ok (number_at w32 a.0.1) (λ event. answer_at event.1 >>= λ answer. done (answered a.0.0 event.0 answer.0, answer.1)) x a.2 in
    let b = bind_ok (answer_at m.0.1) (λ answer. done (answered a.0.0 m.0.0 answer.0, answer.1)) x m.2 in
    let t0 = number_takes w32 (2 ^ 32) wide32 bytes a.0 fits a.1 in
    let t1 = number_takes w32 (2 ^ 32) wide32 a.0.1 m.0 t0.0.rest_fits m.1 in
    let t2 = answer_takes m.0.1 b.0 t1.0.rest_fits b.1 in
    let two = Split-then a.0.1 (be32 m.0.0) m.0.1 (be16 (length b.0.0) ++ b.0.0) b.0.1 t1.0 t2.0 in
    let both = Split-then bytes (be32 a.0.0) a.0.1 (be32 m.0.0 ++ (be16 (length b.0.0) ++ b.0.0)) b.0.1 t0.0 two in
    subst (λ (p : Entry × List ℕ). EntryRead (3 ∷ bytes) p) (ok_is (answered a.0.0 m.0.0 b.0.0, b.0.1) x b.2)
    (record { front = behind_tag 3 bytes (be32 a.0.0 ++ (be32 m.0.0 ++ (be16 (length b.0.0) ++ b.0.0))) b.0.1 both; can = (t0.1, t1.1, t2.1) })

failed_takes : (bytes : List ℕ) (x : Entry × List ℕ) → IsBytes bytes → failed_at bytes ≡ Ok x → EntryRead (4 ∷ bytes) x
unfolding failed_at
failed_takes bytes x fits e =
    let a = bind_ok (number_at w32 bytes) (λ pass. number_at w32 pass.1 >>= λ event. fault_at event.1 >>= λ fault. done (failed pass.0 event.0 fault.0, fault.1)) x e in
    let m = bind_ok (number_at w32 a.0.1) (λ event. fault_at event.1 >>= λ fault. done (failed a.0.0 event.0 fault.0, fault.1)) x a.2 in
    let b = bind_ok (fault_at m.0.1) (λ fault. done (failed a.0.0 m.0.0 fault.0, fault.1)) x m.2 in
    let t0 = number_takes w32 (2 ^ 32) wide32 bytes a.0 fits a.1 in
    let t1 = number_takes w32 (2 ^ 32) wide32 a.0.1 m.0 t0.0.rest_fits m.1 in
    let t2 = fault_takes m.0.1 b.0 t1.0.rest_fits b.1 in
    let two = Split-then a.0.1 (be32 m.0.0) m.0.1 (fault_bytes b.0.0) b.0.1 t1.0 t2.0 in
    let both = Split-then bytes (be32 a.0.0) a.0.1 (be32 m.0.0 ++ fault_bytes b.0.0) b.0.1 t0.0 two in
    subst (λ (p : Entry × List ℕ). EntryRead (4 ∷ bytes) p) (ok_is (failed a.0.0 m.0.0 b.0.0, b.0.1) x b.2)
    (record { front = behind_tag 4 bytes (be32 a.0.0 ++ (be32 m.0.0 ++ fault_bytes b.0.0)) b.0.1 both; can = (t0.1, t1.1, t2.1) })

entry_takes_by : (tag : ℕ) (bytes : List ℕ) (x : Entry × List ℕ) → IsBytes bytes → entry_by tag bytes ≡ Ok x → EntryRead (tag ∷ bytes) x
unfolding entry_by
entry_takes_by zero bytes x fits e = run_takes bytes x fits e
entry_takes_by (suc zero) bytes x fits e = ask_takes bytes x fits e
entry_takes_by (suc (suc zero)) bytes x fits e = delivery_takes bytes x fits e
entry_takes_by (suc (suc (suc zero))) bytes x fits e = answered_takes bytes x fits e
entry_takes_by (suc (suc (suc (suc zero)))) bytes x fits e = failed_takes bytes x fits e
entry_takes_by (suc (suc (suc (suc (suc more))))) bytes x fits e = absurd cc

pub entry_takes : (bytes : List ℕ) (x : Entry × List ℕ) → IsBytes bytes → entry_at bytes ≡ Ok x → EntryRead bytes x
unfolding entry_at
entry_takes [] x fits e = absurd cc
entry_takes (tag ∷ bytes) x fits e = entry_takes_by tag bytes x (IsBytes-rest tag bytes fits) e

-- ---- an entry that was written is read

two_parts : (a b rest : List ℕ) → (a ++ b) ++ rest ≡ a ++ (b ++ rest)
two_parts a b rest = append_assoc a b rest

three_parts : (a b c rest : List ℕ) → (a ++ (b ++ c)) ++ rest ≡ a ++ (b ++ (c ++ rest))
three_parts a b c rest = append_assoc a (b ++ c) rest ∙ ap (λ (t : List ℕ). a ++ t) (append_assoc b c rest)

four_parts : (a b c d rest : List ℕ) → (a ++ (b ++ (c ++ d))) ++ rest ≡ a ++ (b ++ (c ++ (d ++ rest)))
four_parts a b c d rest = append_assoc a (b ++ (c ++ d)) rest ∙ ap (λ (t : List ℕ). a ++ t) (three_parts b c d rest)

run_again : (pass : ℕ) (block : Block) (rest : List ℕ) → pass < 2 ^ 32 → BlockFits block → run_at (be32 pass ++ (block_bytes block ++ rest)) ≡ Ok (played pass (run block), rest)
unfolding run_at
run_again pass block rest lt fits =
    rw (number_again w32 (2 ^ 32) wide32 pass (block_bytes block ++ rest) lt, block_again block rest fits) refl

ask_again : (pass : ℕ) (block : Block) (rest : List ℕ) → pass < 2 ^ 32 → BlockFits block → ask_at (be32 pass ++ (block_bytes block ++ rest)) ≡ Ok (played pass (ask block), rest)
unfolding ask_at
ask_again pass block rest lt fits =
    rw (number_again w32 (2 ^ 32) wide32 pass (block_bytes block ++ rest) lt, block_again block rest fits) refl

delivery_again : (pass : ℕ) (place rest : List ℕ) → pass < 2 ^ 32 → IsName place → delivery_at (be32 pass ++ (length place ∷ (place ++ rest))) ≡ Ok (played pass (deliver place), rest)
unfolding delivery_at
delivery_again pass place rest lt is =
    rw (number_again w32 (2 ^ 32) wide32 pass (length place ∷ (place ++ rest)) lt, name_again place rest is) refl

answered_again : (pass event : ℕ) (answer rest : List ℕ) → pass < 2 ^ 32 → event < 2 ^ 32 → FitsAnswer answer → answered_at (be32 pass ++ (be32 event ++ (be16 (length answer) ++ (answer ++ rest)))) ≡ Ok (answered pass event answer, rest)
unfolding answered_at
answered_again pass event answer rest lt less fits =
    rw (number_again w32 (2 ^ 32) wide32 pass (be32 event ++ (be16 (length answer) ++ (answer ++ rest))) lt, number_again w32 (2 ^ 32) wide32 event (be16 (length answer) ++ (answer ++ rest)) less, answer_again answer rest fits) refl

failed_again : (pass event : ℕ) (fault : BenchFault) (rest : List ℕ) → pass < 2 ^ 32 → event < 2 ^ 32 → FaultFits fault → failed_at (be32 pass ++ (be32 event ++ (fault_bytes fault ++ rest))) ≡ Ok (failed pass event fault, rest)
unfolding failed_at
failed_again pass event fault rest lt less fits =
    rw (number_again w32 (2 ^ 32) wide32 pass (be32 event ++ (fault_bytes fault ++ rest)) lt, number_again w32 (2 ^ 32) wide32 event (fault_bytes fault ++ rest) less, fault_again fault rest fits) refl

pub entry_again : (entry : Entry) (rest : List ℕ) → CanBeWritten entry → entry_at (entry_bytes entry ++ rest) ≡ Ok (entry, rest)
unfolding entry_at entry_by
entry_again opened rest can = absurd can
entry_again (played pass (run block)) rest can =
    ap (λ (t : List ℕ). run_at t) (two_parts (be32 pass) (block_bytes block) rest) ∙ run_again pass block rest can.0 can.1
entry_again (played pass (ask block)) rest can =
    ap (λ (t : List ℕ). ask_at t) (two_parts (be32 pass) (block_bytes block) rest) ∙ ask_again pass block rest can.0 can.1
entry_again (played pass (deliver place)) rest can =
    ap (λ (t : List ℕ). delivery_at t) (two_parts (be32 pass) (length place ∷ place) rest) ∙ delivery_again pass place rest can.0 can.1
entry_again (answered pass event answer) rest can =
    ap (λ (t : List ℕ). answered_at t) (four_parts (be32 pass) (be32 event) (be16 (length answer)) answer rest) ∙ answered_again pass event answer rest can.0 can.1 can.2
entry_again (failed pass event fault) rest can =
    ap (λ (t : List ℕ). failed_at t) (three_parts (be32 pass) (be32 event) (fault_bytes fault) rest) ∙ failed_again pass event fault rest can.0 can.1 can.2
entry_again (starved pass event) rest can = absurd can

-- ---- entries

pub record EntriesRead (count : ℕ) (bytes : List ℕ) (x : List Entry × List ℕ) : Type 0 where
  pub front : Split bytes (entries_bytes x.0) x.1
  pub can : CanAllBeWritten x.0
  pub counted : length x.0 ≡ count

pub entries_take : (count : ℕ) (bytes : List ℕ) (x : List Entry × List ℕ) → IsBytes bytes → entries_at count bytes ≡ Ok x → EntriesRead count bytes x
unfolding entries_at
entries_take zero bytes x fits e =
    subst (λ (p : List Entry × List ℕ). EntriesRead 0 bytes p) (ok_is ([], bytes) x e) (record { front = record { parts = refl; rest_fits = fits }; can = tt; counted = refl })
entries_take (suc more) bytes x fits e =
    let a = bind_ok (entry_at bytes) (λ entry. entries_at more entry.1 >>= λ rest. done (entry.0 ∷ rest.0, rest.1)) x e in
    let b = bind_ok (entries_at more a.0.1) (λ rest. done (a.0.0 ∷ rest.0, rest.1)) x a.2 in
    let t = entry_takes bytes a.0 fits a.1 in
    let u = entries_take more a.0.1 b.0 t.front.rest_fits b.1 in
    subst (λ (p : List Entry × List ℕ). EntriesRead (suc more) bytes p) (ok_is (a.0.0 ∷ b.0.0, b.0.1) x b.2)
    (record {
      front = Split-then bytes (entry_bytes a.0.0) a.0.1 (entries_bytes b.0.0) b.0.1 t.front u.front;
      can = (t.can, u.can);
      counted = ap suc u.counted;
    })

pub entries_again : (entries : List Entry) (rest : List ℕ) → CanAllBeWritten entries → entries_at (length entries) (entries_bytes entries ++ rest) ≡ Ok (entries, rest)
unfolding entries_at
entries_again [] rest can = refl
entries_again (entry ∷ entries) rest can =
    ap (λ (t : List ℕ). entry_at t >>= λ first. entries_at (length entries) first.1 >>= λ more. done (first.0 ∷ more.0, more.1)) (append_assoc (entry_bytes entry) (entries_bytes entries) rest)
    ∙ rw (entry_again entry (entries_bytes entries ++ rest) can.0, entries_again entries rest can.1) refl

-- ---- the head

head_byte : (wanted : ℕ) (bytes rest : List ℕ) → behind_byte wanted bytes ≡ Ok rest → bytes ≡ wanted ∷ rest
unfolding behind_byte
head_byte wanted [] rest e = absurd cc
head_byte wanted (byte ∷ bytes) rest e =
    let g = guard_met (eqb byte wanted) (stop Tag (suc (length bytes))) (done bytes) rest e in
    ap (λ (b : ℕ). b ∷ bytes) (eqb-true byte wanted g.0) ∙ ap (λ (r : List ℕ). wanted ∷ r) (ok_is bytes rest g.1)

pub head_takes : (wanted bytes rest : List ℕ) → behind_bytes wanted bytes ≡ Ok rest → bytes ≡ wanted ++ rest
unfolding behind_bytes
head_takes [] bytes rest e = ok_is bytes rest e
head_takes (wanted ∷ more) bytes rest e =
    let b = bind_ok (behind_byte wanted bytes) (λ behind. behind_bytes more behind) rest e in
    head_byte wanted bytes b.0 b.1 ∙ ap (λ (r : List ℕ). wanted ∷ r) (head_takes more b.0 rest b.2)

pub head_again : (wanted rest : List ℕ) → behind_bytes wanted (wanted ++ rest) ≡ Ok rest
unfolding behind_bytes behind_byte
head_again [] rest = refl
head_again (wanted ∷ more) rest = rw (eq-eqb wanted wanted refl) (head_again more rest)

-- ---- transcripts

alone_ok : (entries found : List Entry) (bytes : List ℕ) → alone entries bytes ≡ Ok found → (bytes ≡ []) × (entries ≡ found)
unfolding alone
alone_ok entries found [] e = (refl, ok_is entries found e)
alone_ok entries found (byte ∷ bytes) e = absurd cc

suffix_fits : (front rest bytes : List ℕ) → bytes ≡ front ++ rest → IsBytes bytes → IsBytes rest
suffix_fits [] rest bytes e fits = subst IsBytes e fits
suffix_fits (byte ∷ front) rest bytes e fits = suffix_fits front rest (front ++ rest) refl (IsBytes-rest byte (front ++ rest) (subst IsBytes e fits))

pub transcript_takes : (bytes : List ℕ) (entries : List Entry) → IsBytes bytes → read_transcript bytes ≡ Ok entries → IsTranscriptOf bytes (opened ∷ entries)
unfolding read_transcript read_counted read_all
transcript_takes bytes entries fits e =
    let h = bind_ok (behind_bytes transcript_head bytes) (λ rest. read_counted rest) entries e in
    let n = bind_ok (number_at w32 h.0) (λ count. read_all count.0 count.1) entries h.2 in
    let f = bind_ok (entries_at n.0.0 n.0.1) (λ found. alone found.0 found.1) entries n.2 in
    let head : bytes ≡ transcript_head ++ h.0 = head_takes transcript_head bytes h.0 h.1 in
    let count = number_takes w32 (2 ^ 32) wide32 h.0 n.0 (suffix_fits transcript_head h.0 bytes head fits) n.1 in
    let those = entries_take n.0.0 n.0.1 f.0 count.0.rest_fits f.1 in
    let end = alone_ok f.0.0 entries f.0.1 f.2 in
    let text : n.0.1 ≡ entries_bytes f.0.0 = those.front.parts ∙ ap (λ (t : List ℕ). entries_bytes f.0.0 ++ t) end.0 ∙ append-nil (entries_bytes f.0.0) in
    let spelled : bytes ≡ transcript f.0.0 =
    head
    ∙ ap (λ (t : List ℕ). transcript_head ++ t) (count.0.parts ∙ ap (λ (t : List ℕ). be32 n.0.0 ++ t) text)
    ∙ ap (λ (k : ℕ). transcript_head ++ (be32 k ++ entries_bytes f.0.0)) (sym those.counted) in
    subst (λ (all : List Entry). IsTranscriptOf bytes (opened ∷ all)) end.1
    (record { entries = f.0.0; opens = refl; few = subst (λ (k : ℕ). k < 2 ^ 32) (sym those.counted) count.1; written = those.can; spelled = spelled })

read_again : (entries : List Entry) → length entries < 2 ^ 32 → CanAllBeWritten entries → read_transcript (transcript entries) ≡ Ok entries
unfolding read_transcript read_counted read_all alone
read_again entries few can =
    let whole : entries_bytes entries ≡ entries_bytes entries ++ [] = sym (append-nil (entries_bytes entries)) in
    ap (λ (t : List ℕ). read_transcript (transcript_head ++ (be32 (length entries) ++ t))) whole
    ∙ rw (head_again transcript_head (be32 (length entries) ++ (entries_bytes entries ++ [])), number_again w32 (2 ^ 32) wide32 (length entries) (entries_bytes entries ++ []) few, entries_again entries [] can) refl

tail_is : (a b : Entry) (x y : List Entry) → a ∷ x ≡ b ∷ y → x ≡ y
tail_is a b x y e = cc

pub transcript_again : (bytes : List ℕ) (entries : List Entry) → IsTranscriptOf bytes (opened ∷ entries) → read_transcript bytes ≡ Ok entries
transcript_again bytes entries is =
    let same : entries ≡ is.entries = tail_is opened opened entries is.entries is.opens in
    ap (λ (t : List ℕ). read_transcript t) is.spelled ∙ read_again is.entries is.few is.written ∙ ap (λ (x : List Entry). done x) (sym same)
