-- What an opened session needs of its places and keys.
use Rattle.std.proofs.Common.{◌≡◌, ℕ, zero, suc, ◌+◌, ◌<◌, ◌^◌, Bool, true, false, List, [], ◌∷◌, ◌++◌, length, map, refl, sym, ap, ◌∙◌, subst, arith}
use Rattle.std.specs.Prelude.{IsTrue, Option, None, Some, is_some, IsSome, nat_eq, if◌then◌else◌, slice_index_or}
use Rattle.std.specs.Cmp.Lexicographic.{pointwise}
use Rattle.std.specs.List.{AllByRecursion}
use Rattle.std.proofs.lemmas.Slice.Eq.{bytes_eq-Decides}
use Rattle.phrase_tree.specs.Term.{Term, term, Leaf, cpy, sig, hsh, nul, usm, kim, leaf, at, chain, seq, par}
use Rattle.phrase_tree.specs.Numbering.{event_count}
use Rattle.phrase_tree.specs.Events.{Event, event, replies, joins, leaf_kind, events_of}
use Rattle.bench_trait.specs.declared.ask.Ask.{Ask}
use Rattle.bench_trait.specs.Asking.{question_of, ahead_of, questions_of}
use Rattle.seal_hmac.specs.Keys.{key_of}
use Rattle.evidence_types.specs.Evidence.{nonce}
use Rattle.session_model.specs.Session.{Session, session_questions}
use Rattle.session_runs.specs.Standing.{Block as Name, Entry, opened, opening}
use Rattle.session_tables.specs.Played.{IsPlayed}
use Rattle.avm_compile.specs.Program.{program_of}
use Rattle.machine_tables.specs.Tables.{Tables, opening_tables}
use Rattle.machine_world.specs.World.{CanPlay, IsCounted, IsWorld, HasRoom}
use Rattle.session_agenda.specs.Kept.{next_by, waits_by}
use Rattle.session_book.specs.Entries.{history_of}
use Rattle.session_book.specs.Kept.{IsKept as BookIsKept, IsRoomy}
use Rattle.place_check.specs.Places.{keys_of}
use Rattle.place_check.specs.Session.{CheckedSession, IsBounded}
use Rattle.session_core.specs.declared.steps.Core.{Core}
use Rattle.session_core.specs.Core.{program_in, tables_in, IsMadeFor}
use Rattle.session_core.specs.Steps.{IsOpened}
use Rattle.session_runs.specs.Played.{AsksOnly}
use Rattle.avm_code.specs.declared.instr.Instr.{Instr}
use Rattle.avm_code.specs.declared.instr.Instr.TheVariants.{Copy, Usm, Kim, Sign, Hash, Null, Split, Swap, JoinSeq, Send, Recv, Fork, JoinPar, End}
use Rattle.avm_code.specs.declared.program.Block.{Block}
use Rattle.avm_core.specs.Machine.{NeedsKey, HasKeys}
use Rattle.avm_core.specs.Programs.{IsKeyed}
use Rattle.machine_world.specs.Playable.{is_listed, asks_listed, PhrasesPlay}
use Rattle.place_check.specs.declared.entry.PlaceEntry.{PlaceEntry}
use Rattle.checked_sessions.specs.Named.{place_names}
use Rattle.session_core.specs.Counted.{question_count}
use Rattle.session_core.specs.Named.{name_in}

-- ---- keys

some_there : {A : Type 0} (o : Option A) → IsTrue (is_some o) → IsSome o
some_there None h = absurd (cc)
some_there (Some a) h = refl

needs_key : (keys : List (List ℕ × List ℕ)) (place : List ℕ) (instr : Instr) → IsTrue (is_some (key_of keys place)) → NeedsKey keys place instr
needs_key keys place (Sign i) h = some_there (key_of keys place) h
needs_key keys place (Copy i) h = tt
needs_key keys place (Usm i asp) h = tt
needs_key keys place (Kim i target asp) h = tt
needs_key keys place (Hash i) h = tt
needs_key keys place (Null i) h = tt
needs_key keys place (Split i split) h = tt
needs_key keys place Swap h = tt
needs_key keys place (JoinSeq i) h = tt
needs_key keys place (Send i asked) h = tt
needs_key keys place (Recv j i) h = tt
needs_key keys place (Fork i split) h = tt
needs_key keys place (JoinPar j i) h = tt
needs_key keys place End h = tt

has_keys : (keys : List (List ℕ × List ℕ)) (place : List ℕ) (code : List Instr) → IsTrue (is_some (key_of keys place)) → HasKeys keys place code
has_keys keys place [] h = tt
has_keys keys place (instr ∷ rest) h = (needs_key keys place instr h, has_keys keys place rest h)

pub all_keyed : (keys : List (List ℕ × List ℕ)) (program : List Block) → AllByRecursion (λ one. IsTrue (is_some (key_of keys one.place))) program → AllByRecursion (IsKeyed keys) program
all_keyed keys [] h = tt
all_keyed keys (block ∷ rest) h = (has_keys keys block.place block.code h.0, all_keyed keys rest h.1)

-- ---- places that are asked

listed_at : (places : List (List ℕ)) (asked : List ℕ) (k : ℕ) → k < length places → slice_index_or places k asked ≡ asked → is_listed places asked ≡ true
listed_at [] asked k h e = absurd (omega arith)
listed_at (first ∷ rest) asked zero h e =
    ap (λ (b : Bool). if b then true else is_listed rest asked) ((bytes_eq-Decides first asked).1 e)
listed_at (first ∷ rest) asked (suc k) h e =
    by_test (pointwise nat_eq first asked) (listed_at rest asked k (omega arith) e)
  where
    by_test : (b : Bool) → is_listed rest asked ≡ true → (if b then true else is_listed rest asked) ≡ true
    by_test true more = refl
    by_test false more = more

module _ (places : List (List ℕ)) where
  abbrev Listed : Event → Type 0
  Listed one = IsTrue (asks_listed places one.kind)

  both : (xs ys : List Event) → AllByRecursion Listed xs → AllByRecursion Listed ys → AllByRecursion Listed (xs ++ ys)
  both [] ys a b = b
  both (x ∷ xs) ys a b = (a.0, both xs ys a.1 b)

  leaf_listed : (form : Leaf) → IsTrue (asks_listed places (leaf_kind form))
  leaf_listed cpy = refl
  leaf_listed sig = refl
  leaf_listed hsh = refl
  leaf_listed nul = refl
  leaf_listed (usm asp) = refl
  leaf_listed (kim target asp) = refl

  pub all_listed : (phrase : Term) (place : List ℕ) (i : ℕ) → AsksOnly places phrase → AllByRecursion Listed (events_of phrase place i)
  all_listed (leaf form) place i h = (leaf_listed form, tt)
  all_listed (at asked body) place i h = (
    listed_at places asked h.0.0 h.0.1 h.0.2,
    both (events_of body asked (i + 1)) (event (i + 1 + event_count body) (replies asked) place ∷ []) (all_listed body asked (i + 1) h.1) (refl, tt),
  )
  all_listed (chain left right) place i h =
      both (events_of left place i) (events_of right place (i + event_count left)) (all_listed left place i h.0) (all_listed right place (i + event_count left) h.1)
  all_listed (seq split left right) place i h = (
    refl,
    both (events_of left place (i + 1) ++ events_of right place (i + 1 + event_count left)) (event (i + 1 + event_count left + event_count right) joins place ∷ [])
        (both (events_of left place (i + 1)) (events_of right place (i + 1 + event_count left)) (all_listed left place (i + 1) h.0) (all_listed right place (i + 1 + event_count left) h.1)) (refl, tt),
  )
  all_listed (par split left right) place i h = (
    refl,
    both (events_of left place (i + 1) ++ events_of right place (i + 1 + event_count left)) (event (i + 1 + event_count left + event_count right) joins place ∷ [])
        (both (events_of left place (i + 1)) (events_of right place (i + 1 + event_count left)) (all_listed left place (i + 1) h.0) (all_listed right place (i + 1 + event_count left) h.1)) (refl, tt),
  )

-- ---- names

pub names-mapped : (places : List PlaceEntry) → map name_in places ≡ place_names places
names-mapped [] = refl
names-mapped (entry ∷ rest) = ap (λ (l : List (List ℕ)). entry.name ∷ l) (names-mapped rest)

pub names-many : (places : List PlaceEntry) → length (place_names places) ≡ length places
names-many [] = refl
names-many (entry ∷ rest) = ap (λ (n : ℕ). suc n) (names-many rest)

-- ---- questions

many_ahead : (bytes : List ℕ) (xs ys : List Event) → length (questions_of bytes (xs ++ ys)) ≡ length (questions_of bytes xs) + length (questions_of bytes ys)
many_ahead bytes [] ys = omega arith
many_ahead bytes (x ∷ xs) ys = by_question (question_of bytes x.number x.place x.kind) (many_ahead bytes xs ys)
  where
    by_question : (found : Option Ask) → length (questions_of bytes (xs ++ ys)) ≡ length (questions_of bytes xs) + length (questions_of bytes ys) → length (ahead_of found (questions_of bytes (xs ++ ys))) ≡ length (ahead_of found (questions_of bytes xs)) + length (questions_of bytes ys)
    by_question None e = e
    by_question (Some ask) e = omega (arith, e)

leaf_count : (form : Leaf) (place bytes : List ℕ) (i : ℕ) → length (questions_of bytes (events_of (leaf form) place i)) ≡ question_count (leaf form)
leaf_count cpy place bytes i = refl
leaf_count sig place bytes i = refl
leaf_count hsh place bytes i = refl
leaf_count nul place bytes i = refl
leaf_count (usm asp) place bytes i = refl
leaf_count (kim target asp) place bytes i = refl

pub counts : (phrase : Term) (place bytes : List ℕ) (i : ℕ) → length (questions_of bytes (events_of phrase place i)) ≡ question_count phrase
counts (leaf form) place bytes i = leaf_count form place bytes i
counts (at asked body) place bytes i =
    let a = many_ahead bytes (events_of body asked (i + 1)) (event (i + 1 + event_count body) (replies asked) place ∷ []) in
    let b = counts body asked bytes (i + 1) in omega (arith, a, b)
counts (chain left right) place bytes i =
    let a = many_ahead bytes (events_of left place i) (events_of right place (i + event_count left)) in
    let b = counts left place bytes i in
    let d = counts right place bytes (i + event_count left) in omega (arith, a, b, d)
counts (seq split left right) place bytes i =
    let a = many_ahead bytes (events_of left place (i + 1) ++ events_of right place (i + 1 + event_count left)) (event (i + 1 + event_count left + event_count right) joins place ∷ []) in
    let e = many_ahead bytes (events_of left place (i + 1)) (events_of right place (i + 1 + event_count left)) in
    let b = counts left place bytes (i + 1) in
    let d = counts right place bytes (i + 1 + event_count left) in omega (arith, a, e, b, d)
counts (par split left right) place bytes i =
    let a = many_ahead bytes (events_of left place (i + 1) ++ events_of right place (i + 1 + event_count left)) (event (i + 1 + event_count left + event_count right) joins place ∷ []) in
    let e = many_ahead bytes (events_of left place (i + 1)) (events_of right place (i + 1 + event_count left)) in
    let b = counts left place bytes (i + 1) in
    let d = counts right place bytes (i + 1 + event_count left) in omega (arith, a, e, b, d)

-- ---- the program can be played

pub can-play : (checked : CheckedSession) (places : List PlaceEntry) (program : List Block) (names : List (List ℕ)) → PhrasesPlay → IsBounded (term checked.phrase) → AllByRecursion (λ one. IsTrue (is_some (key_of (keys_of places) one.place))) (program_of (term checked.phrase) checked.root) → AsksOnly (place_names places) (term checked.phrase) → length places < 2 ^ 32
    → program ≡ program_of (term checked.phrase) checked.root → names ≡ map name_in places
    → CanPlay program (keys_of places) names × IsCounted program (event_count (term checked.phrase))
can-play checked places program names plays bounded keyed asks few is named =
    let phrase = term checked.phrase in
    let keys = keys_of places in
    let same = named ∙ names-mapped places in
    let many = names-many places in
    let all = plays phrase checked.root keys (place_names places) bounded.sized (all_keyed keys (program_of phrase checked.root) keyed) (all_listed (place_names places) phrase checked.root 0 asks) (omega (arith, many, few)) in
    (subst (λ (p : List Block). CanPlay p keys names) (sym is) (subst (λ (n : List (List ℕ)). CanPlay (program_of phrase checked.root) keys n) (sym same) all.0), subst (λ (p : List Block). IsCounted p (event_count phrase)) (sym is) all.1)

-- ---- a core just opened

pub is-opened : (session : Session) (keys : List (List ℕ × List ℕ)) (places : List (List ℕ)) (core : Core) → IsPlayed session keys (opened ∷ []) (opening session) (opening_tables (program_in session) (nonce session.nonce)) → IsWorld keys core.world → HasRoom core.world → core.world.program ≡ program_in session → core.world.places.items ≡ places
    → history_of core.book ≡ opened ∷ [] → BookIsKept core.book → IsRoomy (event_count session.phrase) (length (session_questions session)) core.book → tables_in core ≡ opening_tables (program_in session) (nonce session.nonce)
    → IsMadeFor session places core → ((block : Name) → next_by core.agenda block ≡ None) → ((place : ℕ) → waits_by core.agenda place ≡ false)
    → IsOpened session keys places core
is-opened session keys places core played knows room program names history kept roomy tables made idle empty = record {
  played = record {
    knows = knows;
    room = room;
    program = program;
    names = names;
    kept = kept;
    roomy = roomy;
    played = subst (λ (h : List Entry). IsPlayed session keys h (opening session) (tables_in core)) (sym history) (subst (λ (t : Tables). IsPlayed session keys (opened ∷ []) (opening session) t) (sym tables) played);
  };
  made = made;
  opens = tables;
  idle = idle;
  empty = empty;
}
