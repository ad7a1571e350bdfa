-- The sessions of a job are walked by a round.
use Rattle.std.proofs.Common.{◌≡◌, ℕ, zero, suc, ◌<◌, List, [], ◌∷◌, ◌++◌, length, map, set, refl, sym, ◌∙◌, ap, subst, arith}
use Rattle.std.specs.Prelude.{true, false, Option, Some, slice_get}
use Rattle.std.specs.List.{AllByRecursion, remove}
use Rattle.std.proofs.lemmas.List.{length-map, map-set, map-append}
use Rattle.std.proofs.lemmas.Option.{none-some, same_Some}
use Rattle.bench_trait.specs.declared.artefacts.Artefact.{Artefact}
use Rattle.bench_trait.specs.declared.ask.Ask.{Ask}
use Rattle.bench_trait.specs.declared.bench.BenchFault.{BenchFault}
use Rattle.session_model.specs.Session.{Session}
use Rattle.session_model.specs.Record.{Record, numbers_below}
use Rattle.session_model.specs.Recorded.{recorded}
use Rattle.session_model.specs.declared.record.Record.{Record as KeptRecord}
use Rattle.session_runs.specs.Standing.{opened, State as SessionState, is_open, is_done, has_failed, has_starved}
use Rattle.session_runs.specs.Schedule.{draw, Walked, just_opened, all_opened, first_from, is_running, is_starving}
use Rattle.session_runs.specs.Played.{AsksOnly, AskOnly}
use Rattle.place_check.specs.declared.entry.PlaceEntry.{PlaceEntry}
use Rattle.place_check.specs.Places.{keys_of}
use Rattle.place_check.specs.Session.{CheckedSession, session_of}
use Rattle.checked_sessions.specs.Named.{place_names}
use Rattle.session_book.specs.declared.entry.State.TheVariants.{Open, Done, Failed}
use Rattle.session_book.specs.Entries.{entry_of}
use Rattle.session_core.specs.declared.opened.Opened.{Opened}
use Rattle.session_core.specs.Session.{Seen, session_in, places_in, keys_in, IsJustOpened}
use Rattle.session_core.specs.Reading.{word_of}
use Rattle.session_walk.specs.Drawn.{candidate_count, session_draw, candidate_draw, CanGoOn, IsDrawn}
use Rattle.session_walk.specs.Taken.{TakesCandidate}
use Rattle.session_walk.specs.UnderWay.{IsWalking, IsRoundOn, entries_left}
use Rattle.session_walk.specs.Records.{record_in, AreRecordsOf}
use Rattle.session_walk.specs.Sessions.{walked_by, walked_in, AreAllOpened, IsOpenedIn, GoesOnAt, IsWalkOf, IsWalkedOn}

-- lists by their indices
pub all_at : {A : Type 0} (P : A → Type 0) (xs : List A) (i : ℕ) (x : A) → AllByRecursion P xs → slice_get xs i ≡ Some x → P x
all_at P [] i x h e = absurd (none-some x e)
all_at P (y ∷ ys) zero x h e = subst P (same_Some y x e) h.0
all_at P (y ∷ ys) (suc i) x h e = all_at P ys i x h.1 e

all_set : {A : Type 0} (P : A → Type 0) (xs : List A) (i : ℕ) (x : A) → AllByRecursion P xs → P x → AllByRecursion P (set xs i x)
all_set P [] i x h p = h
all_set P (y ∷ ys) zero x h p = (p, h.1)
all_set P (y ∷ ys) (suc i) x h p = (h.0, all_set P ys i x h.1 p)

pub there : {A : Type 0} (before after : List A) (x : A) → slice_get (before ++ x ∷ after) (length before) ≡ Some x
there [] after x = refl
there (y ∷ before) after x = there before after x

pub set_there : {A : Type 0} (xs : List A) (i : ℕ) (x y : A) → slice_get xs i ≡ Some x → slice_get (set xs i y) i ≡ Some y
set_there [] i x y e = absurd (none-some x e)
set_there (z ∷ zs) zero x y e = refl
set_there (z ∷ zs) (suc i) x y e = set_there zs i x y e

-- an element of a mapped list, and back
pub map_there : {A B : Type 0} (f : A → B) (xs : List A) (i : ℕ) (x : A) → slice_get xs i ≡ Some x → slice_get (map f xs) i ≡ Some (f x)
map_there f [] i x e = absurd (none-some x e)
map_there {B = B} f (y ∷ ys) zero x e =
    let some : B → Option B = λ z. Some z in
    ap (λ z. some (f z)) (same_Some y x e)
map_there f (y ∷ ys) (suc i) x e = map_there f ys i x e

pub map_back : {A B : Type 0} (f : A → B) (xs : List A) (i : ℕ) (z : B) → slice_get (map f xs) i ≡ Some z → (x : A) × (slice_get xs i ≡ Some x) × (f x ≡ z)
map_back f [] i z e = absurd (none-some z e)
map_back f (y ∷ ys) zero z e = (y, refl, same_Some (f y) z e)
map_back f (y ∷ ys) (suc i) z e = map_back f ys i z e

pub opens : (state : SessionState) → Open ≡ word_of state → is_running state ≡ true
opens is_open e = refl
opens (is_done value) e = absurd (cc)
opens (has_failed event fault) e = absurd (cc)
opens (has_starved event) e = absurd (cc)

-- the session was done or failed
pub record HasEnded (state : SessionState) : Type 0 where
  pub over : is_running state ≡ false
  pub fed : is_starving state ≡ false

pub ends_done : (state : SessionState) → Done ≡ word_of state → HasEnded state
ends_done is_open e = absurd (cc)
ends_done (is_done value) e = record { over = refl; fed = refl }
ends_done (has_failed event fault) e = record { over = refl; fed = refl }
ends_done (has_starved event) e = absurd (cc)

pub ends_failed : (state : SessionState) → Failed ≡ word_of state → HasEnded state
ends_failed is_open e = absurd (cc)
ends_failed (is_done value) e = record { over = refl; fed = refl }
ends_failed (has_failed event fault) e = record { over = refl; fed = refl }
ends_failed (has_starved event) e = absurd (cc)

module _ {B : Type 0} (Gives : Ask → List ℕ → Type 0) (Fails : Ask → BenchFault → Type 0) (Starves : Ask → Type 0) (artefacts : List Artefact) (bench : B) where
  abbrev pub Listed : Type 0
  Listed = (places : List (List ℕ)) (keys : List (List ℕ × List ℕ)) (those : List Session) (number : ℕ) (all : List Walked) (going : List ℕ) (from : Option ℕ) (drawn played : ℕ) → AskOnly places those → IsWalking Gives Fails Starves places keys those number all going from → slice_get going drawn ≡ Some played → (walked : Walked) × (slice_get all played ≡ Some walked) × CanGoOn places walked

  abbrev pub GoesOn : Type 0
  GoesOn = (places : List (List ℕ)) (keys : List (List ℕ × List ℕ)) (those : List Session) (number : ℕ) (all : List Walked) (going : List ℕ) (from : Option ℕ) (drawn played : ℕ) (before after : Walked) (index : ℕ) (later : Option ℕ) → AskOnly places those → IsWalking Gives Fails Starves places keys those number all going from → IsDrawn places all going from drawn played before index later → TakesCandidate Gives Fails Starves places keys index before after → IsRoundOn Gives Fails Starves places keys those number all going drawn played after later

  -- the session that is listed is there, and can go on
  pub record IsThere (places : List PlaceEntry) (sessions : List (Seen (Opened B))) (i : ℕ) : Type 0 where
    pub seen : Seen (Opened B)
    pub there : slice_get sessions i ≡ Some seen
    pub opened_in : IsOpenedIn places artefacts bench seen
    pub can : CanGoOn (places_in seen.opening) (walked_in seen)

  pub is_there : Listed → (places : List PlaceEntry) (those : List Session) (number : ℕ) (sessions : List (Seen (Opened B))) (going : List ℕ) (from : Option ℕ) (drawn i : ℕ) → IsWalkOf Gives Fails Starves places artefacts bench those number sessions going from → slice_get going drawn ≡ Some i → IsThere places sessions i
  is_there law places those number sessions going from drawn i walk listed =
      let w = law (place_names places) (keys_of places) those number (map walked_in sessions) going from drawn i walk.only walk.walking listed in
      let found : (seen : Seen (Opened B)) × (slice_get sessions i ≡ Some seen) × (walked_in seen ≡ w.0) = map_back walked_in sessions i w.0 w.1 in
      let in_it : IsOpenedIn places artefacts bench found.0 = all_at (IsOpenedIn places artefacts bench) sessions i found.0 walk.opened_in found.1 in
      record {
        seen = found.0;
        there = found.1;
        opened_in = in_it;
        can = subst (λ p. CanGoOn (place_names p) (walked_in found.0)) (sym in_it.among) (subst (λ x. CanGoOn (place_names places) x) (sym found.2) w.2);
      }

  -- the round
  pub record IsRound (places : List PlaceEntry) (those : List Session) (number : ℕ) (old new : List (Seen (Opened B))) (going : List ℕ) (drawn i : ℕ) (after : Seen (Opened B)) (later : Option ℕ) : Type 0 where
    pub only : AskOnly (place_names places) those
    pub opened_in : AllByRecursion (IsOpenedIn places artefacts bench) new
    pub all : map walked_in new ≡ set (map walked_in old) i (walked_in after)
    pub round : IsRoundOn Gives Fails Starves (place_names places) (keys_of places) those number (map walked_in old) going drawn i (walked_in after) later

  pub rounds_on : GoesOn → (places : List PlaceEntry) (those : List Session) (number : ℕ) (old new : List (Seen (Opened B))) (going : List ℕ) (from later : Option ℕ) (drawn i : ℕ) (seen : Seen (Opened B)) → IsWalkOf Gives Fails Starves places artefacts bench those number old going from → drawn ≡ (session_draw going from).drawn → slice_get going drawn ≡ Some i → slice_get old i ≡ Some seen → (goes : GoesOnAt Gives Fails Starves i seen old new (session_draw going from).from later) → IsRound places those number old new going drawn i goes.after later
  rounds_on law places those number old new going from later drawn i seen walk drawn_is listed there goes =
      let was_in : IsOpenedIn places artefacts bench seen = all_at (IsOpenedIn places artefacts bench) old i seen walk.opened_in there in
      let opening = goes.opening_stays in
      let is_in : IsOpenedIn places artefacts bench goes.after = record {
        among = ap (λ o. o.places.now) opening ∙ was_in.among;
        over = record { book = ap (λ o. o.artefacts.now) opening ∙ was_in.over.book; measurer = ap (λ o. o.bench.now) opening ∙ was_in.over.measurer };
      } in
      let s = (walked_in seen).standing in
      let took : TakesCandidate Gives Fails Starves (place_names places) (keys_of places) (candidate_draw (place_names places) going from s).drawn (walked_in seen) (walked_in goes.after) = subst (λ p. TakesCandidate Gives Fails Starves (place_names p) (keys_of p) (draw (candidate_count (place_names p) s) (session_draw going from).from).drawn (walked_in seen) (walked_in goes.after)) was_in.among goes.took in
      let drawn_there : IsDrawn (place_names places) (map walked_in old) going from drawn i (walked_in seen) (candidate_draw (place_names places) going from s).drawn later = record {
        drawn_is = drawn_is;
        listed = listed;
        there = map_there walked_in old i seen there;
        candidate = refl;
        from_then = goes.from_then ∙ ap (λ p. (draw (candidate_count (place_names p) s) (session_draw going from).from).from) was_in.among;
      } in
      record {
        only = walk.only;
        opened_in = subst (λ xs. AllByRecursion (IsOpenedIn places artefacts bench) xs) (sym goes.others) (all_set (IsOpenedIn places artefacts bench) old i goes.after walk.opened_in is_in);
        all = ap (λ xs. map walked_in xs) goes.others ∙ map-set walked_in old i goes.after;
        round = law (place_names places) (keys_of places) those number (map walked_in old) going from drawn i (walked_in seen) (walked_in goes.after) (candidate_draw (place_names places) going from s).drawn later walk.only walk.walking drawn_there took;
      }

  pub stays_open : (places : List PlaceEntry) (those : List Session) (number : ℕ) (old new : List (Seen (Opened B))) (going : List ℕ) (drawn i : ℕ) (after : Seen (Opened B)) (later : Option ℕ) → IsRound places those number old new going drawn i after later → is_running (walked_in after).standing.state ≡ true → IsWalkedOn Gives Fails Starves places artefacts bench those number old new going later
  stays_open places those number old new going drawn i after later r runs = record {
    walk = record {
      only = r.only;
      opened_in = r.opened_in;
      walking = subst (λ xs. IsWalking Gives Fails Starves (place_names places) (keys_of places) those number xs going later) (sym r.all) (r.round.stays runs);
    };
    fewer = subst (λ xs. entries_left xs < entries_left (map walked_in old)) (sym r.all) r.round.fewer;
  }

  pub leaves_open : (places : List PlaceEntry) (those : List Session) (number : ℕ) (old new : List (Seen (Opened B))) (going : List ℕ) (drawn i : ℕ) (after : Seen (Opened B)) (later : Option ℕ) → IsRound places those number old new going drawn i after later → HasEnded (walked_in after).standing.state → IsWalkedOn Gives Fails Starves places artefacts bench those number old new (remove going drawn) later
  leaves_open places those number old new going drawn i after later r ended = record {
    walk = record {
      only = r.only;
      opened_in = r.opened_in;
      walking = subst (λ xs. IsWalking Gives Fails Starves (place_names places) (keys_of places) those number xs (remove going drawn) later) (sym r.all) (r.round.ends ended.over ended.fed);
    };
    fewer = subst (λ xs. entries_left xs < entries_left (map walked_in old)) (sym r.all) r.round.fewer;
  }

-- lists that grow at their end
pub all_more : {A : Type 0} (P : A → Type 0) (xs : List A) (x : A) → AllByRecursion P xs → P x → AllByRecursion P (xs ++ x ∷ [])
all_more P [] x h p = (p, tt)
all_more P (y ∷ ys) x h p = (h.0, all_more P ys x h.1 p)

pub only_more : (places : List (List ℕ)) (those : List Session) (one : Session) → AskOnly places those → AsksOnly places one.phrase → AskOnly places (those ++ one ∷ [])
only_more places [] one h a = (a, tt)
only_more places (first ∷ rest) one h a = (h.0, only_more places rest one h.1 a)

opened_more : (those : List Session) (one : Session) → all_opened (those ++ one ∷ []) ≡ all_opened those ++ just_opened one ∷ []
opened_more [] one = refl
opened_more (first ∷ rest) one = ap (λ xs. just_opened first ∷ xs) (opened_more rest one)

pub records_more : (all : List Walked) (records : List Record) (walked : Walked) (found : Record) → AreRecordsOf all records → record_in walked ≡ Some found → AreRecordsOf (all ++ walked ∷ []) (records ++ found ∷ [])
records_more [] [] walked found h e = (e, tt)
records_more [] (first ∷ records) walked found h e = absurd h
records_more (first ∷ all) [] walked found h e = absurd h
records_more (first ∷ all) (one ∷ records) walked found h e = (h.0, records_more all records walked found h.1 e)

module _ {B : Type 0} (places : List PlaceEntry) (artefacts : List Artefact) (bench : B) where
  pub opened_is : (one : CheckedSession) (seen : Seen (Opened B)) → IsJustOpened one places artefacts bench seen → walked_in seen ≡ just_opened (session_of one)
  opened_is one seen just =
      ap (λ items. walked_by (session_in seen.opening) (keys_in seen.opening) (opened ∷ map entry_of items)) just.items
      ∙ ap (λ c. just_opened (session_of c)) just.of_checked

  pub none_opened : AreAllOpened places artefacts bench [] []
  none_opened = record { only = tt; all = refl; opened_in = tt }

  pub one_opened : (those : List CheckedSession) (sessions : List (Seen (Opened B))) (one : CheckedSession) (seen : Seen (Opened B)) → AreAllOpened places artefacts bench those sessions → AsksOnly (place_names places) (session_of one).phrase → IsJustOpened one places artefacts bench seen → AreAllOpened places artefacts bench (those ++ one ∷ []) (sessions ++ seen ∷ [])
  one_opened those sessions one seen all asks just = record {
    only = subst (λ xs. AskOnly (place_names places) xs) (sym (map-append session_of those (one ∷ []))) (only_more (place_names places) (map session_of those) (session_of one) all.only asks);
    all =
        map-append walked_in sessions (seen ∷ [])
        ∙ ap (λ xs. xs ++ walked_in seen ∷ []) all.all
        ∙ ap (λ w. all_opened (map session_of those) ++ w ∷ []) (opened_is one seen just)
        ∙ sym (opened_more (map session_of those) (session_of one))
        ∙ ap (λ xs. all_opened xs) (sym (map-append session_of those (one ∷ [])));
    opened_in = all_more (IsOpenedIn places artefacts bench) sessions seen all.opened_in (record {
      among = just.of_places;
      over = record { book = just.of_artefacts; measurer = just.of_bench };
    });
  }

pub one_recorded : {B : Type 0} (sessions : List (Seen (Opened B))) (records : List KeptRecord) (seen : Seen (Opened B)) (found : KeptRecord) → AreRecordsOf (map walked_in sessions) (map recorded records) → record_in (walked_in seen) ≡ Some (recorded found) → AreRecordsOf (map walked_in (sessions ++ seen ∷ [])) (map recorded (records ++ found ∷ []))
one_recorded sessions records seen found h e =
    subst (λ xs. AreRecordsOf xs (map recorded (records ++ found ∷ []))) (sym (map-append walked_in sessions (seen ∷ [])))
    (subst (λ ys. AreRecordsOf (map walked_in sessions ++ walked_in seen ∷ []) ys) (sym (map-append recorded records (found ∷ [])))
    (records_more (map walked_in sessions) (map recorded records) (walked_in seen) (recorded found) h e))

-- as many as the job has
opened_count : (those : List Session) → length (all_opened those) ≡ length those
opened_count [] = refl
opened_count (first ∷ rest) = omega (arith, opened_count rest)

pub as_many : {B : Type 0} (places : List PlaceEntry) (artefacts : List Artefact) (bench : B) (those : List CheckedSession) (sessions : List (Seen (Opened B))) → AreAllOpened places artefacts bench those sessions → length sessions ≡ length those
as_many places artefacts bench those sessions all =
    omega (arith, length-map sessions walked_in, ap (λ xs. length xs) all.all, opened_count (map session_of those), length-map those session_of)

module _ {B : Type 0} (Gives : Ask → List ℕ → Type 0) (Fails : Ask → BenchFault → Type 0) (Starves : Ask → Type 0) (artefacts : List Artefact) (bench : B) where
  abbrev pub Begins : Type 0
  Begins = (places : List (List ℕ)) (keys : List (List ℕ × List ℕ)) (those : List Session) (number : ℕ) → AskOnly places those → IsWalking Gives Fails Starves places keys those number (all_opened those) (numbers_below (length those)) (first_from number)

  pub begins_walk : Begins → (places : List PlaceEntry) (those : List CheckedSession) (number : ℕ) (sessions : List (Seen (Opened B))) → AreAllOpened places artefacts bench those sessions → IsWalkOf Gives Fails Starves places artefacts bench (map session_of those) number sessions (numbers_below (length sessions)) (first_from number)
  begins_walk law places those number sessions all =
      let count : length (map session_of those) ≡ length sessions = omega (arith, length-map those session_of, as_many places artefacts bench those sessions all) in
      let begun : IsWalking Gives Fails Starves (place_names places) (keys_of places) (map session_of those) number (all_opened (map session_of those)) (numbers_below (length (map session_of those))) (first_from number) = law (place_names places) (keys_of places) (map session_of those) number all.only in
      let counted : IsWalking Gives Fails Starves (place_names places) (keys_of places) (map session_of those) number (all_opened (map session_of those)) (numbers_below (length sessions)) (first_from number) = subst (λ n. IsWalking Gives Fails Starves (place_names places) (keys_of places) (map session_of those) number (all_opened (map session_of those)) (numbers_below n) (first_from number)) count begun in
      record {
        only = all.only;
        opened_in = all.opened_in;
        walking = subst (λ xs. IsWalking Gives Fails Starves (place_names places) (keys_of places) (map session_of those) number xs (numbers_below (length sessions)) (first_from number)) (sym all.all) counted;
      }
