-- An agenda that is told what an entry changes follows the tables.
use Rattle.std.proofs.Common.{◌≡◌, ◌⊎◌, ℕ, zero, suc, inl, inr, List, [], ◌∷◌, refl, sym, ◌∙◌, ap, subst}
use Rattle.std.specs.Prelude.{Contains, Bool, true, false, Option, None, Some, slice_get, nat_eq, drop, ◌||◌, if◌then◌else◌}
use Rattle.std.specs.List.{AllByRecursion}
use Rattle.std.specs.Cmp.Lexicographic.{pointwise}
use Rattle.std.proofs.lemmas.Bool.{eqb-true, eq-eqb}
use Rattle.std.proofs.lemmas.Slice.Eq.{bytes_eq-Decides}
use Rattle.evidence_types.specs.Evidence.{Evidence}
use Rattle.avm_code.specs.declared.instr.Instr.{Instr}
use Rattle.avm_code.specs.declared.instr.Instr.TheVariants.{Copy, Usm, Kim, Sign, Hash, Null, Split, Swap, JoinSeq, Send, Recv, Fork, JoinPar, End}
use Rattle.avm_code.specs.declared.program.Block.{Block as CodeBlock}
use Rattle.machine_tables.specs.Tables.{BlockState, not_started, running, over, Tables, Next, same_name, next_of, opening_tables}
use Rattle.session_runs.specs.Ordered.{AreApart}
use Rattle.session_runs.specs.Standing.{Block, root, of, run, ask, deliver, Entry, opened, played, answered, failed, starved}
use Rattle.session_runs.proofs.ListingLaws.{IsAmong, contains_among}
use Rattle.session_tables.specs.Touched.{touched, changed_at, any_waits, sends_to, sends_in, sends_at, waits_after}
use Rattle.session_agenda.specs.declared.moves.Update.{Update}
use Rattle.session_agenda.specs.declared.moves.PlaceUpdate.{PlaceUpdate}
use Rattle.session_agenda.specs.declared.agenda.Agenda.{Agenda}
use Rattle.session_agenda.specs.Kept.{next_by, waits_by}
use Rattle.session_agenda.specs.Placed.{waits_at, Follows}
use Rattle.session_agenda.specs.Updated.{updated, Says, AreOfOwnEvents, Become, waits_now}
use Rattle.session_agenda.specs.Told.{sent_to, sent_in, sent_at, touched_place, TellsPlace, Tells}
use Rattle.session_agenda.proofs.Updating.{both}

-- ---- blocks

changed_old : (names : List Block) (new old was : Block → Next) (block : Block) → old block ≡ was block → changed_at names new old block ≡ changed_at names new was block
changed_old [] new old was block e = e
changed_old (name ∷ names) new old was block e =
    ap (λ (n : Next). if same_name name block then new block else n) (changed_old names new old was block e)

pub told_blocks : (program : List CodeBlock) (places : List (List ℕ)) (old new : Tables) (entry : Entry) (blocks : List Update) (place : Option PlaceUpdate) (agenda : Agenda) → Tells program places old new entry blocks place → ((block : Block) → next_by agenda block ≡ next_of old block) → ((block : Block) → next_of new block ≡ changed_at (touched program old entry) (next_of new) (next_of old) block) → AreOfOwnEvents (next_of new) → Become (next_by agenda) blocks (next_of new)
told_blocks program places old new entry blocks place agenda tells next law own = record {
  said = tells.said;
  others = λ block.
      law block
      ∙ ap (λ (names : List Block). changed_at names (next_of new) (next_of old) block) (sym tells.names)
      ∙ changed_old (updated blocks) (next_of new) (next_of old) (next_by agenda) block (sym (next block));
  own = own;
}

-- ---- places

-- an entry changes nothing at this place
abbrev IsElsewhere : Option (List ℕ) → List ℕ → Type 0
IsElsewhere None place = Unit {0}
IsElsewhere (Some touched) place = pointwise nat_eq touched place ≡ false

unsent_by : (place : List ℕ) (instr : Instr) → IsElsewhere (sent_to instr) place → sends_to place instr ≡ false
unsent_by place (Copy i) h = refl
unsent_by place (Usm i asp) h = refl
unsent_by place (Kim i target asp) h = refl
unsent_by place (Sign i) h = refl
unsent_by place (Hash i) h = refl
unsent_by place (Null i) h = refl
unsent_by place (Split i split) h = refl
unsent_by place Swap h = refl
unsent_by place (JoinSeq i) h = refl
unsent_by place (Send i asked) h = h
unsent_by place (Recv j i) h = refl
unsent_by place (Fork i split) h = refl
unsent_by place (JoinPar j i) h = refl
unsent_by place End h = refl

unsent_in : (place : List ℕ) (code : List Instr) → IsElsewhere (sent_in code) place → sends_in place code ≡ false
unsent_in place [] h = refl
unsent_in place (instr ∷ rest) h = unsent_by place instr h

unsent_at : (place : List ℕ) (state : BlockState) → IsElsewhere (sent_at state) place → sends_at place state ≡ false
unsent_at place not_started h = refl
unsent_at place (running for_request local) h = unsent_in place local.rest h
unsent_at place (over result) h = refl

-- where an entry changes nothing, requests wait where they did
waits_still : (tables : Tables) (entry : Entry) (place : List ℕ) → IsElsewhere (touched_place tables entry) place → waits_after tables entry place ≡ any_waits (tables.requests place)
waits_still tables opened place h = refl
waits_still tables (played pass (run name)) place h = ap (λ (b : Bool). b || any_waits (tables.requests place)) (unsent_at place (tables.blocks name) h)
waits_still tables (played pass (ask name)) place h = refl
waits_still tables (played pass (deliver at)) place h =
    ap (λ (b : Bool). any_waits (if b then drop 1 (tables.requests at) else tables.requests place)) h
waits_still tables (answered pass event bytes) place h = refl
waits_still tables (failed pass event fault) place h = refl
waits_still tables (starved pass event) place h = refl

-- places that are apart have one index each
some_is : (a b : List ℕ) → ◌≡◌ {A = Option (List ℕ)} (Some a) (Some b) → a ≡ b
some_is a b e = cc

got_among : (places : List (List ℕ)) (i : ℕ) (place : List ℕ) → slice_get places i ≡ Some place → IsAmong places place
got_among [] i place e = absurd (cc)
got_among (p ∷ ps) zero place e = inl (some_is p place e)
got_among (p ∷ ps) (suc i) place e = inr (got_among ps i place e)

first_again : (p place : List ℕ) (ps : List (List ℕ)) (i : ℕ) → (Contains ps p → ⊥) → p ≡ place → slice_get ps i ≡ Some place → ⊥
first_again p place ps i new is e =
    new (subst (λ (q : List ℕ). Contains ps q) (sym is) (contains_among (List ℕ) ps place (got_among ps i place e)))

one_index : (places : List (List ℕ)) (i j : ℕ) (place : List ℕ) → AreApart (List ℕ) places → slice_get places i ≡ Some place → slice_get places j ≡ Some place → i ≡ j
one_index [] i j place apart e f = absurd (cc)
one_index (p ∷ ps) zero zero place apart e f = refl
one_index (p ∷ ps) zero (suc j) place apart e f = absurd (first_again p place ps j apart.0 (some_is p place e) f)
one_index (p ∷ ps) (suc i) zero place apart e f = absurd (first_again p place ps i apart.0 (some_is p place f) e)
one_index (p ∷ ps) (suc i) (suc j) place apart e f = ap (λ (n : ℕ). suc n) (one_index ps i j place apart.1 e f)

bool_if_so : (b x y : Bool) → b ≡ true → (if b then x else y) ≡ x
bool_if_so b x y e = ap (λ c. if c then x else y) e

bool_if_not : (b x y : Bool) → b ≡ false → (if b then x else y) ≡ y
bool_if_not b x y e = ap (λ c. if c then x else y) e

true_false : (b : Bool) → b ≡ true → b ≡ false → ⊥
true_false b t f = absurd (cc)

module _ (places : List (List ℕ)) (old new : Tables) (entry : Entry) (law : (place : List ℕ) → any_waits (new.requests place) ≡ waits_after old entry place) where
  same_at : (o : Option (List ℕ)) → ((place : List ℕ) → o ≡ Some place → IsElsewhere (touched_place old entry) place) → waits_at old o ≡ waits_at new o
  same_at None elsewhere = refl
  same_at (Some place) elsewhere = sym (waits_still old entry place (elsewhere place refl)) ∙ sym (law place)

  waits_follow : AreApart (List ℕ) places → (touched : Option (List ℕ)) (told : Option PlaceUpdate) → touched_place old entry ≡ touched → TellsPlace places new touched told → (before : ℕ → Bool) → ((i : ℕ) → before i ≡ waits_at old (slice_get places i)) → (i : ℕ) → waits_now told before i ≡ waits_at new (slice_get places i)
  waits_follow apart None None is tells before was i =
      was i ∙ same_at (slice_get places i) (λ place e. subst (λ t. IsElsewhere t place) (sym is) tt)
  waits_follow apart None (Some update) is tells before was i = absurd tells
  waits_follow apart (Some touched) None is tells before was i = absurd tells
  waits_follow apart (Some touched) (Some update) is tells before was i = elim (both (nat_eq update.place i)) [
    | inl alike ↦
        let there : slice_get places i ≡ Some touched = ap (λ (n : ℕ). slice_get places n) (sym (eqb-true update.place i alike)) ∙ tells.0 in
        bool_if_so (nat_eq update.place i) update.waits (before i) alike ∙ tells.1 ∙ sym (ap (waits_at new) there)
    | inr unlike ↦
        bool_if_not (nat_eq update.place i) update.waits (before i) unlike
        ∙ was i
        ∙ same_at (slice_get places i) (λ place e. subst (λ t. IsElsewhere t place) (sym is) (elsewhere place e unlike (both (pointwise nat_eq touched place))))
  ]
    where
      elsewhere : (place : List ℕ) → slice_get places i ≡ Some place → nat_eq update.place i ≡ false → (pointwise nat_eq touched place ≡ true) ⊎ (pointwise nat_eq touched place ≡ false) → pointwise nat_eq touched place ≡ false
      elsewhere place e unlike (inr other) = other
      elsewhere place e unlike (inl same) =
          let named_so : touched ≡ place = (bytes_eq-Decides touched place).0 same in
          let at : slice_get places update.place ≡ Some place = subst (λ (q : List ℕ). slice_get places update.place ≡ Some q) named_so tells.0 in
          absurd (true_false (nat_eq update.place i) (eq-eqb update.place i (one_index places update.place i place apart at e)) unlike)

  pub told_follows : (program : List CodeBlock) (blocks : List Update) (place : Option PlaceUpdate) (before after : Agenda) → AreApart (List ℕ) places → Follows before old places → Tells program places old new entry blocks place → ((block : Block) → next_by after block ≡ next_of new block) → ((i : ℕ) → waits_by after i ≡ waits_now place (waits_by before) i) → Follows after new places
  told_follows program blocks place before after apart follows tells next waits = record {
    next = next;
    waits = λ i. waits i ∙ waits_follow apart (touched_place old entry) place refl tells.where_waits (waits_by before) follows.waits i;
  }

-- ---- the opening

module _ (program : List CodeBlock) (evidence : Evidence) where
  root_alone : (old : Block → Next) → ((block : Block) → old block ≡ None) → (block : Block) → next_of (opening_tables program evidence) block ≡ changed_at (root ∷ []) (next_of (opening_tables program evidence)) old block
  root_alone old none root = refl
  root_alone old none (of n) = sym (none (of n))

  opening_own : AreOfOwnEvents (next_of (opening_tables program evidence))
  opening_own root root step other event e f = refl
  opening_own root (of m) step other event e f = absurd (cc)
  opening_own (of n) other step step_of_other event e f = absurd (cc)

  pub told_opening : (agenda : Agenda) (blocks : List Update) → ((block : Block) → next_by agenda block ≡ None) → updated blocks ≡ root ∷ [] → AllByRecursion (Says (next_of (opening_tables program evidence))) blocks → Become (next_by agenda) blocks (next_of (opening_tables program evidence))
  told_opening agenda blocks none names said = record {
    said = said;
    others = λ block.
        root_alone (next_by agenda) none block
        ∙ ap (λ (ns : List Block). changed_at ns (next_of (opening_tables program evidence)) (next_by agenda) block) (sym names);
    own = opening_own;
  }

  none_waits : (o : Option (List ℕ)) → waits_at (opening_tables program evidence) o ≡ false
  none_waits None = refl
  none_waits (Some place) = refl

  pub opening_follows : (places : List (List ℕ)) (agenda : Agenda) → ((block : Block) → next_by agenda block ≡ next_of (opening_tables program evidence) block) → ((i : ℕ) → waits_by agenda i ≡ false) → Follows agenda (opening_tables program evidence) places
  opening_follows places agenda next none = record {
    next = next;
    waits = λ i. none i ∙ sym (none_waits (slice_get places i));
  }
