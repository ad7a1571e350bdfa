-- What a session knows of its machines still holds after each change of them.
use Rattle.std.proofs.Common.{◌≡◌, ℕ, ◌<◌, Bool, true, false, List, [], ◌∷◌, ◌++◌, Option, None, Some, length, drop, nat_eq, if◌then◌else◌, refl, sym, ap, ◌∙◌, subst, arith, inl, inr}
use Rattle.std.specs.Vec.{with_item}
use Rattle.std.proofs.lemmas.Bool.{cases_Bool, eqb-true}
use Rattle.evidence_store.specs.Kept.{Kept, Grows}
use Rattle.rising_list.specs.Rising.{find, inserted, removed}
use Rattle.rising_list.proofs.RisingLemmas.{RisesFrom-inserted, RisesFrom-removed, find-inserted, find-removed}
use Rattle.place_mail.specs.declared.request.Request.{Request}
use Rattle.place_mail.specs.Mail.{Mail, waiting_at, after_post, after_take, after_answer, after_reply}
use Rattle.avm_code.specs.declared.instr.BlockName.{BlockName}
use Rattle.avm_code.specs.declared.instr.BlockName.TheVariants.{Root, Of}
use Rattle.avm_code.specs.Order.{HasBlock}
use Rattle.avm_core.specs.Machine.{Stands}
use Rattle.branch_join.specs.declared.state.BlockState.{BlockState}
use Rattle.branch_join.specs.declared.state.BlockState.TheVariants.{NotStarted, Running, Ended}
use Rattle.branch_join.specs.Blocks.{Blocks, state_of, IsInTable, with_state, is_same}
use Rattle.branch_join.proofs.BlockLemmas.{state_of-with, in_table-with}
use Rattle.machine_world.specs.declared.runner.Runner.{Runner}
use Rattle.machine_world.specs.declared.world.World.{World}
use Rattle.machine_world.specs.Seen.{IsBlock}
use Rattle.machine_world.specs.World.{IsWorld, ResultBelow, Unless, IfStarted}
use Rattle.machine_world.proofs.NamedLemmas.{if_true, if_false}
use Rattle.machine_world.proofs.BlockFrames.{same_block}
use Rattle.machine_world.proofs.Runners.{together-set, together-more}
use Rattle.machine_world.proofs.KeptLemmas.{lists-more, replies-more, result-more, lists-posted, all-posted, lists-taken, all-taken, set-length, replies-came, replies-went}

-- what holds of a new state and of what was there holds of what is there now
changed : (P : BlockState → Type 0) (b : Bool) (new was now : BlockState) → now ≡ (if b then new else was) → (b ≡ true → P new) → P was → P now
changed P b new was now e f h = elim (cases_Bool b) [
  | inl hit ↦ subst P (sym (e ∙ if_true b new was hit)) (f hit)
  | inr miss ↦ subst P (sym (e ∙ if_false b new was miss)) h
]

pub unless-more : (state : BlockState) (P Q : Type 0) → (P → Q) → Unless state P → Unless state Q
unless-more NotStarted P Q f h = f h
unless-more Running P Q f h = f h
unless-more (Ended id) P Q f h = tt

pub unless-not_started : (state : BlockState) (P : Type 0) → state ≡ NotStarted → Unless state P → P
unless-not_started NotStarted P e h = h
unless-not_started Running P e h = h
unless-not_started (Ended id) P e h = cc

pub unless-running : (state : BlockState) (P : Type 0) → state ≡ Running → Unless state P → P
unless-running NotStarted P e h = h
unless-running Running P e h = h
unless-running (Ended id) P e h = cc

pub if-started : (state : BlockState) (P : Type 0) → P → IfStarted state P
if-started NotStarted P h = tt
if-started Running P h = h
if-started (Ended id) P h = h

pub if-running : (state : BlockState) (P : Type 0) → state ≡ Running → IfStarted state P → P
if-running NotStarted P e h = cc
if-running Running P e h = h
if-running (Ended id) P e h = h

same_number : (name : BlockName) (number : ℕ) → is_same name (Of number) ≡ true → name ≡ Of number
same_number Root number e = cc
same_number (Of other) number e = ap Of (eqb-true other number e)

module _ (keys : List (List ℕ × List ℕ)) (world : World) where
  -- a block stands otherwise
  pub world-table : (name : BlockName) (state : BlockState) (table : Blocks) → HasBlock world.program name → IsInTable world.table name → table ≡ with_state name state world.table
      → ((number : ℕ) → name ≡ Of number → Unless state (find number world.mail.answers ≡ None)) → ResultBelow (length world.store.values) state → IsWorld keys world → IsWorld keys (record world { table = table })
  world-table name state table has there e free below w = subst (λ (t : Blocks). IsWorld keys (record world { table = t })) (sym e) (record {
    can_play = w.can_play;
    some = w.some;
    runners = w.runners;
    there = λ other has. in_table-with world.table name other state there (w.there other has);
    known = λ other. changed (λ (s : BlockState). IfStarted s (HasBlock world.program other)) (is_same name other) state (state_of world.table other) (state_of (with_state name state world.table) other)
        (state_of-with world.table name other state there) (λ hit. if-started state (HasBlock world.program other) (subst (HasBlock world.program) (same_block name other hit) has)) (w.known other);
    waiters = w.waiters;
    unanswered = λ number. changed (λ (s : BlockState). Unless s (find number world.mail.answers ≡ None)) (is_same name (Of number)) state (state_of world.table (Of number)) (state_of (with_state name state world.table) (Of number))
        (state_of-with world.table name (Of number) state there) (λ hit. free number (same_number name number hit)) (w.unanswered number);
    lists = w.lists;
    asked = w.asked;
    rises = w.rises;
    results = λ other. changed (ResultBelow (length world.store.values)) (is_same name other) state (state_of world.table other) (state_of (with_state name state world.table) other)
        (state_of-with world.table name other state there) (λ hit. below) (w.results other);
    requests = w.requests;
    replies = w.replies;
  })

  -- the machine of a block holds something else
  pub world-held : (name : BlockName) (index : ℕ) (now : Runner) → IsBlock world.program name index → now.machine.name ≡ name → Stands world.program keys (length world.store.values) now.machine → IsWorld keys world → IsWorld keys (record world { runners = with_item world.runners index now })
  world-held name index now at named stands w = record {
    can_play = w.can_play;
    some = w.some;
    runners = together-set (Stands world.program keys (length world.store.values)) world.program world.runners.items name index now w.runners at named stands;
    there = w.there;
    known = w.known;
    waiters = w.waiters;
    unanswered = w.unanswered;
    lists = w.lists;
    asked = w.asked;
    rises = w.rises;
    results = w.results;
    requests = w.requests;
    replies = w.replies;
  }

  -- the store has grown
  pub world-grown : (store : Kept) → Grows world.store.values store.values → IsWorld keys world → IsWorld keys (record world { store = store })
  world-grown store g w = record {
    can_play = w.can_play;
    some = let s : 0 < length world.store.values = w.some in omega (arith, g.longer);
    runners = together-more world.program keys (length world.store.values) (length store.values) world.runners.items g.longer w.runners;
    there = w.there;
    known = w.known;
    waiters = w.waiters;
    unanswered = w.unanswered;
    lists = w.lists;
    asked = w.asked;
    rises = w.rises;
    results = λ other. result-more (length world.store.values) (length store.values) (state_of world.table other) g.longer (w.results other);
    requests = lists-more (length world.store.values) (length store.values) world.mail.requests g.longer w.requests;
    replies = replies-more (length world.store.values) (length store.values) world.mail.answers g.longer w.replies;
  }

  -- a request comes, and goes
  pub world-posted : (mail : Mail) (index : ℕ) (request : Request) → mail ≡ after_post index request world.mail → HasBlock world.program (Of request.name) → request.evidence < length world.store.values → IsWorld keys world → IsWorld keys (record world { mail = mail })
  world-posted mail index request e there known w = subst (λ (m : Mail). IsWorld keys (record world { mail = m })) (sym e) (record {
    can_play = w.can_play;
    some = w.some;
    runners = w.runners;
    there = w.there;
    known = w.known;
    waiters = w.waiters;
    unanswered = w.unanswered;
    lists = set-length world.mail.requests index (waiting_at index world.mail.requests ++ request ∷ []) ∙ w.lists;
    asked = all-posted world.program world.mail.requests index request w.asked there;
    rises = w.rises;
    results = w.results;
    requests = lists-posted (length world.store.values) world.mail.requests index request w.requests known;
    replies = w.replies;
  })

  pub world-taken : (mail : Mail) (index : ℕ) → mail ≡ after_take index world.mail → IsWorld keys world → IsWorld keys (record world { mail = mail })
  world-taken mail index e w = subst (λ (m : Mail). IsWorld keys (record world { mail = m })) (sym e) (record {
    can_play = w.can_play;
    some = w.some;
    runners = w.runners;
    there = w.there;
    known = w.known;
    waiters = w.waiters;
    unanswered = w.unanswered;
    lists = set-length world.mail.requests index (drop 1 (waiting_at index world.mail.requests)) ∙ w.lists;
    asked = all-taken world.program world.mail.requests index w.asked;
    rises = w.rises;
    results = w.results;
    requests = lists-taken (length world.store.values) world.mail.requests index w.requests;
    replies = w.replies;
  })

  -- a reply comes, and goes
  pub world-answered : (mail : Mail) (number id : ℕ) → mail ≡ after_answer number id world.mail → find number world.mail.answers ≡ None → state_of world.table (Of number) ≡ Ended id → id < length world.store.values → IsWorld keys world → IsWorld keys (record world { mail = mail })
  world-answered mail number id e free ended known w = subst (λ (m : Mail). IsWorld keys (record world { mail = m })) (sym e) (record {
    can_play = w.can_play;
    some = w.some;
    runners = w.runners;
    there = w.there;
    known = w.known;
    waiters = w.waiters;
    unanswered = λ other. still other;
    lists = w.lists;
    asked = w.asked;
    rises = RisesFrom-inserted 0 number id world.mail.answers w.rises (omega arith) free;
    results = w.results;
    requests = w.requests;
    replies = replies-came (length world.store.values) number id world.mail.answers known w.replies;
  })
    where
      still : (other : ℕ) → Unless (state_of world.table (Of other)) (find other (inserted number id world.mail.answers) ≡ None)
      still other = elim (cases_Bool (nat_eq number other)) [
        | inl hit ↦ subst (λ (s : BlockState). Unless s (find other (inserted number id world.mail.answers) ≡ None)) (sym (ap (λ (n : ℕ). state_of world.table (Of n)) (sym (eqb-true number other hit)) ∙ ended)) tt
        | inr miss ↦ unless-more (state_of world.table (Of other)) (find other world.mail.answers ≡ None) (find other (inserted number id world.mail.answers) ≡ None)
            (λ none. find-inserted number other id world.mail.answers free ∙ if_false (nat_eq number other) (Some id) (find other world.mail.answers) miss ∙ none) (w.unanswered other)
      ]

  pub world-replied : (mail : Mail) (number : ℕ) → mail ≡ after_reply number world.mail → IsWorld keys world → IsWorld keys (record world { mail = mail })
  world-replied mail number e w = subst (λ (m : Mail). IsWorld keys (record world { mail = m })) (sym e) (record {
    can_play = w.can_play;
    some = w.some;
    runners = w.runners;
    there = w.there;
    known = w.known;
    waiters = w.waiters;
    unanswered = λ other. unless-more (state_of world.table (Of other)) (find other world.mail.answers ≡ None) (find other (removed number world.mail.answers) ≡ None)
        (λ none. find-removed 0 number other world.mail.answers w.rises ∙ one_or_none (nat_eq number other) (find other world.mail.answers) none) (w.unanswered other);
    lists = w.lists;
    asked = w.asked;
    rises = RisesFrom-removed 0 number world.mail.answers w.rises;
    results = w.results;
    requests = w.requests;
    replies = replies-went (length world.store.values) number world.mail.answers w.replies;
  })
    where
      one_or_none : (b : Bool) (found : Option ℕ) → found ≡ None → (if b then None else found) ≡ None
      one_or_none true found none = refl
      one_or_none false found none = none
