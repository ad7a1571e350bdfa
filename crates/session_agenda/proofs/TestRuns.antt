-- What the tests know of the agendas that they tell.
use Rattle.std.proofs.Common.{◌≡◌, ℕ, zero, suc, [], ◌∷◌, refl, sym, ◌∙◌, ap, subst, arith}
use Rattle.std.specs.Prelude.{Option, None, Some, nat_eq, if◌then◌else◌}
use Rattle.avm_code.specs.declared.instr.BlockName.TheVariants.{Root, Of}
use Rattle.machine_tables.specs.Tables.{Next}
use Rattle.session_runs.specs.Moves.{Step, ask}
use Rattle.session_runs.specs.Standing.{Block, root, of}
use Rattle.session_tables.specs.Touched.{changed_at}
use Rattle.session_agenda.specs.declared.moves.Task.{Task}
use Rattle.session_agenda.specs.declared.moves.Task.TheVariants.{Asks}
use Rattle.session_agenda.specs.declared.moves.Update.{Update}
use Rattle.session_agenda.specs.Kept.{next_of_task}
use Rattle.session_agenda.specs.Updated.{AreOfOwnEvents, Become}
use Rattle.session_agenda.proofs.Indexed.{if_other}

-- the root can do this, and no other block anything
abbrev pub root_can : Next → Block → Next
root_can next root = next
root_can next (of n) = None

-- the root and the block 0 can ask, for the events 1 and 2
abbrev pub both_ask : Block → Next
both_ask root = Some (ask, Some 1)
both_ask (of zero) = Some (ask, Some 2)
both_ask (of (suc n)) = None

root_own : (next : Next) → AreOfOwnEvents (root_can next)
root_own next root root step other event e f = refl
root_own next root (of m) step other event e f = absurd (cc)
root_own next (of n) other step step_of_other event e f = absurd (cc)

abbrev event_of : Next → ℕ
event_of None = 0
event_of (Some next) = or_none next.1
  where
    or_none : Option ℕ → ℕ
    or_none None = 0
    or_none (Some event) = event

second_only : (n event : ℕ) (step : Step) → both_ask (of n) ≡ Some (step, Some event) → (0 ≡ n) × (2 ≡ event)
second_only zero event step e = (refl, ap event_of e)
second_only (suc n) event step e = absurd (cc)

-- a block of another number than 0
another : (n : ℕ) (x y : Next) → (if nat_eq 0 (suc n) then x else y) ≡ y
another n x y = if_other Next 0 (suc n) x y (λ e. omega (arith, e))

both_own : AreOfOwnEvents both_ask
both_own root root step other event e f = refl
both_own root (of m) step other event e f =
    absurd (omega (arith, ap event_of e, (second_only m event other f).1))
both_own (of n) root step other event e f =
    absurd (omega (arith, ap event_of f, (second_only n event step e).1))
both_own (of n) (of m) step other event e f = ap of (sym (second_only n event step e).0 ∙ (second_only m event other f).0)

pub told_root : (old : Block → Next) (update : Update) (task : Task) → update ≡ record { name = Root; task = Some task } → ((block : Block) → old block ≡ None) → Become old (update ∷ []) (root_can (next_of_task (Some task)))
told_root old update task is none =
    subst (λ (u : Update). Become old (u ∷ []) (root_can (next_of_task (Some task)))) (sym is)
    (record { said = (refl, tt); others = others; own = root_own (next_of_task (Some task)) })
  where
    others : (block : Block) → root_can (next_of_task (Some task)) block ≡ changed_at (root ∷ []) (root_can (next_of_task (Some task))) old block
    others root = refl
    others (of n) = sym (none (of n))

pub told_both : (old : Block → Next) (next : Next) (first second : Update) → first ≡ record { name = Root; task = Some (Asks 1) } → second ≡ record { name = Of 0; task = Some (Asks 2) } → ((block : Block) → old block ≡ root_can next block) → Become old (first ∷ second ∷ []) both_ask
told_both old next first second is also was =
    subst (λ (u : Update). Become old (first ∷ u ∷ []) both_ask) (sym also)
    (subst (λ (u : Update). Become old (u ∷ record { name = Of 0; task = Some (Asks 2) } ∷ []) both_ask) (sym is)
    (record { said = (refl, (refl, tt)); others = others; own = both_own }))
  where
    others : (block : Block) → both_ask block ≡ changed_at (root ∷ of 0 ∷ []) both_ask old block
    others root = refl
    others (of zero) = refl
    others (of (suc n)) = sym (another n (both_ask (of (suc n))) (old (of (suc n))) ∙ was (of (suc n)))

pub told_less : (old : Block → Next) (update : Update) → update ≡ record { name = Of 0; task = None } → ((block : Block) → old block ≡ both_ask block) → Become old (update ∷ []) (root_can (Some (ask, Some 1)))
told_less old update is was =
    subst (λ (u : Update). Become old (u ∷ []) (root_can (Some (ask, Some 1)))) (sym is)
    (record { said = (refl, tt); others = others; own = root_own (Some (ask, Some 1)) })
  where
    others : (block : Block) → root_can (Some (ask, Some 1)) block ≡ changed_at (of 0 ∷ []) (root_can (Some (ask, Some 1))) old block
    others root = sym (was root)
    others (of zero) = refl
    others (of (suc n)) = sym (another n None (old (of (suc n))) ∙ was (of (suc n)))
