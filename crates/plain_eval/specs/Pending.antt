-- What an evaluation of the code has still to do, and where it leads.
use Rattle.std.specs.Prelude.{◌≡◌, ℕ, List, ◌++◌, map, reverse}
use Rattle.phrase_tree.specs.Term.{term}
use Rattle.evidence_types.specs.Bytes.{encoding}
use Rattle.evidence_types.specs.Evidence.{Evidence}
use Rattle.plain_eval.specs.Codes.{AreKeyed}
use Rattle.plain_eval.specs.Given.{makings_of, value_given}
use Rattle.plain_eval.specs.Steps.{Make, Todo, join, joined, reply, run, run_left}
use Rattle.plain_eval.specs.declared.given.Given.{Given}
use Rattle.plain_eval.specs.declared.pending.Step.{Step}
use Rattle.plain_eval.specs.declared.pending.Step.TheVariants.{Run, Reply, Left, Join}
use Rattle.plain_eval.specs.declared.pending.Work.{Work}

abbrev pub todo : Step → Todo
todo (Run phrase place mark) = run (term phrase.now) place mark
todo Reply = reply
todo (Left parallel phrase place first mark) = run_left parallel (term phrase.now) place first mark
todo (Join parallel after) = join parallel after

-- the steps, the next one first
abbrev pub todos : List Step → List Todo
todos steps = map todo (reverse steps)

-- these steps lead from where an evaluation stands to the value of its session
pub record Lead (given : Given) (steps : List Todo) (work : Work) : Type 0 where
  pub current : Evidence
  pub under : List Evidence
  pub kept : List Evidence
  pub made_is : work.made ≡ encoding current ++ joined under
  pub kept_is : work.kept ≡ joined kept
  pub keyed : AreKeyed given.keys.now work.codes.items
  pub make : Make (makings_of given) (value_given given) steps work.next current under kept

-- the steps that are to come do
abbrev pub Leads : Given → Work → Type 0
Leads given work = Lead given (todos work.steps.items) work

-- these steps are to come now, with this number of the next event and these bytes
pub record Moves (new : Work) (steps : List Todo) (next : ℕ) (made kept : List ℕ) : Type 0 where
  pub steps_are : todos new.steps.items ≡ steps
  pub next_is : new.next ≡ next
  pub made_is : new.made ≡ made
  pub kept_is : new.kept ≡ kept
