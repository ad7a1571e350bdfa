-- A leaf behind a phrase adds at most a bracket.
use Rattle.std.proofs.Common.{◌≡◌, ◌+◌, ◌≤◌, Bool, true, false, Result, Ok, Err, IfOk, arith}
use Rattle.std.specs.Prelude.{if◌then◌else◌}
use Rattle.phrase_tree.specs.declared.phrase.Split.{Split}
use Rattle.phrase_tree.specs.declared.phrase.Phrase.{Phrase}
use Rattle.phrase_tree.specs.Term.{Term, term, leaf, at, chain, seq, par, is_branch, is_leaf}
use Rattle.phrase_tree.specs.Numbering.{depth}

at_most_one : (b : Bool) → (if b then 1 else 0) ≤ 1
at_most_one true = omega arith
at_most_one false = omega arith

pub chain_left : (phrase last : Term) → is_leaf last ≡ true → depth (chain phrase last) ≤ depth phrase + 2
chain_left phrase (leaf form) l = let b = at_most_one (is_branch phrase) in omega (arith, b)
chain_left phrase (at asked body) l = absurd cc
chain_left phrase (chain left right) l = absurd cc
chain_left phrase (seq split left right) l = absurd cc
chain_left phrase (par split left right) l = absurd cc

pub seq_left : (split : Split) (phrase last : Term) → is_leaf last ≡ true → depth (seq split phrase last) ≤ depth phrase + 2
seq_left split phrase (leaf form) l = let b = at_most_one (is_branch phrase) in omega (arith, b)
seq_left split phrase (at asked body) l = absurd cc
seq_left split phrase (chain left right) l = absurd cc
seq_left split phrase (seq other left right) l = absurd cc
seq_left split phrase (par other left right) l = absurd cc

pub par_left : (split : Split) (phrase last : Term) → is_leaf last ≡ true → depth (par split phrase last) ≤ depth phrase + 2
par_left split phrase (leaf form) l = let b = at_most_one (is_branch phrase) in omega (arith, b)
par_left split phrase (at asked body) l = absurd cc
par_left split phrase (chain left right) l = absurd cc
par_left split phrase (seq other left right) l = absurd cc
par_left split phrase (par other left right) l = absurd cc

-- a made phrase of this form
pub made_chain : {E : Type 0} (made : Result Phrase E) (phrase last : Term) → is_leaf last ≡ true → IfOk made (λ grown. term grown ≡ chain phrase last) → IfOk made (λ grown. depth (term grown) ≤ depth phrase + 2)
made_chain (Ok grown) phrase last l same = rw same (chain_left phrase last l)
made_chain (Err e) phrase last l same = same

pub made_seq : {E : Type 0} (made : Result Phrase E) (split : Split) (phrase last : Term) → is_leaf last ≡ true → IfOk made (λ grown. term grown ≡ seq split phrase last) → IfOk made (λ grown. depth (term grown) ≤ depth phrase + 2)
made_seq (Ok grown) split phrase last l same = rw same (seq_left split phrase last l)
made_seq (Err e) split phrase last l same = same

pub made_par : {E : Type 0} (made : Result Phrase E) (split : Split) (phrase last : Term) → is_leaf last ≡ true → IfOk made (λ grown. term grown ≡ par split phrase last) → IfOk made (λ grown. depth (term grown) ≤ depth phrase + 2)
made_par (Ok grown) split phrase last l same = rw same (par_left split phrase last l)
made_par (Err e) split phrase last l same = same
