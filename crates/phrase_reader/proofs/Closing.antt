-- Any state can be closed: what was read is a front of a list that spells a phrase.
use Rattle.std.proofs.Common.{◌≡◌, ◌++◌, ℕ, List, [], ◌∷◌, Some, None, refl, ap, ◌∙◌, sym, subst, append_assoc}
use Rattle.std.proofs.lemmas.List.{append-nil}
use Rattle.phrase_tree.specs.Term.{Term, cpy, usm, kim, leaf, at}
use Rattle.phrase_reader.specs.declared.token.Leaf.TheVariants.{Cpy}
use Rattle.phrase_reader.specs.declared.token.Token.{Token}
use Rattle.phrase_reader.specs.declared.token.Token.TheVariants as tokens
use Rattle.phrase_reader.specs.Grammar.{measurement, name_token, IsBranch, IsUnit, IsViable, alone, single, leaves, measures, asks}
use Rattle.phrase_reader.specs.Machine.{Parts, Frame, Stage, State, unit_next, place_next, square_next, target_next, service_next, measured, ended, whole_with, bracketed}
use Rattle.phrase_reader.proofs.Meaning.{PartsTokens, StackTokens, StageTokens, StateMeans, bracket_tokens, closing, closed_read, branch_read}

-- more tokens end the last unit
record Ended (last : List Token) : Type 0 where
  more : List Token
  unit : Term
  ends : IsUnit (last ++ more) unit

copied : IsBranch (tokens.Leaf Cpy ∷ []) (leaf cpy)
copied = alone (single (leaves Cpy refl refl))

a_name : List ℕ
a_name = 97 ∷ []

end_unit : (stage : Stage) (last : List Token) → StageTokens stage last → Ended last
end_unit unit_next last h = record {
  more = tokens.Leaf Cpy ∷ [];
  unit = leaf cpy;
  ends = leaves Cpy (ap (λ l. l ++ tokens.Leaf Cpy ∷ []) h) refl;
}
end_unit place_next last h = record {
  more = name_token a_name ∷ tokens.OpenSquare ∷ tokens.Leaf Cpy ∷ tokens.CloseSquare ∷ [];
  unit = at a_name (leaf cpy);
  ends = asks a_name (tokens.Leaf Cpy ∷ []) (leaf cpy) copied (ap (λ l. l ++ name_token a_name ∷ tokens.OpenSquare ∷ tokens.Leaf Cpy ∷ tokens.CloseSquare ∷ []) h) refl;
}
end_unit (square_next place) last h = record {
  more = tokens.OpenSquare ∷ tokens.Leaf Cpy ∷ tokens.CloseSquare ∷ [];
  unit = at place (leaf cpy);
  ends = asks place (tokens.Leaf Cpy ∷ []) (leaf cpy) copied (ap (λ l. l ++ tokens.OpenSquare ∷ tokens.Leaf Cpy ∷ tokens.CloseSquare ∷ []) h) refl;
}
end_unit target_next last h = record {
  more = name_token a_name ∷ name_token a_name ∷ [];
  unit = leaf (kim a_name (record { name = a_name; args = [] }));
  ends = measures (Some a_name) (record { name = a_name; args = [] }) (ap (λ l. l ++ name_token a_name ∷ name_token a_name ∷ []) h) refl;
}
end_unit (service_next None) last h = record {
  more = name_token a_name ∷ [];
  unit = leaf (usm (record { name = a_name; args = [] }));
  ends = measures None (record { name = a_name; args = [] }) (ap (λ l. l ++ name_token a_name ∷ []) h) refl;
}
end_unit (service_next (Some target)) last h = record {
  more = name_token a_name ∷ [];
  unit = leaf (kim target (record { name = a_name; args = [] }));
  ends = measures (Some target) (record { name = a_name; args = [] }) (ap (λ l. l ++ name_token a_name ∷ []) h) refl;
}
end_unit (measured target asp) last h = record {
  more = [];
  unit = measurement target asp;
  ends = measures target asp (append-nil last ∙ h) refl;
}
end_unit (ended unit) last h = record {
  more = [];
  unit = unit;
  ends = subst (λ l. IsUnit l unit) (sym (append-nil last)) h;
}

close_regrouped : (b q opening parts last more : List Token) (token : Token) → ((b ++ q) ++ (opening ++ ((parts ++ last) ++ token ∷ []))) ++ more ≡ (((((b ++ q) ++ opening) ++ parts) ++ last) ++ token ∷ more)
close_regrouped b q opening parts last more token = simp append_assoc

close_all : (stack : List Frame) (inner : Parts) (before parts last : List Token) (unit : Term) → StackTokens stack before → PartsTokens inner parts → IsUnit last unit → IsViable ((before ++ parts) ++ last)
close_all [] inner before parts last unit s p u = (
  [],
  whole_with inner unit,
  let spells : ((before ++ parts) ++ last) ++ [] ≡ parts ++ last = append-nil ((before ++ parts) ++ last) ∙ ap (λ b. (b ++ parts) ++ last) s in
      subst (λ l. IsBranch l (whole_with inner unit)) (sym spells) (branch_read inner parts last unit p u),
)
close_all (frame ∷ rest) inner before parts last unit s p u =
    let w = whole_with inner unit in
    let within = closed_read frame.bracket (parts ++ last) w (branch_read inner parts last unit p u) in
    let outside = close_all rest frame.outer s.0 s.1 (bracket_tokens frame.bracket ++ ((parts ++ last) ++ closing frame.bracket ∷ [])) (bracketed frame.bracket w) s.2 s.3 within in (
      closing frame.bracket ∷ outside.0,
      outside.1,
      let spells : ((before ++ parts) ++ last) ++ closing frame.bracket ∷ outside.0 ≡ ((s.0 ++ s.1) ++ (bracket_tokens frame.bracket ++ ((parts ++ last) ++ closing frame.bracket ∷ []))) ++ outside.0 =
          ap (λ b. ((b ++ parts) ++ last) ++ closing frame.bracket ∷ outside.0) s.4
          ∙ sym (close_regrouped s.0 s.1 (bracket_tokens frame.bracket) parts last outside.0 (closing frame.bracket)) in
          subst (λ l. IsBranch l outside.1) (sym spells) outside.2,
    )

more_regrouped : (front last more rest : List Token) → (front ++ last) ++ (more ++ rest) ≡ (front ++ (last ++ more)) ++ rest
more_regrouped front last more rest = simp append_assoc

-- what a state means is a front of some phrase
pub state_viable : (state : State) (spelled : List Token) → StateMeans state spelled → IsViable spelled
state_viable state spelled m =
    let e = end_unit state.stage m.last m.stage_read in
    let v = close_all state.stack state.inner m.before m.parts (m.last ++ e.more) e.unit m.stack_read m.parts_read e.ends in
    let spells : spelled ++ (e.more ++ v.0) ≡ ((m.before ++ m.parts) ++ (m.last ++ e.more)) ++ v.0 =
    ap (λ s. s ++ (e.more ++ v.0)) m.all ∙ more_regrouped (m.before ++ m.parts) m.last e.more v.0 in
    (e.more ++ v.0, v.1, subst (λ l. IsBranch l v.1) (sym spells) v.2)
