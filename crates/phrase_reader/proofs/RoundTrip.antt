-- The canonical text of a phrase is read as the phrase.
use Rattle.std.proofs.Common.{◌≡◌, ◌≤◌, ◌+◌, ◌++◌, ℕ, List, [], ◌∷◌, length, refl, ap, ◌∙◌, sym, subst, append_assoc, arith, inl, inr}
use Rattle.std.proofs.lemmas.List.{append-nil}
use Rattle.phrase_tree.specs.declared.phrase.TheConstants.{EVENTS}
use Rattle.phrase_reader.specs.declared.reader.TheConstants.{TEXT_BYTES}
use Rattle.phrase_tree.specs.Term.{Term}
use Rattle.phrase_tree.specs.Numbering.{IsSized}
use Rattle.phrase_reader.specs.declared.refusal.Kind.{Kind}
use Rattle.phrase_reader.specs.declared.refusal.Kind.TheVariants.{Char, Word, Expected, Trailing, TooManyArgs, NumberTooLarge, TooDeep, TooLong, TooManyEvents}
use Rattle.phrase_reader.specs.declared.token.Token.{Token}
use Rattle.phrase_reader.specs.Tokens.{Found, token_at, refused_at, ends_at, found, tokens_of}
use Rattle.phrase_reader.specs.Grammar.{IsBranch}
use Rattle.phrase_reader.specs.Refusal.{events_in, opened_in, closed_in, IsFifthArgument, BreaksRule, Refuses, IsRefusal, IsRead}
use Rattle.phrase_reader.specs.Canonical.{canonical, IsWritable}
use Rattle.phrase_reader.proofs.Counts.{events_joined, opened_joined, closed_joined}
use Rattle.phrase_reader.proofs.Sized.{branch_counts}
use Rattle.phrase_reader.proofs.Pieces.{Only}
use Rattle.phrase_reader.proofs.CanonicalTokens.{canonical_tokens, phrase_lexes, spelled}
use Rattle.phrase_reader.proofs.Limits.{room_behind, HasRoom, open_behind, Keeps, keeps, room_in, room_joined, no_room, opened_behind}

-- what was read of a phrase's tokens: they keep the limits, and so do those that are left
record Kept (before left : List Token) (phrase : Term) : Type 0 where
  count : ℕ
  room : ℕ
  whole : IsBranch (before ++ left) phrase
  few : events_in (before ++ left) ≤ EVENTS
  keeps_on : Keeps count room left
  counted : opened_in before ≤ count + closed_in before
  spared : room ≡ room_in 0 before

no_fifth : (before rest : List Token) (token : Token) (phrase : Term) → (k : Kept before (token ∷ rest) phrase) → IsFifthArgument before token → ⊥
no_fifth before rest token phrase k fifth =
    let some : 1 ≤ k.room = subst (λ t. HasRoom k.room t) fifth.1 k.keeps_on.0 in
    omega (arith, some, k.spared, ap (room_in 0) fifth.6, no_room 0 fifth.2 fifth.3 fifth.4 fifth.5)

-- no token breaks a rule
unbroken : (before rest : List Token) (token : Token) (phrase : Term) → Kept before (token ∷ rest) phrase → (kind : Kind) → BreaksRule before token kind → ⊥
unbroken before rest token phrase k Trailing b =
    b.1 (rest, phrase, subst (λ l. IsBranch l phrase) (sym (append_assoc before (token ∷ []) rest)) k.whole)
unbroken before rest token phrase k Expected b =
    b.1 (rest, phrase, subst (λ l. IsBranch l phrase) (sym (append_assoc before (token ∷ []) rest)) k.whole)
unbroken before rest token phrase k TooManyArgs b = no_fifth before rest token phrase k b.1
unbroken before rest token phrase k TooDeep b =
    omega (arith, b.2, k.counted, k.keeps_on.1, opened_behind k.count token, opened_joined before (token ∷ []), closed_joined before (token ∷ []))
unbroken before rest token phrase k TooManyEvents b =
    omega (arith, b.2, k.few, events_joined before (token ∷ []), events_joined before (token ∷ rest))
unbroken before rest token phrase k Char b = b
unbroken before rest token phrase k Word b = b
unbroken before rest token phrase k NumberTooLarge b = b
unbroken before rest token phrase k TooLong b = b

kept_next : (before rest : List Token) (token : Token) (phrase : Term) → Kept before (token ∷ rest) phrase → Kept (before ++ token ∷ []) rest phrase
kept_next before rest token phrase k = record {
  count = open_behind k.count token;
  room = room_behind k.room token;
  whole = subst (λ l. IsBranch l phrase) (sym (append_assoc before (token ∷ []) rest)) k.whole;
  few = subst (λ l. events_in l ≤ EVENTS) (sym (append_assoc before (token ∷ []) rest)) k.few;
  keeps_on = k.keeps_on.2;
  counted = omega (arith, k.counted, opened_behind k.count token, opened_joined before (token ∷ []), closed_joined before (token ∷ []));
  spared = ap (λ n. room_behind n token) k.spared ∙ sym (room_joined 0 before (token ∷ []));
}

-- nothing that was found is refused
unrefused : (all : List Found) (before left : List Token) (phrase : Term) (place : ℕ) (kind : Kind) → Only all left → Kept before left phrase → Refuses before all place kind → ⊥
unrefused [] before left phrase place kind only k h = only
unrefused (refused_at offset refusal ∷ rest) before left phrase place kind only k h = only
unrefused (token_at offset token ∷ rest) before [] phrase place kind only k h = only
unrefused (token_at offset token ∷ rest) before (other ∷ more) phrase place kind only k (inl b) =
    unbroken before more other phrase k kind (subst (λ t. BreaksRule before t kind) only.0 b.1)
unrefused (token_at offset token ∷ rest) before (other ∷ more) phrase place kind only k (inr h) =
    unrefused rest (before ++ other ∷ []) more phrase place kind only.1 (kept_next before more other phrase k)
    (subst (λ t. Refuses (before ++ t ∷ []) rest place kind) only.0 h.1)
unrefused (ends_at offset ∷ rest) before (token ∷ more) phrase place kind only k h = only
unrefused (ends_at offset ∷ rest) before [] phrase place kind only k (inl b) =
    b.2 (phrase, subst (λ l. IsBranch l phrase) (append-nil before) k.whole)
unrefused (ends_at offset ∷ rest) before [] phrase place kind only k (inr h) =
    subst (λ l. Refuses before l place kind) only h.1

only_tokens : (all : List Found) (left : List Token) → Only all left → tokens_of all ≡ left
only_tokens [] left only = absurd only
only_tokens (refused_at offset refusal ∷ rest) left only = absurd only
only_tokens (token_at offset token ∷ rest) [] only = absurd only
only_tokens (token_at offset token ∷ rest) (other ∷ more) only =
    ap (λ t. t ∷ tokens_of rest) only.0 ∙ ap (λ l. other ∷ l) (only_tokens rest more only.1)
only_tokens (ends_at offset ∷ rest) (token ∷ more) only = absurd only
only_tokens (ends_at offset ∷ rest) [] only = ap tokens_of only

canonical_found : (phrase : Term) → IsWritable phrase → Only (found 0 0 (canonical phrase)) (canonical_tokens phrase)
canonical_found phrase written =
    subst (λ t. Only (found 0 0 t) (canonical_tokens phrase)) (append-nil (canonical phrase))
    (subst (λ l. Only (found 0 0 (canonical phrase ++ [])) l) (append-nil (canonical_tokens phrase))
    ((phrase_lexes phrase written).finds 0 [] [] tt (λ n. refl)))

kept_whole : (phrase : Term) → IsSized phrase → IsWritable phrase → Kept [] (canonical_tokens phrase) phrase
kept_whole phrase sized written = record {
  count = 0;
  room = 0;
  whole = (spelled phrase).branch;
  few = omega (arith, (branch_counts (spelled phrase).branch).counted, sized.events);
  keeps_on = keeps phrase written sized.nesting;
  counted = omega arith;
  spared = refl;
}

canonical_accepted : (phrase : Term) (place : ℕ) (kind : Kind) → IsSized phrase → IsWritable phrase → length (canonical phrase) ≤ TEXT_BYTES → IsRefusal (canonical phrase) place kind → ⊥
canonical_accepted phrase place kind sized written short (inl long) = omega (arith, short, long.0)
canonical_accepted phrase place kind sized written short (inr h) =
    unrefused (found 0 0 (canonical phrase)) [] (canonical_tokens phrase) phrase place kind (canonical_found phrase written) (kept_whole phrase sized written) h.1

pub round_trip : (phrase : Term) → IsSized phrase → IsWritable phrase → length (canonical phrase) ≤ TEXT_BYTES → IsRead (canonical phrase) phrase
round_trip phrase sized written short = record {
  accepted = λ place kind. canonical_accepted phrase place kind sized written short;
  spelled =
      subst (λ l. IsBranch l phrase)
      (sym (only_tokens (found 0 0 (canonical phrase)) (canonical_tokens phrase) (canonical_found phrase written)))
      (spelled phrase).branch;
}
