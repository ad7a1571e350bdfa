-- What holds of the messages of a history, and that a session over links is never stuck.
use Rattle.std.proofs.Common.{◌≡◌, ℕ, ◌+◌, ◌≤◌, ◌⊎◌, inl, inr, List, [], ◌∷◌, ◌++◌, length, refl, sym, ◌∙◌, ap, subst, arith, append_assoc}
use Rattle.std.specs.Prelude.{Bool, true, false, Option, None, Some, is_some, IsSome, nat_eq, if◌then◌else◌, Contains, filter, cond}
use Rattle.std.proofs.lemmas.Bool.{cases_eq, eq-eqb, ne_eqb}
use Rattle.evidence_types.specs.Evidence.{Evidence}
use Rattle.session_model.specs.Session.{Session}
use Rattle.session_runs.specs.Standing.{Move, Entry, played, Standing, next}
use Rattle.session_runs.specs.History.{standing_after}
use Rattle.session_runs.specs.MoveOrder.{possible_moves}
use Rattle.session_runs.specs.Progress.{CanMake, IsNotStuck}
use Rattle.session_runs.specs.Touches.{Touch, touches_nothing, sends_request, sends_reply, needs_request, needs_reply, touch_of, sent_by, IsTouched}
use Rattle.session_runs.proofs.HistoryLaws.{after_more}
use Rattle.wire_manager.specs.Requests.{touch_at, touches_in, is_about, about, way_of, Begins}
use Rattle.wire_manager.specs.Messages.{Message, is_of, found, has_come, has_arrived, is_there, with_arrived, message_with, message_by, with_message}
use Rattle.wire_manager.specs.Linked.{Has, delivery_count, sending, needing, AreLinked, wire_moves, CanMakeNow, IsUnderWay}
use Rattle.wire_manager.proofs.RequestLemmas.{about_more, touches_more, way_begins}
use Rattle.wire_manager.proofs.MessageLemmas.{found_more, found_other, found_new, arrived_more, some_arrived, still_arrived}

-- ---- what stands in a list

has_left : (xs ys : List Touch) (t : Touch) → Has xs t → Has (xs ++ ys) t
has_left [] ys t h = absurd h
has_left (x ∷ xs) ys t (inl e) = inl e
has_left (x ∷ xs) ys t (inr h) = inr (has_left xs ys t h)

has_last : (xs : List Touch) (t : Touch) → Has (xs ++ t ∷ []) t
has_last [] t = inl refl
has_last (x ∷ xs) t = inr (has_last xs t)

has_cases : (xs : List Touch) (u t : Touch) → Has (xs ++ u ∷ []) t → Has xs t ⊎ (u ≡ t)
has_cases [] u t (inl e) = inr e
has_cases [] u t (inr h) = absurd h
has_cases (x ∷ xs) u t (inl e) = inl (inl e)
has_cases (x ∷ xs) u t (inr h) = behind (has_cases xs u t h)
  where
    behind : Has xs t ⊎ (u ≡ t) → Has (x ∷ xs) t ⊎ (u ≡ t)
    behind (inl h) = inl (inr h)
    behind (inr e) = inr e

has_about : (n : ℕ) (xs : List Touch) (t : Touch) → is_about n t ≡ true → Has xs t → Has (about n xs) t
has_about n [] t a h = h
has_about n (x ∷ xs) t a (inl e) = subst (λ b. Has (if b then x ∷ about n xs else about n xs) t) (sym (ap (λ u. is_about n u) e ∙ a)) (inl e)
has_about n (x ∷ xs) t a (inr h) = one_more (is_about n x) (has_about n xs t a h)
  where
    one_more : (b : Bool) → Has (about n xs) t → Has (if b then x ∷ about n xs else about n xs) t
    one_more true h = inr h
    one_more false h = h

about_has : (n : ℕ) (xs : List Touch) (t : Touch) → Has (about n xs) t → Has xs t
about_has n [] t h = h
about_has n (x ∷ xs) t h = one_less (is_about n x) h (λ g. about_has n xs t g)
  where
    one_less : (b : Bool) → Has (if b then x ∷ about n xs else about n xs) t → (Has (about n xs) t → Has xs t) → (x ≡ t) ⊎ Has xs t
    one_less true (inl e) f = inl e
    one_less true (inr g) f = inr (f g)
    one_less false g f = inr (f g)

-- ---- the way of a request

-- what is ahead on the way
abbrev pub ahead_of : ℕ → Touch → List Touch
ahead_of n touches_nothing = []
ahead_of n (sends_request m) = []
ahead_of n (needs_request m) = sends_request n ∷ []
ahead_of n (sends_reply m) = sends_request n ∷ needs_request n ∷ []
ahead_of n (needs_reply m) = sends_request n ∷ needs_request n ∷ sends_reply n ∷ []

head_is : (x y : Touch) (xs ys : List Touch) → x ∷ xs ≡ y ∷ ys → x ≡ y
head_is x y xs ys e = cc

tail_is : (x y : Touch) (xs ys : List Touch) → x ∷ xs ≡ y ∷ ys → xs ≡ ys
tail_is x y xs ys e = cc

ahead_is : (n : ℕ) (xs rest : List Touch) (t : Touch) → way_of n ≡ xs ++ t ∷ rest → xs ≡ ahead_of n t
ahead_is n [] rest t e = ap (λ u. ahead_of n u) (head_is (sends_request n) t _ rest e)
ahead_is n (a ∷ []) rest t e =
    let f = tail_is (sends_request n) a _ (t ∷ rest) e in
    ap (λ u. u ∷ []) (sym (head_is (sends_request n) a _ (t ∷ rest) e)) ∙ ap (λ u. ahead_of n u) (head_is (needs_request n) t _ rest f)
ahead_is n (a ∷ b ∷ []) rest t e =
    let f = tail_is (sends_request n) a _ (b ∷ t ∷ rest) e in
    let g = tail_is (needs_request n) b _ (t ∷ rest) f in
    ap (λ u. u ∷ b ∷ []) (sym (head_is (sends_request n) a _ (b ∷ t ∷ rest) e))
    ∙ (ap (λ u. sends_request n ∷ u ∷ []) (sym (head_is (needs_request n) b _ (t ∷ rest) f)) ∙ ap (λ u. ahead_of n u) (head_is (sends_reply n) t _ rest g))
ahead_is n (a ∷ b ∷ c ∷ []) rest t e =
    let f = tail_is (sends_request n) a _ (b ∷ c ∷ t ∷ rest) e in
    let g = tail_is (needs_request n) b _ (c ∷ t ∷ rest) f in
    let h = tail_is (sends_reply n) c _ (t ∷ rest) g in
    ap (λ u. u ∷ b ∷ c ∷ []) (sym (head_is (sends_request n) a _ (b ∷ c ∷ t ∷ rest) e))
    ∙ (ap (λ u. sends_request n ∷ u ∷ c ∷ []) (sym (head_is (needs_request n) b _ (c ∷ t ∷ rest) f))
    ∙ (ap (λ u. sends_request n ∷ needs_request n ∷ u ∷ []) (sym (head_is (sends_reply n) c _ (t ∷ rest) g)) ∙ ap (λ u. ahead_of n u) (head_is (needs_reply n) t _ rest h)))
ahead_is n (a ∷ b ∷ c ∷ d ∷ xs) rest t e =
    let f = tail_is (sends_request n) a _ _ e in
    let g = tail_is (needs_request n) b _ _ f in
    let h = tail_is (sends_reply n) c _ _ g in
    absurd (nothing_is (xs ++ t ∷ rest) (tail_is (needs_reply n) d [] (xs ++ t ∷ rest) h) xs refl)
  where
    nothing_is : (ys : List Touch) → [] ≡ ys → (zs : List Touch) → ys ≡ zs ++ t ∷ rest → ⊥
    nothing_is ys e [] f = absurd (cc)
    nothing_is ys e (z ∷ zs) f = absurd (cc)

-- ---- deliveries

delivery_parts : (n : ℕ) (xs ys : List Touch) → delivery_count n (xs ++ ys) ≡ delivery_count n xs + delivery_count n ys
delivery_parts n [] ys = omega arith
delivery_parts n (x ∷ xs) ys = omega (arith, delivery_parts n xs ys)

delivery_about : (n : ℕ) (xs : List Touch) → delivery_count n (about n xs) ≡ delivery_count n xs
delivery_about n [] = refl
delivery_about n (touches_nothing ∷ xs) = omega (arith, delivery_about n xs)
delivery_about n (sends_request m ∷ xs) = apart (nat_eq m n) (delivery_about n xs)
  where
    apart : (b : Bool) → delivery_count n (about n xs) ≡ delivery_count n xs → delivery_count n (if b then sends_request m ∷ about n xs else about n xs) ≡ 0 + delivery_count n xs
    apart true e = omega (arith, e)
    apart false e = omega (arith, e)
delivery_about n (sends_reply m ∷ xs) = apart (nat_eq m n) (delivery_about n xs)
  where
    apart : (b : Bool) → delivery_count n (about n xs) ≡ delivery_count n xs → delivery_count n (if b then sends_reply m ∷ about n xs else about n xs) ≡ 0 + delivery_count n xs
    apart true e = omega (arith, e)
    apart false e = omega (arith, e)
delivery_about n (needs_request m ∷ xs) = apart (nat_eq m n) refl (delivery_about n xs)
  where
    one_if : nat_eq m n ≡ true → ◌≡◌ {A = ℕ} (if nat_eq m n then 1 else 0) 1
    one_if is = ap {B = ℕ} (λ b. if b then 1 else 0) is

    apart : (b : Bool) → nat_eq m n ≡ b → delivery_count n (about n xs) ≡ delivery_count n xs → delivery_count n (if b then needs_request m ∷ about n xs else about n xs) ≡ (if b then 1 else 0) + delivery_count n xs
    apart true is e = omega (arith, e, one_if is)
    apart false is e = omega (arith, e)
delivery_about n (needs_reply m ∷ xs) = apart (nat_eq m n) (delivery_about n xs)
  where
    apart : (b : Bool) → delivery_count n (about n xs) ≡ delivery_count n xs → delivery_count n (if b then needs_reply m ∷ about n xs else about n xs) ≡ 0 + delivery_count n xs
    apart true e = omega (arith, e)
    apart false e = omega (arith, e)

delivery_way : (n : ℕ) → delivery_count n (way_of n) ≤ 1
delivery_way n = at_most (nat_eq n n)
  where
    at_most : (b : Bool) → 0 + ((if b then 1 else 0) + (0 + (0 + 0))) ≤ 1
    at_most true = omega arith
    at_most false = omega arith

pub delivered_once : (session : Session) (keys : List (List ℕ × List ℕ)) (history : List Entry) (s : Standing) (n : ℕ) → standing_after session keys history ≡ Some s → delivery_count n (touches_in session keys history) ≤ 1
delivered_once session keys history s n e =
    let touches = touches_in session keys history in
    let way : Begins (about n touches) (way_of n) = way_begins session keys history s n e in
    omega (arith, delivery_way n, delivery_about n touches, delivery_parts n (about n touches) way.rest, ap (λ xs. delivery_count n xs) way.is)

-- ---- sends and needs

sends_about : (reply : Bool) (n : ℕ) → is_about n (sending reply n) ≡ true
sends_about true n = eq-eqb n n refl
sends_about false n = eq-eqb n n refl

needs_about : (reply : Bool) (n : ℕ) → is_about n (needing reply n) ≡ true
needs_about true n = eq-eqb n n refl
needs_about false n = eq-eqb n n refl

sends_same : (reply kind : Bool) (n m : ℕ) → sending reply n ≡ sending kind m → (reply ≡ kind) × (n ≡ m)
sends_same true true n m e = (refl, cc)
sends_same true false n m e = absurd (cc)
sends_same false true n m e = absurd (cc)
sends_same false false n m e = (refl, cc)

needs_same : (reply kind : Bool) (n m : ℕ) → needing reply n ≡ needing kind m → (reply ≡ kind) × (n ≡ m)
needs_same true true n m e = (refl, cc)
needs_same true false n m e = absurd (cc)
needs_same false true n m e = absurd (cc)
needs_same false false n m e = (refl, cc)

sends_needs : (reply kind : Bool) (n m : ℕ) → sending reply n ≡ needing kind m → ⊥
sends_needs true true n m e = cc
sends_needs true false n m e = cc
sends_needs false true n m e = cc
sends_needs false false n m e = cc

nothing_sends : (reply : Bool) (n : ℕ) → touches_nothing ≡ sending reply n → ⊥
nothing_sends true n e = cc
nothing_sends false n e = cc

nothing_needs : (reply : Bool) (n : ℕ) → touches_nothing ≡ needing reply n → ⊥
nothing_needs true n e = cc
nothing_needs false n e = cc

-- what is ahead of a send on its way isn't it, and what is ahead of a need has its send
not_ahead : (reply : Bool) (n : ℕ) → Has (ahead_of n (sending reply n)) (sending reply n) → ⊥
not_ahead true n (inl e) = absurd (cc)
not_ahead true n (inr (inl e)) = absurd (cc)
not_ahead true n (inr (inr h)) = h
not_ahead false n h = h

is_ahead : (reply : Bool) (n : ℕ) → Has (ahead_of n (needing reply n)) (sending reply n)
is_ahead true n = inr (inr (inl refl))
is_ahead false n = inl refl

-- ---- messages of a history

some_or_none : (A : Type 0) (x : Option A) → (IsSome x → ⊥) → x ≡ None
some_or_none A None f = refl
some_or_none A (Some a) f = absurd (f refl)

has_sent : (A : Type 0) (x : Option A) → IsSome x → (a : A) × (x ≡ Some a)
has_sent A None e = absurd (cc)
has_sent A (Some a) e = (a, refl)

pub linked_nothing : AreLinked [] []
linked_nothing = record {
  sent = λ reply n. (λ e. absurd (none_some e), λ h. absurd h);
  came = λ reply n h. absurd h;
}
  where
    none_some : false ≡ true → ⊥
    none_some e = cc

pub linked_rest : (touches : List Touch) (messages : List Message) → AreLinked touches messages → AreLinked (touches ++ touches_nothing ∷ []) messages
linked_rest touches messages l = record {
  sent = λ reply n. (
    λ e. has_left touches (touches_nothing ∷ []) (sending reply n) ((l.sent reply n).0 e),
    λ h. sent_back reply n (has_cases touches touches_nothing (sending reply n) h),
  );
  came = λ reply n h. came_back reply n (has_cases touches touches_nothing (needing reply n) h);
}
  where
    sent_back : (reply : Bool) (n : ℕ) → Has touches (sending reply n) ⊎ (touches_nothing ≡ sending reply n) → IsSome (found reply n messages)
    sent_back reply n (inl h) = (l.sent reply n).1 h
    sent_back reply n (inr e) = absurd (nothing_sends reply n e)

    came_back : (reply : Bool) (n : ℕ) → Has touches (needing reply n) ⊎ (touches_nothing ≡ needing reply n) → has_arrived reply n messages ≡ true
    came_back reply n (inl h) = l.came reply n h
    came_back reply n (inr e) = absurd (nothing_needs reply n e)

linked_need : (kind : Bool) (m : ℕ) (touches : List Touch) (messages : List Message) → has_arrived kind m messages ≡ true → AreLinked touches messages → AreLinked (touches ++ needing kind m ∷ []) messages
linked_need kind m touches messages there l = record {
  sent = λ reply n. (
    λ e. has_left touches (needing kind m ∷ []) (sending reply n) ((l.sent reply n).0 e),
    λ h. sent_back reply n (has_cases touches (needing kind m) (sending reply n) h),
  );
  came = λ reply n h. came_back reply n (has_cases touches (needing kind m) (needing reply n) h);
}
  where
    sent_back : (reply : Bool) (n : ℕ) → Has touches (sending reply n) ⊎ (needing kind m ≡ sending reply n) → IsSome (found reply n messages)
    sent_back reply n (inl h) = (l.sent reply n).1 h
    sent_back reply n (inr e) = absurd (sends_needs reply kind n m (sym e))

    came_back : (reply : Bool) (n : ℕ) → Has touches (needing reply n) ⊎ (needing kind m ≡ needing reply n) → has_arrived reply n messages ≡ true
    came_back reply n (inl h) = l.came reply n h
    came_back reply n (inr e) =
        let same = needs_same kind reply m n e in
        subst (λ r. has_arrived r n messages ≡ true) same.0 (subst (λ k. has_arrived kind k messages ≡ true) same.1 there)

-- a message is of its own kind and number, and of no other
own_kind : (reply : Bool) (n : ℕ) (bundle : List ℕ) → is_of reply n (record { reply = reply; name = n; bundle = bundle; arrived = false }) ≡ true
own_kind true n bundle = eq-eqb n n refl
own_kind false n bundle = eq-eqb n n refl

-- a message found with one more is one of them, or is the one
found_cases : (reply : Bool) (n : ℕ) (kind : Bool) (m : ℕ) (bundle : List ℕ) (messages : List Message) → IsSome (found reply n (messages ++ record { reply = kind; name = m; bundle = bundle; arrived = false } ∷ [])) → IsSome (found reply n messages) ⊎ (sending kind m ≡ sending reply n)
found_cases reply n kind m bundle messages e = by_number (cases_eq n m)
  where
    one : Message
    one = record { reply = kind; name = m; bundle = bundle; arrived = false }

    other_number : (reply kind : Bool) → (n ≡ m → ⊥) → is_of reply n (record { reply = kind; name = m; bundle = bundle; arrived = false }) ≡ false
    other_number true true f = ne_eqb m n (λ e. f (sym e))
    other_number true false f = refl
    other_number false true f = refl
    other_number false false f = ne_eqb m n (λ e. f (sym e))

    by_kind : (reply kind : Bool) → n ≡ m → IsSome (found reply n (messages ++ record { reply = kind; name = m; bundle = bundle; arrived = false } ∷ [])) → IsSome (found reply n messages) ⊎ (sending kind m ≡ sending reply n)
    by_kind true true f e = inr (ap (λ k. sends_reply k) (sym f))
    by_kind true false f e = inl (subst (λ x. IsSome x) (found_other true n messages (record { reply = false; name = m; bundle = bundle; arrived = false }) refl) e)
    by_kind false true f e = inl (subst (λ x. IsSome x) (found_other false n messages (record { reply = true; name = m; bundle = bundle; arrived = false }) refl) e)
    by_kind false false f e = inr (ap (λ k. sends_request k) (sym f))

    by_number : (n ≡ m) ⊎ (n ≡ m → ⊥) → IsSome (found reply n messages) ⊎ (sending kind m ≡ sending reply n)
    by_number (inl same) = by_kind reply kind same e
    by_number (inr other) = inl (subst (λ x. IsSome x) (found_other reply n messages (record { reply = kind; name = m; bundle = bundle; arrived = false }) (other_number reply kind other)) e)

linked_send : (kind : Bool) (m : ℕ) (bundle : List ℕ) (touches : List Touch) (messages : List Message) → found kind m messages ≡ None → AreLinked touches messages → AreLinked (touches ++ sending kind m ∷ []) (messages ++ record { reply = kind; name = m; bundle = bundle; arrived = false } ∷ [])
linked_send kind m bundle touches messages fresh l = record {
  sent = λ reply n. (
    λ e. sent_on reply n (found_cases reply n kind m bundle messages e),
    λ h. sent_back reply n (has_cases touches (sending kind m) (sending reply n) h),
  );
  came = λ reply n h. came_back reply n (has_cases touches (sending kind m) (needing reply n) h);
}
  where
    sent_on : (reply : Bool) (n : ℕ) → IsSome (found reply n messages) ⊎ (sending kind m ≡ sending reply n) → Has (touches ++ sending kind m ∷ []) (sending reply n)
    sent_on reply n (inl e) = has_left touches (sending kind m ∷ []) (sending reply n) ((l.sent reply n).0 e)
    sent_on reply n (inr e) = subst (λ t. Has (touches ++ sending kind m ∷ []) t) e (has_last touches (sending kind m))

    sent_back : (reply : Bool) (n : ℕ) → Has touches (sending reply n) ⊎ (sending kind m ≡ sending reply n) → IsSome (found reply n (messages ++ record { reply = kind; name = m; bundle = bundle; arrived = false } ∷ []))
    sent_back reply n (inl h) =
        let there = has_sent Message (found reply n messages) ((l.sent reply n).1 h) in
        ap (λ x. is_some x) (found_more reply n messages there.0 (record { reply = kind; name = m; bundle = bundle; arrived = false }) there.1)
    sent_back reply n (inr e) =
        let same = sends_same kind reply m n e in
        subst (λ r. IsSome (found r n (messages ++ record { reply = kind; name = m; bundle = bundle; arrived = false } ∷ []))) same.0
        (subst (λ k. IsSome (found kind k (messages ++ record { reply = kind; name = m; bundle = bundle; arrived = false } ∷ []))) same.1
        (ap (λ x. is_some x) (found_new kind m messages (record { reply = kind; name = m; bundle = bundle; arrived = false }) fresh (own_kind kind m bundle))))

    came_back : (reply : Bool) (n : ℕ) → Has touches (needing reply n) ⊎ (sending kind m ≡ needing reply n) → has_arrived reply n (messages ++ record { reply = kind; name = m; bundle = bundle; arrived = false } ∷ []) ≡ true
    came_back reply n (inl h) = arrived_more reply n messages (record { reply = kind; name = m; bundle = bundle; arrived = false }) (l.came reply n h)
    came_back reply n (inr e) = absurd (sends_needs kind reply m n e)

pub linked_arrived : (touches : List Touch) (kind : Bool) (m : ℕ) (messages : List Message) → AreLinked touches messages → AreLinked touches (with_arrived kind m messages)
linked_arrived touches kind m messages l = record {
  sent = λ reply n. (
    λ e. (l.sent reply n).0 (sym (some_arrived reply n kind m messages) ∙ e),
    λ h. some_arrived reply n kind m messages ∙ (l.sent reply n).1 h,
  );
  came = λ reply n h. still_arrived reply n kind m messages (l.came reply n h);
}

-- ---- what is ahead of a move that is possible

module _ (session : Session) (keys : List (List ℕ × List ℕ)) (history : List Entry) (s t : Standing) (pass : ℕ) (move : Move) (stands : standing_after session keys history ≡ Some s) (possible : next session keys s (played pass move) ≡ Some t) where
  ahead : (n : ℕ) → is_about n (touch_of s move) ≡ true → about n (touches_in session keys history) ≡ ahead_of n (touch_of s move)
  ahead n is =
      let touches = touches_in session keys history in
      let way : Begins (about n (touches_in session keys (history ++ played pass move ∷ []))) (way_of n) = way_begins session keys (history ++ played pass move ∷ []) t n (after_more session keys history s (played pass move) stands ∙ possible) in
      let grown : about n (touches_in session keys (history ++ played pass move ∷ [])) ≡ about n touches ++ touch_of s move ∷ [] =
      ap (λ xs. about n xs) (touches_more session keys history s (played pass move) stands)
      ∙ (about_more n touches (touch_of s move) ∙ ap (λ b. if b then about n touches ++ touch_of s move ∷ [] else about n touches) is) in
      ahead_is n (about n touches) way.rest (touch_of s move)
      (way.is ∙ (ap (λ xs. xs ++ way.rest) grown ∙ append_assoc (about n touches) (touch_of s move ∷ []) way.rest))

  -- what is sent was not sent before
  pub sends_new : (messages : List Message) (reply : Bool) (n : ℕ) → AreLinked (touches_in session keys history) messages → touch_of s move ≡ sending reply n → found reply n messages ≡ None
  sends_new messages reply n l is =
      let here : about n (touches_in session keys history) ≡ ahead_of n (sending reply n) = ahead n (ap (λ u. is_about n u) is ∙ sends_about reply n) ∙ ap (λ u. ahead_of n u) is in
      some_or_none Message (found reply n messages)
      (λ e. not_ahead reply n (subst (λ xs. Has xs (sending reply n)) here (has_about n (touches_in session keys history) (sending reply n) (sends_about reply n) ((l.sent reply n).0 e))))

  -- what is needed was sent before
  pub needs_sent : (messages : List Message) (reply : Bool) (n : ℕ) → AreLinked (touches_in session keys history) messages → touch_of s move ≡ needing reply n → IsSome (found reply n messages)
  needs_sent messages reply n l is =
      let here : about n (touches_in session keys history) ≡ ahead_of n (needing reply n) = ahead n (ap (λ u. is_about n u) is ∙ needs_about reply n) ∙ ap (λ u. ahead_of n u) is in
      (l.sent reply n).1 (about_has n (touches_in session keys history) (sending reply n) (subst (λ xs. Has xs (sending reply n)) (sym here) (is_ahead reply n)))

  linked_by : (touch : Touch) (sent : Option Evidence) (messages : List Message) → touch_of s move ≡ touch → IsTouched touch sent s t → is_there messages touch ≡ true → AreLinked (touches_in session keys history) messages → AreLinked (touches_in session keys history ++ touch ∷ []) (with_message messages (message_by touch sent))
  linked_by touches_nothing sent messages is touched there l = linked_rest (touches_in session keys history) messages l
  linked_by (sends_request n) sent messages is touched there l = sends_it sent touched.0.1
    where
      sends_it : (sent : Option Evidence) → sent ≡ Some touched.0.0 → AreLinked (touches_in session keys history ++ sends_request n ∷ []) (with_message messages (message_by (sends_request n) sent))
      sends_it None e = absurd (cc)
      sends_it (Some evidence) e = linked_send false n (message_with false n evidence).bundle (touches_in session keys history) messages (sends_new messages false n l is) l
  linked_by (sends_reply n) sent messages is touched there l = sends_it sent touched.0.1
    where
      sends_it : (sent : Option Evidence) → sent ≡ Some touched.0.0 → AreLinked (touches_in session keys history ++ sends_reply n ∷ []) (with_message messages (message_by (sends_reply n) sent))
      sends_it None e = absurd (cc)
      sends_it (Some evidence) e = linked_send true n (message_with true n evidence).bundle (touches_in session keys history) messages (sends_new messages true n l is) l
  linked_by (needs_request n) sent messages is touched there l = linked_need false n (touches_in session keys history) messages there l
  linked_by (needs_reply n) sent messages is touched there l = linked_need true n (touches_in session keys history) messages there l

  pub linked_moved : IsTouched (touch_of s move) (sent_by s move) s t → (messages : List Message) → AreLinked (touches_in session keys history) messages → is_there messages (touch_of s move) ≡ true → AreLinked (touches_in session keys (history ++ played pass move ∷ [])) (with_message messages (message_by (touch_of s move) (sent_by s move)))
  linked_moved touched messages l there =
      subst (λ xs. AreLinked xs (with_message messages (message_by (touch_of s move) (sent_by s move)))) (sym (touches_more session keys history s (played pass move) stands))
      (linked_by (touch_of s move) (sent_by s move) messages refl touched there l)

  -- a move is possible now, or what it needs is under way
  pub now_or_later : (messages : List Message) → AreLinked (touches_in session keys history) messages → (is_there messages (touch_of s move) ≡ true) ⊎ IsUnderWay messages
  now_or_later messages l = by_touch (touch_of s move) refl
    where
      waits_for : (reply : Bool) (n : ℕ) → IsSome (found reply n messages) → (has_arrived reply n messages ≡ true) ⊎ IsUnderWay messages
      waits_for reply n e =
          let there = has_sent Message (found reply n messages) e in
          arrived_or (there.0.arrived) refl there.1
        where
          arrived_or : (b : Bool) → (has_sent Message (found reply n messages) e).0.arrived ≡ b → found reply n messages ≡ Some (has_sent Message (found reply n messages) e).0 → (has_arrived reply n messages ≡ true) ⊎ IsUnderWay messages
          arrived_or true come is = inl (ap (λ x. has_come x) is ∙ come)
          arrived_or false come is = inr (record { reply = reply; name = n; message = (has_sent Message (found reply n messages) e).0; is = is; on_the_way = come })

      by_touch : (touch : Touch) → touch_of s move ≡ touch → (is_there messages touch ≡ true) ⊎ IsUnderWay messages
      by_touch touches_nothing is = inl refl
      by_touch (sends_request n) is = inl refl
      by_touch (sends_reply n) is = inl refl
      by_touch (needs_request n) is = waits_for false n (needs_sent messages false n l is)
      by_touch (needs_reply n) is = waits_for true n (needs_sent messages true n l is)

pub linked_rested : (session : Session) (keys : List (List ℕ × List ℕ)) (history : List Entry) (s : Standing) (entry : Entry) (messages : List Message) → standing_after session keys history ≡ Some s → touch_at s entry ≡ touches_nothing → AreLinked (touches_in session keys history) messages → AreLinked (touches_in session keys (history ++ entry ∷ [])) messages
linked_rested session keys history s entry messages stands still l =
    subst (λ xs. AreLinked xs messages) (sym (touches_more session keys history s entry stands ∙ ap (λ u. touches_in session keys history ++ u ∷ []) still))
    (linked_rest (touches_in session keys history) messages l)

-- ---- progress

module _ (session : Session) (keys : List (List ℕ × List ℕ)) (history : List Entry) (s : Standing) (messages : List Message) (stands : standing_after session keys history ≡ Some s) (l : AreLinked (touches_in session keys history) messages) where
  pub never_stuck : (pass : ℕ) → IsNotStuck session keys s pass → CanMakeNow session keys s pass messages ⊎ ((1 ≤ length s.in_flight) ⊎ IsUnderWay messages)
  never_stuck pass (inl can) = or_later (now_or_later session keys history s can.made.then_stands pass can.move stands can.made.possible messages l)
    where
      or_later : (is_there messages (touch_of s can.move) ≡ true) ⊎ IsUnderWay messages → CanMakeNow session keys s pass messages ⊎ ((1 ≤ length s.in_flight) ⊎ IsUnderWay messages)
      or_later (inl there) = inl (record { move = can.move; made = can.made; there = there })
      or_later (inr late) = inr (inr late)
  never_stuck pass (inr asks) = inr (inl asks)

  listed_now : (move : Move) (moves : List Move) → is_there messages (touch_of s move) ≡ true → 1 ≤ length (filter (λ one. is_there messages (touch_of s one)) (move ∷ moves))
  listed_now move moves there = subst (λ b. 1 ≤ length (cond b (move ∷ filter (λ one. is_there messages (touch_of s one)) moves) (filter (λ one. is_there messages (touch_of s one)) moves))) (sym there) (omega arith)

  pub never_stuck_listed : (places : List (List ℕ)) → ((pass : ℕ) (move : Move) → Contains (possible_moves places s) move → CanMake session keys s pass move) → (1 ≤ length (possible_moves places s)) ⊎ (1 ≤ length s.in_flight) → (1 ≤ length (wire_moves places s messages)) ⊎ ((1 ≤ length s.in_flight) ⊎ IsUnderWay messages)
  never_stuck_listed places can (inl some) = by_moves (possible_moves places s) some (λ move h. can 0 move h)
    where
      by_moves : (moves : List Move) → 1 ≤ length moves → ((move : Move) → Contains moves move → CanMake session keys s 0 move) → (1 ≤ length (filter (λ one. is_there messages (touch_of s one)) moves)) ⊎ ((1 ≤ length s.in_flight) ⊎ IsUnderWay messages)
      by_moves [] some can = absurd (omega (arith, some))
      by_moves (move ∷ moves) some can =
          let made : CanMake session keys s 0 move = can move (0, omega arith, refl) in
          or_later (now_or_later session keys history s made.then_stands 0 move stands made.possible messages l)
        where
          or_later : (is_there messages (touch_of s move) ≡ true) ⊎ IsUnderWay messages → (1 ≤ length (filter (λ one. is_there messages (touch_of s one)) (move ∷ moves))) ⊎ ((1 ≤ length s.in_flight) ⊎ IsUnderWay messages)
          or_later (inl there) = inl (listed_now move moves there)
          or_later (inr late) = inr (inr late)
  never_stuck_listed places can (inr asks) = inr (inl asks)
