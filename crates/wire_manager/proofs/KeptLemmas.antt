-- Messages by their indices, and what is kept of them.
use Rattle.std.proofs.Common.{◌≡◌, ℕ, zero, suc, ◌<◌, ◌^◌, List, [], ◌∷◌, ◌++◌, length, drop, refl, sym, ◌∙◌, ap, subst, arith}
use Rattle.std.specs.Prelude.{Bool, true, false, Option, None, Some, Result, Ok, Err, OnOk, OnErr, is_some, nat_eq, ◌&&◌, if◌then◌else◌, slice_index_or, slice_set}
use Rattle.phrase_tree.specs.declared.memory.NoMemory.{NoMemory}
use Rattle.std.proofs.lemmas.Bool.{eqb-true}
use Rattle.std.proofs.lemmas.List.{length-map, map-set, map-append}
use Rattle.rising_list.specs.Rising.{RisesFrom, find, inserted}
use Rattle.wire_manager.specs.declared.link.Kept.{Kept}
use Rattle.wire_manager.specs.declared.link.Link.{Link}
use Rattle.wire_manager.specs.Messages.{Message, is_kind, is_of, found, one_on, index_in, has_come, has_arrived, with_arrived}
use Rattle.wire_manager.specs.Link.{message_of, messages_of, IsLink}

-- ---- indices

pub index_other : (reply : Bool) (n : ℕ) (messages : List Message) (one : Message) → is_of reply n one ≡ false → index_in reply n (messages ++ one ∷ []) ≡ index_in reply n messages
index_other reply n [] one e = ap (λ b. if b then Some 0 else None) e
index_other reply n (first ∷ messages) one e = ap (λ x. if is_of reply n first then Some 0 else one_on x) (index_other reply n messages one e)

pub index_new : (reply : Bool) (n : ℕ) (messages : List Message) (one : Message) → index_in reply n messages ≡ None → is_of reply n one ≡ true → index_in reply n (messages ++ one ∷ []) ≡ Some (length messages)
index_new reply n [] one e own = ap (λ b. if b then Some 0 else None) own
index_new reply n (first ∷ messages) one e own =
    new_here (is_of reply n first) (index_in reply n messages) (index_in reply n (messages ++ one ∷ [])) e (λ h. index_new reply n messages one h own)
  where
    none_on : (x : Option ℕ) → one_on x ≡ None → x ≡ None
    none_on None e = refl
    none_on (Some i) e = absurd (cc)

    new_here : (b : Bool) (x y : Option ℕ) → (if b then Some 0 else one_on x) ≡ None → (x ≡ None → y ≡ Some (length messages)) → (if b then Some 0 else one_on y) ≡ Some (suc (length messages))
    new_here true x y e f = absurd (cc)
    new_here false x y e f = ap (λ z. one_on z) (f (none_on x e))

-- what an index that is found says of the messages
pub record IsIndex (reply : Bool) (n : ℕ) (messages : List Message) (index : ℕ) : Type 0 where
  pub within : index < length messages
  pub found_is : (other : Message) → found reply n messages ≡ Some (slice_index_or messages index other)
  pub arrived_is : (other : Message) → with_arrived reply n messages ≡ slice_set messages index (record (slice_index_or messages index other) { arrived = true })

pub index_is : (reply : Bool) (n : ℕ) (messages : List Message) (index : ℕ) → index_in reply n messages ≡ Some index → IsIndex reply n messages index
index_is reply n [] index e = absurd (cc)
index_is reply n (first ∷ messages) index e =
    is_here (is_of reply n first) refl (index_in reply n messages) refl e (λ i h. index_is reply n messages i h)
  where
    some_is : (a b : ℕ) → ◌≡◌ {A = Option ℕ} (Some a) (Some b) → a ≡ b
    some_is a b e = cc

    own : is_of reply n first ≡ true → IsIndex reply n (first ∷ messages) 0
    own is = record {
      within = omega arith;
      found_is = λ other. ap (λ b. if b then Some first else found reply n messages) is;
      arrived_is = λ other. ap (λ b. if b then record first { arrived = true } ∷ messages else first ∷ with_arrived reply n messages) is;
    }

    behind : (i : ℕ) → is_of reply n first ≡ false → IsIndex reply n messages i → IsIndex reply n (first ∷ messages) (suc i)
    behind i is h = record {
      within = omega (arith, h.within);
      found_is = λ other. ap (λ b. if b then Some first else found reply n messages) is ∙ h.found_is other;
      arrived_is = λ other.
          ap (λ b. if b then record first { arrived = true } ∷ messages else first ∷ with_arrived reply n messages) is
          ∙ ap (λ xs. first ∷ xs) (h.arrived_is other);
    }

    is_here : (b : Bool) → is_of reply n first ≡ b → (x : Option ℕ) → index_in reply n messages ≡ x → (if b then Some 0 else one_on x) ≡ Some index → ((i : ℕ) → index_in reply n messages ≡ Some i → IsIndex reply n messages i) → IsIndex reply n (first ∷ messages) index
    is_here true is x at e f = subst (λ i. IsIndex reply n (first ∷ messages) i) (some_is 0 index e) (own is)
    is_here false is None at e f = absurd (cc)
    is_here false is (Some i) at e f = subst (λ k. IsIndex reply n (first ∷ messages) k) (some_is (suc i) index e) (behind i is (f i at))

-- without an index there is none
pub index_none : (reply : Bool) (n : ℕ) (messages : List Message) → index_in reply n messages ≡ None → (found reply n messages ≡ None) × (with_arrived reply n messages ≡ messages)
index_none reply n [] e = (refl, refl)
index_none reply n (first ∷ messages) e =
    none_here (is_of reply n first) (index_in reply n messages) e (λ h. index_none reply n messages h)
  where
    none_here : (b : Bool) (x : Option ℕ) → (if b then Some 0 else one_on x) ≡ None → (x ≡ None → (found reply n messages ≡ None) × (with_arrived reply n messages ≡ messages)) → ((if b then Some first else found reply n messages) ≡ None) × ((if b then record first { arrived = true } ∷ messages else first ∷ with_arrived reply n messages) ≡ first ∷ messages)
    none_here true x e f = absurd (cc)
    none_here false None e f = ((f refl).0, ap (λ xs. first ∷ xs) (f refl).1)
    none_here false (Some i) e f = absurd (cc)

pub none_found : (reply : Bool) (n : ℕ) (messages : List Message) → found reply n messages ≡ None → index_in reply n messages ≡ None
none_found reply n [] e = refl
none_found reply n (first ∷ messages) e = none_here (is_of reply n first) e (λ h. none_found reply n messages h)
  where
    none_here : (b : Bool) → (if b then Some first else found reply n messages) ≡ None → (found reply n messages ≡ None → index_in reply n messages ≡ None) → (if b then Some 0 else one_on (index_in reply n messages)) ≡ None
    none_here true e f = absurd (cc)
    none_here false e f = ap (λ x. one_on x) (f e)

-- ---- what is kept

pub length_kept : (kept : List Kept) → length (messages_of kept) ≡ length kept
length_kept kept = length-map kept message_of

pub kept_within : (reply : Bool) (n : ℕ) (kept : List Kept) (index : ℕ) → index_in reply n (messages_of kept) ≡ Some index → index < length kept
kept_within reply n kept index e = omega (arith, (index_is reply n (messages_of kept) index e).within, length_kept kept)

kept_at : (kept : List Kept) (index : ℕ) (other : Kept) → slice_index_or (messages_of kept) index (message_of other) ≡ message_of (slice_index_or kept index other)
kept_at [] index other = refl
kept_at (one ∷ kept) zero other = refl
kept_at (one ∷ kept) (suc index) other = kept_at kept index other

pub kept_found : (reply : Bool) (n : ℕ) (kept : List Kept) (index : ℕ) (other : Kept) → index_in reply n (messages_of kept) ≡ Some index → found reply n (messages_of kept) ≡ Some (message_of (slice_index_or kept index other))
kept_found reply n kept index other e =
    (index_is reply n (messages_of kept) index e).found_is (message_of other) ∙ ap (λ m. Some m) (kept_at kept index other)

pub kept_marked : (reply : Bool) (n : ℕ) (kept : List Kept) (index : ℕ) (other : Kept) → index_in reply n (messages_of kept) ≡ Some index → messages_of (slice_set kept index (record (slice_index_or kept index other) { arrived = true })) ≡ with_arrived reply n (messages_of kept)
kept_marked reply n kept index other e =
    map-set message_of kept index (record (slice_index_or kept index other) { arrived = true })
    ∙ (ap (λ m. slice_set (messages_of kept) index (record m { arrived = true })) (sym (kept_at kept index other))
    ∙ sym ((index_is reply n (messages_of kept) index e).arrived_is (message_of other)))

-- an arrival moves no message
index_marked : (reply : Bool) (n : ℕ) (kind : Bool) (m : ℕ) (messages : List Message) → index_in reply n (with_arrived kind m messages) ≡ index_in reply n messages
index_marked reply n kind m [] = refl
index_marked reply n kind m (first ∷ messages) = marked_here (is_of kind m first) (index_marked reply n kind m messages)
  where
    marked_here : (b : Bool) → index_in reply n (with_arrived kind m messages) ≡ index_in reply n messages → index_in reply n (if b then record first { arrived = true } ∷ messages else first ∷ with_arrived kind m messages) ≡ index_in reply n (first ∷ messages)
    marked_here true e = refl
    marked_here false e = ap (λ x. if is_of reply n first then Some 0 else one_on x) e

pub length_marked : (kind : Bool) (m : ℕ) (messages : List Message) → length (with_arrived kind m messages) ≡ length messages
length_marked kind m [] = refl
length_marked kind m (first ∷ messages) = marked_here (is_of kind m first) (length_marked kind m messages)
  where
    marked_here : (b : Bool) → length (with_arrived kind m messages) ≡ length messages → length (if b then record first { arrived = true } ∷ messages else first ∷ with_arrived kind m messages) ≡ suc (length messages)
    marked_here true e = refl
    marked_here false e = ap (λ k. suc k) e

-- the link of the messages as they are with one marked
pub link_marked : (reply : Bool) (n : ℕ) (old new : Link) → IsLink old → messages_of new.messages.items ≡ with_arrived reply n (messages_of old.messages.items) → new.sent ≡ old.sent → new.requests ≡ old.requests → new.replies ≡ old.replies → IsLink new
link_marked reply n old new l marked sent requests replies = record {
  few = omega (arith, l.few, length_kept new.messages.items, length_kept old.messages.items, ap (λ xs. length xs) marked, length_marked reply n (messages_of old.messages.items));
  few_sent = subst (λ v. length v.items < 2 ^ 32) (sym sent) l.few_sent;
  requests_rise = subst (λ v. RisesFrom 0 v.items) (sym requests) l.requests_rise;
  replies_rise = subst (λ v. RisesFrom 0 v.items) (sym replies) l.replies_rise;
  requests = λ k. ap (λ v. find k v.items) requests ∙ (l.requests k ∙ sym (ap (λ xs. index_in false k xs) marked ∙ index_marked false k reply n (messages_of old.messages.items)));
  replies = λ k. ap (λ v. find k v.items) replies ∙ (l.replies k ∙ sym (ap (λ xs. index_in true k xs) marked ∙ index_marked true k reply n (messages_of old.messages.items)));
}

-- ---- one message more

abbrev pub FindsMore : Type 0
FindsMore = (number other : ℕ) (value : ℕ) (entries : List (ℕ × ℕ)) → find number entries ≡ None → find other (inserted number value entries) ≡ (if nat_eq number other then Some value else find other entries)

index_kept_more : (reply : Bool) (n : ℕ) (kept : List Kept) (one : Kept) → index_in one.reply one.name (messages_of kept) ≡ None → index_in reply n (messages_of (kept ++ one ∷ [])) ≡ (if is_of reply n (message_of one) then Some (length kept) else index_in reply n (messages_of kept))
index_kept_more reply n kept one fresh =
    ap (λ xs. index_in reply n xs) (map-append message_of kept (one ∷ [])) ∙ by_kind (is_of reply n (message_of one)) refl
  where
    same_kind : (a b : Bool) → is_kind a b ≡ true → a ≡ b
    same_kind true true e = refl
    same_kind true false e = absurd (cc)
    same_kind false true e = absurd (cc)
    same_kind false false e = refl

    parts : (a b : Bool) → (a && b) ≡ true → (a ≡ true) × (b ≡ true)
    parts true true e = (refl, refl)
    parts true false e = absurd (cc)
    parts false b e = absurd (cc)

    fresh_here : is_of reply n (message_of one) ≡ true → index_in reply n (messages_of kept) ≡ None
    fresh_here e =
        let both = parts (is_kind reply one.reply) (nat_eq one.name n) e in
        subst (λ r. index_in r n (messages_of kept) ≡ None) (sym (same_kind reply one.reply both.0))
        (subst (λ k. index_in one.reply k (messages_of kept) ≡ None) (eqb-true one.name n both.1) fresh)

    by_kind : (b : Bool) → is_of reply n (message_of one) ≡ b → index_in reply n (messages_of kept ++ message_of one ∷ []) ≡ (if b then Some (length kept) else index_in reply n (messages_of kept))
    by_kind true e = index_new reply n (messages_of kept) (message_of one) (fresh_here e) e ∙ ap (λ k. Some k) (length_kept kept)
    by_kind false e = index_other reply n (messages_of kept) (message_of one) e

-- the link with one message more, whose number was put in among those of its kind
abbrev pub PutIn : Bool → ℕ → ℕ → Link → Link → Type 0
PutIn true name index old new = (new.replies.items ≡ inserted name index old.replies.items) × (new.requests ≡ old.requests)
PutIn false name index old new = (new.requests.items ≡ inserted name index old.requests.items) × (new.replies ≡ old.replies)

pub link_more : FindsMore → (one : Kept) (old new : Link) → IsLink old → index_in one.reply one.name (messages_of old.messages.items) ≡ None → new.messages.items ≡ old.messages.items ++ one ∷ [] → length new.messages.items < 2 ^ 32 → length new.sent.items < 2 ^ 32 → RisesFrom 0 new.requests.items → RisesFrom 0 new.replies.items → PutIn one.reply one.name (length old.messages.items) old new → IsLink new
link_more finds one old new l fresh more few few_sent requests_rise replies_rise put = record {
  few = few;
  few_sent = few_sent;
  requests_rise = requests_rise;
  replies_rise = replies_rise;
  requests = λ k. requests_find one.reply refl put k ∙ sym (ap (λ xs. index_in false k (messages_of xs)) more ∙ index_kept_more false k old.messages.items one fresh);
  replies = λ k. replies_find one.reply refl put k ∙ sym (ap (λ xs. index_in true k (messages_of xs)) more ∙ index_kept_more true k old.messages.items one fresh);
}
  where
    requests_find : (kind : Bool) → one.reply ≡ kind → PutIn kind one.name (length old.messages.items) old new → (k : ℕ) → find k new.requests.items ≡ (if is_of false k (record { reply = kind; name = one.name; bundle = drop 25 one.frame; arrived = one.arrived }) then Some (length old.messages.items) else index_in false k (messages_of old.messages.items))
    requests_find true is put k = ap (λ v. find k v.items) put.1 ∙ l.requests k
    requests_find false is put k =
        ap (λ xs. find k xs) put.0
        ∙ (finds one.name k (length old.messages.items) old.requests.items (l.requests one.name ∙ subst (λ r. index_in r one.name (messages_of old.messages.items) ≡ None) is fresh)
        ∙ ap (λ x. if nat_eq one.name k then Some (length old.messages.items) else x) (l.requests k))

    replies_find : (kind : Bool) → one.reply ≡ kind → PutIn kind one.name (length old.messages.items) old new → (k : ℕ) → find k new.replies.items ≡ (if is_of true k (record { reply = kind; name = one.name; bundle = drop 25 one.frame; arrived = one.arrived }) then Some (length old.messages.items) else index_in true k (messages_of old.messages.items))
    replies_find false is put k = ap (λ v. find k v.items) put.1 ∙ l.replies k
    replies_find true is put k =
        ap (λ xs. find k xs) put.0
        ∙ (finds one.name k (length old.messages.items) old.replies.items (l.replies one.name ∙ subst (λ r. index_in r one.name (messages_of old.messages.items) ≡ None) is fresh)
        ∙ ap (λ x. if nat_eq one.name k then Some (length old.messages.items) else x) (l.replies k))

link_same : (old new : Link) → IsLink old → new.messages.items ≡ old.messages.items → new.sent.items ≡ old.sent.items → new.requests.items ≡ old.requests.items → new.replies.items ≡ old.replies.items → IsLink new
link_same old new l messages sent requests replies = record {
  few = subst (λ xs. length xs < 2 ^ 32) (sym messages) l.few;
  few_sent = subst (λ xs. length xs < 2 ^ 32) (sym sent) l.few_sent;
  requests_rise = subst (λ xs. RisesFrom 0 xs) (sym requests) l.requests_rise;
  replies_rise = subst (λ xs. RisesFrom 0 xs) (sym replies) l.replies_rise;
  requests = λ k. ap (λ xs. find k xs) requests ∙ (l.requests k ∙ sym (ap (λ xs. index_in false k (messages_of xs)) messages));
  replies = λ k. ap (λ xs. find k xs) replies ∙ (l.replies k ∙ sym (ap (λ xs. index_in true k (messages_of xs)) messages));
}

-- the link once a reply or a request was put in among those of its kind, if it was
pub link_with_reply : FindsMore → (one : Kept) (old new : Link) (result : Result (Unit {0}) NoMemory) → IsLink old → one.reply ≡ true → index_in one.reply one.name (messages_of old.messages.items) ≡ None → new.requests ≡ old.requests → RisesFrom 0 new.replies.items → OnOk result (new.messages.items ≡ old.messages.items ++ one ∷ []) → OnOk result (new.replies.items ≡ inserted one.name (length old.messages.items) old.replies.items) → OnOk result ((length new.messages.items < 2 ^ 32) × (length new.sent.items < 2 ^ 32)) → OnErr result ((new.messages.items ≡ old.messages.items) × ((new.sent.items ≡ old.sent.items) × (new.replies.items ≡ old.replies.items))) → IsLink new
link_with_reply finds one old new (Ok u) l kind fresh requests rise messages numbers few err =
    link_more finds one old new l fresh messages few.0 few.1 (subst (λ v. RisesFrom 0 v.items) (sym requests) l.requests_rise) rise
    (subst (λ r. PutIn r one.name (length old.messages.items) old new) (sym kind) (numbers, requests))
link_with_reply finds one old new (Err e) l kind fresh requests rise messages numbers few err =
    link_same old new l err.0 err.1.0 (ap (λ v. v.items) requests) err.1.1

pub link_with_request : FindsMore → (one : Kept) (old new : Link) (result : Result (Unit {0}) NoMemory) → IsLink old → one.reply ≡ false → index_in one.reply one.name (messages_of old.messages.items) ≡ None → new.replies ≡ old.replies → RisesFrom 0 new.requests.items → OnOk result (new.messages.items ≡ old.messages.items ++ one ∷ []) → OnOk result (new.requests.items ≡ inserted one.name (length old.messages.items) old.requests.items) → OnOk result ((length new.messages.items < 2 ^ 32) × (length new.sent.items < 2 ^ 32)) → OnErr result ((new.messages.items ≡ old.messages.items) × ((new.sent.items ≡ old.sent.items) × (new.requests.items ≡ old.requests.items))) → IsLink new
link_with_request finds one old new (Ok u) l kind fresh replies rise messages numbers few err =
    link_more finds one old new l fresh messages few.0 few.1 rise (subst (λ v. RisesFrom 0 v.items) (sym replies) l.replies_rise)
    (subst (λ r. PutIn r one.name (length old.messages.items) old new) (sym kind) (numbers, replies))
link_with_request finds one old new (Err e) l kind fresh replies rise messages numbers few err =
    link_same old new l err.0 err.1.0 err.1.1 (ap (λ v. v.items) replies)
