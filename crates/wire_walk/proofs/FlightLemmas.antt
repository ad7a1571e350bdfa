-- The frames in flight, by their positions and by the indices of their messages.
use Rattle.std.proofs.Common.{◌≡◌, ℕ, zero, suc, ◌+◌, ◌<◌, List, [], ◌∷◌, ◌++◌, length, refl, sym, ◌∙◌, ap, subst, arith}
use Rattle.std.specs.Prelude.{true, false, Option, None, Some, map, nat_lt, slice_get, slice_index_or, if◌then◌else◌}
use Rattle.std.specs.List.{remove}
use Rattle.std.proofs.lemmas.List.{length-append, get_or_append_left}
use Rattle.std.proofs.Math.Seq.{get_or-append_seam}
use Rattle.std.proofs.lemmas.Bool.{lt-ltb, le-ltb}
use Rattle.session_core.specs.declared.opened.Opened.{Opened}
use Rattle.wire_manager.specs.Wire.{Wire, sent_again}
use Rattle.wire_manager.specs.WireSchedule.{Linked, with_sent, without_frame, message_at, is_lost, stays, leaves, met, came, lost_one}
use Rattle.wire_walk.specs.declared.flight.Flight.{Flight}
use Rattle.wire_walk.specs.UnderWay.{sent_at, linked_in, AreBelow}

-- ---- positions

below_more : (count : ℕ) (positions : List ℕ) → AreBelow count positions → AreBelow (count + 1) positions
below_more count [] h = tt
below_more count (p ∷ ps) h = (omega (arith, h.0), below_more count ps h.1)

below_last : (count : ℕ) (positions : List ℕ) → AreBelow count positions → AreBelow (count + 1) (positions ++ count ∷ [])
below_last count [] h = (omega arith, tt)
below_last count (p ∷ ps) h = (omega (arith, h.0), below_last count ps h.1)

pub below_without : (count : ℕ) (positions : List ℕ) (k : ℕ) → AreBelow count positions → AreBelow count (remove positions k)
below_without count [] zero h = tt
below_without count [] (suc k) h = tt
below_without count (p ∷ ps) zero h = h.1
below_without count (p ∷ ps) (suc k) h = (h.0, below_without count ps k h.1)

pub below_at : (count : ℕ) (positions : List ℕ) (k other : ℕ) → AreBelow count positions → k < length positions → slice_index_or positions k other < count
below_at count [] k other h e = absurd (omega (arith, e))
below_at count (p ∷ ps) zero other h e = h.0
below_at count (p ∷ ps) (suc k) other h e = below_at count ps k other h.1 (omega (arith, e))

-- ---- indices

pub without_so : (sent positions : List ℕ) (k : ℕ) → map (sent_at sent) (remove positions k) ≡ without_frame k (map (sent_at sent) positions)
without_so sent [] zero = refl
without_so sent [] (suc k) = refl
without_so sent (p ∷ ps) zero = refl
without_so sent (p ∷ ps) (suc k) = ap (λ xs. sent_at sent p ∷ xs) (without_so sent ps k)

pub index_at : (sent positions : List ℕ) (k other : ℕ) → k < length positions → slice_get (map (sent_at sent) positions) k ≡ Some (sent_at sent (slice_index_or positions k other))
index_at sent [] k other e = absurd (omega (arith, e))
index_at sent (p ∷ ps) zero other e = refl
index_at sent (p ∷ ps) (suc k) other e = index_at sent ps k other (omega (arith, e))

same_indices : (sent : List ℕ) (i : ℕ) (positions : List ℕ) → AreBelow (length sent) positions → map (sent_at (sent ++ i ∷ [])) positions ≡ map (sent_at sent) positions
same_indices sent i [] h = refl
same_indices sent i (p ∷ ps) h =
    ap (λ x. x ∷ map (sent_at (sent ++ i ∷ [])) ps) (get_or_append_left sent (i ∷ []) 0 p h.0) ∙ ap (λ xs. sent_at sent p ∷ xs) (same_indices sent i ps h.1)

more_indices : (sent : List ℕ) (i : ℕ) (positions : List ℕ) → AreBelow (length sent) positions → map (sent_at (sent ++ i ∷ [])) (positions ++ length sent ∷ []) ≡ map (sent_at sent) positions ++ i ∷ []
more_indices sent i [] h = ap (λ x. x ∷ []) (get_or-append_seam sent i [] 0)
more_indices sent i (p ∷ ps) h =
    ap (λ x. x ∷ map (sent_at (sent ++ i ∷ [])) (ps ++ length sent ∷ [])) (get_or_append_left sent (i ∷ []) 0 p h.0) ∙ ap (λ xs. sent_at sent p ∷ xs) (more_indices sent i ps h.1)

-- ---- what is sent flies

pub linked_is : (one other : Linked) → one.walked ≡ other.walked → one.messages ≡ other.messages → one.sent ≡ other.sent → one.flying ≡ other.flying → one.lost ≡ other.lost → one.stayed ≡ other.stayed → one ≡ other
linked_is one other walked messages sent flying lost stayed =
    λ i. record { walked = walked i; messages = messages i; sent = sent i; flying = flying i; lost = lost i; stayed = stayed i }

not_less : (n : ℕ) → nat_lt n n ≡ false
not_less n = le-ltb n n (omega arith)

less_more : (n m : ℕ) → m ≡ n + 1 → nat_lt n m ≡ true
less_more n m e = lt-ltb n m (omega (arith, e))

-- the frames that fly after these, where more may have been sent
abbrev pub flown : List ℕ → List ℕ → List ℕ → List ℕ
flown old new frames = if nat_lt (length old) (length new) then frames ++ length old ∷ [] else frames

pub record Flies (sends : Option ℕ) (base : Linked) (new_sent frames : List ℕ) : Type 0 where
  pub below : AreBelow (length new_sent) frames
  pub is : record base { sent = length new_sent; flying = map (sent_at new_sent) frames } ≡ with_sent sends base

pub flies : (sends : Option ℕ) (base : Linked) (old_sent new_sent frames then_frames : List ℕ) → base.sent ≡ length old_sent → base.flying ≡ map (sent_at old_sent) frames → new_sent ≡ sent_again sends old_sent → then_frames ≡ flown old_sent new_sent frames → AreBelow (length old_sent) frames → Flies sends base new_sent then_frames
flies None base old_sent new_sent frames then_frames count flying same after below =
    let still : then_frames ≡ frames = after ∙ (ap (λ xs. flown old_sent xs frames) same ∙ ap (λ b. if b then frames ++ length old_sent ∷ [] else frames) (not_less (length old_sent))) in
    record {
      below = subst (λ xs. AreBelow (length new_sent) xs) (sym still) (subst (λ xs. AreBelow (length xs) frames) (sym same) below);
      is = linked_is _ base refl refl (ap (λ xs. length xs) same ∙ sym count) (ap (λ xs. map (sent_at xs) then_frames) same ∙ (ap (λ xs. map (sent_at old_sent) xs) still ∙ sym flying)) refl refl;
    }
flies (Some i) base old_sent new_sent frames then_frames count flying more after below =
    let longer : length new_sent ≡ length old_sent + 1 = ap (λ xs. length xs) more ∙ length-append old_sent (i ∷ []) in
    let then_is : then_frames ≡ frames ++ length old_sent ∷ [] = after ∙ ap (λ b. if b then frames ++ length old_sent ∷ [] else frames) (less_more (length old_sent) (length new_sent) longer) in
    record {
      below = subst (λ xs. AreBelow (length new_sent) xs) (sym then_is) (subst (λ n. AreBelow n (frames ++ length old_sent ∷ [])) (sym longer) (below_last (length old_sent) frames below));
      is = linked_is _ (with_sent (Some i) base) refl refl (longer ∙ ap (λ n. n + 1) (sym count)) (ap (λ xs. map (sent_at xs) then_frames) more ∙ (ap (λ xs. map (sent_at (old_sent ++ i ∷ [])) xs) then_is ∙ (more_indices old_sent i frames below ∙ ap (λ xs. xs ++ i ∷ []) (sym flying)))) refl refl;
    }

-- ---- a frame meets its fate

module _ {B : Type 0} (old : Wire (Opened B)) (flight : Flight) where
  abbrev with_flight : List ℕ → ℕ → ℕ → Linked
  with_flight frames lost stayed = record (linked_in old flight) { flying = map (sent_at old.sent) frames; lost = lost; stayed = stayed }

  found_there : (index position : ℕ) → index < length flight.frames.items → position ≡ slice_index_or flight.frames.items index position → message_at old.messages (Some (sent_at old.sent position)) ≡ message_at old.messages (slice_get (map (sent_at old.sent) flight.frames.items) index)
  found_there index position there is =
      ap (λ o. message_at old.messages o) (ap (λ p. some_index (sent_at old.sent p)) is ∙ sym (index_at old.sent flight.frames.items index position there))
    where
      some_index : ℕ → Option ℕ
      some_index i = Some i

  pub met_lost : (frames : List ℕ) (index position : ℕ) → index < length flight.frames.items → position ≡ slice_index_or flight.frames.items index position → frames ≡ remove flight.frames.items index → lost_one (message_at old.messages (Some (sent_at old.sent position))) (with_flight frames (flight.lost + 1) flight.stayed) ≡ met index is_lost (linked_in old flight)
  met_lost frames index position there is frames_are =
      ap (λ m. lost_one m (with_flight frames (flight.lost + 1) flight.stayed)) (found_there index position there is)
      ∙ ap (λ xs. lost_one (message_at old.messages (slice_get (map (sent_at old.sent) flight.frames.items) index)) (record (linked_in old flight) { flying = xs; lost = flight.lost + 1 })) (ap (λ xs. map (sent_at old.sent) xs) frames_are ∙ without_so old.sent flight.frames.items index)

  pub met_stays : (index position : ℕ) → index < length flight.frames.items → position ≡ slice_index_or flight.frames.items index position → came (message_at old.messages (Some (sent_at old.sent position))) (with_flight flight.frames.items flight.lost (flight.stayed + 1)) ≡ met index stays (linked_in old flight)
  met_stays index position there is = ap (λ m. came m (with_flight flight.frames.items flight.lost (flight.stayed + 1))) (found_there index position there is)

  pub met_leaves : (frames : List ℕ) (index position : ℕ) → index < length flight.frames.items → position ≡ slice_index_or flight.frames.items index position → frames ≡ remove flight.frames.items index → came (message_at old.messages (Some (sent_at old.sent position))) (with_flight frames flight.lost flight.stayed) ≡ met index leaves (linked_in old flight)
  met_leaves frames index position there is frames_are =
      ap (λ m. came m (with_flight frames flight.lost flight.stayed)) (found_there index position there is)
      ∙ ap (λ xs. came (message_at old.messages (slice_get (map (sent_at old.sent) flight.frames.items) index)) (record (linked_in old flight) { flying = xs })) (ap (λ xs. map (sent_at old.sent) xs) frames_are ∙ without_so old.sent flight.frames.items index)
