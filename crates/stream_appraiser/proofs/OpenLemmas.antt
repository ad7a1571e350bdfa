-- Open seals that are fed, and those that end.
use Rattle.std.proofs.Common.{◌≡◌, ◌+◌, ◌<◌, ◌≤◌, ℕ, zero, suc, Bool, true, false, List, [], ◌∷◌, ◌++◌, length, take, drop, reverse, refl, sym, ap, ◌∙◌, subst, nat_eq, get_or, slice_set, arith, if◌then◌else◌}
use Rattle.std.proofs.lemmas.List.{length-set, reverse-append, take_all}
use Rattle.seal_hmac.specs.Digests.{sealing}
use Rattle.seal_hmac.specs.Keys.{key_at}
use Rattle.appraiser.specs.declared.verdict.Verdict.{Verdict}
use Rattle.appraiser.specs.Expected.{Basis}
use Rattle.stream_appraiser.specs.declared.seals.OpenSeal.{OpenSeal as CodeSeal}
use Rattle.stream_appraiser.specs.Open.{AreOpen, Closes, FedAt, IsOpen, WasFed, WereFed, ends_at}
use Rattle.stream_appraiser.specs.Standing.{OpenSeal, Closed, closed, fed_all, verdict_of}

were_fed_both : (bytes : List ℕ) (olds news olds_more news_more : List CodeSeal) → WereFed bytes olds news → WereFed bytes olds_more news_more → WereFed bytes (olds ++ olds_more) (news ++ news_more)
were_fed_both bytes [] [] olds_more news_more h k = k
were_fed_both bytes [] (new ∷ news) olds_more news_more h k = absurd h
were_fed_both bytes (old ∷ olds) [] olds_more news_more h k = absurd h
were_fed_both bytes (old ∷ olds) (new ∷ news) olds_more news_more h k = (h.0, were_fed_both bytes olds news olds_more news_more h.1 k)

were_fed_reverse : (bytes : List ℕ) (olds news : List CodeSeal) → WereFed bytes olds news → WereFed bytes (reverse olds) (reverse news)
were_fed_reverse bytes [] [] h = tt
were_fed_reverse bytes [] (new ∷ news) h = absurd h
were_fed_reverse bytes (old ∷ olds) [] h = absurd h
were_fed_reverse bytes (old ∷ olds) (new ∷ news) h =
    let P : List CodeSeal → List CodeSeal → Type 0 = λ xs ys. WereFed bytes xs ys in
    subst (λ (ys : List CodeSeal). P (reverse (old ∷ olds)) ys) (sym (reverse-append (new ∷ []) news))
    (subst (λ (xs : List CodeSeal). P xs (reverse news ++ new ∷ [])) (sym (reverse-append (old ∷ []) olds))
    (were_fed_both bytes (reverse olds) (reverse news) (old ∷ []) (new ∷ []) (were_fed_reverse bytes olds news h.1) (h.0, tt)))

fed_next : (bytes : List ℕ) (initial now : List CodeSeal) (i : ℕ) (default new : CodeSeal) → i < length now → WasFed bytes (get_or now i default) new → WereFed bytes (take i initial) (take i now) → drop i now ≡ drop i initial → WereFed bytes (take (suc i) initial) (take (suc i) (slice_set now i new)) × (drop (suc i) (slice_set now i new) ≡ drop (suc i) initial)
fed_next bytes initial [] i default new le fed were same = absurd (omega (arith, le))
fed_next bytes [] (n ∷ ns) zero default new le fed were same = absurd cc
fed_next bytes (o ∷ os) (n ∷ ns) zero default new le fed were same =
    let P : CodeSeal → Type 0 = λ x. WasFed bytes x new in
    let first : n ≡ o = cc in
    ((subst P first fed, tt), cc)
fed_next bytes [] (n ∷ ns) (suc i) default new le fed were same = absurd were
fed_next bytes (o ∷ os) (n ∷ ns) (suc i) default new le fed were same =
    let rest = fed_next bytes os ns i default new (omega (arith, le)) fed were.1 same in
    ((were.0, rest.0), rest.1)

-- those before an index were fed, and the others are as they were
pub record Feeding (bytes : List ℕ) (index : ℕ) (olds now : List CodeSeal) : Type 0 where
  pub length_is : length now ≡ length olds
  pub were : WereFed bytes (take index olds) (take index now)
  pub same : drop index now ≡ drop index olds

pub feeding_start : (bytes : List ℕ) (olds : List CodeSeal) → Feeding bytes 0 olds olds
feeding_start bytes olds = record { length_is = refl; were = tt; same = refl }

pub feeding_next : (bytes : List ℕ) (index : ℕ) (olds now news : List CodeSeal) → index < length now → Feeding bytes index olds now → FedAt bytes index now news → Feeding bytes (index + 1) olds news
feeding_next bytes index olds now news le f at =
    let P : List CodeSeal → Type 0 = λ t. Feeding bytes (index + 1) olds t in
    let Q : ℕ → Type 0 = λ k. Feeding bytes k olds (slice_set now index at.new) in
    let more = fed_next bytes olds now index at.new at.new le at.was f.were f.same in
    let e : suc index ≡ index + 1 = omega arith in
    subst P (sym at.is) (subst Q e (record { length_is = length-set now index at.new ∙ f.length_is; were = more.0; same = more.1 }))

pub feeding_end : (bytes : List ℕ) (index : ℕ) (olds now : List CodeSeal) → length olds ≤ index → Feeding bytes index olds now → WereFed bytes olds now
feeding_end bytes index olds now le f =
    let P : List CodeSeal → List CodeSeal → Type 0 = λ xs ys. WereFed bytes xs ys in
    subst (λ (xs : List CodeSeal). P xs now) (take_all index olds le)
    (subst (λ (ys : List CodeSeal). P (take index olds) ys) (take_all index now (omega (arith, le, f.length_is))) f.were)

open_fed : (basis : Basis) (bytes : List ℕ) (olds news : List CodeSeal) (states : List OpenSeal) → WereFed bytes olds news → AreOpen basis olds states → AreOpen basis news (fed_all bytes states)
open_fed basis bytes [] [] [] h o = tt
open_fed basis bytes [] [] (one ∷ states) h o = absurd o
open_fed basis bytes [] (new ∷ news) states h o = absurd h
open_fed basis bytes (old ∷ olds) [] states h o = absurd h
open_fed basis bytes (old ∷ olds) (new ∷ news) [] h o = absurd o
open_fed basis bytes (old ∷ olds) (new ∷ news) (one ∷ states) h o = (
  record {
    depth = h.0.depth ∙ o.0.depth;
    index = h.0.index ∙ o.0.index;
    event = h.0.event ∙ o.0.event;
    bytes = h.0.same ∙ o.0.bytes;
    digests = h.0.fed (sealing (key_at basis.keys one.place) one.place basis.nonce one.event) one.fed o.0.digests;
  },
  open_fed basis bytes olds news states h.1 o.1,
)

pub fed_open : (basis : Basis) (bytes : List ℕ) (olds news : List CodeSeal) (states : List OpenSeal) → WereFed bytes olds news → AreOpen basis (reverse olds) states → AreOpen basis (reverse news) (fed_all bytes states)
fed_open basis bytes olds news states h o = open_fed basis bytes (reverse olds) (reverse news) states (were_fed_reverse bytes olds news h) o

-- ---- seals that end

-- the innermost ends
pub closes_first : (basis : Basis) (depth : ℕ) (code : CodeSeal) (codes : List CodeSeal) (states : List OpenSeal) (found : List Verdict) (judged : Verdict) → nat_eq code.depth depth ≡ true → ((one : OpenSeal) → IsOpen basis code one → judged ≡ verdict_of basis one) → AreOpen basis (code ∷ codes) states → (left : List OpenSeal) × AreOpen basis codes left × (closed basis depth states found ≡ closed basis depth left (slice_set found code.index judged))
closes_first basis depth code codes [] found judged e j o = absurd o
closes_first basis depth code codes (one ∷ states) found judged e j o = (
  states,
  o.1,
  ap (λ (b : Bool). if b then closed basis depth states (slice_set found one.index (verdict_of basis one)) else record { seals = one ∷ states; found = found }) (ap (λ (d : ℕ). nat_eq d depth) (sym o.0.depth) ∙ e)
      ∙ ap (λ (index : ℕ). closed basis depth states (slice_set found index (verdict_of basis one))) (sym o.0.index)
      ∙ ap (λ (v : Verdict). closed basis depth states (slice_set found code.index v)) (sym (j one o.0)),
)

-- none ends any more
pub closes_none : (basis : Basis) (depth : ℕ) (codes : List CodeSeal) (states : List OpenSeal) (found : List Verdict) → ends_at depth codes ≡ false → AreOpen basis codes states → closed basis depth states found ≡ record { seals = states; found = found }
closes_none basis depth [] [] found e o = refl
closes_none basis depth [] (one ∷ states) found e o = absurd o
closes_none basis depth (code ∷ codes) [] found e o = absurd o
closes_none basis depth (code ∷ codes) (one ∷ states) found e o =
    ap (λ (b : Bool). if b then closed basis depth states (slice_set found one.index (verdict_of basis one)) else record { seals = one ∷ states; found = found }) (ap (λ (d : ℕ). nat_eq d depth) (sym o.0.depth) ∙ e)

-- so far these are left, and what they come to is what all come to
pub record Closing (depth : ℕ) (old : List CodeSeal) (old_found : List Verdict) (now : List CodeSeal) (now_found : List Verdict) : Type 0 where
  pub comes : (basis : Basis) (states : List OpenSeal) → AreOpen basis old states → (left : List OpenSeal) × AreOpen basis now left × (closed basis depth states old_found ≡ closed basis depth left now_found)

pub closing_start : (depth : ℕ) (old : List CodeSeal) (found : List Verdict) → Closing depth old found old found
closing_start depth old found = record { comes = λ basis states o. (states, o, refl) }

pub closing_next : (depth : ℕ) (old : List CodeSeal) (old_found : List Verdict) (code : CodeSeal) (codes now : List CodeSeal) (found : List Verdict) (judged : Verdict) → Closing depth old old_found now found → now ≡ code ∷ codes → nat_eq code.depth depth ≡ true → ((basis : Basis) (one : OpenSeal) → IsOpen basis code one → judged ≡ verdict_of basis one) → Closing depth old old_found codes (slice_set found code.index judged)
closing_next depth old old_found code codes now found judged c e d j = record {
  comes = λ basis states o.
      let so_far = c.comes basis states o in
      let P : List CodeSeal → Type 0 = λ t. AreOpen basis t so_far.0 in
      let more = closes_first basis depth code codes so_far.0 found judged d (j basis) (subst P e so_far.1) in
      (more.0, more.1, so_far.2 ∙ more.2);
}

pub closing_end : (depth : ℕ) (old : List CodeSeal) (old_found : List Verdict) (now : List CodeSeal) (found : List Verdict) → Closing depth old old_found now found → ends_at depth now ≡ false → Closes depth old old_found now found
closing_end depth old old_found now found c e = record {
  seals = λ basis states o.
      let so_far = c.comes basis states o in
      let P : List OpenSeal → Type 0 = λ t. AreOpen basis now t in
      subst P (sym (ap (λ (made : Closed). made.seals) (so_far.2 ∙ closes_none basis depth now so_far.0 found e so_far.1))) so_far.1;
  found = λ basis states o.
      let so_far = c.comes basis states o in
      sym (ap (λ (made : Closed). made.found) (so_far.2 ∙ closes_none basis depth now so_far.0 found e so_far.1));
}
