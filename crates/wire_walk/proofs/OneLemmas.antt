-- What is told of one session that was walked over links.
use Rattle.std.proofs.Common.{◌≡◌, ℕ, List, [], sym, ◌∙◌, ap, subst}
use Rattle.std.specs.Prelude.{Option, Some, map, length}
use Rattle.phrase_tree.specs.Numbering.{event_count}
use Rattle.bench_trait.specs.declared.artefacts.Artefact.{Artefact}
use Rattle.bench_trait.specs.declared.ask.Ask.{Ask}
use Rattle.bench_trait.specs.declared.bench.BenchFault.{BenchFault}
use Rattle.session_model.specs.Session.{Session}
use Rattle.session_model.specs.Record.{Record}
use Rattle.session_model.specs.RightRecord.{IsRightRecord}
use Rattle.session_model.specs.Recorded.{recorded}
use Rattle.session_runs.specs.Standing.{Entry, Standing}
use Rattle.session_runs.specs.History.{IsLegal, record_of}
use Rattle.place_check.specs.declared.entry.PlaceEntry.{PlaceEntry}
use Rattle.place_check.specs.Places.{keys_of}
use Rattle.place_check.specs.Session.{CheckedSession, session_of}
use Rattle.checked_sessions.specs.Named.{place_names}
use Rattle.session_core.specs.declared.opened.Opened.{Opened}
use Rattle.session_core.specs.Session.{Seen, session_in, keys_in, places_in, history, IsJustOpened}
use Rattle.session_walk.specs.Records.{record_in}
use Rattle.session_walk.specs.Sessions.{standing_or, walked_in}
use Rattle.session_walk.proofs.JobLemmas.{opened_is}
use Rattle.wire_manager.specs.Wire.{Wire}
use Rattle.wire_manager.specs.WireSchedule.{linked_opened, turns_at_most}
use Rattle.wire_walk.specs.declared.flight.Flight.{Flight}
use Rattle.wire_walk.specs.declared.walk.Told.{Told}
use Rattle.wire_walk.specs.UnderWay.{sent_at, linked_in, turn_of, IsWalked, TakesTurns}
use Rattle.wire_walk.specs.Told.{IsWalkOfOne}
use Rattle.wire_walk.proofs.FlightLemmas.{linked_is}
use Rattle.wire_walk.proofs.JobLemmas.{fed_so, takes_as}

-- a session over links that was just opened is seen like this
pub opened_so : {B : Type 0} (artefacts : List Artefact) (bench : B) (places : List PlaceEntry) (one : CheckedSession) (seen : Seen (Opened B)) (wire : Wire (Opened B)) (flight : Flight) → IsJustOpened one places artefacts bench seen → wire ≡ record { seen = seen; messages = []; sent = [] } → flight.frames.items ≡ [] → flight.lost ≡ 0 → flight.stayed ≡ 0 → linked_in wire flight ≡ linked_opened (session_of one)
opened_so artefacts bench places one seen wire flight just is none lost stayed =
    linked_is (linked_in wire flight) (linked_opened (session_of one))
    (ap (λ w. walked_in w.seen) is ∙ opened_is places artefacts bench one seen just)
    (ap (λ w. w.messages) is) (ap (λ w. length w.sent) is) (ap (λ xs. map (sent_at wire.sent) xs) none) lost stayed

module _ {B : Type 0} (gives : B → List Artefact → Ask → List ℕ → Type 0) (fails : B → List Artefact → Ask → BenchFault → Type 0) (starves : B → List Artefact → Ask → Type 0) (artefacts : List Artefact) (bench : B) (places : List PlaceEntry) (one : CheckedSession) (seen : Seen (Opened B)) (just : IsJustOpened one places artefacts bench seen) where
  abbrev LegalOver : CheckedSession → List PlaceEntry → List Artefact → B → List Entry → Standing → Type 0
  LegalOver checked those book measurer entries standing =
      IsLegal (gives measurer book) (fails measurer book) (starves measurer book) (session_of checked) (keys_of those) entries standing

  legal_so : (then_seen : Seen (Opened B)) → then_seen.opening ≡ seen.opening → (standing : Standing) × IsLegal (gives then_seen.opening.bench.now then_seen.opening.artefacts.now) (fails then_seen.opening.bench.now then_seen.opening.artefacts.now) (starves then_seen.opening.bench.now then_seen.opening.artefacts.now) (session_in then_seen.opening) (keys_in then_seen.opening) (history then_seen) standing → LegalOver one places artefacts bench (history then_seen) (walked_in then_seen).standing
  legal_so then_seen same legal =
      let o = then_seen.opening in
      let h = history then_seen in
      let st = (walked_in then_seen).standing in
      let own : LegalOver o.checked.now o.places.now o.artefacts.now o.bench.now h st = subst (λ s. LegalOver o.checked.now o.places.now o.artefacts.now o.bench.now h s) (sym (ap (λ x. standing_or (session_in o) x) legal.1.stands)) legal.1 in
      subst (λ x. LegalOver one places artefacts x h st) (ap (λ y. y.bench.now) same ∙ just.of_bench)
      (subst (λ x. LegalOver one places x o.bench.now h st) (ap (λ y. y.artefacts.now) same ∙ just.of_artefacts)
      (subst (λ x. LegalOver one x o.artefacts.now o.bench.now h st) (ap (λ y. y.places.now) same ∙ just.of_places)
      (subst (λ x. LegalOver x o.places.now o.artefacts.now o.bench.now h st) (ap (λ y. y.checked.now) same ∙ just.of_checked) own)))

  abbrev pub RecordsRight : Type 0
  RecordsRight = (session : Session) (keys : List (List ℕ × List ℕ)) (entries : List Entry) (standing : Standing) (found : Record) → IsLegal (gives bench artefacts) (fails bench artefacts) (starves bench artefacts) session keys entries standing → record_of session standing standing.state ≡ Some found → IsRightRecord (gives bench artefacts) (fails bench artefacts) session keys found

  pub told_so : RecordsRight → (wire then_wire : Wire (Opened B)) (flight then_flight : Flight) (most : ℕ) (from later : Option ℕ) (told : Told) → wire ≡ record { seen = seen; messages = []; sent = [] } → flight.frames.items ≡ [] → flight.lost ≡ 0 → flight.stayed ≡ 0 → then_wire.seen.opening ≡ wire.seen.opening → most ≡ turns_at_most (event_count (session_of one).phrase) → TakesTurns (places_in wire.seen.opening) (keys_in wire.seen.opening) most (turn_of wire flight from) (turn_of then_wire then_flight later) → IsWalked then_wire then_flight → (standing : Standing) × IsLegal (gives then_wire.seen.opening.bench.now then_wire.seen.opening.artefacts.now) (fails then_wire.seen.opening.bench.now then_wire.seen.opening.artefacts.now) (starves then_wire.seen.opening.bench.now then_wire.seen.opening.artefacts.now) (session_in then_wire.seen.opening) (keys_in then_wire.seen.opening) (history then_wire.seen) standing → record_in (walked_in then_wire.seen) ≡ Some (recorded told.record) → told.sent ≡ length then_wire.sent → told.lost ≡ then_flight.lost → told.repeated ≡ then_flight.stayed → IsWalkOfOne (gives bench artefacts) (fails bench artefacts) (starves bench artefacts) (place_names places) (keys_of places) (session_of one) from later told
  told_so right wire then_wire flight then_flight most from later told is none no_lost no_stayed same most_is turns walked legal found sent lost stayed =
      let opening : wire.seen.opening ≡ seen.opening = ap (λ w. w.seen.opening) is in
      let now_legal = legal_so then_wire.seen (same ∙ opening) legal in
      record {
        linked = linked_in then_wire then_flight;
        takes =
            takes_as (places_in wire.seen.opening) (place_names places) (keys_in wire.seen.opening) (keys_of places) most (turns_at_most (event_count (session_of one).phrase)) (turn_of wire flight from) (record { linked = linked_opened (session_of one); from = from }) (turn_of then_wire then_flight later)
            (ap place_names (ap (λ o. o.places.now) opening ∙ just.of_places)) (ap keys_of (ap (λ o. o.places.now) opening ∙ just.of_places)) most_is
            (λ i. record { linked = (opened_so artefacts bench places one seen wire flight just is none no_lost no_stayed) i; from = from }) turns;
        by_zero = walked.by_zero;
        fed = fed_so (walked_in then_wire.seen) (recorded told.record) found;
        tells = record {
          legal = now_legal;
          record_is = found;
          right =
              right (session_of one) (keys_of places) (history then_wire.seen) (walked_in then_wire.seen).standing (recorded told.record) now_legal
              (subst (λ s. record_of s (walked_in then_wire.seen).standing (walked_in then_wire.seen).standing.state ≡ Some (recorded told.record)) (ap (λ o. session_of o.checked.now) (same ∙ opening) ∙ ap session_of just.of_checked) found);
          sent = sent;
          lost = lost;
          repeated = stayed;
        };
      }
