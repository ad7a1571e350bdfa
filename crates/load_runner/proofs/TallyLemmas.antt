-- What is counted grows by one session after the other.
use Rattle.std.proofs.Common.{◌≡◌, ◌≤◌, ◌+◌, ◌∙◌, ℕ, Bool, true, false, List, [], ◌∷◌, ◌++◌, length, append-nil, append_assoc, ap, arith, refl, sym, subst}
use Rattle.sha2.specs.Hashers.{Holds256}
use Rattle.sha2.specs.Sha256.{sha256}
use Rattle.phrase_tree.specs.Numbering.{event_count}
use Rattle.bench_trait.specs.declared.ask.Ask.{Ask}
use Rattle.bench_trait.specs.declared.bench.BenchFault.{BenchFault}
use Rattle.place_check.specs.Places.{keys_of}
use Rattle.session_model.specs.Record.{Record}
use Rattle.session_model.specs.Session.{Session}
use Rattle.job_reader.specs.Finding.{JobView}
use Rattle.load_runner.specs.Figures.{accepted_count, bundle_in, bundles_in, done_count, event_sum, is_accepted, is_done, one_if}
use Rattle.load_runner.specs.Run.{AreRunRecords, IsRunOf, IsRunRecord}
use Rattle.load_runner.specs.declared.figures.Figures.{Figures}
use Rattle.load_runner.specs.Tally.{Counts, IsTallied}
use Rattle.load_runner.specs.declared.tally.Tally.{Tally}

events_more : (sessions : List Session) (last : Session) → event_sum (sessions ++ last ∷ []) ≡ event_sum sessions + event_count last.phrase
events_more [] last = omega arith
events_more (session ∷ sessions) last = omega (arith, events_more sessions last)

done_more : (records : List Record) (last : Record) → done_count (records ++ last ∷ []) ≡ done_count records + one_if (is_done last)
done_more [] last = omega arith
done_more (found ∷ records) last = omega (arith, done_more records last)

bundles_more : (records : List Record) (last : Record) → bundles_in (records ++ last ∷ []) ≡ bundles_in records ++ bundle_in last
bundles_more [] last = append-nil (bundle_in last)
bundles_more (found ∷ records) last =
    ap (λ (rest : List ℕ). bundle_in found ++ rest) (bundles_more records last)
    ∙ sym (append_assoc (bundle_in found) (bundles_in records) (bundle_in last))

run_more : (Gives : Ask → List ℕ → Type 0) (Fails : Ask → BenchFault → Type 0) (keys : List (List ℕ × List ℕ)) (sessions : List Session) (records : List Record) (session : Session) (last : Record) → AreRunRecords Gives Fails keys sessions records → IsRunRecord Gives Fails keys session last → AreRunRecords Gives Fails keys (sessions ++ session ∷ []) (records ++ last ∷ [])
run_more Gives Fails keys [] [] session last h k = (k, tt)
run_more Gives Fails keys [] (found ∷ records) session last h k = absurd h
run_more Gives Fails keys (one ∷ sessions) [] session last h k = absurd h
run_more Gives Fails keys (one ∷ sessions) (found ∷ records) session last h k = (h.0, run_more Gives Fails keys sessions records session last h.1 k)

accepted_more : (Gives : Ask → List ℕ → Type 0) (Fails : Ask → BenchFault → Type 0) (keys : List (List ℕ × List ℕ)) (job : JobView) (sessions : List Session) (records : List Record) (session : Session) (last : Record) → AreRunRecords Gives Fails keys sessions records → accepted_count job (sessions ++ session ∷ []) (records ++ last ∷ []) ≡ accepted_count job sessions records + one_if (is_accepted job session last)
accepted_more Gives Fails keys job [] [] session last h = omega arith
accepted_more Gives Fails keys job [] (found ∷ records) session last h = absurd h
accepted_more Gives Fails keys job (one ∷ sessions) [] session last h = absurd h
accepted_more Gives Fails keys job (one ∷ sessions) (found ∷ records) session last h =
    omega (arith, accepted_more Gives Fails keys job sessions records session last h.1)

pub tallied_more : (Gives : Ask → List ℕ → Type 0) (Fails : Ask → BenchFault → Type 0) (job : JobView) (sessions : List Session) (session : Session) (before after : Tally) → IsTallied Gives Fails job sessions before → Counts Gives Fails job session before after → IsTallied Gives Fails job (sessions ++ session ∷ []) after
tallied_more Gives Fails job sessions session before after h k = record {
  records = h.records ++ k.found ∷ [];
  each = run_more Gives Fails (keys_of job.places) sessions h.records session k.found h.each k.is;
  events = omega (arith, k.events, h.events, events_more sessions session);
  done = omega (arith, k.done, h.done, done_more h.records k.found);
  accepted = omega (arith, k.accepted, h.accepted, accepted_more Gives Fails (keys_of job.places) job sessions h.records session k.found h.each);
  fed = subst (λ (bytes : List ℕ). Holds256 after.hasher bytes) (sym (bundles_more h.records k.found)) (k.fed (bundles_in h.records) h.fed);
}

pub none_tallied : (Gives : Ask → List ℕ → Type 0) (Fails : Ask → BenchFault → Type 0) (job : JobView) (tally : Tally) → tally.events ≡ 0 → tally.done ≡ 0 → tally.accepted ≡ 0 → Holds256 tally.hasher [] → IsTallied Gives Fails job [] tally
none_tallied Gives Fails job tally events done accepted fed = record {
  records = [];
  each = tt;
  events = events;
  done = done;
  accepted = accepted;
  fed = fed;
}

pub at_most_one : (so : Bool) → one_if so ≤ 1
at_most_one true = omega arith
at_most_one false = omega arith

abbrev figures_with : ℕ → ℕ → ℕ → ℕ → List ℕ → Figures
figures_with sessions events done accepted digest = record { sessions = sessions; events = events; done = done; accepted = accepted; digest = digest }

figures_same : (s t e f d p a b : ℕ) (x y : List ℕ) → s ≡ t → e ≡ f → d ≡ p → a ≡ b → x ≡ y → figures_with s e d a x ≡ figures_with t f p b y
figures_same s t e f d p a b x y sessions events done accepted digest = rw (sessions, events, done, accepted, digest) refl

-- what is counted of all sessions
pub figures_are : (Gives : Ask → List ℕ → Type 0) (Fails : Ask → BenchFault → Type 0) (job : JobView) (tally : Tally) (figures : Figures) (count : ℕ) (h : IsTallied Gives Fails job job.sessions tally) → figures ≡ record { sessions = count; events = tally.events; done = tally.done; accepted = tally.accepted; digest = sha256 (bundles_in h.records) } → count ≡ length job.sessions → IsRunOf Gives Fails job figures
figures_are Gives Fails job tally figures count h is counted = record {
  records = h.records;
  each = h.each;
  counted = is ∙ figures_same count (length job.sessions) tally.events (event_sum job.sessions) tally.done (done_count h.records) tally.accepted (accepted_count job job.sessions h.records) (sha256 (bundles_in h.records)) (sha256 (bundles_in h.records)) counted h.events h.done h.accepted refl;
}
