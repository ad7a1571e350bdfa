-- Which deliveries, results and moves the machines can take.
use Rattle.std.proofs.Common.{◌≡◌, ℕ, List, [], ◌∷◌, refl, sym, ◌∙◌, ap}
use Rattle.std.specs.Prelude.{Bool, true, false, Option, None, Some, nat_eq, ◌||◌, if◌then◌else◌, Contains, ◌↔◌}
use Rattle.std.proofs.lemmas.Bool.{eqb-true, eq-eqb}
use Rattle.evidence_types.specs.Evidence.{Evidence}
use Rattle.bench_trait.specs.declared.bench.BenchFault.{BenchFault}
use Rattle.session_model.specs.Session.{Session}
use Rattle.session_model.specs.Value.{Makings}
use Rattle.avm_code.specs.declared.instr.Instr.{Instr}
use Rattle.avm_code.specs.declared.program.Block.{Block as CodeBlock}
use Rattle.avm_compile.specs.Program.{program_of}
use Rattle.machine_tables.specs.Row.{Local}
use Rattle.machine_tables.specs.Tables.{BlockState, not_started, running, over, Tables, deliver_first, by_asker, answer_at, answer_in, stop_tables, enter_tables, tables_while, step_tables}
use Rattle.session_runs.specs.Standing.{Block, Move, deliver, Entry, played, answered, failed, starved, is_open, has_failed, has_starved, Standing, is_in_flight, makings}
use Rattle.session_runs.specs.MoveOrder.{possible_moves}
use Rattle.session_runs.specs.Progress.{CanMake, IsAtOneOf}
use Rattle.session_runs.proofs.ListingLaws.{history_lists}
use Rattle.session_tables.specs.NextFits.{FirstMeasures, IsAsking}
use Rattle.session_tables.specs.Shown.{pass_of}
use Rattle.session_tables.specs.Touched.{any_waits}
use Rattle.session_tables.specs.Played.{IsPlayed, CanTake}
use Rattle.session_tables.specs.Takes.{IsAskedBy, stopped_at}
use Rattle.session_tables.proofs.Lists.{is_pass, flies_by}
use Rattle.session_tables.proofs.LightBlocks.{asking_shown}
use Rattle.session_tables.proofs.Playing.{entry_taken}

module _ (all : List CodeBlock) (from : Makings) (t : Tables) (still : t.state ≡ is_open) where
  stepped : (entry : Entry) → step_tables all from t entry ≡ enter_tables all from t entry
  stepped entry = ap (λ x. tables_while x (enter_tables all from t entry)) still

  pub delivery_taken : (pass : ℕ) (place : List ℕ) → CanTake all from t (played pass (deliver place)) ↔ (any_waits (t.requests place) ≡ true)
  delivery_taken pass place =
      (λ can. waits (t.requests place) can.later (sym (stepped (played pass (deliver place))) ∙ can.taken), λ e. takes (t.requests place) refl e)
    where
      waits : (requests : List (ℕ × Evidence)) (later : Tables) → deliver_first all place t requests ≡ Some later → any_waits requests ≡ true
      waits [] later e = absurd (cc)
      waits (request ∷ rest) later e = refl

      takes : (requests : List (ℕ × Evidence)) → t.requests place ≡ requests → any_waits requests ≡ true → CanTake all from t (played pass (deliver place))
      takes [] is e = absurd (cc)
      takes (request ∷ rest) is e = record {
        later = _;
        taken = stepped (played pass (deliver place)) ∙ ap (λ xs. deliver_first all place t xs) is;
      }

  -- results are taken of the pass that asked
  asker_is : (pass : ℕ) (asked : Option (ℕ × Block)) (follows : Block → Option Tables) (later : Tables) → by_asker pass asked follows ≡ Some later → IsAskedBy pass asked
  asker_is pass None follows later e = absurd (cc)
  asker_is pass (Some asked) follows later e = by_test (nat_eq asked.0 pass) refl e
    where
      by_test : (b : Bool) → nat_eq asked.0 pass ≡ b → (if b then follows asked.1 else None) ≡ Some later → IsAskedBy pass (Some asked)
      by_test true same h = record { name = asked.1; there = ap (λ n. asked_by n) (eqb-true asked.0 pass same) }
        where
          asked_by : ℕ → Option (ℕ × Block)
          asked_by n = Some (n, asked.1)
      by_test false same h = absurd (cc)

  follows_asker : (pass : ℕ) (asked : Option (ℕ × Block)) (follows : Block → Option Tables) (by : IsAskedBy pass asked) → by_asker pass asked follows ≡ follows by.name
  follows_asker pass asked follows by =
      ap (λ x. by_asker pass x follows) by.there ∙ ap (λ b. if b then follows by.name else None) (eq-eqb pass pass refl)

  pub fault_stops : (pass event : ℕ) (fault : BenchFault) → IsAskedBy pass (t.in_flight event) → step_tables all from t (failed pass event fault) ≡ Some (stopped_at event (has_failed event fault) t)
  fault_stops pass event fault by =
      stepped (failed pass event fault) ∙ follows_asker pass (t.in_flight event) (λ name. stop_tables event (has_failed event fault) t) by

  pub fault_taken : (pass event : ℕ) (fault : BenchFault) → CanTake all from t (failed pass event fault) ↔ IsAskedBy pass (t.in_flight event)
  fault_taken pass event fault = (
    λ can. asker_is pass (t.in_flight event) (λ name. stop_tables event (has_failed event fault) t) can.later (sym (stepped (failed pass event fault)) ∙ can.taken),
    λ by. record { later = stopped_at event (has_failed event fault) t; taken = fault_stops pass event fault by },
  )

  pub want_stops : (pass event : ℕ) → IsAskedBy pass (t.in_flight event) → step_tables all from t (starved pass event) ≡ Some (stopped_at event (has_starved event) t)
  want_stops pass event by =
      stepped (starved pass event) ∙ follows_asker pass (t.in_flight event) (λ name. stop_tables event (has_starved event) t) by

  pub want_taken : (pass event : ℕ) → CanTake all from t (starved pass event) ↔ IsAskedBy pass (t.in_flight event)
  want_taken pass event = (
    λ can. asker_is pass (t.in_flight event) (λ name. stop_tables event (has_starved event) t) can.later (sym (stepped (starved pass event)) ∙ can.taken),
    λ by. record { later = stopped_at event (has_starved event) t; taken = want_stops pass event by },
  )

  answer_taken_from : (pass event : ℕ) (bytes : List ℕ) → CanTake all from t (answered pass event bytes) → IsAskedBy pass (t.in_flight event)
  answer_taken_from pass event bytes can =
      asker_is pass (t.in_flight event) (λ name. answer_in event bytes name t (t.blocks name)) can.later (sym (stepped (answered pass event bytes)) ∙ can.taken)

  answer_taken_by : (pass event : ℕ) (bytes : List ℕ) (by : IsAskedBy pass (t.in_flight event)) → IsAsking event (t.blocks by.name) → CanTake all from t (answered pass event bytes)
  answer_taken_by pass event bytes by asking = by_state (t.blocks by.name) refl asking
    where
      by_code : (flag : Bool) (l : Local) → t.blocks by.name ≡ running flag l → (code : List Instr) → l.rest ≡ code → FirstMeasures event code → CanTake all from t (answered pass event bytes)
      by_code flag l is [] rest h = absurd h
      by_code flag l is (instr ∷ more) rest h = record {
        later = _;
        taken = stepped (answered pass event bytes) ∙ follows_asker pass (t.in_flight event) (λ name. answer_in event bytes name t (t.blocks name)) by ∙ ap (λ x. answer_in event bytes by.name t x) is ∙ ap (λ xs. answer_at event bytes by.name flag l t xs) rest;
      }

      by_state : (state : BlockState) → t.blocks by.name ≡ state → IsAsking event state → CanTake all from t (answered pass event bytes)
      by_state not_started is h = absurd h
      by_state (running flag l) is h = by_code flag l is l.rest refl h
      by_state (over result) is h = absurd h

module _ (session : Session) (keys : List (List ℕ × List ℕ)) (history : List Entry) (s : Standing) (t : Tables) (p : IsPlayed session keys history s t) where
  pub answer_taken : (pass event : ℕ) (bytes : List ℕ) → s.state ≡ is_open → CanTake (program_of session.phrase session.root) (makings session keys) t (answered pass event bytes) ↔ IsAskedBy pass (t.in_flight event)
  answer_taken pass event bytes still = (
    answer_taken_from (program_of session.phrase session.root) (makings session keys) t (p.shown.state ∙ still) pass event bytes,
    λ by. answer_taken_by (program_of session.phrase session.root) (makings session keys) t (p.shown.state ∙ still) pass event bytes by (asking_shown session keys history s t event pass by.name p.stands still p.shown by.there),
  )

  pub asks_fly : (pass event : ℕ) → (is_in_flight s.in_flight pass event ≡ true) ↔ IsAskedBy pass (t.in_flight event)
  asks_fly pass event = (
    λ e. from_pass (t.in_flight event) (sym same ∙ e),
    λ by. same ∙ ap (λ x. is_pass pass (pass_of x)) by.there ∙ ap (λ b. b || false) (eq-eqb pass pass refl),
  )
    where
      same : is_in_flight s.in_flight pass event ≡ is_pass pass (pass_of (t.in_flight event))
      same = flies_by s.in_flight pass event ∙ ap (λ xs. is_pass pass xs) (sym (p.shown.in_flight event))

      from_pass : (asked : Option (ℕ × Block)) → is_pass pass (pass_of asked) ≡ true → IsAskedBy pass asked
      from_pass None e = absurd (cc)
      from_pass (Some asked) e = by_test (nat_eq asked.0 pass) refl e
        where
          asked_by : ℕ → Option (ℕ × Block)
          asked_by n = Some (n, asked.1)

          by_test : (b : Bool) → nat_eq asked.0 pass ≡ b → (b || false) ≡ true → IsAskedBy pass (Some asked)
          by_test true is h = record { name = asked.1; there = ap asked_by (eqb-true asked.0 pass is) }
          by_test false is h = absurd (cc)

  pub moves_taken : (places : List (List ℕ)) (pass : ℕ) (move : Move) → Contains (possible_moves places s) move ↔ (CanTake (program_of session.phrase session.root) (makings session keys) t (played pass move) × IsAtOneOf places move)
  moves_taken places pass move =
      let listed : Contains (possible_moves places s) move ↔ (CanMake session keys s pass move × IsAtOneOf places move) = history_lists session keys places history s pass move p.stands in
      let taken : CanMake session keys s pass move ↔ CanTake (program_of session.phrase session.root) (makings session keys) t (played pass move) = entry_taken session keys history s t (played pass move) p in
      (λ h. (taken.0 (listed.0 h).0, (listed.0 h).1), λ h. listed.1 (taken.1 h.0, h.1))
