-- Over a bench whose records are one, reports on one job are one.
use Rattle.std.proofs.Common.{◌≡◌, ◌∙◌, ap, refl, sym, subst, ℕ, Bool, List, [], ◌∷◌}
use Rattle.std.specs.List.{AllZip}
use Rattle.phrase_tree.specs.Term.{Term}
use Rattle.place_check.specs.Places.{keys_of}
use Rattle.session_model.specs.Record.{Record, IsRisingRecord}
use Rattle.session_model.specs.Session.{Session}
use Rattle.job_reader.specs.Finding.{JobView, accepted}
use Rattle.report_text.specs.Records.{records_text, values_text}
use Rattle.checked_sessions.specs.Named.{place_names}
use Rattle.session_walk.specs.Records.{AreOfWalk}
use Rattle.order_policy.specs.declared.claim.Claim.{Claim}
use Rattle.order_policy.specs.declared.judgement.Judgement.{Judgement}
use Rattle.order_policy.specs.Judged.{IsJudged}
use Rattle.order_policy.specs.Policy.{SpellsPolicy}
use Rattle.report_text.specs.Sessions.{numbered}
use Rattle.std.specs.Prelude.{Option, map}
use Rattle.transcript.specs.Recording.{AreOfRecordedWalk}
use Rattle.transcript.specs.declared.recording.RecordedSession.{RecordedSession}
use Rattle.report_text.specs.Transcripts.{transcript_in, transcripts_text}
use Rattle.copland_cli.specs.Recordings.{one_failed}
use Rattle.release_policy.specs.declared.denied.Denial.{Denial}
use Rattle.release_policy.specs.declared.rule.Rule.{Rule}
use Rattle.release_policy.specs.Choices.{Chooses}
use Rattle.release_policy.specs.PolicyText.{IsPolicyText}
use Rattle.copland_cli.specs.Chosen.{IsOfChoice, choice_text, ending_of_choice}
use Rattle.load_runner.specs.Figures.{figures_of, has_accepted_all}
use Rattle.load_runner.specs.Run.{AreRunRecords}
use Rattle.load_runner.specs.Text.{load_text}
use Rattle.load_runner.specs.declared.figures.Figures.{Figures}
use Rattle.copland_cli.specs.Loaded.{ending_of_load}
use Rattle.copland_cli.specs.Ordered.{AreJudged, IsOfClaims, SaysOfClaims, ending_of_claims, found_text, some_broken}
use Rattle.copland_cli.specs.Commands.{IsPlain}
use Rattle.copland_cli.specs.Meaning.{IsOfLoadIn, IsOfRecordingIn, IsOfRecordsIn, IsOfWalkIn, IsReport}
use Rattle.copland_cli.specs.Reported.{AreRecords, Failing, Giving, Starving, SaysOfEach, aspect_text, ending_of, some_failed}
use Rattle.copland_cli.specs.declared.ending.Ending.{Ending}
use Rattle.copland_cli.specs.declared.session.Aspect.TheVariants as aspects
use Rattle.copland_cli.specs.Command.{Command, Check, Shape, Events, Code, Eval, Walk, Order, Choose, Attest, Appraise, Upgrade, Load, Audit, Record as Recording}
use Rattle.copland_cli.proofs.AuditLemmas.{same_audit}
use Rattle.copland_cli.proofs.AppraiseLemmas.{same_upgrade, same_verdicts}

-- a session has one rising record
abbrev pub HasOneRecord : Giving → Failing → Type 0
HasOneRecord Gives Fails =
    (job : JobView) (session : Session) (one other : Record) → IsRisingRecord (Gives job.artefacts) (Fails job.artefacts) session (keys_of job.places) one → IsRisingRecord (Gives job.artefacts) (Fails job.artefacts) session (keys_of job.places) other → one ≡ other

same_each : (text_of : ℕ → Session → List ℕ) (sessions : List Session) (text other : List ℕ) (ending ended : Ending) → SaysOfEach text_of sessions text ending → SaysOfEach text_of sessions other ended → (text ≡ other) × (ending ≡ ended)
same_each text_of sessions text other ending ended h k = (h.0 ∙ sym k.0, h.1 ∙ sym k.1)

same_records : (Gives : Giving) (Fails : Failing) (law : HasOneRecord Gives Fails) (job : JobView) (sessions : List Session) (one other : List Record) → AreRecords (Gives job.artefacts) (Fails job.artefacts) (keys_of job.places) sessions one → AreRecords (Gives job.artefacts) (Fails job.artefacts) (keys_of job.places) sessions other → one ≡ other
same_records Gives Fails law job [] [] [] h k = refl
same_records Gives Fails law job [] [] (again ∷ other) h k = absurd k
same_records Gives Fails law job [] (found ∷ one) other h k = absurd h
same_records Gives Fails law job (session ∷ sessions) [] other h k = absurd h
same_records Gives Fails law job (session ∷ sessions) (found ∷ one) [] h k = absurd k
same_records Gives Fails law job (session ∷ sessions) (found ∷ one) (again ∷ other) h k =
    let first = law job session found again h.0.rising k.0.rising in
    let rest = same_records Gives Fails law job sessions one other h.1 k.1 in cc

same_of_records : (Gives : Giving) (Fails : Failing) (law : HasOneRecord Gives Fails) (job : JobView) (text_of : List Record → List ℕ) (text other : List ℕ) (ending ended : Ending) → IsOfRecordsIn Gives Fails job text_of text ending → IsOfRecordsIn Gives Fails job text_of other ended → (text ≡ other) × (ending ≡ ended)
same_of_records Gives Fails law job text_of text other ending ended h k =
    let same = same_records Gives Fails law job job.sessions h.records k.records h.each k.each in
    (h.reported ∙ ap text_of same ∙ sym k.reported, h.ended ∙ ap (λ (r : List Record). ending_of (some_failed r)) same ∙ sym k.ended)

-- so has a walk of a number over the sessions of a job
abbrev pub HasOneWalk : Giving → Failing → Starving → Type 0
HasOneWalk Gives Fails Starves =
    (job : JobView) (number : ℕ) (one other : List Record) → AreOfWalk (Gives job.artefacts) (Fails job.artefacts) (Starves job.artefacts) (place_names job.places) (keys_of job.places) job.sessions number one → AreOfWalk (Gives job.artefacts) (Fails job.artefacts) (Starves job.artefacts) (place_names job.places) (keys_of job.places) job.sessions number other → one ≡ other

same_of_walks : (Gives : Giving) (Fails : Failing) (Starves : Starving) (walks : HasOneWalk Gives Fails Starves) (job : JobView) (number : ℕ) (text other : List ℕ) (ending ended : Ending) → IsOfWalkIn Gives Fails Starves job number text ending → IsOfWalkIn Gives Fails Starves job number other ended → (text ≡ other) × (ending ≡ ended)
same_of_walks Gives Fails Starves walks job number text other ending ended h k =
    let same = walks job number h.records k.records h.walked k.walked in
    (h.reported ∙ ap (λ (r : List Record). records_text r) same ∙ sym k.reported, h.ended ∙ ap (λ (r : List Record). ending_of (some_failed r)) same ∙ sym k.ended)

-- a text spells one list of claims, what is found of them in a phrase is one list, and a text is that of one
-- release policy
pub record AreOne : Type 0 where
  pub policy : (text : List ℕ) (one other : List Claim) → SpellsPolicy text one → SpellsPolicy text other → one ≡ other
  pub judged : (phrase : Term) (root : List ℕ) (claims : List Claim) (one other : List Judgement) → AllZip (IsJudged phrase root) claims one → AllZip (IsJudged phrase root) claims other → one ≡ other
  pub release : (text : List ℕ) (one other : List Rule) → IsPolicyText text one → IsPolicyText text other → one ≡ other

same_found : (laws : AreOne) (claims : List Claim) (sessions : List Session) (one other : List (List Judgement)) → AllZip (AreJudged claims) sessions one → AllZip (AreJudged claims) sessions other → one ≡ other
same_found laws claims [] [] [] h k = refl
same_found laws claims [] [] (again ∷ other) h k = absurd k
same_found laws claims [] (found ∷ one) other h k = absurd h
same_found laws claims (session ∷ sessions) [] other h k = absurd h
same_found laws claims (session ∷ sessions) (found ∷ one) [] h k = absurd k
same_found laws claims (session ∷ sessions) (found ∷ one) (again ∷ other) h k =
    let first : found ≡ again = laws.judged session.phrase session.root claims found again h.0 k.0 in
    let rest : one ≡ other = same_found laws claims sessions one other h.1 k.1 in cc

same_said : (laws : AreOne) (claims : List Claim) (sessions : List Session) (text other : List ℕ) (broken again : Bool) → SaysOfClaims claims sessions text broken → SaysOfClaims claims sessions other again → (text ≡ other) × (broken ≡ again)
same_said laws claims sessions text other broken again h k =
    let same = same_found laws claims sessions h.judgements k.judgements h.each k.each in
    (h.reported ∙ ap (λ (found : List (List Judgement)). numbered found_text 0 found) same ∙ sym k.reported, h.some ∙ ap (λ (found : List (List Judgement)). some_broken found) same ∙ sym k.some)

same_of_claims : (laws : AreOne) (spelled : List ℕ) (sessions : List Session) (text other : List ℕ) (ending ended : Ending) → IsOfClaims spelled sessions text ending → IsOfClaims spelled sessions other ended → (text ≡ other) × (ending ≡ ended)
same_of_claims laws spelled sessions text other ending ended h k =
    let one : k.claims ≡ h.claims = laws.policy spelled k.claims h.claims k.policy h.policy in
    let both = same_said laws h.claims sessions text other h.broken k.broken h.said (subst (λ (claims : List Claim). SaysOfClaims claims sessions other k.broken) one k.said) in
    (both.0, h.ended ∙ ap (λ (b : Bool). ending_of_claims b) both.1 ∙ sym k.ended)

same_of_choices : (laws : AreOne) (spelled : List ℕ) (sessions : List Session) (text other : List ℕ) (ending ended : Ending) → IsOfChoice spelled sessions text ending → IsOfChoice spelled sessions other ended → (text ≡ other) × (ending ≡ ended)
same_of_choices laws spelled sessions text other ending ended h k =
    let one : k.policy ≡ h.policy = laws.release spelled k.policy h.policy k.read h.read in
    let again : Chooses h.policy sessions k.choice = subst (λ (policy : List Rule). Chooses policy sessions k.choice) one k.chooses in
    let chosen : h.choice.chosen ≡ k.choice.chosen = h.chooses.chosen ∙ sym again.chosen in
    let denials : h.choice.denials.items ≡ k.choice.denials.items = h.chooses.denials ∙ sym again.denials in (
      h.reported ∙ ap (λ (d : List Denial). choice_text sessions d h.choice.chosen) denials ∙ ap (λ (c : Option ℕ). choice_text sessions k.choice.denials.items c) chosen ∙ sym k.reported,
      h.ended ∙ ap (λ (c : Option ℕ). ending_of_choice c) chosen ∙ sym k.ended,
    )

same_run : (Gives : Giving) (Fails : Failing) (law : HasOneRecord Gives Fails) (job : JobView) (sessions : List Session) (one other : List Record) → AreRunRecords (Gives job.artefacts) (Fails job.artefacts) (keys_of job.places) sessions one → AreRunRecords (Gives job.artefacts) (Fails job.artefacts) (keys_of job.places) sessions other → one ≡ other
same_run Gives Fails law job [] [] [] h k = refl
same_run Gives Fails law job [] [] (again ∷ other) h k = absurd k
same_run Gives Fails law job [] (found ∷ one) other h k = absurd h
same_run Gives Fails law job (session ∷ sessions) [] other h k = absurd h
same_run Gives Fails law job (session ∷ sessions) (found ∷ one) [] h k = absurd k
same_run Gives Fails law job (session ∷ sessions) (found ∷ one) (again ∷ other) h k =
    let first = law job session found again h.0.rising k.0.rising in
    let rest = same_run Gives Fails law job sessions one other h.1 k.1 in cc

same_of_loads : (Gives : Giving) (Fails : Failing) (law : HasOneRecord Gives Fails) (job : JobView) (number : ℕ) (text other : List ℕ) (ending ended : Ending) → IsOfLoadIn Gives Fails job number text ending → IsOfLoadIn Gives Fails job number other ended → (text ≡ other) × (ending ≡ ended)
same_of_loads Gives Fails law job number text other ending ended h k =
    let records = same_run Gives Fails law job job.sessions h.run.records k.run.records h.run.each k.run.each in
    let figures = h.run.counted ∙ ap (λ (r : List Record). figures_of job r) records ∙ sym k.run.counted in (
      h.reported ∙ ap (λ (f : Figures). load_text number f) figures ∙ sym k.reported,
      h.ended ∙ ap (λ (f : Figures). ending_of_load (has_accepted_all f)) figures ∙ sym k.ended,
    )

-- and one list of transcripts
abbrev pub HasOneRecording : Giving → Failing → Starving → Type 0
HasOneRecording Gives Fails Starves =
    (job : JobView) (number : ℕ) (one other : List RecordedSession) → AreOfRecordedWalk (Gives job.artefacts) (Fails job.artefacts) (Starves job.artefacts) (place_names job.places) (keys_of job.places) job.sessions number one → AreOfRecordedWalk (Gives job.artefacts) (Fails job.artefacts) (Starves job.artefacts) (place_names job.places) (keys_of job.places) job.sessions number other → one ≡ other

same_of_recordings : (Gives : Giving) (Fails : Failing) (Starves : Starving) (recorded : HasOneRecording Gives Fails Starves) (job : JobView) (number : ℕ) (text other : List ℕ) (ending ended : Ending) → IsOfRecordingIn Gives Fails Starves job number text ending → IsOfRecordingIn Gives Fails Starves job number other ended → (text ≡ other) × (ending ≡ ended)
same_of_recordings Gives Fails Starves recorded job number text other ending ended h k =
    let same = recorded job number h.recordings k.recordings h.walked k.walked in
    (h.reported ∙ ap (λ (r : List RecordedSession). transcripts_text (map transcript_in r)) same ∙ sym k.reported, h.ended ∙ ap (λ (r : List RecordedSession). ending_of (one_failed r)) same ∙ sym k.ended)

on_one_job : (Gives : Giving) (Fails : Failing) (Starves : Starving) (law : HasOneRecord Gives Fails) (walks : HasOneWalk Gives Fails Starves) (recorded : HasOneRecording Gives Fails Starves) (laws : AreOne) (command : Command) (job : JobView) (text other : List ℕ) (ending ended : Ending) → IsPlain command → IsReport Gives Fails Starves command job text ending → IsReport Gives Fails Starves command job other ended → (text ≡ other) × (ending ≡ ended)
on_one_job Gives Fails Starves law walks recorded laws Check job text other ending ended plain h k = same_each (aspect_text aspects.Check) job.sessions text other ending ended h k
on_one_job Gives Fails Starves law walks recorded laws Shape job text other ending ended plain h k = same_each (aspect_text aspects.Shape) job.sessions text other ending ended h k
on_one_job Gives Fails Starves law walks recorded laws Events job text other ending ended plain h k = same_each (aspect_text aspects.Events) job.sessions text other ending ended h k
on_one_job Gives Fails Starves law walks recorded laws Code job text other ending ended plain h k = same_each (aspect_text aspects.Code) job.sessions text other ending ended h k
on_one_job Gives Fails Starves law walks recorded laws Eval job text other ending ended plain h k = same_of_records Gives Fails law job values_text text other ending ended h k
on_one_job Gives Fails Starves law walks recorded laws (Walk number) job text other ending ended plain h k = same_of_walks Gives Fails Starves walks job number text other ending ended h k
on_one_job Gives Fails Starves law walks recorded laws (Order claims) job text other ending ended plain h k = same_of_claims laws claims job.sessions text other ending ended h k
on_one_job Gives Fails Starves law walks recorded laws (Choose policy) job text other ending ended plain h k = same_of_choices laws policy job.sessions text other ending ended h k
on_one_job Gives Fails Starves law walks recorded laws (Attest workers) job text other ending ended plain h k = absurd plain
on_one_job Gives Fails Starves law walks recorded laws Appraise job text other ending ended plain h k = same_verdicts job text other ending ended h k
on_one_job Gives Fails Starves law walks recorded laws Upgrade job text other ending ended plain h k = same_upgrade job text other ending ended h k
on_one_job Gives Fails Starves law walks recorded laws (Load number) job text other ending ended plain h k = same_of_loads Gives Fails law job number text other ending ended h k
on_one_job Gives Fails Starves law walks recorded laws (Recording number) job text other ending ended plain h k = same_of_recordings Gives Fails Starves recorded job number text other ending ended h k
on_one_job Gives Fails Starves law walks recorded laws Audit job text other ending ended plain h k = same_audit Gives Fails Starves job text other ending ended h k

-- two jobs that are one finding are one job
pub same_job : (job other : JobView) → accepted job ≡ accepted other → other ≡ job
same_job job other same = cc

pub on_one_finding : (Gives : Giving) (Fails : Failing) (Starves : Starving) (law : HasOneRecord Gives Fails) (walks : HasOneWalk Gives Fails Starves) (recorded : HasOneRecording Gives Fails Starves) (laws : AreOne) (command : Command) (job again : JobView) (text other : List ℕ) (ending ended : Ending) → IsPlain command → accepted job ≡ accepted again → IsReport Gives Fails Starves command job text ending → IsReport Gives Fails Starves command again other ended → (text ≡ other) × (ending ≡ ended)
on_one_finding Gives Fails Starves law walks recorded laws command job again text other ending ended plain same h k =
    on_one_job Gives Fails Starves law walks recorded laws command job text other ending ended plain h (subst (λ (j : JobView). IsReport Gives Fails Starves command j other ended) (same_job job again same) k)
