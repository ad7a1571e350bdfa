-- A question that came up was answered, or the bench failed at it.
use Rattle.std.proofs.Common.{List, ℕ, [], ◌∷◌, ap, subst, sym}
use Rattle.phrase_tree.specs.Term.{term}
use Rattle.bench_trait.specs.declared.ask.Ask.{Ask}
use Rattle.bench_trait.specs.declared.bench.BenchFault.{BenchFault}
use Rattle.session_model.specs.Session.{Session}
use Rattle.plain_eval.specs.Asks.{GoesOn, Sees, all_coming}
use Rattle.plain_eval.specs.Round.{FailsAt, IsAsked}
use Rattle.plain_eval.specs.declared.asks.Seen.{Seen}
use Rattle.plain_eval.proofs.GatherLemmas.{up_to, answered_on, failed_at}
use Rattle.plain_eval.proofs.gathering.advance.Goals as goal

pub asked-requires : goal.asked-requires
asked-requires g c =
    let session : Session = record { root = c.args.asking.now.root; nonce = c.args.asking.now.nonce.now; phrase = term c.args.asking.now.phrase.now } in
    let old = c.args.round.now in
    let parts = all_coming old.asks.parts.items in
    let goes : GoesOn old.asks parts c.see.new.asks (c.question-ask.result ∷ []) =
    subst (λ (ask : Ask). GoesOn old.asks parts c.see.new.asks (ask ∷ [])) (sym c.question-ask.ensures)
    (subst (λ (seen : Seen). Sees old.asks parts c.see.new.asks seen) c.in-Measures.is c.in-Ok.ensures) in
    up_to (λ ask answer. g.B.Bench.gives c.args.asking.now.bench.now c.args.asking.now.artefacts.now ask answer)
    session old c.see.new.asks c.question-ask.result c.requires goes

pub returns-in-Ok-None : goal.returns-in-Ok-None
returns-in-Ok-None g c =
    let gives : Ask → List ℕ → Type 0 = λ ask answer. g.B.Bench.gives c.args.asking.now.bench.now c.args.asking.now.artefacts.now ask answer in
    let fails : Ask → BenchFault → Type 0 = λ ask fault. g.B.Bench.fails c.args.asking.now.bench.now c.args.asking.now.artefacts.now ask fault in
    let session : Session = record { root = c.args.asking.now.root; nonce = c.args.asking.now.nonce.now; phrase = term c.args.asking.now.phrase.now } in
    let old = c.args.round.now in
    let parts = all_coming old.asks.parts.items in
    let goes : GoesOn old.asks parts c.see.new.asks (c.question-ask.result ∷ []) =
    subst (λ (ask : Ask). GoesOn old.asks parts c.see.new.asks (ask ∷ [])) (sym c.question-ask.ensures)
    (subst (λ (seen : Seen). Sees old.asks parts c.see.new.asks seen) c.in-Measures.is c.in-Ok.ensures) in
    answered_on gives session old (record { asks = c.see.new.asks; answers = c.asked.new.answers }) c.question-ask.result c.requires goes
    (subst (λ failed. IsAsked gives fails c.question-ask.result old.answers c.asked.new.answers failed) c.in-Ok-None.field-0-is c.in-Ok-None.ensures)

pub returns-in-Ok-Some : goal.returns-in-Ok-Some
returns-in-Ok-Some g c =
    let gives : Ask → List ℕ → Type 0 = λ ask answer. g.B.Bench.gives c.args.asking.now.bench.now c.args.asking.now.artefacts.now ask answer in
    let fails : Ask → BenchFault → Type 0 = λ ask fault. g.B.Bench.fails c.args.asking.now.bench.now c.args.asking.now.artefacts.now ask fault in
    let session : Session = record { root = c.args.asking.now.root; nonce = c.args.asking.now.nonce.now; phrase = term c.args.asking.now.phrase.now } in
    let old = c.args.round.now in
    let parts = all_coming old.asks.parts.items in
    let goes : GoesOn old.asks parts c.see.new.asks (c.question-ask.result ∷ []) =
    subst (λ (ask : Ask). GoesOn old.asks parts c.see.new.asks (ask ∷ [])) (sym c.question-ask.ensures)
    (subst (λ (seen : Seen). Sees old.asks parts c.see.new.asks seen) c.in-Measures.is c.in-Ok.ensures) in
    subst (λ (event : ℕ). FailsAt gives fails session event c.in-Ok-Some.fault) (ap (λ (ask : Ask). ask.event) c.question-ask.ensures)
    (failed_at gives fails session old c.see.new.asks c.question-ask.result c.in-Ok-Some.fault c.requires goes
    (subst (λ failed. IsAsked gives fails c.question-ask.result old.answers c.asked.new.answers failed) c.in-Ok-Some.field-0-is c.in-Ok-Some.ensures))
