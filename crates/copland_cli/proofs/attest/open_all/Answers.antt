-- Each session is one of the job's, and was just opened.
use Rattle.std.proofs.Common.{◌≡◌, ◌+◌, ◌∙◌, ◌++◌, ◌∷◌, [], List, length, get_or, take, ap, sym, subst, arith}
use Rattle.std.proofs.lemmas.List.{take_all, take_more}
use Rattle.std.proofs.lemmas.Option.{slice_get_read}
use Rattle.std.specs.List.{AllZip}
use Rattle.place_check.specs.Session.{CheckedSession}
use Rattle.session_core.specs.declared.opened.Opened.{Opened}
use Rattle.session_core.specs.Session.{IsJustOpened, Seen}
use Rattle.copland_cli.proofs.AttestLemmas.{zip_more}
use Rattle.copland_cli.proofs.attest.open_all.Goals as goal

pub open-requires : goal.open-requires
open-requires g c =
    let same = c.as_slice-checked-items.ensures.value in
    let index = c.loop-checked.checked-index in
    let item = c.checked-item.result in
    (c.requires index item (slice_get_read c.args.job.now.sessions.items (length c.as_slice-checked-items.result.now) index item (ap (λ (xs : List CheckedSession). length xs) same) c.loop-checked-test.true (c.checked-item.is ∙ ap (λ (xs : List CheckedSession). get_or xs index item) same))).0

pub loop-checked-preserved : goal.loop-checked-preserved
loop-checked-preserved g c =
    let same = c.as_slice-checked-items.ensures.value in
    let those = c.args.job.now.sessions.items in
    let index = c.loop-checked.checked-index in
    let item = c.checked-item.result in
    let R = λ (one : CheckedSession) (seen : Seen (Opened g.row.B.Denot)). IsJustOpened one c.args.job.now.places c.args.job.now.artefacts c.args.bench.now seen in
    let is : item ≡ get_or those index item = c.checked-item.is ∙ ap (λ (xs : List CheckedSession). get_or xs index item) same in
    let more : take (index + 1) those ≡ take index those ++ item ∷ [] = take_more those index item (omega (arith, c.loop-checked-test.true, ap (λ (xs : List CheckedSession). length xs) same)) ∙ ap (λ s. take index those ++ s ∷ []) (sym is) in
    subst (λ xs. AllZip R xs c.push.new.self.items) (sym more)
    (subst (λ ys. AllZip R (take index those ++ item ∷ []) ys) (sym c.in_ok-push.ensures.items)
    (zip_more R (take index those) c.loop-checked.sessions.items item c.in_ok-session.session c.loop-checked.invariant c.in_ok-session.ensures))

pub returns : goal.returns
returns g c =
    let same = c.as_slice-checked-items.ensures.value in
    let those = c.args.job.now.sessions.items in
    let R = λ (one : CheckedSession) (seen : Seen (Opened g.row.B.Denot)). IsJustOpened one c.args.job.now.places c.args.job.now.artefacts c.args.bench.now seen in
    subst (λ xs. AllZip R xs c.loop-checked.sessions.items) (take_all c.loop-checked.checked-index those (omega (arith, c.loop-checked-test.false, ap (λ (xs : List CheckedSession). length xs) same))) c.loop-checked.invariant
