-- A text that spells a number is read as that number.
use Rattle.std.proofs.Common.{◌≡◌, true, false, arith, sym, ap, ◌∙◌}
use Rattle.std.specs.Prelude.{decimal}
use Rattle.std.proofs.lemmas.Fmt.{parse-decimal}
use Rattle.std.proofs.lemmas.Slice.Eq.{bytes_eq-Decides}
use Rattle.copland_cli.proofs.words.number_of.Goals as goal

pub returns-in_default : goal.returns-in_default
returns-in_default c = λ number small spelled.
    let read = parse-decimal 32 number c.args.text.now c.parse.result small (omega arith) spelled c.parse.ensures.value.0 in
    cc (read, c.in_default.is)

pub returns-else-eq : goal.returns-else-eq
returns-else-eq c = λ number small spelled.
    let read = parse-decimal 32 number c.args.text.now c.parse.result small (omega arith) spelled c.parse.ensures.value.0 in
    let same : number ≡ c.in-Ok.number = cc (read, c.in-Ok.is) in
    let text : c.format.result.now ≡ c.args.text.now = c.format.ensures.text ∙ ap (λ n. decimal n) (sym same) ∙ sym spelled in
    let equal = (bytes_eq-Decides c.format.result.now c.args.text.now).1 text in
    let both : true ≡ false = sym equal ∙ sym c.eq.ensures ∙ c.if-eq.false in
    cc
