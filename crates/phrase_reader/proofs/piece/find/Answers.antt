-- What stands at the front behind the blanks is what is found.
use Rattle.std.proofs.Common.{◌≤◌, ◌+◌, length, drop, sym, ap, refl, ◌∙◌, arith}
use Rattle.std.specs.List.{prefix_len}
use Rattle.phrase_reader.specs.Tokens.{is_blank, front}
use Rattle.phrase_reader.proofs.Lexing.{found_read, found_refused, found_end}
use Rattle.phrase_reader.proofs.piece.find.Goals as goal

pub overflow_add-result : goal.overflow_add-result
overflow_add-result c =
    let e = ap front (ap (drop c.blanks-blanks.result) (sym c.split_at.ensures.back) ∙ sym c.split_at-2.ensures.back) ∙ sym c.in-Read.ensures in
    let n = c.blanks-blanks.ensures.longest ∙ ap (prefix_len is_blank) c.split_at.ensures.back in
    let f = found_read c.args.text.now c.args.offset (c.args.offset + c.blanks-blanks.result) c.blanks-blanks.result c.in-Read.len c.in-Read.token c.requires.inside n refl e in
    omega (arith, f.3, c.requires.small)

pub overflow_add-result-in-Refused : goal.overflow_add-result-in-Refused
overflow_add-result-in-Refused c =
    let e = ap front (ap (drop c.blanks-blanks.result) (sym c.split_at.ensures.back) ∙ sym c.split_at-2.ensures.back) ∙ sym c.in-Refused.ensures in
    let n = c.blanks-blanks.ensures.longest ∙ ap (prefix_len is_blank) c.split_at.ensures.back in
    let few : c.blanks-blanks.result ≤ length (drop c.args.offset c.args.text.now) = omega (arith, c.blanks-blanks.ensures.few, ap length c.split_at.ensures.back) in
    let f = found_refused c.args.text.now c.args.offset (c.args.offset + c.blanks-blanks.result) c.blanks-blanks.result c.in-Refused.past c.in-Refused.kind c.requires.inside n refl few e in
    omega (arith, f.1, c.requires.small)

pub returns-in-Read : goal.returns-in-Read
returns-in-Read c =
    let e = ap front (ap (drop c.blanks-blanks.result) (sym c.split_at.ensures.back) ∙ sym c.split_at-2.ensures.back) ∙ sym c.in-Read.ensures in
    let n = c.blanks-blanks.ensures.longest ∙ ap (prefix_len is_blank) c.split_at.ensures.back in
    found_read c.args.text.now c.args.offset (c.args.offset + c.blanks-blanks.result) c.blanks-blanks.result c.in-Read.len c.in-Read.token c.requires.inside n refl e

pub returns-in-Refused : goal.returns-in-Refused
returns-in-Refused c =
    let e = ap front (ap (drop c.blanks-blanks.result) (sym c.split_at.ensures.back) ∙ sym c.split_at-2.ensures.back) ∙ sym c.in-Refused.ensures in
    let n = c.blanks-blanks.ensures.longest ∙ ap (prefix_len is_blank) c.split_at.ensures.back in
    let few : c.blanks-blanks.result ≤ length (drop c.args.offset c.args.text.now) = omega (arith, c.blanks-blanks.ensures.few, ap length c.split_at.ensures.back) in
    found_refused c.args.text.now c.args.offset (c.args.offset + c.blanks-blanks.result) c.blanks-blanks.result c.in-Refused.past c.in-Refused.kind c.requires.inside n refl few e

pub returns-in-End : goal.returns-in-End
returns-in-End c =
    let e = ap front (ap (drop c.blanks-blanks.result) (sym c.split_at.ensures.back) ∙ sym c.split_at-2.ensures.back) ∙ sym c.in-End.ensures in
    let n = c.blanks-blanks.ensures.longest ∙ ap (prefix_len is_blank) c.split_at.ensures.back in
    let few : c.blanks-blanks.result ≤ length (drop c.args.offset c.args.text.now) = omega (arith, c.blanks-blanks.ensures.few, ap length c.split_at.ensures.back) in
    found_end c.args.text.now c.args.offset (c.args.offset + c.blanks-blanks.result) c.blanks-blanks.result c.requires.inside n refl few e
