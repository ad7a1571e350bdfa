use Rattle.std.proofs.Common.{◌∙◌, [], ◌∷◌, ◌++◌}
use Rattle.turn_cell.specs.declared.chronicle.Entry.TheVariants.{Made}
use Rattle.turn_cell.proofs.Diaries.{one_more, grows_by}
use Rattle.turn_cell.proofs.diary.append.Goals as goal

pub put-requires-clause-extends : goal.put-requires-clause-extends
put-requires-clause-extends g c =
    let took = c.in-Some.ensures.some in
    grows_by _ record { text = c.in-Some.diary.text } c.in-Some.diary.numbers.items _ c.args.by _ _ _ c.push-pushed.ensures.items (took.number_stays ∙ c.requires.number_is) took.got_is

pub returns-clause-added : goal.returns-clause-added
returns-clause-added g c =
    let took = c.in-Some.ensures.some in
    let same = took.number_stays ∙ c.requires.number_is in
    c.put.ensures.puts.mine_grew (tt ∷ []) (one_more _ record { text = c.in-Some.diary.text } c.in-Some.diary.numbers.items _ c.args.by _ _ c.in_ok-pushed.ensures.items same took.got_is)
    ∙ (λ i. took.mine_stays i ++ Made (same i) tt ∷ [])
