-- Each form is made of its parts, in their order.
use Rattle.std.proofs.Common.{◌≡◌, ◌-◌, sym, ◌∙◌, subst, arith}
use Rattle.phrase_tree.specs.Term.{term}
use Rattle.session_runs.specs.Schedule.{draw}
use Rattle.load_maker.specs.Made.{Makes}
use Rattle.load_maker.specs.Phrases.{drawn_phrase}
use Rattle.load_maker.proofs.PhraseLemmas.{form_chain, form_hsh, form_par, form_request, form_seq, form_sig, formed, phrase_leaf}
use Rattle.load_maker.proofs.phrases.+drawn_phrase.Goals as goal

pub returns-then-depth-eq0 : goal.returns-then-depth-eq0
returns-then-depth-eq0 t c =
    subst (λ meant. Makes term meant c.drawn_leaf.result c.drawn_leaf.new.draws) (phrase_leaf c.args.depth c.args.draws.now c.if-depth-eq0.true) c.drawn_leaf.ensures

pub returns-in_ok-right-in-0 : goal.returns-in_ok-right-in-0
returns-in_ok-right-in-0 t c =
    let left = c.in_ok-left-in-0 in
    let right = c.in_ok-right-in-0 in
    formed c.args.depth c.args.draws.now c.chained.result c.drawn_phrase-in-0.new.draws _ c.if-depth-eq0.false c.chained.ensures
    (form_chain (drawn_phrase (c.args.depth - 1)) (draw 6 c.args.draws.now) c.draw.new.self c.drawn_phrase.new.draws c.drawn_phrase-in-0.new.draws (term left.left) (term right.right) (sym c.draw.ensures.drawn ∙ c.in-0.is) c.draw.ensures.from left.ensures.0 left.ensures.1 right.ensures.0 right.ensures.1)

pub returns-in_ok-body-in-1 : goal.returns-in_ok-body-in-1
returns-in_ok-body-in-1 t c =
    let body = c.in_ok-body-in-1 in
    formed c.args.depth c.args.draws.now c.requested.result c.drawn_phrase-in-1.new.draws _ c.if-depth-eq0.false c.requested.ensures
    (form_request (drawn_phrase (c.args.depth - 1)) (draw 6 c.args.draws.now) c.draw.new.self c.draw-in-1.new.self c.drawn_phrase-in-1.new.draws c.draw-in-1.result c.place_name-asked.result (term body.body) (sym c.draw.ensures.drawn ∙ c.in-1.is) c.draw.ensures.from c.draw-in-1.ensures.drawn c.draw-in-1.ensures.from c.place_name-asked.ensures body.ensures.0 body.ensures.1)

pub returns-in_ok-right-in-2 : goal.returns-in_ok-right-in-2
returns-in_ok-right-in-2 t c =
    let left = c.in_ok-left-in-2 in
    let right = c.in_ok-right-in-2 in
    formed c.args.depth c.args.draws.now c.in_sequence.result c.drawn_phrase-in-2-2.new.draws _ c.if-depth-eq0.false c.in_sequence.ensures
    (form_seq (drawn_phrase (c.args.depth - 1)) (draw 6 c.args.draws.now) c.draw.new.self c.draw-in-2.new.self c.drawn_phrase-in-2.new.draws c.drawn_phrase-in-2-2.new.draws c.draw-in-2.result c.drawn_signs-split.result (term left.left) (term right.right) (sym c.draw.ensures.drawn ∙ c.in-2.is) c.draw.ensures.from c.draw-in-2.ensures.drawn c.draw-in-2.ensures.from c.drawn_signs-split.ensures left.ensures.0 left.ensures.1 right.ensures.0 right.ensures.1)

pub returns-in_ok-right-in-3 : goal.returns-in_ok-right-in-3
returns-in_ok-right-in-3 t c =
    let left = c.in_ok-left-in-3 in
    let right = c.in_ok-right-in-3 in
    formed c.args.depth c.args.draws.now c.in_parallel.result c.drawn_phrase-in-3-2.new.draws _ c.if-depth-eq0.false c.in_parallel.ensures
    (form_par (drawn_phrase (c.args.depth - 1)) (draw 6 c.args.draws.now) c.draw.new.self c.draw-in-3.new.self c.drawn_phrase-in-3.new.draws c.drawn_phrase-in-3-2.new.draws c.draw-in-3.result c.drawn_signs-split-in-3.result (term left.left) (term right.right) (sym c.draw.ensures.drawn ∙ c.in-3.is) c.draw.ensures.from c.draw-in-3.ensures.drawn c.draw-in-3.ensures.from c.drawn_signs-split-in-3.ensures left.ensures.0 left.ensures.1 right.ensures.0 right.ensures.1)

pub returns-in_ok-part-in-4 : goal.returns-in_ok-part-in-4
returns-in_ok-part-in-4 t c =
    let part = c.in_ok-part-in-4 in
    formed c.args.depth c.args.draws.now c.chained-in-4.result c.drawn_phrase-in-4.new.draws _ c.if-depth-eq0.false c.chained-in-4.ensures
    (form_sig (drawn_phrase (c.args.depth - 1)) (draw 6 c.args.draws.now) c.draw.new.self c.drawn_phrase-in-4.new.draws (term part.part) (sym c.draw.ensures.drawn ∙ c.in-4.is) c.draw.ensures.from part.ensures.0 part.ensures.1)

pub returns-in_ok-part-in_default : goal.returns-in_ok-part-in_default
returns-in_ok-part-in_default t c =
    let part = c.in_ok-part-in_default in
    let last : c.draw.result ≡ 5 = omega arith in
    formed c.args.depth c.args.draws.now c.chained-in_default.result c.drawn_phrase-in_default.new.draws _ c.if-depth-eq0.false c.chained-in_default.ensures
    (form_hsh (drawn_phrase (c.args.depth - 1)) (draw 6 c.args.draws.now) c.draw.new.self c.drawn_phrase-in_default.new.draws (term part.part) (sym c.draw.ensures.drawn ∙ last) c.draw.ensures.from part.ensures.0 part.ensures.1)
