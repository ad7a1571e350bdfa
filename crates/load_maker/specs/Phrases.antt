-- The phrases of a made job, which numbers are drawn for (this project's own).
use Rattle.std.specs.Prelude.{ℕ, zero, suc, Bool, true, false, Option, nat_eq, if◌then◌else◌}
use Rattle.phrase_tree.specs.declared.phrase.Split.{Split}
use Rattle.phrase_tree.specs.Term.{Term, Leaf, sig, hsh, usm, kim, leaf, at, chain, seq, par}
use Rattle.session_runs.specs.Schedule.{Draw, draw}
use Rattle.load_maker.specs.Made.{Made, made}
use Rattle.load_maker.specs.Names.{place_name, plain_asp}

-- a measurement by a place of itself
abbrev pub drawn_usm : Draw → Made Term
drawn_usm asp = made (leaf (usm (plain_asp asp.drawn))) asp.from

-- a measurement of a target
abbrev pub drawn_kim : Draw → Made Term
drawn_kim target =
    let asp = draw 8 target.from in made (leaf (kim (place_name target.drawn) (plain_asp asp.drawn))) asp.from

abbrev pub drawn_leaf : Draw → Made Term
drawn_leaf form = if nat_eq form.drawn 0 then drawn_usm (draw 8 form.from) else drawn_kim (draw 8 form.from)

-- two parts, the left one made first
abbrev pub two_parts : (Term → Term → Term) → (Option ℕ → Made Term) → Option ℕ → Made Term
two_parts whole part from =
    let left = part from in
    let right = part left.from in
    made (whole left.thing right.thing) right.from

-- a request to a drawn place
abbrev pub drawn_request : (Option ℕ → Made Term) → Draw → Made Term
drawn_request part asked = let body = part asked.from in made (at (place_name asked.drawn) body.thing) body.from

-- the drawn signs: `++`, `+-`, `-+`, `--`
abbrev pub signs : Bool → Bool → Split
signs left right = record { left = left; right = right }

abbrev pub drawn_signs : ℕ → Split
drawn_signs number =
    if nat_eq number 0 then signs true true
    else if nat_eq number 1 then signs true false
    else if nat_eq number 2 then signs false true
    else signs false false

-- a branch with drawn signs
abbrev pub drawn_branch : (Split → Term → Term → Term) → (Option ℕ → Made Term) → Draw → Made Term
drawn_branch whole part sign = two_parts (whole (drawn_signs sign.drawn)) part sign.from

-- a part, and then a leaf
abbrev pub followed : Leaf → Made Term → Made Term
followed last part = made (chain part.thing (leaf last)) part.from

-- one of six forms
abbrev pub drawn_form : (Option ℕ → Made Term) → Draw → Made Term
drawn_form part form =
    if nat_eq form.drawn 0 then two_parts chain part form.from
    else if nat_eq form.drawn 1 then drawn_request part (draw 8 form.from)
    else if nat_eq form.drawn 2 then drawn_branch seq part (draw 4 form.from)
    else if nat_eq form.drawn 3 then drawn_branch par part (draw 4 form.from)
    else if nat_eq form.drawn 4 then followed sig (part form.from)
    else followed hsh (part form.from)

-- a phrase whose parts nest this deep
unfoldable pub drawn_phrase : ℕ → Option ℕ → Made Term
drawn_phrase zero from = drawn_leaf (draw 2 from)
drawn_phrase (suc depth) from = drawn_form (drawn_phrase depth) (draw 6 from)
