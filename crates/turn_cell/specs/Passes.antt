-- What a pass knows, in words for the clauses of this crate and of those above it, and what each call tells.
use Rattle.std.specs.Prelude.{◌≡◌, ◌≢◌, ℕ, ◌+◌, ◌<◌, ◌⊎◌, Bool, true, false, List, [], ◌++◌, length, Option, Some, None, slice_get}
use Rattle.atomic_table.specs.Seated.{TableId}
use Rattle.turn_cell.specs.declared.chronicle.Entry.{Entry}
use Rattle.turn_cell.specs.declared.pass.CellPass.{CellPass}
use Rattle.turn_cell.specs.declared.cell.TurnCell.{TurnCell}
use Rattle.turn_cell.specs.History.{opening_of, made_by, Continues, own}
use Rattle.turn_cell.specs.Rule.{last_number, IsTaking}

module _ {S O I : Type 0} where
  -- the pass's number, from 0
  abbrev pub number : CellPass S O I → ℕ
  number pass = pass.ticket.seat.me.0.number

  -- a prefix of the cell's history: that of the last state that the pass put back, or the opening
  abbrev pub seen : CellPass S O I → List (Entry O I)
  seen pass = pass.ticket.seat.me.0.seen

  -- the opening that it begins with
  abbrev pub opening : CellPass S O I → Option O
  opening pass = opening_of (seen pass)

  -- the entries of the history that carry the pass's number
  abbrev pub mine : CellPass S O I → List (Entry O I)
  mine pass = pass.ticket.seat.me.0.mine

  -- whether the pass holds the turn
  abbrev pub holds : CellPass S O I → Bool
  holds pass = pass.ticket.seat.me.0.holds

  -- while it holds the turn, the history of the state that it took
  abbrev pub got : CellPass S O I → List (Entry O I)
  got pass = pass.ticket.seat.me.0.got

  -- how often it won the turn
  abbrev pub takings : CellPass S O I → ℕ
  takings pass = pass.ticket.seat.me.0.takings

  -- the number of its own last taking, or 0. The takings of a cell are numbered from 1 in their order
  abbrev pub last : CellPass S O I → ℕ
  last pass = pass.ticket.seat.me.0.last

  -- how often it found the turn held by another, or worn out
  abbrev pub losses : CellPass S O I → ℕ
  losses pass = pass.ticket.seat.me.0.losses

  -- the number of the taking that it found at its last loss, or 0
  abbrev pub met : CellPass S O I → ℕ
  met pass = pass.ticket.seat.me.0.met

  -- a cell's identity
  abbrev pub cell_id : TurnCell S O I → TableId
  cell_id cell = cell.shelf.table.shared.table_id

  -- the state that the cell was opened with
  abbrev pub first_state : TurnCell S O I → S
  first_state cell = cell.shelf.table.shared.key.value

  -- the identity of the cell that made the pass
  abbrev pub maker_id : CellPass S O I → TableId
  maker_id pass = pass.ticket.seat.table_id

  -- the cell made the pass
  abbrev pub MadeBy : TurnCell S O I → CellPass S O I → Type 0
  MadeBy cell pass = maker_id pass ≡ cell_id cell

  -- at every moment: what the pass has seen begins with the opening, and its own entries are just those in it that carry
  -- its number
  pub record Knows (pass : CellPass S O I) : Type 0 where
    pub begins : opening pass ≢ None
    pub own : mine pass ≡ made_by (number pass) (seen pass)

  -- the cell made the pass, which has this number and doesn't hold the turn
  pub record IsReady (cell : TurnCell S O I) (pass : CellPass S O I) (count : ℕ) : Type 0 where
    pub made : MadeBy cell pass
    pub idle : holds pass ≡ false
    pub number_is : number pass ≡ count

  -- a pass that was just made. It has seen the opening alone
  pub record IsNew (opening : List (Entry O I)) (count : ℕ) (pass : CellPass S O I) : Type 0 where
    pub number_is : number pass ≡ count
    pub seen_is : seen pass ≡ opening
    pub mine_is : mine pass ≡ []
    pub holds_not : holds pass ≡ false
    pub takings_is : takings pass ≡ 0
    pub last_is : last pass ≡ 0
    pub losses_is : losses pass ≡ 0
    pub met_is : met pass ≡ 0

  -- the passes of a cell that was just opened, by their numbers
  pub record AreNew (opening : List (Entry O I)) (seats : ℕ) (cell : TurnCell S O I) (passes : List (CellPass S O I)) : Type 0 where
    pub count : length passes ≡ seats
    pub made : (n : ℕ) (pass : CellPass S O I) → slice_get passes n ≡ Some pass → MadeBy cell pass
    pub new : (n : ℕ) (pass : CellPass S O I) → slice_get passes n ≡ Some pass → IsNew opening n pass

  -- the turn was won. The history got begins with the opening and has all that was seen as a prefix. What it has behind
  -- that is of other passes, so of this pass's entries it has just its own
  pub record Takes (history : List (Entry O I)) (before after : CellPass S O I) : Type 0 where
    pub holds_now : holds after ≡ true
    pub got_is : got after ≡ history
    pub begins : opening_of history ≡ opening before
    pub continues : Continues (seen before) history
    pub others_behind : made_by (number before) continues.rest ≡ []
    pub mine_in_it : made_by (number before) history ≡ mine before
    pub takings_rose : takings after ≡ takings before + 1
    pub last_is_taking : IsTaking (last after)
    pub last_rose : last before < last after
    pub number_stays : number after ≡ number before
    pub seen_stays : seen after ≡ seen before
    pub mine_stays : mine after ≡ mine before
    pub losses_stay : losses after ≡ losses before
    pub met_stays : met after ≡ met before

  -- the turn was another's, or is worn out. The taking that was met is later than the pass's own last one, or it is the last of all
  pub record Loses (before after : CellPass S O I) : Type 0 where
    pub losses_rose : losses after ≡ losses before + 1
    pub met_is_taking : IsTaking (met after)
    pub met_another : (last after < met after) ⊎ (met after ≡ last_number)
    pub number_stays : number after ≡ number before
    pub seen_stays : seen after ≡ seen before
    pub mine_stays : mine after ≡ mine before
    pub holds_stays : holds after ≡ holds before
    pub got_stays : got after ≡ got before
    pub takings_stay : takings after ≡ takings before
    pub last_stays : last after ≡ last before

  -- the turn was given back, with a state of this history
  pub record Puts (history : List (Entry O I)) (before after : CellPass S O I) : Type 0 where
    pub holds_not : holds after ≡ false
    pub seen_is : seen after ≡ history
    pub begins : opening after ≡ opening before
    pub mine_is : mine after ≡ made_by (number before) history
    pub mine_grew : (items : List I) → history ≡ got before ++ own (number before) items → mine after ≡ mine before ++ own (number before) items
    pub number_stays : number after ≡ number before
    pub takings_stay : takings after ≡ takings before
    pub last_stays : last after ≡ last before
    pub losses_stay : losses after ≡ losses before
    pub met_stays : met after ≡ met before
