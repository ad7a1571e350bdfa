-- How the appraisal of a value stands while its heads come, and what one more head makes of it.
use Rattle.std.specs.Prelude.{◌+◌, ℕ, false, List, [], ◌∷◌, ◌++◌, length, map, slice_set, Option, Some, None, nat_eq, if◌then◌else◌}
use Rattle.bench_trait.specs.declared.ask.AskKind.TheVariants.{Usm, Kim}
use Rattle.evidence_types.specs.Bytes.{encoding}
use Rattle.evidence_types.specs.Heads.{Head, empty_head, nonce_head, usm_head, kim_head, seal_head, hash_head, seq_head, par_head, head_bytes}
use Rattle.evidence_types.specs.Shape.{Form, nothing, the_nonce, measured, measured_at, sealed, hashed, in_sequence, in_parallel}
use Rattle.place_check.specs.declared.entry.PlaceEntry.{PlaceEntry}
use Rattle.seal_hmac.specs.Keys.{key_at}
use Rattle.seal_hmac.specs.Seal.{seal_of, hash_of}
use Rattle.appraiser.specs.declared.verdict.Verdict.{Verdict}
use Rattle.appraiser.specs.declared.verdict.VerdictOf.TheVariants as judged
use Rattle.appraiser.specs.Expected.{Basis, expected, reference_at}
use Rattle.appraiser.specs.Fit.{agrees}
use Rattle.appraiser.specs.Verdicts.{is_good_answer, same, verdict}

-- a seal of the value of which not all is there that it is over
pub record OpenSeal : Type 0 where
  -- so many parts of the shape come behind what it is over
  pub depth : ℕ
  -- where its verdict stands
  pub index : ℕ
  pub place : List ℕ
  pub event : ℕ
  -- the seal that the value has
  pub bytes : List ℕ
  -- the bytes under it so far
  pub fed : List ℕ

pub record Standing : Type 0 where
  -- the parts of the shape to come, the next first
  pub forms : List Form
  -- the seals that are open, the innermost first
  pub seals : List OpenSeal
  -- the verdicts so far; that of an open seal is not good yet
  pub found : List Verdict
  -- the answers so far
  pub held : List (ℕ × List ℕ)
  -- the number of the next node
  pub number : ℕ
  -- the first node that does not fit
  pub misfit : Option ℕ

-- before the first head
abbrev pub opening : Form → Standing
opening shape = record { forms = shape ∷ []; seals = []; found = []; held = []; number = 0; misfit = None }

-- a head without its mark, which no seal is over
abbrev pub unmarked : Head → Head
unmarked empty_head = empty_head
unmarked (nonce_head bytes) = nonce_head bytes
unmarked (usm_head event mark answer) = usm_head event None answer
unmarked (kim_head event mark answer) = kim_head event None answer
unmarked (seal_head event bytes) = seal_head event bytes
unmarked (hash_head event bytes) = hash_head event bytes
unmarked seq_head = seq_head
unmarked par_head = par_head

-- more bytes stand under a seal, and under all open ones
abbrev pub fed_one : List ℕ → OpenSeal → OpenSeal
fed_one bytes open_seal = record {
  depth = open_seal.depth;
  index = open_seal.index;
  place = open_seal.place;
  event = open_seal.event;
  bytes = open_seal.bytes;
  fed = open_seal.fed ++ bytes;
}

abbrev pub fed_all : List ℕ → List OpenSeal → List OpenSeal
fed_all bytes seals = map (fed_one bytes) seals

-- the verdict of a seal once all is there that it is over
abbrev pub verdict_of : Basis → OpenSeal → Verdict
verdict_of basis open_seal =
    verdict (judged.Seal open_seal.event) (same open_seal.bytes (seal_of (key_at basis.keys open_seal.place) open_seal.place basis.nonce open_seal.event open_seal.fed))

-- the open seals and the verdicts
pub record Closed : Type 0 where
  pub seals : List OpenSeal
  pub found : List Verdict

-- a part has ended, and so many parts of the shape are to come: the seals behind which these come are judged
abbrev pub closed : Basis → ℕ → List OpenSeal → List Verdict → Closed
closed basis depth [] found = record { seals = []; found = found }
closed basis depth (open_seal ∷ seals) found =
    if nat_eq open_seal.depth depth then closed basis depth seals (slice_set found open_seal.index (verdict_of basis open_seal))
    else record { seals = open_seal ∷ seals; found = found }

-- a node without parts has ended
abbrev pub after_leaf : Basis → List Form → List OpenSeal → List Verdict → List (ℕ × List ℕ) → ℕ → Standing
after_leaf basis forms seals found held number = record {
  forms = forms;
  seals = (closed basis (length forms) seals found).seals;
  found = (closed basis (length forms) seals found).found;
  held = held;
  number = number;
  misfit = None;
}

-- a node with parts has begun
abbrev pub inside : List Form → List OpenSeal → List Verdict → List (ℕ × List ℕ) → ℕ → Standing
inside forms seals found held number = record { forms = forms; seals = seals; found = found; held = held; number = number; misfit = None }

-- a head that agrees with the next part of the shape: these parts come behind it, these seals are open and were
-- fed the head, and this is the number of the next node
abbrev pub taken : Basis → Head → Form → List Form → List OpenSeal → List Verdict → List (ℕ × List ℕ) → ℕ → Standing
taken basis empty_head nothing forms seals found held number = after_leaf basis forms seals found held number
taken basis (nonce_head bytes) the_nonce forms seals found held number =
    after_leaf basis forms seals (found ++ verdict judged.Nonce (same bytes basis.nonce) ∷ []) held number
taken basis (usm_head event mark answer) (measured own place asp below) forms seals found held number =
    inside (below ∷ forms) seals
    (found ++ verdict (judged.Leaf own) (is_good_answer basis.references (held ++ (event, answer) ∷ []) (record { event = own; place = place; kind = Usm; asp = asp }) answer) ∷ [])
    (held ++ (event, answer) ∷ []) number
taken basis (kim_head event mark answer) (measured_at own place target asp below) forms seals found held number =
    inside (below ∷ forms) seals
    (found ++ verdict (judged.Leaf own) (is_good_answer basis.references (held ++ (event, answer) ∷ []) (record { event = own; place = place; kind = Kim target; asp = asp }) answer) ∷ [])
    (held ++ (event, answer) ∷ []) number
taken basis (seal_head event bytes) (sealed own place below) forms seals found held number =
    inside (below ∷ forms)
    (record { depth = length forms; index = length found; place = place; event = own; bytes = bytes; fed = [] } ∷ seals)
    (found ++ verdict (judged.Seal own) false ∷ []) held number
taken basis (hash_head event bytes) (hashed own place below) forms seals found held number =
    after_leaf basis forms seals (found ++ verdict (judged.Hash own) (same bytes (hash_of (encoding (expected basis (reference_at basis.references) below)))) ∷ []) held number
taken basis seq_head (in_sequence first second) forms seals found held number =
    inside (first ∷ (second ∷ forms)) seals found held number
taken basis par_head (in_parallel first second) forms seals found held number =
    inside (first ∷ (second ∷ forms)) seals found held number
taken basis _ _ forms seals found held number = inside forms seals found held number

-- a node does not fit
abbrev pub failed : Standing → Standing
failed standing = record {
  forms = standing.forms;
  seals = standing.seals;
  found = standing.found;
  held = standing.held;
  number = standing.number;
  misfit = Some standing.number;
}

-- one more head, against the parts of the shape to come
abbrev pub next : List PlaceEntry → Basis → Head → List Form → Standing → Standing
next places basis head [] standing = failed standing
next places basis head (form ∷ forms) standing =
    if agrees places head form then taken basis head form forms (fed_all (head_bytes (unmarked head)) standing.seals) standing.found standing.held (standing.number + 1)
    else failed standing

-- one more head; behind the first that does not fit none counts
abbrev pub step_from : List PlaceEntry → Basis → Head → Option ℕ → Standing → Standing
step_from places basis head None standing = next places basis head standing.forms standing
step_from places basis head (Some node) standing = standing

abbrev pub step : List PlaceEntry → Basis → Standing → Head → Standing
step places basis standing head = step_from places basis head standing.misfit standing

-- heads one after the other
abbrev pub run : List PlaceEntry → Basis → Standing → List Head → Standing
run places basis standing [] = standing
run places basis standing (head ∷ rest) = run places basis (step places basis standing head) rest
