-- What the open seals of the code stand for.
use Rattle.std.specs.Prelude.{◌≡◌, ℕ, Bool, false, List, [], ◌∷◌, ◌++◌, nat_eq, slice_index_or, slice_set}
use Rattle.seal_hmac.specs.Digests.{Digests, Kind, sealing}
use Rattle.seal_hmac.specs.Keys.{key_at}
use Rattle.appraiser.specs.Expected.{Basis}
use Rattle.stream_appraiser.specs.declared.seals.OpenSeal.{OpenSeal as CodeSeal}
use Rattle.appraiser.specs.declared.verdict.Verdict.{Verdict}
use Rattle.stream_appraiser.specs.Standing.{OpenSeal, closed}

-- an open seal of the code is this one: its digest was fed the bytes that stand under it so far
pub record IsOpen (basis : Basis) (code : CodeSeal) (one : OpenSeal) : Type 0 where
  pub depth : code.depth ≡ one.depth
  pub index : code.index ≡ one.index
  pub event : code.event ≡ one.event
  pub bytes : code.bytes ≡ one.bytes
  pub digests : Digests (sealing (key_at basis.keys one.place) one.place basis.nonce one.event) one.fed code.digester

-- the same for all
abbrev pub AreOpen : Basis → List CodeSeal → List OpenSeal → Type 0
AreOpen basis [] [] = Unit {0}
AreOpen basis [] (one ∷ seals) = ⊥
AreOpen basis (code ∷ codes) [] = ⊥
AreOpen basis (code ∷ codes) (one ∷ seals) = IsOpen basis code one × AreOpen basis codes seals

-- an open seal was fed bytes
pub record WasFed (bytes : List ℕ) (old new : CodeSeal) : Type 0 where
  pub depth : new.depth ≡ old.depth
  pub index : new.index ≡ old.index
  pub event : new.event ≡ old.event
  pub same : new.bytes ≡ old.bytes
  pub fed : (kind : Kind) (before : List ℕ) → Digests kind before old.digester → Digests kind (before ++ bytes) new.digester

-- the one at an index was
pub record FedAt (bytes : List ℕ) (index : ℕ) (olds news : List CodeSeal) : Type 0 where
  pub new : CodeSeal
  pub is : news ≡ slice_set olds index new
  pub was : WasFed bytes (slice_index_or olds index new) new

-- all were
abbrev pub WereFed : List ℕ → List CodeSeal → List CodeSeal → Type 0
WereFed bytes [] [] = Unit {0}
WereFed bytes [] (new ∷ news) = ⊥
WereFed bytes (old ∷ olds) [] = ⊥
WereFed bytes (old ∷ olds) (new ∷ news) = WasFed bytes old new × WereFed bytes olds news

-- the innermost has so many parts of the shape behind it
abbrev pub ends_at : ℕ → List CodeSeal → Bool
ends_at depth [] = false
ends_at depth (code ∷ codes) = nat_eq code.depth depth

-- the seals that end are judged
pub record Closes (depth : ℕ) (old : List CodeSeal) (old_found : List Verdict) (new : List CodeSeal) (new_found : List Verdict) : Type 0 where
  pub seals : (basis : Basis) (states : List OpenSeal) → AreOpen basis old states → AreOpen basis new (closed basis depth states old_found).seals
  pub found : (basis : Basis) (states : List OpenSeal) → AreOpen basis old states → new_found ≡ (closed basis depth states old_found).found
