-- Pieces that are fed one after the other are the bytes.
use Rattle.std.proofs.Common.{◌≡◌, ◌∙◌, ℕ, List, [], ◌++◌, append-nil, append_assoc, ap, sym, subst}
use Rattle.evidence_types.specs.Shape.{Form}
use Rattle.place_check.specs.declared.entry.PlaceEntry.{PlaceEntry}
use Rattle.appraiser.specs.Expected.{Basis}
use Rattle.stream_appraiser.specs.Fed.{Fed}
use Rattle.stream_appraiser.specs.declared.stream.StreamAppraiser.{StreamAppraiser}

-- an appraiser was fed the bytes ahead of these
pub record IsFedBefore (start now : StreamAppraiser) (bytes rest : List ℕ) : Type 0 where
  pub fed_bytes : List ℕ
  pub parts : fed_bytes ++ rest ≡ bytes
  pub fed : (places : List PlaceEntry) (basis : Basis) (shape : Form) (before : List ℕ) → Fed places basis shape before start → Fed places basis shape (before ++ fed_bytes) now

pub begins : (start : StreamAppraiser) (bytes rest : List ℕ) → rest ≡ bytes → IsFedBefore start start bytes rest
begins start bytes rest same = record {
  fed_bytes = [];
  parts = same;
  fed = λ places basis shape before h. subst (λ (b : List ℕ). Fed places basis shape b start) (sym (append-nil before)) h;
}

pub goes_on : (start now next : StreamAppraiser) (bytes rest piece left : List ℕ) → IsFedBefore start now bytes rest → rest ≡ piece ++ left → ((places : List PlaceEntry) (basis : Basis) (shape : Form) (before : List ℕ) → Fed places basis shape before now → Fed places basis shape (before ++ piece) next) → IsFedBefore start next bytes left
goes_on start now next bytes rest piece left h cut step = record {
  fed_bytes = h.fed_bytes ++ piece;
  parts = append_assoc h.fed_bytes piece left ∙ ap (λ (b : List ℕ). h.fed_bytes ++ b) (sym cut) ∙ h.parts;
  fed = λ places basis shape before f.
      subst (λ (b : List ℕ). Fed places basis shape b next) (append_assoc before h.fed_bytes piece) (step places basis shape (before ++ h.fed_bytes) (h.fed places basis shape before f));
}

pub ends : (start now : StreamAppraiser) (bytes rest : List ℕ) → rest ≡ [] → IsFedBefore start now bytes rest → (places : List PlaceEntry) (basis : Basis) (shape : Form) (before : List ℕ) → Fed places basis shape before start → Fed places basis shape (before ++ bytes) now
ends start now bytes rest none h places basis shape before f =
    let all : h.fed_bytes ≡ bytes = sym (append-nil h.fed_bytes) ∙ ap (λ (b : List ℕ). h.fed_bytes ++ b) (sym none) ∙ h.parts in
    subst (λ (b : List ℕ). Fed places basis shape (before ++ b) now) all (h.fed places basis shape before f)
