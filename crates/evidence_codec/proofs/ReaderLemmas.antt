-- A reader stands where the scan of its bytes does.
use Rattle.std.proofs.Common.{◌≡◌, ℕ, suc, ◌+◌, ◌-◌, ◌<◌, Bool, true, false, cond, eqb, ltb, List, [], ◌∷◌, ◌++◌, length, OnOk, Result, Ok, Err, refl, sym, ap, subst, ◌∙◌, append-nil, inl, inr}
use Rattle.std.specs.Int.{w32, from_be_bytes}
use Rattle.std.proofs.lemmas.Bool.{cases_lt, le-ltb, lt-ltb}
use Rattle.evidence_types.specs.Heads.{Head}
use Rattle.evidence_codec.specs.declared.fault.BadKind.TheVariants.{Tag, Length}
use Rattle.evidence_codec.specs.declared.fault.Fault.{Fault}
use Rattle.evidence_codec.specs.declared.fault.Stop.{Stop}
use Rattle.evidence_codec.specs.declared.fault.Stop.TheVariants.{Wanting, Faulty}
use Rattle.evidence_codec.specs.declared.reader.Reader.{Reader}
use Rattle.evidence_codec.specs.declared.reader.Stage.{Stage}
use Rattle.evidence_codec.specs.declared.reader.Stage.TheVariants.{First, Second, Third, Fourth, Choosing, Sizing, Inside, Whole, Failed}
use Rattle.evidence_codec.specs.declared.version.Version.{Version}
use Rattle.evidence_codec.specs.Versions.{most}
use Rattle.evidence_codec.specs.Reading.{◌>>=◌, fault, Bundle, Front, head_at, part_count}
use Rattle.evidence_codec.specs.Scanning.{Scan, opening, choosing, sizing, inside, whole, failed, start, Step, behind_head, settled, begun, sized, opened, opened_by, step, scan}
use Rattle.evidence_codec.specs.Scanned.{Stands, IsInside, IsSized, Keeps, IsReader}
use Rattle.evidence_codec.specs.Decoding.{Gives, counted, held_of, scan_of, standing}
use Rattle.evidence_codec.proofs.ScanLemmas.{scan-append, step-stands}

abbrev read_as : List Head → Version → Result Bundle Fault
read_as heads version = Ok (version, heads)

pub finish-gives : (r stood : Result Version Fault) (heads : List Head) (read : Result Bundle Fault) → Gives (λ version. version) r stood → read ≡ (stood >>= λ version. read_as heads version) → Gives (λ version. (version, heads)) r read
finish-gives (Ok version) stood heads read g e = e ∙ ap (λ (x : Result Version Fault). x >>= λ v. read_as heads v) g
finish-gives (Err first) stood heads read g e = e ∙ ap (λ (x : Result Version Fault). x >>= λ v. read_as heads v) g

abbrev pub as_step : List Head → Scan → Step
as_step hs state = (hs, state)

abbrev no_heads : Scan → Step
no_heads state = ([], state)

pub scanned-next : (either : Bool) (bytes : List ℕ) (byte : ℕ) (heads more : List Head) (old new : Scan) → scan either start bytes ≡ (heads, old) → step either old byte ≡ (more, new) → scan either start (bytes ++ byte ∷ []) ≡ (heads ++ more, new)
scanned-next either bytes byte heads more old new came stepped =
    scan-append either start bytes (byte ∷ [])
    ∙ ap (λ (s : Step). as_step (s.0 ++ ((step either s.1 byte).0 ++ [])) (step either s.1 byte).1) came
    ∙ ap (λ (t : Step). as_step (heads ++ (t.0 ++ [])) t.1) stepped
    ∙ ap (λ (hs : List Head). as_step (heads ++ hs) new) (append-nil more)

-- one of the bytes that never change
pub byte-step : (either : Bool) (wanted : ℕ) (more : List ℕ) (at byte : ℕ) (next : Stage) (version : Version) (nodes held : List ℕ) → standing next version nodes held ≡ opened_by more (suc at)
    → step either (opening (wanted ∷ more) at) byte ≡ ([], standing (cond (eqb byte wanted) next (Failed (fault at Tag))) version nodes held)
unfolding step
byte-step either wanted more at byte next version nodes held e = by (eqb byte wanted)
  where
    by : (b : Bool) → no_heads (cond b (opened_by more (suc at)) (failed (fault at Tag))) ≡ no_heads (standing (cond b next (Failed (fault at Tag))) version nodes held)
    by true = ap no_heads (sym e)
    by false = refl

abbrev stopped : {A : Type 0} → Stop → Result A Stop
stopped stop = Err stop

pub counted-err : (r : Front Head) (stop : Stop) → counted r ≡ Err stop → r ≡ Err stop
counted-err (Ok x) stop e = absurd cc
counted-err (Err other) stop e = let k : other ≡ stop = cc in ap (λ (s : Stop). stopped {A = Head × List ℕ} s) k

-- what holds on Ok leads to what holds on Ok
pub on_ok : {A E P Q : Type 0} (r : Result A E) → OnOk r P → (P → Q) → OnOk r Q
on_ok (Ok x) p leads = leads p
on_ok (Err e) p leads = p

-- ---- where a reader stands that ended no head

stands : (reader : Reader) (stage : Stage) → IsReader reader → reader.has_head ≡ false → reader.stage ≡ stage → Stands (standing stage reader.version reader.nodes reader.held.items)
stands reader stage ready no_head e =
    subst (λ (s : Stage). Stands (standing s reader.version reader.nodes reader.held.items)) e
    (subst (λ (b : Bool). Stands (standing reader.stage reader.version reader.nodes (held_of b reader.held.items))) no_head ready.stands)

pub is_inside : (reader : Reader) (at left : ℕ) → IsReader reader → reader.has_head ≡ false → reader.stage ≡ Inside at left → IsInside reader.version at left reader.nodes reader.held.items
is_inside reader at left ready no_head e = stands reader (Inside at left) ready no_head e

pub is_sizing : (reader : Reader) → IsReader reader → reader.has_head ≡ false → reader.stage ≡ Sizing → length reader.held.items < 4
is_sizing reader ready no_head e = stands reader Sizing ready no_head e

-- ---- no step goes back

-- behind the byte of the version, and behind the length
abbrev IsChosen : Scan → Type 0
IsChosen (opening wanted at) = ⊥
IsChosen choosing = ⊥
IsChosen (sizing version held) = Unit {0}
IsChosen (inside version at left nodes held) = Unit {0}
IsChosen (whole version at) = Unit {0}
IsChosen (failed first) = Unit {0}

abbrev IsBegun : Scan → Type 0
IsBegun (opening wanted at) = ⊥
IsBegun choosing = ⊥
IsBegun (sizing version held) = ⊥
IsBegun (inside version at left nodes held) = Unit {0}
IsBegun (whole version at) = Unit {0}
IsBegun (failed first) = Unit {0}

sized_keeps : (stage : Stage) (version : Version) (has_head : Bool) (nodes held there : List ℕ) → IsChosen (standing stage version nodes there) → IsSized has_head nodes → Keeps stage has_head nodes held
sized_keeps First version has_head nodes held there c is = absurd c
sized_keeps Second version has_head nodes held there c is = absurd c
sized_keeps Third version has_head nodes held there c is = absurd c
sized_keeps Fourth version has_head nodes held there c is = absurd c
sized_keeps Choosing version has_head nodes held there c is = absurd c
sized_keeps Sizing version has_head nodes held there c is = is
sized_keeps (Inside at left) version has_head nodes held there c is = tt
sized_keeps (Whole at) version has_head nodes held there c is = tt
sized_keeps (Failed first) version has_head nodes held there c is = tt

begun_keeps : (stage : Stage) (version : Version) (has_head : Bool) (nodes held there : List ℕ) → IsBegun (standing stage version nodes there) → Keeps stage has_head nodes held
begun_keeps First version has_head nodes held there c = absurd c
begun_keeps Second version has_head nodes held there c = absurd c
begun_keeps Third version has_head nodes held there c = absurd c
begun_keeps Fourth version has_head nodes held there c = absurd c
begun_keeps Choosing version has_head nodes held there c = absurd c
begun_keeps Sizing version has_head nodes held there c = absurd c
begun_keeps (Inside at left) version has_head nodes held there c = tt
begun_keeps (Whole at) version has_head nodes held there c = tt
begun_keeps (Failed first) version has_head nodes held there c = tt

either_is : (P : Scan → Type 0) (b : Bool) (x y : Scan) → P x → P y → P (cond b x y)
either_is P true x y p q = p
either_is P false x y p q = q

sized_chosen : (version : Version) (len : ℕ) → IsChosen (sized version len)
sized_chosen version len =
    either_is IsChosen (ltb (most version) len) (failed (fault 5 Length)) (begun version len) tt
    (either_is IsChosen (eqb len 0) (failed (fault 9 Length)) (inside version 9 (len - 1) [] []) tt tt)

sizing_chosen : (either : Bool) (version : Version) (held : List ℕ) (byte : ℕ) → IsChosen (step either (sizing version held) byte).1
unfolding step
sizing_chosen either version held byte =
    either_is IsChosen (ltb (length (held ++ byte ∷ [])) 4) (sizing version (held ++ byte ∷ [])) (sized version (from_be_bytes w32 (held ++ byte ∷ []))) tt
    (sized_chosen version (from_be_bytes w32 (held ++ byte ∷ [])))

behind_begun : (version : Version) (at left : ℕ) (nodes : List ℕ) → IsBegun (behind_head version at left nodes)
behind_begun version at left nodes =
    either_is IsBegun (eqb (length nodes) 0) _ _
    (either_is IsBegun (eqb left 0) (whole version at) (failed (fault at Length)) tt tt)
    (either_is IsBegun (eqb left 0) (failed (fault at Length)) (inside version at (left - 1) nodes []) tt tt)

settled_begun : (version : Version) (at left : ℕ) (nodes held : List ℕ) (r : Front Head) → IsBegun (settled version at left nodes held r).1
settled_begun version at left nodes held (Ok x) = behind_begun version (at + length held) left (opened (part_count x.0) nodes)
settled_begun version at left nodes held (Err Wanting) =
    either_is IsBegun (eqb left 0) (failed (fault (at + length held) Length)) (inside version at (left - 1) nodes held) tt tt
settled_begun version at left nodes held (Err (Faulty index kind)) = tt

inside_begun : (either : Bool) (version : Version) (at left : ℕ) (nodes held : List ℕ) (byte : ℕ) → IsBegun (step either (inside version at left nodes held) byte).1
unfolding step
inside_begun either version at left nodes held byte =
    elim (cases_lt (length nodes) 1025) [
      | inl lt ↦ rw (lt-ltb (length nodes) 1025 lt) (settled_begun version at left nodes (held ++ byte ∷ []) (head_at version (held ++ byte ∷ [])))
      | inr le ↦ rw (le-ltb (length nodes) 1025 le) tt
    ]

pub ready-sized : (either : Bool) (version : Version) (held : List ℕ) (byte : ℕ) (new : Reader) → length held < 4 → step either (sizing version held) byte ≡ no_heads (scan_of new) → IsSized new.has_head new.nodes → IsReader new
ready-sized either version held byte new few stepped keeps = record {
  stands = subst (λ (s : Step). Stands s.1) stepped (step-stands either (sizing version held) byte few);
  keeps = sized_keeps new.stage new.version new.has_head new.nodes new.held.items (held_of new.has_head new.held.items)
      (subst (λ (s : Step). IsChosen s.1) stepped (sizing_chosen either version held byte)) keeps;
}

pub ready-entered : (either : Bool) (version : Version) (at left : ℕ) (nodes held : List ℕ) (byte : ℕ) (new : Reader) → IsInside version at left nodes held → (hs : List Head) → step either (inside version at left nodes held) byte ≡ as_step hs (scan_of new) → IsReader new
ready-entered either version at left nodes held byte new is hs stepped = record {
  stands = subst (λ (s : Step). Stands s.1) stepped (step-stands either (inside version at left nodes held) byte is);
  keeps = begun_keeps new.stage new.version new.has_head new.nodes new.held.items (held_of new.has_head new.held.items)
      (subst (λ (s : Step). IsBegun s.1) stepped (inside_begun either version at left nodes held byte));
}
