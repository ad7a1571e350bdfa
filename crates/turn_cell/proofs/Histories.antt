-- What a history has of each pass.
use Rattle.std.proofs.Common.{◌≡◌, ◌≢◌, ℕ, Bool, true, false, eqb, eq-eqb, ne_eqb, List, [], ◌∷◌, ◌++◌, refl, sym, ap, ◌∙◌, append-nil, append_assoc}
use Rattle.std.specs.Prelude.{if◌then◌else◌, Some}
use Rattle.turn_cell.specs.declared.chronicle.Entry.{Entry}
use Rattle.turn_cell.specs.declared.chronicle.Entry.TheVariants.{Opened, Made}
use Rattle.turn_cell.specs.History.{IsOpening, opening_of, made_by, Continues, own, Extends}

module _ (O I : Type 0) where
  abbrev E : Type 0
  E = Entry O I

  chosen : (b : Bool) (e : E) (xs ys zs : List E) → xs ≡ ys ++ zs → (if b then e ∷ xs else xs) ≡ (if b then e ∷ ys else ys) ++ zs
  chosen true e xs ys zs h = ap (λ (l : List E). e ∷ l) h
  chosen false e xs ys zs h = h

  pub made_by-append : (number : ℕ) (xs ys : List E) → made_by number (xs ++ ys) ≡ made_by number xs ++ made_by number ys
  made_by-append number [] ys = refl
  made_by-append number (Opened o ∷ es) ys = made_by-append number es ys
  made_by-append number (Made n i ∷ es) ys = chosen (eqb n number) (Made n i) (made_by number (es ++ ys)) (made_by number es) (made_by number ys) (made_by-append number es ys)

  pub made_by-own : (number : ℕ) (items : List I) → made_by number (own {O = O} number items) ≡ own number items
  made_by-own number [] = refl
  made_by-own number (i ∷ is) = rw (eq-eqb number number refl) (ap (λ (l : List E). Made number i ∷ l) (made_by-own number is))

  pub made_by-other : (number n : ℕ) (items : List I) → n ≢ number → made_by number (own {O = O} n items) ≡ []
  made_by-other number n [] other = refl
  made_by-other number n (i ∷ is) other = rw (ne_eqb n number other) (made_by-other number n is other)

  -- nothing can stand behind a list that it is as long as before
  nothing_behind : (xs ys : List E) → xs ++ ys ≡ xs → ys ≡ []
  nothing_behind [] ys e = e
  nothing_behind (x ∷ xs) ys e = nothing_behind xs ys (cc)

  -- where a beginning has all entries of a number, what stands behind it has none
  pub others_behind : (number : ℕ) (seen rest history mine : List E) → history ≡ seen ++ rest → mine ≡ made_by number seen → mine ≡ made_by number history → made_by number rest ≡ []
  others_behind number seen rest history mine is own all =
      nothing_behind (made_by number seen) (made_by number rest) (sym (made_by-append number seen rest) ∙ sym (ap (made_by number) is) ∙ sym all ∙ own)

  -- the opening has no entry of any number
  pub opening_of_none : (number : ℕ) (opening : List E) → IsOpening opening → made_by number opening ≡ []
  opening_of_none number opening o = ap (made_by number) o.is

  -- histories that go on from the same opening begin with it
  pub begins_alike : (opening xs ys : List E) → IsOpening opening → Continues opening xs → Continues opening ys → opening_of xs ≡ opening_of ys
  begins_alike opening xs ys o c d = begins xs c ∙ sym (begins ys d)
    where
      begins : (zs : List E) → Continues opening zs → opening_of zs ≡ Some o.opening
      begins zs c' = ap opening_of (c'.is ∙ ap (λ (l : List E). l ++ c'.rest) o.is)

  pub continues_itself : (xs : List E) → Continues xs xs
  continues_itself xs = record { rest = []; is = sym (append-nil xs) }

  -- a longer history continues what its beginning continues
  pub continues_longer : (seen before after : List E) (number : ℕ) → Continues seen before → Extends number before after → Continues seen after
  continues_longer seen before after number c x = record { rest = c.rest ++ own number x.items; is = x.is ∙ ap (λ (l : List E). l ++ own number x.items) c.is ∙ append_assoc seen c.rest (own number x.items) }

  -- another pass's entries stay as they were
  pub others_stay : (number n : ℕ) (before after : List E) → n ≢ number → Extends n before after → made_by number after ≡ made_by number before
  others_stay number n before after other x =
      ap (made_by number) x.is ∙ made_by-append number before (own n x.items) ∙ ap (λ (l : List E). made_by number before ++ l) (made_by-other number n x.items other) ∙ append-nil (made_by number before)

  -- the pass's own entries are followed by the new ones
  pub own_grow : (number : ℕ) (before after : List E) (items : List I) → after ≡ before ++ own number items → made_by number after ≡ made_by number before ++ own number items
  own_grow number before after items is = ap (made_by number) is ∙ made_by-append number before (own number items) ∙ ap (λ (l : List E). made_by number before ++ l) (made_by-own number items)
