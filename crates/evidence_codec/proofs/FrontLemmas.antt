-- A head at the front of bytes is read from its own bytes alone, whatever follows.
use Rattle.std.proofs.Common.{◌≡◌, ℕ, zero, suc, ◌+◌, ◌<◌, ◌≤◌, Bool, true, false, cond, ltb, List, [], ◌∷◌, ◌++◌, length, take, drop, Option, Some, None, Result, Ok, Err, refl, sym, ap, subst, ◌∙◌, append_assoc, length-append, arith, inl, inr, ◌⊎◌}
use Rattle.std.specs.Int.{Width, w16, w32, byte_len, from_be_bytes}
use Rattle.std.proofs.lemmas.Bool.{ltb-false, ltb-true}
use Rattle.std.proofs.lemmas.List.{take-append-drop, length-take}
use Rattle.evidence_types.specs.Heads.{Head, empty_head, nonce_head, usm_head, kim_head, seal_head, hash_head, seq_head, par_head}
use Rattle.evidence_codec.specs.declared.fault.BadKind.{BadKind}
use Rattle.evidence_codec.specs.declared.fault.BadKind.TheVariants.{Length, Tag}
use Rattle.evidence_codec.specs.declared.fault.Stop.{Stop}
use Rattle.evidence_codec.specs.declared.fault.Stop.TheVariants.{Wanting, Faulty}
use Rattle.evidence_codec.specs.declared.version.Version.{Version}
use Rattle.evidence_codec.specs.declared.version.Version.TheVariants.{Plain, Marked}
use Rattle.evidence_codec.specs.Reading.{◌>>=◌, Front, bytes_at, number_at, mark_at, length_index, answer_of_length, answer_at, nonce_at, usm_at, kim_at, seal_at, hash_at, fields_at, head_at}
use Rattle.evidence_codec.proofs.FieldLemmas.{bind_ok, guard_ok, done, ok_is, bytes_again}

-- the bytes that a thing was read from, at most so many
pub record Took (A : Type 0) (f : List ℕ → Front A) (most : ℕ) (bytes : List ℕ) (x : A × List ℕ) : Type 0 where
  pub front : List ℕ
  pub parts : bytes ≡ front ++ x.1
  pub short : length front ≤ most
  pub again : (more : List ℕ) → f (front ++ more) ≡ Ok (x.0, more)

-- a thing is read from at most so many bytes; fewer are there where one is wanted; and a fault stays, whatever follows, and is
-- at one of the first seven
pub record IsFront (A : Type 0) (f : List ℕ → Front A) (most : ℕ) : Type 0 where
  pub takes : (bytes : List ℕ) (x : A × List ℕ) → f bytes ≡ Ok x → Took A f most bytes x
  pub wants : (bytes : List ℕ) → f bytes ≡ Err Wanting → length bytes < most
  pub faults : (bytes more : List ℕ) (index : ℕ) (kind : BadKind) → f bytes ≡ Err (Faulty index kind) → f (bytes ++ more) ≡ Err (Faulty index kind)
  pub near : (bytes : List ℕ) (index : ℕ) (kind : BadKind) → f bytes ≡ Err (Faulty index kind) → index ≤ 6

abbrev stopped : {A : Type 0} → Stop → Result A Stop
stopped stop = Err stop

abbrev halted : (A : Type 0) → Stop → Result A Stop
halted A stop = Err stop

-- a longer bound
more-front : (A : Type 0) (f : List ℕ → Front A) (few most : ℕ) → few ≤ most → IsFront A f few → IsFront A f most
more-front A f few most le is = record {
  takes = λ bytes x e. let t = is.takes bytes x e in record { front = t.front; parts = t.parts; short = omega (arith, t.short, le); again = t.again };
  wants = λ bytes e. let w : length bytes < few = is.wants bytes e in omega (arith, w, le);
  faults = is.faults;
  near = is.near;
}

-- ---- one thing behind another

bind_wants : {A B : Type 0} (r : Result A Stop) (f : A → Result B Stop) → (r >>= f) ≡ Err Wanting → (r ≡ Err Wanting) ⊎ ((x : A) × (r ≡ Ok x) × (f x ≡ Err Wanting))
bind_wants (Ok x) f e = inr (x, refl, e)
bind_wants (Err d) f e = inl cc

pub bind_faults : {A B : Type 0} (r : Result A Stop) (f : A → Result B Stop) (index : ℕ) (kind : BadKind) → (r >>= f) ≡ Err (Faulty index kind) → (r ≡ Err (Faulty index kind)) ⊎ ((x : A) × (r ≡ Ok x) × (f x ≡ Err (Faulty index kind)))
bind_faults (Ok x) f index kind e = inr (x, refl, e)
bind_faults (Err d) f index kind e = inl cc

bind-front : (A B : Type 0) (f : List ℕ → Front A) (g : A → List ℕ → Front B) (m n : ℕ) → IsFront A f m → ((x : A) → IsFront B (g x) n) → IsFront B (λ bytes. f bytes >>= λ x. g x.0 x.1) (m + n)
bind-front A B f g m n F G = record {
  takes = λ bytes y e.
      let b = bind_ok (f bytes) (λ x. g x.0 x.1) y e in
      let t = F.takes bytes b.0 b.1 in
      let u = (G b.0.0).takes b.0.1 y b.2 in
      record {
        front = t.front ++ u.front;
        parts = t.parts ∙ ap (λ (l : List ℕ). t.front ++ l) u.parts ∙ sym (append_assoc t.front u.front y.1);
        short = omega (arith, t.short, u.short, length-append t.front u.front);
        again = λ more.
            ap (λ (l : List ℕ). f l >>= λ x. g x.0 x.1) (append_assoc t.front u.front more)
            ∙ ap (λ (r : Front A). r >>= λ x. g x.0 x.1) (t.again (u.front ++ more))
            ∙ u.again more;
      };
  wants = λ bytes e.
      elim (bind_wants (f bytes) (λ x. g x.0 x.1) e) [
        | inl w ↦ omega (arith, F.wants bytes w)
        | inr b ↦ omega (arith, (F.takes bytes b.0 b.1).short, ap length (F.takes bytes b.0 b.1).parts, length-append (F.takes bytes b.0 b.1).front b.0.1, (G b.0.0).wants b.0.1 b.2)
      ];
  faults = λ bytes more index kind e.
      elim (bind_faults (f bytes) (λ x. g x.0 x.1) index kind e) [
        | inl w ↦ ap (λ (r : Front A). r >>= λ x. g x.0 x.1) (F.faults bytes more index kind w)
        | inr b ↦ ap (λ (l : List ℕ). f (l ++ more) >>= λ x. g x.0 x.1) (F.takes bytes b.0 b.1).parts
            ∙ ap (λ (l : List ℕ). f l >>= λ x. g x.0 x.1) (append_assoc (F.takes bytes b.0 b.1).front b.0.1 more)
            ∙ ap (λ (r : Front A). r >>= λ x. g x.0 x.1) ((F.takes bytes b.0 b.1).again (b.0.1 ++ more))
            ∙ (G b.0.0).faults b.0.1 more index kind b.2
      ];
  near = λ bytes index kind e.
      elim (bind_faults (f bytes) (λ x. g x.0 x.1) index kind e) [
        | inl w ↦ F.near bytes index kind w
        | inr b ↦ (G b.0.0).near b.0.1 index kind b.2
      ];
}

done-front : (A : Type 0) (x : A) → IsFront A (λ rest. done (x, rest)) 0
done-front A x = record {
  takes = λ bytes y e. subst (λ (p : A × List ℕ). Took A (λ rest. done (x, rest)) 0 bytes p) (ok_is (x, bytes) y e) (record { front = []; parts = refl; short = omega arith; again = λ more. refl });
  wants = λ bytes e. absurd cc;
  faults = λ bytes more index kind e. absurd cc;
  near = λ bytes index kind e. absurd cc;
}

-- ---- the fields

guard_wants : {A : Type 0} (b : Bool) (x : A) → cond b (stopped Wanting) (done x) ≡ Err Wanting → b ≡ true
guard_wants true x e = refl
guard_wants false x e = absurd cc

pub guard_faults : {A : Type 0} (b : Bool) (x : A) (index : ℕ) (kind : BadKind) → cond b (stopped Wanting) (done x) ≡ Err (Faulty index kind) → ⊥
guard_faults true x index kind e = absurd cc
guard_faults false x index kind e = absurd cc

pub bytes-front : (count : ℕ) → IsFront (List ℕ) (bytes_at count) count
bytes-front count = record {
  takes = λ bytes x e.
      let g = guard_ok (ltb (length bytes) count) Wanting (done (take count bytes, drop count bytes)) x e in
      let long : count ≤ length bytes = ltb-false _ _ g.0 in
      let len : length (take count bytes) ≡ count = omega (arith, length-take count bytes, long) in
      subst (λ (p : List ℕ × List ℕ). Took (List ℕ) (bytes_at count) count bytes p) (ok_is (take count bytes, drop count bytes) x g.1)
      (record { front = take count bytes; parts = sym (take-append-drop count bytes); short = omega (arith, len); again = λ more. bytes_again count (take count bytes) more len });
  wants = λ bytes e. ltb-true _ _ (guard_wants (ltb (length bytes) count) (take count bytes, drop count bytes) e);
  faults = λ bytes more index kind e. absurd (guard_faults (ltb (length bytes) count) (take count bytes, drop count bytes) index kind e);
  near = λ bytes index kind e. absurd (guard_faults (ltb (length bytes) count) (take count bytes, drop count bytes) index kind e);
}

pub number-front : (w : Width) → IsFront ℕ (number_at w) (byte_len w)
number-front w =
    more-front ℕ (number_at w) (byte_len w + 0) (byte_len w) (omega arith)
    (bind-front (List ℕ) ℕ (bytes_at (byte_len w)) (λ text rest. done (from_be_bytes w text, rest)) (byte_len w) 0 (bytes-front (byte_len w)) (λ text. done-front ℕ (from_be_bytes w text)))

pub mark-front : (version : Version) → IsFront (Option ℕ) (mark_at version) 1
unfolding mark_at
mark-front Plain = more-front (Option ℕ) (mark_at Plain) 0 1 (omega arith) (done-front (Option ℕ) None)
mark-front Marked = record {
  takes = marked_takes;
  wants = marked_wants;
  faults = marked_faults;
  near = marked_near;
} where
  marked_takes : (bytes : List ℕ) (x : Option ℕ × List ℕ) → mark_at Marked bytes ≡ Ok x → Took (Option ℕ) (mark_at Marked) 1 bytes x
  marked_takes [] x e = absurd cc
  marked_takes (mark ∷ rest) x e = subst (λ (p : Option ℕ × List ℕ). Took (Option ℕ) (mark_at Marked) 1 (mark ∷ rest) p) (ok_is (Some mark, rest) x e) (record { front = mark ∷ []; parts = refl; short = omega arith; again = λ more. refl })

  marked_wants : (bytes : List ℕ) → mark_at Marked bytes ≡ Err Wanting → length bytes < 1
  marked_wants [] e = omega arith
  marked_wants (mark ∷ rest) e = absurd cc

  marked_near : (bytes : List ℕ) (index : ℕ) (kind : BadKind) → mark_at Marked bytes ≡ Err (Faulty index kind) → index ≤ 6
  marked_near [] index kind e = absurd cc
  marked_near (mark ∷ rest) index kind e = absurd cc

  marked_faults : (bytes more : List ℕ) (index : ℕ) (kind : BadKind) → mark_at Marked bytes ≡ Err (Faulty index kind) → mark_at Marked (bytes ++ more) ≡ Err (Faulty index kind)
  marked_faults [] more index kind e = absurd cc
  marked_faults (mark ∷ rest) more index kind e = absurd cc

same_index : (a b : ℕ) (k l : BadKind) → Faulty a k ≡ Faulty b l → a ≡ b
same_index a b k l e = cc

stopped-is : {A : Type 0} (a b : Stop) → halted A a ≡ halted A b → a ≡ b
stopped-is a b e = cc

limited-front : (b : Bool) (index : ℕ) (kind : BadKind) (f : List ℕ → Front (List ℕ)) (most : ℕ) → index ≤ 6 → (b ≡ false → IsFront (List ℕ) f most) → IsFront (List ℕ) (λ bytes. cond b (stopped (Faulty index kind)) (f bytes)) most
limited-front true index kind f most le is = record {
  takes = λ bytes x e. absurd cc;
  wants = λ bytes e. absurd cc;
  faults = λ bytes more i k e. e;
  near = λ bytes i k e. omega (arith, le, same_index index i kind k (stopped-is {A = List ℕ × List ℕ} (Faulty index kind) (Faulty i k) e));
}
limited-front false index kind f most le is = is refl

index_few : (version : Version) → length_index version ≤ 6
index_few Plain = omega arith
index_few Marked = omega arith

limit-front : (version : Version) (count : ℕ) → IsFront (List ℕ) (answer_of_length version count) 1024
unfolding answer_of_length
limit-front version count =
    limited-front (ltb 1024 count) (length_index version) Length (bytes_at count) 1024 (index_few version) (λ e. more-front (List ℕ) (bytes_at count) count 1024 (ltb-false _ _ e) (bytes-front count))

answer-front : (version : Version) → IsFront (List ℕ) (answer_at version) 1026
unfolding answer_at
answer-front version = bind-front ℕ (List ℕ) (number_at w16) (λ count rest. answer_of_length version count rest) 2 1024 (number-front w16) (λ count. limit-front version count)

-- ---- the heads

nonce-front : IsFront Head nonce_at 16
unfolding nonce_at
nonce-front = bind-front (List ℕ) Head (bytes_at 16) (λ text rest. done (nonce_head text, rest)) 16 0 (bytes-front 16) (λ text. done-front Head (nonce_head text))

seal-front : IsFront Head seal_at 36
unfolding seal_at
seal-front =
    bind-front ℕ Head (number_at w32) (λ event rest. bytes_at 32 rest >>= λ found. done (seal_head event found.0, found.1)) 4 32 (number-front w32)
    (λ event. bind-front (List ℕ) Head (bytes_at 32) (λ text rest. done (seal_head event text, rest)) 32 0 (bytes-front 32) (λ text. done-front Head (seal_head event text)))

hash-front : IsFront Head hash_at 36
unfolding hash_at
hash-front =
    bind-front ℕ Head (number_at w32) (λ event rest. bytes_at 32 rest >>= λ found. done (hash_head event found.0, found.1)) 4 32 (number-front w32)
    (λ event. bind-front (List ℕ) Head (bytes_at 32) (λ text rest. done (hash_head event text, rest)) 32 0 (bytes-front 32) (λ text. done-front Head (hash_head event text)))

usm-front : (version : Version) → IsFront Head (usm_at version) 1031
unfolding usm_at
usm-front version =
    bind-front ℕ Head (number_at w32) (λ event rest. mark_at version rest >>= λ mark. answer_at version mark.1 >>= λ answer. done (usm_head event mark.0 answer.0, answer.1)) 4 1027 (number-front w32)
    (λ event. bind-front (Option ℕ) Head (mark_at version) (λ mark rest. answer_at version rest >>= λ answer. done (usm_head event mark answer.0, answer.1)) 1 1026 (mark-front version)
    (λ mark. bind-front (List ℕ) Head (answer_at version) (λ answer rest. done (usm_head event mark answer, rest)) 1026 0 (answer-front version) (λ answer. done-front Head (usm_head event mark answer))))

kim-front : (version : Version) → IsFront Head (kim_at version) 1031
unfolding kim_at
kim-front version =
    bind-front ℕ Head (number_at w32) (λ event rest. mark_at version rest >>= λ mark. answer_at version mark.1 >>= λ answer. done (kim_head event mark.0 answer.0, answer.1)) 4 1027 (number-front w32)
    (λ event. bind-front (Option ℕ) Head (mark_at version) (λ mark rest. answer_at version rest >>= λ answer. done (kim_head event mark answer.0, answer.1)) 1 1026 (mark-front version)
    (λ mark. bind-front (List ℕ) Head (answer_at version) (λ answer rest. done (kim_head event mark answer, rest)) 1026 0 (answer-front version) (λ answer. done-front Head (kim_head event mark answer))))

tag-front : IsFront Head (λ rest. stopped (Faulty 0 Tag)) 0
tag-front = record {
  takes = λ bytes x e. absurd cc;
  wants = λ bytes e. absurd cc;
  faults = λ bytes more i k e. e;
  near = λ bytes i k e. omega (arith, same_index 0 i Tag k (stopped-is {A = Head × List ℕ} (Faulty 0 Tag) (Faulty i k) e));
}

fields-front : (version : Version) (tag : ℕ) → IsFront Head (fields_at version tag) 1031
unfolding fields_at
fields-front version zero = more-front Head (fields_at version zero) 0 1031 (omega arith) (done-front Head empty_head)
fields-front version (suc zero) = more-front Head nonce_at 16 1031 (omega arith) nonce-front
fields-front version (suc (suc zero)) = usm-front version
fields-front version (suc (suc (suc zero))) = kim-front version
fields-front version (suc (suc (suc (suc zero)))) = more-front Head seal_at 36 1031 (omega arith) seal-front
fields-front version (suc (suc (suc (suc (suc zero))))) = more-front Head hash_at 36 1031 (omega arith) hash-front
fields-front version (suc (suc (suc (suc (suc (suc zero)))))) = more-front Head (fields_at version 6) 0 1031 (omega arith) (done-front Head seq_head)
fields-front version (suc (suc (suc (suc (suc (suc (suc zero))))))) = more-front Head (fields_at version 7) 0 1031 (omega arith) (done-front Head par_head)
fields-front version (suc (suc (suc (suc (suc (suc (suc (suc more)))))))) = more-front Head (λ rest. stopped (Faulty 0 Tag)) 0 1031 (omega arith) tag-front

pub head-front : (version : Version) → IsFront Head (head_at version) 1032
unfolding head_at
head-front version = record { takes = takes; wants = wants; faults = faults; near = near } where
  takes : (bytes : List ℕ) (x : Head × List ℕ) → head_at version bytes ≡ Ok x → Took Head (head_at version) 1032 bytes x
  takes [] x e = absurd cc
  takes (tag ∷ rest) x e =
      let t = (fields-front version tag).takes rest x e in
      record { front = tag ∷ t.front; parts = ap (λ (l : List ℕ). tag ∷ l) t.parts; short = omega (arith, t.short); again = t.again }

  wants : (bytes : List ℕ) → head_at version bytes ≡ Err Wanting → length bytes < 1032
  wants [] e = omega arith
  wants (tag ∷ rest) e = let w : length rest < 1031 = (fields-front version tag).wants rest e in omega (arith, w)

  faults : (bytes more : List ℕ) (index : ℕ) (kind : BadKind) → head_at version bytes ≡ Err (Faulty index kind) → head_at version (bytes ++ more) ≡ Err (Faulty index kind)
  faults [] more index kind e = absurd cc
  faults (tag ∷ rest) more index kind e = (fields-front version tag).faults rest more index kind e

  near : (bytes : List ℕ) (index : ℕ) (kind : BadKind) → head_at version bytes ≡ Err (Faulty index kind) → index ≤ 6
  near [] index kind e = absurd cc
  near (tag ∷ rest) index kind e = (fields-front version tag).near rest index kind e
