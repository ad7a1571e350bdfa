-- The sessions of a made job (this project's own).
use Rattle.std.specs.Prelude.{◌%◌, ℕ, zero, suc, true, List, [], ◌∷◌, ◌++◌, Option}
use Rattle.std.specs.Int.{to_be_bytes, w64}
use Rattle.phrase_tree.specs.Term.{Term, par}
use Rattle.session_model.specs.Session.{Session}
use Rattle.load_maker.specs.Made.{Made, made}
use Rattle.load_maker.specs.Names.{place_name}
use Rattle.load_maker.specs.Phrases.{drawn_phrase, signs}

-- both arms in parallel, on all the evidence before them
abbrev pub both : Term → Term → Term
both left right = par (signs true true) left right

-- four phrases of depth 3, made in their order, as four arms: `M1 +~+ (M2 +~+ (M3 +~+ M4))`
unfoldable pub four_arms : Option ℕ → Made Term
four_arms from =
    let first = drawn_phrase 3 from in
    let second = drawn_phrase 3 first.from in
    let third = drawn_phrase 3 second.from in
    let fourth = drawn_phrase 3 third.from in
    made (both first.thing (both second.thing (both third.thing fourth.thing))) fourth.from

-- the nonce of a session: the job's number and the session's, as eight bytes each, the highest first
abbrev pub made_nonce : ℕ → ℕ → List ℕ
made_nonce number index = to_be_bytes w64 number ++ to_be_bytes w64 index

-- the session of an index: the places are its roots in turn
unfoldable pub made_session : ℕ → ℕ → Option ℕ → Made Session
made_session number index from =
    let phrase = four_arms from in
    made (record { root = place_name (index % 8); nonce = made_nonce number index; phrase = phrase.thing }) phrase.from

-- the sessions of the indices below one
unfoldable pub made_sessions : ℕ → ℕ → Option ℕ → Made (List Session)
made_sessions number zero from = made [] from
made_sessions number (suc n) from =
    let before = made_sessions number n from in
    let session = made_session number n before.from in
    made (before.thing ++ session.thing ∷ []) session.from
