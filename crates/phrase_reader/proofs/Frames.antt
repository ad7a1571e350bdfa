-- The open branches: the last of the list is the innermost.
use Rattle.std.proofs.Common.{◌≡◌, ◌+◌, ◌++◌, ◌==◌, suc, List, [], ◌∷◌, Option, Some, None, length, refl, ap, ◌∙◌, sym, arith, if◌then◌else◌, true, false, is_some, option_map, vec_len}
use Rattle.std.proofs.lemmas.Bool.{cond-false, cond-true, ne_eqb, false≢true}
use Rattle.phrase_tree.specs.Term.{Term}
use Rattle.phrase_reader.specs.declared.state.Frame as coded
use Rattle.phrase_reader.specs.declared.state.State as whole
use Rattle.phrase_reader.specs.Machine.{State, state_of, stage_of, parts_of, unit_of, branch_of, whole_with, finished, Frame, frame_of, frames_on, finished_with}

pub frames_push : (stack : List Frame) (frames : List coded.Frame) (frame : coded.Frame) → frames_on stack (frames ++ frame ∷ []) ≡ frame_of frame ∷ frames_on stack frames
frames_push stack [] frame = refl
frames_push stack (first ∷ rest) frame = frames_push (frame_of first ∷ stack) rest frame

pub frames_len_on : (stack : List Frame) (frames : List coded.Frame) → length (frames_on stack frames) ≡ length frames + length stack
frames_len_on stack [] = omega arith
frames_len_on stack (first ∷ rest) = omega (arith, frames_len_on (frame_of first ∷ stack) rest)

pub frames_len : (frames : List coded.Frame) → length (frames_on [] frames) ≡ length frames
frames_len frames = omega (arith, frames_len_on [] frames)

finished_on : (frame : Frame) (stack : List Frame) (frames : List coded.Frame) (phrase : Option Term) → finished_with (frames_on (frame ∷ stack) frames) phrase ≡ None
finished_on frame stack [] phrase = refl
finished_on frame stack (first ∷ rest) phrase = finished_on (frame_of first) (frame ∷ stack) rest phrase

pub finished_when : (frames : List coded.Frame) (phrase : Option Term) → finished_with (frames_on [] frames) phrase ≡ (if length frames == 0 then phrase else None)
finished_when [] phrase = refl
finished_when (first ∷ rest) phrase =
    finished_on (frame_of first) [] rest phrase ∙ sym (cond-false (suc (length rest) == 0) phrase None (ne_eqb (suc (length rest)) 0 (λ e. omega arith)))

some_map : {A B : Type 0} (f : A → B) (o : Option A) → is_some (option_map f o) ≡ is_some o
some_map f None = refl
some_map f (Some x) = refl

pub finished_empty : (state : whole.State) → (vec_len state.frames == 0) ≡ true → is_some (finished (state_of state)) ≡ is_some (unit_of (stage_of state.stage))
finished_empty state h =
    ap is_some (finished_when state.frames.items (branch_of (state_of state)) ∙ cond-true (length state.frames.items == 0) (branch_of (state_of state)) None (ap (λ n. n == 0) (sym state.frames.ok.0) ∙ h))
    ∙ some_map (whole_with (parts_of state.inner)) (unit_of (stage_of state.stage))

pub finished_open : (state : whole.State) → (vec_len state.frames == 0) ≡ false → is_some (finished (state_of state)) ≡ false
finished_open state h =
    ap is_some (finished_when state.frames.items (branch_of (state_of state)) ∙ cond-false (length state.frames.items == 0) (branch_of (state_of state)) None (ap (λ n. n == 0) (sym state.frames.ok.0) ∙ h))

finished_on_stack : (stack : List Frame) (phrase : Option Term) → is_some (finished_with stack phrase) ≡ true → finished_with stack phrase ≡ phrase
finished_on_stack [] phrase h = refl
finished_on_stack (frame ∷ rest) phrase h = absurd (false≢true h)

pub finished_some : (state : State) → is_some (finished state) ≡ true → finished state ≡ branch_of state
finished_some state h = finished_on_stack state.stack (branch_of state) h

pub none_from : {A : Type 0} (o : Option A) → is_some o ≡ false → o ≡ None
none_from None h = refl
none_from (Some x) h = absurd (false≢true (sym h))
