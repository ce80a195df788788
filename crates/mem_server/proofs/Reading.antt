-- One more note is read.
use Rattle.std.specs.Prelude.{◌≡◌, ℕ, zero, suc, ◌-◌, ◌<◌, List, [], ◌∷◌, ◌++◌, None, Some}
use Rattle.std.proofs.Common.{refl, sym, ap, ◌∙◌, arith, append_assoc, append-nil}
use Rattle.mem_rule.specs.Notes.{note_at, notes_from, notes_of, notes_with}
use Rattle.mem_rule.specs.declared.note.Note.{Note}

notes_step : (left at : ℕ) (bytes : List ℕ) → 0 < left → notes_from left at bytes ≡ notes_with (note_at at bytes) (λ next. notes_from (left - 1) next bytes)
notes_step zero at bytes some = absurd (omega arith)
notes_step (suc left) at bytes some = let e : suc left - 1 ≡ left = omega arith in rw e refl

-- no note stands there
pub all_read : (left at : ℕ) (bytes : List ℕ) (items : List Note) → 0 < left → items ++ notes_from left at bytes ≡ notes_of bytes → note_at at bytes ≡ None → items ≡ notes_of bytes
all_read left at bytes items some whole none =
    let rest : notes_from left at bytes ≡ [] = notes_step left at bytes some ∙ ap (λ note. notes_with note (λ next. notes_from (left - 1) next bytes)) none in
    sym (append-nil items) ∙ ap (λ more. items ++ more) (sym rest) ∙ whole

-- a note stands there
pub one_more : (left at : ℕ) (bytes : List ℕ) (items : List Note) (note : Note) (next : ℕ) → 0 < left → items ++ notes_from left at bytes ≡ notes_of bytes → note_at at bytes ≡ Some (note, next)
    → (items ++ note ∷ []) ++ notes_from (left - 1) next bytes ≡ notes_of bytes
one_more left at bytes items note next some whole there =
    let rest : notes_from left at bytes ≡ note ∷ notes_from (left - 1) next bytes = notes_step left at bytes some ∙ ap (λ note. notes_with note (λ next. notes_from (left - 1) next bytes)) there in
    append_assoc items (note ∷ []) (notes_from (left - 1) next bytes) ∙ ap (λ more. items ++ more) (sym rest) ∙ whole
