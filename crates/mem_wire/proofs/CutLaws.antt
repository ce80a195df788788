-- What a cut says of the lines that are released.
use Rattle.std.proofs.Common.{◌≡◌, ℕ, zero, suc, ◌<◌, ◌≤◌, ◌+◌, ◌-◌, ◌==◌, Bool, true, false, List, [], ◌∷◌, ◌++◌, length, take, drop, if◌then◌else◌, Some, None, refl, sym, ◌∙◌, ap, subst, arith, append-nil, length-append}
use Rattle.std.specs.Prelude.{◌&&◌, slice_get}
use Rattle.std.specs.List.{cons_option}
use Rattle.std.proofs.lemmas.List.{take-append-drop, drop-take, length-take-le}
use Rattle.std.proofs.lemmas.List.Elements.{filter_map-append}
use Rattle.std.proofs.Math.Seq.{take-add}
use Rattle.recording.specs.declared.entry.RecordEntry.{RecordEntry}
use Rattle.recording.specs.declared.entry.RecordEntry.TheVariants as line
use Rattle.mem_wire.specs.Lines.{is_at, moment_at, moments, released, released_last}
use Rattle.mem_wire.specs.Cuts.{NoMoment, EndsAtMoment, first_moment}
use Rattle.mem_wire.specs.Naming.{lines_between}
use Rattle.mem_wire.specs.Stands.{CutsAt}

released-none : (rest : List RecordEntry) → EndsAtMoment rest → released 0 rest ≡ []
released-none [] ends = refl
released-none (l ∷ rest) ends = ap (λ b. if b && true then [] else l ∷ released (if b then 0 - 1 else 0) rest) ends

moment-count : (line : RecordEntry) (later : List ℕ) → length (cons_option (moment_at line) later) ≡ (if is_at line then suc (length later) else length later)
moment-count (line.At ms) later = refl
moment-count _ later = refl

released-step : (b : Bool) (n : ℕ) (l : RecordEntry) (rest front : List RecordEntry) → released n rest ≡ front → (if b && ((if b then suc n else n) == 0) then [] else l ∷ released (if b then (if b then suc n else n) - 1 else (if b then suc n else n)) rest) ≡ l ∷ front
released-step true n l rest front is = ap (λ b. if b then [] else l ∷ released (suc n - 1) rest) (let e : (suc n == 0) ≡ false = grind arith in e) ∙ ap (λ (k : ℕ). l ∷ released k rest) (let e : suc n - 1 ≡ n = omega arith in e) ∙ ap (λ (ls : List RecordEntry). l ∷ ls) is
released-step false n l rest front is = ap (λ (ls : List RecordEntry). l ∷ ls) is

released-front : (front rest : List RecordEntry) → EndsAtMoment rest → released (length (moments front)) (front ++ rest) ≡ front
released-front [] rest ends = released-none rest ends
released-front (l ∷ front) rest ends =
    ap (λ (k : ℕ). released k (l ∷ front ++ rest)) (moment-count l (moments front))
    ∙ released-step (is_at l) (length (moments front)) l (front ++ rest) front (released-front front rest ends)

pub cut-released : (recording : List RecordEntry) (at n : ℕ) → CutsAt recording at n → released n recording ≡ take at recording
cut-released recording at n cut =
    ap (λ (lines : List RecordEntry). released n lines) (sym (take-append-drop at recording))
    ∙ ap (λ (k : ℕ). released k (take at recording ++ drop at recording)) (sym cut.count_is)
    ∙ released-front (take at recording) (drop at recording) cut.ends

pub last-drop : (recording : List RecordEntry) (last cut n : ℕ) → CutsAt recording last (n - 1) → CutsAt recording cut n → last ≤ cut → cut ≤ length recording → released_last n recording ≡ drop last (take cut recording)
last-drop recording last cut n before now le within =
    ap (λ (lines : List RecordEntry). drop (length lines) (released n recording)) (cut-released recording last (n - 1) before)
    ∙ ap (λ (k : ℕ). drop k (released n recording)) (length-take-le last recording (omega arith))
    ∙ ap (drop last) (cut-released recording cut n now)

pub last-lines : (recording : List RecordEntry) (last cut n : ℕ) → CutsAt recording last (n - 1) → CutsAt recording cut n → last ≤ cut → cut ≤ length recording → released_last n recording ≡ lines_between last cut recording
last-lines recording last cut n before now le within =
    last-drop recording last cut n before now le within
    ∙ ap (λ (k : ℕ). drop last (take k recording)) (let e : cut ≡ last + (cut - last) = omega arith in e)
    ∙ drop-take last (cut - last) recording

first-is : (rest : List RecordEntry) (ms : ℕ) → first_moment rest ≡ Some ms → (later : List ℕ) × (moments rest ≡ ms ∷ later)
first-is [] ms first = cc
first-is (l ∷ rest) ms first = (moments rest, ap (λ o. cons_option o (moments rest)) first)

no-moments : (lines : List RecordEntry) → NoMoment lines → moments lines ≡ []
no-moments [] none = refl
no-moments (line.At ms ∷ lines) none = absurd (let h : true ≡ false = none.0 in cc)
no-moments (_ ∷ lines) none = no-moments lines none.1

one-moment : (rest : List RecordEntry) (ms count : ℕ) → first_moment rest ≡ Some ms → 0 < count → NoMoment (drop 1 (take count rest)) → length (moments (take count rest)) ≡ 1
one-moment [] ms count first some none = cc
one-moment (l ∷ rest) ms zero first some none = absurd (omega arith)
one-moment (l ∷ rest) ms (suc count) first some none =
    ap (λ o. length (cons_option o (moments (take count rest)))) first ∙ ap (λ (ls : List ℕ). length (ms ∷ ls)) (no-moments (take count rest) none)

get-behind : (a b : List ℕ) (x : ℕ) → slice_get (a ++ x ∷ b) (length a) ≡ Some x
get-behind [] b x = refl
get-behind (y ∷ a) b x = get-behind a b x

moments-parts : (recording : List RecordEntry) (at : ℕ) → moments recording ≡ moments (take at recording) ++ moments (drop at recording)
moments-parts recording at = ap moments (sym (take-append-drop at recording)) ∙ filter_map-append moment_at (take at recording) (drop at recording)

pub moment-is : (recording rest : List RecordEntry) (at n ms : ℕ) → CutsAt recording at n → rest ≡ drop at recording → first_moment rest ≡ Some ms → slice_get (moments recording) n ≡ Some ms
moment-is recording rest at n ms cut is first =
    let found = first-is rest ms first in
    ap (λ (ms : List ℕ). slice_get ms n) (moments-parts recording at ∙ ap (λ (lines : List RecordEntry). moments (take at recording) ++ moments lines) (sym is) ∙ ap (λ (ms : List ℕ). moments (take at recording) ++ ms) found.1)
    ∙ ap (λ (k : ℕ). slice_get (moments (take at recording) ++ ms ∷ found.0) k) (sym cut.count_is) ∙ get-behind (moments (take at recording)) found.0 ms

pub cut-next : (recording rest : List RecordEntry) (at n ms count : ℕ) → CutsAt recording at n → rest ≡ drop at recording → first_moment rest ≡ Some ms → 0 < count → NoMoment (drop 1 (take count rest)) → EndsAtMoment (drop (at + count) recording) → CutsAt recording (at + count) (n + 1)
cut-next recording rest at n ms count cut is first some none ends = record {
  count_is =
      ap (λ (lines : List RecordEntry). length (moments lines)) (take-add at count recording ∙ ap (λ (lines : List RecordEntry). take at recording ++ take count lines) (sym is))
      ∙ ap length (filter_map-append moment_at (take at recording) (take count rest)) ∙ length-append (moments (take at recording)) (moments (take count rest))
      ∙ ap (λ (k : ℕ). k + length (moments (take count rest))) cut.count_is ∙ ap (λ (k : ℕ). n + k) (one-moment rest ms count first some none);
  ends = ends;
}

at-none : (l : RecordEntry) → is_at l ≡ true → moment_at l ≡ None → ⊥
at-none (line.At ms) at none = cc
at-none _ at none = cc

none-left : (rest : List RecordEntry) → EndsAtMoment rest → first_moment rest ≡ None → moments rest ≡ []
none-left [] ends first = refl
none-left (l ∷ rest) ends first = absurd (at-none l ends first)

pub over-is : (recording rest : List RecordEntry) (at n : ℕ) → CutsAt recording at n → rest ≡ drop at recording → first_moment rest ≡ None → length (moments recording) ≤ n
over-is recording rest at n cut is first =
    let left : moments rest ≡ [] = none-left rest (subst EndsAtMoment (sym is) cut.ends) first in
    let all : length (moments recording) ≡ n =
    ap length (moments-parts recording at ∙ ap (λ (lines : List RecordEntry). moments (take at recording) ++ moments lines) (sym is) ∙ ap (λ (ms : List ℕ). moments (take at recording) ++ ms) left ∙ append-nil (moments (take at recording)))
    ∙ cut.count_is in
    omega arith
