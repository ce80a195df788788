-- What one more line, or one more entry, adds.
use Rattle.std.proofs.Common.{◌≡◌, ℕ, ◌<◌, ◌+◌, false, List, [], ◌∷◌, ◌++◌, length, take, get_or, Option, sym, ◌∙◌, ap, subst}
use Rattle.std.specs.List.{filter_map, cons_option}
use Rattle.std.proofs.lemmas.List.{take_more}
use Rattle.std.proofs.lemmas.List.Elements.{filter_map-append}
use Rattle.recording.specs.declared.entry.RecordEntry.{RecordEntry}
use Rattle.mem_wire.specs.Lines.{is_at}
use Rattle.mem_wire.specs.Cuts.{NoMoment}

pub no_moment-more : (lines : List RecordEntry) (line : RecordEntry) → NoMoment lines → is_at line ≡ false → NoMoment (lines ++ line ∷ [])
no_moment-more [] line none this = (this, tt)
no_moment-more (l ∷ lines) line none this = (none.0, no_moment-more lines line none.1 this)

pub no_moment-next : (lines : List RecordEntry) (i : ℕ) (d : RecordEntry) → i < length lines → NoMoment (take i lines) → is_at (get_or lines i d) ≡ false → NoMoment (take (i + 1) lines)
no_moment-next lines i d within none this = subst NoMoment (sym (take_more lines i d within)) (no_moment-more (take i lines) (get_or lines i d) none this)

-- what is given of one more line
pub filter_map-next : {X : Type 0} (f : RecordEntry → Option X) (lines : List RecordEntry) (i : ℕ) (d : RecordEntry) (o : Option X) → i < length lines → f (get_or lines i d) ≡ o → filter_map f (take (i + 1) lines) ≡ filter_map f (take i lines) ++ cons_option o []
filter_map-next f lines i d o within this =
    ap (filter_map f) (take_more lines i d within) ∙ filter_map-append f (take i lines) (get_or lines i d ∷ [])
    ∙ ap (λ given. filter_map f (take i lines) ++ cons_option given []) this
