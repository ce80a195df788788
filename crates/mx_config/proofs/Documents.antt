-- Documents, and the items of an array.
use Rattle.std.proofs.Common.{◌≡◌, ℕ, suc, List, [], ◌∷◌, length, Some, None, refl, ap, inl, inr}
use Rattle.std.proofs.lemmas.Bool.{cases_Bool}
use Rattle.std.proofs.lemmas.Str.{IsUtf8-from_is_utf8, is_utf8-from_IsUtf8}
use Rattle.std.specs.Str.{IsUtf8, is_utf8}
use Rattle.toml.specs.Parse.{parse_document}
use Rattle.toml.specs.Data.{Members}
use Rattle.toml.specs.View.{items_view}
use Rattle.toml.specs.declared.value.Value.{Value}
use Rattle.mx_config.specs.Reading.{document_of}
use Rattle.mx_config.specs.Tables.{count}

pub count-items_view : (values : List Value) → count (items_view values) ≡ length values
count-items_view [] = refl
count-items_view (v ∷ values) = ap suc (count-items_view values)

pub ruleset counting = (count-items_view)

pub document_of-read : (bytes : List ℕ) (file : Members) → IsUtf8 bytes → parse_document bytes ≡ Some file → document_of bytes ≡ Some file
document_of-read bytes file utf8 parsed = rw (is_utf8-from_IsUtf8 bytes utf8) parsed

pub document_of-refused : (bytes : List ℕ) → (IsUtf8 bytes → parse_document bytes ≡ None) → document_of bytes ≡ None
document_of-refused bytes refused =
    elim (cases_Bool (is_utf8 bytes)) [
      | inl text ↦ rw text (refused (IsUtf8-from_is_utf8 bytes text))
      | inr other ↦ rw other refl
    ]
