-- What lines are counted by: their digests and the names of their classes.
use Rattle.std.specs.Prelude.{ℕ, Bool, ◌&&◌, ◌==◌, nat_eq, bytes_eq, List, if◌then◌else◌}
use Rattle.std.specs.Ordering.{nat_cmp, ordering_then}
use Rattle.std.specs.Cmp.Lexicographic.{slice_cmp}
use Rattle.std.specs.declared.cmp.Ordering.{Ordering}
use Rattle.query_digest.specs.Digest.{digest_of}
use Rattle.pin_classifier.specs.Classes.{class_of}
use Rattle.pin_classifier.specs.Kinds.{name_of}
use Rattle.pin_classifier.specs.declared.class.ClassName.{ClassName}
use Rattle.pin_classifier.specs.declared.class.ClassName.TheVariants.{Refused, Deep, Locks, NextTx, Diag, Plain}
use Rattle.audit_report.specs.declared.key.Key.{Key}

-- the name's place in the order of the names' bytes: deep, diag, locks, nexttx, none, refused
abbrev pub place_of : ClassName → ℕ
place_of Deep = 0
place_of Diag = 1
place_of Locks = 2
place_of NextTx = 3
place_of Plain = 4
place_of Refused = 5

abbrev pub named : ℕ → ClassName
named place =
    if place == 0 then Deep
    else if place == 1 then Diag
    else if place == 2 then Locks
    else if place == 3 then NextTx
    else if place == 4 then Plain
    else Refused

unfoldable pub key_of : (line : List ℕ) → Key
key_of line = record { digest = digest_of line; name = place_of (name_of (class_of line)) }

abbrev pub same_key : Key → Key → Bool
same_key a b = bytes_eq a.digest b.digest && nat_eq a.name b.name

abbrev pub key_cmp : Key → Key → Ordering
key_cmp a b = ordering_then (slice_cmp nat_cmp a.digest b.digest) (nat_cmp a.name b.name)
