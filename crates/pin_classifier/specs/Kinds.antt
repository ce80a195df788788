-- The names of classes in reports.
use Rattle.std.specs.Prelude.{ℕ, Bool, true, false, ◌||◌, is_some, List, codes, if◌then◌else◌}
use Rattle.pin_classifier.specs.declared.class.Class.{Class}
use Rattle.pin_classifier.specs.declared.class.ClassName.{ClassName}
use Rattle.pin_classifier.specs.declared.class.ClassName.TheVariants.{Refused, Deep, Locks, NextTx, Diag, Plain}
use Rattle.pin_classifier.specs.declared.class.Refusal.{Refusal}
use Rattle.pin_classifier.specs.declared.class.Refusal.TheVariants.{SetsServer, NamesConnection, ReadsLast}
use Rattle.pin_classifier.specs.declared.class.Locking.{Locking}
use Rattle.pin_classifier.specs.declared.class.Locking.TheVariants.{Takes}

-- the number of the error
abbrev pub code_of : Refusal → ℕ
code_of SetsServer = 9108
code_of NamesConnection = 9107
code_of ReadsLast = 9106

abbrev pub takes_locks : Locking → Bool
takes_locks Takes = true
takes_locks _ = false

-- the first that holds
abbrev pub name_of : Class → ClassName
name_of class =
    if is_some class.refusal then Refused
    else if class.deep then Deep
    else if takes_locks class.locks then Locks
    else if class.next_tx then NextTx
    else if class.reads_diag || class.calc_rows then Diag
    else Plain

-- as it is printed
abbrev pub printed : ClassName → List ℕ
printed Refused = codes "refused"
printed Deep = codes "deep"
printed Locks = codes "locks"
printed NextTx = codes "nexttx"
printed Diag = codes "diag"
printed Plain = codes "none"
