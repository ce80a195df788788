-- The log passes the test, with texts read by the table; and the router reads texts as the table does.
use Rattle.std.specs.Prelude.{◌≡◌, ℕ, Bool, true, false, bytes_eq, if◌then◌else◌, List, refl, []}
use Rattle.std.proofs.Common.{ap, sym, ◌∙◌}
use Rattle.pin_classifier.specs.Classes.{class_of}
use Rattle.pin_classifier.specs.declared.class.Class.{Class}
use Rattle.server_rule.specs.Classes.{router_reads}
use Rattle.session_vars.specs.Settings.{collation_names}
use Rattle.promise_tests.proofs.Same.{same-bytes}
use Rattle.promise_tests.specs.Tests.{IsRight}
use Rattle.router_cases.proofs.OnLogs.{on_logs}
use Rattle.router_cases.specs.Worked.{Stored, names_text}
use Rattle.served_cases.proofs.OnTexts.{on_texts}
use Rattle.served_cases.specs.Served.{class_read, insert_class, log, names_class, reads_by, terms_by, text}

pub right : (stored : Stored) → IsRight (terms_by (reads_by class_read) stored) log
unfolding on_logs
right stored = record {
  table = [];
  own = λ m. refl;
  router = record { service = refl; room = refl };
  lawful = refl;
  moments = refl;
  entries = refl;
}

insert-is : insert_class ≡ class_of text
unfolding on_texts
insert-is = refl

names-is : names_class ≡ class_of names_text
unfolding on_texts collation_names
names-is = refl

-- a class that stands for that of one text
instead : (wanted : List ℕ) (class otherwise : Class) → class ≡ class_of wanted → (other : List ℕ)
    → otherwise ≡ class_of other → (same : Bool) → bytes_eq other wanted ≡ same
    → (if same then class else otherwise) ≡ class_of other
instead wanted class otherwise is other else-is true e =
    is ∙ ap class_of (sym (same-bytes other wanted e))
instead wanted class otherwise is other else-is false e = else-is

read-is : (other : List ℕ) → class_read other ≡ class_of other
read-is other =
    let otherwise =
    instead names_text names_class (class_of other) names-is other refl (bytes_eq other names_text) refl in
    instead text insert_class (if bytes_eq other names_text then names_class else class_of other)
    insert-is other otherwise (bytes_eq other text) refl

pub reads-is : reads_by class_read ≡ router_reads
unfolding router_reads
reads-is = ap reads_by (λ i other. read-is other i)
