-- The classes of commands that have no text.
use Rattle.std.specs.Prelude.{ℕ, Bool, true, false, List, None}
use Rattle.pin_classifier.specs.declared.class.Class.{Class}
use Rattle.pin_classifier.specs.declared.class.Locking.TheVariants as locking
use Rattle.pin_classifier.specs.declared.class.Shape.{Shape}
use Rattle.pin_classifier.specs.declared.class.Shape.TheVariants as shapes
use Rattle.link_state.specs.declared.asking.Form.{Form}
use Rattle.link_state.specs.declared.asking.Form.TheVariants.{Text, Fields, Prepare, SetId, ReadId, Reset}

abbrev pub classless : (deep marks : Bool) → Shape → Class
classless deep marks shape = record {
  deep = deep;
  locks = locking.None;
  next_tx = false;
  savepoint = false;
  ends_tx = false;
  outlasts_reset = false;
  marks_id = marks;
  sets_id = false;
  reads_id = false;
  reads_diag = deep;
  reads_found = deep;
  keeps_diag = true;
  keeps_found = true;
  calc_rows = false;
  refusal = None;
  shape = shape;
}

-- whether nothing is known of it, as of a reset, and whether it marks the insert id
abbrev pub plain_class : (deep marks : Bool) → Class
plain_class deep marks = classless deep marks shapes.Other

abbrev pub use_class : (schema : List ℕ) → Class
use_class schema = classless false false (shapes.Use schema)

abbrev pub class_in : Form → Class
class_in (Text class) = class
class_in (Prepare class) = class
class_in Fields = plain_class false false
class_in (SetId id) = plain_class false true
class_in ReadId = plain_class false true
class_in Reset = plain_class true true
