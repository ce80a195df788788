-- What an answer to a question makes of the session that asked, by how it ended.
use Rattle.std.specs.Prelude.{ℕ, Bool, true, false, ◌||◌, if◌then◌else◌, Option, None}
use Rattle.pin_classifier.specs.declared.class.Class.{Class}
use Rattle.pin_classifier.specs.declared.class.Locking.TheVariants as locking
use Rattle.pin_classifier.specs.declared.class.Shape.TheVariants as shape
use Rattle.session_state.specs.Endings.{is_err}
use Rattle.session_state.specs.Pins.{is_pinned, no_pin, pin_after}
use Rattle.session_state.specs.declared.pin.Pin.{Pin}
use Rattle.session_state.specs.declared.reply_end.ReplyEnd.{ReplyEnd}
use Rattle.link_state.specs.Answers.{id_by}
use Rattle.link_state.specs.declared.asking.Asking.{Asking}
use Rattle.link_state.specs.declared.asking.Form.{Form}
use Rattle.link_state.specs.declared.asking.Form.TheVariants as forms
use Rattle.link_state.specs.declared.asking.Purpose.{Purpose}
use Rattle.link_state.specs.declared.asking.Purpose.TheVariants as purposes
use Rattle.client_desk.specs.declared.session.Session.{Session}

-- the class of what has no text; of a reset nothing is known by its class
abbrev pub plain_class : (deep marks : Bool) → Class
plain_class deep marks = record { deep = deep; locks = locking.None; next_tx = false; savepoint = false; ends_tx = false; outlasts_reset = false; marks_id = marks; sets_id = false; reads_id = false; reads_diag = deep; reads_found = deep; keeps_diag = true; keeps_found = true; calc_rows = false; refusal = None; shape = shape.Other }

abbrev pub class_in : Form → Class
class_in (forms.Text class) = class
class_in (forms.Prepare class) = class
class_in forms.Fields = plain_class false false
class_in (forms.SetId id) = plain_class false true
class_in forms.ReadId = plain_class false true
class_in forms.Reset = plain_class true true

-- an ERR, behind which nobody knows whether a transaction is open
abbrev pub erred : ReplyEnd → Pin → Pin
erred end pin = record pin { after_err = pin.after_err || is_err end }

abbrev pub pin_for : Purpose → Form → (multiplex : Option Bool) → ReplyEnd → Pin → Pin
pin_for (purposes.Statement name ordinal key) form multiplex end pin = pin_after (class_in form) multiplex end pin
pin_for (purposes.Prep name ordinal key) form multiplex end pin = if is_pinned pin then erred end pin else pin
pin_for (purposes.Sync name) form multiplex end pin = erred end pin
pin_for (purposes.End name) form multiplex end pin = no_pin
pin_for _ form multiplex end pin = pin

-- `number` is the one number of the answer
abbrev pub heard : Asking → (multiplex : Option Bool) → ReplyEnd → (number : Option ℕ) → Session → Session
heard asking multiplex end number s = record s {
  pin = pin_for asking.purpose asking.form multiplex end s.pin;
  id = id_by asking end number s.id;
}
