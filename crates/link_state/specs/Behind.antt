-- What an answer to a question makes of the session that asked, by how it ended.
use Rattle.std.specs.Prelude.{Bool, ◌||◌, if◌then◌else◌, Option}
use Rattle.session_state.specs.Endings.{is_err}
use Rattle.session_state.specs.Pins.{is_pinned, no_pin, pin_after}
use Rattle.session_state.specs.declared.pin.Pin.{Pin}
use Rattle.session_state.specs.declared.reply_end.ReplyEnd.{ReplyEnd}
use Rattle.link_state.specs.declared.asking.Form.{Form}
use Rattle.link_state.specs.declared.asking.Purpose.{Purpose}
use Rattle.link_state.specs.declared.asking.Purpose.TheVariants as purposes
use Rattle.link_state.specs.Classes.{class_in}

-- an ERR, behind which nobody knows whether a transaction is open
abbrev pub erred : ReplyEnd → Pin → Pin
erred end pin = record pin { after_err = pin.after_err || is_err end }

abbrev pub pin_for : Purpose → Form → (multiplex : Option Bool) → ReplyEnd → Pin → Pin
pin_for (purposes.Statement name ordinal key) form multiplex end pin = pin_after (class_in form) multiplex end pin
pin_for (purposes.Prep name ordinal key) form multiplex end pin = if is_pinned pin then erred end pin else pin
pin_for (purposes.Sync name) form multiplex end pin = erred end pin
pin_for (purposes.End name) form multiplex end pin = no_pin
pin_for _ form multiplex end pin = pin
