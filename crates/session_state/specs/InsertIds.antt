-- The insert id of a session, where it is known.
use Rattle.std.specs.Prelude.{ℕ, Bool, ◌&&◌, ◌||◌, if◌then◌else◌, Option, None}
use Rattle.pin_classifier.specs.declared.class.Class.{Class}
use Rattle.session_state.specs.Endings.{is_err, brings_id}
use Rattle.session_state.specs.declared.reply_end.ReplyEnd.{ReplyEnd}

-- after a reply to a text; it may hide that it sets it
abbrev pub id_after_text : Class → (hides : Bool) → ReplyEnd → Option ℕ → Option ℕ
id_after_text class hides end old = if (class.marks_id && (class.deep || (hides || brings_id end))) then None else old

-- a STMT_PREPARE leaves it, but an ERR to one counts as of its text
abbrev pub id_prepared : Class → ReplyEnd → Option ℕ → Option ℕ
id_prepared class end old = if (class.marks_id && is_err end) then None else old
