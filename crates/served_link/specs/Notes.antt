-- What an answer makes of what is kept beside the link.
use Rattle.std.specs.Prelude.{ℕ, Bool, false, not, ◌&&◌, ◌||◌, is_some, Option}
use Rattle.std.specs.Option.{option_map}
use Rattle.session_state.specs.Endings.{is_err, is_ok}
use Rattle.session_state.specs.declared.reply_end.ReplyEnd.{ReplyEnd}
use Rattle.link_state.specs.Answers.{id_by}
use Rattle.link_state.specs.Behind.{pin_for}
use Rattle.link_state.specs.declared.asking.Asking.{Asking}
use Rattle.link_state.specs.declared.asking.Purpose.{Purpose}
use Rattle.link_state.specs.declared.asking.Purpose.TheVariants.{Statement, Prep, Sync, Own, End, Capture}
use Rattle.served_link.specs.declared.row.LeftSession.{LeftSession}
use Rattle.served_link.specs.declared.row.Row.{Row}

-- An answer that isn't as it should be: one to a step in an OK or an ERR, to a reset in an OK, and to the question for an insert id one
-- number.
abbrev pub is_amiss : Purpose → ReplyEnd → (number : Option ℕ) → Bool
is_amiss (Statement name ordinal key) end number = false
is_amiss (Prep name ordinal key) end number = false
is_amiss (Sync name) end number = not (is_ok end || is_err end)
is_amiss Own end number = not (is_ok end || is_err end)
is_amiss (End name) end number = not (is_ok end)
is_amiss (Capture name) end number = not (not (is_err end) && is_some number)

-- an ERR to a step of nobody's, or to a preparation
abbrev pub refuses : Purpose → ReplyEnd → Bool
refuses Own end = is_err end
refuses (Prep name ordinal key) end = is_err end
refuses _ end = false

-- a session that was left, behind what was asked for it

abbrev pub left_for : Purpose → Asking → (multiplex : Option Bool) → ReplyEnd → (number : Option ℕ) → LeftSession → LeftSession
left_for Own asking multiplex end number left = left
left_for _ asking multiplex end number left = record left {
  pin = pin_for asking.purpose asking.form multiplex end left.pin;
  id = id_by asking end number left.id;
}

abbrev pub left_behind : Asking → (multiplex : Option Bool) → ReplyEnd → (number : Option ℕ) → LeftSession → LeftSession
left_behind asking multiplex end number left = left_for asking.purpose asking multiplex end number left

abbrev pub left_heard : Asking → ReplyEnd → (number : Option ℕ) → Row → Option LeftSession
left_heard asking end number row = option_map (left_behind asking row.multiplex end number) row.left

abbrev pub noted : Asking → ReplyEnd → (number : Option ℕ) → Row → Row
noted asking end number row = record row {
  amiss = is_amiss asking.purpose end number;
  refused = refuses asking.purpose end;
  left = left_heard asking end number row;
}
