-- What bytes behind a command begin with, as the manual has it (client/server protocol, "Command Phase").
use Rattle.std.specs.Prelude.{◌≡◌, ◌<◌, ℕ, ◌+◌, List, ◌++◌, length, take}
use Rattle.reply_track.specs.declared.reply.ReplyEnd.{ReplyEnd}
use Rattle.reply_track.specs.Replying.{sought}
use Rattle.reply_track.specs.Tracking.{Sought, IsWhole, GoesOn, NoneGoesOn}
use Rattle.exchange.specs.Replies.{Answer, Heard, Partly, Wholly, Never, Form}

-- the reply of this form
abbrev pub of_form : Form → Sought
of_form form = sought form.kind form.first form.first

-- a part of a reply, to which more has to come
abbrev pub IsPart : Form → (bytes : List ℕ) → Type 0
IsPart form bytes = GoesOn (of_form form) bytes

-- a whole reply, and the bytes behind it
pub record HasReply (form : Form) (bytes : List ℕ) (reply : Answer) (rest : List ℕ) : Type 0 where
  pub front : List ℕ
  pub end : ReplyEnd
  pub is : bytes ≡ front ++ rest
  pub whole : IsWhole (of_form form) front reply end

-- bytes with which no reply goes on, of which the one at this place is the first
pub record GoesWrong (form : Form) (bytes : List ℕ) (place : ℕ) : Type 0 where
  pub within : place < length bytes
  pub good : GoesOn (of_form form) (take place bytes)
  pub bad : NoneGoesOn (of_form form) (take (place + 1) bytes)

abbrev pub IsHeard : Form → (bytes : List ℕ) → Heard → Type 0
IsHeard form bytes Partly = IsPart form bytes
IsHeard form bytes (Wholly reply rest) = HasReply form bytes reply rest
IsHeard form bytes (Never place) = GoesWrong form bytes place
