-- What is asked of a number that was read of an answer.
use Rattle.std.specs.Prelude.{◌≡◌, ℕ, ◌-◌, List, length, take, Option}
use Rattle.reply_track.specs.Replying.{payloads_in}
use Rattle.reply_track.specs.Runs.Ending.{Ended}
use Rattle.reply_track.specs.declared.reply.ReplyEnd.{ReplyEnd}
use Rattle.log_story.specs.Servers.{read_as, reply_id}
use Rattle.log_story.specs.Tale.{Wire}
use Rattle.link_state.specs.Asks.{kind_of}
use Rattle.link_state.specs.declared.asking.Asking.{Asking}
use Rattle.link_state.specs.declared.state.Stage.TheVariants.{Answered}
use Rattle.lent_link.specs.Hears.{expecting}
use Rattle.served_link.specs.Hears.{made_in, number_read, seen}
use Rattle.served_link.specs.declared.row.Row.{Row}
use Rattle.row_laws.specs.Unread.{IsNumberFor}

-- the number that code reads, where these bytes end an answer with the first `used` of them
abbrev pub number_heard : (bytes : List ℕ) → (used : ℕ) → Row → Option ℕ
number_heard bytes used row = number_read (seen (take used (made_in (expecting row.link).reading bytes)) row).cell

-- it is the law's, where the answer asks for one
abbrev pub IsNumbered : (bytes : List ℕ) → Row → Wire → Type 0
IsNumbered bytes row fed =
    (asking : Asking) (end : ReplyEnd) (rest : List ℕ) → (expecting row.link).state.stage ≡ Answered asking
    → read_as (kind_of asking.form) fed ≡ Ended end rest
    → IsNumberFor asking.form (number_heard bytes (length bytes - length rest) row)
    (payloads_in (reply_id fed) (take (length fed.unread - length rest) fed.unread))
