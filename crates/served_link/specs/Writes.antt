-- What is written on a link, and how that uses it.
use Rattle.std.specs.Prelude.{ℕ, Bool, true, false, if◌then◌else◌, unwrap_or, Option, Some, None}
use Rattle.link_state.specs.declared.asking.Purpose.{Purpose}
use Rattle.link_state.specs.declared.asking.Purpose.TheVariants.{Statement, Prep}
use Rattle.lent_link.specs.Links.{is_in, wrote_on}
use Rattle.lent_link.specs.declared.link.Begins.{Begins}
use Rattle.lent_link.specs.declared.link.Begins.TheVariants as begins
use Rattle.lent_link.specs.declared.link.LentLink.{LentLink}
use Rattle.served_link.specs.Numbers.{without}
use Rattle.served_link.specs.declared.row.Row.{Row}
use Rattle.served_link.specs.declared.writing.Kind.{Kind}
use Rattle.served_link.specs.declared.writing.Kind.TheVariants.{GoesOn, Asks, Drops, Quits}

-- What begins with the next byte.

abbrev pub kind_of : Option Begins → Kind
kind_of None = GoesOn
kind_of (Some (begins.Asks asking)) = Asks asking.purpose
kind_of (Some (begins.Closes number)) = Drops number
kind_of (Some (begins.Resets number)) = Drops number
kind_of (Some begins.Quits) = Quits

abbrev pub next_kind : LentLink → Kind
next_kind link = if is_in link.login.stage then kind_of link.next else GoesOn

abbrev pub began : Kind → Option Purpose
began (Asks purpose) = Some purpose
began _ = None

-- with it the link carries a session
abbrev pub lends : Purpose → Bool
lends (Statement name ordinal key) = true
lends (Prep name ordinal key) = true
lends _ = false

-- How a link is used. An execute leaves its long data there, and a STMT_CLOSE or a STMT_RESET takes them back; no QUIT is a use, nor what
-- is written behind it.

abbrev pub lengthened : Row → Row
lengthened row = record row { long = unwrap_or row.longer row.long; longer = None }

abbrev pub used_for : Kind → (now : ℕ) → Row → Row
used_for GoesOn now row = if row.link.quits then row else record row { used = now }
used_for (Asks purpose) now row = record row {
  used = now;
  long = unwrap_or row.longer row.long;
  longer = None;
  readied = if lends purpose then None else row.readied;
}
used_for (Drops number) now row = record row { used = now; long = without number row.long }
used_for Quits now row = row

abbrev pub wrote_behind : (count : ℕ) → Row → Row
wrote_behind count row = record row { link = wrote_on count row.link }

abbrev pub wrote : (count now : ℕ) → Row → Row
wrote count now row = wrote_behind count (used_for (next_kind row.link) now row)
