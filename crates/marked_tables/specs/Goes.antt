-- What is to be read and written by marked tables, and what each change of them keeps. Only links that are open are looked at.
use Rattle.std.specs.Prelude.{◌≡◌, ℕ, Bool, true, ◌&&◌, ◌||◌, is_some, length, if◌then◌else◌, Option, None}
use Rattle.mx_base.specs.Sent.{Sent}
use Rattle.mx_base.specs.declared.names.LinkId.{LinkId}
use Rattle.ready_loop.specs.Changes.{ChangesOnly}
use Rattle.core_tables.specs.Tables.{Tabled, tables_of}
use Rattle.core_says.specs.Says.{reads_in, sends_in}
use Rattle.link_marks.specs.Marks.{is_known, is_marked}
use Rattle.marked_tables.specs.declared.marked.MarkedTables.{MarkedTables}

abbrev pub reads_on : MarkedTables → LinkId → Bool
reads_on m link = is_known m.changed link && reads_in (tables_of m.tables) link

abbrev pub sends_on : MarkedTables → LinkId → Option Sent
sends_on m link = if is_known m.changed link then sends_in (tables_of m.tables) link else None

abbrev pub changed_on : MarkedTables → LinkId → Bool
changed_on m link = is_marked m.changed link

abbrev pub unnamed_in : MarkedTables → ℕ
unnamed_in m = length m.changed.marked.order

-- a server or a client is there by this link
abbrev pub has_row : Tabled → LinkId → Bool
has_row t link = is_some (t.links link) || is_some (t.numbers link)

-- each such link is known to the marks
abbrev pub AreKnown : MarkedTables → Type 0
AreKnown m = (link : LinkId) → has_row (tables_of m.tables) link ≡ true → is_known m.changed link ≡ true

-- On links that aren't marked no more is read or written than was; and links that have a row stay known.
pub record GoesOn (old new : MarkedTables) : Type 0 where
  pub changes : ChangesOnly changed_on reads_on sends_on old new
  pub known : AreKnown old → AreKnown new
