-- What servers tell are bytes.
use Rattle.std.specs.Prelude.{◌≡◌, true}
use Rattle.mx_base.specs.Fields.{AreBytes}
use Rattle.mx_base.specs.declared.names.LinkId.{LinkId}
use Rattle.mx_wire.specs.declared.entry.Entry.{Entry}
use Rattle.mx_wire.specs.declared.entry.Entry.TheVariants.{Got}
use Rattle.log_story.specs.Tale.{Tale, is_to_server}
use Rattle.run_laws.specs.Reads.{AllHeard}

-- those that weren't read of it yet, and the numbers of what was
pub record TellsBytes (tale : Tale) : Type 0 where
  pub unread : (l : LinkId) → AreBytes (tale.wires l).unread
  pub heard : AllHeard tale.story

-- and what an entry reads of one
abbrev pub GetsBytes : Tale → Entry → Type 0
GetsBytes tale (Got link bytes) = is_to_server tale link ≡ true → AreBytes bytes
GetsBytes tale _ = Unit {0}
