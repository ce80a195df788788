-- The entry of each answer of a wire.
use Rattle.std.specs.Prelude.{ℕ, ◌<◌, ◌≤◌, List, Option, Some, None, take}
use Rattle.mx_base.specs.declared.names.LinkId.{LinkId}
use Rattle.mx_base.specs.declared.names.ServerId.{ServerId}
use Rattle.mx_base.specs.declared.names.Port.{Port}
use Rattle.mx_base.specs.declared.names.Address.{Address}
use Rattle.mx_base.specs.declared.tag.Tag.{Tag}
use Rattle.mx_wire.specs.declared.entry.Entry.{Entry}
use Rattle.mx_wire.specs.declared.entry.Entry.TheVariants as entry
use Rattle.mx_wire.specs.declared.wire.Listened.{Listened}
use Rattle.mx_wire.specs.declared.wire.Listened.TheVariants as listened
use Rattle.mx_wire.specs.declared.wire.Woke.{Woke}
use Rattle.mx_wire.specs.declared.wire.Woke.TheVariants as woke
use Rattle.mx_wire.specs.declared.wire.Accepted.{Accepted}
use Rattle.mx_wire.specs.declared.wire.Accepted.TheVariants as accepted
use Rattle.mx_wire.specs.declared.wire.Opened.{Opened}
use Rattle.mx_wire.specs.declared.wire.Opened.TheVariants as opened
use Rattle.mx_wire.specs.declared.wire.Got.{Got}
use Rattle.mx_wire.specs.declared.wire.Got.TheVariants as got
use Rattle.mx_wire.specs.declared.wire.Took.{Took}
use Rattle.mx_wire.specs.declared.wire.Took.TheVariants as took

abbrev pub listened_entry : Port → Address → Listened → Entry
listened_entry port address listened.Done = entry.Listening port address
listened_entry port address listened.Failed = entry.ListenFailed port

abbrev pub woke_entry : ℕ → Woke → Entry
woke_entry until_ms (woke.Woke now_ms) = entry.Woke until_ms now_ms
woke_entry until_ms woke.Over = entry.Over
woke_entry until_ms woke.Failed = entry.WaitFailed

abbrev pub named_entry : Option LinkId → Entry
named_entry (Some link) = entry.Named link
named_entry None = entry.NoneNamed

abbrev pub accepted_entry : Port → Accepted → Entry
accepted_entry port (accepted.Link link salt) = entry.Accepted port link salt
accepted_entry port accepted.NotReady = entry.AcceptNothing port
accepted_entry port accepted.Failed = entry.AcceptFailed port

abbrev pub opened_entry : ServerId → Address → Opened → Entry
opened_entry server address (opened.Link link) = entry.Opened server address link
opened_entry server address opened.Failed = entry.OpenFailed server address

abbrev pub got_entry : LinkId → List ℕ → Got → Entry
got_entry link into (got.Got n) = entry.Got link (take n into)
got_entry link into got.NotReady = entry.ReadNothing link
got_entry link into got.End = entry.Ended link
got_entry link into got.Failed = entry.ReadFailed link

abbrev pub took_entry : LinkId → Tag → List ℕ → Took → Entry
took_entry link tag piece (took.Took n) = entry.Wrote link tag (take n piece)
took_entry link tag piece took.NotReady = entry.WriteNothing link
took_entry link tag piece took.Failed = entry.WriteFailed link

pub record IsPiece (room n : ℕ) : Type 0 where
  pub some : 0 < n
  pub fits : n ≤ room

-- a read is of at least one byte, and of no more than there is room for
abbrev pub ReadsAtMost : ℕ → Got → Type 0
ReadsAtMost room (got.Got n) = IsPiece room n
ReadsAtMost room _ = Unit {0}

abbrev pub TakesAtMost : ℕ → Took → Type 0
TakesAtMost len (took.Took n) = IsPiece len n
TakesAtMost len _ = Unit {0}
