-- What an entry makes of the counts of a tale.
use Rattle.std.specs.Prelude.{Bool, None, false, ◌≡◌, ◌+◌, true, is_some}
use Rattle.mx_wire.specs.declared.entry.Entry.{Entry}
use Rattle.mx_wire.specs.declared.entry.Entry.TheVariants.{Ended, Got, ReadFailed, Woke, WriteFailed, Wrote}
use Rattle.private_model.specs.Names.{ClientNo}
use Rattle.private_model.specs.View.{Setup}
use Rattle.log_story.specs.Servers.{may_begin}
use Rattle.log_story.specs.Tale.{Client, Tale, is_to_server}
use Rattle.step_laws.specs.Seats.{IsSeated}
use Rattle.router_laws.specs.decisions.Deeds.{Counts, Deeds, taken_by}

-- clients took up what was decided of
abbrev pub TakesSo : Counts → Deeds → Tale → Type 0
TakesSo n deeds new =
    (client : Client) → IsSeated new client
    → client.taken ≡ n.taken client.number + taken_by (deeds.calls client.number) (deeds.halts client.number)

-- what is written on a link to a server begins a question just where one was decided of
abbrev pub BeginsSo : Setup → Tale → Entry → Deeds → Type 0
BeginsSo setup tale (Wrote link tag bytes) deeds =
    is_to_server tale link ≡ true → may_begin setup link (tale.wires link) tale ≡ is_some deeds.begun
BeginsSo setup tale _ deeds = Unit {0}

-- by which nobody takes up messages but whose message is given up
abbrev pub is_no_event : Entry → Bool
is_no_event (Woke until_ms now_ms) = false
is_no_event (Got link bytes) = false
is_no_event (Ended link) = false
is_no_event (ReadFailed link) = false
is_no_event (WriteFailed link) = false
is_no_event _ = true

-- nobody takes up anything, nor is anything given up
pub record CallsNone (deeds : Deeds) : Type 0 where
  pub given : (c : ClientNo) → deeds.given c ≡ None
  pub none_taken : (c : ClientNo) → taken_by (deeds.calls c) (deeds.halts c) ≡ 0
