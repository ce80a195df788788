-- A client's statement in work.
use Rattle.std.specs.Prelude.{ℕ, Bool, true, false, List, Option, Some, None}
use Rattle.link_state.specs.declared.asking.Form.{Form}
use Rattle.link_state.specs.declared.asking.Form.TheVariants as forms
use Rattle.link_state.specs.declared.wish.Wanted.{Wanted}
use Rattle.client_desk.specs.declared.work.Body.{Body}
use Rattle.client_desk.specs.declared.work.Body.TheVariants.{Packets, Run, Away}
use Rattle.client_desk.specs.declared.work.Work.{Work}

-- its packets, where they stand there
abbrev pub packets_in : Body → Option (List ℕ)
packets_in (Packets bytes) = Some bytes
packets_in _ = None

abbrev pub taken_from : Body → Body
taken_from (Packets bytes) = Away
taken_from body = body

-- its class goes to a link, and so do its packets
abbrev pub formless : Work → Work
formless work = record work { form = None }

abbrev pub without_packets : Work → Work
without_packets work = record work { body = taken_from work.body }

-- which come back, where none of their bytes was written
abbrev pub body_back : Option (List ℕ) → Body → Body
body_back (Some bytes) body = Packets bytes
body_back None body = body

abbrev pub given_back : Form → (packets : Option (List ℕ)) → Work → Work
given_back form packets work = record work { form = Some form; body = body_back packets work.body }

-- it went out
abbrev pub gone_out : Work → Work
gone_out work = record work { sent = true; form = None; body = Away }

-- what a link is to know of it
abbrev pub wanted_of : (id : Option ℕ) → Work → Wanted
wanted_of id work = record { command = work.command; key = work.key; marks = work.marks; id = id }

-- a reset may not take back what it does
abbrev pub outlasts : Form → Bool
outlasts (forms.Text class) = class.outlasts_reset
outlasts _ = false
