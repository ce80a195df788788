use Rattle.std.proofs.Common.{◌≡◌, IfSome, Bool, true, List, ℕ, Option, Some, None, sym, ap, subst, ◌∙◌}
use Rattle.std.specs.Prelude.{Result, Ok, if◌then◌else◌}
use Rattle.packet_frame.specs.Packets.{Framed}
use Rattle.packet_frame.specs.FramerState.{FramerState, past}
use Rattle.handshake.specs.declared.fault.HandFault.{HandFault}
use Rattle.handshake.specs.declared.switch.Switch.{Switch}
use Rattle.handshake.specs.Switch.{switch_of}
use Rattle.server_side.specs.declared.fault.BackendFault.{BackendFault}
use Rattle.server_side.specs.declared.hear.Heard.{Heard}
use Rattle.server_side.specs.Login.{asks_switch}
use Rattle.server_side.specs.Backend.{BackendState}
use Rattle.server_side.specs.Hearing.{Tells, switched, switch_told, behind, end_read, welcome_read}
use Rattle.server_side.proofs.backend.Backend.read_welcome.Goals as goal

asked : (found : Option Framed) (heard : Result Heard BackendFault) (new old : BackendState) (framer : FramerState) (payload again : List ℕ) (switch : Switch)
    → IfSome found (λ message. payload ≡ message.payload) → asks_switch payload ≡ true
    → IfSome found (λ message. again ≡ message.payload) → Ok switch ≡ switch_of again
    → framer ≡ past old.framer
    → Tells heard new (switched switch (record old { framer = framer }))
    → IfSome found (λ message. Tells heard new (welcome_read message (behind message old)))
asked None heard new old framer payload again switch is asks also reads gone tells = tt
asked (Some message) heard new old framer payload again switch is asks also reads gone tells =
    let yes : asks_switch message.payload ≡ true = ap asks_switch (sym is) ∙ asks in
    let told : switch_of message.payload ≡ Ok switch = ap switch_of (sym also) ∙ sym reads in
    subst (λ (b : Bool). Tells heard new (if b then switch_told (switch_of message.payload) (behind message old) else end_read message (behind message old))) (sym yes)
    (subst (λ (r : Result Switch HandFault). Tells heard new (switch_told r (behind message old))) (sym told)
    (subst (λ (f : FramerState). Tells heard new (switched switch (record old { framer = f }))) gone tells))

pub returns-in-Ok : goal.returns-in-Ok
returns-in-Ok c =
    rw (← c.self.view_is)
    (asked _ _ _
    (record { account = c.self.inside.account; framer = c.self.inside.framer; stage = c.self.inside.stage; own = c.self.inside.own; command = c.self.inside.command; reply = c.self.inside.reply })
    _ c.payload.result.now c.payload-2.result.now c.in-Ok.switch
    c.payload.ensures (sym c.asks_switch.ensures ∙ c.if-not-asks_switch.false) c.payload-2.ensures c.in-Ok.ensures c.done.ensures c.switch.ensures)
