use Rattle.std.proofs.Common.{◌≡◌, ◌++◌, true, List, ℕ, sym, ◌∙◌}
use Rattle.std.specs.Prelude.{Result, bytes_eq}
use Rattle.packet_frame.specs.FramerState.{look}
use Rattle.handshake.specs.declared.switch.Switch.{Switch}
use Rattle.handshake.specs.Switch.{native_password}
use Rattle.server_side.specs.declared.fault.BackendFault.{BackendFault}
use Rattle.server_side.specs.declared.hear.Heard.{Heard}
use Rattle.server_side.specs.declared.stage.Stage.TheVariants.{Switched}
use Rattle.server_side.specs.Login.{answer_said}
use Rattle.server_side.specs.Backend.{BackendState}
use Rattle.server_side.specs.Hearing.{Tells, switched, end_found}
use Rattle.server_side.proofs.backend.Backend.switch.Goals as goal

answers : (switch : Switch) (heard : Result Heard BackendFault) (new old : BackendState) (own packet : List ℕ)
    → bytes_eq switch.plugin native_password ≡ true → own ≡ old.own ++ packet → packet ≡ answer_said old.account switch.salt
    → Tells heard new (end_found (record old { own = own; stage = Switched }) (look 4 old.framer))
    → Tells heard new (switched switch old)
answers switch heard new old own packet native pushed said tells = rw (native, ← said, ← pushed) tells

pub returns : goal.returns
returns c =
    rw (← c.self.view_is)
    (answers c.args.switch _ _
    (record { account = c.self.inside.account; framer = c.self.inside.framer; stage = c.self.inside.stage; own = c.self.inside.own; command = c.self.inside.command; reply = c.self.inside.reply })
    c.push.new.self c.deref.result.now (rw (← c.as_slice.ensures) (sym c.is_native.ensures ∙ c.if-not-is_native.false))
    c.in_ok-push.ensures.ok (c.deref.ensures.value ∙ c.in_ok-packet.ensures) c.hear_end.ensures)
