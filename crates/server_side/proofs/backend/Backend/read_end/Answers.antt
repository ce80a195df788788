use Rattle.std.proofs.Common.{◌≡◌, IfSome, Bool, List, ℕ, Option, Some, None, sym, ap, subst, ◌∙◌}
use Rattle.std.specs.Prelude.{Result}
use Rattle.reply_text.specs.Replies.{is_lone}
use Rattle.packet_frame.specs.FramerState.{FramerState, past}
use Rattle.packet_frame.specs.Packets.{Framed}
use Rattle.server_side.specs.declared.fault.BackendFault.{BackendFault}
use Rattle.server_side.specs.declared.hear.Heard.{Heard}
use Rattle.server_side.specs.Login.{denied}
use Rattle.server_side.specs.Backend.{BackendState}
use Rattle.server_side.specs.Hearing.{Tells, accepted_by, behind, end_told, end_read}
use Rattle.server_side.proofs.backend.Backend.read_end.Goals as goal

ended : (found : Option Framed) (heard : Result Heard BackendFault) (new old : BackendState) (framer : FramerState) (payload again : List ℕ) (accepted : Bool)
    → IfSome found (λ message. payload ≡ message.payload) → denied payload ≡ None
    → IfSome found (λ message. again ≡ message.payload) → accepted ≡ is_lone again
    → framer ≡ past old.framer
    → Tells heard new (accepted_by accepted (record old { framer = framer }))
    → IfSome found (λ message. Tells heard new (end_read message (behind message old)))
ended None heard new old framer payload again accepted is undenied also lone gone tells = tt
ended (Some message) heard new old framer payload again accepted is undenied also lone gone tells =
    let none : denied message.payload ≡ None = ap denied (sym is) ∙ undenied in
    let takes : is_lone message.payload ≡ accepted = ap is_lone (sym also) ∙ sym lone in
    subst (λ (d : Option ℕ). Tells heard new (end_told d message (behind message old))) (sym none)
    (subst (λ (b : Bool). Tells heard new (accepted_by b (behind message old))) (sym takes)
    (subst (λ (f : FramerState). Tells heard new (accepted_by accepted (record old { framer = f }))) gone tells))

pub returns : goal.returns
returns c =
    rw (← c.self.view_is)
    (ended _ _ _
    (record { account = c.self.inside.account; framer = c.self.inside.framer; stage = c.self.inside.stage; own = c.self.inside.own; command = c.self.inside.command; reply = c.self.inside.reply })
    _ c.payload.result.now c.payload-2.result.now c.is_lone_reply-accepted.result
    c.payload.ensures (sym c.denied.ensures ∙ c.in_default.is) c.payload-2.ensures c.is_lone_reply-accepted.ensures c.done.ensures c.accept.ensures)
