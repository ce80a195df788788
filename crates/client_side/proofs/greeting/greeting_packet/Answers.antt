use Rattle.std.proofs.Common.{◌≡◌, IfOk, List, ℕ, refl, subst}
use Rattle.packet_frame.specs.Packets.{spelling}
use Rattle.handshake.specs.Greeting.{greeting_bytes}
use Rattle.client_side.specs.Login.{own_greeting}
use Rattle.client_side.proofs.greeting.greeting_packet.Goals as goal

pub returns : goal.returns
returns c =
    let said : c.deref.result.now ≡ greeting_bytes (own_greeting c.args.number.0 c.args.salt c.args.version.now) =
    rw (c.deref.ensures.value, c.in_ok-write_greeting.ensures.ok, c.new-payload.ensures.items, c.in_ok-from_slice.ensures, c.in_ok-from_slice-2.ensures) refl
    in
    subst (λ (bytes : List ℕ). IfOk c.packet.result (λ packet. packet.items ≡ spelling 0 bytes)) said c.packet.ensures
