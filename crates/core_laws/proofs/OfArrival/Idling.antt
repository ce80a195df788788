-- Clients of which nothing may be taken up.
use Rattle.std.specs.Prelude.{◌≡◌, Bool, true, false, not, ◌&&◌, slice_get, Option, Some, None}
use Rattle.std.proofs.Common.{refl, ap}
use Rattle.packet_frame.specs.Packets.{Framed}
use Rattle.private_model.specs.View.{Setup}
use Rattle.log_story.specs.Clients.{is_up, next_taken, waits_for_capture}
use Rattle.log_story.specs.Owed.{messages}
use Rattle.log_story.specs.Plan.{Plan}
use Rattle.log_story.specs.Tale.{Client, Tale, view_of}
use Rattle.step_laws.specs.Taken.{IsIdle}

idle-by : (setup : Setup) (plan : Plan) (client : Client) (tale : Tale) (message : Option Framed) → is_up setup plan client tale ≡ false
    → next_taken setup plan client message tale ≡ None
idle-by setup plan client tale None down = refl
idle-by setup plan client tale (Some message) down = rw down refl

-- none is up
pub down-idles : (setup : Setup) (plan : Plan) (client : Client) (tale : Tale) → is_up setup plan client tale ≡ false → IsIdle setup plan tale client
down-idles setup plan client tale down = idle-by setup plan client tale (slice_get (messages plan client) client.taken) down

-- or none is whole
pub lack-idles : (setup : Setup) (plan : Plan) (client : Client) (tale : Tale) → slice_get (messages plan client) client.taken ≡ None → IsIdle setup plan tale client
lack-idles setup plan client tale none = ap (λ (message : Option Framed). next_taken setup plan client message tale) none

-- It is up by three tests.

and-second : (a b c : Bool) → b ≡ false → a && (b && c) ≡ false
and-second true b c is = ap (λ (x : Bool). x && c) is
and-second false b c is = refl

pub waiting-idles : (setup : Setup) (plan : Plan) (client : Client) (tale : Tale) → waits_for_capture (view_of setup tale) plan client ≡ true → IsIdle setup plan tale client
waiting-idles setup plan client tale waits = down-idles setup plan client tale (and-second _ _ _ (ap not waits))
