-- A step changes nothing of who the client is; where memory was refused to it, it comes as it would have come.
use Rattle.std.specs.Prelude.{◌≡◌, ℕ, Bool, true, false, Result, Ok, Err, if◌then◌else◌, refl}
use Rattle.std.proofs.Common.{sym, ◌∙◌, ap, subst, inl, inr}
use Rattle.packet_frame.specs.FramerState.{FramerState, look, seen}
use Rattle.packet_frame.specs.Packets.{Found, next_id}
use Rattle.packet_frame.specs.Packets.Found.{Nothing, Whole, Faulty}
use Rattle.handshake.specs.declared.fault.HandFault.{HandFault}
use Rattle.handshake.specs.declared.response.Response.{Response}
use Rattle.handshake.specs.Response.{response_of}
use Rattle.client_side.specs.declared.stage.Stage.{Stage}
use Rattle.client_side.specs.declared.stage.Stage.TheVariants as stage
use Rattle.client_side.specs.Login.{needs_switch}
use Rattle.client_side.specs.Client.{ClientState, IsSame}
use Rattle.client_side.specs.Steps.{look_login, next_of, looked, answer_found, response_found, response_read, command_found, logs_in, behind, asked, IsAskedOnly, IsUnanswered, IsHeldUp}

-- who the client is

looked-same : (client : ClientState) (found : Found) → IsSame client (looked client found)
looked-same client Nothing = (refl, refl, refl, refl)
looked-same client (Whole message rest) = (refl, refl, refl, refl)
looked-same client (Faulty fault) = (refl, refl, refl, refl)

answer-same : (client : ClientState) (response : Response) (found : Found) → IsSame client (answer_found response client found).client
answer-same client response Nothing = (refl, refl, refl, refl)
answer-same client response (Whole message rest) = (refl, refl, refl, refl)
answer-same client response (Faulty fault) = (refl, refl, refl, refl)

choice-same : (client : ClientState) (id : ℕ) (response : Response) (switches : Bool) → IsSame client (if switches then answer_found response (asked response client) (look_login 3 client.framer) else logs_in response id client).client
choice-same client id response true = answer-same (asked response client) response (look_login 3 client.framer)
choice-same client id response false = (refl, refl, refl, refl)

read-same : (client : ClientState) (id : ℕ) (decoded : Result Response HandFault) → IsSame client (response_read id decoded client).client
read-same client id (Err fault) = (refl, refl, refl, refl)
read-same client id (Ok response) = choice-same client id response (needs_switch response.plugin)

response-same : (client : ClientState) (found : Found) → IsSame client (response_found client found).client
response-same client Nothing = (refl, refl, refl, refl)
response-same client (Whole message rest) = read-same (behind message client) (next_id message.last) (response_of message.payload)
response-same client (Faulty fault) = (refl, refl, refl, refl)

command-same : (client : ClientState) (found : Found) → IsSame client (command_found client found).client
command-same client Nothing = (refl, refl, refl, refl)
command-same client (Whole message rest) = (refl, refl, refl, refl)
command-same client (Faulty fault) = (refl, refl, refl, refl)

pub next_same : (at : Stage) (client : ClientState) → IsSame client (next_of at client).client
next_same stage.Response client = response-same client (look_login 1 client.framer)
next_same (stage.Answer response) client = answer-same client response (look_login 3 client.framer)
next_same (stage.Login response first) client = (refl, refl, refl, refl)
next_same (stage.Refused first fault) client = (refl, refl, refl, refl)
next_same stage.Commands client = command-same client (look 0 client.framer)

-- memory was refused

-- who looked finds the same again
look-seen : (first : ℕ) (framer : FramerState) (found : Found) → look_login first framer ≡ found → look_login first (seen framer found) ≡ found
look-seen first framer Nothing is = is
look-seen first framer (Whole message rest) is = is
look-seen first framer (Faulty fault) is = refl

answer-again : (client : ClientState) (response : Response) (found : Found) → answer_found response (looked client found) found ≡ answer_found response client found
answer-again client response Nothing = refl
answer-again client response (Whole message rest) = refl
answer-again client response (Faulty fault) = refl

answer-looked : (client : ClientState) (response : Response) → answer_found response (looked client (look_login 3 client.framer)) (look_login 3 (looked client (look_login 3 client.framer)).framer) ≡ answer_found response client (look_login 3 client.framer)
answer-looked client response =
    let found : Found = look_login 3 client.framer in
    ap (answer_found response (looked client found)) (look-seen 3 client.framer found refl) ∙ answer-again client response found

asked-again : (client new : ClientState) (id : ℕ) (decoded : Result Response HandFault) → IsAskedOnly decoded client new → next_of new.stage new ≡ response_read id decoded client
asked-again client new id (Err fault) held = absurd held
asked-again client new id (Ok response) held =
    subst (λ (n : ClientState). next_of n.stage n ≡ response_read id (Ok response) client) (sym held.1) (rw held.0 (answer-looked (asked response client) response))

unanswered-again : (old new : ClientState) (found : Found) → old.stage ≡ stage.Response → look_login 1 old.framer ≡ found → IsUnanswered old found new → next_of new.stage new ≡ response_found old found
unanswered-again old new Nothing due is held = absurd held
unanswered-again old new (Whole message rest) due is (inl same) =
    subst (λ (n : ClientState). next_of n.stage n ≡ response_found old (Whole message rest)) (sym same)
    (ap (λ (s : Stage). next_of s (looked old (Whole message rest))) due ∙ ap (response_found (looked old (Whole message rest))) is)
unanswered-again old new (Whole message rest) due is (inr asks) = asked-again (behind message old) new (next_id message.last) (response_of message.payload) asks
unanswered-again old new (Faulty fault) due is held = absurd held

held-again : (at : Stage) (old new : ClientState) → old.stage ≡ at → IsHeldUp at old new → next_of new.stage new ≡ next_of at old
held-again stage.Response old new due held = unanswered-again old new (look_login 1 old.framer) due refl held
held-again (stage.Answer response) old new due held =
    subst (λ (n : ClientState). next_of n.stage n ≡ answer_found response old (look_login 3 old.framer)) (sym held)
    (ap (λ (s : Stage). next_of s (looked old (look_login 3 old.framer))) due ∙ answer-looked old response)
held-again (stage.Login response first) old new due held = absurd held
held-again (stage.Refused first fault) old new due held = absurd held
held-again stage.Commands old new due held = absurd held

pub next_again : (old new : ClientState) → IsHeldUp old.stage old new → next_of new.stage new ≡ next_of old.stage old
next_again old new held = held-again old.stage old new refl held

pub held_up_same : (old new : ClientState) → IsHeldUp old.stage old new → IsSame old new
held_up_same old new held =
    let later = next_same new.stage new in
    let now = next_same old.stage old in
    let again = next_again old new held in
    (sym later.0 ∙ ap (λ n. n.client.number) again ∙ now.0, sym later.1 ∙ ap (λ n. n.client.salt) again ∙ now.1, sym later.2 ∙ ap (λ n. n.client.framer.limit) again ∙ now.2, sym later.3 ∙ ap (λ n. n.client.arrived) again ∙ now.3)
