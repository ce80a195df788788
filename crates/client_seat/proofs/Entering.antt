-- A seat stands for its client while that logs in.
use Rattle.std.specs.Prelude.{◌≡◌, ℕ, Bool, List, [], ◌++◌, take, Option, Some, None}
use Rattle.std.proofs.Common.{◌∙◌, refl, sym, ap, subst, append-nil, append_assoc}
use Rattle.handshake.specs.declared.response.Response.{Response}
use Rattle.packet_frame.specs.Packets.{spelling, split}
use Rattle.server_side.specs.Account.{Account}
use Rattle.client_side.specs.Client.{ClientState}
use Rattle.client_side.specs.HeldUp.{next_same}
use Rattle.client_side.specs.Laws.{logging-next}
use Rattle.client_side.specs.Login.{Says, Waits, opening}
use Rattle.client_side.specs.Reading.{HasStepped, IsLoggingIn, said_to}
use Rattle.client_side.specs.Steps.{next_of}
use Rattle.client_session.specs.Accounts.{account_of, denial_of}
use Rattle.client_session.specs.Answers.{account_in, commands_in, front, front_in, greeted, if_known, login_answer}
use Rattle.client_session.specs.Errors.{own_ok}
use Rattle.log_story.specs.Owed.{due_for, messages, talk_of}
use Rattle.log_story.specs.Plan.{Plan}
use Rattle.log_story.specs.Tale.{Client}
use Rattle.client_seat.specs.Seats.{Seat}
use Rattle.client_seat.specs.Stands.{IsEntering, IsServed, IsWho, IsWrittenOf, Known, due_so_far}
use Rattle.client_seat.specs.Turns.{admitted, stepped}
use Rattle.client_session.specs.Setups.{users_at}

pub goes : (plan : Plan) (client : Client) (seat : Seat) → IsWho client seat → (was : IsEntering plan client seat)
    → HasStepped (next_of seat.client.stage seat.client).step (next_of seat.client.stage seat.client).client plan.service.limit plan.service.version client.read
    (was.written ++ (stepped seat).outbox.due)
goes plan client seat who was =
    let found = next_of seat.client.stage seat.client in
    let so_far : was.written ++ seat.outbox.due ≡ (was.written ++ seat.outbox.due) ++ seat.client.outgoing =
    sym (append-nil (was.written ++ seat.outbox.due)) ∙ ap (λ (more : List ℕ). (was.written ++ seat.outbox.due) ++ more) (sym who.drained) in
    let at = subst (λ (bytes : List ℕ). IsLoggingIn seat.client.stage seat.client plan.service.version client.read bytes) so_far was.login in
    subst (λ (bytes : List ℕ). HasStepped found.step found.client plan.service.limit plan.service.version client.read bytes)
    (append_assoc was.written seat.outbox.due found.client.outgoing)
    (subst (λ (limit : ℕ). HasStepped found.step found.client limit plan.service.version client.read ((was.written ++ seat.outbox.due) ++ found.client.outgoing)) was.limit
    (logging-next seat.client plan.service.version client.read (was.written ++ seat.outbox.due) at))

-- nothing is taken up in a login, so the answer to it is all that is due
pub only-front : (x : Known) (client : Client) → client.taken ≡ 0 → due_so_far x client ≡ front (talk_of x.plan client)
only-front x client none =
    ap (λ (n : ℕ). front (talk_of x.plan client) ++ due_for x.view.replies x.plan x.moment client [] 1 (take n (messages x.plan client))) none
    ∙ append-nil (front (talk_of x.plan client))

said-same : (plan : Plan) (client : Client) (seat : Seat) (found : ClientState) (switched : Bool) → IsWho client seat → found.number ≡ seat.client.number → found.salt ≡ seat.client.salt
    → said_to found plan.service.version switched ≡ greeted (talk_of plan client) switched
said-same plan client seat found switched who number salt =
    ap (λ n. Rattle.client_side.specs.Reading.said n.0 found.salt plan.service.version switched) (number ∙ who.number)
    ∙ ap (λ (s : List ℕ). Rattle.client_side.specs.Reading.said client.number.0 s plan.service.version switched) (salt ∙ who.salt)

-- It waits for more: all that was said to it is due.
pub waits : (x : Known) (client : Client) (seat : Seat) (switched : Bool) → IsWho client seat → (was : IsEntering x.plan client seat)
    → opening x.plan.service.limit client.read ≡ Waits switched
    → was.written ++ (stepped seat).outbox.due ≡ said_to (next_of seat.client.stage seat.client).client x.plan.service.version switched
    → IsWrittenOf client (stepped seat) (due_so_far x client)
waits x client seat switched who was is said =
    let same = next_same seat.client.stage seat.client in
    record {
      written = was.written;
      size = was.size;
      all =
          only-front x client was.untaken ∙ ap (front_in (talk_of x.plan client)) is
          ∙ sym (said-same x.plan client seat (next_of seat.client.stage seat.client).client switched who same.0 same.1) ∙ sym said;
    }

-- It is logged in: its commands are what is kept, and the OK to its login is due.
pub enters : (x : Known) (client : Client) (seat : Seat) (default : List ℕ) (user : Account) (response : Response) (first : ℕ) (switched : Bool)
    → IsWho client seat → (was : IsEntering x.plan client seat)
    → (next_of seat.client.stage seat.client).client.framer.fault ≡ None
    → opening x.plan.service.limit client.read ≡ Says switched response first (next_of seat.client.stage seat.client).client.framer.kept
    → was.written ++ (stepped seat).outbox.due ≡ said_to (next_of seat.client.stage seat.client).client x.plan.service.version switched
    → account_of (users_at x.plan.service client.port) client.salt response ≡ Some user
    → IsServed x.plan client (admitted default user response first (stepped seat)) user
    × IsWrittenOf client (admitted default user response first (stepped seat)) (due_so_far x client)
enters x client seat default user response first switched who was faultless is said known =
    let same = next_same seat.client.stage seat.client in
    let kept = (next_of seat.client.stage seat.client).client.framer.kept in (
      record {
        limit = same.2 ∙ was.limit;
        known = ap (account_in (talk_of x.plan client)) is ∙ known;
        logged_in = refl;
        faultless = faultless;
        arrived = same.3 ∙ was.arrived ∙ sym was.untaken;
        gone = [];
        size = sym was.untaken;
        rest = ap (split x.plan.service.limit 0) (ap (commands_in (talk_of x.plan client)) is ∙ ap (λ (found : Option Account). if_known found kept) known);
      },
      record {
        written = was.written;
        size = was.size;
        all =
            only-front x client was.untaken ∙ ap (front_in (talk_of x.plan client)) is
            ∙ ap (λ (found : Option Account). greeted (talk_of x.plan client) switched
            ++ spelling first (login_answer (denial_of (users_at x.plan.service client.port) client.salt response) found)) known
            ∙ ap (λ (bytes : List ℕ). bytes ++ spelling first own_ok)
            (sym (said-same x.plan client seat (next_of seat.client.stage seat.client).client switched who same.0 same.1) ∙ sym said)
            ∙ append_assoc was.written (stepped seat).outbox.due (spelling first own_ok);
      },
    )
