-- How a client's login goes on as bytes are kept and steps are taken.
use Rattle.std.specs.Prelude.{◌≡◌, ℕ, Bool, true, false, List, [], ◌++◌, None, Result, Ok, Err, if◌then◌else◌, refl}
use Rattle.std.proofs.Common.{sym, ◌∙◌, ap, subst, append-nil, append_assoc}
use Rattle.mx_base.specs.declared.names.ClientNo.{ClientNo}
use Rattle.packet_frame.specs.Packets.{Framed, Found, next_id, first_message}
use Rattle.packet_frame.specs.Packets.Found.{Nothing, Whole, Faulty}
use Rattle.packet_frame.specs.FramerState.{FramerState, look, look_by}
use Rattle.packet_frame.specs.Laws.{first_message-whole-more, first_message-faulty-more}
use Rattle.packet_frame.specs.MessageLaws.{first_message-goes}
use Rattle.handshake.specs.declared.fault.HandFault.{HandFault}
use Rattle.handshake.specs.declared.response.Response.{Response}
use Rattle.handshake.specs.Response.{response_of}
use Rattle.client_side.specs.declared.stage.Stage.{Stage}
use Rattle.client_side.specs.declared.stage.Stage.TheVariants as stage
use Rattle.client_side.specs.declared.step.ClientFault.{ClientFault}
use Rattle.client_side.specs.declared.step.ClientFault.TheVariants.{Hand}
use Rattle.client_side.specs.Login.{Opening, login_limit, Waits, Says, Fails, switched_of, needs_switch, greeting_said, switch_said, by_answer, by_message, by_response, answer_in, opening}
use Rattle.client_side.specs.Client.{ClientState, new_client, fed, past_message}
use Rattle.client_side.specs.Steps.{look_login, next_of, looked, answer_found, response_found, response_read, behind, asked}
use Rattle.client_side.specs.Reading.{said_to, IsReading, IsLoggingIn, HasStepped}

-- nothing was read yet
pub logging-new : (number : ClientNo) (salt version : List ℕ) (limit : ℕ)
    → IsLoggingIn stage.Response (new_client number salt limit version) version [] (new_client number salt limit version).outgoing
logging-new number salt version limit = (record { unfound = refl; faultless = refl }, refl, sym (append-nil (greeting_said number.0 salt version)))

-- more bytes are kept
reading-fed : (client : ClientState) (piece : List ℕ) → IsReading client.framer → IsReading (fed client piece).framer
reading-fed client piece at = record { unfound = at.unfound; faultless = at.faultless }

whatever-fed : {A : Type 0} (f g : List ℕ → A) (read kept piece : List ℕ) → ((more : List ℕ) → f (read ++ more) ≡ g (kept ++ more)) → (more : List ℕ) → f ((read ++ piece) ++ more) ≡ g ((kept ++ piece) ++ more)
whatever-fed f g read kept piece whatever more = ap f (append_assoc read piece more) ∙ whatever (piece ++ more) ∙ ap g (sym (append_assoc kept piece more))

fed_at : (at : Stage) (client : ClientState) (version read piece bytes : List ℕ) → IsLoggingIn at client version read bytes → IsLoggingIn at (fed client piece) version (read ++ piece) bytes
fed_at stage.Response client version read piece bytes was = (reading-fed client piece was.0, ap (λ kept. kept ++ piece) was.1, was.2)
fed_at (stage.Answer response) client version read piece bytes was =
    (reading-fed client piece was.0, whatever-fed (opening client.framer.limit) (answer_in client.framer.limit response) read client.framer.kept piece was.1, was.2)
fed_at (stage.Login response first) client version read piece bytes was =
    (was.0, reading-fed client piece was.1, record { whatever = whatever-fed (opening client.framer.limit) (Says was.0 response first) read client.framer.kept piece was.2.whatever }, was.3)
fed_at (stage.Refused first fault) client version read piece bytes was =
    (was.0, whatever-fed (opening client.framer.limit) (λ bytes. Fails was.0 (Hand fault) first) read [] piece was.1, was.2)
fed_at stage.Commands client version read piece bytes was = absurd was

pub logging-fed : (client : ClientState) (version read piece bytes : List ℕ) → IsLoggingIn client.stage client version read bytes → IsLoggingIn client.stage (fed client piece) version (read ++ piece) bytes
logging-fed client version read piece bytes at = fed_at client.stage client version read piece bytes at

-- a framer without a fault looks into its bytes
looked_into : (first : ℕ) (framer : FramerState) → framer.fault ≡ None → look_login first framer ≡ first_message (login_limit framer.limit) first framer.kept
looked_into first framer faultless = ap (λ fault. look_by fault (first_message (login_limit framer.limit) first framer.kept)) faultless

-- a message at the front of the bytes stays, and so does what is behind it
taken : (first : ℕ) (framer : FramerState) (message : Framed) (rest more : List ℕ) → first_message (login_limit framer.limit) first framer.kept ≡ Whole message rest
    → first_message (login_limit framer.limit) first (framer.kept ++ more) ≡ Whole message ((past_message message framer).kept ++ more)
taken first framer message rest more whole =
    first_message-whole-more (login_limit framer.limit) first framer.kept more message rest whole
    ∙ ap (λ behind. Whole message (behind ++ more)) (first_message-goes (login_limit framer.limit) first framer.kept message rest whole)

reading-past : (message : Framed) (framer : FramerState) → IsReading framer → IsReading (past_message message framer)
reading-past message framer at = record { unfound = refl; faultless = at.faultless }

reading-looked : (client : ClientState) → IsReading client.framer → IsReading (looked client Nothing).framer
reading-looked client at = record { unfound = refl; faultless = at.faultless }

-- nothing that is whole was found
still_due : (at : Stage) (client : ClientState) (version read bytes : List ℕ) → client.stage ≡ at → IsLoggingIn at (looked client Nothing) version read bytes → IsLoggingIn client.stage (looked client Nothing) version read bytes
still_due at client version read bytes due was = subst (λ (s : Stage). IsLoggingIn s (looked client Nothing) version read bytes) (sym due) was

-- the bare answer is due
answered : (client : ClientState) (response : Response) (version read written : List ℕ) → client.stage ≡ stage.Answer response → IsLoggingIn (stage.Answer response) client version read (written ++ client.outgoing)
    → (found : Found) → first_message (login_limit client.framer.limit) 3 client.framer.kept ≡ found
    → HasStepped (answer_found response client found).step (answer_found response client found).client client.framer.limit version read (written ++ (answer_found response client found).client.outgoing)
answered client response version read written due at Nothing is =
    let waits : opening client.framer.limit read ≡ Waits true =
    ap (opening client.framer.limit) (sym (append-nil read)) ∙ at.1 [] ∙ ap (answer_in client.framer.limit response) (append-nil client.framer.kept) ∙ ap (by_answer response) is in
    (still_due (stage.Answer response) client version read (written ++ client.outgoing) due (reading-looked client at.0, at.1, at.2), true, waits, at.2)
answered client response version read written due at (Whole message rest) is =
    let own : Response = record response { answer = message.payload } in
    let kept = (past_message message client.framer).kept in
    let says : (more : List ℕ) → opening client.framer.limit (read ++ more) ≡ Says true own (next_id message.last) (kept ++ more) =
    λ more. at.1 more ∙ ap (by_answer response) (taken 3 client.framer message rest more is) in
    (own, refl, (true, reading-past message client.framer at.0, record { whatever = says }, at.2))
answered client response version read written due at (Faulty fault) is =
    (true, λ more. at.1 more ∙ ap (by_answer response) (first_message-faulty-more (login_limit client.framer.limit) 3 client.framer.kept more fault is), at.2)

answering : (client : ClientState) (response : Response) (version read written : List ℕ) → client.stage ≡ stage.Answer response → IsLoggingIn (stage.Answer response) client version read (written ++ client.outgoing)
    → HasStepped (answer_found response client (look_login 3 client.framer)).step (answer_found response client (look_login 3 client.framer)).client client.framer.limit version read (written ++ (answer_found response client (look_login 3 client.framer)).client.outgoing)
answering client response version read written due at =
    subst (λ (found : Found). HasStepped (answer_found response client found).step (answer_found response client found).client client.framer.limit version read (written ++ (answer_found response client found).client.outgoing))
    (sym (looked_into 3 client.framer at.0.faultless)) (answered client response version read written due at (first_message (login_limit client.framer.limit) 3 client.framer.kept) refl)

-- what is behind the response, where the id of an answer to it is `id`
pub record IsBehind (client : ClientState) (read : List ℕ) (id : ℕ) (decoded : Result Response HandFault) : Type 0 where
  pub reading : IsReading client.framer
  pub whatever : (more : List ℕ) → opening client.framer.limit (read ++ more) ≡ by_response client.framer.limit id decoded (client.framer.kept ++ more)

chosen : (client : ClientState) (id : ℕ) (response : Response) (version read written : List ℕ) → IsBehind client read id (Ok response) → written ++ client.outgoing ≡ said_to client version false → (b : Bool) → needs_switch response.plugin ≡ b
    → HasStepped (response_read id (Ok response) client).step (response_read id (Ok response) client).client client.framer.limit version read (written ++ (response_read id (Ok response) client).client.outgoing)
chosen client id response version read written at bytes false is =
    let says : (more : List ℕ) → opening client.framer.limit (read ++ more) ≡ Says false response id (client.framer.kept ++ more) = λ more. rw is at (at.whatever more) in
    rw is (response, refl, (false, at.reading, record { whatever = says }, bytes))
chosen client id response version read written at bytes true is =
    let switch = switch_said client.salt in
    let goes : (more : List ℕ) → opening client.framer.limit (read ++ more) ≡ answer_in client.framer.limit response (client.framer.kept ++ more) = λ more. rw is at (at.whatever more) in
    let asks : written ++ (client.outgoing ++ switch) ≡ said_to client version true =
    sym (append_assoc written client.outgoing switch) ∙ ap (λ xs. xs ++ switch) (bytes ∙ append-nil (greeting_said client.number.0 client.salt version)) in
    rw is (answering (asked response client) response version read written refl (at.reading, goes, asks))

decided : (client : ClientState) (id : ℕ) (decoded : Result Response HandFault) (version read written : List ℕ) → IsBehind client read id decoded → written ++ client.outgoing ≡ said_to client version false
    → HasStepped (response_read id decoded client).step (response_read id decoded client).client client.framer.limit version read (written ++ (response_read id decoded client).client.outgoing)
decided client id (Err fault) version read written at bytes = (false, at.whatever, bytes)
decided client id (Ok response) version read written at bytes = chosen client id response version read written at bytes (needs_switch response.plugin) refl

-- the response is due
responded : (client : ClientState) (version read written : List ℕ) → client.stage ≡ stage.Response → IsLoggingIn stage.Response client version read (written ++ client.outgoing)
    → (found : Found) → first_message (login_limit client.framer.limit) 1 client.framer.kept ≡ found
    → HasStepped (response_found client found).step (response_found client found).client client.framer.limit version read (written ++ (response_found client found).client.outgoing)
unfolding opening
responded client version read written due at Nothing is =
    let waits : opening client.framer.limit read ≡ Waits false = ap (λ bytes. by_message client.framer.limit (first_message (login_limit client.framer.limit) 1 bytes)) (sym at.1) ∙ ap (by_message client.framer.limit) is in
    (still_due stage.Response client version read (written ++ client.outgoing) due (reading-looked client at.0, at.1, at.2), false, waits, at.2)
responded client version read written due at (Whole message rest) is =
    let kept = (past_message message client.framer).kept in
    let whatever : (more : List ℕ) → opening client.framer.limit (read ++ more) ≡ by_response client.framer.limit (next_id message.last) (response_of message.payload) (kept ++ more) =
    λ more. ap (λ bytes. by_message client.framer.limit (first_message (login_limit client.framer.limit) 1 (bytes ++ more))) (sym at.1) ∙ ap (by_message client.framer.limit) (taken 1 client.framer message rest more is) in
    decided (behind message client) (next_id message.last) (response_of message.payload) version read written (record { reading = reading-past message client.framer at.0; whatever = whatever }) at.2
responded client version read written due at (Faulty fault) is =
    (false, λ more. ap (λ bytes. by_message client.framer.limit (first_message (login_limit client.framer.limit) 1 (bytes ++ more))) (sym at.1) ∙ ap (by_message client.framer.limit) (first_message-faulty-more (login_limit client.framer.limit) 1 client.framer.kept more fault is), at.2)

-- the next step is taken, where `written` was written before
next_at : (at : Stage) (client : ClientState) (version read written : List ℕ) → client.stage ≡ at → IsLoggingIn at client version read (written ++ client.outgoing)
    → HasStepped (next_of at client).step (next_of at client).client client.framer.limit version read (written ++ (next_of at client).client.outgoing)
next_at stage.Response client version read written due was =
    subst (λ (found : Found). HasStepped (response_found client found).step (response_found client found).client client.framer.limit version read (written ++ (response_found client found).client.outgoing))
    (sym (looked_into 1 client.framer was.0.faultless)) (responded client version read written due was (first_message (login_limit client.framer.limit) 1 client.framer.kept) refl)
next_at (stage.Answer response) client version read written due was = answering client response version read written due was
next_at (stage.Login response first) client version read written due was = (response, due, subst (λ (s : Stage). IsLoggingIn s client version read (written ++ client.outgoing)) (sym due) was)
next_at (stage.Refused first fault) client version read written due was = was
next_at stage.Commands client version read written due was = absurd was

pub logging-next : (client : ClientState) (version read written : List ℕ) → IsLoggingIn client.stage client version read (written ++ client.outgoing)
    → HasStepped (next_of client.stage client).step (next_of client.stage client).client client.framer.limit version read (written ++ (next_of client.stage client).client.outgoing)
logging-next client version read written at = next_at client.stage client version read written refl at

-- what is there as more bytes come
abbrev pub Grows : Opening → (more : List ℕ) → Opening → Type 0
Grows (Waits true) more new = switched_of new ≡ true
Grows (Waits false) more new = Unit {0}
Grows (Says switched response id rest) more new = new ≡ Says switched response id (rest ++ more)
Grows (Fails switched fault id) more new = new ≡ Fails switched fault id

by_answer-switched : (response : Response) (found : Found) → switched_of (by_answer response found) ≡ true
by_answer-switched response Nothing = refl
by_answer-switched response (Whole message rest) = refl
by_answer-switched response (Faulty fault) = refl

answer-grows : (limit : ℕ) (response : Response) (bytes more : List ℕ) (found : Found) → first_message (login_limit limit) 3 bytes ≡ found → Grows (by_answer response found) more (answer_in limit response (bytes ++ more))
answer-grows limit response bytes more Nothing is = by_answer-switched response (first_message (login_limit limit) 3 (bytes ++ more))
answer-grows limit response bytes more (Whole message rest) is = ap (by_answer response) (first_message-whole-more (login_limit limit) 3 bytes more message rest is)
answer-grows limit response bytes more (Faulty fault) is = ap (by_answer response) (first_message-faulty-more (login_limit limit) 3 bytes more fault is)

choice-grows : (limit id : ℕ) (response : Response) (bytes more : List ℕ) (switched : Bool)
    → Grows (if switched then answer_in limit response bytes else Says false response id bytes) more (if switched then answer_in limit response (bytes ++ more) else Says false response id (bytes ++ more))
choice-grows limit id response bytes more true = answer-grows limit response bytes more (first_message (login_limit limit) 3 bytes) refl
choice-grows limit id response bytes more false = refl

response-grows : (limit id : ℕ) (decoded : Result Response HandFault) (bytes more : List ℕ) → Grows (by_response limit id decoded bytes) more (by_response limit id decoded (bytes ++ more))
response-grows limit id (Err fault) bytes more = refl
response-grows limit id (Ok response) bytes more = choice-grows limit id response bytes more (needs_switch response.plugin)

message-grows : (limit : ℕ) (read more : List ℕ) (found : Found) → first_message (login_limit limit) 1 read ≡ found → Grows (by_message limit found) more (by_message limit (first_message (login_limit limit) 1 (read ++ more)))
message-grows limit read more Nothing is = tt
message-grows limit read more (Whole message rest) is = rw (first_message-whole-more (login_limit limit) 1 read more message rest is) (response-grows limit (next_id message.last) (response_of message.payload) rest more)
message-grows limit read more (Faulty fault) is = ap (by_message limit) (first_message-faulty-more (login_limit limit) 1 read more fault is)

-- a login that is there stays, and so does a fault; who is asked to switch stays asked
pub opening-grows : (limit : ℕ) (read more : List ℕ) → Grows (opening limit read) more (opening limit (read ++ more))
unfolding opening
opening-grows limit read more = message-grows limit read more (first_message (login_limit limit) 1 read) refl

grows_from : (limit : ℕ) (read more : List ℕ) (begun : Opening) → opening limit read ≡ begun → Grows begun more (opening limit (read ++ more))
grows_from limit read more begun is = subst (λ old. Grows old more (opening limit (read ++ more))) is (opening-grows limit read more)

pub opening-says-more : (limit : ℕ) (read more : List ℕ) (switched : Bool) (response : Response) (id : ℕ) (rest : List ℕ) → opening limit read ≡ Says switched response id rest → opening limit (read ++ more) ≡ Says switched response id (rest ++ more)
opening-says-more limit read more switched response id rest says = grows_from limit read more (Says switched response id rest) says

pub opening-fails-more : (limit : ℕ) (read more : List ℕ) (switched : Bool) (fault : ClientFault) (id : ℕ) → opening limit read ≡ Fails switched fault id → opening limit (read ++ more) ≡ Fails switched fault id
opening-fails-more limit read more switched fault id fails = grows_from limit read more (Fails switched fault id) fails

pub opening-switched-more : (limit : ℕ) (read more : List ℕ) → opening limit read ≡ Waits true → switched_of (opening limit (read ++ more)) ≡ true
opening-switched-more limit read more waits = grows_from limit read more (Waits true) waits
