-- How long what came of a client is: its messages are no longer than what was read of it, and a read has at most 65,536 bytes.
use Rattle.std.specs.Prelude.{Result, Ok, Err, ◌≡◌, ◌<◌, ◌≤◌, ◌+◌, ◌*◌, ℕ, zero, suc, Bool, true, false, drop, length, map, slice_get, take, if◌then◌else◌, List, [], ◌∷◌, ◌++◌, Option, Some, None}
use Rattle.std.proofs.Common.{refl, sym, ap, ◌∙◌, subst, arith, length-append}
use Rattle.client_session.specs.Accounts.{account_of}
use Rattle.client_session.specs.Answers.{Talk, commands, commands_in, if_known, opening_of, users_of}
use Rattle.client_side.specs.Login.{Fails, Opening, Says, Waits, answer_in, by_answer, by_message, by_response, login_limit, needs_switch, opening}
use Rattle.handshake.specs.declared.fault.HandFault.{HandFault}
use Rattle.handshake.specs.declared.response.Response.{Response}
use Rattle.handshake.specs.Response.{response_of}
use Rattle.mx_wire.specs.Log.{Log}
use Rattle.mx_wire.specs.Tells.{Fits}
use Rattle.mx_wire.specs.declared.entry.Entry.{Entry}
use Rattle.mx_wire.specs.declared.entry.Entry.TheVariants as entry
use Rattle.packet_frame.specs.Laws.{first_message-shorter, split-faulty, split-nothing, split-whole}
use Rattle.packet_frame.specs.Packets.{Faulty, Found, Framed, Nothing, Split, Whole, first_message, next_id, split}
use Rattle.server_side.specs.Account.{Account}
use Rattle.private_model.specs.Story.{is_link_id}
use Rattle.private_model.specs.View.{Setup}
use Rattle.log_story.specs.Owed.{messages, talk_of}
use Rattle.log_story.specs.Plan.{Plan}
use Rattle.log_story.specs.Tale.{Client, Tale, client_gets, client_hears, is_to_server, new_client}
use Rattle.shared_router.proofs.Arguing.{weight}
use Rattle.run_laws.proofs.Going.{ifs}
use Rattle.shared_router.proofs.Looked.{Each, each-last, each-map, each-so}
use Rattle.shared_router.proofs.Seated.{AreLike, clients_by}

-- Messages.

weight_found : (limit first : ℕ) (bytes : List ℕ) (found : Found) → first_message limit first bytes ≡ found
    → ((rest : List ℕ) → length rest < length bytes → weight (split limit first rest).messages ≤ length rest) → weight (split limit first bytes).messages ≤ length bytes
weight_found limit first bytes Nothing at shorter =
    let none : weight (split limit first bytes).messages ≡ 0 = ap (λ (s : Split). weight s.messages) (split-nothing limit first bytes at) in omega (arith, none)
weight_found limit first bytes (Whole message rest) at shorter =
    let less = first_message-shorter limit first bytes message rest at in
    let behind = shorter rest (omega (arith, less)) in
    let all : weight (split limit first bytes).messages ≡ length message.payload + weight (split limit first rest).messages =
    ap (λ (s : Split). weight s.messages) (split-whole limit first bytes message rest at) in
    omega (arith, less, behind, all)
weight_found limit first bytes (Faulty fault) at shorter =
    let none : weight (split limit first bytes).messages ≡ 0 = ap (λ (s : Split). weight s.messages) (split-faulty limit first bytes fault at) in omega (arith, none)

weight_within : (size limit first : ℕ) (bytes : List ℕ) → length bytes < size → weight (split limit first bytes).messages ≤ length bytes
weight_within zero limit first bytes below = absurd (omega (arith, below))
weight_within (suc size) limit first bytes below =
    weight_found limit first bytes (first_message limit first bytes) refl (λ rest shorter. weight_within size limit first rest (omega (arith, below, shorter)))

pub weight_at : (ms : List Framed) (k : ℕ) (message : Framed) → slice_get ms k ≡ Some message → length message.payload ≤ weight ms
weight_at [] k message is = absurd (cc)
weight_at (one ∷ ms) zero message is =
    (let same : one ≡ message = cc in let long : length one.payload ≡ length message.payload = ap (λ (m : Framed). length m.payload) same in omega (arith, long))
weight_at (one ∷ ms) (suc k) message is = (let rest = weight_at ms k message is in omega (arith, rest))

pub weight_drop : (k : ℕ) (ms : List Framed) → weight (drop k ms) ≤ weight ms
weight_drop zero ms = omega arith
weight_drop (suc k) [] = omega arith
weight_drop (suc k) (one ∷ ms) = (let rest = weight_drop k ms in omega (arith, rest))

pub weight_take : (k : ℕ) (ms : List Framed) → weight (take k ms) ≤ weight ms
weight_take zero ms = omega arith
weight_take (suc k) [] = omega arith
weight_take (suc k) (one ∷ ms) = (let rest = weight_take k ms in omega (arith, rest))

-- The bytes behind a login.

abbrev rest_of : Opening → List ℕ
rest_of (Waits switched) = []
rest_of (Says switched response id rest) = rest
rest_of (Fails switched fault id) = []

answer_shorter : (limit : ℕ) (response : Response) (bytes : List ℕ) → length (rest_of (answer_in limit response bytes)) ≤ length bytes
answer_shorter limit response bytes = by_found (first_message (login_limit limit) 3 bytes) refl where
  by_found : (found : Found) → first_message (login_limit limit) 3 bytes ≡ found → length (rest_of (by_answer response found)) ≤ length bytes
  by_found Nothing at = omega arith
  by_found (Whole message rest) at = (let less = first_message-shorter (login_limit limit) 3 bytes message rest at in omega (arith, less))
  by_found (Faulty fault) at = omega arith

response_shorter : (limit id : ℕ) (response : Result Response HandFault) (rest : List ℕ) → length (rest_of (by_response limit id response rest)) ≤ length rest
response_shorter limit id (Err fault) rest = omega arith
response_shorter limit id (Ok response) rest = by_switch (needs_switch response.plugin) where
  by_switch : (b : Bool) → length (rest_of (if b then answer_in limit response rest else Says false response id rest)) ≤ length rest
  by_switch true = answer_shorter limit response rest
  by_switch false = omega arith

opening_shorter : (limit : ℕ) (bytes : List ℕ) → length (rest_of (opening limit bytes)) ≤ length bytes
unfolding opening
opening_shorter limit bytes = by_found (first_message (login_limit limit) 1 bytes) refl where
  by_found : (found : Found) → first_message (login_limit limit) 1 bytes ≡ found → length (rest_of (by_message limit found)) ≤ length bytes
  by_found Nothing at = omega arith
  by_found (Whole message rest) at =
      let less = first_message-shorter (login_limit limit) 1 bytes message rest at in
      let more = response_shorter limit (next_id message.last) (response_of message.payload) rest in
      omega (arith, less, more)
  by_found (Faulty fault) at = omega arith

commands_shorter : (talk : Talk) → length (commands talk) ≤ length talk.read
commands_shorter talk = by_opening (opening_of talk) (opening_shorter talk.setup.limit talk.read) where
  by_account : (account : Option Account) (rest : List ℕ) → length (if_known account rest) ≤ length rest
  by_account None rest = omega arith
  by_account (Some account) rest = omega arith

  by_opening : (o : Opening) → length (rest_of o) ≤ length talk.read → length (commands_in talk o) ≤ length talk.read
  by_opening (Waits switched) less = omega arith
  by_opening (Says switched response id rest) less =
      (let known = by_account (account_of (users_of talk) talk.salt response) rest in omega (arith, known, less))
  by_opening (Fails switched fault id) less = omega arith

pub messages_weight : (plan : Plan) (client : Client) → weight (messages plan client) ≤ length client.read
messages_weight plan client =
    let bytes : List ℕ = commands (talk_of plan client) in
    let all = weight_within (suc (length bytes)) plan.service.limit 0 bytes (omega arith) in
    let shorter = commands_shorter (talk_of plan client) in
    omega (arith, all, shorter)

-- What was read of clients, by how many entries there were.

abbrev pub IsReadIn : (entries : ℕ) → Client → Type 0
IsReadIn entries client = length client.read ≤ 65536 * entries

more_entries : (entries : ℕ) (client : Client) → IsReadIn entries client → IsReadIn (suc entries) client
more_entries entries client read = omega (arith, read)

either : (P : Client → Type 0) (b : Bool) (x y : Client) → P x → P y → P (if b then x else y)
either P true x y one two = one
either P false x y one two = two

pub read_by : (setup : Setup) (plan : Plan) (entries : ℕ) (log : Log) (tale : Tale) (e : Entry) → Fits log e → Each (IsReadIn entries) tale.clients
    → Each (IsReadIn (suc entries)) (clients_by setup plan tale e)
read_by setup plan entries log tale (entry.Accepted port link salt) fits all =
    each-last (IsReadIn (suc entries)) tale.clients (new_client (length tale.clients + 1) port link salt)
    (each-so (IsReadIn entries) (IsReadIn (suc entries)) tale.clients (more_entries entries) all) (omega arith)
read_by setup plan entries log tale (entry.Got link bytes) fits all =
    ifs (Each (IsReadIn (suc entries))) (is_to_server tale link) tale.clients (map (client_hears link bytes) tale.clients)
    (each-so (IsReadIn entries) (IsReadIn (suc entries)) tale.clients (more_entries entries) all)
    (each-map (IsReadIn entries) (IsReadIn (suc entries)) (client_hears link bytes) tale.clients
    (λ c read. either (IsReadIn (suc entries)) (is_link_id c.link link) (record c { read = c.read ++ bytes }) c
    (let long = length-append c.read bytes in let most : length bytes ≤ 65536 = fits.most in omega (arith, long, most, read)) (more_entries entries c read)) all)
read_by setup plan entries log tale (entry.Wrote link tag bytes) fits all =
    ifs (Each (IsReadIn (suc entries))) (is_to_server tale link) tale.clients (map (client_gets link (length bytes)) tale.clients)
    (each-so (IsReadIn entries) (IsReadIn (suc entries)) tale.clients (more_entries entries) all)
    (each-map (IsReadIn entries) (IsReadIn (suc entries)) (client_gets link (length bytes)) tale.clients
    (λ c read. either (IsReadIn (suc entries)) (is_link_id c.link link) (record c { written = c.written + length bytes }) c (more_entries entries c read) (more_entries entries c read)) all)
read_by setup plan entries log tale _ fits all = each-so (IsReadIn entries) (IsReadIn (suc entries)) tale.clients (more_entries entries) all

pub read_like : (entries : ℕ) (xs ys : List Client) → AreLike xs ys → Each (IsReadIn entries) xs → Each (IsReadIn entries) ys
read_like entries [] [] like all = tt
read_like entries [] (y ∷ ys) like all = absurd like
read_like entries (x ∷ xs) [] like all = absurd like
read_like entries (x ∷ xs) (y ∷ ys) like all =
    (subst (λ (bytes : List ℕ). length bytes ≤ 65536 * entries) (sym like.0.read) all.0, read_like entries xs ys like.1 all.1)
