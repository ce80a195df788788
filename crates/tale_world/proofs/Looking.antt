-- What a client's next message looks up in a plan: two plans that are the same there take it up in the same way.
use Rattle.std.specs.Prelude.{Bool, drop, false, if◌then◌else◌, is_some, length, nat_eq, nat_lt, not, suc, take, true, zero, ℕ, ◌&&◌, ◌+◌, ◌-◌, ◌<◌, ◌||◌, ◌≡◌, ◌≤◌}
use Rattle.std.specs.Prelude.{slice_index_or, unwrap_or, List, [], ◌∷◌, ◌++◌, Option, Some, None}
use Rattle.std.specs.Option.{option_and_then, option_map, option_map_or, option_or}
use Rattle.std.proofs.Common.{refl, sym, ap, ◌∙◌, arith, length-drop, subst}
use Rattle.std.proofs.lemmas.List.{length-take}
use Rattle.mx_base.specs.Fields.{number_at}
use Rattle.packet_frame.specs.Packets.{Framed, next_id}
use Rattle.client_session.specs.Answers.{Talk, front, messages_of}
use Rattle.client_session.specs.Setups.{Setup as Service}
use Rattle.private_model.specs.Commands.{Command, Reply}
use Rattle.private_model.specs.Names.{Hostgroup, MessageName}
use Rattle.private_model.specs.View.{Setup, View, present}
use Rattle.private_model.specs.Story.{Left}
use Rattle.log_story.specs.Clients.{captures_first, copied, due_by, is_answered, is_up, next_taken, taken_by, waits_for_capture}
use Rattle.log_story.specs.Executes.{Bound, Prepared, Request, args_in, bound_after, bound_by, executed_by, given_in, prepared_by, prepared_in, requested, run_of, text_asked}
use Rattle.log_story.specs.Owed.{answered_with, due_for, has_room, messages, name_of, number_of}
use Rattle.log_story.specs.Plan.{Plan, Route, com_execute, com_reset, own_at}
use Rattle.log_story.specs.Tale.{Client, Tale, tell, view_of}
use Rattle.tale_world.specs.Served.{SameFor}

module _ (client : Client) (view : View) (moment : ℕ) (p q : Plan) (same : SameFor client view moment p q) where
  abbrev talk_by : Service → Talk
  talk_by service = record { setup = service; number = client.number.0; port = client.port; salt = client.salt; read = client.read }

  pub same_messages : messages p client ≡ messages q client
  same_messages = ap (λ s. (messages_of (talk_by s)).messages) same.service

  -- Whether it is answered, and there is room.

  pub same_answered : (tale : Tale) → tale.moment ≡ moment → (i : ℕ) → i ≤ client.taken → is_answered p tale view client i ≡ is_answered q tale view client i
  same_answered tale now zero below = refl
  same_answered tale now (suc i) below =
      let at = λ (plan : Plan). ap (λ (k : ℕ). is_some (own_at plan k (name_of client (suc i)))) now in
      ap (λ b. b || is_some (view.replies (name_of client (suc i)))) (at p ∙ ap (λ (o : Option (List (List ℕ))). is_some o) (same.own (suc i) below) ∙ sym (at q))

  answered_same : (own : Option (List (List ℕ))) (reply : Option Reply) (n k id : ℕ) (later others : List ℕ) → (is_some reply ≡ true → n ≡ k) → later ≡ others
      → answered_with own reply n id later ≡ answered_with own reply k id others
  answered_same (Some payloads) reply n k id later others number more = ap (answered_with (Some payloads) reply n id) more
  answered_same None None n k id later others number more = refl
  answered_same None (Some reply) n k id later others number more =
      ap (λ x. answered_with None (Some reply) x id later) (number refl) ∙ ap (answered_with None (Some reply) k id) more

  pub same_due : (last : List ℕ) (i : ℕ) (xs : List Framed) → i + length xs ≤ suc client.taken
      → due_for view.replies p moment client last i xs ≡ due_for view.replies q moment client last i xs
  same_due last i [] below = refl
  same_due last i (x ∷ xs) below =
      let name = name_of client i in
      let later = same_due last (suc i) xs (omega arith) in
      ap (λ o. answered_with o (view.replies name) (number_of p name) (next_id x.last) (due_for view.replies p moment client last (suc i) xs))
      (same.own i (omega arith))
      ∙ answered_same (own_at q moment name) (view.replies name) (number_of p name) (number_of q name) (next_id x.last) _ _
      (λ has. ap (λ (r : Option Route). option_map_or (λ route. route.number) r 0) (same.routes name has)) later

  -- what is unwritten of it, by what it is due
  abbrev unwritten_by : Service → List ℕ → ℕ
  unwritten_by service due = length (front (talk_by service) ++ due) - client.written

  abbrev first_messages : Plan → List Framed
  first_messages plan = take client.taken (messages plan client)

  pub same_room : has_room view.replies p moment client ≡ has_room view.replies q moment client
  same_room =
      let due : due_for view.replies p moment client [] 1 (first_messages p) ≡ due_for view.replies q moment client [] 1 (first_messages p) =
      same_due [] 1 (first_messages p) (omega (arith, length-take client.taken (messages p client))) in
      let also : due_for view.replies q moment client [] 1 (first_messages p) ≡ due_for view.replies q moment client [] 1 (first_messages q) =
      ap (λ ms. due_for view.replies q moment client [] 1 (take client.taken ms)) same_messages in
      ap (λ service. nat_lt (unwritten_by service (due_for view.replies p moment client [] 1 (first_messages p))) p.room) same.service
      ∙ ap (λ d. nat_lt (unwritten_by q.service d) p.room) (due ∙ also) ∙ ap (λ room. nat_lt (unwritten_by q.service (due_for view.replies q moment client [] 1 (first_messages q))) room) same.room

  same_waits : waits_for_capture view p client ≡ waits_for_capture view q client
  same_waits =
      ap (λ (r : Option Route). option_map_or (λ (route : Route). captures_first (view.held (present view client.number route.hostgroup))) r false)
      (same.taken client.taken (omega arith))

  pub same_up : (setup : Setup) (tale : Tale) → view_of setup tale ≡ view → tale.moment ≡ moment → is_up setup p client tale ≡ is_up setup q client tale
  same_up setup tale seen now =
      up_by p seen
      ∙ ap (λ b. b && (not (waits_for_capture view p client) && has_room view.replies p tale.moment client)) (same_answered tale now client.taken (omega arith))
      ∙ ap (λ b. is_answered q tale view client client.taken && (not b && has_room view.replies p tale.moment client)) same_waits
      ∙ ap (λ (k : ℕ). is_answered q tale view client client.taken && (not (waits_for_capture view q client) && has_room view.replies p k client)) now
      ∙ ap (λ b. is_answered q tale view client client.taken && (not (waits_for_capture view q client) && b)) same_room
      ∙ ap (λ (k : ℕ). is_answered q tale view client client.taken && (not (waits_for_capture view q client) && has_room view.replies q k client)) (sym now)
      ∙ sym (up_by q seen) where
        up_by : (plan : Plan) → view_of setup tale ≡ view → is_up setup plan client tale
            ≡ (is_answered plan tale view client client.taken && (not (waits_for_capture view plan client) && has_room view.replies plan tale.moment client))
        up_by plan seen = ap (λ (v : View). is_answered plan tale v client client.taken && (not (waits_for_capture v plan client) && has_room v.replies plan tale.moment client)) seen

  -- What it asks for.

  pub prepared_same : (number i : ℕ) (payload : List ℕ) (reply : Option Reply) (r s : Option Route) → (is_some reply ≡ true → r ≡ s)
      → prepared_in number i payload r reply ≡ prepared_in number i payload s reply
  prepared_same number i payload (Some reply) r s routes = ap (λ route. prepared_in number i payload route (Some reply)) (routes refl)
  prepared_same number i payload None None None routes = refl
  prepared_same number i payload None None (Some s) routes = refl
  prepared_same number i payload None (Some r) None routes = refl
  prepared_same number i payload None (Some r) (Some s) routes = refl

  pub same_prepared : (number i : ℕ) (xs : List Framed) → prepared_by view p client number i xs ≡ prepared_by view q client number i xs
  same_prepared number i [] = refl
  same_prepared number i (x ∷ xs) =
      let name = name_of client i in
      ap (λ o. option_or o (prepared_by view p client number (suc i) xs)) (prepared_same number i x.payload (view.replies name) (p.routes name) (q.routes name) (same.routes name))
      ∙ ap (λ others. option_or (prepared_in number i x.payload (q.routes name) (view.replies name)) others) (same_prepared number (suc i) xs)

  bound_same : (params number : ℕ) (r s : ℕ → Bool) (i : ℕ) (xs : List Framed) (bound : Bound) → ((j : ℕ) → i ≤ j → j < i + length xs → r j ≡ s j)
      → bound_by params number r i xs bound ≡ bound_by params number s i xs bound
  bound_same params number r s i [] bound each = refl
  bound_same params number r s i (x ∷ xs) bound each =
      ap (λ b. bound_by params number r (suc i) xs (bound_after params number b x.payload bound)) (each i (omega arith) (omega arith))
      ∙ bound_same params number r s (suc i) xs (bound_after params number (s i) x.payload bound) (λ j from below. each j (omega arith) (omega arith))

  abbrev refused_in : Plan → ℕ → Bool
  refused_in plan i = not (is_some (plan.routes (name_of client i)))

  same_refused : (i : ℕ) → i ≤ client.taken → refused_in p i ≡ refused_in q i
  same_refused i below = ap (λ (o : Option Route). not (is_some o)) (same.taken i below)

  pub same_args : (params number unprepared : ℕ) (before : List Framed) (payload : List ℕ) → length before ≤ client.taken
      → args_in params number (refused_in p) unprepared before payload ≡ args_in params number (refused_in q) unprepared before payload
  same_args params number unprepared before payload below =
      ap (λ bound. record (given_in params payload) { types = option_or (given_in params payload).types bound.types; long = bound.long })
      (bound_same params number (refused_in p) (refused_in q) (suc unprepared) (drop unprepared before) (record { types = None; long = [] })
      (λ j from to. same_refused j (omega (arith, length-drop unprepared before))))

  executed_same : (setup : Setup) (route : Route) (payload : List ℕ) (number : ℕ) (found : Option Prepared) → option_map (λ prepared. run_of setup (args_in prepared.params number (refused_in p) prepared.ordinal (take (suc client.taken - 1) (messages p client)) payload) (view.places client.number).schema route.key prepared.key) found
      ≡ option_map (λ prepared. run_of setup (args_in prepared.params number (refused_in q) prepared.ordinal (take (suc client.taken - 1) (messages q client)) payload) (view.places client.number).schema route.key prepared.key) found
  executed_same setup route payload number None = refl
  executed_same setup route payload number (Some prepared) =
      let before : List Framed = take (suc client.taken - 1) (messages p client) in
      ap (λ args. Some (run_of setup args (view.places client.number).schema route.key prepared.key)) (same_args prepared.params number prepared.ordinal before payload (omega (arith, length-take (suc client.taken - 1) (messages p client))))
      ∙ ap (λ (ms : List Framed). Some (run_of setup (args_in prepared.params number (refused_in q) prepared.ordinal (take (suc client.taken - 1) ms) payload) (view.places client.number).schema route.key prepared.key)) same_messages

  same_executed : (setup : Setup) (route : Route) (payload : List ℕ) (number : ℕ)
      → executed_by setup view p client (suc client.taken) route payload number ≡ executed_by setup view q client (suc client.taken) route payload number
  same_executed setup route payload number =
      ap (option_map (λ prepared. run_of setup (args_in prepared.params number (refused_in p) prepared.ordinal (take (suc client.taken - 1) (messages p client)) payload) (view.places client.number).schema route.key prepared.key))
      (same_prepared number 1 (messages p client) ∙ ap (prepared_by view q client number 1) same_messages)
      ∙ executed_same setup route payload number (prepared_by view q client number 1 (messages q client))

  asked_same : (setup : Setup) (route : Route) (payload : List ℕ) (at : Option ℕ)
      → option_and_then (executed_by setup view p client (suc client.taken) route payload) at ≡ option_and_then (executed_by setup view q client (suc client.taken) route payload) at
  asked_same setup route payload None = refl
  asked_same setup route payload (Some number) = same_executed setup route payload number

  pub same_requested : (setup : Setup) (route : Route) (payload : List ℕ)
      → requested setup view p client (suc client.taken) route payload ≡ requested setup view q client (suc client.taken) route payload
  same_requested setup route payload =
      ap (λ (o : Option Request). if nat_eq (slice_index_or payload 0 0) com_execute then o
      else option_map (λ command. record { command = command; key = route.key }) (text_asked (slice_index_or payload 0 0) (unwrap_or route.text (drop 1 payload))))
      (asked_same setup route payload (number_at 4 1 payload))

-- It is taken up in the same way.

taken_same : (setup : Setup) (p q : Plan) (client : Client) (message : Framed) (route : Option Route) (tale : Tale)
    → SameFor client (view_of setup tale) tale.moment p q
    → taken_by setup p client (suc client.taken) message route tale ≡ taken_by setup q client (suc client.taken) message route tale
taken_same setup p q client message None tale same = refl
taken_same setup p q client message (Some route) tale same =
    ap (λ request. due_by client (suc client.taken) route request tale) (same_requested client (view_of setup tale) tale.moment p q same setup route message.payload)

abbrev pub IsUpFor : Setup → Plan → Client → Option Framed → Tale → Type 0
IsUpFor setup p client message tale = (is_some message && is_up setup p client tale) ≡ true

pub next_same : (setup : Setup) (p q : Plan) (client : Client) (message : Option Framed) (tale : Tale) → SameFor client (view_of setup tale) tale.moment p q
    → (IsUpFor setup p client message tale → p.routes (name_of client (suc client.taken)) ≡ q.routes (name_of client (suc client.taken)))
    → next_taken setup p client message tale ≡ next_taken setup q client message tale
next_same setup p q client None tale same route = refl
next_same setup p q client (Some message) tale same route =
    by_test (is_up setup p client tale) refl
    ∙ ap (λ b. if b then Some (taken_by setup q client (suc client.taken) message (q.routes (name_of client (suc client.taken))) tale) else None)
    (same_up client (view_of setup tale) tale.moment p q same setup tale refl refl)
  where
    by_test : (b : Bool) → is_up setup p client tale ≡ b
        → (if b then Some (taken_by setup p client (suc client.taken) message (p.routes (name_of client (suc client.taken))) tale) else None)
        ≡ (if b then Some (taken_by setup q client (suc client.taken) message (q.routes (name_of client (suc client.taken))) tale) else None)
    by_test true is =
        ap (λ r. Some (taken_by setup p client (suc client.taken) message r tale)) (route is)
        ∙ ap (λ t. Some t) (taken_same setup p q client message (q.routes (name_of client (suc client.taken))) tale same)
    by_test false is = refl

-- The moment stays.

abbrev HasMoment : (moment : ℕ) → Option Tale → Type 0
HasMoment moment None = Unit {0}
HasMoment moment (Some tale) = tale.moment ≡ moment

has_if : (moment : ℕ) (b : Bool) (x y : Option Tale) → HasMoment moment x → HasMoment moment y → HasMoment moment (if b then x else y)
has_if moment true x y first second = first
has_if moment false x y first second = second

copied_moment : (message : MessageName) (command : Command) (mirror : Option Hostgroup) (tale : Tale) → (copied message command mirror tale).moment ≡ tale.moment
copied_moment message command None tale = refl
copied_moment message command (Some hostgroup) tale = refl

either_moment : (b : Bool) (x y : Tale) (n : ℕ) → x.moment ≡ n → y.moment ≡ n → (if b then x else y).moment ≡ n
either_moment true x y n first second = first
either_moment false x y n first second = second

due_moment : (client : Client) (i : ℕ) (route : Route) (request : Option Request) (tale : Tale) → (due_by client i route request tale).moment ≡ tale.moment
due_moment client i route None tale = refl
due_moment client i route (Some request) tale = copied_moment (name_of client i) request.command route.mirror _

taken_moment : (setup : Setup) (p : Plan) (client : Client) (i : ℕ) (message : Framed) (route : Option Route) (tale : Tale)
    → (taken_by setup p client i message route tale).moment ≡ tale.moment
taken_moment setup p client i message None tale = either_moment (nat_eq (slice_index_or message.payload 0 0) com_reset) (tell (Left client.number) tale) tale tale.moment refl refl
taken_moment setup p client i message (Some route) tale = due_moment client i route (requested setup (view_of setup tale) p client i route message.payload) tale

has_next : (setup : Setup) (p : Plan) (client : Client) (message : Option Framed) (tale : Tale) → HasMoment tale.moment (next_taken setup p client message tale)
has_next setup p client None tale = tt
has_next setup p client (Some message) tale =
    has_if tale.moment (is_up setup p client tale) (Some (taken_by setup p client (suc client.taken) message (p.routes (name_of client (suc client.taken))) tale)) None
    (taken_moment setup p client (suc client.taken) message (p.routes (name_of client (suc client.taken))) tale) tt

pub next_moment : (setup : Setup) (p : Plan) (client : Client) (message : Option Framed) (tale other : Tale) → next_taken setup p client message tale ≡ Some other
    → other.moment ≡ tale.moment
next_moment setup p client message tale other is = subst (HasMoment tale.moment) is (has_next setup p client message tale)
