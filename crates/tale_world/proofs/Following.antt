-- The world's tale is the one that is told by each plan which agrees with what was decided.
use Rattle.std.specs.Prelude.{Bool, false, fold, if◌then◌else◌, is_some, length, nat_eq, not, slice_get, suc, true, zero, ℕ, ◌&&◌, ◌<◌, ◌||◌, ◌≡◌, ◌≤◌}
use Rattle.std.specs.Prelude.{map, List, [], ◌∷◌, ◌++◌, Option, Some, None}
use Rattle.std.specs.Option.{option_map_or}
use Rattle.std.proofs.Common.{refl, sym, ap, ◌∙◌, subst, arith}
use Rattle.std.proofs.lemmas.Bool.{and_from, le-leb, or_left, or_right}
use Rattle.mx_base.specs.declared.names.LinkId.{LinkId}
use Rattle.mx_base.specs.declared.tag.Tag.{Tag}
use Rattle.mx_wire.specs.Log.{Log}
use Rattle.mx_wire.specs.declared.entry.Entry.{Entry}
use Rattle.mx_wire.specs.declared.entry.Entry.TheVariants as entry
use Rattle.packet_frame.specs.Packets.{Framed}
use Rattle.private_model.proofs.Maps.{same_link, same_message, same_number}
use Rattle.private_model.specs.Names.{MessageName}
use Rattle.private_model.specs.Story.{Due, is_link_id, is_message, message_of}
use Rattle.private_model.specs.View.{Carried, Setup, View}
use Rattle.log_story.specs.Clients.{client_goes_on, clients_are_ended, clients_go_on, is_event_of, next_taken, taken_up}
use Rattle.log_story.specs.Owed.{messages, name_of}
use Rattle.log_story.specs.Plan.{OwnAnswer, Plan, Route, gives_up, is_before}
use Rattle.log_story.specs.Servers.{begins, freed_if_done, links_are_freed, may_begin}
use Rattle.log_story.specs.Tale.{Client, Tale, client_gets, client_hears, counted, is_to_server, link_in, view_of, with_client, with_wire}
use Rattle.log_story.specs.Telling.{tale_step, told}
use Rattle.tale_world.specs.Decided.{Agrees, Decided, IsMore, filled, plan_of}
use Rattle.tale_world.specs.Deciding.{Deciding, World}
use Rattle.tale_world.specs.Served.{SameFor}
use Rattle.tale_world.specs.World.{are_freed, are_taken, decided_by_now, decided_ends, decided_freed, decided_looked, decided_next, decided_told, ended_now, freed_there, given_up, go_on, goes_on}
use Rattle.tale_world.specs.World.{decided_last, has_reply, is_asked, is_called, is_counted, is_ended, is_looked_up, is_tagged, is_taken_of, is_told, is_up, looked_for, next_message, next_of, tagged, taken_once}
use Rattle.tale_world.specs.World.{with_login, with_route, with_step, with_taken, world_step}
use Rattle.tale_world.proofs.Agreeing.{agrees-itself, agrees-less, filled-kept, filled-there, more-refl, more-trans, same_before, same_given, same_login, same_now, same_own, same_route, same_step}
use Rattle.tale_world.proofs.Looking.{next_moment, next_same, same_messages, same_up}
use Rattle.tale_world.proofs.Telling.{SameAsked, SameOwn, begins_same, ends_moment, ends_same, freed_moment, freed_same, says_same, told_moment}

-- More is decided, the moment stays, and by each plan that agrees the tale becomes this.
pub record Follows {X : Type 0} (old new : World X) (moment : ℕ) (makes : Plan → Tale → Tale) : Type 0 where
  pub more : IsMore old.decided new.decided
  pub now : new.tale.moment ≡ moment
  pub same : (plan : Plan) → Agrees new.decided moment plan → new.tale ≡ makes plan old.tale

-- What is put into tables is more.

own-more : (d : Decided) (which : MessageName → Bool) (value : MessageName → Option OwnAnswer) → IsMore d (record d { own = filled which value d.own })
own-more d which value = record {
  service = refl;
  room = refl;
  logins = λ l login is. is;
  routes = λ m route is. is;
  own = λ m answer is. filled-kept which value d.own m answer is;
  ends = refl;
  until = refl;
  steps = λ l n step is. is;
  keys = λ k key is. is;
}

routes-more : (d : Decided) (which : MessageName → Bool) (value : MessageName → Option Route) → IsMore d (record d { routes = filled which value d.routes })
routes-more d which value = record {
  service = refl;
  room = refl;
  logins = λ l login is. is;
  routes = λ m route is. filled-kept which value d.routes m route is;
  own = λ m answer is. is;
  ends = refl;
  until = refl;
  steps = λ l n step is. is;
  keys = λ k key is. is;
}

module _ {X : Type 0} (setup : Setup) (by : Deciding X) where
  -- Links are given back.

  lent_same : (w : World X) (link : LinkId) (plan : Plan) (carries : Carried) → (link_in setup w.tale link).carries ≡ carries
      → Agrees (decided_freed setup by w link) w.tale.moment plan
      → SameOwn (plan_of (decided_freed setup by w link)) plan w.tale.moment (view_of setup w.tale).dues carries
  lent_same w link plan carries is agrees n d lent due =
      let dues = (view_of setup w.tale).dues in
      let looked : looked_for dues (link_in setup w.tale link).carries (message_of n d) ≡ true =
      ap (λ c. looked_for dues c (message_of n d)) (is ∙ lent) ∙ ap (λ (o : Option Due). option_map_or (λ other. is_message (message_of n d) (message_of n other)) o false) due
      ∙ same_message (message_of n d) in
      same_own (decided_freed setup by w link) w.tale.moment plan agrees (message_of n d) _
      (filled-there (looked_for dues (link_in setup w.tale link).carries) (by.given w) w.decided.own (message_of n d) looked)

  pub freed_follows : (moment : ℕ) (w : World X) (link : LinkId) → w.tale.moment ≡ moment
      → Follows w (freed_there setup by w link) moment (λ plan tale. freed_if_done setup plan tale link)
  freed_follows moment w link now = record {
    more = own-more w.decided (looked_for (view_of setup w.tale).dues (link_in setup w.tale link).carries) (by.given w);
    now = freed_moment setup (plan_of (decided_freed setup by w link)) w.tale link ∙ now;
    same = λ plan agrees. freed_same setup (plan_of (decided_freed setup by w link)) plan w.tale link
        (lent_same w link plan (link_in setup w.tale link).carries refl (subst (λ k. Agrees (decided_freed setup by w link) k plan) (sym now) agrees));
  }

  freeing_follows : (moment : ℕ) (xs : List LinkId) (w : World X) → w.tale.moment ≡ moment
      → Follows w (fold (freed_there setup by) w xs) moment (λ plan tale. fold (freed_if_done setup plan) tale xs)
  freeing_follows moment [] w now = record { more = more-refl w.decided; now = now; same = λ plan agrees. refl }
  freeing_follows moment (x ∷ xs) w now =
      let one = freed_follows moment w x now in
      let rest = freeing_follows moment xs (freed_there setup by w x) one.now in
      let last : World X = fold (freed_there setup by) (freed_there setup by w x) xs in
      record {
        more = more-trans w.decided (freed_there setup by w x).decided last.decided one.more rest.more;
        now = rest.now;
        same = λ plan agrees. rest.same plan agrees ∙ ap (λ t. fold (freed_if_done setup plan) t xs)
            (one.same plan (agrees-less (freed_there setup by w x).decided last.decided moment plan rest.more agrees));
      }

  pub are_freed_follows : (moment : ℕ) (w : World X) → w.tale.moment ≡ moment → Follows w (are_freed setup by w) moment (links_are_freed setup)
  are_freed_follows moment w now =
      let all = freeing_follows moment w.tale.links w now in
      record { more = all.more; now = all.now; same = λ plan agrees. all.same plan agrees }

  -- Messages are taken up.

  looked-more : (w : World X) (client : Client) → IsMore w.decided (decided_looked setup by w client)
  looked-more w client = record {
    service = refl;
    room = refl;
    logins = λ l login is. is;
    routes = λ m route is. filled-kept (is_looked_up (view_of setup w.tale) client) (by.routed w) w.decided.routes m route is;
    own = λ m answer is. filled-kept (is_taken_of client) (by.given w) w.decided.own m answer is;
    ends = refl;
    until = refl;
    steps = λ l n step is. is;
    keys = λ k key is. is;
  }

  route-more : (w : World X) (client : Client) (d : Decided) (message : Option Framed) → IsMore d (with_route by w client d message)
  route-more w client d None = more-refl d
  route-more w client d (Some message) =
      let which = λ (m : MessageName). is_message m (name_of client (suc client.taken)) in
      let value = λ (m : MessageName). by.route w client (suc client.taken) message in
      let answer = λ (m : MessageName). by.answer w client (suc client.taken) message in
      let routed : Decided = record d { routes = filled which value d.routes } in
      more-trans d routed (record routed { own = filled which answer routed.own }) (routes-more d which value) (own-more routed which answer)

  up-more : (w : World X) (client : Client) (b : Bool) → IsMore (decided_looked setup by w client)
      (if b then with_route by w client (decided_looked setup by w client) (next_message (decided_looked setup by w client) client) else decided_looked setup by w client)
  up-more w client true = route-more w client (decided_looked setup by w client) (next_message (decided_looked setup by w client) client)
  up-more w client false = more-refl (decided_looked setup by w client)

  pub since-looked : (w : World X) (client : Client) → IsMore (decided_looked setup by w client) (decided_next setup by w client)
  since-looked w client = up-more w client (is_up setup (decided_looked setup by w client) w.tale client)

  pub next-more : (w : World X) (client : Client) → IsMore w.decided (decided_next setup by w client)
  next-more w client = more-trans w.decided (decided_looked setup by w client) (decided_next setup by w client) (looked-more w client) (since-looked w client)

  -- a plan that agrees with more than what was looked at is the same for the client
  pub looked_same : (w : World X) (client : Client) (d : Decided) (plan : Plan) → IsMore (decided_looked setup by w client) d → Agrees d w.tale.moment plan
      → SameFor client (view_of setup w.tale) w.tale.moment (plan_of d) plan
  looked_same w client d plan more agrees = record {
    service = sym agrees.service;
    room = sym agrees.room;
    own = λ i below. same_own d w.tale.moment plan agrees (name_of client i) _
        (more.own (name_of client i) _ (filled-there (is_taken_of client) (by.given w) w.decided.own (name_of client i)
        (and_from _ _ (same_number client.number.0) (le-leb i client.taken below))));
    routes = λ m has. looked_route m (or_left (has_reply (view_of setup w.tale) m) _ has);
    taken = λ i below. looked_route (name_of client i) (or_right (has_reply (view_of setup w.tale) (name_of client i)) _
        (and_from _ _ (same_number client.number.0) (le-leb i client.taken below)));
  } where
    looked_route : (m : MessageName) → is_looked_up (view_of setup w.tale) client m ≡ true → (plan_of d).routes m ≡ plan.routes m
    looked_route m looked = same_route d w.tale.moment plan agrees m _
        (more.routes m _ (filled-there (is_looked_up (view_of setup w.tale) client) (by.routed w) w.decided.routes m looked))

  -- what was decided of a message that comes up
  routed_up : (w : World X) (client : Client) (b : Bool) (d : Decided) (message : Option Framed) → (is_some message && b) ≡ true
      → (route : Option Route) × ((if b then with_route by w client d message else d).routes (name_of client (suc client.taken)) ≡ Some route)
  routed_up w client true d (Some message) is = (
    _,
    filled-there (λ m. is_message m (name_of client (suc client.taken))) (λ m. by.route w client (suc client.taken) message) d.routes
        (name_of client (suc client.taken)) (same_message (name_of client (suc client.taken))),
  )
  routed_up w client true d None is = absurd (cc)
  routed_up w client false d (Some message) is = absurd (cc)
  routed_up w client false d None is = absurd (cc)

  -- by a plan that agrees, the next message is taken up in the same way
  pub once_same : (w : World X) (client : Client) (plan : Plan) → Agrees (decided_next setup by w client) w.tale.moment plan
      → taken_once setup by w client ≡ next_taken setup plan client (slice_get (messages plan client) client.taken) w.tale
  once_same w client plan agrees =
      let m = w.tale.moment in
      let first : Decided = decided_looked setup by w client in
      let last : Decided = decided_next setup by w client in
      let itself : SameFor client (view_of setup w.tale) m (plan_of first) (plan_of last) =
      looked_same w client first (plan_of last) (more-refl first) (agrees-less first last m (plan_of last) (since-looked w client) (agrees-itself last m)) in
      let same : SameFor client (view_of setup w.tale) m (plan_of last) plan = looked_same w client last plan (since-looked w client) agrees in
      let up : is_up setup first w.tale client ≡ is_up setup last w.tale client = same_up client (view_of setup w.tale) m (plan_of first) (plan_of last) itself setup w.tale refl refl in
      let said : messages (plan_of first) client ≡ messages (plan_of last) client = same_messages client (view_of setup w.tale) m (plan_of first) (plan_of last) itself in
      next_same setup (plan_of last) plan client (slice_get (messages (plan_of last) client) client.taken) w.tale same
      (λ is.
      let found = routed_up w client (is_up setup first w.tale client) first (next_message first client)
      (ap (λ b. is_some (next_message first client) && b) up ∙ ap (λ (ms : List Framed). is_some (slice_get ms client.taken) && is_up setup last w.tale client) said ∙ is) in
      same_route last m plan agrees (name_of client (suc client.taken)) found.0 found.1)
      ∙ ap (λ (ms : List Framed). next_taken setup plan client (slice_get ms client.taken) w.tale) (same_messages client (view_of setup w.tale) m (plan_of last) plan same)

  pub taken-more : (w : World X) (client : Client) (tale : Tale) → IsMore (decided_next setup by w client) (with_taken setup by w client tale).decided
  taken-more w client tale = more-refl (decided_next setup by w client)

  pub are_taken_follow : (moment most : ℕ) (client : Client) (w : World X) → w.tale.moment ≡ moment
      → Follows w (are_taken most setup by client w) moment (λ plan. taken_up most setup plan client)
  are_taken_follow moment zero client w now = record { more = more-refl w.decided; now = now; same = λ plan agrees. refl }
  are_taken_follow moment (suc most) client w now = by_found (taken_once setup by w client) refl (are_taken_follow moment most (next_of client)) where
    agreed : (plan : Plan) → Agrees (decided_next setup by w client) moment plan
        → taken_once setup by w client ≡ next_taken setup plan client (slice_get (messages plan client) client.taken) w.tale
    agreed plan agrees = once_same w client plan (subst (λ k. Agrees (decided_next setup by w client) k plan) (sym now) agrees)

    goes : Plan → Option Tale → Tale
    goes plan found = option_map_or (λ other. taken_up most setup plan (next_of client) (with_client (next_of client) other)) found w.tale

    by_found : (found : Option Tale) → taken_once setup by w client ≡ found
        → ((v : World X) → v.tale.moment ≡ moment → Follows v (are_taken most setup by (next_of client) v) moment (λ plan. taken_up most setup plan (next_of client)))
        → Follows w (option_map_or (λ tale. are_taken most setup by (next_of client) (with_taken setup by w client tale)) found (record w { decided = decided_next setup by w client }))
        moment (λ plan. taken_up (suc most) setup plan client)
    by_found None is others = record {
      more = next-more w client;
      now = now;
      same = λ plan agrees. ap (goes plan) (sym is ∙ agreed plan agrees);
    }
    by_found (Some tale) is others =
        let v : World X = with_taken setup by w client tale in
        let kept : tale.moment ≡ w.tale.moment = next_moment setup (plan_of (decided_next setup by w client)) client
        (slice_get (messages (plan_of (decided_next setup by w client)) client) client.taken) w.tale tale is in
        let rest = others v (kept ∙ now) in
        let last : World X = are_taken most setup by (next_of client) v in
        let since : IsMore (decided_next setup by w client) last.decided = more-trans (decided_next setup by w client) v.decided last.decided (taken-more w client tale) rest.more in
        record {
          more = more-trans w.decided (decided_next setup by w client) last.decided (next-more w client) since;
          now = rest.now;
          same = λ plan agrees. rest.same plan agrees ∙ ap (goes plan) (sym is ∙ agreed plan (agrees-less (decided_next setup by w client) last.decided moment plan since agrees));
        }

  -- A client, and all of them.

  -- whether its last message is given up now
  last_more : (w : World X) (client : Client) → IsMore w.decided (decided_last by w client)
  last_more w client = own-more w.decided (λ m. is_message m (name_of client client.taken)) (by.given w)

  pub called_same : (moment : ℕ) (view : View) (e : Entry) (w : World X) (client : Client) → w.tale.moment ≡ moment → moment ≤ suc w.decided.until
      → (plan : Plan) → Agrees (decided_last by w client) moment plan
      → is_called (decided_last by w client) w.tale.moment view e client
      ≡ ((is_event_of view client e || gives_up plan w.tale.moment (name_of client client.taken)) && not (is_before w.tale.moment (plan.ends client.number)))
  called_same moment view e w client now closed plan agrees =
      let d : Decided = decided_last by w client in
      let here : Agrees d w.tale.moment plan = subst (λ k. Agrees d k plan) (sym now) agrees in
      ap (λ b. (is_event_of view client e || b) && not (is_before w.tale.moment (d.ends client.number)))
      (same_given d w.tale.moment plan here (name_of client client.taken) _
      (filled-there (λ m. is_message m (name_of client client.taken)) (by.given w) w.decided.own (name_of client client.taken) (same_message (name_of client client.taken))))
      ∙ ap (λ b. (is_event_of view client e || gives_up plan w.tale.moment (name_of client client.taken)) && not b)
      (same_before d w.tale.moment plan here (omega (arith, now, closed)) client.number)

  pub goes_on_follows : (moment : ℕ) (view : View) (e : Entry) (w : World X) (client : Client) → w.tale.moment ≡ moment → moment ≤ suc w.decided.until
      → Follows w (goes_on setup by view e w client) moment (λ plan tale. client_goes_on setup plan view e tale client)
  goes_on_follows moment view e w client now closed = by_test (is_called v.decided w.tale.moment view e client) refl where
    v : World X
    v = record w { decided = decided_last by w client }

    by_test : (b : Bool) → is_called v.decided w.tale.moment view e client ≡ b
        → Follows w (if b then are_taken (length (messages (plan_of v.decided) client)) setup by client v else v) moment (λ plan tale. client_goes_on setup plan view e tale client)
    by_test false is = record {
      more = last_more w client;
      now = now;
      same = λ plan agrees. ap (λ b. if b then taken_up (length (messages plan client)) setup plan client w.tale else w.tale)
          (sym is ∙ called_same moment view e w client now closed plan agrees);
    }
    by_test true is =
        let most = length (messages (plan_of v.decided) client) in
        let rest = are_taken_follow moment most client v now in
        record {
          more = more-trans w.decided v.decided (are_taken most setup by client v).decided (last_more w client) rest.more;
          now = rest.now;
          same = λ plan agrees.
              let before : Agrees v.decided moment plan = agrees-less v.decided (are_taken most setup by client v).decided moment plan rest.more agrees in
              rest.same plan agrees
              ∙ ap (λ service. taken_up (length (messages (record plan { service = service }) client)) setup plan client w.tale) (sym before.service)
              ∙ ap (λ b. if b then taken_up (length (messages plan client)) setup plan client w.tale else w.tale)
              (sym is ∙ called_same moment view e w client now closed plan before);
        }

  pub going_follows : (moment : ℕ) (view : View) (e : Entry) (xs : List Client) (w : World X) → w.tale.moment ≡ moment → moment ≤ suc w.decided.until
      → Follows w (fold (goes_on setup by view e) w xs) moment (λ plan tale. fold (client_goes_on setup plan view e) tale xs)
  going_follows moment view e [] w now closed = record { more = more-refl w.decided; now = now; same = λ plan agrees. refl }
  going_follows moment view e (x ∷ xs) w now closed =
      let one = goes_on_follows moment view e w x now closed in
      let rest = going_follows moment view e xs (goes_on setup by view e w x) one.now (let same : (goes_on setup by view e w x).decided.until ≡ w.decided.until = one.more.until in omega arith) in
      let last : World X = fold (goes_on setup by view e) (goes_on setup by view e w x) xs in
      record {
        more = more-trans w.decided (goes_on setup by view e w x).decided last.decided one.more rest.more;
        now = rest.now;
        same = λ plan agrees. rest.same plan agrees ∙ ap (λ t. fold (client_goes_on setup plan view e) t xs)
            (one.same plan (agrees-less (goes_on setup by view e w x).decided last.decided moment plan rest.more agrees));
      }

  pub go_on_follows : (moment : ℕ) (view : View) (e : Entry) (w : World X) → w.tale.moment ≡ moment → moment ≤ suc w.decided.until
      → Follows w (go_on setup by view e w) moment (λ plan. clients_go_on setup plan view e)
  go_on_follows moment view e w now closed =
      let all = going_follows moment view e w.tale.clients w now closed in
      record { more = all.more; now = all.now; same = λ plan agrees. all.same plan agrees }

  -- An entry is told.

  step-more : (w : World X) (link : LinkId) (for : Tag) (bytes : List ℕ) → IsMore w.decided (with_step by w link for bytes)
  step-more w link for bytes = record {
    service = refl;
    room = refl;
    logins = λ l login is. is;
    routes = λ m route is. filled-kept (is_tagged (tagged for)) (by.routed w) w.decided.routes m route is;
    own = λ m answer is. filled-kept (is_asked (tagged for)) (by.given w) w.decided.own m answer is;
    ends = refl;
    until = refl;
    steps = λ l n step is.
        filled-kept (λ n. is_link_id l link && nat_eq n (w.tale.wires link).begun) (λ n. by.step w link for bytes) (w.decided.steps l) n step is;
    keys = λ k key is. is;
  }

  login-more : (w : World X) (link : LinkId) → IsMore w.decided (with_login by w link)
  login-more w link = record {
    service = refl;
    room = refl;
    logins = λ l login is. filled-kept (λ l. is_link_id l link) (λ l. by.login w link) w.decided.logins l login is;
    routes = λ m route is. is;
    own = λ m answer is. is;
    ends = refl;
    until = refl;
    steps = λ l n step is. is;
    keys = λ k key is. is;
  }

  if-more : (d x y : Decided) (b : Bool) → IsMore d x → IsMore d y → IsMore d (if b then x else y)
  if-more d x y true first second = first
  if-more d x y false first second = second

  pub told-more : (w : World X) (e : Entry) → IsMore w.decided (decided_told setup by w e)
  told-more w (entry.Opened server address link) = login-more w link
  told-more w (entry.Got link bytes) = login-more w link
  told-more w (entry.Wrote link for bytes) =
      if-more w.decided (with_step by w link for bytes) w.decided (is_to_server w.tale link && may_begin setup link (w.tale.wires link) w.tale)
      (step-more w link for bytes) (more-refl w.decided)
  told-more w _ = more-refl w.decided

  login_same : (w : World X) (link : LinkId) (moment : ℕ) (plan : Plan) → Agrees (with_login by w link) moment plan
      → (plan_of (with_login by w link)).logins link ≡ plan.logins link
  login_same w link moment plan agrees =
      same_login (with_login by w link) moment plan agrees link _
      (filled-there (λ l. is_link_id l link) (λ l. by.login w link) w.decided.logins link (same_link link))

  abbrev begins_by : Plan → World X → LinkId → Tag → List ℕ → Tale
  begins_by plan w link for bytes = begins setup plan link for bytes (w.tale.wires link) w.tale

  abbrev goes_by : World X → LinkId → List ℕ → Tale
  goes_by w link bytes = with_wire link (record (w.tale.wires link) { written = (w.tale.wires link).written ++ bytes }) w.tale

  abbrev gets_by : World X → LinkId → List ℕ → Tale
  gets_by w link bytes = record w.tale { clients = map (client_gets link (length bytes)) w.tale.clients }

  pub asked_same : (w : World X) (link : LinkId) (for : Tag) (bytes : List ℕ) (plan : Plan) → Agrees (with_step by w link for bytes) w.tale.moment plan
      → SameAsked (plan_of (with_step by w link for bytes)) plan w.tale.moment link (w.tale.wires link).begun for
  asked_same w link for bytes plan agrees =
      let d : Decided = with_step by w link for bytes in
      record {
        routes = λ m is. same_route d w.tale.moment plan agrees m _ (filled-there (is_tagged (tagged for)) (by.routed w) w.decided.routes m is);
        own = λ m is. same_own d w.tale.moment plan agrees m _ (filled-there (is_asked (tagged for)) (by.given w) w.decided.own m is);
        steps = same_step d w.tale.moment plan agrees link (w.tale.wires link).begun _
            (filled-there (λ n. is_link_id link link && nat_eq n (w.tale.wires link).begun) (λ n. by.step w link for bytes) (w.decided.steps link) (w.tale.wires link).begun
            (and_from _ _ (same_link link) (same_number (w.tale.wires link).begun)));
      }

  -- by whether it begins a question on a link to a server
  wrote_same : (w : World X) (link : LinkId) (for : Tag) (bytes : List ℕ) (plan : Plan) (there begins : Bool)
      → Agrees (if there && begins then with_step by w link for bytes else w.decided) w.tale.moment plan
      → (if there then (if begins then begins_by (plan_of (if there && begins then with_step by w link for bytes else w.decided)) w link for bytes else goes_by w link bytes) else gets_by w link bytes)
      ≡ (if there then (if begins then begins_by plan w link for bytes else goes_by w link bytes) else gets_by w link bytes)
  wrote_same w link for bytes plan true true agrees =
      begins_same setup (plan_of (with_step by w link for bytes)) plan link for bytes (w.tale.wires link) w.tale (asked_same w link for bytes plan agrees)
  wrote_same w link for bytes plan true false agrees = refl
  wrote_same w link for bytes plan false true agrees = refl
  wrote_same w link for bytes plan false false agrees = refl

  pub told_same : (w : World X) (e : Entry) (moment : ℕ) (plan : Plan) → moment ≡ w.tale.moment → Agrees (decided_told setup by w e) moment plan
      → told setup (plan_of (decided_told setup by w e)) w.tale e ≡ told setup plan w.tale e
  told_same w (entry.Got link bytes) moment plan now agrees =
      ap (λ t. if is_to_server w.tale link then t else record w.tale { clients = map (client_hears link bytes) w.tale.clients })
      (says_same setup (plan_of (with_login by w link)) plan link bytes w.tale (login_same w link moment plan agrees))
  told_same w (entry.Wrote link for bytes) moment plan now agrees =
      wrote_same w link for bytes plan (is_to_server w.tale link) (may_begin setup link (w.tale.wires link) w.tale)
      (subst (λ k. Agrees (decided_told setup by w (entry.Wrote link for bytes)) k plan) now agrees)
  told_same w _ moment plan now agrees = refl

  -- Messages are given up and clients ended from the next moment on.

  given_kept : (moment : ℕ) (payloads : Option (List (List ℕ))) (answer : OwnAnswer) → given_up moment payloads (Some (Some answer)) ≡ Some (Some answer)
  given_kept moment None answer = refl
  given_kept moment (Some payloads) answer = refl

  end_kept : (moment : ℕ) (ends : Bool) (at : ℕ) → ended_now moment ends (Some at) ≡ Some at
  end_kept moment true at = refl
  end_kept moment false at = refl

  some-of : {A : Type 0} (a b : A) → Some a ≡ Some b → a ≡ b
  some-of a b is = cc

  given_later : (moment : ℕ) (payloads : Option (List (List ℕ))) (answer : OwnAnswer) (own : Option OwnAnswer)
      → ((other : OwnAnswer) → given_up (suc moment) payloads (Some None) ≡ Some (Some other) → own ≡ Some other)
      → (given_up (suc moment) payloads (Some None) ≡ Some None → own ≡ Some answer → suc moment < answer.from) → own ≡ Some answer → moment < answer.from
  given_later moment None answer own given not_given has = let later : suc moment < answer.from = not_given refl has in omega arith
  given_later moment (Some payloads) answer own given not_given has =
      let is : record { from = suc moment; payloads = payloads } ≡ answer = some-of _ _ (sym (given _ refl) ∙ has) in
      let at : suc moment ≡ answer.from = ap (λ (a : OwnAnswer). a.from) is in omega arith

  ended_later : (until moment at : ℕ) (ends : Bool) (planned : Option ℕ) → until < moment → ((n : ℕ) → ended_now moment ends None ≡ Some n → planned ≡ Some n)
      → (ended_now moment ends None ≡ None → planned ≡ Some at → moment < at) → planned ≡ Some at → until < at
  ended_later until moment at false planned early ended going has = let later : moment < at = going refl has in omega arith
  ended_later until moment at true planned early ended going has = let is : moment ≡ at = some-of _ _ (sym (ended moment refl) ∙ has) in omega arith

  pub ended_agrees : (w : World X) (e : Entry) (plan : Plan) → w.decided.until < w.tale.moment → Agrees (decided_ends by w e) w.tale.moment plan
      → Agrees w.decided w.tale.moment plan
  ended_agrees w e plan early agrees = record {
    service = agrees.service;
    room = agrees.room;
    logins = agrees.logins;
    routes = agrees.routes;
    answered = agrees.answered;
    unanswered = agrees.unanswered;
    ended = λ c at is. agrees.ended c at (ap (ended_now w.tale.moment (by.ends w e c)) is ∙ end_kept w.tale.moment (by.ends w e c) at);
    going = λ c at is has. ended_later w.decided.until w.tale.moment at (by.ends w e c) (plan.ends c) early
        (λ n ended. agrees.ended c n (ap (ended_now w.tale.moment (by.ends w e c)) is ∙ ended))
        (λ none planned. agrees.going c at (ap (ended_now w.tale.moment (by.ends w e c)) is ∙ none) planned) has;
    steps = agrees.steps;
  }

  pub counted_agrees : (w : World X) (e : Entry) (plan : Plan) → Agrees (decided_by_now by w e) (suc w.tale.moment) plan → Agrees w.decided w.tale.moment plan
  counted_agrees w e plan agrees = record {
    service = agrees.service;
    room = agrees.room;
    logins = agrees.logins;
    routes = agrees.routes;
    answered = λ m answer is.
        agrees.answered m answer (ap (given_up (suc w.tale.moment) (by.gives_up w e m)) is ∙ given_kept (suc w.tale.moment) (by.gives_up w e m) answer);
    unanswered = λ m answer is has. given_later w.tale.moment (by.gives_up w e m) answer (plan.own m)
        (λ other given. agrees.answered m other (ap (given_up (suc w.tale.moment) (by.gives_up w e m)) is ∙ given))
        (λ none own. agrees.unanswered m answer (ap (given_up (suc w.tale.moment) (by.gives_up w e m)) is ∙ none) own) has;
    ended = agrees.ended;
    going = agrees.going;
    steps = agrees.steps;
  }

  -- Each entry, and each log.

  pub record IsStep (w : World X) (e : Entry) (plan : Plan) : Type 0 where
    pub before : Agrees w.decided w.tale.moment plan
    pub told : Agrees (decided_told setup by w e) (is_told setup by w e).tale.moment plan
    pub same : (world_step setup by w e).tale ≡ tale_step setup plan w.tale e

  -- by what entry clients were ended
  abbrev pub IsEven : World X → Type 0
  IsEven w = w.decided.until ≡ w.tale.moment

  pub step_even : (w : World X) (e : Entry) → IsEven (world_step setup by w e)
  step_even w e =
      let c : World X = are_freed setup by (is_counted by (is_told setup by w e) e) in
      let d : World X = go_on setup by (view_of setup w.tale) e c in
      let f : World X = is_ended by d e in
      let to_g = are_freed_follows f.tale.moment f refl in
      let same : (world_step setup by w e).decided.until ≡ d.tale.moment = to_g.more.until in
      let kept : f.tale.moment ≡ d.tale.moment = ends_moment (plan_of f.decided) d.tale.clients d.tale in
      same ∙ sym kept ∙ sym to_g.now

  -- before clients are ended, they were until the entry before
  pub going_even : (w : World X) (e : Entry) → IsEven w
      → suc (go_on setup by (view_of setup w.tale) e (are_freed setup by (is_counted by (is_told setup by w e) e))).decided.until
      ≡ (go_on setup by (view_of setup w.tale) e (are_freed setup by (is_counted by (is_told setup by w e) e))).tale.moment
  going_even w e even =
      let a : World X = is_told setup by w e in
      let b : World X = is_counted by a e in
      let c : World X = are_freed setup by b in
      let m = suc a.tale.moment in
      let kept : a.tale.moment ≡ w.tale.moment = told_moment setup (plan_of a.decided) w.tale e in
      let until_a : a.decided.until ≡ w.decided.until = (told-more w e).until in
      let to_c = are_freed_follows m b refl in
      let until_c : c.decided.until ≡ b.decided.until = to_c.more.until in
      let even_c : suc c.decided.until ≡ m = ap (λ k. suc k) (until_c ∙ until_a ∙ even ∙ sym kept) in
      let to_d = go_on_follows m (view_of setup w.tale) e c to_c.now (omega (arith, even_c)) in
      ap (λ k. suc k) to_d.more.until ∙ even_c ∙ sym to_d.now

  pub stepped : (w : World X) (e : Entry) (plan : Plan) → IsEven w → Agrees (world_step setup by w e).decided (world_step setup by w e).tale.moment plan → IsStep w e plan
  stepped w e plan even agrees =
      let a : World X = is_told setup by w e in
      let b : World X = is_counted by a e in
      let c : World X = are_freed setup by b in
      let d : World X = go_on setup by (view_of setup w.tale) e c in
      let f : World X = is_ended by d e in
      let m = suc a.tale.moment in
      let kept : a.tale.moment ≡ w.tale.moment = told_moment setup (plan_of a.decided) w.tale e in
      let until_a : a.decided.until ≡ w.decided.until = (told-more w e).until in
      let to_c = are_freed_follows m b refl in
      let until_c : c.decided.until ≡ b.decided.until = to_c.more.until in
      let even_c : suc c.decided.until ≡ m = ap (λ k. suc k) (until_c ∙ until_a ∙ even ∙ sym kept) in
      let closed_c : m ≤ suc c.decided.until = omega (arith, even_c) in
      let to_d = go_on_follows m (view_of setup w.tale) e c to_c.now closed_c in
      let until_d : d.decided.until ≡ c.decided.until = to_d.more.until in
      let now_f : f.tale.moment ≡ m = ends_moment (plan_of f.decided) d.tale.clients d.tale ∙ to_d.now in
      let to_g = are_freed_follows m f now_f in
      let on_g : Agrees (world_step setup by w e).decided m plan = subst (λ k. Agrees (world_step setup by w e).decided k plan) to_g.now agrees in
      let on_f : Agrees f.decided m plan = agrees-less f.decided (world_step setup by w e).decided m plan to_g.more on_g in
      let now_d : d.tale.moment ≡ m = to_d.now in
      let early : d.decided.until < d.tale.moment = omega (arith, even_c, until_d, now_d) in
      let on_d : Agrees d.decided m plan = subst (λ k. Agrees d.decided k plan) to_d.now (ended_agrees d e plan early (subst (λ k. Agrees f.decided k plan) (sym to_d.now) on_f)) in
      let on_c : Agrees c.decided m plan = agrees-less c.decided d.decided m plan to_d.more on_d in
      let on_b : Agrees b.decided m plan = agrees-less b.decided c.decided m plan to_c.more on_c in
      let on_a : Agrees a.decided a.tale.moment plan = counted_agrees a e plan on_b in
      let on_w : Agrees w.decided a.tale.moment plan = agrees-less w.decided a.decided a.tale.moment plan (told-more w e) on_a in
      let first : a.tale ≡ told setup plan w.tale e = told_same w e a.tale.moment plan kept on_a in
      let closed_f : m ≤ f.decided.until = omega (arith, now_d) in
      let next : f.tale ≡ clients_are_ended plan d.tale = ends_same (plan_of f.decided) plan m (same_now f.decided m plan on_f closed_f) d.tale.clients d.tale to_d.now in
      record {
        before = subst (λ k. Agrees w.decided k plan) kept on_w;
        told = on_a;
        same = to_g.same plan on_g ∙ ap (links_are_freed setup plan) (next ∙ ap (clients_are_ended plan) (to_d.same plan on_d
            ∙ ap (clients_go_on setup plan (view_of setup w.tale) e) (to_c.same plan on_c ∙ ap (λ t. links_are_freed setup plan (counted t)) first)));
      }

  pub record IsFold (w : World X) (log : Log) (plan : Plan) : Type 0 where
    pub before : Agrees w.decided w.tale.moment plan
    pub same : (fold (world_step setup by) w log).tale ≡ fold (tale_step setup plan) w.tale log

  pub folded : (log : Log) (w : World X) (plan : Plan) → IsEven w
      → Agrees (fold (world_step setup by) w log).decided (fold (world_step setup by) w log).tale.moment plan → IsFold w log plan
  folded [] w plan even agrees = record { before = agrees; same = refl }
  folded (e ∷ log) w plan even agrees =
      let later = folded log (world_step setup by w e) plan (step_even w e) agrees in
      let here = stepped w e plan even later.before in
      record { before = here.before; same = later.same ∙ ap (λ t. fold (tale_step setup plan) t log) here.same }
