-- The router's world, a fold of its log: each look-up in a plan is a decision, which is kept.
use Rattle.std.specs.Prelude.{Bool, List, false, fold, if◌then◌else◌, is_some, length, nat_eq, nat_le, slice_get, suc, true, zero, ℕ, ◌&&◌, ◌||◌}
use Rattle.std.specs.Prelude.{not, Option, Some, None}
use Rattle.std.specs.Option.{option_map_or, option_or}
use Rattle.mx_base.specs.declared.names.LinkId.{LinkId}
use Rattle.mx_base.specs.declared.tag.Tag.{Tag}
use Rattle.mx_base.specs.declared.tag.Tag.TheVariants as tag
use Rattle.mx_wire.specs.Log.{Log}
use Rattle.mx_wire.specs.declared.entry.Entry.{Entry}
use Rattle.mx_wire.specs.declared.entry.Entry.TheVariants.{Opened, Got, Wrote}
use Rattle.packet_frame.specs.Packets.{Framed}
use Rattle.client_session.specs.Setups.{Setup as Service}
use Rattle.private_model.specs.Names.{MessageName, SessionName}
use Rattle.private_model.specs.Story.{Due, is_client, is_link_id, is_message, message_of}
use Rattle.private_model.specs.View.{Carried, Lent, Setup, View}
use Rattle.log_story.specs.Clients.{clients_are_ended, is_event_of, next_taken}
use Rattle.log_story.specs.Clients as clients
use Rattle.log_story.specs.Owed.{messages, name_of}
use Rattle.log_story.specs.Plan.{OwnAnswer, gives_up, is_before, job_of}
use Rattle.log_story.specs.Servers.{freed_if_done, may_begin}
use Rattle.log_story.specs.Tale.{Client, Tale, counted, first_tale, is_to_server, link_in, view_of, with_client}
use Rattle.log_story.specs.Telling.{told}
use Rattle.tale_world.specs.Decided.{Decided, filled, first_decided, plan_of}
use Rattle.tale_world.specs.Deciding.{Deciding, World}

-- An entry is told: who logs in there is decided, and of a question that begins which step it is. A tag that names a message which
-- never came up has it go nowhere.

abbrev pub with_login : {X : Type 0} → Deciding X → World X → LinkId → Decided
with_login by w link = record w.decided {
  logins = filled (λ l. is_link_id l link) (λ l. by.login w link) w.decided.logins;
}

abbrev pub tagged : Tag → Option MessageName
tagged (tag.For client ordinal) = Some (record { client = client; ordinal = ordinal })
tagged (tag.Prep client ordinal) = Some (record { client = client; ordinal = ordinal })
tagged (tag.Mirror client ordinal) = Some (record { client = client; ordinal = ordinal })
tagged _ = None

abbrev pub is_tagged : Option MessageName → MessageName → Bool
is_tagged named m = option_map_or (λ n. is_message m n) named false

-- the message that is asked for, and its copy
abbrev pub is_asked : Option MessageName → MessageName → Bool
is_asked named m =
    option_map_or (λ n. is_message m n
    || is_message m (record { client = job_of n; ordinal = 1 })) named false

abbrev pub with_step : {X : Type 0} → Deciding X → World X → LinkId → Tag → List ℕ → Decided
with_step by w link for bytes = record w.decided {
  routes = filled (is_tagged (tagged for)) (by.routed w) w.decided.routes;
  own = filled (is_asked (tagged for)) (by.given w) w.decided.own;
  steps = λ l. filled (λ n. is_link_id l link && nat_eq n (w.tale.wires link).begun)
      (λ n. by.step w link for bytes) (w.decided.steps l);
}

abbrev pub decided_told : {X : Type 0} → Setup → Deciding X → World X → Entry → Decided
decided_told setup by w (Opened server address link) = with_login by w link
decided_told setup by w (Got link bytes) = with_login by w link
decided_told setup by w (Wrote link for bytes) =
    if is_to_server w.tale link
    && may_begin setup link (w.tale.wires link) w.tale then with_step by w link for bytes else w.decided
decided_told setup by w _ = w.decided

abbrev pub is_told : {X : Type 0} → Setup → Deciding X → World X → Entry → World X
is_told setup by w e = record {
  decided = decided_told setup by w e;
  tale = told setup (plan_of (decided_told setup by w e)) w.tale e;
  more = by.hears w e;
}

-- Then messages are given up and clients are ended, from this entry on. Of a client that is ended messages may be answered that were never
-- taken up.

abbrev pub given_up : (moment : ℕ) → (payloads : Option (List (List ℕ))) → Option (Option OwnAnswer)
    → Option (Option OwnAnswer)
given_up moment (Some said) (Some None) = Some (Some (record { from = moment; payloads = said }))
given_up moment (Some said) None = Some (Some (record { from = moment; payloads = said }))
given_up moment _ own = own

abbrev pub ended_now : (moment : ℕ) → (ends : Bool) → Option ℕ → Option ℕ
ended_now moment true None = Some moment
ended_now moment _ at = at

abbrev pub decided_by_now : {X : Type 0} → Deciding X → World X → Entry → Decided
decided_by_now by w e = record w.decided {
  own = λ m. given_up (suc w.tale.moment) (by.gives_up w e m) (w.decided.own m);
}

abbrev pub is_counted : {X : Type 0} → Deciding X → World X → Entry → World X
is_counted by w e = record w { decided = decided_by_now by w e; tale = counted w.tale }

abbrev pub decided_ends : {X : Type 0} → Deciding X → World X → Entry → Decided
decided_ends by w e = record w.decided {
  ends = λ c. ended_now w.tale.moment (by.ends w e c) (w.decided.ends c);
  until = w.tale.moment;
  words = λ c. option_or (w.decided.words c) (by.words w e c);
}

abbrev pub is_ended : {X : Type 0} → Deciding X → World X → Entry → World X
is_ended by w e = record w {
  decided = decided_ends by w e;
  tale = clients_are_ended (plan_of (decided_ends by w e)) w.tale;
}

-- Links are given back: a link that is lent is looked at for whether what it was lent for is given up.

abbrev pub looked_for : (dues : SessionName → Option Due) → Carried → MessageName → Bool
looked_for dues (Lent n) m = option_map_or (λ due. is_message m (message_of n due)) (dues n) false
looked_for dues _ m = false

abbrev pub looked_at : {X : Type 0} → Deciding X → World X → (MessageName → Bool) → Decided
looked_at by w which = record w.decided { own = filled which (by.given w) w.decided.own }

abbrev pub decided_freed : {X : Type 0} → Setup → Deciding X → World X → LinkId → Decided
decided_freed setup by w link =
    looked_at by w (looked_for (view_of setup w.tale).dues (link_in setup w.tale link).carries)

abbrev pub freed_there : {X : Type 0} → Setup → Deciding X → World X → LinkId → World X
freed_there setup by w link =
    let decided = decided_freed setup by w link in
    record {
      decided = decided;
      tale = freed_if_done setup
          (plan_of decided) w.tale link;
      more = by.frees w link;
    }

abbrev pub are_freed : {X : Type 0} → Setup → Deciding X → World X → World X
are_freed setup by w = fold (freed_there setup by) w w.tale.links

-- Messages are taken up. Looked at are the client's answers so far, where its messages went, and where a message went whose reply is there.

abbrev pub is_taken_of : Client → MessageName → Bool
is_taken_of client m = is_client m.client client.number && nat_le m.ordinal client.taken

abbrev pub has_reply : View → MessageName → Bool
has_reply view m = is_some (view.replies m)

abbrev pub is_looked_up : View → Client → MessageName → Bool
is_looked_up view client m = has_reply view m || is_taken_of client m

abbrev pub decided_looked : {X : Type 0} → Setup → Deciding X → World X → Client → Decided
decided_looked setup by w client = record w.decided {
  own = filled (is_taken_of client) (by.given w) w.decided.own;
  routes = filled (is_looked_up (view_of setup w.tale) client) (by.routed w) w.decided.routes;
}

-- the next message, where it comes up
abbrev pub is_up : Setup → Decided → Tale → Client → Bool
is_up setup d tale client = clients.is_up setup (plan_of d) client tale

abbrev pub next_message : Decided → Client → Option Framed
next_message d client = slice_get (messages (plan_of d) client) client.taken

-- where it goes and whether it is answered at once are one decision, of one world
abbrev pub with_route : {X : Type 0} → Deciding X → World X → Client → Decided → Option Framed → Decided
with_route by w client d None = d
with_route by w client d (Some message) = record d {
  routes = filled (λ m. is_message m (name_of client (suc client.taken)))
      (λ m. by.route w client (suc client.taken) message) d.routes;
  own = filled (λ m. is_message m (name_of client (suc client.taken)))
      (λ m. by.answer w client (suc client.taken) message) d.own;
}

abbrev pub decided_next : {X : Type 0} → Setup → Deciding X → World X → Client → Decided
decided_next setup by w client =
    let d = decided_looked setup by w client in
    if is_up setup d w.tale client then with_route by w client d (next_message d client) else d

-- it was taken up

abbrev pub with_more : {X : Type 0} → Deciding X → World X → Client → Option Framed → X
with_more by w client None = w.more
with_more by w client (Some message) = by.takes w client (suc client.taken) message

abbrev pub taken_once : {X : Type 0} → Setup → Deciding X → World X → Client → Option Tale
taken_once setup by w client =
    let d = decided_next setup by w client in
    next_taken setup (plan_of d) client (slice_get (messages (plan_of d) client) client.taken) w.tale

abbrev pub next_of : Client → Client
next_of client = record client { taken = suc client.taken }

abbrev pub with_taken : {X : Type 0} → Setup → Deciding X → World X → Client → Tale → World X
with_taken setup by w client tale =
    let d = decided_next setup by w client in
    record {
      decided = d;
      tale = with_client (next_of client) tale;
      more = with_more by w client
          (next_message d client);
    }

abbrev pub are_taken : {X : Type 0} → (most : ℕ) → Setup → Deciding X → Client → World X → World X
are_taken zero setup by client w = w
are_taken (suc most) setup by client w =
    option_map_or (λ tale. are_taken most setup by (next_of client) (with_taken setup by w client tale))
    (taken_once setup by w client)
    (record w { decided = decided_next setup by w client })

-- looked at is whether its last message is given up at this entry
abbrev pub decided_last : {X : Type 0} → Deciding X → World X → Client → Decided
decided_last by w client = looked_at by w (λ m. is_message m (name_of client client.taken))

abbrev pub is_called : Decided → (moment : ℕ) → View → Entry → Client → Bool
is_called d moment view e client =
    (is_event_of view client e || gives_up (plan_of d) moment (name_of client client.taken))
    && not (is_before moment (d.ends client.number))

abbrev pub goes_on : {X : Type 0} → Setup → Deciding X → View → Entry → World X → Client → World X
goes_on setup by view e w client =
    let v = record w { decided = decided_last by w client } in
    if is_called v.decided w.tale.moment view e client
    then are_taken (length (messages (plan_of v.decided) client)) setup by client v else v

abbrev pub go_on : {X : Type 0} → Setup → Deciding X → View → Entry → World X → World X
go_on setup by view e w = fold (goes_on setup by view e) w w.tale.clients

-- Each entry.

abbrev pub world_step : {X : Type 0} → Setup → Deciding X → World X → Entry → World X
world_step setup by w e =
    are_freed setup by (is_ended by
    (go_on setup by (view_of setup w.tale) e
    (are_freed setup by (is_counted by (is_told setup by w e) e))) e)

abbrev pub first_world : {X : Type 0} → Service → (room : ℕ) → X → World X
first_world service room more = record {
  decided = first_decided service room;
  tale = first_tale;
  more = more;
}

abbrev pub world_after : {X : Type 0} → Setup → Deciding X → Service → (room : ℕ) → X → Log → World X
world_after setup by service room more log =
    fold (world_step setup by) (first_world service room more) log
