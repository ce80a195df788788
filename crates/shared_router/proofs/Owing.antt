-- Of each statement that became due it was decided whether the router answers it: so each plan that agrees has the same statements due.
use Rattle.std.specs.Prelude.{◌≡◌, ℕ, zero, suc, Bool, true, false, ◌&&◌, if◌then◌else◌, fold, is_some, length, nat_eq, slice_get, slice_index_or, unwrap_or, List, [], ◌∷◌, Option, Some, None}
use Rattle.std.specs.Option.{option_map_or}
use Rattle.std.proofs.Common.{refl, sym, ap, ◌∙◌, subst}
use Rattle.mx_base.specs.declared.names.LinkId.{LinkId}
use Rattle.mx_base.specs.declared.tag.Tag.{Tag}
use Rattle.mx_wire.specs.Log.{Log}
use Rattle.mx_wire.specs.declared.entry.Entry.{Entry}
use Rattle.mx_wire.specs.declared.entry.Entry.TheVariants as entry
use Rattle.packet_frame.specs.Packets.{Framed}
use Rattle.private_model.proofs.Maps.{same_message}
use Rattle.private_model.specs.Names.{Hostgroup, MessageName, SessionName}
use Rattle.private_model.specs.Story.{BecameDue, Due, Freed, Left, Story}
use Rattle.private_model.specs.Story.{is_message, message_of}
use Rattle.private_model.specs.View.{Setup, View}
use Rattle.log_story.specs.Clients.{due_by, ended_if_now, next_taken, taken_by}
use Rattle.log_story.specs.Clients as clients
use Rattle.log_story.specs.Executes.{Request, requested}
use Rattle.log_story.specs.Owed.{messages, name_of}
use Rattle.log_story.specs.Plan.{OwnAnswer, Plan, Route, com_reset, is_now}
use Rattle.log_story.specs.Servers.{is_done, may_begin}
use Rattle.log_story.specs.Tale.{Client, Tale, is_to_server, link_in, tell, view_of}
use Rattle.tale_world.specs.Decided.{Decided, IsMore, filled, plan_of}
use Rattle.tale_world.specs.Deciding.{Deciding, World}
use Rattle.tale_world.specs.Served.{SameFor}
use Rattle.tale_world.specs.World.{are_freed, are_taken, decided_by_now, decided_ends, decided_freed, decided_last, decided_looked, decided_next, decided_told, freed_there, given_up, go_on, goes_on, is_called, is_counted, is_ended, is_told, is_up, next_message, next_of, tagged, taken_once, with_route, with_step, with_taken}
use Rattle.tale_world.specs.World.{is_looked_up, is_tagged, looked_at, looked_for}
use Rattle.tale_world.proofs.Agreeing.{agrees-itself, agrees-less, filled-there, more-refl}
use Rattle.tale_world.proofs.Following.{are_freed_follows, go_on_follows, looked_same, next-more, since-looked, told-more}
use Rattle.tale_world.proofs.Looking.{same_messages, same_up}
use Rattle.shared_router.specs.Fixed.{Fixed, IsNumbered, setup_of}
use Rattle.shared_router.specs.More.{More}
use Rattle.shared_router.specs.Shared.{shared, world_at}
use Rattle.shared_router.proofs.Dues.{AllDue, all_later, due_is, either, other_due}
use Rattle.shared_router.proofs.Others.{entry_keeps}
use Rattle.shared_router.proofs.Parting.{first, next}
use Rattle.shared_router.proofs.Routing.{closed}
use Rattle.shared_router.proofs.Plain.{IsPlain, IsPlainIf, plain_filled, plain_of, route_plain}

-- it was decided whether the router answers it
abbrev pub is_seen : Decided → MessageName → Bool
is_seen d m = is_some (d.own m)

abbrev pub AreSeen : Decided → Story → Type 0
AreSeen d story = AllDue (λ m. is_seen d m ≡ true) story

abbrev SeeMore : Decided → Decided → Type 0
SeeMore old new = (m : MessageName) → is_seen old m ≡ true → is_seen new m ≡ true

seen_later : (old new : Decided) → SeeMore old new → (story : Story) → AreSeen old story → AreSeen new story
seen_later old new more story seen = all_later (λ m. is_seen old m ≡ true) (λ m. is_seen new m ≡ true) more story seen

-- What was decided stays decided.

some_kept : {A : Type 0} (o p : Option A) → ((a : A) → o ≡ Some a → p ≡ Some a) → is_some o ≡ true → is_some p ≡ true
some_kept None p kept is = absurd (cc)
some_kept (Some a) p kept is = ap (λ q. is_some q) (kept a refl)

more_seen : (old new : Decided) → IsMore old new → SeeMore old new
more_seen old new more m is = some_kept (old.own m) (new.own m) (λ own has. more.own m own has) is

given_seen : (moment : ℕ) (payloads : Option (List (List ℕ))) (own : Option (Option OwnAnswer)) → is_some own ≡ true → is_some (given_up moment payloads own) ≡ true
given_seen moment (Some payloads) (Some None) is = refl
given_seen moment (Some payloads) (Some (Some answer)) is = refl
given_seen moment (Some payloads) None is = absurd (cc)
given_seen moment None own is = is

-- Along the log: routes have no mirrors, and what became due was looked at.
pub record Owes (w : World More) : Type 0 where
  pub plain : (m : MessageName) → IsPlainIf (w.decided.routes m)
  pub seen : AreSeen w.decided w.tale.story

module _ (fixed : Fixed) where
  abbrev setup : Setup
  setup = setup_of fixed

  abbrev by : Deciding More
  by = shared fixed

  -- as an entry is told

  step_plain : (w : World More) (link : LinkId) (for : Tag) (bytes : List ℕ) → ((m : MessageName) → IsPlainIf (w.decided.routes m))
      → (m : MessageName) → IsPlainIf ((with_step by w link for bytes).routes m)
  step_plain w link for bytes plain = plain_filled (is_tagged (tagged for)) (λ m. None) w.decided.routes (λ m. tt) plain

  told_plain : (w : World More) (e : Entry) → ((m : MessageName) → IsPlainIf (w.decided.routes m)) → (m : MessageName) → IsPlainIf ((decided_told setup by w e).routes m)
  told_plain w (entry.Opened server address link) plain = plain
  told_plain w (entry.Got link bytes) plain = plain
  told_plain w (entry.Wrote link for bytes) plain =
      either (λ (d : Decided). (m : MessageName) → IsPlainIf (d.routes m)) (is_to_server w.tale link && may_begin setup link (w.tale.wires link) w.tale)
      (with_step by w link for bytes) w.decided (step_plain w link for bytes plain) plain
  told_plain w _ plain = plain

  owes_told : (w : World More) (e : Entry) → Owes w → Owes (is_told setup by w e)
  owes_told w e owes =
      let d : Decided = decided_told setup by w e in
      record {
        plain = told_plain w e owes.plain;
        seen = entry_keeps setup (plan_of d) (AreSeen d) (other_due (λ m. is_seen d m ≡ true)) w.tale e
            (seen_later w.decided d (more_seen w.decided d (told-more setup by w e)) w.tale.story owes.seen);
      }

  owes_counted : (w : World More) (e : Entry) → Owes w → Owes (is_counted by w e)
  owes_counted w e owes = record {
    plain = owes.plain;
    seen = seen_later w.decided (decided_by_now by w e) (λ m is. given_seen (suc w.tale.moment) (by.gives_up w e m) (w.decided.own m) is) w.tale.story owes.seen;
  }

  -- as clients are ended, and links are given back

  ending_seen : (d : Decided) (p : Plan) (xs : List Client) (tale : Tale) → AreSeen d tale.story → AreSeen d (fold (ended_if_now p) tale xs).story
  ending_seen d p [] tale seen = seen
  ending_seen d p (x ∷ xs) tale seen =
      ending_seen d p xs (ended_if_now p tale x)
      (either (λ (t : Tale). AreSeen d t.story) (is_now tale.moment (p.ends x.number)) (tell (Left x.number) tale) tale seen seen)

  owes_ended : (w : World More) (e : Entry) → Owes w → Owes (is_ended by w e)
  owes_ended w e owes = record {
    plain = owes.plain;
    seen = ending_seen (decided_ends by w e) (plan_of (decided_ends by w e)) w.tale.clients w.tale
        (seen_later w.decided (decided_ends by w e) (λ m is. is) w.tale.story owes.seen);
  }

  -- looked at
  filled_seen : (which : MessageName → Bool) (value : MessageName → Option OwnAnswer) (f : MessageName → Option (Option OwnAnswer)) (m : MessageName)
      → is_some (f m) ≡ true → is_some (filled which value f m) ≡ true
  filled_seen which value f m is = either (λ (o : Option (Option OwnAnswer)). is_some o ≡ true) (which m) (Some (unwrap_or (f m) (value m))) (f m) refl is

  looking_seen : (w : World More) (which : MessageName → Bool) → AreSeen w.decided w.tale.story → AreSeen (looked_at by w which) w.tale.story
  looking_seen w which seen = seen_later w.decided (looked_at by w which) (λ m is. filled_seen which (by.given w) w.decided.own m is) w.tale.story seen

  owes_freed : (xs : List LinkId) (w : World More) → Owes w → Owes (fold (freed_there setup by) w xs)
  owes_freed [] w owes = owes
  owes_freed (x ∷ xs) w owes =
      let d : Decided = decided_freed setup by w x in
      let which : MessageName → Bool = looked_for (view_of setup w.tale).dues (link_in setup w.tale x).carries in
      owes_freed xs (freed_there setup by w x) (record {
        plain = owes.plain;
        seen = either (λ (t : Tale). AreSeen d t.story) (is_done (plan_of d) w.tale.moment (view_of setup w.tale) (w.tale.wires x) (link_in setup w.tale x))
            (tell (Freed x) w.tale) w.tale (looking_seen w which owes.seen) (looking_seen w which owes.seen);
      })

  -- as messages are taken up

  abbrev IsTaken : Decided → Option Tale → Type 0
  IsTaken d None = Unit {0}
  IsTaken d (Some tale) = AreSeen d tale.story

  due_seen : (d : Decided) (client : Client) (ordinal : ℕ) (route : Route) (request : Option Request) (tale : Tale) → route.mirror ≡ None
      → is_seen d (name_of client ordinal) ≡ true → AreSeen d tale.story → AreSeen d (due_by client ordinal route request tale).story
  due_seen d client ordinal route None tale plain is seen = seen
  due_seen d client ordinal route (Some request) tale plain is seen =
      let due : Tale = tell (BecameDue client.number route.hostgroup ordinal request.key request.command route.multiplex) tale in
      subst (λ (o : Option Hostgroup). AreSeen d (clients.copied (name_of client ordinal) request.command o due).story) (sym plain) (is, seen)

  taken_seen : (d : Decided) (client : Client) (ordinal : ℕ) (message : Framed) (route : Option Route) (tale : Tale) → IsPlain route
      → is_seen d (name_of client ordinal) ≡ true → AreSeen d tale.story → AreSeen d (taken_by setup (plan_of d) client ordinal message route tale).story
  taken_seen d client ordinal message None tale plain is seen =
      either (λ (t : Tale). AreSeen d t.story) (nat_eq (slice_index_or message.payload 0 0) com_reset) (tell (Left client.number) tale) tale seen seen
  taken_seen d client ordinal message (Some route) tale plain is seen =
      due_seen d client ordinal route (requested setup (view_of setup tale) (plan_of d) client ordinal route message.payload) tale plain is seen

  next_seen : (d : Decided) (client : Client) (found : Option Framed) (tale : Tale) → ((m : MessageName) → IsPlainIf (d.routes m))
      → ((is_some found && clients.is_up setup (plan_of d) client tale) ≡ true → is_seen d (name_of client (suc client.taken)) ≡ true)
      → AreSeen d tale.story → IsTaken d (next_taken setup (plan_of d) client found tale)
  next_seen d client None tale plain is seen = tt
  next_seen d client (Some message) tale plain is seen = by_test (clients.is_up setup (plan_of d) client tale) is where
    name : MessageName
    name = name_of client (suc client.taken)

    by_test : (b : Bool) → (b ≡ true → is_seen d (name_of client (suc client.taken)) ≡ true)
        → IsTaken d (if b then Some (taken_by setup (plan_of d) client (suc client.taken) message ((plan_of d).routes (name_of client (suc client.taken))) tale) else None)
    by_test true now =
        taken_seen d client (suc client.taken) message ((plan_of d).routes (name_of client (suc client.taken))) tale
        (plain_of (d.routes (name_of client (suc client.taken))) (plain (name_of client (suc client.taken)))) (now refl) seen
    by_test false now = tt

  -- the message that comes up is looked at
  up_seen : (w : World More) (client : Client) (b : Bool) (d : Decided) (message : Option Framed) → (is_some message && b) ≡ true
      → is_seen (if b then with_route by w client d message else d) (name_of client (suc client.taken)) ≡ true
  up_seen w client true d (Some message) is =
      ap (λ o. is_some o) (filled-there (λ m. is_message m (name_of client (suc client.taken))) (λ m. by.answer w client (suc client.taken) message) d.own
      (name_of client (suc client.taken)) (same_message (name_of client (suc client.taken))))
  up_seen w client true d None is = absurd (cc)
  up_seen w client false d (Some message) is = absurd (cc)
  up_seen w client false d None is = absurd (cc)

  abbrev after : World More → Client → Decided
  after w client = decided_next setup by w client

  abbrev looked : World More → Client → Decided
  looked w client = decided_looked setup by w client

  last_seen : (w : World More) (client : Client)
      → (is_some (slice_get (messages (plan_of (after w client)) client) client.taken) && clients.is_up setup (plan_of (after w client)) client w.tale) ≡ true
      → is_seen (after w client) (name_of client (suc client.taken)) ≡ true
  last_seen w client is =
      let m = w.tale.moment in
      let same : SameFor client (view_of setup w.tale) m (plan_of (looked w client)) (plan_of (after w client)) =
      looked_same setup by w client (looked w client) (plan_of (after w client)) (more-refl (looked w client))
      (agrees-less (looked w client) (after w client) m (plan_of (after w client)) (since-looked setup by w client) (agrees-itself (after w client) m)) in
      let up : is_up setup (looked w client) w.tale client ≡ is_up setup (after w client) w.tale client =
      same_up client (view_of setup w.tale) m (plan_of (looked w client)) (plan_of (after w client)) same setup w.tale refl refl in
      let said : messages (plan_of (looked w client)) client ≡ messages (plan_of (after w client)) client =
      same_messages client (view_of setup w.tale) m (plan_of (looked w client)) (plan_of (after w client)) same in
      up_seen w client (is_up setup (looked w client) w.tale client) (looked w client) (next_message (looked w client) client)
      (ap (λ b. is_some (next_message (looked w client) client) && b) up
      ∙ ap (λ (ms : List Framed). is_some (slice_get ms client.taken) && is_up setup (after w client) w.tale client) said ∙ is)

  route_all : (w : World More) (client : Client) (d : Decided) (found : Option Framed) → ((m : MessageName) → IsPlainIf (d.routes m))
      → (m : MessageName) → IsPlainIf ((with_route by w client d found).routes m)
  route_all w client d None plain = plain
  route_all w client d (Some message) plain =
      plain_filled (λ m. is_message m (name_of client (suc client.taken))) (λ m. by.route w client (suc client.taken) message) d.routes
      (λ m. route_plain fixed w client message) plain

  next_plain : (w : World More) (client : Client) → ((m : MessageName) → IsPlainIf (w.decided.routes m)) → (m : MessageName) → IsPlainIf ((after w client).routes m)
  next_plain w client plain =
      let old : (m : MessageName) → IsPlainIf ((looked w client).routes m) =
      plain_filled (is_looked_up (view_of setup w.tale) client) (λ m. None) w.decided.routes (λ m. tt) plain in
      either (λ (d : Decided). (m : MessageName) → IsPlainIf (d.routes m)) (is_up setup (looked w client) w.tale client)
      (with_route by w client (looked w client) (next_message (looked w client) client)) (looked w client)
      (route_all w client (looked w client) (next_message (looked w client) client) old) old

  owes_next : (w : World More) (client : Client) → Owes w → Owes (record w { decided = after w client })
  owes_next w client owes = record {
    plain = next_plain w client owes.plain;
    seen = seen_later w.decided (after w client) (more_seen w.decided (after w client) (next-more setup by w client)) w.tale.story owes.seen;
  }

  owes_taken : (w : World More) (client : Client) → Owes w → IsTaken (after w client) (taken_once setup by w client)
  owes_taken w client owes =
      let d : Decided = after w client in
      let onward = owes_next w client owes in
      next_seen d client (slice_get (messages (plan_of d) client) client.taken) w.tale onward.plain (last_seen w client) onward.seen

  owes_client : (most : ℕ) (client : Client) (w : World More) → Owes w → Owes (are_taken most setup by client w)
  owes_client zero client w owes = owes
  owes_client (suc most) client w owes = by_found (taken_once setup by w client) (owes_taken w client owes) (owes_client most (next_of client)) where
    by_found : (found : Option Tale) → IsTaken (decided_next setup by w client) found → ((v : World More) → Owes v → Owes (are_taken most setup by (next_of client) v))
        → Owes (option_map_or (λ tale. are_taken most setup by (next_of client) (with_taken setup by w client tale)) found (record w { decided = decided_next setup by w client }))
    by_found None is others = owes_next w client owes
    by_found (Some tale) is others = others (with_taken setup by w client tale) (record { plain = (owes_next w client owes).plain; seen = is })

  owes_going : (view : View) (e : Entry) (xs : List Client) (w : World More) → Owes w → Owes (fold (goes_on setup by view e) w xs)
  owes_going view e [] w owes = owes
  owes_going view e (x ∷ xs) w owes =
      let v : World More = record w { decided = decided_last by w x } in
      let onward : Owes v = record { plain = owes.plain; seen = looking_seen w (λ m. is_message m (name_of x x.taken)) owes.seen } in
      owes_going view e xs (goes_on setup by view e w x)
      (either Owes (is_called v.decided w.tale.moment view e x) (are_taken (length (messages (plan_of v.decided) x)) setup by x v) v
      (owes_client (length (messages (plan_of v.decided) x)) x v onward) onward)

  owes_step : (w : World More) (e : Entry) → Owes w → Owes (next fixed w e)
  owes_step w e owes =
      let a : World More = is_told setup by w e in
      let b : World More = is_counted by a e in
      let c : World More = are_freed setup by b in
      let d : World More = go_on setup by (view_of setup w.tale) e c in
      let f : World More = is_ended by d e in
      owes_freed f.tale.links f (owes_ended d e (owes_going (view_of setup w.tale) e c.tale.clients c (owes_freed b.tale.links b (owes_counted a e (owes_told w e owes)))))

  owes_from : (log : Log) (w : World More) → Owes w → Owes (fold (next fixed) w log)
  owes_from [] w owes = owes
  owes_from (e ∷ log) w owes = owes_from log (next fixed w e) (owes_step w e owes)

  pub owes_at : (log : Log) → Owes (world_at fixed log)
  owes_at log = owes_from log (first fixed) (record { plain = λ m. tt; seen = tt })

  -- what is due was looked at
  pub due_seen_at : (log : Log) (n : SessionName) (due : Due) → (view_of setup (world_at fixed log).tale).dues n ≡ Some due
      → is_seen (world_at fixed log).decided (message_of n due) ≡ true
  due_seen_at log n due is =
      let d : Decided = (world_at fixed log).decided in
      due_is (λ m. is_seen d m ≡ true) setup n (world_at fixed log).tale.story due (owes_at log).seen is

  -- what was looked at before an entry was so behind it
  pub seen_step : IsNumbered fixed → (w : World More) (e : Entry) → w.decided.until ≡ w.tale.moment → SeeMore w.decided (next fixed w e).decided
  seen_step numbered w e even m is =
      let a : World More = is_told setup by w e in
      let b : World More = is_counted by a e in
      let c : World More = are_freed setup by b in
      let d : World More = go_on setup by (view_of setup w.tale) e c in
      let f : World More = is_ended by d e in
      let to_c = are_freed_follows setup by (suc a.tale.moment) b refl in
      let to_d = go_on_follows setup by c.tale.moment (view_of setup w.tale) e c refl (closed fixed numbered w e even) in
      let to_g = are_freed_follows setup by f.tale.moment f refl in
      more_seen f.decided (next fixed w e).decided to_g.more m
      (more_seen c.decided d.decided to_d.more m (more_seen b.decided c.decided to_c.more m
      (given_seen (suc a.tale.moment) (by.gives_up a e m) (a.decided.own m) (more_seen w.decided a.decided (told-more setup by w e) m is))))
