-- The moment at which the loop asks to be woken is the same by the last plan as by what was decided then.
use Rattle.std.specs.Prelude.{◌≡◌, ◌+◌, ◌<◌, ◌≤◌, ℕ, zero, suc, Bool, true, false, not, ◌&&◌, cond, filter, fold, is_some, length, map, min, nat_lt, slice_get, unwrap_or, if◌then◌else◌, List, [], ◌∷◌, ◌++◌, Option, Some, None}
use Rattle.std.specs.List.{list_any}
use Rattle.std.specs.Option.{option_map_or}
use Rattle.std.proofs.Common.{refl, sym, ap, ◌∙◌, subst, append_assoc, append-nil, arith, length-append}
use Rattle.mx_wire.specs.Log.{Log, is_open}
use Rattle.mx_wire.specs.Moments.{AllLawful, LawfulAfter}
use Rattle.mx_wire.specs.Tells.{Fits}
use Rattle.mx_wire.specs.declared.entry.Entry.{Entry}
use Rattle.mx_wire.specs.declared.entry.Entry.TheVariants as entry
use Rattle.packet_frame.specs.Packets.{Framed}
use Rattle.private_model.specs.Names.{MessageName}
use Rattle.private_model.specs.Story.{BecameDue, Broke, Dropped, Freed, Gone, Heard, Left, LoggedIn, Mirrored, Ran, Sent, Story, Unprepared}
use Rattle.private_model.specs.View.{Setup, View, present}
use Rattle.log_story.specs.Clients.{captures_first, is_up, next_taken, waits_for_capture}
use Rattle.log_story.specs.Owed.{has_room, messages, name_of}
use Rattle.log_story.specs.Plan.{Plan, Route}
use Rattle.log_story.specs.Tale.{Client, Tale, view_of}
use Rattle.tale_world.specs.Decided.{Agrees, plan_of}
use Rattle.tale_world.specs.Deciding.{World}
use Rattle.tale_world.proofs.Agreeing.{same_route}
use Rattle.router_promises.specs.Ends.{moment_in, was_answered}
use Rattle.router_promises.specs.Keys.{is_waiting}
use Rattle.router_promises.specs.Now.{Now}
use Rattle.router_promises.specs.Terms.{Terms}
use Rattle.router_promises.specs.Wakes.{clients_part, has_ended, lacks_an_event, links_lapse, servers_return, waits_in, wakes_at}
use Rattle.shared_router.specs.Fixed.{Fixed, IsNumbered, setup_of}
use Rattle.shared_router.specs.More.{More, now_of, terms_of}
use Rattle.shared_router.specs.Ours.{IsOurLog, IsOurs}
use Rattle.shared_router.specs.Shared.{final_terms, world_at}
use Rattle.shared_router.specs.Waited.{WakesSo}
use Rattle.shared_router.proofs.Along.{IsAt, along, lawful_first, now_there}
use Rattle.shared_router.proofs.Holding.{Held}
use Rattle.shared_router.proofs.Lasting.{alike_at}
use Rattle.shared_router.proofs.Later.{AreAlike, waiting_same}
use Rattle.shared_router.proofs.Leaving.{ends_same}
use Rattle.shared_router.proofs.Looked.{IsLooked, each-so, looks_at}
use Rattle.shared_router.proofs.Parting.{even_at}
use Rattle.shared_router.proofs.Prompting.{IsReached, first_reached, reached_next}
use Rattle.shared_router.proofs.Sparing.{agrees_here, any_same, ended_same, room_same, was_same}
use Rattle.shared_router.proofs.Staying.{log_at}

-- What a world holds at each moment of a log of ours.

module _ (fixed : Fixed) where
  reached_from : (before later : Log) (n : ℕ) → n + length later < 18446744073709551616 → IsReached fixed n before → LawfulAfter (IsOurs fixed) before later
      → LawfulAfter Fits before later → (m : ℕ) × IsReached fixed m (before ++ later)
  reached_from before [] n small is ours fits = (n, subst (λ (l : Log). IsReached fixed n l) (sym (append-nil before)) is)
  reached_from before (e ∷ later) n small is ours fits =
      let rest = reached_from (before ++ e ∷ []) later (suc n) (omega (arith, small)) (reached_next fixed n before e (omega (arith, small)) is ours.0 fits.0) ours.1 fits.1 in
      (rest.0, subst (λ (l : Log). IsReached fixed rest.0 l) (append_assoc before (e ∷ []) later) rest.1)

  pub held_then : (before later log : Log) → before ++ later ≡ log → IsOurLog fixed log → (m : ℕ) × Held fixed m (world_at fixed before)
  held_then before later log is our =
      let long : length (before ++ later) ≡ length before + length later = length-append before later in
      let same : length (before ++ later) ≡ length log = ap (λ (l : Log). length l) is in
      let bounded : length log < 281474976710656 = our.bounded in
      let found = reached_from [] before 0 (omega (arith, long, same, bounded)) (first_reached fixed)
      (lawful_first (IsOurs fixed) [] before later (subst (λ (l : Log). LawfulAfter (IsOurs fixed) [] l) (sym is) our.ours))
      (lawful_first Fits [] before later (subst (λ (l : Log). LawfulAfter Fits [] l) (sym is) our.fits)) in
      (found.0, found.1.held)

  -- messages are counted from one
  none_first : (n : ℕ) (w : World More) → Held fixed n w → (client : Client) → (plan_of w.decided).routes (name_of client 0) ≡ None
  none_first n w held client = by_route (w.decided.routes (name_of client 0)) refl where
    by_route : (r : Option (Option Route)) → w.decided.routes (name_of client 0) ≡ r → unwrap_or r None ≡ None
    by_route None is = refl
    by_route (Some None) is = refl
    by_route (Some (Some r)) is = absurd (let count : 1 ≤ 0 = held.tabled.counted (name_of client 0) r is in omega (arith, count))

some_if : {A : Type 0} (b : Bool) (x : A) → is_some (if b then Some x else None) ≡ b
some_if true x = refl
some_if false x = refl

module _ (fixed : Fixed) (numbered : IsNumbered fixed) (before later log : Log) (is : before ++ later ≡ log) (our : IsOurLog fixed log) where
  abbrev setup : Setup
  setup = setup_of fixed

  abbrev w : World More
  w = world_at fixed before

  abbrev tale : Tale
  tale = w.tale

  abbrev view : View
  view = view_of setup w.tale

  abbrev now : Now
  now = now_of fixed w

  abbrev last : Terms
  last = final_terms fixed log

  abbrev early : Terms
  early = terms_of fixed w

  abbrev plan : Plan
  plan = plan_of (world_at fixed log).decided

  abbrev old : Plan
  old = plan_of w.decided

  agrees : Agrees w.decided w.tale.moment plan
  agrees = agrees_here fixed numbered before later log is

  -- whether a message lacks nothing but an event

  module _ (client : Client) (looked : IsLooked w.decided client) where
    routes_same : (i : ℕ) → i ≤ client.taken → plan.routes (name_of client i) ≡ old.routes (name_of client i)
    routes_same zero below =
        let at_last = held_then fixed log [] log (append-nil log) our in
        let at_then = held_then fixed before later log is our in
        none_first fixed at_last.0 (world_at fixed log) at_last.1 client ∙ sym (none_first fixed at_then.0 w at_then.1 client)
    routes_same (suc i) below =
        let route = looked.routes i below in
        sym (same_route w.decided w.tale.moment plan agrees (name_of client (suc i)) route.0 route.1)

    waits_same : waits_for_capture view plan client ≡ waits_for_capture view old client
    waits_same = ap (λ (r : Option Route). option_map_or (λ (route : Route). captures_first (view.held (present view client.number route.hostgroup))) r false)
        (routes_same client.taken (omega arith))

    abbrev up_by : (answered waits room : Bool) → Bool
    up_by answered waits room = answered && (not waits && room)

    up_same : is_up setup plan client tale ≡ is_up setup old client tale
    up_same =
        ap (λ b. up_by b (waits_for_capture view plan client) (has_room view.replies plan tale.moment client)) (was_same fixed numbered before later log is client looked)
        ∙ ap (λ b. up_by (was_answered early now client) b (has_room view.replies plan tale.moment client)) waits_same
        ∙ ap (λ b. up_by (was_answered early now client) (waits_for_capture view old client) b) (room_same fixed numbered before later log is client looked)

    next_same : (found : Option Framed) → is_some (next_taken setup plan client found tale) ≡ is_some (next_taken setup old client found tale)
    next_same None = refl
    next_same (Some message) = some_if (is_up setup plan client tale) _ ∙ up_same ∙ sym (some_if (is_up setup old client tale) _)

    messages_same : messages plan client ≡ messages old client
    messages_same = ap (λ service. messages (record plan { service = service }) client) agrees.service

    lacks_same : lacks_an_event last now client ≡ lacks_an_event early now client
    lacks_same =
        ap (λ b. not b && is_some (next_taken setup plan client (slice_get (messages plan client) client.taken) tale)) (ended_same fixed numbered before later log is client)
        ∙ ap (λ ms. not (has_ended early now client) && is_some (next_taken setup plan client (slice_get ms client.taken) tale)) messages_same
        ∙ ap (λ b. not (has_ended early now client) && b) (next_same (slice_get (messages old client) client.taken))

  any_lacks : list_any (lacks_an_event last now) tale.clients ≡ list_any (lacks_an_event early now) tale.clients
  any_lacks =
      any_same (lacks_an_event last now) (lacks_an_event early now) tale.clients
      (each-so (IsLooked w.decided) (λ (c : Client). lacks_an_event last now c ≡ lacks_an_event early now c) tale.clients (λ c looked. lacks_same c looked) (looks_at fixed before))

  -- who waits

  module _ (alike : AreAlike fixed now.tale w (world_at fixed log)) where
    waits_so : (story : Story) → waits_in last now story ≡ waits_in early now story
    waits_so [] = refl
    waits_so (BecameDue client hostgroup ordinal at command multiplex ∷ past) =
        let last_of : Bool → List MessageName = λ b. if b then record { client = client; ordinal = ordinal } ∷ [] else [] in
        ap (λ ms. ms ++ last_of (is_waiting last now client hostgroup ordinal)) (waits_so past)
        ∙ ap (λ b. waits_in early now past ++ last_of b) (waiting_same fixed w.more.log now w (world_at fixed log) alike client hostgroup ordinal)
    waits_so (LoggedIn link server account ∷ past) = waits_so past
    waits_so (Sent link question ∷ past) = waits_so past
    waits_so (Ran link ∷ past) = waits_so past
    waits_so (Heard link reply ∷ past) = waits_so past
    waits_so (Freed link ∷ past) = waits_so past
    waits_so (Unprepared link number ∷ past) = waits_so past
    waits_so (Dropped link ∷ past) = waits_so past
    waits_so (Gone link ∷ past) = waits_so past
    waits_so (Left client ∷ past) = waits_so past
    waits_so (Broke ∷ past) = waits_so past
    waits_so (Mirrored client job ∷ past) = waits_so past

  -- when clients that ended part

  module _ (lines : Log) where
    abbrev parts_at : Plan → Client → ℕ
    parts_at p client = moment_in lines (p.ends client.number) + fixed.router.proxy.wait_ms

    abbrev goes : Terms → Client → Bool
    goes terms client = has_ended terms now client && is_open client.link lines

    part_same : (client : Client) → has_ended last now client ≡ true → parts_at plan client ≡ parts_at old client
    part_same client ended =
        ap (λ o. moment_in lines o + fixed.router.proxy.wait_ms) (ends_same fixed w (world_at fixed log) agrees (even_at fixed before) client ended)

    parts_same : (xs : List Client) → map (parts_at plan) (filter (goes last) xs) ≡ map (parts_at old) (filter (goes early) xs)
    parts_same [] = refl
    parts_same (x ∷ xs) = by_test (has_ended last now x) refl (parts_same xs) where
      old_rest : Bool → List ℕ
      old_rest b = map (parts_at old) (cond (b && is_open x.link lines) (x ∷ filter (goes early) xs) (filter (goes early) xs))

      by_open : (stays : Bool) → parts_at plan x ≡ parts_at old x → map (parts_at plan) (filter (goes last) xs) ≡ map (parts_at old) (filter (goes early) xs)
          → map (parts_at plan) (cond stays (x ∷ filter (goes last) xs) (filter (goes last) xs)) ≡ map (parts_at old) (cond stays (x ∷ filter (goes early) xs) (filter (goes early) xs))
      by_open true same others = ap (λ n. n ∷ map (parts_at plan) (filter (goes last) xs)) same ∙ ap (λ ns. parts_at old x ∷ ns) others
      by_open false same others = others

      by_test : (b : Bool) → has_ended last now x ≡ b → map (parts_at plan) (filter (goes last) xs) ≡ map (parts_at old) (filter (goes early) xs)
          → map (parts_at plan) (cond (b && is_open x.link lines) (x ∷ filter (goes last) xs) (filter (goes last) xs)) ≡ old_rest (has_ended early now x)
      by_test true at others =
          by_open (is_open x.link lines) (part_same x at) others ∙ ap old_rest (sym at ∙ ended_same fixed numbered before later log is x)
      by_test false at others = others ∙ ap old_rest (sym at ∙ ended_same fixed numbered before later log is x)

  abbrev wakes_by : Log → (lacks : Bool) → (waits : List MessageName) → (parts : List ℕ) → ℕ
  wakes_by lines lacks waits parts = fold min 18446744073709551615
      ((if lacks then now.clock ∷ [] else [])
      ++ filter (nat_lt now.clock)
      (map (λ m. now.since m + fixed.router.proxy.wait_ms) waits ++ (links_lapse early lines now ++ (servers_return now ++ parts))))

  pub wakes_same : AreAlike fixed now.tale w (world_at fixed log) → (lines : Log) → wakes_at last lines now ≡ wakes_at early lines now
  wakes_same alike lines =
      ap (λ b. wakes_by lines b (waits_in last now tale.story) (clients_part last lines now)) any_lacks
      ∙ ap (λ ms. wakes_by lines (list_any (lacks_an_event early now) tale.clients) ms (clients_part last lines now)) (waits_so alike tale.story)
      ∙ ap (λ ns. wakes_by lines (list_any (lacks_an_event early now) tale.clients) (waits_in early now tale.story) ns) (parts_same lines tale.clients)

module _ (fixed : Fixed) (numbered : IsNumbered fixed) (log : Log) (our : IsOurLog fixed log) where
  wakes_by_entry : (before later : Log) (e : Entry) → IsAt log before e later → IsOurs fixed before e → WakesSo (final_terms fixed log) before e
  wakes_by_entry before later (entry.Woke until_ms now_ms) at ours =
      let e : Entry = entry.Woke until_ms now_ms in
      let w : World More = world_at fixed before in
      let alike : AreAlike fixed w.tale w (world_at fixed log) =
      subst (λ l. AreAlike fixed w.tale w (world_at fixed l)) at.is (alike_at fixed numbered before (e ∷ later) at.fits) in
      ours.1
      ∙ sym (wakes_same fixed numbered before (e ∷ later) log at.is our alike w.more.log)
      ∙ ap (λ (l : Log). wakes_at (final_terms fixed log) l (now_of fixed w)) (log_at fixed before)
      ∙ ap (λ (n : Now). wakes_at (final_terms fixed log) before n) (sym (now_there fixed numbered log before (e ∷ later) at.is))
  wakes_by_entry before later _ at ours = tt

  pub wakes_kept : AllLawful (WakesSo (final_terms fixed log)) log
  wakes_kept = along fixed log (WakesSo (final_terms fixed log)) wakes_by_entry our
