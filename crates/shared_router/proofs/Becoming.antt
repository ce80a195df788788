-- What is so of each statement as it becomes due, by how its message is judged.
use Rattle.std.specs.Prelude.{◌≡◌, ℕ, zero, suc, Bool, true, false, ◌&&◌, ◌||◌, not, fold, length, nat_eq, if◌then◌else◌, slice_get, slice_index_or, List, [], ◌∷◌, ◌++◌, Option, Some, None}
use Rattle.std.specs.Option.{option_map_or}
use Rattle.std.proofs.Common.{refl, sym, subst}
use Rattle.mx_base.specs.declared.names.LinkId.{LinkId}
use Rattle.mx_wire.specs.declared.entry.Entry.{Entry}
use Rattle.packet_frame.specs.Packets.{Framed}
use Rattle.private_model.specs.Commands.{Command}
use Rattle.private_model.specs.Names.{Hostgroup, SessionName}
use Rattle.private_model.specs.Story.{BecameDue, Broke, Due, Freed, Happening, Left, Story}
use Rattle.private_model.specs.View.{Setup, View, due_of, present}
use Rattle.log_story.specs.Clients.{client_goes_on, clients_are_ended, clients_go_on, copied, due_by, ended_if_now, is_event_of, is_up, next_taken, taken_by, taken_up}
use Rattle.log_story.specs.Executes.{Request, requested}
use Rattle.log_story.specs.Owed.{messages, name_of}
use Rattle.log_story.specs.Plan.{Plan, Route, com_reset, gives_up, is_before, is_now}
use Rattle.log_story.specs.Servers.{freed_if_done, is_done, links_are_freed}
use Rattle.log_story.specs.Tale.{Client, Tale, counted, link_in, tell, view_of, with_client}
use Rattle.log_story.specs.Telling.{tale_step, told}
use Rattle.router_promises.specs.Takings.{Taking, as_told, message_in, ordinal_of, taking_then, takings_at, takings_by, takings_from, takings_of}
use Rattle.run_laws.specs.Becoming.{AllBecame}
use Rattle.run_laws.proofs.Going.{Keeps, ended_keeps, freed_keeps, ifs}
use Rattle.shared_router.proofs.Looked.{Each}
use Rattle.shared_router.proofs.Others.{IsOther, entry_keeps}
use Rattle.shared_router.proofs.Plain.{IsPlain}

module _ (setup : Setup) (P : SessionName → Due → Type 0) where
  other_became : (past : Story) (e : Happening) → IsOther e → AllBecame setup P past → AllBecame setup P (e ∷ past)
  other_became past (BecameDue client hostgroup ordinal key command multiplex) other all = absurd other
  other_became past _ other all = all

-- where Q is so of tales, and C of clients, as messages are taken up
module _ (setup : Setup) (plan : Plan) (P : SessionName → Due → Type 0) (Q : Tale → Type 0) (keeps : Keeps Q) (C : Client → Type 0)
    (onward : (client : Client) → C client → C (record client { taken = suc client.taken })) (plain : (client : Client) (ordinal : ℕ) → IsPlain (plan.routes (name_of client ordinal))) where
  abbrev pub due_then : View → Client → Route → Request → Due
  due_then view client route request = due_of view (present view client.number route.hostgroup) (suc client.taken) request.key request.command route.multiplex

  abbrev pub IsGood : Taking → Type 0
  IsGood taking = Q taking.tale → C taking.client → slice_get (messages plan taking.client) taking.client.taken ≡ Some taking.message
      → (route : Route) → plan.routes (message_in taking) ≡ Some route
      → (request : Request) → requested setup (view_of setup taking.tale) plan taking.client (ordinal_of taking) route taking.message.payload ≡ Some request
      → P (present (view_of setup taking.tale) taking.client.number route.hostgroup) (due_then (view_of setup taking.tale) taking.client route request)

  abbrev Has : Tale → Type 0
  Has tale = AllBecame setup P tale.story × Q tale

  no_copy : (client : Client) (command : Command) (mirror : Option Hostgroup) (tale : Tale) → mirror ≡ None → Has tale → Has (copied (name_of client (suc client.taken)) command mirror tale)
  no_copy client command mirror tale none has = subst (λ o. Has (copied (name_of client (suc client.taken)) command o tale)) (sym none) has

  due_has : (client : Client) (route : Route) (request : Option Request) (tale : Tale) → route.mirror ≡ None
      → ((one : Request) → request ≡ Some one
      → P (present (view_of setup tale) client.number route.hostgroup) (due_then (view_of setup tale) client route one)) → Has tale → Has (due_by client (suc client.taken) route request tale)
  due_has client route None tale lone now has = (has.0, keeps.tells tale Broke tt has.1)
  due_has client route (Some request) tale lone now has =
      let due : Happening = BecameDue client.number route.hostgroup (suc client.taken) request.key request.command route.multiplex in
      no_copy client request.command route.mirror (tell due tale) lone ((now request refl, has.0), keeps.tells tale due tt has.1)

  taken_has : (client : Client) (message : Framed) (tale : Tale) → IsGood (record { client = client; message = message; tale = tale }) → C client
      → slice_get (messages plan client) client.taken ≡ Some message → Has tale
      → Has (taken_by setup plan client (suc client.taken) message (plan.routes (name_of client (suc client.taken))) tale)
  taken_has client message tale good so next has = by_route (plan.routes (name_of client (suc client.taken))) refl (plain client (suc client.taken)) where
    by_route : (o : Option Route) → plan.routes (name_of client (suc client.taken)) ≡ o → IsPlain o → Has (taken_by setup plan client (suc client.taken) message o tale)
    by_route None at lone =
        ifs Has (nat_eq (slice_index_or message.payload 0 0) com_reset) (tell (Left client.number) tale) tale (has.0, keeps.tells tale (Left client.number) tt has.1) has
    by_route (Some route) at lone =
        due_has client route (requested setup (view_of setup tale) plan client (suc client.taken) route message.payload) tale lone
        (λ request is. good has.1 so next route at request is) has

  up_has : (most : ℕ) (client : Client) (tale : Tale) → Each IsGood (takings_of most setup plan client tale) → C client → Has tale → Has (taken_up most setup plan client tale)
  up_has zero client tale good so has = has
  up_has (suc most) client tale good so has = by_found (slice_get (messages plan client) client.taken) refl good (up_has most more) where
    more : Client
    more = record client { taken = suc client.taken }

    takes : Option Framed → Option Tale → List Taking
    takes found other = taking_then client tale found other (λ next. takings_of most setup plan more (with_client more next))

    goes : Option Tale → Tale
    goes found = option_map_or (λ other. taken_up most setup plan more (with_client more other)) found tale

    by_found : (found : Option Framed) → slice_get (messages plan client) client.taken ≡ found → Each IsGood (takes found (next_taken setup plan client found tale))
        → ((other : Tale) → Each IsGood (takings_of most setup plan more other) → C more → Has other → Has (taken_up most setup plan more other))
        → Has (goes (next_taken setup plan client found tale))
    by_found None at all others = has
    by_found (Some message) at all others = by_test (is_up setup plan client tale) all where
      other : Tale
      other = taken_by setup plan client (suc client.taken) message (plan.routes (name_of client (suc client.taken))) tale

      by_test : (b : Bool) → Each IsGood (takes (Some message) (if b then Some other else None)) → Has (goes (if b then Some other else None))
      by_test true now =
          let taken : Has other = taken_has client message tale now.0 so at has in
          others (with_client more other) now.1 (onward client so) (taken.0, keeps.moves other more taken.1)
      by_test false now = has

  front_good : (xs ys : List Taking) → Each IsGood (xs ++ ys) → Each IsGood xs
  front_good [] ys all = tt
  front_good (x ∷ xs) ys all = (all.0, front_good xs ys all.1)

  rest_good : (xs ys : List Taking) → Each IsGood (xs ++ ys) → Each IsGood ys
  rest_good [] ys all = all
  rest_good (x ∷ xs) ys all = rest_good xs ys all.1

  going_has : (view : View) (e : Entry) (xs : List Client) (tale : Tale) → Each IsGood (takings_from setup plan view e xs tale) → Each C xs → Has tale
      → Has (fold (client_goes_on setup plan view e) tale xs)
  going_has view e [] tale good so has = has
  going_has view e (x ∷ xs) tale good so has =
      going_has view e xs (client_goes_on setup plan view e tale x)
      (rest_good (takings_by setup plan view e tale x) (takings_from setup plan view e xs (client_goes_on setup plan view e tale x)) good) so.1
      (by_test ((is_event_of view x e || gives_up plan tale.moment (name_of x x.taken)) && not (is_before tale.moment (plan.ends x.number)))
      (front_good (takings_by setup plan view e tale x) (takings_from setup plan view e xs (client_goes_on setup plan view e tale x)) good))
    where
      by_test : (b : Bool) → Each IsGood (if b then takings_of (length (messages plan x)) setup plan x tale else [])
          → Has (if b then taken_up (length (messages plan x)) setup plan x tale else tale)
      by_test true all = up_has (length (messages plan x)) x tale all so.0 has
      by_test false all = has

  calm_freed : (xs : List LinkId) (tale : Tale) → Has tale → Has (fold (freed_if_done setup plan) tale xs)
  calm_freed [] tale has = has
  calm_freed (x ∷ xs) tale has =
      calm_freed xs (freed_if_done setup plan tale x)
      (ifs Has (is_done plan tale.moment (view_of setup tale) (tale.wires x) (link_in setup tale x)) (tell (Freed x) tale) tale (has.0, keeps.tells tale (Freed x) tt has.1) has)

  calm_ended : (xs : List Client) (tale : Tale) → Has tale → Has (fold (ended_if_now plan) tale xs)
  calm_ended [] tale has = has
  calm_ended (x ∷ xs) tale has =
      calm_ended xs (ended_if_now plan tale x)
      (ifs Has (is_now tale.moment (plan.ends x.number)) (tell (Left x.number) tale) tale (has.0, keeps.tells tale (Left x.number) tt has.1) has)

  -- behind an entry, by its takings
  pub step_became : (tale : Tale) (e : Entry) → Q (told setup plan tale e) → Each IsGood (takings_at setup plan tale e) → Each C (as_told setup plan tale e).clients
      → AllBecame setup P tale.story → AllBecame setup P (tale_step setup plan tale e).story
  step_became tale e so good clients became =
      let heard : Tale = counted (told setup plan tale e) in
      let freed : Tale = links_are_freed setup plan heard in
      let gone : Tale = clients_go_on setup plan (view_of setup tale) e freed in
      let ended : Tale = clients_are_ended plan gone in
      let first : Has heard = (entry_keeps setup plan (AllBecame setup P) (other_became setup P) tale e became, keeps.counts (told setup plan tale e) so) in
      (calm_freed ended.links ended (calm_ended gone.clients gone
      (going_has (view_of setup tale) e freed.clients freed good clients (calm_freed heard.links heard first)))).0
