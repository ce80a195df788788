-- What the rest of an entry's step keeps, behind what is told of the entry itself: links are given back, messages are taken up, clients leave.
use Rattle.std.specs.Prelude.{◌≡◌, ℕ, zero, suc, Bool, true, false, ◌&&◌, ◌||◌, not, nat_eq, fold, if◌then◌else◌, length, slice_get, slice_index_or, List, [], ◌∷◌, Option, Some, None}
use Rattle.std.specs.Option.{option_map_or}
use Rattle.std.proofs.Common.{refl}
use Rattle.mx_base.specs.declared.names.LinkId.{LinkId}
use Rattle.mx_wire.specs.declared.entry.Entry.{Entry}
use Rattle.packet_frame.specs.Packets.{Framed}
use Rattle.private_model.specs.Commands.{Command}
use Rattle.private_model.specs.Names.{Hostgroup, MessageName}
use Rattle.private_model.specs.Story.{BecameDue, Broke, Freed, Happening, Left, Mirrored}
use Rattle.private_model.specs.View.{Setup, View}
use Rattle.log_story.specs.Clients.{client_goes_on, clients_are_ended, clients_go_on, copied, due_by, ended_if_now, is_event_of, is_up, next_taken, taken_by, taken_up}
use Rattle.log_story.specs.Executes.{Request, requested}
use Rattle.log_story.specs.Owed.{messages, name_of}
use Rattle.log_story.specs.Plan.{Plan, Route, com_reset, gives_up, is_before, is_now, job_of}
use Rattle.log_story.specs.Servers.{freed_if_done, is_done, links_are_freed}
use Rattle.log_story.specs.Tale.{Client, Tale, counted, link_in, tell, view_of, with_client}
use Rattle.log_story.specs.Telling.{tale_step, told}

-- what is told then
abbrev pub is_remaining : Happening → Bool
is_remaining (Freed link) = true
is_remaining (Left client) = true
is_remaining (BecameDue client hostgroup ordinal key command multiplex) = true
is_remaining (Mirrored client job) = true
is_remaining Broke = true
is_remaining _ = false

module _ (setup : Setup) (plan : Plan) (P : Tale → Type 0) (tells : (e : Happening) (t : Tale) → is_remaining e ≡ true → P t → P (tell e t))
    (seats : (client : Client) (t : Tale) → P t → P (with_client client t)) where
  either : (b : Bool) (x y : Tale) → P x → P y → P (if b then x else y)
  either true x y first second = first
  either false x y first second = second

  ends_keep : (xs : List Client) (tale : Tale) → P tale → P (fold (ended_if_now plan) tale xs)
  ends_keep [] tale holds = holds
  ends_keep (x ∷ xs) tale holds =
      ends_keep xs (ended_if_now plan tale x)
      (either (is_now tale.moment (plan.ends x.number)) (tell (Left x.number) tale) tale (tells (Left x.number) tale refl holds) holds)

  freeing_keeps : (xs : List LinkId) (tale : Tale) → P tale → P (fold (freed_if_done setup plan) tale xs)
  freeing_keeps [] tale holds = holds
  freeing_keeps (x ∷ xs) tale holds =
      freeing_keeps xs (freed_if_done setup plan tale x)
      (either (is_done plan tale.moment (view_of setup tale) (tale.wires x) (link_in setup tale x)) (tell (Freed x) tale) tale
      (tells (Freed x) tale refl holds) holds)

  abbrev HoldsIn : Option Tale → Type 0
  HoldsIn None = Unit {0}
  HoldsIn (Some tale) = P tale

  either_in : (b : Bool) (x y : Option Tale) → HoldsIn x → HoldsIn y → HoldsIn (if b then x else y)
  either_in true x y first second = first
  either_in false x y first second = second

  copied_keeps : (message : MessageName) (command : Command) (mirror : Option Hostgroup) (tale : Tale) → P tale → P (copied message command mirror tale)
  copied_keeps message command None tale holds = holds
  copied_keeps message command (Some hostgroup) tale holds =
      tells (BecameDue (job_of message) hostgroup 1 0 command None) _ refl (tells (Mirrored message.client (job_of message)) tale refl holds)

  due_keeps : (client : Client) (i : ℕ) (route : Route) (request : Option Request) (tale : Tale) → P tale → P (due_by client i route request tale)
  due_keeps client i route None tale holds = tells Broke tale refl holds
  due_keeps client i route (Some request) tale holds =
      copied_keeps (name_of client i) request.command route.mirror _
      (tells (BecameDue client.number route.hostgroup i request.key request.command route.multiplex) tale refl holds)

  taken_keeps : (client : Client) (i : ℕ) (message : Framed) (route : Option Route) (tale : Tale) → P tale
      → P (taken_by setup plan client i message route tale)
  taken_keeps client i message None tale holds =
      either (nat_eq (slice_index_or message.payload 0 0) com_reset) (tell (Left client.number) tale) tale (tells (Left client.number) tale refl holds) holds
  taken_keeps client i message (Some route) tale holds =
      due_keeps client i route (requested setup (view_of setup tale) plan client i route message.payload) tale holds

  next_keeps : (client : Client) (message : Option Framed) (tale : Tale) → P tale → HoldsIn (next_taken setup plan client message tale)
  next_keeps client None tale holds = tt
  next_keeps client (Some message) tale holds =
      either_in (is_up setup plan client tale) _ None
      (taken_keeps client (suc client.taken) message (plan.routes (name_of client (suc client.taken))) tale holds) tt

  others_keep : (others : Tale → Tale) (next : Option Tale) (old : Tale) → HoldsIn next → P old → ((t : Tale) → P t → P (others t))
      → P (option_map_or others next old)
  others_keep others None old has holds each = holds
  others_keep others (Some t) old has holds each = each t has

  taken_up_keeps : (most : ℕ) (client : Client) (tale : Tale) → P tale → P (taken_up most setup plan client tale)
  taken_up_keeps zero client tale holds = holds
  taken_up_keeps (suc most) client tale holds =
      let next : Client = record client { taken = suc client.taken } in
      others_keep (λ other. taken_up most setup plan next (with_client next other))
      (next_taken setup plan client (slice_get (messages plan client) client.taken) tale) tale
      (next_keeps client (slice_get (messages plan client) client.taken) tale holds) holds
      (λ t has. taken_up_keeps most next (with_client next t) (seats next t has))

  going_keeps : (view : View) (e : Entry) (xs : List Client) (tale : Tale) → P tale → P (fold (client_goes_on setup plan view e) tale xs)
  going_keeps view e [] tale holds = holds
  going_keeps view e (x ∷ xs) tale holds =
      going_keeps view e xs (client_goes_on setup plan view e tale x)
      (either ((is_event_of view x e || gives_up plan tale.moment (name_of x x.taken)) && not (is_before tale.moment (plan.ends x.number)))
      (taken_up (length (messages plan x)) setup plan x tale) tale (taken_up_keeps (length (messages plan x)) x tale holds) holds)

  pub rest_keeps : (tale : Tale) (e : Entry) → P (counted (told setup plan tale e)) → P (tale_step setup plan tale e)
  rest_keeps tale e holds =
      let heard : Tale = counted (told setup plan tale e) in
      let freed : Tale = links_are_freed setup plan heard in
      let gone : Tale = clients_go_on setup plan (view_of setup tale) e freed in
      let ended : Tale = clients_are_ended plan gone in
      freeing_keeps ended.links ended (ends_keep gone.clients gone (going_keeps (view_of setup tale) e freed.clients freed (freeing_keeps heard.links heard holds)))
