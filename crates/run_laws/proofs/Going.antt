-- What happenings that leave what stands on links keep, is kept as a link is lost, messages are taken up, clients are ended and links given back.
use Rattle.std.specs.Prelude.{ℕ, zero, suc, Bool, true, false, ◌&&◌, ◌||◌, not, fold, length, nat_eq, if◌then◌else◌, slice_get, slice_index_or, List, [], ◌∷◌, Option, Some, None}
use Rattle.std.specs.Option.{option_map_or}
use Rattle.mx_base.specs.declared.names.LinkId.{LinkId}
use Rattle.mx_wire.specs.declared.entry.Entry.{Entry}
use Rattle.packet_frame.specs.Packets.{Framed}
use Rattle.private_model.specs.Commands.{Command}
use Rattle.private_model.specs.Names.{Hostgroup, MessageName}
use Rattle.private_model.specs.Story.{BecameDue, Broke, Freed, Gone, Happening, Heard, Left, LoggedIn, Mirrored, Ran, Sent, Unprepared, is_link_id}
use Rattle.private_model.specs.View.{Setup, View}
use Rattle.log_story.specs.Clients.{client_goes_on, client_leaves, clients_are_ended, clients_go_on, copied, due_by, ended_if_now, is_event_of, is_up, next_taken, taken_by, taken_up}
use Rattle.log_story.specs.Executes.{Request, requested}
use Rattle.log_story.specs.Owed.{messages, name_of}
use Rattle.log_story.specs.Plan.{Plan, Route, com_reset, gives_up, is_before, is_now, job_of}
use Rattle.log_story.specs.Servers.{freed_if_done, is_done, links_are_freed}
use Rattle.log_story.specs.Tale.{Client, Tale, counted, is_to_server, link_in, tell, view_of, with_client}
use Rattle.log_story.specs.Telling.{is_lost_or_left, tale_step, told}

abbrev pub IsCalm : Happening → Type 0
IsCalm (LoggedIn link server account) = ⊥
IsCalm (Sent link question) = ⊥
IsCalm (Ran link) = ⊥
IsCalm (Heard link reply) = ⊥
IsCalm (Unprepared link number) = ⊥
IsCalm _ = Unit {0}

pub ifs : {A : Type 0} (P : A → Type 0) (b : Bool) (x y : A) → P x → P y → P (if b then x else y)
ifs P true x y first second = first
ifs P false x y first second = second

-- whatever is kept so, and hangs on neither clients nor the moment
pub record Keeps (P : Tale → Type 0) : Type 0 where
  pub tells : (tale : Tale) (e : Happening) → IsCalm e → P tale → P (tell e tale)
  pub moves : (tale : Tale) (client : Client) → P tale → P (with_client client tale)
  pub counts : (tale : Tale) → P tale → P (counted tale)

module _ (setup : Setup) (plan : Plan) (P : Tale → Type 0) (k : Keeps P) where
  -- A link is lost, clients are ended, and links given back.

  left_keeps : (link : LinkId) (xs : List Client) (tale : Tale) → P tale → P (fold (client_leaves link) tale xs)
  left_keeps link [] tale holds = holds
  left_keeps link (x ∷ xs) tale holds =
      left_keeps link xs (client_leaves link tale x) (ifs P (is_link_id x.link link) (tell (Left x.number) tale) tale (k.tells tale (Left x.number) tt holds) holds)

  pub losing_keeps : (link : LinkId) (tale : Tale) → P tale → P (is_lost_or_left link tale)
  losing_keeps link tale holds =
      ifs P (is_to_server tale link) (tell (Gone link) tale) (fold (client_leaves link) tale tale.clients) (k.tells tale (Gone link) tt holds) (left_keeps link tale.clients tale holds)

  pub ended_keeps : (xs : List Client) (tale : Tale) → P tale → P (fold (ended_if_now plan) tale xs)
  ended_keeps [] tale holds = holds
  ended_keeps (x ∷ xs) tale holds =
      ended_keeps xs (ended_if_now plan tale x) (ifs P (is_now tale.moment (plan.ends x.number)) (tell (Left x.number) tale) tale (k.tells tale (Left x.number) tt holds) holds)

  pub freed_keeps : (xs : List LinkId) (tale : Tale) → P tale → P (fold (freed_if_done setup plan) tale xs)
  freed_keeps [] tale holds = holds
  freed_keeps (x ∷ xs) tale holds =
      freed_keeps xs (freed_if_done setup plan tale x)
      (ifs P (is_done plan tale.moment (view_of setup tale) (tale.wires x) (link_in setup tale x)) (tell (Freed x) tale) tale (k.tells tale (Freed x) tt holds) holds)

  -- Messages are taken up.

  copied_keeps : (m : MessageName) (command : Command) (mirror : Option Hostgroup) (tale : Tale) → P tale → P (copied m command mirror tale)
  copied_keeps m command None tale holds = holds
  copied_keeps m command (Some hostgroup) tale holds =
      k.tells (tell (Mirrored m.client (job_of m)) tale) (BecameDue (job_of m) hostgroup 1 0 command None) tt (k.tells tale (Mirrored m.client (job_of m)) tt holds)

  due_keeps : (client : Client) (ordinal : ℕ) (route : Route) (request : Option Request) (tale : Tale) → P tale → P (due_by client ordinal route request tale)
  due_keeps client ordinal route None tale holds = k.tells tale Broke tt holds
  due_keeps client ordinal route (Some request) tale holds =
      let due : Happening = BecameDue client.number route.hostgroup ordinal request.key request.command route.multiplex in
      copied_keeps (name_of client ordinal) request.command route.mirror (tell due tale) (k.tells tale due tt holds)

  pub taken_keeps : (client : Client) (ordinal : ℕ) (message : Framed) (route : Option Route) (tale : Tale) → P tale → P (taken_by setup plan client ordinal message route tale)
  taken_keeps client ordinal message None tale holds =
      ifs P (nat_eq (slice_index_or message.payload 0 0) com_reset) (tell (Left client.number) tale) tale (k.tells tale (Left client.number) tt holds) holds
  taken_keeps client ordinal message (Some route) tale holds =
      due_keeps client ordinal route (requested setup (view_of setup tale) plan client ordinal route message.payload) tale holds

  abbrev Some_keeps : Option Tale → Type 0
  Some_keeps None = Unit {0}
  Some_keeps (Some tale) = P tale

  next_keeps : (client : Client) (found : Option Framed) (tale : Tale) → P tale → Some_keeps (next_taken setup plan client found tale)
  next_keeps client None tale holds = tt
  next_keeps client (Some message) tale holds =
      ifs Some_keeps (is_up setup plan client tale)
      (Some (taken_by setup plan client (suc client.taken) message (plan.routes (name_of client (suc client.taken))) tale)) None
      (taken_keeps client (suc client.taken) message (plan.routes (name_of client (suc client.taken))) tale holds) tt

  up_keeps : (most : ℕ) (client : Client) (tale : Tale) → P tale → P (taken_up most setup plan client tale)
  up_keeps zero client tale holds = holds
  up_keeps (suc most) client tale holds =
      by_next (next_taken setup plan client (slice_get (messages plan client) client.taken) tale)
      (next_keeps client (slice_get (messages plan client) client.taken) tale holds) (up_keeps most next)
    where
      next : Client
      next = record client { taken = suc client.taken }

      by_next : (o : Option Tale) → Some_keeps o → ((t : Tale) → P t → P (taken_up most setup plan next t))
          → P (option_map_or (λ other. taken_up most setup plan next (with_client next other)) o tale)
      by_next None now later = holds
      by_next (Some other) now later = later (with_client next other) (k.moves other next now)

  pub going_keeps : (view : View) (e : Entry) (xs : List Client) (tale : Tale) → P tale → P (fold (client_goes_on setup plan view e) tale xs)
  going_keeps view e [] tale holds = holds
  going_keeps view e (x ∷ xs) tale holds =
      going_keeps view e xs (client_goes_on setup plan view e tale x)
      (ifs P ((is_event_of view x e || gives_up plan tale.moment (name_of x x.taken)) && not (is_before tale.moment (plan.ends x.number)))
      (taken_up (length (messages plan x)) setup plan x tale) tale (up_keeps (length (messages plan x)) x tale holds) holds)

  -- so it is kept by an entry that is told so
  pub step_keeps : (tale : Tale) (e : Entry) → P (told setup plan tale e) → P (tale_step setup plan tale e)
  step_keeps tale e holds =
      let first : Tale = counted (told setup plan tale e) in
      let freed : Tale = links_are_freed setup plan first in
      let gone : Tale = clients_go_on setup plan (view_of setup tale) e freed in
      let ended : Tale = clients_are_ended plan gone in
      freed_keeps ended.links ended (ended_keeps gone.clients gone
      (going_keeps (view_of setup tale) e freed.clients freed (freed_keeps first.links first (k.counts (told setup plan tale e) holds))))
