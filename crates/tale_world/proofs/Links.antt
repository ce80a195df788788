-- Links that are new in a log are new in its tale.
use Rattle.std.specs.Prelude.{Bool, List, None, Option, Some, [], false, fold, if◌then◌else◌, length, nat_eq, not, slice_get, slice_index_or, suc, true, zero, ℕ, ◌&&◌, ◌++◌, ◌||◌, ◌∷◌, ◌≡◌}
use Rattle.std.specs.List.{cons_option, list_any}
use Rattle.std.specs.Option.{option_map_or}
use Rattle.std.proofs.Common.{refl, sym, ap, ◌∙◌, append_assoc, append-nil}
use Rattle.mx_base.specs.declared.names.LinkId.{LinkId}
use Rattle.mx_wire.specs.Log.{Log, is_link, link_of, of_link, opened_link, opened_links}
use Rattle.mx_wire.specs.declared.entry.Entry.{Entry}
use Rattle.mx_wire.specs.declared.entry.Entry.TheVariants as entry
use Rattle.packet_frame.specs.Packets.{Framed}
use Rattle.private_model.specs.Commands.{Command}
use Rattle.private_model.specs.Names.{Hostgroup, MessageName}
use Rattle.private_model.specs.Story.{BecameDue, Freed, Happening, Left, Mirrored, Story, is_link_id}
use Rattle.private_model.specs.View.{Setup, View}
use Rattle.log_story.specs.Clients.{client_goes_on, clients_are_ended, clients_go_on, copied, due_by, ended_if_now, is_event_of, is_up, next_taken, taken_by, taken_up}
use Rattle.log_story.specs.Executes.{Request, requested}
use Rattle.log_story.specs.Owed.{messages, name_of}
use Rattle.log_story.specs.Plan.{Plan, Route, com_reset, gives_up, is_before, is_now, job_of}
use Rattle.log_story.specs.Servers.{freed_if_done, is_done, links_are_freed}
use Rattle.log_story.specs.Tale.{Client, Tale, counted, first_tale, is_to_server, link_in, tell, view_of, with_client}
use Rattle.log_story.specs.Telling.{tale_step, told}
use Rattle.tale_world.proofs.Telling.{told_of}

isnt : {A : Type 0} → false ≡ true → A
isnt is = absurd (cc)

-- what the rest of an entry's step leaves
module _ {A : Type 0} (of : Tale → A) (tells : (story : Story) (t : Tale) → of (record t { story = story }) ≡ of t)
    (seats : (clients : List Client) (t : Tale) → of (record t { clients = clients }) ≡ of t) where
  either_of : (b : Bool) (x y : Tale) (a : A) → of x ≡ a → of y ≡ a → of (if b then x else y) ≡ a
  either_of true x y a first second = first
  either_of false x y a first second = second

  ends_of : (p : Plan) (xs : List Client) (tale : Tale) → of (fold (ended_if_now p) tale xs) ≡ of tale
  ends_of p [] tale = refl
  ends_of p (x ∷ xs) tale =
      ends_of p xs (ended_if_now p tale x) ∙ either_of (is_now tale.moment (p.ends x.number)) (tell (Left x.number) tale) tale (of tale) (tells _ tale) refl

  pub freeing_of : (setup : Setup) (p : Plan) (xs : List LinkId) (tale : Tale) → of (fold (freed_if_done setup p) tale xs) ≡ of tale
  freeing_of setup p [] tale = refl
  freeing_of setup p (x ∷ xs) tale =
      freeing_of setup p xs (freed_if_done setup p tale x)
      ∙ either_of (is_done p tale.moment (view_of setup tale) (tale.wires x) (link_in setup tale x)) (tell (Freed x) tale) tale (of tale) (tells _ tale) refl

  abbrev HasOf : A → Option Tale → Type 0
  HasOf a None = Unit {0}
  HasOf a (Some tale) = of tale ≡ a

  has_if : (a : A) (b : Bool) (x y : Option Tale) → HasOf a x → HasOf a y → HasOf a (if b then x else y)
  has_if a true x y first second = first
  has_if a false x y first second = second

  copied_of : (message : MessageName) (command : Command) (mirror : Option Hostgroup) (tale : Tale) → of (copied message command mirror tale) ≡ of tale
  copied_of message command None tale = refl
  copied_of message command (Some hostgroup) tale =
      let mirrored : Happening = Mirrored message.client (job_of message) in
      tells (BecameDue (job_of message) hostgroup 1 0 command None ∷ mirrored ∷ tale.story) (tell mirrored tale) ∙ tells (mirrored ∷ tale.story) tale

  due_of : (client : Client) (i : ℕ) (route : Route) (request : Option Request) (tale : Tale) → of (due_by client i route request tale) ≡ of tale
  due_of client i route None tale = tells _ tale
  due_of client i route (Some request) tale =
      let due : Tale = tell (BecameDue client.number route.hostgroup i request.key request.command route.multiplex) tale in
      copied_of (name_of client i) request.command route.mirror due ∙ tells _ tale

  taken_of : (setup : Setup) (p : Plan) (client : Client) (i : ℕ) (message : Framed) (route : Option Route) (tale : Tale)
      → of (taken_by setup p client i message route tale) ≡ of tale
  taken_of setup p client i message None tale =
      either_of (nat_eq (slice_index_or message.payload 0 0) com_reset) (tell (Left client.number) tale) tale (of tale) (tells _ tale) refl
  taken_of setup p client i message (Some route) tale =
      due_of client i route (requested setup (view_of setup tale) p client i route message.payload) tale

  next_of : (setup : Setup) (p : Plan) (client : Client) (message : Option Framed) (tale : Tale) → HasOf (of tale) (next_taken setup p client message tale)
  next_of setup p client None tale = tt
  next_of setup p client (Some message) tale =
      has_if (of tale) (is_up setup p client tale) _ None (taken_of setup p client (suc client.taken) message (p.routes (name_of client (suc client.taken))) tale) tt

  others_of : (others : Tale → Tale) (next : Option Tale) (old : Tale) → HasOf (of old) next → ((t : Tale) → of (others t) ≡ of t) → of (option_map_or others next old) ≡ of old
  others_of others None old has each = refl
  others_of others (Some t) old has each = each t ∙ has

  taken_up_of : (most : ℕ) (setup : Setup) (p : Plan) (client : Client) (tale : Tale) → of (taken_up most setup p client tale) ≡ of tale
  taken_up_of zero setup p client tale = refl
  taken_up_of (suc most) setup p client tale =
      let next : Client = record client { taken = suc client.taken } in
      others_of (λ other. taken_up most setup p next (with_client next other)) (next_taken setup p client (slice_get (messages p client) client.taken) tale) tale
      (next_of setup p client (slice_get (messages p client) client.taken) tale) (λ t. taken_up_of most setup p next (with_client next t) ∙ seats _ t)

  going_of : (setup : Setup) (p : Plan) (view : View) (e : Entry) (xs : List Client) (tale : Tale) → of (fold (client_goes_on setup p view e) tale xs) ≡ of tale
  going_of setup p view e [] tale = refl
  going_of setup p view e (x ∷ xs) tale =
      going_of setup p view e xs (client_goes_on setup p view e tale x)
      ∙ either_of ((is_event_of view x e || gives_up p tale.moment (name_of x x.taken)) && not (is_before tale.moment (p.ends x.number))) (taken_up (length (messages p x)) setup p x tale) tale (of tale)
      (taken_up_of (length (messages p x)) setup p x tale) refl

  pub step_of : (setup : Setup) (p : Plan) (tale : Tale) (e : Entry) → of (tale_step setup p tale e) ≡ of (counted (told setup p tale e))
  step_of setup p tale e =
      let heard : Tale = counted (told setup p tale e) in
      let freed : Tale = links_are_freed setup p heard in
      let gone : Tale = clients_go_on setup p (view_of setup tale) e freed in
      let ended : Tale = clients_are_ended p gone in
      freeing_of setup p ended.links ended ∙ ends_of p gone.clients gone ∙ going_of setup p (view_of setup tale) e freed.clients freed
      ∙ freeing_of setup p heard.links heard

-- The links of a tale.

abbrev with_opened : List LinkId → Option LinkId → List LinkId
with_opened links None = links
with_opened links (Some link) = links ++ link ∷ []

no_some : {A : Type 0} (link : LinkId) → None ≡ Some link → A
no_some link is = absurd (cc)

opens_one : (setup : Setup) (p : Plan) (tale : Tale) (e : Entry) (link : LinkId) → opened_link e ≡ Some link
    → (told setup p tale e).links ≡ tale.links ++ link ∷ []
opens_one setup p tale (entry.Opened server address other) link is =
    let same : other ≡ link = cc in ap (λ l. tale.links ++ l ∷ []) same
opens_one setup p tale _ link is = no_some link is

told_links : (setup : Setup) (p : Plan) (tale : Tale) (e : Entry) → (told setup p tale e).links ≡ with_opened tale.links (opened_link e)
told_links setup p tale e = by_link (opened_link e) refl where
  by_link : (opened : Option LinkId) → opened_link e ≡ opened → (told setup p tale e).links ≡ with_opened tale.links opened
  by_link None is =
      told_of (λ (t : Tale). t.links) (λ story t. refl) (λ link wire t. refl) (λ clients t. refl) setup p tale e (λ link has. no_some link (sym is ∙ has))
  by_link (Some link) is = opens_one setup p tale e link is

step_links : (setup : Setup) (p : Plan) (tale : Tale) (e : Entry) → (tale_step setup p tale e).links ≡ with_opened tale.links (opened_link e)
step_links setup p tale e = step_of (λ (t : Tale). t.links) (λ story t. refl) (λ clients t. refl) setup p tale e ∙ told_links setup p tale e

more_links : (links : List LinkId) (opened : Option LinkId) (rest : List LinkId) → with_opened links opened ++ rest ≡ links ++ cons_option opened rest
more_links links None rest = refl
more_links links (Some link) rest = append_assoc links (link ∷ []) rest

pub log_links : (setup : Setup) (p : Plan) (log : Log) (tale : Tale) → (fold (tale_step setup p) tale log).links ≡ tale.links ++ opened_links log
log_links setup p [] tale = sym (append-nil tale.links)
log_links setup p (e ∷ log) tale =
    log_links setup p log (tale_step setup p tale e) ∙ ap (λ links. links ++ opened_links log) (step_links setup p tale e) ∙ more_links tale.links (opened_link e) (opened_links log)

-- an entry that opens a link names it
not_opened : (link : LinkId) (e : Entry) (rest : List LinkId) → is_link link (link_of e) ≡ false → list_any (is_link_id link) rest ≡ false
    → list_any (is_link_id link) (cons_option (opened_link e) rest) ≡ false
not_opened link (entry.Opened server address other) rest apart none = rw (apart, none) refl
not_opened link _ rest apart none = none

new_opened : (link : LinkId) (log : Log) → of_link link log ≡ [] → list_any (is_link_id link) (opened_links log) ≡ false
new_opened link [] new = refl
new_opened link (e ∷ log) new = by_test (is_link link (link_of e)) refl (new_opened link log) new where
  by_test : (b : Bool) → is_link link (link_of e) ≡ b → (of_link link log ≡ [] → list_any (is_link_id link) (opened_links log) ≡ false) → (if b then e ∷ of_link link log else of_link link log) ≡ []
      → list_any (is_link_id link) (cons_option (opened_link e) (opened_links log)) ≡ false
  by_test true here later none = absurd (cc)
  by_test false here later none = not_opened link e (opened_links log) here (later none)

-- a link that no entry names isn't a link of the tale
pub new_link : (setup : Setup) (p : Plan) (log : Log) (link : LinkId) → of_link link log ≡ []
    → is_to_server (fold (tale_step setup p) first_tale log) link ≡ false
new_link setup p log link new = ap (list_any (is_link_id link)) (log_links setup p log first_tale) ∙ new_opened link log new
