-- What becomes of two tales that tell the same in another order goes on to tell the same.
use Rattle.std.specs.Prelude.{◌≡◌, ℕ, zero, suc, Bool, true, false, not, ◌&&◌, ◌||◌, fold, if◌then◌else◌, length, map, nat_eq, slice_get, slice_index_or, List, [], ◌∷◌, Option, Some, None}
use Rattle.std.specs.Option.{option_map_or}
use Rattle.std.proofs.Common.{refl, sym, ap, ◌∙◌, subst}
use Rattle.mx_wire.specs.declared.entry.Entry.{Entry}
use Rattle.packet_frame.specs.Packets.{Framed}
use Rattle.private_model.specs.Commands.{Command}
use Rattle.private_model.specs.Names.{Hostgroup, LinkId, MessageName}
use Rattle.private_model.specs.Story.{BecameDue, Broke, Freed, Happening, Left, Mirrored, is_client}
use Rattle.private_model.specs.View.{Setup, View, view_step}
use Rattle.log_story.specs.Clients.{client_goes_on, clients_are_ended, clients_go_on, copied, due_by, ended_if_now, is_event_of, is_up, next_taken, taken_by, taken_up}
use Rattle.log_story.specs.Executes.{Request, requested}
use Rattle.log_story.specs.Owed.{messages, name_of}
use Rattle.log_story.specs.Plan.{Plan, Route, com_reset, gives_up, is_before, is_now, job_of}
use Rattle.log_story.specs.Servers.{freed_if_done, is_done, links_are_freed}
use Rattle.log_story.specs.Tale.{Client, Tale, is_to_server, tell, view_of, with_client}
use Rattle.step_laws.specs.Freed.{AreAll, NoneDone, freed_in, is_done_at}
use Rattle.step_laws.specs.Like.{IsLike}
use Rattle.step_laws.proofs.Giving.{none_left}
use Rattle.step_laws.proofs.Ordering.{named_like}
use Rattle.step_laws.proofs.Others.{as_it_was, asks_alike, like_alike}

module _ (setup : Setup) where
  pub like_itself : (tale : Tale) → IsLike setup tale tale
  like_itself tale = record { moment = refl; view = refl; clients = refl; links = refl; wires = refl }

  pub like_same : (old new : Tale) → new ≡ old → IsLike setup old new
  like_same old new same = subst (λ (t : Tale). IsLike setup t new) same (like_itself new)

  pub like_on : (old mid new : Tale) → IsLike setup old mid → IsLike setup mid new → IsLike setup old new
  like_on old mid new first next = record {
    moment = next.moment ∙ first.moment;
    view = next.view ∙ first.view;
    clients = next.clients ∙ first.clients;
    links = next.links ∙ first.links;
    wires = next.wires ∙ first.wires;
  }

  pub like_tell : (e : Happening) (old new : Tale) → IsLike setup old new → IsLike setup (tell e old) (tell e new)
  like_tell e old new like = record {
    moment = like.moment;
    view = ap (λ (v : View). view_step setup v e) like.view;
    clients = like.clients;
    links = like.links;
    wires = like.wires;
  }

  like_with : (client : Client) (old new : Tale) → IsLike setup old new → IsLike setup (with_client client old) (with_client client new)
  like_with client old new like = record {
    moment = like.moment;
    view = like.view;
    clients = ap (map (λ (other : Client). if is_client other.number client.number then client else other)) like.clients;
    links = like.links;
    wires = like.wires;
  }

  pub like_if : (b c : Bool) → c ≡ b → (x y v w : Tale) → IsLike setup x v → IsLike setup y w → IsLike setup (if b then x else y) (if c then v else w)
  like_if true true same x y v w one other = one
  like_if false false same x y v w one other = other
  like_if true false same x y v w one other = absurd (cc)
  like_if false true same x y v w one other = absurd (cc)

  like_fold : {A : Type 0} (f : Tale → A → Tale) → ((a : A) (old new : Tale) → IsLike setup old new → IsLike setup (f old a) (f new a))
      → (xs : List A) (old new : Tale) → IsLike setup old new → IsLike setup (fold f old xs) (fold f new xs)
  like_fold f goes [] old new like = like
  like_fold f goes (x ∷ xs) old new like = like_fold f goes xs (f old x) (f new x) (goes x old new like)

  -- as they have the same of what is gone through
  pub like_all : {A : Type 0} (f : Tale → A → Tale) → ((a : A) (old new : Tale) → IsLike setup old new → IsLike setup (f old a) (f new a))
      → (xs ys : List A) → ys ≡ xs → (old new : Tale) → IsLike setup old new → IsLike setup (fold f old xs) (fold f new ys)
  like_all f goes xs ys same old new like =
      subst (λ zs. IsLike setup (fold f old xs) (fold f new zs)) (sym same) (like_fold f goes xs old new like)

  module _ (plan : Plan) where
    -- Links are given back.

    pub like_done : (link : LinkId) (old new : Tale) → IsLike setup old new → is_done_at setup plan new link ≡ is_done_at setup plan old link
    like_done link old new like = λ i. is_done plan (like.moment i) (like.view i) (like.wires i link) ((like.view i).links link)

    like_freed : (link : LinkId) (old new : Tale) → IsLike setup old new → IsLike setup (freed_if_done setup plan old link) (freed_if_done setup plan new link)
    like_freed link old new like =
        like_if (is_done_at setup plan old link) (is_done_at setup plan new link) (like_done link old new like) (tell (Freed link) old) old (tell (Freed link) new) new
        (like_tell (Freed link) old new like) like

    pub like_all_freed : (old new : Tale) → IsLike setup old new → IsLike setup (links_are_freed setup plan old) (links_are_freed setup plan new)
    like_all_freed old new like = like_all (freed_if_done setup plan) like_freed old.links new.links like.links old new like

    -- Clients are ended.

    like_ends : (client : Client) (old new : Tale) → IsLike setup old new → IsLike setup (ended_if_now plan old client) (ended_if_now plan new client)
    like_ends client old new like =
        like_if (is_now old.moment (plan.ends client.number)) (is_now new.moment (plan.ends client.number)) (ap (λ m. is_now m (plan.ends client.number)) like.moment)
        (tell (Left client.number) old) old (tell (Left client.number) new) new (like_tell (Left client.number) old new like) like

    pub like_ended : (old new : Tale) → IsLike setup old new → IsLike setup (clients_are_ended plan old) (clients_are_ended plan new)
    like_ended old new like = like_all (ended_if_now plan) like_ends old.clients new.clients like.clients old new like

    -- Messages are taken up.

    like_copied : (message : MessageName) (command : Command) (mirror : Option Hostgroup) (old new : Tale) → IsLike setup old new
        → IsLike setup (copied message command mirror old) (copied message command mirror new)
    like_copied message command None old new like = like
    like_copied message command (Some hostgroup) old new like =
        like_tell (BecameDue (job_of message) hostgroup 1 0 command None) (tell (Mirrored message.client (job_of message)) old)
        (tell (Mirrored message.client (job_of message)) new) (like_tell (Mirrored message.client (job_of message)) old new like)

    like_due : (client : Client) (ordinal : ℕ) (route : Route) (request : Option Request) (old new : Tale) → IsLike setup old new
        → IsLike setup (due_by client ordinal route request old) (due_by client ordinal route request new)
    like_due client ordinal route None old new like = like_tell Broke old new like
    like_due client ordinal route (Some request) old new like =
        let due = BecameDue client.number route.hostgroup ordinal request.key request.command route.multiplex in
        like_copied (name_of client ordinal) request.command route.mirror (tell due old) (tell due new) (like_tell due old new like)

    like_taken : (client : Client) (ordinal : ℕ) (message : Framed) (route : Option Route) (old new : Tale) → IsLike setup old new
        → IsLike setup (taken_by setup plan client ordinal message route old) (taken_by setup plan client ordinal message route new)
    like_taken client ordinal message None old new like =
        like_if (nat_eq (slice_index_or message.payload 0 0) com_reset) (nat_eq (slice_index_or message.payload 0 0) com_reset) refl
        (tell (Left client.number) old) old (tell (Left client.number) new) new (like_tell (Left client.number) old new like) like
    like_taken client ordinal message (Some route) old new like =
        subst (λ (r : Option Request). IsLike setup (due_by client ordinal route (requested setup (view_of setup old) plan client ordinal route message.payload) old)
        (due_by client ordinal route r new))
        (sym (asks_alike setup plan client old new (like_alike setup plan client old new like) ordinal route message.payload))
        (like_due client ordinal route (requested setup (view_of setup old) plan client ordinal route message.payload) old new like)

    abbrev LikeIn : Option Tale → Option Tale → Type 0
    LikeIn None None = Unit {0}
    LikeIn None (Some new) = ⊥
    LikeIn (Some old) None = ⊥
    LikeIn (Some old) (Some new) = IsLike setup old new

    like_up : (b c : Bool) → c ≡ b → (x v : Tale) → IsLike setup x v → LikeIn (if b then Some x else None) (if c then Some v else None)
    like_up true true same x v like = like
    like_up false false same x v like = tt
    like_up true false same x v like = absurd (cc)
    like_up false true same x v like = absurd (cc)

    like_next : (client : Client) (message : Option Framed) (old new : Tale) → IsLike setup old new
        → LikeIn (next_taken setup plan client message old) (next_taken setup plan client message new)
    like_next client None old new like = tt
    like_next client (Some message) old new like =
        let route = plan.routes (name_of client (suc client.taken)) in
        like_up (is_up setup plan client old) (is_up setup plan client new) (as_it_was setup plan client old new (like_alike setup plan client old new like)).up
        (taken_by setup plan client (suc client.taken) message route old) (taken_by setup plan client (suc client.taken) message route new)
        (like_taken client (suc client.taken) message route old new like)

    like_others : (others : Tale → Tale) → ((x v : Tale) → IsLike setup x v → IsLike setup (others x) (others v)) → (a b : Option Tale) → LikeIn a b
        → (old new : Tale) → IsLike setup old new → IsLike setup (option_map_or others a old) (option_map_or others b new)
    like_others others goes None None found old new like = like
    like_others others goes None (Some v) found old new like = absurd found
    like_others others goes (Some x) None found old new like = absurd found
    like_others others goes (Some x) (Some v) found old new like = goes x v found

    like_taken_up : (most : ℕ) (client : Client) (old new : Tale) → IsLike setup old new
        → IsLike setup (taken_up most setup plan client old) (taken_up most setup plan client new)
    like_taken_up zero client old new like = like
    like_taken_up (suc most) client old new like =
        let next : Client = record client { taken = suc client.taken } in
        let message : Option Framed = slice_get (messages plan client) client.taken in
        like_others (λ other. taken_up most setup plan next (with_client next other))
        (λ x v one. like_taken_up most next (with_client next x) (with_client next v) (like_with next x v one))
        (next_taken setup plan client message old) (next_taken setup plan client message new) (like_next client message old new like) old new like

    like_goes : (view : View) (e : Entry) (client : Client) (old new : Tale) → IsLike setup old new
        → IsLike setup (client_goes_on setup plan view e old client) (client_goes_on setup plan view e new client)
    like_goes view e client old new like =
        like_if ((is_event_of view client e || gives_up plan old.moment (name_of client client.taken)) && not (is_before old.moment (plan.ends client.number)))
        ((is_event_of view client e || gives_up plan new.moment (name_of client client.taken)) && not (is_before new.moment (plan.ends client.number)))
        (ap (λ m. (is_event_of view client e || gives_up plan m (name_of client client.taken)) && not (is_before m (plan.ends client.number))) like.moment)
        (taken_up (length (messages plan client)) setup plan client old) old (taken_up (length (messages plan client)) setup plan client new) new
        (like_taken_up (length (messages plan client)) client old new like) like

    pub like_go_on : (view : View) (e : Entry) (old new : Tale) → IsLike setup old new
        → IsLike setup (clients_go_on setup plan view e old) (clients_go_on setup plan view e new)
    like_go_on view e old new like = like_all (client_goes_on setup plan view e) (like_goes view e) old.clients new.clients like.clients old new like

-- Once all that are to be given back were named, none is.
pub named_rests : (setup : Setup) (plan : Plan) (links : List LinkId) (tale : Tale) → AreAll setup plan links tale → NoneDone setup plan (freed_in setup plan links tale)
named_rests setup plan links tale all l there =
    let like : IsLike setup (links_are_freed setup plan tale) (freed_in setup plan links tale) = named_like setup plan links tale all in
    like_done setup plan l (links_are_freed setup plan tale) (freed_in setup plan links tale) like
    ∙ none_left setup plan tale l (ap (λ xs. is_to_server (record tale { links = xs }) l) (sym like.links) ∙ there)
