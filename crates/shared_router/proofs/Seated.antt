-- Behind an entry a tale has the clients that it had, with what was read of them, and one that came.
use Rattle.std.specs.Prelude.{◌≡◌, ◌+◌, ◌≤◌, ◌<◌, ℕ, zero, suc, Bool, true, false, ◌&&◌, ◌||◌, not, fold, length, map, nat_eq, if◌then◌else◌, slice_get, slice_index_or, List, [], ◌∷◌, ◌++◌, Option, Some, None}
use Rattle.std.specs.Option.{option_map_or}
use Rattle.std.proofs.Common.{refl, sym, ap, ◌∙◌, subst, inl, inr, arith}
use Rattle.mx_base.specs.declared.names.LinkId.{LinkId}
use Rattle.mx_wire.specs.declared.entry.Entry.{Entry}
use Rattle.mx_wire.specs.declared.entry.Entry.TheVariants as entry
use Rattle.packet_frame.specs.Packets.{Framed}
use Rattle.private_model.proofs.Maps.{client_of}
use Rattle.private_model.specs.Commands.{Command}
use Rattle.private_model.specs.Names.{ClientNo, Hostgroup, MessageName}
use Rattle.private_model.specs.Story.{Dropped, Freed, Gone, Left, Ran, is_client, is_link_id}
use Rattle.private_model.specs.View.{Setup, View}
use Rattle.log_story.proofs.Moving.{says-moved, writes-moved}
use Rattle.log_story.specs.Clients.{client_goes_on, client_leaves, clients_are_ended, clients_go_on, copied, due_by, ended_if_now, is_event_of, is_up, next_taken, taken_by, taken_up}
use Rattle.log_story.specs.Executes.{Request, requested}
use Rattle.log_story.specs.Owed.{messages, name_of}
use Rattle.log_story.specs.Plan.{Plan, Route, com_reset, gives_up, is_before, is_now}
use Rattle.log_story.specs.Servers.{freed_if_done, is_done, links_are_freed, writes}
use Rattle.log_story.specs.Tale.{Client, Tale, client_gets, client_hears, counted, is_to_server, link_in, new_client, tell, view_of, with_client}
use Rattle.log_story.specs.Telling.{is_lost_or_left, server_says, tale_step, told}
use Rattle.shared_router.proofs.Dues.{either}
use Rattle.shared_router.proofs.Numbered.{AreNumbered, IsIn, numbered_comes, numbered_moves}
use Rattle.shared_router.proofs.Walks.{gets_stays, hears_stays}

-- The same client, which may have taken up more.

pub record IsLike (x y : Client) : Type 0 where
  pub number : y.number ≡ x.number
  pub link : y.link ≡ x.link
  pub port : y.port ≡ x.port
  pub salt : y.salt ≡ x.salt
  pub read : y.read ≡ x.read

abbrev pub AreLike : List Client → List Client → Type 0
AreLike [] [] = Unit {0}
AreLike [] (y ∷ ys) = ⊥
AreLike (x ∷ xs) [] = ⊥
AreLike (x ∷ xs) (y ∷ ys) = IsLike x y × AreLike xs ys

pub like_itself : (xs : List Client) → AreLike xs xs
like_itself [] = tt
like_itself (x ∷ xs) = (record { number = refl; link = refl; port = refl; salt = refl; read = refl }, like_itself xs)

pub like_numbered : (from : ℕ) (xs ys : List Client) → AreLike xs ys → AreNumbered from xs → AreNumbered from ys
like_numbered from [] [] like are = tt
like_numbered from [] (y ∷ ys) like are = absurd like
like_numbered from (x ∷ xs) [] like are = absurd like
like_numbered from (x ∷ xs) (y ∷ ys) like are = (ap (λ (n : ClientNo). n.0) like.0.number ∙ are.0, like_numbered (suc from) xs ys like.1 are.1)

-- it is like each of its number
abbrev IsOf : List Client → Client → Type 0
IsOf [] client = Unit {0}
IsOf (x ∷ xs) client = (is_client x.number client.number ≡ true → IsLike x client) × IsOf xs client

of_next : (xs : List Client) (client : Client) → IsOf xs client → IsOf xs (record client { taken = suc client.taken })
of_next [] client of = tt
of_next (x ∷ xs) client of = (λ is. record { number = (of.0 is).number; link = (of.0 is).link; port = (of.0 is).port; salt = (of.0 is).salt; read = (of.0 is).read }, of_next xs client of.1)

of_later : (from : ℕ) (xs : List Client) (y : Client) → AreNumbered from xs → y.number.0 < from → IsOf xs y
of_later from [] y are less = tt
of_later from (x ∷ xs) y are less = (
  λ is. absurd (let same : x.number.0 ≡ y.number.0 = ap (λ (n : ClientNo). n.0) (client_of x.number y.number is) in let first : x.number.0 ≡ from = are.0 in omega arith),
  of_later (suc from) xs y are.1 (omega arith),
)

number_from : (from : ℕ) (xs : List Client) (y : Client) → AreNumbered from xs → IsIn y xs → from ≤ y.number.0
number_from from [] y are there = absurd there
number_from from (x ∷ xs) y are (inl same) = let is : y.number.0 ≡ from = ap (λ (c : Client). c.number.0) same ∙ are.0 in omega arith
number_from from (x ∷ xs) y are (inr there) = let later : suc from ≤ y.number.0 = number_from (suc from) xs y are.1 there in omega arith

of_numbered : (from : ℕ) (xs : List Client) (y : Client) → AreNumbered from xs → IsIn y xs → IsOf xs y
of_numbered from [] y are there = absurd there
of_numbered from (x ∷ xs) y are (inl same) = (
  λ is. record { number = ap (λ (c : Client). c.number) same; link = ap (λ (c : Client). c.link) same; port = ap (λ (c : Client). c.port) same; salt = ap (λ (c : Client). c.salt) same; read = ap (λ (c : Client). c.read) same },
  of_later (suc from) xs y are.1 (let is : y.number.0 ≡ from = ap (λ (c : Client). c.number.0) same ∙ are.0 in omega arith),
)
of_numbered from (x ∷ xs) y are (inr there) = (
  λ is. absurd (let same : x.number.0 ≡ y.number.0 = ap (λ (n : ClientNo). n.0) (client_of x.number y.number is) in let first : x.number.0 ≡ from = are.0 in
      let later : suc from ≤ y.number.0 = number_from (suc from) xs y are.1 there in omega arith),
  of_numbered (suc from) xs y are.1 there,
)

abbrev pub AllOf : (Client → Type 0) → List Client → Type 0
AllOf Q [] = Unit {0}
AllOf Q (x ∷ xs) = Q x × AllOf Q xs

all_in : (Q : Client → Type 0) (xs : List Client) → ((y : Client) → IsIn y xs → Q y) → AllOf Q xs
all_in Q [] each = tt
all_in Q (x ∷ xs) each = (each x (inl refl), all_in Q xs (λ y there. each y (inr there)))

with_like : (xs ys : List Client) (client : Client) → AreLike xs ys → IsOf xs client
    → AreLike xs (map (λ (other : Client). if is_client other.number client.number then client else other) ys)
with_like [] [] client like of = tt
with_like [] (y ∷ ys) client like of = absurd like
with_like (x ∷ xs) [] client like of = absurd like
with_like (x ∷ xs) (y ∷ ys) client like of = (by_test (is_client y.number client.number) refl, with_like xs ys client like.1 of.1) where
  by_test : (b : Bool) → is_client y.number client.number ≡ b → IsLike x (if b then client else y)
  by_test true is = of.0 (ap (λ n. is_client n client.number) (sym like.0.number) ∙ is)
  by_test false is = like.0

module _ (setup : Setup) (plan : Plan) where
  -- as an entry is told

  abbrev pub clients_by : Tale → Entry → List Client
  clients_by tale (entry.Accepted port link salt) = tale.clients ++ new_client (length tale.clients + 1) port link salt ∷ []
  clients_by tale (entry.Got link bytes) = if is_to_server tale link then tale.clients else map (client_hears link bytes) tale.clients
  clients_by tale (entry.Wrote link tag bytes) = if is_to_server tale link then tale.clients else map (client_gets link (length bytes)) tale.clients
  clients_by tale _ = tale.clients

  if_clients : (b : Bool) (x y : Tale) (a c : List Client) → x.clients ≡ a → y.clients ≡ c → (if b then x else y).clients ≡ (if b then a else c)
  if_clients true x y a c one two = one
  if_clients false x y a c one two = two

  same_clients : (b : Bool) (x y : Tale) (a : List Client) → x.clients ≡ a → y.clients ≡ a → (if b then x else y).clients ≡ a
  same_clients true x y a one two = one
  same_clients false x y a one two = two

  leaving_clients : (link : LinkId) (xs : List Client) (tale : Tale) → (fold (client_leaves link) tale xs).clients ≡ tale.clients
  leaving_clients link [] tale = refl
  leaving_clients link (x ∷ xs) tale =
      leaving_clients link xs (client_leaves link tale x) ∙ same_clients (is_link_id x.link link) (tell (Left x.number) tale) tale tale.clients refl refl

  losing_clients : (link : LinkId) (tale : Tale) → (is_lost_or_left link tale).clients ≡ tale.clients
  losing_clients link tale =
      same_clients (is_to_server tale link) (tell (Gone link) tale) (fold (client_leaves link) tale tale.clients) tale.clients refl (leaving_clients link tale.clients tale)

  pub told_clients : (tale : Tale) (e : Entry) → (told setup plan tale e).clients ≡ clients_by tale e
  told_clients tale (entry.Got link bytes) =
      if_clients (is_to_server tale link) (server_says setup plan link bytes tale) (record tale { clients = map (client_hears link bytes) tale.clients }) _ _
      (says-moved setup plan link bytes tale).clients refl
  told_clients tale (entry.Wrote link tag bytes) =
      if_clients (is_to_server tale link) (writes setup plan link tag bytes (tale.wires link) tale) (record tale { clients = map (client_gets link (length bytes)) tale.clients }) _ _
      (writes-moved setup plan link tag bytes tale).clients refl
  told_clients tale (entry.Exec link) =
      same_clients (tale.wires link).entered (tell (if (tale.wires link).quits then Dropped link else Ran link) tale) tale tale.clients refl refl
  told_clients tale (entry.Ended link) = losing_clients link tale
  told_clients tale (entry.ReadFailed link) = losing_clients link tale
  told_clients tale (entry.WriteFailed link) = losing_clients link tale
  told_clients tale (entry.Closed link) = losing_clients link tale
  told_clients tale _ = refl

  pub numbered_by : (tale : Tale) (e : Entry) → AreNumbered 1 tale.clients → AreNumbered 1 (clients_by tale e)
  numbered_by tale (entry.Accepted port link salt) are = numbered_comes 1 tale.clients (new_client (length tale.clients + 1) port link salt) are (omega arith)
  numbered_by tale (entry.Got link bytes) are =
      either (AreNumbered 1) (is_to_server tale link) tale.clients (map (client_hears link bytes) tale.clients) are
      (numbered_moves (client_hears link bytes) (hears_stays link bytes) 1 tale.clients are)
  numbered_by tale (entry.Wrote link tag bytes) are =
      either (AreNumbered 1) (is_to_server tale link) tale.clients (map (client_gets link (length bytes)) tale.clients) are
      (numbered_moves (client_gets link (length bytes)) (gets_stays link (length bytes)) 1 tale.clients are)
  numbered_by tale _ are = are

  pub numbered_told : (tale : Tale) (e : Entry) → AreNumbered 1 tale.clients → AreNumbered 1 (told setup plan tale e).clients
  numbered_told tale e are = subst (AreNumbered 1) (sym (told_clients tale e)) (numbered_by tale e are)

  freeing_clients : (xs : List LinkId) (tale : Tale) → (fold (freed_if_done setup plan) tale xs).clients ≡ tale.clients
  freeing_clients [] tale = refl
  freeing_clients (x ∷ xs) tale =
      freeing_clients xs (freed_if_done setup plan tale x)
      ∙ same_clients (is_done plan tale.moment (view_of setup tale) (tale.wires x) (link_in setup tale x)) (tell (Freed x) tale) tale tale.clients refl refl

  ending_clients : (xs : List Client) (tale : Tale) → (fold (ended_if_now plan) tale xs).clients ≡ tale.clients
  ending_clients [] tale = refl
  ending_clients (x ∷ xs) tale =
      ending_clients xs (ended_if_now plan tale x) ∙ same_clients (is_now tale.moment (plan.ends x.number)) (tell (Left x.number) tale) tale tale.clients refl refl

  -- as messages are taken up

  copied_clients : (message : MessageName) (command : Command) (mirror : Option Hostgroup) (tale : Tale) → (copied message command mirror tale).clients ≡ tale.clients
  copied_clients message command None tale = refl
  copied_clients message command (Some hostgroup) tale = refl

  due_clients : (client : Client) (i : ℕ) (route : Route) (request : Option Request) (tale : Tale) → (due_by client i route request tale).clients ≡ tale.clients
  due_clients client i route None tale = refl
  due_clients client i route (Some request) tale = copied_clients (name_of client i) request.command route.mirror _

  pub taken_clients : (client : Client) (i : ℕ) (message : Framed) (route : Option Route) (tale : Tale) → (taken_by setup plan client i message route tale).clients ≡ tale.clients
  taken_clients client i message None tale =
      same_clients (nat_eq (slice_index_or message.payload 0 0) com_reset) (tell (Left client.number) tale) tale tale.clients refl refl
  taken_clients client i message (Some route) tale = due_clients client i route (requested setup (view_of setup tale) plan client i route message.payload) tale

  module _ (whole : List Client) where
    abbrev Has : Tale → Type 0
    Has tale = AreLike whole tale.clients

    abbrev HasIn : Option Tale → Type 0
    HasIn None = Unit {0}
    HasIn (Some tale) = Has tale

    next_has : (client : Client) (found : Option Framed) (tale : Tale) → Has tale → HasIn (next_taken setup plan client found tale)
    next_has client None tale has = tt
    next_has client (Some message) tale has =
        either HasIn (is_up setup plan client tale)
        (Some (taken_by setup plan client (suc client.taken) message (plan.routes (name_of client (suc client.taken))) tale)) None
        (subst (AreLike whole) (sym (taken_clients client (suc client.taken) message (plan.routes (name_of client (suc client.taken))) tale)) has) tt

    others_has : (others : Tale → Tale) (found : Option Tale) (old : Tale) → Has old → HasIn found → ((tale : Tale) → Has tale → Has (others tale))
        → Has (option_map_or others found old)
    others_has others None old has in_it keeps = has
    others_has others (Some tale) old has in_it keeps = keeps tale in_it

    up_has : (most : ℕ) (client : Client) (tale : Tale) → IsOf whole client → Has tale → Has (taken_up most setup plan client tale)
    up_has zero client tale of has = has
    up_has (suc most) client tale of has =
        let onward : Client = record client { taken = suc client.taken } in
        let still : IsOf whole onward = of_next whole client of in
        others_has (λ other. taken_up most setup plan onward (with_client onward other)) (next_taken setup plan client (slice_get (messages plan client) client.taken) tale) tale
        has (next_has client (slice_get (messages plan client) client.taken) tale has)
        (λ other in_it. up_has most onward (with_client onward other) still (with_like whole other.clients onward in_it still))

    going_has : (view : View) (e : Entry) (xs : List Client) (tale : Tale) → AllOf (IsOf whole) xs → Has tale → Has (fold (client_goes_on setup plan view e) tale xs)
    going_has view e [] tale all has = has
    going_has view e (x ∷ xs) tale all has =
        going_has view e xs (client_goes_on setup plan view e tale x) all.1
        (either Has ((is_event_of view x e || gives_up plan tale.moment (name_of x x.taken)) && not (is_before tale.moment (plan.ends x.number)))
        (taken_up (length (messages plan x)) setup plan x tale) tale (up_has (length (messages plan x)) x tale all.0 has) has)

  abbrev pub freed : Tale → Entry → Tale
  freed tale e = links_are_freed setup plan (counted (told setup plan tale e))

  pub freed_clients : (tale : Tale) (e : Entry) → (freed tale e).clients ≡ (told setup plan tale e).clients
  freed_clients tale e = freeing_clients (told setup plan tale e).links (counted (told setup plan tale e))

  abbrev gone : Tale → Entry → Tale
  gone tale e = clients_go_on setup plan (view_of setup tale) e (freed tale e)

  pub step_clients : (tale : Tale) (e : Entry) → (tale_step setup plan tale e).clients ≡ (gone tale e).clients
  step_clients tale e =
      let ended : Tale = clients_are_ended plan (gone tale e) in freeing_clients ended.links ended ∙ ending_clients (gone tale e).clients (gone tale e)

  -- those behind an entry are those that it told of
  pub step_like : (tale : Tale) (e : Entry) → AreNumbered 1 tale.clients → AreLike (told setup plan tale e).clients (tale_step setup plan tale e).clients
  step_like tale e are =
      let xs : List Client = (told setup plan tale e).clients in
      let all : AllOf (IsOf xs) xs = all_in (IsOf xs) xs (λ y there. of_numbered 1 xs y (numbered_told tale e are) there) in
      subst (AreLike xs) (sym (step_clients tale e))
      (going_has xs (view_of setup tale) e (freed tale e).clients (freed tale e) (subst (AllOf (IsOf xs)) (sym (freed_clients tale e)) all)
      (subst (AreLike xs) (sym (freed_clients tale e)) (like_itself xs)))

  pub numbered_step : (tale : Tale) (e : Entry) → AreNumbered 1 tale.clients → AreNumbered 1 (tale_step setup plan tale e).clients
  numbered_step tale e are = like_numbered 1 (told setup plan tale e).clients (tale_step setup plan tale e).clients (step_like tale e are) (numbered_told tale e are)
