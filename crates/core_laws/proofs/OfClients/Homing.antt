-- Links that carry a client's present sessions are all that may be given back once it went on.
use Rattle.std.specs.Prelude.{◌≡◌, ℕ, Bool, true, false, not, ◌&&◌, ◌||◌, All, is_some, nat_eq, List, [], ◌∷◌, Option, Some, None}
use Rattle.std.specs.List.{list_any}
use Rattle.std.specs.Option.{option_map_or}
use Rattle.std.proofs.Common.{refl, sym, ap, ◌∙◌, subst}
use Rattle.std.proofs.lemmas.Bool.{false≢true, true≢false}
use Rattle.std.proofs.lemmas.List.Elements.{All-cons, All-head, All-nil, All-tail}
use Rattle.std.proofs.lemmas.Option.{none-some, same_Some}
use Rattle.mx_base.specs.declared.names.Hostgroup.{Hostgroup}
use Rattle.mx_wire.specs.declared.entry.Entry.{Entry}
use Rattle.client_session.specs.Setups.{Setup as Service}
use Rattle.private_model.proofs.Maps.{client_of, link_of, name_of, same_number}
use Rattle.private_model.specs.Names.{ClientNo, LinkId, SessionName}
use Rattle.private_model.specs.Story.{is_client, is_link_id, is_name}
use Rattle.private_model.specs.View.{Carried, Held, Joined, Lent, Link, Nobody, Setup, View, present, session_in}
use Rattle.session_state.specs.Pins.{is_pinned, needs_reset}
use Rattle.log_story.specs.Clients.{client_goes_on}
use Rattle.log_story.specs.Plan.{Plan}
use Rattle.log_story.specs.Servers.{is_done_by, is_given_up, is_left, is_quiet, is_settled, links_are_freed}
use Rattle.log_story.specs.Tale as tales
use Rattle.log_story.specs.Tale.{Tale, Wire, is_reset_step, is_to_server, link_in, view_of}
use Rattle.client_desk.specs.Desks.{session_of}
use Rattle.desk_laws.specs.Stands.{held_of}
use Rattle.step_laws.proofs.Leaving.{leave_spares}
use Rattle.step_laws.proofs.Orderly.{freed_in_order}
use Rattle.step_laws.proofs.Stepping.{parting_rests}
use Rattle.step_laws.proofs.Taking.{goes_spares, others_along}
use Rattle.step_laws.specs.Freed.{Ascend, AreAll, NoneDone, freed_in, is_among, is_done_at}
use Rattle.step_laws.specs.Seats.{IsSeated, is_its}
use Rattle.step_laws.specs.Steps.{leave}
use Rattle.step_laws.specs.Taken.{AreSingle, SparesOthers}
use Rattle.core_tables.specs.Tables.{Tabled}
use Rattle.core_tables.specs.declared.client.Client.{Client}
use Rattle.core_tables.specs.declared.server.Server.{Server}
use Rattle.core_stands.specs.Grounds.{Ground, view_on}
use Rattle.core_stands.specs.Servers.{IsServerBy}
use Rattle.core_stands.specs.Stands.{Stands}
use Rattle.core_laws.specs.parting.Frames.{AreHomed}
use Rattle.core_laws.proofs.OfClients.Facts.{held_is}
use Rattle.core_laws.specs.clients.Following.{to_look}
use Rattle.core_laws.specs.clients.Follows.{AreHomesOf}

-- A link that carries a session which was left is given back or not whatever its client does.

left_of : (b : Bool) → not b ≡ false → b ≡ true
left_of true is = refl
left_of false is = absurd (true≢false is)

ends_in : (a left : Bool) → left ≡ true → (a || left) ≡ true
ends_in true left is = refl
ends_in false left is = is

blocked : (u q r k w w' : Bool) → w ≡ true → (u && (q && (r && (k && w)))) ≡ false → (u && (q && (r && (k && w')))) ≡ false
blocked false q r k w w' is none = refl
blocked true false r k w w' is none = refl
blocked true true false k w w' is none = refl
blocked true true true false w w' is none = refl
blocked true true true true w w' is none = absurd (true≢false (sym is ∙ none))

module _ (plan : Plan) (n : SessionName) (old new : View) (held : new.held ≡ old.held) (left : is_left old n ≡ true) (before after : ℕ) where
  -- whose session it is that the link carries
  named : (m : SessionName) → m ≡ n → is_left old m ≡ true
  named m same = ap (is_left old) same ∙ left

  by_carried : (u q r : Bool) (carries : Carried) → session_in carries ≡ Some n → (u && (q && (r && is_done_by plan before old carries))) ≡ false
      → (u && (q && (r && is_done_by plan after new carries))) ≡ false
  by_carried u q r Nobody is none = absurd (none-some n is)
  by_carried u q r (Lent m) is none =
      let same : m ≡ n = same_Some m n is in
      subst (λ (h : SessionName → Held). (u && (q && (r && (not (needs_reset (h m).pin)
      && ((is_settled (h m) && is_given_up plan after m (new.dues m)) || is_left new m))))) ≡ false) (sym held)
      (blocked u q r (not (needs_reset (old.held m).pin)) ((is_settled (old.held m) && is_given_up plan before m (old.dues m)) || is_left old m)
      ((is_settled (old.held m) && is_given_up plan after m (new.dues m)) || is_left new m)
      (ends_in (is_settled (old.held m) && is_given_up plan before m (old.dues m)) (is_left old m) (named m same)) none)
  by_carried u q r (Joined m) is none =
      let same : m ≡ n = same_Some m n is in
      subst (λ (h : SessionName → Held). (u && (q && (r && (not (needs_reset (h m).pin) && (is_settled (h m) || is_left new m))))) ≡ false) (sym held)
      (blocked u q r (not (needs_reset (old.held m).pin)) (is_settled (old.held m) || is_left old m) (is_settled (old.held m) || is_left new m)
      (ends_in (is_settled (old.held m)) (is_left old m) (named m same)) none)

pub left_rests : (setup : Setup) (plan : Plan) (old new : Tale) (l : LinkId) (n : SessionName) → session_in (link_in setup old l).carries ≡ Some n
    → is_left (view_of setup old) n ≡ true → (view_of setup new).links ≡ (view_of setup old).links → (view_of setup new).held ≡ (view_of setup old).held
    → new.wires ≡ old.wires → is_done_at setup plan old l ≡ false → is_done_at setup plan new l ≡ false
left_rests setup plan old new l n carries left links held wires none =
    let link : Link = link_in setup old l in
    ap (λ (found : LinkId → Link). (found l).usable && (is_quiet (found l).stage && (not (is_reset_step (new.wires l).step)
    && is_done_by plan new.moment (view_of setup new) (found l).carries))) links
    ∙ ap (λ (found : LinkId → Wire). link.usable && (is_quiet link.stage && (not (is_reset_step (found l).step)
    && is_done_by plan new.moment (view_of setup new) link.carries))) wires
    ∙ by_carried plan n (view_of setup old) (view_of setup new) held left old.moment new.moment link.usable (is_quiet link.stage)
    (not (is_reset_step (old.wires l).step)) link.carries carries none

among_first : (P : LinkId → Type 0) (l x : LinkId) (links : List LinkId) → P x → (is_among links l ≡ true → P l) → (b : Bool) → is_link_id l x ≡ b
    → (b || is_among links l) ≡ true → P l
among_first P l x links here behind true same there = subst P (sym (link_of l x same)) here
among_first P l x links here behind false other there = behind there

pub among_of : (P : LinkId → Type 0) (l : LinkId) (links : List LinkId) → All P links → is_among links l ≡ true → P l
among_of P l [] all there = absurd (false≢true there)
among_of P l (x ∷ links) all there =
    among_first P l x links (All-head P x links all) (among_of P l links (All-tail P x links all)) (is_link_id l x) refl there

pub each_of : (links : List LinkId) (P : LinkId → Type 0) → ((l : LinkId) → is_among links l ≡ true → P l) → All P links
each_of [] P each = All-nil P
each_of (x ∷ links) P each =
    All-cons P x links (each x (ap (λ (b : Bool). b || is_among links x) (same_number x.0)))
    (each_of links P (λ l there. each l (ends_in (is_link_id l x) (is_among links l) there)))

-- a row is a link's to a server
pub server_by : (g : Ground) (t : Tabled) (l : LinkId) (b : Bool) (found : Option Server) → IsServerBy b g t l found → is_some found ≡ true → b ≡ true
server_by g t l true found is some = refl
server_by g t l false found is some = absurd (true≢false (sym some ∙ ap is_some is))

either_same : (b : Bool) → (b || b) ≡ true → b ≡ true
either_same true is = refl
either_same false is = is

module _ (service : Service) (g : Ground) (freed : Tale) (fresh : ClientNo → Bool) (mid : Tabled) (stands : Stands service (to_look g fresh freed) mid)
    (client : tales.Client) (links : List LinkId) (homes : AreHomesOf client.number links mid) (seated : IsSeated freed client)
    (homed : AreHomed (view_of g.setup freed).links (view_of g.setup freed).held) (rest : NoneDone g.setup g.plan freed)
    (single : AreSingle g.plan (is_its client)) (e : Entry) (ended : List ClientNo) (theirs : All (λ (c : ClientNo). is_its client c ≡ true) ended) where
  abbrev its : ClientNo → Bool
  its = is_its client

  abbrev gone : Tale
  gone = client_goes_on g.setup g.plan (view_on g) e freed client

  abbrev pub last : Tale
  last = leave ended gone

  pub spares : SparesOthers g.setup its freed last
  spares =
      others_along g.setup its freed gone last (goes_spares g.setup its g.plan single (view_on g) e client freed (same_number client.number.0))
      (leave_spares g.setup its ended gone theirs)

  to_server : (l : LinkId) → is_some (mid.links l) ≡ true → is_to_server freed l ≡ true
  to_server l some = server_by (to_look g fresh freed) mid l (is_to_server freed l) (mid.links l) (stands.servers l) some

  -- one that carries its present session is named
  home_named : (l : LinkId) (n : SessionName) → session_in (link_in g.setup freed l).carries ≡ Some n → n.client ≡ client.number
      → n ≡ present (view_of g.setup freed) n.client n.hostgroup → is_among links l ≡ true
  home_named l n carries number now =
      let home : (session_of homes.row.desk n.hostgroup).home ≡ Some l =
      sym (ap (λ (h : Held). h.home)
      (ap (λ (c : ClientNo). (view_of g.setup freed).held (present (view_of g.setup freed) c n.hostgroup)) number
      ∙ held_is service (to_look g fresh freed) mid client homes.row stands seated homes.there n.hostgroup))
      ∙ ap (λ (m : SessionName). ((view_of g.setup freed).held m).home) (sym now) ∙ homed.home l n carries in
      homes.homes n.hostgroup l home (ap is_some (stands.homes.carried client.number homes.row n.hostgroup l homes.there home).1.there)

  module _ (l : LinkId) (there : is_to_server last l ≡ true) (none : is_among links l ≡ false) where
    undone_by : (n : SessionName) → session_in (link_in g.setup freed l).carries ≡ Some n → is_its client n.client ≡ true → (b : Bool)
        → is_left (view_of g.setup freed) n ≡ b → is_done_at g.setup g.plan last l ≡ false
    undone_by n carries theirs true left =
        left_rests g.setup g.plan freed last l n carries left spares.links spares.held spares.wires
        (rest l (ap (list_any (is_link_id l)) (sym spares.to_servers) ∙ there))
    undone_by n carries theirs false left =
        absurd (false≢true (sym none ∙ home_named l n carries (client_of n.client client.number theirs)
        (name_of n (present (view_of g.setup freed) n.client n.hostgroup)
        (left_of (is_name n (present (view_of g.setup freed) n.client n.hostgroup)) left))))

    carried_by : (found : Option SessionName) → session_in (link_in g.setup freed l).carries ≡ found
        → option_map_or (λ (n : SessionName). its n.client || its n.client) found false ≡ true → is_done_at g.setup g.plan last l ≡ false
    carried_by None carries some = absurd (false≢true some)
    carried_by (Some n) carries some = undone_by n carries (either_same (its n.client) some) (is_left (view_of g.setup freed) n) refl

    undone_at : (b : Bool)
        → option_map_or (λ (n : SessionName). its n.client || its n.client) (session_in (link_in g.setup freed l).carries) false ≡ b
        → is_done_at g.setup g.plan last l ≡ false
    undone_at true some = carried_by (session_in (link_in g.setup freed l).carries) refl some
    undone_at false aside =
        parting_rests g.setup g.plan (view_on g) e its its single (client ∷ []) ended freed
        (All-cons (λ (x : tales.Client). its x.number ≡ true) client [] (same_number client.number.0) (All-nil (λ (x : tales.Client). its x.number ≡ true)))
        theirs rest l there aside

    undone : is_done_at g.setup g.plan last l ≡ false
    undone = undone_at (option_map_or (λ (n : SessionName). its n.client || its n.client) (session_in (link_in g.setup freed l).carries) false) refl

  pub are_all : AreAll g.setup g.plan links last
  are_all = record {
    theirs = λ l there.
        ap (list_any (is_link_id l)) spares.to_servers
        ∙ to_server l (among_of (λ (k : LinkId). is_some (mid.links k) ≡ true) l links homes.known there);
    all = λ l there none. undone l there none;
  }

  pub all_to_servers : All (λ (l : LinkId). is_to_server last l ≡ true) links
  all_to_servers = each_of links (λ (l : LinkId). is_to_server last l ≡ true) are_all.theirs

  -- so they are given back as they are named
  pub as_named : Ascend (λ l. l.0) freed.links → links_are_freed g.setup g.plan last ≡ freed_in g.setup g.plan links last
  as_named rising =
      freed_in_order g.setup g.plan (λ l. l.0) links last are_all (subst (Ascend (λ l. l.0)) (sym spares.to_servers) rising) homes.rising
