-- Links that carry present sessions of those who are called are all that may be given back once they went on.
use Rattle.std.specs.Prelude.{◌≡◌, Bool, true, false, not, All, is_some, List, Option, Some, None}
use Rattle.std.specs.List.{list_any}
use Rattle.std.specs.Option.{option_map_or}
use Rattle.std.proofs.Common.{refl, sym, ap, ◌∙◌, subst}
use Rattle.std.proofs.lemmas.Bool.{false≢true, true≢false}
use Rattle.client_session.specs.Setups.{Setup as Service}
use Rattle.private_model.proofs.Maps.{name_of}
use Rattle.private_model.specs.Names.{ClientNo, LinkId, SessionName}
use Rattle.private_model.specs.Story.{is_link_id, is_name}
use Rattle.private_model.specs.View.{Held, present, session_in}
use Rattle.log_story.specs.Servers.{is_left, links_are_freed}
use Rattle.log_story.specs.Tale.{Tale, is_to_server, link_in, view_of}
use Rattle.client_desk.specs.Desks.{session_of}
use Rattle.step_laws.proofs.Leaving.{leave_spares}
use Rattle.step_laws.proofs.Orderly.{freed_in_order}
use Rattle.step_laws.proofs.Sparing.{done_as_before, stays_spared}
use Rattle.step_laws.proofs.Stepping.{others_spare}
use Rattle.step_laws.proofs.Taking.{others_along}
use Rattle.step_laws.specs.Freed.{AreAll, Ascend, NoneDone, freed_in, is_among, is_done_at}
use Rattle.step_laws.specs.Steps.{leave}
use Rattle.step_laws.specs.Taken.{SparesOthers}
use Rattle.core_tables.specs.Tables.{Tabled}
use Rattle.core_stands.specs.Grounds.{Ground, on}
use Rattle.core_stands.specs.Stands.{Stands}
use Rattle.core_laws.proofs.OfParting.Homes.{homes_so}
use Rattle.core_laws.proofs.OfParting.Moving.{some_of}
use Rattle.core_laws.specs.parting.Frames.{AreHomed}
use Rattle.core_laws.proofs.OfClients.Facts.{held_is}
use Rattle.core_laws.proofs.OfClients.Homing.{among_of, each_of, left_rests}
use Rattle.core_laws.proofs.OfWriting.Knowing.{is_servers}
use Rattle.router_laws.proofs.OfWakes.Aligned.{called_of}
use Rattle.router_laws.specs.wakes.Calling.{AreHomesOf, Caller, IsThere, is_called}

left_of : (b : Bool) → not b ≡ false → b ≡ true
left_of true is = refl
left_of false is = absurd (true≢false is)

module _ (service : Service) (g : Ground) (heard late : Tale) (t : Tabled) (callers : List Caller) (links : List LinkId) (stands : Stands service (on g heard) t)
    (homes : AreHomesOf (is_called callers) links t) (there : All (λ (k : Caller). IsThere t k.client) callers) (rested : NoneDone g.setup g.plan heard)
    (spares : SparesOthers g.setup (is_called callers) heard late) (ended : List ClientNo) (theirs : All (λ (c : ClientNo). is_called callers c ≡ true) ended) where
  abbrev called : ClientNo → Bool
  called = is_called callers

  abbrev pub last : Tale
  last = leave ended late

  pub all_spared : SparesOthers g.setup called heard last
  all_spared = others_along g.setup called heard late last spares (leave_spares g.setup called ended late theirs)

  homed : AreHomed (view_of g.setup heard).links (view_of g.setup heard).held
  homed = homes_so g.setup heard.story stands.lawful

  -- one that carries a present session of theirs is named
  home_named : (l : LinkId) (n : SessionName) → session_in (link_in g.setup heard l).carries ≡ Some n → called n.client ≡ true
      → n ≡ present (view_of g.setup heard) n.client n.hostgroup → is_among links l ≡ true
  home_named l n carries its now =
      let is = called_of (IsThere t) n.client callers there its in
      let known = stands.clients.known n.client is.row is.there in
      let number : known.0.number ≡ n.client = known.1.number in
      let at : t.clients known.0.number ≡ Some is.row = ap t.clients number ∙ is.there in
      let home : (session_of is.row.desk n.hostgroup).home ≡ Some l =
      sym (ap (λ (h : Held). h.home)
      (ap (λ (c : ClientNo). (view_of g.setup heard).held (present (view_of g.setup heard) c n.hostgroup)) (sym number)
      ∙ held_is service (on g heard) t known.0 is.row stands known.1.seated at n.hostgroup))
      ∙ ap (λ (m : SessionName). ((view_of g.setup heard).held m).home) (sym now) ∙ homed.home l n carries in
      homes.homes n.client is.row n.hostgroup l its is.there home (ap is_some (stands.homes.carried n.client is.row n.hostgroup l is.there home).1.there)

  module _ (l : LinkId) (to_server : is_to_server last l ≡ true) (none : is_among links l ≡ false) where
    unfreed : is_done_at g.setup g.plan heard l ≡ false
    unfreed = rested l (ap (list_any (is_link_id l)) (sym all_spared.to_servers) ∙ to_server)

    undone_by : (n : SessionName) → session_in (link_in g.setup heard l).carries ≡ Some n → called n.client ≡ true → (b : Bool)
        → is_left (view_of g.setup heard) n ≡ b → is_done_at g.setup g.plan last l ≡ false
    undone_by n carries its true left =
        left_rests g.setup g.plan heard last l n carries left all_spared.links all_spared.held all_spared.wires unfreed
    undone_by n carries its false left =
        absurd (false≢true (sym none ∙ home_named l n carries its
        (name_of n (present (view_of g.setup heard) n.client n.hostgroup)
        (left_of (is_name n (present (view_of g.setup heard) n.client n.hostgroup)) left))))

    carried_by : (found : Option SessionName) → session_in (link_in g.setup heard l).carries ≡ found
        → option_map_or (λ (n : SessionName). called n.client) found false ≡ true → is_done_at g.setup g.plan last l ≡ false
    carried_by None carries some = absurd (false≢true some)
    carried_by (Some n) carries some = undone_by n carries some (is_left (view_of g.setup heard) n) refl

    undone_at : (b : Bool) → option_map_or (λ (n : SessionName). called n.client) (session_in (link_in g.setup heard l).carries) false ≡ b
        → is_done_at g.setup g.plan last l ≡ false
    undone_at true some = carried_by (session_in (link_in g.setup heard l).carries) refl some
    undone_at false aside =
        done_as_before g.setup g.plan heard last l
        (stays_spared g.setup g.plan heard last (λ (k : LinkId). false) (λ (n : SessionName). called n.client)
        (others_spare g.setup called heard last all_spared) l refl aside)
        ∙ unfreed

    undone : is_done_at g.setup g.plan last l ≡ false
    undone = undone_at (option_map_or (λ (n : SessionName). called n.client) (session_in (link_in g.setup heard l).carries) false) refl

  to_servers : (l : LinkId) → is_some (t.links l) ≡ true → is_to_server heard l ≡ true
  to_servers l some = let server = some_of (t.links l) some in is_servers service (on g heard) t l server.0 stands server.1

  are_all : AreAll g.setup g.plan links last
  are_all = record {
    theirs = λ l is. ap (list_any (is_link_id l)) all_spared.to_servers ∙ to_servers l (among_of (λ (k : LinkId). is_some (t.links k) ≡ true) l links homes.known is);
    all = λ l to_server none. undone l to_server none;
  }

  pub all_to_servers : All (λ (l : LinkId). is_to_server last l ≡ true) links
  all_to_servers = each_of links (λ (l : LinkId). is_to_server last l ≡ true) are_all.theirs

  -- so they are given back as they are named
  pub as_named : Ascend (λ l. l.0) heard.links → links_are_freed g.setup g.plan last ≡ freed_in g.setup g.plan links last
  as_named rising =
      freed_in_order g.setup g.plan (λ l. l.0) links last are_all (subst (Ascend (λ l. l.0)) (sym all_spared.to_servers) rising) homes.rising
