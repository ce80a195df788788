-- The row of a client that is over goes away.
use Rattle.std.specs.Prelude.{◌≡◌, ◌⊎◌, Bool, true, false, if◌then◌else◌, is_some, slice_index_or, Option, Some, None}
use Rattle.std.specs.Option.{option_map}
use Rattle.std.proofs.Common.{◌∙◌, refl, sym, ap, subst, inl, inr}
use Rattle.client_session.specs.Setups.{Setup as Service}
use Rattle.client_seat.specs.Seats.{is_ended}
use Rattle.private_model.specs.Names.{ClientNo, LinkId, SessionName}
use Rattle.private_model.specs.Story.{is_client, is_link_id}
use Rattle.private_model.specs.View.{Held, present}
use Rattle.log_story.specs.Tale as tales
use Rattle.desk_laws.specs.Stands.{name_at}
use Rattle.client_desk.specs.Desks.{session_of}
use Rattle.core_tables.specs.Arrivals.{forgotten, without}
use Rattle.core_tables.specs.Tables.{IsSame, Tabled, client_put, number_put}
use Rattle.core_tables.specs.declared.client.Client.{Client}
use Rattle.core_tables.specs.declared.server.Server.{Server}
use Rattle.core_stands.specs.Clients.{IsClient, IsClientOr, IsForgotten, IsOver, IsPhase}
use Rattle.core_stands.specs.Grounds.{Ground, view_on}
use Rattle.core_stands.specs.Servers.{IsServerOr}
use Rattle.core_stands.specs.Stands.{AreClients, AreHomes, IsAt, IsHome, IsKnown, Stands}
use Rattle.core_laws.specs.parting.Frames.{IsGlanced, glance}
use Rattle.core_laws.proofs.OfArrival.Changing.{AreIdle, InWork, RowsStay, put-other, put-same, servers-read}
use Rattle.core_laws.proofs.OfArrival.Finding.{at-known, client-true, false-true, link-same, link-true, none-some, one-known, one-link, same-some}

over-in : (g : Ground) (x : tales.Client) (row : Client) (ended : Bool) → g.over x.number ≡ true → IsPhase ended g x row → IsOver g x row
over-in g x row true over is = is
over-in g x row false over is = false-true (g.over x.number) is.going over

pub forgotten-so : (g : Ground) (x : tales.Client) (row : Client) → g.over x.number ≡ true → IsClient g x row → IsForgotten g x
forgotten-so g x row over is = record {
  over = over;
  homeless = λ h.
      let session = is.desk.sessions.each h in
      ap (λ life. ((view_on g).held (name_at x.number h life)).home) session.life
      ∙ ap (λ (held : Held). held.home) session.held
      ∙ (over-in g x row (is_ended row.desk.seat.phase) over is.phase).homeless h;
}

pub home-links : (t now : Tabled) → ((l : LinkId) → now.links l ≡ t.links l) → (l : LinkId) (n : SessionName) (server : Server)
    → IsHome t l n server → IsHome now l n server
home-links t now links l n server is = record { there = links l ∙ is.there; carries = is.carries; present = is.present; whole = is.whole }

module _ (in_work : InWork) (stay : RowsStay) (service : Service) (g : Ground) (t now : Tabled) (c : ClientNo) (row : Client)
    (was : Stands service g t) (over : g.over c ≡ true) (there : t.clients c ≡ Some row)
    (same : IsSame now (number_put row.desk.seat.link None (client_put c None t))) where
  abbrev link : LinkId
  link = row.desk.seat.link

  found : (client : tales.Client) × IsKnown g c client
  found = was.clients.known c row there

  own : IsClient g found.0 row
  own = subst (λ (r : Option Client). IsClientOr g found.0 r) (ap t.clients found.1.number ∙ there) (at-known g t c found.0 was.clients found.1).row

  linked : found.0.link ≡ link
  linked = sym own.who.link

  is_over : IsOver g found.0 row
  is_over = over-in g found.0 row (is_ended row.desk.seat.phase) (ap g.over found.1.number ∙ over) own.phase

  row-gone : (n : ClientNo) → is_client c n ≡ true → now.clients n ≡ None
  row-gone n is = ap now.clients (sym (client-true c n is)) ∙ same.clients c ∙ put-same c None t

  row-stays : (n : ClientNo) → is_client c n ≡ false → now.clients n ≡ t.clients n
  row-stays n is = same.clients n ∙ put-other c n None t is

  number-gone : (l : LinkId) → is_link_id link l ≡ true → now.numbers l ≡ None
  number-gone l is = same.numbers l ∙ ap (λ (b : Bool). if b then None else t.numbers l) is

  number-stays : (l : LinkId) → is_link_id link l ≡ false → now.numbers l ≡ t.numbers l
  number-stays l is = same.numbers l ∙ ap (λ (b : Bool). if b then None else t.numbers l) is

  -- clients

  row-at : (x : tales.Client) (b : Bool) → is_client c x.number ≡ b → IsAt g t x → IsClientOr g x (now.clients x.number)
  row-at x true is at =
      let same_number = client-true c x.number is in
      let stood : IsClient g x row = subst (λ (r : Option Client). IsClientOr g x r) (ap t.clients (sym same_number) ∙ there) at.row in
      subst (λ (r : Option Client). IsClientOr g x r) (sym (row-gone x.number is)) (forgotten-so g x row (ap g.over (sym same_number) ∙ over) stood)
  row-at x false is at = subst (λ (r : Option Client). IsClientOr g x r) (sym (row-stays x.number is)) at.row

  number-at : (x : tales.Client) → IsAt g t x → is_client c x.number ≡ false → (b : Bool) → is_link_id link x.link ≡ b → t.numbers x.link ≡ Some x.number
      → now.numbers x.link ≡ Some x.number
  number-at x at apart true is number =
      false-true (is_client c x.number) apart
      (one-link g t c found.0 x link found.1 linked at (link-same x.link link (sym (link-true link x.link is))))
  number-at x at apart false is number = number-stays x.link is ∙ number

  found-at : (x : tales.Client) → IsAt g t x → (b : Bool) → is_client c x.number ≡ b → is_some (now.clients x.number) ≡ true → now.numbers x.link ≡ Some x.number
  found-at x at true is some = false-true (is_some (now.clients x.number)) (ap is_some (row-gone x.number is)) some
  found-at x at false is some =
      number-at x at is (is_link_id link x.link) refl (at.found (sym (ap is_some (row-stays x.number is)) ∙ some))

  at-so : (x : tales.Client) → IsAt g t x → IsAt g now x
  at-so x at = record {
    row = row-at x (is_client c x.number) refl at;
    found = found-at x at (is_client c x.number) refl;
    aside = at.aside;
    alone = at.alone;
  }

  was-there : (n : ClientNo) (r : Client) (b : Bool) → is_client c n ≡ b → now.clients n ≡ Some r → t.clients n ≡ Some r
  was-there n r true is at = none-some (now.clients n) r (row-gone n is) at
  was-there n r false is at = sym (row-stays n is) ∙ at

  had-number : (l : LinkId) (n : ClientNo) (b : Bool) → is_link_id link l ≡ b → now.numbers l ≡ Some n → (is_link_id link l ≡ false) × (t.numbers l ≡ Some n)
  had-number l n true is at = none-some (now.numbers l) n (number-gone l is) at
  had-number l n false is at = (is, sym (number-stays l is) ∙ at)

  still-some : (l : LinkId) (n : ClientNo) (x : tales.Client) → is_link_id link l ≡ false → IsKnown g n x → x.link ≡ l → is_some (t.clients n) ≡ true
      → (b : Bool) → is_client c n ≡ b → is_some (now.clients n) ≡ true
  still-some l n x apart known has some true is =
      let same_one : found.0 ≡ x = one-known g n found.0 x (record { seated = found.1.seated; number = found.1.number ∙ client-true c n is }) known in
      false-true (is_link_id link l) apart (link-same link l (sym linked ∙ ap (λ (y : tales.Client). y.link) same_one ∙ has))
  still-some l n x apart known has some false is = ap is_some (row-stays n is) ∙ some

  clients-so : AreClients g now
  clients-so = record {
    counted = was.clients.counted;
    each = λ k d below. at-so (slice_index_or g.tale.clients k d) (was.clients.each k d below);
    known = λ n r at. was.clients.known n r (was-there n r (is_client c n) refl at);
    named = λ l n at.
        let had = had-number l n (is_link_id link l) refl at in
        let who = was.clients.named l n had.1 in
        (who.0, who.1, who.2, still-some l n who.0 had.0 who.1 who.2 who.3 (is_client c n) refl);
  }

  -- homes

  home-stays : (l : LinkId) (n : SessionName) (r : Client) → t.clients n.client ≡ Some r → (session_of r.desk n.hostgroup).home ≡ Some l
      → (b : Bool) → is_client c n.client ≡ b → now.clients n.client ≡ Some r
  home-stays l n r at home true is =
      let same_row : r ≡ row = same-some (t.clients c) r row (ap t.clients (client-true c n.client is) ∙ at) there in
      none-some (session_of r.desk n.hostgroup).home l
      (ap (λ (x : Client). (session_of x.desk n.hostgroup).home) same_row ∙ is_over.homeless n.hostgroup) home
  home-stays l n r at home false is = row-stays n.client is ∙ at

  homes-so : AreHomes g now
  homes-so = record {
    carried = λ n r h l at home.
        let old = was.homes.carried n r h l (was-there n r (is_client c n) refl at) home in
        (old.0, home-links t now same.links l _ old.0 old.1);
    home = λ l server n at carries present whole.
        let old = was.homes.home l server n (sym (same.links l) ∙ at) carries present whole in
        (old.0, home-stays l n old.0 old.1 old.2 (is_client c n.client) refl, old.2, old.3);
  }

  -- what links read

  read-so : (n : ClientNo) (b : Bool) → is_client c n ≡ b → IsGlanced t now n ⊎ AreIdle t now n
  read-so n true is =
      inr (record {
        was = λ old at. ap (λ (x : Client). x.desk.work) (same-some (t.clients c) old row (ap t.clients (client-true c n is) ∙ at) there) ∙ is_over.idle;
        is = λ new at. none-some (now.clients n) new (row-gone n is) at;
      })
  read-so n false is = inl (ap (option_map glance) (row-stays n is))

  forgets-row : Stands service g now
  forgets-row = record {
    service_is = was.service_is;
    room_is = was.room_is;
    clients = clients-so;
    servers = λ l. subst (λ (r : Option Server). IsServerOr g now l r) (sym (same.links l))
        (servers-read in_work g t now (λ n. read-so n (is_client c n) refl) stay l (t.links l) (was.servers l));
    homes = homes-so;
    lawful = was.lawful;
    prepared = λ x seated r at going. was.prepared x seated r (was-there x.number r (is_client c x.number) refl at) going;
    duly = was.duly;
  }

abbrev Alike : Type 0
Alike = (service : Service) (g : Ground) (t other : Tabled) → Stands service g t → IsSame other t → Stands service g other

pub forgets-so : InWork → RowsStay → Alike → (service : Service) (g : Ground) (t now : Tabled) (c : ClientNo) → Stands service g t → g.over c ≡ true
    → IsSame now (forgotten c t) → Stands service g now
forgets-so in_work stay alike service g t now c was over same = by (t.clients c) refl same where
  by : (row : Option Client) → t.clients c ≡ row → IsSame now (without c row t) → Stands service g now
  by None there so = alike service g t now was so
  by (Some row) there so = forgets-row in_work stay service g t now c row was over there so
