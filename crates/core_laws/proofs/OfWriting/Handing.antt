-- A client's work hands its form and its packets to a link, or has them back.
use Rattle.std.specs.Prelude.{◌≡◌, ◌<◌, ℕ, suc, Bool, true, false, is_some, nat_eq, if◌then◌else◌, All, List, Option, Some, None}
use Rattle.std.specs.Option.{option_map}
use Rattle.std.proofs.Common.{refl, sym, ap, ◌∙◌, subst, arith}
use Rattle.std.proofs.lemmas.Bool.{false≢true, true≢false}
use Rattle.std.proofs.lemmas.List.Elements.{All-weaker}
use Rattle.std.proofs.lemmas.Option.{none-some, same_Some}
use Rattle.client_session.specs.Setups.{Setup as Service}
use Rattle.private_model.proofs.Maps.{client_of, link_of}
use Rattle.private_model.specs.Names.{ClientNo, Hostgroup, LinkId}
use Rattle.private_model.specs.Story.{is_client, is_link_id}
use Rattle.log_story.specs.Owed.{name_of as message_named, number_of}
use Rattle.log_story.specs.Tale as tales
use Rattle.log_story.specs.Tale.{is_to_server}
use Rattle.link_state.specs.declared.wish.Command.{Command as Kind}
use Rattle.client_seat.specs.Seats.{is_ended}
use Rattle.client_desk.specs.Desks.{session_of}
use Rattle.client_desk.specs.declared.work.Work.{Work}
use Rattle.desk_laws.specs.Stands.{IsDesk}
use Rattle.row_laws.specs.Whose.{name_in}
use Rattle.core_tables.specs.Beginning.{with_work}
use Rattle.core_tables.specs.Tables.{Tabled}
use Rattle.core_tables.specs.declared.client.Client.{Client}
use Rattle.core_tables.specs.declared.server.Server.{Server}
use Rattle.core_stands.specs.Clients.{IsClient, IsClientOr, IsPhase, IsWorking, IsWorkingOr}
use Rattle.core_stands.specs.Grounds.{Ground, view_on}
use Rattle.core_stands.specs.Servers.{IsServer, IsServerOr}
use Rattle.core_stands.specs.Stands.{AreClients, IsAt, Stands}
use Rattle.core_laws.proofs.OfWriting.Framing.{CarriedOf, HomeOf, Kept, Older, Reads, SameHomes, flipped, homes_on, server_on}
use Rattle.core_laws.proofs.OfWriting.Knowing.{going, is_servers, working}
use Rattle.core_laws.proofs.OfWriting.Moving.{clients_made}
use Rattle.core_laws.proofs.OfWriting.Nexts.{onward_none}
use Rattle.core_laws.proofs.OfWriting.Sending.{by_to_server, servers_made}
use Rattle.core_laws.proofs.OfWriting.Stated.{not_ended}
use Rattle.core_laws.proofs.OfPrepared.Rows.{RowOf, are_prepared, owns_stay, row_itself, row_seated}

-- of a work nothing else changes than its form and its body
pub record SameWork (work other : Work) : Type 0 where
  pub ordinal : other.ordinal ≡ work.ordinal
  pub key : other.key ≡ work.key
  pub hostgroup : other.hostgroup ≡ work.hostgroup
  pub sent : other.sent ≡ work.sent
  pub command : other.command ≡ work.command

module _ (service : Service) (g : Ground) (t now : Tabled) (l : LinkId) (server server_now : Server) (c : ClientNo) (row : Client) (work other : Work)
    (stands : Stands service g t) (there : t.links l ≡ Some server) (row_there : t.clients c ≡ Some row) (in_work : row.desk.work ≡ Some work) (same : SameWork work other)
    (here : now.clients c ≡ Some (with_work (Some other) row)) (apart : (k : ClientNo) → nat_eq c.0 k.0 ≡ false → now.clients k ≡ t.clients k)
    (numbers : (k : LinkId) → now.numbers k ≡ t.numbers k) (link_now : now.links l ≡ Some server_now)
    (links : (k : LinkId) → is_link_id k l ≡ false → now.links k ≡ t.links k)
    (carries : name_in server_now.row.link.state.carries ≡ name_in server.row.link.state.carries) (left : server_now.row.left ≡ server.row.left)
    (lost : server_now.row.lost ≡ server.row.lost)
    (desk : (client : tales.Client) → IsDesk g.setup.reads (view_on g) client.number row.desk
    → IsDesk g.setup.reads (view_on g) client.number (record row.desk { work = Some other })) where
  abbrev row_now : Client
  row_now = with_work (Some other) row

  -- what links read of it

  first_by : (k : ClientNo) (is_c : Bool) → nat_eq c.0 k.0 ≡ is_c → (r : Client) (w : Work) → now.clients k ≡ Some r → r.desk.work ≡ Some w → Older t k r w
  first_by k false e r w at in_r = record { row_was = r; there = sym (apart k e) ∙ at; work_was = w; in_work = in_r; ordinal = refl; first = refl }
  first_by k true e r w at in_r =
      let k_is : c ≡ k = client_of c k e in
      let made : row_now ≡ r = same_Some row_now r (sym here ∙ ap now.clients k_is ∙ at) in
      let made_work : other ≡ w = same_Some other w (ap (λ (x : Client). x.desk.work) made ∙ in_r) in
      record {
        row_was = row;
        there = ap t.clients (sym k_is) ∙ row_there;
        work_was = work;
        in_work = in_work;
        ordinal = sym same.ordinal ∙ ap (λ (x : Work). x.ordinal) made_work;
        first = ap (λ (x : Client). x.desk.seat.first) made;
      }

  kept_by : (k : ClientNo) (is_c : Bool) → nat_eq c.0 k.0 ≡ is_c → (r : Client) (w : Work) → t.clients k ≡ Some r → r.desk.work ≡ Some w → Kept now k r w
  kept_by k false e r w at in_r =
      record { row_now = r; there = apart k e ∙ at; work_now = w; in_work = in_r; ordinal = refl; sent = refl; hostgroup = refl; first = refl; coming = refl }
  kept_by k true e r w at in_r =
      let k_is : c ≡ k = client_of c k e in
      let made : row ≡ r = same_Some row r (sym row_there ∙ ap t.clients k_is ∙ at) in
      let made_work : work ≡ w = same_Some work w (sym in_work ∙ ap (λ (x : Client). x.desk.work) made ∙ in_r) in
      record {
        row_now = row_now;
        there = ap now.clients (sym k_is) ∙ here;
        work_now = other;
        in_work = refl;
        ordinal = same.ordinal ∙ ap (λ (x : Work). x.ordinal) made_work;
        sent = same.sent ∙ ap (λ (x : Work). x.sent) made_work;
        hostgroup = same.hostgroup ∙ ap (λ (x : Work). x.hostgroup) made_work;
        first = ap (λ (x : Client). x.desk.seat.first) made;
        coming = ap (λ (x : Client). x.desk.seat.outbox.coming) made;
      }

  pub reads : Reads t now
  reads = record {
    firsts = λ k r w at in_r. first_by k (nat_eq c.0 k.0) refl r w at in_r;
    kept = λ k r w at in_r out. kept_by k (nat_eq c.0 k.0) refl r w at in_r;
  }

  -- the client

  client_is : (client : tales.Client) → IsClient g client row → IsClient g client row_now
  client_is client is =
      let goes = going g client row work in_work is in
      let works = working g client row work in_work goes in
      record {
        who = is.who;
        heard = is.heard;
        owed = is.owed;
        desk = desk client is.desk;
        coming = is.coming;
        phase = subst (λ (ended : Bool). IsPhase ended g client row_now) (sym (not_ended (is_ended row.desk.seat.phase) g client row work in_work is.phase)) (record {
          going = goes.going;
          earlier = goes.earlier;
          answered = goes.answered;
          went = goes.went;
          busy = ap is_some (sym in_work) ∙ goes.busy;
          working = record {
            last = same.ordinal ∙ works.last;
            went = works.went ∙ ap (λ (h : Hostgroup). Some h) (sym same.hostgroup);
            number = λ prepares.
                let next = works.number (sym same.command ∙ prepares) in
                (ap (λ (k : ℕ). number_of g.plan (message_named client k)) same.ordinal ∙ next.0, next.1);
            only = λ some.
                same.command
                ∙ works.only (subst (λ (k : ℕ). 0 < number_of g.plan (message_named client k)) same.ordinal some);
            prepares = λ prepares. works.prepares (sym same.command ∙ prepares);
            keyed = λ prepares route routed. works.keyed (sym same.command ∙ prepares) route routed ∙ sym same.key;
            first = works.first;
            unsent = λ waits. works.unsent (sym same.sent ∙ waits);
            there = λ out.
                ap (λ (h : Hostgroup). (session_of row.desk h).home) same.hostgroup ∙ works.there (sym same.sent ∙ out)
                ∙ ap (λ (k : ℕ). (view_on g).carriers (message_named client k)) (sym same.ordinal);
          };
          unmoved = goes.unmoved;
          collation = goes.collation;
          account = goes.account;
        });
      }

  at_by : (client : tales.Client) → IsAt g t client → (is_c : Bool) → is_client client.number c ≡ is_c → IsAt g now client
  at_by client at true e =
      let number = client_of client.number c e in
      record {
        row = subst (λ (x : Option Client). IsClientOr g client x) (sym (ap now.clients number ∙ here))
            (client_is client (subst (λ (x : Option Client). IsClientOr g client x) (ap t.clients number ∙ row_there) at.row));
        found = λ some. numbers client.link ∙ at.found (ap is_some (ap t.clients number ∙ row_there));
        aside = at.aside;
        alone = at.alone;
      }
  at_by client at false e =
      let unchanged : now.clients client.number ≡ t.clients client.number = apart client.number (flipped client.number.0 c.0 e) in
      record {
        row = subst (λ (x : Option Client). IsClientOr g client x) (sym unchanged) at.row;
        found = λ some. numbers client.link ∙ at.found (ap is_some (sym unchanged) ∙ some);
        aside = at.aside;
        alone = at.alone;
      }

  some_by : (k : ClientNo) (is_c : Bool) → nat_eq c.0 k.0 ≡ is_c → is_some (now.clients k) ≡ is_some (t.clients k)
  some_by k false e = ap is_some (apart k e)
  some_by k true e =
      let k_is : c ≡ k = client_of c k e in
      ap (λ (x : ClientNo). is_some (now.clients x)) (sym k_is) ∙ ap is_some here ∙ sym (ap is_some row_there) ∙ ap (λ (x : ClientNo). is_some (t.clients x)) k_is

  -- homes

  was_by : (k : ClientNo) (r : Client) → now.clients k ≡ Some r → (is_c : Bool) → nat_eq c.0 k.0 ≡ is_c → HomeOf t k r
  was_by k r at false e = record { row_there = r; there = sym (apart k e) ∙ at; sessions = λ h. refl }
  was_by k r at true e =
      let k_is : c ≡ k = client_of c k e in
      let made : row_now ≡ r = same_Some row_now r (sym here ∙ ap now.clients k_is ∙ at) in
      record { row_there = row; there = ap t.clients (sym k_is) ∙ row_there; sessions = λ h. ap (λ (x : Client). session_of x.desk h) made }

  is_by : (k : ClientNo) (r : Client) → t.clients k ≡ Some r → (is_c : Bool) → nat_eq c.0 k.0 ≡ is_c → HomeOf now k r
  is_by k r at false e = record { row_there = r; there = apart k e ∙ at; sessions = λ h. refl }
  is_by k r at true e =
      let k_is : c ≡ k = client_of c k e in
      let made : row ≡ r = same_Some row r (sym row_there ∙ ap t.clients k_is ∙ at) in
      record { row_there = row_now; there = ap now.clients (sym k_is) ∙ here; sessions = λ h. ap (λ (x : Client). session_of x.desk h) made }

  link_was : (k : LinkId) (s : Server) → now.links k ≡ Some s → (is_l : Bool) → is_link_id k l ≡ is_l → CarriedOf t k s
  link_was k s at false e = record { server_there = s; there = sym (links k e) ∙ at; carries = refl; left = refl; lost = refl }
  link_was k s at true e =
      let k_is = link_of k l e in
      let made : server_now ≡ s = same_Some server_now s (sym link_now ∙ ap now.links (sym k_is) ∙ at) in
      record {
        server_there = server;
        there = ap t.links k_is ∙ there;
        carries = sym carries ∙ ap (λ (x : Server). name_in x.row.link.state.carries) made;
        left = sym left ∙ ap (λ (x : Server). x.row.left) made;
        lost = sym lost ∙ ap (λ (x : Server). x.row.lost) made;
      }

  link_is : (k : LinkId) (s : Server) → t.links k ≡ Some s → (is_l : Bool) → is_link_id k l ≡ is_l → CarriedOf now k s
  link_is k s at false e = record { server_there = s; there = links k e ∙ at; carries = refl; left = refl; lost = refl }
  link_is k s at true e =
      let k_is = link_of k l e in
      let made : server ≡ s = same_Some server s (sym there ∙ ap t.links (sym k_is) ∙ at) in
      record {
        server_there = server_now;
        there = ap now.links k_is ∙ link_now;
        carries = carries ∙ ap (λ (x : Server). name_in x.row.link.state.carries) made;
        left = left ∙ ap (λ (x : Server). x.row.left) made;
        lost = lost ∙ ap (λ (x : Server). x.row.lost) made;
      }

  row_before : (k : ClientNo) (r : Client) → now.clients k ≡ Some r → is_ended r.desk.seat.phase ≡ false → (is_c : Bool) → nat_eq c.0 k.0 ≡ is_c → RowOf t k r
  row_before k r at going false e = row_itself t k r (sym (apart k e) ∙ at) going
  row_before k r at going true e =
      let k_is : c ≡ k = client_of c k e in
      let made : row_now ≡ r = same_Some row_now r (sym here ∙ ap now.clients k_is ∙ at) in
      row_seated t k row r (ap t.clients (sym k_is) ∙ row_there) (ap (λ (x : Client). x.desk.seat) (sym made)) going

  pub stands_handed : IsServer g now l server_now.row → Stands service g now
  stands_handed is = record {
    service_is = stands.service_is;
    room_is = stands.room_is;
    clients = clients_made g g.tale t now refl numbers (λ k. some_by k (nat_eq c.0 k.0) refl)
        (All-weaker (IsAt g t) (IsAt g now) (λ client at. at_by client at (is_client client.number c) refl) g.tale.clients stands.clients.each) stands.clients;
    servers = servers_made g g t now l server_now link_now
        (by_to_server (is_to_server g.tale l) g now l server_now (is_servers service g t l server stands there) is)
        (λ k k_apart.
        subst (λ (x : Option Server). IsServerOr g now k x) (sym (links k k_apart))
        (server_on g t now l g.tale (onward_none g l) reads k k_apart (t.links k) (stands.servers k)));
    homes = homes_on g g t now (record {
      was = λ k r at. was_by k r at (nat_eq c.0 k.0) refl;
      is = λ k r at. is_by k r at (nat_eq c.0 k.0) refl;
      link_was = λ k s at. link_was k s at (is_link_id k l) refl;
      link_is = λ k s at. link_is k s at (is_link_id k l) refl;
    }) stands.homes;
    lawful = stands.lawful;
    prepared = are_prepared g g.tale g.over g.fresh t now stands.clients (λ m. refl) (owns_stay {g = g} {tale = g.tale} refl) stands.prepared (λ client seated. seated)
        (λ k r at going. row_before k r at going (nat_eq c.0 k.0) refl);
    duly = stands.duly;
  }
