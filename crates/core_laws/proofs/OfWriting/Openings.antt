-- A link to a server is opened.
use Rattle.std.specs.Prelude.{◌≡◌, ◌<◌, ℕ, Bool, true, false, ◌||◌, is_some, nat_eq, if◌then◌else◌, All, List, [], ◌∷◌, ◌++◌, Option, Some, None}
use Rattle.std.specs.List.{list_any}
use Rattle.std.specs.Option.{option_map}
use Rattle.std.proofs.Common.{refl, sym, ap, ◌∙◌, subst}
use Rattle.std.proofs.lemmas.Bool.{false≢true, true≢false}
use Rattle.std.proofs.lemmas.List.Elements.{All-weaker}
use Rattle.std.proofs.lemmas.List.Folds.{list_any-append}
use Rattle.std.proofs.lemmas.Option.{none-some, same_Some}
use Rattle.mx_base.specs.declared.names.Address.{Address}
use Rattle.mx_wire.specs.declared.entry.Entry.TheVariants.{Opened}
use Rattle.client_session.specs.Setups.{Setup as Service}
use Rattle.server_side.specs.Account.{Account as Login}
use Rattle.private_model.proofs.Maps.{link_of, same_link, same_number}
use Rattle.private_model.specs.Names.{ClientNo, LinkId, ServerId, SessionName}
use Rattle.private_model.specs.Story.{is_link_id, put}
use Rattle.private_model.specs.View.{Link, Setup, no_link}
use Rattle.log_story.specs.Plan.{Plan}
use Rattle.log_story.specs.Tale as tales
use Rattle.log_story.specs.Tale.{Tale, is_to_server, link_in, new_wire, view_of, with_wire}
use Rattle.log_story.specs.Telling.{told}
use Rattle.link_laws.specs.Stands.{Codes}
use Rattle.client_seat.specs.Seats.{is_ended}
use Rattle.client_seat.specs.declared.phase.Phase.{Phase}
use Rattle.client_seat.specs.declared.phase.Phase.TheVariants as phase
use Rattle.client_seat.specs.declared.seat.Seat.{Seat}
use Rattle.client_desk.specs.Desks.{session_of}
use Rattle.client_desk.specs.declared.work.Work.{Work}
use Rattle.served_link.specs.Rows.{new_row}
use Rattle.served_link.specs.declared.row.Opening.{Opening}
use Rattle.served_link.specs.declared.row.Row.{Row}
use Rattle.row_laws.specs.Rows.{IsRowIn}
use Rattle.row_laws.specs.Whose.{name_in}
use Rattle.core_tables.specs.Tables.{Tabled, link_put}
use Rattle.core_tables.specs.Writing.{opened}
use Rattle.core_tables.specs.declared.client.Client.{Client}
use Rattle.core_tables.specs.declared.server.Server.{Server}
use Rattle.core_stands.specs.Clients.{IsClient, IsClientOr, IsForgotten, IsGoing, IsOver, IsOwing, IsPhase, IsWorking, IsWorkingOr}
use Rattle.core_stands.specs.Grounds.{Ground, on, view_on}
use Rattle.core_stands.specs.Servers.{IsServer, IsServerBy, IsServerOr, IsStandingAt}
use Rattle.core_stands.specs.Stands.{AreClients, AreHomes, IsAt, IsHome, Stands}
use Rattle.core_laws.proofs.OfWriting.Framing.{Onward, flipped, same_reads, server_on}
use Rattle.core_laws.proofs.OfWriting.Moving.{clients_made}
use Rattle.core_laws.proofs.OfWriting.Sending.{servers_made}
use Rattle.core_laws.proofs.OfPrepared.Rows.{are_prepared, owns_stay, rows_same}

-- row_laws' rows_open
abbrev pub RowsOpen : Type 0
RowsOpen = (setup : Setup) (codes : Codes) (plan : Plan) (tale : Tale) (server : ServerId) (address : Address) (l : LinkId)
    (opening : Opening) (now : ℕ) → (view_of setup tale).links l ≡ no_link → opening.server ≡ server
    → IsRowIn setup codes plan (told setup plan tale (Opened server address l)) l (new_row opening (plan.logins l) now)

put_apart : {A : Type 0} (f : LinkId → A) (l : LinkId) (x : A) (k : LinkId) → is_link_id k l ≡ false → put is_link_id f l x k ≡ f k
put_apart f l x k apart = ap (λ (same : Bool). if same then x else f k) apart

or_false : (a : Bool) → (a || false) ≡ a
or_false true = refl
or_false false = refl

by_to_server : (to_server : Bool) (after : Ground) (now : Tabled) (l : LinkId) (server : Server) → to_server ≡ true → IsServer after now l server.row
    → IsServerBy to_server after now l (Some server)
by_to_server true after now l server is_true is = is
by_to_server false after now l server is_true is = absurd (false≢true is_true)

none_by : (to_server : Bool) (g : Ground) (t : Tabled) (l : LinkId) (row : Option Server) → to_server ≡ false → IsServerBy to_server g t l row → row ≡ None
none_by false g t l row same is = is
none_by true g t l row same is = absurd (true≢false same)

module _ (rows : RowsOpen) (service : Service) (g : Ground) (t : Tabled) (server : ServerId) (address : Address) (l : LinkId) (slot : ℕ) (opening : Opening) (at_ms : ℕ)
    (stands : Stands service g t) (new_link : is_to_server g.tale l ≡ false) (unborn : link_in g.setup g.tale l ≡ no_link)
    (apart : All (λ (client : tales.Client). is_link_id client.link l ≡ false) g.tale.clients) (of_server : opening.server ≡ server) where
  abbrev tale : Tale
  tale = told g.setup g.plan g.tale (Opened server address l)

  abbrev after : Ground
  after = on g tale

  abbrev row : Row
  row = new_row opening (g.plan.logins l) at_ms

  abbrev there : Server
  there = record { row = row; slot = slot; spot = None }

  abbrev now : Tabled
  now = opened l slot opening (g.plan.logins l) at_ms t

  to_server_end : (k : LinkId) (here : Bool) → is_link_id k l ≡ here → is_to_server tale k ≡ (is_to_server g.tale k || here)
  to_server_end k here e =
      list_any-append (is_link_id k) g.tale.links (l ∷ [])
      ∙ ap (λ (b : Bool). is_to_server g.tale k || b) (or_false (is_link_id k l) ∙ e)

  or_true : (a : Bool) → (a || true) ≡ true
  or_true true = refl
  or_true false = refl

  onward : Onward g l tale
  onward = record {
    clients = refl;
    to_servers = λ other other_apart. to_server_end other false other_apart ∙ or_false (is_to_server g.tale other);
    wires = λ other other_apart. put_apart g.tale.wires l (new_wire server) other other_apart;
    links = λ other other_apart. refl;
    lives = refl;
    pin = λ n. refl;
    id = λ n. refl;
    lasting = λ n earlier. refl;
    dues = λ n due at. at;
    carriers = λ m other at. at;
    replies = refl;
    ahead = λ other n apart carries ahead. ahead;
  }

  -- clients

  working_on : (client : tales.Client) (r : Client) (work : Option Work) → IsWorkingOr g client r work → IsWorkingOr after client r work
  working_on client r None is = is
  working_on client r (Some work) is =
      record { last = is.last; went = is.went; number = is.number; only = is.only; prepares = is.prepares; keyed = is.keyed; first = is.first; unsent = is.unsent; there = is.there }

  owing_on : (client : tales.Client) (seat : Seat) (at : Phase) (fresh : Bool) → IsOwing at fresh g client seat → IsOwing at fresh after client seat
  owing_on client seat phase.LoggingIn true is = tt
  owing_on client seat phase.LoggingIn false is = is
  owing_on client seat (phase.Serving login) fresh is = is
  owing_on client seat phase.Ended fresh is = is

  phase_on : (client : tales.Client) (r : Client) (ended : Bool) → IsPhase ended g client r → IsPhase ended after client r
  phase_on client r true is = record { over = is.over; idle = is.idle; told = is.told; homeless = is.homeless }
  phase_on client r false is = record {
    going = is.going;
    earlier = is.earlier;
    answered = is.answered;
    went = is.went;
    busy = is.busy;
    working = working_on client r r.desk.work is.working;
    unmoved = is.unmoved;
    account = is.account;
    collation = is.collation;
  }

  client_on : (client : tales.Client) (r : Option Client) → IsClientOr g client r → IsClientOr after client r
  client_on client None is = record { over = is.over; homeless = is.homeless }
  client_on client (Some r) is = record {
    who = is.who;
    heard = is.heard;
    owed = owing_on client r.desk.seat r.desk.seat.phase (g.fresh client.number) is.owed;
    desk = is.desk;
    coming = is.coming;
    phase = phase_on client r (is_ended r.desk.seat.phase) is.phase;
  }

  at_on : (client : tales.Client) → is_link_id client.link l ≡ false → IsAt g t client → IsAt after now client
  at_on client other at = record {
    row = client_on client (t.clients client.number) at.row;
    found = at.found;
    aside = to_server_end client.link false other ∙ or_false (is_to_server g.tale client.link) ∙ at.aside;
    alone = at.alone;
  }

  each_on : All (IsAt after now) g.tale.clients
  each_on = λ k d within. at_on _ (apart k d within) (stands.clients.each k d within)

  -- links

  there_now : now.links l ≡ Some there
  there_now = ap (λ (same : Bool). if same then Some there else t.links l) (same_number l.0)

  others_now : (k : LinkId) → is_link_id k l ≡ false → now.links k ≡ t.links k
  others_now k e = ap (λ (same : Bool). if same then Some there else t.links k) (flipped k.0 l.0 e)

  none_there : t.links l ≡ None
  none_there = none_by (is_to_server g.tale l) g t l (t.links l) new_link (stands.servers l)

  server_now : IsServer after now l row
  server_now = record {
    row = rows g.setup g.codes g.plan g.tale server address l opening at_ms unborn of_server;
    user = refl;
    found_rows = refl;
    standing = subst (λ (k : Link). IsStandingAt k.stage after l) (sym unborn) tt;
    next = tt;
    lent = λ kept mine unstated. tt;
    parted = λ sound kept left. tt;
    replying = λ sound kept mine. tt;
  }

  -- homes

  not_new : (k : LinkId) (s : Server) → t.links k ≡ Some s → (here : Bool) → is_link_id k l ≡ here → here ≡ false
  not_new k s at false e = refl
  not_new k s at true e = absurd (none-some s (sym none_there ∙ ap t.links (sym (link_of k l e)) ∙ at))

  home_by : (k : LinkId) (s : Server) (n : SessionName) → now.links k ≡ Some s → name_in s.row.link.state.carries ≡ Some n → (here : Bool) → is_link_id k l ≡ here
      → t.links k ≡ Some s
  home_by k s n at carries false e = sym (others_now k e) ∙ at
  home_by k s n at carries true e =
      let same : there ≡ s = same_Some there s (sym there_now ∙ ap now.links (sym (link_of k l e)) ∙ at) in
      absurd (none-some n (ap (λ (x : Server). name_in x.row.link.state.carries) same ∙ carries))

  homes_on : AreHomes after now
  homes_on = record {
    carried = λ c r h k at has.
        let was = stands.homes.carried c r h k at has in (
          was.0,
          record {
            there = others_now k (not_new k was.0 was.1.there (is_link_id k l) refl) ∙ was.1.there;
            carries = was.1.carries;
            present = was.1.present;
            whole = was.1.whole;
          },
        );
    home = λ k s n at carries mine kept. stands.homes.home k s n (home_by k s n at carries (is_link_id k l) refl) carries mine kept;
  }

  pub opens : Stands service after now
  opens = record {
    service_is = stands.service_is;
    room_is = stands.room_is;
    clients = clients_made g tale t now refl (λ k. refl) (λ c. refl) each_on stands.clients;
    servers = servers_made g after t now l there there_now
        (by_to_server (is_to_server tale l) after now l there (to_server_end l true (same_link l) ∙ or_true (is_to_server g.tale l)) server_now)
        (λ other other_apart.
        subst (λ (x : Option Server). IsServerOr after now other x) (sym (others_now other other_apart))
        (server_on g t now l tale onward (same_reads t now (λ c. refl)) other other_apart (t.links other) (stands.servers other)));
    homes = homes_on;
    lawful = stands.lawful;
    prepared = are_prepared g tale g.over g.fresh t now stands.clients (λ m. refl) (owns_stay {g = g} {tale = tale} refl) stands.prepared (λ client seated. seated) (rows_same t now (λ c. refl));
    duly = stands.duly;
  }
