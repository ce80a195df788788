-- Tables that differ only in what no tale tells stand for the same: notes of clients, and for whom links are readied or where they may be lent.
use Rattle.std.specs.Prelude.{◌≡◌, ℕ, Bool, true, false, nat_eq, is_some, Option, Some, None, if◌then◌else◌}
use Rattle.std.specs.Option.{option_map}
use Rattle.std.proofs.Common.{refl, sym, ap, ◌∙◌, subst}
use Rattle.std.proofs.lemmas.List.Elements.{All-weaker}
use Rattle.std.proofs.lemmas.Option.{none-some, same_Some}
use Rattle.client_session.specs.Setups.{Setup as Service}
use Rattle.private_model.proofs.Maps.{client_of, link_of}
use Rattle.private_model.specs.Names.{ClientNo, LinkId, SessionName}
use Rattle.private_model.specs.View.{Link}
use Rattle.log_story.specs.Tale as tales
use Rattle.log_story.specs.Tale.{is_to_server, link_in}
use Rattle.link_state.specs.declared.asking.Asking.{Asking}
use Rattle.link_state.specs.declared.asking.Purpose.{Purpose}
use Rattle.link_state.specs.declared.asking.Purpose.TheVariants as purposes
use Rattle.link_state.specs.declared.state.Stage.{Stage}
use Rattle.link_state.specs.declared.state.Stage.TheVariants.{Quiet, Asked, Answered}
use Rattle.lent_link.specs.declared.link.Begins.{Begins}
use Rattle.lent_link.specs.declared.link.Begins.TheVariants as begins
use Rattle.served_link.specs.Rows.{readied_for}
use Rattle.served_link.specs.declared.row.Row.{Row}
use Rattle.row_laws.specs.Whose.{name_in}
use Rattle.client_seat.specs.Seats.{is_ended}
use Rattle.client_desk.specs.Desks.{session_of}
use Rattle.client_desk.specs.declared.desk.Desk.{Desk}
use Rattle.client_desk.specs.declared.work.Work.{Work}
use Rattle.core_tables.specs.Beginning.{with_row}
use Rattle.core_tables.specs.Noting.{noted, readied, shelved, with_note, with_spot}
use Rattle.core_tables.specs.Tables.{Tabled, link_changed}
use Rattle.core_tables.specs.declared.client.Client.{Client}
use Rattle.core_tables.specs.declared.client.ClientNote.{ClientNote}
use Rattle.core_tables.specs.declared.server.Server.{Server}
use Rattle.core_stands.specs.Clients.{IsClient, IsClientOr, IsPhase, IsWorkingOr}
use Rattle.core_stands.specs.Grounds.{Ground}
use Rattle.core_stands.specs.Servers.{IsNextFor, IsNextOf, IsNextStatement, IsReplyingAt, IsReplyingFor, IsServer, IsServerBy, IsServerOr}
use Rattle.core_stands.specs.Stands.{AreHomes, IsAt, Stands}
use Rattle.core_laws.proofs.OfParting.Freeing.{glanced_or}
use Rattle.core_laws.specs.parting.Frames.{KeepsOr, glance}
use Rattle.core_laws.proofs.OfPrepared.Rows.{are_prepared, owns_stay, row_seated}

-- A client's row with another note.

module _ (g : Ground) (client : tales.Client) (row : Client) (note : ClientNote) where
  abbrev now : Client
  now = with_note note row

  working_noted : (work : Option Work) → IsWorkingOr g client row work → IsWorkingOr g client now work
  working_noted None is = is
  working_noted (Some work) is = record {
    last = is.last;
    went = is.went;
    number = is.number;
    only = is.only;
    prepares = is.prepares;
    keyed = is.keyed;
    first = is.first;
    unsent = is.unsent;
    there = is.there;
  }

  phase_noted : (ended : Bool) → IsPhase ended g client row → IsPhase ended g client now
  phase_noted true is = record { over = is.over; idle = is.idle; told = is.told; homeless = is.homeless }
  phase_noted false is = record {
    going = is.going;
    earlier = is.earlier;
    answered = is.answered;
    went = is.went;
    busy = is.busy;
    working = working_noted row.desk.work is.working;
    unmoved = is.unmoved;
    account = is.account;
    collation = is.collation;
  }

  client_noted : IsClient g client row → IsClient g client now
  client_noted is = record {
    who = is.who;
    heard = is.heard;
    owed = is.owed;
    desk = is.desk;
    coming = is.coming;
    phase = phase_noted (is_ended row.desk.seat.phase) is.phase;
  }

-- The row of a link that is readied for another, or for nobody.

module _ (g : Ground) (t : Tabled) (l : LinkId) (row : Row) (who : Option ClientNo) where
  abbrev readied_row : Row
  readied_row = readied_for who row

  statement_readied : (n : SessionName) (ordinal : ℕ) (link : Link) (asking : Asking) → IsNextStatement g t row link asking n ordinal
      → IsNextStatement g t readied_row link asking n ordinal
  statement_readied n ordinal link asking is =
      record { said = is.said; first = is.first; asked = is.asked; number = is.number; taken_up = is.taken_up }

  for_readied : (purpose : Purpose) (link : Link) (asking : Asking) → IsNextFor purpose g t row link asking → IsNextFor purpose g t readied_row link asking
  for_readied (purposes.Statement n ordinal key) link asking is = statement_readied n ordinal link asking is
  for_readied (purposes.Prep n ordinal key) link asking is = record { said = is.said; told = is.told; taken_up = is.taken_up }
  for_readied (purposes.Sync n) link asking is = record { command = is.command; said = is.said }
  for_readied purposes.Own link asking is = record { command = is.command; said = is.said }
  for_readied (purposes.End n) link asking is = is
  for_readied (purposes.Capture n) link asking is = is

  next_readied : (next : Option Begins) (link : Link) → IsNextOf next g t row link → IsNextOf next g t readied_row link
  next_readied None link is = is
  next_readied (Some (begins.Asks asking)) link is = (is.0, for_readied asking.purpose link asking is.1)
  next_readied (Some (begins.Closes number)) link is = is
  next_readied (Some (begins.Resets number)) link is = is
  next_readied (Some begins.Quits) link is = is

  reply_readied : (purpose : Purpose) (asking : Asking) → IsReplyingFor purpose g t l row asking → IsReplyingFor purpose g t l readied_row asking
  reply_readied (purposes.Statement n ordinal key) asking is = record {
    client = is.client;
    work = is.work;
    there = is.there;
    in_work = is.in_work;
    last = is.last;
    sent = is.sent;
    hostgroup = is.hostgroup;
    number = is.number;
    first = is.first;
    coming = is.coming;
  }
  reply_readied (purposes.Prep n ordinal key) asking is = tt
  reply_readied (purposes.Sync n) asking is = tt
  reply_readied purposes.Own asking is = tt
  reply_readied (purposes.End n) asking is = tt
  reply_readied (purposes.Capture n) asking is = tt

  replying_readied : (stage : Stage) → IsReplyingAt stage g t l row → IsReplyingAt stage g t l readied_row
  replying_readied Quiet is = tt
  replying_readied (Asked asking) is = reply_readied asking.purpose asking is
  replying_readied (Answered asking) is = reply_readied asking.purpose asking is

  server_readied : IsServer g t l row → IsServer g t l readied_row
  server_readied is = record {
    row = is.row;
    user = is.user;
    found_rows = is.found_rows;
    standing = is.standing;
    next = next_readied row.link.next (link_in g.setup g.tale l) is.next;
    lent = is.lent;
    parted = is.parted;
    replying = λ sound whole mine. replying_readied row.link.state.stage (is.replying sound whole mine);
  }

-- So the tables differ.

abbrev pub IsNotedAs : (old new : Option Client) → Type 0
IsNotedAs None None = Unit {0}
IsNotedAs None (Some new) = ⊥
IsNotedAs (Some old) None = ⊥
IsNotedAs (Some old) (Some new) = new ≡ with_note new.note old

abbrev pub IsReadiedAs : (old new : Option Server) → Type 0
IsReadiedAs None None = Unit {0}
IsReadiedAs None (Some new) = ⊥
IsReadiedAs (Some old) None = ⊥
IsReadiedAs (Some old) (Some new) = new.row ≡ readied_for new.row.readied old.row

pub record IsAside (t now : Tabled) : Type 0 where
  pub clients : (c : ClientNo) → IsNotedAs (t.clients c) (now.clients c)
  pub numbers : (l : LinkId) → now.numbers l ≡ t.numbers l
  pub links : (l : LinkId) → IsReadiedAs (t.links l) (now.links l)

client_is : (g : Ground) (client : tales.Client) (a b : Option Client) → IsNotedAs a b → IsClientOr g client a → IsClientOr g client b
client_is g client None None same is = is
client_is g client None (Some b) same is = absurd same
client_is g client (Some a) None same is = absurd same
client_is g client (Some a) (Some b) same is = subst (λ (row : Client). IsClient g client row) (sym same) (client_noted g client a b.note is)

some_is : (a b : Option Client) → IsNotedAs a b → is_some b ≡ is_some a
some_is None None same = refl
some_is None (Some b) same = absurd same
some_is (Some a) None same = absurd same
some_is (Some a) (Some b) same = refl

glance_is : (a b : Option Client) → IsNotedAs a b → option_map glance b ≡ option_map glance a
glance_is None None same = refl
glance_is None (Some b) same = absurd same
glance_is (Some a) None same = absurd same
glance_is (Some a) (Some b) same = ap (λ (row : Client). Some (glance row)) same

pub record IsDesked (found : Option Client) (desk : Desk) : Type 0 where
  pub row : Client
  pub there : found ≡ Some row
  pub same : row.desk ≡ desk

before_client : (a b : Option Client) → IsNotedAs a b → (row : Client) → b ≡ Some row → IsDesked a row.desk
before_client None None same row there = absurd (none-some row there)
before_client None (Some b) same row there = absurd same
before_client (Some a) None same row there = absurd same
before_client (Some a) (Some b) same row there =
    record { row = a; there = refl; same = sym (ap (λ (r : Client). r.desk) same) ∙ ap (λ (r : Client). r.desk) (same_Some b row there) }

behind_client : (a b : Option Client) → IsNotedAs a b → (row : Client) → a ≡ Some row → IsDesked b row.desk
behind_client None None same row there = absurd (none-some row there)
behind_client None (Some b) same row there = absurd same
behind_client (Some a) None same row there = absurd same
behind_client (Some a) (Some b) same row there =
    record { row = b; there = refl; same = ap (λ (r : Client). r.desk) same ∙ ap (λ (r : Client). r.desk) (same_Some a row there) }

-- a row of a link that carries the same session as another
pub record IsRowed (found : Option Server) (row : Row) : Type 0 where
  pub server : Server
  pub there : found ≡ Some server
  pub carries : name_in server.row.link.state.carries ≡ name_in row.link.state.carries
  pub left : server.row.left ≡ row.left
  pub lost : server.row.lost ≡ row.lost

rowed : (found : Option Server) (server : Server) (row : Row) (who : Option ClientNo) → found ≡ Some server → server.row ≡ readied_for who row → IsRowed found row
rowed found server row who there same = record {
  server = server;
  there = there;
  carries = ap (λ (r : Row). name_in r.link.state.carries) same;
  left = ap (λ (r : Row). r.left) same;
  lost = ap (λ (r : Row). r.lost) same;
}

before_link : (a b : Option Server) → IsReadiedAs a b → (server : Server) → b ≡ Some server → IsRowed a server.row
before_link None None same server there = absurd (none-some server there)
before_link None (Some b) same server there = absurd same
before_link (Some a) None same server there = absurd same
before_link (Some a) (Some b) same server there =
    subst (λ (s : Server). IsRowed (Some a) s.row) (same_Some b server there)
    (rowed (Some a) a b.row a.row.readied refl (ap (λ (r : Row). readied_for a.row.readied r) (sym same)))

behind_link : (a b : Option Server) → IsReadiedAs a b → (server : Server) → a ≡ Some server → IsRowed b server.row
behind_link None None same server there = absurd (none-some server there)
behind_link None (Some b) same server there = absurd same
behind_link (Some a) None same server there = absurd same
behind_link (Some a) (Some b) same server there =
    subst (λ (s : Server). IsRowed (Some b) s.row) (same_Some a server there) (rowed (Some b) b a.row b.row.readied refl same)

abbrev pub RowsStay : Type 0
RowsStay = (g : Ground) (t other : Tabled) (l : LinkId) (row : Option Server) → IsServerOr g t l row → KeepsOr t other row → IsServerOr g other l row

module _ (g : Ground) (t now : Tabled) (aside : IsAside t now) where
  at_aside : (client : tales.Client) → IsAt g t client → IsAt g now client
  at_aside client at = record {
    row = client_is g client (t.clients client.number) (now.clients client.number) (aside.clients client.number) at.row;
    found = λ there.
        aside.numbers client.link
        ∙ at.found (sym (some_is (t.clients client.number) (now.clients client.number) (aside.clients client.number)) ∙ there);
    aside = at.aside;
    alone = at.alone;
  }

  server_by : (to_server : Bool) (l : LinkId) (a b : Option Server) → IsReadiedAs a b → IsServerBy to_server g t l a → IsServerBy to_server g t l b
  server_by true l None None same is = is
  server_by true l None (Some b) same is = absurd same
  server_by true l (Some a) None same is = absurd same
  server_by true l (Some a) (Some b) same is =
      subst (λ (row : Row). IsServer g t l row) (sym same) (server_readied g t l a.row b.row.readied is)
  server_by false l None None same is = is
  server_by false l None (Some b) same is = absurd same
  server_by false l (Some a) b same is = absurd (none-some a (sym is))

  servers_aside : RowsStay → (l : LinkId) → IsServerOr g t l (t.links l) → IsServerOr g now l (now.links l)
  servers_aside stay l is =
      stay g t now l (now.links l) (server_by (is_to_server g.tale l) l (t.links l) (now.links l) (aside.links l) is)
      (glanced_or t now (λ c. glance_is (t.clients c) (now.clients c) (aside.clients c)) (now.links l))

  homes_aside : AreHomes g t → AreHomes g now
  homes_aside are = record {
    carried = λ c row h l there home.
        let old = before_client (t.clients c) (now.clients c) (aside.clients c) row there in
        let was = are.carried c old.row h l old.there (ap (λ (desk : Desk). (session_of desk h).home) old.same ∙ home) in
        let new = behind_link (t.links l) (now.links l) (aside.links l) was.0 was.1.there in (
          new.server,
          record {
            there = new.there;
            carries = new.carries ∙ was.1.carries
                ∙ ap (λ (desk : Desk). Some (record { client = c; hostgroup = h; life = (session_of desk h).life })) old.same;
            present = new.left ∙ was.1.present;
            whole = new.lost ∙ was.1.whole;
          },
        );
    home = λ l server n there carries mine whole.
        let old = before_link (t.links l) (now.links l) (aside.links l) server there in
        let was = are.home l old.server n old.there (old.carries ∙ carries) (old.left ∙ mine) (old.lost ∙ whole) in
        let new = behind_client (t.clients n.client) (now.clients n.client) (aside.clients n.client) was.0 was.1 in (
          new.row,
          new.there,
          ap (λ (desk : Desk). (session_of desk n.hostgroup).home) new.same ∙ was.2,
          ap (λ (desk : Desk). (session_of desk n.hostgroup).life) new.same ∙ was.3,
        );
  }

  pub stands_aside : RowsStay → (service : Service) → Stands service g t → Stands service g now
  stands_aside stay service is = record {
    service_is = is.service_is;
    room_is = is.room_is;
    clients = record {
      counted = is.clients.counted;
      each = All-weaker (IsAt g t) (IsAt g now) at_aside g.tale.clients is.clients.each;
      known = λ c row there. is.clients.known c (before_client (t.clients c) (now.clients c) (aside.clients c) row there).row
          (before_client (t.clients c) (now.clients c) (aside.clients c) row there).there;
      named = λ l c there.
          let was = is.clients.named l c (sym (aside.numbers l) ∙ there) in
          (was.0, was.1, was.2, some_is (t.clients c) (now.clients c) (aside.clients c) ∙ was.3);
    };
    servers = λ l. servers_aside stay l (is.servers l);
    homes = homes_aside is.homes;
    lawful = is.lawful;
    prepared = are_prepared g g.tale g.over g.fresh t now is.clients (λ m. refl) (owns_stay {g = g} {tale = g.tale} refl) is.prepared (λ client seated. seated)
        (λ c row there going.
        let old = before_client (t.clients c) (now.clients c) (aside.clients c) row there in
        row_seated t c old.row row old.there (ap (λ (desk : Desk). desk.seat) (sym old.same)) going);
    duly = is.duly;
  }

-- What is noted, readied and shelved is aside.

noted_itself : (a : Option Client) → IsNotedAs a a
noted_itself None = tt
noted_itself (Some a) = refl

noted_then : (note : ClientNote) (a : Option Client) → IsNotedAs a (option_map (with_note note) a)
noted_then note None = tt
noted_then note (Some a) = refl

readied_itself : (a : Option Server) → IsReadiedAs a a
readied_itself None = tt
readied_itself (Some a) = refl

readied_then : (who : Option ClientNo) (a : Option Server) → IsReadiedAs a (option_map (with_row (readied_for who)) a)
readied_then who None = tt
readied_then who (Some a) = refl

shelved_then : (spot : Option ℕ) (a : Option Server) → IsReadiedAs a (option_map (with_spot spot) a)
shelved_then spot None = tt
shelved_then spot (Some a) = refl

client_then : (t : Tabled) (c k : ClientNo) (by : Client → Client) → ((a : Option Client) → IsNotedAs a (option_map by a)) → (b : Bool) → nat_eq c.0 k.0 ≡ b
    → IsNotedAs (t.clients k) (if b then option_map by (t.clients c) else t.clients k)
client_then t c k by next false other = noted_itself (t.clients k)
client_then t c k by next true same =
    subst (λ (n : ClientNo). IsNotedAs (t.clients k) (option_map by (t.clients n))) (sym (client_of c k same)) (next (t.clients k))

link_then : (t : Tabled) (l k : LinkId) (by : Server → Server) → ((a : Option Server) → IsReadiedAs a (option_map by a)) → (b : Bool) → nat_eq l.0 k.0 ≡ b
    → IsReadiedAs (t.links k) (if b then option_map by (t.links l) else t.links k)
link_then t l k by next false other = readied_itself (t.links k)
link_then t l k by next true same =
    subst (λ (n : LinkId). IsReadiedAs (t.links k) (option_map by (t.links n))) (sym (link_of l k same)) (next (t.links k))

link_aside : (l : LinkId) (by : Server → Server) → ((a : Option Server) → IsReadiedAs a (option_map by a)) → (t : Tabled) → IsAside t (link_changed l by t)
link_aside l by next t = record {
  clients = λ c. noted_itself (t.clients c);
  numbers = λ k. refl;
  links = λ k. link_then t l k by next (nat_eq l.0 k.0) refl;
}

pub noted_aside : (c : ClientNo) (note : ClientNote) (t : Tabled) → IsAside t (noted c note t)
noted_aside c note t = record {
  clients = λ k. client_then t c k (with_note note) (noted_then note) (nat_eq c.0 k.0) refl;
  numbers = λ k. refl;
  links = λ k. readied_itself (t.links k);
}

pub readied_aside : (l : LinkId) (who : Option ClientNo) (t : Tabled) → IsAside t (readied l who t)
readied_aside l who t = link_aside l (with_row (readied_for who)) (readied_then who) t

pub shelved_aside : (l : LinkId) (spot : Option ℕ) (t : Tabled) → IsAside t (shelved l spot t)
shelved_aside l spot t = link_aside l (with_spot spot) (shelved_then spot) t
