-- What is told and changed on one link leaves other links and all clients as they stand.
use Rattle.std.specs.Prelude.{◌≡◌, ◌⊎◌, ◌<◌, ◌≤◌, ℕ, suc, Bool, true, false, not, ◌||◌, is_some, nat_eq, if◌then◌else◌, All, filter, List, [], ◌∷◌, Option, Some, None}
use Rattle.std.specs.List.{list_any}
use Rattle.std.specs.Option.{option_map}
use Rattle.std.proofs.Common.{refl, sym, ap, ◌∙◌, subst, arith, inl}
use Rattle.std.proofs.lemmas.Bool.{false≢true, true≢false}
use Rattle.std.proofs.lemmas.Option.{none-some, same_Some}
use Rattle.private_model.proofs.Maps.{link_of, same_number}
use Rattle.private_model.specs.Names.{ClientNo, Hostgroup, LinkId, MessageName, SessionName}
use Rattle.private_model.specs.Story as story
use Rattle.private_model.specs.Story.{Due, is_link_id}
use Rattle.private_model.specs.View as view
use Rattle.private_model.specs.View.{Link, View, session_in}
use Rattle.tale_world.specs.Tests.{is_told_key}
use Rattle.log_story.specs.Plan.{Plan}
use Rattle.log_story.specs.Servers.{reply_id}
use Rattle.log_story.specs.Tale as tales
use Rattle.log_story.specs.Tale.{Tale, Wire, is_to_server, link_in, view_of}
use Rattle.link_state.specs.declared.asking.Asking.{Asking}
use Rattle.link_state.specs.declared.asking.Purpose.{Purpose}
use Rattle.link_state.specs.declared.asking.Purpose.TheVariants as purposes
use Rattle.link_state.specs.declared.state.Stage.{Stage}
use Rattle.link_state.specs.declared.state.Stage.TheVariants.{Quiet, Asked, Answered}
use Rattle.lent_link.specs.declared.link.Begins.{Begins}
use Rattle.lent_link.specs.declared.link.Begins.TheVariants as begins
use Rattle.served_link.specs.declared.row.LeftSession.{LeftSession}
use Rattle.served_link.specs.declared.row.Row.{Row}
use Rattle.client_desk.specs.Desks.{session_of}
use Rattle.client_desk.specs.declared.work.Work.{Work}
use Rattle.step_laws.specs.Seats.{IsSeated, seats}
use Rattle.row_laws.specs.Begins.{IsReadied}
use Rattle.row_laws.specs.Whose.{IsHolder, IsLeft, IsUntouched, IsWhose, OfStatement, name_in}
use Rattle.row_laws.specs.Rows.{IsRow, IsRowBy, IsRowIn, Serves}
use Rattle.row_laws.proofs.Framing.{whose_on}
use Rattle.link_laws.specs.Stands.{Codes}
use Rattle.server_rule.specs.Classes.{Reads as Classes}
use Rattle.server_side.specs.Account.{Account as Login}
use Rattle.core_tables.specs.Tables.{Tabled, client_changed, link_changed}
use Rattle.core_tables.specs.declared.client.Client.{Client}
use Rattle.core_tables.specs.declared.server.Server.{Server}
use Rattle.core_stands.specs.Grounds.{Ground, on, view_on}
use Rattle.core_stands.specs.Servers.{IsFirst, IsPartedAt, IsPartedFor, IsTakenUp, IsNextFor, IsNextOf, IsReplying, IsReplyingAt, IsReplyingFor, IsServer, IsServerBy, IsServerOr, IsStanding, IsStandingAt, IsAhead, keyed_text}
use Rattle.core_stands.specs.Stands.{AreHomes, IsHome}
use Rattle.core_laws.proofs.OfParting.Ahead.{lent_on}
use Rattle.core_laws.proofs.OfParting.Named.{row_carries}
use Rattle.client_desk.specs.declared.session.Session.{Session}
use Rattle.link_state.specs.declared.state.Carried.{Carried}
use Rattle.link_state.specs.declared.state.Carried.TheVariants as carried
use Rattle.private_model.specs.Commands.{Reply}
use Rattle.reply_track.specs.Runs.{renumbered}
use Rattle.reply_track.specs.Tracking.{started}
use Rattle.row_laws.specs.Unread.{sought}
use Rattle.link_state.specs.Asks.{kind_of}

pub flipped : (a b : ℕ) → nat_eq a b ≡ false → nat_eq b a ≡ false
flipped a b apart = grind arith

-- Tables with a row changed.

pub link_here : (l : LinkId) (by : Server → Server) (t : Tabled) → (link_changed l by t).links l ≡ option_map by (t.links l)
link_here l by t = ap (λ (same : Bool). if same then option_map by (t.links l) else t.links l) (same_number l.0)

pub link_apart : (l other : LinkId) (by : Server → Server) (t : Tabled) → nat_eq l.0 other.0 ≡ false → (link_changed l by t).links other ≡ t.links other
link_apart l other by t apart = ap (λ (same : Bool). if same then option_map by (t.links l) else t.links other) apart

pub client_here : (c : ClientNo) (by : Client → Client) (t : Tabled) → (client_changed c by t).clients c ≡ option_map by (t.clients c)
client_here c by t = ap (λ (same : Bool). if same then option_map by (t.clients c) else t.clients c) (same_number c.0)

pub client_apart : (c other : ClientNo) (by : Client → Client) (t : Tabled) → nat_eq c.0 other.0 ≡ false → (client_changed c by t).clients other ≡ t.clients other
client_apart c other by t apart = ap (λ (same : Bool). if same then option_map by (t.clients c) else t.clients other) apart

-- A row whose session is kept as it was.

module _ (reads : Classes) (codes : Codes) (login : Login) (seen new : View) (row : Row) (wire : Wire) (link : Link)
    (whose : IsWhose seen row.link.state.carries row.left → IsWhose new row.link.state.carries row.left) where
  serves_after : Serves reads codes login seen row wire link → Serves reads codes login new row wire link
  serves_after is = record {
    entered = is.entered;
    inside = is.inside;
    account = is.account;
    server = is.server;
    usable = is.usable;
    state = is.state;
    quits = is.quits;
    step = is.step;
    stepless = is.stepless;
    written = is.written;
    bad = is.bad;
    well = is.well;
    unread = is.unread;
    cell = is.cell;
    whose = λ here. whose (is.whose here);
    own = is.own;
    shared = is.shared;
  }

  row_by : (entered : Bool) → IsRowBy entered reads codes login seen row wire link → IsRowBy entered reads codes login new row wire link
  row_by true is = serves_after is
  row_by false is = is

  pub row_after : IsRow reads codes login seen row wire link → IsRow reads codes login new row wire link
  row_after is = record { server = is.server; is = row_by wire.entered is.is }

-- What stands there was sent there still, and isn't answered.

module _ (g after : Ground) (l : LinkId) (carriers : (m : MessageName) → (view_on g).carriers m ≡ Some l → (view_on after).carriers m ≡ Some l)
    (replies : (view_on after).replies ≡ (view_on g).replies) where
  standing_of : (question : story.Question) → OfStatement question (IsStanding g l) → OfStatement question (IsStanding after l)
  standing_of (story.Statement n due) is = record {
    carrier = carriers (story.message_of n due) is.carrier;
    unanswered = ap (λ (f : MessageName → Option Reply). f (story.message_of n due)) replies ∙ is.unanswered;
  }
  standing_of (story.Prep n key text) is = tt
  standing_of (story.Sync n command) is = tt
  standing_of (story.Own command) is = tt
  standing_of (story.End n) is = tt
  standing_of (story.Capture n) is = tt

  pub standing_on : (stage : view.Stage) → IsStandingAt stage g l → IsStandingAt stage after l
  standing_on view.Quiet is = tt
  standing_on (view.Asked question) is = standing_of question is
  standing_on (view.Answered question) is = standing_of question is

-- What links read of clients: the ids of replies, and of sent statements all that is kept of the reply.

pub record Older (t : Tabled) (c : ClientNo) (row : Client) (work : Work) : Type 0 where
  pub row_was : Client
  pub there : t.clients c ≡ Some row_was
  pub work_was : Work
  pub in_work : row_was.desk.work ≡ Some work_was
  pub ordinal : work_was.ordinal ≡ work.ordinal
  pub first : row_was.desk.seat.first ≡ row.desk.seat.first

pub record Kept (t : Tabled) (c : ClientNo) (row : Client) (work : Work) : Type 0 where
  pub row_now : Client
  pub there : t.clients c ≡ Some row_now
  pub work_now : Work
  pub in_work : row_now.desk.work ≡ Some work_now
  pub ordinal : work_now.ordinal ≡ work.ordinal
  pub sent : work_now.sent ≡ work.sent
  pub hostgroup : work_now.hostgroup ≡ work.hostgroup
  pub first : row_now.desk.seat.first ≡ row.desk.seat.first
  pub coming : row_now.desk.seat.outbox.coming ≡ row.desk.seat.outbox.coming

pub record Reads (t now : Tabled) : Type 0 where
  pub firsts : (c : ClientNo) (row : Client) (work : Work) → now.clients c ≡ Some row → row.desk.work ≡ Some work → Older t c row work
  pub kept : (c : ClientNo) (row : Client) (work : Work) → t.clients c ≡ Some row → row.desk.work ≡ Some work → work.sent ≡ true → Kept now c row work

pub same_reads : (t now : Tabled) → ((c : ClientNo) → now.clients c ≡ t.clients c) → Reads t now
same_reads t now same = record {
  firsts = λ c row work there in_work.
      record { row_was = row; there = sym (same c) ∙ there; work_was = work; in_work = in_work; ordinal = refl; first = refl };
  kept = λ c row work there in_work sent.
      record { row_now = row; there = same c ∙ there; work_now = work; in_work = in_work; ordinal = refl; sent = refl; hostgroup = refl; first = refl; coming = refl };
}

-- What is told leaves other links, and what is kept of sessions.
pub record Onward (g : Ground) (l : LinkId) (tale : Tale) : Type 0 where
  pub clients : tale.clients ≡ g.tale.clients
  pub to_servers : (other : LinkId) → is_link_id other l ≡ false → is_to_server tale other ≡ is_to_server g.tale other
  pub wires : (other : LinkId) → is_link_id other l ≡ false → tale.wires other ≡ g.tale.wires other
  pub links : (other : LinkId) → is_link_id other l ≡ false → link_in g.setup tale other ≡ link_in g.setup g.tale other
  pub lives : (view_of g.setup tale).lives ≡ (view_on g).lives
  pub pin : (n : SessionName) → ((view_of g.setup tale).held n).pin ≡ ((view_on g).held n).pin
  pub id : (n : SessionName) → ((view_of g.setup tale).held n).id ≡ ((view_on g).held n).id
  pub lasting : (n : SessionName) → n.life < (view_on g).lives n.client n.hostgroup → (view_of g.setup tale).lasting n ≡ (view_on g).lasting n
  pub dues : (n : SessionName) (due : Due) → (view_of g.setup tale).dues n ≡ Some due → (view_on g).dues n ≡ Some due
  pub carriers : (m : MessageName) (other : LinkId) → (view_on g).carriers m ≡ Some other → (view_of g.setup tale).carriers m ≡ Some other
  pub replies : (view_of g.setup tale).replies ≡ (view_on g).replies
  pub ahead : (other : LinkId) (n : SessionName) → is_link_id other l ≡ false → session_in (link_in g.setup g.tale other).carries ≡ Some n
      → IsAhead (view_on g) n → IsAhead (view_of g.setup tale) n

module _ (g : Ground) (t now : Tabled) (l : LinkId) (tale : Tale) (onward : Onward g l tale) (reads : Reads t now) where
  abbrev seen : View
  seen = view_on g

  abbrev new : View
  new = view_of g.setup tale

  -- what is kept of the session of a link's row

  untouched : (n : SessionName) (left : Option LeftSession) → IsHolder seen n left → IsUntouched seen new n left
  untouched n None holds = ap (λ (lives : ClientNo → Hostgroup → ℕ). lives n.client n.hostgroup) onward.lives
  untouched n (Some left) holds = record {
    later = omega (arith, ap (λ (lives : ClientNo → Hostgroup → ℕ). lives n.client n.hostgroup) onward.lives);
    pin = onward.pin n;
    id = onward.id n;
    lasting = onward.lasting n holds.earlier;
  }

  holder_of : (n : SessionName) (c : Carried) (left : Option LeftSession) → name_in c ≡ Some n → IsWhose seen c left
      → IsHolder seen n left
  holder_of n carried.Nobody left named whose = absurd (none-some n named)
  holder_of n (carried.Lent m) left named whose = subst (λ (k : SessionName). IsHolder seen k left) (same_Some m n named) whose
  holder_of n (carried.Joined m) left named whose = subst (λ (k : SessionName). IsHolder seen k left) (same_Some m n named) whose

  firsts : (n : SessionName) (ordinal first : ℕ) → IsFirst t n ordinal first → IsFirst now n ordinal first
  firsts n ordinal first is row work there in_work same =
      let was = reads.firsts n.client row work there in_work in
      sym was.first ∙ is was.row_was was.work_was was.there was.in_work (was.ordinal ∙ same)

  taken_on : (n : SessionName) (ordinal : ℕ) → IsTakenUp g n ordinal → IsTakenUp (on g tale) n ordinal
  taken_on n ordinal is = record {
    client = is.client;
    seated = subst (λ (xs : List tales.Client). filter (λ (x : tales.Client). story.is_client x.number is.client.number) xs ≡ is.client ∷ []) (sym onward.clients) is.seated;
    number = is.number;
    by_now = is.by_now;
  }

  parted_for : (p : Purpose) → IsPartedFor p g → IsPartedFor p (on g tale)
  parted_for (purposes.Statement n ordinal key) is = (is.0, taken_on n ordinal is.1)
  parted_for (purposes.Prep n ordinal key) is = tt
  parted_for (purposes.Sync n) is = tt
  parted_for purposes.Own is = tt
  parted_for (purposes.End n) is = tt
  parted_for (purposes.Capture n) is = tt

  pub parted_on : (stage : Stage) → IsPartedAt stage g → IsPartedAt stage (on g tale)
  parted_on Quiet is = tt
  parted_on (Asked asking) is = parted_for asking.purpose is
  parted_on (Answered asking) is = parted_for asking.purpose is

  module _ (other : LinkId) (apart : is_link_id other l ≡ false) where
    same_link : link_in g.setup tale other ≡ link_in g.setup g.tale other
    same_link = onward.links other apart

    readied_on : (row : Row) (asking : Asking) (question : story.Question)
        → IsReadied g.setup.reads g.codes row (link_in g.setup g.tale other) asking question
        → IsReadied g.setup.reads g.codes row (link_in g.setup tale other) asking question
    readied_on row asking question is = subst (λ (link : Link). IsReadied g.setup.reads g.codes row link asking question) (sym same_link) is

    next_for : (p : Purpose) (row : Row) (asking : Asking) → IsNextFor p g t row (link_in g.setup g.tale other) asking
        → IsNextFor p (on g tale) now row (link_in g.setup tale other) asking
    next_for (purposes.Statement n ordinal key) row asking is = record {
      said = λ due there same. readied_on row asking (story.Statement n due) (is.said due (onward.dues n due there) same);
      first = firsts n ordinal row.link.first is.first;
      asked = λ due there same. is.asked due (onward.dues n due there) same;
      number = is.number;
      taken_up = taken_on n ordinal is.taken_up;
    }
    next_for (purposes.Prep n ordinal key) row asking is = record {
      said = λ due there same. readied_on row asking (story.Prep n due.key (keyed_text g due)) (is.said due (onward.dues n due there) same);
      told = λ due there same.
          ap (λ (link : Link). is_told_key g.setup due.key (keyed_text g due) link.told) same_link ∙ is.told due (onward.dues n due there) same;
      taken_up = taken_on n ordinal is.taken_up;
    }
    next_for (purposes.Sync n) row asking is = record { command = is.command; said = readied_on row asking (story.Sync n is.command) is.said }
    next_for purposes.Own row asking is = record { command = is.command; said = readied_on row asking (story.Own is.command) is.said }
    next_for (purposes.End n) row asking is = readied_on row asking (story.End n) is
    next_for (purposes.Capture n) row asking is = readied_on row asking (story.Capture n) is

    next_of : (next : Option Begins) (row : Row) → IsNextOf next g t row (link_in g.setup g.tale other)
        → IsNextOf next (on g tale) now row (link_in g.setup tale other)
    next_of None row is = tt
    next_of (Some (begins.Asks asking)) row is = (is.0, next_for asking.purpose row asking is.1)
    next_of (Some (begins.Closes number)) row is = is
    next_of (Some (begins.Resets number)) row is = is
    next_of (Some begins.Quits) row is = is

    standing_at : (stage : view.Stage) → IsStandingAt stage g other → IsStandingAt stage (on g tale) other
    standing_at stage is = standing_on g (on g tale) other (λ m at. onward.carriers m other at) onward.replies stage is

    replying_for : (p : Purpose) (row : Row) (asking : Asking) → IsReplyingFor p g t other row asking → IsReplyingFor p (on g tale) now other row asking
    replying_for (purposes.Statement n ordinal key) row asking is =
        let kept = reads.kept n.client is.client is.work is.there is.in_work is.sent in
        record {
          client = kept.row_now;
          work = kept.work_now;
          there = kept.there;
          in_work = kept.in_work;
          last = kept.ordinal ∙ is.last;
          sent = kept.sent ∙ is.sent;
          hostgroup = kept.hostgroup ∙ is.hostgroup;
          number = is.number;
          first = kept.first ∙ is.first;
          coming = kept.coming ∙ is.coming
              ∙ ap (λ (wire : Wire). renumbered (started (sought (kind_of asking.form) (reply_id wire) row.link.first row.link.number)) wire.unread)
              (sym (onward.wires other apart));
        }
    replying_for (purposes.Prep n ordinal key) row asking is = tt
    replying_for (purposes.Sync n) row asking is = tt
    replying_for purposes.Own row asking is = tt
    replying_for (purposes.End n) row asking is = tt
    replying_for (purposes.Capture n) row asking is = tt

    replying_at : (stage : Stage) (row : Row) → IsReplyingAt stage g t other row → IsReplyingAt stage (on g tale) now other row
    replying_at Quiet row is = tt
    replying_at (Asked asking) row is = replying_for asking.purpose row asking is
    replying_at (Answered asking) row is = replying_for asking.purpose row asking is

    whose : (row : Row) → IsWhose seen row.link.state.carries row.left → IsWhose new row.link.state.carries row.left
    whose row is =
        whose_on seen new row.link.state.carries row.left
        (λ n named. untouched n row.left (holder_of n row.link.state.carries row.left named is)) is

    row_on : (row : Row) → IsRowIn g.setup g.codes g.plan g.tale other row → IsRowIn g.setup g.codes g.plan tale other row
    row_on row is =
        subst (λ (wire : Wire). IsRow g.setup.reads g.codes (g.plan.logins other) new row wire (new.links other)) (sym (onward.wires other apart))
        (subst (λ (link : Link). IsRow g.setup.reads g.codes (g.plan.logins other) new row (g.tale.wires other) link) (sym same_link)
        (row_after g.setup.reads g.codes (g.plan.logins other) seen new row (g.tale.wires other) (link_in g.setup g.tale other) (whose row) is))

    server_is : (row : Row) → IsServer g t other row → IsServer (on g tale) now other row
    server_is row is = record {
      row = row_on row is.row;
      user = is.user;
      found_rows = is.found_rows;
      standing = subst (λ (link : Link). IsStandingAt link.stage (on g tale) other) (sym same_link) (standing_at (link_in g.setup g.tale other).stage is.standing);
      next = next_of row.link.next row is.next;
      lent = λ kept mine unstated.
          lent_on (IsAhead seen) (IsAhead new) row.link.state.carries
          (λ n named ahead. onward.ahead other n apart (row_carries g.setup g.codes g.plan g.tale other row is.row ∙ named) ahead) (is.lent kept mine unstated);
      parted = λ sound kept some. parted_on row.link.state.stage (is.parted sound kept some);
      replying = λ sound kept mine. replying_at row.link.state.stage row (is.replying sound kept mine);
    }

    server_by : (to_server : Bool) (server : Option Server) → IsServerBy to_server g t other server → IsServerBy to_server (on g tale) now other server
    server_by true None is = ap (λ (link : Link). link.usable) same_link ∙ is
    server_by true (Some server) is = server_is server.row is
    server_by false server is = is

    pub server_on : (server : Option Server) → IsServerOr g t other server → IsServerOr (on g tale) now other server
    server_on server is =
        subst (λ (to_server : Bool). IsServerBy to_server (on g tale) now other server) (sym (onward.to_servers other apart))
        (server_by (is_to_server g.tale other) server is)

-- Homes stay where sessions and whom links carry do.

pub record HomeOf (t : Tabled) (c : ClientNo) (row : Client) : Type 0 where
  pub row_there : Client
  pub there : t.clients c ≡ Some row_there
  pub sessions : (h : Hostgroup) → session_of row_there.desk h ≡ session_of row.desk h

pub record CarriedOf (t : Tabled) (l : LinkId) (server : Server) : Type 0 where
  pub server_there : Server
  pub there : t.links l ≡ Some server_there
  pub carries : name_in server_there.row.link.state.carries ≡ name_in server.row.link.state.carries
  pub left : server_there.row.left ≡ server.row.left
  pub lost : server_there.row.lost ≡ server.row.lost

pub record SameHomes (t now : Tabled) : Type 0 where
  pub was : (c : ClientNo) (row : Client) → now.clients c ≡ Some row → HomeOf t c row
  pub is : (c : ClientNo) (row : Client) → t.clients c ≡ Some row → HomeOf now c row
  pub link_was : (l : LinkId) (server : Server) → now.links l ≡ Some server → CarriedOf t l server
  pub link_is : (l : LinkId) (server : Server) → t.links l ≡ Some server → CarriedOf now l server

pub homes_on : (g after : Ground) (t now : Tabled) → SameHomes t now → AreHomes g t → AreHomes after now
homes_on g after t now same are = record {
  carried = λ c row h l there home.
      let was = same.was c row there in
      let home_was = are.carried c was.row_there h l was.there (ap (λ (s : Session). s.home) (was.sessions h) ∙ home) in
      let is = same.link_is l home_was.0 home_was.1.there in (
        is.server_there,
        record {
          there = is.there;
          carries = is.carries ∙ home_was.1.carries
              ∙ ap (λ (s : Session). Some (record { client = c; hostgroup = h; life = s.life })) (was.sessions h);
          present = is.left ∙ home_was.1.present;
          whole = is.lost ∙ home_was.1.whole;
        },
      );
  home = λ l server n there carries mine kept.
      let was = same.link_was l server there in
      let home = are.home l was.server_there n was.there (was.carries ∙ carries) (was.left ∙ mine) (was.lost ∙ kept) in
      let is = same.is n.client home.0 home.1 in (
        is.row_there,
        is.there,
        ap (λ (s : Session). s.home) (is.sessions n.hostgroup) ∙ home.2,
        ap (λ (s : Session). s.life) (is.sessions n.hostgroup) ∙ home.3,
      );
}
