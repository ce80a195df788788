-- A server runs what stands on a link, or ends the link: the tables stand for the tale as before.
use Rattle.std.specs.Prelude.{◌≡◌, ◌<◌, ℕ, Bool, true, false, is_some, if◌then◌else◌, All, List, Option, Some, None}
use Rattle.std.specs.Option.{option_map}
use Rattle.std.proofs.Common.{refl, sym, ap, ◌∙◌, subst}
use Rattle.std.proofs.lemmas.Bool.{false≢true, true≢false}
use Rattle.std.proofs.lemmas.List.Elements.{All-weaker}
use Rattle.std.proofs.lemmas.Option.{none-some, same_Some}
use Rattle.client_session.specs.Setups.{Setup as Service}
use Rattle.server_rule.specs.Classes.{Reads as Classes}
use Rattle.private_model.proofs.Maps.{link_of, same_link}
use Rattle.private_model.specs.Names.{ClientNo, LinkId}
use Rattle.private_model.specs.Story as story
use Rattle.private_model.specs.Story.{Dropped, Ran, command_of, is_link_id, put}
use Rattle.private_model.specs.View as view
use Rattle.private_model.specs.View.{Link, Setup, View, ran_by}
use Rattle.session_state.specs.declared.place.Told.{Told}
use Rattle.tale_world.specs.Tests.{is_told_key}
use Rattle.log_story.specs.Honest.{number_for}
use Rattle.log_story.specs.Plan.{Plan}
use Rattle.log_story.specs.Tale as tales
use Rattle.log_story.specs.Tale.{Tale, is_to_server, link_in, tell, view_of}
use Rattle.log_story.specs.Telling.{told}
use Rattle.mx_wire.specs.declared.entry.Entry.TheVariants.{Drop, Exec}
use Rattle.link_state.specs.declared.asking.Asking.{Asking}
use Rattle.link_state.specs.declared.asking.Purpose.{Purpose}
use Rattle.link_state.specs.declared.asking.Purpose.TheVariants as purposes
use Rattle.link_state.specs.declared.state.Stage.{Stage}
use Rattle.link_state.specs.declared.state.Stage.TheVariants.{Quiet, Asked, Answered}
use Rattle.link_laws.specs.Stands.{Codes}
use Rattle.lent_link.specs.declared.link.Begins.{Begins}
use Rattle.lent_link.specs.declared.link.Begins.TheVariants as begins
use Rattle.served_link.specs.declared.row.Row.{Row}
use Rattle.row_laws.specs.Begins.{IsNext, IsReadied}
use Rattle.row_laws.specs.Rows.{IsRowIn}
use Rattle.row_laws.specs.Written.{spelt_as}
use Rattle.core_tables.specs.Tables.{Tabled}
use Rattle.core_tables.specs.declared.client.Client.{Client}
use Rattle.core_tables.specs.declared.server.Server.{Server}
use Rattle.core_stands.specs.Grounds.{Ground, on, view_on}
use Rattle.core_stands.specs.Servers.{IsNextFor, IsNextOf, IsReplyingAt, IsReplyingFor, IsServer, IsServerBy, IsServerOr, IsStandingAt, keyed_text}
use Rattle.core_stands.specs.Stands.{AreClients, AreHomes, IsAt, Stands}
use Rattle.core_laws.proofs.OfWriting.Framing.{Onward, SameHomes, homes_on, parted_on, same_reads, server_on, standing_on}
use Rattle.core_laws.proofs.OfWriting.Moving.{ClientsAtStay, clients_made}
use Rattle.core_laws.proofs.OfWriting.Asked.{beside, is_beside}
use Rattle.core_laws.proofs.OfPrepared.Rows.{are_prepared, owns_stay, rows_same}

put_there : {A : Type 0} (f : LinkId → A) (l : LinkId) (x : A) → put is_link_id f l x l ≡ x
put_there f l x = ap (λ (same : Bool). if same then x else f l) (same_link l)

put_apart : {A : Type 0} (f : LinkId → A) (l : LinkId) (x : A) (k : LinkId) → is_link_id k l ≡ false → put is_link_id f l x k ≡ f k
put_apart f l x k apart = ap (λ (same : Bool). if same then x else f k) apart

-- row_laws' rows_run_unseen

abbrev pub RunsUnseen : Type 0
RunsUnseen = (setup : Setup) (codes : Codes) (plan : Plan) (tale : Tale) (l : LinkId) (row : Row) → IsRowIn setup codes plan tale l row
    → IsRowIn setup codes plan (tell (Ran l) tale) l row

same_homes : (t : Tabled) → SameHomes t t
same_homes t = record {
  was = λ c row at. record { row_there = row; there = at; sessions = λ h. refl };
  is = λ c row at. record { row_there = row; there = at; sessions = λ h. refl };
  link_was = λ l server at. record { server_there = server; there = at; carries = refl; left = refl; lost = refl };
  link_is = λ l server at. record { server_there = server; there = at; carries = refl; left = refl; lost = refl };
}

module _ (at_stay : ClientsAtStay) (runs : RunsUnseen) (service : Service) (g : Ground) (t : Tabled) (l : LinkId) (stands : Stands service g t) where
  -- the link ends, of which no router knows

  abbrev dropped : Tale
  dropped = tell (Dropped l) g.tale

  onward_dropped : (k : LinkId) → Onward g k dropped
  onward_dropped k = record {
    clients = refl;
    to_servers = λ other apart. refl;
    wires = λ other apart. refl;
    links = λ other apart. refl;
    lives = refl;
    pin = λ n. refl;
    id = λ n. refl;
    lasting = λ n earlier. refl;
    dues = λ n due there. there;
    carriers = λ m other there. there;
    replies = refl;
    ahead = λ other n apart carries ahead. ahead;
  }

  pub drops : Stands service (on g dropped) t
  drops = record {
    service_is = stands.service_is;
    room_is = stands.room_is;
    clients = clients_made g dropped t t refl (λ k. refl) (λ c. refl)
        (All-weaker (IsAt g t) (IsAt (on g dropped) t) (λ client at. at_stay g t t client (Dropped l) at refl refl refl) g.tale.clients stands.clients.each) stands.clients;
    servers = λ k. server_on g t t (beside k) dropped (onward_dropped (beside k)) (same_reads t t (λ c. refl)) k (is_beside k) (t.links k) (stands.servers k);
    homes = homes_on g (on g dropped) t t (same_homes t) stands.homes;
    lawful = (stands.lawful, tt);
    prepared = are_prepared g dropped g.over g.fresh t t stands.clients (λ m. refl) (owns_stay {g = g} {tale = dropped} refl) stands.prepared (λ client seated. seated) (rows_same t t (λ c. refl));
    duly = stands.duly;
  }

  -- it runs

  abbrev ran : Tale
  ran = tell (Ran l) g.tale

  abbrev was : Link
  was = link_in g.setup g.tale l

  abbrev runs_there : Link
  runs_there = ran_by g.setup.reads was.stage was

  link_ran : link_in g.setup ran l ≡ runs_there
  link_ran = put_there (view_on g).links l runs_there

  onward_ran : Onward g l ran
  onward_ran = record {
    clients = refl;
    to_servers = λ other apart. refl;
    wires = λ other apart. refl;
    links = λ other apart. put_apart (view_on g).links l runs_there other apart;
    lives = refl;
    pin = λ n. refl;
    id = λ n. refl;
    lasting = λ n earlier. refl;
    dues = λ n due there. there;
    carriers = λ m other there. there;
    replies = refl;
    ahead = λ other n apart carries ahead. ahead;
  }

  live_same : (stage : view.Stage) → (ran_by g.setup.reads stage was).live ≡ was.live
  live_same view.Quiet = refl
  live_same (view.Asked question) = refl
  live_same (view.Answered question) = refl

  told_same : (stage : view.Stage) → (ran_by g.setup.reads stage was).told ≡ was.told
  told_same view.Quiet = refl
  told_same (view.Asked question) = refl
  told_same (view.Answered question) = refl

  usable_same : (stage : view.Stage) → (ran_by g.setup.reads stage was).usable ≡ was.usable
  usable_same view.Quiet = refl
  usable_same (view.Asked question) = refl
  usable_same (view.Answered question) = refl

  standing_ran : (stage : view.Stage) → was.stage ≡ stage → IsStandingAt stage (on g ran) l → IsStandingAt (ran_by g.setup.reads stage was).stage (on g ran) l
  standing_ran view.Quiet same is = subst (λ (s : view.Stage). IsStandingAt s (on g ran) l) (sym same) is
  standing_ran (view.Asked question) same is = is
  standing_ran (view.Answered question) same is = subst (λ (s : view.Stage). IsStandingAt s (on g ran) l) (sym same) is

  module _ (row : Row) (is : IsServer g t l row) where
    readied_ran : (asking : Asking) (question : story.Question) → IsReadied g.setup.reads g.codes row was asking question
        → IsReadied g.setup.reads g.codes row (link_in g.setup ran l) asking question
    readied_ran asking question said = record {
      asks = said.asks;
      spelt_so = subst (λ (live : ℕ → Option ℕ). IsNext row.link.writing (spelt_as (command_of question) (number_for question live)))
          (sym (ap (λ (k : Link). k.live) link_ran ∙ live_same was.stage)) said.spelt_so;
      shared = said.shared;
      cell_so = said.cell_so;
    }

    next_for : (p : Purpose) (asking : Asking) → IsNextFor p g t row was asking → IsNextFor p (on g ran) t row (link_in g.setup ran l) asking
    next_for (purposes.Statement n ordinal key) asking next = record {
      said = λ due there same. readied_ran asking (story.Statement n due) (next.said due there same);
      first = next.first;
      asked = next.asked;
      number = next.number;
      taken_up = record { client = next.taken_up.client; seated = next.taken_up.seated; number = next.taken_up.number; by_now = next.taken_up.by_now };
    }
    next_for (purposes.Prep n ordinal key) asking next = record {
      said = λ due there same. readied_ran asking (story.Prep n due.key (keyed_text g due)) (next.said due there same);
      told = λ due there same.
          ap (λ (x : Told). is_told_key g.setup due.key (keyed_text g due) x) (ap (λ (k : Link). k.told) link_ran ∙ told_same was.stage)
          ∙ next.told due there same;
      taken_up = record { client = next.taken_up.client; seated = next.taken_up.seated; number = next.taken_up.number; by_now = next.taken_up.by_now };
    }
    next_for (purposes.Sync n) asking next = record { command = next.command; said = readied_ran asking (story.Sync n next.command) next.said }
    next_for purposes.Own asking next = record { command = next.command; said = readied_ran asking (story.Own next.command) next.said }
    next_for (purposes.End n) asking next = readied_ran asking (story.End n) next
    next_for (purposes.Capture n) asking next = readied_ran asking (story.Capture n) next

    next_of : (next : Option Begins) → IsNextOf next g t row was → IsNextOf next (on g ran) t row (link_in g.setup ran l)
    next_of None at = tt
    next_of (Some (begins.Asks asking)) at = (at.0, next_for asking.purpose asking at.1)
    next_of (Some (begins.Closes number)) at = at
    next_of (Some (begins.Resets number)) at = at
    next_of (Some begins.Quits) at = at

    replying_for : (p : Purpose) (asking : Asking) → IsReplyingFor p g t l row asking → IsReplyingFor p (on g ran) t l row asking
    replying_for (purposes.Statement n ordinal key) asking at = record {
      client = at.client;
      work = at.work;
      there = at.there;
      in_work = at.in_work;
      last = at.last;
      sent = at.sent;
      hostgroup = at.hostgroup;
      number = at.number;
      first = at.first;
      coming = at.coming;
    }
    replying_for (purposes.Prep n ordinal key) asking at = tt
    replying_for (purposes.Sync n) asking at = tt
    replying_for purposes.Own asking at = tt
    replying_for (purposes.End n) asking at = tt
    replying_for (purposes.Capture n) asking at = tt

    replying_at : (stage : Stage) → IsReplyingAt stage g t l row → IsReplyingAt stage (on g ran) t l row
    replying_at Quiet at = tt
    replying_at (Asked asking) at = replying_for asking.purpose asking at
    replying_at (Answered asking) at = replying_for asking.purpose asking at

    server_ran : IsServer (on g ran) t l row
    server_ran = record {
      row = runs g.setup g.codes g.plan g.tale l row is.row;
      user = is.user;
      found_rows = is.found_rows;
      standing = subst (λ (k : Link). IsStandingAt k.stage (on g ran) l) (sym link_ran)
          (standing_ran was.stage refl (standing_on g (on g ran) l (λ m at. at) refl was.stage is.standing));
      next = next_of row.link.next is.next;
      lent = is.lent;
      parted = λ sound kept left_some. parted_on g t t l ran onward_ran (same_reads t t (λ c. refl)) row.link.state.stage (is.parted sound kept left_some);
      replying = λ sound kept mine. replying_at row.link.state.stage (is.replying sound kept mine);
    }

  ran_by_row : (to_server : Bool) (found : Option Server) → IsServerBy to_server g t l found → IsServerBy to_server (on g ran) t l found
  ran_by_row true None is = ap (λ (k : Link). k.usable) link_ran ∙ usable_same was.stage ∙ is
  ran_by_row true (Some server) is = server_ran server.row is
  ran_by_row false found is = is

  servers_ran : (k : LinkId) (here : Bool) → is_link_id k l ≡ here → IsServerOr (on g ran) t k (t.links k)
  servers_ran k true e =
      subst (λ (x : LinkId). IsServerOr (on g ran) t x (t.links x)) (sym (link_of k l e)) (ran_by_row (is_to_server g.tale l) (t.links l) (stands.servers l))
  servers_ran k false e = server_on g t t l ran onward_ran (same_reads t t (λ c. refl)) k e (t.links k) (stands.servers k)

  pub ran_so : Stands service (on g ran) t
  ran_so = record {
    service_is = stands.service_is;
    room_is = stands.room_is;
    clients = clients_made g ran t t refl (λ k. refl) (λ c. refl)
        (All-weaker (IsAt g t) (IsAt (on g ran) t) (λ client at. at_stay g t t client (Ran l) at refl refl refl) g.tale.clients stands.clients.each) stands.clients;
    servers = λ k. servers_ran k (is_link_id k l) refl;
    homes = homes_on g (on g ran) t t (same_homes t) stands.homes;
    lawful = (stands.lawful, tt);
    prepared = are_prepared g ran g.over g.fresh t t stands.clients (λ m. refl) (owns_stay {g = g} {tale = ran} refl) stands.prepared (λ client seated. seated) (rows_same t t (λ c. refl));
    duly = stands.duly;
  }

  entered_by : (entered quits : Bool) → Stands service (on g (if entered then tell (if quits then Dropped l else Ran l) g.tale else g.tale)) t
  entered_by true true = drops
  entered_by true false = ran_so
  entered_by false quits = stands

  pub marks_so : Stands service (on g (told g.setup g.plan g.tale (Exec l))) t
  marks_so = entered_by (g.tale.wires l).entered (g.tale.wires l).quits
