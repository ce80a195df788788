-- Bytes are written on a link to a server: the tables stand for the tale.
use Rattle.std.specs.Prelude.{◌≡◌, ◌⊎◌, ◌<◌, ◌≤◌, ℕ, suc, Bool, true, false, not, ◌&&◌, ◌||◌, is_some, nat_eq, length, take, if◌then◌else◌, All, map, List, [], ◌∷◌, ◌++◌, Option, Some, None}
use Rattle.std.specs.List.{list_any}
use Rattle.std.specs.Option.{option_map, option_map_or}
use Rattle.std.proofs.Common.{refl, sym, ap, ◌∙◌, subst, arith, inl, inr}
use Rattle.std.proofs.lemmas.Bool.{and_from, false≢true, true≢false}
use Rattle.std.proofs.lemmas.List.Elements.{All-weaker}
use Rattle.std.proofs.lemmas.Option.{none-some, same_Some}
use Rattle.mx_base.specs.Sent.{Sent as Offer}
use Rattle.mx_base.specs.declared.tag.Tag.{Tag}
use Rattle.mx_base.specs.declared.tag.Tag.TheVariants as tags
use Rattle.client_session.specs.Setups.{Setup as Service}
use Rattle.reply_track.specs.Runs.{renumbered}
use Rattle.reply_track.specs.Tracking.{started}
use Rattle.private_model.proofs.Maps.{client_of, link_of, name_of as name_is, same_link, same_message, same_name}
use Rattle.private_model.specs.Commands.{Command, Quit, class_of}
use Rattle.private_model.specs.Lawful.{IsLawful}
use Rattle.private_model.specs.Names.{ClientNo, Hostgroup, LinkId, MessageName, SessionName}
use Rattle.private_model.specs.Story as story
use Rattle.private_model.specs.Story.{Due, Happening, Question, Sent, Unprepared, command_of, is_link_id, is_name, message_of, put}
use Rattle.private_model.specs.View as view
use Rattle.private_model.specs.View.{Link, Setup, View, closed_number, session_in, view_step}
use Rattle.private_model.specs.View.{asked as asked_there}
use Rattle.log_story.specs.Plan as plan
use Rattle.log_story.specs.Plan.{Asks, Plan, StepText, step_payload}
use Rattle.log_story.specs.Servers as servers
use Rattle.log_story.specs.Servers.{begun_on, quits_for, reply_id, step_for, tell_all, writes}
use Rattle.log_story.specs.Servers.{begins as law_begins}
use Rattle.log_story.specs.Tale as tales
use Rattle.log_story.specs.Telling.{told}
use Rattle.mx_wire.specs.declared.entry.Entry.TheVariants.{Wrote as WroteBytes}
use Rattle.log_story.specs.Tale.{client_gets}
use Rattle.log_story.specs.Tale.{Tale, Wire, is_to_server, link_in, tell, view_of, with_wire}
use Rattle.tale_world.proofs.Testing.{tells_so}
use Rattle.link_state.specs.Asks.{kind_of, lends_by, lent_for}
use Rattle.link_state.specs.Spells.{spelt}
use Rattle.link_state.specs.declared.asking.Form.{Form}
use Rattle.link_laws.specs.Stands.{IsForm}
use Rattle.server_rule.specs.Classes.{Reads as Classes}
use Rattle.client_desk.specs.Desks as desks
use Rattle.client_desk.specs.Desks.{session_of}
use Rattle.client_desk.specs.Works.{gone_out, outlasts}
use Rattle.client_desk.specs.declared.work.Work.{Work}
use Rattle.desk_laws.specs.Stands.{HasRow, HasRowFor}
use Rattle.link_state.specs.Dones.{is_quiet}
use Rattle.link_state.specs.declared.asking.Asking.{Asking}
use Rattle.link_state.specs.declared.asking.Purpose.{Purpose}
use Rattle.link_state.specs.declared.asking.Purpose.TheVariants as purposes
use Rattle.link_state.specs.declared.state.Carried.{Carried}
use Rattle.link_state.specs.declared.state.Carried.TheVariants.{Nobody, Lent, Joined}
use Rattle.link_state.specs.declared.state.LinkState.{LinkState}
use Rattle.link_state.specs.declared.state.Stage.{Stage}
use Rattle.link_state.specs.declared.state.Stage.TheVariants.{Quiet, Asked, Answered}
use Rattle.link_laws.specs.Stands.{Codes}
use Rattle.lent_link.specs.Links.{is_in, left_at, left_in, wrote_on}
use Rattle.lent_link.specs.Links.{begun as link_begun}
use Rattle.link_state.specs.Writes as link_writes
use Rattle.lent_link.specs.Rests.{is_resetting, is_whole_or_none, may_begin}
use Rattle.lent_link.specs.declared.link.Begins.{Begins}
use Rattle.lent_link.specs.declared.link.Begins.TheVariants as begins
use Rattle.lent_link.specs.declared.link.LentLink.{LentLink}
use Rattle.lent_link.specs.declared.link.Step.{Step}
use Rattle.lent_link.specs.declared.link.Step.TheVariants.{Other, Closes, Resets}
use Rattle.served_link.specs.Writes.{began, kind_of as kind_begun, next_kind, wrote}
use Rattle.served_link.specs.declared.row.Identity.{Identity}
use Rattle.served_link.specs.declared.row.LeftSession.{LeftSession}
use Rattle.served_link.specs.declared.row.Row.{Row}
use Rattle.served_link.specs.declared.writing.Kind.{Kind}
use Rattle.row_laws.specs.Begins.{IsBeginning, IsNoStep}
use Rattle.row_laws.specs.Rows.{IsRow, IsRowIn}
use Rattle.row_laws.specs.Unread.{kind_answered, sought}
use Rattle.row_laws.specs.Whose.{OfStatement, name_in}
use Rattle.row_laws.specs.Written.{is_other}
use Rattle.core_tables.specs.Passing.{passes_next, sends}
use Rattle.core_tables.specs.Tables.{Tabled, client_changed, link_changed}
use Rattle.core_tables.specs.Writing.{begun_for, client_lent, client_sent, lasts, purpose_next, server_wrote, wrote_by}
use Rattle.core_tables.specs.Writing.{wrote_on as wrote_on_tables}
use Rattle.core_tables.specs.declared.client.Client.{Client}
use Rattle.core_tables.specs.declared.server.Server.{Server}
use Rattle.core_stands.specs.Grounds.{Ground, on, view_on}
use Rattle.core_stands.specs.Servers.{keyed_text, IsPartedAt, IsPartedFor, IsAhead, OfLent, is_stating, IsNextFor, IsNextOf, IsNextStatement, IsReplying, IsReplyingAt, IsReplyingFor, IsServer, IsServerBy, IsServerOr, IsStanding, IsStandingAt}
use Rattle.core_stands.specs.Stands.{AreClients, AreDuly, AreHomes, ArePrepared, IsAt, Stands}
use Rattle.core_laws.specs.writing.Planned.{IsPlanned, planned_on}
use Rattle.core_laws.proofs.OfParting.Ahead.{ahead_same, sent_apart}
use Rattle.core_laws.proofs.OfParting.Homes.{homes_so}
use Rattle.core_laws.proofs.OfWriting.Begun.{Begun, IsDueThere, IsPrepDue, IsStated, IsStep, OfPurpose, told_for}
use Rattle.core_laws.proofs.OfWriting.Framing.{CarriedOf, HomeOf, Onward, Reads, SameHomes, client_apart, flipped, homes_on, link_apart, link_here, parted_on, same_reads, server_on, standing_on}
use Rattle.core_laws.proofs.OfWriting.Knowing.{dry_by, enters_in, entered, is_servers, law_quiet, over, quiet, serves, serving, unread}
use Rattle.core_laws.proofs.OfWriting.Lending.{BegunFor, IsLent, MayBegin, begun_so, closes_told, fine_so, goes_on, left_inside, may_send, own_tag, quit_tag, quits_told, resets_told}
use Rattle.core_laws.proofs.OfWriting.Moving.{Alike, ClientsAtStay, ComingStays, OthersStay, clients_made, clients_still, clients_step, sent, step_alike, still}
use Rattle.core_laws.proofs.OfWriting.Onwards.{onward_statement, onward_step, onward_still, reads_sent}
use Rattle.core_laws.proofs.OfWriting.Homing.{SentDesk, homes_moved, sent_desk}
use Rattle.core_laws.proofs.OfWriting.Lent.{LentStands, clients_lent, onward_prep, reads_lent}
use Rattle.core_laws.proofs.OfWriting.Lent.{now_there as lent_there}
use Rattle.core_laws.proofs.OfWriting.Stated.{SentStands, clients_sent, now_apart, now_there}
use Rattle.core_laws.proofs.OfWriting.Stating.{due_is, life_is, unanswered_there, unsent_there}
use Rattle.core_laws.proofs.OfWriting.Rows.{Wrote, kind_next, kind_none, row_spoilt, wrote_next, wrote_outside, wrote_so}
use Rattle.core_laws.proofs.OfPrepared.Rows.{are_prepared, owns_stay, rows_changed, rows_same}

put_there : {A : Type 0} (f : LinkId → A) (l : LinkId) (x : A) → put is_link_id f l x l ≡ x
put_there f l x = ap (λ (same : Bool). if same then x else f l) (same_link l)

-- row_laws' rows_say, rows_write_on and rows_begin

abbrev pub Says : Type 0
Says = (setup : Setup) (codes : Codes) (plan : Plan) (tale : Tale) (l : LinkId) (row : Row) (tag : Tag) (count now : ℕ)
    → IsRowIn setup codes plan tale l row → (offer : Offer) → left_in row.link ≡ Some offer → count ≤ length offer.bytes → 0 < count
    → (tale.wires l).entered ≡ false → row.link.spoilt ≡ false
    → IsRowIn setup codes plan (writes setup plan l tag (take count offer.bytes) (tale.wires l) tale) l (wrote count now row)

abbrev pub WritesOn : Type 0
WritesOn = (setup : Setup) (codes : Codes) (plan : Plan) (tale : Tale) (l : LinkId) (row : Row) (tag : Tag) (count now : ℕ)
    → IsRowIn setup codes plan tale l row → (offer : Offer) → left_in row.link ≡ Some offer → count ≤ length offer.bytes → 0 < count
    → (tale.wires l).entered ≡ true → row.link.next ≡ None
    → IsRowIn setup codes plan (writes setup plan l tag (take count offer.bytes) (tale.wires l) tale) l (wrote count now row)

abbrev pub BeginsThere : Type 0
BeginsThere = (setup : Setup) (codes : Codes) (plan : Plan) (tale : Tale) (l : LinkId) (row : Row) (tag : Tag) (count now : ℕ)
    → IsRowIn setup codes plan tale l row → (offer : Offer) → left_in row.link ≡ Some offer → count ≤ length offer.bytes → 0 < count
    → (tale.wires l).entered ≡ true → (next : Begins) → row.link.next ≡ Some next
    → IsBeginning next setup.reads codes (view_of setup tale) l row ((view_of setup tale).links l)
    (begun_on setup plan tale.moment (view_of setup tale) l (tale.wires l) tag) (step_for tag (plan.steps l (tale.wires l).begun))
    (quits_for tag (plan.steps l (tale.wires l).begun))
    → IsRowIn setup codes plan (writes setup plan l tag (take count offer.bytes) (tale.wires l) tale) l (wrote count now row)

-- desk_laws' outlasts_as_said
abbrev pub OutlastsAsSaid : Type 0
OutlastsAsSaid = (reads : Classes) (form : Form) (command : Command) → IsForm reads form command → outlasts form ≡ (class_of reads command).outlasts_reset

-- Each link's row: that of the one that is written, and others.

pub servers_made : (g after : Ground) (t now : Tabled) (l : LinkId) (server : Server) → now.links l ≡ Some server → IsServerOr after now l (Some server)
    → ((other : LinkId) → is_link_id other l ≡ false → IsServerOr after now other (now.links other)) → (other : LinkId) → IsServerOr after now other (now.links other)
servers_made g after t now l server there is others other = by (is_link_id other l) refl where
  by : (same : Bool) → is_link_id other l ≡ same → IsServerOr after now other (now.links other)
  by true e =
      let here : other ≡ l = link_of other l e in
      subst (λ (k : LinkId). IsServerOr after now k (now.links k)) (sym here) (subst (λ (x : Option Server). IsServerOr after now l x) (sym there) is)
  by false e = others other e

pub by_to_server : (to_server : Bool) (after : Ground) (now : Tabled) (l : LinkId) (server : Server) → to_server ≡ true → IsServer after now l server.row
    → IsServerBy to_server after now l (Some server)
by_to_server true after now l server is_true is = is
by_to_server false after now l server is_true is = absurd (false≢true is_true)

-- a link's row is written, and no client changes: homes stay where whom it carries does
pub same_but : (t now : Tabled) (l : LinkId) (server after : Server) → ((c : ClientNo) → now.clients c ≡ t.clients c) → t.links l ≡ Some server → now.links l ≡ Some after
    → ((other : LinkId) → is_link_id other l ≡ false → now.links other ≡ t.links other) → name_in after.row.link.state.carries ≡ name_in server.row.link.state.carries
    → after.row.left ≡ server.row.left → after.row.lost ≡ server.row.lost → SameHomes t now
same_but t now l server after same there there_now others carries left lost = record {
  was = λ c row at. record { row_there = row; there = sym (same c) ∙ at; sessions = λ h. refl };
  is = λ c row at. record { row_there = row; there = same c ∙ at; sessions = λ h. refl };
  link_was = λ k server_now at. was k server_now at (is_link_id k l) refl;
  link_is = λ k server_was at. is k server_was at (is_link_id k l) refl;
} where
  was : (k : LinkId) (server_now : Server) → now.links k ≡ Some server_now → (here : Bool) → is_link_id k l ≡ here → CarriedOf t k server_now
  was k server_now at true e =
      let made : after ≡ server_now = same_Some after server_now (sym there_now ∙ ap now.links (sym (link_of k l e)) ∙ at) in
      record {
        server_there = server;
        there = ap t.links (link_of k l e) ∙ there;
        carries = sym carries ∙ ap (λ (s : Server). name_in s.row.link.state.carries) made;
        left = sym left ∙ ap (λ (s : Server). s.row.left) made;
        lost = sym lost ∙ ap (λ (s : Server). s.row.lost) made;
      }
  was k server_now at false e = record { server_there = server_now; there = sym (others k e) ∙ at; carries = refl; left = refl; lost = refl }

  is : (k : LinkId) (server_was : Server) → t.links k ≡ Some server_was → (here : Bool) → is_link_id k l ≡ here → CarriedOf now k server_was
  is k server_was at true e =
      let made : server ≡ server_was = same_Some server server_was (sym there ∙ ap t.links (sym (link_of k l e)) ∙ at) in
      record {
        server_there = after;
        there = ap now.links (link_of k l e) ∙ there_now;
        carries = carries ∙ ap (λ (s : Server). name_in s.row.link.state.carries) made;
        left = left ∙ ap (λ (s : Server). s.row.left) made;
        lost = lost ∙ ap (λ (s : Server). s.row.lost) made;
      }
  is k server_was at false e = record { server_there = server_was; there = others k e ∙ at; carries = refl; left = refl; lost = refl }

no_reset : (step : Step) → is_other step ≡ true → is_resetting step ≡ false
no_reset Other is = refl
no_reset (Closes number) is = refl
no_reset (Resets number) is = absurd (false≢true is)

not_false : (b : Bool) → (b ≡ false → ⊥) → b ≡ true
not_false true never = refl
not_false false never = absurd (never refl)

not_true : (b : Bool) → (b ≡ true → ⊥) → b ≡ false
not_true true never = absurd (never refl)
not_true false never = refl

module _ (may : MayBegin) (says : Says) (writes_on : WritesOn) (begins_there : BeginsThere) (service : Service) (g : Ground) (t : Tabled) (l : LinkId) (server : Server)
    (offer : Offer) (count now : ℕ) (stands : Stands service g t) (there : t.links l ≡ Some server) (is : IsServer g t l server.row)
    (left : left_in server.row.link ≡ Some offer) (some : 0 < count) (within : count ≤ length offer.bytes) where
  abbrev row : Row
  row = server.row

  abbrev wire : Wire
  wire = g.tale.wires l

  abbrev bytes : List ℕ
  bytes = take count offer.bytes

  abbrev row_now : Row
  row_now = wrote count now row

  abbrev server_now : Server
  server_now = server_wrote count now server

  abbrev written : Tabled
  written = link_changed l (server_wrote count now) t

  abbrev tale_now : Tale
  tale_now = writes g.setup g.plan l offer.tag bytes wire g.tale

  wrote_row : Wrote row_now row (wrote_on count row.link)
  wrote_row = wrote_so count now row

  there_now : written.links l ≡ Some server_now
  there_now = link_here l (server_wrote count now) t ∙ ap (option_map (server_wrote count now)) there

  others_now : (other : LinkId) → is_link_id other l ≡ false → written.links other ≡ t.links other
  others_now other apart = link_apart l other (server_wrote count now) t (flipped other.0 l.0 apart)

  to_server : is_to_server g.tale l ≡ true
  to_server = is_servers service g t l server stands there

  -- What began goes on, or the login: nothing is told.

  module _ (none : row.link.next ≡ None) where
    abbrev wire_on : Wire
    wire_on = record wire { written = wire.written ++ bytes }

    abbrev still_now : Tale
    still_now = still g l wire_on

    waits : servers.may_begin g.setup l wire g.tale ≡ false
    waits = not_true (servers.may_begin g.setup l wire g.tale) (goes_on may service g t l row stands is offer left none)

    tale_is : tale_now ≡ still_now
    tale_is = ap (λ (b : Bool). if b then law_begins g.setup g.plan l offer.tag bytes wire g.tale else still_now) waits

    row_in_by : (inside : Bool) → wire.entered ≡ inside → (spoilt : Bool) → row.link.spoilt ≡ spoilt → IsRowIn g.setup g.codes g.plan still_now l row_now
    row_in_by true inside spoilt same_spoilt =
        subst (λ (tale : Tale). IsRowIn g.setup g.codes g.plan tale l row_now) tale_is
        (writes_on g.setup g.codes g.plan g.tale l row offer.tag count now is.row offer left within some inside none)
    row_in_by false outside false fine =
        subst (λ (tale : Tale). IsRowIn g.setup g.codes g.plan tale l row_now) tale_is
        (says g.setup g.codes g.plan g.tale l row offer.tag count now is.row offer left within some outside fine)
    row_in_by false outside true spoilt =
        subst (λ (w : Wire). IsRow g.setup.reads g.codes (g.plan.logins l) (view_on g) row_now w (link_in g.setup g.tale l)) (sym (put_there g.tale.wires l wire_on))
        (row_spoilt g.setup.reads g.codes (g.plan.logins l) (view_on g) row row_now wire (link_in g.setup g.tale l) count bytes outside is.row.server
        (enters_in g.setup.reads g.codes (g.plan.logins l) (view_on g) row wire (link_in g.setup g.tale l) outside is.row) spoilt wrote_row)

    -- the link as it was, but for what is written

    record Going : Type 0 where
      next : row_now.link.next ≡ None
      state : row_now.link.state ≡ row.link.state
      first : row_now.link.first ≡ row.link.first
      number : row_now.link.number ≡ row.link.number
      spoilt : row_now.link.spoilt ≡ row.link.spoilt
      unasked : (asking : Asking) → row.link.state.stage ≡ Answered asking → ⊥
      dry : (asking : Asking) → row.link.state.stage ≡ Asked asking → row.link.spoilt ≡ false → wire.unread ≡ []

    answered_none : (stage : Stage) (asking : Asking) → stage ≡ Answered asking → left_at stage row.link.writing ≡ Some offer → ⊥
    answered_none stage asking same at =
        none-some offer (ap (λ (s : Stage). left_at s row.link.writing) (sym same) ∙ at)

    going_by : (inside : Bool) → wire.entered ≡ inside → Going
    going_by true inside =
        let s = serves g t l row is inside in
        let at_in = ap is_in s.inside in
        let link = wrote_row.link_is ∙ wrote_next count row.link None at_in none in
        record {
          next = ap (λ (k : LentLink). k.next) link;
          state = ap (λ (k : LentLink). k.state) link;
          first = ap (λ (k : LentLink). k.first) link;
          number = ap (λ (k : LentLink). k.number) link;
          spoilt = ap (λ (k : LentLink). k.spoilt) link;
          unasked = λ asking same.
              answered_none row.link.state.stage asking same (left_inside row offer at_in left);
          dry = λ asking same fine.
              let unquiet : is_quiet row.link.state.stage ≡ false = ap is_quiet same in
              let plain = no_reset row.link.step
              (not_false (is_other row.link.step) (λ other. true≢false (sym (s.stepless other) ∙ unquiet))) in
              dry_by row.link.reading row.link.step row.link.state.stage (reply_id wire) row.link.first row.link.number wire.unread plain
              (ap kind_answered same) (s.unread fine);
        }
    going_by false outside =
        let e = enters_in g.setup.reads g.codes (g.plan.logins l) (view_on g) row wire (link_in g.setup g.tale l) outside is.row in
        let link = wrote_row.link_is ∙ wrote_outside count row.link e.outside in
        let quiet : row.link.state.stage ≡ Quiet = ap (λ (s : LinkState). s.stage) e.state in
        record {
          next = ap (λ (k : LentLink). k.next) link ∙ none;
          state = ap (λ (k : LentLink). k.state) link;
          first = ap (λ (k : LentLink). k.first) link;
          number = ap (λ (k : LentLink). k.number) link;
          spoilt = ap (λ (k : LentLink). k.spoilt) link;
          unasked = λ asking same. true≢false (ap is_quiet (sym quiet ∙ same));
          dry = λ asking same fine. absurd (true≢false (ap is_quiet (sym quiet ∙ same)));
        }

    going : Going
    going = going_by wire.entered refl

    replying_for : (p : Purpose) (asking : Asking) → wire.unread ≡ [] → IsReplyingFor p g t l row asking → IsReplyingFor p (on g still_now) written l row_now asking
    replying_for (purposes.Statement n ordinal key) asking dry was = record {
      client = was.client;
      work = was.work;
      there = was.there;
      in_work = was.in_work;
      last = was.last;
      sent = was.sent;
      hostgroup = was.hostgroup;
      number = going.number ∙ was.number;
      first = was.first ∙ sym going.first;
      coming = was.coming
          ∙ ap (λ (unread : List ℕ). renumbered (started (sought (kind_of asking.form) (reply_id wire) row.link.first row.link.number)) unread) dry
          ∙ ap (λ (unread : List ℕ). renumbered (started (sought (kind_of asking.form) (reply_id ((still_now).wires l)) row_now.link.first row_now.link.number)) unread)
          (sym dry ∙ ap (λ (w : Wire). w.unread) (sym (put_there g.tale.wires l wire_on)));
    }
    replying_for (purposes.Prep n ordinal key) asking dry was = tt
    replying_for (purposes.Sync n) asking dry was = tt
    replying_for purposes.Own asking dry was = tt
    replying_for (purposes.End n) asking dry was = tt
    replying_for (purposes.Capture n) asking dry was = tt

    replying_at : (stage : Stage) → row.link.state.stage ≡ stage → row.link.spoilt ≡ false → IsReplyingAt stage g t l row → IsReplyingAt stage (on g still_now) written l row_now
    replying_at Quiet same fine was = tt
    replying_at (Asked asking) same fine was = replying_for asking.purpose asking (going.dry asking same fine) was
    replying_at (Answered asking) same fine was = absurd (going.unasked asking same)

    server_is : IsServer (on g still_now) written l row_now
    server_is = record {
      row = row_in_by wire.entered refl row.link.spoilt refl;
      user = ap (λ (i : Identity). i.user) wrote_row.identity ∙ is.user;
      found_rows = ap (λ (i : Identity). i.found_rows) wrote_row.identity ∙ is.found_rows;
      standing = standing_on g (on g still_now) l (λ m at. at) refl (link_in g.setup g.tale l).stage is.standing;
      next = subst (λ (next : Option Begins). IsNextOf next (on g still_now) written row_now (link_in g.setup still_now l)) (sym going.next) tt;
      lent = λ kept mine.
          subst (λ (state : LinkState). is_stating state.stage ≡ false → OfLent state.carries (IsAhead (view_on g))) (sym going.state)
          (is.lent (sym wrote_row.lost ∙ kept) (sym wrote_row.left ∙ mine));
      parted = λ sound kept left_some.
          subst (λ (state : LinkState). IsPartedAt state.stage (on g still_now)) (sym going.state)
          (parted_on g t written l still_now (onward_still g l wire_on) (same_reads t written (λ c. refl)) row.link.state.stage
          (is.parted (sym going.spoilt ∙ sound) (sym wrote_row.lost ∙ kept) (ap (λ (x : Option LeftSession). is_some x) (sym wrote_row.left) ∙ left_some)));
      replying = λ sound kept mine.
          subst (λ (state : LinkState). IsReplyingAt state.stage (on g still_now) written l row_now) (sym going.state)
          (replying_at row.link.state.stage refl (sym going.spoilt ∙ sound)
          (is.replying (sym going.spoilt ∙ sound) (sym wrote_row.lost ∙ kept) (sym wrote_row.left ∙ mine)));
    }

    stands_still : Stands service (on g still_now) written
    stands_still = record {
      service_is = stands.service_is;
      room_is = stands.room_is;
      clients = clients_still g l wire_on t written (λ c. refl) (λ k. refl) stands.clients;
      servers = servers_made g (on g still_now) t written l server_now there_now
          (by_to_server (is_to_server still_now l) (on g still_now) written l server_now to_server server_is)
          (λ other apart.
          subst (λ (x : Option Server). IsServerOr (on g still_now) written other x) (sym (others_now other apart))
          (server_on g t written l still_now (onward_still g l wire_on) (same_reads t written (λ c. refl)) other apart (t.links other) (stands.servers other)));
      homes = homes_on g (on g still_now) t written
          (same_but t written l server server_now (λ c. refl) there there_now others_now (ap (λ (s : LinkState). name_in s.carries) going.state)
          wrote_row.left wrote_row.lost) stands.homes;
      lawful = stands.lawful;
      prepared = are_prepared g still_now g.over g.fresh t written stands.clients (λ m. refl) (owns_stay {g = g} {tale = still_now} refl) stands.prepared (λ client seated. seated)
          (rows_same t written (λ c. refl));
      duly = stands.duly;
    }

    pub goes : Stands service (on g tale_now) (wrote_by (Some server) l count now t)
    goes =
        subst (λ (kind : Kind). Stands service (on g tale_now) (begun_for (began kind) l (lasts row.link.next) written)) (sym (kind_none row.link none))
        (subst (λ (tale : Tale). Stands service (on g tale) written) (sym tale_is) stands_still)

  -- Something begins.

  module _ (next : Begins) (same_next : row.link.next ≡ Some next) where
    inside : wire.entered ≡ true
    inside = entered g t l row is next same_next

    at_in : is_in row.link.login.stage ≡ true
    at_in = ap is_in (serves g t l row is inside).inside

    starts : servers.may_begin g.setup l wire g.tale ≡ true
    starts =
        may g.setup g.codes g.plan g.tale l row is.row inside
        ∙ and_from (is_in row.link.login.stage) _ at_in
        (and_from (is_quiet row.link.state.stage) _ (over g t l row is next same_next).quiet
        (and_from (is_some row.link.next || is_whole_or_none row.link.writing) _ (ap (λ (n : Option Begins). is_some n || is_whole_or_none row.link.writing) same_next)
        (ap not (over g t l row is next same_next).answered)))

    abbrev wire_begun : Wire
    wire_begun = record wire {
      written = bytes;
      step = step_for offer.tag (planned_on g l);
      begun = suc wire.begun;
      quits = wire.quits || quits_for offer.tag (planned_on g l);
    }

    begins_so : (es : List Happening) → told_for g l offer.tag ≡ es → tale_now ≡ tell_all es (still g l wire_begun)
    begins_so es happens =
        ap (λ (b : Bool). if b then law_begins g.setup g.plan l offer.tag bytes wire g.tale else with_wire l (record wire { written = wire.written ++ bytes }) g.tale) starts
        ∙ ap (λ (all : List Happening). tell_all all (still g l wire_begun)) happens

    unread_now : wire.unread ≡ [] → ((still g l wire_begun).wires l).unread ≡ []
    unread_now none = ap (λ (w : Wire). w.unread) (put_there g.tale.wires l wire_begun) ∙ none

  -- What asks nothing begins: a STMT_CLOSE, a STMT_RESET or the QUIT. Nothing stands there, and the link carries whom it carried.

  record IsUnasked (next : Begins) : Type 0 where
    carries : (k : LentLink) → (link_begun next k).state.carries ≡ k.state.carries
    stage : (k : LentLink) → (link_begun next k).state.stage ≡ k.state.stage
    rest : (k : LentLink) → (link_begun next k).next ≡ k.next
    none : began (kind_begun (Some next)) ≡ None

  module _ (next : Begins) (same_next : row.link.next ≡ Some next) (unasked : IsUnasked next) (es : List Happening) (happens : told_for g l offer.tag ≡ es)
      (beginning : IsBeginning next g.setup.reads g.codes (view_on g) l row (link_in g.setup g.tale l) (told_for g l offer.tag)
      (step_for offer.tag (planned_on g l)) (quits_for offer.tag (planned_on g l))) where
    abbrev tale_own : Tale
    tale_own = tell_all es (still g l (wire_begun next same_next))

    tale_is_own : tale_now ≡ tale_own
    tale_is_own = begins_so next same_next es happens

    abbrev bare : LentLink
    bare = record row.link { next = None; writing = option_map (link_writes.wrote count) row.link.writing }

    link_own : row_now.link ≡ link_begun next bare
    link_own = wrote_row.link_is ∙ wrote_next count row.link (Some next) (at_in next same_next) same_next

    stage_own : row_now.link.state.stage ≡ Quiet
    stage_own = ap (λ (k : LentLink). k.state.stage) link_own ∙ unasked.stage bare ∙ quiet g t l row is next same_next

    carries_own : row_now.link.state.carries ≡ row.link.state.carries
    carries_own = ap (λ (k : LentLink). k.state.carries) link_own ∙ unasked.carries bare

    next_own : row_now.link.next ≡ None
    next_own = ap (λ (k : LentLink). k.next) link_own ∙ unasked.rest bare

    module _ (onward : Onward g l tale_own) (dues : (n : SessionName) → (view_of g.setup tale_own).dues n ≡ (view_on g).dues n)
        (standing : IsStandingAt (link_in g.setup tale_own l).stage (on g tale_own) l) (clients : AreClients (on g tale_own) written)
        (lawful : IsLawful g.setup tale_own.story) (prepared : ArePrepared (on g tale_own) written) (duly : AreDuly g.setup g.plan tale_own.story) where
      server_own : IsServer (on g tale_own) written l row_now
      server_own = record {
        row = subst (λ (tale : Tale). IsRowIn g.setup g.codes g.plan tale l row_now) tale_is_own
            (begins_there g.setup g.codes g.plan g.tale l row offer.tag count now is.row offer left within some (inside next same_next) next same_next beginning);
        user = ap (λ (i : Identity). i.user) wrote_row.identity ∙ is.user;
        found_rows = ap (λ (i : Identity). i.found_rows) wrote_row.identity ∙ is.found_rows;
        standing = standing;
        next = subst (λ (n : Option Begins). IsNextOf n (on g tale_own) written row_now (link_in g.setup tale_own l)) (sym next_own) tt;
        lent = λ kept mine unstated.
            subst (λ (c : Carried). OfLent c (IsAhead (view_of g.setup tale_own))) (sym carries_own)
            (ahead_same (view_on g) (view_of g.setup tale_own) row.link.state.carries dues
            (is.lent (sym wrote_row.lost ∙ kept) (sym wrote_row.left ∙ mine) (ap is_stating (quiet g t l row is next same_next))));
        parted = λ sound kept left_some. subst (λ (stage : Stage). IsPartedAt stage (on g tale_own)) (sym stage_own) tt;
        replying = λ sound kept mine. subst (λ (stage : Stage). IsReplyingAt stage (on g tale_own) written l row_now) (sym stage_own) tt;
      }

      stands_own : Stands service (on g tale_own) written
      stands_own = record {
        service_is = stands.service_is;
        room_is = stands.room_is;
        clients = clients;
        servers = servers_made g (on g tale_own) t written l server_now there_now
            (by_to_server (is_to_server tale_own l) (on g tale_own) written l server_now to_server server_own)
            (λ other apart.
            subst (λ (x : Option Server). IsServerOr (on g tale_own) written other x) (sym (others_now other apart))
            (server_on g t written l tale_own onward (same_reads t written (λ c. refl)) other apart (t.links other) (stands.servers other)));
        homes = homes_on g (on g tale_own) t written
            (same_but t written l server server_now (λ c. refl) there there_now others_now (ap name_in carries_own) wrote_row.left wrote_row.lost) stands.homes;
        lawful = lawful;
        prepared = prepared;
        duly = duly;
      }

      own_stands : Stands service (on g tale_now) (wrote_by (Some server) l count now t)
      own_stands =
          subst (λ (kind : Kind). Stands service (on g tale_now) (begun_for (began kind) l (lasts row.link.next) written))
          (sym (kind_next row.link (Some next) (at_in next same_next) same_next))
          (subst (λ (p : Option Purpose). Stands service (on g tale_now) (begun_for p l (lasts row.link.next) written)) (sym unasked.none)
          (subst (λ (tale : Tale). Stands service (on g tale) written) (sym tale_is_own) stands_own))

  -- Of the QUIT and of a STMT_RESET nothing is told.

  module _ (next : Begins) (same_next : row.link.next ≡ Some next) (unasked : IsUnasked next) (none : told_for g l offer.tag ≡ [])
      (beginning : IsBeginning next g.setup.reads g.codes (view_on g) l row (link_in g.setup g.tale l) (told_for g l offer.tag)
      (step_for offer.tag (planned_on g l)) (quits_for offer.tag (planned_on g l))) where
    untold : Stands service (on g tale_now) (wrote_by (Some server) l count now t)
    untold =
        let wire_now = wire_begun next same_next in
        own_stands next same_next unasked [] none beginning (onward_still g l wire_now) (λ n. refl)
        (standing_on g (on g (still g l wire_now)) l (λ m at. at) refl (link_in g.setup g.tale l).stage is.standing)
        (clients_still g l wire_now t written (λ c. refl) (λ k. refl) stands.clients) stands.lawful
        (are_prepared g (still g l wire_now) g.over g.fresh t written stands.clients (λ m. refl) (owns_stay {g = g} {tale = still g l wire_now} refl) stands.prepared (λ client seated. seated)
        (rows_same t written (λ c. refl))) stands.duly

  next_as : (next : Begins) → row.link.next ≡ Some next → IsNextOf (Some next) g t row (link_in g.setup g.tale l)
  next_as next same_next = subst (λ (n : Option Begins). IsNextOf n g t row (link_in g.setup g.tale l)) same_next is.next

  module _ (same_next : row.link.next ≡ Some begins.Quits) (planned : planned_on g l ≡ Asks Quit) where
    quit_told : told_for g l offer.tag ≡ []
    quit_told = ap (told_for g l) (quit_tag may service g t l row stands is offer same_next left) ∙ quits_told may service g t l row stands is planned

    pub quits : Stands service (on g tale_now) (wrote_by (Some server) l count now t)
    quits =
        let tag_is : offer.tag ≡ tags.Own = quit_tag may service g t l row stands is offer same_next left in
        untold begins.Quits same_next (record { carries = λ k. refl; stage = λ k. refl; rest = λ k. refl; none = refl }) quit_told (
          quit_told,
          subst (λ (tag : Tag). IsNoStep (step_for tag (planned_on g l))) (sym tag_is) (subst (λ (step : StepText). IsNoStep (Some step)) (sym planned) tt),
          (next_as begins.Quits same_next).1,
          ap (λ (tag : Tag). quits_for tag (planned_on g l)) tag_is ∙ ap (λ (step : StepText). quits_for tags.Own step) planned,
        )

  -- a STMT_RESET, and a STMT_CLOSE

  module _ (number : ℕ) (fine : row.link.spoilt ≡ false) where
    module _ (same_next : row.link.next ≡ Some (begins.Resets number)) (planned : planned_on g l ≡ plan.Resets number) where
      pub resets : Stands service (on g tale_now) (wrote_by (Some server) l count now t)
      resets =
          let tag_is : offer.tag ≡ tags.Own =
          own_tag may service g t l row stands is (begins.Resets number) (spelt (step_payload (plan.Resets number))) (λ next. next) offer same_next left in
          let none : told_for g l offer.tag ≡ [] =
          ap (told_for g l) tag_is ∙ resets_told may service g t l row stands is (begins.Resets number) same_next fine number planned in
          untold (begins.Resets number) same_next (record { carries = λ k. refl; stage = λ k. refl; rest = λ k. refl; none = refl }) none (
            none,
            ap (λ (tag : Tag). step_for tag (planned_on g l)) tag_is ∙ ap (λ (step : StepText). Some step) planned,
            (next_as (begins.Resets number) same_next).1,
            ap (λ (tag : Tag). quits_for tag (planned_on g l)) tag_is ∙ ap (λ (step : StepText). quits_for tags.Own step) planned,
            fine,
          )

    module _ (at_stay : ClientsAtStay) (same_next : row.link.next ≡ Some (begins.Closes number)) (planned : planned_on g l ≡ plan.Closes number) where
      abbrev wire_closed : Wire
      wire_closed = wire_begun (begins.Closes number) same_next

      abbrev closed : Tale
      closed = tell (Unprepared l number) (still g l wire_closed)

      onward_closed : Onward g l closed
      onward_closed =
          let still = onward_still g l wire_closed in
          record {
            clients = refl;
            to_servers = λ other apart. refl;
            wires = still.wires;
            links = λ other apart. ap (λ (b : Bool). if b then closed_number number ((view_on g).links l) else (view_on g).links other) apart;
            lives = refl;
            pin = λ n. refl;
            id = λ n. refl;
            lasting = λ n earlier. refl;
            dues = λ n due due_there. due_there;
            carriers = λ m other carrier. carrier;
            replies = refl;
            ahead = λ other n apart carries ahead. ahead;
          }

      clients_closed : AreClients (on g closed) written
      clients_closed =
          let clients : AreClients (on g (still g l wire_closed)) written =
          clients_still g l wire_closed t written (λ c. refl) (λ k. refl) stands.clients in
          clients_made (on g (still g l wire_closed)) closed written written refl (λ k. refl) (λ c. refl)
          (All-weaker (IsAt (on g (still g l wire_closed)) written) (IsAt (on g closed) written)
          (λ client at. at_stay (on g (still g l wire_closed)) written written client (Unprepared l number) at refl refl refl) g.tale.clients clients.each) clients

      law_stage : (stage : view.Stage) → servers.is_quiet stage ≡ true → stage ≡ view.Quiet
      law_stage view.Quiet is_quiet = refl
      law_stage (view.Asked question) is_quiet = absurd (false≢true is_quiet)
      law_stage (view.Answered question) is_quiet = absurd (false≢true is_quiet)

      quiet_was : (link_in g.setup g.tale l).stage ≡ view.Quiet
      quiet_was = law_stage (link_in g.setup g.tale l).stage (law_quiet g t l row is (begins.Closes number) same_next)

      quiet_closed : (link_in g.setup closed l).stage ≡ view.Quiet
      quiet_closed =
          ap (λ (k : Link). k.stage) (put_there (view_on g).links l (closed_number number ((view_on g).links l))) ∙ quiet_was

      pub closes : Stands service (on g tale_now) (wrote_by (Some server) l count now t)
      closes =
          let tag_is : offer.tag ≡ tags.Own =
          own_tag may service g t l row stands is (begins.Closes number) (spelt (step_payload (plan.Closes number))) (λ next. next) offer same_next left in
          let happens : told_for g l offer.tag ≡ Unprepared l number ∷ [] =
          ap (told_for g l) tag_is ∙ closes_told may service g t l row stands is (begins.Closes number) same_next fine number planned in
          own_stands (begins.Closes number) same_next (record { carries = λ k. refl; stage = λ k. refl; rest = λ k. refl; none = refl })
          (Unprepared l number ∷ []) happens (
            happens,
            ap (λ (tag : Tag). step_for tag (planned_on g l)) tag_is ∙ ap (λ (step : StepText). Some step) planned,
            (next_as (begins.Closes number) same_next).1,
            ap (λ (tag : Tag). quits_for tag (planned_on g l)) tag_is ∙ ap (λ (step : StepText). quits_for tags.Own step) planned,
            fine,
          ) onward_closed (λ n. refl) (subst (λ (stage : view.Stage). IsStandingAt stage (on g closed) l) (sym quiet_closed) tt) clients_closed
          (stands.lawful, quiet_was)
          (are_prepared g closed g.over g.fresh t written stands.clients (λ m. refl) (owns_stay {g = g} {tale = closed} refl) stands.prepared (λ client seated. seated)
          (rows_same t written (λ c. refl))) stands.duly

  -- A question begins.

  module _ (asking : Asking) (same_next : row.link.next ≡ Some (begins.Asks asking)) (for : BegunFor may service g t l row stands is asking offer.tag) where
    abbrev begun : Begun g t l row asking offer.tag
    begun = for.begun

    abbrev wire_asked : Wire
    wire_asked = wire_begun (begins.Asks asking) same_next

    tale_asked : tale_now ≡ sent g l wire_asked begun.question
    tale_asked = begins_so (begins.Asks asking) same_next (Sent l begun.question ∷ []) begun.happens

    row_asked : IsRowIn g.setup g.codes g.plan tale_now l row_now
    row_asked =
        begins_there g.setup g.codes g.plan g.tale l row offer.tag count now is.row offer left within some (inside (begins.Asks asking) same_next) (begins.Asks asking) same_next
        (begun.question, begun.happens, begun.asked, begun.stays, for.fine)

    link_asked : row_now.link ≡ link_begun (begins.Asks asking) (record row.link { next = None; writing = option_map (link_writes.wrote count) row.link.writing })
    link_asked = wrote_row.link_is ∙ wrote_next count row.link (Some (begins.Asks asking)) (at_in (begins.Asks asking) same_next) same_next

    lawful_asked : IsLawful g.setup (Sent l begun.question ∷ g.tale.story)
    lawful_asked =
        tells_so g.setup (Sent l begun.question ∷ []) g.tale.story (tt, begun.of_view) (may_send may service g t l row stands is asking offer.tag same_next for) stands.lawful

    kind_asked : (tables : Option Purpose → Bool → Tabled) → (P : Tabled → Type 0) → P (tables (Some asking.purpose) (lasts (Some (begins.Asks asking))))
        → P (tables (purpose_next row) (lasts row.link.next))
    kind_asked tables P here =
        subst (λ (kind : Kind). P (tables (began kind) (lasts row.link.next)))
        (sym (kind_next row.link (Some (begins.Asks asking)) (at_in (begins.Asks asking) same_next) same_next))
        (subst (λ (n : Option Begins). P (tables (Some asking.purpose) (lasts n))) (sym same_next) here)

    -- what is due where it is lent, but to a statement that stands there
    abbrev IsLentNow : View → Type 0
    IsLentNow seen =
        row.lost ≡ false → row.left ≡ None → is_stating (Asked asking) ≡ false → OfLent (lent_for asking.purpose row.link.state.carries) (IsAhead seen)

    -- the link's row, where what stands there is said, and what comes of its reply
    server_asked : (q : Question) → begun.question ≡ q → (tables : Tabled) → OfStatement q (IsStanding (on g (sent g l wire_asked q)) l)
        → IsLentNow (view_on (on g (sent g l wire_asked q)))
        → (is_some row.left ≡ true → IsPartedFor asking.purpose (on g (sent g l wire_asked q))) → IsReplyingFor asking.purpose (on g (sent g l wire_asked q)) tables l row_now asking → IsServer (on g (sent g l wire_asked q)) tables l row_now
    server_asked q same_q tables standing lent parted replying = record {
      row = subst (λ (tale : Tale). IsRowIn g.setup g.codes g.plan tale l row_now) (tale_asked ∙ ap (sent g l wire_asked) same_q) row_asked;
      user = ap (λ (i : Identity). i.user) wrote_row.identity ∙ is.user;
      found_rows = ap (λ (i : Identity). i.found_rows) wrote_row.identity ∙ is.found_rows;
      standing = subst (λ (link : Link). IsStandingAt link.stage (on g (sent g l wire_asked q)) l) (sym (put_there (view_on g).links l (asked_there q ((view_on g).links l)))) standing;
      next = subst (λ (n : Option Begins). IsNextOf n (on g (sent g l wire_asked q)) tables row_now (link_in g.setup (sent g l wire_asked q) l))
          (sym (ap (λ (k : LentLink). k.next) link_asked)) tt;
      lent = λ here mine unstated.
          subst (λ (k : LentLink). OfLent k.state.carries (IsAhead (view_on (on g (sent g l wire_asked q))))) (sym link_asked)
          (lent (sym wrote_row.lost ∙ here) (sym wrote_row.left ∙ mine) (ap (λ (k : LentLink). is_stating k.state.stage) (sym link_asked) ∙ unstated));
      parted = λ sound kept left_some.
          subst (λ (stage : Stage). IsPartedAt stage (on g (sent g l wire_asked q))) (sym (ap (λ (k : LentLink). k.state.stage) link_asked))
          (parted (ap (λ (x : Option LeftSession). is_some x) (sym wrote_row.left) ∙ left_some));
      replying = λ sound kept mine.
          subst (λ (stage : Stage). IsReplyingAt stage (on g (sent g l wire_asked q)) tables l row_now) (sym (ap (λ (k : LentLink). k.state.stage) link_asked)) replying;
    }

    lawful_as : (q : Question) → begun.question ≡ q → IsLawful g.setup (Sent l q ∷ g.tale.story)
    lawful_as q same_q = subst (λ (x : Question). IsLawful g.setup (Sent l x ∷ g.tale.story)) same_q lawful_asked

    -- a step

    step_stands : (q : Question) → IsStep q → OfStatement q (IsStanding (on g (sent g l wire_asked q)) l)
    step_stands (story.Statement n due) step = absurd step
    step_stands (story.Prep n key text) step = absurd step
    step_stands (story.Sync n command) step = tt
    step_stands (story.Own command) step = tt
    step_stands (story.End n) step = tt
    step_stands (story.Capture n) step = tt

    steps : IsStep begun.question → lent_for asking.purpose row.link.state.carries ≡ row.link.state.carries → IsPartedFor asking.purpose (on g (sent g l wire_asked begun.question))
        → IsReplyingFor asking.purpose (on g (sent g l wire_asked begun.question)) written l row_now asking → Stands service (on g tale_now) written
    steps step same_carries parted replying =
        let q = begun.question in
        let tale = sent g l wire_asked q in
        let alike : Alike (view_on g) (view_of g.setup tale) = step_alike g.setup (view_on g) l q step in
        let lent_now : IsLentNow (view_of g.setup tale) = λ here mine unstated.
        ahead_same (view_on g) (view_of g.setup tale) (lent_for asking.purpose row.link.state.carries) (λ n. ap (λ (f : SessionName → Option Due). f n) alike.dues)
        (subst (λ (c : Carried). OfLent c (IsAhead (view_on g))) (sym same_carries)
        (is.lent here mine (ap is_stating (quiet g t l row is (begins.Asks asking) same_next)))) in
        subst (λ (x : Tale). Stands service (on g x) written) (sym tale_asked) (record {
          service_is = stands.service_is;
          room_is = stands.room_is;
          clients = clients_step g l wire_asked q step t written (λ c. refl) (λ k. refl) stands.clients;
          servers = servers_made g (on g tale) t written l server_now there_now
              (by_to_server (is_to_server tale l) (on g tale) written l server_now to_server (server_asked q refl written (step_stands q step) lent_now (λ left_some. parted) replying))
              (λ other apart.
              subst (λ (x : Option Server). IsServerOr (on g tale) written other x) (sym (others_now other apart))
              (server_on g t written l tale (onward_step g l wire_asked q step) (same_reads t written (λ c. refl)) other apart (t.links other) (stands.servers other)));
          homes = homes_on g (on g tale) t written
              (same_but t written l server server_now (λ c. refl) there there_now others_now (ap (λ (k : LentLink). name_in k.state.carries) link_asked ∙ ap name_in same_carries)
              wrote_row.left wrote_row.lost) stands.homes;
          lawful = lawful_asked;
          prepared = are_prepared g tale g.over g.fresh t written stands.clients (λ m. refl) (owns_stay {g = g} {tale = tale} refl) stands.prepared (λ client seated. seated)
              (rows_same t written (λ c. refl));
          duly = stands.duly;
        })

    -- a client's statement

    module _ (others : OthersStay) (coming : ComingStays) (sends_so : SentStands) (outlasts_so : OutlastsAsSaid) (name : SessionName) (ordinal key : ℕ)
        (purpose : asking.purpose ≡ purposes.Statement name ordinal key) (so : IsStated g t row name ordinal begun.question) where
      abbrev due : Due
      due = so.at.unsent.due

      abbrev client : Client
      client = so.client

      abbrev lasting : Bool
      lasting = outlasts asking.form

      abbrev statement : Question
      statement = story.Statement name due

      abbrev tale_sent : Tale
      tale_sent = sent g l wire_asked statement

      abbrev goes_out : Client → Client
      goes_out = client_sent name.hostgroup l lasting

      abbrev tables : Tabled
      tables = client_changed name.client goes_out written

      of_group : so.work.hostgroup ≡ name.hostgroup
      of_group = ap (λ (m : SessionName). m.hostgroup) (sym so.at.names)

      names : name ≡ desks.name_of client.desk name.hostgroup
      names = so.at.names ∙ ap (desks.name_of client.desk) of_group

      is_form : IsForm g.setup.reads asking.form due.command
      is_form = subst (λ (q : Question). IsForm g.setup.reads asking.form (command_of q)) so.is begun.asked.said.asks.form

      lasts_so : lasting ≡ (class_of g.setup.reads due.command).outlasts_reset
      lasts_so = outlasts_so g.setup.reads asking.form due.command is_form

      due_here : (view_on g).dues name ≡ Some due
      due_here = due_is g client name ordinal so.work so.at

      life : name.life ≡ (view_on g).lives name.client name.hostgroup
      life = life_is g client name ordinal so.work so.at

      not_sent : (view_on g).carriers (message_of name due) ≡ None
      not_sent = unsent_there g client name ordinal so.work so.at

      none_unread : wire.unread ≡ []
      none_unread = unread g t l row is (begins.Asks asking) same_next for.fine

      -- links that carry others' sessions aren't concerned
      apart_sent : (other : LinkId) (n : SessionName) → is_link_id other l ≡ false → session_in ((view_on g).links other).carries ≡ Some n
          → is_name n name ≡ false
      apart_sent other n apart carries =
          sent_apart g.setup (view_on g) (homes_so g.setup g.tale.story stands.lawful) other l n name due carries apart (lawful_as statement so.is).1.fits

      next_statement : IsNextStatement g t row (link_in g.setup g.tale l) asking name ordinal
      next_statement =
          subst (λ (p : Purpose). IsNextFor p g t row (link_in g.setup g.tale l) asking) purpose
          (subst (λ (n : Option Begins). IsNextOf n g t row (link_in g.setup g.tale l)) same_next is.next).1

      left_none : row.left ≡ None
      left_none = subst (λ (q : Question). OfStatement q (λ n due. row.left ≡ None)) so.is begun.asked.present

      reads_on : Reads t tables
      reads_on =
          let reads = reads_sent written name.client client so.work so.there so.in_work so.unsent name.hostgroup l lasting in
          record {
            firsts = λ c r w at in_now.
                let older = reads.firsts c r w at in_now in
                record { row_was = older.row_was; there = older.there; work_was = older.work_was; in_work = older.in_work; ordinal = older.ordinal; first = older.first };
            kept = λ c r w was in_was sent_was. reads.kept c r w was in_was sent_was;
          }

      made : (c : ClientNo) → tables.clients c ≡ (client_changed name.client goes_out t).clients c
      made c = refl

      due_ordinal_is : due.ordinal ≡ so.work.ordinal
      due_ordinal_is = so.at.unsent.as_due.request.ordinal_is

      clients_on : AreClients (on g tale_sent) tables
      clients_on =
          clients_sent g t tables l wire_asked name due client so.work lasting others coming sends_so so.there so.in_work so.unsent names of_group due_here
          due_ordinal_is lasts_so made (λ k. refl) stands.clients

      now_here : tables.clients name.client ≡ Some (goes_out client)
      now_here =
          now_there g t tables l wire_asked name due client so.work lasting others coming sends_so so.there so.in_work so.unsent names of_group due_here
          due_ordinal_is lasts_so made (λ k. refl)

      apart_here : (c : ClientNo) → nat_eq name.client.0 c.0 ≡ false → tables.clients c ≡ t.clients c
      apart_here =
          now_apart g t tables l wire_asked name due client so.work lasting others coming sends_so so.there so.in_work so.unsent names of_group due_here
          due_ordinal_is lasts_so made (λ k. refl)

      standing_now : IsStanding (on g tale_sent) l name due
      standing_now = record {
        carrier = ap (λ (b : Bool). if b then Some l else (view_on g).carriers (message_of name due)) (same_message (message_of name due));
        unanswered = unanswered_there g client name ordinal so.work so.at;
      }

      replying_now : IsReplying (on g tale_sent) tables l row_now asking name ordinal
      replying_now = record {
        client = goes_out client;
        work = gone_out so.work;
        there = now_here;
        in_work = ap (option_map gone_out) so.in_work;
        last = so.at.ordinal_is;
        sent = refl;
        hostgroup = of_group;
        number = ap (λ (k : LentLink). k.number) link_asked ∙ next_statement.number;
        first = next_statement.first client so.work so.there so.in_work so.at.ordinal_is ∙ sym (ap (λ (k : LentLink). k.first) link_asked);
        coming = so.at.dry
            ∙ ap (λ (unread : List ℕ). renumbered (started (sought (kind_of asking.form) (reply_id (tale_sent.wires l)) row_now.link.first row_now.link.number)) unread)
            (sym (unread_now (begins.Asks asking) same_next none_unread));
      }

      server_on_sent : IsServer (on g tale_sent) tables l row_now
      server_on_sent =
          server_asked statement so.is tables standing_now
          (λ here mine unstated. absurd (true≢false (sym (ap (λ (p : Purpose). is_stating (Asked (record asking { purpose = p }))) purpose) ∙ unstated))) (λ left_some. absurd (false≢true (sym (ap (λ (x : Option LeftSession). is_some x) left_none) ∙ left_some)))
          (subst (λ (p : Purpose). IsReplyingFor p (on g tale_sent) tables l row_now asking) (sym purpose) replying_now)

      carries_now : name_in row_now.link.state.carries ≡ name_in (lends_by name row.link.state.carries)
      carries_now =
          ap (λ (k : LentLink). name_in k.state.carries) link_asked
          ∙ ap (λ (p : Purpose). name_in (lent_for p row.link.state.carries)) purpose

      at_home : ((session_of client.desk name.hostgroup).home ≡ None) ⊎ (name_in row.link.state.carries ≡ Some name)
      at_home = subst (λ (h : Hostgroup). ((session_of client.desk h).home ≡ None) ⊎ (name_in row.link.state.carries ≡ Some name)) of_group so.home

      homes_desk : SentDesk client.desk (goes_out client).desk name.hostgroup l
      homes_desk =
          sent_desk g.setup (view_on g) so.at.client.number client.desk (goes_out client).desk l name statement refl so.at.desk
          (sends_so g.setup (view_on g) so.at.client.number client.desk so.at.desk l name.hostgroup name due lasting so.work names lasts_so so.in_work of_group so.unsent due_here)
          names

      homes_now : AreHomes (on g tale_sent) tables
      homes_now =
          homes_moved t tables l name client (goes_out client) so.there now_here apart_here names g (on g tale_sent) server server_now homes_desk
          there there_now others_now carries_now so.carries wrote_row.left wrote_row.lost left_none for.lost at_home stands.homes

      statement_stands : Stands service (on g tale_now) tables
      statement_stands =
          subst (λ (x : Tale). Stands service (on g x) tables) (sym (tale_asked ∙ ap (sent g l wire_asked) so.is)) (record {
            service_is = stands.service_is;
            room_is = stands.room_is;
            clients = clients_on;
            servers = servers_made g (on g tale_sent) t tables l server_now there_now
                (by_to_server (is_to_server tale_sent l) (on g tale_sent) tables l server_now to_server server_on_sent)
                (λ other apart.
                subst (λ (x : Option Server). IsServerOr (on g tale_sent) tables other x) (sym (others_now other apart))
                (server_on g t tables l tale_sent (onward_statement g l wire_asked name due life not_sent apart_sent) reads_on other apart (t.links other) (stands.servers other)));
            homes = homes_now;
            lawful = lawful_as statement so.is;
            prepared = are_prepared g tale_sent g.over g.fresh t tables stands.clients (λ m. refl) (owns_stay {g = g} {tale = tale_sent} refl) stands.prepared (λ client seated. seated)
                (rows_changed t tables name.client goes_out (λ r. refl) made);
            duly = stands.duly;
          })

    -- the preparation of its text

    module _ (at_stay : ClientsAtStay) (coming : ComingStays) (lends_so : LentStands) (name : SessionName) (ordinal key : ℕ)
        (purpose : asking.purpose ≡ purposes.Prep name ordinal key) (so : IsPrepDue g t row name ordinal begun.question) where
      abbrev prep_due : Due
      prep_due = so.at.unsent.due

      abbrev prep_row : Client
      prep_row = so.client

      abbrev prep : Question
      prep = story.Prep name prep_due.key (keyed_text g prep_due)

      abbrev tale_lent : Tale
      tale_lent = sent g l wire_asked prep

      abbrev lends : Client → Client
      lends = client_lent name.hostgroup l

      abbrev lent_tables : Tabled
      lent_tables = client_changed name.client lends written

      group_is : so.work.hostgroup ≡ name.hostgroup
      group_is = ap (λ (m : SessionName). m.hostgroup) (sym so.at.names)

      named_so : name ≡ desks.name_of prep_row.desk name.hostgroup
      named_so = so.at.names ∙ ap (desks.name_of prep_row.desk) group_is

      row_so : HasRow prep_row.desk.sessions name.hostgroup
      row_so =
          subst (λ (h : Hostgroup). HasRow prep_row.desk.sessions h) group_is
          (subst (λ (w : Option Work). HasRowFor prep_row.desk.sessions w) so.in_work so.at.desk.row)

      prep_is_due : (view_on g).dues name ≡ Some prep_due
      prep_is_due = due_is g prep_row name ordinal so.work so.at

      ahead_so : (c : Carried) → name_in (lends_by name c) ≡ Some name → OfLent (lends_by name c) (IsAhead (view_on g))
      ahead_so Nobody same = ap (λ (d : Option Due). is_some d) prep_is_due
      ahead_so (Lent m) same = ap (λ (k : SessionName). is_some ((view_on g).dues k)) (same_Some m name same) ∙ ap (λ (d : Option Due). is_some d) prep_is_due
      ahead_so (Joined m) same = tt

      lent_row_now : IsServer (on g tale_lent) lent_tables l row_now
      lent_row_now =
          server_asked prep so.is lent_tables tt
          (λ here mine unstated.
          subst (λ (p : Purpose). OfLent (lent_for p row.link.state.carries) (IsAhead (view_of g.setup tale_lent))) (sym purpose)
          (ahead_so row.link.state.carries so.carries))
          (λ left_some. subst (λ (p : Purpose). IsPartedFor p (on g tale_lent)) (sym purpose) tt)
          (subst (λ (p : Purpose). IsReplyingFor p (on g tale_lent) lent_tables l row_now asking) (sym purpose) tt)

      still_clients : AreClients (on g (still g l wire_asked)) t
      still_clients = clients_still g l wire_asked t t (λ c. refl) (λ k. refl) stands.clients

      lent_clients : AreClients (on g tale_lent) lent_tables
      lent_clients =
          clients_lent (on g (still g l wire_asked)) t lent_tables l name prep_due.key (keyed_text g prep_due) prep_row so.work at_stay coming lends_so so.there
          so.in_work so.unsent named_so row_so (λ c. refl) (λ k. refl) still_clients

      lent_here : lent_tables.clients name.client ≡ Some (lends prep_row)
      lent_here =
          lent_there (on g (still g l wire_asked)) t lent_tables l name prep_due.key (keyed_text g prep_due) prep_row so.work at_stay coming lends_so so.there
          so.in_work so.unsent named_so row_so (λ c. refl) (λ k. refl)

      lent_desk : SentDesk prep_row.desk (lends prep_row).desk name.hostgroup l
      lent_desk =
          sent_desk g.setup (view_on g) so.at.client.number prep_row.desk (lends prep_row).desk l name prep refl so.at.desk
          (lends_so g.setup (view_on g) so.at.client.number prep_row.desk so.at.desk l name.hostgroup name prep_due.key (keyed_text g prep_due) named_so row_so)
          named_so

      carries_lent : name_in row_now.link.state.carries ≡ name_in (lends_by name row.link.state.carries)
      carries_lent =
          ap (λ (k : LentLink). name_in k.state.carries) link_asked ∙ ap (λ (p : Purpose). name_in (lent_for p row.link.state.carries)) purpose

      home_so : ((session_of prep_row.desk name.hostgroup).home ≡ None) ⊎ (name_in row.link.state.carries ≡ Some name)
      home_so = subst (λ (h : Hostgroup). ((session_of prep_row.desk h).home ≡ None) ⊎ (name_in row.link.state.carries ≡ Some name)) group_is so.home

      lent_homes : AreHomes (on g tale_lent) lent_tables
      lent_homes =
          homes_moved t lent_tables l name prep_row (lends prep_row) so.there lent_here (λ c apart. client_apart name.client c lends t apart) named_so
          g (on g tale_lent) server server_now lent_desk there there_now others_now carries_lent so.carries wrote_row.left wrote_row.lost so.present for.lost home_so
          stands.homes

      prep_stands : Stands service (on g tale_now) lent_tables
      prep_stands =
          subst (λ (x : Tale). Stands service (on g x) lent_tables) (sym (tale_asked ∙ ap (sent g l wire_asked) so.is)) (record {
            service_is = stands.service_is;
            room_is = stands.room_is;
            clients = lent_clients;
            servers = servers_made g (on g tale_lent) t lent_tables l server_now there_now
                (by_to_server (is_to_server tale_lent l) (on g tale_lent) lent_tables l server_now to_server lent_row_now)
                (λ other apart.
                subst (λ (x : Option Server). IsServerOr (on g tale_lent) lent_tables other x) (sym (others_now other apart))
                (server_on g t lent_tables l tale_lent (onward_prep g l wire_asked name prep_due.key (keyed_text g prep_due))
                (record {
                  firsts = λ c r w at in_now.
                      let older = (reads_lent written name.client name.hostgroup l).firsts c r w at in_now in
                      record { row_was = older.row_was; there = older.there; work_was = older.work_was; in_work = older.in_work; ordinal = older.ordinal; first = older.first };
                  kept = λ c r w was in_was sent_was. (reads_lent written name.client name.hostgroup l).kept c r w was in_was sent_was;
                }) other apart (t.links other) (stands.servers other)));
            homes = lent_homes;
            lawful = lawful_as prep so.is;
            prepared = are_prepared g tale_lent g.over g.fresh t lent_tables stands.clients (λ m. refl) (owns_stay {g = g} {tale = tale_lent} refl) stands.prepared (λ client seated. seated)
                (rows_changed t lent_tables name.client lends (λ r. refl) (λ c. refl));
            duly = stands.duly;
          })

    module _ (others : OthersStay) (coming : ComingStays) (at_stay : ClientsAtStay) (sends_so : SentStands) (lends_so : LentStands)
        (outlasts_so : OutlastsAsSaid) where
      asked_by : (p : Purpose) → asking.purpose ≡ p → OfPurpose p g t row begun.question
          → Stands service (on g tale_now) (begun_for (Some p) l (lasts (Some (begins.Asks asking))) written)
      asked_by (purposes.Statement name ordinal key) same so = statement_stands others coming sends_so outlasts_so name ordinal key same so
      asked_by (purposes.Prep name ordinal key) same so = prep_stands at_stay coming lends_so name ordinal key same so
      asked_by (purposes.Sync name) same step =
          steps step (ap (λ (p : Purpose). lent_for p row.link.state.carries) same)
          (subst (λ (p : Purpose). IsPartedFor p (on g (sent g l wire_asked begun.question))) (sym same) tt)
          (subst (λ (p : Purpose). IsReplyingFor p (on g (sent g l wire_asked begun.question)) written l row_now asking) (sym same) tt)
      asked_by purposes.Own same step =
          steps step (ap (λ (p : Purpose). lent_for p row.link.state.carries) same)
          (subst (λ (p : Purpose). IsPartedFor p (on g (sent g l wire_asked begun.question))) (sym same) tt)
          (subst (λ (p : Purpose). IsReplyingFor p (on g (sent g l wire_asked begun.question)) written l row_now asking) (sym same) tt)
      asked_by (purposes.End name) same step =
          steps step (ap (λ (p : Purpose). lent_for p row.link.state.carries) same)
          (subst (λ (p : Purpose). IsPartedFor p (on g (sent g l wire_asked begun.question))) (sym same) tt)
          (subst (λ (p : Purpose). IsReplyingFor p (on g (sent g l wire_asked begun.question)) written l row_now asking) (sym same) tt)
      asked_by (purposes.Capture name) same step =
          steps step (ap (λ (p : Purpose). lent_for p row.link.state.carries) same)
          (subst (λ (p : Purpose). IsPartedFor p (on g (sent g l wire_asked begun.question))) (sym same) tt)
          (subst (λ (p : Purpose). IsReplyingFor p (on g (sent g l wire_asked begun.question)) written l row_now asking) (sym same) tt)

      pub asks : Stands service (on g tale_now) (wrote_by (Some server) l count now t)
      asks =
          kind_asked (λ purpose last. begun_for purpose l last written) (λ (x : Tabled). Stands service (on g tale_now) x)
          (asked_by asking.purpose refl begun.for)

-- By what stands next.

module _ (may : MayBegin) (says : Says) (writes_on : WritesOn) (begins_there : BeginsThere) (others : OthersStay) (coming : ComingStays) (at_stay : ClientsAtStay)
    (sends_so : SentStands) (lends_so : LentStands) (outlasts_so : OutlastsAsSaid) (service : Service) (g : Ground) (t : Tabled) (l : LinkId) (server : Server)
    (offer : Offer) (count now : ℕ) (stands : Stands service g t) (there : t.links l ≡ Some server) (is : IsServer g t l server.row)
    (some : 0 < count) (within : count ≤ length offer.bytes) where
  written_by : (next : Option Begins) → server.row.link.next ≡ next → passes_next next server.row t ≡ true → left_in server.row.link ≡ Some offer
      → IsPlanned next g l server.row
      → Stands service (on g (writes g.setup g.plan l offer.tag (take count offer.bytes) (g.tale.wires l) g.tale)) (wrote_by (Some server) l count now t)
  written_by None same passes left planned =
      goes may says writes_on begins_there service g t l server offer count now stands there is left some within same
  written_by (Some (begins.Asks asking)) same passes left planned =
      asks may says writes_on begins_there service g t l server offer count now stands there is left some within asking same
      (begun_so may service g t l server.row stands is asking offer same passes left planned) others coming at_stay sends_so lends_so outlasts_so
  written_by (Some (begins.Closes number)) same passes left planned =
      closes may says writes_on begins_there service g t l server offer count now stands there is left some within number
      (fine_so may service g t l server.row stands is passes) at_stay same planned
  written_by (Some (begins.Resets number)) same passes left planned =
      resets may says writes_on begins_there service g t l server offer count now stands there is left some within number
      (fine_so may service g t l server.row stands is passes) same planned
  written_by (Some begins.Quits) same passes left planned =
      quits may says writes_on begins_there service g t l server offer count now stands there is left some within same planned

  pub written_so : IsLent t server.row offer → IsPlanned server.row.link.next g l server.row
      → Stands service (on g (told g.setup g.plan g.tale (WroteBytes l offer.tag (take count offer.bytes)))) (wrote_on_tables l count now t)
  written_so lent planned =
      let tale = writes g.setup g.plan l offer.tag (take count offer.bytes) (g.tale.wires l) g.tale in
      let aside = record g.tale { clients = map (client_gets l (length (take count offer.bytes))) g.tale.clients } in
      subst (λ (b : Bool). Stands service (on g (if b then tale else aside)) (wrote_on_tables l count now t)) (sym (is_servers service g t l server stands there))
      (subst (λ (s : Option Server). Stands service (on g tale) (wrote_by s l count now t)) (sym there)
      (written_by server.row.link.next refl lent.passes lent.left planned))
