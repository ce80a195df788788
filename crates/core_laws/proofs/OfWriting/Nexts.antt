-- Something is to be written next on a link, and no client changes.
use Rattle.std.specs.Prelude.{◌≡◌, ℕ, Bool, true, false, is_some, All, List, Option, Some, None}
use Rattle.std.specs.Option.{option_map}
use Rattle.std.proofs.Common.{refl, sym, ap, ◌∙◌, subst}
use Rattle.std.proofs.lemmas.Bool.{and_parts}
use Rattle.std.proofs.lemmas.List.Elements.{All-weaker}
use Rattle.mx_base.specs.declared.tag.Tag.{Tag}
use Rattle.mx_base.specs.declared.tag.Tag.TheVariants as tags
use Rattle.client_session.specs.Setups.{Setup as Service}
use Rattle.reply_relay.specs.Cells.{CellRead}
use Rattle.private_model.specs.Commands as commands
use Rattle.private_model.specs.Commands.{Command}
use Rattle.private_model.specs.Names.{ClientNo, LinkId, SessionName}
use Rattle.private_model.specs.Story as story
use Rattle.private_model.specs.Story.{is_link_id}
use Rattle.private_model.specs.View.{Link, Setup}
use Rattle.log_story.specs.Plan as plan
use Rattle.log_story.specs.Plan.{Plan, step_payload, text_payload}
use Rattle.log_story.specs.Tale as tales
use Rattle.log_story.specs.Tale.{Tale, is_to_server, link_in}
use Rattle.link_state.specs.Asks.{tag_of}
use Rattle.link_state.specs.Dones.{is_quiet}
use Rattle.link_state.specs.Spells.{spelt}
use Rattle.link_state.specs.declared.asking.Asking.{Asking}
use Rattle.link_state.specs.declared.asking.Purpose.{Purpose}
use Rattle.link_state.specs.declared.asking.Purpose.TheVariants as purposes
use Rattle.link_state.specs.declared.state.LinkState.{LinkState}
use Rattle.link_state.specs.declared.state.Stage.{Stage}
use Rattle.link_state.specs.declared.state.Stage.TheVariants.{Quiet}
use Rattle.link_state.specs.declared.wish.Wish.{Wish}
use Rattle.link_state.specs.declared.wish.Wish.TheVariants as wishes
use Rattle.link_laws.specs.Stands.{Codes, IsPurpose}
use Rattle.server_rule.specs.Classes.{Reads as Classes}
use Rattle.lent_link.specs.Links.{is_in, stands_next}
use Rattle.lent_link.specs.Rests.{is_resetting, is_written, may_begin}
use Rattle.lent_link.specs.declared.link.LentLink.{LentLink}
use Rattle.link_state.specs.declared.asking.Form.TheVariants.{ReadId, Reset}
use Rattle.lent_link.specs.declared.link.Begins.{Begins}
use Rattle.lent_link.specs.declared.link.Begins.TheVariants as begins
use Rattle.served_link.specs.Begins.{captures, ends, farewell, step_begins}
use Rattle.served_link.specs.declared.row.Identity.{Identity}
use Rattle.served_link.specs.declared.row.LeftSession.{LeftSession}
use Rattle.served_link.specs.declared.row.Row.{Row}
use Rattle.row_laws.specs.Begins.{IsNext, IsReadied}
use Rattle.row_laws.specs.Readied.{AreClasses, IsStepFor, IsWished, form_of}
use Rattle.row_laws.specs.Rows.{IsRowIn}
use Rattle.row_laws.specs.Whose.{name_in}
use Rattle.core_tables.specs.Beginning.{capture_begun, end_begun, quit_begun, step_begun, with_row}
use Rattle.core_tables.specs.Tables.{Tabled, link_changed}
use Rattle.core_tables.specs.declared.client.Client.{Client}
use Rattle.core_tables.specs.declared.server.Server.{Server}
use Rattle.core_stands.specs.Clients.{IsClientOr}
use Rattle.core_stands.specs.Grounds.{Ground, on, view_on}
use Rattle.core_stands.specs.Servers.{IsNextFor, IsNextOf, IsPartedAt, IsReplyingAt, IsServer, IsServerOr, IsAhead, OfLent, is_stating, tag_for}
use Rattle.core_stands.specs.Stands.{AreClients, IsAt, Stands}
use Rattle.core_laws.specs.writing.Planned.{IsOpen}
use Rattle.core_laws.proofs.OfWriting.Framing.{Onward, flipped, homes_on, link_apart, link_here, same_reads, server_on}
use Rattle.core_laws.proofs.OfWriting.Knowing.{code_quiet, is_servers, server_at}
use Rattle.core_laws.proofs.OfWriting.Sending.{by_to_server, same_but, servers_made}

-- nothing is told
pub onward_none : (g : Ground) (l : LinkId) → Onward g l g.tale
onward_none g l = record {
  clients = refl;
  to_servers = λ other apart. refl;
  wires = λ other apart. refl;
  links = λ other apart. refl;
  lives = refl;
  pin = λ n. refl;
  id = λ n. refl;
  lasting = λ n earlier. refl;
  dues = λ n due there. there;
  carriers = λ m other there. there;
  replies = refl;
  ahead = λ other n apart carries ahead. ahead;
}

pub quiet_open : (link : LentLink) → may_begin link ≡ true → link.state.stage ≡ Quiet
quiet_open link free =
    let a = and_parts (is_in link.login.stage) _ free in
    let b = and_parts (is_quiet link.state.stage) _ a.1 in
    code_quiet link.state.stage b.0

-- A link's row changes in what stands next there.

module _ (service : Service) (g : Ground) (t : Tabled) (l : LinkId) (server : Server) (stands : Stands service g t) (open_so : IsOpen g t l server) (by : Row → Row)
    (row_in : IsRowIn g.setup g.codes g.plan g.tale l (by server.row)) (identity : (by server.row).identity ≡ server.row.identity)
    (state : (by server.row).link.state ≡ server.row.link.state) (left : (by server.row).left ≡ server.row.left) (lost : (by server.row).lost ≡ server.row.lost)
    (next : IsNextOf (by server.row).link.next g (link_changed l (with_row by) t) (by server.row) (link_in g.setup g.tale l)) where
  abbrev now : Tabled
  now = link_changed l (with_row by) t

  abbrev after : Server
  after = with_row by server

  is : IsServer g t l server.row
  is = server_at service g t l server stands open_so.there

  there_now : now.links l ≡ Some after
  there_now = link_here l (with_row by) t ∙ ap (option_map (with_row by)) open_so.there

  others_now : (other : LinkId) → is_link_id other l ≡ false → now.links other ≡ t.links other
  others_now other apart = link_apart l other (with_row by) t (flipped other.0 l.0 apart)

  quiet_now : (by server.row).link.state.stage ≡ Quiet
  quiet_now = ap (λ (s : LinkState). s.stage) state ∙ quiet_open server.row.link open_so.free

  server_now : IsServer g now l (by server.row)
  server_now = record {
    row = row_in;
    user = ap (λ (i : Identity). i.user) identity ∙ is.user;
    found_rows = ap (λ (i : Identity). i.found_rows) identity ∙ is.found_rows;
    standing = is.standing;
    next = next;
    lent = λ kept mine.
        subst (λ (s : LinkState). is_stating s.stage ≡ false → OfLent s.carries (IsAhead (view_on g))) (sym state)
        (is.lent (sym lost ∙ kept) (sym left ∙ mine));
    parted = λ sound kept left_some. subst (λ (stage : Stage). IsPartedAt stage g) (sym quiet_now) tt;
    replying = λ sound kept mine. subst (λ (stage : Stage). IsReplyingAt stage g now l (by server.row)) (sym quiet_now) tt;
  }

  at_now : (client : tales.Client) → IsAt g t client → IsAt g now client
  at_now client at = record { row = at.row; found = at.found; aside = at.aside; alone = at.alone }

  pub stands_by : Stands service g now
  stands_by = record {
    service_is = stands.service_is;
    room_is = stands.room_is;
    clients = record {
      counted = stands.clients.counted;
      each = All-weaker (IsAt g t) (IsAt g now) at_now g.tale.clients stands.clients.each;
      known = stands.clients.known;
      named = stands.clients.named;
    };
    servers = servers_made g g t now l after there_now
        (by_to_server (is_to_server g.tale l) g now l after (is_servers service g t l server stands open_so.there) server_now)
        (λ other apart.
        subst (λ (x : Option Server). IsServerOr g now other x) (sym (others_now other apart))
        (server_on g t now l g.tale (onward_none g l) (same_reads t now (λ c. refl)) other apart (t.links other) (stands.servers other)));
    homes = homes_on g g t now (same_but t now l server after (λ c. refl) open_so.there there_now others_now (ap (λ (s : LinkState). name_in s.carries) state) left lost) stands.homes;
    lawful = stands.lawful;
    prepared = stands.prepared;
    duly = stands.duly;
  }

-- row_laws' rows_take_next, steps_are_readied and ends_are_readied

abbrev pub TakesNext : Type 0
TakesNext = (setup : Setup) (codes : Codes) (plan : Plan) (tale : Tale) (l : LinkId) (row : Row) (tag : Tag) (spelt_so : List ℕ) (next : Begins)
    (first number : ℕ) (multiplex : Option Bool) (cell : Option CellRead) → IsRowIn setup codes plan tale l row
    → (tale.wires l).entered ≡ true → may_begin row.link ≡ true → row.link.quits ≡ false
    → IsRowIn setup codes plan tale l (record row { link = stands_next tag spelt_so next first number row.link; multiplex = multiplex; cell = cell })

abbrev pub StepsReadied : Type 0
StepsReadied = (reads : Classes) (codes : Codes) (row : Row) (link : Link) (purpose : Purpose) (wish : Wish) (question : story.Question) → AreClasses reads
    → IsStepFor purpose → IsPurpose codes purpose question → IsWished wish (story.command_of question)
    → IsReadied reads codes (step_begins purpose wish row) link (record { purpose = purpose; form = form_of wish }) question

abbrev pub EndsReadied : Type 0
EndsReadied = (reads : Classes) (codes : Codes) (row : Row) (link : Link) (name n : SessionName) → name ≡ n
    → IsReadied reads codes (ends name row) link (record { purpose = purposes.End name; form = Reset }) (story.End n)

abbrev pub CapturesReadied : Type 0
CapturesReadied = (reads : Classes) (codes : Codes) (row : Row) (link : Link) (name n : SessionName) → name ≡ n
    → IsReadied reads codes (captures name row) link (record { purpose = purposes.Capture name; form = ReadId }) (story.Capture n)

module _ (takes : TakesNext) (service : Service) (g : Ground) (t : Tabled) (l : LinkId) (server : Server) (stands : Stands service g t) (open_so : IsOpen g t l server) where
  abbrev Next : Tag → List ℕ → Begins → Option CellRead → Type 0
  Next tag bytes next cell = IsRowIn g.setup g.codes g.plan g.tale l (record server.row { link = stands_next tag bytes next 1 0 server.row.link; multiplex = None; cell = cell })

  pub row_next : (tag : Tag) (bytes : List ℕ) (next : Begins) (cell : Option CellRead) → Next tag bytes next cell
  row_next tag bytes next cell =
      takes g.setup g.codes g.plan g.tale l server.row tag bytes next 1 0 None cell (server_at service g t l server stands open_so.there).row open_so.entered open_so.free open_so.stays

  abbrev link : Link
  link = link_in g.setup g.tale l

  -- of each purpose the tag is as it should be
  tag_same : (p : Purpose) → tag_of p ≡ tag_for p
  tag_same (purposes.Statement name ordinal key) = refl
  tag_same (purposes.Prep name ordinal key) = refl
  tag_same (purposes.Sync name) = refl
  tag_same purposes.Own = refl
  tag_same (purposes.End name) = refl
  tag_same (purposes.Capture name) = refl

  step_next : (readied : StepsReadied) (tables : Tabled) (purpose : Purpose) (wish : Wish) (command : Command) → AreClasses g.setup.reads → IsStepFor purpose
      → IsWished wish command → IsNextFor purpose g tables (step_begins purpose wish server.row) link (record { purpose = purpose; form = form_of wish })
  step_next readied tables (purposes.Sync name) wish command classes step wished =
      record { command = command; said = readied g.setup.reads g.codes server.row link (purposes.Sync name) wish (story.Sync name command) classes tt refl wished }
  step_next readied tables purposes.Own wish command classes step wished =
      record { command = command; said = readied g.setup.reads g.codes server.row link purposes.Own wish (story.Own command) classes tt tt wished }
  step_next readied tables (purposes.Statement name ordinal key) wish command classes step wished = absurd step
  step_next readied tables (purposes.Prep name ordinal key) wish command classes step wished = absurd step
  step_next readied tables (purposes.End name) wish command classes step wished = absurd step
  step_next readied tables (purposes.Capture name) wish command classes step wished = absurd step

  pub steps_so : (readied : StepsReadied) (purpose : Purpose) (wish : Wish) (command : Command) → AreClasses g.setup.reads → IsStepFor purpose → IsWished wish command
      → Stands service g (step_begun l purpose wish t)
  steps_so readied purpose (wishes.Schema schema) command classes step wished =
      stands_by service g t l server stands open_so (step_begins purpose (wishes.Schema schema)) (row_next _ _ _ None) refl refl refl refl
      (tag_same purpose, step_next readied (step_begun l purpose (wishes.Schema schema) t) purpose (wishes.Schema schema) command classes step wished)
  steps_so readied purpose (wishes.Settings text) command classes step wished =
      stands_by service g t l server stands open_so (step_begins purpose (wishes.Settings text)) (row_next _ _ _ None) refl refl refl refl
      (tag_same purpose, step_next readied (step_begun l purpose (wishes.Settings text) t) purpose (wishes.Settings text) command classes step wished)
  steps_so readied purpose (wishes.SetId id) command classes step wished =
      stands_by service g t l server stands open_so (step_begins purpose (wishes.SetId id)) (row_next _ _ _ None) refl refl refl refl
      (tag_same purpose, step_next readied (step_begun l purpose (wishes.SetId id) t) purpose (wishes.SetId id) command classes step wished)
  steps_so readied purpose wishes.Prepare command classes step wished = absurd wished
  steps_so readied purpose wishes.Statement command classes step wished = absurd wished
  steps_so readied purpose (wishes.Closes number) command classes step wished = absurd wished
  steps_so readied purpose (wishes.Resets number) command classes step wished = absurd wished

  pub captures_so : (readied : CapturesReadied) (n : SessionName) → Stands service g (capture_begun l n t)
  captures_so readied n =
      stands_by service g t l server stands open_so (captures n) (row_next _ _ _ _) refl refl refl refl
      (refl, readied g.setup.reads g.codes server.row link n n refl)

  pub ends_so : (readied : EndsReadied) (n : SessionName) → Stands service g (end_begun l n t)
  ends_so readied n =
      stands_by service g t l server stands open_so (ends n) (row_next _ _ _ None) refl refl refl refl
      (refl, readied g.setup.reads g.codes server.row link n n refl)

  pub quits_so : ((row : Row) → IsNext (farewell row).link.writing (spelt (text_payload commands.Quit))) → Stands service g (quit_begun l t)
  quits_so spelt_so =
      stands_by service g t l server stands open_so farewell (row_next _ _ _ None) refl refl refl refl (refl, spelt_so server.row)

  -- a STMT_CLOSE, and a STMT_RESET
  pub closes_so : (purpose : Purpose) (number : ℕ)
      → IsNext (step_begins purpose (wishes.Closes number) server.row).link.writing (spelt (step_payload (plan.Closes number)))
      → Stands service g (step_begun l purpose (wishes.Closes number) t)
  closes_so purpose number spelt_so =
      stands_by service g t l server stands open_so (step_begins purpose (wishes.Closes number)) (row_next _ _ _ None) refl refl refl refl (refl, spelt_so)

  pub resets_so : (purpose : Purpose) (number : ℕ)
      → IsNext (step_begins purpose (wishes.Resets number) server.row).link.writing (spelt (step_payload (plan.Resets number)))
      → Stands service g (step_begun l purpose (wishes.Resets number) t)
  resets_so purpose number spelt_so =
      stands_by service g t l server stands open_so (step_begins purpose (wishes.Resets number)) (row_next _ _ _ None) refl refl refl refl (refl, spelt_so)
