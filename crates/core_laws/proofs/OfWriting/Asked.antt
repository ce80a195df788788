-- A client's statement is to be written next on a link, as it is spelt there.
use Rattle.std.specs.Prelude.{◌≡◌, ◌≤◌, ℕ, suc, Bool, true, false, nat_eq, if◌then◌else◌, List, Option, Some, None}
use Rattle.std.specs.Option.{option_map}
use Rattle.std.proofs.Common.{refl, sym, ap, ◌∙◌, subst, arith}
use Rattle.std.proofs.lemmas.Bool.{and_from, false≢true}
use Rattle.std.proofs.lemmas.Option.{same_Some}
use Rattle.mx_base.specs.declared.tag.Tag.TheVariants as tags
use Rattle.client_session.specs.Setups.{Setup as Service}
use Rattle.lent_link.specs.declared.link.Begins.TheVariants as begins
use Rattle.server_rule.specs.Classes.{Reads as Classes}
use Rattle.private_model.proofs.Maps.{same_name, same_number}
use Rattle.private_model.specs.Commands as commands
use Rattle.private_model.specs.Commands.{Command}
use Rattle.private_model.specs.Names.{ClientNo, LinkId, SessionName}
use Rattle.private_model.specs.Story as story
use Rattle.private_model.specs.Story.{Due, is_link_id, is_name}
use Rattle.private_model.specs.View.{Link}
use Rattle.log_story.specs.Tale as tales
use Rattle.log_story.specs.Tale.{is_to_server, link_in}
use Rattle.link_state.specs.declared.asking.Form.{Form}
use Rattle.link_state.specs.declared.asking.Form.TheVariants.{Text, Fields, Prepare, SetId, ReadId, Reset}
use Rattle.link_state.specs.declared.state.Stage.{Stage}
use Rattle.link_laws.specs.Stands.{Codes, IsForm, IsKeyOf, IsPurpose}
use Rattle.served_link.specs.States.{purpose_of, states}
use Rattle.served_link.specs.declared.row.Row.{Row}
use Rattle.served_link.specs.declared.stating.Stated.{Stated}
use Rattle.client_desk.specs.Desks.{name_of}
use Rattle.client_desk.specs.declared.work.Work.{Work}
use Rattle.desk_laws.specs.Stands.{IsDesk}
use Rattle.row_laws.specs.Begins.{IsReadied}
use Rattle.row_laws.specs.Readied.{IsClients, IsSaid}
use Rattle.row_laws.specs.Whose.{name_in}
use Rattle.core_tables.specs.Beginning.{stated_of, with_row, with_work}
use Rattle.core_tables.specs.Tables.{Tabled, client_put, link_changed}
use Rattle.core_tables.specs.declared.client.Client.{Client}
use Rattle.core_tables.specs.declared.server.Server.{Server}
use Rattle.core_stands.specs.Grounds.{AreNamed, Ground, view_on}
use Rattle.core_stands.specs.Servers.{IsAskedFor, IsNextStatement, IsPartedAt, IsReplyingAt, IsServer, IsServerBy, IsTakenUp}
use Rattle.core_stands.specs.Stands.{Stands}
use Rattle.core_laws.specs.writing.Planned.{IsOpen}
use Rattle.core_laws.proofs.OfWriting.Begun.{IsDueThere}
use Rattle.core_laws.proofs.OfWriting.Framing.{Reads, flipped, link_apart, link_here, server_on}
use Rattle.core_laws.proofs.OfWriting.Handing.{SameWork, reads as reads_handed, stands_handed}
use Rattle.core_laws.proofs.OfWriting.Knowing.{going, is_servers, knows, server_at, working}
use Rattle.core_laws.proofs.OfWriting.Nexts.{TakesNext, onward_none, quiet_open}
use Rattle.core_laws.proofs.OfWriting.Sending.{by_to_server}
use Rattle.core_laws.proofs.OfWriting.Stating.{due_at, due_is, due_ordinal, number_next}

-- row_laws' statements_are_readied
abbrev pub StatesReadied : Type 0
StatesReadied = (reads : Classes) (codes : Codes) (row : Row) (link : Link) (s : Stated) (form : Form) (said : List ℕ) (n : SessionName) (due : Due)
    → IsPurpose codes (purpose_of s) (story.Statement n due) → IsForm reads form due.command → IsClients form
    → IsSaid due.command (link.live due.key) said → s.multiplex ≡ due.multiplex
    → IsReadied reads codes (states s form said row) link (record { purpose = purpose_of s; form = form }) (story.Statement n due)

-- by its key

key_of : (codes : Codes) → AreNamed codes → (number key : ℕ) (command : Command) → key ≡ number → IsKeyOf codes number command key
key_of codes named number key (commands.Prepare text) same = named key ∙ ap (λ (k : ℕ). Some k) same
key_of codes named number key (commands.Run text schema settings args) same = named key ∙ ap (λ (k : ℕ). Some k) same
key_of codes named number key (commands.Query text) same = tt
key_of codes named number key (commands.InitDb schema) same = tt
key_of codes named number key (commands.FieldList rest) same = tt
key_of codes named number key (commands.SetId n) same = tt
key_of codes named number key commands.ReadId same = tt
key_of codes named number key commands.Reset same = tt
key_of codes named number key commands.Quit same = tt

client_form : (reads : Classes) (form : Form) (command : Command) → IsForm reads form command → IsAskedFor command → IsClients form
client_form reads ReadId commands.ReadId is asked = absurd (false≢true asked)
client_form reads ReadId _ is asked = absurd is
client_form reads (Text class) command is asked = tt
client_form reads Fields command is asked = tt
client_form reads (Prepare class) command is asked = tt
client_form reads (SetId id) command is asked = tt
client_form reads Reset command is asked = tt

other_number : (k : ℕ) → nat_eq k (suc k) ≡ false
other_number k = grind arith

-- another link's id
abbrev pub beside : LinkId → LinkId
beside l = record { 0 = suc l.0 }

pub is_beside : (l : LinkId) → is_link_id l (beside l) ≡ false
is_beside l = other_number l.0

-- the row of a link is that of one to a server
pub server_as : (g : Ground) (l : LinkId) (server : Server) (now : Tabled) (to_server : Bool) → to_server ≡ true → IsServerBy to_server g now l (Some server)
    → IsServer g now l server.row
server_as g l server now true is_true is = is
server_as g l server now false is_true is = absurd (false≢true is_true)

module _ (takes : TakesNext) (readied : StatesReadied) (service : Service) (g : Ground) (t : Tabled) (l : LinkId) (server : Server) (n : SessionName)
    (client : Client) (work other : Work) (stands : Stands service g t) (open_so : IsOpen g t l server) (there : t.clients n.client ≡ Some client)
    (in_work : client.desk.work ≡ Some work) (unsent : work.sent ≡ false) (names : n ≡ name_of client.desk work.hostgroup) (named : AreNamed g.codes)
    (same : SameWork work other)
    (desk_handed : (c : tales.Client) → IsDesk g.setup.reads (view_on g) c.number client.desk
    → IsDesk g.setup.reads (view_on g) c.number (record client.desk { work = Some other })) where
  abbrev s : Stated
  s = stated_of client.desk n work

  abbrev handed : Tabled
  handed = client_put n.client (Some (with_work (Some other) client)) t

  abbrev pub made : (Row → Row) → Tabled
  made by = link_changed l (with_row by) handed

  here : handed.clients n.client ≡ Some (with_work (Some other) client)
  here = ap (λ (b : Bool). if b then Some (with_work (Some other) client) else t.clients n.client) (same_number n.client.0)

  apart : (k : ClientNo) → nat_eq n.client.0 k.0 ≡ false → handed.clients k ≡ t.clients k
  apart k e = ap (λ (b : Bool). if b then Some (with_work (Some other) client) else t.clients k) e

  pub at : IsDueThere g client n work.ordinal work
  at =
      due_at service g t client n work.ordinal work stands there in_work unsent
      (and_from (nat_eq work.ordinal work.ordinal) (is_name n (name_of client.desk work.hostgroup)) (same_number work.ordinal) (ap (is_name n) (sym names) ∙ same_name n))

  link_there : (by : Row → Row) → (made by).links l ≡ Some (with_row by server)
  link_there by = link_here l (with_row by) handed ∙ ap (option_map (with_row by)) open_so.there

  links_apart : (by : Row → Row) (k : LinkId) → is_link_id k l ≡ false → (made by).links k ≡ t.links k
  links_apart by k e = link_apart l k (with_row by) handed (flipped k.0 l.0 e)

  abbrev link : Link
  link = link_in g.setup g.tale l

  is : IsServer g t l server.row
  is = server_at service g t l server stands open_so.there

  module _ (by : Row → Row) (carries : name_in (by server.row).link.state.carries ≡ name_in server.row.link.state.carries)
      (left : (by server.row).left ≡ server.row.left) (lost : (by server.row).lost ≡ server.row.lost) where
    reads_made : Reads t (made by)
    reads_made =
        reads_handed service g t (made by) l server (with_row by server) n.client client work other stands open_so.there there in_work same here apart (λ k. refl)
        (link_there by) (links_apart by) carries left lost desk_handed

    stands_made : IsServer g (made by) l (by server.row) → Stands service g (made by)
    stands_made =
        stands_handed service g t (made by) l server (with_row by server) n.client client work other stands open_so.there there in_work same here apart (λ k. refl)
        (link_there by) (links_apart by) carries left lost desk_handed

  -- nothing goes there
  pub nothing : Stands service g (made (λ row. row))
  nothing =
      stands_made (λ row. row) refl refl refl
      (server_as g l server (made (λ row. row)) (is_to_server g.tale l) (is_servers service g t l server stands open_so.there)
      (server_on g t (made (λ row. row)) (beside l) g.tale (onward_none g (beside l)) (reads_made (λ row. row) refl refl refl) l (is_beside l) (Some server)
      (by_to_server (is_to_server g.tale l) g t l server (is_servers service g t l server stands open_so.there) is)))

  -- the form goes, and what it is spelt as

  module _ (form : Form) (said : List ℕ) (longer : Row → Option (List ℕ)) (is_form : IsForm g.setup.reads form at.unsent.due.command)
      (asked : IsAskedFor at.unsent.due.command) (is_said : IsSaid at.unsent.due.command (link.live at.unsent.due.key) said) where
    abbrev pub stated : Row → Row
    stated row = record (states s form said row) { longer = longer row }

    same_due : (due : Due) → (view_on g).dues n ≡ Some due → at.unsent.due ≡ due
    same_due due dues = same_Some at.unsent.due due (sym (due_is g client n work.ordinal work at) ∙ dues)

    readied_so : IsReadied g.setup.reads g.codes (stated server.row) link (record { purpose = purpose_of s; form = form }) (story.Statement n at.unsent.due)
    readied_so =
        let ready = readied g.setup.reads g.codes server.row link s form said n at.unsent.due
        (record {
          name = refl;
          ordinal = sym (due_ordinal g client n work.ordinal work at);
          key = key_of g.codes named work.key at.unsent.due.key at.unsent.due.command at.unsent.as_due.request.key_is;
        }) is_form (client_form g.setup.reads form at.unsent.due.command is_form asked) is_said (sym at.unsent.as_due.request.multiplex_is) in
        record { asks = ready.asks; spelt_so = ready.spelt_so; shared = ready.shared; cell_so = ready.cell_so }

    taken_up : IsTakenUp g n work.ordinal
    taken_up =
        let k = knows service g t n.client client stands there in
        let works = working g k.client client work in_work (going g k.client client work in_work k.is) in
        record { client = k.client; seated = k.known.seated; number = k.known.number; by_now = omega (arith, works.last) }

    next_statement : IsNextStatement g (made stated) (stated server.row) link (record { purpose = purpose_of s; form = form }) n work.ordinal
    next_statement = record {
      said = λ due dues same_ordinal.
          subst (λ (d : Due). IsReadied g.setup.reads g.codes (stated server.row) link (record { purpose = purpose_of s; form = form }) (story.Statement n d))
          (same_due due dues) readied_so;
      first = λ r w at_r in_r same_ordinal. ap (λ (x : Client). x.desk.seat.first) (sym (same_Some (with_work (Some other) client) r (sym here ∙ at_r)));
      asked = λ due dues same_ordinal. subst (λ (d : Due). IsAskedFor d.command) (same_due due dues) asked;
      number = number_next service g t client n work.ordinal work stands at;
      taken_up = taken_up;
    }

    server_states : IsServer g (made stated) l (stated server.row)
    server_states = record {
      row = takes g.setup g.codes g.plan g.tale l server.row (tags.For n.client work.ordinal) said
          (begins.Asks (record { purpose = purpose_of s; form = form })) s.first s.number s.multiplex None is.row open_so.entered open_so.free open_so.stays;
      user = is.user;
      found_rows = is.found_rows;
      standing = is.standing;
      next = (refl, next_statement);
      lent = is.lent;
      parted = λ sound kept left_some. subst (λ (stage : Stage). IsPartedAt stage g) (sym (quiet_open server.row.link open_so.free)) tt;
      replying = λ sound kept mine.
          subst (λ (stage : Stage). IsReplyingAt stage g (made stated) l (stated server.row)) (sym (quiet_open server.row.link open_so.free)) tt;
    }

    pub goes : Stands service g (made stated)
    goes = stands_made stated refl refl refl server_states
