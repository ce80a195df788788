-- What stands next on a link is taken back.
use Rattle.std.specs.Prelude.{◌≡◌, ℕ, suc, Bool, true, false, not, ◌&&◌, is_some, nat_eq, if◌then◌else◌, All, List, Option, Some, None}
use Rattle.std.specs.Option.{option_map}
use Rattle.std.proofs.Common.{refl, sym, ap, ◌∙◌, subst}
use Rattle.std.proofs.lemmas.Bool.{and_parts, false≢true, not-true, true≢false}
use Rattle.std.proofs.lemmas.List.Elements.{All-weaker}
use Rattle.std.proofs.lemmas.Option.{none-some, same_Some}
use Rattle.client_session.specs.Setups.{Setup as Service}
use Rattle.packet_frame.specs.Packets.{spelling}
use Rattle.server_rule.specs.Classes.{Reads as Classes}
use Rattle.private_model.proofs.Maps.{client_of, same_number}
use Rattle.private_model.specs.Commands as commands
use Rattle.private_model.specs.Commands.{Command}
use Rattle.private_model.specs.Names.{ClientNo, LinkId, SessionName}
use Rattle.private_model.specs.Story.{Due, is_link_id}
use Rattle.private_model.specs.View.{Link, Setup, View, present}
use Rattle.log_story.specs.Plan.{Plan, text_payload}
use Rattle.log_story.specs.Tale as tales
use Rattle.log_story.specs.Tale.{Tale, is_to_server, link_in}
use Rattle.link_state.specs.declared.asking.Asking.{Asking}
use Rattle.link_state.specs.declared.asking.Form.{Form}
use Rattle.link_state.specs.declared.asking.Purpose.{Purpose}
use Rattle.link_state.specs.declared.asking.Purpose.TheVariants as purposes
use Rattle.link_state.specs.declared.state.LinkState.{LinkState}
use Rattle.link_state.specs.declared.state.Stage.{Stage}
use Rattle.link_state.specs.declared.writing.Writing.{Writing}
use Rattle.link_laws.specs.Stands.{Codes, IsForm}
use Rattle.lent_link.specs.Links.{unbegun_by}
use Rattle.lent_link.specs.declared.link.Begins.{Begins}
use Rattle.lent_link.specs.declared.link.Begins.TheVariants as begins
use Rattle.lent_link.specs.declared.link.LentLink.{LentLink}
use Rattle.served_link.specs.Rows.{taken_back}
use Rattle.served_link.specs.declared.row.Row.{Row}
use Rattle.client_desk.specs.Works.{body_back, given_back}
use Rattle.client_desk.specs.declared.desk.Desk.{Desk}
use Rattle.client_desk.specs.declared.work.Work.{Work}
use Rattle.link_state.specs.declared.wish.Command as links
use Rattle.link_state.specs.declared.wish.Command.TheVariants as kinds
use Rattle.client_desk.specs.declared.work.Body.{Body}
use Rattle.desk_laws.specs.Stands.{IsBody, IsDesk, is_text, kind_of}
use Rattle.row_laws.specs.Begins.{IsNext}
use Rattle.row_laws.specs.Rows.{IsRowIn}
use Rattle.row_laws.specs.Whose.{name_in}
use Rattle.row_laws.specs.Written.{spelt_as}
use Rattle.core_tables.specs.Beginning.{back_by, client_given, given, given_for, given_to, next_back, packets_back, with_row, with_work}
use Rattle.core_tables.specs.Passing.{is_of}
use Rattle.core_tables.specs.Tables.{IsSame, Tabled, client_changed, link_changed}
use Rattle.core_tables.specs.declared.client.Client.{Client}
use Rattle.core_tables.specs.declared.server.Server.{Server}
use Rattle.core_stands.specs.Grounds.{Ground, view_on}
use Rattle.core_stands.specs.Servers.{IsAskedFor, IsNextFor, IsNextOf, IsNextStatement, IsPartedAt, IsReplyingAt, IsServer, IsServerBy, IsServerOr, IsAhead, OfLent, is_stating}
use Rattle.core_stands.specs.Stands.{AreClients, IsAt, Stands}
use Rattle.core_laws.proofs.OfWriting.Begun.{IsDueThere}
use Rattle.core_laws.proofs.OfWriting.Framing.{Reads, client_apart, client_here, flipped, homes_on, link_apart, link_here, same_reads, server_on}
use Rattle.core_laws.proofs.OfWriting.Handing.{SameWork, reads, stands_handed}
use Rattle.core_laws.proofs.OfWriting.Knowing.{is_servers, present_name, quiet, server_at}
use Rattle.core_laws.proofs.OfWriting.Nexts.{onward_none}
use Rattle.core_laws.proofs.OfWriting.Sending.{by_to_server, same_but, servers_made}
use Rattle.core_laws.proofs.OfWriting.Stating.{due_at, due_is, due_ordinal}
use Rattle.core_laws.proofs.OfWriting.Asked.{beside, is_beside, server_as}

-- row_laws' rows_take_back, desk_laws' taken_stands and parting_laws' same_stands

abbrev pub TakesBack : Type 0
TakesBack = (setup : Setup) (codes : Codes) (plan : Plan) (tale : Tale) (l : LinkId) (row : Row) → IsRowIn setup codes plan tale l row
    → IsRowIn setup codes plan tale l (taken_back row)

abbrev pub ComesBack : Type 0
ComesBack = (reads : Classes) (seen : View) (c : ClientNo) (desk : Desk) → IsDesk reads seen c desk → (work : Work) (form : Form)
    (packets : Option (List ℕ)) → desk.work ≡ Some work
    → ((due : Due) → seen.dues (present seen c work.hostgroup) ≡ Some due → IsForm reads form due.command)
    → ((due : Due) → seen.dues (present seen c work.hostgroup) ≡ Some due → IsBody (body_back packets work.body) due.command)
    → IsDesk reads seen c (record desk { work = Some (given_back form packets work) })

abbrev pub SameStands : Type 0
SameStands = (service : Service) (g : Ground) (t other : Tabled) → Stands service g t → IsSame other t → Stands service g other

text_spelt : (command : Command) (number : Option ℕ) (said : List ℕ) → is_text command ≡ true → said ≡ spelt_as command number → said ≡ spelling 0 (text_payload command)
text_spelt (commands.Query text) number said is same = same
text_spelt (commands.InitDb schema) number said is same = same
text_spelt (commands.FieldList rest) number said is same = same
text_spelt (commands.Prepare text) number said is same = same
text_spelt (commands.SetId n) number said is same = absurd (false≢true is)
text_spelt commands.ReadId number said is same = absurd (false≢true is)
text_spelt (commands.Run text schema settings args) number said is same = absurd (false≢true is)
text_spelt commands.Reset number said is same = absurd (false≢true is)
text_spelt commands.Quit number said is same = absurd (false≢true is)

-- What is taken back of a text are its packets; the arguments of an execute stayed at the desk.

texted : (command : Command) → IsAskedFor command → (kind_of command ≡ kinds.Execute → ⊥) → is_text command ≡ true
texted (commands.Run text schema settings args) asked other = absurd (other refl)
texted (commands.Query text) asked other = asked
texted (commands.InitDb schema) asked other = asked
texted (commands.FieldList rest) asked other = asked
texted (commands.Prepare text) asked other = asked
texted (commands.SetId n) asked other = asked
texted commands.ReadId asked other = asked
texted commands.Reset asked other = asked
texted commands.Quit asked other = asked

body_given : (kind : links.Command) (body : Body) (command : Command) (bytes : List ℕ) (number : Option ℕ) → kind_of command ≡ kind → IsAskedFor command
    → IsBody body command → bytes ≡ spelt_as command number → IsBody (body_back (packets_back kind bytes) body) command
body_given kinds.Execute body command bytes number kind asked is said = is
body_given kinds.Plain body command bytes number kind asked is said =
    let text = texted command asked (λ executes. absurd (let no : kinds.Execute ≡ kinds.Plain = sym executes ∙ kind in cc)) in
    (text, text_spelt command number bytes text said)
body_given kinds.Prepare body command bytes number kind asked is said =
    let text = texted command asked (λ executes. absurd (let no : kinds.Execute ≡ kinds.Prepare = sym executes ∙ kind in cc)) in
    (text, text_spelt command number bytes text said)

next_bytes : (writing : Option Writing) (w : Writing) (said : List ℕ) → writing ≡ Some w → IsNext writing said → w.bytes ≡ said
next_bytes None w said same is = absurd is
next_bytes (Some other) w said same is = ap (λ (x : Writing). x.bytes) (sym (same_Some other w same)) ∙ is

module _ (takes : TakesBack) (back : ComesBack) (alike : SameStands) (service : Service) (g : Ground) (t : Tabled) (l : LinkId) (server : Server)
    (stands : Stands service g t) (there : t.links l ≡ Some server) where
  abbrev row : Row
  row = server.row

  abbrev is : IsServer g t l row
  is = server_at service g t l server stands there

  abbrev made : Tabled → Tabled
  made base = link_changed l (with_row taken_back) base

  -- the link's row, by tables of which links read the same

  none_next : (next : Option Begins) → row.link.next ≡ next → (taken_back row).link.next ≡ None
  none_next None same = ap (λ (n : Option Begins). (unbegun_by n row.link).next) same ∙ same
  none_next (Some next) same = ap (λ (n : Option Begins). (unbegun_by n row.link).next) same

  row_by : (now : Tabled) → Reads t now → (next : Option Begins) → row.link.next ≡ next → IsServer g now l (taken_back row)
  row_by now reads_so None same =
      let row_same : taken_back row ≡ row = ap (λ (n : Option Begins). record row { link = unbegun_by n row.link }) same in
      subst (λ (r : Row). IsServer g now l r) (sym row_same)
      (server_as g l server now (is_to_server g.tale l) (is_servers service g t l server stands there)
      (server_on g t now (beside l) g.tale (onward_none g (beside l)) reads_so l (is_beside l) (Some server)
      (by_to_server (is_to_server g.tale l) g t l server (is_servers service g t l server stands there) is)))
  row_by now reads_so (Some next) same =
      let link_same : (taken_back row).link ≡ record row.link { next = None; writing = None } = ap (λ (n : Option Begins). unbegun_by n row.link) same in
      let stage = ap (λ (k : LentLink). k.state.stage) link_same ∙ quiet g t l row is next same in
      record {
        row = takes g.setup g.codes g.plan g.tale l row is.row;
        user = is.user;
        found_rows = is.found_rows;
        standing = is.standing;
        next = subst (λ (n : Option Begins). IsNextOf n g now (taken_back row) (link_in g.setup g.tale l)) (sym (ap (λ (k : LentLink). k.next) link_same)) tt;
        lent = λ kept mine.
            subst (λ (k : LentLink). is_stating k.state.stage ≡ false → OfLent k.state.carries (IsAhead (view_on g))) (sym link_same) (is.lent kept mine);
        parted = λ sound kept left_some. subst (λ (s : Stage). IsPartedAt s g) (sym stage) tt;
        replying = λ sound kept mine. subst (λ (s : Stage). IsReplyingAt s g now l (taken_back row)) (sym stage) tt;
      }

  state_same : (next : Option Begins) → (unbegun_by next row.link).state ≡ row.link.state
  state_same None = refl
  state_same (Some next) = refl

  carries_same : name_in (taken_back row).link.state.carries ≡ name_in row.link.state.carries
  carries_same = ap (λ (s : LinkState). name_in s.carries) (state_same row.link.next)

  -- no client changes

  at_made : (client : tales.Client) → IsAt g t client → IsAt g (made t) client
  at_made client at = record { row = at.row; found = at.found; aside = at.aside; alone = at.alone }

  links_apart : (base : Tabled) → ((k : LinkId) → base.links k ≡ t.links k) → (k : LinkId) → is_link_id k l ≡ false → (made base).links k ≡ t.links k
  links_apart base same k e = link_apart l k (with_row taken_back) base (flipped k.0 l.0 e) ∙ same k

  link_there : (base : Tabled) → base.links l ≡ t.links l → (made base).links l ≡ Some (with_row taken_back server)
  link_there base same = link_here l (with_row taken_back) base ∙ ap (option_map (with_row taken_back)) (same ∙ there)

  plain : Stands service g (made t)
  plain = record {
    service_is = stands.service_is;
    room_is = stands.room_is;
    clients = record {
      counted = stands.clients.counted;
      each = All-weaker (IsAt g t) (IsAt g (made t)) at_made g.tale.clients stands.clients.each;
      known = stands.clients.known;
      named = stands.clients.named;
    };
    servers = servers_made g g t (made t) l (with_row taken_back server) (link_there t refl)
        (by_to_server (is_to_server g.tale l) g (made t) l (with_row taken_back server) (is_servers service g t l server stands there)
        (row_by (made t) (same_reads t (made t) (λ c. refl)) row.link.next refl))
        (λ other apart.
        subst (λ (x : Option Server). IsServerOr g (made t) other x) (sym (links_apart t (λ k. refl) other apart))
        (server_on g t (made t) l g.tale (onward_none g l) (same_reads t (made t) (λ c. refl)) other apart (t.links other) (stands.servers other)));
    homes = homes_on g g t (made t) (same_but t (made t) l server (with_row taken_back server) (λ c. refl) there (link_there t refl)
        (λ k e. links_apart t (λ j. refl) k e) carries_same refl refl) stands.homes;
    lawful = stands.lawful;
    prepared = stands.prepared;
    duly = stands.duly;
  }

  -- a statement goes back

  module _ (name : SessionName) (ordinal key : ℕ) (asking : Asking) (w : Writing) (purpose : asking.purpose ≡ purposes.Statement name ordinal key)
      (same_next : row.link.next ≡ Some (begins.Asks asking)) (writing : row.link.writing ≡ Some w) where
    abbrev gives : Client → Client
    gives = client_given name ordinal asking.form w.bytes

    abbrev base : Tabled
    base = client_changed name.client gives t

    next_statement : IsNextStatement g t row (link_in g.setup g.tale l) asking name ordinal
    next_statement =
        subst (λ (p : Purpose). IsNextFor p g t row (link_in g.setup g.tale l) asking) purpose
        (subst (λ (n : Option Begins). IsNextOf n g t row (link_in g.setup g.tale l)) same_next is.next).1

    -- the row is the same where nothing goes back
    unchanged : ((client : Client) → t.clients name.client ≡ Some client → gives client ≡ client) → Stands service g (made base)
    unchanged same =
        alike service g (made t) (made base) plain (record {
          clients = λ c. by c (nat_eq name.client.0 c.0) refl;
          numbers = λ k. refl;
          links = λ k. refl;
        }) where
          put : (found : Option Client) → t.clients name.client ≡ found → option_map gives found ≡ found
          put None at = refl
          put (Some client) at = ap (λ (x : Client). Some x) (same client at)

          by : (c : ClientNo) (here : Bool) → nat_eq name.client.0 c.0 ≡ here
              → (if here then option_map gives (t.clients name.client) else t.clients c) ≡ t.clients c
          by c false e = refl
          by c true e = put (t.clients name.client) refl ∙ ap t.clients (client_of name.client c e)

    module _ (client : Client) (work : Work) (at : t.clients name.client ≡ Some client) (in_work : client.desk.work ≡ Some work)
        (unsent : work.sent ≡ false) (of : is_of name ordinal client.desk work ≡ true) where
      abbrev other : Work
      other = given_back asking.form (packets_back work.command w.bytes) work

      due_there : IsDueThere g client name ordinal work
      due_there = due_at service g t client name ordinal work stands at in_work unsent of

      gives_is : gives client ≡ with_work (Some other) client
      gives_is =
          ap (λ (x : Option Work). with_work (option_map (given_to name ordinal asking.form w.bytes client.desk) x) client) in_work
          ∙ ap (λ (b : Bool). with_work (Some (if b then other else work)) client) ((λ i. not (unsent i) && of i))

      here : (made base).clients name.client ≡ Some (with_work (Some other) client)
      here = client_here name.client gives t ∙ ap (option_map gives) at ∙ ap (λ (x : Client). Some x) gives_is

      dues_named : (c : tales.Client) → IsDesk g.setup.reads (view_on g) c.number client.desk → (due : Due)
          → (view_on g).dues (present (view_on g) c.number work.hostgroup) ≡ Some due → due_there.unsent.due ≡ due
      dues_named c is_desk due dues =
          same_Some due_there.unsent.due due
          (sym due_there.unsent.is_due
          ∙ ap (view_on g).dues (present_name g.setup.reads (view_on g) due_there.client.number client.desk due_there.desk work.hostgroup
          ∙ sym (present_name g.setup.reads (view_on g) c.number client.desk is_desk work.hostgroup)) ∙ dues)

      desk_back : (c : tales.Client) → IsDesk g.setup.reads (view_on g) c.number client.desk
          → IsDesk g.setup.reads (view_on g) c.number (record client.desk { work = Some other })
      desk_back c is_desk =
          let dues_here : (view_on g).dues name ≡ Some due_there.unsent.due = due_is g client name ordinal work due_there in
          let ordinal_is = due_ordinal g client name ordinal work due_there in
          let said = next_statement.said due_there.unsent.due dues_here ordinal_is in
          let asked = next_statement.asked due_there.unsent.due dues_here ordinal_is in
          let request = due_there.unsent.as_due.request in
          let spelt_so = next_bytes row.link.writing w _ writing said.spelt_so in
          back g.setup.reads (view_on g) c.number client.desk is_desk work asking.form (packets_back work.command w.bytes) in_work
          (λ due dues. subst (λ (d : Due). IsForm g.setup.reads asking.form d.command) (dues_named c is_desk due dues) said.asks.form)
          (λ due dues. subst (λ (d : Due). IsBody (body_back (packets_back work.command w.bytes) work.body) d.command) (dues_named c is_desk due dues)
          (body_given work.command work.body due_there.unsent.due.command w.bytes _ request.kind asked request.body spelt_so))

      goes_back : Stands service g (made base)
      goes_back =
          stands_handed service g t (made base) l server (with_row taken_back server) name.client client work other stands there at in_work
          (record { ordinal = refl; key = refl; hostgroup = refl; sent = refl; command = refl }) here (λ k e. client_apart name.client k gives t e) (λ k. refl)
          (link_there base refl) (λ k e. links_apart base (λ j. refl) k e) carries_same refl refl desk_back
          (row_by (made base)
          (reads service g t (made base) l server (with_row taken_back server) name.client client work other stands there at in_work
          (record { ordinal = refl; key = refl; hostgroup = refl; sent = refl; command = refl }) here (λ k e. client_apart name.client k gives t e) (λ k. refl)
          (link_there base refl) (λ k e. links_apart base (λ j. refl) k e) carries_same refl refl desk_back) row.link.next refl)

    kept_by : (client : Client) → t.clients name.client ≡ Some client → (work : Work) → client.desk.work ≡ Some work → (goes : Bool)
        → (not work.sent && is_of name ordinal client.desk work) ≡ goes → Stands service g (made base)
    kept_by client at work in_work true goes =
        let parts = and_parts (not work.sent) (is_of name ordinal client.desk work) goes in
        goes_back client work at in_work (not-true work.sent parts.0) parts.1
    kept_by client at work in_work false stays =
        unchanged (λ other at_other.
        let same : client ≡ other = same_Some client other (sym at ∙ at_other) in
        subst (λ (x : Client). gives x ≡ x) same
        (ap (λ (x : Option Work). with_work (option_map (given_to name ordinal asking.form w.bytes client.desk) x) client) in_work
        ∙ ap (λ (b : Bool). with_work (Some (if b then given_back asking.form (packets_back work.command w.bytes) work else work)) client) stays
        ∙ ap (λ (x : Option Work). with_work x client) (sym in_work)))

    work_by : (client : Client) → t.clients name.client ≡ Some client → (found : Option Work) → client.desk.work ≡ found → Stands service g (made base)
    work_by client at (Some work) in_work = kept_by client at work in_work (not work.sent && is_of name ordinal client.desk work) refl
    work_by client at None idle =
        unchanged (λ other at_other.
        subst (λ (x : Client). gives x ≡ x) (same_Some client other (sym at ∙ at_other))
        (ap (λ (x : Option Work). with_work (option_map (given_to name ordinal asking.form w.bytes client.desk) x) client) idle
        ∙ ap (λ (x : Option Work). with_work x client) (sym idle)))

    client_by : (found : Option Client) → t.clients name.client ≡ found → Stands service g (made base)
    client_by (Some client) at = work_by client at client.desk.work refl
    client_by None none = unchanged (λ other at_other. absurd (none-some other (sym none ∙ at_other)))

    pub statement_back : Stands service g (made base)
    statement_back = client_by (t.clients name.client) refl

  asks_by : (asking : Asking) (w : Writing) → row.link.next ≡ Some (begins.Asks asking) → row.link.writing ≡ Some w → (p : Purpose) → asking.purpose ≡ p
      → Stands service g (made (given_for p asking.form w.bytes t))
  asks_by asking w same writing (purposes.Statement name ordinal key) purpose = statement_back name ordinal key asking w purpose same writing
  asks_by asking w same writing (purposes.Prep name ordinal key) purpose = plain
  asks_by asking w same writing (purposes.Sync name) purpose = plain
  asks_by asking w same writing purposes.Own purpose = plain
  asks_by asking w same writing (purposes.End name) purpose = plain
  asks_by asking w same writing (purposes.Capture name) purpose = plain

  next_by : (next : Option Begins) (writing : Option Writing) → row.link.next ≡ next → row.link.writing ≡ writing → Stands service g (made (given next writing t))
  next_by None writing same out = plain
  next_by (Some (begins.Asks asking)) None same out = plain
  next_by (Some (begins.Asks asking)) (Some w) same out = asks_by asking w same out asking.purpose refl
  next_by (Some (begins.Closes number)) writing same out = plain
  next_by (Some (begins.Resets number)) writing same out = plain
  next_by (Some begins.Quits) writing same out = plain

  pub back_so : Stands service g (back_by l (Some server) t)
  back_so = next_by row.link.next row.link.writing refl refl

back_found : (takes : TakesBack) (back : ComesBack) (alike : SameStands) (service : Service) (g : Ground) (t : Tabled) (l : LinkId) (found : Option Server)
    → t.links l ≡ found → Stands service g t → Stands service g (back_by l found t)
back_found takes back alike service g t l None none stands = stands
back_found takes back alike service g t l (Some server) there stands = back_so takes back alike service g t l server stands there

pub taken_back_so : (takes : TakesBack) (back : ComesBack) (alike : SameStands) (service : Service) (g : Ground) (t : Tabled) (l : LinkId) → Stands service g t
    → Stands service g (next_back l t)
taken_back_so takes back alike service g t l = back_found takes back alike service g t l (t.links l) refl
