-- A client's text is to be written next on a link.
use Rattle.std.specs.Prelude.{◌≡◌, ℕ, true, false, List, Option, Some, None}
use Rattle.std.proofs.Common.{refl, sym, ap, ◌∙◌, subst}
use Rattle.std.proofs.lemmas.Bool.{false≢true}
use Rattle.std.proofs.lemmas.Option.{none-some, same_Some}
use Rattle.client_session.specs.Setups.{Setup as Service}
use Rattle.packet_frame.specs.Packets.{spelling}
use Rattle.server_rule.specs.Classes.{Reads as Classes}
use Rattle.private_model.specs.Commands as commands
use Rattle.private_model.specs.Commands.{Command}
use Rattle.private_model.specs.Names.{ClientNo, LinkId, SessionName}
use Rattle.private_model.specs.View.{View}
use Rattle.log_story.specs.Plan.{text_payload}
use Rattle.log_story.specs.Tale as tales
use Rattle.log_story.specs.Tale.{link_in}
use Rattle.link_state.specs.declared.asking.Form.{Form}
use Rattle.link_laws.specs.Stands.{IsForm}
use Rattle.client_desk.specs.Desks.{name_of}
use Rattle.client_desk.specs.Works.{formless, packets_in, without_packets}
use Rattle.client_desk.specs.declared.desk.Desk.{Desk}
use Rattle.client_desk.specs.declared.work.Body.{Body}
use Rattle.client_desk.specs.declared.work.Body.TheVariants.{Packets, Run, Away}
use Rattle.client_desk.specs.declared.work.Work.{Work}
use Rattle.desk_laws.specs.Stands.{IsBody, IsDesk, IsFormOr, is_text}
use Rattle.row_laws.specs.Readied.{IsSaid}
use Rattle.core_tables.specs.Beginning.{stated_of, text_begun, text_by, text_for, text_stands}
use Rattle.core_tables.specs.Tables.{Tabled}
use Rattle.core_tables.specs.declared.client.Client.{Client}
use Rattle.core_tables.specs.declared.server.Server.{Server}
use Rattle.core_stands.specs.Grounds.{AreNamed, Ground, view_on}
use Rattle.core_stands.specs.Servers.{IsAskedFor}
use Rattle.core_stands.specs.Stands.{Stands}
use Rattle.core_laws.specs.writing.Planned.{IsOpen}
use Rattle.core_laws.proofs.OfWriting.Asked.{StatesReadied, at, goes, made, nothing}
use Rattle.core_laws.proofs.OfWriting.Begun.{IsDueThere}
use Rattle.core_laws.proofs.OfWriting.Handing.{SameWork}
use Rattle.core_laws.proofs.OfWriting.Nexts.{TakesNext}

-- desk_laws' taken_stands
abbrev pub TakenAway : (Work → Work) → Type 0
TakenAway by = (reads : Classes) (seen : View) (c : ClientNo) (desk : Desk) → IsDesk reads seen c desk → (work : Work)
    → desk.work ≡ Some work → IsDesk reads seen c (record desk { work = Some (by work) })

-- a text in its packets

text_said : (command : Command) (number : Option ℕ) (said : List ℕ) → is_text command ≡ true → said ≡ spelling 0 (text_payload command) → IsSaid command number said
text_said (commands.Run text schema settings args) number said texts is = absurd (false≢true texts)
text_said (commands.Prepare text) number said texts is = is
text_said (commands.Query text) number said texts is = is
text_said (commands.InitDb schema) number said texts is = is
text_said (commands.FieldList rest) number said texts is = is
text_said (commands.SetId n) number said texts is = is
text_said commands.ReadId number said texts is = is
text_said commands.Reset number said texts is = is
text_said commands.Quit number said texts is = is

text_asked : (command : Command) → is_text command ≡ true → IsAskedFor command
text_asked (commands.Run text schema settings args) texts = tt
text_asked (commands.Prepare text) texts = texts
text_asked (commands.Query text) texts = texts
text_asked (commands.InitDb schema) texts = texts
text_asked (commands.FieldList rest) texts = texts
text_asked (commands.SetId n) texts = texts
text_asked commands.ReadId texts = texts
text_asked commands.Reset texts = texts
text_asked commands.Quit texts = texts

body_text : (body : Body) (command : Command) (packets : List ℕ) → packets_in body ≡ Some packets → IsBody body command
    → (is_text command ≡ true) × (packets ≡ spelling 0 (text_payload command))
body_text (Packets bytes) command packets same is = (is.0, sym (same_Some bytes packets same) ∙ is.1)
body_text (Run args) command packets same is = absurd (none-some packets same)
body_text Away command packets same is = absurd (none-some packets same)

module _ (takes : TakesNext) (readied : StatesReadied) (form_away : TakenAway formless) (packets_away : TakenAway without_packets)
    (service : Service) (g : Ground) (t : Tabled) (l : LinkId) (server : Server) (n : SessionName) (client : Client) (work : Work)
    (stands : Stands service g t) (open_so : IsOpen g t l server) (there : t.clients n.client ≡ Some client) (in_work : client.desk.work ≡ Some work)
    (unsent : work.sent ≡ false) (names : n ≡ name_of client.desk work.hostgroup) (named : AreNamed g.codes) where
  abbrev other : Work
  other = without_packets (formless work)

  same : SameWork work other
  same = record { ordinal = refl; key = refl; hostgroup = refl; sent = refl; command = refl }

  desk_handed : (c : tales.Client) → IsDesk g.setup.reads (view_on g) c.number client.desk → IsDesk g.setup.reads (view_on g) c.number (record client.desk { work = Some other })
  desk_handed c is =
      packets_away g.setup.reads (view_on g) c.number (record client.desk { work = Some (formless work) })
      (form_away g.setup.reads (view_on g) c.number client.desk is work in_work) (formless work) refl

  due_there : IsDueThere g client n work.ordinal work
  due_there = at takes readied service g t l server n client work other stands open_so there in_work unsent names named same desk_handed

  unchanged : Stands service g (made takes readied service g t l server n client work other stands open_so there in_work unsent names named same desk_handed (λ row. row))
  unchanged = nothing takes readied service g t l server n client work other stands open_so there in_work unsent names named same desk_handed

  made_by : (form : Option Form) (packets : Option (List ℕ)) → work.form ≡ form → packets_in work.body ≡ packets
      → Stands service g (made takes readied service g t l server n client work other stands open_so there in_work unsent names named same desk_handed
      (text_stands (stated_of client.desk n work) form packets))
  unfolding due_there
  made_by None packets form_is packets_is = unchanged
  made_by (Some form) None form_is packets_is = unchanged
  made_by (Some form) (Some packets) form_is packets_is =
      let body = body_text work.body due_there.unsent.due.command packets packets_is due_there.unsent.as_due.request.body in
      let is_form : IsForm g.setup.reads form due_there.unsent.due.command =
      subst (λ (f : Option Form). IsFormOr g.setup.reads f due_there.unsent.due.command) form_is due_there.unsent.as_due.request.form in
      goes takes readied service g t l server n client work other stands open_so there in_work unsent names named same desk_handed form packets (λ row. None)
      is_form (text_asked due_there.unsent.due.command body.0)
      (text_said due_there.unsent.due.command ((link_in g.setup g.tale l).live due_there.unsent.due.key) packets body.0 body.1)

  text_is : text_begun l n t
      ≡ made takes readied service g t l server n client work other stands open_so there in_work unsent names named same desk_handed
      (text_stands (stated_of client.desk n work) work.form (packets_in work.body))
  text_is =
      ap (λ (x : Option Server). text_for l n x (t.clients n.client) t) open_so.there
      ∙ ap (λ (x : Option Client). text_for l n (Some server) x t) there
      ∙ ap (λ (x : Option Work). text_by l n client x t) in_work

  pub text_so : Stands service g (text_begun l n t)
  text_so = subst (λ (x : Tabled). Stands service g x) (sym text_is) (made_by work.form (packets_in work.body) refl refl)
