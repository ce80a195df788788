-- A client's execute is to be written next on a link where its text is prepared.
use Rattle.std.specs.Prelude.{◌≡◌, ℕ, false, List, Option, Some, None}
use Rattle.std.specs.Option.{option_and_then}
use Rattle.std.proofs.Common.{refl, sym, ap, ◌∙◌, subst}
use Rattle.client_session.specs.Setups.{Setup as Service}
use Rattle.private_model.specs.Commands as commands
use Rattle.private_model.specs.Commands.{Args, Command}
use Rattle.private_model.specs.Names.{LinkId, SessionName}
use Rattle.private_model.specs.View.{Link}
use Rattle.log_story.specs.Tale as tales
use Rattle.log_story.specs.Tale.{link_in}
use Rattle.link_state.specs.Spells.{executes}
use Rattle.link_state.specs.Stood.{number_of}
use Rattle.link_state.specs.declared.asking.Form.{Form}
use Rattle.link_state.specs.declared.state.Stage.TheVariants.{Quiet}
use Rattle.link_laws.specs.Stands.{IsForm, IsLink}
use Rattle.served_link.specs.States.{longer}
use Rattle.served_link.specs.declared.row.Row.{Row}
use Rattle.client_desk.specs.Desks.{name_of}
use Rattle.client_desk.specs.Works.{formless}
use Rattle.client_desk.specs.declared.work.Body.{Body}
use Rattle.client_desk.specs.declared.work.Body.TheVariants.{Packets, Run, Away}
use Rattle.client_desk.specs.declared.work.Work.{Work}
use Rattle.desk_laws.specs.Stands.{IsBody, IsDesk, IsFormOr}
use Rattle.row_laws.proofs.Seeing.{is_link}
use Rattle.row_laws.specs.Readied.{IsSaid}
use Rattle.core_tables.specs.Beginning.{stated_of}
use Rattle.core_tables.specs.Preparing.{has_parts, run_at, run_begun, run_by, run_for, run_stands}
use Rattle.core_tables.specs.Tables.{Tabled}
use Rattle.core_tables.specs.declared.client.Client.{Client}
use Rattle.core_tables.specs.declared.server.Server.{Server}
use Rattle.core_stands.specs.Grounds.{AreNamed, Ground, view_on}
use Rattle.core_stands.specs.Servers.{IsAskedFor, IsServer}
use Rattle.core_stands.specs.Stands.{Stands}
use Rattle.core_laws.specs.writing.Planned.{IsOpen}
use Rattle.core_laws.proofs.OfWriting.Asked.{StatesReadied, at, goes, made, nothing}
use Rattle.core_laws.proofs.OfWriting.Begun.{IsDueThere}
use Rattle.core_laws.proofs.OfWriting.Handing.{SameWork}
use Rattle.core_laws.proofs.OfWriting.Knowing.{serves, server_at}
use Rattle.core_laws.proofs.OfWriting.Nexts.{TakesNext, quiet_open}
use Rattle.core_laws.proofs.OfWriting.Texts.{TakenAway}

-- what is executed has these arguments, and is spelt by its number there

body_asked : (args : Args) (command : Command) → IsBody (Run args) command → IsAskedFor command
body_asked args (commands.Run text schema settings given) is = tt
body_asked args _ is = absurd is

body_said : (args : Args) (command : Command) (number : Option ℕ) (there : ℕ) → IsBody (Run args) command → number ≡ Some there
    → IsSaid command number (executes there args.nulls args.types args.values args.long)
body_said args (commands.Run text schema settings given) number there is same =
    subst (λ (x : Option ℕ). IsSaid (commands.Run text schema settings given) x (executes there args.nulls args.types args.values args.long)) (sym same)
    (ap (λ (a : Args). executes there a.nulls a.types a.values a.long) (sym is))
body_said args _ number there is same = absurd is

module _ (takes : TakesNext) (readied : StatesReadied) (form_away : TakenAway formless) (service : Service) (g : Ground) (t : Tabled) (l : LinkId) (server : Server)
    (n : SessionName) (client : Client) (work : Work) (stands : Stands service g t) (open_so : IsOpen g t l server) (there : t.clients n.client ≡ Some client)
    (in_work : client.desk.work ≡ Some work) (unsent : work.sent ≡ false) (names : n ≡ name_of client.desk work.hostgroup) (named : AreNamed g.codes) where
  abbrev link : Link
  link = link_in g.setup g.tale l

  same : SameWork work (formless work)
  same = record { ordinal = refl; key = refl; hostgroup = refl; sent = refl; command = refl }

  desk_handed : (c : tales.Client) → IsDesk g.setup.reads (view_on g) c.number client.desk
      → IsDesk g.setup.reads (view_on g) c.number (record client.desk { work = Some (formless work) })
  desk_handed c is = form_away g.setup.reads (view_on g) c.number client.desk is work in_work

  due_there : IsDueThere g client n work.ordinal work
  due_there = at takes readied service g t l server n client work (formless work) stands open_so there in_work unsent names named same desk_handed

  unchanged : Stands service g (made takes readied service g t l server n client work (formless work) stands open_so there in_work unsent names named same desk_handed (λ row. row))
  unchanged = nothing takes readied service g t l server n client work (formless work) stands open_so there in_work unsent names named same desk_handed

  is_server : IsServer g t l server.row
  is_server = server_at service g t l server stands open_so.there

  is_same : IsLink g.setup.reads g.codes server.row.link.state link
  is_same =
      is_link g.setup.reads g.codes server.row.link.state link Quiet (quiet_open server.row.link open_so.free) refl
      (serves g t l server.row is_server open_so.entered).state

  -- the number of what stands there by its key
  lives_there : (number : ℕ) → number_of server.row.link.state.live work.key ≡ Some number → link.live due_there.unsent.due.key ≡ Some number
  lives_there number found =
      is_same.live due_there.unsent.due.key
      ∙ ap (option_and_then (number_of server.row.link.state.live)) (named due_there.unsent.due.key)
      ∙ ap (number_of server.row.link.state.live) due_there.unsent.as_due.request.key_is ∙ found

  module _ (number : ℕ) (found : number_of server.row.link.state.live work.key ≡ Some number) where
    made_by : (form : Option Form) (body : Body) → work.form ≡ form → work.body ≡ body
        → Stands service g (made takes readied service g t l server n client work (formless work) stands open_so there in_work unsent names named same desk_handed
        (run_stands (stated_of client.desk n work) number form body))
    unfolding due_there
    made_by None body form_is body_is = unchanged
    made_by (Some form) (Packets bytes) form_is body_is = unchanged
    made_by (Some form) Away form_is body_is = unchanged
    made_by (Some form) (Run args) form_is body_is =
        let body : IsBody (Run args) due_there.unsent.due.command =
        subst (λ (b : Body). IsBody b due_there.unsent.due.command) body_is due_there.unsent.as_due.request.body in
        let is_form : IsForm g.setup.reads form due_there.unsent.due.command =
        subst (λ (f : Option Form). IsFormOr g.setup.reads f due_there.unsent.due.command) form_is due_there.unsent.as_due.request.form in
        goes takes readied service g t l server n client work (formless work) stands open_so there in_work unsent names named same desk_handed form
        (executes number args.nulls args.types args.values args.long) (λ row. longer number (has_parts args.long) row.long) is_form
        (body_asked args due_there.unsent.due.command body)
        (body_said args due_there.unsent.due.command (link.live due_there.unsent.due.key) number body (lives_there number found))

  run_where : (found : Option ℕ) → number_of server.row.link.state.live work.key ≡ found → Stands service g (run_at l n client work found t)
  run_where None none = stands
  run_where (Some number) found = made_by number found work.form work.body refl refl

  run_is : run_begun l n t ≡ run_at l n client work (number_of server.row.link.state.live work.key) t
  run_is =
      ap (λ (x : Option Server). run_for l n x (t.clients n.client) t) open_so.there
      ∙ ap (λ (x : Option Client). run_for l n (Some server) x t) there
      ∙ ap (λ (x : Option Work). run_by l n server client x t) in_work

  pub run_so : Stands service g (run_begun l n t)
  run_so = subst (λ (x : Tabled). Stands service g x) (sym run_is) (run_where (number_of server.row.link.state.live work.key) refl)
