-- At an entry what the router says on links to servers is what there is to say, by the rows of its tables.
use Rattle.std.specs.Prelude.{◌≡◌, ℕ, Bool, true, false, not, ◌&&◌, is_some, List, [], Option, Some, None}
use Rattle.std.proofs.Common.{refl, sym, ◌∙◌, subst, inl, inr}
use Rattle.std.proofs.lemmas.Bool.{and_parts, false≢true}
use Rattle.mx_base.specs.declared.tag.Tag.TheVariants as tags
use Rattle.mx_wire.specs.declared.entry.Entry.{Entry}
use Rattle.client_session.specs.Setups.{Setup as Service}
use Rattle.server_rule.specs.Classes.{Reads}
use Rattle.server_side.specs.Account.{Account as Login}
use Rattle.private_model.specs.Names.{LinkId}
use Rattle.private_model.specs.View as view
use Rattle.private_model.specs.View.{Link, Setup, View}
use Rattle.log_story.specs.Honest.{IsStep}
use Rattle.log_story.specs.Plan.{Asks, Closes, Plan, Resets, StepText}
use Rattle.log_story.specs.Said.{SaysSo, SaysThere}
use Rattle.log_story.specs.Servers as servers
use Rattle.log_story.specs.Tale.{Tale, Wire, is_to_server, view_of}
use Rattle.log_story.specs.Telling.{tale_step}
use Rattle.run_laws.proofs.Becoming.{became_so}
use Rattle.run_laws.proofs.Readable.{readable}
use Rattle.run_laws.specs.Reads.{AllHeard, HasItsArgs}
use Rattle.link_laws.specs.Stands.{Codes}
use Rattle.link_state.specs.Dones.{is_quiet}
use Rattle.link_state.specs.declared.writing.Writing.{Writing}
use Rattle.lent_link.specs.Links.{is_in}
use Rattle.lent_link.specs.Rests.{is_resetting, is_written, may_begin}
use Rattle.lent_link.specs.declared.link.Begins as code
use Rattle.lent_link.specs.declared.link.Begins.TheVariants as begins
use Rattle.lent_link.specs.declared.link.Step.{Step}
use Rattle.lent_link.specs.declared.link.Step.TheVariants as steps
use Rattle.served_link.specs.declared.row.Row.{Row}
use Rattle.row_laws.specs.Rows.{IsRowIn, Serves}
use Rattle.row_laws.specs.Written.{IsSpelt, IsStepOf, IsWrittenBy}
use Rattle.row_laws.proofs.Beginning.{law_quiet}
use Rattle.row_laws.proofs.Nexting.{begins_so, next_serves}
use Rattle.row_laws.proofs.Opening.{serves_in}
use Rattle.row_laws.proofs.Seeing.{quiet_same}
use Rattle.core_tables.specs.Tables.{Tabled}
use Rattle.core_tables.specs.declared.server.Server.{Server}
use Rattle.core_stands.specs.Grounds.{Ground, on}
use Rattle.core_stands.specs.Servers.{IsServer, IsServerBy}
use Rattle.core_stands.specs.Stands.{IsDuly, Stands}
use Rattle.core_laws.proofs.OfEntry.Saying.{row_says}
use Rattle.core_laws.proofs.OfEntry.Silence.{says_still}
use Rattle.core_laws.specs.entry.Speaks.{IsSilentOrSpoken}

-- the row of a link to a server stands for it
pub server_there : (service : Service) (g : Ground) (t : Tabled) (l : LinkId) (server : Server) → Stands service g t → is_to_server g.tale l ≡ true
    → t.links l ≡ Some server → IsServer g t l server.row
server_there service g t l server stands to_server there =
    subst (λ (row : Option Server). IsServerBy true g t l row) there
    (subst (λ (b : Bool). IsServerBy b g t l (t.links l)) to_server (stands.servers l))

module _ (service : Service) (g : Ground) (t : Tabled) (e : Entry) where
  abbrev new : Tale
  new = tale_step g.setup g.plan g.tale e

  pub all_say : SaysSo g.setup g.plan g.tale → Stands service (on g new) t → AllHeard new.story
      → ((l : LinkId) → is_to_server new l ≡ true → IsSilentOrSpoken g.setup g.plan g.tale e new t l) → SaysSo g.setup g.plan new
  all_say so stands heard each l to_server = by (each l to_server) where
    by : IsSilentOrSpoken g.setup g.plan g.tale e new t l → SaysThere g.setup g.plan new l
    by (inl silent) = says_still g.setup l g.plan g.tale e silent.1 (so l silent.0)
    by (inr spoken) =
        row_says g.setup g.codes g.plan new l spoken.server.row
        (server_there service (on g new) t l spoken.server stands to_server spoken.there).row
        (readable g.setup new.story stands.lawful
        (became_so g.setup (IsDuly g.setup g.plan) HasItsArgs (λ n due is. is.whole) new.story stands.duly) heard l).asked spoken.well

-- Before anything else begins, a STMT_CLOSE or a STMT_RESET is whole.

no_step : (stage : view.Stage) (step : Step) (text : Option StepText) (link : Link) (said written : List ℕ) → stage ≡ view.Quiet
    → IsSpelt stage step true link said → IsStepOf step text → IsStep text written
no_step view.Quiet steps.Other None link said written quiet is same = tt
no_step view.Quiet steps.Other (Some (Asks command)) link said written quiet is same = tt
no_step view.Quiet steps.Other (Some (Closes n)) link said written quiet is same = absurd same
no_step view.Quiet steps.Other (Some (Resets n)) link said written quiet is same = absurd same
no_step view.Quiet (steps.Closes number) text link said written quiet is same = absurd is
no_step view.Quiet (steps.Resets number) text link said written quiet is same = absurd is
no_step (view.Asked question) step text link said written quiet is same = absurd is
no_step (view.Answered question) step text link said written quiet is same = absurd is

module _ (reads : Reads) (codes : Codes) (login : Login) (seen : View) (row : Row) (wire : Wire) (link : Link)
    (stands : Serves reads codes login seen row wire link) (may : may_begin row.link ≡ true) where
  behind_login : (is_quiet row.link.state.stage && (is_written row.link && not (is_resetting row.link.step))) ≡ true
  behind_login =
      (and_parts (is_in row.link.login.stage) (is_quiet row.link.state.stage && (is_written row.link && not (is_resetting row.link.step))) may).1

  quiet_code : is_quiet row.link.state.stage ≡ true
  quiet_code = (and_parts (is_quiet row.link.state.stage) (is_written row.link && not (is_resetting row.link.step)) behind_login).0

  written_code : (is_written row.link && not (is_resetting row.link.step)) ≡ true
  written_code = (and_parts (is_quiet row.link.state.stage) (is_written row.link && not (is_resetting row.link.step)) behind_login).1

  flip_not : (b : Bool) → not b ≡ true → b ≡ false
  flip_not false is = refl
  flip_not true is = absurd (false≢true is)

  quit_whole : row.link.quits ≡ true → (next : Option code.Begins) (writing : Option Writing)
      → IsWrittenBy next writing row.link.state.stage row.link.step row.link.quits wire.step wire.written link → IsStep wire.step wire.written
  quit_whole quits None None over = over.is_step
  quit_whole quits (Some next) writing over = over.0.is_step
  quit_whole quits None (Some w) going =
      no_step link.stage row.link.step wire.step link w.bytes wire.written
      (law_quiet link.stage (sym (quiet_same reads codes row.link.state link stands.state) ∙ quiet_code))
      (subst (λ (b : Bool). IsSpelt link.stage row.link.step b link w.bytes) quits going.spelt_so) stands.step

  step_whole : (quits : Bool) → row.link.quits ≡ quits → IsStep wire.step wire.written
  step_whole true quits = quit_whole quits row.link.next row.link.writing stands.written
  step_whole false stays =
      (next_serves reads codes login seen row wire link stands quiet_code
      (flip_not (is_resetting row.link.step) (and_parts (is_written row.link) (not (is_resetting row.link.step)) written_code).1) stays
      tags.Own [] begins.Quits 0 0 None None (and_parts (is_written row.link) (not (is_resetting row.link.step)) written_code).0).written.0.is_step

pub row_closes : (setup : Setup) (codes : Codes) (plan : Plan) (tale : Tale) (l : LinkId) (row : Row) → IsRowIn setup codes plan tale l row
    → servers.may_begin setup l (tale.wires l) tale ≡ true → IsStep (tale.wires l).step (tale.wires l).written
row_closes setup codes plan tale l row stands may =
    let entered : (tale.wires l).entered ≡ true = (and_parts (tale.wires l).entered _ may).0 in
    let serves : Serves setup.reads codes (plan.logins l) (view_of setup tale) row (tale.wires l) ((view_of setup tale).links l) =
    serves_in setup.reads codes (plan.logins l) (view_of setup tale) row (tale.wires l) ((view_of setup tale).links l) entered stands in
    step_whole setup.reads codes (plan.logins l) (view_of setup tale) row (tale.wires l) ((view_of setup tale).links l) serves
    (sym (begins_so setup codes plan tale l row stands entered) ∙ may) row.link.quits refl

pub closes_first : (service : Service) (g : Ground) (t : Tabled) (link : LinkId) → Stands service g t → is_some (t.links link) ≡ true
    → is_to_server g.tale link ≡ true → servers.may_begin g.setup link (g.tale.wires link) g.tale ≡ true
    → IsStep (g.tale.wires link).step (g.tale.wires link).written
closes_first service g t link stands has to_server may = by (t.links link) refl has where
  by : (row : Option Server) → t.links link ≡ row → is_some row ≡ true → IsStep (g.tale.wires link).step (g.tale.wires link).written
  by (Some server) there has =
      row_closes g.setup g.codes g.plan g.tale link server.row (server_there service g t link server stands to_server there).row may
  by None there has = absurd (false≢true has)
