-- How a link to a server was used: the steps on it since its last question, the statements of its hostgroup that lapsed meanwhile,
-- the prepared statements there with long data, and the moment of its last use.
use Rattle.std.specs.Prelude.{ℕ, suc, ◌+◌, Bool, true, false, not, ◌&&◌, ◌||◌, bytes_eq, is_some, nat_eq, List, [], ◌∷◌, codes, count_by, filter, take}
use Rattle.std.specs.Prelude.{slice_index_or, if◌then◌else◌, Option, Some, None}
use Rattle.std.specs.Option.{option_map_or}
use Rattle.mx_base.specs.Fields.{number_at}
use Rattle.mx_base.specs.declared.tag.Tag.{Tag}
use Rattle.mx_base.specs.declared.tag.Tag.TheVariants as tag
use Rattle.mx_wire.specs.declared.entry.Entry.{Entry}
use Rattle.mx_wire.specs.declared.entry.Entry.TheVariants.{Got, Opened, Wrote}
use Rattle.private_model.specs.Commands.{Command, InitDb, Query, Run, SetId}
use Rattle.private_model.specs.Names.{Hostgroup, LinkId, SessionName}
use Rattle.private_model.specs.Story.{Due, Statement, is_link_id, is_name, message_of}
use Rattle.private_model.specs.View.{Asked, Link, Stage, present}
use Rattle.log_story.specs.Plan.{Asks, Closes, Resets, StepText, own_at}
use Rattle.log_story.specs.Servers.{may_begin, quits_for}
use Rattle.log_story.specs.Tale.{Client, Tale, is_to_server, link_in, view_of}
use Rattle.router_promises.specs.Dues.{is_due}
use Rattle.router_promises.specs.Running.{hostgroup_of}
use Rattle.router_promises.specs.Terms.{Terms, plan_in, setup_in}

-- the kinds of steps to a place
pub data StepKind : Type 0 where
  ToSchema : StepKind
  ToNames : StepKind
  ToSettings : StepKind
  ToId : StepKind

pub record Use : Type 0 where
  pub schemas : ℕ
  pub names : ℕ
  pub settings : ℕ
  pub ids : ℕ
  pub lapsed : ℕ
  pub long : List ℕ
  pub used : ℕ

abbrev pub unused : (clock : ℕ) → Use
unused clock = record { schemas = 0; names = 0; settings = 0; ids = 0; lapsed = 0; long = []; used = clock }

abbrev pub sets_names : List ℕ → Bool
sets_names text = bytes_eq (take 10 text) (codes "SET NAMES ")

abbrev pub kind_of_step : Command → Option StepKind
kind_of_step (InitDb schema) = Some ToSchema
kind_of_step (Query text) = if sets_names text then Some ToNames else Some ToSettings
kind_of_step (SetId n) = Some ToId
kind_of_step _ = None

abbrev pub steps_of : StepKind → Use → ℕ
steps_of ToSchema was = was.schemas
steps_of ToNames was = was.names
steps_of ToSettings was = was.settings
steps_of ToId was = was.ids

abbrev pub with_step : Option StepKind → Use → Use
with_step None was = was
with_step (Some ToSchema) was = record was { schemas = suc was.schemas }
with_step (Some ToNames) was = record was { names = suc was.names }
with_step (Some ToSettings) was = record was { settings = suc was.settings }
with_step (Some ToId) was = record was { ids = suc was.ids }

-- A question begins: steps count, and a STMT_RESET drops long data; another question ends the series of steps, and an execute with
-- long data leaves these with its number.

abbrev pub with_step_text : StepText → Use → Use
with_step_text (Asks command) was = with_step (kind_of_step command) was
with_step_text (Closes number) was = record was { long = filter (λ n. not (nat_eq n number)) was.long }
with_step_text (Resets number) was = record was { long = filter (λ n. not (nat_eq n number)) was.long }

abbrev pub with_long : Option ℕ → (has : Bool) → List ℕ → List ℕ
with_long (Some number) true long = number ∷ filter (λ n. not (nat_eq n number)) long
with_long _ _ long = long

abbrev pub has_any : {A : Type 0} → List A → Bool
has_any [] = false
has_any (x ∷ xs) = true

abbrev pub long_by : (number : Option ℕ) → Command → List ℕ → List ℕ
long_by number (Run text schema settings args) long = with_long number (has_any args.long) long
long_by number _ long = long

abbrev pub long_after : Link → Stage → List ℕ → List ℕ
long_after link (Asked (Statement n due)) long = long_by (link.live due.key) due.command long
long_after link _ long = long

abbrev pub behind_question : Link → Use → Use
behind_question link was = record (unused was.used) { long = long_after link link.stage was.long }

abbrev pub used_by : Tag → StepText → Link → Use → Use
used_by tag.Own step link was = with_step_text step was
used_by (tag.Sync client hostgroup) step link was = with_step_text step was
used_by _ step link was = behind_question link was

-- Statements of a hostgroup that lapse at an entry: those that were due and that the router answers, and those whose client left.

abbrev pub error_code : List (List ℕ) → ℕ
error_code [] = 0
error_code (payload ∷ payloads) = if nat_eq (slice_index_or payload 0 0) 255 then option_map_or (λ n. n) (number_at 2 1 payload) 0 else 0

abbrev pub is_lapse : Option (List (List ℕ)) → Bool
is_lapse own = is_some own

abbrev pub lapsed_for : Terms → (before now : Tale) → SessionName → Option Due → Bool
lapsed_for terms before now n due =
    is_due terms before n
    && (not (is_name n (present (view_of (setup_in terms) now) n.client n.hostgroup))
    || option_map_or (λ (d : Due). is_lapse (own_at (plan_in terms) now.moment (message_of n d))) due false)

abbrev pub has_lapsed : Terms → (before now : Tale) → Hostgroup → Client → Bool
has_lapsed terms before now hostgroup client =
    let n = present (view_of (setup_in terms) before) client.number hostgroup in
    lapsed_for terms before now n ((view_of (setup_in terms) before).dues n)

abbrev pub lapses : Terms → (before now : Tale) → Option Hostgroup → ℕ
lapses terms before now hostgroup = option_map_or (λ h. count_by (has_lapsed terms before now h) before.clients) hostgroup 0

-- What an entry makes of a link's use.

abbrev pub use_written : Terms → (clock : ℕ) → (before now : Tale) → LinkId → Tag → Use → Use
use_written terms clock before now link tag was =
    let step = (plan_in terms).steps link (before.wires link).begun in
    let begins = may_begin (setup_in terms) link (before.wires link) before in
    if begins && quits_for tag step then was
    else if begins then record (used_by tag step (link_in (setup_in terms) now link) was) { used = clock }
    else if (before.wires link).quits then was
    else record was { used = clock }

abbrev pub use_by : Terms → (clock : ℕ) → (before now : Tale) → Entry → LinkId → Use → Use
use_by terms clock before now (Opened server address other) link was = if is_link_id link other then unused clock else was
use_by terms clock before now (Got other bytes) link was = if is_link_id link other then record was { used = clock } else was
use_by terms clock before now (Wrote other tag bytes) link was =
    if is_link_id link other && is_to_server before link then use_written terms clock before now link tag was else was
use_by terms clock before now _ link was = was

abbrev pub use_after : Terms → (clock : ℕ) → (before now : Tale) → Entry → (LinkId → Use) → LinkId → Use
use_after terms clock before now e uses link =
    let was = use_by terms clock before now e link (uses link) in
    record was { lapsed = was.lapsed + lapses terms before now (hostgroup_of terms.router (now.wires link).server) }
