-- A log of steps in a session that keeps its link. By a rule a client prepares a text in the other hostgroup; at home it sets another character
-- set and begins a transaction. An execute there goes to the transaction's hostgroup: its text is prepared there first, as under the first
-- character set, and then the second is set again.
use Rattle.std.specs.Prelude.{ℕ, true, false, List, ◌∷◌, ◌++◌, bytes_eq, nat_eq, if◌then◌else◌, Option, Some, None, []}
use Rattle.client_session.specs.Errors.{own_ok}
use Rattle.handshake.specs.Greeting.{greeting_bytes}
use Rattle.hostgroups.specs.declared.row.ServerStatus.TheVariants.{Online}
use Rattle.mx_base.specs.declared.names.Address.{Address}
use Rattle.mx_base.specs.declared.names.Hostgroup.{Hostgroup}
use Rattle.mx_base.specs.declared.tag.Tag.TheVariants.{For, Own as OwnTag, Prep, Reply as ReplyTag, Sync}
use Rattle.mx_wire.specs.Log.{Log}
use Rattle.mx_wire.specs.declared.entry.Entry.TheVariants.{Got, Opened, Wrote}
use Rattle.packet_frame.specs.Packets.{spelling, spellings}
use Rattle.pin_classifier.specs.declared.class.Class.{Class}
use Rattle.pin_classifier.specs.declared.class.Shape.TheVariants as shape
use Rattle.private_model.specs.Commands.{Query, plain_class}
use Rattle.query_rules.specs.declared.row.RuleRow.{RuleRow}
use Rattle.query_rules.specs.declared.rule.Rule.{Rule}
use Rattle.server_side.specs.Login.{response_said}
use Rattle.session_state.specs.declared.names.MessageName.{MessageName}
use Rattle.session_vars.specs.Settings.{collation_names}
use Rattle.session_vars.specs.Texts.{names_statement}
use Rattle.session_vars.specs.declared.change.Change.{Change}
use Rattle.session_vars.specs.declared.change.SlotValue.TheVariants.{Text}
use Rattle.session_vars.specs.declared.shape.SetShape.TheVariants as sets
use Rattle.session_vars.specs.declared.slot.Slot.TheVariants.{Names}
use Rattle.log_story.specs.Plan.{Asks, Plan, Route, StepText}
use Rattle.router_promises.specs.Router.{Router}
use Rattle.router_promises.specs.Terms.{Decided, Terms}
use Rattle.router_cases.specs.Ended.{asks as begins_there, begin, begun_ok}
use Rattle.router_cases.specs.Executed.{prepare, prepared, text, with_types}
use Rattle.router_cases.specs.Pieces.{begins, done, opens, plan_of, runs, stays, terms_of, told_on}
use Rattle.router_cases.specs.Worked.{client, greeting, group, here, link, login, names, names_text, nothing, place, route as first_route, router as first_router}

-- another character set
abbrev pub latin : Change
latin = record { slot = Names; value = Text (collation_names 8); adds = false }

abbrev pub latin_text : List ℕ
latin_text = names_statement latin

abbrev pub class_read : List ℕ → Class
class_read text = record plain_class {
  shape = if bytes_eq text names_text then shape.Set (sets.Tracked (names ∷ []))
      else if bytes_eq text latin_text then shape.Set (sets.Tracked (latin ∷ [])) else shape.Other;
}

abbrev pub others : Hostgroup
others = record { 0 = 1 }

abbrev pub there : Address
there = record { ip = 127 ∷ 0 ∷ 0 ∷ 1 ∷ []; port = 3307 }

-- the first text of a client goes to the other hostgroup; no rule has the flag of those behind it
abbrev pub row : RuleRow
row = record {
  rule_id = 1;
  active = true;
  username = None;
  schemaname = None;
  flagIN = 0;
  digest = None;
  match_digest = None;
  match_pattern = None;
  negate_match_pattern = false;
  flagOUT = None;
  replace_pattern = None;
  destination_hostgroup = Some others;
  next_query_flagIN = Some 1;
  multiplex = None;
  error_msg = None;
  OK_msg = None;
  apply = true;
}

abbrev pub rule : Rule
rule = record { row = row; match_digest = None; match_pattern = None }

abbrev pub router : Router
router = record first_router {
  reads = record { class = class_read; hides_id = λ text. false };
  servers =
      record { hostgroup = group; address = here; weight = 1; max_connections = 1; status = Online }
      ∷ record { hostgroup = others; address = there; weight = 1; max_connections = 1; status = Online }
      ∷ [];
  rules = rule ∷ [];
}

abbrev pub route_of : (ordinal : ℕ) → Option Route
route_of ordinal =
    if nat_eq ordinal 1 then Some (record first_route { hostgroup = others; text = Some text; number = 1 })
    else if nat_eq ordinal 2 then Some (record first_route { text = Some latin_text })
    else if nat_eq ordinal 3 then Some (record first_route { text = Some begin })
    else Some (record first_route { text = None })

-- on the second link, the fourth and the sixth question
abbrev pub step_at : (begun : ℕ) → StepText
step_at begun = if nat_eq begun 5 then Asks (Query latin_text) else Asks (Query names_text)

abbrev pub plan : Plan
plan = record (plan_of router (λ (m : MessageName). route_of m.ordinal) [] stays) {
  steps = λ l begun. step_at begun;
}

abbrev pub decided : Decided
decided = record (terms_of router plan).decided { keys = λ key. record { text = text; place = place } }

abbrev pub terms : Terms
terms = record { router = router; decided = decided; stored = nothing }

abbrev pub sets_latin : List ℕ
sets_latin = spelling 0 (3 ∷ latin_text)

-- a link to the other hostgroup
abbrev pub opens_there : (l : ℕ) → Log
opens_there l =
    Opened (record { 0 = 2 }) there (link l) ∷ Got (link l) (spelling 0 (greeting_bytes greeting))
    ∷ Wrote (link l) OwnTag (response_said login greeting) ∷ Got (link l) (spelling 2 own_ok) ∷ []

abbrev pub log : Log
log =
    begins ++ (Got (link 1) prepare ∷ []) ++ opens_there 3 ++ told_on 3
    ++ (Wrote (link 3) (For (client 1) 1) prepare ∷ Got (link 3) (spellings 1 (prepared 7))
    ∷ Wrote (link 1) ReplyTag (spellings 1 (prepared 1)) ∷ Got (link 1) sets_latin ∷ [])
    ++ opens 4 ++ told_on 4 ++ runs 4 1 1 2 sets_latin done ++ (Got (link 1) begins_there ∷ [])
    ++ runs 4 1 1 3 begins_there begun_ok
    ++ (Got (link 1) (with_types 1 0)
    ∷ Wrote (link 4) (Sync (client 1) group) (spelling 0 (3 ∷ names_text))
    ∷ Got (link 4) begun_ok ∷ Wrote (link 4) (Prep (client 1) 4) prepare
    ∷ Got (link 4) (spellings 1 (prepared 5))
    ∷ Wrote (link 4) (Sync (client 1) group) sets_latin ∷ Got (link 4) begun_ok ∷ [])
    ++ runs 4 1 1 4 (with_types 5 0) begun_ok
