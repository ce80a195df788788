-- A log of the router of that configuration: its rule sends a client's INSERT to the other hostgroup, on a link that is told the default
-- schema and the client's character set, and there the insert id is asked for.
use Rattle.std.specs.Prelude.{ℕ, true, false, List, ◌∷◌, ◌++◌, bytes_eq, codes, nat_eq, if◌then◌else◌, Option, Some, None, []}
use Rattle.client_session.specs.Errors.{own_ok}
use Rattle.handshake.specs.Greeting.{greeting_bytes}
use Rattle.mx_base.specs.declared.tag.Tag.TheVariants.{For, End as EndTag, Own as OwnTag, Reply as ReplyTag}
use Rattle.mx_wire.specs.Log.{Log}
use Rattle.mx_wire.specs.declared.entry.Entry.TheVariants.{Got, Opened, Wrote}
use Rattle.packet_frame.specs.Packets.{spelling, spellings}
use Rattle.pin_classifier.specs.Classes.{class_of}
use Rattle.pin_classifier.specs.declared.class.Class.{Class}
use Rattle.pin_classifier.specs.declared.class.Shape.TheVariants as shape
use Rattle.private_model.specs.Commands.{InitDb, Query, plain_class}
use Rattle.query_rules.specs.declared.rule.Rule.{Rule}
use Rattle.server_rule.specs.Classes.{Reads}
use Rattle.server_rule.specs.Texts.{read_id_text}
use Rattle.server_side.specs.Login.{response_said}
use Rattle.session_state.specs.declared.place.Place.{Place}
use Rattle.session_vars.specs.Settings.{collation_settings}
use Rattle.session_vars.specs.declared.change.Change.{Change}
use Rattle.session_vars.specs.declared.change.SlotValue.TheVariants.{Default}
use Rattle.session_vars.specs.declared.shape.SetShape.TheVariants as sets
use Rattle.session_vars.specs.declared.slot.Slot.TheVariants.{CharacterSetResults, CollationConnection}
use Rattle.log_story.specs.Plan.{Asks, Plan, Route, StepText}
use Rattle.router_promises.specs.Router.{Router}
use Rattle.router_promises.specs.Terms.{Decided, Terms}
use Rattle.router_cases.specs.Pieces.{begins, done, plan_of, stays, terms_of}
use Rattle.router_cases.specs.Worked.{Stored, client, greeting, link, login, names, names_text, ok_with, route as first_route, row as id_row}
use Rattle.served_cases.specs.File.{at_port, config, others, proxy, row, schema}

abbrev pub text : List ℕ
text = codes "INSERT INTO t VALUES (1)"

-- How texts are read: these two as the router does, which is computed once; the others by the same words.

abbrev pub insert_class : Class
insert_class = record plain_class { marks_id = true; keeps_diag = false }

-- SET NAMES takes character_set_results and collation_connection back
abbrev pub results : Change
results = record { slot = CharacterSetResults; value = Default; adds = false }

abbrev pub collation : Change
collation = record { slot = CollationConnection; value = Default; adds = false }

abbrev pub names_class : Class
names_class = record plain_class { shape = shape.Set (sets.Tracked (names ∷ results ∷ collation ∷ [])) }

abbrev pub class_read : List ℕ → Class
class_read other =
    if bytes_eq other text then insert_class
    else if bytes_eq other names_text then names_class
    else class_of other

abbrev pub reads_by : (List ℕ → Class) → Reads
reads_by class = record { class = class; hides_id = λ other. (class other).sets_id }

abbrev pub rule : Rule
rule = record { row = row; match_digest = None; match_pattern = None }

abbrev pub router_by : Reads → Router
router_by reads = record {
  reads = reads;
  proxy = proxy;
  users = config.users;
  servers = config.servers;
  rules = rule ∷ [];
}

-- What is decided: of what follows nothing goes by how texts are read.

abbrev pub goes_there : Option Route
goes_there = Some (record first_route { hostgroup = others; text = Some text })

abbrev pub step_at : (begun : ℕ) → StepText
step_at begun = if nat_eq begun 0 then Asks (InitDb schema) else Asks (Query names_text)

abbrev pub plan : Plan
plan = record (plan_of (router_by (reads_by class_read)) (λ m. goes_there) [] stays) {
  steps = λ l begun. step_at begun;
}

abbrev pub place : Place
place = record { schema = schema; settings = collation_settings 45 }

abbrev pub decided : Decided
decided = record (terms_of (router_by (reads_by class_read)) plan).decided {
  places = λ c. place;
  bare = λ l. false;
  tried = λ entry. record { login = login; bare = false };
}

abbrev pub terms_by : Reads → Stored → Terms
terms_by reads stored = record { router = router_by reads; decided = decided; stored = stored }

abbrev pub asks : List ℕ
asks = spelling 0 (3 ∷ text)

abbrev pub inserted : List ℕ
inserted = spellings 1 (ok_with 1)

abbrev pub log : Log
log =
    begins ++ (Got (link 1) asks ∷ Opened (record { 0 = 2 }) (at_port 3307) (link 3)
    ∷ Got (link 3) (spelling 0 (greeting_bytes greeting))
    ∷ Wrote (link 3) OwnTag (response_said login greeting) ∷ Got (link 3) (spelling 2 own_ok)
    ∷ Wrote (link 3) OwnTag (spelling 0 (2 ∷ schema)) ∷ Got (link 3) done
    ∷ Wrote (link 3) OwnTag (spelling 0 (3 ∷ names_text)) ∷ Got (link 3) done
    ∷ Wrote (link 3) (For (client 1) 1) asks ∷ Got (link 3) inserted ∷ Wrote (link 1) ReplyTag inserted
    ∷ Wrote (link 3) (EndTag (client 1) others) (spelling 0 (3 ∷ read_id_text))
    ∷ Got (link 3) (spellings 1 id_row) ∷ [])
