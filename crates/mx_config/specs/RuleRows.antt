-- The table `rules`: its keys in order, with the default and the form of each.
use Rattle.std.specs.Prelude.{ℕ, ◌+◌, ◌≤◌, ◌==◌, Bool, true, false, if◌then◌else◌, List, [], ◌∷◌, length, codes, Some, None, Ok, Err, option_map}
use Rattle.std.specs.List.{list_any}
use Rattle.toml.specs.Data.{Data, Members}
use Rattle.query_rules.specs.Rows.{replaces_nothing}
use Rattle.query_rules.specs.declared.row.RuleRow.{RuleRow}
use Rattle.mx_config.specs.declared.fault.Kind.TheVariants.{DuplicateRule, ReplaceWithoutPattern}
use Rattle.mx_config.specs.declared.fault.Place.{Place}
use Rattle.mx_config.specs.declared.fault.TableName.TheVariants.{Rules}
use Rattle.mx_config.specs.declared.rules.RuleStart.{RuleStart}
use Rattle.mx_config.specs.declared.rules.RuleClient.{RuleClient}
use Rattle.mx_config.specs.declared.rules.RulePatterns.{RulePatterns}
use Rattle.mx_config.specs.declared.rules.RuleAnswers.{RuleAnswers}
use Rattle.mx_config.specs.declared.rules.RuleEffects.{RuleEffects}
use Rattle.mx_config.specs.declared.value.TextForm.TheVariants.{Any, Message}
use Rattle.mx_config.specs.Faults.{Said, ◌>>=◌, at_row, fault_at}
use Rattle.mx_config.specs.Rows.{key_of, optional_key}
use Rattle.mx_config.specs.Tables.{row_at}
use Rattle.mx_config.specs.Values.{AllFit, ArePatterns, digest_value, number, pattern_value, switch_value, text}

abbrev pub rule_keys : List (List ℕ)
rule_keys = codes "rule_id" ∷ codes "active" ∷ codes "apply" ∷ codes "negate_match_pattern" ∷ codes "username" ∷ codes "schemaname" ∷ codes
    "flagIN" ∷ codes "digest" ∷ codes "match_digest" ∷ codes "match_pattern"
    ∷ codes "flagOUT" ∷ codes "next_query_flagIN" ∷ codes "replace_pattern" ∷ codes "destination_hostgroup" ∷ codes "multiplex" ∷ codes
    "error_msg" ∷ codes "OK_msg" ∷ []

unfoldable pub start_of : Place → Members → Said RuleStart
start_of place ms = do
  rule_id ← key_of place (codes "rule_id") None (number 1 4294967295) ms
  active ← key_of place (codes "active") (Some true) switch_value ms
  apply ← key_of place (codes "apply") (Some false) switch_value ms
  negate ← key_of place (codes "negate_match_pattern") (Some false) switch_value ms
  Ok (record { rule_id = rule_id; active = active; apply = apply; negate_match_pattern = negate })

unfoldable pub client_of : Place → Members → Said RuleClient
client_of place ms = do
  username ← optional_key place (codes "username") (text Any) ms
  schemaname ← optional_key place (codes "schemaname") (text Any) ms
  flag ← key_of place (codes "flagIN") (Some 0) (number 0 65535) ms
  Ok (record { username = username; schemaname = schemaname; flagIN = flag })

-- the texts of patterns are told by a test
unfoldable pub patterns_of : (is_pattern : List ℕ → Bool) → Place → Members → Said RulePatterns
patterns_of is_pattern place ms = do
  digest ← optional_key place (codes "digest") digest_value ms
  match_digest ← optional_key place (codes "match_digest") (pattern_value is_pattern) ms
  match_pattern ← optional_key place (codes "match_pattern") (pattern_value is_pattern) ms
  Ok (record { digest = digest; match_digest = match_digest; match_pattern = match_pattern })

unfoldable pub effects_of : Place → Members → Said RuleEffects
effects_of place ms = do
  out ← optional_key place (codes "flagOUT") (number 0 65535) ms
  next ← optional_key place (codes "next_query_flagIN") (number 0 65535) ms
  template ← optional_key place (codes "replace_pattern") (text Any) ms
  destination ← optional_key place (codes "destination_hostgroup") (number 0 65535) ms
  multiplex ← optional_key place (codes "multiplex") switch_value ms
  Ok (record {
    flagOUT = out;
    next_query_flagIN = next;
    replace_pattern = template;
    destination_hostgroup = option_map
        (λ n. record { 0 = n }) destination;
    multiplex = multiplex;
  })

unfoldable pub answers_of : Place → Members → Said RuleAnswers
answers_of place ms = do
  error ← optional_key place (codes "error_msg") (text Message) ms
  ok ← optional_key place (codes "OK_msg") (text Message) ms
  Ok (record { error_msg = error; OK_msg = ok })

abbrev pub rule_with : RuleStart → RuleClient → RulePatterns → RuleEffects → RuleAnswers → RuleRow
rule_with start c p e a = record {
  rule_id = start.rule_id;
  active = start.active;
  username = c.username;
  schemaname = c.schemaname;
  flagIN = c.flagIN;
  digest = p.digest;
  match_digest = p.match_digest;
  match_pattern = p.match_pattern;
  negate_match_pattern = start.negate_match_pattern;
  flagOUT = e.flagOUT;
  replace_pattern = e.replace_pattern;
  destination_hostgroup = e.destination_hostgroup;
  next_query_flagIN = e.next_query_flagIN;
  multiplex = e.multiplex;
  error_msg = a.error_msg;
  OK_msg = a.OK_msg;
  apply = start.apply;
}

-- the rule that the keys of a row say
unfoldable pub rule_of : (is_pattern : List ℕ → Bool) → Place → Members → Said RuleRow
rule_of is_pattern place ms = do
  start ← start_of place ms
  client ← client_of place ms
  patterns ← patterns_of is_pattern place ms
  effects ← effects_of place ms
  answers ← answers_of place ms
  Ok (rule_with start client patterns effects answers)

-- a template takes the place of what a pattern finds
abbrev pub replaces : Place → RuleRow → Said (Unit {0})
replaces place row = if replaces_nothing row then Err (fault_at place ReplaceWithoutPattern (codes "replace_pattern")) else Ok tt

abbrev pub has_rule : List RuleRow → ℕ → Bool
has_rule rows id = list_any (λ row. row.rule_id == id) rows

-- no row before has the id
abbrev pub new_rule : Place → (before : List RuleRow) → (id : ℕ) → Said (Unit {0})
new_rule place before id = if has_rule before id then Err (fault_at place DuplicateRule (codes "rule_id")) else Ok tt

-- the rule can stand behind these
unfoldable pub judged_rule : Place → (before : List RuleRow) → RuleRow → Said (Unit {0})
judged_rule place before row = do
  template ← replaces place row
  new_rule place before row.rule_id

-- the row behind these
unfoldable pub rule_row : (is_pattern : List ℕ → Bool) → (before : List RuleRow) → Data → Said RuleRow
rule_row is_pattern before d = do
  let place = at_row Rules (length before + 1)
  ms ← row_at place rule_keys d
  rule ← rule_of is_pattern place ms
  stands ← judged_rule place before rule
  Ok rule

-- what was read of a row: its id is in its range, its texts are of their forms, and its patterns are patterns
pub record AreLawfulKeys (row : RuleRow) : Type 0 where
  pub rule_id : (1 ≤ row.rule_id) × (row.rule_id ≤ 4294967295)
  pub username : AllFit Any row.username
  pub schemaname : AllFit Any row.schemaname
  pub match_digest : ArePatterns row.match_digest
  pub match_pattern : ArePatterns row.match_pattern
  pub replace_pattern : AllFit Any row.replace_pattern
  pub error_msg : AllFit Message row.error_msg
  pub OK_msg : AllFit Message row.OK_msg
