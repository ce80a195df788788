-- What a rule does where it fires: the effects of its row, one by one.
use Rattle.std.specs.Prelude.{ℕ, Bool, false, ◌&&◌, ◌||◌, List, Option, Some, is_some, nat_eq, unwrap_or, option_map}
use Rattle.std.specs.List.{list_any}
use Rattle.std.specs.Option.{option_map_or, option_or}
use Rattle.regex.specs.declared.bytes.regex.Regex.{Regex}
use Rattle.query_rules.specs.declared.ask.Stop.{Stop}
use Rattle.query_rules.specs.declared.ask.Stop.TheVariants as stops
use Rattle.query_rules.specs.declared.pass.Pass.{Pass}
use Rattle.query_rules.specs.declared.rule.Rule.{Rule}
use Rattle.query_rules.specs.Patterns.{replaced}

abbrev pub rewritten_by : Option Regex → (template : Option (List ℕ)) → (text : List ℕ) → List ℕ
rewritten_by (Some pattern) (Some template) text = replaced pattern template text
rewritten_by pattern template text = text

-- replace_pattern: takes the place of all that match_pattern finds
abbrev pub rewritten : Rule → (text : List ℕ) → List ℕ
rewritten rule text = rewritten_by rule.match_pattern rule.row.replace_pattern text

-- error_msg, and else OK_msg: what is answered in place of running the text
abbrev pub answer_of : Rule → Option Stop
answer_of rule = option_or (option_map stops.Error rule.row.error_msg) (option_map stops.Ok rule.row.OK_msg)

-- error_msg, OK_msg and apply end the pass
abbrev pub is_last : Rule → Bool
is_last rule = is_some rule.row.error_msg || (is_some rule.row.OK_msg || rule.row.apply)

-- the pass behind a rule that fires; what is absent changes nothing
abbrev pub after : Rule → Pass → Pass
after rule pass = record {
  flag = unwrap_or rule.row.flagOUT pass.flag;
  text = rewritten rule pass.text;
  hostgroup = option_or rule.row.destination_hostgroup pass.hostgroup;
  next_flag = option_or rule.row.next_query_flagIN pass.next_flag;
  multiplex = option_or rule.row.multiplex pass.multiplex;
  stop = answer_of rule;
}

-- rules are tried first by flag 0, or by one that an active rule sets for what comes next

abbrev pub sets_flag : (flag : ℕ) → Rule → Bool
sets_flag flag rule = rule.row.active && option_map_or (nat_eq flag) rule.row.next_query_flagIN false

abbrev pub is_first_flag : List Rule → (flag : ℕ) → Bool
is_first_flag rules flag = nat_eq flag 0 || list_any (sets_flag flag) rules
