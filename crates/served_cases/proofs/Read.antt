-- The file says its configuration.
use Rattle.std.specs.Prelude.{◌≡◌, ℕ, Bool, List, Ok, refl}
use Rattle.std.specs.Str.{chars, is_utf8}
use Rattle.toml.proofs.OnLiterals.{toml_on_literals}
use Rattle.mx_base.specs.Decimal.{number as decimal_number, number_to}
use Rattle.mx_config.specs.Address.{ipv4, address}
use Rattle.mx_config.specs.Faults.{fault_at}
use Rattle.mx_config.specs.Reading.{config_of, reading_of, rows_at}
use Rattle.mx_config.specs.Rows.{key_of, known_only, optional_key, table_at}
use Rattle.mx_config.specs.RuleRows.{answers_of, client_of, effects_of, judged_rule, patterns_of, rule_of, rule_row, start_of}
use Rattle.mx_config.specs.Tables.{duty_of, listening, named_server, proxy_limits, proxy_row, proxy_texts, row_at, rows_from, server_row, user_of, user_row}
use Rattle.mx_config.specs.Values.{address_value, digest_value, host_value, number, pattern_value, status_value, switch_value, text}
use Rattle.served_cases.specs.File.{config, file}

pub read : (is_pattern : List ℕ → Bool) → reading_of is_pattern file ≡ Ok config
unfolding toml_on_literals is_utf8 chars decimal_number number_to ipv4 address fault_at config_of rows_at
    key_of known_only optional_key table_at answers_of client_of effects_of judged_rule patterns_of rule_of
    rule_row start_of duty_of listening named_server proxy_limits proxy_row proxy_texts row_at rows_from
    server_row user_of user_row address_value digest_value host_value number pattern_value status_value
    switch_value text
read is_pattern = refl
