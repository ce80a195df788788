-- User variables and system variables.
use Rattle.std.specs.Prelude.{ℕ, ◌||◌, ◌&&◌, List, drop, unwrap_or, if◌then◌else◌}
use Rattle.std.specs.List.{prefix_len}
use Rattle.sql_tokens.specs.Bytes.{has_byte, is_name_byte, followed_by}
use Rattle.sql_tokens.specs.Quotes.{begins_quoted, begins_name, quoted_length}

abbrev pub name_run : List ℕ → ℕ
name_run bytes = prefix_len is_name_byte bytes

-- `@@` and the longest run of name bytes; 0 where the run is empty
unfoldable pub system_variable_length : List ℕ → ℕ
system_variable_length bytes =
    if has_byte bytes 0 64 && has_byte bytes 1 64 then followed_by 2 (name_run (drop 2 bytes)) else 0

-- behind the `@`: a quoted text or a name that is closed, or the longest run of name bytes, which may be empty
unfoldable pub variable_name_length : List ℕ → ℕ
variable_name_length bytes = if begins_quoted bytes || begins_name bytes then unwrap_or (quoted_length bytes) 0 else name_run bytes
