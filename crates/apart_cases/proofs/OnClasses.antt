-- What the refusal and the shape of a text unfold to compute, and whether it reads diagnostics.
use Rattle.std.specs.Prelude.{⊤}
use Rattle.sql_tokens.specs.Comments.{begins_block, begins_line_comment, block_length}
use Rattle.sql_tokens.specs.Numbers.{decimal_length, exponent_length, fraction_length, hexadecimal_length, number_length, sign_length}
use Rattle.sql_tokens.specs.Quotes.{begins_name, begins_quoted, quoted_length}
use Rattle.sql_tokens.specs.Tokens.{plain_token_at, token_at, tokens_from}
use Rattle.sql_tokens.specs.Variables.{system_variable_length, variable_name_length}
use Rattle.session_vars.specs.Shapes.{shape_behind}
use Rattle.pin_classifier.specs.Classes.{begins_other, class_of, ends_session, gives_id, hides_diagnostics, is_deep, is_deep_inside, is_deep_start, is_unread_text}
use Rattle.pin_classifier.specs.Classes.{makes_temporary, may_last, names_connection, outlasts, reads_diagnostics, reads_found, reads_last, refusal_of, uses_other}
use Rattle.pin_classifier.specs.Diagnostics.{has_any}
use Rattle.pin_classifier.specs.Judged.{limited, sets_limit}
use Rattle.pin_classifier.specs.Opened.{opened_text, opens}
use Rattle.pin_classifier.specs.Shapes.{asks_connection_id, shape_of, used_schema}
use Rattle.pin_classifier.specs.Starts.{analyzes_other, changes_schema, explains, flushes_other, locks_other, shows_connection, shows_diagnostics, starts_other}
use Rattle.pin_classifier.specs.Statement.{has_escaped, has_part}

unfoldable pub on_classes : ⊤
unfolding begins_other class_of ends_session gives_id hides_diagnostics is_deep is_deep_inside is_deep_start makes_temporary may_last outlasts
    reads_diagnostics reads_found uses_other analyzes_other changes_schema flushes_other locks_other shows_diagnostics starts_other limited sets_limit opens opened_text refusal_of names_connection reads_last is_unread_text has_any has_escaped has_part shape_behind
    shape_of asks_connection_id used_schema explains shows_connection begins_line_comment begins_block block_length begins_quoted
    begins_name quoted_length hexadecimal_length fraction_length sign_length exponent_length decimal_length number_length system_variable_length
    variable_name_length plain_token_at token_at tokens_from
on_classes = tt
