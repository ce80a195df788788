-- What is unfolded to compute the class of a text.
use Rattle.std.specs.Prelude.{⊤}
use Rattle.session_vars.specs.Names.{names_value}
use Rattle.session_vars.specs.Assignments.{slot_of_variable, written, behind_colon, assigned, named_change, assignment, assignments}
use Rattle.session_vars.specs.Slots.{slot_of_comments}
use Rattle.session_vars.specs.Transactions.{access_mode, isolation_level, mode_of, transaction_mode}
use Rattle.session_vars.specs.Shapes.{sets_mode_once, shape_behind}
use Rattle.session_vars.specs.Modes.{base_of, list_of, lists_behind, joined_at, joined}
use Rattle.session_vars.specs.Values.{plain_value, has_reading_mode, value_of, negative_value}
use Rattle.pin_classifier.specs.Diagnostics.{has_any}
use Rattle.pin_classifier.specs.Starts.{names_tables, names_schema, changes_schema, analyzes_other, explains, gives_rows, returns_rows, writes_tables}
use Rattle.pin_classifier.specs.Starts.{shows_connection, goes_back, starts_other, locks_tables, unlocks_tables, locks_other, flushes_other, ends_transaction}
use Rattle.pin_classifier.specs.Starts.{defines, is_savepoint, makes_id, names_accounts, shows_diagnostics, stores}
use Rattle.pin_classifier.specs.Classes.{makes_temporary, ends_session, uses_other, gives_id, is_unread_text, is_deep_inside, begins_other}
use Rattle.pin_classifier.specs.Classes.{spares_variables, is_deep_start, is_deep, locking_of, reads_id, marks_id, sets_id, hides_diagnostics, reads_diagnostics}
use Rattle.pin_classifier.specs.Classes.{reads_found, uses_table, keeps_diagnostics, keeps_found, ends_transaction_of, may_last, outlasts}
use Rattle.pin_classifier.specs.Classes.{names_connection, reads_last, refusal_of, class_of}
use Rattle.pin_classifier.specs.Judged.{limited, sets_limit}
use Rattle.pin_classifier.specs.Opened.{opened_text, opens}
use Rattle.pin_classifier.specs.Shapes.{asks_connection_id, used_schema, shape_of}
use Rattle.pin_classifier.specs.Statement.{has_escaped, has_part}
use Rattle.sql_tokens.specs.Variables.{system_variable_length, variable_name_length}
use Rattle.sql_tokens.specs.Tokens.{plain_token_at, token_at, tokens_from}
use Rattle.sql_tokens.specs.Numbers.{hexadecimal_length, fraction_length, sign_length, exponent_length, decimal_length, number_length}
use Rattle.sql_tokens.specs.Quotes.{begins_quoted, begins_name, quoted_length}
use Rattle.sql_tokens.specs.Comments.{begins_line_comment, begins_block, block_length}

unfoldable pub on_texts : ⊤
unfolding names_value slot_of_variable slot_of_comments written behind_colon assigned named_change assignment assignments access_mode isolation_level mode_of
    transaction_mode sets_mode_once shape_behind base_of list_of lists_behind joined_at joined plain_value has_reading_mode value_of
    negative_value has_any names_tables names_schema changes_schema analyzes_other explains gives_rows returns_rows writes_tables
    shows_connection goes_back starts_other locks_tables unlocks_tables locks_other flushes_other ends_transaction is_savepoint makes_id shows_diagnostics
    defines names_accounts stores makes_temporary ends_session uses_other gives_id is_unread_text spares_variables is_deep_inside begins_other is_deep_start is_deep locking_of reads_id
    marks_id sets_id hides_diagnostics reads_diagnostics reads_found uses_table keeps_diagnostics keeps_found ends_transaction_of may_last outlasts
    names_connection reads_last refusal_of class_of limited sets_limit opens opened_text asks_connection_id used_schema shape_of has_escaped has_part system_variable_length
    variable_name_length plain_token_at token_at tokens_from hexadecimal_length fraction_length sign_length exponent_length decimal_length
    number_length begins_quoted begins_name quoted_length begins_line_comment begins_block block_length
on_texts = tt
