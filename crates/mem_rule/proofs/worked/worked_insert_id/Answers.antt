use Rattle.std.proofs.Common.{refl}
use Rattle.std.specs.Fmt.{digits}
use Rattle.mx_base.specs.Decimal.{number}
use Rattle.sql_tokens.specs.Comments.{begins_block, begins_line_comment, block_length}
use Rattle.sql_tokens.specs.Numbers.{decimal_length, exponent_length, fraction_length, hexadecimal_length, number_length, sign_length}
use Rattle.sql_tokens.specs.Quotes.{begins_name, begins_quoted, quoted_length}
use Rattle.sql_tokens.specs.Tokens.{plain_token_at, token_at, tokens_from}
use Rattle.sql_tokens.specs.Variables.{system_variable_length, variable_name_length}
use Rattle.pin_classifier.specs.Classes.{class_of}
use Rattle.pin_classifier.specs.Judged.{limited, sets_limit}
use Rattle.pin_classifier.specs.Opened.{opened_text, opens}
use Rattle.pin_classifier.specs.Shapes.{asks_connection_id, shape_of, used_schema}
use Rattle.server_rule.specs.Replies.{one_number, reply_end}
use Rattle.mem_rule.specs.Commands.{ran}
use Rattle.mem_rule.proofs.worked.worked_insert_id.Goals as goal

pub returns : goal.returns
unfolding ran class_of limited sets_limit opens opened_text shape_of used_schema asks_connection_id number one_number reply_end digits begins_line_comment begins_block block_length begins_quoted begins_name quoted_length hexadecimal_length fraction_length sign_length exponent_length decimal_length number_length system_variable_length variable_name_length plain_token_at token_at tokens_from
returns c = record { shown = refl; kept = refl; reset = refl }
