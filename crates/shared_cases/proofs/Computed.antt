-- The worked log, computed.
use Rattle.std.specs.Prelude.{◌≡◌, refl, true}
use Rattle.std.specs.Fmt.{digits}
use Rattle.packet_frame.specs.Packets.{first_message, id_from, lacking, spelling, split}
use Rattle.handshake.specs.Response.{response_fields, head_fields, response_of}
use Rattle.handshake.specs.Greeting.{greeting_fields, greeting_of, protocol_field, offer_fields, back_field}
use Rattle.handshake.specs.Switch.{switch_of}
use Rattle.handshake.specs.Reading.{number_field, bytes_field, text_field, counted_field, optional_text, last_text}
use Rattle.client_side.specs.Login.{opening as client_opening}
use Rattle.server_side.specs.Login.{opening as server_opening, response_said, answer_said}
use Rattle.client_session.specs.Accounts.{account_of}
use Rattle.client_session.specs.Errors.{connection_refused, own_ok}
use Rattle.server_rule.specs.Classes.{core}
use Rattle.server_rule.specs.Replies.{one_number, reply_end}
use Rattle.reply_track.specs.Replying.{payloads_in}
use Rattle.session_vars.specs.Settings.{collation_names, names_differ, results_differ}
use Rattle.client_session.specs.Errors.{bad_bytes_text, bad_server_bytes, connection_lost}
use Rattle.router_promises.specs.Errors.{buffers_full, no_connection, no_server_in, replay_refused, unknown_statement}
use Rattle.router_cases.specs.Worked.{router}
use Rattle.shared_cases.specs.Refusals.{by_router, capture_log, full, full_log, in_capture, in_login, in_question, in_reply, in_step, in_transaction, late, late_log, login_log, narrow, nowhere, nowhere_log, offline, question_log, refused, refused_log, reply_log, reset_log, spoilt, spoilt_log, step_log, transaction_log}
use Rattle.router_cases.specs.Ended as ended
use Rattle.router_cases.specs.Worked as worked
use Rattle.shared_cases.specs.Cases.{again, again_log, fixed, fixed_keys}
use Rattle.shared_cases.specs.Tests.{ours}

pub worked_so : ours fixed (worked.terms_with worked.nothing) worked.log ≡ true
unfolding client_opening server_opening payloads_in first_message split spelling account_of response_fields head_fields response_of greeting_fields
    protocol_field offer_fields back_field greeting_of switch_of number_field bytes_field text_field counted_field optional_text last_text own_ok
    connection_refused response_said answer_said reply_end one_number digits collation_names names_differ results_differ id_from lacking unknown_statement core
worked_so = refl

pub ended_so : ours fixed ended.terms ended.log ≡ true
unfolding client_opening server_opening payloads_in first_message split spelling account_of response_fields head_fields response_of greeting_fields
    protocol_field offer_fields back_field greeting_of switch_of number_field bytes_field text_field counted_field optional_text last_text own_ok
    connection_refused response_said answer_said reply_end one_number digits collation_names names_differ results_differ id_from lacking unknown_statement core
ended_so = refl

pub executed_so : ours fixed_keys again again_log ≡ true
unfolding client_opening server_opening payloads_in first_message split spelling account_of response_fields head_fields response_of greeting_fields
    protocol_field offer_fields back_field greeting_of switch_of number_field bytes_field text_field counted_field optional_text last_text own_ok
    connection_refused response_said answer_said reply_end one_number digits collation_names names_differ results_differ id_from lacking unknown_statement core
executed_so = refl

pub nowhere_so : ours (by_router offline) nowhere nowhere_log ≡ true
unfolding client_opening server_opening payloads_in first_message split spelling account_of response_fields head_fields response_of greeting_fields
    protocol_field offer_fields back_field greeting_of switch_of number_field bytes_field text_field counted_field optional_text last_text own_ok
    connection_refused response_said answer_said reply_end one_number digits collation_names names_differ results_differ id_from lacking unknown_statement core no_server_in no_connection replay_refused
    buffers_full bad_server_bytes bad_bytes_text connection_lost
nowhere_so = refl

pub late_so : ours (by_router router) late late_log ≡ true
unfolding client_opening server_opening payloads_in first_message split spelling account_of response_fields head_fields response_of greeting_fields
    protocol_field offer_fields back_field greeting_of switch_of number_field bytes_field text_field counted_field optional_text last_text own_ok
    connection_refused response_said answer_said reply_end one_number digits collation_names names_differ results_differ id_from lacking unknown_statement core no_server_in no_connection replay_refused
    buffers_full bad_server_bytes bad_bytes_text connection_lost
late_so = refl

pub refused_so : ours (by_router router) refused refused_log ≡ true
unfolding client_opening server_opening payloads_in first_message split spelling account_of response_fields head_fields response_of greeting_fields
    protocol_field offer_fields back_field greeting_of switch_of number_field bytes_field text_field counted_field optional_text last_text own_ok
    connection_refused response_said answer_said reply_end one_number digits collation_names names_differ results_differ id_from lacking unknown_statement core no_server_in no_connection replay_refused
    buffers_full bad_server_bytes bad_bytes_text connection_lost
refused_so = refl

pub spoilt_so : ours (by_router router) spoilt spoilt_log ≡ true
unfolding client_opening server_opening payloads_in first_message split spelling account_of response_fields head_fields response_of greeting_fields
    protocol_field offer_fields back_field greeting_of switch_of number_field bytes_field text_field counted_field optional_text last_text own_ok
    connection_refused response_said answer_said reply_end one_number digits collation_names names_differ results_differ id_from lacking unknown_statement core no_server_in no_connection replay_refused
    buffers_full bad_server_bytes bad_bytes_text connection_lost
spoilt_so = refl

pub full_so : ours (by_router narrow) full full_log ≡ true
unfolding client_opening server_opening payloads_in first_message split spelling account_of response_fields head_fields response_of greeting_fields
    protocol_field offer_fields back_field greeting_of switch_of number_field bytes_field text_field counted_field optional_text last_text own_ok
    connection_refused response_said answer_said reply_end one_number digits collation_names names_differ results_differ id_from lacking unknown_statement core no_server_in no_connection replay_refused
    buffers_full bad_server_bytes bad_bytes_text connection_lost
full_so = refl

pub reply_so : ours (by_router router) in_reply reply_log ≡ true
unfolding client_opening server_opening payloads_in first_message split spelling account_of response_fields head_fields response_of greeting_fields
    protocol_field offer_fields back_field greeting_of switch_of number_field bytes_field text_field counted_field optional_text last_text own_ok
    connection_refused response_said answer_said reply_end one_number digits collation_names names_differ results_differ id_from lacking unknown_statement core no_server_in no_connection replay_refused
    buffers_full bad_server_bytes bad_bytes_text connection_lost
reply_so = refl

pub question_so : ours (by_router router) in_question question_log ≡ true
unfolding client_opening server_opening payloads_in first_message split spelling account_of response_fields head_fields response_of greeting_fields
    protocol_field offer_fields back_field greeting_of switch_of number_field bytes_field text_field counted_field optional_text last_text own_ok
    connection_refused response_said answer_said reply_end one_number digits collation_names names_differ results_differ id_from lacking unknown_statement core no_server_in no_connection replay_refused
    buffers_full bad_server_bytes bad_bytes_text connection_lost
question_so = refl

pub step_so : ours (by_router router) in_step step_log ≡ true
unfolding client_opening server_opening payloads_in first_message split spelling account_of response_fields head_fields response_of greeting_fields
    protocol_field offer_fields back_field greeting_of switch_of number_field bytes_field text_field counted_field optional_text last_text own_ok
    connection_refused response_said answer_said reply_end one_number digits collation_names names_differ results_differ id_from lacking unknown_statement core no_server_in no_connection replay_refused
    buffers_full bad_server_bytes bad_bytes_text connection_lost
step_so = refl

pub login_so : ours (by_router router) in_login login_log ≡ true
unfolding client_opening server_opening payloads_in first_message split spelling account_of response_fields head_fields response_of greeting_fields
    protocol_field offer_fields back_field greeting_of switch_of number_field bytes_field text_field counted_field optional_text last_text own_ok
    connection_refused response_said answer_said reply_end one_number digits collation_names names_differ results_differ id_from lacking unknown_statement core no_server_in no_connection replay_refused
    buffers_full bad_server_bytes bad_bytes_text connection_lost
login_so = refl

pub capture_so : ours (by_router router) in_capture capture_log ≡ true
unfolding client_opening server_opening payloads_in first_message split spelling account_of response_fields head_fields response_of greeting_fields
    protocol_field offer_fields back_field greeting_of switch_of number_field bytes_field text_field counted_field optional_text last_text own_ok
    connection_refused response_said answer_said reply_end one_number digits collation_names names_differ results_differ id_from lacking unknown_statement core no_server_in no_connection replay_refused
    buffers_full bad_server_bytes bad_bytes_text connection_lost
capture_so = refl

pub transaction_so : ours (by_router router) in_transaction transaction_log ≡ true
unfolding client_opening server_opening payloads_in first_message split spelling account_of response_fields head_fields response_of greeting_fields
    protocol_field offer_fields back_field greeting_of switch_of number_field bytes_field text_field counted_field optional_text last_text own_ok
    connection_refused response_said answer_said reply_end one_number digits collation_names names_differ results_differ id_from lacking unknown_statement core no_server_in no_connection replay_refused
    buffers_full bad_server_bytes bad_bytes_text connection_lost
transaction_so = refl

pub reset_so : ours (by_router router) in_transaction reset_log ≡ true
unfolding client_opening server_opening payloads_in first_message split spelling account_of response_fields head_fields response_of greeting_fields
    protocol_field offer_fields back_field greeting_of switch_of number_field bytes_field text_field counted_field optional_text last_text own_ok
    connection_refused response_said answer_said reply_end one_number digits collation_names names_differ results_differ id_from lacking unknown_statement core no_server_in no_connection replay_refused
    buffers_full bad_server_bytes bad_bytes_text connection_lost
reset_so = refl
