-- Which errors the router has, and which answers are of one packet.
use Rattle.std.specs.Prelude.{◌≡◌, ◌≢◌, ℕ, ◌+◌, ◌<◌, ◌≤◌, ◌^◌, Bool, true, false, ◌||◌, nat_lt, List, [], ◌∷◌, ◌++◌, codes, length, map, slice_index_or, refl}
use Rattle.std.specs.Fmt.{decimal}
use Rattle.std.proofs.Common.{ap, append-nil, arith, subst, sym, ◌∙◌}
use Rattle.std.proofs.lemmas.Fmt.{decimal_injective, length-decimal-le}
use Rattle.client_session.specs.Errors.{bad_server_bytes, connection_lost, connection_refused, malformed_command, too_many_connections, unknown_command}
use Rattle.reply_text.specs.Replies.{eof_payload, err_payload, ok_payload}
use Rattle.reply_text.specs.Tables.{count_payload, definition_payload, row_payload, text_bytes}
use Rattle.query_rules.specs.declared.rule.Rule.{Rule}
use Rattle.admin_port.specs.Answers.{Reply, code_of, text_of}
use Rattle.admin_port.specs.Answers.Reply.{Done, Rows, Refused, Loads, ShutsDown}
use Rattle.admin_port.specs.Payloads.{reply_payloads, sheet_payloads}
use Rattle.admin_port.specs.Sheets.{Sheet}
use Rattle.admin_port.specs.declared.answer.Refusal.{Refusal}
use Rattle.admin_port.specs.declared.answer.Refusal.TheVariants as refusals
use Rattle.private_model.specs.Names.{ClientNo}
use Rattle.router_promises.specs.Errors.{buffers_full, diagnostics_gone, names_connection, no_connection, no_server_in, out_of_memory, refused_by_rule, replay_refused, server_offline, server_shutdown, sets_server, too_many_statements, unknown_statement}
use Rattle.own_words.specs.Codes.{code_in, failure_codes, is_among, is_last_code, is_own_code, refusal_codes}
use Rattle.own_words.specs.Own.{Answers, Shows, BadBytes, BuffersFull, ByRule, DiagnosticsGone, Fails, GivesUp, IsAnswer, IsFailure, IsLastWord, IsOwn, IsRefusal, LinkLost, MalformedCommand, NamesConnection, NoConnection, NoLink, NoMemory, NoServerIn, Nothing, Number, Offline, OkByRule, Okay, Refuses, SetsServer, ShuttingDown, StepRefused, TooManyStatements, TurnedAway, UnknownCommand, UnknownStatement, is_error_text, is_ok_text, number_payloads}

pub never : {A : Type 0} → true ≡ false → A
never is = absurd (cc)

one-payload : (a b : List ℕ) → ◌≡◌ {A = List (List ℕ)} (a ∷ []) (b ∷ []) → a ≡ b
one-payload a b is = cc

one-two : {A : Type 0} (a b c : List ℕ) (more : List (List ℕ)) → ◌≡◌ {A = List (List ℕ)} (a ∷ []) (b ∷ c ∷ more) → A
one-two a b c more is = absurd (cc)

none-one : {A : Type 0} (a : List ℕ) (more : List (List ℕ)) → ◌≡◌ {A = List (List ℕ)} [] (a ∷ more) → A
none-one a more is = absurd (cc)

left-out : (a b : Bool) → (a || b) ≡ false → a ≡ true → ⊥
left-out true b none is = never none
left-out false b none is = never (sym is)

right-out : (a b : Bool) → (a || b) ≡ false → b ≡ true → ⊥
right-out true b none is = never none
right-out false b none is = never (sym is ∙ none)

-- Errors.

-- it is an error of one of these codes
pub record IsError (codes : List ℕ) (payload : List ℕ) : Type 0 where
  pub first : slice_index_or payload 0 0 ≡ 255
  pub code : is_among codes (code_in payload) ≡ true

refusal-error : (rules : List Rule) (payload : List ℕ) → IsRefusal rules payload → IsError refusal_codes payload
unfolding refused_by_rule unknown_statement no_server_in diagnostics_gone names_connection sets_server too_many_statements malformed_command unknown_command
refusal-error rules _ (ByRule text has) = record { first = refl; code = refl }
refusal-error rules _ (UnknownStatement number fits) = record { first = refl; code = refl }
refusal-error rules _ (NoServerIn hostgroup fits) = record { first = refl; code = refl }
refusal-error rules _ DiagnosticsGone = record { first = refl; code = refl }
refusal-error rules _ NamesConnection = record { first = refl; code = refl }
refusal-error rules _ SetsServer = record { first = refl; code = refl }
refusal-error rules _ TooManyStatements = record { first = refl; code = refl }
refusal-error rules _ MalformedCommand = record { first = refl; code = refl }
refusal-error rules _ UnknownCommand = record { first = refl; code = refl }

failure-error : (payload : List ℕ) → IsFailure payload → IsError failure_codes payload
unfolding connection_lost no_connection connection_refused replay_refused server_offline bad_server_bytes buffers_full server_shutdown out_of_memory
failure-error _ LinkLost = record { first = refl; code = refl }
failure-error _ (NoConnection since now since_fits now_fits) = record { first = refl; code = refl }
failure-error _ NoLink = record { first = refl; code = refl }
failure-error _ (StepRefused code fits) = record { first = refl; code = refl }
failure-error _ Offline = record { first = refl; code = refl }
failure-error _ (BadBytes place fits) = record { first = refl; code = refl }
failure-error _ (BuffersFull kept announced kept_fits announced_fits) = record { first = refl; code = refl }
failure-error _ ShuttingDown = record { first = refl; code = refl }
failure-error _ NoMemory = record { first = refl; code = refl }

no-room : IsError (1040 ∷ []) too_many_connections
unfolding too_many_connections
no-room = record { first = refl; code = refl }

err-code : (code : ℕ) (state text : List ℕ) → code_in (err_payload code state text) ≡ code
err-code code state text = omega arith

-- an error is no OK
isnt-ok : {A : Type 0} (payload : List ℕ) (status : ℕ) (text : List ℕ) → slice_index_or payload 0 0 ≡ 255
    → ◌≡◌ {A = List (List ℕ)} (payload ∷ []) (ok_payload status text ∷ []) → A
isnt-ok payload status text first is =
    let none : slice_index_or payload 0 0 ≡ 0 = ap (λ (p : List ℕ). slice_index_or p 0 0) (one-payload _ _ is) in
    absurd (omega (arith, first, none))

five-one : {A : Type 0} (status number : ℕ) (payload : List ℕ) → ◌≡◌ {A = List (List ℕ)} (number_payloads status number) (payload ∷ []) → A
five-one status number payload is =
    let long : 5 ≡ 1 = ap length is in
    absurd (omega (arith, long))

coded : (codes : List ℕ) (payload : List ℕ) (code : ℕ) (state text : List ℕ) → IsError codes payload
    → ◌≡◌ {A = List (List ℕ)} (payload ∷ []) (err_payload code state text ∷ []) → is_among codes code ≡ true
coded codes payload code state text error is =
    subst (λ (n : ℕ). is_among codes n ≡ true) (ap code_in (one-payload _ _ is) ∙ err-code code state text) error.code

answer-error : (rules : List Rule) (client : ClientNo) (payloads : List (List ℕ)) (code : ℕ) (state text : List ℕ) → IsAnswer rules client payloads
    → payloads ≡ err_payload code state text ∷ [] → is_among refusal_codes code ≡ true
answer-error rules client _ code state text Nothing is = none-one _ _ is
answer-error rules client _ code state text (Okay status small) is = isnt-ok _ status [] refl (sym is)
answer-error rules client _ code state text (OkByRule status other small has) is = isnt-ok _ status other refl (sym is)
answer-error rules client _ code state text (Number status small) is = five-one status client.0 _ is
answer-error rules client _ code state text (Refuses payload refuses) is = coded refusal_codes payload code state text (refusal-error rules payload refuses) is

-- An administrator's.

abbrev refusal_payload : Refusal → List ℕ
refusal_payload refusal = err_payload (code_of refusal) (codes "HY000") (text_of refusal)

same-info : (a b : ℕ) (text other : List ℕ) → ◌≡◌ {A = List (List ℕ)} (ok_payload a text ∷ []) (ok_payload b other ∷ []) → text ≡ other
same-info a b text other is = cc

rows-one : {A : Type 0} (s : Sheet) (payload : List ℕ) → ◌≡◌ {A = List (List ℕ)} (sheet_payloads s) (payload ∷ []) → A
rows-one {A = A} s payload is = by (map definition_payload s.columns) is where
  by : (columns : List (List ℕ)) → ◌≡◌ {A = List (List ℕ)} (count_payload (length s.columns) ∷ (columns ++ (eof_payload 2 ∷ (map row_payload s.rows ++ eof_payload 2 ∷ [])))) (payload ∷ []) → A
  by [] same = one-two _ _ _ _ (sym same)
  by (column ∷ columns) same = one-two _ _ _ _ (sym same)

refused-error : (refusal : Refusal) → IsError refusal_codes (refusal_payload refusal)
refused-error (refusals.Unknown word) = record { first = refl; code = refl }
refused-error refusals.Rule = record { first = refl; code = refl }
refused-error refusals.Server = record { first = refl; code = refl }

shown-error : (reply : Reply) (code : ℕ) (state text : List ℕ) → reply_payloads reply ≡ err_payload code state text ∷ [] → is_among refusal_codes code ≡ true
shown-error Done code state text is = isnt-ok _ 2 [] refl (sym is)
shown-error (Rows s) code state text is = rows-one s _ is
shown-error (Refused refusal) code state text is = coded refusal_codes (refusal_payload refusal) code state text (refused-error refusal) is
shown-error (Loads table) code state text is = isnt-ok _ 2 [] refl (sym is)
shown-error ShutsDown code state text is = isnt-ok _ 2 [] refl (sym is)

shown-text : {A : Type 0} (reply : Reply) (text : List ℕ) → reply_payloads reply ≡ err_payload 1148 (codes "42000") text ∷ [] → A
shown-text reply text is = absurd (never (sym (by reply is))) where
  by-code : (refusal : Refusal) → ◌≡◌ {A = List (List ℕ)} (refusal_payload refusal ∷ []) (err_payload 1148 (codes "42000") text ∷ []) → true ≡ false
  by-code (refusals.Unknown word) same = (let at : 9120 ≡ 1148 = ap code_in (one-payload _ _ same) in absurd (omega (arith, at)))
  by-code refusals.Rule same = (let at : 9121 ≡ 1148 = ap code_in (one-payload _ _ same) in absurd (omega (arith, at)))
  by-code refusals.Server same = (let at : 9122 ≡ 1148 = ap code_in (one-payload _ _ same) in absurd (omega (arith, at)))

  by : (reply : Reply) → reply_payloads reply ≡ err_payload 1148 (codes "42000") text ∷ [] → false ≡ true
  by Done same = isnt-ok _ 2 [] refl (sym same)
  by (Rows s) same = rows-one s _ same
  by (Refused refusal) same = sym (by-code refusal same)
  by (Loads table) same = isnt-ok _ 2 [] refl (sym same)
  by ShutsDown same = isnt-ok _ 2 [] refl (sym same)

shown-info : {A : Type 0} (reply : Reply) (status : ℕ) (text : List ℕ) → reply_payloads reply ≡ ok_payload status text ∷ [] → text ≢ [] → A
shown-info Done status text is some = absurd (some (sym (same-info 2 status [] text is)))
shown-info (Rows s) status text is some = rows-one s _ is
shown-info (Refused refusal) status text is some = isnt-ok (refusal_payload refusal) status text (refused-error refusal).first is
shown-info (Loads table) status text is some = absurd (some (sym (same-info 2 status [] text is)))
shown-info ShutsDown status text is some = absurd (some (sym (same-info 2 status [] text is)))

pub own-error : (rules : List Rule) (client : ClientNo) (payloads : List (List ℕ)) (code : ℕ) (state text : List ℕ) → IsOwn rules client payloads
    → payloads ≡ err_payload code state text ∷ [] → is_own_code code ≡ false → ⊥
own-error rules client _ code state text (Answers payloads answers) is none =
    left-out (is_among refusal_codes code) (is_among failure_codes code) none (answer-error rules client payloads code state text answers is)
own-error rules client _ code state text (Shows reply) is none =
    left-out (is_among refusal_codes code) (is_among failure_codes code) none (shown-error reply code state text is)
own-error rules client _ code state text (GivesUp payload fails) is none =
    right-out (is_among refusal_codes code) (is_among failure_codes code) none (coded failure_codes payload code state text (failure-error payload fails) is)

pub last-error : (payloads : List (List ℕ)) (code : ℕ) (state text : List ℕ) → IsLastWord payloads → payloads ≡ err_payload code state text ∷ [] → is_last_code code ≡ false → ⊥
last-error _ code state text (Fails payload fails) is none =
    right-out (is_among (1040 ∷ []) code) (is_among failure_codes code) none (coded failure_codes payload code state text (failure-error payload fails) is)
last-error _ code state text TurnedAway is none =
    left-out (is_among (1040 ∷ []) code) (is_among failure_codes code) none (coded (1040 ∷ []) too_many_connections code state text no-room is)

-- Texts.

failure-lost : (payload : List ℕ) → IsFailure payload → code_in payload ≡ 9101 → payload ≡ connection_lost
unfolding no_connection connection_refused replay_refused server_offline bad_server_bytes buffers_full server_shutdown out_of_memory
failure-lost _ LinkLost at = refl
failure-lost _ (NoConnection since now since_fits now_fits) at = absurd (omega (arith, at))
failure-lost _ NoLink at = absurd (omega (arith, at))
failure-lost _ (StepRefused code fits) at = absurd (omega (arith, at))
failure-lost _ Offline at = absurd (omega (arith, at))
failure-lost _ (BadBytes place fits) at = absurd (omega (arith, at))
failure-lost _ (BuffersFull kept announced kept_fits announced_fits) at = absurd (omega (arith, at))
failure-lost _ ShuttingDown at = absurd (omega (arith, at))
failure-lost _ NoMemory at = absurd (omega (arith, at))

pub own-lost : (rules : List Rule) (client : ClientNo) (payloads : List (List ℕ)) (state text : List ℕ) → IsOwn rules client payloads
    → payloads ≡ err_payload 9101 state text ∷ [] → err_payload 9101 state text ≡ connection_lost
own-lost rules client _ state text (Answers payloads answers) is = never (sym (answer-error rules client payloads 9101 state text answers is))
own-lost rules client _ state text (Shows reply) is = never (sym (shown-error reply 9101 state text is))
own-lost rules client _ state text (GivesUp payload fails) is =
    let same : payload ≡ err_payload 9101 state text = one-payload _ _ is in
    let at : code_in payload ≡ 9101 = ap code_in same in
    sym same ∙ failure-lost payload fails at

same-text : (a b : List ℕ) → err_payload 1148 (codes "42000") a ≡ err_payload 1148 (codes "42000") b → a ≡ b
same-text a b is = cc

refusal-text : (rules : List Rule) (payload text : List ℕ) → IsRefusal rules payload → payload ≡ err_payload 1148 (codes "42000") text → is_error_text rules text ≡ true
unfolding refused_by_rule unknown_statement no_server_in diagnostics_gone names_connection sets_server too_many_statements malformed_command unknown_command
refusal-text rules _ text (ByRule own has) is = subst (λ (t : List ℕ). is_error_text rules t ≡ true) (same-text own text is) has
refusal-text rules _ text (UnknownStatement number fits) is = (let at : 1243 ≡ 1148 = ap code_in is in absurd (omega (arith, at)))
refusal-text rules _ text (NoServerIn hostgroup fits) is = (let at : 9100 ≡ 1148 = ap code_in is in absurd (omega (arith, at)))
refusal-text rules _ text DiagnosticsGone is = (let at : 9106 ≡ 1148 = ap code_in is in absurd (omega (arith, at)))
refusal-text rules _ text NamesConnection is = (let at : 9107 ≡ 1148 = ap code_in is in absurd (omega (arith, at)))
refusal-text rules _ text SetsServer is = (let at : 9108 ≡ 1148 = ap code_in is in absurd (omega (arith, at)))
refusal-text rules _ text TooManyStatements is = (let at : 9113 ≡ 1148 = ap code_in is in absurd (omega (arith, at)))
refusal-text rules _ text MalformedCommand is = (let at : 9109 ≡ 1148 = ap code_in is in absurd (omega (arith, at)))
refusal-text rules _ text UnknownCommand is = (let at : 1047 ≡ 1148 = ap code_in is in absurd (omega (arith, at)))

answer-text : (rules : List Rule) (client : ClientNo) (payloads : List (List ℕ)) (text : List ℕ) → IsAnswer rules client payloads
    → payloads ≡ err_payload 1148 (codes "42000") text ∷ [] → is_error_text rules text ≡ true
answer-text rules client _ text Nothing is = none-one _ _ is
answer-text rules client _ text (Okay status small) is = isnt-ok _ status [] refl (sym is)
answer-text rules client _ text (OkByRule status other small has) is = isnt-ok _ status other refl (sym is)
answer-text rules client _ text (Number status small) is = five-one status client.0 _ is
answer-text rules client _ text (Refuses payload refuses) is = refusal-text rules payload text refuses (one-payload _ _ is)

pub own-text : (rules : List Rule) (client : ClientNo) (payloads : List (List ℕ)) (text : List ℕ) → IsOwn rules client payloads
    → payloads ≡ err_payload 1148 (codes "42000") text ∷ [] → is_error_text rules text ≡ true
own-text rules client _ text (Answers payloads answers) is = answer-text rules client payloads text answers is
own-text rules client _ text (Shows reply) is = shown-text reply text is
own-text rules client _ text (GivesUp payload fails) is = never (sym (coded failure_codes payload 1148 (codes "42000") text (failure-error payload fails) is))

answer-info : (rules : List Rule) (client : ClientNo) (payloads : List (List ℕ)) (status : ℕ) (text : List ℕ) → IsAnswer rules client payloads
    → payloads ≡ ok_payload status text ∷ [] → text ≢ [] → is_ok_text rules text ≡ true
answer-info rules client _ status text Nothing is some = none-one _ _ is
answer-info rules client _ status text (Okay own small) is some = absurd (some (sym (same-info own status [] text is)))
answer-info rules client _ status text (OkByRule own other small has) is some =
    subst (λ (t : List ℕ). is_ok_text rules t ≡ true) (same-info own status other text is) has
answer-info rules client _ status text (Number own small) is some = five-one own client.0 _ is
answer-info rules client _ status text (Refuses payload refuses) is some = isnt-ok payload status text (refusal-error rules payload refuses).first is

pub own-info : (rules : List Rule) (client : ClientNo) (payloads : List (List ℕ)) (status : ℕ) (text : List ℕ) → IsOwn rules client payloads
    → payloads ≡ ok_payload status text ∷ [] → text ≢ [] → is_ok_text rules text ≡ true
own-info rules client _ status text (Answers payloads answers) is some = answer-info rules client payloads status text answers is some
own-info rules client _ status text (Shows reply) is some = shown-info reply status text is some
own-info rules client _ status text (GivesUp payload fails) is some = isnt-ok payload status text (failure-error payload fails).first is

-- More than one packet.

pub answer-rows : (rules : List Rule) (client : ClientNo) (payloads : List (List ℕ)) (first second : List ℕ) (more : List (List ℕ)) → IsAnswer rules client payloads
    → payloads ≡ first ∷ second ∷ more → (status : ℕ) × (payloads ≡ number_payloads status client.0)
answer-rows rules client _ first second more Nothing is = none-one _ _ is
answer-rows rules client _ first second more (Okay status small) is = one-two _ _ _ _ is
answer-rows rules client _ first second more (OkByRule status text small has) is = one-two _ _ _ _ is
answer-rows rules client _ first second more (Number status small) is = (status, refl)
answer-rows rules client _ first second more (Refuses payload refuses) is = one-two _ _ _ _ is

pub last-one : (payloads : List (List ℕ)) (first second : List ℕ) (more : List (List ℕ)) → IsLastWord payloads → payloads ≡ first ∷ second ∷ more → ⊥
last-one _ first second more (Fails payload fails) is = one-two _ _ _ _ is
last-one _ first second more TurnedAway is = one-two _ _ _ _ is

-- Numbers.

short-text : (text : List ℕ) → nat_lt (length text) 251 ≡ true → text_bytes text ++ [] ≡ length text ∷ text
short-text text short = append-nil (text_bytes text) ∙ rw short refl

same-tail : (a b : ℕ) (text other : List ℕ) → a ∷ text ≡ b ∷ other → text ≡ other
same-tail a b text other is = cc

is-short : (n : ℕ) → n < 2 ^ 64 → nat_lt (length (decimal n)) 251 ≡ true
is-short n fits =
    let few : length (decimal n) ≤ 20 = length-decimal-le 20 n (omega arith) (omega arith) fits in
    grind arith

pub same-number : (a b : ℕ) → a < 2 ^ 64 → b < 2 ^ 64 → (status other : ℕ) → number_payloads status a ≡ number_payloads other b → a ≡ b
same-number a b a_fits b_fits status other is =
    let row : text_bytes (decimal a) ++ [] ≡ text_bytes (decimal b) ++ [] = ap (λ (ps : List (List ℕ)). slice_index_or ps 3 []) is in
    let cell : length (decimal a) ∷ decimal a ≡ length (decimal b) ∷ decimal b =
    sym (short-text (decimal a) (is-short a a_fits)) ∙ row ∙ short-text (decimal b) (is-short b b_fits) in
    decimal_injective a b a_fits b_fits (same-tail _ _ _ _ cell)

-- Of everybody.

answer-any : (rules : List Rule) (client other : ClientNo) (payloads : List (List ℕ)) → IsAnswer rules client payloads
    → ((status : ℕ) → payloads ≢ number_payloads status client.0) → IsAnswer rules other payloads
answer-any rules client other _ Nothing none = Nothing
answer-any rules client other _ (Okay status small) none = Okay status small
answer-any rules client other _ (OkByRule status text small has) none = OkByRule status text small has
answer-any rules client other _ (Number status small) none = absurd (none status refl)
answer-any rules client other _ (Refuses payload refuses) none = Refuses payload refuses

pub own-any : (rules : List Rule) (client other : ClientNo) (payloads : List (List ℕ)) → IsOwn rules client payloads
    → ((status : ℕ) → payloads ≢ number_payloads status client.0) → IsOwn rules other payloads
own-any rules client other _ (Answers payloads answers) none = Answers payloads (answer-any rules client other payloads answers none)
own-any rules client other _ (Shows reply) none = Shows reply
own-any rules client other _ (GivesUp payload fails) none = GivesUp payload fails
