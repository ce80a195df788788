-- What bytes that come later make of a login.
use Rattle.std.specs.Prelude.{◌≡◌, ℕ, Bool, true, false, bytes_eq, List, [], ◌++◌, Option, Some, None, Result, Ok, Err, if◌then◌else◌, refl}
use Rattle.std.proofs.Common.{◌∙◌, ap, subst, sym}
use Rattle.std.proofs.lemmas.List.{append-nil}
use Rattle.packet_frame.specs.Packets.{Framed, Found, first_message}
use Rattle.packet_frame.specs.Packets.Found.{Nothing, Whole, Faulty}
use Rattle.packet_frame.specs.Laws.{first_message-whole-more, first_message-faulty-more}
use Rattle.reply_text.specs.Replies.{is_lone}
use Rattle.handshake.specs.declared.fault.HandFault.{HandFault}
use Rattle.handshake.specs.declared.greeting.Greeting.{Greeting}
use Rattle.handshake.specs.declared.switch.Switch.{Switch}
use Rattle.handshake.specs.Greeting.{greeting_of}
use Rattle.handshake.specs.Switch.{native_password, switch_of}
use Rattle.server_side.specs.Account.{Account}
use Rattle.server_side.specs.declared.fault.BackendFault.TheVariants.{Plugin}
use Rattle.server_side.specs.Login.{most_payload, response_said, answer_said, lacks_found_rows, denied, asks_switch, Opening, Goes, LogsIn, Fails, said_of, bad, by_end, end_by, end_in, by_switch, welcome_by, welcome_in, by_greeting, greeting_or_not, greeting_by, opening}

-- what is said begins so
abbrev pub Begins : (said : List ℕ) → Opening → Type 0
Begins said opening = (rest : List ℕ) × (said ++ rest ≡ said_of opening)

-- the login with more bytes: what was said stays, and so does an end
abbrev pub Grows : (old : Opening) → (more : List ℕ) → (new : Opening) → Type 0
Grows (Goes said) more new = Begins said new
Grows (LogsIn said rest) more new = new ≡ LogsIn said (rest ++ more)
Grows (Fails said fault) more new = new ≡ Fails said fault

pub said-grows : (old : Opening) (more : List ℕ) (new : Opening) → Grows old more new → Begins (said_of old) new
said-grows (Goes said) more new grows = grows
said-grows (LogsIn said rest) more new grows = ([], append-nil said ∙ ap said_of (sym grows))
said-grows (Fails said fault) more new grows = ([], append-nil said ∙ ap said_of (sym grows))

-- nothing more is said behind a login's end
ended : (said : List ℕ) (now : Opening) → said_of now ≡ said → Begins said now
ended said now is = ([], append-nil said ∙ sym is)

by_end-said : (said : List ℕ) (code : Option ℕ) (message : Framed) (rest : List ℕ) → said_of (by_end said code message rest) ≡ said
by_end-said said (Some code) message rest = refl
by_end-said said None message rest = by (is_lone message.payload) where
  by : (lone : Bool) → said_of (if lone then LogsIn said rest else bad said) ≡ said
  by true = refl
  by false = refl

end-said : (said : List ℕ) (found : Found) → said_of (end_by said found) ≡ said
end-said said Nothing = refl
end-said said (Whole message rest) = by_end-said said (denied message.payload) message rest
end-said said (Faulty fault) = refl

by_switch-begins : (account : Account) (said : List ℕ) (read : Result Switch HandFault) (rest : List ℕ) → Begins said (by_switch account said read rest)
by_switch-begins account said (Err fault) rest = ended said (bad said) refl
by_switch-begins account said (Ok switch) rest = by (bytes_eq switch.plugin native_password) where
  by : (native : Bool) → Begins said (if native then end_in (said ++ answer_said account switch.salt) rest else Fails said (Plugin switch.plugin))
  by true = (answer_said account switch.salt, sym (end-said (said ++ answer_said account switch.salt) (first_message most_payload 4 rest)))
  by false = ([], append-nil said)

welcome-begins : (account : Account) (said : List ℕ) (found : Found) → Begins said (welcome_by account said found)
welcome-begins account said Nothing = ([], append-nil said)
welcome-begins account said (Whole message rest) = by (asks_switch message.payload) where
  by : (asks : Bool) → Begins said (if asks then by_switch account said (switch_of message.payload) rest else by_end said (denied message.payload) message rest)
  by true = by_switch-begins account said (switch_of message.payload) rest
  by false = ended said (by_end said (denied message.payload) message rest) (by_end-said said (denied message.payload) message rest)
welcome-begins account said (Faulty fault) = ([], append-nil said)

-- by stages, from the last one on
by_end-grows : (said : List ℕ) (code : Option ℕ) (message : Framed) (rest more : List ℕ) → Grows (by_end said code message rest) more (by_end said code message (rest ++ more))
by_end-grows said (Some code) message rest more = refl
by_end-grows said None message rest more = by (is_lone message.payload) where
  by : (lone : Bool) → Grows (if lone then LogsIn said rest else bad said) more (if lone then LogsIn said (rest ++ more) else bad said)
  by true = refl
  by false = refl

end-grows : (said bytes more : List ℕ) → Grows (end_in said bytes) more (end_in said (bytes ++ more))
end-grows said bytes more = by (first_message most_payload 4 bytes) refl where
  by : (found : Found) → first_message most_payload 4 bytes ≡ found → Grows (end_by said found) more (end_in said (bytes ++ more))
  by Nothing is = ended said (end_in said (bytes ++ more)) (end-said said (first_message most_payload 4 (bytes ++ more)))
  by (Whole message rest) is =
      subst (λ (f : Found). Grows (by_end said (denied message.payload) message rest) more (end_by said f)) (sym (first_message-whole-more most_payload 4 bytes more message rest is))
      (by_end-grows said (denied message.payload) message rest more)
  by (Faulty fault) is = ap (end_by said) (first_message-faulty-more most_payload 4 bytes more fault is)

by_switch-grows : (account : Account) (said : List ℕ) (read : Result Switch HandFault) (rest more : List ℕ) → Grows (by_switch account said read rest) more (by_switch account said read (rest ++ more))
by_switch-grows account said (Err fault) rest more = refl
by_switch-grows account said (Ok switch) rest more = by (bytes_eq switch.plugin native_password) where
  by : (native : Bool) → Grows (if native then end_in (said ++ answer_said account switch.salt) rest else Fails said (Plugin switch.plugin)) more (if native then end_in (said ++ answer_said account switch.salt) (rest ++ more) else Fails said (Plugin switch.plugin))
  by true = end-grows (said ++ answer_said account switch.salt) rest more
  by false = refl

welcome-grows : (account : Account) (said bytes more : List ℕ) → Grows (welcome_in account said bytes) more (welcome_in account said (bytes ++ more))
welcome-grows account said bytes more = by (first_message most_payload 2 bytes) refl where
  asked : (message : Framed) (rest : List ℕ) (asks : Bool)
      → Grows (if asks then by_switch account said (switch_of message.payload) rest else by_end said (denied message.payload) message rest) more
      (if asks then by_switch account said (switch_of message.payload) (rest ++ more) else by_end said (denied message.payload) message (rest ++ more))
  asked message rest true = by_switch-grows account said (switch_of message.payload) rest more
  asked message rest false = by_end-grows said (denied message.payload) message rest more

  by : (found : Found) → first_message most_payload 2 bytes ≡ found → Grows (welcome_by account said found) more (welcome_in account said (bytes ++ more))
  by Nothing is = welcome-begins account said (first_message most_payload 2 (bytes ++ more))
  by (Whole message rest) is =
      subst (λ (f : Found). Grows (welcome_by account said (Whole message rest)) more (welcome_by account said f)) (sym (first_message-whole-more most_payload 2 bytes more message rest is))
      (asked message rest (asks_switch message.payload))
  by (Faulty fault) is = ap (welcome_by account said) (first_message-faulty-more most_payload 2 bytes more fault is)

by_greeting-grows : (account : Account) (read : Result Greeting HandFault) (rest more : List ℕ) → Grows (by_greeting account read rest) more (by_greeting account read (rest ++ more))
by_greeting-grows account (Err fault) rest more = refl
by_greeting-grows account (Ok greeting) rest more = by (lacks_found_rows account.found_rows greeting.capabilities) where
  by : (lacks : Bool) → Grows (if lacks then bad [] else welcome_in account (response_said account greeting) rest) more (if lacks then bad [] else welcome_in account (response_said account greeting) (rest ++ more))
  by true = refl
  by false = welcome-grows account (response_said account greeting) rest more

greeting_or_not-grows : (account : Account) (code : Option ℕ) (message : Framed) (rest more : List ℕ) → Grows (greeting_or_not account code message rest) more (greeting_or_not account code message (rest ++ more))
greeting_or_not-grows account (Some code) message rest more = refl
greeting_or_not-grows account None message rest more = by_greeting-grows account (greeting_of message.payload) rest more

pub opening-grows : (account : Account) (read more : List ℕ) → Grows (opening account read) more (opening account (read ++ more))
unfolding opening
opening-grows account read more = by (first_message most_payload 0 read) refl where
  by : (found : Found) → first_message most_payload 0 read ≡ found → Grows (greeting_by account found) more (greeting_by account (first_message most_payload 0 (read ++ more)))
  by Nothing is = (said_of (greeting_by account (first_message most_payload 0 (read ++ more))), refl)
  by (Whole message rest) is =
      subst (λ (f : Found). Grows (greeting_by account (Whole message rest)) more (greeting_by account f)) (sym (first_message-whole-more most_payload 0 read more message rest is))
      (greeting_or_not-grows account (denied message.payload) message rest more)
  by (Faulty fault) is = ap (greeting_by account) (first_message-faulty-more most_payload 0 read more fault is)
