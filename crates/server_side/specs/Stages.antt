-- What each stage of a login tells.
use Rattle.std.specs.Prelude.{◌≡◌, ℕ, ◌<◌, Bool, true, false, nat_eq, bytes_eq, List, [], ◌++◌, length, Option, Some, None, Result, Ok, Err, if◌then◌else◌, refl}
use Rattle.std.proofs.Common.{◌∙◌, ap, subst, sym, arith, append_assoc}
use Rattle.std.proofs.lemmas.List.{append-nil, nil_from_length}
use Rattle.packet_frame.specs.Packets.{Framed, Found, first_message}
use Rattle.packet_frame.specs.Packets.Found.{Nothing, Whole, Faulty}
use Rattle.packet_frame.specs.PacketLaws.{nat_eq-true, nat_eq-false}
use Rattle.packet_frame.specs.FramerState.{FramerState, look, look_by}
use Rattle.packet_frame.specs.Laws.{first_message-whole-more}
use Rattle.packet_frame.specs.MessageLaws.{first_message-goes}
use Rattle.reply_text.specs.Replies.{is_lone}
use Rattle.handshake.specs.declared.fault.HandFault.{HandFault}
use Rattle.handshake.specs.declared.greeting.Greeting.{Greeting}
use Rattle.handshake.specs.declared.switch.Switch.{Switch}
use Rattle.handshake.specs.Greeting.{greeting_of}
use Rattle.handshake.specs.Switch.{native_password, switch_of}
use Rattle.server_side.specs.Account.{Account}
use Rattle.server_side.specs.declared.fault.BackendFault.{BackendFault}
use Rattle.server_side.specs.declared.fault.BackendFault.TheVariants.{BadBytes, Plugin, Denied}
use Rattle.server_side.specs.declared.hear.Heard.TheVariants.{Quiet, LoggedIn, Part, Whole as WholeReply}
use Rattle.server_side.specs.declared.stage.Stage.{Stage}
use Rattle.server_side.specs.declared.stage.Stage.TheVariants as stages
use Rattle.server_side.specs.Login.{most_payload, response_said, answer_said, lacks_found_rows, denied, asks_switch, Opening, Goes, LogsIn, Fails, bad, by_end, end_by, end_in, by_switch, welcome_by, welcome_in, by_greeting, greeting_or_not, greeting_by, opening}
use Rattle.server_side.specs.Backend.{BackendState}
use Rattle.server_side.specs.Hearing.{Hears, Fails as GotFault, bad as bad_got, Got, past_message, nothing, accepted_by, alone, end_told, end_read, end_found, switch_told, welcome_found, end_found, greeting_told, greeting_or_not as greeting_read_or_not, greeting_found}
use Rattle.server_side.specs.Reading.{IsReading, IsOpening, FailsBy, EntersBy, HasEntered, HasFailed, TellsOf}

-- a link without a command and a reply, as it is before its login
pub record IsIdle (backend : BackendState) : Type 0 where
  pub unreplied : backend.reply ≡ []
  pub idle : backend.command ≡ None

-- the link at another place of its login
abbrev pub placed : BackendState → FramerState → (own : List ℕ) → Stage → BackendState
placed old framer own stage = record old { framer = framer; own = own; stage = stage }

-- what is found in what a framer keeps
looks : (first : ℕ) (framer : FramerState) → IsReading framer → first_message most_payload first framer.kept ≡ look first framer
looks first framer reading =
    sym (ap (λ fault. look_by fault (first_message framer.limit first framer.kept)) reading.faultless ∙ ap (λ limit. first_message limit first framer.kept) reading.limited)

past-reading : (message : Framed) (framer : FramerState) → IsReading framer → IsReading (past_message message framer)
past-reading message framer reading = record { limited = reading.limited; unfound = refl; faultless = reading.faultless }

-- a whole message stays as more bytes come
whole-more : (first : ℕ) (framer : FramerState) (message : Framed) (rest more : List ℕ) → first_message most_payload first framer.kept ≡ Whole message rest → first_message most_payload first (framer.kept ++ more) ≡ Whole message ((past_message message framer).kept ++ more)
whole-more first framer message rest more is =
    first_message-whole-more most_payload first framer.kept more message rest is
    ∙ ap (λ r. Whole message (r ++ more)) (first_message-goes most_payload first framer.kept message rest is)

-- how the login is, by how it is with any more bytes
now-by : (account : Account) (read kept : List ℕ) (by : List ℕ → Opening) → ((more : List ℕ) → opening account (read ++ more) ≡ by (kept ++ more)) → opening account read ≡ by kept
now-by account read kept by is = ap (opening account) (sym (append-nil read)) ∙ is [] ∙ ap by (append-nil kept)

fails : (now : Opening) (said : List ℕ) (fault : BackendFault) → now ≡ Fails said fault → FailsBy now fault
fails now said fault is = subst (λ (o : Opening). FailsBy o fault) (sym is) refl

-- nothing is whole
quiet-tells : (old : BackendState) (framer : FramerState) (own : List ℕ) (stage : Stage) (written read : List ℕ) → IsIdle old → IsReading framer
    → IsOpening stage (placed old framer own stage) read (written ++ own) → opening old.account read ≡ Goes (written ++ own)
    → EntersBy (nothing Quiet (placed old framer own stage)) old written read
quiet-tells old framer own stage written read idle reading is goes =
    subst (λ (f : FramerState). EntersBy (Hears Quiet (placed old f own stage)) old written read) (ap (λ (f : Option Framed). record framer { found = f }) reading.unfound)
    (record { framer = reading; is = is; unreplied = idle.unreplied; idle = idle.idle }, refl, goes)

-- an OK ends the login, whatever stands behind it
accepted-tells : (old : BackendState) (framer : FramerState) (own : List ℕ) (stage : Stage) (written read : List ℕ) (accepted : Bool) → IsIdle old → IsReading framer
    → ((more : List ℕ) → opening old.account (read ++ more) ≡ (if accepted then LogsIn (written ++ own) (framer.kept ++ more) else bad (written ++ own)))
    → EntersBy (accepted_by accepted (placed old framer own stage)) old written read
accepted-tells old framer own stage written read false idle reading is = fails _ (written ++ own) (BadBytes 0) (now-by old.account read framer.kept (λ rest. bad (written ++ own)) is)
accepted-tells old framer own stage written read true idle reading is =
    (record { stage = refl; framer = reading; is = is; unreplied = idle.unreplied; idle = idle.idle }, refl)

end_read-tells : (old : BackendState) (framer : FramerState) (own : List ℕ) (stage : Stage) (written read : List ℕ) (message : Framed) → IsIdle old → IsReading framer
    → ((more : List ℕ) → opening old.account (read ++ more) ≡ by_end (written ++ own) (denied message.payload) message (framer.kept ++ more))
    → EntersBy (end_read message (placed old framer own stage)) old written read
end_read-tells old framer own stage written read message idle reading = by (denied message.payload) where
  by : (code : Option ℕ) → ((more : List ℕ) → opening old.account (read ++ more) ≡ by_end (written ++ own) code message (framer.kept ++ more)) → EntersBy (end_told code message (placed old framer own stage)) old written read
  by (Some code) is = fails _ (written ++ own) (Denied code) (now-by old.account read framer.kept (λ rest. Fails (written ++ own) (Denied code)) is)
  by None is = accepted-tells old framer own stage written read (is_lone message.payload) idle reading is

pub end-tells : (old : BackendState) (framer : FramerState) (own written read : List ℕ) → IsIdle old → IsReading framer
    → ((more : List ℕ) → opening old.account (read ++ more) ≡ end_in (written ++ own) (framer.kept ++ more))
    → EntersBy (end_found (placed old framer own stages.Switched) (look 4 framer)) old written read
end-tells old framer own written read idle reading is = by (look 4 framer) (looks 4 framer reading) where
  now : opening old.account read ≡ end_in (written ++ own) framer.kept
  now = now-by old.account read framer.kept (end_in (written ++ own)) is

  by : (found : Found) → first_message most_payload 4 framer.kept ≡ found → EntersBy (end_found (placed old framer own stages.Switched) found) old written read
  by Nothing here = quiet-tells old framer own stages.Switched written read idle reading is (now ∙ ap (end_by (written ++ own)) here)
  by (Whole message rest) here =
      end_read-tells old (past_message message framer) own stages.Switched written read message idle (past-reading message framer reading)
      (λ more. is more ∙ ap (end_by (written ++ own)) (whole-more 4 framer message rest more here))
  by (Faulty fault) here = fails _ (written ++ own) (BadBytes 0) (now ∙ ap (end_by (written ++ own)) here)

switch-tells : (old : BackendState) (framer : FramerState) (own : List ℕ) (stage : Stage) (written read : List ℕ) (asked : Result Switch HandFault) → IsIdle old → IsReading framer
    → ((more : List ℕ) → opening old.account (read ++ more) ≡ by_switch old.account (written ++ own) asked (framer.kept ++ more))
    → EntersBy (switch_told asked (placed old framer own stage)) old written read
switch-tells old framer own stage written read (Err fault) idle reading is = fails _ (written ++ own) (BadBytes 0) (now-by old.account read framer.kept (λ rest. bad (written ++ own)) is)
switch-tells old framer own stage written read (Ok switch) idle reading is = by (bytes_eq switch.plugin native_password) is where
  answer : List ℕ
  answer = answer_said old.account switch.salt

  by : (native : Bool) → ((more : List ℕ) → opening old.account (read ++ more) ≡ (if native then end_in (written ++ own ++ answer) (framer.kept ++ more) else Fails (written ++ own) (Plugin switch.plugin)))
      → EntersBy (if native then end_found (placed old framer (own ++ answer) stages.Switched) (look 4 framer) else GotFault (Plugin switch.plugin)) old written read
  by true is = end-tells old framer (own ++ answer) written read idle reading (λ more. is more ∙ ap (λ said. end_in said (framer.kept ++ more)) (append_assoc written own answer))
  by false is = fails _ (written ++ own) (Plugin switch.plugin) (now-by old.account read framer.kept (λ rest. Fails (written ++ own) (Plugin switch.plugin)) is)

pub welcome-tells : (old : BackendState) (framer : FramerState) (own written read : List ℕ) → IsIdle old → IsReading framer
    → ((more : List ℕ) → opening old.account (read ++ more) ≡ welcome_in old.account (written ++ own) (framer.kept ++ more))
    → EntersBy (welcome_found (placed old framer own stages.Welcome) (look 2 framer)) old written read
welcome-tells old framer own written read idle reading is = by (look 2 framer) (looks 2 framer reading) where
  now : opening old.account read ≡ welcome_in old.account (written ++ own) framer.kept
  now = now-by old.account read framer.kept (welcome_in old.account (written ++ own)) is

  asked : (message : Framed) (past : FramerState) (asks : Bool) → IsReading past
      → ((more : List ℕ) → opening old.account (read ++ more) ≡ (if asks then by_switch old.account (written ++ own) (switch_of message.payload) (past.kept ++ more) else by_end (written ++ own) (denied message.payload) message (past.kept ++ more)))
      → EntersBy (if asks then switch_told (switch_of message.payload) (placed old past own stages.Welcome) else end_read message (placed old past own stages.Welcome)) old written read
  asked message past true reads goes = switch-tells old past own stages.Welcome written read (switch_of message.payload) idle reads goes
  asked message past false reads goes = end_read-tells old past own stages.Welcome written read message idle reads goes

  by : (found : Found) → first_message most_payload 2 framer.kept ≡ found → EntersBy (welcome_found (placed old framer own stages.Welcome) found) old written read
  by Nothing here = quiet-tells old framer own stages.Welcome written read idle reading is (now ∙ ap (welcome_by old.account (written ++ own)) here)
  by (Whole message rest) here =
      asked message (past_message message framer) (asks_switch message.payload) (past-reading message framer reading)
      (λ more. is more ∙ ap (welcome_by old.account (written ++ own)) (whole-more 2 framer message rest more here))
  by (Faulty fault) here = fails _ (written ++ own) (BadBytes 0) (now ∙ ap (welcome_by old.account (written ++ own)) here)

-- nothing was said before the greeting
pub greeting-tells : (old : BackendState) (framer : FramerState) (own written read : List ℕ) → IsIdle old → IsReading framer → framer.kept ≡ read → written ++ own ≡ []
    → EntersBy (greeting_found (placed old framer own stages.Greeting) (look 0 framer)) old written read
unfolding opening
greeting-tells old framer own written read idle reading kept unsaid = by (look 0 framer) (looks 0 framer reading) where
  is : (more : List ℕ) → opening old.account (read ++ more) ≡ greeting_by old.account (first_message most_payload 0 (framer.kept ++ more))
  is more = ap (λ bytes. opening old.account (bytes ++ more)) (sym kept)

  now : opening old.account read ≡ greeting_by old.account (first_message most_payload 0 framer.kept)
  now = ap (opening old.account) (sym kept)

  greets : (greeting : Greeting) (past : FramerState) (lacks : Bool) → IsReading past
      → ((more : List ℕ) → opening old.account (read ++ more) ≡ (if lacks then bad [] else welcome_in old.account (response_said old.account greeting) (past.kept ++ more)))
      → EntersBy (if lacks then bad_got else welcome_found (placed old past (own ++ response_said old.account greeting) stages.Welcome) (look 2 past)) old written read
  greets greeting past true reads goes = fails _ [] (BadBytes 0) (now-by old.account read past.kept (λ rest. bad []) goes)
  greets greeting past false reads goes =
      let response : List ℕ = response_said old.account greeting in
      let said : response ≡ written ++ (own ++ response) = ap (λ s. s ++ response) (sym unsaid) ∙ append_assoc written own response in
      welcome-tells old past (own ++ response) written read idle reads (λ more. goes more ∙ ap (λ s. welcome_in old.account s (past.kept ++ more)) said)

  told : (greeting : Result Greeting HandFault) (past : FramerState) → IsReading past
      → ((more : List ℕ) → opening old.account (read ++ more) ≡ by_greeting old.account greeting (past.kept ++ more))
      → EntersBy (greeting_told greeting (placed old past own stages.Greeting)) old written read
  told (Err fault) past reads goes = fails _ [] (BadBytes 0) (now-by old.account read past.kept (λ rest. bad []) goes)
  told (Ok greeting) past reads goes = greets greeting past (lacks_found_rows old.account.found_rows greeting.capabilities) reads goes

  refused : (code : Option ℕ) (message : Framed) (past : FramerState) → IsReading past
      → ((more : List ℕ) → opening old.account (read ++ more) ≡ greeting_or_not old.account code message (past.kept ++ more))
      → EntersBy (greeting_read_or_not code message (placed old past own stages.Greeting)) old written read
  refused (Some code) message past reads goes = fails _ [] (Denied code) (now-by old.account read past.kept (λ rest. Fails [] (Denied code)) goes)
  refused None message past reads goes = told (greeting_of message.payload) past reads goes

  by : (found : Found) → first_message most_payload 0 framer.kept ≡ found → EntersBy (greeting_found (placed old framer own stages.Greeting) found) old written read
  by Nothing here = quiet-tells old framer own stages.Greeting written read idle reading (kept, unsaid) (now ∙ ap (greeting_by old.account) here ∙ ap Goes (sym unsaid))
  by (Whole message rest) here =
      refused (denied message.payload) message (past_message message framer) (past-reading message framer reading)
      (λ more. is more ∙ ap (greeting_by old.account) (whole-more 0 framer message rest more here))
  by (Faulty fault) here = fails _ [] (BadBytes 0) (now ∙ ap (greeting_by old.account) here)

-- where nothing may stand behind the login, bytes that do fail it

failed-so : (now : Opening) (fault : BackendFault) → FailsBy now fault → HasFailed now fault
failed-so (Goes said) fault fails = fails
failed-so (LogsIn said rest) fault fails = absurd fails
failed-so (Fails said why) fault fails = fails

logged_in-alone : (left old : BackendState) (written read : List ℕ) → HasEntered left read (written ++ left.own) → left.account ≡ old.account
    → TellsOf (alone (Hears LoggedIn left)) old written read
logged_in-alone left old written read there same = by (nat_eq (length left.framer.kept) 0) refl where
  by : (none : Bool) → nat_eq (length left.framer.kept) 0 ≡ none → TellsOf (if none then Hears LoggedIn left else bad_got) old written read
  by true is =
      let empty : left.framer.kept ≡ [] = nil_from_length left.framer.kept (nat_eq-true (length left.framer.kept) 0 is) in (
        record {
          stage = there.stage;
          framer = there.framer;
          kept = empty;
          is = λ more. there.is more ∙ ap (λ kept. LogsIn (written ++ left.own) (kept ++ more)) empty;
          unreplied = there.unreplied;
          idle = there.idle;
        },
        same,
      )
  by false is =
      let some : 0 < length left.framer.kept = omega (arith, nat_eq-false (length left.framer.kept) 0 is) in
      subst (λ (a : Account). HasFailed (opening a read) (BadBytes 0)) same
      (subst (λ (o : Opening). HasFailed o (BadBytes 0))
      (sym (now-by left.account read left.framer.kept (LogsIn (written ++ left.own)) there.is)) (some, refl))

pub alone-tells : (got : Got) (old : BackendState) (written read : List ℕ) → EntersBy got old written read → TellsOf (alone got) old written read
alone-tells (Hears Quiet left) old written read enters = enters
alone-tells (Hears LoggedIn left) old written read enters = logged_in-alone left old written read enters.0 enters.1
alone-tells (Hears (Part used) left) old written read enters = absurd enters
alone-tells (Hears (WholeReply used) left) old written read enters = absurd enters
alone-tells (GotFault fault) old written read enters = failed-so (opening old.account read) fault enters
