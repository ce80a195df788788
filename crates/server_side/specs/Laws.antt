-- How a login to a server goes on.
use Rattle.std.specs.Prelude.{◌≡◌, ℕ, ◌<◌, List, [], ◌++◌, length, refl}
use Rattle.std.proofs.Common.{◌∙◌, ap, subst, sym, append_assoc}
use Rattle.packet_frame.specs.FramerState.{FramerState, look}
use Rattle.packet_frame.specs.SpellingLaws.{spelling-some}
use Rattle.handshake.specs.declared.greeting.Greeting.{Greeting}
use Rattle.handshake.specs.Response.{response_bytes}
use Rattle.native_auth.specs.Native.{answer_of, bytes_of}
use Rattle.server_side.specs.Account.{Account}
use Rattle.server_side.specs.declared.fault.BackendFault.{BackendFault}
use Rattle.server_side.specs.declared.stage.Stage.{Stage}
use Rattle.server_side.specs.declared.stage.Stage.TheVariants as stages
use Rattle.server_side.specs.Login.{own_response, response_said, answer_said, Opening, LogsIn, Fails, said_of, welcome_in, end_in, opening}
use Rattle.server_side.specs.Backend.{BackendState, new_backend}
use Rattle.server_side.specs.Hearing.{fed, entered_of, enters, hears, got_of, greeting_found, welcome_found, end_found}
use Rattle.server_side.specs.Reading.{IsReading, IsOpening, IsLoggingIn, EntersBy, TellsOf}
use Rattle.server_side.specs.Growth.{Grows, said-grows, opening-grows}
use Rattle.server_side.specs.Stages.{IsIdle, placed, alone-tells, end-tells, welcome-tells, greeting-tells}

-- nothing was heard yet
pub opening-new : (account : Account) → IsLoggingIn (new_backend account) [] []
opening-new account = record { framer = record { limited = refl; unfound = refl; faultless = refl }; is = (refl, refl); unreplied = refl; idle = refl }

-- a piece comes
pub opening-entered : (backend : BackendState) (piece read written : List ℕ) → IsLoggingIn backend read (written ++ backend.own)
    → EntersBy (entered_of piece backend) backend written (read ++ piece)
opening-entered backend piece read written at = by backend.stage refl at.is where
  framer : FramerState
  framer = (fed backend piece).framer

  reading : IsReading framer
  reading = record { limited = at.framer.limited; unfound = at.framer.unfound; faultless = at.framer.faultless }

  idle : IsIdle backend
  idle = record { unreplied = at.unreplied; idle = at.idle }

  more-by : (next : List ℕ → Opening) → ((more : List ℕ) → opening backend.account (read ++ more) ≡ next (backend.framer.kept ++ more))
      → (more : List ℕ) → opening backend.account (read ++ piece ++ more) ≡ next (framer.kept ++ more)
  more-by next is more = ap (opening backend.account) (append_assoc read piece more) ∙ is (piece ++ more) ∙ ap next (sym (append_assoc backend.framer.kept piece more))

  by : (stage : Stage) → backend.stage ≡ stage → IsOpening stage backend read (written ++ backend.own) → EntersBy (enters stage piece backend) backend written (read ++ piece)
  by stages.Greeting same is =
      subst (λ (s : Stage). EntersBy (greeting_found (placed backend framer backend.own s) (look 0 framer)) backend written (read ++ piece)) (sym same)
      (greeting-tells backend framer backend.own written (read ++ piece) idle reading (ap (λ kept. kept ++ piece) is.0) is.1)
  by stages.Welcome same is =
      subst (λ (s : Stage). EntersBy (welcome_found (placed backend framer backend.own s) (look 2 framer)) backend written (read ++ piece)) (sym same)
      (welcome-tells backend framer backend.own written (read ++ piece) idle reading (more-by (welcome_in backend.account (written ++ backend.own)) is))
  by stages.Switched same is =
      subst (λ (s : Stage). EntersBy (end_found (placed backend framer backend.own s) (look 4 framer)) backend written (read ++ piece)) (sym same)
      (end-tells backend framer backend.own written (read ++ piece) idle reading (more-by (end_in (written ++ backend.own)) is))
  by stages.In same is = absurd is
  by stages.Lost same is = absurd is

-- and where nothing may stand behind the login
pub opening-got : (backend : BackendState) (piece read written : List ℕ) → IsLoggingIn backend read (written ++ backend.own) → TellsOf (got_of piece backend) backend written (read ++ piece)
opening-got backend piece read written at = by backend.stage at.is (opening-entered backend piece read written at) where
  by : (stage : Stage) → IsOpening stage backend read (written ++ backend.own) → EntersBy (enters stage piece backend) backend written (read ++ piece)
      → TellsOf (hears stage piece backend) backend written (read ++ piece)
  by stages.Greeting is tells = alone-tells (enters stages.Greeting piece backend) backend written (read ++ piece) tells
  by stages.Welcome is tells = alone-tells (enters stages.Welcome piece backend) backend written (read ++ piece) tells
  by stages.Switched is tells = alone-tells (enters stages.Switched piece backend) backend written (read ++ piece) tells
  by stages.In is tells = absurd is
  by stages.Lost is tells = absurd is

-- a login that is there stays so, whatever comes behind it
pub opening-logged_in : (account : Account) (read more said rest : List ℕ) → opening account read ≡ LogsIn said rest → opening account (read ++ more) ≡ LogsIn said (rest ++ more)
opening-logged_in account read more said rest is = subst (λ (o : Opening). Grows o more (opening account (read ++ more))) is (opening-grows account read more)

-- and so does one that failed
pub opening-fails : (account : Account) (read more said : List ℕ) (fault : BackendFault) → opening account read ≡ Fails said fault → opening account (read ++ more) ≡ Fails said fault
opening-fails account read more said fault is = subst (λ (o : Opening). Grows o more (opening account (read ++ more))) is (opening-grows account read more)

-- what was said stays said
pub opening-said : (account : Account) (read more : List ℕ) → (rest : List ℕ) × (said_of (opening account read) ++ rest ≡ said_of (opening account (read ++ more)))
opening-said account read more = said-grows (opening account read) more (opening account (read ++ more)) (opening-grows account read more)

-- what the router says isn't empty
pub response_said-some : (account : Account) (greeting : Greeting) → 0 < length (response_said account greeting)
unfolding response_said
response_said-some account greeting = spelling-some 1 (response_bytes (own_response account greeting))

pub answer_said-some : (account : Account) (salt : List ℕ) → 0 < length (answer_said account salt)
unfolding answer_said
answer_said-some account salt = spelling-some 3 (bytes_of (answer_of account.password salt))
