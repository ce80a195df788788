-- Where a link to a server stands in its login, after the bytes that were read of it, for any cut of these.
use Rattle.std.specs.Prelude.{◌≡◌, ℕ, ◌<◌, List, [], ◌++◌, length, None}
use Rattle.packet_frame.specs.FramerState.{FramerState}
use Rattle.server_side.specs.declared.fault.BackendFault.{BackendFault}
use Rattle.server_side.specs.declared.fault.BackendFault.TheVariants.{BadBytes}
use Rattle.server_side.specs.declared.hear.Heard.TheVariants.{Quiet, LoggedIn, Part, Whole}
use Rattle.server_side.specs.declared.stage.Stage.{Stage}
use Rattle.server_side.specs.declared.stage.Stage.TheVariants as stage
use Rattle.server_side.specs.Login.{most_payload, Opening, Goes, LogsIn, Fails, end_in, welcome_in, opening}
use Rattle.server_side.specs.Backend.{BackendState}
use Rattle.server_side.specs.Hearing.{Got, Hears, Fails as GotFault}

-- a framer that has found nothing and no fault
pub record IsReading (framer : FramerState) : Type 0 where
  pub limited : framer.limit ≡ most_payload
  pub unfound : framer.found ≡ None
  pub faultless : framer.fault ≡ None

-- how far the login is, by what was read and what is kept of it, and by all that the router said of its own
abbrev pub IsOpening : Stage → BackendState → (read said : List ℕ) → Type 0
IsOpening stage.Greeting backend read said = (backend.framer.kept ≡ read) × (said ≡ [])
IsOpening stage.Welcome backend read said = (more : List ℕ) → opening backend.account (read ++ more) ≡ welcome_in backend.account said (backend.framer.kept ++ more)
IsOpening stage.Switched backend read said = (more : List ℕ) → opening backend.account (read ++ more) ≡ end_in said (backend.framer.kept ++ more)
IsOpening stage.In backend read said = ⊥
IsOpening stage.Lost backend read said = ⊥

-- the login isn't there
pub record IsLoggingIn (backend : BackendState) (read said : List ℕ) : Type 0 where
  pub framer : IsReading backend.framer
  pub is : IsOpening backend.stage backend read said
  pub unreplied : backend.reply ≡ []
  pub idle : backend.command ≡ None

-- it is there, and what is kept stands behind it
pub record HasEntered (backend : BackendState) (read said : List ℕ) : Type 0 where
  pub stage : backend.stage ≡ stage.In
  pub framer : IsReading backend.framer
  pub is : (more : List ℕ) → opening backend.account (read ++ more) ≡ LogsIn said (backend.framer.kept ++ more)
  pub unreplied : backend.reply ≡ []
  pub idle : backend.command ≡ None

-- it is there, and nothing stands behind it
pub record HasLoggedIn (backend : BackendState) (read said : List ℕ) : Type 0 where
  pub stage : backend.stage ≡ stage.In
  pub framer : IsReading backend.framer
  pub kept : backend.framer.kept ≡ []
  pub is : (more : List ℕ) → opening backend.account (read ++ more) ≡ LogsIn said more
  pub unreplied : backend.reply ≡ []
  pub idle : backend.command ≡ None

-- it fails so: at a message of the server's, or by bytes behind its end
abbrev pub HasFailed : Opening → BackendFault → Type 0
HasFailed (Goes said) fault = ⊥
HasFailed (LogsIn said rest) fault = (0 < length rest) × (fault ≡ BadBytes 0)
HasFailed (Fails said why) fault = fault ≡ why

-- what a piece tells of a login, where `written` was written of what the router says, and `read` was read with the piece, whatever stands
-- behind the login

abbrev pub FailsBy : Opening → BackendFault → Type 0
FailsBy (Goes said) fault = ⊥
FailsBy (LogsIn said rest) fault = ⊥
FailsBy (Fails said why) fault = fault ≡ why

abbrev pub EntersBy : Got → BackendState → (written read : List ℕ) → Type 0
EntersBy (Hears Quiet left) old written read =
    IsLoggingIn left read (written ++ left.own) × (left.account ≡ old.account) × (opening old.account read ≡ Goes (written ++ left.own))
EntersBy (Hears LoggedIn left) old written read = HasEntered left read (written ++ left.own) × (left.account ≡ old.account)
EntersBy (Hears (Part used) left) old written read = ⊥
EntersBy (Hears (Whole used) left) old written read = ⊥
EntersBy (GotFault fault) old written read = FailsBy (opening old.account read) fault

-- and where nothing may stand behind it
abbrev pub TellsOf : Got → BackendState → (written read : List ℕ) → Type 0
TellsOf (Hears Quiet left) old written read = IsLoggingIn left read (written ++ left.own) × (left.account ≡ old.account) × (opening old.account read ≡ Goes (written ++ left.own))
TellsOf (Hears LoggedIn left) old written read = HasLoggedIn left read (written ++ left.own) × (left.account ≡ old.account)
TellsOf (Hears (Part used) left) old written read = ⊥
TellsOf (Hears (Whole used) left) old written read = ⊥
TellsOf (GotFault fault) old written read = HasFailed (opening old.account read) fault
