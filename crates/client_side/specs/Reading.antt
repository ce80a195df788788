-- Where a client stands after the bytes that were read of it, for any cut of these.
use Rattle.std.specs.Prelude.{◌≡◌, ℕ, Bool, true, false, List, [], ◌++◌, None, if◌then◌else◌}
use Rattle.packet_frame.specs.FramerState.{FramerState}
use Rattle.handshake.specs.declared.response.Response.{Response}
use Rattle.client_side.specs.declared.stage.Stage.{Stage}
use Rattle.client_side.specs.declared.stage.Stage.TheVariants as stage
use Rattle.client_side.specs.declared.step.ClientFault.TheVariants.{Hand}
use Rattle.client_side.specs.declared.step.ClientStep.{ClientStep}
use Rattle.client_side.specs.declared.step.ClientStep.TheVariants as step
use Rattle.client_side.specs.Login.{greeting_said, switch_said, Waits, Says, Fails, answer_in, opening}
use Rattle.client_side.specs.Client.{ClientState}

-- what the router says before it answers the login
abbrev pub said : (number : ℕ) → (salt version : List ℕ) → (switched : Bool) → List ℕ
said number salt version switched = greeting_said number salt version ++ (if switched then switch_said salt else [])

abbrev pub said_to : ClientState → (version : List ℕ) → (switched : Bool) → List ℕ
said_to client version switched = said client.number.0 client.salt version switched

-- nothing was found, and no fault
pub record IsReading (framer : FramerState) : Type 0 where
  pub unfound : framer.found ≡ None
  pub faultless : framer.fault ≡ None

-- the login is there, whatever comes behind it
pub record Says_so (limit : ℕ) (switched : Bool) (response : Response) (first : ℕ) (read kept : List ℕ) : Type 0 where
  pub whatever : (more : List ℕ) → opening limit (read ++ more) ≡ Says switched response first (kept ++ more)

-- how far the login is, by what was read and what is kept of it, and what was said
abbrev pub IsLoggingIn : Stage → ClientState → (version read bytes : List ℕ) → Type 0
IsLoggingIn stage.Response client version read bytes = IsReading client.framer × (client.framer.kept ≡ read) × (bytes ≡ said_to client version false)
IsLoggingIn (stage.Answer response) client version read bytes =
    IsReading client.framer × ((more : List ℕ) → opening client.framer.limit (read ++ more) ≡ answer_in client.framer.limit response (client.framer.kept ++ more)) × (bytes ≡ said_to client version true)
IsLoggingIn (stage.Login response first) client version read bytes =
    (switched : Bool) × IsReading client.framer × Says_so client.framer.limit switched response first read client.framer.kept × (bytes ≡ said_to client version switched)
IsLoggingIn (stage.Refused first fault) client version read bytes =
    (switched : Bool) × ((more : List ℕ) → opening client.framer.limit (read ++ more) ≡ Fails switched (Hand fault) first) × (bytes ≡ said_to client version switched)
IsLoggingIn stage.Commands client version read bytes = ⊥

-- the same of a step, and what is left
abbrev pub HasStepped : ClientStep → ClientState → (limit : ℕ) → (version read bytes : List ℕ) → Type 0
HasStepped step.Nothing client limit version read bytes =
    IsLoggingIn client.stage client version read bytes × (switched : Bool) × (opening limit read ≡ Waits switched) × (bytes ≡ said_to client version switched)
HasStepped (step.Login first) client limit version read bytes =
    (response : Response) × (client.stage ≡ stage.Login response first) × IsLoggingIn client.stage client version read bytes
HasStepped (step.Message ordinal first) client limit version read bytes = ⊥
HasStepped (step.Refused first fault) client limit version read bytes =
    (switched : Bool) × ((more : List ℕ) → opening limit (read ++ more) ≡ Fails switched fault first) × (bytes ≡ said_to client version switched)
