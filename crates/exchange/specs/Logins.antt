-- The router's login on a link to a server.
use Rattle.std.specs.Prelude.{◌≡◌, ℕ, Bool, true, false, not, ◌&&◌, if◌then◌else◌, List, [], ◌∷◌, ◌++◌}
use Rattle.std.specs.List.{flat_map, list_any}
use Rattle.mx_base.specs.declared.names.LinkId.{LinkId}
use Rattle.mx_wire.specs.Log.{Log, link_of, is_link, of_link, got_bytes, written_of}
use Rattle.mx_wire.specs.declared.entry.Entry.{Entry}
use Rattle.mx_wire.specs.declared.entry.Entry.TheVariants.{Got, Ended, ReadFailed, WriteFailed}
use Rattle.server_side.specs.Account.{Account}
use Rattle.server_side.specs.Login.{Opening, Goes, LogsIn, Fails, opening}

abbrev pub is_empty : List ℕ → Bool
is_empty [] = true
is_empty (byte ∷ bytes) = false

pub record IsPrefix (front whole : List ℕ) : Type 0 where
  pub rest : List ℕ
  pub is : front ++ rest ≡ whole

-- a link is lost: a read of it ended or failed, or a write did
abbrev pub is_loss : Entry → Bool
is_loss (Ended link) = true
is_loss (ReadFailed link) = true
is_loss (WriteFailed link) = true
is_loss _ = false

abbrev pub was_lost : LinkId → Log → Bool
was_lost link log = list_any is_loss (of_link link log)

-- it is broken: a read or a write of it failed
abbrev pub is_failure : Entry → Bool
is_failure (ReadFailed link) = true
is_failure (WriteFailed link) = true
is_failure _ = false

abbrev pub was_broken : LinkId → Log → Bool
was_broken link log = list_any is_failure (of_link link log)

-- the log before a link was lost
abbrev pub loses : LinkId → Entry → Bool
loses link e = is_link link (link_of e) && is_loss e

abbrev pub before_loss : LinkId → Log → Log
before_loss link [] = []
before_loss link (e ∷ log) = if loses link e then [] else e ∷ before_loss link log

-- its entries before it was lost, and the bytes that were read then
abbrev pub until_loss : Log → Log
until_loss [] = []
until_loss (e ∷ log) = if is_loss e then [] else e ∷ until_loss log

abbrev pub sound_of : LinkId → Log → Log
sound_of link log = until_loss (of_link link log)

abbrev pub heard_of : LinkId → Log → List ℕ
heard_of link log = flat_map got_bytes (sound_of link log)

-- how far the login of this user is there
abbrev pub login_on : Account → LinkId → Log → Opening
login_on user link log = opening user (heard_of link log)

-- the router is logged in there, and all that it says in a login was written
pub record IsLoggedIn (user : Account) (link : LinkId) (log : Log) : Type 0 where
  pub said : List ℕ
  pub rest : List ℕ
  pub is : login_on user link log ≡ LogsIn said rest
  pub written : IsPrefix said (written_of link log)

abbrev pub goes_on : Opening → Bool
goes_on (Goes said) = true
goes_on (LogsIn said rest) = false
goes_on (Fails said fault) = false

-- it fails by what the server says, also where bytes come with its end
abbrev pub has_failed : Opening → Bool
has_failed (Goes said) = false
has_failed (LogsIn said rest) = not (is_empty rest)
has_failed (Fails said fault) = true

-- the entry of this link would end a login without success
abbrev pub breaks_off : Account → LinkId → Log → Entry → Bool
breaks_off user link log (Got other bytes) = has_failed (opening user (heard_of link log ++ bytes))
breaks_off user link log e = is_loss e

-- the login went on there, and fails by this entry of the link
abbrev pub login_fails : Account → LinkId → Log → Entry → Bool
login_fails user link log e = if was_lost link log then false else if goes_on (login_on user link log) then breaks_off user link log e else false
