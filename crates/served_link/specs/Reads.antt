-- What a read makes of what is kept of a link.
use Rattle.std.specs.Prelude.{◌≡◌, ℕ, Bool, true, false, List, Result, Ok, Err}
use Rattle.mx_base.specs.declared.memory.OutOfMemory.{OutOfMemory}
use Rattle.server_side.specs.Backend.{BackendState}
use Rattle.server_side.specs.Hearing as hearing
use Rattle.server_side.specs.Hearing.{Got, entered_of}
use Rattle.server_side.specs.declared.fault.BackendFault.{BackendFault}
use Rattle.server_side.specs.declared.fault.BackendFault.TheVariants.{BadBytes}
use Rattle.server_side.specs.declared.hear.Heard.{Heard}
use Rattle.server_side.specs.declared.hear.Heard.TheVariants as said
use Rattle.server_side.specs.declared.stage.Stage.TheVariants.{Lost}
use Rattle.lent_link.specs.Hears.{entered_as, expecting}
use Rattle.lent_link.specs.Links.{is_in}
use Rattle.served_link.specs.Hears.{heard, made_in, news_of}
use Rattle.served_link.specs.declared.news.News.{News}
use Rattle.served_link.specs.declared.news.News.TheVariants.{LoggedIn, LoginFailed, Nothing}
use Rattle.served_link.specs.declared.row.Row.{Row}

-- In a login.

-- a server that sent no login is shunned
abbrev pub shuns : BackendFault → Bool
shuns (BadBytes at) = true
shuns _ = false

abbrev pub login_news : Heard → News
login_news said.LoggedIn = LoggedIn
login_news _ = Nothing

abbrev pub with_login : Heard → BackendState → Row → Row
with_login heard login row = record row { link = entered_as heard login row.link }

-- it failed so
pub record Failing (fault : BackendFault) (news : News) (new old : Row) : Type 0 where
  pub over : new.link.login.stage ≡ Lost
  pub tells : news ≡ LoginFailed (shuns fault)
  pub row : new ≡ record old { link = record old.link { login = new.link.login; spoilt = true } }

abbrev pub EntersBy : News → (new : Row) → Got → (old : Row) → Type 0
EntersBy news new (hearing.Hears heard login) old = (news ≡ login_news heard) × (new ≡ with_login heard login old)
EntersBy news new (hearing.Fails fault) old = Failing fault news new old

abbrev pub Enters : Result News OutOfMemory → (new : Row) → Got → (old : Row) → Type 0
Enters (Ok news) new got old = EntersBy news new got old
Enters (Err memory) new got old = Unit {0}

-- Behind it.

pub record HearsBy (news : News) (new : Row) (made : List ℕ) (old : Row) (piece : List ℕ) : Type 0 where
  pub tells : news ≡ news_of piece old
  pub row : new ≡ heard piece old
  pub handed : made ≡ made_in (expecting old.link).reading piece

abbrev pub Hears : Result News OutOfMemory → (new : Row) → (made : List ℕ) → (old : Row) → (piece : List ℕ) → Type 0
Hears (Ok news) new made old piece = HearsBy news new made old piece
Hears (Err memory) new made old piece = Unit {0}

-- Both.

abbrev pub used_at : (now : ℕ) → Row → Row
used_at now row = record row { used = now }

abbrev pub ReadsIn : (entered : Bool) → Result News OutOfMemory → (new : Row) → (made : List ℕ) → (old : Row) → (piece : List ℕ) → Type 0
ReadsIn true result new made old piece = Hears result new made old piece
ReadsIn false result new made old piece = Enters result new (entered_of piece old.link.login) old

abbrev pub ReadsTo : Result News OutOfMemory → (new : Row) → (made : List ℕ) → (old : Row) → (piece : List ℕ) → (now : ℕ) → Type 0
ReadsTo result new made old piece now = ReadsIn (is_in old.link.login.stage) result new made (used_at now old) piece
