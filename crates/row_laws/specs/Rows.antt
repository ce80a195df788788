-- How what a router keeps of a link to a server stands for the link in a tale: for its wire, for the law's link, and for the session that it
-- carries in what the router knows.
use Rattle.std.specs.Prelude.{◌≡◌, ◌⊎◌, Bool, true, false, not, ◌++◌, Option, None}
use Rattle.server_rule.specs.Classes.{Reads}
use Rattle.server_side.specs.Account.{Account as Login}
use Rattle.server_side.specs.Login.{Fails, Goes, Opening, opening}
use Rattle.server_side.specs.Reading.{IsLoggingIn}
use Rattle.server_side.specs.declared.stage.Stage.TheVariants as stages
use Rattle.private_model.specs.Names.{LinkId}
use Rattle.private_model.specs.View as view
use Rattle.private_model.specs.View.{Link, Setup, View, no_link}
use Rattle.log_story.specs.Plan.{Plan}
use Rattle.log_story.specs.Servers.{logged_in_as}
use Rattle.log_story.specs.Tale.{Tale, Wire, view_of}
use Rattle.link_state.specs.Dones.{is_quiet}
use Rattle.link_state.specs.States.{fresh, ran}
use Rattle.link_state.specs.declared.state.LinkState.{LinkState}
use Rattle.link_state.specs.declared.state.Stage.{Stage}
use Rattle.link_state.specs.declared.state.Stage.TheVariants.{Asked}
use Rattle.link_laws.specs.Stands.{Codes, IsLink}
use Rattle.lent_link.specs.Links.{is_in}
use Rattle.lent_link.specs.declared.link.LentLink.{LentLink}
use Rattle.lent_link.specs.declared.link.Step.TheVariants.{Other}
use Rattle.reply_relay.specs.Cells.{CellRead}
use Rattle.served_link.specs.declared.row.LeftSession.{LeftSession}
use Rattle.served_link.specs.declared.row.Row.{Row}
use Rattle.row_laws.specs.Unread.{IsCell, IsUnread, is_bad_there}
use Rattle.row_laws.specs.Whose.{IsOwn, IsWhose, OfStatement}
use Rattle.row_laws.specs.Written.{IsStepOf, IsWritten, is_other}

-- What of a row stands for something.
pub record Part : Type 0 where
  pub link : LentLink
  pub lost : Bool
  pub left : Option LeftSession
  pub multiplex : Option Bool
  pub cell : Option CellRead

abbrev pub part_of : Row → Part
part_of row = record { link = row.link; lost = row.lost; left = row.left; multiplex = row.multiplex; cell = row.cell }

-- In the login.

abbrev pub is_failed : Opening → Bool
is_failed (Fails said fault) = true
is_failed _ = false

-- it goes on: what was written and what is to be written are what there is to say
pub record IsLogin (login : Login) (row : LentLink) (wire : Wire) : Type 0 where
  pub account : row.login.account ≡ login
  pub login_so : IsLoggingIn row.login wire.unread (wire.written ++ row.login.own)
  pub goes : opening login wire.unread ≡ Goes (wire.written ++ row.login.own)

pub record IsEntering (login : Login) (row : Part) (wire : Wire) (link : Link) : Type 0 where
  pub entered : wire.entered ≡ false
  pub stays : wire.quits ≡ false
  pub stepless : wire.step ≡ None
  pub unborn : link ≡ no_link
  pub outside : is_in row.link.login.stage ≡ false
  pub state : row.link.state ≡ fresh
  pub step : row.link.step ≡ Other
  pub told : row.link.quits ≡ false
  pub next : row.link.next ≡ None
  pub writing : row.link.writing ≡ None
  pub reading : row.link.reading ≡ None
  pub left : row.left ≡ None
  pub failed : is_failed (opening login wire.unread) ≡ row.link.spoilt
  pub going : row.link.spoilt ≡ false → IsLogin login row.link wire

abbrev pub Enters : Login → Row → Wire → Link → Type 0
Enters login row wire link = IsEntering login (part_of row) wire link

-- Behind it.

-- a question of whose answer nothing was read
abbrev pub is_asked : Stage → Bool
is_asked (Asked asking) = true
is_asked _ = false

-- What stands there may run before a byte of its answer is read, which no router sees.
abbrev pub IsSeen : Reads → Codes → LinkState → Link → Type 0
IsSeen reads codes state link = IsLink reads codes state link ⊎ IsLink reads codes (ran state) link

-- what a rule says of sharing the link behind the statement there
abbrev pub IsShared : view.Stage → (multiplex : Option Bool) → Type 0
IsShared view.Quiet multiplex = Unit {0}
IsShared (view.Asked question) multiplex = OfStatement question (λ n due. multiplex ≡ due.multiplex)
IsShared (view.Answered question) multiplex = OfStatement question (λ n due. multiplex ≡ due.multiplex)

pub record IsServing (reads : Reads) (codes : Codes) (login : Login) (seen : View) (row : Part) (wire : Wire) (link : Link) : Type 0 where
  pub entered : wire.entered ≡ true
  pub inside : row.link.login.stage ≡ stages.In
  pub account : link.account ≡ logged_in_as login
  pub server : link.server ≡ wire.server
  pub usable : link.usable ≡ not row.lost
  pub state : IsSeen reads codes row.link.state link
  pub quits : wire.quits ≡ row.link.quits
  pub step : IsStepOf row.link.step wire.step
  pub stepless : is_other row.link.step ≡ false → is_quiet row.link.state.stage ≡ true
  pub written : IsWritten row.link wire link
  pub bad : is_bad_there wire link.stage ≡ row.link.spoilt
  pub well : is_asked row.link.state.stage ≡ true → row.link.spoilt ≡ false
  pub unread : row.link.spoilt ≡ false → IsUnread row.link wire
  pub cell : row.link.spoilt ≡ false → IsCell row.cell row.link wire
  pub whose : row.lost ≡ false → IsWhose seen row.link.state.carries row.left
  pub own : IsOwn row.link.state.stage row.link.state.carries
  pub shared : IsShared link.stage row.multiplex

abbrev pub Serves : Reads → Codes → Login → View → Row → Wire → Link → Type 0
Serves reads codes login seen row wire link = IsServing reads codes login seen (part_of row) wire link

-- Both.

abbrev pub IsPartBy : (entered : Bool) → Reads → Codes → Login → View → Part → Wire → Link → Type 0
IsPartBy false reads codes login seen row wire link = IsEntering login row wire link
IsPartBy true reads codes login seen row wire link = IsServing reads codes login seen row wire link

pub record IsPart (reads : Reads) (codes : Codes) (login : Login) (seen : View) (row : Part) (wire : Wire) (link : Link) : Type 0 where
  pub server : wire.server ≡ row.link.server
  pub is : IsPartBy wire.entered reads codes login seen row wire link

abbrev pub IsRowBy : (entered : Bool) → Reads → Codes → Login → View → Row → Wire → Link → Type 0
IsRowBy entered reads codes login seen row wire link = IsPartBy entered reads codes login seen (part_of row) wire link

abbrev pub IsRow : Reads → Codes → Login → View → Row → Wire → Link → Type 0
IsRow reads codes login seen row wire link = IsPart reads codes login seen (part_of row) wire link

-- in a tale; `codes` are the code's numbers of keys
abbrev pub IsRowIn : Setup → Codes → Plan → Tale → LinkId → Row → Type 0
IsRowIn setup codes plan tale l row =
    IsRow setup.reads codes (plan.logins l) (view_of setup tale) row (tale.wires l) ((view_of setup tale).links l)
