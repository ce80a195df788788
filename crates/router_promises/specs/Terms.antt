-- By what a log is judged: the router, and what it decided of which no byte tells, once for the whole log.
use Rattle.std.specs.Prelude.{◌≡◌, ℕ, ◌+◌, Bool, List, fold, length, All, Some}
use Rattle.client_session.specs.Answers.{account, opening_of}
use Rattle.client_side.specs.Login.{Opening, Says}
use Rattle.mx_wire.specs.Log.{Log}
use Rattle.private_model.specs.Commands.{Account}
use Rattle.log_story.specs.Servers.{logged_in_as}
use Rattle.private_model.specs.Names.{ClientNo, LinkId, MessageName, ServerId}
use Rattle.private_model.specs.Story.{Key}
use Rattle.private_model.specs.View.{Setup}
use Rattle.server_side.specs.Account.{Account as Login}
use Rattle.session_state.specs.declared.place.Place.{Place}
use Rattle.log_story.specs.Owed.{talk_of}
use Rattle.log_story.specs.Plan.{Plan}
use Rattle.log_story.specs.Tale.{Client, Tale, first_tale}
use Rattle.log_story.specs.Telling.{tale_step}
use Rattle.router_promises.specs.Router.{Router, first_place, service_of}

-- for whom a link is opened that couldn't be: as whom the router would have logged in, and whether for those who stand in no schema
pub record Tried : Type 0 where
  pub login : Login
  pub bare : Bool

-- The plan of log_story; what is prepared under each key; who each client is and where it begins; what each message of an administrator
-- is answered; which links are kept for those who stand in no schema; and for whom the open of an entry was that failed.
pub record Decided : Type 0 where
  pub plan : Plan
  pub keys : ℕ → Key
  pub accounts : ClientNo → Account
  pub places : ClientNo → Place
  pub administered : MessageName → List (List ℕ)
  pub bare : LinkId → Bool
  pub tried : (entry : ℕ) → Tried

-- what servers have stored at first is theirs
pub record Terms : Type 0 where
  pub router : Router
  pub decided : Decided
  pub stored : (server : ServerId) → List ℕ

abbrev pub plan_in : Terms → Plan
plan_in terms = terms.decided.plan

abbrev pub setup_in : Terms → Setup
setup_in terms = record {
  reads = terms.router.reads;
  keys = terms.decided.keys;
  accounts = terms.decided.accounts;
  places = terms.decided.places;
  stored = terms.stored;
}

-- what is known at a moment

abbrev pub tale_at : Terms → Log → Tale
tale_at terms log = fold (tale_step (setup_in terms) (plan_in terms)) first_tale log

-- the number of the entry behind these, as plans count
abbrev pub entry_behind : Log → ℕ
entry_behind log = length log + 1

abbrev pub login_as : Login → Account
login_as login = logged_in_as login

-- a client that is logged in is who it says, and begins where it says
abbrev pub IsWhoItSays : Terms → Client → Opening → Type 0
IsWhoItSays terms client (Says switched response id rest) =
    (login : Login) → account (talk_of (plan_in terms) client) ≡ Some login
    → (terms.decided.accounts client.number ≡ login_as login) × (terms.decided.places client.number ≡ first_place terms.router response)
IsWhoItSays terms client _ = Unit {0}

-- the plan is one of this router; 1,048,576 bytes for a client are unwritten at most as its next message is taken up
pub record IsRouters (terms : Terms) : Type 0 where
  pub service : (plan_in terms).service ≡ service_of terms.router
  pub room : (plan_in terms).room ≡ 1048576

abbrev pub AreWhoTheySay : Terms → Log → Type 0
AreWhoTheySay terms log =
    All (λ (client : Client). IsWhoItSays terms client (opening_of (talk_of (plan_in terms) client)))
    (tale_at terms log).clients
