-- What one router goes by beside its log: its configuration, and what a setup of log_story has to have before the log.
use Rattle.std.specs.Prelude.{◌≡◌, ℕ, Bool, List, Option}
use Rattle.private_model.specs.Commands.{Account, Number}
use Rattle.private_model.specs.Names.{ClientNo, Hostgroup, LinkId, MessageName, ServerId}
use Rattle.private_model.specs.Story.{Key}
use Rattle.private_model.specs.View.{Setup}
use Rattle.session_state.specs.declared.place.Place.{Place}
use Rattle.router_promises.specs.Router.{Router}

-- Keys are numbered once for all; accounts and places are guessed, and have to fit what the log says; what administrators are answered;
-- insert ids of 64 bits; at which entries, counted from 1, memory is refused to what a client asks for; and what is free as an entry comes:
-- which of two links of a key is lent first, and at which server of a hostgroup a link is opened, where that has room.
pub record Fixed : Type 0 where
  pub router : Router
  pub keys : ℕ → Key
  pub number_of : Key → ℕ
  pub accounts : ClientNo → Account
  pub places : ClientNo → Place
  pub administered : MessageName → List (List ℕ)
  pub stored : (server : ServerId) → List ℕ
  pub ids : ℕ → Option Number
  pub starves : (entry : ℕ) → ClientNo → Bool
  pub prefers : (entry : ℕ) → (one other : LinkId) → Bool
  pub picks : (entry : ℕ) → Hostgroup → ServerId

-- each text and place has its number
abbrev pub IsNumbered : Fixed → Type 0
IsNumbered fixed = (key : Key) → fixed.keys (fixed.number_of key) ≡ key

abbrev pub setup_of : Fixed → Setup
setup_of fixed = record {
  reads = fixed.router.reads;
  keys = fixed.keys;
  accounts = fixed.accounts;
  places = fixed.places;
  stored = fixed.stored;
}
