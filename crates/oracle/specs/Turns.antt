-- What a turn makes of a private world.
use Rattle.std.specs.Prelude.{◌≡◌, ℕ, List, option_copied}
use Rattle.mx_base.specs.declared.names.ClientNo.{ClientNo}
use Rattle.mx_base.specs.declared.names.ServerId.{ServerId}
use Rattle.private_model.specs.Commands.{Account, cmd_of}
use Rattle.private_model.specs.Story.{Due}
use Rattle.private_model.specs.Worlds.{Private}
use Rattle.oracle.specs.World.{IsWorld}
use Rattle.oracle.specs.Runs.{taken}
use Rattle.oracle.specs.declared.world.Statement.{Statement}
use Rattle.oracle.specs.declared.world.Who.{Who}
use Rattle.oracle.specs.declared.world.World.{World}

abbrev pub account_of : Who → Account
account_of who = record { user = who.user.now; capabilities = who.capabilities }

-- what is asked is this statement
pub record IsOf (due : Due) (asked : Statement) : Type 0 where
  pub ordinal_is : asked.ordinal ≡ due.ordinal
  pub place_is : option_copied asked.place ≡ taken due
  pub key_is : asked.key ≡ due.key
  pub command_is : asked.command ≡ cmd_of due.command

-- Of each private world that has these sessions and answers, and these data at a server, the turn makes one that has those.
pub record Leads (who : Who) (world : World) (stored : List ℕ) (new_world : World) (new_stored : List ℕ) (turn : Private → ServerId → Private) : Type 0 where
  pub leaves : (accounts : ClientNo → Account) (private : Private) (server : ServerId) → accounts who.name.client ≡ account_of who → private.stored server ≡ stored
      → IsWorld accounts world private → IsWorld accounts new_world (turn private server)
  pub data_is : (accounts : ClientNo → Account) (private : Private) (server : ServerId) → accounts who.name.client ≡ account_of who → private.stored server ≡ stored
      → IsWorld accounts world private → (turn private server).stored server ≡ new_stored
