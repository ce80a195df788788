-- A client comes.
use Rattle.std.specs.Prelude.{◌≡◌, ℕ, ◌+◌, false, All, length, List, [], ◌∷◌, None}
use Rattle.mx_base.specs.declared.names.LinkId.{LinkId}
use Rattle.mx_base.specs.declared.names.Port.{Port}
use Rattle.mx_wire.specs.declared.entry.Entry.TheVariants.{Accepted}
use Rattle.client_session.specs.Errors.{too_many_connections}
use Rattle.private_model.specs.Story.{is_link_id}
use Rattle.log_story.specs.Owed.{name_of}
use Rattle.log_story.specs.Plan.{Alone, LastWord}
use Rattle.log_story.specs.Tale as tales
use Rattle.log_story.specs.Tale.{is_to_server}
use Rattle.step_laws.specs.Steps.{told_then}
use Rattle.desk_laws.specs.Stands.{AreSessions, AreToCome}
use Rattle.core_stands.specs.Grounds.{Ground, on, view_on}
use Rattle.core_laws.specs.parting.Partings.{AreCounted}

-- Behind its entry, which is counted at once.

abbrev pub newest : Ground → Port → LinkId → (salt : List ℕ) → tales.Client
newest g port link salt = tales.new_client (length g.tale.clients + 1) port link salt

abbrev pub accepted : Port → LinkId → (salt : List ℕ) → Ground → Ground
accepted port link salt g = on g (told_then g.setup g.plan g.tale (Accepted port link salt))

-- nobody has this link
pub record IsNewLink (g : Ground) (link : LinkId) : Type 0 where
  pub aside : is_to_server g.tale link ≡ false
  pub alone : All (λ (other : tales.Client). is_link_id other.link link ≡ false) g.tale.clients

-- nothing happened of the client
pub record IsUnseen (g : Ground) (client : tales.Client) : Type 0 where
  pub sessions : AreSessions (view_on g) client.number 0 []
  pub coming : AreToCome (view_on g) client.number 1
  pub place : (view_on g).places client.number ≡ g.setup.places client.number
  pub unrouted : g.plan.routes (name_of client 0) ≡ None
  pub going : g.over client.number ≡ false

-- nothing else is decided at this moment of the clients that are there
pub record IsComing (g : Ground) (port : Port) (link : LinkId) (salt : List ℕ) : Type 0 where
  pub still : AreCounted g (λ c. None)
  pub link_is : IsNewLink g link
  pub unseen : IsUnseen g (newest g port link salt)

-- What one is told that is turned away.

abbrev pub away_payloads : List (List ℕ)
away_payloads = too_many_connections ∷ []

abbrev pub away_word : (moment : ℕ) → LastWord
away_word moment = record { from = moment; place = Alone; payloads = away_payloads }
