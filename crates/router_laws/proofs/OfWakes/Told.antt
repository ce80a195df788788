-- Whoever is told its last word stands as it is told.
use Rattle.std.specs.Prelude.{◌≡◌, ℕ, false, All, get_or, List, [], ◌∷◌, Option, Some, None}
use Rattle.std.proofs.Common.{refl}
use Rattle.client_session.specs.Setups.{Setup as Service}
use Rattle.private_model.specs.Names.{ClientNo}
use Rattle.log_story.specs.Plan.{Behind, LastWord, word_at}
use Rattle.core_stands.specs.Grounds.{Ground}
use Rattle.core_laws.specs.clients.Following.{StandTold}
use Rattle.core_laws.specs.clients.Follows.{Leaves, Parting, Stays, Tells}
use Rattle.core_laws.specs.clients.Going.{Going}
use Rattle.router_laws.specs.reading.Hearing.{TellsFor, TellsSo, last_word}
use Rattle.router_laws.specs.wakes.Calling.{Caller}

abbrev pub AreTold : Type 0
AreTold = (service : Service) (payload : List ℕ) (g : Ground) (c : ClientNo) (moment : ℕ) (word : LastWord) → g.over c ≡ false
    → word_at g.plan moment c ≡ Some word → word.place ≡ Behind → word.payloads ≡ payload ∷ [] → StandTold payload service g c moment

tells_for : AreTold → (parting : Parting) (service : Service) (c : ClientNo) → TellsFor parting service c
tells_for told Stays service c = tt
tells_for told Leaves service c = tt
tells_for told (Tells payload) service c = λ g moment over looked said. told service payload g c moment (last_word moment payload) over said refl refl

pub tells_all : AreTold → (service : Service) (callers : List Caller) → All (λ (k : Caller). TellsFor k.parting service k.client) callers
tells_all told service callers = λ i k within. tells_for told (get_or callers i k).parting service (get_or callers i k).client

pub tells_going : AreTold → (going : Option Going) (service : Service) → TellsSo going service
tells_going told None service = tt
tells_going told (Some going) service = tells_for told going.parting service going.client
