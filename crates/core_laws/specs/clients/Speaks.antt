-- Bytes come on a client's link, and it goes on.
use Rattle.std.specs.Prelude.{◌≡◌, ◌++◌, ℕ, suc, Bool, false, true, All, List, None, Some}
use Rattle.mx_base.specs.declared.names.LinkId.{LinkId}
use Rattle.mx_wire.specs.declared.entry.Entry.TheVariants.{Got}
use Rattle.client_session.specs.Setups.{Setup as Service}
use Rattle.log_story.specs.Owed.{name_of}
use Rattle.log_story.specs.Servers.{links_are_freed}
use Rattle.log_story.specs.Tale as tales
use Rattle.log_story.specs.Tale.{Tale, is_to_server}
use Rattle.row_laws.specs.Readied.{AreClasses}
use Rattle.step_laws.specs.Freed.{freed_in}
use Rattle.step_laws.specs.Steps.{told_then}
use Rattle.step_laws.specs.Taken.{all_taken}
use Rattle.client_seat.specs.Seats.{is_ended}
use Rattle.core_tables.specs.Arrivals.{spoke}
use Rattle.core_tables.specs.Tables.{IsSame, Tabled}
use Rattle.core_tables.specs.declared.client.Client.{Client}
use Rattle.core_stands.specs.Grounds.{Ground}
use Rattle.core_laws.specs.arrival.Looks.{IsLetIn}
use Rattle.core_laws.specs.entry.Freeing.{all_freed}
use Rattle.core_laws.specs.entry.Kinds.{IsSpeaking, IsUneventful}
use Rattle.core_laws.specs.clients.Chosen.{PlanHas}
use Rattle.core_laws.specs.clients.Turns.{Choice, Ends, Halt, Quits, Rests, Turns, Waits}

-- the client with its bytes
abbrev pub spoke_more : (bytes : List ℕ) → tales.Client → tales.Client
spoke_more bytes client = record client { read = client.read ++ bytes }

-- the tale with all that it takes up
abbrev pub spoken : Ground → LinkId → (bytes : List ℕ) → tales.Client → Tale
spoken g link bytes client =
    all_taken g.setup g.plan (spoke_more bytes client) (told_then g.setup g.plan g.tale (Got link bytes))

-- Of the code: its bytes are kept, it makes these turns, and links are given back.
pub record SpeaksSo (service : Service) (default : List ℕ) (link : LinkId) (bytes : List ℕ) (client : tales.Client) (choices : List Choice) (halt : Halt)
    (links : List LinkId) (old new : Tabled) : Type 0 where
  pub numbered : old.numbers link ≡ Some client.number
  pub row : Client
  pub there : old.clients client.number ≡ Some row
  pub going : is_ended row.desk.seat.phase ≡ false
  pub heard : Tabled
  pub hears : IsSame heard (spoke client.number bytes old)
  pub turned : Tabled
  pub turns : Turns choices halt service default client.number heard turned
  pub freed : IsSame new (all_freed links turned)

-- Of the plan and the setup: nothing else is decided at this moment, and of its messages what the code decided; and those links are all that
-- are to be given back, in the tale's order.
pub record IsSpeech (default : List ℕ) (g : Ground) (link : LinkId) (bytes : List ℕ) (client : tales.Client) (choices : List Choice) (halt : Halt)
    (links : List LinkId) : Type 0 where
  pub speaks : IsSpeaking g link client
  pub calm : IsUneventful g
  pub classes : AreClasses g.setup.reads
  pub let_in : IsLetIn g default (spoke_more bytes client)
  pub unrouted : g.plan.routes (name_of client 0) ≡ None
  pub chosen : PlanHas choices halt g.setup.keys g.plan (suc g.tale.moment) (name_of client (suc client.taken))
  pub all : links_are_freed g.setup g.plan (spoken g link bytes client) ≡ freed_in g.setup g.plan links (spoken g link bytes client)
  pub theirs : All (λ (l : LinkId). is_to_server (spoken g link bytes client) l ≡ true) links

-- it goes on behind its turns
abbrev pub goes_on : Halt → Bool
goes_on Waits = true
goes_on Rests = true
goes_on Quits = false
goes_on Ends = false
