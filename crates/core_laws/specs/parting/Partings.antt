-- What is asked where statements are given up, clients leave, and links are given back, lost or forgotten.
use Rattle.std.specs.Prelude.{◌≡◌, ◌⊎◌, ◌<◌, ◌≤◌, ◌^◌, ℕ, suc, Bool, true, false, not, ◌&&◌, is_some, nat_eq, All, List, [], ◌∷◌, Option, Some}
use Rattle.mx_base.specs.declared.names.Hostgroup.{Hostgroup}
use Rattle.private_model.specs.Names.{ClientNo, LinkId, SessionName}
use Rattle.private_model.specs.View.{View}
use Rattle.log_story.specs.Clients.{is_answered}
use Rattle.log_story.specs.Owed.{name_of}
use Rattle.log_story.specs.Plan.{own_at, word_at}
use Rattle.log_story.specs.Tale as tales
use Rattle.served_link.specs.declared.row.Row.{Row}
use Rattle.server_side.specs.Account.{Account as Login}
use Rattle.client_seat.specs.Seats.{is_ended}
use Rattle.client_seat.specs.Stands.{IsHeard, IsWho}
use Rattle.client_seat.specs.declared.phase.Phase.TheVariants as phase
use Rattle.client_seat.specs.declared.seat.Seat.{Seat}
use Rattle.client_desk.specs.declared.work.Work.{Work}
use Rattle.desk_laws.specs.Spares.{IsElsewhere}
use Rattle.desk_laws.specs.Stands.{IsPlaced}
use Rattle.core_tables.specs.Parting.{present_in}
use Rattle.core_tables.specs.Tables.{Tabled}
use Rattle.core_tables.specs.declared.client.Client.{Client}
use Rattle.core_tables.specs.declared.server.Server.{Server}
use Rattle.core_stands.specs.Clients.{IsOwing}
use Rattle.core_stands.specs.Grounds.{Ground, view_on}
use Rattle.core_laws.specs.parting.Frames.{client_at}

-- The router's own answers at the next entry: of the messages that were taken up the last is answered by this payload, if there is one, and
-- otherwise nothing is new; and words to those who ended stay.
pub record IsCounted (g : Ground) (given : Option (List ℕ)) (client : tales.Client) : Type 0 where
  pub own : (ordinal : ℕ) → ordinal ≤ client.taken → (is_some given && nat_eq ordinal client.taken) ≡ false
      → own_at g.plan (suc g.tale.moment) (name_of client ordinal) ≡ own_at g.plan g.tale.moment (name_of client ordinal)
  pub given_up : (payload : List ℕ) → given ≡ Some payload → own_at g.plan (suc g.tale.moment) (name_of client client.taken) ≡ Some (payload ∷ [])
  pub word : g.over client.number ≡ true → word_at g.plan (suc g.tale.moment) client.number ≡ word_at g.plan g.tale.moment client.number

abbrev pub AreCounted : Ground → (ClientNo → Option (List ℕ)) → Type 0
AreCounted g given = All (λ (client : tales.Client). IsCounted g (given client.number) client) g.tale.clients

-- What is given up is in work; and where it was sent, it stands on no sound link but those that are excepted.

pub record IsAtWork (t : Tabled) (c : ClientNo) (client : Client) (work : Work) : Type 0 where
  pub there : t.clients c ≡ Some client
  pub in_work : client.desk.work ≡ Some work

-- a reply that comes there goes to its client
abbrev pub is_sound : Row → Bool
is_sound row = not row.link.spoilt && (not row.lost && not (is_some row.left))

pub record AreGivenUp (given : ClientNo → Option (List ℕ)) (excepted : LinkId → Bool) (t : Tabled) : Type 0 where
  pub in_work : (c : ClientNo) (payload : List ℕ) → given c ≡ Some payload → (client : Client) × (work : Work) × IsAtWork t c client work
  pub aside : (c : ClientNo) (l : LinkId) (server : Server) → is_some (given c) ≡ true → t.links l ≡ Some server → excepted l ≡ false
      → client_at server.row.link.state.stage ≡ Some c → is_sound server.row ≡ false

-- A client leaves: its seat is then this one, by what is known behind it.

abbrev pub HasLives : View → ClientNo → Type 0
HasLives view c = (h : Hostgroup) → suc (view.lives c h) < 2 ^ 64

pub record IsLeaving (g : Ground) (client : tales.Client) (seat : Seat) : Type 0 where
  pub who : IsWho client seat
  pub heard : IsHeard g.plan client seat
  pub owed : IsOwing seat.phase (g.fresh client.number) g client seat
  pub placed : IsPlaced seat.phase (view_on g) client.number seat.place

-- it begins anew, with all answered, and what it prepared
pub record IsAnew (old new : Seat) : Type 0 where
  pub login : Login
  pub served : old.phase ≡ phase.Serving login
  pub serves : new.phase ≡ phase.Serving login
  pub idle : old.answered ≡ true
  pub answered : new.answered ≡ true
  pub coming : new.outbox.coming ≡ []
  pub collation : new.collation ≡ old.collation
  pub statements : new.statements ≡ old.statements

-- it ends, with a last word only where all is answered
pub record IsEnding (g : Ground) (client : tales.Client) (seat : Seat) : Type 0 where
  pub ended : is_ended seat.phase ≡ true
  pub told : is_some (word_at g.plan g.tale.moment client.number) ≡ true
      → (ordinal : ℕ) → ordinal ≤ client.taken → is_answered g.plan g.tale (view_on g) client ordinal ≡ true

-- A link is lost: the statement in work of the session that it carries is given up at the same entry.
pub record IsLosing (g : Ground) (t : Tabled) (l : LinkId) (given : ClientNo → Option (List ℕ)) : Type 0 where
  pub lives : (n : SessionName) → present_in l t ≡ Some n → suc ((view_on g).lives n.client n.hostgroup) < 2 ^ 64
  pub work : (n : SessionName) (row : Client) → present_in l t ≡ Some n → t.clients n.client ≡ Some row
      → IsElsewhere n.hostgroup row.desk.work ⊎ (is_some (given n.client) ≡ true)
