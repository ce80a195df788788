-- What a tracker does at all bytes of a piece.
use Rattle.std.specs.Prelude.{◌≡◌, ℕ, ◌+◌, ◌-◌, ◌*◌, Bool, ◌&&◌, not, nat_eq, List, [], ◌∷◌, length, min, Option, Some, None, if◌then◌else◌}
use Rattle.mx_base.specs.Fields.{AreBytes}
use Rattle.reply_track.specs.declared.reply.ReplyEnd.{ReplyEnd}
use Rattle.reply_track.specs.declared.reply.Progress.{Progress}
use Rattle.reply_track.specs.declared.reply.Progress.TheVariants.{More, Done, Bad}
use Rattle.reply_track.specs.declared.body.Body.{Body}
use Rattle.reply_track.specs.declared.body.Body.TheVariants.{Due as DueBody, Cell as CellBody, Number as NumberBody, Rest}
use Rattle.reply_track.specs.declared.place.Place.{Place}
use Rattle.reply_track.specs.declared.place.Place.TheVariants.{First, Second, Third, Id as IdPlace, Body as BodyPlace}
use Rattle.reply_track.specs.declared.place.State.{State}
use Rattle.reply_track.specs.declared.place.Outcome.{Outcome}
use Rattle.reply_track.specs.declared.place.Outcome.TheVariants.{On, Over, Wrong}
use Rattle.packet_frame.specs.Packets.{longest}
use Rattle.reply_track.specs.Steps.{body_takes_length, body_takes_low, numbered, step, written}

-- how bytes end: the reply goes on, it ended and these bytes are behind it, or these bytes begin with a wrong one
pub data Ending : Type 0 where
  Going : State → Ending
  Ended : ReplyEnd → List ℕ → Ending
  Failed : List ℕ → Ending

abbrev pub run_by : Outcome → (byte : ℕ) → List ℕ → (State → Ending) → Ending
run_by (On state) byte bytes others = others state
run_by (Over end) byte bytes others = Ended end bytes
run_by Wrong byte bytes others = Failed (byte ∷ bytes)

abbrev pub run : State → List ℕ → Ending
run state [] = Going state
run state (byte ∷ bytes) = run_by (step state byte) byte bytes (λ (next : State). run next bytes)

-- the bytes that the client gets: those of the reply renumbered, and others as they are
abbrev pub renumbered_by : Outcome → (new byte : ℕ) → List ℕ → (State → List ℕ) → List ℕ
renumbered_by (On state) new byte bytes others = new ∷ others state
renumbered_by (Over end) new byte bytes others = new ∷ bytes
renumbered_by Wrong new byte bytes others = byte ∷ bytes

abbrev pub renumbered : State → List ℕ → List ℕ
renumbered state [] = []
renumbered state (byte ∷ bytes) = renumbered_by (step state byte) (written state byte) byte bytes (λ (next : State). renumbered next bytes)

-- the answer for a piece of so many bytes
abbrev pub progress_of : (size : ℕ) → Ending → Progress
progress_of size (Going state) = More
progress_of size (Ended end behind) = Done (size - length behind) end
progress_of size (Failed behind) = Bad (size - length behind)

abbrev pub StandsAt : State → Ending → Type 0
StandsAt state (Going next) = state ≡ next
StandsAt state (Ended end behind) = Unit {0}
StandsAt state (Failed behind) = Unit {0}

-- a piece was walked over
pub record Walked (state : State) (piece : List ℕ) (after : State) (made : List ℕ) (progress : Progress) : Type 0 where
  pub are : AreBytes piece
  pub answers : progress ≡ progress_of (length piece) (run state piece)
  pub writes : made ≡ renumbered state piece
  pub stands : StandsAt after (run state piece)

-- bytes of which only their number matters: those of a packet but its last
abbrev pub passed_at : Body → Place → (most : ℕ) → ℕ
passed_at (DueBody due) place most = 0
passed_at (CellBody cell) place most = 0
passed_at (NumberBody number size value) place most = 0
passed_at (Rest next) First most = 0
passed_at (Rest next) (Second low) most = 0
passed_at (Rest next) (Third low) most = 0
passed_at (Rest next) (IdPlace length) most = 0
passed_at (Rest next) (BodyPlace left long) most = min (left - 1) most

abbrev pub passed : State → (most : ℕ) → ℕ
passed state most = passed_at state.body state.place most

abbrev pub place_behind : Place → (count : ℕ) → Place
place_behind First count = First
place_behind (Second low) count = Second low
place_behind (Third low) count = Third low
place_behind (IdPlace length) count = IdPlace length
place_behind (BodyPlace left long) count = BodyPlace (left - count) long

abbrev pub behind : State → (count : ℕ) → State
behind state count = record state { place = place_behind state.place count }

-- The state behind the header of a packet that isn't empty, which these four bytes are, where the packet may come. Its length is told at once,
-- and only its sequence id becomes another for the client.

abbrev pub is_header : State → (a b c id : ℕ) → Bool
is_header state a b c id =
    nat_eq id state.server && (not (nat_eq ((a + 256 * b) + 65536 * c) 0) && (body_takes_low state.body a
    && (body_takes_low state.body (a + 256 * b) && body_takes_length state.body ((a + 256 * b) + 65536 * c))))

abbrev pub in_body : State → (length : ℕ) → State
in_body state length = record (numbered state) { place = BodyPlace length (nat_eq length longest) }

abbrev pub headed_at : State → Place → (a b c id : ℕ) → Option State
headed_at state First a b c id = if is_header state a b c id then Some (in_body state ((a + 256 * b) + 65536 * c)) else None
headed_at state (Second low) a b c id = None
headed_at state (Third low) a b c id = None
headed_at state (IdPlace length) a b c id = None
headed_at state (BodyPlace left long) a b c id = None

abbrev pub headed : State → (a b c id : ℕ) → Option State
headed state a b c id = headed_at state state.place a b c id
