-- As a client goes on, the rows of the others stay as they were.
use Rattle.std.specs.Prelude.{◌≡◌, ◌<◌, ℕ, Bool, true, false, All, get_or, nat_eq, if◌then◌else◌, List, [], ◌∷◌, Option, Some, None}
use Rattle.std.specs.Option.{option_map, option_map_or}
use Rattle.std.proofs.Common.{◌∙◌, ap, refl}
use Rattle.mx_base.specs.declared.names.ClientNo.{ClientNo}
use Rattle.client_session.specs.Setups.{Setup}
use Rattle.client_seat.specs.Seats.{ended}
use Rattle.client_seat.specs.Words.{with_word}
use Rattle.client_seat.specs.declared.seat.Seat.{Seat}
use Rattle.core_tables.specs.Arrivals.{seated, turn}
use Rattle.core_tables.specs.Parting.{left_in, left_row, parted_in}
use Rattle.core_tables.specs.Tables.{IsSame, Tabled, client_changed, client_put}
use Rattle.core_tables.specs.Taking.{answers, goes, passes}
use Rattle.core_tables.specs.declared.client.Client.{Client}
use Rattle.core_laws.specs.clients.Follows.{Leaves, LeavesThere, Parting, PartsSo, Stays, Tells}
use Rattle.core_laws.specs.clients.Turns.{Answers, Choice, Ends, Goes, Halt, HaltsSo, IsTurn, MakesAnswer, Quits, Rests, Turns, Waits}
use Rattle.core_laws.specs.taking.Takes.{is_reset}
use Rattle.core_laws.proofs.OfParting.Giving.{apart_below}
use Rattle.router_laws.specs.wakes.Calling.{Caller, CallerGoesOn}

abbrev pub OthersStay : ClientNo → (old new : Tabled) → Type 0
OthersStay c old new = (other : ClientNo) → nat_eq c.0 other.0 ≡ false → new.clients other ≡ old.clients other

same_stay : (c : ClientNo) (old mid new : Tabled) → IsSame new mid → OthersStay c old mid → OthersStay c old new
same_stay c old mid new same stay = λ other apart. same.clients other ∙ stay other apart

stay_along : (c : ClientNo) (old mid new : Tabled) → OthersStay c old mid → OthersStay c mid new → OthersStay c old new
stay_along c old mid new first next = λ other apart. next other apart ∙ first other apart

still_stay : (c : ClientNo) (old new : Tabled) → IsSame new old → OthersStay c old new
still_stay c old new same = λ other apart. same.clients other

put_stay : (c : ClientNo) (row : Option Client) (t : Tabled) → OthersStay c t (client_put c row t)
put_stay c row t = λ other apart. ap (λ (b : Bool). if b then row else t.clients other) apart

changed_stay : (c : ClientNo) (by : Client → Client) (t new : Tabled) → IsSame new (client_changed c by t) → OthersStay c t new
changed_stay c by t new same = same_stay c t (client_changed c by t) new same (put_stay c (option_map by (t.clients c)) t)

left_stay : (c : ClientNo) (by : Seat → Seat) (t : Tabled) → OthersStay c t (left_in c by t)
left_stay c by t = at (t.clients c) where
  at : (found : Option Client)
      → OthersStay c t (option_map_or (λ (row : Client). client_put c (Some (left_row by row)) (parted_in row.desk.sessions t)) found t)
  at None = λ other apart. refl
  at (Some row) = λ other apart. ap (λ (b : Bool). if b then Some (left_row by row) else t.clients other) apart

leaves_stay : (c : ClientNo) (old new : Tabled) → LeavesThere c old new → OthersStay c old new
leaves_stay c old new leaves = same_stay c old (left_in c ended old) new leaves.same (left_stay c ended old)

-- Its turns, and its end behind them.

turn_stay : (setup : Setup) (default : List ℕ) (c : ClientNo) (choice : Choice) (old new : Tabled) → IsTurn choice setup default c old new
    → OthersStay c old new
turn_stay setup default c (Goes route keyed) old new is =
    stay_along c old is.between new (changed_stay c (seated (turn setup default)) old is.between is.up.same)
    (changed_stay c (goes is.flag is.work is.statements) is.between new is.same)
turn_stay setup default c (Answers payloads) old new is =
    stay_along c old is.between new (changed_stay c (seated (turn setup default)) old is.between is.up.same) (by (is_reset is.up.message) is.makes) where
      by : (anew : Bool) → MakesAnswer anew c is.flag is.packets is.statements is.up.row is.between new → OthersStay c is.between new
      by true makes =
          stay_along c is.between (left_in c (λ (seat : Seat). seat) is.between) new (left_stay c (λ (seat : Seat). seat) is.between)
          (changed_stay c (answers is.flag is.packets is.statements) (left_in c (λ (seat : Seat). seat) is.between) new makes.1)
      by false same = changed_stay c (answers is.flag is.packets is.statements) is.between new same

halt_stay : (setup : Setup) (default : List ℕ) (c : ClientNo) (halt : Halt) (old new : Tabled) → HaltsSo halt setup default c old new
    → OthersStay c old new
halt_stay setup default c Waits old new is = still_stay c old new is.same
halt_stay setup default c Rests old new is = changed_stay c (seated (turn setup default)) old new is.same
halt_stay setup default c Quits old new is =
    stay_along c old is.between new (changed_stay c (seated (turn setup default)) old is.between is.up.same)
    (stay_along c is.between (left_in c ended is.between) new (left_stay c ended is.between)
    (changed_stay c (passes is.flag is.statements) (left_in c ended is.between) new is.same))
halt_stay setup default c Ends old new is = same_stay c old (left_in c (turn setup default) old) new is.same (left_stay c (turn setup default) old)

turns_stay : (setup : Setup) (default : List ℕ) (c : ClientNo) (choices : List Choice) (halt : Halt) (old new : Tabled)
    → Turns choices halt setup default c old new → OthersStay c old new
turns_stay setup default c [] halt old new is = halt_stay setup default c halt old new is
turns_stay setup default c (choice ∷ others) halt old new is =
    stay_along c old is.0 new (turn_stay setup default c choice old is.0 is.1) (turns_stay setup default c others halt is.0 new is.2)

parts_stay : (c : ClientNo) (parting : Parting) (old new : Tabled) → PartsSo parting c old new → OthersStay c old new
parts_stay c Stays old new is = still_stay c old new is
parts_stay c Leaves old new is = leaves_stay c old new is
parts_stay c (Tells payload) old new is =
    stay_along c old is.between new (changed_stay c (seated (with_word payload is.told.client)) old is.between is.told.same)
    (leaves_stay c is.between new is.leaves)

caller_stays : (setup : Setup) (default : List ℕ) (k : Caller) (old new : Tabled) → CallerGoesOn setup default k old new
    → OthersStay k.client old new
caller_stays setup default k old new is =
    stay_along k.client old is.turned new (turns_stay setup default k.client k.choices k.halt old is.turned is.turns)
    (parts_stay k.client k.parting is.turned new is.parts)

-- those who come behind it are as before
pub still_same : (setup : Setup) (default : List ℕ) (k : Caller) (first old new : Tabled) → CallerGoesOn setup default k old new
    → (clients : List ClientNo) → All (λ (other : ClientNo). k.client.0 < other.0) clients
    → All (λ (c : ClientNo). old.clients c ≡ first.clients c) clients → All (λ (c : ClientNo). new.clients c ≡ first.clients c) clients
still_same setup default k first old new is clients behind same = λ at d within.
    caller_stays setup default k old new is (get_or clients at d)
    (apart_below k.client.0 (get_or clients at d).0 (behind at d within)) ∙ same at d within
