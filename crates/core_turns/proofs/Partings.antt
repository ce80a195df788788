-- All turns of a client, and what it leaves.
use Rattle.std.specs.Prelude.{◌≡◌, ℕ, Bool, true, false, nat_eq, if◌then◌else◌, All, IsSome, List, [], ◌∷◌, ◌++◌, Option, Some, None}
use Rattle.std.specs.Option.{option_map, option_map_or}
use Rattle.std.proofs.Common.{refl, sym, ap, subst, append_assoc}
use Rattle.std.proofs.lemmas.List.Elements.{All-append, All-nil, All-push, All-weaker}
use Rattle.mx_base.specs.declared.names.ClientNo.{ClientNo}
use Rattle.mx_base.specs.declared.names.LinkId.{LinkId}
use Rattle.packet_frame.specs.Packets.{Framed}
use Rattle.core_promises.specs.Judges.{Rulebook}
use Rattle.core_promises.specs.Administers.{Administered}
use Rattle.core_promises.specs.Ruled.{Ruling, from}
use Rattle.server_side.specs.Account.{Account}
use Rattle.handshake.specs.declared.response.Response.{Response}
use Rattle.client_session.specs.Accounts.{account_of}
use Rattle.client_session.specs.Setups.{Setup as Service, users_at}
use Rattle.client_side.specs.Client.{login_of}
use Rattle.client_side.specs.Steps as steps
use Rattle.client_side.specs.declared.step.ClientStep.{ClientStep}
use Rattle.client_side.specs.declared.step.ClientStep.TheVariants as says
use Rattle.client_seat.specs.Seats.{ended, has_room}
use Rattle.client_seat.specs.Turns as seats
use Rattle.client_seat.specs.Turns.{Turn, admitted, comes_up, logs_in_as, logs_in_if, looks_in, message_by, message_found, next_message, rests, stepped_in, turned, turned_in}
use Rattle.client_seat.specs.declared.next.Next.TheVariants as next
use Rattle.client_seat.specs.declared.phase.Phase.{Phase}
use Rattle.client_seat.specs.declared.phase.Phase.TheVariants as phase
use Rattle.client_seat.specs.declared.seat.Seat.{Seat}
use Rattle.client_desk.specs.declared.session.Session.{Session}
use Rattle.core_tables.specs.Arrivals.{seated, turn}
use Rattle.core_tables.specs.Leaving as leaving
use Rattle.core_tables.specs.Parting.{kept_at, left_in, left_row, parted_in, with_kept}
use Rattle.core_tables.specs.Tables.{IsSame, Tabled, client_put, tables_of}
use Rattle.core_tables.specs.Taking.{IsUpOr}
use Rattle.core_tables.specs.declared.client.Client.{Client}
use Rattle.core_laws.specs.clients.Turns.{Choice, EndsThere, Halt, QuitsThere}
use Rattle.core_texts.specs.Texts.{AreMore}
use Rattle.core_texts.specs.declared.texts.Texts.{Texts}
use Rattle.marked_tables.specs.Goes.{GoesOn}
use Rattle.marked_tables.specs.declared.marked.MarkedTables.{MarkedTables}
use Rattle.marked_tables.proofs.Going.{goes_along, still_goes}
use Rattle.core_turns.specs.Turned.{HasChosen, HasGone, IsRuledTurn, IsSaid, IsToEnd, IsToQuit, MayLeaveBy, RuledTurns, StopsSo, TurnsUntil, halt_of, is_away}
use Rattle.core_turns.specs.declared.turn.Stop.{Stop}
use Rattle.core_turns.specs.declared.turn.Stop.TheVariants as stops
use Rattle.core_turns.proofs.Keys.{more_along, more_said, ruled_by, same_said, same_texts, turn_more}
use Rattle.core_turns.proofs.Turning.{both-same, chosen-some, not-away, seated-there}

-- Who is told at a look that it ends has ended.

abbrev EndsSo : Turn → Type 0
EndsSo turns = turns.next ≡ next.Ended → ended turns.seat ≡ turns.seat

rests-so : (seat : Seat) → EndsSo (rests seat)
rests-so seat is = absurd (let e = is in cc)

up-so : (ordinal first : ℕ) (seat : Seat) → EndsSo (comes_up ordinal first seat)
up-so ordinal first seat = by (has_room seat) where
  by : (room : Bool) → EndsSo (if room then record { seat = record seat { first = first }; next = next.Message ordinal } else rests seat)
  by true is = absurd (let e = is in cc)
  by false is = rests-so seat is

message-so : (limit : ℕ) (step : ClientStep) (seat : Seat) → EndsSo (message_by limit step seat)
message-so limit (says.Message ordinal first) seat = up-so ordinal first seat
message-so limit (says.Refused first fault) seat = λ is. refl
message-so limit says.Nothing seat = rests-so seat
message-so limit (says.Login first) seat = rests-so seat

next-so : (limit : ℕ) (seat : Seat) → EndsSo (next_message limit seat)
next-so limit seat = by seat.answered where
  by : (answered : Bool) → EndsSo (if answered then message_found limit (steps.next_of seat.client.stage seat.client) seat else rests seat)
  by true = message-so limit (steps.next_of seat.client.stage seat.client).step _
  by false = rests-so seat

login-so : (account : Option Account) (setup : Service) (default : List ℕ) (response : Response) (first : ℕ) (seat : Seat)
    → EndsSo (logs_in_as account setup default response first seat)
login-so None setup default response first seat = λ is. refl
login-so (Some account) setup default response first seat = next-so setup.limit (admitted default account response first seat)

if-so : (setup : Service) (default : List ℕ) (response : Option Response) (first : ℕ) (seat : Seat) → EndsSo (logs_in_if setup default response first seat)
if-so setup default None first seat = rests-so seat
if-so setup default (Some response) first seat = login-so (account_of (users_at setup seat.port) seat.client.salt response) setup default response first seat

looks-so : (setup : Service) (default : List ℕ) (step : ClientStep) (seat : Seat) → EndsSo (looks_in setup default step seat)
looks-so setup default (says.Login first) seat = if-so setup default (login_of seat.client.stage) first seat
looks-so setup default (says.Refused first fault) seat = λ is. refl
looks-so setup default says.Nothing seat = rests-so seat
looks-so setup default (says.Message ordinal first) seat = rests-so seat

phase-so : (at : Phase) (setup : Service) (default : List ℕ) (seat : Seat) → EndsSo (turned_in at setup default seat)
phase-so phase.LoggingIn setup default seat =
    let found : seats.LoginStep = stepped_in (steps.next_of seat.client.stage seat.client) seat in
    looks-so setup default found.step found.seat
phase-so (phase.Serving account) setup default seat = next-so setup.limit seat
phase-so phase.Ended setup default seat = rests-so seat

ended-turn : (setup : Service) (default : List ℕ) (seat : Seat) → (turned setup default seat).next ≡ next.Ended
    → ended (turn setup default seat) ≡ turn setup default seat
ended-turn setup default seat is = phase-so seat.phase setup default seat is

-- It leaves.

abbrev left_by : ClientNo → (Seat → Seat) → Tabled → Option Client → Tabled
left_by c by t found = option_map_or (λ (row : Client). client_put c (Some (left_row by row)) (parted_in row.desk.sessions t)) found t

left-is : (c : ClientNo) (by : Seat → Seat) (t : Tabled) (row : Client) → t.clients c ≡ Some row
    → left_in c by t ≡ client_put c (Some (left_row by row)) (parted_in row.desk.sessions t)
left-is c by t row there = ap (left_by c by t) there

put-same : (c : ClientNo) (row : Option Client) (sessions : List Session) (a b : Tabled) → ((x : ClientNo) → (if nat_eq c.0 x.0 then row else a.clients x) ≡ (if nat_eq c.0 x.0 then row else b.clients x))
    → ((l : LinkId) → a.numbers l ≡ b.numbers l) → ((l : LinkId) → a.links l ≡ b.links l)
    → IsSame (client_put c row (parted_in sessions a)) (client_put c row (parted_in sessions b))
put-same c row sessions a b clients numbers links = record {
  clients = clients;
  numbers = numbers;
  links = λ at. ap (option_map (with_kept (kept_at at sessions))) (links at);
}

-- a change of its own row is gone with the row
under : (c x : ClientNo) (row : Option Client) (by : Client → Client) (t now : Tabled) → now.clients x ≡ (if nat_eq c.0 x.0 then option_map by (t.clients c) else t.clients x)
    → (if nat_eq c.0 x.0 then row else now.clients x) ≡ (if nat_eq c.0 x.0 then row else t.clients x)
under c x row by t now is = at (nat_eq c.0 x.0) is where
  at : (here : Bool) → now.clients x ≡ (if here then option_map by (t.clients c) else t.clients x) → (if here then row else now.clients x) ≡ (if here then row else t.clients x)
  at true e = refl
  at false e = e

ends-so : (service : Service) (default : List ℕ) (c : ClientNo) (old now new : Tabled) → IsToEnd service default c old now
    → IsSame new (left_in c ended now) → EndsThere service default c old new
ends-so service default c old now new is same = record {
  row = is.row;
  looks = is.looks;
  lives = is.lives;
  same = both-same (subst (IsSame new) now-is same) (subst (IsSame made) (sym (left-is c (turn service default) old is.row is.looks.there)) put);
}
  where
    after : Client
    after = seated (turn service default) is.row

    made : Tabled
    made = client_put c (Some (left_row ended after)) (parted_in is.row.desk.sessions now)

    now-is : left_in c ended now ≡ made
    now-is = left-is c ended now after (seated-there service default c old now is.row is.looks.there is.same)

    seat-is : left_row ended after ≡ left_row (turn service default) is.row
    seat-is = ap (λ (seat : Seat). left_row (λ (s : Seat). seat) is.row) (ended-turn service default is.row.desk.seat is.looks.says)

    put : IsSame made (client_put c (Some (left_row (turn service default) is.row)) (parted_in is.row.desk.sessions old))
    put =
        subst (λ (r : Client). IsSame made (client_put c (Some r) (parted_in is.row.desk.sessions old))) seat-is
        (put-same c (Some (left_row ended after)) is.row.desk.sessions now old
        (λ x. under c x (Some (left_row ended after)) (seated (turn service default)) old now (is.same.clients x))
        is.same.numbers is.same.links)

quits-so : (service : Service) (default : List ℕ) (c : ClientNo) (flag : ℕ) (old now new : Tabled) → IsToQuit service default c old now
    → leaving.Quits flag c now new → QuitsThere service default c old new
quits-so service default c flag old now new is quits = record {
  between = now;
  up = is.up;
  flag = flag;
  statements = quits.statements;
  quits_only = is.quits_only;
  lives = is.lives;
  same = quits.same;
}

-- All turns, with what is left behind them.

abbrev pub LeavesBy : Stop → ClientNo → (now new : Tabled) → Type 0
LeavesBy stops.Waits c now new = IsSame new now
LeavesBy stops.Rests c now new = IsSame new now
LeavesBy stops.Ends c now new = IsSame new (left_in c ended now)
LeavesBy (stops.Quits flag) c now new = leaving.Quits flag c now new

module _ (service : Service) (default : List ℕ) (c : ClientNo) where
  pub leaves-so : (ruling : Ruling) (stop : Stop) (choices : List Choice) (old now new : Tabled) → LeavesBy stop c now new
      → TurnsUntil ruling choices (halt_of stop) service default c old now → RuledTurns ruling choices (halt_of stop) service default c old new
  unfolding quits-so
  leaves-so ruling stop (choice ∷ others) old now new leaves is =
      let rest : RuledTurns (from ruling is.1) others (halt_of stop) service default c is.0 new =
      leaves-so (from ruling is.1) stop others is.0 now new leaves is.2.1 in
      ((is.0, is.2.0.0, rest.0), (is.1, (is.2.0.1, rest.1)))
  leaves-so ruling stops.Waits [] old now new leaves is =
      (record { row = is.0.row; there = is.0.there; waits = is.0.waits; same = both-same leaves is.0.same }, (tt, is.1))
  leaves-so ruling stops.Rests [] old now new leaves is = (record { row = is.0.row; looks = is.0.looks; same = both-same leaves is.0.same }, (tt, is.1))
  leaves-so ruling stops.Ends [] old now new leaves is = (ends-so service default c old now new is.0 leaves, (tt, is.1))
  leaves-so ruling (stops.Quits flag) [] old now new leaves is = (quits-so service default c flag old now new is.0 leaves, (is.0.says, is.1))

  -- a message is up where it quits
  pub may-leave : (ruling : Ruling) (stop : Stop) (choices : List Choice) (old now : Tabled) → TurnsUntil ruling choices (halt_of stop) service default c old now
      → MayLeaveBy stop (now.clients c)
  may-leave ruling stop (choice ∷ others) old now is = may-leave (from ruling is.1) stop others is.0 now is.2.1
  may-leave ruling stops.Waits [] old now is = tt
  may-leave ruling stops.Rests [] old now is = tt
  may-leave ruling stops.Ends [] old now is = tt
  may-leave ruling (stops.Quits flag) [] old now is =
      subst IsUpOr (sym (seated-there service default c old now is.0.up.row is.0.up.looks.there is.0.up.same))
      (record { found = subst (λ (o : Option Framed). IsSome o) (sym is.0.up.found) refl; past_login = is.0.past_login })

-- Turns that are behind a client, whatever comes behind them, and whatever texts there are more by then.
pub record HasTurned (book : Rulebook) (texts : Texts) (was is : Administered) (service : Service) (default : List ℕ) (c : ClientNo) (old now : Tabled) : Type 0 where
  pub choices : List Choice
  pub said : All (IsSaid (ruled_by book texts was is) c) choices
  pub onward : (later : Texts) → AreMore texts later → (last : Administered) (others : List Choice) (halt : Halt) (new : Tabled)
      → TurnsUntil (ruled_by book later is last) others halt service default c now new
      → TurnsUntil (ruled_by book later was last) (choices ++ others) halt service default c old new

-- The loop's invariant, and what stands behind it.

pub record IsGoing (book : Rulebook) (first texts : Texts) (was is : Administered) (service : Service) (default : List ℕ) (c : ClientNo)
    (old now : MarkedTables) : Type 0 where
  pub turned : HasTurned book texts was is service default c (tables_of old.tables) (tables_of now.tables)
  pub there : IsSome ((tables_of now.tables).clients c)
  pub goes : GoesOn old now
  pub more : AreMore first texts

-- a turn that was made stands by more texts
more-turn : (book : Rulebook) (texts later : Texts) → AreMore texts later → (was is : Administered) (choice : Choice) (service : Service) (default : List ℕ)
    (c : ClientNo) (old new : Tabled) → IsRuledTurn (ruled_by book texts was is) choice service default c old new
    → IsRuledTurn (ruled_by book later was is) choice service default c old new
more-turn book texts later more was is choice service default c old new so =
    (so.0, turn_more book texts later more service default c was is choice old new so.0 so.1)

module _ (book : Rulebook) (service : Service) (default : List ℕ) (c : ClientNo) where
  none-turned : (texts : Texts) (was : Administered) (old : Tabled) → HasTurned book texts was was service default c old old
  none-turned texts was old =
      record { choices = []; said = All-nil (IsSaid (ruled_by book texts was was) c); onward = λ later more last others halt new so. so }

  one-more : (texts more : Texts) → AreMore texts more → (was is next : Administered) (old now later : Tabled)
      → HasTurned book texts was is service default c old now → HasChosen (ruled_by book more is next) service default c now later
      → HasTurned book more was next service default c old later
  one-more texts more comes was is next old now later turned chosen = record {
    choices = turned.choices ++ chosen.choice ∷ [];
    said = All-push (IsSaid (ruled_by book more was next) c) turned.choices chosen.choice
        (All-weaker (IsSaid (ruled_by book texts was is) c) (IsSaid (ruled_by book more was next) c)
        (λ choice said. more_said book texts more comes was is was next c choice said) turned.choices turned.said)
        (same_said book more is next was next c chosen.choice chosen.said);
    onward = λ last lasts end others halt new so.
        subst (λ (all : List Choice). TurnsUntil (ruled_by book last was end) all halt service default c old new)
        (sym (append_assoc turned.choices (chosen.choice ∷ []) others))
        (turned.onward last (more_along texts more last comes lasts) end (chosen.choice ∷ others) halt new
        (later, next, (more-turn book more last lasts is next chosen.choice service default c now later chosen.turns, so)));
  }

  pub begins : (texts : Texts) (was : Administered) (m : MarkedTables) → is_away ((tables_of m.tables).clients c) ≡ false
      → IsGoing book texts texts was was service default c m m
  begins texts was m going = record {
    turned = none-turned texts was (tables_of m.tables);
    there = not-away ((tables_of m.tables).clients c) going;
    goes = still_goes m;
    more = same_texts texts;
  }

  pub goes-on : (first texts more : Texts) (was is next : Administered) (old now later : MarkedTables)
      → IsGoing book first texts was is service default c old now
      → HasChosen (ruled_by book more is next) service default c (tables_of now.tables) (tables_of later.tables) → GoesOn now later → AreMore texts more
      → IsGoing book first more was next service default c old later
  goes-on first texts more was is next old now later going chosen goes comes = record {
    turned = one-more texts more comes was is next (tables_of old.tables) (tables_of now.tables) (tables_of later.tables) going.turned chosen;
    there = chosen-some (ruled_by book more is next) service default c (tables_of now.tables) (tables_of later.tables) chosen;
    goes = goes_along old now later going.goes goes;
    more = more_along first texts more going.more comes;
  }

  pub gone-so : (stop : Stop) (first texts more : Texts) (was is last : Administered) (old now new : MarkedTables)
      → is_away ((tables_of old.tables).clients c) ≡ false → IsGoing book first texts was is service default c old now → AreMore texts more
      → StopsSo (halt_of stop) service default c (tables_of now.tables) (tables_of new.tables) × (last ≡ is)
      → HasGone TurnsUntil stop (ruled_by book more was last) service default c (tables_of old.tables) (tables_of new.tables)
  gone-so stop first texts more was is last old now new present going comes so =
      let said : All (IsSaid (ruled_by book more was last) c) going.turned.choices =
      All-weaker (IsSaid (ruled_by book texts was is) c) (IsSaid (ruled_by book more was last) c)
      (λ choice said. more_said book texts more comes was is was last c choice said) going.turned.choices going.turned.said in
      record {
        going = present;
        choices = going.turned.choices ++ [];
        said = All-append (IsSaid (ruled_by book more was last) c) going.turned.choices [] said (All-nil (IsSaid (ruled_by book more was last) c));
        turned = going.turned.onward more comes last [] (halt_of stop) (tables_of new.tables) so;
      }

  pub gone-leaves : (texts : Texts) (was is : Administered) (stop : Stop) (old new : Tabled)
      → HasGone TurnsUntil stop (ruled_by book texts was is) service default c old new → MayLeaveBy stop (new.clients c)
  gone-leaves texts was is stop old new gone = may-leave service default c (ruled_by book texts was is) stop gone.choices old new gone.turned
