-- What is made of a client's row as it speaks, and as its link is lost.
use Rattle.std.specs.Prelude.{◌≡◌, ◌⊎◌, ◌<◌, ◌^◌, ◌&&◌, ◌||◌, ℕ, suc, not, Bool, true, false, All, find, is_some, nat_eq, unwrap_or, if◌then◌else◌, List, [], ◌∷◌, Option, Some, None}
use Rattle.std.specs.Option.{option_map, option_map_or}
use Rattle.std.proofs.Common.{refl, sym, ap, ◌∙◌, subst, arith, inl, inr}
use Rattle.std.proofs.lemmas.Bool.{true≢false}
use Rattle.std.proofs.lemmas.List.Elements.{All-cons, All-head, All-map, All-nil, All-tail}
use Rattle.std.proofs.lemmas.Option.{none-some}
use Rattle.mx_base.specs.declared.names.ClientNo.{ClientNo}
use Rattle.mx_base.specs.declared.names.Hostgroup.{Hostgroup}
use Rattle.mx_base.specs.declared.names.LinkId.{LinkId}
use Rattle.private_model.proofs.Maps.{same_number}
use Rattle.session_state.specs.declared.names.SessionName.{SessionName}
use Rattle.server_side.specs.Account.{Account}
use Rattle.client_desk.specs.Desks.{session_of}
use Rattle.client_desk.specs.Sessions.{first_session, is_in, next_session, next_sessions, put_in, session_in, unhomed}
use Rattle.client_desk.specs.declared.session.Session.{Session}
use Rattle.client_seat.specs.Seats.{account_in, got, got_in, is_ended}
use Rattle.client_seat.specs.Takings.{begun_anew}
use Rattle.client_seat.specs.declared.phase.Phase.{Phase}
use Rattle.client_seat.specs.declared.phase.Phase.TheVariants as phase
use Rattle.client_seat.specs.declared.seat.Seat.{Seat}
use Rattle.core_service.specs.declared.service.Service.{Service}
use Rattle.core_tables.specs.Arrivals.{seated, spoke}
use Rattle.core_tables.specs.Parting.{changed_for, freed_in, freed_of, freed_row, is_done_in, left_in, left_row, parted_in, present_in}
use Rattle.core_tables.specs.Tables.{IsSame, Tabled, client_put}
use Rattle.core_tables.specs.declared.client.Client.{Client}
use Rattle.core_laws.specs.entry.Freeing.{all_freed}
use Rattle.core_laws.specs.clients.Follows.{AreHomesOf, LeavesThere}
use Rattle.core_laws.specs.clients.Going.{is_going}
use Rattle.core_laws.specs.clients.Turns.{MayLeave}
use Rattle.router_laws.specs.clients.Leaves.{LeavesAgain, is_at_rest}
use Rattle.router_laws.specs.clients.Plans.{nobody}
use Rattle.router_laws.specs.clients.Speaks.{IsLinkOf, next_ordinal}
use Rattle.router_laws.specs.wakes.Calling as calling
use Rattle.core_texts.specs.declared.texts.Texts.{Texts}
use Rattle.shared_core.specs.Clients.{HasLeftAtOnce, HasLeftGoing, HasRow, HasSpoken, IsBusy}
use Rattle.shared_core.proofs.Partings.{part-weaker}
use Rattle.shared_core.specs.Follows.{HasFollowed, HasGone, Made, is_of}
use Rattle.shared_core.specs.Rows.{HasLives}

put_same : (c : ClientNo) (row : Option Client) (t : Tabled) → (client_put c row t).clients c ≡ row
put_same c row t = ap (λ (b : Bool). if b then row else t.clients c) (same_number c.0)

-- It spoke.

pub not_there : (c : ClientNo) (row : Client) (t : Tabled) (b : Bool) → b ≡ is_going (t.clients c) → b ≡ false → t.clients c ≡ Some row
    → is_ended row.desk.seat.phase ≡ false → ⊥
not_there c row t b is gone there going =
    let goes : b ≡ true = is ∙ ap is_going there ∙ ap not going in true≢false (sym goes ∙ gone)

got_phase : (at : Phase) (bytes : List ℕ) (seat : Seat) → (got_in at bytes seat).phase ≡ seat.phase
got_phase phase.LoggingIn bytes seat = refl
got_phase (phase.Serving account) bytes seat = refl
got_phase phase.Ended bytes seat = refl

pub spoken : (service : Service) (made : Made) (link : LinkId) (bytes : List ℕ) (c : ClientNo) (t heard new : Tabled) → IsSame heard (spoke c bytes t)
    → (is_going (heard.clients c) ≡ true → HasFollowed service made c false heard new) → (row : Client) → IsLinkOf link c row t
    → is_ended row.desk.seat.phase ≡ false → HasSpoken service made link bytes c t new
spoken service made link bytes c t heard new hears follows row its going =
    let row_then : heard.clients c ≡ Some (seated (got bytes) row) =
    hears.clients c ∙ put_same c (option_map (seated (got bytes)) (t.clients c)) t ∙ ap (option_map (seated (got bytes))) its.there in
    let goes : is_going (heard.clients c) ≡ true =
    ap is_going row_then ∙ ap not (ap is_ended (got_phase row.desk.seat.phase bytes row.desk.seat) ∙ going) in
    let followed : HasFollowed service made c false heard new = follows goes in
    record {
      ordinal = next_ordinal row;
      choices = followed.choices;
      halt = followed.halt;
      parting = followed.parting;
      links = followed.links;
      ours = followed.ours;
      word = followed.word;
      parted = part-weaker service.buffer_budget (false ≡ true) ⊥ (λ no. true≢false (sym no)) followed.parting followed.why;
      so = record {
        row = row;
        its = its;
        next = refl;
        going = going;
        heard = heard;
        hears = hears;
        follows = followed.follows;
      };
      ruled = followed.ruled;
    }

-- Its link is lost.

pub busy_by : (row : Client) → is_at_rest row ≡ false → (row.desk.seat.answered ≡ false) ⊎ (account_in row.desk.seat.phase ≡ None)
busy_by row is = by (account_in row.desk.seat.phase) refl is where
  by : (found : Option Account) → account_in row.desk.seat.phase ≡ found → (is_some found && row.desk.seat.answered) ≡ false
      → (row.desk.seat.answered ≡ false) ⊎ (account_in row.desk.seat.phase ≡ None)
  by None at is = inr at
  by (Some account) at is = inl is

pub lives_of : (c : ClientNo) (t : Tabled) (row other : Client) → Some row ≡ t.clients c → HasLives row.desk → t.clients c ≡ Some other
    → HasLives other.desk
lives_of c t row other is lives there =
    subst (λ (r : Client). HasLives r.desk) (let both : Some row ≡ Some other = is ∙ there in let same : row ≡ other = cc in same) lives

once_leaves : (row : Client) → HasLives row.desk → MayLeave row
once_leaves row lives h = let twice : suc (suc (session_of row.desk h).life) < 2 ^ 64 = lives h in omega (arith, twice)

pub left_again : (link : LinkId) (c : ClientNo) (t new : Tabled) → t.numbers link ≡ Some c
    → (has : HasRow (λ (row : Client). is_ended row.desk.seat.phase ≡ true) c t) → HasLives has.row.desk
    → IsSame new (left_in c (λ (seat : Seat). seat) t) → LeavesAgain link c t new
left_again link c t new numbered has lives same = record {
  row = has.row;
  its = record { numbered = numbered; there = has.there };
  over = has.is;
  lives = once_leaves has.row lives;
  same = same;
}

its_homes : (c : ClientNo) (row : Client) (links : List LinkId) (t : Tabled) → t.clients c ≡ Some row → calling.AreHomesOf (is_of (c ∷ [])) links t
    → AreHomesOf c links t
its_homes c row links t there homes = record {
  row = row;
  there = there;
  homes = λ h l at known. homes.homes c row h l (ap (λ (b : Bool). b || false) (same_number c.0)) there at known;
  known = homes.known;
  rising = homes.rising;
}

same_rows : (c : ClientNo) (a b : Client) (t : Tabled) → t.clients c ≡ Some a → t.clients c ≡ Some b → a ≡ b
same_rows c a b t one other = let both : Some a ≡ Some b = sym one ∙ other in cc

with_nobody : (c : ClientNo) (row : Client) → (row.desk.seat.answered ≡ false) ⊎ (account_in row.desk.seat.phase ≡ None)
    → (row.desk.seat.answered ≡ false) ⊎ ((account_in row.desk.seat.phase ≡ None) × (nobody c ≡ false))
with_nobody c row (inl waits) = inl waits
with_nobody c row (inr fresh) = inr (fresh, refl)

pub left_at_once : (link : LinkId) (c : ClientNo) (links : List LinkId) (t left between new : Tabled) → t.numbers link ≡ Some c
    → HasRow IsBusy c t → calling.AreHomesOf (is_of (c ∷ [])) links t → LeavesThere c t left → IsSame between (all_freed links left)
    → LeavesThere c between new → HasLeftAtOnce link c t new
left_at_once link c links t left between new numbered has homes leaves freed again = record {
  links = links;
  so = record {
    row = has.row;
    its = record { numbered = numbered; there = has.there };
    going = has.is.going;
    busy = with_nobody c has.row has.is.busy;
    between = between;
    ends = record {
      lives = subst MayLeave (same_rows c leaves.row has.row t leaves.there has.there) leaves.lives;
      homes = its_homes c has.row links t has.there homes;
      left = left;
      leaves = leaves.same;
      freed = freed;
    };
    again = again;
  };
}

-- Behind its first leave it has no homes, and links that are given back leave it so.

abbrev Homeless : Session → Type 0
Homeless s = s.home ≡ None

next_homeless : (rows : List Session) → All Homeless (next_sessions rows)
next_homeless rows = All-map Homeless next_session rows (λ k d within. refl)

put_homeless : (rows : List Session) (s : Session) → Homeless s → All Homeless rows → All Homeless (put_in rows s)
put_homeless [] s is all = All-nil Homeless
put_homeless (row ∷ rows) s is all = by (is_in s.hostgroup row) (put_homeless rows s is (All-tail Homeless row rows all)) where
  by : (b : Bool) → All Homeless (put_in rows s) → All Homeless (if b then s ∷ rows else row ∷ put_in rows s)
  by true later = All-cons Homeless s rows is (All-tail Homeless row rows all)
  by false later = All-cons Homeless row (put_in rows s) (All-head Homeless row rows all) later

in_homeless : (lefts : ℕ) (rows : List Session) (h : Hostgroup) → All Homeless rows → (session_in lefts rows h).home ≡ None
in_homeless lefts [] h all = refl
in_homeless lefts (row ∷ rows) h all = by (is_in h row) (in_homeless lefts rows h (All-tail Homeless row rows all)) where
  by : (b : Bool) → (session_in lefts rows h).home ≡ None
      → (unwrap_or (if b then Some row else find (is_in h) rows) (first_session h lefts)).home ≡ None
  by true later = All-head Homeless row rows all
  by false later = later

record IsHomeless (c : ClientNo) (seat : Seat) (t : Tabled) : Type 0 where
  pub row : Client
  pub there : t.clients c ≡ Some row
  pub seat_is : row.desk.seat ≡ seat
  pub homeless : All Homeless row.desk.sessions

freed_there : (c : ClientNo) (seat : Seat) (n : Option SessionName) (t : Tabled) (is : IsHomeless c seat t)
    → (row : Client) × (changed_for freed_row n c (t.clients c) ≡ Some row) × (row.desk.seat ≡ seat) × All Homeless row.desk.sessions
freed_there c seat None t is = (is.row, is.there, is.seat_is, is.homeless)
freed_there c seat (Some n) t is = by (nat_eq n.client.0 c.0) where
  by : (b : Bool) → (row : Client) × ((if b then option_map (freed_row n.hostgroup) (t.clients c) else t.clients c) ≡ Some row) × (row.desk.seat ≡ seat)
      × All Homeless row.desk.sessions
  by true = (
    freed_row n.hostgroup is.row,
    ap (option_map (freed_row n.hostgroup)) is.there,
    is.seat_is,
    put_homeless is.row.desk.sessions (unhomed (session_of is.row.desk n.hostgroup)) refl is.homeless,
  )
  by false = (is.row, is.there, is.seat_is, is.homeless)

freed_one : (c : ClientNo) (seat : Seat) (l : LinkId) (t : Tabled) → IsHomeless c seat t → IsHomeless c seat (freed_in l t)
freed_one c seat l t is = by (is_done_in l t) where
  by : (b : Bool) → IsHomeless c seat (if b then freed_of l t else t)
  by true =
      let found = freed_there c seat (present_in l t) t is in
      record { row = found.0; there = found.1; seat_is = found.2; homeless = found.3 }
  by false = is

freed_all : (c : ClientNo) (seat : Seat) (links : List LinkId) (t : Tabled) → IsHomeless c seat t → IsHomeless c seat (all_freed links t)
freed_all c seat [] t is = is
freed_all c seat (l ∷ links) t is = freed_all c seat links (freed_in l t) (freed_one c seat l t is)

same_homeless : (c : ClientNo) (seat : Seat) (t now : Tabled) → IsSame now t → IsHomeless c seat t → IsHomeless c seat now
same_homeless c seat t now same is = record { row = is.row; there = same.clients c ∙ is.there; seat_is = is.seat_is; homeless = is.homeless }

left_homeless : (c : ClientNo) (row : Client) (t : Tabled) → t.clients c ≡ Some row → IsHomeless c (begun_anew row.desk.seat) (left_in c begun_anew t)
left_homeless c row t there = record {
  row = left_row begun_anew row;
  there = ap (λ (found : Option Client).
      (option_map_or (λ (r : Client). client_put c (Some (left_row begun_anew r)) (parted_in r.desk.sessions t)) found t).clients c) there
      ∙ put_same c (Some (left_row begun_anew row)) (parted_in row.desk.sessions t);
  seat_is = refl;
  homeless = next_homeless row.desk.sessions;
}

serves : (at : Phase) (b : Bool) → (is_some (account_in at) && b) ≡ true → is_ended at ≡ false
serves phase.LoggingIn b is = refl
serves (phase.Serving account) b is = refl
serves phase.Ended b is = absurd (true≢false (sym is))

pub left_going : (service : Service) (made : Made) (link : LinkId) (c : ClientNo) (links : List LinkId) (t left between new : Tabled) → t.numbers link ≡ Some c
    → (has : HasRow (λ (row : Client). is_at_rest row ≡ true) c t) → HasLives has.row.desk → calling.AreHomesOf (is_of (c ∷ [])) links t
    → IsSame left (left_in c begun_anew t) → IsSame between (all_freed links left)
    → (is_going (between.clients c) ≡ true → HasGone service made c true between new) → HasLeftGoing service made link c t new
left_going service made link c links t left between new numbered has lives homes leaves freed goes =
    let row : Client = has.row in
    let there : t.clients c ≡ Some row = has.there in
    let rests : is_at_rest row ≡ true = has.is in
    let then_on : IsHomeless c (begun_anew row.desk.seat) between =
    same_homeless c (begun_anew row.desk.seat) (all_freed links left) between freed
    (freed_all c (begun_anew row.desk.seat) links left
    (same_homeless c (begun_anew row.desk.seat) (left_in c begun_anew t) left leaves (left_homeless c row t there))) in
    let going : is_going (between.clients c) ≡ true =
    ap is_going then_on.there ∙ ap (λ (seat : Seat). not (is_ended seat.phase)) then_on.seat_is
    ∙ ap not (serves row.desk.seat.phase row.desk.seat.answered rests) in
    let gone : HasGone service made c true between new = goes going in
    record {
      links = links;
      ordinal = next_ordinal row;
      choices = gone.choices;
      halt = gone.halt;
      parting = gone.parting;
      ours = gone.ours;
      word = gone.word;
      so = record {
        row = row;
        its = record { numbered = numbered; there = there };
        next = refl;
        rests = rests;
        between = between;
        leaves = record {
          lives = once_leaves row lives;
          homes = its_homes c row links t there homes;
          left = left;
          leaves = leaves;
          freed = freed;
        };
        follows = record {
          homes = record {
            row = then_on.row;
            there = then_on.there;
            homes = λ h l at known.
                absurd (none-some l (sym (in_homeless then_on.row.desk.lefts then_on.row.desk.sessions h then_on.homeless) ∙ at));
            known = All-nil (λ (l : LinkId). is_some (between.links l) ≡ true);
            rising = tt;
          };
          turned = gone.goes.turned;
          turns = gone.goes.turns;
          once = gone.goes.once;
          parted = new;
          parts = gone.goes.parts;
          freed = record { clients = λ x. refl; links = λ l. refl; numbers = λ l. refl };
        };
        ends = gone.ended refl;
      };
      ruled = gone.ruled;
    }
