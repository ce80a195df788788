-- Each state that a tracker comes to is one from which a reply can go on.
use Rattle.std.proofs.Common.{◌≡◌, ◌≤◌, ◌<◌, ℕ, ◌+◌, ◌-◌, ◌*◌, Bool, true, false, cond, not, ◌&&◌, nat_le, nat_eq, Option, Some, None, List, [], ◌∷◌, length, refl, sym, subst, arith, lit<}
use Rattle.std.proofs.lemmas.Bool.{leb-true, leb-false}
use Rattle.packet_frame.specs.Packets.{longest}
use Rattle.packet_frame.specs.PacketLaws.{nat_eq-true, nat_eq-false}
use Rattle.reply_track.specs.declared.due.Due.{Due}
use Rattle.reply_track.specs.declared.due.Due.TheVariants.{Result as ResultDue, Answer, Listing, Definition, End, Row, Field}
use Rattle.reply_track.specs.declared.due.Next.{Next}
use Rattle.reply_track.specs.declared.due.Next.TheVariants.{Goes, Ends}
use Rattle.reply_track.specs.declared.head.Cell.TheVariants.{RowsFirst}
use Rattle.reply_track.specs.declared.head.Number.TheVariants.{Count, Statement}
use Rattle.reply_track.specs.declared.body.Body.{Body}
use Rattle.reply_track.specs.declared.body.Body.TheVariants.{Due as DueBody, Cell as CellBody, Number as NumberBody, Rest}
use Rattle.reply_track.specs.declared.place.Place.{Place}
use Rattle.reply_track.specs.declared.place.Place.TheVariants.{First, Second, Third, Id as IdPlace, Body as BodyPlace}
use Rattle.reply_track.specs.declared.place.State.{State}
use Rattle.reply_track.specs.declared.place.Outcome.{Outcome}
use Rattle.reply_track.specs.declared.place.Outcome.TheVariants.{On, Over, Wrong}
use Rattle.reply_track.specs.Steps.{next_id, step, taken, opened, opened_by, after_plain, rest_due, body_takes_low, body_takes_length, empty_body, empty_by, packet_ended, payload_by, number_of, count_taken, shifted, id_taken}
use Rattle.reply_track.proofs.Crossing.{mk, packet_at, packet-same, followed_at}
use Rattle.reply_track.proofs.Classed.{guarded, same_some}
use Rattle.reply_track.proofs.Inverse.{Opened, opened-by}
use Rattle.reply_track.proofs.Inverse.Opened.{ByErr, ByEof, ByOther}
use Rattle.reply_track.specs.Runs.{run, run_by}
use Rattle.reply_track.specs.Runs.Ending.{Going}
use Rattle.reply_track.proofs.Living.{Fits, FitsDue, IsAtHeader, LengthAt, IsAt, IsAlive, IsAliveAt, FitsAt, cell_fits, number_fits}
use Rattle.reply_track.specs.Steps.{low_taken, length_taken}

-- the first byte of a payload
plain_fits : (found : Option Due) (body : Body) (left : ℕ) → rest_due found ≡ Some body → Fits left body
plain_fits None body left is = absurd (cc)
plain_fits (Some due) body left is = subst (Fits left) (sym (same_some (Rest (Goes due)) body is)) tt

result_fits : (n b : ℕ) (body : Body) (p q r s t : Bool)
    → cond p (cond (nat_le 7 n) (Some (CellBody RowsFirst)) None) (cond q (cond (nat_eq n 1) (Some (count_taken b 0)) None) (cond r (cond (nat_eq n 3) (Some (number_of (Count 0) 2)) None) (cond s (cond (nat_eq n 4) (Some (number_of (Count 1) 2)) None) (cond t (cond (nat_eq n 9) (Some (number_of (Count 6) 2)) None) None)))) ≡ Some body → Fits (n - 1) body
result_fits n b body true q r s t is =
    let parts = guarded (nat_le 7 n) (CellBody RowsFirst) body is in
    let long : 6 ≤ n - 1 = omega (arith, leb-true 7 n parts.0) in
    subst (Fits (n - 1)) (sym parts.1) long
result_fits n b body false true r s t is = let parts = guarded (nat_eq n 1) (count_taken b 0) body is in subst (Fits (n - 1)) (sym parts.1) tt
result_fits n b body false false true s t is =
    let parts = guarded (nat_eq n 3) (number_of (Count 0) 2) body is in
    subst (Fits (n - 1)) (sym parts.1) (record { some = lit< tt; room = omega (arith, nat_eq-true n 3 parts.0) })
result_fits n b body false false false true t is =
    let parts = guarded (nat_eq n 4) (number_of (Count 1) 2) body is in
    subst (Fits (n - 1)) (sym parts.1) (record { some = lit< tt; room = omega (arith, nat_eq-true n 4 parts.0) })
result_fits n b body false false false false true is =
    let parts = guarded (nat_eq n 9) (number_of (Count 6) 2) body is in
    subst (Fits (n - 1)) (sym parts.1) (record { some = lit< tt; room = omega (arith, nat_eq-true n 9 parts.0) })
result_fits n b body false false false false false is = absurd (cc)

answer_fits : (n : ℕ) (body : Body) (p q : Bool) → nat_eq n 12 ≡ q → cond (p && q) (Some (number_of Statement 4)) None ≡ Some body → Fits (n - 1) body
answer_fits n body true true long is = subst (Fits (n - 1)) (sym (same_some (number_of Statement 4) body is)) (record { some = lit< tt; room = omega (arith, nat_eq-true n 12 long) })
answer_fits n body true false long is = absurd (cc)
answer_fits n body false q long is = absurd (cc)

other_fits : (due : Due) (n b : ℕ) (body : Body) → opened_by due n b ≡ Some body → Fits (n - 1) body
other_fits ResultDue n b body is = result_fits n b body (nat_eq b 0) (nat_le b 250) (nat_eq b 252) (nat_eq b 253) (nat_eq b 254) is
other_fits Answer n b body is = answer_fits n body (nat_eq b 0) (nat_eq n 12) refl is
other_fits Listing n b body is = plain_fits (after_plain Listing) body (n - 1) is
other_fits (Definition left behind) n b body is = plain_fits (after_plain (Definition left behind)) body (n - 1) is
other_fits (End behind) n b body is = absurd (cc)
other_fits Row n b body is = plain_fits (after_plain Row) body (n - 1) is
other_fits Field n b body is = plain_fits (after_plain Field) body (n - 1) is

open_fits : (due : Due) (n b : ℕ) (body : Body) → Opened due n b body → Fits (n - 1) body
open_fits due n b body (ByErr first may long is) = subst (Fits (n - 1)) (sym is) (record { some = lit< tt; room = omega arith })
open_fits due n b body (ByEof eof first least most may is) = subst (Fits (n - 1)) (sym is) (record { some = lit< tt; room = omega arith })
open_fits due n b body (ByOther no_err no_eof is) = other_fits due n b body is

opened_fits : (due : Due) (n b : ℕ) (found : Option Body) → opened due n b ≡ found → FitsAt (n - 1) found
opened_fits due n b None is = tt
opened_fits due n b (Some body) is = open_fits due n b body (opened-by due n b body is)

pub taken_fits : (body : Body) (left b : ℕ) → FitsDue left body → FitsAt (left - 1) (taken body left b)
taken_fits (DueBody due) left b fits = opened_fits due left b (opened due left b) refl
taken_fits (CellBody cell) left b fits = cell_fits cell left b fits
taken_fits (NumberBody field size value) left b fits = number_fits field size left (shifted value b) fits
taken_fits (Rest next) left b fits = tt

-- where a byte leads from a state that is alive
followed_alive : (server client number : ℕ) (next : Next) → server < 256 → IsAliveAt (followed_at server client number next)
followed_alive server client number (Goes due) small = record { small = small; at = tt }
followed_alive server client number (Ends end) small = tt

packet_alive : (server client number : ℕ) (long : Bool) (body : Body) → server < 256 → IsAliveAt (packet_at server client number long body)
packet_alive server client number true (Rest next) small = record { small = small; at = tt }
packet_alive server client number false (Rest next) small = followed_alive server client number next small
packet_alive server client number long (DueBody due) small = tt
packet_alive server client number long (CellBody cell) small = tt
packet_alive server client number long (NumberBody field size value) small = tt

pub fits_on : (left : ℕ) (body : Body) → Fits left body → FitsDue left body
fits_on left (Rest next) fits = tt
fits_on left (DueBody due) fits = absurd fits
fits_on left (CellBody cell) fits = fits
fits_on left (NumberBody field size value) fits = fits

body_alive : (server client number left : ℕ) (long : Bool) (body : Body) (found : Option Body) → server < 256 → FitsAt (left - 1) found → IsAliveAt (payload_by (mk server client number (BodyPlace left long) body) left long found)
body_alive server client number left long body None small fits = tt
body_alive server client number left long body (Some next) small fits = of (nat_le left 1) refl where
  of : (last : Bool) → nat_le left 1 ≡ last → IsAliveAt (cond last (packet_ended (mk server client number (BodyPlace left long) body) long next) (On (mk server client number (BodyPlace (left - 1) long) next)))
  of true last = rw (packet-same server client number (BodyPlace left long) body long next) (packet_alive server client number long next small)
  of false last = let more : 1 < left = leb-false left 1 last in record { small = small; at = record { some = omega arith; fits = fits_on (left - 1) next fits } }

low_alive : (server client number low : ℕ) (old place : Place) (body : Body) → server < 256 → IsAtHeader body → (body_takes_low body low ≡ true → IsAt place body) → IsAliveAt (low_taken (mk server client number old body) place low)
low_alive server client number low old place body small header at = of (body_takes_low body low) refl where
  of : (may : Bool) → body_takes_low body low ≡ may → IsAliveAt (cond may (On (mk server client number place body)) Wrong)
  of true may = record { small = small; at = at may }
  of false may = tt

length_alive : (server client number length : ℕ) (old : Place) (body : Body) → server < 256 → IsAtHeader body → IsAliveAt (length_taken (mk server client number old body) length)
length_alive server client number length old body small header = of (body_takes_length body length) refl where
  of : (may : Bool) → body_takes_length body length ≡ may → IsAliveAt (cond may (On (mk server client number (IdPlace length) body)) Wrong)
  of true may = record { small = small; at = record { header = header; takes = may } }
  of false may = tt

empty_alive : (server client number length : ℕ) (body : Body) (found : Option Body) → server < 256 → IsAliveAt (empty_by (mk server client number (IdPlace length) body) found)
empty_alive server client number length body None small = tt
empty_alive server client number length body (Some next) small = rw (packet-same server client number (IdPlace length) body false next) (packet_alive server client number false next small)

opens : (length : ℕ) (body : Body) → LengthAt body length → FitsDue length body
opens length (DueBody due) at = at.takes
opens length (Rest next) at = tt
opens length (CellBody cell) at = absurd at.header
opens length (NumberBody field size value) at = absurd at.header

id_alive : (server client number length b : ℕ) (body : Body) → server < 256 → LengthAt body length → IsAliveAt (id_taken (mk server client number (IdPlace length) body) length b)
id_alive server client number length b body small at = of (nat_eq b server) (nat_eq length 0) refl where
  of : (same none : Bool) → nat_eq length 0 ≡ none → IsAliveAt (cond (not same) Wrong (cond none (empty_by (mk (next_id server) (next_id client) number (IdPlace length) body) (empty_body body)) (On (mk (next_id server) (next_id client) number (BodyPlace length (nat_eq length longest)) body))))
  of false none is = tt
  of true true is = empty_alive (next_id server) (next_id client) number length body (empty_body body) (omega arith)
  of true false is = record { small = omega arith; at = record { some = omega (arith, nat_eq-false length 0 is); fits = opens length body at } }

step_alive : (server client number b : ℕ) (place : Place) (body : Body) → server < 256 → IsAt place body → IsAliveAt (step (mk server client number place body) b)
step_alive server client number b First body small at = low_alive server client number b First (Second b) body small at (λ may. record { header = at; takes = may })
step_alive server client number b (Second low) body small at = low_alive server client number (low + 256 * b) (Second low) (Third (low + 256 * b)) body small at.header (λ may. record { header = at.header; takes = may })
step_alive server client number b (Third low) body small at = length_alive server client number (low + 65536 * b) (Third low) body small at.header
step_alive server client number b (IdPlace length) body small at = id_alive server client number length b body small at
step_alive server client number b (BodyPlace left long) body small at = body_alive server client number left long body (taken body left b) small (taken_fits body left b at.fits)

run_by_alive : (to : Outcome) (b : ℕ) (bytes : List ℕ) (state : State) → IsAliveAt to → run_by to b bytes (λ (n : State). run n bytes) ≡ Going state → ((next : State) → IsAlive next → run next bytes ≡ Going state → IsAlive state) → IsAlive state
run_by_alive (On next) b bytes state alive is others = others next alive is
run_by_alive (Over end) b bytes state alive is others = absurd (cc)
run_by_alive Wrong b bytes state alive is others = absurd (cc)

pub run-alive : (bytes : List ℕ) (from state : State) → IsAlive from → run from bytes ≡ Going state → IsAlive state
run-alive [] from state alive is = let same : from ≡ state = cc in subst IsAlive same alive
run-alive (b ∷ bytes) from state alive is = run_by_alive (step from b) b bytes state (step_alive from.server from.client from.number b from.place from.body alive.small alive.at) is (λ next lives goes. run-alive bytes next state lives goes)
