-- Which links are open behind entries of clients' links.
use Rattle.std.specs.Prelude.{◌≡◌, ◌||◌, ℕ, Bool, true, false, is_some, nat_eq, if◌then◌else◌, List, [], ◌∷◌, ◌++◌, Option, Some, None}
use Rattle.std.proofs.Common.{refl, sym, ap, ◌∙◌, subst, inl, inr}
use Rattle.std.proofs.lemmas.Bool.{eq-eqb, eqb-true, ne_eqb, true≢false}
use Rattle.mx_base.specs.declared.names.LinkId.{LinkId}
use Rattle.mx_base.specs.declared.names.Port.{Port}
use Rattle.mx_wire.specs.Log.{Log, is_link, is_open, link_of, open_step}
use Rattle.mx_wire.specs.declared.entry.Entry.{Entry}
use Rattle.mx_wire.specs.declared.entry.Entry.TheVariants as entry
use Rattle.client_session.specs.Setups.{Setup as Service}
use Rattle.private_model.specs.Names.{ClientNo}
use Rattle.client_seat.specs.Seats.{ended}
use Rattle.client_seat.specs.Takings.{begun_anew}
use Rattle.client_seat.specs.declared.seat.Seat.{Seat}
use Rattle.core_tables.specs.Arrivals.{came}
use Rattle.core_tables.specs.Parting.{left_in}
use Rattle.core_tables.specs.Tables.{IsSame, Tabled}
use Rattle.core_tables.specs.declared.client.Client.{Client}
use Rattle.core_tables.specs.declared.client.ClientNote.{ClientNote}
use Rattle.core_tables.specs.declared.server.Server.{Server}
use Rattle.core_laws.specs.entry.Freeing.{all_freed}
use Rattle.core_laws.proofs.OfClients.Keeping.{follows_keep_rows, keeps_all_freed, keeps_along, keeps_changed, keeps_itself, keeps_left, keeps_same}
use Rattle.core_laws.specs.clients.Follows.{Parting}
use Rattle.core_laws.specs.clients.Keeps.{KeepsRows}
use Rattle.core_laws.specs.clients.Turns.{Choice, Halt}
use Rattle.router_laws.specs.clients.Comes.{IsReceived, IsTurnedAway}
use Rattle.router_laws.specs.clients.Leaves.{IsGivenBack, IsLossOf, LeavesAgain, LeavesAtOnce, LeavesGoing}
use Rattle.router_laws.specs.clients.Speaks.{SpeaksSo}
use Rattle.router_laws.proofs.OfDecisions.Listing.{open_with}
use Rattle.router_laws.specs.decisions.Routers.{AreOpenJust}

pub opens_kept : (log : Log) (e : Entry) (t now : Tabled) → ((was : Bool) → open_step was e ≡ was) → KeepsRows t now → AreOpenJust log t
    → AreOpenJust (log ++ e ∷ []) now
opens_kept log e t now stays kept just l =
    open_with log e l ∙ by (is_link l (link_of e)) ∙ just l
    ∙ (λ i. sym (kept.links l) i || is_some (sym (kept.numbers l) i)) where
      by : (b : Bool) → (if b then open_step (is_open l log) e else is_open l log) ≡ is_open l log
      by true = stays (is_open l log)
      by false = refl

pub loss_opens : (link : LinkId) (e : Entry) → IsLossOf link e → (was : Bool) → open_step was e ≡ was
loss_opens link e (inl same) was = ap (open_step was) same
loss_opens link e (inr (inl same)) was = ap (open_step was) same
loss_opens link e (inr (inr same)) was = ap (open_step was) same

pub speaks_keep : (service : Service) (default : List ℕ) (link : LinkId) (bytes : List ℕ) (c : ClientNo) (ordinal : ℕ) (choices : List Choice)
    (halt : Halt) (parting : Parting) (links : List LinkId) (t now : Tabled)
    → SpeaksSo service default link bytes c ordinal choices halt parting links t now → KeepsRows t now
speaks_keep service default link bytes c ordinal choices halt parting links t now so =
    keeps_along t so.heard now (keeps_same t _ so.heard (keeps_changed c _ t) so.hears)
    (follows_keep_rows service default c choices halt parting links so.heard now so.follows)

pub again_keeps : (link : LinkId) (c : ClientNo) (t now : Tabled) → LeavesAgain link c t now → KeepsRows t now
again_keeps link c t now so = keeps_same t _ now (keeps_left c (λ (seat : Seat). seat) t) so.same

given_back : (by : Seat → Seat) (links : List LinkId) (c : ClientNo) (row : Client) (t now : Tabled) → IsGivenBack by links c row t now → KeepsRows t now
given_back by links c row t now so =
    keeps_along t so.left now (keeps_same t _ so.left (keeps_left c by t) so.leaves)
    (keeps_same so.left (all_freed links so.left) now (keeps_all_freed links so.left) so.freed)

pub at_once_keeps : (link : LinkId) (links : List LinkId) (c : ClientNo) (roomy : ClientNo → Bool) (t now : Tabled)
    → LeavesAtOnce link links c roomy t now → KeepsRows t now
at_once_keeps link links c roomy t now so =
    keeps_along t so.between now (given_back ended links c so.row t so.between so.ends)
    (keeps_same so.between _ now (keeps_left c ended so.between) so.again.same)

pub going_keeps : (service : Service) (default : List ℕ) (link : LinkId) (links : List LinkId) (ordinal : ℕ) (choices : List Choice) (halt : Halt)
    (parting : Parting) (c : ClientNo) (t now : Tabled) → LeavesGoing service default link links ordinal choices halt parting c t now → KeepsRows t now
going_keeps service default link links ordinal choices halt parting c t now so =
    keeps_along t so.between now (given_back begun_anew links c so.row t so.between so.leaves)
    (follows_keep_rows service default c choices halt parting [] so.between now so.follows)

-- A client comes.

eq_sym : (a b : ℕ) → nat_eq a b ≡ nat_eq b a
eq_sym a b = by (nat_eq b a) refl where
  by : (x : Bool) → nat_eq b a ≡ x → nat_eq a b ≡ x
  by true is = eq-eqb a b (sym (eqb-true b a is))
  by false isnt = ne_eqb a b (λ same. true≢false (sym (eq-eqb b a (sym same)) ∙ isnt))

module _ (log : Log) (port : Port) (link : LinkId) (salt : List ℕ) (c : ClientNo) (seat : Seat) (note : ClientNote) (t now : Tabled)
    (same : IsSame now (came c link seat note t)) (just : AreOpenJust log t) where
  or_true : (a : Bool) → (a || true) ≡ true
  or_true true = refl
  or_true false = refl

  came_by : (k : LinkId) (b : Bool) → nat_eq k.0 link.0 ≡ b
      → (if b then true else is_open k log) ≡ (is_some (t.links k) || is_some ((came c link seat note t).numbers k))
  came_by k true is =
      sym (or_true (is_some (t.links k)))
      ∙ ap (λ (b : Bool). is_some (t.links k) || is_some (if b then Some c else t.numbers k)) (sym (eq_sym link.0 k.0 ∙ is))
  came_by k false isnt =
      just k ∙ ap (λ (b : Bool). is_some (t.links k) || is_some (if b then Some c else t.numbers k)) (sym (eq_sym link.0 k.0 ∙ isnt))

  pub came_opens : AreOpenJust (log ++ entry.Accepted port link salt ∷ []) now
  came_opens k =
      open_with log (entry.Accepted port link salt) k ∙ came_by k (nat_eq k.0 link.0) refl
      ∙ sym (λ i. is_some (same.links k i) || is_some (same.numbers k i))

-- and leaves by the same entry
pub away_opens : (log : Log) (e : Entry) (c : ClientNo) (between now : Tabled) → IsSame now (left_in c ended between)
    → AreOpenJust (log ++ e ∷ []) between → AreOpenJust (log ++ e ∷ []) now
away_opens log e c between now same just l =
    let kept : KeepsRows between now = keeps_same between _ now (keeps_left c ended between) same in
    just l ∙ (λ i. sym (kept.links l) i || is_some (sym (kept.numbers l) i))
