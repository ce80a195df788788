-- What clients have prepared stands so where their rows keep it.
use Rattle.std.specs.Prelude.{◌≡◌, ◌⊎◌, ◌≤◌, ℕ, zero, suc, Bool, true, false, not, is_some, nat_eq, if◌then◌else◌, List, [], Option, Some, None}
use Rattle.std.specs.Option.{option_map}
use Rattle.std.proofs.Common.{refl, sym, ap, ◌∙◌, subst, append-nil, inl, inr}
use Rattle.std.proofs.lemmas.Bool.{or_parts, true≢false}
use Rattle.std.proofs.lemmas.Option.{none-some, same_Some}
use Rattle.mx_base.specs.declared.names.Hostgroup.{Hostgroup}
use Rattle.private_model.proofs.Maps.{client_of}
use Rattle.private_model.specs.Names.{ClientNo, MessageName, SessionName}
use Rattle.log_story.specs.Clients.{is_answered}
use Rattle.log_story.specs.Owed.{messages, name_of}
use Rattle.log_story.specs.Plan.{Plan, own_at}
use Rattle.log_story.specs.Tale as tales
use Rattle.log_story.specs.Tale.{Tale, view_of}
use Rattle.private_model.specs.View.{View}
use Rattle.step_laws.specs.Seats.{IsSeated}
use Rattle.client_desk.specs.declared.work.Work.{Work}
use Rattle.client_seat.specs.Answers.{answered}
use Rattle.client_seat.specs.Seats.{is_ended}
use Rattle.client_seat.specs.declared.seat.Seat.{Seat}
use Rattle.core_tables.specs.Parting.{changed_for}
use Rattle.core_tables.specs.Tables.{Tabled, client_changed}
use Rattle.core_tables.specs.declared.client.Client.{Client}
use Rattle.core_stands.specs.Clients.{IsClient, IsClientOr, IsGoing, IsPhase}
use Rattle.core_stands.specs.Grounds.{Ground, view_on}
use Rattle.core_stands.specs.Stands.{AreClients, ArePrepared, IsAt, IsPrepared}
use Rattle.core_laws.proofs.OfEntry.Lists.{seated_of}
use Rattle.core_laws.proofs.OfPrepared.Keeping.{going_within, prepared_as}
use Rattle.core_laws.proofs.OfPrepared.Knowing.{none_replied}

-- The row that a row was, with the same of what is prepared: of all its messages, where the last isn't answered that was in work.
pub record RowOf (t : Tabled) (c : ClientNo) (row : Client) : Type 0 where
  pub old : Client
  pub there : t.clients c ≡ Some old
  pub going : is_ended old.desk.seat.phase ≡ false
  pub statements : row.desk.seat.statements ≡ old.desk.seat.statements
  pub answered : row.desk.seat.answered ≡ true → (old.desk.seat.answered ≡ true) ⊎ (is_some old.desk.work ≡ true)

-- a seat that another comes from, with the same of what is prepared
pub record KeepsPrepared (old new : Seat) : Type 0 where
  pub going : is_ended old.phase ≡ false
  pub statements : new.statements ≡ old.statements
  pub answered : new.answered ≡ old.answered

pub row_kept : (t : Tabled) (c : ClientNo) (old row : Client) → t.clients c ≡ Some old → KeepsPrepared old.desk.seat row.desk.seat → RowOf t c row
row_kept t c old row there keeps = record {
  old = old;
  there = there;
  going = keeps.going;
  statements = keeps.statements;
  answered = λ is. inl (sym keeps.answered ∙ is);
}

-- of each client that goes on
abbrev pub AreRows : (t now : Tabled) → Type 0
AreRows t now = (c : ClientNo) (row : Client) → now.clients c ≡ Some row → is_ended row.desk.seat.phase ≡ false → RowOf t c row

pub row_seated : (t : Tabled) (c : ClientNo) (old row : Client) → t.clients c ≡ Some old → row.desk.seat ≡ old.desk.seat
    → is_ended row.desk.seat.phase ≡ false → RowOf t c row
row_seated t c old row there same going = record {
  old = old;
  there = there;
  going = ap (λ (s : Seat). is_ended s.phase) (sym same) ∙ going;
  statements = ap (λ (s : Seat). s.statements) same;
  answered = λ is. inl (ap (λ (s : Seat). s.answered) (sym same) ∙ is);
}

-- its statement in work is given up
pub row_gives_up : (t : Tabled) (c : ClientNo) (old row : Client) (work : Work) (payloads : List (List ℕ)) → t.clients c ≡ Some old
    → old.desk.work ≡ Some work → row.desk.seat ≡ answered payloads old.desk.seat → is_ended row.desk.seat.phase ≡ false → RowOf t c row
row_gives_up t c old row work payloads there in_work same going = record {
  old = old;
  there = there;
  going = ap (λ (s : Seat). is_ended s.phase) (sym same) ∙ going;
  statements = ap (λ (s : Seat). s.statements) same;
  answered = λ is. inr (ap is_some in_work);
}

pub row_itself : (t : Tabled) (c : ClientNo) (row : Client) → t.clients c ≡ Some row → is_ended row.desk.seat.phase ≡ false → RowOf t c row
row_itself t c row there going = row_seated t c row row there refl going

pub rows_same : (t now : Tabled) → ((c : ClientNo) → now.clients c ≡ t.clients c) → AreRows t now
rows_same t now same c row there going = row_itself t c row (sym (same c) ∙ there) going

-- A row that changes, and keeps its seat.

pub record SeatOf (found : Option Client) (row : Client) : Type 0 where
  pub old : Client
  pub there : found ≡ Some old
  pub seat : row.desk.seat ≡ old.desk.seat

abbrev pub KeepsSeat : (Client → Client) → Type 0
KeepsSeat by = (row : Client) → (by row).desk.seat ≡ row.desk.seat

pub seat_mapped : (by : Client → Client) → KeepsSeat by → (found : Option Client) (row : Client) → option_map by found ≡ Some row → SeatOf found row
seat_mapped by keeps None row is = absurd (none-some row is)
seat_mapped by keeps (Some old) row is =
    let same : by old ≡ row = same_Some (by old) row is in
    record { old = old; there = refl; seat = ap (λ (r : Client). r.desk.seat) (sym same) ∙ keeps old }

pub seat_changed : (by : Hostgroup → Client → Client) → ((h : Hostgroup) → KeepsSeat (by h)) → (p : Option SessionName) (c : ClientNo)
    (found : Option Client) (row : Client) → changed_for by p c found ≡ Some row → SeatOf found row
seat_changed by keeps None c found row is = record { old = row; there = is; seat = refl }
seat_changed by keeps (Some n) c found row is = at (nat_eq n.client.0 c.0) is where
  at : (b : Bool) → (if b then option_map (by n.hostgroup) found else found) ≡ Some row → SeatOf found row
  at true is = seat_mapped (by n.hostgroup) (keeps n.hostgroup) found row is
  at false is = record { old = row; there = is; seat = refl }

pub rows_changed : (t now : Tabled) (d : ClientNo) (by : Client → Client) → KeepsSeat by
    → ((c : ClientNo) → now.clients c ≡ (client_changed d by t).clients c) → AreRows t now
rows_changed t now d by keeps made c row there going = at (nat_eq d.0 c.0) refl (sym (made c) ∙ there) where
  at : (b : Bool) → nat_eq d.0 c.0 ≡ b → (if b then option_map by (t.clients d) else t.clients c) ≡ Some row → RowOf t c row
  at true same is =
      let of = seat_mapped by keeps (t.clients d) row is in
      row_seated t c of.old row (ap t.clients (sym (client_of d c same)) ∙ of.there) of.seat going
  at false other is = row_itself t c row is going

-- A client's own row.

pub its_client : (g : Ground) (t : Tabled) (client : tales.Client) (row : Client) → AreClients g t → IsSeated g.tale client
    → t.clients client.number ≡ Some row → IsClient g client row
its_client g t client row are seated there =
    subst (λ (found : Option Client). IsClientOr g client found) there (seated_of (IsAt g t) g.tale client seated are.each).row

pub going_row : (g : Ground) (client : tales.Client) (row : Client) → IsClient g client row → is_ended row.desk.seat.phase ≡ false → IsGoing g client row
going_row g client row is going = subst (λ (b : Bool). IsPhase b g client row) going is.phase

none_of : {A : Type 0} (o : Option A) → is_some o ≡ false → o ≡ None
none_of None is = refl
none_of (Some a) is = absurd (true≢false is)

unanswered_by : (plan : Plan) (tale : Tale) (view : View) (client : tales.Client) (n : ℕ) → is_answered plan tale view client n ≡ false
    → view.replies (name_of client n) ≡ None
unanswered_by plan tale view client zero is = absurd (true≢false is)
unanswered_by plan tale view client (suc n) is =
    none_of (view.replies (name_of client (suc n)))
    (or_parts (is_some (own_at plan tale.moment (name_of client (suc n)))) (is_some (view.replies (name_of client (suc n)))) is).1

unowned_by : (plan : Plan) (tale : Tale) (view : View) (client : tales.Client) (n : ℕ) → is_answered plan tale view client n ≡ false
    → is_some (own_at plan tale.moment (name_of client n)) ≡ false
unowned_by plan tale view client zero is = absurd (true≢false is)
unowned_by plan tale view client (suc n) is =
    (or_parts (is_some (own_at plan tale.moment (name_of client (suc n)))) (is_some (view.replies (name_of client (suc n)))) is).0

not_back : (b : Bool) → true ≡ not b → b ≡ false
not_back false is = refl
not_back true is = absurd (true≢false is)

-- to what isn't answered, as what is in work, no reply came

pub unanswered_row : (g : Ground) (client : tales.Client) (row : Client) → IsGoing g client row → row.desk.seat.answered ≡ false
    → (view_on g).replies (name_of client client.taken) ≡ None
unanswered_row g client row is none = unanswered_by g.plan g.tale (view_on g) client client.taken (sym is.answered ∙ none)

pub unreplied : (g : Ground) (client : tales.Client) (row : Client) → IsGoing g client row → is_some row.desk.work ≡ true
    → (view_on g).replies (name_of client client.taken) ≡ None
unreplied g client row is busy = unanswered_row g client row is (not_back row.desk.seat.answered (sym busy ∙ is.busy))

-- nor did the router answer what is in work
pub unowned : (g : Ground) (client : tales.Client) (row : Client) → IsGoing g client row → is_some row.desk.work ≡ true
    → is_some (own_at g.plan g.tale.moment (name_of client client.taken)) ≡ false
unowned g client row is busy =
    unowned_by g.plan g.tale (view_on g) client client.taken (sym is.answered ∙ not_back row.desk.seat.answered (sym busy ∙ is.busy))

-- What the router answers itself by another moment it answered already, or no reply to it was read.
pub record OwnsStay (g : Ground) (tale : Tale) : Type 0 where
  pub each : (client : tales.Client) → IsSeated g.tale client → (k : ℕ) → k ≤ client.taken → is_some (own_at g.plan tale.moment (name_of client k)) ≡ true
      → (is_some (own_at g.plan g.tale.moment (name_of client k)) ≡ true) ⊎ ((view_on g).replies (name_of client k) ≡ None)

pub owns_stay : {g : Ground} {tale : Tale} → tale.moment ≡ g.tale.moment → OwnsStay g tale
owns_stay {g} {tale} moment = record {
  each = λ client seated k below own. inl (ap (λ (n : ℕ). is_some (own_at g.plan n (name_of client k))) (sym moment) ∙ own);
}

module _ (g : Ground) (tale : Tale) (over fresh : ClientNo → Bool) (t now : Tabled) (are : AreClients g t)
    (replies : (m : MessageName) → (view_of g.setup tale).replies m ≡ (view_on g).replies m) (owns : OwnsStay g tale) (prepared : ArePrepared g t) where
  abbrev after : Ground
  after = record g { tale = tale; over = over; fresh = fresh }

  -- where the client is the same, and its row keeps it
  pub prepared_by_row : (client : tales.Client) → IsSeated g.tale client → (row : Client) → RowOf t client.number row → IsPrepared after client row
  prepared_by_row client seated row of =
      let was : IsClient g client of.old = its_client g t client of.old are seated of.there in
      let here : MessageName = name_of client client.taken in
      prepared_as g tale over fresh client client of.old row (record {
        number = refl;
        taken = refl;
        more = [];
        all = sym (append-nil (messages g.plan client));
        earlier = λ k below. replies (name_of client k);
        stays = λ k reply within at. replies (name_of client k) ∙ at;
        statements = of.statements;
        answered = λ is. elim (of.answered is) [
          | inl same ↦ inl (same, replies here)
          | inr busy ↦ inr (λ number payload greater.
              none_replied number client.taken payload (g.plan.routes here) ((view_of g.setup tale).replies here)
              (replies here ∙ unreplied g client of.old (going_row g client of.old was of.going) busy))
        ];
        unserved = λ k some below own. elim (owns.each client seated k below own) [
          | inl mine ↦ replies (name_of client k) ∙ (prepared client seated of.old of.there of.going).unserved k some below mine
          | inr none ↦ replies (name_of client k) ∙ none
        ];
      }) (going_within g client of.old was of.going) (prepared client seated of.old of.there of.going)

  pub are_prepared : ((client : tales.Client) → IsSeated tale client → IsSeated g.tale client) → AreRows t now → ArePrepared after now
  are_prepared seats rows client seated row there going =
      prepared_by_row client (seats client seated) row (rows client.number row there going)
