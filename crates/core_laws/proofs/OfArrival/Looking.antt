-- What a client says next is looked at.
use Rattle.std.specs.Prelude.{◌≡◌, ℕ, Bool, true, false, not, ◌&&◌, is_some, List, Option, Some, None}
use Rattle.std.proofs.Common.{◌∙◌, refl, sym, ap, subst, inl}
use Rattle.server_side.specs.Account.{Account}
use Rattle.client_session.specs.Setups.{Setup as Service}
use Rattle.client_seat.specs.Seats.{is_ended}
use Rattle.client_seat.specs.Stands.{IsHeardIn}
use Rattle.client_seat.specs.Turns.{turned_in}
use Rattle.client_seat.specs.declared.phase.Phase.{Phase}
use Rattle.client_seat.specs.declared.phase.Phase.TheVariants as phase
use Rattle.client_seat.specs.declared.seat.Seat.{Seat}
use Rattle.private_model.specs.Names.{ClientNo}
use Rattle.private_model.specs.Story.{is_client}
use Rattle.log_story.specs.Tale as tales
use Rattle.core_tables.specs.Arrivals.{looked, turn}
use Rattle.core_tables.specs.Tables.{IsSame, Tabled}
use Rattle.core_tables.specs.declared.client.Client.{Client}
use Rattle.core_stands.specs.Clients.{IsClient, IsClientOr, IsGoing, IsOwing, IsPhase}
use Rattle.core_stands.specs.Grounds.{Ground}
use Rattle.core_stands.specs.Stands.{IsAt, Stands}
use Rattle.core_laws.specs.arrival.Looks.{IsLook, Looks}
use Rattle.core_laws.proofs.OfArrival.Changing.{InWork, IsChange, RowsStay, changed-so, each-by, put-other, reseat, stands-by}
use Rattle.core_laws.proofs.OfArrival.Entering.{Enters, Goes, Waits_so, enters-so}
use Rattle.core_laws.proofs.OfArrival.Finding.{at-known, client-same, false-true, map-itself}
use Rattle.core_laws.proofs.OfArrival.Grounding.{Aside, regrounded}
use Rattle.core_laws.proofs.OfArrival.Liking.{client-before, going-like}
use Rattle.core_laws.proofs.OfArrival.Messaging.{Nexts, Outcome, Stood, looking, says-so, unfresh}
use Rattle.core_laws.proofs.OfPrepared.Mapping.{has_same}
use Rattle.core_laws.proofs.OfPrepared.Rows.{KeepsPrepared}
use Rattle.core_laws.proofs.OfPrepared.Turning.{turn_keeps}
use Rattle.std.proofs.lemmas.Option.{same_Some}

module _ (in_work : InWork) (stay : RowsStay) (goes : Goes) (waits : Waits_so) (lets : Enters) (nexts : Nexts) (g : Ground) (t now : Tabled)
    (default : List ℕ) (client : tales.Client) (row : Client) (was : Stands g.plan.service g t) (look : IsLook g t default client row)
    (same : IsSame now (looked g.plan.service default client.number t)) where
  abbrev c : ClientNo
  c = client.number

  abbrev seat : Seat
  seat = row.desk.seat

  abbrev by : Aside
  by = looking g (unfresh g c)

  abbrev after : Ground
  after = regrounded by g

  own : IsClient g client row
  own = subst (λ (r : Option Client). IsClientOr g client r) look.there (at-known g t c client was.clients look.known).row

  going-by : (ended : Bool) → ended ≡ false → IsPhase ended g client row → IsGoing g client row
  going-by true isnt is = false-true true isnt refl
  going-by false isnt is = is

  going : IsGoing g client row
  going = going-by (is_ended seat.phase) look.going own.phase

  unfreshed : (unfresh g c) c ≡ false
  unfreshed = ap (λ (b : Bool). not b && g.fresh c) (client-same c c refl)

  -- whatever it says, what it prepared stays
  keeps-so : (new : Seat) → now.clients c ≡ Some (reseat new row) → KeepsPrepared seat new
  keeps-so new there =
      let turned_row : reseat new row ≡ reseat (turn g.plan.service default seat) row =
      same_Some _ _ (sym there ∙ changed-so (turn g.plan.service default) c t now row look.there same) in
      let is : turn g.plan.service default seat ≡ new = sym (ap (λ (r : Client). r.desk.seat) turned_row) in
      let kept = turn_keeps g.plan.service default seat in
      record {
        going = look.going;
        statements = ap (λ (s : Seat). s.statements) (sym is) ∙ kept.0;
        answered = ap (λ (s : Seat). s.answered) (sym is) ∙ kept.1;
      }

  change : (new : Seat) → now.clients c ≡ Some (reseat new row) → IsChange g by t now c (λ (x : tales.Client). x) row new
  change new there = record {
    clients = sym (map-itself g.tale.clients);
    moment = refl;
    number = λ x. refl;
    link = λ x. refl;
    taken = λ x. refl;
    more = λ x. has_same g.plan x;
    ends = λ n is. is;
    there = look.there;
    changed = there;
    others = λ other apart. same.clients other ∙ put-other c other _ t apart;
    numbers = same.numbers;
    links = same.links;
  }

  other-so : (x : tales.Client) → IsAt g t x → is_client c x.number ≡ false → IsClientOr after x (t.clients x.number)
  other-so x at apart =
      client-before g by x (record {
        own = λ ordinal below. refl;
        word = λ over. refl;
        over = refl;
        fresh = ap (λ (b : Bool). not b && g.fresh x.number) apart;
      }) (t.clients x.number) at.row

  stood : Stood g now client row
  stood new there read stands =
      stands-by g by t now c (λ (x : tales.Client). x) row new (change new there) in_work stay g.plan.service was (λ on. keeps-so new there) read
      (each-by g by t now c (λ (x : tales.Client). x) row new (change new there) client look.known was.clients stands other-so)

  -- it is served

  going-then : IsGoing after client (reseat seat row)
  going-then =
      going-like g by client client (record { number = refl; taken = refl; own = λ ordinal below. refl }) row seat going.going refl refl
      (λ busy. (refl, refl)) (λ busy message at. at) going.account going.collation going.unmoved going

  served-client : (account : Account) → seat.phase ≡ phase.Serving account → IsClient after client (reseat seat row)
  served-client account serves =
      let owed = subst (λ (at : Phase). IsOwing at (g.fresh c) g client seat) serves own.owed in
      record {
        who = own.who;
        heard = own.heard;
        owed = subst (λ (at : Phase). IsOwing at (unfresh g c c) after client seat) (sym serves)
            (record { written = owed.written; size = owed.size; all = owed.all });
        desk = own.desk;
        coming = own.coming;
        phase = subst (λ (at : Phase). IsPhase (is_ended at) after client (reseat seat row)) (sym serves) going-then;
      }

  none-of : {A : Type 0} (x : Option A) → is_some x ≡ false → x ≡ None
  none-of None is = refl
  none-of (Some y) is = false-true true is refl

  serves-so : (account : Account) → seat.phase ≡ phase.Serving account → Outcome g now client row (turned_in (phase.Serving account) g.plan.service default seat)
  serves-so account serves =
      let owed = subst (λ (at : Phase). IsOwing at (g.fresh c) g client seat) serves own.owed in
      says-so g now client row seat account serves (served-client account serves) going-then
      (λ done. none-of row.desk.work (going.busy ∙ ap not done))
      (subst (λ (at : Phase). IsHeardIn at g.plan client seat) serves own.heard) owed was.room_is stood nexts look.few look.captured (inl refl)

  enters-then : seat.phase ≡ phase.LoggingIn → Outcome g now client row (turned_in phase.LoggingIn g.plan.service default seat)
  enters-then enters =
      enters-so g now default client row unfreshed enters own going
      (subst (λ (at : Phase). IsHeardIn at g.plan client seat) enters own.heard) look.let_in stood lets waits nexts look.few look.captured was.room_is goes

  by-phase : (at : Phase) → seat.phase ≡ at → Outcome g now client row (turned_in at g.plan.service default seat)
  by-phase phase.LoggingIn is = enters-then is
  by-phase (phase.Serving account) is = serves-so account is
  by-phase phase.Ended is = false-true true (ap is_ended (sym is) ∙ look.going) refl

  pub looks-here : Looks g.plan.service g now default client row
  looks-here = by-phase seat.phase refl (changed-so (turn g.plan.service default) c t now row look.there same)

pub looks-so : InWork → RowsStay → Goes → Waits_so → Enters → Nexts → (service : Service) (g : Ground) (t now : Tabled) (default : List ℕ) (client : tales.Client)
    (row : Client) → Stands service g t → IsLook g t default client row → IsSame now (looked service default client.number t)
    → Looks service g now default client row
looks-so in_work stay goes waits lets nexts service g t now default client row was look same =
    subst (λ (s : Service). Stands s g t → IsSame now (looked s default client.number t) → Looks s g now default client row) was.service_is
    (λ stands so. looks-here in_work stay goes waits lets nexts g t now default client row stands look so) was same
