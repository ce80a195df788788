-- What happens to others leaves a client as it stands.
use Rattle.std.specs.Prelude.{◌≡◌, ◌<◌, ◌≤◌, ◌-◌, ℕ, suc, Bool, true, false, slice_get, Option, Some, None}
use Rattle.std.proofs.Common.{refl, sym, ap, ◌∙◌, subst, arith, inl}
use Rattle.private_model.specs.Names.{ClientNo, Hostgroup}
use Rattle.private_model.specs.Story.{BecameDue, Broke, Capture, Dropped, End, Freed, Gone, Happening, Heard, Left, LoggedIn, Mirrored, Own, Prep, Question, Ran, Sent, Statement, Sync, Unprepared}
use Rattle.private_model.specs.View.{Answered, Asked, Held, Quiet, Setup, Stage, View, present, view_step}
use Rattle.log_story.specs.Clients.{is_answered}
use Rattle.log_story.specs.Owed.{messages, name_of, number_of}
use Rattle.log_story.specs.Plan.{Plan}
use Rattle.log_story.specs.Tale.{tell}
use Rattle.log_story.specs.Tale as tales
use Rattle.client_seat.specs.Seats.{is_ended}
use Rattle.client_desk.specs.declared.desk.Desk.{Desk}
use Rattle.client_desk.specs.declared.work.Work.{Work}
use Rattle.desk_laws.specs.Spares.{SparesAnswered, SparesAsked, SparesSent, SparesToCome, answered_for, asked_for, is_of, touches}
use Rattle.desk_laws.specs.Stands.{AreToCome, IsDesk, name_at}
use Rattle.core_tables.specs.declared.client.Client.{Client}
use Rattle.core_stands.specs.Clients.{IsClientOr, IsPhase, IsWorkingOr}
use Rattle.core_stands.specs.Grounds.{Ground, on, view_on}
use Rattle.core_laws.proofs.OfParting.Apart.{carriers_apart, held_apart, lives_apart, places_apart, replies_apart}
use Rattle.core_laws.proofs.OfParting.Owing.{Alike, answered_alike, bytes_alike, owing_alike, so_far_alike}

-- a message that is to come isn't touched

asked_spared : (c : ClientNo) (from : ℕ) (question : Question) → is_of c (asked_for question) ≡ false → SparesAsked c from question
asked_spared c from (Statement n due) apart = inl apart
asked_spared c from (Prep n key text) apart = tt
asked_spared c from (Sync n command) apart = tt
asked_spared c from (Own command) apart = tt
asked_spared c from (End n) apart = tt
asked_spared c from (Capture n) apart = tt

sent_spared : (view : View) (c : ClientNo) (from : ℕ) (question : Question) → is_of c (asked_for question) ≡ false → SparesSent view c from question
sent_spared view c from (Statement n due) apart = inl apart
sent_spared view c from (Prep n key text) apart = tt
sent_spared view c from (Sync n command) apart = tt
sent_spared view c from (Own command) apart = tt
sent_spared view c from (End n) apart = tt
sent_spared view c from (Capture n) apart = tt

answered_spared : (c : ClientNo) (from : ℕ) (stage : Stage) → is_of c (answered_for stage) ≡ false → SparesAnswered c from stage
answered_spared c from Quiet apart = tt
answered_spared c from (Asked question) apart = tt
answered_spared c from (Answered question) apart = asked_spared c from question apart

pub coming_spared : (view : View) (c : ClientNo) (from : ℕ) (e : Happening) → touches view e c ≡ false → SparesToCome view c from e
coming_spared view c from (Sent link question) apart = sent_spared view c from question apart
coming_spared view c from (Heard link reply) apart = answered_spared c from (view.links link).stage apart
coming_spared view c from (LoggedIn link server account) apart = tt
coming_spared view c from (BecameDue client hostgroup ordinal key command multiplex) apart = apart
coming_spared view c from (Ran link) apart = tt
coming_spared view c from (Freed link) apart = tt
coming_spared view c from (Unprepared link number) apart = tt
coming_spared view c from (Dropped link) apart = tt
coming_spared view c from (Gone link) apart = tt
coming_spared view c from (Left client) apart = tt
coming_spared view c from Broke apart = tt
coming_spared view c from (Mirrored client job) apart = tt

-- the present session's home
pub home_apart : (setup : Setup) (view : View) (e : Happening) (c : ClientNo) (h : Hostgroup) → touches view e c ≡ false
    → (view_step setup view e).held (present (view_step setup view e) c h) ≡ view.held (present view c h)
home_apart setup view e c h apart =
    ap (λ (life : ℕ). (view_step setup view e).held (name_at c h life)) (lives_apart setup view c h e apart)
    ∙ held_apart setup view (present view c h) e apart

-- A row of a client in another ground of the same plan, where its last message was sent to the same link.

pub working_so : (g after : Ground) (client : tales.Client) (row : Client) (work : Option Work) → after.plan ≡ g.plan
    → (view_on after).carriers (name_of client client.taken) ≡ (view_on g).carriers (name_of client client.taken)
    → IsWorkingOr g client row work → IsWorkingOr after client row work
working_so g after client row None plan carriers is = is
working_so g after client row (Some work) plan carriers is = record {
  last = is.last;
  went = is.went;
  number = λ prepares. (ap (λ (p : Plan). number_of p (name_of client work.ordinal)) plan ∙ (is.number prepares).0, (is.number prepares).1);
  only = λ some. is.only (subst (λ (p : Plan). 0 < number_of p (name_of client work.ordinal)) plan some);
  prepares = λ prepares message found.
      is.prepares prepares message (ap (λ (p : Plan). slice_get (messages p client) (client.taken - 1)) (sym plan) ∙ found);
  keyed = λ prepares route routed. is.keyed prepares route (ap (λ (p : Plan). p.routes (name_of client client.taken)) (sym plan) ∙ routed);
  unsent = is.unsent;
  there = λ sent. is.there sent
      ∙ ap (λ (ordinal : ℕ). (view_on g).carriers (name_of client ordinal)) is.last ∙ sym carriers
      ∙ ap (λ (ordinal : ℕ). (view_on after).carriers (name_of client ordinal)) (sym is.last);
  first = λ message found. is.first message (ap (λ (p : Plan). slice_get (messages p client) (client.taken - 1)) (sym plan) ∙ found);
}

module _ (g : Ground) (client : tales.Client) (e : Happening) (apart : touches (view_on g) e client.number ≡ false) where
  abbrev after : Ground
  after = on g (tell e g.tale)

  alike : Alike g.plan client (view_on g) (view_on after) g.tale.moment g.tale.moment
  alike = record { own = λ ordinal below. refl; replies = λ ordinal. replies_apart g.setup (view_on g) (name_of client ordinal) e apart }

  answered_stays : (ordinal : ℕ) → ordinal ≤ client.taken → is_answered g.plan g.tale (view_on after) client ordinal ≡ is_answered g.plan g.tale (view_on g) client ordinal
  answered_stays = answered_alike g.plan client (view_on g) (view_on after) g.tale.moment g.tale.moment alike g.tale after.tale refl refl

  phase_stays : (row : Client) (ended : Bool) → IsPhase ended g client row → IsPhase ended after client row
  phase_stays row true is = record {
    over = is.over;
    idle = is.idle;
    told = λ word ordinal below. answered_stays ordinal below ∙ is.told word ordinal below;
    homeless = is.homeless;
  }
  phase_stays row false is = record {
    going = is.going;
    answered = is.answered ∙ sym (answered_stays client.taken (omega arith));
    earlier = λ ordinal below. answered_stays ordinal (omega arith) ∙ is.earlier ordinal below;
    went = is.went;
    busy = is.busy;
    working = working_so g after client row row.desk.work refl (carriers_apart g.setup (view_on g) (name_of client client.taken) e apart) is.working;
    unmoved = λ at. places_apart g.setup (view_on g) client.number e apart ∙ is.unmoved at;
    account = is.account;
    collation = is.collation;
  }

  pub client_stays : ((setup : Setup) (view : View) (c : ClientNo) (desk : Desk) (e : Happening) → IsDesk setup.reads view c desk
      → touches view e c ≡ false → IsDesk setup.reads (view_step setup view e) c desk)
      → ((setup : Setup) (view : View) (c : ClientNo) (from : ℕ) (e : Happening) → AreToCome view c from → SparesToCome view c from e
      → AreToCome (view_step setup view e) c from)
      → (row : Option Client) → IsClientOr g client row → IsClientOr after client row
  client_stays desks coming None is =
      record { over = is.over; homeless = λ h. ap (λ (held : Held). held.home) (home_apart g.setup (view_on g) e client.number h apart) ∙ is.homeless h }
  client_stays desks coming (Some row) is = record {
    who = is.who;
    heard = is.heard;
    owed = owing_alike g after client row.desk.seat.phase (g.fresh client.number) row.desk.seat
        (so_far_alike g.plan client (view_on g) (view_on after) g.tale.moment g.tale.moment alike)
        (λ ended. bytes_alike g.plan client (view_on g) (view_on after) g.tale.moment g.tale.moment alike refl) is.owed;
    desk = desks g.setup (view_on g) client.number row.desk e is.desk apart;
    coming = coming g.setup (view_on g) client.number (suc client.taken) e is.coming (coming_spared (view_on g) client.number (suc client.taken) e apart);
    phase = phase_stays row (is_ended row.desk.seat.phase) is.phase;
  }
