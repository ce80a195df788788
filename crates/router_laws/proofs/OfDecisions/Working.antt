-- Whose statement is in work wasn't answered by the router, and it goes to a server.
use Rattle.std.specs.Prelude.{◌≡◌, ◌||◌, ℕ, zero, suc, Bool, true, false, not, is_some, slice_index_or, List, Option, Some, None}
use Rattle.std.specs.Option.{option_map}
use Rattle.std.proofs.Common.{refl, sym, ap, ◌∙◌, subst}
use Rattle.mx_base.specs.declared.names.LinkId.{LinkId}
use Rattle.client_session.specs.Setups.{Setup as Service}
use Rattle.private_model.specs.Names.{ClientNo}
use Rattle.private_model.specs.View.{View}
use Rattle.log_story.specs.Clients.{is_answered}
use Rattle.log_story.specs.Owed.{name_of}
use Rattle.log_story.specs.Plan.{Plan, Route, own_at}
use Rattle.log_story.specs.Tale as tales
use Rattle.log_story.specs.Tale.{Tale}
use Rattle.client_seat.specs.Seats.{is_ended}
use Rattle.client_desk.specs.declared.work.Work.{Work}
use Rattle.core_tables.specs.Tables.{Tabled}
use Rattle.core_tables.specs.declared.client.Client.{Client}
use Rattle.core_stands.specs.Clients.{IsClient, IsClientOr, IsPhase, IsWorkingOr}
use Rattle.core_stands.specs.Grounds.{Ground, view_on}
use Rattle.core_stands.specs.Stands.{IsAt, Stands}
use Rattle.core_laws.specs.parting.Partings.{AreGivenUp}
use Rattle.router_laws.proofs.OfDecisions.Fates.{false_true, none_some}
use Rattle.router_laws.specs.decisions.Judges.{AreSent}
use Rattle.router_laws.specs.decisions.Plans.{AreUngiven, AreUnreplied}

none_either : {A : Type 0} (a : Bool) (o : Option A) → (a || is_some o) ≡ false → o ≡ None
none_either true o e = false_true true e refl
none_either false None e = refl
none_either false (Some x) e = false_true true e refl

unreplied : (plan : Plan) (tale : Tale) (view : View) (client : tales.Client) (ordinal : ℕ) → is_answered plan tale view client ordinal ≡ false
    → view.replies (name_of client ordinal) ≡ None
unreplied plan tale view client zero e = false_true true e refl
unreplied plan tale view client (suc ordinal) e =
    none_either (is_some (own_at plan tale.moment (name_of client (suc ordinal)))) (view.replies (name_of client (suc ordinal))) e

none_of : {A : Type 0} (o : Option A) (b : Bool) → (is_some o || b) ≡ false → o ≡ None
none_of None b e = refl
none_of (Some x) b e = false_true true e refl

unanswered : (plan : Plan) (tale : Tale) (view : View) (client : tales.Client) (ordinal : ℕ) → is_answered plan tale view client ordinal ≡ false
    → own_at plan tale.moment (name_of client ordinal) ≡ None
unanswered plan tale view client zero e = false_true true e refl
unanswered plan tale view client (suc ordinal) e =
    none_of (own_at plan tale.moment (name_of client (suc ordinal))) (is_some (view.replies (name_of client (suc ordinal)))) e

not_true : (b : Bool) → true ≡ not b → b ≡ false
not_true true e = false_true false refl (sym e)
not_true false e = refl

module _ (service : Service) (g : Ground) (t : Tabled) (given : ClientNo → Option (List ℕ)) (excepted : LinkId → Bool) (stands : Stands service g t)
    (up : AreGivenUp given excepted t) where
  module _ (client : tales.Client) (row : Client) (work : Work) (at : IsAt g t client) (there : t.clients client.number ≡ Some row)
      (in_work : row.desk.work ≡ Some work) where
    its_row : IsClient g client row
    its_row = subst (λ (found : Option Client). IsClientOr g client found) there at.row

    by_phase : (ended : Bool) → IsPhase ended g client row → is_answered g.plan g.tale (view_on g) client client.taken ≡ false
    by_phase true is = none_some row.desk.work work is.idle in_work
    by_phase false is =
        sym is.answered ∙ not_true row.desk.seat.answered (sym (ap (λ (o : Option Work). is_some o) in_work) ∙ is.busy)

    -- it went to a server
    routed_by : (found : Option Route) → row.went ≡ option_map (λ (route : Route). route.hostgroup) found → row.went ≡ Some work.hostgroup
        → is_some found ≡ true
    routed_by None went there_it_went = none_some row.went work.hostgroup went there_it_went
    routed_by (Some route) went there_it_went = refl

    routed_in : (ended : Bool) → IsPhase ended g client row → is_some (g.plan.routes (name_of client client.taken)) ≡ true
    routed_in true is = none_some row.desk.work work is.idle in_work
    routed_in false is =
        routed_by (g.plan.routes (name_of client client.taken)) is.went
        (subst (IsWorkingOr g client row) in_work is.working).went

    routed : is_some (g.plan.routes (name_of client client.taken)) ≡ true
    routed = routed_in (is_ended row.desk.seat.phase) its_row.phase

    in_work_so : is_answered g.plan g.tale (view_on g) client client.taken ≡ false
    in_work_so = by_phase (is_ended row.desk.seat.phase) its_row.phase

  given_so : (client : tales.Client) → IsAt g t client → (payload : Option (List ℕ)) → given client.number ≡ payload → is_some payload ≡ true
      → is_answered g.plan g.tale (view_on g) client client.taken ≡ false
  given_so client at None is some = false_true false refl some
  given_so client at (Some payload) is some =
      let found = up.in_work client.number payload is in
      in_work_so client found.0 found.1 at found.2.there found.2.in_work

  sent_so : (client : tales.Client) → IsAt g t client → (payload : Option (List ℕ)) → given client.number ≡ payload → is_some payload ≡ true
      → is_some (g.plan.routes (name_of client client.taken)) ≡ true
  sent_so client at None is some = false_true false refl some
  sent_so client at (Some payload) is some =
      let found = up.in_work client.number payload is in
      routed client found.0 found.1 at found.2.there found.2.in_work

  pub all_sent : AreSent g.plan g.tale (λ c. is_some (given c))
  all_sent = λ k dflt within some.
      sent_so (slice_index_or g.tale.clients k dflt) (stands.clients.each k dflt within) (given (slice_index_or g.tale.clients k dflt).number) refl some

  pub ungiven : AreUngiven g (λ c. is_some (given c))
  ungiven = λ k dflt within some.
      unanswered g.plan g.tale (view_on g) (slice_index_or g.tale.clients k dflt) (slice_index_or g.tale.clients k dflt).taken
      (given_so (slice_index_or g.tale.clients k dflt) (stands.clients.each k dflt within) (given (slice_index_or g.tale.clients k dflt).number) refl some)

  pub none_replied : AreUnreplied g (λ c. is_some (given c))
  none_replied = λ k dflt within some.
      unreplied g.plan g.tale (view_on g) (slice_index_or g.tale.clients k dflt) (slice_index_or g.tale.clients k dflt).taken
      (given_so (slice_index_or g.tale.clients k dflt) (stands.clients.each k dflt within) (given (slice_index_or g.tale.clients k dflt).number) refl some)

pub none_given : (g : Ground) (given : ClientNo → Option (List ℕ)) → ((c : ClientNo) → given c ≡ None) → AreUngiven g (λ c. is_some (given c))
none_given g given none = λ k dflt within some. false_true false refl (sym (ap (λ (o : Option (List ℕ)). is_some o) (none _)) ∙ some)
