-- A client that is served, and waits for a capture, has nothing to look at.
use Rattle.std.specs.Prelude.{◌≡◌, ℕ, Bool, is_some, true, false, not, ◌&&◌, Option, Some, None}
use Rattle.std.specs.Option.{option_map, option_map_or}
use Rattle.std.proofs.Common.{refl, sym, ap, ◌∙◌, subst}
use Rattle.std.proofs.lemmas.List.Elements.{All-weaker}
use Rattle.mx_base.specs.declared.names.Hostgroup.{Hostgroup}
use Rattle.server_side.specs.Account.{Account}
use Rattle.client_session.specs.Setups.{Setup as Service}
use Rattle.private_model.specs.Names.{ClientNo}
use Rattle.private_model.specs.Story.{is_client}
use Rattle.log_story.specs.Owed.{name_of}
use Rattle.log_story.specs.Plan.{Route}
use Rattle.log_story.specs.Tale as tales
use Rattle.client_desk.specs.Desks.{session_of}
use Rattle.client_seat.specs.Seats.{is_ended}
use Rattle.client_seat.specs.Stands.{IsHeardIn}
use Rattle.client_seat.specs.declared.phase.Phase.{Phase}
use Rattle.client_seat.specs.declared.phase.Phase.TheVariants as phase
use Rattle.session_state.specs.Pins.{is_pinned}
use Rattle.step_laws.specs.Seats.{IsSeated}
use Rattle.core_tables.specs.Tables.{Tabled}
use Rattle.core_tables.specs.declared.client.Client.{Client}
use Rattle.core_stands.specs.Clients.{IsClient, IsClientOr, IsGoing, IsOwing, IsPhase}
use Rattle.core_stands.specs.Grounds.{Ground, looked_at}
use Rattle.core_stands.specs.Stands.{IsAt, Stands}
use Rattle.core_laws.proofs.OfArrival.Changing.{stands-told}
use Rattle.core_laws.proofs.OfArrival.Finding.{client-true, false-true, map-itself}
use Rattle.core_laws.proofs.OfArrival.Grounding.{Aside, regrounded}
use Rattle.core_laws.proofs.OfArrival.Liking.{client-before, going-like}
use Rattle.core_laws.proofs.OfArrival.Messaging.{looking, unfresh}
use Rattle.core_laws.proofs.OfClients.Facts.{its_going, its_row, unended}
use Rattle.core_laws.specs.clients.Turns.{waits_at}
use Rattle.core_laws.proofs.OfPrepared.Mapping.{has_same}

module _ (service : Service) (g : Ground) (t : Tabled) (c : ClientNo) (row : Client) (account : Account) (was : Stands service g t)
    (there : t.clients c ≡ Some row) (serves : row.desk.seat.phase ≡ phase.Serving account) where
  abbrev by : Aside
  by = looking g (unfresh g c)

  abbrev after : Ground
  after = regrounded by g

  served : (x : tales.Client) → IsClient g x row → IsClient after x row
  served x is =
      let owed = subst (λ (at : Phase). IsOwing at (g.fresh x.number) g x row.desk.seat) serves is.owed in
      let going : IsGoing g x row = subst (λ (at : Phase). IsPhase (is_ended at) g x row) serves is.phase in
      record {
        who = is.who;
        heard = is.heard;
        owed = subst (λ (at : Phase). IsOwing at (unfresh g c x.number) after x row.desk.seat) (sym serves)
            (record { written = owed.written; size = owed.size; all = owed.all });
        desk = is.desk;
        coming = is.coming;
        phase = subst (λ (at : Phase). IsPhase (is_ended at) after x row) (sym serves)
            (going-like g by x x (record { number = refl; taken = refl; own = λ ordinal below. refl }) row row.desk.seat going.going refl refl
            (λ busy. (refl, refl)) (λ busy message at. at) going.account going.collation going.unmoved going);
      }

  each : (x : tales.Client) → IsAt g t x → IsClientOr after x (t.clients x.number)
  each x at = by_number (is_client c x.number) refl where
    by_number : (b : Bool) → is_client c x.number ≡ b → IsClientOr after x (t.clients x.number)
    by_number false aside =
        client-before g by x (record {
          own = λ ordinal below. refl;
          word = λ over. refl;
          over = refl;
          fresh = ap (λ (b : Bool). not b && g.fresh x.number) aside;
        }) (t.clients x.number) at.row
    by_number true its =
        let here : t.clients x.number ≡ Some row = ap t.clients (sym (client-true c x.number its)) ∙ there in
        subst (λ (found : Option Client). IsClientOr after x found) (sym here)
        (served x (subst (λ (found : Option Client). IsClientOr g x found) here at.row))

  pub looked_anyway : Stands service (looked_at c g) t
  looked_anyway =
      stands-told g by t (λ (x : tales.Client). x)
      (record {
        clients = sym (map-itself g.tale.clients);
        moment = refl;
        number = λ x. refl;
        link = λ x. refl;
        taken = λ x. refl;
        more = λ x. has_same g.plan x;
        ends = λ n is. is;
        kept = λ n. refl;
        numbers = λ l. refl;
      }) service was
      (All-weaker (IsAt g t) (λ (x : tales.Client). IsClientOr after x (t.clients x.number)) each g.tale.clients was.clients.each)

-- It is served, if it waits: of no message before its first there is a route.
module _ (service : Service) (g : Ground) (t : Tabled) (client : tales.Client) (row : Client) (stands : Stands service g t)
    (seated : IsSeated g.tale client) (there : t.clients client.number ≡ Some row) (going : g.over client.number ≡ false)
    (unrouted : g.plan.routes (name_of client 0) ≡ None) (waits : waits_at row ≡ true) where
  went_none : client.taken ≡ 0 → row.went ≡ None
  went_none none =
      (its_going service g t client row stands seated there going).went
      ∙ ap (option_map (λ (route : Route). route.hostgroup)) (ap (λ (n : ℕ). g.plan.routes (name_of client n)) none ∙ unrouted)

  waits_none : client.taken ≡ 0 → waits_at row ≡ false
  waits_none none = ap (λ (went : Option Hostgroup).
      option_map_or (λ (h : Hostgroup). not (is_pinned (session_of row.desk h).pin) && not (is_some (session_of row.desk h).id)) went false)
      (went_none none)

  looked_by : (at : Phase) → row.desk.seat.phase ≡ at → IsHeardIn at g.plan client row.desk.seat → Stands service (looked_at client.number g) t
  looked_by phase.LoggingIn e heard = false-true (waits_at row) (waits_none heard.untaken) waits
  looked_by (phase.Serving account) e heard = looked_anyway service g t client.number row account stands there e
  looked_by phase.Ended e heard = false-true true (ap is_ended (sym e) ∙ unended service g t client row stands seated there going) refl

  pub looked_waiting : Stands service (looked_at client.number g) t
  looked_waiting = looked_by row.desk.seat.phase refl (its_row service g t client row stands seated there).heard
