-- What a client's row says of it, as its turns ask.
use Rattle.std.specs.Prelude.{◌≡◌, ◌<◌, ◌+◌, ◌^◌, ℕ, suc, Bool, true, false, not, ◌&&◌, is_some, if◌then◌else◌, Option, Some, None}
use Rattle.std.specs.Option.{option_map, option_map_or}
use Rattle.std.proofs.Common.{refl, sym, ap, ◌∙◌, subst}
use Rattle.mx_base.specs.declared.names.Hostgroup.{Hostgroup}
use Rattle.client_session.specs.Setups.{Setup as Service}
use Rattle.private_model.specs.View.{Held, present}
use Rattle.log_story.specs.Clients.{captures_first, waits_for_capture}
use Rattle.log_story.specs.Owed.{name_of}
use Rattle.log_story.specs.Plan.{Route}
use Rattle.log_story.specs.Tale as tales
use Rattle.client_desk.specs.Desks.{session_of}
use Rattle.client_seat.specs.Seats.{is_ended}
use Rattle.client_seat.specs.Stands.{IsHeardIn}
use Rattle.client_seat.specs.declared.phase.Phase.{Phase}
use Rattle.client_seat.specs.declared.phase.Phase.TheVariants as phase
use Rattle.session_state.specs.Pins.{is_pinned}
use Rattle.desk_laws.specs.Stands.{held_of, name_at}
use Rattle.step_laws.specs.Seats.{IsSeated}
use Rattle.core_tables.specs.Tables.{Tabled}
use Rattle.core_tables.specs.declared.client.Client.{Client}
use Rattle.core_stands.specs.Clients.{IsClient, IsClientOr, IsGoing, IsPhase}
use Rattle.core_stands.specs.Grounds.{Ground, view_on}
use Rattle.core_stands.specs.Stands.{Stands}
use Rattle.core_laws.specs.parting.Partings.{HasLives}
use Rattle.core_laws.proofs.OfArrival.Finding.{at-known, false-true}
use Rattle.core_laws.specs.clients.Turns.{MayLeave, waits_at}

module _ (service : Service) (g : Ground) (t : Tabled) (client : tales.Client) (row : Client) (stands : Stands service g t)
    (seated : IsSeated g.tale client) (there : t.clients client.number ≡ Some row) where
  pub its_row : IsClient g client row
  its_row = subst (λ (found : Option Client). IsClientOr g client found) there
      (at-known g t client.number client stands.clients (record { seated = seated; number = refl })).row

  -- its sessions are those that are present

  pub held_is : (h : Hostgroup) → (view_on g).held (present (view_on g) client.number h) ≡ held_of (session_of row.desk h)
  held_is h =
      ap (λ (life : ℕ). (view_on g).held (name_at client.number h life)) (its_row.desk.sessions.each h).life
      ∙ (its_row.desk.sessions.each h).held

  pub has_lives : MayLeave row → HasLives (view_on g) client.number
  has_lives may = λ h. subst (λ (life : ℕ). suc life < 2 ^ 64) (sym (its_row.desk.sessions.each h).life) (may h)

  module _ (going : g.over client.number ≡ false) where
    unended_by : (b : Bool) → IsPhase b g client row → b ≡ false
    unended_by false is = refl
    unended_by true is = false-true (g.over client.number) going is.over

    pub unended : is_ended row.desk.seat.phase ≡ false
    unended = unended_by (is_ended row.desk.seat.phase) its_row.phase

    going_of : (b : Bool) → b ≡ false → IsPhase b g client row → IsGoing g client row
    going_of false e is = is
    going_of true e is = false-true true e refl

    pub its_going : IsGoing g client row
    its_going = going_of (is_ended row.desk.seat.phase) unended its_row.phase

    arrived_in : (at : Phase) → is_ended at ≡ false → IsHeardIn at g.plan client row.desk.seat → row.desk.seat.client.arrived ≡ client.taken
    arrived_in phase.LoggingIn e is = is.arrived ∙ sym is.untaken
    arrived_in (phase.Serving account) e is = is.arrived
    arrived_in phase.Ended e is = false-true true e refl

    pub few_so : row.desk.seat.client.arrived + 1 < 18446744073709551616 → client.taken + 1 < 18446744073709551616
    few_so few = subst (λ (n : ℕ). n + 1 < 18446744073709551616) (arrived_in row.desk.seat.phase unended its_row.heard) few

    captures_so : (h : Hostgroup) → (not (is_pinned (session_of row.desk h).pin) && not (is_some (session_of row.desk h).id))
        ≡ captures_first ((view_on g).held (present (view_on g) client.number h))
    captures_so h = sym (ap (λ (held : Held). captures_first held) (held_is h))

    waits_by : (found : Option Route)
        → option_map_or (λ (h : Hostgroup). not (is_pinned (session_of row.desk h).pin) && not (is_some (session_of row.desk h).id))
        (option_map (λ (route : Route). route.hostgroup) found) false
        ≡ option_map_or (λ (route : Route). captures_first ((view_on g).held (present (view_on g) client.number route.hostgroup))) found false
    waits_by None = refl
    waits_by (Some route) = captures_so route.hostgroup

    pub waits_so : waits_at row ≡ waits_for_capture (view_on g) g.plan client
    waits_so =
        ap (λ (went : Option Hostgroup).
        option_map_or (λ (h : Hostgroup). not (is_pinned (session_of row.desk h).pin) && not (is_some (session_of row.desk h).id)) went false)
        its_going.went
        ∙ waits_by (g.plan.routes (name_of client client.taken))
