-- The row of a client that goes on, as the loop waits.
use Rattle.std.specs.Prelude.{◌≡◌, Bool, true, false, Option, Some, None}
use Rattle.std.proofs.Common.{refl, sym, ◌∙◌}
use Rattle.std.proofs.lemmas.Bool.{true≢false}
use Rattle.private_model.specs.Names.{ClientNo}
use Rattle.link_laws.specs.Stands.{Codes}
use Rattle.log_story.specs.Tale as tales
use Rattle.core_tables.specs.Tables.{Tabled}
use Rattle.core_tables.specs.declared.client.Client.{Client}
use Rattle.client_seat.specs.Seats.{is_ended}
use Rattle.core_stands.specs.Clients.{IsClient, IsClientOr, IsGoing, IsPhase}
use Rattle.core_stands.specs.Grounds.{AreOver, Ground}
use Rattle.core_stands.specs.Stands.{IsAt}
use Rattle.router_promises.specs.Now.{Now}
use Rattle.router_promises.specs.Terms.{Terms, plan_in, setup_in}
use Rattle.router_promises.specs.Wakes.{has_ended}

-- what the core stands for, by what is known at a moment
abbrev pub ground_now : Terms → Codes → (over : ClientNo → Bool) → Now → Ground
ground_now terms codes over now = record {
  setup = setup_in terms;
  codes = codes;
  plan = plan_in terms;
  tale = now.tale;
  over = over;
  fresh = λ c. false;
}

pub record HasRow (g : Ground) (t : Tabled) (client : tales.Client) : Type 0 where
  pub row : Client
  pub there : t.clients client.number ≡ Some row
  pub stands : IsClient g client row
  pub goes : is_ended row.desk.seat.phase ≡ false
  pub going : IsGoing g client row

going_by : (g : Ground) (client : tales.Client) (row : Client) (ended : Bool) → is_ended row.desk.seat.phase ≡ ended → g.over client.number ≡ false
    → IsPhase ended g client row → (is_ended row.desk.seat.phase ≡ false) × IsGoing g client row
going_by g client row true is on phase = absurd (true≢false (sym phase.over ∙ on))
going_by g client row false is on phase = (is, phase)

row_by : (g : Ground) (t : Tabled) (client : tales.Client) (found : Option Client) → t.clients client.number ≡ found → g.over client.number ≡ false
    → IsClientOr g client found → HasRow g t client
row_by g t client None there on is = absurd (true≢false (sym is.over ∙ on))
row_by g t client (Some row) there on is =
    let by = going_by g client row (is_ended row.desk.seat.phase) refl on is.phase in
    record { row = row; there = there; stands = is; goes = by.0; going = by.1 }

pub row_of : (g : Ground) (t : Tabled) (client : tales.Client) → IsAt g t client → g.over client.number ≡ false → HasRow g t client
row_of g t client at on = row_by g t client (t.clients client.number) refl on at.row

-- who goes on by the plan is over for nobody
pub going_of : (terms : Terms) (codes : Codes) (over : ClientNo → Bool) (now : Now) (client : tales.Client) → AreOver (ground_now terms codes over now)
    → has_ended terms now client ≡ false → over client.number ≡ false
going_of terms codes over now client overs on = overs client.number ∙ on
