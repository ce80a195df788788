-- A client's messages are taken up one by one.
use Rattle.std.specs.Prelude.{◌≡◌, ◌≤◌, ℕ, zero, suc, ◌+◌, length, slice_get, Some}
use Rattle.std.proofs.Common.{refl, sym, ◌∙◌, arith}
use Rattle.std.proofs.lemmas.Option.{none-some}
use Rattle.client_session.specs.Setups.{Setup as Service}
use Rattle.log_story.specs.Clients.{taken_up}
use Rattle.log_story.specs.Owed.{messages}
use Rattle.log_story.specs.Tale as tales
use Rattle.log_story.specs.Tale.{Tale, with_client}
use Rattle.step_laws.proofs.Taking.{idle_takes, next_takes, once_seats, past_idle, seated_next}
use Rattle.step_laws.specs.Seats.{IsSeated}
use Rattle.step_laws.specs.Taken.{IsIdle, all_taken, next_made, next_of}
use Rattle.core_tables.specs.Tables.{Tabled}
use Rattle.core_stands.specs.Grounds.{Ground, looked_at, on}
use Rattle.core_stands.specs.Stands.{Stands}
use Rattle.core_laws.specs.entry.Loops.{IsTaking}

pub taking_begins : (service : Service) (g : Ground) (t : Tabled) (client : tales.Client) → Stands service g t → IsSeated g.tale client
    → IsTaking service client g.tale g t client
taking_begins service g t client stands seated = record {
  stands = stands;
  seated = seated;
  number = refl;
  most = length (messages g.plan client);
  enough = omega arith;
  to_come = refl;
}

module _ (service : Service) (first client : tales.Client) (from : Tale) (g : Ground) (t : Tabled) (is : IsTaking service first from g t client) where
  pub taking_looks : (now : Tabled) → Stands service (looked_at client.number g) now → IsTaking service first from (looked_at client.number g) now client
  taking_looks now stands = record {
    stands = stands;
    seated = is.seated;
    number = is.number;
    most = is.most;
    enough = is.enough;
    to_come = is.to_come;
  }

  module _ (now : Tabled) (other : Tale) (next : next_made g.setup g.plan client g.tale ≡ Some other)
      (stands : Stands service (on g (with_client (next_of client) other)) now) where
    goes : (most : ℕ) → length (messages g.plan client) ≤ most + client.taken
        → taken_up most g.setup g.plan client g.tale ≡ all_taken g.setup g.plan first from
        → IsTaking service first from (on g (with_client (next_of client) other)) now (next_of client)
    goes zero enough to_come =
        absurd (none-some other (sym (past_idle g.setup g.plan client g.tale (omega (arith, enough))) ∙ next))
    goes (suc most) enough to_come = record {
      stands = stands;
      seated = seated_next g.setup g.plan client (next_of client) g.tale other refl
          (once_seats g.setup g.plan client (slice_get (messages g.plan client) client.taken) g.tale other next) is.seated;
      number = is.number;
      most = most;
      enough = let size : length (messages g.plan client) ≤ most + suc client.taken = omega (arith, enough) in size;
      to_come = sym (next_takes g.setup g.plan most client g.tale other next) ∙ to_come;
    }

    pub taking_goes_on : IsTaking service first from (on g (with_client (next_of client) other)) now (next_of client)
    taking_goes_on = goes is.most is.enough is.to_come

  pub taking_ends : IsIdle g.setup g.plan g.tale client → all_taken g.setup g.plan first from ≡ g.tale
  taking_ends idle = sym is.to_come ∙ idle_takes g.setup g.plan is.most client g.tale idle
