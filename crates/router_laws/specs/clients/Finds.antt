-- A core goes on with an entry, by which one client takes up messages that came up at its turns.
use Rattle.std.specs.Prelude.{◌≡◌, ℕ, suc, Bool, List}
use Rattle.mx_wire.specs.Log.{Log}
use Rattle.mx_wire.specs.declared.entry.Entry.{Entry}
use Rattle.client_session.specs.Setups.{Setup as Service}
use Rattle.private_model.specs.Names.{ClientNo}
use Rattle.private_model.specs.View.{Setup}
use Rattle.link_laws.specs.Stands.{Codes}
use Rattle.log_story.specs.Headline.{tale_of}
use Rattle.log_story.specs.Owed.{talk_of}
use Rattle.log_story.specs.Plan.{Plan}
use Rattle.log_story.specs.Tale.{Client}
use Rattle.step_laws.specs.Seats.{IsSeated}
use Rattle.tale_world.specs.Decided.{Decided}
use Rattle.core_tables.specs.Tables.{Tabled}
use Rattle.core_stands.specs.Stands.{Rests}
use Rattle.core_laws.specs.clients.Found.{AreFoundAt}
use Rattle.core_laws.specs.clients.Turns.{Choice, Halt, Turns, count_by}
use Rattle.core_laws.specs.entry.Cores.{with_entry}
use Rattle.core_laws.specs.entry.Tells.{ground}
use Rattle.router_promises.specs.Takings.{takings_at}
use Rattle.router_laws.specs.clients.Counted.{GoesTaking}

-- behind the entry these are its messages from that of this ordinal on
pub record GoesFinding (service : Service) (default : List ℕ) (setup : Setup) (codes : Codes) (plan : Plan) (log : Log) (e : Entry) (old new : Decided)
    (t now : Tabled) (roomy room : ClientNo → Bool) (c : ClientNo) (ordinal : ℕ) (choices : List Choice) (halt : Halt) (mid turned : Tabled)
    (turns : Turns choices halt service default c mid turned) : Type 0 where
  pub goes : GoesTaking service setup codes plan log e old new t now roomy room c (count_by choices halt)
  pub finds : Rests service (ground setup codes plan old log) t roomy → (k : ℕ) → ordinal ≡ suc k → (client : Client)
      → IsSeated (tale_of setup plan (with_entry log e)) client → client.number ≡ c
      → AreFoundAt choices halt service default c mid turned turns setup plan (takings_at setup plan (tale_of setup plan log) e) (talk_of plan client) k
