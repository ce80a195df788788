-- A core goes on with an entry, by which one client takes up so many messages, and others none.
use Rattle.std.specs.Prelude.{◌≡◌, ◌+◌, ℕ, Bool, true, false}
use Rattle.mx_wire.specs.Log.{Log}
use Rattle.mx_wire.specs.declared.entry.Entry.{Entry}
use Rattle.client_session.specs.Setups.{Setup as Service}
use Rattle.private_model.specs.Names.{ClientNo}
use Rattle.private_model.specs.Story.{is_client}
use Rattle.private_model.specs.View.{Setup}
use Rattle.link_laws.specs.Stands.{Codes}
use Rattle.log_story.specs.Headline.{tale_of}
use Rattle.log_story.specs.Plan.{Plan}
use Rattle.log_story.specs.Tale.{Client, Tale}
use Rattle.log_story.specs.Telling.{tale_step}
use Rattle.step_laws.specs.Seats.{IsSeated, seats}
use Rattle.tale_world.specs.Decided.{Decided}
use Rattle.core_tables.specs.Tables.{Tabled}
use Rattle.core_stands.specs.Stands.{Rests}
use Rattle.core_laws.specs.entry.Cores.{GoesOn}
use Rattle.core_laws.specs.entry.Tells.{ground}

pub record TakesOne (c : ClientNo) (count : ℕ) (old new : Tale) : Type 0 where
  pub its : (was now : Client) → IsSeated old was → IsSeated new now → is_client c was.number ≡ true → is_client c now.number ≡ true
      → now.taken ≡ was.taken + count
  pub others : (n : ClientNo) → is_client c n ≡ false → seats new n ≡ seats old n

pub record GoesTaking (service : Service) (setup : Setup) (codes : Codes) (plan : Plan) (log : Log) (e : Entry) (old new : Decided) (t now : Tabled)
    (roomy room : ClientNo → Bool) (c : ClientNo) (count : ℕ) : Type 0 where
  pub goes : GoesOn service setup codes plan log e old new t now roomy room
  pub takes : Rests service (ground setup codes plan old log) t roomy
      → TakesOne c count (tale_of setup plan log) (tale_step setup plan (tale_of setup plan log) e)
