-- A core goes on with an entry.
use Rattle.std.specs.Prelude.{◌≡◌, ℕ, suc, ◌+◌, Bool, true, false, All, length, List, [], ◌∷◌}
use Rattle.std.proofs.Common.{refl, sym, ◌∙◌, subst, append-nil, arith, length-append}
use Rattle.std.proofs.lemmas.List.Elements.{All-weaker}
use Rattle.mx_wire.specs.Log.{Log}
use Rattle.mx_wire.specs.declared.entry.Entry.{Entry}
use Rattle.client_session.specs.Setups.{Setup as Service}
use Rattle.private_model.specs.Names.{ClientNo}
use Rattle.private_model.specs.View.{Setup}
use Rattle.link_laws.specs.Stands.{Codes}
use Rattle.log_story.specs.Headline.{tale_of}
use Rattle.log_story.specs.Plan.{Plan}
use Rattle.log_story.specs.Tale.{Client, Tale}
use Rattle.step_laws.proofs.Seating.{counted_seats}
use Rattle.step_laws.specs.Seats.{AreCounted, IsSeated, numbers}
use Rattle.tale_world.specs.Decided.{Decided}
use Rattle.core_tables.specs.Tables.{Tabled}
use Rattle.core_stands.specs.Stands.{Rests}
use Rattle.core_laws.proofs.OfEntry.Deciding.{all_before, of_before}
use Rattle.core_laws.specs.entry.Cores.{GoesOn, GoesOnBy, with_entry}
use Rattle.core_laws.specs.entry.Dues.{AreWrittenTo}
use Rattle.core_laws.specs.entry.Entries.{KeepsSeats}
use Rattle.core_laws.specs.entry.Grows.{IsHeardMore, IsMoreBy}
use Rattle.core_laws.specs.entry.Safe.{IsSafe}
use Rattle.core_laws.specs.entry.Tells.{AreOpen, Fits, IsCore, IsOf, ground}

heard_itself : (new : Tale) (client : Client) → IsSeated new client → IsHeardMore new client
heard_itself new client seated = record {
  now = client;
  seated = seated;
  number = refl;
  port = refl;
  salt = refl;
  more = [];
  read = sym (append-nil client.read);
}

pub all_heard : (whose : ClientNo → Bool) (old new : Tale) → AreCounted 1 (numbers old) → KeepsSeats whose old new
    → ((client : Client) → IsSeated old client → whose client.number ≡ true → IsHeardMore new client)
    → All (λ (client : Client). IsHeardMore new client) old.clients
all_heard whose old new counted seats own =
    All-weaker (IsSeated old) (λ (client : Client). IsHeardMore new client) each old.clients (counted_seats old counted) where
      each : (client : Client) → IsSeated old client → IsHeardMore new client
      each client seated = by (whose client.number) refl where
        by : (b : Bool) → whose client.number ≡ b → IsHeardMore new client
        by true its = own client seated its
        by false other = heard_itself new client (seats client.number other ∙ seated)

module _ (service : Service) (default : List ℕ) (log : Log) (e : Entry) (t now : Tabled) (roomy room : ClientNo → Bool) (new : Decided)
    (core : IsCore service default log t roomy) (more : IsMoreBy (length log) core.decided new)
    (goes : GoesOnBy service default log e core.decided new t now roomy room) where
  one_more : length (with_entry log e) ≡ suc (length log)
  one_more = let size : length (with_entry log e) ≡ length log + length (e ∷ []) = length-append log (e ∷ []) in omega (arith, size)

  module _ (setup : Setup) (codes : Codes) (plan : Plan) (of : IsOf new (length (with_entry log e)) plan)
      (fits : Fits new.keys setup codes plan default (tale_of setup plan (with_entry log e))) where
    on : GoesOn service setup codes plan log e core.decided new t now roomy room
    on = goes setup codes plan of fits

    of_then : IsOf core.decided (length log) plan
    of_then = of_before core.decided new (length log) plan more (subst (λ (n : ℕ). IsOf new n plan) one_more of)

    fits_then : Fits core.decided.keys setup codes plan default (tale_of setup plan log)
    fits_then = record {
      classes = fits.classes;
      named = fits.named;
      keyed = λ k key was. fits.keyed k key (more.keys k key was);
      who = all_before setup plan default (tale_of setup plan log) (tale_of setup plan (with_entry log e)) on.heard fits.who;
      single = fits.single;
    }

    rests_then : Rests service (ground setup codes plan core.decided log) t roomy
    rests_then = core.rests setup codes plan of_then fits_then

    rests_now : Rests service (ground setup codes plan new (with_entry log e)) now room
    rests_now = on.rests rests_then

    written_now : AreWrittenTo (ground setup codes plan new (with_entry log e)) (with_entry log e)
    written_now = on.written rests_then rests_now (core.written setup codes plan of_then fits_then)

    safe_now : IsSafe setup plan (with_entry log e)
    safe_now = on.safe rests_then rests_now written_now (core.safe setup codes plan of_then fits_then)

  pub core_goes_on : AreOpen (with_entry log e) now → IsCore service default (with_entry log e) now room
  core_goes_on opened = record { decided = new; rests = rests_now; safe = safe_now; written = written_now; opened = opened }
