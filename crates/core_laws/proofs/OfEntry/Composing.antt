-- Entries of one client, and of nobody.
use Rattle.std.specs.Prelude.{◌≡◌, ℕ, suc, Bool, true, false, ◌||◌, All, slice_index_or, List, []}
use Rattle.std.proofs.Common.{refl, sym, subst, inl}
use Rattle.std.proofs.lemmas.List.Elements.{All-nil, All-weaker}
use Rattle.mx_wire.specs.declared.entry.Entry.{Entry}
use Rattle.client_session.specs.Setups.{Setup as Service}
use Rattle.private_model.specs.Names.{ClientNo}
use Rattle.log_story.specs.Servers.{links_are_freed}
use Rattle.log_story.specs.Tale.{Client, Tale}
use Rattle.log_story.specs.Telling.{tale_step}
use Rattle.step_laws.proofs.Giving.{none_in}
use Rattle.step_laws.proofs.Leaving.{none_ended}
use Rattle.step_laws.proofs.Stepping.{step_rests}
use Rattle.step_laws.proofs.Telling.{told_spares}
use Rattle.step_laws.specs.Seats.{IsSeated, is_its}
use Rattle.step_laws.specs.Steps.{EndsNone, IsOfNone, IsOfOne, ends_now, told_then}
use Rattle.step_laws.specs.Taken.{IsIdle, IsPassed, is_called}
use Rattle.core_tables.specs.Tables.{Tabled}
use Rattle.core_stands.specs.Grounds.{Ground, on, view_on}
use Rattle.core_stands.specs.Stands.{Rests, Stands}
use Rattle.core_laws.proofs.OfEntry.Calming.{none_idle, one_idle}
use Rattle.core_laws.proofs.OfEntry.Lists.{seated_of}
use Rattle.core_laws.proofs.OfEntry.Resting.{entry_rests, none_seats, one_seats}
use Rattle.core_laws.specs.entry.Calms.{EndNow, IsLeftCalm}
use Rattle.core_laws.specs.entry.Entries.{AreCalmToo, AreSpared, IsOfNobody, IsSpared, TellsOf, behind}

-- it has nothing to take up, and isn't concerned
left_calm : (whose : ClientNo → Bool) (g : Ground) (e : Entry) (client : Client) → AreSpared whose g e → IsSeated g.tale client
    → whose client.number ≡ false → IsIdle g.setup g.plan g.tale client → IsLeftCalm g.setup g.plan g.tale e client
left_calm whose g e client spared seated other idle =
    let is : IsSpared g e client =
    seated_of (λ (c : Client). whose c.number ≡ false → IsSpared g e c) g.tale client seated spared other in
    record { aside = is.aside; keeps = is.keeps; idle = idle }

module _ (service : Service) (g : Ground) (t now : Tabled) (roomy room : ClientNo → Bool) (e : Entry) (rests : Rests service g t roomy) where
  pub rest_of_one : (over : ClientNo → Bool) (client : Client) (ended : List ClientNo) (freed : Tale)
      → IsOfOne g.setup g.plan g.tale e client ended freed → All (λ (c : ClientNo). is_its client c ≡ true) ended
      → TellsOf (is_its client) g.tale e → AreSpared (is_its client) g e → Stands service (behind g e over) now
      → EndNow g (behind g e over) → ((c : ClientNo) → is_its client c ≡ false → room c ≡ false → roomy c ≡ false)
      → AreCalmToo (is_its client) (behind g e over) room → Rests service (behind g e over) now room
  rest_of_one over client ended freed is theirs its spared stands ends rooms own =
      entry_rests service g t now roomy room e over (is_its client) rests stands ends
      (one_seats g.setup g.plan client g.tale e ended freed is theirs its)
      (λ other seated aside idle. one_idle g.setup g.plan other g.tale e client ended freed is theirs aside
      (left_calm (is_its client) g e other spared seated aside idle))
      rooms own

  module _ (nobody : IsOfNobody g e) where
    abbrev heard : Tale
    heard = told_then g.setup g.plan g.tale e

    none_freed : links_are_freed g.setup g.plan heard ≡ heard
    none_freed = none_in g.setup g.plan heard.links heard (λ l there. nobody.unfreed l there)

    none_ends : EndsNone g.plan heard
    none_ends = λ k d within.
        subst (λ (m : ℕ). ends_now g.plan (suc m) (slice_index_or heard.clients k d).number ≡ false) (sym (told_spares g.setup g.plan g.tale e).moment)
        (nobody.endless (slice_index_or heard.clients k d).number)

    of_none : IsOfNone g.setup g.plan g.tale e [] heard
    of_none = record {
      first = none_freed;
      passes = All-weaker (λ (c : Client). is_called g.plan heard.moment (view_on g) e c ≡ false)
          (λ (c : Client). false ≡ false → IsPassed g.setup g.plan (view_on g) e heard c) (λ c uncalled other. inl uncalled) heard.clients nobody.uncalled;
      ends = none_ended g.plan heard none_ends;
    }

    pub told_alone : tale_step g.setup g.plan g.tale e ≡ heard
    told_alone = step_rests g.setup g.plan g.tale e heard of_none

    or_none : (a b : Bool) → b ≡ false → a ≡ (a || b)
    or_none true b none = refl
    or_none false b none = sym none

    pub rest_of_nobody : (whose : ClientNo → Bool) → TellsOf whose g.tale e → AreSpared whose g e → Stands service (on g heard) now
        → ((c : ClientNo) → whose c ≡ false → room c ≡ false → roomy c ≡ false) → AreCalmToo whose (behind g e g.over) room
        → Rests service (behind g e g.over) now room
    rest_of_nobody whose its spared stands rooms own =
        entry_rests service g t now roomy room e g.over whose rests
        (subst (λ (tale : Tale). Stands service (on g tale) now) (sym told_alone) stands)
        (λ c. or_none (g.over c) (ends_now g.plan (suc g.tale.moment) c) (nobody.endless c))
        (none_seats g.setup g.plan whose g.tale e [] heard of_none its)
        (λ other seated aside idle. none_idle g.setup g.plan other g.tale e [] heard whose of_none
        (All-nil (λ (c : ClientNo). whose c ≡ true)) aside (left_calm whose g e other spared seated aside idle))
        rooms own
