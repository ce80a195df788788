-- Who has nothing to take up before an entry has nothing to take up behind it, unless it is of that client.
use Rattle.std.specs.Prelude.{◌≡◌, ℕ, suc, Bool, true, false, All, List}
use Rattle.std.proofs.Common.{refl, sym, subst}
use Rattle.mx_wire.specs.declared.entry.Entry.{Entry}
use Rattle.private_model.proofs.Maps.{same_number}
use Rattle.private_model.specs.Names.{ClientNo}
use Rattle.private_model.specs.View.{Setup}
use Rattle.log_story.specs.Clients.{client_goes_on}
use Rattle.log_story.specs.Plan.{Plan}
use Rattle.log_story.specs.Servers.{links_are_freed}
use Rattle.log_story.specs.Tale.{Client, Tale, counted, view_of}
use Rattle.log_story.specs.Telling.{tale_step, told}
use Rattle.step_laws.proofs.Apart.{counted_apart, freed_apart}
use Rattle.step_laws.proofs.Leaving.{leave_spares}
use Rattle.step_laws.proofs.Others.{as_it_was, idle_by, spared_alike}
use Rattle.step_laws.proofs.Stepping.{step_none, step_one}
use Rattle.step_laws.proofs.Taking.{goes_spares, others_along}
use Rattle.step_laws.proofs.Telling.{told_spares}
use Rattle.step_laws.specs.Seats.{is_its}
use Rattle.step_laws.specs.Steps.{IsOfNone, IsOfOne, leave, told_then}
use Rattle.step_laws.specs.Taken.{GivesUpNone, IsAsItWas, IsIdle, SparesOthers}
use Rattle.core_laws.proofs.OfEntry.Telling.{told_aside}
use Rattle.core_laws.specs.entry.Calms.{IsLeftCalm}

module _ (setup : Setup) (plan : Plan) (client : Client) where
  abbrev Idle : Tale → Type 0
  Idle tale = IsIdle setup plan tale client

  idle_on : (old new : Tale) → IsAsItWas setup plan old new client → Idle old → Idle new
  idle_on old new is idle = idle_by setup plan client old new is.up idle

  freed_idle : (tale : Tale) → Idle tale → Idle (links_are_freed setup plan tale)
  freed_idle tale idle = idle_on tale (links_are_freed setup plan tale) (freed_apart setup plan client tale.links tale) idle

  pub first_idle : (tale : Tale) (e : Entry) → IsLeftCalm setup plan tale e client → Idle (links_are_freed setup plan (told_then setup plan tale e))
  first_idle tale e calm =
      let said : Tale = told setup plan tale e in
      freed_idle (counted said)
      (idle_on said (counted said)
      (counted_apart setup plan client said
      (subst (λ (m : ℕ). GivesUpNone plan (suc m) client) (sym (told_spares setup plan tale e).moment) calm.keeps))
      (idle_on tale said (told_aside setup plan client tale e calm.aside) calm.idle))

  spared_idle : (whose : ClientNo → Bool) (old new : Tale) → SparesOthers setup whose old new → whose client.number ≡ false → Idle old → Idle new
  spared_idle whose old new spares other idle =
      idle_on old new (as_it_was setup plan client old new (spared_alike setup plan whose old new spares client other)) idle

  -- others' messages are taken up, and others leave
  pub one_idle : (tale : Tale) (e : Entry) (called : Client) (ended : List ClientNo) (freed : Tale) → IsOfOne setup plan tale e called ended freed
      → All (λ (c : ClientNo). is_its called c ≡ true) ended → is_its called client.number ≡ false → IsLeftCalm setup plan tale e client
      → Idle (tale_step setup plan tale e)
  one_idle tale e called ended freed is theirs other calm =
      let first : Idle freed = subst Idle is.first (first_idle tale e calm) in
      let gone : Tale = client_goes_on setup plan (view_of setup tale) e freed called in
      let left : Tale = leave ended gone in
      let spares : SparesOthers setup (is_its called) freed left =
      others_along setup (is_its called) freed gone left
      (goes_spares setup (is_its called) plan is.single (view_of setup tale) e called freed (same_number called.number.0))
      (leave_spares setup (is_its called) ended gone theirs) in
      subst Idle (sym (step_one setup plan tale e called ended freed (links_are_freed setup plan left) is refl))
      (freed_idle left (spared_idle (is_its called) freed left spares other first))

  pub none_idle : (tale : Tale) (e : Entry) (ended : List ClientNo) (freed : Tale) (whose : ClientNo → Bool) → IsOfNone setup plan tale e ended freed
      → All (λ (c : ClientNo). whose c ≡ true) ended → whose client.number ≡ false → IsLeftCalm setup plan tale e client
      → Idle (tale_step setup plan tale e)
  none_idle tale e ended freed whose is theirs other calm =
      let first : Idle freed = subst Idle is.first (first_idle tale e calm) in
      let left : Tale = leave ended freed in
      subst Idle (sym (step_none setup plan tale e ended freed (links_are_freed setup plan left) is refl))
      (freed_idle left (spared_idle whose freed left (leave_spares setup whose ended freed theirs) other first))
