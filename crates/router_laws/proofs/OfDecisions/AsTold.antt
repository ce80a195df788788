-- As an entry was told, before anything of it is taken up, what was answered before is answered so.
use Rattle.std.specs.Prelude.{◌≡◌, ◌&&◌, ◌||◌, ℕ, suc, Bool, true, false, fold, if◌then◌else◌, length, nat_eq, nat_lt, not, List, [], ◌∷◌, Some}
use Rattle.std.proofs.Common.{refl, sym, ap, ◌∙◌, subst, arith}
use Rattle.std.proofs.lemmas.Bool.{lt-ltb, ne_eqb}
use Rattle.mx_wire.specs.declared.entry.Entry.{Entry}
use Rattle.private_model.specs.Commands.{Reply}
use Rattle.private_model.specs.Lawful.{IsLawful}
use Rattle.private_model.specs.Names.{MessageName}
use Rattle.private_model.specs.Story.{Left}
use Rattle.private_model.specs.View.{Setup}
use Rattle.log_story.specs.Clients.{client_goes_on, clients_are_ended, ended_if_now, is_event_of, taken_up}
use Rattle.log_story.specs.Owed.{messages, name_of}
use Rattle.log_story.specs.Plan.{Plan, gives_up}
use Rattle.log_story.specs.Servers.{links_are_freed}
use Rattle.log_story.specs.Tale.{Client, Tale, tell, view_of}
use Rattle.log_story.specs.Telling.{tale_step, told}
use Rattle.step_laws.proofs.Giving.{kept_in, none_in, none_left}
use Rattle.step_laws.proofs.Telling.{told_spares}
use Rattle.step_laws.specs.Steps.{told_then}
use Rattle.core_laws.proofs.OfEntry.Replies.{replies_on}

module _ (setup : Setup) (plan : Plan) (tale : Tale) (e : Entry) where
  abbrev pub as_told : Tale
  as_told = links_are_freed setup plan (told_then setup plan tale e)

  pub told_moment : as_told.moment ≡ suc tale.moment
  told_moment =
      kept_in setup plan (λ (t : Tale). t.moment) (λ story t. refl) (told_then setup plan tale e).links (told_then setup plan tale e)
      ∙ ap suc (told_spares setup plan tale e).moment

  -- That is all of the entry, by a plan that ended all before.

  abbrev ended_all : Plan
  ended_all = record plan { ends = λ c. Some 0 }

  and_false : (b : Bool) → (b && false) ≡ false
  and_false true = refl
  and_false false = refl

  over_then : (now : Tale) (n : ℕ) → now.moment ≡ suc n → not (nat_lt 0 now.moment) ≡ false
  over_then now n at = ap not (ap (nat_lt 0) at ∙ lt-ltb 0 (suc n) (omega arith))

  stays_on : (now : Tale) (n : ℕ) → now.moment ≡ suc n → (x : Client) → client_goes_on setup ended_all (view_of setup tale) e now x ≡ now
  stays_on now n at x =
      let may : Bool = is_event_of (view_of setup tale) x e || gives_up plan now.moment (name_of x x.taken) in
      ap (λ (b : Bool). if b then taken_up (length (messages ended_all x)) setup ended_all x now else now)
      (ap (λ (b : Bool). may && b) (over_then now n at) ∙ and_false may)

  none_on : (xs : List Client) (now : Tale) (n : ℕ) → now.moment ≡ suc n
      → fold (client_goes_on setup ended_all (view_of setup tale) e) now xs ≡ now
  none_on [] now n at = refl
  none_on (x ∷ xs) now n at =
      ap (λ (t : Tale). fold (client_goes_on setup ended_all (view_of setup tale) e) t xs) (stays_on now n at x) ∙ none_on xs now n at

  still_there : (now : Tale) (n : ℕ) → now.moment ≡ suc n → (x : Client) → ended_if_now ended_all now x ≡ now
  still_there now n at x =
      ap (λ (b : Bool). if b then tell (Left x.number) now else now) (ap (nat_eq 0) at ∙ ne_eqb 0 (suc n) (λ same. omega (arith, same)))

  none_ended : (xs : List Client) (now : Tale) (n : ℕ) → now.moment ≡ suc n → fold (ended_if_now ended_all) now xs ≡ now
  none_ended [] now n at = refl
  none_ended (x ∷ xs) now n at =
      ap (λ (t : Tale). fold (ended_if_now ended_all) t xs) (still_there now n at x) ∙ none_ended xs now n at

  as_step : tale_step setup ended_all tale e ≡ as_told
  as_step =
      ap (λ (t : Tale). links_are_freed setup ended_all (clients_are_ended ended_all t)) (none_on as_told.clients as_told tale.moment told_moment)
      ∙ ap (links_are_freed setup ended_all) (none_ended as_told.clients as_told tale.moment told_moment)
      ∙ none_in setup ended_all as_told.links as_told (none_left setup ended_all (told_then setup ended_all tale e))

  pub told_replies : IsLawful setup as_told.story → (m : MessageName) (reply : Reply) → (view_of setup tale).replies m ≡ Some reply
      → (view_of setup as_told).replies m ≡ Some reply
  told_replies lawful m reply was =
      subst (λ (t : Tale). (view_of setup t).replies m ≡ Some reply) as_step
      (replies_on setup ended_all tale e (subst (λ (t : Tale). IsLawful setup t.story) (sym as_step) lawful) m reply was)
