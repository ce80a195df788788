-- The step of an entry that tells nothing, and at which clients are called.
use Rattle.std.specs.Prelude.{◌≡◌, ℕ, Bool, true, All, filter, length, List, [], ◌∷◌}
use Rattle.std.proofs.Common.{refl, ap, ◌∙◌}
use Rattle.std.proofs.lemmas.List.Elements.{All-head, All-tail}
use Rattle.mx_wire.specs.declared.entry.Entry.{Entry}
use Rattle.private_model.proofs.Maps.{same_number}
use Rattle.private_model.specs.Names.{ClientNo}
use Rattle.private_model.specs.View.{Setup}
use Rattle.log_story.specs.Clients.{clients_are_ended, clients_go_on}
use Rattle.log_story.specs.Owed.{messages}
use Rattle.log_story.specs.Plan.{Plan}
use Rattle.log_story.specs.Servers.{links_are_freed}
use Rattle.log_story.specs.Tale.{Client, Tale, counted, view_of}
use Rattle.log_story.specs.Telling.{tale_step, told}
use Rattle.step_laws.proofs.Giving.{none_in}
use Rattle.step_laws.proofs.Leaving.{ended_leave}
use Rattle.step_laws.proofs.Taking.{all_among, called as takes, others_along, others_itself, taken_up_spares}
use Rattle.step_laws.specs.Freed.{NoneDone}
use Rattle.step_laws.specs.Seats.{clients_of, is_its}
use Rattle.step_laws.specs.Steps.{ended_now, ends_now, leave}
use Rattle.step_laws.specs.Taken.{ArePassedBut, AreSingle, SparesOthers, all_taken, gone_on, is_called}
use Rattle.router_laws.proofs.OfWakes.Callers.{all_gone}

module _ (setup : Setup) (plan : Plan) (single : (whose : ClientNo → Bool) → AreSingle plan whose) (tale : Tale) (e : Entry)
    (told_same : told setup plan tale e ≡ tale) where
  abbrev heard : Tale
  heard = counted tale

  all_go : (xs : List Client) (from : Tale) → from.moment ≡ heard.moment
      → All (λ (x : Client). is_called plan heard.moment (view_of setup tale) e x ≡ true) xs
      → gone_on setup plan (view_of setup tale) e xs from ≡ all_gone setup plan xs from
  all_go [] from same all = refl
  all_go (x ∷ xs) from same all =
      let called_so : is_called plan from.moment (view_of setup tale) e x ≡ true =
      ap (λ (m : ℕ). is_called plan m (view_of setup tale) e x) same
      ∙ All-head (λ (y : Client). is_called plan heard.moment (view_of setup tale) e y ≡ true) x xs all in
      let next : Tale = all_taken setup plan x from in
      let moment : next.moment ≡ from.moment =
      (taken_up_spares setup (is_its x) plan (single (is_its x)) (length (messages plan x)) x from (same_number x.number.0)).moment in
      ap (gone_on setup plan (view_of setup tale) e xs) (takes setup plan (view_of setup tale) e from x called_so)
      ∙ all_go xs next (moment ∙ same) (All-tail (λ (y : Client). is_called plan heard.moment (view_of setup tale) e y ≡ true) x xs all)

  all_spare : (whose : ClientNo → Bool) (xs : List Client) (from : Tale) → All (λ (x : Client). whose x.number ≡ true) xs
      → SparesOthers setup whose from (all_gone setup plan xs from)
  all_spare whose [] from its = others_itself setup whose from
  all_spare whose (x ∷ xs) from its =
      others_along setup whose from (all_taken setup plan x from) (all_gone setup plan xs (all_taken setup plan x from))
      (taken_up_spares setup whose plan (single whose) (length (messages plan x)) x from (All-head (λ (y : Client). whose y.number ≡ true) x xs its))
      (all_spare whose xs (all_taken setup plan x from) (All-tail (λ (y : Client). whose y.number ≡ true) x xs its))

  module _ (called : ClientNo → Bool) (rested : NoneDone setup plan heard) (passes : ArePassedBut setup plan (view_of setup tale) e called heard)
      (calls : All (λ (x : Client). is_called plan heard.moment (view_of setup tale) e x ≡ true) (clients_of called heard))
      (theirs : All (λ (x : Client). called x.number ≡ true) (clients_of called heard)) where
    abbrev pub late : Tale
    late = all_gone setup plan (clients_of called heard) heard

    pub late_spares : SparesOthers setup called heard late
    late_spares = all_spare called (clients_of called heard) heard theirs

    none_freed : links_are_freed setup plan heard ≡ heard
    none_freed = none_in setup plan heard.links heard (λ l there. rested l there)

    gone : clients_go_on setup plan (view_of setup tale) e heard ≡ late
    gone =
        all_among setup plan (view_of setup tale) e called (single called) heard passes
        ∙ all_go (clients_of called heard) heard refl calls

    same_ended : ended_now plan late ≡ ended_now plan heard
    same_ended = λ i. filter (ends_now plan (late_spares.moment i)) (late_spares.numbered i)

    pub step_is : tale_step setup plan tale e ≡ links_are_freed setup plan (leave (ended_now plan heard) late)
    step_is =
        ap (λ (x : Tale).
        links_are_freed setup plan (clients_are_ended plan (clients_go_on setup plan (view_of setup tale) e (links_are_freed setup plan (counted x))))) told_same
        ∙ ap (λ (x : Tale). links_are_freed setup plan (clients_are_ended plan (clients_go_on setup plan (view_of setup tale) e x))) none_freed
        ∙ ap (λ (x : Tale). links_are_freed setup plan (clients_are_ended plan x)) gone
        ∙ ap (links_are_freed setup plan) (ended_leave plan late ∙ ap (λ (cs : List ClientNo). leave cs late) same_ended)
