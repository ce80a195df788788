-- A story that is lawful for a whole log is lawful at each moment of it.
use Rattle.std.specs.Prelude.{◌≡◌, ℕ, drop, fold, take, List, [], ◌∷◌, ◌++◌}
use Rattle.std.proofs.Common.{refl, sym, ap, ◌∙◌, subst, append_assoc, take-append-drop}
use Rattle.std.proofs.lemmas.List.Sums.{fold-append}
use Rattle.mx_wire.specs.Log.{Log}
use Rattle.mx_wire.specs.declared.entry.Entry.{Entry}
use Rattle.private_model.specs.Lawful.{IsLawful}
use Rattle.private_model.specs.Story.{Story}
use Rattle.private_model.specs.View.{Setup}
use Rattle.log_story.proofs.Walking.{Kept, step_keeps}
use Rattle.log_story.specs.Headline.{tale_of}
use Rattle.log_story.specs.Plan.{Plan}
use Rattle.log_story.specs.Tale.{Tale, first_tale}
use Rattle.log_story.specs.Telling.{tale_step}

lawful_before : (setup : Setup) (later past : Story) → IsLawful setup (later ++ past) → IsLawful setup past
lawful_before setup [] past lawful = lawful
lawful_before setup (e ∷ later) past lawful = lawful_before setup later past lawful.0

record IsLater (past story : Story) : Type 0 where
  more : Story
  is : story ≡ more ++ past

later : (setup : Setup) (past : Story) → Kept setup
later setup past = record {
  holds = IsLater past;
  more = λ story e may is. record { more = e ∷ is.more; is = ap (λ (xs : Story). e ∷ xs) is.is };
}

module _ (setup : Setup) (plan : Plan) where
  step_later : (tale : Tale) (e : Entry) → IsLater tale.story (tale_step setup plan tale e).story
  unfolding later
  step_later tale e = step_keeps setup plan (later setup tale.story) tale e (record { more = []; is = refl })

  later_from : (tale : Tale) (log : Log) → IsLater tale.story (fold (tale_step setup plan) tale log).story
  later_from tale [] = record { more = []; is = refl }
  later_from tale (e ∷ log) =
      let one : IsLater tale.story (tale_step setup plan tale e).story = step_later tale e in
      let rest : IsLater (tale_step setup plan tale e).story (fold (tale_step setup plan) (tale_step setup plan tale e) log).story =
      later_from (tale_step setup plan tale e) log in
      record {
        more = rest.more ++ one.more;
        is = rest.is ∙ ap (λ (s : Story). rest.more ++ s) one.is ∙ sym (append_assoc rest.more one.more tale.story);
      }

  pub lawful_at : (n : ℕ) (log : Log) → IsLawful setup (tale_of setup plan log).story → IsLawful setup (tale_of setup plan (take n log)).story
  lawful_at n log lawful =
      let early : Tale = tale_of setup plan (take n log) in
      let whole : fold (tale_step setup plan) early (drop n log) ≡ tale_of setup plan log =
      sym (fold-append (tale_step setup plan) first_tale (take n log) (drop n log))
      ∙ ap (λ (l : Log). tale_of setup plan l) (take-append-drop n log) in
      let is : IsLater early.story (tale_of setup plan log).story =
      subst (λ (t : Tale). IsLater early.story t.story) whole (later_from early (drop n log)) in
      lawful_before setup is.more early.story (subst (IsLawful setup) is.is lawful)
