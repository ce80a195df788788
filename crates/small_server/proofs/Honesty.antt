-- Whether a story is honest, by what is computed.
use Rattle.std.specs.Prelude.{◌≡◌, ℕ, Bool, true, false, not, ◌&&◌, ◌||◌, is_some, [], ◌∷◌, Option, Some, None}
use Rattle.std.proofs.Common.{refl}
use Rattle.std.proofs.lemmas.Bool.{and_parts}
use Rattle.private_model.specs.Commands.{Reply, Step, is_made, number_in}
use Rattle.private_model.specs.Honest.{IsAnswer, IsHonest, IsTrueOf, IsTrueRun, prepares}
use Rattle.private_model.specs.Names.{LinkId, ServerId}
use Rattle.private_model.specs.Story.{Freed, Happening, Heard, Key, Ran, Story}
use Rattle.private_model.specs.View.{Answered, Asked, Quiet, Setup, Stage, View, view_after}
use Rattle.private_model.specs.Worlds.{Real, at_link, real_after, there_command}

abbrev is_unused : (prepares made : Bool) → Option Key → Bool
is_unused prepares made entry = not prepares || (not made || not (is_some entry))

unused_so : (prepares made : Bool) (entry : Option Key) → is_unused prepares made entry ≡ true → prepares ≡ true → made ≡ true → entry ≡ None
unused_so true true None so p m = refl
unused_so true true (Some key) so p m = absurd (cc)
unused_so true false entry so p m = absurd (cc)
unused_so false made entry so p m = absurd (cc)

module _ (step : Step) (real : Real) (link : LinkId) (live : ℕ → Option ℕ) where
  -- a question runs on a link that isn't dropped, and its preparation has a number that is unused there
  abbrev pub is_fresh : Stage → ServerId → Bool
  is_fresh (Asked question) server =
      (real.peers link).alive && is_unused (prepares question) (is_made (at_link step real link server (there_command question live (real.peers link).table)).reply)
      ((real.peers link).table (number_in (at_link step real link server (there_command question live (real.peers link).table)).reply))
  is_fresh _ server = true

  pub fresh_so : (stage : Stage) (server : ServerId) → is_fresh stage server ≡ true → IsTrueRun step real link live stage server
  fresh_so (Asked question) server so =
      let both = and_parts _ _ so in record { alive = both.0; fresh = record { unused = unused_so _ _ _ both.1 } }
  fresh_so Quiet server so = tt
  fresh_so (Answered question) server so = tt

-- A happening as servers tell it. In the place of one that isn't true a link is given back.

abbrev ran_by : LinkId → (fresh : Bool) → Happening
ran_by link true = Ran link
ran_by link false = Freed link

ran_so : (link : LinkId) (fresh : Bool) → ran_by link fresh ≡ Ran link → fresh ≡ true
ran_so link true is = refl
ran_so link false is = absurd (cc)

abbrev heard_by : LinkId → Stage → (answer : Reply) → Happening
heard_by link (Answered question) answer = Heard link answer
heard_by link _ answer = Freed link

abbrev told_by : Step → View → Real → Happening → Happening
told_by step view real (Ran link) =
    ran_by link (is_fresh step real link (view.links link).live (view.links link).stage (view.links link).server)
told_by step view real (Heard link reply) = heard_by link (view.links link).stage (real.peers link).answer
told_by step view real e = e

heard_so : (step : Step) (view : View) (real : Real) (link : LinkId) (stage : Stage) (reply : Reply) → (view.links link).stage ≡ stage
    → heard_by link stage (real.peers link).answer ≡ Heard link reply → IsAnswer (view.links link) (real.peers link).answer reply
heard_so step view real link (Answered question) reply at is = record { question = question; ran = at; same = cc }
heard_so step view real link Quiet reply at is = absurd (cc)
heard_so step view real link (Asked question) reply at is = absurd (cc)

true_so : (step : Step) (view : View) (real : Real) (e : Happening) → told_by step view real e ≡ e → IsTrueOf step view real e
true_so step view real (Ran link) is =
    fresh_so step real link (view.links link).live (view.links link).stage (view.links link).server (ran_so link _ is)
true_so step view real (Heard link reply) is = heard_so step view real link (view.links link).stage reply refl is
true_so step view real _ is = tt

-- a story as servers tell it
abbrev pub retold : Setup → Step → Story → Story
retold setup step [] = []
retold setup step (e ∷ past) = told_by step (view_after setup past) (real_after setup step past) e ∷ retold setup step past

pub honest_so : (setup : Setup) (step : Step) (story : Story) → retold setup step story ≡ story → IsHonest setup step story
honest_so setup step [] is = tt
honest_so setup step (e ∷ past) is =
    let same : told_by step (view_after setup past) (real_after setup step past) e ≡ e = cc in
    let before : retold setup step past ≡ past = cc in
    (honest_so setup step past before, true_so step (view_after setup past) (real_after setup step past) e same)
