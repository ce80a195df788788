-- A world that passes the tests passes them by each plan that agrees; and links that are new in a log are new in its tale.
use Rattle.std.specs.Prelude.{◌≡◌, ℕ, Bool, true, false, ◌&&◌, fold, if◌then◌else◌, List, [], ◌∷◌}
use Rattle.std.proofs.Common.{refl, sym, ap, ◌∙◌, subst}
use Rattle.mx_base.specs.declared.names.LinkId.{LinkId}
use Rattle.mx_base.specs.declared.tag.Tag.{Tag}
use Rattle.mx_wire.specs.Log.{Log}
use Rattle.mx_wire.specs.declared.entry.Entry.{Entry}
use Rattle.mx_wire.specs.declared.entry.Entry.TheVariants as entry
use Rattle.private_model.specs.View.{Setup}
use Rattle.log_story.specs.Plan.{Plan}
use Rattle.log_story.specs.Servers.{begun_on, may_begin}
use Rattle.log_story.specs.Tale.{is_to_server, view_of}
use Rattle.tale_world.specs.Decided.{Agrees, plan_of}
use Rattle.tale_world.specs.Deciding.{Deciding, World}
use Rattle.tale_world.specs.Tested.{IsTestedBy, IsTestedFrom, Passes, PassesBy}
use Rattle.tale_world.specs.Tests.{may_tell}
use Rattle.tale_world.specs.World.{decided_told, is_told, with_step, world_step}
use Rattle.tale_world.proofs.Following.{asked_same, folded, step_even, stepped}
use Rattle.tale_world.proofs.Telling.{begun_on_same, told_moment}

isnt : {A : Type 0} → false ≡ true → A
isnt is = absurd (cc)

module _ {X : Type 0} (setup : Setup) (by : Deciding X) where
  passes_wrote : (w : World X) (link : LinkId) (for : Tag) (bytes : List ℕ) (plan : Plan) (there begins : Bool)
      → Agrees (if there && begins then with_step by w link for bytes else w.decided) w.tale.moment plan
      → (there ≡ true → begins ≡ true → may_tell setup (begun_on setup (plan_of (if there && begins then with_step by w link for bytes else w.decided)) w.tale.moment (view_of setup w.tale) link (w.tale.wires link) for) w.tale.story ≡ true)
      → there ≡ true → begins ≡ true → may_tell setup (begun_on setup plan w.tale.moment (view_of setup w.tale) link (w.tale.wires link) for) w.tale.story ≡ true
  passes_wrote w link for bytes plan true true agrees passes there begins =
      ap (λ es. may_tell setup es w.tale.story)
      (sym (begun_on_same setup (plan_of (with_step by w link for bytes)) plan w.tale.moment (view_of setup w.tale) link (w.tale.wires link) for (asked_same setup by w link for bytes plan agrees)))
      ∙ passes refl refl
  passes_wrote w link for bytes plan true false agrees passes there begins = isnt begins
  passes_wrote w link for bytes plan false true agrees passes there begins = isnt there
  passes_wrote w link for bytes plan false false agrees passes there begins = isnt there

  passes_same : (w : World X) (e : Entry) (moment : ℕ) (plan : Plan) → moment ≡ w.tale.moment → Agrees (decided_told setup by w e) moment plan → PassesBy setup by w e → Passes setup plan w.tale e
  passes_same w (entry.Opened server address link) moment plan now agrees passes = passes
  passes_same w (entry.Wrote link for bytes) moment plan now agrees passes =
      passes_wrote w link for bytes plan (is_to_server w.tale link) (may_begin setup link (w.tale.wires link) w.tale)
      (subst (λ k. Agrees (decided_told setup by w (entry.Wrote link for bytes)) k plan) now agrees) passes
  passes_same w _ moment plan now agrees passes = tt

  pub tested_follows : (log : Log) (w : World X) (plan : Plan) → w.decided.until ≡ w.tale.moment
      → Agrees (fold (world_step setup by) w log).decided (fold (world_step setup by) w log).tale.moment plan → IsTestedBy setup by w log
      → IsTestedFrom setup plan w.tale log
  tested_follows [] w plan even agrees tested = tt
  tested_follows (e ∷ log) w plan even agrees tested =
      let later = folded setup by log (world_step setup by w e) plan (step_even setup by w e) agrees in
      let here = stepped setup by w e plan even later.before in (
        passes_same w e (is_told setup by w e).tale.moment plan (told_moment setup (plan_of (is_told setup by w e).decided) w.tale e) here.told tested.0,
        subst (λ t. IsTestedFrom setup plan t log) here.same (tested_follows log (world_step setup by w e) plan (step_even setup by w e) agrees tested.1),
      )
