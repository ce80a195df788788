-- As something begins on a link, its first bytes are those of its spelling.
use Rattle.std.specs.Prelude.{◌≡◌, ℕ, Bool, true, false, not, ◌&&◌, ◌||◌, if◌then◌else◌, List, [], ◌∷◌, Some}
use Rattle.std.proofs.Common.{refl, sym, ap, ◌∙◌, subst}
use Rattle.mx_base.specs.declared.names.LinkId.{LinkId}
use Rattle.mx_base.specs.declared.tag.Tag.{Tag}
use Rattle.mx_base.specs.declared.tag.Tag.TheVariants as tags
use Rattle.packet_frame.specs.Packets.{spelling}
use Rattle.private_model.specs.Commands.{Quit}
use Rattle.private_model.specs.Story.{Broke, Happening, Own, Question, Sent, Sync, Unprepared}
use Rattle.private_model.specs.View.{Link, Setup, View, present}
use Rattle.server_rule.specs.Servers.{is_some_of}
use Rattle.log_story.specs.Honest.{IsFront}
use Rattle.log_story.specs.Plan.{Asks, Closes, Plan, Resets, StepText, step_payload, text_payload}
use Rattle.log_story.specs.Servers.{begun_by, begun_on, quits_by, quits_for, step_for, stepped}
use Rattle.log_story.specs.Tale.{Wire, view_of}
use Rattle.tale_world.specs.Deciding.{World}
use Rattle.tale_world.specs.Wishes.{Says, Sends, Wish}
use Rattle.router_promises.specs.Running.{hostgroup_of}
use Rattle.router_promises.specs.Tags.{StandsIn, hostgroup_asked}
use Rattle.shared_router.specs.Fixed.{Fixed, setup_of}
use Rattle.shared_router.specs.More.{More}
use Rattle.shared_router.specs.Spelt.{question_spelt}
use Rattle.shared_router.proofs.Beginning.{and_no, isnt, or_yes}
use Rattle.shared_router.proofs.Spelling.{is_mute, text_if_quits}
use Rattle.shared_router.proofs.Standing as starts
use Rattle.shared_router.proofs.Standing.{Starts}

-- what is told of a wish
abbrev pub told_of : LinkId → Wish → List Happening
told_of link (Sends question) = Sent link question ∷ []
told_of link (Says (Closes number)) = Unprepared link number ∷ []
told_of link (Says text) = []

module _ (fixed : Fixed) (w : World More) (plan : Plan) (link : LinkId) (bytes : List ℕ) where
  abbrev setup : Setup
  setup = setup_of fixed

  abbrev view : View
  view = view_of setup w.tale

  abbrev wire : Wire
  wire = w.tale.wires link

  abbrev there : Link
  there = view.links link

  -- what a tag tells, by the step that it is
  abbrev pub by_step : Tag → StepText → List Happening
  by_step tags.Own step = if quits_by step then [] else stepped link Own step
  by_step (tags.Sync client hostgroup) step = stepped link (Sync (present view client hostgroup)) step
  by_step (tags.For client ordinal) step = begun_by setup plan w.tale.moment view link wire.begun (tags.For client ordinal)
  by_step (tags.Prep client ordinal) step = begun_by setup plan w.tale.moment view link wire.begun (tags.Prep client ordinal)
  by_step (tags.Mirror client ordinal) step = begun_by setup plan w.tale.moment view link wire.begun (tags.Mirror client ordinal)
  by_step (tags.End client hostgroup) step = begun_by setup plan w.tale.moment view link wire.begun (tags.End client hostgroup)
  by_step tags.Reply step = begun_by setup plan w.tale.moment view link wire.begun tags.Reply

  abbrev pub tells : Tag → StepText → List Happening
  tells tag step = if is_some_of wire.unread && not (quits_for tag step) then Broke ∷ [] else by_step tag step

  pub tells_same : (tag : Tag) → tells tag (plan.steps link wire.begun) ≡ begun_on setup plan w.tale.moment view link wire tag
  tells_same tags.Own = refl
  tells_same (tags.Sync client hostgroup) = refl
  tells_same (tags.For client ordinal) = refl
  tells_same (tags.Prep client ordinal) = refl
  tells_same (tags.Mirror client ordinal) = refl
  tells_same (tags.End client hostgroup) = refl
  tells_same tags.Reply = refl

  abbrev pub Right : Tag → StepText → Type 0
  Right tag step = Starts link bytes (hostgroup_of fixed.router wire.server) (wire.quits || quits_for tag step) (step_for tag step) there.live (tells tag step)

  abbrev Begins : Tag → StepText → List Happening → Type 0
  Begins tag step = Starts link bytes (hostgroup_of fixed.router wire.server) (wire.quits || quits_for tag step) (step_for tag step) there.live

  no_quits : wire.quits ≡ false → (b : Bool) → b ≡ false → (wire.quits || b) ≡ false
  no_quits stays b is = ap (λ c. c || b) stays ∙ is

  pub quit_starts : IsFront bytes (spelling 0 (text_payload Quit)) → Right tags.Own (Asks Quit)
  quit_starts front =
      subst (λ b. Begins tags.Own (Asks Quit) (if b then Broke ∷ [] else [])) (sym (and_no (is_some_of wire.unread)))
      (starts.Tells (subst (λ b. IsFront bytes (text_if_quits b)) (sym (or_yes wire.quits)) front) (λ mute. isnt mute))

  pub text_starts : (text : StepText) → wire.quits ≡ false → is_mute (Some text) ≡ true → IsFront bytes (spelling 0 (step_payload text))
      → tells tags.Own text ≡ told_of link (Says text) → Right tags.Own text
  text_starts (Asks command) stays mute front told = isnt mute
  text_starts (Closes number) stays mute front told =
      subst (Begins tags.Own (Closes number)) (sym told) (starts.Closes number front (λ m. no_quits stays false refl))
  text_starts (Resets number) stays mute front told =
      subst (Begins tags.Own (Resets number)) (sym told) (starts.Tells front (λ m. no_quits stays false refl))

  -- a question
  pub asked_starts : (tag : Tag) (step : StepText) (question : Question) → wire.quits ≡ false → quits_for tag step ≡ false → is_mute (step_for tag step) ≡ false
      → IsFront bytes (question_spelt question there) → StandsIn (hostgroup_of fixed.router wire.server) (hostgroup_asked question)
      → tells tag step ≡ Sent link question ∷ [] → Right tag step
  asked_starts tag step question stays plain loud front group told =
      subst (Begins tag step) (sym told) (starts.Asks question front loud (no_quits stays (quits_for tag step) plain) group)
