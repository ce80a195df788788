-- What begins on a link is of no session that another link carries.
use Rattle.std.specs.Prelude.{◌≡◌, ◌&&◌, ◌||◌, not, ℕ, Bool, true, false, if◌then◌else◌, unwrap_or, List, [], ◌∷◌, ◌++◌, Option, Some, None}
use Rattle.std.proofs.Common.{refl, ◌∙◌}
use Rattle.std.proofs.lemmas.Bool.{true≢false}
use Rattle.mx_base.specs.declared.tag.Tag.{Tag}
use Rattle.mx_base.specs.declared.tag.Tag.TheVariants as tag
use Rattle.private_model.specs.Commands.{Command}
use Rattle.private_model.specs.Lawful.{IsLawful, IsStatement}
use Rattle.private_model.specs.Names.{LinkId, MessageName, SessionName}
use Rattle.private_model.specs.Story.{Broke, Capture, Due, End, Happening, Own, Prep, Question, Sent, Statement, Story, Sync, is_name}
use Rattle.private_model.specs.View.{Setup, View, present, session_in, view_after}
use Rattle.log_story.specs.Plan.{Asks, Closes, Plan, Resets, Route, StepText}
use Rattle.server_rule.specs.Servers.{is_some_of}
use Rattle.log_story.specs.Servers.{begun_by, begun_on, due_in, ended_by, of_due, or_broke, quits_by, quits_for, stepped}
use Rattle.log_story.specs.Tale.{Wire}
use Rattle.step_laws.specs.Spared.{is_touched_by}
use Rattle.core_laws.specs.entry.Calms.{is_copy}

either : {A : Type 0} (P : A → Type 0) (b : Bool) (x y : A) → P x → P y → P (if b then x else y)
either P true x y first second = first
either P false x y first second = second

or_none : (b : Bool) → b ≡ false → (b || false) ≡ false
or_none true is = is
or_none false is = is

module _ (setup : Setup) (plan : Plan) (moment : ℕ) (past : Story) (l : LinkId) (n : SessionName)
    (apart : (m : SessionName) (due : Due) → IsStatement setup (view_after setup past) m due ((view_after setup past).links l) → is_name n m ≡ false) where
  abbrev seen : View
  seen = view_after setup past

  abbrev Untouched : List Happening → Type 0
  Untouched es = IsLawful setup (es ++ past) → is_touched_by seen es n ≡ false

  asked_not : (question : Question) → Untouched (Sent l question ∷ [])
  asked_not (Statement m due) lawful = or_none (is_name n m) (apart m due lawful.1.fits)
  asked_not (Prep m key text) lawful = refl
  asked_not (Sync m command) lawful = refl
  asked_not (Own command) lawful = refl
  asked_not (End m) lawful = refl
  asked_not (Capture m) lawful = refl

  broke_not : Untouched (Broke ∷ [])
  broke_not lawful = refl

  due_not : (m : SessionName) (ordinal : ℕ) (question : Due → Question) → Untouched (of_due plan moment seen l ordinal m question)
  due_not m ordinal question = by (due_in plan moment ordinal m (seen.dues m)) where
    by : (found : Option Due) → Untouched (or_broke (λ due. Sent l (question due) ∷ []) found)
    by None = broke_not
    by (Some due) = asked_not (question due)

  routed_not : (m : MessageName) (happens : Route → List Happening) → ((route : Route) → Untouched (happens route))
      → Untouched (or_broke happens (plan.routes m))
  routed_not m happens each = by (plan.routes m) where
    by : (found : Option Route) → Untouched (or_broke happens found)
    by None = broke_not
    by (Some route) = each route

  stepped_not : (question : Command → Question) (step : StepText) → Untouched (stepped l question step)
  stepped_not question (Asks command) = asked_not (question command)
  stepped_not question (Closes number) = λ lawful. refl
  stepped_not question (Resets number) = λ lawful. refl

  begun_not : (begun : ℕ) (for : Tag) → is_copy for ≡ false → Untouched (begun_by setup plan moment seen l begun for)
  begun_not begun (tag.For client ordinal) plain =
      routed_not (record { client = client; ordinal = ordinal }) _
      (λ route. due_not (present seen client route.hostgroup) ordinal (Statement (present seen client route.hostgroup)))
  begun_not begun (tag.Prep client ordinal) plain =
      routed_not (record { client = client; ordinal = ordinal }) _
      (λ route. due_not (present seen client route.hostgroup) ordinal
      (λ due. Prep (present seen client route.hostgroup) due.key (setup.keys due.key).text))
  begun_not begun (tag.Mirror client ordinal) plain = absurd (true≢false plain)
  begun_not begun (tag.Sync client hostgroup) plain = stepped_not (Sync (present seen client hostgroup)) (plan.steps l begun)
  begun_not begun (tag.End client hostgroup) plain =
      asked_not (ended_by seen (unwrap_or (session_in (seen.links l).carries) (present seen client hostgroup)))
  begun_not begun tag.Own plain =
      either Untouched (quits_by (plan.steps l begun)) [] (stepped l Own (plan.steps l begun)) (λ lawful. refl) (stepped_not Own (plan.steps l begun))
  begun_not begun tag.Reply plain = broke_not

  pub begun_untouched : (wire : Wire) (for : Tag) → is_copy for ≡ false → Untouched (begun_on setup plan moment seen l wire for)
  begun_untouched wire for plain =
      either Untouched (is_some_of wire.unread && not (quits_for for (plan.steps l wire.begun))) (Broke ∷ [])
      (begun_by setup plan moment seen l wire.begun for) broke_not (begun_not wire.begun for plain)
