-- What is told as a question begins: that it is sent, a STMT_CLOSE, that a client leaves, or a breach.
use Rattle.std.specs.Prelude.{ℕ, Bool, true, false, ◌&&◌, not, if◌then◌else◌, List, [], ◌∷◌, Option, Some, None}
use Rattle.mx_base.specs.declared.names.LinkId.{LinkId}
use Rattle.mx_base.specs.declared.tag.Tag.{Tag}
use Rattle.mx_base.specs.declared.tag.Tag.TheVariants as tag
use Rattle.private_model.specs.Commands.{Command}
use Rattle.private_model.specs.Names.{SessionName}
use Rattle.private_model.specs.Story.{Broke, Due, End, Happening, Left, Own, Prep, Question, Sent, Statement, Sync, Unprepared, is_client}
use Rattle.private_model.specs.View.{Carried, Joined, Lent, Nobody, Setup, View, present}
use Rattle.server_rule.specs.Servers.{is_some_of}
use Rattle.log_story.specs.Plan.{Asks, Closes, Plan, Resets, StepText, job_of}
use Rattle.log_story.specs.Servers.{begun_by, begun_on, copy_by, due_in, of_due, or_broke, quits_by, quits_for, stepped}
use Rattle.log_story.specs.Tale.{Wire}

abbrev pub IsBegun : Happening → Type 0
IsBegun (Sent link question) = Unit {0}
IsBegun (Unprepared link number) = Unit {0}
IsBegun (Left client) = Unit {0}
IsBegun Broke = Unit {0}
IsBegun _ = ⊥

abbrev pub AreBegun : List Happening → Type 0
AreBegun [] = Unit {0}
AreBegun (e ∷ es) = IsBegun e × AreBegun es

begun_if : (b : Bool) (x y : List Happening) → AreBegun x → AreBegun y → AreBegun (if b then x else y)
begun_if true x y first second = first
begun_if false x y first second = second

begun_or : {A : Type 0} (happens : A → List Happening) (found : Option A) → ((a : A) → AreBegun (happens a)) → AreBegun (or_broke happens found)
begun_or happens None each = (tt, tt)
begun_or happens (Some a) each = each a

module _ (setup : Setup) (plan : Plan) where
  due_begun : (moment : ℕ) (view : View) (link : LinkId) (ordinal : ℕ) (n : SessionName) (question : Due → Question)
      → AreBegun (of_due plan moment view link ordinal n question)
  due_begun moment view link ordinal n question =
      begun_or (λ due. Sent link (question due) ∷ []) (due_in plan moment ordinal n (view.dues n)) (λ due. (tt, tt))

  stepped_begun : (link : LinkId) (question : Command → Question) (step : StepText) → AreBegun (stepped link question step)
  stepped_begun link question (Asks command) = (tt, tt)
  stepped_begun link question (Closes number) = (tt, tt)
  stepped_begun link question (Resets number) = tt

  copy_begun : (moment : ℕ) (view : View) (link : LinkId) (n : SessionName) (carried : Carried) → AreBegun (copy_by plan moment view link n carried)
  copy_begun moment view link n (Joined who) =
      begun_if (is_client who.client n.client) (Sent link (End who) ∷ []) (of_due plan moment view link 1 n (Statement n)) (tt, tt)
      (due_begun moment view link 1 n (Statement n))
  copy_begun moment view link n Nobody =
      begun_or (λ due. Left n.client ∷ Sent link (Statement n due) ∷ []) (due_in plan moment 1 n (view.dues n)) (λ due. (tt, (tt, tt)))
  copy_begun moment view link n (Lent who) =
      begun_or (λ due. Left n.client ∷ Sent link (Statement n due) ∷ []) (due_in plan moment 1 n (view.dues n)) (λ due. (tt, (tt, tt)))

  begun_all : (moment : ℕ) (view : View) (link : LinkId) (begun : ℕ) (for : Tag) → AreBegun (begun_by setup plan moment view link begun for)
  begun_all moment view link begun (tag.For client ordinal) =
      begun_or (λ route. let n = present view client route.hostgroup in of_due plan moment view link ordinal n (Statement n))
      (plan.routes (record { client = client; ordinal = ordinal }))
      (λ route. due_begun moment view link ordinal (present view client route.hostgroup) (Statement (present view client route.hostgroup)))
  begun_all moment view link begun (tag.Prep client ordinal) =
      begun_or (λ route. let n = present view client route.hostgroup in of_due plan moment view link ordinal n (λ due. Prep n due.key (setup.keys due.key).text))
      (plan.routes (record { client = client; ordinal = ordinal }))
      (λ route. due_begun moment view link ordinal (present view client route.hostgroup) (λ due. Prep (present view client route.hostgroup) due.key (setup.keys due.key).text))
  begun_all moment view link begun (tag.Mirror client ordinal) =
      let job = job_of (record { client = client; ordinal = ordinal }) in
      begun_or (λ route. or_broke (λ hostgroup. copy_by plan moment view link (present view job hostgroup) (view.links link).carries) route.mirror)
      (plan.routes (record { client = client; ordinal = ordinal }))
      (λ route. begun_or (λ hostgroup. copy_by plan moment view link (present view job hostgroup) (view.links link).carries) route.mirror
      (λ hostgroup. copy_begun moment view link (present view job hostgroup) (view.links link).carries))
  begun_all moment view link begun (tag.Sync client hostgroup) = stepped_begun link (Sync (present view client hostgroup)) (plan.steps link begun)
  begun_all moment view link begun (tag.End client hostgroup) = (tt, tt)
  begun_all moment view link begun tag.Own =
      begun_if (quits_by (plan.steps link begun)) [] (stepped link Own (plan.steps link begun)) tt (stepped_begun link Own (plan.steps link begun))
  begun_all moment view link begun tag.Reply = (tt, tt)

  pub begun_there : (moment : ℕ) (view : View) (link : LinkId) (wire : Wire) (for : Tag) → AreBegun (begun_on setup plan moment view link wire for)
  begun_there moment view link wire for =
      begun_if (is_some_of wire.unread && not (quits_for for (plan.steps link wire.begun))) (Broke ∷ []) (begun_by setup plan moment view link wire.begun for) (tt, tt)
      (begun_all moment view link wire.begun for)
