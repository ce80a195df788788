-- The values of what the code answers.
use Rattle.std.specs.Prelude.{ℕ, List, Option, Some, None, [], ◌∷◌, unwrap_or}
use Rattle.std.specs.Option.{option_or}
use Rattle.pin_classifier.specs.declared.class.Class.{Class}
use Rattle.private_model.specs.Story.{Key}
use Rattle.log_story.specs.Plan.{Route}
use Rattle.query_rules.specs.declared.rule.Rule.{Rule}
use Rattle.router_promises.specs.Verdicts.{Goes, Verdict, Wanted, tells_one}
use Rattle.message_judge.specs.Judging as judging
use Rattle.message_judge.specs.Told.{IsOwnTold, payload_of, payloads_of}
use Rattle.message_judge.specs.declared.caller.Caller.{Caller}
use Rattle.message_judge.specs.declared.caller.Prepared.{Prepared}
use Rattle.message_judge.specs.declared.draft.ClassOf.{ClassOf}
use Rattle.message_judge.specs.declared.draft.ClassOf.TheVariants as classes
use Rattle.message_judge.specs.declared.draft.Draft.{Draft}
use Rattle.message_judge.specs.declared.draft.Draft.TheVariants as drafts
use Rattle.message_judge.specs.declared.draft.Going.{Going}
use Rattle.message_judge.specs.declared.draft.Judged.{Judged}
use Rattle.message_judge.specs.declared.told.OwnError.{OwnError}

abbrev pub class_in : Option Prepared → ClassOf → Option Class
class_in prepared classes.Nothing = None
class_in prepared (classes.Own class) = Some class
class_in None classes.Prepared = None
class_in (Some prepared) classes.Prepared = Some prepared.class

-- what is to stand under the key of what it prepares, or of what it executes

abbrev pub prepared_key : Caller → Going → (number : Option ℕ) → Option Key
prepared_key caller going None = None
prepared_key caller going (Some number) = Some (record { text = unwrap_or going.text []; place = caller.place })

abbrev pub executed_key : Caller → Option Prepared → ClassOf → Option Key
executed_key caller (Some prepared) classes.Prepared = judging.run_key caller prepared
executed_key caller _ _ = None

abbrev pub wanted_of : Caller → Option Prepared → Going → Wanted
wanted_of caller prepared going = record {
  route = record {
    hostgroup = going.hostgroup;
    text = going.text;
    key = 0;
    number = unwrap_or going.number 0;
    multiplex = going.multiplex;
    mirror = None;
  };
  key = option_or (prepared_key caller going going.number) (executed_key caller prepared going.class);
}

abbrev pub draft_of : Caller → Option Prepared → Draft → judging.Draft
draft_of caller prepared drafts.Ends = judging.Ends
draft_of caller prepared (drafts.Answers told) = judging.Answers (payloads_of caller.number.0 told)
draft_of caller prepared (drafts.Sends going) = judging.Sends (class_in prepared going.class) (wanted_of caller prepared going)

abbrev pub value_of : Caller → Option Prepared → Judged → judging.Judged
value_of caller prepared judged = record { draft = draft_of caller prepared judged.draft; flag = judged.flag }

-- a refusal, or that it goes there

abbrev pub refusal_by : Class → Wanted → Option OwnError → judging.Draft
refusal_by class wanted None = judging.Sends (Some class) wanted
refusal_by class wanted (Some why) = judging.Answers (payload_of why ∷ [])

abbrev pub verdict_by : Wanted → Option OwnError → Verdict
verdict_by wanted None = Goes wanted
verdict_by wanted (Some why) = tells_one (payload_of why)

-- what is answered is in the router's own words
abbrev pub IsOwnDraft : List Rule → Draft → Type 0
IsOwnDraft rules (drafts.Answers told) = IsOwnTold rules told
IsOwnDraft rules _ = Unit {0}
