-- Servers that are honest in log_story's words are so in those of the promise, where no prepared statement is executed and none is reset.
use Rattle.std.specs.Prelude.{◌≡◌, ℕ, ◌+◌, Bool, true, false, not, ◌&&◌, List, [], ◌∷◌, ◌++◌, length, Option, refl}
use Rattle.std.proofs.Common.{ap, arith, inl, inr, length-append, subst}
use Rattle.std.proofs.lemmas.Bool.{and_parts}
use Rattle.mx_base.specs.declared.names.LinkId.{LinkId}
use Rattle.mx_wire.specs.Log.{Log}
use Rattle.mx_wire.specs.declared.entry.Entry.{Entry}
use Rattle.mx_wire.specs.declared.entry.Entry.TheVariants as entry
use Rattle.packet_frame.specs.Packets.{spelling}
use Rattle.server_rule.specs.Servers.{Step}
use Rattle.private_model.specs.Commands.{Command, FieldList, InitDb, Prepare, Query, Quit, ReadId, Reset, Run, SetId}
use Rattle.private_model.specs.Story.{command_of}
use Rattle.private_model.specs.View.{Answered, Asked, Quiet, Setup, Stage}
use Rattle.log_story.specs.Honest.{IsHonestFrom, IsTrue, IsTrueGot, IsTrueRun, IsWritten, number_for}
use Rattle.log_story.specs.Plan.{Plan, text_payload}
use Rattle.log_story.specs.Tale.{Tale, is_reset_step, link_in}
use Rattle.log_story.specs.Telling.{tale_step, wire_with}
use Rattle.log_story.specs.Assumed.{IsAllOf, IsHeard, IsWhole, KeepFrom}
use Rattle.log_story.specs.Assumed as assumed

isnt : {A : Type 0} → false ≡ true → A
isnt is = absurd (cc)

nothing-more : (written more rest whole : List ℕ) → (written ++ more) ++ rest ≡ whole → written ≡ whole → more ≡ []
nothing-more written [] rest whole is same = refl
nothing-more written (x ∷ more) rest whole is same =
    let longer : length ((written ++ (x ∷ more)) ++ rest) ≡ length whole = ap length is in
    let as_long : length written ≡ length whole = ap length same in
    let first : length ((written ++ (x ∷ more)) ++ rest) ≡ length (written ++ (x ∷ more)) + length rest = length-append (written ++ (x ∷ more)) rest in
    let second : length (written ++ (x ∷ more)) ≡ length written + length (x ∷ more) = length-append written (x ∷ more) in
    absurd (omega (arith, longer, as_long, first, second))

all-of-same : (whole written : List ℕ) → written ≡ whole → IsAllOf whole written
all-of-same whole written same more front = nothing-more written more front.rest whole front.is same

abbrev is_plain : Command → Bool
is_plain (Run text schema settings args) = false
is_plain _ = true

written-as : (command : Command) (number : Option ℕ) (written : List ℕ) → is_plain command ≡ true → IsWritten command number written → written ≡ spelling 0 (text_payload command)
written-as (Query text) number written plain is = is
written-as (InitDb schema) number written plain is = is
written-as (FieldList rest) number written plain is = is
written-as (SetId n) number written plain is = is
written-as ReadId number written plain is = is
written-as (Prepare text) number written plain is = is
written-as (Run text schema settings args) number written plain is = isnt plain
written-as Reset number written plain is = is
written-as Quit number written plain is = is

whole-so : (command : Command) (number : Option ℕ) (written : List ℕ) → is_plain command ≡ true → IsWritten command number written → IsWhole command number written
whole-so command number written plain is more begins =
    nothing-more written more begins.more (spelling 0 (text_payload command)) (written-as command number ((written ++ more) ++ begins.more) plain begins.all)
    (written-as command number written plain is)

abbrev stage_plain : Stage → Bool
stage_plain Quiet = true
stage_plain (Asked question) = is_plain (command_of question)
stage_plain (Answered question) = true

run-so : (setup : Setup) (server : Step) (tale : Tale) (link : LinkId) → stage_plain (link_in setup tale link).stage ≡ true → IsTrueRun setup server tale link → assumed.IsRun setup server tale link
run-so setup server tale link plain run = record {
  whole = λ question at. whole-so (command_of question) (number_for question (link_in setup tale link).live) (tale.wires link).written
      (subst (λ (s : Stage). stage_plain s ≡ true) at plain) (run.written question at);
  true_run = run.true_run;
}

abbrev entry_plain : Setup → Tale → Entry → Bool
entry_plain setup tale (entry.Exec link) = false
entry_plain setup tale (entry.Got link bytes) = stage_plain (link_in setup tale link).stage && not (is_reset_step (tale.wires link).step)
entry_plain setup tale _ = true

no-reset : (b : Bool) {A : Type 0} → not b ≡ true → b ≡ true → A
no-reset true calm is = isnt calm
no-reset false calm is = isnt is

got-so : (setup : Setup) (plan : Plan) (server : Step) (tale : Tale) (link : LinkId) (bytes : List ℕ) → entry_plain setup tale (entry.Got link bytes) ≡ true → IsTrueGot setup plan server tale link (wire_with tale link bytes) → IsHeard setup plan server tale link (wire_with tale link bytes)
got-so setup plan server tale link bytes plain is =
    let both = and_parts _ _ plain in
    record {
      login = λ entering. record {
        said = λ said rest at. all-of-same said (tale.wires link).written ((is.login entering).said said rest at);
        ends = (is.login entering).ends;
      };
      read = λ entered calm. elim (is.read entered calm) [
        | inl farewell ↦ inl farewell
        | inr read ↦ inr (record {
          ran = λ question at. run-so setup server tale link both.0 (read.ran question at);
          question = read.question;
          answered = read.answered;
          reply = read.reply;
        })
      ];
      reset = λ entered resets. no-reset (is_reset_step (tale.wires link).step) both.1 resets;
    }

entry-so : (setup : Setup) (plan : Plan) (server : Step) (tale : Tale) (e : Entry) → entry_plain setup tale e ≡ true → IsTrue setup plan server tale e → assumed.Keeps setup plan server tale e
entry-so setup plan server tale (entry.Exec link) plain is = isnt plain
entry-so setup plan server tale (entry.Got link bytes) plain is = λ there. got-so setup plan server tale link bytes plain (is there)
entry-so setup plan server tale _ plain is = tt

abbrev pub log_plain : Setup → Plan → Tale → Log → Bool
log_plain setup plan tale [] = true
log_plain setup plan tale (e ∷ log) = entry_plain setup tale e && log_plain setup plan (tale_step setup plan tale e) log

pub honest-so : (setup : Setup) (plan : Plan) (server : Step) (tale : Tale) (log : Log) → log_plain setup plan tale log ≡ true → IsHonestFrom setup plan server tale log → KeepFrom setup plan server tale log
honest-so setup plan server tale [] plain is = tt
honest-so setup plan server tale (e ∷ log) plain is =
    let both = and_parts _ _ plain in
    (entry-so setup plan server tale e both.0 is.0, honest-so setup plan server (tale_step setup plan tale e) log both.1 is.1)
