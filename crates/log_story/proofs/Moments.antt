-- The law at each moment of a log, and at each read.
use Rattle.std.specs.Prelude.{◌≡◌, [], ◌∷◌, fold}
use Rattle.std.proofs.Common.{refl, sym, ap, ◌∙◌, inl, inr}
use Rattle.mx_base.specs.declared.names.LinkId.{LinkId}
use Rattle.mx_wire.specs.Log.{Log}
use Rattle.mx_wire.specs.declared.entry.Entry.{Entry}
use Rattle.mx_wire.specs.declared.entry.Entry.TheVariants as entry
use Rattle.private_model.specs.Commands.{runs}
use Rattle.private_model.specs.Headline.{MeetsPrivate}
use Rattle.private_model.specs.Honest.{IsHonest}
use Rattle.private_model.specs.Lawful.{IsLawful}
use Rattle.private_model.specs.Story.{Statement, Story}
use Rattle.private_model.specs.View.{Answered, Asked, Quiet, Setup, Stage, view_after}
use Rattle.private_model.specs.Worlds.{private_after, real_after}
use Rattle.server_rule.specs.Servers.{Step, Tests}
use Rattle.log_story.specs.Plan.{Plan}
use Rattle.log_story.specs.Tale.{Tale, Wire, link_in, view_of}
use Rattle.log_story.specs.Servers.{runs_first, with_run}
use Rattle.log_story.specs.Telling.{tale_step, wire_with}
use Rattle.log_story.specs.Honest.{IsFarewell, IsHonestFrom, IsTrue, IsTrueRead, real_of}
use Rattle.log_story.specs.Headline.{IsPrivateEntry, IsPrivateFrom, IsPrivateMoment, IsPrivateRead, private_of}
use Rattle.log_story.proofs.Due.{due_until_front}
use Rattle.log_story.proofs.Keeping.{honesty, lawful_before, running_keeps, step_keeps}

-- the law of private worlds, of one server
abbrev pub Law : Setup → Tests → Step → Type 0
Law setup tests server = (story : Story) → IsLawful setup story → IsHonest setup (runs server) story
    → MeetsPrivate setup.reads tests (view_after setup story) (real_after setup (runs server) story) (private_after setup (runs server) story)

moment : (setup : Setup) (tests : Tests) (plan : Plan) (server : Step) (tale : Tale) → Law setup tests server → IsLawful setup tale.story → IsHonest setup (runs server) tale.story
    → IsPrivateMoment setup plan server tale
moment setup tests plan server tale law lawful honest =
    let meets = law tale.story lawful honest in
    record {
      replies = meets.replies;
      due = λ client. due_until_front (view_of setup tale).replies (private_of setup server tale).answers plan tale.moment
          client meets.replies;
    }

read_there : (setup : Setup) (tests : Tests) (plan : Plan) (server : Step) (link : LinkId) (wire : Wire) (tale : Tale) → Law setup tests server → IsLawful setup tale.story
    → IsHonest setup (runs server) tale.story → IsTrueRead setup server link wire tale → IsPrivateRead setup server link wire tale
read_there setup tests plan server link wire tale law lawful honest read n due ran =
    let before : Tale = with_run setup link tale in
    let honest_there : IsHonest setup (runs server) before.story =
    running_keeps setup plan server (honesty setup server) link wire tale (link_in setup tale link).stage read refl honest in
    let lawful_there : IsLawful setup before.story = running_lawful (link_in setup tale link).stage in
    let meets = law before.story lawful_there honest_there in
    record { reply = ((real_of setup server before).peers link).answer; answer = meets.answers link n due ran; front = read.reply.front }
  where
    running_lawful : (stage : Stage) → IsLawful setup (runs_first stage link tale).story
    running_lawful Quiet = lawful
    running_lawful (Asked question) = (lawful, tt)
    running_lawful (Answered question) = lawful

-- no reply is read behind a drop
nothing_read : (setup : Setup) (server : Step) (link : LinkId) (wire : Wire) (tale : Tale) → IsFarewell setup server tale link
    → IsPrivateRead setup server link wire tale
nothing_read setup server link wire tale is n due ran =
    let still : (link_in setup (with_run setup link tale) link).stage ≡ Quiet =
    ap (λ s. (link_in setup (runs_first s link tale) link).stage) is.quiet ∙ is.quiet in
    let apart : Quiet ≡ Answered (Statement n due) = sym still ∙ ran in absurd (cc)

entry_there : (setup : Setup) (tests : Tests) (plan : Plan) (server : Step) (tale : Tale) (e : Entry) → Law setup tests server → IsLawful setup tale.story
    → IsHonest setup (runs server) tale.story → IsTrue setup plan server tale e → IsPrivateEntry setup server tale e
entry_there setup tests plan server tale (entry.Got link bytes) law lawful honest is =
    λ there entered other. elim ((is there).read entered other) [
      | inl farewell ↦ nothing_read setup server link (wire_with tale link bytes) tale farewell
      | inr read ↦ read_there setup tests plan server link (wire_with tale link bytes) tale law lawful honest read
    ]
entry_there setup tests plan server tale _ law lawful honest is = tt

pub private_from : (setup : Setup) (tests : Tests) (plan : Plan) (server : Step) (log : Log) (tale : Tale) → Law setup tests server
    → IsLawful setup (fold (tale_step setup plan) tale log).story → IsHonest setup (runs server) tale.story → IsHonestFrom setup plan server tale log
    → IsPrivateFrom setup plan server tale log
private_from setup tests plan server [] tale law lawful honest all = moment setup tests plan server tale law lawful honest
private_from setup tests plan server (e ∷ log) tale law lawful honest all =
    let here = lawful_before setup plan server (e ∷ log) tale honest all lawful in (
      moment setup tests plan server tale law here honest,
      entry_there setup tests plan server tale e law here honest all.0,
      private_from setup tests plan server log (tale_step setup plan tale e) law lawful (step_keeps setup plan server (honesty setup server) tale e all.0 honest)
          all.1,
    )
