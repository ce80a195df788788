use Rattle.std.proofs.Common.{◌≡◌, ◌∙◌, ℕ, [], sym, subst}
use Rattle.reply_track.specs.Runs.{Walked}
use Rattle.reply_track.specs.Tracking.{Answers}
use Rattle.reply_track.specs.Replying.{sought}
use Rattle.reply_track.specs.declared.reply.Progress.{Progress}
use Rattle.reply_track.specs.declared.reply.Progress.TheVariants.{More, Done, Bad}
use Rattle.reply_track.specs.declared.reply.ReplyEnd.{ReplyEnd}
use Rattle.reply_track.specs.declared.reply.ReplyKind.TheVariants.{Command}
use Rattle.generated_load.proofs.Ends.{first-done, first-none}
use Rattle.generated_load.proofs.replies.first_end.Goals as goal

pub returns-in-Done-clause-first : goal.returns-in-Done-clause-first
returns-in-Done-clause-first c =
    let done = subst (Answers (sought Command 1 1) [] [] c.args.bytes.now c.take.new.piece c.take.new.self.state) c.in-Done.is (c.take.ensures.means (sought Command 1 1) [] [] c.start-tracker.ensures) in
    first-done c.args.bytes.now c.take.new.piece c.start-tracker.result.state c.take.new.self.state c.in-Done.used c.in-Done.end c.start-tracker.ensures
    (subst (Walked c.start-tracker.result.state c.args.bytes.now c.take.new.self.state c.take.new.piece) c.in-Done.is c.take.ensures.walks) done.others

pub returns-in-Done-clause-within : goal.returns-in-Done-clause-within
returns-in-Done-clause-within c =
    let done = subst (Answers (sought Command 1 1) [] [] c.args.bytes.now c.take.new.piece c.take.new.self.state) c.in-Done.is (c.take.ensures.means (sought Command 1 1) [] [] c.start-tracker.ensures) in
    done.within

pub returns-in-More-clause-first : goal.returns-in-More-clause-first
returns-in-More-clause-first c =
    first-none c.args.bytes.now c.take.new.piece c.start-tracker.result.state c.take.new.self.state c.take.result c.start-tracker.ensures c.take.ensures.walks
    (λ used end is. let never : More ≡ Done used end = sym c.in-More.is ∙ is in absurd (cc))

pub returns-in-Bad-clause-first : goal.returns-in-Bad-clause-first
returns-in-Bad-clause-first c =
    first-none c.args.bytes.now c.take.new.piece c.start-tracker.result.state c.take.new.self.state c.take.result c.start-tracker.ensures c.take.ensures.walks
    (λ used end is. let never : Bad c.in-Bad.at ≡ Done used end = sym c.in-Bad.is ∙ is in absurd (cc))
