use Rattle.std.proofs.Common.{◌∙◌, ap, sym, Ok, Err, arith}
use Rattle.std.proofs.lemmas.Result.{err_from_is_err_and}
use Rattle.packet_frame.proofs.Joins.{all-found, all-message, all-fault, all-none, all-empty, all-more}
use Rattle.packet_frame.proofs.kept.Kept.join_all.Goals as goal

pub returns-in-Some-clause-found : goal.returns-in-Some-clause-found
returns-in-Some-clause-found c = all-found c.args.limit c.args.self.now c.loop-message.self c.loop-message.invariant.joined c.loop-message.invariant.same c.loop-message.invariant.first c.in-Some.message c.in-Some.ensures

pub returns-in-Some-clause-message : goal.returns-in-Some-clause-message
returns-in-Some-clause-message c = all-message c.args.limit c.args.self.now c.loop-message.self c.loop-message.invariant.joined c.loop-message.invariant.same c.loop-message.invariant.first c.in-Some.message c.in-Some.ensures

pub returns-in_err-join_next-clause-found : goal.returns-in_err-join_next-clause-found
returns-in_err-join_next-clause-found c =
    let left = err_from_is_err_and c.from_residual.result c.from_residual.ensures.1 in
    left.1 ∙ ap Err left.2 ∙ all-fault c.args.limit c.args.self.now c.loop-message.self c.loop-message.invariant.joined c.loop-message.invariant.same c.loop-message.invariant.first c.in_err-join_next.field-0.0 c.in_default.ensures c.in_err-join_next.ensures.told

pub returns-then-not-branch-clause-found : goal.returns-then-not-branch-clause-found
returns-then-not-branch-clause-found c = all-none c.args.limit c.args.self.now c.loop-message.self c.loop-message.invariant.joined c.loop-message.invariant.same c.loop-message.invariant.first c.in_default.ensures (ap Ok (sym c.if-not-branch.true) ∙ c.in_ok-join_next.ensures.told)

pub returns-then-not-branch-clause-message : goal.returns-then-not-branch-clause-message
returns-then-not-branch-clause-message c = all-empty c.args.limit c.args.self.now c.loop-message.self c.loop-message.invariant.joined c.loop-message.invariant.same c.loop-message.invariant.first c.join_next.new.self c.in_default.ensures (ap Ok (sym c.if-not-branch.true) ∙ c.in_ok-join_next.ensures.told) c.join_next.ensures.after

pub loop-message-preserved : goal.loop-message-preserved
loop-message-preserved c =
    let more = all-more c.args.limit c.args.self.now c.loop-message.self c.loop-message.invariant.joined c.loop-message.invariant.same c.loop-message.invariant.first c.join_next.new.self c.in_default.ensures c.join_next.ensures.bytes (ap Ok (sym c.if-not-branch.false) ∙ c.in_ok-join_next.ensures.told) c.join_next.ensures.after in
    record {
      joined = more.0.joined;
      same = more.0.same ∙ c.loop-message.invariant.same;
      first = more.1 ∙ c.loop-message.invariant.first;
    }

pub loop-message-smaller : goal.loop-message-smaller
loop-message-smaller c =
    let more = all-more c.args.limit c.args.self.now c.loop-message.self c.loop-message.invariant.joined c.loop-message.invariant.same c.loop-message.invariant.first c.join_next.new.self c.in_default.ensures c.join_next.ensures.bytes (ap Ok (sym c.if-not-branch.false) ∙ c.in_ok-join_next.ensures.told) c.join_next.ensures.after in
    omega (arith, more.0.shorter)
