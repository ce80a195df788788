use Rattle.std.proofs.Common.{◌≡◌, ◌≤◌, ◌∙◌, ap, length, sym, take, take_all, arith}
use Rattle.std.specs.List.{flat_map}
use Rattle.generated_load.specs.Replies.{wrote_on}
use Rattle.generated_load.proofs.Written.{written_by}
use Rattle.generated_load.proofs.replies.written_on.Goals as goal

pub returns : goal.returns
returns c =
    let whole : length c.args.log.now ≤ c.loop-entry.entry-index = omega arith in
    c.loop-entry.invariant ∙ ap (flat_map (wrote_on c.args.link)) (take_all c.loop-entry.entry-index c.args.log.now whole) ∙ sym (written_by c.args.link c.args.log.now)
