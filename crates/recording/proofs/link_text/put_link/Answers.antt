use Rattle.std.proofs.lemmas.Result.{IfOk-equal}
use Rattle.recording.proofs.RunSteps.{link_parts}
use Rattle.recording.proofs.link_text.put_link.Goals as goal

pub returns : goal.returns
returns c = IfOk-equal c.put_runs.result _ _ _ c.put_runs.ensures
    (link_parts c.args.peer c.args.log.now c.args.places.now _ _ _ _ _ c.in_ok-append.ensures.ok c.in_ok-put_title.ensures c.is_closed.ensures c.in_ok-put_standing.ensures)
