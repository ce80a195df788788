use Rattle.std.specs.Prelude.{◌≡◌}
use Rattle.std.proofs.Common.{inl, ◌∙◌}
use Rattle.std.proofs.lemmas.Result.{on_ok_weaker}
use Rattle.message_judge.specs.Told.{payloads_of}
use Rattle.core_turns.proofs.answering.answer.Goals as goal

pub returns-clause-is : goal.returns-clause-is
returns-clause-is c =
    let said : c.as_slice.result.now ≡ c.in_ok-packets.packets.items = cc in
    on_ok_weaker c.tell.result
    (λ tells ruling own. tells ruling (payloads_of c.args.client.0 c.args.told.now) (inl (own c.args.client))
    (λ row there message found. said ∙ c.in_ok-packets.ensures row there message found)) c.tell.ensures.is
