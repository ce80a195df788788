use Rattle.std.proofs.Common.{length, ◌≡◌, ◌++◌, ◌∷◌, [], ap, ◌∙◌, Ok, arith}
use Rattle.packet_frame.specs.FramerState.{FramerState, look, past}
use Rattle.packet_frame.proofs.Taking.{seen-limit, seen-kept, taken-looked, looked-none, looked-fault, looked-message, taken-done, taken-shorter}
use Rattle.packet_frame.proofs.pieces.take_messages.Goals as goal

pub returns-in-Ok-None-clause-dry : goal.returns-in-Ok-None-clause-dry
returns-in-Ok-None-clause-dry c = (looked-none c.args.first c.loop-payloads.framer c.next.new.self c.next.result c.next.ensures.after c.next.ensures.found (c.in-Ok-None.is ∙ ap Ok c.in-Ok-None.field-0-is)).messages

pub returns-in-Ok-None-clause-faulty : goal.returns-in-Ok-None-clause-faulty
returns-in-Ok-None-clause-faulty c = (looked-none c.args.first c.loop-payloads.framer c.next.new.self c.next.result c.next.ensures.after c.next.ensures.found (c.in-Ok-None.is ∙ ap Ok c.in-Ok-None.field-0-is)).faulty

pub returns-in-Ok-None-clause-part : goal.returns-in-Ok-None-clause-part
returns-in-Ok-None-clause-part c = λ all was. taken-looked c.args.first all c.loop-payloads.payloads.items c.loop-payloads.framer c.next.new.self c.next.ensures.after (c.loop-payloads.invariant.part all was)

pub returns-in-Err-clause-part : goal.returns-in-Err-clause-part
returns-in-Err-clause-part c = λ all was. taken-looked c.args.first all c.loop-payloads.payloads.items c.loop-payloads.framer c.next.new.self c.next.ensures.after (c.loop-payloads.invariant.part all was)

pub returns-in-Err-clause-dry : goal.returns-in-Err-clause-dry
returns-in-Err-clause-dry c = (looked-fault c.args.first c.loop-payloads.framer c.next.new.self c.next.result c.in-Err.fault c.next.ensures.after c.next.ensures.found c.in-Err.is).messages

pub returns-in-Err-clause-faulty : goal.returns-in-Err-clause-faulty
returns-in-Err-clause-faulty c = (looked-fault c.args.first c.loop-payloads.framer c.next.new.self c.next.result c.in-Err.fault c.next.ensures.after c.next.ensures.found c.in-Err.is).faulty

pub loop-payloads-smaller : goal.loop-payloads-smaller
loop-payloads-smaller c =
    let ready = looked-message c.args.first c.loop-payloads.framer c.next.new.self c.next.result c.in-Ok-Some.field-0-0 c.next.ensures.after c.next.ensures.found (c.in-Ok-Some.is ∙ ap Ok c.in-Ok-Some.field-0-is) in
    let kept : c.next.new.self.kept ≡ c.loop-payloads.framer.kept = ap (λ (s : FramerState). s.kept) c.next.ensures.after ∙ seen-kept c.loop-payloads.framer (look c.args.first c.loop-payloads.framer) in
    omega (arith, taken-shorter c.args.first ready.0 c.next.new.self c.done.new.self ready.1 c.done.ensures, ap (λ xs. length xs) kept)

pub loop-payloads-preserved : goal.loop-payloads-preserved
loop-payloads-preserved c =
    let ready = looked-message c.args.first c.loop-payloads.framer c.next.new.self c.next.result c.in-Ok-Some.field-0-0 c.next.ensures.after c.next.ensures.found (c.in-Ok-Some.is ∙ ap Ok c.in-Ok-Some.field-0-is) in
    let payload : c.payload.result.now ≡ (ready.0).payload = rw ready.1.found at c.payload.ensures in
    let limit : c.done.new.self.limit ≡ c.loop-payloads.framer.limit = ap (λ (s : FramerState). s.limit) (c.done.ensures ∙ ap past c.next.ensures.after) ∙ seen-limit c.loop-payloads.framer (look c.args.first c.loop-payloads.framer) in
    record {
      same = limit ∙ c.loop-payloads.invariant.same;
      part = λ all was. taken-done c.args.first all c.loop-payloads.payloads.items c.push.new.self.items ready.0 c.next.new.self c.done.new.self ready.1
          (c.in_ok-push-in-Ok-Some.ensures.items ∙ ap (λ x. c.loop-payloads.payloads.items ++ x ∷ []) (c.in_ok-from_slice-in-Ok-Some.ensures ∙ payload)) c.done.ensures
          (taken-looked c.args.first all c.loop-payloads.payloads.items c.loop-payloads.framer c.next.new.self c.next.ensures.after (c.loop-payloads.invariant.part all was));
    }
