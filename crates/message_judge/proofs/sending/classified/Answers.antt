use Rattle.std.proofs.Common.{ap, ◌∙◌}
use Rattle.pin_classifier.specs.Classes.{class_of}
use Rattle.message_judge.proofs.Routing.{classified_so}
use Rattle.message_judge.proofs.sending.classified.Goals as goal

pub returns : goal.returns
returns c = λ prepared flag stop. c.passed_on.ensures c.args.caller.now prepared
    ∙ classified_so c.args.caller.now c.args.standing prepared c.hostgroup_for-there.result c.args.hostgroup c.args.text flag c.args.multiplex stop c.in_ok-class.class c.args.number
    (c.in_ok-class.ensures ∙ ap class_of c.as_slice.ensures) c.hostgroup_for-there.ensures
