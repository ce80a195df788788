use Rattle.std.specs.Prelude.{Option, IfSome, None}
use Rattle.std.proofs.Common.{arith, subst}
use Rattle.std.proofs.lemmas.Grind.{common_steps}
use Rattle.packet_frame.specs.Packets.{Framed}
use Rattle.client_seat.specs.Requests.{IsAsked, asked_in}
use Rattle.client_seat.specs.declared.request.Request.{Request}
use Rattle.core_tables.specs.Taking.{found_of, with_args}
use Rattle.core_tables.proofs.Passing.{ran_so}
use Rattle.core_tables.proofs.client.Client.run.Goals as goal

pub returns-in_ok-due-in-Some-Run-clause-runs : goal.returns-in_ok-due-in-Some-Run-clause-runs
returns-in_ok-due-in-Some-Run-clause-runs c = λ is.
    ran_so c.args.self.now c.args.flag (with_args c.args.work) c.take_to.new.self c.in-Some-Run.field-0 _
    c.in-Some-Run.args c.requires.found c.in-Some-Run.field-0-is
    (subst (λ (r : Option Request). IfSome (found_of c.args.self.now)
    (λ (message : Framed). IsAsked (asked_in c.args.self.now.desk.seat.statements message.payload None) r))
    c.in-Some-Run.is c.in_ok-args.ensures.asked)
    c.in_ok-args.ensures.is c.in_ok-args.ensures.noted _ (first_of (cc, grind (arith, common_steps)))
