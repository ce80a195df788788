use Rattle.std.specs.Prelude.{Option, IfSome}
use Rattle.std.specs.Option.{option_copied}
use Rattle.std.proofs.Common.{ap, arith, refl, subst}
use Rattle.std.proofs.lemmas.Grind.{common_steps}
use Rattle.packet_frame.specs.Packets.{Framed}
use Rattle.client_seat.specs.Requests.{IsAsked, asked_in}
use Rattle.client_seat.specs.declared.request.Request.{Request}
use Rattle.core_tables.specs.Taking.{found_of, with_packets}
use Rattle.core_tables.proofs.Passing.{packets_of, sent_so}
use Rattle.core_tables.proofs.client.Client.send.Goals as goal

pub returns-in_ok-due-in-Some-Text-clause-sent : goal.returns-in_ok-due-in-Some-Text-clause-sent
returns-in_ok-due-in-Some-Text-clause-sent c = λ is.
    sent_so c.args.self.now c.args.flag (option_copied c.args.text)
    (with_packets c.args.work) c.take_to.new.self c.in-Some-Text.field-0
    c.in-Some-Text.packets.items c.requires.found (ap packets_of c.in-Some-Text.field-0-is)
    (subst (λ (r : Option Request). IfSome (found_of c.args.self.now)
    (λ (message : Framed). IsAsked (asked_in c.args.self.now.desk.seat.statements message.payload (option_copied c.args.text)) r))
    c.in-Some-Text.is c.in_ok-packets.ensures.asked)
    c.in_ok-packets.ensures.is c.in_ok-packets.ensures.noted (λ bytes. refl) _ (first_of (cc, grind (arith, common_steps)))
