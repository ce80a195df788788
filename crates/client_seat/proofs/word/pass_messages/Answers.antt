use Rattle.std.proofs.Common.{◌∙◌}
use Rattle.client_seat.proofs.Passing.{less_so}
use Rattle.client_seat.proofs.word.pass_messages.Goals as goal

pub passing-smaller : goal.passing-smaller
passing-smaller c =
    (less_so c.passing.client c.done.new.self (record { step = c.in_ok-next.field-0; client = c.next.new.self }) c.in-Message.ordinal c.in-Message.first
    c.in_ok-next.ensures.step c.in-Message.is c.done.ensures).less

pub passing-preserved : goal.passing-preserved
passing-preserved c =
    (less_so c.passing.client c.done.new.self (record { step = c.in_ok-next.field-0; client = c.next.new.self }) c.in-Message.ordinal c.in-Message.first
    c.in_ok-next.ensures.step c.in-Message.is c.done.ensures).same
    ∙ c.passing.invariant
