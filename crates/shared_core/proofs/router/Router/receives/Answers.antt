use Rattle.std.specs.Option.{option_map}
use Rattle.std.proofs.Common.{ap}
use Rattle.std.proofs.lemmas.Result.{on_ok_weaker}
use Rattle.client_seat.specs.Numbers.{numbered}
use Rattle.client_seat.specs.Seats.{new_seat}
use Rattle.core_tables.specs.Tables.{tables_of}
use Rattle.shared_core.proofs.Clients.{keeps_marked, received}
use Rattle.shared_core.proofs.router.Router.receives.Goals as goal

pub returns-clause-received : goal.returns-clause-received
returns-clause-received c =
    on_ok_weaker c.come.result
    (λ is. received (new_seat c.args.link c.args.client c.args.salt c.args.port c.args.service.now.setup) c.args.link c.args.client c.in_ok-seat.seat c.no_note.result
    (tables_of c.args.self.now.marked.tables) (tables_of c.come.new.self.tables) c.in_ok-seat.ensures.is
    (λ on number. ap (option_map numbered) (c.in_ok-seat.ensures.none number)) is) c.come.ensures.is

pub returns-clause-keeps : goal.returns-clause-keeps
returns-clause-keeps c = on_ok_weaker c.come.result (λ goes. keeps_marked c.args.self.now c.come.new.self goes) c.come.ensures.goes
