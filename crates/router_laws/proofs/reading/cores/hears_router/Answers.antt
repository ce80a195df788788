use Rattle.core_service.specs.Serves.{rules_in}
use Rattle.router_laws.specs.decisions.Goings.{deeds_of}
use Rattle.mx_wire.specs.declared.entry.Entry.TheVariants.{Got}
use Rattle.router_laws.proofs.OfDecisions.Speaking.{ours_of_going}
use Rattle.router_laws.proofs.OfReading.Router.{read_opens}
use Rattle.router_laws.proofs.reading.cores.hears_router.Goals as goal

pub returns : goal.returns
returns c = λ service texts admin is log t now roomy l bytes clock given going router follow bytes_are so given_ours ours ruled why parted since settled.
    c.routers_go_on.ensures service texts admin is log (Got l bytes) (deeds_of given going) t now roomy roomy router follow
    (ours_of_going (rules_in service) texts given going given_ours ours) (λ terms codes of fits. tt)
    (c.hears_judge.ensures service texts admin is log t now roomy l bytes clock given going router follow bytes_are so ours ruled why parted since settled)
    (c.hears_goes.ensures service texts admin log t now roomy l bytes clock given going router follow bytes_are so ours)
    (read_opens c.opens_go_on.ensures log l bytes t now (c.hears_keep.ensures service.setup service.default_schema l bytes clock given going t now so) router.open_just)
