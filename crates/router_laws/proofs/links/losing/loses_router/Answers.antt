use Rattle.core_service.specs.Serves.{rules_in}
use Rattle.router_laws.proofs.OfDecisions.Speaking.{ours_of_going}
use Rattle.router_laws.proofs.OfWaits.Then.{break_waits}
use Rattle.router_laws.proofs.OfLinks.LossOnward.{goes_so, loses_keep_rows, loses_open}
use Rattle.router_laws.proofs.OfWakes.Told.{tells_going}
use Rattle.router_laws.specs.decisions.Goings.{deeds_of}
use Rattle.router_laws.specs.links.Loses.{entry_by}
use Rattle.router_laws.proofs.links.losing.loses_router.Goals as goal

pub returns : goal.returns
returns c = λ service texts admin is log t now roomy l how given going router follow given_ours ours so ruled why parted since settled.
    c.routers_go_on.ensures service texts admin is log (entry_by how l) (deeds_of given going) t now roomy roomy router follow
    (ours_of_going (rules_in service) texts given going given_ours ours) (break_waits service log how l router.core.decided)
    (c.loses_judge.ensures service texts admin is log t now roomy l how given going router follow so ours ruled why parted since settled)
    (λ setup codes plan of fits.
    goes_so (record {
      losses = record { loses = c.lost_stands.ensures; tests = c.freed_stands.ensures.test; same = c.same_stands.ensures };
      follows = c.follows_rest.ensures;
      ungiven = c.ungiven_are_in_work.ensures.work;
      unreplied = c.ungiven_are_in_work.ensures.unreplied;
      kept = c.answers_are_kept.ensures.so;
      ends = c.ends_go_on.ensures;
      counts = c.counts_go_on.ensures;
      stood = c.routers_stood.ensures;
      rise = c.links_rise.ensures.tale;
    }) service log t now roomy l how given going router follow so ours (tells_going c.told_stands.ensures going service.setup) setup codes plan of fits)
    (loses_open log t now how l router.open_just (loses_keep_rows service.setup service.default_schema l given going t now so))
