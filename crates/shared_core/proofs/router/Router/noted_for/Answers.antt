use Rattle.std.specs.Option.{option_map}
use Rattle.shared_core.specs.Stands.{tables}
use Rattle.shared_core.proofs.Notes.{noted-all}
use Rattle.shared_core.proofs.router.Router.noted_for.Goals as goal

pub returns-in-Some : goal.returns-in-Some
returns-in-Some c =
    noted-all c.args.self.now.texts (tables c.args.self.now) c.args.client c.args.ordinal c.in-Some.one c.requires c.in-Some.ensures c.noted_by.result
    c.noted_by.ensures
