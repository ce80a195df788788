-- That those for whom links are opened are users of the configuration, with the capabilities that a router logs in with.
use Rattle.std.specs.Prelude.{◌≡◌, true, Some}
use Rattle.mx_wire.specs.Log.{Log}
use Rattle.mx_wire.specs.declared.entry.Entry.{Entry}
use Rattle.private_model.specs.Commands.{Account}
use Rattle.private_model.specs.Names.{SessionName}
use Rattle.private_model.specs.Story.{Due}
use Rattle.log_story.specs.Tale.{view_of}
use Rattle.tale_world.specs.Deciding.{World}
use Rattle.router_promises.specs.Router.{may_log_in}
use Rattle.router_promises.specs.Terms.{login_as}
use Rattle.shared_router.specs.Fixed.{Fixed, setup_of}
use Rattle.shared_router.specs.More.{More}
use Rattle.shared_router.specs.Shared.{world_at}
use Rattle.shared_router.specs.Wishes.{login_for}

pub record IsUser (fixed : Fixed) (account : Account) : Type 0 where
  pub same : account ≡ login_as (login_for fixed account)
  pub known : may_log_in fixed.router (login_for fixed account) ≡ true

-- each client of whom a statement is due
abbrev pub AreUsers : Fixed → World More → Type 0
AreUsers fixed w = (n : SessionName) (due : Due) → (view_of (setup_of fixed) w.tale).dues n ≡ Some due → IsUser fixed (fixed.accounts n.client)

abbrev pub UsersSo : Fixed → Log → Entry → Type 0
UsersSo fixed log e = AreUsers fixed (world_at fixed log)
