-- For whom a link is readied.
use Rattle.std.specs.Prelude.{◌≡◌, true, Some}
use Rattle.tale_world.specs.Policy.{Readied}
use Rattle.router_promises.specs.Keys.{is_waiting}
use Rattle.shared_router.specs.Known.{Known, present_by, view_by}

-- it waits, in its client's present session, as it is due there
pub record Waits (k : Known) (r : Readied) : Type 0 where
  pub due : (view_by k).dues r.name ≡ Some r.due
  pub present : present_by k r.name.client r.name.hostgroup ≡ r.name
  pub waits : is_waiting k.terms k.now r.name.client r.name.hostgroup r.due.ordinal ≡ true
