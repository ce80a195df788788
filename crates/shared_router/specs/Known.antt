-- What the router decides by at a moment: the promise's terms and what is known by them, and for whom links are readied.
use Rattle.std.specs.Prelude.{Option}
use Rattle.mx_wire.specs.Log.{Log}
use Rattle.private_model.specs.Names.{ClientNo, Hostgroup, LinkId, SessionName}
use Rattle.private_model.specs.View.{Held, Link, Setup, View}
use Rattle.tale_world.specs.Deciding.{World}
use Rattle.tale_world.specs.Policy.{Readied}
use Rattle.router_promises.specs.Now.{Now, held_now, link_now, present_now, view_now}
use Rattle.router_promises.specs.Terms.{Terms, setup_in}
use Rattle.shared_router.specs.Fixed.{Fixed}
use Rattle.shared_router.specs.More.{More, now_of, terms_of}

pub record Known : Type 0 where
  pub fixed : Fixed
  pub terms : Terms
  pub log : Log
  pub now : Now
  pub readied : LinkId → Option Readied

abbrev pub known : Fixed → World More → Known
known fixed w = record { fixed = fixed; terms = terms_of fixed w; log = w.more.log; now = now_of fixed w; readied = w.more.readied }

abbrev pub setup_by : Known → Setup
setup_by k = setup_in k.terms

abbrev pub view_by : Known → View
view_by k = view_now (setup_by k) k.now

abbrev pub link_by : Known → LinkId → Link
link_by k link = link_now (setup_by k) k.now link

abbrev pub held_by : Known → SessionName → Held
held_by k n = held_now (setup_by k) k.now n

abbrev pub present_by : Known → ClientNo → Hostgroup → SessionName
present_by k client hostgroup = present_now (setup_by k) k.now client hostgroup
