-- What the router knows beside the tale: a fold of its log, and by it the promise's own `Now` and `Terms` at each moment.
use Rattle.std.specs.Prelude.{ℕ, Bool, false, List, [], Option, None}
use Rattle.std.specs.Option.{option_map_or}
use Rattle.hostgroups.specs.declared.server.Server.{Server}
use Rattle.mx_wire.specs.Log.{Log}
use Rattle.mx_wire.specs.declared.entry.Entry.{Entry}
use Rattle.private_model.specs.Names.{ClientNo, LinkId, MessageName}
use Rattle.server_side.specs.Account.{Account as Login}
use Rattle.tale_world.specs.Decided.{plan_of}
use Rattle.tale_world.specs.Deciding.{World}
use Rattle.tale_world.specs.Policy.{Readied}
use Rattle.log_story.specs.Tale.{first_tale}
use Rattle.router_promises.specs.Now.{Now}
use Rattle.router_promises.specs.Running.{servers_at_first}
use Rattle.router_promises.specs.Terms.{Terms, Tried}
use Rattle.router_promises.specs.Uses.{Use, unused, use_after}
use Rattle.shared_router.specs.Fixed.{Fixed}

-- The entries so far, with what was known before the last of them; the moment of the last wake; servers, the clients' flags, and since when
-- messages are taken up; for whom links are readied; which links are kept for those in no schema; and for whom opens failed.
pub record More : Type 0 where
  pub log : Log
  pub last : Option Entry
  pub before : Now
  pub clock : ℕ
  pub servers : List Server
  pub flags : ClientNo → ℕ
  pub since : MessageName → ℕ
  pub readied : LinkId → Option Readied
  pub bare : LinkId → Bool
  pub tried : (entry : ℕ) → Tried

abbrev pub nobody : Login
nobody = record { user = []; password = []; found_rows = false }

abbrev pub first_now : Fixed → Now
first_now fixed = record {
  clock = 0;
  tale = first_tale;
  servers = servers_at_first fixed.router;
  flags = λ c. 0;
  since = λ m. 0;
  uses = λ link. unused 0;
}

abbrev pub first_more : Fixed → More
first_more fixed = record {
  log = [];
  last = None;
  before = first_now fixed;
  clock = 0;
  servers = servers_at_first fixed.router;
  flags = λ c. 0;
  since = λ m. 0;
  readied = λ link. None;
  bare = λ link. false;
  tried = λ entry. record { login = nobody; bare = false };
}

-- the promise's terms by what was decided
abbrev pub terms_of : Fixed → World More → Terms
terms_of fixed w = record {
  router = fixed.router;
  decided = record {
    plan = plan_of w.decided;
    keys = fixed.keys;
    accounts = fixed.accounts;
    places = fixed.places;
    administered = fixed.administered;
    bare = w.more.bare;
    tried = w.more.tried;
  };
  stored = fixed.stored;
}

-- How links were used needs the tale behind the entry, so it is made of what was known before the last entry and of the tale.
abbrev pub uses_of : Fixed → World More → LinkId → Use
uses_of fixed w =
    option_map_or (λ e. use_after (terms_of fixed w) w.more.before.clock w.more.before.tale w.tale e w.more.before.uses) w.more.last w.more.before.uses

abbrev pub now_of : Fixed → World More → Now
now_of fixed w = record {
  clock = w.more.clock;
  tale = w.tale;
  servers = w.more.servers;
  flags = w.more.flags;
  since = w.more.since;
  uses = uses_of fixed w;
}
