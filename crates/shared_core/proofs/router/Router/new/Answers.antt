use Rattle.std.specs.Prelude.{None, false, true}
use Rattle.std.proofs.Common.{refl}
use Rattle.marked_tables.proofs.Going.{first_known}
use Rattle.shared_core.proofs.Staging.{rules_staged}
use Rattle.shared_core.proofs.Standing.{first_stands, nobody}
use Rattle.shared_core.proofs.router.Router.new.Goals as goal

pub returns-clause-stands : goal.returns-clause-stands
returns-clause-stands c = λ service serves unloaded.
    first_stands c.first_router.ensures service (record {
      alloc = c.args.alloc;
      marked = c.in_ok-new.field-0;
      texts = c.new-2.result;
      policy = c.in_ok-new-2.field-0;
      admin = c.in_ok-admin_of.field-0;
      came = nobody;
      roomy = c.new-4.result;
      asked = None;
      leaving = None;
      closing = None;
      acting = true;
      until = 0;
      stopped = false;
      fresh = c.new-5.result;
    }) c.in_ok-new.ensures.tables refl c.new-2.ensures.none c.new-2.ensures.unnoted
    (rules_staged c.args.config.now service c.in_ok-admin_of.field-0.staged.rules serves c.in_ok-admin_of.ensures.staged)
    c.in_ok-admin_of.ensures.unloaded unloaded

pub returns-clause-known : goal.returns-clause-known
returns-clause-known c = first_known c.in_ok-new.field-0 c.in_ok-new.ensures.tables
