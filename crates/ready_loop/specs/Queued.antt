-- Which links the loop still has to look at.
use Rattle.std.specs.Prelude.{◌≡◌, Bool, true, false, Option, Some, IsSome}
use Rattle.mx_base.specs.declared.names.LinkId.{LinkId}
use Rattle.mx_base.specs.Sent.{Sent}
use Rattle.ready_loop.specs.Links.{mark_of, is_in_queue}
use Rattle.ready_loop.specs.declared.links.Links.{Links}
use Rattle.ready_loop.specs.declared.links.Mark.{Mark}

-- no call of this link is owed
pub record IsSettled (reads : Bool) (sends : Option Sent) (mark : Mark) : Type 0 where
  pub read : reads ≡ true → mark.read ≡ true
  pub written : IsSome sends → mark.write ≡ true

-- each link of the table is in the queue, or among the machine's changed ones, or settled
pub record Watches (reads : LinkId → Bool) (sends : LinkId → Option Sent) (changed : LinkId → Bool) (links : Links) : Type 0 where
  pub listed : (link : LinkId) (mark : Mark) → mark_of links link ≡ Some mark → mark.queued ≡ true → is_in_queue links link ≡ true
  pub minded : (link : LinkId) (mark : Mark) → mark_of links link ≡ Some mark → mark.queued ≡ false → changed link ≡ false → IsSettled (reads link) (sends link) mark
