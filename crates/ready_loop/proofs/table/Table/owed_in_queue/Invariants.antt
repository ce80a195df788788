use Rattle.std.proofs.Common.{◌≡◌}
use Rattle.std.specs.VecDeque.{deque_len}
use Rattle.mx_base.specs.declared.names.LinkId.{LinkId}
use Rattle.ready_loop.specs.Links.{dry_of}
use Rattle.ready_loop.specs.Queued.{Watches}
use Rattle.ready_loop.proofs.table.Table.owed_in_queue.Given as goal

abbrev pub invariant-loop-link : goal.invariant-loop-link
invariant-loop-link g l = record {
  watches : Watches (g.M.Machine.reads l.core) (g.M.Machine.sends l.core) (g.M.Machine.changed l.core) l.self.links;
  dry : (link : LinkId) → dry_of l.self.links link ≡ dry_of l.fn.self.links link;
  round : l.self.round ≡ l.fn.self.round;
}

abbrev pub decreases-loop-link : goal.decreases-loop-link
decreases-loop-link g l = deque_len l.self.links.queue
