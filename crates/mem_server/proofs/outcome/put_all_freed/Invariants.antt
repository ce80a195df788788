use Rattle.std.proofs.Common.{◌≡◌, ◌++◌, filter, map, take}
use Rattle.mem_rule.specs.Commands.{freed, holds_lock}
use Rattle.mem_server.proofs.outcome.put_all_freed.Given as goal

abbrev pub invariant-loop-note : goal.invariant-loop-note
invariant-loop-note l = l.out ≡ l.initial.out ++ map freed (filter holds_lock (take l.note-index l.notes))
