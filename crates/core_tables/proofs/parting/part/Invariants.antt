use Rattle.std.proofs.Common.{◌≡◌, take, nat_eq}
use Rattle.std.specs.HashMap.{get}
use Rattle.std.specs.Option.{option_map}
use Rattle.mx_base.specs.declared.names.LinkId.{LinkId}
use Rattle.core_tables.specs.Parting.{kept_at, with_kept}
use Rattle.core_tables.proofs.parting.part.Given as goal

abbrev pub invariant-loop-session : goal.invariant-loop-session
invariant-loop-session l = (at : LinkId) → get nat_eq l.links at.0 ≡ option_map (with_kept (kept_at at (take l.session-index l.sessions))) (get nat_eq l.fn.links at.0)
