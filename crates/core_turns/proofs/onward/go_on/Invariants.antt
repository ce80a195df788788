use Rattle.core_promises.specs.Ruled.{book_of}
use Rattle.core_service.specs.Serves.{rules_in}
use Rattle.core_turns.specs.Administering.{administered}
use Rattle.core_turns.proofs.Partings.{IsGoing}
use Rattle.core_turns.proofs.onward.go_on.Given as goal

abbrev pub invariant-turns : goal.invariant-turns
invariant-turns l = IsGoing (book_of l.fn.service) l.fn.texts l.texts (administered (rules_in l.fn.service) l.fn.admin) (administered (rules_in l.fn.service) l.admin) l.fn.service.setup l.fn.service.default_schema l.fn.client l.fn.marked l.marked
