use Rattle.std.specs.Prelude.{◌≡◌, ◌||◌, nat_eq, true}
use Rattle.std.specs.BTreeSet.{keys}
use Rattle.std.specs.List.{list_any}
use Rattle.mx_base.specs.declared.names.ClientNo.{ClientNo}
use Rattle.core_laws.specs.clients.Going.{is_going}
use Rattle.shared_core.specs.Stands.{tables}
use Rattle.shared_core.proofs.router.Router.all_numbers.Given as goal

abbrev pub invariant-loop-number : goal.invariant-loop-number
invariant-loop-number l = (c : ClientNo) → is_going ((tables l.self).clients c) ≡ true
    → (list_any (nat_eq c.0) (keys l.numbers) || list_any (nat_eq c.0) l.number-iterator) ≡ true
