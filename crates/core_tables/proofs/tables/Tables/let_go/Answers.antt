use Rattle.std.proofs.Common.{nat_eq, Option, refl, sym, ap, ◌∙◌}
use Rattle.std.specs.HashMap.{get}
use Rattle.session_state.specs.declared.names.SessionName.{SessionName}
use Rattle.core_tables.specs.Parting.{changed_for, freed_row}
use Rattle.core_tables.specs.Tables.{tables_of}
use Rattle.core_tables.proofs.Keeping.{same_row}
use Rattle.core_tables.proofs.tables.Tables.let_go.Goals as goal

pub returns-in-Some : goal.returns-in-Some
unfolding tables_of
returns-in-Some c = record {
  clients = λ x.
      c.free_from.ensures x.0 ∙ same_row (freed_row c.in-Some.name.hostgroup) (get nat_eq c.args.self.now.clients) c.in-Some.name.client.0 x.0
      ∙ sym (ap (λ (n : Option SessionName). changed_for freed_row n x (get nat_eq c.args.self.now.clients x.0)) c.in-Some.is);
  numbers = λ x. refl;
  links = λ x. refl;
}
