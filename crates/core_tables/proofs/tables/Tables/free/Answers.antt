use Rattle.std.proofs.Common.{nat_eq, Option, ap, ◌∙◌}
use Rattle.std.specs.HashMap.{get}
use Rattle.std.specs.Option.{option_map}
use Rattle.std.specs.Prelude.{if◌then◌else◌}
use Rattle.session_state.specs.declared.names.SessionName.{SessionName}
use Rattle.core_tables.specs.Parting.{changed_for, freed_row, freed_server}
use Rattle.core_tables.specs.Tables.{tables_of}
use Rattle.core_tables.proofs.tables.Tables.free.Goals as goal

pub returns : goal.returns
unfolding tables_of
returns c = record {
  clients = λ x.
      c.let_go.ensures.clients x
      ∙ ap (λ (n : Option SessionName). changed_for freed_row n x (get nat_eq c.args.self.now.clients x.0)) c.present_on-name.ensures;
  numbers = λ x. c.let_go.ensures.numbers x;
  links = λ x.
      c.free_in.ensures x.0
      ∙ (λ i. if nat_eq c.args.link.0 x.0 then option_map freed_server (c.let_go.ensures.links c.args.link i) else c.let_go.ensures.links x i);
}
