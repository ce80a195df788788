use Rattle.std.specs.Prelude.{◌≡◌, true, Some}
use Rattle.std.proofs.Common.{subst, ◌∙◌}
use Rattle.std.proofs.lemmas.Option.{same_Some}
use Rattle.core_tables.specs.Tables.{tables_of}
use Rattle.core_tables.specs.declared.server.Server.{Server}
use Rattle.shared_core.specs.Rows.{IsToldPlace}
use Rattle.shared_core.proofs.Needs.{if_value}
use Rattle.shared_core.proofs.needing.wants_prepared.Goals as goal

pub returns-in-Some-row_of : goal.returns-in-Some-row_of
returns-in-Some-row_of c =
    if_value c.is_to_prepare.result (λ is. is ≡ true → IsToldPlace c.args.of_key.now c.in-Some.server.now.row.link.state.told)
    (λ wants. wants ≡ true → (server : Server) → (tables_of c.args.tables.now).links c.args.link ≡ Some server → IsToldPlace c.args.of_key.now server.row.link.state.told)
    (λ is so wants server there. subst (λ (one : Server). IsToldPlace c.args.of_key.now one.row.link.state.told) (same_Some _ _ (c.in-Some.ensures ∙ there)) (so wants))
    c.is_to_prepare.ensures
