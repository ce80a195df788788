-- The router is the configuration's: one row is in order, and its rule has no patterns.
use Rattle.std.specs.Prelude.{◌≤◌, ◌<◌, ℕ, zero, suc, length, slice_index_or, ◌∷◌, All, refl, []}
use Rattle.std.proofs.Common.{arith}
use Rattle.query_rules.specs.Building.{IsCompiled}
use Rattle.query_rules.specs.declared.row.RuleRow.{RuleRow}
use Rattle.server_rule.specs.Classes.{router_reads}
use Rattle.router_promises.specs.Router.{IsConfiguredBy}
use Rattle.served_cases.specs.File.{config, row}
use Rattle.served_cases.specs.Served.{router_by, rule}

alone : (i j : ℕ) (d : RuleRow) → i ≤ j → j < length (row ∷ [])
    → (slice_index_or (row ∷ []) i d).rule_id ≤ (slice_index_or (row ∷ []) j d).rule_id
alone zero zero d below within = omega arith
alone (suc i) zero d below within = absurd (omega (arith, below))
alone i (suc j) d below within = absurd (omega (arith, within))

plain : All IsCompiled (rule ∷ [])
plain zero d within = record { match_digest = tt; match_pattern = tt }
plain (suc k) d within = absurd (omega (arith, within))

pub configured : IsConfiguredBy config (router_by router_reads)
configured = record {
  reads = refl;
  proxy = refl;
  users = refl;
  servers = refl;
  rules = record { same = record { moves = []; below = tt; is = refl }; ascending = alone };
  patterns = plain;
}
