-- Columns that are no key.
use Rattle.std.specs.Prelude.{◌≡◌, ◌<◌, ◌≤◌, ℕ, Bool, true, false, not, ◌&&◌, if◌then◌else◌, length, List, [], ◌∷◌, Option, None, codes}
use Rattle.std.proofs.Common.{refl, ap, arith, ◌∙◌}
use Rattle.sql_tokens.specs.Words.{same_text}
use Rattle.admin_port.specs.Statements.{key_in}
use Rattle.admin_port.specs.declared.pair.Pair.{Pair}
use Rattle.admin_port.specs.declared.statement.Key.{Key}
use Rattle.admin_port.specs.declared.statement.StagedTable.TheVariants.{Rules, Servers}

pub rule_missing : (pairs : List Pair) → length pairs < 1 → key_in Rules pairs ≡ None
rule_missing [] few = refl
rule_missing (a ∷ pairs) few = absurd (omega (arith, few))

pub rule_many : (pairs : List Pair) → 2 ≤ length pairs → key_in Rules pairs ≡ None
rule_many [] many = absurd (omega (arith, many))
rule_many (a ∷ []) many = absurd (omega (arith, many))
rule_many (a ∷ b ∷ pairs) many = refl

pub rule_other : (pairs : List Pair) (id : Pair) → pairs ≡ id ∷ [] → same_text id.column (codes "rule_id") ≡ false → key_in Rules pairs ≡ None
rule_other pairs id is other = ap (key_in Rules) is ∙ rw other refl

pub server_few : (pairs : List Pair) → length pairs < 3 → key_in Servers pairs ≡ None
server_few [] few = refl
server_few (a ∷ []) few = refl
server_few (a ∷ b ∷ []) few = refl
server_few (a ∷ b ∷ d ∷ pairs) few = absurd (omega (arith, few))

pub server_many : (pairs : List Pair) → 4 ≤ length pairs → key_in Servers pairs ≡ None
server_many [] many = absurd (omega (arith, many))
server_many (a ∷ []) many = absurd (omega (arith, many))
server_many (a ∷ b ∷ []) many = absurd (omega (arith, many))
server_many (a ∷ b ∷ d ∷ []) many = absurd (omega (arith, many))
server_many (a ∷ b ∷ d ∷ e ∷ pairs) many = refl

pub server_other : (pairs : List Pair) (hostgroup host port : Pair) → pairs ≡ hostgroup ∷ host ∷ port ∷ []
    → (same_text hostgroup.column (codes "hostgroup_id") && (same_text host.column (codes "hostname") && same_text port.column (codes "port"))) ≡ false
    → key_in Servers pairs ≡ None
server_other pairs hostgroup host port is other = ap (key_in Servers) is ∙ rw other refl
