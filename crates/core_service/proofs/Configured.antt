-- What a lawful configuration has for the sessions.
use Rattle.std.specs.Prelude.{List, [], not, true, ℕ, ◌++◌, ◌==◌, ◌∷◌, ◌≡◌, ◌≢◌}
use Rattle.mx_config.specs.{Lawful.EachBehind, Lawful.IsLawful, Lawful.IsLawfulUser, declared.config.Config.Config, declared.config.UserRow.UserRow}
use Rattle.std.proofs.{Common.arith, lemmas.Grind.common_steps, lemmas.List.Elements.All-cons, lemmas.List.Elements.All-nil}
use Rattle.{handshake.specs.Spelling.IsText, std.specs.List.list_any}
use Rattle.core_service.specs.Serves.{AreTexts}

none-zero : (bytes : List ℕ) → not (list_any (λ b. b == 0) bytes) ≡ true → IsText bytes
none-zero [] is = All-nil (λ (b : ℕ). b ≢ 0)
none-zero (byte ∷ bytes) is = grind (arith, common_steps, none-zero bytes)

texts-behind : (before rows : List UserRow) → EachBehind IsLawfulUser before rows → AreTexts rows
texts-behind before [] each = All-nil (λ (row : UserRow). IsText row.name)
texts-behind before (row ∷ rows) each = All-cons (λ (r : UserRow). IsText r.name) row rows
    (grind (arith, common_steps, none-zero row.name, each.0.name)) (texts-behind (before ++ row ∷ []) rows each.1)

-- its version is a text that a NUL ends, and so are the names; and no longer message is allowed than may be
pub lawful_version : (config : Config) → IsLawful config → IsText config.proxy.server_version
lawful_version config lawful = grind (arith, common_steps, none-zero config.proxy.server_version, lawful.proxy.server_version)

pub lawful_admin : (config : Config) → IsLawful config → IsText config.proxy.admin_user
lawful_admin config lawful = grind (arith, common_steps, none-zero config.proxy.admin_user, lawful.proxy.admin_user)

pub lawful_names : (config : Config) → IsLawful config → AreTexts config.users
lawful_names config lawful = texts-behind [] config.users lawful.users.each
