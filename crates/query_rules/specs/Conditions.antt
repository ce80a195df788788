-- Where a rule fires: the conditions of its row, one by one.
use Rattle.std.specs.Prelude.{ℕ, Bool, true, not, ◌&&◌, ◌==◌, if◌then◌else◌, List, bytes_eq, Option, Some, None}
use Rattle.query_digest.specs.Digest.{digest_of}
use Rattle.query_digest.specs.Hash.{hash_of}
use Rattle.query_rules.specs.declared.ask.Ask.{Ask}
use Rattle.query_rules.specs.declared.pass.Pass.{Pass}
use Rattle.query_rules.specs.declared.rule.Rule.{Rule}
use Rattle.query_rules.specs.Patterns.{finds}

-- what is absent fits all
abbrev pub absent_or : {A : Type 0} → (A → Bool) → Option A → Bool
absent_or fits None = true
absent_or fits (Some wanted) = fits wanted

-- active
abbrev pub fits_active : Rule → Bool
fits_active rule = rule.row.active

-- flagIN: the flag that the pass has
abbrev pub fits_flag : Rule → ℕ → Bool
fits_flag rule flag = rule.row.flagIN == flag

-- username, schemaname: the client's, byte for byte
abbrev pub fits_name : (wanted : Option (List ℕ)) → (name : List ℕ) → Bool
fits_name wanted name = absent_or (λ text. bytes_eq text name) wanted

-- digest: the hash of the digest of the text as received
abbrev pub fits_digest : Rule → (received : List ℕ) → Bool
fits_digest rule received = absent_or (λ hash. hash_of (digest_of received) == hash) rule.row.digest

-- negate_match_pattern: each pattern that is there has to find nothing
abbrev pub as_wanted : Rule → (found : Bool) → Bool
as_wanted rule found = if rule.row.negate_match_pattern then not found else found

-- match_digest: finds in the digest of the text as received
abbrev pub fits_match_digest : Rule → (received : List ℕ) → Bool
fits_match_digest rule received = absent_or (λ pattern. as_wanted rule (finds pattern (digest_of received))) rule.match_digest

-- match_pattern: finds in the text as rewritten so far
abbrev pub fits_match_pattern : Rule → (rewritten : List ℕ) → Bool
fits_match_pattern rule rewritten = absent_or (λ pattern. as_wanted rule (finds pattern rewritten)) rule.match_pattern

-- what is asked before the text is looked at
abbrev pub admits : Rule → Ask → (flag : ℕ) → Bool
admits rule ask flag =
    fits_active rule && (fits_flag rule flag && (fits_name rule.row.username ask.user && fits_name rule.row.schemaname ask.schema))

-- a rule fires where all its conditions fit
abbrev pub fires : Rule → Ask → Pass → Bool
fires rule ask pass =
    admits rule ask pass.flag && (fits_digest rule ask.text && (fits_match_digest rule ask.text && fits_match_pattern rule pass.text))
