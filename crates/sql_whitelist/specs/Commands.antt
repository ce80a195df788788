-- Which commands a client may send that is held to a list.
use Rattle.std.specs.Prelude.{◌≡◌, ℕ, Bool, true, false, not, List}
use Rattle.std.specs.List.{Any, Contains}
use Rattle.command_parse.specs.Meaning.{Meaning}
use Rattle.command_parse.specs.Meaning.Meaning.{Query, FieldList, Prepare}
use Rattle.query_digest.specs.Digest.{digest_of}
use Rattle.query_digest.specs.Hash.{hash_of}
use Rattle.sql_whitelist.specs.Held.{holds}
use Rattle.sql_whitelist.specs.Listed.{allows}
use Rattle.sql_whitelist.specs.declared.list.Whitelist.{Whitelist}
use Rattle.sql_whitelist.specs.declared.row.ListRow.{ListRow}

-- the list has what the rows have
abbrev pub IsListOf : List ListRow → Whitelist → Type 0
IsListOf rows list = (user schema : List ℕ) (hash : ℕ) → holds list user schema hash ≡ allows rows user schema hash

-- by a test of the hashes that are allowed
abbrev pub is_refused : (is_allowed : ℕ → Bool) → Meaning → Bool
is_refused is_allowed (Query text) = not (is_allowed (hash_of (digest_of text)))
is_refused is_allowed (Prepare text) = not (is_allowed (hash_of (digest_of text)))
is_refused is_allowed (FieldList rest) = true
is_refused is_allowed _ = false

-- a row of this user and this schema has the hash of the text's digest
pub record HasText (row : ListRow) (user schema text : List ℕ) : Type 0 where
  pub of_user : row.user ≡ user
  pub in_schema : row.schema ≡ schema
  pub has : Contains row.digests (hash_of (digest_of text))

abbrev pub IsListed : List ListRow → (user schema text : List ℕ) → Type 0
IsListed rows user schema text = Any (λ row. HasText row user schema text) rows

-- what runs or prepares a text has one that is listed, and a table's columns aren't asked for
abbrev pub MaySend : List ListRow → (user schema : List ℕ) → Meaning → Type 0
MaySend rows user schema (Query text) = IsListed rows user schema text
MaySend rows user schema (Prepare text) = IsListed rows user schema text
MaySend rows user schema (FieldList rest) = ⊥
MaySend rows user schema _ = Unit {0}
