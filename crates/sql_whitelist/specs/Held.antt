-- What the maps of a list hold.
use Rattle.std.specs.Prelude.{ℕ, Bool, false, nat_eq, List, Option, Some, None, Vec}
use Rattle.std.specs.Cmp.Lexicographic.{pointwise}
use Rattle.std.specs.HashMap.{HashMap, get_by}
use Rattle.std.specs.HashSet.{HashSet, contains}
use Rattle.sql_whitelist.specs.declared.list.Whitelist.{Whitelist}

-- the key's bytes are these
abbrev pub is_bytes : {Z : Type 0} → List ℕ → Vec ℕ Z → Bool
is_bytes bytes key = pointwise nat_eq bytes key.items

abbrev pub in_hashes : {S : Type 0} → Option (HashSet ℕ S) → (hash : ℕ) → Bool
in_hashes None hash = false
in_hashes (Some digests) hash = contains nat_eq digests hash

abbrev pub in_schemas : {Z S T : Type 0} → HashMap (Vec ℕ Z) (HashSet ℕ S) T → (schema : List ℕ) → (hash : ℕ) → Bool
in_schemas schemas schema hash = in_hashes (get_by (is_bytes schema) schemas) hash

abbrev pub in_user : {Z S T : Type 0} → Option (HashMap (Vec ℕ Z) (HashSet ℕ S) T) → (schema : List ℕ) → (hash : ℕ) → Bool
in_user None schema hash = false
in_user (Some schemas) schema hash = in_schemas schemas schema hash

abbrev pub in_users : {Z S T U : Type 0} → HashMap (Vec ℕ Z) (HashMap (Vec ℕ Z) (HashSet ℕ S) T) U → (user schema : List ℕ) → (hash : ℕ) → Bool
in_users users user schema hash = in_user (get_by (is_bytes user) users) schema hash

-- the list has the hash for this user in this schema
abbrev pub holds : Whitelist → (user schema : List ℕ) → (hash : ℕ) → Bool
holds list user schema hash = in_users list.users user schema hash
