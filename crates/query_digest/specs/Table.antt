-- How often each digest was seen.
use Rattle.std.specs.Prelude.{ℕ, ◌+◌, ◌-◌, ◌^◌, min, Bool, ◌&&◌, nat_eq, bytes_eq, List, [], ◌∷◌, ◌++◌, length, if◌then◌else◌}
use Rattle.std.specs.List.{list_any}
use Rattle.query_digest.specs.declared.table.DigestKey.{DigestKey}
use Rattle.query_digest.specs.declared.table.Counted.{Counted}
use Rattle.query_digest.specs.declared.table.Counted.TheVariants.{Added, First, Full}

abbrev pub same_key : DigestKey → DigestKey → Bool
same_key a b = nat_eq a.hostgroup.0 b.hostgroup.0 && (bytes_eq a.schema b.schema && (bytes_eq a.user b.user && bytes_eq a.digest b.digest))

-- the key has an entry
abbrev pub has_key : List (DigestKey × ℕ) → DigestKey → Bool
has_key table key = list_any (λ entry. same_key key entry.0) table

-- one more of this key, which has an entry; a count stays at its last value
abbrev pub one_more : List (DigestKey × ℕ) → DigestKey → List (DigestKey × ℕ)
one_more [] key = []
one_more (entry ∷ table) key = if same_key key entry.0 then (entry.0, min (entry.1 + 1) (2 ^ 64 - 1)) ∷ table else entry ∷ one_more table key

-- what counting a key answers, and the entries after it, in the order of first sight
abbrev pub counted : List (DigestKey × ℕ) → DigestKey → Counted × List (DigestKey × ℕ)
counted table key =
    if has_key table key then (Added, one_more table key)
    else if nat_eq (length table) 10000 then (Full, table)
    else (First, table ++ (key, 1) ∷ [])
