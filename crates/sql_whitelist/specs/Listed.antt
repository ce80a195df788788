-- Which statements a list allows.
use Rattle.std.specs.Prelude.{ℕ, Bool, ◌&&◌, ◌==◌, bytes_eq, List}
use Rattle.std.specs.List.{list_any}
use Rattle.sql_whitelist.specs.declared.row.ListRow.{ListRow}

-- the row is of this user and this schema and has the hash
abbrev pub has_hash : ListRow → (user schema : List ℕ) → (hash : ℕ) → Bool
has_hash row user schema hash = bytes_eq row.user user && (bytes_eq row.schema schema && list_any (λ listed. listed == hash) row.digests)

-- a row does
abbrev pub allows : List ListRow → (user schema : List ℕ) → (hash : ℕ) → Bool
allows rows user schema hash = list_any (λ row. has_hash row user schema hash) rows
