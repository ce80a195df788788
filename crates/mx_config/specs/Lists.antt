-- The table `whitelist`: its keys in order, and the form of each.
use Rattle.std.specs.Prelude.{ℕ, ◌+◌, ◌&&◌, not, nat_lt, is_some, Bool, true, if◌then◌else◌, List, [], ◌∷◌, length, codes, Option, Some, None, Ok, Err}
use Rattle.toml.specs.Data.{Data, Items, no_items, item, Members, get_member, as_array, as_str}
use Rattle.sql_whitelist.specs.declared.row.ListRow.{ListRow}
use Rattle.mx_config.specs.declared.fault.Kind.TheVariants.{MissingKey, WrongType, OutOfRange}
use Rattle.mx_config.specs.declared.fault.Place.{Place}
use Rattle.mx_config.specs.declared.fault.TableName.TheVariants.{Whitelist}
use Rattle.mx_config.specs.declared.value.TextForm.TheVariants.{Any}
use Rattle.mx_config.specs.Faults.{Said, ◌>>=◌, at_row, fault_at}
use Rattle.mx_config.specs.Rows.{key_of, placed}
use Rattle.mx_config.specs.Tables.{count, row_at, rows_from}
use Rattle.mx_config.specs.Values.{digest_value, text}

abbrev pub list_keys : List (List ℕ)
list_keys = codes "user" ∷ codes "schema" ∷ codes "digests" ∷ []

-- each entry is a text
abbrev pub are_texts : Items → Bool
are_texts no_items = true
are_texts (item d ds) = is_some (as_str d) && are_texts ds

-- at most 10,000 texts
abbrev pub few_texts : Place → Items → Said Items
few_texts place ds =
    if not (are_texts ds) then Err (fault_at place WrongType (codes "digests"))
    else if nat_lt 10000 (count ds) then Err (fault_at place OutOfRange (codes "digests"))
    else Ok ds

abbrev pub texts_in : Place → Option Items → Said Items
texts_in place None = Err (fault_at place WrongType (codes "digests"))
texts_in place (Some ds) = few_texts place ds

-- the entries of a list of so many texts
unfoldable pub digest_items : Place → Data → Said Items
digest_items place d = texts_in place (as_array d)

-- an entry is the hash of a digest, 16 hexadecimal digits
abbrev pub digest_at : Place → Data → Said ℕ
digest_at place entry = placed place (codes "digests") (digest_value entry)

-- the hashes of the key `digests`, which has to be there
unfoldable pub digests_of : Place → Option Data → Said (List ℕ)
digests_of place None = Err (fault_at place MissingKey (codes "digests"))
digests_of place (Some d) = digest_items place d >>= rows_from (λ _ entry. digest_at place entry) []

unfoldable pub list_of : Place → Members → Said ListRow
list_of place ms = do
  user ← key_of place (codes "user") None (text Any) ms
  schema ← key_of place (codes "schema") None (text Any) ms
  digests ← digests_of place (get_member (codes "digests") ms)
  Ok (record { user = user; schema = schema; digests = digests })

-- the row behind these
unfoldable pub list_row : (before : List ListRow) → Data → Said ListRow
list_row before d = do
  let place = at_row Whitelist (length before + 1)
  ms ← row_at place list_keys d
  list_of place ms
