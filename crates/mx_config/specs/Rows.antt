-- The keys of a row.
use Rattle.std.specs.Prelude.{ℕ, Bool, if◌then◌else◌, List, [], Option, Some, None, Ok, Err, option_map, bytes_eq}
use Rattle.std.specs.List.{list_any}
use Rattle.std.specs.Ordering.{nat_cmp, match_ordering}
use Rattle.std.specs.Cmp.Lexicographic.{slice_cmp}
use Rattle.toml.specs.Data.{Data, Members, no_members, member, get_member, as_table}
use Rattle.mx_config.specs.declared.fault.Kind.TheVariants.{UnknownKey, MissingKey, WrongType}
use Rattle.mx_config.specs.declared.fault.Place.{Place}
use Rattle.mx_config.specs.Faults.{Said, fault_at}
use Rattle.mx_config.specs.Values.{Valued}

abbrev pub is_known : List (List ℕ) → List ℕ → Bool
is_known known key = list_any (λ k. bytes_eq k key) known

-- the lesser of a key and another, if there is one
abbrev pub lesser : List ℕ → Option (List ℕ) → List ℕ
lesser key None = key
lesser key (Some other) = match_ordering (slice_cmp nat_cmp key other) key key other

-- the least key that isn't known, byte by byte
abbrev pub least_unknown : List (List ℕ) → Members → Option (List ℕ)
least_unknown known no_members = None
least_unknown known (member key d ms) =
    if is_known known key then least_unknown known ms else Some (lesser key (least_unknown known ms))

abbrev pub unless_key : Place → Option (List ℕ) → Said (Unit {0})
unless_key place None = Ok tt
unless_key place (Some key) = Err (fault_at place UnknownKey key)

-- the row has no other keys than these
unfoldable pub known_only : Place → (known : List (List ℕ)) → Members → Said (Unit {0})
known_only place known ms = unless_key place (least_unknown known ms)

abbrev pub placed : {X : Type 0} → Place → (key : List ℕ) → Valued X → Said X
placed place key (Ok x) = Ok x
placed place key (Err kind) = Err (fault_at place kind key)

-- what is given, or the default
abbrev pub or_default : {X : Type 0} → (default : Option X) → (given : Option (Valued X)) → Valued X
or_default default (Some given) = given
or_default (Some x) None = Ok x
or_default None None = Err MissingKey

-- a key of a row: its value, or its default where it isn't there; a key without a default has to be there
unfoldable pub key_of : {X : Type 0} → Place → (key : List ℕ) → (default : Option X) → (value : Data → Valued X) → Members → Said X
key_of place key default value ms = placed place key (or_default default (option_map value (get_member key ms)))

abbrev pub if_there : {X : Type 0} → (given : Option (Valued X)) → Valued (Option X)
if_there None = Ok None
if_there (Some (Ok x)) = Ok (Some x)
if_there (Some (Err kind)) = Err kind

-- a key of a row that may be absent
unfoldable pub optional_key : {X : Type 0} → Place → (key : List ℕ) → (value : Data → Valued X) → Members → Said (Option X)
optional_key place key value ms = placed place key (if_there (option_map value (get_member key ms)))

abbrev pub or_wrong : {X : Type 0} → Place → Option X → Said X
or_wrong place None = Err (fault_at place WrongType [])
or_wrong place (Some x) = Ok x

-- the members of a table
unfoldable pub table_at : Place → Data → Said Members
table_at place d = or_wrong place (as_table d)
