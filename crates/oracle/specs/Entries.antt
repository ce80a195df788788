-- What is prepared.
use Rattle.std.specs.Prelude.{ℕ, Option}
use Rattle.std.specs.BTreeMap.{get}
use Rattle.std.specs.Option.{option_map}
use Rattle.std.specs.Ordering.{nat_cmp}
use Rattle.private_model.specs.Story.{Key}
use Rattle.oracle.specs.declared.prepared.Entry.{Entry}
use Rattle.oracle.specs.declared.prepared.Prepared.{Prepared}

abbrev pub key_of : Entry → Key
key_of entry = record { text = entry.text; place = entry.place }

-- what is prepared at a key
abbrev pub prepared_at : Prepared → (key : ℕ) → Option Key
prepared_at prepared key = option_map key_of (get nat_cmp prepared.entries key)
