-- One row more behind lawful rows.
use Rattle.std.proofs.Common.{◌≡◌, ◌<◌, ◌≤◌, List, [], ◌∷◌, ◌++◌, length, Option, Some, None, refl, append_assoc}
use Rattle.std.specs.Option.{option_or}
use Rattle.std.proofs.lemmas.Bool.{lt-leb, le-ltb}
use Rattle.std.proofs.lemmas.List.{append-nil}
use Rattle.std.proofs.lemmas.List.Elements.{All-push}
use Rattle.hostgroups.specs.declared.row.ServerRow.{ServerRow}
use Rattle.hostgroups.specs.Rows.{fault_of, first_fault_behind}
use Rattle.mx_config.specs.Lawful.{EachBehind, IsLawfulServer, AreLawfulServers}

pub EachBehind-push : {X : Type 0} (R : List X → X → Type 0) (before rows : List X) (row : X) → EachBehind R before rows → R (before ++ rows) row → EachBehind R before (rows ++ row ∷ [])
EachBehind-push R before [] row each stands = (rw (append-nil before) at stands, tt)
EachBehind-push R before (first ∷ rows) row each stands = (each.0, EachBehind-push R (before ++ first ∷ []) rows row each.1 (rw append_assoc stands))

no_fault : (before : List ServerRow) (row : ServerRow) → length before < 1024 → IsLawfulServer before row → fault_of before row ≡ None
no_fault before row short lawful = rw (lawful.new, lt-leb _ _ short, le-ltb _ _ lawful.few) refl

both_none : {X : Type 0} (a b : Option X) → option_or a b ≡ None → (a ≡ None) × (b ≡ None)
both_none None b h = (refl, h)
both_none (Some x) b h = absurd cc

first_fault_behind-push : (before rows : List ServerRow) (row : ServerRow) → first_fault_behind before rows ≡ None → fault_of (before ++ rows) row ≡ None → first_fault_behind before (rows ++ row ∷ []) ≡ None
first_fault_behind-push before [] row none fault = rw (rw (append-nil before) at fault) refl
first_fault_behind-push before (first ∷ rows) row none fault =
    let parts = both_none (fault_of before first) (first_fault_behind (before ++ first ∷ []) rows) none in
    rw parts.0 (first_fault_behind-push (before ++ first ∷ []) rows row parts.1 (rw append_assoc fault))

pub AreLawfulServers-push : (rows : List ServerRow) (row : ServerRow) → length rows < 1024 → AreLawfulServers rows → IsLawfulServer rows row → AreLawfulServers (rows ++ row ∷ [])
AreLawfulServers-push rows row short lawful last = record {
  each = EachBehind-push IsLawfulServer [] rows row lawful.each last;
  weights = All-push (λ r. 1 ≤ r.weight) rows row lawful.weights last.weight.0;
  stand = first_fault_behind-push [] rows row lawful.stand (no_fault rows row short last);
}
