-- Rows of servers that each have a turn.
use Rattle.std.proofs.Common.{◌≤◌, ℕ, List, [], ◌∷◌, ◌++◌, suc, take, drop, set}
use Rattle.std.specs.List.{All, remove}
use Rattle.std.proofs.lemmas.List.Elements.{All-append, All-drop, All-push, All-set, All-take}
use Rattle.hostgroups.specs.declared.row.ServerRow.{ServerRow}

pub turns_push : (rows : List ServerRow) (row : ServerRow) → All (λ (r : ServerRow). 1 ≤ r.weight) rows → 1 ≤ row.weight → All (λ (r : ServerRow). 1 ≤ r.weight) (rows ++ row ∷ [])
turns_push rows row all one = All-push (λ (r : ServerRow). 1 ≤ r.weight) rows row all one

pub turns_set : (rows : List ServerRow) (at : ℕ) (row : ServerRow) → All (λ (r : ServerRow). 1 ≤ r.weight) rows → 1 ≤ row.weight → All (λ (r : ServerRow). 1 ≤ r.weight) (set rows at row)
turns_set rows at row all one = All-set (λ (r : ServerRow). 1 ≤ r.weight) rows at row one all

pub turns_remove : (rows : List ServerRow) (at : ℕ) → All (λ (r : ServerRow). 1 ≤ r.weight) rows → All (λ (r : ServerRow). 1 ≤ r.weight) (remove rows at)
turns_remove rows at all = All-append (λ (r : ServerRow). 1 ≤ r.weight) (take at rows) (drop (suc at) rows)
    (All-take (λ (r : ServerRow). 1 ≤ r.weight) at rows all) (All-drop (λ (r : ServerRow). 1 ≤ r.weight) (suc at) rows all)

pub ruleset turns = (turns_push, turns_set, turns_remove)
