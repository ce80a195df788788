use Rattle.std.proofs.Common.{◌≡◌, ℕ, suc, List, [], Option, Some, None, length, fold, Bor}
use Rattle.std.specs.List.{slice_split}
use Rattle.session_vars.specs.Modes.{with_named}
use Rattle.session_vars.proofs.NewModes.{is_comma}
use Rattle.session_vars.proofs.modes.all_named.Given as goal

-- the modes of a list that is left
abbrev pub modes_in : Option (Bor (List ℕ)) → List (List ℕ)
modes_in None = []
modes_in (Some list) = slice_split is_comma list.now

abbrev pub left_size : Option (Bor (List ℕ)) → ℕ
left_size None = 0
left_size (Some list) = suc (length list.now)

-- what is named so far, and what is still to be
abbrev pub invariant-modes : goal.invariant-modes
invariant-modes l = record {
  all : fold with_named l.named (modes_in l.left) ≡ fold with_named l.value (slice_split is_comma l.fn.list);
}

abbrev pub decreases-modes : goal.decreases-modes
decreases-modes l = left_size l.left
