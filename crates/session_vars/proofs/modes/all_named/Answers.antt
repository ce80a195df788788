use Rattle.std.proofs.Common.{◌≡◌, ℕ, suc, ◌+◌, List, Option, Bor, fold, take, drop, sym, ◌∙◌, ap, arith}
use Rattle.std.specs.List.{slice_split}
use Rattle.session_vars.specs.Modes.{with_named}
use Rattle.session_vars.proofs.NewModes.{is_comma, first_named, last_named}
use Rattle.session_vars.proofs.modes.all_named.Goals as goal
use Rattle.session_vars.proofs.modes.all_named.Goals.{then-size-list, else-size-list}
use Rattle.session_vars.proofs.modes.all_named.Invariants.{modes_in}

pub modes-preserved : goal.modes-preserved
modes-preserved c =
    let list = c.in-Some.list.now in
    let size = c.first_size-size.result in
    let mode = take size list in
    let named = c.modes.named in
    let grown = c.in_ok-push_unless_named.ensures ∙ ap (with_named named) c.front.ensures in
    let after : size + 1 ≡ suc size = omega arith in
    let before = sym (ap (λ (left : Option (Bor (List ℕ))). fold with_named named (modes_in left)) c.in-Some.is) ∙ c.modes.invariant.all in
    let rest : List (List ℕ) → List ℕ = fold with_named (with_named named mode) in
    record {
      all =
          ap (λ (now : List ℕ). fold with_named now (modes_in c.if-size-list.left)) grown
          ∙ (elim c.if-size-list.branch [
            | then-size-list w ↦ ap (λ (left : Option (Bor (List ℕ))). rest (modes_in left)) w.left-is ∙ ap (λ (tail : List ℕ). rest (slice_split is_comma tail)) (w.behind.ensures.rest ∙ ap (λ n. drop n list) after) ∙ first_named named list size c.first_size-size.ensures w.if-size-list.true
            | else-size-list w ↦ ap (λ (left : Option (Bor (List ℕ))). rest (modes_in left)) w.left-is ∙ last_named named list size c.first_size-size.ensures (omega (arith, w.if-size-list.false))
          ])
          ∙ before;
    }
