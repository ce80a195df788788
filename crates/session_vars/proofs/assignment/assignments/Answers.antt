use Rattle.std.proofs.Common.{◌≡◌, true, [], ◌++◌, cond, length, List, Option, Some, None, option_map, sym, ◌∙◌, ap, arith}
use Rattle.std.proofs.lemmas.Bool.{cond-true, cond-false}
use Rattle.sql_tokens.specs.declared.token.Token.{Token}
use Rattle.session_vars.specs.Assignments.{assignments, assigned_behind, part_changes, with_changes}
use Rattle.session_vars.specs.Scopes.{before_comma, behind_comma}
use Rattle.session_vars.specs.declared.change.Change.{Change}
use Rattle.session_vars.proofs.Parts.{assignments_from, behind_by, more_changes, no_changes, none_assigned}
use Rattle.session_vars.proofs.assignment.assignments.Goals as goal

pub returns-then-not-is_tracked-clause-changes : goal.returns-then-not-is_tracked-clause-changes
returns-then-not-is_tracked-clause-changes c =
    let text = c.args.text.now in
    let front = c.parts.changes in
    let part = c.parts.part.items in
    let left = c.parts.tokens.left in
    let onto : Option (List Change) → Option (List Change) = option_map (λ more. front ++ more) in
    let first : part_changes text (before_comma text 0 (part ++ left)) ≡ None =
    no_changes front _
    (ap (λ (taken : List Token). onto (part_changes text taken)) (c.parts.invariant.front c.parts-test.true)
    ∙ c.in_ok-is_tracked.ensures.changes
    ∙ cond-false _ _ _ c.if-not-is_tracked.true) in
    sym (ap onto (cond-true c.parts.more _ _ c.parts-test.true ∙ none_assigned text (part ++ left) first)) ∙ c.parts.invariant.all

pub parts-preserved : goal.parts-preserved
parts-preserved c =
    let text = c.args.text.now in
    let front = c.parts.changes in
    let new = c.next_changes.new.changes in
    let part = c.parts.part.items in
    let left = c.parts.tokens.left in
    let next = c.next_changes.new.tokens.left in
    let more = c.in_ok-is_tracked.next in
    let onto : List Change → Option (List Change) → Option (List Change) = λ changes. option_map (λ more. changes ++ more) in
    let rest : Option (List Change) = cond more (assignments text next) (Some []) in
    let first : Option (List Change) = part_changes text (before_comma text 0 (part ++ left)) in
    let grown : onto front first ≡ Some new =
    ap (λ (taken : List Token). onto front (part_changes text taken)) (c.parts.invariant.front c.parts-test.true)
    ∙ c.in_ok-is_tracked.ensures.changes
    ∙ cond-true _ _ _ c.if-not-is_tracked.false in
    let others : assigned_behind text (behind_comma text 0 (part ++ left)) ≡ rest = ap (assigned_behind text) (c.parts.invariant.rest c.parts-test.true ∙ c.in_ok-is_tracked.ensures.rest) ∙ behind_by text more next in
    let whole : cond c.parts.more (assignments text (part ++ left)) (Some []) ≡ with_changes first rest =
    cond-true c.parts.more _ _ c.parts-test.true
    ∙ assignments_from text (part ++ left)
    ∙ ap (with_changes first) others in
    let cleared : c.next_changes.new.part.items ≡ [] = c.in_ok-is_tracked.ensures.empty in
    let depth = c.next_changes.new.tokens.depth in
    let outside : more ≡ true → depth ≡ 0 = c.in_ok-is_tracked.ensures.outside in
    let empty : length c.next_changes.new.part.items ≡ 0 = ap length cleared in
    record {
      all =
          ap (λ (taken : List Token). onto new (cond more (assignments text (taken ++ next)) (Some []))) cleared
          ∙ sym (more_changes front new first rest grown)
          ∙ sym (ap (onto front) whole)
          ∙ c.parts.invariant.all;
      short = omega arith;
      front = λ goes_on.
          ap (λ (taken : List Token). before_comma text 0 (taken ++ next)) cleared
          ∙ sym (ap (λ (taken : List Token). taken ++ before_comma text depth next) cleared ∙ ap (λ n. before_comma text n next) (outside goes_on));
      rest = λ goes_on. ap (λ (taken : List Token). behind_comma text 0 (taken ++ next)) cleared ∙ sym (ap (λ n. behind_comma text n next) (outside goes_on));
      scope = c.in_ok-is_tracked.ensures.scope ∙ c.parts.invariant.scope;
    }
