use Rattle.std.proofs.Common.{◌≡◌, ◌≤◌, suc, true, ◌++◌, [], Some, cond, length, option_map}
use Rattle.std.specs.Option.{option_to_list}
use Rattle.session_vars.specs.Assignments.{assignments}
use Rattle.session_vars.specs.Scopes.{before_comma, behind_comma, server_set}
use Rattle.session_vars.proofs.assignment.assignments.Given as goal

-- the changes so far, and those of the assignments that are left
abbrev pub invariant-parts : goal.invariant-parts
invariant-parts l = record {
  all : option_map (λ more. l.changes ++ more) (cond l.more (assignments l.text (l.part.items ++ l.tokens.left)) (Some [])) ≡ assignments l.text (option_to_list l.fn.taken ++ l.fn.tokens.left);
  short : length l.part.items ≤ 65;
  front : l.more ≡ true → before_comma l.text 0 (l.part.items ++ l.tokens.left) ≡ l.part.items ++ before_comma l.text l.tokens.depth l.tokens.left;
  rest : l.more ≡ true → behind_comma l.text 0 (l.part.items ++ l.tokens.left) ≡ behind_comma l.text l.tokens.depth l.tokens.left;
  scope : server_set l.text l.tokens ≡ server_set l.text l.fn.tokens;
}

abbrev pub decreases-parts : goal.decreases-parts
decreases-parts l = cond l.more (suc (length l.tokens.left)) 0
