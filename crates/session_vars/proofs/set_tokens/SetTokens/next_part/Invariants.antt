use Rattle.std.proofs.Common.{◌≡◌, ◌≤◌, ◌++◌, take, length}
use Rattle.session_vars.specs.Scopes.{before_comma, behind_comma, server_set}
use Rattle.session_vars.proofs.set_tokens.SetTokens.next_part.Given as goal

-- with the tokens that are left before the comma, the same are kept
abbrev pub invariant-tokens : goal.invariant-tokens
invariant-tokens l = record {
  kept : take 65 (l.part.items ++ before_comma l.text l.self.depth l.self.left) ≡ take 65 (l.fn.part.items ++ before_comma l.text l.fn.self.depth l.fn.self.left);
  short : length l.part.items ≤ 65;
  rest : behind_comma l.text l.self.depth l.self.left ≡ behind_comma l.text l.fn.self.depth l.fn.self.left;
  shorter : length l.self.left ≤ length l.fn.self.left;
  scope : server_set l.text l.self ≡ server_set l.text l.fn.self;
}

abbrev pub decreases-tokens : goal.decreases-tokens
decreases-tokens l = length l.self.left
