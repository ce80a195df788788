use Rattle.std.proofs.Common.{◌≡◌, length}
use Rattle.session_vars.specs.Scopes.{server_set}
use Rattle.session_vars.proofs.set_tokens.SetTokens.sets_server.Given as goal

abbrev pub invariant-loop : goal.invariant-loop
invariant-loop l = server_set l.text l.self ≡ server_set l.text l.fn.self

abbrev pub decreases-loop : goal.decreases-loop
decreases-loop l = length l.self.left
