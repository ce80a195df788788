use Rattle.{client_session.specs.Accounts.find_user, std.proofs.Common.drop, std.proofs.Common.◌≡◌}
use Rattle.client_session.proofs.account.find_user.Given as goal

abbrev pub invariant-loop-user : goal.invariant-loop-user
invariant-loop-user l = find_user l.fn.name l.fn.users ≡ find_user l.fn.name (drop l.user-index l.fn.users)
