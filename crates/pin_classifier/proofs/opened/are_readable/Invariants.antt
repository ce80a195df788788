use Rattle.std.proofs.Common.{◌≡◌}
use Rattle.std.specs.List.{list_all}
use Rattle.session_vars.specs.Statement.{without_comments}
use Rattle.pin_classifier.specs.Opened.{is_readable}
use Rattle.pin_classifier.specs.Statement.{statement}
use Rattle.pin_classifier.proofs.opened.are_readable.Given as goal

-- all can be read just where those that are left can
abbrev pub invariant-loop-token : goal.invariant-loop-token
invariant-loop-token l = list_all (is_readable l.text) (without_comments l.token-iterator) ≡ list_all (is_readable l.text) (statement l.text)
