use Rattle.std.proofs.Common.{refl, ◌∙◌}
use Rattle.hostgroups.proofs.Building.{rows_of-in_force}
use Rattle.hostgroups.proofs.numbered.NumberedServers.reloaded.Goals as goal

pub returns : goal.returns
returns c =
    c.in_ok-add_new.ensures ∙ rw (c.in_ok-servers.ensures, c.requires.wanted, rows_of-in_force c.args.rows.now) refl
