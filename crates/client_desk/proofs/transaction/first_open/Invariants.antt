use Rattle.std.proofs.Common.{◌≡◌, drop}
use Rattle.std.specs.Prelude.{find}
use Rattle.client_desk.specs.Desks.{session_of}
use Rattle.client_desk.specs.Sessions.{is_open}
use Rattle.client_desk.proofs.transaction.first_open.Given as goal

abbrev pub invariant-loop-hostgroup : goal.invariant-loop-hostgroup
invariant-loop-hostgroup l =
    find (λ h. is_open (session_of l.desk h)) (drop l.hostgroup-index l.hostgroups) ≡ find (λ h. is_open (session_of l.desk h)) l.hostgroups
