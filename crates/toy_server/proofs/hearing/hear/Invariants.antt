use Rattle.std.proofs.Common.{◌≡◌, ◌-◌, ◌^◌}
use Rattle.toy_server.specs.Talks.{served_on, heard}
use Rattle.toy_server.proofs.hearing.hear.Given as goal

abbrev pub invariant-loop-turn : goal.invariant-loop-turn
invariant-loop-turn g l = heard g.R.TameServer.step l.fn.piece (record { link = l.fn.link; hosted = l.fn.hosts }) ≡ served_on g.R.TameServer.step (2 ^ 64 - 1 - l._turn) (record { link = l.link; hosted = l.hosts })
