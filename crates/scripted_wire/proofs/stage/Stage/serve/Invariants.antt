use Rattle.std.proofs.Common.{◌≡◌, length}
use Rattle.scripted_wire.specs.Plays.{ServesTo}
use Rattle.scripted_wire.specs.Sound.{AddsMarks}
use Rattle.scripted_wire.proofs.stage.Stage.serve.Given as goal

abbrev pub invariant-loop-at : goal.invariant-loop-at
invariant-loop-at g l = record {
  served : ServesTo g.R.TameServer.step l.at l.initial.self l.initial.hosts l.initial.told l.worked l.self l.hosts l.told;
  marks : AddsMarks (length l.initial.self.links.items) l.initial.told l.told;
  moment : l.self.moment ≡ l.initial.self.moment;
  size : length l.self.links.items ≡ length l.initial.self.links.items;
}
