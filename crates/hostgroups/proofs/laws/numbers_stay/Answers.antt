use Rattle.hostgroups.proofs.Reloading.{goes_by, stays}
use Rattle.hostgroups.proofs.laws.numbers_stay.Goals as goal

pub returns-clause-numbers : goal.returns-clause-numbers
returns-clause-numbers c = stays

pub returns-clause-rows : goal.returns-clause-rows
returns-clause-rows c = λ servers rows number server some. goes_by servers rows number.0 server some
