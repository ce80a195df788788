use Rattle.std.specs.Prelude.{slice_get}
use Rattle.log_story.specs.Owed.{messages}
use Rattle.step_laws.proofs.Taking.{goes_spares, once_spares, others_along, taken_up_spares, with_spares}
use Rattle.step_laws.proofs.taken.taking_spares.Goals as goal

pub returns : goal.returns
returns c = record {
  once = λ setup plan whose client tale other its single is.
      once_spares setup whose plan client (slice_get (messages plan client) client.taken) tale other its single is;
  seat = λ setup whose client tale its. with_spares setup whose client tale its;
  all = λ setup plan whose most client tale single its. taken_up_spares setup whose plan single most client tale its;
  goes = λ setup plan whose view e client tale single its. goes_spares setup whose plan single view e client tale its;
  along = λ setup whose old mid new first next. others_along setup whose old mid new first next;
}
