use Rattle.router_promises.specs.Terms.{Terms}
use Rattle.shared_router.specs.Shared.{final_terms}
use Rattle.shared_router.proofs.Summing.{gives_up_kept, rests_kept, steps_kept}
use Rattle.shared_router.proofs.kept.keeps.Goals as goal

pub returns : goal.returns
returns c = λ fixed log numbered ids nothing patient who our asks rest.
    let t : Terms = final_terms fixed log in
    let said = c.says_what_it_spells.ensures fixed log numbered our in
    let due = c.writes_answers_that_stay.ensures fixed log numbered our in
    record {
      router = c.is_routers.ensures fixed log;
      fits = our.fits;
      who = c.stay_who_they_say.ensures fixed log who;
      said = said;
      lawful = c.is_lawful.ensures fixed log our;
      due = due;
      routed = c.is_routed.ensures fixed log numbered our;
      tagged = c.is_tagged.ensures fixed log numbered our;
      steps = steps_kept t log (c.sends_what_is_due.ensures fixed log numbered our) (c.takes_steps_that_are_wanted.ensures fixed log numbered ids nothing our) rest.series_end;
      opens = c.opens_for_those_who_wait.ensures fixed log numbered our who;
      closes = c.closes_for_a_cause.ensures fixed log numbered our;
      gives_up = gives_up_kept t log (c.gives_up_for_a_cause.ensures fixed log numbered our) (c.gives_up_one_for_a_step.ensures fixed log numbered)
          (c.leaves_few_waiting.ensures fixed log numbered our patient asks);
      ends = c.ends_kept.ensures fixed log numbered our;
      rests = rests_kept t (λ before now calm read told login unbroken whole none done. c.rests_by_parts.ensures t before now calm read told login unbroken whole none done) log
          (c.waits_when_calm.ensures fixed log numbered our) (c.logs_in_whole.ensures fixed log numbered our said) (c.reads_all.ensures fixed log numbered our)
          (c.tells_all.ensures fixed log numbered our due) (c.goes_on_unbroken.ensures fixed log numbered our)
          (c.writes_what_it_begins.ensures fixed log numbered our) (c.asks_for_nothing.ensures fixed log numbered our)
          (c.works_on_each_message.ensures fixed log numbered our asks) (c.serves_all_while_idle.ensures fixed log numbered our asks) (c.wakes_in_time.ensures fixed log numbered our);
    }
