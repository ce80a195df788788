use Rattle.router_laws.proofs.OfWakes.Settled.{Laws, core_settled, router_settled, settles_rest, settles_stand}
use Rattle.router_laws.proofs.wakes.settling.settling_stands.Goals as goal

pub returns : goal.returns
returns c =
    let laws : Laws = record {
      same = c.same_stands.ensures;
      rows = c.rows_of_others_stay.ensures.all;
      back = c.next_is_taken_back.ensures;
      text = c.text_begins.ensures;
      runs = c.runs_begin.ensures;
      preps = c.preps_begin.ensures;
      step = c.step_begins.ensures;
      closes = c.others_begin.ensures.closes;
      resets = c.others_begin.ensures.resets;
      captures = c.others_begin.ensures.captures;
      ends = c.others_begin.ensures.ends;
      quits = c.others_begin.ensures.quits;
    } in
    record {
      stands = λ service texts g t now classes named keys is by. settles_stand laws service texts g classes named keys t now by is;
      rests = λ service texts g t now roomy classes named keys is by. settles_rest laws service texts g classes named keys t now roomy by is;
      router = λ service texts admin log t now roomy router by. router_settled laws service texts admin log t now roomy router by;
      core = λ service texts default log t now roomy core known by. core_settled laws service texts default log t now roomy core known by;
    }
