use Rattle.router_promises.specs.Now.{now_at}
use Rattle.router_promises.proofs.Lapses.{woke-early}
use Rattle.router_promises.proofs.Refusals.{kept-at}
use Rattle.router_promises.proofs.lasting.wakes_for_nothing.Goals as goal

pub returns : goal.returns
returns c = λ terms before until_ms now_ms has none young early.
    woke-early terms before (now_at terms before) until_ms (kept-at _ before has.more _ has.keeps.rests).until none young early
