use Rattle.router_promises.proofs.Refusals.{kept-at, schema-none}
use Rattle.router_promises.proofs.lasting.chooses_no_schema.Goals as goal

pub returns : goal.returns
returns c = λ terms before link bytes has there begins is.
    schema-none terms before link bytes (kept-at _ before has.more _ has.keeps.steps) there begins is
