use Rattle.std.proofs.Common.{◌≡◌, ◌∙◌, ap, sym}
use Rattle.std.specs.Prelude.{Some}
use Rattle.std.specs.Option.{option_copied}
use Rattle.mx_base.specs.Fields.{number_at}
use Rattle.stmt_map.specs.Client.{statement_at}
use Rattle.client_seat.proofs.Notes.{lengthens}
use Rattle.client_seat.proofs.noting.lengthen.Goals as goal

pub returns-in-Ok : goal.returns-in-Ok
returns-in-Ok c =
    let number : number_at 4 1 c.args.payload.now ≡ Some c.in-Some-Some.number = cc in
    let parameter : number_at 2 5 c.args.payload.now ≡ Some c.in-Some-Some.parameter = cc in
    let found : statement_at c.args.statements.now c.in-Some-Some.number ≡ Some c.in-Some.statement.now =
    sym c.find.ensures ∙ ap option_copied c.in-Some.is in
    lengthens c.args.payload.now c.behind-bytes.result.now c.args.statements.now c.append_long.new.self c.in-Some-Some.number c.in-Some-Some.parameter
    c.in-Some.statement.now c.requires number parameter found c.if-parameter-statement.false c.in-Ok.ensures.last c.behind-bytes.ensures c.in-Ok.ensures.appended
