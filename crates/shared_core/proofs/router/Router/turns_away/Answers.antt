use Rattle.std.proofs.Common.{sym, ap, ◌∙◌}
use Rattle.std.proofs.lemmas.Bool.{true≢false}
use Rattle.client_seat.specs.Seats.{is_ended, turned_away}
use Rattle.client_seat.specs.declared.seat.Seat.{Seat}
use Rattle.core_tables.specs.Tables.{tables_of}
use Rattle.marked_tables.proofs.Going.{goes_along}
use Rattle.shared_core.proofs.Clients.{keeps_marked, received}
use Rattle.shared_core.proofs.router.Router.turns_away.Goals as goal

pub returns-clause-received : goal.returns-clause-received
returns-clause-received c = record {
  between = tables_of c.come.new.self.tables;
  comes = received (turned_away c.args.link c.args.client c.args.salt c.args.port) c.args.link c.args.client c.in_ok-seat.seat c.no_note.result
      (tables_of c.args.self.now.marked.tables) (tables_of c.come.new.self.tables) c.in_ok-seat.ensures.is
      (λ on. absurd (true≢false (sym (ap (λ (s : Seat). is_ended s.phase) c.in_ok-seat.ensures.is) ∙ on))) c.in_ok-come.ensures.is;
  ends = c.in_ok-ends.ensures.ends.same;
}

pub returns-clause-keeps : goal.returns-clause-keeps
returns-clause-keeps c =
    let first = keeps_marked c.args.self.now c.come.new.self c.in_ok-come.ensures.goes in
    let next = c.in_ok-ends.ensures.keeps in
    record {
      goes = goes_along c.args.self.now.marked c.come.new.self c.ends.new.self.marked first.goes next.goes;
      roomy = next.roomy;
      came = next.came;
      asked = next.asked;
      client = next.client;
      link = next.link;
      texts = next.texts;
      work = next.work;
    }
