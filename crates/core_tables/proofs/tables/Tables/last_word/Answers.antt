use Rattle.std.specs.Prelude.{◌≡◌, IsSome, Option, false, true}
use Rattle.std.specs.Option.{is_some}
use Rattle.std.proofs.Common.{ap, refl, subst, sym}
use Rattle.std.proofs.lemmas.Result.{on_ok_weaker}
use Rattle.client_seat.specs.Words.{with_word}
use Rattle.core_tables.specs.Arrivals.{seated}
use Rattle.core_tables.specs.Tables.{tables_of}
use Rattle.core_tables.specs.declared.client.Client.{Client}
use Rattle.core_tables.proofs.Passing.{changed_so}
use Rattle.core_tables.proofs.tables.Tables.last_word.Goals as goal

pub returns-in-Some : goal.returns-in-Some
returns-in-Some c =
    let new : Client = c.last_word.new.self in
    let found = sym c.in-Some.ensures.value in
    let updates = (c.get_mut.follows.holds new).3 (ap is_some found) in
    on_ok_weaker c.last_word.result
    (λ is. record {
      client = new.desk.seat.client;
      same = changed_so c.args.self.now (record c.args.self.now { clients = c.get_mut.follows.lender new }) c.args.client
          (seated (with_word c.args.payload.now new.desk.seat.client)) c.in-Some.row.now new found is (λ k. updates.0 k) (λ k. refl) (λ k. refl);
    }) c.last_word.ensures

pub returns-in-None : goal.returns-in-None
unfolding tables_of
returns-in-None c =
    let none : false ≡ true = subst (λ (row : Option Client). IsSome row) (sym c.in-None.ensures.value) c.requires in
    absurd cc
