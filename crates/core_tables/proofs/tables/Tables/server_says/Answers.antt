use Rattle.std.specs.Option.{is_some}
use Rattle.std.proofs.Common.{ap, refl, sym}
use Rattle.core_tables.specs.declared.server.Server.{Server}
use Rattle.core_tables.proofs.Heard.{heard_so}
use Rattle.core_tables.proofs.tables.Tables.server_says.Goals as goal

pub returns : goal.returns
returns c =
    let old = c.args.self.now in
    let new : Server = c.read.new.self in
    let found = sym c.in-Some.ensures.value in
    let updates = (c.get_mut.follows.holds new).3 (ap is_some found) in
    heard_so old (record old { links = c.get_mut.follows.lender new }) c.tell.new.self
    c.args.link c.in-Some.server.now new c.args.bytes.now c.args.now
    c.in_ok-news.news c.read.new.bytes c.is_some-is_left.result c.said_by.result
    found c.in_ok-news.ensures.row c.in_ok-news.ensures.reads (λ k. refl) (λ k. refl) (λ k. updates.0 k)
    c.is_some-is_left.ensures c.in_ok-tell.ensures c.said_by.ensures
