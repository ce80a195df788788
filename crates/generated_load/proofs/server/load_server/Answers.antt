use Rattle.std.proofs.Common.{◌≡◌, ◌∙◌, ℕ, List, refl}
use Rattle.std.specs.Prelude.{codes}
use Rattle.mem_rule.specs.Commands.{RunsIn, ran, tables_after}
use Rattle.mem_rule.specs.Tables.{Tables, no_tables}
use Rattle.server_rule.specs.declared.command.Cmd.TheVariants.{Close, Query}
use Rattle.server_rule.specs.declared.session.Session.{Session}
use Rattle.generated_load.specs.Server.{create, first_session, load_tables}
use Rattle.generated_load.proofs.server.load_server.Goals as goal

made : (t : Tables) (s : Session) (text : List ℕ) (new : Tables) (z : Session) (reply : List (List ℕ)) → RunsIn t s (Query text) new z reply → t ≡ no_tables → s ≡ first_session
    → text ≡ codes "CREATE TABLE t" → (new ≡ tables_after no_tables first_session create) × (z ≡ (ran no_tables first_session create).session)
made t s text new z reply runs none fresh said = (runs.tables ∙ rw (none, fresh, said) refl, runs.session ∙ rw (none, fresh, said) refl)

closed : (t : Tables) (s : Session) (new : Tables) (z : Session) (reply : List (List ℕ)) → RunsIn t s Close new z reply → t ≡ tables_after no_tables first_session create
    → s ≡ (ran no_tables first_session create).session → new ≡ load_tables
closed t s new z reply runs tables session = runs.tables ∙ rw (tables, session) refl

pub returns : goal.returns
returns c =
    let first = made c.new-server.result c.in_ok-session.session c.in_ok-from_slice.field-0 c.run.new.self c.run.new.session _ c.in_ok-_ok.ensures.ok c.new-server.ensures c.in_ok-session.ensures c.in_ok-from_slice.ensures in
    closed c.run.new.self c.run.new.session c.run-2.new.self c.run-2.new.session _ c.in_ok-_none.ensures.ok first.0 first.1
