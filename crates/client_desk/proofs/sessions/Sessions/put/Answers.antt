use Rattle.std.proofs.Common.{◌≡◌, ap, sym, ◌∙◌}
use Rattle.std.specs.Prelude.{List, position, None, Some}
use Rattle.client_desk.specs.Sessions.{is_in, put_in}
use Rattle.client_desk.specs.declared.session.Session.{Session}
use Rattle.client_desk.proofs.Rows.{put_nowhere, put_there}
use Rattle.client_desk.proofs.sessions.Sessions.put.Goals as goal

pub returns-in-Some : goal.returns-in-Some
returns-in-Some c =
    let there : position (is_in c.args.session.hostgroup) c.self.inside.rows.items ≡ Some c.in-Some.place =
    ap (λ (rows : List Session). position (is_in c.args.session.hostgroup) rows) (sym c.deref.ensures.value) ∙ sym c.in-Some.ensures in
    put_there c.self.inside.rows.items c.args.session c.in-Some.place there ∙ ap (λ (rows : List Session). put_in rows c.args.session) c.self.view_is

pub returns-in-None : goal.returns-in-None
returns-in-None c =
    let nowhere : position (is_in c.args.session.hostgroup) c.self.inside.rows.items ≡ None =
    ap (λ (rows : List Session). position (is_in c.args.session.hostgroup) rows) (sym c.deref.ensures.value) ∙ sym c.in-None.ensures in
    sym (ap (λ (rows : List Session). put_in rows c.args.session) (sym c.self.view_is) ∙ put_nowhere c.self.inside.rows.items c.args.session nowhere ∙ c.self.view_is)
