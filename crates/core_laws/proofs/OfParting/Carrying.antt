-- A desk's sessions have their homes at the links that carry them.
use Rattle.std.specs.Prelude.{◌≡◌, Some}
use Rattle.std.proofs.Common.{sym, ap, ◌∙◌}
use Rattle.mx_base.specs.declared.names.Hostgroup.{Hostgroup}
use Rattle.client_session.specs.Setups.{Setup as Service}
use Rattle.private_model.specs.Names.{ClientNo, LinkId}
use Rattle.private_model.specs.View.{Held, session_in}
use Rattle.client_desk.specs.Desks.{session_of}
use Rattle.desk_laws.specs.Stands.{name_at}
use Rattle.core_tables.specs.Tables.{Tabled}
use Rattle.core_tables.specs.declared.client.Client.{Client}
use Rattle.core_stands.specs.Grounds.{Ground, view_on}
use Rattle.core_stands.specs.Stands.{Stands}
use Rattle.core_laws.proofs.OfParting.Homes.{homes_so}
use Rattle.core_laws.proofs.OfParting.Same.{known_so}

module _ (service : Service) (g : Ground) (t : Tabled) (c : ClientNo) (row : Client) (h : Hostgroup) where
  pub home_said : Stands service g t → t.clients c ≡ Some row → ((view_on g).held (name_at c h (session_of row.desk h).life)).home ≡ (session_of row.desk h).home
  home_said is there =
      let known = known_so service g t c row is there in
      let at = known.2.desk.sessions.each h in
      ap (λ (d : ClientNo). ((view_on g).held (name_at d h (session_of row.desk h).life)).home) (sym known.1.number)
      ∙ ap (λ (held : Held). held.home) at.held

  pub home_carries : (l : LinkId) → Stands service g t → t.clients c ≡ Some row → (session_of row.desk h).home ≡ Some l
      → session_in ((view_on g).links l).carries ≡ Some (name_at c h (session_of row.desk h).life)
  home_carries l is there home =
      (homes_so g.setup g.tale.story is.lawful).back (name_at c h (session_of row.desk h).life) l (home_said is there ∙ home)
