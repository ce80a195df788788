-- For what links to servers are opened.
use Rattle.std.specs.Prelude.{◌≡◌, ◌+◌, ◌<◌, true, Some}
use Rattle.std.specs.Option.{option_map}
use Rattle.hostgroups.specs.Servers.{server_at}
use Rattle.hostgroups.specs.declared.server.Server.{Server}
use Rattle.mx_base.specs.declared.names.Address.{Address}
use Rattle.mx_base.specs.declared.names.ServerId.{ServerId}
use Rattle.mx_wire.specs.Log.{Log}
use Rattle.mx_wire.specs.declared.entry.Entry.{Entry}
use Rattle.mx_wire.specs.declared.entry.Entry.TheVariants.{Opened, OpenFailed}
use Rattle.router_promises.specs.Keys.{LinkKey, has_room, how_many, is_free, is_opening, waiting}
use Rattle.router_promises.specs.Now.{Now, entry_now, now_at}
use Rattle.router_promises.specs.Router.{may_log_in}
use Rattle.router_promises.specs.Running.{hostgroup_of}
use Rattle.router_promises.specs.Terms.{Terms, Tried, login_as, plan_in}

-- A link may be opened, or tried to, where the statements of its key that wait for one are more than the links that are free or
-- opening; at a server of the hostgroup with room, as somebody who may log in.
pub record MayOpen (terms : Terms) (log : Log) (now : Now) (server : ServerId) (address : Address) (tried : Tried) : Type 0 where
  pub key : LinkKey
  pub group : hostgroup_of terms.router server ≡ Some key.hostgroup
  pub account : key.account ≡ login_as tried.login
  pub bare : key.bare ≡ tried.bare
  pub there : option_map (λ (s : Server). s.row.address) (server_at now.servers server) ≡ Some address
  pub room : has_room log now server ≡ true
  pub known : may_log_in terms.router tried.login ≡ true
  pub wanted : how_many is_free terms log now key + how_many is_opening terms log now key < waiting terms now key

abbrev pub OpensBy : Terms → Log → Now → Entry → Type 0
OpensBy terms log now (Opened server address link) =
    MayOpen terms log now server address (record { login = (plan_in terms).logins link; bare = terms.decided.bare link })
OpensBy terms log now (OpenFailed server address) = MayOpen terms log now server address (terms.decided.tried (entry_now now))
OpensBy terms log now _ = Unit {0}

abbrev pub OpensSo : Terms → Log → Entry → Type 0
OpensSo terms log e = OpensBy terms log (now_at terms log) e
