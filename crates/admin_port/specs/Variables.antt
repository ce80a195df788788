-- What the configuration says, as variables: all but the password of administrators.
use Rattle.std.specs.Prelude.{ℕ, List, [], ◌∷◌, ◌++◌, codes}
use Rattle.std.specs.Fmt.{decimal}
use Rattle.mx_base.specs.declared.names.Address.{Address}
use Rattle.mx_config.specs.declared.config.ProxyRow.{ProxyRow}
use Rattle.admin_port.specs.RowValues.{host_text}
use Rattle.admin_port.specs.declared.running.NamedRow.{NamedRow}

abbrev pub variable : (name value : List ℕ) → NamedRow
variable name value = record { name = name; value = value }

-- a.b.c.d:port
abbrev pub address_text : Address → List ℕ
address_text address = host_text address.ip ++ (codes ":" ++ decimal address.port)

abbrev pub address_rows : ProxyRow → List NamedRow
address_rows p = variable (codes "listen") (address_text p.listen) ∷ variable (codes "admin_listen") (address_text p.admin_listen) ∷ []

abbrev pub text_rows : ProxyRow → List NamedRow
text_rows p = variable (codes "admin_user") p.admin_user ∷ variable (codes "server_version") p.server_version ∷ variable (codes "default_schema") p.default_schema ∷ []

abbrev pub limit_rows : ProxyRow → List NamedRow
limit_rows p = variable (codes "max_clients") (decimal p.max_clients) ∷ variable (codes "max_packet") (decimal p.max_packet) ∷ variable (codes "buffer_budget") (decimal p.buffer_budget) ∷ []

-- in milliseconds
abbrev pub time_rows : ProxyRow → List NamedRow
time_rows p = variable (codes "wait_ms") (decimal p.wait_ms) ∷ variable (codes "idle_ms") (decimal p.idle_ms) ∷ []

abbrev pub variables_of : ProxyRow → List NamedRow
variables_of p = address_rows p ++ (text_rows p ++ (limit_rows p ++ time_rows p))
