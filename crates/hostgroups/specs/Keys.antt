-- The numbers of servers, kept in a map.
use Rattle.std.specs.Prelude.{◌≡◌, List}
use Rattle.std.specs.declared.hash.FoldHasher.{FoldHasher}
use Rattle.std.specs.declared.hash.BuildHasherDefault.{BuildHasherDefault}
use Rattle.std.specs.HashMap.{get_by, HashMap}
use Rattle.mx_base.specs.declared.names.ServerId.{ServerId}
use Rattle.hostgroups.specs.declared.row.ServerName.{ServerName}
use Rattle.hostgroups.specs.declared.numbers.NameKey.{NameKey}
use Rattle.hostgroups.specs.Rows.{same_server, number_of}

abbrev pub named : NameKey → ServerName
named key = record { hostgroup = key.hostgroup; address = record { ip = key.ip; port = key.port } }

-- the map has the number of each server
abbrev pub AreNumbers : List ServerName → HashMap NameKey ServerId (BuildHasherDefault FoldHasher) → Type 0
AreNumbers names numbers = (name : NameKey) → get_by (λ key. same_server (named name) (named key)) numbers ≡ number_of names (named name)
