-- What is to be read and written, and what is asked for, by what the core knows.
use Rattle.std.specs.Prelude.{◌≡◌, ℕ, ◌+◌, Bool, nat_lt, if◌then◌else◌, Option, Some, None}
use Rattle.std.specs.Option.{option_map}
use Rattle.mx_base.specs.{Sent.Sent, declared.names.Address.Address, declared.names.LinkId.LinkId, declared.names.Port.Port}
use Rattle.mx_base.specs.declared.names.Port.TheVariants.{Admin, Traffic}
use Rattle.ready_loop.specs.Machine.{Target}
use Rattle.core_policy.specs.declared.asks.Asked.{Asked}
use Rattle.marked_tables.specs.Goes.{changed_on, reads_on, sends_on, unnamed_in}
use Rattle.ready_loop.specs.declared.machines.Act.{Act}
use Rattle.ready_loop.specs.declared.machines.Act.TheVariants as act
use Rattle.shared_core.specs.declared.whole.Core.{Core}

abbrev pub reads : Core → LinkId → Bool
reads core link = reads_on core.router.marked link

abbrev pub sends : Core → LinkId → Option Sent
sends core link = sends_on core.router.marked link

abbrev pub changed : Core → LinkId → Bool
changed core link = changed_on core.router.marked link

abbrev pub unnamed : Core → ℕ
unnamed core = unnamed_in core.router.marked

-- the open that it asked for last
abbrev pub target_of : Asked → Target
target_of asked = record { server = asked.server; address = asked.address }

abbrev pub awaits : Core → Option Target
awaits core = option_map target_of core.router.asked

-- for an open that was asked for, and for nothing else

abbrev pub IsAskedFor : Option Asked → Option Act → Type 0
IsAskedFor asked (Some (act.Open server address)) = option_map target_of asked ≡ Some (record { server = server; address = address })
IsAskedFor asked _ = asked ≡ None

-- where it listens
abbrev pub address_of : Core → Port → Address
address_of core Traffic = core.service.listen
address_of core Admin = core.service.admin_listen

-- how many links it may have open; a sum stands still at its type's end
abbrev pub most_of : Core → ℕ
most_of core =
    if nat_lt (core.service.setup.max_clients + 10018) 4294967296 then core.service.setup.max_clients + 10018 else 4294967295
