-- What a machine is told of what a read answered.
use Rattle.std.specs.Prelude.{Option, Some, None}
use Rattle.mx_base.specs.declared.names.LinkId.{LinkId}
use Rattle.mx_wire.specs.declared.wire.Got.{Got}
use Rattle.mx_wire.specs.declared.wire.Got.TheVariants as got
use Rattle.ready_loop.specs.declared.heard.Heard.{Heard}
use Rattle.ready_loop.specs.declared.machines.Event.TheVariants as event

abbrev pub heard_of : LinkId → Got → Option Heard
heard_of link (got.Got n) = Some (record { event = event.Got link; length = n })
heard_of link got.NotReady = None
heard_of link got.End = Some (record { event = event.Ended link; length = 0 })
heard_of link got.Failed = Some (record { event = event.Failed link; length = 0 })
