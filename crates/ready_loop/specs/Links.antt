-- The loop's table of links.
use Rattle.std.specs.Prelude.{◌≡◌, Bool, true, false, nat_eq, cond, List, [], ◌∷◌, ◌++◌, Option, Some, None}
use Rattle.std.specs.Option.{option_map}
use Rattle.std.specs.List.{list_any}
use Rattle.std.specs.HashMap.{get}
use Rattle.mx_base.specs.declared.names.LinkId.{LinkId}
use Rattle.mx_wire.specs.Log.{Log, is_open}
use Rattle.mx_wire.specs.declared.entry.Entry.{Entry}
use Rattle.mx_wire.specs.declared.entry.Entry.TheVariants.{Named, Accepted, Opened, Got, ReadNothing, Wrote, WriteNothing, Closed}
use Rattle.ready_loop.specs.Drained.{read_dry, write_dry}
use Rattle.ready_loop.specs.declared.links.Links.{Links}
use Rattle.ready_loop.specs.declared.links.Mark.{Mark}

-- whether a link is dry for reads, and for writes
pub record Dry : Type 0 where
  pub read : Bool
  pub write : Bool

abbrev pub wet : Dry
wet = record { read = false; write = false }

abbrev pub dry_at : Bool → Bool → Bool → Option Dry
dry_at opened read write = cond opened (Some (record { read = read; write = write })) None

-- how dry a link is, where it is open in the log
abbrev pub dry_in : LinkId → Log → Option Dry
dry_in link log = dry_at (is_open link log) (read_dry link log) (write_dry link log)

-- how one entry of a link changes that
abbrev pub dry_step : Option Dry → Entry → Option Dry
dry_step was (Accepted port link salt) = Some wet
dry_step was (Opened server address link) = Some wet
dry_step was (Closed link) = None
dry_step was (Named link) = option_map (λ (dry : Dry). wet) was
dry_step was (Got link bytes) = option_map (λ (dry : Dry). record dry { read = false }) was
dry_step was (ReadNothing link) = option_map (λ (dry : Dry). record dry { read = true }) was
dry_step was (Wrote link tag bytes) = option_map (λ (dry : Dry). record dry { write = false }) was
dry_step was (WriteNothing link) = option_map (λ (dry : Dry). record dry { write = true }) was
dry_step was _ = was

-- what the table has of a link
abbrev pub mark_of : Links → LinkId → Option Mark
mark_of links link = get nat_eq links.marks link.0

abbrev pub dry_mark : Mark → Dry
dry_mark mark = record { read = mark.read; write = mark.write }

abbrev pub dry_of : Links → LinkId → Option Dry
dry_of links link = option_map dry_mark (mark_of links link)

-- a link of the table of which the last read, or the last write, may be followed by another
abbrev pub is_read_dry : Links → LinkId → Option Bool
is_read_dry links link = option_map (λ (mark : Mark). mark.read) (mark_of links link)

abbrev pub is_write_dry : Links → LinkId → Option Bool
is_write_dry links link = option_map (λ (mark : Mark). mark.write) (mark_of links link)

abbrev pub is_in_queue : Links → LinkId → Bool
is_in_queue links link = list_any (λ (other : LinkId). nat_eq other.0 link.0) links.queue.items

-- what is known of one link changes, and of the others nothing does
pub record Marks (old new : Links) (link : LinkId) (mark : Option Mark) : Type 0 where
  pub same : mark_of new link ≡ mark
  pub others : (other : LinkId) → nat_eq link.0 other.0 ≡ false → mark_of new other ≡ mark_of old other

-- a link goes to the end of the queue, where it is in the table and isn't in the queue
abbrev pub queue_with : Option Mark → List LinkId → LinkId → List LinkId
queue_with None queue link = queue
queue_with (Some mark) queue link = cond mark.queued queue (queue ++ link ∷ [])
