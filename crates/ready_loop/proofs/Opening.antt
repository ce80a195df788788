-- What a table that is true of the log says of its links.
use Rattle.std.proofs.Common.{◌≡◌, Bool, true, false, Option, Some, None, refl, sym, ◌∙◌, ap}
use Rattle.std.specs.Option.{option_map}
use Rattle.mx_base.specs.declared.names.LinkId.{LinkId}
use Rattle.mx_base.specs.declared.names.Port.{Port}
use Rattle.mx_base.specs.declared.names.Port.TheVariants as port
use Rattle.mx_wire.specs.Log.{Log, is_open}
use Rattle.mx_wire.specs.Tells.{OpenFor}
use Rattle.mx_base.specs.Sent.{Sent}
use Rattle.ready_loop.specs.Drained.{read_dry, write_dry, all_accepted, DrainedFor}
use Rattle.ready_loop.specs.Links.{Dry, dry_at, dry_mark, dry_of, dry_in, mark_of}
use Rattle.ready_loop.specs.Round.{CountsOf}
use Rattle.ready_loop.specs.Queued.{Watches}
use Rattle.ready_loop.specs.Serving.{IsGoing, Tracks, TracksFor, IsDone}
use Rattle.ready_loop.proofs.Counting.{retold}
use Rattle.ready_loop.specs.declared.links.Mark.{Mark}
use Rattle.ready_loop.specs.declared.table.Table.{Table}

at_open : (o r w : Bool) (dry : Dry) → dry_at o r w ≡ Some dry → o ≡ true
at_open true r w dry is = refl
at_open false r w dry is = cc

pub some_of : {A : Type 0} (f : Mark → A) (o : Option Mark) (a : A) → option_map f o ≡ Some a → (mark : Mark) × (o ≡ Some mark) × (f mark ≡ a)
some_of f None a is = cc
some_of f (Some mark) a is = (mark, refl, cc)

-- a link of the table is open
pub open_marked : {A : Type 0} (f : Mark → A) (a : A) (table : Table) (told : Option Log) (link : LinkId) → TracksFor table told → option_map f (mark_of table.links link) ≡ Some a → OpenFor told link
open_marked f a table told link held is = record {
  holds = λ log told_is.
      let mark = some_of f (mark_of table.links link) a is in
      let known : dry_of table.links link ≡ Some (dry_mark mark.0) = ap (option_map dry_mark) mark.1 in
      at_open (is_open link log) (read_dry link log) (write_dry link log) (dry_mark mark.0) (sym ((held.holds log told_is).links link) ∙ known);
}

-- an open link is in the table
known_open : (table : Table) (log : Log) (link : LinkId) → Tracks table log → is_open link log ≡ true → (mark : Mark) × (mark_of table.links link ≡ Some mark) × (dry_mark mark ≡ (record { read = read_dry link log; write = write_dry link log }))
known_open table log link tracks opened =
    let here : dry_in link log ≡ Some (record { read = read_dry link log; write = write_dry link log }) = ap (λ (o : Bool). dry_at o (read_dry link log) (write_dry link log)) opened in
    some_of dry_mark (mark_of table.links link) (record { read = read_dry link log; write = write_dry link log }) (tracks.links link ∙ here)

accepts : (at : Port) (log : Log) (table : Table) → CountsOf table.round log → table.round.traffic ≡ true → table.round.admin ≡ true → all_accepted at log ≡ true
accepts port.Traffic log table counts traffic admin = sym counts.traffic ∙ traffic
accepts port.Admin log table counts traffic admin = sym counts.admin ∙ admin

-- where no call is owed, the loop is drained
pub drained : (reads : LinkId → Bool) (sends : LinkId → Option Sent) (changed : LinkId → Bool) (table : Table) (told : Option Log) → TracksFor table told → IsDone reads sends changed table → ((link : LinkId) → changed link ≡ false) → DrainedFor reads sends told
drained reads sends changed table told held done calm = record {
  holds = λ log is.
      let tracks = held.holds log is in
      record {
        accepted = λ at. accepts at log table tracks.round done.asked.traffic done.asked.admin;
        named = sym tracks.round.named ∙ done.asked.named;
        read = λ link opened wants. let known = known_open table log link tracks opened in
            sym (ap (λ (d : Dry). d.read) known.2) ∙ (done.settled link known.0 known.1 (calm link)).read wants;
        written = λ link opened some. let known = known_open table log link tracks opened in
            sym (ap (λ (d : Dry). d.write) known.2) ∙ (done.settled link known.0 known.1 (calm link)).written some;
      };
}

-- a loop goes on with a table of which only the queue changed
pub looked_through : {M : Type 0} (stands : M → Log → Type 0) (reads : M → LinkId → Bool) (sends : M → LinkId → Option Sent) (changed : M → LinkId → Bool) (is_stopped asks : M → Bool) (core : M) (old new : Table) (told : Option Log) → new.round ≡ old.round → ((link : LinkId) → dry_of new.links link ≡ dry_of old.links link)
    → Watches (reads core) (sends core) (changed core) new.links → IsGoing stands reads sends changed is_stopped asks core old told → IsGoing stands reads sends changed is_stopped asks core new told
looked_through stands reads sends changed is_stopped asks core old new told round dry watches going = record {
  serves = record { standing = going.serves.standing; tracks = retold old new told round dry going.serves.tracks; watches = watches };
  going = going.going;
  acted = going.acted;
}
