-- What a change of one link's mark is for its dryness.
use Rattle.std.proofs.Common.{◌≡◌, Bool, true, false, nat_eq, Option, Some, None, refl, ◌∙◌, ap, inl, inr}
use Rattle.std.specs.Option.{option_map}
use Rattle.mx_base.specs.declared.names.LinkId.{LinkId}
use Rattle.mx_wire.specs.Growth.{bool_cases}
use Rattle.mx_wire.specs.declared.entry.Entry.TheVariants as entry
use Rattle.ready_loop.specs.Links.{Dry, wet, dry_at, dry_mark, dry_of, dry_step, mark_of, is_read_dry, is_write_dry, Marks}
use Rattle.ready_loop.specs.declared.links.Links.{Links}
use Rattle.ready_loop.specs.declared.links.Mark.{Mark}
use Rattle.ready_loop.proofs.Counting.{at_number}

pub others : (old new : Links) (link : LinkId) (mark : Option Mark) → Marks old new link mark → (other : LinkId) → nat_eq link.0 other.0 ≡ false → dry_of new other ≡ dry_of old other
others old new link mark marks other apart = ap (option_map dry_mark) (marks.others other apart)

-- a change that leaves the link as dry as it was leaves all links so
pub all_same : (old new : Links) (link : LinkId) (mark : Option Mark) → Marks old new link mark → option_map dry_mark mark ≡ dry_of old link → (l : LinkId) → dry_of new l ≡ dry_of old l
all_same old new link mark marks same l = elim (bool_cases (nat_eq link.0 l.0)) [
  | inl here ↦ at_number (λ (l' : LinkId). dry_of new l' ≡ dry_of old l') link l here (ap (option_map dry_mark) marks.same ∙ same)
  | inr apart ↦ others old new link mark marks l apart
]

mapped : (f : Mark → Mark) (g : Dry → Dry) → ((m : Mark) → dry_mark (f m) ≡ g (dry_mark m)) → (o : Option Mark) → option_map dry_mark (option_map f o) ≡ option_map g (option_map dry_mark o)
mapped f g same None = refl
mapped f g same (Some m) = ap (λ (d : Dry). Some d) (same m)

-- a link that goes to the queue or leaves it stays as dry as it was
pub queued_same : (queued : Bool) (o : Option Mark) → option_map dry_mark (option_map (λ (mark : Mark). record mark { queued = queued }) o) ≡ option_map dry_mark o
queued_same queued None = refl
queued_same queued (Some m) = refl

pub read_nothing : (old new : Links) (link : LinkId) → Marks old new link (option_map (λ (mark : Mark). record mark { read = true }) (mark_of old link)) → dry_of new link ≡ dry_step (dry_of old link) (entry.ReadNothing link)
read_nothing old new link marks = ap (option_map dry_mark) marks.same ∙ mapped (λ (mark : Mark). record mark { read = true }) (λ (dry : Dry). record dry { read = true }) (λ m. refl) (mark_of old link)

pub write_nothing : (old new : Links) (link : LinkId) → Marks old new link (option_map (λ (mark : Mark). record mark { write = true }) (mark_of old link)) → dry_of new link ≡ dry_step (dry_of old link) (entry.WriteNothing link)
write_nothing old new link marks = ap (option_map dry_mark) marks.same ∙ mapped (λ (mark : Mark). record mark { write = true }) (λ (dry : Dry). record dry { write = true }) (λ m. refl) (mark_of old link)

pub named : (old new : Links) (link : LinkId) → Marks old new link (option_map (λ (mark : Mark). record { read = false; write = false; queued = true }) (mark_of old link)) → dry_of new link ≡ dry_step (dry_of old link) (entry.Named link)
named old new link marks = ap (option_map dry_mark) marks.same ∙ mapped (λ (mark : Mark). record { read = false; write = false; queued = true }) (λ (dry : Dry). wet) (λ m. refl) (mark_of old link)

read_false : (o : Option Mark) → option_map (λ (mark : Mark). mark.read) o ≡ Some false → option_map dry_mark o ≡ option_map (λ (dry : Dry). record dry { read = false }) (option_map dry_mark o)
read_false None is = refl
read_false (Some m) is = let no : m.read ≡ false = cc in ap (λ (b : Bool). dry_at true b m.write) no

write_false : (o : Option Mark) → option_map (λ (mark : Mark). mark.write) o ≡ Some false → option_map dry_mark o ≡ option_map (λ (dry : Dry). record dry { write = false }) (option_map dry_mark o)
write_false None is = refl
write_false (Some m) is = let no : m.write ≡ false = cc in ap (λ (b : Bool). dry_at true m.read b) no

-- a link that isn't dry stays so where bytes were read or written
pub got : (links : Links) (link : LinkId) → is_read_dry links link ≡ Some false → dry_of links link ≡ option_map (λ (dry : Dry). record dry { read = false }) (dry_of links link)
got links link is = read_false (mark_of links link) is

pub wrote : (links : Links) (link : LinkId) → is_write_dry links link ≡ Some false → dry_of links link ≡ option_map (λ (dry : Dry). record dry { write = false }) (dry_of links link)
wrote links link is = write_false (mark_of links link) is
