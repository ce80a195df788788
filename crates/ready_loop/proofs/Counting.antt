-- What the loop counts and knows of its links, from entry to entry.
use Rattle.std.proofs.Common.{◌≡◌, ℕ, ◌+◌, Bool, true, false, cond, nat_eq, [], ◌∷◌, ◌++◌, Option, Some, None, refl, sym, ◌∙◌, append_assoc, append-nil, ap, subst, inl, inr}
use Rattle.std.specs.Prelude.{fold}
use Rattle.std.specs.Option.{option_map}
use Rattle.std.proofs.lemmas.Bool.{eqb-true}
use Rattle.std.proofs.lemmas.List.Sums.{fold-append}
use Rattle.mx_base.specs.declared.names.LinkId.{LinkId}
use Rattle.mx_base.specs.declared.names.Port.{Port}
use Rattle.mx_base.specs.declared.names.Port.TheVariants as port
use Rattle.mx_wire.specs.Log.{Log, IsMark, AreMarks, link_of, is_link, of_link, open_step, is_open}
use Rattle.mx_wire.specs.Tells.{Appends, Tells}
use Rattle.mx_wire.specs.Growth.{bool_cases, same_number, nat_eq-sym, step-same, step-other}
use Rattle.mx_wire.specs.declared.entry.Entry.{Entry}
use Rattle.mx_wire.specs.declared.entry.Entry.TheVariants as entry
use Rattle.mx_base.specs.Sent.{Sent}
use Rattle.ready_loop.specs.Drained.{read_step, write_step, read_dry, write_dry, accept_step, name_step, all_accepted, all_named, IsDrained}
use Rattle.ready_loop.specs.Links.{Dry, wet, dry_at, dry_in, dry_of, dry_step}
use Rattle.ready_loop.specs.Round.{call_step, wake_step, calls_since_wake, wakes_of, CountsOf, round_step}
use Rattle.ready_loop.specs.Machine.{IsFarewell}
use Rattle.ready_loop.specs.Serving.{Tracks, TracksFor, Parts, offered_round}
use Rattle.ready_loop.specs.declared.links.Links.{Links}
use Rattle.ready_loop.specs.declared.round.Round.{Round}
use Rattle.ready_loop.specs.declared.table.Table.{Table}

pub accepted-more : (at : Port) (log : Log) (e : Entry) → all_accepted at (log ++ e ∷ []) ≡ accept_step at (all_accepted at log) e
accepted-more at log e = fold-append (accept_step at) true log (e ∷ [])

pub named-more : (log : Log) (e : Entry) → all_named (log ++ e ∷ []) ≡ name_step (all_named log) e
named-more log e = fold-append name_step true log (e ∷ [])

pub calls-more : (log : Log) (e : Entry) → calls_since_wake (log ++ e ∷ []) ≡ call_step (calls_since_wake log) e
calls-more log e = fold-append call_step 0 log (e ∷ [])

pub wakes-more : (log : Log) (e : Entry) → wakes_of (log ++ e ∷ []) ≡ wake_step (wakes_of log) e
wakes-more log e = fold-append wake_step 0 log (e ∷ [])

-- what is counted, with one more entry
pub counts-more : (old new : Round) (log : Log) (e : Entry) → new ≡ round_step old e → CountsOf old log → CountsOf new (log ++ e ∷ [])
counts-more old new log e is was = record {
  traffic = ap (λ (r : Round). r.traffic) is ∙ ap (λ (b : Bool). accept_step port.Traffic b e) was.traffic ∙ sym (accepted-more port.Traffic log e);
  admin = ap (λ (r : Round). r.admin) is ∙ ap (λ (b : Bool). accept_step port.Admin b e) was.admin ∙ sym (accepted-more port.Admin log e);
  named = ap (λ (r : Round). r.named) is ∙ ap (λ (b : Bool). name_step b e) was.named ∙ sym (named-more log e);
  calls = ap (λ (r : Round). r.calls) is ∙ ap (λ (n : ℕ). call_step n e) was.calls ∙ sym (calls-more log e);
  wakes = ap (λ (r : Round). r.wakes) is ∙ ap (λ (n : ℕ). wake_step n e) was.wakes ∙ sym (wakes-more log e);
}

changed : (opened : Bool) (change : Dry → Dry) (dry : Dry) → cond opened (Some (change dry)) None ≡ option_map change (cond opened (Some dry) None)
changed true change dry = refl
changed false change dry = refl

dry-steps : (opened read write : Bool) (e : Entry) → dry_at (open_step opened e) (read_step read e) (write_step write e) ≡ dry_step (dry_at opened read write) e
dry-steps opened read write (entry.Accepted at link salt) = refl
dry-steps opened read write (entry.Opened server address link) = refl
dry-steps opened read write (entry.Named link) = changed opened (λ dry. wet) (record { read = read; write = write })
dry-steps opened read write (entry.Got link bytes) = changed opened (λ dry. record dry { read = false }) (record { read = read; write = write })
dry-steps opened read write (entry.ReadNothing link) = changed opened (λ dry. record dry { read = true }) (record { read = read; write = write })
dry-steps opened read write (entry.Wrote link tag bytes) = changed opened (λ dry. record dry { write = false }) (record { read = read; write = write })
dry-steps opened read write (entry.WriteNothing link) = changed opened (λ dry. record dry { write = true }) (record { read = read; write = write })
dry-steps opened read write _ = refl

dry_at-equal : (o o' r r' w w' : Bool) → o ≡ o' → r ≡ r' → w ≡ w' → dry_at o r w ≡ dry_at o' r' w'
dry_at-equal o o' r r' w w' opened read write = cc

-- how dry a link is, with one more entry of another link or of none, or of itself
pub dry-other : (link : LinkId) (log : Log) (e : Entry) → is_link link (link_of e) ≡ false → dry_in link (log ++ e ∷ []) ≡ dry_in link log
dry-other link log e other = dry_at-equal _ _ _ _ _ _ (step-other open_step false link log e other) (step-other read_step false link log e other) (step-other write_step false link log e other)

pub dry-same : (link : LinkId) (log : Log) (e : Entry) → link_of e ≡ Some link → dry_in link (log ++ e ∷ []) ≡ dry_step (dry_in link log) e
dry-same link log e names =
    let here : is_link link (link_of e) ≡ true = rw names (same_number link.0) in
    dry_at-equal _ _ _ _ _ _ (step-same open_step false link log e here) (step-same read_step false link log e here) (step-same write_step false link log e here)
    ∙ dry-steps (is_open link log) (read_dry link log) (write_dry link log) e

-- what is said of a link holds of a link with the same number
pub at_number : (P : LinkId → Type 0) (a b : LinkId) → nat_eq a.0 b.0 ≡ true → P a → P b
at_number P a b same held = subst (λ (n : ℕ). P (record { 0 = n })) (eqb-true a.0 b.0 same) held

-- the table's links, with one more entry that names a link, or that names none
pub links-named : (old new : Links) (log : Log) (e : Entry) (link : LinkId) → link_of e ≡ Some link → dry_of new link ≡ dry_step (dry_of old link) e
    → ((other : LinkId) → nat_eq link.0 other.0 ≡ false → dry_of new other ≡ dry_of old other) → ((l : LinkId) → dry_of old l ≡ dry_in l log) → (l : LinkId) → dry_of new l ≡ dry_in l (log ++ e ∷ [])
links-named old new log e link names same others was l = elim (bool_cases (nat_eq link.0 l.0)) [
  | inl here ↦ at_number (λ (l' : LinkId). dry_of new l' ≡ dry_in l' (log ++ e ∷ [])) link l here
      (same ∙ ap (λ (d : Option Dry). dry_step d e) (was link) ∙ sym (dry-same link log e names))
  | inr apart ↦ (
      let not_it : is_link l (link_of e) ≡ false = rw names (nat_eq-sym link.0 l.0 apart) in
      others l apart ∙ was l ∙ sym (dry-other l log e not_it))
]

pub links-unnamed : (old new : Links) (log : Log) (e : Entry) → link_of e ≡ None → ((l : LinkId) → dry_of new l ≡ dry_of old l) → ((l : LinkId) → dry_of old l ≡ dry_in l log) → (l : LinkId) → dry_of new l ≡ dry_in l (log ++ e ∷ [])
links-unnamed old new log e names same was l =
    let not_it : is_link l (link_of e) ≡ false = rw names refl in
    same l ∙ was l ∙ sym (dry-other l log e not_it)

-- marks change nothing
abbrev pub IgnoresMarks : (Bool → Entry → Bool) → Type 0
IgnoresMarks step = (e : Entry) → IsMark e → (b : Bool) → step b e ≡ b

open-ignores : IgnoresMarks open_step
open-ignores (entry.Exec link) mark b = refl
open-ignores (entry.Drop link) mark b = refl
open-ignores _ mark b = absurd mark

read-ignores : IgnoresMarks read_step
read-ignores (entry.Exec link) mark b = refl
read-ignores (entry.Drop link) mark b = refl
read-ignores _ mark b = absurd mark

write-ignores : IgnoresMarks write_step
write-ignores (entry.Exec link) mark b = refl
write-ignores (entry.Drop link) mark b = refl
write-ignores _ mark b = absurd mark

accept-ignores : (at : Port) → IgnoresMarks (accept_step at)
accept-ignores at (entry.Exec link) mark b = refl
accept-ignores at (entry.Drop link) mark b = refl
accept-ignores at _ mark b = absurd mark

name-ignores : IgnoresMarks name_step
name-ignores (entry.Exec link) mark b = refl
name-ignores (entry.Drop link) mark b = refl
name-ignores _ mark b = absurd mark

mark-idle : (step : Bool → Entry → Bool) → IgnoresMarks step → (link : LinkId) (log : Log) (e : Entry) → IsMark e → fold step false (of_link link (log ++ e ∷ [])) ≡ fold step false (of_link link log)
mark-idle step ignores link log e mark = elim (bool_cases (is_link link (link_of e))) [
  | inl here ↦ step-same step false link log e here ∙ ignores e mark (fold step false (of_link link log))
  | inr other ↦ step-other step false link log e other
]

mark-dry : (link : LinkId) (log : Log) (e : Entry) → IsMark e → dry_in link (log ++ e ∷ []) ≡ dry_in link log
mark-dry link log e mark = dry_at-equal _ _ _ _ _ _ (mark-idle open_step open-ignores link log e mark) (mark-idle read_step read-ignores link log e mark) (mark-idle write_step write-ignores link log e mark)

mark-counts : (round : Round) (log : Log) (e : Entry) → IsMark e → CountsOf round log → CountsOf round (log ++ e ∷ [])
mark-counts round log (entry.Exec link) mark was = counts-more round round log (entry.Exec link) refl was
mark-counts round log (entry.Drop link) mark was = counts-more round round log (entry.Drop link) refl was
mark-counts round log _ mark was = absurd mark

pub marks-tracked : (table : Table) (log marks : Log) → AreMarks marks → Tracks table log → Tracks table (log ++ marks)
marks-tracked table log [] all was = subst (Tracks table) (sym (append-nil log)) was
marks-tracked table log (e ∷ marks) all was = subst (Tracks table) (append_assoc log (e ∷ []) marks) (marks-tracked table (log ++ e ∷ []) marks all.1 (record {
  round = mark-counts table.round log e all.0 was.round;
  links = λ link. was.links link ∙ sym (mark-dry link log e all.0);
}))

-- a call of the wire, and what the table then has
pub tracks_on : (old new : Table) (told now : Option Log) (e : Entry) → TracksFor old told → Tells told e now → ((log : Log) → Tracks old log → Tracks new (log ++ e ∷ [])) → TracksFor new now
tracks_on old new told now e held tells more = record {
  holds = λ log is.
      let call = tells.appended log is in
      let marks = call.2.marks in
      subst (Tracks new) (sym call.2.is) (more (call.0 ++ marks) (marks-tracked old call.0 marks call.2.only_marks (held.holds call.0 call.1)));
}

-- an entry of no link
pub unnamed : (old new : Table) (told now : Option Log) (e : Entry) → link_of e ≡ None → new.round ≡ round_step old.round e → ((l : LinkId) → dry_of new.links l ≡ dry_of old.links l) → TracksFor old told → Tells told e now → TracksFor new now
unnamed old new told now e names round links held tells = tracks_on old new told now e held tells (λ log was. record {
  round = counts-more old.round new.round log e round was.round;
  links = links-unnamed old.links new.links log e names links was.links;
})

-- an entry of one link
pub named : (old new : Table) (told now : Option Log) (e : Entry) (link : LinkId) → link_of e ≡ Some link → new.round ≡ round_step old.round e → dry_of new.links link ≡ dry_step (dry_of old.links link) e
    → ((other : LinkId) → nat_eq link.0 other.0 ≡ false → dry_of new.links other ≡ dry_of old.links other) → TracksFor old told → Tells told e now → TracksFor new now
named old new told now e link names round same others held tells = tracks_on old new told now e held tells (λ log was. record {
  round = counts-more old.round new.round log e round was.round;
  links = links-named old.links new.links log e link names same others was.links;
})

-- the same log, and a table that says the same
pub retold : (old new : Table) (told : Option Log) → new.round ≡ old.round → ((l : LinkId) → dry_of new.links l ≡ dry_of old.links l) → TracksFor old told → TracksFor new told
retold old new told round links held = record {
  holds = λ log is. let tracks = held.holds log is in record {
    round = subst (λ (r : Round). CountsOf r log) (sym round) tracks.round;
    links = λ l. links l ∙ tracks.links l;
  };
}

marks-dry : (link : LinkId) (log marks : Log) → AreMarks marks → dry_in link (log ++ marks) ≡ dry_in link log
marks-dry link log [] all = ap (dry_in link) (append-nil log)
marks-dry link log (e ∷ marks) all = ap (dry_in link) (sym (append_assoc log (e ∷ []) marks)) ∙ marks-dry link (log ++ e ∷ []) marks all.1 ∙ mark-dry link log e all.0

marks-count : (round : Round) (log marks : Log) → AreMarks marks → CountsOf round log → CountsOf round (log ++ marks)
marks-count round log [] all was = subst (CountsOf round) (sym (append-nil log)) was
marks-count round log (e ∷ marks) all was = subst (CountsOf round) (append_assoc log (e ∷ []) marks) (marks-count round (log ++ e ∷ []) marks all.1 (mark-counts round log e all.0 was))

-- a call, of another link, and what is counted of it
other-call : (link other : LinkId) (before log : Log) (e : Entry) → link_of e ≡ Some link → nat_eq link.0 other.0 ≡ false → Appends before e log → dry_in other log ≡ dry_in other before
other-call link other before log e names apart call =
    let not_it : is_link other (link_of e) ≡ false = rw names (nat_eq-sym link.0 other.0 apart) in
    ap (dry_in other) call.is ∙ dry-other other (before ++ call.marks) e not_it ∙ marks-dry other before call.marks call.only_marks

call-counted : (round : Round) (before log : Log) (e : Entry) → Appends before e log → CountsOf round before → CountsOf (round_step round e) log
call-counted round before log e call was = subst (CountsOf (round_step round e)) (sym call.is) (counts-more round (round_step round e) (before ++ call.marks) e refl (marks-count round before call.marks call.only_marks was))

farewell-link : (lent : Option Sent) (link : LinkId) (e : Entry) → IsFarewell lent link e → link_of e ≡ Some link
farewell-link lent link (entry.Wrote to tag bytes) is = ap (λ (l : LinkId). let o : Option LinkId = Some l in o) is.0
farewell-link lent link (entry.WriteNothing to) is = ap (λ (l : LinkId). let o : Option LinkId = Some l in o) is
farewell-link lent link (entry.WriteFailed to) is = ap (λ (l : LinkId). let o : Option LinkId = Some l in o) is
farewell-link lent link _ is = absurd is

farewell-round : (lent : Option Sent) (link : LinkId) (round : Round) (e : Entry) → IsFarewell lent link e → round_step round e ≡ (record round { calls = round.calls + 1 })
farewell-round lent link round (entry.Wrote to tag bytes) is = refl
farewell-round lent link round (entry.WriteNothing to) is = refl
farewell-round lent link round (entry.WriteFailed to) is = refl
farewell-round lent link round _ is = absurd is

-- a link was parted with
pub parted : (old new : Table) (told now : Option Log) (lent : Option Sent) (link : LinkId) (middle : Round) → Parts lent link told now → middle ≡ offered_round lent old.round → new.round ≡ (record middle { calls = middle.calls + 1 }) → dry_of new.links link ≡ None
    → ((other : LinkId) → nat_eq link.0 other.0 ≡ false → dry_of new.links other ≡ dry_of old.links other) → TracksFor old told → TracksFor new now
parted old new told now None link middle parts first last gone others held =
    named old new told now (entry.Closed link) link refl (last ∙ ap (λ (r : Round). round_step r (entry.Closed link)) first) gone others held
    (subst (λ (t : Option Log). Tells t (entry.Closed link) now) parts.offer parts.close)
parted old new told now (Some sent) link middle parts first last gone others held = record {
  holds = λ log is.
      let offer = parts.offer in
      let close = parts.close.appended log is in
      let write = offer.2.appended close.0 close.1 in
      let tracks = held.holds write.0 write.1 in
      let names = farewell-link (Some sent) link offer.0 offer.1 in
      let counted : CountsOf (round_step (round_step old.round offer.0) (entry.Closed link)) log = call-counted (round_step old.round offer.0) close.0 log (entry.Closed link) close.2 (call-counted old.round write.0 close.0 offer.0 write.2 tracks.round) in
      let steps : round_step (round_step old.round offer.0) (entry.Closed link) ≡ new.round = ap (λ (r : Round). round_step r (entry.Closed link)) (farewell-round (Some sent) link old.round offer.0 offer.1 ∙ sym first) ∙ sym last in
      record {
        round = subst (λ (r : Round). CountsOf r log) steps counted;
        links = λ l. elim (bool_cases (nat_eq link.0 l.0)) [
          | inl here ↦ at_number (λ (l' : LinkId). dry_of new.links l' ≡ dry_in l' log) link l here
              (gone ∙ sym (dry-same link (close.0 ++ close.2.marks) (entry.Closed link) refl) ∙ ap (dry_in link) (sym close.2.is))
          | inr apart ↦ (others l apart ∙ tracks.links l ∙ sym (other-call link l write.0 close.0 offer.0 names apart write.2) ∙ sym (other-call link l close.0 log (entry.Closed link) refl apart close.2))
        ];
      };
}

-- a loop that is drained stays so over marks
pub drained-marks : (reads : LinkId → Bool) (sends : LinkId → Option Sent) (log marks : Log) → AreMarks marks → IsDrained reads sends log → IsDrained reads sends (log ++ marks)
drained-marks reads sends log [] all was = subst (IsDrained reads sends) (sym (append-nil log)) was
drained-marks reads sends log (e ∷ marks) all was =
    subst (IsDrained reads sends) (append_assoc log (e ∷ []) marks) (drained-marks reads sends (log ++ e ∷ []) marks all.1 (record {
      accepted = λ at. accepted-more at log e ∙ accept-ignores at e all.0 (all_accepted at log) ∙ was.accepted at;
      named = named-more log e ∙ name-ignores e all.0 (all_named log) ∙ was.named;
      read = λ link opened wants. mark-idle read_step read-ignores link log e all.0 ∙ was.read link (sym (mark-idle open_step open-ignores link log e all.0) ∙ opened) wants;
      written = λ link opened some. mark-idle write_step write-ignores link log e all.0 ∙ was.written link (sym (mark-idle open_step open-ignores link log e all.0) ∙ opened) some;
    }))
