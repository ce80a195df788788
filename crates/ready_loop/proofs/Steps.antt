-- From one call of the wire to the next, the machine goes on standing for the log.
use Rattle.std.proofs.Common.{◌≡◌, ℕ, ◌+◌, ◌<◌, ◌≤◌, Bool, false, refl, subst, sym, ap, ◌∙◌, [], ◌∷◌, ◌++◌, length, take, Option, Some, None, append_assoc, append-nil, length-append, arith}
use Rattle.mx_base.specs.declared.names.LinkId.{LinkId}
use Rattle.mx_wire.specs.Log.{Log, IsMark, AreMarks}
use Rattle.mx_wire.specs.Tells.{MayFollow, Tells}
use Rattle.mx_wire.specs.declared.entry.Entry.{Entry}
use Rattle.mx_wire.specs.declared.entry.Entry.TheVariants as entry
use Rattle.mx_base.specs.declared.piece.Piece.{Piece}
use Rattle.ready_loop.specs.Machine.{StandsFor, CarriesOver, Keeps, IsQuiet, Closes}
use Rattle.mx_base.specs.Sent.{IsLent, MayTake, Sent}
use Rattle.ready_loop.specs.Drained.{IsDue, MayWait, DrainedFor}
use Rattle.ready_loop.specs.Serving.{Parts}
use Rattle.ready_loop.proofs.Counting.{drained-marks}

-- a mark is told to no machine
mark-quiet : (e : Entry) → IsMark e → IsQuiet e
mark-quiet (entry.Exec link) mark = tt
mark-quiet (entry.Drop link) mark = tt
mark-quiet _ mark = absurd mark

mark-follows : (log : Log) (e : Entry) → IsMark e → length log + 1 < 281474976710656 → MayFollow log e
mark-follows log (entry.Exec link) mark few = record { bounded = few; fits = tt }
mark-follows log (entry.Drop link) mark few = record { bounded = few; fits = tt }
mark-follows log _ mark few = absurd mark

mark-due : {M : Type 0} (reads : M → LinkId → Bool) (sends : M → LinkId → Option Sent) (asks : M → Bool) (machine : M) (log : Log) (e : Entry) → IsMark e → IsDue reads sends asks machine log e
mark-due reads sends asks machine log (entry.Exec link) mark = tt
mark-due reads sends asks machine log (entry.Drop link) mark = tt
mark-due reads sends asks machine log _ mark = absurd mark

abbrev pub IsStill : {M : Type 0} → (M → Log → Type 0) → (M → LinkId → Bool) → (M → LinkId → Option Sent) → (M → Bool) → Type 0
IsStill {M} stands reads sends asks = (machine : M) (e : Entry) → IsQuiet e → CarriesOver stands (IsDue reads sends asks) machine machine e

-- a machine stands for a log with more marks
pub after_marks : {M : Type 0} (stands : M → Log → Type 0) (reads : M → LinkId → Bool) (sends : M → LinkId → Option Sent) (asks : M → Bool) → IsStill stands reads sends asks → (machine : M) (log marks : Log) → AreMarks marks → length (log ++ marks) < 281474976710656 → stands machine log → stands machine (log ++ marks)
after_marks stands reads sends asks still machine log [] all few held = subst (λ (l : Log). stands machine l) (sym (append-nil log)) held
after_marks stands reads sends asks still machine log (e ∷ marks) all few held =
    let long : length (log ++ e ∷ marks) ≡ length log + length (e ∷ marks) = length-append log (e ∷ marks) in
    let room : length log + 1 < 281474976710656 = omega arith in
    subst (λ (l : Log). stands machine l) (append_assoc log (e ∷ []) marks)
    (after_marks stands reads sends asks still machine (log ++ e ∷ []) marks all.1 (subst (λ (l : Log). length l < 281474976710656) (sym (append_assoc log (e ∷ []) marks)) few) ((still machine e (mark-quiet e all.0)).carried log (mark-follows log e all.0 room) (mark-due reads sends asks machine log e all.0) held))

few_before : (log : Log) (e : Entry) → MayFollow log e → length log < 281474976710656
few_before log e may = let few = may.bounded in omega arith

-- a call of the wire, and what the machine then took of it
goes_on_due : {M : Type 0} (stands : M → Log → Type 0) (reads : M → LinkId → Bool) (sends : M → LinkId → Option Sent) (asks : M → Bool) → IsStill stands reads sends asks → (old new : M) (told now : Option Log) (e : Entry) → StandsFor stands old told → Tells told e now
    → ((before marks : Log) → told ≡ Some before → AreMarks marks → IsDue reads sends asks old (before ++ marks) e) → CarriesOver stands (IsDue reads sends asks) old new e → StandsFor stands new now
goes_on_due stands reads sends asks still old new told now e held tells due over = record {
  holds = λ log is.
      let call = tells.appended log is in
      let marks = call.2.marks in
      subst (λ (l : Log). stands new l) (sym call.2.is)
      (over.carried (call.0 ++ marks) call.2.lawful (due call.0 marks call.1 call.2.only_marks) (after_marks stands reads sends asks still old call.0 marks call.2.only_marks (few_before (call.0 ++ marks) e call.2.lawful) (held.holds call.0 call.1)));
}

pub goes_on : {M : Type 0} (stands : M → Log → Type 0) (reads : M → LinkId → Bool) (sends : M → LinkId → Option Sent) (asks : M → Bool) → IsStill stands reads sends asks → (old new : M) (told now : Option Log) (e : Entry) → StandsFor stands old told → Tells told e now
    → ((log : Log) → IsDue reads sends asks old log e) → CarriesOver stands (IsDue reads sends asks) old new e → StandsFor stands new now
goes_on stands reads sends asks still old new told now e held tells due over = goes_on_due stands reads sends asks still old new told now e held tells (λ before marks is all. due (before ++ marks)) over

-- a call of the wire that the machine is not told of
pub stays : {M : Type 0} (stands : M → Log → Type 0) (reads : M → LinkId → Bool) (sends : M → LinkId → Option Sent) (asks : M → Bool) → IsStill stands reads sends asks → (machine : M) (told now : Option Log) (e : Entry) → StandsFor stands machine told → Tells told e now
    → ((log : Log) → IsDue reads sends asks machine log e) → IsQuiet e → StandsFor stands machine now
stays stands reads sends asks still machine told now e held tells due quiet = goes_on stands reads sends asks still machine machine told now e held tells due (still machine e quiet)

-- a wait of a loop that may wait
pub waits : {M : Type 0} (stands : M → Log → Type 0) (reads : M → LinkId → Bool) (sends : M → LinkId → Option Sent) (asks : M → Bool) → IsStill stands reads sends asks → (old new : M) (told now : Option Log) (e : Entry) → StandsFor stands old told → Tells told e now
    → DrainedFor (reads old) (sends old) told → asks old ≡ false → ((log : Log) → MayWait (reads old) (sends old) (asks old) log → IsDue reads sends asks old log e) → CarriesOver stands (IsDue reads sends asks) old new e → StandsFor stands new now
waits stands reads sends asks still old new told now e held tells drained acted due over =
    goes_on_due stands reads sends asks still old new told now e held tells (λ before marks is all. due (before ++ marks) (record { drained = drained-marks (reads old) (sends old) before marks all (drained.holds before is); acted = acted })) over

-- a write of a piece that the machine lent
pub written : {M : Type 0} (stands : M → Log → Type 0) (reads : M → LinkId → Bool) (sends : M → LinkId → Option Sent) (asks : M → Bool) → IsStill stands reads sends asks → (old new : M) (told now : Option Log) (link : LinkId) (piece : Piece) (lent : Option Sent) (n : ℕ)
    → StandsFor stands old told → IsLent (Some piece) lent → Tells told (entry.Wrote link piece.tag (take n piece.bytes.now)) now
    → ((sent : Sent) → lent ≡ Some sent → CarriesOver stands (IsDue reads sends asks) old new (entry.Wrote link sent.tag (take n sent.bytes))) → StandsFor stands new now
written stands reads sends asks still old new told now link piece (Some sent) n held lent tells over =
    goes_on stands reads sends asks still old new told now (entry.Wrote link piece.tag (take n piece.bytes.now)) held tells (λ log. tt) (rw (lent.tag, lent.bytes) (over sent refl))
written stands reads sends asks still old new told now link piece None n held lent tells over = absurd lent

-- no more of a lent piece is written than there is
pub may_take : (piece : Piece) (lent : Option Sent) (n : ℕ) → IsLent (Some piece) lent → n ≤ length piece.bytes.now → MayTake lent n
may_take piece (Some sent) n lent fits = rw (← lent.bytes) fits
may_take piece None n lent fits = lent

-- a machine goes on standing for what it stood for
pub keeps : {M : Type 0} (stands : M → Log → Type 0) (old new : M) (told : Option Log) → StandsFor stands old told → Keeps stands old new → StandsFor stands new told
keeps stands old new told held kept = record { holds = λ log is. kept.kept log (held.holds log is) }

-- a link closes, after a farewell or without one
pub closes : {M : Type 0} (stands : M → Log → Type 0) (reads : M → LinkId → Bool) (sends : M → LinkId → Option Sent) (asks : M → Bool) → IsStill stands reads sends asks → (old new : M) (told now : Option Log) (lent : Option Sent) (link : LinkId)
    → StandsFor stands old told → Closes stands (IsDue reads sends asks) old new lent link → Parts lent link told now → StandsFor stands new now
closes stands reads sends asks still old new told now None link held closing parts =
    goes_on stands reads sends asks still old new told now (entry.Closed link) held (subst (λ (t : Option Log). Tells t (entry.Closed link) now) parts.offer parts.close) (λ log. tt) (closing.plain refl)
closes stands reads sends asks still old new told now (Some sent) link held closing parts = record {
  holds = λ log is.
      let offer = parts.offer in
      let close = parts.close.appended log is in
      let write = offer.2.appended close.0 close.1 in
      let before : stands old (write.0 ++ write.2.marks) = after_marks stands reads sends asks still old write.0 write.2.marks write.2.only_marks (few_before (write.0 ++ write.2.marks) offer.0 write.2.lawful) (held.holds write.0 write.1) in
      subst (λ (l : Log). stands new l) (ap (λ (l : Log). l ++ close.2.marks ++ entry.Closed link ∷ []) (sym write.2.is) ∙ sym close.2.is)
      (closing.offered refl (write.0 ++ write.2.marks) offer.0 close.2.marks offer.1 close.2.only_marks write.2.lawful (subst (λ (l : Log). MayFollow (l ++ close.2.marks) (entry.Closed link)) write.2.is close.2.lawful) before);
}
