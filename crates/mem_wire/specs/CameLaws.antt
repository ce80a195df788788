-- What one more entry changes of what a play looks at.
use Rattle.std.specs.Prelude.{◌≡◌, ◌+◌, List, [], ◌∷◌, ◌++◌, length, filter, if◌then◌else◌}
use Rattle.std.proofs.Common.{sym, ◌∙◌, ap, append-nil, append_assoc, length-append}
use Rattle.std.proofs.lemmas.List.Elements.{filter-append}
use Rattle.std.proofs.lemmas.List.Sums.{fold-append}
use Rattle.mx_base.specs.declared.names.Port.{Port}
use Rattle.mx_wire.specs.Log.{Log}
use Rattle.mx_wire.specs.declared.entry.Entry.{Entry}
use Rattle.recording.specs.declared.entry.RecordEntry.{RecordEntry}
use Rattle.mem_wire.specs.Came.{is_woke, wakes, is_accepted_at, accepted_at, is_open_call, opens, since_step, since_wake, known, known_after, known_by}
use Rattle.mem_wire.specs.Play.{named_step, named_since}

pub wakes-more : (log : Log) (e : Entry) → wakes (log ++ e ∷ []) ≡ wakes log + length (if is_woke e then e ∷ [] else [])
wakes-more log e = ap length (filter-append is_woke log (e ∷ [])) ∙ length-append (filter is_woke log) (filter is_woke (e ∷ []))

pub accepted-more : (port : Port) (log : Log) (e : Entry) → accepted_at port (log ++ e ∷ []) ≡ accepted_at port log + length (if is_accepted_at port e then e ∷ [] else [])
accepted-more port log e = ap length (filter-append (is_accepted_at port) log (e ∷ [])) ∙ length-append (filter (is_accepted_at port) log) (filter (is_accepted_at port) (e ∷ []))

pub opens-more : (log : Log) (e : Entry) → opens (log ++ e ∷ []) ≡ opens log + length (if is_open_call e then e ∷ [] else [])
opens-more log e = ap length (filter-append is_open_call log (e ∷ [])) ∙ length-append (filter is_open_call log) (filter is_open_call (e ∷ []))

known-from : (recording : List RecordEntry) (before log : Log) (e : Entry) → known_after recording before (log ++ e ∷ []) ≡ known_after recording before log ++ known_by recording (before ++ log) e
known-from recording before [] e = append-nil (known_by recording before e) ∙ ap (λ (l : Log). known_by recording l e) (sym (append-nil before))
known-from recording before (x ∷ log) e =
    ap (λ later. known_by recording before x ++ later) (known-from recording (before ++ x ∷ []) log e)
    ∙ sym (append_assoc (known_by recording before x) (known_after recording (before ++ x ∷ []) log) (known_by recording ((before ++ x ∷ []) ++ log) e))
    ∙ ap (λ (l : Log). (known_by recording before x ++ known_after recording (before ++ x ∷ []) log) ++ known_by recording l e) (append_assoc before (x ∷ []) log)

pub known-more : (recording : List RecordEntry) (log : Log) (e : Entry) → known recording (log ++ e ∷ []) ≡ known recording log ++ known_by recording log e
known-more recording log e = known-from recording [] log e

pub since-more : (log : Log) (e : Entry) → since_wake (log ++ e ∷ []) ≡ since_step (since_wake log) e
since-more log e = fold-append since_step [] log (e ∷ [])

pub named-more : (log : Log) (e : Entry) → named_since (log ++ e ∷ []) ≡ named_step (named_since log) e
named-more log e = fold-append named_step [] log (e ∷ [])
