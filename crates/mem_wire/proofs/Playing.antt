-- A call's entry goes on with the play.
use Rattle.std.proofs.Common.{◌≡◌, ℕ, false, List, [], ◌∷◌, ◌++◌, length, if◌then◌else◌, Option, Some, None, sym, ◌∙◌, ap, subst, append-nil, append_assoc}
use Rattle.mx_base.specs.declared.names.LinkId.{LinkId}
use Rattle.mx_wire.specs.Log.{Log, IsMark, AreMarks, opened_link, opened_links}
use Rattle.mx_wire.specs.Moments.{lawful-more}
use Rattle.mx_wire.specs.declared.entry.Entry.{Entry}
use Rattle.mx_wire.specs.declared.entry.Entry.TheVariants as entry
use Rattle.recording.specs.declared.entry.RecordLink.TheVariants.{Server}
use Rattle.recording.specs.declared.entry.RecordEntry.{RecordEntry}
use Rattle.mem_wire.specs.declared.late.Late.{Late}
use Rattle.mem_wire.specs.declared.stage.Stage.{Stage}
use Rattle.mem_wire.specs.Adds.{late_entries}
use Rattle.mem_wire.specs.Marks.{entries_of}
use Rattle.mem_wire.specs.Lines.{marks_for, released}
use Rattle.mem_wire.specs.Came.{wakes}
use Rattle.mem_wire.specs.Play.{is_mark, last_marks, just_opened, late_marks, due_marks, Answers, IsCallOf, IsAnswerOf, IsPlay}
use Rattle.mem_wire.specs.Follows.{IsSound, Follows}
use Rattle.mem_wire.specs.Stands.{Stands}
use Rattle.mem_wire.specs.Turns.{AllInTurn}
use Rattle.mem_wire.proofs.Links.{late_are}
use Rattle.mem_wire.proofs.Scenes.{Alike, alike-marks, opens-marks, just-marks, last-marks, just-more, marks-more}
use Rattle.mem_wire.proofs.Standing.{stands-alike}

pub played-marks : (recording : List RecordEntry) (log marks : Log) → IsPlay recording log → AreMarks marks → IsPlay recording (log ++ marks)
played-marks recording log [] all are = subst (IsPlay recording) (sym (append-nil log)) all
played-marks recording log (e ∷ marks) all are =
    subst (IsPlay recording) (append_assoc log (e ∷ []) marks)
    (played-marks recording (log ++ e ∷ []) marks (lawful-more (IsAnswerOf recording) log e all (judged e are.0)) are.1)
  where
    judged : (x : Entry) → IsMark x → IsAnswerOf recording log x
    judged (entry.Exec link) is = tt
    judged (entry.Drop link) is = tt
    judged _ is = absurd is

-- the late marks, where this link was opened just before as one of these links, behind these lines
late-of : List RecordEntry → Option LinkId → List LinkId → ℕ → Log
late-of recording just links n = elim just [ Some link ↦ entries_of link (marks_for (Server (length links)) (released n recording)) | None ↦ [] ]

late-alike : (recording : List RecordEntry) (old new : Log) → just_opened new ≡ just_opened old → Alike recording old new → late_marks recording new ≡ late_marks recording old
unfolding late-of
late-alike recording old new just alike =
    ap (λ o. late-of recording o (opened_links new) (wakes new)) just
    ∙ ap (λ (links : List LinkId). late-of recording (just_opened old) links (wakes new)) alike.opened
    ∙ ap (λ (n : ℕ). late-of recording (just_opened old) (opened_links old) n) alike.woke

pub late-after : (recording : List RecordEntry) (log marks : Log) → AreMarks marks → late_marks recording (log ++ marks) ≡ late_marks recording log
late-after recording log marks are = late-alike recording log (log ++ marks) (just-marks log marks are) (alike-marks recording log marks are)

pub marked-is : (log marks : Log) → AreMarks marks → last_marks log ≡ [] → last_marks (log ++ marks) ≡ marks
marked-is log marks are none = last-marks log marks are ∙ ap (λ (l : Log). l ++ marks) none

-- what a call's entry is
pub record IsCall (recording : List RecordEntry) (e : Entry) : Type 0 where
  pub unmarked : is_mark e ≡ false
  pub judge : (log : Log) → IsCallOf recording log e → IsAnswerOf recording log e

-- one that isn't a wake
pub record IsPlain (recording : List RecordEntry) (e : Entry) : Type 0 where
  pub call : IsCall recording e
  pub due : (log : Log) → due_marks recording log e ≡ late_marks recording log

pub follows-entry : (recording : List RecordEntry) (old new : Stage) (log marks : Log) (e : Entry) → Follows recording old log → AreMarks marks → IsCall recording e → due_marks recording (log ++ marks) e ≡ marks → Answers recording (log ++ marks) e → IsSound recording new ((log ++ marks) ++ e ∷ []) → Stands recording new ((log ++ marks) ++ e ∷ []) → AllInTurn recording new → late_marks recording ((log ++ marks) ++ e ∷ []) ≡ late_entries new.late → Follows recording new ((log ++ marks) ++ e ∷ [])
follows-entry recording old new log marks e follows are call due answer sound stands turns late =
    record {
      playable = follows.playable;
      sound = sound;
      stands = stands;
      turns = turns;
      late = late;
      unmarked = marks-more (log ++ marks) e ∙ ap (λ b. if b then last_marks (log ++ marks) ++ e ∷ [] else []) call.unmarked;
      played = lawful-more (IsAnswerOf recording) (log ++ marks) e (played-marks recording log marks follows.played are)
          (call.judge (log ++ marks) (record { marks = marked-is log marks are follows.unmarked ∙ sym due; answer = answer }));
    }

pub stands-after : (recording : List RecordEntry) (s : Stage) (log marks : Log) → AreMarks marks → Stands recording s log → Stands recording s (log ++ marks)
stands-after recording s log marks are st = stands-alike recording s s.opens s.refusals s.late log (log ++ marks) (alike-marks recording log marks are) (st.opens ∙ sym (opens-marks log marks are)) st

pub stands-marked : (recording : List RecordEntry) (s : Stage) (log : Log) → Follows recording s log → Stands recording s (log ++ late_entries s.late)
stands-marked recording s log follows = stands-after recording s log (late_entries s.late) (late_are s.late) follows.stands

pub follows-plain : (recording : List RecordEntry) (old new : Stage) (log : Log) (e : Entry) → Follows recording old log → IsPlain recording e → Answers recording (log ++ late_entries old.late) e → IsSound recording new ((log ++ late_entries old.late) ++ e ∷ []) → Stands recording new ((log ++ late_entries old.late) ++ e ∷ []) → AllInTurn recording new → late_marks recording ((log ++ late_entries old.late) ++ e ∷ []) ≡ late_entries new.late → Follows recording new ((log ++ late_entries old.late) ++ e ∷ [])
follows-plain recording old new log e follows plain answer sound stands turns late =
    let marks = late_entries old.late in
    follows-entry recording old new log marks e follows (late_are old.late) plain.call
    (plain.due (log ++ marks) ∙ late-after recording log marks (late_are old.late) ∙ follows.late)
    answer sound stands turns late

-- where no link was opened, no marks are late
pub none-late : (recording : List RecordEntry) (log : Log) (e : Entry) (late : Late) → is_mark e ≡ false → opened_link e ≡ None → late.marks ≡ [] → late_marks recording (log ++ e ∷ []) ≡ late_entries late
unfolding late-of
none-late recording log e late unmarked unopened none =
    ap (λ o. late-of recording o (opened_links (log ++ e ∷ [])) (wakes (log ++ e ∷ []))) (just-more log e ∙ ap (λ b. if b then just_opened log else opened_link e) unmarked ∙ unopened)
    ∙ sym (ap (λ marks. entries_of late.link marks) none)
