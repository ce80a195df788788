-- What one more entry changes of what a play looks at, and what it leaves.
use Rattle.std.proofs.Common.{◌≡◌, ◌+◌, Bool, true, false, List, [], ◌∷◌, ◌++◌, length, if◌then◌else◌, None, refl, sym, ◌∙◌, ap, subst, append-nil, append_assoc, add-zero}
use Rattle.std.specs.List.{cons_option}
use Rattle.std.proofs.lemmas.List.Elements.{filter_map-append}
use Rattle.std.proofs.lemmas.List.Sums.{fold-append}
use Rattle.mx_base.specs.declared.names.LinkId.{LinkId}
use Rattle.mx_base.specs.declared.names.Port.{Port}
use Rattle.mx_wire.specs.Log.{Log, opened_link, opened_links, read_of, got_bytes, is_open, open_step, written_of, wrote_bytes, AreMarks, IsMark}
use Rattle.mx_wire.specs.Growth.{bytes-idle}
use Rattle.mx_wire.specs.declared.entry.Entry.{Entry}
use Rattle.mx_wire.specs.declared.entry.Entry.TheVariants as entry
use Rattle.recording.specs.declared.entry.RecordEntry.{RecordEntry}
use Rattle.mem_wire.specs.Came.{is_woke, wakes, is_accepted_at, accepted_at, is_open_call, opens, since_wake, told_step, is_told, blocked_step, is_blocked, known, known_by}
use Rattle.mem_wire.specs.Play.{named_step, named_since, is_mark, last_marks, just_opened}
use Rattle.mem_wire.proofs.Quiet.{quiet, is_open-idle, step-idle, wrote-idle}
use Rattle.mem_wire.specs.CameLaws.{wakes-more, accepted-more, opens-more, known-more, named-more}

pub opened-more : (log : Log) (e : Entry) → opened_links (log ++ e ∷ []) ≡ opened_links log ++ cons_option (opened_link e) []
opened-more log e = filter_map-append opened_link log (e ∷ [])

pub marks-more : (log : Log) (e : Entry) → last_marks (log ++ e ∷ []) ≡ (if is_mark e then last_marks log ++ e ∷ [] else [])
marks-more log e = fold-append (λ marks e. if is_mark e then marks ++ e ∷ [] else []) [] log (e ∷ [])

pub just-more : (log : Log) (e : Entry) → just_opened (log ++ e ∷ []) ≡ (if is_mark e then just_opened log else opened_link e)
just-more log e = fold-append (λ was e. if is_mark e then was else opened_link e) None log (e ∷ [])

-- an entry that a play doesn't look at
pub record IsIdle (e : Entry) : Type 0 where
  pub woke : is_woke e ≡ false
  pub accepted : (port : Port) → is_accepted_at port e ≡ false
  pub opened : opened_link e ≡ None
  pub known : (recording : List RecordEntry) (log : Log) → known_by recording log e ≡ []
  pub named : (links : List LinkId) → named_step links e ≡ links
  pub got : got_bytes e ≡ []
  pub open_is : (was : Bool) → open_step was e ≡ was
  pub told : (was : Bool) → told_step was e ≡ was
  pub blocked : (was : Bool) → blocked_step was e ≡ was
  pub wrote : wrote_bytes e ≡ []

-- two logs look alike
pub record Alike (recording : List RecordEntry) (old new : Log) : Type 0 where
  pub woke : wakes new ≡ wakes old
  pub accepted : (port : Port) → accepted_at port new ≡ accepted_at port old
  pub opened : opened_links new ≡ opened_links old
  pub links : known recording new ≡ known recording old
  pub named : named_since new ≡ named_since old
  pub read : (link : LinkId) → read_of link new ≡ read_of link old
  pub open_is : (link : LinkId) → is_open link new ≡ is_open link old
  pub told : (link : LinkId) → is_told link new ≡ is_told link old
  pub blocked : (link : LinkId) → is_blocked link new ≡ is_blocked link old
  pub wrote : (link : LinkId) → written_of link (since_wake new) ≡ written_of link (since_wake old)

pub alike-idle : (recording : List RecordEntry) (log : Log) (e : Entry) → IsIdle e → Alike recording log (log ++ e ∷ [])
alike-idle recording log e idle = record {
  woke = wakes-more log e ∙ ap (λ b. wakes log + length (if b then e ∷ [] else [])) idle.woke ∙ add-zero (wakes log);
  accepted = λ port. accepted-more port log e ∙ ap (λ b. accepted_at port log + length (if b then e ∷ [] else [])) (idle.accepted port) ∙ add-zero (accepted_at port log);
  opened = opened-more log e ∙ ap (λ o. opened_links log ++ cons_option o []) idle.opened ∙ append-nil (opened_links log);
  links = known-more recording log e ∙ ap (λ ks. known recording log ++ ks) (idle.known recording log) ∙ append-nil (known recording log);
  named = named-more log e ∙ idle.named (named_since log);
  read = λ link. bytes-idle got_bytes link log e idle.got;
  open_is = λ link. is_open-idle link log e idle.open_is;
  told = λ link. step-idle told_step false link log e idle.told;
  blocked = λ link. step-idle blocked_step false link log e idle.blocked;
  wrote = λ link. wrote-idle link log e idle.woke idle.wrote;
}

pub alike-none : (recording : List RecordEntry) (log : Log) → Alike recording log log
alike-none recording log = record { woke = refl; accepted = λ port. refl; opened = refl; links = refl; named = refl; read = λ link. refl; open_is = λ link. refl; told = λ link. refl; blocked = λ link. refl; wrote = λ link. refl }

pub alike-then : (recording : List RecordEntry) (a b c : Log) → Alike recording a b → Alike recording b c → Alike recording a c
alike-then recording a b c p q = record {
  woke = q.woke ∙ p.woke;
  accepted = λ port. q.accepted port ∙ p.accepted port;
  opened = q.opened ∙ p.opened;
  links = q.links ∙ p.links;
  named = q.named ∙ p.named;
  read = λ link. q.read link ∙ p.read link;
  open_is = λ link. q.open_is link ∙ p.open_is link;
  told = λ link. q.told link ∙ p.told link;
  blocked = λ link. q.blocked link ∙ p.blocked link;
  wrote = λ link. q.wrote link ∙ p.wrote link;
}

idle-mark : (e : Entry) → IsMark e → IsIdle e
idle-mark (entry.Exec link) mark = record { woke = refl; accepted = λ port. refl; opened = refl; known = λ recording log. refl; named = λ links. refl; got = refl; open_is = λ was. refl; told = λ was. refl; blocked = λ was. refl; wrote = refl }
idle-mark (entry.Drop link) mark = record { woke = refl; accepted = λ port. refl; opened = refl; known = λ recording log. refl; named = λ links. refl; got = refl; open_is = λ was. refl; told = λ was. refl; blocked = λ was. refl; wrote = refl }
idle-mark _ mark = absurd mark

pub alike-marks : (recording : List RecordEntry) (log marks : Log) → AreMarks marks → Alike recording log (log ++ marks)
alike-marks recording log [] are = subst (Alike recording log) (sym (append-nil log)) (alike-none recording log)
alike-marks recording log (e ∷ marks) are =
    subst (Alike recording log) (append_assoc log (e ∷ []) marks)
    (alike-then recording log (log ++ e ∷ []) ((log ++ e ∷ []) ++ marks) (alike-idle recording log e (idle-mark e are.0)) (alike-marks recording (log ++ e ∷ []) marks are.1))

pub opens-same : (log : Log) (e : Entry) → is_open_call e ≡ false → opens (log ++ e ∷ []) ≡ opens log
opens-same log e other = opens-more log e ∙ ap (λ b. opens log + length (if b then e ∷ [] else [])) other ∙ add-zero (opens log)

no-open : (e : Entry) → IsMark e → is_open_call e ≡ false
no-open (entry.Exec link) mark = refl
no-open (entry.Drop link) mark = refl
no-open _ mark = absurd mark

pub opens-marks : (log marks : Log) → AreMarks marks → opens (log ++ marks) ≡ opens log
opens-marks log marks are = quiet opens (λ before e mark. opens-same before e (no-open e mark)) log marks are

mark-is : (e : Entry) → IsMark e → is_mark e ≡ true
mark-is (entry.Exec link) mark = refl
mark-is (entry.Drop link) mark = refl
mark-is _ mark = absurd mark

pub just-marks : (log marks : Log) → AreMarks marks → just_opened (log ++ marks) ≡ just_opened log
just-marks log [] are = ap just_opened (append-nil log)
just-marks log (e ∷ marks) are = ap just_opened (sym (append_assoc log (e ∷ []) marks)) ∙ just-marks (log ++ e ∷ []) marks are.1 ∙ just-more log e ∙ ap (λ b. if b then just_opened log else opened_link e) (mark-is e are.0)

pub last-marks : (log marks : Log) → AreMarks marks → last_marks (log ++ marks) ≡ last_marks log ++ marks
last-marks log [] are = ap last_marks (append-nil log) ∙ sym (append-nil (last_marks log))
last-marks log (e ∷ marks) are =
    ap last_marks (sym (append_assoc log (e ∷ []) marks)) ∙ last-marks (log ++ e ∷ []) marks are.1
    ∙ ap (λ (l : Log). l ++ marks) (marks-more log e ∙ ap (λ b. if b then last_marks log ++ e ∷ [] else []) (mark-is e are.0))
    ∙ append_assoc (last_marks log) (e ∷ []) marks
