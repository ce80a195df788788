-- What a call adds to a log that is told.
use Rattle.std.proofs.Common.{◌≡◌, ◌<◌, ◌+◌, List, [], ◌∷◌, ◌++◌, length, Option, Some, None, refl, sym, ◌∙◌, ap, subst, append_assoc, arith, length-append}
use Rattle.std.specs.Prelude.{IfSome}
use Rattle.mx_wire.specs.Log.{Log, AreMarks}
use Rattle.mx_wire.specs.Tells.{Tells, Fits}
use Rattle.mx_wire.specs.declared.entry.Entry.{Entry}
use Rattle.recording.specs.declared.entry.RecordEntry.{RecordEntry}
use Rattle.mem_wire.specs.declared.stage.Stage.{Stage}
use Rattle.mx_wire.specs.Adds.{Adds, AddsIf, IsBounded, adds-append}
use Rattle.mem_wire.specs.Adds.{Calls, CallsIf}
use Rattle.mem_wire.specs.Steps.{IsWithin}
use Rattle.mem_wire.specs.Follows.{Follows, IsTape}

pub tells : (old : Option Log) (marks : Log) (e : Entry) (new : Option Log) → Calls old marks e new → AreMarks marks → ((log : Log) → old ≡ Some log → Fits (log ++ marks) e) → Tells old e new
tells old marks e new call are fits = record {
  appended = λ log is.
      let added = call.adds.told log is in
      let size : length (added.0 ++ (marks ++ e ∷ [])) ≡ length log = ap length (sym added.2) in
      let parts : length (added.0 ++ (marks ++ e ∷ [])) ≡ length (added.0 ++ marks) + 1 = ap length (sym (append_assoc added.0 marks (e ∷ []))) ∙ length-append (added.0 ++ marks) (e ∷ []) in
      let most : length log < 281474976710656 = call.bounded.below log is in (
        added.0,
        added.1,
        record {
          marks = marks;
          only_marks = are;
          lawful = record { bounded = omega arith; fits = fits added.0 added.1 };
          is = added.2 ∙ sym (append_assoc added.0 marks (e ∷ []));
        },
      );
}

-- the stage follows the log that the call leaves
pub goes_on : (recording : List RecordEntry) (old new : Stage) (before after : Option Log) (marks : Log) (e : Entry) → IsTape recording old before → IsWithin recording new → Calls before marks e after → ((log : Log) → before ≡ Some log → Follows recording old log → Follows recording new ((log ++ marks) ++ e ∷ [])) → IsTape recording new after
goes_on recording old new before after marks e tape within call follows = record {
  within = within;
  follows = λ log is.
      let added = call.adds.told log is in
      subst (Follows recording new) (append_assoc added.0 marks (e ∷ []) ∙ sym added.2) (follows added.0 added.1 (tape.follows added.0 added.1));
}

pub stops : (recording : List RecordEntry) (new : Stage) (after : Option Log) → IsWithin recording new → after ≡ None → IsTape recording new after
stops recording new after within none = record { within = within; follows = λ log is. absurd (let h : None ≡ Some log = sym none ∙ is in cc) }

pub stopped_tells : (old : Option Log) (e : Entry) (new : Option Log) → new ≡ None → Tells old e new
stopped_tells old e new none = record { appended = λ log is. absurd (let h : None ≡ Some log = sym none ∙ is in cc) }

-- the entry that is told, where there was memory for it
pub tells_if : (old : Option Log) (marks : Log) (told : Option Entry) (e : Entry) (new : Option Log) → CallsIf old marks told new → IfSome told (λ x. x ≡ e) → AreMarks marks → ((log : Log) → old ≡ Some log → Fits (log ++ marks) e) → Tells old e new
tells_if old marks (Some x) e new call is are fits = tells old marks e new (subst (λ (y : Entry). Calls old marks y new) is call) are fits
tells_if old marks None e new call is are fits = stopped_tells old e new call

pub goes_on_if : (recording : List RecordEntry) (old new : Stage) (before after : Option Log) (marks : Log) (told : Option Entry) (e : Entry) → IsTape recording old before → IsWithin recording new → CallsIf before marks told after → IfSome told (λ x. x ≡ e) → ((log : Log) → before ≡ Some log → Follows recording old log → Follows recording new ((log ++ marks) ++ e ∷ [])) → IsTape recording new after
goes_on_if recording old new before after marks (Some x) e tape within call is follows = goes_on recording old new before after marks e tape within (subst (λ (y : Entry). Calls before marks y after) is call) follows
goes_on_if recording old new before after marks None e tape within call is follows = stops recording new after within call

pub calls_in_parts : (told one two new : Option Log) (late more : Log) (e : Entry) → Adds told late one → Adds one more two → Adds two (e ∷ []) new → IsBounded new → Calls told (late ++ more) e new
calls_in_parts told one two new late more e first next last bounded = record {
  adds = adds-append told two new (late ++ more) (e ∷ []) (adds-append told one two late more first next) last;
  bounded = bounded;
}

-- marks, and an entry behind them
pub calls_after : (told mid new : Option Log) (marks : Log) (e : Entry) → Adds told marks mid → Adds mid (e ∷ []) new → IsBounded new → Calls told marks e new
calls_after told mid new marks e first last bounded = record { adds = adds-append told mid new marks (e ∷ []) first last; bounded = bounded }

pub calls_after_if : (told mid new : Option Log) (marks : Log) (given : Option Entry) → Adds told marks mid → AddsIf mid given new → CallsIf told marks given new
calls_after_if told mid new marks (Some e) first last = calls_after told mid new marks e first last.adds last.bounded
calls_after_if told mid new marks None first last = last

-- the log before the last entry, and which entry it is
pub record IsLast (old : Option Log) (marks : Log) (e : Entry) (before : Log) (last : Entry) : Type 0 where
  pub log : Log
  pub told : old ≡ Some log
  pub front : before ≡ log ++ marks
  pub same : e ≡ last

abbrev init : Log → Log
init [] = []
init (e ∷ []) = []
init (e ∷ f ∷ log) = e ∷ init (f ∷ log)

init-more : (log : Log) (e : Entry) → init (log ++ e ∷ []) ≡ log
init-more [] e = refl
init-more (x ∷ []) e = refl
init-more (x ∷ y ∷ log) e = ap (λ (l : Log). x ∷ l) (init-more (y ∷ log) e)

abbrev last-of : Entry → Log → Entry
last-of none [] = none
last-of none (e ∷ log) = last-of e log

last-more : (none : Entry) (log : Log) (e : Entry) → last-of none (log ++ e ∷ []) ≡ e
last-more none [] e = refl
last-more none (x ∷ log) e = last-more x log e

pub told-if : (old : Option Log) (marks : Log) (told : Option Entry) (e : Entry) (new : Option Log) (before : Log) (last : Entry) → CallsIf old marks told new → IfSome told (λ x. x ≡ e) → new ≡ Some (before ++ last ∷ []) → IsLast old marks e before last
told-if old marks None e new before last call same is = absurd (let h : None ≡ Some (before ++ last ∷ []) = sym call ∙ is in cc)
told-if old marks (Some x) e new before last call same is =
    let added = call.adds.told (before ++ last ∷ []) is in
    let parts : before ++ last ∷ [] ≡ (added.0 ++ marks) ++ x ∷ [] = added.2 ∙ sym (append_assoc added.0 marks (x ∷ [])) in
    record {
      log = added.0;
      told = added.1;
      front = sym (init-more before last) ∙ ap init parts ∙ init-more (added.0 ++ marks) x;
      same = sym same ∙ sym (last-more x (added.0 ++ marks) x) ∙ ap (last-of x) (sym parts) ∙ last-more x before last;
    }
