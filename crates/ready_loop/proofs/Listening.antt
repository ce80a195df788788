-- The loop listens first of all, and nowhere else.
use Rattle.std.proofs.Common.{◌≡◌, ℕ, true, [], ◌∷◌, ◌++◌, Option, Some, refl, sym, ◌∙◌, ap, subst, append_assoc, append-nil}
use Rattle.std.proofs.lemmas.List.Elements.{filter-append}
use Rattle.mx_base.specs.declared.names.Port.TheVariants as port
use Rattle.mx_base.specs.declared.names.Address.{Address}
use Rattle.mx_wire.specs.Log.{Log, IsMark, AreMarks}
use Rattle.mx_wire.specs.Moments.{AllLawful, lawful-more}
use Rattle.mx_wire.specs.Tells.{Tells}
use Rattle.mx_wire.specs.declared.entry.Entry.{Entry}
use Rattle.mx_wire.specs.declared.entry.Entry.TheVariants as entry
use Rattle.ready_loop.specs.Serving.{is_call, calls_of, IsListening, ListeningFor, ListensBefore, ListensFirst}

calls-append : (xs ys : Log) → calls_of (xs ++ ys) ≡ calls_of xs ++ calls_of ys
calls-append xs ys = filter-append is_call xs ys

-- marks are no calls
calls-marks : (marks : Log) → AreMarks marks → calls_of marks ≡ []
calls-marks [] all = refl
calls-marks (entry.Exec link ∷ marks) all = calls-marks marks all.1
calls-marks (entry.Drop link ∷ marks) all = calls-marks marks all.1
calls-marks (_ ∷ marks) all = absurd all.0

calls-behind : (log marks : Log) → AreMarks marks → calls_of (log ++ marks) ≡ calls_of log
calls-behind log marks all = calls-append log marks ∙ ap (λ (l : Log). calls_of log ++ l) (calls-marks marks all) ∙ append-nil (calls_of log)

-- the calls of a log, with a call more
calls-more : (before marks log : Log) (e : Entry) → AreMarks marks → is_call e ≡ true → log ≡ before ++ marks ++ e ∷ [] → calls_of log ≡ calls_of before ++ e ∷ []
calls-more before marks log e all call is =
    let one : calls_of (e ∷ []) ≡ e ∷ [] = rw call refl in
    ap calls_of is ∙ calls-append (before ++ marks) (e ∷ []) ∙ ap (λ (l : Log). l ++ calls_of (e ∷ [])) (calls-behind before marks all)
    ∙ ap (λ (l : Log). calls_of before ++ l) one

-- a log that listened goes on so
listening-on : (traffic admin : Address) (log more : Log) → IsListening traffic admin log → IsListening traffic admin (log ++ more)
listening-on traffic admin log more was = (was.0 ++ calls_of more, calls-append log more ∙ ap (λ (l : Log). l ++ calls_of more) was.1)

-- the entry is no answer of `listen`
abbrev pub IsNoListen : Entry → Type 0
IsNoListen (entry.Listening at address) = ⊥
IsNoListen (entry.ListenFailed at) = ⊥
IsNoListen _ = Unit {0}

-- what comes once the loop has listened
after-listening : (traffic admin : Address) (log : Log) (e : Entry) → IsListening traffic admin log → IsNoListen e → ListensBefore traffic admin log e
after-listening traffic admin log (entry.Listening at address) listened not = absurd not
after-listening traffic admin log (entry.ListenFailed at) listened not = absurd not
after-listening traffic admin log (entry.Exec link) listened not = tt
after-listening traffic admin log (entry.Drop link) listened not = tt
after-listening traffic admin log _ listened not = listened

mark-listens-not : (traffic admin : Address) (log : Log) (e : Entry) → IsMark e → ListensBefore traffic admin log e
mark-listens-not traffic admin log (entry.Exec link) mark = tt
mark-listens-not traffic admin log (entry.Drop link) mark = tt
mark-listens-not traffic admin log _ mark = absurd mark

marks-listen-not : (traffic admin : Address) (log marks : Log) → AreMarks marks → AllLawful (ListensBefore traffic admin) log → AllLawful (ListensBefore traffic admin) (log ++ marks)
marks-listen-not traffic admin log [] all was = subst (AllLawful (ListensBefore traffic admin)) (sym (append-nil log)) was
marks-listen-not traffic admin log (e ∷ marks) all was =
    subst (AllLawful (ListensBefore traffic admin)) (append_assoc log (e ∷ []) marks)
    (marks-listen-not traffic admin (log ++ e ∷ []) marks all.1 (lawful-more (ListensBefore traffic admin) log e was (mark-listens-not traffic admin log e all.0)))

-- a call that comes in its place
call-listens : (traffic admin : Address) (old new : Option Log) (e : Entry) → ListensFirst traffic admin old → Tells old e new
    → ((log marks : Log) → old ≡ Some log → AreMarks marks → ListensBefore traffic admin (log ++ marks) e) → ListensFirst traffic admin new
call-listens traffic admin old new e before tells so = record {
  holds = λ log is.
      let call = tells.appended log is in
      let marks = call.2.marks in
      subst (AllLawful (ListensBefore traffic admin)) (sym call.2.is)
      (lawful-more (ListensBefore traffic admin) (call.0 ++ marks) e (marks-listen-not traffic admin call.0 marks call.2.only_marks (before.holds call.0 call.1))
      (so call.0 marks call.1 call.2.only_marks));
}

pub listens-fresh : (traffic admin : Address) (told : Option Log) → ((log : Log) → told ≡ Some log → log ≡ []) → ListensFirst traffic admin told
listens-fresh traffic admin told fresh = record { holds = λ log is. subst (AllLawful (ListensBefore traffic admin)) (sym (fresh log is)) tt }

-- The two calls of `listen`, on a wire of which no call was made.
module _ (traffic admin : Address) (first : Option Log) (fresh : (log : Log) → first ≡ Some log → log ≡ []) where
  none-before : (log marks : Log) → first ≡ Some log → AreMarks marks → calls_of (log ++ marks) ≡ []
  none-before log marks is all = calls-behind log marks all ∙ ap calls_of (fresh log is)

  pub first-failed : (second : Option Log) → Tells first (entry.ListenFailed port.Traffic) second → ListensFirst traffic admin second
  first-failed second failed = call-listens traffic admin first second (entry.ListenFailed port.Traffic) (listens-fresh traffic admin first fresh) failed none-before

  module _ (second : Option Log) (one : Tells first (entry.Listening port.Traffic traffic) second) where
    first-done : ListensFirst traffic admin second
    first-done = call-listens traffic admin first second (entry.Listening port.Traffic traffic) (listens-fresh traffic admin first fresh) one
        (λ log marks is all. (none-before log marks is all, refl))

    one-call : (log : Log) → second ≡ Some log → calls_of log ≡ entry.Listening port.Traffic traffic ∷ []
    one-call log is =
        let call = one.appended log is in
        calls-more call.0 call.2.marks log (entry.Listening port.Traffic traffic) call.2.only_marks refl call.2.is
        ∙ ap (λ (l : Log). calls_of l ++ entry.Listening port.Traffic traffic ∷ []) (fresh call.0 call.1)

    one-before : (log marks : Log) → second ≡ Some log → AreMarks marks → calls_of (log ++ marks) ≡ entry.Listening port.Traffic traffic ∷ []
    one-before log marks is all = calls-behind log marks all ∙ one-call log is

    pub second-failed : (third : Option Log) → Tells second (entry.ListenFailed port.Admin) third → ListensFirst traffic admin third
    second-failed third failed = call-listens traffic admin second third (entry.ListenFailed port.Admin) first-done failed one-before

    pub both-done : (third : Option Log) → Tells second (entry.Listening port.Admin admin) third → ListeningFor traffic admin third
    both-done third two = record {
      first = call-listens traffic admin second third (entry.Listening port.Admin admin) first-done two (λ log marks is all. (one-before log marks is all, refl));
      done = λ log is.
          let call = two.appended log is in (
            [],
            calls-more call.0 call.2.marks log (entry.Listening port.Admin admin) call.2.only_marks refl call.2.is
                ∙ ap (λ (l : Log). l ++ entry.Listening port.Admin admin ∷ []) (one-call call.0 call.1),
          );
    }

-- a call behind both that is none of them
pub listens-on : (traffic admin : Address) (old new : Option Log) (e : Entry) → Tells old e new → IsNoListen e → ListeningFor traffic admin old → ListeningFor traffic admin new
listens-on traffic admin old new e tells not was = record {
  first = call-listens traffic admin old new e was.first tells (λ log marks is all. after-listening traffic admin (log ++ marks) e (listening-on traffic admin log marks (was.done log is)) not);
  done = λ log is.
      let call = tells.appended log is in
      subst (IsListening traffic admin) (sym call.2.is)
      (listening-on traffic admin (call.0 ++ call.2.marks) (e ∷ []) (listening-on traffic admin call.0 call.2.marks (was.done call.0 call.1)));
}
