-- How a loop ends.
use Rattle.std.proofs.Common.{◌≡◌, ◌≤◌, ◌++◌, ℕ, Bool, false, Option, Some, None, Result, Ok, Err, is_ok, arith, refl, sym, subst, ◌∙◌, inl, inr}
use Rattle.mx_wire.specs.Log.{Log, AreMarks, link_of}
use Rattle.mx_wire.specs.Tells.{Tells}
use Rattle.mx_wire.specs.declared.entry.Entry.{Entry}
use Rattle.ready_loop.specs.Round.{wake_step, wakes_of, round_step}
use Rattle.ready_loop.proofs.Counting.{unnamed}
use Rattle.mx_base.specs.declared.names.LinkId.{LinkId}
use Rattle.ready_loop.specs.Drained.{DrainedFor}
use Rattle.mx_base.specs.Sent.{Sent}
use Rattle.ready_loop.specs.Machine.{StandsFor}
use Rattle.ready_loop.specs.Serving.{TracksFor, WokeFor, EndsWith, StoodFor, BusyFor, SpentFor, EndsSo, Ends, Breaks}
use Rattle.ready_loop.specs.declared.table.Table.{Table}
use Rattle.ready_loop.specs.declared.ends.ServeEnd.{ServeEnd}
use Rattle.ready_loop.specs.declared.ends.ServeEnd.TheVariants as ended
use Rattle.std.specs.Result.{IsErrAnd, OnOk, OnErr, IfErr}

-- the entry of a call is the last one
pub ends_with : (P : Entry → Type 0) (old new : Option Log) (e : Entry) → Tells old e new → P e → EndsWith P new
ends_with P old new e tells holds = record { last = λ log is. let call = tells.appended log is in (call.0 ++ call.2.marks, (e, holds, call.2.is)) }

-- a call that doesn't wake adds none to the waits that were counted
pub woke_on : (table : Table) (told now : Option Log) (e : Entry) → TracksFor table told → Tells told e now → link_of e ≡ None → wake_step table.round.wakes e ≡ table.round.wakes → WokeFor table.round.wakes now
woke_on table told now e held tells names same = record {
  holds = λ log is.
      let after : TracksFor (record table { round = round_step table.round e }) now = unnamed table (record table { round = round_step table.round e }) told now e names refl (λ l. refl) held tells in
      let counted : wakes_of log ≡ table.round.wakes = sym (after.holds log is).round.wakes ∙ same in
      omega arith;
}

-- Memory was refused by the answer of a call, or after it.

pub stood_before : {M S : Type 0} (stands : M → Log → Type 0) (wanted : M → Log → Entry → Type 0) (service : M → S) (machine core : M) (old new : Option Log) (e : Entry) → ((log marks : Log) → old ≡ Some log → AreMarks marks → wanted machine (log ++ marks) e) → StandsFor stands machine old → Tells old e new → service machine ≡ service core → StoodFor stands wanted service core new
stood_before stands wanted service machine core old new e wants held tells same = record {
  holds = λ log is.
      let call = tells.appended log is in
      record {
        machine = machine;
        serves_by = same;
        before = call.0;
        stood = held.holds call.0 call.1;
        but = inr (record {
          marks = call.2.marks;
          only_marks = call.2.only_marks;
          last = e;
          is_wanted = wants call.0 call.2.marks call.1 call.2.only_marks;
          follows = call.2.lawful;
          is = call.2.is;
        });
      };
}

pub stood_now : {M S : Type 0} (stands : M → Log → Type 0) (wanted : M → Log → Entry → Type 0) (service : M → S) (machine : M) (told : Option Log) → StandsFor stands machine told → StoodFor stands wanted service machine told
stood_now stands wanted service machine told held = record { holds = λ log is. record { machine = machine; serves_by = refl; before = log; stood = held.holds log is; but = inl refl } }

pub on_err : {A E : Type 0} (r : Result A E) (P : Type 0) → P → OnErr r P
on_err (Ok done) P holds = tt
on_err (Err given) P holds = holds

-- one result is Ok where the other is
pub on_ok : {A B E F : Type 0} (r : Result A E) (s : Result B F) (P Q : Type 0) → is_ok s ≡ is_ok r → OnOk r P → (P → Q) → OnOk s Q
on_ok (Ok a) (Ok b) P Q same held more = more held
on_ok (Ok a) (Err b) P Q same held more = tt
on_ok (Err a) (Ok b) P Q same held more = cc
on_ok (Err a) (Err b) P Q same held more = tt

pub on_err_more : {A E : Type 0} (r : Result A E) (P Q : Type 0) → OnErr r P → (P → Q) → OnErr r Q
on_err_more (Ok a) P Q held more = tt
on_err_more (Err e) P Q held more = more held

pub both : {A E : Type 0} (r : Result A E) (P Q : Type 0) → OnOk r P → OnOk r Q → OnOk r (P × Q)
both (Ok a) P Q first second = (first, second)
both (Err e) P Q first second = tt

-- so ends a loop whose memory was refused
pub refused : {M S A : Type 0} (stands : M → Log → Type 0) (wanted : M → Log → Entry → Type 0) (service : M → S) (is_stopped : M → Bool) (wakes : ℕ) (core : M) (told : Option Log) (before now : ℕ) (r : Result A ServeEnd) → IfErr r (λ end. end ≡ ended.OutOfMemory) → StoodFor stands wanted service core told → IfErr r (Breaks stands wanted service is_stopped wakes core told before now)
refused stands wanted service is_stopped wakes core told before now (Ok a) is stood = tt
refused stands wanted service is_stopped wakes core told before now (Err end) is stood = subst (Breaks stands wanted service is_stopped wakes core told before now) (sym is) (record { ends = stood; rose = λ fault. cc })

pub broke : {M S A : Type 0} (stands : M → Log → Type 0) (wanted : M → Log → Entry → Type 0) (service : M → S) (is_stopped : M → Bool) (wakes : ℕ) (core : M) (told : Option Log) (before now : ℕ) (r : Result A ServeEnd) → IsErrAnd r (λ end. end ≡ ended.OutOfMemory) → StoodFor stands wanted service core told → IfErr r (Breaks stands wanted service is_stopped wakes core told before now)
broke stands wanted service is_stopped wakes core told before now (Ok a) is stood = tt
broke stands wanted service is_stopped wakes core told before now (Err end) is stood = subst (Breaks stands wanted service is_stopped wakes core told before now) (sym is) (record { ends = stood; rose = λ fault. cc })

-- A loop ends as its last step ended, and no more waits woke than were asked for.

woke-most : (fewer most : ℕ) (told : Option Log) → fewer ≤ most → WokeFor fewer told → WokeFor most told
woke-most fewer most told less woke = record { holds = λ log is. let few = woke.holds log is in omega arith }

pub ends_so : {M S : Type 0} (stands : M → Log → Type 0) (wanted : M → Log → Entry → Type 0) (service : M → S) (is_stopped : M → Bool) (wakes turns : ℕ) (reads : LinkId → Bool) (sends : LinkId → Option Sent) (core : M) (told : Option Log) (end : ServeEnd)
    → wakes ≤ turns → Ends stands wanted service is_stopped wakes BusyFor core told end → Ends stands wanted service is_stopped turns (SpentFor turns reads sends) core told end
ends_so stands wanted service is_stopped wakes turns reads sends core told ended.Stopped less ends = record { standing = ends.standing; halted = ends.halted; woke = woke-most wakes turns told less ends.woke; so = tt }
ends_so stands wanted service is_stopped wakes turns reads sends core told ended.Over less ends = record { standing = ends.standing; halted = ends.halted; woke = woke-most wakes turns told less ends.woke; so = ends.so }
ends_so stands wanted service is_stopped wakes turns reads sends core told ended.ListenFault less ends = record { standing = ends.standing; halted = ends.halted; woke = woke-most wakes turns told less ends.woke; so = ends.so }
ends_so stands wanted service is_stopped wakes turns reads sends core told ended.TurnsSpent less ends = record { standing = ends.standing; halted = ends.halted; woke = woke-most wakes turns told less ends.woke; so = record { holds = λ log is. inr (ends.so.holds log is) } }
ends_so stands wanted service is_stopped wakes turns reads sends core told ended.OutOfMemory less ends = ends

-- a loop that made all its turns
pub turns_made : {M : Type 0} (stands : M → Log → Type 0) (is : Bool) (turns : ℕ) (reads : LinkId → Bool) (sends : LinkId → Option Sent) (core : M) (told : Option Log) (table : Table)
    → StandsFor stands core told → TracksFor table told → is ≡ false → DrainedFor reads sends told → table.round.wakes ≡ turns → EndsSo stands turns core told is false (SpentFor turns reads sends)
turns_made stands is turns reads sends core told table held tracks going drained made = record {
  standing = held;
  halted = going;
  woke = record { holds = λ log at. let same = counted log at in omega arith };
  so = record { holds = λ log at. inl (record { woke = counted log at; drained = drained.holds log at }) };
} where
  counted : (log : Log) → told ≡ Some log → wakes_of log ≡ turns
  counted log at = sym (tracks.holds log at).round.wakes ∙ made
