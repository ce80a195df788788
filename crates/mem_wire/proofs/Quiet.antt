-- What marks leave as it is.
use Rattle.std.proofs.Common.{◌≡◌, Bool, false, if◌then◌else◌, [], ◌∷◌, ◌++◌, refl, sym, ◌∙◌, ap, append_assoc, append-nil, inl, inr}
use Rattle.mx_base.specs.declared.names.LinkId.{LinkId}
use Rattle.mx_wire.specs.Log.{Log, link_of, is_link, of_link, is_open, open_step, moment_of, AreMarks, IsMark, written_of, wrote_bytes}
use Rattle.mem_wire.specs.Came.{is_woke, since_wake}
use Rattle.mem_wire.specs.CameLaws.{since-more}
use Rattle.std.specs.Prelude.{fold}
use Rattle.mx_wire.specs.Growth.{bool_cases, step-same, step-other, moment_of-more, bytes-idle}
use Rattle.mx_wire.specs.declared.entry.Entry.{Entry}
use Rattle.mx_wire.specs.declared.entry.Entry.TheVariants.{Exec, Drop}

-- what no mark changes, marks don't change
pub quiet : {X : Type 0} (f : Log → X) → ((log : Log) (e : Entry) → IsMark e → f (log ++ e ∷ []) ≡ f log) → (log marks : Log) → AreMarks marks → f (log ++ marks) ≡ f log
quiet f one log [] are = ap f (append-nil log)
quiet f one log (e ∷ marks) are = ap f (sym (append_assoc log (e ∷ []) marks)) ∙ quiet f one (log ++ e ∷ []) marks are.1 ∙ one log e are.0

open_step-mark : (was : Bool) (e : Entry) → IsMark e → open_step was e ≡ was
open_step-mark was (Exec link) mark = refl
open_step-mark was (Drop link) mark = refl
open_step-mark was _ mark = absurd mark

-- an entry that a fold over the entries of a link doesn't look at
pub step-idle : (step : Bool → Entry → Bool) (start : Bool) (link : LinkId) (log : Log) (e : Entry) → ((was : Bool) → step was e ≡ was) → fold step start (of_link link (log ++ e ∷ [])) ≡ fold step start (of_link link log)
step-idle step start link log e idle = elim (bool_cases (is_link link (link_of e))) [
  | inl here ↦ step-same step start link log e here ∙ idle (fold step start (of_link link log))
  | inr other ↦ step-other step start link log e other
]

pub is_open-idle : (link : LinkId) (log : Log) (e : Entry) → ((was : Bool) → open_step was e ≡ was) → is_open link (log ++ e ∷ []) ≡ is_open link log
is_open-idle link log e idle = step-idle open_step false link log e idle

-- the entries since the last wake, with one that wakes nobody
pub since-next : (log : Log) (e : Entry) → is_woke e ≡ false → since_wake (log ++ e ∷ []) ≡ since_wake log ++ e ∷ []
since-next log e still = since-more log e ∙ ap (λ b. if b then [] else since_wake log ++ e ∷ []) still

pub wrote-idle : (link : LinkId) (log : Log) (e : Entry) → is_woke e ≡ false → wrote_bytes e ≡ [] → written_of link (since_wake (log ++ e ∷ [])) ≡ written_of link (since_wake log)
wrote-idle link log e still nothing = ap (written_of link) (since-next log e still) ∙ bytes-idle wrote_bytes link (since_wake log) e nothing

pub is_open-marks : (link : LinkId) (log marks : Log) → AreMarks marks → is_open link (log ++ marks) ≡ is_open link log
is_open-marks link log marks are = quiet (is_open link) (λ before e mark. is_open-idle link before e (λ was. open_step-mark was e mark)) log marks are

moment-mark : (log : Log) (e : Entry) → IsMark e → moment_of (log ++ e ∷ []) ≡ moment_of log
moment-mark log (Exec link) mark = moment_of-more log (Exec link)
moment-mark log (Drop link) mark = moment_of-more log (Drop link)
moment-mark log _ mark = absurd mark

pub moment-marks : (log marks : Log) → AreMarks marks → moment_of (log ++ marks) ≡ moment_of log
moment-marks log marks are = quiet moment_of moment-mark log marks are
