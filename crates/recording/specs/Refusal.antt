-- What a reader answered, beside what there is to read.
use Rattle.std.specs.Prelude.{◌≡◌, ℕ, Result, Ok, Err}
use Rattle.recording.specs.Recording.{fault_at}
use Rattle.recording.specs.declared.fault.Kind.{Kind}
use Rattle.recording.specs.declared.fault.LineRefusal.{LineRefusal}
use Rattle.recording.specs.declared.fault.LineRefusal.TheVariants as line
use Rattle.recording.specs.declared.fault.RecordFault.{RecordFault}
use Rattle.recording.specs.declared.fault.RecordRefusal.{RecordRefusal}
use Rattle.recording.specs.declared.fault.RecordRefusal.TheVariants as whole

-- unless memory was refused, a line's refusal is its kind of fault
abbrev pub Refuses : {X : Type 0} → LineRefusal → Result X Kind → Type 0
Refuses (line.Kind kind) said = said ≡ Err kind
Refuses line.OutOfMemory said = Unit {0}

abbrev pub Gives : {X : Type 0} → Result X LineRefusal → Result X Kind → Type 0
Gives (Ok x) said = said ≡ Ok x
Gives (Err refusal) said = Refuses refusal said

-- unless memory was refused, a recording's refusal is its fault
abbrev pub Faults : {X : Type 0} → RecordRefusal → Result X RecordFault → Type 0
Faults (whole.Fault fault) said = said ≡ Err fault
Faults whole.OutOfMemory said = Unit {0}

-- what the refusal of the line of this number makes of the recording
abbrev pub refused_at : ℕ → LineRefusal → RecordRefusal
refused_at number (line.Kind kind) = whole.Fault (fault_at number kind)
refused_at number line.OutOfMemory = whole.OutOfMemory
