-- What is put behind a log that may be told.
use Rattle.std.specs.Prelude.{◌≡◌, ◌<◌, ◌++◌, [], ◌∷◌, length, Option, Some, None}
use Rattle.std.proofs.Common.{◌∙◌, ap, append_assoc}
use Rattle.mx_wire.specs.Log.{Log}
use Rattle.mx_wire.specs.declared.entry.Entry.{Entry}

-- where the log is told now it was told before, and has these entries more
pub record Adds (old : Option Log) (more : Log) (new : Option Log) : Type 0 where
  pub told : (log : Log) → new ≡ Some log → (before : Log) × (old ≡ Some before) × (log ≡ before ++ more)

pub record IsBounded (told : Option Log) : Type 0 where
  pub below : (log : Log) → told ≡ Some log → length log < 281474976710656

-- one entry more
pub record AddsOne (old : Option Log) (e : Entry) (new : Option Log) : Type 0 where
  pub adds : Adds old (e ∷ []) new
  pub bounded : IsBounded new

-- the same, where there was memory for the entry, or else the log is told no more
abbrev pub AddsIf : Option Log → Option Entry → Option Log → Type 0
AddsIf old (Some e) new = AddsOne old e new
AddsIf old None new = new ≡ None

pub adds-append : (old mid new : Option Log) (a b : Log) → Adds old a mid → Adds mid b new → Adds old (a ++ b) new
adds-append old mid new a b first next = record {
  told = λ log told.
      let late = next.told log told in
      let early = first.told late.0 late.1 in
      (early.0, early.1, late.2 ∙ ap (λ (front : Log). front ++ b) early.2 ∙ append_assoc early.0 a b);
}
