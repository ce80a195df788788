-- What is offered to writes, and what they take of it.
use Rattle.std.specs.Prelude.{◌≡◌, ℕ, List, [], ◌∷◌, ◌++◌, Option, Some}
use Rattle.mx_base.specs.declared.names.LinkId.{LinkId}
use Rattle.mx_base.specs.declared.tag.Tag.{Tag}
use Rattle.mx_wire.specs.Log.{Log}
use Rattle.mx_wire.specs.Moments.{AllLawful}
use Rattle.mx_wire.specs.declared.entry.Entry.{Entry}
use Rattle.mx_wire.specs.declared.entry.Entry.TheVariants.{Wrote}

-- where the last entry of the told log is a write on the link, it took of the piece what the rule says
pub record TakesBy (takes : Log → LinkId → (piece taken : List ℕ) → Type 0) (link : LinkId) (piece : List ℕ) (told : Option Log) : Type 0 where
  pub taken : (before : Log) (tag : Tag) (bytes : List ℕ) → told ≡ Some (before ++ Wrote link tag bytes ∷ []) → takes before link piece bytes

-- a piece that was owed to the link was offered to the write, which took of it what the rule says
pub record IsOffer (owes : Log → LinkId → (piece : List ℕ) → Type 0) (takes : Log → LinkId → (piece taken : List ℕ) → Type 0) (log : Log) (link : LinkId) (bytes : List ℕ) : Type 0 where
  pub piece : List ℕ
  pub owed : owes log link piece
  pub taken : takes log link piece bytes

abbrev pub Offers : (Log → LinkId → (piece : List ℕ) → Type 0) → (Log → LinkId → (piece taken : List ℕ) → Type 0) → Log → Entry → Type 0
Offers owes takes log (Wrote link tag bytes) = IsOffer owes takes log link bytes
Offers owes takes log _ = Unit {0}

-- so did each write of the log, where it is told
pub record HasOffered (owes : Log → LinkId → (piece : List ℕ) → Type 0) (takes : Log → LinkId → (piece taken : List ℕ) → Type 0) (told : Option Log) : Type 0 where
  pub holds : (log : Log) → told ≡ Some log → AllLawful (Offers owes takes) log
