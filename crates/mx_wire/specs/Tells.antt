-- How a call of a wire adds to the log.
use Rattle.std.specs.Prelude.{◌≡◌, ℕ, ◌+◌, ◌<◌, ◌≤◌, Bool, true, nat_lt, List, [], ◌∷◌, ◌++◌, All, length, Option, Some, None}
use Rattle.std.specs.List.{list_all}
use Rattle.mx_base.specs.declared.names.LinkId.{LinkId}
use Rattle.mx_wire.specs.Log.{Log, AreMarks, of_link, link_of, is_open, moment_of}
use Rattle.mx_wire.specs.declared.entry.Entry.{Entry}
use Rattle.mx_wire.specs.declared.entry.Entry.TheVariants.{Woke, Accepted, Opened, Got, ReadNothing, Ended, ReadFailed, Wrote, WriteNothing, WriteFailed, Closed}

-- no entry names the link yet
abbrev pub IsNew : LinkId → Log → Type 0
IsNew link log = of_link link log ≡ []

abbrev pub IsOpen : LinkId → Log → Type 0
IsOpen link log = is_open link log ≡ true

pub record IsSaltByte (byte : ℕ) : Type 0 where
  pub from : 1 ≤ byte
  pub to : byte ≤ 127

pub record IsSalt (salt : List ℕ) : Type 0 where
  pub size : length salt ≡ 20
  pub bytes : All IsSaltByte salt

pub record MayAccept (log : Log) (link : LinkId) (salt : List ℕ) : Type 0 where
  pub fresh : IsNew link log
  pub salted : IsSalt salt

-- one read has at least one byte, and at most 65,536
pub record MayRead (log : Log) (link : LinkId) (bytes : List ℕ) : Type 0 where
  pub opened : IsOpen link log
  pub some : 0 < length bytes
  pub most : length bytes ≤ 65536

pub record MayWrite (log : Log) (link : LinkId) (bytes : List ℕ) : Type 0 where
  pub opened : IsOpen link log
  pub some : 0 < length bytes

-- the links that a log names have numbers below this

abbrev pub link_below : ℕ → Option LinkId → Bool
link_below next None = true
link_below next (Some link) = nat_lt link.0 next

abbrev pub all_below : ℕ → Log → Bool
all_below next log = list_all (λ e. link_below next (link_of e)) log

pub record MayOpen (log : Log) (link : LinkId) : Type 0 where
  pub fresh : IsNew link log
  pub above : all_below link.0 log ≡ true

-- moments never fall, a link that comes is new, one that is opened has a greater number than all before, and calls name open links alone
abbrev pub Fits : Log → Entry → Type 0
Fits log (Woke until_ms now_ms) = moment_of log ≤ now_ms
Fits log (Accepted port link salt) = MayAccept log link salt
Fits log (Opened server address link) = MayOpen log link
Fits log (Got link bytes) = MayRead log link bytes
Fits log (ReadNothing link) = IsOpen link log
Fits log (Ended link) = IsOpen link log
Fits log (ReadFailed link) = IsOpen link log
Fits log (Wrote link tag bytes) = MayWrite log link bytes
Fits log (WriteNothing link) = IsOpen link log
Fits log (WriteFailed link) = IsOpen link log
Fits log (Closed link) = IsOpen link log
Fits log _ = Unit {0}

-- a told log has fewer than 2^48 entries
pub record MayFollow (log : Log) (entry : Entry) : Type 0 where
  pub bounded : length log + 1 < 281474976710656
  pub fits : Fits log entry

-- the log is the one before it, then marks, then this entry
pub record Appends (old : Log) (entry : Entry) (new : Log) : Type 0 where
  pub marks : Log
  pub only_marks : AreMarks marks
  pub lawful : MayFollow (old ++ marks) entry
  pub is : new ≡ old ++ marks ++ entry ∷ []

-- Where the log is told now it was told before, and the call has added its entry.
pub record Tells (old : Option Log) (entry : Entry) (new : Option Log) : Type 0 where
  pub appended : (log : Log) → new ≡ Some log → (before : Log) × (old ≡ Some before) × Appends before entry log

-- the link is open, where the log is told
pub record OpenFor (told : Option Log) (link : LinkId) : Type 0 where
  pub holds : (log : Log) → told ≡ Some log → IsOpen link log

-- A count of failures doesn't fall, and it rises where the call failed.
pub record HasCause (failed : Type 0) (before now : ℕ) : Type 0 where
  pub later : before ≤ now
  pub rose : failed → before < now
