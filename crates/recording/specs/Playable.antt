-- Which lines make a recording that can be played.
use Rattle.std.specs.Prelude.{◌≡◌, ℕ, ◌+◌, ◌<◌, ◌≤◌, List, [], ◌∷◌, length}
use Rattle.mx_wire.specs.Tells.{IsSalt}
use Rattle.recording.specs.declared.entry.RecordLink.{RecordLink}
use Rattle.recording.specs.declared.entry.RecordLink.TheVariants.{Client, Server}
use Rattle.recording.specs.declared.entry.RecordEntry.{RecordEntry}
use Rattle.recording.specs.declared.entry.RecordEntry.TheVariants.{At, Accept, Bytes, End, Fail, Take, Refuse, Exec, Drop}

-- a line speaks of a client behind its `accept` line alone, and of any server
abbrev pub IsNumbered : ℕ → RecordLink → Type 0
IsNumbered clients (Client n) = (1 ≤ n) × (n ≤ clients)
IsNumbered clients (Server k) = 1 ≤ k

-- The lines behind this moment and so many `accept` lines: moments don't fall, `accept` lines count on, and each
-- has its salt.
abbrev pub PlayableAfter : ℕ → ℕ → List RecordEntry → Type 0
PlayableAfter moment clients [] = Unit {0}
PlayableAfter moment clients (At ms ∷ later) = (moment ≤ ms) × PlayableAfter ms clients later
PlayableAfter moment clients (Accept n port salt ∷ later) = (n ≡ clients + 1) × IsSalt salt × PlayableAfter moment (clients + 1) later
PlayableAfter moment clients (Bytes link bytes ∷ later) = IsNumbered clients link × (0 < length bytes) × PlayableAfter moment clients later
PlayableAfter moment clients (Exec k ∷ later) = (1 ≤ k) × PlayableAfter moment clients later
PlayableAfter moment clients (Refuse k ∷ later) = PlayableAfter moment clients later
PlayableAfter moment clients (Drop k ∷ later) = (1 ≤ k) × PlayableAfter moment clients later
PlayableAfter moment clients (End link ∷ later) = IsNumbered clients link × PlayableAfter moment clients later
PlayableAfter moment clients (Fail link ∷ later) = IsNumbered clients link × PlayableAfter moment clients later
PlayableAfter moment clients (Take link n ∷ later) = IsNumbered clients link × PlayableAfter moment clients later

abbrev pub BeginsAtMoment : List RecordEntry → Type 0
BeginsAtMoment [] = Unit {0}
BeginsAtMoment (At ms ∷ later) = Unit {0}
BeginsAtMoment (_ ∷ later) = ⊥

pub record IsPlayable (recording : List RecordEntry) : Type 0 where
  pub begins : BeginsAtMoment recording
  pub lines : PlayableAfter 0 0 recording
