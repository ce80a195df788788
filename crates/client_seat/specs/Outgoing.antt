-- What is to be written to a client.
use Rattle.std.specs.Prelude.{ℕ, List, [], ◌++◌, drop}

-- bytes that are due, and behind them what came so far of a reply that isn't whole
pub record Outgoing : Type 0 where
  pub due : List ℕ
  pub coming : List ℕ

-- bytes are due, in place of what came of a reply
abbrev pub said : List ℕ → Outgoing → Outgoing
said bytes outgoing = record { due = outgoing.due ++ bytes; coming = [] }

abbrev pub forgotten : Outgoing → Outgoing
forgotten outgoing = record { due = outgoing.due; coming = [] }

-- a reply goes on, and is whole
abbrev pub comes : List ℕ → Outgoing → Outgoing
comes bytes outgoing = record { due = outgoing.due; coming = outgoing.coming ++ bytes }

abbrev pub came : Outgoing → Outgoing
came outgoing = record { due = outgoing.due ++ outgoing.coming; coming = [] }

-- so many bytes were written
abbrev pub went : ℕ → Outgoing → Outgoing
went n outgoing = record { due = drop n outgoing.due; coming = outgoing.coming }
