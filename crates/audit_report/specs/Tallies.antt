-- How many lines of a key there are, and where the first one is.
use Rattle.std.specs.Prelude.{◌≡◌, ℕ, ◌+◌, ◌-◌, ◌*◌, ◌^◌, ◌<◌, ◌≤◌, min, if◌then◌else◌, List, [], ◌∷◌, length, slice_index_or, IfOk, Option, Some, None, Result, Ok, Err}
use Rattle.std.specs.Fork.{slice_chunk}
use Rattle.indexmap.specs.IndexMap.{IndexMap, get}
use Rattle.mx_base.specs.declared.memory.OutOfMemory.{OutOfMemory}
use Rattle.query_rules.specs.declared.rule.Rule.{Rule}
use Rattle.audit_report.specs.declared.ask.AuditAsk.{AuditAsk}
use Rattle.audit_report.specs.declared.key.Key.{Key}
use Rattle.audit_report.specs.declared.row.ReportRow.{ReportRow}
use Rattle.audit_report.specs.declared.tally.Tally.{Tally}
use Rattle.audit_report.specs.Keys.{key_of, named, same_key}
use Rattle.audit_report.specs.Report.{hostgroup_of}

-- of lines, and of more lines behind them; a count stays at its last value
abbrev pub both : Option Tally → Option Tally → Option Tally
both None later = later
both (Some tally) None = Some tally
both (Some tally) (Some later) = Some (record { count = min (tally.count + later.count) (2 ^ 64 - 1); first = tally.first })

-- of lines that are all of one key
abbrev pub of_key : Key → Tally → (key : Key) → Option Tally
of_key own tally key = if same_key own key then Some tally else None

-- of lines from a place on
abbrev pub tally_of : Key → (place : ℕ) → (lines : List (List ℕ)) → Option Tally
tally_of key place [] = None
tally_of key place (line ∷ lines) = both (of_key (key_of line) (record { count = 1; first = place }) key) (tally_of key (place + 1) lines)

module _ {S : Type 0} where
  -- of a piece, if it was read
  abbrev pub tally_in : Key → Result (IndexMap Key Tally S) OutOfMemory → Option Tally
  tally_in key (Ok tallies) = get same_key tallies key
  tally_in key (Err refused) = None

  -- of pieces in order
  abbrev pub tally_over : Key → List (Result (IndexMap Key Tally S) OutOfMemory) → Option Tally
  tally_over key [] = None
  tally_over key (piece ∷ pieces) = both (tally_in key piece) (tally_over key pieces)

  -- each piece was read
  abbrev pub AllRead : List (Result (IndexMap Key Tally S) OutOfMemory) → Type 0
  AllRead [] = Unit {0}
  AllRead (Ok tallies ∷ pieces) = AllRead pieces
  AllRead (Err refused ∷ pieces) = ⊥

  -- the pieces of so many lines each, in order, were read as far as there was memory
  pub record IsPieces (lines : List (List ℕ)) (size : ℕ) (pieces : List (Result (IndexMap Key Tally S) OutOfMemory)) : Type 0 where
    pub all : length lines ≤ length pieces * size
    pub each : (n : ℕ) (d : Result (IndexMap Key Tally S) OutOfMemory) → n < length pieces
        → IfOk (slice_index_or pieces n d) (λ tallies. (key : Key) → get same_key tallies key ≡ tally_of key (n * size) (slice_chunk lines size n))

-- the row of a key with its tally
abbrev pub row_at : List Rule → AuditAsk → (lines : List (List ℕ)) → Key → Tally → ReportRow
row_at rules ask lines key tally = record {
  count = tally.count;
  class = named key.name;
  hostgroup = hostgroup_of rules ask (slice_index_or lines tally.first []);
  digest = key.digest;
}
