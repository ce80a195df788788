-- Commands for prepared statements, as they are read.
use Rattle.std.specs.Prelude.{◌≡◌, ℕ, false, List, Option, Some, None, Result, Ok, Err}
use Rattle.std.proofs.Common.{refl, sym, subst}
use Rattle.mx_base.specs.Fields.{number_at}
use Rattle.command_parse.specs.Meaning as meaning
use Rattle.command_parse.specs.Meaning.{Meaning}
use Rattle.command_parse.specs.Whole.{close_of, execute_by, execute_of, fetch_of, long_data_of, numbered, of_known, reset_of}
use Rattle.command_parse.specs.declared.fault.CommandFault.{CommandFault}
use Rattle.command_parse.specs.declared.fault.CommandFault.TheVariants as fault
use Rattle.command_parse.specs.declared.statement.Known.{Known}
use Rattle.message_judge.proofs.Commands.{Faulty, IsRead, IsSilent, Whole, is_unknown, is_whole, long-silent, numbered-none, numbered-some, reads}

-- Some the router answers itself, and an execute is one.

abbrev pub IsUnsent : Result Meaning CommandFault → Type 0
IsUnsent (Err why) = Unit {0}
IsUnsent (Ok (meaning.LongData id parameter bytes)) = Unit {0}
IsUnsent (Ok (meaning.Close id)) = Unit {0}
IsUnsent (Ok (meaning.ResetStmt id)) = Unit {0}
IsUnsent (Ok (meaning.Fetch id)) = Unit {0}
IsUnsent (Ok _) = ⊥

abbrev pub IsRunOnly : Result Meaning CommandFault → Type 0
IsRunOnly (Err why) = Unit {0}
IsRunOnly (Ok (meaning.Execute id types nulls values)) = Unit {0}
IsRunOnly (Ok _) = ⊥

by-number : (fact : Result Meaning CommandFault → Type 0) (payload : List ℕ) (command : ℕ → Result Meaning CommandFault) → fact (Err (fault.Short 1))
    → ((id : ℕ) → fact (command id)) → fact (numbered payload command)
by-number fact payload command short each = by (number_at 4 1 payload) refl where
  by : (number : Option ℕ) → number_at 4 1 payload ≡ number → fact (numbered payload command)
  by None is = subst fact (sym (numbered-none payload command is)) short
  by (Some id) is = subst fact (sym (numbered-some payload command id is)) (each id)

pub close-unsent : (payload : List ℕ) → IsUnsent (close_of payload)
close-unsent payload = by-number IsUnsent payload (λ id. Ok (meaning.Close id)) tt (λ id. tt)

pub fetch-unsent : (payload : List ℕ) → IsUnsent (fetch_of payload)
fetch-unsent payload = by-number IsUnsent payload (λ id. Ok (meaning.Fetch id)) tt (λ id. tt)

pub reset-unsent : (known : Option Known) (payload : List ℕ) → IsUnsent (reset_of known payload)
reset-unsent None payload = by-number IsUnsent payload (λ id. of_known id None (λ k. Ok (meaning.ResetStmt id))) tt (λ id. tt)
reset-unsent (Some known) payload = by-number IsUnsent payload (λ id. of_known id (Some known) (λ k. Ok (meaning.ResetStmt id))) tt (λ id. tt)

pub long-unsent : (payload : List ℕ) → IsUnsent (long_data_of payload)
long-unsent payload = by (long_data_of payload) (long-silent payload) where
  by : (read : Result Meaning CommandFault) → IsSilent read → IsUnsent read
  by (Ok (meaning.LongData id parameter bytes)) is = tt
  by (Err why) is = tt
  by (Ok _) is = absurd is

pub execute-runs : (known : Option Known) (payload : List ℕ) → IsRunOnly (execute_of known payload)
execute-runs None payload = by-number IsRunOnly payload (λ id. of_known id None (execute_by payload id)) tt (λ id. tt)
execute-runs (Some known) payload =
    by-number IsRunOnly payload (λ id. of_known id (Some known) (execute_by payload id)) tt (λ id. by id (reads id known payload)) where
      by : (id : ℕ) → IsRead id (execute_by payload id known) (is_whole known payload) → IsRunOnly (execute_by payload id known)
      by id is = elim is as (λ read whole q. IsRunOnly read) [
        | Whole types nulls values ↦ tt
        | Faulty why other ↦ tt
      ]

-- of what is known
abbrev pub IsReadKnown : Result Meaning CommandFault → Type 0
IsReadKnown (Err why) = is_unknown why ≡ false
IsReadKnown (Ok (meaning.Execute id types nulls values)) = Unit {0}
IsReadKnown (Ok (meaning.ResetStmt id)) = Unit {0}
IsReadKnown (Ok _) = ⊥

pub execute-known : (known : Known) (payload : List ℕ) → IsReadKnown (execute_of (Some known) payload)
execute-known known payload =
    by-number IsReadKnown payload (λ id. of_known id (Some known) (execute_by payload id)) refl (λ id. by id (reads id known payload)) where
      by : (id : ℕ) → IsRead id (execute_by payload id known) (is_whole known payload) → IsReadKnown (execute_by payload id known)
      by id is = elim is as (λ read whole q. IsReadKnown read) [
        | Whole types nulls values ↦ tt
        | Faulty why other ↦ other
      ]

pub reset-known : (known : Known) (payload : List ℕ) → IsReadKnown (reset_of (Some known) payload)
reset-known known payload = by-number IsReadKnown payload (λ id. of_known id (Some known) (λ k. Ok (meaning.ResetStmt id))) refl (λ id. tt)
