-- The first byte of a message, and an execute by its bytes.
use Rattle.std.specs.Prelude.{◌≡◌, ℕ, zero, suc, ◌<◌, ◌≤◌, ◌+◌, ◌*◌, ◌/◌, Bool, true, false, not, ◌&&◌, is_none, is_some, nat_eq, nat_le, nat_lt, length, drop, slice_index, slice_index_or, slice_range, take, List, [], ◌∷◌, Option, Some, None, Result, Ok, Err, if◌then◌else◌}
use Rattle.std.specs.Option.{option_or}
use Rattle.std.proofs.Common.{refl, sym, ap, subst, ◌∙◌, arith}
use Rattle.std.proofs.Math.Seq.{drop-cons}
use Rattle.mx_base.specs.Fields.{number_at}
use Rattle.command_parse.specs.Meaning.{Meaning, Execute, LongData}
use Rattle.command_parse.specs.Whole.{execute_by, executed, bound_anew, bound_before, long_data_of, numbered, nulls_end, types_end}
use Rattle.command_parse.specs.declared.fault.CommandFault.{CommandFault}
use Rattle.command_parse.specs.declared.fault.CommandFault.TheVariants as fault
use Rattle.command_parse.specs.declared.statement.Known.{Known}
use Rattle.private_model.specs.Commands.{Args}
use Rattle.log_story.specs.Executes.{given_in, typed}
use Rattle.router_promises.specs.Statements.{execute_size}

-- it is this byte, or isn't
pub split : {A : Type 0} (byte k : ℕ) → (byte ≡ k → A) → (nat_eq byte k ≡ false → A) → A
split {A} byte k equal other = by (nat_eq byte k) refl
  where
    by : (b : Bool) → nat_eq byte k ≡ b → A
    by true is = equal (search arith)
    by false is = other is

pub numbered-none : (payload : List ℕ) (command : ℕ → Result Meaning CommandFault) → number_at 4 1 payload ≡ None → numbered payload command ≡ Err (fault.Short 1)
numbered-none payload command is = rw is refl

pub numbered-some : (payload : List ℕ) (command : ℕ → Result Meaning CommandFault) (number : ℕ) → number_at 4 1 payload ≡ Some number
    → numbered payload command ≡ command number
numbered-some payload command number is = rw is refl

-- no fault of a statement that isn't there
abbrev pub is_unknown : CommandFault → Bool
is_unknown (fault.UnknownStatement id) = true
is_unknown _ = false

-- An execute is read exactly where it is whole.
pub data IsRead (id : ℕ) : Result Meaning CommandFault → (whole : Bool) → Type 0 where
  Whole : (types : Option (List ℕ)) (nulls values : List ℕ) → IsRead id (Ok (Execute id types nulls values)) true
  Faulty : (why : CommandFault) → is_unknown why ≡ false → IsRead id (Err why) false

abbrev pub is_whole : (known : Known) (payload : List ℕ) → Bool
is_whole known payload =
    nat_le (execute_size known.params payload) (length payload)
    && not (not (nat_eq known.params 0) && (is_none (given_in known.params payload).types && not known.bound))

-- at least the bytes before the NULLs
size-least : (params : ℕ) (payload : List ℕ) → 10 ≤ execute_size params payload
size-least params payload = by (nat_eq params 0)
  where
    by : (none : Bool)
        → 10 ≤ (if none then 10 else 11 + (params + 7) / 8 + (if nat_eq (slice_index_or payload (10 + (params + 7) / 8) 0) 1 then 2 * params else 0))
    by true = search arith
    by false = search arith

too-short : (known : Known) (payload : List ℕ) → length payload < execute_size known.params payload → is_whole known payload ≡ false
too-short known payload short =
    let no : nat_le (execute_size known.params payload) (length payload) ≡ false = search arith in
    rw no refl

fits : (known : Known) (payload : List ℕ) → execute_size known.params payload ≤ length payload
    → is_whole known payload ≡ not (not (nat_eq known.params 0) && (is_none (given_in known.params payload).types && not known.bound))
fits known payload enough =
    let yes : nat_le (execute_size known.params payload) (length payload) ≡ true = search arith in
    rw yes refl

-- the bytes behind the NULLs: whether types come
behind : (known : Known) (payload : List ℕ) → nulls_end known < length payload
    → drop (nulls_end known) payload ≡ slice_index_or payload (nulls_end known) 0 ∷ drop (suc (nulls_end known)) payload
behind known payload within = drop-cons payload (nulls_end known) 0 within

typed-types : (params sends : ℕ) (nulls rest : List ℕ) → is_none (typed params nulls (sends ∷ rest)).types ≡ not (nat_eq sends 1)
typed-types params sends nulls rest = by (nat_eq sends 1)
  where
    anew : Args
    anew = record { types = Some (take (2 * params) rest); nulls = nulls; values = drop (2 * params) rest; long = [] }

    before : Args
    before = record { types = None; nulls = nulls; values = rest; long = [] }

    by : (sent : Bool) → is_none (if◌then◌else◌ {A = Args} sent anew before).types ≡ not sent
    by true = refl
    by false = refl

apart : (more : ℕ) → nat_eq (suc more) 0 ≡ false
apart more = search arith

types-sent : (more : ℕ) (bound : Bool) (payload : List ℕ) → 10 + (suc more + 7) / 8 < length payload
    → is_none (given_in (suc more) payload).types ≡ not (nat_eq (slice_index_or payload (10 + (suc more + 7) / 8) 0) 1)
types-sent more bound payload within =
    rw (behind (record { params = suc more; bound = bound }) payload within)
    (typed-types (suc more) (slice_index_or payload (10 + (suc more + 7) / 8) 0) (take ((suc more + 7) / 8) (drop 10 payload)) (drop (suc (10 + (suc more + 7) / 8)) payload))

-- where types come, and where they were bound before
reads-behind : (id more : ℕ) (bound : Bool) (payload : List ℕ) → 10 + (suc more + 7) / 8 < length payload
    → (anew : Bool) → nat_eq (slice_index_or payload (10 + (suc more + 7) / 8) 0) 1 ≡ anew
    → IsRead id (if anew then bound_anew id (record { params = suc more; bound = bound }) payload else bound_before id (record { params = suc more; bound = bound }) payload)
    (is_whole (record { params = suc more; bound = bound }) payload)
reads-behind id more bound payload within true is = by (nat_lt (length payload) (types_end known)) refl
  where
    known : Known
    known = record { params = suc more; bound = bound }

    size-is : execute_size (suc more) payload ≡ 11 + (suc more + 7) / 8 + 2 * suc more
    size-is = rw (apart more, is) (search arith)

    by : (short : Bool) → nat_lt (length payload) (types_end known) ≡ short
        → IsRead id (if short then Err (fault.Short (nulls_end known + 1))
        else Ok (Execute id (Some (slice_range payload (nulls_end known + 1) (types_end known))) (slice_range payload 10 (nulls_end known)) (drop (types_end known) payload)))
        (is_whole known payload)
    by true short = subst (IsRead id (Err (fault.Short (nulls_end known + 1)))) (sym (too-short known payload (rw size-is (search arith)))) (Faulty _ refl)
    by false enough = subst (IsRead id _) (sym (fits known payload (rw size-is (search arith)) ∙ (rw (apart more, types-sent more bound payload within, is) refl))) (Whole _ _ _)
reads-behind id more bound payload within false is = by bound
  where
    size-is : execute_size (suc more) payload ≡ 11 + (suc more + 7) / 8
    size-is = rw (apart more, is) (search arith)

    by : (b : Bool)
        → IsRead id (bound_before id (record { params = suc more; bound = b }) payload) (is_whole (record { params = suc more; bound = b }) payload)
    by true = subst (IsRead id _) (sym (fits (record { params = suc more; bound = true }) payload (rw size-is (search arith)) ∙ (rw (apart more, types-sent more true payload within, is) refl))) (Whole _ _ _)
    by false = subst (IsRead id _) (sym (fits (record { params = suc more; bound = false }) payload (rw size-is (search arith)) ∙ (rw (apart more, types-sent more false payload within, is) refl))) (Faulty _ refl)

reads-bound : (id more : ℕ) (bound : Bool) (payload : List ℕ)
    → IsRead id (executed id (record { params = suc more; bound = bound }) payload) (is_whole (record { params = suc more; bound = bound }) payload)
reads-bound id more bound payload = by (nat_lt (length payload) (nulls_end known)) refl
  where
    known : Known
    known = record { params = suc more; bound = bound }

    least : 11 + (suc more + 7) / 8 ≤ execute_size (suc more) payload
    least = rw (apart more) (longer (nat_eq (slice_index_or payload (10 + (suc more + 7) / 8) 0) 1))
      where
        longer : (anew : Bool) → 11 + (suc more + 7) / 8 ≤ 11 + (suc more + 7) / 8 + (if anew then 2 * suc more else 0)
        longer true = search arith
        longer false = search arith

    at-end : (ends : Bool) → nat_eq (length payload) (nulls_end known) ≡ ends → nat_lt (length payload) (nulls_end known) ≡ false
        → IsRead id (if ends then Err (fault.Short (nulls_end known))
        else if nat_eq (slice_index payload (nulls_end known)) 1 then bound_anew id known payload else bound_before id known payload)
        (is_whole known payload)
    at-end true ends within = subst (IsRead id _) (sym (too-short known payload (search arith))) (Faulty _ refl)
    at-end false ends within = reads-behind id more bound payload (search arith) (nat_eq (slice_index_or payload (nulls_end known) 0) 1) refl

    by : (short : Bool) → nat_lt (length payload) (nulls_end known) ≡ short
        → IsRead id (if short then Err (fault.Short 10) else if nat_eq (length payload) (nulls_end known) then Err (fault.Short (nulls_end known))
        else if nat_eq (slice_index payload (nulls_end known)) 1 then bound_anew id known payload else bound_before id known payload)
        (is_whole known payload)
    by true short = subst (IsRead id _) (sym (too-short known payload (search arith))) (Faulty _ refl)
    by false within = at-end (nat_eq (length payload) (nulls_end known)) refl within

pub reads : (id : ℕ) (known : Known) (payload : List ℕ) → IsRead id (execute_by payload id known) (is_whole known payload)
reads id known payload = by (nat_lt (length payload) 6) refl
  where
    at-params : (params : ℕ) (bound : Bool) → nat_lt (length payload) 10 ≡ false
        → IsRead id (if nat_eq params 0 then Ok (Execute id None [] []) else executed id (record { params = params; bound = bound }) payload)
        (is_whole (record { params = params; bound = bound }) payload)
    at-params zero bound long = subst (IsRead id _) (sym (fits (record { params = 0; bound = bound }) payload (search arith))) (Whole _ _ _)
    at-params (suc more) bound long =
        let known : Known = record { params = suc more; bound = bound } in
        subst (λ (none : Bool). IsRead id (if◌then◌else◌ {A = Result Meaning CommandFault} none (Ok (Execute id None [] [])) (executed id known payload)) (is_whole known payload))
        (sym (apart more)) (reads-bound id more bound payload)

    at-ten : (short : Bool) → nat_lt (length payload) 10 ≡ short
        → IsRead id (if short then Err (fault.Short 6) else if nat_eq known.params 0 then Ok (Execute id None [] []) else executed id known payload) (is_whole known payload)
    at-ten true short =
        let least : 10 ≤ execute_size known.params payload = size-least known.params payload in
        subst (IsRead id _) (sym (too-short known payload (search arith))) (Faulty _ refl)
    at-ten false long = at-params known.params known.bound long

    by : (short : Bool) → nat_lt (length payload) 6 ≡ short
        → IsRead id (if short then Err (fault.Short 5) else if nat_lt (length payload) 10 then Err (fault.Short 6)
        else if nat_eq known.params 0 then Ok (Execute id None [] []) else executed id known payload) (is_whole known payload)
    by true short =
        let least : 10 ≤ execute_size known.params payload = size-least known.params payload in
        subst (IsRead id _) (sym (too-short known payload (search arith))) (Faulty _ refl)
    by false long = at-ten (nat_lt (length payload) 10) refl

-- what a part of long data is read as: itself, or a fault of its bytes

abbrev pub IsSilent : Result Meaning CommandFault → Type 0
IsSilent (Ok (LongData id parameter bytes)) = Unit {0}
IsSilent (Err (fault.UnknownStatement id)) = ⊥
IsSilent (Err why) = Unit {0}
IsSilent _ = ⊥

pub long-silent : (payload : List ℕ) → IsSilent (long_data_of payload)
long-silent payload = by (number_at 4 1 payload) refl
  where
    part : (id : ℕ) → number_at 4 1 payload ≡ Some id → (parameter : Option ℕ) → number_at 2 5 payload ≡ parameter → IsSilent (long_data_of payload)
    part id is None at = rw (is, at) tt
    part id is (Some parameter) at = rw (is, at) tt

    by : (number : Option ℕ) → number_at 4 1 payload ≡ number → IsSilent (long_data_of payload)
    by None is = rw is tt
    by (Some id) is = part id is (number_at 2 5 payload) refl
