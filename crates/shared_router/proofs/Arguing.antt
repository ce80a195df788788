-- The arguments of an execute that is whole are those of a statement with its parameters, where what came of its client isn't too long.
use Rattle.std.specs.Prelude.{◌≡◌, ◌<◌, ◌≤◌, ◌+◌, ◌*◌, ◌/◌, ℕ, suc, Bool, true, false, drop, length, nat_eq, nat_le, slice_index_or, if◌then◌else◌, List, [], ◌∷◌, ◌++◌, Option, Some, None}
use Rattle.std.proofs.Common.{refl, sym, ap, ◌∙◌, subst, arith, length-append, length-drop}
use Rattle.std.proofs.lemmas.Bool.{eqb-true, leb-true, ne_eqb}
use Rattle.packet_frame.specs.Packets.{Framed}
use Rattle.private_model.specs.Commands.{Args}
use Rattle.session_vars.specs.declared.long_part.LongPart.{LongPart}
use Rattle.log_story.specs.Executes.{Bound, args_in, bound_after, bound_by, longer}
use Rattle.run_laws.proofs.Binding.{after_any, bound_none, bound_parts}
use Rattle.run_laws.proofs.Binding.{args_whole as all_whole}
use Rattle.run_laws.specs.Wholes.{AreShort, AreWhole, limit}
use Rattle.router_promises.specs.Statements.{are_types, execute_size}

isnt : {A : Type 0} → false ≡ true → A
isnt is = absurd (cc)

-- How long they are in all.

abbrev pub weight : List Framed → ℕ
weight [] = 0
weight (message ∷ others) = length message.payload + weight others

abbrev total : List LongPart → ℕ
total [] = 0
total (part ∷ parts) = length part.bytes + total parts

longer_total : (parameter : ℕ) (bytes : List ℕ) (parts : List LongPart) → total (longer parameter bytes parts) ≡ total parts + length bytes
longer_total parameter bytes [] = omega arith
longer_total parameter bytes (part ∷ parts) = by_test (nat_eq part.parameter parameter) (longer_total parameter bytes parts) where
  by_test : (b : Bool) → total (longer parameter bytes parts) ≡ total parts + length bytes
      → total (if b then record part { bytes = part.bytes ++ bytes } ∷ parts else part ∷ longer parameter bytes parts) ≡ length part.bytes + total parts + length bytes
  by_test true rest = (let both = length-append part.bytes bytes in omega (arith, both))
  by_test false rest = omega (arith, rest)

each_short : (parts : List LongPart) → 7 + total parts ≤ limit → AreShort parts
each_short [] fits = tt
each_short (part ∷ parts) fits = (omega (arith, fits), each_short parts (omega (arith, fits)))

module _ (params number : ℕ) (refused : ℕ → Bool) where
  bound_total : (i : ℕ) (ms : List Framed) (bound : Bound) → total (bound_by params number refused i ms bound).long ≤ total bound.long + weight ms
  bound_total i [] bound = omega arith
  bound_total i (message ∷ others) bound =
      let next : Bound = bound_after params number (refused i) message.payload bound in
      let rest = bound_total (suc i) others next in
      let one : total next.long ≤ total bound.long + length message.payload =
      after_any (λ (b : Bound). total b.long ≤ total bound.long + length message.payload) params number (refused i) message.payload bound (omega arith)
      (λ parameter there.
      let more = longer_total parameter (drop 7 message.payload) bound.long in
      let less = length-drop 7 message.payload in omega (arith, more, less))
      (omega arith) (omega arith) in
      omega (arith, rest, one)

pub types_there : (params : ℕ) (o : Option (List ℕ)) → are_types params o ≡ true → (types : List ℕ) × ((o ≡ Some types) × (length types ≡ 2 * params))
types_there params None is = isnt is
types_there params (Some types) is = (types, (refl, eqb-true (length types) (2 * params) is))

if_size : (n m : ℕ) (b : Bool) (size : ℕ) → n + (if b then m else 0) ≤ size → n ≤ size
if_size n m true size fits = omega (arith, fits)
if_size n m false size fits = omega (arith, fits)

-- the byte behind the NULLs is there
pub long_enough : (params : ℕ) (payload : List ℕ) → 0 < params → execute_size params payload ≤ length payload → 11 + (params + 7) / 8 ≤ length payload
long_enough params payload some fits =
    if_size (11 + (params + 7) / 8) (2 * params) (nat_eq (slice_index_or payload (10 + (params + 7) / 8) 0) 1) (length payload)
    (subst (λ b. (if b then 10 else 11 + (params + 7) / 8 + (if nat_eq (slice_index_or payload (10 + (params + 7) / 8) 0) 1 then 2 * params else 0)) ≤ length payload)
    (ne_eqb params 0 (λ e. omega (arith, e, some))) fits)

abbrev unbound : Bound
unbound = record { types = None; long = [] }

module _ (number : ℕ) (refused : ℕ → Bool) (unprepared : ℕ) (before : List Framed) (payload : List ℕ) where
  abbrev args_for : ℕ → Args
  args_for params = args_in params number refused unprepared before payload

  abbrev bound_for : ℕ → Bound
  bound_for params = bound_by params number refused (suc unprepared) (drop unprepared before) unbound

  pub args_whole : (params : ℕ) → params < 65536 → nat_le (execute_size params payload) (length payload) ≡ true
      → (0 < params → are_types params (args_for params).types ≡ true)
      → weight (drop unprepared before) ≤ 18446744073709551616 → length payload ≤ 18446744073709551616 → AreWhole params (args_for params)
  args_whole params few whole types light short =
      all_whole params (bound_for params) payload few (bound_parts params number refused (suc unprepared) (drop unprepared before) unbound tt)
      (each_short (bound_for params).long (let all = bound_total params number refused (suc unprepared) (drop unprepared before) unbound in omega (arith, all, light)))
      (λ none. subst (λ (n : ℕ). (bound_for n).types ≡ None) (sym none) (bound_none number refused (suc unprepared) (drop unprepared before) unbound refl))
      (λ some. long_enough params payload some (leb-true (execute_size params payload) (length payload) whole))
      (λ some. types_there params (args_for params).types (types some)) short
