-- What messages bind to a prepared statement, and that an execute with its own bytes and with what was bound has whole arguments.
use Rattle.std.specs.Prelude.{◌≡◌, ◌<◌, ◌≤◌, ◌+◌, ◌*◌, ◌-◌, ◌/◌, ℕ, zero, suc, Bool, true, false, ◌&&◌, not, drop, length, nat_eq, nat_lt, take, if◌then◌else◌, List, [], ◌∷◌, ◌++◌, Option, Some, None}
use Rattle.std.specs.Option.{option_map_or, option_or}
use Rattle.std.proofs.Common.{refl, ap, ◌∙◌, arith, length-append, length-drop}
use Rattle.std.proofs.lemmas.List.{length-take-le}
use Rattle.mx_base.specs.Fields.{number_at}
use Rattle.packet_frame.specs.Packets.{Framed}
use Rattle.private_model.specs.Commands.{Args}
use Rattle.session_vars.specs.declared.long_part.LongPart.{LongPart}
use Rattle.log_story.specs.Executes.{Bound, bound_after, bound_by, given_in, is_for, longer, typed, with_long}
use Rattle.log_story.specs.Plan.{com_execute, com_long_data, com_statement_reset}
use Rattle.link_state.specs.Spells.{args_bytes, types_bytes}
use Rattle.run_laws.specs.Wholes.{AreParts, AreShort, AreWhole, NotOf}

-- What a message binds: nothing, long data of a parameter that is there, or types, as long data are dropped.
pub after_any : (P : Bound → Type 0) (params number : ℕ) (refused : Bool) (payload : List ℕ) (bound : Bound) → P bound
    → ((parameter : ℕ) → nat_lt parameter params ≡ true → P (record bound { long = longer parameter (drop 7 payload) bound.long })) → P (record bound { long = [] })
    → P (record { types = option_or (given_in params payload).types bound.types; long = [] }) → P (bound_after params number refused payload bound)
after_any P params number refused payload bound same longs resets binds =
    by_tests (is_for com_long_data number payload) (is_for com_statement_reset number payload) (is_for com_execute number payload && not refused)
  where
    by_less : (parameter : ℕ) (b : Bool) → nat_lt parameter params ≡ b → P (if b then record bound { long = longer parameter (drop 7 payload) bound.long } else bound)
    by_less parameter true there = longs parameter there
    by_less parameter false none = same

    by_number : (o : Option ℕ) → P (option_map_or (with_long params (drop 7 payload) bound) o bound)
    by_number None = same
    by_number (Some parameter) = by_less parameter (nat_lt parameter params) refl

    by_tests : (sends drops executes : Bool) → P (if sends then option_map_or (with_long params (drop 7 payload) bound) (number_at 2 5 payload) bound
        else if drops then record bound { long = [] }
        else if executes then record { types = option_or (given_in params payload).types bound.types; long = [] } else bound)
    by_tests true drops executes = by_number (number_at 2 5 payload)
    by_tests false true executes = resets
    by_tests false false true = binds
    by_tests false false false = same

-- Each part is of a parameter that is there, and of one alone.

apart_more : (parameter n : ℕ) (front : List ℕ) → NotOf parameter front → nat_eq n parameter ≡ false → NotOf parameter (front ++ n ∷ [])
apart_more parameter n [] apart other = (other, tt)
apart_more parameter n (m ∷ front) apart other = (apart.0, apart_more parameter n front apart.1 other)

longer_parts : (params parameter : ℕ) (bytes : List ℕ) (front : List ℕ) (parts : List LongPart) → nat_lt parameter params ≡ true → NotOf parameter front
    → AreParts params front parts → AreParts params front (longer parameter bytes parts)
longer_parts params parameter bytes front [] there apart are = (there, apart, tt)
longer_parts params parameter bytes front (part ∷ parts) there apart are =
    by_test (nat_eq part.parameter parameter) refl (longer_parts params parameter bytes (front ++ part.parameter ∷ []) parts there)
  where
    by_test : (b : Bool) → nat_eq part.parameter parameter ≡ b
        → (NotOf parameter (front ++ part.parameter ∷ []) → AreParts params (front ++ part.parameter ∷ []) parts
        → AreParts params (front ++ part.parameter ∷ []) (longer parameter bytes parts))
        → AreParts params front (if b then record part { bytes = part.bytes ++ bytes } ∷ parts else part ∷ longer parameter bytes parts)
    by_test true same later = (are.0, are.1, are.2)
    by_test false other later = (are.0, are.1, later (apart_more parameter part.parameter front apart other) are.2)

pub bound_parts : (params number : ℕ) (refused : ℕ → Bool) (i : ℕ) (ms : List Framed) (bound : Bound) → AreParts params [] bound.long
    → AreParts params [] (bound_by params number refused i ms bound).long
bound_parts params number refused i [] bound are = are
bound_parts params number refused i (message ∷ others) bound are =
    bound_parts params number refused (suc i) others (bound_after params number (refused i) message.payload bound)
    (after_any (λ (b : Bound). AreParts params [] b.long) params number (refused i) message.payload bound are
    (λ parameter there. longer_parts params parameter (drop 7 message.payload) [] bound.long there tt are) tt tt)

-- a statement without parameters is bound no types
pub bound_none : (number : ℕ) (refused : ℕ → Bool) (i : ℕ) (ms : List Framed) (bound : Bound) → bound.types ≡ None → (bound_by 0 number refused i ms bound).types ≡ None
bound_none number refused i [] bound none = none
bound_none number refused i (message ∷ others) bound none =
    bound_none number refused (suc i) others (bound_after 0 number (refused i) message.payload bound)
    (after_any (λ (b : Bound). b.types ≡ None) 0 number (refused i) message.payload bound none (λ parameter there. none) none none)

-- What an execute gives itself.

if_args : (P : Args → Type 0) (b : Bool) (x y : Args) → P x → P y → P (if b then x else y)
if_args P true x y one two = one
if_args P false x y one two = two

its_nulls : (params : ℕ) (nulls rest : List ℕ) → (typed params nulls rest).nulls ≡ nulls
its_nulls params nulls [] = refl
its_nulls params nulls (sends ∷ rest) =
    if_args (λ (a : Args). a.nulls ≡ nulls) (nat_eq sends 1) (record { types = Some (take (2 * params) rest); nulls = nulls; values = drop (2 * params) rest; long = [] })
    (record { types = None; nulls = nulls; values = rest; long = [] }) refl refl

its_values : (params : ℕ) (nulls rest : List ℕ) → length (typed params nulls rest).values ≤ length rest
its_values params nulls [] = omega arith
its_values params nulls (sends ∷ rest) =
    let less = length-drop (2 * params) rest in
    if_args (λ (a : Args). length a.values ≤ length (sends ∷ rest)) (nat_eq sends 1)
    (record { types = Some (take (2 * params) rest); nulls = nulls; values = drop (2 * params) rest; long = [] }) (record { types = None; nulls = nulls; values = rest; long = [] })
    (omega (arith, less)) (omega arith)

args_size : (nulls : List ℕ) (types : Option (List ℕ)) (values : List ℕ)
    → length (args_bytes nulls types values) ≤ length nulls + length (types_bytes types) + length values
args_size [] types values = omega arith
args_size (byte ∷ nulls) types values =
    let behind = length-append nulls (types_bytes types ++ values) in
    let both = length-append (types_bytes types) values in
    omega (arith, behind, both)

-- an execute with what was bound before
abbrev pub args_with : (params : ℕ) → Bound → (payload : List ℕ) → Args
args_with params bound payload =
    let sent = given_in params payload in
    record sent { types = option_or sent.types bound.types; long = bound.long }

-- types of so many parameters are there
abbrev pub HasTypes : (params : ℕ) → Option (List ℕ) → Type 0
HasTypes params found = (types : List ℕ) × ((found ≡ Some types) × (length types ≡ 2 * params))

pub args_whole : (params : ℕ) (bound : Bound) (payload : List ℕ) → params < 65536 → AreParts params [] bound.long → AreShort bound.long
    → (params ≡ 0 → bound.types ≡ None) → (0 < params → 11 + (params + 7) / 8 ≤ length payload)
    → (0 < params → HasTypes params (args_with params bound payload).types)
    → length payload ≤ 18446744073709551616 → AreWhole params (args_with params bound payload)
args_whole zero bound payload few parts shorts untyped long types short =
    record { few = few; given = (untyped refl, refl, refl); parts = parts; short = shorts; size = omega arith }
args_whole (suc more) bound payload few parts shorts untyped long types short =
    let params : ℕ = suc more in
    let size : ℕ = (suc more + 7) / 8 in
    let sent : Args = given_in params payload in
    let there = types (omega arith) in
    let enough : 11 + size ≤ length payload = long (omega arith) in
    let rest = length-drop 10 payload in
    let behind = length-drop (10 + size) payload in
    let nulls : length sent.nulls ≡ size =
    ap (λ (ns : List ℕ). length ns) (its_nulls params (take size (drop 10 payload)) (drop (10 + size) payload))
    ∙ length-take-le size (drop 10 payload) (omega (arith, rest, enough)) in
    let values = its_values params (take size (drop 10 payload)) (drop (10 + size) payload) in
    let all : Option (List ℕ) = (args_with params bound payload).types in
    let spelt = args_size sent.nulls all sent.values in
    let typed_size : length (types_bytes all) ≡ suc (2 * params) = ap (λ o. length (types_bytes o)) there.1.0 ∙ ap (λ n. suc n) there.1.1 in
    record {
      few = few;
      given = (there.0, (there.1.0, there.1.1, nulls));
      parts = parts;
      short = shorts;
      size = omega (arith, spelt, nulls, values, behind, typed_size, few, short, enough);
    }
