-- An execute reads as it is spelt: of a statement with so many parameters, these are its own arguments.
use Rattle.std.specs.Prelude.{All, ◌≡◌, ◌<◌, ◌≤◌, ◌+◌, ◌*◌, ◌/◌, ◌%◌, ℕ, zero, suc, Bool, true, false, ◌&&◌, not, drop, length, map, nat_eq, nat_lt, take, if◌then◌else◌, List, [], ◌∷◌, ◌++◌, Option, Some, None}
use Rattle.std.specs.List.{flat_map}
use Rattle.std.specs.Option.{option_map_or, option_or}
use Rattle.std.proofs.Common.{refl, sym, ap, ◌∙◌, subst, append_assoc, append-nil, arith}
use Rattle.std.proofs.Math.Seq.{drop-append-add, drop-append_seam, take-append_seam}
use Rattle.std.proofs.lemmas.Bool.{and_from, le-ltb, ltb-true}
use Rattle.mx_base.specs.Fields.{little_endian, number_at}
use Rattle.packet_frame.specs.Laws.{first_message-empty, split-nothing, split-whole}
use Rattle.packet_frame.specs.Packets.{Framed, Split, first_message, longest, spelling, split, with_front}
use Rattle.packet_frame.specs.RoundTrip.{first_message-again}
use Rattle.private_model.proofs.Maps.{same_number}
use Rattle.private_model.specs.Commands.{Args}
use Rattle.session_vars.specs.declared.long_part.LongPart.{LongPart}
use Rattle.log_story.specs.Executes.{Bound, bound_after, bound_by, given_in, is_for, longer, typed, with_long}
use Rattle.log_story.specs.Honest.{IsExecute}
use Rattle.log_story.specs.Plan.{com_execute, com_long_data, com_statement_reset, with_number}
use Rattle.link_state.specs.Spells.{args_bytes, execute_bytes, executes, types_bytes}
use Rattle.run_laws.specs.Wholes.{AreGiven, AreParts, AreShort, AreWhole, NotOf, limit}

abbrev Each : {A : Type 0} → (A → Type 0) → List A → Type 0
Each P [] = Unit {0}
Each P (x ∷ xs) = P x × Each P xs

each-all : {A : Type 0} (P : A → Type 0) (xs : List A) → Each P xs → All P xs
each-all P [] each k d within = absurd (omega (arith, within))
each-all P (x ∷ xs) each zero d within = each.0
each-all P (x ∷ xs) each (suc k) d within = each-all P xs each.1 k d (omega (arith, within))

-- what is spelt, as payloads

abbrev long_payload : (number : ℕ) → LongPart → List ℕ
long_payload number part = with_number com_long_data number ++ (part.parameter % 256 ∷ part.parameter / 256 % 256 ∷ part.bytes)

abbrev execute_payload : (number : ℕ) → Args → List ℕ
execute_payload number args = execute_bytes number args.nulls args.types args.values

split_empty : split limit 0 [] ≡ record { messages = []; rest = []; fault = None }
split_empty = split-nothing limit 0 [] (first_message-empty limit 0)

spelt_one : (payload : List ℕ) → length payload ≤ limit
    → split limit 0 (spelling 0 payload) ≡ record { messages = record { first = 0; last = (0 + length payload / longest) % 256; payload = payload } ∷ []; rest = []; fault = None }
spelt_one payload small =
    let again = first_message-again limit 0 payload [] (omega arith) small in
    split-whole limit 0 (spelling 0 payload) _ [] (ap (first_message limit 0) (sym (append-nil (spelling 0 payload))) ∙ again)
    ∙ ap (λ (s : Split). record { messages = record { first = 0; last = (0 + length payload / longest) % 256; payload = payload } ∷ s.messages; rest = s.rest; fault = s.fault }) split_empty

-- Numbers.

four_back : (n : ℕ) → n < 4294967296 → n % 256 + 256 * (n / 256 % 256 + 256 * (n / 65536 % 256 + 256 * (n / 16777216 % 256 + 256 * 0))) ≡ n
four_back n small =
    let two : n / 65536 ≡ n / 256 / 256 = omega arith in
    let three : n / 16777216 ≡ n / 65536 / 256 = omega arith in
    omega (arith, two, three, small)

two_back : (n : ℕ) → n < 65536 → n % 256 + 256 * (n / 256 % 256 + 256 * 0) ≡ n
two_back n small = omega (arith, small)

pub number_there : (byte number : ℕ) (rest : List ℕ) → number < 4294967296 → number_at 4 1 (with_number byte number ++ rest) ≡ Some number
number_there byte number rest small =
    ap (λ b. if b then None else Some (little_endian (number % 256 ∷ number / 256 % 256 ∷ number / 65536 % 256 ∷ number / 16777216 % 256 ∷ [])))
    (le-ltb (length (with_number byte number ++ rest)) 5 (omega arith))
    ∙ ap (λ n. Some n) (four_back number small)

for_it : (byte number : ℕ) (rest : List ℕ) → number < 4294967296 → is_for byte number (with_number byte number ++ rest) ≡ true
for_it byte number rest small =
    and_from (nat_eq byte byte) _ (same_number byte)
    (ap (λ o. option_map_or (λ n. nat_eq n number) o false) (number_there byte number rest small) ∙ same_number number)

parameter_there : (number : ℕ) (part : LongPart) → part.parameter < 65536 → number_at 2 5 (long_payload number part) ≡ Some part.parameter
parameter_there number part small =
    ap (λ b. if b then None else Some (little_endian (part.parameter % 256 ∷ part.parameter / 256 % 256 ∷ []))) (le-ltb (length (long_payload number part)) 7 (omega arith))
    ∙ ap (λ n. Some n) (two_back part.parameter small)

-- The messages of what is spelt.

abbrev framed : List ℕ → Framed
framed payload = record { first = 0; last = (0 + length payload / longest) % 256; payload = payload }

abbrev framed_part : (number : ℕ) → LongPart → Framed
framed_part number part = framed (long_payload number part)

abbrev spelt_part : (number : ℕ) → LongPart → List ℕ
spelt_part number part = spelling 0 (long_payload number part)

split_all : (number : ℕ) (parts : List LongPart) (last : List ℕ) → AreShort parts → length last ≤ limit
    → split limit 0 (flat_map (spelt_part number) parts ++ spelling 0 last) ≡ record { messages = map (framed_part number) parts ++ framed last ∷ []; rest = []; fault = None }
split_all number [] last short small = spelt_one last small
split_all number (part ∷ parts) last short small =
    let rest : List ℕ = flat_map (spelt_part number) parts ++ spelling 0 last in
    ap (split limit 0) (append_assoc (spelt_part number part) (flat_map (spelt_part number) parts) (spelling 0 last))
    ∙ split-whole limit 0 (spelt_part number part ++ rest) (framed_part number part) rest
    (first_message-again limit 0 (long_payload number part) rest (omega arith) (let few : 7 + length part.bytes ≤ limit = short.0 in omega (arith, few)))
    ∙ ap (λ (s : Split). with_front (framed_part number part ∷ []) s) (split_all number parts last short.1 small)

-- What long data bind.

abbrev params_of : List LongPart → List ℕ
params_of [] = []
params_of (part ∷ parts) = part.parameter ∷ params_of parts

params_more : (front : List LongPart) (part : LongPart) → params_of (front ++ part ∷ []) ≡ params_of front ++ part.parameter ∷ []
params_more [] part = refl
params_more (one ∷ front) part = ap (λ ns. one.parameter ∷ ns) (params_more front part)

longer_new : (part : LongPart) (front : List LongPart) → NotOf part.parameter (params_of front) → longer part.parameter part.bytes front ≡ front ++ part ∷ []
longer_new part [] apart = refl
longer_new part (one ∷ front) apart =
    ap (λ b. if b then record one { bytes = one.bytes ++ part.bytes } ∷ front else one ∷ longer part.parameter part.bytes front) apart.0
    ∙ ap (λ ps. one ∷ ps) (longer_new part front apart.1)

module _ (params number : ℕ) (few : params < 65536) (small : number < 4294967296) where
  abbrev none_refused : ℕ → Bool
  none_refused i = false

  abbrev binds : List LongPart → Bound
  binds parts = record { types = None; long = parts }

  -- what else a message may bind
  abbrev otherwise : LongPart → List LongPart → Bound
  otherwise part front =
      if is_for com_statement_reset number (long_payload number part) then record (binds front) { long = [] }
      else if is_for com_execute number (long_payload number part) && not false
      then record { types = option_or (given_in params (long_payload number part)).types (binds front).types; long = [] } else binds front

  part_binds : (part : LongPart) (front : List LongPart) → nat_lt part.parameter params ≡ true → NotOf part.parameter (params_of front)
      → bound_after params number false (long_payload number part) (binds front) ≡ binds (front ++ part ∷ [])
  part_binds part front there apart =
      let below : part.parameter < params = ltb-true part.parameter params there in
      ap (λ b. if b then option_map_or (with_long params part.bytes (binds front)) (number_at 2 5 (long_payload number part)) (binds front) else otherwise part front)
      (for_it com_long_data number (part.parameter % 256 ∷ part.parameter / 256 % 256 ∷ part.bytes) small)
      ∙ ap (λ o. option_map_or (with_long params part.bytes (binds front)) o (binds front)) (parameter_there number part (omega (arith, below, few)))
      ∙ ap (λ b. if b then binds (longer part.parameter part.bytes front) else binds front) there
      ∙ ap binds (longer_new part front apart)

  parts_bind : (i : ℕ) (front parts : List LongPart) → AreParts params (params_of front) parts
      → bound_by params number none_refused i (map (framed_part number) parts) (binds front) ≡ binds (front ++ parts)
  parts_bind i front [] are = ap binds (sym (append-nil front))
  parts_bind i front (part ∷ parts) are =
      ap (λ (b : Bound). bound_by params number none_refused (suc i) (map (framed_part number) parts) b) (part_binds part front are.0 are.1)
      ∙ parts_bind (suc i) (front ++ part ∷ []) parts (subst (λ ns. AreParts params ns parts) (sym (params_more front part)) are.2)
      ∙ ap binds (append_assoc front (part ∷ []) parts)

-- What an execute gives itself.

abbrev head_of : (number : ℕ) → List ℕ
head_of number = with_number com_execute number ++ (0 ∷ 1 ∷ 0 ∷ 0 ∷ 0 ∷ [])

args_there : (nulls : List ℕ) (types : Option (List ℕ)) (values : List ℕ) → 0 < length nulls
    → args_bytes nulls types values ≡ nulls ++ (types_bytes types ++ values)
args_there [] types values some = absurd (omega (arith, some))
args_there (byte ∷ nulls) types values some = refl

module _ (more number : ℕ) (args : Args) (types : List ℕ) (typed_so : args.types ≡ Some types) (long_types : length types ≡ 2 * suc more)
    (long_nulls : length args.nulls ≡ (suc more + 7) / 8) where
  abbrev size : ℕ
  size = (suc more + 7) / 8

  abbrev behind : List ℕ
  behind = 1 ∷ (types ++ args.values)

  spelt_args : args_bytes args.nulls args.types args.values ≡ args.nulls ++ behind
  spelt_args =
      args_there args.nulls args.types args.values (omega (arith, long_nulls))
      ∙ ap (λ o. args.nulls ++ (types_bytes o ++ args.values)) typed_so

  payload_is : execute_payload number args ≡ head_of number ++ (args.nulls ++ behind)
  payload_is = ap (λ xs. head_of number ++ xs) spelt_args

  its_nulls : take size (args.nulls ++ behind) ≡ args.nulls
  its_nulls = subst (λ n. take n (args.nulls ++ behind) ≡ args.nulls) long_nulls (take-append_seam args.nulls behind)

  its_rest : drop (10 + size) (head_of number ++ (args.nulls ++ behind)) ≡ behind
  its_rest =
      drop-append-add (head_of number) (args.nulls ++ behind) size
      ∙ subst (λ n. drop n (args.nulls ++ behind) ≡ behind) long_nulls (drop-append_seam args.nulls behind)

  its_types : take (2 * suc more) (types ++ args.values) ≡ types
  its_types = subst (λ n. take n (types ++ args.values) ≡ types) long_types (take-append_seam types args.values)

  its_values : drop (2 * suc more) (types ++ args.values) ≡ args.values
  its_values = subst (λ n. drop n (types ++ args.values) ≡ args.values) long_types (drop-append_seam types args.values)

  given_so : given_in (suc more) (execute_payload number args) ≡ record { types = Some types; nulls = args.nulls; values = args.values; long = [] }
  given_so =
      ap (λ p. typed (suc more) (take size (drop 10 p)) (drop (10 + size) p)) payload_is
      ∙ ap (λ xs. typed (suc more) xs (drop (10 + size) (head_of number ++ (args.nulls ++ behind)))) its_nulls
      ∙ ap (λ xs. typed (suc more) args.nulls xs) its_rest
      ∙ ap (λ ts. record { types = Some ts; nulls = args.nulls; values = drop (2 * suc more) (types ++ args.values); long = [] }) its_types
      ∙ ap (λ vs. record { types = Some types; nulls = args.nulls; values = vs; long = [] }) its_values

given_by : (params number : ℕ) (args : Args) → AreGiven params args
    → record (given_in params (execute_payload number args)) { types = option_or (given_in params (execute_payload number args)).types None; long = args.long } ≡ args
given_by zero number args are =
    ap (λ (o : Option (List ℕ)). record { types = o; nulls = []; values = []; long = args.long }) (sym are.0)
    ∙ ap (λ ns. record { types = args.types; nulls = ns; values = []; long = args.long }) (sym are.1)
    ∙ ap (λ vs. record { types = args.types; nulls = args.nulls; values = vs; long = args.long }) (sym are.2)
given_by (suc more) number args are =
    ap (λ (a : Args). record a { types = option_or a.types None; long = args.long }) (given_so more number args are.0 are.1.0 are.1.1 are.1.2)
    ∙ ap (λ (o : Option (List ℕ)). record { types = o; nulls = args.nulls; values = args.values; long = args.long }) (sym are.1.0)

-- Together.

pub reads_back : (params number : ℕ) (args : Args) → number < 4294967296 → AreWhole params args → IsExecute (Some number) args (executes number args.nulls args.types args.values args.long)
reads_back params number args small are =
    let payload : List ℕ = execute_payload number args in
    let long : List Framed = map (framed_part number) args.long in
    let all = split_all number args.long payload are.short (let fits = are.size in omega (arith, fits)) in
    record {
      there = number;
      named = refl;
      long_data = long;
      message = framed payload;
      messages = ap (λ (s : Split). s.messages) all;
      own_data = each-all (λ (before : Framed). is_for com_long_data number before.payload ≡ true) long (own args.long);
      whole = ap (λ (s : Split). s.rest) all;
      executes = for_it com_execute number (0 ∷ 1 ∷ 0 ∷ 0 ∷ 0 ∷ args_bytes args.nulls args.types args.values) small;
      plain = refl;
      params = params;
      arguments =
          ap (λ (b : Bound). record (given_in params payload) { types = option_or (given_in params payload).types b.types; long = b.long })
          (parts_bind params number are.few small 1 [] args.long are.parts)
          ∙ given_by params number args are.given;
    }
  where
    own : (parts : List LongPart) → Each (λ (before : Framed). is_for com_long_data number before.payload ≡ true) (map (framed_part number) parts)
    own [] = tt
    own (part ∷ parts) = (for_it com_long_data number (part.parameter % 256 ∷ part.parameter / 256 % 256 ∷ part.bytes) small, own parts)
