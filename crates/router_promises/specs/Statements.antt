-- The prepared statements that a client knows, by their numbers.
use Rattle.std.specs.Prelude.{ℕ, suc, ◌+◌, ◌-◌, ◌*◌, ◌/◌, Bool, false, not, ◌&&◌, ◌||◌, is_some, nat_eq, nat_le, List, [], ◌∷◌, ◌++◌, length, slice_index_or, take, drop}
use Rattle.std.specs.Prelude.{if◌then◌else◌, Option, Some, None}
use Rattle.std.specs.List.{list_any}
use Rattle.std.specs.Option.{option_and_then, option_map_or}
use Rattle.packet_frame.specs.Packets.{Framed}
use Rattle.private_model.specs.Commands.{is_made}
use Rattle.private_model.specs.View.{View}
use Rattle.log_story.specs.Executes.{Prepared, args_in, is_for, prepared_by}
use Rattle.log_story.specs.Owed.{messages, name_of}
use Rattle.log_story.specs.Plan.{Plan, Route, com_prepare, com_reset}
use Rattle.log_story.specs.Tale.{Client}

abbrev pub com_close : ℕ
com_close = 0x19

abbrev pub is_byte : (byte : ℕ) → (payload : List ℕ) → Bool
is_byte byte payload = nat_eq (slice_index_or payload 0 0) byte

-- a message after which the client doesn't know the number any more
abbrev pub drops : (number : ℕ) → Framed → Bool
drops number message = is_for com_close number message.payload || is_byte com_reset message.payload

-- its messages from the i-th on, before the one of this ordinal
abbrev pub between : (i ordinal : ℕ) → List Framed → List Framed
between i ordinal sent = drop (i - 1) (take (ordinal - 1) sent)

-- the statement of this number, as the message of this ordinal is taken up
abbrev pub is_live : Plan → Client → (number ordinal : ℕ) → Prepared → Bool
is_live plan client number ordinal prepared = not (list_any (drops number) (between (suc prepared.ordinal) ordinal (messages plan client)))

abbrev pub known_statement : View → Plan → Client → (number ordinal : ℕ) → Option Prepared
known_statement view plan client number ordinal =
    option_and_then (λ prepared. if is_live plan client number ordinal prepared then Some prepared else None)
    (prepared_by view plan client number 1 (messages plan client))

-- the numbers that were given, from the i-th message on: to each STMT_PREPARE that a server answered, and not with an ERR
abbrev pub number_given : View → Plan → Client → (i : ℕ) → Framed → List ℕ
number_given view plan client i message =
    if is_byte com_prepare message.payload && option_map_or is_made (view.replies (name_of client i)) false
    then option_map_or (λ (route : Route). route.number ∷ []) (plan.routes (name_of client i)) [] else []

abbrev pub numbers_given : View → Plan → Client → (i : ℕ) → List Framed → List ℕ
numbers_given view plan client i [] = []
numbers_given view plan client i (message ∷ more) = number_given view plan client i message ++ numbers_given view plan client (suc i) more

-- the next number: they are given in order, from 1
abbrev pub next_number : View → Plan → Client → (ordinal : ℕ) → ℕ
next_number view plan client ordinal = suc (length (numbers_given view plan client 1 (take (ordinal - 1) (messages plan client))))

-- no number can be given: 65,535 statements stand, or the last number was given
abbrev pub standing : View → Plan → Client → (ordinal : ℕ) → List ℕ → ℕ
standing view plan client ordinal [] = 0
standing view plan client ordinal (number ∷ numbers) =
    (if is_some (known_statement view plan client number ordinal) then 1 else 0) + standing view plan client ordinal numbers

abbrev pub is_full : View → Plan → Client → (ordinal : ℕ) → Bool
is_full view plan client ordinal =
    let given = numbers_given view plan client 1 (take (ordinal - 1) (messages plan client)) in
    nat_le 4294967295 (length given) || nat_le 65535 (standing view plan client ordinal given)

-- An execute is whole where the NULLs of its parameters and, where it says so, their types are there, two bytes each; the types of an earlier
-- one stand for those that aren't.

abbrev pub execute_size : (params : ℕ) → (payload : List ℕ) → ℕ
execute_size params payload =
    if nat_eq params 0 then 10
    else 11 + (params + 7) / 8 + (if nat_eq (slice_index_or payload (10 + (params + 7) / 8) 0) 1 then 2 * params else 0)

abbrev pub are_types : (params : ℕ) → Option (List ℕ) → Bool
are_types params None = false
are_types params (Some types) = nat_eq (length types) (2 * params)

abbrev pub lacks_types : Plan → Client → (ordinal number : ℕ) → Prepared → (payload : List ℕ) → Bool
lacks_types plan client ordinal number prepared payload =
    let refused : ℕ → Bool = λ i. not (is_some (plan.routes (name_of client i))) in
    not (nat_eq prepared.params 0)
    && not (are_types prepared.params (args_in prepared.params number refused prepared.ordinal (take (ordinal - 1) (messages plan client)) payload).types)

abbrev pub is_whole_execute : Plan → Client → (ordinal number : ℕ) → Prepared → (payload : List ℕ) → Bool
is_whole_execute plan client ordinal number prepared payload =
    nat_le (execute_size prepared.params payload) (length payload) && not (lacks_types plan client ordinal number prepared payload)
