-- Messages that are whole are passed over, and payloads are spelt one by one.
use Rattle.std.specs.Prelude.{◌≡◌, ◌<◌, ℕ, suc, zero, ◌+◌, Bool, true, false, List, [], ◌∷◌, ◌++◌, length, drop, slice_index_or, if◌then◌else◌, Option, Some, None, Result, Ok, Err}
use Rattle.std.proofs.Common.{◌∙◌, refl, sym, ap, subst, arith, append-nil, append_assoc}
use Rattle.handshake.specs.declared.fault.HandFault.{HandFault}
use Rattle.handshake.specs.declared.response.Response.{Response}
use Rattle.handshake.specs.Response.{response_of}
use Rattle.packet_frame.specs.FramerState.{look_by}
use Rattle.packet_frame.specs.Laws.{first_message-shorter, split-faulty, split-nothing, split-whole}
use Rattle.packet_frame.specs.MessageLaws.{first_message-goes}
use Rattle.packet_frame.specs.Packets.{Found, Split, first_message, id_behind, message_size, next_id, spelling, spellings, split}
use Rattle.packet_frame.specs.Packets.Found.{Faulty, Nothing, Whole}
use Rattle.packet_frame.specs.declared.fault.FrameFault.{FrameFault}
use Rattle.client_side.specs.Client.{ClientState, IsDone}
use Rattle.client_side.specs.Login.{needs_switch}
use Rattle.client_side.specs.Steps.{Next, answer_found, asked, behind, command_found, logs_in, look_login, next_of, response_found, response_read}
use Rattle.client_side.specs.declared.stage.Stage.{Stage}
use Rattle.client_side.specs.declared.stage.Stage.TheVariants as stage
use Rattle.client_side.specs.declared.step.ClientStep.TheVariants as says
use Rattle.client_seat.specs.Words.{behind_by, behind_in, behind_messages}

-- A message comes behind a login alone.

answer-none : (response : Response) (client : ClientState) (found : Found) (ordinal first : ℕ) → (answer_found response client found).step ≡ says.Message ordinal first → ⊥
answer-none response client Nothing ordinal first is = cc
answer-none response client (Whole message rest) ordinal first is = cc
answer-none response client (Faulty fault) ordinal first is = cc

choice-none : (b : Bool) (id : ℕ) (response : Response) (client : ClientState) (ordinal first : ℕ)
    → (if b then answer_found response (asked response client) (look_login 3 client.framer) else logs_in response id client).step ≡ says.Message ordinal first → ⊥
choice-none true id response client ordinal first is = answer-none response (asked response client) (look_login 3 client.framer) ordinal first is
choice-none false id response client ordinal first is = cc

read-none : (id : ℕ) (decoded : Result Response HandFault) (client : ClientState) (ordinal first : ℕ) → (response_read id decoded client).step ≡ says.Message ordinal first → ⊥
read-none id (Err fault) client ordinal first is = cc
read-none id (Ok response) client ordinal first is = choice-none (needs_switch response.plugin) id response client ordinal first is

response-none : (client : ClientState) (found : Found) (ordinal first : ℕ) → (response_found client found).step ≡ says.Message ordinal first → ⊥
response-none client Nothing ordinal first is = cc
response-none client (Whole message rest) ordinal first is = read-none (next_id message.last) (response_of message.payload) (behind message client) ordinal first is
response-none client (Faulty fault) ordinal first is = cc

-- What stands behind the messages that are whole.

rests-at : (client : ClientState) (fault : Option FrameFault) → client.framer.fault ≡ fault → (found : Found) → first_message client.framer.limit 0 client.framer.kept ≡ found
    → ((ordinal first : ℕ) → (command_found client (look_by fault found)).step ≡ says.Message ordinal first → ⊥)
    → (command_found client (look_by fault found)).client.framer.kept ≡ behind_by fault client.framer
rests-at client (Some fault) at found is none = refl
rests-at client None at Nothing is none = ap (λ (s : Split). s.rest) (sym (split-nothing client.framer.limit 0 client.framer.kept is))
rests-at client None at (Whole message rest) is none = absurd (none _ _ refl)
rests-at client None at (Faulty fault) is none = ap (λ (s : Split). s.rest) (sym (split-faulty client.framer.limit 0 client.framer.kept fault is))

rests-in : (at : Stage) (client : ClientState) → ((ordinal first : ℕ) → (next_of at client).step ≡ says.Message ordinal first → ⊥)
    → (next_of at client).client.framer.kept ≡ behind_in at client
rests-in stage.Response client none = refl
rests-in (stage.Answer response) client none = refl
rests-in (stage.Login response first) client none = refl
rests-in (stage.Refused first fault) client none = refl
rests-in stage.Commands client none = rests-at client client.framer.fault refl (first_message client.framer.limit 0 client.framer.kept) refl none

-- a step that is no message leaves just that
pub rests_so : (client : ClientState) (next : Next) → next ≡ next_of client.stage client → ((ordinal first : ℕ) → next.step ≡ says.Message ordinal first → ⊥)
    → next.client.framer.kept ≡ behind_messages client
rests_so client next is none =
    ap (λ (n : Next). n.client.framer.kept) is
    ∙ rests-in client.stage client (λ ordinal first saying. none ordinal first (ap (λ (n : Next). n.step) is ∙ saying))

-- A message that is passed over leaves less, with the same behind it.
pub record IsLess (client after : ClientState) : Type 0 where
  pub same : behind_messages after ≡ behind_messages client
  pub less : length after.framer.kept < length client.framer.kept

less-at : (client after : ClientState) (fault : Option FrameFault) → client.stage ≡ stage.Commands → client.framer.fault ≡ fault → (found : Found) → first_message client.framer.limit 0 client.framer.kept ≡ found
    → (ordinal first : ℕ) → (command_found client (look_by fault found)).step ≡ says.Message ordinal first
    → IsDone stage.Commands (command_found client (look_by fault found)).client after → IsLess client after
less-at client after (Some fault) due at found is ordinal first saying done = absurd (let no : says.Refused _ _ ≡ says.Message ordinal first = saying in cc)
less-at client after None due at Nothing is ordinal first saying done = absurd (let no : says.Nothing ≡ says.Message ordinal first = saying in cc)
less-at client after None due at (Faulty fault) is ordinal first saying done = absurd (let no : says.Refused _ _ ≡ says.Message ordinal first = saying in cc)
less-at client after None due at (Whole message rest) is ordinal first saying done =
    let goes : rest ≡ drop (message_size client.framer.kept) client.framer.kept = first_message-goes client.framer.limit 0 client.framer.kept message rest is in
    let kept : after.framer.kept ≡ rest = ap (λ (c : ClientState). c.framer.kept) done ∙ sym goes in
    let staged : after.stage ≡ stage.Commands = ap (λ (c : ClientState). c.stage) done ∙ due in
    let faultless : after.framer.fault ≡ None = ap (λ (c : ClientState). c.framer.fault) done ∙ at in
    let limit : after.framer.limit ≡ client.framer.limit = ap (λ (c : ClientState). c.framer.limit) done in
    record {
      same =
          ap (λ (s : Stage). behind_in s after) staged ∙ ap (λ (f : Option FrameFault). behind_by f after.framer) faultless
          ∙ ap (λ (l : ℕ). (split l 0 after.framer.kept).rest) limit
          ∙ ap (λ (k : List ℕ). (split client.framer.limit 0 k).rest) kept
          ∙ ap (λ (s : Split). s.rest) (sym (split-whole client.framer.limit 0 client.framer.kept message rest is))
          ∙ sym (ap (λ (f : Option FrameFault). behind_by f client.framer) at)
          ∙ sym (ap (λ (s : Stage). behind_in s client) due);
      less = omega (arith, ap (length {A = ℕ}) kept, first_message-shorter client.framer.limit 0 client.framer.kept message rest is);
    }

less-in : (at : Stage) (client after : ClientState) → client.stage ≡ at → (ordinal first : ℕ) → (next_of at client).step ≡ says.Message ordinal first
    → IsDone (next_of at client).client.stage (next_of at client).client after → IsLess client after
less-in stage.Response client after due ordinal first saying done = absurd (response-none client (look_login 1 client.framer) ordinal first saying)
less-in (stage.Answer response) client after due ordinal first saying done = absurd (answer-none response client (look_login 3 client.framer) ordinal first saying)
less-in (stage.Login response id) client after due ordinal first saying done = absurd cc
less-in (stage.Refused id fault) client after due ordinal first saying done = absurd cc
less-in stage.Commands client after due ordinal first saying done =
    less-at client after client.framer.fault due refl (first_message client.framer.limit 0 client.framer.kept) refl ordinal first saying
    (subst (λ (s : Stage). IsDone s (next_of stage.Commands client).client after) (staged (look_by client.framer.fault (first_message client.framer.limit 0 client.framer.kept))) done) where
      staged : (found : Found) → (command_found client found).client.stage ≡ stage.Commands
      staged Nothing = due
      staged (Whole message rest) = due
      staged (Faulty fault) = due

pub less_so : (client after : ClientState) (next : Next) (ordinal first : ℕ) → next ≡ next_of client.stage client → next.step ≡ says.Message ordinal first → IsDone next.client.stage next.client after
    → IsLess client after
less_so client after next ordinal first is saying done =
    less-in client.stage client after refl ordinal first (ap (λ (n : Next). n.step) (sym is) ∙ saying)
    (subst (λ (n : Next). IsDone n.client.stage n.client after) is done)

-- One payload more is spelt.

drop-next : (i : ℕ) (payloads : List (List ℕ)) (payload : List ℕ) → i < length payloads → drop i payloads ≡ slice_index_or payloads i payload ∷ drop (suc i) payloads
drop-next zero [] payload less = absurd (omega arith)
drop-next zero (one ∷ payloads) payload less = refl
drop-next (suc i) [] payload less = absurd (omega arith)
drop-next (suc i) (one ∷ payloads) payload less = drop-next i payloads payload (omega arith)

pub spelled_on : (i id : ℕ) (payloads : List (List ℕ)) (payload out all : List ℕ) → i < length payloads → payload ≡ slice_index_or payloads i payload
    → out ++ spellings id (drop i payloads) ≡ all → (out ++ spelling id payload) ++ spellings (id_behind id payload) (drop (i + 1) payloads) ≡ all
spelled_on i id payloads payload out all less is was =
    let further : i + 1 ≡ suc i = omega arith in
    append_assoc out (spelling id payload) (spellings (id_behind id payload) (drop (i + 1) payloads))
    ∙ ap (λ (k : ℕ). out ++ (spelling id payload ++ spellings (id_behind id payload) (drop k payloads))) further
    ∙ ap (λ (p : List ℕ). out ++ spellings id (p ∷ drop (suc i) payloads)) is
    ∙ ap (λ (left : List (List ℕ)). out ++ spellings id left) (sym (drop-next i payloads payload less))
    ∙ was

drop-past : (n : ℕ) (payloads : List (List ℕ)) → length payloads ≡ n → drop n payloads ≡ []
drop-past zero [] all = refl
drop-past zero (one ∷ payloads) all = absurd (omega arith)
drop-past (suc n) [] all = refl
drop-past (suc n) (one ∷ payloads) all = drop-past n payloads (omega arith)

pub spelled_all : (n id : ℕ) (payloads : List (List ℕ)) (out all : List ℕ) → length payloads ≡ n → out ++ spellings id (drop n payloads) ≡ all → out ≡ all
spelled_all n id payloads out all over was =
    sym (append-nil out) ∙ ap (λ (left : List (List ℕ)). out ++ spellings id left) (sym (drop-past n payloads over)) ∙ was
