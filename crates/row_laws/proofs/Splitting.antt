-- What was written of one message: nothing of it is a message before it is whole.
use Rattle.std.specs.Prelude.{◌≡◌, ◌<◌, ◌≤◌, ℕ, ◌+◌, ◌/◌, ◌%◌, Bool, true, false, nat_lt, length, List, [], ◌∷◌, ◌++◌, drop, take, None}
use Rattle.std.proofs.Common.{refl, sym, ap, ◌∙◌, append-nil, arith, length-append}
use Rattle.std.proofs.lemmas.Bool.{ltb-false, ltb-true}
use Rattle.std.proofs.lemmas.List.{drop-take, length-drop, take-append-drop, take-take, take_all}
use Rattle.packet_frame.specs.Laws.{first_message-empty, first_message-faulty-more, first_message-whole-more, split-nothing, split-whole}
use Rattle.packet_frame.specs.Packets.{Found, Framed, Split, first_message, longest, next_id, spelling, split}
use Rattle.packet_frame.specs.Packets.Found.{Faulty, Nothing, Whole}
use Rattle.packet_frame.specs.RoundTrip.{first_message-again}
use Rattle.log_story.specs.Servers.{last_id, written_in}
use Rattle.link_state.specs.declared.writing.Writing.{Writing}

abbrev limit : ℕ
limit = 36893488147419103232

split_empty : split limit 0 [] ≡ record { messages = []; rest = []; fault = None }
split_empty = split-nothing limit 0 [] (first_message-empty limit 0)

pub none_whole : (written_in []).rest ≡ []
none_whole = ap (λ (s : Split). s.rest) split_empty

abbrev message_of : List ℕ → Framed
message_of payload = record { first = 0; last = (0 + length payload / longest) % 256; payload = payload }

found_whole : (payload : List ℕ) → length payload ≤ limit → first_message limit 0 (spelling 0 payload) ≡ Whole (message_of payload) []
found_whole payload small =
    ap (first_message limit 0) (sym (append-nil (spelling 0 payload))) ∙ first_message-again limit 0 payload [] (omega arith) small

pub split_one : (payload : List ℕ) → length payload ≤ limit
    → split limit 0 (spelling 0 payload) ≡ record { messages = message_of payload ∷ []; rest = []; fault = None }
split_one payload small =
    split-whole limit 0 (spelling 0 payload) (message_of payload) [] (found_whole payload small)
    ∙ ap (λ (s : Split). record { messages = message_of payload ∷ s.messages; rest = s.rest; fault = s.fault }) split_empty

-- a front that isn't all of it
pub split_front : (payload front rest : List ℕ) → length payload ≤ limit → 0 < length rest → front ++ rest ≡ spelling 0 payload
    → split limit 0 front ≡ record { messages = []; rest = front; fault = None }
split_front payload front rest small some is = by (first_message limit 0 front) refl where
  whole : first_message limit 0 (front ++ rest) ≡ Whole (message_of payload) []
  whole = ap (first_message limit 0) is ∙ found_whole payload small

  no_rest : (behind : List ℕ) → behind ++ rest ≡ [] → ⊥
  no_rest behind none = omega (arith, some, ap length none, length-append behind rest)

  same_rest : (m n : Framed) (a b : List ℕ) → Whole m a ≡ Whole n b → a ≡ b
  same_rest m n a b same = cc

  by : (found : Found) → first_message limit 0 front ≡ found → split limit 0 front ≡ record { messages = []; rest = front; fault = None }
  by Nothing at = split-nothing limit 0 front at
  by (Whole message behind) at =
      absurd (no_rest behind (same_rest message (message_of payload) (behind ++ rest) []
      (sym (first_message-whole-more limit 0 front rest message behind at) ∙ whole)))
  by (Faulty fault) at =
      absurd (let never : Faulty fault ≡ Whole (message_of payload) [] = sym (first_message-faulty-more limit 0 front rest fault at) ∙ whole in cc)

-- A message as it is written.

module _ (payload : List ℕ) (w : Writing) (small : length payload ≤ limit) (bytes : w.bytes ≡ spelling 0 payload) where
  abbrev written : List ℕ
  written = take w.sent w.bytes

  is_whole : length w.bytes ≤ w.sent → written ≡ spelling 0 payload
  is_whole all = take_all w.sent w.bytes all ∙ bytes

  pub part_split : w.sent < length w.bytes → split limit 0 written ≡ record { messages = []; rest = written; fault = None }
  part_split part =
      split_front payload written (drop w.sent w.bytes) small (omega (arith, length-drop w.sent w.bytes, part))
      (take-append-drop w.sent w.bytes ∙ bytes)

  pub whole_split : length w.bytes ≤ w.sent → split limit 0 written ≡ record { messages = message_of payload ∷ []; rest = []; fault = None }
  whole_split all = ap (split limit 0) (is_whole all) ∙ split_one payload small

  short_mod : (n : ℕ) → n < longest → ((0 + n / longest) % 256 + 1) % 256 ≡ 1
  short_mod n short = omega arith

  -- of a short message the id is 1, whether it is whole or not
  pub id_short : (said : List ℕ) → said ≡ written → length payload < longest → next_id (last_id (written_in said).messages) ≡ 1
  id_short said same short = by (nat_lt w.sent (length w.bytes)) refl where
    by : (part : Bool) → nat_lt w.sent (length w.bytes) ≡ part → next_id (last_id (written_in said).messages) ≡ 1
    by true part =
        ap (λ (bytes : List ℕ). next_id (last_id (written_in bytes).messages)) same
        ∙ ap (λ (s : Split). next_id (last_id s.messages)) (part_split (ltb-true w.sent (length w.bytes) part))
    by false all =
        ap (λ (bytes : List ℕ). next_id (last_id (written_in bytes).messages)) same
        ∙ ap (λ (s : Split). next_id (last_id s.messages)) (whole_split (ltb-false w.sent (length w.bytes) all))
        ∙ short_mod (length payload) short

  -- whether anything is left over is whether it isn't whole

  pub rest_part : (said : List ℕ) → said ≡ written → w.sent < length w.bytes → (written_in said).rest ≡ said
  rest_part said same part = ap (λ (bytes : List ℕ). (written_in bytes).rest) same ∙ ap (λ (s : Split). s.rest) (part_split part) ∙ sym same

  pub rest_whole : (said : List ℕ) → said ≡ written → length w.bytes ≤ w.sent → (written_in said).rest ≡ []
  rest_whole said same all = ap (λ (bytes : List ℕ). (written_in bytes).rest) same ∙ ap (λ (s : Split). s.rest) (whole_split all)

-- bytes that go on with what was written
pub take_on : (n m : ℕ) (xs : List ℕ) → take n xs ++ take m (drop n xs) ≡ take (n + m) xs
take_on n m xs =
    ap (λ (front : List ℕ). front ++ take m (drop n xs)) (sym (take-take n (n + m) xs (omega arith)))
    ∙ ap (λ (behind : List ℕ). take n (take (n + m) xs) ++ behind) (sym (drop-take n m xs))
    ∙ take-append-drop n (take (n + m) xs)
