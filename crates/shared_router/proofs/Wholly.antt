-- Where no bytes are left over behind the messages of what was written, it is whole: of a front of one packet that is all of it, and nothing
-- that follows a command makes it longer.
use Rattle.std.specs.Prelude.{All, ◌≡◌, ◌<◌, ◌≤◌, ◌+◌, ◌/◌, ◌%◌, ℕ, suc, true, length, slice_index_or, List, [], ◌∷◌, ◌++◌, Option, Some, None}
use Rattle.std.proofs.Common.{refl, sym, ap, ◌∙◌, subst, append_assoc, append-nil, arith, length-append}
use Rattle.std.proofs.lemmas.Bool.{and_parts}
use Rattle.packet_frame.specs.Laws.{first_message-empty, split-faulty, split-grown, split-nothing, split-whole}
use Rattle.packet_frame.specs.Packets.{Faulty, Found, Framed, Nothing, Split, Whole, first_message, grown, longest, spelling, split}
use Rattle.packet_frame.specs.declared.fault.FrameFault.{FrameFault}
use Rattle.packet_frame.specs.RoundTrip.{first_message-again}
use Rattle.private_model.proofs.Maps.{number_of}
use Rattle.private_model.specs.Commands.{Args, Command, FieldList, InitDb, Prepare, Query, Quit, ReadId, Reset, Run, SetId}
use Rattle.log_story.specs.Assumed.{IsWhole}
use Rattle.log_story.specs.Executes.{is_for}
use Rattle.log_story.specs.Honest.{IsExecute, IsFront}
use Rattle.log_story.specs.Plan.{com_execute, com_long_data, text_payload}
use Rattle.log_story.specs.Servers.{written_in}
use Rattle.run_laws.specs.Reads.{ReadsRun}
use Rattle.shared_router.specs.Spelt.{spelt}
use Rattle.shared_router.proofs.Looked.{Each}

abbrev pub limit : ℕ
limit = 36893488147419103232

empty : {A : Type 0} (x : ℕ) (xs : List ℕ) → x ∷ xs ≡ [] → A
empty x xs is = absurd (cc)

split_empty : split limit 0 [] ≡ record { messages = []; rest = []; fault = None }
split_empty = split-nothing limit 0 [] (first_message-empty limit 0)

pub empty_rest : (written_in []).rest ≡ []
empty_rest = ap (λ (s : Split). s.rest) split_empty

-- bytes behind which none are left over are messages
some_message : (bytes : List ℕ) → 0 < length bytes → (split limit 0 bytes).rest ≡ [] → 0 < length (split limit 0 bytes).messages
some_message bytes some whole = by_found (first_message limit 0 bytes) refl where
  none : {A : Type 0} → bytes ≡ [] → A
  none is = absurd (let short : length bytes ≡ 0 = ap length is in omega (arith, short, some))

  by_found : (found : Found) → first_message limit 0 bytes ≡ found → 0 < length (split limit 0 bytes).messages
  by_found Nothing at = none (sym (ap (λ (s : Split). s.rest) (split-nothing limit 0 bytes at)) ∙ whole)
  by_found (Faulty fault) at = none (sym (ap (λ (s : Split). s.rest) (split-faulty limit 0 bytes fault at)) ∙ whole)
  by_found (Whole message rest) at =
      let more : length (split limit 0 bytes).messages ≡ suc (length (split limit 0 rest).messages) = ap (λ (s : Split). length s.messages) (split-whole limit 0 bytes message rest at) in
      omega (arith, more)

-- What is written, and more behind it.

pub record IsBoth (first more whole : Split) : Type 0 where
  pub messages : whole.messages ≡ first.messages ++ more.messages
  pub rest : more.rest ≡ whole.rest

-- a fault stays, and nothing behind it is read
both_of : (written more : List ℕ) → (split limit 0 written).rest ≡ [] → (fault : Option FrameFault) → (split limit 0 written).fault ≡ fault
    → (split limit 0 (written ++ more)).rest ≡ [] → 0 < length more → IsBoth (split limit 0 written) (split limit 0 more) (split limit 0 (written ++ more))
both_of written more whole None sound all some =
    let s : Split = split limit 0 written in
    let is : split limit 0 (written ++ more) ≡ grown limit 0 s.messages [] None more =
    split-grown limit 0 written more ∙ ap (λ f. grown limit 0 s.messages s.rest f more) sound ∙ ap (λ r. grown limit 0 s.messages r None more) whole in
    record { messages = ap (λ (x : Split). x.messages) is; rest = sym (ap (λ (x : Split). x.rest) is) }
both_of written more whole (Some fault) broken all some =
    let s : Split = split limit 0 written in
    let is : split limit 0 (written ++ more) ≡ grown limit 0 s.messages [] (Some fault) more =
    split-grown limit 0 written more ∙ ap (λ f. grown limit 0 s.messages s.rest f more) broken ∙ ap (λ r. grown limit 0 s.messages r (Some fault) more) whole in
    let left : more ≡ [] = sym (ap (λ (x : Split). x.rest) is) ∙ all in
    absurd (let short : length more ≡ 0 = ap length left in omega (arith, short, some))

-- A front of one packet.

pub spelt_one : (payload : List ℕ) → length payload ≤ limit
    → split limit 0 (spelling 0 payload) ≡ record { messages = record { first = 0; last = (0 + length payload / longest) % 256; payload = payload } ∷ []; rest = []; fault = None }
spelt_one payload small =
    let again = first_message-again limit 0 payload [] (omega arith) small in
    split-whole limit 0 (spelling 0 payload) _ [] (ap (first_message limit 0) (sym (append-nil (spelling 0 payload))) ∙ again)
    ∙ ap (λ (s : Split). record { messages = record { first = 0; last = (0 + length payload / longest) % 256; payload = payload } ∷ s.messages; rest = s.rest; fault = s.fault }) split_empty

pub spelt_rest : (payload : List ℕ) → length payload ≤ limit → (written_in (spelling 0 payload)).rest ≡ []
spelt_rest payload small = ap (λ (s : Split). s.rest) (spelt_one payload small)

pub whole_front : (payload written : List ℕ) → length payload ≤ limit → IsFront written (spelling 0 payload) → 0 < length written → (written_in written).rest ≡ []
    → written ≡ spelling 0 payload
whole_front payload written small front some whole = by_rest front.rest refl where
  by_rest : (rest : List ℕ) → front.rest ≡ rest → written ≡ spelling 0 payload
  by_rest [] is = sym (append-nil written) ∙ ap (λ r. written ++ r) (sym is) ∙ front.is
  by_rest (byte ∷ rest) is =
      let one : split limit 0 (written ++ byte ∷ rest) ≡ split limit 0 (spelling 0 payload) = ap (λ r. split limit 0 (written ++ r)) (sym is) ∙ ap (split limit 0) front.is in
      let all : (split limit 0 (written ++ byte ∷ rest)).rest ≡ [] = ap (λ (s : Split). s.rest) (one ∙ spelt_one payload small) in
      let both = both_of written (byte ∷ rest) whole (split limit 0 written).fault refl all (omega arith) in
      let first : 0 < length (split limit 0 written).messages = some_message written some whole in
      let second : 0 < length (split limit 0 (byte ∷ rest)).messages = some_message (byte ∷ rest) (omega arith) (both.rest ∙ all) in
      let two : length (split limit 0 (written ++ byte ∷ rest)).messages ≡ length (split limit 0 written).messages + length (split limit 0 (byte ∷ rest)).messages =
      ap length both.messages ∙ length-append (split limit 0 written).messages (split limit 0 (byte ∷ rest)).messages in
      let single : length (split limit 0 (written ++ byte ∷ rest)).messages ≡ 1 = ap (λ (s : Split). length s.messages) (one ∙ spelt_one payload small) in
      absurd (omega (arith, first, second, two, single))

-- A whole command.

no_longer : (written more rest whole : List ℕ) → (written ++ more) ++ rest ≡ whole → written ≡ whole → more ≡ []
no_longer written [] rest whole is same = refl
no_longer written (x ∷ more) rest whole is same =
    let longer : length ((written ++ (x ∷ more)) ++ rest) ≡ length whole = ap length is in
    let as_long : length written ≡ length whole = ap length same in
    let first : length ((written ++ (x ∷ more)) ++ rest) ≡ length (written ++ (x ∷ more)) + length rest = length-append (written ++ (x ∷ more)) rest in
    let second : length (written ++ (x ∷ more)) ≡ length written + length (x ∷ more) = length-append written (x ∷ more) in
    absurd (omega (arith, longer, as_long, first, second))

each_of : {A : Type 0} (P : A → Type 0) (xs : List A) → All P xs → Each P xs
each_of P [] all = tt
each_of P (x ∷ xs) all = (all 0 x (omega arith), each_of P xs (λ i d within. all (suc i) d (omega (arith, within))))

-- one that isn't the last is one of the others
among : {A : Type 0} (P : A → Type 0) (front others : List A) (x y last : A) (behind : List A) → front ++ x ∷ y ∷ behind ≡ others ++ last ∷ [] → Each P others → P x
among P [] [] x y last behind is each = absurd (cc)
among P [] (z ∷ others) x y last behind is each = let same : x ≡ z = cc in subst P (sym same) each.0
among P (w ∷ []) [] x y last behind is each = absurd (cc)
among P (w ∷ (v ∷ front)) [] x y last behind is each = absurd (cc)
among P (w ∷ front) (z ∷ others) x y last behind is each =
    let rest : front ++ x ∷ y ∷ behind ≡ others ++ last ∷ [] = cc in among P front others x y last behind rest each.1

two_bytes : {A : Type 0} (payload : List ℕ) (there other : ℕ) → is_for com_execute there payload ≡ true → is_for com_long_data other payload ≡ true → A
two_bytes payload there other one two =
    let first : slice_index_or payload 0 0 ≡ 23 = number_of (slice_index_or payload 0 0) 23 (and_parts _ _ one).0 in
    let second : slice_index_or payload 0 0 ≡ 24 = number_of (slice_index_or payload 0 0) 24 (and_parts _ _ two).0 in
    absurd (omega (arith, first, second))

-- bytes behind an execute would make it one of its own long data
module _ (number : Option ℕ) (args : Args) (written : List ℕ) (is : IsExecute number args written) where
  no_more : (more : List ℕ) → IsExecute number args (written ++ more) → more ≡ []
  no_more [] all = refl
  no_more (byte ∷ more) all = by_messages (split limit 0 (byte ∷ more)).messages refl (some_message (byte ∷ more) (omega arith) (both.rest ∙ all.whole)) where
    both : IsBoth (split limit 0 written) (split limit 0 (byte ∷ more)) (split limit 0 (written ++ byte ∷ more))
    both = both_of written (byte ∷ more) is.whole (split limit 0 written).fault refl all.whole (omega arith)

    by_messages : (ms : List Framed) → (split limit 0 (byte ∷ more)).messages ≡ ms → 0 < length ms → byte ∷ more ≡ []
    by_messages [] at some = absurd (omega (arith, some))
    by_messages (m ∷ ms) at some =
        let chain : is.long_data ++ is.message ∷ m ∷ ms ≡ all.long_data ++ all.message ∷ [] =
        sym (append_assoc is.long_data (is.message ∷ []) (m ∷ ms)) ∙ ap (λ xs. xs ++ m ∷ ms) (sym is.messages)
        ∙ ap (λ ys. (split limit 0 written).messages ++ ys) (sym at) ∙ sym both.messages ∙ all.messages in
        two_bytes is.message.payload is.there all.there is.executes
        (among (λ (f : Framed). is_for com_long_data all.there f.payload ≡ true) is.long_data all.long_data is.message m all.message ms chain
        (each_of (λ (f : Framed). is_for com_long_data all.there f.payload ≡ true) all.long_data all.own_data))

first_none : (xs ys : List ℕ) → xs ++ ys ≡ [] → xs ≡ []
first_none [] ys is = refl
first_none (x ∷ xs) ys is = empty x (xs ++ ys) is

pub whole_so : (command : Command) (number : Option ℕ) (written : List ℕ) → ReadsRun command number → written ≡ spelt command number → IsWhole command number written
whole_so (Run text schema settings args) number written reads same = λ more begins.
    first_none more begins.more
    (no_more number args written (subst (IsExecute number args) (sym same) reads) (more ++ begins.more)
    (subst (IsExecute number args) (append_assoc written more begins.more) begins.all))
whole_so (Query text) number written reads same = λ more begins. no_longer written more begins.more (spelling 0 (text_payload (Query text))) begins.all same
whole_so (InitDb schema) number written reads same = λ more begins. no_longer written more begins.more (spelling 0 (text_payload (InitDb schema))) begins.all same
whole_so (FieldList rest) number written reads same = λ more begins. no_longer written more begins.more (spelling 0 (text_payload (FieldList rest))) begins.all same
whole_so (SetId n) number written reads same = λ more begins. no_longer written more begins.more (spelling 0 (text_payload (SetId n))) begins.all same
whole_so ReadId number written reads same = λ more begins. no_longer written more begins.more (spelling 0 (text_payload ReadId)) begins.all same
whole_so (Prepare text) number written reads same = λ more begins. no_longer written more begins.more (spelling 0 (text_payload (Prepare text))) begins.all same
whole_so Reset number written reads same = λ more begins. no_longer written more begins.more (spelling 0 (text_payload Reset)) begins.all same
whole_so Quit number written reads same = λ more begins. no_longer written more begins.more (spelling 0 (text_payload Quit)) begins.all same
