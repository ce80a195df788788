-- By the same answers a client is due the same; a last word is said from its moment on; and one in place of the answer to a login stands where
-- nothing else is due.
use Rattle.std.specs.Prelude.{◌≡◌, ◌+◌, ◌≤◌, ◌<◌, ℕ, zero, suc, Bool, true, false, ◌||◌, is_some, length, nat_eq, nat_le, take, if◌then◌else◌, List, [], ◌∷◌, ◌++◌, Option, Some, None}
use Rattle.std.specs.List.{list_any}
use Rattle.std.specs.Option.{option_and_then}
use Rattle.std.proofs.Common.{refl, sym, ap, ◌∙◌, subst, append-nil, arith}
use Rattle.std.proofs.lemmas.Bool.{le-leb, leb-false, leb-true}
use Rattle.std.proofs.lemmas.List.{length-take}
use Rattle.client_session.specs.Answers.{Talk, commands_in, fault_answer, front, front_in, greeted, messages_of, opening_of}
use Rattle.client_side.specs.Login.{Waits, switched_of}
use Rattle.mx_wire.specs.Log.{Log}
use Rattle.mx_wire.specs.Tells.{Fits}
use Rattle.mx_wire.specs.declared.entry.Entry.{Entry}
use Rattle.mx_wire.specs.declared.entry.Entry.TheVariants as entry
use Rattle.packet_frame.specs.Laws.{first_message-empty, split-nothing}
use Rattle.packet_frame.specs.Packets.{Framed, Split, next_id, spellings, split}
use Rattle.private_model.proofs.Maps as maps
use Rattle.private_model.specs.Commands.{Reply}
use Rattle.private_model.specs.Names.{MessageName}
use Rattle.log_story.specs.Honest.{IsFront}
use Rattle.log_story.specs.Owed.{answered_with, due_for, due_until, error_behind, login_id, messages, name_of, number_of, talk_of, word_in}
use Rattle.log_story.specs.Plan.{Alone, ForLogin, LastWord, Plan, WordPlace, own_at}
use Rattle.log_story.specs.Tale.{Client}
use Rattle.router_promises.specs.Ends.{Left, NoMemory, TooMuch, TurnedAway, WordFor, is_accepted, is_alone}
use Rattle.router_promises.specs.Now.{Now}
use Rattle.router_promises.specs.Terms.{Terms}
use Rattle.shared_router.specs.Onward.{AnswerStays}
use Rattle.shared_router.proofs.Coming.{IsNamed, named_new}
use Rattle.shared_router.proofs.Looked.{Each}

isnt : {A : Type 0} → false ≡ true → A
isnt is = absurd (cc)

no_some : {A B : Type 0} (a : A) → None ≡ Some a → B
no_some a is = absurd (cc)

some_of : {A : Type 0} (a b : A) → Some a ≡ Some b → a ≡ b
some_of a b is = cc

-- Answers that stay.

pub same_on : (own own_later : Option (List (List ℕ))) (reply reply_later : Option Reply) → AnswerStays own reply own_later reply_later → (is_some own || is_some reply) ≡ true
    → (number id : ℕ) (later : List ℕ) → answered_with own reply number id later ≡ answered_with own_later reply_later number id later
same_on (Some payloads) own_later reply reply_later stays some number id later = sym (ap (λ o. answered_with o reply_later number id later) stays)
same_on None own_later None reply_later stays some number id later = isnt some
same_on None own_later (Some reply) reply_later stays some number id later =
    sym (ap (λ o. answered_with o reply_later number id later) stays.0 ∙ ap (λ r. answered_with None r number id later) stays.1)

pub still_some : (own own_later : Option (List (List ℕ))) (reply reply_later : Option Reply) → AnswerStays own reply own_later reply_later → (is_some own || is_some reply) ≡ true
    → (is_some own_later || is_some reply_later) ≡ true
still_some (Some payloads) own_later reply reply_later stays some = ap (λ (o : Option (List (List ℕ))). is_some o || is_some reply_later) stays
still_some None own_later None reply_later stays some = isnt some
still_some None own_later (Some reply) reply_later stays some =
    ap (λ (o : Option (List (List ℕ))). is_some o || is_some reply_later) stays.0 ∙ ap (λ (r : Option Reply). is_some r) stays.1

pub none_on : (own own_later : Option (List (List ℕ))) (reply reply_later : Option Reply) → own ≡ None → reply ≡ None → own_later ≡ None → reply_later ≡ None
    → (number id : ℕ) (later : List ℕ) → answered_with own reply number id later ≡ answered_with own_later reply_later number id later
none_on own own_later reply reply_later own_none none own_never never number id later =
    ap (λ o. answered_with o reply number id later) own_none ∙ ap (λ r. answered_with None r number id later) none
    ∙ sym (ap (λ o. answered_with o reply_later number id later) own_never ∙ ap (λ r. answered_with None r number id later) never)

-- By the same answers a client is due the same.
module _ (plan : Plan) (old new : ℕ) (was is : MessageName → Option Reply) (client : Client) where
  abbrev pub IsSame : MessageName → Type 0
  IsSame m = (number id : ℕ) (later : List ℕ) → answered_with (own_at plan old m) (was m) number id later ≡ answered_with (own_at plan new m) (is m) number id later

  due_same : (last : List ℕ) (j : ℕ) (ms : List Framed) → ((i : ℕ) → suc i ≤ j + length ms → IsSame (name_of client (suc i)))
      → due_for was plan old client last (suc j) ms ≡ due_for is plan new client last (suc j) ms
  due_same last j [] each = refl
  due_same last j (m ∷ ms) each =
      let name : MessageName = name_of client (suc j) in
      each j (omega arith) (number_of plan name) (next_id m.last) (due_for was plan old client last (suc (suc j)) ms)
      ∙ ap (answered_with (own_at plan new name) (is name) (number_of plan name) (next_id m.last)) (due_same last (suc j) ms (λ i below. each i (omega (arith, below))))

  pub until_same : ((i : ℕ) → suc i ≤ client.taken → IsSame (name_of client (suc i))) → due_until was plan old client ≡ due_until is plan new client
  until_same each =
      ap (λ xs. front (talk_of plan client) ++ xs)
      (due_same (error_behind plan client) 0 (take client.taken (messages plan client))
      (λ i below. each i (let short = length-take client.taken (messages plan client) in omega (arith, short, below))))

-- Words by a moment.

abbrev pub by_then : ℕ → Option LastWord → Option LastWord
by_then moment o = option_and_then (λ (word : LastWord). if nat_le word.from moment then Some word else None) o

pub word_then : (moment : ℕ) (o : Option LastWord) (word : LastWord) → by_then moment o ≡ Some word → (o ≡ Some word) × (word.from ≤ moment)
word_then moment None word is = no_some word is
word_then moment (Some w) word is = by_test (nat_le w.from moment) refl is where
  by_test : (b : Bool) → nat_le w.from moment ≡ b → (if b then Some w else None) ≡ Some word → (Some w ≡ Some word) × (word.from ≤ moment)
  by_test true early now = (now, subst (λ (x : LastWord). x.from ≤ moment) (some_of w word now) (leb-true w.from moment early))
  by_test false late now = no_some word now

pub word_by : (moment : ℕ) (o : Option LastWord) (word : LastWord) → o ≡ Some word → word.from ≤ moment → by_then moment o ≡ Some word
word_by moment o word is early = ap (by_then moment) is ∙ ap (λ b. if b then Some word else None) (le-leb word.from moment early)

pub word_later : (moment : ℕ) (o : Option LastWord) (word : LastWord) → o ≡ Some word → by_then moment o ≡ None → moment < word.from
word_later moment o word is none = by_test (nat_le word.from moment) refl where
  by_test : (b : Bool) → nat_le word.from moment ≡ b → moment < word.from
  by_test true early = no_some word (sym none ∙ word_by moment o word is (leb-true word.from moment early))
  by_test false late = leb-false word.from moment late

-- Where a word stands in place of the answer to a login, nothing else is due.

module _ (plan : Plan) (moment : ℕ) (replies : MessageName → Option Reply) (client : Client) (switched : Bool) (waits : opening_of (talk_of plan client) ≡ Waits switched) where
  abbrev talk : Talk
  talk = talk_of plan client

  none_said : messages_of talk ≡ record { messages = []; rest = []; fault = None }
  none_said =
      ap (λ o. split plan.service.limit 0 (commands_in talk o)) waits
      ∙ split-nothing plan.service.limit 0 [] (first_message-empty plan.service.limit 0)

  if_nothing : (b : Bool) (xs : List ℕ) → xs ≡ [] → (if b then xs else []) ≡ []
  if_nothing true xs is = is
  if_nothing false xs is = refl

  no_error : error_behind plan client ≡ []
  no_error = if_nothing (nat_eq client.taken (length (messages plan client))) (fault_answer plan.service.limit (messages_of talk).fault)
      (ap (λ (s : Split). fault_answer plan.service.limit s.fault) none_said)

  none_taken : (n : ℕ) → take {A = Framed} n [] ≡ []
  none_taken zero = refl
  none_taken (suc n) = refl

  until_greeted : due_until replies plan moment client ≡ greeted talk switched
  until_greeted =
      ap (λ o. front_in talk o ++ due_for replies plan moment client (error_behind plan client) 1 (take client.taken (messages plan client))) waits
      ∙ ap (λ (s : Split). greeted talk switched ++ due_for replies plan moment client (error_behind plan client) 1 (take client.taken s.messages)) none_said
      ∙ ap (λ ms. greeted talk switched ++ due_for replies plan moment client (error_behind plan client) 1 ms) (none_taken client.taken)
      ∙ ap (λ xs. greeted talk switched ++ xs) no_error
      ∙ append-nil (greeted talk switched)

  pub login_front : (payloads : List (List ℕ)) → IsFront (due_until replies plan moment client) (word_in talk (due_until replies plan moment client) ForLogin payloads)
  login_front payloads = record {
    rest = spellings (login_id talk.read (opening_of talk)) payloads;
    is = ap (λ xs. xs ++ spellings (login_id talk.read (opening_of talk)) payloads)
        (until_greeted ∙ sym (ap (λ o. greeted talk (switched_of o)) waits));
  }

-- of whom a word is said as it is accepted, isn't one that was there
pub not_turned : (terms : Terms) (log : Log) (there ending : Now) (e : Entry) (client : Client) (place : WordPlace) (payloads : List (List ℕ))
    → (is_accepted e client ≡ true → ⊥) → WordFor terms log there ending e client place payloads → place ≡ Alone → ⊥
not_turned terms log there ending e client place payloads apart (TurnedAway accepted unserved) is = apart accepted
not_turned terms log there ending e client place payloads apart (NoMemory at behind here) is = absurd (isnt (sym behind ∙ ap is_alone is))
not_turned terms log there ending e client place payloads apart (Left left) is = absurd (cc (is))
not_turned terms log there ending e client place payloads apart (TooMuch at behind much) is = absurd (isnt (sym behind ∙ ap is_alone is))

pub not_accepted : (before : Log) (e : Entry) → Fits before e → (x y : Client) → IsNamed before x → y.link ≡ x.link → is_accepted e y ≡ true → ⊥
not_accepted before (entry.Accepted port link salt) fits x y named same is =
    named_new before link x fits.fresh (maps.link_of link y.link is ∙ same) named
not_accepted before _ fits x y named same is = isnt is

pub none_any : {A : Type 0} (f : A → Bool) (xs : List A) → list_any f xs ≡ false → Each (λ x. f x ≡ false) xs
none_any f [] none = tt
none_any f (x ∷ xs) none = by_test (f x) refl none (none_any f xs) where
  by_test : (b : Bool) → f x ≡ b → (b || list_any f xs) ≡ false → (list_any f xs ≡ false → Each (λ y. f y ≡ false) xs) → Each (λ y. f y ≡ false) (x ∷ xs)
  by_test true is none later = absurd (cc)
  by_test false is none later = (is, later none)
