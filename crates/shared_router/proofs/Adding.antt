-- As more is read of a client, more of its messages are taken up and more of them are answered, what it is due goes on, but for last words.
use Rattle.std.specs.Prelude.{◌≡◌, ◌+◌, ◌≤◌, ℕ, zero, suc, Bool, true, false, if◌then◌else◌, is_some, length, nat_eq, take, List, [], ◌∷◌, ◌++◌, Option, Some, None}
use Rattle.std.proofs.Common.{refl, sym, ap, ◌∙◌, subst, append_assoc, append-nil, arith}
use Rattle.std.proofs.lemmas.Bool.{eqb-true}
use Rattle.std.proofs.lemmas.List.{length-take}
use Rattle.client_session.specs.Accounts.{account_of}
use Rattle.client_session.specs.Answers.{Talk, commands, commands_in, fault_answer, front, front_in, greeted, heard_more, if_known, messages_of, opening_of, users_of}
use Rattle.client_side.specs.Laws.{Grows, opening-grows}
use Rattle.client_side.specs.Login.{Fails, Opening, Says, Waits, switch_said, switched_of}
use Rattle.packet_frame.specs.Laws.{first_message-empty, split-grown, split-nothing}
use Rattle.packet_frame.specs.Packets.{Framed, Split, grown, next_id, spellings, split}
use Rattle.packet_frame.specs.declared.fault.FrameFault.{FrameFault}
use Rattle.server_side.specs.Account.{Account}
use Rattle.private_model.specs.Commands.{Reply}
use Rattle.private_model.specs.Names.{MessageName}
use Rattle.reply_track.specs.Grammar.{renamed}
use Rattle.log_story.specs.Honest.{IsFront}
use Rattle.log_story.specs.Owed.{answered_with, due_for, due_until, error_behind, kind_of, messages, name_of, number_of, talk_of}
use Rattle.log_story.specs.Plan.{Plan, own_at}
use Rattle.log_story.specs.Tale.{Client}
use Rattle.log_story.proofs.Writing.{front-trans}
use Rattle.shared_router.specs.Onward.{AnswerStays}

behind : (front xs ys : List ℕ) → IsFront xs ys → IsFront (front ++ xs) (front ++ ys)
behind front xs ys at = record { rest = at.rest; is = append_assoc front xs at.rest ∙ ap (λ zs. front ++ zs) at.is }

nothing_first : (xs : List ℕ) → IsFront [] xs
nothing_first xs = record { rest = xs; is = refl }

itself : (xs : List ℕ) → IsFront xs xs
itself xs = record { rest = []; is = append-nil xs }

then_more : (xs ys : List ℕ) → IsFront xs (xs ++ ys)
then_more xs ys = record { rest = ys; is = refl }

-- The front.

module _ (talk : Talk) (more : List ℕ) where
  abbrev later : Talk
  later = heard_more talk more

  greeted_more : (b : Bool) → IsFront (greeted talk false) (greeted talk b)
  greeted_more true = behind _ [] (switch_said talk.salt) (nothing_first (switch_said talk.salt))
  greeted_more false = itself (greeted talk false)

  greeted_in : (o : Opening) → IsFront (greeted talk (switched_of o)) (front_in talk o)
  greeted_in (Waits switched) = itself (greeted talk switched)
  greeted_in (Says switched response id rest) = then_more (greeted talk switched) _
  greeted_in (Fails switched fault id) = then_more (greeted talk switched) _

  front_by : (o p : Opening) → Grows o more p → IsFront (front_in talk o) (front_in talk p)
  front_by (Waits true) p grows =
      subst (λ b. IsFront (greeted talk b) (front_in talk p)) grows (greeted_in p)
  front_by (Waits false) p grows = front-trans (greeted talk false) (greeted talk (switched_of p)) (front_in talk p) (greeted_more (switched_of p)) (greeted_in p)
  front_by (Says switched response id rest) p grows = subst (λ q. IsFront (front_in talk (Says switched response id rest)) (front_in talk q)) (sym grows) (itself _)
  front_by (Fails switched fault id) p grows = subst (λ q. IsFront (front_in talk (Fails switched fault id)) (front_in talk q)) (sym grows) (itself _)

  pub front_on : IsFront (front talk) (front later)
  front_on = front_by (opening_of talk) (opening_of later) (opening-grows talk.setup.limit talk.read more)

  -- before a login is there, no command is; and behind it the front stays
  pub data FrontStays : Type 0 where
    NoneYet : commands talk ≡ [] → FrontStays
    Stays : front later ≡ front talk → FrontStays

  stays_by : (o p : Opening) → Grows o more p → opening_of talk ≡ o → opening_of later ≡ p → FrontStays
  stays_by (Waits switched) p grows was is = NoneYet (ap (commands_in talk) was)
  stays_by (Says switched response id rest) p grows was is = Stays (ap (front_in talk) (is ∙ grows) ∙ sym (ap (front_in talk) was))
  stays_by (Fails switched fault id) p grows was is = Stays (ap (front_in talk) (is ∙ grows) ∙ sym (ap (front_in talk) was))

  pub front_stays : FrontStays
  front_stays = stays_by (opening_of talk) (opening_of later) (opening-grows talk.setup.limit talk.read more) refl refl

  -- Its messages.

  known_more : (account : Option Account) (rest : List ℕ) → (others : List ℕ) × (if_known account (rest ++ more) ≡ if_known account rest ++ others)
  known_more None rest = ([], refl)
  known_more (Some account) rest = (more, refl)

  commands_by : (o p : Opening) → Grows o more p → (others : List ℕ) × (commands_in talk p ≡ commands_in talk o ++ others)
  commands_by (Waits switched) p grows = (commands_in talk p, refl)
  commands_by (Says switched response id rest) p grows =
      let known = known_more (account_of (users_of talk) talk.salt response) rest in (known.0, ap (commands_in talk) grows ∙ known.1)
  commands_by (Fails switched fault id) p grows = ([], ap (commands_in talk) grows)

  commands_on : (others : List ℕ) × (commands later ≡ commands talk ++ others)
  commands_on = commands_by (opening_of talk) (opening_of later) (opening-grows talk.setup.limit talk.read more)

  -- they stay, others follow; and none behind one that can't be
  pub record HasMore (old new : Split) : Type 0 where
    pub others : List Framed
    pub messages : new.messages ≡ old.messages ++ others
    pub stays : is_some old.fault ≡ true → (others ≡ []) × (new.fault ≡ old.fault)

  grown_more : (limit : ℕ) (ms : List Framed) (rest : List ℕ) (fault : Option FrameFault) (bytes : List ℕ)
      → HasMore (record { messages = ms; rest = rest; fault = fault }) (grown limit 0 ms rest fault bytes)
  grown_more limit ms rest None bytes = record { others = (split limit 0 (rest ++ bytes)).messages; messages = refl; stays = λ is. absurd (cc) }
  grown_more limit ms rest (Some fault) bytes = record { others = []; messages = sym (append-nil ms); stays = λ is. (refl, refl) }

  pub messages_on : HasMore (messages_of talk) (messages_of later)
  messages_on =
      let old : Split = messages_of talk in
      subst (HasMore old) (sym (ap (split talk.setup.limit 0) commands_on.1 ∙ split-grown talk.setup.limit 0 (commands talk) commands_on.0))
      (grown_more talk.setup.limit old.messages old.rest old.fault commands_on.0)

-- no messages of no bytes
nothing_split : (limit : ℕ) → split limit 0 [] ≡ record { messages = []; rest = []; fault = None }
nothing_split limit = split-nothing limit 0 [] (first_message-empty limit 0)

-- the first of more messages
taken_more : (a b : ℕ) (xs ys : List Framed) → a ≤ b → a ≤ length xs → (others : List Framed) × (take b (xs ++ ys) ≡ take a xs ++ others)
taken_more zero b xs ys less within = (take b (xs ++ ys), refl)
taken_more (suc a) zero xs ys less within = absurd (omega (arith, less))
taken_more (suc a) (suc b) [] ys less within = absurd (omega (arith, within))
taken_more (suc a) (suc b) (x ∷ xs) ys less within =
    let rest = taken_more a b xs ys (omega (arith, less)) (omega (arith, within)) in (rest.0, ap (λ zs. x ∷ zs) rest.1)

-- The answers.

module _ (plan : Plan) (old new : ℕ) (was is : MessageName → Option Reply) (client : Client) where
  abbrev IsOn : ℕ → Type 0
  IsOn i = AnswerStays (own_at plan old (name_of client i)) (was (name_of client i)) (own_at plan new (name_of client i)) (is (name_of client i))

  answer_on : (own own_later : Option (List (List ℕ))) (reply reply_later : Option Reply) (number id : ℕ) (xs ys : List ℕ) → AnswerStays own reply own_later reply_later
      → IsFront xs ys → IsFront (answered_with own reply number id xs) (answered_with own_later reply_later number id ys)
  answer_on (Some payloads) own_later reply reply_later number id xs ys stays at =
      subst (λ o. IsFront (spellings id payloads ++ xs) (answered_with o reply_later number id ys)) (sym stays) (behind (spellings id payloads) xs ys at)
  answer_on None own_later None reply_later number id xs ys stays at = nothing_first (answered_with own_later reply_later number id ys)
  answer_on None own_later (Some reply) reply_later number id xs ys stays at =
      let spelt : List ℕ = spellings id (renamed (kind_of reply) number reply.payloads) in
      subst (λ o. IsFront (spelt ++ xs) (answered_with o reply_later number id ys)) (sym stays.0)
      (subst (λ r. IsFront (spelt ++ xs) (answered_with None r number id ys)) (sym stays.1) (behind spelt xs ys at))

  answers_on : (last last_later : List ℕ) (j : ℕ) (xs ys : List Framed) → ((i : ℕ) → suc i ≤ j + length xs → IsOn (suc i))
      → IsFront last (due_for is plan new client last_later (suc (j + length xs)) ys)
      → IsFront (due_for was plan old client last (suc j) xs) (due_for is plan new client last_later (suc j) (xs ++ ys))
  answers_on last last_later j [] ys stay at = subst (λ i. IsFront last (due_for is plan new client last_later (suc i) ys)) (omega arith) at
  answers_on last last_later j (x ∷ xs) ys stay at =
      let name : MessageName = name_of client (suc j) in
      answer_on (own_at plan old name) (own_at plan new name) (was name) (is name) (number_of plan name) (next_id x.last)
      (due_for was plan old client last (suc (suc j)) xs) (due_for is plan new client last_later (suc (suc j)) (xs ++ ys)) (stay j (omega arith))
      (answers_on last last_later (suc j) xs ys (λ i below. stay i (omega (arith, below)))
      (subst (λ i. IsFront last (due_for is plan new client last_later (suc i) ys)) (omega arith) at))

-- A client that was read, and took up, more.

module _ (plan : Plan) (old new : ℕ) (was is : MessageName → Option Reply) (x : Client) (more : List ℕ) (count : ℕ) where
  abbrev pub further : Client
  further = record x { read = x.read ++ more; taken = count }

  abbrev talk_was : Talk
  talk_was = talk_of plan x

  -- it is due the same by its name
  due_alike : (last : List ℕ) (i : ℕ) (zs : List Framed) → due_for is plan new further last i zs ≡ due_for is plan new x last i zs
  due_alike last i [] = refl
  due_alike last i (z ∷ zs) =
      ap (answered_with (own_at plan new (name_of x i)) (is (name_of x i)) (number_of plan (name_of x i)) (next_id z.last)) (due_alike last (suc i) zs)

  abbrev error_in : Split → ℕ → List ℕ
  error_in s n = if nat_eq n (length s.messages) then fault_answer plan.service.limit s.fault else []

  -- the answers so far
  abbrev answers_were : Split → List ℕ
  answers_were s = due_for was plan old x (error_in s x.taken) 1 (take x.taken s.messages)

  abbrev answers_are : Split → List ℕ
  answers_are s = due_for is plan new x (error_in s count) 1 (take count s.messages)

  abbrev Stayed : Type 0
  Stayed = (i : ℕ) → suc i ≤ x.taken → IsOn plan old new was is x (suc i)

  short : (n : ℕ) (zs : List Framed) → length (take n zs) ≤ n
  short n zs = let size = length-take n zs in omega (arith, size)

  -- no error was due
  on_by : (last last_later : List ℕ) (zs others : List Framed) → last ≡ [] → length zs ≤ x.taken → Stayed
      → IsFront (due_for was plan old x last 1 zs) (due_for is plan new x last_later 1 (zs ++ others))
  on_by last last_later zs others none within stay =
      answers_on plan old new was is x last last_later 0 zs others (λ i below. stay i (omega (arith, below, within)))
      (subst (λ l. IsFront l (due_for is plan new x last_later (suc (0 + length zs)) others)) (sym none) (nothing_first (due_for is plan new x last_later (suc (0 + length zs)) others)))

  same_on : (last : List ℕ) (zs : List Framed) → length zs ≤ x.taken → Stayed → IsFront (due_for was plan old x last 1 zs) (due_for is plan new x last 1 zs)
  same_on last zs within stay =
      subst (λ ys. IsFront (due_for was plan old x last 1 zs) (due_for is plan new x last 1 ys)) (append-nil zs)
      (answers_on plan old new was is x last last 0 zs [] (λ i below. stay i (omega (arith, below, within))) (itself last))

  module _ (s t : Split) (has : HasMore talk_was more s t) (least : x.taken ≤ count) (within : x.taken ≤ length s.messages) (most : count ≤ length t.messages) (stay : Stayed) where
    more_by : error_in s x.taken ≡ [] → IsFront (answers_were s) (answers_are t)
    more_by none =
        let on = taken_more x.taken count s.messages has.others least within in
        subst (λ zs. IsFront (answers_were s) (due_for is plan new x (error_in t count) 1 zs)) (sym (ap (take count) has.messages ∙ on.1))
        (on_by (error_in s x.taken) (error_in t count) (take x.taken s.messages) on.0 none (short x.taken s.messages) stay)

    -- behind a message that can't be nothing comes
    faulty : is_some s.fault ≡ true → x.taken ≡ length s.messages → IsFront (answers_were s) (answers_are t)
    faulty fault all =
        let stays = has.stays fault in
        let same : t.messages ≡ s.messages = has.messages ∙ ap (λ zs. s.messages ++ zs) stays.0 ∙ append-nil s.messages in
        let sizes : length t.messages ≡ length s.messages = ap (λ (zs : List Framed). length zs) same in
        let it : count ≡ x.taken = omega (arith, sizes, all, least, most) in
        let error : error_in t count ≡ error_in s x.taken =
        ap (λ n. error_in t n) it ∙ ap (λ zs. if nat_eq x.taken (length zs) then fault_answer plan.service.limit t.fault else []) same
        ∙ ap (λ o. if nat_eq x.taken (length s.messages) then fault_answer plan.service.limit o else []) stays.1 in
        subst (λ l. IsFront (answers_were s) (due_for is plan new x l 1 (take count t.messages))) (sym error)
        (subst (λ zs. IsFront (answers_were s) (due_for is plan new x (error_in s x.taken) 1 zs)) (sym (ap (λ n. take n t.messages) it ∙ ap (take x.taken) same))
        (same_on (error_in s x.taken) (take x.taken s.messages) (short x.taken s.messages) stay))

    by_fault : (o : Option FrameFault) → s.fault ≡ o → (b : Bool) → nat_eq x.taken (length s.messages) ≡ b → IsFront (answers_were s) (answers_are t)
    by_fault o fault false at = more_by (ap (λ b. if b then fault_answer plan.service.limit s.fault else []) at)
    by_fault None fault true at =
        more_by (ap (λ b. if b then fault_answer plan.service.limit s.fault else []) at ∙ ap (fault_answer plan.service.limit) fault)
    by_fault (Some f) fault true at = faulty (ap (λ (o : Option FrameFault). is_some o) fault) (eqb-true x.taken (length s.messages) at)

    answers_go_on : IsFront (answers_were s) (answers_are t)
    answers_go_on = by_fault s.fault refl (nat_eq x.taken (length s.messages)) refl

  none_taken : (n : ℕ) → take {A = Framed} n [] ≡ []
  none_taken zero = refl
  none_taken (suc n) = refl

  abbrev no_bytes : List ℕ
  no_bytes = []

  no_error : (b : Bool) → (if b then no_bytes else no_bytes) ≡ no_bytes
  no_error true = refl
  no_error false = refl

  none_due : answers_were (record { messages = []; rest = []; fault = None }) ≡ []
  none_due =
      ap (λ zs. due_for was plan old x (if nat_eq x.taken 0 then [] else []) 1 zs) (none_taken x.taken) ∙ no_error (nat_eq x.taken 0)

  until_by : FrontStays talk_was more → IsFront (answers_were (messages_of talk_was)) (answers_are (messages_of (heard_more talk_was more)))
      → IsFront (front talk_was ++ answers_were (messages_of talk_was)) (front (heard_more talk_was more) ++ answers_are (messages_of (heard_more talk_was more)))
  until_by (Stays same) on =
      subst (λ xs. IsFront (front talk_was ++ answers_were (messages_of talk_was)) (xs ++ answers_are (messages_of (heard_more talk_was more)))) (sym same)
      (behind (front talk_was) _ _ on)
  until_by (NoneYet none) on =
      let empty : answers_were (messages_of talk_was) ≡ [] =
      ap answers_were (ap (split plan.service.limit 0) none ∙ nothing_split plan.service.limit) ∙ none_due in
      subst (λ xs. IsFront (front talk_was ++ xs) (front (heard_more talk_was more) ++ answers_are (messages_of (heard_more talk_was more)))) (sym empty)
      (subst (λ xs. IsFront xs (front (heard_more talk_was more) ++ answers_are (messages_of (heard_more talk_was more)))) (sym (append-nil (front talk_was)))
      (front-trans (front talk_was) (front (heard_more talk_was more)) _ (front_on talk_was more) (then_more (front (heard_more talk_was more)) _)))

  pub until_on : x.taken ≤ count → x.taken ≤ length (messages plan x) → count ≤ length (messages plan further) → Stayed
      → IsFront (due_until was plan old x) (due_until is plan new further)
  until_on least within most stay =
      subst (λ xs. IsFront (due_until was plan old x) (front (heard_more talk_was more) ++ xs))
      (sym (due_alike (error_behind plan further) 1 (take count (messages plan further))))
      (until_by (front_stays talk_was more)
      (answers_go_on (messages_of talk_was) (messages_of (heard_more talk_was more)) (messages_on talk_was more) least within most stay))
