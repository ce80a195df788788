-- What a client is due as it ends, and behind that.
use Rattle.std.specs.Prelude.{◌≡◌, ◌<◌, ◌≤◌, ℕ, zero, suc, ◌+◌, ◌||◌, Bool, true, false, is_some, length, take, List, [], ◌∷◌, ◌++◌, Option, Some, None}
use Rattle.std.proofs.Common.{refl, sym, ap, ◌∙◌, subst, append-nil, arith, length-append}
use Rattle.std.proofs.lemmas.Bool.{false≢true, true≢false}
use Rattle.std.proofs.lemmas.List.{length-take}
use Rattle.mx_wire.specs.declared.entry.Entry.{Entry}
use Rattle.packet_frame.specs.Packets.{Framed, next_id}
use Rattle.client_seat.proofs.Owing.{due_from, step, told_by}
use Rattle.client_seat.specs.Seats.{is_ended}
use Rattle.client_seat.specs.Stands.{Known, answer_by, answer_to, due_so_far}
use Rattle.client_session.specs.Answers.{Talk, front, front_in, greeted, opening_of}
use Rattle.client_side.specs.Login.{Fails, Opening, Says, Waits, switched_of}
use Rattle.private_model.specs.Commands.{Reply}
use Rattle.log_story.specs.Honest.{IsFront}
use Rattle.log_story.specs.Owed.{due_bytes, due_until, error_behind, messages, name_of, number_of, talk_of, with_word, word_in}
use Rattle.log_story.specs.Plan.{Alone, Behind, ForLogin, LastWord, Plan, WordPlace, own_at, word_at}
use Rattle.log_story.specs.Tale.{Client}
use Rattle.core_tables.specs.declared.client.Client as code
use Rattle.core_stands.specs.Clients.{IsClient, IsOver, IsPhase}
use Rattle.core_stands.specs.Grounds.{Ground, known_on, view_on}
use Rattle.core_laws.proofs.OfEntry.Replies.{answers_on}
use Rattle.core_laws.proofs.OfEntry.Growing.{answers_front, due_grows, due_grows_until, front_behind, front_itself, front_longer, greeted_more, no_messages, none_taken, same_talk}
use Rattle.core_laws.proofs.OfPrepared.Keeping.{heard_within}
use Rattle.core_laws.specs.entry.Dues.{Continues, EndsSaying, IsGrown, IsLeft, IsSaidLast, IsToldAll, StaysOver, due_by, due_on, waits_still, written_by}

-- As it ends.

module _ (x y : Known) (old new : Client) (on : Continues x y old new) where
  abbrev until : List ℕ
  until = due_until y.view.replies y.plan y.moment new

  -- so far its greeting was said

  greets : (switched : Bool) → opening_of (talk_of x.plan old) ≡ Waits switched → due_so_far x old ≡ greeted (talk_of x.plan old) switched
  greets switched at =
      ap (λ (answers : List ℕ). front (talk_of x.plan old) ++ answers)
      (ap (due_from x old [] 1) (none_taken old.taken (messages x.plan old) (no_messages (talk_of x.plan old) on.more switched at)))
      ∙ append-nil (front (talk_of x.plan old)) ∙ ap (front_in (talk_of x.plan old)) at

  greets_on : (to : Opening) → opening_of (talk_of x.plan old) ≡ to → waits_still to ≡ true
      → IsFront (due_so_far x old) (greeted (talk_of y.plan new) (switched_of (opening_of (talk_of y.plan new))))
  greets_on (Waits switched) at waits =
      subst (λ (bytes : List ℕ). IsFront bytes (greeted (talk_of y.plan new) (switched_of (opening_of (talk_of y.plan new))))) (sym (greets switched at))
      (subst (λ (talk : Talk). IsFront (greeted (talk_of x.plan old) switched) (greeted talk (switched_of (opening_of talk)))) (sym (same_talk x y old new on))
      (greeted_more (talk_of x.plan old) on.more switched at))
  greets_on (Says switched response id rest) at waits = absurd (false≢true waits)
  greets_on (Fails switched fault id) at waits = absurd (false≢true waits)

  placed : (place : WordPlace) (payloads : List (List ℕ)) → IsSaidLast place x.plan old
      → IsFront (due_so_far x old) (word_in (talk_of y.plan new) until place payloads)
  placed Alone payloads is = absurd is
  placed ForLogin payloads is = front_longer _ _ _ (greets_on (opening_of (talk_of x.plan old)) refl is)
  placed Behind payloads is = front_longer _ _ _ (due_grows_until x y old new on)

  ends_by : (word : Option LastWord) → word_at y.plan y.moment new.number ≡ word → EndsSaying x y old new
      → IsFront (due_so_far x old) (with_word (talk_of y.plan new) until word)
  ends_by None at says = due_grows_until x y old new on
  ends_by (Some word) at says = placed word.place word.payloads (says word at)

  pub ends_grow : EndsSaying x y old new → IsFront (due_so_far x old) (due_bytes y.view.replies y.plan y.moment new)
  ends_grow says = ends_by (word_at y.plan y.moment new.number) refl says

-- Behind that.

-- where all is answered, what is due is the same

more_same : (x y : Known) (client : Client) (i : ℕ) (message : Framed) (mine others : List ℕ) → is_some (answer_to x client i message) ≡ true
    → ((bytes : List ℕ) → answer_to x client i message ≡ Some bytes → answer_to y client i message ≡ Some bytes) → others ≡ mine
    → told_by (answer_to y client i message) others ≡ told_by (answer_to x client i message) mine
more_same x y client i message mine others told stay later = by (answer_to x client i message) refl where
  by : (answer : Option (List ℕ)) → answer_to x client i message ≡ answer
      → told_by (answer_to y client i message) others ≡ told_by (answer_to x client i message) mine
  by None is = absurd (false≢true (sym (ap is_some is) ∙ told))
  by (Some bytes) is =
      ap (λ (answer : Option (List ℕ)). told_by answer others) (stay bytes is)
      ∙ ap (λ (behind : List ℕ). bytes ++ behind) later
      ∙ ap (λ (answer : Option (List ℕ)). told_by answer mine) (sym is)

all_same : (x y : Known) (client : Client) (last : List ℕ) (i : ℕ) (sent : List Framed)
    → ((k : ℕ) (message : Framed) → i ≤ k → k < i + length sent → is_some (answer_to x client k message) ≡ true)
    → ((k : ℕ) (message : Framed) (bytes : List ℕ) → k < i + length sent → answer_to x client k message ≡ Some bytes
    → answer_to y client k message ≡ Some bytes)
    → due_from y client last i sent ≡ due_from x client last i sent
all_same x y client last i [] told stay = refl
all_same x y client last i (message ∷ sent) told stay =
    let here : i < i + length (message ∷ sent) = omega arith in
    step y client last i message sent
    ∙ more_same x y client i message (due_from x client last (suc i) sent) (due_from y client last (suc i) sent) (told i message (omega arith) here)
    (λ bytes some. stay i message bytes here some)
    (all_same x y client last (suc i) sent (λ k m up less. told k m (omega (arith, up)) (omega (arith, less))) (λ k m bytes less some. stay k m bytes (omega (arith, less)) some))
    ∙ sym (step x client last i message sent)

module _ (x y : Known) (client : Client) (stays : StaysOver x y client) where
  abbrev taken : List Framed
  taken = take client.taken (messages x.plan client)

  within_taken : (k : ℕ) → k < 1 + length taken → k ≤ client.taken
  within_taken k less = omega (arith, less, length-take client.taken (messages x.plan client))

  until_of : Known → List ℕ
  until_of z = front (talk_of x.plan client) ++ due_from z client (error_behind x.plan client) 1 taken

  -- by the plan that both have
  y_until : due_until y.view.replies y.plan y.moment client ≡ front (talk_of x.plan client) ++ due_from y client (error_behind x.plan client) 1 taken
  y_until = λ i. front (talk_of (stays.plan i) client)
      ++ due_from y client (error_behind (stays.plan i) client) 1 (take client.taken (messages (stays.plan i) client))

  until_grows : IsFront (due_until x.view.replies x.plan x.moment client) (due_until y.view.replies y.plan y.moment client)
  until_grows =
      subst (IsFront (due_until x.view.replies x.plan x.moment client)) (sym y_until)
      (front_behind (front (talk_of x.plan client)) _ _
      (subst (λ (list : List Framed). IsFront (due_from x client (error_behind x.plan client) 1 taken) (due_from y client (error_behind x.plan client) 1 list))
      (append-nil taken)
      (answers_front x y client client (error_behind x.plan client) (error_behind x.plan client) 1 taken []
      (λ k message bytes less some. stays.answers k message bytes (within_taken k less) some) (λ k. front_itself (error_behind x.plan client)))))

  until_same : is_some (word_at x.plan x.moment client.number) ≡ true
      → due_until y.view.replies y.plan y.moment client ≡ due_until x.view.replies x.plan x.moment client
  until_same told =
      y_until
      ∙ ap (λ (answers : List ℕ). front (talk_of x.plan client) ++ answers)
      (all_same x y client (error_behind x.plan client) 1 taken (λ k message up less. stays.told k message told (omega (arith, up)) (within_taken k less))
      (λ k message bytes less some. stays.answers k message bytes (within_taken k less) some))

  over_by : (word : Option LastWord) → word_at x.plan x.moment client.number ≡ word
      → IsFront (with_word (talk_of x.plan client) (due_until x.view.replies x.plan x.moment client) word)
      (with_word (talk_of x.plan client) (due_until y.view.replies y.plan y.moment client) word)
  over_by None at = until_grows
  over_by (Some word) at =
      subst (λ (bytes : List ℕ). IsFront (with_word (talk_of x.plan client) (due_until x.view.replies x.plan x.moment client) (Some word))
      (with_word (talk_of x.plan client) bytes (Some word))) (sym (until_same (ap is_some at))) (front_itself _)

  pub over_grows : IsFront (due_bytes x.view.replies x.plan x.moment client) (due_bytes y.view.replies y.plan y.moment client)
  over_grows =
      subst (λ (bytes : List ℕ). IsFront (due_bytes x.view.replies x.plan x.moment client) bytes)
      (λ i. with_word (talk_of (sym stays.plan i) client) (due_until y.view.replies y.plan y.moment client) (sym stays.word i))
      (over_by (word_at x.plan x.moment client.number) refl)

-- A client that isn't concerned.

module _ (old new : Ground) (e : Entry) (client : Client) (is : IsLeft old new e client) where
  goes_on : old.over client.number ≡ false → Continues (known_on old) (known_on new) client client
  goes_on going = record {
    plan = is.stay.plan;
    number = refl;
    port = refl;
    salt = refl;
    more = [];
    read = sym (append-nil client.read);
    taken = omega arith;
    within = is.within going;
    answers = answers_on (known_on old) (known_on new) client is.stay;
  }

  stays_over : old.over client.number ≡ true → StaysOver (known_on old) (known_on new) client
  stays_over over = record {
    plan = is.stay.plan;
    word = is.word over;
    answers = answers_on (known_on old) (known_on new) client is.stay;
    told = is.told over;
  }

  due_by_over : (b : Bool) → old.over client.number ≡ b → IsFront (due_by b (known_on old) client) (due_by b (known_on new) client)
  due_by_over false going = due_grows (known_on old) (known_on new) client client (goes_on going)
  due_by_over true over = over_grows (known_on old) (known_on new) client (stays_over over)

  still_some : (ordinal : ℕ) (message : Framed) (answer : Option (List ℕ)) → answer_to (known_on old) client ordinal message ≡ answer → is_some answer ≡ true
      → ordinal ≤ client.taken → is_some (answer_to (known_on new) client ordinal message) ≡ true
  still_some ordinal message None at some within = absurd (false≢true some)
  still_some ordinal message (Some bytes) at some within =
      ap is_some (answers_on (known_on old) (known_on new) client is.stay ordinal message bytes within at)

  still_told : new.over client.number ≡ true → IsToldAll new client
  still_told over ordinal message word some within =
      let was : old.over client.number ≡ true = sym is.over ∙ over in
      still_some ordinal message (answer_to (known_on old) client ordinal message) refl
      (is.told was ordinal message (sym (ap is_some (is.word was)) ∙ word) some within) within

  pub left_grown : IsGrown old new e client
  left_grown = record {
    was = client;
    seated = is.seated;
    link = refl;
    count = let none : length (written_by client.link e) ≡ 0 = ap length is.unwritten in omega (arith, none);
    due = subst (λ (b : Bool). IsFront (due_on old client) (due_by b (known_on new) client)) (sym is.over)
        (due_by_over (old.over client.number) refl);
    told = still_told;
  }

-- What of that the row of a client says.

going_phase : (g : Ground) (client : Client) (row : code.Client) (ended : Bool) → IsPhase ended g client row → g.over client.number ≡ false → ended ≡ false
going_phase g client row false is going = refl
going_phase g client row true is going = absurd (true≢false (sym is.over ∙ going))

pub row_within : (g : Ground) (client : Client) (row : code.Client) → IsClient g client row → g.over client.number ≡ false
    → client.taken ≤ length (messages g.plan client)
row_within g client row is going =
    heard_within row.desk.seat.phase g.plan client row.desk.seat (going_phase g client row (is_ended row.desk.seat.phase) is.phase going) is.heard

some_by : (own : Option (List (List ℕ))) (reply : Option Reply) (number id : ℕ) → (is_some own || is_some reply) ≡ true
    → is_some (answer_by own reply number id) ≡ true
some_by (Some payloads) reply number id is = refl
some_by None (Some reply) number id is = refl
some_by None None number id is = absurd (false≢true is)

told_by_row : (g : Ground) (client : Client) (row : code.Client) → IsOver g client row → IsToldAll g client
told_by_row g client row is zero message word some within = absurd (omega (arith, some))
told_by_row g client row is (suc ordinal) message word some within =
    some_by (own_at g.plan g.tale.moment (name_of client (suc ordinal))) ((view_on g).replies (name_of client (suc ordinal)))
    (number_of g.plan (name_of client (suc ordinal))) (next_id message.last) (is.told word (suc ordinal) within)

over_phase : (g : Ground) (client : Client) (row : code.Client) (ended : Bool) → IsPhase ended g client row → g.over client.number ≡ true → IsOver g client row
over_phase g client row true is over = is
over_phase g client row false is over = absurd (false≢true (sym is.going ∙ over))

pub row_told : (g : Ground) (client : Client) (row : code.Client) → IsClient g client row → g.over client.number ≡ true → IsToldAll g client
row_told g client row is over = told_by_row g client row (over_phase g client row (is_ended row.desk.seat.phase) is.phase over)
