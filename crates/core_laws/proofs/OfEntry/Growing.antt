-- What a client is due only grows, as it says more, as its messages are taken up, and as they are answered.
use Rattle.std.specs.Prelude.{◌≡◌, ◌⊎◌, ◌<◌, ◌≤◌, ℕ, zero, suc, ◌+◌, Bool, true, false, length, take, drop, List, [], ◌∷◌, ◌++◌, Option, Some, None}
use Rattle.std.proofs.Common.{refl, sym, ap, ◌∙◌, subst, append_assoc, append-nil, arith, inl, inr}
use Rattle.std.proofs.lemmas.List.{length-take, take-append-drop, take-append-le, take-take}
use Rattle.packet_frame.specs.Laws.{first_message-empty, split-grown, split-nothing}
use Rattle.packet_frame.specs.Packets.{Framed, Split, grown, split}
use Rattle.packet_frame.specs.declared.fault.FrameFault.{FrameFault}
use Rattle.server_side.specs.Account.{Account}
use Rattle.client_seat.proofs.Owing.{due_from, step, told_by}
use Rattle.client_seat.specs.Stands.{Known, answer_to, due_so_far}
use Rattle.client_session.specs.Accounts.{account_of}
use Rattle.client_session.specs.Answers.{Talk, client_messages, commands_in, front, front_in, greeted, heard_more, if_known, messages_of, opening_of, users_of}
use Rattle.client_side.specs.Laws.{opening-fails-more, opening-says-more, opening-switched-more}
use Rattle.client_side.specs.Login.{Fails, Opening, Says, Waits, switched_of}
use Rattle.log_story.specs.Honest.{IsFront}
use Rattle.log_story.specs.Owed.{due_until, error_behind, messages, talk_of}
use Rattle.log_story.specs.Tale.{Client}
use Rattle.log_story.proofs.Writing.{front-trans}
use Rattle.core_laws.specs.entry.Dues.{Continues}

-- Fronts.

pub nothing_first : (xs : List ℕ) → IsFront [] xs
nothing_first xs = record { rest = xs; is = refl }

pub front_itself : (xs : List ℕ) → IsFront xs xs
front_itself xs = record { rest = []; is = append-nil xs }

pub front_behind : (front xs ys : List ℕ) → IsFront xs ys → IsFront (front ++ xs) (front ++ ys)
front_behind front xs ys at = record { rest = at.rest; is = append_assoc front xs at.rest ∙ ap (λ zs. front ++ zs) at.is }

pub front_longer : (xs ys more : List ℕ) → IsFront xs ys → IsFront xs (ys ++ more)
front_longer xs ys more at = record { rest = at.rest ++ more; is = sym (append_assoc xs at.rest more) ∙ ap (λ zs. zs ++ more) at.is }

-- Answers.

-- one more before answers that are a front of answers
more_front : (x y : Known) (old new : Client) (i : ℕ) (message : Framed) (mine others : List ℕ)
    → ((bytes : List ℕ) → answer_to x old i message ≡ Some bytes → answer_to y new i message ≡ Some bytes) → IsFront mine others
    → IsFront (told_by (answer_to x old i message) mine) (told_by (answer_to y new i message) others)
more_front x y old new i message mine others stay later = by (answer_to x old i message) refl where
  by : (answer : Option (List ℕ)) → answer_to x old i message ≡ answer → IsFront (told_by answer mine) (told_by (answer_to y new i message) others)
  by None is = nothing_first (told_by (answer_to y new i message) others)
  by (Some bytes) is =
      subst (λ (answer : Option (List ℕ)). IsFront (bytes ++ mine) (told_by answer others)) (sym (stay bytes is)) (front_behind bytes mine others later)

pub answers_front : (x y : Known) (old new : Client) (last now : List ℕ) (i : ℕ) (sent later : List Framed)
    → ((k : ℕ) (message : Framed) (bytes : List ℕ) → k < i + length sent → answer_to x old k message ≡ Some bytes → answer_to y new k message ≡ Some bytes)
    → ((k : ℕ) → IsFront last (due_from y new now k later))
    → IsFront (due_from x old last i sent) (due_from y new now i (sent ++ later))
answers_front x y old new last now i [] later stay base = base i
answers_front x y old new last now i (message ∷ sent) later stay base =
    let mine : List ℕ = due_from x old last (suc i) sent in
    let others : List ℕ = due_from y new now (suc i) (sent ++ later) in
    let behind : IsFront mine others =
    answers_front x y old new last now (suc i) sent later (λ k m bytes less some. stay k m bytes (omega (arith, less)) some) base in
    let here : i < i + length (message ∷ sent) = omega arith in
    subst (λ (bytes : List ℕ). IsFront bytes (due_from y new now i (message ∷ (sent ++ later)))) (sym (step x old last i message sent))
    (subst (λ (bytes : List ℕ). IsFront (told_by (answer_to x old i message) mine) bytes)
    (sym (step y new now i message (sent ++ later)))
    (more_front x y old new i message mine others (λ bytes some. stay i message bytes here some) behind))

-- what stands behind them all stands there last
pub last_front : (x : Known) (client : Client) (last : List ℕ) (i : ℕ) (sent : List Framed) → IsFront (due_from x client [] i sent) (due_from x client last i sent)
last_front x client last i [] = nothing_first last
last_front x client last i (message ∷ sent) =
    let mine : List ℕ = due_from x client [] (suc i) sent in
    let others : List ℕ = due_from x client last (suc i) sent in
    subst (λ (bytes : List ℕ). IsFront bytes (due_from x client last i (message ∷ sent))) (sym (step x client [] i message sent))
    (subst (λ (bytes : List ℕ). IsFront (told_by (answer_to x client i message) mine) bytes) (sym (step x client last i message sent))
    (more_front x x client client i message mine others (λ bytes some. some) (last_front x client last (suc i) sent)))

-- Messages.

pub record IsMore (was now : List Framed) : Type 0 where
  pub later : List Framed
  pub is : now ≡ was ++ later

grown_more : (limit : ℕ) (messages : List Framed) (rest : List ℕ) (fault : Option FrameFault) (more : List ℕ)
    → IsMore messages (grown limit 0 messages rest fault more).messages
grown_more limit messages rest None more = record { later = (split limit 0 (rest ++ more)).messages; is = refl }
grown_more limit messages rest (Some fault) more = record { later = []; is = sym (append-nil messages) }

split_more : (limit : ℕ) (bytes more : List ℕ) → IsMore (split limit 0 bytes).messages (split limit 0 (bytes ++ more)).messages
split_more limit bytes more =
    subst (λ (s : Split). IsMore (split limit 0 bytes).messages s.messages) (sym (split-grown limit 0 bytes more))
    (grown_more limit (split limit 0 bytes).messages (split limit 0 bytes).rest (split limit 0 bytes).fault more)

none_there : (limit : ℕ) → (split limit 0 []).messages ≡ []
none_there limit = ap (λ (s : Split). s.messages) (split-nothing limit 0 [] (first_message-empty limit 0))

from_none : (limit : ℕ) (now : List Framed) → IsMore (split limit 0 []).messages now
from_none limit now = record { later = now; is = ap (λ (was : List Framed). was ++ now) (sym (none_there limit)) }

module _ (talk : Talk) (more : List ℕ) where
  abbrev longer : Talk
  longer = heard_more talk more

  known_more : (account : Option Account) (rest : List ℕ)
      → IsMore (client_messages talk.setup.limit (if_known account rest)).messages (client_messages talk.setup.limit (if_known account (rest ++ more))).messages
  known_more None rest = from_none talk.setup.limit _
  known_more (Some account) rest = split_more talk.setup.limit rest more

  pub messages_more : IsMore (messages_of talk).messages (messages_of longer).messages
  messages_more = by (opening_of talk) refl where
    by : (o : Opening) → opening_of talk ≡ o → IsMore (messages_of talk).messages (messages_of longer).messages
    by (Waits switched) at =
        subst (λ (p : Opening). IsMore (client_messages talk.setup.limit (commands_in talk p)).messages (messages_of longer).messages) (sym at)
        (from_none talk.setup.limit _)
    by (Fails switched fault id) at =
        subst (λ (p : Opening). IsMore (client_messages talk.setup.limit (commands_in talk p)).messages (messages_of longer).messages) (sym at)
        (from_none talk.setup.limit _)
    by (Says switched response id rest) at =
        subst (λ (p : Opening). IsMore (client_messages talk.setup.limit (commands_in talk p)).messages (messages_of longer).messages) (sym at)
        (subst (λ (p : Opening). IsMore (client_messages talk.setup.limit (if_known (account_of (users_of talk) talk.salt response) rest)).messages
        (client_messages talk.setup.limit (commands_in longer p)).messages)
        (sym (opening-says-more talk.setup.limit talk.read more switched response id rest at))
        (known_more (account_of (users_of talk) talk.salt response) rest))

  -- the answer to its login

  greeted_first : (switched : Bool) → IsFront (greeted talk false) (greeted talk switched)
  greeted_first true = front_behind _ [] _ (nothing_first _)
  greeted_first false = front_itself _

  greeted_front : (o : Opening) → IsFront (greeted talk (switched_of o)) (front_in talk o)
  greeted_front (Waits switched) = front_itself _
  greeted_front (Says switched response id rest) = record { rest = _; is = refl }
  greeted_front (Fails switched fault id) = record { rest = _; is = refl }

  pub greeted_more : (switched : Bool) → opening_of talk ≡ Waits switched → IsFront (greeted talk switched) (greeted talk (switched_of (opening_of longer)))
  greeted_more true at =
      subst (λ (b : Bool). IsFront (greeted talk true) (greeted talk b)) (sym (opening-switched-more talk.setup.limit talk.read more at)) (front_itself _)
  greeted_more false at = greeted_first (switched_of (opening_of longer))

  pub no_messages : (switched : Bool) → opening_of talk ≡ Waits switched → (messages_of talk).messages ≡ []
  no_messages switched at =
      ap (λ (p : Opening). (client_messages talk.setup.limit (commands_in talk p)).messages) at ∙ none_there talk.setup.limit

  -- its answer stands, or nothing but the greeting was said
  abbrev Fronts : Type 0
  Fronts = (front longer ≡ front talk) ⊎ (((messages_of talk).messages ≡ []) × IsFront (front talk) (front longer))

  fronts : Fronts
  fronts = by (opening_of talk) refl where
    by : (o : Opening) → opening_of talk ≡ o → Fronts
    by (Says switched response id rest) at =
        inl (ap (front_in longer) (opening-says-more talk.setup.limit talk.read more switched response id rest at) ∙ sym (ap (front_in talk) at))
    by (Fails switched fault id) at =
        inl (ap (front_in longer) (opening-fails-more talk.setup.limit talk.read more switched fault id at) ∙ sym (ap (front_in talk) at))
    by (Waits switched) at =
        inr (
          no_messages switched at,
          subst (λ (bytes : List ℕ). IsFront bytes (front longer)) (sym (ap (front_in talk) at))
              (front-trans (greeted talk switched) (greeted talk (switched_of (opening_of longer))) (front longer) (greeted_more switched at)
              (greeted_front (opening_of longer))),
        )

  -- a front of what is said so far, where answers are a front of answers
  pub said_front : (answers others : List ℕ) → ((messages_of talk).messages ≡ [] → answers ≡ []) → IsFront answers others
      → IsFront (front talk ++ answers) (front longer ++ others)
  said_front answers others none is = by fronts where
    by : Fronts → IsFront (front talk ++ answers) (front longer ++ others)
    by (inl same) = subst (λ (bytes : List ℕ). IsFront (front talk ++ answers) (bytes ++ others)) (sym same) (front_behind (front talk) answers others is)
    by (inr greets) =
        subst (λ (bytes : List ℕ). IsFront bytes (front longer ++ others))
        (sym (ap (λ (more : List ℕ). front talk ++ more) (none greets.0) ∙ append-nil (front talk)))
        (front_longer (front talk) (front longer) others greets.1)

-- A client that goes on.

taken_more : (was now : List Framed) (n m : ℕ) → IsMore was now → n ≤ m → n ≤ length was → take m now ≡ take n was ++ drop n (take m now)
taken_more was now n m more less within =
    sym (take-append-drop n (take m now))
    ∙ ap (λ (front : List Framed). front ++ drop n (take m now))
    (take-take n m now less ∙ ap (take n) more.is ∙ take-append-le n was more.later within)

take_none : (n : ℕ) → take {A = Framed} n [] ≡ []
take_none zero = refl
take_none (suc n) = refl

pub none_taken : (n : ℕ) (xs : List Framed) → xs ≡ [] → take n xs ≡ []
none_taken n xs none = ap (take n) none ∙ take_none n

module _ (x y : Known) (old new : Client) (on : Continues x y old new) where
  abbrev sent : List Framed
  sent = take old.taken (messages x.plan old)

  pub same_talk : talk_of y.plan new ≡ heard_more (talk_of x.plan old) on.more
  same_talk = λ i. record { setup = (on.plan i).service; number = (on.number i).0; port = on.port i; salt = on.salt i; read = on.read i }

  more_messages : IsMore (messages x.plan old) (messages y.plan new)
  more_messages =
      subst (λ (talk : Talk). IsMore (messages x.plan old) (messages_of talk).messages) (sym same_talk) (messages_more (talk_of x.plan old) on.more)

  within_sent : 1 + length sent ≤ suc old.taken
  within_sent = omega (arith, length-take old.taken (messages x.plan old))

  -- with whatever stands behind the answers
  pub so_far_front : (now : List ℕ)
      → IsFront (due_so_far x old) (front (talk_of y.plan new) ++ due_from y new now 1 (take new.taken (messages y.plan new)))
  so_far_front now =
      let later : List Framed = drop old.taken (take new.taken (messages y.plan new)) in
      let all : take new.taken (messages y.plan new) ≡ sent ++ later =
      taken_more (messages x.plan old) (messages y.plan new) old.taken new.taken more_messages on.taken on.within in
      let answers : IsFront (due_from x old [] 1 sent) (due_from y new now 1 (take new.taken (messages y.plan new))) =
      subst (λ (list : List Framed). IsFront (due_from x old [] 1 sent) (due_from y new now 1 list)) (sym all)
      (answers_front x y old new [] now 1 sent later
      (λ k message bytes less some. on.answers k message bytes (omega (arith, less, within_sent)) some) (λ k. nothing_first (due_from y new now k later))) in
      subst (λ (talk : Talk). IsFront (due_so_far x old) (front talk ++ due_from y new now 1 (take new.taken (messages y.plan new)))) (sym same_talk)
      (said_front (talk_of x.plan old) on.more (due_from x old [] 1 sent) (due_from y new now 1 (take new.taken (messages y.plan new)))
      (λ empty. ap (due_from x old [] 1) (none_taken old.taken (messages x.plan old) empty)) answers)

  pub due_grows : IsFront (due_so_far x old) (due_so_far y new)
  due_grows = so_far_front []

  -- also where it is told an error behind all
  pub due_grows_until : IsFront (due_so_far x old) (due_until y.view.replies y.plan y.moment new)
  due_grows_until = so_far_front (error_behind y.plan new)
