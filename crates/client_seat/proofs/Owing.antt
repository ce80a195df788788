-- What a client is due, as its messages are taken up and answered.
use Rattle.std.specs.Prelude.{◌≡◌, ℕ, suc, ◌+◌, true, false, is_some, List, [], ◌∷◌, ◌++◌, length, Option, Some, None}
use Rattle.std.proofs.Common.{◌∙◌, refl, sym, ap, arith, append_assoc}
use Rattle.packet_frame.specs.Packets.{Framed, next_id}
use Rattle.private_model.specs.Commands.{Reply}
use Rattle.log_story.specs.Owed.{answered_with, due_for, name_of, number_of}
use Rattle.log_story.specs.Plan.{own_at}
use Rattle.log_story.specs.Tale.{Client}
use Rattle.client_seat.specs.Stands.{AreAnswered, Known, answer_by, answer_to}

-- the answers to messages from the i-th on, up to the first that isn't answered, and what stands behind all of them
abbrev pub told_by : Option (List ℕ) → (later : List ℕ) → List ℕ
told_by None later = []
told_by (Some bytes) later = bytes ++ later

answered-told : (own : Option (List (List ℕ))) (reply : Option Reply) (number id : ℕ) (later : List ℕ)
    → answered_with own reply number id later ≡ told_by (answer_by own reply number id) later
answered-told (Some payloads) reply number id later = refl
answered-told None (Some reply) number id later = refl
answered-told None None number id later = refl

abbrev pub due_from : Known → Client → (last : List ℕ) → (i : ℕ) → List Framed → List ℕ
due_from x client last i sent = due_for x.view.replies x.plan x.moment client last i sent

pub step : (x : Known) (client : Client) (last : List ℕ) (i : ℕ) (message : Framed) (others : List Framed)
    → due_from x client last i (message ∷ others) ≡ told_by (answer_to x client i message) (due_from x client last (suc i) others)
step x client last i message others =
    answered-told (own_at x.plan x.moment (name_of client i)) (x.view.replies (name_of client i)) (number_of x.plan (name_of client i)) (next_id message.last)
    (due_from x client last (suc i) others)

-- a message that isn't answered adds nothing
pub due-taken : (x : Known) (client : Client) (i : ℕ) (sent : List Framed) (message : Framed) → answer_to x client (i + length sent) message ≡ None
    → due_from x client [] i (sent ++ message ∷ []) ≡ due_from x client [] i sent
due-taken x client i [] message none =
    step x client [] i message [] ∙ ap (λ (answer : Option (List ℕ)). told_by answer []) (ap (λ (k : ℕ). answer_to x client k message) (omega arith) ∙ none)
due-taken x client i (other ∷ sent) message none =
    step x client [] i other (sent ++ message ∷ [])
    ∙ ap (told_by (answer_to x client i other)) (due-taken x client (suc i) sent message (ap (λ (k : ℕ). answer_to x client k message) (omega arith) ∙ none))
    ∙ sym (step x client [] i other sent)

-- where those before it are answered, its answer stands behind theirs
pub due-answered : (x : Known) (client : Client) (last : List ℕ) (i : ℕ) (sent : List Framed) (message : Framed) (bytes : List ℕ)
    → AreAnswered x client i sent → answer_to x client (i + length sent) message ≡ Some bytes
    → due_from x client last i (sent ++ message ∷ []) ≡ due_from x client [] i sent ++ (bytes ++ last)
due-answered x client last i [] message bytes before some =
    step x client last i message [] ∙ ap (λ (answer : Option (List ℕ)). told_by answer last) (ap (λ (k : ℕ). answer_to x client k message) (omega arith) ∙ some)
due-answered x client last i (other ∷ sent) message bytes before some =
    step x client last i other (sent ++ message ∷ [])
    ∙ by (due-answered x client last (suc i) sent message bytes before.1 (ap (λ (k : ℕ). answer_to x client k message) (omega arith) ∙ some)) (answer_to x client i other) refl
    ∙ ap (λ (front : List ℕ). front ++ (bytes ++ last)) (sym (step x client [] i other sent)) where
      by : due_from x client last (suc i) (sent ++ message ∷ []) ≡ due_from x client [] (suc i) sent ++ (bytes ++ last)
          → (answer : Option (List ℕ)) → answer_to x client i other ≡ answer
          → told_by answer (due_from x client last (suc i) (sent ++ message ∷ [])) ≡ told_by answer (due_from x client [] (suc i) sent) ++ (bytes ++ last)
      by later None is = (let no : false ≡ true = sym (ap is_some is) ∙ before.0 in cc)
      by later (Some own) is = ap (λ (more : List ℕ). own ++ more) later ∙ sym (append_assoc own (due_from x client [] (suc i) sent) (bytes ++ last))

-- what is behind them
pub due-behind : (x : Known) (client : Client) (last : List ℕ) (i : ℕ) (sent : List Framed) → AreAnswered x client i sent
    → due_from x client last i sent ≡ due_from x client [] i sent ++ last
due-behind x client last i [] before = refl
due-behind x client last i (other ∷ sent) before =
    step x client last i other sent
    ∙ by (due-behind x client last (suc i) sent before.1) (answer_to x client i other) refl
    ∙ ap (λ (front : List ℕ). front ++ last) (sym (step x client [] i other sent)) where
      by : due_from x client last (suc i) sent ≡ due_from x client [] (suc i) sent ++ last → (answer : Option (List ℕ)) → answer_to x client i other ≡ answer
          → told_by answer (due_from x client last (suc i) sent) ≡ told_by answer (due_from x client [] (suc i) sent) ++ last
      by later None is = (let no : false ≡ true = sym (ap is_some is) ∙ before.0 in cc)
      by later (Some own) is = ap (λ (more : List ℕ). own ++ more) later ∙ sym (append_assoc own (due_from x client [] (suc i) sent) last)

-- the same answers make the same due
pub due-same : (x y : Known) (client : Client) (last : List ℕ) (i : ℕ) (sent : List Framed)
    → ((k : ℕ) (message : Framed) → answer_to y client k message ≡ answer_to x client k message) → due_from y client last i sent ≡ due_from x client last i sent
due-same x y client last i [] same = refl
due-same x y client last i (message ∷ others) same =
    step y client last i message others
    ∙ ap (λ (answer : Option (List ℕ)). told_by answer (due_from y client last (suc i) others)) (same i message)
    ∙ ap (told_by (answer_to x client i message)) (due-same x y client last (suc i) others same)
    ∙ sym (step x client last i message others)
