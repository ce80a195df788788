-- What clients are due goes on: what it was stays its beginning.
use Rattle.std.specs.Prelude.{◌≡◌, ◌≤◌, All, ℕ, suc, List, [], ◌∷◌, ◌++◌, Option, Some, None}
use Rattle.mx_wire.specs.Log.{Log}
use Rattle.mx_wire.specs.declared.entry.Entry.{Entry}
use Rattle.private_model.specs.Commands.{Reply}
use Rattle.log_story.specs.Honest.{IsFront}
use Rattle.log_story.specs.Owed.{due_bytes, due_until, name_of}
use Rattle.log_story.specs.Plan.{LastWord, own_at, word_at}
use Rattle.log_story.specs.Tale.{Client, Tale, view_of}
use Rattle.router_promises.specs.Terms.{Terms, plan_in, setup_in, tale_at}

abbrev pub due_in : Terms → Tale → Client → List ℕ
due_in terms tale client = due_bytes (view_of (setup_in terms) tale).replies (plan_in terms) tale.moment client

-- without a last word
abbrev pub until_in : Terms → Tale → Client → List ℕ
until_in terms tale client = due_until (view_of (setup_in terms) tale).replies (plan_in terms) tale.moment client

-- each client that there was, beside itself behind the entry
abbrev pub GoOn : (old new : Client → List ℕ) → (was is : List Client) → Type 0
GoOn old new [] ys = Unit {0}
GoOn old new (x ∷ xs) [] = ⊥
GoOn old new (x ∷ xs) (y ∷ ys) = IsFront (old x) (new y) × GoOn old new xs ys

abbrev pub GoesOn : Terms → (old new : Tale) → Type 0
GoesOn terms old new = GoOn (due_in terms old) (due_in terms new) old.clients new.clients

abbrev pub GoesOnSo : Terms → Log → Entry → Type 0
GoesOnSo terms log e = GoesOn terms (tale_at terms log) (tale_at terms (log ++ e ∷ []))

abbrev pub UntilGoesOn : Terms → (old new : Tale) → Type 0
UntilGoesOn terms old new = GoOn (until_in terms old) (until_in terms new) old.clients new.clients

abbrev pub UntilGoesOnSo : Terms → Log → Entry → Type 0
UntilGoesOnSo terms log e = UntilGoesOn terms (tale_at terms log) (tale_at terms (log ++ e ∷ []))

-- an answer to a message that is there stays: the router's own, or else the reply
abbrev pub AnswerStays : (own : Option (List (List ℕ))) → Option Reply → (own_later : Option (List (List ℕ))) → Option Reply → Type 0
AnswerStays (Some payloads) reply own_later reply_later = own_later ≡ Some payloads
AnswerStays None (Some reply) own_later reply_later = (own_later ≡ None) × (reply_later ≡ Some reply)
AnswerStays None None own_later reply_later = Unit {0}

-- so it is of each message that was taken up
abbrev pub AnswersStay : Terms → (old new : Tale) → Client → Type 0
AnswersStay terms old new client =
    (i : ℕ) → suc i ≤ client.taken
    → AnswerStays (own_at (plan_in terms) old.moment (name_of client (suc i))) ((view_of (setup_in terms) old).replies (name_of client (suc i)))
    (own_at (plan_in terms) new.moment (name_of client (suc i))) ((view_of (setup_in terms) new).replies (name_of client (suc i)))

abbrev pub AnswersStaySo : Terms → Log → Entry → Type 0
AnswersStaySo terms log e = All (AnswersStay terms (tale_at terms log) (tale_at terms (log ++ e ∷ []))) (tale_at terms log).clients

-- A reply to a message that was taken up stays, and where it is the answer, the router gives none later.

abbrev pub RepliesStay : Terms → (old new : Tale) → Client → Type 0
RepliesStay terms old new client =
    (i : ℕ) (reply : Reply) → suc i ≤ client.taken → own_at (plan_in terms) old.moment (name_of client (suc i)) ≡ None
    → (view_of (setup_in terms) old).replies (name_of client (suc i)) ≡ Some reply
    → (own_at (plan_in terms) new.moment (name_of client (suc i)) ≡ None) × ((view_of (setup_in terms) new).replies (name_of client (suc i)) ≡ Some reply)

abbrev pub RepliesStaySo : Terms → Log → Entry → Type 0
RepliesStaySo terms log e = All (RepliesStay terms (tale_at terms log) (tale_at terms (log ++ e ∷ []))) (tale_at terms log).clients

-- and so it is with a last word: of who has one, what is due goes on with it
abbrev pub GoesOnWith : (was is : Option LastWord) → (old new : List ℕ) → Type 0
GoesOnWith None None old new = Unit {0}
GoesOnWith was is old new = IsFront old new

abbrev pub WordsGoOn : Terms → (old new : Tale) → (was is : List Client) → Type 0
WordsGoOn terms old new [] ys = Unit {0}
WordsGoOn terms old new (x ∷ xs) [] = Unit {0}
WordsGoOn terms old new (x ∷ xs) (y ∷ ys) =
    GoesOnWith (word_at (plan_in terms) old.moment x.number) (word_at (plan_in terms) new.moment y.number) (due_in terms old x) (due_in terms new y)
    × WordsGoOn terms old new xs ys

abbrev pub WordsGoOnSo : Terms → Log → Entry → Type 0
WordsGoOnSo terms log e =
    WordsGoOn terms (tale_at terms log) (tale_at terms (log ++ e ∷ [])) (tale_at terms log).clients (tale_at terms (log ++ e ∷ [])).clients
