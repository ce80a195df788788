-- What is due goes on with last words too, where it goes on without them.
use Rattle.std.specs.Prelude.{ℕ, List, [], ◌∷◌, ◌++◌, Option, Some, None}
use Rattle.client_session.specs.Answers.{Talk}
use Rattle.mx_wire.specs.Log.{Log}
use Rattle.mx_wire.specs.Moments.{LawfulAfter}
use Rattle.log_story.specs.Honest.{IsFront}
use Rattle.log_story.specs.Owed.{talk_of, with_word}
use Rattle.log_story.specs.Plan.{LastWord, word_at}
use Rattle.log_story.specs.Tale.{Client, Tale}
use Rattle.router_promises.specs.Terms.{Terms, plan_in, tale_at}
use Rattle.shared_router.specs.Onward.{GoOn, GoesOnSo, GoesOnWith, UntilGoesOnSo, WordsGoOn, WordsGoOnSo, due_in, until_in}

go_with : (was is : Option LastWord) (old_talk new_talk : Talk) (old new : List ℕ) → IsFront old new
    → GoesOnWith was is (with_word old_talk old was) (with_word new_talk new is) → IsFront (with_word old_talk old was) (with_word new_talk new is)
go_with None None old_talk new_talk old new on with_it = on
go_with None (Some word) old_talk new_talk old new on with_it = with_it
go_with (Some word) None old_talk new_talk old new on with_it = with_it
go_with (Some word) (Some other) old_talk new_talk old new on with_it = with_it

module _ (terms : Terms) where
  go_all : (old new : Tale) (xs ys : List Client) → GoOn (until_in terms old) (until_in terms new) xs ys → WordsGoOn terms old new xs ys
      → GoOn (due_in terms old) (due_in terms new) xs ys
  go_all old new [] ys on words = tt
  go_all old new (x ∷ xs) [] on words = absurd on
  go_all old new (x ∷ xs) (y ∷ ys) on words = (
    go_with (word_at (plan_in terms) old.moment x.number) (word_at (plan_in terms) new.moment y.number) (talk_of (plan_in terms) x) (talk_of (plan_in terms) y)
        (until_in terms old x) (until_in terms new y) on.0 words.0,
    go_all old new xs ys on.1 words.1,
  )

  pub goes_from : (before later : Log) → LawfulAfter (UntilGoesOnSo terms) before later → LawfulAfter (WordsGoOnSo terms) before later → LawfulAfter (GoesOnSo terms) before later
  goes_from before [] on words = tt
  goes_from before (e ∷ later) on words = (
    go_all (tale_at terms before) (tale_at terms (before ++ e ∷ [])) (tale_at terms before).clients (tale_at terms (before ++ e ∷ [])).clients on.0 words.0,
    goes_from (before ++ e ∷ []) later on.1 words.1,
  )
