-- A link that carries nobody has no mark, whatever happened.
use Rattle.std.specs.Prelude.{◌≡◌, Bool, false, true, if◌then◌else◌, [], ◌∷◌}
use Rattle.std.proofs.Common.{refl}
use Rattle.private_model.specs.Names.{LinkId}
use Rattle.private_model.specs.Story.{BecameDue, Broke, Capture, Dropped, End, Freed, Gone, Heard, Left, LoggedIn, Mirrored, Own, Prep, Question, Ran, Sent, Statement, Story, Sync, Unprepared, is_link_id, put}
use Rattle.private_model.specs.View.{Answered, Asked, Carried, Joined, Lent, Link, Nobody, Quiet, Setup, Stage, View, asked, carried_for, closed_number, freed, heard, new_link, ran_by, view_after, view_heard}

abbrev IsUnmarked : Link → Type 0
IsUnmarked link = link.carries ≡ Nobody → link.marked ≡ false

abbrev AreUnmarked : View → Type 0
AreUnmarked view = (l : LinkId) → IsUnmarked (view.links l)

put_unmarked : (links : LinkId → Link) (link : LinkId) (value : Link) → IsUnmarked value → ((l : LinkId) → IsUnmarked (links l)) → (l : LinkId) → IsUnmarked (put is_link_id links link value l)
put_unmarked links link value now all l = by_test (is_link_id l link) where
  by_test : (b : Bool) → IsUnmarked (if b then value else links l)
  by_test true = now
  by_test false = all l

-- a question leaves nobody where nobody was
still_nobody : (question : Question) (c : Carried) → carried_for question c ≡ Nobody → c ≡ Nobody
still_nobody question Nobody is = refl
still_nobody (Statement n due) (Lent m) is = is
still_nobody (Statement n due) (Joined m) is = is
still_nobody (Prep n key text) (Lent m) is = is
still_nobody (Prep n key text) (Joined m) is = is
still_nobody (Sync n command) (Lent m) is = is
still_nobody (Sync n command) (Joined m) is = is
still_nobody (Own command) (Lent m) is = is
still_nobody (Own command) (Joined m) is = is
still_nobody (End n) (Lent m) is = is
still_nobody (End n) (Joined m) is = is
still_nobody (Capture n) (Lent m) is = is
still_nobody (Capture n) (Joined m) is = is

module _ (setup : Setup) where
  ran_unmarked : (stage : Stage) (link : Link) → IsUnmarked link → IsUnmarked (ran_by setup.reads stage link)
  ran_unmarked Quiet link was = was
  ran_unmarked (Answered question) link was = was
  ran_unmarked (Asked (Statement n due)) link was = λ is. absurd (cc)
  ran_unmarked (Asked (Prep n key text)) link was = was
  ran_unmarked (Asked (Sync n command)) link was = was
  ran_unmarked (Asked (Own command)) link was = was
  ran_unmarked (Asked (End n)) link was = was
  ran_unmarked (Asked (Capture n)) link was = was

  heard_unmarked : (view : View) (link : LinkId) (stage : Stage) → AreUnmarked view → (reply : _) → AreUnmarked (view_heard setup view link reply stage)
  heard_unmarked view link Quiet all reply = all
  heard_unmarked view link (Asked question) all reply = all
  heard_unmarked view link (Answered question) all reply = put_unmarked view.links link (heard setup.reads question reply (view.links link)) (all link) all

  pub unmarked_after : (story : Story) → AreUnmarked (view_after setup story)
  unmarked_after [] = λ l is. refl
  unmarked_after (LoggedIn link server account ∷ past) =
      put_unmarked (view_after setup past).links link (new_link server account) (λ is. refl) (unmarked_after past)
  unmarked_after (Sent link question ∷ past) =
      let links = (view_after setup past).links in
      put_unmarked links link (asked question (links link)) (λ is. unmarked_after past link (still_nobody question (links link).carries is)) (unmarked_after past)
  unmarked_after (Ran link ∷ past) =
      let links = (view_after setup past).links in
      put_unmarked links link (ran_by setup.reads (links link).stage (links link)) (ran_unmarked (links link).stage (links link) (unmarked_after past link)) (unmarked_after past)
  unmarked_after (Heard link reply ∷ past) =
      heard_unmarked (view_after setup past) link ((view_after setup past).links link).stage (unmarked_after past) reply
  unmarked_after (Freed link ∷ past) =
      let links = (view_after setup past).links in put_unmarked links link (freed (links link)) (λ is. refl) (unmarked_after past)
  unmarked_after (Unprepared link number ∷ past) =
      let links = (view_after setup past).links in put_unmarked links link (closed_number number (links link)) (unmarked_after past link) (unmarked_after past)
  unmarked_after (Gone link ∷ past) =
      let links = (view_after setup past).links in put_unmarked links link (record (links link) { usable = false }) (unmarked_after past link) (unmarked_after past)
  unmarked_after (BecameDue client hostgroup ordinal key command multiplex ∷ past) = unmarked_after past
  unmarked_after (Dropped link ∷ past) = unmarked_after past
  unmarked_after (Left client ∷ past) = unmarked_after past
  unmarked_after (Broke ∷ past) = unmarked_after past
  unmarked_after (Mirrored client job ∷ past) = unmarked_after past
