-- What is due by what was decided is due by each plan that agrees.
use Rattle.std.specs.Prelude.{◌≡◌, ℕ, take, ◌++◌}
use Rattle.std.proofs.Common.{ap, arith, ◌∙◌}
use Rattle.std.proofs.lemmas.List.{length-take}
use Rattle.client_session.specs.Answers.{front}
use Rattle.private_model.specs.View.{View}
use Rattle.log_story.specs.Owed.{due_for, due_until, error_behind, messages, talk_of}
use Rattle.log_story.specs.Plan.{Plan}
use Rattle.log_story.specs.Tale.{Client}
use Rattle.tale_world.proofs.Looking.{same_due}
use Rattle.tale_world.specs.Served.{SameFor}

-- what is due by one plan to the messages that were taken up is due by the other
pub due_so_far : (client : Client) (view : View) (moment : ℕ) (p q : Plan) → SameFor client view moment p q
    → due_until view.replies p moment client ≡ due_until view.replies q moment client
due_so_far client view moment p q same =
    ap (λ service. front (talk_of (record p { service = service }) client) ++ due_for view.replies p moment client (error_behind (record p { service = service }) client) 1
    (take client.taken (messages (record p { service = service }) client))) same.service
    ∙ ap (λ xs. front (talk_of q client) ++ xs)
    (same_due client view moment p q same (error_behind q client) 1 (take client.taken (messages q client)) (omega (arith, length-take client.taken (messages q client))))
