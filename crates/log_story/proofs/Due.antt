-- What a client is due by what was read is the first part of what its private world owes it.
use Rattle.std.specs.Prelude.{◌≡◌, ℕ, suc, take, List, [], ◌∷◌, ◌++◌, Option, Some, None}
use Rattle.std.proofs.Common.{refl, ap, ◌∙◌, append-nil, append_assoc}
use Rattle.packet_frame.specs.Packets.{Framed, next_id, spellings}
use Rattle.reply_track.specs.Grammar.{renamed}
use Rattle.client_session.specs.Answers.{front}
use Rattle.session_state.specs.declared.names.MessageName.{MessageName}
use Rattle.private_model.specs.Commands.{Reply}
use Rattle.log_story.specs.Plan.{Plan, own_at}
use Rattle.log_story.specs.Tale.{Client}
use Rattle.log_story.specs.Owed.{answered_with, due_for, due_until, error_behind, kind_of, messages, name_of, number_of, talk_of}
use Rattle.log_story.specs.Honest.{IsFront}

behind : (front xs ys : List ℕ) → IsFront xs ys → IsFront (front ++ xs) (front ++ ys)
behind front xs ys at = record { rest = at.rest; is = append_assoc front xs at.rest ∙ ap (λ zs. front ++ zs) at.is }

nothing_first : (xs : List ℕ) → IsFront [] xs
nothing_first xs = record { rest = xs; is = refl }

answered_front : (own : Option (List (List ℕ))) (read private : Option Reply) (number id : ℕ) (xs ys : List ℕ)
    → ((reply : Reply) → read ≡ Some reply → private ≡ Some reply) → IsFront xs ys
    → IsFront (answered_with own read number id xs) (answered_with own private number id ys)
answered_front (Some payloads) read private number id xs ys same at = behind (spellings id payloads) xs ys at
answered_front None None private number id xs ys same at = nothing_first (answered_with None private number id ys)
answered_front None (Some reply) private number id xs ys same at =
    rw (same reply refl) (behind (spellings id (renamed (kind_of reply) number reply.payloads)) xs ys at)

due_front : (read private : MessageName → Option Reply) (plan : Plan) (moment : ℕ) (client : Client) (last : List ℕ) (i : ℕ) (others : List Framed)
    → ((message : MessageName) (reply : Reply) → read message ≡ Some reply → private message ≡ Some reply)
    → IsFront (due_for read plan moment client last i others) (due_for private plan moment client last i others)
due_front read private plan moment client last i [] same = record { rest = []; is = append-nil last }
due_front read private plan moment client last i (message ∷ others) same =
    answered_front (own_at plan moment (name_of client i)) (read (name_of client i)) (private (name_of client i)) (number_of plan (name_of client i)) (next_id message.last)
    (due_for read plan moment client last (suc i) others) (due_for private plan moment client last (suc i) others) (same (name_of client i))
    (due_front read private plan moment client last (suc i) others same)

pub due_until_front : (read private : MessageName → Option Reply) (plan : Plan) (moment : ℕ) (client : Client)
    → ((message : MessageName) (reply : Reply) → read message ≡ Some reply → private message ≡ Some reply)
    → IsFront (due_until read plan moment client) (due_until private plan moment client)
due_until_front read private plan moment client same =
    behind (front (talk_of plan client)) _ _
    (due_front read private plan moment client (error_behind plan client) 1 (take client.taken (messages plan client)) same)
