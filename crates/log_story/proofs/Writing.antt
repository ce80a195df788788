-- What was written to a client is a front of what its private world owes it.
use Rattle.std.specs.Prelude.{ℕ, zero, suc, slice_index_or, List, [], ◌∷◌, ◌++◌, fold, take, Option}
use Rattle.std.proofs.Common.{subst, sym, ap, ◌∙◌, append_assoc}
use Rattle.mx_wire.specs.Log.{Log, written_of}
use Rattle.mx_wire.specs.Moments.{AtEachMoment}
use Rattle.server_rule.specs.Servers.{Step}
use Rattle.private_model.specs.View.{Setup}
use Rattle.log_story.specs.Headline.{HasPrivateBytes, IsPrivateFrom, IsPrivateMoment, IsPrivateTo, WritesDue, WritesPrivate, tale_of}
use Rattle.log_story.specs.Honest.{IsFront}
use Rattle.log_story.specs.Owed.{due_bytes, due_until, talk_of, with_word}
use Rattle.log_story.specs.Plan.{LastWord, Plan}
use Rattle.log_story.specs.Tale.{Client, Tale, first_tale, view_of}
use Rattle.log_story.specs.Telling.{tale_step}

pub front-trans : (a b c : List ℕ) → IsFront a b → IsFront b c → IsFront a c
front-trans a b c one two = record {
  rest = one.rest ++ two.rest;
  is = sym (append_assoc a one.rest two.rest) ∙ ap (λ (xs : List ℕ). xs ++ two.rest) one.is ∙ two.is;
}

-- each moment of private bytes is a private moment
pub moment-of : (setup : Setup) (plan : Plan) (server : Step) (tale : Tale) (log : Log) (n : ℕ) → IsPrivateFrom setup plan server tale log
    → IsPrivateMoment setup plan server (fold (tale_step setup plan) tale (take n log))
moment-of setup plan server tale [] zero is = is
moment-of setup plan server tale [] (suc n) is = is
moment-of setup plan server tale (e ∷ log) zero is = is.0
moment-of setup plan server tale (e ∷ log) (suc n) is = moment-of setup plan server (tale_step setup plan tale e) log n is.2

module _ (setup : Setup) (plan : Plan) (server : Step) (log : Log) where
  abbrev tale : Tale
  tale = tale_of setup plan log

  private-to : (client : Client) → IsFront (written_of client.link log) (due_bytes (view_of setup tale).replies plan tale.moment client)
      → IsPrivateMoment setup plan server tale → IsPrivateTo setup plan server log client
  private-to client due moment none =
      let until = due_until (view_of setup tale).replies plan tale.moment client in
      front-trans (written_of client.link log) until _
      (subst (λ (word : Option LastWord). IsFront (written_of client.link log) (with_word (talk_of plan client) until word)) none due) (moment.due client)

  pub private-at : WritesDue setup plan log → IsPrivateMoment setup plan server tale → WritesPrivate setup plan server log
  private-at due moment k d within = private-to (slice_index_or tale.clients k d) (due k d within) moment

pub private-each : (setup : Setup) (plan : Plan) (server : Step) (log : Log) → AtEachMoment (WritesDue setup plan) log
    → HasPrivateBytes setup plan server log → AtEachMoment (WritesPrivate setup plan server) log
private-each setup plan server log due bytes n =
    private-at setup plan server (take n log) (due n) (moment-of setup plan server first_tale log n bytes)
