-- What goes to a link next: a question, or before it what the router says for itself, that a prepared statement there is closed, since its
-- text is prepared anew or too many stand there, or is reset, since long data were sent for it.
use Rattle.std.specs.Prelude.{ℕ, nat_eq, nat_le, length, slice_get, if◌then◌else◌, List, Option, Some, None}
use Rattle.std.specs.List.{list_any}
use Rattle.std.specs.Option.{option_map, option_map_or}
use Rattle.private_model.specs.Commands.{Command, Number, Prepare, Run}
use Rattle.private_model.specs.Story.{Prep, Question, Statement}
use Rattle.private_model.specs.View.{Link, Setup, View}
use Rattle.log_story.specs.Plan.{Closes, Resets, StepText}
use Rattle.tale_world.specs.Policy.{Readied, Texts, next_question}

pub data Wish : Type 0 where
  Sends : Question → Wish
  Says : StepText → Wish

-- the numbers of the prepared statements on a link, the oldest first, and of those with long data
pub record Standing : Type 0 where
  pub live : List ℕ
  pub long : List ℕ

-- before a preparation: the statement of this text, where one stands there, else the oldest of a thousand
abbrev pub before_prepare : (number : Option ℕ) → (live : List ℕ) → Option StepText
before_prepare (Some number) live = Some (Closes number)
before_prepare None live =
    if nat_le 1000 (length live) then option_map (λ number. Closes number) (slice_get live 0) else None

abbrev pub if_long : (long : List ℕ) → (number : ℕ) → Option StepText
if_long long number = if list_any (nat_eq number) long then Some (Resets number) else None

abbrev pub before_command : Link → Standing → (key : ℕ) → Command → Option StepText
before_command link standing key (Prepare text) = before_prepare (link.live key) standing.live
before_command link standing key (Run text schema settings args) =
    option_map_or (if_long standing.long) (link.live key) None
before_command link standing key _ = None

abbrev pub before_question : Link → Standing → Question → Option StepText
before_question link standing (Prep n key text) = before_prepare (link.live key) standing.live
before_question link standing (Statement n due) = before_command link standing due.key due.command
before_question link standing _ = None

abbrev pub wish_for : Link → Standing → Question → Wish
wish_for link standing question =
    option_map_or (λ text. Says text) (before_question link standing question) (Sends question)

-- a link that may be closed is told QUIT instead, where its close comes
abbrev pub next_wish : Texts → (fits : ℕ → Option Number) → Setup → View → Link → Standing
    → Option Readied → Option Wish
next_wish texts fits setup view link standing readied =
    option_map (wish_for link standing) (next_question texts fits setup view link readied)
