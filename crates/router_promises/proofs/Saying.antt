-- What the router says along a log, in log_story's words.
use Rattle.std.specs.Prelude.{◌≡◌, ℕ, suc, Bool, true, [], ◌∷◌, ◌++◌, fold, take, refl}
use Rattle.std.proofs.Common.{subst, sym, append_assoc, append-nil}
use Rattle.std.proofs.lemmas.List.Sums.{fold-append}
use Rattle.mx_wire.specs.Log.{Log}
use Rattle.mx_wire.specs.Moments.{AllLawful, AtEachMoment, LawfulAfter, moment-last}
use Rattle.mx_wire.specs.declared.entry.Entry.{Entry}
use Rattle.mx_wire.specs.declared.entry.Entry.TheVariants as entry
use Rattle.private_model.specs.Lawful.{IsLawful}
use Rattle.log_story.specs.Said.{ClosesFirst, IsSaidLog, SaysFrom}
use Rattle.log_story.specs.Tale.{Tale}
use Rattle.log_story.specs.Telling.{story_of, tale_step}
use Rattle.router_promises.specs.Headline.{IsLawfulSo, SaysSo}
use Rattle.router_promises.specs.Now.{Now, next, now_at}
use Rattle.router_promises.specs.Tags.{TagsSo, WritesThere, WritesTo}
use Rattle.router_promises.specs.Terms.{Terms, plan_in, setup_in, tale_at}

-- What is known at a moment has the tale of that moment.

now-from : (terms : Terms) (now : Now) (log : Log) → (fold (next terms) now log).tale ≡ fold (tale_step (setup_in terms) (plan_in terms)) now.tale log
now-from terms now [] = refl
now-from terms now (e ∷ log) = now-from terms (next terms now e) log

pub now-tale : (terms : Terms) (log : Log) → (now_at terms log).tale ≡ tale_at terms log
now-tale terms log = now-from terms _ log

pub tale-more : (terms : Terms) (log : Log) (e : Entry) → tale_at terms (log ++ e ∷ []) ≡ tale_step (setup_in terms) (plan_in terms) (tale_at terms log) e
tale-more terms log e = fold-append (tale_step (setup_in terms) (plan_in terms)) _ log (e ∷ [])

closes-first : (terms : Terms) (log : Log) (e : Entry) → TagsSo terms log e → ClosesFirst (setup_in terms) (now_at terms log).tale e
closes-first terms log (entry.Wrote link tag bytes) tags = λ there begins.
    let now = now_at terms log in
    let later = next terms now (entry.Wrote link tag bytes) in
    let to : WritesTo terms log now link tag true later = subst (λ (b : Bool). WritesTo terms log now link tag b later) there tags in
    let here : WritesThere terms log now link tag true (now.tale.wires link).entered later =
    subst (λ (b : Bool). WritesThere terms log now link tag b (now.tale.wires link).entered later) begins to in
    here.closed
closes-first terms log (entry.Exec link) tags = tt
closes-first terms log (entry.Got link bytes) tags = tt
closes-first terms log (entry.Listening port address) tags = tt
closes-first terms log (entry.ListenFailed port) tags = tt
closes-first terms log (entry.Woke until_ms now_ms) tags = tt
closes-first terms log entry.WaitFailed tags = tt
closes-first terms log entry.Over tags = tt
closes-first terms log (entry.Named link) tags = tt
closes-first terms log entry.NoneNamed tags = tt
closes-first terms log (entry.Accepted port link salt) tags = tt
closes-first terms log (entry.AcceptNothing port) tags = tt
closes-first terms log (entry.AcceptFailed port) tags = tt
closes-first terms log (entry.Opened at address link) tags = tt
closes-first terms log (entry.OpenFailed at address) tags = tt
closes-first terms log (entry.ReadNothing link) tags = tt
closes-first terms log (entry.Ended link) tags = tt
closes-first terms log (entry.ReadFailed link) tags = tt
closes-first terms log (entry.WriteNothing link) tags = tt
closes-first terms log (entry.WriteFailed link) tags = tt
closes-first terms log (entry.Closed link) tags = tt
closes-first terms log (entry.Drop link) tags = tt

says-from : (terms : Terms) (before log : Log) → ((n : ℕ) → SaysSo terms (before ++ take n log)) → LawfulAfter (TagsSo terms) before log
    → SaysFrom (setup_in terms) (plan_in terms) (tale_at terms before) log
says-from terms before [] says tags = subst (SaysSo terms) (append-nil before) (says 0)
says-from terms before (e ∷ log) says tags =
    let closes : ClosesFirst (setup_in terms) (tale_at terms before) e =
    subst (λ (t : Tale). ClosesFirst (setup_in terms) t e) (now-tale terms before) (closes-first terms before e tags.0) in
    let more : (n : ℕ) → SaysSo terms ((before ++ e ∷ []) ++ take n log) = λ n. subst (SaysSo terms) (sym (append_assoc before (e ∷ []) (take n log))) (says (suc n)) in (
      subst (SaysSo terms) (append-nil before) (says 0),
      closes,
      subst (λ (t : Tale). SaysFrom (setup_in terms) (plan_in terms) t log) (tale-more terms before e) (says-from terms (before ++ e ∷ []) log more tags.1),
    )

pub said-log : (terms : Terms) (log : Log) → AtEachMoment (SaysSo terms) log → AllLawful (TagsSo terms) log → IsSaidLog (setup_in terms) (plan_in terms) log
said-log terms log says tags = says-from terms [] log says tags

-- the story of the whole log is lawful
pub lawful-last : (terms : Terms) (log : Log) → AtEachMoment (IsLawfulSo terms) log → IsLawful (setup_in terms) (story_of (setup_in terms) (plan_in terms) log)
lawful-last terms log each = moment-last (IsLawfulSo terms) log each
