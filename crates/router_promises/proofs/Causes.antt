-- Which error tells which cause: the code of an error tells it, of which the lower byte is enough.
use Rattle.std.specs.Prelude.{◌≡◌, ◌⊎◌, ℕ, true, List, [], ◌∷◌, slice_index_or, Some}
use Rattle.std.proofs.Common.{ap, arith, inl, inr, refl, sym}
use Rattle.mx_wire.specs.Log.{Log}
use Rattle.mx_wire.specs.declared.entry.Entry.{Entry}
use Rattle.client_session.specs.Errors.{bad_server_bytes, connection_lost, connection_refused}
use Rattle.private_model.specs.Commands.{is_err}
use Rattle.private_model.specs.Names.{MessageName}
use Rattle.log_story.specs.Plan.{Route}
use Rattle.router_promises.specs.Errors.{no_connection, out_of_memory, replay_refused, server_offline}
use Rattle.router_promises.specs.GivenUp.{BadBytes, Cause, LinkLost, NoLink, NoMemory, NoResult, StepRefused, TakenOffline, WaitedTooLong, GivesUpSo}
use Rattle.router_promises.specs.Heard as heard
use Rattle.router_promises.specs.Heard.{Answer, Bad, is_amiss, reading_of}
use Rattle.router_promises.specs.Now.{Now, entry_now, is_gone, next, now_at}
use Rattle.router_promises.specs.Terms.{Terms, plan_in, setup_in}

abbrev code : List ℕ → ℕ
code payload = slice_index_or payload 1 0

one-payload : (a b : List ℕ) → ◌≡◌ {A = List (List ℕ)} (a ∷ []) (b ∷ []) → a ≡ b
one-payload a b is = cc

-- the reply of a server was an ERR
pub record IsRefusedBy (terms : Terms) (now : Now) (e : Entry) : Type 0 where
  pub answer : Answer
  pub whole : reading_of (setup_in terms) now e ≡ heard.Whole answer
  pub refused : is_err answer.reply ≡ true

-- bytes were read that can't be, or in place of a step's result what is none

pub record IsBadAt (terms : Terms) (now : Now) (e : Entry) : Type 0 where
  pub place : ℕ
  pub bad : reading_of (setup_in terms) now e ≡ Bad place

pub record IsNoResult (terms : Terms) (now : Now) (e : Entry) : Type 0 where
  pub answer : Answer
  pub whole : reading_of (setup_in terms) now e ≡ heard.Whole answer
  pub amiss : is_amiss answer.question answer.reply ≡ true

cause-lost : (terms : Terms) (now later : Now) (e : Entry) (m : MessageName) (route : Route) (payload : List ℕ)
    → Cause terms now later e m route payload → code payload ≡ 141 → is_gone e ≡ true
unfolding connection_lost connection_refused bad_server_bytes replay_refused server_offline out_of_memory no_connection
cause-lost terms now later e m route _ (LinkLost link is_lost of on) at = is_lost
cause-lost terms now later e m route _ (WaitedTooLong until_ms now_ms woke waits long) at = absurd (omega (arith, at))
cause-lost terms now later e m route _ (NoLink key tried first) at = absurd (omega (arith, at))
cause-lost terms now later e m route _ (StepRefused link answer of read err step) at = absurd (omega (arith, at))
cause-lost terms now later e m route _ (TakenOffline link off on) at = absurd (omega (arith, at))
cause-lost terms now later e m route _ (BadBytes link place of read on) at = absurd (omega (arith, at))
cause-lost terms now later e m route _ (NoResult link answer of read is_a_step amiss on) at = absurd (omega (arith, at))
cause-lost terms now later e m route _ (NoMemory ends) at = absurd (omega (arith, at))

cause-step : (terms : Terms) (now later : Now) (e : Entry) (m : MessageName) (route : Route) (payload : List ℕ)
    → Cause terms now later e m route payload → code payload ≡ 144 → IsRefusedBy terms now e
unfolding connection_lost connection_refused bad_server_bytes replay_refused server_offline out_of_memory no_connection
cause-step terms now later e m route _ (LinkLost link is_lost of on) at = absurd (omega (arith, at))
cause-step terms now later e m route _ (WaitedTooLong until_ms now_ms woke waits long) at = absurd (omega (arith, at))
cause-step terms now later e m route _ (NoLink key tried first) at = absurd (omega (arith, at))
cause-step terms now later e m route _ (StepRefused link answer of read err step) at = record { answer = answer; whole = read; refused = err }
cause-step terms now later e m route _ (TakenOffline link off on) at = absurd (omega (arith, at))
cause-step terms now later e m route _ (BadBytes link place of read on) at = absurd (omega (arith, at))
cause-step terms now later e m route _ (NoResult link answer of read is_a_step amiss on) at = absurd (omega (arith, at))
cause-step terms now later e m route _ (NoMemory ends) at = absurd (omega (arith, at))

cause-bad : (terms : Terms) (now later : Now) (e : Entry) (m : MessageName) (route : Route) (payload : List ℕ)
    → Cause terms now later e m route payload → code payload ≡ 150 → IsBadAt terms now e ⊎ IsNoResult terms now e
unfolding connection_lost connection_refused bad_server_bytes replay_refused server_offline out_of_memory no_connection
cause-bad terms now later e m route _ (LinkLost link is_lost of on) at = absurd (omega (arith, at))
cause-bad terms now later e m route _ (WaitedTooLong until_ms now_ms woke waits long) at = absurd (omega (arith, at))
cause-bad terms now later e m route _ (NoLink key tried first) at = absurd (omega (arith, at))
cause-bad terms now later e m route _ (StepRefused link answer of read err step) at = absurd (omega (arith, at))
cause-bad terms now later e m route _ (TakenOffline link off on) at = absurd (omega (arith, at))
cause-bad terms now later e m route _ (BadBytes link place of read on) at = inl (record { place = place; bad = read })
cause-bad terms now later e m route _ (NoResult link answer of read is_a_step amiss on) at = inr (record { answer = answer; whole = read; amiss = amiss })
cause-bad terms now later e m route _ (NoMemory ends) at = absurd (omega (arith, at))

-- What was told had its cause.

pub told-lost : (terms : Terms) (before : Log) (e : Entry) (m : MessageName) → GivesUpSo terms before e
    → (plan_in terms).own m ≡ Some (record { from = entry_now (now_at terms before); payloads = connection_lost ∷ [] })
    → is_gone e ≡ true
unfolding connection_lost
told-lost terms before e m gives own =
    let up = gives.each m (record { from = entry_now (now_at terms before); payloads = connection_lost ∷ [] }) own refl in
    cause-lost terms (now_at terms before) (next terms (now_at terms before) e) e m up.route up.payload up.why
    (ap code (one-payload up.payload connection_lost (sym up.one)))

pub told-step : (terms : Terms) (before : Log) (e : Entry) (m : MessageName) (code_told : ℕ) → GivesUpSo terms before e
    → (plan_in terms).own m ≡ Some (record { from = entry_now (now_at terms before); payloads = replay_refused code_told ∷ [] })
    → IsRefusedBy terms (now_at terms before) e
unfolding replay_refused
told-step terms before e m code_told gives own =
    let up = gives.each m (record { from = entry_now (now_at terms before); payloads = replay_refused code_told ∷ [] }) own refl in
    cause-step terms (now_at terms before) (next terms (now_at terms before) e) e m up.route up.payload up.why
    (ap code (one-payload up.payload (replay_refused code_told) (sym up.one)))

pub told-bad : (terms : Terms) (before : Log) (e : Entry) (m : MessageName) (place : ℕ) → GivesUpSo terms before e
    → (plan_in terms).own m ≡ Some (record { from = entry_now (now_at terms before); payloads = bad_server_bytes place ∷ [] })
    → IsBadAt terms (now_at terms before) e ⊎ IsNoResult terms (now_at terms before) e
unfolding bad_server_bytes
told-bad terms before e m place gives own =
    let up = gives.each m (record { from = entry_now (now_at terms before); payloads = bad_server_bytes place ∷ [] }) own refl in
    cause-bad terms (now_at terms before) (next terms (now_at terms before) e) e m up.route up.payload up.why
    (ap code (one-payload up.payload (bad_server_bytes place) (sym up.one)))
