use Rattle.std.specs.Prelude.{◌≡◌, ◌⊎◌, ℕ, List, [], Option, Some, Result, Ok, Err, OnOk, IfErr}
use Rattle.std.proofs.Common.{inl, inr, sym, refl, subst}
use Rattle.std.proofs.lemmas.Result.{err_from_is_err_and}
use Rattle.mx_wire.specs.Log.{Log}
use Rattle.mx_wire.specs.Moments.{AllLawful, lawful-last}
use Rattle.mx_wire.specs.declared.entry.Entry.TheVariants.{Over}
use Rattle.core_promises.specs.Waits.{IsDone, WaitsSo}
use Rattle.mx_config.specs.declared.config.Config.{Config}
use Rattle.router_promises.specs.Now.{now_at}
use Rattle.router_promises.specs.Terms.{Terms}
use Rattle.recording.specs.declared.entry.RecordEntry.{RecordEntry}
use Rattle.mem_wire.specs.Play.{IsPlay}
use Rattle.mem_wire.specs.Told.{Played}
use Rattle.proxy_run.specs.declared.stop.Stop.{Stop}
use Rattle.proxy_run.specs.declared.stop.Stop.TheVariants as stop
use Rattle.recording.specs.Playable.{IsPlayable}
use Rattle.proxy_run.specs.Words.{Named, replay_words}
use Rattle.proxy_run.specs.Replay.{Held, IsConfigured, IsUnder, HasPlayed, IsReplay, PlayStops, PlayedToEnd, PutStops, PutsNothing, ServesToEnd, ServesUntilShut, Stops}
use Rattle.proxy_run.proofs.Ending.{played-out}
use Rattle.proxy_run.proofs.replay.replay.Goals as goal

-- a log that ends as the wire has nothing more has played all
to-end : (config : Config) (entries : List RecordEntry) (log : Log) → IsPlayable entries → IsPlay entries log → ServesToEnd config log
    → PlayedToEnd config entries log
to-end config entries log playable play served = record {
  serves = served;
  played = played-out entries log served.before playable play done.accepted done.named served.over;
} where
  terms : Terms
  terms = record { router = served.serves.router; decided = served.serves.separates.decided; stored = λ server. [] }

  done : IsDone terms served.before (now_at terms served.before)
  done =
      (lawful-last (WaitsSo terms) served.before Over
      (subst (AllLawful (WaitsSo terms)) served.over ((served.serves.separates.keeps (λ server. [])).waits))).1

served_of : (log : Log) (entries : List RecordEntry) (config : Config) → IsPlayable entries → IsPlay entries log
    → ServesToEnd config log ⊎ ServesUntilShut config log → PlayedToEnd config entries log ⊎ ServesUntilShut config log
served_of log entries config playable play (inl served) = inl (to-end config entries log playable play served)
served_of log entries config playable play (inr shut) = inr shut

-- a tape that has played the recording under the name tells a replay
replay-of : (words : List (List ℕ)) (held : Held) (names : Named) (entries : List RecordEntry) (tape : Played) (log : Log) → replay_words words ≡ Some names → (configured : IsConfigured names.config held) → IsUnder names.recording held entries → IsPlayable entries → HasPlayed configured.config entries tape → tape.told ≡ Some log → IsPlay tape.recording log → IsReplay words held log
replay-of words held names entries tape log named configured under playable played is play = record {
  names = names;
  named = named;
  configured = configured;
  entries = entries;
  under = under;
  play = played.plays log play;
  served = served_of log entries configured.config playable (played.plays log play) (played.serves log is);
}

stopped : (given : Stop) (words : List (List ℕ)) (held : Held) (read_before read_now : ℕ) (names : Named) (entries : List RecordEntry) (tape : Played) (old : Option (List ℕ)) (before : ℕ) (new : Option (List ℕ)) (now : ℕ) → replay_words words ≡ Some names → (configured : IsConfigured names.config held) → IsUnder names.recording held entries → IsPlayable entries → HasPlayed configured.config entries tape → PutStops given tape old before new now → Stops given words held read_before read_now old before new now
stopped stop.OutOfMemory words held read_before read_now names entries tape old before new now named configured under playable played stops = ((names, named), stops)
stopped stop.SinkFault words held read_before read_now names entries tape old before new now named configured under playable played stops = record {
  log = stops.log;
  replay = replay-of words held names entries tape stops.log named configured under playable played stops.is stops.play;
  put = stops.put;
  rose = stops.rose;
}
stopped _ words held read_before read_now names entries tape old before new now named configured under playable played stops = absurd stops

on-ok : {A B : Type 0} (r : Result (Unit {0}) Stop) → (A → B) → OnOk r A → OnOk r B
on-ok (Ok done) more held = more held
on-ok (Err given) more held = tt

if-err : {P Q : Stop → Type 0} (r : Result (Unit {0}) Stop) → ((given : Stop) → P given → Q given) → IfErr r P → IfErr r Q
if-err (Ok done) more held = tt
if-err (Err given) more held = more given held

pub returns-clause-ok : goal.returns-clause-ok
returns-clause-ok g c =
    on-ok c.put.result (λ puts. record {
      log = puts.log;
      replay = replay-of _ _ _ c.in_ok-entries.entries.items c.in_ok-tape.tape puts.log (sym c.in-Some.ensures) (record { config = c.in_ok-config.config; said = c.in_ok-config.ensures.ok }) (rw c.in_ok-config.ensures.held at c.in_ok-entries.ensures.under) c.in_ok-entries.ensures.playable c.in_ok-tape.ensures.ok puts.is puts.play;
      put = puts.put;
    }) c.put.ensures.ok

pub returns-clause-err : goal.returns-clause-err
returns-clause-err g c =
    if-err c.put.result (λ given. stopped given _ _ _ _ _ c.in_ok-entries.entries.items c.in_ok-tape.tape _ _ _ _ (sym c.in-Some.ensures) (record { config = c.in_ok-config.config; said = c.in_ok-config.ensures.ok }) (rw c.in_ok-config.ensures.held at c.in_ok-entries.ensures.under) c.in_ok-entries.ensures.playable c.in_ok-tape.ensures.ok) c.put.ensures.err

-- a play that stops short has put nothing
unplayed : (given : Stop) (words : List (List ℕ)) (held : Held) (read_before read_now : ℕ) (names : Named) (entries : List RecordEntry) (old : Option (List ℕ)) (before : ℕ) (new : Option (List ℕ)) (now : ℕ) → replay_words words ≡ Some names → (configured : IsConfigured names.config held) → IsUnder names.recording held entries → PlayStops given configured.config entries → PutsNothing old before new now → Stops given words held read_before read_now old before new now
unplayed stop.OutOfMemory words held read_before read_now names entries old before new now named configured under stops nothing = ((names, named), nothing)
unplayed stop.TurnsSpent words held read_before read_now names entries old before new now named configured under stops nothing = (record { names = names; named = named; configured = configured; entries = entries; under = under; log = stops.0; spent = stops.1 }, nothing)
unplayed _ words held read_before read_now names entries old before new now named configured under stops nothing = absurd stops

pub returns-in_err-tape-clause-err : goal.returns-in_err-tape-clause-err
returns-in_err-tape-clause-err g c =
    let p = err_from_is_err_and c.from_residual-in_err-tape.result c.from_residual-in_err-tape.ensures.1 in
    rw (p.1, p.2) (unplayed _ _ _ _ _ _ c.in_ok-entries.entries.items _ _ _ _ (sym c.in-Some.ensures) (record { config = c.in_ok-config.config; said = c.in_ok-config.ensures.ok }) (rw c.in_ok-config.ensures.held at c.in_ok-entries.ensures.under) c.in_err-tape.ensures.err (record { same = refl; calm = refl }))
