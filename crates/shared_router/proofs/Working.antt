-- Where the loop waits, a link that carries nobody and on which something is wished is at work: something stands there, or it takes no more.
use Rattle.std.specs.Prelude.{◌≡◌, ℕ, zero, suc, Bool, true, false, not, ◌&&◌, ◌||◌, is_some, length, ◌/◌, List, [], ◌∷◌, ◌++◌, Option, Some, None}
use Rattle.std.specs.List.{flat_map}
use Rattle.std.specs.Option.{option_map_or}
use Rattle.std.proofs.Common.{refl, sym, ap, ◌∙◌, subst}
use Rattle.std.proofs.lemmas.Bool.{and_from, and_parts}
use Rattle.mx_base.specs.declared.names.LinkId.{LinkId}
use Rattle.mx_wire.specs.Log.{Log, is_open}
use Rattle.mx_wire.specs.Moments.{AllLawful}
use Rattle.mx_wire.specs.declared.entry.Entry.{Entry}
use Rattle.mx_wire.specs.declared.entry.Entry.TheVariants as entry
use Rattle.packet_frame.specs.Packets.{longest, packets, spelling}
use Rattle.ready_loop.specs.Drained.{write_dry}
use Rattle.session_state.specs.Pins.{is_pinned}
use Rattle.private_model.specs.Lawful.{is_statement}
use Rattle.private_model.specs.Names.{SessionName}
use Rattle.private_model.specs.Commands.{Command, FieldList, InitDb, Prepare, Query, Quit, ReadId, Reset, Run, SetId}
use Rattle.private_model.specs.Story.{Capture, End, Own, Prep, Question, Statement, Sync, command_of, is_name, message_of}
use Rattle.private_model.specs.View.{Link, present}
use Rattle.log_story.specs.Honest.{number_for}
use Rattle.log_story.specs.Plan.{StepText, step_payload, text_payload}
use Rattle.log_story.specs.Servers.{is_quiet}
use Rattle.log_story.specs.Tale.{is_reset_step, is_to_server}
use Rattle.tale_world.specs.Tests.{fits, has_due, is_joined, is_keyed, is_lent, is_nobody, is_own_step, is_step_of}
use Rattle.tale_world.specs.Wishes.{Says, Sends, Wish, before_question}
use Rattle.router_promises.specs.Closes.{has_bytes}
use Rattle.router_promises.specs.Keys.{is_at_work}
use Rattle.router_promises.specs.Now.{is_here, was_lost, wire_now}
use Rattle.router_promises.specs.Rest.{is_answered_on}
use Rattle.shared_router.specs.Fixed.{Fixed, IsNumbered}
use Rattle.shared_router.specs.Known.{Known, known, link_by, setup_by, view_by}
use Rattle.shared_router.specs.Ours.{IsOurLog, IsOurs, MayWait}
use Rattle.shared_router.specs.Owed.{owed_next}
use Rattle.shared_router.specs.Shared.{world_at}
use Rattle.link_state.specs.Spells.{execute_bytes, long_bytes}
use Rattle.shared_router.specs.Spelt.{spelt}
use Rattle.shared_router.specs.Waited.{WorksOn, WorksSo}
use Rattle.shared_router.specs.Wishes.{standing_on, wish_on, wish_spelt}
use Rattle.shared_router.proofs.Along.{IsAt, along}
use Rattle.shared_router.proofs.Calming.{nothing_closes, stays_open}
use Rattle.shared_router.proofs.Finishing.{known_so, may_ask}
use Rattle.shared_router.proofs.Pausing.{MayAsk, kept_sound, owed_is}
use Rattle.shared_router.proofs.Saying.{last_plan}
use Rattle.shared_router.proofs.Wishing.{IsWished, wished}

isnt : {A : Type 0} → false ≡ true → A
isnt is = absurd (cc)

-- What is wished has bytes.

packets_some : (full id : ℕ) (payload : List ℕ) → has_bytes (packets full id payload) ≡ true
packets_some zero id payload = refl
packets_some (suc full) id payload = refl

spelling_some : (payload : List ℕ) → has_bytes (spelling 0 payload) ≡ true
unfolding spelling
spelling_some payload = packets_some (length payload / longest) 0 payload

more_some : (xs ys : List ℕ) → has_bytes ys ≡ true → has_bytes (xs ++ ys) ≡ true
more_some [] ys some = some
more_some (x ∷ xs) ys some = refl

abbrev IsNumberedRun : Command → (number : Option ℕ) → Type 0
IsNumberedRun (Run text schema settings args) number = is_some number ≡ true
IsNumberedRun command number = Unit {0}

spelt_some : (command : Command) (number : Option ℕ) → IsNumberedRun command number → has_bytes (spelt command number) ≡ true
spelt_some (Run text schema settings args) None has = isnt has
spelt_some (Run text schema settings args) (Some number) has =
    more_some (flat_map (long_bytes number) args.long) (spelling 0 (execute_bytes number args.nulls args.types args.values))
    (spelling_some (execute_bytes number args.nulls args.types args.values))
spelt_some (Query text) number has = spelling_some (text_payload (Query text))
spelt_some (InitDb schema) number has = spelling_some (text_payload (InitDb schema))
spelt_some (FieldList rest) number has = spelling_some (text_payload (FieldList rest))
spelt_some (SetId n) number has = spelling_some (text_payload (SetId n))
spelt_some ReadId number has = spelling_some (text_payload ReadId)
spelt_some (Prepare text) number has = spelling_some (text_payload (Prepare text))
spelt_some Reset number has = spelling_some (text_payload Reset)
spelt_some Quit number has = spelling_some (text_payload Quit)

module _ (k : Known) (link : LinkId) where
  abbrev there : Link
  there = link_by k link

  abbrev Fits : Question → Type 0
  Fits question = fits (setup_by k) (view_by k) there question ≡ true

  -- an execute has its number; no step is one
  keyed_run : (command : Command) (key : ℕ) → is_keyed (setup_by k) command key there.told there.live ≡ true → IsNumberedRun command (there.live key)
  keyed_run (Run text schema settings args) key is = (and_parts (is_some (there.live key)) _ is).0
  keyed_run (Query text) key is = tt
  keyed_run (InitDb schema) key is = tt
  keyed_run (FieldList rest) key is = tt
  keyed_run (SetId n) key is = tt
  keyed_run ReadId key is = tt
  keyed_run (Prepare text) key is = tt
  keyed_run Reset key is = tt
  keyed_run Quit key is = tt

  run_joined : (n : SessionName) (command : Command) → Fits (Sync n command) → IsNumberedRun command None
  run_joined n command fit = by_command command (and_parts (is_pinned ((view_by k).held n).pin) _ (and_parts (is_joined n there.carries) _ fit).1).1 where
    by_command : (c : Command) → is_step_of (setup_by k).reads c ((view_by k).held n).pin ((view_by k).held n).id ≡ true → IsNumberedRun c None
    by_command (Run text schema settings args) step = isnt step
    by_command (Query text) step = tt
    by_command (InitDb schema) step = tt
    by_command (FieldList rest) step = tt
    by_command (SetId m) step = tt
    by_command ReadId step = tt
    by_command (Prepare text) step = tt
    by_command Reset step = tt
    by_command Quit step = tt

  run_own : (command : Command) → Fits (Own command) → IsNumberedRun command None
  run_own command fit = by_command command (and_parts (is_nobody there.carries || is_lent there.carries) _ fit).1 where
    by_command : (c : Command) → is_own_step (setup_by k).reads c ≡ true → IsNumberedRun c None
    by_command (Run text schema settings args) step = isnt step
    by_command (Query text) step = tt
    by_command (InitDb schema) step = tt
    by_command (FieldList rest) step = tt
    by_command (SetId m) step = tt
    by_command ReadId step = tt
    by_command (Prepare text) step = tt
    by_command Reset step = tt
    by_command Quit step = tt

  fits_run : (question : Question) → Fits question → IsNumberedRun (command_of question) (number_for question there.live)
  fits_run (Statement n due) fit =
      let parts = and_parts (is_name n (present (view_by k) n.client n.hostgroup)) _
      (and_parts (not (is_some ((view_by k).carriers (message_of n due)))) _ (and_parts (has_due (view_by k) n due) _ fit).1).1 in
      keyed_run due.command due.key (and_parts (is_keyed (setup_by k) due.command due.key there.told there.live) _ (and_parts (is_statement due.command) _ parts.1).1).0
  fits_run (Prep n key text) fit = tt
  fits_run (Sync n command) fit = run_joined n command fit
  fits_run (Own command) fit = run_own command fit
  fits_run (End n) fit = tt
  fits_run (Capture n) fit = tt

  wish_some : (wish : Wish) → IsWished k link wish → has_bytes (wish_spelt k link wish) ≡ true
  wish_some wish is = subst (λ w. has_bytes (wish_spelt k link w) ≡ true) is.is (by_before (before_question there (standing_on k link) is.question)) where
    fit : Fits is.question
    fit = (and_parts (is_quiet there.stage) _ (and_parts there.usable _ is.may).1).1

    by_before : (o : Option StepText) → has_bytes (wish_spelt k link (option_map_or (λ text. Says text) o (Sends is.question))) ≡ true
    by_before None = spelt_some (command_of is.question) (number_for is.question there.live) (fits_run is.question fit)
    by_before (Some text) = spelling_some (step_payload text)

  module _ (may : MayWait k) (to_server : is_to_server k.now.tale link ≡ true) (opened : is_open link k.log ≡ true)
      (asks : is_answered_on (setup_by k) k.now link ≡ true → write_dry link k.log ≡ false → MayAsk k.terms k.now link) where
    works : is_some (wish_on k link) ≡ true → is_at_work k.terms k.log k.now link ≡ true
    works some = by_all (is_quiet there.stage) (is_reset_step (wire_now k.now link).step) (write_dry link k.log) refl refl refl where
      goes_out : MayAsk k.terms k.now link → (o : Option Wish) → wish_on k link ≡ o → is_some o ≡ true → write_dry link k.log ≡ true
      goes_out ask None at has = isnt has
      goes_out ask (Some wish) at has =
          may.written link opened
          (ap (λ o. has_bytes o.bytes) (owed_is k link (nothing_closes k may.acted) to_server ask (kept_sound k link (stays_open k may.acted link to_server) opened) ∙ ap (owed_next k link) at)
          ∙ wish_some wish (wished k link wish at))

      by_all : (quiet resets dry : Bool) → is_quiet there.stage ≡ quiet → is_reset_step (wire_now k.now link).step ≡ resets → write_dry link k.log ≡ dry
          → (not quiet || (resets || dry)) ≡ true
      by_all false resets dry q r d = refl
      by_all true true dry q r d = refl
      by_all true false true q r d = refl
      by_all true false false q r d =
          isnt (sym d ∙ goes_out (asks (and_from (is_quiet there.stage) (not (is_reset_step (wire_now k.now link).step)) q (ap not r)) d) (wish_on k link) refl some)

module _ (fixed : Fixed) (numbered : IsNumbered fixed) (log : Log) (our : IsOurLog fixed log) where
  pub works_there : (before later : Log) (e : Entry) → IsAt log before e later → MayWait (known fixed (world_at fixed before)) → (link : LinkId)
      → is_to_server (known fixed (world_at fixed before)).now.tale link ≡ true → is_open link (known fixed (world_at fixed before)).log ≡ true
      → (wire_now (known fixed (world_at fixed before)).now link).entered ≡ true → is_some (wish_on (known fixed (world_at fixed before)) link) ≡ true
      → is_at_work (known fixed (world_at fixed before)).terms (known fixed (world_at fixed before)).log (known fixed (world_at fixed before)).now link ≡ true
  works_there before later e at may link to_server opened entered some =
      let k : Known = known fixed (world_at fixed before) in
      works k link may to_server opened
      (λ answered goes. may_ask k link ((last_plan fixed numbered log).logins link) (known_so fixed numbered log our before later e at may link to_server opened) may to_server opened goes answered entered) some

  works_at : (before later : Log) (e : Entry) → IsAt log before e later → MayWait (known fixed (world_at fixed before)) → WorksOn (known fixed (world_at fixed before))
  works_at before later e at may link to_server vacant some =
      let k : Known = known fixed (world_at fixed before) in
      let first = and_parts (is_here k.log link) (wire_now k.now link).entered (and_parts (is_here k.log link && (wire_now k.now link).entered) _ vacant).0 in
      let opened : is_open link k.log ≡ true = (and_parts (is_open link k.log) (not (was_lost k.log link)) first.0).0 in
      works_there before later e at may link to_server opened first.1 some

  works_by : (before later : Log) (e : Entry) → IsAt log before e later → IsOurs fixed before e → WorksSo fixed before e
  works_by before later (entry.Woke until_ms now_ms) at our_then = works_at before later (entry.Woke until_ms now_ms) at our_then.0
  works_by before later entry.WaitFailed at our_then = works_at before later entry.WaitFailed at our_then
  works_by before later entry.Over at our_then = works_at before later entry.Over at our_then
  works_by before later _ at our_then = tt

  pub works_along : AllLawful (WorksSo fixed) log
  works_along = along fixed log (WorksSo fixed) works_by our
