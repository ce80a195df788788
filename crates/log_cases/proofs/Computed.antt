-- The worked logs, computed.
use Rattle.std.specs.Prelude.{◌≡◌, refl, true, ℕ, codes, List, Option, length, nat_eq, [], ◌∷◌, ◌++◌, Some, None}
use Rattle.std.proofs.Common.{ap, arith, sym, inl, inr, subst, ◌∙◌}
use Rattle.std.specs.Fmt.{digits}
use Rattle.packet_frame.specs.Packets.{first_message, spelling, spellings, split}
use Rattle.handshake.specs.Response.{response_fields, head_fields, response_of}
use Rattle.handshake.specs.Greeting.{greeting_fields, greeting_of, protocol_field, offer_fields, back_field}
use Rattle.handshake.specs.Switch.{switch_of}
use Rattle.handshake.specs.Reading.{number_field, bytes_field, text_field, counted_field, optional_text, last_text}
use Rattle.client_side.specs.Login.{opening as client_opening}
use Rattle.server_side.specs.Login.{opening as server_opening, response_said, answer_said}
use Rattle.client_session.specs.Accounts.{account_of}
use Rattle.client_session.specs.Errors.{connection_refused, own_ok}
use Rattle.server_rule.specs.Replies.{one_number, reply_end}
use Rattle.reply_track.specs.Replying.{payloads_in}
use Rattle.private_model.specs.Commands.{Prepare, runs}
use Rattle.session_vars.specs.declared.long_part.LongPart.{LongPart}
use Rattle.small_server.specs.Tally.{prepared}
use Rattle.private_model.specs.Worlds.{private_after}
use Rattle.session_state.specs.Pins.{no_pin}
use Rattle.session_state.specs.declared.names.SessionName.{SessionName}
use Rattle.private_model.specs.Lawful.{Begins, IsLawful}
use Rattle.private_model.specs.View.{present}
use Rattle.server_rule.specs.Laws.{IsTame}
use Rattle.server_rule.specs.Servers.{Step, Tests}
use Rattle.private_model.specs.Honest.{IsAccepted}
use Rattle.private_model.specs.View.{Setup}
use Rattle.small_server.specs.Tally.{tests}
use Rattle.small_server.proofs.Lawfulness.{tally_tame}
use Rattle.log_story.specs.Headline.{HasPrivateBytes}
use Rattle.log_cases.specs.Cases.{IsWorked}
use Rattle.small_server.proofs.Told.{begins_at, begins_with, begun_so, settled_so, told}
use Rattle.small_server.specs.Stories.{anybody, came, due_at, insert, link, nowhere, reads, session, setup, shared}
use Rattle.log_cases.specs.Aside.{asker, asks, begin, beside_log, beside_plan, beside_story, copy_log, copy_plan, copy_story, given_up, goes_on, is_answered}
use Rattle.log_cases.specs.Aside.{is_given_up, is_woken, job_session, late_story, own_plan, ended_log, ended_plan, ended_story, farewell_log, farewell_story, sent_behind, sent_late}
use Rattle.log_cases.specs.Executed.{done, due_with, execute_log, execute_plan, execute_story, first_run, first_story, prepared_story, preparer, runs_with}
use Rattle.log_cases.specs.Executed.{second_run, text}
use Rattle.mx_wire.specs.Log.{Log}
use Rattle.private_model.specs.Story.{Broke, Story, put}
use Rattle.log_story.specs.Plan.{Plan}
use Rattle.log_story.specs.Honest.{IsHonestLog}
use Rattle.log_story.specs.Owed.{due_bytes}
use Rattle.log_story.specs.Tale.{first_tale}
use Rattle.log_story.specs.Telling.{story_of}
use Rattle.log_cases.specs.Worked.{later_ok, log, logged_in, plan, second_client, server}
use Rattle.log_cases.proofs.Tested.{log_tested, tested_so}

-- what is computed of a log: its story, and that it is honest
pub record IsComputed (plan : Plan) (log : Log) (story : Story) : Type 0 where
  pub told : story_of setup plan log ≡ story
  pub tested : log_tested setup plan server first_tale log ≡ true

honest_so : (plan : Plan) (log : Log) (story : Story) → IsComputed plan log story → IsHonestLog setup plan server log
honest_so plan log story is = tested_so setup plan server first_tale log is.tested

-- the law of private bytes
abbrev pub PrivateBytes : Type 0
PrivateBytes = (setup : Setup) (plan : Plan) (tests : Tests) (server : Step) (log : Log) → IsTame setup.reads tests server → IsAccepted setup tests
    → IsLawful setup (story_of setup plan log) → IsHonestLog setup plan server log → HasPrivateBytes setup plan server log

pub worked_so : PrivateBytes → (plan : Plan) (log : Log) (story : Story) → IsComputed plan log story → IsLawful setup story → IsWorked plan log story
worked_so law plan log story is lawful = record {
  told = is.told;
  lawful = lawful;
  honest = honest_so plan log story is;
  private = law setup plan tests server log (tally_tame reads) (λ at. refl) (subst (IsLawful setup) (sym is.told) lawful) (honest_so plan log story is);
}

pub record AreComputed : Type 0 where
  pub worked : IsComputed plan log shared
  pub own : IsComputed own_plan goes_on given_up
  pub beside : IsComputed beside_plan beside_log beside_story
  pub copies : IsComputed copy_plan copy_log copy_story
  pub ended : IsComputed ended_plan ended_log ended_story
  pub executes : IsComputed execute_plan execute_log execute_story
  pub farewell : IsComputed plan farewell_log farewell_story
  pub sent_behind : story_of setup plan sent_behind ≡ Broke ∷ farewell_story
  pub sent_late : story_of setup own_plan sent_late ≡ late_story
  -- what the router answers itself, moment by moment
  pub waits : story_of setup own_plan asks ≡ []
  pub waits_on : story_of setup own_plan is_answered ≡ []
  pub becomes_due : story_of setup own_plan is_woken ≡ came 1 2 insert ∷ []
  pub is_given_up : story_of setup own_plan is_given_up ≡ came 1 2 insert ∷ []
  -- what clients are due
  pub second_owed : due_bytes (private_after setup (runs server) shared).answers plan (length log) second_client ≡ logged_in 2 ++ later_ok
  pub asker_owed : due_bytes (private_after setup (runs server) given_up).answers own_plan (length goes_on) asker
      ≡ logged_in 1 ++ (spelling 1 own_ok ++ spelling 1 connection_refused)
  pub preparer_owed : due_bytes (private_after setup (runs server) execute_story).answers execute_plan (length execute_log) preparer
      ≡ logged_in 1 ++ (spellings 1 (prepared 1) ++ (done ++ done))

pub computed : AreComputed
unfolding client_opening server_opening payloads_in first_message split spelling account_of response_fields head_fields response_of greeting_fields
    protocol_field offer_fields back_field greeting_of switch_of number_field bytes_field text_field counted_field optional_text last_text own_ok
    connection_refused response_said answer_said reply_end one_number digits
computed = record {
  worked = record { told = refl; tested = refl };
  own = record { told = refl; tested = refl };
  beside = record { told = refl; tested = refl };
  copies = record { told = refl; tested = refl };
  ended = record { told = refl; tested = refl };
  executes = record { told = refl; tested = refl };
  farewell = record { told = refl; tested = refl };
  sent_behind = refl;
  sent_late = refl;
  waits = refl;
  waits_on = refl;
  becomes_due = refl;
  is_given_up = refl;
  second_owed = refl;
  asker_owed = refl;
  preparer_owed = refl;
}

-- Their stories are lawful.

pub own_lawful : IsLawful setup given_up
own_lawful = ((tt, tt), tt)

pub beside_lawful : IsLawful setup beside_story
unfolding reply_end one_number digits
beside_lawful = (
  (
    (
      (((tt, tt), refl), refl),
      begun_so _ (link 3) (session 1) (due_at nowhere 1 true insert) refl refl refl refl refl refl refl
          (begins_at (session 1)),
    ),
    tt,
  ),
  tt,
)

-- a session that was left has another life than the present one
left_is_other : (n present : SessionName) → n.life ≡ 0 → present.life ≡ 1 → n ≡ present → ⊥
left_is_other n present left next same = (let both : 0 ≡ 1 = sym left ∙ ap (λ (m : SessionName). m.life) same ∙ next in omega (arith, both))

pub copy_lawful : IsLawful setup copy_story
unfolding reply_end one_number digits
copy_lawful = (
  (
    (
      (
        (
          ((((tt, tt), tt), tt), refl),
          begun_so _ (link 3) job_session (due_at nowhere 1 true insert)
              refl refl refl refl refl refl refl (begins_at job_session),
        ),
        tt,
      ),
      tt,
    ),
    tt,
  ),
  record { who = job_session; carries = inl refl; quiet = refl; harmless = refl; settled = inr (left_is_other _ _ refl refl) },
)

begins_begin : Begins setup (session 1) (due_at nowhere 1 true begin) anybody told (Some 0) (λ key. None) no_pin (Some 0)
begins_begin = begins_with (session 1) (due_at nowhere 1 true begin) (λ key. None) refl tt refl refl refl refl

pub ended_lawful : IsLawful setup ended_story
unfolding reply_end one_number digits
ended_lawful = (
  (
    (
      (
        ((((((tt, tt), refl), begun_so _ (link 3) (session 1) (due_at nowhere 1 true begin) refl refl refl refl refl refl refl begins_begin), tt), tt), tt),
        record { usable = refl; quiet = refl; fits = record { carries = refl; left = left_is_other _ _ refl refl; needed = refl; resets = refl } },
      ),
      tt,
    ),
    tt,
  ),
  record { who = session 1; carries = inl refl; quiet = refl; harmless = refl; settled = inr (left_is_other _ _ refl refl) },
)

-- A prepared statement.

abbrev is_live : ℕ → Option ℕ
is_live = put nat_eq (λ key. None) 7 (Some 7)

begins_to_prepare : Begins setup (session 1) (due_with 1 (Prepare text)) anybody told (Some 0) (λ key. None) no_pin (Some 0)
begins_to_prepare = begins_with (session 1) (due_with 1 (Prepare text)) (λ key. None) refl (record { text_is = refl; schema = refl; core = refl }) refl refl
    refl refl

begins_to_run : (ordinal null : ℕ) (long : List LongPart)
    → Begins setup (session 1) (due_with ordinal (runs_with null long)) anybody told (Some 0) is_live no_pin (Some 0)
begins_to_run ordinal null long = begins_with (session 1) (due_with ordinal (runs_with null long)) is_live refl
    (record { number = 7; there = refl; text_of = refl; schema_of = refl; core_of = refl }) refl refl refl refl

prepared_lawful : IsLawful setup prepared_story
unfolding reply_end one_number digits
prepared_lawful = (
  (
    ((((tt, tt), refl), begun_so _ (link 3) (session 1) (due_with 1 (Prepare text)) refl refl refl refl refl refl refl begins_to_prepare), tt),
    tt,
  ),
  settled_so _ (link 3) (session 1) 0 refl refl refl refl refl,
)

first_lawful : IsLawful setup first_story
unfolding reply_end one_number digits
first_lawful = (
  (
    (
      (
        (prepared_lawful, tt),
        begun_so _ (link 3) (session 1) (due_with 3 first_run) refl refl refl refl refl refl refl
            (begins_to_run 3 0 (record { parameter = 0; bytes = codes "abc" } ∷ [])),
      ),
      tt,
    ),
    tt,
  ),
  settled_so _ (link 3) (session 1) 0 refl refl refl refl refl,
)

pub execute_lawful : IsLawful setup execute_story
unfolding reply_end one_number digits
execute_lawful = (
  (
    (
      ((first_lawful, tt), begun_so _ (link 3) (session 1) (due_with 4 second_run) refl refl refl refl refl refl refl (begins_to_run 4 1 [])),
      tt,
    ),
    tt,
  ),
  settled_so _ (link 3) (session 1) 0 refl refl refl refl refl,
)

-- What servers say behind a drop.

pub farewell_lawful : IsLawful setup farewell_story
farewell_lawful = (((tt, tt), refl), tt)
