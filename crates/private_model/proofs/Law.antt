-- The law: by induction on the story.
use Rattle.std.specs.Prelude.{nat_eq, not, List, ◌≡◌, ℕ, Bool, true, false, [], ◌∷◌, Some, None}
use Rattle.std.proofs.Common.{refl, sym, ap, ◌∙◌, subst}
use Rattle.private_model.specs.Names.{LinkId, ServerId, MessageName, SessionName}
use Rattle.private_model.proofs.Answering.{are_heard, are_linked, are_ran, are_sent, are_still}
use Rattle.private_model.proofs.Decoding.{are_decoded, tabled_ran}
use Rattle.private_model.proofs.Lasting.{AreLasting, dropped_lasting, ends_reset, ran_lasting, relinked, sent_lasting}
use Rattle.private_model.proofs.Maps.{put-back}
use Rattle.private_model.proofs.Meeting.{mark_of}
use Rattle.private_model.proofs.Preparing.{Tabled, tabled_closed, tabled_dropped, tabled_freed, tabled_gone, tabled_heard, tabled_login, tabled_sent}
use Rattle.private_model.proofs.Running.{closed_so, dead_runs, dropped_so, gone_so, logged_in_so, met_there, ran_so, same_reply, stands_first}
use Rattle.private_model.proofs.Sending.{freed_so, heard_so, sent}
use Rattle.private_model.proofs.Stands.{AreAnswered, AreTabled, Stands, message_on, ran_on, heard, quieted, heard_now}
use Rattle.private_model.proofs.Tame.{Tame}
use Rattle.private_model.specs.Commands.{Command, Prepare, Quit, ReadId, Reply, Reset, Step}
use Rattle.private_model.specs.Headline.{MeetsPrivate}
use Rattle.private_model.specs.Honest.{IsAccepted, IsAnswer, IsHonest, IsTrueOf, IsTrueRun}
use Rattle.private_model.specs.Lawful.{IsLawful, MayCome, MaySend}
use Rattle.private_model.specs.Story.{BecameDue, Broke, Capture, Dropped, End, Freed, Gone, Happening, Heard, Left, LoggedIn, Mirrored, Own, Prep, Question, Ran, Sent, Statement, Story, Sync, Unprepared, command_of, for_statement, is_link_id, is_message, message_of, put}
use Rattle.private_model.specs.View.{heard as heard_there}
use Rattle.private_model.specs.View.{Answered, Asked, Carried, Joined, Lent, Link, Nobody, Quiet, Setup, Stage, View, is_quit, asked, closed_number, freed, new_link, ran_by, view_heard, view_after, view_step}
use Rattle.private_model.specs.Worlds.{Peer, Private, Real, alive_in, decoded, new_peer, private_after, private_drop, private_prep, private_run, private_step, real_after, real_drop, real_run, real_step, there_table}
use Rattle.server_rule.specs.Servers.{Tests}
use Rattle.session_state.specs.Pins.{is_pinned}
use Rattle.std.specs.Option.{option_and_then}

-- The data and the sessions.

stands_next : (setup : Setup) (tests : Tests) (step : Step) → Tame setup.reads tests step → (view : View) (real : Real) (private : Private) (e : Happening) → Stands setup tests view real private → Tabled setup view real private → AreLasting setup.reads tests view.links view.lasting private.sessions → MayCome setup view e → IsTrueOf step view real e
    → Stands setup tests (view_step setup view e) (real_step step view real e) (private_step step view (alive_in real) private e)
stands_next setup tests step tame view real private (LoggedIn link server account) stands tabled lasting may honest = logged_in_so setup tests step tame view real private stands link server account
stands_next setup tests step tame view real private (BecameDue client hostgroup ordinal key command multiplex) stands tabled lasting may honest =
    record { accepted = stands.accepted; stored = stands.stored; owners = stands.owners; resting = stands.resting; links = stands.links }
stands_next setup tests step tame view real private (Sent link question) stands tabled lasting may honest = sent setup tests view real private stands link question may
stands_next setup tests step tame view real private (Ran link) stands tabled lasting may honest = ran_so setup tests step tame view real private stands link (are_decoded setup tests step tame view real private stands tabled link) (ends_reset setup tests step tame view real private stands lasting link) honest
stands_next setup tests step tame view real private (Heard link reply) stands tabled lasting may honest = heard_so setup tests view real private stands link reply honest
stands_next setup tests step tame view real private (Freed link) stands tabled lasting may honest = freed_so setup tests view real private stands link may
stands_next setup tests step tame view real private (Unprepared link number) stands tabled lasting may honest = closed_so setup tests step tame view real private stands link number may
stands_next setup tests step tame view real private (Dropped link) stands tabled lasting may honest = dropped_so setup tests step tame view real private stands link
stands_next setup tests step tame view real private (Gone link) stands tabled lasting may honest = gone_so setup tests step tame view real private stands link
stands_next setup tests step tame view real private (Left client) stands tabled lasting may honest =
    record { accepted = stands.accepted; stored = stands.stored; owners = stands.owners; resting = stands.resting; links = stands.links }
stands_next setup tests step tame view real private Broke stands tabled lasting may honest = absurd may
stands_next setup tests step tame view real private (Mirrored client job) stands tabled lasting may honest =
    record { accepted = stands.accepted; stored = stands.stored; owners = stands.owners; resting = stands.resting; links = stands.links }

-- What is prepared.

drop_keeps : (step : Step) (private : Private) (alive : Bool) (carried : Carried) (server : ServerId) → (private_drop step private alive carried server).tables ≡ private.tables
drop_keeps step private false carried server = refl
drop_keeps step private true Nobody server = refl
drop_keeps step private true (Lent n) server = refl
drop_keeps step private true (Joined n) server = refl

drop_tabled : (setup : Setup) (tests : Tests) (step : Step) (view : View) (real : Real) (private : Private) → Stands setup tests view real private → Tabled setup view real private → (link : LinkId) (alive : Bool)
    → AreTabled setup view.links (real_drop step real link alive (view.links link).server).peers view.held private.tables
drop_tabled setup tests step view real private stands tabled link false = tabled
drop_tabled setup tests step view real private stands tabled link true = tabled_dropped setup tests view real private stands tabled link (step (real.stored (view.links link).server) (real.peers link).session Quit).session

tabled_next : (setup : Setup) (tests : Tests) (step : Step) → Tame setup.reads tests step → (view : View) (real : Real) (private : Private) (e : Happening) → Stands setup tests view real private → Tabled setup view real private → MayCome setup view e → IsTrueOf step view real e
    → Tabled setup (view_step setup view e) (real_step step view real e) (private_step step view (alive_in real) private e)
tabled_next setup tests step tame view real private (LoggedIn link server account) stands tabled may honest = tabled_login setup tests view real private stands tabled link server account
tabled_next setup tests step tame view real private (BecameDue client hostgroup ordinal key command multiplex) stands tabled may honest = tabled
tabled_next setup tests step tame view real private (Sent link question) stands tabled may honest = tabled_sent setup tests view real private stands tabled link question may
tabled_next setup tests step tame view real private (Ran link) stands tabled may honest = tabled_ran setup tests step tame view real private stands tabled link honest
tabled_next setup tests step tame view real private (Heard link reply) stands tabled may honest = tabled_heard setup tests view real private stands tabled link reply honest
tabled_next setup tests step tame view real private (Freed link) stands tabled may honest = tabled_freed setup tests view real private stands tabled link may
tabled_next setup tests step tame view real private (Unprepared link number) stands tabled may honest = tabled_closed setup tests view real private stands tabled link number may
tabled_next setup tests step tame view real private (Dropped link) stands tabled may honest =
    subst (λ t. AreTabled setup (view_step setup view (Dropped link)).links (real_step step view real (Dropped link)).peers view.held t) (sym (drop_keeps step private (real.peers link).alive (view.links link).carries (view.links link).server))
    (drop_tabled setup tests step view real private stands tabled link (real.peers link).alive)
tabled_next setup tests step tame view real private (Gone link) stands tabled may honest = tabled_gone setup tests view real private stands tabled link
tabled_next setup tests step tame view real private _ stands tabled may honest = tabled

-- The answers.

abbrev Answer : View → Real → Private → Type 0
Answer view real private = AreAnswered view.links real.peers view.carriers view.replies private.answers

prep_leaves : (step : Step) (private : Private) (pinned : Bool) (server : ServerId) (n : SessionName) (key : ℕ) (text : List ℕ) → (private_prep step private pinned server n key text).answers ≡ private.answers
prep_leaves step private true server n key text = refl
prep_leaves step private false server n key text = refl

module _ (setup : Setup) (tests : Tests) (step : Step) (tame : Tame setup.reads tests step) (view : View) (real : Real) (private : Private) (stands : Stands setup tests view real private) (tabled : Tabled setup view real private) (answer : AreAnswered view.links real.peers view.carriers view.replies private.answers) (number : LinkId) where
  abbrev now : Link
  now = view.links number

  sent_answers : (question : Question) → MaySend setup view (view.links number) question → Answer (view_step setup view (Sent number question)) real private
  sent_answers (Statement n due) may = are_sent view.links real.peers view.carriers view.replies private.answers answer number (asked (Statement n due) now) (message_of n due) refl refl may.fits.unsent
  sent_answers (Prep n key text) may = are_linked view.links real.peers view.carriers view.replies private.answers answer number (asked (Prep n key text) now) (λ m e. cc) (λ m e. cc)
  sent_answers (Sync n c) may = are_linked view.links real.peers view.carriers view.replies private.answers answer number (asked (Sync n c) now) (λ m e. cc) (λ m e. cc)
  sent_answers (Own c) may = are_linked view.links real.peers view.carriers view.replies private.answers answer number (asked (Own c) now) (λ m e. cc) (λ m e. cc)
  sent_answers (End n) may = are_linked view.links real.peers view.carriers view.replies private.answers answer number (asked (End n) now) (λ m e. cc) (λ m e. cc)
  sent_answers (Capture n) may = are_linked view.links real.peers view.carriers view.replies private.answers answer number (asked (Capture n) now) (λ m e. cc) (λ m e. cc)

  abbrev peer_after : Question → Command → Peer
  peer_after question c =
      let outcome = step (real.stored now.server) (real.peers number).session c in
      record { session = outcome.session; answer = outcome.reply; table = there_table question outcome (real.peers number).table; alive = not (is_quit (command_of question)) }

  no_message : (m : MessageName) → None ≡ Some m → ⊥
  no_message m e = cc

  -- a reply that isn't a statement's
  quiet_answers : (question : Question) → (view.links number).stage ≡ Answered question
      → AreAnswered (put is_link_id view.links number (heard setup.reads (real.peers number).answer now)) real.peers view.carriers view.replies private.answers
  quiet_answers question is = are_linked view.links real.peers view.carriers view.replies private.answers answer number (heard setup.reads (real.peers number).answer now)
      (λ m e. absurd (no_message m (sym (ap (λ st. message_on (quieted st)) is) ∙ e))) (λ m e. absurd (no_message m (sym (ap (λ st. ran_on (quieted st)) is) ∙ e)))

  ran_answers : (alive : Bool) (stage : Stage) → (real.peers number).alive ≡ alive → (view.links number).stage ≡ stage → IsTrueRun step real number (view.links number).live stage now.server
      → Answer (record view { links = put is_link_id view.links number (ran_by setup.reads stage now) }) (real_run step real number (view.links number).live alive stage now.server) (private_run step view.held private alive stage now.server)
  ran_answers true (Asked (Statement n due)) alive is honest =
      are_ran view.links real.peers view.carriers view.replies private.answers answer number (ran_by setup.reads (Asked (Statement n due)) now) (peer_after (Statement n due) (decoded (option_and_then (real.peers number).table ((view.links number).live due.key)) due.command)) (message_of n due) _ (ap message_on is) refl (same_reply setup tests step tame view real private stands number (are_decoded setup tests step tame view real private stands tabled number) n due alive is) (λ m e. cc)
  ran_answers true (Asked (Prep n key text)) alive is honest =
      subst (λ a. AreAnswered (put is_link_id view.links number (ran_by setup.reads (Asked (Prep n key text)) now)) (put is_link_id real.peers number (peer_after (Prep n key text) (Prepare text))) view.carriers view.replies a) (sym (prep_leaves step private (is_pinned (view.held n).pin) now.server n key text))
      (are_still view.links real.peers view.carriers view.replies private.answers answer number (ran_by setup.reads (Asked (Prep n key text)) now) (peer_after (Prep n key text) (Prepare text)) (λ m e. cc) (λ m e. absurd (no_message m e)))
  ran_answers true (Asked (Sync n c)) alive is honest = are_still view.links real.peers view.carriers view.replies private.answers answer number (ran_by setup.reads (Asked (Sync n c)) now) (peer_after (Sync n c) c) (λ m e. cc) (λ m e. absurd (no_message m e))
  ran_answers true (Asked (Own c)) alive is honest = are_still view.links real.peers view.carriers view.replies private.answers answer number (ran_by setup.reads (Asked (Own c)) now) (peer_after (Own c) c) (λ m e. cc) (λ m e. absurd (no_message m e))
  ran_answers true (Asked (End n)) alive is honest = are_still view.links real.peers view.carriers view.replies private.answers answer number (ran_by setup.reads (Asked (End n)) now) (peer_after (End n) Reset) (λ m e. cc) (λ m e. absurd (no_message m e))
  ran_answers true (Asked (Capture n)) alive is honest = are_still view.links real.peers view.carriers view.replies private.answers answer number (ran_by setup.reads (Asked (Capture n)) now) (peer_after (Capture n) ReadId) (λ m e. cc) (λ m e. absurd (no_message m e))
  ran_answers false (Asked question) alive is honest = dead_runs alive honest.alive
  ran_answers true Quiet alive is honest = are_linked view.links real.peers view.carriers view.replies private.answers answer number now (λ m e. e) (λ m e. e)
  ran_answers true (Answered question) alive is honest = are_linked view.links real.peers view.carriers view.replies private.answers answer number now (λ m e. e) (λ m e. e)
  ran_answers false Quiet alive is honest = are_linked view.links real.peers view.carriers view.replies private.answers answer number now (λ m e. e) (λ m e. e)
  ran_answers false (Answered question) alive is honest = are_linked view.links real.peers view.carriers view.replies private.answers answer number now (λ m e. e) (λ m e. e)

  pub answers_ran : IsTrueRun step real number (view.links number).live (view.links number).stage now.server → Answer (view_step setup view (Ran number)) (real_step step view real (Ran number)) (private_step step view (alive_in real) private (Ran number))
  answers_ran honest = ran_answers (real.peers number).alive now.stage refl refl honest

  heard_answers : (question : Question) → (view.links number).stage ≡ Answered question
      → AreAnswered (put is_link_id view.links number (heard setup.reads (real.peers number).answer now)) real.peers view.carriers (for_statement question (λ n due. put is_message view.replies (message_of n due) (Some (real.peers number).answer)) view.replies) private.answers
  heard_answers (Statement n due) is = are_heard view.links real.peers view.carriers view.replies private.answers answer number (heard setup.reads (real.peers number).answer now) (message_of n due) (ap ran_on is) (ap message_on is) (ap (λ st. message_on (quieted st)) is) (ap (λ st. ran_on (quieted st)) is)
  heard_answers (Prep n key text) is = quiet_answers (Prep n key text) is
  heard_answers (Sync n c) is = quiet_answers (Sync n c) is
  heard_answers (Own c) is = quiet_answers (Own c) is
  heard_answers (End n) is = quiet_answers (End n) is
  heard_answers (Capture n) is = quiet_answers (Capture n) is

  pub answers_heard : (reply : Reply) → IsAnswer (view.links number) (real.peers number).answer reply → Answer (view_step setup view (Heard number reply)) real private
  answers_heard reply is =
      let a = (real.peers number).answer in
      subst (λ r. Answer (view_step setup view (Heard number r)) real private) (sym is.same)
      (subst (λ st. Answer (view_heard setup view number a st) real private) (sym is.ran)
      (subst (λ l. Answer (record (view_heard setup view number a (Answered is.question)) { links = put is_link_id view.links number l }) real private) (heard_now setup.reads is.question a now is.ran) (heard_answers is.question is.ran)))

  drop_answers : (alive : Bool) → Answer view (real_drop step real number alive now.server) private
  drop_answers false = answer
  drop_answers true =
      let peer : Peer = record (real.peers number) { session = (step (real.stored now.server) (real.peers number).session Quit).session; alive = false } in
      subst (λ links. AreAnswered links (put is_link_id real.peers number peer) view.carriers view.replies private.answers) (put-back view.links number)
      (are_still view.links real.peers view.carriers view.replies private.answers answer number now peer (λ m e. e) (λ m e. (e, refl)))

drop_leaves : (step : Step) (private : Private) (alive : Bool) (carried : Carried) (server : ServerId) → (private_drop step private alive carried server).answers ≡ private.answers
drop_leaves step private false carried server = refl
drop_leaves step private true Nobody server = refl
drop_leaves step private true (Lent n) server = refl
drop_leaves step private true (Joined n) server = refl

answers_next : (setup : Setup) (tests : Tests) (step : Step) → Tame setup.reads tests step → (view : View) (real : Real) (private : Private) (e : Happening) → Stands setup tests view real private → Tabled setup view real private → Answer view real private → MayCome setup view e → IsTrueOf step view real e
    → Answer (view_step setup view e) (real_step step view real e) (private_step step view (alive_in real) private e)
answers_next setup tests step tame view real private (LoggedIn link server account) stands tabled answer may honest =
    are_still view.links real.peers view.carriers view.replies private.answers answer link (new_link server account) (new_peer account) (λ m e. cc) (λ m e. absurd (no_message setup tests step tame view real private stands tabled answer link m e))
answers_next setup tests step tame view real private (BecameDue client hostgroup ordinal key command multiplex) stands tabled answer may honest = answer
answers_next setup tests step tame view real private (Sent link question) stands tabled answer may honest = sent_answers setup tests step tame view real private stands tabled answer link question may
answers_next setup tests step tame view real private (Ran link) stands tabled answer may honest = answers_ran setup tests step tame view real private stands tabled answer link honest
answers_next setup tests step tame view real private (Heard link reply) stands tabled answer may honest = answers_heard setup tests step tame view real private stands tabled answer link reply honest
answers_next setup tests step tame view real private (Freed link) stands tabled answer may honest = are_linked view.links real.peers view.carriers view.replies private.answers answer link (freed (view.links link)) (λ m e. e) (λ m e. e)
answers_next setup tests step tame view real private (Unprepared link number) stands tabled answer may honest =
    are_still view.links real.peers view.carriers view.replies private.answers answer link (closed_number number (view.links link)) (record (real.peers link) { table = put nat_eq (real.peers link).table number None }) (λ m e. e) (λ m e. (e, refl))
answers_next setup tests step tame view real private (Dropped link) stands tabled answer may honest =
    subst (λ a. AreAnswered (view_step setup view (Dropped link)).links (real_step step view real (Dropped link)).peers view.carriers view.replies a) (sym (drop_leaves step private (real.peers link).alive (view.links link).carries (view.links link).server))
    (drop_answers setup tests step tame view real private stands tabled answer link (real.peers link).alive)
answers_next setup tests step tame view real private (Gone link) stands tabled answer may honest = are_linked view.links real.peers view.carriers view.replies private.answers answer link (record (view.links link) { usable = false }) (λ m e. e) (λ m e. e)
answers_next setup tests step tame view real private _ stands tabled answer may honest = answer

-- What no reset takes back.

lasting_next : (setup : Setup) (tests : Tests) (step : Step) → Tame setup.reads tests step → (view : View) (real : Real) (private : Private) (e : Happening) → Stands setup tests view real private → Tabled setup view real private → AreLasting setup.reads tests view.links view.lasting private.sessions → MayCome setup view e → IsTrueOf step view real e
    → AreLasting setup.reads tests (view_step setup view e).links (view_step setup view e).lasting (private_step step view (alive_in real) private e).sessions
lasting_next setup tests step tame view real private (LoggedIn link server account) stands tabled lasting may honest = relinked setup.reads tests view.links view.lasting private.sessions lasting link (new_link server account) (λ q at. absurd (cc))
lasting_next setup tests step tame view real private (Sent link question) stands tabled lasting may honest = sent_lasting setup tests step tame view real private stands lasting link question may
lasting_next setup tests step tame view real private (Ran link) stands tabled lasting may honest = ran_lasting setup tests step tame view real private stands lasting link (are_decoded setup tests step tame view real private stands tabled link) honest
lasting_next setup tests step tame view real private (Heard link reply) stands tabled lasting may honest = heard_by (view.links link).stage
  where
    heard_by : (stage : Stage) → AreLasting setup.reads tests (view_heard setup view link reply stage).links (view_heard setup view link reply stage).lasting private.sessions
    heard_by (Answered question) = relinked setup.reads tests view.links view.lasting private.sessions lasting link (heard_there setup.reads question reply (view.links link)) (λ q at. absurd (cc))
    heard_by Quiet = lasting
    heard_by (Asked question) = lasting
lasting_next setup tests step tame view real private (Freed link) stands tabled lasting may honest = relinked setup.reads tests view.links view.lasting private.sessions lasting link (freed (view.links link)) (λ q at. at)
lasting_next setup tests step tame view real private (Unprepared link number) stands tabled lasting may honest = relinked setup.reads tests view.links view.lasting private.sessions lasting link (closed_number number (view.links link)) (λ q at. at)
lasting_next setup tests step tame view real private (Dropped link) stands tabled lasting may honest = dropped_lasting setup tests step tame view real private stands lasting link (real.peers link).alive (view.links link).carries
lasting_next setup tests step tame view real private (Gone link) stands tabled lasting may honest = relinked setup.reads tests view.links view.lasting private.sessions lasting link (record (view.links link) { usable = false }) (λ q at. at)
lasting_next setup tests step tame view real private _ stands tabled lasting may honest = lasting

-- Both, at every moment.

record Always (setup : Setup) (tests : Tests) (step : Step) (story : Story) : Type 0 where
  stands : Stands setup tests (view_after setup story) (real_after setup step story) (private_after setup step story)
  tabled : Tabled setup (view_after setup story) (real_after setup step story) (private_after setup step story)
  answer : Answer (view_after setup story) (real_after setup step story) (private_after setup step story)
  lasting : AreLasting setup.reads tests (view_after setup story).links (view_after setup story).lasting (private_after setup step story).sessions

always : (setup : Setup) (tests : Tests) (step : Step) (story : Story) → Tame setup.reads tests step → IsAccepted setup tests → IsLawful setup story → IsHonest setup step story → Always setup tests step story
always setup tests step [] tame accepted lawful honest = record {
  stands = stands_first setup tests step tame accepted;
  tabled = record { on = λ number. tt; resting = λ n e. record { usual = λ key place f. cc } };
  lasting = record { sessions_of = λ n none. tame.reset.nothing_lasts; statements = λ l n due at none. absurd (cc); ends = λ l n at. absurd (cc) };
  answer = record { carried = λ number m e. cc; unread = λ number m e. cc; unsent = λ m e. refl; answered = λ number m e. cc; replied = λ m r e. cc };
}
always setup tests step (e ∷ past) tame accepted lawful honest =
    let before = always setup tests step past tame accepted lawful.0 honest.0 in
    record {
      stands = stands_next setup tests step tame (view_after setup past) (real_after setup step past) (private_after setup step past) e before.stands before.tabled before.lasting lawful.1 honest.1;
      lasting = lasting_next setup tests step tame (view_after setup past) (real_after setup step past) (private_after setup step past) e before.stands before.tabled before.lasting lawful.1 honest.1;
      tabled = tabled_next setup tests step tame (view_after setup past) (real_after setup step past) (private_after setup step past) e before.stands before.tabled lawful.1 honest.1;
      answer = answers_next setup tests step tame (view_after setup past) (real_after setup step past) (private_after setup step past) e before.stands before.tabled before.answer lawful.1 honest.1;
    }

meets : (setup : Setup) (tests : Tests) (step : Step) → Tame setup.reads tests step → (view : View) (real : Real) (private : Private) → Stands setup tests view real private → Answer view real private → MeetsPrivate setup.reads tests view real private
meets setup tests step tame view real private stands answer = record {
  stored = stands.stored;
  sessions = λ link n due alive asked.
      let met = (met_there setup tests step tame view real private stands link n due alive asked).met in
      record { rest = met.rest; last_id = λ e. met.marks (mark_of setup.reads due.command e); diag = met.diag };
  told = λ link n due alive asked. (met_there setup tests step tame view real private stands link n due alive asked).placed;
  answers = λ link n due is. answer.answered link (message_of n due) (ap ran_on is);
  replies = answer.replied;
}

pub private_law : (setup : Setup) (tests : Tests) (step : Step) (story : Story) → Tame setup.reads tests step → IsAccepted setup tests → IsLawful setup story → IsHonest setup step story
    → MeetsPrivate setup.reads tests (view_after setup story) (real_after setup step story) (private_after setup step story)
private_law setup tests step story tame accepted lawful honest =
    let at = always setup tests step story tame accepted lawful honest in
    meets setup tests step tame (view_after setup story) (real_after setup step story) (private_after setup step story) at.stands at.answer
