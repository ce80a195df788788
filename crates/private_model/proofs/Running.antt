-- What happens at a server: a command runs, a link is dropped; and the rest of what can happen.
use Rattle.std.specs.Prelude.{Bool, List, None, Option, Some, [], false, if◌then◌else◌, nat_eq, not, true, ℕ, ◌||◌, ◌≡◌, ◌⊎◌}
use Rattle.std.proofs.Common.{refl, sym, ap, ◌∙◌, subst, inl, inr}
use Rattle.private_model.specs.Names.{LinkId, ServerId, MessageName, SessionName}
use Rattle.private_model.proofs.Maps.{IsElsewhere, at_each, both_put, frame, link_ids, names, no_other, one_put, put-back, put-other, put-same, put_all, servers, still_resting}
use Rattle.private_model.proofs.Meeting.{IsDecoded, IsMet, IsTextOf, back_text, capture_after, end_after, met_after, met_alike, met_joined, met_lent, of_text, own_after, own_calm, own_same, prep_after, prep_free, step_after}
use Rattle.private_model.proofs.Pairs.{IsAlikeAfter, quit_stored, reset_stored}
use Rattle.private_model.proofs.Sessions.{plain_quit}
use Rattle.private_model.proofs.Stands.{IfAlive, IsAskedFree, IsAskedJoined, IsAskedLent, IsAt, IsAtBy, IsFree, IsFreeLink, IsGood, IsJoined, IsJoinedLink, IsLentLink, IsPlain, IsResting, Stands, soon_pin, soon_id, soon_told}
use Rattle.private_model.proofs.Tame.{Tame, account_of}
use Rattle.private_model.specs.Commands.{Account, Command, Outcome, Prepare, Quit, ReadId, Reply, Reset, Step, id_after, is_marked, pin_statement}
use Rattle.private_model.specs.Honest.{IsAccepted, IsTrueRun}
use Rattle.private_model.specs.Lawful.{IsKeyed, IsOwnStep, IsPlaced, is_statement}
use Rattle.private_model.specs.Story.{Capture, Dropped, Due, End, Gone, Key, LoggedIn, Own, Prep, Question, Ran, Statement, Sync, Unprepared, is_link_id, is_message, is_name, is_server, message_of, put}
use Rattle.private_model.specs.View.{Answered, Asked, Carried, Held, Joined, Lent, Link, Nobody, Quiet, Setup, Stage, View, closed_number, is_quit, new_link, ran_by, told_after, view_after, view_step}
use Rattle.private_model.specs.Worlds.{Peer, Private, Real, alive_in, closed, decoded, new_peer, placed, private_after, private_drop, private_prep, private_run, private_step, readied, real_after, real_drop, real_run, real_step, table_after, there_table}
use Rattle.server_rule.specs.Classes.{Reads}
use Rattle.server_rule.specs.Servers.{Accepts, Tests, with_id}
use Rattle.server_rule.specs.declared.session.Session.{Session}
use Rattle.session_state.specs.Pins.{is_pinned}
use Rattle.session_state.specs.declared.pin.Pin.{Pin}
use Rattle.std.specs.Option.{option_and_then}

sessions_elsewhere : (key : SessionName) (held : SessionName → Held) (sessions : SessionName → Session) (s : Session) → IsElsewhere key held sessions held (put is_name sessions key s)
sessions_elsewhere key held sessions s = record { keeps_held = λ n e. refl; keeps_session = λ n e. put-other names sessions key s n e }

-- A statement that is to run meets its session.
pub record IsMetThere (setup : Setup) (tests : Tests) (number : LinkId) (due : Due) (link : Link) (held : Held) (s p : Session) : Type 0 where
  pub home : held.home ≡ Some number
  pub statement : is_statement due.command ≡ true
  pub keyed : IsKeyed setup due.command due.key link.told link.live
  pub placed : IsPlaced link.told due.place
  pub met : IsMet tests setup.reads due.command link.account link.marked link.told link.id held.pin held.id s (readied due p)

-- nothing runs on a link that was dropped
pub dead_runs : {A : Type 0} {b : Bool} → b ≡ false → b ≡ true → A
dead_runs dead lives = absurd (cc)

met_of_lent : (setup : Setup) (tests : Tests) (number : LinkId) (n : SessionName) (due : Due) (link : Link) (peer : Peer) (held : Held) (p : Session) → IsLentLink setup number n link peer held p → peer.alive ≡ true → link.stage ≡ Asked (Statement n due) → account_of p ≡ setup.accounts n.client
    → IsMetThere setup tests number due link held peer.session p
met_of_lent setup tests number n due link peer held p lent alive ran owner =
    let begins = (subst (λ st. IsAskedLent setup n st link.account link.told link.id link.live held) ran lent.asked).begins in
    let free = subst (λ b. IfAlive b (IsFree link.account link.told link.id peer.session) (Unit {0})) alive
    (subst (λ st. IfAlive peer.alive (IsFree link.account (soon_told setup.reads st peer.answer link.told) (soon_id setup.reads st peer.answer link.id) peer.session) (Unit {0})) ran lent.session) in
    record {
      home = lent.home;
      statement = begins.statement;
      keyed = begins.keyed;
      placed = begins.placed;
      met = subst (λ b. IsMet tests setup.reads due.command link.account b link.told link.id held.pin held.id peer.session (readied due p)) (sym lent.unmarked)
          (met_lent setup tests n due link.account link.told link.id link.live held.pin held.id peer.session p begins free owner lent.plain lent.id);
    }

-- what is known of a joined link where nothing is foreseen
asked_joined : (tests : Tests) (reads : Reads) (link : Link) (there : Bool) (answer : Reply) (pin : Pin) (id : Option ℕ) (s p : Session) (question : Question) → there ≡ true → link.stage ≡ Asked question
    → IsJoined tests there link.account link.marked (soon_told reads link.stage answer link.told) (soon_id reads link.stage answer link.id) (soon_pin reads link.stage answer pin) (soon_id reads link.stage answer id) s p
    → IsJoined tests true link.account link.marked link.told link.id pin id s p
asked_joined tests reads link there answer pin id s p question alive ran joined =
    subst (λ b. IsJoined tests b link.account link.marked link.told link.id pin id s p) alive
    (subst (λ st. IsJoined tests there link.account link.marked (soon_told reads st answer link.told) (soon_id reads st answer link.id) (soon_pin reads st answer pin) (soon_id reads st answer id) s p) ran joined)

met_of_joined : (setup : Setup) (tests : Tests) (number : LinkId) (n : SessionName) (due : Due) (link : Link) (peer : Peer) (held : Held) (p : Session) → IsJoinedLink setup tests number n link peer held p → peer.alive ≡ true → link.stage ≡ Asked (Statement n due)
    → IsMetThere setup tests number due link held peer.session p
met_of_joined setup tests number n due link peer held p is alive ran =
    let going = subst (λ st. IsAskedJoined setup n st link.marked link.told link.id link.live held) ran is.asked in
    let joined = asked_joined tests setup.reads link peer.alive peer.answer held.pin held.id peer.session p (Statement n due) alive ran is.joined in
    record {
      home = is.home;
      statement = going.goes_on.statement;
      keyed = going.goes_on.keyed;
      placed = going.goes_on.placed;
      met = met_joined setup tests due link.account link.marked link.told link.id link.live held.pin held.id peer.session p going.goes_on joined.session joined.knows joined.unknown;
    }

-- Of what is asked on a link: a statement is of the session that it carries, and so is every other command but the router's own.
pub statement_name : (setup : Setup) (tests : Tests) (number : LinkId) (carried : Carried) (link : Link) (peer : Peer) (held : SessionName → Held) (sessions : SessionName → Session) → IsAtBy setup tests carried number link peer held sessions → (m : SessionName) (due : Due) → link.stage ≡ Asked (Statement m due)
    → (carried ≡ Lent m) ⊎ (carried ≡ Joined m)
statement_name setup tests number Nobody link peer held sessions is m due ran = absurd (subst (IsAskedFree setup.reads) ran is.asked)
statement_name setup tests number (Lent n) link peer held sessions is m due ran = let there = subst (λ st. IsAskedLent setup n st link.account link.told link.id link.live (held n)) ran is.asked in inl (ap Lent (sym there.same))
statement_name setup tests number (Joined n) link peer held sessions is m due ran = let there = subst (λ st. IsAskedJoined setup n st link.marked link.told link.id link.live (held n)) ran is.asked in inr (ap Joined (sym there.same))

pub prep_name : (setup : Setup) (tests : Tests) (number : LinkId) (carried : Carried) (link : Link) (peer : Peer) (held : SessionName → Held) (sessions : SessionName → Session) → IsAtBy setup tests carried number link peer held sessions → (m : SessionName) (key : ℕ) (text : List ℕ) → link.stage ≡ Asked (Prep m key text)
    → (carried ≡ Lent m) ⊎ (carried ≡ Joined m)
prep_name setup tests number Nobody link peer held sessions is m key text ran = absurd (subst (IsAskedFree setup.reads) ran is.asked)
prep_name setup tests number (Lent n) link peer held sessions is m key text ran = let there = subst (λ st. IsAskedLent setup n st link.account link.told link.id link.live (held n)) ran is.asked in inl (ap Lent (sym there.same))
prep_name setup tests number (Joined n) link peer held sessions is m key text ran = let there = subst (λ st. IsAskedJoined setup n st link.marked link.told link.id link.live (held n)) ran is.asked in inr (ap Joined (sym there.same))

pub sync_name : (setup : Setup) (tests : Tests) (number : LinkId) (carried : Carried) (link : Link) (peer : Peer) (held : SessionName → Held) (sessions : SessionName → Session) → IsAtBy setup tests carried number link peer held sessions → (m : SessionName) (command : Command) → link.stage ≡ Asked (Sync m command)
    → carried ≡ Joined m
sync_name setup tests number Nobody link peer held sessions is m command ran = absurd (subst (IsAskedFree setup.reads) ran is.asked)
sync_name setup tests number (Lent n) link peer held sessions is m command ran = absurd (subst (λ st. IsAskedLent setup n st link.account link.told link.id link.live (held n)) ran is.asked)
sync_name setup tests number (Joined n) link peer held sessions is m command ran = let there = subst (λ st. IsAskedJoined setup n st link.marked link.told link.id link.live (held n)) ran is.asked in ap Joined (sym there.same)

pub end_name : (setup : Setup) (tests : Tests) (number : LinkId) (carried : Carried) (link : Link) (peer : Peer) (held : SessionName → Held) (sessions : SessionName → Session) → IsAtBy setup tests carried number link peer held sessions → (m : SessionName) → link.stage ≡ Asked (End m)
    → carried ≡ Joined m
end_name setup tests number Nobody link peer held sessions is m ran = absurd (subst (IsAskedFree setup.reads) ran is.asked)
end_name setup tests number (Lent n) link peer held sessions is m ran = absurd (subst (λ st. IsAskedLent setup n st link.account link.told link.id link.live (held n)) ran is.asked)
end_name setup tests number (Joined n) link peer held sessions is m ran = let there : m ≡ n = subst (λ st. IsAskedJoined setup n st link.marked link.told link.id link.live (held n)) ran is.asked in ap Joined (sym there)

pub capture_name : (setup : Setup) (tests : Tests) (number : LinkId) (carried : Carried) (link : Link) (peer : Peer) (held : SessionName → Held) (sessions : SessionName → Session) → IsAtBy setup tests carried number link peer held sessions → (m : SessionName) → link.stage ≡ Asked (Capture m)
    → carried ≡ Joined m
capture_name setup tests number Nobody link peer held sessions is m ran = absurd (subst (IsAskedFree setup.reads) ran is.asked)
capture_name setup tests number (Lent n) link peer held sessions is m ran = absurd (subst (λ st. IsAskedLent setup n st link.account link.told link.id link.live (held n)) ran is.asked)
capture_name setup tests number (Joined n) link peer held sessions is m ran = let there = subst (λ st. IsAskedJoined setup n st link.marked link.told link.id link.live (held n)) ran is.asked in ap Joined (sym there.same)

module _ (setup : Setup) (tests : Tests) (step : Step) (tame : Tame setup.reads tests step) (view : View) (real : Real) (private : Private) (stands : Stands setup tests view real private) (number : LinkId) where
  -- One link and what is there change, and the private session of one name.
  pub ran_named : (to : View) (n : SessionName) (link : Link) (peer : Peer) (real_stored private_stored : ServerId → List ℕ) (session : Session) (tables : SessionName → ℕ → Option Key) (answers : MessageName → Option Reply)
      → ((server : ServerId) → tests.is_data (real_stored server) ≡ true) → IsGood tests peer.session → IsGood tests session
      → ((server : ServerId) → private_stored server ≡ real_stored server)
      → account_of session ≡ setup.accounts n.client
      → ((view.held n).home ≡ None → IsResting (view.held n) session)
      → ((j : LinkId) → is_link_id j number ≡ false → (view.held n).home ≡ Some j → ⊥)
      → IsAt setup tests number link peer view.held (put is_name private.sessions n session)
      → Stands setup tests (record to { links = put is_link_id view.links number link; held = view.held })
      (record { stored = real_stored; peers = put is_link_id real.peers number peer })
      (record { stored = private_stored; sessions = put is_name private.sessions n session; tables = tables; answers = answers })
  ran_named to n link peer real_stored private_stored session tables answers good_data good_peer good_session stored owner resting not_key here =
      let sessions = put is_name private.sessions n session in
      let elsewhere = sessions_elsewhere n view.held private.sessions session in
      record {
        accepted = record { data_of = good_data; peers = put_all link_ids (λ x. IsGood tests x.session) real.peers number peer good_peer stands.accepted.peers; sessions = put_all names (IsGood tests) private.sessions n session good_session stands.accepted.sessions };
        stored = stored;
        owners = at_each names (λ m. account_of (sessions m) ≡ setup.accounts m.client) n (ap account_of (put-same names private.sessions n session) ∙ owner)
            (λ m e. ap account_of (put-other names private.sessions n session m e) ∙ stands.owners m);
        resting = still_resting setup tests n view.held private.sessions view.held sessions elsewhere stands.resting (subst (λ x. (view.held n).home ≡ None → IsResting (view.held n) x) (sym (put-same names private.sessions n session)) resting);
        links = at_each link_ids (λ j. IsAt setup tests j (put is_link_id view.links number link j) (put is_link_id real.peers number peer j) view.held sessions) number
            (subst (λ l. IsAt setup tests number l (put is_link_id real.peers number peer number) view.held sessions) (sym (put-same link_ids view.links number link))
            (subst (λ x. IsAt setup tests number link x view.held sessions) (sym (put-same link_ids real.peers number peer)) here))
            (λ j e. subst (λ l. IsAt setup tests j l (put is_link_id real.peers number peer j) view.held sessions) (sym (put-other link_ids view.links number link j e))
            (subst (λ x. IsAt setup tests j (view.links j) x view.held sessions) (sym (put-other link_ids real.peers number peer j e))
            (frame setup tests n view.held private.sessions view.held sessions elsewhere j (view.links j) (real.peers j) (not_key j e) (stands.links j))));
      }

  -- The same where the private world stays as it is.
  pub ran_alone : (to : View) (link : Link) (peer : Peer) (real_stored : ServerId → List ℕ)
      → ((server : ServerId) → tests.is_data (real_stored server) ≡ true) → IsGood tests peer.session
      → ((server : ServerId) → private.stored server ≡ real_stored server)
      → IsAt setup tests number link peer view.held private.sessions
      → Stands setup tests (record to { links = put is_link_id view.links number link; held = view.held }) (record { stored = real_stored; peers = put is_link_id real.peers number peer }) private
  ran_alone to link peer real_stored good_data good_peer stored here = record {
    accepted = record { data_of = good_data; peers = put_all link_ids (λ x. IsGood tests x.session) real.peers number peer good_peer stands.accepted.peers; sessions = stands.accepted.sessions };
    stored = stored;
    owners = stands.owners;
    resting = stands.resting;
    links = at_each link_ids (λ j. IsAt setup tests j (put is_link_id view.links number link j) (put is_link_id real.peers number peer j) view.held private.sessions) number
        (subst (λ l. IsAt setup tests number l (put is_link_id real.peers number peer number) view.held private.sessions) (sym (put-same link_ids view.links number link))
        (subst (λ x. IsAt setup tests number link x view.held private.sessions) (sym (put-same link_ids real.peers number peer)) here))
        (λ j e. subst (λ l. IsAt setup tests j l (put is_link_id real.peers number peer j) view.held private.sessions) (sym (put-other link_ids view.links number link j e))
        (subst (λ x. IsAt setup tests j (view.links j) x view.held private.sessions) (sym (put-other link_ids real.peers number peer j e)) (stands.links j)));
  }

  -- The same where nothing happens at the server.
  pub linked : (to : View) (link : Link)
      → IsAt setup tests number link (real.peers number) view.held private.sessions
      → Stands setup tests (record to { links = put is_link_id view.links number link; held = view.held }) real private
  linked to link here = record {
    accepted = stands.accepted;
    stored = stands.stored;
    owners = stands.owners;
    resting = stands.resting;
    links = at_each link_ids (λ j. IsAt setup tests j (put is_link_id view.links number link j) (real.peers j) view.held private.sessions) number
        (subst (λ l. IsAt setup tests number l (real.peers number) view.held private.sessions) (sym (put-same link_ids view.links number link)) here)
        (λ j e. subst (λ l. IsAt setup tests j l (real.peers j) view.held private.sessions) (sym (put-other link_ids view.links number link j e)) (stands.links j));
  }

  -- What holds of the link, by whom it carries.

  abbrev pub s : Session
  s = (real.peers number).session

  pub at : (carried : Carried) → (view.links number).carries ≡ carried → IsAtBy setup tests carried number (view.links number) (real.peers number) view.held private.sessions
  at carried is = subst (λ c. IsAtBy setup tests c number (view.links number) (real.peers number) view.held private.sessions) is (stands.links number)

  -- A command runs in a session.

  ran_session : (to : View) (m : SessionName) (link : Link) (alive : Bool) (there here : Outcome) (table : ℕ → Option Key) (tables : SessionName → ℕ → Option Key) (answers : MessageName → Option Reply)
      → Accepts tests there.stored there.session → IsGood tests here.session
      → (view.held m).home ≡ Some number → link.carries ≡ Joined m → here.stored ≡ there.stored → account_of here.session ≡ setup.accounts m.client
      → IsJoinedLink setup tests number m link (record { session = there.session; answer = there.reply; table = table; alive = alive }) (view.held m) here.session
      → Stands setup tests (record to { links = put is_link_id view.links number link; held = view.held })
      (record { stored = put is_server real.stored (view.links number).server there.stored; peers = put is_link_id real.peers number (record { session = there.session; answer = there.reply; table = table; alive = alive }) })
      (record { stored = put is_server private.stored (view.links number).server here.stored; sessions = put is_name private.sessions m here.session; tables = tables; answers = answers })
  ran_session to m link alive there here table tables answers good_there good_here home carries stored owner joined =
      let server = (view.links number).server in
      let peer : Peer = record { session = there.session; answer = there.reply; table = table; alive = alive } in
      ran_named to m link peer (put is_server real.stored server there.stored) (put is_server private.stored server here.stored) here.session tables answers
      (put_all servers (λ x. tests.is_data x ≡ true) real.stored server there.stored good_there.0 stands.accepted.data_of) good_there.1 good_here
      (both_put servers private.stored real.stored server here.stored there.stored stored stands.stored)
      owner
      (λ e. cc)
      (no_other (view.held m).home number home)
      (subst (λ c. IsAtBy setup tests c number link peer view.held (put is_name private.sessions m here.session)) (sym carries)
      (subst (λ x. IsJoinedLink setup tests number m link peer (view.held m) x) (sym (put-same names private.sessions m here.session)) joined))

  abbrev RanTo : (alive : Bool) → Stage → Type 0
  RanTo alive stage = Stands setup tests (record view { links = put is_link_id view.links number (ran_by setup.reads stage (view.links number)) })
      (real_run step real number (view.links number).live alive stage (view.links number).server) (private_run step view.held private alive stage (view.links number).server)

  -- A statement meets its session.

  pub met_there : (m : SessionName) (due : Due) → (real.peers number).alive ≡ true → (view.links number).stage ≡ Asked (Statement m due) → IsMetThere setup tests number due (view.links number) (view.held m) (real.peers number).session (private.sessions m)
  met_there m due alive asked = elim (statement_name setup tests number (view.links number).carries (view.links number) (real.peers number) view.held private.sessions (stands.links number) m due asked) [
    | inl lent ↦ met_of_lent setup tests number m due (view.links number) (real.peers number) (view.held m) (private.sessions m) (at (Lent m) lent) alive asked (stands.owners m)
    | inr joined ↦ met_of_joined setup tests number m due (view.links number) (real.peers number) (view.held m) (private.sessions m) (at (Joined m) joined) alive asked
  ]

  pub ready_owner : (due : Due) (anew : Bool) (p : Session) → account_of (if anew then placed due.place p else p) ≡ account_of p
  ready_owner due true p = refl
  ready_owner due false p = refl

  ready_good : (due : Due) (anew : Bool) (p : Session) → IsGood tests p → IsGood tests (if anew then placed due.place p else p)
  ready_good due true p good = good
  ready_good due false p good = good

  -- Both run with the same data.

  abbrev pub data_there : List ℕ
  data_there = real.stored (view.links number).server

  pub ok_there : Accepts tests data_there s
  ok_there = (stands.accepted.data_of (view.links number).server, stands.accepted.peers number)

  pub ok_here : (m : SessionName) → Accepts tests data_there (private.sessions m)
  ok_here m = (stands.accepted.data_of (view.links number).server, stands.accepted.sessions m)

  pub ok_ready : (m : SessionName) (due : Due) → Accepts tests data_there (readied due (private.sessions m))
  ok_ready m due = (stands.accepted.data_of (view.links number).server, ready_good due due.anew (private.sessions m) (stands.accepted.sessions m))

  pub with_data : (P : List ℕ → Type 0) → P data_there → P (private.stored (view.links number).server)
  with_data P is = subst P (sym (stands.stored (view.links number).server)) is

  -- what is decoded on the link, and what the session of its own decodes

  abbrev pub there_decoded : Due → Command
  there_decoded due = decoded (option_and_then (real.peers number).table ((view.links number).live due.key)) due.command

  abbrev pub here_decoded : SessionName → Due → Command
  here_decoded m due = decoded (private.tables m due.key) due.command

  abbrev pub AreDecoded : Type 0
  AreDecoded = (m : SessionName) (due : Due) → (real.peers number).alive ≡ true → (view.links number).stage ≡ Asked (Statement m due) → IsDecoded setup.reads (there_decoded due) (here_decoded m due) × IsTextOf (there_decoded due) due.command

  -- what the session of its own makes of a statement
  pub ran_own_same : AreDecoded → (m : SessionName) (due : Due) → (real.peers number).alive ≡ true → (view.links number).stage ≡ Asked (Statement m due)
      → step (private.stored (view.links number).server) (readied due (private.sessions m)) (here_decoded m due) ≡ step data_there (readied due (private.sessions m)) (there_decoded due)
  ran_own_same are m due alive asked =
      with_data (λ d. step d (readied due (private.sessions m)) (here_decoded m due) ≡ step data_there (readied due (private.sessions m)) (there_decoded due))
      (own_same setup.reads tests step tame data_there (readied due (private.sessions m)) (ok_ready m due) (there_decoded due) (here_decoded m due) (are m due alive asked).0)

  pub met_decoded : AreDecoded → (m : SessionName) (due : Due) → (real.peers number).alive ≡ true → (view.links number).stage ≡ Asked (Statement m due)
      → IsMet tests setup.reads (there_decoded due) (view.links number).account (view.links number).marked (view.links number).told (view.links number).id (view.held m).pin (view.held m).id (real.peers number).session (readied due (private.sessions m))
  met_decoded are m due alive asked =
      let l = view.links number in
      back_text (λ c. IsMet tests setup.reads c l.account l.marked l.told l.id (view.held m).pin (view.held m).id (real.peers number).session (readied due (private.sessions m))) (λ t a b a' b' g x. record { account = x.account; rest = x.rest; diag = x.diag; own = x.own; marks = x.marks; last_id = x.last_id; follows = x.follows; knows = x.knows; suits = x.suits; of_session = x.of_session; unknown = x.unknown }) (there_decoded due) due.command (are m due alive asked).1 (met_there m due alive asked).met

  pub after_decoded : AreDecoded → (m : SessionName) (due : Due) → (real.peers number).alive ≡ true → (view.links number).stage ≡ Asked (Statement m due)
      → IsAlikeAfter setup.reads tests (there_decoded due) (readied due (private.sessions m)) (real.peers number).session (step data_there (readied due (private.sessions m)) (there_decoded due)) (step data_there (real.peers number).session (there_decoded due))
  after_decoded are m due alive asked =
      let l = view.links number in
      met_alike setup.reads step tests tame data_there s (readied due (private.sessions m)) ok_there (ok_ready m due) (there_decoded due) l.account l.marked l.told l.id (view.held m).pin (view.held m).id (met_decoded are m due alive asked)

  -- the answer to a statement is the private one
  pub same_reply : AreDecoded → (m : SessionName) (due : Due) → (real.peers number).alive ≡ true → (view.links number).stage ≡ Asked (Statement m due)
      → (step (private.stored (view.links number).server) (readied due (private.sessions m)) (here_decoded m due)).reply ≡ (step data_there s (there_decoded due)).reply
  same_reply are m due alive asked = ap (λ (o : Outcome). o.reply) (ran_own_same are m due alive asked) ∙ (after_decoded are m due alive asked).alike.reply

  ran_statement : AreDecoded → (m : SessionName) (due : Due) → (real.peers number).alive ≡ true → (view.links number).stage ≡ Asked (Statement m due) → RanTo true (Asked (Statement m due))
  ran_statement are m due alive asked =
      let l = view.links number in
      let c = there_decoded due in
      let p = readied due (private.sessions m) in
      let there = met_there m due alive asked in
      let d = data_there in
      let question = Statement m due in
      let l' : Link = record l { stage = Answered question; carries = Joined m; marked = is_marked setup.reads due.command || l.marked } in
      let after = after_decoded are m due alive asked in
      let is_text = (are m due alive asked).1 in
      let statement : is_statement c ≡ true = back_text (λ x. is_statement x ≡ true) (λ t a b a' b' g x. x) c due.command is_text there.statement in
      let reply = (step d s c).reply in
      let joined = of_text (λ x. IsJoined tests (not (is_quit x)) l.account (is_marked setup.reads x || l.marked) (told_after setup.reads x reply l.told) (id_after setup.reads x reply l.id) (pin_statement setup.reads x due.multiplex reply (view.held m).pin) (id_after setup.reads x reply (view.held m).id) (step d s c).session (step d p c).session)
      (λ t a b a' b' g x. x) c due.command is_text
      (met_after setup.reads step tests tame d s p ok_there (ok_ready m due) c due.multiplex l.account l.marked l.told l.id (view.held m).pin (view.held m).id statement (met_decoded are m due alive asked)) in
      subst (λ (o : Outcome). Stands setup tests (record view { links = put is_link_id view.links number l' }) (record { stored = put is_server real.stored l.server (step d s c).stored; peers = put is_link_id real.peers number (record { session = (step d s c).session; answer = (step d s c).reply; table = there_table question (step d s c) (real.peers number).table; alive = not (is_quit due.command) }) })
      (record { stored = put is_server private.stored l.server o.stored; sessions = put is_name private.sessions m o.session; tables = put is_name private.tables m (table_after question o (private.tables m)); answers = put is_message private.answers (message_of m due) (Some o.reply) })) (sym (ran_own_same are m due alive asked))
      (ran_session view m l' (not (is_quit due.command)) (step d s c) (step d p c) (there_table question (step d s c) (real.peers number).table) (put is_name private.tables m (table_after question (step d p c) (private.tables m))) (put is_message private.answers (message_of m due) (Some (step d p c).reply))
      (tame.keeps d s ok_there c) (tame.keeps d p (ok_ready m due) c).1 there.home refl after.alike.stored
      (tame.account d p (ok_ready m due) c ∙ ready_owner due due.anew (private.sessions m) ∙ stands.owners m)
      (record { home = there.home; asked = refl; joined = joined }))

  -- What a session's own link asks, where it isn't a statement.

  pub asks : (m : SessionName) (question : Question) → (view.links number).carries ≡ Joined m → (view.links number).stage ≡ Asked question
      → IsAskedJoined setup m (Asked question) (view.links number).marked (view.links number).told (view.links number).id (view.links number).live (view.held m)
  asks m question carries is = subst (λ st. IsAskedJoined setup m st (view.links number).marked (view.links number).told (view.links number).id (view.links number).live (view.held m)) is (at (Joined m) carries).asked

  pub before : (m : SessionName) (question : Question) → (view.links number).carries ≡ Joined m → (real.peers number).alive ≡ true → (view.links number).stage ≡ Asked question
      → IsJoined tests true (view.links number).account (view.links number).marked (view.links number).told (view.links number).id (view.held m).pin (view.held m).id (real.peers number).session (private.sessions m)
  before m question carries alive is = asked_joined tests setup.reads (view.links number) (real.peers number).alive (real.peers number).answer (view.held m).pin (view.held m).id (real.peers number).session (private.sessions m) question alive is (at (Joined m) carries).joined

  ran_sync : (m : SessionName) (c : Command) → (real.peers number).alive ≡ true → (view.links number).stage ≡ Asked (Sync m c) → RanTo true (Asked (Sync m c))
  ran_sync m c alive is =
      let l = view.links number in
      let carries : l.carries ≡ Joined m = sync_name setup tests number l.carries l (real.peers number) view.held private.sessions (stands.links number) m c is in
      let p = private.sessions m in
      let d = data_there in
      let l' : Link = record l { stage = Answered (Sync m c) } in
      let was = before m (Sync m c) carries alive is in
      let both = step_after setup.reads step tests tame d s p ok_there (ok_here m) c l.account l.marked l.told l.id (view.held m).pin (view.held m).id (asks m (Sync m c) carries is).pinned (asks m (Sync m c) carries is).fits was.session was.knows was.unknown in
      with_data (λ x. Stands setup tests (record view { links = put is_link_id view.links number l' }) (record { stored = put is_server real.stored l.server (step d s c).stored; peers = put is_link_id real.peers number (record { session = (step d s c).session; answer = (step d s c).reply; table = (real.peers number).table; alive = not (is_quit c) }) })
      (record private { stored = put is_server private.stored l.server (step x p c).stored; sessions = put is_name private.sessions m (step x p c).session }))
      (ran_session view m l' (not (is_quit c)) (step d s c) (step d p c) (real.peers number).table private.tables private.answers (tame.keeps d s ok_there c) (tame.keeps d p (ok_here m) c).1 (at (Joined m) carries).home carries both.0.alike.stored (tame.account d p (ok_here m) c ∙ stands.owners m)
      (record { home = (at (Joined m) carries).home; asked = refl; joined = both.1 }))

  ran_end : (m : SessionName) → tests.lasts (private.sessions m).deep ≡ false → (real.peers number).alive ≡ true → (view.links number).stage ≡ Asked (End m) → RanTo true (Asked (End m))
  ran_end m lasts alive is =
      let l = view.links number in
      let carries : l.carries ≡ Joined m = end_name setup tests number l.carries l (real.peers number) view.held private.sessions (stands.links number) m is in
      let p = private.sessions m in
      let d = data_there in
      let l' : Link = record l { stage = Answered (End m) } in
      let was = before m (End m) carries alive is in
      let joined = end_after setup.reads step tests tame d s p ok_there (ok_here m) l.account l.marked l.told l.id (view.held m).pin (view.held m).id lasts was.session in
      with_data (λ x. Stands setup tests (record view { links = put is_link_id view.links number l' }) (record { stored = put is_server real.stored l.server (step d s Reset).stored; peers = put is_link_id real.peers number (record { session = (step d s Reset).session; answer = (step d s Reset).reply; table = λ key. None; alive = true }) })
      (record private { stored = put is_server private.stored l.server (step x p Reset).stored; sessions = put is_name private.sessions m (step x p Reset).session; tables = put is_name private.tables m (λ key. None) }))
      (ran_session view m l' true (step d s Reset) (step d p Reset) (λ key. None) (put is_name private.tables m (λ key. None)) private.answers (tame.keeps d s ok_there Reset) (tame.keeps d p (ok_here m) Reset).1 (at (Joined m) carries).home carries
      (reset_stored setup.reads step tests tame d s p ok_there (ok_here m) was.session.rest) (tame.account d p (ok_here m) Reset ∙ stands.owners m)
      (record { home = (at (Joined m) carries).home; asked = refl; joined = joined }))

  -- The private world doesn't notice a capture, nor what the router does for itself.

  ran_by_itself : (link : Link) (alive : Bool) (there : Outcome) (table : ℕ → Option Key) → Accepts tests there.stored there.session → there.stored ≡ data_there → IsAt setup tests number link (record { session = there.session; answer = there.reply; table = table; alive = alive }) view.held private.sessions
      → Stands setup tests (record view { links = put is_link_id view.links number link }) (record { stored = put is_server real.stored (view.links number).server there.stored; peers = put is_link_id real.peers number (record { session = there.session; answer = there.reply; table = table; alive = alive }) }) private
  ran_by_itself link alive there table good stored here =
      let server = (view.links number).server in
      ran_alone view link (record { session = there.session; answer = there.reply; table = table; alive = alive }) (put is_server real.stored server there.stored)
      (put_all servers (λ x. tests.is_data x ≡ true) real.stored server there.stored good.0 stands.accepted.data_of) good.1
      (one_put servers private.stored real.stored server there.stored stored stands.stored) here

  ran_capture : (m : SessionName) → (real.peers number).alive ≡ true → (view.links number).stage ≡ Asked (Capture m) → RanTo true (Asked (Capture m))
  ran_capture m alive is =
      let l = view.links number in
      let carries : l.carries ≡ Joined m = capture_name setup tests number l.carries l (real.peers number) view.held private.sessions (stands.links number) m is in
      let p = private.sessions m in
      let d = data_there in
      let l' : Link = record l { stage = Answered (Capture m) } in
      let peer : Peer = record { session = (step d s ReadId).session; answer = (step d s ReadId).reply; table = (real.peers number).table; alive = true } in
      let was = before m (Capture m) carries alive is in
      let asked = asks m (Capture m) carries is in
      let joined = capture_after setup.reads step tests tame d s p ok_there (ok_here m) l.account l.marked l.told l.id (view.held m).pin (view.held m).id asked.unpinned asked.unknown was.session was.unknown in
      let there : IsJoinedLink setup tests number m l' peer (view.held m) p = record { home = (at (Joined m) carries).home; asked = refl; joined = joined } in
      ran_by_itself l' true (step d s ReadId) (real.peers number).table (tame.keeps d s ok_there ReadId) (tame.id.read_stored d s ok_there) (subst (λ c. IsAtBy setup tests c number l' peer view.held private.sessions) (sym carries) there)

  pub asks_lent : (n : SessionName) (question : Question) → (view.links number).carries ≡ Lent n → (view.links number).stage ≡ Asked question
      → IsAskedLent setup n (Asked question) (view.links number).account (view.links number).told (view.links number).id (view.links number).live (view.held n)
  asks_lent n question carries is = subst (λ st. IsAskedLent setup n st (view.links number).account (view.links number).told (view.links number).id (view.links number).live (view.held n)) is (at (Lent n) carries).asked

  pub before_free : (question : Question) → (real.peers number).alive ≡ true → (view.links number).stage ≡ Asked question
      → IfAlive (real.peers number).alive (IsFree (view.links number).account (soon_told setup.reads (view.links number).stage (real.peers number).answer (view.links number).told) (soon_id setup.reads (view.links number).stage (real.peers number).answer (view.links number).id) (real.peers number).session) (Unit {0})
      → IsFree (view.links number).account (view.links number).told (view.links number).id (real.peers number).session
  before_free question alive is free =
      let l = view.links number in
      let a = (real.peers number).answer in
      subst (λ b. IfAlive b (IsFree l.account l.told l.id s) (Unit {0})) alive (subst (λ st. IfAlive (real.peers number).alive (IsFree l.account (soon_told setup.reads st a l.told) (soon_id setup.reads st a l.id) s) (Unit {0})) is free)

  -- what a link is to the session to which it is lent, or to nobody, once the router did something there for itself

  own_on_free : (c : Command) → (real.peers number).alive ≡ true → (view.links number).stage ≡ Asked (Own c) → (view.links number).carries ≡ Nobody → RanTo true (Asked (Own c))
  own_on_free c alive is free =
      let l = view.links number in
      let d = data_there in
      let a = (real.peers number).answer in
      let l' : Link = record l { stage = Answered (Own c) } in
      let peer : Peer = record { session = (step d s c).session; answer = (step d s c).reply; table = (real.peers number).table; alive = not (is_quit c) } in
      let fits : IsOwnStep setup.reads c = subst (IsAskedFree setup.reads) is (at Nobody free).asked in
      let was = before_free (Own c) alive is (at Nobody free).session in
      let there : IsFreeLink setup l' peer = record { asked = tt; unmarked = (at Nobody free).unmarked; session = own_after setup.reads step tests tame d s s ok_there ok_there c l.account l.told l.id fits was } in
      ran_by_itself l' (not (is_quit c)) (step d s c) (real.peers number).table (tame.keeps d s ok_there c) (own_calm setup.reads step tests tame d s s ok_there ok_there c fits was.plain) (subst (λ x. IsAtBy setup tests x number l' peer view.held private.sessions) (sym free) there)

  own_on_lent : (c : Command) → (real.peers number).alive ≡ true → (view.links number).stage ≡ Asked (Own c) → (n : SessionName) → (view.links number).carries ≡ Lent n → RanTo true (Asked (Own c))
  own_on_lent c alive is n carries =
      let l = view.links number in
      let d = data_there in
      let l' : Link = record l { stage = Answered (Own c) } in
      let peer : Peer = record { session = (step d s c).session; answer = (step d s c).reply; table = (real.peers number).table; alive = not (is_quit c) } in
      let lent = at (Lent n) carries in
      let fits : IsOwnStep setup.reads c = asks_lent n (Own c) carries is in
      let was = before_free (Own c) alive is lent.session in
      let there : IsLentLink setup number n l' peer (view.held n) (private.sessions n) =
      record { home = lent.home; unmarked = lent.unmarked; asked = tt; session = own_after setup.reads step tests tame d s s ok_there ok_there c l.account l.told l.id fits was; plain = lent.plain; id = lent.id } in
      ran_by_itself l' (not (is_quit c)) (step d s c) (real.peers number).table (tame.keeps d s ok_there c) (own_calm setup.reads step tests tame d s s ok_there ok_there c fits was.plain) (subst (λ x. IsAtBy setup tests x number l' peer view.held private.sessions) (sym carries) there)

  ran_own : (c : Command) → (real.peers number).alive ≡ true → (view.links number).stage ≡ Asked (Own c) → (carried : Carried) → (view.links number).carries ≡ carried → RanTo true (Asked (Own c))
  ran_own c alive is Nobody carries = own_on_free c alive is carries
  ran_own c alive is (Lent n) carries = own_on_lent c alive is n carries
  ran_own c alive is (Joined n) carries = absurd (subst (λ st. IsAskedJoined setup n st (view.links number).marked (view.links number).told (view.links number).id (view.links number).live (view.held n)) is (at (Joined n) carries).asked)

  -- A preparation: the private session takes part where it is pinned.

  prep_on_lent : (m : SessionName) (key : ℕ) (text : List ℕ) → (real.peers number).alive ≡ true → (view.links number).stage ≡ Asked (Prep m key text) → (view.links number).carries ≡ Lent m → RanTo true (Asked (Prep m key text))
  prep_on_lent m key text alive is carries =
      let l = view.links number in
      let d = data_there in
      let c = Prepare text in
      let l' : Link = record l { stage = Answered (Prep m key text) } in
      let peer : Peer = record { session = (step d s c).session; answer = (step d s c).reply; table = there_table (Prep m key text) (step d s c) (real.peers number).table; alive = true } in
      let lent = at (Lent m) carries in
      let preparing = asks_lent m (Prep m key text) carries is in
      let was = before_free (Prep m key text) alive is lent.session in
      let there : IsLentLink setup number m l' peer (view.held m) (private.sessions m) =
      record { home = lent.home; unmarked = lent.unmarked; asked = preparing; session = prep_free setup.reads step tests tame d s s ok_there ok_there text l.account l.told l.id was; plain = lent.plain; id = lent.id } in
      subst (λ b. Stands setup tests (record view { links = put is_link_id view.links number l' }) (real_run step real number (view.links number).live true (Asked (Prep m key text)) l.server) (private_prep step private b l.server m key text)) (sym preparing.unpinned)
      (ran_by_itself l' true (step d s c) (there_table (Prep m key text) (step d s c) (real.peers number).table) (tame.keeps d s ok_there c) (tame.prepare.stored d s ok_there text) (subst (λ x. IsAtBy setup tests x number l' peer view.held private.sessions) (sym carries) there))

  prep_on_joined : (m : SessionName) (key : ℕ) (text : List ℕ) → (real.peers number).alive ≡ true → (view.links number).stage ≡ Asked (Prep m key text) → (view.links number).carries ≡ Joined m → RanTo true (Asked (Prep m key text))
  prep_on_joined m key text alive is carries =
      let l = view.links number in
      let d = data_there in
      let c = Prepare text in
      let p = private.sessions m in
      let l' : Link = record l { stage = Answered (Prep m key text) } in
      let pinned : is_pinned (view.held m).pin ≡ true = (asks m (Prep m key text) carries is).pinned in
      let was = before m (Prep m key text) carries alive is in
      let both = prep_after setup.reads step tests tame d s p ok_there (ok_here m) text l.account l.marked l.told l.id (view.held m).pin (view.held m).id pinned was.session was.knows was.unknown in
      subst (λ b. Stands setup tests (record view { links = put is_link_id view.links number l' }) (real_run step real number (view.links number).live true (Asked (Prep m key text)) l.server) (private_prep step private b l.server m key text)) (sym pinned)
      (with_data (λ x. Stands setup tests (record view { links = put is_link_id view.links number l' }) (real_run step real number (view.links number).live true (Asked (Prep m key text)) l.server)
      (record private { stored = put is_server private.stored l.server (step x p c).stored; sessions = put is_name private.sessions m (step x p c).session; tables = put is_name private.tables m (table_after (Prep m key text) (step x p c) (private.tables m)) }))
      (ran_session view m l' true (step d s c) (step d p c) (there_table (Prep m key text) (step d s c) (real.peers number).table) (put is_name private.tables m (table_after (Prep m key text) (step d p c) (private.tables m))) private.answers (tame.keeps d s ok_there c) (tame.keeps d p (ok_here m) c).1 (at (Joined m) carries).home carries both.0.alike.stored (tame.account d p (ok_here m) c ∙ stands.owners m)
      (record { home = (at (Joined m) carries).home; asked = refl; joined = both.1 })))

  ran_prep : (m : SessionName) (key : ℕ) (text : List ℕ) → (real.peers number).alive ≡ true → (view.links number).stage ≡ Asked (Prep m key text) → RanTo true (Asked (Prep m key text))
  ran_prep m key text alive is = elim (prep_name setup tests number (view.links number).carries (view.links number) (real.peers number) view.held private.sessions (stands.links number) m key text is) [
    | inl lent ↦ prep_on_lent m key text alive is lent
    | inr joined ↦ prep_on_joined m key text alive is joined
  ]

  still : Stands setup tests (record view { links = put is_link_id view.links number (view.links number) }) real private
  still = linked view (view.links number) (stands.links number)

  abbrev pub EndsReset : Type 0
  EndsReset = (m : SessionName) → (view.links number).stage ≡ Asked (End m) → tests.lasts (private.sessions m).deep ≡ false

  ran_by_stage : AreDecoded → EndsReset → (alive : Bool) (stage : Stage) → (real.peers number).alive ≡ alive → (view.links number).stage ≡ stage → IsTrueRun step real number (view.links number).live stage (view.links number).server → RanTo alive stage
  ran_by_stage are resets true (Asked (Statement m due)) alive is honest = ran_statement are m due alive is
  ran_by_stage are resets true (Asked (Sync m c)) alive is honest = ran_sync m c alive is
  ran_by_stage are resets true (Asked (Own c)) alive is honest = ran_own c alive is (view.links number).carries refl
  ran_by_stage are resets true (Asked (Prep m key text)) alive is honest = ran_prep m key text alive is
  ran_by_stage are resets true (Asked (End m)) alive is honest = ran_end m (resets m is) alive is
  ran_by_stage are resets true (Asked (Capture m)) alive is honest = ran_capture m alive is
  ran_by_stage are resets false (Asked question) alive is honest = dead_runs alive honest.alive
  ran_by_stage are resets true Quiet alive is honest = still
  ran_by_stage are resets true (Answered question) alive is honest = still
  ran_by_stage are resets false Quiet alive is honest = still
  ran_by_stage are resets false (Answered question) alive is honest = still

  pub ran_so : AreDecoded → EndsReset → IsTrueRun step real number (view.links number).live (view.links number).stage (view.links number).server → Stands setup tests (view_step setup view (Ran number)) (real_step step view real (Ran number)) (private_step step view (alive_in real) private (Ran number))
  ran_so are resets honest = ran_by_stage are resets (real.peers number).alive (view.links number).stage refl refl honest

  -- A link is dropped.

  abbrev DropTo : (alive : Bool) → Carried → Type 0
  DropTo alive carried = Stands setup tests view (real_drop step real number alive (view.links number).server) (private_drop step private alive carried (view.links number).server)

  unmoved : (new : Real) (here : Private) → Stands setup tests (record view { links = put is_link_id view.links number (view.links number) }) new here → Stands setup tests view new here
  unmoved new here is = subst (λ links. Stands setup tests (record view { links = links }) new here) (put-back view.links number) is

  abbrev quit_there : Outcome
  quit_there = step data_there (real.peers number).session Quit

  abbrev peer_after : Peer
  peer_after = record (real.peers number) { session = quit_there.session; alive = false }

  data_after : (server : ServerId) → tests.is_data (put is_server real.stored (view.links number).server quit_there.stored server) ≡ true
  data_after = put_all servers (λ x. tests.is_data x ≡ true) real.stored (view.links number).server quit_there.stored (tame.keeps data_there s ok_there Quit).0 stands.accepted.data_of

  drop_nobody : (real.peers number).alive ≡ true → (view.links number).carries ≡ Nobody → DropTo true Nobody
  drop_nobody alive free =
      let l = view.links number in
      let a = (real.peers number).answer in
      let was : IsFree l.account (soon_told setup.reads l.stage a l.told) (soon_id setup.reads l.stage a l.id) s =
      subst (λ b. IfAlive b (IsFree l.account (soon_told setup.reads l.stage a l.told) (soon_id setup.reads l.stage a l.id) s) (Unit {0})) alive (at Nobody free).session in
      let there : IsFreeLink setup (view.links number) peer_after = record { asked = (at Nobody free).asked; unmarked = (at Nobody free).unmarked; session = tt } in
      unmoved _ private (ran_alone view (view.links number) peer_after (put is_server real.stored l.server quit_there.stored) data_after (tame.keeps data_there s ok_there Quit).1
      (one_put servers private.stored real.stored l.server quit_there.stored (own_calm setup.reads step tests tame data_there s s ok_there ok_there Quit tt was.plain) stands.stored)
      (subst (λ x. IsAtBy setup tests x number (view.links number) peer_after view.held private.sessions) (sym free) there))

  -- the session closes, but for its insert id

  abbrev closed_at : List ℕ → SessionName → Session
  closed_at d n = with_id (private.sessions n).last_id (step d (private.sessions n) Quit).session

  closed_plain : (n : SessionName) → IsPlain (closed_at data_there n)
  closed_plain n = let plain = plain_quit setup.reads step tests tame data_there (private.sessions n) (ok_here n) in record { tx = plain.tx; locks = plain.locks; deep = plain.deep }

  drop_named : (n : SessionName) → (view.held n).home ≡ Some number → (step data_there (private.sessions n) Quit).stored ≡ quit_there.stored → IsAt setup tests number (view.links number) peer_after view.held (put is_name private.sessions n (closed_at data_there n))
      → Stands setup tests view (real_drop step real number true (view.links number).server) (closed step private (view.links number).server n)
  drop_named n home stored here =
      let l = view.links number in
      unmoved _ _ (with_data (λ d. Stands setup tests (record view { links = put is_link_id view.links number (view.links number) }) (record { stored = put is_server real.stored l.server quit_there.stored; peers = put is_link_id real.peers number peer_after })
      (record private { stored = put is_server private.stored l.server (step d (private.sessions n) Quit).stored; sessions = put is_name private.sessions n (closed_at d n) }))
      (ran_named view n (view.links number) peer_after (put is_server real.stored l.server quit_there.stored) (put is_server private.stored l.server (step data_there (private.sessions n) Quit).stored) (closed_at data_there n) private.tables private.answers
      data_after (tame.keeps data_there s ok_there Quit).1 (tame.keeps data_there (private.sessions n) (ok_here n) Quit).1
      (both_put servers private.stored real.stored l.server (step data_there (private.sessions n) Quit).stored quit_there.stored stored stands.stored)
      (tame.account data_there (private.sessions n) (ok_here n) Quit ∙ stands.owners n)
      (λ e. cc)
      (no_other (view.held n).home number home)
      here))

  drop_lent : (n : SessionName) → (real.peers number).alive ≡ true → (view.links number).carries ≡ Lent n → DropTo true (Lent n)
  drop_lent n alive carries =
      let l = view.links number in
      let p = private.sessions n in
      let is = at (Lent n) carries in
      let a = (real.peers number).answer in
      let was : IsFree l.account (soon_told setup.reads l.stage a l.told) (soon_id setup.reads l.stage a l.id) s =
      subst (λ b. IfAlive b (IsFree l.account (soon_told setup.reads l.stage a l.told) (soon_id setup.reads l.stage a l.id) s) (Unit {0})) alive is.session in
      let there : IsLentLink setup number n (view.links number) peer_after (view.held n) (closed_at data_there n) =
      record { home = is.home; unmarked = is.unmarked; asked = is.asked; session = tt; plain = closed_plain n; id = record { is = is.id.is } } in
      drop_named n is.home (own_calm setup.reads step tests tame data_there p p (ok_here n) (ok_here n) Quit tt is.plain ∙ sym (own_calm setup.reads step tests tame data_there s s ok_there ok_there Quit tt was.plain))
      (subst (λ c. IsAtBy setup tests c number (view.links number) peer_after view.held (put is_name private.sessions n (closed_at data_there n))) (sym carries)
      (subst (λ x. IsLentLink setup number n (view.links number) peer_after (view.held n) x) (sym (put-same names private.sessions n (closed_at data_there n))) there))

  drop_joined : (n : SessionName) → (real.peers number).alive ≡ true → (view.links number).carries ≡ Joined n → DropTo true (Joined n)
  drop_joined n alive carries =
      let l = view.links number in
      let p = private.sessions n in
      let a = (real.peers number).answer in
      let is = at (Joined n) carries in
      let was = subst (λ b. IsJoined tests b l.account l.marked (soon_told setup.reads l.stage a l.told) (soon_id setup.reads l.stage a l.id) (soon_pin setup.reads l.stage a (view.held n).pin) (soon_id setup.reads l.stage a (view.held n).id) s p) alive is.joined in
      let there : IsJoinedLink setup tests number n (view.links number) peer_after (view.held n) (closed_at data_there n) =
      record { home = is.home; asked = is.asked; joined = record { session = closed_plain n; knows = record { is = is.joined.knows.is }; unknown = is.joined.unknown } } in
      drop_named n is.home (quit_stored setup.reads step tests tame data_there s p ok_there (ok_here n) was.session.rest)
      (subst (λ c. IsAtBy setup tests c number (view.links number) peer_after view.held (put is_name private.sessions n (closed_at data_there n))) (sym carries)
      (subst (λ x. IsJoinedLink setup tests number n (view.links number) peer_after (view.held n) x) (sym (put-same names private.sessions n (closed_at data_there n))) there))

  dropped_by : (alive : Bool) (carried : Carried) → (real.peers number).alive ≡ alive → (view.links number).carries ≡ carried → DropTo alive carried
  dropped_by false carried alive carries = stands
  dropped_by true Nobody alive carries = drop_nobody alive carries
  dropped_by true (Lent n) alive carries = drop_lent n alive carries
  dropped_by true (Joined n) alive carries = drop_joined n alive carries

  pub dropped_so : Stands setup tests (view_step setup view (Dropped number)) (real_step step view real (Dropped number)) (private_step step view (alive_in real) private (Dropped number))
  dropped_so = dropped_by (real.peers number).alive (view.links number).carries refl refl

  -- The rest: a login, a link that the router loses or closes.

  pub logged_in_so : (server : ServerId) (account : Account) → Stands setup tests (view_step setup view (LoggedIn number server account)) (real_step step view real (LoggedIn number server account)) private
  logged_in_so server account = ran_alone view (new_link server account) (new_peer account) real.stored stands.accepted.data_of tame.accepts_fresh stands.stored
      (record {
        asked = tt;
        unmarked = refl;
        session = record { account = refl; plain = record { tx = refl; locks = refl; deep = refl }; follows = record { schema = λ name e. cc; settings = refl }; knows = record { is = λ n e. cc } };
      })

  gone_by : (carried : Carried) → IsAtBy setup tests carried number (view.links number) (real.peers number) view.held private.sessions → IsAtBy setup tests carried number (record (view.links number) { usable = false }) (real.peers number) view.held private.sessions
  gone_by Nobody is = record { asked = is.asked; unmarked = is.unmarked; session = is.session }
  gone_by (Lent n) is = record { home = is.home; unmarked = is.unmarked; asked = is.asked; session = is.session; plain = is.plain; id = is.id }
  gone_by (Joined n) is = record { home = is.home; asked = is.asked; joined = is.joined }

  pub gone_so : Stands setup tests (view_step setup view (Gone number)) real private
  gone_so = linked (view_step setup view (Gone number)) (record (view.links number) { usable = false }) (gone_by (view.links number).carries (stands.links number))

-- at first
pub stands_first : (setup : Setup) (tests : Tests) (step : Step) → Tame setup.reads tests step → IsAccepted setup tests → Stands setup tests (view_after setup []) (real_after setup step []) (private_after setup step [])
stands_first setup tests step tame accepted = record {
  accepted = record { data_of = accepted; peers = λ number. tame.accepts_fresh; sessions = λ n. tame.accepts_fresh };
  stored = λ server. refl;
  owners = λ n. refl;
  resting = λ n e. record { plain = record { tx = refl; locks = refl; deep = refl }; id = record { is = λ k f. cc } };
  links = λ number. record { asked = tt; unmarked = refl; session = tt };
}

-- A STMT_CLOSE.
module _ (setup : Setup) (tests : Tests) (step : Step) (tame : Tame setup.reads tests step) (view : View) (real : Real) (private : Private) (stands : Stands setup tests view real private) (number : LinkId) where
  closed_at_link : (n : ℕ) (carried : Carried) → (view.links number).stage ≡ Quiet → IsAtBy setup tests carried number (view.links number) (real.peers number) view.held private.sessions
      → IsAtBy setup tests carried number (closed_number n (view.links number)) (record (real.peers number) { table = put nat_eq (real.peers number).table n None }) view.held private.sessions
  closed_at_link n Nobody quiet at = record { asked = at.asked; unmarked = at.unmarked; session = at.session }
  closed_at_link n (Lent m) quiet at =
      let l = closed_number n (view.links number) in
      record { home = at.home; unmarked = at.unmarked; asked = subst (λ st. IsAskedLent setup m st l.account l.told l.id l.live (view.held m)) (sym quiet) tt; session = at.session; plain = at.plain; id = at.id }
  closed_at_link n (Joined m) quiet at =
      let l = closed_number n (view.links number) in
      record { home = at.home; asked = subst (λ st. IsAskedJoined setup m st l.marked l.told l.id l.live (view.held m)) (sym quiet) tt; joined = at.joined }

  pub closed_so : (n : ℕ) → (view.links number).stage ≡ Quiet → Stands setup tests (view_step setup view (Unprepared number n)) (record real { peers = put is_link_id real.peers number (record (real.peers number) { table = put nat_eq (real.peers number).table n None }) }) private
  closed_so n quiet = ran_alone setup tests step tame view real private stands number (view_step setup view (Unprepared number n)) (closed_number n (view.links number)) (record (real.peers number) { table = put nat_eq (real.peers number).table n None }) real.stored
      stands.accepted.data_of (stands.accepted.peers number) stands.stored (closed_at_link n (view.links number).carries quiet (stands.links number))
