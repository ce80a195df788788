-- What is prepared, as a command runs; and that both worlds decode a Run alike.
use Rattle.private_model.specs.Names.{LinkId, SessionName}
use Rattle.private_model.specs.Honest.{IsTrueRun}
use Rattle.std.specs.Prelude.{◌≡◌, ◌⊎◌, ℕ, Bool, true, false, not, if◌then◌else◌, ◌||◌, List, Option, Some, None}
use Rattle.std.proofs.Common.{refl, sym, ap, ◌∙◌, subst, inl, inr}
use Rattle.private_model.proofs.Maps.{link_ids, names, no_other, put-other, put-same}
use Rattle.private_model.proofs.Meeting.{IsDecoded, IsTextOf, prep_after, shallow_before}
use Rattle.private_model.proofs.Preparing.{alive_joined, alive_lent, others_table, resting_table, stands_at, tabled_at, tabled_still}
use Rattle.private_model.proofs.Running.{after_decoded, asks, asks_lent, before, before_free, capture_name, data_there, dead_runs, end_name, met_there, ok_here, ok_ready, ok_there, prep_name, ran_own_same, statement_name, sync_name, with_data}
use Rattle.private_model.proofs.Stands.{AreKept, AreMatched, AreTabled, AreTabledBy, IfAlive, IsAskedJoined, IsMatch, IsUsual, Stands, soon_live}
use Rattle.private_model.proofs.Tabling.{decoded_alike, kept_by, keyed_told, matched_by, matched_of, prepared_schema, prepared_settings, tabled_moved, told_place}
use Rattle.private_model.proofs.Tame.{Tame}
use Rattle.private_model.specs.Commands.{Command, Outcome, Prepare, ReadId, Reset, Step, is_err, is_made, number_in, pin_statement, is_prepare}
use Rattle.private_model.specs.Story.{Capture, Due, End, Key, Own, Prep, Question, Ran, Statement, Sync, command_of, is_link_id, is_name, put}
use Rattle.private_model.specs.View.{Answered, Asked, Carried, Joined, Lent, Link, Nobody, Quiet, Setup, Stage, View, is_quit, lived, ran_by, text_of, view_step}
use Rattle.private_model.specs.Worlds.{Peer, Private, Real, alive_in, decoded, private_prep, private_run, private_step, readied, real_run, real_step, table_after, tabled, there_table}
use Rattle.server_rule.specs.Servers.{Tests}
use Rattle.server_rule.specs.declared.session.Session.{Session}
use Rattle.session_state.specs.Pins.{is_pinned}
use Rattle.std.specs.Option.{option_and_then}

if_alive : (b : Bool) (A : Type 0) → A → IfAlive b A (Unit {0})
if_alive true A x = x
if_alive false A x = tt

if_matched : (b : Bool) (setup : Setup) (live : ℕ → Option ℕ) (deep : Bool) (there here : ℕ → Option Key) → AreMatched setup live deep there here → IfAlive b (AreMatched setup live deep there here) (deep ≡ false → IsUsual setup here)
if_matched true setup live deep there here x = x
if_matched false setup live deep there here x = x.usual

module _ (setup : Setup) (tests : Tests) (step : Step) (tame : Tame setup.reads tests step) (view : View) (real : Real) (private : Private) (stands : Stands setup tests view real private) (are : AreTabled setup view.links real.peers view.held private.tables) (number : LinkId) where
  -- what a live key has on the link is what the session has
  matched_there : (m : SessionName) (due : Due) → (real.peers number).alive ≡ true → (view.links number).stage ≡ Asked (Statement m due) → AreMatched setup (view.links number).live (view.held m).pin.deep (real.peers number).table (private.tables m)
  matched_there m due alive is = elim (statement_name setup tests number (view.links number).carries (view.links number) (real.peers number) view.held private.sessions (stands.links number) m due is) [
    | inl lent ↦ let both = alive_lent setup tests view real private stands are number m alive (Statement m due) is lent in matched_of setup (view.links number).live (view.held m).pin.deep (real.peers number).table (private.tables m) both.0 both.1
    | inr joined ↦ alive_joined setup tests view real private stands are number m alive (Statement m due) is joined
  ]

  pub are_decoded : (m : SessionName) (due : Due) → (real.peers number).alive ≡ true → (view.links number).stage ≡ Asked (Statement m due) → IsDecoded setup.reads (decoded (option_and_then (real.peers number).table ((view.links number).live due.key)) due.command) (decoded (private.tables m due.key) due.command) × IsTextOf (decoded (option_and_then (real.peers number).table ((view.links number).live due.key)) due.command) due.command
  are_decoded m due alive is =
      decoded_alike setup due.key due.command (view.links number).told (view.links number).live (option_and_then (real.peers number).table ((view.links number).live due.key)) (private.tables m due.key)
      (met_there setup tests step tame view real private stands number m due alive is).keyed
      (λ n live. subst (λ x. IsMatch setup due.key x (private.tables m due.key)) (sym (ap (λ x. option_and_then (real.peers number).table x) live)) ((matched_there m due alive is).match due.key n live))

  abbrev RanTabled : (alive : Bool) → Stage → Type 0
  RanTabled alive stage = AreTabled setup (put is_link_id view.links number (ran_by setup.reads stage (view.links number))) (real_run step real number (view.links number).live alive stage (view.links number).server).peers view.held (private_run step view.held private alive stage (view.links number).server).tables

  abbrev peer_by : (alive : Bool) → (table : ℕ → Option Key) → Outcome → Peer
  peer_by alive table outcome = record { session = outcome.session; answer = outcome.reply; table = table; alive = alive }

  ran_still : (link : Link) (peer : Peer) → AreTabledBy setup link.carries link peer view.held private.tables → AreTabled setup (put is_link_id view.links number link) (put is_link_id real.peers number peer) view.held private.tables
  ran_still link peer here = tabled_moved setup view.links real.peers view.held private.tables are number link (put is_link_id real.peers number peer) view.held private.tables
      (subst (λ x. AreTabledBy setup link.carries link x view.held private.tables) (sym (put-same link_ids real.peers number peer)) here)
      (λ j e. put-other link_ids real.peers number peer j e) (λ j e. are.on j) are.resting

  ran_table : (m : SessionName) (link : Link) (peer : Peer) (table : ℕ → Option Key) → (view.held m).home ≡ Some number → link.carries ≡ Joined m → AreTabledBy setup (Joined m) link peer view.held (λ n. table)
      → AreTabled setup (put is_link_id view.links number link) (put is_link_id real.peers number peer) view.held (put is_name private.tables m table)
  ran_table m link peer table home carries here = tabled_moved setup view.links real.peers view.held private.tables are number link (put is_link_id real.peers number peer) view.held (put is_name private.tables m table)
      (subst (λ x. AreTabledBy setup link.carries link x view.held (put is_name private.tables m table)) (sym (put-same link_ids real.peers number peer))
      (subst (λ c. AreTabledBy setup c link peer view.held (put is_name private.tables m table)) (sym carries)
      (subst (λ t. AreTabledBy setup (Joined m) link peer view.held (λ n. t)) (sym (put-same names private.tables m table)) here)))
      (λ j e. put-other link_ids real.peers number peer j e)
      (others_table setup tests view real private stands are number m table (no_other (view.held m).home number home))
      (resting_table setup tests view real private stands are number m table (λ e. cc))

  -- A statement.

  ran_statement_table : (m : SessionName) (due : Due) → (real.peers number).alive ≡ true → (view.links number).stage ≡ Asked (Statement m due) → IsTrueRun step real number (view.links number).live (Asked (Statement m due)) (view.links number).server → RanTabled true (Asked (Statement m due))
  ran_statement_table m due alive is fresh =
      let l = view.links number in
      let t = (real.peers number).table in
      let c = due.command in
      let d = data_there setup tests step tame view real private stands number in
      let s0 = (real.peers number).session in
      let p0 = readied due (private.sessions m) in
      let c' = decoded (option_and_then t (l.live due.key)) c in
      let there = step d s0 c' in
      let here = step d p0 c' in
      let met = met_there setup tests step tame view real private stands number m due alive is in
      let alike = (after_decoded setup tests step tame view real private stands number are_decoded m due alive is).alike in
      let ok = ok_there setup tests step tame view real private stands number in
      let pin = (view.held m).pin in
      let l' : Link = ran_by setup.reads (Asked (Statement m due)) l in
      let deep = (pin_statement setup.reads c due.multiplex there.reply pin).deep in
      let shallow : deep ≡ false → pin.deep ≡ false = λ e. (shallow_before setup.reads step tests tame d s0 p0 ok (ok_ready setup tests step tame view real private stands number m due) c due.multiplex there.reply pin e).0 in
      let matched = matched_by setup (is_prepare c) (is_made there.reply) l.live pin.deep deep t (private.tables m) due.key (number_in there.reply) (text_of c) there.session here.session fresh.fresh.unused
      (λ makes. (keyed_told setup c due.key l.told l.live makes met.keyed).text_is)
      (sym (ap (λ (x : Session). x.schema) alike.rest)) (sym (ap (λ (x : Session). x.settings) alike.rest)) shallow
      (λ makes e. told_place setup due.key (text_of c) l.told s0 there.session (keyed_told setup c due.key l.told l.live makes met.keyed) (met.met.follows (shallow e))
      (prepared_schema setup.reads tests step tame d s0 ok c (option_and_then t (l.live due.key)) makes) (prepared_settings setup.reads tests step tame d s0 ok c (option_and_then t (l.live due.key)) makes))
      (matched_there m due alive is) in
      let own : ℕ → Option Key = tabled (is_prepare c) (is_made here.reply) due.key (text_of c) here.session (private.tables m) in
      let right = subst (λ b. AreMatched setup (lived (is_prepare c) (is_made there.reply) due.key (number_in there.reply) l.live) deep (tabled (is_prepare c) (is_made there.reply) (number_in there.reply) (text_of c) there.session t) (tabled (is_prepare c) b due.key (text_of c) here.session (private.tables m))) (sym (ap is_made alike.reply)) matched in
      let placed = ran_table m l' (peer_by (not (is_quit due.command)) (there_table (Statement m due) there t) there) own met.home refl
      (if_matched (not (is_quit c)) setup (lived (is_prepare c) (is_made there.reply) due.key (number_in there.reply) l.live) deep (tabled (is_prepare c) (is_made there.reply) (number_in there.reply) (text_of c) there.session t) own right) in
      subst (λ (o : Outcome). AreTabled setup (put is_link_id view.links number l') (put is_link_id real.peers number (peer_by (not (is_quit due.command)) (there_table (Statement m due) there t) there)) view.held (put is_name private.tables m (table_after (Statement m due) o (private.tables m))))
      (sym (ran_own_same setup tests step tame view real private stands number are_decoded m due alive is)) placed

  -- A preparation on the way.

  ran_prep_table : (m : SessionName) (key : ℕ) (text : List ℕ) → (real.peers number).alive ≡ true → (view.links number).stage ≡ Asked (Prep m key text) → ((view.links number).carries ≡ Lent m) ⊎ ((view.links number).carries ≡ Joined m) → IsTrueRun step real number (view.links number).live (Asked (Prep m key text)) (view.links number).server → RanTabled true (Asked (Prep m key text))
  ran_prep_table m key text alive is how fresh = elim how [
    | inl lent ↦
        let l = view.links number in
        let t = (real.peers number).table in
        let d = data_there setup tests step tame view real private stands number in
        let s0 = (real.peers number).session in
        let there = step d s0 (Prepare text) in
        let ok = ok_there setup tests step tame view real private stands number in
        let l' : Link = ran_by setup.reads (Asked (Prep m key text)) l in
        let both = alive_lent setup tests view real private stands are number m alive (Prep m key text) is lent in
        let preparing = asks_lent setup tests step tame view real private stands number m (Prep m key text) lent is in
        let free = before_free setup tests step tame view real private stands number (Prep m key text) alive is (stands_at setup tests view real private stands are number (Lent m) lent).session in
        let stays = tame.prepare.session d s0 ok text in
        let of_key = told_place setup key text l.told s0 there.session preparing.told_key free.follows (ap (λ (x : Session). x.schema) stays) (ap (λ (x : Session). x.settings) stays) in
        let kept = kept_by setup (is_made there.reply) l.live t key (number_in there.reply) text there.session (fresh.fresh.unused refl) of_key both.0 in
        subst (λ b. AreTabled setup (put is_link_id view.links number l') (put is_link_id real.peers number (peer_by true (there_table (Prep m key text) there t) there)) view.held (private_prep step private b l.server m key text).tables) (sym preparing.unpinned)
        (ran_still l' (peer_by true (there_table (Prep m key text) there t) there)
        (subst (λ c. AreTabledBy setup c l' (peer_by true (there_table (Prep m key text) there t) there) view.held private.tables) (sym lent) (kept, both.1)))
    | inr joined ↦
        let l = view.links number in
        let t = (real.peers number).table in
        let d = data_there setup tests step tame view real private stands number in
        let s0 = (real.peers number).session in
        let p0 = private.sessions m in
        let there = step d s0 (Prepare text) in
        let here = step d p0 (Prepare text) in
        let ok = ok_there setup tests step tame view real private stands number in
        let pin = (view.held m).pin in
        let l' : Link = ran_by setup.reads (Asked (Prep m key text)) l in
        let stepping = asks setup tests step tame view real private stands number m (Prep m key text) joined is in
        let was = before setup tests step tame view real private stands number m (Prep m key text) joined alive is in
        let alike = (prep_after setup.reads step tests tame d s0 p0 ok (ok_here setup tests step tame view real private stands number m) text l.account l.marked l.told l.id pin (view.held m).id stepping.pinned was.session was.knows was.unknown).0.alike in
        let stays = tame.prepare.session d s0 ok text in
        let deep : Bool = (if is_pinned pin then record pin { after_err = pin.after_err || is_err there.reply } else pin).deep in
        let same : deep ≡ pin.deep = ap (λ b. (if b then record pin { after_err = pin.after_err || is_err there.reply } else pin).deep) stepping.pinned in
        let matched = matched_by setup true (is_made there.reply) l.live pin.deep deep t (private.tables m) key (number_in there.reply) text there.session here.session fresh.fresh.unused
        (λ makes. stepping.fits.text_is)
        (sym (ap (λ (x : Session). x.schema) alike.rest)) (sym (ap (λ (x : Session). x.settings) alike.rest)) (λ e. sym same ∙ e)
        (λ makes e. told_place setup key text l.told s0 there.session stepping.fits (was.session.follows (sym same ∙ e)) (ap (λ (x : Session). x.schema) stays) (ap (λ (x : Session). x.settings) stays))
        (alive_joined setup tests view real private stands are number m alive (Prep m key text) is joined) in
        let right = subst (λ b. AreMatched setup (lived true (is_made there.reply) key (number_in there.reply) l.live) deep (tabled true (is_made there.reply) (number_in there.reply) text there.session t) (tabled true b key text here.session (private.tables m))) (sym (ap is_made alike.reply)) matched in
        let placed = ran_table m l' (peer_by true (there_table (Prep m key text) there t) there) (table_after (Prep m key text) here (private.tables m)) (stands_at setup tests view real private stands are number (Joined m) joined).home joined right in
        subst (λ b. AreTabled setup (put is_link_id view.links number l') (put is_link_id real.peers number (peer_by true (there_table (Prep m key text) there t) there)) view.held (private_prep step private b l.server m key text).tables) (sym stepping.pinned)
        (with_data setup tests step tame view real private stands number (λ x. AreTabled setup (put is_link_id view.links number l') (put is_link_id real.peers number (peer_by true (there_table (Prep m key text) there t) there)) view.held (put is_name private.tables m (table_after (Prep m key text) (step x p0 (Prepare text)) (private.tables m)))) placed)
  ]

  -- Every other command.

  ran_own_table : (c : Command) → (real.peers number).alive ≡ true → (view.links number).stage ≡ Asked (Own c) → (carried : Carried) → (view.links number).carries ≡ carried → RanTabled true (Asked (Own c))
  ran_own_table c alive is Nobody carries =
      let l = view.links number in
      let a = (real.peers number).answer in
      let t = (real.peers number).table in
      let there = step (real.stored l.server) (real.peers number).session c in
      let l' : Link = ran_by setup.reads (Asked (Own c)) l in
      let was = subst (λ b. IfAlive b (AreKept setup l.live t) (Unit {0})) alive (subst (λ st. IfAlive (real.peers number).alive (AreKept setup (soon_live st a l.live) t) (Unit {0})) is (tabled_at setup tests view real private stands are number Nobody carries)) in
      ran_still l' (peer_by (not (is_quit c)) t there) (subst (λ x. AreTabledBy setup x l' (peer_by (not (is_quit c)) t there) view.held private.tables) (sym carries) (if_alive (not (is_quit c)) (AreKept setup l.live t) was))
  ran_own_table c alive is (Lent n) carries =
      let l = view.links number in
      let t = (real.peers number).table in
      let there = step (real.stored l.server) (real.peers number).session c in
      let l' : Link = ran_by setup.reads (Asked (Own c)) l in
      let both = alive_lent setup tests view real private stands are number n alive (Own c) is carries in
      ran_still l' (peer_by (not (is_quit c)) t there) (subst (λ x. AreTabledBy setup x l' (peer_by (not (is_quit c)) t there) view.held private.tables) (sym carries) (if_alive (not (is_quit c)) (AreKept setup l.live t) both.0, both.1))
  ran_own_table c alive is (Joined n) carries =
      absurd (subst (λ st. IsAskedJoined setup n st (view.links number).marked (view.links number).told (view.links number).id (view.links number).live (view.held n)) is (stands_at setup tests view real private stands are number (Joined n) carries).asked)

  ran_joined_table : (m : SessionName) (question : Question) (link : Link) (there : Outcome) → (real.peers number).alive ≡ true → (view.links number).stage ≡ Asked question → (view.links number).carries ≡ Joined m → link.carries ≡ Joined m
      → (AreMatched setup (view.links number).live (view.held m).pin.deep (real.peers number).table (private.tables m) → AreTabledBy setup (Joined m) link (peer_by (not (is_quit (command_of question))) (real.peers number).table there) view.held private.tables)
      → AreTabled setup (put is_link_id view.links number link) (put is_link_id real.peers number (peer_by (not (is_quit (command_of question))) (real.peers number).table there)) view.held private.tables
  ran_joined_table m question link there alive is carries same next =
      ran_still link (peer_by (not (is_quit (command_of question))) (real.peers number).table there) (subst (λ x. AreTabledBy setup x link (peer_by (not (is_quit (command_of question))) (real.peers number).table there) view.held private.tables) (sym same) (next (alive_joined setup tests view real private stands are number m alive question is carries)))

  ran_by_table : (alive : Bool) (stage : Stage) → (real.peers number).alive ≡ alive → (view.links number).stage ≡ stage → IsTrueRun step real number (view.links number).live stage (view.links number).server → RanTabled alive stage
  ran_by_table true (Asked (Statement m due)) alive is fresh = ran_statement_table m due alive is fresh
  ran_by_table true (Asked (Prep m key text)) alive is fresh = ran_prep_table m key text alive is (prep_name setup tests number (view.links number).carries (view.links number) (real.peers number) view.held private.sessions (stands.links number) m key text is) fresh
  ran_by_table true (Asked (Own c)) alive is fresh = ran_own_table c alive is (view.links number).carries refl
  ran_by_table true (Asked (Sync m c)) alive is fresh =
      let l = view.links number in
      let carries : l.carries ≡ Joined m = sync_name setup tests number l.carries l (real.peers number) view.held private.sessions (stands.links number) m c is in
      ran_joined_table m (Sync m c) (ran_by setup.reads (Asked (Sync m c)) l) (step (real.stored l.server) (real.peers number).session c) alive is carries carries
      (λ x. if_matched (not (is_quit c)) setup l.live (view.held m).pin.deep (real.peers number).table (private.tables m) x)
  ran_by_table true (Asked (Capture m)) alive is fresh =
      let l = view.links number in
      let carries : l.carries ≡ Joined m = capture_name setup tests number l.carries l (real.peers number) view.held private.sessions (stands.links number) m is in
      ran_joined_table m (Capture m) (ran_by setup.reads (Asked (Capture m)) l) (step (real.stored l.server) (real.peers number).session ReadId) alive is carries carries (λ x. x)
  ran_by_table true (Asked (End m)) alive is fresh =
      let l = view.links number in
      let carries : l.carries ≡ Joined m = end_name setup tests number l.carries l (real.peers number) view.held private.sessions (stands.links number) m is in
      ran_table m (ran_by setup.reads (Asked (End m)) l) (peer_by true (λ n. None) (step (real.stored l.server) (real.peers number).session Reset)) (λ key. None) (stands_at setup tests view real private stands are number (Joined m) carries).home carries
      (record { match = λ key n e. cc; kept = λ e. record { kept = λ key n f. cc }; usual = λ e. record { usual = λ key place f. cc } })
  ran_by_table false (Asked question) alive is fresh = dead_runs alive fresh.alive
  ran_by_table true Quiet alive is fresh = tabled_still setup tests view real private stands are number
  ran_by_table true (Answered question) alive is fresh = tabled_still setup tests view real private stands are number
  ran_by_table false Quiet alive is fresh = tabled_still setup tests view real private stands are number
  ran_by_table false (Answered question) alive is fresh = tabled_still setup tests view real private stands are number

  pub tabled_ran : IsTrueRun step real number (view.links number).live (view.links number).stage (view.links number).server → AreTabled setup (view_step setup view (Ran number)).links (real_step step view real (Ran number)).peers view.held (private_step step view (alive_in real) private (Ran number)).tables
  tabled_ran fresh = ran_by_table (real.peers number).alive (view.links number).stage refl refl fresh
