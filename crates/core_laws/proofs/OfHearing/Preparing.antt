-- As bytes are read on a link to a server, what clients have prepared stands so, and what became due.
use Rattle.std.specs.Prelude.{◌≡◌, ◌⊎◌, ℕ, Bool, true, false, not, is_some, nat_eq, if◌then◌else◌, List, Option, Some, None}
use Rattle.std.specs.Option.{option_map}
use Rattle.std.proofs.Common.{refl, sym, ap, ◌∙◌, subst, inl, inr}
use Rattle.std.proofs.lemmas.Option.{none-some, same_Some}
use Rattle.reply_track.specs.Runs.Ending.{Ended, Failed, Going}
use Rattle.reply_track.specs.Runs.{Ending}
use Rattle.reply_track.specs.declared.reply.ReplyKind.TheVariants as kind
use Rattle.server_side.specs.Login.{Fails, Goes, LogsIn, Opening, opening}
use Rattle.private_model.proofs.Maps.{client_of, message_is}
use Rattle.private_model.specs.Commands.{Account, Command, Reply}
use Rattle.private_model.specs.Lawful.{IsLawful}
use Rattle.private_model.specs.Names.{ClientNo, LinkId, MessageName, ServerId, SessionName}
use Rattle.private_model.specs.Story.{Capture, Due, End, Heard, LoggedIn, Own, Prep, Question, Statement, Sync, command_of, is_message, message_of}
use Rattle.private_model.specs.View as view
use Rattle.private_model.specs.View.{View, view_after, view_heard}
use Rattle.log_story.specs.Servers.{entered_by, heard_by, hears, kind_by, read_as, reads_on, reset_by, runs_first, with_run}
use Rattle.log_story.specs.Tale.{Tale, Wire, is_reset_step, link_in, tell, view_of, with_wire}
use Rattle.log_story.specs.Telling.{server_says, wire_with}
use Rattle.link_state.specs.declared.asking.Form.{Form}
use Rattle.link_state.specs.declared.asking.Form.TheVariants as forms
use Rattle.link_state.specs.declared.asking.Purpose.{Purpose}
use Rattle.link_state.specs.declared.asking.Purpose.TheVariants as purposes
use Rattle.link_state.specs.declared.state.Stage.{Stage}
use Rattle.served_link.specs.declared.row.Row.{Row}
use Rattle.served_link.specs.declared.news.News.{News}
use Rattle.served_link.specs.declared.news.News.TheVariants as news
use Rattle.client_seat.specs.declared.seat.Seat.{Seat}
use Rattle.client_desk.specs.Desks.{moved_by}
use Rattle.core_tables.specs.Hearing.{Answer, answered_for, at_desk, grown_by, replied_by, told_by, told_of, told_to}
use Rattle.core_tables.specs.Tables.{Tabled, client_changed}
use Rattle.core_tables.specs.declared.client.Client.{Client}
use Rattle.core_stands.specs.Grounds.{Ground, on, view_on}
use Rattle.core_stands.specs.Stands.{AreDuly}

-- What a link says is told: nothing, that the login is through, or the reply to what stands there, which has run.
module _ (g : Ground) (l : LinkId) (bytes : List ℕ) (Q : Tale → Type 0) (still : (w : Wire) → Q (with_wire l w g.tale))
    (logged : (s : ServerId) (a : Account) (w : Wire) → Q (tell (LoggedIn l s a) (with_wire l w g.tale)))
    (ran : (w : Wire) → Q (with_wire l w (with_run g.setup l g.tale)))
    (heard : (g.tale.wires l).entered ≡ true → (reply : Reply) (w : Wire) → Q (tell (Heard l reply) (with_wire l w (with_run g.setup l g.tale)))) where
  abbrev fed : Wire
  fed = wire_with g.tale l bytes

  by_opening : (o : Opening) → Q (entered_by g.plan l fed o g.tale)
  by_opening (Goes said) = still fed
  by_opening (Fails said fault) = still fed
  by_opening (LogsIn said rest) = logged _ _ _

  by_reset : (e : Ending) → Q (reset_by l fed e g.tale)
  by_reset (Ended end rest) = still _
  by_reset (Going state) = still fed
  by_reset (Failed rest) = still fed

  by_reply : (g.tale.wires l).entered ≡ true → (question : Question) (e : Ending) → Q (heard_by l question fed e (with_run g.setup l g.tale))
  by_reply entered question (Ended end rest) = heard entered _ _
  by_reply entered question (Going state) = ran fed
  by_reply entered question (Failed rest) = ran fed

  by_stage : (g.tale.wires l).entered ≡ true → (stage : view.Stage) → Q (hears l fed stage (with_run g.setup l g.tale))
  by_stage entered view.Quiet = ran fed
  by_stage entered (view.Asked question) = ran fed
  by_stage entered (view.Answered question) = by_reply entered question (read_as (kind_by (command_of question)) fed)

  either : (b : Bool) (x y : Tale) → Q x → Q y → Q (if b then x else y)
  either true x y first second = first
  either false x y first second = second

  by_entered : (entered : Bool) → (g.tale.wires l).entered ≡ entered
      → Q (if not entered then entered_by g.plan l fed (opening (g.plan.logins l) fed.unread) g.tale
      else if is_reset_step (g.tale.wires l).step then reset_by l fed (read_as kind.Command fed) g.tale else reads_on g.setup l fed g.tale)
  by_entered false at = by_opening (opening (g.plan.logins l) fed.unread)
  by_entered true at =
      either (is_reset_step (g.tale.wires l).step) (reset_by l fed (read_as kind.Command fed) g.tale) (reads_on g.setup l fed g.tale)
      (by_reset (read_as kind.Command fed))
      (by_stage at (link_in g.setup (with_run g.setup l g.tale) l).stage)

  pub says_by : Q (server_says g.setup g.plan l bytes g.tale)
  says_by = by_entered (g.tale.wires l).entered refl

-- What stands there runs first.

run_clients : (stage : view.Stage) (l : LinkId) (tale : Tale) → (runs_first stage l tale).clients ≡ tale.clients
run_clients view.Quiet l tale = refl
run_clients (view.Asked question) l tale = refl
run_clients (view.Answered question) l tale = refl

run_moment : (stage : view.Stage) (l : LinkId) (tale : Tale) → (runs_first stage l tale).moment ≡ tale.moment
run_moment view.Quiet l tale = refl
run_moment (view.Asked question) l tale = refl
run_moment (view.Answered question) l tale = refl

module _ (g : Ground) (l : LinkId) where
  pub run_duly : (stage : view.Stage) → AreDuly g.setup g.plan g.tale.story → AreDuly g.setup g.plan (runs_first stage l g.tale).story
  run_duly view.Quiet are = are
  run_duly (view.Asked question) are = are
  run_duly (view.Answered question) are = are

  pub run_lawful : (stage : view.Stage) → IsLawful g.setup g.tale.story → IsLawful g.setup (runs_first stage l g.tale).story
  run_lawful view.Quiet is = is
  run_lawful (view.Asked question) is = (is, tt)
  run_lawful (view.Answered question) is = is

  run_replies : (stage : view.Stage) (m : MessageName) → (view_after g.setup (runs_first stage l g.tale).story).replies m ≡ (view_on g).replies m
  run_replies view.Quiet m = refl
  run_replies (view.Asked question) m = refl
  run_replies (view.Answered question) m = refl

  pub says_clients : (bytes : List ℕ) → (server_says g.setup g.plan l bytes g.tale).clients ≡ g.tale.clients
  says_clients bytes =
      says_by g l bytes (λ (T : Tale). T.clients ≡ g.tale.clients) (λ w. refl) (λ s a w. refl) (λ w. run_clients (link_in g.setup g.tale l).stage l g.tale)
      (λ entered reply w. run_clients (link_in g.setup g.tale l).stage l g.tale)

  pub says_moment : (bytes : List ℕ) → (server_says g.setup g.plan l bytes g.tale).moment ≡ g.tale.moment
  says_moment bytes =
      says_by g l bytes (λ (T : Tale). T.moment ≡ g.tale.moment) (λ w. refl) (λ s a w. refl) (λ w. run_moment (link_in g.setup g.tale l).stage l g.tale)
      (λ entered reply w. run_moment (link_in g.setup g.tale l).stage l g.tale)

  pub says_duly : (bytes : List ℕ) → AreDuly g.setup g.plan g.tale.story → AreDuly g.setup g.plan (server_says g.setup g.plan l bytes g.tale).story
  says_duly bytes are =
      let ran = run_duly (link_in g.setup g.tale l).stage are in
      says_by g l bytes (λ (T : Tale). AreDuly g.setup g.plan T.story) (λ w. are) (λ s a w. are) (λ w. ran) (λ entered reply w. ran)

  -- Replies: one more, to the statement that stood there.

  abbrev pub ran_view : View
  ran_view = view_after g.setup (with_run g.setup l g.tale).story

  pub record IsStood (m : MessageName) : Type 0 where
    pub entered : (g.tale.wires l).entered ≡ true
    pub n : SessionName
    pub due : Due
    pub stood : (ran_view.links l).stage ≡ view.Answered (Statement n due)
    pub is : m ≡ message_of n due

  abbrev pub IsSaid : Tale → MessageName → Type 0
  IsSaid T m = ((view_of g.setup T).replies m ≡ (view_on g).replies m) ⊎ IsStood m

  pub same_so : (m : MessageName) → ran_view.replies m ≡ (view_on g).replies m
  same_so m = run_replies (link_in g.setup g.tale l).stage m

  heard_question : (g.tale.wires l).entered ≡ true → (reply : Reply) (m : MessageName) (question : Question)
      → (ran_view.links l).stage ≡ view.Answered question
      → ((view_heard g.setup ran_view l reply (view.Answered question)).replies m ≡ (view_on g).replies m) ⊎ IsStood m
  heard_question entered reply m (Statement n due) at = by (is_message m (message_of n due)) refl where
    by : (b : Bool) → is_message m (message_of n due) ≡ b
        → ((if b then Some reply else ran_view.replies m) ≡ (view_on g).replies m) ⊎ IsStood m
    by false other = inl (same_so m)
    by true same = inr (record { entered = entered; n = n; due = due; stood = at; is = message_is m (message_of n due) same })
  heard_question entered reply m (Prep n key text) at = inl (same_so m)
  heard_question entered reply m (Sync n command) at = inl (same_so m)
  heard_question entered reply m (Own command) at = inl (same_so m)
  heard_question entered reply m (End n) at = inl (same_so m)
  heard_question entered reply m (Capture n) at = inl (same_so m)

  heard_said : (g.tale.wires l).entered ≡ true → (reply : Reply) (m : MessageName) (stage : view.Stage) → (ran_view.links l).stage ≡ stage
      → ((view_heard g.setup ran_view l reply stage).replies m ≡ (view_on g).replies m) ⊎ IsStood m
  heard_said entered reply m view.Quiet at = inl (same_so m)
  heard_said entered reply m (view.Asked question) at = inl (same_so m)
  heard_said entered reply m (view.Answered question) at = heard_question entered reply m question at

  pub says_replies : (bytes : List ℕ) (m : MessageName) → IsSaid (server_says g.setup g.plan l bytes g.tale) m
  says_replies bytes m =
      says_by g l bytes (λ (T : Tale). IsSaid T m) (λ w. inl refl) (λ s a w. inl refl) (λ w. inl (same_so m))
      (λ entered reply w. heard_said entered reply m (ran_view.links l).stage refl)

-- The row of a client that is told, or not.
pub record HeardOf (found : Option Client) (row : Client) : Type 0 where
  pub old : Client
  pub there : found ≡ Some old
  pub phase : row.desk.seat.phase ≡ old.desk.seat.phase
  pub statements : row.desk.seat.statements ≡ old.desk.seat.statements

abbrev Keeps : (Client → Client) → Type 0
Keeps by = (row : Client) → ((by row).desk.seat.phase ≡ row.desk.seat.phase) × ((by row).desk.seat.statements ≡ row.desk.seat.statements)

moved_keeps : (form : Form) (ok : Bool) (seat : Seat)
    → ((moved_by form ok seat).phase ≡ seat.phase) × ((moved_by form ok seat).statements ≡ seat.statements)
moved_keeps (forms.Text class) ok seat = (refl, refl)
moved_keeps forms.Fields ok seat = (refl, refl)
moved_keeps (forms.Prepare class) ok seat = (refl, refl)
moved_keeps (forms.SetId id) ok seat = (refl, refl)
moved_keeps forms.ReadId ok seat = (refl, refl)
moved_keeps forms.Reset ok seat = (refl, refl)

heard_itself : (found : Option Client) (row : Client) → found ≡ Some row → HeardOf found row
heard_itself found row there = record { old = row; there = there; phase = refl; statements = refl }

heard_mapped : (by : Client → Client) → Keeps by → (found : Option Client) (row : Client) → option_map by found ≡ Some row → HeardOf found row
heard_mapped by keeps None row is = absurd (none-some row is)
heard_mapped by keeps (Some old) row is =
    let same : by old ≡ row = same_Some (by old) row is in
    record {
      old = old;
      there = refl;
      phase = ap (λ (r : Client). r.desk.seat.phase) (sym same) ∙ (keeps old).0;
      statements = ap (λ (r : Client). r.desk.seat.statements) (sym same) ∙ (keeps old).1;
    }

module _ (t : Tabled) (c : ClientNo) (row : Client) where
  heard_changed : (d : ClientNo) (by : Client → Client) → Keeps by → (client_changed d by t).clients c ≡ Some row → HeardOf (t.clients c) row
  heard_changed d by keeps is = at (nat_eq d.0 c.0) refl is where
    at : (b : Bool) → nat_eq d.0 c.0 ≡ b → (if b then option_map by (t.clients d) else t.clients c) ≡ Some row → HeardOf (t.clients c) row
    at true same is =
        subst (λ (k : ClientNo). HeardOf (t.clients k) row) (client_of d c same) (heard_mapped by keeps (t.clients d) row is)
    at false other is = heard_itself (t.clients c) row is

  heard_answered : (purpose : Purpose) (a : Answer) (made : List ℕ) → (answered_for purpose a made t).clients c ≡ Some row → HeardOf (t.clients c) row
  heard_answered (purposes.Statement n ordinal key) a made is =
      heard_changed n.client (at_desk (replied_by a n.hostgroup made)) (λ r. moved_keeps a.asking.form _ _) is
  heard_answered (purposes.Prep n ordinal key) a made is = heard_changed n.client (at_desk (told_of a n.hostgroup)) (λ r. (refl, refl)) is
  heard_answered (purposes.Sync n) a made is = heard_changed n.client (at_desk (told_of a n.hostgroup)) (λ r. (refl, refl)) is
  heard_answered purposes.Own a made is = heard_itself (t.clients c) row is
  heard_answered (purposes.End n) a made is = heard_changed n.client (at_desk (told_of a n.hostgroup)) (λ r. (refl, refl)) is
  heard_answered (purposes.Capture n) a made is = heard_changed n.client (at_desk (told_of a n.hostgroup)) (λ r. (refl, refl)) is

  heard_news : (said : News) (multiplex : Option Bool) (made : List ℕ) → (told_by said multiplex made t).clients c ≡ Some row → HeardOf (t.clients c) row
  heard_news (news.Part n) multiplex made is = heard_changed n.client (at_desk (grown_by made)) (λ r. (refl, refl)) is
  heard_news (news.Whole asking end number used) multiplex made is = heard_answered asking.purpose _ _ is
  heard_news _ multiplex made is = heard_itself (t.clients c) row is

  pub heard_told : (new : Row) (said : News) (made : List ℕ) → (told_to new said made t).clients c ≡ Some row → HeardOf (t.clients c) row
  heard_told new said made is = by (is_some new.left) is where
    by : (b : Bool) → (if b then t else told_by said new.multiplex made t).clients c ≡ Some row → HeardOf (t.clients c) row
    by true is = heard_itself (t.clients c) row is
    by false is = heard_news said new.multiplex made is
