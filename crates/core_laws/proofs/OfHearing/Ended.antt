-- An answer to a question is read whole: the tables stand.
use Rattle.std.specs.Prelude.{◌≡◌, ◌⊎◌, ◌<◌, ◌-◌, ℕ, suc, Bool, true, false, ◌||◌, nat_lt, is_some, if◌then◌else◌, List, [], ◌∷◌, ◌++◌, length, take, Option, Some, None}
use Rattle.std.specs.Option.{option_map}
use Rattle.std.proofs.Common.{refl, sym, ap, ◌∙◌, subst, inl, inr, arith}
use Rattle.std.proofs.lemmas.Option.{none-some}
use Rattle.mx_base.specs.Fields.{AreBytes}
use Rattle.mx_base.specs.declared.names.Hostgroup.{Hostgroup}
use Rattle.packet_frame.specs.Packets.{spellings}
use Rattle.reply_track.proofs.Finishing.{AreBytes-append}
use Rattle.reply_track.specs.Runs.{renumbered, run}
use Rattle.reply_track.specs.Runs.Ending.{Ended}
use Rattle.reply_track.specs.Tracking.{started}
use Rattle.reply_track.specs.declared.reply.ReplyEnd as track_end
use Rattle.reply_track.specs.declared.reply.ReplyKind.{ReplyKind}
use Rattle.session_state.specs.declared.reply_end.ReplyEnd.{ReplyEnd}
use Rattle.server_rule.specs.Replies.{one_number}
use Rattle.client_session.specs.Setups.{Setup as Service}
use Rattle.private_model.specs.Commands.{Reply, end_of, is_prepare}
use Rattle.private_model.specs.Lawful.{IsLawful}
use Rattle.private_model.specs.Names.{ClientNo, LinkId, SessionName}
use Rattle.private_model.specs.Story as story
use Rattle.private_model.specs.Story.{Due, Heard, Question, command_of, message_of}
use Rattle.private_model.specs.View as view
use Rattle.private_model.specs.View.{Held, Link, View, ran_by, view_after, view_heard}
use Rattle.log_story.specs.Owed.{number_of}
use Rattle.log_story.specs.Owed.{kind_of as owed_kind}
use Rattle.log_story.specs.Servers.{read_as, reply_id, reply_in, runs_first, with_run}
use Rattle.reply_track.specs.Grammar.{renamed}
use Rattle.log_story.specs.Tale as tales
use Rattle.log_story.specs.Tale.{Tale, Wire, is_to_server, tell, view_of, with_wire}
use Rattle.log_story.specs.Telling.{wire_with}
use Rattle.link_state.specs.Asks.{kind_of}
use Rattle.link_state.specs.States.{heard_in}
use Rattle.link_state.specs.declared.asking.Asking.{Asking}
use Rattle.link_state.specs.declared.asking.Purpose.{Purpose}
use Rattle.link_state.specs.declared.asking.Purpose.TheVariants as purposes
use Rattle.link_state.specs.declared.state.Stage.TheVariants.{Answered}
use Rattle.lent_link.specs.Hears.{expecting}
use Rattle.lent_link.specs.Reads.{end_of as code_end}
use Rattle.lent_link.specs.Rests.{is_resetting}
use Rattle.lent_link.specs.declared.link.Begins.{Begins}
use Rattle.lent_link.specs.declared.link.LentLink.{LentLink}
use Rattle.lent_link.specs.declared.link.Step.TheVariants.{Other}
use Rattle.lent_link.specs.declared.reading.Reading.{Reading}
use Rattle.served_link.specs.Hears.{made_in, number_read, seen as cell_seen}
use Rattle.served_link.specs.Notes.{left_behind, noted}
use Rattle.served_link.specs.Reads.{used_at}
use Rattle.served_link.specs.declared.news.News.TheVariants as news
use Rattle.served_link.specs.declared.row.LeftSession.{LeftSession}
use Rattle.served_link.specs.declared.row.Row.{Row}
use Rattle.row_laws.specs.Rows.{IsRowIn, Serves, is_asked}
use Rattle.row_laws.specs.Unread.{IsAnswering, IsNumberFor, kind_due, sought}
use Rattle.row_laws.specs.Whose.{IsHolder, OfStatement, name_for, name_in}
use Rattle.row_laws.specs.Rows as rows
use Rattle.row_laws.proofs.Hearing.{IsAnswered}
use Rattle.row_laws.proofs.Opening.{put_there}
use Rattle.row_laws.proofs.Taking.{end_told}
use Rattle.link_laws.specs.Stands.{IsAsking, IsPurpose}
use Rattle.lent_link.specs.Pieces.{IsRead}
use Rattle.client_seat.specs.Answers.{grown}
use Rattle.client_seat.specs.declared.seat.Seat.{Seat}
use Rattle.session_state.specs.Endings.{is_ok}
use Rattle.client_desk.specs.Desks.{done, name_of as name_at_desk, session_of}
use Rattle.client_desk.specs.declared.desk.Desk.{Desk}
use Rattle.desk_laws.specs.Spares.{IsAside, SparesStage, answered_for as asker_of, asked_for}
use Rattle.desk_laws.specs.Stands.{HasRow, IsDesk, name_at}
use Rattle.core_tables.specs.Hearing.{Answer, answered_for, at_desk, grown_by, moved_in, replied_by, told_of, told_to, with_row}
use Rattle.core_tables.specs.Tables.{Tabled, client_changed, link_changed}
use Rattle.core_tables.specs.declared.client.Client.{Client}
use Rattle.core_tables.specs.declared.server.Server.{Server}
use Rattle.core_stands.specs.Clients.{IsClient}
use Rattle.core_stands.specs.Grounds.{Ground, on, view_on}
use Rattle.core_stands.specs.Servers.{IsNextOf, IsPartedFor, IsReplying, IsServer, IsStanding, IsStandingAt, is_stating, own_number}
use Rattle.core_stands.specs.Stands.{AreClients, IsAt, Stands}
use Rattle.core_laws.proofs.OfParting.Same.{each_of, row_of}
use Rattle.core_laws.proofs.OfParting.Reading.{holder_of}
use Rattle.core_laws.proofs.OfHearing.Answering.{aside_so, heard_at, parted_so, replied_so, sessions_settled, settled_so}
use Rattle.core_laws.proofs.OfHearing.Behind.{awaited, carried_for, lent_due}
use Rattle.core_laws.proofs.OfHearing.Changing.{IsNow, client_now}
use Rattle.core_laws.proofs.OfHearing.Clients.{IsSettled, moved_is}
use Rattle.core_laws.proofs.OfHearing.Elsewhere.{AreShown, CarriedLaw, HomedLaw}
use Rattle.core_laws.proofs.OfHearing.Expected.{expected}
use Rattle.core_laws.proofs.OfHearing.Heard as read
use Rattle.core_laws.proofs.OfParting.Ahead.{ahead_same}
use Rattle.core_laws.proofs.OfHearing.Homing.{KeepsCarried, KeepsHomes}
use Rattle.core_laws.proofs.OfHearing.Kept.{AsksAt, IsShown, with_story}
use Rattle.core_laws.proofs.OfHearing.Laws.{DeskLaws, OthersStay}
use Rattle.core_laws.proofs.OfHearing.Numbered.{numbered_so}
use Rattle.core_laws.proofs.OfHearing.Parted.{over_by, parted_at, spares_over}
use Rattle.core_laws.proofs.OfHearing.Seated.{at_changed, at_nobody, at_same}
use Rattle.core_laws.proofs.OfHearing.Spelled.{NumbersAreRead, pieces_are}
use Rattle.core_laws.proofs.OfHearing.Standing.{StandsBut, clients_read, near, replying_so, server_is, shown_alone, standing_so, tale_form, told_so, untold_so}
use Rattle.core_laws.proofs.OfHearing.Telling as told
use Rattle.core_laws.proofs.OfHearing.Whole.{IsStatementOf, aside_same, is_stated, names_same, renamed_same, statement_same, told_numbered}

module _ (laws : DeskLaws) (stay : OthersStay) (carried_law : CarriedLaw) (homed_law : HomedLaw) (numbers : NumbersAreRead)
    (service : Service) (g : Ground) (t : Tabled) (stands : Stands service g t) (l : LinkId) (server : Server) (there : t.links l ≡ Some server)
    (to_server : is_to_server g.tale l ≡ true) (kept : server.row.lost ≡ false) (fine : server.row.link.spoilt ≡ false)
    (bytes : List ℕ) (are_bytes : AreBytes bytes) (now : ℕ) (entered : (g.tale.wires l).entered ≡ true)
    (r : Reading) (under_way : (expecting (used_at now server.row).link).reading ≡ Some r)
    (plain : is_resetting (expecting (used_at now server.row).link).step ≡ false) (end : track_end.ReplyEnd) (rest : List ℕ)
    (ended : run r.tracker.state bytes ≡ Ended end rest) where
  abbrev row : Row
  row = used_at now server.row

  abbrev due : LentLink
  due = expecting row.link

  abbrev is_server : IsServer g t l server.row
  is_server = server_is laws stay carried_law homed_law service g t stands l server there to_server kept fine

  abbrev wire : Wire
  wire = g.tale.wires l

  abbrev fed : Wire
  fed = wire_with g.tale l bytes

  abbrev seen : View
  seen = view_on g

  abbrev ran_tale : Tale
  ran_tale = with_run g.setup l g.tale

  abbrev ran_link : Link
  ran_link = ran_by g.setup.reads (seen.links l).stage (seen.links l)

  abbrev dues : Serves g.setup.reads g.codes (g.plan.logins l) seen (record row { link = due }) wire ran_link
  dues = told.dues g.setup g.codes g.plan g.tale l row bytes is_server.row entered fine are_bytes

  abbrev was : IsAnswered g.setup.reads g.codes (told.kind g.setup g.codes g.plan g.tale l row bytes is_server.row entered fine are_bytes r under_way) due.state.stage ran_link.stage
  was = told.is g.setup g.codes g.plan g.tale l row bytes is_server.row entered fine are_bytes r under_way plain

  abbrev asking : Asking
  asking = was.asking

  abbrev question : Question
  question = was.question

  abbrev reply : Reply
  reply = reply_in fed question (take (length fed.unread - length rest) fed.unread)

  abbrev made : List ℕ
  made = renumbered r.tracker.state bytes

  abbrev used : ℕ
  used = length bytes - length rest

  abbrev number : Option ℕ
  number = number_read (cell_seen (take used made) row).cell

  abbrev heard_wire : Wire
  heard_wire = record fed { unread = rest; written = [] }

  abbrev wires : LinkId → Wire
  wires = (with_wire l heard_wire g.tale).wires

  abbrev read_on : Ground
  read_on = on g (with_story ran_tale.story wires g.tale)

  abbrev after : Ground
  after = on g (with_story (Heard l reply ∷ ran_tale.story) wires g.tale)

  abbrev new : Row
  new = noted asking (code_end end) number (record row {
    cell = None;
    link = record due {
      reading = None;
      writing = None;
      step = Other;
      spoilt = due.spoilt || nat_lt used (length bytes);
      state = heard_in (Answered asking) (code_end end) number due.state;
    };
  })

  abbrev row_table : Tabled
  row_table = link_changed l (with_row new) t

  stage_now : ((view_on read_on).links l).stage ≡ view.Answered question
  stage_now = told.stage_now g.setup g.codes g.plan g.tale l row bytes is_server.row entered fine are_bytes r under_way plain

  abbrev heard_tale : Tale
  heard_tale = tell (Heard l reply) (with_wire l heard_wire ran_tale)

  module _ (law_ended : read_as (kind_of asking.form) fed ≡ Ended end rest) where
    -- What the law reads of it.

    abbrev answer_read : IsAnswering r (kind_due due.step due.state.stage) (reply_id wire) due.first due.number wire.unread
    answer_read = read.read laws stay carried_law homed_law service g t stands l server there to_server kept fine bytes are_bytes now entered r under_way

    all_bytes : AreBytes fed.unread
    all_bytes = AreBytes-append wire.unread bytes answer_read.are are_bytes

    pub end_is : code_end end ≡ end_of reply
    end_is =
        end_told (command_of question) (reply_id wire) fed.unread rest end (omega arith) all_bytes
        (ap (λ (k : ReplyKind). read_as k fed) (was.is_kind ∙ sym was.form_kind) ∙ law_ended)

    numbered_by : (reading : Option Reading) → due.reading ≡ reading
        → IsNumberFor asking.form (number_read (cell_seen (take used (made_in reading bytes)) row).cell) reply.payloads
    numbered_by reading same =
        subst (λ (x : Option Reading). IsNumberFor asking.form (number_read (cell_seen (take used (made_in x bytes)) row).cell) reply.payloads) same
        (numbered_so g.setup g.codes g.plan g.tale l row bytes is_server.row entered fine are_bytes numbers asking end rest was.stage law_ended)

    numbered : IsNumberFor asking.form number reply.payloads
    numbered = numbered_by (Some r) under_way

    -- The link behind it.

    heard_so : view_on after ≡ view_heard g.setup (view_on read_on) l reply (view.Answered question)
    heard_so = heard_at laws read_on l reply question stage_now

    quiet_now : ((view_on after).links l).stage ≡ view.Quiet
    quiet_now =
        ap (λ (v : View). (v.links l).stage) heard_so
        ∙ ap (λ (k : Link). k.stage) (put_there (view_on read_on).links l (view.heard g.setup.reads question reply ((view_on read_on).links l)))

    left_kept : (left : Option LeftSession) → option_map (left_behind asking row.multiplex (code_end end) number) left ≡ None → left ≡ None
    left_kept None is = refl
    left_kept (Some left) is = absurd (none-some (left_behind asking row.multiplex (code_end end) number left) (sym is))

    -- what is due where it is lent is so still
    dues_now : (n : SessionName) → (view_on after).dues n ≡ seen.dues n
    dues_now n =
        ap (λ (v : View). v.dues n) heard_so
        ∙ (near laws stay carried_law homed_law service g t stands l server there to_server kept fine heard_wire).dues n

    server_so : (other : Tabled) → IsRowIn g.setup g.codes g.plan (with_story (Heard l reply ∷ ran_tale.story) wires g.tale) l new → IsServer after other l new
    server_so other row_is = record {
      row = row_is;
      user = is_server.user;
      found_rows = is_server.found_rows;
      standing = subst (λ (stage : view.Stage). IsStandingAt stage after l) (sym quiet_now) tt;
      next = subst (λ (next : Option Begins). IsNextOf next after other new ((view_on after).links l))
          (sym (read.none_next laws stay carried_law homed_law service g t stands l server there to_server kept fine bytes are_bytes now entered r under_way)) tt;
      lent = λ here mine unstated.
          ahead_same seen (view_on after) due.state.carries dues_now
          (lent_due seen row.link (is_server.lent here (left_kept server.row.left mine)) (ap is_stating was.stage));
      parted = λ whole here left. tt;
      replying = λ whole here mine. tt;
    }

    carried_on : KeepsCarried server (with_row new server)
    carried_on = record {
      carries = read.carries_due laws stay carried_law homed_law service g t stands l server there to_server kept fine bytes are_bytes now entered;
      lost = refl;
      left = left_kept server.row.left;
      kept = λ none. ap (option_map (left_behind asking row.multiplex (code_end end) number)) none;
    }

    -- For whom it was asked.

    names : asked_for question ≡ name_for asking.purpose
    names = names_same g.codes asking.purpose question was.asks.purpose

    asks_there : AsksAt server.row.link.state.stage asking
    asks_there = (awaited row.link).asks asking was.stage

    carried_by : (n : SessionName) → name_for asking.purpose ≡ Some n → name_in server.row.link.state.carries ≡ Some n
    carried_by n of = carried_for g.setup g.codes g.plan g.tale l server.row is_server.row asking asks_there n of

    whose : (n : SessionName) → name_for asking.purpose ≡ Some n → IsHolder seen n server.row.left
    whose n of =
        holder_of seen due.state.carries server.row.left n (dues.whose kept)
        (read.carries_due laws stay carried_law homed_law service g t stands l server there to_server kept fine bytes are_bytes now entered ∙ carried_by n of)

    ran_lives : (stage : view.Stage) → (view_after g.setup (runs_first stage l g.tale).story).lives ≡ seen.lives
    ran_lives view.Quiet = refl
    ran_lives (view.Asked asked) = refl
    ran_lives (view.Answered asked) = refl

    lives_same : (view_on read_on).lives ≡ seen.lives
    lives_same = ran_lives (seen.links l).stage

    standing : OfStatement question (IsStanding read_on l)
    standing = standing_so laws stay carried_law homed_law service g t stands l server there to_server kept fine heard_wire new reply question stage_now was.there

    -- Of a session that was left the client isn't told.

    module _ (left : LeftSession) (gone : server.row.left ≡ Some left) where
      earlier : (n : SessionName) → name_for asking.purpose ≡ Some n → n.life < (view_on read_on).lives n.client n.hostgroup
      earlier n of =
          let holds : IsHolder seen n (Some left) = subst (λ (x : Option LeftSession). IsHolder seen n x) gone (whose n of) in
          subst (λ (lives : ClientNo → Hostgroup → ℕ). n.life < lives n.client n.hostgroup) (sym lives_same) holds.earlier

      parted_is : IsPartedFor asking.purpose g
      parted_is =
          parted_at g server.row.link.state.stage asking asks_there (is_server.parted fine kept (ap (λ (x : Option LeftSession). is_some x) gone))

      -- its client ended, where it was a statement
      over_so : (n : SessionName) (due : Due) → question ≡ story.Statement n due → g.over n.client ≡ true
      over_so n due same = over_by g asking.purpose question was.asks.purpose parted_is n due same

      desk_parted : (n : SessionName) → name_for asking.purpose ≡ Some n → (client : tales.Client) (row : Client) → client.number ≡ n.client
          → IsClient read_on client row → IsDesk g.setup.reads (view_on after) client.number row.desk
      desk_parted n of client row its is =
          let named_so : asked_for question ≡ Some n = names ∙ of in
          laws.parts g.setup (view_on read_on) client.number row.desk (Heard l reply) n is.desk (ap asker_of stage_now ∙ named_so) (earlier n of)
          (subst (λ (stage : view.Stage). SparesStage row.desk stage) (sym stage_now) (spares_over read_on n client row its is question named_so over_so))

      client_parted : (n : SessionName) → name_for asking.purpose ≡ Some n → (client : tales.Client) (row : Client) → client.number ≡ n.client
          → IsClient read_on client row → IsClient after client row
      client_parted n of client row its is = by question refl where
        aside_of : {asked : Question} → question ≡ asked → IsAside asked → IsAside question
        aside_of same aside = subst (λ (q : Question). IsAside q) (sym same) aside

        aside_parted : IsAside question → IsClient after client row
        aside_parted aside =
            aside_so laws read_on l reply question stage_now aside client row is row.desk.sessions (desk_parted n of client row its is)

        by : (asked : Question) → question ≡ asked → IsClient after client row
        by (story.Statement m due) same =
            let statement : IsStanding read_on l m due = subst (λ (asked : Question). OfStatement asked (IsStanding read_on l)) same standing in
            let name_so : m ≡ n = some_name m n (ap asked_for (sym same) ∙ names ∙ of) in
            let client_so : m.client ≡ client.number = ap (λ (x : SessionName). x.client) name_so ∙ sym its in
            parted_so laws read_on l reply question stage_now client row is m due same client_so (over_so m due same) statement.unanswered
            (within m due client_so statement.carrier) (desk_parted n of client row its is) where
              some_name : (a b : SessionName) → Some a ≡ Some b → a ≡ b
              some_name a b same = cc

              within : (m : SessionName) (due : Due) → m.client ≡ client.number → (view_on read_on).carriers (message_of m due) ≡ Some l → due.ordinal < suc client.taken
              within m due client_so carrier = at (nat_lt due.ordinal (suc client.taken)) refl where
                at : (b : Bool) → nat_lt due.ordinal (suc client.taken) ≡ b → due.ordinal < suc client.taken
                at true is_less = grind arith
                at false not_less =
                    let above : suc client.taken < suc due.ordinal = grind arith in
                    absurd (none-some l (sym (is.coming.unsent due.ordinal above)
                    ∙ (λ i. (view_on read_on).carriers (record { client = (sym client_so) i; ordinal = due.ordinal })) ∙ carrier))
        by (story.Prep m key text) same = aside_parted (aside_of same tt)
        by (story.Sync m command) same = aside_parted (aside_of same tt)
        by (story.Own command) same = aside_parted (aside_of same tt)
        by (story.End m) same = aside_parted (aside_of same tt)
        by (story.Capture m) same = aside_parted (aside_of same tt)

      clients_parted : (client : tales.Client) → IsAt read_on t client → IsAt after t client
      clients_parted client is = by (name_for asking.purpose) refl where
        by : (name : Option SessionName) → name_for asking.purpose ≡ name → IsAt after t client
        by None of = at_nobody laws stay read_on t l reply question stage_now client (names ∙ of) is
        by (Some n) of =
            at_same laws stay read_on t l reply question stage_now n (names ∙ of) client (λ row its found row_is. client_parted n of client row its row_is) is

      pub parted_stands : IsRowIn g.setup g.codes g.plan (with_story (Heard l reply ∷ ran_tale.story) wires g.tale) l new → StandsBut after row_table
      parted_stands row_is =
          untold_so laws stay carried_law homed_law service g t stands l server there to_server kept fine heard_wire new reply question stage_now was.there
          (λ client is. clients_parted client is) (server_so row_table row_is) carried_on

    -- Of a present one it is told.

    some_is : {A : Type 0} (a b : A) → Some a ≡ Some b → a ≡ b
    some_is a b same = cc

    module _ (mine : server.row.left ≡ None) (n : SessionName) (of : name_for asking.purpose ≡ Some n) where
      named_so : asked_for question ≡ Some n
      named_so = names ∙ of

      -- whose row that is
      pub record IsIts (client : tales.Client) (row : Client) : Type 0 where
        pub name : n ≡ name_at_desk row.desk n.hostgroup
        pub rows : HasRow row.desk.sessions n.hostgroup

      its_so : (client : tales.Client) (row : Client) → client.number ≡ n.client → t.clients client.number ≡ Some row → IsClient read_on client row → IsIts client row
      its_so client row its found is =
          let home = stands.homes.home l server n there (carried_by n of) mine kept in
          let row_is : home.0 ≡ row = some_is home.0 row (sym home.1 ∙ ap t.clients (sym its) ∙ found) in
          let life : (session_of row.desk n.hostgroup).life ≡ n.life = ap (λ (r : Client). (session_of r.desk n.hostgroup).life) (sym row_is) ∙ home.3 in
          let at_home : (session_of row.desk n.hostgroup).home ≡ Some l = ap (λ (r : Client). (session_of r.desk n.hostgroup).home) (sym row_is) ∙ home.2 in
          record {
            name = λ i. record { client = (sym its ∙ sym is.who.number) i; hostgroup = n.hostgroup; life = (sym life) i };
            rows = laws.rows g.setup.reads (view_on read_on) client.number row.desk is.desk n.hostgroup l
                (ap (λ (c : ClientNo). ((view_on read_on).held (name_at c n.hostgroup (session_of row.desk n.hostgroup).life)).home) is.desk.number
                ∙ ap (λ (h : Held). h.home) (is.desk.sessions.each n.hostgroup).held ∙ at_home);
          }

      abbrev answer : Answer
      answer = record { asking = asking; multiplex = row.multiplex; end = code_end end; number = number }

      abbrev law_answer : Option Bool → Answer
      law_answer multiplex = record { asking = asking; multiplex = multiplex; end = end_of reply; number = one_number reply.payloads }

      told_same : (multiplex : Option Bool) (desk : Desk)
          → told_of (record { asking = asking; multiplex = multiplex; end = code_end end; number = number }) n.hostgroup desk ≡ told_of (law_answer multiplex) n.hostgroup desk
      told_same multiplex desk = told_numbered asking multiplex (code_end end) reply number n.hostgroup desk end_is numbered

      -- the row of that client in the tale
      row_at : (row : Client) → t.clients n.client ≡ Some row → (client : tales.Client) × (client.number ≡ n.client) × IsClient read_on client row
      row_at row found =
          let are : AreClients read_on t = clients_read laws stay carried_law homed_law service g t stands l server there to_server kept fine heard_wire in
          let known = are.known n.client row found in
          let at : IsAt read_on t known.0 = each_of (IsAt read_on t) read_on known.0 known.1.seated are.each in
          (known.0, known.1.number, row_of read_on known.0 row (t.clients known.0.number) (ap t.clients known.1.number ∙ found) at.row)

      -- To a step of it, or to the question for its insert id.

      module _ (aside : IsAside question) where
        abbrev told_row : Client → Client
        told_row = at_desk (told_of answer n.hostgroup)

        desk_told : (client : tales.Client) (row : Client) → IsClient read_on client row → IsIts client row
            → IsDesk g.setup.reads (view_on after) client.number (told_of (law_answer server.row.multiplex) n.hostgroup row.desk)
        desk_told client row is its =
            laws.hears g.setup g.codes (view_on read_on) client.number row.desk is.desk l reply question asking server.row.multiplex n.hostgroup stage_now aside
            (named_so ∙ ap (λ (m : SessionName). Some m) its.name) was.asks refl its.rows

        client_told : (client : tales.Client) (row : Client) → client.number ≡ n.client → t.clients client.number ≡ Some row → IsClient read_on client row
            → IsClient after client (told_row row)
        client_told client row its found is =
            let here = its_so client row its found is in
            subst (λ (desk : Desk). IsClient after client (record row { desk = desk })) (sym (told_same server.row.multiplex row.desk))
            (aside_so laws read_on l reply question stage_now aside client row is (told_of (law_answer server.row.multiplex) n.hostgroup row.desk).sessions
            (desk_told client row is here))

        homes_told : (row : Client) → t.clients n.client ≡ Some row → KeepsHomes row (told_row row)
        homes_told row found =
            let at = row_at row found in
            let here = its_so at.0 row at.1 (ap t.clients at.1 ∙ found) at.2 in
            let settled = settled_so laws read_on l reply question stage_now at.0.number row.desk (told_of (law_answer server.row.multiplex) n.hostgroup row.desk).sessions
            at.2.desk (desk_told at.0 row at.2 here) in
            subst (λ (desk : Desk). KeepsHomes row (record row { desk = desk })) (sym (told_same server.row.multiplex row.desk))
            (record { home = settled.home; life = settled.life })

        shown_told : AreShown g t (client_changed n.client told_row t) l
        shown_told k other apart found row_is well here left asked m at code asks purpose is = which (client_now n.client told_row t m.client is.client is.there) where
          which : IsNow (client_changed n.client told_row t).clients told_row n.client m.client is.client → IsShown t (client_changed n.client told_row t) m is.client
          which now = at_which now.which where
            at_which : ((n.client ≡ m.client) × (now.now ≡ told_row is.client)) ⊎ (now.now ≡ is.client) → IsShown t (client_changed n.client told_row t) m is.client
            at_which (inl (same, is_now)) = record {
              now = now.now;
              there = now.there;
              first = ap (λ (r : Client). r.desk.seat.first) is_now;
              work = ap (λ (r : Client). r.desk.work) is_now;
              coming = ap (λ (r : Client). r.desk.seat.outbox.coming) is_now;
            }
            at_which (inr is_now) = record {
              now = now.now;
              there = now.there;
              first = ap (λ (r : Client). r.desk.seat.first) is_now;
              work = ap (λ (r : Client). r.desk.work) is_now;
              coming = ap (λ (r : Client). r.desk.seat.outbox.coming) is_now;
            }

        pub told_stands : IsRowIn g.setup g.codes g.plan (with_story (Heard l reply ∷ ran_tale.story) wires g.tale) l new
            → StandsBut after (client_changed n.client told_row row_table)
        told_stands row_is =
            told_so laws stay carried_law homed_law service g t stands l server there to_server kept fine heard_wire new reply question stage_now was.there
            n.client told_row (record { first = λ row. refl; work = λ row work is. is })
            (λ client is. at_changed laws stay read_on t l reply question stage_now n named_so told_row client
            (λ row its found row_is. client_told client row its found row_is) is)
            shown_told homes_told (server_so (client_changed n.client told_row row_table) row_is) carried_on

      -- To its client's statement.

      module _ (ordinal key : ℕ) (purpose : asking.purpose ≡ purposes.Statement n ordinal key) where
        abbrev last : List ℕ
        last = take used made

        abbrev replied_row : Client → Client
        replied_row = at_desk (replied_by answer n.hostgroup last)

        own : IsReplying g t l server.row asking n ordinal
        own = replying_so laws stay carried_law homed_law service g t stands l server there to_server kept fine mine asking n ordinal key asks_there purpose

        statement : IsStatementOf n ordinal question
        statement = statement_same g.codes n ordinal key question (subst (λ (p : Purpose). IsPurpose g.codes p question) purpose was.asks.purpose)

        multiplex_is : server.row.multiplex ≡ statement.due.multiplex
        multiplex_is =
            subst (λ (q : Question). OfStatement q (λ m due. server.row.multiplex ≡ due.multiplex)) statement.is
            (subst (λ (stage : view.Stage). rows.IsShared stage server.row.multiplex) was.there dues.shared)

        replied_same : (desk : Desk) → replied_by answer n.hostgroup last desk ≡ replied_by (law_answer statement.due.multiplex) n.hostgroup last desk
        replied_same desk =
            ap (λ (m : Option Bool). replied_by (record { asking = asking; multiplex = m; end = code_end end; number = number }) n.hostgroup last desk) multiplex_is
            ∙ ap (λ (d : Desk). done (moved_in asking (code_end end) (grown_by last d))) (told_same statement.due.multiplex desk)
            ∙ ap (λ (e : ReplyEnd). done (moved_in asking e (grown_by last (told_of (law_answer statement.due.multiplex) n.hostgroup desk)))) end_is

        abbrev kind : ReplyKind
        kind = kind_of asking.form

        number_is : due.number ≡ number_of g.plan (message_of n statement.due)
        number_is = (expected row.link).number ∙ own.number ∙ ap (own_number g n) (sym statement.ordinal_is)

        pieces : own.client.desk.seat.outbox.coming ++ last
            ≡ spellings own.client.desk.seat.first (renamed (owed_kind reply) (number_of g.plan (message_of n statement.due)) reply.payloads)
        pieces =
            ap (λ (came : List ℕ). came ++ last) (own.coming
            ∙ (λ i. renumbered (started (sought kind (reply_id wire) ((sym (expected row.link).first) i) ((sym (expected row.link).number) i))) wire.unread))
            ∙ pieces_are kind (reply_id wire) due.first due.number wire.unread bytes r
            (subst (λ (k : ReplyKind). IsRead (sought k (reply_id wire) due.first due.number) wire.unread r)
            (sym (read.kind_is laws stay carried_law homed_law service g t stands l server there to_server kept fine bytes are_bytes now entered r under_way asking was.stage))
            answer_read.read) (omega arith) all_bytes end rest ended
            ∙ ap (spellings due.first) (renamed_same g.setup.reads asking.form (command_of question) was.asks.form due.number reply.payloads)
            ∙ (λ i. spellings (((expected row.link).first ∙ sym own.first) i) (renamed (owed_kind reply) (number_is i) reply.payloads))

        client_replied : (client : tales.Client) (row : Client) → client.number ≡ n.client → t.clients client.number ≡ Some row → IsClient read_on client row
            → IsClient after client (replied_row row)
        client_replied client row its found is =
            let here = its_so client row its found is in
            let row_is : own.client ≡ row = some_is own.client row (sym own.there ∙ ap t.clients (sym its) ∙ found) in
            subst (λ (desk : Desk). IsClient after client (record row { desk = desk })) (sym (replied_same row.desk))
            (replied_so laws read_on l reply question stage_now client row is n statement.due statement.is asking
            (subst (λ (q : Question). IsAsking g.setup.reads g.codes asking q) statement.is was.asks)
            (ap (λ (q : Question). is_prepare (command_of q)) statement.is) own.work
            (ap (λ (r : Client). r.desk.work) (sym row_is) ∙ own.in_work) (statement.ordinal_is ∙ sym own.last) here.name here.rows last
            (subst (λ (r : Client). r.desk.seat.outbox.coming ++ last
            ≡ spellings r.desk.seat.first (renamed (owed_kind reply) (number_of g.plan (message_of n statement.due)) reply.payloads)) row_is pieces))

        desk_replied : (client : tales.Client) (row : Client) → client.number ≡ n.client → t.clients client.number ≡ Some row → IsClient read_on client row
            → IsSettled row.desk.lefts row.desk.sessions (told_of (law_answer statement.due.multiplex) n.hostgroup row.desk).sessions
        desk_replied client row its found is =
            let now_is : IsClient after client (record row { desk = replied_by (law_answer statement.due.multiplex) n.hostgroup last row.desk }) =
            subst (λ (desk : Desk). IsClient after client (record row { desk = desk })) (replied_same row.desk) (client_replied client row its found is) in
            sessions_settled laws read_on l reply question stage_now client.number row.desk.lefts row.desk.sessions
            (told_of (law_answer statement.due.multiplex) n.hostgroup row.desk).sessions is.desk.sessions now_is.desk.sessions

        homes_replied : (row : Client) → t.clients n.client ≡ Some row → KeepsHomes row (replied_row row)
        homes_replied row found =
            let at = row_at row found in
            let settled = desk_replied at.0 row at.1 (ap t.clients at.1 ∙ found) at.2 in
            subst (λ (desk : Desk). KeepsHomes row (record row { desk = desk })) (sym (replied_same row.desk))
            (record { home = settled.home; life = settled.life })

        first_kept : (row : Client) → (replied_row row).desk.seat.first ≡ row.desk.seat.first
        first_kept row = ap (λ (s : Seat). s.first) (moved_is asking.form (is_ok (code_end end)) (grown last row.desk.seat))

        pub replied_stands : IsRowIn g.setup g.codes g.plan (with_story (Heard l reply ∷ ran_tale.story) wires g.tale) l new
            → StandsBut after (client_changed n.client replied_row row_table)
        replied_stands row_is =
            told_so laws stay carried_law homed_law service g t stands l server there to_server kept fine heard_wire new reply question stage_now was.there
            n.client replied_row (record { first = first_kept; work = λ row work is. absurd (none-some work is) })
            (λ client is. at_changed laws stay read_on t l reply question stage_now n named_so replied_row client
            (λ row its found row_is. client_replied client row its found row_is) is)
            (shown_alone laws stay carried_law homed_law service g t stands l server there to_server kept fine heard_wire new mine asking n ordinal key asks_there purpose replied_row)
            homes_replied (server_so (client_changed n.client replied_row row_table) row_is) carried_on

    -- All of them.

    abbrev Goal : Option LeftSession → Purpose → Type 0
    Goal left purpose =
        StandsBut after (if is_some (option_map (left_behind asking row.multiplex (code_end end) number) left) then row_table
        else answered_for purpose (record { asking = asking; multiplex = row.multiplex; end = code_end end; number = number }) (take used made) row_table)

    module _ (row_is : IsRowIn g.setup g.codes g.plan (with_story (Heard l reply ∷ ran_tale.story) wires g.tale) l new) where
      aside_of : (purpose : Purpose) → asking.purpose ≡ purpose → is_stated purpose ≡ false → IsAside question
      aside_of purpose same not = aside_same g.codes asking.purpose question was.asks.purpose (ap is_stated same ∙ not)

      named_by : (purpose : Purpose) (n : SessionName) → asking.purpose ≡ purpose → name_for purpose ≡ Some n → name_for asking.purpose ≡ Some n
      named_by purpose n same is = ap name_for same ∙ is

      present_so : server.row.left ≡ None → (purpose : Purpose) → asking.purpose ≡ purpose → Goal None purpose
      present_so mine (purposes.Statement n ordinal key) same = replied_stands mine n (named_by (purposes.Statement n ordinal key) n same refl) ordinal key same row_is
      present_so mine (purposes.Prep n ordinal key) same =
          told_stands mine n (named_by (purposes.Prep n ordinal key) n same refl) (aside_of (purposes.Prep n ordinal key) same refl) row_is
      present_so mine (purposes.Sync n) same = told_stands mine n (named_by (purposes.Sync n) n same refl) (aside_of (purposes.Sync n) same refl) row_is
      present_so mine (purposes.End n) same = told_stands mine n (named_by (purposes.End n) n same refl) (aside_of (purposes.End n) same refl) row_is
      present_so mine (purposes.Capture n) same = told_stands mine n (named_by (purposes.Capture n) n same refl) (aside_of (purposes.Capture n) same refl) row_is
      present_so mine purposes.Own same =
          untold_so laws stay carried_law homed_law service g t stands l server there to_server kept fine heard_wire new reply question stage_now was.there
          (λ client is. at_nobody laws stay read_on t l reply question stage_now client (names ∙ ap name_for same) is) (server_so row_table row_is) carried_on

      by_left : (left : Option LeftSession) → server.row.left ≡ left → Goal left asking.purpose
      by_left None mine = present_so mine asking.purpose refl
      by_left (Some left) gone = parted_stands left gone row_is

    pub ended_so : IsLawful g.setup heard_tale.story → IsRowIn g.setup g.codes g.plan heard_tale l new
        → StandsBut (on g heard_tale) (told_to new (news.Whole asking (code_end end) number used) made row_table)
    ended_so =
        subst (λ (T : Tale). IsLawful g.setup (tell (Heard l reply) T).story → IsRowIn g.setup g.codes g.plan (tell (Heard l reply) T) l new
        → StandsBut (on g (tell (Heard l reply) T)) (told_to new (news.Whole asking (code_end end) number used) made row_table))
        (sym (tale_form g.tale l heard_wire (seen.links l).stage))
        (λ lawful row_is. by_left row_is server.row.left refl)
