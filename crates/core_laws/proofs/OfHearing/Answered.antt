-- What bytes on a link say of a client's statement: its reply was read whole, or nothing of it is told.
use Rattle.std.specs.Prelude.{◌≡◌, ◌⊎◌, ℕ, Bool, true, false, is_some, if◌then◌else◌, List, Option, Some, None, Ok}
use Rattle.std.specs.Option.{option_map}
use Rattle.std.proofs.Common.{refl, sym, ap, ◌∙◌, subst, inl, inr}
use Rattle.std.proofs.lemmas.Bool.{true≢false}
use Rattle.mx_base.specs.Fields.{AreBytes}
use Rattle.client_session.specs.Setups.{Setup as Service}
use Rattle.server_side.specs.Hearing as hearing
use Rattle.server_side.specs.Hearing.{Got, entered_of}
use Rattle.server_side.specs.declared.hear.Heard.{Heard}
use Rattle.server_side.specs.declared.hear.Heard.TheVariants as said
use Rattle.reply_track.specs.declared.reply.ReplyEnd as track_end
use Rattle.reply_track.specs.Runs.Ending.{Ended, Going}
use Rattle.reply_track.specs.Runs.{run}
use Rattle.reply_track.specs.declared.place.State.{State}
use Rattle.reply_track.specs.declared.reply.ReplyKind.{ReplyKind}
use Rattle.session_state.specs.declared.reply_end.ReplyEnd.{ReplyEnd}
use Rattle.private_model.specs.Commands.{Reply, end_of, is_prepare}
use Rattle.private_model.specs.Names.{LinkId, MessageName, SessionName}
use Rattle.private_model.specs.Story as story
use Rattle.private_model.specs.Story.{Due, Question, is_message, message_of}
use Rattle.server_rule.specs.Classes.{Reads}
use Rattle.private_model.specs.View as view
use Rattle.private_model.specs.View.{View, view_heard}
use Rattle.log_story.specs.Servers.{read_as}
use Rattle.log_story.specs.Tale.{Tale, is_to_server, view_of}
use Rattle.log_story.specs.Telling.{server_says, wire_with}
use Rattle.link_state.specs.declared.asking.Asking.{Asking}
use Rattle.link_state.specs.declared.asking.Purpose.{Purpose}
use Rattle.link_state.specs.declared.asking.Purpose.TheVariants as purposes
use Rattle.link_state.specs.declared.state.Stage.{Stage}
use Rattle.link_state.specs.declared.state.Stage.TheVariants as stages
use Rattle.link_laws.specs.Stands.{Codes, IsAsking, IsPurpose}
use Rattle.lent_link.specs.Hears.{expecting}
use Rattle.lent_link.specs.Reads.{end_of as code_end}
use Rattle.lent_link.specs.Rests.{is_resetting}
use Rattle.lent_link.specs.declared.reading.Reading.{Reading}
use Rattle.lent_link.specs.Links.{is_in}
use Rattle.served_link.specs.Hears.{heard, news_of, part_news}
use Rattle.served_link.specs.Notes.{left_behind}
use Rattle.served_link.specs.Reads.{EntersBy, HearsBy, ReadsIn, login_news, used_at}
use Rattle.served_link.specs.declared.news.News.{News}
use Rattle.served_link.specs.declared.news.News.TheVariants as news
use Rattle.served_link.specs.declared.row.LeftSession.{LeftSession}
use Rattle.served_link.specs.declared.row.Row.{Row}
use Rattle.row_laws.proofs.Hearing.{IsAnswered}
use Rattle.row_laws.proofs.Opening.{enters_in, serves_in}
use Rattle.row_laws.specs.Rows.{Enters, IsShared, Serves}
use Rattle.row_laws.specs.Whose.{OfStatement}
use Rattle.core_tables.specs.Hearing.{IsReading}
use Rattle.core_tables.specs.Tables.{Tabled}
use Rattle.core_tables.specs.declared.server.Server.{Server}
use Rattle.core_stands.specs.Grounds.{Ground, view_on}
use Rattle.core_stands.specs.Servers.{IsServer}
use Rattle.core_stands.specs.Stands.{Stands}
use Rattle.core_laws.proofs.OfHearing.Behind.{awaited}
use Rattle.core_laws.proofs.OfHearing.Elsewhere.{CarriedLaw, HomedLaw}
use Rattle.core_laws.proofs.OfHearing.Ended.{end_is}
use Rattle.core_laws.proofs.OfHearing.Kept.{AsksAt}
use Rattle.core_laws.proofs.OfHearing.Laws.{DeskLaws, OthersStay}
use Rattle.core_laws.proofs.OfHearing.Preparing.{ran_view, same_so, says_replies}
use Rattle.core_laws.proofs.OfHearing.Spelled.{NumbersAreRead}
use Rattle.core_laws.proofs.OfHearing.Standing.{server_is}
use Rattle.core_laws.proofs.OfHearing.Telling as told
use Rattle.core_laws.proofs.OfHearing.Whole.{is_stated}

-- the reply to what stood there, as it is told
pub record IsReplied (g : Ground) (l : LinkId) (at : Stage) (before : Option LeftSession) (T : Tale) (new : Row) (told_news : News) : Type 0 where
  pub n : SessionName
  pub due : Due
  pub stood : ((ran_view g l).links l).stage ≡ view.Answered (story.Statement n due)
  pub reply : Reply
  pub prepares : reply.to_prepare ≡ is_prepare due.command
  pub replies : (m : MessageName) → (view_of g.setup T).replies m ≡ (if is_message m (message_of n due) then Some reply else (view_on g).replies m)
  pub asking : Asking
  pub is : IsAsking g.setup.reads g.codes asking (story.Statement n due)
  pub asks : AsksAt at asking
  pub number : Option ℕ
  pub used : ℕ
  pub says : told_news ≡ news.Whole asking (end_of reply) number used
  pub left : is_some new.left ≡ is_some before
  pub multiplex : new.multiplex ≡ due.multiplex

pub record IsUnreplied (g : Ground) (T : Tale) (told_news : News) : Type 0 where
  pub replies : (m : MessageName) → (view_of g.setup T).replies m ≡ (view_on g).replies m
  pub says : (asking : Asking) (end : ReplyEnd) (number : Option ℕ) (used : ℕ) → told_news ≡ news.Whole asking end number used
      → is_stated asking.purpose ≡ false

-- What tells of no statement.

part_other : (stage : Stage) (asking : Asking) (end : ReplyEnd) (number : Option ℕ) (used : ℕ) → part_news stage ≡ news.Whole asking end number used → ⊥
part_other stages.Quiet asking end number used same = absurd (cc)
part_other (stages.Asked at) asking end number used same = absurd (cc)
part_other (stages.Answered at) asking end number used same = by at.purpose same where
  by : (purpose : Purpose) → part_news (stages.Answered (record at { purpose = purpose })) ≡ news.Whole asking end number used → ⊥
  by (purposes.Statement n ordinal key) same = absurd (cc)
  by (purposes.Prep n ordinal key) same = absurd (cc)
  by (purposes.Sync n) same = absurd (cc)
  by purposes.Own same = absurd (cc)
  by (purposes.End n) same = absurd (cc)
  by (purposes.Capture n) same = absurd (cc)

login_other : (heard : Heard) (asking : Asking) (end : ReplyEnd) (number : Option ℕ) (used : ℕ) → login_news heard ≡ news.Whole asking end number used → ⊥
login_other said.LoggedIn asking end number used same = absurd (cc)
login_other said.Quiet asking end number used same = absurd (cc)
login_other (said.Part count) asking end number used same = absurd (cc)
login_other (said.Whole count) asking end number used same = absurd (cc)

enters_other : (told_news : News) (new : Row) (got : Got) (old : Row) → EntersBy told_news new got old
    → (asking : Asking) (end : ReplyEnd) (number : Option ℕ) (used : ℕ) → told_news ≡ news.Whole asking end number used → ⊥
enters_other told_news new (hearing.Hears heard login) old is asking end number used same =
    login_other heard asking end number used (sym is.0 ∙ same)
enters_other told_news new (hearing.Fails fault) old is asking end number used same = (let no = sym is.tells ∙ same in absurd (cc))

unstated : (codes : Codes) (purpose : Purpose) (question : Question) → IsPurpose codes purpose question
    → ((n : SessionName) (due : Due) → question ≡ story.Statement n due → ⊥) → is_stated purpose ≡ false
unstated codes (purposes.Prep name ordinal key) question is aside = refl
unstated codes (purposes.Sync name) question is aside = refl
unstated codes purposes.Own question is aside = refl
unstated codes (purposes.End name) question is aside = refl
unstated codes (purposes.Capture name) question is aside = refl
unstated codes (purposes.Statement name ordinal key) (story.Statement n due) is aside = absurd (aside n due refl)
unstated codes (purposes.Statement name ordinal key) (story.Prep n prepared text) is aside = absurd is
unstated codes (purposes.Statement name ordinal key) (story.Sync n command) is aside = absurd is
unstated codes (purposes.Statement name ordinal key) (story.Own command) is aside = absurd is
unstated codes (purposes.Statement name ordinal key) (story.End n) is aside = absurd is
unstated codes (purposes.Statement name ordinal key) (story.Capture n) is aside = absurd is

-- what a rule said of sharing the link, once its statement has run
shared_then : (reads : Reads) (stage : view.Stage) (link : view.Link) (multiplex : Option Bool) (n : SessionName) (due : Due) → link.stage ≡ stage
    → IsShared stage multiplex → (view.ran_by reads stage link).stage ≡ view.Answered (story.Statement n due) → multiplex ≡ due.multiplex
shared_then reads view.Quiet link multiplex n due at is ran = absurd (let none = sym at ∙ ran in cc)
shared_then reads (view.Asked question) link multiplex n due at is ran =
    let same : question ≡ story.Statement n due = cc in
    subst (λ (q : Question). OfStatement q (λ n due. multiplex ≡ due.multiplex)) same is
shared_then reads (view.Answered question) link multiplex n due at is ran =
    let there = sym at ∙ ran in
    let same : question ≡ story.Statement n due = cc in
    subst (λ (q : Question). OfStatement q (λ n due. multiplex ≡ due.multiplex)) same is

some_mapped : {A : Type 0} (f : A → A) (o : Option A) → is_some (option_map f o) ≡ is_some o
some_mapped f None = refl
some_mapped f (Some a) = refl

module _ (laws : DeskLaws) (stay : OthersStay) (carried_law : CarriedLaw) (homed_law : HomedLaw) (numbers : NumbersAreRead)
    (service : Service) (g : Ground) (t : Tabled) (stands : Stands service g t) (l : LinkId) (server : Server) (there : t.links l ≡ Some server)
    (to_server : is_to_server g.tale l ≡ true) (kept : server.row.lost ≡ false) (fine : server.row.link.spoilt ≡ false)
    (bytes : List ℕ) (are_bytes : AreBytes bytes) (now : ℕ) where
  abbrev row : Row
  row = used_at now server.row

  abbrev after : Tale
  after = server_says g.setup g.plan l bytes g.tale

  abbrev is_server : IsServer g t l server.row
  is_server = server_is laws stay carried_law homed_law service g t stands l server there to_server kept fine

  abbrev pub Says : Tale → Row → News → Type 0
  Says T new told_news = IsReplied g l server.row.link.state.stage server.row.left T new told_news ⊎ IsUnreplied g T told_news

  module _ (entered : (g.tale.wires l).entered ≡ true) where
    shared_here : IsShared ((view_on g).links l).stage row.multiplex
    shared_here =
        (serves_in g.setup.reads g.codes (g.plan.logins l) (view_on g) server.row (g.tale.wires l) ((view_on g).links l) entered is_server.row).shared

    -- a reply is read whole

    module _ (r : Reading) (under_way : (expecting row.link).reading ≡ Some r) (plain : is_resetting (expecting row.link).step ≡ false)
        (end : track_end.ReplyEnd) (rest : List ℕ) where
      abbrev was : IsAnswered g.setup.reads g.codes (told.kind g.setup g.codes g.plan g.tale l row bytes is_server.row entered fine are_bytes r under_way)
          (expecting row.link).state.stage (view.ran_by g.setup.reads ((view_on g).links l).stage ((view_on g).links l)).stage
      was = told.is g.setup g.codes g.plan g.tale l row bytes is_server.row entered fine are_bytes r under_way plain

      abbrev reply : Reply
      reply = told.reply_with g.setup g.codes g.plan g.tale l row bytes is_server.row entered fine are_bytes r under_way plain rest

      abbrev heard_tale : Tale
      heard_tale = told.heard_tale g.setup g.codes g.plan g.tale l row bytes is_server.row entered fine are_bytes r under_way plain rest

      stage_now : ((ran_view g l).links l).stage ≡ view.Answered was.question
      stage_now = told.stage_now g.setup g.codes g.plan g.tale l row bytes is_server.row entered fine are_bytes r under_way plain

      replied : (question : Question) → was.question ≡ question → (m : MessageName)
          → (view_of g.setup heard_tale).replies m ≡ (view_heard g.setup (ran_view g l) l reply (view.Answered question)).replies m
      replied question same m =
          ap (λ (s : view.Stage). (view_heard g.setup (ran_view g l) l reply s).replies m) (stage_now ∙ ap (λ (q : Question). view.Answered q) same)

      module _ (number : Option ℕ) (used : ℕ) (new : Row) (left : is_some new.left ≡ is_some server.row.left) (shared : new.multiplex ≡ row.multiplex)
          (end_so : code_end end ≡ end_of reply) where
        abbrev Goal : Type 0
        Goal = Says heard_tale new (news.Whole was.asking (code_end end) number used)

        aside_so : (question : Question) → was.question ≡ question
            → ((m : MessageName) → (view_heard g.setup (ran_view g l) l reply (view.Answered question)).replies m ≡ (ran_view g l).replies m)
            → ((n : SessionName) (due : Due) → question ≡ story.Statement n due → ⊥) → Goal
        aside_so question same replies aside = inr (record {
          replies = λ m. replied question same m ∙ replies m ∙ same_so g l m;
          says = λ asking told_end told_number told_used is.
              let asked : was.asking ≡ asking = cc in
              ap (λ (a : Asking). is_stated a.purpose) (sym asked)
              ∙ unstated g.codes was.asking.purpose was.question was.asks.purpose (λ n due at. aside n due (sym same ∙ at));
        })

        by_question : (question : Question) → was.question ≡ question → Goal
        by_question (story.Statement n due) same = inl (record {
          n = n;
          due = due;
          stood = stage_now ∙ ap (λ (q : Question). view.Answered q) same;
          reply = reply;
          prepares = ap (λ (q : Question). is_prepare (story.command_of q)) same;
          replies = λ m. replied (story.Statement n due) same m
              ∙ ap (λ (o : Option Reply). if is_message m (message_of n due) then Some reply else o) (same_so g l m);
          asking = was.asking;
          is = subst (λ (q : Question). IsAsking g.setup.reads g.codes was.asking q) same was.asks;
          asks = (awaited row.link).asks was.asking was.stage;
          number = number;
          used = used;
          says = ap (λ (e : ReplyEnd). news.Whole was.asking e number used) end_so;
          left = left;
          multiplex = shared
              ∙ shared_then g.setup.reads ((view_on g).links l).stage ((view_on g).links l) row.multiplex n due refl shared_here
              (was.there ∙ ap (λ (q : Question). view.Answered q) same);
        })
        by_question (story.Prep n key text) same = aside_so (story.Prep n key text) same (λ m. refl) (λ m due is. absurd (cc))
        by_question (story.Sync n command) same = aside_so (story.Sync n command) same (λ m. refl) (λ m due is. absurd (cc))
        by_question (story.Own command) same = aside_so (story.Own command) same (λ m. refl) (λ m due is. absurd (cc))
        by_question (story.End n) same = aside_so (story.End n) same (λ m. refl) (λ m due is. absurd (cc))
        by_question (story.Capture n) same = aside_so (story.Capture n) same (λ m. refl) (λ m due is. absurd (cc))

    -- or not

    quiet_so : (T : Tale) (new : Row) (told_news : News) → ((m : MessageName) → (view_of g.setup T).replies m ≡ (ran_view g l).replies m)
        → ((asking : Asking) (end : ReplyEnd) (number : Option ℕ) (used : ℕ) → told_news ≡ news.Whole asking end number used → ⊥)
        → Says T new told_news
    quiet_so T new told_news replies other = inr (record {
      replies = λ m. replies m ∙ same_so g l m;
      says = λ asking end number used same. absurd (other asking end number used same);
    })

    read_so : Says after (heard bytes row) (news_of bytes row)
    read_so =
        told.read_so g.setup g.codes g.plan g.tale l row bytes is_server.row entered fine are_bytes
        (λ (T : Tale) (new : Row) (told_news : News) (given : List ℕ). Says T new told_news)
        (λ place given. quiet_so _ _ _ (λ m. refl) (λ asking end number used same. absurd (cc)))
        (λ r under_way state goes. quiet_so _ _ _ (λ m. refl) (part_other (expecting row.link).state.stage))
        (λ r under_way end rest quiet. quiet_so _ _ _ (λ m. refl) (λ asking end number used same. absurd (cc)))
        (λ r under_way plain end rest ended law.
        by_question r under_way plain end rest _ _ _ (some_mapped (left_behind (was r under_way plain end rest).asking row.multiplex (code_end end) _) server.row.left) refl
        (end_is laws stay carried_law homed_law numbers service g t stands l server there to_server kept fine bytes are_bytes now entered r under_way plain end rest ended
        (ap (λ (k : ReplyKind). read_as k (wire_with g.tale l bytes)) (was r under_way plain end rest).form_kind ∙ law))
        (was r under_way plain end rest).question refl)

  hears_so : (reading : IsReading server.row bytes now) → (g.tale.wires l).entered ≡ true → Says after reading.row reading.news
  hears_so reading entered =
      let serves : Serves g.setup.reads g.codes (g.plan.logins l) (view_on g) server.row (g.tale.wires l) ((view_on g).links l) =
      serves_in g.setup.reads g.codes (g.plan.logins l) (view_on g) server.row (g.tale.wires l) ((view_on g).links l) entered is_server.row in
      let inside : is_in server.row.link.login.stage ≡ true = ap is_in serves.inside in
      let hears : HearsBy reading.news reading.row reading.made row bytes =
      subst (λ (b : Bool). ReadsIn b (Ok reading.news) reading.row reading.made row bytes) inside reading.reads in
      subst (λ (new : Row). Says after new reading.news) (sym hears.row)
      (subst (λ (told_news : News). Says after (heard bytes row) told_news) (sym hears.tells) (read_so entered))

  enters_so : (reading : IsReading server.row bytes now) → (g.tale.wires l).entered ≡ false → Says after reading.row reading.news
  enters_so reading outside =
      let enters : Enters (g.plan.logins l) server.row (g.tale.wires l) ((view_on g).links l) =
      enters_in g.setup.reads g.codes (g.plan.logins l) (view_on g) server.row (g.tale.wires l) ((view_on g).links l) outside is_server.row in
      let by : EntersBy reading.news reading.row (entered_of bytes row.link.login) row =
      subst (λ (b : Bool). ReadsIn b (Ok reading.news) reading.row reading.made row bytes) enters.outside reading.reads in
      inr (record {
        replies = λ m. elim (says_replies g l bytes m) [
          | inl same ↦ same
          | inr stood ↦ absurd (true≢false (sym stood.entered ∙ outside))
        ];
        says = λ asking end number used same.
            absurd (enters_other reading.news reading.row (entered_of bytes row.link.login) row by asking end number used same);
      })

  pub says_so : (reading : IsReading server.row bytes now) → Says after reading.row reading.news
  says_so reading = at (g.tale.wires l).entered refl where
    at : (b : Bool) → (g.tale.wires l).entered ≡ b → Says after reading.row reading.news
    at true entered = hears_so reading entered
    at false outside = enters_so reading outside
