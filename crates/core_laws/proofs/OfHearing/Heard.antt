-- Bytes are read behind the login: the tables stand, in each case.
use Rattle.std.specs.Prelude.{◌≡◌, ◌⊎◌, ◌-◌, ℕ, Bool, true, false, ◌||◌, nat_lt, is_some, if◌then◌else◌, List, [], ◌++◌, length, Option, Some, None}
use Rattle.std.proofs.Common.{refl, sym, ap, ◌∙◌, subst, inl, inr}
use Rattle.std.specs.Option.{option_map}
use Rattle.std.proofs.lemmas.Bool.{false≢true, true≢false}
use Rattle.std.proofs.lemmas.Option.{none-some}
use Rattle.mx_base.specs.Fields.{AreBytes}
use Rattle.reply_track.proofs.Replying.{renumbered-more}
use Rattle.reply_track.specs.Runs.{renumbered, run}
use Rattle.reply_track.specs.Runs.Ending.{Going}
use Rattle.reply_track.specs.Tracking.{started}
use Rattle.reply_track.specs.declared.place.State.{State}
use Rattle.reply_track.specs.declared.reply.ReplyEnd as track_end
use Rattle.reply_track.specs.declared.reply.ReplyKind.{ReplyKind}
use Rattle.client_session.specs.Setups.{Setup as Service}
use Rattle.private_model.specs.Lawful.{IsLawful}
use Rattle.private_model.specs.Names.{LinkId, SessionName}
use Rattle.server_rule.specs.Classes.{Reads}
use Rattle.private_model.specs.View as view
use Rattle.private_model.specs.View.{Link, View, ran_by}
use Rattle.log_story.specs.Servers.{reply_id, with_run}
use Rattle.log_story.specs.Tale.{Tale, Wire, is_to_server, view_of, with_wire}
use Rattle.log_story.specs.Telling.{wire_with}
use Rattle.link_state.specs.Asks.{kind_of}
use Rattle.link_state.specs.Dones.{is_quiet}
use Rattle.link_state.specs.declared.asking.Asking.{Asking}
use Rattle.link_state.specs.declared.asking.Purpose.{Purpose}
use Rattle.link_state.specs.declared.asking.Purpose.TheVariants as purposes
use Rattle.link_state.specs.declared.state.Stage.{Stage}
use Rattle.link_state.specs.declared.state.Stage.TheVariants.{Quiet, Asked, Answered}
use Rattle.lent_link.specs.Hears.{expecting}
use Rattle.lent_link.specs.Reads.{walked}
use Rattle.lent_link.specs.declared.link.Begins.{Begins}
use Rattle.lent_link.specs.declared.link.Step.{Step}
use Rattle.lent_link.specs.declared.link.Step.TheVariants.{Other, Closes, Resets}
use Rattle.lent_link.specs.declared.link.LentLink.{LentLink}
use Rattle.lent_link.specs.declared.reading.Reading.{Reading}
use Rattle.served_link.specs.Hears.{part_for, part_news, seen as cell_seen}
use Rattle.served_link.specs.Reads.{used_at}
use Rattle.served_link.specs.declared.news.News.{News}
use Rattle.served_link.specs.declared.news.News.TheVariants as news
use Rattle.served_link.specs.declared.row.LeftSession.{LeftSession}
use Rattle.served_link.specs.declared.row.Row.{Row}
use Rattle.row_laws.specs.Rows.{IsRowIn, Serves}
use Rattle.row_laws.specs.Unread.{IsAnswering, kind_due, sought}
use Rattle.row_laws.specs.Written.{is_other}
use Rattle.private_model.proofs.Maps.{same_number}
use Rattle.row_laws.specs.Whose.{IsOwn, name_in}
use Rattle.row_laws.proofs.Hearing.{answering}
use Rattle.row_laws.proofs.Opening.{put_there}
use Rattle.row_laws.proofs.Seeing.{ran_parts}
use Rattle.core_tables.specs.Hearing.{at_desk, grown_by, told_by, told_to, with_row}
use Rattle.core_tables.specs.Tables.{Tabled, client_changed, link_changed}
use Rattle.core_tables.specs.declared.client.Client.{Client}
use Rattle.core_tables.specs.declared.server.Server.{Server}
use Rattle.core_stands.specs.Grounds.{Ground, on, view_on}
use Rattle.core_stands.specs.Servers.{IsNextOf, IsPartedAt, IsPartedFor, IsReplying, IsReplyingAt, IsReplyingFor, IsServer, IsTakenUp, IsAhead, OfLent, is_stating}
use Rattle.core_stands.specs.Stands.{Stands}
use Rattle.core_laws.proofs.OfHearing.Behind.{awaited, lent_due, next_none, next_on}
use Rattle.core_laws.proofs.OfHearing.Elsewhere.{CarriedLaw, HomedLaw}
use Rattle.core_laws.proofs.OfHearing.Expected.{expected}
use Rattle.core_laws.proofs.OfParting.Ahead.{ahead_same}
use Rattle.core_laws.proofs.OfHearing.Homing.{KeepsCarried}
use Rattle.core_laws.proofs.OfHearing.Kept.{AsksAt, with_story}
use Rattle.core_laws.proofs.OfHearing.Laws.{DeskLaws, OthersStay}
use Rattle.core_laws.proofs.OfHearing.Parted.{parted_at}
use Rattle.core_laws.proofs.OfHearing.Standing.{StandsBut, near, part_so, quiet_so, replying_so, server_is, standing_read, tale_form}
use Rattle.core_laws.proofs.OfHearing.Telling as told

-- what a link was told stays so as its question runs
told_ran : (reads : Reads) (link : Link) (stage : view.Stage) → (ran_by reads stage link).told ≡ link.told
told_ran reads link view.Quiet = refl
told_ran reads link (view.Asked question) = refl
told_ran reads link (view.Answered question) = refl

-- a choice between the same
if_same : (b : Bool) (x : Tabled) → (if b then x else x) ≡ x
if_same true x = refl
if_same false x = refl

module _ (laws : DeskLaws) (stay : OthersStay) (carried_law : CarriedLaw) (homed_law : HomedLaw)
    (service : Service) (g : Ground) (t : Tabled) (stands : Stands service g t) (l : LinkId) (server : Server) (there : t.links l ≡ Some server)
    (to_server : is_to_server g.tale l ≡ true) (kept : server.row.lost ≡ false) (fine : server.row.link.spoilt ≡ false)
    (bytes : List ℕ) (are_bytes : AreBytes bytes) (now : ℕ) (entered : (g.tale.wires l).entered ≡ true) where
  abbrev row : Row
  row = used_at now server.row

  abbrev is_server : IsServer g t l server.row
  is_server = server_is laws stay carried_law homed_law service g t stands l server there to_server kept fine

  row_in : IsRowIn g.setup g.codes g.plan g.tale l row
  row_in = is_server.row

  abbrev due : LentLink
  due = expecting row.link

  abbrev fed : Wire
  fed = wire_with g.tale l bytes

  abbrev ran_tale : Tale
  ran_tale = with_run g.setup l g.tale

  abbrev seen : View
  seen = view_on g

  abbrev ran_link : Link
  ran_link = ran_by g.setup.reads (seen.links l).stage (seen.links l)

  dues : Serves g.setup.reads g.codes (g.plan.logins l) seen (record row { link = due }) (g.tale.wires l) ran_link
  dues = told.dues g.setup g.codes g.plan g.tale l row bytes row_in entered fine are_bytes

  well : due.spoilt ≡ false
  well = told.well g.setup g.codes g.plan g.tale l row bytes row_in entered fine are_bytes

  ran_is : (view_of g.setup ran_tale).links l ≡ ran_link
  ran_is = told.ran_is g.setup g.codes g.plan g.tale l row bytes row_in entered fine are_bytes

  abbrev put_wire : Wire → LinkId → Wire
  put_wire w = (with_wire l w g.tale).wires

  abbrev read_on : Wire → Ground
  read_on w = on g (with_story ran_tale.story (put_wire w) g.tale)

  abbrev P : Tale → Row → News → List ℕ → Type 0
  P T new said given =
      IsLawful g.setup T.story → IsRowIn g.setup g.codes g.plan T l new → StandsBut (on g T) (told_to new said given (link_changed l (with_row new) t))

  -- where only the wire is another, but for what ran
  by_form : (w : Wire) (new : Row) (said : News) (given : List ℕ) → P (with_story ran_tale.story (put_wire w) g.tale) new said given → P (with_wire l w ran_tale) new said given
  by_form w new said given is = subst (λ (T : Tale). P T new said given) (sym (tale_form g.tale l w (seen.links l).stage)) is

  -- what is due where it is lent stays so
  lent_now : (w : Wire) → row.lost ≡ false → row.left ≡ None → is_stating due.state.stage ≡ false
      → OfLent due.state.carries (IsAhead (view_on (read_on w)))
  lent_now w here mine unstated =
      ahead_same seen (view_on (read_on w)) due.state.carries
      (near laws stay carried_law homed_law service g t stands l server there to_server kept fine w).dues
      (lent_due seen row.link (is_server.lent here mine) unstated)

  live_same : ran_link.live ≡ (seen.links l).live
  live_same = (ran_parts g.setup.reads (seen.links l)).live

  told_same : ran_link.told ≡ (seen.links l).told
  told_same = told_ran g.setup.reads (seen.links l) (seen.links l).stage

  -- whom it carries
  pub carries_due : name_in due.state.carries ≡ name_in server.row.link.state.carries
  carries_due = (awaited row.link).carries own where
    own : IsOwn row.link.state.stage row.link.state.carries
    own = (told.stands g.setup g.codes g.plan g.tale l row bytes row_in entered fine are_bytes).own

  -- where an answer is read nothing is to begin

  pub none_next : (r : Reading) → due.reading ≡ Some r → due.next ≡ None
  none_next r under_way =
      by (next_none g.setup.reads g.codes (g.plan.logins l) seen (record row { link = due }) (g.tale.wires l) ran_link dues well r under_way bytes) where
        by : ((kind : ReplyKind) → kind_due due.step due.state.stage ≡ Some kind → ⊥) ⊎ (due.next ≡ None) → due.next ≡ None
        by (inl undue) =
            let read = answering g.setup.reads g.codes (g.plan.logins l) seen (record row { link = due }) (g.tale.wires l) ran_link dues well bytes r under_way are_bytes in
            absurd (undue read.kind read.is_due)
        by (inr none) = none

  -- what stands there for a session that was left, is what stood there

  taken_on : {n : SessionName} {ordinal : ℕ} (w : Wire) → IsTakenUp g n ordinal → IsTakenUp (read_on w) n ordinal
  taken_on w is = record { client = is.client; seated = is.seated; number = is.number; by_now = is.by_now }

  parted_for : (w : Wire) (purpose : Purpose) → IsPartedFor purpose g → IsPartedFor purpose (read_on w)
  parted_for w (purposes.Statement n ordinal key) is = (is.0, taken_on w is.1)
  parted_for w (purposes.Prep n ordinal key) is = tt
  parted_for w (purposes.Sync n) is = tt
  parted_for w purposes.Own is = tt
  parted_for w (purposes.End n) is = tt
  parted_for w (purposes.Capture n) is = tt

  parted_due : (w : Wire) (stage : Stage) → due.state.stage ≡ stage → IsPartedAt row.link.state.stage g → IsPartedAt stage (read_on w)
  parted_due w Quiet same is = tt
  parted_due w (Answered asking) same is =
      parted_for w asking.purpose (parted_at g row.link.state.stage asking ((awaited row.link).asks asking same) is)
  parted_due w (Asked asking) same is =
      parted_for w asking.purpose (parted_at g row.link.state.stage asking ((awaited row.link).asked asking same) is)

  -- Bytes that nobody asked for, or with which no answer goes on.

  pub spoilt_so : (place : ℕ) (given : List ℕ) → P (with_wire l fed ran_tale) (record row { link = record due { spoilt = true } }) (news.Bad place) given
  spoilt_so place given =
      by_form fed (record row { link = record due { spoilt = true } }) (news.Bad place) given (λ lawful row_is.
      subst (λ (x : Tabled). StandsBut (read_on fed) x) (sym (if_same (is_some row.left) (link_changed l (with_row (record row { link = record due { spoilt = true } })) t)))
      (quiet_so laws stay carried_law homed_law service g t stands l server there to_server kept fine fed (record row { link = record due { spoilt = true } })
      (record {
        row = row_is;
        user = is_server.user;
        found_rows = is_server.found_rows;
        standing = standing_read laws stay carried_law homed_law service g t stands l server there to_server kept fine fed ran_is;
        next = subst (λ (next : Option Begins). IsNextOf next (read_on fed) (link_changed l (with_row (record row { link = record due { spoilt = true } })) t)
            (record row { link = record due { spoilt = true } }) ((view_on (read_on fed)).links l)) (sym (expected row.link).next)
            (next_on g ran_tale.story (put_wire fed) t (link_changed l (with_row (record row { link = record due { spoilt = true } })) t) server.row
            (record row { link = record due { spoilt = true } }) (seen.links l) ((view_on (read_on fed)).links l) (λ n ordinal from is. is)
            (near laws stay carried_law homed_law service g t stands l server there to_server kept fine fed).dues
            (expected row.link).writing (expected row.link).first (expected row.link).number refl refl (ap (λ (k : Link). k.live) ran_is ∙ live_same)
            (ap (λ (k : Link). k.told) ran_is ∙ told_same) server.row.link.next is_server.next);
        lent = lent_now fed;
        parted = λ whole. absurd (true≢false whole);
        replying = λ whole. absurd (true≢false whole);
      })
      (record { carries = carries_due; lost = refl; left = λ is. is; kept = λ is. is })))

  -- The answer goes on.

  module _ (r : Reading) (under_way : due.reading ≡ Some r) where
    abbrev made : List ℕ
    made = renumbered r.tracker.state bytes

    pub read : IsAnswering r (kind_due due.step due.state.stage) (reply_id (g.tale.wires l)) due.first due.number (g.tale.wires l).unread
    read = answering g.setup.reads g.codes (g.plan.logins l) seen (record row { link = due }) (g.tale.wires l) ran_link dues well bytes r under_way are_bytes

    -- what is answered was asked, and ran
    asked_not : (asking : Asking) → due.state.stage ≡ Asked asking → ⊥
    asked_not asking same = by due.step refl where
      clash : (kind : ReplyKind) → None ≡ Some kind → ⊥
      clash kind same = cc

      by : (step : Step) → due.step ≡ step → ⊥
      by Other at = clash read.kind (sym (λ i. kind_due (at i) (same i)) ∙ read.is_due)
      by (Closes number) at = clash read.kind (sym (λ i. kind_due (at i) (same i)) ∙ read.is_due)
      by (Resets number) at = false≢true (ap is_quiet (sym same) ∙ dues.stepless (ap is_other at))

    pub kind_is : (asking : Asking) → due.state.stage ≡ Answered asking → kind_of asking.form ≡ read.kind
    kind_is asking same = by due.step refl where
      some_kind : (a b : ReplyKind) → Some a ≡ Some b → a ≡ b
      some_kind a b same = cc

      by : (step : Step) → due.step ≡ step → kind_of asking.form ≡ read.kind
      by Other at = some_kind (kind_of asking.form) read.kind (sym (λ i. kind_due (at i) (same i)) ∙ read.is_due)
      by (Closes number) at = some_kind (kind_of asking.form) read.kind (sym (λ i. kind_due (at i) (same i)) ∙ read.is_due)
      by (Resets number) at = absurd (false≢true (ap is_quiet (sym same) ∙ dues.stepless (ap is_other at)))

    module _ (state : State) (goes : run r.tracker.state bytes ≡ Going state) where
      abbrev new : Row
      new = cell_seen made (record row { link = record due { reading = Some (walked (length bytes) r (Going state)) } })

      abbrev row_table : Tabled
      row_table = link_changed l (with_row new) t

      carried_on : KeepsCarried server (with_row new server)
      carried_on = record { carries = carries_due; lost = refl; left = λ is. is; kept = λ is. is }

      server_goes : (other : Tabled) → IsRowIn g.setup g.codes g.plan (with_story ran_tale.story (put_wire fed) g.tale) l new
          → (server.row.left ≡ None → IsReplyingAt due.state.stage (read_on fed) other l new) → IsServer (read_on fed) other l new
      server_goes other row_is replying = record {
        row = row_is;
        user = is_server.user;
        found_rows = is_server.found_rows;
        standing = standing_read laws stay carried_law homed_law service g t stands l server there to_server kept fine fed ran_is;
        next = subst (λ (next : Option Begins). IsNextOf next (read_on fed) other new ((view_on (read_on fed)).links l)) (sym (none_next r under_way)) tt;
        lent = lent_now fed;
        parted = λ whole here left. parted_due fed due.state.stage refl (is_server.parted fine kept left);
        replying = λ whole here mine. replying mine;
      }

      untold : IsRowIn g.setup g.codes g.plan (with_story ran_tale.story (put_wire fed) g.tale) l new
          → (server.row.left ≡ None → IsReplyingAt due.state.stage (read_on fed) row_table l new) → StandsBut (read_on fed) row_table
      untold row_is replying =
          quiet_so laws stay carried_law homed_law service g t stands l server there to_server kept fine fed new (server_goes row_table row_is replying) carried_on

      -- of a client's statement

      module _ (mine : server.row.left ≡ None) (asking : Asking) (at : due.state.stage ≡ Answered asking) (n : SessionName) (ordinal key : ℕ)
          (purpose : asking.purpose ≡ purposes.Statement n ordinal key) where
        asks : AsksAt server.row.link.state.stage asking
        asks = (awaited row.link).asks asking at

        own : IsReplying g t l server.row asking n ordinal
        own = replying_so laws stay carried_law homed_law service g t stands l server there to_server kept fine mine asking n ordinal key asks purpose

        abbrev grows : Client → Client
        grows = at_desk (grown_by made)

        abbrev grown_table : Tabled
        grown_table = client_changed n.client grows row_table

        abbrev from_due : (kind : ReplyKind) → State
        from_due kind = started (sought kind (reply_id (g.tale.wires l)) due.first due.number)

        coming_so : own.client.desk.seat.outbox.coming ++ made ≡ renumbered (from_due (kind_of asking.form)) fed.unread
        coming_so =
            ap (λ (came : List ℕ). came ++ made) (own.coming
            ∙ (λ i. renumbered (started (sought (kind_of asking.form) (reply_id (g.tale.wires l)) ((sym (expected row.link).first) i) ((sym (expected row.link).number) i)))
            (g.tale.wires l).unread))
            ∙ sym (renumbered-more (from_due (kind_of asking.form)) r.tracker.state (g.tale.wires l).unread bytes
            (subst (λ (k : ReplyKind). run (from_due k) (g.tale.wires l).unread ≡ Going r.tracker.state) (sym (kind_is asking at)) read.read.goes))

        replying_on : IsReplying (read_on fed) grown_table l new asking n ordinal
        replying_on = record {
          client = grows own.client;
          work = own.work;
          there = ap (λ (b : Bool). if b then option_map grows (t.clients n.client) else t.clients n.client) (same_number n.client.0) ∙ ap (option_map grows) own.there;
          in_work = own.in_work;
          last = own.last;
          sent = own.sent;
          hostgroup = own.hostgroup;
          number = (expected row.link).number ∙ own.number;
          first = own.first ∙ sym (expected row.link).first;
          coming = coming_so
              ∙ sym (ap (λ (w : Wire). renumbered (started (sought (kind_of asking.form) (reply_id w) due.first due.number)) w.unread) (put_there g.tale.wires l fed));
        }

        pub grows_so : IsRowIn g.setup g.codes g.plan (with_story ran_tale.story (put_wire fed) g.tale) l new → StandsBut (read_on fed) grown_table
        grows_so row_is =
            part_so laws stay carried_law homed_law service g t stands l server there to_server kept fine fed new mine asking n ordinal key asks purpose made
            (server_goes grown_table row_is (λ mine.
            subst (λ (s : Stage). IsReplyingAt s (read_on fed) grown_table l new) (sym at)
            (subst (λ (p : Purpose). IsReplyingFor p (read_on fed) grown_table l new asking) (sym purpose) replying_on))) carried_on

      replying_aside : (asking : Asking) (purpose : Purpose) → (purpose ≡ asking.purpose) → ((n : SessionName) (ordinal key : ℕ) → asking.purpose ≡ purposes.Statement n ordinal key → ⊥)
          → IsReplyingFor purpose (read_on fed) row_table l new asking
      replying_aside asking (purposes.Statement n ordinal key) same aside = absurd (aside n ordinal key (sym same))
      replying_aside asking (purposes.Prep n ordinal key) same aside = tt
      replying_aside asking (purposes.Sync n) same aside = tt
      replying_aside asking purposes.Own same aside = tt
      replying_aside asking (purposes.End n) same aside = tt
      replying_aside asking (purposes.Capture n) same aside = tt

      abbrev Goal : Option LeftSession → Stage → Type 0
      Goal left at = StandsBut (read_on fed) (if is_some left then row_table else told_by (part_news at) row.multiplex made row_table)

      module _ (row_is : IsRowIn g.setup g.codes g.plan (with_story ran_tale.story (put_wire fed) g.tale) l new) where
        aside_goes : (asking : Asking) → due.state.stage ≡ Answered asking → ((n : SessionName) (ordinal key : ℕ) → asking.purpose ≡ purposes.Statement n ordinal key → ⊥)
            → StandsBut (read_on fed) row_table
        aside_goes asking at aside =
            untold row_is (λ mine. subst (λ (s : Stage). IsReplyingAt s (read_on fed) row_table l new) (sym at) (replying_aside asking asking.purpose refl aside))

        by_purpose : server.row.left ≡ None → (asking : Asking) → due.state.stage ≡ Answered asking → (purpose : Purpose) → asking.purpose ≡ purpose
            → StandsBut (read_on fed) (told_by (part_for purpose) row.multiplex made row_table)
        by_purpose mine asking at (purposes.Statement n ordinal key) same = grows_so mine asking at n ordinal key same row_is
        by_purpose mine asking at (purposes.Prep n ordinal key) same = aside_goes asking at (λ m o k is. absurd (prep_not n ordinal key m o k (sym same ∙ is))) where
          prep_not : (n : SessionName) (ordinal key : ℕ) (m : SessionName) (o k : ℕ) → purposes.Prep n ordinal key ≡ purposes.Statement m o k → ⊥
          prep_not n ordinal key m o k is = cc
        by_purpose mine asking at (purposes.Sync n) same = aside_goes asking at (λ m o k is. absurd (sync_not n m o k (sym same ∙ is))) where
          sync_not : (n : SessionName) (m : SessionName) (o k : ℕ) → purposes.Sync n ≡ purposes.Statement m o k → ⊥
          sync_not n m o k is = cc
        by_purpose mine asking at purposes.Own same = aside_goes asking at (λ m o k is. absurd (own_not m o k (sym same ∙ is))) where
          own_not : (m : SessionName) (o k : ℕ) → purposes.Own ≡ purposes.Statement m o k → ⊥
          own_not m o k is = cc
        by_purpose mine asking at (purposes.End n) same = aside_goes asking at (λ m o k is. absurd (end_not n m o k (sym same ∙ is))) where
          end_not : (n : SessionName) (m : SessionName) (o k : ℕ) → purposes.End n ≡ purposes.Statement m o k → ⊥
          end_not n m o k is = cc
        by_purpose mine asking at (purposes.Capture n) same = aside_goes asking at (λ m o k is. absurd (capture_not n m o k (sym same ∙ is))) where
          capture_not : (n : SessionName) (m : SessionName) (o k : ℕ) → purposes.Capture n ≡ purposes.Statement m o k → ⊥
          capture_not n m o k is = cc

        by_left : (left : Option LeftSession) (at : Stage) → server.row.left ≡ left → due.state.stage ≡ at → Goal left at
        by_left (Some left) at same there_at =
            untold row_is (λ mine. absurd (none-some left (sym mine ∙ same)))
        by_left None Quiet same there_at =
            untold row_is (λ mine. subst (λ (s : Stage). IsReplyingAt s (read_on fed) row_table l new) (sym there_at) tt)
        by_left None (Asked asking) same there_at = absurd (asked_not asking there_at)
        by_left None (Answered asking) same there_at = by_purpose same asking there_at asking.purpose refl

        goes_on : Goal row.left due.state.stage
        goes_on = by_left row.left due.state.stage refl refl

      pub goes_so : P (with_wire l fed ran_tale) new (part_news due.state.stage) made
      goes_so = by_form fed new (part_news due.state.stage) made (λ lawful row_is. goes_on row_is)

    -- A STMT_RESET is answered.

    module _ (end : track_end.ReplyEnd) (rest : List ℕ) (quiet : due.state.stage ≡ Quiet) where
      abbrev reset_wire : Wire
      reset_wire = record fed { unread = rest; written = []; step = None }

      abbrev reset_row : Row
      reset_row = record row { cell = None; link = record due { reading = None; writing = None; step = Other; spoilt = due.spoilt || nat_lt (length bytes - length rest) (length bytes) } }

      pub reset_so : P (with_wire l reset_wire ran_tale) reset_row news.ResetDone made
      reset_so =
          by_form reset_wire reset_row news.ResetDone made (λ lawful row_is.
          subst (λ (x : Tabled). StandsBut (read_on reset_wire) x) (sym (if_same (is_some row.left) (link_changed l (with_row reset_row) t)))
          (quiet_so laws stay carried_law homed_law service g t stands l server there to_server kept fine reset_wire reset_row
          (record {
            row = row_is;
            user = is_server.user;
            found_rows = is_server.found_rows;
            standing = standing_read laws stay carried_law homed_law service g t stands l server there to_server kept fine reset_wire ran_is;
            next = subst (λ (next : Option Begins). IsNextOf next (read_on reset_wire) (link_changed l (with_row reset_row) t) reset_row ((view_on (read_on reset_wire)).links l))
                (sym (none_next r under_way)) tt;
            lent = lent_now reset_wire;
            parted = λ whole here left. parted_due reset_wire due.state.stage refl (is_server.parted fine kept left);
            replying = λ whole here mine. subst (λ (s : Stage). IsReplyingAt s (read_on reset_wire) (link_changed l (with_row reset_row) t) l reset_row) (sym quiet) tt;
          })
          (record { carries = carries_due; lost = refl; left = λ is. is; kept = λ is. is })))
