-- The row of another link stands as a story goes on and as clients change of which it reads the same.
use Rattle.std.specs.Prelude.{◌≡◌, ℕ, false, Option, Some, None}
use Rattle.std.proofs.Common.{refl, sym, ap, ◌∙◌, subst}
use Rattle.reply_track.specs.Runs.{renumbered}
use Rattle.reply_track.specs.Tracking.{started}
use Rattle.private_model.specs.Names.{LinkId, MessageName, SessionName}
use Rattle.private_model.specs.Story.{Capture, End, Own, Prep, Question, Statement, Story, Sync, message_of}
use Rattle.private_model.specs.View as view
use Rattle.private_model.specs.View.{Link, View, view_after}
use Rattle.log_story.specs.Servers.{reply_id}
use Rattle.log_story.specs.Tale.{Tale, Wire}
use Rattle.link_state.specs.Asks.{kind_of}
use Rattle.link_state.specs.declared.asking.Asking.{Asking}
use Rattle.link_state.specs.declared.asking.Purpose.{Purpose}
use Rattle.link_state.specs.declared.asking.Purpose.TheVariants as purposes
use Rattle.link_state.specs.declared.state.Stage.{Stage}
use Rattle.link_state.specs.declared.state.Stage.TheVariants.{Quiet, Asked, Answered}
use Rattle.lent_link.specs.declared.link.Begins.{Begins}
use Rattle.lent_link.specs.declared.link.Begins.TheVariants as begins
use Rattle.served_link.specs.declared.row.Row.{Row}
use Rattle.row_laws.proofs.Opening.{stays_so}
use Rattle.row_laws.specs.Unread.{sought}
use Rattle.row_laws.specs.Whose.{IsUntouched, OfStatement, name_in}
use Rattle.core_tables.specs.Tables.{Tabled}
use Rattle.core_tables.specs.declared.client.Client.{Client}
use Rattle.core_stands.specs.Grounds.{Ground, on, view_on}
use Rattle.core_laws.proofs.OfParting.Ahead.{ahead_same}
use Rattle.core_stands.specs.Servers.{IsFirst, IsNextFor, IsNextOf, IsPartedAt, IsPartedFor, IsReplying, IsReplyingAt, IsReplyingFor, IsServer, IsStanding, IsStandingAt, IsTakenUp}

-- the tale with another story and other wires
abbrev pub with_story : Story → (LinkId → Wire) → Tale → Tale
with_story story wires tale = record tale { story = story; wires = wires }

-- of a client the same is read: the id of its reply's first packet, its work, and what came of a reply
pub record IsShown (t other : Tabled) (n : SessionName) (row : Client) : Type 0 where
  pub now : Client
  pub there : other.clients n.client ≡ Some now
  pub first : now.desk.seat.first ≡ row.desk.seat.first
  pub work : now.desk.work ≡ row.desk.work
  pub coming : now.desk.seat.outbox.coming ≡ row.desk.seat.outbox.coming

-- a link that isn't read or written
pub record IsSpared (g : Ground) (story : Story) (wires : LinkId → Wire) (l : LinkId) (row : Row) : Type 0 where
  pub wire : wires l ≡ g.tale.wires l
  pub link : (view_after g.setup story).links l ≡ (view_on g).links l
  pub dues : (n : SessionName) → (view_after g.setup story).dues n ≡ (view_on g).dues n
  pub session : (n : SessionName) → name_in row.link.state.carries ≡ Some n → IsUntouched (view_on g) (view_after g.setup story) n row.left
  pub carriers : (m : MessageName) → (view_after g.setup story).carriers m ≡ (view_on g).carriers m
  pub replies : (m : MessageName) → (view_on g).carriers m ≡ Some l → (view_after g.setup story).replies m ≡ (view_on g).replies m

-- what is asked there, if anything
abbrev pub AsksAt : Stage → Asking → Type 0
AsksAt Quiet asking = ⊥
AsksAt (Asked at) asking = at ≡ asking
AsksAt (Answered at) asking = at ≡ asking

module _ (g : Ground) (story : Story) (wires : LinkId → Wire) (t other : Tabled) (l : LinkId) (row : Row)
    (first : (n : SessionName) (ordinal from : ℕ) → IsFirst t n ordinal from → IsFirst other n ordinal from) (spared : IsSpared g story wires l row) where
  abbrev after : Ground
  after = on g (with_story story wires g.tale)

  taken_kept : {n : SessionName} {ordinal : ℕ} → IsTakenUp g n ordinal → IsTakenUp after n ordinal
  taken_kept is = record { client = is.client; seated = is.seated; number = is.number; by_now = is.by_now }

  for_kept : (link : Link) (asking : Asking) (purpose : Purpose) → IsNextFor purpose g t row link asking → IsNextFor purpose after other row link asking
  for_kept link asking (purposes.Statement n ordinal key) is = record {
    said = λ due there at. is.said due (sym (spared.dues n) ∙ there) at;
    first = first n ordinal row.link.first is.first;
    asked = λ due there at. is.asked due (sym (spared.dues n) ∙ there) at;
    number = is.number;
    taken_up = taken_kept is.taken_up;
  }
  for_kept link asking (purposes.Prep n ordinal key) is = record {
    said = λ due there at. is.said due (sym (spared.dues n) ∙ there) at;
    told = λ due there at. is.told due (sym (spared.dues n) ∙ there) at;
    taken_up = taken_kept is.taken_up;
  }
  for_kept link asking (purposes.Sync n) is = record { command = is.command; said = is.said }
  for_kept link asking purposes.Own is = record { command = is.command; said = is.said }
  for_kept link asking (purposes.End n) is = is
  for_kept link asking (purposes.Capture n) is = is

  pub next_kept : (link : Link) (next : Option Begins) → IsNextOf next g t row link → IsNextOf next after other row link
  next_kept link None is = tt
  next_kept link (Some (begins.Asks asking)) is = (is.0, for_kept link asking asking.purpose is.1)
  next_kept link (Some (begins.Closes number)) is = is
  next_kept link (Some (begins.Resets number)) is = is
  next_kept link (Some begins.Quits) is = is

  reply_kept : (asking : Asking) (purpose : Purpose)
      → ((n : SessionName) (ordinal key : ℕ) → purpose ≡ purposes.Statement n ordinal key → (is : IsReplying g t l row asking n ordinal) → IsShown t other n is.client)
      → IsReplyingFor purpose g t l row asking → IsReplyingFor purpose after other l row asking
  reply_kept asking (purposes.Statement n ordinal key) shown is =
      let same = shown n ordinal key refl is in
      record {
        client = same.now;
        work = is.work;
        there = same.there;
        in_work = same.work ∙ is.in_work;
        last = is.last;
        sent = is.sent;
        hostgroup = is.hostgroup;
        number = is.number;
        first = same.first ∙ is.first;
        coming = same.coming ∙ is.coming ∙ sym (ap (λ (w : Wire). renumbered (started (sought (kind_of asking.form) (reply_id w) row.link.first row.link.number)) w.unread) spared.wire);
      }
  reply_kept asking (purposes.Prep n ordinal key) shown is = tt
  reply_kept asking (purposes.Sync n) shown is = tt
  reply_kept asking purposes.Own shown is = tt
  reply_kept asking (purposes.End n) shown is = tt
  reply_kept asking (purposes.Capture n) shown is = tt

  replies_kept : (stage : Stage)
      → ((asking : Asking) (n : SessionName) (ordinal key : ℕ) → AsksAt stage asking → asking.purpose ≡ purposes.Statement n ordinal key
      → (is : IsReplying g t l row asking n ordinal) → IsShown t other n is.client)
      → IsReplyingAt stage g t l row → IsReplyingAt stage after other l row
  replies_kept Quiet shown is = tt
  replies_kept (Asked asking) shown is = reply_kept asking asking.purpose (λ n ordinal key same. shown asking n ordinal key refl same) is
  replies_kept (Answered asking) shown is = reply_kept asking asking.purpose (λ n ordinal key same. shown asking n ordinal key refl same) is

  standing_for : (question : Question) → OfStatement question (IsStanding g l) → OfStatement question (IsStanding after l)
  standing_for (Statement n due) is = record {
    carrier = spared.carriers (message_of n due) ∙ is.carrier;
    unanswered = spared.replies (message_of n due) is.carrier ∙ is.unanswered;
  }
  standing_for (Prep n key text) is = tt
  standing_for (Sync n command) is = tt
  standing_for (Own command) is = tt
  standing_for (End n) is = tt
  standing_for (Capture n) is = tt

  pub standing_kept : (stage : view.Stage) → IsStandingAt stage g l → IsStandingAt stage after l
  standing_kept view.Quiet is = tt
  standing_kept (view.Asked question) is = standing_for question is
  standing_kept (view.Answered question) is = standing_for question is

  parted_for : (purpose : Purpose) → IsPartedFor purpose g → IsPartedFor purpose after
  parted_for (purposes.Statement n ordinal key) is = (is.0, taken_kept is.1)
  parted_for (purposes.Prep n ordinal key) is = tt
  parted_for (purposes.Sync n) is = tt
  parted_for purposes.Own is = tt
  parted_for (purposes.End n) is = tt
  parted_for (purposes.Capture n) is = tt

  pub parted_kept : (stage : Stage) → IsPartedAt stage g → IsPartedAt stage after
  parted_kept Quiet is = tt
  parted_kept (Asked asking) is = parted_for asking.purpose is
  parted_kept (Answered asking) is = parted_for asking.purpose is

  pub server_kept : IsServer g t l row
      → (row.link.spoilt ≡ false → row.lost ≡ false → row.left ≡ None → (asking : Asking) (n : SessionName) (ordinal key : ℕ)
      → AsksAt row.link.state.stage asking → asking.purpose ≡ purposes.Statement n ordinal key
      → (is : IsReplying g t l row asking n ordinal) → IsShown t other n is.client)
      → IsServer after other l row
  server_kept is shown = record {
    row = stays_so g.setup g.codes g.plan g.tale (with_story story wires g.tale) l row is.row spared.wire spared.link spared.session;
    user = is.user;
    found_rows = is.found_rows;
    standing = subst (λ (link : Link). IsStandingAt link.stage after l) (sym spared.link) (standing_kept ((view_on g).links l).stage is.standing);
    next = subst (λ (link : Link). IsNextOf row.link.next after other row link) (sym spared.link) (next_kept ((view_on g).links l) row.link.next is.next);
    lent = λ here mine unstated. ahead_same (view_on g) (view_on after) row.link.state.carries spared.dues (is.lent here mine unstated);
    parted = λ well kept left. parted_kept row.link.state.stage (is.parted well kept left);
    replying = λ well kept mine. replies_kept row.link.state.stage (shown well kept mine) (is.replying well kept mine);
  }
