-- The rows of links stand for them by any moment and clients: what they stand for is the story and the wires.
use Rattle.std.specs.Prelude.{◌≡◌, ◌≤◌, ℕ, Bool, true, false, List, Option, Some, None}
use Rattle.std.proofs.Common.{◌∙◌, arith}
use Rattle.private_model.specs.Names.{ClientNo, LinkId, SessionName}
use Rattle.private_model.specs.Story.{Question}
use Rattle.private_model.specs.Story as story
use Rattle.private_model.specs.View as views
use Rattle.private_model.specs.View.{Link}
use Rattle.log_story.specs.Tale.{Client, Tale, is_to_server, link_in}
use Rattle.link_state.specs.declared.asking.Asking.{Asking}
use Rattle.link_state.specs.declared.asking.Purpose.{Purpose}
use Rattle.link_state.specs.declared.asking.Purpose.TheVariants as purposes
use Rattle.link_state.specs.declared.state.Stage.{Stage}
use Rattle.link_state.specs.declared.state.Stage.TheVariants.{Quiet, Asked, Answered}
use Rattle.lent_link.specs.declared.link.Begins.{Begins}
use Rattle.lent_link.specs.declared.link.Begins.TheVariants as begins
use Rattle.served_link.specs.declared.row.Row.{Row}
use Rattle.row_laws.specs.Whose.{OfStatement}
use Rattle.step_laws.specs.Seats.{IsSeated}
use Rattle.core_tables.specs.Tables.{Tabled}
use Rattle.core_tables.specs.declared.server.Server.{Server}
use Rattle.core_stands.specs.Grounds.{Ground}
use Rattle.core_stands.specs.Servers.{IsNextFor, IsNextOf, IsNextStatement, IsReplyingAt, IsReplyingFor, IsServer, IsServerBy, IsServerOr, IsPartedAt, IsPartedFor, IsStanding, IsStandingAt, IsTakenUp}

-- another moment, other clients, and who ended or is to be looked at
pub record Aside : Type 0 where
  pub moment : ℕ
  pub clients : List Client
  pub over : ClientNo → Bool
  pub fresh : ClientNo → Bool

abbrev pub regrounded : Aside → Ground → Ground
regrounded by g = record {
  setup = g.setup;
  codes = g.codes;
  plan = g.plan;
  tale = record { moment = by.moment; story = g.tale.story; clients = by.clients; links = g.tale.links; wires = g.tale.wires };
  over = by.over;
  fresh = by.fresh;
}

-- who took up no fewer messages
pub record IsOn (tale : Tale) (x y : Client) : Type 0 where
  pub seated : IsSeated tale y
  pub number : y.number ≡ x.number
  pub taken : x.taken ≤ y.taken

abbrev pub GoOn : (before later : Tale) → Type 0
GoOn before later = (x : Client) → IsSeated before x → (y : Client) × IsOn later x y

module _ (by : Aside) (g : Ground) (t : Tabled) (on : GoOn g.tale (regrounded by g).tale)
    (ends : (c : ClientNo) → g.over c ≡ true → by.over c ≡ true) where
  abbrev after : Ground
  after = regrounded by g

  taken-so : (n : SessionName) (ordinal : ℕ) → IsTakenUp g n ordinal → IsTakenUp after n ordinal
  taken-so n ordinal is =
      let new = on is.client is.seated in
      record {
        client = new.0;
        seated = new.1.seated;
        number = new.1.number ∙ is.number;
        by_now = omega (arith, is.by_now, new.1.taken);
      }

  next-statement : (n : SessionName) (ordinal : ℕ) (row : Row) (link : Link) (asking : Asking) → IsNextStatement g t row link asking n ordinal
      → IsNextStatement after t row link asking n ordinal
  next-statement n ordinal row link asking is = record {
    said = is.said;
    first = is.first;
    asked = is.asked;
    number = is.number;
    taken_up = taken-so n ordinal is.taken_up;
  }

  next-for : (purpose : Purpose) (row : Row) (link : Link) (asking : Asking) → IsNextFor purpose g t row link asking → IsNextFor purpose after t row link asking
  next-for (purposes.Statement n ordinal key) row link asking is = next-statement n ordinal row link asking is
  next-for (purposes.Prep n ordinal key) row link asking is = record { said = is.said; told = is.told; taken_up = taken-so n ordinal is.taken_up }
  next-for (purposes.Sync n) row link asking is = record { command = is.command; said = is.said }
  next-for purposes.Own row link asking is = record { command = is.command; said = is.said }
  next-for (purposes.End n) row link asking is = is
  next-for (purposes.Capture n) row link asking is = is

  next-of : (next : Option Begins) (row : Row) (link : Link) → IsNextOf next g t row link → IsNextOf next after t row link
  next-of None row link is = is
  next-of (Some (begins.Asks asking)) row link is = (is.0, next-for asking.purpose row link asking is.1)
  next-of (Some (begins.Closes number)) row link is = is
  next-of (Some (begins.Resets number)) row link is = is
  next-of (Some begins.Quits) row link is = is

  replying-for : (purpose : Purpose) (l : LinkId) (row : Row) (asking : Asking) → IsReplyingFor purpose g t l row asking → IsReplyingFor purpose after t l row asking
  replying-for (purposes.Statement n ordinal key) l row asking is = record {
    client = is.client;
    work = is.work;
    there = is.there;
    in_work = is.in_work;
    last = is.last;
    sent = is.sent;
    hostgroup = is.hostgroup;
    number = is.number;
    first = is.first;
    coming = is.coming;
  }
  replying-for (purposes.Prep n ordinal key) l row asking is = tt
  replying-for (purposes.Sync n) l row asking is = tt
  replying-for purposes.Own l row asking is = tt
  replying-for (purposes.End n) l row asking is = tt
  replying-for (purposes.Capture n) l row asking is = tt

  replying-at : (stage : Stage) (l : LinkId) (row : Row) → IsReplyingAt stage g t l row → IsReplyingAt stage after t l row
  replying-at Quiet l row is = tt
  replying-at (Asked asking) l row is = replying-for asking.purpose l row asking is
  replying-at (Answered asking) l row is = replying-for asking.purpose l row asking is

  standing-of : (l : LinkId) (question : Question) → OfStatement question (IsStanding g l) → OfStatement question (IsStanding after l)
  standing-of l (story.Statement n due) is = record { carrier = is.carrier; unanswered = is.unanswered }
  standing-of l (story.Prep n key text) is = tt
  standing-of l (story.Sync n command) is = tt
  standing-of l (story.Own command) is = tt
  standing-of l (story.End n) is = tt
  standing-of l (story.Capture n) is = tt

  standing-at : (l : LinkId) (stage : views.Stage) → IsStandingAt stage g l → IsStandingAt stage after l
  standing-at l views.Quiet is = tt
  standing-at l (views.Asked question) is = standing-of l question is
  standing-at l (views.Answered question) is = standing-of l question is

  parted-for : (purpose : Purpose) → IsPartedFor purpose g → IsPartedFor purpose after
  parted-for (purposes.Statement n ordinal key) is = (ends n.client is.0, taken-so n ordinal is.1)
  parted-for (purposes.Prep n ordinal key) is = tt
  parted-for (purposes.Sync n) is = tt
  parted-for purposes.Own is = tt
  parted-for (purposes.End n) is = tt
  parted-for (purposes.Capture n) is = tt

  parted-at : (stage : Stage) → IsPartedAt stage g → IsPartedAt stage after
  parted-at Quiet is = tt
  parted-at (Asked asking) is = parted-for asking.purpose is
  parted-at (Answered asking) is = parted-for asking.purpose is

  server-so : (l : LinkId) (row : Row) → IsServer g t l row → IsServer after t l row
  server-so l row is = record {
    row = is.row;
    user = is.user;
    found_rows = is.found_rows;
    standing = standing-at l (link_in g.setup g.tale l).stage is.standing;
    next = next-of row.link.next row (link_in g.setup g.tale l) is.next;
    lent = is.lent;
    parted = λ sound kept left. parted-at row.link.state.stage (is.parted sound kept left);
    replying = λ sound kept present. replying-at row.link.state.stage l row (is.replying sound kept present);
  }

  server-by : (to_server : Bool) (l : LinkId) (row : Option Server) → IsServerBy to_server g t l row → IsServerBy to_server after t l row
  server-by true l (Some server) is = server-so l server.row is
  server-by true l None is = is
  server-by false l row is = is

  pub servers-so : (l : LinkId) (row : Option Server) → IsServerOr g t l row → IsServerOr after t l row
  servers-so l row is = server-by (is_to_server g.tale l) l row is
