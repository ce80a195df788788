-- What is to be written next leaves what the row stands for.
use Rattle.std.specs.Prelude.{◌≡◌, ◌≤◌, ℕ, Bool, true, false, not, ◌&&◌, ◌||◌, is_some, nat_lt, List, length, Option, Some, None}
use Rattle.std.proofs.Common.{refl, sym, ap, ◌∙◌, subst, arith}
use Rattle.std.proofs.lemmas.Bool.{and_parts, false≢true, ltb-false, not-true, true≢false}
use Rattle.std.proofs.lemmas.List.{take_all}
use Rattle.std.proofs.lemmas.Option.{none-some}
use Rattle.mx_base.specs.declared.tag.Tag.{Tag}
use Rattle.reply_relay.specs.Cells.{CellRead}
use Rattle.server_rule.specs.Classes.{Reads}
use Rattle.server_side.specs.Account.{Account as Login}
use Rattle.private_model.specs.Names.{LinkId}
use Rattle.private_model.specs.View as view
use Rattle.private_model.specs.View.{Link, Setup, View}
use Rattle.log_story.specs.Honest.{IsStep}
use Rattle.log_story.specs.Said.{IsNothing}
use Rattle.log_story.specs.Plan as plan
use Rattle.log_story.specs.Plan.{Plan, StepText, step_payload}
use Rattle.log_story.specs.Servers as servers
use Rattle.log_story.specs.Tale.{Tale, Wire, view_of}
use Rattle.packet_frame.specs.Packets.{spelling}
use Rattle.link_state.specs.Dones.{is_quiet}
use Rattle.link_state.specs.Writes.{is_whole}
use Rattle.link_state.specs.declared.writing.Writing.{Writing}
use Rattle.link_laws.specs.Stands.{Codes}
use Rattle.lent_link.specs.Links.{is_in, stands_next}
use Rattle.lent_link.specs.Rests.{is_resetting, is_whole_or_none, is_written, may_begin}
use Rattle.lent_link.specs.declared.link.Begins.{Begins}
use Rattle.lent_link.specs.declared.link.Step.{Step}
use Rattle.lent_link.specs.declared.link.Step.TheVariants.{Other, Closes, Resets}
use Rattle.lent_link.specs.declared.reading.Reading.{Reading}
use Rattle.served_link.specs.declared.row.Row.{Row}
use Rattle.row_laws.specs.Rows.{IsRowIn, IsShared, Serves}
use Rattle.row_laws.specs.Unread.{IsUnreadBy}
use Rattle.row_laws.specs.Written.{IsBegun, IsOver, IsSpelt, IsStepOf, IsWrittenBy}
use Rattle.row_laws.proofs.Beginning.{dry, law_quiet, quiet_unanswered}
use Rattle.row_laws.proofs.Expecting.{cell_quiet}
use Rattle.row_laws.proofs.Opening.{row_by, serves_in}
use Rattle.row_laws.proofs.Readying.{IsShort, begin_same, short_of}
use Rattle.row_laws.proofs.Seeing.{quiet_same}
use Rattle.row_laws.proofs.Splitting.{rest_whole}

pub begins_so : (setup : Setup) (codes : Codes) (plan : Plan) (tale : Tale) (l : LinkId) (row : Row) → IsRowIn setup codes plan tale l row
    → (tale.wires l).entered ≡ true → servers.may_begin setup l (tale.wires l) tale ≡ may_begin row.link
begins_so setup codes plan tale l row stands entered =
    begin_same setup.reads codes (plan.logins l) (view_of setup tale) row (tale.wires l) ((view_of setup tale).links l)
    (serves_in setup.reads codes (plan.logins l) (view_of setup tale) row (tale.wires l) ((view_of setup tale).links l) entered stands)

-- a whole STMT_CLOSE is one of the law
close_over : (there : view.Stage) (step : Step) (link : Link) (w : Writing) (said : Option StepText) (written : List ℕ) → there ≡ view.Quiet → is_resetting step ≡ false
    → IsSpelt there step false link w.bytes → IsStepOf step said → written ≡ w.bytes → IsStep said written
close_over view.Quiet (Closes number) link w (Some (plan.Closes n)) written quiet plain spelt_so step same =
    same ∙ spelt_so ∙ ap (λ (k : ℕ). spelling 0 (step_payload (plan.Closes k))) step
close_over view.Quiet (Closes number) link w _ written quiet plain spelt_so step same = absurd step
close_over view.Quiet (Resets number) link w said written quiet plain spelt_so step same = absurd (true≢false plain)
close_over view.Quiet Other link w said written quiet plain spelt_so step same = absurd spelt_so
close_over (view.Asked question) step link w said written quiet plain spelt_so is same = absurd (false≢true (ap servers.is_quiet quiet))
close_over (view.Answered question) step link w said written quiet plain spelt_so is same = absurd (false≢true (ap servers.is_quiet quiet))

close_nothing : (there : view.Stage) (step : Step) (link : Link) (said : Option StepText) (written bytes : List ℕ) → there ≡ view.Quiet
    → is_resetting step ≡ false → IsSpelt there step false link bytes → IsStepOf step said → IsNothing view.Quiet said written
close_nothing view.Quiet (Closes number) link (Some (plan.Closes n)) written bytes quiet plain spelt_so step = tt
close_nothing view.Quiet (Closes number) link _ written bytes quiet plain spelt_so step = absurd step
close_nothing view.Quiet (Resets number) link said written bytes quiet plain spelt_so step = absurd (true≢false plain)
close_nothing view.Quiet Other link said written bytes quiet plain spelt_so step = absurd spelt_so
close_nothing (view.Asked question) step link said written bytes quiet plain spelt_so is = absurd (false≢true (ap servers.is_quiet quiet))
close_nothing (view.Answered question) step link said written bytes quiet plain spelt_so is = absurd (false≢true (ap servers.is_quiet quiet))

module _ (reads : Reads) (codes : Codes) (login : Login) (seen : View) (row : Row) (wire : Wire) (link : Link)
    (stands : Serves reads codes login seen row wire link) (quiet : is_quiet row.link.state.stage ≡ true) (plain : is_resetting row.link.step ≡ false)
    (stays : row.link.quits ≡ false) where
  law_stage : link.stage ≡ view.Quiet
  law_stage = law_quiet link.stage (sym (quiet_same reads codes row.link.state link stands.state) ∙ quiet)

  begun_over : (w : Writing) → is_whole w ≡ true → IsBegun row.link.step row.link.quits w wire.written link
      → IsOver row.link.state.stage row.link.step row.link.quits wire.step wire.written
  begun_over w whole going =
      let all : length w.bytes ≤ w.sent = ltb-false w.sent (length w.bytes) (not-true (nat_lt w.sent (length w.bytes)) whole) in
      let short : IsShort w = short_of link.stage row.link.step row.link.quits link w law_stage going.spelt_so in
      record {
        quiet = quiet;
        answered = plain;
        stays = stays;
        is_step = close_over link.stage row.link.step link w wire.step wire.written law_stage plain
            (subst (λ (quits : Bool). IsSpelt link.stage row.link.step quits link w.bytes) stays going.spelt_so) stands.step
            (going.front ∙ take_all w.sent w.bytes all);
        whole = rest_whole short.payload w (omega (arith, short.short)) short.bytes wire.written going.front all;
        nothing = close_nothing link.stage row.link.step link wire.step wire.written w.bytes law_stage plain
            (subst (λ (quits : Bool). IsSpelt link.stage row.link.step quits link w.bytes) stays going.spelt_so) stands.step;
      }

  over_so : (next : Option Begins) (writing : Option Writing) → (is_some next || is_whole_or_none writing) ≡ true
      → IsWrittenBy next writing row.link.state.stage row.link.step row.link.quits wire.step wire.written link
      → IsOver row.link.state.stage row.link.step row.link.quits wire.step wire.written
  over_so (Some next) writing whole is = is.0
  over_so None None whole is = is
  over_so None (Some w) whole is = begun_over w whole is

  -- nothing is read there, so ids may be others
  unread_so : (reading : Option Reading) (first number : ℕ) → row.link.reading ≡ reading → row.link.spoilt ≡ false
      → IsUnreadBy reading row.link.step row.link.state.stage (servers.reply_id wire) first number wire.unread
  unread_so None first number same fine =
      record {
        none = (dry reads codes login seen row wire link stands plain (quiet_unanswered row.link.state.stage quiet) fine).0;
        unanswered = quiet_unanswered row.link.state.stage quiet;
      }
  unread_so (Some r) first number same fine =
      absurd (none-some r (sym (dry reads codes login seen row wire link stands plain (quiet_unanswered row.link.state.stage quiet) fine).1 ∙ same))

  pub next_serves : (tag : Tag) (said : List ℕ) (next : Begins) (first number : ℕ) (multiplex : Option Bool) (cell : Option CellRead)
      → (is_some row.link.next || is_whole_or_none row.link.writing) ≡ true
      → Serves reads codes login seen (record row { link = stands_next tag said next first number row.link; multiplex = multiplex; cell = cell }) wire link
  next_serves tag said next first number multiplex cell whole = record {
    entered = stands.entered;
    inside = stands.inside;
    account = stands.account;
    server = stands.server;
    usable = stands.usable;
    state = stands.state;
    quits = stands.quits;
    step = stands.step;
    stepless = stands.stepless;
    written = (over_so row.link.next row.link.writing whole stands.written, refl);
    bad = stands.bad;
    well = stands.well;
    unread = λ fine. unread_so row.link.reading first number refl fine;
    cell = λ fine. cell_quiet row.link.state.stage cell (servers.reply_id wire) first number wire.unread quiet;
    whose = stands.whose;
    own = stands.own;
    shared = subst (λ (there : view.Stage). IsShared there multiplex) (sym law_stage) tt;
  }

pub next_so : (setup : Setup) (codes : Codes) (plan : Plan) (tale : Tale) (l : LinkId) (row : Row) (tag : Tag) (said : List ℕ) (next : Begins)
    (first number : ℕ) (multiplex : Option Bool) (cell : Option CellRead) → IsRowIn setup codes plan tale l row
    → (tale.wires l).entered ≡ true → may_begin row.link ≡ true → row.link.quits ≡ false
    → IsRowIn setup codes plan tale l (record row { link = stands_next tag said next first number row.link; multiplex = multiplex; cell = cell })
next_so setup codes plan tale l row tag said next first number multiplex cell stands entered may stays =
    let seen : View = view_of setup tale in
    let behind = and_parts (is_in row.link.login.stage) (is_quiet row.link.state.stage && (is_written row.link && not (is_resetting row.link.step))) may in
    let quiet = and_parts (is_quiet row.link.state.stage) (is_written row.link && not (is_resetting row.link.step)) behind.1 in
    let whole = and_parts (is_written row.link) (not (is_resetting row.link.step)) quiet.1 in
    row_by setup.reads codes (plan.logins l) seen (record row { link = stands_next tag said next first number row.link; multiplex = multiplex; cell = cell })
    (tale.wires l) (seen.links l) entered stands.server
    (next_serves setup.reads codes (plan.logins l) seen row (tale.wires l) (seen.links l)
    (serves_in setup.reads codes (plan.logins l) seen row (tale.wires l) (seen.links l) entered stands) quiet.0
    (not-true (is_resetting row.link.step) whole.1) stays tag said next first number multiplex cell whole.0)
