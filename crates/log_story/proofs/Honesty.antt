-- What the router keeps to and what servers keep to are together that the log is honest.
use Rattle.std.specs.Prelude.{◌≡◌, ℕ, Bool, true, false, List, [], ◌∷◌, ◌++◌, Option, Some, None}
use Rattle.std.proofs.Common.{subst, sym, ap, ◌∙◌, append_assoc, append-nil, inl, inr}
use Rattle.mx_base.specs.declared.names.LinkId.{LinkId}
use Rattle.mx_wire.specs.Log.{Log}
use Rattle.mx_wire.specs.declared.entry.Entry.{Entry}
use Rattle.mx_wire.specs.declared.entry.Entry.TheVariants as entry
use Rattle.packet_frame.specs.Packets.{spelling}
use Rattle.server_rule.specs.Servers.{Step}
use Rattle.server_side.specs.Laws.{opening-said}
use Rattle.server_side.specs.Login.{LogsIn, opening, said_of}
use Rattle.server_side.specs.Account.{Account as Login}
use Rattle.private_model.specs.Commands.{Command, Quit}
use Rattle.private_model.specs.Story.{Question, command_of}
use Rattle.private_model.specs.View.{Asked, Setup, Stage}
use Rattle.log_story.specs.Assumed.{AreHonest, IsAllOf, IsExec, IsHeard, IsStepWhole, IsWhole, KeepFrom}
use Rattle.log_story.specs.Assumed as servers
use Rattle.log_story.specs.Honest.{IsFront, IsHonestFrom, IsHonestLog, IsStep, IsTrue, IsTrueExec, IsTrueGot, IsTrueRun, IsWritten, number_for}
use Rattle.log_story.specs.Plan.{Asks, Closes, Plan, Resets, StepText, step_payload, text_payload}
use Rattle.log_story.specs.Said.{Begins, ClosesFirst, IsQuestion, IsSaid, IsSaidBehind, IsSaidLog, IsStepText, SaysFrom, SaysThere}
use Rattle.log_story.specs.Tale.{Tale, first_tale, is_to_server, link_in}
use Rattle.log_story.specs.Telling.{tale_step, wire_with}

-- A front of which nothing is left is all.

pub front-all : (front whole : List ℕ) → IsFront front whole → IsAllOf whole front → front ≡ whole
front-all front whole is all =
    let none : is.rest ≡ [] = all is.rest (record { rest = []; is = append-nil (front ++ is.rest) ∙ is.is }) in
    sym (append-nil front) ∙ ap (λ (xs : List ℕ). front ++ xs) (sym none) ∙ is.is

pub begun-written : (command : Command) (number : Option ℕ) (written : List ℕ) → Begins command number written → IsWhole command number written → IsWritten command number written
begun-written command number written begun whole =
    let none : begun.more ≡ [] = whole begun.more (record { more = []; all = subst (IsWritten command number) (sym (append-nil (written ++ begun.more))) begun.all }) in
    let same : written ++ begun.more ≡ written = ap (λ (xs : List ℕ). written ++ xs) none ∙ append-nil written in
    subst (IsWritten command number) same begun.all

pub question-at : (stage : Stage) (live : ℕ → Option ℕ) (written : List ℕ) (question : Question) → stage ≡ Asked question → IsQuestion stage live written → Begins (command_of question) (number_for question live) written
question-at stage live written question at is = subst (λ (s : Stage). IsQuestion s live written) at is

step-at : (step : Option StepText) (written : List ℕ) → IsStepText step written → IsStepWhole step written → IsStep step written
step-at None written is whole = tt
step-at (Some (Asks command)) written is whole = tt
step-at (Some (Closes number)) written is whole = front-all written (spelling 0 (step_payload (Closes number))) is whole
step-at (Some (Resets number)) written is whole = front-all written (spelling 0 (step_payload (Resets number))) is whole

-- behind a login
pub said-behind : (setup : Setup) (plan : Plan) (tale : Tale) (link : LinkId) → (tale.wires link).entered ≡ true → SaysThere setup plan tale link → IsSaidBehind (tale.wires link) (link_in setup tale link)
said-behind setup plan tale link entered says =
    subst (λ (b : Bool). IsSaid b (plan.logins link) (tale.wires link) (link_in setup tale link)) entered says

run-true : (setup : Setup) (plan : Plan) (server : Step) (tale : Tale) (link : LinkId) → IsSaidBehind (tale.wires link) (link_in setup tale link) → servers.IsRun setup server tale link → IsTrueRun setup server tale link
run-true setup plan server tale link said run = record {
  written = λ question at. begun-written (command_of question) (number_for question (link_in setup tale link).live) (tale.wires link).written
      (question-at (link_in setup tale link).stage (link_in setup tale link).live (tale.wires link).written question at said.question)
      (run.whole question at);
  true_run = run.true_run;
}

-- in a login
login-true : (account : Login) (read more written said rest : List ℕ) → IsFront written (said_of (opening account read)) → opening account (read ++ more) ≡ LogsIn said rest → IsAllOf said written → written ≡ said
login-true account read more written said rest front now all =
    let grown = opening-said account read more in
    let same : said_of (opening account (read ++ more)) ≡ said = ap said_of now in
    let whole : (written ++ (front.rest ++ grown.0)) ≡ said =
    sym (append_assoc written front.rest grown.0) ∙ ap (λ (xs : List ℕ). xs ++ grown.0) front.is ∙ grown.1 ∙ same in
    front-all written said (record { rest = front.rest ++ grown.0; is = whole }) all

said-first : (setup : Setup) (plan : Plan) (tale : Tale) (link : LinkId) → (tale.wires link).entered ≡ false → SaysThere setup plan tale link → IsFront (tale.wires link).written (said_of (opening (plan.logins link) (tale.wires link).unread))
said-first setup plan tale link entered says =
    subst (λ (b : Bool). IsSaid b (plan.logins link) (tale.wires link) (link_in setup tale link)) entered says

got-true : (setup : Setup) (plan : Plan) (server : Step) (tale : Tale) (link : LinkId) (bytes : List ℕ) → SaysThere setup plan tale link → IsHeard setup plan server tale link (wire_with tale link bytes) → IsTrueGot setup plan server tale link (wire_with tale link bytes)
got-true setup plan server tale link bytes says heard = record {
  login = λ entered. record {
    said = λ said rest now. login-true (plan.logins link) (tale.wires link).unread bytes (tale.wires link).written said rest (said-first setup plan tale link entered says) now ((heard.login entered).said said rest now);
    ends = (heard.login entered).ends;
  };
  read = λ entered plain. elim (heard.read entered plain) [
    | inl farewell ↦ inl farewell
    | inr reply ↦ inr (record {
      ran = λ question at. run-true setup plan server tale link (said-behind setup plan tale link entered says) (reply.ran question at);
      question = reply.question;
      answered = reply.answered;
      reply = reply.reply;
    })
  ];
  reset = λ entered is. elim (heard.reset entered is) [
    | inl farewell ↦ inl farewell
    | inr reply ↦ inr (record {
      written = step-at (tale.wires link).step (tale.wires link).written (said-behind setup plan tale link entered says).step reply.whole;
      answer = reply.answer;
      end = reply.end;
      ok = reply.ok;
      last = reply.last;
      front = reply.front;
    })
  ];
}

exec-true : (setup : Setup) (plan : Plan) (server : Step) (tale : Tale) (link : LinkId) → SaysThere setup plan tale link → ((tale.wires link).entered ≡ true → IsExec setup server tale link) → (tale.wires link).entered ≡ true → IsTrueExec setup server tale link
exec-true setup plan server tale link says keeps entered =
    let said = said-behind setup plan tale link entered says in
    record {
      runs = λ calm. run-true setup plan server tale link said ((keeps entered).runs calm);
      quits = λ quits. front-all (tale.wires link).written (spelling 0 (text_payload Quit)) (said.quit quits) ((keeps entered).quits quits);
    }

-- An entry is true.

entry-true : (setup : Setup) (plan : Plan) (server : Step) (tale : Tale) (e : Entry) → ((link : LinkId) → is_to_server tale link ≡ true → SaysThere setup plan tale link) → ClosesFirst setup tale e → servers.Keeps setup plan server tale e → IsTrue setup plan server tale e
entry-true setup plan server tale (entry.Exec link) says closes keeps = λ entered. exec-true setup plan server tale link (says link keeps.there) keeps.runs entered
entry-true setup plan server tale (entry.Got link bytes) says closes keeps = λ there. got-true setup plan server tale link bytes (says link there) (keeps there)
entry-true setup plan server tale (entry.Wrote link tag bytes) says closes keeps = closes
entry-true setup plan server tale (entry.Listening port address) says closes keeps = tt
entry-true setup plan server tale (entry.ListenFailed port) says closes keeps = tt
entry-true setup plan server tale (entry.Woke until_ms now_ms) says closes keeps = tt
entry-true setup plan server tale entry.WaitFailed says closes keeps = tt
entry-true setup plan server tale entry.Over says closes keeps = tt
entry-true setup plan server tale (entry.Named link) says closes keeps = tt
entry-true setup plan server tale entry.NoneNamed says closes keeps = tt
entry-true setup plan server tale (entry.Accepted port link salt) says closes keeps = tt
entry-true setup plan server tale (entry.AcceptNothing port) says closes keeps = tt
entry-true setup plan server tale (entry.AcceptFailed port) says closes keeps = tt
entry-true setup plan server tale (entry.Opened at address link) says closes keeps = tt
entry-true setup plan server tale (entry.OpenFailed at address) says closes keeps = tt
entry-true setup plan server tale (entry.ReadNothing link) says closes keeps = tt
entry-true setup plan server tale (entry.Ended link) says closes keeps = tt
entry-true setup plan server tale (entry.ReadFailed link) says closes keeps = tt
entry-true setup plan server tale (entry.WriteNothing link) says closes keeps = tt
entry-true setup plan server tale (entry.WriteFailed link) says closes keeps = tt
entry-true setup plan server tale (entry.Closed link) says closes keeps = tt
entry-true setup plan server tale (entry.Drop link) says closes keeps = tt

honest-from : (setup : Setup) (plan : Plan) (server : Step) (tale : Tale) (log : Log) → SaysFrom setup plan tale log → KeepFrom setup plan server tale log
    → IsHonestFrom setup plan server tale log
honest-from setup plan server tale [] says keeps = tt
honest-from setup plan server tale (e ∷ log) says keeps = (
  entry-true setup plan server tale e says.0 says.1 keeps.0,
  honest-from setup plan server (tale_step setup plan tale e) log says.2 keeps.1,
)

pub honest : (setup : Setup) (plan : Plan) (server : Step) (log : Log) → IsSaidLog setup plan log → AreHonest setup plan server log
    → IsHonestLog setup plan server log
honest setup plan server log says keeps = honest-from setup plan server first_tale log says keeps
