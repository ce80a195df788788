-- What becomes of a client's message: what the promise's verdict says of it by the configuration's rules, and by what is so of its client as the
-- message is taken up.
use Rattle.std.specs.Prelude.{◌≡◌, ◌<◌, ℕ, suc, slice_get, Bool, true, false, All, find, is_some, length, map}
use Rattle.std.specs.Prelude.{List, [], ◌∷◌, ◌++◌, Option, Some, None}
use Rattle.std.specs.Option.{option_and_then}
use Rattle.mx_base.specs.declared.names.Port.{Port}
use Rattle.mx_base.specs.declared.names.Port.TheVariants.{Admin, Traffic}
use Rattle.mx_wire.specs.Log.{Log}
use Rattle.packet_frame.specs.Packets.{Framed}
use Rattle.hostgroups.specs.declared.row.ServerRow.{ServerRow}
use Rattle.query_rules.specs.Effects.{is_first_flag}
use Rattle.query_rules.specs.declared.rule.Rule.{Rule}
use Rattle.session_state.specs.declared.pin.Pin.{Pin}
use Rattle.session_state.specs.declared.place.Place.{Place}
use Rattle.server_rule.specs.Classes.{router_reads}
use Rattle.private_model.specs.Names.{ClientNo, Hostgroup, LinkId, MessageName}
use Rattle.private_model.specs.Story.{Key}
use Rattle.private_model.specs.View.{Held, Setup, present}
use Rattle.link_laws.specs.Stands.{Codes}
use Rattle.log_story.specs.Headline.{tale_of}
use Rattle.log_story.specs.Owed.{messages, name_of}
use Rattle.log_story.specs.Plan.{Plan, Route, own_at}
use Rattle.log_story.specs.Tale.{Client, Tale, first_tale, view_of}
use Rattle.log_story.specs.Telling.{tale_step}
use Rattle.tale_world.specs.Decided.{Decided}
use Rattle.core_laws.specs.entry.Tells.{Fits, IsOf}
use Rattle.router_promises.specs.Router.{Router, home_of}
use Rattle.router_promises.specs.Takings.{Taking, message_in, takings_at}
use Rattle.router_promises.specs.Terms.{Terms, plan_in, setup_in, tale_at}
use Rattle.router_promises.specs.Verdicts.{Goes, Tells, Verdict, Wanted}
use Rattle.message_judge.specs.Judging.{judged, verdict_by}
use Rattle.message_judge.specs.declared.caller.Caller.{Caller}
use Rattle.message_judge.specs.declared.caller.Prepared.{Prepared}
use Rattle.message_judge.specs.declared.caller.Standing.{Standing}
use Rattle.core_promises.specs.Statements.{is_given, number_named, statement_of}

-- What messages are judged by: rules, each user's default hostgroup, and the hostgroups of servers in their order.
pub record Rulebook : Type 0 where
  pub rules : List Rule
  pub home : (user : List ℕ) → Hostgroup
  pub hostgroups : List Hostgroup

-- a configuration's
abbrev pub rulebook_of : Router → Rulebook
rulebook_of router =
    record { rules = router.rules; home = home_of router; hostgroups = map (λ (row : ServerRow). row.hostgroup) router.servers }

-- What is so of a client: at which port it came, who it is, where it stands, why its sessions keep their links, and which links carry them; what it prepared under each
-- number, and under which numbers it has.
pub record Situation : Type 0 where
  pub port : Port
  pub user : List ℕ
  pub place : Place
  pub pins : Hostgroup → Pin
  pub homes : Hostgroup → Option LinkId
  pub statements : (number : ℕ) → Option Prepared
  pub given : (number : ℕ) → Bool

abbrev pub held_of : Setup → Tale → ClientNo → Hostgroup → Held
held_of setup tale c hostgroup = (view_of setup tale).held (present (view_of setup tale) c hostgroup)

-- just before its message is taken up
abbrev pub situation_of : Setup → Plan → Taking → Situation
situation_of setup plan taking = record {
  port = taking.client.port;
  user = (setup.accounts taking.client.number).user;
  place = (view_of setup taking.tale).places taking.client.number;
  pins = λ hostgroup. (held_of setup taking.tale taking.client.number hostgroup).pin;
  homes = λ hostgroup. (held_of setup taking.tale taking.client.number hostgroup).home;
  statements = statement_of setup plan taking.client taking.tale;
  given = is_given (view_of setup taking.tale) plan taking.client;
}

-- the hostgroup of its open transaction, among the configuration's
abbrev pub transaction_of : Rulebook → Situation → Option Hostgroup
transaction_of book situation = find (λ hostgroup. (situation.pins hostgroup).tx) book.hostgroups

-- no transaction of it is open, in whichever hostgroup
abbrev pub IsClosed : Situation → Type 0
IsClosed situation = (hostgroup : Hostgroup) → (situation.pins hostgroup).tx ≡ false

-- it has one open in this hostgroup, and in no other
pub record IsOpenIn (hostgroup : Hostgroup) (situation : Situation) : Type 0 where
  pub in_transaction : (situation.pins hostgroup).tx ≡ true
  pub alone : (other : Hostgroup) → (situation.pins other).tx ≡ true → other ≡ hostgroup

-- It is asked in this one: of several, the first of the configuration's, and one that administrators brought only where it has none open in these.
pub record IsTransaction (book : Rulebook) (situation : Situation) (found : Option Hostgroup) : Type 0 where
  pub first : (hostgroup : Hostgroup) → transaction_of book situation ≡ Some hostgroup → found ≡ Some hostgroup
  pub in_transaction : (hostgroup : Hostgroup) → found ≡ Some hostgroup → (situation.pins hostgroup).tx ≡ true
  pub none : found ≡ None → IsClosed situation

-- What may be known of a client: its user, schema, settings, flag and last hostgroup; the hostgroup of its transaction, and the next number of a
-- statement; the statement that its message names; why its sessions keep their links; and in which hostgroups there is a link or a server for it.
pub record Knowledge : Type 0 where
  pub caller : Caller
  pub standing : Standing
  pub prepared : Option Prepared
  pub pins : Hostgroup → Pin
  pub is_there : Hostgroup → Bool

abbrev pub verdict_on : List Rule → Knowledge → (payload : List ℕ) → Verdict
verdict_on rules known payload =
    verdict_by known.pins known.is_there (judged router_reads rules known.caller known.standing known.prepared payload).draft

-- It is this on a message of this client, of which this is so. There is a link for it where one carries its session; its flag is one by which
-- rules may be tried first; a statement is what it prepared under the number that the message names, and is known where one stands there; and its
-- next number wasn't given yet.
pub record IsVerdictFor (book : Rulebook) (situation : Situation) (c : ClientNo) (payload : List ℕ) (verdict : Verdict) : Type 0 where
  pub known : Knowledge
  pub client : known.caller.number ≡ c
  pub login : known.caller.user ≡ situation.user
  pub home : known.caller.home ≡ book.home situation.user
  pub place : known.caller.place ≡ situation.place
  pub transaction : IsTransaction book situation known.standing.transaction
  pub pins : known.pins ≡ situation.pins
  pub there : (hostgroup : Hostgroup) → is_some (situation.homes hostgroup) ≡ true → known.is_there hostgroup ≡ true
  pub flag : is_first_flag book.rules known.caller.flag ≡ true
  pub prepared : (one : Prepared) → known.prepared ≡ Some one → option_and_then situation.statements (number_named payload) ≡ Some one
  pub named : (number : ℕ) (one : Prepared) → number_named payload ≡ Some number → 0 < number → situation.statements number ≡ Some one → known.prepared ≡ Some one
  pub number : (n : ℕ) → known.standing.next_number ≡ Some n → situation.given n ≡ false
  pub is : verdict ≡ verdict_on book.rules known payload

-- It is answered by the router with these as the verdict says; what an administrator is answered is said along the log, by what is staged.
abbrev pub IsToldAt : Port → Rulebook → Situation → ClientNo → (payload : List ℕ) → (payloads : List (List ℕ)) → Type 0
IsToldAt Traffic book situation c payload payloads = IsVerdictFor book situation c payload (Tells payloads)
IsToldAt Admin book situation c payload payloads = Unit {0}

abbrev pub IsToldFor : Rulebook → Situation → ClientNo → (payload : List ℕ) → (payloads : List (List ℕ)) → Type 0
IsToldFor book situation c payload payloads = IsToldAt situation.port book situation c payload payloads

-- It goes to a server by this route, and so is no administrator's; and where it is to be prepared, or was, what is to stand under the route's key does.
pub record IsRoutedFor (book : Rulebook) (situation : Situation) (keys : (key : ℕ) → Option Key) (c : ClientNo) (payload : List ℕ) (route : Route) : Type 0 where
  pub wanted : Wanted
  pub routed : record wanted.route { key = route.key } ≡ route
  pub keyed : (key : Key) → wanted.key ≡ Some key → keys route.key ≡ Some key
  pub port : situation.port ≡ Traffic
  pub is : IsVerdictFor book situation c payload (Goes wanted)

-- The messages that are taken up along a log, in order.
abbrev pub takings_along : Setup → Plan → Tale → Log → List Taking
takings_along setup plan tale [] = []
takings_along setup plan tale (e ∷ log) = takings_at setup plan tale e ++ takings_along setup plan (tale_step setup plan tale e) log

-- the message of this name is one of them
pub record WasTaken (setup : Setup) (plan : Plan) (log : Log) (name : MessageName) (taking : Taking) : Type 0 where
  pub place : ℕ
  pub there : slice_get (takings_along setup plan first_tale log) place ≡ Some taking
  pub named : message_in taking ≡ name

-- A message that was taken up goes where the verdict says, as the text that it says; and where it goes to no server it is answered as that says,
-- if it is by now: by what was so of its client just before it was taken up.
pub record IsJudged (book : Rulebook) (setup : Setup) (plan : Plan) (log : Log) (name : MessageName) (payload : List ℕ) : Type 0 where
  pub taking : Taking
  pub taken : WasTaken setup plan log name taking
  pub goes : (route : Route) → plan.routes name ≡ Some route
      → IsRoutedFor book (situation_of setup plan taking) (λ key. Some (setup.keys key)) name.client payload route
  pub tells : (payloads : List (List ℕ)) → plan.routes name ≡ None → own_at plan (length log) name ≡ Some payloads
      → IsToldFor book (situation_of setup plan taking) name.client payload payloads

-- a book with the rules by which a message is judged
abbrev pub book_for : Rulebook → (rules : MessageName → List Rule) → MessageName → Rulebook
book_for book rules name = record book { rules = rules name }

-- of each message of a client, each by its rules
abbrev pub AreJudged : Rulebook → (rules : MessageName → List Rule) → Setup → Plan → Log → Client → Type 0
AreJudged book rules setup plan log client =
    (k : ℕ) (message : Framed) → k < client.taken → slice_get (messages plan client) k ≡ Some message
    → IsJudged (book_for book rules (name_of client (suc k))) setup plan log (name_of client (suc k)) message.payload

-- of each client
abbrev pub JudgesSo : Terms → (rules : MessageName → List Rule) → Log → Type 0
JudgesSo terms rules log = All (AreJudged (rulebook_of terms.router) rules (setup_in terms) (plan_in terms) log) (tale_at terms log).clients

-- by each plan that has what was decided
abbrev pub JudgesBy : Rulebook → (rules : MessageName → List Rule) → (default : List ℕ) → Decided → Log → Type 0
JudgesBy book rules default d log =
    (setup : Setup) (codes : Codes) (plan : Plan) → IsOf d (length log) plan → Fits d.keys setup codes plan default (tale_of setup plan log)
    → All (AreJudged book rules setup plan log) (tale_of setup plan log).clients
