-- What becomes of a client's messages is what the verdict says, behind an entry too.
use Rattle.std.specs.Prelude.{◌≡◌, ◌⊎◌, ◌<◌, ◌≤◌, ◌+◌, ◌&&◌, ◌++◌, ℕ, zero, suc, Bool, true, false, All, fold, is_some, nat_eq, nat_le, nat_lt, if◌then◌else◌, length, slice_get, slice_index_or, List, [], ◌∷◌, Option, Some, None}
use Rattle.std.specs.Option.{option_map}
use Rattle.std.proofs.Common.{refl, sym, ap, ◌∙◌, subst, arith, inl, inr}
use Rattle.std.proofs.lemmas.Bool.{eqb-true, le-leb, lt-leb, ltb-false, ltb-true, true≢false}
use Rattle.std.proofs.lemmas.Option.{same_Some}
use Rattle.mx_wire.specs.Log.{Log, accepted_links}
use Rattle.mx_wire.specs.declared.entry.Entry.{Entry}
use Rattle.mx_wire.specs.declared.entry.Entry.TheVariants as entry
use Rattle.mx_base.specs.declared.names.Port.{Port}
use Rattle.packet_frame.specs.Packets.{Framed}
use Rattle.client_session.specs.Answers.{Talk}
use Rattle.client_session.specs.Setups.{Setup as Serving}
use Rattle.private_model.specs.Names.{ClientNo, MessageName}
use Rattle.private_model.proofs.Maps.{client_of}
use Rattle.private_model.specs.Story.{Key}
use Rattle.private_model.specs.View.{Setup}
use Rattle.link_laws.specs.Stands.{Codes}
use Rattle.log_story.specs.Headline.{tale_of}
use Rattle.log_story.specs.Owed.{messages, name_of, talk_of}
use Rattle.log_story.specs.Plan.{OwnAnswer, Plan, Route, own_at}
use Rattle.log_story.specs.Tale.{Client, Tale, first_tale}
use Rattle.client_desk.specs.declared.desk.Desk.{Desk}
use Rattle.desk_laws.specs.Stands.{message_at}
use Rattle.log_story.specs.Telling.{tale_step}
use Rattle.step_laws.proofs.Seating.{counted_seats}
use Rattle.step_laws.specs.Seats.{IsSeated}
use Rattle.tale_world.specs.Decided.{Decided}
use Rattle.query_rules.specs.declared.rule.Rule.{Rule}
use Rattle.core_service.specs.Serves.{rules_in}
use Rattle.core_service.specs.declared.service.Service.{Service}
use Rattle.core_tables.specs.Tables.{Tabled}
use Rattle.core_laws.proofs.OfEntry.Going.{tale_more}
use Rattle.core_laws.proofs.OfEntry.Growing.{messages_more}
use Rattle.core_laws.proofs.OfEntry.Lists.{seated_of}
use Rattle.core_laws.specs.clients.Found.{AreFoundAt, IsAmong, IsEndFound, IsFound, IsFoundIn, IsLastAmong, desk_up}
use Rattle.core_laws.specs.clients.Turns.{Answers, Choice, Ends, Goes, Halt, HaltsSo, IsTurn, Quits, Rests, Turns, Waits}
use Rattle.core_laws.specs.entry.Cores.{with_entry}
use Rattle.core_laws.specs.entry.Tells.{Fits, IsOf}
use Rattle.core_promises.proofs.Takings.{taken_before, taken_now}
use Rattle.core_promises.proofs.Knowing.{KnowsMore, routed_within, told_within}
use Rattle.core_promises.specs.Judges.{AreJudged, book_for, IsJudged, IsRoutedFor, IsToldFor, Rulebook, Situation, situation_of}
use Rattle.core_promises.specs.Administered.{MakesIf}
use Rattle.core_promises.specs.Administers.{Administered, Makes}
use Rattle.core_promises.specs.Ruled.{AreKept, AreRuled, IsChoiceFor, IsRuled, Ruling, SaysItQuits, book_of, from, situation_at, until}
use Rattle.router_promises.specs.Takings.{Taking, takings_at}
use Rattle.shared_router.proofs.Furthering.{IsWithin, within_step}
use Rattle.shared_router.proofs.Looked.{Each, each-all}
use Rattle.shared_router.proofs.Numbered.{AreNumbered}
use Rattle.shared_router.proofs.Seated.{numbered_step}
use Rattle.router_laws.proofs.OfClients.Continuing.{all_were}
use Rattle.router_laws.proofs.OfDecisions.Fates.{HasFate, fate_there, false_true, none_some}
use Rattle.router_laws.proofs.OfDecisions.Kept.{turn_kept, up_kept}
use Rattle.router_laws.proofs.OfDecisions.Listing.{is_tale_of}
use Rattle.router_laws.proofs.OfDecisions.Planning.{fate_so, own_so}
use Rattle.router_laws.proofs.OfDecisions.Recording.{one_more}
use Rattle.router_laws.specs.clients.Continues.{HasCome, WasThere}
use Rattle.router_laws.proofs.OfDecisions.Situated.{situated}
use Rattle.router_laws.specs.decisions.Judges.{AreSent, HasKeys, IsJudgedAs, IsJudgedThen, JudgedFrom, Judging, JudgesThen, SaysHalt, all_keys, judging_by, judging_of}
use Rattle.router_laws.proofs.OfDecisions.Stating.{IsNumbered, its_state, one_begins, one_ends, one_state, others_state}
use Rattle.router_laws.specs.decisions.Deeds.{Counts, Deeds, Fate, Word, among, counts_with, decided_by, decided_with, fate_at, fate_in, fate_of, is_quitting, known_with, no_deeds, no_fate, parting, taken_by, taking}
use Rattle.router_laws.specs.decisions.Force.{rules_then}
use Rattle.router_laws.specs.decisions.Records.{AreCountsOf, IsRecorded}
use Rattle.router_laws.specs.decisions.Rulings.{AreKeptIn}
use Rattle.core_laws.specs.clients.Follows.{quits_by}
use Rattle.router_laws.specs.decisions.Partings.{IsPartCause}

-- Of a client's messages that came up at its turns, where these are by the verdict.

-- whose client is that of the name
taken_of : (takings : List Taking) (name : MessageName) (taking : Taking) → IsAmong takings name taking → taking.client.number ≡ name.client
taken_of takings name taking among = ap (λ (m : MessageName). m.client) among.named

-- by more keys, and of more that is so
choice_within : (book : Rulebook) (one other : Situation) → KnowsMore one other → (keys : (key : ℕ) → Option Key) (setup : Setup) → HasKeys keys setup
    → (c : ClientNo) (payload : List ℕ) (choice : Choice) → IsChoiceFor choice book one keys c payload
    → IsChoiceFor choice book other (all_keys setup) c payload
choice_within book one other within keys setup has c payload (Goes route keyed) for =
    routed_within book one other within keys (all_keys setup) (λ k key is. ap (λ (x : Key). Some x) (has k key is)) c payload route for
choice_within book one other within keys setup has c payload (Answers payloads) for =
    told_within book one other within c payload payloads for

module _ (ruling : Ruling) (setup : Setup) (plan : Plan) (client : Client) (has : HasKeys ruling.keys setup) where
  judged_as : (c : ClientNo) → client.number ≡ c → (desk : Desk) → AreKept ruling desk.seat.statements → (up : Framed) (taking : Taking)
      → taking.client.number ≡ c → (found : Option Framed) → IsFoundIn c desk up setup plan taking found → (message : Framed) → found ≡ Some message → (choice : Choice)
      → IsChoiceFor choice ruling.book (situation_at ruling.keys desk) ruling.keys c up.payload
      → IsChoiceFor choice ruling.book (situation_of setup plan taking) (all_keys setup) client.number message.payload
  judged_as c number desk kept up taking of found at message is choice ruled =
      subst (λ (m : Framed). IsChoiceFor choice ruling.book (situation_of setup plan taking) (all_keys setup) client.number m.payload)
      (same_Some up message (sym at.message_is ∙ is))
      (subst (λ (x : ClientNo). IsChoiceFor choice ruling.book (situation_of setup plan taking) (all_keys setup) x up.payload) (sym number)
      (choice_within ruling.book (situation_at ruling.keys desk) (situation_of setup plan taking)
      (situated setup plan taking ruling.keys has c of desk up found at (λ k s some there. (kept k s some there).there)) ruling.keys setup has c up.payload choice ruled))

  its_name : (takings : List Taking) (c : ClientNo) → client.number ≡ c → (k : ℕ) (taking : Taking) → IsAmong takings (message_at c (suc k)) taking
      → IsAmong takings (name_of client (suc k)) taking
  its_name takings c number k taking = subst (λ (n : ClientNo). IsAmong takings (message_at n (suc k)) taking) (sym number)

  judged_one : (choice : Choice) (service : Serving) (default : List ℕ) (c : ClientNo) → client.number ≡ c → (old new : Tabled)
      (turn : IsTurn choice service default c old new) (takings : List Taking) (k : ℕ)
      → IsFound choice service default c old new turn setup plan takings (slice_get (messages plan client) k) k
      → IsRuled ruling choice service default c old new turn → AreKeptIn ruling (old.clients c)
      → IsJudgedAs (judging_of ruling) setup plan client takings k choice
  judged_one (Goes route keyed) service default c number old new turn takings k found ruled kept = record {
    taking = found.taking;
    among = its_name takings c number k found.taking found.among;
    is = λ message at.
        let up : AreKept ruling (desk_up service default turn.up.row).seat.statements = up_kept ruling service default c old turn.between turn.up kept in
        judged_as c number (desk_up service default turn.up.row) up turn.up.message found.taking
        (taken_of takings (message_at c (suc k)) found.taking found.among) (slice_get (messages plan client) k) found.at message at (Goes route keyed) (ruled.0 up);
    made = ruled.1;
  }
  judged_one (Answers payloads) service default c number old new turn takings k found ruled kept = record {
    taking = found.taking;
    among = its_name takings c number k found.taking found.among;
    is = λ message at.
        let up : AreKept ruling (desk_up service default turn.up.row).seat.statements = up_kept ruling service default c old turn.between turn.up kept in
        judged_as c number (desk_up service default turn.up.row) up turn.up.message found.taking
        (taken_of takings (message_at c (suc k)) found.taking found.among) (slice_get (messages plan client) k) found.at message at (Answers payloads) (ruled.0 up);
    made =
        subst (λ (o : Option Framed). MakesIf o found.taking.client.port (Some payloads) ruling.was ruling.is) (sym found.at.message_is)
        (subst (λ (port : Port). Makes port turn.up.message.payload (Some payloads) ruling.was ruling.is) (sym found.at.port) ruled.1);
  }

-- how the turns end is said, by what was found and ruled
says_halt : (halt : Halt) (service : Serving) (default : List ℕ) (c : ClientNo) (old new : Tabled) (there : HaltsSo halt service default c old new)
    (talk : Talk) (k : ℕ) → IsEndFound halt service default c old new there talk k → SaysItQuits halt service default c old new there
    → SaysHalt halt talk k
says_halt Waits service default c old new there talk k found says = tt
says_halt Rests service default c old new there talk k found says = tt
says_halt Quits service default c old new there talk k found says = (there.up.message, (found, says))
says_halt Ends service default c old new there talk k found says = found

pub judged_by : (ruling : Ruling) (setup : Setup) (plan : Plan) (client : Client) (has : HasKeys ruling.keys setup) (takings : List Taking) (k : ℕ)
    (choices : List Choice) (halt : Halt) (service : Serving) (default : List ℕ) (c : ClientNo) → client.number ≡ c → (old new : Tabled)
    (turns : Turns choices halt service default c old new)
    → AreFoundAt choices halt service default c old new turns setup plan takings (talk_of plan client) k
    → AreRuled ruling choices halt service default c old new turns → AreKeptIn ruling (old.clients c)
    → JudgedFrom (judging_of ruling) setup plan client takings k choices halt
judged_by ruling setup plan client has takings k [] halt service default c number old new turns found ruled kept = (
  (
    subst (λ (n : ClientNo). IsLastAmong halt takings (message_at n (suc k))) (sym number) found.0,
    says_halt halt service default c old new turns (talk_of plan client) k found.1 ruled.0,
  ),
  ruled.1,
)
judged_by ruling setup plan client has takings k (choice ∷ others) halt service default c number old new turns found ruled kept = (
  ruled.0,
  (
    judged_one (until ruling ruled.0) setup plan client has choice service default c number old turns.0 turns.1 takings k found.0 ruled.1.0 kept,
    judged_by (from ruling ruled.0) setup plan client has takings (suc k) others halt service default c number turns.0 new turns.2 found.1 ruled.1.1
        (turn_kept ruling service default c choice old turns.0 turns.1 kept),
  ),
)

-- So what is decided of each is.
module _ (book : Rulebook) (setup : Setup) (plan : Plan) (client : Client) where
  abbrev pub by : (was is : Administered) → Judging
  by was is = record { book = book; was = was; is = is }

  pub record IsFated (takings : List Taking) (k : ℕ) (fate : Fate) : Type 0 where
    pub taking : Taking
    pub among : IsAmong takings (name_of client (suc k)) taking
    pub goes : (message : Framed) (route : Route) → slice_get (messages plan client) k ≡ Some message → fate.route ≡ Some route
        → IsRoutedFor book (situation_of setup plan taking) (all_keys setup) client.number message.payload route
    pub tells : (message : Framed) (payloads : List (List ℕ)) → slice_get (messages plan client) k ≡ Some message
        → option_map (λ (answer : OwnAnswer). answer.payloads) fate.own ≡ Some payloads
        → IsToldFor book (situation_of setup plan taking) client.number message.payload payloads

  module _ (takings : List Taking) where
    judged_first : (was is : Administered) (k : ℕ) (choice : Choice) → IsJudgedAs (by was is) setup plan client takings k choice
        → IsFated takings k (fate_of choice)
    judged_first was is k (Goes mine keyed) judged = record {
      taking = judged.taking;
      among = judged.among;
      goes = λ message route at is.
          subst (IsRoutedFor book (situation_of setup plan judged.taking) (all_keys setup) client.number message.payload) (same_Some mine route is)
          (judged.is message at);
      tells = λ message payloads at is. none_some None payloads refl is;
    }
    judged_first was is k (Answers mine) judged = record {
      taking = judged.taking;
      among = judged.among;
      goes = λ message route at is. none_some None route refl is;
      tells = λ message payloads at is.
          subst (IsToldFor book (situation_of setup plan judged.taking) client.number message.payload)
          (same_Some mine payloads is) (judged.is message at);
    }

    unfated : (k : ℕ) (taking : Taking) → IsAmong takings (name_of client (suc k)) taking → IsFated takings k no_fate
    unfated k taking among = record {
      taking = taking;
      among = among;
      goes = λ message route at is. none_some None route refl is;
      tells = λ message payloads at is. none_some None payloads refl is;
    }

    at_same : (first k : ℕ) → nat_eq (suc k) (suc first) ≡ true → first ≡ k
    at_same first k same = let here : suc k ≡ suc first = eqb-true (suc k) (suc first) same in omega (arith, here)

    judged_last : (halt : Halt) (first k : ℕ) (fate : Fate) → IsLastAmong halt takings (name_of client (suc first))
        → (if is_quitting halt && nat_eq (suc k) (suc first) then Some no_fate else None) ≡ Some fate → IsFated takings k fate
    judged_last Waits first k fate last is = none_some None fate refl is
    judged_last Rests first k fate last is = none_some None fate refl is
    judged_last Ends first k fate last is = none_some None fate refl is
    judged_last Quits first k fate last is = at_last (nat_eq (suc k) (suc first)) refl is where
      at_last : (b : Bool) → nat_eq (suc k) (suc first) ≡ b → (if b then Some no_fate else None) ≡ Some fate → IsFated takings k fate
      at_last true same has =
          subst (IsFated takings k) (same_Some no_fate fate has)
          (subst (λ (n : ℕ). IsFated takings n no_fate) (at_same first k same) (unfated first last.0 last.1))
      at_last false other has = none_some None fate refl has

    pub judged_at : (was end : Administered) (choices : List Choice) (halt : Halt) (first k : ℕ) (fate : Fate)
        → JudgedFrom (by was end) setup plan client takings first choices halt → fate_in choices halt (suc first) (suc k) ≡ Some fate
        → IsFated takings k fate
    judged_at was end [] halt first k fate judged is = judged_last halt first k fate judged.0.0 is
    judged_at was end (choice ∷ others) halt first k fate judged is =
        at_first (nat_eq (suc k) (suc first)) refl is (judged_at judged.0 end others halt (suc first) k fate judged.1.1) where
          at_first : (b : Bool) → nat_eq (suc k) (suc first) ≡ b
              → (if b then Some (fate_of choice) else fate_in others halt (suc (suc first)) (suc k)) ≡ Some fate
              → (fate_in others halt (suc (suc first)) (suc k) ≡ Some fate → IsFated takings k fate) → IsFated takings k fate
          at_first true same has later =
              subst (λ (n : ℕ). IsFated takings n fate) (at_same first k same)
              (subst (IsFated takings first) (same_Some (fate_of choice) fate has) (judged_first was judged.0 first choice judged.1.0))
          at_first false other has later = later has

    pub judged_none : (was : Administered) (k : ℕ) (choices : List Choice) (halt : Halt) → taken_by choices halt ≡ 0 → quits_by halt ≡ false
        → JudgedFrom (by was was) setup plan client takings k choices halt
    judged_none was k [] Waits none stays = ((tt, tt), refl)
    judged_none was k [] Rests none stays = ((tt, tt), refl)
    judged_none was k [] Ends none stays = absurd (true≢false stays)
    judged_none was k [] Quits none stays = absurd (omega (arith, none))
    judged_none was k (choice ∷ others) halt none stays = absurd (omega (arith, none))

-- what is decided of those that are known is decided
pub fate_among : (b : Bool) (choices : List Choice) (halt : Halt) (first ordinal : ℕ) (fate : Fate)
    → fate_in (if b then choices else []) (if b then halt else Rests) first ordinal ≡ Some fate → fate_in choices halt first ordinal ≡ Some fate
fate_among true choices halt first ordinal fate is = is
fate_among false choices halt first ordinal fate is = none_some None fate refl is

-- whose deeds give nobody up
pub none_sent : (plan : Plan) (tale : Tale) (given : ClientNo → Option (List ℕ)) → ((c : ClientNo) → given c ≡ None)
    → AreSent plan tale (λ c. is_some (given c))
none_sent plan tale given none = λ k dflt within some.
    false_true (is_some (given (slice_index_or tale.clients k dflt).number)) (ap is_some (none (slice_index_or tale.clients k dflt).number)) some

-- Clients are ended behind their turns for a cause alone.
abbrev pub PartsThen : Service → Log → Entry → Decided → Counts → Deeds → Type 0
PartsThen service log e d n deeds =
    (setup : Setup) (codes : Codes) (plan : Plan) → IsOf (decided_with deeds n log e d) (length (with_entry log e)) plan
    → Fits (decided_with deeds n log e d).keys setup codes plan service.default_schema (tale_of setup plan (with_entry log e))
    → (c : ClientNo) (end : Option Word) → deeds.ends c ≡ Some end → IsPartCause service.buffer_budget setup plan log e c end

-- and take up nothing
pub judges_none : (service : Service) (log : Log) (e : Entry) (d : Decided) (n : Counts) (deeds : Deeds) (was : Administered)
    → ((c : ClientNo) → taken_by (deeds.calls c) (deeds.halts c) ≡ 0) → ((c : ClientNo) → quits_by (deeds.halts c) ≡ false) → ((c : ClientNo) → deeds.given c ≡ None)
    → PartsThen service log e d n deeds → JudgesThen service log e d n deeds was was
judges_none service log e d n deeds was none stay ungiven parts setup codes plan of fits = record {
  states = λ number. was;
  begins = refl;
  ends = refl;
  forced = λ c some. let no : taken_by (deeds.calls c) (deeds.halts c) ≡ 0 = none c in absurd (omega (arith, some, no));
  takes = λ client seated.
      judged_none (book_of service) setup plan client (takings_at setup plan (tale_of setup plan log) e) was (n.taken client.number)
      (deeds.calls client.number) (deeds.halts client.number) (none client.number) (stay client.number);
  gives = none_sent plan (tale_of setup plan log) deeds.given ungiven;
  why = λ c payload is. none_some (deeds.given c) payload (ungiven c) is;
  parts = parts setup codes plan of fits;
}

none_either : (b : Bool) → taken_by (if b then [] else []) (if b then Rests else Rests) ≡ 0
none_either true = refl
none_either false = refl

stays_either : (b : Bool) → quits_by (if b then Rests else Rests) ≡ false
stays_either true = refl
stays_either false = refl

pub judges_of_none : (service : Service) (log : Log) (e : Entry) (d : Decided) (n : Counts) (c : ClientNo) (last : Option (Option Word)) (was : Administered)
    → PartsThen service log e d n (parting c last (taking c [] Rests no_deeds))
    → JudgesThen service log e d n (parting c last (taking c [] Rests no_deeds)) was was
judges_of_none service log e d n c last was parts =
    judges_none service log e d n (parting c last (taking c [] Rests no_deeds)) was (λ x. none_either (nat_eq c.0 x.0)) (λ x. stays_either (nat_eq c.0 x.0)) (λ x. refl)
    parts

-- who takes them up alone
pub judges_taking : (service : Service) (log : Log) (e : Entry) (d : Decided) (n : Counts) (c : ClientNo) (choices : List Choice) (halt : Halt)
    (last : Option (Option Word)) (was is : Administered) → was.rules ≡ rules_in service
    → ((setup : Setup) (codes : Codes) (plan : Plan) → IsOf (decided_with (parting c last (taking c choices halt no_deeds)) n log e d) (length (with_entry log e)) plan
    → Fits (decided_with (parting c last (taking c choices halt no_deeds)) n log e d).keys setup codes plan service.default_schema (tale_of setup plan (with_entry log e))
    → IsNumbered (tale_of setup plan (with_entry log e)) c × ((client : Client) → IsSeated (tale_of setup plan (with_entry log e)) client → client.number ≡ c
    → JudgedFrom (judging_by service was is) setup plan client (takings_at setup plan (tale_of setup plan log) e) (n.taken c) choices halt))
    → PartsThen service log e d n (parting c last (taking c choices halt no_deeds))
    → JudgesThen service log e d n (parting c last (taking c choices halt no_deeds)) was is
judges_taking service log e d n c choices halt last was is settled judged parts setup codes plan of fits = record {
  states = one_state c was is;
  begins = one_begins (tale_of setup plan (with_entry log e)) c was is (judged setup codes plan of fits).0;
  ends = one_ends (tale_of setup plan (with_entry log e)) c was is (judged setup codes plan of fits).0;
  forced = λ other some. settled;
  takes = λ client seated. by_one client seated (nat_eq c.0 client.number.0) refl;
  gives = none_sent plan (tale_of setup plan log) (λ x. None) (λ x. refl);
  why = λ x payload is. none_some None payload refl is;
  parts = parts setup codes plan of fits;
} where
  Judged : Client → (a b : Administered) → ClientNo → List Choice → Halt → Type 0
  Judged client a b x taken_up how = JudgedFrom (judging_by service a b) setup plan client (takings_at setup plan (tale_of setup plan log) e) (n.taken x) taken_up how

  by_one : (client : Client) → IsSeated (tale_of setup plan (with_entry log e)) client → (b : Bool) → nat_eq c.0 client.number.0 ≡ b
      → Judged client (one_state c was is client.number.0) (one_state c was is (suc client.number.0)) client.number (if b then choices else [])
      (if b then halt else Rests)
  by_one client seated false other = ((tt, tt), others_state c was is client.number.0 other)
  by_one client seated true its =
      let same : c ≡ client.number = client_of c client.number its in
      subst (λ (x : ClientNo). Judged client (one_state c was is x.0) (one_state c was is (suc x.0)) x choices halt) same
      (its_state c was is (λ (a b : Administered). Judged client a b c choices halt) ((judged setup codes plan of fits).1 client seated (sym same)))

-- No more was taken up of a client than its messages.

all_within : (setup : Setup) (plan : Plan) (log : Log) (tale : Tale) → AreNumbered 1 tale.clients → Each (IsWithin setup plan) tale.clients
    → Each (IsWithin setup plan) (fold (tale_step setup plan) tale log).clients
all_within setup plan [] tale are all = all
all_within setup plan (e ∷ log) tale are all =
    all_within setup plan log (tale_step setup plan tale e) (numbered_step setup plan tale e are) (within_step setup plan tale e are all)

pub within_of : (setup : Setup) (plan : Plan) (log : Log) → All (IsWithin setup plan) (tale_of setup plan log).clients
within_of setup plan log = each-all (IsWithin setup plan) (tale_of setup plan log).clients (all_within setup plan log first_tale tt tt)

-- Messages stay as more is read.

get_front : (xs ys : List Framed) (k : ℕ) → k < length xs → slice_get (xs ++ ys) k ≡ slice_get xs k
get_front [] ys k less = absurd (omega (arith, less))
get_front (x ∷ xs) ys zero less = refl
get_front (x ∷ xs) ys (suc k) less = get_front xs ys k (omega (arith, less))

pub message_stays : (plan : Plan) (was now : Client) (more : List ℕ) (k : ℕ) → now.number ≡ was.number → now.port ≡ was.port → now.salt ≡ was.salt
    → now.read ≡ was.read ++ more → k < length (messages plan was) → slice_get (messages plan now) k ≡ slice_get (messages plan was) k
message_stays plan was now more k number port salt read less =
    let longer : messages plan now ≡ messages plan (record was { read = was.read ++ more }) =
    λ i. messages plan (record was { number = number i; port = port i; salt = salt i; read = read i }) in
    let grown = messages_more (talk_of plan was) more in
    ap (λ (ms : List Framed). slice_get ms k) (longer ∙ grown.is) ∙ get_front (messages plan was) grown.later k less

-- Behind an entry.

pub given_among : (b : Bool) (given : Option (List ℕ)) → is_some (if b then given else None) ≡ true → is_some given ≡ true
given_among true given some = some
given_among false given some = false_true false refl some

module _ (service : Service) (log : Log) (e : Entry) (d : Decided) (n : Counts) (deeds : Deeds) (recorded : IsRecorded d n log) (rules : MessageName → List Rule)
    (setup : Setup) (plan : Plan) (of : IsOf (decided_with deeds n log e d) (length (with_entry log e)) plan)
    (before : AreCountsOf n (tale_of setup plan log)) (counts : AreCountsOf (counts_with deeds n log e) (tale_of setup plan (with_entry log e)))
    (was : All (AreJudged (book_of service) rules setup plan log) (tale_of setup plan log).clients)
    (before_then behind_then : Administered) (judged : IsJudgedThen service log e n deeds setup plan before_then behind_then) where
  abbrev book : Rulebook
  book = book_of service

  abbrev then_rules : MessageName → List Rule
  then_rules = rules_then n rules (rules_in service)

  abbrev old : Tale
  old = tale_of setup plan log

  abbrev new : Tale
  new = tale_of setup plan (with_entry log e)

  abbrev made : Deeds
  made = among (known_with log e) deeds

  abbrev now : ℕ
  now = suc (length log)

  of_now : IsOf (decided_by made n log e now d) now plan
  of_now = subst (λ (k : ℕ). IsOf (decided_by made n log e k d) k plan) (one_more log e) of

  module _ (client : Client) (seated : IsSeated new client) (k : ℕ) (message : Framed) (at : slice_get (messages plan client) k ≡ Some message) where
    abbrev c : ClientNo
    c = client.number

    abbrev name : MessageName
    name = name_of client (suc k)

    abbrev IsJudgedBy : Log → Type 0
    IsJudgedBy past = IsJudged (book_for book then_rules name) setup plan past name message.payload

    abbrev takings : List Taking
    takings = takings_at setup plan old e

    -- its moment is that of the log
    own_now : own_at plan (length (with_entry log e)) name ≡ own_at plan now name
    own_now = ap (λ (moment : ℕ). own_at plan moment name) (one_more log e)

    -- It was taken up before: what is given up goes to a server, so else it is answered as it was.

    module _ (x : Client) (there : IsSeated old x) (number : c ≡ x.number) (less : k < n.taken c) where
      count : x.taken ≡ n.taken x.number
      count = seated_of (λ (y : Client). y.taken ≡ n.taken y.number) old x there before.taken

      named : n.taken c ≡ n.taken x.number
      named = ap n.taken number

      sent : is_some (made.given c) ≡ true → suc k ≡ n.taken c → is_some (plan.routes name) ≡ true
      sent given last =
          let ordinal : suc k ≡ x.taken = last ∙ named ∙ sym count in
          let some : is_some (deeds.given x.number) ≡ true =
          subst (λ (m : ClientNo). is_some (deeds.given m) ≡ true) number (given_among (nat_le c.0 (known_with log e)) (deeds.given c) given) in
          (λ i. is_some (plan.routes (record { client = number i; ordinal = ordinal i })))
          ∙ seated_of (λ (y : Client). is_some (deeds.given y.number) ≡ true → is_some (plan.routes (name_of y y.taken)) ≡ true) old x there judged.gives some

      stays : (is_some (made.given c) && nat_eq (suc k) (n.taken c)) ≡ false → own_at plan now name ≡ own_at plan (length log) name
      stays kept = (own_so d n log e made (length log) plan recorded refl of_now name (omega (arith, less)) kept).0

      own_stays : plan.routes name ≡ None → own_at plan now name ≡ own_at plan (length log) name
      own_stays unrouted = by (is_some (made.given c)) (nat_eq (suc k) (n.taken c)) refl refl where
        by : (a b : Bool) → is_some (made.given c) ≡ a → nat_eq (suc k) (n.taken c) ≡ b → own_at plan now name ≡ own_at plan (length log) name
        by false b given last = stays (λ i. given i && last i)
        by true false given last = stays (λ i. given i && last i)
        by true true given last =
            false_true (is_some (plan.routes name)) (ap is_some unrouted) (sent given (eqb-true (suc k) (n.taken c) last))

      old_judged : client.port ≡ x.port → client.salt ≡ x.salt → (more : List ℕ) → client.read ≡ x.read ++ more → IsJudgedBy (with_entry log e)
      old_judged port salt more read =
          let within : x.taken ≤ length (messages plan x) = seated_of (IsWithin setup plan) old x there (within_of setup plan log) in
          let early : k < x.taken = omega (arith, less, count, named) in
          let there_at : slice_get (messages plan x) k ≡ Some message =
          sym (message_stays plan x client more k number port salt read (omega (arith, early, within))) ∙ at in
          let before_now : IsJudged (book_for book rules name) setup plan log name message.payload =
          subst (λ (m : ClientNo). IsJudged (book_for book rules (record { client = m; ordinal = suc k })) setup plan log (record { client = m; ordinal = suc k })
          message.payload) (sym number)
          (seated_of (AreJudged book rules setup plan log) old x there was k message early there_at) in
          let so_far : IsJudgedBy log =
          subst (λ (b : Bool). IsJudged (record book { rules = if b then rules name else rules_in service }) setup plan log name message.payload)
          (sym (le-leb (suc k) (n.taken c) (omega (arith, less)))) before_now in
          record {
            taking = so_far.taking;
            taken = taken_before setup plan log e name so_far.taking so_far.taken;
            goes = so_far.goes;
            tells = λ payloads unrouted own. so_far.tells payloads unrouted (sym (own_stays unrouted) ∙ sym own_now ∙ own);
          }

    came_by : (by : Entry) → HasCome old by client → n.taken c ≡ 0
    came_by (entry.Accepted port link salt) come =
        let last : c.0 ≡ length old.clients + 1 = ap (λ (m : ClientNo). m.0) come.number in
        let size : length old.clients ≡ length (accepted_links log) = (is_tale_of setup plan log).clients in
        (recorded.strangers c (omega (arith, last, size))).untaken
    came_by by come = absurd come

    taken_up_before : k < n.taken c → WasThere plan old e client ⊎ HasCome old e client → IsJudgedBy (with_entry log e)
    taken_up_before less (inl x) =
        old_judged x.was x.seated x.continued.number less x.continued.port x.continued.salt x.continued.more x.continued.read
    taken_up_before less (inr come) = let none : n.taken c ≡ 0 = came_by e come in absurd (omega (arith, less, none))

    -- it is taken up now

    abbrev known : Bool
    known = nat_le c.0 (known_with log e)

    taken_then : k < client.taken → n.taken c ≤ k → (found : Option Fate) → fate_at made n name ≡ found → is_some found ≡ true → IsJudgedBy (with_entry log e)
    taken_then less least None is some = false_true false refl some
    taken_then less least (Some mine) is some =
        let has : HasFate plan now name mine = fate_so d n log e made (length log) plan recorded refl of_now name mine is (omega (arith, least)) in
        let fated : IsFated book setup plan client takings k mine =
        judged_at book setup plan client takings (judged.states c.0) (judged.states (suc c.0)) (deeds.calls c) (deeds.halts c) (n.taken c) k mine
        (judged.takes client seated) (fate_among known (deeds.calls c) (deeds.halts c) (suc (n.taken c)) (suc k) mine is) in
        let none : nat_le (suc k) (n.taken c) ≡ false = lt-leb (suc k) (n.taken c) (omega (arith, least)) in
        let P : Bool → Type 0 = λ b. IsJudged (record book { rules = if b then rules name else rules_in service }) setup plan (with_entry log e) name message.payload in
        subst P (sym none) (record {
          taking = fated.taking;
          taken = taken_now setup plan log e name fated.taking fated.among;
          goes = λ route goes. fated.goes message route at (sym has.routed ∙ goes);
          tells = λ payloads unrouted own. fated.tells message payloads at (sym has.own ∙ sym own_now ∙ own);
        })

    each : k < client.taken → IsJudgedBy (with_entry log e)
    each less = by (nat_lt k (n.taken c)) refl where
      count_now : client.taken ≡ n.taken c + taken_by (made.calls c) (made.halts c)
      count_now = seated_of (λ (y : Client). y.taken ≡ (counts_with deeds n log e).taken y.number) new client seated counts.taken

      by : (b : Bool) → nat_lt k (n.taken c) ≡ b → IsJudgedBy (with_entry log e)
      by true early =
          taken_up_before (ltb-true k (n.taken c) early)
          (seated_of (λ (z : Client). WasThere plan old e z ⊎ HasCome old e z) (tale_step setup plan old e) client
          (subst (λ (tale : Tale). IsSeated tale client) (tale_more setup plan log e) seated)
          (all_were setup plan old e (is_tale_of setup plan log).counted))
      by false late =
          let least : n.taken c ≤ k = ltb-false k (n.taken c) late in
          taken_then less least (fate_at made n name) refl
          (fate_there (made.calls c) (made.halts c) (suc (n.taken c)) (suc k) (omega (arith, least)) (omega (arith, less, count_now)))

  pub judged_then : All (AreJudged book then_rules setup plan (with_entry log e)) new.clients
  judged_then = λ i dflt within k message less at.
      let client : Client = slice_index_or new.clients i dflt in
      each client (counted_seats new (is_tale_of setup plan (with_entry log e)).counted i dflt within) k message at less
