-- What administrators made so far, behind an entry too.
use Rattle.std.specs.Prelude.{◌≡◌, ◌<◌, ◌≤◌, ◌+◌, ◌-◌, ◌&&◌, ◌++◌, ℕ, suc, Bool, true, false, All, fold, is_some, nat_eq, nat_le, if◌then◌else◌, length, map, slice_get, List, [], ◌∷◌, Option, Some, None}
use Rattle.std.proofs.Common.{refl, sym, ap, ◌∙◌, subst, arith}
use Rattle.std.proofs.lemmas.Bool.{eqb-true, le-leb, lt-leb}
use Rattle.std.proofs.lemmas.List.Elements.{All-head, All-tail}
use Rattle.mx_base.specs.declared.names.Port.{Port}
use Rattle.mx_base.specs.declared.names.Port.TheVariants.{Admin, Traffic}
use Rattle.mx_wire.specs.Log.{Log, accepted_links}
use Rattle.mx_wire.specs.declared.entry.Entry.{Entry}
use Rattle.packet_frame.specs.Packets.{Framed}
use Rattle.query_rules.specs.declared.rule.Rule.{Rule}
use Rattle.private_model.proofs.Maps.{same_number}
use Rattle.private_model.specs.Names.{ClientNo, MessageName}
use Rattle.private_model.specs.View.{Setup}
use Rattle.log_story.specs.Headline.{tale_of}
use Rattle.log_story.specs.Owed.{messages, name_of}
use Rattle.log_story.specs.Plan.{Plan, own_at}
use Rattle.log_story.specs.Tale.{Client, Tale, first_tale}
use Rattle.log_story.specs.Telling.{tale_step}
use Rattle.step_laws.proofs.Seating.{counted_seats}
use Rattle.step_laws.specs.Seats.{AreCounted, IsSeated}
use Rattle.tale_world.specs.Decided.{Decided}
use Rattle.core_service.specs.Serves.{rules_in}
use Rattle.core_service.specs.declared.service.Service.{Service}
use Rattle.core_laws.proofs.OfEntry.Going.{tale_more}
use Rattle.core_laws.proofs.OfEntry.Lists.{seated_of}
use Rattle.core_laws.specs.clients.Turns.{Answers, Choice, Ends, Goes, Halt, Quits, Rests, Waits}
use Rattle.core_laws.specs.entry.Cores.{with_entry}
use Rattle.core_laws.specs.entry.Tells.{IsOf}
use Rattle.router_promises.specs.Takings.{Taking, takings_at}
use Rattle.core_promises.specs.Administered.{AdministersAlong, AllTaken, AreTaken, IsTaken, MakesIf, Outcomes}
use Rattle.core_promises.specs.Administers.{Administered, Makes}
use Rattle.core_promises.specs.Judges.{Rulebook}
use Rattle.core_promises.specs.Ruled.{book_of}
use Rattle.router_laws.proofs.OfClients.Continuing.{all_there}
use Rattle.router_laws.proofs.OfDecisions.Fates.{HasFate, later_is}
use Rattle.router_laws.proofs.OfDecisions.Judging.{by, given_among}
use Rattle.router_laws.proofs.OfDecisions.Listing.{is_tale_of}
use Rattle.router_laws.proofs.OfDecisions.Planning.{fate_so, own_so}
use Rattle.router_laws.proofs.OfDecisions.Recording.{one_more}
use Rattle.router_laws.proofs.OfDecisions.Stating.{IsNumbered, numbered_in}
use Rattle.router_laws.specs.clients.Continues.{IsThere}
use Rattle.router_laws.specs.decisions.Administering.{AreOutcomes, IsOutcome}
use Rattle.router_laws.specs.decisions.Deeds.{Counts, Deeds, Fate, among, counts_with, decided_by, decided_with, fate_in, fate_of, known_with, no_fate, taken_by}
use Rattle.router_laws.specs.decisions.Force.{rules_then}
use Rattle.router_laws.specs.decisions.Judges.{IsJudgedAs, IsJudgedThen, JudgedFrom}
use Rattle.router_laws.specs.decisions.Records.{AreCountsOf, IsRecorded}

-- One more entry.
along_more : (outcomes : Outcomes) (setup : Setup) (plan : Plan) (tale : Tale) (log : Log) (e : Entry) (was mid is : Administered)
    → AdministersAlong outcomes setup plan tale log was mid
    → AllTaken outcomes plan (takings_at setup plan (fold (tale_step setup plan) tale log) e) mid.rules (fold (tale_step setup plan) tale log).clients
    (tale_step setup plan (fold (tale_step setup plan) tale log) e).clients mid is
    → AdministersAlong outcomes setup plan tale (log ++ e ∷ []) was is
along_more outcomes setup plan tale [] e was mid is along taken = (
  is,
  (
    subst (λ (a : Administered). AllTaken outcomes plan (takings_at setup plan tale e) a.rules tale.clients (tale_step setup plan tale e).clients a is) along taken,
    refl,
  ),
)
along_more outcomes setup plan tale (x ∷ log) e was mid is along taken =
    (along.0, (along.1.0, along_more outcomes setup plan (tale_step setup plan tale x) log e along.0 mid is along.1.1 taken))

-- What is answered by nobody makes nothing, and neither does what goes to a server.

makes_none : (found : Option Framed) (port : Port) (was : Administered) → MakesIf found port None was was
makes_none None port was = refl
makes_none (Some message) Traffic was = refl
makes_none (Some message) Admin was = refl

makes_routed : (found : Option Framed) (port : Port) (answer : Option (List (List ℕ))) (was is : Administered)
    → ((message : Framed) → found ≡ Some message → port ≡ Traffic) → is ≡ was → MakesIf found port answer was is
makes_routed None port answer was is routed same = same
makes_routed (Some message) port answer was is routed same =
    subst (λ (p : Port). Makes p message.payload answer was is) (sym (routed message refl)) same

-- Of one client, from the first of its messages that are taken up.
module _ (outcomes : Outcomes) (setup : Setup) (plan : Plan) (takings : List Taking) (book : Rulebook) (now : ℕ) (force : List Rule) (client : Client) (first : ℕ)
    (judged : (k : ℕ) → first ≤ k → k < client.taken → outcomes.rules (name_of client (suc k)) ≡ force)
    (answered : (k : ℕ) → k < client.taken → plan.routes (name_of client (suc k)) ≡ None
    → outcomes.answers (name_of client (suc k)) ≡ own_at plan now (name_of client (suc k))) where
  abbrev IsOne : (k : ℕ) → (was is : Administered) → Type 0
  IsOne k was is = IsTaken outcomes plan takings force client k was is

  abbrev found : (k : ℕ) → Option Framed
  found k = slice_get (messages plan client) k

  one_taken : (k : ℕ) → first ≤ k → k < client.taken → (choice : Choice) → HasFate plan now (name_of client (suc k)) (fate_of choice)
      → (was is : Administered) → IsJudgedAs (by book setup plan client was is) setup plan client takings k choice → IsOne k was is
  one_taken k least less (Goes route keyed) fate was is so = record {
    judged = judged k least less;
    taking = so.taking;
    among = so.among;
    makes = makes_routed (found k) so.taking.client.port (outcomes.answers (name_of client (suc k))) was is (λ message at. (so.is message at).port) so.made;
  }
  one_taken k least less (Answers payloads) fate was is so = record {
    judged = judged k least less;
    taking = so.taking;
    among = so.among;
    makes = subst (λ (answer : Option (List (List ℕ))). MakesIf (found k) so.taking.client.port answer was is)
        (sym (answered k less fate.routed ∙ fate.own)) so.made;
  }

  abbrev Fates : List Choice → Halt → (k : ℕ) → Type 0
  Fates choices halt k = (j : ℕ) (fate : Fate) → fate_in choices halt (suc k) (suc j) ≡ Some fate → k ≤ j → HasFate plan now (name_of client (suc j)) fate

  pub are_taken : (choices : List Choice) (halt : Halt) (k : ℕ) → first ≤ k → k + taken_by choices halt ≡ client.taken → Fates choices halt k
      → (was is : Administered) → JudgedFrom (by book setup plan client was is) setup plan client takings k choices halt
      → AreTaken outcomes plan takings force client k (taken_by choices halt) was is
  are_taken [] Waits k least count fates was is so = so.1
  are_taken [] Rests k least count fates was is so = so.1
  are_taken [] Ends k least count fates was is so = so.1
  are_taken [] Quits k least count fates was is so =
      let less : k < client.taken = omega (arith, count) in
      let fate : HasFate plan now (name_of client (suc k)) no_fate =
      fates k no_fate (ap (λ (b : Bool). if b then Some no_fate else None) (same_number (suc k))) (omega arith) in (
        was,
        (
          record {
            judged = judged k least less;
            taking = so.0.0.0;
            among = so.0.0.1;
            makes = subst (λ (answer : Option (List (List ℕ))). MakesIf (found k) so.0.0.0.client.port answer was was)
                (sym (answered k less fate.routed ∙ fate.own)) (makes_none (found k) so.0.0.0.client.port was);
          },
          so.1,
        ),
      )
  are_taken (choice ∷ others) halt k least count fates was is so =
      let size : taken_by (choice ∷ others) halt ≡ suc (taken_by others halt) = omega arith in
      let less : k < client.taken = omega (arith, count, size) in
      subst (λ (n : ℕ). AreTaken outcomes plan takings force client k n was is) (sym size) (
        so.0,
        (
          one_taken k least less choice
              (fates k (fate_of choice) (ap (λ (b : Bool). if b then Some (fate_of choice) else fate_in others halt (suc (suc k)) (suc k)) (same_number (suc k)))
              (omega arith)) was so.0 so.1.0,
          are_taken others halt (suc k) (omega (arith, least)) (omega (arith, count, size))
              (λ j fate is_in later. fates j fate (later_is choice others halt (suc k) (suc j) fate is_in) (omega (arith, later))) so.0 is so.1.1,
        ),
      )

-- Of all clients, in their order.
module _ (outcomes : Outcomes) (plan : Plan) (takings : List Taking) (force : List Rule) (states : (number : ℕ) → Administered) (taken : ClientNo → ℕ) (total : ℕ)
    (strangers : (c : ClientNo) → total < c.0 → taken c ≡ 0) where
  abbrev pub IsOurs : Client → Type 0
  IsOurs y =
      AreTaken outcomes plan takings force y (taken y.number) (y.taken - taken y.number) (states y.number.0) (states (suc y.number.0))

  -- by its number, and how many were taken up before
  ours_at : (y : Client) (from k : ℕ) → y.number.0 ≡ from → taken y.number ≡ k → IsOurs y
      → AreTaken outcomes plan takings force y k (y.taken - k) (states from) (states (suc from))
  ours_at y from k number count ours =
      subst (λ (n : ℕ). AreTaken outcomes plan takings force y n (y.taken - n) (states from) (states (suc from))) count
      (subst (λ (n : ℕ). AreTaken outcomes plan takings force y (taken y.number) (y.taken - taken y.number) (states n) (states (suc n))) number ours)

  pub all_taken : (from : ℕ) (olds news : List Client) → AreCounted from (map (λ (x : Client). x.number) olds)
      → AreCounted from (map (λ (x : Client). x.number) news) → All (λ (x : Client). x.taken ≡ taken x.number) olds → All IsOurs news
      → total < from + length olds → AllTaken outcomes plan takings force olds news (states from) (states (from + length news))
  all_taken from olds [] olds_are news_are counts ours beyond = ap states (let same : from + 0 ≡ from = omega arith in same)
  all_taken from [] (y ∷ ys) olds_are news_are counts ours beyond =
      let number : y.number.0 ≡ from = news_are.0 in
      let stranger : taken y.number ≡ 0 = strangers y.number (omega (arith, number, beyond)) in
      let end : suc from + length ys ≡ from + length (y ∷ ys) = omega arith in (
        states (suc from),
        (
          subst (λ (n : ℕ). AreTaken outcomes plan takings force y 0 n (states from) (states (suc from))) (let none : y.taken - 0 ≡ y.taken = omega arith in none)
              (ours_at y from 0 number stranger (All-head IsOurs y ys ours)),
          subst (λ (n : ℕ). AllTaken outcomes plan takings force [] ys (states (suc from)) (states n)) end
              (all_taken (suc from) [] ys tt news_are.1 counts (All-tail IsOurs y ys ours) (omega (arith, beyond))),
        ),
      )
  all_taken from (x ∷ xs) (y ∷ ys) olds_are news_are counts ours beyond =
      let old : x.number.0 ≡ from = olds_are.0 in
      let number : y.number.0 ≡ from = news_are.0 in
      let same : x.number ≡ y.number = λ i. record { 0 = (old ∙ sym number) i } in
      let count : taken y.number ≡ x.taken = ap taken (sym same) ∙ sym (All-head (λ (z : Client). z.taken ≡ taken z.number) x xs counts) in
      let end : suc from + length ys ≡ from + length (y ∷ ys) = omega arith in (
        states (suc from),
        (
          ours_at y from x.taken number count (All-head IsOurs y ys ours),
          subst (λ (n : ℕ). AllTaken outcomes plan takings force xs ys (states (suc from)) (states n)) end
              (all_taken (suc from) xs ys olds_are.1 news_are.1 (All-tail (λ (z : Client). z.taken ≡ taken z.number) x xs counts) (All-tail IsOurs y ys ours)
              (omega (arith, beyond))),
        ),
      )

-- Behind an entry.
module _ (service : Service) (log : Log) (e : Entry) (d : Decided) (n : Counts) (deeds : Deeds) (recorded : IsRecorded d n log) (rules : MessageName → List Rule)
    (setup : Setup) (plan : Plan) (of : IsOf (decided_with deeds n log e d) (length (with_entry log e)) plan)
    (before : AreCountsOf n (tale_of setup plan log)) (counts : AreCountsOf (counts_with deeds n log e) (tale_of setup plan (with_entry log e)))
    (first was is : Administered) (judged : IsJudgedThen service log e n deeds setup plan was is) (outcomes : Outcomes)
    (agree : AreOutcomes (rules_then n rules (rules_in service)) setup plan (with_entry log e) outcomes) where
  abbrev then_rules : MessageName → List Rule
  then_rules = rules_then n rules (rules_in service)

  abbrev old : Tale
  old = tale_of setup plan log

  abbrev new : Tale
  new = tale_of setup plan (with_entry log e)

  abbrev made : Deeds
  made = among (known_with log e) deeds

  abbrev now : ℕ
  now = suc (length log)

  abbrev takings : List Taking
  takings = takings_at setup plan old e

  of_now : IsOf (decided_by made n log e now d) now plan
  of_now = subst (λ (k : ℕ). IsOf (decided_by made n log e k d) k plan) (one_more log e) of

  -- its moment is that of the log
  own_now : (name : MessageName) → own_at plan (length (with_entry log e)) name ≡ own_at plan now name
  own_now name = ap (λ (moment : ℕ). own_at plan moment name) (one_more log e)

  -- What was taken up before is answered as it was.

  module _ (x : Client) (there : IsSeated old x) (k : ℕ) (less : k < x.taken) where
    abbrev name : MessageName
    name = name_of x (suc k)

    count : x.taken ≡ n.taken x.number
    count = seated_of (λ (y : Client). y.taken ≡ n.taken y.number) old x there before.taken

    sent : is_some (made.given x.number) ≡ true → suc k ≡ n.taken x.number → is_some (plan.routes name) ≡ true
    sent given last =
        let ordinal : suc k ≡ x.taken = last ∙ sym count in
        let some : is_some (deeds.given x.number) ≡ true = given_among (nat_le x.number.0 (known_with log e)) (deeds.given x.number) given in
        (λ i. is_some (plan.routes (record { client = x.number; ordinal = ordinal i })))
        ∙ seated_of (λ (y : Client). is_some (deeds.given y.number) ≡ true → is_some (plan.routes (name_of y y.taken)) ≡ true) old x there judged.gives some

    kept : (is_some (made.given x.number) && nat_eq (suc k) (n.taken x.number)) ≡ false → own_at plan now name ≡ own_at plan (length log) name
    kept not_given = (own_so d n log e made (length log) plan recorded refl of_now name (omega (arith, less, count)) not_given).0

    own_stays : plan.routes name ≡ None → own_at plan now name ≡ own_at plan (length log) name
    own_stays unrouted = by_given (is_some (made.given x.number)) (nat_eq (suc k) (n.taken x.number)) refl refl where
      by_given : (a b : Bool) → is_some (made.given x.number) ≡ a → nat_eq (suc k) (n.taken x.number) ≡ b → own_at plan now name ≡ own_at plan (length log) name
      by_given false b given last = kept (λ i. given i && last i)
      by_given true false given last = kept (λ i. given i && last i)
      by_given true true given last = (
          let some : is_some (plan.routes name) ≡ true = sent given (eqb-true (suc k) (n.taken x.number) last) in
          let no : false ≡ true = sym (ap is_some unrouted) ∙ some in absurd (cc)
          )

    -- it is there behind the entry
    goes_on : IsThere plan old e (tale_step setup plan old e) x
    goes_on =
        seated_of (λ (y : Client). IsThere plan old e (tale_step setup plan old e) y) old x there (all_there setup plan old e (is_tale_of setup plan log).counted)

    outcome_then : IsOutcome then_rules plan (length (with_entry log e)) outcomes name
    outcome_then =
        let more : x.taken ≤ goes_on.now.taken = goes_on.continued.taken in
        subst (λ (c : ClientNo). IsOutcome then_rules plan (length (with_entry log e)) outcomes (record { client = c; ordinal = suc k })) goes_on.continued.number
        (agree goes_on.now (subst (λ (tale : Tale). IsSeated tale goes_on.now) (sym (tale_more setup plan log e)) goes_on.seated) k (omega (arith, less, more)))

    outcome_was : IsOutcome rules plan (length log) outcomes name
    outcome_was = record {
      judged = outcome_then.judged
          ∙ ap (λ (b : Bool). if b then rules name else rules_in service) (le-leb (suc k) (n.taken x.number) (omega (arith, less, count)));
      answered = λ unrouted. outcome_then.answered unrouted ∙ own_now name ∙ own_stays unrouted;
    }

  pub agreed : AreOutcomes rules setup plan log outcomes
  agreed = outcome_was

  -- What is taken up now.

  module _ (y : Client) (seated : IsSeated new y) where
    abbrev c : ClientNo
    c = y.number

    known : nat_le c.0 (known_with log e) ≡ true
    known =
        let within : IsNumbered new c = numbered_in setup plan (with_entry log e) y seated in
        let most : c.0 ≤ length new.clients = within.most in
        let size : length new.clients ≡ known_with log e = (is_tale_of setup plan (with_entry log e)).clients in
        le-leb c.0 (known_with log e) (omega (arith, most, size))

    abbrev calls : List Choice
    calls = deeds.calls c

    abbrev halt : Halt
    halt = deeds.halts c

    count_now : y.taken ≡ n.taken c + taken_by calls halt
    count_now =
        seated_of (λ (z : Client). z.taken ≡ (counts_with deeds n log e).taken z.number) new y seated counts.taken
        ∙ ap (λ (b : Bool). n.taken c + taken_by (if b then calls else []) (if b then halt else Rests)) known

    fates : (j : ℕ) (fate : Fate) → fate_in calls halt (suc (n.taken c)) (suc j) ≡ Some fate → n.taken c ≤ j → HasFate plan now (name_of y (suc j)) fate
    fates j fate is_in least =
        fate_so d n log e made (length log) plan recorded refl of_now (name_of y (suc j)) fate
        (ap (λ (b : Bool). fate_in (if b then calls else []) (if b then halt else Rests) (suc (n.taken c)) (suc j)) known ∙ is_in) (omega (arith, least))

    by_force : (k : ℕ) → n.taken c ≤ k → k < y.taken → outcomes.rules (name_of y (suc k)) ≡ was.rules
    by_force k least less =
        let some : 0 < taken_by calls halt = omega (arith, least, less, count_now) in
        (agree y seated k less).judged
        ∙ ap (λ (b : Bool). if b then rules (name_of y (suc k)) else rules_in service) (lt-leb (suc k) (n.taken c) (omega (arith, least)))
        ∙ sym (judged.forced c some)

    ours : AreTaken outcomes plan takings was.rules y (n.taken c) (y.taken - n.taken c) (judged.states c.0) (judged.states (suc c.0))
    ours =
        let size : taken_by calls halt ≡ y.taken - n.taken c = omega (arith, count_now) in
        subst (λ (m : ℕ). AreTaken outcomes plan takings was.rules y (n.taken c) m (judged.states c.0) (judged.states (suc c.0))) size
        (are_taken outcomes setup plan takings (book_of service) now was.rules y (n.taken c) by_force
        (λ k less unrouted. (agree y seated k less).answered unrouted ∙ own_now (name_of y (suc k))) calls halt (n.taken c) (omega arith) (sym count_now) fates
        (judged.states c.0) (judged.states (suc c.0)) (judged.takes y seated))

  all_ours : AllTaken outcomes plan takings was.rules old.clients new.clients (judged.states 1) (judged.states (1 + length new.clients))
  all_ours =
      let size : length old.clients ≡ length (accepted_links log) = (is_tale_of setup plan log).clients in
      all_taken outcomes plan takings was.rules judged.states n.taken (length (accepted_links log)) (λ c beyond. (recorded.strangers c beyond).untaken) 1 old.clients
      new.clients (is_tale_of setup plan log).counted (is_tale_of setup plan (with_entry log e)).counted before.taken
      (λ k dflt within. ours _ (counted_seats new (is_tale_of setup plan (with_entry log e)).counted k dflt within)) (omega (arith, size))

  taken_then : AllTaken outcomes plan takings was.rules old.clients (tale_step setup plan old e).clients was is
  taken_then =
      let end : judged.states (1 + length new.clients) ≡ is = ap judged.states (let same : 1 + length new.clients ≡ suc (length new.clients) = omega arith in same) ∙ judged.ends in
      subst (λ (tale : Tale). AllTaken outcomes plan takings was.rules old.clients tale.clients was is) (tale_more setup plan log e)
      (subst (λ (a : Administered). AllTaken outcomes plan takings was.rules old.clients new.clients a is) judged.begins
      (subst (λ (a : Administered). AllTaken outcomes plan takings was.rules old.clients new.clients (judged.states 1) a) end all_ours))

  pub administers_then : AdministersAlong outcomes setup plan first_tale log first was → AdministersAlong outcomes setup plan first_tale (with_entry log e) first is
  administers_then along = along_more outcomes setup plan first_tale log e first was is along taken_then
