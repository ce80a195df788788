-- A query goes to its user's default hostgroup, where no transaction is open and no rule sends it elsewhere.
use Rattle.std.specs.Prelude.{◌≡◌, ◌||◌, ℕ, Bool, true, false, List, [], ◌∷◌, Option, Some, None, refl, if◌then◌else◌, unwrap_or}
use Rattle.std.proofs.Common.{sym, ap, subst, ◌∙◌}
use Rattle.pin_classifier.specs.declared.class.Class.{Class}
use Rattle.query_rules.specs.Effects.{is_first_flag}
use Rattle.query_rules.specs.Passing.{route_of}
use Rattle.query_rules.specs.declared.ask.Ask.{Ask}
use Rattle.query_rules.specs.declared.ask.Routed.{Routed}
use Rattle.query_rules.specs.declared.ask.Stop.{Stop}
use Rattle.query_rules.specs.declared.ask.Stop.TheVariants as stop
use Rattle.query_rules.specs.declared.rule.Rule.{Rule}
use Rattle.server_rule.specs.Classes.{router_reads}
use Rattle.session_state.specs.declared.place.Place.{Place}
use Rattle.private_model.specs.Names.{ClientNo, Hostgroup}
use Rattle.private_model.specs.Story.{Key}
use Rattle.log_story.specs.Plan.{Route, com_query}
use Rattle.router_promises.specs.Verdicts.{Goes, Tells, Verdict, Wanted, is_connection_id}
use Rattle.message_judge.specs.Judging as judging
use Rattle.core_promises.specs.Judges.{IsClosed, IsOpenIn, IsRoutedFor, IsTransaction, IsVerdictFor, Knowledge, Rulebook, Situation, transaction_of, verdict_on}
use Rattle.core_promises.specs.Wrong.{StaysIn}
use Rattle.core_promises.proofs.Wanted.{OfGoing, OfSending, classed, drafted}

abbrev IsThere : (home : Hostgroup) → Verdict → Type 0
IsThere home verdict = OfGoing (λ (wanted : Wanted). wanted.route.hostgroup ≡ home) verdict

abbrev IsDraftThere : (home : Hostgroup) → judging.Draft → Type 0
IsDraftThere home draft = OfSending (λ (wanted : Wanted). wanted.route.hostgroup ≡ home) draft

-- by what is known of its client
module _ (rules : List Rule) (known : Knowledge) (home : Hostgroup) where
  -- where a query goes that the rules leave so
  abbrev GoesThere : Routed → Type 0
  GoesThere routed =
      judging.hostgroup_for known.caller known.standing (router_reads.class routed.text) routed.hostgroup ≡ home

  ruled : (routed : Routed) (why : Option Stop) → GoesThere routed
      → IsDraftThere home (judging.ruled router_reads known.caller known.standing routed None why)
  ruled routed None there =
      classed (λ (wanted : Wanted). wanted.route.hostgroup ≡ home) (router_reads.class routed.text) (router_reads.class routed.text).refusal _
      (λ free named. there)
  ruled routed (Some (stop.Error text)) there = tt
  ruled routed (Some (stop.Ok text)) there = tt

  asked : (text : List ℕ) → GoesThere (judging.pass_of rules known.caller text)
      → IsDraftThere home (judging.asks router_reads rules known.caller known.standing text).draft
  asked text there = by (is_connection_id (router_reads.class text).shape) where
    by : (asks : Bool)
        → IsDraftThere home (if asks then judging.still known.caller (judging.connection_id known.caller known.standing)
        else judging.by_pass router_reads known.caller known.standing (judging.pass_of rules known.caller text) None).draft
    by true = tt
    by false = ruled (judging.pass_of rules known.caller text) (judging.pass_of rules known.caller text).stop there

  query-there : (text : List ℕ) → GoesThere (judging.pass_of rules known.caller text) → IsThere home (verdict_on rules known (com_query ∷ text))
  query-there text there =
      drafted (λ (wanted : Wanted). wanted.route.hostgroup ≡ home) known.pins known.is_there
      (judging.asks router_reads rules known.caller known.standing text).draft (asked text there)

  closed-there : known.standing.transaction ≡ None → (routed : Routed) → StaysIn home routed → GoesThere routed
  unfolding router_reads
  closed-there closed routed stays =
      let class : Class = router_reads.class routed.text in
      let other : Hostgroup = unwrap_or known.caller.last known.caller.home in
      ap (λ (h : Option Hostgroup). unwrap_or h (if class.reads_id || class.reads_diag then other else routed.hostgroup)) closed
      ∙ ap (λ (b : Bool). if b then other else routed.hostgroup) stays.reads
      ∙ stays.hostgroup

  open-there : known.standing.transaction ≡ Some home → (routed : Routed) → GoesThere routed
  open-there opened routed =
      let class : Class = router_reads.class routed.text in
      ap (λ (h : Option Hostgroup). unwrap_or h
      (if class.reads_id || class.reads_diag then unwrap_or known.caller.last known.caller.home else routed.hostgroup)) opened

-- in which hostgroup it is asked

closed-open : {A : Type 0} (b : Bool) → b ≡ false → b ≡ true → A
closed-open true isnt is = absurd (cc)
closed-open false isnt is = absurd (cc)

pub asked-closed : (book : Rulebook) (situation : Situation) (found : Option Hostgroup) → IsTransaction book situation found → IsClosed situation → found ≡ None
asked-closed book situation None is closed = refl
asked-closed book situation (Some hostgroup) is closed = closed-open (situation.pins hostgroup).tx (closed hostgroup) (is.in_transaction hostgroup refl)

asked-open : (book : Rulebook) (situation : Situation) (found : Option Hostgroup) (hostgroup : Hostgroup) → IsTransaction book situation found
    → IsOpenIn hostgroup situation → found ≡ Some hostgroup
asked-open book situation None hostgroup is opened = closed-open (situation.pins hostgroup).tx (is.none refl hostgroup) opened.in_transaction
asked-open book situation (Some other) hostgroup is opened = ap Some (opened.alone other (is.in_transaction other refl))

module _ (book : Rulebook) (situation : Situation) (keys : (key : ℕ) → Option Key) (c : ClientNo) (text : List ℕ) (route : Route)
    (routed : IsRoutedFor book situation keys c (com_query ∷ text) route) where
  abbrev for : IsVerdictFor book situation c (com_query ∷ text) (Goes routed.wanted)
  for = routed.is

  same : route.hostgroup ≡ routed.wanted.route.hostgroup
  same = sym (ap (λ (r : Route). r.hostgroup) routed.routed)

  pub goes-home : IsClosed situation
      → ((ask : Ask) → ask.text ≡ text → ask.user ≡ situation.user → ask.schema ≡ situation.place.schema → ask.default_hostgroup ≡ book.home situation.user
      → is_first_flag book.rules ask.flag ≡ true → StaysIn (book.home situation.user) (route_of book.rules ask)) → route.hostgroup ≡ book.home situation.user
  goes-home closed stays =
      let ask : Ask = record {
        user = for.known.caller.user;
        schema = for.known.caller.place.schema;
        flag = for.known.caller.flag;
        text = text;
        default_hostgroup = for.known.caller.home;
      } in
      same
      ∙ subst (IsThere (book.home situation.user)) (sym for.is)
      (query-there book.rules for.known (book.home situation.user) text
      (closed-there book.rules for.known (book.home situation.user) (asked-closed book situation for.known.standing.transaction for.transaction closed) (route_of book.rules ask)
      (stays ask refl for.login (ap (λ (p : Place). p.schema) for.place) for.home for.flag)))

  stays-open : (hostgroup : Hostgroup) → for.known.standing.transaction ≡ Some hostgroup → route.hostgroup ≡ hostgroup
  stays-open hostgroup opened =
      same
      ∙ subst (IsThere hostgroup) (sym for.is)
      (query-there book.rules for.known hostgroup text
      (open-there book.rules for.known hostgroup opened (judging.pass_of book.rules for.known.caller text)))

  pub stays-alone : (hostgroup : Hostgroup) → IsOpenIn hostgroup situation → route.hostgroup ≡ hostgroup
  stays-alone hostgroup opened = stays-open hostgroup (asked-open book situation for.known.standing.transaction hostgroup for.transaction opened)

  pub stays-first : (hostgroup : Hostgroup) → transaction_of book situation ≡ Some hostgroup → route.hostgroup ≡ hostgroup
  stays-first hostgroup opened = stays-open hostgroup (for.transaction.first hostgroup opened)
