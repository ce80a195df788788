-- A wake, and an open that failed.
use Rattle.std.specs.Prelude.{◌≡◌, ◌&&◌, not, ℕ, suc, Bool, true, false, All, is_some, List, Option, Some, None, nat_eq}
use Rattle.std.specs.Option.{option_map, option_map_or}
use Rattle.std.proofs.Common.{refl, sym, ap, ◌∙◌, arith, inl, inr, subst}
use Rattle.std.proofs.lemmas.Bool.{and_left, true≢false}
use Rattle.std.proofs.lemmas.List.Elements.{All-weaker}
use Rattle.mx_base.specs.declared.names.Address.{Address}
use Rattle.mx_base.specs.declared.names.ServerId.{ServerId}
use Rattle.mx_wire.specs.Log.{Log}
use Rattle.mx_wire.specs.Tells.{MayFollow}
use Rattle.mx_wire.specs.declared.entry.Entry.{Entry}
use Rattle.mx_wire.specs.declared.entry.Entry.TheVariants.{OpenFailed, Woke}
use Rattle.core_service.specs.Serves.{rules_in}
use Rattle.core_service.specs.declared.service.Service.{Service}
use Rattle.client_session.specs.Setups.{Setup as Serving}
use Rattle.private_model.specs.Names.{ClientNo, LinkId}
use Rattle.log_story.specs.Owed.{name_of}
use Rattle.log_story.specs.Plan.{gives_up, is_before, Plan}
use Rattle.log_story.specs.Tale as tales
use Rattle.log_story.specs.Tale.{Tale, counted}
use Rattle.client_seat.specs.Seats.{is_ended}
use Rattle.step_laws.proofs.Apart.{counted_apart}
use Rattle.step_laws.proofs.Others.{idle_by}
use Rattle.step_laws.specs.Taken.{GivesUpNone, IsPassed, is_called as is_called_by}
use Rattle.core_tables.specs.Parting.{given_row}
use Rattle.core_tables.specs.Tables.{Tabled}
use Rattle.core_tables.specs.declared.client.Client.{Client}
use Rattle.core_stands.specs.Clients.{IsClientOr, IsPhase, IsClient}
use Rattle.core_stands.specs.Grounds.{Ground, view_on}
use Rattle.core_stands.specs.Stands.{IsAt, IsCalm, Rests, IsKnown, Stands}
use Rattle.core_laws.specs.entry.Cores.{with_entry}
use Rattle.core_laws.specs.clients.Going.{GivenUp}
use Rattle.core_promises.specs.Ruled.{ruling_of}
use Rattle.client_session.specs.Errors.{connection_refused}
use Rattle.core_promises.specs.Causes.{IsLateCause}
use Rattle.core_promises.specs.InForce.{has_administrator}
use Rattle.router_laws.proofs.OfDecisions.Causing.{all_why}
use Rattle.router_laws.proofs.OfDecisions.Noting.{late_why, any_seated}
use Rattle.router_laws.specs.decisions.Causes.{AreLate, AreRefused}
use Rattle.router_laws.specs.decisions.Noted.{WasNoted}
use Rattle.router_laws.specs.decisions.Plans.{HasDeeds, PlansSo}
use Rattle.core_promises.specs.Administers.{Administered}
use Rattle.router_laws.specs.decisions.Routers.{IsRouter, WaitsThen}
use Rattle.router_laws.specs.decisions.Rulings.{AreRuledAll}
use Rattle.router_laws.specs.decisions.Speaks.{IsGivenOurs}
use Rattle.router_laws.specs.reading.Hearing.{TellsFor}
use Rattle.router_laws.proofs.OfDecisions.JudgedOn.{TurnsJudge}
use Rattle.router_laws.specs.decisions.Held.{AreHeldSince}
use Rattle.router_laws.proofs.OfWakes.Entered.{AreCalled, IsOfNoLink, Knows, before_by, calls_router}
use Rattle.router_laws.proofs.OfWakes.Given.{all_given, some_given}
use Rattle.router_laws.specs.wakes.Calling.{Caller, is_called, is_given}
use Rattle.router_laws.specs.wakes.Deciding.{IsCallerOurs, calls_deeds, payload_in, found_in}
use Rattle.router_laws.specs.wakes.Waking.{FailsSo, WakesSo}
use Rattle.core_texts.specs.declared.texts.Texts.{Texts}
use Rattle.core_texts.specs.Texts.{key_at, noted_at}
use Rattle.private_model.proofs.Maps.{same_number}
use Rattle.private_model.specs.Story.{is_client}
use Rattle.private_model.specs.View.{Setup}
use Rattle.link_laws.specs.Stands.{Codes}
use Rattle.client_seat.specs.Stands.{IsEntering, IsHeardIn}
use Rattle.client_seat.specs.declared.phase.Phase.{Phase}
use Rattle.tale_world.specs.Decided.{Decided}
use Rattle.core_laws.proofs.OfParting.Same.{known_so}
use Rattle.core_laws.specs.entry.Tells.{ground}
use Rattle.core_promises.specs.Endings.{IsPartedAt, is_new}
use Rattle.router_laws.proofs.OfDecisions.Ending.{calls_end, or_left, or_right, part_cause}
use Rattle.router_laws.specs.decisions.Deeds.{Word}
use Rattle.router_laws.specs.decisions.Goings.{end_of}
use Rattle.router_laws.specs.decisions.Partings.{AreNotOusted, AreOusted, IsOusted, IsPartCause, IsPartedFor, IsUnknown}

woke_tells : (until_ms now_ms : ℕ) → IsOfNoLink (Woke until_ms now_ms)
woke_tells until_ms now_ms = record {
  told_same = λ setup plan tale. refl;
  unread = λ l. refl;
  unwritten = refl;
  uncome = λ tale client come. come;
  off = λ tale. tt;
  passes = λ setup plan tale. tt;
  closes = λ setup tale. tt;
  begins = λ setup tale made. tt;
  opens = λ was. refl;
}

fails_tells : (server : ServerId) (address : Address) → IsOfNoLink (OpenFailed server address)
fails_tells server address = record {
  told_same = λ setup plan tale. refl;
  unread = λ l. refl;
  unwritten = refl;
  uncome = λ tale client come. come;
  off = λ tale. tt;
  passes = λ setup plan tale. tt;
  closes = λ setup tale. tt;
  begins = λ setup tale made. tt;
  opens = λ was. refl;
}

-- Who is ended at a wake is it where an administrator came, or it isn't logged in.

new_there : (service : Serving) (g : Ground) (t : Tabled) (c : ClientNo) → Stands service g t → IsUnknown t c → is_new g.tale c ≡ true
new_there service g t c stands unknown =
    let found = known_so service g t c unknown.row stands unknown.there in
    let client : tales.Client = found.0 in
    let is : IsKnown g c client = found.1 in
    let own : IsClient g client unknown.row = found.2 in
    let entering : IsEntering g.plan client unknown.row.desk.seat =
    subst (λ (at : Phase). IsHeardIn at g.plan client unknown.row.desk.seat) unknown.unknown own.heard in
    any_seated (λ (x : tales.Client). is_client x.number c && nat_eq x.taken 0) g.tale client is.seated
    ((λ i. is_client (is.number i) c && nat_eq (entering.untaken i) 0) ∙ (λ i. same_number c.0 i && true))

ousted_cause : (service : Service) (setup : Setup) (codes : Codes) (plan : Plan) (d : Decided) (log : Log) (until_ms now_ms : ℕ) (t : Tabled) (roomy : ClientNo → Bool)
    → Rests service.setup (ground setup codes plan d log) t roomy → (callers : List Caller) → AreOusted service.buffer_budget (has_administrator log) t callers
    → (c : ClientNo) (end : Option Word) → option_map_or (λ (k : Caller). end_of k.parting) (found_in callers c) None ≡ Some end
    → IsPartCause service.buffer_budget setup plan log (Woke until_ms now_ms) c end
ousted_cause service setup codes plan d log until_ms now_ms t roomy rests callers ousted =
    calls_end (IsPartCause service.buffer_budget setup plan log (Woke until_ms now_ms)) callers
    (All-weaker (λ (k : Caller). IsPartedFor service.buffer_budget (IsOusted (has_administrator log) t k.client) k.parting)
    (λ (k : Caller). (end : Option Word) → end_of k.parting ≡ Some end → IsPartCause service.buffer_budget setup plan log (Woke until_ms now_ms) k.client end)
    (λ k why.
    part_cause service.buffer_budget setup plan log (Woke until_ms now_ms) k.client (IsOusted (has_administrator log) t k.client) (at_wake k.client) k.parting why)
    callers ousted) where
      at_wake : (c : ClientNo) → IsOusted (has_administrator log) t c → IsPartedAt setup plan log (Woke until_ms now_ms) c
      at_wake c (inl came) = or_left _ _ came
      at_wake c (inr unknown) = or_right _ _ (new_there service.setup (ground setup codes plan d log) t c rests.stands unknown)

module _ (service : Serving) (given : List GivenUp) (callers : List Caller) (log : Log) (e : Entry) (t : Tabled) (roomy : ClientNo → Bool)
    (theirs : (c : ClientNo) → is_given given c ≡ true → is_called callers c ≡ true) (g : Ground) (rests : Rests service g t roomy)
    (so : PlansSo g log e (calls_deeds given callers)) where
  abbrev called : ClientNo → Bool
  called = is_called callers

  abbrev heard : Tale
  heard = counted g.tale

  none_given : (c : ClientNo) → called c ≡ false → is_some (payload_in given c) ≡ false
  none_given c other = some_given given c ∙ by (is_given given c) refl where
    by : (b : Bool) → is_given given c ≡ b → is_given given c ≡ false
    by false is = is
    by true is = absurd (true≢false (sym (theirs c is) ∙ other))

  keeps_of : (x : tales.Client) → HasDeeds g (calls_deeds given callers) x → called x.number ≡ false → GivesUpNone g.plan (suc g.tale.moment) x
  keeps_of x has other = has.keeps (none_given x.number other)

  going_on : (x : tales.Client) → g.over x.number ≡ false → not (is_before (suc g.tale.moment) (g.plan.ends x.number)) ≡ true
  going_on x going = ap not (before_by g.tale.moment (g.plan.ends x.number) ∙ sym (rests.over x.number) ∙ going)

-- A wake.

module _ (service : Service) (given : List GivenUp) (callers : List Caller) (links : List LinkId) (log : Log) (until_ms now_ms : ℕ)
    (t now : Tabled) (roomy room : ClientNo → Bool) (wakes : WakesSo service.setup service.default_schema given callers links roomy t now) where
  abbrev e : Entry
  e = Woke until_ms now_ms

  abbrev those : ClientNo → Bool
  those = is_called callers

  module _ (g : Ground) (rests : Rests service.setup g t roomy) (so : PlansSo g log e (calls_deeds given callers)) where
    same_row : (c : ClientNo) → those c ≡ false → wakes.late.clients c ≡ t.clients c
    same_row c other =
        (all_given given t wakes.late wakes.gives).clients c
        ∙ ap (λ (payload : Option (List ℕ)). option_map (given_row payload) (t.clients c))
        (none_of (payload_in given c) (none_given service.setup given callers log e t roomy wakes.all_given g rests so c other))
        ∙ nothing (t.clients c)
      where
        none_of : (found : Option (List ℕ)) → is_some found ≡ false → found ≡ None
        none_of None is = refl
        none_of (Some payload) is = absurd (true≢false is)

        nothing : (found : Option Client) → option_map (given_row None) found ≡ found
        nothing None = refl
        nothing (Some row) = refl

    unended : (x : tales.Client) (row : Client) → (b : Bool) → IsPhase b g x row → g.over x.number ≡ false → b ≡ false
    unended x row false phase going = refl
    unended x row true phase going = absurd (true≢false (sym phase.over ∙ going))

    full_by : (x : tales.Client) → those x.number ≡ false → g.over x.number ≡ false → (found : Option Client) → t.clients x.number ≡ found → IsClientOr g x found
        → (b : Bool) → roomy x.number ≡ b → roomy x.number ≡ false
    full_by x other going found there is false none = none
    full_by x other going None there is true some = absurd (true≢false (sym is.over ∙ going))
    full_by x other going (Some row) there is true some =
        absurd (true≢false (sym (wakes.all_roomy x.number row some (same_row x.number other ∙ there)
        (unended x row (is_ended row.desk.seat.phase) is.phase going)) ∙ other))

    full : (x : tales.Client) → IsAt g t x → those x.number ≡ false → g.over x.number ≡ false → roomy x.number ≡ false
    full x at other going = full_by x other going (t.clients x.number) refl at.row (roomy x.number) refl

    abbrev IsThere : tales.Client → Type 0
    IsThere x = IsAt g t x × IsCalm g roomy x × HasDeeds g (calls_deeds given callers) x

    woke_idle : (x : tales.Client) → IsThere x → those x.number ≡ false → g.over x.number ≡ false
        → IsPassed g.setup g.plan (view_on g) e (counted g.tale) x
    woke_idle x is other going =
        inr (idle_by g.setup g.plan x g.tale (counted g.tale)
        (counted_apart g.setup g.plan x g.tale (keeps_of service.setup given callers log e t roomy wakes.all_given g rests so x is.2 other)).up
        (is.1 going (full x is.0 other going)))

    woke_called : AreCalled g e those roomy room
    woke_called = record {
      calls = All-weaker (HasDeeds g (calls_deeds given callers))
          (λ (x : tales.Client). g.over x.number ≡ false → those x.number ≡ true → is_called_by g.plan (suc g.tale.moment) (view_on g) e x ≡ true)
          (λ x has going its. going_on service.setup given callers log e t roomy wakes.all_given g rests so x going) g.tale.clients so.each;
      passes = All-weaker IsThere
          (λ (x : tales.Client). those x.number ≡ false → g.over x.number ≡ false → IsPassed g.setup g.plan (view_on g) e (counted g.tale) x) woke_idle
          g.tale.clients (λ i x within. (rests.stands.clients.each i x within, rests.calm i x within, so.each i x within));
      rooms = All-weaker (IsAt g t)
          (λ (x : tales.Client). those x.number ≡ false → g.over x.number ≡ false → room x.number ≡ false → roomy x.number ≡ false)
          (λ x at other going none. full x at other going) g.tale.clients rests.stands.clients.each;
    }

  pub woke_router : {texts : Texts} {admin : Administered} → Knows service.setup → (router : IsRouter service texts admin log t roomy) → MayFollow log e → All IsGivenOurs given
      → AreLate service.wait_ms now_ms (has_administrator log) (noted_at texts) t given
      → All (IsCallerOurs (rules_in service) texts) callers → AreOusted service.buffer_budget (has_administrator log) t callers
      → WaitsThen service log e router.core.decided → TurnsJudge
      → (is : Administered) → admin.rules ≡ rules_in service
      → AreRuledAll (ruling_of service texts.since (key_at texts) admin is) callers service.setup service.default_schema wakes.late wakes.calls.turned wakes.calls.going
      → AreHeldSince texts service.default_schema router.core.decided log
      → All (λ (k : Caller). TellsFor k.parting service.setup k.client) callers → IsRouter service texts is (with_entry log e) now room
  woke_router {texts} {admin} knows router may given_ours late ours ousted waits judges is settled ruled since tells =
      calls_router service knows log e (woke_tells until_ms now_ms) t wakes.late now roomy room given callers links router may wakes.gives wakes.all_given
      wakes.calls given_ours ours waits judges
      (λ setup codes plan of fits c payload told.
      late_why service log t roomy router service.wait_ms now_ms (has_administrator log) setup codes plan of fits c payload
      (all_why (λ x p. IsLateCause service.wait_ms now_ms (has_administrator log) (WasNoted (noted_at texts) t x) p) given late c payload told))
      (λ setup codes plan of fits.
      ousted_cause service setup codes plan router.core.decided log until_ms now_ms t roomy (router.core.rests setup codes plan of fits) callers ousted) is settled
      ruled since tells woke_called

-- An open that failed.

module _ (service : Service) (given : List GivenUp) (callers : List Caller) (links : List LinkId) (log : Log) (server : ServerId)
    (address : Address) (t now : Tabled) (roomy : ClientNo → Bool) (fails : FailsSo service.setup service.default_schema given callers links t now) where
  abbrev failed : Entry
  failed = OpenFailed server address

  abbrev ones : ClientNo → Bool
  ones = is_called callers

  module _ (g : Ground) (rests : Rests service.setup g t roomy) (so : PlansSo g log failed (calls_deeds given callers)) where
    abbrev instant : ℕ
    instant = suc g.tale.moment

    abbrev given_up : tales.Client → Bool
    given_up x = gives_up g.plan instant (name_of x x.taken)

    calls_by : (x : tales.Client) → HasDeeds g (calls_deeds given callers) x → g.over x.number ≡ false → ones x.number ≡ true
        → is_called_by g.plan instant (view_on g) failed x ≡ true
    calls_by x has going its =
        ap (λ (b : Bool). b && not (is_before instant (g.plan.ends x.number))) (has.gives (some_given given x.number ∙ fails.none_else x.number its))
        ∙ going_on service.setup given callers log failed t roomy fails.all_given g rests so x going

    passes_by : (x : tales.Client) → HasDeeds g (calls_deeds given callers) x → ones x.number ≡ false
        → IsPassed g.setup g.plan (view_on g) failed (counted g.tale) x
    passes_by x has other =
        inl (and_left (given_up x) (not (is_before instant (g.plan.ends x.number)))
        (keeps_of service.setup given callers log failed t roomy fails.all_given g rests so x has other x.taken (omega arith)))

    fails_called : AreCalled g failed ones roomy roomy
    fails_called = record {
      calls = All-weaker (HasDeeds g (calls_deeds given callers))
          (λ (x : tales.Client). g.over x.number ≡ false → ones x.number ≡ true → is_called_by g.plan instant (view_on g) failed x ≡ true) calls_by g.tale.clients
          so.each;
      passes = All-weaker (HasDeeds g (calls_deeds given callers))
          (λ (x : tales.Client). ones x.number ≡ false → g.over x.number ≡ false → IsPassed g.setup g.plan (view_on g) failed (counted g.tale) x)
          (λ x has other going. passes_by x has other) g.tale.clients so.each;
      rooms = λ i x within. λ other going none. none;
    }

  pub fails_router : {texts : Texts} {admin : Administered} → Knows service.setup → (router : IsRouter service texts admin log t roomy) → MayFollow log failed → All IsGivenOurs given → AreRefused given
      → All (IsCallerOurs (rules_in service) texts) callers → AreNotOusted service.buffer_budget callers → TurnsJudge
      → (is : Administered) → admin.rules ≡ rules_in service
      → AreRuledAll (ruling_of service texts.since (key_at texts) admin is) callers service.setup service.default_schema fails.late fails.calls.turned fails.calls.going
      → AreHeldSince texts service.default_schema router.core.decided log
      → All (λ (k : Caller). TellsFor k.parting service.setup k.client) callers → IsRouter service texts is (with_entry log failed) now roomy
  fails_router knows router may given_ours refused ours stay judges is settled ruled since tells =
      calls_router service knows log failed (fails_tells server address) t fails.late now roomy roomy given callers links router may fails.gives
      fails.all_given fails.calls given_ours ours (λ terms codes of fits. tt) judges
      (λ setup codes plan of fits c payload told. all_why (λ (x : ClientNo) (p : List ℕ). p ≡ connection_refused) given refused c payload told)
      (λ setup codes plan of fits.
      calls_end (IsPartCause service.buffer_budget setup plan log failed) callers
      (All-weaker (λ (k : Caller). IsPartedFor service.buffer_budget ⊥ k.parting)
      (λ (k : Caller). (end : Option Word) → end_of k.parting ≡ Some end → IsPartCause service.buffer_budget setup plan log failed k.client end)
      (λ k why. part_cause service.buffer_budget setup plan log failed k.client ⊥ (λ none. absurd none) k.parting why) callers stay)) is settled
      ruled since tells fails_called
