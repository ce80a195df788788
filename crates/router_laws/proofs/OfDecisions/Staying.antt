-- At an entry that is no client's event nobody takes up anything.
use Rattle.std.specs.Prelude.{◌≡◌, ◌≤◌, ◌+◌, ◌&&◌, ◌||◌, ℕ, suc, Bool, true, false, All, not, is_some, nat_eq, fold, if◌then◌else◌, length, map, List, [], ◌∷◌, ◌++◌, Option, None}
use Rattle.std.proofs.Common.{refl, sym, ap, ◌∙◌, subst, arith, inl}
use Rattle.std.proofs.lemmas.List.Elements.{All-cons, All-head, All-map, All-nil, All-tail, All-weaker}
use Rattle.mx_wire.specs.Log.{Log, accepted_links}
use Rattle.mx_wire.specs.Tells.{MayFollow}
use Rattle.mx_wire.specs.declared.entry.Entry.{Entry}
use Rattle.mx_wire.specs.declared.entry.Entry.TheVariants as entry
use Rattle.private_model.specs.Names.{LinkId, MessageName}
use Rattle.private_model.specs.Story.{Dropped, Gone, Left, Ran, is_link_id}
use Rattle.private_model.specs.View.{Setup, View}
use Rattle.log_story.proofs.Moving.{writes-moved}
use Rattle.log_story.specs.Clients.{client_leaves, clients_are_ended, clients_go_on, ended_if_now, is_event_of}
use Rattle.log_story.specs.Headline.{tale_of}
use Rattle.log_story.specs.Owed.{name_of}
use Rattle.log_story.specs.Plan.{Plan, gives_up, is_before, is_now}
use Rattle.log_story.specs.Servers.{links_are_freed, writes}
use Rattle.log_story.specs.Tale.{Client, Tale, client_gets, is_to_server, new_client, tell, view_of}
use Rattle.log_story.specs.Telling.{is_lost_or_left, tale_step, told}
use Rattle.step_laws.proofs.Giving.{kept_in}
use Rattle.step_laws.proofs.Taking.{none_go}
use Rattle.step_laws.specs.Steps.{told_then}
use Rattle.step_laws.specs.Taken.{IsPassed, is_called}
use Rattle.tale_world.proofs.Telling.{told_moment}
use Rattle.tale_world.specs.Decided.{Decided}
use Rattle.core_laws.proofs.OfEntry.Lists.{seated_of}
use Rattle.core_laws.specs.entry.Cores.{with_entry}
use Rattle.core_laws.specs.entry.Tells.{IsOf}
use Rattle.router_laws.proofs.OfDecisions.Fates.{false_true}
use Rattle.router_laws.proofs.OfDecisions.Listing.{is_tale_of}
use Rattle.router_laws.proofs.OfDecisions.Planning.{own_so}
use Rattle.router_laws.proofs.OfDecisions.Recording.{one_more}
use Rattle.router_laws.proofs.OfDecisions.Tallying.{counts_then}
use Rattle.router_laws.specs.decisions.Counting.{BeginsSo, CallsNone, TakesSo, is_no_event}
use Rattle.router_laws.specs.decisions.Deeds.{Counts, Deeds, among, counts_with, decided_by, decided_with, known_with}
use Rattle.router_laws.specs.decisions.Records.{AreCountsOf, IsRecorded}

no_event : (view : View) (client : Client) (e : Entry) → is_no_event e ≡ true → is_event_of view client e ≡ false
no_event view client (entry.Woke until_ms now_ms) is = false_true false refl is
no_event view client (entry.Got link bytes) is = false_true false refl is
no_event view client (entry.Ended link) is = false_true false refl is
no_event view client (entry.ReadFailed link) is = false_true false refl is
no_event view client (entry.WriteFailed link) is = false_true false refl is
no_event view client _ is = refl

module _ (setup : Setup) (plan : Plan) (n : Counts) where
  -- clients took up as many messages as is counted
  abbrev Took : Client → Type 0
  Took client = client.taken ≡ n.taken client.number

  abbrev AllTook : Tale → Type 0
  AllTook tale = All Took tale.clients

  took_if : (b : Bool) (x y : Tale) → AllTook x → AllTook y → AllTook (if b then x else y)
  took_if true x y one other = one
  took_if false x y one other = other

  took_same : (old new : Tale) → new.clients ≡ old.clients → AllTook old → AllTook new
  took_same old new same took = subst (λ (xs : List Client). All Took xs) (sym same) took

  leaving_same : (link : LinkId) (xs : List Client) (tale : Tale) → AllTook tale → AllTook (fold (client_leaves link) tale xs)
  leaving_same link [] tale took = took
  leaving_same link (x ∷ xs) tale took =
      leaving_same link xs (client_leaves link tale x) (took_if (is_link_id x.link link) (tell (Left x.number) tale) tale took took)

  lost_same : (link : LinkId) (tale : Tale) → AllTook tale → AllTook (is_lost_or_left link tale)
  lost_same link tale took =
      took_if (is_to_server tale link) (tell (Gone link) tale) (fold (client_leaves link) tale tale.clients) took (leaving_same link tale.clients tale took)

  gets_took : (link : LinkId) (count : ℕ) (x : Client) → Took x → Took (client_gets link count x)
  gets_took link count x took = by (is_link_id x.link link) where
    by : (b : Bool) → Took (if b then record x { written = x.written + count } else x)
    by true = took
    by false = took

  took_last : (xs : List Client) (x : Client) → All Took xs → Took x → All Took (xs ++ x ∷ [])
  took_last [] x all is = All-cons Took x [] is (All-nil Took)
  took_last (y ∷ ys) x all is = All-cons Took y (ys ++ x ∷ []) (All-head Took y ys all) (took_last ys x (All-tail Took y ys all) is)

  told_took : (tale : Tale) (e : Entry) → is_no_event e ≡ true → ((k : ℕ) → k ≡ length tale.clients + 1 → n.taken (record { 0 = k }) ≡ 0)
      → AllTook tale → AllTook (told setup plan tale e)
  told_took tale (entry.Accepted port link salt) is newest took =
      took_last tale.clients (new_client (length tale.clients + 1) port link salt) took (sym (newest (length tale.clients + 1) refl))
  told_took tale (entry.Wrote link for bytes) is newest took =
      took_if (is_to_server tale link) (writes setup plan link for bytes (tale.wires link) tale)
      (record tale { clients = map (client_gets link (length bytes)) tale.clients })
      (took_same tale (writes setup plan link for bytes (tale.wires link) tale) (writes-moved setup plan link for bytes tale).clients took)
      (All-map Took (client_gets link (length bytes)) tale.clients
      (All-weaker Took (λ (x : Client). Took (client_gets link (length bytes) x)) (gets_took link (length bytes)) tale.clients took))
  told_took tale (entry.Exec link) is newest took =
      took_if (tale.wires link).entered (tell (if (tale.wires link).quits then Dropped link else Ran link) tale) tale took took
  told_took tale (entry.Closed link) is newest took = lost_same link tale took
  told_took tale (entry.Woke until_ms now_ms) is newest took = false_true false refl is
  told_took tale (entry.Got link bytes) is newest took = false_true false refl is
  told_took tale (entry.Ended link) is newest took = false_true false refl is
  told_took tale (entry.ReadFailed link) is newest took = false_true false refl is
  told_took tale (entry.WriteFailed link) is newest took = false_true false refl is
  told_took tale _ is newest took = took

  ending_took : (xs : List Client) (tale : Tale) → AllTook tale → AllTook (fold (ended_if_now plan) tale xs)
  ending_took [] tale took = took
  ending_took (x ∷ xs) tale took =
      ending_took xs (ended_if_now plan tale x) (took_if (is_now tale.moment (plan.ends x.number)) (tell (Left x.number) tale) tale took took)

  freed_took : (tale : Tale) → AllTook tale → AllTook (links_are_freed setup plan tale)
  freed_took tale took =
      took_same tale (links_are_freed setup plan tale) (kept_in setup plan (λ (t : Tale). t.clients) (λ story t. refl) tale.links tale) took

  -- nobody is called
  module _ (view : View) (e : Entry) (is : is_no_event e ≡ true) where
    uncalled : (moment : ℕ) (client : Client) → gives_up plan moment (name_of client client.taken) ≡ false → is_called plan moment view e client ≡ false
    uncalled moment client none =
        (λ i. (no_event view client e is i || none i) && not (is_before moment (plan.ends client.number)))

    going_took : (tale : Tale) → ((m : MessageName) → m.ordinal ≤ n.taken m.client → gives_up plan tale.moment m ≡ false) → AllTook tale
        → AllTook (clients_go_on setup plan view e tale)
    going_took tale kept took =
        subst AllTook
        (sym (none_go setup plan view e tale
        (All-weaker Took (λ (client : Client). false ≡ false → IsPassed setup plan view e tale client)
        (λ client same other. inl (uncalled tale.moment client (kept (name_of client client.taken) (omega (arith, same))))) tale.clients took)))
        took

  step_took : (tale : Tale) (e : Entry) → is_no_event e ≡ true → ((k : ℕ) → k ≡ length tale.clients + 1 → n.taken (record { 0 = k }) ≡ 0)
      → ((m : MessageName) → m.ordinal ≤ n.taken m.client → gives_up plan (suc tale.moment) m ≡ false) → AllTook tale
      → AllTook (tale_step setup plan tale e)
  step_took tale e is newest kept took =
      let heard : Tale = told_then setup plan tale e in
      let freed : Tale = links_are_freed setup plan heard in
      let gone : Tale = clients_go_on setup plan (view_of setup tale) e freed in
      let moment : freed.moment ≡ suc tale.moment =
      kept_in setup plan (λ (t : Tale). t.moment) (λ story t. refl) heard.links heard ∙ ap suc (told_moment setup plan tale e) in
      freed_took (clients_are_ended plan gone) (ending_took gone.clients gone
      (going_took (view_of setup tale) e is freed (subst (λ (k : ℕ). (m : MessageName) → m.ordinal ≤ n.taken m.client → gives_up plan k m ≡ false) (sym moment) kept)
      (freed_took heard (told_took tale e is newest took))))

module _ (setup : Setup) (plan : Plan) (d : Decided) (n : Counts) (log : Log) (e : Entry) (deeds : Deeds) (recorded : IsRecorded d n log)
    (may : MayFollow log e) (of : IsOf (decided_with deeds n log e d) (length (with_entry log e)) plan) (counts : AreCountsOf n (tale_of setup plan log))
    (is : is_no_event e ≡ true) (none : CallsNone deeds) where
  abbrev old : Tale
  old = tale_of setup plan log

  abbrev made : Deeds
  made = among (known_with log e) deeds

  before : length log ≡ old.moment
  before = sym (is_tale_of setup plan log).moment

  of_now : IsOf (decided_by made n log e (suc old.moment) d) (suc old.moment) plan
  of_now = subst (λ (k : ℕ). IsOf (decided_by made n log e k d) k plan) (one_more log e ∙ ap suc before) of

  none_by : (given : Option (List ℕ)) (b last : Bool) → given ≡ None → (is_some (if b then given else None) && last) ≡ false
  none_by given true last absent = ap (λ (o : Option (List ℕ)). is_some o && last) absent
  none_by given false last absent = refl

  kept : (m : MessageName) → m.ordinal ≤ n.taken m.client → gives_up plan (suc old.moment) m ≡ false
  kept m within =
      (own_so d n log e made old.moment plan recorded before of_now m within
      (none_by (deeds.given m.client) _ (nat_eq m.ordinal (n.taken m.client)) (none.given m.client))).1

  newest : (k : ℕ) → k ≡ length old.clients + 1 → n.taken (record { 0 = k }) ≡ 0
  newest k at =
      let size : length old.clients ≡ length (accepted_links log) = (is_tale_of setup plan log).clients in
      (recorded.strangers (record { 0 = k }) (omega (arith, at, size))).untaken

  takes : TakesSo n deeds (tale_step setup plan old e)
  takes client seated =
      let took : client.taken ≡ n.taken client.number =
      seated_of (λ (x : Client). x.taken ≡ n.taken x.number) (tale_step setup plan old e) client seated (step_took setup plan n old e is newest kept counts.taken) in
      omega (arith, took, none.none_taken client.number)

  pub counts_kept : BeginsSo setup old e deeds → AreCountsOf (counts_with deeds n log e) (tale_of setup plan (with_entry log e))
  counts_kept begins = counts_then setup plan d n log e deeds recorded counts may takes begins
