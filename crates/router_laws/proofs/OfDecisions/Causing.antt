-- What is given up has its cause, behind an entry too.
use Rattle.std.specs.Prelude.{◌≡◌, ◌⊎◌, ◌<◌, ◌≤◌, ◌+◌, ◌++◌, ◌&&◌, ℕ, suc, Bool, true, false, All, is_some, nat_eq, nat_le, nat_lt, if◌then◌else◌, length, slice_index_or, List, [], ◌∷◌, Option, Some, None}
use Rattle.std.specs.Option.{option_map, option_map_or}
use Rattle.std.proofs.Common.{refl, sym, ap, ◌∙◌, subst, append_assoc, arith, inl, inr}
use Rattle.std.proofs.lemmas.Bool.{eqb-true, ltb-false, ltb-true}
use Rattle.std.proofs.lemmas.List.Elements.{All-head, All-tail}
use Rattle.std.proofs.lemmas.Option.{none-some}
use Rattle.mx_wire.specs.Log.{Log, accepted_links}
use Rattle.mx_wire.specs.declared.entry.Entry.{Entry}
use Rattle.mx_wire.specs.declared.entry.Entry.TheVariants as entry
use Rattle.private_model.proofs.Maps.{client_of}
use Rattle.private_model.specs.Names.{ClientNo, LinkId, MessageName, SessionName}
use Rattle.private_model.specs.Story.{is_client}
use Rattle.private_model.specs.View.{Setup}
use Rattle.link_laws.specs.Stands.{Codes}
use Rattle.log_story.specs.Headline.{tale_of}
use Rattle.log_story.specs.Owed.{name_of}
use Rattle.log_story.specs.Plan.{OwnAnswer, Plan}
use Rattle.log_story.specs.Tale.{Client, Tale, is_to_server}
use Rattle.log_story.specs.Telling.{tale_step}
use Rattle.row_laws.specs.Rows.{IsRowIn}
use Rattle.step_laws.proofs.Seating.{counted_seats}
use Rattle.step_laws.specs.Seats.{IsSeated}
use Rattle.tale_world.specs.Decided.{Decided}
use Rattle.core_tables.specs.Parting.{name_in}
use Rattle.core_tables.specs.Tables.{Tabled}
use Rattle.core_tables.specs.declared.server.Server.{Server}
use Rattle.core_stands.specs.Grounds.{Ground}
use Rattle.core_stands.specs.Servers.{IsServerBy, IsServerOr}
use Rattle.core_laws.proofs.OfEntry.Going.{tale_more}
use Rattle.core_laws.proofs.OfEntry.Lists.{seated_of}
use Rattle.core_laws.proofs.OfHearing.Elsewhere.{CarriedLaw}
use Rattle.core_laws.specs.clients.Going.{GivenUp, told_to, Going}
use Rattle.core_laws.specs.entry.Cores.{with_entry}
use Rattle.core_laws.specs.entry.Tells.{IsOf, ground}
use Rattle.core_promises.specs.Causes.{AreCaused, HasCause, IsCause, IsHeardCause, IsLossCause, IsToldAtOnce, is_carried}
use Rattle.router_laws.proofs.OfClients.Continuing.{all_were}
use Rattle.router_laws.proofs.OfDecisions.Fates.{false_true, fate_there, fates_at_once, none_some}
use Rattle.router_laws.proofs.OfDecisions.Listing.{is_tale_of}
use Rattle.router_laws.proofs.OfDecisions.Recording.{one_more, or_new, own_given, own_new, own_open, own_stays, up_with}
use Rattle.router_laws.specs.clients.Continues.{HasCome, WasThere}
use Rattle.router_laws.specs.decisions.Causes.{IsHeardFor, IsLostFor, carries_of}
use Rattle.router_laws.specs.decisions.Deeds.{Counts, Deeds, Fate, among, counts_with, decided_by, decided_with, fate_at, known_with, taken_by, Word}
use Rattle.router_laws.specs.decisions.Records.{AreCountsOf, IsRecorded}
use Rattle.router_laws.specs.links.Loses.{Break, ReadEnds, ReadFails, WriteFails, entry_by}
use Rattle.router_laws.specs.wakes.Deciding.{payload_in}
use Rattle.core_promises.specs.Endings.{IsPartedAt}
use Rattle.router_laws.proofs.OfDecisions.Ending.{one_ends, or_right, part_cause}
use Rattle.router_laws.specs.decisions.Goings.{deeds_of, end_of}
use Rattle.router_laws.specs.decisions.Partings.{IsGoingParted, IsPartCause}

-- What a link carries its row does.

server_row : (g : Ground) (t : Tabled) (l : LinkId) (server : Server) → t.links l ≡ Some server → IsServerOr g t l (t.links l)
    → IsRowIn g.setup g.codes g.plan g.tale l server.row
server_row g t l server there stands = by (is_to_server g.tale l) (subst (λ (found : Option Server). IsServerOr g t l found) there stands) where
  by : (b : Bool) → IsServerBy b g t l (Some server) → IsRowIn g.setup g.codes g.plan g.tale l server.row
  by true is = is.row
  by false none = absurd (none-some server (sym none))

carried_same : CarriedLaw → (g : Ground) (t : Tabled) (l : LinkId) (server : Server) → t.links l ≡ Some server → IsServerOr g t l (t.links l) → (c : ClientNo)
    → carries_of l t c ≡ is_carried g.setup g.tale l c
carried_same law g t l server there stands c =
    ap (λ (found : Option Server). option_map_or (λ (s : Server). option_map_or (λ (n : SessionName). is_client c n.client)
    (name_in s.row.link.state.carries) false) found false) there
    ∙ ap (λ (n : Option SessionName). option_map_or (λ (m : SessionName). is_client c m.client) n false)
    (sym (law g.setup g.codes g.plan g.tale l server.row (server_row g t l server there stands)))

-- So what is given up has its cause.

told_for : (P : ClientNo → List ℕ → Type 0) (up : GivenUp) → P up.client up.payload → (c : ClientNo) (payload : List ℕ) → told_to (Some up) c ≡ Some payload
    → P c payload
told_for P up holds c payload is = by (nat_eq up.client.0 c.0) refl is where
  by : (b : Bool) → nat_eq up.client.0 c.0 ≡ b → (if b then Some up.payload else None) ≡ Some payload → P c payload
  by true its has =
      let same : up.payload ≡ payload = cc in
      subst (P c) same (subst (λ (x : ClientNo). P x up.payload) (client_of up.client c its) holds)
  by false other has = none_some None payload refl has

module _ (law : CarriedLaw) (wait_ms : ℕ) (setup : Setup) (codes : Codes) (plan : Plan) (d : Decided) (log : Log) (t : Tabled) (l : LinkId)
    (server : Server) (there : t.links l ≡ Some server) (stands : IsServerOr (ground setup codes plan d log) t l (t.links l)) where
  same : (c : ClientNo) → carries_of l t c ≡ is_carried setup (tale_of setup plan log) l c
  same = carried_same law (ground setup codes plan d log) t l server there stands

  pub heard_why : (taken : ClientNo → ℕ) (bytes : List ℕ) (given : Option GivenUp) → IsHeardFor l t given → (c : ClientNo) (payload : List ℕ)
      → told_to given c ≡ Some payload → IsCause wait_ms setup plan log (entry.Got l bytes) (record { client = c; ordinal = taken c }) payload
  heard_why taken bytes None why c payload is = none_some None payload refl is
  heard_why taken bytes (Some up) why c payload is =
      told_for (λ x p. IsCause wait_ms setup plan log (entry.Got l bytes) (record { client = x; ordinal = taken x }) p) up
      (subst (λ (b : Bool). IsHeardCause b up.payload) (same up.client) why) c payload is

  lost_by : (how : Break) (m : MessageName) (payload : List ℕ) → IsLossCause (is_carried setup (tale_of setup plan log) l m.client) payload
      → IsCause wait_ms setup plan log (entry_by how l) m payload
  lost_by ReadEnds m payload why = why
  lost_by ReadFails m payload why = why
  lost_by WriteFails m payload why = why

  pub loss_why : (taken : ClientNo → ℕ) (how : Break) (given : Option GivenUp) → IsLostFor l t given → (c : ClientNo) (payload : List ℕ)
      → told_to given c ≡ Some payload → IsCause wait_ms setup plan log (entry_by how l) (record { client = c; ordinal = taken c }) payload
  loss_why taken how None why c payload is = none_some None payload refl is
  loss_why taken how (Some up) why c payload is =
      told_for (λ x p. IsCause wait_ms setup plan log (entry_by how l) (record { client = x; ordinal = taken x }) p) up
      (lost_by how (record { client = up.client; ordinal = taken up.client }) up.payload (subst (λ (b : Bool). IsLossCause b up.payload) (same up.client) why)) c payload is

  -- Who is ended behind its turns is, where the link carries a session of it.

  pub heard_parts : (budget : ℕ) (bytes : List ℕ) (given : Option GivenUp) (going : Option Going) → IsGoingParted budget l t going → (c : ClientNo) (end : Option Word)
      → (deeds_of given going).ends c ≡ Some end → IsPartCause budget setup plan log (entry.Got l bytes) c end
  heard_parts budget bytes given None parted c end is = none_some None end refl is
  heard_parts budget bytes given (Some it) parted c end is =
      one_ends (IsPartCause budget setup plan log (entry.Got l bytes)) it.client (end_of it.parting)
      (part_cause budget setup plan log (entry.Got l bytes) it.client (carries_of l t it.client ≡ true) (λ carries. sym (same it.client) ∙ carries) it.parting
      parted) c end is

  pub lost_at : (how : Break) (c : ClientNo) → carries_of l t c ≡ true → IsPartedAt setup plan log (entry_by how l) c
  lost_at ReadEnds c carries = or_right _ _ (sym (same c) ∙ carries)
  lost_at ReadFails c carries = or_right _ _ (sym (same c) ∙ carries)
  lost_at WriteFails c carries = or_right _ _ (sym (same c) ∙ carries)

  pub loss_parts : (budget : ℕ) (how : Break) (given : Option GivenUp) (going : Option Going) → IsGoingParted budget l t going → (c : ClientNo) (end : Option Word)
      → (deeds_of given going).ends c ≡ Some end → IsPartCause budget setup plan log (entry_by how l) c end
  loss_parts budget how given None parted c end is = none_some None end refl is
  loss_parts budget how given (Some it) parted c end is =
      one_ends (IsPartCause budget setup plan log (entry_by how l)) it.client (end_of it.parting)
      (part_cause budget setup plan log (entry_by how l) it.client (carries_of l t it.client ≡ true) (lost_at how it.client) it.parting parted) c end is

-- of several
pub all_why : (P : ClientNo → List ℕ → Type 0) (given : List GivenUp) → All (λ (up : GivenUp). P up.client up.payload) given
    → (c : ClientNo) (payload : List ℕ) → payload_in given c ≡ Some payload → P c payload
all_why P [] all c payload is = none_some None payload refl is
all_why P (up ∷ others) all c payload is =
    by (is_client c up.client) refl is (all_why P others (All-tail (λ (u : GivenUp). P u.client u.payload) up others all) c payload) where
      by : (b : Bool) → is_client c up.client ≡ b → (if b then Some up.payload else payload_in others c) ≡ Some payload
          → (payload_in others c ≡ Some payload → P c payload) → P c payload
      by true its has later =
          let same : up.payload ≡ payload = cc in
          subst (λ (x : ClientNo). P x payload) (sym (client_of c up.client its))
          (subst (P up.client) same (All-head (λ (u : GivenUp). P u.client u.payload) up others all))
      by false other has later = later has

-- Behind an entry.

given_among : (b : Bool) (given : Option (List ℕ)) (payload : List ℕ) → (if b then given else None) ≡ Some payload → given ≡ Some payload
given_among true given payload is = is
given_among false given payload is = none_some None payload refl is

module _ (wait_ms : ℕ) (log : Log) (e : Entry) (d : Decided) (n : Counts) (deeds : Deeds) (recorded : IsRecorded d n log)
    (setup : Setup) (plan : Plan) (of : IsOf (decided_with deeds n log e d) (length (with_entry log e)) plan)
    (before : AreCountsOf n (tale_of setup plan log)) (counts : AreCountsOf (counts_with deeds n log e) (tale_of setup plan (with_entry log e)))
    (was : All (AreCaused wait_ms setup plan log) (tale_of setup plan log).clients)
    (why : (c : ClientNo) (payload : List ℕ) → deeds.given c ≡ Some payload
    → IsCause wait_ms setup plan log e (record { client = c; ordinal = n.taken c }) payload) where
  abbrev old : Tale
  old = tale_of setup plan log

  abbrev new : Tale
  new = tale_of setup plan (with_entry log e)

  abbrev made : Deeds
  made = among (known_with log e) deeds

  abbrev now : ℕ
  now = suc (length log)

  abbrev next : Decided
  next = decided_by made n log e now d

  of_now : IsOf next now plan
  of_now = subst (λ (k : ℕ). IsOf (decided_by made n log e k d) k plan) (one_more log e) of

  module _ (client : Client) (seated : IsSeated new client) (k : ℕ) (answer : OwnAnswer) (taken : k < client.taken)
      (own : plan.own (name_of client (suc k)) ≡ Some answer) (by_now : answer.from ≤ length (with_entry log e)) where
    abbrev c : ClientNo
    c = client.number

    abbrev name : MessageName
    name = name_of client (suc k)

    abbrev Explains : Log → ClientNo → Type 0
    Explains past who = IsToldAtOnce plan (record { client = who; ordinal = suc k }) answer ⊎ HasCause wait_ms setup plan past (record { client = who; ordinal = suc k }) answer

    abbrev Has : Log → Type 0
    Has past = Explains past c

    within : answer.from ≤ now
    within = subst (λ (size : ℕ). answer.from ≤ size) (one_more log e) by_now

    grown : Has log → Has (with_entry log e)
    grown (inl once) = inl once
    grown (inr has) = inr (record {
      before = has.before;
      entry = has.entry;
      later = has.later ++ e ∷ [];
      there = ap (λ (l : Log). l ++ e ∷ []) has.there ∙ append_assoc has.before (has.entry ∷ has.later) (e ∷ []);
      from = has.from;
      payload = has.payload;
      one = has.one;
      why = has.why;
    })

    -- what isn't answered by now
    unanswered : {A : Type 0} → next.own name ≡ Some None → A
    unanswered open_yet = let more : now < answer.from = of_now.agrees.unanswered name answer open_yet own in absurd (omega (arith, more, within))

    same_as : (other : OwnAnswer) → next.own name ≡ Some (Some other) → other ≡ answer
    same_as other is = let both : Some other ≡ Some answer = sym (of_now.agrees.answered name other is) ∙ own in cc

    -- It was taken up before.

    given_now : (payload : List ℕ) → suc k ≡ n.taken c → made.given c ≡ Some payload → up_with made n now payload ≡ answer → Has (with_entry log e)
    given_now payload last gives is = inr (record {
      before = log;
      entry = e;
      later = [];
      there = refl;
      from = sym (ap (λ (a : OwnAnswer). a.from) is);
      payload = payload;
      one = sym (ap (λ (a : OwnAnswer). a.payloads) is);
      why = subst (λ (o : ℕ). IsCause wait_ms setup plan log e (record { client = c; ordinal = o }) payload) (sym last)
          (why c payload (given_among (nat_le c.0 (known_with log e)) (deeds.given c) payload gives));
    })

    open_before : d.own name ≡ Some None → (given : Option (List ℕ)) (last : Bool) → made.given c ≡ given → nat_eq (suc k) (n.taken c) ≡ last
        → Has (with_entry log e)
    open_before open_yet None last gives at =
        unanswered (own_open made n now name (d.own name) open_yet (λ i. is_some (gives i) && nat_eq (suc k) (n.taken c)))
    open_before open_yet (Some payload) false gives at =
        unanswered (own_open made n now name (d.own name) open_yet (λ i. is_some (gives i) && at i))
    open_before open_yet (Some payload) true gives at =
        given_now payload (eqb-true (suc k) (n.taken c) at) gives
        (same_as (up_with made n now payload) (own_given made n now name (d.own name) payload open_yet (eqb-true (suc k) (n.taken c) at) gives))

    answered_before : (x : Client) → IsSeated old x → c ≡ x.number → k < x.taken → answer.from ≤ length log → Has (with_entry log e)
    answered_before x there number less early =
        grown (subst (Explains log) (sym number)
        (seated_of (AreCaused wait_ms setup plan log) old x there was k answer less
        (subst (λ (m : ClientNo). plan.own (record { client = m; ordinal = suc k }) ≡ Some answer) number own) early))

    before_by : (x : Client) → IsSeated old x → c ≡ x.number → k < n.taken c → (found : Option (Option OwnAnswer)) → d.own name ≡ found
        → is_some found ≡ true → Has (with_entry log e)
    before_by x there number less None is some = false_true false refl some
    before_by x there number less (Some None) is some = open_before is (made.given c) (nat_eq (suc k) (n.taken c)) refl refl
    before_by x there number less (Some (Some other)) is some =
        let same : other ≡ answer = same_as other (own_stays made n now name (d.own name) other is) in
        let count : x.taken ≡ n.taken x.number = seated_of (λ (y : Client). y.taken ≡ n.taken y.number) old x there before.taken in
        let named : n.taken c ≡ n.taken x.number = ap n.taken number in
        answered_before x there number (omega (arith, less, count, named))
        (subst (λ (a : OwnAnswer). a.from ≤ length log) same (recorded.answered name other is))

    came_by : (by : Entry) → HasCome old by client → n.taken c ≡ 0
    came_by (entry.Accepted port link salt) come =
        let last : c.0 ≡ length old.clients + 1 = ap (λ (m : ClientNo). m.0) come.number in
        let size : length old.clients ≡ length (accepted_links log) = (is_tale_of setup plan log).clients in
        (recorded.strangers c (omega (arith, last, size))).untaken
    came_by by come = absurd come

    taken_before : k < n.taken c → WasThere plan old e client ⊎ HasCome old e client → Has (with_entry log e)
    taken_before less (inl x) =
        before_by x.was x.seated x.continued.number less (d.own name) refl (recorded.taken_up name (omega (arith, less))).owned
    taken_before less (inr come) = let none : n.taken c ≡ 0 = came_by e come in absurd (omega (arith, less, none))

    -- It is taken up now: it is answered at once, or not by now.

    routed : (fate : Fate) → fate_at made n name ≡ Some fate → n.taken c < suc k → next.routes name ≡ Some fate.route
    routed fate at untaken =
        or_new (d.routes name) (option_map (λ (fate : Fate). fate.route) (fate_at made n name)) (recorded.to_come name untaken).unrouted
        ∙ ap (option_map (λ (fate : Fate). fate.route)) at

    fated : (fate : Fate) → fate_at made n name ≡ Some fate → n.taken c < suc k → (mine : Option OwnAnswer) → fate.own ≡ mine → next.own name ≡ Some mine → Has (with_entry log e)
    fated fate at untaken None is own_now = unanswered own_now
    fated fate at untaken (Some other) is own_now =
        let once = fates_at_once (made.calls c) (made.halts c) (suc (n.taken c)) (suc k) fate at other is in
        let same : other.from ≡ answer.from = ap (λ (a : OwnAnswer). a.from) (same_as other own_now) in
        inl (sym same ∙ once.0, of_now.agrees.routes name fate.route (routed fate at untaken) ∙ once.1)

    taken_now : n.taken c ≤ k → (found : Option Fate) → fate_at made n name ≡ found → is_some found ≡ true → Has (with_entry log e)
    taken_now least None at some = false_true false refl some
    taken_now least (Some fate) at some =
        fated fate at (omega (arith, least)) fate.own refl
        (own_new made n now name (d.own name) (recorded.to_come name (omega (arith, least))).unowned ∙ ap (option_map (λ (f : Fate). f.own)) at)

    each : Has (with_entry log e)
    each = by (nat_lt k (n.taken c)) refl where
      count_now : client.taken ≡ n.taken c + taken_by (made.calls c) (made.halts c)
      count_now = seated_of (λ (y : Client). y.taken ≡ (counts_with deeds n log e).taken y.number) new client seated counts.taken

      by : (b : Bool) → nat_lt k (n.taken c) ≡ b → Has (with_entry log e)
      by true early =
          taken_before (ltb-true k (n.taken c) early)
          (seated_of (λ (z : Client). WasThere plan old e z ⊎ HasCome old e z) (tale_step setup plan old e) client
          (subst (λ (tale : Tale). IsSeated tale client) (tale_more setup plan log e) seated)
          (all_were setup plan old e (is_tale_of setup plan log).counted))
      by false late =
          let least : n.taken c ≤ k = ltb-false k (n.taken c) late in
          taken_now least (fate_at made n name) refl
          (fate_there (made.calls c) (made.halts c) (suc (n.taken c)) (suc k) (omega (arith, least)) (omega (arith, taken, count_now)))

  pub caused_then : All (AreCaused wait_ms setup plan (with_entry log e)) new.clients
  caused_then = λ i dflt within k answer taken own by_now.
      let client : Client = slice_index_or new.clients i dflt in
      each client (counted_seats new (is_tale_of setup plan (with_entry log e)).counted i dflt within) k answer taken own by_now
