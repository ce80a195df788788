-- Each client that ended did so for a cause, behind an entry too.
use Rattle.std.specs.Prelude.{◌≡◌, ◌⊎◌, ◌<◌, ◌≤◌, ◌+◌, ◌++◌, ◌&&◌, ◌||◌, ℕ, zero, suc, Bool, true, false, All, nat_eq, nat_le, if◌then◌else◌, length, slice_get, slice_index_or, List, [], ◌∷◌, Option, Some, None}
use Rattle.std.specs.List.{list_any}
use Rattle.std.specs.Option.{option_map, option_map_or}
use Rattle.std.proofs.Common.{refl, sym, ap, ◌∙◌, subst, append_assoc, arith, inl, inr}
use Rattle.std.proofs.lemmas.Option.{none-some, same_Some}
use Rattle.client_session.specs.Answers.{is_quit, messages_of}
use Rattle.mx_wire.specs.Log.{Log, accepted_links}
use Rattle.mx_wire.specs.declared.entry.Entry.{Entry}
use Rattle.mx_wire.specs.declared.entry.Entry.TheVariants as entry
use Rattle.packet_frame.specs.Packets.{Framed}
use Rattle.private_model.proofs.Maps.{client_of, same_number}
use Rattle.private_model.specs.Names.{ClientNo}
use Rattle.private_model.specs.Story.{is_client}
use Rattle.private_model.specs.View.{Setup}
use Rattle.log_story.specs.Headline.{tale_of}
use Rattle.log_story.specs.Owed.{talk_of}
use Rattle.log_story.specs.Plan.{Behind, Plan}
use Rattle.log_story.specs.Tale.{Client, Tale}
use Rattle.log_story.specs.Telling.{tale_step}
use Rattle.step_laws.proofs.Seating.{counted_seats}
use Rattle.step_laws.specs.Seats.{IsSeated}
use Rattle.tale_world.specs.Decided.{Decided}
use Rattle.core_laws.proofs.OfEntry.Going.{tale_more}
use Rattle.core_laws.proofs.OfEntry.Lists.{seated_of}
use Rattle.core_laws.specs.clients.Follows.{Leaves, Parting, Stays, Tells, quits_by}
use Rattle.core_laws.specs.clients.Turns.{Choice, Ends, Halt, Quits, Rests, Waits}
use Rattle.core_laws.specs.entry.Cores.{with_entry}
use Rattle.core_laws.specs.entry.Tells.{IsOf}
use Rattle.core_promises.specs.Endings.{EndsForCause, HasEndCause, IsEndCause, IsPartedAt, Parted, SaidSo, TooMuch, has_said_its_end, says_its_end}
use Rattle.router_laws.proofs.OfClients.Continuing.{all_were}
use Rattle.router_laws.proofs.OfDecisions.Fates.{false_true, none_some}
use Rattle.router_laws.proofs.OfDecisions.Listing.{is_tale_of}
use Rattle.router_laws.proofs.OfDecisions.Noting.{any_seated}
use Rattle.router_laws.proofs.OfDecisions.Recording.{one_more, or_new, or_stays}
use Rattle.router_laws.specs.clients.Continues.{HasCome, WasThere}
use Rattle.router_laws.specs.decisions.Deeds.{Counts, Deeds, Word, among, decided_by, decided_with, ends_by, ends_in, for_one, known_with, said_at, word_with}
use Rattle.router_laws.specs.decisions.Goings.{end_of}
use Rattle.router_laws.specs.decisions.Judges.{JudgedFrom, Judging, SaysHalt}
use Rattle.router_laws.specs.decisions.Partings.{IsFullWord, IsPartCause, IsPartedFor}
use Rattle.router_laws.specs.decisions.Records.{IsRecorded}
use Rattle.router_promises.specs.Takings.{Taking}
use Rattle.std.proofs.lemmas.List.Elements.{All-head, All-tail}
use Rattle.router_laws.specs.wakes.Calling.{Caller}
use Rattle.router_laws.specs.wakes.Deciding.{found_in}

-- What was said in the end is said behind all that was judged.
pub halts_say : (setup : Setup) (plan : Plan) (client : Client) (takings : List Taking) (choices : List Choice) (halt : Halt) (judging : Judging) (k : ℕ)
    → JudgedFrom judging setup plan client takings k choices halt → (n : ℕ) × SaysHalt halt (talk_of plan client) n
halts_say setup plan client takings [] halt judging k judged = (k, judged.0.1)
halts_say setup plan client takings (choice ∷ others) halt judging k judged =
    halts_say setup plan client takings others halt (record judging { was = judged.0 }) (suc k) judged.1.1

-- One of the messages is a COM_QUIT.

quits_among : (messages : List Framed) (k : ℕ) (message : Framed) → slice_get messages k ≡ Some message → is_quit message.payload ≡ true
    → list_any (λ (m : Framed). is_quit m.payload) messages ≡ true
quits_among [] k message there quits = none_some (slice_get [] k) message refl there
quits_among (m ∷ ms) zero message there quits =
    let same : m ≡ message = same_Some m message there in
    ap (λ (b : Bool). b || list_any (λ (x : Framed). is_quit x.payload) ms) (ap (λ (x : Framed). is_quit x.payload) same ∙ quits)
quits_among (m ∷ ms) (suc k) message there quits = either (is_quit m.payload) (quits_among ms k message there quits) where
  either : {rest : Bool} (b : Bool) → rest ≡ true → (b || rest) ≡ true
  either true is = refl
  either false is = is

pub or_left : (a b : Bool) → a ≡ true → (a || b) ≡ true
or_left true b is = refl
or_left false b is = absurd (false_true false refl is)

pub or_right : (a b : Bool) → b ≡ true → (a || b) ≡ true
or_right true b is = refl
or_right false b is = is

said_so : (plan : Plan) (tale : Tale) (client : Client) → IsSeated tale client → says_its_end (talk_of plan client) ≡ true
    → has_said_its_end plan tale client.number ≡ true
said_so plan tale client seated says =
    any_seated (λ (x : Client). is_client x.number client.number && says_its_end (talk_of plan x)) tale client seated
    (ap (λ (b : Bool). b && says_its_end (talk_of plan client)) (same_number client.number.0) ∙ says)

-- Deeds of one client, and of nobody.

pub one_ends : (P : ClientNo → Option Word → Type 0) (c : ClientNo) (last : Option (Option Word)) → ((end : Option Word) → last ≡ Some end → P c end)
    → (x : ClientNo) (end : Option Word) → for_one c last None x ≡ Some end → P x end
one_ends P c last holds x end is = by (nat_eq c.0 x.0) refl is where
  by : (b : Bool) → nat_eq c.0 x.0 ≡ b → (if b then last else None) ≡ Some end → P x end
  by true same has = subst (λ (y : ClientNo). P y end) (client_of c x same) (holds end has)
  by false other has = none_some None end refl has

-- who is ended by code for a reason, where that is one of the entry
pub part_cause : (budget : ℕ) (setup : Setup) (plan : Plan) (log : Log) (e : Entry) (c : ClientNo) (Why : Type 0) → (Why → IsPartedAt setup plan log e c)
    → (parting : Parting) → IsPartedFor budget Why parting → (end : Option Word) → end_of parting ≡ Some end → IsPartCause budget setup plan log e c end
part_cause budget setup plan log e c Why at Stays why end is = none_some None end refl is
part_cause budget setup plan log e c Why at Leaves why end is = inl (at why)
part_cause budget setup plan log e c Why at (Tells payload) full end is =
    inr (subst (IsFullWord budget) (same_Some (Some (record { place = Behind; payloads = payload ∷ [] })) end is) (payload, (full, refl)))

-- whatever it is ended by, where the entry ends it
pub part_at : (budget : ℕ) (setup : Setup) (plan : Plan) (log : Log) (e : Entry) (c : ClientNo) → IsPartedAt setup plan log e c
    → (end : Option Word) → IsPartCause budget setup plan log e c end
part_at budget setup plan log e c at end = inl at

-- who is in one of these calls
pub calls_end : (P : ClientNo → Option Word → Type 0) (callers : List Caller) → All (λ (k : Caller). (end : Option Word) → end_of k.parting ≡ Some end → P k.client end) callers
    → (c : ClientNo) (end : Option Word) → option_map_or (λ (k : Caller). end_of k.parting) (found_in callers c) None ≡ Some end → P c end
calls_end P [] all c end is = none_some None end refl is
calls_end P (k ∷ others) all c end is =
    by (is_client c k.client) refl is (calls_end P others (All-tail (λ (j : Caller). (y : Option Word) → end_of j.parting ≡ Some y → P j.client y) k others all) c end) where
      by : (b : Bool) → is_client c k.client ≡ b → option_map_or (λ (j : Caller). end_of j.parting) (if b then Some k else found_in others c) None ≡ Some end
          → (option_map_or (λ (j : Caller). end_of j.parting) (found_in others c) None ≡ Some end → P c end) → P c end
      by true its has later =
          subst (λ (x : ClientNo). P x end) (sym (client_of c k.client its))
          (All-head (λ (j : Caller). (y : Option Word) → end_of j.parting ≡ Some y → P j.client y) k others all end has)
      by false other has later = later has

-- nobody ends by these
pub none_quits : (halt : Halt) (end : Option (Option Word)) → ends_by halt end ≡ None → quits_by halt ≡ false
none_quits Waits end none = refl
none_quits Rests end none = refl
none_quits Quits end none = absurd (none-some None (sym none))
none_quits Ends end none = absurd (none-some None (sym none))

pub none_parts : (halt : Halt) (end : Option (Option Word)) → ends_by halt end ≡ None → end ≡ None
none_parts Waits end none = none
none_parts Rests end none = none
none_parts Quits end none = absurd (none-some None (sym none))
none_parts Ends end none = absurd (none-some None (sym none))

-- Behind an entry.

module _ (budget : ℕ) (log : Log) (e : Entry) (d : Decided) (n : Counts) (deeds : Deeds) (recorded : IsRecorded d n log)
    (setup : Setup) (plan : Plan) (of : IsOf (decided_with deeds n log e d) (length (with_entry log e)) plan)
    (was : All (EndsForCause budget setup plan log) (tale_of setup plan log).clients)
    (halted : (client : Client) → IsSeated (tale_of setup plan (with_entry log e)) client
    → (k : ℕ) × SaysHalt (deeds.halts client.number) (talk_of plan client) k)
    (parts : (c : ClientNo) (end : Option Word) → deeds.ends c ≡ Some end → IsPartCause budget setup plan log e c end) where
  abbrev old : Tale
  old = tale_of setup plan log

  abbrev new : Tale
  new = tale_of setup plan (with_entry log e)

  abbrev made : Deeds
  made = among (known_with log e) deeds

  abbrev now : ℕ
  now = suc (length log)

  abbrev next : Decided
  next = decided_by made n log e now d

  of_now : IsOf next now plan
  of_now = subst (λ (k : ℕ). IsOf (decided_by made n log e k d) k plan) (one_more log e) of

  module _ (client : Client) (seated : IsSeated new client) (at : ℕ) (ends : plan.ends client.number ≡ Some at) (by_now : at ≤ length (with_entry log e)) where
    abbrev c : ClientNo
    c = client.number

    abbrev Has : Log → ClientNo → Type 0
    Has past who = HasEndCause budget setup plan past who at

    within : at ≤ now
    within = subst (λ (size : ℕ). at ≤ size) (one_more log e) by_now

    grown : Has log c → Has (with_entry log e) c
    grown has = record {
      before = has.before;
      entry = has.entry;
      later = has.later ++ e ∷ [];
      there = ap (λ (l : Log). l ++ e ∷ []) has.there ∙ append_assoc has.before (has.entry ∷ has.later) (e ∷ []);
      from = has.from;
      why = has.why;
    }

    -- It ended before.

    came_by : (by : Entry) → HasCome old by client → d.ends c ≡ None
    came_by (entry.Accepted port link salt) come =
        let last : c.0 ≡ length old.clients + 1 = ap (λ (m : ClientNo). m.0) come.number in
        let size : length old.clients ≡ length (accepted_links log) = (is_tale_of setup plan log).clients in
        (recorded.strangers c (omega (arith, last, size))).going
    came_by by come = absurd come

    there_before : (k : ℕ) → d.ends c ≡ Some k → WasThere plan old e client ⊎ HasCome old e client → Has (with_entry log e) c
    there_before k is (inr come) = none_some (d.ends c) k (came_by e come) is
    there_before k is (inl x) =
        let planned : plan.ends c ≡ Some k = of_now.agrees.ended c k (or_stays (d.ends c) (option_map (λ (end : Option Word). now) (ends_in made c)) k is) in
        let same : k ≡ at = same_Some k at (sym planned ∙ ends) in
        let early : k ≤ length log = recorded.ended c k is in
        grown (subst (Has log) (sym x.continued.number)
        (seated_of (EndsForCause budget setup plan log) old x.was x.seated was at (sym (ap plan.ends x.continued.number) ∙ ends) (omega (arith, early, same))))

    before : (k : ℕ) → d.ends c ≡ Some k → Has (with_entry log e) c
    before k is =
        there_before k is
        (seated_of (λ (z : Client). WasThere plan old e z ⊎ HasCome old e z) (tale_step setup plan old e) client
        (subst (λ (tale : Tale). IsSeated tale client) (tale_more setup plan log e) seated)
        (all_were setup plan old e (is_tale_of setup plan log).counted))

    -- It ends now.

    here : at ≡ now → IsEndCause budget setup plan log e c → Has (with_entry log e) c
    here same why = record { before = log; entry = e; later = []; there = refl; from = same; why = why }

    says : says_its_end (talk_of plan client) ≡ true → IsEndCause budget setup plan log e c
    says so = SaidSo (said_so plan new client seated so)

    quits : (k : ℕ) → SaysHalt Quits (talk_of plan client) k → says_its_end (talk_of plan client) ≡ true
    quits k said = or_left _ _ (quits_among (messages_of (talk_of plan client)).messages k said.0 said.1.0 said.1.1)

    refused : (k : ℕ) → SaysHalt Ends (talk_of plan client) k → says_its_end (talk_of plan client) ≡ true
    refused k said = or_right _ _ said

    -- with this word, if with one
    parted : d.ends c ≡ None → (end : Option Word) → ends_in made c ≡ Some end → IsPartCause budget setup plan log e c end
        → IsEndCause budget setup plan log e c
    parted fresh end is (inl there) = Parted there
    parted fresh None is (inr none) = absurd none
    parted fresh (Some word) is (inr told) =
        TooMuch told.1.0.kept told.1.0.announced told.1.0.more
        (of_now.told c (record { from = now; place = word.place; payloads = word.payloads })
        ((λ i. word_with now (fresh i) (is i) (d.words c)) ∙ or_new (d.words c) (said_at now (Some (Some word))) (recorded.silent c fresh))
        ∙ ap (λ (w : Word). Some (record { from = now; place = w.place; payloads = w.payloads })) told.1.1
        ∙ ap (λ (p : List ℕ). Some (record { from = now; place = Behind; payloads = p ∷ [] })) told.1.0.is)

    by_halt : (halt : Halt) (end : Option Word) → ends_by halt (deeds.ends c) ≡ Some end → (k : ℕ) → SaysHalt halt (talk_of plan client) k
        → ends_in made c ≡ Some end → d.ends c ≡ None → IsEndCause budget setup plan log e c
    by_halt Waits end ended k said has fresh = parted fresh end has (parts c end ended)
    by_halt Rests end ended k said has fresh = parted fresh end has (parts c end ended)
    by_halt Quits end ended k said has fresh = says (quits k said)
    by_halt Ends end ended k said has fresh = says (refused k said)

    known : (b : Bool) → nat_le c.0 (known_with log e) ≡ b → (end : Option Word)
        → ends_by (if b then deeds.halts c else Rests) (if b then deeds.ends c else None) ≡ Some end → ends_in made c ≡ Some end → d.ends c ≡ None
        → IsEndCause budget setup plan log e c
    known true is end ended has fresh =
        by_halt (deeds.halts c) end ended (halted client seated).0 (halted client seated).1 has fresh
    known false is end ended has fresh = none_some None end refl ended

    -- what isn't decided is not by now
    going : {A : Type 0} → d.ends c ≡ None → ends_in made c ≡ None → A
    going fresh none =
        let later : now < at = of_now.agrees.going c at (or_new (d.ends c) (option_map (λ (end : Option Word). now) (ends_in made c)) fresh
        ∙ ap (option_map (λ (end : Option Word). now)) none) ends in
        absurd (omega (arith, later, within))

    at_now : d.ends c ≡ None → (end : Option Word) → ends_in made c ≡ Some end → at ≡ now
    at_now fresh end is =
        same_Some at now (sym ends ∙ of_now.agrees.ended c now (or_new (d.ends c) (option_map (λ (x : Option Word). now) (ends_in made c)) fresh
        ∙ ap (option_map (λ (x : Option Word). now)) is))

    by_end : d.ends c ≡ None → (o : Option (Option Word)) → ends_in made c ≡ o → Has (with_entry log e) c
    by_end fresh None is = going fresh is
    by_end fresh (Some end) is = here (at_now fresh end is) (known (nat_le c.0 (known_with log e)) refl end is is fresh)

    each : Has (with_entry log e) c
    each = by (d.ends c) refl where
      by : (o : Option ℕ) → d.ends c ≡ o → Has (with_entry log e) c
      by None is = by_end is (ends_in made c) refl
      by (Some k) is = before k is

  pub ended_then : All (EndsForCause budget setup plan (with_entry log e)) new.clients
  ended_then = λ i dflt inside at ends by_now.
      let client : Client = slice_index_or new.clients i dflt in
      each client (counted_seats new (is_tale_of setup plan (with_entry log e)).counted i dflt inside) at ends by_now
