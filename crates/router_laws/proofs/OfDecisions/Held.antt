-- Behind an entry the texts stay kept which clients may still name.
use Rattle.std.specs.Prelude.{◌≡◌, ◌⊎◌, ◌<◌, ◌≤◌, ◌+◌, ◌++◌, ◌&&◌, ℕ, suc, Bool, true, false, All, is_some, nat_eq, nat_le, if◌then◌else◌, length, slice_index_or, List, [], ◌∷◌, Option, Some, None}
use Rattle.std.specs.Option.{option_and_then}
use Rattle.std.proofs.Common.{refl, sym, ap, ◌∙◌, subst, append-nil, arith, inl, inr}
use Rattle.std.proofs.lemmas.Bool.{le-leb, leb-true}
use Rattle.std.proofs.lemmas.List.Elements.{All-head, All-tail}
use Rattle.std.proofs.lemmas.Option.{none-some, same_Some}
use Rattle.mx_wire.specs.Log.{Log, accepted_links}
use Rattle.mx_wire.specs.declared.entry.Entry.{Entry}
use Rattle.mx_wire.specs.declared.entry.Entry.TheVariants as entry
use Rattle.packet_frame.specs.Packets.{Framed}
use Rattle.client_session.specs.Setups.{Setup as Service}
use Rattle.query_rules.specs.declared.rule.Rule.{Rule}
use Rattle.private_model.specs.Commands.{Reply}
use Rattle.private_model.specs.Lawful.{IsLawful}
use Rattle.private_model.specs.Names.{ClientNo, MessageName}
use Rattle.private_model.specs.View.{Setup}
use Rattle.link_laws.specs.Stands.{Codes}
use Rattle.log_story.specs.Headline.{tale_of}
use Rattle.log_story.specs.Owed.{messages, name_of, talk_of}
use Rattle.log_story.specs.Plan.{OwnAnswer, Plan, Route, own_at}
use Rattle.log_story.specs.Tale.{Client, Tale, view_of}
use Rattle.log_story.specs.Telling.{tale_step}
use Rattle.client_seat.specs.Seats.{is_ended}
use Rattle.step_laws.proofs.Seating.{counted_seats}
use Rattle.step_laws.specs.Seats.{IsSeated}
use Rattle.tale_world.specs.Decided.{Decided}
use Rattle.shared_router.proofs.Furthering.{IsWithin}
use Rattle.core_texts.specs.Texts.{key_at}
use Rattle.core_texts.specs.declared.texts.Texts.{Texts}
use Rattle.core_tables.specs.Tables.{Tabled}
use Rattle.core_tables.specs.declared.client.Client.{Client as Row}
use Rattle.core_stands.specs.Clients.{IsClient, IsClientOr, IsGoing, IsPhase}
use Rattle.core_stands.specs.Grounds.{Ground}
use Rattle.core_stands.specs.Stands.{IsAt, IsPrepared, Rests, Stands}
use Rattle.core_laws.proofs.OfEntry.Going.{tale_more}
use Rattle.core_laws.proofs.OfEntry.Growing.{messages_more}
use Rattle.core_laws.proofs.OfEntry.Lists.{seated_of}
use Rattle.core_laws.proofs.OfEntry.Replies.{replies_on}
use Rattle.core_laws.specs.clients.Turns.{Answers, Choice, Goes, Halt}
use Rattle.core_laws.specs.entry.Cores.{with_entry}
use Rattle.core_laws.specs.entry.Tells.{IsOf, ground}
use Rattle.router_laws.proofs.OfClients.Continuing.{all_were}
use Rattle.router_laws.proofs.OfDecisions.Fates.{HasFate, fate_there, false_true}
use Rattle.router_laws.proofs.OfDecisions.Holding.{held_on}
use Rattle.router_laws.proofs.OfDecisions.Judging.{within_of}
use Rattle.router_laws.proofs.OfDecisions.Listing.{is_tale_of}
use Rattle.router_laws.proofs.OfDecisions.Planning.{fate_so}
use Rattle.router_laws.proofs.OfDecisions.Recording.{is_more, one_more}
use Rattle.router_laws.proofs.OfDecisions.Speaking.{among_ours}
use Rattle.router_laws.specs.clients.Continues.{HasCome, WasThere}
use Rattle.router_laws.specs.decisions.Deeds.{Counts, Deeds, Fate, among, counts_with, decided_by, decided_with, fate_at, fate_in, fate_of, is_quitting, known_with, no_fate, taken_by}
use Rattle.router_laws.specs.decisions.Held.{AreHeld, IsHeld}
use Rattle.router_laws.specs.decisions.Records.{AreCountsOf, IsRecorded}
use Rattle.router_laws.specs.decisions.Speaks.{AreOurs, IsOurs}

-- The text of what is taken up to be prepared is kept.

abbrev IsFateHeld : Texts → Fate → Type 0
IsFateHeld texts fate = (route : Route) → fate.route ≡ Some route → 0 < route.number → is_some (key_at texts route.key) ≡ true

held_of : (rules : List Rule) (texts : Texts) (c : ClientNo) (choice : Choice) → IsOurs rules texts c choice → IsFateHeld texts (fate_of choice)
held_of rules texts c (Goes mine keyed) ours route is =
    subst (λ (r : Route). 0 < r.number → is_some (key_at texts r.key) ≡ true) (same_Some mine route is) ours.2
held_of rules texts c (Answers payloads) ours route is = absurd (none-some route is)

held_if : (texts : Texts) (b : Bool) (fate : Fate) → (if b then Some no_fate else None) ≡ Some fate → IsFateHeld texts fate
held_if texts true fate is = subst (IsFateHeld texts) (same_Some no_fate fate is) (λ route has. absurd (none-some route has))
held_if texts false fate is = absurd (none-some fate is)

fates_held : (rules : List Rule) (texts : Texts) (c : ClientNo) (choices : List Choice) (halt : Halt) (first ordinal : ℕ) (fate : Fate)
    → All (IsOurs rules texts c) choices → fate_in choices halt first ordinal ≡ Some fate → IsFateHeld texts fate
fates_held rules texts c [] halt first ordinal fate ours is = held_if texts (is_quitting halt && nat_eq ordinal first) fate is
fates_held rules texts c (choice ∷ others) halt first ordinal fate ours is =
    by (nat_eq ordinal first) is (fates_held rules texts c others halt (suc first) ordinal fate (All-tail (IsOurs rules texts c) choice others ours)) where
      by : (b : Bool) → (if b then Some (fate_of choice) else fate_in others halt (suc first) ordinal) ≡ Some fate
          → (fate_in others halt (suc first) ordinal ≡ Some fate → IsFateHeld texts fate) → IsFateHeld texts fate
      by true has later =
          subst (IsFateHeld texts) (same_Some (fate_of choice) fate has)
          (held_of rules texts c choice (All-head (IsOurs rules texts c) choice others ours))
      by false has later = later has

-- What the router answered it answered.

le_later : (from early late : ℕ) → early ≤ late → nat_le from early ≡ true → nat_le from late ≡ true
le_later from early late less is = let first = leb-true from early is in le-leb from late (omega (arith, first, less))

pub owned : (early late : ℕ) (answer : Option OwnAnswer) → early ≤ late
    → is_some (option_and_then (λ (a : OwnAnswer). if nat_le a.from early then Some a.payloads else None) answer) ≡ true
    → is_some (option_and_then (λ (a : OwnAnswer). if nat_le a.from late then Some a.payloads else None) answer) ≡ true
owned early late None less is = is
owned early late (Some a) less is = by (nat_le a.from early) refl is where
  by : (b : Bool) → nat_le a.from early ≡ b → is_some (if b then Some a.payloads else None) ≡ true
      → is_some (if nat_le a.from late then Some a.payloads else None) ≡ true
  by true at has = ap (λ (b : Bool). is_some (if b then Some a.payloads else None)) (le_later a.from early late less at)
  by false at has = false_true false refl has

-- By its row a client that goes on is heard and served.

pub record HasRow (g : Ground) (t : Tabled) (client : Client) : Type 0 where
  pub row : Row
  pub there : t.clients client.number ≡ Some row
  pub is : IsClient g client row
  pub going : IsGoing g client row
  pub prepared : IsPrepared g client row

served_by : (g : Ground) (t : Tabled) (client : Client) → g.over client.number ≡ false
    → ((row : Row) → t.clients client.number ≡ Some row → is_ended row.desk.seat.phase ≡ false → IsPrepared g client row)
    → (found : Option Row) → t.clients client.number ≡ found → IsClientOr g client found → HasRow g t client
served_by g t client on prepared None at is = false_true (g.over client.number) on is.over
served_by g t client on prepared (Some row) at is = by (is_ended row.desk.seat.phase) refl is.phase where
  by : (ended : Bool) → is_ended row.desk.seat.phase ≡ ended → IsPhase ended g client row → HasRow g t client
  by true ended phase = false_true (g.over client.number) on phase.over
  by false ended phase = record { row = row; there = at; is = is; going = phase; prepared = prepared row at ended }

pub served : (service : Service) (g : Ground) (t : Tabled) (client : Client) → Stands service g t → IsSeated g.tale client → g.over client.number ≡ false
    → HasRow g t client
served service g t client stands seated on =
    served_by g t client on (λ row at going. stands.prepared client seated row at going) (t.clients client.number) refl
    (seated_of (IsAt g t) g.tale client seated stands.clients.each).row

module _ (rules : List Rule) (texts : Texts) (service : Service) (log : Log) (e : Entry) (d : Decided) (n : Counts) (deeds : Deeds) (t now : Tabled)
    (roomy room : ClientNo → Bool) (recorded : IsRecorded d n log) (ours : AreOurs rules texts deeds) (setup : Setup) (codes : Codes) (plan : Plan)
    (of : IsOf (decided_with deeds n log e d) (length (with_entry log e)) plan) (before : AreCountsOf n (tale_of setup plan log))
    (counts : AreCountsOf (counts_with deeds n log e) (tale_of setup plan (with_entry log e)))
    (rests : Rests service (ground setup codes plan d log) t roomy)
    (rests_now : Rests service (ground setup codes plan (decided_with deeds n log e d) (with_entry log e)) now room)
    (held : AreHeld (key_at texts) d setup plan (tale_of setup plan log)) where
  abbrev old : Tale
  old = tale_of setup plan log

  abbrev new : Tale
  new = tale_of setup plan (with_entry log e)

  abbrev made : Deeds
  made = among (known_with log e) deeds

  abbrev later_d : Decided
  later_d = decided_with deeds n log e d

  abbrev now_at : ℕ
  now_at = suc (length log)

  of_now : IsOf (decided_by made n log e now_at d) now_at plan
  of_now = subst (λ (k : ℕ). IsOf (decided_by made n log e k d) k plan) (one_more log e) of

  lawful : IsLawful setup (tale_step setup plan old e).story
  lawful = subst (λ (tale : Tale). IsLawful setup tale.story) (tale_more setup plan log e) rests_now.stands.lawful

  stays : (m : MessageName) (reply : Reply) → (view_of setup old).replies m ≡ Some reply → (view_of setup new).replies m ≡ Some reply
  stays m reply was =
      ap (λ (tale : Tale). (view_of setup tale).replies m) (tale_more setup plan log e) ∙ replies_on setup plan old e lawful m reply was

  owns : (m : MessageName) → is_some (own_at plan old.moment m) ≡ true → is_some (own_at plan new.moment m) ≡ true
  owns m =
      let early : old.moment ≡ length log = (is_tale_of setup plan log).moment in
      let late : new.moment ≡ length (with_entry log e) = (is_tale_of setup plan (with_entry log e)).moment in
      let size : length (with_entry log e) ≡ suc (length log) = one_more log e in
      owned old.moment new.moment (plan.own m) (omega (arith, early, late, size))

  module _ (client : Client) (seated : IsSeated new client) (on : is_some (later_d.ends client.number) ≡ false) where
    abbrev c : ClientNo
    c = client.number

    its : HasRow (ground setup codes plan later_d (with_entry log e)) now client
    its = served service (ground setup codes plan later_d (with_entry log e)) now client rests_now.stands seated on

    count_now : client.taken ≡ n.taken c + taken_by (made.calls c) (made.halts c)
    count_now = seated_of (λ (y : Client). y.taken ≡ (counts_with deeds n log e).taken y.number) new client seated counts.taken

    -- what it took up at the entry
    fresh : (k : ℕ) (route : Route) → n.taken c < k → k ≤ client.taken → plan.routes (name_of client k) ≡ Some route → 0 < route.number
        → is_some (key_at texts route.key) ≡ true
    fresh k route later within routed some =
        by (fate_at made n (name_of client k)) refl
        (fate_there (made.calls c) (made.halts c) (suc (n.taken c)) k (omega (arith, later)) (omega (arith, within, count_now))) where
          by : (found : Option Fate) → fate_at made n (name_of client k) ≡ found → is_some found ≡ true → is_some (key_at texts route.key) ≡ true
          by None is there = false_true false refl there
          by (Some mine) is there =
              let has : HasFate plan now_at (name_of client k) mine =
              fate_so d n log e made (length log) plan recorded refl of_now (name_of client k) mine is later in
              fates_held rules texts c (made.calls c) (made.halts c) (suc (n.taken c)) k mine
              ((among_ours rules texts (known_with log e) deeds ours).calls c) is route (sym has.routed ∙ routed) some

    -- It was there.

    module _ (there : WasThere plan old e client) where
      abbrev was : Client
      was = there.was

      number_was : c ≡ was.number
      number_was = there.continued.number

      count_then : was.taken ≡ n.taken c
      count_then =
          seated_of (λ (y : Client). y.taken ≡ n.taken y.number) old was there.seated before.taken ∙ ap n.taken (sym number_was)

      on_then : is_some (d.ends was.number) ≡ false
      on_then = by (d.ends was.number) refl where
        by : (ended : Option ℕ) → d.ends was.number ≡ ended → is_some (d.ends was.number) ≡ false
        by None at = ap is_some at
        by (Some moment) at =
            false_true (is_some (later_d.ends c)) on
            (ap is_some (ap later_d.ends number_was
            ∙ (is_more d n log e (among (known_with log e) deeds) (length (with_entry log e)) recorded (sym (one_more log e))).ended was.number moment at))

      then_served : HasRow (ground setup codes plan d log) t was
      then_served = served service (ground setup codes plan d log) t was rests.stands there.seated on_then

      abbrev grown : List Framed
      grown = (messages_more (talk_of plan was) there.continued.more).later

      all : messages plan client ≡ messages plan was ++ grown
      all =
          let longer : messages plan client ≡ messages plan (record was { read = was.read ++ there.continued.more }) =
          λ i. messages plan (record was {
            number = there.continued.number i;
            port = there.continued.port i;
            salt = there.continued.salt i;
            read = there.continued.read i;
          }) in
          longer ∙ (messages_more (talk_of plan was) there.continued.more).is

      held_there : IsHeld (key_at texts) setup plan new client
      held_there =
          held_on (key_at texts) setup plan old new was client (record {
            number = there.continued.number;
            more = grown;
            all = all;
            within = seated_of (IsWithin setup plan) old was there.seated (within_of setup plan log);
            taken = there.continued.taken;
            stays = stays;
            owns = owns;
            unserved = its.prepared.unserved;
            to_come = λ k later. its.is.coming.unanswered k (omega (arith, later));
            earlier = then_served.going.earlier;
            fresh = λ k route later within routed some. fresh k route (let count = count_then in omega (arith, later, count)) within routed some;
          }) (λ some. seated_of (λ (y : Client). is_some (d.ends y.number) ≡ false → IsHeld (key_at texts) setup plan old y) old was there.seated held on_then)

    -- It came.

    came_by : (by : Entry) → HasCome old by client → n.taken c ≡ 0
    came_by (entry.Accepted port link salt) come =
        let last : c.0 ≡ length old.clients + 1 = ap (λ (m : ClientNo). m.0) come.number in
        let size : length old.clients ≡ length (accepted_links log) = (is_tale_of setup plan log).clients in
        (recorded.strangers c (omega (arith, last, size))).untaken
    came_by by come = absurd come

    abbrev untaken : Client
    untaken = record client { taken = 0 }

    held_come : HasCome old e client → IsHeld (key_at texts) setup plan new client
    held_come come =
        held_on (key_at texts) setup plan old new untaken client (record {
          number = refl;
          more = [];
          all = sym (append-nil (messages plan client));
          within = (let least : 0 ≤ length (messages plan client) = omega arith in least);
          taken = (let least : 0 ≤ client.taken = omega arith in least);
          stays = stays;
          owns = owns;
          unserved = its.prepared.unserved;
          to_come = λ k later. its.is.coming.unanswered k (omega (arith, later));
          earlier = λ k below. absurd (let none : k < 0 = below in omega (arith, none));
          fresh = λ k route later within routed some.
              (let none = came_by e come in let past : 0 < k = later in fresh k route (omega (arith, past, none)) within routed some);
        }) (λ some. absurd (let none : 0 < 0 = some in omega (arith, none)))

    held_either : WasThere plan old e client ⊎ HasCome old e client → IsHeld (key_at texts) setup plan new client
    held_either (inl there) = held_there there
    held_either (inr come) = held_come come

    held_now : IsHeld (key_at texts) setup plan new client
    held_now =
        held_either (seated_of (λ (z : Client). WasThere plan old e z ⊎ HasCome old e z) (tale_step setup plan old e) client
        (subst (λ (tale : Tale). IsSeated tale client) (tale_more setup plan log e) seated)
        (all_were setup plan old e (is_tale_of setup plan log).counted))

  pub held_then : AreHeld (key_at texts) later_d setup plan new
  held_then = λ k dflt within on.
      let client : Client = slice_index_or new.clients k dflt in
      held_now client (counted_seats new (is_tale_of setup plan (with_entry log e)).counted k dflt within) on
