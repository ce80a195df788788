use Rattle.query_rules.specs.declared.rules.Rules.{Rules}
use Rattle.query_rules.specs.Passing.{rules_of}
use Rattle.shared_core.proofs.Keeping.{keeps_but}
use Rattle.shared_core.proofs.Carrying.{worked_same}
-- Clients come, speak, and are lost: what the router makes of that carries it over the entry.
use Rattle.std.specs.Prelude.{◌≡◌, ◌⊎◌, ◌<◌, ◌≤◌, ◌^◌, ◌+◌, ◌-◌, ◌&&◌, ℕ, not, min, Bool, true, false, All, length, List, [], ◌∷◌, Option, Some, None, OnOk, Result, Ok, Err}
use Rattle.std.specs.Option.{option_map_or}
use Rattle.std.proofs.Common.{refl, sym, ap, ◌∙◌, subst, arith, inl, inr, length-append}
use Rattle.std.proofs.lemmas.Bool.{true≢false}
use Rattle.std.proofs.lemmas.List.Elements.{filter_map-append}
use Rattle.std.proofs.lemmas.Option.{none-some}
use Rattle.mx_base.specs.declared.names.ClientNo.{ClientNo}
use Rattle.mx_base.specs.declared.names.LinkId.{LinkId}
use Rattle.mx_base.specs.declared.names.Port.{Port}
use Rattle.mx_wire.specs.Log.{Log, accepted_link, accepted_links}
use Rattle.mx_wire.specs.Tells.{MayFollow}
use Rattle.mx_wire.specs.declared.entry.Entry.{Entry}
use Rattle.mx_wire.specs.declared.entry.Entry.TheVariants as entry
use Rattle.private_model.proofs.Maps.{same_number}
use Rattle.client_seat.specs.Seats.{account_in, is_ended, wants_read}
use Rattle.core_says.specs.Says.{is_own, reads_by, reads_client, reads_in, reads_row}
use Rattle.core_service.specs.Serves.{rules_in}
use Rattle.core_service.specs.declared.service.Service.{Service}
use Rattle.client_seat.specs.declared.seat.Seat.{Seat}
use Rattle.stmt_map.specs.declared.client.ClientStatements.{ClientStatements}
use Rattle.core_tables.specs.Arrivals.{came}
use Rattle.core_tables.specs.Tables.{IsSame, Tabled}
use Rattle.core_tables.specs.declared.client.Client.{Client}
use Rattle.core_tables.specs.declared.client.ClientNote.{ClientNote}
use Rattle.core_tables.specs.declared.server.Server.{Server}
use Rattle.link_marks.specs.Marks.{is_known}
use Rattle.marked_tables.proofs.Going.{goes_along}
use Rattle.marked_tables.specs.Goes.{GoesOn, reads_on}
use Rattle.marked_tables.specs.declared.marked.MarkedTables.{MarkedTables}
use Rattle.core_laws.specs.clients.Follows.{Parting}
use Rattle.core_laws.specs.clients.Turns.{Choice, Halt}
use Rattle.router_laws.specs.clients.Comes.{ComesSo, IsReceived, Served, TurnedAway}
use Rattle.router_laws.specs.clients.Leaves.{IsLossOf, LeavesAgain, LeavesAtOnce, LeavesGoing}
use Rattle.router_laws.specs.clients.Plans.{nobody}
use Rattle.router_laws.specs.clients.Speaks.{IsLinkOf, SpeaksSo}
use Rattle.router_laws.specs.entering.Rooms.{OthersLack}
use Rattle.core_promises.specs.Ruled.{AreRuled, ruling_of}
use Rattle.router_laws.specs.decisions.Partings.{IsPartedFor}
use Rattle.router_laws.specs.decisions.Speaks.{IsOurs, IsPartingOurs}
use Rattle.router_laws.specs.decisions.Held.{AreHeldSince}
use Rattle.router_laws.specs.decisions.Routers.{IsLearned, IsRouter}
use Rattle.router_laws.specs.routers.Somehow.{AreLinked, IsLinked}
use Rattle.core_laws.specs.entry.Cores.{with_entry}
use Rattle.router_laws.proofs.OfDecisions.Learning.{learned, learns}
use Rattle.core_texts.specs.declared.texts.Texts.{Texts}
use Rattle.core_texts.specs.Texts.{AreMore, HasBegun, key_at}
use Rattle.core_texts.proofs.Keeping.{itself_more, more_on}
use Rattle.core_promises.specs.Administers.{Administered}
use Rattle.shared_core.proofs.Coming.{BringsNone, administrator_then, clock_on, come_as, come_on}
use Rattle.shared_core.specs.Came.{HaveCome, came_then}
use Rattle.shared_core.proofs.Entrants.{lacking, lacks_itself, logging_in, others_lack, router_still}
use Rattle.shared_core.specs.Clients.{HasLeftAtOnce, HasLeftGoing, HasSpoken}
use Rattle.shared_core.specs.Follows.{Keeps, KeepsBut, made_by}
use Rattle.shared_core.specs.Stands.{Carries, IsSettled, Loses, Moves, StandsFor, is_roomy, tables, work_of, worked}
use Rattle.shared_core.specs.declared.roomy.Roomy.{Roomy}
use Rattle.shared_core.specs.declared.router.Router.{Router}
use Rattle.client_seat.specs.Numbers.{number_in}

-- The laws by which a router goes on.

abbrev pub Comes : Type 0
Comes = (service : Service) (texts : Texts) (admin : Administered) (log : Log) (t now : Tabled) (roomy : ClientNo → Bool) (port : Port) (link : LinkId)
    (salt : List ℕ) (c : ClientNo) → IsRouter service texts admin log t roomy → MayFollow log (entry.Accepted port link salt)
    → c.0 ≡ length (accepted_links log) + 1 → ComesSo Served service.setup port link salt c t now
    → IsRouter service texts admin (with_entry log (entry.Accepted port link salt)) now roomy

abbrev pub Away : Type 0
Away = (service : Service) (texts : Texts) (admin : Administered) (log : Log) (t now : Tabled) (roomy : ClientNo → Bool) (port : Port) (link : LinkId)
    (salt : List ℕ) (c : ClientNo) → IsRouter service texts admin log t roomy → MayFollow log (entry.Accepted port link salt)
    → c.0 ≡ length (accepted_links log) + 1 → ComesSo TurnedAway service.setup port link salt c t now
    → IsRouter service texts admin (with_entry log (entry.Accepted port link salt)) now roomy

abbrev pub Speaks : Type 0
Speaks = (service : Service) (texts : Texts) (admin is : Administered) (log : Log) (t now : Tabled) (roomy room : ClientNo → Bool) (link : LinkId) (bytes : List ℕ)
    (c : ClientNo) (ordinal : ℕ) (choices : List Choice) (halt : Halt) (parting : Parting) (links : List LinkId)
    → (router : IsRouter service texts admin log t roomy) → MayFollow log (entry.Got link bytes)
    → (so : SpeaksSo service.setup service.default_schema link bytes c ordinal choices halt parting links t now)
    → All (IsOurs (rules_in service) texts c) choices → IsPartingOurs parting → IsPartedFor service.buffer_budget ⊥ parting
    → OthersLack c roomy room
    → AreRuled (ruling_of service texts.since (key_at texts) admin is) choices halt service.setup service.default_schema c so.heard so.follows.turned so.follows.turns
    → AreHeldSince texts service.default_schema router.core.decided log
    → admin.rules ≡ rules_in service → IsRouter service texts is (with_entry log (entry.Got link bytes)) now room

abbrev pub Again : Type 0
Again = (service : Service) (texts : Texts) (admin : Administered) (log : Log) (e : Entry) (t now : Tabled) (roomy : ClientNo → Bool) (link : LinkId) (c : ClientNo)
    → IsRouter service texts admin log t roomy → MayFollow log e → IsLossOf link e → LeavesAgain link c t now
    → IsRouter service texts admin (with_entry log e) now roomy

abbrev pub AtOnce : Type 0
AtOnce = (service : Service) (texts : Texts) (admin : Administered) (log : Log) (e : Entry) (t now : Tabled) (roomy room : ClientNo → Bool) (link : LinkId)
    (c : ClientNo) (links : List LinkId) → IsRouter service texts admin log t roomy → MayFollow log e → IsLossOf link e
    → LeavesAtOnce link links c roomy t now → OthersLack c roomy room → IsRouter service texts admin (with_entry log e) now room

abbrev pub Going : Type 0
Going = (service : Service) (texts : Texts) (admin is : Administered) (log : Log) (e : Entry) (t now : Tabled) (roomy room : ClientNo → Bool) (link : LinkId)
    (c : ClientNo) (links : List LinkId) (ordinal : ℕ) (choices : List Choice) (halt : Halt) (parting : Parting)
    → (router : IsRouter service texts admin log t roomy) → MayFollow log e → IsLossOf link e
    → (so : LeavesGoing service.setup service.default_schema link links ordinal choices halt parting c t now)
    → All (IsOurs (rules_in service) texts c) choices → IsPartingOurs parting
    → OthersLack c roomy room
    → AreRuled (ruling_of service texts.since (key_at texts) admin is) choices halt service.setup service.default_schema c so.between so.follows.turned so.follows.turns
    → AreHeldSince texts service.default_schema router.core.decided log
    → admin.rules ≡ rules_in service → IsRouter service texts is (with_entry log e) now room

abbrev pub Linked : Type 0
Linked = (service : Service) (texts : Texts) (admin : Administered) (log : Log) (t : Tabled) (roomy : ClientNo → Bool) → IsRouter service texts admin log t roomy → AreLinked t

-- both hold, if there was memory
pub on_both : {X E : Type 0} {A B C : Type 0} (r : Result X E) → (A → B → C) → OnOk r A → OnOk r B → OnOk r C
on_both (Ok x) f a b = f a b
on_both (Err e) f a b = tt

-- How many clients came.

one_few : (e : Entry) → length (accepted_links (e ∷ [])) ≤ 1
one_few (entry.Accepted port link salt) = omega arith
one_few e = omega arith

more_with : (log : Log) (e : Entry) → length (accepted_links (e ∷ log)) ≡ length (accepted_links (e ∷ [])) + length (accepted_links log)
more_with log e =
    ap (λ (xs : List LinkId). length xs) (filter_map-append accepted_link (e ∷ []) log) ∙ length-append (accepted_links (e ∷ [])) (accepted_links log)

few : (log : Log) → length (accepted_links log) ≤ length log
few [] = omega arith
few (e ∷ log) =
    let one : length (accepted_links (e ∷ [])) ≤ 1 = one_few e in
    let more : length (accepted_links (e ∷ log)) ≡ length (accepted_links (e ∷ [])) + length (accepted_links log) = more_with log e in
    let rest : length (accepted_links log) ≤ length log = few log in omega (arith, one, more, rest)

behind : (log : Log) (e : Entry) → length (accepted_links (with_entry log e)) ≡ length (accepted_links log) + length (accepted_links (e ∷ []))
behind log e =
    ap (λ (xs : List LinkId). length xs) (filter_map-append accepted_link log (e ∷ [])) ∙ length-append (accepted_links log) (accepted_links (e ∷ []))

-- One comes.

module _ (service : Service) (port : Port) (link : LinkId) (salt : List ℕ) (old new : Router) (c : ClientNo)
    (count : c.0 ≡ min (old.came.clients + 1) (2 ^ 64 - 1)) (came_so : new.came ≡ came_then old.came port) (roomy : new.roomy ≡ old.roomy)
    (more : AreMore old.texts new.texts) (work : work_of new ≡ work_of old) where
  abbrev e : Entry
  e = entry.Accepted port link salt

  counted : (log : Log) → MayFollow log e → HaveCome log old.came → c.0 ≡ length (accepted_links log) + 1
  counted log may was =
      let below : length log + 1 < 281474976710656 = may.bounded in
      let less : length (accepted_links log) ≤ length log = few log in
      let before : old.came.clients ≡ length (accepted_links log) = was.clients in omega (arith, count, before, below, less)

  stands : (log : Log) (may : MayFollow log e) (was : HaveCome log old.came)
      → IsRouter service new.texts (worked service (work_of old)) (with_entry log e) (tables new) (is_roomy old.roomy)
      → StandsFor service (with_entry log e) new
  stands log may was router = record {
    router = worked_same service new.texts (with_entry log e) (tables new) (is_roomy new.roomy) old new work
        (subst (λ (r : Roomy). IsRouter service new.texts (worked service (work_of old)) (with_entry log e) (tables new) (is_roomy r)) (sym roomy) router);
    counted = come_as (with_entry log e) (came_then old.came port) new.came came_so (record {
      clients = (let one : c.0 ≡ length (accepted_links log) + 1 = counted log may was in
          let more : length (accepted_links (with_entry log e)) ≡ length (accepted_links log) + 1 = behind log e in omega (arith, count, one, more));
      administrator = administrator_then log old.came port link salt was;
      clock = was.clock ∙ sym (clock_on log (e ∷ []) (λ moment. refl));
    });
  }

  pub comes_carry : Comes → ComesSo Served service.setup port link salt c (tables old) (tables new) → Carries service e old new
  comes_carry law so log may stood =
      stands log may stood.counted
      (law service new.texts (worked service (work_of old)) log (tables old) (tables new) (is_roomy old.roomy) port link salt c
      (learns service old.texts new.texts (worked service (work_of old)) log (tables old) (is_roomy old.roomy) stood.router more) may
      (counted log may stood.counted) so)

  pub away_carries : Away → ComesSo TurnedAway service.setup port link salt c (tables old) (tables new) → Carries service e old new
  away_carries law so log may stood =
      stands log may stood.counted
      (law service new.texts (worked service (work_of old)) log (tables old) (tables new) (is_roomy old.roomy) port link salt c
      (learns service old.texts new.texts (worked service (work_of old)) log (tables old) (is_roomy old.roomy) stood.router more) may
      (counted log may stood.counted) so)

pub moves_of : (old new : Router) → Keeps old new → Moves old new
moves_of old new keeps = record { goes = keeps.goes; client = keeps.client; link = keeps.link }

-- what stays as it was stays so along

pub keeps_on : (a b c : Router) → Keeps a b → Keeps b c → Keeps a c
keeps_on a b c first next = record {
  goes = goes_along a.marked b.marked c.marked first.goes next.goes;
  roomy = next.roomy ∙ first.roomy;
  came = next.came ∙ first.came;
  asked = next.asked ∙ first.asked;
  client = next.client ∙ first.client;
  link = next.link ∙ first.link;
  texts = more_on a.texts b.texts c.texts first.texts next.texts;
  work = next.work ∙ first.work;
}

pub keeps_marked : (r : Router) (m : MarkedTables) → GoesOn r.marked m → Keeps r (record r { marked = m })
keeps_marked r m goes = record { goes = goes; roomy = refl; came = refl; asked = refl; client = refl; link = refl; texts = itself_more r.texts; work = refl }

-- it is received with its seat
pub received : (by : ClientStatements → Seat) (link : LinkId) (c : ClientNo) (seat : Seat) (note : ClientNote) (t now : Tabled)
    → seat ≡ by seat.statements → (is_ended seat.phase ≡ false → (number : ℕ) → number_in seat.statements number ≡ None)
    → IsSame now (came c link seat note t) → IsReceived by link c t now
received by link c seat note t now its none same = record {
  statements = seat.statements;
  note = note;
  none = λ on. none (ap (λ (s : Seat). is_ended s.phase) its ∙ on);
  same = subst (λ (s : Seat). IsSame now (came c link s note t)) its same;
}

-- where all that were loaded are in force
pub settled_rules : (service : Service) (r : Router) → IsSettled r → (worked service (work_of r)).rules ≡ rules_in service
settled_rules service r loaded = ap (λ (o : Option Rules). option_map_or rules_of o (rules_in service)) loaded

-- As more texts are kept it stands so.
learnt : (service : Service) (old new : Router) → KeepsBut old new → (log : Log) → StandsFor service log old
    → IsRouter service new.texts (worked service (work_of old)) log (tables old) (is_roomy old.roomy)
learnt service old new keeps log stood = learns service old.texts new.texts (worked service (work_of old)) log (tables old) (is_roomy old.roomy) stood.router keeps.texts

learnt_since : (service : Service) (old new : Router) → KeepsBut old new → HasBegun old.texts → (log : Log) → StandsFor service log old
    → IsLearned service new.texts (worked service (work_of old)) log (tables old) (is_roomy old.roomy)
learnt_since service old new keeps begun log stood =
    learned service old.texts new.texts (worked service (work_of old)) log (tables old) (is_roomy old.roomy) stood.router begun keeps.texts

-- Of entries at which nobody comes.

module _ (service : Service) (e : Entry) (old new : Router) (keeps : KeepsBut old new) (none : BringsNone (e ∷ [])) where
  pub kept_stands : (log : Log) → HaveCome log old.came
      → IsRouter service new.texts (worked service (work_of new)) (with_entry log e) (tables new) (is_roomy old.roomy) → StandsFor service (with_entry log e) new
  kept_stands log was router = record {
    router = subst (λ (r : Roomy). IsRouter service new.texts (worked service (work_of new)) (with_entry log e) (tables new) (is_roomy r)) (sym keeps.roomy) router;
    counted = come_as (with_entry log e) old.came new.came keeps.came (come_on log (e ∷ []) old.came none was);
  }

-- Who is read is there, and goes on.

and_left : (a b : Bool) → (a && b) ≡ true → a ≡ true
and_left true b is = refl
and_left false b is = is

and_right : (a b : Bool) → (a && b) ≡ true → b ≡ true
and_right true b is = is
and_right false b is = absurd (true≢false (sym is))

not_true : (b : Bool) → not b ≡ true → b ≡ false
not_true false is = refl
not_true true is = sym is

read_row : (link : LinkId) (c : ClientNo) (t : Tabled) → t.links link ≡ None → t.numbers link ≡ Some c → reads_in t link ≡ true
    → (row : Client) × (t.clients c ≡ Some row) × (is_ended row.desk.seat.phase ≡ false)
read_row link c t aside numbered reads =
    by (t.clients c) refl
    (subst (λ (n : Option ClientNo). reads_client t link n ≡ true) numbered (subst (λ (s : Option Server). reads_by s t link ≡ true) aside reads)) where
      by : (found : Option Client) → t.clients c ≡ found → option_map_or (reads_row link) found false ≡ true
          → (row : Client) × (t.clients c ≡ Some row) × (is_ended row.desk.seat.phase ≡ false)
      by None at is = absurd (true≢false (sym is))
      by (Some row) at is = (
        row,
        at,
        not_true (is_ended row.desk.seat.phase)
            (and_left (not (is_ended row.desk.seat.phase)) _ (and_right (is_own link row) (wants_read row.desk.seat) is)),
      )

-- nobody's link isn't read
pub none_read : (link : LinkId) (r : Router) → (tables r).links link ≡ None → (tables r).numbers link ≡ None → reads_on r.marked link ≡ true → ⊥
none_read link r aside numbered reads =
    true≢false
    (sym (subst (λ (n : Option ClientNo). reads_client (tables r) link n ≡ true) numbered
    (subst (λ (s : Option Server). reads_by s (tables r) link ≡ true) aside
    (and_right (is_known r.marked.changed link) (reads_in (tables r) link) reads))))

pub speaks_carry : (service : Service) (link : LinkId) (bytes : List ℕ) (c : ClientNo) (old new : Router) → Speaks
    → (tables old).links link ≡ None → (tables old).numbers link ≡ Some c → KeepsBut old new → HasBegun old.texts
    → ((row : Client) → IsLinkOf link c row (tables old) → is_ended row.desk.seat.phase ≡ false → HasSpoken service (made_by service old new) link bytes c (tables old) (tables new))
    → reads_on old.marked link ≡ true → IsSettled old → Carries service (entry.Got link bytes) old new
speaks_carry service link bytes c old new law aside numbered keeps begun spoken reads loaded log may stood =
    let since : IsLearned service new.texts (worked service (work_of old)) log (tables old) (is_roomy old.roomy) = learnt_since service old new keeps begun log stood in
    let read = read_row link c (tables old) aside numbered (and_right (is_known old.marked.changed link) (reads_in (tables old) link) reads) in
    let spoke : HasSpoken service (made_by service old new) link bytes c (tables old) (tables new) =
    spoken read.0 (record { numbered = numbered; there = read.1 }) read.2 in
    kept_stands service (entry.Got link bytes) old new keeps (refl, λ moment. refl) log stood.counted
    (law service new.texts (worked service (work_of old)) (worked service (work_of new)) log (tables old) (tables new) (is_roomy old.roomy) (is_roomy old.roomy) link bytes c spoke.ordinal spoke.choices
    spoke.halt spoke.parting spoke.links since.router may spoke.so spoke.ours spoke.word spoke.parted (λ other apart full. full) spoke.ruled since.since
    (settled_rules service old loaded))

-- A link is lost.

lost_none : (link : LinkId) (e : Entry) → IsLossOf link e → BringsNone (e ∷ [])
lost_none link e (inl same) = subst (λ (x : Entry). BringsNone (x ∷ [])) (sym same) (refl, λ moment. refl)
lost_none link e (inr (inl same)) = subst (λ (x : Entry). BringsNone (x ∷ [])) (sym same) (refl, λ moment. refl)
lost_none link e (inr (inr same)) = subst (λ (x : Entry). BringsNone (x ∷ [])) (sym same) (refl, λ moment. refl)

loses_by : (service : Service) (link : LinkId) (old new : Router) → ((e : Entry) → IsLossOf link e → Carries service e old new)
    → Loses service link old new
loses_by service link old new each = record {
  ended = each (entry.Ended link) (inl refl);
  unread = each (entry.ReadFailed link) (inr (inl refl));
  unwritten = each (entry.WriteFailed link) (inr (inr refl));
}

-- One that isn't logged in has nothing to take up, though it may have room again.
at_once_router : AtOnce → (service : Service) (texts : Texts) (admin : Administered) (log : Log) (e : Entry) (t now : Tabled) (roomy : ClientNo → Bool) (link : LinkId)
    (c : ClientNo) (links : List LinkId) → IsRouter service texts admin log t roomy → MayFollow log e → IsLossOf link e
    → LeavesAtOnce link links c nobody t now → IsRouter service texts admin (with_entry log e) now roomy
at_once_router law service texts admin log e t now roomy link c links router may lost so = by so.busy where
  so_by : (room : ClientNo → Bool) → (so.row.desk.seat.answered ≡ false) ⊎ ((account_in so.row.desk.seat.phase ≡ None) × (room c ≡ false))
      → LeavesAtOnce link links c room t now
  so_by room busy = record { row = so.row; its = so.its; going = so.going; busy = busy; between = so.between; ends = so.ends; again = so.again }

  by : (so.row.desk.seat.answered ≡ false) ⊎ ((account_in so.row.desk.seat.phase ≡ None) × (nobody c ≡ false))
      → IsRouter service texts admin (with_entry log e) now roomy
  by (inl waits) = law service texts admin log e t now roomy roomy link c links router may lost (so_by roomy (inl waits)) (λ other apart full. full)
  by (inr fresh) =
      law service texts admin log e t now (lacking c roomy) roomy link c links
      (router_still service texts admin log t roomy c so.row so.its.there (logging_in so.row.desk.seat.phase so.going fresh.0) router) may lost
      (so_by (lacking c roomy) (inr (fresh.0, lacks_itself c roomy (same_number c.0)))) (λ other apart full. others_lack c roomy other full)

-- a link of nobody's that is there isn't one of a router
pub gone_loses : Linked → (service : Service) (link : LinkId) (c : ClientNo) (old new : Router) → (tables old).clients c ≡ None
    → (tables old).numbers link ≡ Some c → Loses service link old new
gone_loses linked service link c old new gone numbered =
    loses_by service link old new
    (λ e lost log may stood.
    let is : IsLinked link c (tables old) =
    linked service old.texts (worked service (work_of old)) log (tables old) (is_roomy old.roomy) stood.router link c numbered in
    absurd (none-some is.row (sym gone ∙ is.there)))

module _ (service : Service) (link : LinkId) (c : ClientNo) (old new : Router) (keeps : Keeps old new) where
  pub again_loses : Again → LeavesAgain link c (tables old) (tables new) → Loses service link old new
  again_loses law so =
      loses_by service link old new
      (λ e lost log may stood.
      kept_stands service e old new (keeps_but old new keeps) (lost_none link e lost) log stood.counted
      (worked_same service new.texts (with_entry log e) (tables new) (is_roomy old.roomy) old new keeps.work
      (law service new.texts (worked service (work_of old)) log e (tables old) (tables new) (is_roomy old.roomy) link c
      (learnt service old new (keeps_but old new keeps) log stood) may lost so)))

  pub at_once_loses : AtOnce → HasLeftAtOnce link c (tables old) (tables new) → Loses service link old new
  at_once_loses law has =
      loses_by service link old new
      (λ e lost log may stood.
      kept_stands service e old new (keeps_but old new keeps) (lost_none link e lost) log stood.counted
      (worked_same service new.texts (with_entry log e) (tables new) (is_roomy old.roomy) old new keeps.work
      (at_once_router law service new.texts (worked service (work_of old)) log e (tables old) (tables new) (is_roomy old.roomy) link c has.links
      (learnt service old new (keeps_but old new keeps) log stood) may lost has.so)))

-- its turns may be ruled by others behind
module _ (service : Service) (link : LinkId) (c : ClientNo) (old new : Router) (keeps : KeepsBut old new) where
  pub going_loses : Going → HasBegun old.texts → HasLeftGoing service (made_by service old new) link c (tables old) (tables new) → IsSettled old → Loses service link old new
  going_loses law begun has loaded =
      loses_by service link old new
      (λ e lost log may stood.
      let since : IsLearned service new.texts (worked service (work_of old)) log (tables old) (is_roomy old.roomy) = learnt_since service old new keeps begun log stood in
      kept_stands service e old new keeps (lost_none link e lost) log stood.counted
      (law service new.texts (worked service (work_of old)) (worked service (work_of new)) log e (tables old) (tables new) (is_roomy old.roomy) (is_roomy old.roomy) link c has.links has.ordinal
      has.choices has.halt has.parting since.router may lost has.so has.ours has.word (λ other apart full. full) has.ruled since.since
      (settled_rules service old loaded)))
