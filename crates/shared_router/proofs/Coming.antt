-- Nothing is taken up of a client at the entry at which it is accepted.
use Rattle.std.specs.Prelude.{◌≡◌, ◌+◌, ℕ, zero, suc, Bool, true, false, ◌||◌, fold, length, slice_get, if◌then◌else◌, List, [], ◌∷◌, ◌++◌, Option, Some, None}
use Rattle.std.specs.List.{list_any}
use Rattle.std.specs.Option.{option_map_or}
use Rattle.std.proofs.Common.{refl, sym, ap, ◌∙◌, subst, append_assoc, append-nil}
use Rattle.std.proofs.lemmas.Bool.{or_left, or_right}
use Rattle.mx_base.specs.declared.names.LinkId.{LinkId}
use Rattle.mx_base.specs.declared.names.Port.{Port}
use Rattle.mx_wire.specs.Log.{Log, is_link, link_of, of_link}
use Rattle.mx_wire.specs.declared.entry.Entry.{Entry}
use Rattle.mx_wire.specs.declared.entry.Entry.TheVariants as entry
use Rattle.client_side.specs.Login as login
use Rattle.packet_frame.specs.Packets as packets
use Rattle.private_model.proofs.Maps as maps
use Rattle.private_model.proofs.Maps.{same_link}
use Rattle.private_model.specs.Story.{is_client, is_link_id}
use Rattle.private_model.specs.View.{Setup, View}
use Rattle.client_session.specs.Answers.{messages_of}
use Rattle.log_story.specs.Owed.{messages}
use Rattle.log_story.specs.Plan.{Plan}
use Rattle.log_story.specs.Tale.{Client, Tale, client_gets, client_hears, new_client, view_of}
use Rattle.tale_world.specs.Decided.{plan_of}
use Rattle.tale_world.specs.Deciding.{Deciding, World}
use Rattle.tale_world.specs.World.{are_taken, decided_last, decided_next, goes_on, is_called, is_counted, is_ended, is_told, next_of, taken_once, with_taken, world_step}
use Rattle.shared_router.specs.Fixed.{Fixed, setup_of}
use Rattle.shared_router.specs.Judged.{heard}
use Rattle.shared_router.specs.More.{More}
use Rattle.shared_router.specs.Shared.{shared, world_at}
use Rattle.shared_router.proofs.Ending.{any-on}
use Rattle.shared_router.proofs.Looked.{Each, IfComes, Seats, each-last, each-map, each-so, ending-clients, freeing-clients, taken-clients, told-seats}
use Rattle.shared_router.proofs.Parting.{world_more}
use Rattle.shared_router.proofs.Since.{going-on}

-- Its link is named in the log.

abbrev pub IsNamed : Log → Client → Type 0
IsNamed log client = list_any (λ e. is_link client.link (link_of e)) log ≡ true

either-client : (P : Client → Type 0) (b : Bool) (x y : Client) → P x → P y → P (if b then x else y)
either-client P true x y one other = one
either-client P false x y one other = other

not_named : (link : LinkId) (log : Log) → of_link link log ≡ [] → list_any (λ e. is_link link (link_of e)) log ≡ false
not_named link [] new = refl
not_named link (e ∷ log) new = by_test (is_link link (link_of e)) new (not_named link log) where
  by_test : (b : Bool) → (if b then e ∷ of_link link log else of_link link log) ≡ [] → (of_link link log ≡ [] → list_any (λ e. is_link link (link_of e)) log ≡ false)
      → (b || list_any (λ e. is_link link (link_of e)) log) ≡ false
  by_test true none later = absurd (cc)
  by_test false none later = later none

never : {A : Type 0} → true ≡ false → A
never is = absurd (cc)

-- a link that is new is no client's
pub named_new : {A : Type 0} (log : Log) (link : LinkId) (client : Client) → of_link link log ≡ [] → link ≡ client.link → IsNamed log client → A
named_new log link client new same named =
    never (sym named ∙ ap (λ l. list_any (λ e. is_link l (link_of e)) log) (sym same) ∙ not_named link log new)

named-more : (log : Log) (e : Entry) (client : Client) → IsNamed log client → IsNamed (log ++ e ∷ []) client
named-more log e client named = any-on (λ e. is_link client.link (link_of e)) log (e ∷ []) ∙ or_left _ (is_link client.link (link_of e) || false) named

-- the entry names it
abbrev ComesIn : Log → LinkId → Type 0
ComesIn log link = list_any (λ e. is_link link (link_of e)) log ≡ true

named-seats : (log : Log) → Seats (ComesIn log) (Each (IsNamed log))
named-seats log = record {
  comes = λ cs port link salt comes all. each-last (IsNamed log) cs (new_client (length cs + 1) port link salt) all comes;
  hears = λ cs link bytes all. each-map (IsNamed log) (IsNamed log) (client_hears link bytes) cs
      (λ c named. either-client (IsNamed log) (is_link_id c.link link) (record c { read = c.read ++ bytes }) c named named) all;
  gets = λ cs link count all. each-map (IsNamed log) (IsNamed log) (client_gets link count) cs
      (λ c named. either-client (IsNamed log) (is_link_id c.link link) (record c { written = c.written + count }) c named named) all;
}

names-it : (log : Log) (e : Entry) → IfComes (ComesIn (log ++ e ∷ [])) e
names-it log (entry.Accepted port link salt) =
    any-on (λ e. is_link link (link_of e)) log (entry.Accepted port link salt ∷ [])
    ∙ or_right (list_any (λ e. is_link link (link_of e)) log) _ (or_left _ false (same_link link))
names-it log _ = tt

-- It was just accepted, as the last of so many: nothing was read of it, nor taken up.

pub record IsFirst (count : ℕ) (client : Client) : Type 0 where
  pub taken : client.taken ≡ 0
  pub read : client.read ≡ []
  pub number : client.number.0 ≡ count

abbrev pub IsIdle : (count : ℕ) → LinkId → Client → Type 0
IsIdle count link client = is_link_id link client.link ≡ true → IsFirst count client

says_none : (plan : Plan) (client : Client) → client.read ≡ [] → messages plan client ≡ []
unfolding packets.split login.opening packets.first_message
says_none plan client none =
    ap (λ read. (messages_of (record { setup = plan.service; number = client.number.0; port = client.port; salt = client.salt; read = read })).messages) none

module _ (fixed : Fixed) where
  abbrev setup : Setup
  setup = setup_of fixed

  abbrev by : Deciding More
  by = shared fixed

  -- What clients keep as they go on, where next_of keeps it.

  module _ (P : Client → Type 0) (goes : (client : Client) → P client → P (next_of client)) where
    taking-kept : (most : ℕ) (client : Client) (w : World More) → P client → Each P w.tale.clients → Each P (are_taken most setup by client w).tale.clients
    taking-kept zero client w mine all = all
    taking-kept (suc most) client w mine all = by_found (taken_once setup by w client) refl (taking-kept most (next_of client)) where
      after : Option Tale → World More
      after found = option_map_or (λ tale. are_taken most setup by (next_of client) (with_taken setup by w client tale)) found (record w { decided = decided_next setup by w client })

      by_found : (found : Option Tale) → taken_once setup by w client ≡ found
          → ((v : World More) → P (next_of client) → Each P v.tale.clients → Each P (are_taken most setup by (next_of client) v).tale.clients) → Each P (after found).tale.clients
      by_found None is others = all
      by_found (Some tale) is others =
          let d = decided_next setup by w client in
          let came = taken-clients setup (plan_of d) client (slice_get (messages (plan_of d) client) client.taken) w.tale tale is in
          others (with_taken setup by w client tale) (goes client mine)
          (each-map P P (λ (other : Client). if is_client other.number client.number then next_of client else other) tale.clients
          (λ other there. either-client P (is_client other.number client.number) (next_of client) other (goes client mine) there)
          (subst (Each P) (sym came.0) all))

  named-on : (log : Log) (client : Client) → IsNamed log client → IsNamed log (next_of client)
  named-on log client named = named

  going-named : (log : Log) (view : View) (e : Entry) (xs : List Client) (w : World More) → Each (IsNamed log) xs → Each (IsNamed log) w.tale.clients
      → Each (IsNamed log) (fold (goes_on setup by view e) w xs).tale.clients
  going-named log view e [] w each all = all
  going-named log view e (x ∷ xs) w each all = going-named log view e xs (goes_on setup by view e w x) each.1 (by_test (is_called v.decided w.tale.moment view e x)) where
    v : World More
    v = record w { decided = decided_last by w x }

    by_test : (b : Bool) → Each (IsNamed log) (if b then are_taken (length (messages (plan_of v.decided) x)) setup by x v else v).tale.clients
    by_test true = taking-kept (IsNamed log) (named-on log) (length (messages (plan_of v.decided) x)) x v each.0 all
    by_test false = all

  step-named : (log : Log) (w : World More) (e : Entry) → Each (IsNamed log) w.tale.clients → Each (IsNamed (log ++ e ∷ [])) (world_step setup by w e).tale.clients
  step-named log w e all =
      let more : Log = log ++ e ∷ [] in
      let a : World More = is_told setup by w e in
      let b : World More = is_counted by a e in
      let c : World More = heard fixed w e in
      let d : World More = going-on fixed w e in
      let f : World More = is_ended by d e in
      let told_so : Each (IsNamed more) b.tale.clients =
      told-seats (ComesIn more) (Each (IsNamed more)) (named-seats more) setup (plan_of a.decided) w.tale e (names-it log e)
      (each-so (IsNamed log) (IsNamed more) w.tale.clients (named-more log e) all) in
      let heard_so : Each (IsNamed more) c.tale.clients = subst (Each (IsNamed more)) (sym (freeing-clients fixed b.tale.links b)) told_so in
      subst (Each (IsNamed more)) (sym (freeing-clients fixed f.tale.links f ∙ ending-clients (plan_of f.decided) d.tale.clients d.tale))
      (going-named more (view_of setup w.tale) e c.tale.clients c heard_so heard_so)

  named-from : (before later : Log) → Each (IsNamed before) (world_at fixed before).tale.clients → Each (IsNamed (before ++ later)) (world_at fixed (before ++ later)).tale.clients
  named-from before [] all = subst (λ l. Each (IsNamed l) (world_at fixed l).tale.clients) (sym (append-nil before)) all
  named-from before (e ∷ later) all =
      subst (λ l. Each (IsNamed l) (world_at fixed l).tale.clients) (append_assoc before (e ∷ []) later)
      (named-from (before ++ e ∷ []) later (subst (λ (v : World More). Each (IsNamed (before ++ e ∷ [])) v.tale.clients) (sym (world_more fixed before (e ∷ [])))
      (step-named before (world_at fixed before) e all)))

  pub named_at : (log : Log) → Each (IsNamed log) (world_at fixed log).tale.clients
  named_at log = named-from [] log tt

  -- Of who is just accepted nothing is taken up.

  idle-apart : (count : ℕ) (link : LinkId) (client : Client) → is_link_id link client.link ≡ false → IsIdle count link client
  idle-apart count link client apart here = never (sym here ∙ apart)

  taking-apart : (count : ℕ) (link : LinkId) (most : ℕ) (client : Client) (w : World More) → is_link_id link client.link ≡ false → Each (IsIdle count link) w.tale.clients
      → Each (IsIdle count link) (are_taken most setup by client w).tale.clients
  taking-apart count link zero client w apart all = all
  taking-apart count link (suc most) client w apart all = by_found (taken_once setup by w client) refl (taking-apart count link most (next_of client)) where
    after : Option Tale → World More
    after found = option_map_or (λ tale. are_taken most setup by (next_of client) (with_taken setup by w client tale)) found (record w { decided = decided_next setup by w client })

    by_found : (found : Option Tale) → taken_once setup by w client ≡ found
        → ((v : World More) → is_link_id link client.link ≡ false → Each (IsIdle count link) v.tale.clients → Each (IsIdle count link) (are_taken most setup by (next_of client) v).tale.clients)
        → Each (IsIdle count link) (after found).tale.clients
    by_found None is others = all
    by_found (Some tale) is others =
        let d = decided_next setup by w client in
        let came = taken-clients setup (plan_of d) client (slice_get (messages (plan_of d) client) client.taken) w.tale tale is in
        others (with_taken setup by w client tale) apart
        (each-map (IsIdle count link) (IsIdle count link) (λ (other : Client). if is_client other.number client.number then next_of client else other) tale.clients
        (λ other there. either-client (IsIdle count link) (is_client other.number client.number) (next_of client) other (idle-apart count link (next_of client) apart) there)
        (subst (Each (IsIdle count link)) (sym came.0) all))

  going-idle : (count : ℕ) (link : LinkId) (view : View) (e : Entry) (xs : List Client) (w : World More) → Each (IsIdle count link) xs → Each (IsIdle count link) w.tale.clients
      → Each (IsIdle count link) (fold (goes_on setup by view e) w xs).tale.clients
  going-idle count link view e [] w each all = all
  going-idle count link view e (x ∷ xs) w each all = going-idle count link view e xs (goes_on setup by view e w x) each.1 (by_test (is_called v.decided w.tale.moment view e x) (is_link_id link x.link) refl) where
    v : World More
    v = record w { decided = decided_last by w x }

    after : (called : Bool) → (most : ℕ) → World More
    after called most = if called then are_taken most setup by x v else v

    both-kept : Each (IsIdle count link) w.tale.clients → is_link_id link x.link ≡ false → (most : ℕ) → Each (IsIdle count link) (are_taken most setup by x v).tale.clients
    both-kept all apart most = taking-apart count link most x v apart all

    by_test : (called here : Bool) → is_link_id link x.link ≡ here → Each (IsIdle count link) (after called (length (messages (plan_of v.decided) x))).tale.clients
    by_test false here is = all
    by_test true true is =
        subst (λ (ms : ℕ). Each (IsIdle count link) (after true ms).tale.clients)
        (sym (ap (λ xs. length xs) (says_none (plan_of v.decided) x (each.0 is).read))) all
    by_test true false is = both-kept all is (length (messages (plan_of v.decided) x))

  -- who came before has other links
  before-idle : (log : Log) (count : ℕ) (link : LinkId) (client : Client) → of_link link log ≡ [] → IsNamed log client → IsIdle count link client
  before-idle log count link client new named here =
      let same : link ≡ client.link = maps.link_of link client.link here in
      never (sym named ∙ ap (λ l. list_any (λ e. is_link l (link_of e)) log) (sym same) ∙ not_named link log new)

  pub accepted-idle : (log : Log) (port : Port) (link : LinkId) (salt : List ℕ) → of_link link log ≡ []
      → Each (IsIdle (length (world_at fixed log).tale.clients + 1) link) (going-on fixed (world_at fixed log) (entry.Accepted port link salt)).tale.clients
  accepted-idle log port link salt new =
      let e : Entry = entry.Accepted port link salt in
      let w : World More = world_at fixed log in
      let b : World More = is_counted by (is_told setup by w e) e in
      let count = length w.tale.clients + 1 in
      let told_so : Each (IsIdle count link) b.tale.clients =
      each-last (IsIdle count link) w.tale.clients (new_client count port link salt)
      (each-so (IsNamed log) (IsIdle count link) w.tale.clients (λ client named. before-idle log count link client new named) (named_at log))
      (λ here. record { taken = refl; read = refl; number = refl }) in
      let heard_so = subst (Each (IsIdle count link)) (sym (freeing-clients fixed b.tale.links b)) told_so in
      going-idle count link (view_of setup w.tale) e (heard fixed w e).tale.clients (heard fixed w e) heard_so heard_so
