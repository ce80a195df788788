-- Whose statement is given up for want of memory ends by it: what it asked next is left, or else this is its last message.
use Rattle.std.specs.Prelude.{◌≡◌, ◌≢◌, ◌+◌, ◌<◌, ◌⊎◌, ℕ, zero, suc, Bool, true, false, ◌&&◌, ◌||◌, length, map, nat_eq, unwrap_or, List, [], ◌∷◌, ◌++◌, Option, Some, None}
use Rattle.std.specs.List.{list_any}
use Rattle.std.specs.Option.{option_map_or}
use Rattle.std.proofs.Common.{refl, sym, ap, ◌∙◌, subst, arith, inl, inr}
use Rattle.std.proofs.lemmas.Bool.{and_from, eq-eqb, or_left, or_right}
use Rattle.mx_wire.specs.Log.{Log}
use Rattle.mx_wire.specs.declared.entry.Entry.{Entry}
use Rattle.private_model.proofs.Maps.{client_of, number_of}
use Rattle.private_model.specs.Names.{ClientNo, MessageName}
use Rattle.private_model.specs.Story.{is_client}
use Rattle.private_model.specs.View.{Setup}
use Rattle.log_story.specs.Owed.{name_of}
use Rattle.log_story.specs.Plan.{OwnAnswer, Plan}
use Rattle.log_story.specs.Tale.{Client, Tale, client_gets, client_hears, counted, new_client, view_of}
use Rattle.tale_world.specs.Deciding.{World}
use Rattle.router_promises.specs.Now.{Now, entry_now, now_at, takings_now}
use Rattle.router_promises.specs.Running.{servers_after}
use Rattle.router_promises.specs.Takings.{as_told}
use Rattle.router_promises.specs.Terms.{Terms, plan_in}
use Rattle.router_promises.specs.Uses.{error_code}
use Rattle.shared_router.specs.Ends.{Ending, ending_of, goes, has_too_much, is_refused_now, is_starved, must_go, told_starved, was_left, was_told_starved}
use Rattle.shared_router.specs.Fixed.{Fixed, IsNumbered, setup_of}
use Rattle.shared_router.specs.Judged.{JudgedSo}
use Rattle.shared_router.specs.More.{More}
use Rattle.shared_router.specs.Shared.{final_terms, world_at}
use Rattle.shared_router.proofs.Ended as ended
use Rattle.shared_router.proofs.Ending.{any-on}
use Rattle.shared_router.proofs.Looked.{Each, IsLooked, Seats, anybody, each-last, each-map, each-so, going-looks, if-anybody, looks_at, told-seats}
use Rattle.shared_router.proofs.Musts.{IsEnding, ending_world}
use Rattle.shared_router.proofs.Parting.{even_at}
use Rattle.shared_router.proofs.Quitting as quitting
use Rattle.shared_router.proofs.Seated.{freed_clients}
use Rattle.shared_router.proofs.Single.{IsAlone, Numbered, both-each, counts_at, each-alone, going-counts, numbered-seats}
use Rattle.shared_router.proofs.Takings.{IsLast, Taken, going-stays, last-taken}
use Rattle.shared_router.proofs.Walks.{Stays, gets_stays, hears_stays}
use Rattle.shared_router.proofs.Worded.{left-goes}

-- Clients of whom one has this number, and so many of its messages were taken up.

abbrev has_number : ClientNo → Client → Bool
has_number n client = is_client client.number n

pub record HaveTaken (n : ClientNo) (ordinal : ℕ) (cs : List Client) : Type 0 where
  pub numbered : Numbered 1 cs
  pub there : list_any (has_number n) cs ≡ true
  pub taken : Each (λ (c : Client). has_number n c ≡ true → c.taken ≡ ordinal) cs

number-below : (n : ClientNo) (from : ℕ) (cs : List Client) → Numbered from cs → list_any (has_number n) cs ≡ true → n.0 < from + length cs
number-below n from [] all there = absurd (cc)
number-below n from (c ∷ cs) all there = by_test (has_number n c) refl (number-below n (suc from) cs all.1) there where
  by_test : (b : Bool) → has_number n c ≡ b → (list_any (has_number n) cs ≡ true → n.0 < suc from + length cs) → (b || list_any (has_number n) cs) ≡ true
      → n.0 < from + length (c ∷ cs)
  by_test true is later there =
      (let same : c.number.0 ≡ n.0 = ap (λ (k : ClientNo). k.0) (client_of c.number n is) in let first : c.number.0 ≡ from = all.0 in omega (arith, same, first))
  by_test false is later there = (let rest = later there in omega (arith, rest))

any-map : (n : ClientNo) (f : Client → Client) → Stays f → (cs : List Client) → list_any (has_number n) (map f cs) ≡ list_any (has_number n) cs
any-map n f stays [] = refl
any-map n f stays (c ∷ cs) =
    ap (λ k. is_client k n || list_any (has_number n) (map f cs)) (stays.number c) ∙ ap (λ b. has_number n c || b) (any-map n f stays cs)

each-moved : (n : ClientNo) (ordinal : ℕ) (f : Client → Client) → Stays f → (cs : List Client)
    → Each (λ (c : Client). has_number n c ≡ true → c.taken ≡ ordinal) cs → Each (λ (c : Client). has_number n c ≡ true → c.taken ≡ ordinal) (map f cs)
each-moved n ordinal f stays cs all =
    each-map (λ (c : Client). has_number n c ≡ true → c.taken ≡ ordinal) (λ (c : Client). has_number n c ≡ true → c.taken ≡ ordinal) f cs
    (λ c taken his. stays.taken c ∙ taken (ap (λ k. is_client k n) (sym (stays.number c)) ∙ his)) all

taken-seats : (n : ClientNo) (ordinal : ℕ) → Seats anybody (HaveTaken n ordinal)
taken-seats n ordinal = record {
  comes = λ cs port link salt comes has. record {
    numbered = numbered-seats.comes cs port link salt comes has.numbered;
    there = any-on (has_number n) cs (new_client (length cs + 1) port link salt ∷ []) ∙ or_left (list_any (has_number n) cs) _ has.there;
    taken = each-last (λ (c : Client). has_number n c ≡ true → c.taken ≡ ordinal) cs (new_client (length cs + 1) port link salt) has.taken
        (λ his. absurd (let below = number-below n 1 cs has.numbered has.there in
        let same : length cs + 1 ≡ n.0 = ap (λ (k : ClientNo). k.0) (client_of (new_client (length cs + 1) port link salt).number n his) in omega (arith, below, same)));
  };
  hears = λ cs link bytes has. record {
    numbered = numbered-seats.hears cs link bytes has.numbered;
    there = any-map n (client_hears link bytes) (hears_stays link bytes) cs ∙ has.there;
    taken = each-moved n ordinal (client_hears link bytes) (hears_stays link bytes) cs has.taken;
  };
  gets = λ cs link count has. record {
    numbered = numbered-seats.gets cs link count has.numbered;
    there = any-map n (client_gets link count) (gets_stays link count) cs ∙ has.there;
    taken = each-moved n ordinal (client_gets link count) (gets_stays link count) cs has.taken;
  };
}

-- one of each number: who has so many messages taken up is the one
all-taken : (n : ClientNo) (ordinal : ℕ) (cs : List Client) → Numbered 1 cs
    → list_any (λ (c : Client). is_client c.number n && nat_eq c.taken ordinal) cs ≡ true → HaveTaken n ordinal cs
all-taken n ordinal cs numbered there = record {
  numbered = numbered;
  there = any-first cs there;
  taken = each-so (IsAlone cs) (λ (c : Client). has_number n c ≡ true → c.taken ≡ ordinal) cs
      (λ c alone his. number_of c.taken ordinal (sym (alone.any (λ (other : Client). nat_eq other.taken ordinal))
      ∙ subst (λ k. list_any (λ (other : Client). is_client other.number k && nat_eq other.taken ordinal) cs ≡ true) (sym (client_of c.number n his)) there))
      (each-alone 1 cs numbered);
} where
  any-first : (cs : List Client) → list_any (λ (c : Client). is_client c.number n && nat_eq c.taken ordinal) cs ≡ true → list_any (has_number n) cs ≡ true
  any-first [] there = there
  any-first (c ∷ cs) there = by_test (has_number n c) (nat_eq c.taken ordinal) (any-first cs) there where
    by_test : (a b : Bool) → (list_any (λ (c : Client). is_client c.number n && nat_eq c.taken ordinal) cs ≡ true → list_any (has_number n) cs ≡ true)
        → ((a && b) || list_any (λ (c : Client). is_client c.number n && nat_eq c.taken ordinal) cs) ≡ true → (a || list_any (has_number n) cs) ≡ true
    by_test true b later there = refl
    by_test false b later there = later there

-- what each of them has that is there, holds
one-has : (n : ClientNo) (Q : Type 0) (cs : List Client) → list_any (has_number n) cs ≡ true → Each (λ (c : Client). has_number n c ≡ true → Q) cs → Q
one-has n Q [] there each = absurd (cc)
one-has n Q (c ∷ cs) there each = by_test (has_number n c) refl there (λ later. one-has n Q cs later each.1) where
  by_test : (b : Bool) → has_number n c ≡ b → (b || list_any (has_number n) cs) ≡ true → (list_any (has_number n) cs ≡ true → Q) → Q
  by_test true is there rest = each.0 is
  by_test false is there rest = rest there

any-numbers : (n : ClientNo) (cs : List Client) → list_any (has_number n) cs ≡ list_any (λ k. is_client k n) (map (λ (c : Client). c.number) cs)
any-numbers n [] = refl
any-numbers n (c ∷ cs) = ap (λ b. has_number n c || b) (any-numbers n cs)

-- A statement that is given up at an entry.

module _ (fixed : Fixed) (numbered : IsNumbered fixed) (before later : Log) (e : Entry) (name : MessageName) (answer : OwnAnswer) where
  abbrev setup : Setup
  setup = setup_of fixed

  abbrev t : Terms
  t = final_terms fixed (before ++ e ∷ later)

  abbrev plan : Plan
  plan = plan_in t

  abbrev there : Now
  there = now_at t before

  abbrev d : World More
  d = ending_world fixed numbered before e

  abbrev x : Ending
  x = ending_of fixed d e

  abbrev m : ℕ
  m = d.tale.moment

  abbrev n : ClientNo
  n = name.client

  abbrev told_clients : List Client
  told_clients = (as_told setup plan there.tale e).clients

  so : IsEnding fixed numbered before e (before ++ e ∷ later)
  so = ended.so fixed numbered before later e

  -- for want of memory
  pub record IsFed : Type 0 where
    pub own : plan.own name ≡ Some answer
    pub from : answer.from ≡ m
    pub code : nat_eq (error_code answer.payloads) 9199 ≡ true
    pub starves : fixed.starves m n ≡ true
    pub counted : name.ordinal ≢ 0
    pub works : list_any (λ (c : Client). is_client c.number n && nat_eq c.taken name.ordinal) there.tale.clients ≡ true

  -- the message that is given up, or one that is left
  abbrev IsStopped : MessageName → Type 0
  IsStopped other = (other ≡ name) ⊎ quitting.Left fixed numbered before later e other

  module _ (fed : IsFed) (client : Client) (looked : IsLooked d.decided client) (alone : IsAlone d.tale.clients client) where
    was-told : (i : ℕ) → client.taken ≡ suc i → name_of client (suc i) ≡ name → was_told_starved x client ≡ true
    was-told i taken same =
        ap (λ k. option_map_or (told_starved x) (unwrap_or (d.decided.own (name_of client k)) None) false) taken
        ∙ ap (λ k. option_map_or (told_starved x) (unwrap_or (d.decided.own k) None) false) same ∙ by_own has.0 (ap d.decided.own (sym same) ∙ has.1)
      where
        has : (o : Option OwnAnswer) × (d.decided.own (name_of client (suc i)) ≡ Some o)
        has = looked.own i (omega (arith, taken))

        now : nat_eq answer.from (entry_now x.now) ≡ true
        now = eq-eqb answer.from (entry_now x.now) (fed.from ∙ sym (ended.x-entry fixed numbered before later e))

        by_own : (o : Option OwnAnswer) → d.decided.own name ≡ Some o → option_map_or (told_starved x) (unwrap_or (d.decided.own name) None) false ≡ true
        by_own None is = absurd (let late : m < answer.from = so.agrees.unanswered name answer is fed.own in omega (arith, late, fed.from))
        by_own (Some other) is =
            let same_answer : other ≡ answer = (let two : Some other ≡ Some answer = sym (so.agrees.answered name other is) ∙ fed.own in cc) in
            ap (λ o. option_map_or (told_starved x) (unwrap_or o None) false) is ∙ ap (told_starved x) same_answer
            ∙ and_from (nat_eq answer.from (entry_now x.now)) (nat_eq (error_code answer.payloads) 9199) now fed.code

    stopped-ends : has_number n client ≡ true → IsLast setup plan n IsStopped client → quitting.Ends fixed numbered before later e n
    stopped-ends his last =
        subst (quitting.Ends fixed numbered before later e) (client_of client.number n his) (ended.goes-ends fixed numbered before later e client looked alone going)
      where
        refused : is_refused_now x client ≡ true
        refused = ap (λ k. fixed.starves k client.number) (ended.x-entry fixed numbered before later e) ∙ ap (fixed.starves m) (client_of client.number n his) ∙ fed.starves

        starved : (i : ℕ) → client.taken ≡ suc i → IsStopped (name_of client (suc i)) → is_starved x client ≡ true
        starved i taken (inl same) = and_from (is_refused_now x client) _ refused (or_right _ _ (or_left (was_told_starved x client) _ (was-told i taken same)))
        starved i taken (inr left) =
            left-goes x client (and_from (is_refused_now x client) (was_left x client) refused (quitting.was-left fixed numbered before later e client looked alone i taken left))

        going : goes x client ≡ true
        going = let its = last his in or_right (must_go x client) _ (or_right (has_too_much x client) (is_starved x client) (starved its.0 its.1.0 its.1.1))

  module _ (fed : IsFed) (judged : JudgedSo fixed.starves t before e) where
    told-taken : HaveTaken n name.ordinal told_clients
    told-taken =
        subst (HaveTaken n name.ordinal) (sym (freed_clients setup plan there.tale e))
        (told-seats anybody (HaveTaken n name.ordinal) (taken-seats n name.ordinal) setup plan there.tale e (if-anybody e)
        (all-taken n name.ordinal there.tale.clients (subst (λ (tale : Tale). Numbered 1 tale.clients) (sym so.was) (counts_at fixed before)) fed.works))

    first-last : (ordinal : ℕ) → name.ordinal ≡ ordinal → ordinal ≢ 0 → (c : Client) → (has_number n c ≡ true → c.taken ≡ ordinal) → IsLast setup plan n IsStopped c
    first-last zero is some c taken his = absurd (some refl)
    first-last (suc i) is some c taken his = (i, (taken his, inl (same c his))) where
      same : (c : Client) → has_number n c ≡ true → name_of c (suc i) ≡ name
      same c his = ap (λ k. record { client = k; ordinal = suc i }) (client_of c.number n his) ∙ ap (λ k. record { client = n; ordinal = k }) (sym is)

    all-last : Each (IsLast setup plan n IsStopped) d.tale.clients
    all-last =
        let first : Tale = as_told setup plan there.tale e in
        let servers = servers_after t there.clock there.tale e there.servers in
        subst (λ (tale : Tale). Each (IsLast setup plan n IsStopped) tale.clients) so.tale
        (last-taken setup plan n IsStopped (view_of setup there.tale) e first.clients first
        (each-so (Taken setup plan n (quitting.Left fixed numbered before later e)) (Taken setup plan n IsStopped) (takings_now t there e) (λ taking left his. inr (left his))
        (quitting.all-left fixed numbered before later e servers n fed.starves (takings_now t there e) there.flags (quitting.all-of fixed numbered before later e) judged))
        (inl (each-so (λ (c : Client). has_number n c ≡ true → c.taken ≡ name.ordinal) (IsLast setup plan n IsStopped) first.clients
        (λ c taken. first-last name.ordinal refl fed.counted c taken) told-taken.taken)))

    pub fed-ends : quitting.Ends fixed numbered before later e n
    fed-ends =
        let first : Tale = as_told setup plan there.tale e in
        let stays = going-stays setup plan (view_of setup there.tale) e first.clients first in
        let here : list_any (has_number n) d.tale.clients ≡ true =
        ap (λ (tale : Tale). list_any (has_number n) tale.clients) (sym so.tale) ∙ any-numbers n _ ∙ ap (list_any (λ k. is_client k n)) stays.numbers
        ∙ sym (any-numbers n first.clients) ∙ told-taken.there in
        one-has n (quitting.Ends fixed numbered before later e n) d.tale.clients here
        (each-so (λ (c : Client). (IsLooked d.decided c × IsAlone d.tale.clients c) × IsLast setup plan n IsStopped c) (λ (c : Client). has_number n c ≡ true → quitting.Ends fixed numbered before later e n) d.tale.clients
        (λ c all his. stopped-ends fed c all.0.0 all.0.1 his all.1)
        (both-each (λ (c : Client). IsLooked d.decided c × IsAlone d.tale.clients c) (IsLast setup plan n IsStopped) d.tale.clients
        (both-each (IsLooked d.decided) (IsAlone d.tale.clients) d.tale.clients (going-looks fixed (world_at fixed before) e (even_at fixed before) (looks_at fixed before))
        (each-alone 1 d.tale.clients (going-counts fixed (world_at fixed before) e (counts_at fixed before)))) all-last))
