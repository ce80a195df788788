-- What was decided by the entries of a log is kept with an entry's deeds.
use Rattle.std.specs.Prelude.{◌≡◌, ◌⊎◌, ◌<◌, ◌≤◌, ◌+◌, ◌&&◌, ◌||◌, ℕ, suc, Bool, true, false, All, is_some, nat_eq, nat_le, if◌then◌else◌, length, List, [], ◌∷◌, ◌++◌, Option, Some, None}
use Rattle.std.specs.List.{list_any}
use Rattle.std.specs.Option.{option_map, option_or}
use Rattle.std.proofs.Common.{refl, sym, ap, ◌∙◌, arith, inl, inr, length-append}
use Rattle.std.proofs.lemmas.Bool.{leb-false, leb-true, lt-leb}
use Rattle.std.proofs.lemmas.List.Elements.{All-nil, filter_map-append}
use Rattle.std.proofs.lemmas.List.Folds.{list_any-append}
use Rattle.mx_wire.specs.Log.{Log, accepted_link, accepted_links, opened_link, opened_links}
use Rattle.mx_wire.specs.declared.entry.Entry.{Entry}
use Rattle.mx_wire.specs.declared.entry.Entry.TheVariants.{Opened, Wrote}
use Rattle.client_session.specs.Setups.{Setup as Service}
use Rattle.private_model.specs.Names.{ClientNo, LinkId, MessageName}
use Rattle.private_model.specs.Story.{is_link_id}
use Rattle.log_story.specs.Plan.{LastWord, OwnAnswer, Route, StepText}
use Rattle.tale_world.specs.Decided.{Decided}
use Rattle.core_laws.specs.clients.Turns.{Rests}
use Rattle.core_laws.specs.entry.Cores.{with_entry}
use Rattle.router_laws.proofs.OfDecisions.Fates.{fate_behind, fate_there, fates_alone, fates_at_once, false_true, none_some}
use Rattle.router_laws.proofs.OfDecisions.Recording.{one_more, or_new, or_stays, own_later, own_new, own_stays, up_with}
use Rattle.router_laws.specs.decisions.Deeds.{AreAlone, Counts, Deeds, Fate, IsAlone, Word, among, begun_at, counts_by, decided_by, ends_in, fate_at, given_at, given_with, is_opened, known_with, login_at, no_counts, step_with, taken_by, word_with}
use Rattle.router_laws.specs.decisions.Records.{IsDecided, IsRecorded, IsStranger, IsUndecided, IsUnknown, first_deciding}

-- Links and clients of a longer log.

or_first : (a b : Bool) → (a || b) ≡ false → a ≡ false
or_first true b e = e
or_first false b e = refl

or_second : (a b : Bool) → (a || b) ≡ false → b ≡ false
or_second true b e = false_true true e refl
or_second false b e = e

and_none : (a b : Bool) → b ≡ false → (a && b) ≡ false
and_none true b e = e
and_none false b e = refl

pub opened_with : (l : LinkId) (log : Log) (e : Entry) → is_opened l (with_entry log e) ≡ (is_opened l log || is_opened l (e ∷ []))
opened_with l log e =
    ap (list_any (is_link_id l)) (filter_map-append opened_link log (e ∷ [])) ∙ list_any-append (is_link_id l) (opened_links log) (opened_links (e ∷ []))

no_login : (e : Entry) (deeds : Deeds) (l : LinkId) → is_opened l (e ∷ []) ≡ false → login_at e deeds l ≡ None
no_login (Opened server address link) deeds l none = ap (λ (b : Bool). if b then deeds.login else None) (or_first (is_link_id l link) false none)
no_login _ deeds l none = refl

none_begun : (log : Log) (e : Entry) (deeds : Deeds) (l : LinkId) → is_opened l log ≡ false → begun_at log e deeds l ≡ None
none_begun log (Wrote link tag bytes) deeds l none =
    ap (λ (b : Bool). if b then deeds.begun else None) (and_none (is_link_id l link) (is_opened l log) none)
none_begun log _ deeds l none = refl

pub login_among : (known : ℕ) (e : Entry) (all : Deeds) (l : LinkId) → login_at e (among known all) l ≡ login_at e all l
login_among known (Opened server address link) all l = refl
login_among known e all l = refl

pub begun_among : (known : ℕ) (log : Log) (e : Entry) (all : Deeds) (l : LinkId) → begun_at log e (among known all) l ≡ begun_at log e all l
begun_among known log (Wrote link tag bytes) all l = refl
begun_among known log e all l = refl

pub more_known : (log : Log) (e : Entry) → length (accepted_links log) ≤ known_with log e
more_known log e =
    let all : length (accepted_links (with_entry log e)) ≡ length (accepted_links log ++ accepted_links (e ∷ [])) =
    ap length (filter_map-append accepted_link log (e ∷ [])) in
    let size : length (accepted_links log ++ accepted_links (e ∷ [])) ≡ length (accepted_links log) + length (accepted_links (e ∷ [])) =
    length-append (accepted_links log) (accepted_links (e ∷ [])) in
    omega (arith, all, size)

-- Options.

or_some : {A : Type 0} (was more : Option A) → is_some was ≡ true → is_some (option_or was more) ≡ true
or_some None more is = false_true false refl is
or_some (Some x) more is = refl

map_some : {A B : Type 0} (f : A → B) (o : Option A) → is_some o ≡ true → is_some (option_map f o) ≡ true
map_some f None is = is
map_some f (Some x) is = refl

module _ (deeds : Deeds) (n : Counts) (now : ℕ) where
  given_is : (payload : Option (List ℕ)) (was : Option (Option OwnAnswer)) → is_some was ≡ true → is_some (given_with now payload was) ≡ true
  given_is None was is = is
  given_is (Some payload) None is = is
  given_is (Some payload) (Some None) is = refl
  given_is (Some payload) (Some (Some answer)) is = refl

  given_there : (m : MessageName) (was : Option (Option OwnAnswer)) → is_some was ≡ true → is_some (given_at deeds n now m was) ≡ true
  given_there m was is = by (nat_eq m.ordinal (n.taken m.client)) where
    by : (b : Bool) → is_some (if b then given_with now (deeds.given m.client) was else was) ≡ true
    by true = given_is (deeds.given m.client) was is
    by false = is

module _ (d : Decided) (n : Counts) (log : Log) (e : Entry) (all : Deeds) (recorded : IsRecorded d n log) (single : AreAlone all) where
  abbrev known : ℕ
  known = known_with log e

  abbrev deeds : Deeds
  deeds = among known all

  abbrev now : ℕ
  now = length (with_entry log e)

  abbrev new : Decided
  new = decided_by deeds n log e now d

  abbrev counts : Counts
  counts = counts_by deeds n log e

  abbrev more : ClientNo → ℕ
  more c = taken_by (deeds.calls c) (deeds.halts c)

  -- Messages.

  decided_then : (m : MessageName) → IsDecided d m → IsDecided new m
  decided_then m is = record {
    routed = or_some (d.routes m) (option_map (λ (fate : Fate). fate.route) (fate_at deeds n m)) is.routed;
    owned = or_some (given_at deeds n now m (d.own m)) (option_map (λ (fate : Fate). fate.own) (fate_at deeds n m)) (given_there deeds n now m (d.own m) is.owned);
  }

  decided_now : (m : MessageName) → n.taken m.client < m.ordinal → m.ordinal ≤ n.taken m.client + more m.client → IsDecided new m
  decided_now m less within =
      let free : IsUndecided d m = recorded.to_come m less in
      let fate : is_some (fate_at deeds n m) ≡ true =
      fate_there (deeds.calls m.client) (deeds.halts m.client) (suc (n.taken m.client)) m.ordinal (omega (arith, less)) (omega (arith, within)) in
      record {
        routed = ap (λ (o : Option (Option _)). is_some o) (or_new (d.routes m) (option_map (λ (fate : Fate). fate.route) (fate_at deeds n m)) free.unrouted)
            ∙ map_some (λ (fate : Fate). fate.route) (fate_at deeds n m) fate;
        owned = ap (λ (o : Option (Option OwnAnswer)). is_some o) (own_new deeds n now m (d.own m) free.unowned)
            ∙ map_some (λ (fate : Fate). fate.own) (fate_at deeds n m) fate;
      }

  all_decided : (m : MessageName) → m.ordinal ≤ counts.taken m.client → IsDecided new m
  all_decided m within = by (nat_le m.ordinal (n.taken m.client)) refl where
    by : (b : Bool) → nat_le m.ordinal (n.taken m.client) ≡ b → IsDecided new m
    by true is = decided_then m (recorded.taken_up m (leb-true m.ordinal (n.taken m.client) is))
    by false is = decided_now m (leb-false m.ordinal (n.taken m.client) is) within

  none_decided : (m : MessageName) → counts.taken m.client < m.ordinal → IsUndecided new m
  none_decided m less =
      let free : IsUndecided d m = recorded.to_come m (omega (arith, less)) in
      let fate : fate_at deeds n m ≡ None =
      fate_behind (deeds.calls m.client) (deeds.halts m.client) (suc (n.taken m.client)) m.ordinal (omega (arith, less)) in
      record {
        unrouted = or_new (d.routes m) (option_map (λ (fate : Fate). fate.route) (fate_at deeds n m)) free.unrouted
            ∙ ap (option_map (λ (fate : Fate). fate.route)) fate;
        unowned = own_new deeds n now m (d.own m) free.unowned ∙ ap (option_map (λ (fate : Fate). fate.own)) fate;
      }

  fate_early : (m : MessageName) (answer : OwnAnswer) (found : Option Fate) → fate_at deeds n m ≡ found
      → option_map (λ (fate : Fate). fate.own) found ≡ Some (Some answer) → answer.from ≤ now
  fate_early m answer None is own = none_some None (Some answer) refl own
  fate_early m answer (Some fate) is own =
      let same : fate.own ≡ Some answer = cc in
      let zero : answer.from ≡ 0 =
      (fates_at_once (deeds.calls m.client) (deeds.halts m.client) (suc (n.taken m.client)) m.ordinal fate is answer same).0 in
      omega (arith, zero)

  answers_early : (m : MessageName) (answer : OwnAnswer) → new.own m ≡ Some (Some answer) → answer.from ≤ now
  answers_early m answer is = by (d.own m) refl where
    given : (new.own m ≡ Some None) ⊎ (payload : List ℕ) × (new.own m ≡ Some (Some (up_with deeds n now payload))) → answer.from ≤ now
    given (inl still) = none_some None answer refl (let both : Some None ≡ Some (Some answer) = sym still ∙ is in cc)
    given (inr some) =
        let both : Some (Some (up_with deeds n now some.0)) ≡ Some (Some answer) = sym some.1 ∙ is in
        let same : up_with deeds n now some.0 ≡ answer = cc in
        let from : now ≡ answer.from = ap (λ (a : OwnAnswer). a.from) same in omega (arith, from)

    by : (was : Option (Option OwnAnswer)) → d.own m ≡ was → answer.from ≤ now
    by None was = fate_early m answer (fate_at deeds n m) refl (sym (own_new deeds n now m (d.own m) was) ∙ is)
    by (Some None) was = given (own_later deeds n now m (d.own m) was)
    by (Some (Some old)) was =
        let both : Some (Some old) ≡ Some (Some answer) = sym (own_stays deeds n now m (d.own m) old was) ∙ is in
        let same : old ≡ answer = cc in
        let early : old.from ≤ length log = recorded.answered m old was in
        let from : old.from ≡ answer.from = ap (λ (a : OwnAnswer). a.from) same in omega (arith, early, from, one_more log e)

  calls_alone : (c : ClientNo) (came : Bool) → All IsAlone (if came then all.calls c else [])
  calls_alone c true = single c
  calls_alone c false = All-nil IsAlone

  alone_by : (m : MessageName) (route : Route) (found : Option Fate) → fate_at deeds n m ≡ found
      → option_map (λ (fate : Fate). fate.route) found ≡ Some (Some route) → route.mirror ≡ None
  alone_by m route None is has = none_some None (Some route) refl has
  alone_by m route (Some fate) is has =
      let same : fate.route ≡ Some route = cc in
      fates_alone (deeds.calls m.client) (deeds.halts m.client) (suc (n.taken m.client)) m.ordinal fate (calls_alone m.client (nat_le m.client.0 known)) is route same

  routes_alone : (m : MessageName) (route : Route) → new.routes m ≡ Some (Some route) → route.mirror ≡ None
  routes_alone m route is = by (d.routes m) refl where
    by : (was : Option (Option Route)) → d.routes m ≡ was → route.mirror ≡ None
    by None was =
        alone_by m route (fate_at deeds n m) refl (sym (or_new (d.routes m) (option_map (λ (fate : Fate). fate.route) (fate_at deeds n m)) was) ∙ is)
    by (Some old) was =
        let both : Some old ≡ Some (Some route) =
        sym (or_stays (d.routes m) (option_map (λ (fate : Fate). fate.route) (fate_at deeds n m)) old was) ∙ is in
        let same : old ≡ Some route = cc in recorded.alone m route (was ∙ ap (λ (o : Option Route). Some o) same)

  -- Clients.

  ends_early : (c : ClientNo) (at : ℕ) → new.ends c ≡ Some at → at ≤ now
  ends_early c at is = by (d.ends c) (ends_in deeds c) refl is where
    by : (was : Option ℕ) (end : Option (Option Word)) → d.ends c ≡ was → option_or was (option_map (λ (end : Option Word). now) end) ≡ Some at → at ≤ now
    by None None was has = none_some None at refl has
    by None (Some end) was has = let same : now ≡ at = cc in omega (arith, same)
    by (Some old) end was has =
        let same : old ≡ at = cc in
        let early : old ≤ length log = recorded.ended c old was in omega (arith, early, same, one_more log e)

  words_early : (c : ClientNo) (word : LastWord) → new.words c ≡ Some word → word.from ≤ now
  words_early c word is = by (d.ends c) (d.words c) (ends_in deeds c) refl is where
    old_early : (old : LastWord) → d.words c ≡ Some old → Some old ≡ Some word → word.from ≤ now
    old_early old was has =
        let same : old ≡ word = cc in
        let early : old.from ≤ length log = recorded.told c old was in
        let from : old.from ≡ word.from = ap (λ (w : LastWord). w.from) same in omega (arith, early, from, one_more log e)

    by : (at : Option ℕ) (was : Option LastWord) (end : Option (Option Word)) → d.words c ≡ was → word_with now at end was ≡ Some word → word.from ≤ now
    by (Some at) None end was has = none_some None word refl has
    by (Some at) (Some old) end was has = old_early old was has
    by None (Some old) end was has = old_early old was has
    by None None None was has = none_some None word refl has
    by None None (Some None) was has = none_some None word refl has
    by None None (Some (Some said)) was has =
        let same : record { from = now; place = said.place; payloads = said.payloads } ≡ word = cc in
        let from : now ≡ word.from = ap (λ (w : LastWord). w.from) same in omega (arith, from)

  silent_then : (c : ClientNo) → new.ends c ≡ None → new.words c ≡ None
  silent_then c going = by (d.ends c) (ends_in deeds c) refl going where
    by : (was : Option ℕ) (end : Option (Option Word)) → d.ends c ≡ was → option_or was (option_map (λ (end : Option Word). now) end) ≡ None
        → word_with now was end (d.words c) ≡ None
    by None None was has = or_new (d.words c) None (recorded.silent c was)
    by None (Some end) was has = none_some (Some now) now has refl
    by (Some at) end was has = none_some (Some at) at has refl

  strange : (c : ClientNo) → known < c.0 → nat_le c.0 known ≡ false
  strange c less = lt-leb c.0 known less

  strangers_then : (c : ClientNo) → known < c.0 → IsStranger new counts c
  strangers_then c less =
      let was : IsStranger d n c = recorded.strangers c (omega (arith, less, more_known log e)) in
      record {
        untaken = ap (λ (b : Bool). n.taken c + taken_by (if b then all.calls c else []) (if b then all.halts c else Rests)) (strange c less)
            ∙ (let none : n.taken c ≡ 0 = was.untaken in omega (arith, none));
        going = or_new (d.ends c) (option_map (λ (end : Option Word). now) (ends_in deeds c)) was.going
            ∙ ap (option_map (λ (end : Option Word). now)) (unended c less);
      } where
        unended : (c : ClientNo) → known < c.0 → ends_in deeds c ≡ None
        unended c less = ap (λ (b : Bool). ends_in (record all { halts = λ c. if b then all.halts c else Rests; ends = λ c. if b then all.ends c else None }) c) (strange c less)

  -- Links.

  unknown_then : (l : LinkId) → is_opened l (with_entry log e) ≡ false → IsUnknown new counts l
  unknown_then l none =
      let either : (is_opened l log || is_opened l (e ∷ [])) ≡ false = sym (opened_with l log e) ∙ none in
      let before : is_opened l log ≡ false = or_first (is_opened l log) (is_opened l (e ∷ [])) either in
      let was : IsUnknown d n l = recorded.unopened l before in
      record {
        nobody = or_new (d.logins l) (login_at e deeds l) was.nobody ∙ no_login e deeds l (or_second (is_opened l log) (is_opened l (e ∷ [])) either);
        unbegun = ap (λ (o : Option (Option StepText)). if is_some o then suc (n.begun l) else n.begun l) (none_begun log e deeds l before) ∙ was.unbegun;
      }

  unbegun_then : (l : LinkId) (k : ℕ) → counts.begun l ≤ k → new.steps l k ≡ None
  unbegun_then l k within = by (begun_at log e deeds l) within where
    by : (begun : Option (Option StepText)) → (if is_some begun then suc (n.begun l) else n.begun l) ≤ k → step_with begun (n.begun l) k (d.steps l k) ≡ None
    by None least = recorded.unbegun l k least
    by (Some step) least =
        let other : nat_eq k (n.begun l) ≡ false = grind arith in
        ap (λ (b : Bool). if b then option_or (d.steps l k) step else d.steps l k) other ∙ recorded.unbegun l k (omega (arith, least))

  pub recorded_then : IsRecorded new counts (with_entry log e)
  recorded_then = record {
    until = refl;
    taken_up = all_decided;
    to_come = none_decided;
    nowhere = λ c. or_stays (d.routes (record { client = c; ordinal = 0 }))
        (option_map (λ (fate : Fate). fate.route) (fate_at deeds n (record { client = c; ordinal = 0 }))) None (recorded.nowhere c);
    alone = routes_alone;
    answered = answers_early;
    ended = ends_early;
    told = words_early;
    silent = silent_then;
    strangers = strangers_then;
    unopened = unknown_then;
    unbegun = unbegun_then;
  }

-- By no entries.

abbrev at_zero : {A : Type 0} → Bool → Option (Option A)
at_zero b = if b then Some None else None

named_zero : (A : Type 0) (b : Bool) → b ≡ true → is_some (at_zero {A = A} b) ≡ true
named_zero A true e = refl
named_zero A false e = false_true false refl e

none_zero : (A : Type 0) (b : Bool) → b ≡ false → at_zero {A = A} b ≡ None
none_zero A true e = false_true true e refl
none_zero A false e = refl

first_decided_so : (service : Service) (m : MessageName) → m.ordinal ≤ 0 → IsDecided (first_deciding service) m
first_decided_so service m none =
    let zero : nat_eq m.ordinal 0 ≡ true = grind arith in
    record { routed = named_zero _ (nat_eq m.ordinal 0) zero; owned = named_zero _ (nat_eq m.ordinal 0) zero }

first_undecided : (service : Service) (m : MessageName) → 0 < m.ordinal → IsUndecided (first_deciding service) m
first_undecided service m some =
    let other : nat_eq m.ordinal 0 ≡ false = grind arith in
    record { unrouted = none_zero _ (nat_eq m.ordinal 0) other; unowned = none_zero _ (nat_eq m.ordinal 0) other }

first_answered : (service : Service) (m : MessageName) (answer : OwnAnswer) → (first_deciding service).own m ≡ Some (Some answer) → answer.from ≤ 0
first_answered service m answer is = by (nat_eq m.ordinal 0) is where
  by : (b : Bool) → (if b then Some None else None) ≡ Some (Some answer) → answer.from ≤ 0
  by true has = none_some None answer refl (cc)
  by false has = none_some None (Some answer) refl has

first_alone : (service : Service) (m : MessageName) (route : Route) → (first_deciding service).routes m ≡ Some (Some route) → route.mirror ≡ None
first_alone service m route is = by (nat_eq m.ordinal 0) is where
  by : (b : Bool) → (if b then Some None else None) ≡ Some (Some route) → route.mirror ≡ None
  by true has = none_some None route refl (cc)
  by false has = none_some None (Some route) refl has

pub first_so : (service : Service) → IsRecorded (first_deciding service) no_counts []
first_so service = record {
  until = refl;
  taken_up = first_decided_so service;
  to_come = first_undecided service;
  nowhere = λ c. refl;
  alone = first_alone service;
  answered = first_answered service;
  ended = λ c at is. none_some None at refl is;
  told = λ c word is. none_some None word refl is;
  silent = λ c going. refl;
  strangers = λ c less. record { untaken = refl; going = refl };
  unopened = λ l none. record { nobody = refl; unbegun = refl };
  unbegun = λ l k within. refl;
}
