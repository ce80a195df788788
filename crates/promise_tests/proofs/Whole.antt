-- A log that passes the test keeps the promise.
use Rattle.std.specs.Prelude.{Bool, List, [], false, take, true, ℕ, ◌&&◌, ◌++◌, ◌∷◌, ◌≡◌}
use Rattle.std.specs.List.{list_all}
use Rattle.std.proofs.Common.{subst, sym}
use Rattle.std.proofs.lemmas.Bool.{and_parts}
use Rattle.mx_wire.specs.Log.{Log}
use Rattle.mx_wire.specs.Moments.{AllLawful, AtEachMoment}
use Rattle.mx_wire.specs.declared.entry.Entry.{Entry}
use Rattle.log_story.specs.Tale.{Tale, first_tale}
use Rattle.router_promises.specs.Headline.{IsLawfulSo, Keeps}
use Rattle.router_promises.specs.Now.{Now, next, now_at}
use Rattle.router_promises.specs.Terms.{Terms, plan_in, setup_in, tale_at}
use Rattle.router_promises.proofs.Saying.{now-tale}
use Rattle.promise_tests.specs.Telling.{fits, is_tagged, says_who}
use Rattle.promise_tests.specs.Tests.{IsRight, gives_right, holds_at, is_right}
use Rattle.promise_tests.proofs.Judging.{closes-so, ended-so, gives-each, gives-single, opens-so, routed-so, steps-so}
use Rattle.promise_tests.proofs.Moments.{entries-so, moments-so}
use Rattle.promise_tests.proofs.Telling.{due-so, fits-so, said-so, tagged-so, whos-so}
use Rattle.promise_tests.proofs.Waiting.{few-so, rests-so}
use Rattle.tale_world.specs.Tested.{has_broken}
use Rattle.log_story.specs.Telling.{story_of}
use Rattle.promise_tests.proofs.Same.{not-so}
use Rattle.promise_tests.specs.Judging.{are_ended, closes_right, is_routed, opens_right, steps_right}
use Rattle.promise_tests.specs.Waiting.{rests}

module _ (terms : Terms) (log : Log) (right : IsRight terms log) where
  at-each : (P : Log → Type 0) → ((l : Log) → holds_at terms l (now_at terms l) ≡ true → P l) → AtEachMoment P log
  at-each P sound = moments-so terms (holds_at terms) P log sound right.moments

  each : (Rule : Log → Entry → Type 0) → ((l : Log) (e : Entry) → is_right terms right.table l (now_at terms l) e ≡ true → Rule l e) → AllLawful Rule log
  each Rule sound = entries-so terms (is_right terms right.table) Rule log sound right.entries

  who : (l : Log) → holds_at terms l (now_at terms l) ≡ true → list_all (says_who terms) (tale_at terms l).clients ≡ true
  who l so = subst (λ (t : Tale). list_all (says_who terms) t.clients ≡ true) (now-tale terms l) (and_parts _ _ (and_parts _ _ so).0).0

  pub unbroken-at : (n : ℕ) → has_broken (story_of (setup_in terms) (plan_in terms) (take n log)) ≡ false
  unbroken-at n =
      at-each (λ l. has_broken (tale_at terms l).story ≡ false) (λ l so. subst (λ (t : Tale). has_broken t.story ≡ false) (now-tale terms l) (not-so _ (and_parts _ _ so).1)) n

  lasts : (l : Log) (e : Entry) → is_right terms right.table l (now_at terms l) e ≡ true → (are_ended terms l (now_at terms l) e ≡ true) × (rests terms l (now_at terms l) e ≡ true)
  lasts l e so =
      let first : Bool = (fits l e && is_routed terms (now_at terms l) e) && (is_tagged terms l (now_at terms l) e && steps_right terms l (now_at terms l) e) in
      let second : Bool = opens_right terms l (now_at terms l) e && closes_right terms l (now_at terms l) e in
      let ended : Bool = are_ended terms l (now_at terms l) e in
      let third : Bool = ended && rests terms l (now_at terms l) e in
      let behind = and_parts first (second && (gives_right terms right.table l (now_at terms l) e && third)) so in
      let more = and_parts second (gives_right terms right.table l (now_at terms l) e && third) behind.1 in
      and_parts ended (rests terms l (now_at terms l) e) (and_parts (gives_right terms right.table l (now_at terms l) e) third more.1).1

  pub keeps-so : AtEachMoment (IsLawfulSo terms) log → Keeps terms log
  keeps-so lawful = record {
    router = right.router;
    fits = each _ (λ l e so. fits-so l e (and_parts _ _ (and_parts _ _ (and_parts _ _ so).0).0).0);
    who = at-each _ (λ l so. whos-so terms l (who l so));
    said = at-each _ (λ l so. said-so terms l (and_parts _ _ (and_parts _ _ (and_parts _ _ so).0).1).0);
    lawful = lawful;
    due = at-each _ (λ l so. due-so terms l (and_parts _ _ (and_parts _ _ (and_parts _ _ so).0).1).1);
    routed = each _ (λ l e so. routed-so terms (now_at terms l) e (and_parts _ _ (and_parts _ _ (and_parts _ _ so).0).0).1);
    tagged = each _ (λ l e so. tagged-so terms l (now_at terms l) e (and_parts _ _ (and_parts _ _ (and_parts _ _ so).0).1).0);
    steps = each _ (λ l e so. steps-so terms l (now_at terms l) e (and_parts _ _ (and_parts _ _ (and_parts _ _ so).0).1).1);
    opens = each _ (λ l e so. opens-so terms l (now_at terms l) e (and_parts _ _ (and_parts _ _ (and_parts _ _ so).1).0).0);
    closes = each _ (λ l e so. closes-so terms l (now_at terms l) e (and_parts _ _ (and_parts _ _ (and_parts _ _ so).1).0).1);
    gives_up = each _ (λ l e so. let gives = and_parts _ _ (and_parts _ _ (and_parts _ _ (and_parts _ _ so).1).1).0 in
        let more = and_parts _ _ gives.1 in
        record {
          each = gives-each terms (now_at terms l) (next terms (now_at terms l) e) e right.table right.own gives.0;
          single = gives-single terms (now_at terms l) right.table right.own more.0;
          few = few-so terms l (next terms (now_at terms l) e) e more.1;
        });
    ends = each _ (λ l e so. ended-so terms l (now_at terms l) e (lasts l e so).0);
    rests = each _ (λ l e so. rests-so terms l (now_at terms l) e (lasts l e so).1);
  }
