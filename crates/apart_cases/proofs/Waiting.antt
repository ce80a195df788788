-- What the test of waits shows.
use Rattle.std.specs.Prelude.{◌≡◌, Bool, true, false, ◌||◌, Option, Some, None, refl}
use Rattle.std.specs.Option.{option_map_or}
use Rattle.std.proofs.Common.{inl, inr}
use Rattle.std.proofs.lemmas.Bool.{and_parts, or_cases}
use Rattle.mx_base.specs.declared.names.LinkId.{LinkId}
use Rattle.mx_base.specs.declared.names.Port.{Port}
use Rattle.mx_base.specs.declared.names.Port.TheVariants.{Admin, Traffic}
use Rattle.mx_wire.specs.Log.{Log, is_open}
use Rattle.mx_wire.specs.declared.entry.Entry.{Entry}
use Rattle.mx_wire.specs.declared.entry.Entry.TheVariants as entry
use Rattle.ready_loop.specs.Drained.{all_accepted}
use Rattle.log_story.specs.Owed.{name_of}
use Rattle.log_story.specs.Plan.{Route}
use Rattle.log_story.specs.Tale.{Client}
use Rattle.router_promises.specs.Now.{Now}
use Rattle.router_promises.specs.Terms.{Terms, plan_in}
use Rattle.router_promises.specs.Wakes.{has_ended}
use Rattle.promise_tests.proofs.Same.{all-so, exempt, implied, isnt, same-bytes}
use Rattle.core_promises.specs.Waits.{IsAtWork, IsDone, IsHeardOn, IsServed, WaitsBy}
use Rattle.apart_cases.specs.Tests.{is_done, is_heard, is_in_line, is_served, waits}

line-so : (terms : Terms) (log : Log) (now : Now) (client : Client) (route : Option Route) → option_map_or (is_in_line terms now client) route false ≡ true
    → IsAtWork terms log now client route
line-so terms log now client None is = isnt is
line-so terms log now client (Some route) is = inl is

served-so : (terms : Terms) (log : Log) (now : Now) (client : Client) → is_served terms log now client ≡ true → is_open client.link log ≡ true → IsServed terms log now client
served-so terms log now client is opened =
    let told = and_parts _ _ (implied _ _ is opened) in
    let read = and_parts _ _ told.1 in
    record {
      told = elim (or_cases _ _ told.0) [ inl same ↦ inl (same-bytes _ _ same) | inr dry ↦ inr dry ];
      read = read.0;
      worked = λ open_yet. line-so terms log now client ((plan_in terms).routes (name_of client client.taken)) (exempt _ _ read.1 open_yet);
    }

heard-so : (terms : Terms) (log : Log) (now : Now) (link : LinkId) → is_heard log link ≡ true → IsHeardOn terms log now link
heard-so terms log now link is = λ opened usable sound. or_left _ _ (implied _ _ is opened) where
  or_left : (a b : Bool) → a ≡ true → (a || b) ≡ true
  or_left a b so = rw so refl

ports-so : (log : Log) → (all_accepted Traffic log ≡ true) × (all_accepted Admin log ≡ true) → (port : Port) → all_accepted port log ≡ true
ports-so log both Traffic = both.0
ports-so log both Admin = both.1

done-so : (terms : Terms) (log : Log) (now : Now) → is_done terms log now ≡ true → IsDone terms log now
done-so terms log now is =
    let parts = and_parts _ _ is in
    let traffic = and_parts _ _ parts.0 in
    let admin = and_parts _ _ traffic.1 in
    let all = and_parts _ _ parts.1 in
    record {
      accepted = ports-so log (traffic.0, admin.0);
      named = admin.1;
      heard = all-so (IsHeardOn terms log now) (is_heard log) now.tale.links (heard-so terms log now) all.0;
      served = all-so (λ (client : Client). has_ended terms now client ≡ false → is_open client.link log ≡ true → IsServed terms log now client)
          (is_served terms log now) now.tale.clients (λ client so stays opened. served-so terms log now client so opened) all.1;
    }

pub waits-so : (terms : Terms) (log : Log) (now : Now) (e : Entry) → waits terms log now e ≡ true → WaitsBy terms log now e
waits-so terms log now (entry.Woke until_ms now_ms) is = done-so terms log now is
waits-so terms log now entry.WaitFailed is = done-so terms log now is
waits-so terms log now entry.Over is = done-so terms log now is
waits-so terms log now _ is = tt
