-- What the tests of a log where the loop waits show.
use Rattle.std.specs.Prelude.{◌≡◌, ◌⊎◌, ℕ, ◌+◌, ◌≤◌, ◌<◌, Bool, true, false, not, ◌&&◌, ◌||◌, bytes_eq, nat_lt, filter, length, if◌then◌else◌, List, [], ◌∷◌, ◌++◌, Option, Some, None, refl}
use Rattle.std.specs.List.{list_all, list_any}
use Rattle.std.specs.Option.{option_map_or}
use Rattle.std.proofs.Common.{subst, sym, ap, ◌∙◌, arith, inl, inr, length-append}
use Rattle.std.proofs.lemmas.Bool.{and_from, and_parts, or_cases}
use Rattle.mx_base.specs.declared.names.LinkId.{LinkId}
use Rattle.mx_base.specs.declared.names.Port.{Port}
use Rattle.mx_base.specs.declared.names.Port.TheVariants.{Admin, Traffic}
use Rattle.mx_wire.specs.Log.{Log}
use Rattle.mx_wire.specs.declared.entry.Entry.{Entry}
use Rattle.mx_wire.specs.declared.entry.Entry.TheVariants as entry
use Rattle.packet_frame.specs.Packets.{spelling}
use Rattle.ready_loop.specs.Drained.{all_accepted, write_dry}
use Rattle.private_model.proofs.Maps.{hostgroup_of, number_of}
use Rattle.private_model.specs.Commands.{Account, Command, FieldList, InitDb, Prepare, Query, Quit, ReadId, Reset, Run, SetId}
use Rattle.server_rule.specs.declared.session.Capabilities.{Capabilities}
use Rattle.private_model.specs.Names.{MessageName, SessionName}
use Rattle.private_model.specs.Story.{BecameDue, Story, command_of}
use Rattle.private_model.specs.View.{Answered, Asked, Quiet, Stage}
use Rattle.log_story.specs.Honest.{IsWritten, number_for}
use Rattle.log_story.specs.Owed.{name_of}
use Rattle.log_story.specs.Plan.{Route, text_payload}
use Rattle.log_story.specs.Tale.{Client}
use Rattle.router_promises.specs.GivenUp.{LeavesFew, has_waited, left_waiting}
use Rattle.router_promises.specs.Keys.{LinkKey, are_same, how_many, is_idle, is_key, is_same, is_stepping, is_waiting, key_for, waiters, waiters_in, waiting}
use Rattle.router_promises.specs.Now.{Now, held_now, link_now, present_now, wire_now}
use Rattle.router_promises.specs.Rest.{IsAtRest, IsAttended, IsBegunWhole, IsClientAtRest, IsInWork, IsRead, IsServerAtRest, IsShared, IsUnderWay, IsWholeOn, OwesNothing, RestsBy}
use Rattle.log_story.specs.Assumed.{IsWhole}
use Rattle.router_promises.specs.Terms.{Terms, plan_in, setup_in}
use Rattle.promise_tests.specs.Telling.{is_run}
use Rattle.promise_tests.specs.Waiting.{goes_on, is_at_rest, is_attended, is_begun_whole, is_read, is_shared, is_whole, keys_in, leaves_few, leaves_few_of, owes_nothing, rests, rests_client, rests_server, works_for}
use Rattle.promise_tests.proofs.Same.{all-so, exempt, implied, isnt, not-so, same-bytes}
use Rattle.promise_tests.proofs.Telling.{le-so, lt-so, step-whole}

-- Keys.

same-so : (a b : Bool) → is_same a b ≡ true → a ≡ b
same-so true true is = refl
same-so false false is = refl
same-so true false is = isnt is
same-so false true is = isnt is

capabilities-by : (a b : Capabilities) → a.found_rows ≡ b.found_rows → a.multi_results ≡ b.multi_results → a.ignore_space ≡ b.ignore_space → a ≡ b
capabilities-by a b x y z = λ i. record { found_rows = x i; multi_results = y i; ignore_space = z i }

account-by : (a b : Account) → a.user ≡ b.user → are_same a.capabilities b.capabilities ≡ true → a ≡ b
account-by a b x is =
    let first = and_parts _ _ is in
    let later = and_parts _ _ first.1 in
    let same = capabilities-by a.capabilities b.capabilities (same-so _ _ first.0) (same-so _ _ later.0) (same-so _ _ later.1) in
    λ i. record { user = x i; capabilities = same i }

key-by : (a b : LinkKey) → a.hostgroup ≡ b.hostgroup → a.account ≡ b.account → a.bare ≡ b.bare → a ≡ b
key-by a b x y z = λ i. record { hostgroup = x i; account = y i; bare = z i }

key-so : (a b : LinkKey) → is_key a b ≡ true → a ≡ b
key-so a b is =
    let parts = and_parts _ _ is in
    let more = and_parts _ _ parts.1 in
    let account = and_parts _ _ more.0 in
    key-by a b (hostgroup_of a.hostgroup b.hostgroup parts.0) (account-by a.account b.account (same-bytes a.account.user b.account.user account.0) account.1)
    (same-so a.bare b.bare more.1)

any-append : {A : Type 0} (f : A → Bool) (xs ys : List A) → list_any f (xs ++ ys) ≡ false → (list_any f xs ≡ false) × (list_any f ys ≡ false)
any-append f [] ys is = (refl, is)
any-append f (x ∷ xs) ys is = by (f x) (any-append f xs ys) is where
  by : (b : Bool) → (list_any f (xs ++ ys) ≡ false → (list_any f xs ≡ false) × (list_any f ys ≡ false)) → (b || list_any f (xs ++ ys)) ≡ false
      → ((b || list_any f xs) ≡ false) × (list_any f ys ≡ false)
  by true rest is = isnt (sym is)
  by false rest is = rest is

-- a key that is none of those of the statements that wait has none
one-less : (waits same : Bool) (m : MessageName) (key other : LinkKey) → is_key key other ≡ same → list_any (λ k. is_key k other) (if waits then key ∷ [] else []) ≡ false
    → ◌≡◌ {A = List MessageName} (if waits && same then m ∷ [] else []) []
one-less true true m key other is none = (let first : (is_key key other || false) ≡ false = none in isnt (sym (sym (ap (λ b. b || false) is) ∙ first)))
one-less true false m key other is none = refl
one-less false same m key other is none = refl

none-waits : (terms : Terms) (now : Now) (key : LinkKey) (story : Story) → list_any (λ k. is_key k key) (keys_in terms now story) ≡ false → waiters_in terms now key story ≡ []
none-waits terms now key [] none = refl
none-waits terms now key (BecameDue client hostgroup ordinal at command multiplex ∷ past) none =
    let parts = any-append (λ k. is_key k key) (keys_in terms now past) _ none in
    let first = none-waits terms now key past parts.0 in
    let last = one-less (is_waiting terms now client hostgroup ordinal) (is_key (key_for (setup_in terms) now client hostgroup) key)
    (record { client = client; ordinal = ordinal }) (key_for (setup_in terms) now client hostgroup) key refl parts.1 in
    rw (first, last) refl
none-waits terms now key (_ ∷ past) none = none-waits terms now key past none

any-key : (P : LinkKey → Type 0) (test : LinkKey → Bool) (key : LinkKey) (keys : List LinkKey) → ((k : LinkKey) → test k ≡ true → P k) → list_all test keys ≡ true
    → list_any (λ k. is_key k key) keys ≡ true → P key
any-key P test key [] sound all any = isnt any
any-key P test key (k ∷ keys) sound all any = by (is_key k key) refl (any-key P test key keys sound (and_parts _ _ all).1) any where
  by : (b : Bool) → is_key k key ≡ b → (list_any (λ o. is_key o key) keys ≡ true → P key) → (b || list_any (λ o. is_key o key) keys) ≡ true → P key
  by true is rest any = subst P (key-so k key is) (sound k (and_parts _ _ all).0)
  by false is rest any = rest any

-- what is so of the keys of the statements that wait, and of keys of which none waits, is so of all
each-key : (terms : Terms) (now : Now) (P : LinkKey → Type 0) (test : LinkKey → Bool) → ((k : LinkKey) → test k ≡ true → P k) → list_all test (keys_in terms now now.tale.story) ≡ true
    → ((k : LinkKey) → waiters terms now k ≡ [] → P k) → (key : LinkKey) → P key
each-key terms now P test sound all none key = by (list_any (λ k. is_key k key) (keys_in terms now now.tale.story)) refl where
  by : (b : Bool) → list_any (λ k. is_key k key) (keys_in terms now now.tale.story) ≡ b → P key
  by true is = any-key P test key (keys_in terms now now.tale.story) sound all is
  by false is = none key (none-waits terms now key now.tale.story is)

pub few-so : (terms : Terms) (log : Log) (later : Now) (e : Entry) → leaves_few terms log later e ≡ true → LeavesFew terms log later e
few-so terms log later (entry.Woke until_ms now_ms) is =
    each-key terms later (λ key. length (left_waiting terms later now_ms key) ≤ how_many is_idle terms log later key + how_many is_stepping terms log later key)
    (leaves_few_of terms log later now_ms) (λ k so. le-so _ _ so) is (λ k none. zero-le _ _ (ap (λ (ms : List MessageName). length (filter (has_waited terms later now_ms) ms)) none)) where
      zero-le : (n m : ℕ) → n ≡ 0 → n ≤ m
      zero-le n m none = omega (arith, none)
few-so terms log later _ is = tt

-- Reads.

read-so : (terms : Terms) (log : Log) (now : Now) (link : LinkId) → is_read terms log now link ≡ true → IsRead terms log now link
read-so terms log now link is = λ opened. implied _ _ is opened

-- Clients.

nothing-more : (written more rest whole : List ℕ) → (written ++ more) ++ rest ≡ whole → written ≡ whole → more ≡ []
nothing-more written [] rest whole is same = refl
nothing-more written (x ∷ more) rest whole is same =
    let longer : length ((written ++ (x ∷ more)) ++ rest) ≡ length whole = ap length is in
    let as_long : length written ≡ length whole = ap length same in
    let first : length ((written ++ (x ∷ more)) ++ rest) ≡ length (written ++ (x ∷ more)) + length rest = length-append (written ++ (x ∷ more)) rest in
    let second : length (written ++ (x ∷ more)) ≡ length written + length (x ∷ more) = length-append written (x ∷ more) in
    absurd (omega (arith, longer, as_long, first, second))

whole-by : (command : Command) (number : Option ℕ) (written : List ℕ) → ((bytes : List ℕ) → IsWritten command number bytes → bytes ≡ spelling 0 (text_payload command))
    → bytes_eq written (spelling 0 (text_payload command)) ≡ true → IsWhole command number written
whole-by command number written all is more begins =
    nothing-more written more begins.more (spelling 0 (text_payload command)) (all ((written ++ more) ++ begins.more) begins.all) (same-bytes written _ is)

whole-so : (command : Command) (number : Option ℕ) (written : List ℕ) → (not (is_run command) && bytes_eq written (spelling 0 (text_payload command))) ≡ true → IsWhole command number written
whole-so (Run text schema settings args) number written is = isnt is
whole-so (Query text) number written is = whole-by (Query text) number written (λ b all. all) is
whole-so (InitDb schema) number written is = whole-by (InitDb schema) number written (λ b all. all) is
whole-so (FieldList rest) number written is = whole-by (FieldList rest) number written (λ b all. all) is
whole-so (SetId n) number written is = whole-by (SetId n) number written (λ b all. all) is
whole-so ReadId number written is = whole-by ReadId number written (λ b all. all) is
whole-so (Prepare text) number written is = whole-by (Prepare text) number written (λ b all. all) is
whole-so Reset number written is = whole-by Reset number written (λ b all. all) is
whole-so Quit number written is = whole-by Quit number written (λ b all. all) is

whole-on : (terms : Terms) (now : Now) (link : LinkId) (stage : Stage) → is_whole stage (wire_now now link).written ≡ true → IsWholeOn (setup_in terms) now link stage
whole-on terms now link Quiet is = isnt is
whole-on terms now link (Asked question) is = whole-so (command_of question) (number_for question (link_now (setup_in terms) now link).live) (wire_now now link).written is
whole-on terms now link (Answered question) is = tt

either : (a b : Bool) {Q : Type 0} → (b ≡ true → Q) → (a || b) ≡ true → (a ≡ true) ⊎ Q
either true b so is = inl refl
either false b so is = inr (so is)

way-so : (terms : Terms) (log : Log) (now : Now) (n : SessionName) (home : Option LinkId) → (held_now (setup_in terms) now n).home ≡ home
    → option_map_or (goes_on terms log now) home false ≡ true → IsUnderWay terms log now n
way-so terms log now n None at is = isnt is
way-so terms log now n (Some link) at is =
    let parts = and_parts _ _ is in
    record { link = link; home = at; here = parts.0; goes = either (write_dry link log) _ (λ so. whole-on terms now link (link_now (setup_in terms) now link).stage so) parts.1 }

work-so : (terms : Terms) (log : Log) (now : Now) (client : Client) (route : Option Route) → option_map_or (works_for terms log now client) route false ≡ true → IsInWork terms log now client route
work-so terms log now client None is = isnt is
work-so terms log now client (Some route) is =
    either _ _ (λ so. way-so terms log now (present_now (setup_in terms) now client.number route.hostgroup) _ refl so) is

attended-so : (terms : Terms) (log : Log) (now : Now) (client : Client) → is_attended terms log now client ≡ true → IsAttended terms log now client
attended-so terms log now client is =
    let told = and_parts _ _ is in
    let worked = and_parts _ _ told.1 in
    let unbroken = and_parts _ _ worked.1 in
    let last = and_parts _ _ unbroken.1 in
    record {
      told = elim (or_cases _ _ told.0) [ inl same ↦ inl (same-bytes _ _ same) | inr dry ↦ inr dry ];
      worked = λ goes open_yet. work-so terms log now client ((plan_in terms).routes (name_of client client.taken)) (exempt _ _ (exempt _ _ worked.0 goes) open_yet);
      unbroken = not-so _ unbroken.0;
      ends = λ ended. implied _ _ last.0 ended;
      in_time = λ ended. lt-so _ _ (implied _ _ last.1 ended);
    }

client-so : (terms : Terms) (log : Log) (now : Now) (client : Client) → rests_client terms log now client ≡ true → IsClientAtRest terms log now client
client-so terms log now client is = λ opened. attended-so terms log now client (implied _ _ is opened)

-- Links to servers.

begun-so : (terms : Terms) (now : Now) (link : LinkId) (stage : Stage) → is_begun_whole stage (wire_now now link).written ≡ true → IsBegunWhole (setup_in terms) now link stage
begun-so terms now link Quiet is = tt
begun-so terms now link (Asked question) is = whole-so (command_of question) (number_for question (link_now (setup_in terms) now link).live) (wire_now now link).written is
begun-so terms now link (Answered question) is = tt

owes-so : (terms : Terms) (now : Now) (link : LinkId) → owes_nothing terms now link ≡ true → OwesNothing terms now link
owes-so terms now link is =
    let login = and_parts _ _ is in
    let begun = and_parts _ _ login.1 in
    let whole = and_parts _ _ begun.0 in
    let last = and_parts _ _ begun.1 in
    record {
      login = λ entering. same-bytes _ _ (implied _ _ login.0 entering);
      begun = begun-so terms now link (link_now (setup_in terms) now link).stage whole.0;
      closed = step-whole (wire_now now link).step (wire_now now link).written whole.1;
      reset = λ quiet. not-so _ (implied _ _ last.0 quiet);
      capture = λ quiet. not-so _ (implied _ _ last.1 quiet);
    }

server-so : (terms : Terms) (log : Log) (now : Now) (link : LinkId) → rests_server terms log now link ≡ true → IsServerAtRest terms log now link
server-so terms log now link is opened =
    let both = and_parts _ _ (implied _ _ is opened) in
    let first = and_parts _ _ both.0 in
    let second = and_parts _ _ both.1 in
    record {
      sound = first.0;
      stays = not-so _ first.1;
      young = λ resting. lt-so _ _ (implied _ _ second.0 resting);
      owes = λ wet. owes-so terms now link (exempt _ _ second.1 wet);
    }

shared-so : (terms : Terms) (log : Log) (now : Now) (key : LinkKey) → is_shared terms log now key ≡ true → IsShared terms log now key
shared-so terms log now key is =
    let both = and_parts _ _ is in
    record {
      idle = λ some. le-so _ _ (implied _ _ both.0 (lt-test _ _ some));
      enough = elim (or_cases _ _ both.1) [ inl few ↦ inl (le-so _ _ few) | inr none ↦ inr (not-so _ none) ];
    } where
      lt-test : (a b : ℕ) → a < b → nat_lt a b ≡ true
      lt-test a b less = grind arith

none-shared : (terms : Terms) (log : Log) (now : Now) (key : LinkKey) → waiters terms now key ≡ [] → IsShared terms log now key
none-shared terms log now key none =
    let nobody : waiting terms now key ≡ 0 = ap (λ (ms : List MessageName). length ms) none in
    record { idle = λ some. omega (arith, nobody); enough = inl (omega (arith, nobody)) }

accepted-so : (log : Log) → (all_accepted Traffic log && all_accepted Admin log) ≡ true → (port : Port) → all_accepted port log ≡ true
accepted-so log is Traffic = (and_parts _ _ is).0
accepted-so log is Admin = (and_parts _ _ is).1

rest-so : (terms : Terms) (log : Log) (now : Now) → is_at_rest terms log now ≡ true → IsAtRest terms log now
rest-so terms log now is =
    let ports = and_parts _ _ is in
    let traffic = and_parts _ _ ports.0 in
    let admin = and_parts _ _ traffic.1 in
    let reads = and_parts _ _ ports.1 in
    let read = and_parts _ _ reads.0 in
    let all = and_parts _ _ reads.1 in
    let each = and_parts _ _ all.0 in
    record {
      accepted = accepted-so log (and_from _ _ traffic.0 admin.0);
      named = admin.1;
      read_clients = all-so _ (λ (c : Client). is_read terms log now c.link) now.tale.clients (λ c so. read-so terms log now c.link so) read.0;
      read_servers = all-so _ (is_read terms log now) now.tale.links (read-so terms log now) read.1;
      clients = all-so _ (rests_client terms log now) now.tale.clients (client-so terms log now) each.0;
      servers = all-so _ (rests_server terms log now) now.tale.links (server-so terms log now) each.1;
      shared = each-key terms now (IsShared terms log now) (is_shared terms log now) (shared-so terms log now) all.1 (none-shared terms log now);
    }

pub rests-so : (terms : Terms) (log : Log) (now : Now) (e : Entry) → rests terms log now e ≡ true → RestsBy terms log now e
rests-so terms log now (entry.Woke until_ms now_ms) is = (let parts = and_parts _ _ is in record { rests = rest-so terms log now parts.0; until = number_of until_ms _ parts.1 })
rests-so terms log now entry.WaitFailed is = rest-so terms log now is
rests-so terms log now entry.Over is = rest-so terms log now is
rests-so terms log now _ is = tt
