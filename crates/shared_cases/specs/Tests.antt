-- A test of a log against the definitional router, by terms that are given: each entry is one that it makes, and what the terms have is
-- what it decides.
use Rattle.std.specs.Prelude.{ℕ, suc, ◌+◌, ◌*◌, Bool, true, false, not, ◌&&◌, ◌||◌, bytes_eq, nat_eq, if◌then◌else◌, List, [], ◌∷◌, ◌++◌, map, Option, Some, None}
use Rattle.std.specs.List.{list_all}
use Rattle.std.specs.Option.{option_map_or}
use Rattle.mx_base.specs.declared.names.Address.{Address}
use Rattle.mx_base.specs.declared.names.LinkId.{LinkId}
use Rattle.mx_base.specs.declared.names.Port.TheVariants.{Admin, Traffic}
use Rattle.mx_base.specs.declared.names.ServerId.{ServerId}
use Rattle.mx_base.specs.declared.tag.Tag.{Tag}
use Rattle.mx_base.specs.declared.tag.Tag.TheVariants as tags
use Rattle.mx_wire.specs.Log.{Log, is_open}
use Rattle.mx_wire.specs.declared.entry.Entry.{Entry}
use Rattle.mx_wire.specs.declared.entry.Entry.TheVariants as entry
use Rattle.ready_loop.specs.Drained.{all_accepted, all_named, read_dry, write_dry}
use Rattle.private_model.specs.Story.{is_link_id, is_server}
use Rattle.server_side.specs.Account.{Account as Login}
use Rattle.log_story.specs.Owed.{name_of}
use Rattle.log_story.specs.Plan.{LastWord, OwnAnswer, StepText, is_now, step_payload}
use Rattle.log_story.specs.Servers.{may_begin}
use Rattle.log_story.specs.Tale.{Client, is_to_server}
use Rattle.tale_world.specs.Policy.{Readied, Wanted}
use Rattle.tale_world.specs.Tests.{is_flag}
use Rattle.promise_tests.specs.Judging.{are_so}
use Rattle.promise_tests.specs.Same.{are_each, is_address, is_nothing, is_option, is_tag}
use Rattle.promise_tests.specs.Telling.{fits, is_front}
use Rattle.router_promises.specs.Closes.{has_bytes}
use Rattle.router_promises.specs.Now.{Now, at_first, entry_now, next, takings_now, while_ending, wire_now}
use Rattle.router_promises.specs.Running.{servers_after}
use Rattle.router_promises.specs.Terms.{Terms, plan_in}
use Rattle.router_promises.specs.Wakes.{wakes_at}
use Rattle.shared_router.specs.Causes.{given_by}
use Rattle.shared_router.specs.Ends.{Ending, ends_by, words_by}
use Rattle.shared_router.specs.Fixed.{Fixed}
use Rattle.shared_router.specs.Known.{Known, setup_by}
use Rattle.shared_router.specs.Lends.{readied_now}
use Rattle.shared_router.specs.Ours.{has_word, reads}
use Rattle.shared_router.specs.Owed.{asks, close_by, closes, owed_on, step_by}
use Rattle.shared_router.specs.Wishes.{address_in, tried_by, wanted_by}

-- The entry is one that it makes.

abbrev pub writes : Known → LinkId → Tag → List ℕ → Bool
writes k link tag bytes =
    (not (asks k) || closes k link) && (is_front bytes (owed_on k link).bytes && is_tag tag (owed_on k link).tag)

abbrev pub opens : Known → ServerId → Address → Bool
opens k server address =
    is_nothing (close_by k)
    && (option_map_or (λ (wanted : Wanted). is_server wanted.server server) (wanted_by k) false && is_option is_address (address_in k server) (Some address))

abbrev pub is_dry : Known → LinkId → Bool
is_dry k link =
    not (is_open link k.log)
    || ((not (reads k link) || read_dry link k.log) && (not (has_bytes (owed_on k link).bytes) || write_dry link k.log))

abbrev pub may_wait : Known → Bool
may_wait k =
    (not (asks k) && (all_accepted Traffic k.log && (all_accepted Admin k.log && all_named k.log)))
    && (list_all (λ (client : Client). is_dry k client.link) k.now.tale.clients && list_all (is_dry k) k.now.tale.links)

abbrev pub is_ours : Known → Entry → Bool
is_ours k (entry.Accepted port link salt) = not (asks k)
is_ours k (entry.Got link bytes) = not (asks k) && not (has_word k link)
is_ours k (entry.Ended link) = not (asks k)
is_ours k (entry.ReadFailed link) = not (asks k)
is_ours k (entry.WriteFailed link) = not (asks k) || closes k link
is_ours k (entry.Wrote link tag bytes) = writes k link tag bytes
is_ours k (entry.Opened server address link) = opens k server address
is_ours k (entry.OpenFailed server address) = opens k server address
is_ours k (entry.Closed link) = closes k link
is_ours k (entry.Woke until_ms now_ms) = may_wait k && nat_eq until_ms (wakes_at k.terms k.log k.now)
is_ours k entry.WaitFailed = may_wait k
is_ours k entry.Over = may_wait k
is_ours k _ = true

-- What the terms have is what it decides.

abbrev pub is_login : Login → Login → Bool
is_login a b = bytes_eq a.user b.user && (bytes_eq a.password b.password && is_flag a.found_rows b.found_rows)

abbrev pub is_step : Tag → StepText → StepText → Bool
is_step (tags.Sync client hostgroup) a b = bytes_eq (step_payload a) (step_payload b)
is_step tags.Own a b = bytes_eq (step_payload a) (step_payload b)
is_step _ a b = true

abbrev pub tells : Known → Entry → Bool
tells k (entry.Opened server address link) =
    is_login ((plan_in k.terms).logins link) (tried_by k).login && is_flag (k.terms.decided.bare link) (tried_by k).bare
tells k (entry.OpenFailed server address) =
    is_login (k.terms.decided.tried (entry_now k.now)).login (tried_by k).login && is_flag (k.terms.decided.tried (entry_now k.now)).bare (tried_by k).bare
tells k (entry.Wrote link tag bytes) =
    not (is_to_server k.now.tale link && may_begin (setup_by k) link (wire_now k.now link) k.now.tale)
    || is_step tag ((plan_in k.terms).steps link (wire_now k.now link).begun) (step_by k link)
tells k _ = true

abbrev pub given_now : (entry : ℕ) → Option OwnAnswer → Option (List (List ℕ))
given_now entry own = option_map_or (λ (answer : OwnAnswer). if nat_eq answer.from entry then Some answer.payloads else None) own None

abbrev pub gives : Known → Entry → Client → Bool
gives k e client =
    is_option (are_each bytes_eq) (given_by k (servers_after k.terms k.now.clock k.now.tale e k.now.servers) e (name_of client client.taken))
    (given_now (entry_now k.now) ((plan_in k.terms).own (name_of client client.taken)))

abbrev pub routes : Known → Entry → Bool
routes k e = are_so k.terms (servers_after k.terms k.now.clock k.now.tale e k.now.servers) k.now.flags (takings_now k.terms k.now e)

abbrev pub ending_in : Known → Entry → Ending
ending_in k e = record { fixed = k.fixed; terms = k.terms; log = k.log ++ e ∷ []; now = k.now; ending = while_ending k.terms k.now e; e = e }

abbrev pub is_word : LastWord → LastWord → Bool
is_word a b = nat_eq a.from b.from && are_each bytes_eq a.payloads b.payloads

abbrev pub word_now : (entry : ℕ) → Option LastWord → Option LastWord
word_now entry word = option_map_or (λ (w : LastWord). if nat_eq w.from entry then Some w else None) word None

abbrev pub ends : Known → Entry → Client → Bool
ends k e client =
    is_flag (ends_by (ending_in k e) client.number || option_map_or (λ at. not (nat_eq at (entry_now k.now))) ((plan_in k.terms).ends client.number) false)
    (is_now (entry_now k.now) ((plan_in k.terms).ends client.number) || option_map_or (λ at. not (nat_eq at (entry_now k.now))) ((plan_in k.terms).ends client.number) false)
    && is_option is_word (words_by (ending_in k e) client.number) (word_now (entry_now k.now) ((plan_in k.terms).words client.number))

abbrev pub decides : Known → Entry → Bool
decides k e =
    (tells k e && list_all (gives k e) k.now.tale.clients)
    && (routes k e && list_all (ends k e) (ending_in k e).ending.tale.clients)

-- Along a log. For whom links are readied is kept as a table, so that it computes.

pub record Lending : Type 0 where
  pub link : LinkId
  pub to : Option Readied

abbrev pub lent_by : List Lending → LinkId → Option Readied
lent_by [] link = None
lent_by (one ∷ more) link = if is_link_id link one.link then one.to else lent_by more link

abbrev pub lendings : Known → List Lending
lendings k = map (λ link. record { link = link; to = readied_now k link }) k.now.tale.links

abbrev pub known_by : Fixed → Terms → (before : Log) → Now → List Lending → Known
known_by fixed terms before now lent = record { fixed = fixed; terms = terms; log = before; now = now; readied = lent_by lent }

abbrev pub ours_from : Fixed → Terms → (before : Log) → Now → List Lending → Log → Bool
ours_from fixed terms before now lent [] = true
ours_from fixed terms before now lent (e ∷ log) =
    let k = known_by fixed terms before now lent in
    (fits before e && (is_ours k e && decides k e))
    && ours_from fixed terms (before ++ e ∷ []) (next terms now e) (lendings k) log

abbrev pub ours : Fixed → Terms → Log → Bool
ours fixed terms log = ours_from fixed terms [] (at_first terms) [] log

-- which entry is the first that isn't, and why
abbrev pub fault : Known → Entry → ℕ
fault k e =
    if not (fits k.log e) then 1
    else if not (is_ours k e) then 2
    else if not (tells k e) then 3
    else if not (list_all (gives k e) k.now.tale.clients) then 4
    else if not (routes k e) then 5
    else if not (list_all (ends k e) (ending_in k e).ending.tale.clients) then 6
    else 0

abbrev pub trial : Fixed → Terms → (n : ℕ) → (before : Log) → Now → List Lending → Log → ℕ
trial fixed terms n before now lent [] = 0
trial fixed terms n before now lent (e ∷ log) =
    let k = known_by fixed terms before now lent in
    if nat_eq (fault k e) 0 then trial fixed terms (suc n) (before ++ e ∷ []) (next terms now e) (lendings k) log else n * 10 + fault k e
