-- At which moment the loop asks to be woken.
use Rattle.std.specs.Prelude.{ℕ, ◌+◌, Bool, not, ◌&&◌, is_some, min, nat_lt, filter, fold, if◌then◌else◌, List, [], ◌∷◌, ◌++◌, map, slice_get, Option, Some, None}
use Rattle.std.specs.List.{filter_map, list_any}
use Rattle.hostgroups.specs.declared.row.ServerStatus.{ServerStatus}
use Rattle.hostgroups.specs.declared.row.ServerStatus.TheVariants.{Shunned}
use Rattle.hostgroups.specs.declared.server.Server.{Server}
use Rattle.mx_wire.specs.Log.{Log, is_open}
use Rattle.private_model.specs.Names.{MessageName}
use Rattle.private_model.specs.Story.{BecameDue, Story}
use Rattle.log_story.specs.Clients.{next_taken}
use Rattle.log_story.specs.Owed.{messages}
use Rattle.log_story.specs.Plan.{is_by_now}
use Rattle.log_story.specs.Tale.{Client}
use Rattle.router_promises.specs.Ends.{moment_in}
use Rattle.router_promises.specs.Keys.{is_resting, is_waiting}
use Rattle.router_promises.specs.Now.{Now}
use Rattle.router_promises.specs.Terms.{Terms, plan_in, setup_in}

-- A statement that waits has waited long enough.

abbrev pub waits_in : Terms → Now → Story → List MessageName
waits_in terms now [] = []
waits_in terms now (BecameDue client hostgroup ordinal key command multiplex ∷ past) =
    waits_in terms now past
    ++ (if is_waiting terms now client hostgroup ordinal then record { client = client; ordinal = ordinal } ∷ [] else [])
waits_in terms now (e ∷ past) = waits_in terms now past

abbrev pub waits_end : Terms → Now → List ℕ
waits_end terms now = map (λ m. now.since m + terms.router.proxy.wait_ms) (waits_in terms now now.tale.story)

-- a link that carries nobody was idle long enough
abbrev pub links_lapse : Terms → Log → Now → List ℕ
links_lapse terms log now =
    map (λ link. (now.uses link).used + terms.router.proxy.idle_ms) (filter (is_resting terms log now) now.tale.links)

-- a server is tried again
abbrev pub shunned_until : ServerStatus → Option ℕ
shunned_until (Shunned until_ms) = Some until_ms
shunned_until _ = None

abbrev pub servers_return : Now → List ℕ
servers_return now = filter_map (λ (s : Server). shunned_until s.status) now.servers

-- the time is over in which a client that ended may take what it is told
abbrev pub has_ended : Terms → Now → Client → Bool
has_ended terms now client = is_by_now now.tale.moment ((plan_in terms).ends client.number)

abbrev pub clients_part : Terms → Log → Now → List ℕ
clients_part terms log now =
    map (λ (client : Client). moment_in log ((plan_in terms).ends client.number) + terms.router.proxy.wait_ms)
    (filter (λ (client : Client). has_ended terms now client && is_open client.link log) now.tale.clients)

-- a message lacks nothing but an event to be taken up
abbrev pub lacks_an_event : Terms → Now → Client → Bool
lacks_an_event terms now client =
    not (has_ended terms now client)
    && is_some (next_taken (setup_in terms) (plan_in terms) client (slice_get (messages (plan_in terms) client) client.taken) now.tale)

-- what there is to do, and when: at once for a message, else later
abbrev pub moments : Terms → Log → Now → List ℕ
moments terms log now =
    (if list_any (lacks_an_event terms now) now.tale.clients then now.clock ∷ [] else [])
    ++ filter (nat_lt now.clock) (waits_end terms now ++ (links_lapse terms log now ++ (servers_return now ++ clients_part terms log now)))

-- the first of these; where there is none, the last moment that there is
abbrev pub wakes_at : Terms → Log → Now → ℕ
wakes_at terms log now = fold min 18446744073709551615 (moments terms log now)
