-- Links to servers, and statements that wait for one, by the key that they share: a hostgroup and an account. No step takes a link's
-- schema away; so those who stand in no schema have links of their own, which were told none.
use Rattle.std.specs.Prelude.{ℕ, suc, Bool, false, not, ◌&&◌, ◌||◌, bytes_eq, is_some, nat_eq, nat_lt, List, [], ◌∷◌, ◌++◌, count_by, length, slice_get, if◌then◌else◌, Option}
use Rattle.std.specs.List.{list_any}
use Rattle.std.specs.Option.{option_map, option_map_or}
use Rattle.hostgroups.specs.Servers.{server_at}
use Rattle.hostgroups.specs.declared.row.ServerRow.{ServerRow}
use Rattle.hostgroups.specs.declared.server.Server.{Server}
use Rattle.mx_wire.specs.Log.{Log, is_open}
use Rattle.ready_loop.specs.Drained.{write_dry}
use Rattle.private_model.specs.Commands.{Account}
use Rattle.server_rule.specs.declared.session.Capabilities.{Capabilities}
use Rattle.private_model.specs.Names.{ClientNo, Hostgroup, LinkId, MessageName, ServerId}
use Rattle.private_model.specs.Story.{BecameDue, Due, Story, is_hostgroup, is_server}
use Rattle.private_model.specs.View.{Carried, Setup, session_in}
use Rattle.log_story.specs.Servers.{is_quiet}
use Rattle.log_story.specs.Tale.{is_reset_step}
use Rattle.router_promises.specs.Dues.{is_unsent}
use Rattle.router_promises.specs.Now.{Now, is_here, is_online, link_now, present_now, view_now, wire_now}
use Rattle.router_promises.specs.Running.{hostgroup_of, is_entering}
use Rattle.router_promises.specs.Terms.{Terms, login_as, plan_in, setup_in}
use Rattle.router_promises.specs.Router.{Router}
use Rattle.router_promises.specs.Wants.{is_text}

pub record LinkKey : Type 0 where
  pub hostgroup : Hostgroup
  pub account : Account
  pub bare : Bool  -- in no schema

abbrev pub is_same : Bool → Bool → Bool
is_same a b = (a && b) || (not a && not b)

abbrev pub are_same : Capabilities → Capabilities → Bool
are_same a b = is_same a.found_rows b.found_rows && (is_same a.multi_results b.multi_results && is_same a.ignore_space b.ignore_space)

abbrev pub is_account : Account → Account → Bool
is_account a b = bytes_eq a.user b.user && are_same a.capabilities b.capabilities

abbrev pub is_key : LinkKey → LinkKey → Bool
is_key a b = is_hostgroup a.hostgroup b.hostgroup && (is_account a.account b.account && is_same a.bare b.bare)

abbrev pub is_in : Router → ServerId → Hostgroup → Bool
is_in router server hostgroup = option_map_or (λ h. is_hostgroup h hostgroup) (hostgroup_of router server) false

-- kept for those who stand in no schema, and told none
abbrev pub is_bare : Terms → Now → LinkId → Bool
is_bare terms now link =
    terms.decided.bare link && (not (wire_now now link).entered || is_text [] (link_now (setup_in terms) now link).told.schema)

-- the key of a link: its server's hostgroup, who logs in there, and whether it is bare
abbrev pub key_of : Terms → Now → LinkId → Option LinkKey
key_of terms now link =
    option_map (λ hostgroup. record {
      hostgroup = hostgroup;
      account = login_as ((plan_in terms).logins link);
      bare = is_bare terms now link;
    })
    (hostgroup_of terms.router (wire_now now link).server)

abbrev pub is_of_key : Terms → Now → LinkKey → LinkId → Bool
is_of_key terms now key link = option_map_or (λ other. is_key other key) (key_of terms now link) false

-- Where a link stands.

-- its login isn't through
abbrev pub is_opening : Terms → Log → Now → LinkId → Bool
is_opening terms log now link = is_here log link && is_entering terms now.tale link

abbrev pub is_nobodys : Carried → Bool
is_nobodys carried = not (is_some (session_in carried))

-- logged in, and it carries nobody; then its reset is answered, if it had one
abbrev pub is_vacant : Terms → Log → Now → LinkId → Bool
is_vacant terms log now link =
    (is_here log link && (wire_now now link).entered)
    && (not (wire_now now link).quits && is_nobodys (link_now (setup_in terms) now link).carries)

-- what stands there is unanswered, or the link takes no more
abbrev pub is_at_work : Terms → Log → Now → LinkId → Bool
is_at_work terms log now link =
    not (is_quiet (link_now (setup_in terms) now link).stage) || (is_reset_step (wire_now now link).step || write_dry link log)

-- a step is under way on a link that carries nobody
abbrev pub is_stepping : Terms → Log → Now → LinkId → Bool
is_stepping terms log now link = is_vacant terms log now link && is_at_work terms log now link

-- nothing is under way on a link that carries nobody
abbrev pub is_resting : Terms → Log → Now → LinkId → Bool
is_resting terms log now link = is_vacant terms log now link && not (is_at_work terms log now link)

-- a link that can be lent, whatever is under way there; and one that can be lent at once

abbrev pub is_free : Terms → Log → Now → LinkId → Bool
is_free terms log now link = is_vacant terms log now link && is_online now (wire_now now link).server

abbrev pub is_idle : Terms → Log → Now → LinkId → Bool
is_idle terms log now link = is_free terms log now link && not (is_at_work terms log now link)

-- how many links of a key are so
abbrev pub how_many : (Terms → Log → Now → LinkId → Bool) → Terms → Log → Now → LinkKey → ℕ
how_many test terms log now key = count_by (λ link. is_of_key terms now key link && test terms log now link) now.tale.links

-- Statements that wait.

-- it is this statement of its client that waits, in this hostgroup
abbrev pub is_waiting : Terms → Now → ClientNo → Hostgroup → (ordinal : ℕ) → Bool
is_waiting terms now client hostgroup ordinal =
    is_unsent terms now.tale (present_now (setup_in terms) now client hostgroup)
    && option_map_or (λ (d : Due). nat_eq d.ordinal ordinal)
    ((view_now (setup_in terms) now).dues (present_now (setup_in terms) now client hostgroup)) false

abbrev pub has_no_schema : Option Due → Bool
has_no_schema due = option_map_or (λ (d : Due). bytes_eq d.place.schema []) due false

-- the key of a link for what is due of this client in this hostgroup
abbrev pub key_for : Setup → Now → ClientNo → Hostgroup → LinkKey
key_for setup now client hostgroup = record {
  hostgroup = hostgroup;
  account = setup.accounts client;
  bare = has_no_schema ((view_now setup now).dues (present_now setup now client hostgroup));
}

-- those that wait, the oldest first: in the order in which they became due
abbrev pub waiters_in : Terms → Now → LinkKey → Story → List MessageName
waiters_in terms now key [] = []
waiters_in terms now key (BecameDue client hostgroup ordinal at command multiplex ∷ past) =
    waiters_in terms now key past
    ++ (if is_waiting terms now client hostgroup ordinal
    && is_key (key_for (setup_in terms) now client hostgroup) key
    then record { client = client; ordinal = ordinal } ∷ [] else [])
waiters_in terms now key (e ∷ past) = waiters_in terms now key past

abbrev pub waiters : Terms → Now → LinkKey → List MessageName
waiters terms now key = waiters_in terms now key now.tale.story

abbrev pub waiting : Terms → Now → LinkKey → ℕ
waiting terms now key = length (waiters terms now key)

abbrev pub oldest : Terms → Now → LinkKey → Option MessageName
oldest terms now key = slice_get (waiters terms now key) 0

-- Room.

-- the open links of a server
abbrev pub connections_of : Log → Now → ServerId → ℕ
connections_of log now server = count_by (λ link. is_server (wire_now now link).server server && is_open link log) now.tale.links

-- it is ONLINE and may have one connection more
abbrev pub has_room : Log → Now → ServerId → Bool
has_room log now server =
    is_online now server
    && option_map_or (λ (s : Server). nat_lt (connections_of log now server) s.row.max_connections)
    (server_at now.servers server) false

abbrev pub numbered_from : (n : ℕ) → List ServerRow → List ServerId
numbered_from n [] = []
numbered_from n (row ∷ rows) = record { 0 = n } ∷ numbered_from (suc n) rows

abbrev pub has_room_in : Router → Log → Now → Hostgroup → Bool
has_room_in router log now hostgroup =
    list_any (λ server. is_in router server hostgroup && has_room log now server) (numbered_from 1 router.servers)

-- there is room in a hostgroup, or an idle link that could be lent, or closed to make room
abbrev pub has_place : Terms → Log → Now → Hostgroup → Bool
has_place terms log now hostgroup =
    list_any (λ link. is_in terms.router (wire_now now link).server hostgroup && is_idle terms log now link) now.tale.links
    || has_room_in terms.router log now hostgroup
