-- What goes to a link to a server next, with its tag, and what is opened: by the policy, for whom links are readied.
use Rattle.std.specs.Prelude.{ℕ, Bool, true, false, ◌&&◌, ◌||◌, List, [], ◌∷◌, find, if◌then◌else◌, reverse, unwrap_or, Option, Some, None}
use Rattle.std.specs.List.{filter_map}
use Rattle.std.specs.Option.{option_and_then, option_map, option_map_or, option_or}
use Rattle.hostgroups.specs.Servers.{server_at}
use Rattle.hostgroups.specs.declared.server.Server.{Server}
use Rattle.mx_base.specs.declared.names.Address.{Address}
use Rattle.mx_base.specs.declared.tag.Tag.{Tag}
use Rattle.mx_base.specs.declared.tag.Tag.TheVariants as tags
use Rattle.mx_config.specs.declared.config.UserRow.{UserRow}
use Rattle.packet_frame.specs.Packets.{spelling}
use Rattle.session_vars.specs.Settings.{changed, difference_of, value_at}
use Rattle.session_vars.specs.Texts.{names_text, session_text}
use Rattle.session_vars.specs.declared.change.SlotValue.{SlotValue}
use Rattle.session_vars.specs.declared.slot.Slot.TheVariants.{Autocommit}
use Rattle.private_model.specs.Commands.{Account}
use Rattle.private_model.specs.Names.{Hostgroup, LinkId, ServerId}
use Rattle.private_model.specs.Story.{Capture, Due, End, Own, Prep, Question, Statement, Sync, command_of, is_name}
use Rattle.private_model.specs.View.{View}
use Rattle.server_side.specs.Account.{Account as Login}
use Rattle.log_story.specs.Plan.{Asks, StepText, step_payload}
use Rattle.tale_world.specs.Policy.{Texts, Wanted, next_open, next_question}
use Rattle.tale_world.specs.Tests.{may_begin_question}
use Rattle.tale_world.specs.Wishes.{Says, Sends, Standing, Wish, wish_for}
use Rattle.router_promises.specs.Closes.{has_bytes}
use Rattle.router_promises.specs.Dues.{is_due}
use Rattle.router_promises.specs.Keys.{has_room, is_in, numbered_from}
use Rattle.router_promises.specs.Now.{entry_now, wire_now}
use Rattle.router_promises.specs.Router.{user_named}
use Rattle.router_promises.specs.Steps.{live_keys}
use Rattle.router_promises.specs.Terms.{Tried}
use Rattle.shared_router.specs.Fixed.{Fixed}
use Rattle.shared_router.specs.Known.{Known, link_by, present_by, setup_by, view_by}
use Rattle.shared_router.specs.Lends.{readied_now, settled}
use Rattle.shared_router.specs.More.{nobody}
use Rattle.shared_router.specs.Spelt.{question_spelt}

-- SET NAMES where character sets differ, and then SET SESSION; and settings with autocommit as a link was told it

abbrev pub leads_by : (from to : List SlotValue) → List ℕ
leads_by from to = unwrap_or (option_or (names_text (difference_of from to)) (session_text (difference_of from to))) []

abbrev pub calm_by : (settings told : List SlotValue) → List SlotValue
calm_by settings told = changed settings (record { slot = Autocommit; value = value_at told Autocommit; adds = false })

abbrev pub texts : Texts
texts = record { leads = leads_by; calm = calm_by }

-- the prepared statements of a link, the oldest first, and those with long data
abbrev pub standing_on : Known → LinkId → Standing
standing_on k link =
    record { live = filter_map (link_by k link).live (reverse (live_keys (setup_by k) k.now link)); long = (k.now.uses link).long }

-- a statement that was given up is due no more: in a session with a Pin nothing is sent for it
abbrev pub kept_due : Known → View
kept_due k = record (view_by k) { dues = λ n. if is_due k.terms k.now.tale n then (view_by k).dues n else None }

-- Nothing goes behind a QUIT, nor behind bytes that nobody asked for; and a question goes where it may begin, a preparation for a present session.

abbrev pub is_barred : Known → LinkId → Bool
is_barred k link = (wire_now k.now link).quits || has_bytes (wire_now k.now link).unread

abbrev pub is_present : Known → Question → Bool
is_present k (Prep n key text) = is_name n (present_by k n.client n.hostgroup)
is_present k _ = true

abbrev pub may_go : Known → LinkId → Question → Bool
may_go k link question = may_begin_question (setup_by k) (view_by k) (link_by k link) question && is_present k question

abbrev pub if_may : Known → LinkId → Question → Option Question
if_may k link question = if may_go k link question then Some question else None

abbrev pub asked_on : Known → LinkId → Option Question
asked_on k link =
    option_and_then (if_may k link) (next_question texts k.fixed.ids (setup_by k) (kept_due k) (link_by k link) (readied_now k link))

abbrev pub wish_on : Known → LinkId → Option Wish
wish_on k link = if is_barred k link then None else option_map (wish_for (link_by k link) (standing_on k link)) (asked_on k link)

abbrev pub ordinal_due : Option Due → ℕ
ordinal_due due = option_map_or (λ (d : Due). d.ordinal) due 0

abbrev pub tag_of : Known → Question → Tag
tag_of k (Statement n due) = tags.For n.client due.ordinal
tag_of k (Prep n key text) = tags.Prep n.client (ordinal_due ((view_by k).dues n))
tag_of k (Sync n command) = tags.Sync n.client n.hostgroup
tag_of k (Own command) = tags.Own
tag_of k (End n) = tags.End n.client n.hostgroup
tag_of k (Capture n) = tags.End n.client n.hostgroup

abbrev pub wish_tag : Known → Wish → Tag
wish_tag k (Sends question) = tag_of k question
wish_tag k (Says text) = tags.Own

abbrev pub wish_spelt : Known → LinkId → Wish → List ℕ
wish_spelt k link (Sends question) = question_spelt question (link_by k link)
wish_spelt k link (Says text) = spelling 0 (step_payload text)

-- the step that it is, as plans have it
abbrev pub wish_step : Wish → StepText
wish_step (Sends question) = Asks (command_of question)
wish_step (Says text) = text

-- What is opened: for the oldest whose key wants a link, at a server with room, as its client's user.

abbrev pub can_open : Known → Hostgroup → ServerId → Bool
can_open k hostgroup server = is_in k.terms.router server hostgroup && has_room k.log k.now server

-- the server that is preferred, or else the first with room
abbrev pub pick : Known → Hostgroup → Option ServerId
pick k hostgroup = find (can_open k hostgroup) (k.fixed.picks (entry_now k.now) hostgroup ∷ numbered_from 1 k.terms.router.servers)

abbrev pub wanted_by : Known → Option Wanted
wanted_by k = next_open (settled k) (pick k) (settled k).waiters

abbrev pub login_for : Fixed → Account → Login
login_for fixed account = option_map_or
    (λ (row : UserRow). record { user = account.user; password = row.password; found_rows = account.capabilities.found_rows })
    (user_named fixed.router account.user) nobody

-- as whom, and whether for those who stand in no schema
abbrev pub opened_for : Fixed → Option Wanted → Tried
opened_for fixed wanted = option_map_or
    (λ (w : Wanted). record { login = login_for fixed w.key.account; bare = w.key.bare }) wanted (record { login = nobody; bare = false })

abbrev pub tried_by : Known → Tried
tried_by k = opened_for k.fixed (wanted_by k)

abbrev pub address_in : Known → ServerId → Option Address
address_in k server = option_map (λ (s : Server). s.row.address) (server_at k.now.servers server)
