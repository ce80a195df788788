-- What is closed next, and what is to be written on each link.
use Rattle.std.specs.Prelude.{ℕ, ◌+◌, Bool, true, false, not, ◌&&◌, ◌||◌, bytes_eq, is_some, nat_le, List, [], drop, find, length, if◌then◌else◌, Option, Some, None}
use Rattle.std.specs.List.{list_any}
use Rattle.std.specs.Option.{option_map, option_map_or, option_or}
use Rattle.mx_base.specs.declared.names.LinkId.{LinkId}
use Rattle.mx_base.specs.declared.tag.Tag.{Tag}
use Rattle.mx_base.specs.declared.tag.Tag.TheVariants as tags
use Rattle.mx_wire.specs.Log.{is_link, is_open, link_of, of_link, written_of}
use Rattle.packet_frame.specs.Packets.{spelling}
use Rattle.private_model.specs.Commands.{Quit}
use Rattle.private_model.specs.Story.{is_link_id}
use Rattle.private_model.specs.View.{Answered, Asked, Link, Quiet, Stage}
use Rattle.server_side.specs.Login.{said_of}
use Rattle.log_story.specs.Plan.{Asks, Closes, Resets, StepText, is_by_now, step_payload, text_payload}
use Rattle.log_story.specs.Servers.{may_begin}
use Rattle.log_story.specs.Tale.{Client, is_to_server}
use Rattle.tale_world.specs.Wishes.{Wish}
use Rattle.router_promises.specs.Closes.{is_full, is_in_the_way, is_joined, is_past_reset, is_spoilt, is_unlent, was_amiss, was_refused}
use Rattle.router_promises.specs.Due.{due_to, served}
use Rattle.router_promises.specs.Ends.{is_unheard, is_write, moment_in}
use Rattle.router_promises.specs.Keys.{key_of}
use Rattle.router_promises.specs.Now.{is_loss, was_lost, wire_now}
use Rattle.router_promises.specs.Running.{is_entering, is_soft, opening_on, status_in}
use Rattle.router_promises.specs.Tags.{last_tag}
use Rattle.router_promises.specs.Terms.{plan_in}
use Rattle.shared_router.specs.Known.{Known, link_by, setup_by}
use Rattle.shared_router.specs.Spelt.{question_spelt}
use Rattle.shared_router.specs.Wishes.{wanted_by, wish_on, wish_spelt, wish_step, wish_tag}

-- Links of clients that ended: all is written, the link was lost, its time is over, it was turned away or there was no memory.

abbrev pub was_tried : Known → LinkId → Bool
was_tried k link = list_any is_write (of_link link k.log)

abbrev pub may_part : Known → Client → Bool
may_part k client =
    bytes_eq (written_of client.link k.log) (due_to k.terms k.now client)
    || (list_any (λ e. is_loss e && is_link client.link (link_of e)) k.log
    || (nat_le (moment_in k.log ((plan_in k.terms).ends client.number) + k.terms.router.proxy.wait_ms) k.now.clock
    || ((not (served k.terms k.log client) && was_tried k client.link) || is_unheard k.terms k.log client)))

abbrev pub parts : Known → Client → Bool
parts k client =
    is_open client.link k.log && (is_by_now k.now.tale.moment ((plan_in k.terms).ends client.number) && may_part k client)

-- Links to servers: what can't be used, one whose step was refused, one that no reset cleans; and one that is nobody's, as its server is to
-- be left, it was idle for long, or to make room.

abbrev pub is_let_go : Known → LinkId → Bool
is_let_go k link =
    is_unlent (setup_by k) k.now link
    && (status_in is_soft k.now.servers (wire_now k.now link).server
    || (nat_le ((k.now.uses link).used + k.terms.router.proxy.idle_ms) k.now.clock
    || (is_in_the_way k.terms k.now (key_of k.terms k.now link) && is_full k.terms.router k.log k.now (key_of k.terms k.now link))))

abbrev pub is_refused : Known → LinkId → Bool
is_refused k link = was_refused (setup_by k) link k.now.tale.story && not (is_joined (link_by k link).carries)

abbrev pub is_to_quit : Known → LinkId → Bool
is_to_quit k link =
    is_spoilt k.terms k.log k.now link
    || (was_amiss (setup_by k) link k.now.tale.story || (is_refused k link || (is_past_reset (setup_by k) k.now link || is_let_go k link)))

-- and what was told QUIT is closed, whatever became of its cause
abbrev pub is_to_close : Known → LinkId → Bool
is_to_close k link = is_open link k.log && ((wire_now k.now link).quits || is_to_quit k link)

-- clients first
abbrev pub close_by : Known → Option LinkId
close_by k = option_or (option_map (λ (client : Client). client.link) (find (parts k) k.now.tale.clients)) (find (is_to_close k) k.now.tale.links)

abbrev pub closes : Known → LinkId → Bool
closes k link = option_map_or (is_link_id link) (close_by k) false

abbrev pub asks : Known → Bool
asks k = is_some (close_by k) || is_some (wanted_by k)

-- which step begins on a link: a QUIT where it is to be closed
abbrev pub step_by : Known → LinkId → StepText
step_by k link = if closes k link then Asks Quit else option_map_or wish_step (wish_on k link) (Closes 0)

-- What is to be written.

pub record Owed : Type 0 where
  pub tag : Tag
  pub bytes : List ℕ

abbrev pub nothing_owed : Owed
nothing_owed = record { tag = tags.Own; bytes = [] }

abbrev pub owed_to : Known → Client → Owed
owed_to k client = record { tag = tags.Reply; bytes = drop (length (written_of client.link k.log)) (due_to k.terms k.now client) }

-- in a login what there is to say
abbrev pub owed_in_login : Known → LinkId → Owed
owed_in_login k link =
    if is_entering k.terms k.now.tale link
    then record { tag = tags.Own; bytes = drop (length (wire_now k.now link).written) (said_of (opening_on k.terms k.now.tale link)) }
    else nothing_owed

-- a STMT_CLOSE or a STMT_RESET is whole before anything else begins
abbrev pub is_whole_step : Option StepText → (written : List ℕ) → Bool
is_whole_step (Some (Closes number)) written = bytes_eq written (spelling 0 (step_payload (Closes number)))
is_whole_step (Some (Resets number)) written = bytes_eq written (spelling 0 (step_payload (Resets number)))
is_whole_step _ written = true

abbrev pub owed_next : Known → LinkId → Option Wish → Owed
owed_next k link None = nothing_owed
owed_next k link (Some wish) = record { tag = wish_tag k wish; bytes = wish_spelt k link wish }

-- what began and isn't answered
abbrev pub begun_there : Option StepText → Stage → Link → List ℕ
begun_there step (Asked question) link = question_spelt question link
begun_there step (Answered question) link = question_spelt question link
begun_there (Some (Closes number)) Quiet link = spelling 0 (step_payload (Closes number))
begun_there (Some (Resets number)) Quiet link = spelling 0 (step_payload (Resets number))
begun_there _ Quiet link = []

abbrev pub owed_rest : Known → LinkId → Owed
owed_rest k link = option_map_or (λ tag. record {
  tag = tag;
  bytes = drop (length (wire_now k.now link).written) (begun_there (wire_now k.now link).step (link_by k link).stage (link_by k link));
}) (last_tag link k.log) nothing_owed

abbrev pub owed_there : Known → LinkId → (entered begins : Bool) → Owed
owed_there k link false begins = owed_in_login k link
owed_there k link true true =
    if is_whole_step (wire_now k.now link).step (wire_now k.now link).written then owed_next k link (wish_on k link) else nothing_owed
owed_there k link true false = owed_rest k link

-- a link that is to be closed is told QUIT, where it wasn't lost and nothing stands there
abbrev pub farewell : Known → LinkId → Owed
farewell k link =
    if may_begin (setup_by k) link (wire_now k.now link) k.now.tale
    && (not (wire_now k.now link).quits
    && (not (was_lost k.log link) && is_whole_step (wire_now k.now link).step (wire_now k.now link).written))
    then record { tag = tags.Own; bytes = spelling 0 (text_payload Quit) } else nothing_owed

abbrev pub owed_on_server : Known → LinkId → Owed
owed_on_server k link =
    if closes k link then farewell k link
    else owed_there k link (wire_now k.now link).entered (may_begin (setup_by k) link (wire_now k.now link) k.now.tale)

abbrev pub owed_on_client : Known → Option Client → Owed
owed_on_client k None = nothing_owed
owed_on_client k (Some client) = owed_to k client

abbrev pub owed_on : Known → LinkId → Owed
owed_on k link =
    if is_to_server k.now.tale link then owed_on_server k link
    else owed_on_client k (find (λ (client : Client). is_link_id client.link link) k.now.tale.clients)
