-- What is known at a moment: a fold of the log.
use Rattle.std.specs.Prelude.{ℕ, ◌+◌, Bool, true, false, not, ◌&&◌, List, fold}
use Rattle.std.specs.List.{list_any}
use Rattle.hostgroups.specs.Picks.{is_online_at}
use Rattle.hostgroups.specs.declared.server.Server.{Server}
use Rattle.mx_wire.specs.Log.{Log, is_open, moment_step, of_link}
use Rattle.mx_wire.specs.declared.entry.Entry.{Entry}
use Rattle.mx_wire.specs.declared.entry.Entry.TheVariants.{Closed, Ended, ReadFailed, WriteFailed}
use Rattle.private_model.specs.Names.{ClientNo, Hostgroup, LinkId, MessageName, ServerId, SessionName}
use Rattle.private_model.specs.Story.{is_client, is_message, put}
use Rattle.private_model.specs.View as view
use Rattle.private_model.specs.View.{Held, Link, Setup, View}
use Rattle.log_story.specs.Clients.{clients_go_on}
use Rattle.log_story.specs.Tale.{Tale, Wire, first_tale, link_in, view_of}
use Rattle.log_story.specs.Telling.{tale_step}
use Rattle.router_promises.specs.Running.{servers_after, servers_at_first}
use Rattle.router_promises.specs.Takings.{Taking, as_told, message_in, takings_at}
use Rattle.router_promises.specs.Terms.{Terms, plan_in, setup_in}
use Rattle.router_promises.specs.Uses.{Use, unused, use_after}
use Rattle.router_promises.specs.Verdicts.{flag_behind}

-- the moment of the last wake; the tale; the servers; of clients, the flags by which rules are tried first; of messages, the moment of the
-- last wake as they were taken up; and how links were used
pub record Now : Type 0 where
  pub clock : ℕ
  pub tale : Tale
  pub servers : List Server
  pub flags : ClientNo → ℕ
  pub since : MessageName → ℕ
  pub uses : LinkId → Use

abbrev pub at_first : Terms → Now
at_first terms = record {
  clock = 0;
  tale = first_tale;
  servers = servers_at_first terms.router;
  flags = λ c. 0;
  since = λ m. 0;
  uses = λ link. unused 0;
}

abbrev pub takings_now : Terms → Now → Entry → List Taking
takings_now terms now e = takings_at (setup_in terms) (plan_in terms) now.tale e

abbrev pub flag_taken : Terms → (ClientNo → ℕ) → Taking → ClientNo → ℕ
flag_taken terms flags taking = put is_client flags taking.client.number (flag_behind terms (flags taking.client.number) taking)

abbrev pub taken_since : (clock : ℕ) → (MessageName → ℕ) → Taking → MessageName → ℕ
taken_since clock since taking = put is_message since (message_in taking) clock

abbrev pub next : Terms → Now → Entry → Now
next terms now e = record {
  clock = moment_step now.clock e;
  tale = tale_step (setup_in terms) (plan_in terms) now.tale e;
  servers = servers_after terms now.clock now.tale e now.servers;
  flags = fold (flag_taken terms) now.flags (takings_now terms now e);
  since = fold (taken_since (moment_step now.clock e)) now.since (takings_now terms now e);
  uses = use_after terms now.clock now.tale (tale_step (setup_in terms) (plan_in terms) now.tale e) e now.uses;
}

-- what is known at an entry behind what is taken up, before clients are ended
abbrev pub while_ending : Terms → Now → Entry → Now
while_ending terms now e = record (next terms now e) {
  tale = clients_go_on (setup_in terms) (plan_in terms) (view_of (setup_in terms) now.tale) e
      (as_told (setup_in terms) (plan_in terms) now.tale e);
}

abbrev pub now_at : Terms → Log → Now
now_at terms log = fold (next terms) (at_first terms) log

-- What is read of it.

abbrev pub view_now : Setup → Now → View
view_now setup now = view_of setup now.tale

abbrev pub link_now : Setup → Now → LinkId → Link
link_now setup now link = link_in setup now.tale link

abbrev pub wire_now : Now → LinkId → Wire
wire_now now link = now.tale.wires link

abbrev pub present_now : Setup → Now → ClientNo → Hostgroup → SessionName
present_now setup now client hostgroup = view.present (view_now setup now) client hostgroup

abbrev pub held_now : Setup → Now → SessionName → Held
held_now setup now n = (view_now setup now).held n

abbrev pub is_online : Now → ServerId → Bool
is_online now server = is_online_at now.servers server

-- the number of the entry that comes next, as plans count
abbrev pub entry_now : Now → ℕ
entry_now now = now.tale.moment + 1

-- a link is lost where a read of it ended or failed, or a write failed

abbrev pub is_loss : Entry → Bool
is_loss (Ended link) = true
is_loss (ReadFailed link) = true
is_loss (WriteFailed link) = true
is_loss _ = false

-- and it is gone, also where the router closes it
abbrev pub is_gone : Entry → Bool
is_gone (Closed link) = true
is_gone e = is_loss e

abbrev pub was_lost : Log → LinkId → Bool
was_lost log link = list_any is_loss (of_link link log)

-- it is open, and wasn't lost
abbrev pub is_here : Log → LinkId → Bool
is_here log link = is_open link log && not (was_lost log link)
