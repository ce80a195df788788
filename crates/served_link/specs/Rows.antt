-- What is kept of a link to a server.
use Rattle.std.specs.Prelude.{ℕ, true, false, [], Option, Some, None}
use Rattle.mx_base.specs.declared.names.ClientNo.{ClientNo}
use Rattle.server_side.specs.Account.{Account}
use Rattle.link_state.specs.States as states
use Rattle.lent_link.specs.Links.{new_link, unbegun}
use Rattle.served_link.specs.declared.row.LeftSession.{LeftSession}
use Rattle.served_link.specs.declared.row.Opening.{Opening}
use Rattle.served_link.specs.declared.row.Row.{Row}

abbrev pub new_row : Opening → Account → (now : ℕ) → Row
new_row opening account now = record {
  link = new_link opening.server account;
  identity = record { user = account.user; found_rows = account.found_rows };
  hostgroup = opening.hostgroup;
  key = opening.key;
  bare = opening.bare;
  left = None;
  readied = None;
  used = now;
  long = [];
  longer = None;
  multiplex = None;
  cell = None;
  lost = false;
  amiss = false;
  refused = false;
}

abbrev pub lost : Row → Row
lost row = record row { lost = true }

abbrev pub left_by : LeftSession → Row → Row
left_by session row = record row { left = Some session }

abbrev pub freed : Row → Row
freed row = record row { link = record row.link { state = states.freed row.link.state }; left = None }

abbrev pub readied_for : Option ClientNo → Row → Row
readied_for client row = record row { readied = client }

-- what is to be written next is taken back
abbrev pub taken_back : Row → Row
taken_back row = record row { link = unbegun row.link }
