-- What the router decided of a client's message that came up, where it goes to a server as a text.
use Rattle.std.specs.Prelude.{◌≡◌, ℕ, Bool, false, drop, nat_eq, slice_index_or, unwrap_or, List, Option, Some, None}
use Rattle.packet_frame.specs.Packets.{Framed}
use Rattle.private_model.specs.Commands.{Command}
use Rattle.private_model.specs.Names.{Hostgroup}
use Rattle.log_story.specs.Plan.{Route, com_execute, com_field_list, com_init_db, com_prepare, com_query}
use Rattle.log_story.specs.Tale.{Client}
use Rattle.link_state.specs.declared.asking.Form.{Form}
use Rattle.link_laws.specs.Stands.{IsForm}
use Rattle.client_seat.specs.Requests.{Says, text_in}
use Rattle.core_stands.specs.Grounds.{Ground}
use Rattle.core_laws.specs.taking.Takes.{own_of, route_of}

-- it has no key, it prepares nothing, and no copy of it is made
abbrev pub text_route : Hostgroup → (text : Option (List ℕ)) → (multiplex : Option Bool) → Route
text_route hostgroup text multiplex =
    record { hostgroup = hostgroup; text = text; key = 0; number = 0; multiplex = multiplex; mirror = None }

-- it neither prepares a statement nor executes one
pub record IsUnprepared (message : Framed) : Type 0 where
  pub no_prepare : nat_eq (slice_index_or message.payload 0 0) com_prepare ≡ false
  pub no_execute : nat_eq (slice_index_or message.payload 0 0) com_execute ≡ false

-- The plan sends it to this hostgroup, with this text in place of its own; and the form is that of what it asks for.
pub record IsDecided (g : Ground) (client : Client) (message : Framed) (hostgroup : Hostgroup) (text : Option (List ℕ))
    (multiplex : Option Bool) (form : Form) : Type 0 where
  pub unprepared : IsUnprepared message
  pub routed : route_of g client ≡ Some (text_route hostgroup text multiplex)
  pub unanswered : own_of g client ≡ None
  pub formed : (command : Command) → text_in message.payload text ≡ Some (Says command) → IsForm g.setup.reads form command

-- What a message is by its first byte; and its text, where maybe another stands in place of its own.

abbrev pub is_of : (byte : ℕ) → Framed → Bool
is_of byte message = nat_eq (slice_index_or message.payload 0 0) byte

abbrev pub is_query : Framed → Bool
is_query message = is_of com_query message

abbrev pub is_init_db : Framed → Bool
is_init_db message = is_of com_init_db message

abbrev pub is_field_list : Framed → Bool
is_field_list message = is_of com_field_list message

abbrev pub text_of : Framed → (text : Option (List ℕ)) → List ℕ
text_of message text = unwrap_or text (drop 1 message.payload)
