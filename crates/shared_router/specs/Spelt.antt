-- The one way in which the router spells a command: an execute with each parameter's long data in one piece before it, and its types always
-- (client/server protocol, "COM_STMT_SEND_LONG_DATA", "COM_STMT_EXECUTE").
use Rattle.std.specs.Prelude.{◌≡◌, ℕ, true, List, Option}
use Rattle.mx_wire.specs.Log.{Log}
use Rattle.packet_frame.specs.Packets.{spelling}
use Rattle.private_model.specs.Commands.{Command, Run}
use Rattle.private_model.specs.Names.{LinkId}
use Rattle.private_model.specs.Story.{Question, command_of}
use Rattle.private_model.specs.View.{Link, Setup}
use Rattle.log_story.specs.Honest.{number_for}
use Rattle.log_story.specs.Plan.{text_payload}
use Rattle.log_story.specs.Tale.{Tale, is_to_server, link_in}
use Rattle.run_laws.specs.Reads.{ReadsAsked, execute_spelt}
use Rattle.router_promises.specs.Terms.{Terms, setup_in, tale_at}

abbrev pub spelt : Command → (number : Option ℕ) → List ℕ
spelt (Run text schema settings args) number = execute_spelt number args
spelt command number = spelling 0 (text_payload command)

abbrev pub question_spelt : Question → Link → List ℕ
question_spelt question link = spelt (command_of question) (number_for question link.live)

-- each that stands on a link to a server
abbrev pub RunsRead : Setup → Tale → Type 0
RunsRead setup tale = (link : LinkId) → is_to_server tale link ≡ true → ReadsAsked (link_in setup tale link).stage (link_in setup tale link).live

abbrev pub RunsReadSo : Terms → Log → Type 0
RunsReadSo terms log = RunsRead (setup_in terms) (tale_at terms log)
