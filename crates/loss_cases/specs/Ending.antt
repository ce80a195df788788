-- Logs on which a link is lost, and with it what a client's session had: the client ends; and one on which a client is lost.
use Rattle.std.specs.Prelude.{ℕ, List, ◌∷◌, ◌++◌, nat_eq, if◌then◌else◌, Option, Some, None, []}
use Rattle.mx_base.specs.declared.names.ClientNo.{ClientNo}
use Rattle.mx_base.specs.declared.tag.Tag.TheVariants.{End as EndTag}
use Rattle.mx_wire.specs.Log.{Log}
use Rattle.mx_wire.specs.declared.entry.Entry.TheVariants.{Closed, Ended, Wrote}
use Rattle.packet_frame.specs.Packets.{spelling, spellings}
use Rattle.private_model.specs.Commands.{Reset}
use Rattle.server_rule.specs.Texts.{read_id_text}
use Rattle.log_story.specs.Plan.{text_payload}
use Rattle.router_promises.specs.Terms.{Terms}
use Rattle.router_cases.specs.Ended.{asks as begins_there, begin, begun_ok}
use Rattle.router_cases.specs.Pieces.{goes, plan_of, runs, starts_with, terms_of}
use Rattle.router_cases.specs.Worked.{client, group, insert, link, ok_with, query, router}

abbrev pub ends_at : (entry : ℕ) → ClientNo → Option ℕ
ends_at entry c = if nat_eq c.0 1 then Some entry else None

abbrev pub terms_with : (text : List ℕ) → (entry : ℕ) → Terms
terms_with text entry = terms_of router (plan_of router (λ m. goes text) [] (ends_at entry))

-- Its insert id is asked for.

abbrev pub in_capture : Terms
in_capture = terms_with insert 17

abbrev pub capture_log : Log
capture_log =
    starts_with query ++ runs 3 1 1 1 query (spellings 1 (ok_with 1))
    ++ (Wrote (link 3) (EndTag (client 1) group) (spelling 0 (3 ∷ read_id_text)) ∷ Ended (link 3)
    ∷ Closed (link 3)
    ∷ Closed (link 1) ∷ [])

-- It is in a transaction, between two statements.

abbrev pub in_transaction : Terms
in_transaction = terms_with begin 16

abbrev pub transaction_log : Log
transaction_log =
    starts_with begins_there ++ runs 3 1 1 1 begins_there begun_ok
    ++ (Ended (link 3) ∷ Closed (link 3) ∷ Closed (link 1) ∷ [])

-- The client is lost in a transaction, and the link in the reset behind that: nobody is told.

abbrev pub in_reset : Terms
in_reset = terms_with begin 16

abbrev pub reset_log : Log
reset_log =
    starts_with begins_there ++ runs 3 1 1 1 begins_there begun_ok ++ (Ended (link 1) ∷ Closed (link 1)
    ∷ Wrote (link 3) (EndTag (client 1) group) (spelling 0 (text_payload Reset)) ∷ Ended (link 3)
    ∷ Closed (link 3) ∷ [])
