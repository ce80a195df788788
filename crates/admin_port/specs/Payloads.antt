-- The payloads of an answer (client/server protocol, "OK_Packet", "ERR_Packet", "Text Resultset").
use Rattle.std.specs.Prelude.{◌≡◌, ℕ, List, [], ◌∷◌, ◌++◌, codes, map, Result, Ok, Err}
use Rattle.mx_base.specs.declared.memory.OutOfMemory.{OutOfMemory}
use Rattle.packet_frame.specs.Packets.{ids_behind, spellings}
use Rattle.reply_text.specs.Replies.{err_payload, ok_payload}
use Rattle.reply_text.specs.Tables.{row_payload, table_payloads}
use Rattle.admin_port.specs.Answers.{Reply, code_of, text_of}
use Rattle.admin_port.specs.Answers.Reply.{Done, Rows, Refused, Loads, ShutsDown}
use Rattle.admin_port.specs.Sheets.{Sheet}
use Rattle.admin_port.specs.declared.answer.Refusal.{Refusal}

-- AUTOCOMMIT: an administrator is in no transaction
abbrev pub status : ℕ
status = 2

abbrev pub done_payloads : List (List ℕ)
done_payloads = ok_payload status [] ∷ []

abbrev pub sheet_payloads : Sheet → List (List ℕ)
sheet_payloads s = table_payloads status s.columns (map row_payload s.rows)

abbrev pub refusal_payloads : Refusal → List (List ℕ)
refusal_payloads refusal = err_payload (code_of refusal) (codes "HY000") (text_of refusal) ∷ []

abbrev pub reply_payloads : Reply → List (List ℕ)
reply_payloads Done = done_payloads
reply_payloads (Rows s) = sheet_payloads s
reply_payloads (Refused refusal) = refusal_payloads refusal
reply_payloads (Loads table) = done_payloads
reply_payloads ShutsDown = done_payloads

-- the payloads are written as packets behind what there was, and the id is the one behind them; where memory is refused, there is what there was
abbrev pub Writes : Result ℕ OutOfMemory → (old new : List ℕ) → (first : ℕ) → (payloads : List (List ℕ)) → Type 0
Writes (Ok id) old new first payloads = (new ≡ old ++ spellings first payloads) × (id ≡ ids_behind first payloads)
Writes (Err refused) old new first payloads = new ≡ old
