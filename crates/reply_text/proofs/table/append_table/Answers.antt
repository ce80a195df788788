use Rattle.std.proofs.Common.{◌≡◌, ◌++◌, ◌∙◌, ap, length, map, subst, List, ℕ, Vec, Global, Option, OnOk, IfOk}
use Rattle.packet_frame.specs.Packets.{spelling, id_behind, spellings, ids_behind}
use Rattle.reply_text.specs.Replies.{eof_payload}
use Rattle.reply_text.specs.Tables.{count_payload, definition_payload, row_payload, table_payloads}
use Rattle.reply_text.proofs.Written.{TableEnds, table-ends}
use Rattle.reply_text.proofs.table.append_table.Goals as goal

pub returns-clause-bytes : goal.returns-clause-bytes
returns-clause-bytes c =
    let count : c.deref.result.now ≡ count_payload (length c.args.table.now.columns.items) = c.deref.ensures.value ∙ c.in_ok-count.ensures ∙ ap count_payload (ap length c.as_slice-columns.ensures.value) in
    let ends = table-ends c.args.first c.args.out.now.items c.write_message.new.out.items c.append_definitions.new.out.items c.write_eof.new.out.items c.append_rows.new.out.items (count_payload (length c.args.table.now.columns.items)) (eof_payload c.args.status)
    (map definition_payload c.args.table.now.columns.items) (map (λ (row : Vec (Option (List ℕ)) Global). row_payload row.items) c.args.table.now.rows.items) c.in_ok-id.id c.in_ok-id-2.id c.in_ok-id-3.id c.in_ok-id-4.id
    (c.in_ok-id.ensures.bytes ∙ ap (λ bs. c.args.out.now.items ++ spelling c.args.first bs) count) (c.in_ok-id.ensures.behind ∙ ap (id_behind c.args.first) count)
    (c.in_ok-id-2.ensures.bytes ∙ ap (λ xs. c.write_message.new.out.items ++ spellings c.in_ok-id.id (map definition_payload xs)) c.as_slice-columns.ensures.value) (c.in_ok-id-2.ensures.behind ∙ ap (λ xs. ids_behind c.in_ok-id.id (map definition_payload xs)) c.as_slice-columns.ensures.value)
    c.in_ok-id-3.ensures.bytes c.in_ok-id-3.ensures.behind
    (c.in_ok-id-4.ensures.bytes ∙ ap (λ xs. c.write_eof.new.out.items ++ spellings c.in_ok-id-3.id (map (λ (row : Vec (Option (List ℕ)) Global). row_payload row.items) xs)) c.deref-2.ensures.value) (c.in_ok-id-4.ensures.behind ∙ ap (λ xs. ids_behind c.in_ok-id-3.id (map (λ (row : Vec (Option (List ℕ)) Global). row_payload row.items) xs)) c.deref-2.ensures.value) in
    subst (λ bs. OnOk c.write_eof-2.result (c.write_eof-2.new.out.items ≡ bs)) ends.bytes c.write_eof-2.ensures.bytes

pub returns-clause-behind : goal.returns-clause-behind
returns-clause-behind c =
    let count : c.deref.result.now ≡ count_payload (length c.args.table.now.columns.items) = c.deref.ensures.value ∙ c.in_ok-count.ensures ∙ ap count_payload (ap length c.as_slice-columns.ensures.value) in
    let ends = table-ends c.args.first c.args.out.now.items c.write_message.new.out.items c.append_definitions.new.out.items c.write_eof.new.out.items c.append_rows.new.out.items (count_payload (length c.args.table.now.columns.items)) (eof_payload c.args.status)
    (map definition_payload c.args.table.now.columns.items) (map (λ (row : Vec (Option (List ℕ)) Global). row_payload row.items) c.args.table.now.rows.items) c.in_ok-id.id c.in_ok-id-2.id c.in_ok-id-3.id c.in_ok-id-4.id
    (c.in_ok-id.ensures.bytes ∙ ap (λ bs. c.args.out.now.items ++ spelling c.args.first bs) count) (c.in_ok-id.ensures.behind ∙ ap (id_behind c.args.first) count)
    (c.in_ok-id-2.ensures.bytes ∙ ap (λ xs. c.write_message.new.out.items ++ spellings c.in_ok-id.id (map definition_payload xs)) c.as_slice-columns.ensures.value) (c.in_ok-id-2.ensures.behind ∙ ap (λ xs. ids_behind c.in_ok-id.id (map definition_payload xs)) c.as_slice-columns.ensures.value)
    c.in_ok-id-3.ensures.bytes c.in_ok-id-3.ensures.behind
    (c.in_ok-id-4.ensures.bytes ∙ ap (λ xs. c.write_eof.new.out.items ++ spellings c.in_ok-id-3.id (map (λ (row : Vec (Option (List ℕ)) Global). row_payload row.items) xs)) c.deref-2.ensures.value) (c.in_ok-id-4.ensures.behind ∙ ap (λ xs. ids_behind c.in_ok-id-3.id (map (λ (row : Vec (Option (List ℕ)) Global). row_payload row.items) xs)) c.deref-2.ensures.value) in
    subst (λ n. IfOk c.write_eof-2.result (λ id. id ≡ n)) ends.ids c.write_eof-2.ensures.behind
