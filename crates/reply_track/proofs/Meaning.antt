-- Bytes that a tracker took to the end of a reply are one of the grammar.
use Rattle.std.proofs.Common.{◌≡◌, inl, inr, ◌≤◌, ◌<◌, ℕ, zero, suc, ◌+◌, Bool, true, false, cond, nat_eq, List, [], ◌∷◌, ◌++◌, length, refl, ◌∙◌, sym, ap, subst, arith, length-append, append_assoc, append-nil}
use Rattle.std.proofs.lemmas.List.Elements.{All-nil, All-cons}
use Rattle.mx_base.specs.Fields.{AreBytes}
use Rattle.packet_frame.specs.PacketLaws.{nat_eq-true, nat_eq-false}
use Rattle.reply_track.specs.declared.reply.ReplyEnd.{ReplyEnd}
use Rattle.reply_track.specs.declared.reply.ReplyKind.{ReplyKind}
use Rattle.reply_track.specs.declared.reply.ReplyKind.TheVariants.{Command, Prepare, Fields}
use Rattle.reply_track.specs.declared.due.Prepared.{Prepared}
use Rattle.reply_track.specs.declared.due.Behind.TheVariants.{Rows as RowsBehind, Columns as ColumnsBehind}
use Rattle.reply_track.specs.declared.due.Due.TheVariants.{Result as ResultDue, Answer, Listing, Definition, Field}
use Rattle.reply_track.specs.declared.due.Next.{Next}
use Rattle.reply_track.specs.declared.due.Next.TheVariants.{Goes, Ends}
use Rattle.reply_track.specs.declared.head.Eof.{Eof}
use Rattle.reply_track.specs.declared.head.Eof.TheVariants.{Fields as FieldsEof}
use Rattle.reply_track.specs.Payloads.{IsErr, IsCount, IsPlain, ok_end, err_end, rows_end}
use Rattle.reply_track.specs.Grammar.{ErrEnds, AreDefined, IsOne, IsResult, has_more, AreResults, AreFields, AreDefinedOrNone, IsReply}
use Rattle.reply_track.specs.Grammar.AreResults.{Last, Then}
use Rattle.packet_frame.specs.Packets.{spellings}
use Rattle.reply_track.specs.Steps.{first_due, after_eof, behind_end, prepared_end}
use Rattle.reply_track.specs.Runs.{run}
use Rattle.reply_track.specs.Runs.Ending.{Ended}
use Rattle.reply_track.proofs.Sentences.{after_more, more-same}
use Rattle.reply_track.proofs.Classed.Class.{ErrClass, EofClass, PlainClass, OkClass, CountClass, PreparedClass}
use Rattle.reply_track.specs.Tracking.{Sought, started}
use Rattle.reply_track.proofs.Spoken.{Spoken, Behind-next, spoken-of, defined_at, rows_at}

-- results
result_by : (result rest : List (List ℕ)) (middle end : ReplyEnd) (more : Bool) → has_more middle.flags ≡ more → IsResult result middle → Behind-next (cond more (Goes ResultDue) (Ends middle)) rest end → (Spoken rest ResultDue end → AreResults rest end) → AreResults (result ++ rest) end
result_by result rest middle end true has is after others = Then result rest middle refl is has (others after)
result_by result rest middle end false has is after others =
    let whole : result ≡ result ++ rest = sym (ap (λ ps. result ++ ps) after.0 ∙ append-nil result) in
    let last : AreResults result middle = Last is has in
    subst (λ ps. AreResults ps end) whole (subst (λ (e : ReplyEnd). AreResults result e) after.1 last)

set_by : (payload : List ℕ) (payloads : List (List ℕ)) (n : ℕ) (end : ReplyEnd) → IsCount payload n → Spoken payloads (Definition n RowsBehind) end → ((rest : List (List ℕ)) → length rest ≤ length payloads → Spoken rest ResultDue end → AreResults rest end) → AreResults (payload ∷ payloads) end
set_by payload payloads n end count said others =
    let defined = defined_at RowsBehind end payloads n count.some said in
    let rows = rows_at end defined.rest defined.after in
    let result : List (List ℕ) = payload ∷ (defined.defined ++ (rows.rows ++ rows.last ∷ [])) in
    let is : IsResult result rows.middle = inr (inr (record { count = payload; columns = n; definitions = defined.defined; rows = rows.rows; last = rows.last; is = refl; counts = count; defined = defined.are; plain = rows.plain; ends = rows.ends })) in
    let whole : result ++ rows.rest ≡ payload ∷ payloads = ap (λ ps. payload ∷ ps) (append_assoc defined.defined (rows.rows ++ rows.last ∷ []) rows.rest ∙ ap (λ ps. defined.defined ++ ps) (append_assoc rows.rows (rows.last ∷ []) rows.rest ∙ sym rows.is) ∙ sym defined.is) in
    let size : length payloads ≡ length defined.defined + length defined.rest = ap length defined.is ∙ length-append defined.defined defined.rest in
    let size_rows : length defined.rest ≡ length rows.rows + length (rows.last ∷ rows.rest) = ap length rows.is ∙ length-append rows.rows (rows.last ∷ rows.rest) in
    subst (λ ps. AreResults ps end) whole (result_by result rows.rest rows.middle end (has_more rows.middle.flags) refl is rows.after (others rows.rest (omega (arith, size, size_rows))))

results_of : (fuel : ℕ) (end : ReplyEnd) (payloads : List (List ℕ)) → length payloads < fuel → Spoken payloads ResultDue end → AreResults payloads end
results_of zero end payloads enough said = absurd (omega arith)
results_of (suc fuel) end [] enough said = absurd said
results_of (suc fuel) end (payload ∷ payloads) enough (next, ErrClass code may err is, after) =
    let one : IsResult (payload ∷ []) (err_end code) = inr (inl (record { only = payload; is = refl; ends = record { code = code; err = err; is = refl } })) in
    result_by (payload ∷ []) payloads (err_end code) end false refl one (subst (λ (n : Next). Behind-next n payloads end) is after) (results_of fuel end payloads (omega arith))
results_of (suc fuel) end (payload ∷ payloads) enough (next, EofClass eof flags warnings may ends is, after) = absurd (cc)
results_of (suc fuel) end (payload ∷ payloads) enough (next, PlainClass goes may plain is, after) = absurd (cc)
results_of (suc fuel) end (payload ∷ payloads) enough (next, OkClass flags warnings insert_id may ok is, after) =
    let middle : ReplyEnd = ok_end flags warnings insert_id in
    let one : IsResult (payload ∷ []) middle = inl (record { only = payload; is = refl; ends = record { flags = flags; warnings = warnings; insert_id = insert_id; ok = ok; is = refl } }) in
    let follows : next ≡ after_more middle = is ∙ more-same flags middle refl in
    result_by (payload ∷ []) payloads middle end (has_more middle.flags) refl one (subst (λ (n : Next). Behind-next n payloads end) follows after) (results_of fuel end payloads (omega arith))
results_of (suc fuel) end (payload ∷ payloads) enough (next, CountClass n may count is, after) =
    set_by payload payloads n end count (subst (λ (n : Next). Behind-next n payloads end) is after) (λ rest less. results_of fuel end rest (omega arith))
results_of (suc fuel) end (payload ∷ payloads) enough (next, PreparedClass number columns params warnings may prepared is, after) = absurd (cc)

-- field lists
fields_of : (end : ReplyEnd) (payloads : List (List ℕ)) → Spoken payloads Field end → AreFields payloads end
fields_of end [] said = absurd said
fields_of end (payload ∷ payloads) (next, ErrClass code may err is, after) = absurd (cc)
fields_of end (payload ∷ payloads) (next, EofClass eof flags warnings may ends is, after) =
    let same : eof ≡ FieldsEof = cc in
    let follows : next ≡ Ends (rows_end flags warnings) = is ∙ ap (λ (e : Eof). after_eof e flags warnings) same in
    let last : Behind-next (Ends (rows_end flags warnings)) payloads end = subst (λ (n : Next). Behind-next n payloads end) follows after in
    record { definitions = []; last = payload; is = ap (λ ps. payload ∷ ps) last.0; plain = All-nil IsPlain; ends = record { flags = flags; warnings = warnings; eof = ends; is = sym last.1 } }
fields_of end (payload ∷ payloads) (next, PlainClass goes may plain is, after) =
    let same : goes ≡ Field = cc in
    let said : Spoken payloads Field end = subst (λ (n : Next). Behind-next n payloads end) (is ∙ ap Goes same) after in
    let at = fields_of end payloads said in
    record { definitions = payload ∷ at.definitions; last = at.last; is = ap (λ ps. payload ∷ ps) at.is; plain = All-cons IsPlain payload at.definitions plain at.plain; ends = at.ends }
fields_of end (payload ∷ payloads) (next, OkClass flags warnings insert_id may ok is, after) = absurd (cc)
fields_of end (payload ∷ payloads) (next, CountClass k may count is, after) = absurd (cc)
fields_of end (payload ∷ payloads) (next, PreparedClass number columns params warnings may prepared is, after) = absurd (cc)

alone : (payload : List ℕ) (payloads : List (List ℕ)) (end : ReplyEnd) (code : ℕ) → IsErr payload code → Behind-next (Ends (err_end code)) payloads end → IsOne ErrEnds (payload ∷ payloads) end
alone payload payloads end code err after = record { only = payload; is = ap (λ ps. payload ∷ ps) after.0; ends = record { code = code; err = err; is = sym after.1 } }

list_of : (end : ReplyEnd) (payloads : List (List ℕ)) → Spoken payloads Listing end → IsReply Fields payloads end
list_of end [] said = absurd said
list_of end (payload ∷ payloads) (next, ErrClass code may err is, after) = inl (alone payload payloads end code err (subst (λ (n : Next). Behind-next n payloads end) is after))
list_of end (payload ∷ payloads) (next, EofClass eof flags warnings may ends is, after) = inr (fields_of end (payload ∷ payloads) (next, EofClass eof flags warnings may ends is, after))
list_of end (payload ∷ payloads) (next, PlainClass goes may plain is, after) = inr (fields_of end (payload ∷ payloads) (next, PlainClass goes may plain is, after))
list_of end (payload ∷ payloads) (next, OkClass flags warnings insert_id may ok is, after) = absurd (cc)
list_of end (payload ∷ payloads) (next, CountClass k may count is, after) = absurd (cc)
list_of end (payload ∷ payloads) (next, PreparedClass number columns params warnings may prepared is, after) = absurd (cc)

-- answers to a prepare
record ColumnsAt (columns : ℕ) (prepared : Prepared) (payloads : List (List ℕ)) (end : ReplyEnd) : Type 0 where
  pub are : AreDefinedOrNone columns payloads
  pub ends : end ≡ prepared_end prepared

columns_by : (columns : ℕ) (prepared : Prepared) (payloads : List (List ℕ)) (end : ReplyEnd) (none : Bool) → nat_eq columns 0 ≡ none → Behind-next (cond none (Ends (prepared_end prepared)) (Goes (Definition columns (ColumnsBehind 0 prepared)))) payloads end → ColumnsAt columns prepared payloads end
columns_by columns prepared payloads end true none after = record { are = inl (nat_eq-true columns 0 none, after.0); ends = sym after.1 }
columns_by columns prepared payloads end false none after =
    let some : 0 < columns = omega (arith, nat_eq-false columns 0 none) in
    let at = defined_at (ColumnsBehind 0 prepared) end payloads columns some after in
    let last : Behind-next (Ends (prepared_end prepared)) at.rest end = at.after in
    let whole : at.defined ≡ payloads = sym (at.is ∙ ap (λ ps. at.defined ++ ps) last.0 ∙ append-nil at.defined) in
    record { are = inr (some, subst (AreDefined columns) whole at.are); ends = sym last.1 }

record ShapeAt (columns : ℕ) (prepared : Prepared) (payloads : List (List ℕ)) (end : ReplyEnd) : Type 0 where
  pub of_params : List (List ℕ)
  pub of_columns : List (List ℕ)
  pub is : payloads ≡ of_params ++ of_columns
  pub params : AreDefinedOrNone prepared.params of_params
  pub columns_at : ColumnsAt columns prepared of_columns end

shape_by : (columns : ℕ) (prepared : Prepared) (payloads : List (List ℕ)) (end : ReplyEnd) (none : Bool) → nat_eq prepared.params 0 ≡ none → Behind-next (cond none (behind_end (ColumnsBehind columns prepared)) (Goes (Definition prepared.params (ColumnsBehind columns prepared)))) payloads end → ShapeAt columns prepared payloads end
shape_by columns prepared payloads end true none after = record { of_params = []; of_columns = payloads; is = refl; params = inl (nat_eq-true prepared.params 0 none, refl); columns_at = columns_by columns prepared payloads end (nat_eq columns 0) refl after }
shape_by columns prepared payloads end false none after =
    let some : 0 < prepared.params = omega (arith, nat_eq-false prepared.params 0 none) in
    let at = defined_at (ColumnsBehind columns prepared) end payloads prepared.params some after in
    record { of_params = at.defined; of_columns = at.rest; is = at.is; params = inr (some, at.are); columns_at = columns_by columns prepared at.rest end (nat_eq columns 0) refl at.after }

prepare_of : (end : ReplyEnd) (payloads : List (List ℕ)) → Spoken payloads Answer end → IsReply Prepare payloads end
prepare_of end [] said = absurd said
prepare_of end (payload ∷ payloads) (next, ErrClass code may err is, after) = inl (alone payload payloads end code err (subst (λ (n : Next). Behind-next n payloads end) is after))
prepare_of end (payload ∷ payloads) (next, EofClass eof flags warnings may ends is, after) = absurd (cc)
prepare_of end (payload ∷ payloads) (next, PlainClass goes may plain is, after) = absurd (cc)
prepare_of end (payload ∷ payloads) (next, OkClass flags warnings insert_id may ok is, after) = absurd (cc)
prepare_of end (payload ∷ payloads) (next, CountClass k may count is, after) = absurd (cc)
prepare_of end (payload ∷ payloads) (next, PreparedClass number columns params warnings may is_prepared is, after) =
    let prepared : Prepared = record { number = number; params = params; warnings = warnings } in
    let at = shape_by columns prepared payloads end (nat_eq params 0) refl (subst (λ (n : Next). Behind-next n payloads end) is after) in
    inr (record {
      first = payload;
      number = number;
      columns = columns;
      params = params;
      warnings = warnings;
      param_definitions = at.of_params;
      column_definitions = at.of_columns;
      is = ap (λ ps. payload ∷ ps) at.is;
      prepared = is_prepared;
      of_params = at.params;
      of_columns = at.columns_at.are;
      ends = at.columns_at.ends;
    })

reply_of : (kind : ReplyKind) (payloads : List (List ℕ)) (end : ReplyEnd) → Spoken payloads (first_due kind) end → IsReply kind payloads end
reply_of Command payloads end said = results_of (suc (length payloads)) end payloads (omega arith) said
reply_of Prepare payloads end said = prepare_of end payloads said
reply_of Fields payloads end said = list_of end payloads said

pub record Found (sought : Sought) (bytes : List ℕ) (end : ReplyEnd) (rest : List ℕ) : Type 0 where
  pub payloads : List (List ℕ)
  pub reply : IsReply sought.kind payloads end
  pub is : bytes ≡ spellings sought.server payloads ++ rest

pub reply-found : (sought : Sought) (bytes : List ℕ) (end : ReplyEnd) (rest : List ℕ) → AreBytes bytes → run (started sought) bytes ≡ Ended end rest → Found sought bytes end rest
reply-found sought bytes end rest are is =
    let at = spoken-of (suc (length bytes)) sought.server sought.client sought.number (first_due sought.kind) bytes end rest (omega arith) are is in
    record { payloads = at.payloads; reply = reply_of sought.kind at.payloads end at.spoken; is = at.is }
