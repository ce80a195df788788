-- A tracker goes over each reply of the grammar to its end.
use Rattle.std.proofs.Common.{◌≡◌, ◌⊎◌, inl, inr, ◌<◌, ℕ, ◌+◌, ◌-◌, ◌/◌, ◌%◌, Bool, true, false, cond, not, nat_le, nat_eq, bit_and, Option, Some, List, [], ◌∷◌, ◌++◌, length, All, refl, ◌∙◌, sym, ap, subst, arith, append_assoc, append-nil}
use Rattle.std.proofs.lemmas.Bool.{lt-leb}
use Rattle.std.proofs.lemmas.List.Elements.{All-head, All-tail}
use Rattle.packet_frame.specs.Packets.{spelling, id_behind, longest}
use Rattle.reply_track.specs.declared.reply.ReplyEnd.{ReplyEnd}
use Rattle.reply_track.specs.declared.reply.ReplyKind.{ReplyKind}
use Rattle.reply_track.specs.declared.reply.ReplyKind.TheVariants.{Command, Prepare, Fields}
use Rattle.reply_track.specs.declared.due.Prepared.{Prepared}
use Rattle.reply_track.specs.declared.due.Behind.{Behind}
use Rattle.reply_track.specs.declared.due.Behind.TheVariants.{Rows as RowsBehind, Columns as ColumnsBehind}
use Rattle.reply_track.specs.declared.due.Due.{Due}
use Rattle.reply_track.specs.declared.due.Due.TheVariants.{Result as ResultDue, Answer, Listing, Definition, End, Row, Field}
use Rattle.reply_track.specs.declared.due.Next.{Next}
use Rattle.reply_track.specs.declared.due.Next.TheVariants.{Goes, Ends}
use Rattle.reply_track.specs.declared.head.Eof.TheVariants.{Definitions as DefinitionsEof, Rows as RowsEof, Fields as FieldsEof}
use Rattle.reply_track.specs.declared.body.Body.TheVariants.{Due as DueBody}
use Rattle.reply_track.specs.declared.place.Place.TheVariants.{First}
use Rattle.reply_track.specs.declared.place.Outcome.TheVariants.{Over}
use Rattle.reply_track.specs.Payloads.{IsEof, IsPlain, named, ok_end, err_end, rows_end}
use Rattle.reply_track.specs.Grammar.{ErrEnds, EofEnds, AreDefined, IsSet, IsOne, IsResult, has_more, AreResults, AreDefinedOrNone, IsPreparation, IsReply, renamed}
use Rattle.reply_track.specs.Grammar.AreResults.{Last, Then}
use Rattle.packet_frame.specs.Packets.{spellings}
use Rattle.reply_track.specs.Steps.{first_due, takes_err, eof_of, after_plain, after_result, after_prepared, behind_end, prepared_end}
use Rattle.reply_track.proofs.Crossing.{mk, Crosses, join}
use Rattle.reply_track.proofs.Messages.{Reads, message-crosses}
use Rattle.reply_track.proofs.Classes.{is_not, err-reads, eof-reads}
use Rattle.reply_track.proofs.Heads.{plain-reads}
use Rattle.reply_track.proofs.Beginnings.{count-reads, ok-reads, prepared-reads}

-- payloads end a reply where one of them is due
pub record Sent (due : Due) (number : ℕ) (payloads handed : List (List ℕ)) (end : ReplyEnd) : Type 0 where
  pub over : (server client : ℕ) → Crosses (mk server client number First (DueBody due)) (spellings server payloads) (spellings client handed) (Over end)

pub record IsEmpty (payloads handed : List (List ℕ)) (end last : ReplyEnd) : Type 0 where
  pub none : payloads ≡ []
  pub none_handed : handed ≡ []
  pub same : last ≡ end

abbrev pub Follows : Next → (number : ℕ) → (payloads handed : List (List ℕ)) → ReplyEnd → Type 0
Follows (Goes due) number payloads handed end = Sent due number payloads handed end
Follows (Ends last) number payloads handed end = IsEmpty payloads handed end last

pub sent : (due : Due) (number : ℕ) (payload made : List ℕ) (next : Next) (payloads handed : List (List ℕ)) (end : ReplyEnd) → Reads due number payload made next → Follows next number payloads handed end → Sent due number (payload ∷ payloads) (made ∷ handed) end
sent due number payload made (Goes goes) payloads handed end reads follows = record {
  over = λ server client.
      let same : id_behind client payload ≡ id_behind client made = ap (λ n. (client + n / longest + 1) % 256) reads.same in
      let one = message-crosses server client number due payload made (Goes goes) reads in
      let others : Crosses (mk (id_behind server payload) (id_behind client payload) number First (DueBody goes)) (spellings (id_behind server payload) payloads) (spellings (id_behind client made) handed) (Over end) =
      subst (λ id. Crosses (mk (id_behind server payload) id number First (DueBody goes)) (spellings (id_behind server payload) payloads) (spellings (id_behind client made) handed) (Over end)) (sym same) (follows.over (id_behind server payload) (id_behind client made)) in
      join (mk server client number First (DueBody due)) (mk (id_behind server payload) (id_behind client payload) number First (DueBody goes)) (spelling server payload) (spelling client made) (spellings (id_behind server payload) payloads) (spellings (id_behind client made) handed) (Over end) one others;
}
sent due number payload made (Ends last) payloads handed end reads follows =
    rw (follows.none, follows.none_handed, ← follows.same) (record {
      over = λ server client. rw (append-nil (spelling server payload), append-nil (spelling client made)) (message-crosses server client number due payload made (Ends last) reads);
    })

-- definitions and their EOF
definitions_sent : (behind : Behind) (number : ℕ) (rest handed : List (List ℕ)) (end : ReplyEnd) (definitions : List (List ℕ)) (definition : List ℕ) → All IsPlain (definition ∷ definitions) → Sent (End behind) number rest handed end
    → Sent (Definition (length (definition ∷ definitions)) behind) number ((definition ∷ definitions) ++ rest) ((definition ∷ definitions) ++ handed) end
definitions_sent behind number rest handed end [] definition plain others = sent (Definition 1 behind) number definition definition (Goes (End behind)) rest handed end (plain-reads (Definition 1 behind) (End behind) number definition refl (All-head IsPlain definition [] plain)) others
definitions_sent behind number rest handed end (another ∷ definitions) definition plain others =
    let n : ℕ = length (definition ∷ another ∷ definitions) in
    let several : nat_le n 1 ≡ false = lt-leb n 1 (omega arith) in
    let less : n - 1 ≡ length (another ∷ definitions) = omega arith in
    let next : after_plain (Definition n behind) ≡ Some (Definition (length (another ∷ definitions)) behind) = rw several (rw less refl) in
    sent (Definition n behind) number definition definition (Goes (Definition (length (another ∷ definitions)) behind)) ((another ∷ definitions) ++ rest) ((another ∷ definitions) ++ handed) end (plain-reads (Definition n behind) (Definition (length (another ∷ definitions)) behind) number definition next (All-head IsPlain definition (another ∷ definitions) plain))
    (definitions_sent behind number rest handed end definitions another (All-tail IsPlain definition (another ∷ definitions) plain) others)

defined_of : (behind : Behind) (number n flags warnings : ℕ) (eof : List ℕ) (rest handed : List (List ℕ)) (end : ReplyEnd) (definitions : List (List ℕ)) → length definitions ≡ n → 0 < n → All IsPlain definitions → IsEof eof flags warnings → Follows (behind_end behind) number rest handed end
    → Sent (Definition n behind) number (definitions ++ (eof ∷ rest)) (definitions ++ (eof ∷ handed)) end
defined_of behind number n flags warnings eof rest handed end [] is some plain ends follows = absurd (omega arith)
defined_of behind number n flags warnings eof rest handed end (definition ∷ definitions) is some plain ends follows =
    let last : Sent (End behind) number (eof ∷ rest) (eof ∷ handed) end = sent (End behind) number eof eof (behind_end behind) rest handed end (eof-reads (End behind) (DefinitionsEof behind) number eof flags warnings refl ends) follows in
    subst (λ k. Sent (Definition k behind) number ((definition ∷ definitions) ++ (eof ∷ rest)) ((definition ∷ definitions) ++ (eof ∷ handed)) end) is (definitions_sent behind number (eof ∷ rest) (eof ∷ handed) end definitions definition plain last)

pub defined-sent : (behind : Behind) (number n : ℕ) (payloads rest handed : List (List ℕ)) (end : ReplyEnd) → 0 < n → AreDefined n payloads → Follows (behind_end behind) number rest handed end → Sent (Definition n behind) number (payloads ++ rest) (payloads ++ handed) end
defined-sent behind number n payloads rest handed end some defined follows =
    let whole = defined_of behind number n defined.flags defined.warnings defined.eof rest handed end defined.definitions defined.count some defined.plain defined.ends follows in
    rw (defined.is, append_assoc defined.definitions (defined.eof ∷ []) rest, append_assoc defined.definitions (defined.eof ∷ []) handed) whole

-- results
abbrev pub after_more : ReplyEnd → Next
after_more end = cond (has_more end.flags) (Goes ResultDue) (Ends end)

pub more-same : (flags : ℕ) (end : ReplyEnd) → end.flags ≡ Some flags → after_result flags end ≡ after_more end
more-same flags end is = of (nat_eq (bit_and flags 8) 0) ∙ ap (λ (o : Option ℕ). cond (has_more o) (Goes ResultDue) (Ends end)) (sym is) where
  of : (none : Bool) → cond none (Ends end) (Goes ResultDue) ≡ cond (not none) (Goes ResultDue) (Ends end)
  of true = refl
  of false = refl

rows_sent : (number : ℕ) (rest : List (List ℕ)) (end : ReplyEnd) (rows : List (List ℕ)) → All IsPlain rows → Sent Row number rest rest end → Sent Row number (rows ++ rest) (rows ++ rest) end
rows_sent number rest end [] plain others = others
rows_sent number rest end (row ∷ rows) plain others = sent Row number row row (Goes Row) (rows ++ rest) (rows ++ rest) end (plain-reads Row Row number row refl (All-head IsPlain row rows plain)) (rows_sent number rest end rows (All-tail IsPlain row rows plain) others)

last_sent : (number : ℕ) (last : List ℕ) (middle end : ReplyEnd) (rest : List (List ℕ)) → EofEnds last middle ⊎ ErrEnds last middle → Follows (after_more middle) number rest rest end → Sent Row number (last ∷ rest) (last ∷ rest) end
last_sent number last middle end rest (inl eof) follows =
    let is : after_result eof.flags (rows_end eof.flags eof.warnings) ≡ after_more middle = more-same eof.flags (rows_end eof.flags eof.warnings) refl ∙ ap after_more (sym eof.is) in
    sent Row number last last (after_result eof.flags (rows_end eof.flags eof.warnings)) rest rest end (eof-reads Row RowsEof number last eof.flags eof.warnings refl eof.eof) (subst (λ (n : Next). Follows n number rest rest end) (sym is) follows)
last_sent number last middle end rest (inr err) follows =
    let is : Ends (err_end err.code) ≡ after_more middle = ap after_more (sym err.is) in
    sent Row number last last (Ends (err_end err.code)) rest rest end (err-reads Row number last err.code refl err.err) (subst (λ (n : Next). Follows n number rest rest end) (sym is) follows)

set_sent : (number : ℕ) (result : List (List ℕ)) (middle end : ReplyEnd) (rest : List (List ℕ)) → IsSet result middle → Follows (after_more middle) number rest rest end → Sent ResultDue number (result ++ rest) (result ++ rest) end
set_sent number result middle end rest set follows =
    let tail : List (List ℕ) = set.rows ++ (set.last ∷ rest) in
    let rows = rows_sent number (set.last ∷ rest) end set.rows set.plain (last_sent number set.last middle end rest set.ends follows) in
    let defined = defined-sent RowsBehind number set.columns set.definitions tail tail end set.counts.some set.defined rows in
    let whole = sent ResultDue number set.count set.count (Goes (Definition set.columns RowsBehind)) (set.definitions ++ tail) (set.definitions ++ tail) end (count-reads number set.count set.columns set.counts) defined in
    let joined : result ++ rest ≡ set.count ∷ (set.definitions ++ tail) = ap (λ ps. ps ++ rest) set.is ∙ ap (λ ps. set.count ∷ ps) (append_assoc set.definitions (set.rows ++ set.last ∷ []) rest ∙ ap (λ ps. set.definitions ++ ps) (append_assoc set.rows (set.last ∷ []) rest)) in
    rw joined whole

pub result-sent : (number : ℕ) (result : List (List ℕ)) (middle end : ReplyEnd) (rest : List (List ℕ)) → IsResult result middle → Follows (after_more middle) number rest rest end → Sent ResultDue number (result ++ rest) (result ++ rest) end
result-sent number result middle end rest (inl ok) follows =
    let o = ok.ends in
    let is : after_result o.flags (ok_end o.flags o.warnings o.insert_id) ≡ after_more middle = more-same o.flags (ok_end o.flags o.warnings o.insert_id) refl ∙ ap after_more (sym o.is) in
    rw ok.is (sent ResultDue number ok.only ok.only (after_result o.flags (ok_end o.flags o.warnings o.insert_id)) rest rest end (ok-reads number ok.only o.flags o.warnings o.insert_id o.ok) (subst (λ (n : Next). Follows n number rest rest end) (sym is) follows))
result-sent number result middle end rest (inr (inl err)) follows =
    let is : Ends (err_end err.ends.code) ≡ after_more middle = ap after_more (sym err.ends.is) in
    rw err.is (sent ResultDue number err.only err.only (Ends (err_end err.ends.code)) rest rest end (err-reads ResultDue number err.only err.ends.code refl err.ends.err) (subst (λ (n : Next). Follows n number rest rest end) (sym is) follows))
result-sent number result middle end rest (inr (inr set)) follows = set_sent number result middle end rest set follows

pub results-sent : (number : ℕ) {payloads : List (List ℕ)} {end : ReplyEnd} → AreResults payloads end → Sent ResultDue number payloads payloads end
results-sent number (Last {payloads = payloads} {end = end} result last) =
    let follows : Follows (after_more end) number [] [] end = rw last (record { none = refl; none_handed = refl; same = refl }) in
    subst (λ ps. Sent ResultDue number ps ps end) (append-nil payloads) (result-sent number payloads end end [] result follows)
results-sent number (Then {payloads = payloads} {end = end} result others middle is one more rest) =
    let follows : Follows (after_more middle) number others others end = rw more (results-sent number rest) in
    rw is (result-sent number result middle end others one follows)

-- field lists
fields_sent : (number : ℕ) (last : List ℕ) (end : ReplyEnd) (definitions : List (List ℕ)) (due : Due) → after_plain due ≡ Some Field → eof_of due ≡ Some FieldsEof → All IsPlain definitions → EofEnds last end → Sent due number (definitions ++ last ∷ []) (definitions ++ last ∷ []) end
fields_sent number last end [] due goes may plain ends =
    sent due number last last (Ends (rows_end ends.flags ends.warnings)) [] [] end (eof-reads due FieldsEof number last ends.flags ends.warnings may ends.eof) (record { none = refl; none_handed = refl; same = sym ends.is })
fields_sent number last end (definition ∷ definitions) due goes may plain ends =
    sent due number definition definition (Goes Field) (definitions ++ last ∷ []) (definitions ++ last ∷ []) end (plain-reads due Field number definition goes (All-head IsPlain definition definitions plain)) (fields_sent number last end definitions Field refl refl (All-tail IsPlain definition definitions plain) ends)

alone_sent : (due : Due) (number : ℕ) (payloads : List (List ℕ)) (end : ReplyEnd) → takes_err due ≡ true → IsOne ErrEnds payloads end → Sent due number payloads payloads end
alone_sent due number payloads end may err =
    rw err.is (sent due number err.only err.only (Ends (err_end err.ends.code)) [] [] end (err-reads due number err.only err.ends.code may err.ends.err) (record { none = refl; none_handed = refl; same = sym err.ends.is }))

-- answers to a prepare
columns_follow : (number columns : ℕ) (prepared : Prepared) (payloads : List (List ℕ)) → AreDefinedOrNone columns payloads → Follows (behind_end (ColumnsBehind columns prepared)) number payloads payloads (prepared_end prepared)
columns_follow number columns prepared payloads (inl none) = rw none.0 (record { none = none.1; none_handed = none.1; same = refl })
columns_follow number columns prepared payloads (inr defined) =
    let some : nat_eq columns 0 ≡ false = is_not columns 0 (λ e. omega arith) in
    let whole = defined-sent (ColumnsBehind 0 prepared) number columns payloads [] [] (prepared_end prepared) defined.0 defined.1 (record { none = refl; none_handed = refl; same = refl }) in
    rw some (rw (append-nil payloads) at whole)

params_follow : (number columns : ℕ) (prepared : Prepared) (payloads others : List (List ℕ)) → AreDefinedOrNone prepared.params payloads → AreDefinedOrNone columns others → Follows (after_prepared columns prepared) number (payloads ++ others) (payloads ++ others) (prepared_end prepared)
params_follow number columns prepared payloads others (inl none) of_columns =
    let zero_params : nat_eq prepared.params 0 ≡ true = rw none.0 refl in
    rw (zero_params, none.1) (columns_follow number columns prepared others of_columns)
params_follow number columns prepared payloads others (inr defined) of_columns =
    let some : nat_eq prepared.params 0 ≡ false = is_not prepared.params 0 (λ e. omega (arith, defined.0)) in
    rw some (defined-sent (ColumnsBehind columns prepared) number prepared.params payloads others others (prepared_end prepared) defined.0 defined.1 (columns_follow number columns prepared others of_columns))

preparation_sent : (client_number : ℕ) (payloads : List (List ℕ)) (end : ReplyEnd) → IsPreparation payloads end → Sent Answer client_number payloads (renamed Prepare client_number payloads) end
preparation_sent client_number payloads end is =
    let prepared : Prepared = record { number = is.number; params = is.params; warnings = is.warnings } in
    let rest : List (List ℕ) = is.param_definitions ++ is.column_definitions in
    rw (is.is, is.ends) (sent Answer client_number is.first (named client_number is.first) (after_prepared is.columns prepared) rest rest (prepared_end prepared) (prepared-reads client_number is.first is.number is.columns is.params is.warnings is.prepared)
    (params_follow client_number is.columns prepared is.param_definitions is.column_definitions is.of_params is.of_columns))

err_named : (number : ℕ) (payload : List ℕ) (end : ReplyEnd) → ErrEnds payload end → named number payload ≡ payload
err_named number payload end ends = rw ends.err.is refl

pub reply-sent : (kind : ReplyKind) (number : ℕ) (payloads : List (List ℕ)) (end : ReplyEnd) → IsReply kind payloads end → Sent (first_due kind) number payloads (renamed kind number payloads) end
reply-sent Command number payloads end reply = results-sent number reply
reply-sent Fields number payloads end (inl err) = alone_sent Listing number payloads end refl err
reply-sent Fields number payloads end (inr fields) = rw fields.is (fields_sent number fields.last end fields.definitions Listing refl refl fields.plain fields.ends)
reply-sent Prepare number payloads end (inl err) =
    let same : renamed Prepare number payloads ≡ payloads = rw err.is (ap (λ p. p ∷ []) (err_named number err.only end err.ends)) in
    rw same (alone_sent Answer number payloads end refl err)
reply-sent Prepare number payloads end (inr preparation) = preparation_sent number payloads end preparation
