-- From each state that a tracker comes to, a reply can go on to its end.
use Rattle.std.proofs.Common.{◌≡◌, ◌<◌, ℕ, zero, suc, ◌+◌, ◌/◌, ◌%◌, Bool, true, false, nat_le, nat_eq, Some, List, [], ◌∷◌, ◌++◌, length, refl, ◌∙◌, sym, ap, arith, append-nil, length-append, lit<}
use Rattle.mx_base.specs.Fields.{AreBytes}
use Rattle.packet_frame.specs.Packets.{packets, spelling, id_behind}
use Rattle.packet_frame.specs.SpellingLaws.{spelling-some}
use Rattle.packet_frame.specs.OnePacket.{spelling-one}
use Rattle.reply_track.specs.declared.reply.ReplyEnd.{ReplyEnd}
use Rattle.reply_track.specs.declared.due.Prepared.{Prepared}
use Rattle.reply_track.specs.declared.due.Behind.{Behind}
use Rattle.reply_track.specs.declared.due.Behind.TheVariants.{Rows as RowsBehind, Columns as ColumnsBehind}
use Rattle.reply_track.specs.declared.due.Due.{Due}
use Rattle.reply_track.specs.declared.due.Due.TheVariants.{Result as ResultDue, Answer, Listing, Definition, End, Row, Field}
use Rattle.reply_track.specs.declared.due.Next.{Next}
use Rattle.reply_track.specs.declared.due.Next.TheVariants.{Goes, Ends}
use Rattle.reply_track.specs.declared.head.Eof.{Eof}
use Rattle.reply_track.specs.declared.head.Eof.TheVariants.{Definitions as DefinitionsEof, Fields as FieldsEof}
use Rattle.reply_track.specs.declared.body.Body.TheVariants.{Due as DueBody, Rest}
use Rattle.reply_track.specs.declared.place.Place.TheVariants.{First}
use Rattle.reply_track.specs.declared.place.State.{State}
use Rattle.reply_track.specs.declared.place.Outcome.{Outcome}
use Rattle.reply_track.specs.declared.place.Outcome.TheVariants.{On, Over, Wrong}
use Rattle.reply_track.specs.Payloads.{IsErr, IsEof, IsPlain, err_end}
use Rattle.packet_frame.specs.Packets.{spellings}
use Rattle.reply_track.specs.Steps.{step, takes_err, eof_of, after_plain, after_eof, behind_end}
use Rattle.reply_track.specs.Runs.{run, run_by}
use Rattle.reply_track.specs.Runs.Ending.{Ended}
use Rattle.reply_track.proofs.Crossing.{mk, Crosses, followed_at}
use Rattle.reply_track.proofs.Messages.{Reads, others-cross}
use Rattle.reply_track.proofs.Classes.{err-reads, eof-reads}
use Rattle.reply_track.proofs.Heads.{plain-reads}
use Rattle.reply_track.proofs.Sentences.{Sent, sent}

-- bytes take a tracker from here to the end of a reply
pub record Completes (state : State) : Type 0 where
  pub more : List ℕ
  pub end : ReplyEnd
  pub some : 0 < length more
  pub are : AreBytes more
  pub ends : run state more ≡ Ended end []

abbrev pub CompletesAt : Outcome → Type 0
CompletesAt (On state) = Completes state
CompletesAt (Over end) = Unit {0}
CompletesAt Wrong = ⊥

pub AreBytes-cons : (b : ℕ) (bytes : List ℕ) → b < 256 → AreBytes bytes → AreBytes (b ∷ bytes)
AreBytes-cons b bytes small are zero = small
AreBytes-cons b bytes small are (suc i) = are i

AreBytes-nil : AreBytes []
AreBytes-nil i = lit< tt

pub AreBytes-append : (xs ys : List ℕ) → AreBytes xs → AreBytes ys → AreBytes (xs ++ ys)
AreBytes-append [] ys one two = two
AreBytes-append (b ∷ xs) ys one two = AreBytes-cons b (xs ++ ys) (one 0) (AreBytes-append xs ys (λ i. one (suc i)) two)

pub completes : (state : State) (b : ℕ) (to : Outcome) → b < 256 → step state b ≡ to → CompletesAt to → Completes state
completes state b (On next) small is rest = record {
  more = b ∷ rest.more;
  end = rest.end;
  some = omega arith;
  are = AreBytes-cons b rest.more small rest.are;
  ends = ap (λ (o : Outcome). run_by o b rest.more (λ (n : State). run n rest.more)) is ∙ rest.ends;
}
completes state b (Over end) small is rest = record { more = b ∷ []; end = end; some = omega arith; are = AreBytes-cons b [] small AreBytes-nil; ends = ap (λ (o : Outcome). run_by o b [] (λ (n : State). run n [])) is }
completes state b Wrong small is rest = absurd rest

crossed : (state : State) (xs ys : List ℕ) (to : Outcome) → 0 < length xs → AreBytes xs → Crosses state xs ys to → CompletesAt to → Completes state
crossed state xs ys (On next) some are crosses rest = record {
  more = xs ++ rest.more;
  end = rest.end;
  some = longer xs some;
  are = AreBytes-append xs rest.more are rest.are;
  ends = crosses.runs rest.more ∙ rest.ends;
} where
  longer : (bytes : List ℕ) → 0 < length bytes → 0 < length (bytes ++ rest.more)
  longer [] none = absurd (omega arith)
  longer (b ∷ bytes) more = omega arith
crossed state xs ys (Over end) some are crosses rest = record { more = xs; end = end; some = some; are = are; ends = ap (run state) (sym (append-nil xs)) ∙ crosses.runs [] }
crossed state xs ys Wrong some are crosses rest = absurd rest

-- short payloads of bytes
abbrev AllBytes : List (List ℕ) → Type 0
AllBytes [] = Unit {0}
AllBytes (payload ∷ payloads) = (length payload < 100) × AreBytes payload × AllBytes payloads

spelled_bytes : (id : ℕ) (payload : List ℕ) → id < 256 → length payload < 100 → AreBytes payload → AreBytes (spelling id payload)
spelled_bytes id payload small short are =
    rw (spelling-one id payload (omega arith))
    (AreBytes-cons (length payload % 256) (length payload / 256 % 256 ∷ length payload / 65536 ∷ id ∷ payload) (omega arith)
    (AreBytes-cons (length payload / 256 % 256) (length payload / 65536 ∷ id ∷ payload) (omega arith)
    (AreBytes-cons (length payload / 65536) (id ∷ payload) (omega arith) (AreBytes-cons id payload small are))))

spellings_bytes : (id : ℕ) (payloads : List (List ℕ)) → id < 256 → AllBytes payloads → AreBytes (spellings id payloads)
spellings_bytes id [] small all = AreBytes-nil
spellings_bytes id (payload ∷ payloads) small all = AreBytes-append (spelling id payload) (spellings (id_behind id payload) payloads) (spelled_bytes id payload small all.0 all.1) (spellings_bytes (id_behind id payload) payloads (omega arith) all.2)

record Finishes (due : Due) (number : ℕ) : Type 0 where
  pub first : List ℕ
  pub payloads : List (List ℕ)
  pub end : ReplyEnd
  pub sent : Sent due number (first ∷ payloads) (first ∷ payloads) end
  pub all : AllBytes (first ∷ payloads)

abbrev err : List ℕ
err = 255 ∷ 0 ∷ 0 ∷ 35 ∷ 0 ∷ 0 ∷ 0 ∷ 0 ∷ 0 ∷ []

abbrev eof : List ℕ
eof = 254 ∷ 0 ∷ 0 ∷ 0 ∷ 0 ∷ []

is_err : IsErr err 0
is_err = record { a = 0; b = 0; state = 0 ∷ 0 ∷ 0 ∷ 0 ∷ 0 ∷ []; message = []; is = refl; error_code = record { low = lit< tt; high = lit< tt; is = refl }; sql_state = refl }

is_eof : IsEof eof 0 0
is_eof = record { w = 0; v = 0; f = 0; g = 0; more = []; is = refl; short = lit< tt; warning_count = record { low = lit< tt; high = lit< tt; is = refl }; status_flags = record { low = lit< tt; high = lit< tt; is = refl } }

is_plain : IsPlain []
is_plain = record { no_err = λ e. omega arith; no_eof = λ others e least most. omega arith }

abbrev zeros : ℕ → List ℕ → List ℕ
zeros zero bytes = bytes
zeros (suc n) bytes = 0 ∷ zeros n bytes

zeros_are : (n : ℕ) (bytes : List ℕ) → AreBytes bytes → AreBytes (zeros n bytes)
zeros_are zero bytes are = are
zeros_are (suc n) bytes are = AreBytes-cons 0 (zeros n bytes) (lit< tt) (zeros_are n bytes are)

err_bytes : AreBytes err
err_bytes = AreBytes-cons 255 (zeros 2 (35 ∷ zeros 5 [])) (lit< tt) (zeros_are 2 (35 ∷ zeros 5 []) (AreBytes-cons 35 (zeros 5 []) (lit< tt) (zeros_are 5 [] AreBytes-nil)))

eof_bytes : AreBytes eof
eof_bytes = AreBytes-cons 254 (zeros 4 []) (lit< tt) (zeros_are 4 [] AreBytes-nil)

err_finishes : (due : Due) (number : ℕ) → takes_err due ≡ true → Finishes due number
err_finishes due number may = record { first = err; payloads = []; end = err_end 0; sent = sent due number err err (Ends (err_end 0)) [] [] (err_end 0) (err-reads due number err 0 may is_err) (record { none = refl; none_handed = refl; same = refl }); all = (lit< tt, err_bytes, tt) }

-- a payload more
abbrev FollowsOn : Next → (number : ℕ) → Type 0
FollowsOn (Goes due) number = Finishes due number
FollowsOn (Ends end) number = Unit {0}

one_more : (due : Due) (number : ℕ) (payload : List ℕ) (next : Next) → length payload < 100 → AreBytes payload → Reads due number payload payload next → FollowsOn next number → Finishes due number
one_more due number payload (Goes goes) short are reads rest = record { first = payload; payloads = rest.first ∷ rest.payloads; end = rest.end; sent = sent due number payload payload (Goes goes) (rest.first ∷ rest.payloads) (rest.first ∷ rest.payloads) rest.end reads rest.sent; all = (short, are, rest.all) }
one_more due number payload (Ends end) short are reads rest = record { first = payload; payloads = []; end = end; sent = sent due number payload payload (Ends end) [] [] end reads (record { none = refl; none_handed = refl; same = refl }); all = (short, are, tt) }

eof_finishes : (due : Due) (what : Eof) (number : ℕ) → eof_of due ≡ Some what → FollowsOn (after_eof what 0 0) number → Finishes due number
eof_finishes due what number may rest = one_more due number eof (after_eof what 0 0) (lit< tt) eof_bytes (eof-reads due what number eof 0 0 may is_eof) rest

plain_finishes : (due next : Due) (number : ℕ) → after_plain due ≡ Some next → Finishes next number → Finishes due number
plain_finishes due next number may rest = one_more due number [] (Goes next) (lit< tt) AreBytes-nil (plain-reads due next number [] may is_plain) rest

definitions_finish : (behind : Behind) (number n : ℕ) → Finishes (End behind) number → Finishes (Definition n behind) number
definitions_finish behind number zero rest = plain_finishes (Definition 0 behind) (End behind) number refl rest
definitions_finish behind number (suc n) rest = more (nat_le (suc n) 1) refl (definitions_finish behind number n rest) where
  more : (one : Bool) → nat_le (suc n) 1 ≡ one → Finishes (Definition n behind) number → Finishes (Definition (suc n) behind) number
  more true one others = plain_finishes (Definition (suc n) behind) (End behind) number (rw one refl) rest
  more false one others = plain_finishes (Definition (suc n) behind) (Definition n behind) number (rw one (ap (λ k. Some (Definition k behind)) (omega arith))) others

columns_finish : (number : ℕ) (prepared : Prepared) → Finishes (End (ColumnsBehind 0 prepared)) number
columns_finish number prepared = eof_finishes (End (ColumnsBehind 0 prepared)) (DefinitionsEof (ColumnsBehind 0 prepared)) number refl tt

end_finishes : (behind : Behind) (number : ℕ) → Finishes (End behind) number
end_finishes RowsBehind number = eof_finishes (End RowsBehind) (DefinitionsEof RowsBehind) number refl (err_finishes Row number refl)
end_finishes (ColumnsBehind columns prepared) number = eof_finishes (End (ColumnsBehind columns prepared)) (DefinitionsEof (ColumnsBehind columns prepared)) number refl (behind_it (nat_eq columns 0) refl) where
  behind_it : (none : Bool) → nat_eq columns 0 ≡ none → FollowsOn (behind_end (ColumnsBehind columns prepared)) number
  behind_it true none = rw none tt
  behind_it false none = rw none (definitions_finish (ColumnsBehind 0 prepared) number columns (columns_finish number prepared))

finishes : (due : Due) (number : ℕ) → Finishes due number
finishes ResultDue number = err_finishes ResultDue number refl
finishes Answer number = err_finishes Answer number refl
finishes Listing number = err_finishes Listing number refl
finishes (Definition left behind) number = definitions_finish behind number left (end_finishes behind number)
finishes (End behind) number = end_finishes behind number
finishes Row number = err_finishes Row number refl
finishes Field number = eof_finishes Field FieldsEof number refl tt

pub due-completes : (server client number : ℕ) (due : Due) → server < 256 → Completes (mk server client number First (DueBody due))
due-completes server client number due small =
    let at = finishes due number in
    crossed (mk server client number First (DueBody due)) (spellings server (at.first ∷ at.payloads)) (spellings client (at.first ∷ at.payloads)) (Over at.end) (some server at.first (spellings (id_behind server at.first) at.payloads)) (spellings_bytes server (at.first ∷ at.payloads) small at.all) (at.sent.over server client) tt where
      some : (id : ℕ) (payload rest : List ℕ) → 0 < length (spelling id payload ++ rest)
      some id payload rest = omega (arith, length-append (spelling id payload) rest, spelling-some id payload)

pub next-completes : (server client number : ℕ) (next : Next) → server < 256 → CompletesAt (followed_at server client number next)
next-completes server client number (Goes due) small = due-completes server client number due small
next-completes server client number (Ends end) small = tt

-- the rest of a message
pub long-completes : (server client number : ℕ) (next : Next) → server < 256 → Completes (mk server client number First (Rest next))
long-completes server client number next small =
    let crosses = others-cross 0 server client number next [] refl in
    crossed (mk server client number First (Rest next)) (packets 0 server []) (packets 0 client []) (followed_at ((server + 0 + 1) % 256) ((client + 0 + 1) % 256) number next) (lit< tt)
    (zeros_are 3 (server ∷ []) (AreBytes-cons server [] small AreBytes-nil)) crosses (next-completes ((server + 0 + 1) % 256) ((client + 0 + 1) % 256) number next (omega arith))
