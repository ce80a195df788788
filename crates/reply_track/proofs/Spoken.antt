-- Payloads that a tracker took to the end of a reply are one.
use Rattle.std.proofs.Common.{◌≡◌, ◌⊎◌, inl, inr, ◌<◌, ℕ, zero, suc, ◌+◌, ◌-◌, Bool, true, false, cond, nat_le, List, [], ◌∷◌, ◌++◌, length, All, refl, ◌∙◌, sym, ap, subst, arith, length-append, append_assoc, append-nil}
use Rattle.std.proofs.lemmas.List.Elements.{All-nil, All-cons}
use Rattle.std.proofs.lemmas.Bool.{leb-true, leb-false}
use Rattle.mx_base.specs.Fields.{AreBytes}
use Rattle.packet_frame.specs.Packets.{spelling, id_behind}
use Rattle.packet_frame.specs.SpellingLaws.{spelling-some}
use Rattle.reply_track.specs.declared.reply.ReplyEnd.{ReplyEnd}
use Rattle.reply_track.specs.declared.due.Behind.{Behind}
use Rattle.reply_track.specs.declared.due.Due.{Due}
use Rattle.reply_track.specs.declared.due.Due.TheVariants.{Definition, End, Row}
use Rattle.reply_track.specs.declared.due.Next.{Next}
use Rattle.reply_track.specs.declared.due.Next.TheVariants.{Goes, Ends}
use Rattle.reply_track.specs.declared.head.Eof.{Eof}
use Rattle.reply_track.specs.declared.head.Eof.TheVariants.{Definitions as DefinitionsEof, Rows as RowsEof}
use Rattle.reply_track.specs.declared.body.Body.TheVariants.{Due as DueBody}
use Rattle.reply_track.specs.declared.place.Place.TheVariants.{First}
use Rattle.reply_track.specs.Payloads.{IsEof, IsPlain, err_end, rows_end}
use Rattle.reply_track.specs.Grammar.{ErrEnds, EofEnds, AreDefined}
use Rattle.packet_frame.specs.Packets.{spellings}
use Rattle.reply_track.specs.Steps.{after_eof, behind_end}
use Rattle.reply_track.specs.Runs.{run}
use Rattle.reply_track.specs.Runs.Ending.{Ended}
use Rattle.reply_track.proofs.Crossing.{mk, run_on, followed_at}
use Rattle.reply_track.proofs.Sentences.{after_more, more-same}
use Rattle.reply_track.proofs.Found.{in-message}
use Rattle.reply_track.proofs.Classed.{Class}
use Rattle.reply_track.proofs.Classed.Class.{ErrClass, EofClass, PlainClass, OkClass, CountClass, PreparedClass}
use Rattle.reply_track.proofs.Sorting.{class-of}

-- payloads each of which is due behind the one before it, the last of which ends the reply
abbrev pub After : Next → List (List ℕ) → ReplyEnd → (Due → Type 0) → Type 0
After (Goes due) payloads end others = others due
After (Ends last) payloads end others = (payloads ≡ []) × (last ≡ end)

abbrev pub Spoken : List (List ℕ) → Due → ReplyEnd → Type 0
Spoken [] due end = ⊥
Spoken (payload ∷ payloads) due end = (next : Next) × Class due payload next × After next payloads end (λ (d : Due). Spoken payloads d end)

abbrev pub Behind-next : Next → List (List ℕ) → ReplyEnd → Type 0
Behind-next next payloads end = After next payloads end (λ (d : Due). Spoken payloads d end)

-- bytes that were taken to the end
pub record IsSpoken (server : ℕ) (due : Due) (bytes : List ℕ) (end : ReplyEnd) (rest : List ℕ) : Type 0 where
  pub payloads : List (List ℕ)
  pub spoken : Spoken payloads due end
  pub is : bytes ≡ spellings server payloads ++ rest

spoken_by : (server client number : ℕ) (due : Due) (bytes payload behind : List ℕ) (end : ReplyEnd) (rest : List ℕ) (next : Next) → Class due payload next → bytes ≡ spelling server payload ++ behind → run_on (followed_at (id_behind server payload) (id_behind client payload) number next) behind ≡ Ended end rest
    → ((d : Due) → run (mk (id_behind server payload) (id_behind client payload) number First (DueBody d)) behind ≡ Ended end rest → IsSpoken (id_behind server payload) d behind end rest) → IsSpoken server due bytes end rest
spoken_by server client number due bytes payload behind end rest (Goes goes) class is ends others =
    let more = others goes ends in
    record {
      payloads = payload ∷ more.payloads;
      spoken = (Goes goes, class, more.spoken);
      is = is ∙ ap (λ bs. spelling server payload ++ bs) more.is ∙ sym (append_assoc (spelling server payload) (spellings (id_behind server payload) more.payloads) rest);
    }
spoken_by server client number due bytes payload behind end rest (Ends last) class is ends others =
    let same : last ≡ end = cc in
    let left : behind ≡ rest = cc in
    record {
      payloads = payload ∷ [];
      spoken = (Ends last, class, (refl, same));
      is = is ∙ ap (λ bs. spelling server payload ++ bs) left ∙ ap (λ bs. bs ++ rest) (sym (append-nil (spelling server payload)));
    }

pub spoken-of : (fuel server client number : ℕ) (due : Due) (bytes : List ℕ) (end : ReplyEnd) (rest : List ℕ) → length bytes < fuel → AreBytes bytes → run (mk server client number First (DueBody due)) bytes ≡ Ended end rest → IsSpoken server due bytes end rest
spoken-of zero server client number due bytes end rest enough are is = absurd (omega arith)
spoken-of (suc fuel) server client number due bytes end rest enough are is =
    let at = in-message server client number due bytes end rest are is in
    let size : length bytes ≡ length (spelling server at.payload) + length at.behind = ap length at.is ∙ length-append (spelling server at.payload) at.behind in
    let less : length at.behind < fuel = omega (arith, size, spelling-some server at.payload) in
    spoken_by server client number due bytes at.payload at.behind end rest at.next (class-of due at.payload at.next at.are_payload at.reads) at.is at.goes
    (λ d more. spoken-of fuel (id_behind server at.payload) (id_behind client at.payload) number d at.behind end rest less at.are more)

-- the EOF behind definitions
record EofAt (behind : Behind) (payloads : List (List ℕ)) (end : ReplyEnd) : Type 0 where
  pub eof : List ℕ
  pub flags : ℕ
  pub warnings : ℕ
  pub rest : List (List ℕ)
  pub is : payloads ≡ eof ∷ rest
  pub ends : IsEof eof flags warnings
  pub after : Behind-next (behind_end behind) rest end

eof_at : (behind : Behind) (payloads : List (List ℕ)) (end : ReplyEnd) → Spoken payloads (End behind) end → EofAt behind payloads end
eof_at behind [] end said = absurd said
eof_at behind (payload ∷ payloads) end (next, ErrClass code may err is, after) = absurd (cc)
eof_at behind (payload ∷ payloads) end (next, EofClass eof flags warnings may ends is, after) =
    let same : eof ≡ DefinitionsEof behind = cc in
    let follows : next ≡ behind_end behind = is ∙ ap (λ (e : Eof). after_eof e flags warnings) same in
    record { eof = payload; flags = flags; warnings = warnings; rest = payloads; is = refl; ends = ends; after = subst (λ (n : Next). Behind-next n payloads end) follows after }
eof_at behind (payload ∷ payloads) end (next, PlainClass goes may plain is, after) = absurd (cc)
eof_at behind (payload ∷ payloads) end (next, OkClass flags warnings insert_id may ok is, after) = absurd (cc)
eof_at behind (payload ∷ payloads) end (next, CountClass n may count is, after) = absurd (cc)
eof_at behind (payload ∷ payloads) end (next, PreparedClass number columns params warnings may prepared is, after) = absurd (cc)

-- definitions and their EOF
pub record DefinedAt (n : ℕ) (behind : Behind) (payloads : List (List ℕ)) (end : ReplyEnd) : Type 0 where
  pub defined : List (List ℕ)
  pub rest : List (List ℕ)
  pub is : payloads ≡ defined ++ rest
  pub are : AreDefined n defined
  pub after : Behind-next (behind_end behind) rest end

defined_more : (behind : Behind) (payload : List ℕ) (payloads : List (List ℕ)) (end : ReplyEnd) (n : ℕ) (goes : Due) (one : Bool) → 0 < n → IsPlain payload → nat_le n 1 ≡ one → cond one (End behind) (Definition (n - 1) behind) ≡ goes → Spoken payloads goes end
    → ((m : ℕ) → 0 < m → Spoken payloads (Definition m behind) end → DefinedAt m behind payloads end) → DefinedAt n behind (payload ∷ payloads) end
defined_more behind payload payloads end n goes true some plain one is said others =
    let at = eof_at behind payloads end (subst (λ (d : Due). Spoken payloads d end) (sym is) said) in
    record {
      defined = payload ∷ at.eof ∷ [];
      rest = at.rest;
      is = ap (λ ps. payload ∷ ps) at.is;
      are = record { definitions = payload ∷ []; eof = at.eof; flags = at.flags; warnings = at.warnings; is = refl; count = omega (arith, leb-true n 1 one); plain = All-cons IsPlain payload [] plain (All-nil IsPlain); ends = at.ends };
      after = at.after;
    }
defined_more behind payload payloads end n goes false some plain one is said others =
    let several : 1 < n = leb-false n 1 one in
    let at = others (n - 1) (omega arith) (subst (λ (d : Due). Spoken payloads d end) (sym is) said) in
    record {
      defined = payload ∷ at.defined;
      rest = at.rest;
      is = ap (λ ps. payload ∷ ps) at.is;
      are = record { definitions = payload ∷ at.are.definitions; eof = at.are.eof; flags = at.are.flags; warnings = at.are.warnings; is = ap (λ ps. payload ∷ ps) at.are.is; count = omega (arith, at.are.count); plain = All-cons IsPlain payload at.are.definitions plain at.are.plain; ends = at.are.ends };
      after = at.after;
    }

pub defined_at : (behind : Behind) (end : ReplyEnd) (payloads : List (List ℕ)) (n : ℕ) → 0 < n → Spoken payloads (Definition n behind) end → DefinedAt n behind payloads end
defined_at behind end [] n some said = absurd said
defined_at behind end (payload ∷ payloads) n some (next, ErrClass code may err is, after) = absurd (cc)
defined_at behind end (payload ∷ payloads) n some (next, EofClass eof flags warnings may ends is, after) = absurd (cc)
defined_at behind end (payload ∷ payloads) n some (next, PlainClass goes may plain is, after) =
    let said : Spoken payloads goes end = subst (λ (n : Next). Behind-next n payloads end) is after in
    let same : cond (nat_le n 1) (End behind) (Definition (n - 1) behind) ≡ goes = cc in
    defined_more behind payload payloads end n goes (nat_le n 1) some plain refl same said (defined_at behind end payloads)
defined_at behind end (payload ∷ payloads) n some (next, OkClass flags warnings insert_id may ok is, after) = absurd (cc)
defined_at behind end (payload ∷ payloads) n some (next, CountClass k may count is, after) = absurd (cc)
defined_at behind end (payload ∷ payloads) n some (next, PreparedClass number columns params warnings may prepared is, after) = absurd (cc)

-- rows and what ends them
pub record RowsAt (payloads : List (List ℕ)) (end : ReplyEnd) : Type 0 where
  pub rows : List (List ℕ)
  pub last : List ℕ
  pub middle : ReplyEnd
  pub rest : List (List ℕ)
  pub is : payloads ≡ rows ++ (last ∷ rest)
  pub plain : All IsPlain rows
  pub ends : EofEnds last middle ⊎ ErrEnds last middle
  pub after : Behind-next (after_more middle) rest end

pub rows_at : (end : ReplyEnd) (payloads : List (List ℕ)) → Spoken payloads Row end → RowsAt payloads end
rows_at end [] said = absurd said
rows_at end (payload ∷ payloads) (next, ErrClass code may err is, after) =
    record { rows = []; last = payload; middle = err_end code; rest = payloads; is = refl; plain = All-nil IsPlain; ends = inr (record { code = code; err = err; is = refl }); after = subst (λ (n : Next). Behind-next n payloads end) is after }
rows_at end (payload ∷ payloads) (next, EofClass eof flags warnings may ends is, after) =
    let same : eof ≡ RowsEof = cc in
    let follows : next ≡ after_more (rows_end flags warnings) = is ∙ ap (λ (e : Eof). after_eof e flags warnings) same ∙ more-same flags (rows_end flags warnings) refl in
    record { rows = []; last = payload; middle = rows_end flags warnings; rest = payloads; is = refl; plain = All-nil IsPlain; ends = inl (record { flags = flags; warnings = warnings; eof = ends; is = refl }); after = subst (λ (n : Next). Behind-next n payloads end) follows after }
rows_at end (payload ∷ payloads) (next, PlainClass goes may plain is, after) =
    let same : goes ≡ Row = cc in
    let said : Spoken payloads Row end = subst (λ (n : Next). Behind-next n payloads end) (is ∙ ap Goes same) after in
    let at = rows_at end payloads said in
    record { rows = payload ∷ at.rows; last = at.last; middle = at.middle; rest = at.rest; is = ap (λ ps. payload ∷ ps) at.is; plain = All-cons IsPlain payload at.rows plain at.plain; ends = at.ends; after = at.after }
rows_at end (payload ∷ payloads) (next, OkClass flags warnings insert_id may ok is, after) = absurd (cc)
rows_at end (payload ∷ payloads) (next, CountClass k may count is, after) = absurd (cc)
rows_at end (payload ∷ payloads) (next, PreparedClass number columns params warnings may prepared is, after) = absurd (cc)
