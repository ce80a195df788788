-- What a tracker answers for a piece, by what it took before.
use Rattle.std.proofs.Common.{◌≡◌, ◌<◌, ℕ, zero, suc, ◌+◌, ◌-◌, List, [], ◌∷◌, ◌++◌, length, take, drop, refl, ◌∙◌, sym, ap, arith, length-append, append_assoc, append-nil, lit<}
use Rattle.std.proofs.Math.Seq.{take-append_seam, drop-append_seam}
use Rattle.mx_base.specs.Fields.{AreBytes}
use Rattle.reply_track.specs.declared.reply.ReplyEnd.{ReplyEnd}
use Rattle.reply_track.specs.declared.reply.Progress.{Progress}
use Rattle.reply_track.specs.declared.place.State.{State}
use Rattle.reply_track.specs.declared.place.Outcome.{Outcome}
use Rattle.reply_track.specs.declared.place.Outcome.TheVariants.{On, Over, Wrong}
use Rattle.reply_track.specs.Grammar.{renamed}
use Rattle.reply_track.specs.Steps.{step, written}
use Rattle.reply_track.specs.Tracking.{Sought, IsWhole, GoesOn, NoneGoesOn, started, Took, IsHanded, IsMore, IsDone, IsBad, Answers}
use Rattle.packet_frame.specs.Packets.{spellings}
use Rattle.reply_track.specs.Runs.{Ending, run, run_by, renumbered, renumbered_by, progress_of, StandsAt, Walked}
use Rattle.reply_track.specs.Runs.Ending.{Going, Ended, Failed}
use Rattle.reply_track.proofs.Sentences.{reply-sent}
use Rattle.reply_track.proofs.Meaning.{reply-found}
use Rattle.reply_track.proofs.Finishing.{AreBytes-append}
use Rattle.reply_track.proofs.Living.{IsAlive}
use Rattle.reply_track.proofs.Alive.{run-alive}
use Rattle.reply_track.proofs.Completing.{alive-completes}

-- bytes behind those that were taken
pub record Goes-by (from to : State) (xs ys : List ℕ) : Type 0 where
  pub runs : run from (xs ++ ys) ≡ run to ys
  pub makes : renumbered from (xs ++ ys) ≡ renumbered from xs ++ renumbered to ys

goes_step : (from to : State) (b : ℕ) (xs ys : List ℕ) (at : Outcome) → step from b ≡ at → run_by at b xs (λ (n : State). run n xs) ≡ Going to → ((next : State) → run next xs ≡ Going to → Goes-by next to xs ys) → Goes-by from to (b ∷ xs) ys
goes_step from to b xs ys (On next) is goes others =
    let more = others next goes in
    record {
      runs = ap (λ (o : Outcome). run_by o b (xs ++ ys) (λ (n : State). run n (xs ++ ys))) is ∙ more.runs;
      makes = ap (λ (o : Outcome). renumbered_by o (written from b) b (xs ++ ys) (λ (n : State). renumbered n (xs ++ ys))) is ∙ ap (λ bs. written from b ∷ bs) more.makes
          ∙ sym (ap (λ (o : Outcome). renumbered_by o (written from b) b xs (λ (n : State). renumbered n xs) ++ renumbered to ys) is);
    }
goes_step from to b xs ys (Over end) is goes others = absurd (cc)
goes_step from to b xs ys Wrong is goes others = absurd (cc)

pub goes-by : (xs ys : List ℕ) (from to : State) → run from xs ≡ Going to → Goes-by from to xs ys
goes-by [] ys from to is = let same : from ≡ to = cc in record { runs = ap (λ (s : State). run s ys) same; makes = ap (λ (s : State). renumbered s ys) same }
goes-by (b ∷ xs) ys from to is = goes_step from to b xs ys (step from b) refl is (λ next more. goes-by xs ys next to more)

-- bytes that end a reply
pub record EndsBy (from : State) (xs : List ℕ) (end : ReplyEnd) (rest : List ℕ) : Type 0 where
  pub front : List ℕ
  pub is : xs ≡ front ++ rest
  pub ends : run from front ≡ Ended end []
  pub makes : renumbered from xs ≡ renumbered from front ++ rest

ends_step : (from : State) (b : ℕ) (xs : List ℕ) (end : ReplyEnd) (rest : List ℕ) (at : Outcome) → step from b ≡ at → run_by at b xs (λ (n : State). run n xs) ≡ Ended end rest → ((next : State) → run next xs ≡ Ended end rest → EndsBy next xs end rest) → EndsBy from (b ∷ xs) end rest
ends_step from b xs end rest (On next) is goes others =
    let more = others next goes in
    record {
      front = b ∷ more.front;
      is = ap (λ bs. b ∷ bs) more.is;
      ends = ap (λ (o : Outcome). run_by o b more.front (λ (n : State). run n more.front)) is ∙ more.ends;
      makes = ap (λ (o : Outcome). renumbered_by o (written from b) b xs (λ (n : State). renumbered n xs)) is ∙ ap (λ bs. written from b ∷ bs) more.makes
          ∙ sym (ap (λ (o : Outcome). renumbered_by o (written from b) b more.front (λ (n : State). renumbered n more.front) ++ rest) is);
    }
ends_step from b xs end rest (Over last) is goes others =
    let left : xs ≡ rest = cc in
    let same : last ≡ end = cc in
    record {
      front = b ∷ [];
      is = ap (λ bs. b ∷ bs) left;
      ends = ap (λ (o : Outcome). run_by o b [] (λ (n : State). run n [])) is ∙ ap (λ (e : ReplyEnd). Ended e []) same;
      makes = ap (λ (o : Outcome). renumbered_by o (written from b) b xs (λ (n : State). renumbered n xs)) is ∙ ap (λ bs. written from b ∷ bs) left
          ∙ sym (ap (λ (o : Outcome). renumbered_by o (written from b) b [] (λ (n : State). renumbered n []) ++ rest) is);
    }
ends_step from b xs end rest Wrong is goes others = absurd (cc)

pub ends_by : (xs : List ℕ) (from : State) (end : ReplyEnd) (rest : List ℕ) → run from xs ≡ Ended end rest → EndsBy from xs end rest
ends_by [] from end rest is = absurd (cc)
ends_by (b ∷ xs) from end rest is = ends_step from b xs end rest (step from b) refl is (λ next more. ends_by xs next end rest more)

-- bytes one of which is wrong
pub record FailsBy (from : State) (xs rest : List ℕ) : Type 0 where
  pub front : List ℕ
  pub to : State
  pub b : ℕ
  pub others : List ℕ
  pub is : xs ≡ front ++ rest
  pub first : rest ≡ b ∷ others
  pub goes : run from front ≡ Going to
  pub wrong : step to b ≡ Wrong
  pub makes : renumbered from xs ≡ renumbered from front ++ rest

fails_step : (from : State) (b : ℕ) (xs rest : List ℕ) (at : Outcome) → step from b ≡ at → run_by at b xs (λ (n : State). run n xs) ≡ Failed rest → ((next : State) → run next xs ≡ Failed rest → FailsBy next xs rest) → FailsBy from (b ∷ xs) rest
fails_step from b xs rest (On next) is goes others =
    let more = others next goes in
    record {
      front = b ∷ more.front;
      to = more.to;
      b = more.b;
      others = more.others;
      is = ap (λ bs. b ∷ bs) more.is;
      first = more.first;
      goes = ap (λ (o : Outcome). run_by o b more.front (λ (n : State). run n more.front)) is ∙ more.goes;
      wrong = more.wrong;
      makes = ap (λ (o : Outcome). renumbered_by o (written from b) b xs (λ (n : State). renumbered n xs)) is ∙ ap (λ bs. written from b ∷ bs) more.makes
          ∙ sym (ap (λ (o : Outcome). renumbered_by o (written from b) b more.front (λ (n : State). renumbered n more.front) ++ rest) is);
    }
fails_step from b xs rest (Over last) is goes others = absurd (cc)
fails_step from b xs rest Wrong is goes others =
    let left : b ∷ xs ≡ rest = cc in
    record { front = []; to = from; b = b; others = xs; is = left; first = sym left; goes = refl; wrong = is; makes = ap (λ (o : Outcome). renumbered_by o (written from b) b xs (λ (n : State). renumbered n xs)) is ∙ left }

pub fails_by : (xs : List ℕ) (from : State) (rest : List ℕ) → run from xs ≡ Failed rest → FailsBy from xs rest
fails_by [] from rest is = absurd (cc)
fails_by (b ∷ xs) from rest is = fails_step from b xs rest (step from b) refl is (λ next more. fails_by xs next rest more)

-- a whole reply takes a tracker to its end
whole_runs : (sought : Sought) (bytes : List ℕ) (payloads : List (List ℕ)) (end : ReplyEnd) → IsWhole sought bytes payloads end → run (started sought) bytes ≡ Ended end []
whole_runs sought bytes payloads end whole =
    let crosses = (reply-sent sought.kind sought.number payloads end whole.reply).over sought.server sought.client in
    ap (run (started sought)) (whole.spelled ∙ sym (append-nil (spellings sought.server payloads))) ∙ crosses.runs []

pub whole_makes : (sought : Sought) (bytes : List ℕ) (payloads : List (List ℕ)) (end : ReplyEnd) → IsWhole sought bytes payloads end → renumbered (started sought) bytes ≡ spellings sought.client (renamed sought.kind sought.number payloads)
whole_makes sought bytes payloads end whole =
    let crosses = (reply-sent sought.kind sought.number payloads end whole.reply).over sought.server sought.client in
    ap (renumbered (started sought)) (whole.spelled ∙ sym (append-nil (spellings sought.server payloads))) ∙ crosses.makes [] ∙ append-nil (spellings sought.client (renamed sought.kind sought.number payloads))

start_alive : (sought : Sought) → sought.server < 256 → IsAlive (started sought)
start_alive sought small = record { small = small; at = tt }

pub goes_on : (sought : Sought) (bytes : List ℕ) (state : State) → sought.server < 256 → AreBytes bytes → run (started sought) bytes ≡ Going state → GoesOn sought bytes
goes_on sought bytes state small are goes =
    let more = alive-completes state (run-alive bytes (started sought) state (start_alive sought small) goes) in
    let ends : run (started sought) (bytes ++ more.more) ≡ Ended more.end [] = (goes-by bytes more.more (started sought) state goes).runs ∙ more.ends in
    let found = reply-found sought (bytes ++ more.more) more.end [] (AreBytes-append bytes more.more are more.are) ends in
    record { more = more.more; payloads = found.payloads; end = more.end; some = more.some; are = more.are; whole = record { reply = found.reply; spelled = found.is ∙ append-nil (spellings sought.server found.payloads) } }

pub AreBytes-begin : (xs ys : List ℕ) → AreBytes (xs ++ ys) → AreBytes xs
AreBytes-begin [] ys are i = are_nil i where
  are_nil : AreBytes []
  are_nil k = lit< tt
AreBytes-begin (b ∷ xs) ys are zero = are 0
AreBytes-begin (b ∷ xs) ys are (suc i) = AreBytes-begin xs ys (λ k. are (suc k)) i

length_by : (at : Outcome) (new b : ℕ) (bytes : List ℕ) → ((next : State) → length (renumbered next bytes) ≡ length bytes) → length (renumbered_by at new b bytes (λ (n : State). renumbered n bytes)) ≡ length (b ∷ bytes)
length_by (On next) new b bytes others = ap suc (others next)
length_by (Over end) new b bytes others = refl
length_by Wrong new b bytes others = refl

pub length-renumbered : (bytes : List ℕ) (state : State) → length (renumbered state bytes) ≡ length bytes
length-renumbered [] state = refl
length-renumbered (b ∷ bytes) state = length_by (step state b) (written state b) b bytes (length-renumbered bytes)

-- the answers
answer_more : (sought : Sought) (bytes made piece new : List ℕ) (state after : State) → AreBytes piece → Took sought bytes made state → new ≡ renumbered state piece → run state piece ≡ Going after → IsMore sought bytes made piece new after
answer_more sought bytes made piece new state after are took is_new goes =
    let by = goes-by bytes piece (started sought) state took.goes in
    let all : run (started sought) (bytes ++ piece) ≡ Going after = by.runs ∙ goes in
    let are_all : AreBytes (bytes ++ piece) = AreBytes-append bytes piece took.are are in
    record {
      goes_on = goes_on sought (bytes ++ piece) after took.small are_all all;
      took = record { small = took.small; are = are_all; goes = all; makes = by.makes ∙ ap (λ bs. bs ++ renumbered state piece) took.makes ∙ ap (λ bs. made ++ bs) (sym is_new) };
    }

front_of : (xs front rest : List ℕ) → xs ≡ front ++ rest → take (length front) xs ≡ front
front_of xs front rest is = ap (take (length front)) is ∙ take-append_seam front rest

behind_of : (xs front rest : List ℕ) → xs ≡ front ++ rest → drop (length front) xs ≡ rest
behind_of xs front rest is = ap (drop (length front)) is ∙ drop-append_seam front rest

answer_done : (sought : Sought) (bytes made piece new : List ℕ) (state : State) (end : ReplyEnd) (rest : List ℕ) → AreBytes piece → Took sought bytes made state → new ≡ renumbered state piece → run state piece ≡ Ended end rest → IsDone sought bytes made piece new (length piece - length rest) end
answer_done sought bytes made piece new state end rest are took is_new goes =
    let at = ends_by piece state end rest goes in
    let by = goes-by bytes at.front (started sought) state took.goes in
    let used : length piece - length rest ≡ length at.front = omega (arith, ap length at.is, length-append at.front rest) in
    let front : take (length at.front) piece ≡ at.front = front_of piece at.front rest at.is in
    let behind : drop (length at.front) piece ≡ rest = behind_of piece at.front rest at.is in
    let same : length (renumbered state at.front) ≡ length at.front = length-renumbered at.front state in
    let wrote : new ≡ renumbered state at.front ++ rest = is_new ∙ at.makes in
    let front_new : take (length at.front) new ≡ renumbered state at.front = ap (λ n. take n new) (sym same) ∙ front_of new (renumbered state at.front) rest wrote in
    let behind_new : drop (length at.front) new ≡ rest = ap (λ n. drop n new) (sym same) ∙ behind_of new (renumbered state at.front) rest wrote in
    let are_front : AreBytes at.front = AreBytes-begin at.front rest (rw at.is at are) in
    let found = reply-found sought (bytes ++ at.front) end [] (AreBytes-append bytes at.front took.are are_front) (by.runs ∙ at.ends) in
    let whole : IsWhole sought (bytes ++ at.front) found.payloads end = record { reply = found.reply; spelled = found.is ∙ append-nil (spellings sought.server found.payloads) } in
    let handed : made ++ renumbered state at.front ≡ spellings sought.client (renamed sought.kind sought.number found.payloads) = ap (λ bs. bs ++ renumbered state at.front) (sym took.makes) ∙ sym by.makes ∙ whole_makes sought (bytes ++ at.front) found.payloads end whole in
    let is : IsHanded sought (bytes ++ at.front) (made ++ renumbered state at.front) end = record { payloads = found.payloads; whole = whole; handed = handed } in
    rw used (record {
      within = omega (arith, ap length at.is, length-append at.front rest);
      handed = rw (front, front_new) is;
      others = behind_new ∙ sym behind;
    })

never : (bytes : List ℕ) (end : ReplyEnd) → Failed bytes ≡ Ended end [] → ⊥
never bytes end e = cc

answer_bad : (sought : Sought) (bytes made piece new : List ℕ) (state : State) (rest : List ℕ) → AreBytes piece → Took sought bytes made state → new ≡ renumbered state piece → run state piece ≡ Failed rest → IsBad sought bytes piece new (length piece - length rest)
answer_bad sought bytes made piece new state rest are took is_new goes =
    let at = fails_by piece state rest goes in
    let by = goes-by bytes at.front (started sought) state took.goes in
    let n : ℕ = length at.front in
    let used : length piece - length rest ≡ n = omega (arith, ap length at.is, length-append at.front rest) in
    let split : piece ≡ (at.front ++ at.b ∷ []) ++ at.others = at.is ∙ ap (λ bs. at.front ++ bs) at.first ∙ sym (append_assoc at.front (at.b ∷ []) at.others) in
    let front : take n piece ≡ at.front = front_of piece at.front rest at.is in
    let behind : drop n piece ≡ rest = behind_of piece at.front rest at.is in
    let longer : length (at.front ++ at.b ∷ []) ≡ n + 1 = length-append at.front (at.b ∷ []) in
    let front_more : take (n + 1) piece ≡ at.front ++ at.b ∷ [] = ap (λ k. take k piece) (sym longer) ∙ front_of piece (at.front ++ at.b ∷ []) at.others split in
    let same : length (renumbered state at.front) ≡ n = length-renumbered at.front state in
    let wrote : new ≡ renumbered state at.front ++ rest = is_new ∙ at.makes in
    let behind_new : drop n new ≡ rest = ap (λ n. drop n new) (sym same) ∙ behind_of new (renumbered state at.front) rest wrote in
    let are_front : AreBytes at.front = AreBytes-begin at.front rest (rw at.is at are) in
    let all : run (started sought) (bytes ++ at.front) ≡ Going at.to = by.runs ∙ at.goes in
    let bad : NoneGoesOn sought (bytes ++ (at.front ++ at.b ∷ [])) = λ more payloads end whole.
    let joined : (bytes ++ (at.front ++ at.b ∷ [])) ++ more ≡ (bytes ++ at.front) ++ (at.b ∷ more) = ap (λ bs. bs ++ more) (sym (append_assoc bytes at.front (at.b ∷ []))) ∙ append_assoc (bytes ++ at.front) (at.b ∷ []) more in
    let fails : run (started sought) ((bytes ++ at.front) ++ (at.b ∷ more)) ≡ Failed (at.b ∷ more) = (goes-by (bytes ++ at.front) (at.b ∷ more) (started sought) at.to all).runs ∙ ap (λ (o : Outcome). run_by o at.b more (λ (s : State). run s more)) at.wrong in
    never (at.b ∷ more) end (sym fails ∙ sym (ap (run (started sought)) joined) ∙ whole_runs sought ((bytes ++ (at.front ++ at.b ∷ [])) ++ more) payloads end whole) in
    rw used (record {
      within = omega (arith, ap length split, length-append (at.front ++ at.b ∷ []) at.others, longer);
      good = rw front (goes_on sought (bytes ++ at.front) at.to took.small (AreBytes-append bytes at.front took.are are_front) all);
      bad = rw front_more bad;
      others = behind_new ∙ sym behind;
    })

answer_by : (sought : Sought) (bytes made piece new : List ℕ) (state after : State) (ending : Ending) → AreBytes piece → Took sought bytes made state → run state piece ≡ ending → new ≡ renumbered state piece → StandsAt after ending → Answers sought bytes made piece new after (progress_of (length piece) ending)
answer_by sought bytes made piece new state after (Going next) are took is is_new stands = rw stands (answer_more sought bytes made piece new state next are took is_new is)
answer_by sought bytes made piece new state after (Ended end rest) are took is is_new stands = answer_done sought bytes made piece new state end rest are took is_new is
answer_by sought bytes made piece new state after (Failed rest) are took is is_new stands = answer_bad sought bytes made piece new state rest are took is_new is

pub answers : (sought : Sought) (bytes made piece new : List ℕ) (state after : State) (progress : Progress) → AreBytes piece → Took sought bytes made state → Walked state piece after new progress → Answers sought bytes made piece new after progress
answers sought bytes made piece new state after progress are took walked = rw walked.answers (answer_by sought bytes made piece new state after (run state piece) are took refl walked.writes walked.stands)

-- no reply begins another
pub one-end : (sought : Sought) (bytes more : List ℕ) (payloads others : List (List ℕ)) (end last : ReplyEnd) → IsWhole sought bytes payloads end → IsWhole sought (bytes ++ more) others last → (more ≡ []) × (last ≡ end)
one-end sought bytes more payloads others end last whole longer =
    let crosses = (reply-sent sought.kind sought.number payloads end whole.reply).over sought.server sought.client in
    let ends : run (started sought) (bytes ++ more) ≡ Ended end more = ap (λ bs. run (started sought) (bs ++ more)) whole.spelled ∙ crosses.runs more in
    let same : Ended end more ≡ Ended last [] = sym ends ∙ whole_runs sought (bytes ++ more) others last longer in
    (cc, cc)
