-- What is heard of bytes behind a command is what the manual says, and nothing else.
use Rattle.std.proofs.Common.{◌≡◌, ◌≤◌, ◌<◌, ◌⊎◌, inl, inr, ℕ, ◌+◌, ◌-◌, List, [], ◌∷◌, ◌++◌, length, take, drop, refl, ◌∙◌, sym, ap, subst, arith, length-append, append_assoc}
use Rattle.std.proofs.lemmas.Bool.{cases_lt}
use Rattle.std.proofs.lemmas.List.{take-append-drop, length-take-le}
use Rattle.std.proofs.Math.Seq.{take-append_seam, take-add}
use Rattle.mx_base.specs.Fields.{AreBytes}
use Rattle.reply_track.specs.declared.reply.ReplyEnd.{ReplyEnd}
use Rattle.reply_track.specs.declared.reply.Progress.TheVariants.{Bad}
use Rattle.reply_track.specs.Runs.{Ending, run, renumbered, progress_of, StandsAt}
use Rattle.reply_track.specs.Runs.Ending.{Going, Ended, Failed}
use Rattle.reply_track.specs.Replying.{payloads_in}
use Rattle.reply_track.specs.Tracking.{Sought, IsWhole, GoesOn, NoneGoesOn, started, IsBad}
use Rattle.reply_track.proofs.Answering.{goes_on, answers, one-end}
use Rattle.reply_track.proofs.Replying.{handed-on, payloads-again}
use Rattle.exchange.specs.Replies.{Answer, Heard, Partly, Wholly, Never, Form, heard_by, heard_as}
use Rattle.exchange.specs.Manual.{of_form, HasReply, GoesWrong, IsHeard}

module _ (form : Form) (small : form.first < 256) where
  abbrev awaited : Sought
  awaited = of_form form

  fails : (bytes rest : List ℕ) → AreBytes bytes → run (started awaited) bytes ≡ Failed rest → GoesWrong form bytes (length bytes - length rest)
  fails bytes rest are is =
      let at : IsBad awaited [] bytes (renumbered (started awaited) bytes) (length bytes - length rest) =
      answers awaited [] [] bytes (renumbered (started awaited) bytes) (started awaited) (started awaited) (Bad (length bytes - length rest)) are
      (record { small = small; are = none; goes = refl; makes = refl })
      (record { are = are; answers = ap (progress_of (length bytes)) (sym is); writes = refl; stands = subst (StandsAt (started awaited)) (sym is) tt }) in
      record { within = at.within; good = at.good; bad = at.bad } where
        none : AreBytes []
        none i = omega arith

  heard_at : (bytes : List ℕ) (ending : Ending) → AreBytes bytes → run (started awaited) bytes ≡ ending → IsHeard form bytes (heard_by form.first bytes ending)
  heard_at bytes (Going state) are is = goes_on awaited bytes state small are is
  heard_at bytes (Ended end rest) are is =
      let at = handed-on awaited bytes end rest small are is in
      record {
        front = at.front;
        end = end;
        is = at.is;
        whole = rw (← at.cut) (record { reply = at.reply; spelled = at.spelled });
      }
  heard_at bytes (Failed rest) are is = fails bytes rest are is

  pub heard-is : (bytes : List ℕ) → AreBytes bytes → IsHeard form bytes (heard_as form bytes)
  heard-is bytes are = heard_at bytes (run (started awaited) bytes) are refl

  -- a part of a reply isn't a whole one, whatever comes
  part_isn't : (front rest : List ℕ) (reply : Answer) (end : ReplyEnd) → IsWhole awaited front reply end → GoesOn awaited (front ++ rest) → ⊥
  part_isn't front rest reply end whole part =
      let longer : IsWhole awaited (front ++ (rest ++ part.more)) part.payloads part.end =
      subst (λ bs. IsWhole awaited bs part.payloads part.end) (append_assoc front rest part.more) part.whole in
      let none : rest ++ part.more ≡ [] = (one-end awaited front (rest ++ part.more) reply part.payloads end part.end whole longer).0 in
      omega (arith, ap length none, length-append rest part.more, part.some)

  -- the bytes up to a place begin those up to a later one
  begins : (place later : ℕ) (bytes : List ℕ) → place ≤ later → take later bytes ≡ take place bytes ++ take (later - place) (drop place bytes)
  begins place later bytes less =
      let is : later ≡ place + (later - place) = omega arith in
      ap (λ n. take n bytes) is ∙ take-add place (later - place) bytes

  part_whole : (bytes : List ℕ) (reply : Answer) (rest : List ℕ) → GoesOn awaited bytes → HasReply form bytes reply rest → ⊥
  part_whole bytes reply rest part has = part_isn't has.front rest reply has.end has.whole (subst (GoesOn awaited) has.is part)

  part_wrong : (bytes begin behind : List ℕ) → bytes ≡ begin ++ behind → GoesOn awaited bytes → NoneGoesOn awaited begin → ⊥
  part_wrong bytes begin behind is part none =
      let all : bytes ++ part.more ≡ begin ++ (behind ++ part.more) = ap (λ bs. bs ++ part.more) is ∙ append_assoc begin behind part.more in
      none (behind ++ part.more) part.payloads part.end (subst (λ bs. IsWhole awaited bs part.payloads part.end) all part.whole)

  -- of two fronts of the same bytes one begins the other
  record Longer (front other rest behind : List ℕ) : Type 0 where
    more : List ℕ
    is : other ≡ front ++ more
    left : rest ≡ more ++ behind

  longer : (front other rest behind : List ℕ) → front ++ rest ≡ other ++ behind → length front ≤ length other → Longer front other rest behind
  longer [] other rest behind is less = record { more = other; is = refl; left = is }
  longer (a ∷ front) [] rest behind is less = absurd (omega arith)
  longer (a ∷ front) (b ∷ other) rest behind is less =
      let first : a ≡ b = cc in
      let same : front ++ rest ≡ other ++ behind = cc in
      let more = longer front other rest behind same (omega arith) in
      record { more = more.more; is = rw first (ap (λ bs. b ∷ bs) more.is); left = more.left }

  same_reply : (front other : List ℕ) (reply answer : Answer) (end last : ReplyEnd) → IsWhole awaited front reply end → IsWhole awaited other answer last → front ≡ other
      → reply ≡ answer
  same_reply front other reply answer end last one two is =
      sym (payloads-again form.first reply small) ∙ ap (payloads_in form.first) (sym one.spelled ∙ is ∙ two.spelled) ∙ payloads-again form.first answer small

  same_whole : (bytes : List ℕ) (reply answer : Answer) (rest behind : List ℕ) (one : HasReply form bytes reply rest) (two : HasReply form bytes answer behind)
      → length one.front ≤ length two.front → Wholly reply rest ≡ Wholly answer behind
  same_whole bytes reply answer rest behind one two less =
      let at = longer one.front two.front rest behind (sym one.is ∙ two.is) less in
      let again : IsWhole awaited (one.front ++ at.more) answer two.end = subst (λ bs. IsWhole awaited bs answer two.end) at.is two.whole in
      let none : at.more ≡ [] = (one-end awaited one.front at.more reply answer one.end two.end one.whole again).0 in
      let left : rest ≡ behind = at.left ∙ ap (λ bs. bs ++ behind) none in
      let front : one.front ≡ two.front = same_front one.front two.front rest behind (sym one.is ∙ two.is) left in
      let same : reply ≡ answer = same_reply one.front two.front reply answer one.end two.end one.whole two.whole front in
      rw (same, left) refl where
        same_front : (front other rest behind : List ℕ) → front ++ rest ≡ other ++ behind → rest ≡ behind → front ≡ other
        same_front front other rest behind is left =
            sym (take-append_seam front rest) ∙ ap (λ n. take n (front ++ rest)) size ∙ ap (take (length other)) is ∙ take-append_seam other behind where
              size : length front ≡ length other
              size = omega (arith, ap length is, length-append front rest, length-append other behind, ap length left)

  whole_whole : (bytes : List ℕ) (reply answer : Answer) (rest behind : List ℕ) → HasReply form bytes reply rest → HasReply form bytes answer behind → Wholly reply rest ≡ Wholly answer behind
  whole_whole bytes reply answer rest behind one two = by_length (cases_lt (length one.front) (length two.front)) where
    by_length : (length one.front < length two.front) ⊎ (length two.front ≤ length one.front) → Wholly reply rest ≡ Wholly answer behind
    by_length (inl less) = same_whole bytes reply answer rest behind one two (omega (arith, less))
    by_length (inr less) = sym (same_whole bytes answer reply behind rest two one less)

  whole_wrong : (bytes : List ℕ) (reply : Answer) (rest : List ℕ) (place : ℕ) → HasReply form bytes reply rest → GoesWrong form bytes place → ⊥
  whole_wrong bytes reply rest place has wrong = by_place (cases_lt place (length has.front)) where
    by_place : (place < length has.front) ⊎ (length has.front ≤ place) → ⊥
    by_place (inl less) =
        let size : length (take (place + 1) bytes) ≡ place + 1 = length-take-le (place + 1) bytes (omega (arith, wrong.within)) in
        let at = longer (take (place + 1) bytes) has.front (drop (place + 1) bytes) rest (take-append-drop (place + 1) bytes ∙ has.is) (omega (arith, size, less)) in
        wrong.bad at.more reply has.end (subst (λ bs. IsWhole awaited bs reply has.end) at.is has.whole)
    by_place (inr less) =
        let size : length (take place bytes) ≡ place = length-take-le place bytes (omega (arith, wrong.within)) in
        let at = longer has.front (take place bytes) rest (drop place bytes) (sym has.is ∙ sym (take-append-drop place bytes)) (omega (arith, size, less)) in
        part_isn't has.front at.more reply has.end has.whole (subst (GoesOn awaited) at.is wrong.good)

  wrong_wrong : (bytes : List ℕ) (place later : ℕ) → GoesWrong form bytes place → GoesWrong form bytes later → place < later → ⊥
  wrong_wrong bytes place later one two less =
      part_wrong (take later bytes) (take (place + 1) bytes) (take (later - (place + 1)) (drop (place + 1) bytes)) (begins (place + 1) later bytes (omega arith)) two.good one.bad

  part_never : (bytes : List ℕ) (place : ℕ) → GoesOn awaited bytes → GoesWrong form bytes place → ⊥
  part_never bytes place part wrong = part_wrong bytes (take (place + 1) bytes) (drop (place + 1) bytes) (sym (take-append-drop (place + 1) bytes)) part wrong.bad

  pub one-way : (bytes : List ℕ) (one other : Heard) → IsHeard form bytes one → IsHeard form bytes other → one ≡ other
  one-way bytes Partly Partly first second = refl
  one-way bytes Partly (Wholly reply rest) first second = absurd (part_whole bytes reply rest first second)
  one-way bytes Partly (Never place) first second = absurd (part_never bytes place first second)
  one-way bytes (Wholly reply rest) Partly first second = absurd (part_whole bytes reply rest second first)
  one-way bytes (Wholly reply rest) (Wholly answer behind) first second = whole_whole bytes reply answer rest behind first second
  one-way bytes (Wholly reply rest) (Never place) first second = absurd (whole_wrong bytes reply rest place first second)
  one-way bytes (Never place) Partly first second = absurd (part_never bytes place second first)
  one-way bytes (Never place) (Wholly reply rest) first second = absurd (whole_wrong bytes reply rest place second first)
  one-way bytes (Never place) (Never later) first second = by_order (cases_lt place later) where
    by_order : (place < later) ⊎ (later ≤ place) → Never place ≡ Never later
    by_order (inl less) = absurd (wrong_wrong bytes place later first second less)
    by_order (inr most) = by_more (cases_lt later place) where
      by_more : (later < place) ⊎ (place ≤ later) → Never place ≡ Never later
      by_more (inl less) = absurd (wrong_wrong bytes later place second first less)
      by_more (inr least) = let same : place ≡ later = omega (arith, most, least) in ap (λ n. Never n) same
