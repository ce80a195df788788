-- Ends of replies, one behind the other.
use Rattle.std.proofs.Common.{◌≡◌, ◌∙◌, ℕ, zero, suc, ◌+◌, ◌-◌, ◌<◌, ◌≤◌, List, [], ◌∷◌, ◌++◌, length, take, drop, Option, Some, None, ap, sym, subst, refl, append-nil, append_assoc, arith, length-append, length-drop, length-take-le, drop_at, take_all}
use borrow.Rule.Slice.PartMut.{put_mid}
use Rattle.std.proofs.lemmas.Grind.{common_steps}
use Rattle.std.proofs.lemmas.List.{drop-drop, drop_all}
use Rattle.reply_track.specs.Replying.{sought}
use Rattle.reply_track.specs.Runs.{Ending, Walked, progress_of, run}
use Rattle.reply_track.specs.Runs.Ending.{Going, Ended, Failed}
use Rattle.reply_track.specs.Tracking.{Took, started}
use Rattle.reply_track.specs.declared.place.State.{State}
use Rattle.reply_track.specs.declared.reply.EndKind.{EndKind}
use Rattle.reply_track.specs.declared.reply.Progress.{Progress}
use Rattle.reply_track.specs.declared.reply.Progress.TheVariants.{More, Done, Bad}
use Rattle.reply_track.specs.declared.reply.ReplyEnd.{ReplyEnd}
use Rattle.reply_track.specs.declared.reply.ReplyKind.TheVariants.{Command}
use Rattle.reply_track.proofs.Answering.{ends_by as ends-by-front}
use Rattle.generated_load.specs.Replies.{IsFirstBy, IsFirstEnd, begins, ends_by, ends_in, ends_within}
use Rattle.generated_load.specs.declared.replies.First.{First}

-- The first reply.

abbrev start : State
start = started (sought Command 1 1)

behind-front : (front rest : List ℕ) → drop (length (front ++ rest) - length rest) (front ++ rest) ≡ rest
behind-front front rest = grind (arith, common_steps)

behind : (piece : List ℕ) (end : ReplyEnd) (rest : List ℕ) → run start piece ≡ Ended end rest → drop (length piece - length rest) piece ≡ rest
behind piece end rest ended = let by = ends-by-front piece start end rest ended in rw by.is (behind-front by.front rest)

done-by : (ending : Ending) (piece new : List ℕ) (used : ℕ) (end : ReplyEnd) → run start piece ≡ ending → Done used end ≡ progress_of (length piece) ending
    → drop used new ≡ drop used piece → IsFirstBy ending piece new (Some (record { used = used; kind = end.kind }))
done-by (Going state) piece new used end is progress same = absurd (cc)
done-by (Ended last rest) piece new used end is progress same =
    let size : used ≡ length piece - length rest = cc in
    let ends : end ≡ last = cc in (
      rw (size, ends) refl,
      ap (λ n. drop n new) (sym size) ∙ same ∙ ap (λ n. drop n piece) size ∙ behind piece last rest is,
    )
done-by (Failed rest) piece new used end is progress same = absurd (cc)

pub first-done : (piece new : List ℕ) (state after : State) (used : ℕ) (end : ReplyEnd) → Took (sought Command 1 1) [] [] state → Walked state piece after new (Done used end)
    → drop used new ≡ drop used piece → IsFirstEnd piece new (Some (record { used = used; kind = end.kind }))
first-done piece new state after used end took walked same =
    let is : Going start ≡ Going state = took.goes in
    let at : start ≡ state = cc in
    done-by (run start piece) piece new used end refl (walked.answers ∙ ap (λ s. progress_of (length piece) (run s piece)) (sym at)) same

none-by : (ending : Ending) (piece new : List ℕ) (progress : Progress) → progress ≡ progress_of (length piece) ending → ((used : ℕ) (end : ReplyEnd) → progress ≡ Done used end → ⊥)
    → IsFirstBy ending piece new None
none-by (Going state) piece new progress is never = refl
none-by (Ended last rest) piece new progress is never = absurd (never _ _ is)
none-by (Failed rest) piece new progress is never = refl

pub first-none : (piece new : List ℕ) (state after : State) (progress : Progress) → Took (sought Command 1 1) [] [] state → Walked state piece after new progress
    → ((used : ℕ) (end : ReplyEnd) → progress ≡ Done used end → ⊥) → IsFirstEnd piece new None
first-none piece new state after progress took walked never =
    let is : Going start ≡ Going state = took.goes in
    let at : start ≡ state = cc in
    none-by (run start piece) piece new progress (walked.answers ∙ ap (λ s. progress_of (length piece) (run s piece)) (sym at)) never

-- All of them.

-- so many were looked for in the bytes, of which these are left behind the place
pub record InEnds (whole : List ℕ) (before : List EndKind) (bytes : List ℕ) (at count : ℕ) (ends : List EndKind) : Type 0 where
  pub size : length bytes ≡ length whole
  pub within : at ≤ length bytes
  pub left : ends ++ ends_within (length whole - count) (drop at bytes) ≡ before ++ ends_in whole

next-end : (ending : Ending) (bytes new : List ℕ) (first : First) (others : List ℕ → List EndKind) → IsFirstBy ending bytes new (Some first)
    → (ends_by ending others ≡ first.kind ∷ others (drop first.used new)) × (first.used ≤ length bytes)
next-end (Going state) bytes new first others is = absurd (cc)
next-end (Ended end rest) bytes new first others is =
    let same : first ≡ record { used = length bytes - length rest; kind = end.kind } = cc in
    (rw same (ap (λ bs. end.kind ∷ others bs) (sym is.1)), rw same (omega arith))
next-end (Failed rest) bytes new first others is = absurd (cc)

last-end : (ending : Ending) (bytes new : List ℕ) (others : List ℕ → List EndKind) → IsFirstBy ending bytes new None → ends_by ending others ≡ []
last-end (Going state) bytes new others is = refl
last-end (Ended end rest) bytes new others is = absurd (cc)
last-end (Failed rest) bytes new others is = refl

within-next : (most : ℕ) (bytes : List ℕ) → 0 < most → ends_within most bytes ≡ ends_by (begins bytes) (λ rest. ends_within (most - 1) rest)
within-next zero bytes some = absurd (omega (arith, some))
within-next (suc most) bytes some = let same : suc most - 1 ≡ most = omega arith in rw same refl

goes-on : (whole : List ℕ) (before : List EndKind) (bytes after new : List ℕ) (at count : ℕ) (ends : List EndKind) (first : First) → InEnds whole before bytes at count ends
    → count < length whole → IsFirstEnd (drop at bytes) new (Some first) → length after ≡ length bytes → drop at after ≡ new
    → InEnds whole before after (at + first.used) (count + 1) (ends ++ first.kind ∷ [])
goes-on whole before bytes after new at count ends first so more is size there =
    let next = next-end (begins (drop at bytes)) (drop at bytes) new first (λ rest. ends_within (length whole - count - 1) rest) is in
    let behind-it : drop (at + first.used) after ≡ drop first.used new = sym (drop-drop first.used at after) ∙ ap (drop first.used) there in
    let less : length whole - (count + 1) ≡ length whole - count - 1 = omega arith in
    record {
      size = size ∙ so.size;
      within = grind (arith, common_steps, so.within, size, next.1);
      left = rw (behind-it, less) (
          append_assoc ends (first.kind ∷ []) (ends_within (length whole - count - 1) (drop first.used new)) ∙ ap (λ es. ends ++ es) (sym next.0)
          ∙ ap (λ es. ends ++ es) (sym (within-next (length whole - count) (drop at bytes) (omega (arith, more)))) ∙ so.left
          );
    }

ends-there : (whole : List ℕ) (before : List EndKind) (bytes new : List ℕ) (at count : ℕ) (ends : List EndKind) → InEnds whole before bytes at count ends
    → count < length whole → IsFirstEnd (drop at bytes) new None → ends ≡ before ++ ends_in whole
ends-there whole before bytes new at count ends so more is =
    sym (append-nil ends) ∙ ap (λ es. ends ++ es) (sym (last-end (begins (drop at bytes)) (drop at bytes) new (λ rest. ends_within (length whole - count - 1) rest) is))
    ∙ ap (λ es. ends ++ es) (sym (within-next (length whole - count) (drop at bytes) (omega (arith, more)))) ∙ so.left

-- The tail of the bytes was rewritten.

tail-whole : (at : ℕ) (bytes : List ℕ) → take (length bytes - at) (drop at bytes) ≡ drop at bytes
tail-whole at bytes =
    let left : length (drop at bytes) ≡ length bytes - at = length-drop at bytes in
    take_all (length bytes - at) (drop at bytes) (omega (arith, left))

pub tail-size : (at : ℕ) (bytes : List ℕ) → length (take (length bytes - at) (drop at bytes)) ≡ length bytes - at
tail-size at bytes = ap length (tail-whole at bytes) ∙ length-drop at bytes

put-behind : (at : ℕ) (bytes new : List ℕ) → put_mid at (length bytes - at) bytes new ≡ take at bytes ++ new
put-behind at bytes new =
    let left : length (drop at bytes) ≡ length bytes - at = length-drop at bytes in
    let few : length (drop at bytes) ≤ length bytes - at = omega (arith, left) in
    rw (drop_all (length bytes - at) (drop at bytes) few, append-nil new) refl

pub goes-on-behind : (whole : List ℕ) (before : List EndKind) (bytes new : List ℕ) (at count : ℕ) (ends : List EndKind) (first : First) → InEnds whole before bytes at count ends
    → count < length whole → IsFirstEnd (take (length bytes - at) (drop at bytes)) new (Some first) → length new ≡ length bytes - at
    → InEnds whole before (put_mid at (length bytes - at) bytes new) (at + first.used) (count + 1) (ends ++ first.kind ∷ [])
goes-on-behind whole before bytes new at count ends first so more is same =
    let within : at ≤ length bytes = so.within in
    let front : length (take at bytes) ≡ at = length-take-le at bytes within in
    let both : length (take at bytes ++ new) ≡ length (take at bytes) + length new = length-append (take at bytes) new in
    let size : length (take at bytes ++ new) ≡ length bytes = omega (arith, front, both, same, within) in
    let found : IsFirstEnd (drop at bytes) new (Some first) = subst (λ (piece : List ℕ). IsFirstEnd piece new (Some first)) (tail-whole at bytes) is in
    rw (put-behind at bytes new) (goes-on whole before bytes (take at bytes ++ new) new at count ends first so more found size (drop_at (take at bytes) new at front))

pub ends-behind : (whole : List ℕ) (before : List EndKind) (bytes new : List ℕ) (at count : ℕ) (ends : List EndKind) → InEnds whole before bytes at count ends
    → count < length whole → IsFirstEnd (take (length bytes - at) (drop at bytes)) new None → ends ≡ before ++ ends_in whole
ends-behind whole before bytes new at count ends so more is =
    ends-there whole before bytes new at count ends so more (subst (λ (piece : List ℕ). IsFirstEnd piece new None) (tail-whole at bytes) is)
