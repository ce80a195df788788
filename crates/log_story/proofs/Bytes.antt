-- Bytes that are a front of a reply's spelling, and replies of the grammar.
use Rattle.std.specs.Prelude.{◌≡◌, ℕ, List, [], ◌∷◌, ◌++◌}
use Rattle.std.proofs.Common.{refl, sym, ap, ◌∙◌, append-nil}
use Rattle.packet_frame.specs.Packets.{spellings}
use Rattle.reply_track.specs.declared.reply.ReplyEnd.{ReplyEnd}
use Rattle.reply_track.specs.Grammar.{IsReply}
use Rattle.reply_track.specs.Runs.{Ending, run}
use Rattle.reply_track.specs.Runs.Ending.{Going, Ended, Failed}
use Rattle.reply_track.specs.Tracking.{Sought, started}
use Rattle.reply_track.proofs.Sentences.{reply-sent}
use Rattle.reply_track.proofs.Replying.{ended-more}
use Rattle.log_story.specs.Honest.{IsFront}

-- A reply that ended stays so as more bytes come.

abbrev behind_of : Ending → List ℕ
behind_of (Going state) = []
behind_of (Ended end rest) = rest
behind_of (Failed rest) = rest

-- where a reply is found in the front of a whole one, it is that one

pub record IsAll (front whole rest : List ℕ) : Type 0 where
  pub none : rest ≡ []
  pub is : front ≡ whole

neither : (rest more : List ℕ) → rest ++ more ≡ [] → (rest ≡ []) × (more ≡ [])
neither [] more is = (refl, is)
neither (x ∷ rest) more is = absurd (cc)

pub all_of : (state : _) (front whole rest : List ℕ) (end last : ReplyEnd) → IsFront front whole → run state whole ≡ Ended last []
    → run state front ≡ Ended end rest → IsAll front whole rest
all_of state front whole rest end last at ends found =
    let longer : run state whole ≡ Ended end (rest ++ at.rest) = ap (run state) (sym at.is) ∙ ended-more state front at.rest end rest found in
    let none = neither rest at.rest (ap behind_of (sym longer ∙ ends)) in
    record { none = none.0; is = sym (append-nil front) ∙ ap (λ xs. front ++ xs) (sym none.1) ∙ at.is }

-- A reply of the grammar, and one that the automaton follows to its end.

pub ends-so : (sought : Sought) (payloads : List (List ℕ)) (end : ReplyEnd) → IsReply sought.kind payloads end
    → run (started sought) (spellings sought.server payloads) ≡ Ended end []
ends-so sought payloads end reply =
    ap (run (started sought)) (sym (append-nil (spellings sought.server payloads)))
    ∙ ((reply-sent sought.kind sought.number payloads end reply).over sought.server sought.client).runs []
