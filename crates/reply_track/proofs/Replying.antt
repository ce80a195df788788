-- What more bytes do to a reply, what the client's ids do to how it ends, and a whole reply at the front of bytes.
use Rattle.std.proofs.Common.{◌≡◌, ◌≤◌, ◌<◌, ℕ, zero, suc, ◌+◌, ◌-◌, ◌*◌, ◌/◌, ◌%◌, Bool, true, false, cond, not, nat_le, nat_eq, Option, Some, None, List, [], ◌∷◌, ◌++◌, length, take, refl, ◌∙◌, sym, ap, subst, arith, length-append, append-nil}
use Rattle.std.proofs.Math.Seq.{take-append_seam}
use Rattle.mx_base.specs.Fields.{AreBytes}
use Rattle.packet_frame.specs.Packets.{Framed, Found, longest, first_message, spellings, id_behind}
use Rattle.packet_frame.specs.Packets.Found.{Whole}
use Rattle.packet_frame.specs.Laws.{first_message-shorter, first_message-empty}
use Rattle.packet_frame.specs.RoundTrip.{first_message-again}
use Rattle.reply_track.specs.declared.due.Next.TheVariants.{Goes, Ends}
use Rattle.reply_track.specs.declared.reply.ReplyEnd.{ReplyEnd}
use Rattle.reply_track.specs.declared.reply.ReplyKind.{ReplyKind}
use Rattle.reply_track.specs.declared.body.Body.{Body}
use Rattle.reply_track.specs.declared.body.Body.TheVariants.{Due as DueBody, Cell as CellBody, Number as NumberBody, Rest}
use Rattle.reply_track.specs.declared.place.Place.{Place}
use Rattle.reply_track.specs.declared.place.Place.TheVariants.{First, Second, Third, Id as IdPlace, Body as BodyPlace}
use Rattle.reply_track.specs.declared.place.State.{State}
use Rattle.reply_track.specs.declared.place.Outcome.{Outcome}
use Rattle.reply_track.specs.declared.place.Outcome.TheVariants.{On, Over, Wrong}
use Rattle.reply_track.specs.Grammar.{IsReply, renamed}
use Rattle.reply_track.specs.Steps.{next_id, numbered, step, packet_ended, empty_by, empty_body, payload_by, taken, body_takes_low, body_takes_length}
use Rattle.reply_track.specs.Runs.{Ending, run, run_by, renumbered}
use Rattle.reply_track.specs.Runs.Ending.{Going, Ended, Failed}
use Rattle.reply_track.specs.Replying.{sought, payloads_by, payloads_within, payloads_in}
use Rattle.reply_track.specs.Tracking.{Sought, started}
use Rattle.reply_track.proofs.Crossing.{mk}
use Rattle.reply_track.proofs.Meaning.{reply-found}
use Rattle.reply_track.proofs.Answering.{goes-by, ends_by, fails_by, whole_makes, AreBytes-begin}
pub use Rattle.reply_track.proofs.Answering.{length-renumbered}

-- bytes behind those at which a reply goes on
pub run-more : (s t : State) (xs ys : List ℕ) → run s xs ≡ Going t → run s (xs ++ ys) ≡ run t ys
run-more s t xs ys goes = (goes-by xs ys s t goes).runs

pub renumbered-more : (s t : State) (xs ys : List ℕ) → run s xs ≡ Going t → renumbered s (xs ++ ys) ≡ renumbered s xs ++ renumbered t ys
renumbered-more s t xs ys goes = (goes-by xs ys s t goes).makes

-- bytes behind those with which it ended or failed
ended_step : (xs ys r : List ℕ) (b : ℕ) (e : ReplyEnd) (at : Outcome) → ((n : State) → run n xs ≡ Ended e r → run n (xs ++ ys) ≡ Ended e (r ++ ys))
    → run_by at b xs (λ (n : State). run n xs) ≡ Ended e r → run_by at b (xs ++ ys) (λ (n : State). run n (xs ++ ys)) ≡ Ended e (r ++ ys)
ended_step xs ys r b e (On n) others is = others n is
ended_step xs ys r b e (Over f) others is = let same : f ≡ e = cc in let left : xs ≡ r = cc in rw (same, left) refl
ended_step xs ys r b e Wrong others is = absurd (cc)

pub ended-more : (s : State) (xs ys : List ℕ) (e : ReplyEnd) (r : List ℕ) → run s xs ≡ Ended e r → run s (xs ++ ys) ≡ Ended e (r ++ ys)
ended-more s [] ys e r is = absurd (cc)
ended-more s (b ∷ xs) ys e r is = ended_step xs ys r b e (step s b) (λ n. ended-more n xs ys e r) is

failed_step : (xs ys r : List ℕ) (b : ℕ) (at : Outcome) → ((n : State) → run n xs ≡ Failed r → run n (xs ++ ys) ≡ Failed (r ++ ys))
    → run_by at b xs (λ (n : State). run n xs) ≡ Failed r → run_by at b (xs ++ ys) (λ (n : State). run n (xs ++ ys)) ≡ Failed (r ++ ys)
failed_step xs ys r b (On n) others is = others n is
failed_step xs ys r b (Over f) others is = absurd (cc)
failed_step xs ys r b Wrong others is = let left : b ∷ xs ≡ r = cc in ap (λ bs. Failed (bs ++ ys)) left

pub failed-more : (s : State) (xs ys r : List ℕ) → run s xs ≡ Failed r → run s (xs ++ ys) ≡ Failed (r ++ ys)
failed-more s [] ys r is = absurd (cc)
failed-more s (b ∷ xs) ys r is = failed_step xs ys r b (step s b) (λ n. failed-more n xs ys r) is

nonempty : (s : State) (front : List ℕ) (e : ReplyEnd) → run s front ≡ Ended e [] → 0 < length front
nonempty s [] e is = absurd (cc)
nonempty s (b ∷ front) e is = omega arith

pub ended-shorter : (s : State) (xs r : List ℕ) (e : ReplyEnd) → run s xs ≡ Ended e r → length r < length xs
ended-shorter s xs r e is =
    let at = ends_by xs s e r is in
    omega (arith, nonempty s at.front e at.ends, ap length at.is, length-append at.front r)

pub failed-shorter : (s : State) (xs r : List ℕ) → run s xs ≡ Failed r → (0 < length r) × (length r ≤ length xs)
failed-shorter s xs r is =
    let at = fails_by xs s r is in
    (omega (arith, ap length at.first), omega (arith, ap length at.is, length-append at.front r))

-- states that differ in what the client gets alone: its id and its number
abbrev pub IsSame : State → State → Type 0
IsSame a b = b ≡ record a { client = b.client; number = b.number }

abbrev pub SameEnd : Ending → Ending → Type 0
SameEnd (Going a) (Going b) = IsSame a b
SameEnd (Ended e r) (Ended f q) = (e ≡ f) × (r ≡ q)
SameEnd (Failed r) (Failed q) = r ≡ q
SameEnd _ _ = ⊥

abbrev SameStep : Outcome → Outcome → Type 0
SameStep (On a) (On b) = IsSame a b
SameStep (Over e) (Over f) = e ≡ f
SameStep Wrong Wrong = Unit {0}
SameStep _ _ = ⊥

-- a step does the same to two such states
abbrev Alike : (server client number other another : ℕ) → Place → Body → (State → Outcome) → Type 0
Alike server client number other another place body does = SameStep (does (mk server client number place body)) (does (mk server other another place body))

same_choice : (server client number other another : ℕ) (place next : Place) (body : Body) (test : Bool)
    → Alike server client number other another place body (λ (s : State). cond test (On (record s { place = next })) Wrong)
same_choice server client number other another place next body true = refl
same_choice server client number other another place next body false = tt

same_ended : (server client number other another : ℕ) (place : Place) (body : Body) (long : Bool) (last : Body)
    → Alike server client number other another place body (λ (s : State). packet_ended s long last)
same_ended server client number other another place body long (DueBody due) = tt
same_ended server client number other another place body long (CellBody cell) = tt
same_ended server client number other another place body long (NumberBody field size value) = tt
same_ended server client number other another place body true (Rest next) = refl
same_ended server client number other another place body false (Rest (Goes due)) = refl
same_ended server client number other another place body false (Rest (Ends end)) = refl

same_empty : (server client number other another : ℕ) (place : Place) (body : Body) (found : Option Body)
    → Alike server client number other another place body (λ (s : State). empty_by s found)
same_empty server client number other another place body None = tt
same_empty server client number other another place body (Some last) = same_ended server client number other another place body false last

same_left : (server client number other another left : ℕ) (place : Place) (body last : Body) (long only : Bool)
    → Alike server client number other another place body (λ (s : State). cond only (packet_ended s long last) (On (record s { place = BodyPlace (left - 1) long; body = last })))
same_left server client number other another left place body last long true = same_ended server client number other another place body long last
same_left server client number other another left place body last long false = refl

same_payload : (server client number other another left : ℕ) (place : Place) (body : Body) (long : Bool) (found : Option Body)
    → Alike server client number other another place body (λ (s : State). payload_by s left long found)
same_payload server client number other another left place body long None = tt
same_payload server client number other another left place body long (Some last) = same_left server client number other another left place body last long (nat_le left 1)

same_id : (server client number other another length : ℕ) (body : Body) (right empty long : Bool)
    → Alike server client number other another (IdPlace length) body (λ (s : State).
    cond (not right) Wrong (cond empty (empty_by (numbered s) (empty_body body)) (On (record (numbered s) { place = BodyPlace length long }))))
same_id server client number other another length body false empty long = tt
same_id server client number other another length body true true long =
    same_empty (next_id server) (next_id client) number (next_id other) another (IdPlace length) body (empty_body body)
same_id server client number other another length body true false long = refl

step-same : (server client number other another : ℕ) (place : Place) (body : Body) (b : ℕ)
    → Alike server client number other another place body (λ (s : State). step s b)
step-same server client number other another First body b = same_choice server client number other another First (Second b) body (body_takes_low body b)
step-same server client number other another (Second low) body b =
    same_choice server client number other another (Second low) (Third (low + 256 * b)) body (body_takes_low body (low + 256 * b))
step-same server client number other another (Third low) body b =
    same_choice server client number other another (Third low) (IdPlace (low + 65536 * b)) body (body_takes_length body (low + 65536 * b))
step-same server client number other another (IdPlace length) body b =
    same_id server client number other another length body (nat_eq b server) (nat_eq length 0) (nat_eq length longest)
step-same server client number other another (BodyPlace left long) body b =
    same_payload server client number other another left (BodyPlace left long) body long (taken body left b)

same_by : (x y : Outcome) (b : ℕ) (xs : List ℕ) → ((s t : State) → IsSame s t → SameEnd (run s xs) (run t xs)) → SameStep x y
    → SameEnd (run_by x b xs (λ (n : State). run n xs)) (run_by y b xs (λ (n : State). run n xs))
same_by (On s) (On t) b xs others same = others s t same
same_by (Over e) (Over f) b xs others same = (same, refl)
same_by Wrong Wrong b xs others same = refl
same_by (On s) (Over f) b xs others same = absurd same
same_by (On s) Wrong b xs others same = absurd same
same_by (Over e) (On t) b xs others same = absurd same
same_by (Over e) Wrong b xs others same = absurd same
same_by Wrong (On t) b xs others same = absurd same
same_by Wrong (Over f) b xs others same = absurd same

pub run-same : (xs : List ℕ) (s t : State) → IsSame s t → SameEnd (run s xs) (run t xs)
run-same [] s t same = same
run-same (b ∷ xs) s t same =
    let stepped : SameStep (step s b) (step t b) =
    subst (λ (u : State). SameStep (step s b) (step u b)) (sym same) (step-same s.server s.client s.number t.client t.number s.place s.body b) in
    same_by (step s b) (step t b) b xs (run-same xs) stepped

-- the client's ids don't matter to how bytes end
pub same-end : (kind : ReplyKind) (id a b : ℕ) (xs : List ℕ) → SameEnd (run (started (sought kind id a)) xs) (run (started (sought kind id b)) xs)
same-end kind id a b xs = run-same xs (started (sought kind id a)) (started (sought kind id b)) refl

-- payloads are found in their spellings again
first_again : (limit first : ℕ) (p : List ℕ) (ps : List (List ℕ)) → first < 256 → length p ≤ limit
    → first_message limit first (spellings first (p ∷ ps)) ≡ Whole (record { first = first; last = (first + length p / longest) % 256; payload = p }) (spellings (id_behind first p) ps)
first_again limit first p ps small fits = first_message-again limit first p (spellings (id_behind first p) ps) small fits

spelled_size : (first : ℕ) (p : List ℕ) (ps : List (List ℕ)) → first < 256
    → length (spellings (id_behind first p) ps) + length p + 4 ≤ length (spellings first (p ∷ ps))
spelled_size first p ps small =
    let message : Framed = record { first = first; last = (first + length p / longest) % 256; payload = p } in
    first_message-shorter (length p) first (spellings first (p ∷ ps)) message (spellings (id_behind first p) ps) (first_again (length p) first p ps small (omega arith))

abbrev behind_it : (count limit : ℕ) → Framed → List ℕ → List (List ℕ)
behind_it count limit message rest = message.payload ∷ payloads_within count limit (next_id message.last) rest

within_again : (payloads : List (List ℕ)) (count limit first : ℕ) → first < 256 → length (spellings first payloads) ≤ count
    → length (spellings first payloads) ≤ limit → payloads_within count limit first (spellings first payloads) ≡ payloads
within_again [] zero limit first small enough allowed = refl
within_again [] (suc count) limit first small enough allowed =
    ap (λ (found : Found). payloads_by found (behind_it count limit)) (first_message-empty limit first)
within_again (p ∷ ps) zero limit first small enough allowed = absurd (omega (arith, spelled_size first p ps small, enough))
within_again (p ∷ ps) (suc count) limit first small enough allowed =
    let others : List ℕ = spellings (id_behind first p) ps in
    let size = spelled_size first p ps small in
    let id : next_id ((first + length p / longest) % 256) ≡ id_behind first p = omega arith in
    let behind : payloads_within count limit (id_behind first p) others ≡ ps =
    within_again ps count limit (id_behind first p) (omega arith) (omega (arith, size, enough)) (omega (arith, size, allowed)) in
    ap (λ (found : Found). payloads_by found (behind_it count limit)) (first_again limit first p ps small (omega (arith, size, allowed)))
    ∙ ap (λ (n : ℕ). p ∷ payloads_within count limit n others) id ∙ ap (λ qs. p ∷ qs) behind

pub payloads-again : (first : ℕ) (payloads : List (List ℕ)) → first < 256 → payloads_in first (spellings first payloads) ≡ payloads
unfolding payloads_in
payloads-again first payloads small =
    let size : ℕ = length (spellings first payloads) in
    within_again payloads size size first small (omega arith) (omega arith)

-- a whole reply at the front of bytes, and what the client gets of them
pub record IsHandedOn (sought : Sought) (xs : List ℕ) (e : ReplyEnd) (rest : List ℕ) : Type 0 where
  pub front : List ℕ
  pub is : xs ≡ front ++ rest
  pub cut : front ≡ take (length xs - length rest) xs
  pub reply : IsReply sought.kind (payloads_in sought.server front) e
  pub spelled : front ≡ spellings sought.server (payloads_in sought.server front)
  pub handed : renumbered (started sought) xs ≡ spellings sought.client (renamed sought.kind sought.number (payloads_in sought.server front)) ++ rest

pub handed-on : (sought : Sought) (xs : List ℕ) (e : ReplyEnd) (rest : List ℕ) → sought.server < 256 → AreBytes xs → run (started sought) xs ≡ Ended e rest
    → IsHandedOn sought xs e rest
handed-on sought xs e rest small are ended =
    let at = ends_by xs (started sought) e rest ended in
    let are_front : AreBytes at.front = AreBytes-begin at.front rest (rw at.is at are) in
    let found = reply-found sought at.front e [] are_front at.ends in
    let spelled : at.front ≡ spellings sought.server found.payloads = found.is ∙ append-nil (spellings sought.server found.payloads) in
    let again : payloads_in sought.server at.front ≡ found.payloads = ap (payloads_in sought.server) spelled ∙ payloads-again sought.server found.payloads small in
    let used : length xs - length rest ≡ length at.front = omega (arith, ap length at.is, length-append at.front rest) in
    let cut : take (length xs - length rest) xs ≡ at.front =
    ap (λ n. take n xs) used ∙ ap (take (length at.front)) at.is ∙ take-append_seam at.front rest in
    let handed = whole_makes sought at.front found.payloads e (record { reply = found.reply; spelled = spelled }) in
    record {
      front = at.front;
      is = at.is;
      cut = sym cut;
      reply = rw again found.reply;
      spelled = spelled ∙ ap (spellings sought.server) (sym again);
      handed = at.makes ∙ ap (λ bs. bs ++ rest) (handed ∙ ap (λ ps. spellings sought.client (renamed sought.kind sought.number ps)) (sym again));
    }
