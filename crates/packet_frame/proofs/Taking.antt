-- Messages that are taken from a framer, one after the other.
use Rattle.std.proofs.Common.{◌≡◌, ◌<◌, ℕ, zero, suc, ◌+◌, List, [], ◌∷◌, ◌++◌, length, map, take, drop, slice_index_or, Option, Some, None, Result, Ok, Err, refl, ◌∙◌, sym, ap, subst, arith, append_assoc, append-nil}
use Rattle.std.proofs.lemmas.List.{map-append}
use Rattle.packet_frame.specs.declared.fault.FrameFault.{FrameFault}
use Rattle.packet_frame.specs.declared.message.Message.{Message}
use Rattle.packet_frame.specs.Packets.{Framed, Found, first_message, Split, with_front, split, grown, message_size}
use Rattle.packet_frame.specs.Packets.Found.{Nothing, Whole, Faulty}
use Rattle.packet_frame.specs.Laws.{split-nothing, split-whole, split-faulty, split-grown, first_message-empty, first_message-shorter}
use Rattle.packet_frame.specs.MessageLaws.{first_message-goes}
use Rattle.packet_frame.specs.FramerState.{FramerState, look_by, look, seen, answer, past}
use Rattle.packet_frame.specs.Pieces.{joined, payload_of, pending_by, pending, IsTaken, AllTaken}

-- more bytes
pending-fed : (fault : Option FrameFault) (limit first : ℕ) (kept piece : List ℕ) → pending_by fault (kept ++ piece) (split limit first (kept ++ piece))
    ≡ grown limit first (pending_by fault kept (split limit first kept)).messages (pending_by fault kept (split limit first kept)).rest (pending_by fault kept (split limit first kept)).fault piece
pending-fed None limit first kept piece = split-grown limit first kept piece
pending-fed (Some fault) limit first kept piece = refl

grown-behind : (limit first : ℕ) (taken messages : List Framed) (rest : List ℕ) (fault : Option FrameFault) (more : List ℕ) → grown limit first (taken ++ messages) rest fault more ≡ with_front taken (grown limit first messages rest fault more)
grown-behind limit first taken messages rest None more = ap (λ ms. record { messages = ms; rest = (split limit first (rest ++ more)).rest; fault = (split limit first (rest ++ more)).fault }) (append_assoc taken messages (split limit first (rest ++ more)).messages)
grown-behind limit first taken messages rest (Some fault) more = refl

pub taken-fed : (first : ℕ) (bytes piece : List ℕ) (payloads : List (List ℕ)) (state : FramerState) → IsTaken first (split state.limit first bytes) payloads state → IsTaken first (split state.limit first (bytes ++ piece)) payloads (record state { kept = state.kept ++ piece })
taken-fed first bytes piece payloads state at =
    let left : Split = pending first state in
    record {
      taken = at.taken;
      are = at.are;
      others = split-grown state.limit first bytes piece
          ∙ ap (λ (s : Split). grown state.limit first s.messages s.rest s.fault piece) at.others
          ∙ grown-behind state.limit first at.taken left.messages left.rest left.fault piece
          ∙ ap (with_front at.taken) (sym (pending-fed state.fault state.limit first state.kept piece));
    }

-- a look
looked-left : (limit first : ℕ) (kept : List ℕ) (was : Option Framed) (fault : Option FrameFault) (found : Found) → first_message limit first kept ≡ found
    → pending first (seen (record { limit = limit; kept = kept; found = was; fault = fault }) (look_by fault found)) ≡ pending_by fault kept (split limit first kept)
looked-left limit first kept was None Nothing is = refl
looked-left limit first kept was None (Whole message rest) is = refl
looked-left limit first kept was None (Faulty fault) is = sym (split-faulty limit first kept fault is)
looked-left limit first kept was (Some fault) found is = refl

pub seen-limit : (state : FramerState) (found : Found) → (seen state found).limit ≡ state.limit
seen-limit state Nothing = refl
seen-limit state (Whole message rest) = refl
seen-limit state (Faulty fault) = refl

pub seen-kept : (state : FramerState) (found : Found) → (seen state found).kept ≡ state.kept
seen-kept state Nothing = refl
seen-kept state (Whole message rest) = refl
seen-kept state (Faulty fault) = refl

pub taken-looked : (first : ℕ) (all : Split) (payloads : List (List ℕ)) (state next : FramerState) → next ≡ seen state (look first state) → IsTaken first all payloads state → IsTaken first all payloads next
taken-looked first all payloads state next is at =
    let left : pending first (seen state (look first state)) ≡ pending first state = looked-left state.limit first state.kept state.found state.fault (first_message state.limit first state.kept) refl in
    subst (IsTaken first all payloads) (sym is) (record {
      taken = at.taken;
      are = at.are;
      others = at.others ∙ ap (with_front at.taken) (sym left);
    })

-- what the look found
found-none : (found : Found) → answer found ≡ Ok None → found ≡ Nothing
found-none Nothing is = refl
found-none (Whole message rest) is = absurd (cc)
found-none (Faulty fault) is = absurd (cc)

found-fault : (found : Found) (fault : FrameFault) → answer found ≡ Err fault → found ≡ Faulty fault
found-fault Nothing fault is = absurd (cc)
found-fault (Whole message rest) fault is = absurd (cc)
found-fault (Faulty other) fault is = cc

-- none was found, or a fault: nothing is left to take
pub record Dry (first : ℕ) (fault : Option FrameFault) (state : FramerState) : Type 0 where
  pub messages : (pending first state).messages ≡ []
  pub faulty : (pending first state).fault ≡ fault

dry-none : (limit first : ℕ) (kept : List ℕ) (was : Option Framed) (fault : Option FrameFault) → look_by fault (first_message limit first kept) ≡ Nothing → Dry first None (record { limit = limit; kept = kept; found = None; fault = fault })
dry-none limit first kept was None is = record { messages = ap (λ (s : Split). s.messages) (split-nothing limit first kept is); faulty = ap (λ (s : Split). s.fault) (split-nothing limit first kept is) }
dry-none limit first kept was (Some fault) is = absurd (cc)

pub looked-none : (first : ℕ) (state next : FramerState) (result : Result (Option Message) FrameFault) → next ≡ seen state (look first state) → result ≡ answer (look first state) → result ≡ Ok None → Dry first None next
looked-none first state next result is gives none =
    let nothing : look first state ≡ Nothing = found-none (look first state) (sym gives ∙ none) in
    subst (Dry first None) (sym (is ∙ ap (seen state) nothing)) (dry-none state.limit first state.kept state.found state.fault nothing)

pub looked-fault : (first : ℕ) (state next : FramerState) (result : Result (Option Message) FrameFault) (fault : FrameFault) → next ≡ seen state (look first state) → result ≡ answer (look first state) → result ≡ Err fault → Dry first (Some fault) next
looked-fault first state next result fault is gives faulty =
    let at : look first state ≡ Faulty fault = found-fault (look first state) fault (sym gives ∙ faulty) in
    subst (Dry first (Some fault)) (sym (is ∙ ap (seen state) at)) (record { messages = refl; faulty = refl })

-- a message was found
pub record Ready (first : ℕ) (message : Framed) (state : FramerState) : Type 0 where
  pub found : state.found ≡ Some message
  pub faultless : state.fault ≡ None
  pub shorter : length (past state).kept < length state.kept
  pub left : split state.limit first state.kept ≡ with_front (message ∷ []) (split state.limit first (past state).kept)

found-message : (found : Found) (message : Message) → answer found ≡ Ok (Some message) → (framed : Framed) × (rest : List ℕ) × (found ≡ Whole framed rest)
found-message Nothing message is = absurd (cc)
found-message (Whole framed rest) message is = (framed, rest, refl)
found-message (Faulty fault) message is = absurd (cc)

ready-by : (limit first : ℕ) (kept : List ℕ) (fault : Option FrameFault) (message : Framed) (rest : List ℕ) → look_by fault (first_message limit first kept) ≡ Whole message rest → Ready first message (record { limit = limit; kept = kept; found = Some message; fault = fault })
ready-by limit first kept None message rest is =
    let goes : rest ≡ drop (message_size kept) kept = first_message-goes limit first kept message rest is in
    record {
      found = refl;
      faultless = refl;
      shorter = omega (arith, first_message-shorter limit first kept message rest is, ap length goes);
      left = split-whole limit first kept message rest is ∙ ap (λ xs. with_front (message ∷ []) (split limit first xs)) goes;
    }
ready-by limit first kept (Some fault) message rest is = absurd (cc)

pub looked-message : (first : ℕ) (state next : FramerState) (result : Result (Option Message) FrameFault) (message : Message) → next ≡ seen state (look first state) → result ≡ answer (look first state) → result ≡ Ok (Some message) → (framed : Framed) × Ready first framed next
looked-message first state next result message is gives found =
    let at = found-message (look first state) message (sym gives ∙ found) in
    (at.0, subst (Ready first at.0) (sym (is ∙ ap (seen state) at.2)) (ready-by state.limit first state.kept state.fault at.0 at.1 at.2))

pub taken-done : (first : ℕ) (all : Split) (payloads more : List (List ℕ)) (message : Framed) (state next : FramerState) → Ready first message state → more ≡ payloads ++ message.payload ∷ [] → next ≡ past state → IsTaken first all payloads state → IsTaken first all more next
taken-done first all payloads more message state next ready more_is next_is at =
    let rest : Split = split state.limit first (past state).kept in
    let left : pending first state ≡ with_front (message ∷ []) rest = ap (λ fault. pending_by fault state.kept (split state.limit first state.kept)) ready.faultless ∙ ready.left in
    let behind : pending first (past state) ≡ rest = ap (λ fault. pending_by fault (past state).kept rest) ready.faultless in
    subst (IsTaken first all more) (sym next_is) (record {
      taken = at.taken ++ message ∷ [];
      are = more_is ∙ ap (λ xs. xs ++ message.payload ∷ []) at.are ∙ sym (map-append payload_of at.taken (message ∷ []));
      others = at.others ∙ ap (with_front at.taken) left
          ∙ ap (λ ms. record { messages = ms; rest = rest.rest; fault = rest.fault }) (sym (append_assoc at.taken (message ∷ []) rest.messages))
          ∙ ap (with_front (at.taken ++ message ∷ [])) (sym behind);
    })

pub taken-shorter : (first : ℕ) (message : Framed) (state next : FramerState) → Ready first message state → next ≡ past state → length next.kept < length state.kept
taken-shorter first message state next ready is = omega (arith, ready.shorter, ap (λ (s : FramerState). length s.kept) is)

-- all that the bytes have
pub all-none : (limit first : ℕ) → AllTaken limit first [] [] None (record { limit = limit; kept = []; found = None; fault = None })
all-none limit first =
    let none = split-nothing limit first [] (first_message-empty limit first) in
    record {
      same = refl;
      part = record { taken = []; are = refl; others = refl };
      dry = ap (λ (s : Split). s.messages) none;
      faulty = ap (λ (s : Split). s.fault) none;
    }

pub all-fed : (limit first : ℕ) (bytes piece : List ℕ) (payloads : List (List ℕ)) (fault : Option FrameFault) (state next : FramerState) → next ≡ record state { kept = state.kept ++ piece } → AllTaken limit first bytes payloads fault state
    → IsTaken first (split limit first (bytes ++ piece)) payloads next
all-fed limit first bytes piece payloads fault state next is at =
    let same : split state.limit first bytes ≡ split limit first bytes = ap (λ n. split n first bytes) at.same in
    let fed = taken-fed first bytes piece payloads state (subst (λ (s : Split). IsTaken first s payloads state) (sym same) at.part) in
    subst (IsTaken first (split limit first (bytes ++ piece)) payloads) (sym is) (subst (λ n. IsTaken first (split n first (bytes ++ piece)) payloads (record state { kept = state.kept ++ piece })) at.same fed)

pub all-payloads : (limit first : ℕ) (bytes : List ℕ) (payloads : List (List ℕ)) (fault : Option FrameFault) (state : FramerState) → AllTaken limit first bytes payloads fault state → payloads ≡ map payload_of (split limit first bytes).messages
all-payloads limit first bytes payloads fault state at =
    let messages : (split limit first bytes).messages ≡ at.part.taken = ap (λ (s : Split). s.messages) at.part.others ∙ ap (λ ms. at.part.taken ++ ms) at.dry ∙ append-nil at.part.taken in
    at.part.are ∙ ap (map payload_of) (sym messages)

pub all-fault : (limit first : ℕ) (bytes : List ℕ) (payloads : List (List ℕ)) (fault : Option FrameFault) (state : FramerState) → AllTaken limit first bytes payloads fault state → fault ≡ (split limit first bytes).fault
all-fault limit first bytes payloads fault state at = sym (ap (λ (s : Split). s.fault) at.part.others ∙ at.faulty)

joined-more : (pieces : List (List ℕ)) (i : ℕ) (d : List ℕ) → i < length pieces → joined (take (suc i) pieces) ≡ joined (take i pieces) ++ slice_index_or pieces i d
joined-more [] i d inside = absurd (omega arith)
joined-more (piece ∷ pieces) zero d inside = append-nil piece
joined-more (piece ∷ pieces) (suc i) d inside = ap (λ xs. piece ++ xs) (joined-more pieces i d (omega arith)) ∙ sym (append_assoc piece (joined (take i pieces)) (slice_index_or pieces i d))

pub joined-next : (pieces : List (List ℕ)) (i : ℕ) (d : List ℕ) → i < length pieces → joined (take (i + 1) pieces) ≡ joined (take i pieces) ++ slice_index_or pieces i d
joined-next pieces i d inside = let next : i + 1 ≡ suc i = omega arith in rw next (joined-more pieces i d inside)
