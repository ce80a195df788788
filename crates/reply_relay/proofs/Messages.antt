-- What the reader of a cell makes of whole messages.
use Rattle.std.proofs.Common.{◌≡◌, ◌<◌, ◌≤◌, ℕ, zero, suc, ◌+◌, ◌-◌, ◌*◌, ◌/◌, ◌%◌, Bool, true, false, cond, ◌&&◌, nat_eq, nat_le, nat_lt, List, [], ◌∷◌, ◌++◌, length, take, drop, min, refl, ◌∙◌, sym, ap, arith, length-append, append_assoc, append-nil}
use Rattle.std.specs.Prelude.{fold}
use Rattle.std.proofs.Math.Seq.{take-append_seam}
use Rattle.std.proofs.lemmas.Bool.{ltb-false, lt-leb}
use Rattle.std.proofs.lemmas.List.{take_all, take-append-drop, length-take, length-drop}
use Rattle.std.proofs.lemmas.List.Sums.{fold-append}
use Rattle.packet_frame.specs.Packets.{longest, next_id, id_behind, packet, packets, spelling, spellings}
use Rattle.reply_relay.specs.declared.cell.Spot.{Spot}
use Rattle.reply_relay.specs.declared.cell.Spot.TheVariants.{First, Body}
use Rattle.reply_relay.specs.Cells.{CellRead, new_cell, one_more, ended, kept, begun, went, byte_taken, fourth}

abbrev mk : Spot → ℕ → List ℕ → CellRead
mk spot messages text = record { spot = spot; messages = messages; text = text }

abbrev text_with : (messages : ℕ) → (text bytes : List ℕ) → List ℕ
text_with messages text bytes = cond (nat_eq messages 3) (take 30 (text ++ bytes)) text

take-joined : (n : ℕ) (xs ys : List ℕ) → take n (take n xs ++ ys) ≡ take n (xs ++ ys)
take-joined zero xs ys = refl
take-joined (suc n) [] ys = refl
take-joined (suc n) (x ∷ xs) ys = ap (λ zs. x ∷ zs) (take-joined n xs ys)

text-more : (m : ℕ) (text xs ys : List ℕ) → text_with m (text_with m text xs) ys ≡ text_with m text (xs ++ ys)
text-more m text xs ys = by (nat_eq m 3) where
  by : (third : Bool) → cond third (take 30 (cond third (take 30 (text ++ xs)) text ++ ys)) (cond third (take 30 (text ++ xs)) text) ≡ cond third (take 30 (text ++ (xs ++ ys))) text
  by true = take-joined 30 (text ++ xs) ys ∙ ap (take 30) (append_assoc text xs ys)
  by false = refl

text-none : (m : ℕ) (text : List ℕ) → length text ≤ 30 → text_with m text [] ≡ text
text-none m text fits = by (nat_eq m 3) where
  by : (third : Bool) → cond third (take 30 (text ++ [])) text ≡ text
  by true = ap (take 30) (append-nil text) ∙ take_all 30 text fits
  by false = refl

text-fits : (m : ℕ) (text bytes : List ℕ) → length text ≤ 30 → length (text_with m text bytes) ≤ 30
text-fits m text bytes fits = by (nat_eq m 3) where
  by : (third : Bool) → length (cond third (take 30 (text ++ bytes)) text) ≤ 30
  by true = omega (arith, length-take 30 (text ++ bytes))
  by false = fits

kept-one : (spot : Spot) (m b : ℕ) (text : List ℕ) → length text ≤ 30 → kept b (mk spot m text) ≡ mk spot m (text_with m text (b ∷ []))
kept-one spot m b text fits = by (nat_eq m 3) (nat_lt (length text) 30) refl where
  by : (third room : Bool) → nat_lt (length text) 30 ≡ room → cond (third && room) (mk spot m (text ++ b ∷ [])) (mk spot m text) ≡ mk spot m (cond third (take 30 (text ++ b ∷ [])) text)
  by true true has =
      let longer : length (text ++ b ∷ []) ≤ 30 = grind (arith, has, length-append text (b ∷ [])) in
      ap (mk spot m) (sym (take_all 30 (text ++ b ∷ []) longer))
  by true false has =
      let full : length text ≡ 30 = omega (arith, ltb-false (length text) 30 has) in
      ap (mk spot m) (sym (ap (λ n. take n (text ++ b ∷ [])) (sym full) ∙ take-append_seam text (b ∷ [])))
  by false true has = refl
  by false false has = refl

-- a body
body-read : (bytes : List ℕ) (m : ℕ) (long : Bool) (text : List ℕ) → 0 < length bytes → length text ≤ 30
    → fold byte_taken (mk (Body (length bytes) long) m text) bytes ≡ ended long (mk First m (text_with m text bytes))
body-read [] m long text some fits = absurd (omega arith)
body-read (b ∷ []) m long text some fits = ap (λ (c : CellRead). went 1 long c) (kept-one (Body 1 long) m b text fits) ∙ last long where
  last : (long : Bool) → ended long (mk (Body 1 long) m (text_with m text (b ∷ []))) ≡ ended long (mk First m (text_with m text (b ∷ [])))
  last true = refl
  last false = refl
body-read (b ∷ c ∷ bytes) m long text some fits =
    let left : ℕ = length (b ∷ c ∷ bytes) in
    let several : nat_le left 1 ≡ false = lt-leb left 1 (omega arith) in
    let less : left - 1 ≡ length (c ∷ bytes) = omega arith in
    let one : went left long (kept b (mk (Body left long) m text)) ≡ mk (Body (length (c ∷ bytes)) long) m (text_with m text (b ∷ [])) =
    ap (λ (k : CellRead). went left long k) (kept-one (Body left long) m b text fits) ∙ rw (several, less) refl in
    ap (λ (k : CellRead). fold byte_taken k (c ∷ bytes)) one
    ∙ body-read (c ∷ bytes) m long (text_with m text (b ∷ [])) (omega arith) (text-fits m text (b ∷ []) fits)
    ∙ ap (λ ts. ended long (mk First m ts)) (text-more m text (b ∷ []) (c ∷ bytes))

-- a packet
sized : (n : ℕ) → n % 256 + 256 * (n / 256 % 256) + 65536 * (n / 65536) ≡ n
sized n = omega (arith, parts n) where
  parts : (n : ℕ) → n / 65536 ≡ n / 256 / 256
  parts n = omega arith

begun-read : (body : List ℕ) (m : ℕ) (text : List ℕ) → length text ≤ 30
    → fold byte_taken (begun (length body) (mk First m text)) body ≡ ended (nat_eq (length body) longest) (mk First m (text_with m text body))
begun-read [] m text fits = ap (λ ts. mk First (one_more m) ts) (sym (text-none m text fits))
begun-read (b ∷ body) m text fits =
    let size : ℕ = length (b ∷ body) in
    let some : nat_eq size 0 ≡ false = grind arith in
    ap (λ none. fold byte_taken (cond none (ended false (mk First m text)) (mk (Body size (nat_eq size longest)) m text)) (b ∷ body)) some
    ∙ body-read (b ∷ body) m (nat_eq size longest) text (omega arith) fits

packet-read : (id : ℕ) (body : List ℕ) (m : ℕ) (text : List ℕ) → length text ≤ 30
    → fold byte_taken (mk First m text) (packet id body) ≡ ended (nat_eq (length body) longest) (mk First m (text_with m text body))
packet-read id body m text fits =
    ap (λ n. fold byte_taken (begun n (mk First m text)) body) (sized (length body)) ∙ begun-read body m text fits

-- a message
message-read : (full id : ℕ) (payload : List ℕ) (m : ℕ) (text : List ℕ) → length payload / longest ≡ full → length text ≤ 30
    → fold byte_taken (mk First m text) (packets full id payload) ≡ mk First (one_more m) (text_with m text payload)
message-read zero id payload m text size fits =
    let short : nat_eq (length payload) longest ≡ false = grind (arith, size) in
    packet-read id payload m text fits ∙ ap (λ long. ended long (mk First m (text_with m text payload))) short
message-read (suc full) id payload m text size fits =
    let front : List ℕ = take longest payload in
    let behind : List ℕ = drop longest payload in
    let long : length front ≡ longest = omega (arith, length-take longest payload, size) in
    let rest : length behind / longest ≡ full = omega (arith, length-drop longest payload, size) in
    let whole : nat_eq (length front) longest ≡ true = rw long refl in
    fold-append byte_taken (mk First m text) (packet id front) (packets full (next_id id) behind)
    ∙ ap (λ (k : CellRead). fold byte_taken k (packets full (next_id id) behind))
    (packet-read id front m text fits ∙ ap (λ l. ended l (mk First m (text_with m text front))) whole)
    ∙ message-read full (next_id id) behind m (text_with m text front) rest (text-fits m text front fits)
    ∙ ap (mk First (one_more m)) (text-more m text front behind ∙ ap (text_with m text) (take-append-drop longest payload))

-- all of them
abbrev count_after : (m : ℕ) → List (List ℕ) → ℕ
count_after m [] = m
count_after m (payload ∷ payloads) = count_after (one_more m) payloads

abbrev text_after : (m : ℕ) → (text : List ℕ) → List (List ℕ) → List ℕ
text_after m text [] = text
text_after m text (payload ∷ payloads) = text_after (one_more m) (text_with m text payload) payloads

all-read : (first : ℕ) (payloads : List (List ℕ)) (m : ℕ) (text : List ℕ) → length text ≤ 30
    → fold byte_taken (mk First m text) (spellings first payloads) ≡ mk First (count_after m payloads) (text_after m text payloads)
unfolding spelling
all-read first [] m text fits = refl
all-read first (payload ∷ payloads) m text fits =
    fold-append byte_taken (mk First m text) (spelling first payload) (spellings (id_behind first payload) payloads)
    ∙ ap (λ (k : CellRead). fold byte_taken k (spellings (id_behind first payload) payloads))
    (message-read (length payload / longest) first payload m text refl fits)
    ∙ all-read (id_behind first payload) payloads (one_more m) (text_with m text payload) (text-fits m text payload fits)

counted : (payloads : List (List ℕ)) (m : ℕ) → m ≤ 6 → count_after m payloads ≡ min (length payloads + m) 6
counted [] m most = grind arith
counted (payload ∷ payloads) m most =
    let less : one_more m ≤ 6 = grind arith in
    counted payloads (one_more m) less ∙ grind arith

later : (payloads : List (List ℕ)) (m : ℕ) (text : List ℕ) → 3 < m → text_after m text payloads ≡ text
later [] m text past = refl
later (payload ∷ payloads) m text past =
    let other : nat_eq m 3 ≡ false = grind (arith, past) in
    let next : 3 < one_more m = grind (arith, past) in
    ap (λ ts. text_after (one_more m) ts payloads) (ap (λ third. cond third (take 30 (text ++ payload)) text) other) ∙ later payloads (one_more m) text next

text-is : (payloads : List (List ℕ)) → text_after 0 [] payloads ≡ take 30 (fourth payloads)
text-is [] = refl
text-is (count ∷ []) = refl
text-is (count ∷ column ∷ []) = refl
text-is (count ∷ column ∷ eof ∷ []) = refl
text-is (count ∷ column ∷ eof ∷ row ∷ others) = later others 4 (take 30 row) (omega arith)

pub answer-read : (first : ℕ) (payloads : List (List ℕ)) → fold byte_taken new_cell (spellings first payloads) ≡ mk First (min (length payloads) 6) (take 30 (fourth payloads))
answer-read first payloads =
    let count : count_after 0 payloads ≡ min (length payloads) 6 = counted payloads 0 (omega arith) ∙ grind arith in
    all-read first payloads 0 [] (omega arith) ∙ ap (λ n. mk First n (text_after 0 [] payloads)) count ∙ ap (mk First (min (length payloads) 6)) (text-is payloads)
