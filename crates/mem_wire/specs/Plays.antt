-- What a play has taken of its recording.
use Rattle.std.specs.Prelude.{◌≡◌, ◌⊎◌, ℕ, zero, suc, ◌+◌, ◌-◌, ◌<◌, ◌≤◌, ◌==◌, ◌&&◌, Bool, true, false, nat_eq, if◌then◌else◌, List, [], ◌∷◌, ◌++◌, length, take, drop, slice_get, Option, Some, None, refl}
use Rattle.std.specs.Option.{option_or}
use Rattle.std.proofs.Common.{sym, ◌∙◌, ap, subst, append-nil, append_assoc, inl, inr, arith, length-append}
use Rattle.std.proofs.lemmas.List.Folds.{find-append}
use Rattle.std.proofs.lemmas.List.Elements.{filter_map-append}
use Rattle.std.proofs.lemmas.Grind.{flat_map-append}
use Rattle.std.proofs.lemmas.Option.{slice_get_cases}
use Rattle.std.proofs.lemmas.Bool.{eqb-true}
use Rattle.std.proofs.lemmas.List.{take-append-drop}
use Rattle.std.proofs.Math.Seq.{drop-append_seam}
use Rattle.mx_base.specs.declared.names.LinkId.{LinkId}
use Rattle.mx_base.specs.declared.names.Port.{Port}
use Rattle.mx_base.specs.declared.names.Port.TheVariants as port
use Rattle.mx_wire.specs.Log.{Log, got_bytes, read_of}
use Rattle.mx_wire.specs.Moments.{lawful-each}
use Rattle.mx_wire.specs.Growth.{bool_cases, bytes-same, bytes-other, bytes-idle}
use Rattle.mx_wire.specs.declared.entry.Entry.{Entry}
use Rattle.mx_wire.specs.declared.entry.Entry.TheVariants as entry
use Rattle.recording.specs.declared.entry.RecordEntry.{RecordEntry}
use Rattle.recording.specs.declared.entry.RecordEntry.TheVariants as line
use Rattle.mem_wire.specs.Lines.{is_at, moments, released, is_port, waiting_at, clients_at, bytes_at, bytes_for}
use Rattle.mem_wire.specs.Came.{is_woke, wakes, is_accepted_at, accepted_at, next_client, Known, known_by, known, with_link, unread_of, unread}
use Rattle.mem_wire.specs.CameLaws.{wakes-more, accepted-more, known-more}
use Rattle.mem_wire.specs.Play.{Reads, Brings, IsAnswerOf, IsPlay}

-- one list begins with another
pub record IsFront (front whole : List ℕ) : Type 0 where
  pub later : List ℕ
  pub is : front ++ later ≡ whole

-- What so many wakes release.

-- one wake more releases the same lines, and maybe others
pub record Releases (lines longer : List RecordEntry) : Type 0 where
  pub more : List RecordEntry
  pub is : longer ≡ lines ++ more

releases-line : (l : RecordEntry) (lines longer : List RecordEntry) → Releases lines longer → Releases (l ∷ lines) (l ∷ longer)
releases-line l lines longer releases = record { more = releases.more; is = ap (λ (ls : List RecordEntry). l ∷ ls) releases.is }

pub released-more : (n : ℕ) (recording : List RecordEntry) → Releases (released n recording) (released (n + 1) recording)
released-more n [] = record { more = []; is = refl }
released-more n (l ∷ later) = of (is_at l) n (λ k. released-more k later) where
  of : (at : Bool) (m : ℕ) → ((k : ℕ) → Releases (released k later) (released (k + 1) later))
      → Releases (if at && (m == 0) then [] else l ∷ released (if at then m - 1 else m) later) (if at && (m + 1 == 0) then [] else l ∷ released (if at then m + 1 - 1 else m + 1) later)
  of false m each = releases-line l (released m later) (released (m + 1) later) (each m)
  of true zero each = record { more = l ∷ released 0 later; is = refl }
  of true (suc m) each =
      let less : suc m - 1 ≡ m = omega arith in
      let same : suc m + 1 - 1 ≡ m + 1 = omega arith in
      let some : (suc m == 0) ≡ false = grind arith in
      let more : (suc m + 1 == 0) ≡ false = grind arith in
      rw (some, more, less, same) (releases-line l (released m later) (released (m + 1) later) (each m))

-- as many wakes as there are moments release all
pub released-all : (n : ℕ) (recording : List RecordEntry) → length (moments recording) ≤ n → released n recording ≡ recording
released-all n [] most = refl
released-all zero (line.At ms ∷ later) most = absurd (omega arith)
released-all (suc n) (line.At ms ∷ later) most =
    let less : suc n - 1 ≡ n = omega arith in
    let some : (suc n == 0) ≡ false = grind arith in
    rw (some, less) (ap (λ (ls : List RecordEntry). line.At ms ∷ ls) (released-all n later (omega arith)))
released-all n (l ∷ later) most = ap (λ (ls : List RecordEntry). l ∷ ls) (released-all n later most)

-- What was taken.

-- No more was taken than the wakes so far released, and nothing of a link that didn't come.
pub record HasTaken (recording : List RecordEntry) (log : Log) : Type 0 where
  pub woke : wakes log ≤ length (moments recording)
  pub accepted : (port : Port) → accepted_at port log ≤ length (clients_at port (released (wakes log) recording))
  pub strange : (link : LinkId) → with_link link (known recording log) ≡ None → read_of link log ≡ []
  pub read : (link : LinkId) (k : Known) → with_link link (known recording log) ≡ Some k → IsFront (read_of link log) (bytes_for k.name (released (wakes log) recording))

place-below : {X : Type 0} (xs : List X) (i : ℕ) (x : X) → slice_get xs i ≡ Some x → i < length xs
place-below xs i x is = elim ((slice_get_cases xs i).1) [
  | inl (y, below, found, got) ↦ below
  | inr (past, none) ↦ absurd (let h : None ≡ Some x = sym none ∙ is in cc)
]

same-link : (link other : LinkId) → nat_eq link.0 other.0 ≡ true → link ≡ other
same-link link other same = ap (λ n. let l : LinkId = record { 0 = n } in l) (eqb-true link.0 other.0 same)

-- a link is found by its number
pub with-link : (link : LinkId) (k : Known) (ks : List Known) → with_link link ks ≡ Some k → k.link ≡ link
with-link link k [] found = cc
with-link link k (x ∷ ks) found = elim (bool_cases (nat_eq x.link.0 link.0)) [
  | inl here ↦ (let is : Some x ≡ Some k = rw here at found in let same : x ≡ k = cc in sym (ap (λ (o : Known). o.link) same) ∙ same-link x.link link here)
  | inr other ↦ with-link link k ks (rw other at found)
]

joined : (a b c d : List ℕ) → (a ++ b) ++ (c ++ d) ≡ (a ++ (b ++ c)) ++ d
joined a b c d = sym (append_assoc (a ++ b) c d) ∙ ap (λ xs. xs ++ d) (append_assoc a b c)

-- a link that was known stays so
pub record IsKnownBy (recording : List RecordEntry) (log : Log) (e : Entry) (link : LinkId) (k : Known) : Type 0 where
  pub before : (with_link link (known recording log) ≡ Some k) ⊎ ((with_link link (known recording log) ≡ None) × (with_link link (known_by recording log e) ≡ Some k))

with-more : (recording : List RecordEntry) (log : Log) (e : Entry) (link : LinkId) → with_link link (known recording (log ++ e ∷ [])) ≡ option_or (with_link link (known recording log)) (with_link link (known_by recording log e))
with-more recording log e link = ap (λ ks. with_link link ks) (known-more recording log e) ∙ find-append (λ (k : Known). nat_eq k.link.0 link.0) (known recording log) (known_by recording log e)

pub known-before : (recording : List RecordEntry) (log : Log) (e : Entry) (link : LinkId) (k : Known) → with_link link (known recording (log ++ e ∷ [])) ≡ Some k → IsKnownBy recording log e link k
known-before recording log e link k is = of (with_link link (known recording log)) refl (sym (with-more recording log e link) ∙ is) where
  of : (o : Option Known) → with_link link (known recording log) ≡ o → option_or o (with_link link (known_by recording log e)) ≡ Some k → IsKnownBy recording log e link k
  of None none now = record { before = inr (none, now) }
  of (Some other) found now = record { before = inl (found ∙ now) }

strange-before : (recording : List RecordEntry) (log : Log) (e : Entry) (link : LinkId) → with_link link (known recording (log ++ e ∷ [])) ≡ None → with_link link (known recording log) ≡ None
strange-before recording log e link is = of (with_link link (known recording log)) (sym (with-more recording log e link) ∙ is) where
  of : (o : Option Known) → option_or o (with_link link (known_by recording log e)) ≡ None → o ≡ None
  of None now = refl
  of (Some other) now = cc

-- One entry more.

woke-below : (recording : List RecordEntry) (log : Log) (e : Entry) → IsAnswerOf recording log e → is_woke e ≡ true → wakes log < length (moments recording)
woke-below recording log (entry.Woke until_ms now_ms) call woke = place-below (moments recording) (wakes log) now_ms call.answer
woke-below recording log _ call woke = cc

taken-wakes : (recording : List RecordEntry) (log : Log) (e : Entry) → IsAnswerOf recording log e → wakes log ≤ length (moments recording) → wakes (log ++ e ∷ []) ≤ length (moments recording)
taken-wakes recording log e call few = of (is_woke e) refl (wakes-more log e) where
  of : (woke : Bool) → is_woke e ≡ woke → wakes (log ++ e ∷ []) ≡ wakes log + length (if woke then e ∷ [] else []) → wakes (log ++ e ∷ []) ≤ length (moments recording)
  of true woke more = let below = woke-below recording log e call woke in omega arith
  of false still more = omega arith

-- the lines that the wakes released, with one entry more
released-now : (recording : List RecordEntry) (log : Log) (e : Entry) → Releases (released (wakes log) recording) (released (wakes (log ++ e ∷ [])) recording)
released-now recording log e = of (is_woke e) (wakes-more log e) where
  of : (woke : Bool) → wakes (log ++ e ∷ []) ≡ wakes log + length (if woke then e ∷ [] else []) → Releases (released (wakes log) recording) (released (wakes (log ++ e ∷ [])) recording)
  of true more = rw more (released-more (wakes log) recording)
  of false more =
      let same : wakes (log ++ e ∷ []) ≡ wakes log = more ∙ search arith in
      rw same (record { more = []; is = sym (append-nil (released (wakes log) recording)) })

clients-grow : (port : Port) (lines longer : List RecordEntry) → Releases lines longer → length (clients_at port lines) ≤ length (clients_at port longer)
clients-grow port lines longer releases =
    let all : length (clients_at port longer) ≡ length (clients_at port lines) + length (clients_at port releases.more) =
    ap (λ (ls : List RecordEntry). length (clients_at port ls)) releases.is ∙ ap length (filter_map-append (waiting_at port) lines releases.more) ∙ length-append (clients_at port lines) (clients_at port releases.more) in
    omega arith

taken-accepted : (recording : List RecordEntry) (log : Log) (e : Entry) (at_port : Port) → IsAnswerOf recording log e → accepted_at at_port log ≤ length (clients_at at_port (released (wakes log) recording))
    → accepted_at at_port (log ++ e ∷ []) ≤ length (clients_at at_port (released (wakes (log ++ e ∷ [])) recording))
taken-accepted recording log e at_port call few = of (is_accepted_at at_port e) refl where
  grown : length (clients_at at_port (released (wakes log) recording)) ≤ length (clients_at at_port (released (wakes (log ++ e ∷ [])) recording))
  grown = clients-grow at_port (released (wakes log) recording) (released (wakes (log ++ e ∷ [])) recording) (released-now recording log e)

  comes : (x : Entry) → IsAnswerOf recording log x → is_accepted_at at_port x ≡ true → accepted_at at_port log < length (clients_at at_port (released (wakes log) recording))
  comes (entry.Accepted at link salt) answer here = next at at_port here answer.answer where
    next : (p q : Port) → is_port q p ≡ true → Brings (next_client recording log p) salt → accepted_at q log < length (clients_at q (released (wakes log) recording))
    next port.Traffic port.Traffic same brings = place-below (clients_at port.Traffic (released (wakes log) recording)) (accepted_at port.Traffic log) (record { number = brings.number; salt = salt }) brings.is
    next port.Admin port.Admin same brings = place-below (clients_at port.Admin (released (wakes log) recording)) (accepted_at port.Admin log) (record { number = brings.number; salt = salt }) brings.is
    next port.Traffic port.Admin same brings = cc
    next port.Admin port.Traffic same brings = cc
  comes x answer here = cc

  of : (b : Bool) → is_accepted_at at_port e ≡ b → accepted_at at_port (log ++ e ∷ []) ≤ length (clients_at at_port (released (wakes (log ++ e ∷ [])) recording))
  of true here =
      let more : accepted_at at_port (log ++ e ∷ []) ≡ accepted_at at_port log + 1 = accepted-more at_port log e ∙ ap (λ b. accepted_at at_port log + length (if b then e ∷ [] else [])) here in
      let below = comes e call here in
      omega (arith, grown)
  of false other =
      let same : accepted_at at_port (log ++ e ∷ []) ≡ accepted_at at_port log + 0 = accepted-more at_port log e ∙ ap (λ b. accepted_at at_port log + length (if b then e ∷ [] else [])) other in
      omega (arith, grown)

-- what is read of a link
pub data ReadsNext (recording : List RecordEntry) (log : Log) (e : Entry) (link : LinkId) : Type 0 where
  Same : read_of link (log ++ e ∷ []) ≡ read_of link log → ReadsNext recording log e link
  More : (bytes : List ℕ) → read_of link (log ++ e ∷ []) ≡ read_of link log ++ bytes → Reads (unread recording log (with_link link (known recording log))) bytes → ReadsNext recording log e link

reads-next : (recording : List RecordEntry) (log : Log) (e : Entry) (link : LinkId) → IsAnswerOf recording log e → ReadsNext recording log e link
reads-next recording log (entry.Got to bytes) link call = elim (bool_cases (nat_eq link.0 to.0)) [
  | inl here ↦ (
      let same : to ≡ link = sym (same-link link to here) in
      More bytes (bytes-same got_bytes link log (entry.Got to bytes) here) (subst (λ (l : LinkId). Reads (unread recording log (with_link l (known recording log))) bytes) same call.answer))
  | inr other ↦ Same (bytes-other got_bytes link log (entry.Got to bytes) other)
]
reads-next recording log _ link call = Same (bytes-idle got_bytes link log _ refl)

take-empty : (n : ℕ) → ◌≡◌ {A = List ℕ} (take n []) []
take-empty zero = refl
take-empty (suc n) = refl

nothing-read : (bytes : List ℕ) → Reads [] bytes → ⊥
nothing-read [] reads = let some : 0 < 0 = reads.some in absurd (omega arith)
nothing-read (b ∷ bytes) reads = (let no : b ∷ bytes ≡ [] = reads.is ∙ take-empty 65536 in absurd (cc))

-- what was read, and what is left
split-ready : (ready bytes : List ℕ) → Reads ready bytes → ready ≡ bytes ++ drop 65536 ready
split-ready ready bytes reads = sym (take-append-drop 65536 ready) ∙ ap (λ bs. bs ++ drop 65536 ready) (sym reads.is)

taken-strange : (recording : List RecordEntry) (log : Log) (e : Entry) (link : LinkId) → IsAnswerOf recording log e → with_link link (known recording log) ≡ None → read_of link log ≡ [] → read_of link (log ++ e ∷ []) ≡ []
taken-strange recording log e link call none nothing = of (reads-next recording log e link call) where
  of : ReadsNext recording log e link → read_of link (log ++ e ∷ []) ≡ []
  of (Same same) = same ∙ nothing
  of (More bytes is reads) = absurd (nothing-read bytes (rw none at reads))

taken-read : (recording : List RecordEntry) (log : Log) (e : Entry) (link : LinkId) (k : Known) → IsAnswerOf recording log e → HasTaken recording log → with_link link (known recording (log ++ e ∷ [])) ≡ Some k
    → IsFront (read_of link (log ++ e ∷ [])) (bytes_for k.name (released (wakes (log ++ e ∷ [])) recording))
taken-read recording log e link k call was is = elim (known-before recording log e link k is).before [
  | inl found ↦ of (reads-next recording log e link call) found (was.read link k found)
  | inr new ↦ record { later = bytes_for k.name (released (wakes (log ++ e ∷ [])) recording); is = ap (λ xs. xs ++ bytes_for k.name (released (wakes (log ++ e ∷ [])) recording)) (taken-strange recording log e link call new.0 (was.strange link new.0)) }
]
  where
    more : Releases (released (wakes log) recording) (released (wakes (log ++ e ∷ [])) recording)
    more = released-now recording log e

    grown : bytes_for k.name (released (wakes (log ++ e ∷ [])) recording) ≡ bytes_for k.name (released (wakes log) recording) ++ bytes_for k.name more.more
    grown = ap (bytes_for k.name) more.is ∙ flat_map-append (bytes_at k.name) (released (wakes log) recording) more.more

    of : ReadsNext recording log e link → with_link link (known recording log) ≡ Some k → IsFront (read_of link log) (bytes_for k.name (released (wakes log) recording)) → IsFront (read_of link (log ++ e ∷ [])) (bytes_for k.name (released (wakes (log ++ e ∷ [])) recording))
    of (Same same) found front = record {
      later = front.later ++ bytes_for k.name more.more;
      is = ap (λ xs. xs ++ (front.later ++ bytes_for k.name more.more)) same ∙ sym (append_assoc (read_of link log) front.later (bytes_for k.name more.more)) ∙ ap (λ xs. xs ++ bytes_for k.name more.more) front.is ∙ sym grown;
    }
    of (More bytes is_read reads) found front =
        let behind : List ℕ = drop 65536 (unread_of recording log k) in
        let here : k.link ≡ link = with-link link k (known recording log) found in
        let left : unread_of recording log k ≡ front.later =
        ap (λ (l : LinkId). drop (length (read_of l log)) (bytes_for k.name (released (wakes log) recording))) here
        ∙ ap (λ xs. drop (length (read_of link log)) xs) (sym front.is) ∙ drop-append_seam (read_of link log) front.later in
        let ready : unread_of recording log k ≡ bytes ++ behind = split-ready (unread_of recording log k) bytes (rw found at reads) in
        let split : front.later ≡ bytes ++ behind = sym left ∙ ready in
        record {
          later = behind ++ bytes_for k.name more.more;
          is = ap (λ xs. xs ++ (behind ++ bytes_for k.name more.more)) is_read
              ∙ joined (read_of link log) bytes behind (bytes_for k.name more.more)
              ∙ ap (λ xs. (read_of link log ++ xs) ++ bytes_for k.name more.more) (sym split) ∙ ap (λ xs. xs ++ bytes_for k.name more.more) front.is ∙ sym grown;
        }

taken-more : (recording : List RecordEntry) (log : Log) (e : Entry) → IsAnswerOf recording log e → HasTaken recording log → HasTaken recording (log ++ e ∷ [])
taken-more recording log e call was = record {
  woke = taken-wakes recording log e call was.woke;
  accepted = λ port. taken-accepted recording log e port call (was.accepted port);
  strange = λ link none. let before = strange-before recording log e link none in taken-strange recording log e link call before (was.strange link before);
  read = λ link k is. taken-read recording log e link k call was is;
}

pub play-taken : (recording : List RecordEntry) (log : Log) → IsPlay recording log → HasTaken recording log
play-taken recording log play = lawful-each (IsAnswerOf recording) (HasTaken recording) log (taken-more recording) start play where
  start : HasTaken recording []
  start = record { woke = search arith; accepted = λ port. search arith; strange = λ link none. refl; read = λ link k is. cc }
