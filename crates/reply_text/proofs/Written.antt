-- Payloads that were appended one after the other.
use Rattle.std.proofs.Common.{◌≡◌, ◌<◌, ℕ, ◌+◌, List, [], ◌∷◌, ◌++◌, length, map, take, slice_index_or, refl, ◌∙◌, sym, ap, append_assoc, append-nil}
use Rattle.std.proofs.lemmas.List.{take_more, map-append}
use Rattle.packet_frame.specs.Packets.{spelling, id_behind, spellings, ids_behind}
use Rattle.packet_frame.specs.Writing.{Begins}

-- one more payload
pub spellings-more : (first : ℕ) (payloads others : List (List ℕ)) → spellings first (payloads ++ others) ≡ spellings first payloads ++ spellings (ids_behind first payloads) others
spellings-more first [] others = refl
spellings-more first (payload ∷ payloads) others =
    ap (λ bs. spelling first payload ++ bs) (spellings-more (id_behind first payload) payloads others) ∙ sym (append_assoc (spelling first payload) (spellings (id_behind first payload) payloads) (spellings (ids_behind (id_behind first payload) payloads) others))

pub ids-more : (first : ℕ) (payloads others : List (List ℕ)) → ids_behind first (payloads ++ others) ≡ ids_behind (ids_behind first payloads) others
ids-more first [] others = refl
ids-more first (payload ∷ payloads) others = ids-more (id_behind first payload) payloads others

pub record Written (first : ℕ) (before out : List ℕ) (payloads : List (List ℕ)) (id : ℕ) : Type 0 where
  pub bytes : out ≡ before ++ spellings first payloads
  pub ids : id ≡ ids_behind first payloads

pub written-none : (first : ℕ) (before : List ℕ) → Written first before before [] first
written-none first before = record { bytes = sym (append-nil before); ids = refl }

pub written-more : (first : ℕ) (before out new : List ℕ) (payloads others : List (List ℕ)) (id next : ℕ) → Written first before out payloads id → new ≡ out ++ spellings id others → next ≡ ids_behind id others → Written first before new (payloads ++ others) next
written-more first before out new payloads others id next so_far bytes ids = record {
  bytes = bytes ∙ ap (λ n. out ++ spellings n others) so_far.ids ∙ ap (λ bs. bs ++ spellings (ids_behind first payloads) others) so_far.bytes ∙ append_assoc before (spellings first payloads) (spellings (ids_behind first payloads) others) ∙ ap (λ bs. before ++ bs) (sym (spellings-more first payloads others));
  ids = ids ∙ ap (λ n. ids_behind n others) so_far.ids ∙ sym (ids-more first payloads others);
}

-- a payload for each element
pub written-next : {X : Type 0} (f : X → List ℕ) (first : ℕ) (before out new : List ℕ) (xs : List X) (i : ℕ) (x : X) (id next : ℕ) → i < length xs → x ≡ slice_index_or xs i x → Written first before out (map f (take i xs)) id → new ≡ out ++ spelling id (f x) → next ≡ id_behind id (f x)
    → Written first before new (map f (take (i + 1) xs)) next
written-next f first before out new xs i x id next inside is so_far bytes ids =
    let one : take (i + 1) xs ≡ take i xs ++ x ∷ [] = take_more xs i x inside ∙ ap (λ y. take i xs ++ y ∷ []) (sym is) in
    let all : map f (take (i + 1) xs) ≡ map f (take i xs) ++ f x ∷ [] = ap (map f) one ∙ map-append f (take i xs) (x ∷ []) in
    rw all (written-more first before out new (map f (take i xs)) (f x ∷ []) id next so_far (bytes ∙ ap (λ bs. out ++ bs) (sym (append-nil (spelling id (f x))))) ids)

pub written-begins : (first : ℕ) (before out new : List ℕ) (payloads : List (List ℕ)) (id : ℕ) → Written first before out payloads id → new ≡ out → Begins before new
written-begins first before out new payloads id so_far same = record { more = spellings first payloads; is = same ∙ so_far.bytes }

-- the parts of a table
pub record TableEnds (first : ℕ) (before rows_out : List ℕ) (payloads : List (List ℕ)) (id : ℕ) (eof : List ℕ) : Type 0 where
  pub bytes : rows_out ++ spelling id eof ≡ before ++ spellings first payloads
  pub ids : id_behind id eof ≡ ids_behind first payloads

one : (out id : ℕ) (payload : List ℕ) → spelling id payload ≡ spellings id (payload ∷ [])
one out id payload = sym (append-nil (spelling id payload))

pub table-ends : (first : ℕ) (out count_out definitions_out eof_out rows_out count eof : List ℕ) (definitions rows : List (List ℕ)) (id id2 id3 id4 : ℕ) → count_out ≡ out ++ spelling first count → id ≡ id_behind first count
    → definitions_out ≡ count_out ++ spellings id definitions → id2 ≡ ids_behind id definitions → eof_out ≡ definitions_out ++ spelling id2 eof → id3 ≡ id_behind id2 eof → rows_out ≡ eof_out ++ spellings id3 rows → id4 ≡ ids_behind id3 rows
    → TableEnds first out rows_out ((count ∷ []) ++ (definitions ++ ((eof ∷ []) ++ (rows ++ eof ∷ [])))) id4 eof
table-ends first out count_out definitions_out eof_out rows_out count eof definitions rows id id2 id3 id4 a b c d e f g h =
    let counted : Written first out count_out (count ∷ []) id = record { bytes = a ∙ ap (λ bs. out ++ bs) (one 0 first count); ids = b } in
    let defined = written-more first out count_out definitions_out (count ∷ []) definitions id id2 counted c d in
    let ended = written-more first out definitions_out eof_out ((count ∷ []) ++ definitions) (eof ∷ []) id2 id3 defined (e ∙ ap (λ bs. definitions_out ++ bs) (one 0 id2 eof)) f in
    let rowed = written-more first out eof_out rows_out (((count ∷ []) ++ definitions) ++ eof ∷ []) rows id3 id4 ended g h in
    let last = written-more first out rows_out (rows_out ++ spelling id4 eof) ((((count ∷ []) ++ definitions) ++ eof ∷ []) ++ rows) (eof ∷ []) id4 (id_behind id4 eof) rowed (ap (λ bs. rows_out ++ bs) (one 0 id4 eof)) refl in
    let all : ((((count ∷ []) ++ definitions) ++ eof ∷ []) ++ rows) ++ eof ∷ [] ≡ (count ∷ []) ++ (definitions ++ ((eof ∷ []) ++ (rows ++ eof ∷ []))) =
    append_assoc (((count ∷ []) ++ definitions) ++ eof ∷ []) rows (eof ∷ []) ∙ append_assoc ((count ∷ []) ++ definitions) (eof ∷ []) (rows ++ eof ∷ []) ∙ append_assoc (count ∷ []) definitions ((eof ∷ []) ++ (rows ++ eof ∷ [])) in
    record { bytes = last.bytes ∙ ap (λ ps. out ++ spellings first ps) all; ids = last.ids ∙ ap (ids_behind first) all }
