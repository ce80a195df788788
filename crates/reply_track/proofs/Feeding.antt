-- Bytes that lead from one body to another, before the rest of their packet.
use Rattle.std.proofs.Common.{◌≡◌, ℕ, ◌+◌, ◌-◌, ◌*◌, ◌/◌, false, nat_le, Option, Some, List, [], ◌∷◌, ◌++◌, length, refl, ◌∙◌, sym, ap, subst, arith, append_assoc, ◌⊎◌, inl, inr}
use Rattle.std.proofs.lemmas.Bool.{lt-leb}
use Rattle.mx_base.specs.Fields.{little_endian}
use Rattle.reply_track.specs.declared.head.Number.{Number}
use Rattle.reply_track.specs.declared.body.Body.{Body}
use Rattle.reply_track.specs.declared.body.Body.TheVariants.{Number as NumberBody}
use Rattle.reply_track.specs.Steps.{taken, body_written, number_written, number_read, number_taken, shifted, two_bytes, four_bytes, insert_scaled}
use Rattle.reply_track.proofs.Crossing.{read_by, read_body, made_by, made_body}

pub record Feeds (body : Body) (number : ℕ) (xs ys : List ℕ) (next : Body) (rest : List ℕ) : Type 0 where
  pub reads : read_body body (xs ++ rest) ≡ read_body next rest
  pub makes : made_body body number (xs ++ rest) ≡ ys ++ made_body next number rest

pub feed : (body next : Body) (number b : ℕ) (rest : List ℕ) → taken body (length (b ∷ rest)) b ≡ Some next → Feeds body number (b ∷ []) (body_written body number b ∷ []) next rest
feed body next number b rest is = record {
  reads = ap (λ (t : Option Body). read_by t (λ (n : Body). read_body n rest)) is;
  makes = ap (λ (t : Option Body). body_written body number b ∷ made_by t rest (λ (n : Body). made_body n number rest)) is;
}

pub feed-more : (body middle next : Body) (number : ℕ) (xs ys us vs rest : List ℕ) → Feeds body number xs ys middle (us ++ rest) → Feeds middle number us vs next rest → Feeds body number (xs ++ us) (ys ++ vs) next rest
feed-more body middle next number xs ys us vs rest one two = record {
  reads = ap (read_body body) (append_assoc xs us rest) ∙ one.reads ∙ two.reads;
  makes = ap (made_body body number) (append_assoc xs us rest) ∙ one.makes ∙ ap (λ bs. ys ++ bs) two.makes ∙ sym (append_assoc ys vs (made_body next number rest));
}

-- all bytes of a number enter at the top
abbrev pub shifted_all : (value : ℕ) → List ℕ → ℕ
shifted_all value [] = value
shifted_all value (b ∷ bytes) = shifted_all (shifted value b) bytes

abbrev pub IsQuiet : Number → Type 0
IsQuiet field = (number left byte : ℕ) → number_written field number left byte ≡ byte

pub feed-number : (field : Number) (next : Body) (number : ℕ) (rest bytes : List ℕ) (b value : ℕ) → IsQuiet field → number_read field (shifted_all value (b ∷ bytes)) ≡ Some next
    → Feeds (NumberBody field (length (b ∷ bytes)) value) number (b ∷ bytes) (b ∷ bytes) next rest
feed-number field next number rest [] b value quiet is =
    let written : body_written (NumberBody field 1 value) number b ≡ b = quiet number 1 b in
    subst (λ x. Feeds (NumberBody field 1 value) number (b ∷ []) (x ∷ []) next rest) written (feed (NumberBody field 1 value) next number b rest is)
feed-number field next number rest (c ∷ bytes) b value quiet is =
    let size : ℕ = length (b ∷ c ∷ bytes) in
    let others : Body = NumberBody field (length (c ∷ bytes)) (shifted value b) in
    let several : nat_le size 1 ≡ false = lt-leb size 1 (omega arith) in
    let less : size - 1 ≡ length (c ∷ bytes) = omega arith in
    let step : number_taken field size (shifted value b) ≡ Some others = rw several (rw less refl) in
    let one = feed (NumberBody field size value) others number b ((c ∷ bytes) ++ rest) step in
    let written : body_written (NumberBody field size value) number b ≡ b = quiet number size b in
    feed-more (NumberBody field size value) others next number (b ∷ []) (b ∷ []) (c ∷ bytes) (c ∷ bytes) rest
    (subst (λ x. Feeds (NumberBody field size value) number (b ∷ []) (x ∷ []) others ((c ∷ bytes) ++ rest)) written one) (feed-number field next number rest bytes c (shifted value b) quiet is)

-- numbers of one to eight bytes
one_in : (a : ℕ) → shifted 0 a ≡ a * 0x100_0000_0000_0000
one_in a = omega arith

two_in : (n b : ℕ) → shifted (n * 0x100_0000_0000_0000) b ≡ (n + 256 * b) * 0x1_0000_0000_0000
two_in n b = omega arith

three_in : (n b : ℕ) → shifted (n * 0x1_0000_0000_0000) b ≡ (n + 65536 * b) * 0x100_0000_0000
three_in n b = omega arith

four_in : (n b : ℕ) → shifted (n * 0x100_0000_0000) b ≡ (n + 16777216 * b) * 0x1_0000_0000
four_in n b = omega arith

five_in : (n b : ℕ) → shifted (n * 0x1_0000_0000) b ≡ (n + 0x1_0000_0000 * b) * 16777216
five_in n b = omega arith

six_in : (n b : ℕ) → shifted (n * 16777216) b ≡ (n + 0x100_0000_0000 * b) * 65536
six_in n b = omega arith

seven_in : (n b : ℕ) → shifted (n * 65536) b ≡ (n + 0x1_0000_0000_0000 * b) * 256
seven_in n b = omega arith

eight_in : (n b : ℕ) → shifted (n * 256) b ≡ n + 0x100_0000_0000_0000 * b
eight_in n b = omega arith

two_all : (a b : ℕ) → shifted_all 0 (a ∷ b ∷ []) ≡ (a + 256 * b) * 0x1_0000_0000_0000
two_all a b = ap (λ n. shifted n b) (one_in a) ∙ two_in a b

three_all : (a b c : ℕ) → shifted_all 0 (a ∷ b ∷ c ∷ []) ≡ (a + 256 * b + 65536 * c) * 0x100_0000_0000
three_all a b c = ap (λ n. shifted n c) (two_all a b) ∙ three_in (a + 256 * b) c

four_all : (a b c d : ℕ) → shifted_all 0 (a ∷ b ∷ c ∷ d ∷ []) ≡ (a + 256 * b + 65536 * c + 16777216 * d) * 0x1_0000_0000
four_all a b c d = ap (λ n. shifted n d) (three_all a b c) ∙ four_in (a + 256 * b + 65536 * c) d

pub two-read : (a b : ℕ) → two_bytes (shifted_all 0 (a ∷ b ∷ [])) ≡ a + 256 * b
two-read a b = rw (two_all a b) (omega arith)

pub four-read : (a b c d : ℕ) → four_bytes (shifted_all 0 (a ∷ b ∷ c ∷ d ∷ [])) ≡ a + 256 * (b + 256 * (c + 256 * d))
four-read a b c d = rw (four_all a b c d) (omega arith)

three-read : (a b c : ℕ) → shifted_all 0 (a ∷ b ∷ c ∷ []) / 0x100_0000_0000 ≡ little_endian (a ∷ b ∷ c ∷ [])
three-read a b c = rw (three_all a b c) (omega arith)

eight-read : (a b c d e f g h : ℕ) → shifted_all 0 (a ∷ b ∷ c ∷ d ∷ e ∷ f ∷ g ∷ h ∷ []) ≡ little_endian (a ∷ b ∷ c ∷ d ∷ e ∷ f ∷ g ∷ h ∷ [])
eight-read a b c d e f g h =
    let n4 : ℕ = a + 256 * b + 65536 * c + 16777216 * d in
    let n5 : ℕ = n4 + 0x1_0000_0000 * e in
    let n6 : ℕ = n5 + 0x100_0000_0000 * f in
    let n7 : ℕ = n6 + 0x1_0000_0000_0000 * g in
    ap (λ n. shifted (shifted (shifted (shifted n e) f) g) h) (four_all a b c d)
    ∙ ap (λ n. shifted (shifted (shifted n f) g) h) (five_in n4 e)
    ∙ ap (λ n. shifted (shifted n g) h) (six_in n5 f)
    ∙ ap (λ n. shifted n h) (seven_in n6 g)
    ∙ eight_in n7 h
    ∙ omega arith

-- an insert id of 2, 3 or 8 bytes
pub insert-read : (size : ℕ) (bytes : List ℕ) → length bytes ≡ size → (size ≡ 2) ⊎ ((size ≡ 3) ⊎ (size ≡ 8)) → insert_scaled size (shifted_all 0 bytes) ≡ little_endian bytes
insert-read size bytes is which = elim which [
  | inl two ↦ rw two (of_two bytes (is ∙ two))
  | inr more ↦ elim more [
    | inl three ↦ rw three (of_three bytes (is ∙ three))
    | inr eight ↦ rw eight (of_eight bytes (is ∙ eight))
  ]
] where
  of_two : (bytes : List ℕ) → length bytes ≡ 2 → insert_scaled 2 (shifted_all 0 bytes) ≡ little_endian bytes
  of_two [] is = absurd (omega arith)
  of_two (a ∷ []) is = absurd (omega arith)
  of_two (a ∷ b ∷ []) is = two-read a b ∙ omega arith
  of_two (a ∷ b ∷ c ∷ more) is = absurd (omega arith)

  of_three : (bytes : List ℕ) → length bytes ≡ 3 → insert_scaled 3 (shifted_all 0 bytes) ≡ little_endian bytes
  of_three [] is = absurd (omega arith)
  of_three (a ∷ []) is = absurd (omega arith)
  of_three (a ∷ b ∷ []) is = absurd (omega arith)
  of_three (a ∷ b ∷ c ∷ []) is = three-read a b c
  of_three (a ∷ b ∷ c ∷ d ∷ more) is = absurd (omega arith)

  of_eight : (bytes : List ℕ) → length bytes ≡ 8 → insert_scaled 8 (shifted_all 0 bytes) ≡ little_endian bytes
  of_eight [] is = absurd (omega arith)
  of_eight (a ∷ []) is = absurd (omega arith)
  of_eight (a ∷ b ∷ []) is = absurd (omega arith)
  of_eight (a ∷ b ∷ c ∷ []) is = absurd (omega arith)
  of_eight (a ∷ b ∷ c ∷ d ∷ []) is = absurd (omega arith)
  of_eight (a ∷ b ∷ c ∷ d ∷ e ∷ []) is = absurd (omega arith)
  of_eight (a ∷ b ∷ c ∷ d ∷ e ∷ f ∷ []) is = absurd (omega arith)
  of_eight (a ∷ b ∷ c ∷ d ∷ e ∷ f ∷ g ∷ []) is = absurd (omega arith)
  of_eight (a ∷ b ∷ c ∷ d ∷ e ∷ f ∷ g ∷ h ∷ []) is = eight-read a b c d e f g h
  of_eight (a ∷ b ∷ c ∷ d ∷ e ∷ f ∷ g ∷ h ∷ i ∷ more) is = absurd (omega arith)
