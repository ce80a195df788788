use Rattle.std.proofs.Common.{◌≡◌, ◌≤◌, ◌++◌, List, ℕ, [], ◌∷◌, length, arith, ◌∙◌}
use Rattle.std.proofs.lemmas.List.{append-nil, take_at, drop_at, drop_all}
use Rattle.std.specs.Prelude.{refl}
use borrow.Rule.Slice.PartMut.{put_mid}
use Rattle.handshake.proofs.greeting.joined.Goals as goal

-- a write behind the first half takes the place of all that stood there
joined_parts : (zeros front back : List ℕ) → length front ≡ 8 → length zeros ≡ 12 → put_mid 8 12 (front ++ zeros) back ≡ front ++ back
joined_parts zeros front back half others =
    let few : length zeros ≤ 12 = omega arith in
    rw (take_at front zeros 8 half, drop_at front zeros 8 half, drop_all 12 zeros few, append-nil back) refl

pub returns : goal.returns
returns c = joined_parts (0 ∷ 0 ∷ 0 ∷ 0 ∷ 0 ∷ 0 ∷ 0 ∷ 0 ∷ 0 ∷ 0 ∷ 0 ∷ 0 ∷ []) c.copy_from_slice.new.self c.copy_from_slice-2.new.self c.copy_from_slice.ensures.len refl ∙ cc
