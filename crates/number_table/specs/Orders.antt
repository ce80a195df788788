-- Numbers in an order, and where each of them stands.
use Rattle.std.specs.Prelude.{◌≡◌, ◌<◌, ◌^◌, ℕ, List, [], ◌∷◌, ◌++◌, length, slice_index, nat_lt, if◌then◌else◌}

pub record StandsAt (numbers places : List ℕ) (place : ℕ) : Type 0 where
  pub number_within : slice_index numbers place < length numbers
  pub there : slice_index places (slice_index numbers place) ≡ place

pub record HasPlace (numbers places : List ℕ) (number : ℕ) : Type 0 where
  pub place_within : slice_index places number < length numbers
  pub back : slice_index numbers (slice_index places number) ≡ number

pub record AreInverse (numbers places : List ℕ) : Type 0 where
  pub as_many : length places ≡ length numbers
  pub few : length numbers < 2 ^ 32
  pub stand : (place : ℕ) → place < length numbers → StandsAt numbers places place
  pub have : (number : ℕ) → number < length numbers → HasPlace numbers places number

-- each is below how many there are, and stands at one place
pub record IsPermuted (order : List ℕ) : Type 0 where
  pub within : (place : ℕ) → place < length order → slice_index order place < length order
  pub apart : (a b : ℕ) → a < length order → b < length order → slice_index order a ≡ slice_index order b → a ≡ b

-- with one number more where so many are taken and that is all of them
abbrev pub grown : (order : List ℕ) → (taken : ℕ) → List ℕ
grown order taken = if nat_lt taken (length order) then order else order ++ length order ∷ []
