-- What is to be written to a client, and the room that is kept for it.
use Rattle.std.specs.Prelude.{◌≡◌, ◌≤◌, ℕ, ◌+◌, Bool, true, nat_lt, List}

-- The link to its server isn't read while so many bytes are to be written to the client.
abbrev pub high_mark : ℕ
high_mark = 1048576

-- the longest piece that is read of a link at once
abbrev pub one_read : ℕ
one_read = 65536

-- the most that is to be written without an error that ends the link: one read more than is below the mark
abbrev pub most_written : ℕ
most_written = 1114111

-- the longest such error
abbrev pub last_error : ℕ
last_error = 128

-- what is to be written, and whether there is room for the error
pub record Written : Type 0 where
  pub bytes : List ℕ
  pub spare : Bool

abbrev pub is_below_mark : (size : ℕ) → Bool
is_below_mark size = nat_lt size high_mark

-- a buffer of this length and room, of which so many bytes went
pub record HasRoom (gone length capacity : ℕ) (spare : Bool) : Type 0 where
  pub there : gone ≤ length
  pub room : spare ≡ true → length + last_error ≤ capacity
