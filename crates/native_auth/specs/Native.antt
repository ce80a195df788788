-- The answer of mysql_native_password.
use Rattle.std.specs.Prelude.{ℕ, List, [], ◌∷◌, ◌++◌, bit_xor}
use Rattle.sha1.specs.Sha1.{sha1}
use Rattle.native_auth.specs.declared.answers.Answer.{Answer}
use Rattle.native_auth.specs.declared.answers.Answer.TheVariants.{Empty, Bytes}

-- byte by byte, as long as both lists have bytes
abbrev pub xor_bytes : List ℕ → List ℕ → List ℕ
xor_bytes [] others = []
xor_bytes (byte ∷ bytes) [] = []
xor_bytes (byte ∷ bytes) (other ∷ others) = bit_xor byte other ∷ xor_bytes bytes others

-- SHA1(password) xor SHA1(salt ++ SHA1(SHA1(password)))
unfoldable pub scramble : (password salt : List ℕ) → List ℕ
scramble password salt = xor_bytes (sha1 password) (sha1 (salt ++ sha1 (sha1 password)))

-- an empty password has the empty answer
abbrev pub answer_of : (password salt : List ℕ) → Answer
answer_of [] salt = Empty
answer_of (byte ∷ bytes) salt = Bytes (scramble (byte ∷ bytes) salt)

-- the bytes that a client sends
abbrev pub bytes_of : Answer → List ℕ
bytes_of Empty = []
bytes_of (Bytes bytes) = bytes
