-- Who a client is.
use Rattle.native_auth.specs.Native.{answer_of, bytes_of}
use Rattle.std.specs.Prelude.{Bool, List, None, Option, Some, [], bit_and, bytes_eq, if◌then◌else◌, nat_eq, not, ℕ, ◌∷◌}
use Rattle.client_session.specs.Errors.{access_denied, unknown_character_set}
use Rattle.session_vars.specs.Collations.{is_served_collation}
use Rattle.{client_session.specs.Setups.User, handshake.specs.declared.response.Response.Response, server_side.specs.Account.Account}

-- the user of this name
abbrev pub find_user : (name : List ℕ) → List User → Option User
find_user name [] = None
find_user name (user ∷ users) = if bytes_eq user.name name then Some user else find_user name users

-- an UPDATE tells of the rows that it found
abbrev pub finds_rows : (capabilities : ℕ) → Bool
finds_rows capabilities = not (nat_eq (bit_and capabilities 2) 0)

-- the answer is that of the user's password
abbrev pub answers_for : (salt : List ℕ) → Response → User → Bool
answers_for salt response user = bytes_eq response.answer (bytes_of (answer_of user.password salt))

abbrev pub account_by : (salt : List ℕ) → Response → Option User → Option Account
account_by salt response None = None
account_by salt response (Some user) =
    if answers_for salt response user then Some (record { user = user.name; password = user.password; found_rows = finds_rows response.capabilities }) else None

-- the user that the client names, where its answer to the salt is right
abbrev pub known_of : List User → (salt : List ℕ) → Response → Option Account
known_of users salt response = account_by salt response (find_user response.user users)

-- who is let in: such a user, where its texts can be read, which is so in the character sets of the collations that are served
unfoldable pub account_of : List User → (salt : List ℕ) → Response → Option Account
account_of users salt response = if is_served_collation response.collation then known_of users salt response else None

-- What a client is told that isn't let in. Its answer is judged first: who doesn't know the password learns of nothing else.

abbrev pub denial_by : Response → Option Account → List ℕ
denial_by response None = access_denied response.user
denial_by response (Some account) = unknown_character_set response.collation

unfoldable pub denial_of : List User → (salt : List ℕ) → Response → List ℕ
denial_of users salt response = denial_by response (known_of users salt response)
