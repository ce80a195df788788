-- What sessions go by.
use Rattle.std.specs.Prelude.{Bool, List, Option, [], is_some, length, ℕ, ◌∷◌, ◌≤◌}
use Rattle.mx_base.specs.declared.names.{Port.Port, Port.TheVariants.Admin, Port.TheVariants.Traffic}
use Rattle.{client_session.specs.declared.setup.ServerAt.ServerAt, handshake.specs.Spelling.IsText}

-- who may log in
pub record User : Type 0 where
  pub name : List ℕ
  pub password : List ℕ

-- the version that clients are told, who may log in at the port of clients and at that of administrators, the longest payload of a client's
-- message, how many clients may be connected, and the server that queries go to
pub record Setup : Type 0 where
  pub version : List ℕ
  pub users : List User
  pub admin : User
  pub limit : ℕ
  pub max_clients : ℕ
  pub target : Option ServerAt

-- who may log in at a port
abbrev pub users_at : Setup → Port → List User
users_at setup Traffic = setup.users
users_at setup Admin = setup.admin ∷ []

-- a server is configured
abbrev pub has_server : Setup → Bool
has_server setup = is_some setup.target

-- a message of a client has 1 GiB at most
abbrev pub most_message : ℕ
most_message = 1073741824

-- no longer message is allowed, and the version is a text that a NUL ends
pub record IsSound (version : List ℕ) (limit : ℕ) : Type 0 where
  pub most : limit ≤ most_message
  pub text : IsText version
  pub short : length version ≤ 255
