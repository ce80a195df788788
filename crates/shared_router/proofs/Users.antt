-- Who is logged in at the port of clients is a user of the configuration, and its account is that of its login.
use Rattle.std.specs.Prelude.{◌≡◌, All, ℕ, suc, Bool, true, false, bytes_eq, cond, find, map, slice_get, if◌then◌else◌, List, [], ◌∷◌, ◌++◌, Option, Some, None}
use Rattle.std.specs.Option.{option_map_or}
use Rattle.std.proofs.Common.{refl, sym, ap, ◌∙◌, subst, arith}
use Rattle.std.proofs.lemmas.Slice.Eq.{bytes_eq-Decides}
use Rattle.client_session.specs.Accounts.{account_by, account_of, answers_for, find_user, finds_rows, known_of}
use Rattle.client_session.specs.Answers.{Talk, account, account_in, commands_in, if_known, messages_of, opening_of, users_of}
use Rattle.client_session.specs.Setups.{Setup as Service, User, users_at}
use Rattle.client_side.specs.Login.{Fails, Opening, Says, Waits}
use Rattle.handshake.specs.declared.response.Response.{Response}
use Rattle.mx_config.specs.declared.config.UserRow.{UserRow}
use Rattle.mx_base.specs.declared.names.{Port.Port, Port.TheVariants.Traffic}
use Rattle.packet_frame.specs.Laws.{first_message-empty, split-nothing}
use Rattle.packet_frame.specs.Packets.{Framed, split}
use Rattle.private_model.specs.Commands.{Account}
use Rattle.private_model.specs.Names.{ClientNo}
use Rattle.server_side.specs.Account.{Account as Login}
use Rattle.session_vars.specs.Collations.{is_served_collation}
use Rattle.log_story.specs.Owed.{talk_of}
use Rattle.log_story.specs.Tale.{Client}
use Rattle.router_promises.specs.Router.{service_of, user_named, user_of}
use Rattle.router_promises.specs.Terms.{IsWhoItSays, Terms, login_as, plan_in}
use Rattle.shared_router.specs.Fixed.{Fixed}
use Rattle.shared_router.proofs.Accounts.{IsUser}
use Rattle.shared_router.specs.Wishes.{login_for}
use Rattle.shared_router.proofs.Seated.{AllOf, IsLike}

pub all_of : (Q : Client → Type 0) (xs : List Client) → All Q xs → AllOf Q xs
all_of Q [] all = tt
all_of Q (x ∷ xs) all = (all 0 x (omega arith), all_of Q xs (λ k d within. all (suc k) d (omega (arith, within))))

pub all_more : (P Q : Client → Type 0) → ((c : Client) → P c → Q c) → (xs : List Client) → AllOf P xs → AllOf Q xs
all_more P Q more [] all = tt
all_more P Q more (x ∷ xs) all = (more x all.0, all_more P Q more xs all.1)

-- A client that has messages is logged in.

abbrev nothing : List Framed
nothing = []

none_at : {A : Type 0} (i : ℕ) (message : Framed) → slice_get nothing i ≡ Some message → A
none_at i message never = absurd (cc)

no_message : {A : Type 0} (limit : ℕ) (i : ℕ) (message : Framed) → slice_get (split limit 0 []).messages i ≡ Some message → A
no_message limit i message is =
    none_at i message (sym (ap (λ s. slice_get s.messages i) (split-nothing limit 0 [] (first_message-empty limit 0))) ∙ is)

logged_in : (talk : Talk) (i : ℕ) (message : Framed) → slice_get (messages_of talk).messages i ≡ Some message → (login : Login) × (account talk ≡ Some login)
logged_in talk i message is = by_opening (opening_of talk) is where
  by_account : (found : Option Login) (rest : List ℕ) → slice_get (split talk.setup.limit 0 (if_known found rest)).messages i ≡ Some message → (login : Login) × (found ≡ Some login)
  by_account None rest found = no_message talk.setup.limit i message found
  by_account (Some login) rest found = (login, refl)

  by_opening : (o : Opening) → slice_get (split talk.setup.limit 0 (commands_in talk o)).messages i ≡ Some message → (login : Login) × (account_in talk o ≡ Some login)
  by_opening (Says switched response id rest) found = by_account (account_of (users_of talk) talk.salt response) rest found
  by_opening (Waits switched) found = no_message talk.setup.limit i message found
  by_opening (Fails switched fault id) found = no_message talk.setup.limit i message found

-- Who logs in is a user of the configuration.

record IsFound (rows : List UserRow) (login : Login) : Type 0 where
  pub row : UserRow
  pub there : find (λ (r : UserRow). bytes_eq r.name login.user) rows ≡ Some row
  pub password : row.password ≡ login.password

same_bytes : (a b : List ℕ) → bytes_eq a b ≡ true → a ≡ b
same_bytes a b is = (bytes_eq-Decides a b).0 is

record IsRow (rows : List UserRow) (name : List ℕ) (user : User) : Type 0 where
  pub row : UserRow
  pub there : find (λ (r : UserRow). bytes_eq r.name name) rows ≡ Some row
  pub named : row.name ≡ name
  pub same : user_of row ≡ user

row_of : (rows : List UserRow) (name : List ℕ) (user : User) → find_user name (map user_of rows) ≡ Some user → IsRow rows name user
row_of [] name user is = absurd (cc)
row_of (r ∷ rows) name user is = by_test (bytes_eq r.name name) refl is (row_of rows name user) where
  found_at : (b : Bool) → bytes_eq r.name name ≡ b → cond b (Some r) (find (λ (x : UserRow). bytes_eq x.name name) rows) ≡ find (λ (x : UserRow). bytes_eq x.name name) (r ∷ rows)
  found_at b test = ap (λ t. cond t (Some r) (find (λ (x : UserRow). bytes_eq x.name name) rows)) (sym test)

  by_test : (b : Bool) → bytes_eq r.name name ≡ b → (if b then Some (user_of r) else find_user name (map user_of rows)) ≡ Some user
      → (find_user name (map user_of rows) ≡ Some user → IsRow rows name user) → IsRow (r ∷ rows) name user
  by_test true test found later = record { row = r; there = sym (found_at true test); named = same_bytes r.name name test; same = cc }
  by_test false test found later =
      let on = later found in record { row = on.row; there = sym (found_at false test) ∙ on.there; named = on.named; same = on.same }

found_by : (rows : List UserRow) (salt : List ℕ) (response : Response) (login : Login) → account_of (map user_of rows) salt response ≡ Some login → IsFound rows login
unfolding account_of
found_by rows salt response login is = by_served (is_served_collation response.collation) is where
  by_answer : (user : User) (right : Bool) → (if right then Some (record { user = user.name; password = user.password; found_rows = finds_rows response.capabilities }) else None) ≡ Some login
      → IsRow rows response.user user → IsFound rows login
  by_answer user true given at =
      let same : record { user = user.name; password = user.password; found_rows = finds_rows response.capabilities } ≡ login = cc in
      let name : response.user ≡ login.user = sym at.named ∙ ap (λ (u : User). u.name) at.same ∙ ap (λ (l : Login). l.user) same in
      record {
        row = at.row;
        there = subst (λ (n : List ℕ). find (λ (r : UserRow). bytes_eq r.name n) rows ≡ Some at.row) name at.there;
        password = ap (λ (u : User). u.password) at.same ∙ ap (λ (l : Login). l.password) same;
      }
  by_answer user false given at = absurd (cc)

  by_user : (found : Option User) → find_user response.user (map user_of rows) ≡ found → account_by salt response found ≡ Some login → IsFound rows login
  by_user None at given = absurd (cc)
  by_user (Some user) at given = by_answer user (answers_for salt response user) given (row_of rows response.user user at)

  by_served : (served : Bool) → (if served then known_of (map user_of rows) salt response else None) ≡ Some login → IsFound rows login
  by_served true given = by_user (find_user response.user (map user_of rows)) refl given
  by_served false given = absurd (cc)

equal_bytes : (a b : List ℕ) → a ≡ b → bytes_eq a b ≡ true
equal_bytes a b is = (bytes_eq-Decides a b).1 is

module _ (fixed : Fixed) where
  user_so : (login : Login) → IsFound fixed.router.users login → IsUser fixed (login_as login)
  user_so login found =
      let as_row : UserRow → Login = λ row. record { user = login.user; password = row.password; found_rows = login.found_rows } in
      let is : login_for fixed (login_as login) ≡ as_row found.row = ap (λ o. option_map_or as_row o (record { user = []; password = []; found_rows = false })) found.there in
      record {
        same = ap (λ (l : Login). login_as l) (sym is);
        known = ap (λ (l : Login). option_map_or (λ (row : UserRow). bytes_eq row.password l.password) (user_named fixed.router l.user) false) is
            ∙ ap (λ o. option_map_or (λ (row : UserRow). bytes_eq row.password found.row.password) o false) found.there
            ∙ equal_bytes found.row.password found.row.password refl;
      }

  abbrev pub service : Service
  service = service_of fixed.router

  abbrev pub talk_by : Service → Client → Talk
  talk_by by client = record { setup = by; number = client.number.0; port = client.port; salt = client.salt; read = client.read }

  -- at the port of clients
  account_found : (client : Client) (login : Login) → client.port ≡ Traffic → account (talk_by service client) ≡ Some login → IsFound fixed.router.users login
  account_found client login port is = by_opening (opening_of (talk_by service client)) is where
    by_opening : (o : Opening) → account_in (talk_by service client) o ≡ Some login → IsFound fixed.router.users login
    by_opening (Says switched response id rest) found =
        found_by fixed.router.users client.salt response login
        (sym (ap (λ (p : Port). account_of (users_at service p) client.salt response) port) ∙ found)
    by_opening (Waits switched) found = absurd (cc)
    by_opening (Fails switched fault id) found = absurd (cc)

  -- its account is that of its login

  abbrev pub SaysSo : Client → Type 0
  SaysSo client = (login : Login) → account (talk_by service client) ≡ Some login → fixed.accounts client.number ≡ login_as login

  pub says_of : (t : Terms) (client : Client) → t.decided.accounts ≡ fixed.accounts → (plan_in t).service ≡ service
      → IsWhoItSays t client (opening_of (talk_of (plan_in t) client)) → SaysSo client
  says_of t client accounts same who login is =
      by_opening (opening_of (talk_of (plan_in t) client)) who there
    where
      there : account (talk_of (plan_in t) client) ≡ Some login
      there = subst (λ s. account (talk_by s client) ≡ Some login) (sym same) is

      by_opening : (o : Opening) → IsWhoItSays t client o → account_in (talk_of (plan_in t) client) o ≡ Some login → fixed.accounts client.number ≡ login_as login
      by_opening (Says switched response id rest) says found =
          ap (λ (f : ClientNo → Account). f client.number) (sym accounts)
          ∙ (says login (subst (λ s. account (talk_by s client) ≡ Some login) (sym same) is)).0
      by_opening (Waits switched) says found = absurd (cc)
      by_opening (Fails switched fault id) says found = absurd (cc)

  talk_like : (x y : Client) → IsLike x y → talk_by service y ≡ talk_by service x
  talk_like x y like = λ i. record { setup = service; number = (like.number i).0; port = like.port i; salt = like.salt i; read = like.read i }

  pub says_like : (x y : Client) → IsLike x y → SaysSo y → SaysSo x
  says_like x y like says login is =
      ap (λ n. fixed.accounts n) (sym like.number) ∙ says login (subst (λ t. account t ≡ Some login) (sym (talk_like x y like)) is)

  pub user_of_one : (client : Client) (i : ℕ) (message : Framed) → client.port ≡ Traffic → SaysSo client
      → slice_get (messages_of (talk_by service client)).messages i ≡ Some message → IsUser fixed (fixed.accounts client.number)
  user_of_one client i message port says is =
      let login = logged_in (talk_by service client) i message is in
      subst (IsUser fixed) (sym (says login.0 login.1)) (user_so login.0 (account_found client login.0 port login.1))
