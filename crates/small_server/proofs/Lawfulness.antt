-- The small server is tame.
use Rattle.std.specs.Prelude.{◌≡◌, ◌≢◌, ◌⊎◌, ℕ, ◌<◌, ◌^◌, Bool, true, false, not, ◌&&◌, nat_eq, bytes_eq, if◌then◌else◌, List, [], ◌∷◌, ◌||◌, is_some, length, take, drop, decimal, codes, Option, Some, None}
use Rattle.std.specs.Fmt.{digits}
use Rattle.std.proofs.Common.{refl, sym, ap, ◌∙◌, subst, inl, inr, arith}
use Rattle.std.proofs.lemmas.List.{take_at, drop_at}
use Rattle.session_vars.specs.declared.change.Change.{Change}
use Rattle.session_state.specs.Classes.{Effect, Tracked, Uses, Neither, effect_of, schema_by, settings_by}
use Rattle.session_state.specs.Endings.{brings_id, is_err, is_ok, shows_transaction}
use Rattle.pin_classifier.specs.declared.class.Class.{Class}
use Rattle.server_rule.proofs.Blind.{blind_same, blind_whole}
use Rattle.server_rule.proofs.Spelled.{spelled_again}
use Rattle.server_rule.specs.Classes.{Reads, effect_run, is_close, is_prepare, sees_diag, sees_id, text_run}
use Rattle.server_rule.specs.Laws.{IdLaw, IsOkOrErr, IsTame, TextLaw}
use Rattle.server_rule.specs.Replies.{number_spelled, one_number, reply_end}
use Rattle.server_rule.specs.Servers.{Accepts, Outcome, is_brief, is_some_of, outcome_with_id, with_diag, with_id}
use Rattle.server_rule.specs.Texts.{read_id_text, set_id_text}
use Rattle.server_rule.specs.declared.command.Cmd.{Cmd}
use Rattle.server_rule.specs.declared.command.Cmd.TheVariants.{Query, InitDb, FieldList, Prepare, Run, Reset, Close}
use Rattle.server_rule.specs.declared.session.Session.{Session}
use Rattle.small_server.specs.Tally.{Kind, SetsId, ReadsId, Tracks, Chooses, Begins, Commits, Adds, Shows, Refuses, Shown, NoId, FirstId, LaterId, by_kind, id_set, is_special, kind_by, kind_of, next_id, number_of, ok, on_text, prepared, reads_the_id, refusal, row, rows_by, set_prefix, status, tally, tests, with_effect, without_effect}

apart : {A : Type 0} {b : Bool} → b ≡ true → b ≡ false → A
apart is isnt = absurd (cc)

-- How replies end.

ok_is_ok : (rows : Bool) (id : Shown) (tx : Bool) → is_ok (reply_end false (ok rows id tx)) ≡ true
unfolding reply_end
ok_is_ok true NoId true = refl
ok_is_ok true NoId false = refl
ok_is_ok true FirstId true = refl
ok_is_ok true FirstId false = refl
ok_is_ok true LaterId true = refl
ok_is_ok true LaterId false = refl
ok_is_ok false NoId true = refl
ok_is_ok false NoId false = refl
ok_is_ok false FirstId true = refl
ok_is_ok false FirstId false = refl
ok_is_ok false LaterId true = refl
ok_is_ok false LaterId false = refl

ok_shows : (rows : Bool) (id : Shown) (tx : Bool) → shows_transaction (reply_end false (ok rows id tx)) ≡ Some tx
unfolding reply_end
ok_shows true NoId true = refl
ok_shows true NoId false = refl
ok_shows true FirstId true = refl
ok_shows true FirstId false = refl
ok_shows true LaterId true = refl
ok_shows true LaterId false = refl
ok_shows false NoId true = refl
ok_shows false NoId false = refl
ok_shows false FirstId true = refl
ok_shows false FirstId false = refl
ok_shows false LaterId true = refl
ok_shows false LaterId false = refl

ok_brings : (rows : Bool) (stored : List ℕ) (tx : Bool) → brings_id (reply_end false (ok rows (next_id stored) tx)) ≡ true
unfolding reply_end
ok_brings true [] true = refl
ok_brings true [] false = refl
ok_brings true (x ∷ xs) true = refl
ok_brings true (x ∷ xs) false = refl
ok_brings false [] true = refl
ok_brings false [] false = refl
ok_brings false (x ∷ xs) true = refl
ok_brings false (x ∷ xs) false = refl

refusal_not_ok : is_ok (reply_end false refusal) ≡ false
unfolding reply_end
refusal_not_ok = refl

refusal_is_err : is_err (reply_end false refusal) ≡ true
unfolding reply_end
refusal_is_err = refl

refusal_silent : shows_transaction (reply_end false refusal) ≡ None
unfolding reply_end
refusal_silent = refl

row_shows : (tx : Bool) (spelled : ℕ) → shows_transaction (reply_end false (row tx spelled)) ≡ Some tx
unfolding reply_end
row_shows true spelled = refl
row_shows false spelled = refl

fields_show : (tx : Bool) → shows_transaction (reply_end false ((254 ∷ 0 ∷ 0 ∷ 0 ∷ 0 ∷ []) ∷ [])) ≡ Some false
unfolding reply_end
fields_show tx = refl

fields_shows : (tx : Bool) → shows_transaction (reply_end false ((254 ∷ 0 ∷ 0 ∷ status tx ∷ 0 ∷ []) ∷ [])) ≡ Some tx
unfolding reply_end
fields_shows true = refl
fields_shows false = refl

one_zero : (tx : Bool) → one_number (row tx 48) ≡ Some 0
unfolding one_number digits
one_zero tx = refl

one_one : (tx : Bool) → one_number (row tx 49) ≡ Some 1
unfolding one_number digits
one_one tx = refl

one_two : (tx : Bool) → one_number (row tx 50) ≡ Some 2
unfolding one_number digits
one_two tx = refl

number_is : (a b : ℕ) → nat_eq a b ≡ true → a ≡ b
number_is a b e = grind arith

told_by : (tx : Bool) (last_id : ℕ) (zero one two : Bool) → nat_eq last_id 0 ≡ zero → nat_eq last_id 1 ≡ one → nat_eq last_id 2 ≡ two
    → (is_err (reply_end false (if zero then row tx 48 else if one then row tx 49 else if two then row tx 50 else refusal)) ≡ true) ⊎ (one_number (if zero then row tx 48 else if one then row tx 49 else if two then row tx 50 else refusal) ≡ Some last_id)
told_by tx last_id true one two z o t = inr (one_zero tx ∙ ap Some (sym (number_is last_id 0 z)))
told_by tx last_id false true two z o t = inr (one_one tx ∙ ap Some (sym (number_is last_id 1 o)))
told_by tx last_id false false true z o t = inr (one_two tx ∙ ap Some (sym (number_is last_id 2 t)))
told_by tx last_id false false false z o t = inl refusal_is_err

row_shown_by : (tx shown zero one two : Bool) → shows_transaction (reply_end false (if zero then row tx 48 else if one then row tx 49 else if two then row tx 50 else refusal)) ≡ Some shown → tx ≡ shown
row_shown_by tx shown true one two e = let s = row_shows tx 48 in cc
row_shown_by tx shown false true two e = let s = row_shows tx 49 in cc
row_shown_by tx shown false false true e = let s = row_shows tx 50 in cc
row_shown_by tx shown false false false e = absurd (let s = refusal_silent in cc)

-- Accepted sessions have no locks and no deep state.

none_by : (locks deep : List ℕ) → (not (is_some_of locks) && not (is_some_of deep)) ≡ true → (locks ≡ []) × (deep ≡ [])
none_by [] [] e = (refl, refl)
none_by [] (x ∷ xs) e = apart e refl
none_by (x ∷ xs) deep e = apart e refl

plain : (stored : List ℕ) (s : Session) → Accepts tests stored s → (s.locks ≡ []) × (s.deep ≡ [])
plain stored s ok = none_by s.locks s.deep ok.1

-- What no text touches.

pub record Keeps (k : Kind) (rows : Bool) (text stored : List ℕ) (s : Session) : Type 0 where
  pub user : (by_kind k rows text stored s).session.user ≡ s.user
  pub capabilities : (by_kind k rows text stored s).session.capabilities ≡ s.capabilities
  pub locks : (by_kind k rows text stored s).session.locks ≡ s.locks
  pub deep : (by_kind k rows text stored s).session.deep ≡ s.deep

kind_keeps : (k : Kind) (rows : Bool) (text stored : List ℕ) (s : Session) → Keeps k rows text stored s
kind_keeps (SetsId n) rows text stored s = record { user = refl; capabilities = refl; locks = refl; deep = refl }
kind_keeps ReadsId rows text stored s = record { user = refl; capabilities = refl; locks = refl; deep = refl }
kind_keeps (Tracks changes) rows text stored s = record { user = refl; capabilities = refl; locks = refl; deep = refl }
kind_keeps (Chooses schema) rows text stored s = record { user = refl; capabilities = refl; locks = refl; deep = refl }
kind_keeps Begins rows text stored s = record { user = refl; capabilities = refl; locks = refl; deep = refl }
kind_keeps Commits rows text stored s = record { user = refl; capabilities = refl; locks = refl; deep = refl }
kind_keeps Adds rows text stored s = record { user = refl; capabilities = refl; locks = refl; deep = refl }
kind_keeps Shows rows text stored s = record { user = refl; capabilities = refl; locks = refl; deep = refl }
kind_keeps Refuses rows text stored s = record { user = refl; capabilities = refl; locks = refl; deep = refl }

kind_flags : (k : Kind) (rows : Bool) (text stored : List ℕ) (s : Session) (shown : Bool) → shows_transaction (reply_end false (by_kind k rows text stored s).reply) ≡ Some shown → is_some_of (by_kind k rows text stored s).session.tx ≡ shown
kind_flags (SetsId n) rows text stored s shown e = let is = ok_shows false NoId (is_some_of s.tx) in cc
kind_flags ReadsId rows text stored s shown e = row_shown_by (is_some_of s.tx) shown (nat_eq s.last_id 0) (nat_eq s.last_id 1) (nat_eq s.last_id 2) e
kind_flags (Tracks changes) rows text stored s shown e = let is = ok_shows rows NoId (is_some_of s.tx) in cc
kind_flags (Chooses schema) rows text stored s shown e = let is = ok_shows rows NoId (is_some_of s.tx) in cc
kind_flags Begins rows text stored s shown e = let is = ok_shows rows NoId true in cc
kind_flags Commits rows text stored s shown e = let is = ok_shows rows NoId false in cc
kind_flags Adds rows text stored s shown e = let is = ok_shows rows (next_id stored) (is_some_of s.tx) in cc
kind_flags Shows rows text stored s shown e = let is = ok_shows rows NoId (is_some_of s.tx) in cc
kind_flags Refuses rows text stored s shown e = absurd (let is = refusal_silent in cc)

kind_diag : (k : Kind) (rows : Bool) (text stored : List ℕ) (s : Session) (diag : List ℕ) → by_kind k rows text stored (with_diag diag s) ≡ by_kind k rows text stored s
kind_diag (SetsId n) rows text stored s diag = refl
kind_diag ReadsId rows text stored s diag = refl
kind_diag (Tracks changes) rows text stored s diag = refl
kind_diag (Chooses schema) rows text stored s diag = refl
kind_diag Begins rows text stored s diag = refl
kind_diag Commits rows text stored s diag = refl
kind_diag Adds rows text stored s diag = refl
kind_diag Shows rows text stored s diag = refl
kind_diag Refuses rows text stored s diag = refl

rows_blind : (b : Bool) (s : Session) (diag : List ℕ) → b ≡ false → rows_by b (with_diag diag s) ≡ rows_by b s
rows_blind true s diag e = apart refl e
rows_blind false s diag e = refl

rows_id : (b : Bool) (s : Session) (n : ℕ) → rows_by b (with_id n s) ≡ rows_by b s
rows_id true s n = refl
rows_id false s n = refl

-- Which texts do what.

-- an unmarked text neither reads nor changes the insert id
abbrev IsUnmarked : Kind → Type 0
IsUnmarked (SetsId n) = ⊥
IsUnmarked ReadsId = ⊥
IsUnmarked Adds = ⊥
IsUnmarked _ = Unit {0}

unmarked_without : (set : Option ℕ) (reads_it deep marks is_begin is_commit : Bool) → marks ≡ false → IsUnmarked (without_effect set reads_it deep marks is_begin is_commit)
unmarked_without set reads_it deep true is_begin is_commit e = apart refl e
unmarked_without (Some n) reads_it true false is_begin is_commit e = tt
unmarked_without (Some n) reads_it false false is_begin is_commit e = tt
unmarked_without None true deep false is_begin is_commit e = tt
unmarked_without None false deep false true is_commit e = tt
unmarked_without None false deep false false true e = tt
unmarked_without None false deep false false false e = tt

unmarked_kind : (effect : Effect) (class : Class) (text : List ℕ) → class.marks_id ≡ false → IsUnmarked (kind_by effect class text)
unmarked_kind (Tracked changes) class text e = go (is_special text)
  where
    go : (b : Bool) → IsUnmarked (with_effect b (Tracks changes))
    go true = tt
    go false = tt
unmarked_kind (Uses schema) class text e = go (is_special text)
  where
    go : (b : Bool) → IsUnmarked (with_effect b (Chooses schema))
    go true = tt
    go false = tt
unmarked_kind Neither class text e = unmarked_without (id_set text) (reads_the_id text) class.deep class.marks_id (bytes_eq text (codes "BEGIN")) (bytes_eq text (codes "COMMIT")) e

kind_id : (k : Kind) (rows : Bool) (text stored : List ℕ) (s : Session) (n : ℕ) → IsUnmarked k → by_kind k rows text stored (with_id n s) ≡ outcome_with_id n (by_kind k rows text stored s)
kind_id (SetsId m) rows text stored s n un = absurd un
kind_id ReadsId rows text stored s n un = absurd un
kind_id Adds rows text stored s n un = absurd un
kind_id (Tracks changes) rows text stored s n un = refl
kind_id (Chooses schema) rows text stored s n un = refl
kind_id Begins rows text stored s n un = refl
kind_id Commits rows text stored s n un = refl
kind_id Shows rows text stored s n un = refl
kind_id Refuses rows text stored s n un = refl

-- a text without an effect leaves where the session is
pub record Stays (k : Kind) (rows : Bool) (text stored : List ℕ) (s : Session) : Type 0 where
  pub schema : (by_kind k rows text stored s).session.schema ≡ s.schema
  pub settings : (by_kind k rows text stored s).session.settings ≡ s.settings

stays_without : (set : Option ℕ) (reads_it deep marks is_begin is_commit : Bool) (rows : Bool) (text stored : List ℕ) (s : Session) → Stays (without_effect set reads_it deep marks is_begin is_commit) rows text stored s
stays_without (Some n) reads_it true true is_begin is_commit rows text stored s = record { schema = refl; settings = refl }
stays_without (Some n) reads_it true false is_begin is_commit rows text stored s = record { schema = refl; settings = refl }
stays_without (Some n) reads_it false marks is_begin is_commit rows text stored s = record { schema = refl; settings = refl }
stays_without None true deep true is_begin is_commit rows text stored s = record { schema = refl; settings = refl }
stays_without None true deep false is_begin is_commit rows text stored s = record { schema = refl; settings = refl }
stays_without None false deep marks true is_commit rows text stored s = record { schema = refl; settings = refl }
stays_without None false deep marks false true rows text stored s = record { schema = refl; settings = refl }
stays_without None false deep true false false rows text stored s = record { schema = refl; settings = refl }
stays_without None false deep false false false rows text stored s = record { schema = refl; settings = refl }

stays_neither : (effect : Effect) (class : Class) (rows : Bool) (text stored : List ℕ) (s : Session) → effect ≡ Neither → Stays (kind_by effect class text) rows text stored s
stays_neither (Tracked changes) class rows text stored s e = absurd (cc)
stays_neither (Uses schema) class rows text stored s e = absurd (cc)
stays_neither Neither class rows text stored s e = stays_without (id_set text) (reads_the_id text) class.deep class.marks_id (bytes_eq text (codes "BEGIN")) (bytes_eq text (codes "COMMIT")) rows text stored s

-- a shallow text keeps the insert id, or shows one
kept_without : (set : Option ℕ) (reads_it deep marks is_begin is_commit : Bool) (rows : Bool) (text stored : List ℕ) (s : Session) → deep ≡ false → brings_id (reply_end false (by_kind (without_effect set reads_it deep marks is_begin is_commit) rows text stored s).reply) ≡ false
    → (by_kind (without_effect set reads_it deep marks is_begin is_commit) rows text stored s).session.last_id ≡ s.last_id
kept_without set reads_it true marks is_begin is_commit rows text stored s shallow none = apart refl shallow
kept_without (Some n) reads_it false marks is_begin is_commit rows text stored s shallow none = refl
kept_without None true false true is_begin is_commit rows text stored s shallow none = refl
kept_without None true false false is_begin is_commit rows text stored s shallow none = refl
kept_without None false false marks true is_commit rows text stored s shallow none = refl
kept_without None false false marks false true rows text stored s shallow none = refl
kept_without None false false true false false rows text stored s shallow none = apart (ok_brings rows stored (is_some_of s.tx)) none
kept_without None false false false false false rows text stored s shallow none = refl

kept_kind : (effect : Effect) (class : Class) (rows : Bool) (text stored : List ℕ) (s : Session) → class.deep ≡ false → brings_id (reply_end false (by_kind (kind_by effect class text) rows text stored s).reply) ≡ false → (by_kind (kind_by effect class text) rows text stored s).session.last_id ≡ s.last_id
kept_kind (Tracked changes) class rows text stored s shallow none = go (is_special text)
  where
    go : (b : Bool) → (by_kind (with_effect b (Tracks changes)) rows text stored s).session.last_id ≡ s.last_id
    go true = refl
    go false = refl
kept_kind (Uses schema) class rows text stored s shallow none = go (is_special text)
  where
    go : (b : Bool) → (by_kind (with_effect b (Chooses schema)) rows text stored s).session.last_id ≡ s.last_id
    go true = refl
    go false = refl
kept_kind Neither class rows text stored s shallow none = kept_without (id_set text) (reads_the_id text) class.deep class.marks_id (bytes_eq text (codes "BEGIN")) (bytes_eq text (codes "COMMIT")) rows text stored s shallow none

-- a tracked SET
pub record Sets (changes : List Change) (k : Kind) (rows : Bool) (text stored : List ℕ) (s : Session) : Type 0 where
  pub settings : (by_kind k rows text stored s).session.settings ≡ settings_by (Tracked changes) (is_ok (reply_end false (by_kind k rows text stored s).reply)) s.settings
  pub schema : (by_kind k rows text stored s).session.schema ≡ s.schema
  pub last_id : (by_kind k rows text stored s).session.last_id ≡ s.last_id
  pub stored_is : (by_kind k rows text stored s).stored ≡ stored
  pub tx : (by_kind k rows text stored s).session.tx ≡ s.tx
  pub reply : IsOkOrErr (by_kind k rows text stored s).reply

refuses : IsOkOrErr refusal
refuses = record { payload = _; alone = refl; kind = inr refusal_is_err }

answers : (rows : Bool) (id : Shown) (tx : Bool) → IsOkOrErr (ok rows id tx)
answers rows id tx = record { payload = _; alone = refl; kind = inl (ok_is_ok rows id tx) }

sets_by : (special : Bool) (changes : List Change) (rows : Bool) (text stored : List ℕ) (s : Session) → Sets changes (with_effect special (Tracks changes)) rows text stored s
sets_by true changes rows text stored s = record { settings = ap (λ b. settings_by (Tracked changes) b s.settings) (sym refusal_not_ok); schema = refl; last_id = refl; stored_is = refl; tx = refl; reply = refuses }
sets_by false changes rows text stored s = record { settings = ap (λ b. settings_by (Tracked changes) b s.settings) (sym (ok_is_ok rows NoId (is_some_of s.tx))); schema = refl; last_id = refl; stored_is = refl; tx = refl; reply = answers rows NoId (is_some_of s.tx) }

sets_kind : (effect : Effect) (class : Class) (changes : List Change) (rows : Bool) (text stored : List ℕ) (s : Session) → effect ≡ Tracked changes → Sets changes (kind_by effect class text) rows text stored s
sets_kind effect class changes rows text stored s e = subst (λ x. Sets changes (kind_by x class text) rows text stored s) (sym e) (sets_by (is_special text) changes rows text stored s)

-- a USE
pub record UsesIt (schema : List ℕ) (k : Kind) (rows : Bool) (text stored : List ℕ) (s : Session) : Type 0 where
  pub session : (by_kind k rows text stored s).session ≡ record s { schema = schema_by (Uses schema) (is_ok (reply_end false (by_kind k rows text stored s).reply)) s.schema; diag = (by_kind k rows text stored s).session.diag }
  pub stored_is : (by_kind k rows text stored s).stored ≡ stored
  pub reply : IsOkOrErr (by_kind k rows text stored s).reply

uses_by : (special : Bool) (schema : List ℕ) (rows : Bool) (text stored : List ℕ) (s : Session) → UsesIt schema (with_effect special (Chooses schema)) rows text stored s
uses_by true schema rows text stored s = record { session = ap (λ b. record s { schema = schema_by (Uses schema) b s.schema; diag = 1 ∷ [] }) (sym refusal_not_ok); stored_is = refl; reply = refuses }
uses_by false schema rows text stored s = record { session = ap (λ b. record s { schema = schema_by (Uses schema) b s.schema; diag = 1 ∷ [] }) (sym (ok_is_ok rows NoId (is_some_of s.tx))); stored_is = refl; reply = answers rows NoId (is_some_of s.tx) }

uses_kind : (effect : Effect) (class : Class) (schema : List ℕ) (rows : Bool) (text stored : List ℕ) (s : Session) → effect ≡ Uses schema → UsesIt schema (kind_by effect class text) rows text stored s
uses_kind effect class schema rows text stored s e = subst (λ x. UsesIt schema (kind_by x class text) rows text stored s) (sym e) (uses_by (is_special text) schema rows text stored s)

reply_kind : (effect : Effect) (class : Class) (rows : Bool) (text stored : List ℕ) (s : Session) → effect ≢ Neither → IsOkOrErr (by_kind (kind_by effect class text) rows text stored s).reply
reply_kind (Tracked changes) class rows text stored s some = (sets_by (is_special text) changes rows text stored s).reply
reply_kind (Uses schema) class rows text stored s some = (uses_by (is_special text) schema rows text stored s).reply
reply_kind Neither class rows text stored s some = absurd (some refl)

-- The two texts of the insert id.

set_again : (n : ℕ) → n < 2 ^ 64 → id_set (set_id_text n) ≡ Some n
set_again n small =
    let front : take (length set_prefix) (set_id_text n) ≡ set_prefix = take_at set_prefix (decimal n) (length set_prefix) refl in
    let back : drop (length set_prefix) (set_id_text n) ≡ decimal n = drop_at set_prefix (decimal n) (length set_prefix) refl in
    ap (λ x. if bytes_eq x set_prefix then number_spelled (drop (length set_prefix) (set_id_text n)) else None) front ∙ ap number_spelled back ∙ spelled_again n small

-- the text that sets the insert id does so, or is refused
set_without : (n : ℕ) (reads_it deep marks is_begin is_commit : Bool) → (without_effect (Some n) reads_it deep marks is_begin is_commit ≡ SetsId n) ⊎ (without_effect (Some n) reads_it deep marks is_begin is_commit ≡ Refuses)
set_without n reads_it true true is_begin is_commit = inl refl
set_without n reads_it true false is_begin is_commit = inr refl
set_without n reads_it false marks is_begin is_commit = inr refl

set_kind : (effect : Effect) (class : Class) (text : List ℕ) (n : ℕ) → id_set text ≡ Some n → (kind_by effect class text ≡ SetsId n) ⊎ (kind_by effect class text ≡ Refuses)
set_kind (Tracked changes) class text n is = inr (ap (λ x. with_effect (is_some x || reads_the_id text) (Tracks changes)) is)
set_kind (Uses schema) class text n is = inr (ap (λ x. with_effect (is_some x || reads_the_id text) (Chooses schema)) is)
set_kind Neither class text n is =
    subst (λ x. (without_effect x (reads_the_id text) class.deep class.marks_id (bytes_eq text (codes "BEGIN")) (bytes_eq text (codes "COMMIT")) ≡ SetsId n) ⊎ (without_effect x (reads_the_id text) class.deep class.marks_id (bytes_eq text (codes "BEGIN")) (bytes_eq text (codes "COMMIT")) ≡ Refuses)) (sym is)
    (set_without n (reads_the_id text) class.deep class.marks_id (bytes_eq text (codes "BEGIN")) (bytes_eq text (codes "COMMIT")))

-- what holds of both kinds holds of that text
of_set : (P : Kind → Type 0) (class : Class) (n : ℕ) → n < 2 ^ 64 → P (SetsId n) → P Refuses → P (kind_of class (set_id_text n))
of_set P class n small set refused = elim (set_kind (effect_of class) class (set_id_text n) n (set_again n small)) [
  | inl is ↦ subst P (sym is) set
  | inr is ↦ subst P (sym is) refused
]

-- and the text that reads it
read_without : (reads_it deep marks is_begin is_commit : Bool) → reads_it ≡ true → (without_effect None reads_it deep marks is_begin is_commit ≡ ReadsId) ⊎ (without_effect None reads_it deep marks is_begin is_commit ≡ Refuses)
read_without true deep true is_begin is_commit e = inl refl
read_without true deep false is_begin is_commit e = inr refl
read_without false deep marks is_begin is_commit e = apart e refl

read_kind : (effect : Effect) (class : Class) → (kind_by effect class read_id_text ≡ ReadsId) ⊎ (kind_by effect class read_id_text ≡ Refuses)
read_kind (Tracked changes) class = inr refl
read_kind (Uses schema) class = inr refl
read_kind Neither class = read_without (reads_the_id read_id_text) class.deep class.marks_id (bytes_eq read_id_text (codes "BEGIN")) (bytes_eq read_id_text (codes "COMMIT")) refl

of_read : (P : Kind → Type 0) (class : Class) → P ReadsId → P Refuses → P (kind_of class read_id_text)
of_read P class read refused = elim (read_kind (effect_of class) class) [
  | inl is ↦ subst P (sym is) read
  | inr is ↦ subst P (sym is) refused
]

-- The laws.

module _ (reads : Reads) where
  text_keeps : (stored : List ℕ) (s : Session) → (not (is_some_of s.locks) && not (is_some_of s.deep)) ≡ true → (text : List ℕ) → (not (is_some_of (on_text (reads.class text) text stored s).session.locks) && not (is_some_of (on_text (reads.class text) text stored s).session.deep)) ≡ true
  text_keeps stored s good text =
      let class = reads.class text in
      let k = kind_of class text in
      let rows = rows_by class.reads_diag s in
      ap (λ x. not (is_some_of x) && not (is_some_of (by_kind k rows text stored s).session.deep)) ((kind_keeps k rows text stored s).locks) ∙ ap (λ x. not (is_some_of s.locks) && not (is_some_of x)) ((kind_keeps k rows text stored s).deep) ∙ good

  keeps : (stored : List ℕ) (s : Session) → Accepts tests stored s → (c : Cmd) → Accepts tests (tally reads stored s c).stored (tally reads stored s c).session
  keeps stored s ok (Query text) = (refl, text_keeps stored s ok.1 text)
  keeps stored s ok (Run text schema settings types nulls values long) = (refl, text_keeps stored s ok.1 text)
  keeps stored s ok (InitDb schema) = (refl, ok.1)
  keeps stored s ok (FieldList rest) = (refl, ok.1)
  keeps stored s ok (Prepare text) = (refl, ok.1)
  keeps stored s ok Reset = (refl, refl)
  keeps stored s ok Close = (refl, refl)

  user_law : (stored : List ℕ) (s : Session) → Accepts tests stored s → (c : Cmd) → (tally reads stored s c).session.user ≡ s.user
  user_law stored s ok (Query text) = (kind_keeps (kind_of (reads.class text) text) (rows_by (reads.class text).reads_diag s) text stored s).user
  user_law stored s ok (Run text schema settings types nulls values long) = (kind_keeps (kind_of (reads.class text) text) (rows_by (reads.class text).reads_diag s) text stored s).user
  user_law stored s ok (InitDb schema) = refl
  user_law stored s ok (FieldList rest) = refl
  user_law stored s ok (Prepare text) = refl
  user_law stored s ok Reset = refl
  user_law stored s ok Close = refl

  capabilities_law : (stored : List ℕ) (s : Session) → Accepts tests stored s → (c : Cmd) → (tally reads stored s c).session.capabilities ≡ s.capabilities
  capabilities_law stored s ok (Query text) = (kind_keeps (kind_of (reads.class text) text) (rows_by (reads.class text).reads_diag s) text stored s).capabilities
  capabilities_law stored s ok (Run text schema settings types nulls values long) = (kind_keeps (kind_of (reads.class text) text) (rows_by (reads.class text).reads_diag s) text stored s).capabilities
  capabilities_law stored s ok (InitDb schema) = refl
  capabilities_law stored s ok (FieldList rest) = refl
  capabilities_law stored s ok (Prepare text) = refl
  capabilities_law stored s ok Reset = refl
  capabilities_law stored s ok Close = refl

  -- a fact of a Query and of a Run of the same text
  sets : (stored : List ℕ) (s : Session) (c : Cmd) (changes : List Change) → effect_run reads c ≡ Tracked changes
      → (P : Outcome → Type 0) → ((k : Kind) (rows : Bool) (text : List ℕ) → Sets changes k rows text stored s → P (by_kind k rows text stored s)) → P (tally reads stored s c)
  sets stored s (Query text) changes e P holds = holds (kind_of (reads.class text) text) (rows_by (reads.class text).reads_diag s) text (sets_kind (effect_of (reads.class text)) (reads.class text) changes (rows_by (reads.class text).reads_diag s) text stored s e)
  sets stored s (Run text schema settings types nulls values long) changes e P holds = holds (kind_of (reads.class text) text) (rows_by (reads.class text).reads_diag s) text (sets_kind (effect_of (reads.class text)) (reads.class text) changes (rows_by (reads.class text).reads_diag s) text stored s e)
  sets stored s (InitDb schema) changes e P holds = absurd (cc)
  sets stored s (FieldList rest) changes e P holds = absurd (cc)
  sets stored s (Prepare text) changes e P holds = absurd (cc)
  sets stored s Reset changes e P holds = absurd (cc)
  sets stored s Close changes e P holds = absurd (cc)

  uses_stored : (stored : List ℕ) (s : Session) → Accepts tests stored s → (c : Cmd) (schema : List ℕ) → effect_run reads c ≡ Uses schema → (tally reads stored s c).stored ≡ stored
  uses_stored stored s ok (Query text) schema e = (uses_kind (effect_of (reads.class text)) (reads.class text) schema (rows_by (reads.class text).reads_diag s) text stored s e).stored_is
  uses_stored stored s ok (Run text schema' settings types nulls values long) schema e = (uses_kind (effect_of (reads.class text)) (reads.class text) schema (rows_by (reads.class text).reads_diag s) text stored s e).stored_is
  uses_stored stored s ok (InitDb schema') schema e = refl
  uses_stored stored s ok (FieldList rest) schema e = refl
  uses_stored stored s ok (Prepare text) schema e = refl
  uses_stored stored s ok Reset schema e = refl
  uses_stored stored s ok Close schema e = refl

  uses_session : (stored : List ℕ) (s : Session) → Accepts tests stored s → (c : Cmd) (schema : List ℕ) → effect_run reads c ≡ Uses schema
      → (tally reads stored s c).session ≡ record s { schema = schema_by (Uses schema) (is_ok (reply_end false (tally reads stored s c).reply)) s.schema; diag = (tally reads stored s c).session.diag }
  uses_session stored s ok (Query text) schema e = (uses_kind (effect_of (reads.class text)) (reads.class text) schema (rows_by (reads.class text).reads_diag s) text stored s e).session
  uses_session stored s ok (Run text schema' settings types nulls values long) schema e = (uses_kind (effect_of (reads.class text)) (reads.class text) schema (rows_by (reads.class text).reads_diag s) text stored s e).session
  uses_session stored s ok (InitDb schema') schema e =
      let same : schema' ≡ schema = cc in
      ap (λ x. record s { schema = x; diag = [] }) same ∙ ap (λ b. record s { schema = schema_by (Uses schema) b s.schema; diag = [] }) (sym (ok_is_ok false NoId (is_some_of s.tx)))
  uses_session stored s ok (FieldList rest) schema e = absurd (cc)
  uses_session stored s ok (Prepare text) schema e = absurd (cc)
  uses_session stored s ok Reset schema e = absurd (cc)
  uses_session stored s ok Close schema e = absurd (cc)

  -- a fact of the text of a Query or a Run
  of_text : (stored : List ℕ) (s : Session) (c : Cmd) (text : List ℕ) → text_run c ≡ Some text → (P : Outcome → Type 0) → P (on_text (reads.class text) text stored s) → P (tally reads stored s c)
  of_text stored s (Query text') text e P holds = let same : text' ≡ text = cc in subst (λ x. P (on_text (reads.class x) x stored s)) (sym same) holds
  of_text stored s (Run text' schema settings types nulls values long) text e P holds = let same : text' ≡ text = cc in subst (λ x. P (on_text (reads.class x) x stored s)) (sym same) holds
  of_text stored s (InitDb schema) text e P holds = absurd (cc)
  of_text stored s (FieldList rest) text e P holds = absurd (cc)
  of_text stored s (Prepare text') text e P holds = absurd (cc)
  of_text stored s Reset text e P holds = absurd (cc)
  of_text stored s Close text e P holds = absurd (cc)

  abbrev rows_of : List ℕ → Session → Bool
  rows_of text s = rows_by (reads.class text).reads_diag s

  abbrev kind_at : List ℕ → Kind
  kind_at text = kind_of (reads.class text) text

  text_law : TextLaw reads tests (tally reads)
  text_law = record {
    schema = λ stored s ok c text is shallow none. of_text stored s c text is (λ o. o.session.schema ≡ s.schema) (stays_neither (effect_of (reads.class text)) (reads.class text) (rows_of text s) text stored s none).schema;
    settings = λ stored s ok c text is shallow none. of_text stored s c text is (λ o. o.session.settings ≡ s.settings) (stays_neither (effect_of (reads.class text)) (reads.class text) (rows_of text s) text stored s none).settings;
    locks = λ stored s ok c text is shallow takes none. of_text stored s c text is (λ o. o.session.locks ≡ []) ((kind_keeps (kind_at text) (rows_of text s) text stored s).locks ∙ none);
    none = λ stored s ok c text is shallow next inside none. of_text stored s c text is (λ o. o.session.deep ≡ []) ((kind_keeps (kind_at text) (rows_of text s) text stored s).deep ∙ none);
    brief = λ stored s ok c text is shallow inside brief. of_text stored s c text is (λ o. is_brief o.session.deep ≡ true) (ap is_brief ((kind_keeps (kind_at text) (rows_of text s) text stored s).deep) ∙ brief);
    ended = λ stored s ok c text is shallow there over brief. of_text stored s c text is (λ o. o.session.deep ≡ []) ((kind_keeps (kind_at text) (rows_of text s) text stored s).deep ∙ (plain stored s ok).1);
    unset = λ stored s ok c text is shallow next err. of_text stored s c text is (λ o. o.session.deep ≡ s.deep) ((kind_keeps (kind_at text) (rows_of text s) text stored s).deep);
  }

  text_diag : (stored : List ℕ) (s : Session) (text diag : List ℕ) → (reads.class text).reads_diag ≡ false → on_text (reads.class text) text stored (with_diag diag s) ≡ on_text (reads.class text) text stored s
  text_diag stored s text diag unseen = ap (λ b. by_kind (kind_at text) b text stored (with_diag diag s)) (rows_blind (reads.class text).reads_diag s diag unseen) ∙ kind_diag (kind_at text) (rows_of text s) text stored s diag

  diag_law : (stored : List ℕ) (s : Session) → Accepts tests stored s → (c : Cmd) (diag : List ℕ) → Accepts tests stored (with_diag diag s) → sees_diag reads c ≡ false → tally reads stored (with_diag diag s) c ≡ tally reads stored s c
  diag_law stored s ok (Query text) diag there e = text_diag stored s text diag e
  diag_law stored s ok (Run text schema settings types nulls values long) diag there e = text_diag stored s text diag e
  diag_law stored s ok (InitDb schema) diag there e = refl
  diag_law stored s ok (FieldList rest) diag there e = refl
  diag_law stored s ok (Prepare text) diag there e = refl
  diag_law stored s ok Reset diag there e = apart refl e
  diag_law stored s ok Close diag there e = apart refl e

  text_id : (stored : List ℕ) (s : Session) (text : List ℕ) (n : ℕ) → (reads.class text).marks_id ≡ false → on_text (reads.class text) text stored (with_id n s) ≡ outcome_with_id n (on_text (reads.class text) text stored s)
  text_id stored s text n un = ap (λ b. by_kind (kind_at text) b text stored (with_id n s)) (rows_id (reads.class text).reads_diag s n) ∙ kind_id (kind_at text) (rows_of text s) text stored s n (unmarked_kind (effect_of (reads.class text)) (reads.class text) text un)

  id_law : (stored : List ℕ) (s : Session) → Accepts tests stored s → (c : Cmd) (n : ℕ) → sees_id reads c ≡ false → tally reads stored (with_id n s) c ≡ outcome_with_id n (tally reads stored s c)
  id_law stored s ok (Query text) n e = text_id stored s text n e
  id_law stored s ok (Run text schema settings types nulls values long) n e = text_id stored s text n e
  id_law stored s ok (InitDb schema) n e = refl
  id_law stored s ok (FieldList rest) n e = refl
  id_law stored s ok (Prepare text) n e = refl
  id_law stored s ok Reset n e = apart refl e
  id_law stored s ok Close n e = apart refl e

  insert_id : IdLaw reads tests (tally reads)
  insert_id = record {
    kept = λ stored s ok c text is marks shallow shown none. of_text stored s c text is (λ o. brings_id (reply_end false o.reply) ≡ false → o.session.last_id ≡ s.last_id) (kept_kind (effect_of (reads.class text)) (reads.class text) (rows_of text s) text stored s shallow) none;
    set_stored = λ stored s ok n small. of_set (λ k. (by_kind k (rows_of (set_id_text n) s) (set_id_text n) stored s).stored ≡ stored) (reads.class (set_id_text n)) n small refl refl;
    set_done = λ stored s ok n small. of_set (λ k. is_ok (reply_end false (by_kind k (rows_of (set_id_text n) s) (set_id_text n) stored s).reply) ≡ true → (by_kind k (rows_of (set_id_text n) s) (set_id_text n) stored s).session ≡ with_diag (by_kind k (rows_of (set_id_text n) s) (set_id_text n) stored s).session.diag (with_id n s)) (reads.class (set_id_text n)) n small (λ e. refl) (λ e. apart e refusal_not_ok);
    set_refused = λ stored s ok n small. of_set (λ k. is_ok (reply_end false (by_kind k (rows_of (set_id_text n) s) (set_id_text n) stored s).reply) ≡ false → (by_kind k (rows_of (set_id_text n) s) (set_id_text n) stored s).session ≡ with_diag (by_kind k (rows_of (set_id_text n) s) (set_id_text n) stored s).session.diag s) (reads.class (set_id_text n)) n small (λ e. apart (ok_is_ok false NoId (is_some_of s.tx)) e) (λ e. refl);
    set_reply = λ stored s ok n k small. of_set (λ x. (by_kind x (rows_of (set_id_text n) (with_id k s)) (set_id_text n) stored (with_id k s)).reply ≡ (by_kind x (rows_of (set_id_text n) s) (set_id_text n) stored s).reply) (reads.class (set_id_text n)) n small refl refl;
    set_diag = λ stored s ok n k small. of_set (λ x. (by_kind x (rows_of (set_id_text n) (with_id k s)) (set_id_text n) stored (with_id k s)).session.diag ≡ (by_kind x (rows_of (set_id_text n) s) (set_id_text n) stored s).session.diag) (reads.class (set_id_text n)) n small refl refl;
    set_blind = λ stored s ok n small diag there. blind_same tests _ _ diag s.diag _ _ (of_set (λ x. by_kind x (rows_of (set_id_text n) (with_diag diag s)) (set_id_text n) stored (with_diag diag s) ≡ by_kind x (rows_of (set_id_text n) s) (set_id_text n) stored s) (reads.class (set_id_text n)) n small refl refl);
    read_stored = λ stored s ok. of_read (λ k. (by_kind k (rows_of read_id_text s) read_id_text stored s).stored ≡ stored) (reads.class read_id_text) refl refl;
    read_session = λ stored s ok. of_read (λ k. (by_kind k (rows_of read_id_text s) read_id_text stored s).session ≡ with_diag (by_kind k (rows_of read_id_text s) read_id_text stored s).session.diag s) (reads.class read_id_text) refl refl;
    read_row = λ stored s ok. of_read (λ k. (is_err (reply_end false (by_kind k (rows_of read_id_text s) read_id_text stored s).reply) ≡ true) ⊎ (one_number (by_kind k (rows_of read_id_text s) read_id_text stored s).reply ≡ Some s.last_id)) (reads.class read_id_text)
        (told_by (is_some_of s.tx) s.last_id (nat_eq s.last_id 0) (nat_eq s.last_id 1) (nat_eq s.last_id 2) refl refl refl) (inl refusal_is_err);
    read_blind = λ stored s ok diag there. blind_same tests _ _ diag s.diag _ _ (of_read (λ x. by_kind x (rows_of read_id_text (with_diag diag s)) read_id_text stored (with_diag diag s) ≡ by_kind x (rows_of read_id_text s) read_id_text stored s) (reads.class read_id_text) refl refl);
  }

  shown_law : (stored : List ℕ) (s : Session) → Accepts tests stored s → (c : Cmd) → is_prepare c ≡ false → is_close c ≡ false → (shown : Bool) → shows_transaction (reply_end false (tally reads stored s c).reply) ≡ Some shown → is_some_of (tally reads stored s c).session.tx ≡ shown
  shown_law stored s ok (Query text) p c shown e = kind_flags (kind_at text) (rows_of text s) text stored s shown e
  shown_law stored s ok (Run text schema settings types nulls values long) p c shown e = kind_flags (kind_at text) (rows_of text s) text stored s shown e
  shown_law stored s ok (InitDb schema) p c shown e = let is = ok_shows false NoId (is_some_of s.tx) in cc
  shown_law stored s ok (FieldList rest) p c shown e = let is = fields_shows (is_some_of s.tx) in cc
  shown_law stored s ok (Prepare text) p c shown e = apart refl p
  shown_law stored s ok Reset p c shown e = let is = ok_shows false NoId false in cc
  shown_law stored s ok Close p c shown e = apart refl c

  params_law : (text : List ℕ) → (reply_end true (prepared (number_of text))).params ≡ 1
  unfolding reply_end
  params_law text = refl

  changes_law : (stored : List ℕ) (s : Session) → Accepts tests stored s → (c : Cmd) → effect_run reads c ≢ Neither → IsOkOrErr (tally reads stored s c).reply
  changes_law stored s ok (Query text) some = reply_kind (effect_of (reads.class text)) (reads.class text) (rows_of text s) text stored s some
  changes_law stored s ok (Run text schema settings types nulls values long) some = reply_kind (effect_of (reads.class text)) (reads.class text) (rows_of text s) text stored s some
  changes_law stored s ok (InitDb schema) some = answers false NoId (is_some_of s.tx)
  changes_law stored s ok (FieldList rest) some = absurd (some refl)
  changes_law stored s ok (Prepare text) some = absurd (some refl)
  changes_law stored s ok Reset some = absurd (some refl)
  changes_law stored s ok Close some = absurd (some refl)

  pub tally_tame : IsTame reads tests (tally reads)
  tally_tame = record {
    tests_kept = record { accepts_fresh = refl; keeps = keeps };
    account = record { user = user_law; capabilities = capabilities_law };
    reset = record { answered = λ stored s ok. ok_is_ok false NoId false; session = λ stored s ok. refl; deep = λ stored s ok lasts. refl; nothing_lasts = refl; brings = λ stored s ok c plain lasts. refl; blind = λ stored s ok n diag there. refl; idle = λ stored s ok tx locks deep. refl; close_reply = λ stored s ok. refl; close_stored = λ stored s ok. refl; close_session = λ stored s ok. refl };
    tracked = record {
      settings = λ stored s ok c changes e. sets stored s c changes e (λ o. o.session.settings ≡ settings_by (Tracked changes) (is_ok (reply_end false o.reply)) s.settings) (λ k rows text is. is.settings);
      schema = λ stored s ok c changes e. sets stored s c changes e (λ o. o.session.schema ≡ s.schema) (λ k rows text is. is.schema);
      locks = λ stored s ok c changes e. sets stored s c changes e (λ o. o.session.locks ≡ s.locks) (λ k rows text is. (kind_keeps k rows text stored s).locks);
      last_id = λ stored s ok c changes e. sets stored s c changes e (λ o. o.session.last_id ≡ s.last_id) (λ k rows text is. is.last_id);
      calm = λ stored s ok c changes e calm. sets stored s c changes e (λ o. o.stored ≡ stored) (λ k rows text is. is.stored_is);
      calm_tx = λ stored s ok c changes e calm. sets stored s c changes e (λ o. o.session.tx ≡ s.tx) (λ k rows text is. is.tx);
    };
    schemas = record { stored = uses_stored; session = uses_session };
    texts = text_law;
    blind = record { diag = λ stored s ok c diag there sees. blind_whole tests (λ d. refl) (tally reads) stored s c diag _ _ _ _ (λ e. diag_law stored s ok c diag there e) sees; last_id = id_law };
    insert_id = insert_id;
    flags = record { in_trans = shown_law };
    preparing = record {
      stored = λ stored s ok text. refl;
      session = λ stored s ok text. refl;
      fields_stored = λ stored s ok rest. refl;
      fields_session = λ stored s ok rest. refl;
      params = λ stored stored' s s' ok ok' text fine fine'. params_law text ∙ sym (params_law text);
      run = λ stored s ok text schema there here types nulls values long same. refl;
    };
    unlock = record { frees = λ stored s ok c text is frees. of_text stored s c text is (λ o. o.session.locks ≡ []) ((kind_keeps (kind_at text) (rows_of text s) text stored s).locks ∙ (plain stored s ok).0) };
    replies = record {
      changes = changes_law;
      set_id = λ stored s ok n small. of_set (λ k. IsOkOrErr (by_kind k (rows_of (set_id_text n) s) (set_id_text n) stored s).reply) (reads.class (set_id_text n)) n small (answers false NoId (is_some_of s.tx)) refuses;
    };
  }
