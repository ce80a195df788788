-- What happens on a link keeps what code knows of it true.
use Rattle.std.specs.Prelude.{◌≡◌, ℕ, Bool, true, false, not, ◌||◌, nat_eq, if◌then◌else◌, List, [], ◌∷◌, filter, Option, Some, None}
use Rattle.std.specs.Option.{option_and_then}
use Rattle.std.proofs.Common.{refl, sym, ap, ◌∙◌, arith, subst}
use Rattle.std.proofs.lemmas.Option.{none-some}
use Rattle.packet_frame.specs.PacketLaws.{nat_eq-false, nat_eq-true}
use Rattle.pin_classifier.specs.declared.class.Class.{Class}
use Rattle.session_state.specs.Classes.{Effect, Neither, Tracked, Uses, effect_of, settings_by}
use Rattle.session_state.specs.Endings as ending
use Rattle.session_state.specs.InsertIds.{id_after_text, id_prepared}
use Rattle.session_state.specs.declared.place.Told.{Told}
use Rattle.server_rule.specs.Classes.{Reads}
use Rattle.server_rule.specs.Replies.{one_number}
use Rattle.private_model.specs.Commands as commands
use Rattle.private_model.specs.Commands.{Account, Command, Reply, class_of, end_of, id_after, is_marked, is_prepare, number_in}
use Rattle.private_model.specs.Names.{ServerId, SessionName}
use Rattle.private_model.specs.Story as story
use Rattle.private_model.specs.Story.{Due, Question, command_of, for_statement, put}
use Rattle.private_model.specs.View as view
use Rattle.private_model.specs.View.{Link, carried_for, id_heard, live_after, lived, new_link, ran_by, told_after, told_schema}
use Rattle.link_state.specs.Answers.{affected, id_for, id_in, live_for, schema_told, told_by}
use Rattle.link_state.specs.Asks.{joined_for, lent_for, marks, marks_by}
use Rattle.link_state.specs.States.{asked, closed_number, fresh, heard, heard_in, ran_in}
use Rattle.link_state.specs.Stood.{closed, number_of, stood}
use Rattle.link_state.specs.declared.asking.Asking.{Asking}
use Rattle.link_state.specs.declared.asking.Form.{Form}
use Rattle.link_state.specs.declared.asking.Form.TheVariants.{Text, Fields, Prepare, SetId, ReadId, Reset}
use Rattle.link_state.specs.declared.asking.Purpose.{Purpose}
use Rattle.link_state.specs.declared.asking.Purpose.TheVariants as purposes
use Rattle.link_state.specs.declared.state.Carried.{Carried}
use Rattle.link_state.specs.declared.state.Carried.TheVariants.{Nobody, Lent, Joined}
use Rattle.link_state.specs.declared.state.LinkState.{LinkState}
use Rattle.link_state.specs.declared.state.Stage.{Stage}
use Rattle.link_state.specs.declared.state.Stage.TheVariants.{Quiet, Asked, Answered}
use Rattle.link_laws.specs.Stands.{AreApart, AreOnce, Codes, IsAsking, IsForm, IsKeyOf, IsLink, IsNaming, IsPurpose, IsStage, carried_of, key_asked, key_for, number_at}

-- What a link was told.

same_schema : (effect : Effect) (ok : Bool) (old : Option (List ℕ)) → schema_told effect ok old ≡ told_schema effect ok old
same_schema (Uses schema) true old = refl
same_schema (Uses schema) false old = refl
same_schema (Tracked changes) true old = refl
same_schema (Tracked changes) false old = refl
same_schema Neither true old = refl
same_schema Neither false old = refl

text_told : (effect : Effect) (ok : Bool) (told : Told) → affected effect ok told ≡ record { schema = told_schema effect ok told.schema; settings = settings_by effect ok told.settings }
text_told effect ok told = λ i. record { schema = same_schema effect ok told.schema i; settings = settings_by effect ok told.settings }

none_told : (ok : Bool) (told : Told) → told ≡ record { schema = told_schema Neither ok told.schema; settings = settings_by Neither ok told.settings }
none_told true told = refl
none_told false told = refl

class_told : (class other : Class) (reply : Reply) (told : Told) → class ≡ other
    → affected (effect_of class) (ending.is_ok (end_of reply)) told
    ≡ record { schema = told_schema (effect_of other) (ending.is_ok (end_of reply)) told.schema; settings = settings_by (effect_of other) (ending.is_ok (end_of reply)) told.settings }
class_told class other reply told is =
    ap (λ (c : Class). affected (effect_of c) (ending.is_ok (end_of reply)) told) is ∙ text_told (effect_of other) (ending.is_ok (end_of reply)) told

told_same : (reads : Reads) (form : Form) (command : Command) (reply : Reply) (told : Told) → IsForm reads form command
    → told_by form (end_of reply) told ≡ told_after reads command reply told
told_same reads (Text class) (commands.Query text) reply told is = class_told class (reads.class text) reply told is.is
told_same reads (Text class) (commands.Run text schema settings args) reply told is = class_told class (reads.class text) reply told is.is
told_same reads (Text class) (commands.InitDb schema) reply told is = class_told class (class_of reads (commands.InitDb schema)) reply told is
told_same reads Fields (commands.FieldList rest) reply told is = none_told (ending.is_ok (end_of reply)) told
told_same reads (Prepare class) (commands.Prepare text) reply told is = none_told (ending.is_ok (end_of reply)) told
told_same reads (SetId id) (commands.SetId n) reply told is = none_told (ending.is_ok (end_of reply)) told
told_same reads ReadId commands.ReadId reply told is = none_told (ending.is_ok (end_of reply)) told
told_same reads Reset commands.Reset reply told is = refl
told_same reads _ _ reply told is = absurd is

-- Its insert id.

text_id : (class other : Class) (hides : Bool) (reply : Reply) (old : Option ℕ) → class ≡ other → class.sets_id ≡ hides
    → id_after_text class class.sets_id (end_of reply) old ≡ id_after_text other hides (end_of reply) old
text_id class other hides reply old is hidden = λ i. id_after_text (is i) (hidden i) (end_of reply) old

id_same : (reads : Reads) (form : Form) (command : Command) (reply : Reply) (old : Option ℕ) → IsForm reads form command
    → id_in form (end_of reply) (one_number reply.payloads) old ≡ id_after reads command reply old
id_same reads (Text class) (commands.Query text) reply old is = text_id class (reads.class text) (reads.hides_id text) reply old is.is is.hides
id_same reads (Text class) (commands.Run text schema settings args) reply old is = text_id class (reads.class text) (reads.hides_id text) reply old is.is is.hides
id_same reads (Text class) (commands.InitDb schema) reply old is = text_id class (class_of reads (commands.InitDb schema)) false reply old is (ap (λ (c : Class). c.sets_id) is)
id_same reads Fields (commands.FieldList rest) reply old is = refl
id_same reads (Prepare class) (commands.Prepare text) reply old is = ap (λ (c : Class). id_prepared c (end_of reply) old) is.is
id_same reads (SetId id) (commands.SetId n) reply old is = ap (λ (value : ℕ). if ending.is_ok (end_of reply) then Some value else old) is
id_same reads ReadId commands.ReadId reply old is = refl
id_same reads Reset commands.Reset reply old is = refl
id_same reads _ _ reply old is = absurd is

module _ (reads : Reads) (codes : Codes) where
  pub id_question : (purpose : Purpose) (form : Form) (question : Question) (reply : Reply) (id : Option ℕ) → IsPurpose codes purpose question
      → IsForm reads form (command_of question) → id_heard reads question reply id ≡ id_for purpose form (end_of reply) (one_number reply.payloads) id
  id_question (purposes.Statement name ordinal key) form (story.Statement n due) reply id for is = sym (id_same reads form due.command reply id is)
  id_question (purposes.Prep name ordinal at) form (story.Prep n key text) reply id for is = refl
  id_question (purposes.Sync name) form (story.Sync n command) reply id for is = sym (id_same reads form command reply id is)
  id_question purposes.Own form (story.Own command) reply id for is = sym (id_same reads form command reply id is)
  id_question (purposes.End name) form (story.End n) reply id for is = sym (id_same reads form commands.Reset reply id is)
  id_question (purposes.Capture name) form (story.Capture n) reply id for is = sym (id_same reads form commands.ReadId reply id is)
  id_question _ form _ reply id for is = absurd for

-- What is prepared there.

same_some : (a b : ℕ) → Some a ≡ Some b → a ≡ b
same_some a b is = cc

flip : (a b : ℕ) → nat_eq a b ≡ false → nat_eq b a ≡ false
flip a b apart = grind arith

put_found : (live : List (ℕ × ℕ)) (key number k : ℕ) → number_of (stood live key number) k ≡ put nat_eq (number_of live) key (Some number) k
put_found [] key number k = refl
put_found (e ∷ es) key number k = by (nat_eq key e.0) (nat_eq k e.0) refl refl (put_found es key number k) where
  by : (same found : Bool) → nat_eq key e.0 ≡ same → nat_eq k e.0 ≡ found → number_of (stood es key number) k ≡ put nat_eq (number_of es) key (Some number) k
      → number_of (if same then (e.0, number) ∷ es else e ∷ stood es key number) k ≡ (if nat_eq k key then Some number else (if found then Some e.1 else number_of es k))
  by true true s f later = let same_key : nat_eq k key ≡ true = ap (nat_eq k) (nat_eq-true key e.0 s) ∙ f in rw (f, same_key) refl
  by true false s f later = let other_key : nat_eq k key ≡ false = ap (nat_eq k) (nat_eq-true key e.0 s) ∙ f in rw (f, other_key) refl
  by false true s f later =
      let other_key : nat_eq k key ≡ false = ap (λ (n : ℕ). nat_eq n key) (nat_eq-true k e.0 f) ∙ flip key e.0 s in
      rw (f, other_key) refl
  by false false s f later = rw f later

-- each key stands once still

stood_once : (live : List (ℕ × ℕ)) (key number : ℕ) → AreOnce live → AreOnce (stood live key number)
stood_once [] key number once = (refl, tt)
stood_once (e ∷ es) key number once = by (nat_eq key e.0) refl (stood_once es key number once.1) where
  by : (same : Bool) → nat_eq key e.0 ≡ same → AreOnce (stood es key number) → AreOnce (if same then (e.0, number) ∷ es else e ∷ stood es key number)
  by true same later = once
  by false other later =
      let apart : nat_eq e.0 key ≡ false = flip key e.0 other in
      (put_found es key number e.0 ∙ ap (λ (found : Bool). if found then Some number else number_of es e.0) apart ∙ once.0, later)

abbrev FilteredNone : List (ℕ × ℕ) → (ℕ × ℕ → Bool) → ℕ → Type 0
FilteredNone live test k = number_of (filter test live) k ≡ None

none_filtered : (live : List (ℕ × ℕ)) (test : ℕ × ℕ → Bool) (k : ℕ) → number_of live k ≡ None → FilteredNone live test k
none_filtered [] test k none = refl
none_filtered (e ∷ es) test k none = by (nat_eq k e.0) refl none (λ there. none_filtered es test k there) where
  kept : (keeps : Bool) → nat_eq k e.0 ≡ false → FilteredNone es test k → number_of (if keeps then e ∷ filter test es else filter test es) k ≡ None
  kept true other later = ap (λ (found : Bool). if found then Some e.1 else number_of (filter test es) k) other ∙ later
  kept false other later = later

  by : (found : Bool) → nat_eq k e.0 ≡ found → (if found then Some e.1 else number_of es k) ≡ None
      → (number_of es k ≡ None → FilteredNone es test k) → FilteredNone (e ∷ es) test k
  by true same there later = absurd (cc)
  by false other there later = kept (test e) other (later there)

filtered_once : (live : List (ℕ × ℕ)) (test : ℕ × ℕ → Bool) → AreOnce live → AreOnce (filter test live)
filtered_once [] test once = tt
filtered_once (e ∷ es) test once = kept (test e) (filtered_once es test once.1) where
  kept : (keeps : Bool) → AreOnce (filter test es) → AreOnce (if keeps then e ∷ filter test es else filter test es)
  kept true later = (none_filtered es test e.0 once.0, later)
  kept false later = later

abbrev but : (number : ℕ) → Option ℕ → Option ℕ
but number found = option_and_then (λ n. if nat_eq n number then None else Some n) found

closed_found : (live : List (ℕ × ℕ)) (number k : ℕ) → AreOnce live → number_of (closed live number) k ≡ but number (number_of live k)
closed_found [] number k once = refl
closed_found (e ∷ es) number k once = by (nat_eq k e.0) (nat_eq e.1 number) refl refl (closed_found es number k once.1) where
  by : (found gone : Bool) → nat_eq k e.0 ≡ found → nat_eq e.1 number ≡ gone → number_of (closed es number) k ≡ but number (number_of es k)
      → number_of (if not gone then e ∷ closed es number else closed es number) k ≡ but number (if found then Some e.1 else number_of es k)
  by true true same is later =
      let none : number_of es k ≡ None = ap (number_of es) (nat_eq-true k e.0 same) ∙ once.0 in
      none_filtered es (λ entry. not (nat_eq entry.1 number)) k none ∙ ap (λ (gone : Bool). if gone then None else Some e.1) (sym is)
  by true false same is later =
      ap (λ (found : Bool). if found then Some e.1 else number_of (closed es number) k) same ∙ ap (λ (gone : Bool). if gone then None else Some e.1) (sym is)
  by false true other is later = later
  by false false other is later = ap (λ (found : Bool). if found then Some e.1 else number_of (closed es number) k) other ∙ later

none_at : (code : Option ℕ) → None ≡ option_and_then (number_of []) code
none_at None = refl
none_at (Some number) = refl

module _ (codes : Codes) (apart : AreApart codes) where
  -- a text was prepared, unless the answer is an ERR
  stood_at : (live : List (ℕ × ℕ)) (key at number k : ℕ) → codes at ≡ Some key
      → put nat_eq (number_at codes live) at (Some number) k ≡ number_at codes (stood live key number) k
  stood_at live key at number k named = by (codes k) refl (nat_eq k at) refl where
    by : (code : Option ℕ) → codes k ≡ code → (same : Bool) → nat_eq k at ≡ same
        → (if same then Some number else option_and_then (number_of live) code) ≡ option_and_then (number_of (stood live key number)) code
    by None none true same = absurd (none-some key (sym none ∙ ap codes (nat_eq-true k at same) ∙ named))
    by None none false other = refl
    by (Some j) there true same =
        let is : j ≡ key = same_some j key (sym there ∙ ap codes (nat_eq-true k at same) ∙ named) in
        let found : nat_eq j key ≡ true = rw is (grind arith) in
        sym (put_found live key number j ∙ ap (λ (found : Bool). if found then Some number else number_of live j) found)
    by (Some j) there false other = sym (put_found live key number j ∙ ap (λ (found : Bool). if found then Some number else number_of live j) (differs (nat_eq j key) refl)) where
      differs : (found : Bool) → nat_eq j key ≡ found → nat_eq j key ≡ false
      differs true found =
          let is : k ≡ at = apart k at key (there ∙ ap (λ (n : ℕ). Some n) (nat_eq-true j key found)) named in
          absurd (nat_eq-false k at other is)
      differs false found = found

  made_live : (live : List (ℕ × ℕ)) (of : ℕ → Option ℕ) (key at number k : ℕ) (err : Bool) → ((n : ℕ) → of n ≡ number_at codes live n) → codes at ≡ Some key
      → lived true (not err) at number of k ≡ number_at codes (if err then live else stood live key number) k
  made_live live of key at number k true same named = same k
  made_live live of key at number k false same named =
      ap (λ (found : Option ℕ). if nat_eq k at then Some number else found) (same k) ∙ stood_at live key at number k named

  module _ (reads : Reads) (reply : Reply) (live : List (ℕ × ℕ)) (of : ℕ → Option ℕ) (same : (n : ℕ) → of n ≡ number_at codes live n) (k : ℕ) where
    statement_live : (name : SessionName) (ordinal key at : ℕ) (form : Form) (command : Command) → IsKeyOf codes key command at → IsForm reads form command
        → lived (is_prepare command) (commands.is_made reply) at (number_in reply) of k ≡ number_at codes (live_for (purposes.Statement name ordinal key) form (end_of reply) live) k
    statement_live name ordinal key at (Text class) (commands.Query text) keys is = same k
    statement_live name ordinal key at (Text class) (commands.Run text schema settings args) keys is = same k
    statement_live name ordinal key at (Text class) (commands.InitDb schema) keys is = same k
    statement_live name ordinal key at Fields (commands.FieldList rest) keys is = same k
    statement_live name ordinal key at (Prepare class) (commands.Prepare text) keys is = made_live live of key at (number_in reply) k (ending.is_err (end_of reply)) same keys
    statement_live name ordinal key at (SetId id) (commands.SetId n) keys is = same k
    statement_live name ordinal key at ReadId commands.ReadId keys is = same k
    statement_live name ordinal key at Reset commands.Reset keys is = same k
    statement_live name ordinal key at _ _ keys is = absurd is

    live_question : (purpose : Purpose) (form : Form) (question : Question) → IsPurpose codes purpose question → IsForm reads form (command_of question)
        → live_after question reply of k ≡ number_at codes (live_for purpose form (end_of reply) live) k
    live_question (purposes.Statement name ordinal key) form (story.Statement n due) for is = statement_live name ordinal key due.key form due.command for.key is
    live_question (purposes.Prep name ordinal at) form (story.Prep n key text) for is = made_live live of at key (number_in reply) k (ending.is_err (end_of reply)) same for.key
    live_question (purposes.Sync name) form (story.Sync n command) for is = same k
    live_question purposes.Own form (story.Own command) for is = same k
    live_question (purposes.End name) form (story.End n) for is = none_at (codes k)
    live_question (purposes.Capture name) form (story.Capture n) for is = same k
    live_question _ form _ for is = absurd for

once_made : (key : ℕ) (reply : Reply) (live : List (ℕ × ℕ)) (err : Bool) → AreOnce live → AreOnce (if err then live else stood live key (number_in reply))
once_made key reply live true once = once
once_made key reply live false once = stood_once live key (number_in reply) once

once_heard : (purpose : Purpose) (form : Form) (reply : Reply) (live : List (ℕ × ℕ)) → AreOnce live → AreOnce (live_for purpose form (end_of reply) live)
once_heard (purposes.Statement name ordinal key) (Prepare class) reply live once = once_made key reply live (ending.is_err (end_of reply)) once
once_heard (purposes.Statement name ordinal key) (Text class) reply live once = once
once_heard (purposes.Statement name ordinal key) Fields reply live once = once
once_heard (purposes.Statement name ordinal key) (SetId id) reply live once = once
once_heard (purposes.Statement name ordinal key) ReadId reply live once = once
once_heard (purposes.Statement name ordinal key) Reset reply live once = once
once_heard (purposes.Prep name ordinal key) form reply live once = once_made key reply live (ending.is_err (end_of reply)) once
once_heard (purposes.Sync name) form reply live once = once
once_heard purposes.Own form reply live once = once
once_heard (purposes.End name) form reply live once = tt
once_heard (purposes.Capture name) form reply live once = once

-- The answer is read.

module _ (reads : Reads) (codes : Codes) where
  pub heard_by : (state : LinkState) (link : Link) (question : Question) (reply : Reply) → AreApart codes → IsLink reads codes state link → (stage : Stage)
      → IsStage reads codes stage (view.Answered question)
      → IsLink reads codes (heard_in stage (end_of reply) (one_number reply.payloads) state) (view.heard reads question reply link)
  heard_by state link question reply apart stands (Answered asking) is = record {
    told = ap (told_after reads (command_of question) reply) stands.told ∙ sym (told_same reads asking.form (command_of question) reply state.told is.form);
    id = ap (id_heard reads question reply) stands.id ∙ id_question reads codes asking.purpose asking.form question reply state.id is.purpose is.form;
    live = λ key. live_question codes apart reads reply state.live link.live stands.live key asking.purpose asking.form question is.purpose is.form;
    once = once_heard asking.purpose asking.form reply state.live stands.once;
    carries = stands.carries;
    marked = stands.marked;
    stage = tt;
  }
  heard_by state link question reply apart stands Quiet is = absurd is
  heard_by state link question reply apart stands (Asked asking) is = absurd is

  pub heard_so : (state : LinkState) (link : Link) (question : Question) (reply : Reply) → AreApart codes → IsLink reads codes state link
      → link.stage ≡ view.Answered question
      → IsLink reads codes (heard (end_of reply) (one_number reply.payloads) state) (view.heard reads question reply link)
  heard_so state link question reply apart stands there =
      heard_by state link question reply apart stands state.stage (subst (λ (s : view.Stage). IsStage reads codes state.stage s) there stands.stage)

-- A new link.

pub new_so : (reads : Reads) (codes : Codes) (server : ServerId) (account : Account) → IsLink reads codes fresh (new_link server account)
new_so reads codes server account = record {
  told = refl;
  id = refl;
  live = λ key. none_at (codes key);
  once = tt;
  carries = refl;
  marked = refl;
  stage = tt;
}

-- A question goes out.

module _ (codes : Codes) where
  carried_same : (purpose : Purpose) (question : Question) (carries : Carried) → IsPurpose codes purpose question
      → carried_for question (carried_of carries) ≡ carried_of (lent_for purpose carries)
  carried_same (purposes.Statement name ordinal key) (story.Statement n due) Nobody for = ap view.Lent (sym for.name)
  carried_same (purposes.Statement name ordinal key) (story.Statement n due) (Lent m) for = refl
  carried_same (purposes.Statement name ordinal key) (story.Statement n due) (Joined m) for = refl
  carried_same (purposes.Prep name ordinal at) (story.Prep n key text) Nobody for = ap view.Lent (sym for.name)
  carried_same (purposes.Prep name ordinal at) (story.Prep n key text) (Lent m) for = refl
  carried_same (purposes.Prep name ordinal at) (story.Prep n key text) (Joined m) for = refl
  carried_same (purposes.Sync name) (story.Sync n command) carries for = refl
  carried_same purposes.Own (story.Own command) carries for = refl
  carried_same (purposes.End name) (story.End n) carries for = refl
  carried_same (purposes.Capture name) (story.Capture n) carries for = refl
  carried_same _ _ carries for = absurd for

pub asked_so : (reads : Reads) (codes : Codes) (state : LinkState) (link : Link) (asking : Asking) (question : Question) → IsLink reads codes state link
    → IsAsking reads codes asking question → IsLink reads codes (asked asking state) (view.asked question link)
asked_so reads codes state link asking question stands is = record {
  told = stands.told;
  id = stands.id;
  live = stands.live;
  once = stands.once;
  carries = ap (carried_for question) stands.carries ∙ carried_same codes asking.purpose question state.carries is.purpose;
  marked = stands.marked;
  stage = is;
}

-- It runs.

marks_same : (reads : Reads) (form : Form) (command : Command) → IsForm reads form command → is_marked reads command ≡ marks form
marks_same reads (Text class) (commands.Query text) is = ap (λ (c : Class). c.marks_id) (sym is.is)
marks_same reads (Text class) (commands.Run text schema settings args) is = ap (λ (c : Class). c.marks_id) (sym is.is)
marks_same reads (Text class) (commands.InitDb schema) is = ap (λ (c : Class). c.marks_id) (sym is)
marks_same reads Fields (commands.FieldList rest) is = refl
marks_same reads (Prepare class) (commands.Prepare text) is = ap (λ (c : Class). c.marks_id) (sym is.is)
marks_same reads (SetId id) (commands.SetId n) is = refl
marks_same reads ReadId commands.ReadId is = refl
marks_same reads Reset commands.Reset is = refl
marks_same reads _ _ is = absurd is

module _ (reads : Reads) (codes : Codes) where
  joined_same : (purpose : Purpose) (question : Question) (carried : view.Carried) (carries : Carried) → carried ≡ carried_of carries → IsPurpose codes purpose question
      → for_statement question (λ n due. view.Joined n) carried ≡ carried_of (joined_for purpose carries)
  joined_same (purposes.Statement name ordinal key) (story.Statement n due) carried carries same for = ap view.Joined (sym for.name)
  joined_same (purposes.Prep name ordinal at) (story.Prep n key text) carried carries same for = same
  joined_same (purposes.Sync name) (story.Sync n command) carried carries same for = same
  joined_same purposes.Own (story.Own command) carried carries same for = same
  joined_same (purposes.End name) (story.End n) carried carries same for = same
  joined_same (purposes.Capture name) (story.Capture n) carried carries same for = same
  joined_same _ _ carried carries same for = absurd for

  marked_same : (purpose : Purpose) (form : Form) (question : Question) (a b : Bool) → a ≡ b → IsPurpose codes purpose question → IsForm reads form (command_of question)
      → (for_statement question (λ n due. is_marked reads due.command) false || a) ≡ (marks_by purpose form || b)
  marked_same (purposes.Statement name ordinal key) form (story.Statement n due) a b same for is = λ i. marks_same reads form due.command is i || same i
  marked_same (purposes.Prep name ordinal at) form (story.Prep n key text) a b same for is = same
  marked_same (purposes.Sync name) form (story.Sync n command) a b same for is = same
  marked_same purposes.Own form (story.Own command) a b same for is = same
  marked_same (purposes.End name) form (story.End n) a b same for is = same
  marked_same (purposes.Capture name) form (story.Capture n) a b same for is = same
  marked_same _ form _ a b same for is = absurd for

  pub ran_at : (state : LinkState) (link : Link) → IsLink reads codes state link → (stage : Stage) (there : view.Stage) → IsStage reads codes stage there
      → IsLink reads codes (ran_in stage state) (ran_by reads there link)
  ran_at state link stands Quiet view.Quiet is = stands
  ran_at state link stands (Answered asking) (view.Answered question) is = stands
  ran_at state link stands (Asked asking) (view.Asked question) is = record {
    told = stands.told;
    id = stands.id;
    live = stands.live;
    once = stands.once;
    carries = joined_same asking.purpose question link.carries state.carries stands.carries is.purpose;
    marked = marked_same asking.purpose asking.form question link.marked state.marked stands.marked is.purpose is.form;
    stage = is;
  }
  ran_at state link stands _ _ is = absurd is

-- What has a number there is closed.

closed_at : (codes : Codes) (live : List (ℕ × ℕ)) (number : ℕ) (code : Option ℕ) → AreOnce live
    → but number (option_and_then (number_of live) code) ≡ option_and_then (number_of (closed live number)) code
closed_at codes live number None once = refl
closed_at codes live number (Some j) once = sym (closed_found live number j once)

pub closed_so : (reads : Reads) (codes : Codes) (state : LinkState) (link : Link) (number : ℕ) → IsLink reads codes state link
    → IsLink reads codes (closed_number number state) (view.closed_number number link)
closed_so reads codes state link number stands = record {
  told = stands.told;
  id = stands.id;
  live = λ key. ap (but number) (stands.live key) ∙ closed_at codes state.live number (codes key) stands.once;
  once = filtered_once state.live (λ entry. not (nat_eq entry.1 number)) stands.once;
  carries = stands.carries;
  marked = stands.marked;
  stage = stands.stage;
}

-- Keys get other numbers.

key_kept : (was codes : Codes) (number : ℕ) (command : Command) (key : ℕ) → (was key ≡ Some number → codes key ≡ Some number)
    → IsKeyOf was number command key → IsKeyOf codes number command key
key_kept was codes number (commands.Prepare text) key keeps is = keeps is
key_kept was codes number (commands.Run text schema settings args) key keeps is = keeps is
key_kept was codes number (commands.Query text) key keeps is = tt
key_kept was codes number (commands.InitDb schema) key keeps is = tt
key_kept was codes number (commands.FieldList rest) key keeps is = tt
key_kept was codes number (commands.SetId n) key keeps is = tt
key_kept was codes number commands.ReadId key keeps is = tt
key_kept was codes number commands.Reset key keeps is = tt
key_kept was codes number commands.Quit key keeps is = tt

abbrev Keeps : (was codes : Codes) → Option ℕ → Type 0
Keeps was codes asked = (key number : ℕ) → asked ≡ Some key → was key ≡ Some number → codes key ≡ Some number

purpose_kept : (was codes : Codes) (purpose : Purpose) (question : Question) → Keeps was codes (key_for question) → IsPurpose was purpose question
    → IsPurpose codes purpose question
purpose_kept was codes (purposes.Statement name ordinal number) (story.Statement n due) keeps is =
    record { name = is.name; ordinal = is.ordinal; key = key_kept was codes number due.command due.key (keeps due.key number refl) is.key }
purpose_kept was codes (purposes.Prep name ordinal number) (story.Prep n key text) keeps is = record { name = is.name; key = keeps key number refl is.key }
purpose_kept was codes (purposes.Sync name) (story.Sync n command) keeps is = is
purpose_kept was codes purposes.Own (story.Own command) keeps is = tt
purpose_kept was codes (purposes.End name) (story.End n) keeps is = is
purpose_kept was codes (purposes.Capture name) (story.Capture n) keeps is = is
purpose_kept was codes _ _ keeps is = absurd is

stage_kept : (reads : Reads) (was codes : Codes) (stage : Stage) (there : view.Stage) → Keeps was codes (key_asked there) → IsStage reads was stage there
    → IsStage reads codes stage there
stage_kept reads was codes Quiet view.Quiet keeps is = tt
stage_kept reads was codes (Asked asking) (view.Asked question) keeps is =
    record { purpose = purpose_kept was codes asking.purpose question keeps is.purpose; form = is.form }
stage_kept reads was codes (Answered asking) (view.Answered question) keeps is =
    record { purpose = purpose_kept was codes asking.purpose question keeps is.purpose; form = is.form }
stage_kept reads was codes _ _ keeps is = absurd is

pub named_so : (reads : Reads) (was codes : Codes) (state : LinkState) (link : Link) → IsNaming was codes state link → IsLink reads was state link
    → IsLink reads codes state link
named_so reads was codes state link naming stands = record {
  told = stands.told;
  id = stands.id;
  live = λ key. stands.live key ∙ sym (naming.live key);
  once = stands.once;
  carries = stands.carries;
  marked = stands.marked;
  stage = stage_kept reads was codes state.stage link.stage naming.asked stands.stage;
}
