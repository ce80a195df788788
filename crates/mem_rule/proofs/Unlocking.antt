-- UNLOCK TABLES, answered OK, leaves no locks: no other statement begins with that word.
use Rattle.std.specs.Prelude.{◌≡◌, ℕ, Bool, true, false, ◌&&◌, List, [], codes, slice_get, Option, None, Some, if◌then◌else◌}
use Rattle.std.proofs.Common.{refl, sym, ap, ◌∙◌, subst, inl, inr}
use Rattle.std.proofs.lemmas.Bool.{and_parts, both_ways, cases_Bool, cond-false, cond-true}
use Rattle.sql_tokens.specs.Words.{is_symbol, is_word, same_text, word_of}
use Rattle.sql_tokens.specs.declared.token.Token.{Token}
use Rattle.session_state.specs.Classes.{Effect, Neither, effect_of, frees_by, frees_locks}
use Rattle.session_state.specs.Endings.{is_ok}
use Rattle.pin_classifier.specs.Classes.{class_of, first, locking_of, second}
use Rattle.pin_classifier.specs.Judged.{judged}
use Rattle.pin_classifier.specs.Shapes.{is_there}
use Rattle.pin_classifier.specs.Starts.{locks_tables, names_tables, unlocks_tables}
use Rattle.pin_classifier.specs.Statement.{first_word, statement}
use Rattle.pin_classifier.specs.declared.class.Locking.TheVariants.{None as Unlocked, Takes, Frees}
use Rattle.server_rule.specs.Classes.{router_reads}
use Rattle.server_rule.specs.Laws.{UnlockLaw}
use Rattle.server_rule.specs.Replies.{reply_end}
use Rattle.server_rule.specs.declared.session.Session.{Session}
use Rattle.mem_rule.specs.Commands.{Ran, by_effect, on_text, says as says_it, scene}
use Rattle.mem_rule.specs.Scenes.{Scene}
use Rattle.mem_rule.specs.Statements.{Binding, said_in}
use Rattle.mem_rule.specs.Steps.{does}
use Rattle.mem_rule.specs.Stored.{step, tables_in, tests}
use Rattle.mem_rule.specs.Tables.{Tables}
use Rattle.mem_rule.specs.declared.answer.Fault.TheVariants as faults
use Rattle.mem_rule.specs.declared.did.Said.{Said}
use Rattle.mem_rule.specs.declared.form.Form.{Form}
use Rattle.mem_rule.specs.declared.form.Form.TheVariants as forms
use Rattle.mem_rule.proofs.Endings.{err_isnt_ok}
use Rattle.mem_rule.proofs.Running.{of_run}
use Rattle.mem_rule.proofs.Taking.{Fitted, fitted, pieces_of}
use Rattle.mem_rule.proofs.Telling.{first_is, head_of, no_effect, said_as}
use Rattle.mem_rule.proofs.Whole.{whole}

-- The class frees locks: its text begins with UNLOCK, and so it is neither a SET nor USE.

first_of : (takes unlocks tables : Bool) → frees_by (if takes then Takes else if unlocks && tables then Frees else Unlocked) ≡ true → unlocks ≡ true
first_of true unlocks tables is = absurd (cc)
first_of false true tables is = refl
first_of false false tables is = absurd (cc)

unlocks : (first second : Option (List ℕ)) → frees_by (locking_of first second) ≡ true → is_word first (codes "UNLOCK") ≡ true
unfolding locking_of unlocks_tables
unlocks first second is = first_of (locks_tables first second) (is_word first (codes "UNLOCK")) (names_tables second) is

there_as : (text : List ℕ) (token : Option Token) → is_word (first_word text token) (codes "UNLOCK") ≡ true → (word : List ℕ) → is_there text token word ≡ same_text (codes "UNLOCK") word
there_as text None is word = absurd (cc)
there_as text (Some token) is word =
    elim (cases_Bool (is_symbol text token 40)) [
      | inl opens ↦ absurd (both_ways (is_word (first_word text (Some token)) (codes "UNLOCK")) (ap (λ named. is_word named (codes "UNLOCK")) (cond-true (is_symbol text token 40) (Some (codes "SELECT")) (word_of text token) opens)) is)
      | inr isnt ↦ said_as (word_of text token) (codes "UNLOCK") (sym (ap (λ named. is_word named (codes "UNLOCK")) (cond-false (is_symbol text token 40) (Some (codes "SELECT")) (word_of text token) isnt)) ∙ is) word
    ]

no_change : (text : List ℕ) → is_word (first (judged text)) (codes "UNLOCK") ≡ true → effect_of (class_of text) ≡ Neither
no_change text is = let there = there_as (judged text) (slice_get (statement (judged text)) 0) is in no_effect text (there (codes "SET")) (there (codes "USE"))

-- What it does.

by_form : (form : Form) → same_text (head_of (pieces_of form)) (codes "UNLOCK") ≡ true → (d : Said) (c : Scene) → (does form d c).locks ≡ []
by_form forms.UnlockTables is d c = refl
by_form _ is d c = absurd (cc)

by_said : (text : List ℕ) (said : Option Said) → Fitted text said → is_word (first (judged text)) (codes "UNLOCK") ≡ true → (is_binary : Bool) (schema : List ℕ) (t : Tables) (s : Session)
    → is_ok (reply_end false (says_it said is_binary schema t s).reply) ≡ true → (says_it said is_binary schema t s).session.locks ≡ []
by_said text None fits is is_binary schema t s ok = absurd (both_ways _ (err_isnt_ok faults.Syntax) ok)
by_said text (Some said) fits is is_binary schema t s ok = by_form said.form (sym (first_is text said.form fits (codes "UNLOCK")) ∙ subst (λ one. is_word (first one) (codes "UNLOCK") ≡ true) (whole text said.form fits) is) said (scene t s schema)

abbrev IsFree : Ran → Type 0
IsFree r = is_ok (reply_end false r.reply) ≡ true → r.session.locks ≡ []

of_text : (text : List ℕ) → is_word (first (judged text)) (codes "UNLOCK") ≡ true → (binding : Option Binding) (is_binary : Bool) (schema : List ℕ) (t : Tables) (s : Session) → IsFree (on_text text binding is_binary schema t s)
of_text text is binding is_binary schema t s =
    subst (λ (e : Effect). IsFree (by_effect e text binding is_binary schema t s)) (sym (no_change text is)) (by_said text (said_in text binding) (fitted text binding) is is_binary schema t s)

abbrev FreesIt : (text : List ℕ) → Ran → Type 0
FreesIt text r = frees_locks (class_of text) (reply_end false r.reply) ≡ true → r.session.locks ≡ []

freed : (text : List ℕ) (binding : Option Binding) (is_binary : Bool) (schema : List ℕ) (t : Tables) (s : Session) → FreesIt text (on_text text binding is_binary schema t s)
unfolding class_of
freed text binding is_binary schema t s frees =
    let both = and_parts (frees_by (locking_of (first (judged text)) (second (judged text)))) (is_ok (reply_end false (on_text text binding is_binary schema t s).reply)) frees in
    of_text text (unlocks (first (judged text)) (second (judged text)) both.0) binding is_binary schema t s both.1

pub unlocking : UnlockLaw router_reads tests step
unfolding step router_reads
unlocking = record { frees = λ stored s ok c text is frees. of_run (tables_in stored) s c text is (FreesIt text) (λ binding is_binary schema. freed text binding is_binary schema (tables_in stored) s) frees }
