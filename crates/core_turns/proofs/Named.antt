-- The statement that a message names, by its client's seat; and the next number.
use Rattle.std.specs.Prelude.{◌≡◌, ◌≢◌, ◌<◌, ◌≤◌, ◌+◌, ◌||◌, ℕ, Bool, true, false, length, nat_eq, nat_le, if◌then◌else◌, List, [], ◌∷◌, ◌++◌, Option, Some, None}
use Rattle.std.specs.HashMap.{hash_map_len}
use Rattle.std.specs.Option.{option_and_then, option_map}
use Rattle.std.proofs.Common.{refl, sym, ap, subst, ◌∙◌, arith}
use Rattle.std.proofs.lemmas.Option.{none-some, same_Some}
use Rattle.pin_classifier.specs.Classes.{class_of}
use Rattle.std.proofs.lemmas.Bool.{eqb-false, lt-leb}
use Rattle.private_model.specs.Story.{Key}
use Rattle.run_laws.specs.Wholes.{AreShort, limit}
use Rattle.session_vars.specs.declared.long_part.LongPart.{LongPart}
use Rattle.stmt_map.specs.Client.{next_number, statement_at}
use Rattle.stmt_map.specs.declared.client.ClientStatements.{ClientStatements}
use Rattle.stmt_map.specs.declared.statement.Statement.{Statement}
use Rattle.message_judge.specs.declared.caller.Prepared.{Prepared}
use Rattle.core_promises.specs.Ruled.{known_as, known_by, known_in}
use Rattle.core_promises.specs.Statements.{number_named}
use Rattle.core_texts.specs.Texts.{key_at}
use Rattle.core_texts.specs.declared.texts.Texts.{Texts}
use Rattle.core_turns.specs.Preparing.{named_as, named_in, prepared_of, statement_named}
use Rattle.core_turns.specs.declared.judged.Named.{Named}

-- what is known of it

known-key : (statement : Statement) (key : Option Key)
    → prepared_of (option_map (λ (k : Key). record { key = statement.prepared.key; prepared = known_as k statement }) key)
    ≡ option_map (λ (k : Key). known_as k statement) key
known-key statement None = refl
known-key statement (Some key) = refl

known-statement : (texts : Texts) (statement : Option Statement)
    → prepared_of (option_and_then (named_as texts) statement) ≡ option_and_then (known_by (key_at texts)) statement
known-statement texts None = refl
known-statement texts (Some statement) = known-key statement (key_at texts statement.prepared.key)

known-number : (texts : Texts) (statements : ClientStatements) (number : Option ℕ)
    → prepared_of (option_and_then (named_as texts) (option_and_then (statement_at statements) number))
    ≡ option_and_then (known_in (key_at texts) statements) number
known-number texts statements None = refl
known-number texts statements (Some number) = known-statement texts (statement_at statements number)

pub named-known : (texts : Texts) (statements : ClientStatements) (payload : List ℕ) (named : Option Named) → named ≡ named_in texts statements payload
    → (one : Prepared) → prepared_of named ≡ Some one → option_and_then (known_in (key_at texts) statements) (number_named payload) ≡ Some one
named-known texts statements payload named is one known =
    sym (known-number texts statements (number_named payload)) ∙ (sym (ap prepared_of is) ∙ known)

pub known-named : (texts : Texts) (statements : ClientStatements) (payload : List ℕ) (named : Option Named) → named ≡ named_in texts statements payload
    → (number : ℕ) (one : Prepared) → number_named payload ≡ Some number → known_in (key_at texts) statements number ≡ Some one → prepared_of named ≡ Some one
known-named texts statements payload named is number one at known =
    ap prepared_of is ∙ known-number texts statements (number_named payload) ∙ ap (option_and_then (known_in (key_at texts) statements)) at ∙ known

-- the next number is greater than the last, and none is greater than that

next-by : (last n : ℕ) (full : Bool) → (if full then None else Some (last + 1)) ≡ Some n → n ≡ last + 1
next-by last n true is = absurd (let e = is in cc)
next-by last n false is = (let e : Some (last + 1) ≡ Some n = is in cc)

some-room : (a b : Bool) (last n : ℕ) → (if a || b then None else Some (last + 1)) ≡ Some n → b ≡ false
some-room true b last n is = absurd (let e = is in cc)
some-room false true last n is = absurd (let e = is in cc)
some-room false false last n is = refl

pub next-is : (s : ClientStatements) (n : ℕ) → next_number s ≡ Some n → n ≡ s.last + 1
next-is s n is = next-by s.last n (nat_le 65535 (hash_map_len s.statements) || nat_eq s.last 4294967295) is

pub next-few : (s : ClientStatements) (n : ℕ) → s.last < 4294967296 → next_number s ≡ Some n → s.last < 4294967295
next-few s n below is =
    let other : nat_eq s.last 4294967295 ≡ false = some-room (nat_le 65535 (hash_map_len s.statements)) (nat_eq s.last 4294967295) s.last n is in
    let no : s.last ≢ 4294967295 = eqb-false s.last 4294967295 other in
    omega (arith, below, no)

pub next-fresh : (s : ClientStatements) (n : ℕ) → next_number s ≡ Some n → nat_le n s.last ≡ false
next-fresh s n is = lt-leb n s.last (let one = next-is s n is in omega (arith, one))

-- its class is its text's

classed-key : (statement : Statement) (key : Option Key) (named : Named)
    → option_map (λ (k : Key). record { key = statement.prepared.key; prepared = known_as k statement }) key ≡ Some named
    → named.prepared.class ≡ class_of named.prepared.text
classed-key statement None named is = absurd (none-some named is)
classed-key statement (Some key) named is =
    subst (λ (n : Named). n.prepared.class ≡ class_of n.prepared.text)
    (same_Some (record { key = statement.prepared.key; prepared = known_as key statement }) named is) refl

classed-statement : (texts : Texts) (statement : Option Statement) (named : Named) → option_and_then (named_as texts) statement ≡ Some named
    → named.prepared.class ≡ class_of named.prepared.text
classed-statement texts None named is = absurd (none-some named is)
classed-statement texts (Some statement) named is = classed-key statement (key_at texts statement.prepared.key) named is

pub runs-classed : (texts : Texts) (statements : ClientStatements) (payload : List ℕ) (named : Named) → named_in texts statements payload ≡ Some named
    → named.prepared.class ≡ class_of named.prepared.text
runs-classed texts statements payload named is = classed-statement texts (statement_named statements payload) named is

-- Long data are shorter than memory.
pub short-push : (parts : List LongPart) (part : LongPart) → AreShort parts → 7 + length part.bytes ≤ limit → AreShort (parts ++ part ∷ [])
short-push [] part shorts short = (short, tt)
short-push (first ∷ parts) part shorts short = (shorts.0, short-push parts part shorts.1 short)
