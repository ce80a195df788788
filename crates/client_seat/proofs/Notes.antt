-- What a message makes of what its client has prepared, number by number.
use Rattle.std.specs.Prelude.{◌≡◌, ◌<◌, ◌≤◌, ℕ, Bool, true, false, not, ◌&&◌, ◌||◌, nat_eq, nat_lt, List, [], ◌∷◌, ◌++◌, drop, slice_index_or, slice_get, suc, if◌then◌else◌, Option, Some, None}
use Rattle.std.specs.Option.{option_and_then, option_map, option_map_or, option_or}
use Rattle.std.proofs.Common.{◌∙◌, refl, sym, ap, subst, arith}
use Rattle.std.proofs.lemmas.Bool.Decides.{nat_tests}
use Rattle.mx_base.specs.Fields.{number_at}
use Rattle.packet_frame.specs.PacketLaws.{nat_eq-true}
use Rattle.session_vars.specs.declared.long_part.LongPart.{LongPart}
use Rattle.log_story.specs.Executes.{Bound, bound_after, given_in, is_for, longer}
use Rattle.log_story.specs.Executes as executes
use Rattle.log_story.specs.Plan.{com_execute, com_long_data, com_reset, com_statement_reset}
use Rattle.stmt_map.specs.Client.{Changes, statement_at, used_up, with_long}
use Rattle.stmt_map.specs.Long.{grown_at, joined, long_with, place_of}
use Rattle.stmt_map.specs.declared.client.ClientStatements.{ClientStatements}
use Rattle.stmt_map.specs.declared.statement.Statement.{Statement}
use Rattle.client_seat.specs.Numbers.{AreBound, AreNoted, Numbered, bound_with, noted, number_in, numbered}

-- Which number a message is for.

abbrev pub says_number : (number : ℕ) → (payload : List ℕ) → Bool
says_number number payload = option_map_or (λ n. nat_eq n number) (number_at 4 1 payload) false

and-false : (b : Bool) → (b && false) ≡ false
and-false true = refl
and-false false = refl

and-true : (b : Bool) → (b && true) ≡ b
and-true true = refl
and-true false = refl

for-other : (byte number : ℕ) (payload : List ℕ) → says_number number payload ≡ false → is_for byte number payload ≡ false
for-other byte number payload other =
    ap (λ b. nat_eq (slice_index_or payload 0 0) byte && b) other ∙ and-false (nat_eq (slice_index_or payload 0 0) byte)

for-this : (byte number : ℕ) (payload : List ℕ) → says_number number payload ≡ true → is_for byte number payload ≡ nat_eq (slice_index_or payload 0 0) byte
for-this byte number payload this =
    ap (λ b. nat_eq (slice_index_or payload 0 0) byte && b) this ∙ and-true (nat_eq (slice_index_or payload 0 0) byte)

for-not : (byte number : ℕ) (payload : List ℕ) → nat_eq (slice_index_or payload 0 0) byte ≡ false → is_for byte number payload ≡ false
for-not byte number payload not_so = ap (λ b. b && says_number number payload) not_so

pub says-none : (number : ℕ) (payload : List ℕ) → number_at 4 1 payload ≡ None → says_number number payload ≡ false
says-none number payload none = ap (λ (o : Option ℕ). option_map_or (λ n. nat_eq n number) o false) none

pub says-some : (n number : ℕ) (payload : List ℕ) → number_at 4 1 payload ≡ Some n → says_number number payload ≡ nat_eq n number
says-some n number payload some = ap (λ (o : Option ℕ). option_map_or (λ k. nat_eq k number) o false) some

-- What is noted, by what the message is for.

-- long data, a reset, an execute, a close, and a new beginning
abbrev pub noted_as : (long reset runs closes anew refused : Bool) → (params : ℕ) → (payload : List ℕ) → Numbered → Option Numbered
noted_as long reset runs closes anew refused params payload one =
    if (closes || anew) then None else Some (record one {
      bound = if long then option_map_or (executes.with_long params (drop 7 payload) one.bound) (number_at 2 5 payload) one.bound
          else if reset then record one.bound { long = [] }
          else if (runs && not refused) then record { types = option_or (given_in params payload).types one.bound.types; long = [] }
          else one.bound;
    })

noted-as : (refused : Bool) (number : ℕ) (payload : List ℕ) (one : Numbered) (long reset runs closes anew : Bool)
    → is_for com_long_data number payload ≡ long → is_for com_statement_reset number payload ≡ reset → is_for com_execute number payload ≡ runs
    → is_for 0x19 number payload ≡ closes → nat_eq (slice_index_or payload 0 0) com_reset ≡ anew
    → noted refused number payload one ≡ noted_as long reset runs closes anew refused one.prepared.params payload one
noted-as refused number payload one long reset runs closes anew l s r c a =
    λ i. noted_as (l i) (s i) (r i) (c i) (a i) refused one.prepared.params payload one

-- nothing, where it is for another number, or is no such message

pub noted-other : (refused : Bool) (number : ℕ) (payload : List ℕ) (one : Numbered) → nat_eq (slice_index_or payload 0 0) com_reset ≡ false
    → says_number number payload ≡ false → noted refused number payload one ≡ Some one
noted-other refused number payload one stays other = noted-as refused number payload one false false false false false
    (for-other com_long_data number payload other) (for-other com_statement_reset number payload other) (for-other com_execute number payload other)
    (for-other 0x19 number payload other) stays

pub record IsNone (payload : List ℕ) : Type 0 where
  pub long : nat_eq (slice_index_or payload 0 0) com_long_data ≡ false
  pub reset : nat_eq (slice_index_or payload 0 0) com_statement_reset ≡ false
  pub closes : nat_eq (slice_index_or payload 0 0) 0x19 ≡ false
  pub anew : nat_eq (slice_index_or payload 0 0) com_reset ≡ false

noted-refused : (runs : Bool) (params : ℕ) (payload : List ℕ) (one : Numbered) → noted_as false false runs false false true params payload one ≡ Some one
noted-refused true params payload one = refl
noted-refused false params payload one = refl

pub noted-none : (number : ℕ) (payload : List ℕ) (one : Numbered) → IsNone payload → noted true number payload one ≡ Some one
noted-none number payload one none = noted-as true number payload one false false (is_for com_execute number payload) false false
    (for-not com_long_data number payload none.long) (for-not com_statement_reset number payload none.reset) refl
    (for-not 0x19 number payload none.closes) none.anew
    ∙ noted-refused (is_for com_execute number payload) one.prepared.params payload one

-- whether it was refused doesn't matter, but for an execute
pub noted-same : (number : ℕ) (payload : List ℕ) (one : Numbered) → nat_eq (slice_index_or payload 0 0) com_execute ≡ false
    → noted true number payload one ≡ noted false number payload one
noted-same number payload one not_so =
    ap (λ (runs : Bool). noted_as (is_for com_long_data number payload) (is_for com_statement_reset number payload) runs (is_for 0x19 number payload) (nat_eq (slice_index_or payload 0 0) com_reset) true one.prepared.params payload one) (for-not com_execute number payload not_so)
    ∙ sym (ap (λ (runs : Bool). noted_as (is_for com_long_data number payload) (is_for com_statement_reset number payload) runs (is_for 0x19 number payload) (nat_eq (slice_index_or payload 0 0) com_reset) false one.prepared.params payload one) (for-not com_execute number payload not_so))

-- Tables.

pub same-at : (refused : Bool) (number : ℕ) (payload : List ℕ) (o : Option Statement)
    → ((s : Statement) → o ≡ Some s → noted refused number payload (numbered s) ≡ Some (numbered s))
    → option_map numbered o ≡ option_and_then (noted refused number payload) (option_map numbered o)
same-at refused number payload None stays = refl
same-at refused number payload (Some s) stays = sym (stays s refl)

-- all stay
pub all-stay : (refused : Bool) (payload : List ℕ) (statements : ClientStatements)
    → ((number : ℕ) (s : Statement) → statement_at statements number ≡ Some s → noted refused number payload (numbered s) ≡ Some (numbered s))
    → AreNoted refused payload statements statements
all-stay refused payload statements stay = record {
  last = refl;
  each = λ number. same-at refused number payload (statement_at statements number) (stay number);
}

changed-at : (refused : Bool) (number : ℕ) (payload : List ℕ) (o : Option Statement) (f : Statement → Option Statement)
    → ((s : Statement) → o ≡ Some s → option_map numbered (f s) ≡ noted refused number payload (numbered s))
    → option_map numbered (option_and_then f o) ≡ option_and_then (noted refused number payload) (option_map numbered o)
changed-at refused number payload None f so = refl
changed-at refused number payload (Some s) f so = so s refl

-- one changes, and the others stay
pub one-changes : (refused : Bool) (payload : List ℕ) (old new : ClientStatements) (n : ℕ) (f : Statement → Option Statement)
    → new.last ≡ old.last → nat_eq (slice_index_or payload 0 0) com_reset ≡ false → number_at 4 1 payload ≡ Some n
    → Changes old new n (option_and_then f (statement_at old n))
    → ((s : Statement) → statement_at old n ≡ Some s → option_map numbered (f s) ≡ noted refused n payload (numbered s))
    → AreNoted refused payload old new
one-changes refused payload old new n f last stays some changes so = record { last = last; each = λ number. by number (nat_eq n number) refl } where
  here : number_in new n ≡ option_and_then (noted refused n payload) (number_in old n)
  here = ap (option_map numbered) changes.same ∙ changed-at refused n payload (statement_at old n) f so

  by : (number : ℕ) (b : Bool) → nat_eq n number ≡ b → number_in new number ≡ option_and_then (noted refused number payload) (number_in old number)
  by number true is = subst (λ (k : ℕ). number_in new k ≡ option_and_then (noted refused k payload) (number_in old k)) (nat_eq-true n number is) here
  by number false other =
      ap (option_map numbered) (changes.others number other)
      ∙ same-at refused number payload (statement_at old number) (λ s at. noted-other refused number payload (numbered s) stays (says-some n number payload some ∙ other))

-- by a change of each statement that there is
pub one-moves : (refused : Bool) (payload : List ℕ) (old new : ClientStatements) (n : ℕ) (g : Statement → Statement)
    → new.last ≡ old.last → nat_eq (slice_index_or payload 0 0) com_reset ≡ false → number_at 4 1 payload ≡ Some n
    → Changes old new n (option_map g (statement_at old n))
    → ((s : Statement) → statement_at old n ≡ Some s → Some (numbered (g s)) ≡ noted refused n payload (numbered s))
    → AreNoted refused payload old new
one-moves refused payload old new n g last stays some changes so =
    one-changes refused payload old new n (λ s. Some (g s)) last stays some
    (record { same = changes.same ∙ as_then (statement_at old n); others = changes.others }) so where
      as_then : (o : Option Statement) → option_map g o ≡ option_and_then (λ s. Some (g s)) o
      as_then None = refl
      as_then (Some s) = refl

-- Each kind of message.

says-own : (n : ℕ) (payload : List ℕ) → number_at 4 1 payload ≡ Some n → says_number n payload ≡ true
says-own n payload some = says-some n n payload some ∙ same n where
  same : (k : ℕ) → nat_eq k k ≡ true
  same k = search arith

byte-is : (payload : List ℕ) (byte other : ℕ) (b : Bool) → slice_index_or payload 0 0 ≡ byte → nat_eq byte other ≡ b → nat_eq (slice_index_or payload 0 0) other ≡ b
byte-is payload byte other b first is = ap (λ (k : ℕ). nat_eq k other) first ∙ is

pub noted-this : (refused : Bool) (n byte : ℕ) (payload : List ℕ) (one : Numbered) → slice_index_or payload 0 0 ≡ byte → number_at 4 1 payload ≡ Some n
    → noted refused n payload one
    ≡ noted_as (nat_eq byte com_long_data) (nat_eq byte com_statement_reset) (nat_eq byte com_execute) (nat_eq byte 0x19) (nat_eq byte com_reset) refused one.prepared.params payload one
noted-this refused n byte payload one first some = noted-as refused n payload one
    (nat_eq byte com_long_data) (nat_eq byte com_statement_reset) (nat_eq byte com_execute) (nat_eq byte 0x19) (nat_eq byte com_reset)
    (is com_long_data) (is com_statement_reset) (is com_execute) (is 0x19) (byte-is payload byte com_reset (nat_eq byte com_reset) first refl) where
      is : (other : ℕ) → is_for other n payload ≡ nat_eq byte other
      is other = for-this other n payload (says-own n payload some) ∙ byte-is payload byte other (nat_eq byte other) first refl

pub begins-so : (payload : List ℕ) (byte : ℕ) → slice_index_or payload 0 0 ≡ byte → nat_eq byte com_reset ≡ false → nat_eq (slice_index_or payload 0 0) com_reset ≡ false
begins-so payload byte first other = byte-is payload byte com_reset false first other

-- a message without a whole number
pub unnumbered : (refused : Bool) (payload : List ℕ) (statements : ClientStatements) → nat_eq (slice_index_or payload 0 0) com_reset ≡ false → number_at 4 1 payload ≡ None
    → AreNoted refused payload statements statements
unnumbered refused payload statements stays none =
    all-stay refused payload statements (λ number s at. noted-other refused number payload (numbered s) stays (says-none number payload none))

-- the statement of its number stays as it is, and so do all
pub one_stays : (refused : Bool) (payload : List ℕ) (statements : ClientStatements) (n : ℕ) → nat_eq (slice_index_or payload 0 0) com_reset ≡ false → number_at 4 1 payload ≡ Some n
    → ((s : Statement) → statement_at statements n ≡ Some s → noted refused n payload (numbered s) ≡ Some (numbered s)) → AreNoted refused payload statements statements
one_stays refused payload statements n stays some here = all-stay refused payload statements (λ number s at. by number s at (nat_eq n number) refl) where
  by : (number : ℕ) (s : Statement) → statement_at statements number ≡ Some s → (b : Bool) → nat_eq n number ≡ b → noted refused number payload (numbered s) ≡ Some (numbered s)
  by number s at true is =
      let same : n ≡ number = nat_eq-true n number is in
      subst (λ (k : ℕ). noted refused k payload (numbered s) ≡ Some (numbered s)) same (here s (ap (statement_at statements) same ∙ at))
  by number s at false other = noted-other refused number payload (numbered s) stays (says-some n number payload some ∙ other)

some-is : {A : Type 0} (x y : A) → Some x ≡ Some y → x ≡ y
some-is x y same = cc

-- nothing stands under it
pub unknown : (refused : Bool) (payload : List ℕ) (statements : ClientStatements) (n : ℕ) → nat_eq (slice_index_or payload 0 0) com_reset ≡ false → number_at 4 1 payload ≡ Some n
    → statement_at statements n ≡ None → AreNoted refused payload statements statements
unknown refused payload statements n stays some none = one_stays refused payload statements n stays some (λ s at. let no : None ≡ Some s = sym none ∙ at in cc)

-- Long data.

below : (a b : ℕ) → a < b → nat_lt a b ≡ true
below a b less = grind (arith, nat_tests)

above : (a b : ℕ) → b ≤ a → nat_lt a b ≡ false
above a b more = grind (arith, nat_tests)

joined-behind : (part : LongPart) (parts : List LongPart) (parameter : ℕ) (bytes : List ℕ) (place : Option ℕ)
    → joined (part ∷ parts) parameter bytes (option_map (λ i. suc i) place) ≡ part ∷ joined parts parameter bytes place
joined-behind part parts parameter bytes None = refl
joined-behind part parts parameter bytes (Some i) = by (slice_get parts i) where
  by : (found : Option LongPart) → grown_at (part ∷ parts) (suc i) bytes found ≡ part ∷ grown_at parts i bytes found
  by None = refl
  by (Some other) = refl

place-here : (part : LongPart) (parts : List LongPart) (parameter : ℕ) → nat_eq part.parameter parameter ≡ true → place_of (part ∷ parts) parameter ≡ Some 0
place-here part parts parameter this = grind (arith, nat_tests)

place-behind : (part : LongPart) (parts : List LongPart) (parameter : ℕ) → nat_eq part.parameter parameter ≡ false
    → place_of (part ∷ parts) parameter ≡ option_map (λ i. suc i) (place_of parts parameter)
place-behind part parts parameter other = grind (arith, nat_tests)

pub longer-is : (parameter : ℕ) (bytes : List ℕ) (parts : List LongPart) → long_with parts parameter bytes ≡ longer parameter bytes parts
longer-is parameter bytes [] = refl
longer-is parameter bytes (part ∷ parts) = by (longer-is parameter bytes parts) (nat_eq part.parameter parameter) refl where
  by : long_with parts parameter bytes ≡ longer parameter bytes parts → (b : Bool) → nat_eq part.parameter parameter ≡ b
      → long_with (part ∷ parts) parameter bytes ≡ longer parameter bytes (part ∷ parts)
  by later true is =
      ap (joined (part ∷ parts) parameter bytes) (place-here part parts parameter is)
      ∙ sym (ap (λ (b : Bool). if b then record part { bytes = part.bytes ++ bytes } ∷ parts else part ∷ longer parameter bytes parts) is)
  by later false other =
      ap (joined (part ∷ parts) parameter bytes) (place-behind part parts parameter other)
      ∙ joined-behind part parts parameter bytes (place_of parts parameter)
      ∙ ap (λ (others : List LongPart). part ∷ others) later
      ∙ sym (ap (λ (b : Bool). if b then record part { bytes = part.bytes ++ bytes } ∷ parts else part ∷ longer parameter bytes parts) other)

-- what a message with long data for a parameter makes of a statement's
long-bound : (params parameter : ℕ) (payload : List ℕ) (one : Numbered) → number_at 2 5 payload ≡ Some parameter
    → noted_as true false false false false true params payload one ≡ Some (record one { bound = executes.with_long params (drop 7 payload) one.bound parameter })
long-bound params parameter payload one some =
    ap (λ (o : Option ℕ). Some (record one { bound = option_map_or (executes.with_long params (drop 7 payload) one.bound) o one.bound })) some

pub lengthens : (payload bytes : List ℕ) (old new : ClientStatements) (n parameter : ℕ) (s : Statement)
    → slice_index_or payload 0 0 ≡ 0x18 → number_at 4 1 payload ≡ Some n → number_at 2 5 payload ≡ Some parameter → statement_at old n ≡ Some s
    → parameter < s.prepared.params → new.last ≡ old.last → bytes ≡ drop 7 payload
    → Changes old new n (option_map (with_long parameter bytes) (statement_at old n)) → AreNoted true payload old new
lengthens payload bytes old new n parameter s first some at_parameter at less last bytes_are changes =
    one-moves true payload old new n (with_long parameter bytes) last (begins-so payload 0x18 first refl) some changes here where
      long-is : (t : Statement) → Some (numbered (with_long parameter (drop 7 payload) t)) ≡ Some (record (numbered t) { bound = record { types = t.types; long = longer parameter (drop 7 payload) t.long.parts } })
      long-is t = ap (λ (parts : List LongPart). Some (record (numbered t) { bound = record { types = t.types; long = parts } })) (longer-is parameter (drop 7 payload) t.long.parts)

      here : (t : Statement) → statement_at old n ≡ Some t → Some (numbered (with_long parameter bytes t)) ≡ noted true n payload (numbered t)
      here t at_t =
          let same : s ≡ t = some-is s t (sym at ∙ at_t) in
          let low : nat_lt parameter t.prepared.params ≡ true = below parameter t.prepared.params (subst (λ (u : Statement). parameter < u.prepared.params) same less) in
          ap (λ (b : List ℕ). Some (numbered (with_long parameter b t))) bytes_are
          ∙ long-is t
          ∙ sym (ap (λ (b : Bool). Some (record (numbered t) { bound = if b then record { types = t.types; long = longer parameter (drop 7 payload) t.long.parts } else record { types = t.types; long = t.long.parts } })) low)
          ∙ sym (long-bound t.prepared.params parameter payload (numbered t) at_parameter)
          ∙ sym (noted-this true n 0x18 payload (numbered t) first some)

-- no parameter is there, or the statement hasn't it
pub no_parameter : (payload : List ℕ) (statements : ClientStatements) (n : ℕ) → slice_index_or payload 0 0 ≡ 0x18 → number_at 4 1 payload ≡ Some n → number_at 2 5 payload ≡ None
    → AreNoted true payload statements statements
no_parameter payload statements n first some none = one_stays true payload statements n (begins-so payload 0x18 first refl) some (λ s at.
    noted-this true n 0x18 payload (numbered s) first some
    ∙ ap (λ (o : Option ℕ). Some (record (numbered s) { bound = option_map_or (executes.with_long s.prepared.params (drop 7 payload) (numbered s).bound) o (numbered s).bound })) none)

pub too_high : (payload : List ℕ) (statements : ClientStatements) (n parameter : ℕ) (s : Statement)
    → slice_index_or payload 0 0 ≡ 0x18 → number_at 4 1 payload ≡ Some n → number_at 2 5 payload ≡ Some parameter → statement_at statements n ≡ Some s
    → s.prepared.params ≤ parameter → AreNoted true payload statements statements
too_high payload statements n parameter s first some at_parameter at more = one_stays true payload statements n (begins-so payload 0x18 first refl) some here where
  here : (t : Statement) → statement_at statements n ≡ Some t → noted true n payload (numbered t) ≡ Some (numbered t)
  here t at_t =
      let same : s ≡ t = some-is s t (sym at ∙ at_t) in
      let high : nat_lt parameter t.prepared.params ≡ false = above parameter t.prepared.params (subst (λ (u : Statement). u.prepared.params ≤ parameter) same more) in
      noted-this true n 0x18 payload (numbered t) first some
      ∙ long-bound t.prepared.params parameter payload (numbered t) at_parameter
      ∙ ap (λ (b : Bool). Some (record (numbered t) { bound = if b then record { types = t.types; long = longer parameter (drop 7 payload) t.long.parts } else record { types = t.types; long = t.long.parts } })) high

-- The others.

pub shortens : (payload : List ℕ) (old new : ClientStatements) (n : ℕ) → slice_index_or payload 0 0 ≡ 0x1A → number_at 4 1 payload ≡ Some n
    → new.last ≡ old.last → Changes old new n (option_map used_up (statement_at old n)) → AreNoted true payload old new
shortens payload old new n first some last changes =
    one-moves true payload old new n used_up last (begins-so payload 0x1A first refl) some changes (λ s at. sym (noted-this true n 0x1A payload (numbered s) first some))

pub closes : (payload : List ℕ) (old new : ClientStatements) (n : ℕ) → slice_index_or payload 0 0 ≡ 0x19 → number_at 4 1 payload ≡ Some n
    → new.last ≡ old.last → Changes old new n None → AreNoted true payload old new
closes payload old new n first some last changes =
    one-changes true payload old new n (λ s. None) last (begins-so payload 0x19 first refl) some
    (record { same = changes.same ∙ as_none (statement_at old n); others = changes.others })
    (λ s at. sym (noted-this true n 0x19 payload (numbered s) first some)) where
      as_none : (o : Option Statement) → None ≡ option_and_then {T = Statement} {U = Statement} (λ s. None) o
      as_none None = refl
      as_none (Some s) = refl

pub clears : (payload : List ℕ) (old new : ClientStatements) → slice_index_or payload 0 0 ≡ 0x1F → new.last ≡ old.last
    → ((number : ℕ) → statement_at new number ≡ None) → AreNoted true payload old new
clears payload old new first last none = record { last = last; each = λ number. ap (option_map numbered) (none number) ∙ sym (by number (statement_at old number)) } where
  anew : (number : ℕ) (one : Numbered) → noted true number payload one ≡ None
  anew number one = noted-as true number payload one (is_for com_long_data number payload) (is_for com_statement_reset number payload) (is_for com_execute number payload) false true
      refl refl refl (for-not 0x19 number payload (byte-is payload 0x1F 0x19 false first refl)) (byte-is payload 0x1F com_reset true first refl)

  by : (number : ℕ) (o : Option Statement) → option_and_then (noted true number payload) (option_map numbered o) ≡ None
  by number None = refl
  by number (Some s) = anew number (numbered s)

pub stay : (payload : List ℕ) (statements : ClientStatements) → IsNone payload → AreNoted true payload statements statements
stay payload statements none = all-stay true payload statements (λ number s at. noted-none number payload (numbered s) none)

-- An execute.

pub bound_none : (number : ℕ) (statements : ClientStatements) → AreBound number None statements statements
bound_none number statements = record { last = refl; each = record { same = by (statement_at statements number); others = λ other apart. refl } } where
  by : (o : Option Statement) → o ≡ option_map (bound_with None) o
  by None = refl
  by (Some s) = refl

pub runs : (payload : List ℕ) (old middle new : ClientStatements) (n : ℕ) (s : Statement) (sent : Option (List ℕ))
    → slice_index_or payload 0 0 ≡ 0x17 → number_at 4 1 payload ≡ Some n → statement_at old n ≡ Some s → sent ≡ (given_in s.prepared.params payload).types
    → AreBound n sent old middle → new.last ≡ middle.last → Changes middle new n (option_map used_up (statement_at middle n)) → AreNoted false payload old new
runs payload old middle new n s sent first some at sent_is bound last changes =
    one-moves false payload old new n (λ t. used_up (bound_with sent t)) (last ∙ bound.last) (begins-so payload 0x17 first refl) some
    (record {
      same = changes.same ∙ ap (option_map used_up) bound.each.same ∙ both (statement_at old n);
      others = λ other apart. changes.others other apart ∙ bound.each.others other apart;
    }) here where
      both : (o : Option Statement) → option_map used_up (option_map (bound_with sent) o) ≡ option_map (λ t. used_up (bound_with sent t)) o
      both None = refl
      both (Some t) = refl

      here : (t : Statement) → statement_at old n ≡ Some t → Some (numbered (used_up (bound_with sent t))) ≡ noted false n payload (numbered t)
      here t at_t =
          let same : s ≡ t = some-is s t (sym at ∙ at_t) in
          let types : sent ≡ (given_in t.prepared.params payload).types = sent_is ∙ ap (λ (u : Statement). (given_in u.prepared.params payload).types) same in
          ap (λ (o : Option (List ℕ)). Some (numbered (used_up (bound_with o t)))) types
          ∙ sym (noted-this false n 0x17 payload (numbered t) first some)

-- the same of a message that isn't an execute, whether it was refused or not
pub noted_so : (payload : List ℕ) (old new : ClientStatements) → nat_eq (slice_index_or payload 0 0) com_execute ≡ false → AreNoted true payload old new → AreNoted false payload old new
noted_so payload old new not_so noted_true = record { last = noted_true.last; each = λ number. noted_true.each number ∙ by number (number_in old number) } where
  by : (number : ℕ) (o : Option Numbered) → option_and_then (noted true number payload) o ≡ option_and_then (noted false number payload) o
  by number None = refl
  by number (Some one) = noted-same number payload one not_so
