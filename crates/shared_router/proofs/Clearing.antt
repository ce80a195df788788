-- Why prepared statements on a link are closed: a thousand stand there, or a text is to be prepared anew under its key.
use Rattle.std.specs.Prelude.{◌≡◌, ◌≤◌, ◌⊎◌, ℕ, suc, Bool, true, false, not, is_some, length, nat_eq, nat_le, reverse, slice_get, if◌then◌else◌, List, [], ◌∷◌, Option, Some, None}
use Rattle.std.specs.List.{cons_option, filter_map, list_any}
use Rattle.std.specs.Option.{option_map, option_map_or}
use Rattle.std.proofs.Common.{refl, ap, ◌∙◌, subst, arith, inl, inr}
use Rattle.std.proofs.lemmas.Bool.{le-leb, leb-true}
use Rattle.std.proofs.lemmas.List.{length-reverse}
use Rattle.private_model.specs.Commands.{Command, FieldList, InitDb, Prepare, Query, Quit, ReadId, Reset, Run, SetId}
use Rattle.private_model.specs.Names.{SessionName}
use Rattle.private_model.specs.Story.{Due, Prep, Statement}
use Rattle.private_model.specs.View.{Link}
use Rattle.log_story.specs.Plan.{Closes, Resets}
use Rattle.tale_world.specs.Wishes.{Standing, before_command, before_prepare, before_question, if_long}
use Rattle.router_promises.specs.Wants.{prepares_first}

isnt : {A : Type 0} → false ≡ true → A
isnt is = absurd (cc)

no_some : {A B : Type 0} (a : A) → None ≡ Some a → B
no_some a is = absurd (cc)

closes_one : (a b : ℕ) → Some (Closes a) ≡ Some (Closes b) → a ≡ b
closes_one a b is = cc

resets_none : {A : Type 0} (a b : ℕ) → Some (Resets a) ≡ Some (Closes b) → A
resets_none a b is = absurd (cc)

number_one : (a b : ℕ) → Some a ≡ Some b → a ≡ b
number_one a b is = cc

-- the first that a list gives is given by one of its items
pub record IsGiven (f : ℕ → Option ℕ) (number : ℕ) : Type 0 where
  pub key : ℕ
  pub gives : f key ≡ Some number

first_given : (f : ℕ → Option ℕ) (xs : List ℕ) (number : ℕ) → slice_get (filter_map f xs) 0 ≡ Some number → IsGiven f number
first_given f [] number is = no_some number is
first_given f (x ∷ xs) number is = by_item (f x) refl (first_given f xs number) is where
  by_item : (o : Option ℕ) → f x ≡ o → (slice_get (filter_map f xs) 0 ≡ Some number → IsGiven f number) → slice_get (cons_option o (filter_map f xs)) 0 ≡ Some number → IsGiven f number
  by_item None at later now = later now
  by_item (Some y) at later now = record { key = x; gives = at ∙ now }

fewer : (f : ℕ → Option ℕ) (xs : List ℕ) → length (filter_map f xs) ≤ length xs
fewer f [] = omega arith
fewer f (x ∷ xs) = by_item (f x) (fewer f xs) where
  by_item : (o : Option ℕ) → length (filter_map f xs) ≤ length xs → length (cons_option o (filter_map f xs)) ≤ suc (length xs)
  by_item None rest = omega (arith, rest)
  by_item (Some y) rest = omega (arith, rest)

-- one of a thousand
pub record IsOfMany (live : ℕ → Option ℕ) (keys : List ℕ) (number : ℕ) : Type 0 where
  pub given : IsGiven live number
  pub many : nat_le 1000 (length keys) ≡ true

-- what stands under the key of a text that is to be prepared
pub record IsAgain (live : ℕ → Option ℕ) (due : Due) (number : ℕ) : Type 0 where
  pub text : List ℕ
  pub prepares : due.command ≡ Prepare text
  pub there : live due.key ≡ Some number

module _ (there : Link) (keys long : List ℕ) (number : ℕ) where
  abbrev standing : Standing
  standing = record { live = filter_map there.live (reverse keys); long = long }

  abbrev Many : Type 0
  Many = IsOfMany there.live keys number

  first_of_many : nat_le 1000 (length (filter_map there.live (reverse keys))) ≡ true
      → (o : Option ℕ) → slice_get (filter_map there.live (reverse keys)) 0 ≡ o → option_map (λ n. Closes n) o ≡ Some (Closes number) → Many
  first_of_many many None at is = no_some (Closes number) is
  first_of_many many (Some n) at is =
      let long_list : 1000 ≤ length (filter_map there.live (reverse keys)) = leb-true _ _ many in
      let short : length (filter_map there.live (reverse keys)) ≤ length (reverse keys) = fewer there.live (reverse keys) in
      let same : length (reverse keys) ≡ length keys = length-reverse keys in
      record {
        given = first_given there.live (reverse keys) number (at ∙ ap (λ x. Some x) (closes_one n number is));
        many = le-leb 1000 (length keys) (omega (arith, long_list, short, same));
      }

  none_clears : before_prepare None standing.live ≡ Some (Closes number) → Many
  none_clears is = by_many (nat_le 1000 (length standing.live)) refl is where
    by_many : (b : Bool) → nat_le 1000 (length standing.live) ≡ b → (if b then option_map (λ n. Closes n) (slice_get standing.live 0) else None) ≡ Some (Closes number) → Many
    by_many true many now = first_of_many many (slice_get standing.live 0) refl now
    by_many false many now = no_some (Closes number) now

  unprepared : (command : Command) (key : ℕ) → prepares_first there command key ≡ true → there.live key ≡ None
  unprepared (Run text schema settings args) key is = by_live (there.live key) is where
    by_live : (o : Option ℕ) → not (is_some o) ≡ true → o ≡ None
    by_live None now = refl
    by_live (Some n) now = isnt now
  unprepared (Query text) key is = isnt is
  unprepared (InitDb schema) key is = isnt is
  unprepared (FieldList rest) key is = isnt is
  unprepared (SetId n) key is = isnt is
  unprepared ReadId key is = isnt is
  unprepared (Prepare text) key is = isnt is
  unprepared Reset key is = isnt is
  unprepared Quit key is = isnt is

  -- before a preparation on the way to a statement
  pub prep_clears : (n : SessionName) (due : Due) (text : List ℕ) → prepares_first there due.command due.key ≡ true
      → before_question there standing (Prep n due.key text) ≡ Some (Closes number) → Many
  prep_clears n due text first is = none_clears (subst (λ o. before_prepare o standing.live ≡ Some (Closes number)) (unprepared due.command due.key first) is)

  -- before a statement
  pub state_clears : (n : SessionName) (due : Due) → before_question there standing (Statement n due) ≡ Some (Closes number) → Many ⊎ IsAgain there.live due number
  state_clears n due is = by_command due.command refl is where
    by_number : (text : List ℕ) → due.command ≡ Prepare text → (o : Option ℕ) → there.live due.key ≡ o → before_prepare o standing.live ≡ Some (Closes number)
        → Many ⊎ IsAgain there.live due number
    by_number text prepares None at now = inl (none_clears now)
    by_number text prepares (Some m) at now = inr (record { text = text; prepares = prepares; there = at ∙ ap (λ x. Some x) (closes_one m number now) })

    by_long : (o : Option ℕ) → option_map_or (if_long long) o None ≡ Some (Closes number) → Many ⊎ IsAgain there.live due number
    by_long None now = no_some (Closes number) now
    by_long (Some m) now = by_any (list_any (nat_eq m) long) now where
      by_any : (b : Bool) → (if b then Some (Resets m) else None) ≡ Some (Closes number) → Many ⊎ IsAgain there.live due number
      by_any true this = resets_none m number this
      by_any false this = no_some (Closes number) this

    by_command : (command : Command) → due.command ≡ command → before_command there standing due.key command ≡ Some (Closes number) → Many ⊎ IsAgain there.live due number
    by_command (Prepare text) at now = by_number text at (there.live due.key) refl now
    by_command (Run text schema settings args) at now = by_long (there.live due.key) now
    by_command (Query text) at now = no_some (Closes number) now
    by_command (InitDb schema) at now = no_some (Closes number) now
    by_command (FieldList rest) at now = no_some (Closes number) now
    by_command (SetId n) at now = no_some (Closes number) now
    by_command ReadId at now = no_some (Closes number) now
    by_command Reset at now = no_some (Closes number) now
    by_command Quit at now = no_some (Closes number) now
