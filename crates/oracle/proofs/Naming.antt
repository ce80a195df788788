-- What is put and read under names, in tables that are read by tests of names.
use Rattle.std.specs.Prelude.{◌≡◌, ℕ, Bool, true, false, cond, ◌&&◌, nat_eq, Option, if◌then◌else◌}
use Rattle.std.proofs.Common.{◌∙◌, refl, ap}
use Rattle.session_state.specs.declared.names.MessageName.{MessageName}
use Rattle.session_state.specs.declared.names.SessionName.{SessionName}
use Rattle.private_model.proofs.Maps.{number_of, same_number}
use Rattle.private_model.specs.Story.{is_message, is_name}

apart : {A : Type 0} {b : Bool} → b ≡ true → b ≡ false → A
apart is isnt = absurd (cc)

turned : (a b : ℕ) → nat_eq a b ≡ nat_eq b a
turned a b = go (nat_eq a b) (nat_eq b a) refl refl
  where
    go : (x y : Bool) → nat_eq a b ≡ x → nat_eq b a ≡ y → x ≡ y
    go true true e f = refl
    go false false e f = refl
    go true false e f = apart (ap (nat_eq b) (number_of a b e) ∙ same_number b) f
    go false true e f = apart (ap (nat_eq a) (number_of b a f) ∙ same_number a) e

pub name_turned : (a b : SessionName) → is_name a b ≡ is_name b a
name_turned a b = λ i. turned a.client.0 b.client.0 i && (turned a.hostgroup.0 b.hostgroup.0 i && turned a.life b.life i)

pub message_turned : (a b : MessageName) → is_message a b ≡ is_message b a
message_turned a b = λ i. turned a.client.0 b.client.0 i && turned a.ordinal b.ordinal i

-- what is put under a name
pub put_at : {A : Type 0} (o p w : Option A) (b c : Bool) → o ≡ cond b w p → b ≡ c → o ≡ (if c then w else p)
put_at o p w b true is same = is ∙ ap (λ x. cond x w p) same
put_at o p w b false is same = is ∙ ap (λ x. cond x w p) same
