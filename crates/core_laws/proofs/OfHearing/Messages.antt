-- Messages and tables by them.
use Rattle.std.specs.Prelude.{◌≡◌, ℕ, Bool, true, false, ◌&&◌, nat_eq, if◌then◌else◌}
use Rattle.std.proofs.Common.{refl, ap, ◌∙◌}
use Rattle.private_model.specs.Names.{ClientNo, MessageName}
use Rattle.private_model.specs.Story.{is_client, is_message, put}

pub put_here : {K A : Type 0} (is : K → K → Bool) (f : K → A) (k : K) (x : A) (j : K) → is j k ≡ true → put is f k x j ≡ x
put_here is f k x j e = ap (λ b. if b then x else f j) e

and_false : (b : Bool) → b && false ≡ false
and_false true = refl
and_false false = refl

pub of_other_ordinal : (c : ClientNo) (ordinal : ℕ) (m : MessageName) → nat_eq ordinal m.ordinal ≡ false
    → is_message (record { client = c; ordinal = ordinal }) m ≡ false
of_other_ordinal c ordinal m apart = ap (λ (b : Bool). is_client c m.client && b) apart ∙ and_false (is_client c m.client)
