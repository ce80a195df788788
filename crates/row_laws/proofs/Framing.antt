-- Whose a link is stays so, whatever else happens.
use Rattle.std.specs.Prelude.{◌≡◌, Option, Some, None}
use Rattle.std.proofs.Common.{refl, sym, ◌∙◌, subst, arith}
use Rattle.private_model.specs.Names.{SessionName}
use Rattle.private_model.specs.View.{View}
use Rattle.link_state.specs.Asks.{lent_for}
use Rattle.link_state.specs.declared.asking.Purpose.{Purpose}
use Rattle.link_state.specs.declared.asking.Purpose.TheVariants.{Statement, Prep, Sync, Own, End, Capture}
use Rattle.link_state.specs.declared.state.Carried.{Carried}
use Rattle.link_state.specs.declared.state.Carried.TheVariants.{Nobody, Lent, Joined}
use Rattle.served_link.specs.declared.row.LeftSession.{LeftSession}
use Rattle.row_laws.specs.Begins.{IsLender}
use Rattle.row_laws.specs.Whose.{IsHolder, IsUntouched, IsWhose, name_in}

holder_on : (seen new : View) (n : SessionName) (left : Option LeftSession) → IsUntouched seen new n left → IsHolder seen n left → IsHolder new n left
holder_on seen new n None same is = is ∙ sym same
holder_on seen new n (Some left) same is = record {
  earlier = omega (arith, is.earlier, same.later);
  pin = same.pin ∙ is.pin;
  id = same.id ∙ is.id;
  lasting = same.lasting ∙ is.lasting;
}

pub same_parts : (seen new : View) (n : SessionName) (left : Option LeftSession) → new.lives n.client n.hostgroup ≡ seen.lives n.client n.hostgroup
    → (new.held n).pin ≡ (seen.held n).pin → (new.held n).id ≡ (seen.held n).id → new.lasting n ≡ seen.lasting n → IsUntouched seen new n left
same_parts seen new n None lives pin id lasting = lives
same_parts seen new n (Some left) lives pin id lasting = record { later = omega (arith, lives); pin = pin; id = id; lasting = lasting }

pub whose_on : (seen new : View) (carries : Carried) (left : Option LeftSession) → ((n : SessionName) → name_in carries ≡ Some n → IsUntouched seen new n left)
    → IsWhose seen carries left → IsWhose new carries left
whose_on seen new Nobody left same is = is
whose_on seen new (Lent n) left same is = holder_on seen new n left (same n refl) is
whose_on seen new (Joined n) left same is = holder_on seen new n left (same n refl) is

-- a present session is present still
pub lender_on : (seen new : View) (carries lent : Carried) → ((n : SessionName) → new.lives n.client n.hostgroup ≡ seen.lives n.client n.hostgroup)
    → IsLender seen carries lent → IsLender new carries lent
lender_on seen new Nobody (Lent n) lives is = is ∙ sym (lives n)
lender_on seen new Nobody Nobody lives is = tt
lender_on seen new Nobody (Joined n) lives is = tt
lender_on seen new (Lent m) lent lives is = tt
lender_on seen new (Joined m) lent lives is = tt

-- and as a link is lent to a present session
pub whose_lent : (seen : View) (purpose : Purpose) (carries : Carried) (left : Option LeftSession) → IsLender seen carries (lent_for purpose carries)
    → IsWhose seen carries left → IsWhose seen (lent_for purpose carries) left
whose_lent seen (Statement name ordinal key) Nobody left lender is = subst (λ (l : Option LeftSession). IsHolder seen name l) (sym is) lender
whose_lent seen (Statement name ordinal key) (Lent n) left lender is = is
whose_lent seen (Statement name ordinal key) (Joined n) left lender is = is
whose_lent seen (Prep name ordinal key) Nobody left lender is = subst (λ (l : Option LeftSession). IsHolder seen name l) (sym is) lender
whose_lent seen (Prep name ordinal key) (Lent n) left lender is = is
whose_lent seen (Prep name ordinal key) (Joined n) left lender is = is
whose_lent seen (Sync name) carries left lender is = is
whose_lent seen Own carries left lender is = is
whose_lent seen (End name) carries left lender is = is
whose_lent seen (Capture name) carries left lender is = is
