-- Clients are ended: whose end is at this moment leaves.
use Rattle.std.specs.Prelude.{◌≡◌, ℕ, Bool, true, false, All, cond, filter, fold, if◌then◌else◌, map, List, [], ◌∷◌}
use Rattle.std.proofs.Common.{refl, sym, ap, ◌∙◌, inl, inr}
use Rattle.std.proofs.lemmas.Bool.{cases_Bool}
use Rattle.std.proofs.lemmas.List.Elements.{All-head, All-tail}
use Rattle.private_model.proofs.Maps.{client_of}
use Rattle.private_model.specs.Names.{ClientNo}
use Rattle.private_model.specs.Story.{Left, is_client}
use Rattle.private_model.specs.View.{Setup}
use Rattle.log_story.specs.Clients.{clients_are_ended, ended_if_now}
use Rattle.log_story.specs.Plan.{Plan}
use Rattle.log_story.specs.Tale.{Client, Tale, tell}
use Rattle.step_laws.specs.Taken.{SparesOthers}
use Rattle.step_laws.proofs.Taking.{left_spares, others_along, others_itself}
use Rattle.step_laws.specs.Steps.{EndsNone, EndsOnly, ended_now, ends_now, leave}

module _ (plan : Plan) where
  abbrev now : List Client → (moment : ℕ) → List ClientNo
  now xs moment = filter (ends_now plan moment) (map (λ (c : Client). c.number) xs)

  leaves_test : (x : Client) (xs : List Client) (tale : Tale) (b : Bool)
      → ((t : Tale) → fold (ended_if_now plan) t xs ≡ leave (now xs t.moment) t)
      → fold (ended_if_now plan) (if b then tell (Left x.number) tale else tale) xs ≡ leave (cond b (x.number ∷ now xs tale.moment) (now xs tale.moment)) tale
  leaves_test x xs tale true each = each (tell (Left x.number) tale)
  leaves_test x xs tale false each = each tale

  leaves_all : (xs : List Client) (tale : Tale) → fold (ended_if_now plan) tale xs ≡ leave (now xs tale.moment) tale
  leaves_all [] tale = refl
  leaves_all (x ∷ xs) tale = leaves_test x xs tale (ends_now plan tale.moment x.number) (leaves_all xs)

  pub ended_leave : (tale : Tale) → clients_are_ended plan tale ≡ leave (ended_now plan tale) tale
  ended_leave tale = leaves_all tale.clients tale

  -- none, and one alone

  none_test : (x : ClientNo) (xs : List ClientNo) (b : Bool) → b ≡ false → xs ≡ [] → cond b (x ∷ xs) xs ≡ []
  none_test x xs b is none = ap (λ t. cond t (x ∷ xs) xs) is ∙ none

  none_now : (moment : ℕ) (xs : List Client) → All (λ (c : Client). ends_now plan moment c.number ≡ false) xs → now xs moment ≡ []
  none_now moment [] none = refl
  none_now moment (x ∷ xs) none =
      none_test x.number (now xs moment) (ends_now plan moment x.number) (All-head (λ (c : Client). ends_now plan moment c.number ≡ false) x xs none)
      (none_now moment xs (All-tail (λ (c : Client). ends_now plan moment c.number ≡ false) x xs none))

  pub none_ended : (tale : Tale) → EndsNone plan tale → ended_now plan tale ≡ []
  none_ended tale none = none_now tale.moment tale.clients none

  abbrev NoOther : (moment : ℕ) → ClientNo → Client → Type 0
  NoOther moment number c = is_client c.number number ≡ false → ends_now plan moment c.number ≡ false

  same_test : (moment : ℕ) (number : ClientNo) (x : Client) → ends_now plan moment number ≡ true → NoOther moment number x
      → ends_now plan moment x.number ≡ is_client x.number number
  same_test moment number x ends other = elim (cases_Bool (is_client x.number number)) [
    | inl same ↦ ap (ends_now plan moment) (client_of x.number number same) ∙ ends ∙ sym same
    | inr different ↦ other different ∙ sym different
  ]

  cons_same : (x : Client) (b c : Bool) (ns : List ClientNo) (xs : List Client) → b ≡ c → ns ≡ map (λ (y : Client). y.number) xs
      → cond b (x.number ∷ ns) ns ≡ map (λ (y : Client). y.number) (cond c (x ∷ xs) xs)
  cons_same x b true ns xs is same = ap (λ t. cond t (x.number ∷ ns) ns) is ∙ ap (λ ms. x.number ∷ ms) same
  cons_same x b false ns xs is same = ap (λ t. cond t (x.number ∷ ns) ns) is ∙ same

  as_seats : (moment : ℕ) (number : ClientNo) (xs : List Client) → ends_now plan moment number ≡ true → All (NoOther moment number) xs
      → now xs moment ≡ map (λ (y : Client). y.number) (filter (λ (y : Client). is_client y.number number) xs)
  as_seats moment number [] ends others = refl
  as_seats moment number (x ∷ xs) ends others =
      cons_same x (ends_now plan moment x.number) (is_client x.number number) (now xs moment) (filter (λ (y : Client). is_client y.number number) xs)
      (same_test moment number x ends (All-head (NoOther moment number) x xs others))
      (as_seats moment number xs ends (All-tail (NoOther moment number) x xs others))

  pub one_ended : (client : Client) (tale : Tale) → EndsOnly plan client tale → ended_now plan tale ≡ client.number ∷ []
  one_ended client tale only =
      as_seats tale.moment client.number tale.clients only.ends only.others ∙ ap (map (λ (y : Client). y.number)) only.seated

-- Who leaves leaves others.
pub leave_spares : (setup : Setup) (whose : ClientNo → Bool) (cs : List ClientNo) (tale : Tale) → All (λ (c : ClientNo). whose c ≡ true) cs
    → SparesOthers setup whose tale (leave cs tale)
leave_spares setup whose [] tale its = others_itself setup whose tale
leave_spares setup whose (c ∷ cs) tale its =
    others_along setup whose tale (tell (Left c) tale) (leave (c ∷ cs) tale) (left_spares setup whose c tale (All-head (λ (x : ClientNo). whose x ≡ true) c cs its))
    (leave_spares setup whose cs (tell (Left c) tale) (All-tail (λ (x : ClientNo). whose x ≡ true) c cs its))
