-- The clients of a tale in which one is taken further.
use Rattle.std.specs.Prelude.{◌≡◌, ℕ, Bool, true, false, All, if◌then◌else◌, map, nat_eq, List, [], ◌∷◌}
use Rattle.std.proofs.Common.{refl, sym, ap, ◌∙◌, subst, arith}
use Rattle.std.proofs.lemmas.List.Elements.{All-filter, All-head, All-map, All-weaker}
use Rattle.private_model.proofs.Maps.{same_number}
use Rattle.private_model.specs.Names.{ClientNo}
use Rattle.private_model.specs.Story.{is_client}
use Rattle.private_model.specs.View.{Setup}
use Rattle.log_story.specs.Plan.{Plan}
use Rattle.log_story.specs.Tale.{Client, Tale, with_client}
use Rattle.step_laws.specs.Seats.{IsSeated, is_its, seats}
use Rattle.step_laws.specs.Taken.{next_of}
use Rattle.step_laws.proofs.Taking.{seated_next, with_spares}

pub flipped : (a b : ClientNo) → is_client a b ≡ false → is_client b a ≡ false
flipped a b apart = by a.0 b.0 apart where
  by : (m n : ℕ) → nat_eq m n ≡ false → nat_eq n m ≡ false
  by m n e = grind arith

module _ (client : Client) where
  abbrev replaced : Client → Client
  replaced x = if is_client x.number client.number then next_of client else x

  -- what holds of each holds of it, and of the others
  pub each_after : (P Q : Client → Type 0) (xs : List Client) → All P xs → Q (next_of client)
      → ((x : Client) → is_client x.number client.number ≡ false → P x → Q x) → All Q (map replaced xs)
  each_after P Q xs are here others =
      All-map Q replaced xs
      (All-weaker P (λ (x : Client). Q (replaced x)) (λ x is. by x (is_client x.number client.number) refl is) xs are) where
        by : (x : Client) (b : Bool) → is_client x.number client.number ≡ b → P x → Q (if b then next_of client else x)
        by x true e is = here
        by x false e is = others x e is

  module _ (tale : Tale) (seated : IsSeated tale client) where
    pub of_seated : (P : Client → Type 0) → All P tale.clients → P client
    of_seated P are =
        All-head P client []
        (subst (All P) seated (All-filter (λ (x : Client). is_client x.number client.number) P tale.clients are))

    -- nobody else has its number
    pub is_alone : (x : Client) → IsSeated tale x → x.number ≡ client.number → x ≡ client
    is_alone x other same =
        let both : x ∷ [] ≡ client ∷ [] = sym other ∙ ap (seats tale) same ∙ seated in
        cc

    pub seated_after : (setup : Setup) (plan : Plan) → IsSeated (with_client (next_of client) tale) (next_of client)
    seated_after setup plan = seated_next setup plan client (next_of client) tale tale refl refl seated

    pub others_seats : (setup : Setup) (c : ClientNo) → is_client c client.number ≡ false → seats (with_client (next_of client) tale) c ≡ seats tale c
    others_seats setup c apart = (with_spares setup (is_its client) (next_of client) tale (same_number client.number.0)).seat c apart

    pub others_seated : (setup : Setup) (x : Client) → is_client x.number client.number ≡ false → IsSeated tale x
        → IsSeated (with_client (next_of client) tale) x
    others_seated setup x apart is = others_seats setup x.number apart ∙ is
