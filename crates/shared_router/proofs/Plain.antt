-- Where messages go by this router, they are copied nowhere.
use Rattle.std.specs.Prelude.{◌≡◌, Bool, true, false, if◌then◌else◌, unwrap_or, Option, Some, None}
use Rattle.std.proofs.Common.{refl}
use Rattle.packet_frame.specs.Packets.{Framed}
use Rattle.private_model.specs.Names.{MessageName}
use Rattle.log_story.specs.Plan.{Route}
use Rattle.log_story.specs.Tale.{Client}
use Rattle.tale_world.specs.Decided.{filled}
use Rattle.tale_world.specs.Deciding.{World}
use Rattle.shared_router.specs.Fixed.{Fixed}
use Rattle.shared_router.specs.More.{More}
use Rattle.shared_router.specs.Shared.{route_by}
use Rattle.shared_router.proofs.Lone.{route_lone}

abbrev pub IsPlain : Option Route → Type 0
IsPlain None = Unit {0}
IsPlain (Some route) = route.mirror ≡ None

-- of a route that is decided
abbrev pub IsPlainIf : Option (Option Route) → Type 0
IsPlainIf None = Unit {0}
IsPlainIf (Some route) = IsPlain route

pub plain_of : (o : Option (Option Route)) → IsPlainIf o → IsPlain (unwrap_or o None)
plain_of None plain = tt
plain_of (Some route) plain = plain

pub plain_filled : (which : MessageName → Bool) (value : MessageName → Option Route) (f : MessageName → Option (Option Route))
    → ((m : MessageName) → IsPlain (value m)) → ((m : MessageName) → IsPlainIf (f m)) → (m : MessageName) → IsPlainIf (filled which value f m)
plain_filled which value f new old m = by_test (which m) (f m) (old m) where
  by_test : (b : Bool) (o : Option (Option Route)) → IsPlainIf o → IsPlainIf (if b then Some (unwrap_or o (value m)) else o)
  by_test true None was = new m
  by_test true (Some route) was = was
  by_test false o was = was

pub route_plain : (fixed : Fixed) (w : World More) (client : Client) (message : Framed) → IsPlain (route_by fixed w client message)
route_plain fixed w client message = by_route (route_by fixed w client message) (λ r is. route_lone fixed w client message r is) where
  by_route : (o : Option Route) → ((r : Route) → o ≡ Some r → r.mirror ≡ None) → IsPlain o
  by_route None lone = tt
  by_route (Some r) lone = lone r refl
