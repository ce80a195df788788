-- At a wake, a statement that waited too long and isn't given up has a link that is readied for it.
use Rattle.std.specs.Prelude.{◌≡◌, ◌+◌, ℕ, Bool, true, false, not, ◌&&◌, is_some, nat_le, if◌then◌else◌, List, [], ◌∷◌, Option, Some, None}
use Rattle.std.specs.Option.{option_and_then, option_or}
use Rattle.std.proofs.Common.{refl, sym, ap, ◌∙◌}
use Rattle.std.proofs.lemmas.Bool.{and_from, le-leb}
use Rattle.hostgroups.specs.declared.server.Server.{Server}
use Rattle.mx_wire.specs.declared.entry.Entry.{Entry}
use Rattle.mx_wire.specs.declared.entry.Entry.TheVariants.{Woke}
use Rattle.private_model.specs.Names.{MessageName}
use Rattle.log_story.specs.Plan.{Route}
use Rattle.router_promises.specs.Errors.{no_connection}
use Rattle.router_promises.specs.Keys.{is_waiting}
use Rattle.router_promises.specs.Terms.{plan_in}
use Rattle.shared_router.specs.Causes.{Case, by_bytes, cause_of, given_by, is_ready, late, lost, offline, payload_if, starved, unlinked}
use Rattle.shared_router.specs.Given.{IsOverdue}
use Rattle.shared_router.specs.Known.{Known}

some_first : (x y : Option (List ℕ)) → is_some x ≡ true → is_some (option_or x y) ≡ true
some_first (Some a) y is = refl
some_first None y is = absurd (cc)

some_second : (x y : Option (List ℕ)) → is_some y ≡ true → is_some (option_or x y) ≡ true
some_second (Some a) y is = refl
some_second None y is = is

given_none : {A : Type 0} (o : Option (List ℕ)) → is_some o ≡ true → option_and_then (λ payload. Some (payload ∷ [])) o ≡ None → A
given_none (Some a) is none = absurd (cc)
given_none None is none = absurd (cc)

module _ (k : Known) (servers : List Server) (until_ms now_ms : ℕ) (m : MessageName) (route : Route) (overdue : IsOverdue k now_ms m route) where
  abbrev e : Entry
  e = Woke until_ms now_ms

  abbrev at : Route → Case
  at r = record { known = k; servers = servers; e = e; m = m; route = r }

  caused : is_ready (at route) ≡ false → is_some (cause_of (at route)) ≡ true
  caused none =
      let waits : Bool = is_waiting k.terms k.now m.client route.hostgroup m.ordinal in
      let long : Bool = nat_le (k.now.since m + k.terms.router.proxy.wait_ms) now_ms in
      let test : (waits && (long && not (is_ready (at route)))) ≡ true =
      and_from waits (long && not (is_ready (at route))) overdue.waits
      (and_from long (not (is_ready (at route))) (le-leb (k.now.since m + k.terms.router.proxy.wait_ms) now_ms overdue.long) (ap (λ b. not b) none)) in
      let told : is_some (late (at route)) ≡ true = ap (λ b. is_some (payload_if b (no_connection (k.now.since m) now_ms))) test in
      let c : Case = at route in
      some_second (starved c) _ (some_second (lost c) _ (some_first (late c) (option_or (unlinked c) (option_or (by_bytes c) (offline c))) told))

  pub has_link : given_by k servers e m ≡ None → is_ready (at route) ≡ true
  has_link none = by_ready (is_ready (at route)) refl where
    its : Option Route → Option (List (List ℕ))
    its o = option_and_then (λ r. option_and_then (λ payload. Some (payload ∷ [])) (cause_of (at r))) o

    given : given_by k servers e m ≡ option_and_then (λ payload. Some (payload ∷ [])) (cause_of (at route))
    given = ap (λ b. if b then its ((plan_in k.terms).routes m) else None) overdue.in_work ∙ ap its overdue.goes

    by_ready : (b : Bool) → is_ready (at route) ≡ b → is_ready (at route) ≡ true
    by_ready true is = is
    by_ready false is = given_none (cause_of (at route)) (caused is) (sym given ∙ none)
