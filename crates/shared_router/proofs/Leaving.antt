-- Where no client's link is to be closed, those that ended have time yet.
use Rattle.std.specs.Prelude.{All, ◌≡◌, ◌+◌, ◌≤◌, ℕ, zero, suc, Bool, true, false, not, ◌&&◌, ◌||◌, bytes_eq, cond, find, nat_le, List, [], ◌∷◌, Option, Some, None}
use Rattle.std.specs.List.{list_any}
use Rattle.std.proofs.Common.{refl, sym, ap, ◌∙◌, subst, arith}
use Rattle.std.proofs.lemmas.Bool.{leb-false, leb-true}
use Rattle.mx_base.specs.declared.names.LinkId.{LinkId}
use Rattle.mx_wire.specs.Log.{Log, is_link, is_open, link_of, of_link, written_of}
use Rattle.log_story.specs.Plan.{Plan, is_by_now}
use Rattle.log_story.specs.Tale.{Client}
use Rattle.tale_world.specs.Decided.{Agrees, plan_of}
use Rattle.tale_world.specs.Deciding.{World}
use Rattle.router_promises.specs.Due.{due_to, served}
use Rattle.router_promises.specs.Ends.{is_unheard, moment_in}
use Rattle.router_promises.specs.Now.{is_loss}
use Rattle.shared_router.specs.Fixed.{Fixed}
use Rattle.shared_router.specs.Known.{Known, known}
use Rattle.shared_router.specs.More.{More, now_of, terms_of}
use Rattle.shared_router.specs.Owed.{may_part, parts, was_tried}
use Rattle.shared_router.specs.Rests.{LeavesInTime}

left_false : (a b : Bool) → (a || b) ≡ false → a ≡ false
left_false false b is = refl
left_false true b is = absurd (cc)

right_false : (a b : Bool) → (a || b) ≡ false → b ≡ false
right_false false b is = is
right_false true b is = absurd (cc)

then_false : (a b : Bool) → (a && b) ≡ false → a ≡ true → b ≡ false
then_false true b is so = is
then_false false b is so = absurd (cc)

-- a link was lost where an entry of its own says so
lost_is : (link : LinkId) (log : Log) → list_any is_loss (of_link link log) ≡ list_any (λ e. is_loss e && is_link link (link_of e)) log
lost_is link [] = refl
lost_is link (e ∷ log) = by_test (is_link link (link_of e)) (lost_is link log) where
  neither : (c : Bool) (x y : Bool) → x ≡ y → x ≡ ((c && false) || y)
  neither true x y same = same
  neither false x y same = same

  both : (c : Bool) (x y : Bool) → x ≡ y → (c || x) ≡ ((c && true) || y)
  both true x y same = refl
  both false x y same = same

  by_test : (b : Bool) → list_any is_loss (of_link link log) ≡ list_any (λ f. is_loss f && is_link link (link_of f)) log
      → list_any is_loss (cond b (e ∷ of_link link log) (of_link link log)) ≡ ((is_loss e && b) || list_any (λ f. is_loss f && is_link link (link_of f)) log)
  by_test true later = both (is_loss e) _ _ later
  by_test false later = neither (is_loss e) _ _ later

module _ (fixed : Fixed) (w last : World More) (agrees : Agrees w.decided w.tale.moment (plan_of last.decided)) (even : w.decided.until ≡ w.tale.moment) where
  abbrev k : Known
  k = known fixed w

  abbrev plan : Plan
  plan = plan_of last.decided

  -- who has ended by the last plan had ended then
  pub ends_same : (client : Client) → is_by_now w.tale.moment (plan.ends client.number) ≡ true → plan.ends client.number ≡ w.decided.ends client.number
  ends_same client by_now = by_ends (w.decided.ends client.number) refl (plan.ends client.number) refl by_now where
    by_ends : (old : Option ℕ) → w.decided.ends client.number ≡ old → (new : Option ℕ) → plan.ends client.number ≡ new → is_by_now w.tale.moment new ≡ true → new ≡ old
    by_ends (Some at) was new is ended = sym is ∙ agrees.ended client.number at was
    by_ends None was None is ended = absurd (cc)
    by_ends None was (Some at) is ended =
        let later : suc w.decided.until ≤ at = agrees.going client.number at was is in
        let sooner : at ≤ w.tale.moment = leb-true at w.tale.moment ended in
        absurd (omega (arith, later, sooner, even))

  leaves : (client : Client) → parts k client ≡ false → LeavesInTime (terms_of fixed last) w.more.log (now_of fixed w) client
  leaves client stays ended opened =
      let same : plan.ends client.number ≡ w.decided.ends client.number = ends_same client ended in
      let before : is_by_now w.tale.moment (w.decided.ends client.number) ≡ true = ap (is_by_now w.tale.moment) (sym same) ∙ ended in
      let lossy : Bool = list_any (λ e. is_loss e && is_link client.link (link_of e)) w.more.log in
      let late : Bool = nat_le (moment_in w.more.log (w.decided.ends client.number) + fixed.router.proxy.wait_ms) w.more.clock in
      let turned : Bool = not (served k.terms w.more.log client) && was_tried k client.link in
      let unheard : Bool = is_unheard k.terms w.more.log client in
      let all : Bool = bytes_eq (written_of client.link w.more.log) (due_to k.terms k.now client) in
      let none = then_false (is_by_now w.tale.moment (w.decided.ends client.number)) (may_part k client)
      (then_false (is_open client.link w.more.log) (is_by_now w.tale.moment (w.decided.ends client.number) && may_part k client) stays opened) before in
      let first = right_false all (lossy || (late || (turned || unheard))) none in
      record {
        unbroken = lost_is client.link w.more.log ∙ left_false lossy (late || (turned || unheard)) first;
        in_time = subst (λ o. suc w.more.clock ≤ moment_in w.more.log o + fixed.router.proxy.wait_ms) (sym same)
            (leb-false (moment_in w.more.log (w.decided.ends client.number) + fixed.router.proxy.wait_ms) w.more.clock
            (left_false late (turned || unheard) (right_false lossy (late || (turned || unheard)) first)));
      }

  pub all_leave : (clients : List Client) → find (parts k) clients ≡ None → All (LeavesInTime (terms_of fixed last) w.more.log (now_of fixed w)) clients
  all_leave [] none i d within = absurd (omega (arith, within))
  all_leave (x ∷ xs) none i d within = by_test (parts k x) refl none (all_leave xs) i d within where
    by_test : (b : Bool) → parts k x ≡ b → cond b (Some x) (find (parts k) xs) ≡ None
        → (find (parts k) xs ≡ None → All (LeavesInTime (terms_of fixed last) w.more.log (now_of fixed w)) xs)
        → All (LeavesInTime (terms_of fixed last) w.more.log (now_of fixed w)) (x ∷ xs)
    by_test true parted none later i d within = absurd (cc)
    by_test false stays none later zero d within = leaves x stays
    by_test false stays none later (suc i) d within = later none i d (omega (arith, within))
