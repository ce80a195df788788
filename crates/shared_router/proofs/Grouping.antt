-- What stands on links at each moment of a log of ours stands in its session's hostgroup, and so does whom a link carries.
use Rattle.std.specs.Prelude.{◌≡◌, ◌<◌, ℕ, Bool, true, false, drop, length, take}
use Rattle.std.proofs.Common.{refl, sym, subst, arith}
use Rattle.std.proofs.lemmas.List.{take-append-drop}
use Rattle.mx_base.specs.declared.names.LinkId.{LinkId}
use Rattle.mx_wire.specs.Log.{Log}
use Rattle.private_model.specs.View.{Answered, Asked, Link, Quiet, Setup, Stage}
use Rattle.log_story.specs.Plan.{Plan}
use Rattle.log_story.specs.Tale.{first_tale, is_to_server, link_in}
use Rattle.tale_world.specs.Decided.{plan_of}
use Rattle.tale_world.specs.Deciding.{World}
use Rattle.tale_world.proofs.Lawfully.{IsSound, lost_in, sound_so}
use Rattle.router_promises.specs.Now.{Now}
use Rattle.router_promises.specs.Running.{hostgroup_of}
use Rattle.router_promises.specs.Tags.{StandsIn, StandsRight}
use Rattle.router_promises.specs.Terms.{Terms, tale_at}
use Rattle.shared_router.specs.Fixed.{Fixed, IsNumbered, setup_of}
use Rattle.shared_router.specs.More.{More, now_of, terms_of}
use Rattle.shared_router.specs.Ours.{IsOurLog}
use Rattle.shared_router.specs.Shared.{final_terms, world_at}
use Rattle.shared_router.proofs.Keeping.{tested, tested_before}
use Rattle.shared_router.proofs.Parting.{tale_then}
use Rattle.shared_router.proofs.Saying.{stands_on}
use Rattle.shared_router.proofs.Spelling.{Cleanly, IsStanding, group_on}
use Rattle.shared_router.proofs.Standing.{On}
use Rattle.shared_router.proofs.Tagging.{StandsBy}

right_at : (terms : Terms) (now : Now) (link : LinkId) (stage : Stage) → StandsIn (hostgroup_of terms.router (now.tale.wires link).server) (group_on stage)
    → StandsRight terms now link stage
right_at terms now link Quiet is = tt
right_at terms now link (Asked question) is = is
right_at terms now link (Answered question) is = tt

module _ (fixed : Fixed) (numbered : IsNumbered fixed) (log : Log) (our : IsOurLog fixed log) (j : ℕ) where
  abbrev setup : Setup
  setup = setup_of fixed

  abbrev w : World More
  w = world_at fixed (take j log)

  abbrev plan : Plan
  plan = plan_of (world_at fixed log).decided

  small : length log < 18446744073709551616
  small = let bounded = our.bounded in omega (arith, bounded)

  there : tale_at (final_terms fixed log) (take j log) ≡ w.tale
  there = subst (λ (l : Log). tale_at (final_terms fixed l) (take j log) ≡ w.tale) (take-append-drop j log) (tale_then fixed (take j log) (drop j log))

  pub stood : On fixed.router setup plan w.tale
  stood = stands_on fixed numbered log small our.ours our.fits j

  pub sound : IsSound setup plan (lost_in (take j log)) w.tale
  sound =
      subst (IsSound setup plan (lost_in (take j log))) there
      (sound_so setup plan (take j log) (tested_before setup plan j log first_tale (tested fixed log small our.ours our.fits)))

  -- a link on which the router is logged in is clean
  pub clean_at : (link : LinkId) → (w.tale.wires link).entered ≡ true → Cleanly fixed.router (w.tale.wires link) (link_in setup w.tale link)
  clean_at link entered = by_there (is_to_server w.tale link) refl where
    by_there : (b : Bool) → is_to_server w.tale link ≡ b → Cleanly fixed.router (w.tale.wires link) (link_in setup w.tale link)
    by_there true is = subst (λ b. IsStanding fixed.router b (plan.logins link) (w.tale.wires link) (link_in setup w.tale link)) entered (stood link is)
    by_there false is = absurd (let none = sound.outside link is in cc)

  pub stands_by : StandsBy fixed numbered w
  stands_by link = by_entered (w.tale.wires link).entered refl where
    by_entered : (b : Bool) → (w.tale.wires link).entered ≡ b → StandsRight (terms_of fixed w) (now_of fixed w) link (link_in setup w.tale link).stage
    by_entered true is = right_at (terms_of fixed w) (now_of fixed w) link (link_in setup w.tale link).stage (clean_at link is).stands
    by_entered false is =
        subst (λ (x : Link). StandsRight (terms_of fixed w) (now_of fixed w) link x.stage) (sym (sound.fresh link is)) tt
