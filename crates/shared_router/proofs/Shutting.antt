-- At each moment of a log of ours, who goes on and is carried is carried by an open link to a server on which the router is logged in.
use Rattle.std.specs.Prelude.{◌≡◌, ◌<◌, ℕ, zero, suc, Bool, true, false, length, take, [], ◌∷◌, ◌++◌, Some, None}
use Rattle.std.proofs.Common.{refl, sym, ap, ◌∙◌, subst, append_assoc, append-nil, arith}
use Rattle.std.proofs.lemmas.List.{take-append-le, take_all}
use Rattle.mx_base.specs.declared.names.LinkId.{LinkId}
use Rattle.mx_wire.specs.Log.{Log, is_open}
use Rattle.mx_wire.specs.Moments.{AllLawful, AtEachMoment, LawfulAfter}
use Rattle.mx_wire.specs.Tells.{Fits}
use Rattle.mx_wire.specs.declared.entry.Entry.{Entry}
use Rattle.private_model.specs.Names.{SessionName}
use Rattle.private_model.specs.View.{Link, no_link, session_in}
use Rattle.log_story.specs.Plan.{Plan}
use Rattle.log_story.specs.Tale.{Tale, first_tale, is_to_server, link_in, view_of}
use Rattle.tale_world.proofs.Lawfully.{IsSound, lost_in, sound_so}
use Rattle.tale_world.specs.Decided.{plan_of}
use Rattle.tale_world.specs.Tested.{IsTested}
use Rattle.router_promises.specs.Headline.{IsLawfulSo}
use Rattle.router_promises.specs.Routed.{RoutesSo}
use Rattle.shared_router.specs.Fixed.{Fixed, IsNumbered, setup_of}
use Rattle.shared_router.specs.Judged.{EndsFor}
use Rattle.shared_router.specs.Ours.{IsOurLog}
use Rattle.shared_router.specs.Shared.{final_terms, world_at}
use Rattle.shared_router.proofs.Keeping.{tested, tested_before}
use Rattle.shared_router.proofs.Lapsing.{tale_is, tale_next, tidy_at}
use Rattle.shared_router.proofs.Shut.{shut_step}
use Rattle.shared_router.proofs.Tied.{IsKept}

isnt : {A : Type 0} → false ≡ true → A
isnt is = absurd (cc)

no_some : {A B : Type 0} (a : A) → None ≡ Some a → B
no_some a is = absurd (cc)

module _ (fixed : Fixed) (numbered : IsNumbered fixed) (log : Log) (our : IsOurLog fixed log) (lawful : AtEachMoment (IsLawfulSo (final_terms fixed log)) log)
    (ends : AllLawful (EndsFor (final_terms fixed log)) log) (routes : AllLawful (RoutesSo (final_terms fixed log)) log) where
  abbrev plan : Plan
  plan = plan_of (world_at fixed log).decided

  pub cut : (before later : Log) → before ++ later ≡ log → take (length before) log ≡ before
  cut before later is = ap (take (length before)) (sym is) ∙ take-append-le (length before) before later (omega arith) ∙ take_all (length before) before (omega arith)

  pub sound_there : (before later : Log) → before ++ later ≡ log → IsSound (setup_of fixed) plan (lost_in before) (world_at fixed before).tale
  sound_there before later is =
      subst (IsSound (setup_of fixed) plan (lost_in before)) (tale_is fixed numbered log lawful ends routes before later is)
      (sound_so (setup_of fixed) plan before
      (subst (λ (l : Log). IsTested (setup_of fixed) plan l) (cut before later is)
      (tested_before (setup_of fixed) plan (length before) log first_tale (tested fixed log (let few : length log < 281474976710656 = our.bounded in omega (arith, few)) our.ours our.fits))))

  -- a link on which the router isn't logged in is of no use, and carries nobody
  pub outside_none : (before later : Log) → before ++ later ≡ log → (l : LinkId) → is_to_server (world_at fixed before).tale l ≡ false
      → link_in (setup_of fixed) (world_at fixed before).tale l ≡ no_link
  outside_none before later is l none = let sound = sound_there before later is in sound.fresh l (sound.outside l none)

  abbrev ShutAt : LinkId → Log → Type 0
  ShutAt l before = is_open l before ≡ false → (link_in (setup_of fixed) (world_at fixed before).tale l).usable ≡ false

  shut_next : (l : LinkId) (before later : Log) (e : Entry) → before ++ e ∷ later ≡ log → Fits before e → ShutAt l before → ShutAt l (before ++ e ∷ [])
  shut_next l before later e is fits was shut =
      subst (λ (t : Tale). (link_in (setup_of fixed) t l).usable ≡ false) (sym (tale_next fixed numbered log lawful ends routes before later e is))
      (shut_step (setup_of fixed) l plan before (world_at fixed before).tale e fits was
      (λ none. ap (λ (x : Link). x.usable) (outside_none before (e ∷ later) is l none)) shut)

  shut_from : (l : LinkId) (before later : Log) → before ++ later ≡ log → LawfulAfter Fits before later → ShutAt l before → (k : ℕ) → ShutAt l (before ++ take k later)
  shut_from l before later is fits was zero = subst (ShutAt l) (sym (append-nil before)) was
  shut_from l before [] is fits was (suc k) = subst (ShutAt l) (sym (append-nil before)) was
  shut_from l before (e ∷ later) is fits was (suc k) =
      subst (ShutAt l) (append_assoc before (e ∷ []) (take k later))
      (shut_from l (before ++ e ∷ []) later (append_assoc before (e ∷ []) later ∙ is) fits.1 (shut_next l before later e is fits.0 was) k)

  shut_at : (l : LinkId) (before later : Log) → before ++ later ≡ log → ShutAt l before
  shut_at l before later is = subst (ShutAt l) (cut before later is) (shut_from l [] log refl our.fits (λ none. refl) (length before))

  pub record IsOpenThere (before : Log) (l : LinkId) : Type 0 where
    pub opened : is_open l before ≡ true
    pub to_server : is_to_server (world_at fixed before).tale l ≡ true
    pub entered : ((world_at fixed before).tale.wires l).entered ≡ true

  pub open_there : (before later : Log) → before ++ later ≡ log → (l : LinkId) (n : SessionName) → session_in (link_in (setup_of fixed) (world_at fixed before).tale l).carries ≡ Some n
      → IsKept (view_of (setup_of fixed) (world_at fixed before).tale).lives n → IsOpenThere before l
  open_there before later is l n carries kept = record {
    opened = by_open (is_open l before) refl;
    to_server = by_server (is_to_server (world_at fixed before).tale l) refl;
    entered = by_entered ((world_at fixed before).tale.wires l).entered refl;
  } where
    used : (link_in (setup_of fixed) (world_at fixed before).tale l).usable ≡ true
    used = (tidy_at fixed numbered log lawful ends routes before later is).tied.usable l n kept carries

    none_carried : {A : Type 0} → link_in (setup_of fixed) (world_at fixed before).tale l ≡ no_link → A
    none_carried none = no_some n (sym (ap (λ (x : Link). session_in x.carries) none) ∙ carries)

    by_open : (b : Bool) → is_open l before ≡ b → is_open l before ≡ true
    by_open true at = at
    by_open false at = isnt (sym (shut_at l before later is at) ∙ used)

    by_server : (b : Bool) → is_to_server (world_at fixed before).tale l ≡ b → is_to_server (world_at fixed before).tale l ≡ true
    by_server true at = at
    by_server false at = none_carried (outside_none before later is l at)

    by_entered : (b : Bool) → ((world_at fixed before).tale.wires l).entered ≡ b → ((world_at fixed before).tale.wires l).entered ≡ true
    by_entered true at = at
    by_entered false at = none_carried ((sound_there before later is).fresh l at)
