-- Where the loop waits, each link was read dry that may not be left: by the last plan too.
use Rattle.std.specs.Prelude.{◌≡◌, ◌-◌, ℕ, Bool, true, false, not, ◌&&◌, ◌||◌, length, nat_le, nat_lt, take, List, [], ◌∷◌, ◌++◌, Option, Some, None}
use Rattle.std.specs.List.{list_any}
use Rattle.std.specs.Option.{option_map_or}
use Rattle.std.proofs.Common.{refl, sym, ap, ◌∙◌, subst, arith}
use Rattle.std.proofs.lemmas.Bool.{lt-leb}
use Rattle.std.proofs.lemmas.List.{length-take}
use Rattle.client_session.specs.Answers.{front}
use Rattle.mx_base.specs.declared.names.LinkId.{LinkId}
use Rattle.mx_wire.specs.Log.{Log}
use Rattle.mx_wire.specs.Moments.{AllLawful}
use Rattle.ready_loop.specs.Drained.{read_dry}
use Rattle.private_model.specs.Commands.{Reply}
use Rattle.private_model.specs.Names.{MessageName}
use Rattle.private_model.specs.Story.{is_client, is_link_id}
use Rattle.private_model.specs.View.{session_in}
use Rattle.log_story.specs.Owed.{due_for, has_room, messages, talk_of, unwritten}
use Rattle.log_story.specs.Plan.{Plan, is_by_now}
use Rattle.log_story.specs.Tale.{Client, view_of}
use Rattle.tale_world.specs.Decided.{Agrees, Decided, plan_of}
use Rattle.tale_world.specs.Deciding.{World}
use Rattle.router_promises.specs.Ends.{kept, was_answered}
use Rattle.router_promises.specs.Now.{Now, link_now}
use Rattle.router_promises.specs.Rest.{IsRead, is_spared_for}
use Rattle.router_promises.specs.Terms.{Terms}
use Rattle.router_promises.specs.Wakes.{has_ended}
use Rattle.shared_router.specs.Fixed.{Fixed, IsNumbered, setup_of}
use Rattle.shared_router.specs.Known.{known}
use Rattle.shared_router.specs.More.{More, now_of, terms_of}
use Rattle.shared_router.specs.Ours.{IsOurLog, MayWait}
use Rattle.shared_router.specs.Shared.{final_terms, world_at}
use Rattle.shared_router.specs.Waited.{AreRead, AsItWaits}
use Rattle.shared_router.proofs.Along.{as_it_waits}
use Rattle.shared_router.proofs.Looked.{Each, IsLooked, looks_at}
use Rattle.shared_router.proofs.Musts.{answered-same}
use Rattle.shared_router.proofs.Owes.{due-so}
use Rattle.shared_router.proofs.Parting.{agrees_then, even_at}

-- there is room for what a client is due
module _ (d : Decided) (moment : ℕ) (plan : Plan) (agrees : Agrees d moment plan) (replies : MessageName → Option Reply) (client : Client) (looked : IsLooked d client) where
  abbrev room_by : Plan → (due : List ℕ) → (room : ℕ) → Bool
  room_by p due room = nat_lt (length (front (talk_of p client) ++ due) - client.written) room

  pub room-so : has_room replies plan moment client ≡ has_room replies (plan_of d) moment client
  room-so =
      ap (λ service. room_by (record plan { service = service })
      (due_for replies plan moment client [] 1 (take client.taken (messages (record plan { service = service }) client))) plan.room) agrees.service
      ∙ ap (λ due. room_by (plan_of d) due plan.room)
      (due-so d moment plan agrees replies client looked [] 0 (take client.taken (messages (plan_of d) client))
      (let short = length-take client.taken (messages (plan_of d) client) in omega (arith, short)))
      ∙ ap (λ room. nat_lt (unwritten replies (plan_of d) moment client) room) agrees.room

-- who has ended
pub ended-so : (d : Decided) (plan : Plan) → Agrees d d.until plan → (client : Client) → is_by_now d.until (plan.ends client.number) ≡ is_by_now d.until (d.ends client.number)
ended-so d plan agrees client = by_ends (d.ends client.number) (plan.ends client.number) refl refl where
  by_ends : (old new : Option ℕ) → d.ends client.number ≡ old → plan.ends client.number ≡ new → is_by_now d.until new ≡ is_by_now d.until old
  by_ends (Some at) new was is = ap (is_by_now d.until) (sym is ∙ agrees.ended client.number at was)
  by_ends None None was is = refl
  by_ends None (Some at) was is = lt-leb at d.until (agrees.going client.number at was is)

pub any_same : {A : Type 0} (f g : A → Bool) (xs : List A) → Each (λ x. f x ≡ g x) xs → list_any f xs ≡ list_any g xs
any_same f g [] same = refl
any_same f g (x ∷ xs) same = ap (λ b. b || list_any f xs) same.0 ∙ ap (λ b. g x || b) (any_same f g xs same.1)

each_is : {A : Type 0} (P Q : A → Type 0) → ((x : A) → P x → Q x) → (xs : List A) → Each P xs → Each Q xs
each_is P Q so [] all = tt
each_is P Q so (x ∷ xs) all = (so x all.0, each_is P Q so xs all.1)

module _ (fixed : Fixed) (numbered : IsNumbered fixed) (before later log : Log) (is : before ++ later ≡ log) where
  abbrev w : World More
  w = world_at fixed before

  abbrev now : Now
  now = now_of fixed w

  abbrev last : Terms
  last = final_terms fixed log

  abbrev early : Terms
  early = terms_of fixed w

  abbrev plan : Plan
  plan = plan_of (world_at fixed log).decided

  pub agrees_here : Agrees w.decided w.tale.moment plan
  agrees_here = subst (λ l. Agrees w.decided w.tale.moment (plan_of (world_at fixed l).decided)) is (agrees_then fixed before later)

  module _ (client : Client) where
    pub ended_same : has_ended last now client ≡ has_ended early now client
    ended_same = subst (λ m. Agrees w.decided m plan → is_by_now m (plan.ends client.number) ≡ is_by_now m (w.decided.ends client.number)) (even_at fixed before)
        (λ agrees. ended-so w.decided plan agrees client) agrees_here

    kept_same : kept last client ≡ kept early client
    kept_same = ap (λ service. kept (record last { decided = record last.decided { plan = record plan { service = service } } }) client) agrees_here.service

    module _ (looked : IsLooked w.decided client) where
      pub was_same : was_answered last now client ≡ was_answered early now client
      was_same = answered-same fixed numbered w.decided w.tale plan client agrees_here looked client.taken (omega arith)

      pub room_same : has_room (view_of (setup_of fixed) w.tale).replies plan w.tale.moment client
          ≡ has_room (view_of (setup_of fixed) w.tale).replies (plan_of w.decided) w.tale.moment client
      room_same = room-so w.decided w.tale.moment plan agrees_here (view_of (setup_of fixed) w.tale).replies client looked

      abbrev spared_by : LinkId → (ended answered : Bool) → (waiting : List ℕ) → (room : Bool) → Bool
      spared_by link ended answered waiting room =
          (is_link_id client.link link && (ended || (not answered && nat_le 1048576 (length waiting))))
          || (option_map_or (λ n. is_client n.client client.number) (session_in (link_now (setup_of fixed) now link).carries) false && not room)

      spared_same : (link : LinkId) → is_spared_for last now link client ≡ is_spared_for early now link client
      spared_same link =
          ap (λ b. spared_by link b (was_answered last now client) (kept last client) (has_room (view_of (setup_of fixed) w.tale).replies plan w.tale.moment client)) ended_same
          ∙ ap (λ b. spared_by link (has_ended early now client) b (kept last client) (has_room (view_of (setup_of fixed) w.tale).replies plan w.tale.moment client)) was_same
          ∙ ap (λ xs. spared_by link (has_ended early now client) (was_answered early now client) xs (has_room (view_of (setup_of fixed) w.tale).replies plan w.tale.moment client)) kept_same
          ∙ ap (λ b. spared_by link (has_ended early now client) (was_answered early now client) (kept early client) b) room_same

  spared_in_all : (link : LinkId) → list_any (is_spared_for last now link) w.tale.clients ≡ list_any (is_spared_for early now link) w.tale.clients
  spared_in_all link =
      any_same (is_spared_for last now link) (is_spared_for early now link) w.tale.clients
      (each_is (IsLooked w.decided) (λ (c : Client). is_spared_for last now link c ≡ is_spared_for early now link c) (λ c looked. spared_same c looked link)
      w.tale.clients (looks_at fixed before))

  dry_or : (dry spared : Bool) → (not spared ≡ true → dry ≡ true) → (dry || spared) ≡ true
  dry_or true spared so = refl
  dry_or false true so = refl
  dry_or false false so = so refl

  read_here : MayWait (known fixed w) → (link : LinkId) → IsRead last w.more.log now link
  read_here may link opened =
      ap (λ b. read_dry link w.more.log || b) (spared_in_all link)
      ∙ dry_or (read_dry link w.more.log) (list_any (is_spared_for early now link) w.tale.clients) (may.read link opened)

pub are_read : (fixed : Fixed) (log : Log) → IsNumbered fixed → IsOurLog fixed log → AllLawful (AsItWaits AreRead (final_terms fixed log)) log
are_read fixed log numbered our =
    as_it_waits fixed numbered log AreRead (λ before later e at may. read_here fixed numbered before (e ∷ later) log at.is may) our
