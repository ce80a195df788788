-- What the laws of the policy, and of what is due, say.
use Rattle.std.specs.Prelude.{◌≡◌, ◌≤◌, ◌⊎◌, ℕ, Bool, true, false, not, ◌||◌, is_some, List, [], ◌∷◌, Option, None}
use Rattle.std.specs.List.{list_any}
use Rattle.private_model.specs.Commands.{is_marked}
use Rattle.private_model.specs.Names.{Hostgroup, MessageName, ServerId, SessionName}
use Rattle.private_model.specs.Story.{Due}
use Rattle.private_model.specs.View.{Link, Setup, View}
use Rattle.log_story.specs.Owed.{name_of}
use Rattle.log_story.specs.Plan.{Plan, own_at}
use Rattle.log_story.specs.Tale.{Client}
use Rattle.tale_world.specs.Policy.{Rest, Waiter, is_open_to, is_unprepared, wants_link}
use Rattle.tale_world.specs.Tests.{is_id, is_placed}

-- Two plans are the same for a client, in what its messages so far look up.
pub record SameFor (client : Client) (view : View) (moment : ℕ) (p q : Plan) : Type 0 where
  pub service : p.service ≡ q.service
  pub room : p.room ≡ q.room
  pub own : (i : ℕ) → i ≤ client.taken
      → own_at p moment (name_of client i) ≡ own_at q moment (name_of client i)
  pub routes : (m : MessageName) → is_some (view.replies m) ≡ true → p.routes m ≡ q.routes m
  pub taken : (i : ℕ) → i ≤ client.taken → p.routes (name_of client i) ≡ q.routes (name_of client i)

-- what an insert id needs
pub record HasId (setup : Setup) (due : Due) (marked : Bool) (link_id id : Option ℕ) : Type 0 where
  pub has : (not (is_marked setup.reads due.command) || (marked || is_id link_id id)) ≡ true

-- the link is ready for the statement
pub record IsReady (setup : Setup) (due : Due) (link : Link) (id : Option ℕ) : Type 0 where
  pub prepared : is_unprepared link.live due due.command ≡ false
  pub placed : is_placed link.told due.place ≡ true
  pub has_id : HasId setup due link.marked link.id id

-- each that waits has links enough, or its hostgroup has no room

abbrev pub IsServed : Rest → (pick : Hostgroup → Option ServerId) → Waiter → Type 0
IsServed rest pick w = (wants_link rest w.key ≡ false) ⊎ (pick w.key.hostgroup ≡ None)

abbrev pub AreServed : Rest → (pick : Hostgroup → Option ServerId) → List Waiter → Type 0
AreServed rest pick [] = Unit {0}
AreServed rest pick (w ∷ later) = IsServed rest pick w × AreServed rest pick later

-- none that waits without a link finds a free one of its key

abbrev pub IsLent : Rest → (is_served : SessionName → Bool) → Waiter → Type 0
IsLent rest is_served w =
    (is_served w.name ≡ true) ⊎ (list_any (is_open_to rest w.key) rest.idle ≡ false)

abbrev pub AreLent : Rest → (is_served : SessionName → Bool) → List Waiter → Type 0
AreLent rest is_served [] = Unit {0}
AreLent rest is_served (w ∷ later) = IsLent rest is_served w × AreLent rest is_served later
