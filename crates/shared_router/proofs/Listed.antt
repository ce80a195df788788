-- Links are readied for statements that the promise counts among those that wait.
use Rattle.std.specs.Prelude.{◌≡◌, Bool, true, false, ◌&&◌, ◌||◌, if◌then◌else◌, List, [], ◌∷◌, ◌++◌, Option, Some, None}
use Rattle.std.specs.List.{list_any}
use Rattle.std.specs.Option.{option_map_or}
use Rattle.std.proofs.Common.{refl, ap, ◌∙◌}
use Rattle.mx_base.specs.declared.names.LinkId.{LinkId}
use Rattle.private_model.specs.Names.{MessageName, SessionName}
use Rattle.private_model.specs.Story.{BecameDue, Broke, Dropped, Due, Freed, Gone, Heard, Left, LoggedIn, Mirrored, Ran, Sent, Story, Unprepared}
use Rattle.tale_world.specs.Policy.{Readied, Waiter}
use Rattle.router_promises.specs.Keys.{LinkKey, is_key, is_waiting, key_for, waiters_in}
use Rattle.shared_router.specs.Known.{Known, present_by, setup_by, view_by}
use Rattle.shared_router.specs.Lends.{as_readied, readied_now, waiter_of, waiters_by}
use Rattle.shared_router.proofs.Readying.{AllReady, all_on, readied_all}

any_front : {A : Type 0} (f : A → Bool) (a b : List A) → list_any f a ≡ true → list_any f (a ++ b) ≡ true
any_front f [] b is = absurd (cc)
any_front f (x ∷ a) b is = by_test (f x) is (any_front f a b) where
  by_test : (t : Bool) → (t || list_any f a) ≡ true → (list_any f a ≡ true → list_any f (a ++ b) ≡ true) → (t || list_any f (a ++ b)) ≡ true
  by_test true there later = refl
  by_test false there later = later there

any_back : {A : Type 0} (f : A → Bool) (a b : List A) → list_any f b ≡ true → list_any f (a ++ b) ≡ true
any_back f [] b is = is
any_back f (x ∷ a) b is = by_test (f x) (any_back f a b is) where
  by_test : (t : Bool) → list_any f (a ++ b) ≡ true → (t || list_any f (a ++ b)) ≡ true
  by_test true later = refl
  by_test false later = later

module _ (k : Known) where
  -- whatever is so of each message of its client is so of one that waits for a link of its key
  abbrev IsListedIn : Story → Readied → Type 0
  IsListedIn story r =
      (key : LinkKey) → is_key (key_for (setup_by k) k.now r.name.client r.name.hostgroup) key ≡ true
      → (f : MessageName → Bool) → ((m : MessageName) → m.client ≡ r.name.client → f m ≡ true) → list_any f (waiters_in k.terms k.now key story) ≡ true

  all_later : (P Q : Readied → Type 0) (ws : List Waiter) → ((r : Readied) → P r → Q r) → AllReady k P ws → AllReady k Q ws
  all_later P Q [] so all = tt
  all_later P Q (w ∷ ws) so all = (so (as_readied w) all.0, all_later P Q ws so all.1)

  listed : (story : Story) → AllReady k (IsListedIn story) (waiters_by k story)
  listed [] = tt
  listed (BecameDue client hostgroup ordinal at command multiplex ∷ past) =
      all_on k (IsListedIn (BecameDue client hostgroup ordinal at command multiplex ∷ past)) (waiters_by k past) _
      (all_later (IsListedIn past) (IsListedIn (BecameDue client hostgroup ordinal at command multiplex ∷ past)) (waiters_by k past)
      (λ r is key of f each. any_front f (waiters_in k.terms k.now key past) _ (is key of f each)) (listed past))
      (by_test (is_waiting k.terms k.now client hostgroup ordinal) refl)
    where
      n : SessionName
      n = present_by k client hostgroup

      its : LinkKey → (waits : Bool) → List MessageName
      its key waits = if waits && is_key (key_for (setup_by k) k.now client hostgroup) key then record { client = client; ordinal = ordinal } ∷ [] else []

      story_now : Story
      story_now = BecameDue client hostgroup ordinal at command multiplex ∷ past

      one : (key : LinkKey) (f : MessageName → Bool) → ((m : MessageName) → m.client ≡ client → f m ≡ true) → (b : Bool) → b ≡ true
          → list_any f (if b then record { client = client; ordinal = ordinal } ∷ [] else []) ≡ true
      one key f each true is = ap (λ t. t || false) (each (record { client = client; ordinal = ordinal }) refl)
      one key f each false is = absurd (cc)

      by_due : is_waiting k.terms k.now client hostgroup ordinal ≡ true → (o : Option Due)
          → AllReady k (IsListedIn story_now) (option_map_or (λ due. waiter_of k n due ∷ []) o [])
      by_due waits None = tt
      by_due waits (Some due) = (
        λ key of f each.
            any_back f (waiters_in k.terms k.now key past) (its key (is_waiting k.terms k.now client hostgroup ordinal))
            (one key f each _ (ap (λ b. b && is_key (key_for (setup_by k) k.now client hostgroup) key) waits ∙ of)),
        tt,
      )

      by_test : (b : Bool) → is_waiting k.terms k.now client hostgroup ordinal ≡ b
          → AllReady k (IsListedIn story_now) (if b then option_map_or (λ due. waiter_of k n due ∷ []) ((view_by k).dues n) [] else [])
      by_test true waits = by_due waits ((view_by k).dues n)
      by_test false waits = tt
  listed (LoggedIn link server account ∷ past) = listed past
  listed (Sent link question ∷ past) = listed past
  listed (Ran link ∷ past) = listed past
  listed (Heard link reply ∷ past) = listed past
  listed (Freed link ∷ past) = listed past
  listed (Unprepared link number ∷ past) = listed past
  listed (Dropped link ∷ past) = listed past
  listed (Gone link ∷ past) = listed past
  listed (Left client ∷ past) = listed past
  listed (Broke ∷ past) = listed past
  listed (Mirrored client job ∷ past) = listed past

  pub readied_listed : (link : LinkId) (r : Readied) → readied_now k link ≡ Some r → IsListedIn k.now.tale.story r
  readied_listed link r is = readied_all k (IsListedIn k.now.tale.story) (listed k.now.tale.story) link r is
