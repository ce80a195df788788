-- Where an idle link serves all who wait for its key, there are links enough in the promise's own count.
use Rattle.std.specs.Prelude.{◌≡◌, ◌⊎◌, ◌+◌, ◌<◌, ◌≤◌, ℕ, zero, suc, Bool, true, false, not, ◌&&◌, ◌||◌, cond, fold, List, [], ◌∷◌}
use Rattle.std.specs.List.{list_any}
use Rattle.std.proofs.Common.{refl, sym, ap, ◌∙◌, arith, inl, inr}
use Rattle.std.proofs.lemmas.Bool.{or_left, or_right}
use Rattle.mx_base.specs.declared.names.LinkId.{LinkId}
use Rattle.mx_wire.specs.Log.{Log}
use Rattle.private_model.proofs.Maps.{same_link}
use Rattle.private_model.specs.Story.{is_link_id}
use Rattle.log_story.specs.Tale.{is_to_server}
use Rattle.router_promises.specs.Keys.{LinkKey, has_place, has_room_in, how_many, is_at_work, is_free, is_idle, is_in, is_of_key, is_opening, is_stepping, is_vacant, waiting}
use Rattle.router_promises.specs.Now.{Now, is_online, wire_now}
use Rattle.router_promises.specs.Rest.{IsShared}
use Rattle.router_promises.specs.Terms.{Terms}
use Rattle.shared_router.specs.Rests.{HasEnough}
use Rattle.shared_router.proofs.Later.{adds}
use Rattle.shared_router.proofs.Looked.{Each, each-so}

isnt : {A : Type 0} → true ≡ false → A
isnt is = absurd (cc)

-- Counts.

counts_le : (f g : LinkId → Bool) (xs : List LinkId) (n m : ℕ) → n ≤ m → Each (λ x. f x ≡ true → g x ≡ true) xs → fold (adds f) n xs ≤ fold (adds g) m xs
counts_le f g [] n m less so = less
counts_le f g (x ∷ xs) n m less so = by_test (f x) (g x) so.0 (λ i j le. counts_le f g xs i j le so.1) where
  by_test : (b c : Bool) → (b ≡ true → c ≡ true) → ((i j : ℕ) → i ≤ j → fold (adds f) i xs ≤ fold (adds g) j xs)
      → fold (adds f) (n + cond b 1 0) xs ≤ fold (adds g) (m + cond c 1 0) xs
  by_test true true both later = later (n + 1) (m + 1) (omega (arith, less))
  by_test true false both later = isnt (sym (both refl))
  by_test false true both later = later (n + 0) (m + 1) (omega (arith, less))
  by_test false false both later = later (n + 0) (m + 0) (omega (arith, less))

counts_grow : (f : LinkId → Bool) (xs : List LinkId) (n : ℕ) → n ≤ fold (adds f) n xs
counts_grow f [] n = omega arith
counts_grow f (x ∷ xs) n =
    let more : n + cond (f x) 1 0 ≤ fold (adds f) (n + cond (f x) 1 0) xs = counts_grow f xs (n + cond (f x) 1 0) in
    omega (arith, more)

none_counted : (f : LinkId → Bool) (xs : List LinkId) (n : ℕ) → fold (adds f) n xs ≤ n → Each (λ x. f x ≡ false) xs
none_counted f [] n none = tt
none_counted f (x ∷ xs) n none = by_test (f x) refl none (none_counted f xs (n + 0)) where
  by_test : (b : Bool) → f x ≡ b → fold (adds f) (n + cond b 1 0) xs ≤ n → (fold (adds f) (n + 0) xs ≤ n + 0 → Each (λ y. f y ≡ false) xs)
      → (f x ≡ false) × Each (λ y. f y ≡ false) xs
  by_test true at counted later = absurd (let more : n + 1 ≤ fold (adds f) (n + 1) xs = counts_grow f xs (n + 1) in omega (arith, more, counted))
  by_test false at counted later = (at, later (omega (arith, counted)))

any_none : (f : LinkId → Bool) (xs : List LinkId) → Each (λ x. f x ≡ false) xs → list_any f xs ≡ false
any_none f [] all = refl
any_none f (x ∷ xs) all = ap (λ b. b || list_any f xs) all.0 ∙ any_none f xs all.1

pub each_there : (xs : List LinkId) → Each (λ x. list_any (is_link_id x) xs ≡ true) xs
each_there [] = tt
each_there (x ∷ xs) = (
  or_left (is_link_id x x) _ (same_link x),
  each-so (λ y. list_any (is_link_id y) xs ≡ true) (λ y. list_any (is_link_id y) (x ∷ xs) ≡ true) xs (λ y there. or_right (is_link_id y x) _ there) (each_there xs),
)

both-each : (P Q : LinkId → Type 0) (xs : List LinkId) → Each P xs → Each Q xs → Each (λ x. P x × Q x) xs
both-each P Q [] one other = tt
both-each P Q (x ∷ xs) one other = ((one.0, other.0), both-each P Q xs one.1 other.1)

-- a free link that isn't idle is at work
at_work : (keyed vacant online works : Bool) → (keyed && ((vacant && online) && not works)) ≡ false → (keyed && (vacant && online)) ≡ true
    → (keyed && (vacant && works)) ≡ true
at_work true true true true none is = refl
at_work true true true false none is = isnt none
at_work true true false works none is = isnt (sym is)
at_work true false online works none is = isnt (sym is)
at_work false vacant online works none is = isnt (sym is)

-- an idle link of the hostgroup is of the key
lies_so : (lies idle keyed : Bool) → (keyed && idle) ≡ false → (idle ≡ true → lies ≡ true → keyed ≡ true) → (lies && idle) ≡ false
lies_so true true true none so = isnt none
lies_so true true false none so = sym (so refl refl)
lies_so true false keyed none so = refl
lies_so false idle keyed none so = refl

module _ (terms : Terms) (log : Log) (now : Now) (key : LinkKey) where
  abbrev links : List LinkId
  links = now.tale.links

  abbrev keyed : LinkId → Bool
  keyed link = is_of_key terms now key link

  abbrev waits : ℕ
  waits = waiting terms now key

  abbrev frees : ℕ
  frees = how_many is_free terms log now key

  abbrev opens : ℕ
  opens = how_many is_opening terms log now key

  abbrev steps : ℕ
  steps = how_many is_stepping terms log now key

  abbrev NoneIdle : Type 0
  NoneIdle = Each (λ link. (keyed link && is_idle terms log now link) ≡ false) links

  frees_step : NoneIdle → frees ≤ steps
  frees_step none =
      counts_le (λ link. keyed link && is_free terms log now link) (λ link. keyed link && is_stepping terms log now link) links 0 0 (omega arith)
      (each-so (λ link. (keyed link && is_idle terms log now link) ≡ false)
      (λ link. (keyed link && is_free terms log now link) ≡ true → (keyed link && is_stepping terms log now link) ≡ true) links
      (λ link idle is. at_work (keyed link) (is_vacant terms log now link) (is_online now (wire_now now link).server) (is_at_work terms log now link) idle is) none)

  no_place : NoneIdle → has_room_in terms.router log now key.hostgroup ≡ false
      → ((link : LinkId) → is_to_server now.tale link ≡ true → is_idle terms log now link ≡ true → is_in terms.router (wire_now now link).server key.hostgroup ≡ true → keyed link ≡ true)
      → has_place terms log now key.hostgroup ≡ false
  no_place none full lies =
      ap (λ b. b || has_room_in terms.router log now key.hostgroup)
      (any_none (λ link. is_in terms.router (wire_now now link).server key.hostgroup && is_idle terms log now link) links
      (each-so (λ link. ((keyed link && is_idle terms log now link) ≡ false) × (is_to_server now.tale link ≡ true))
      (λ link. (is_in terms.router (wire_now now link).server key.hostgroup && is_idle terms log now link) ≡ false) links
      (λ link facts. lies_so (is_in terms.router (wire_now now link).server key.hostgroup) (is_idle terms log now link) (keyed link) facts.0 (lies link facts.1))
      (both-each (λ link. (keyed link && is_idle terms log now link) ≡ false) (λ link. is_to_server now.tale link ≡ true) links none (each_there links))))
      ∙ full

  pub shared_so : HasEnough terms log now key → (0 < how_many is_idle terms log now key → waits ≤ steps) → IsShared terms log now key
  shared_so enough idle = record { idle = idle; enough = by_idle (how_many is_idle terms log now key) refl } where
    by_idle : (n : ℕ) → how_many is_idle terms log now key ≡ n → (waits ≤ opens + steps) ⊎ (has_place terms log now key.hostgroup ≡ false)
    by_idle (suc n) is = inl (let served : waits ≤ steps = idle (omega (arith, is)) in omega (arith, served))
    by_idle zero is =
        let none : NoneIdle = none_counted (λ link. keyed link && is_idle terms log now link) links 0 (omega (arith, is)) in
        elim enough [
          | inl few ↦ inl (let less : frees ≤ steps = frees_step none in let some : waits ≤ frees + opens = few in omega (arith, less, some))
          | inr full ↦ inr (no_place none full.0 full.1)
        ]
