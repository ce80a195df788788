-- What no log has that keeps the promises, of what is dropped, kept or waited for.
use Rattle.std.specs.Prelude.{◌≡◌, ◌⊎◌, ℕ, ◌<◌, ◌≤◌, Bool, true, false, not, ◌||◌, min, nat_eq, nat_lt, filter, fold, if◌then◌else◌, List, [], ◌∷◌, ◌++◌, length, slice_index_or, Option, Some, None, refl, zero, suc}
use Rattle.std.specs.List.{list_any}
use Rattle.std.specs.Option.{option_map_or}
use Rattle.std.proofs.Common.{subst, sym, ap, ◌∙◌, arith}
use Rattle.std.proofs.lemmas.Bool.{and_parts}
use Rattle.packet_frame.specs.PacketLaws.{nat_eq-true}
use Rattle.mx_base.specs.declared.names.LinkId.{LinkId}
use Rattle.mx_wire.specs.Log.{Log}
use Rattle.mx_wire.specs.declared.entry.Entry.{Entry}
use Rattle.private_model.specs.Names.{SessionName}
use Rattle.private_model.specs.Story.{is_name}
use Rattle.private_model.specs.View.{Carried, Joined, present}
use Rattle.log_story.specs.Plan.{LastWord, WordPlace}
use Rattle.log_story.specs.Tale.{Client}
use Rattle.router_promises.specs.Closes.{Amiss, Idle, Leaving, HasCause, MakesRoom, MayDrop, MayQuit, Needless, PastReset, Refused, Spoilt, Starved, WasTold, is_joined, is_past_reset_by, is_spoilt, is_starved_by, was_amiss, was_starved}
use Rattle.router_promises.specs.Ends.{EndsBy, EndsRight, IsLastWord, Left, NoMemory, TooMuch, TurnedAway, WordFor, WordRight, is_accepted, is_at, is_left, is_too_much, may_end, must_end}
use Rattle.router_promises.specs.Now.{Now, entry_now, link_now, next, now_at, view_now, while_ending, wire_now}
use Rattle.router_promises.specs.Terms.{Terms, plan_in, setup_in}
use Rattle.router_promises.specs.Wakes.{lacks_an_event, moments, wakes_at}
use Rattle.router_promises.proofs.Refusals.{at-index, never}
use Rattle.router_promises.specs.Keys.{is_nobodys}

-- A link on which a session goes on.

joined-kept : (terms : Terms) (log : Log) (now : Now) (link : LinkId) (n : SessionName)
    → (link_now (setup_in terms) now link).carries ≡ Joined n → is_nobodys (link_now (setup_in terms) now link).carries ≡ true → ⊥
joined-kept terms log now link n carries nobodys = never (sym nobodys ∙ ap is_nobodys carries)

past-reset : (terms : Terms) (now : Now) (link : LinkId) (n : SessionName) (carried : Carried) → carried ≡ Joined n
    → is_name n (present (view_now (setup_in terms) now) n.client n.hostgroup) ≡ true → is_past_reset_by (setup_in terms) now link carried ≡ true → ⊥
past-reset terms now link n carried carries here past =
    let left : is_past_reset_by (setup_in terms) now link (Joined n) ≡ true = subst (λ (c : Carried). is_past_reset_by (setup_in terms) now link c ≡ true) carries past in
    never (sym (and_parts _ _ left).0 ∙ ap not here)

session-quit : (terms : Terms) (log : Log) (now : Now) (link : LinkId) (n : SessionName) → (link_now (setup_in terms) now link).carries ≡ Joined n
    → is_name n (present (view_now (setup_in terms) now) n.client n.hostgroup) ≡ true → is_spoilt terms log now link ≡ false
    → was_amiss (setup_in terms) link now.tale.story ≡ false → list_any (is_starved_by terms log now link) now.tale.clients ≡ false
    → MayQuit terms log now link → ⊥
session-quit terms log now link n carries here sound right fed (Spoilt is) = never (sym is ∙ sound)
session-quit terms log now link n carries here sound right fed (Amiss is) = never (sym is ∙ right)
session-quit terms log now link n carries here sound right fed (Refused is unjoined) = never (sym (ap is_joined carries) ∙ unjoined)
session-quit terms log now link n carries here sound right fed (PastReset is) = past-reset terms now link n (link_now (setup_in terms) now link).carries carries here is
session-quit terms log now link n carries here sound right fed (Leaving unlent is) = joined-kept terms log now link n carries (and_parts _ _ unlent).1
session-quit terms log now link n carries here sound right fed (Idle unlent old) = joined-kept terms log now link n carries (and_parts _ _ unlent).1
session-quit terms log now link n carries here sound right fed (MakesRoom unlent is full) = joined-kept terms log now link n carries (and_parts _ _ unlent).1
session-quit terms log now link n carries here sound right fed (Starved is) = never (sym is ∙ fed)
session-quit terms log now link n carries here sound right fed (Needless is nobodys needless) = joined-kept terms log now link n carries nobodys

pub session-dropped : (terms : Terms) (log : Log) (now : Now) (link : LinkId) (n : SessionName) → (wire_now now link).quits ≡ false
    → (link_now (setup_in terms) now link).carries ≡ Joined n
    → is_name n (present (view_now (setup_in terms) now) n.client n.hostgroup) ≡ true → is_spoilt terms log now link ≡ false
    → was_amiss (setup_in terms) link now.tale.story ≡ false → list_any (is_starved_by terms log now link) now.tale.clients ≡ false
    → MayDrop terms log now link → ⊥
session-dropped terms log now link n untold carries here sound right fed (WasTold is) = never (sym is ∙ untold)
session-dropped terms log now link n untold carries here sound right fed (HasCause why) = session-quit terms log now link n carries here sound right fed why

-- A client that is ended.

word-why : (terms : Terms) (log : Log) (now ending : Now) (e : Entry) (client : Client) (place : WordPlace) (payloads : List (List ℕ)) → WordFor terms log now ending e client place payloads
    → is_accepted e client ≡ false → is_left terms ending client ≡ false → is_at (setup_in terms) now e client ≡ false → is_too_much terms ending client ≡ false → ⊥
word-why terms log now ending e client _ _ (TurnedAway comes away) known served far few = never (sym comes ∙ known)
word-why terms log now ending e client _ _ (NoMemory place behind at) known served far few = never (sym at ∙ far)
word-why terms log now ending e client _ _ (Left is) known served far few = never (sym is ∙ served)
word-why terms log now ending e client _ _ (TooMuch place behind much) known served far few = never (sym much ∙ few)

pub client-parted : (terms : Terms) (before : Log) (e : Entry) (k : ℕ) (client : Client) → EndsBy terms before (now_at terms before) (next terms (now_at terms before) e) e
    → k < length (next terms (now_at terms before) e).tale.clients → slice_index_or (next terms (now_at terms before) e).tale.clients k client ≡ client
    → (plan_in terms).ends client.number ≡ Some (entry_now (now_at terms before))
    → must_end terms (before ++ e ∷ []) (now_at terms before) (while_ending terms (now_at terms before) e) e client ≡ false
    → is_accepted e client ≡ false → was_starved terms (entry_now (now_at terms before)) client ≡ false → is_left terms (while_ending terms (now_at terms before) e) client ≡ false
    → is_at (setup_in terms) (now_at terms before) e client ≡ false → is_too_much terms (while_ending terms (now_at terms before) e) client ≡ false → ⊥
client-parted terms before e k client ends within is ended needless known fed served far few = by ((plan_in terms).words client.number) refl where
  now : Now
  now = now_at terms before

  may : (must_end terms (before ++ e ∷ []) now (while_ending terms now e) e client || may_end terms now e client) ≡ true
  may =
      let right : EndsRight terms (before ++ e ∷ []) now (next terms now e) e client =
      at-index (EndsRight terms (before ++ e ∷ []) now (next terms now e) e) (next terms now e).tale.clients k client ends.ends within is in
      right.may ended

  or-so : (a b c f : Bool) → a ≡ false → b ≡ false → c ≡ false → (a || (b || (c || f))) ≡ true → f ≡ true
  or-so true b c f x y z so = never x
  or-so false true c f x y z so = never y
  or-so false false true f x y z so = never z
  or-so false false false f x y z so = so

  word : option_map_or (λ (w : LastWord). nat_eq w.from (entry_now now)) ((plan_in terms).words client.number) false ≡ true
  word = or-so _ _ _ _ needless known fed may

  by : (last : Option LastWord) → (plan_in terms).words client.number ≡ last → ⊥
  by None none = never (sym (subst (λ (l : Option LastWord). option_map_or (λ (w : LastWord). nat_eq w.from (entry_now now)) l false ≡ true) none word))
  by (Some w) some =
      let from : nat_eq w.from (entry_now now) ≡ true = subst (λ (l : Option LastWord). option_map_or (λ (w : LastWord). nat_eq w.from (entry_now now)) l false ≡ true) some word in
      let said : WordRight terms (before ++ e ∷ []) now (next terms now e) e client =
      at-index (WordRight terms (before ++ e ∷ []) now (next terms now e) e) (next terms now e).tale.clients k client ends.words within is in
      let right : IsLastWord terms (before ++ e ∷ []) now e client w = said.may w some (nat_eq-true w.from (entry_now now) from) in
      word-why terms (before ++ e ∷ []) now (while_ending terms now e) e client w.place w.payloads right.why known served far few

-- The moment at which the loop wakes.

min-le : (start : ℕ) (xs : List ℕ) → fold min start xs ≤ start
min-le start [] = omega arith
min-le start (x ∷ xs) = (let less = min-le (min start x) xs in grind arith)

min-each : (start : ℕ) (xs : List ℕ) (k : ℕ) → k < length xs → fold min start xs ≤ slice_index_or xs k 0
min-each start [] k within = absurd (omega (arith, within))
min-each start (x ∷ xs) zero within = (let less = min-le (min start x) xs in grind arith)
min-each start (x ∷ xs) (suc k) within = min-each (min start x) xs k (omega (arith, within))

min-above : (c start : ℕ) (xs : List ℕ) → c < start → c < fold min start (filter (nat_lt c) xs)
min-above c start [] above = above
min-above c start (x ∷ xs) above = by (nat_lt c x) refl (λ k more. min-above c k xs more) where
  by : (b : Bool) → nat_lt c x ≡ b → ((k : ℕ) → c < k → c < fold min k (filter (nat_lt c) xs)) → c < fold min start (if b then x ∷ filter (nat_lt c) xs else filter (nat_lt c) xs)
  by true is rest = rest (min start x) (grind arith)
  by false is rest = rest start above

pub slept-long : (terms : Terms) (log : Log) (now : Now) (until_ms k : ℕ) → until_ms ≡ wakes_at terms log now → k < length (moments terms log now)
    → slice_index_or (moments terms log now) k 0 < until_ms → ⊥
slept-long terms log now until_ms k is within early =
    let most = min-each 18446744073709551615 (moments terms log now) k within in
    omega (arith, is, most, early)

pub woke-early : (terms : Terms) (log : Log) (now : Now) (until_ms : ℕ) → until_ms ≡ wakes_at terms log now
    → list_any (lacks_an_event terms now) now.tale.clients ≡ false → now.clock < 18446744073709551615 → until_ms ≤ now.clock → ⊥
woke-early terms log now until_ms is none young early =
    let above : now.clock < wakes_at terms log now = rw none (min-above now.clock 18446744073709551615 _ young) in
    omega (arith, is, above, early)
