-- Last words are of clients that are ended, and what was decided of ends and words stays until clients are ended.
use Rattle.std.specs.Prelude.{◌≡◌, ◌⊎◌, ℕ, zero, suc, Bool, true, false, ◌&&◌, ◌||◌, find, fold, length, if◌then◌else◌, List, [], ◌∷◌, Option, Some, None}
use Rattle.std.specs.List.{list_any}
use Rattle.std.specs.Option.{option_and_then, option_map_or, option_or}
use Rattle.std.proofs.Common.{refl, sym, ap, ◌∙◌, inl, inr}
use Rattle.std.proofs.lemmas.Bool.{and_from, and_parts, or_left, or_right}
use Rattle.mx_base.specs.declared.names.LinkId.{LinkId}
use Rattle.mx_wire.specs.Log.{Log}
use Rattle.mx_wire.specs.declared.entry.Entry.{Entry}
use Rattle.mx_wire.specs.declared.entry.Entry.TheVariants as entry
use Rattle.packet_frame.specs.Packets.{Framed}
use Rattle.private_model.specs.Names.{ClientNo}
use Rattle.private_model.specs.Story.{is_client}
use Rattle.private_model.specs.View.{Setup, View}
use Rattle.log_story.specs.Owed.{messages}
use Rattle.log_story.specs.Plan.{LastWord, is_before}
use Rattle.log_story.specs.Servers.{may_begin}
use Rattle.log_story.specs.Tale.{Client, Tale, is_to_server, view_of}
use Rattle.tale_world.specs.Decided.{Decided, plan_of}
use Rattle.tale_world.specs.Deciding.{Deciding, World}
use Rattle.tale_world.specs.World.{are_taken, decided_last, decided_looked, decided_next, decided_told, ended_now, freed_there, goes_on, is_called, is_counted, is_ended, is_told, is_up, next_message, next_of, taken_once, with_route, with_step, with_taken, world_step}
use Rattle.router_promises.specs.Ends.{buffers_word, is_accepted}
use Rattle.router_promises.specs.Errors.{out_of_memory}
use Rattle.router_promises.specs.Terms.{plan_in}
use Rattle.shared_router.specs.Ends.{Ending, away_word, client_at, ending_of, ends_by, goes, has_too_much, is_refused_now, is_starved, is_turned_away, left_word, may_say_starved, must_go, says_last, was_left, was_told_starved, word_to, words_by}
use Rattle.shared_router.specs.Fixed.{Fixed, setup_of}
use Rattle.shared_router.specs.Judged.{heard}
use Rattle.shared_router.specs.More.{More}
use Rattle.shared_router.specs.Shared.{shared, world_at}
use Rattle.shared_router.proofs.Looked.{Has}
use Rattle.shared_router.proofs.Parting as parting
use Rattle.shared_router.proofs.Parting.{next}
use Rattle.shared_router.proofs.Since.{going-on}

-- Who is told a last word goes.

none-said : {A : Type 0} (word : LastWord) → None ≡ Some word → A
none-said word is = absurd (cc)

pub turned-goes : (x : Ending) (client : Client) → is_turned_away x client ≡ true → must_go x client ≡ true
turned-goes x client is = or_right _ _ (or_left _ _ is)

pub starved-goes : (x : Ending) (client : Client) → (is_refused_now x client && may_say_starved x client) ≡ true → is_starved x client ≡ true
starved-goes x client is =
    let parts = and_parts (is_refused_now x client) (may_say_starved x client) is in
    and_from (is_refused_now x client) _ parts.0
    (or_right (is_accepted x.e client) _ (or_right (was_told_starved x client) _ (or_right (was_left x client) (may_say_starved x client) parts.1)))

pub left-goes : (x : Ending) (client : Client) → (is_refused_now x client && was_left x client) ≡ true → is_starved x client ≡ true
left-goes x client is =
    let parts = and_parts (is_refused_now x client) (was_left x client) is in
    and_from (is_refused_now x client) _ parts.0
    (or_right (is_accepted x.e client) _ (or_right (was_told_starved x client) _ (or_left (was_left x client) (may_say_starved x client) parts.1)))

pub word-goes : (x : Ending) (client : Client) (word : LastWord) → word_to x client ≡ Some word → goes x client ≡ true
word-goes x client word is =
    by_tests (is_refused_now x client && was_left x client) (is_turned_away x client) (must_go x client) (has_too_much x client) (is_refused_now x client && may_say_starved x client) refl refl refl refl refl is
  where
    by_tests : (left away must much starved : Bool) → (is_refused_now x client && was_left x client) ≡ left → is_turned_away x client ≡ away → must_go x client ≡ must
        → has_too_much x client ≡ much → (is_refused_now x client && may_say_starved x client) ≡ starved
        → (if left then Some (left_word x) else if away then Some (away_word x) else if must then None
        else if much then Some (says_last x client (buffers_word x.terms x.ending client)) else if starved then Some (says_last x client out_of_memory) else None) ≡ Some word
        → (must_go x client || (has_too_much x client || is_starved x client)) ≡ true
    by_tests true away must much starved l a m h s so = or_right _ _ (or_right _ _ (left-goes x client l))
    by_tests false true must much starved l a m h s so = or_left _ _ (turned-goes x client a)
    by_tests false false true much starved l a m h s so = none-said word so
    by_tests false false false true starved l a m h s so = or_right _ _ (or_left _ _ h)
    by_tests false false false false true l a m h s so = or_right _ _ (or_right _ _ (starved-goes x client s))
    by_tests false false false false false l a m h s so = none-said word so

find-any : {A : Type 0} (p g : A → Bool) (xs : List A) (x : A) → find p xs ≡ Some x → g x ≡ true → list_any (λ y. p y && g y) xs ≡ true
find-any p g [] x is holds = absurd (cc)
find-any p g (y ∷ xs) x is holds = by_test (p y) is (find-any p g xs x) where
  by_test : (b : Bool) → (if b then Some y else find p xs) ≡ Some x → (find p xs ≡ Some x → g x ≡ true → list_any (λ z. p z && g z) xs ≡ true)
      → ((b && g y) || list_any (λ z. p z && g z) xs) ≡ true
  by_test true same later = (let at : y ≡ x = cc in or_left _ _ (ap g at ∙ holds))
  by_test false same later = later same holds

found-goes : (x : Ending) (c : ClientNo) (word : LastWord) → words_by x c ≡ Some word → ends_by x c ≡ true
found-goes x c word is = by_test (is_before x.ending.tale.moment ((plan_in x.terms).ends c)) is where
  by_client : (found : Option Client) → client_at x c ≡ found → option_and_then (word_to x) found ≡ Some word → ends_by x c ≡ true
  by_client None at so = none-said word so
  by_client (Some client) at so =
      find-any (λ (client : Client). is_client client.number c) (goes x) x.ending.tale.clients client at (word-goes x client word so)

  by_test : (b : Bool) → (if b then None else option_and_then (word_to x) (client_at x c)) ≡ Some word → ends_by x c ≡ true
  by_test true so = none-said word so
  by_test false so = by_client (client_at x c) refl so

-- Ends and words stay until clients are ended.

pub record SameEnds (old new : Decided) : Type 0 where
  pub ends : new.ends ≡ old.ends
  pub words : new.words ≡ old.words

same-refl : (d : Decided) → SameEnds d d
same-refl d = record { ends = refl; words = refl }

same-on : (a b c : Decided) → SameEnds a b → SameEnds b c → SameEnds a c
same-on a b c one two = record { ends = two.ends ∙ one.ends; words = two.words ∙ one.words }

either-same : (d x y : Decided) (b : Bool) → SameEnds d x → SameEnds d y → SameEnds d (if b then x else y)
either-same d x y true one other = one
either-same d x y false one other = other

module _ (fixed : Fixed) where
  abbrev setup : Setup
  setup = setup_of fixed

  abbrev by : Deciding More
  by = shared fixed

  told-same-ends : (w : World More) (e : Entry) → SameEnds w.decided (decided_told setup by w e)
  told-same-ends w (entry.Wrote link for bytes) =
      either-same w.decided (with_step by w link for bytes) w.decided (is_to_server w.tale link && may_begin setup link (w.tale.wires link) w.tale)
      (record { ends = refl; words = refl }) (same-refl w.decided)
  told-same-ends w (entry.Opened server address link) = record { ends = refl; words = refl }
  told-same-ends w (entry.Got link bytes) = record { ends = refl; words = refl }
  told-same-ends w _ = same-refl w.decided

  freeing-same-ends : (xs : List LinkId) (w : World More) → SameEnds w.decided (fold (freed_there setup by) w xs).decided
  freeing-same-ends [] w = same-refl w.decided
  freeing-same-ends (x ∷ xs) w = same-on w.decided (freed_there setup by w x).decided _ (record { ends = refl; words = refl }) (freeing-same-ends xs (freed_there setup by w x))

  route-same-ends : (w : World More) (client : Client) (d : Decided) (found : Option Framed) → SameEnds d (with_route by w client d found)
  route-same-ends w client d None = same-refl d
  route-same-ends w client d (Some message) = record { ends = refl; words = refl }

  next-same-ends : (w : World More) (client : Client) → SameEnds w.decided (decided_next setup by w client)
  next-same-ends w client =
      let d : Decided = decided_looked setup by w client in
      same-on w.decided d (decided_next setup by w client) (record { ends = refl; words = refl })
      (either-same d (with_route by w client d (next_message d client)) d (is_up setup d w.tale client) (route-same-ends w client d (next_message d client)) (same-refl d))

  taking-same-ends : (most : ℕ) (client : Client) (w : World More) → SameEnds w.decided (are_taken most setup by client w).decided
  taking-same-ends zero client w = same-refl w.decided
  taking-same-ends (suc most) client w = by_found (taken_once setup by w client) (taking-same-ends most (next_of client)) where
    by_found : (found : Option Tale) → ((v : World More) → SameEnds v.decided (are_taken most setup by (next_of client) v).decided)
        → SameEnds w.decided (option_map_or (λ tale. are_taken most setup by (next_of client) (with_taken setup by w client tale)) found (record w { decided = decided_next setup by w client })).decided
    by_found None later = next-same-ends w client
    by_found (Some tale) later = same-on w.decided (decided_next setup by w client) _ (next-same-ends w client) (later (with_taken setup by w client tale))

  goes-same-ends : (view : View) (e : Entry) (w : World More) (client : Client) → SameEnds w.decided (goes_on setup by view e w client).decided
  goes-same-ends view e w client = by_test (is_called (decided_last by w client) w.tale.moment view e client) where
    v : World More
    v = record w { decided = decided_last by w client }

    by_test : (b : Bool) → SameEnds w.decided (if b then are_taken (length (messages (plan_of v.decided) client)) setup by client v else v).decided
    by_test true = same-on w.decided v.decided _ (record { ends = refl; words = refl }) (taking-same-ends (length (messages (plan_of v.decided) client)) client v)
    by_test false = record { ends = refl; words = refl }

  all-same-ends : (view : View) (e : Entry) (xs : List Client) (w : World More) → SameEnds w.decided (fold (goes_on setup by view e) w xs).decided
  all-same-ends view e [] w = same-refl w.decided
  all-same-ends view e (x ∷ xs) w = same-on w.decided (goes_on setup by view e w x).decided _ (goes-same-ends view e w x) (all-same-ends view e xs (goes_on setup by view e w x))

  pub going-same-ends : (w : World More) (e : Entry) → SameEnds w.decided (going-on fixed w e).decided
  going-same-ends w e =
      let a : World More = is_told setup by w e in
      let b : World More = is_counted by a e in
      let c : World More = heard fixed w e in
      same-on w.decided c.decided _ (same-on w.decided b.decided c.decided
      (same-on w.decided a.decided b.decided (told-same-ends w e) (record { ends = refl; words = refl })) (freeing-same-ends b.tale.links b))
      (all-same-ends (view_of setup w.tale) e c.tale.clients c)

  pub ended-same-ends : (w : World More) (e : Entry) → SameEnds (is_ended by (going-on fixed w e) e).decided (world_step setup by w e).decided
  ended-same-ends w e = freeing-same-ends (is_ended by (going-on fixed w e) e).tale.links (is_ended by (going-on fixed w e) e)

  -- who has a last word is ended

  abbrev pub AreParted : Decided → Type 0
  AreParted d = (c : ClientNo) (word : LastWord) → d.words c ≡ Some word → Has (d.ends c)

  ended-has : (moment : ℕ) (ends : Bool) (old : Option ℕ) → (ends ≡ true) ⊎ Has old → Has (ended_now moment ends old)
  ended-has moment true None why = (moment, refl)
  ended-has moment true (Some n) why = (n, refl)
  ended-has moment false (Some n) why = (n, refl)
  ended-has moment false None why = elim why [ inl is ↦ absurd (cc (is)) | inr has ↦ absurd (cc (has.1)) ]

  pub said-by : (old new : Option LastWord) (word : LastWord) → option_or old new ≡ Some word → (old ≡ Some word) ⊎ (new ≡ Some word)
  said-by None new word is = inr is
  said-by (Some other) new word is = inl is

  step-parts : (w : World More) (e : Entry) → AreParted w.decided → AreParted (world_step setup by w e).decided
  step-parts w e parted c word is =
      let d : World More = going-on fixed w e in
      let kept = going-same-ends w e in
      let rest = ended-same-ends w e in
      let was : Has (w.decided.ends c) → Has (d.decided.ends c) = λ (has : Has (w.decided.ends c)). (has.0, ap (λ f. f c) kept.ends ∙ has.1) in
      let ended : Has (ended_now d.tale.moment (by.ends d e c) (d.decided.ends c)) =
      ended-has d.tale.moment (by.ends d e c) (d.decided.ends c) (elim (said-by (d.decided.words c) (by.words d e c) word (ap (λ f. f c) (sym rest.words) ∙ is)) [
        | inl old ↦ inr (was (parted c word (ap (λ f. f c) (sym kept.words) ∙ old)))
        | inr new ↦ inl (found-goes (ending_of fixed d e) c word new)
      ]) in
      (ended.0, ap (λ f. f c) rest.ends ∙ ended.1)

  log-parts : (log : Log) (w : World More) → AreParted w.decided → AreParted (fold (next fixed) w log).decided
  log-parts [] w parted = parted
  log-parts (e ∷ log) w parted = log-parts log (next fixed w e) (step-parts w e parted)

  pub parted_at : (log : Log) → AreParted (world_at fixed log).decided
  parted_at log = log-parts log (parting.first fixed) (λ c word is. none-said word is)
