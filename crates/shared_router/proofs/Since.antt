-- What was decided since: answers of the router, ends of clients and last words, each from the entry at which it was decided.
use Rattle.std.specs.Prelude.{◌≡◌, ◌+◌, ◌≤◌, ◌⊎◌, ℕ, zero, suc, Bool, true, false, ◌&&◌, fold, length, if◌then◌else◌, unwrap_or, List, [], ◌∷◌, Option, Some, None}
use Rattle.std.specs.Option.{option_and_then, option_map_or, option_or}
use Rattle.std.proofs.Common.{refl, sym, ap, ◌∙◌, subst, arith, inl, inr}
use Rattle.mx_base.specs.declared.names.LinkId.{LinkId}
use Rattle.mx_base.specs.declared.tag.Tag.{Tag}
use Rattle.mx_wire.specs.Log.{Log}
use Rattle.mx_wire.specs.declared.entry.Entry.{Entry}
use Rattle.mx_wire.specs.declared.entry.Entry.TheVariants as entry
use Rattle.packet_frame.specs.Packets.{Framed}
use Rattle.private_model.specs.Names.{ClientNo, MessageName}
use Rattle.private_model.specs.Story.{is_message}
use Rattle.private_model.specs.View.{Setup, View}
use Rattle.log_story.specs.Owed.{messages, name_of}
use Rattle.log_story.specs.Plan.{LastWord, OwnAnswer, is_before}
use Rattle.log_story.specs.Servers.{may_begin}
use Rattle.log_story.specs.Tale.{Client, Tale, is_to_server, link_in, view_of}
use Rattle.tale_world.specs.Decided.{Decided, filled, plan_of}
use Rattle.tale_world.specs.Deciding.{Deciding, World}
use Rattle.tale_world.specs.World.{are_taken, decided_by_now, decided_ends, decided_last, decided_looked, decided_next, decided_told, ended_now, freed_there, given_up, go_on, goes_on}
use Rattle.tale_world.specs.World.{is_asked, is_called, is_counted, is_ended, is_taken_of, is_told, is_up, looked_at, looked_for, next_message, next_of, tagged, taken_once, with_login, with_route, with_step, with_taken, world_step}
use Rattle.tale_world.proofs.Following.{are_freed_follows, go_on_follows, going_even, step_even, told-more}
use Rattle.tale_world.proofs.Telling.{ends_moment, told_moment}
use Rattle.router_promises.specs.Ends.{buffers_word}
use Rattle.router_promises.specs.Errors.{out_of_memory}
use Rattle.router_promises.specs.Now.{Now, entry_now}
use Rattle.router_promises.specs.Terms.{plan_in}
use Rattle.router_promises.specs.Verdicts.{Goes, Parts, Tells, Verdict}
use Rattle.shared_router.specs.Ends.{Ending, away_word, client_at, ending_of, has_too_much, is_refused_now, is_turned_away, left_word, may_say_starved, must_go, says_last, was_left, word_to, words_by}
use Rattle.shared_router.specs.Fixed.{Fixed, setup_of}
use Rattle.shared_router.specs.Judged.{heard}
use Rattle.shared_router.specs.More.{More, now_of}
use Rattle.shared_router.specs.Shared.{answer_by, judged_by, shared, starves_now, told_by}
use Rattle.shared_router.proofs.Parting.{next}
use Rattle.shared_router.proofs.Staying.{all_stay, freeing_stays}

-- from an entry on, and until one; an answer also from the beginning on, as its message is taken up

abbrev pub IsWithin : (from until n : ℕ) → Type 0
IsWithin from until n = (from ≤ n) × (n ≤ until)

pub record Since (from until : ℕ) (old new : Decided) : Type 0 where
  pub own : (m : MessageName) (answer : OwnAnswer) → new.own m ≡ Some (Some answer)
      → (old.own m ≡ Some (Some answer)) ⊎ ((answer.from ≡ 0) ⊎ IsWithin from until answer.from)
  pub ends : (c : ClientNo) (at : ℕ) → new.ends c ≡ Some at → (old.ends c ≡ Some at) ⊎ IsWithin from until at
  pub words : (c : ClientNo) (word : LastWord) → new.words c ≡ Some word → (old.words c ≡ Some word) ⊎ IsWithin from until word.from
  pub ended : (c : ClientNo) (at : ℕ) → old.ends c ≡ Some at → new.ends c ≡ Some at
  pub said : (c : ClientNo) (word : LastWord) → old.words c ≡ Some word → new.words c ≡ Some word

pub since-itself : (from until : ℕ) (d : Decided) → Since from until d d
since-itself from until d = record {
  own = λ m answer is. inl is;
  ends = λ c at is. inl is;
  words = λ c word is. inl is;
  ended = λ c at is. is;
  said = λ c word is. is;
}

within-wider : (from until start end n : ℕ) → start ≤ from → until ≤ end → IsWithin from until n → IsWithin start end n
within-wider from until start end n first last within = (omega (arith, within.0, first), omega (arith, within.1, last))

pub since-wider : (from until start end : ℕ) (old new : Decided) → start ≤ from → until ≤ end → Since from until old new → Since start end old new
since-wider from until start end old new first last since = record {
  own = λ m answer is. elim (since.own m answer is) [
    | inl was ↦ inl was
    | inr rest ↦ elim rest [ inl first_on ↦ inr (inl first_on) | inr within ↦ inr (inr (within-wider from until start end answer.from first last within)) ]
  ];
  ends = λ c at is. elim (since.ends c at is) [ inl was ↦ inl was | inr within ↦ inr (within-wider from until start end at first last within) ];
  words = λ c word is. elim (since.words c word is) [ inl was ↦ inl was | inr within ↦ inr (within-wider from until start end word.from first last within) ];
  ended = since.ended;
  said = since.said;
}

pub since-on : (from until : ℕ) (a b c : Decided) → Since from until a b → Since from until b c → Since from until a c
since-on from until a b c one two = record {
  own = λ m answer is. elim (two.own m answer is) [ inl was ↦ one.own m answer was | inr new ↦ inr new ];
  ends = λ k at is. elim (two.ends k at is) [ inl was ↦ one.ends k at was | inr new ↦ inr new ];
  words = λ k word is. elim (two.words k word is) [ inl was ↦ one.words k word was | inr new ↦ inr new ];
  ended = λ k at is. two.ended k at (one.ended k at is);
  said = λ k word is. two.said k word (one.said k word is);
}

-- What is put into a table of answers: none, or those of messages that are taken up.

filled-own : {K A : Type 0} (which : K → Bool) (value : K → A) (f : K → Option A) (k : K) (x : A) → filled which value f k ≡ Some x → (f k ≡ Some x) ⊎ (value k ≡ x)
filled-own {A = A} which value f k x is = by_test (which k) (f k) refl is where
  by_test : (b : Bool) (o : Option A) → f k ≡ o → (if b then Some (unwrap_or o (value k)) else o) ≡ Some x → (f k ≡ Some x) ⊎ (value k ≡ x)
  by_test true (Some v) at is = inl (at ∙ is)
  by_test true None at is = inr (cc)
  by_test false o at is = inl (at ∙ is)

own-only : (from until : ℕ) (d : Decided) (which : MessageName → Bool) (value : MessageName → Option OwnAnswer)
    → ((m : MessageName) (answer : OwnAnswer) → value m ≡ Some answer → answer.from ≡ 0) → Since from until d (record d { own = filled which value d.own })
own-only from until d which value at_once = record {
  own = λ m answer is. elim (filled-own which value d.own m (Some answer) is) [
    | inl was ↦ inl was
    | inr new ↦ inr (inl (at_once m answer new))
  ];
  ends = λ c at is. inl is;
  words = λ c word is. inl is;
  ended = λ c at is. is;
  said = λ c word is. is;
}

-- the same answers, ends and words
same-tables : (from until : ℕ) (d e : Decided) → e.own ≡ d.own → e.ends ≡ d.ends → e.words ≡ d.words → Since from until d e
same-tables from until d e own ends words = record {
  own = λ m answer is. inl (ap (λ f. f m) (sym own) ∙ is);
  ends = λ c at is. inl (ap (λ f. f c) (sym ends) ∙ is);
  words = λ c word is. inl (ap (λ f. f c) (sym words) ∙ is);
  ended = λ c at is. ap (λ f. f c) ends ∙ is;
  said = λ c word is. ap (λ f. f c) words ∙ is;
}

no_answer : (answer : OwnAnswer) → None ≡ Some answer → answer.from ≡ 0
no_answer answer is = absurd (cc)

either-since : (from until : ℕ) (d x y : Decided) (b : Bool) → Since from until d x → Since from until d y → Since from until d (if b then x else y)
either-since from until d x y true first second = first
either-since from until d x y false first second = second

given-since : (moment : ℕ) (payloads : Option (List (List ℕ))) (own : Option (Option OwnAnswer)) (answer : OwnAnswer) → given_up moment payloads own ≡ Some (Some answer)
    → (own ≡ Some (Some answer)) ⊎ ((answer.from ≡ 0) ⊎ IsWithin moment moment answer.from)
given-since moment None own answer is = inl is
given-since moment (Some payloads) (Some (Some other)) answer is = inl is
given-since moment (Some payloads) (Some None) answer is = (let at : moment ≡ answer.from = cc in inr (inr (omega (arith, at), omega (arith, at))))
given-since moment (Some payloads) None answer is = (let at : moment ≡ answer.from = cc in inr (inr (omega (arith, at), omega (arith, at))))

ended-since : (moment : ℕ) (ends : Bool) (old : Option ℕ) (at : ℕ) → ended_now moment ends old ≡ Some at → (old ≡ Some at) ⊎ IsWithin moment moment at
ended-since moment true None at is = (let same : moment ≡ at = cc in inr (omega (arith, same), omega (arith, same)))
ended-since moment true (Some n) at is = inl is
ended-since moment false old at is = inl is

end-stays : (moment : ℕ) (ends : Bool) (at : ℕ) → ended_now moment ends (Some at) ≡ Some at
end-stays moment true at = refl
end-stays moment false at = refl

either-word : (old new : Option LastWord) (word : LastWord) → option_or old new ≡ Some word → (old ≡ Some word) ⊎ (new ≡ Some word)
either-word None new word is = inr is
either-word (Some other) new word is = inl is

module _ (fixed : Fixed) where
  abbrev setup : Setup
  setup = setup_of fixed

  abbrev by : Deciding More
  by = shared fixed

  none-given : (w : World More) (m : MessageName) (answer : OwnAnswer) → by.given w m ≡ Some answer → answer.from ≡ 0
  none-given w m answer is = no_answer answer is

  looked-since : (k : ℕ) (w : World More) (which : MessageName → Bool) → Since k k w.decided (looked_at by w which)
  looked-since k w which = own-only k k w.decided which (by.given w) (none-given w)

  -- An entry is told.

  begun-since : (k : ℕ) (w : World More) (link : LinkId) (for : Tag) (bytes : List ℕ) → Since k k w.decided (with_step by w link for bytes)
  begun-since k w link for bytes =
      let looked : Decided = looked_at by w (is_asked (tagged for)) in
      since-on k k w.decided looked (with_step by w link for bytes) (looked-since k w (is_asked (tagged for)))
      (same-tables k k looked (with_step by w link for bytes) refl refl refl)

  pub told-since : (k : ℕ) (w : World More) (e : Entry) → Since k k w.decided (decided_told setup by w e)
  told-since k w (entry.Opened server address link) = same-tables k k w.decided (with_login by w link) refl refl refl
  told-since k w (entry.Got link bytes) = same-tables k k w.decided (with_login by w link) refl refl refl
  told-since k w (entry.Wrote link for bytes) =
      either-since k k w.decided (with_step by w link for bytes) w.decided (is_to_server w.tale link && may_begin setup link (w.tale.wires link) w.tale)
      (begun-since k w link for bytes) (since-itself k k w.decided)
  told-since k w _ = since-itself k k w.decided

  by-now-since : (w : World More) (e : Entry) → Since (suc w.tale.moment) (suc w.tale.moment) w.decided (decided_by_now by w e)
  by-now-since w e = record {
    own = λ m answer is. given-since (suc w.tale.moment) (by.gives_up w e m) (w.decided.own m) answer is;
    ends = λ c at is. inl is;
    words = λ c word is. inl is;
    ended = λ c at is. is;
    said = λ c word is. is;
  }

  pub freeing-since : (k : ℕ) (xs : List LinkId) (w : World More) → Since k k w.decided (fold (freed_there setup by) w xs).decided
  freeing-since k [] w = since-itself k k w.decided
  freeing-since k (x ∷ xs) w =
      since-on k k _ (freed_there setup by w x).decided _
      (looked-since k w (looked_for (view_of setup w.tale).dues (link_in setup w.tale x).carries)) (freeing-since k xs (freed_there setup by w x))

  -- Messages are taken up.

  told-at-once : (verdict : Verdict) (answer : OwnAnswer) → told_by verdict ≡ Some answer → answer.from ≡ 0
  told-at-once Parts answer is = no_answer answer is
  told-at-once (Tells payloads) answer is = ap (λ (o : Option OwnAnswer). option_map_or (λ (a : OwnAnswer). a.from) o 0) (sym is)
  told-at-once (Goes wanted) answer is = no_answer answer is

  answered-at-once : (w : World More) (client : Client) (message : Framed) (answer : OwnAnswer) → answer_by fixed w client message ≡ Some answer → answer.from ≡ 0
  answered-at-once w client message answer is = by_test (starves_now fixed w client) is where
    by_test : (b : Bool) → (if b then None else told_by (judged_by fixed w client message)) ≡ Some answer → answer.from ≡ 0
    by_test true is = no_answer answer is
    by_test false is = told-at-once (judged_by fixed w client message) answer is

  routed-since : (k : ℕ) (w : World More) (client : Client) (d : Decided) (found : Option Framed) → Since k k d (with_route by w client d found)
  routed-since k w client d None = since-itself k k d
  routed-since k w client d (Some message) =
      let which = λ (m : MessageName). is_message m (name_of client (suc client.taken)) in
      let owned : Decided = record d { own = filled which (λ m. by.answer w client (suc client.taken) message) d.own } in
      since-on k k d owned (with_route by w client d (Some message))
      (own-only k k d which (λ m. by.answer w client (suc client.taken) message) (λ m answer is. answered-at-once w client message answer is))
      (same-tables k k owned (with_route by w client d (Some message)) refl refl refl)

  next-since : (k : ℕ) (w : World More) (client : Client) → Since k k w.decided (decided_next setup by w client)
  next-since k w client =
      let d : Decided = decided_looked setup by w client in
      let owned : Decided = looked_at by w (is_taken_of client) in
      since-on k k w.decided d (decided_next setup by w client)
      (since-on k k w.decided owned d (looked-since k w (is_taken_of client)) (same-tables k k owned d refl refl refl))
      (either-since k k d (with_route by w client d (next_message d client)) d (is_up setup d w.tale client)
      (routed-since k w client d (next_message d client)) (since-itself k k d))

  taking-since : (k most : ℕ) (client : Client) (w : World More) → Since k k w.decided (are_taken most setup by client w).decided
  taking-since k zero client w = since-itself k k w.decided
  taking-since k (suc most) client w = by_found (taken_once setup by w client) (taking-since k most (next_of client)) where
    by_found : (found : Option Tale) → ((v : World More) → Since k k v.decided (are_taken most setup by (next_of client) v).decided)
        → Since k k w.decided (option_map_or (λ tale. are_taken most setup by (next_of client) (with_taken setup by w client tale)) found (record w { decided = decided_next setup by w client })).decided
    by_found None later = next-since k w client
    by_found (Some tale) later =
        since-on k k _ (decided_next setup by w client) _ (next-since k w client) (later (with_taken setup by w client tale))

  going-since : (k : ℕ) (view : View) (e : Entry) (w : World More) (client : Client) → Since k k w.decided (goes_on setup by view e w client).decided
  going-since k view e w client = by_test (is_called (decided_last by w client) w.tale.moment view e client) where
    v : World More
    v = record w { decided = decided_last by w client }

    first : Since k k w.decided v.decided
    first = looked-since k w (λ m. is_message m (name_of client client.taken))

    by_test : (b : Bool) → Since k k w.decided (if b then are_taken (length (messages (plan_of v.decided) client)) setup by client v else v).decided
    by_test true = since-on k k _ v.decided _ first (taking-since k (length (messages (plan_of v.decided) client)) client v)
    by_test false = first

  pub all-since : (k : ℕ) (view : View) (e : Entry) (xs : List Client) (w : World More) → Since k k w.decided (fold (goes_on setup by view e) w xs).decided
  all-since k view e [] w = since-itself k k w.decided
  all-since k view e (x ∷ xs) w = since-on k k _ (goes_on setup by view e w x).decided _ (going-since k view e w x) (all-since k view e xs (goes_on setup by view e w x))

  -- Clients are ended, with their last words.

  if-word : (b : Bool) (x y : Option LastWord) (word : LastWord) → (if b then x else y) ≡ Some word → (x ≡ Some word) ⊎ (y ≡ Some word)
  if-word true x y word is = inl is
  if-word false x y word is = inr is

  one-from : (said word : LastWord) → Some said ≡ Some word → word.from ≡ said.from
  one-from said word is = ap (λ (o : Option LastWord). option_map_or (λ (w : LastWord). w.from) o 0) (sym is)

  no_word : (word : LastWord) (n : ℕ) → None ≡ Some word → word.from ≡ n
  no_word word n is = absurd (cc)

  word-from : (x : Ending) (client : Client) (word : LastWord) → word_to x client ≡ Some word → word.from ≡ entry_now x.now
  word-from x client word is =
      elim (if-word (is_refused_now x client && was_left x client) _ _ word is) [
        | inl left ↦ one-from (left_word x) word left
        | inr here ↦ elim (if-word (is_turned_away x client) _ _ word here) [
          | inl away ↦ one-from (away_word x) word away
          | inr other ↦ elim (if-word (must_go x client) _ _ word other) [
            | inl none ↦ no_word word (entry_now x.now) none
            | inr later ↦ elim (if-word (has_too_much x client) _ _ word later) [
              | inl much ↦ one-from (says_last x client (buffers_word x.terms x.ending client)) word much
              | inr rest ↦ elim (if-word (is_refused_now x client && may_say_starved x client) _ _ word rest) [
                | inl starved ↦ one-from (says_last x client out_of_memory) word starved
                | inr none ↦ no_word word (entry_now x.now) none
              ]
            ]
          ]
        ]
      ]

  found-word : (x : Ending) (found : Option Client) (word : LastWord) → option_and_then (word_to x) found ≡ Some word → word.from ≡ entry_now x.now
  found-word x None word is = no_word word (entry_now x.now) is
  found-word x (Some client) word is = word-from x client word is

  said-from : (x : Ending) (c : ClientNo) (word : LastWord) → words_by x c ≡ Some word → word.from ≡ entry_now x.now
  said-from x c word is = elim (if-word (is_before x.ending.tale.moment ((plan_in x.terms).ends c)) None _ word is) [
    | inl none ↦ no_word word (entry_now x.now) none
    | inr some ↦ found-word x (client_at x c) word some
  ]

  ends-since : (k : ℕ) (w : World More) (e : Entry) → w.tale.moment ≡ k → entry_now w.more.before ≡ k → Since k k w.decided (decided_ends by w e)
  ends-since k w e now before = record {
    own = λ m answer is. inl is;
    ends = λ c at is. subst (λ n. (w.decided.ends c ≡ Some at) ⊎ IsWithin n n at) now (ended-since w.tale.moment (by.ends w e c) (w.decided.ends c) at is);
    words = λ c word is. elim (either-word (w.decided.words c) (by.words w e c) word is) [
      | inl was ↦ inl was
      | inr new ↦ (let at : word.from ≡ k = said-from (ending_of fixed w e) c word new ∙ before in inr (omega (arith, at), omega (arith, at)))
    ];
    ended = λ c at is. ap (ended_now w.tale.moment (by.ends w e c)) is ∙ end-stays w.tale.moment (by.ends w e c) at;
    said = λ c word is. ap (λ o. option_or o (by.words w e c)) is;
  }

  -- Each entry, and each log.

  abbrev pub going-on : World More → Entry → World More
  going-on w e = go_on setup by (view_of setup w.tale) e (heard fixed w e)

  pub heard-since : (w : World More) (e : Entry) → Since (suc w.tale.moment) (suc w.tale.moment) w.decided (heard fixed w e).decided
  heard-since w e =
      let a : World More = is_told setup by w e in
      let b : World More = is_counted by a e in
      let k = suc w.tale.moment in
      let kept : a.tale.moment ≡ w.tale.moment = told_moment setup (plan_of a.decided) w.tale e in
      since-on k k w.decided b.decided _ (since-on k k w.decided a.decided b.decided (told-since k w e)
      (subst (λ n. Since (suc n) (suc n) a.decided b.decided) kept (by-now-since a e))) (freeing-since k b.tale.links b)

  pub going-on-since : (w : World More) (e : Entry) → Since (suc w.tale.moment) (suc w.tale.moment) (heard fixed w e).decided (going-on w e).decided
  going-on-since w e = all-since (suc w.tale.moment) (view_of setup w.tale) e (heard fixed w e).tale.clients (heard fixed w e)

  pub heard-closed : (w : World More) (e : Entry) → w.decided.until ≡ w.tale.moment → (heard fixed w e).tale.moment ≤ suc (heard fixed w e).decided.until
  heard-closed w e even =
      let a : World More = is_told setup by w e in
      let b : World More = is_counted by a e in
      let kept : a.tale.moment ≡ w.tale.moment = told_moment setup (plan_of a.decided) w.tale e in
      let to_c = are_freed_follows setup by (suc a.tale.moment) b refl in
      let until_a : a.decided.until ≡ w.decided.until = (told-more setup by w e).until in
      let until_c : (heard fixed w e).decided.until ≡ b.decided.until = to_c.more.until in
      let now_c : (heard fixed w e).tale.moment ≡ suc a.tale.moment = to_c.now in
      omega arith

  pub going-moment : (w : World More) (e : Entry) → w.decided.until ≡ w.tale.moment → (going-on w e).tale.moment ≡ suc w.tale.moment
  going-moment w e even =
      let a : World More = is_told setup by w e in
      let b : World More = is_counted by a e in
      let kept : a.tale.moment ≡ w.tale.moment = told_moment setup (plan_of a.decided) w.tale e in
      let to_c = are_freed_follows setup by (suc a.tale.moment) b refl in
      let until_a : a.decided.until ≡ w.decided.until = (told-more setup by w e).until in
      let until_c : (heard fixed w e).decided.until ≡ b.decided.until = to_c.more.until in
      let until_d : (going-on w e).decided.until ≡ (heard fixed w e).decided.until =
      (go_on_follows setup by (suc a.tale.moment) (view_of setup w.tale) e (heard fixed w e) to_c.now (omega arith)).more.until in
      let gone : suc (going-on w e).decided.until ≡ (going-on w e).tale.moment = going_even setup by w e even in
      omega arith

  pub going-before : (w : World More) (e : Entry) → (going-on w e).more.before ≡ now_of fixed w
  going-before w e =
      let b : World More = is_counted by (is_told setup by w e) e in
      (all_stay fixed (view_of setup w.tale) e (heard fixed w e).tale.clients (heard fixed w e)).before ∙ (freeing_stays fixed b.tale.links b).before

  pub step-since : (w : World More) (e : Entry) → w.decided.until ≡ w.tale.moment
      → Since (suc w.tale.moment) (suc w.tale.moment) w.decided (world_step setup by w e).decided
  step-since w e even =
      let k = suc w.tale.moment in
      let d : World More = going-on w e in
      let f : World More = is_ended by d e in
      let one : w.tale.moment + 1 ≡ k = omega arith in
      since-on k k w.decided f.decided _ (since-on k k w.decided d.decided f.decided
      (since-on k k w.decided (heard fixed w e).decided d.decided (heard-since w e) (going-on-since w e))
      (ends-since k d e (going-moment w e even) (ap (λ (n : Now). entry_now n) (going-before w e) ∙ one))) (freeing-since k f.tale.links f)

  pub step-moment : (w : World More) (e : Entry) → w.decided.until ≡ w.tale.moment → (world_step setup by w e).tale.moment ≡ suc w.tale.moment
  step-moment w e even =
      let d : World More = going-on w e in
      let f : World More = is_ended by d e in
      let now_f : f.tale.moment ≡ d.tale.moment = ends_moment (plan_of f.decided) d.tale.clients d.tale in
      (are_freed_follows setup by f.tale.moment f refl).now ∙ now_f ∙ going-moment w e even

  log-grows : (log : Log) (w : World More) → w.decided.until ≡ w.tale.moment → w.tale.moment ≤ (fold (next fixed) w log).tale.moment
  log-grows [] w even = omega arith
  log-grows (e ∷ log) w even =
      let now : (next fixed w e).tale.moment ≡ suc w.tale.moment = step-moment w e even in
      let more : (next fixed w e).tale.moment ≤ (fold (next fixed) (next fixed w e) log).tale.moment = log-grows log (next fixed w e) (step_even setup by w e) in
      omega arith

  -- behind a moment all is decided from the next entry on
  pub log-since : (log : Log) (w : World More) → w.decided.until ≡ w.tale.moment
      → Since (suc w.tale.moment) (fold (next fixed) w log).tale.moment w.decided (fold (next fixed) w log).decided
  log-since [] w even = since-itself (suc w.tale.moment) w.tale.moment w.decided
  log-since (e ∷ log) w even =
      let v : World More = next fixed w e in
      let last : World More = fold (next fixed) v log in
      let now : v.tale.moment ≡ suc w.tale.moment = step-moment w e even in
      let grown : v.tale.moment ≤ last.tale.moment = log-grows log v (step_even setup by w e) in
      since-on (suc w.tale.moment) last.tale.moment w.decided v.decided last.decided
      (since-wider (suc w.tale.moment) (suc w.tale.moment) (suc w.tale.moment) last.tale.moment w.decided v.decided (omega arith) (omega arith) (step-since w e even))
      (since-wider (suc v.tale.moment) last.tale.moment (suc w.tale.moment) last.tale.moment v.decided last.decided (omega arith) (omega arith) (log-since log v (step_even setup by w e)))
