-- Which of the tale's clients are called, and which of them end.
use Rattle.std.specs.Prelude.{◌≡◌, ◌<◌, ◌≤◌, ◌+◌, ◌||◌, ℕ, suc, Bool, true, false, nat_eq, All, cond, filter, length, map, List, [], ◌∷◌, ◌++◌}
use Rattle.std.proofs.Common.{refl, sym, ap, ◌∙◌, subst, append-nil, append_assoc, arith}
use Rattle.std.proofs.lemmas.Bool.{false≢true, ne_eqb, true≢false}
use Rattle.std.proofs.lemmas.List.Elements.{All-cons, All-head, All-nil, All-tail, All-weaker}
use Rattle.client_session.specs.Setups.{Setup as Service}
use Rattle.private_model.proofs.Maps.{client_of, same_number}
use Rattle.private_model.specs.Names.{ClientNo}
use Rattle.private_model.specs.Story.{is_client}
use Rattle.log_story.specs.Tale as tales
use Rattle.step_laws.specs.Seats.{AreCounted}
use Rattle.step_laws.specs.Steps.{ends_now}
use Rattle.core_stands.specs.Grounds.{Ground}
use Rattle.router_laws.proofs.OfWakes.Callers.{AreCallers, IsCaller, ended_on, ended_with, is_ended_by, is_in}
use Rattle.router_laws.specs.wakes.Calling.{AreInOrder, Caller, is_called}

abbrev pub AreNamed : List Caller → List tales.Client → Type 0
AreNamed [] [] = Unit {0}
AreNamed [] (x ∷ xs) = ⊥
AreNamed (caller ∷ callers) [] = ⊥
AreNamed (caller ∷ callers) (x ∷ xs) = (x.number ≡ caller.client) × AreNamed callers xs

unequal : (a b : ℕ) → nat_eq a b ≡ false → a ≡ b → ⊥
unequal a b other same = true≢false (sym (same_number a) ∙ ap (nat_eq a) same ∙ other)

abbrev Within : (from count : ℕ) → Caller → Type 0
Within from count caller = (from ≤ caller.client.0) × (caller.client.0 < from + count)

abbrev Above : ℕ → Caller → Type 0
Above n caller = n < caller.client.0

above_from : (from : ℕ) (xs : List tales.Client) → AreCounted from (map (λ (x : tales.Client). x.number) xs) → All (λ (x : tales.Client). from ≤ x.number.0) xs
above_from from [] are = All-nil (λ (x : tales.Client). from ≤ x.number.0)
above_from from (x ∷ xs) are =
    let first : x.number.0 ≡ from = are.0 in
    All-cons (λ (y : tales.Client). from ≤ y.number.0) x xs (omega (arith, first))
    (All-weaker (λ (y : tales.Client). suc from ≤ y.number.0) (λ (y : tales.Client). from ≤ y.number.0) (λ y above. omega (arith, above)) xs
    (above_from (suc from) xs are.1))

none_called : (c : ClientNo) (callers : List Caller) → All (Above c.0) callers → is_called callers c ≡ false
none_called c [] above = refl
none_called c (k ∷ ks) above =
    let lower : c.0 < k.client.0 = All-head (Above c.0) k ks above in
    ap (λ (b : Bool). b || is_called ks c) (ne_eqb c.0 k.client.0 (λ same. omega (arith, same, lower)))
    ∙ none_called c ks (All-tail (Above c.0) k ks above)

module _ (called : ClientNo → Bool) where
  abbrev kept : List tales.Client → List tales.Client
  kept xs = filter (λ (x : tales.Client). called x.number) xs

  abbrev Agrees : List Caller → tales.Client → Type 0
  Agrees callers x = called x.number ≡ is_called callers x.number

  -- the callers are those of the clients that are called, as both go up
  pub aligned : (from : ℕ) (xs : List tales.Client) → AreCounted from (map (λ (x : tales.Client). x.number) xs) → (callers : List Caller) → AreInOrder callers
      → All (Within from (length xs)) callers → All (Agrees callers) xs → AreNamed callers (kept xs)
  aligned from [] are [] order within agree = tt
  aligned from [] are (k ∷ ks) order within agree =
      let bounds = All-head (Within from 0) k ks within in
      let lower : from ≤ k.client.0 = bounds.0 in
      let upper : k.client.0 < from + 0 = bounds.1 in absurd (omega (arith, lower, upper))
  aligned from (x ∷ xs) are [] order within agree =
      subst (λ (b : Bool). AreNamed [] (cond b (x ∷ kept xs) (kept xs))) (sym (All-head (Agrees []) x xs agree))
      (aligned (suc from) xs are.1 [] order (All-nil (Within (suc from) (length xs))) (All-tail (Agrees []) x xs agree))
  aligned from (x ∷ xs) are (k ∷ ks) order within agree =
      by (λ cs goes_up bounds agrees. aligned (suc from) xs are.1 cs goes_up bounds agrees) (is_client x.number k.client) refl where
        first : x.number.0 ≡ from
        first = are.0

        bounds : Within from (suc (length xs)) k
        bounds = All-head (Within from (suc (length xs))) k ks within

        by : ((cs : List Caller) → AreInOrder cs → All (Within (suc from) (length xs)) cs → All (Agrees cs) xs → AreNamed cs (kept xs)) → (b : Bool)
            → is_client x.number k.client ≡ b → AreNamed (k ∷ ks) (cond (called x.number) (x ∷ kept xs) (kept xs))
        by on true same =
            let number : x.number ≡ k.client = client_of x.number k.client same in
            let at : x.number.0 ≡ k.client.0 = ap (λ (c : ClientNo). c.0) number in
            let here : called x.number ≡ true = All-head (Agrees (k ∷ ks)) x xs agree ∙ ap (λ (b : Bool). b || is_called ks x.number) same in
            let later : All (Within (suc from) (length xs)) ks =
            All-weaker (λ (j : Caller). (k.client.0 < j.client.0) × Within from (suc (length xs)) j) (Within (suc from) (length xs))
            (λ j both.
            let above : k.client.0 < j.client.0 = both.0 in
            let upper : j.client.0 < from + suc (length xs) = both.1.1 in (omega (arith, above, at, first), omega (arith, upper))) ks
            (λ i d inside. (order.0 i d inside, All-tail (Within from (suc (length xs))) k ks within i d inside)) in
            let others : All (Agrees ks) xs =
            All-weaker (λ (y : tales.Client). Agrees (k ∷ ks) y × (suc from ≤ y.number.0)) (Agrees ks)
            (λ y both.
            let above : suc from ≤ y.number.0 = both.1 in
            both.0 ∙ ap (λ (b : Bool). b || is_called ks y.number) (ne_eqb y.number.0 k.client.0 (λ same. omega (arith, same, above, at, first)))) xs
            (λ i d inside. (All-tail (Agrees (k ∷ ks)) x xs agree i d inside, above_from (suc from) xs are.1 i d inside)) in
            subst (λ (b : Bool). AreNamed (k ∷ ks) (cond b (x ∷ kept xs) (kept xs))) (sym here) (number, on ks order.1 later others)
        by on false other =
            let apart : x.number.0 ≡ k.client.0 → ⊥ = unequal x.number.0 k.client.0 other in
            let lower : from ≤ k.client.0 = bounds.0 in
            let above : from < k.client.0 = below from k.client.0 lower (λ same. apart (first ∙ same)) in
            let each : All (Above x.number.0) ks =
            All-weaker (λ (j : Caller). k.client.0 < j.client.0) (Above x.number.0)
            (λ j more. let over : k.client.0 < j.client.0 = more in omega (arith, over, above, first)) ks order.0 in
            let none : called x.number ≡ false =
            All-head (Agrees (k ∷ ks)) x xs agree ∙ ap (λ (b : Bool). b || is_called ks x.number) other ∙ none_called x.number ks each in
            let later : All (Within (suc from) (length xs)) (k ∷ ks) =
            All-cons (Within (suc from) (length xs)) k ks
            (omega (arith, above), (let upper : k.client.0 < from + suc (length xs) = bounds.1 in omega (arith, upper)))
            (All-weaker (λ (j : Caller). (k.client.0 < j.client.0) × Within from (suc (length xs)) j) (Within (suc from) (length xs))
            (λ j both.
            let more : k.client.0 < j.client.0 = both.0 in
            let upper : j.client.0 < from + suc (length xs) = both.1.1 in (omega (arith, more, above), omega (arith, upper))) ks
            (λ i d inside. (order.0 i d inside, All-tail (Within from (suc (length xs))) k ks within i d inside))) in
            subst (λ (b : Bool). AreNamed (k ∷ ks) (cond b (x ∷ kept xs) (kept xs))) (sym none)
            (on (k ∷ ks) order later (All-tail (Agrees (k ∷ ks)) x xs agree))
          where
            below : (a b : ℕ) → a ≤ b → (a ≡ b → ⊥) → a < b
            below a b le ne = omega (arith, le, ne)

  -- who isn't called doesn't end

  module _ (ends : ClientNo → Bool) where
    abbrev numbers_of : List tales.Client → List ClientNo
    numbers_of xs = map (λ (x : tales.Client). x.number) xs

    kept_by : (x : tales.Client) (ys zs : List ClientNo) → ys ≡ zs → (b d : Bool) → called x.number ≡ b → ends x.number ≡ d
        → (called x.number ≡ false → ends x.number ≡ false) → (xs : List tales.Client) → ys ≡ filter ends (numbers_of xs)
        → filter ends (numbers_of (cond b (x ∷ xs) xs)) ≡ cond d (x.number ∷ zs) zs
    kept_by x ys zs same true d its how none xs are =
        ap (λ (t : Bool). cond t (x.number ∷ filter ends (numbers_of xs)) (filter ends (numbers_of xs))) how
        ∙ ap (λ (ns : List ClientNo). cond d (x.number ∷ ns) ns) (sym are ∙ same)
    kept_by x ys zs same false d its how none xs are =
        sym are ∙ same ∙ ap (λ (t : Bool). cond t (x.number ∷ zs) zs) (sym (none its) ∙ how)

    pub ended_among : (xs : List tales.Client) → All (λ (x : tales.Client). called x.number ≡ false → ends x.number ≡ false) xs
        → filter ends (numbers_of (kept xs)) ≡ filter ends (numbers_of xs)
    ended_among [] none = refl
    ended_among (x ∷ xs) none =
        kept_by x (filter ends (numbers_of (kept xs))) (filter ends (numbers_of xs))
        (ended_among xs (All-tail (λ (y : tales.Client). called y.number ≡ false → ends y.number ≡ false) x xs none)) (called x.number) (ends x.number) refl refl
        (All-head (λ (y : tales.Client). called y.number ≡ false → ends y.number ≡ false) x xs none) (kept xs) refl

-- Those who end as they go on are all that end.

module _ (service : Service) (default : List ℕ) (g : Ground) where
  abbrev ends : ClientNo → Bool
  ends c = ends_now g.plan (suc g.tale.moment) c

  abbrev those : List tales.Client → List ClientNo
  those xs = filter ends (map (λ (x : tales.Client). x.number) xs)

  with_one : (b : Bool) (c : ClientNo) (cs fs : List ClientNo) → ends c ≡ b → ended_with b c cs ++ fs ≡ cs ++ cond (ends c) (c ∷ fs) fs
  with_one true c cs fs is = append_assoc cs (c ∷ []) fs ∙ ap (λ (b : Bool). cs ++ cond b (c ∷ fs) fs) (sym is)
  with_one false c cs fs is = ap (λ (b : Bool). cs ++ cond b (c ∷ fs) fs) (sym is)

  pub ended_are : (callers : List Caller) (xs : List tales.Client) → AreCallers service default g callers xs → (cs : List ClientNo)
      → ended_on callers xs cs ≡ cs ++ those xs
  ended_are [] [] are cs = sym (append-nil cs)
  ended_are [] (x ∷ xs) are cs = absurd are
  ended_are (caller ∷ callers) [] are cs = absurd are
  ended_are (caller ∷ callers) (x ∷ xs) are cs =
      ended_are callers xs are.1 (ended_with (is_ended_by caller) x.number cs) ∙ with_one (is_ended_by caller) x.number cs (those xs) are.0.ends

-- Callers have what each of them has.

pub callers_are : (service : Service) (default : List ℕ) (g : Ground) (P : Caller → Type 0) (Q : tales.Client → Type 0)
    → ((caller : Caller) (x : tales.Client) → P caller → Q x → x.number ≡ caller.client → IsCaller service default g caller x)
    → (callers : List Caller) (xs : List tales.Client) → AreNamed callers xs → All P callers → All Q xs → AreCallers service default g callers xs
callers_are service default g P Q each [] [] named ps qs = tt
callers_are service default g P Q each [] (x ∷ xs) named ps qs = absurd named
callers_are service default g P Q each (caller ∷ callers) [] named ps qs = absurd named
callers_are service default g P Q each (caller ∷ callers) (x ∷ xs) named ps qs = (
  each caller x (All-head P caller callers ps) (All-head Q x xs qs) named.0,
  callers_are service default g P Q each callers xs named.1 (All-tail P caller callers ps) (All-tail Q x xs qs),
)

called_first : (P : ClientNo → Type 0) (c : ClientNo) (k : Caller) (ks : List Caller) → P k.client → (is_called ks c ≡ true → P c) → (b : Bool)
    → is_client c k.client ≡ b → (b || is_called ks c) ≡ true → P c
called_first P c k ks here behind true same there = subst P (sym (client_of c k.client same)) here
called_first P c k ks here behind false other there = behind there

-- whoever is called is one of them
pub called_of : (P : ClientNo → Type 0) (c : ClientNo) (callers : List Caller) → All (λ (k : Caller). P k.client) callers → is_called callers c ≡ true → P c
called_of P c [] all there = absurd (false≢true there)
called_of P c (k ∷ ks) all there =
    called_first P c k ks (All-head (λ (j : Caller). P j.client) k ks all) (called_of P c ks (All-tail (λ (j : Caller). P j.client) k ks all))
    (is_client c k.client) refl there

-- A client of the tale that ends is among those who do, and no other.

module _ (ends : ClientNo → Bool) (c : ClientNo) where
  abbrev ended_in : List ClientNo → Bool
  ended_in cs = is_in (filter ends cs) c

  none_by : (x : ClientNo) (cs : List ClientNo) (b : Bool) → ends x ≡ b → ends c ≡ false → is_in (filter ends cs) c ≡ false
      → is_in (cond b (x ∷ filter ends cs) (filter ends cs)) c ≡ false
  none_by x cs false is none behind = behind
  none_by x cs true is none behind = other (is_client x c) refl where
    other : (b : Bool) → is_client x c ≡ b → (is_client x c || is_in (filter ends cs) c) ≡ false
    other true same = absurd (true≢false (sym is ∙ ap ends (client_of x c same) ∙ none))
    other false apart = ap (λ (b : Bool). b || is_in (filter ends cs) c) apart ∙ behind

  pub none_ended_in : (cs : List ClientNo) → ends c ≡ false → ended_in cs ≡ false
  none_ended_in [] none = refl
  none_ended_in (x ∷ cs) none = none_by x cs (ends x) refl none (none_ended_in cs none)

  one_by : (x : ClientNo) (cs : List ClientNo) (b : Bool) → is_client x c ≡ b → ends c ≡ true → (b ≡ false → ended_in cs ≡ true) → ended_in (x ∷ cs) ≡ true
  one_by x cs true same is behind =
      ap (λ (b : Bool). is_in (cond b (x ∷ filter ends cs) (filter ends cs)) c) (ap ends (client_of x c same) ∙ is)
      ∙ ap (λ (b : Bool). b || is_in (filter ends cs) c) same
  one_by x cs false other is behind = more (ends x) where
    more : (b : Bool) → is_in (cond b (x ∷ filter ends cs) (filter ends cs)) c ≡ true
    more true = ap (λ (b : Bool). b || is_in (filter ends cs) c) other ∙ behind refl
    more false = behind refl

  pub one_ended_in : (xs : List tales.Client) (client : tales.Client) → filter (λ (x : tales.Client). is_client x.number c) xs ≡ client ∷ [] → ends c ≡ true
      → ended_in (map (λ (x : tales.Client). x.number) xs) ≡ true
  one_ended_in [] client seated is = let none : 0 ≡ 1 = ap (λ (ys : List tales.Client). length ys) seated in absurd (omega (arith, none))
  one_ended_in (x ∷ xs) client seated is =
      one_by x.number (map (λ (y : tales.Client). y.number) xs) (is_client x.number c) refl is
      (λ other. one_ended_in xs client
      (sym (ap (λ (b : Bool). cond b (x ∷ filter (λ (y : tales.Client). is_client y.number c) xs) (filter (λ (y : tales.Client). is_client y.number c) xs)) other)
      ∙ seated) is)
