-- Clients are numbered by their place, so each has its number for itself.
use Rattle.std.specs.Prelude.{◌≡◌, ◌+◌, ◌<◌, ◌≤◌, ℕ, zero, suc, Bool, true, false, ◌&&◌, ◌||◌, find, fold, length, map, slice_get, if◌then◌else◌, List, [], ◌∷◌, ◌++◌, Option, Some, None}
use Rattle.std.specs.List.{list_any}
use Rattle.std.specs.Option.{option_map_or}
use Rattle.std.proofs.Common.{refl, sym, ap, ◌∙◌, subst, arith}
use Rattle.std.proofs.lemmas.Bool.{ne_eqb}
use Rattle.mx_wire.specs.Log.{Log}
use Rattle.mx_wire.specs.declared.entry.Entry.{Entry}
use Rattle.private_model.proofs.Maps.{number_of, same_number}
use Rattle.private_model.specs.Story.{is_client, is_link_id}
use Rattle.private_model.specs.View.{Setup, View}
use Rattle.log_story.specs.Owed.{messages}
use Rattle.log_story.specs.Tale.{Client, Tale, client_gets, client_hears, new_client, view_of}
use Rattle.tale_world.specs.Decided.{plan_of}
use Rattle.tale_world.specs.Deciding.{Deciding, World}
use Rattle.tale_world.specs.World.{are_taken, decided_last, decided_next, goes_on, is_called, is_counted, is_ended, is_told, next_of, taken_once, with_taken, world_step}
use Rattle.shared_router.specs.Fixed.{Fixed, setup_of}
use Rattle.shared_router.specs.Judged.{heard}
use Rattle.shared_router.specs.More.{More}
use Rattle.shared_router.specs.Shared.{shared, world_at}
use Rattle.shared_router.proofs.Looked.{Each, Seats, anybody, each-so, ending-clients, freeing-clients, if-anybody, taken-clients, told-seats}
use Rattle.shared_router.proofs.Parting as parting
use Rattle.shared_router.proofs.Parting.{next}
use Rattle.shared_router.proofs.Since.{going-on}

abbrev pub Numbered : (from : ℕ) → List Client → Type 0
Numbered from [] = Unit {0}
Numbered from (x ∷ xs) = (x.number.0 ≡ from) × Numbered (suc from) xs

numbered-map : (f : Client → Client) → ((c : Client) → (f c).number.0 ≡ c.number.0) → (from : ℕ) (xs : List Client) → Numbered from xs → Numbered from (map f xs)
numbered-map f same from [] all = tt
numbered-map f same from (x ∷ xs) all = (same x ∙ all.0, numbered-map f same (suc from) xs all.1)

numbered-last : (y : Client) (from : ℕ) (xs : List Client) → Numbered from xs → y.number.0 ≡ from + length xs → Numbered from (xs ++ y ∷ [])
numbered-last y from [] all last = (omega (arith, last), tt)
numbered-last y from (x ∷ xs) all last = (all.0, numbered-last y (suc from) xs all.1 (omega (arith, last)))

either-number : (b : Bool) (x y : Client) (n : ℕ) → (b ≡ true → x.number.0 ≡ n) → y.number.0 ≡ n → (if b then x else y).number.0 ≡ n
either-number true x y n one other = one refl
either-number false x y n one other = other

pub numbered-seats : Seats anybody (Numbered 1)
numbered-seats = record {
  comes = λ cs port link salt comes all. numbered-last (new_client (length cs + 1) port link salt) 1 cs all (omega arith);
  hears = λ cs link bytes all. numbered-map (client_hears link bytes)
      (λ c. either-number (is_link_id c.link link) (record c { read = c.read ++ bytes }) c c.number.0 (λ is. refl) refl) 1 cs all;
  gets = λ cs link count all. numbered-map (client_gets link count)
      (λ c. either-number (is_link_id c.link link) (record c { written = c.written + count }) c c.number.0 (λ is. refl) refl) 1 cs all;
}

-- It is alone with its number.

pub record IsAlone (xs : List Client) (client : Client) : Type 0 where
  pub any : (g : Client → Bool) → list_any (λ (x : Client). is_client x.number client.number && g x) xs ≡ g client
  pub found : find (λ (x : Client). is_client x.number client.number) xs ≡ Some client

absent : (client : Client) (g : Client → Bool) (from : ℕ) (xs : List Client) → Numbered from xs → client.number.0 < from
    → list_any (λ (x : Client). is_client x.number client.number && g x) xs ≡ false
absent client g from [] all before = refl
absent client g from (x ∷ xs) all before =
    let apart : is_client x.number client.number ≡ false = ne_eqb x.number.0 client.number.0 (λ is. omega (arith, is, all.0, before)) in
    ap (λ b. (b && g x) || list_any (λ (x : Client). is_client x.number client.number && g x) xs) apart ∙ absent client g (suc from) xs all.1 (omega (arith, before))

numbers-above : (from : ℕ) (xs : List Client) → Numbered from xs → Each (λ (c : Client). from ≤ c.number.0) xs
numbers-above from [] all = tt
numbers-above from (x ∷ xs) all =
    (omega (arith, all.0), each-so (λ (c : Client). suc from ≤ c.number.0) (λ (c : Client). from ≤ c.number.0) xs (λ c above. omega (arith, above)) (numbers-above (suc from) xs all.1))

pub both-each : {A : Type 0} (P Q : A → Type 0) (xs : List A) → Each P xs → Each Q xs → Each (λ x. P x × Q x) xs
both-each P Q [] one other = tt
both-each P Q (x ∷ xs) one other = ((one.0, other.0), both-each P Q xs one.1 other.1)

or-false : (a : Bool) → (a || false) ≡ a
or-false true = refl
or-false false = refl

alone-first : (from : ℕ) (x : Client) (xs : List Client) → x.number.0 ≡ from → Numbered (suc from) xs → IsAlone (x ∷ xs) x
alone-first from x xs is all =
    let here : is_client x.number x.number ≡ true = same_number x.number.0 in
    record {
      any = λ g. ap (λ b. (b && g x) || list_any (λ (y : Client). is_client y.number x.number && g y) xs) here
          ∙ ap (λ b. g x || b) (absent x g (suc from) xs all (omega (arith, is))) ∙ or-false (g x);
      found = ap (λ b. if b then Some x else find (λ (y : Client). is_client y.number x.number) xs) here;
    }

alone-behind : (from : ℕ) (x : Client) (xs : List Client) (client : Client) → x.number.0 ≡ from → suc from ≤ client.number.0 → IsAlone xs client → IsAlone (x ∷ xs) client
alone-behind from x xs client is above alone =
    let apart : is_client x.number client.number ≡ false = ne_eqb x.number.0 client.number.0 (λ same. omega (arith, same, is, above)) in
    record {
      any = λ g. ap (λ b. (b && g x) || list_any (λ (y : Client). is_client y.number client.number && g y) xs) apart ∙ alone.any g;
      found = ap (λ b. if b then Some x else find (λ (y : Client). is_client y.number client.number) xs) apart ∙ alone.found;
    }

pub each-alone : (from : ℕ) (xs : List Client) → Numbered from xs → Each (IsAlone xs) xs
each-alone from [] all = tt
each-alone from (x ∷ xs) all = (
  alone-first from x xs all.0 all.1,
  each-so (λ (c : Client). (suc from ≤ c.number.0) × IsAlone xs c) (IsAlone (x ∷ xs)) xs (λ c both. alone-behind from x xs c all.0 both.0 both.1)
      (both-each (λ (c : Client). suc from ≤ c.number.0) (IsAlone xs) xs (numbers-above (suc from) xs all.1) (each-alone (suc from) xs all.1)),
)

module _ (fixed : Fixed) where
  abbrev setup : Setup
  setup = setup_of fixed

  abbrev by : Deciding More
  by = shared fixed

  taking-numbered : (most : ℕ) (client : Client) (w : World More) → Numbered 1 w.tale.clients → Numbered 1 (are_taken most setup by client w).tale.clients
  taking-numbered zero client w all = all
  taking-numbered (suc most) client w all = by_found (taken_once setup by w client) refl (taking-numbered most (next_of client)) where
    goes : Option Tale → World More
    goes found = option_map_or (λ tale. are_taken most setup by (next_of client) (with_taken setup by w client tale)) found (record w { decided = decided_next setup by w client })

    by_found : (found : Option Tale) → taken_once setup by w client ≡ found
        → ((v : World More) → Numbered 1 v.tale.clients → Numbered 1 (are_taken most setup by (next_of client) v).tale.clients) → Numbered 1 (goes found).tale.clients
    by_found None is others = all
    by_found (Some tale) is others =
        let d = decided_next setup by w client in
        let came = taken-clients setup (plan_of d) client (slice_get (messages (plan_of d) client) client.taken) w.tale tale is in
        others (with_taken setup by w client tale)
        (numbered-map (λ (other : Client). if is_client other.number client.number then next_of client else other)
        (λ other. either-number (is_client other.number client.number) (next_of client) other other.number.0 (λ same. sym (number_of other.number.0 client.number.0 same)) refl)
        1 tale.clients (subst (Numbered 1) (sym came.0) all))

  goes-numbered : (view : View) (e : Entry) (w : World More) (client : Client) → Numbered 1 w.tale.clients → Numbered 1 (goes_on setup by view e w client).tale.clients
  goes-numbered view e w client all = by_test (is_called v.decided w.tale.moment view e client) where
    v : World More
    v = record w { decided = decided_last by w client }

    by_test : (b : Bool) → Numbered 1 (if b then are_taken (length (messages (plan_of v.decided) client)) setup by client v else v).tale.clients
    by_test true = taking-numbered (length (messages (plan_of v.decided) client)) client v all
    by_test false = all

  going-numbered : (view : View) (e : Entry) (xs : List Client) (w : World More) → Numbered 1 w.tale.clients → Numbered 1 (fold (goes_on setup by view e) w xs).tale.clients
  going-numbered view e [] w all = all
  going-numbered view e (x ∷ xs) w all = going-numbered view e xs (goes_on setup by view e w x) (goes-numbered view e w x all)

  pub going-counts : (w : World More) (e : Entry) → Numbered 1 w.tale.clients → Numbered 1 (going-on fixed w e).tale.clients
  going-counts w e all =
      let a : World More = is_told setup by w e in
      let b : World More = is_counted by a e in
      going-numbered (view_of setup w.tale) e (heard fixed w e).tale.clients (heard fixed w e)
      (subst (Numbered 1) (sym (freeing-clients fixed b.tale.links b)) (told-seats anybody (Numbered 1) numbered-seats setup (plan_of a.decided) w.tale e (if-anybody e) all))

  pub step-counts : (w : World More) (e : Entry) → Numbered 1 w.tale.clients → Numbered 1 (world_step setup by w e).tale.clients
  step-counts w e all =
      let d : World More = going-on fixed w e in
      let f : World More = is_ended by d e in
      subst (Numbered 1) (sym (freeing-clients fixed f.tale.links f ∙ ending-clients (plan_of f.decided) d.tale.clients d.tale)) (going-counts w e all)

  log-counts : (log : Log) (w : World More) → Numbered 1 w.tale.clients → Numbered 1 (fold (next fixed) w log).tale.clients
  log-counts [] w all = all
  log-counts (e ∷ log) w all = log-counts log (next fixed w e) (step-counts w e all)

  pub counts_at : (log : Log) → Numbered 1 (world_at fixed log).tale.clients
  counts_at log = log-counts log (parting.first fixed) tt
