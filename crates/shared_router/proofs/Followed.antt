-- What is so of each client, by its number and how many of its messages were taken up: kept as an entry was told, by a walk through what it does
-- then.
use Rattle.std.specs.Prelude.{◌≡◌, ◌+◌, ◌≤◌, ◌<◌, ℕ, zero, suc, Bool, true, false, ◌&&◌, ◌||◌, not, fold, length, map, nat_eq, if◌then◌else◌, slice_get, slice_index_or, List, [], ◌∷◌, ◌++◌, Option, Some, None}
use Rattle.std.specs.Option.{option_map_or}
use Rattle.std.proofs.Common.{refl, sym, ap, ◌∙◌, subst, arith}
use Rattle.std.proofs.lemmas.Bool.{ne_eqb}
use Rattle.std.proofs.lemmas.List.{length-map}
use Rattle.mx_base.specs.declared.names.LinkId.{LinkId}
use Rattle.mx_wire.specs.declared.entry.Entry.{Entry}
use Rattle.packet_frame.specs.Packets.{Framed}
use Rattle.private_model.proofs.Maps.{same_number}
use Rattle.private_model.specs.Names.{ClientNo, Hostgroup, MessageName}
use Rattle.private_model.specs.Story.{BecameDue, Broke, Freed, Happening, Left, Story, is_client}
use Rattle.private_model.specs.View.{Setup, View}
use Rattle.log_story.specs.Clients.{client_goes_on, clients_are_ended, clients_go_on, copied, due_by, ended_if_now, is_event_of, is_up, next_taken, taken_by, taken_up}
use Rattle.log_story.specs.Executes.{Request, requested}
use Rattle.log_story.specs.Owed.{messages, name_of}
use Rattle.log_story.specs.Plan.{Plan, Route, com_reset, gives_up, is_before, is_now}
use Rattle.log_story.specs.Servers.{freed_if_done, is_done, links_are_freed}
use Rattle.log_story.specs.Tale.{Client, Tale, Wire, counted, link_in, tell, view_of, with_client}
use Rattle.log_story.specs.Telling.{tale_step, told}
use Rattle.router_promises.specs.Takings.{Taking, taking_then, takings_at, takings_by, takings_from, takings_of}
use Rattle.tale_world.proofs.Links.{freeing_of}
use Rattle.tale_world.proofs.Telling.{ends_moment, told_moment}
use Rattle.shared_router.proofs.Dues.{either}
use Rattle.shared_router.proofs.Looked.{Each, each-so}
use Rattle.shared_router.proofs.Numbered.{AreNumbered, replaced}
use Rattle.shared_router.proofs.Plain.{IsPlain}
use Rattle.shared_router.proofs.Seated.{freed_clients, numbered_told, step_clients}

module _ (setup : Setup) (plan : Plan) where
  -- P of each client, and G of the story, what passes on links, and how many clients there are
  pub record Follows : Type 1 where
    pub P : (moment : ℕ) → Story → ClientNo → (taken : ℕ) → Type 0
    pub G : (moment : ℕ) → Story → (LinkId → Wire) → (count : ℕ) → Type 0
    -- and Q is so of each message that is taken up
    pub Q : Taking → Type 0
    pub freed : (tale : Tale) (link : LinkId) (c : ClientNo) (t : ℕ) → is_done plan tale.moment (view_of setup tale) (tale.wires link) (link_in setup tale link) ≡ true
        → P tale.moment tale.story c t → P tale.moment (Freed link ∷ tale.story) c t
    pub left : (m : ℕ) (past : Story) (x c : ClientNo) (t : ℕ) → is_client c x ≡ false → P m past c t → P m (Left x ∷ past) c t
    pub ended : (m : ℕ) (past : Story) (x c : ClientNo) (t : ℕ) → is_now m (plan.ends x) ≡ true → is_client c x ≡ true → P m past c t → P m (Left x ∷ past) c t
    pub broke : (m : ℕ) (past : Story) (c : ClientNo) (t : ℕ) → P m past c t → P m (Broke ∷ past) c t
    pub other : (m : ℕ) (past : Story) (x c : ClientNo) (t : ℕ) (h : Hostgroup) (r : Route) (request : Request) (i : ℕ) → is_client x c ≡ false → P m past c t
        → P m (BecameDue x h i request.key request.command r.multiplex ∷ past) c t
    -- its next message is taken up: it goes nowhere, or becomes due, or breaks a rule
    pub unrouted : (tale : Tale) (client : Client) (message : Framed) → Q (record { client = client; message = message; tale = tale }) → is_up setup plan client tale ≡ true → plan.routes (name_of client (suc client.taken)) ≡ None
        → P tale.moment tale.story client.number client.taken → P tale.moment tale.story client.number (suc client.taken)
    pub resets : (tale : Tale) (client : Client) (message : Framed) → Q (record { client = client; message = message; tale = tale }) → is_up setup plan client tale ≡ true → plan.routes (name_of client (suc client.taken)) ≡ None
        → P tale.moment tale.story client.number client.taken → P tale.moment (Left client.number ∷ tale.story) client.number (suc client.taken)
    pub comes : (tale : Tale) (client : Client) (message : Framed) (r : Route) (request : Request) → Q (record { client = client; message = message; tale = tale })
        → requested setup (view_of setup tale) plan client (suc client.taken) r message.payload ≡ Some request → is_up setup plan client tale ≡ true → plan.routes (name_of client (suc client.taken)) ≡ Some r
        → P tale.moment tale.story client.number client.taken
        → P tale.moment (BecameDue client.number r.hostgroup (suc client.taken) request.key request.command r.multiplex ∷ tale.story) client.number (suc client.taken)
    pub breaks : (tale : Tale) (client : Client) (message : Framed) → Q (record { client = client; message = message; tale = tale }) → is_up setup plan client tale ≡ true
        → P tale.moment tale.story client.number client.taken → P tale.moment (Broke ∷ tale.story) client.number (suc client.taken)
    pub all_freed : (tale : Tale) (link : LinkId) (n : ℕ) → is_done plan tale.moment (view_of setup tale) (tale.wires link) (link_in setup tale link) ≡ true
        → G tale.moment tale.story tale.wires n → G tale.moment (Freed link ∷ tale.story) tale.wires n
    pub all_left : (m : ℕ) (past : Story) (wires : LinkId → Wire) (x : ClientNo) (n : ℕ) → G m past wires n → G m (Left x ∷ past) wires n
    pub all_broke : (m : ℕ) (past : Story) (wires : LinkId → Wire) (n : ℕ) → G m past wires n → G m (Broke ∷ past) wires n
    pub all_come : (tale : Tale) (n : ℕ) (client : Client) (message : Framed) (r : Route) (request : Request) → Q (record { client = client; message = message; tale = tale })
        → client.number.0 ≤ n → P tale.moment tale.story client.number client.taken → G tale.moment tale.story tale.wires n
        → G tale.moment (BecameDue client.number r.hostgroup (suc client.taken) request.key request.command r.multiplex ∷ tale.story) tale.wires n

  module _ (k : Follows) (lone : (m : MessageName) → IsPlain (plan.routes m)) where
    abbrev IsSo : (moment : ℕ) → Story → Client → Type 0
    IsSo m story client = k.P m story client.number client.taken

    pub record AreSo (m : ℕ) (story : Story) (wires : LinkId → Wire) (xs : List Client) : Type 0 where
      pub each : Each (IsSo m story) xs
      pub all : k.G m story wires (length xs)

    -- Links are given back, and clients ended.

    freeing_so : (m : ℕ) (ys : List Client) (xs : List LinkId) (tale : Tale) → tale.moment ≡ m → AreSo m tale.story tale.wires ys
        → AreSo m (fold (freed_if_done setup plan) tale xs).story (fold (freed_if_done setup plan) tale xs).wires ys
    freeing_so m ys [] tale same so = so
    freeing_so m ys (x ∷ xs) tale same so = by_test (done tale) refl (freeing_so m ys xs) where
      done : Tale → Bool
      done t = is_done plan t.moment (view_of setup t) (t.wires x) (link_in setup t x)

      by_test : (b : Bool) → done tale ≡ b
          → ((t : Tale) → t.moment ≡ m → AreSo m t.story t.wires ys → AreSo m (fold (freed_if_done setup plan) t xs).story (fold (freed_if_done setup plan) t xs).wires ys)
          → AreSo m (fold (freed_if_done setup plan) (if b then tell (Freed x) tale else tale) xs).story (fold (freed_if_done setup plan) (if b then tell (Freed x) tale else tale) xs).wires ys
      by_test false is later = later tale same so
      by_test true is later =
          later (tell (Freed x) tale) same
          (subst (λ n. AreSo n (Freed x ∷ tale.story) tale.wires ys) same
          (by_moment (subst (λ n. AreSo n tale.story tale.wires ys) (sym same) so)))
        where
          by_moment : AreSo tale.moment tale.story tale.wires ys → AreSo tale.moment (Freed x ∷ tale.story) tale.wires ys
          by_moment so = record {
            each = each-so (IsSo tale.moment tale.story) (IsSo tale.moment (Freed x ∷ tale.story)) ys (λ y was. k.freed tale x y.number y.taken is was) so.each;
            all = k.all_freed tale x (length ys) is so.all;
          }

    left_so : (m : ℕ) (past : Story) (x : ClientNo) (y : Client) → is_now m (plan.ends x) ≡ true → IsSo m past y → IsSo m (Left x ∷ past) y
    left_so m past x y now is = by_test (is_client y.number x) refl where
      by_test : (b : Bool) → is_client y.number x ≡ b → IsSo m (Left x ∷ past) y
      by_test true same = k.ended m past x y.number y.taken now same is
      by_test false other = k.left m past x y.number y.taken other is

    ending_so : (m : ℕ) (ys xs : List Client) (tale : Tale) → tale.moment ≡ m → AreSo m tale.story tale.wires ys
        → AreSo m (fold (ended_if_now plan) tale xs).story (fold (ended_if_now plan) tale xs).wires ys
    ending_so m ys [] tale same so = so
    ending_so m ys (x ∷ xs) tale same so = by_test (is_now tale.moment (plan.ends x.number)) refl (ending_so m ys xs) where
      by_test : (b : Bool) → is_now tale.moment (plan.ends x.number) ≡ b
          → ((t : Tale) → t.moment ≡ m → AreSo m t.story t.wires ys → AreSo m (fold (ended_if_now plan) t xs).story (fold (ended_if_now plan) t xs).wires ys)
          → AreSo m (fold (ended_if_now plan) (if b then tell (Left x.number) tale else tale) xs).story (fold (ended_if_now plan) (if b then tell (Left x.number) tale else tale) xs).wires ys
      by_test true now later =
          later (tell (Left x.number) tale) same (record {
            each = each-so (IsSo m tale.story) (IsSo m (Left x.number ∷ tale.story)) ys
                (λ y is. left_so m tale.story x.number y (subst (λ n. is_now n (plan.ends x.number) ≡ true) same now) is) so.each;
            all = k.all_left m tale.story tale.wires x.number (length ys) so.all;
          })
      by_test false now later = later tale same so

    -- Messages are taken up: of each other client it stays so.

    record Goes (m : ℕ) (client : Client) (old new : Tale) : Type 0 where
      pub same : new.moment ≡ m
      pub so : AreSo m new.story new.wires new.clients
      pub others : (other : Client) → is_client client.number other.number ≡ false → IsSo m old.story other → IsSo m new.story other
      pub size : length new.clients ≡ length old.clients

    record TakesOne (m : ℕ) (client : Client) (old new : Tale) : Type 0 where
      pub goes : Goes m client old new
      pub now : IsSo m new.story (record client { taken = suc client.taken })

    isnt : {A : Type 0} → false ≡ true → A
    isnt is = absurd (cc)

    flip : (a b : ClientNo) → is_client a b ≡ false → is_client b a ≡ false
    flip a b other = ne_eqb b.0 a.0 (λ same. isnt (sym other ∙ ap (λ n. nat_eq n b.0) (sym same) ∙ same_number b.0))

    module _ (client : Client) where
      abbrev onward : Client
      onward = record client { taken = suc client.taken }

      abbrev name : MessageName
      name = name_of client (suc client.taken)

      replaced_all : (m : ℕ) (old new : Story) (ys : List Client) → IsSo m new onward
          → ((y : Client) → is_client client.number y.number ≡ false → IsSo m old y → IsSo m new y) → Each (IsSo m old) ys → Each (IsSo m new) (map (replaced onward) ys)
      replaced_all m old new [] now keeps all = tt
      replaced_all m old new (y ∷ ys) now keeps all = (by_test (is_client y.number client.number) refl, replaced_all m old new ys now keeps all.1) where
        by_test : (b : Bool) → is_client y.number client.number ≡ b → IsSo m new (if b then onward else y)
        by_test true same = now
        by_test false other = keeps y (flip y.number client.number other) all.0

      told_one : (tale other : Tale) → other.moment ≡ tale.moment → other.clients ≡ tale.clients → other.wires ≡ tale.wires → IsSo tale.moment other.story onward
          → ((y : Client) → is_client client.number y.number ≡ false → IsSo tale.moment tale.story y → IsSo tale.moment other.story y)
          → k.G tale.moment other.story tale.wires (length tale.clients) → AreSo tale.moment tale.story tale.wires tale.clients → TakesOne tale.moment client tale (with_client onward other)
      told_one tale other same clients wires now keeps all so =
          let size : length (map (replaced onward) other.clients) ≡ length tale.clients = length-map other.clients (replaced onward) ∙ ap (λ (ys : List Client). length ys) clients in
          record {
            goes = record {
              same = same;
              so = record {
                each = subst (λ (ys : List Client). Each (IsSo tale.moment other.story) (map (replaced onward) ys)) (sym clients)
                    (replaced_all tale.moment tale.story other.story tale.clients now keeps so.each);
                all = subst (λ n. k.G tale.moment other.story other.wires n) (sym size)
                    (subst (λ (f : LinkId → Wire). k.G tale.moment other.story f (length tale.clients)) (sym wires) all);
              };
              others = keeps;
              size = size;
            };
            now = now;
          }

      taken_so : (tale : Tale) (message : Framed) → k.Q (record { client = client; message = message; tale = tale }) → (o : Option Route) → plan.routes name ≡ o → is_up setup plan client tale ≡ true → client.number.0 ≤ length tale.clients
          → IsSo tale.moment tale.story client → AreSo tale.moment tale.story tale.wires tale.clients
          → TakesOne tale.moment client tale (with_client onward (taken_by setup plan client (suc client.taken) message o tale))
      taken_so tale message taking None at up few is so =
          either (λ (t : Tale). TakesOne tale.moment client tale (with_client onward t)) (nat_eq (slice_index_or message.payload 0 0) com_reset) (tell (Left client.number) tale) tale
          (told_one tale (tell (Left client.number) tale) refl refl refl (k.resets tale client message taking up at is)
          (λ y other was. k.left tale.moment tale.story client.number y.number y.taken (flip client.number y.number other) was)
          (k.all_left tale.moment tale.story tale.wires client.number (length tale.clients) so.all) so)
          (told_one tale tale refl refl refl (k.unrouted tale client message taking up at is) (λ y other was. was) so.all so)
      taken_so tale message taking (Some r) at up few is so = by_request (requested setup (view_of setup tale) plan client (suc client.taken) r message.payload) refl where
        plain : r.mirror ≡ None
        plain = subst IsPlain at (lone name)

        by_request : (o : Option Request) → requested setup (view_of setup tale) plan client (suc client.taken) r message.payload ≡ o
            → TakesOne tale.moment client tale (with_client onward (due_by client (suc client.taken) r o tale))
        by_request None asked =
            told_one tale (tell Broke tale) refl refl refl (k.breaks tale client message taking up is) (λ y other was. k.broke tale.moment tale.story y.number y.taken was)
            (k.all_broke tale.moment tale.story tale.wires (length tale.clients) so.all) so
        by_request (Some request) asked =
            let due : Happening = BecameDue client.number r.hostgroup (suc client.taken) request.key request.command r.multiplex in
            subst (λ (o : Option Hostgroup). TakesOne tale.moment client tale (with_client onward (copied name request.command o (tell due tale)))) (sym plain)
            (told_one tale (tell due tale) refl refl refl (k.comes tale client message r request taking asked up at is)
            (λ y other was. k.other tale.moment tale.story client.number y.number y.taken r.hostgroup r request (suc client.taken) other was)
            (k.all_come tale (length tale.clients) client message r request taking few is so.all) so)

    goes_then : (m : ℕ) (client : Client) (old mid new : Tale) → Goes m client old mid → Goes m (record client { taken = suc client.taken }) mid new → Goes m client old new
    goes_then m client old mid new first second = record {
      same = second.same;
      so = second.so;
      others = λ other apart is. second.others other apart (first.others other apart is);
      size = second.size ∙ first.size;
    }

    stays_so : (m : ℕ) (client : Client) (tale : Tale) → tale.moment ≡ m → AreSo m tale.story tale.wires tale.clients → Goes m client tale tale
    stays_so m client tale same so = record { same = same; so = so; others = λ other apart is. is; size = refl }

    up_so : (most : ℕ) (m : ℕ) (client : Client) (tale : Tale) → tale.moment ≡ m → client.number.0 ≤ length tale.clients → IsSo m tale.story client
        → AreSo m tale.story tale.wires tale.clients → Each k.Q (takings_of most setup plan client tale) → Goes m client tale (taken_up most setup plan client tale)
    up_so zero m client tale same few is so takings = stays_so m client tale same so
    up_so (suc most) m client tale same few is so takings = by_found (slice_get (messages plan client) client.taken) (up_so most m next) takings where
      next : Client
      next = record client { taken = suc client.taken }

      goes_by : Option Tale → Tale
      goes_by found = option_map_or (λ other. taken_up most setup plan next (with_client next other)) found tale

      Later : Type 0
      Later = (t : Tale) → t.moment ≡ m → client.number.0 ≤ length t.clients → IsSo m t.story next → AreSo m t.story t.wires t.clients → Each k.Q (takings_of most setup plan next t)
          → Goes m next t (taken_up most setup plan next t)

      takings_by_found : Option Framed → Option Tale → List Taking
      takings_by_found found other = taking_then client tale found other (λ o. takings_of most setup plan next (with_client next o))

      by_found : (found : Option Framed) → Later → Each k.Q (takings_by_found found (next_taken setup plan client found tale))
          → Goes m client tale (goes_by (next_taken setup plan client found tale))
      by_found None later takings = stays_so m client tale same so
      by_found (Some message) later takings = by_test (is_up setup plan client tale) refl takings where
        other : Tale
        other = with_client next (taken_by setup plan client (suc client.taken) message (plan.routes (name_of client (suc client.taken))) tale)

        then_taken : Bool → Option Tale
        then_taken b = if b then Some (taken_by setup plan client (suc client.taken) message (plan.routes (name_of client (suc client.taken))) tale) else None

        by_test : (b : Bool) → is_up setup plan client tale ≡ b → Each k.Q (takings_by_found (Some message) (then_taken b)) → Goes m client tale (goes_by (then_taken b))
        by_test false up takings = stays_so m client tale same so
        by_test true up takings =
            let one : TakesOne m client tale other =
            subst (λ n. TakesOne n client tale other) same
            (taken_so client tale message takings.0 (plan.routes (name_of client (suc client.taken))) refl up few (subst (λ n. IsSo n tale.story client) (sym same) is)
            (subst (λ n. AreSo n tale.story tale.wires tale.clients) (sym same) so)) in
            goes_then m client tale other (taken_up most setup plan next other) one.goes
            (later other one.goes.same (subst (λ n. client.number.0 ≤ n) (sym one.goes.size) few) one.now one.goes.so takings.1)

    -- of those that are still to go on it stays so
    still_all : (m : ℕ) (client : Client) (old new : Story) (from : ℕ) (xs : List Client) → AreNumbered from xs → client.number.0 < from
        → ((other : Client) → is_client client.number other.number ≡ false → IsSo m old other → IsSo m new other) → Each (IsSo m old) xs → Each (IsSo m new) xs
    still_all m client old new from [] are less keeps all = tt
    still_all m client old new from (x ∷ xs) are less keeps all = (
      keeps x (ne_eqb client.number.0 x.number.0 (λ same. let at : x.number.0 ≡ from = are.0 in omega (arith, same, less, at))) all.0,
      still_all m client old new (suc from) xs are.1 (omega (arith, less)) keeps all.1,
    )

    abbrev Still : (m : ℕ) → Tale → Type 0
    Still m tale = (tale.moment ≡ m) × AreSo m tale.story tale.wires tale.clients

    each_parts : (xs ys : List Taking) → Each k.Q (xs ++ ys) → Each k.Q xs × Each k.Q ys
    each_parts [] ys all = (tt, all)
    each_parts (x ∷ xs) ys all = let rest = each_parts xs ys all.1 in ((all.0, rest.0), rest.1)

    going_so : (m : ℕ) (view : View) (e : Entry) (from : ℕ) (xs : List Client) (tale : Tale) → tale.moment ≡ m → AreNumbered from xs
        → Each (λ (x : Client). x.number.0 ≤ length tale.clients) xs → Each (IsSo m tale.story) xs → AreSo m tale.story tale.wires tale.clients
        → Each k.Q (takings_from setup plan view e xs tale) → Still m (fold (client_goes_on setup plan view e) tale xs)
    going_so m view e from [] tale same are few each so takings = (same, so)
    going_so m view e from (x ∷ xs) tale same are few each so takings =
        let most = length (messages plan x) in
        let next : Tale = client_goes_on setup plan view e tale x in
        let parts = each_parts (takings_by setup plan view e tale x) (takings_from setup plan view e xs next) takings in
        let one : Goes m x tale next =
        called ((is_event_of view x e || gives_up plan tale.moment (name_of x x.taken)) && not (is_before tale.moment (plan.ends x.number)))
        (λ all. up_so most m x tale same few.0 each.0 so all) (stays_so m x tale same so) parts.0 in
        let at : x.number.0 ≡ from = are.0 in
        going_so m view e (suc from) xs next one.same are.1 (subst (λ n. Each (λ (y : Client). y.number.0 ≤ n) xs) (sym one.size) few.1)
        (still_all m x tale.story next.story (suc from) xs are.1 (omega (arith, at)) one.others each.1) one.so parts.1
      where
        called : (b : Bool) → (Each k.Q (takings_of (length (messages plan x)) setup plan x tale) → Goes m x tale (taken_up (length (messages plan x)) setup plan x tale)) → Goes m x tale tale
            → Each k.Q (if b then takings_of (length (messages plan x)) setup plan x tale else []) → Goes m x tale (if b then taken_up (length (messages plan x)) setup plan x tale else tale)
        called true goes stays all = goes all
        called false goes stays all = stays

    numbers_within : (from n : ℕ) (xs : List Client) → AreNumbered from xs → from + length xs ≤ n + 1 → Each (λ (x : Client). x.number.0 ≤ n) xs
    numbers_within from n [] are few = tt
    numbers_within from n (x ∷ xs) are few = (
      let at : x.number.0 ≡ from = are.0 in omega (arith, at, few),
      numbers_within (suc from) n xs are.1 (omega (arith, few)),
    )

    pub step_so : (tale : Tale) (e : Entry) → AreNumbered 1 tale.clients → AreSo (suc tale.moment) (told setup plan tale e).story (told setup plan tale e).wires (told setup plan tale e).clients
        → Each k.Q (takings_at setup plan tale e) → Still (suc tale.moment) (tale_step setup plan tale e)
    step_so tale e are so takings =
        let now : ℕ = suc tale.moment in
        let first : Tale = told setup plan tale e in
        let heard : Tale = counted first in
        let free : Tale = links_are_freed setup plan heard in
        let gone : Tale = clients_go_on setup plan (view_of setup tale) e free in
        let ended : Tale = clients_are_ended plan gone in
        let last : Tale = tale_step setup plan tale e in
        let at_heard : heard.moment ≡ now = ap (λ n. suc n) (told_moment setup plan tale e) in
        let on_freed : AreSo now free.story free.wires first.clients = freeing_so now first.clients first.links heard at_heard so in
        let at_free : free.moment ≡ now = freeing_of (λ (t : Tale). t.moment) (λ story t. refl) (λ clients t. refl) setup plan first.links heard ∙ at_heard in
        let numbers : AreNumbered 1 free.clients = subst (AreNumbered 1) (sym (freed_clients setup plan tale e)) (numbered_told setup plan tale e are) in
        let there : AreSo now free.story free.wires free.clients = subst (AreSo now free.story free.wires) (sym (freed_clients setup plan tale e)) on_freed in
        let went : Still now gone =
        going_so now (view_of setup tale) e 1 free.clients free at_free numbers (numbers_within 1 (length free.clients) free.clients numbers (omega arith)) there.each there takings in
        let on_ended : AreSo now ended.story ended.wires gone.clients = ending_so now gone.clients gone.clients gone went.0 went.1 in
        let at_ended : ended.moment ≡ now = ends_moment plan gone.clients gone ∙ went.0 in
        let on_last : AreSo now last.story last.wires gone.clients = freeing_so now gone.clients ended.links ended at_ended on_ended in
        let at_last : last.moment ≡ now = freeing_of (λ (t : Tale). t.moment) (λ story t. refl) (λ clients t. refl) setup plan ended.links ended ∙ at_ended in
        (at_last, subst (AreSo now last.story last.wires) (sym (step_clients setup plan tale e)) on_last)

-- of messages of which nothing is asked
pub each_taking : (takings : List Taking) → Each (λ taking. Unit {0}) takings
each_taking [] = tt
each_taking (taking ∷ takings) = (tt, each_taking takings)
