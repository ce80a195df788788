-- Of each client: its last message that went to a server is the last of it that became due, and all before its last are answered; and each
-- message became due once.
use Rattle.std.specs.Prelude.{◌≡◌, ◌⊎◌, ◌+◌, ◌≤◌, ◌<◌, ℕ, zero, suc, Bool, true, false, ◌||◌, fold, is_some, length, map, nat_eq, nat_le, if◌then◌else◌, List, [], ◌∷◌, ◌++◌, Option, Some, None}
use Rattle.std.specs.Option.{option_and_then}
use Rattle.std.proofs.Common.{refl, sym, ap, ◌∙◌, subst, inl, inr, arith, length-append}
use Rattle.std.proofs.lemmas.Bool.{and_parts, eqb-true, leb-true, le-leb, or_left, or_right}
use Rattle.std.proofs.lemmas.Bool.Decides.{nat_tests}
use Rattle.std.proofs.lemmas.List.{length-map}
use Rattle.mx_base.specs.declared.names.LinkId.{LinkId}
use Rattle.mx_wire.specs.Log.{Log}
use Rattle.mx_wire.specs.declared.entry.Entry.{Entry}
use Rattle.mx_wire.specs.declared.entry.Entry.TheVariants as entry
use Rattle.private_model.proofs.Maps.{same_number}
use Rattle.private_model.specs.Commands.{Reply}
use Rattle.private_model.specs.Names.{ClientNo, Hostgroup, MessageName}
use Rattle.private_model.specs.Story.{BecameDue, Broke, Capture, End, Freed, Happening, Heard, Left, Own, Prep, Question, Statement, Story, Sync, for_statement, is_client, is_message, message_of, put}
use Rattle.private_model.specs.View.{Answered, Asked, Quiet, Setup, Stage, View, view_after, view_heard}
use Rattle.log_story.specs.Clients.{is_answered, is_up}
use Rattle.log_story.specs.Executes.{Request}
use Rattle.log_story.specs.Owed.{name_of}
use Rattle.log_story.specs.Plan.{OwnAnswer, Plan, Route, own_at}
use Rattle.log_story.specs.Tale.{Client, Tale, client_gets, client_hears, is_to_server, new_client, view_of}
use Rattle.log_story.specs.Telling.{tale_step, told}
use Rattle.tale_world.specs.Tested.{has_broken}
use Rattle.router_promises.specs.Takings.{takings_at}
use Rattle.shared_router.proofs.Dues.{AllDue, all_later, either}
use Rattle.shared_router.proofs.Followed.{Follows, each_taking, step_so}
use Rattle.shared_router.proofs.Looked.{Each, each-last, each-map, each-so}
use Rattle.shared_router.proofs.Numbered.{AreNumbered}
use Rattle.shared_router.proofs.Others.{IsOther, entry_keeps}
use Rattle.shared_router.proofs.Plain.{IsPlain}
use Rattle.shared_router.proofs.Seated.{clients_by, numbered_step, told_clients}
use Rattle.shared_router.proofs.Walks.{Stays, gets_stays, hears_stays}

pub record Last : Type 0 where
  pub hostgroup : Hostgroup
  pub ordinal : ℕ

-- the last message of a client that became due
abbrev pub last_due : Story → ClientNo → Option Last
last_due [] c = None
last_due (BecameDue client hostgroup ordinal key command multiplex ∷ past) c =
    if is_client client c then Some (record { hostgroup = hostgroup; ordinal = ordinal }) else last_due past c
last_due (e ∷ past) c = last_due past c

-- a message becomes due behind those before it
abbrev pub AreRising : Story → Type 0
AreRising [] = Unit {0}
AreRising (BecameDue client hostgroup ordinal key command multiplex ∷ past) =
    AllDue (λ m. m.client ≡ client → m.ordinal < ordinal) past × AreRising past
AreRising (e ∷ past) = AreRising past

isnt : {A : Type 0} → false ≡ true → A
isnt is = absurd (cc)

no_some : {A B : Type 0} (a : A) → None ≡ Some a → B
no_some a is = absurd (cc)

some_of : {A : Type 0} (a b : A) → Some a ≡ Some b → a ≡ b
some_of a b is = cc

-- what was answered stays so

answered_by : (view : View) (reply : Reply) (question : Question) (m : MessageName) → is_some (view.replies m) ≡ true
    → is_some (for_statement question (λ n due. put is_message view.replies (message_of n due) (Some reply)) view.replies m) ≡ true
answered_by view reply (Statement n due) m is = either (λ (o : Option Reply). is_some o ≡ true) (is_message m (message_of n due)) (Some reply) (view.replies m) refl is
answered_by view reply (Prep n key text) m is = is
answered_by view reply (Sync n command) m is = is
answered_by view reply (Own command) m is = is
answered_by view reply (End n) m is = is
answered_by view reply (Capture n) m is = is

heard_by : (setup : Setup) (view : View) (link : LinkId) (reply : Reply) (stage : Stage) (m : MessageName) → is_some (view.replies m) ≡ true
    → is_some ((view_heard setup view link reply stage).replies m) ≡ true
heard_by setup view link reply Quiet m is = is
heard_by setup view link reply (Asked question) m is = is
heard_by setup view link reply (Answered question) m is = answered_by view reply question m is

pub replied_more : (setup : Setup) (past : Story) (e : Happening) (m : MessageName) → is_some ((view_after setup past).replies m) ≡ true
    → is_some ((view_after setup (e ∷ past)).replies m) ≡ true
replied_more setup past (Heard link reply) m is = heard_by setup (view_after setup past) link reply ((view_after setup past).links link).stage m is
replied_more setup past _ m is = is

module _ (setup : Setup) (plan : Plan) where
  -- by then the router answered it, or its reply was read
  abbrev pub has_answer : (moment : ℕ) → Story → MessageName → Bool
  has_answer moment story m = is_some (own_at plan moment m) || is_some ((view_after setup story).replies m)

  abbrev pub message : ClientNo → (ordinal : ℕ) → MessageName
  message c ordinal = record { client = c; ordinal = ordinal }

  abbrev pub IsUpTo : ClientNo → (taken : ℕ) → MessageName → Type 0
  IsUpTo c taken m = m.client ≡ c → m.ordinal ≤ taken

  abbrev pub IsAmong : (count : ℕ) → MessageName → Type 0
  IsAmong count m = m.client.0 ≤ count

  pub record IsLast (moment : ℕ) (story : Story) (c : ClientNo) (taken : ℕ) : Type 0 where
    pub due : (r : Route) → plan.routes (message c taken) ≡ Some r → 1 ≤ taken
        → (last_due story c ≡ Some (record { hostgroup = r.hostgroup; ordinal = taken })) ⊎ (has_broken story ≡ true)
    pub before : (i : ℕ) → suc i < taken → has_answer moment story (message c (suc i)) ≡ true
    pub old : AllDue (IsUpTo c taken) story

  pub record AreOrdered (story : Story) (count : ℕ) : Type 0 where
    pub rising : AreRising story
    pub within : AllDue (IsAmong count) story

  -- As more is told.

  pub broken_more : (past : Story) (e : Happening) → has_broken past ≡ true → has_broken (e ∷ past) ≡ true
  broken_more past Broke is = refl
  broken_more past _ is = is

  last_more : (past : Story) (e : Happening) (c : ClientNo) → IsOther e → last_due (e ∷ past) c ≡ last_due past c
  last_more past (BecameDue client hostgroup ordinal key command multiplex) c other = absurd other
  last_more past _ c other = refl

  all_more : (P : MessageName → Type 0) (past : Story) (e : Happening) → IsOther e → AllDue P past → AllDue P (e ∷ past)
  all_more P past (BecameDue client hostgroup ordinal key command multiplex) other all = absurd other
  all_more P past _ other all = all

  rising_more : (past : Story) (e : Happening) → IsOther e → AreRising past → AreRising (e ∷ past)
  rising_more past (BecameDue client hostgroup ordinal key command multiplex) other all = absurd other
  rising_more past _ other all = all

  or_more : (own a b : Bool) → (a ≡ true → b ≡ true) → (own || a) ≡ true → (own || b) ≡ true
  or_more true a b more is = refl
  or_more false a b more is = more is

  pub answer_more : (moment : ℕ) (past : Story) (e : Happening) (m : MessageName) → has_answer moment past m ≡ true → has_answer moment (e ∷ past) m ≡ true
  answer_more moment past e m is = or_more (is_some (own_at plan moment m)) _ _ (replied_more setup past e m) is

  one_more : (moment : ℕ) (past : Story) (e : Happening) (c : ClientNo) (taken : ℕ) → IsOther e → IsLast moment past c taken → IsLast moment (e ∷ past) c taken
  one_more moment past e c taken other last = record {
    due = λ r routed some. elim (last.due r routed some) [
      | inl is ↦ inl (last_more past e c other ∙ is)
      | inr broken ↦ inr (broken_more past e broken)
    ];
    before = λ i less. answer_more moment past e (message c (suc i)) (last.before i less);
    old = all_more (IsUpTo c taken) past e other last.old;
  }

  ordered_more : (past : Story) (e : Happening) (n : ℕ) → IsOther e → AreOrdered past n → AreOrdered (e ∷ past) n
  ordered_more past e n other are = record { rising = rising_more past e other are.rising; within = all_more (IsAmong n) past e other are.within }

  -- As an entry is counted.

  own_later : (moment : ℕ) (o : Option OwnAnswer) → is_some (option_and_then (λ (answer : OwnAnswer). if nat_le answer.from moment then Some answer.payloads else None) o) ≡ true
      → is_some (option_and_then (λ (answer : OwnAnswer). if nat_le answer.from (suc moment) then Some answer.payloads else None) o) ≡ true
  own_later moment None is = isnt is
  own_later moment (Some answer) is = by_test (nat_le answer.from moment) refl is where
    by_test : (b : Bool) → nat_le answer.from moment ≡ b → is_some (if b then Some answer.payloads else None) ≡ true
        → is_some (if nat_le answer.from (suc moment) then Some answer.payloads else None) ≡ true
    by_test true less is =
        ap (λ b. is_some (if b then Some answer.payloads else None)) (le-leb answer.from (suc moment) (let few : answer.from ≤ moment = leb-true answer.from moment less in omega (arith, few)))
    by_test false less is = isnt is

  pub answer_later : (moment : ℕ) (story : Story) (m : MessageName) → has_answer moment story m ≡ true → has_answer (suc moment) story m ≡ true
  answer_later moment story m is = by_own (is_some (own_at plan moment m)) refl is where
    by_own : (b : Bool) → is_some (own_at plan moment m) ≡ b → (b || is_some ((view_after setup story).replies m)) ≡ true → has_answer (suc moment) story m ≡ true
    by_own true at is = or_left _ _ (own_later moment (plan.own m) at)
    by_own false at is = or_right _ _ is

  one_later : (moment : ℕ) (story : Story) (c : ClientNo) (taken : ℕ) → IsLast moment story c taken → IsLast (suc moment) story c taken
  one_later moment story c taken last = record {
    due = last.due;
    before = λ i less. answer_later moment story (message c (suc i)) (last.before i less);
    old = last.old;
  }

  -- A message is taken up.

  -- the answer to the one before is there
  up_answer : (tale : Tale) (client : Client) → is_up setup plan client tale ≡ true
      → has_answer tale.moment tale.story (message client.number client.taken) ≡ true ⊎ (client.taken ≡ 0)
  up_answer tale client up = by_taken client.taken refl (and_parts (is_answered plan tale (view_of setup tale) client client.taken) _ up).0 where
    by_taken : (n : ℕ) → client.taken ≡ n → is_answered plan tale (view_of setup tale) client n ≡ true
        → has_answer tale.moment tale.story (message client.number client.taken) ≡ true ⊎ (client.taken ≡ 0)
    by_taken zero at is = inr at
    by_taken (suc n) at is = inl (subst (λ k. has_answer tale.moment tale.story (message client.number k) ≡ true) (sym at) is)

  before_next : (moment : ℕ) (old new : Story) (c : ClientNo) (taken : ℕ) → IsLast moment old c taken → has_answer moment old (message c taken) ≡ true ⊎ (taken ≡ 0)
      → ((m : MessageName) → has_answer moment old m ≡ true → has_answer moment new m ≡ true)
      → (i : ℕ) → suc i < suc taken → has_answer moment new (message c (suc i)) ≡ true
  before_next moment old new c taken last answered keeps i less = by_eq (nat_eq (suc i) taken) refl where
    by_eq : (b : Bool) → nat_eq (suc i) taken ≡ b → has_answer moment new (message c (suc i)) ≡ true
    by_eq true same =
        let is : suc i ≡ taken = eqb-true (suc i) taken same in
        elim answered [
          | inl was ↦ keeps (message c (suc i)) (subst (λ n. has_answer moment old (message c n) ≡ true) (sym is) was)
          | inr none ↦ absurd (omega (arith, none, is))
        ]
    by_eq false other =
        keeps (message c (suc i)) (last.before i (by_cases other))
      where
        by_cases : nat_eq (suc i) taken ≡ false → suc i < taken
        by_cases other = grind (arith, nat_tests, less, other)

  weaker : (story : Story) (c : ClientNo) (taken : ℕ) → AllDue (IsUpTo c taken) story → AllDue (IsUpTo c (suc taken)) story
  weaker story c taken all = all_later (IsUpTo c taken) (IsUpTo c (suc taken)) (λ m few same. let is = few same in omega (arith, is)) story all

  -- where no statement becomes due
  none_due : (tale : Tale) (client : Client) (e : Happening) → IsOther e → plan.routes (name_of client (suc client.taken)) ≡ None ⊎ (has_broken (e ∷ tale.story) ≡ true)
      → is_up setup plan client tale ≡ true → IsLast tale.moment tale.story client.number client.taken
      → IsLast tale.moment (e ∷ tale.story) client.number (suc client.taken)
  none_due tale client e other how up last = record {
    due = λ r routed some. elim how [
      | inl none ↦ no_some r (sym none ∙ routed)
      | inr broken ↦ inr broken
    ];
    before = before_next tale.moment tale.story (e ∷ tale.story) client.number client.taken last (up_answer tale client up) (answer_more tale.moment tale.story e);
    old = all_more (IsUpTo client.number (suc client.taken)) tale.story e other (weaker tale.story client.number client.taken last.old);
  }

  goes_nowhere : (tale : Tale) (client : Client) → is_up setup plan client tale ≡ true → plan.routes (name_of client (suc client.taken)) ≡ None
      → IsLast tale.moment tale.story client.number client.taken → IsLast tale.moment tale.story client.number (suc client.taken)
  goes_nowhere tale client up none last = record {
    due = λ r routed some. no_some r (sym none ∙ routed);
    before = before_next tale.moment tale.story tale.story client.number client.taken last (up_answer tale client up) (λ m is. is);
    old = weaker tale.story client.number client.taken last.old;
  }

  comes_due : (tale : Tale) (client : Client) (r : Route) (request : Request) → is_up setup plan client tale ≡ true → plan.routes (name_of client (suc client.taken)) ≡ Some r
      → IsLast tale.moment tale.story client.number client.taken
      → IsLast tale.moment (BecameDue client.number r.hostgroup (suc client.taken) request.key request.command r.multiplex ∷ tale.story) client.number (suc client.taken)
  comes_due tale client r request up at last = record {
    due = λ s routed some. inl (
        ap (λ b. if b then Some (record { hostgroup = r.hostgroup; ordinal = suc client.taken }) else last_due tale.story client.number) (same_number client.number.0)
        ∙ ap (λ (x : Route). Some (record { hostgroup = x.hostgroup; ordinal = suc client.taken })) (some_of r s (sym at ∙ routed)));
    before = before_next tale.moment tale.story
        (BecameDue client.number r.hostgroup (suc client.taken) request.key request.command r.multiplex ∷ tale.story) client.number client.taken last (up_answer tale client up) (λ m is. is);
    old = ((λ same. omega arith), weaker tale.story client.number client.taken last.old);
  }

  still : (m : ℕ) (past : Story) (x c : ClientNo) (t : ℕ) (h : Hostgroup) (r : Route) (request : Request) (i : ℕ) → is_client x c ≡ false → IsLast m past c t
      → IsLast m (BecameDue x h i request.key request.command r.multiplex ∷ past) c t
  still m past x c t h r request i other last = record {
    due = λ s routed some. elim (last.due s routed some) [
      | inl is ↦ inl (ap (λ b. if b then Some (record { hostgroup = h; ordinal = i }) else last_due past c) other ∙ is)
      | inr broken ↦ inr broken
    ];
    before = last.before;
    old = ((λ same. isnt (sym other ∙ ap (λ (n : ClientNo). nat_eq n.0 c.0) same ∙ same_number c.0)), last.old);
  }

  abbrev lasts : Follows setup plan
  lasts = record {
    P = IsLast;
    G = λ m story wires n. AreOrdered story n;
    Q = λ taking. Unit {0};
    freed = λ tale link c t done is. one_more tale.moment tale.story (Freed link) c t tt is;
    left = λ m past x c t apart is. one_more m past (Left x) c t tt is;
    ended = λ m past x c t now same is. one_more m past (Left x) c t tt is;
    broke = λ m past c t is. one_more m past Broke c t tt is;
    other = still;
    unrouted = λ tale client message taking up none is. goes_nowhere tale client up none is;
    resets = λ tale client message taking up none is. none_due tale client (Left client.number) tt (inl none) up is;
    comes = λ tale client message r request taking asked up at is. comes_due tale client r request up at is;
    breaks = λ tale client message taking up is. none_due tale client Broke tt (inr refl) up is;
    all_freed = λ tale link n done are. ordered_more tale.story (Freed link) n tt are;
    all_left = λ m past wires x n are. ordered_more past (Left x) n tt are;
    all_broke = λ m past wires n are. ordered_more past Broke n tt are;
    all_come = λ tale n client text r request taking few last are. record {
      rising = (all_later (IsUpTo client.number client.taken) (λ m. m.client ≡ client.number → m.ordinal < suc client.taken) (λ k less is. let at_most = less is in omega (arith, at_most)) tale.story last.old, are.rising);
      within = (few, are.within);
    };
  }

  module _ (lone : (m : MessageName) → IsPlain (plan.routes m)) where
    pub record AreLast (m : ℕ) (story : Story) (xs : List Client) : Type 0 where
      pub each : Each (λ (x : Client). IsLast m story x.number x.taken) xs
      pub all : AreOrdered story (length xs)

    abbrev OfClient : (m : ℕ) → Story → Client → Type 0
    OfClient m story x = IsLast m story x.number x.taken

    -- As clients are moved, and one comes.

    one_moves : (m : ℕ) (story : Story) (f : Client → Client) → Stays f → (x : Client) → OfClient m story x → OfClient m story (f x)
    one_moves m story f stays x is =
        subst (λ n. IsLast m story n (f x).taken) (sym (stays.number x)) (subst (λ n. IsLast m story x.number n) (sym (stays.taken x)) is)

    moves : (m : ℕ) (story : Story) (f : Client → Client) → Stays f → (xs : List Client) → AreLast m story xs → AreLast m story (map f xs)
    moves m story f stays xs are = record {
      each = each-map (OfClient m story) (OfClient m story) f xs (λ x is. one_moves m story f stays x is) are.each;
      all = subst (AreOrdered story) (sym (length-map xs f)) are.all;
    }

    one_comes : (m : ℕ) (story : Story) (xs : List Client) (one : Client) → one.number.0 ≡ length xs + 1 → one.taken ≡ 0 → AreLast m story xs → AreLast m story (xs ++ one ∷ [])
    one_comes m story xs one number none are = record {
      each = each-last (OfClient m story) xs one are.each (record {
        due = λ r routed some. absurd (omega (arith, some, none));
        before = λ i less. absurd (omega (arith, less, none));
        old = all_later (IsAmong (length xs)) (IsUpTo one.number one.taken) (λ k few same. absurd (let is : k.client.0 ≡ one.number.0 = ap (λ (c : ClientNo). c.0) same in omega (arith, few, is, number))) story are.all.within;
      });
      all = record {
        rising = are.all.rising;
        within = all_later (IsAmong (length xs)) (IsAmong (length (xs ++ one ∷ []))) (λ k few. let size : length (xs ++ one ∷ []) ≡ length xs + 1 = length-append xs (one ∷ []) in omega (arith, few, size)) story are.all.within;
      };
    }

    more : (m : ℕ) (xs : List Client) (past : Story) (e : Happening) → IsOther e → AreLast m past xs → AreLast m (e ∷ past) xs
    more m xs past e other are = record {
      each = each-so (OfClient m past) (OfClient m (e ∷ past)) xs (λ x is. one_more m past e x.number x.taken other is) are.each;
      all = ordered_more past e (length xs) other are.all;
    }

    later : (m : ℕ) (story : Story) (xs : List Client) → AreLast m story xs → AreLast (suc m) story xs
    later m story xs are = record {
      each = each-so (OfClient m story) (OfClient (suc m) story) xs (λ x is. one_later m story x.number x.taken is) are.each;
      all = are.all;
    }

    -- as an entry is told
    told_last : (tale : Tale) (e : Entry) → AreLast tale.moment tale.story tale.clients → AreLast tale.moment (told setup plan tale e).story (told setup plan tale e).clients
    told_last tale e are =
        subst (AreLast tale.moment (told setup plan tale e).story) (sym (told_clients setup plan tale e))
        (by_entry e (told setup plan tale e).story (entry_keeps setup plan (λ story. AreLast tale.moment story tale.clients) (more tale.moment tale.clients) tale e are))
      where
        by_entry : (e : Entry) (story : Story) → AreLast tale.moment story tale.clients → AreLast tale.moment story (clients_by setup plan tale e)
        by_entry (entry.Accepted port link salt) story is = one_comes tale.moment story tale.clients (new_client (length tale.clients + 1) port link salt) refl refl is
        by_entry (entry.Got link bytes) story is =
            either (AreLast tale.moment story) (is_to_server tale link) tale.clients (map (client_hears link bytes) tale.clients) is
            (moves tale.moment story (client_hears link bytes) (hears_stays link bytes) tale.clients is)
        by_entry (entry.Wrote link tag bytes) story is =
            either (AreLast tale.moment story) (is_to_server tale link) tale.clients (map (client_gets link (length bytes)) tale.clients) is
            (moves tale.moment story (client_gets link (length bytes)) (gets_stays link (length bytes)) tale.clients is)
        by_entry _ story is = is

    pub step_last : (tale : Tale) (e : Entry) → AreNumbered 1 tale.clients → AreLast tale.moment tale.story tale.clients
        → AreLast (tale_step setup plan tale e).moment (tale_step setup plan tale e).story (tale_step setup plan tale e).clients
    step_last tale e are all =
        let first : Tale = told setup plan tale e in
        let last : Tale = tale_step setup plan tale e in
        let was : AreLast (suc tale.moment) first.story first.clients = later tale.moment first.story first.clients (told_last tale e all) in
        let went = step_so setup plan lasts lone tale e are (record { each = was.each; all = was.all }) (each_taking (takings_at setup plan tale e)) in
        subst (λ n. AreLast n last.story last.clients) (sym went.0) (record { each = went.1.each; all = went.1.all })

    pub first_last : AreLast 0 [] []
    first_last = record { each = tt; all = record { rising = tt; within = tt } }

    -- along a log
    pub log_last : (log : Log) (tale : Tale) → AreNumbered 1 tale.clients → AreLast tale.moment tale.story tale.clients
        → AreLast (fold (tale_step setup plan) tale log).moment (fold (tale_step setup plan) tale log).story (fold (tale_step setup plan) tale log).clients
    log_last [] tale are all = all
    log_last (e ∷ log) tale are all = log_last log (tale_step setup plan tale e) (numbered_step setup plan tale e are) (step_last tale e are all)
