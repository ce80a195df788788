-- Where the session of a client's last message was left since that became due, the client has ended, or the message is answered: kept by an
-- entry where it is so of whom its own losses are.
use Rattle.std.specs.Prelude.{◌≡◌, ◌⊎◌, ◌≤◌, ◌+◌, ℕ, suc, Bool, true, false, ◌||◌, fold, if◌then◌else◌, is_some, length, map, nat_le, List, [], ◌∷◌, Option, Some, None}
use Rattle.std.specs.Option.{option_and_then, option_map_or}
use Rattle.std.proofs.Common.{refl, sym, ap, ◌∙◌, subst, inl, inr, arith}
use Rattle.std.proofs.lemmas.Bool.{and_from, leb-true, le-leb, or_left}
use Rattle.std.proofs.lemmas.Bool.Decides.{nat_tests}
use Rattle.mx_base.specs.declared.names.LinkId.{LinkId}
use Rattle.mx_wire.specs.Log.{link_of}
use Rattle.mx_wire.specs.declared.entry.Entry.{Entry}
use Rattle.mx_wire.specs.declared.entry.Entry.TheVariants as entry
use Rattle.private_model.proofs.Maps.{client_of, name_of, same_number}
use Rattle.private_model.specs.Names.{ClientNo, Hostgroup, MessageName, SessionName}
use Rattle.private_model.specs.Story.{BecameDue, Freed, Gone, Happening, Left, Story, is_client, is_link_id, is_name}
use Rattle.private_model.specs.View.{Setup, present, session_in}
use Rattle.log_story.specs.Clients.{client_leaves}
use Rattle.log_story.specs.Executes.{Request}
use Rattle.log_story.specs.Owed.{name_of as named}
use Rattle.log_story.specs.Plan.{OwnAnswer, Plan, Route, is_by_now, is_now, own_at}
use Rattle.log_story.specs.Tale.{Client, Tale, client_gets, client_hears, is_to_server, link_in, new_client, tell, view_of}
use Rattle.log_story.specs.Telling.{is_lost_or_left, tale_step, told}
use Rattle.tale_world.specs.Tested.{has_broken}
use Rattle.router_promises.specs.Ends.{loses_client}
use Rattle.router_promises.specs.Now.{is_gone}
use Rattle.router_promises.specs.Takings.{Taking, message_in, takings_at}
use Rattle.shared_router.proofs.Dues.{either}
use Rattle.shared_router.proofs.Followed.{Follows, step_so}
use Rattle.shared_router.proofs.Inhand.{lost_since}
use Rattle.shared_router.proofs.Lastly.{answer_later, answer_more, broken_more, has_answer, message}
use Rattle.shared_router.proofs.Looked.{Each, each-last, each-map, each-so}
use Rattle.shared_router.proofs.Numbered.{AreNumbered, IsIn}
use Rattle.shared_router.proofs.Plain.{IsPlain}
use Rattle.shared_router.proofs.Seated.{clients_by, told_clients}
use Rattle.shared_router.proofs.Stilly.{IsStill, still_keeps}
use Rattle.shared_router.proofs.Walks.{Stays, gets_stays, hears_stays}

isnt : {A : Type 0} → false ≡ true → A
isnt is = absurd (cc)

no_some : {A B : Type 0} (a : A) → None ≡ Some a → B
no_some a is = absurd (cc)

now_by : (m : ℕ) (o : Option ℕ) → is_now m o ≡ true → is_by_now m o ≡ true
now_by m None is = isnt is
now_by m (Some n) is = grind (arith, nat_tests, is)

by_later : (m : ℕ) (o : Option ℕ) → is_by_now m o ≡ true → is_by_now (suc m) o ≡ true
by_later m None is = isnt is
by_later m (Some n) is = le-leb n (suc m) (let few : n ≤ m = leb-true n m is in omega (arith, few))

module _ (setup : Setup) (plan : Plan) where
  -- it ended, its message is answered, or a rule was broken
  pub data IsOver (m : ℕ) (story : Story) (c : ClientNo) (taken : ℕ) : Type 0 where
    HasEnded : is_by_now m (plan.ends c) ≡ true → IsOver m story c taken
    IsAnswered : has_answer setup plan m story (message setup plan c taken) ≡ true → IsOver m story c taken
    HasBroken : has_broken story ≡ true → IsOver m story c taken

  -- Whom an entry parts from its session, by what was known before it: its client's link is lost or closed, or the one that carries the session.
  pub data IsParted (tale : Tale) (e : Entry) (c : ClientNo) (taken : ℕ) (r : Route) : Type 0 where
    LosesClient : (x : Client) → IsIn x tale.clients → x.number ≡ c → loses_client e x ≡ true → IsParted tale e c taken r
    LosesLink : (x : Client) → IsIn x tale.clients → x.number ≡ c → x.taken ≡ taken → (link : LinkId) → link_of e ≡ Some link → is_to_server tale link ≡ true
        → session_in (link_in setup tale link).carries ≡ Some (present (view_of setup tale) c r.hostgroup) → IsParted tale e c taken r

  -- what is decided of a message that is taken up
  pub data IsMade (taking : Taking) : Type 0 where
    Ends : plan.ends taking.client.number ≡ Some taking.tale.moment → IsMade taking
    IsTold : (payloads : List (List ℕ)) → plan.own (message_in taking) ≡ Some (record { from = 0; payloads = payloads }) → IsMade taking
    GoesThere : (r : Route) → plan.routes (message_in taking) ≡ Some r → IsMade taking

  pub record Lapses (tale : Tale) (e : Entry) (m : ℕ) (story : Story) (c : ClientNo) (taken : ℕ) : Type 0 where
    pub left : plan.routes (message setup plan c taken) ≡ None → 1 ≤ taken → IsOver m story c taken
    pub lapsed : (r : Route) → plan.routes (message setup plan c taken) ≡ Some r → 1 ≤ taken → lost_since setup story c r.hostgroup ≡ true
        → IsOver m story c taken ⊎ ((is_gone e ≡ true) × IsParted tale e c taken r)

  -- of one whose last message went nowhere, or whose session was left since
  pub record IsLapse (m : ℕ) (story : Story) (x : Client) : Type 0 where
    pub left : plan.routes (message setup plan x.number x.taken) ≡ None → 1 ≤ x.taken → IsOver m story x.number x.taken
    pub lapsed : (r : Route) → plan.routes (message setup plan x.number x.taken) ≡ Some r → 1 ≤ x.taken → lost_since setup story x.number r.hostgroup ≡ true
        → IsOver m story x.number x.taken

  over_more : (m : ℕ) (past : Story) (e : Happening) (c : ClientNo) (t : ℕ) → IsOver m past c t → IsOver m (e ∷ past) c t
  over_more m past e c t (HasEnded is) = HasEnded is
  over_more m past e c t (IsAnswered is) = IsAnswered (answer_more setup plan m past e (message setup plan c t) is)
  over_more m past e c t (HasBroken is) = HasBroken (broken_more setup plan past e is)

  over_later : (m : ℕ) (story : Story) (c : ClientNo) (t : ℕ) → IsOver m story c t → IsOver (suc m) story c t
  over_later m story c t (HasEnded is) = HasEnded (by_later m (plan.ends c) is)
  over_later m story c t (IsAnswered is) = IsAnswered (answer_later setup plan m story (message setup plan c t) is)
  over_later m story c t (HasBroken is) = HasBroken is

  module _ (tale : Tale) (e : Entry) where
    abbrev Goes : (m : ℕ) → Story → ClientNo → (taken : ℕ) → Type 0
    Goes m story c t = Lapses tale e m story c t

    same_lost : (m : ℕ) (past : Story) (x : Happening) (c : ClientNo) (t : ℕ) → ((h : Hostgroup) → lost_since setup (x ∷ past) c h ≡ lost_since setup past c h)
        → Goes m past c t → Goes m (x ∷ past) c t
    same_lost m past x c t same goes = record {
      left = λ none some. over_more m past x c t (goes.left none some);
      lapsed = λ r routed some lost. elim (goes.lapsed r routed some (sym (same r.hostgroup) ∙ lost)) [
        | inl over ↦ inl (over_more m past x c t over)
        | inr parted ↦ inr parted
      ];
    }

    left_other : (m : ℕ) (past : Story) (x c : ClientNo) (t : ℕ) → is_client c x ≡ false → Goes m past c t → Goes m (Left x ∷ past) c t
    left_other m past x c t other goes = same_lost m past (Left x) c t (λ h. ap (λ b. b || lost_since setup past c h) other) goes

    due_other : (m : ℕ) (past : Story) (x c : ClientNo) (t : ℕ) (h : Hostgroup) (r : Route) (request : Request) (i : ℕ) → is_client x c ≡ false → Goes m past c t
        → Goes m (BecameDue x h i request.key request.command r.multiplex ∷ past) c t
    due_other m past x c t h r request i other goes = same_lost m past _ c t (λ g. ap (λ b. if b then false else lost_since setup past c g) other) goes

    -- one that goes nowhere is answered, or its client ends
    nowhere : (client : Client) (taking : Taking) (story : Story) → taking.client ≡ client → plan.routes (message setup plan client.number (suc client.taken)) ≡ None → IsMade taking
        → Goes taking.tale.moment story client.number (suc client.taken)
    nowhere client taking story same none made = record {
      left = λ also some. over made;
      lapsed = λ r routed some lost. no_some r (sym none ∙ routed);
    } where
      m : ℕ
      m = taking.tale.moment

      over : IsMade taking → IsOver m story client.number (suc client.taken)
      over (Ends ends) =
          HasEnded (ap (λ (x : Client). is_by_now m (plan.ends x.number)) (sym same) ∙ ap (is_by_now m) ends ∙ le-leb m m (omega arith))
      over (IsTold payloads told) =
          IsAnswered (or_left _ _ (ap (λ (x : Client). is_some (own_at plan m (named x (suc x.taken)))) (sym same)
          ∙ ap (λ (o : Option OwnAnswer). is_some (option_and_then (λ (a : OwnAnswer). if nat_le a.from m then Some a.payloads else None) o)) told
          ∙ ap (λ b. is_some (if b then Some payloads else None)) (le-leb 0 m (omega arith))))
      over (GoesThere r routed) = no_some r (sym none ∙ ap (λ (x : Client). plan.routes (named x (suc x.taken))) (sym same) ∙ routed)

    abbrev lapses : Follows setup plan
    lapses = record {
      P = Lapses tale e;
      G = λ m story wires n. Unit {0};
      Q = IsMade;
      freed = λ t link c n done is. same_lost t.moment t.story (Freed link) c n (λ h. refl) is;
      left = left_other;
      ended = λ m past x c t now same is. record {
        left = λ none some. HasEnded (subst (λ (n : ClientNo). is_by_now m (plan.ends n) ≡ true) (sym (client_of c x same)) (now_by m (plan.ends x) now));
        lapsed = λ r routed some lost. inl (HasEnded (subst (λ (n : ClientNo). is_by_now m (plan.ends n) ≡ true) (sym (client_of c x same)) (now_by m (plan.ends x) now)));
      };
      broke = λ m past c t is. record { left = λ none some. HasBroken refl; lapsed = λ r routed some lost. inl (HasBroken refl) };
      other = due_other;
      unrouted = λ t client text made up none is. nowhere client (record { client = client; message = text; tale = t }) t.story refl none made;
      resets = λ t client text made up none is. nowhere client (record { client = client; message = text; tale = t }) (Left client.number ∷ t.story) refl none made;
      comes = λ t client text r request taking asked up at is. record {
        left = λ none some. no_some r (sym none ∙ at);
        lapsed = λ s routed some lost. isnt (sym (ap (λ b. if b then false else lost_since setup t.story client.number s.hostgroup) (same_number client.number.0)) ∙ lost);
      };
      breaks = λ t client text taking up is. record { left = λ none some. HasBroken refl; lapsed = λ r routed some lost. inl (HasBroken refl) };
      all_freed = λ t link n done is. tt;
      all_left = λ m past wires x n is. tt;
      all_broke = λ m past wires n is. tt;
      all_come = λ t n client text r request made few is all. tt;
    }

    module _ (lone : (m : MessageName) → IsPlain (plan.routes m)) where
      abbrev Are : (m : ℕ) → Story → List Client → Type 0
      Are m story xs = Each (λ (x : Client). Goes m story x.number x.taken) xs

      -- An entry is told by which no link is lost.

      one_moves : (m : ℕ) (story : Story) (f : Client → Client) → Stays f → (x : Client) → Goes m story x.number x.taken → Goes m story (f x).number (f x).taken
      one_moves m story f stays x is =
          subst (λ n. Goes m story n (f x).taken) (sym (stays.number x)) (subst (λ n. Goes m story x.number n) (sym (stays.taken x)) is)

      moves : (m : ℕ) (story : Story) (f : Client → Client) → Stays f → (xs : List Client) → Are m story xs → Are m story (map f xs)
      moves m story f stays xs are = each-map (λ (x : Client). Goes m story x.number x.taken) (λ (x : Client). Goes m story x.number x.taken) f xs (one_moves m story f stays) are

      still_more : (m : ℕ) (xs : List Client) (past : Story) (x : Happening) → IsStill x → Are m past xs → Are m (x ∷ past) xs
      still_more m xs past x still are =
          each-so (λ (y : Client). Goes m past y.number y.taken) (λ (y : Client). Goes m (x ∷ past) y.number y.taken) xs
          (λ y is. same_lost m past x y.number y.taken (by_happening x still y.number) is) are
        where
          by_happening : (x : Happening) → IsStill x → (c : ClientNo) (h : Hostgroup) → lost_since setup (x ∷ past) c h ≡ lost_since setup past c h
          by_happening (BecameDue client hostgroup ordinal key command multiplex) still c h = absurd still
          by_happening (Gone link) still c h = absurd still
          by_happening (Left client) still c h = absurd still
          by_happening _ still c h = refl

      told_still : is_gone e ≡ false → Are tale.moment tale.story tale.clients → Are tale.moment (told setup plan tale e).story (told setup plan tale e).clients
      told_still none are =
          subst (λ xs. Are tale.moment (told setup plan tale e).story xs) (sym (told_clients setup plan tale e))
          (by_entry e (told setup plan tale e).story (still_keeps setup plan lone (λ story. Are tale.moment story tale.clients) (still_more tale.moment tale.clients) tale e none are))
        where
          by_entry : (x : Entry) (story : Story) → Are tale.moment story tale.clients → Are tale.moment story (clients_by setup plan tale x)
          by_entry (entry.Accepted port link salt) story is =
              each-last (λ (x : Client). Goes tale.moment story x.number x.taken) tale.clients (new_client (length tale.clients + 1) port link salt) is
              (record { left = λ none some. absurd (omega (arith, some)); lapsed = λ r routed some lost. absurd (omega (arith, some)) })
          by_entry (entry.Got link bytes) story is =
              either (Are tale.moment story) (is_to_server tale link) tale.clients (map (client_hears link bytes) tale.clients) is
              (moves tale.moment story (client_hears link bytes) (hears_stays link bytes) tale.clients is)
          by_entry (entry.Wrote link tag bytes) story is =
              either (Are tale.moment story) (is_to_server tale link) tale.clients (map (client_gets link (length bytes)) tale.clients) is
              (moves tale.moment story (client_gets link (length bytes)) (gets_stays link (length bytes)) tale.clients is)
          by_entry _ story is = is

      -- One is lost.

      module _ (link : LinkId) (named : link_of e ≡ Some link) (gone : is_gone e ≡ true) (loses : (x : Client) → is_link_id x.link link ≡ true → loses_client e x ≡ true)
          (are : Each (λ (x : Client). IsLapse tale.moment tale.story x) tale.clients) where
        gone_one : is_to_server tale link ≡ true → (x : Client) → IsIn x tale.clients → IsLapse tale.moment tale.story x
            → Goes tale.moment (Gone link ∷ tale.story) x.number x.taken
        gone_one there x within was = record {
          left = λ none some. over_more tale.moment tale.story (Gone link) x.number x.taken (was.left none some);
          lapsed = λ r routed some lost. by_session r routed some (session_in (link_in setup tale link).carries) refl lost;
        } where
          by_lost : (r : Route) → plan.routes (message setup plan x.number x.taken) ≡ Some r → 1 ≤ x.taken → lost_since setup tale.story x.number r.hostgroup ≡ true
              → IsOver tale.moment (Gone link ∷ tale.story) x.number x.taken ⊎ ((is_gone e ≡ true) × IsParted tale e x.number x.taken r)
          by_lost r routed some lost = inl (over_more tale.moment tale.story (Gone link) x.number x.taken (was.lapsed r routed some lost))

          by_session : (r : Route) → plan.routes (message setup plan x.number x.taken) ≡ Some r → 1 ≤ x.taken → (o : Option SessionName) → session_in (link_in setup tale link).carries ≡ o
              → (option_map_or (λ n. is_name (present (view_of setup tale) x.number r.hostgroup) n) o false || lost_since setup tale.story x.number r.hostgroup) ≡ true
              → IsOver tale.moment (Gone link ∷ tale.story) x.number x.taken ⊎ ((is_gone e ≡ true) × IsParted tale e x.number x.taken r)
          by_session r routed some None carries lost = by_lost r routed some lost
          by_session r routed some (Some n) carries lost = by_name (is_name (present (view_of setup tale) x.number r.hostgroup) n) refl lost where
            by_name : (b : Bool) → is_name (present (view_of setup tale) x.number r.hostgroup) n ≡ b → (b || lost_since setup tale.story x.number r.hostgroup) ≡ true
                → IsOver tale.moment (Gone link ∷ tale.story) x.number x.taken ⊎ ((is_gone e ≡ true) × IsParted tale e x.number x.taken r)
            by_name true same lost =
                inr (gone, LosesLink x within refl refl link named there (carries ∙ ap (λ (k : SessionName). Some k) (sym (name_of (present (view_of setup tale) x.number r.hostgroup) n same))))
            by_name false other lost = by_lost r routed some lost

        each_gone : is_to_server tale link ≡ true → (xs : List Client) → ((x : Client) → IsIn x xs → IsIn x tale.clients) → Each (λ (x : Client). IsLapse tale.moment tale.story x) xs
            → Are tale.moment (Gone link ∷ tale.story) xs
        each_gone there [] within all = tt
        each_gone there (x ∷ xs) within all = (gone_one there x (within x (inl refl)) all.0, each_gone there xs (λ y is. within y (inr is)) all.1)

        as_goes : (xs : List Client) → Each (λ (x : Client). IsLapse tale.moment tale.story x) xs → Are tale.moment tale.story xs
        as_goes xs all = each-so (λ (x : Client). IsLapse tale.moment tale.story x) (λ (x : Client). Goes tale.moment tale.story x.number x.taken) xs
            (λ x is. record { left = is.left; lapsed = λ r routed some lost. inl (is.lapsed r routed some lost) }) all

        -- a client of that link leaves
        left_one : (z : Client) → IsIn z tale.clients → is_link_id z.link link ≡ true → (past : Story) (x : Client) → Goes tale.moment past x.number x.taken
            → Goes tale.moment (Left z.number ∷ past) x.number x.taken
        left_one z within its past x goes = by_test (is_client x.number z.number) refl where
          by_test : (b : Bool) → is_client x.number z.number ≡ b → Goes tale.moment (Left z.number ∷ past) x.number x.taken
          by_test true same = record {
            left = λ none some. over_more tale.moment past (Left z.number) x.number x.taken (goes.left none some);
            lapsed = λ r routed some lost. inr (gone, LosesClient z within (sym (client_of x.number z.number same)) (loses z its));
          }
          by_test false other = left_other tale.moment past z.number x.number x.taken other goes

        leaving : (zs : List Client) → ((z : Client) → IsIn z zs → IsIn z tale.clients) → (t : Tale) → Are tale.moment t.story tale.clients
            → Are tale.moment (fold (client_leaves link) t zs).story tale.clients
        leaving [] within t all = all
        leaving (z ∷ zs) within t all = by_test (is_link_id z.link link) refl (leaving zs (λ y is. within y (inr is))) where
          by_test : (b : Bool) → is_link_id z.link link ≡ b
              → ((t : Tale) → Are tale.moment t.story tale.clients → Are tale.moment (fold (client_leaves link) t zs).story tale.clients)
              → Are tale.moment (fold (client_leaves link) (if b then tell (Left z.number) t else t) zs).story tale.clients
          by_test true its later =
              later (tell (Left z.number) t)
              (each-so (λ (x : Client). Goes tale.moment t.story x.number x.taken) (λ (x : Client). Goes tale.moment (Left z.number ∷ t.story) x.number x.taken) tale.clients
              (λ x is. left_one z (within z (inl refl)) its t.story x is) all)
          by_test false other later = later t all

        losing : Are tale.moment (is_lost_or_left link tale).story tale.clients
        losing = by_test (is_to_server tale link) refl where
          by_test : (b : Bool) → is_to_server tale link ≡ b
              → Are tale.moment (if b then tell (Gone link) tale else fold (client_leaves link) tale tale.clients).story tale.clients
          by_test true there = each_gone there tale.clients (λ x is. is) are
          by_test false none = leaving tale.clients (λ z is. is) tale (as_goes tale.clients are)

      later_all : (story : Story) (xs : List Client) → Are tale.moment story xs → Are (suc tale.moment) story xs
      later_all story xs all =
          each-so (λ (x : Client). Goes tale.moment story x.number x.taken) (λ (x : Client). Goes (suc tale.moment) story x.number x.taken) xs
          (λ x goes. record {
            left = λ none some. over_later tale.moment story x.number x.taken (goes.left none some);
            lapsed = λ r routed some lost. elim (goes.lapsed r routed some lost) [
              | inl over ↦ inl (over_later tale.moment story x.number x.taken over)
              | inr parted ↦ inr parted
            ];
          }) all

      told_goes : Each (λ (x : Client). IsLapse tale.moment tale.story x) tale.clients → Are tale.moment (told setup plan tale e).story (told setup plan tale e).clients
      told_goes are = by_entry e refl where
        as_told : Are tale.moment tale.story tale.clients
        as_told = each-so (λ (x : Client). IsLapse tale.moment tale.story x) (λ (x : Client). Goes tale.moment tale.story x.number x.taken) tale.clients
            (λ x is. record { left = is.left; lapsed = λ r routed some lost. inl (is.lapsed r routed some lost) }) are

        Wanted : Entry → Type 0
        Wanted x = Are tale.moment (told setup plan tale x).story (told setup plan tale x).clients

        -- whose link it is
        its : (x : Entry) (link : LinkId) → x ≡ e → link_of x ≡ Some link → is_gone x ≡ true → told setup plan tale x ≡ is_lost_or_left link tale
            → ((z : Client) → is_link_id z.link link ≡ true → loses_client x z ≡ true) → Wanted x
        its x link same named gone tells loses =
            subst (λ (t : Tale). Are tale.moment t.story t.clients) (sym tells)
            (subst (λ xs. Are tale.moment (is_lost_or_left link tale).story xs) (sym (ap (λ (t : Tale). t.clients) (sym tells) ∙ clients_so x link named gone tells))
            (losing link (ap link_of (sym same) ∙ named) (ap is_gone (sym same) ∙ gone)
            (λ z at. subst (λ (y : Entry). loses_client y z ≡ true) same (loses z at)) are))
          where
            clients_so : (x : Entry) (link : LinkId) → link_of x ≡ Some link → is_gone x ≡ true → told setup plan tale x ≡ is_lost_or_left link tale → (told setup plan tale x).clients ≡ tale.clients
            clients_so x link named gone tells = told_clients setup plan tale x ∙ by_gone x gone where
              by_gone : (x : Entry) → is_gone x ≡ true → clients_by setup plan tale x ≡ tale.clients
              by_gone (entry.Ended l) is = refl
              by_gone (entry.ReadFailed l) is = refl
              by_gone (entry.WriteFailed l) is = refl
              by_gone (entry.Closed l) is = refl
              by_gone _ is = isnt is

        still : (x : Entry) → x ≡ e → is_gone x ≡ false → Wanted x
        still x same none = subst Wanted (sym same) (told_still (ap is_gone (sym same) ∙ none) as_told)

        by_entry : (x : Entry) → x ≡ e → Wanted x
        by_entry (entry.Ended l) same = its (entry.Ended l) l same refl refl refl (λ z at. and_from (is_link_id z.link l) true at refl)
        by_entry (entry.ReadFailed l) same = its (entry.ReadFailed l) l same refl refl refl (λ z at. and_from (is_link_id z.link l) true at refl)
        by_entry (entry.WriteFailed l) same = its (entry.WriteFailed l) l same refl refl refl (λ z at. and_from (is_link_id z.link l) true at refl)
        by_entry (entry.Closed l) same = its (entry.Closed l) l same refl refl refl (λ z at. and_from (is_link_id z.link l) true at refl)
        by_entry _ same = still _ same refl

      -- so it is behind the entry, of whom it parts from no session
      pub step_lapses : AreNumbered 1 tale.clients → Each (λ (x : Client). IsLapse tale.moment tale.story x) tale.clients → Each IsMade (takings_at setup plan tale e)
          → ((x : Client) → IsIn x (tale_step setup plan tale e).clients → (r : Route) → plan.routes (message setup plan x.number x.taken) ≡ Some r → 1 ≤ x.taken → is_gone e ≡ true
          → IsParted tale e x.number x.taken r → IsOver (tale_step setup plan tale e).moment (tale_step setup plan tale e).story x.number x.taken)
          → Each (λ (x : Client). IsLapse (tale_step setup plan tale e).moment (tale_step setup plan tale e).story x) (tale_step setup plan tale e).clients
      step_lapses numbers are made parted =
          let last : Tale = tale_step setup plan tale e in
          let went = step_so setup plan lapses lone tale e numbers (record { each = later_all (told setup plan tale e).story (told setup plan tale e).clients (told_goes are); all = tt }) made in
          all_in last.clients (λ x is. is) (subst (λ n. Are n last.story last.clients) (sym went.0) went.1.each)
        where
          all_in : (xs : List Client) → ((x : Client) → IsIn x xs → IsIn x (tale_step setup plan tale e).clients)
              → Are (tale_step setup plan tale e).moment (tale_step setup plan tale e).story xs
              → Each (λ (x : Client). IsLapse (tale_step setup plan tale e).moment (tale_step setup plan tale e).story x) xs
          all_in [] within all = tt
          all_in (x ∷ xs) within all = (
            record {
              left = all.0.left;
              lapsed = λ r routed some lost. elim (all.0.lapsed r routed some lost) [
                | inl over ↦ over
                | inr is ↦ parted x (within x (inl refl)) r routed some is.0 is.1
              ];
            },
            all_in xs (λ y is. within y (inr is)) all.1,
          )
