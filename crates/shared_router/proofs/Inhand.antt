-- The last message of a client that became due is in hand, or its reply is there: it is due in its session, or its statement stands on a link.
-- And its session is the present one, unless its client left, or its link was lost, since.
use Rattle.std.specs.Prelude.{◌≡◌, ◌⊎◌, ℕ, suc, Bool, true, false, ◌||◌, is_some, if◌then◌else◌, [], ◌∷◌, Option, Some, None}
use Rattle.std.specs.Option.{option_map_or}
use Rattle.std.proofs.Common.{refl, sym, ap, ◌∙◌, subst, inl, inr}
use Rattle.std.proofs.lemmas.Bool.{or_parts}
use Rattle.private_model.proofs.Maps.{client_of, link_of, name_of, same_link, same_message, same_name, same_number}
use Rattle.private_model.specs.Commands.{Command, Reply}
use Rattle.private_model.specs.Lawful.{IsLawful, MayCome}
use Rattle.private_model.specs.Names.{ClientNo, Hostgroup, LinkId, SessionName}
use Rattle.private_model.specs.Story.{BecameDue, Broke, Capture, Dropped, Due, End, Freed, Gone, Happening, Heard, Left, LoggedIn, Mirrored, Own, Prep, Question, Ran, Sent, Statement, Story, Sync, Unprepared}
use Rattle.private_model.specs.Story.{is_client, is_link_id, is_message, is_name, message_of, put}
use Rattle.private_model.specs.View.{Answered, Asked, Link, Quiet, Setup, Stage, View, asked, due_of, heard, lives_after, present, ran_by, session_in, view_after, view_heard, view_step}
use Rattle.log_story.proofs.Walking.{Kept}
use Rattle.shared_router.proofs.Lastly.{Last, last_due, replied_more}
use Rattle.shared_router.proofs.Tied.{Tied, first_tied, step_tied}

isnt : {A : Type 0} → false ≡ true → A
isnt is = absurd (cc)

no_some : {A B : Type 0} (a : A) → None ≡ Some a → B
no_some a is = absurd (cc)

some_of : {A : Type 0} (a b : A) → Some a ≡ Some b → a ≡ b
some_of a b is = cc

-- its statement stands there
abbrev pub IsStated : Stage → SessionName → Due → Type 0
IsStated stage n due = (stage ≡ Asked (Statement n due)) ⊎ (stage ≡ Answered (Statement n due))

pub data IsInHand (view : View) (n : SessionName) (ordinal : ℕ) : Type 0 where
  Waits : (due : Due) → view.dues n ≡ Some due → due.ordinal ≡ ordinal → IsInHand view n ordinal
  Stands : (l : LinkId) (due : Due) → IsStated (view.links l).stage n due → due.ordinal ≡ ordinal → IsInHand view n ordinal

module _ (setup : Setup) where
  -- since the last message of a client became due, the client left, or the link was lost that carried its present session there
  abbrev pub lost_since : Story → ClientNo → Hostgroup → Bool
  lost_since [] c h = false
  lost_since (BecameDue client hostgroup ordinal key command multiplex ∷ past) c h = if is_client client c then false else lost_since past c h
  lost_since (Gone link ∷ past) c h =
      option_map_or (λ n. is_name (present (view_after setup past) c h) n) (session_in ((view_after setup past).links link).carries) false || lost_since past c h
  lost_since (Left client ∷ past) c h = is_client c client || lost_since past c h
  lost_since (e ∷ past) c h = lost_since past c h

  pub record InHand (view : View) (lost : Bool) (c : ClientNo) (last : Last) : Type 0 where
    pub life : ℕ
    pub present : lost ≡ false → view.lives c last.hostgroup ≡ life
    pub how : IsInHand view (record { client = c; hostgroup = last.hostgroup; life = life }) last.ordinal

  abbrev pub IsReplied : View → ClientNo → Last → Type 0
  IsReplied view c last = is_some (view.replies (record { client = c; ordinal = last.ordinal })) ≡ true

  abbrev pub AreInHand : Story → Type 0
  AreInHand story = (c : ClientNo) (last : Last) → last_due story c ≡ Some last
      → InHand (view_after setup story) (lost_since story c last.hostgroup) c last ⊎ IsReplied (view_after setup story) c last

  -- What is due, or stands there, as more is told.

  abbrev Either : View → SessionName → ℕ → Type 0
  Either view n ordinal = IsInHand view n ordinal ⊎ (is_some (view.replies (record { client = n.client; ordinal = ordinal })) ≡ true)

  quiet_apart : {A : Type 0} (stage : Stage) (n : SessionName) (due : Due) → stage ≡ Quiet → IsStated stage n due → A
  quiet_apart stage n due quiet (inl is) = absurd (let same : Quiet ≡ Asked (Statement n due) = sym quiet ∙ is in cc)
  quiet_apart stage n due quiet (inr is) = absurd (let same : Quiet ≡ Answered (Statement n due) = sym quiet ∙ is in cc)

  -- where one link changes
  stated_put : (links : LinkId → Link) (link : LinkId) (value : Link) (l : LinkId) (n : SessionName) (due : Due) → IsStated (links l).stage n due
      → (IsStated (links link).stage n due → IsStated value.stage n due) → IsStated (put is_link_id links link value l).stage n due
  stated_put links link value l n due is keeps = by_test (is_link_id l link) refl where
    by_test : (b : Bool) → is_link_id l link ≡ b → IsStated (if b then value else links l).stage n due
    by_test true same = keeps (subst (λ (x : LinkId). IsStated (links x).stage n due) (link_of l link same) is)
    by_test false other = is

  moved_link : (view : View) (new : View) (link : LinkId) (value : Link) (n : SessionName) (ordinal : ℕ) → new.dues ≡ view.dues → new.links ≡ put is_link_id view.links link value
      → ((due : Due) → IsStated (view.links link).stage n due → IsStated value.stage n due) → IsInHand view n ordinal → IsInHand new n ordinal
  moved_link view new link value n ordinal dues links keeps (Waits due is at) = Waits due (ap (λ f. f n) dues ∙ is) at
  moved_link view new link value n ordinal dues links keeps (Stands l due is at) =
      Stands l due (subst (λ (f : LinkId → Link). IsStated (f l).stage n due) (sym links) (stated_put view.links link value l n due is (keeps due))) at

  sent_stands : (view : View) (link : LinkId) (k : SessionName) (sent : Due) (n : SessionName) (ordinal : ℕ) → view.dues k ≡ Some sent → (view.links link).stage ≡ Quiet
      → IsInHand view n ordinal → IsInHand (view_step setup view (Sent link (Statement k sent))) n ordinal
  sent_stands view link k sent n ordinal here quiet (Stands l due is at) =
      Stands l due (stated_put view.links link (asked (Statement k sent) (view.links link)) l n due is (λ was. quiet_apart (view.links link).stage n due quiet was)) at
  sent_stands view link k sent n ordinal here quiet (Waits due is at) = by_test (is_name n k) refl where
    by_test : (b : Bool) → is_name n k ≡ b → IsInHand (view_step setup view (Sent link (Statement k sent))) n ordinal
    by_test true same =
        let one : n ≡ k = name_of n k same in
        let whole : due ≡ sent = some_of due sent (sym is ∙ ap view.dues one ∙ here) in
        Stands link sent (inl (ap (λ b. (if b then asked (Statement k sent) (view.links link) else view.links link).stage) (same_link link)
        ∙ ap (λ (x : SessionName). Asked (Statement x sent)) (sym one))) (sym (ap (λ (d : Due). d.ordinal) whole) ∙ at)
    by_test false other = Waits due (ap (λ b. if b then None else view.dues n) other ∙ is) at

  sent_keeps : (view : View) (link : LinkId) (question : Question) (n : SessionName) (ordinal : ℕ) → MayCome setup view (Sent link question) → IsInHand view n ordinal
      → IsInHand (view_step setup view (Sent link question)) n ordinal
  sent_keeps view link (Statement k sent) n ordinal may is = sent_stands view link k sent n ordinal may.fits.is_due may.quiet is
  sent_keeps view link (Prep k key text) n ordinal may is = moved_link view _ link _ n ordinal refl refl (λ due was. quiet_apart (view.links link).stage n due may.quiet was) is
  sent_keeps view link (Sync k command) n ordinal may is = moved_link view _ link _ n ordinal refl refl (λ due was. quiet_apart (view.links link).stage n due may.quiet was) is
  sent_keeps view link (Own command) n ordinal may is = moved_link view _ link _ n ordinal refl refl (λ due was. quiet_apart (view.links link).stage n due may.quiet was) is
  sent_keeps view link (End k) n ordinal may is = moved_link view _ link _ n ordinal refl refl (λ due was. quiet_apart (view.links link).stage n due may.quiet was) is
  sent_keeps view link (Capture k) n ordinal may is = moved_link view _ link _ n ordinal refl refl (λ due was. quiet_apart (view.links link).stage n due may.quiet was) is

  ran_keeps : (stage : Stage) (link : Link) (n : SessionName) (due : Due) → link.stage ≡ stage → IsStated link.stage n due → IsStated (ran_by setup.reads stage link).stage n due
  ran_keeps Quiet link n due at is = is
  ran_keeps (Answered question) link n due at is = is
  ran_keeps (Asked question) link n due at (inl is) = inr (ap Answered (asked_one question (Statement n due) (sym at ∙ is))) where
    asked_one : (q r : Question) → Asked q ≡ Asked r → q ≡ r
    asked_one q r same = cc
  ran_keeps (Asked question) link n due at (inr is) = absurd (let same : Asked question ≡ Answered (Statement n due) = sym at ∙ is in cc)

  heard_keeps : (view : View) (link : LinkId) (reply : Reply) (stage : Stage) (n : SessionName) (ordinal : ℕ) → (view.links link).stage ≡ stage → IsInHand view n ordinal
      → Either (view_heard setup view link reply stage) n ordinal
  heard_keeps view link reply Quiet n ordinal at is = inl is
  heard_keeps view link reply (Asked question) n ordinal at is = inl is
  heard_keeps view link reply (Answered question) n ordinal at (Waits due is same) = inl (Waits due is same)
  heard_keeps view link reply (Answered question) n ordinal at (Stands l due is same) = by_test (is_link_id l link) refl where
    answered_one : (q r : Question) → Answered q ≡ Answered r → q ≡ r
    answered_one q r same = cc

    question_is : (view.links l).stage ≡ Answered question → IsStated (view.links l).stage n due → question ≡ Statement n due
    question_is here (inl was) = absurd (let same : Answered question ≡ Asked (Statement n due) = sym here ∙ was in cc)
    question_is here (inr was) = answered_one question (Statement n due) (sym here ∙ was)

    replied : question ≡ Statement n due → Either (view_heard setup view link reply (Answered question)) n ordinal
    replied one =
        subst (λ (q : Question). Either (view_heard setup view link reply (Answered q)) n ordinal) (sym one)
        (inr (ap (λ (k : ℕ). is_some (if is_message (record { client = n.client; ordinal = k }) (message_of n due) then Some reply else view.replies (record { client = n.client; ordinal = k }))) (sym same)
        ∙ ap (λ b. is_some (if b then Some reply else view.replies (message_of n due))) (same_message (message_of n due))))

    by_test : (b : Bool) → is_link_id l link ≡ b → Either (view_heard setup view link reply (Answered question)) n ordinal
    by_test true here = replied (question_is (ap (λ (x : LinkId). (view.links x).stage) (link_of l link here) ∙ at) is)
    by_test false other =
        inl (Stands l due (subst (λ b. IsStated (if b then heard setup.reads question reply (view.links link) else view.links l).stage n due) (sym other) is) same)

  step_keeps : (view : View) (e : Happening) (n : SessionName) (ordinal : ℕ) → MayCome setup view e → IsInHand view n ordinal
      → ((client : ClientNo) (hostgroup : Hostgroup) (o key : ℕ) (command : Command) (multiplex : Option Bool) → e ≡ BecameDue client hostgroup o key command multiplex → is_client client n.client ≡ false)
      → Either (view_step setup view e) n ordinal
  step_keeps view (LoggedIn link server account) n ordinal may is others =
      inl (moved_link view _ link _ n ordinal refl refl (λ due was. quiet_apart (view.links link).stage n due (ap (λ (x : Link). x.stage) may) was) is)
  step_keeps view (BecameDue client hostgroup o key command multiplex) n ordinal may is others =
      inl (came is)
    where
      apart : is_name n (present view client hostgroup) ≡ false
      apart = by_test (is_name n (present view client hostgroup)) refl where
        by_test : (b : Bool) → is_name n (present view client hostgroup) ≡ b → is_name n (present view client hostgroup) ≡ false
        by_test false at = at
        by_test true at =
            isnt (sym (others client hostgroup o key command multiplex refl)
            ∙ ap (λ (c : ClientNo). is_client client c) (ap (λ (x : SessionName). x.client) (name_of n (present view client hostgroup) at)) ∙ same_number client.0)

      came : IsInHand view n ordinal → IsInHand (view_step setup view (BecameDue client hostgroup o key command multiplex)) n ordinal
      came (Waits due is at) = Waits due (ap (λ b. if b then Some (due_of view (present view client hostgroup) o key command multiplex) else view.dues n) apart ∙ is) at
      came (Stands l due is at) = Stands l due is at
  step_keeps view (Sent link question) n ordinal may is others = inl (sent_keeps view link question n ordinal may is)
  step_keeps view (Ran link) n ordinal may is others = inl (moved_link view _ link _ n ordinal refl refl (λ due was. ran_keeps (view.links link).stage (view.links link) n due refl was) is)
  step_keeps view (Heard link reply) n ordinal may is others = heard_keeps view link reply (view.links link).stage n ordinal refl is
  step_keeps view (Freed link) n ordinal may is others = inl (moved_link view _ link _ n ordinal refl refl (λ due was. was) is)
  step_keeps view (Unprepared link number) n ordinal may is others = inl (moved_link view _ link _ n ordinal refl refl (λ due was. was) is)
  step_keeps view (Dropped link) n ordinal may is others = inl is
  step_keeps view (Gone link) n ordinal may is others = inl (moved_link view _ link _ n ordinal refl refl (λ due was. was) is)
  step_keeps view (Left client) n ordinal may (Waits due is at) others = inl (Waits due is at)
  step_keeps view (Left client) n ordinal may (Stands l due is at) others = inl (Stands l due is at)
  step_keeps view Broke n ordinal may is others = inl is
  step_keeps view (Mirrored client job) n ordinal may (Waits due is at) others = inl (Waits due is at)
  step_keeps view (Mirrored client job) n ordinal may (Stands l due is at) others = inl (Stands l due is at)

  -- Its session is the present one.

  heard_lives : (view : View) (link : LinkId) (reply : Reply) (stage : Stage) → (view_heard setup view link reply stage).lives ≡ view.lives
  heard_lives view link reply Quiet = refl
  heard_lives view link reply (Asked question) = refl
  heard_lives view link reply (Answered question) = refl

  gone_lives : (view : View) (session : Option SessionName) (c : ClientNo) (h : Hostgroup) → option_map_or (λ n. is_name (present view c h) n) session false ≡ false
      → option_map_or (λ n. lives_after n view.lives) session view.lives c h ≡ view.lives c h
  gone_lives view None c h none = refl
  gone_lives view (Some n) c h none = ap (λ b. if b then suc (view.lives c h) else view.lives c h) none

  record Stays (past : Story) (e : Happening) (c : ClientNo) (h : Hostgroup) : Type 0 where
    lost : lost_since past c h ≡ false
    lives : (view_after setup (e ∷ past)).lives c h ≡ (view_after setup past).lives c h

  stays : (past : Story) (e : Happening) (c : ClientNo) (h : Hostgroup)
      → ((client : ClientNo) (hostgroup : Hostgroup) (o key : ℕ) (command : Command) (multiplex : Option Bool) → e ≡ BecameDue client hostgroup o key command multiplex → is_client client c ≡ false)
      → lost_since (e ∷ past) c h ≡ false → Stays past e c h
  stays past (LoggedIn link server account) c h others none = record { lost = none; lives = refl }
  stays past (BecameDue client hostgroup o key command multiplex) c h others none =
      record { lost = sym (ap (λ b. if b then false else lost_since past c h) (others client hostgroup o key command multiplex refl)) ∙ none; lives = refl }
  stays past (Sent link question) c h others none = record { lost = none; lives = refl }
  stays past (Ran link) c h others none = record { lost = none; lives = refl }
  stays past (Heard link reply) c h others none =
      record { lost = none; lives = ap (λ f. f c h) (heard_lives (view_after setup past) link reply ((view_after setup past).links link).stage) }
  stays past (Freed link) c h others none = record { lost = none; lives = refl }
  stays past (Unprepared link number) c h others none = record { lost = none; lives = refl }
  stays past (Dropped link) c h others none = record { lost = none; lives = refl }
  stays past (Gone link) c h others none =
      let parts = or_parts (option_map_or (λ n. is_name (present (view_after setup past) c h) n) (session_in ((view_after setup past).links link).carries) false) (lost_since past c h) none in
      record { lost = parts.1; lives = gone_lives (view_after setup past) (session_in ((view_after setup past).links link).carries) c h parts.0 }
  stays past (Left client) c h others none =
      let parts = or_parts (is_client c client) (lost_since past c h) none in
      record { lost = parts.1; lives = ap (λ b. if b then suc ((view_after setup past).lives c h) else (view_after setup past).lives c h) parts.0 }
  stays past Broke c h others none = record { lost = none; lives = refl }
  stays past (Mirrored client job) c h others none = record { lost = none; lives = refl }

  -- Along a story.

  no_due : (past : Story) (e : Happening) (c : ClientNo) → last_due (e ∷ past) c ≡ last_due past c
      → ((client : ClientNo) (hostgroup : Hostgroup) (o key : ℕ) (command : Command) (multiplex : Option Bool) → e ≡ BecameDue client hostgroup o key command multiplex → is_client client c ≡ false)
      → MayCome setup (view_after setup past) e → AreInHand past → (last : Last) → last_due (e ∷ past) c ≡ Some last
      → InHand (view_after setup (e ∷ past)) (lost_since (e ∷ past) c last.hostgroup) c last ⊎ IsReplied (view_after setup (e ∷ past)) c last
  no_due past e c same others may are last at = elim (are c last (sym same ∙ at)) [
    | inl was ↦ with_life was.life (λ none. was.present none)
        (step_keeps (view_after setup past) e (record { client = c; hostgroup = last.hostgroup; life = was.life }) last.ordinal may was.how others)
    | inr replied ↦ inr (replied_more setup past e (record { client = c; ordinal = last.ordinal }) replied)
  ] where
    with_life : (life : ℕ) → (lost_since past c last.hostgroup ≡ false → (view_after setup past).lives c last.hostgroup ≡ life)
        → Either (view_after setup (e ∷ past)) (record { client = c; hostgroup = last.hostgroup; life = life }) last.ordinal
        → InHand (view_after setup (e ∷ past)) (lost_since (e ∷ past) c last.hostgroup) c last ⊎ IsReplied (view_after setup (e ∷ past)) c last
    with_life life present (inr replied) = inr replied
    with_life life present (inl how) = inl (record {
      life = life;
      present = λ none. let stayed = stays past e c last.hostgroup others none in stayed.lives ∙ present stayed.lost;
      how = how;
    })

  pub more_in_hand : (past : Story) (e : Happening) → MayCome setup (view_after setup past) e → AreInHand past → AreInHand (e ∷ past)
  more_in_hand past (BecameDue client hostgroup ordinal key command multiplex) may are c last at = by_test (is_client client c) refl at where
    view : View
    view = view_after setup past

    comes : Happening
    comes = BecameDue client hostgroup ordinal key command multiplex

    by_test : (b : Bool) → is_client client c ≡ b → (if b then Some (record { hostgroup = hostgroup; ordinal = ordinal }) else last_due past c) ≡ Some last
        → InHand (view_after setup (comes ∷ past)) (lost_since (comes ∷ past) c last.hostgroup) c last ⊎ IsReplied (view_after setup (comes ∷ past)) c last
    by_test true same is =
        inl (subst (λ (x : Last). InHand (view_after setup (comes ∷ past)) (lost_since (comes ∷ past) c x.hostgroup) c x) (some_of _ last is)
        (subst (λ (x : ClientNo). InHand (view_after setup (comes ∷ past)) (lost_since (comes ∷ past) x hostgroup) x (record { hostgroup = hostgroup; ordinal = ordinal })) (client_of client c same)
        (record {
          life = view.lives client hostgroup;
          present = λ none. refl;
          how = Waits (due_of view (present view client hostgroup) ordinal key command multiplex)
              (ap (λ b. if b then Some (due_of view (present view client hostgroup) ordinal key command multiplex) else view.dues (present view client hostgroup))
              (same_name (present view client hostgroup))) refl;
        })))
    by_test false other is =
        no_due past comes c (ap (λ b. if b then Some (record { hostgroup = hostgroup; ordinal = ordinal }) else last_due past c) other)
        (λ client' hostgroup' o key' command' multiplex' same. ap (λ (x : ClientNo). is_client x c) (due_client client client' hostgroup hostgroup' ordinal o key key' command command' multiplex multiplex' same) ∙ other)
        may are last (ap (λ b. if b then Some (record { hostgroup = hostgroup; ordinal = ordinal }) else last_due past c) other ∙ is)
      where
        due_client : (a b : ClientNo) (g h : Hostgroup) (o p k l : ℕ) (x y : Command) (m n : Option Bool) → BecameDue a g o k x m ≡ BecameDue b h p l y n → b ≡ a
        due_client a b g h o p k l x y m n same = cc
  more_in_hand past (LoggedIn link server account) may are c last at = no_due past (LoggedIn link server account) c refl (λ a b o k x m same. absurd (cc)) may are last at
  more_in_hand past (Sent link question) may are c last at = no_due past (Sent link question) c refl (λ a b o k x m same. absurd (cc)) may are last at
  more_in_hand past (Ran link) may are c last at = no_due past (Ran link) c refl (λ a b o k x m same. absurd (cc)) may are last at
  more_in_hand past (Heard link reply) may are c last at = no_due past (Heard link reply) c refl (λ a b o k x m same. absurd (cc)) may are last at
  more_in_hand past (Freed link) may are c last at = no_due past (Freed link) c refl (λ a b o k x m same. absurd (cc)) may are last at
  more_in_hand past (Unprepared link number) may are c last at = no_due past (Unprepared link number) c refl (λ a b o k x m same. absurd (cc)) may are last at
  more_in_hand past (Dropped link) may are c last at = no_due past (Dropped link) c refl (λ a b o k x m same. absurd (cc)) may are last at
  more_in_hand past (Gone link) may are c last at = no_due past (Gone link) c refl (λ a b o k x m same. absurd (cc)) may are last at
  more_in_hand past (Left client) may are c last at = no_due past (Left client) c refl (λ a b o k x m same. absurd (cc)) may are last at
  more_in_hand past Broke may are c last at = absurd may
  more_in_hand past (Mirrored client job) may are c last at = no_due past (Mirrored client job) c refl (λ a b o k x m same. absurd (cc)) may are last at

  -- Each lawful story is so.

  pub record IsTidy (story : Story) : Type 0 where
    pub tied : Tied (view_after setup story)
    pub in_hand : AreInHand story

  abbrev pub tidily : Kept setup
  tidily = record {
    holds = λ story. IsLawful setup story → IsTidy story;
    more = λ past e told holds lawful.
        let was = holds lawful.0 in
        record { tied = step_tied setup (view_after setup past) e told lawful.1 was.tied; in_hand = more_in_hand past e lawful.1 was.in_hand };
  }

  pub first_tidy : IsTidy []
  first_tidy = record { tied = first_tied setup; in_hand = λ c last is. no_some last is }
