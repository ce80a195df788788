-- A message that is due, or whose statement stands on a link, has no reply; it is due in one session, or stands on one link. So a reply stays.
use Rattle.std.specs.Prelude.{◌≡◌, ◌⊎◌, ℕ, Bool, true, false, if◌then◌else◌, ◌∷◌, Option, Some, None}
use Rattle.std.proofs.Common.{refl, sym, ap, ◌∙◌, subst, inl, inr}
use Rattle.private_model.proofs.Maps.{link_of, message_is, name_of, same_link, same_name}
use Rattle.private_model.specs.Commands.{Command, Reply}
use Rattle.private_model.specs.Names.{ClientNo, Hostgroup, LinkId, MessageName, SessionName}
use Rattle.private_model.specs.Story.{BecameDue, Broke, Capture, Dropped, Due, End, Freed, Gone, Happening, Heard, Left, LoggedIn, Mirrored, Own, Prep, Question, Ran, Sent, Statement, Story, Sync, Unprepared}
use Rattle.private_model.specs.Story.{for_statement, is_link_id, is_message, is_name, message_of, put}
use Rattle.private_model.specs.View.{Answered, Asked, Link, Quiet, Setup, Stage, View, due_of, first_view, present, ran_by, view_after, view_heard}
use Rattle.shared_router.proofs.Decidedly.{stated, stated_at}
use Rattle.shared_router.proofs.Walks.{MayTell}

no_some : {A B : Type 0} (a : A) → None ≡ Some a → B
no_some a is = absurd (cc)

some_of : {A : Type 0} (a b : A) → Some a ≡ Some b → a ≡ b
some_of a b is = cc

isnt : {A : Type 0} → false ≡ true → A
isnt is = absurd (cc)

-- it is due in this session
abbrev pub IsDueIn : (SessionName → Option Due) → SessionName → MessageName → Type 0
IsDueIn dues n m = (due : Due) × ((dues n ≡ Some due) × (message_of n due ≡ m))

-- its statement stands on this link
abbrev pub StandsOn : (LinkId → Link) → LinkId → MessageName → Type 0
StandsOn links l m = stated_at (links l).stage ≡ Some m

pub record AreLone (dues : SessionName → Option Due) (links : LinkId → Link) (replies : MessageName → Option Reply) : Type 0 where
  pub once : (m : MessageName) (n k : SessionName) → IsDueIn dues n m → IsDueIn dues k m → n ≡ k
  pub unsent : (m : MessageName) (n : SessionName) (l : LinkId) → IsDueIn dues n m → StandsOn links l m → ⊥
  pub alone : (m : MessageName) (l k : LinkId) → StandsOn links l m → StandsOn links k m → l ≡ k
  pub due : (m : MessageName) (n : SessionName) → IsDueIn dues n m → replies m ≡ None
  pub stands : (m : MessageName) (l : LinkId) → StandsOn links l m → replies m ≡ None

abbrev pub AreLoneIn : View → Type 0
AreLoneIn view = AreLone view.dues view.links view.replies

pub first_lone : (setup : Setup) → AreLoneIn (first_view setup)
first_lone setup = record {
  once = λ m n k one other. no_some one.0 one.1.0;
  unsent = λ m n l is on. no_some m on;
  alone = λ m l k one other. no_some m one;
  due = λ m n is. refl;
  stands = λ m l on. refl;
}

module _ (dues : SessionName → Option Due) (links : LinkId → Link) (replies : MessageName → Option Reply) (lone : AreLone dues links replies) where
  -- what stands on each link stood there
  fewer : (new : LinkId → Link) → ((m : MessageName) (l : LinkId) → StandsOn new l m → StandsOn links l m) → AreLone dues new replies
  fewer new was = record {
    once = lone.once;
    unsent = λ m n l is on. lone.unsent m n l is (was m l on);
    alone = λ m l k one other. lone.alone m l k (was m l one) (was m k other);
    due = lone.due;
    stands = λ m l on. lone.stands m l (was m l on);
  }

  put_fewer : (link : LinkId) (value : Link) → ((m : MessageName) → stated_at value.stage ≡ Some m → StandsOn links link m) → AreLone dues (put is_link_id links link value) replies
  put_fewer link value was = fewer (put is_link_id links link value) (λ m l on. by_test m l (is_link_id l link) refl on) where
    by_test : (m : MessageName) (l : LinkId) (b : Bool) → is_link_id l link ≡ b → stated_at (if b then value else links l).stage ≡ Some m → StandsOn links l m
    by_test m l true here on = subst (λ k. StandsOn links k m) (sym (link_of l link here)) (was m on)
    by_test m l false other on = on

  -- a statement that is due is sent
  module _ (link : LinkId) (value : Link) (n : SessionName) (due : Due) (at : dues n ≡ Some due) (same : stated_at value.stage ≡ Some (message_of n due)) where
    new_dues : SessionName → Option Due
    new_dues = put is_name dues n None

    new_links : LinkId → Link
    new_links = put is_link_id links link value

    -- another is due in another session
    was_due : (m : MessageName) (k : SessionName) → IsDueIn (put is_name dues n None) k m → (is_name k n ≡ false) × IsDueIn dues k m
    was_due m k is = by_test (is_name k n) refl is.1.0 where
      by_test : (b : Bool) → is_name k n ≡ b → (if b then None else dues k) ≡ Some is.0 → (is_name k n ≡ false) × IsDueIn dues k m
      by_test true here there = no_some is.0 there
      by_test false other there = (other, (is.0, (there, is.1.1)))

    apart : (k : SessionName) → is_name k n ≡ false → IsDueIn dues k (message_of n due) → ⊥
    apart k other is =
        let one : n ≡ k = lone.once (message_of n due) n k (due, (at, refl)) is in
        isnt (sym other ∙ ap (λ x. is_name x n) (sym one) ∙ same_name n)

    -- what stands there is it, or stood there
    abbrev StandsThere : MessageName → LinkId → Type 0
    StandsThere m l = ((l ≡ link) × (m ≡ message_of n due)) ⊎ ((is_link_id l link ≡ false) × StandsOn links l m)

    standing : (m : MessageName) (l : LinkId) → StandsOn (put is_link_id links link value) l m → StandsThere m l
    standing m l on = by_test (is_link_id l link) refl on where
      by_test : (b : Bool) → is_link_id l link ≡ b → stated_at (if b then value else links l).stage ≡ Some m → StandsThere m l
      by_test true here on = inl (link_of l link here, some_of m (message_of n due) (sym on ∙ same))
      by_test false other on = inr (other, on)

    never : (m : MessageName) (l : LinkId) → m ≡ message_of n due → StandsOn links l m → ⊥
    never m l is on = lone.unsent m n l (due, (at, sym is)) on

    sent_lone : AreLone (put is_name dues n None) (put is_link_id links link value) replies
    sent_lone = record {
      once = λ m a b one other. lone.once m a b (was_due m a one).1 (was_due m b other).1;
      unsent = λ m k l is on. no_both m k l (was_due m k is) (standing m l on);
      alone = λ m l k one other. one_link m l k (standing m l one) (standing m k other);
      due = λ m k is. lone.due m k (was_due m k is).1;
      stands = λ m l on. none_there m l (standing m l on);
    } where
      no_both : (m : MessageName) (k : SessionName) (l : LinkId) → (is_name k n ≡ false) × IsDueIn dues k m → StandsThere m l → ⊥
      no_both m k l is (inl came) = apart k is.0 (subst (IsDueIn dues k) came.1 is.1)
      no_both m k l is (inr stood) = lone.unsent m k l is.1 stood.1

      one_link : (m : MessageName) (l k : LinkId) → StandsThere m l → StandsThere m k → l ≡ k
      one_link m l k (inl one) (inl other) = one.0 ∙ sym other.0
      one_link m l k (inl came) (inr stood) = absurd (never m k came.1 stood.1)
      one_link m l k (inr stood) (inl came) = absurd (never m l came.1 stood.1)
      one_link m l k (inr one) (inr other) = lone.alone m l k one.1 other.1

      none_there : (m : MessageName) (l : LinkId) → StandsThere m l → replies m ≡ None
      none_there m l (inl came) = lone.due m n (due, (at, sym came.1))
      none_there m l (inr stood) = lone.stands m l stood.1

  -- its answer is read
  heard_lone : (link : LinkId) (value : Link) (m : MessageName) (reply : Reply) → StandsOn links link m → stated_at value.stage ≡ None
      → AreLone dues (put is_link_id links link value) (put is_message replies m (Some reply))
  heard_lone link value m reply there quiet = record {
    once = lone.once;
    unsent = λ k n l is on. lone.unsent k n l is (stood k l on).1;
    alone = λ k l j one other. lone.alone k l j (stood k l one).1 (stood k j other).1;
    due = λ k n is. other_reply k (λ same. lone.unsent k n link is (subst (λ x. StandsOn links link x) (sym same) there)) (lone.due k n is);
    stands = λ k l on. other_reply k (λ same. elsewhere k l same (stood k l on)) (lone.stands k l (stood k l on).1);
  } where
    stood : (k : MessageName) (l : LinkId) → StandsOn (put is_link_id links link value) l k → (is_link_id l link ≡ false) × StandsOn links l k
    stood k l on = by_test (is_link_id l link) refl on where
      by_test : (b : Bool) → is_link_id l link ≡ b → stated_at (if b then value else links l).stage ≡ Some k → (is_link_id l link ≡ false) × StandsOn links l k
      by_test true here on = no_some k (sym quiet ∙ on)
      by_test false other on = (other, on)

    elsewhere : (k : MessageName) (l : LinkId) → k ≡ m → (is_link_id l link ≡ false) × StandsOn links l k → ⊥
    elsewhere k l same is =
        let one : l ≡ link = lone.alone k l link is.1 (subst (λ x. StandsOn links link x) (sym same) there) in
        isnt (sym is.0 ∙ ap (λ x. is_link_id x link) one ∙ same_link link)

    other_reply : (k : MessageName) → (k ≡ m → ⊥) → replies k ≡ None → put is_message replies m (Some reply) k ≡ None
    other_reply k apart none = by_test (is_message k m) refl where
      by_test : (b : Bool) → is_message k m ≡ b → (if b then Some reply else replies k) ≡ None
      by_test true same = absurd (apart (message_is k m same))
      by_test false other = none

  -- one that is new becomes due
  due_lone : (n : SessionName) (due : Due) → ((k : SessionName) → IsDueIn dues k (message_of n due) → ⊥) → ((l : LinkId) → StandsOn links l (message_of n due) → ⊥)
      → replies (message_of n due) ≡ None → AreLone (put is_name dues n (Some due)) links replies
  due_lone n due none_due none_there none = record {
    once = λ m a b one other. one_session m a b (now_due m a one) (now_due m b other);
    unsent = λ m k l is on. no_both m k l on (now_due m k is);
    alone = lone.alone;
    due = λ m k is. no_reply m k (now_due m k is);
    stands = lone.stands;
  } where
    DueThere : MessageName → SessionName → Type 0
    DueThere m k = ((k ≡ n) × (message_of n due ≡ m)) ⊎ IsDueIn dues k m

    now_due : (m : MessageName) (k : SessionName) → IsDueIn (put is_name dues n (Some due)) k m → DueThere m k
    now_due m k is = by_test (is_name k n) refl is.1.0 where
      by_test : (b : Bool) → is_name k n ≡ b → (if b then Some due else dues k) ≡ Some is.0 → DueThere m k
      by_test true here there =
          let same : k ≡ n = name_of k n here in
          inl (same, ap (λ x. message_of x due) (sym same) ∙ ap (λ (d : Due). message_of k d) (some_of due is.0 there) ∙ is.1.1)
      by_test false other there = inr (is.0, (there, is.1.1))

    one_session : (m : MessageName) (a b : SessionName) → DueThere m a → DueThere m b → a ≡ b
    one_session m a b (inl came) (inl other) = came.0 ∙ sym other.0
    one_session m a b (inl came) (inr was) = absurd (none_due b (subst (IsDueIn dues b) (sym came.1) was))
    one_session m a b (inr was) (inl came) = absurd (none_due a (subst (IsDueIn dues a) (sym came.1) was))
    one_session m a b (inr one) (inr other) = lone.once m a b one other

    no_both : (m : MessageName) (k : SessionName) (l : LinkId) → StandsOn links l m → DueThere m k → ⊥
    no_both m k l on (inl came) = none_there l (subst (StandsOn links l) (sym came.1) on)
    no_both m k l on (inr was) = lone.unsent m k l was on

    no_reply : (m : MessageName) (k : SessionName) → DueThere m k → replies m ≡ None
    no_reply m k (inl came) = ap replies (sym came.1) ∙ none
    no_reply m k (inr was) = lone.due m k was

-- Along a story.

module _ (setup : Setup) where
  abbrev pub Lone : Story → Type 0
  Lone story = AreLoneIn (view_after setup story)

  ran_stated : (stage : Stage) (link : Link) → link.stage ≡ stage → stated_at (ran_by setup.reads stage link).stage ≡ stated_at link.stage
  ran_stated Quiet link is = refl
  ran_stated (Answered question) link is = refl
  ran_stated (Asked question) link is = ap stated_at (sym is)

  sent_by : (view : View) (link : LinkId) (value : Link) (question : Question) → MayTell view (Sent link question) → stated_at value.stage ≡ stated question → AreLoneIn view
      → AreLone (for_statement question (λ n due. put is_name view.dues n None) view.dues) (put is_link_id view.links link value) view.replies
  sent_by view link value (Statement n due) may same lone = sent_lone view.dues view.links view.replies lone link value n due may same
  sent_by view link value (Prep n key text) may same lone = put_fewer view.dues view.links view.replies lone link value (λ m on. no_some m (sym same ∙ on))
  sent_by view link value (Sync n command) may same lone = put_fewer view.dues view.links view.replies lone link value (λ m on. no_some m (sym same ∙ on))
  sent_by view link value (Own command) may same lone = put_fewer view.dues view.links view.replies lone link value (λ m on. no_some m (sym same ∙ on))
  sent_by view link value (End n) may same lone = put_fewer view.dues view.links view.replies lone link value (λ m on. no_some m (sym same ∙ on))
  sent_by view link value (Capture n) may same lone = put_fewer view.dues view.links view.replies lone link value (λ m on. no_some m (sym same ∙ on))

  answered_by : (view : View) (link : LinkId) (value : Link) (reply : Reply) (question : Question) → (view.links link).stage ≡ Answered question → value.stage ≡ Quiet → AreLoneIn view
      → AreLone view.dues (put is_link_id view.links link value) (for_statement question (λ n due. put is_message view.replies (message_of n due) (Some reply)) view.replies)
  answered_by view link value reply (Statement n due) at quiet lone =
      heard_lone view.dues view.links view.replies lone link value (message_of n due) reply (ap stated_at at) (ap stated_at quiet)
  answered_by view link value reply (Prep n key text) at quiet lone = put_fewer view.dues view.links view.replies lone link value (λ m on. no_some m (sym (ap stated_at quiet) ∙ on))
  answered_by view link value reply (Sync n command) at quiet lone = put_fewer view.dues view.links view.replies lone link value (λ m on. no_some m (sym (ap stated_at quiet) ∙ on))
  answered_by view link value reply (Own command) at quiet lone = put_fewer view.dues view.links view.replies lone link value (λ m on. no_some m (sym (ap stated_at quiet) ∙ on))
  answered_by view link value reply (End n) at quiet lone = put_fewer view.dues view.links view.replies lone link value (λ m on. no_some m (sym (ap stated_at quiet) ∙ on))
  answered_by view link value reply (Capture n) at quiet lone = put_fewer view.dues view.links view.replies lone link value (λ m on. no_some m (sym (ap stated_at quiet) ∙ on))

  heard_by : (view : View) (link : LinkId) (reply : Reply) (stage : Stage) → (view.links link).stage ≡ stage → AreLoneIn view → AreLoneIn (view_heard setup view link reply stage)
  heard_by view link reply Quiet at lone = lone
  heard_by view link reply (Asked question) at lone = lone
  heard_by view link reply (Answered question) at lone = answered_by view link _ reply question at refl lone

  pub more_lone : (past : Story) (e : Happening) → MayTell (view_after setup past) e → Lone past → Lone (e ∷ past)
  more_lone past (LoggedIn link server account) may lone =
      let view = view_after setup past in put_fewer view.dues view.links view.replies lone link _ (λ m on. no_some m on)
  more_lone past (BecameDue client hostgroup ordinal key command multiplex) may lone = absurd may
  more_lone past (Sent link question) may lone = sent_by (view_after setup past) link _ question may refl lone
  more_lone past (Ran link) may lone =
      let view = view_after setup past in
      put_fewer view.dues view.links view.replies lone link _ (λ m on. sym (ran_stated (view.links link).stage (view.links link) refl) ∙ on)
  more_lone past (Heard link reply) may lone = heard_by (view_after setup past) link reply ((view_after setup past).links link).stage refl lone
  more_lone past (Freed link) may lone = let view = view_after setup past in put_fewer view.dues view.links view.replies lone link _ (λ m on. on)
  more_lone past (Unprepared link number) may lone = let view = view_after setup past in put_fewer view.dues view.links view.replies lone link _ (λ m on. on)
  more_lone past (Dropped link) may lone = lone
  more_lone past (Gone link) may lone = let view = view_after setup past in put_fewer view.dues view.links view.replies lone link _ (λ m on. on)
  more_lone past (Left client) may lone = lone
  more_lone past Broke may lone = absurd may
  more_lone past (Mirrored client job) may lone = lone

  pub comes_lone : (past : Story) (client : ClientNo) (hostgroup : Hostgroup) (ordinal key : ℕ) (command : Command) (multiplex : Option Bool)
      → ((k : SessionName) → IsDueIn (view_after setup past).dues k (record { client = client; ordinal = ordinal }) → ⊥)
      → ((l : LinkId) → StandsOn (view_after setup past).links l (record { client = client; ordinal = ordinal }) → ⊥)
      → (view_after setup past).replies (record { client = client; ordinal = ordinal }) ≡ None
      → Lone past → Lone (BecameDue client hostgroup ordinal key command multiplex ∷ past)
  comes_lone past client hostgroup ordinal key command multiplex none_due none_there none lone =
      let view = view_after setup past in
      let n : SessionName = present view client hostgroup in
      due_lone view.dues view.links view.replies lone n (due_of view n ordinal key command multiplex) none_due none_there none

-- A reply stays as more is told.

module _ (setup : Setup) (m : MessageName) (reply : Reply) where
  abbrev pub Replied : Story → Type 0
  Replied story = (view_after setup story).replies m ≡ Some reply

  answered_stays : (view : View) (other : Reply) (question : Question) (link : LinkId) → (view.links link).stage ≡ Answered question → AreLoneIn view → view.replies m ≡ Some reply
      → for_statement question (λ n due. put is_message view.replies (message_of n due) (Some other)) view.replies m ≡ Some reply
  answered_stays view other (Statement n due) link at lone is = by_test (is_message m (message_of n due)) refl where
    by_test : (b : Bool) → is_message m (message_of n due) ≡ b → (if b then Some other else view.replies m) ≡ Some reply
    by_test true same =
        no_some reply (sym (lone.stands m link (ap stated_at at ∙ ap (λ x. Some x) (sym (message_is m (message_of n due) same)))) ∙ is)
    by_test false apart = is
  answered_stays view other (Prep n key text) link at lone is = is
  answered_stays view other (Sync n command) link at lone is = is
  answered_stays view other (Own command) link at lone is = is
  answered_stays view other (End n) link at lone is = is
  answered_stays view other (Capture n) link at lone is = is

  heard_stays : (view : View) (link : LinkId) (other : Reply) (stage : Stage) → (view.links link).stage ≡ stage → AreLoneIn view → view.replies m ≡ Some reply
      → (view_heard setup view link other stage).replies m ≡ Some reply
  heard_stays view link other Quiet at lone is = is
  heard_stays view link other (Asked question) at lone is = is
  heard_stays view link other (Answered question) at lone is = answered_stays view other question link at lone is

  pub reply_stays : (past : Story) (e : Happening) → Lone setup past → Replied past → Replied (e ∷ past)
  reply_stays past (Heard link other) lone is = heard_stays (view_after setup past) link other ((view_after setup past).links link).stage refl lone is
  reply_stays past _ lone is = is
