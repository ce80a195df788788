-- Of what is due, under way or answered it was decided where it goes, and whether it is answered.
use Rattle.std.specs.Prelude.{◌≡◌, ℕ, Bool, true, false, is_some, if◌then◌else◌, Option, Some, None, ◌∷◌}
use Rattle.std.proofs.Common.{refl, sym, ap, ◌∙◌, subst}
use Rattle.private_model.specs.Commands.{Command, Reply}
use Rattle.private_model.specs.Names.{ClientNo, Hostgroup, LinkId, MessageName, SessionName}
use Rattle.private_model.specs.Story.{BecameDue, Broke, Capture, Dropped, Due, End, Freed, Gone, Happening, Heard, Left, LoggedIn, Mirrored, Own, Prep, Question, Ran, Sent, Statement, Story, Sync, Unprepared}
use Rattle.private_model.specs.Story.{for_statement, is_link_id, is_message, is_name, message_of, put}
use Rattle.private_model.specs.View.{Answered, Asked, Link, Quiet, Setup, Stage, View, due_of, first_view, present, ran_by, view_after, view_heard}
use Rattle.private_model.proofs.Maps.{message_is, name_of}
use Rattle.log_story.specs.Plan.{OwnAnswer, Route}
use Rattle.tale_world.specs.Decided.{Decided, IsMore}
use Rattle.shared_router.proofs.Walks.{MayTell}

-- the message whose statement stands there
abbrev pub stated : Question → Option MessageName
stated (Statement n due) = Some (message_of n due)
stated _ = None

abbrev pub stated_at : Stage → Option MessageName
stated_at Quiet = None
stated_at (Asked question) = stated question
stated_at (Answered question) = stated question

-- it goes to this hostgroup and to no other, and it was looked at whether it is answered
pub record GoesTo (d : Decided) (m : MessageName) (hostgroup : Hostgroup) : Type 0 where
  pub route : Route
  pub routed : d.routes m ≡ Some (Some route)
  pub there : route.hostgroup ≡ hostgroup
  pub lone : route.mirror ≡ None
  pub own : Option OwnAnswer
  pub looked : d.own m ≡ Some own

-- it was decided where it goes, and that it goes somewhere

abbrev pub goes_out : Option (Option Route) → Bool
goes_out None = false
goes_out (Some None) = false
goes_out (Some (Some route)) = true

abbrev pub IsDecided : Decided → MessageName → Type 0
IsDecided d m = goes_out (d.routes m) ≡ true

pub record AreDecided (d : Decided) (view : View) : Type 0 where
  pub due : (n : SessionName) (due : Due) → view.dues n ≡ Some due → GoesTo d (message_of n due) n.hostgroup
  pub stands : (l : LinkId) (m : MessageName) → stated_at (view.links l).stage ≡ Some m → IsDecided d m
  pub answered : (m : MessageName) → is_some (view.replies m) ≡ true → IsDecided d m
  pub carried : (m : MessageName) → is_some (view.carriers m) ≡ true → IsDecided d m

isnt : {A : Type 0} → false ≡ true → A
isnt is = absurd (cc)

no_some : {A B : Type 0} (a : A) → None ≡ Some a → B
no_some a is = absurd (cc)

some_of : {A : Type 0} (a b : A) → Some a ≡ Some b → a ≡ b
some_of a b is = cc

pub first_decided : (d : Decided) (setup : Setup) → AreDecided d (first_view setup)
first_decided d setup = record {
  due = λ n due is. no_some due is;
  stands = λ l m is. no_some m is;
  answered = λ m is. isnt is;
  carried = λ m is. isnt is;
}

-- more is decided
pub goes_more : (old new : Decided) (m : MessageName) (hostgroup : Hostgroup) → IsMore old new → GoesTo old m hostgroup → GoesTo new m hostgroup
goes_more old new m hostgroup more is = record {
  route = is.route;
  routed = more.routes m (Some is.route) is.routed;
  there = is.there;
  lone = is.lone;
  own = is.own;
  looked = more.own m is.own is.looked;
}

decided_by : (old new : Decided) (m : MessageName) (o : Option (Option Route)) → ((route : Option Route) → o ≡ Some route → new.routes m ≡ Some route) → goes_out o ≡ true → IsDecided new m
decided_by old new m None kept is = isnt is
decided_by old new m (Some None) kept is = isnt is
decided_by old new m (Some (Some route)) kept is = ap goes_out (kept (Some route) refl)

pub decided_more : (old new : Decided) (m : MessageName) → IsMore old new → IsDecided old m → IsDecided new m
decided_more old new m more is = decided_by old new m (old.routes m) (λ route at. more.routes m route at) is

pub are_more : (old new : Decided) (view : View) → IsMore old new → AreDecided old view → AreDecided new view
are_more old new view more are = record {
  due = λ n due is. goes_more old new (message_of n due) n.hostgroup more (are.due n due is);
  stands = λ l m is. decided_more old new m more (are.stands l m is);
  answered = λ m is. decided_more old new m more (are.answered m is);
  carried = λ m is. decided_more old new m more (are.carried m is);
}

-- what goes somewhere was decided
goes_decided : (d : Decided) (m : MessageName) (hostgroup : Hostgroup) → GoesTo d m hostgroup → IsDecided d m
goes_decided d m hostgroup is = ap goes_out is.routed

-- where it goes
route_by : (o : Option (Option Route)) → goes_out o ≡ true → (route : Route) × (o ≡ Some (Some route))
route_by None is = isnt is
route_by (Some None) is = isnt is
route_by (Some (Some route)) is = (route, refl)

pub route_decided : (d : Decided) (m : MessageName) → IsDecided d m → (route : Route) × (d.routes m ≡ Some (Some route))
route_decided d m is = route_by (d.routes m) is

pub was_decided : (d : Decided) (m : MessageName) → IsDecided d m → is_some (d.routes m) ≡ true
was_decided d m is = ap (λ (x : Option (Option Route)). is_some x) (route_decided d m is).1

module _ (d : Decided) (setup : Setup) where
  put_stage : (links : LinkId → Link) (link : LinkId) (value : Link) → ((m : MessageName) → stated_at value.stage ≡ Some m → IsDecided d m)
      → ((l : LinkId) (m : MessageName) → stated_at (links l).stage ≡ Some m → IsDecided d m)
      → (l : LinkId) (m : MessageName) → stated_at (put is_link_id links link value l).stage ≡ Some m → IsDecided d m
  put_stage links link value now each l m is = by_test (is_link_id l link) is where
    by_test : (b : Bool) → stated_at (if b then value else links l).stage ≡ Some m → IsDecided d m
    by_test true is = now m is
    by_test false is = each l m is

  put_none : (dues : SessionName → Option Due) (n : SessionName) → ((k : SessionName) (due : Due) → dues k ≡ Some due → GoesTo d (message_of k due) k.hostgroup)
      → (k : SessionName) (due : Due) → put is_name dues n None k ≡ Some due → GoesTo d (message_of k due) k.hostgroup
  put_none dues n each k due is = by_test (is_name k n) is where
    by_test : (b : Bool) → (if b then None else dues k) ≡ Some due → GoesTo d (message_of k due) k.hostgroup
    by_test true is = no_some due is
    by_test false is = each k due is

  ran_stage : (stage : Stage) (link : Link) → link.stage ≡ stage → stated_at (ran_by setup.reads stage link).stage ≡ stated_at stage
  ran_stage Quiet link is = ap stated_at is
  ran_stage (Asked question) link is = refl
  ran_stage (Answered question) link is = ap stated_at is

  heard_of : (view : View) (link : LinkId) (reply : Reply) (stage : Stage) → ((m : MessageName) → stated_at stage ≡ Some m → IsDecided d m) → AreDecided d view
      → AreDecided d (view_heard setup view link reply stage)
  heard_of view link reply Quiet now are = are
  heard_of view link reply (Asked question) now are = are
  heard_of view link reply (Answered question) now are = record {
    due = are.due;
    stands = put_stage view.links link _ (λ m is. no_some m is) are.stands;
    answered = λ m is. answers question now m is;
    carried = are.carried;
  } where
    answers : (question : Question) → ((m : MessageName) → stated question ≡ Some m → IsDecided d m) → (m : MessageName)
        → is_some (for_statement question (λ n due. put is_message view.replies (message_of n due) (Some reply)) view.replies m) ≡ true → IsDecided d m
    answers (Statement n due) now m is = by_test (is_message m (message_of n due)) refl is where
      by_test : (b : Bool) → is_message m (message_of n due) ≡ b → is_some (if b then Some reply else view.replies m) ≡ true → IsDecided d m
      by_test true same is = subst (IsDecided d) (sym (message_is m (message_of n due) same)) (now (message_of n due) refl)
      by_test false same is = are.answered m is
    answers (Prep n key text) now m is = are.answered m is
    answers (Sync n command) now m is = are.answered m is
    answers (Own command) now m is = are.answered m is
    answers (End n) now m is = are.answered m is
    answers (Capture n) now m is = are.answered m is

  asked_stage : (view : View) (question : Question) → ((n : SessionName) (due : Due) → question ≡ Statement n due → view.dues n ≡ Some due) → AreDecided d view
      → (m : MessageName) → stated question ≡ Some m → IsDecided d m
  asked_stage view (Statement n due) here are m is =
      subst (IsDecided d) (some_of (message_of n due) m is) (goes_decided d (message_of n due) n.hostgroup (are.due n due (here n due refl)))
  asked_stage view (Prep n key text) here are m is = no_some m is
  asked_stage view (Sync n command) here are m is = no_some m is
  asked_stage view (Own command) here are m is = no_some m is
  asked_stage view (End n) here are m is = no_some m is
  asked_stage view (Capture n) here are m is = no_some m is

  sent_dues : (view : View) (question : Question) → AreDecided d view
      → (k : SessionName) (due : Due) → for_statement question (λ n due. put is_name view.dues n None) view.dues k ≡ Some due → GoesTo d (message_of k due) k.hostgroup
  sent_dues view (Statement n other) are k due is = put_none view.dues n are.due k due is
  sent_dues view (Prep n key text) are k due is = are.due k due is
  sent_dues view (Sync n command) are k due is = are.due k due is
  sent_dues view (Own command) are k due is = are.due k due is
  sent_dues view (End n) are k due is = are.due k due is
  sent_dues view (Capture n) are k due is = are.due k due is

  sent_carried : (view : View) (question : Question) (link : LinkId) → ((n : SessionName) (due : Due) → question ≡ Statement n due → view.dues n ≡ Some due) → AreDecided d view
      → (m : MessageName) → is_some (for_statement question (λ n due. put is_message view.carriers (message_of n due) (Some link)) view.carriers m) ≡ true → IsDecided d m
  sent_carried view (Statement n due) link here are m is = by_test (is_message m (message_of n due)) refl is where
    by_test : (b : Bool) → is_message m (message_of n due) ≡ b → is_some (if b then Some link else view.carriers m) ≡ true → IsDecided d m
    by_test true same is =
        subst (IsDecided d) (sym (message_is m (message_of n due) same)) (goes_decided d (message_of n due) n.hostgroup (are.due n due (here n due refl)))
    by_test false other is = are.carried m is
  sent_carried view (Prep n key text) link here are m is = are.carried m is
  sent_carried view (Sync n command) link here are m is = are.carried m is
  sent_carried view (Own command) link here are m is = are.carried m is
  sent_carried view (End n) link here are m is = are.carried m is
  sent_carried view (Capture n) link here are m is = are.carried m is

  sent_is_due : (view : View) (link : LinkId) (question : Question) → MayTell view (Sent link question) → (n : SessionName) (due : Due) → question ≡ Statement n due
      → view.dues n ≡ Some due
  sent_is_due view link question may n due is = subst (λ (q : Question). MayTell view (Sent link q)) is may

  abbrev pub Holds : Story → Type 0
  Holds story = AreDecided d (view_after setup story)

  pub keeps_more : (past : Story) (e : Happening) → MayTell (view_after setup past) e → Holds past → Holds (e ∷ past)
  keeps_more past (LoggedIn link server account) may are = record {
    due = are.due;
    stands = put_stage (view_after setup past).links link _ (λ m is. no_some m is) are.stands;
    answered = are.answered;
    carried = are.carried;
  }
  keeps_more past (BecameDue client hostgroup ordinal key command multiplex) may are = absurd may
  keeps_more past (Sent link question) may are =
      let view = view_after setup past in
      record {
        due = sent_dues view question are;
        stands = put_stage view.links link _ (asked_stage view question (sent_is_due view link question may) are) are.stands;
        answered = are.answered;
        carried = sent_carried view question link (sent_is_due view link question may) are;
      }
  keeps_more past (Ran link) may are =
      let view = view_after setup past in
      record {
        due = are.due;
        stands = put_stage view.links link _ (λ m is. are.stands link m (sym (ran_stage (view.links link).stage (view.links link) refl) ∙ is)) are.stands;
        answered = are.answered;
        carried = are.carried;
      }
  keeps_more past (Heard link reply) may are =
      heard_of (view_after setup past) link reply ((view_after setup past).links link).stage (λ m is. are.stands link m is) are
  keeps_more past (Freed link) may are = record {
    due = are.due;
    stands = put_stage (view_after setup past).links link _ (λ m is. are.stands link m is) are.stands;
    answered = are.answered;
    carried = are.carried;
  }
  keeps_more past (Unprepared link number) may are = record {
    due = are.due;
    stands = put_stage (view_after setup past).links link _ (λ m is. are.stands link m is) are.stands;
    answered = are.answered;
    carried = are.carried;
  }
  keeps_more past (Dropped link) may are = are
  keeps_more past (Gone link) may are = record {
    due = are.due;
    stands = put_stage (view_after setup past).links link _ (λ m is. are.stands link m is) are.stands;
    answered = are.answered;
    carried = are.carried;
  }
  keeps_more past (Left client) may are = record { due = are.due; stands = are.stands; answered = are.answered; carried = are.carried }
  keeps_more past Broke may are = absurd may
  keeps_more past (Mirrored client job) may are = record { due = are.due; stands = are.stands; answered = are.answered; carried = are.carried }

  -- a statement becomes due, of which this was decided
  pub became_due : (past : Story) (client : ClientNo) (hostgroup : Hostgroup) (ordinal key : ℕ) (command : Command) (multiplex : Option Bool)
      → GoesTo d (record { client = client; ordinal = ordinal }) hostgroup → Holds past → Holds (BecameDue client hostgroup ordinal key command multiplex ∷ past)
  became_due past client hostgroup ordinal key command multiplex goes are = record {
    due = λ n due is. by_test n due (is_name n (present view client hostgroup)) refl is;
    stands = are.stands;
    answered = are.answered;
    carried = are.carried;
  } where
    view : View
    view = view_after setup past

    by_test : (n : SessionName) (due : Due) (b : Bool) → is_name n (present view client hostgroup) ≡ b
        → (if b then Some (due_of view (present view client hostgroup) ordinal key command multiplex) else view.dues n) ≡ Some due → GoesTo d (message_of n due) n.hostgroup
    by_test n due true same is =
        subst (λ (k : SessionName). GoesTo d (message_of k due) k.hostgroup) (sym (name_of n (present view client hostgroup) same))
        (subst (λ (x : Due). GoesTo d (message_of (present view client hostgroup) x) hostgroup) (some_of _ due is) goes)
    by_test n due false same is = are.due n due is
