-- In a lawful story a statement that was sent and isn't answered stands on the link to which it was sent, and nowhere else.
use Rattle.std.specs.Prelude.{◌≡◌, Bool, true, false, if◌then◌else◌, Option, Some, None, [], ◌∷◌}
use Rattle.std.proofs.Common.{refl, sym, ap, ◌∙◌}
use Rattle.std.proofs.lemmas.Bool.{true≢false}
use Rattle.std.proofs.lemmas.Option.{none-some}
use Rattle.private_model.proofs.Maps.{link_of, message_is, same_link, same_message}
use Rattle.private_model.specs.Commands.{Reply}
use Rattle.private_model.specs.Lawful.{IsLawful, MayCome, MaySend}
use Rattle.private_model.specs.Names.{LinkId, MessageName}
use Rattle.private_model.specs.Story.{BecameDue, Broke, Capture, Dropped, End, Freed, Gone, Happening, Heard, Left, LoggedIn, Mirrored, Own, Prep, Question, Ran, Sent, Statement, Story, Sync, Unprepared, is_link_id, is_message, message_of, put}
use Rattle.private_model.specs.View.{Answered, Asked, Link, Quiet, Setup, Stage, View, asked, closed_number, freed, heard, new_link, ran_by, view_after, view_heard, view_step}
use Rattle.row_laws.specs.Whose.{OfStatement}
use Rattle.core_stands.specs.Grounds.{Ground, view_on}
use Rattle.core_stands.specs.Servers.{IsStanding, IsStandingAt}

abbrev pub said : Question → Option MessageName
said (Statement n due) = Some (message_of n due)
said _ = None

abbrev pub said_at : Stage → Option MessageName
said_at Quiet = None
said_at (Asked question) = said question
said_at (Answered question) = said question

pub record AreStanding (links : LinkId → Link) (carriers : MessageName → Option LinkId) (replies : MessageName → Option Reply) : Type 0 where
  pub carrier : (l : LinkId) (m : MessageName) → said_at (links l).stage ≡ Some m → carriers m ≡ Some l
  pub unanswered : (l : LinkId) (m : MessageName) → said_at (links l).stage ≡ Some m → replies m ≡ None
  pub back : (m : MessageName) (l : LinkId) → carriers m ≡ Some l → replies m ≡ None → said_at (links l).stage ≡ Some m
  pub unsent : (m : MessageName) → carriers m ≡ None → replies m ≡ None

no_some : {A B : Type 0} (a : A) → None ≡ Some a → B
no_some a is = absurd (none-some a is)

some_is : {A : Type 0} (a b : A) → Some a ≡ Some b → a ≡ b
some_is a b is = cc

module _ (links : LinkId → Link) (carriers : MessageName → Option LinkId) (replies : MessageName → Option Reply) (are : AreStanding links carriers replies) where
  -- a link changes but for what stands there
  same_said : (link : LinkId) (value : Link) → said_at value.stage ≡ said_at (links link).stage → AreStanding (put is_link_id links link value) carriers replies
  same_said link value same = record {
    carrier = λ l m is. are.carrier l m (sym (there l) ∙ is);
    unanswered = λ l m is. are.unanswered l m (sym (there l) ∙ is);
    back = λ m l at none. there l ∙ are.back m l at none;
    unsent = are.unsent;
  } where
    there : (l : LinkId) → said_at (put is_link_id links link value l).stage ≡ said_at (links l).stage
    there l = by (is_link_id l link) refl where
      by : (b : Bool) → is_link_id l link ≡ b → said_at (if b then value else links l).stage ≡ said_at (links l).stage
      by true here = same ∙ ap (λ (k : LinkId). said_at (links k).stage) (sym (link_of l link here))
      by false other = refl

  module _ (link : LinkId) (value : Link) (m0 : MessageName) where
    -- a statement goes out
    goes_out : said_at value.stage ≡ Some m0 → (links link).stage ≡ Quiet → carriers m0 ≡ None
        → AreStanding (put is_link_id links link value) (put is_message carriers m0 (Some link)) replies
    goes_out says quiet free = record {
      carrier = λ l m is. carrier_by l m (is_link_id l link) (is_message m m0) refl refl is;
      unanswered = λ l m is. unanswered_by l m (is_link_id l link) refl is;
      back = λ m l at none. back_by m l (is_link_id l link) (is_message m m0) refl refl at none;
      unsent = λ m at. unsent_by m (is_message m m0) refl at;
    } where
      carrier_by : (l : LinkId) (m : MessageName) (b c : Bool) → is_link_id l link ≡ b → is_message m m0 ≡ c
          → said_at (if b then value else links l).stage ≡ Some m → (if c then Some link else carriers m) ≡ Some l
      carrier_by l m true true here same is = ap (λ (k : LinkId). Some k) (sym (link_of l link here))
      carrier_by l m true false here apart is =
          let one : m0 ≡ m = some_is m0 m (sym says ∙ is) in
          absurd (true≢false (sym (ap (λ (k : MessageName). is_message k m0) (sym one) ∙ same_message m0) ∙ apart))
      carrier_by l m false true other same is =
          no_some l (sym free ∙ ap carriers (sym (message_is m m0 same)) ∙ are.carrier l m is)
      carrier_by l m false false other apart is = are.carrier l m is

      unanswered_by : (l : LinkId) (m : MessageName) (b : Bool) → is_link_id l link ≡ b → said_at (if b then value else links l).stage ≡ Some m → replies m ≡ None
      unanswered_by l m true here is = ap replies (sym (some_is m0 m (sym says ∙ is))) ∙ are.unsent m0 free
      unanswered_by l m false other is = are.unanswered l m is

      back_by : (m : MessageName) (l : LinkId) (b c : Bool) → is_link_id l link ≡ b → is_message m m0 ≡ c → (if c then Some link else carriers m) ≡ Some l
          → replies m ≡ None → said_at (if b then value else links l).stage ≡ Some m
      back_by m l true true here same at none = says ∙ ap (λ (k : MessageName). Some k) (sym (message_is m m0 same))
      back_by m l true false here apart at none =
          no_some m (sym (ap said_at quiet) ∙ ap (λ (k : LinkId). said_at (links k).stage) (sym (link_of l link here)) ∙ are.back m l at none)
      back_by m l false true other same at none =
          let one : link ≡ l = some_is link l at in
          absurd (true≢false (sym (ap (λ (k : LinkId). is_link_id k link) (sym one) ∙ same_link link) ∙ other))
      back_by m l false false other apart at none = are.back m l at none

      unsent_by : (m : MessageName) (c : Bool) → is_message m m0 ≡ c → (if c then Some link else carriers m) ≡ None → replies m ≡ None
      unsent_by m true same at = no_some link (sym at)
      unsent_by m false apart at = are.unsent m at

    -- and it is answered
    is_told : (reply : Reply) → said_at value.stage ≡ None → said_at (links link).stage ≡ Some m0
        → AreStanding (put is_link_id links link value) carriers (put is_message replies m0 (Some reply))
    is_told reply quiet says = record {
      carrier = λ l m is. carrier_by l m (is_link_id l link) refl is;
      unanswered = λ l m is. unanswered_by l m (is_link_id l link) (is_message m m0) refl refl is;
      back = λ m l at none. back_by m l (is_link_id l link) (is_message m m0) refl refl at none;
      unsent = λ m at. unsent_by m (is_message m m0) refl at;
    } where
      at_link : carriers m0 ≡ Some link
      at_link = are.carrier link m0 says

      carrier_by : (l : LinkId) (m : MessageName) (b : Bool) → is_link_id l link ≡ b → said_at (if b then value else links l).stage ≡ Some m → carriers m ≡ Some l
      carrier_by l m true here is = no_some m (sym quiet ∙ is)
      carrier_by l m false other is = are.carrier l m is

      unanswered_by : (l : LinkId) (m : MessageName) (b c : Bool) → is_link_id l link ≡ b → is_message m m0 ≡ c → said_at (if b then value else links l).stage ≡ Some m
          → (if c then Some reply else replies m) ≡ None
      unanswered_by l m true c here same is = no_some m (sym quiet ∙ is)
      unanswered_by l m false true other same is =
          let one : link ≡ l = some_is link l (sym at_link ∙ ap carriers (sym (message_is m m0 same)) ∙ are.carrier l m is) in
          absurd (true≢false (sym (ap (λ (k : LinkId). is_link_id k link) (sym one) ∙ same_link link) ∙ other))
      unanswered_by l m false false other apart is = are.unanswered l m is

      back_by : (m : MessageName) (l : LinkId) (b c : Bool) → is_link_id l link ≡ b → is_message m m0 ≡ c → carriers m ≡ Some l
          → (if c then Some reply else replies m) ≡ None → said_at (if b then value else links l).stage ≡ Some m
      back_by m l b true here same at none = no_some reply (sym none)
      back_by m l true false here apart at none =
          let one : m0 ≡ m = some_is m0 m (sym says ∙ ap (λ (k : LinkId). said_at (links k).stage) (sym (link_of l link here)) ∙ are.back m l at none) in
          absurd (true≢false (sym (ap (λ (k : MessageName). is_message k m0) (sym one) ∙ same_message m0) ∙ apart))
      back_by m l false false other apart at none = are.back m l at none

      unsent_by : (m : MessageName) (c : Bool) → is_message m m0 ≡ c → carriers m ≡ None → (if c then Some reply else replies m) ≡ None
      unsent_by m true same at = no_some link (sym at ∙ ap carriers (message_is m m0 same) ∙ at_link)
      unsent_by m false apart at = are.unsent m at

abbrev pub StandIn : View → Type 0
StandIn view = AreStanding view.links view.carriers view.replies

module _ (setup : Setup) (view : View) (are : StandIn view) where
  sent_stand : (link : LinkId) (question : Question) → MaySend setup view (view.links link) question → StandIn (view_step setup view (Sent link question))
  sent_stand link (Statement n due) may =
      goes_out view.links view.carriers view.replies are link (asked (Statement n due) (view.links link)) (message_of n due) refl may.quiet may.fits.unsent
  sent_stand link (Prep n key text) may =
      same_said view.links view.carriers view.replies are link (asked (Prep n key text) (view.links link)) (sym (ap said_at may.quiet))
  sent_stand link (Sync n command) may =
      same_said view.links view.carriers view.replies are link (asked (Sync n command) (view.links link)) (sym (ap said_at may.quiet))
  sent_stand link (Own command) may =
      same_said view.links view.carriers view.replies are link (asked (Own command) (view.links link)) (sym (ap said_at may.quiet))
  sent_stand link (End n) may =
      same_said view.links view.carriers view.replies are link (asked (End n) (view.links link)) (sym (ap said_at may.quiet))
  sent_stand link (Capture n) may =
      same_said view.links view.carriers view.replies are link (asked (Capture n) (view.links link)) (sym (ap said_at may.quiet))

  ran_stand : (link : LinkId) (stage : Stage) → (view.links link).stage ≡ stage
      → AreStanding (put is_link_id view.links link (ran_by setup.reads stage (view.links link))) view.carriers view.replies
  ran_stand link Quiet at = same_said view.links view.carriers view.replies are link (view.links link) refl
  ran_stand link (Asked question) at =
      same_said view.links view.carriers view.replies are link (ran_by setup.reads (Asked question) (view.links link)) (sym (ap said_at at))
  ran_stand link (Answered question) at = same_said view.links view.carriers view.replies are link (view.links link) refl

  heard_stand : (link : LinkId) (reply : Reply) (stage : Stage) → (view.links link).stage ≡ stage → StandIn (view_heard setup view link reply stage)
  heard_stand link reply Quiet at = are
  heard_stand link reply (Asked question) at = are
  heard_stand link reply (Answered (Statement n due)) at =
      is_told view.links view.carriers view.replies are link (heard setup.reads (Statement n due) reply (view.links link)) (message_of n due) reply refl (ap said_at at)
  heard_stand link reply (Answered (Prep n key text)) at =
      same_said view.links view.carriers view.replies are link (heard setup.reads (Prep n key text) reply (view.links link)) (sym (ap said_at at))
  heard_stand link reply (Answered (Sync n command)) at =
      same_said view.links view.carriers view.replies are link (heard setup.reads (Sync n command) reply (view.links link)) (sym (ap said_at at))
  heard_stand link reply (Answered (Own command)) at =
      same_said view.links view.carriers view.replies are link (heard setup.reads (Own command) reply (view.links link)) (sym (ap said_at at))
  heard_stand link reply (Answered (End n)) at =
      same_said view.links view.carriers view.replies are link (heard setup.reads (End n) reply (view.links link)) (sym (ap said_at at))
  heard_stand link reply (Answered (Capture n)) at =
      same_said view.links view.carriers view.replies are link (heard setup.reads (Capture n) reply (view.links link)) (sym (ap said_at at))

  stand_step : (e : Happening) → MayCome setup view e → StandIn (view_step setup view e)
  stand_step (LoggedIn link server account) may =
      same_said view.links view.carriers view.replies are link (new_link server account) (sym (ap (λ (x : Link). said_at x.stage) may))
  stand_step (BecameDue client hostgroup ordinal key command multiplex) may = are
  stand_step (Sent link question) may = sent_stand link question may
  stand_step (Ran link) may = ran_stand link (view.links link).stage refl
  stand_step (Heard link reply) may = heard_stand link reply (view.links link).stage refl
  stand_step (Freed link) may = same_said view.links view.carriers view.replies are link (freed (view.links link)) refl
  stand_step (Unprepared link number) may = same_said view.links view.carriers view.replies are link (closed_number number (view.links link)) refl
  stand_step (Dropped link) may = are
  stand_step (Gone link) may = same_said view.links view.carriers view.replies are link (record (view.links link) { usable = false }) refl
  stand_step (Left client) may = are
  stand_step Broke may = are
  stand_step (Mirrored client job) may = are

pub stand_so : (setup : Setup) (story : Story) → IsLawful setup story → StandIn (view_after setup story)
stand_so setup [] lawful = record {
  carrier = λ l m is. no_some m is;
  unanswered = λ l m is. no_some m is;
  back = λ m l at none. no_some l at;
  unsent = λ m at. refl;
}
stand_so setup (e ∷ past) lawful = stand_step setup (view_after setup past) (stand_so setup past lawful.0) e lawful.1

-- so it is of each link

module _ (g : Ground) (l : LinkId) (are : StandIn (view_on g)) where
  asked_standing : (question : Question) → ((m : MessageName) → said question ≡ Some m → said_at ((view_on g).links l).stage ≡ Some m) → OfStatement question (IsStanding g l)
  asked_standing (Statement n due) at =
      record { carrier = are.carrier l (message_of n due) (at (message_of n due) refl); unanswered = are.unanswered l (message_of n due) (at (message_of n due) refl) }
  asked_standing (Prep n key text) at = tt
  asked_standing (Sync n command) at = tt
  asked_standing (Own command) at = tt
  asked_standing (End n) at = tt
  asked_standing (Capture n) at = tt

  standing_by : (stage : Stage) → ((view_on g).links l).stage ≡ stage → IsStandingAt stage g l
  standing_by Quiet at = tt
  standing_by (Asked question) at = asked_standing question (λ m is. ap said_at at ∙ is)
  standing_by (Answered question) at = asked_standing question (λ m is. ap said_at at ∙ is)

  pub standing_at : IsStandingAt ((view_on g).links l).stage g l
  standing_at = standing_by ((view_on g).links l).stage refl
