-- Each execute that stands on a link reads as it is spelt: what is due has the arguments of a statement with its parameters, and what stands
-- prepared a number of 32 bits.
use Rattle.std.specs.Prelude.{◌≡◌, ◌<◌, ◌&&◌, ℕ, Bool, true, false, nat_eq, if◌then◌else◌, List, [], ◌∷◌, Option, Some, None}
use Rattle.std.specs.Option.{option_and_then}
use Rattle.std.proofs.Common.{refl, sym, ap, ◌∙◌, subst, inl, inr}
use Rattle.private_model.specs.Commands.{Args, Command, FieldList, InitDb, Prepare, Query, Quit, ReadId, Reply, Reset, Run, SetId, end_of, is_made, is_prepare, number_in}
use Rattle.private_model.specs.Lawful.{Fits, IsKeyed, IsLawful, IsOwnStep, IsStatement, IsStepOf}
use Rattle.private_model.specs.Names.{LinkId, MessageName, SessionName}
use Rattle.private_model.specs.Story.{BecameDue, Broke, Capture, Dropped, Due, End, Freed, Gone, Happening, Heard, Left, LoggedIn, Mirrored, Own, Prep, Question, Ran, Sent, Statement, Story, Sync, Unprepared}
use Rattle.private_model.specs.Story.{command_of, for_statement, is_link_id, is_message, message_of, put}
use Rattle.private_model.specs.View.{Answered, Asked, Link, Quiet, Setup, Stage, View, asked, closed_number, freed, heard, lived, live_after, new_link, ran_by, view_after, view_heard}
use Rattle.server_rule.specs.Classes.{Reads}
use Rattle.session_state.specs.declared.pin.Pin.{Pin}
use Rattle.session_state.specs.declared.place.Told.{Told}
use Rattle.log_story.specs.Honest.{IsExecute, number_for}
use Rattle.run_laws.proofs.Becoming.{all_dues}
use Rattle.run_laws.proofs.Reading.{reads_back}
use Rattle.run_laws.specs.Becoming.{AllBecame}
use Rattle.run_laws.specs.Reads.{AllHeard, HasArgs, HasItsArgs, IsSmall, ReadsAsked, ReadsRun, execute_spelt}

no_some : {A B : Type 0} (a : A) → None ≡ Some a → B
no_some a is = absurd (cc)

some_of : {A : Type 0} (a b : A) → Some a ≡ Some b → a ≡ b
some_of a b is = cc

-- Replies.

module _ (setup : Setup) where
  abbrev RepliesAre : (MessageName → Option Reply) → Type 0
  RepliesAre replies = (m : MessageName) (reply : Reply) → replies m ≡ Some reply → IsSmall (end_of reply)

  put_reply : (replies : MessageName → Option Reply) (m : MessageName) (reply : Reply) → IsSmall (end_of reply) → RepliesAre replies → RepliesAre (put is_message replies m (Some reply))
  put_reply replies m reply small are n other is = by_test (is_message n m) is where
    by_test : (b : Bool) → (if b then Some reply else replies n) ≡ Some other → IsSmall (end_of other)
    by_test true here = subst (λ (r : Reply). IsSmall (end_of r)) (some_of reply other here) small
    by_test false there = are n other there

  heard_replies : (view : View) (link : LinkId) (reply : Reply) (stage : Stage) → IsSmall (end_of reply) → RepliesAre view.replies → RepliesAre (view_heard setup view link reply stage).replies
  heard_replies view link reply Quiet small are = are
  heard_replies view link reply (Asked question) small are = are
  heard_replies view link reply (Answered (Statement n due)) small are = put_reply view.replies (message_of n due) reply small are
  heard_replies view link reply (Answered (Prep n key text)) small are = are
  heard_replies view link reply (Answered (Sync n command)) small are = are
  heard_replies view link reply (Answered (Own command)) small are = are
  heard_replies view link reply (Answered (End n)) small are = are
  heard_replies view link reply (Answered (Capture n)) small are = are

  pub all_replies : (story : Story) → AllHeard story → RepliesAre (view_after setup story).replies
  all_replies [] all = λ m reply is. no_some reply is
  all_replies (Heard link reply ∷ past) all = heard_replies (view_after setup past) link reply ((view_after setup past).links link).stage all.0 (all_replies past all.1)
  all_replies (BecameDue client hostgroup ordinal key command multiplex ∷ past) all = all_replies past all
  all_replies (Sent link question ∷ past) all = all_replies past all
  all_replies (LoggedIn link server account ∷ past) all = all_replies past all
  all_replies (Ran link ∷ past) all = all_replies past all
  all_replies (Freed link ∷ past) all = all_replies past all
  all_replies (Unprepared link number ∷ past) all = all_replies past all
  all_replies (Dropped link ∷ past) all = all_replies past all
  all_replies (Gone link ∷ past) all = all_replies past all
  all_replies (Left client ∷ past) all = all_replies past all
  all_replies (Broke ∷ past) all = all_replies past all
  all_replies (Mirrored client job ∷ past) all = all_replies past all

  -- What stands prepared on a link.

  abbrev AreNumbers : (ℕ → Option ℕ) → Type 0
  AreNumbers live = (key number : ℕ) → live key ≡ Some number → number < 4294967296

  lived_small : (makes ok : Bool) (key number : ℕ) (live : ℕ → Option ℕ) → number < 4294967296 → AreNumbers live → AreNumbers (lived makes ok key number live)
  lived_small makes ok key number live small are k n is = by_made (makes && ok) is where
    by_key : (b : Bool) → (if b then Some number else live k) ≡ Some n → n < 4294967296
    by_key true here = subst (λ (x : ℕ). x < 4294967296) (some_of number n here) small
    by_key false there = are k n there

    by_made : (b : Bool) → (if b then put nat_eq live key (Some number) else live) k ≡ Some n → n < 4294967296
    by_made true made = by_key (nat_eq k key) made
    by_made false none = are k n none

  live_small : (question : Question) (reply : Reply) (live : ℕ → Option ℕ) → IsSmall (end_of reply) → AreNumbers live → AreNumbers (live_after question reply live)
  live_small (Statement n due) reply live small are = lived_small (is_prepare due.command) (is_made reply) due.key (number_in reply) live small.number are
  live_small (Prep n key text) reply live small are = lived_small true (is_made reply) key (number_in reply) live small.number are
  live_small (End n) reply live small are = λ k number is. no_some number is
  live_small (Sync n command) reply live small are = are
  live_small (Own command) reply live small are = are
  live_small (Capture n) reply live small are = are

  closed_small : (number : ℕ) (live : ℕ → Option ℕ) → AreNumbers live → AreNumbers (λ key. option_and_then (λ n. if nat_eq n number then None else Some n) (live key))
  closed_small number live are key n is = by_live (live key) refl is where
    by_test : (m : ℕ) → live key ≡ Some m → (b : Bool) → (if b then None else Some m) ≡ Some n → n < 4294967296
    by_test m at true now = no_some n now
    by_test m at false now = are key n (at ∙ now)

    by_live : (o : Option ℕ) → live key ≡ o → option_and_then (λ m. if nat_eq m number then None else Some m) o ≡ Some n → n < 4294967296
    by_live None at now = no_some n now
    by_live (Some m) at now = by_test m at (nat_eq m number) now

  -- A link.

  pub record IsReadable (link : Link) : Type 0 where
    pub numbers : AreNumbers link.live
    pub asked : ReadsAsked link.stage link.live

  abbrev AllReadable : (LinkId → Link) → Type 0
  AllReadable links = (l : LinkId) → IsReadable (links l)

  put_link : (links : LinkId → Link) (k : LinkId) (link : Link) → IsReadable link → AllReadable links → AllReadable (put is_link_id links k link)
  put_link links k link now are l = by_test (is_link_id l k) where
    by_test : (b : Bool) → IsReadable (if b then link else links l)
    by_test true = now
    by_test false = are l

  -- A question goes out.

  reads_of : (command : Command) (key : ℕ) (told : Told) (live : ℕ → Option ℕ) → IsKeyed setup command key told live → HasArgs command → AreNumbers live
      → ReadsRun command (live key)
  reads_of (Run text schema settings args) key told live keyed has numbers =
      subst (λ o. IsExecute o args (execute_spelt o args)) (sym keyed.there) (reads_back has.0 keyed.number args (numbers key keyed.number keyed.there) has.1)
  reads_of (Query text) key told live keyed has numbers = tt
  reads_of (InitDb schema) key told live keyed has numbers = tt
  reads_of (FieldList rest) key told live keyed has numbers = tt
  reads_of (SetId n) key told live keyed has numbers = tt
  reads_of ReadId key told live keyed has numbers = tt
  reads_of (Prepare text) key told live keyed has numbers = tt
  reads_of Reset key told live keyed has numbers = tt
  reads_of Quit key told live keyed has numbers = tt

  keyed_of : (view : View) (n : SessionName) (due : Due) (link : Link) → IsStatement setup view n due link → IsKeyed setup due.command due.key link.told link.live
  keyed_of view n due link is = elim is.how [
    | inl begins ↦ begins.begins.keyed
    | inr goes_on ↦ goes_on.goes_on.keyed
  ]

  step_reads : (reads : Reads) (command : Command) (pin : Pin) (id : Option ℕ) → IsStepOf reads command pin id → ReadsRun command None
  step_reads reads (Run text schema settings args) pin id is = absurd is
  step_reads reads _ pin id is = tt

  own_reads : (reads : Reads) (command : Command) → IsOwnStep reads command → ReadsRun command None
  own_reads reads (Run text schema settings args) is = absurd is
  own_reads reads _ is = tt

  question_reads : (question : Question) (view : View) (link : Link) → Fits setup view link question → ((n : SessionName) (due : Due) → view.dues n ≡ Some due → HasItsArgs n due)
      → AreNumbers link.live → ReadsRun (command_of question) (number_for question link.live)
  question_reads (Statement n due) view link fits dues numbers =
      reads_of due.command due.key link.told link.live (keyed_of view n due link fits) (dues n due fits.is_due) numbers
  question_reads (Prep n key text) view link fits dues numbers = tt
  question_reads (Sync n command) view link fits dues numbers = step_reads setup.reads command (view.held n).pin (view.held n).id fits.fits
  question_reads (Own command) view link fits dues numbers = own_reads setup.reads command fits.fits
  question_reads (End n) view link fits dues numbers = tt
  question_reads (Capture n) view link fits dues numbers = tt

  ran_readable : (stage : Stage) (link : Link) → link.stage ≡ stage → IsReadable link → IsReadable (ran_by setup.reads stage link)
  ran_readable Quiet link at is = is
  ran_readable (Answered question) link at is = is
  ran_readable (Asked question) link at is = record { numbers = is.numbers; asked = subst (λ (s : Stage). ReadsAsked s link.live) at is.asked }

  heard_readable : (view : View) (k : LinkId) (reply : Reply) (stage : Stage) → IsSmall (end_of reply) → AllReadable view.links → AllReadable (view_heard setup view k reply stage).links
  heard_readable view k reply Quiet small are = are
  heard_readable view k reply (Asked question) small are = are
  heard_readable view k reply (Answered question) small are =
      put_link view.links k (heard setup.reads question reply (view.links k))
      (record { numbers = live_small question reply (view.links k).live small (are k).numbers; asked = tt }) are

  -- Along a lawful story.
  pub readable : (story : Story) → IsLawful setup story → AllBecame setup HasItsArgs story → AllHeard story → AllReadable (view_after setup story).links
  readable [] lawful became heard = λ l. record { numbers = λ key number is. no_some number is; asked = tt }
  readable (LoggedIn link server account ∷ past) lawful became heard =
      put_link (view_after setup past).links link (new_link server account) (record { numbers = λ key number is. no_some number is; asked = tt })
      (readable past lawful.0 became heard)
  readable (BecameDue client hostgroup ordinal key command multiplex ∷ past) lawful became heard = readable past lawful.0 became.1 heard
  readable (Sent link question ∷ past) lawful became heard =
      let view : View = view_after setup past in
      let are : AllReadable view.links = readable past lawful.0 became heard in
      put_link view.links link (asked question (view.links link)) (record {
        numbers = (are link).numbers;
        asked = question_reads question view (view.links link) lawful.1.fits (all_dues setup HasItsArgs past became) (are link).numbers;
      }) are
  readable (Ran link ∷ past) lawful became heard =
      let view : View = view_after setup past in
      let are : AllReadable view.links = readable past lawful.0 became heard in
      put_link view.links link (ran_by setup.reads (view.links link).stage (view.links link)) (ran_readable (view.links link).stage (view.links link) refl (are link)) are
  readable (Heard link reply ∷ past) lawful became heard =
      let view : View = view_after setup past in
      heard_readable view link reply (view.links link).stage heard.0 (readable past lawful.0 became heard.1)
  readable (Freed link ∷ past) lawful became heard =
      let view : View = view_after setup past in
      let are : AllReadable view.links = readable past lawful.0 became heard in
      put_link view.links link (freed (view.links link)) (record { numbers = (are link).numbers; asked = (are link).asked }) are
  readable (Unprepared link number ∷ past) lawful became heard =
      let view : View = view_after setup past in
      let are : AllReadable view.links = readable past lawful.0 became heard in
      put_link view.links link (closed_number number (view.links link)) (record {
        numbers = closed_small number (view.links link).live (are link).numbers;
        asked = subst (λ (s : Stage). ReadsAsked s (closed_number number (view.links link)).live) (sym lawful.1) tt;
      }) are
  readable (Gone link ∷ past) lawful became heard =
      let view : View = view_after setup past in
      let are : AllReadable view.links = readable past lawful.0 became heard in
      put_link view.links link (record (view.links link) { usable = false }) (record { numbers = (are link).numbers; asked = (are link).asked }) are
  readable (Dropped link ∷ past) lawful became heard = readable past lawful.0 became heard
  readable (Left client ∷ past) lawful became heard = readable past lawful.0 became heard
  readable (Broke ∷ past) lawful became heard = readable past lawful.0 became heard
  readable (Mirrored client job ∷ past) lawful became heard = readable past lawful.0 became heard
