-- What is so of each statement that became due is so of each that is due.
use Rattle.std.specs.Prelude.{◌≡◌, Bool, true, false, if◌then◌else◌, [], ◌∷◌, Option, Some, None}
use Rattle.std.proofs.Common.{refl, sym, subst}
use Rattle.private_model.proofs.Maps.{name_of as named}
use Rattle.private_model.specs.Commands.{Reply}
use Rattle.private_model.specs.Names.{LinkId, MessageName, SessionName}
use Rattle.private_model.specs.Story.{BecameDue, Broke, Capture, Dropped, Due, End, Freed, Gone, Happening, Heard, Left, LoggedIn, Mirrored, Own, Prep, Question, Ran, Sent, Statement, Story, Sync, Unprepared}
use Rattle.private_model.specs.Story.{for_statement, is_name, message_of, put}
use Rattle.private_model.specs.View.{Answered, Asked, Quiet, Setup, Stage, View, present, view_after, view_heard}
use Rattle.shared_router.proofs.Others.{IsOther}

pub either : {A : Type 0} (P : A → Type 0) (b : Bool) (x y : A) → P x → P y → P (if b then x else y)
either P true x y one two = one
either P false x y one two = two

abbrev pub AllDue : (MessageName → Type 0) → Story → Type 0
AllDue P [] = Unit {0}
AllDue P (BecameDue client hostgroup ordinal key command multiplex ∷ past) = P (record { client = client; ordinal = ordinal }) × AllDue P past
AllDue P (e ∷ past) = AllDue P past

pub all_later : (P Q : MessageName → Type 0) → ((m : MessageName) → P m → Q m) → (story : Story) → AllDue P story → AllDue Q story
all_later P Q more [] all = tt
all_later P Q more (BecameDue client hostgroup ordinal key command multiplex ∷ past) all =
    (more (record { client = client; ordinal = ordinal }) all.0, all_later P Q more past all.1)
all_later P Q more (LoggedIn link server account ∷ past) all = all_later P Q more past all
all_later P Q more (Sent link question ∷ past) all = all_later P Q more past all
all_later P Q more (Ran link ∷ past) all = all_later P Q more past all
all_later P Q more (Heard link reply ∷ past) all = all_later P Q more past all
all_later P Q more (Freed link ∷ past) all = all_later P Q more past all
all_later P Q more (Unprepared link number ∷ past) all = all_later P Q more past all
all_later P Q more (Dropped link ∷ past) all = all_later P Q more past all
all_later P Q more (Gone link ∷ past) all = all_later P Q more past all
all_later P Q more (Left client ∷ past) all = all_later P Q more past all
all_later P Q more (Broke ∷ past) all = all_later P Q more past all
all_later P Q more (Mirrored client job ∷ past) all = all_later P Q more past all

module _ (P : MessageName → Type 0) where
  pub other_due : (past : Story) (e : Happening) → IsOther e → AllDue P past → AllDue P (e ∷ past)
  other_due past (BecameDue client hostgroup ordinal key command multiplex) other all = absurd other
  other_due past _ other all = all

  abbrev IsSo : SessionName → Option Due → Type 0
  IsSo n None = Unit {0}
  IsSo n (Some due) = P (message_of n due)

  -- a due that is put there
  so_put : (m n : SessionName) (due : Due) (dues : SessionName → Option Due) → P (message_of m due) → IsSo n (dues n) → IsSo n (put is_name dues m (Some due) n)
  so_put m n due dues now before = by_test (is_name n m) (named n m) where
    by_test : (b : Bool) → (b ≡ true → n ≡ m) → IsSo n (if b then Some due else dues n)
    by_test true same = subst (λ (k : SessionName). P (message_of k due)) (sym (same refl)) now
    by_test false same = before

  so_sent : (n : SessionName) (question : Question) (dues : SessionName → Option Due) → IsSo n (dues n)
      → IsSo n (for_statement question (λ m due. put is_name dues m None) dues n)
  so_sent n (Statement m due) dues before = either (IsSo n) (is_name n m) None (dues n) tt before
  so_sent n (Prep m key text) dues before = before
  so_sent n (Sync m command) dues before = before
  so_sent n (Own command) dues before = before
  so_sent n (End m) dues before = before
  so_sent n (Capture m) dues before = before

  module _ (setup : Setup) (n : SessionName) where
    so_heard : (view : View) (link : LinkId) (reply : Reply) (stage : Stage) → IsSo n (view.dues n) → IsSo n ((view_heard setup view link reply stage).dues n)
    so_heard view link reply (Answered question) before = before
    so_heard view link reply (Asked question) before = before
    so_heard view link reply Quiet before = before

    so_due : (story : Story) → AllDue P story → IsSo n ((view_after setup story).dues n)
    so_due [] all = tt
    so_due (BecameDue client hostgroup ordinal key command multiplex ∷ past) all =
        let view = view_after setup past in
        so_put (present view client hostgroup) n _ view.dues all.0 (so_due past all.1)
    so_due (Sent link question ∷ past) all = so_sent n question (view_after setup past).dues (so_due past all)
    so_due (Heard link reply ∷ past) all =
        let view = view_after setup past in so_heard view link reply (view.links link).stage (so_due past all)
    so_due (LoggedIn link server account ∷ past) all = so_due past all
    so_due (Ran link ∷ past) all = so_due past all
    so_due (Freed link ∷ past) all = so_due past all
    so_due (Unprepared link number ∷ past) all = so_due past all
    so_due (Dropped link ∷ past) all = so_due past all
    so_due (Gone link ∷ past) all = so_due past all
    so_due (Left client ∷ past) all = so_due past all
    so_due (Broke ∷ past) all = so_due past all
    so_due (Mirrored client job ∷ past) all = so_due past all

    pub due_is : (story : Story) (due : Due) → AllDue P story → (view_after setup story).dues n ≡ Some due → P (message_of n due)
    due_is story due all is = subst (IsSo n) is (so_due story all)
