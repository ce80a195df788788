-- What is due in the session to which a link is lent stays so.
use Rattle.std.specs.Prelude.{◌≡◌, ◌⊎◌, Bool, true, false, is_some, if◌then◌else◌, ◌∷◌, Some, None}
use Rattle.std.proofs.Common.{refl, sym, ap, ◌∙◌, subst, inl, inr}
use Rattle.std.proofs.lemmas.Bool.{true≢false}
use Rattle.std.proofs.lemmas.Option.{none-some, same_Some}
use Rattle.private_model.proofs.Maps.{name_of, same_link}
use Rattle.private_model.specs.Commands.{Reply}
use Rattle.private_model.specs.Lawful.{BeginsThere, GoesOnThere, IsLawful, IsStatement, IsVacant, MayCome}
use Rattle.private_model.specs.Names.{LinkId, SessionName}
use Rattle.private_model.specs.Story.{BecameDue, Broke, Capture, Due, Dropped, End, Freed, Gone, Happening, Heard, Left, LoggedIn, Mirrored, Own, Prep, Question, Ran, Sent, Statement, Story, Sync, Unprepared, is_link_id, is_name}
use Rattle.private_model.specs.View as view
use Rattle.private_model.specs.View.{Setup, Stage, View, due_of, present, session_in, view_after, view_heard, view_step}
use Rattle.link_state.specs.declared.state.Carried.{Carried}
use Rattle.link_state.specs.declared.state.Carried.TheVariants.{Nobody, Lent, Joined}
use Rattle.row_laws.specs.Apart.{IsElsewhere}
use Rattle.row_laws.specs.Whose.{name_in}
use Rattle.core_stands.specs.Servers.{IsAhead, OfLent}
use Rattle.core_laws.specs.parting.Frames.{AreHomed}
use Rattle.core_laws.proofs.OfParting.Homes.{homes_so}

pub lent_on : (P Q : SessionName → Type 0) (carries : Carried) → ((n : SessionName) → name_in carries ≡ Some n → P n → Q n) → OfLent carries P
    → OfLent carries Q
lent_on P Q Nobody goes is = tt
lent_on P Q (Lent n) goes is = goes n refl is
lent_on P Q (Joined n) goes is = tt

-- where the same is due
pub ahead_same : (seen new : View) (carries : Carried) → ((n : SessionName) → new.dues n ≡ seen.dues n) → OfLent carries (IsAhead seen)
    → OfLent carries (IsAhead new)
ahead_same seen new carries same is = lent_on (IsAhead seen) (IsAhead new) carries (λ n named ahead. ap is_some (same n) ∙ ahead) is

-- A statement that is sent on another link is of another session.

module _ (setup : Setup) (seen : View) (homed : AreHomed seen.links seen.held) (l other : LinkId) (n m : SessionName) (due : Due)
    (carries : session_in (seen.links l).carries ≡ Some n) (apart : is_link_id l other ≡ false) where
  not_here : session_in (seen.links other).carries ≡ Some n → ⊥
  not_here there =
      let one : other ≡ l = same_Some other l (sym (homed.home other n there) ∙ homed.home l n carries) in
      true≢false (sym (same_link l) ∙ ap (is_link_id l) (sym one) ∙ apart)

  not_vacant : IsVacant (seen.links other) (seen.held n) → ⊥
  not_vacant vacant = none-some l (sym vacant.homeless ∙ homed.home l n carries)

  not_lent : IsVacant (seen.links other) (seen.held n) ⊎ ((seen.links other).carries ≡ view.Lent n) → ⊥
  not_lent (inl vacant) = not_vacant vacant
  not_lent (inr lent) = not_here (ap session_in lent)

  not_sent : BeginsThere setup n due (seen.links other) (seen.held n) ⊎ GoesOnThere setup n due (seen.links other) (seen.held n) → ⊥
  not_sent (inl begins) = not_lent begins.lends
  not_sent (inr on) = not_here (ap session_in on.carries)

  pub sent_apart : IsStatement setup seen m due (seen.links other) → is_name n m ≡ false
  sent_apart fits = by (is_name n m) refl where
    by : (b : Bool) → is_name n m ≡ b → b ≡ false
    by false is = refl
    by true is =
        let one : m ≡ n = sym (name_of n m is) in
        absurd (not_sent (subst (λ (k : SessionName). BeginsThere setup k due (seen.links other) (seen.held k) ⊎ GoesOnThere setup k due (seen.links other) (seen.held k))
        one fits.how))

-- Whatever happens elsewhere.

module _ (setup : Setup) (seen : View) (homed : AreHomed seen.links seen.held) (l : LinkId) (n : SessionName)
    (carries : session_in (seen.links l).carries ≡ Some n) (ahead : IsAhead seen n) where
  ahead_put : (b : Bool) (new : Due) → is_some (if b then Some new else seen.dues n) ≡ true
  ahead_put true new = refl
  ahead_put false new = ahead

  ahead_but : (b : Bool) → b ≡ false → is_some (if b then None else seen.dues n) ≡ true
  ahead_but true is = absurd (true≢false is)
  ahead_but false is = ahead

  ahead_sent : (other : LinkId) (question : Question) → is_link_id l other ≡ false → MayCome setup seen (Sent other question)
      → IsAhead (view_step setup seen (Sent other question)) n
  ahead_sent other (Statement m due) apart may =
      ahead_but (is_name n m) (sent_apart setup seen homed l other n m due carries apart may.fits)
  ahead_sent other (Prep m key text) apart may = ahead
  ahead_sent other (Sync m command) apart may = ahead
  ahead_sent other (Own command) apart may = ahead
  ahead_sent other (End m) apart may = ahead
  ahead_sent other (Capture m) apart may = ahead

  ahead_heard : (other : LinkId) (reply : Reply) (stage : Stage) → IsAhead (view_heard setup seen other reply stage) n
  ahead_heard other reply view.Quiet = ahead
  ahead_heard other reply (view.Asked question) = ahead
  ahead_heard other reply (view.Answered question) = ahead

  ahead_step : (e : Happening) → IsElsewhere l e → MayCome setup seen e → IsAhead (view_step setup seen e) n
  ahead_step (BecameDue client hostgroup ordinal key command multiplex) other may =
      let m : SessionName = present seen client hostgroup in
      ahead_put (is_name n m) (due_of seen m ordinal key command multiplex)
  ahead_step (Sent link question) other may = ahead_sent link question (other link refl) may
  ahead_step (Heard link reply) other may = ahead_heard link reply (seen.links link).stage
  ahead_step (LoggedIn link server account) other may = ahead
  ahead_step (Ran link) other may = ahead
  ahead_step (Freed link) other may = ahead
  ahead_step (Unprepared link number) other may = ahead
  ahead_step (Dropped link) other may = ahead
  ahead_step (Gone link) other may = ahead
  ahead_step (Left client) other may = ahead
  ahead_step Broke other may = ahead
  ahead_step (Mirrored client job) other may = ahead

pub ahead_elsewhere : (setup : Setup) (past : Story) (e : Happening) (l : LinkId) (carries : Carried) → IsLawful setup (e ∷ past) → IsElsewhere l e
    → session_in ((view_after setup past).links l).carries ≡ name_in carries → OfLent carries (IsAhead (view_after setup past))
    → OfLent carries (IsAhead (view_after setup (e ∷ past)))
ahead_elsewhere setup past e l carries lawful other named is =
    lent_on (IsAhead (view_after setup past)) (IsAhead (view_after setup (e ∷ past))) carries
    (λ n here ahead.
    ahead_step setup (view_after setup past) (homes_so setup past lawful.0) l n (named ∙ here) ahead e other lawful.1) is
