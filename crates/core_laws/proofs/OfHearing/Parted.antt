-- A statement that stands on a link for a session that was left is of a client that ended, to which nothing more is told.
use Rattle.std.specs.Prelude.{◌≡◌, Bool, true, false, Some}
use Rattle.std.proofs.Common.{refl, sym, ap, ◌∙◌, subst}
use Rattle.std.proofs.lemmas.Bool.{false≢true, true≢false}
use Rattle.private_model.specs.Names.{SessionName}
use Rattle.private_model.specs.Story as story
use Rattle.private_model.specs.Story.{Due, Question}
use Rattle.log_story.specs.Tale as tales
use Rattle.link_state.specs.declared.asking.Asking.{Asking}
use Rattle.link_state.specs.declared.asking.Purpose.{Purpose}
use Rattle.link_state.specs.declared.asking.Purpose.TheVariants as purposes
use Rattle.link_state.specs.declared.state.Stage.{Stage}
use Rattle.link_state.specs.declared.state.Stage.TheVariants.{Quiet, Asked, Answered}
use Rattle.link_laws.specs.Stands.{IsPurpose}
use Rattle.client_seat.specs.Seats.{is_ended}
use Rattle.client_seat.specs.declared.phase.Phase.{Phase}
use Rattle.client_seat.specs.declared.phase.Phase.TheVariants as phase
use Rattle.desk_laws.specs.Spares.{IsOver as IsOverDesk, SparesQuestion, asked_for}
use Rattle.core_tables.specs.declared.client.Client.{Client}
use Rattle.core_stands.specs.Clients.{IsClient, IsPhase}
use Rattle.core_stands.specs.Grounds.{Ground}
use Rattle.core_stands.specs.Servers.{IsPartedAt, IsPartedFor}
use Rattle.core_laws.proofs.OfHearing.Kept.{AsksAt}

pub parted_at : (g : Ground) (stage : Stage) (asking : Asking) → AsksAt stage asking → IsPartedAt stage g → IsPartedFor asking.purpose g
parted_at g Quiet asking asks is = absurd asks
parted_at g (Asked at) asking asks is = subst (λ (a : Asking). IsPartedFor a.purpose g) asks is
parted_at g (Answered at) asking asks is = subst (λ (a : Asking). IsPartedFor a.purpose g) asks is

-- its client ended
pub over_by : (g : Ground) (purpose : Purpose) (asked : Question) → IsPurpose g.codes purpose asked → IsPartedFor purpose g → (n : SessionName) (due : Due)
    → asked ≡ story.Statement n due → g.over n.client ≡ true
over_by g (purposes.Statement name ordinal key) (story.Statement m at) is parted n due same =
    let it : m ≡ n = statement_name m n at due same in
    ap g.over (ap (λ (x : SessionName). x.client) (sym it ∙ sym is.name)) ∙ parted.0 where
      statement_name : (a b : SessionName) (x y : Due) → story.Statement a x ≡ story.Statement b y → a ≡ b
      statement_name a b x y same = cc
over_by g (purposes.Prep name ordinal key) (story.Prep m code text) is parted n due same = absurd (cc)
over_by g (purposes.Sync name) (story.Sync m command) is parted n due same = absurd (cc)
over_by g purposes.Own (story.Own command) is parted n due same = absurd (cc)
over_by g (purposes.End name) (story.End m) is parted n due same = absurd (cc)
over_by g (purposes.Capture name) (story.Capture m) is parted n due same = absurd (cc)
over_by g _ _ is parted n due same = absurd is

-- the desk of an ended client isn't told of its statement
module _ (g : Ground) (n : SessionName) (client : tales.Client) (row : Client) (its : client.number ≡ n.client) (is : IsClient g client row) where
  pub spares_over : (asked : Question) → asked_for asked ≡ Some n → ((m : SessionName) (due : Due) → asked ≡ story.Statement m due → g.over m.client ≡ true)
      → SparesQuestion row.desk asked
  spares_over (story.Statement m due) named over = over_desk (is_ended row.desk.seat.phase) refl is.phase where
    of : m ≡ n
    of = session_some m n named where
      session_some : (a b : SessionName) → Some a ≡ Some b → a ≡ b
      session_some a b same = cc

    over_is : g.over client.number ≡ true
    over_is = ap g.over (its ∙ ap (λ (x : SessionName). x.client) (sym of)) ∙ over m due refl

    ended_phase : (at : Phase) → is_ended at ≡ true → at ≡ phase.Ended
    ended_phase phase.Ended is = refl
    ended_phase phase.LoggingIn is = absurd (false≢true is)
    ended_phase (phase.Serving login) is = absurd (false≢true is)

    over_desk : (b : Bool) → is_ended row.desk.seat.phase ≡ b → IsPhase b g client row → IsOverDesk row.desk
    over_desk true at over = record { ended = ended_phase row.desk.seat.phase at; idle = over.idle }
    over_desk false at going = absurd (true≢false (sym over_is ∙ going.going))
  spares_over (story.Prep m key text) named over = tt
  spares_over (story.Sync m command) named over = tt
  spares_over (story.Own command) named over = tt
  spares_over (story.End m) named over = tt
  spares_over (story.Capture m) named over = tt
