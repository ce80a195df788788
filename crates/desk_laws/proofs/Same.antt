-- Views that agree of what a desk stands for.
use Rattle.std.specs.Prelude.{◌≡◌, ◌<◌, ◌≤◌, ℕ, Bool, true, false, List}
use Rattle.std.proofs.Common.{◌∙◌, arith}
use Rattle.session_state.specs.declared.place.Place.{Place}
use Rattle.server_rule.specs.Classes.{Reads}
use Rattle.private_model.specs.Names.{ClientNo, Hostgroup}
use Rattle.private_model.specs.View.{View, present}
use Rattle.client_desk.specs.declared.session.Session.{Session}
use Rattle.client_desk.specs.declared.work.Work.{Work}
use Rattle.desk_laws.specs.Stands.{AreSessions, IsSentOrNot, IsSession, IsWork, message_at, name_at}

-- of a client's sessions in a hostgroup, from the present one on; what is due in that may differ
pub record Same (view after : View) (c : ClientNo) (h : Hostgroup) : Type 0 where
  pub lives : after.lives c h ≡ view.lives c h
  pub held : (life : ℕ) → view.lives c h ≤ life → after.held (name_at c h life) ≡ view.held (name_at c h life)
  pub lasting : (life : ℕ) → view.lives c h ≤ life → after.lasting (name_at c h life) ≡ view.lasting (name_at c h life)
  pub dues : (life : ℕ) → view.lives c h < life → after.dues (name_at c h life) ≡ view.dues (name_at c h life)

pub session_stays : (view after : View) (c : ClientNo) (h : Hostgroup) (s : Session) → Same view after c h → IsSession view c h s → IsSession after c h s
session_stays view after c h s same is =
    let at : view.lives c h ≤ s.life = omega arith in
    record {
      life = same.lives ∙ is.life;
      held = same.held s.life at ∙ is.held;
      lasting = same.lasting s.life at ∙ is.lasting;
      unborn = λ life above.
          let below : view.lives c h < life = omega arith in
          let from : view.lives c h ≤ life = omega arith in
          let unborn = is.unborn life above in
          record { held = same.held life from ∙ unborn.held; due = same.dues life below ∙ unborn.due; lasting = same.lasting life from ∙ unborn.lasting };
    }

pub sessions_stay : (view after : View) (c : ClientNo) (lefts : ℕ) (rows : List Session) → ((h : Hostgroup) → Same view after c h)
    → AreSessions view c lefts rows → AreSessions after c lefts rows
sessions_stay view after c lefts rows same are =
    record { each = λ h. session_stays view after c h _ (same h) (are.each h); distinct = are.distinct }

-- of a message
pub record SameMessage (view after : View) (c : ClientNo) (ordinal : ℕ) : Type 0 where
  pub carrier : after.carriers (message_at c ordinal) ≡ view.carriers (message_at c ordinal)
  pub reply : after.replies (message_at c ordinal) ≡ view.replies (message_at c ordinal)

-- of what is due in a session
abbrev pub SameDue : (view after : View) → ClientNo → Hostgroup → Type 0
SameDue view after c h = after.dues (present after c h) ≡ view.dues (present view c h)

pub work_stays : (reads : Reads) (view after : View) (c : ClientNo) (place : Place) (work : Work) → SameMessage view after c work.ordinal
    → SameDue view after c work.hostgroup → IsWork reads view c place work → IsWork reads after c place work
work_stays reads view after c place work same due is =
    record { sent_or_not = by work.sent is.sent_or_not; unanswered = same.reply ∙ is.unanswered } where
      by : (sent : Bool) → IsSentOrNot sent reads view c place work → IsSentOrNot sent reads after c place work
      by true out = record { link = out.link; carrier = same.carrier ∙ out.carrier }
      by false waits = record { due = waits.due; is_due = due ∙ waits.is_due; as_due = waits.as_due; unsent = same.carrier ∙ waits.unsent }
