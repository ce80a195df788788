-- What is given up, which wasn't sent or whose link broke, stands on no sound link.
use Rattle.std.specs.Prelude.{◌≡◌, ◌⊎◌, ℕ, Bool, true, false, not, ◌&&◌, IfSome, if◌then◌else◌, is_some, List, Option, Some, None}
use Rattle.std.specs.Option.{option_and_then}
use Rattle.std.proofs.Common.{refl, sym, ap, ◌∙◌, subst, inl, inr}
use Rattle.std.proofs.lemmas.Bool.{true≢false}
use Rattle.std.proofs.lemmas.Option.{none-some, same_Some}
use Rattle.mx_base.specs.declared.names.Hostgroup.{Hostgroup}
use Rattle.client_session.specs.Setups.{Setup as Service}
use Rattle.server_side.specs.Account.{Account as Login}
use Rattle.private_model.specs.Names.{ClientNo, LinkId, SessionName}
use Rattle.link_state.specs.declared.asking.Asking.{Asking}
use Rattle.link_state.specs.declared.asking.Purpose.{Purpose}
use Rattle.link_state.specs.declared.asking.Purpose.TheVariants as purposes
use Rattle.link_state.specs.declared.state.LinkState.{LinkState}
use Rattle.link_state.specs.declared.state.Stage.{Stage}
use Rattle.link_state.specs.declared.state.Stage.TheVariants.{Quiet, Asked, Answered}
use Rattle.served_link.specs.declared.row.LeftSession.{LeftSession}
use Rattle.served_link.specs.declared.row.Row.{Row}
use Rattle.client_desk.specs.Desks.{session_of}
use Rattle.client_desk.specs.declared.work.Work.{Work}
use Rattle.row_laws.specs.Rows.{IsRowBy}
use Rattle.row_laws.specs.Whose.{IsFor, IsOwn}
use Rattle.core_tables.specs.Tables.{Tabled}
use Rattle.core_tables.specs.declared.client.Client.{Client}
use Rattle.core_tables.specs.declared.server.Server.{Server}
use Rattle.core_stands.specs.Grounds.{Ground, view_on}
use Rattle.core_stands.specs.Servers.{IsReplyingAt, IsReplyingFor, IsServer}
use Rattle.core_stands.specs.Stands.{Stands}
use Rattle.core_laws.proofs.OfParting.Forgetting.{server_there}
use Rattle.core_laws.specs.parting.Frames.{client_at, client_in}
use Rattle.core_laws.specs.parting.Partings.{AreGivenUp, is_sound}
use Rattle.router_laws.specs.reading.Givings.{IsBroken, IsLentBut, MayBeGivenUp, if_lent, is_lent_in}

-- a link that carries nobody asks for nobody
own_by : (g : Ground) (l : LinkId) (row : Row) (entered : Bool) → IsRowBy entered g.setup.reads g.codes (g.plan.logins l) (view_on g) row (g.tale.wires l) ((view_on g).links l)
    → IsOwn row.link.state.stage row.link.state.carries
own_by g l row true is = is.own
own_by g l row false is = subst (λ (s : LinkState). IsOwn s.stage s.carries) (sym is.state) tt

-- sound is neither spoilt, nor lost, nor left

pub record IsWhole (row : Row) : Type 0 where
  pub sound : row.link.spoilt ≡ false
  pub kept : row.lost ≡ false
  pub mine : row.left ≡ None

whole_left : (spoilt lost : Bool) (left : Option LeftSession) → (not spoilt && (not lost && not (is_some left))) ≡ true
    → (spoilt ≡ false) × (lost ≡ false) × (left ≡ None)
whole_left false false None is = (refl, refl, refl)
whole_left false false (Some left) is = absurd (true≢false (sym is))
whole_left false true left is = absurd (true≢false (sym is))
whole_left true lost left is = absurd (true≢false (sym is))

pub whole_so : (row : Row) → is_sound row ≡ true → IsWhole row
whole_so row is =
    let parts = whole_left row.link.spoilt row.lost row.left is in
    record { sound = parts.0; kept = parts.1; mine = parts.2 }

-- What stands on a sound link is in work, was sent, and that link is the home of its session.

pub record IsSentTo (t : Tabled) (c : ClientNo) (l : LinkId) : Type 0 where
  pub client : Client
  pub work : Work
  pub there : t.clients c ≡ Some client
  pub in_work : client.desk.work ≡ Some work
  pub sent : work.sent ≡ true
  pub home : (session_of client.desk work.hostgroup).home ≡ Some l

module _ (service : Service) (g : Ground) (t : Tabled) (stands : Stands service g t) (l : LinkId) (server : Server) (at : t.links l ≡ Some server)
    (whole : IsWhole server.row) where
  sent_for : (asking : Asking) (purpose : Purpose) (c : ClientNo) → client_in purpose ≡ Some c → IsFor purpose server.row.link.state.carries
      → IsReplyingFor purpose g t l server.row asking → IsSentTo t c l
  sent_for asking (purposes.Statement n ordinal key) c its for is =
      let same : n.client ≡ c = same_Some n.client c its in
      let homes = stands.homes.home l server n at (for n refl) whole.mine whole.kept in
      let one : homes.0 ≡ is.client = same_Some homes.0 is.client (sym homes.1 ∙ is.there) in
      record {
        client = is.client;
        work = is.work;
        there = subst (λ (k : ClientNo). t.clients k ≡ Some is.client) same is.there;
        in_work = is.in_work;
        sent = is.sent;
        home = ap (λ (h : Hostgroup). (session_of is.client.desk h).home) is.hostgroup
            ∙ ap (λ (row : Client). (session_of row.desk n.hostgroup).home) (sym one) ∙ homes.2;
      }
  sent_for asking (purposes.Prep n ordinal key) c its for is = absurd (none-some c its)
  sent_for asking (purposes.Sync n) c its for is = absurd (none-some c its)
  sent_for asking purposes.Own c its for is = absurd (none-some c its)
  sent_for asking (purposes.End n) c its for is = absurd (none-some c its)
  sent_for asking (purposes.Capture n) c its for is = absurd (none-some c its)

  sent_at : (stage : Stage) (c : ClientNo) → client_at stage ≡ Some c → IsOwn stage server.row.link.state.carries → IsReplyingAt stage g t l server.row
      → IsSentTo t c l
  sent_at Quiet c its own is = absurd (none-some c its)
  sent_at (Asked asking) c its own is = sent_for asking asking.purpose c its own is
  sent_at (Answered asking) c its own is = sent_for asking asking.purpose c its own is

  pub sent_so : (c : ClientNo) → client_at server.row.link.state.stage ≡ Some c → IsSentTo t c l
  sent_so c its =
      let is : IsServer g t l server.row = server_there service g t l server stands at in
      sent_at server.row.link.state.stage c its (own_by g l server.row (g.tale.wires l).entered is.row.is)
      (is.replying whole.sound whole.kept whole.mine)

module _ (service : Service) (g : Ground) (t : Tabled) (stands : Stands service g t) (c : ClientNo) (with : LinkId) (may : MayBeGivenUp with c t)
    (l : LinkId) (server : Server) (at : t.links l ≡ Some server) (its : client_at server.row.link.state.stage ≡ Some c) where
  not_there : IsWhole server.row → is_sound server.row ≡ true → (may.work.sent ≡ false) ⊎ IsBroken t may.row may.work → ⊥
  not_there whole sound aside = by aside where
    out : IsSentTo t c l
    out = sent_so service g t stands l server at whole c its

    row_is : may.row ≡ out.client
    row_is = same_Some may.row out.client (sym may.at_work.there ∙ out.there)

    work_is : may.work ≡ out.work
    work_is = same_Some may.work out.work (sym may.at_work.in_work ∙ ap (λ (row : Client). row.desk.work) row_is ∙ out.in_work)

    broken_at : IsBroken t may.row may.work → ⊥
    broken_at broken =
        let link_is : broken.link ≡ l =
        same_Some broken.link l (sym broken.home ∙ (λ i. (session_of (row_is i).desk (work_is i).hostgroup).home) ∙ out.home) in
        let server_is : broken.server ≡ server = same_Some broken.server server (sym broken.there ∙ ap t.links link_is ∙ at) in
        true≢false (sym sound ∙ ap (λ (s : Server). is_sound s.row) (sym server_is) ∙ broken.unsound)

    by : (may.work.sent ≡ false) ⊎ IsBroken t may.row may.work → ⊥
    by (inl unsent) = true≢false (sym out.sent ∙ ap (λ (w : Work). w.sent) (sym work_is) ∙ unsent)
    by (inr broken) = broken_at broken

  unsound_by : (b : Bool) → is_sound server.row ≡ b → b ≡ false
  unsound_by false is = refl
  unsound_by true is = absurd (not_there (whole_so server.row is) is may.aside)

  pub unsound : is_sound server.row ≡ false
  unsound = by (is_sound server.row) refl where
    by : (b : Bool) → is_sound server.row ≡ b → is_sound server.row ≡ false
    by b is = is ∙ unsound_by b is

-- a session whose link is this one was lent no other

lent_if : (l : LinkId) (b : Bool) → IfSome (if b then Some l else None) (λ (home : LinkId). home ≡ l)
lent_if l true = refl
lent_if l false = tt

pub lent_there : (l : LinkId) (t : Tabled) (row : Client) (work : Work) → (session_of row.desk work.hostgroup).home ≡ Some l → IsLentBut l t row work
lent_there l t row work home =
    subst (λ (at : Option LinkId). IfSome (option_and_then (if_lent t) at) (λ (other : LinkId). other ≡ l)) (sym home) (lent_if l (is_lent_in l t))

-- who may be given up, that is
some_by : (l : LinkId) (given : ClientNo → Option (List ℕ)) (t : Tabled)
    → ((c : ClientNo) (payload : List ℕ) → given c ≡ Some payload → MayBeGivenUp l c t) → (c : ClientNo) (found : Option (List ℕ)) → given c ≡ found
    → is_some found ≡ true → MayBeGivenUp l c t
some_by l given t may c None is some = absurd (true≢false (sym some))
some_by l given t may c (Some payload) is some = may c payload is

pub are_given_up : (service : Service) (g : Ground) (t : Tabled) (l : LinkId) (given : ClientNo → Option (List ℕ)) → Stands service g t
    → ((c : ClientNo) (payload : List ℕ) → given c ≡ Some payload → MayBeGivenUp l c t) → AreGivenUp given (λ (other : LinkId). false) t
are_given_up service g t l given stands may = record {
  in_work = λ c payload is. let its = may c payload is in (its.row, its.work, its.at_work);
  aside = λ c other server some at excepted its.
      unsound service g t stands c l (some_by l given t may c (given c) refl some) other server at its;
}
