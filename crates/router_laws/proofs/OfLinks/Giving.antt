-- What is given up as a link is lost.
use Rattle.std.specs.Prelude.{◌≡◌, ◌⊎◌, ℕ, Bool, true, false, is_some, nat_eq, if◌then◌else◌, List, Option, Some, None}
use Rattle.std.proofs.Common.{refl, sym, ap, ◌∙◌, subst, inl, inr}
use Rattle.std.proofs.lemmas.Bool.{false≢true, true≢false}
use Rattle.std.proofs.lemmas.Option.{none-some, same_Some}
use Rattle.mx_base.specs.declared.names.ClientNo.{ClientNo}
use Rattle.mx_base.specs.declared.names.LinkId.{LinkId}
use Rattle.client_session.specs.Setups.{Setup as Service}
use Rattle.private_model.proofs.Maps.{client_of, same_link}
use Rattle.private_model.specs.Story.{is_link_id}
use Rattle.client_desk.specs.Desks.{session_of}
use Rattle.client_desk.specs.declared.work.Work.{Work}
use Rattle.core_tables.specs.Tables.{Tabled}
use Rattle.core_tables.specs.declared.client.Client.{Client}
use Rattle.core_tables.specs.declared.server.Server.{Server}
use Rattle.core_stands.specs.Grounds.{Ground}
use Rattle.core_stands.specs.Stands.{Stands}
use Rattle.core_laws.proofs.OfEntry.Uneventful.{nobody_given}
use Rattle.core_laws.specs.parting.Frames.{client_at}
use Rattle.core_laws.specs.parting.Partings.{AreGivenUp, is_sound}
use Rattle.core_laws.specs.clients.Going.{GivenUp, told_to}
use Rattle.router_laws.proofs.OfReading.Unsound.{IsSentTo, sent_so, whole_so}
use Rattle.core_laws.proofs.OfWriting.Framing.{flipped}
use Rattle.router_laws.proofs.OfReading.Lent.{IsLentElsewhere, lent_elsewhere}
use Rattle.router_laws.specs.links.Loses.{IsGivenUpWith, MayGiveUpWith}
use Rattle.router_laws.specs.reading.Givings.{IsLentBut}

pub none_given_up : (excepted : LinkId → Bool) (t : Tabled) → AreGivenUp nobody_given excepted t
none_given_up excepted t = record {
  in_work = λ c payload given. absurd (none-some payload given);
  aside = λ c l server given there other stands. absurd (false≢true given);
}

-- It wasn't sent, or it was to that link: so it stands on no other.

module _ (service : Service) (g : Ground) (t : Tabled) (stands : Stands service g t) (l : LinkId) (c : ClientNo) (may : IsGivenUpWith l c t) (other : LinkId)
    (server : Server) (there : t.links other ≡ Some server) (aside : is_link_id other l ≡ false) (its : client_at server.row.link.state.stage ≡ Some c) where
  not_sound : is_sound server.row ≡ true → (may.work.sent ≡ false) ⊎ ((session_of may.row.desk may.work.hostgroup).home ≡ Some l) → ⊥
  not_sound sound = by where
    out : IsSentTo t c other
    out = sent_so service g t stands other server there (whole_so server.row sound) c its

    row_is : may.row ≡ out.client
    row_is = same_Some may.row out.client (sym may.at_work.there ∙ out.there)

    work_is : may.work ≡ out.work
    work_is = same_Some may.work out.work (sym may.at_work.in_work ∙ ap (λ (row : Client). row.desk.work) row_is ∙ out.in_work)

    by : (may.work.sent ≡ false) ⊎ ((session_of may.row.desk may.work.hostgroup).home ≡ Some l) → ⊥
    by (inl unsent) = true≢false (sym out.sent ∙ ap (λ (w : Work). w.sent) (sym work_is) ∙ unsent)
    by (inr home) =
        let same : l ≡ other = same_Some l other (sym home ∙ (λ i. (session_of (row_is i).desk (work_is i).hostgroup).home) ∙ out.home) in
        true≢false (sym (same_link l) ∙ ap (λ (k : LinkId). is_link_id k l) same ∙ aside)

  sound_by : (b : Bool) → is_sound server.row ≡ b → is_sound server.row ≡ false
  sound_by false is = is
  sound_by true is = absurd (not_sound is may.aside)

  pub unsound : is_sound server.row ≡ false
  unsound = sound_by (is_sound server.row) refl

given_by : (l : LinkId) (up : GivenUp) (t : Tabled) → IsGivenUpWith l up.client t → (c : ClientNo) (found : Option (List ℕ)) (b : Bool)
    → nat_eq up.client.0 c.0 ≡ b → (if b then Some up.payload else None) ≡ found → is_some found ≡ true → IsGivenUpWith l c t
given_by l up t may c found true same is some = subst (λ (n : ClientNo). IsGivenUpWith l n t) (client_of up.client c same) may
given_by l up t may c found false other is some = absurd (false≢true (ap is_some is ∙ some))

pub may_each : (l : LinkId) (given : Option GivenUp) (t : Tabled) → MayGiveUpWith l given t → (c : ClientNo) → is_some (told_to given c) ≡ true
    → IsGivenUpWith l c t
may_each l None t may c some = absurd (false≢true some)
may_each l (Some up) t may c some = given_by l up t may c (told_to (Some up) c) (nat_eq up.client.0 c.0) refl refl some

pub given_up_with : (service : Service) (g : Ground) (t : Tabled) (l : LinkId) (given : Option GivenUp) → Stands service g t → MayGiveUpWith l given t
    → AreGivenUp (told_to given) (λ other. is_link_id other l) t
given_up_with service g t l given stands may = record {
  in_work = λ c payload is. let its = may_each l given t may c (ap is_some is) in (its.row, its.work, its.at_work);
  aside = λ c other server some there apart its. unsound service g t stands l c (may_each l given t may c some) other server there apart its;
}

-- No other link is lent to its session.
pub given_aside : (l : LinkId) (given : Option GivenUp) (t : Tabled) → MayGiveUpWith l given t → (x : LinkId) → nat_eq l.0 x.0 ≡ false
    → IsLentElsewhere t (told_to given) x
given_aside l given t may x apart c row work some at home =
    let its : IsGivenUpWith l c t = may_each l given t may c some in
    let row_is : its.row ≡ row = same_Some its.row row (sym its.at_work.there ∙ at.there) in
    let work_is : its.work ≡ work = same_Some its.work work (sym its.at_work.in_work ∙ ap (λ (r : Client). r.desk.work) row_is ∙ at.in_work) in
    lent_elsewhere l x t row work (flipped l.0 x.0 apart)
    (subst (λ (w : Work). IsLentBut l t row w) work_is (subst (λ (r : Client). IsLentBut l t r its.work) row_is its.lent)) home
