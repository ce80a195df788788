-- Statements are given up, and who is called by a link goes on.
use Rattle.std.specs.Prelude.{◌≡◌, ℕ, Bool, true, false, ◌⊎◌, is_some, nat_eq, if◌then◌else◌, IfSome, List, Option, Some, None}
use Rattle.std.specs.Option.{option_and_then, option_map}
use Rattle.std.proofs.Common.{◌∙◌, ap, inl, inr, refl, subst, sym}
use Rattle.mx_base.specs.declared.names.ClientNo.{ClientNo}
use Rattle.mx_base.specs.declared.names.LinkId.{LinkId}
use Rattle.private_model.proofs.Maps.{client_of, link_of}
use Rattle.session_state.specs.declared.names.SessionName.{SessionName}
use Rattle.client_desk.specs.Desks.{session_of}
use Rattle.client_desk.specs.declared.work.Work.{Work}
use Rattle.core_policy.specs.declared.verdict.GiveUp.{GiveUp}
use Rattle.core_service.specs.Failures.{payload_of}
use Rattle.core_service.specs.declared.failure.Failure.{Failure}
use Rattle.core_service.specs.declared.service.Service.{Service}
use Rattle.core_tables.specs.Parting.{given_to, given_up, given_up_in}
use Rattle.core_tables.specs.Tables.{IsSame, Tabled}
use Rattle.core_tables.specs.declared.client.Client.{Client}
use Rattle.core_laws.proofs.OfParting.Alone.{nobody_so, one_so}
use Rattle.core_laws.specs.parting.Partings.{IsAtWork}
use Rattle.core_laws.specs.clients.Going.{GivenUp, Going, IsCalled, is_going, told_to}
use Rattle.own_words.specs.Own.{IsFailure}
use Rattle.router_laws.specs.reading.Givings.{IsLentBut, MayBeGivenUp, if_lent}
use Rattle.router_laws.specs.links.Loses.{IsGivenUpWith}
use Rattle.router_laws.specs.wakes.Calling.{IsUnsent}
use Rattle.core_texts.specs.declared.texts.Texts.{Texts}
use Rattle.shared_core.proofs.Partings.{going-by, part-weaker}
use Rattle.shared_core.proofs.Tabling.{same_by, tables_are}
use Rattle.shared_core.specs.Causes.{given_with}
use Rattle.shared_core.specs.Follows.{HasAnswered, HasCalled, HasFollowed, HasGiven, IsFor, Made, called_by, told_client, up_client}
use Rattle.shared_core.specs.Rows.{IsLentNoOther, WorkIsAside, WorkIsAsideWith, WorkIsBroken, WorkIsUnsent, home_at, home_in, lent_home_at}

-- What may be given up.

-- where its session is, by its row
home-so : (c : ClientNo) (t : Tabled) (row : Client) (work : Work) → IsAtWork t c row work → home_at c t ≡ (session_of row.desk work.hostgroup).home
home-so c t row work is =
    ap (λ (found : Option Client). option_and_then home_in found) is.there
    ∙ ap (λ (found : Option Work). option_and_then (λ (w : Work). (session_of row.desk w.hostgroup).home) found) is.in_work

lent-so : (l : LinkId) (c : ClientNo) (t : Tabled) (row : Client) (work : Work) → IsAtWork t c row work → IsLentNoOther l c t → IsLentBut l t row work
lent-so l c t row work is lent =
    subst (λ (home : Option LinkId). IfSome (option_and_then (if_lent t) home) (λ (other : LinkId). other ≡ l)) (home-so c t row work is)
    (by (lent_home_at c t) lent) where
      by : (found : Option LinkId) → IfSome found (λ (home : LinkId). nat_eq home.0 l.0 ≡ true) → IfSome found (λ (home : LinkId). home ≡ l)
      by None is_none = tt
      by (Some home) same = link_of home l same

pub unsent-so : (c : ClientNo) (t : Tabled) → WorkIsUnsent c t → lent_home_at c t ≡ None → IsUnsent c t
unsent-so c t is lent = record {
  row = is.row;
  work = is.work;
  at_work = is.at_work;
  unsent = is.unsent;
  unlent = ap (option_and_then (if_lent t)) (sym (home-so c t is.row is.work is.at_work)) ∙ lent;
}

pub aside-so : (l : LinkId) (c : ClientNo) (t : Tabled) → IsLentNoOther l c t → WorkIsAside c t → MayBeGivenUp l c t
aside-so l c t lent is =
    record { row = is.row; work = is.work; at_work = is.at_work; aside = is.aside; lent = lent-so l c t is.row is.work is.at_work lent }

pub aside-with-so : (l : LinkId) (c : ClientNo) (t : Tabled) → IsLentNoOther l c t → WorkIsAsideWith l c t → IsGivenUpWith l c t
aside-with-so l c t lent is =
    record { row = is.row; work = is.work; at_work = is.at_work; aside = is.aside; lent = lent-so l c t is.row is.work is.at_work lent }

-- where it is aside

pub unsent-aside : (c : ClientNo) (t : Tabled) → WorkIsUnsent c t → WorkIsAside c t
unsent-aside c t is = record { row = is.row; work = is.work; at_work = is.at_work; aside = inl is.unsent }

pub broken-aside : (c : ClientNo) (t : Tabled) → WorkIsBroken c t → WorkIsAside c t
broken-aside c t is = record { row = is.row; work = is.work; at_work = is.at_work; aside = inr is.broken }

pub unsent-with : (l : LinkId) (c : ClientNo) (t : Tabled) → WorkIsUnsent c t → WorkIsAsideWith l c t
unsent-with l c t is = record { row = is.row; work = is.work; at_work = is.at_work; aside = inl is.unsent }

pub home-with : (l home : LinkId) (c : ClientNo) (t : Tabled) → Some home ≡ home_at c t → nat_eq home.0 l.0 ≡ true → WorkIsAsideWith l c t
home-with l home c t at same = by (t.clients c) refl (sym at) where
  by : (found : Option Client) → t.clients c ≡ found → option_and_then home_in found ≡ Some home → WorkIsAsideWith l c t
  by None there is = absurd (let e = is in cc)
  by (Some row) there is = in_it row.desk.work refl is where
    in_it : (work : Option Work) → row.desk.work ≡ work
        → option_and_then (λ (w : Work). (session_of row.desk w.hostgroup).home) work ≡ Some home → WorkIsAsideWith l c t
    in_it None none on = absurd (let e = on in cc)
    in_it (Some work) some on = record {
      row = row;
      work = work;
      at_work = record { there = there; in_work = some };
      aside = inr (on ∙ ap (λ (link : LinkId). Some link) (link_of home l same));
    }

pub client-so : (a b : ClientNo) → nat_eq a.0 b.0 ≡ true → a ≡ b
client-so a b same = client_of a b same

-- What is given up.

-- what is said is a payload of the router's own
pub own-as : (said kept payload : List ℕ) → said ≡ kept → kept ≡ payload → IsFailure payload → IsFailure said
own-as said kept payload is same own = subst IsFailure (sym (is ∙ same)) own

-- and it is the failure's
pub answered-as : (c : ClientNo) (why : Failure) (old new : Tabled) (said kept : List ℕ) → said ≡ kept → kept ≡ payload_of why
    → IsFailure (payload_of why) → IsSame new (given_up c said old) → HasAnswered c why old new
answered-as c why old new said kept is same own gives =
    record { own = own; same = subst (λ (payload : List ℕ). IsSame new (given_up c payload old)) (is ∙ same) gives }

pub none-given : (t : Tabled) → HasGiven None t t
none-given t = record { told = None; ours = tt; its = refl; is = refl; same = nobody_so t }

pub one-given : (up : GiveUp) (old new : Tabled) → HasAnswered up.client up.why old new → HasGiven (Some up) old new
one-given up old new answered = record {
  told = Some (given_with up);
  ours = answered.own;
  its = refl;
  is = refl;
  same = same_by new (given_up_in (given_to up.client (payload_of up.why)) old)
      (tables_are new (given_up up.client (payload_of up.why) old) answered.same
      ∙ tables_are (given_up up.client (payload_of up.why) old) (given_up_in (given_to up.client (payload_of up.why)) old)
      (one_so old up.client (payload_of up.why)));
}

-- Who is called.

its-so : (name : SessionName) (given : Option GiveUp) (told : Option GivenUp) (t : Tabled) → told_client told ≡ up_client given
    → IfSome given (λ (up : GiveUp). IsFor (Some name) up.client t) → (up : GivenUp) → told ≡ Some up → up.client ≡ name.client
its-so name None told t same for up is =
    absurd (let e : Some up.client ≡ None = sym (ap told_client is) ∙ same in cc)
its-so name (Some g) told t same for up is =
    let e : Some up.client ≡ Some g.client = sym (ap told_client is) ∙ same in
    let one : up.client ≡ g.client = cc in
    one ∙ for

called-so : (name : Option SessionName) (given : Option GiveUp) (told : Option GivenUp) (t : Tabled) → told_client told ≡ up_client given
    → IfSome given (λ (up : GiveUp). IsFor name up.client t) → IsCalled name told t (called_by name (up_client given) t)
called-so (Some name) given told t same for = (its-so name given told t same for, refl)
called-so None given told t same for = sym same

pub nobody-called : (service : Service) (made : Made) → made.is ≡ made.was → (name : Option SessionName) (given : Option GiveUp) (told : Option GivenUp) (t : Tabled)
    → None ≡ called_by name (up_client given) t → told_client told ≡ up_client given → IfSome given (λ (up : GiveUp). IsFor name up.client t)
    → HasCalled service made name told t t
nobody-called service made nothing name given told t none same for = record {
  going = None;
  called = let P : Option ClientNo → Type 0 = λ o. IsCalled name told t o in subst P (sym none) (called-so name given told t same for);
  ours = tt;
  goes = record { clients = λ c. refl; numbers = λ l. refl; links = λ l. refl };
  ruled = nothing;
  why = tt;
}

-- who is called goes on
pub called-goes : (name : Option SessionName) (given : Option GiveUp) (t : Tabled) (client : ClientNo)
    → Some client ≡ called_by name (up_client given) t → IfSome given (λ (up : GiveUp). IsFor name up.client t)
    → is_going (t.clients client) ≡ true
called-goes (Some name) given t client is for =
    let on = going-by (is_going (t.clients name.client)) name.client client is in
    let P : ClientNo → Type 0 = λ c. is_going (t.clients c) ≡ true in
    subst P (sym on.1) on.0
called-goes None None t client is for = absurd (let e = is in cc)
called-goes None (Some up) t client is for =
    let same : client ≡ up.client = let e = is in cc in
    let P : ClientNo → Type 0 = λ c. is_going (t.clients c) ≡ true in
    subst P (sym same) for

pub one-called : (service : Service) (made : Made) (name : Option SessionName) (given : Option GiveUp) (told : Option GivenUp) (old new : Tabled) (client : ClientNo)
    (ends : Bool) → (ends ≡ true → is_some name ≡ true) → Some client ≡ called_by name (up_client given) old
    → (is_going (old.clients client) ≡ true → HasFollowed service made client ends old new) → told_client told ≡ up_client given
    → IfSome given (λ (up : GiveUp). IsFor name up.client old) → HasCalled service made name told old new
one-called service made name given told old new client ends carried is follows same for =
    let followed : HasFollowed service made client ends old new = follows (called-goes name given old client is for) in
    record {
      going = Some (record {
        client = client;
        choices = followed.choices;
        halt = followed.halt;
        parting = followed.parting;
        links = followed.links;
      });
      called = let P : Option ClientNo → Type 0 = λ o. IsCalled name told old o in subst P (sym is) (called-so name given told old same for);
      ours = record { choices = followed.ours; parting = followed.word };
      goes = followed.follows;
      ruled = followed.ruled;
      why = part-weaker service.buffer_budget (ends ≡ true) (is_some name ≡ true) carried followed.parting followed.why;
    }
