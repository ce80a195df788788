-- What is given up for such a failure has its cause.
use Rattle.std.specs.Prelude.{◌≡◌, ◌≤◌, ◌-◌, ◌&&◌, ℕ, Bool, true, false, All, IfSome, is_some, nat_eq, nat_le, if◌then◌else◌, List, [], ◌∷◌, Option, Some, None}
use Rattle.std.specs.Option.{option_map, option_map_or}
use Rattle.std.proofs.Common.{refl, sym, ap, ◌∙◌, subst, arith}
use Rattle.std.proofs.lemmas.Bool.{eqb-true, leb-true}
use Rattle.std.proofs.lemmas.List.Elements.{All-weaker}
use Rattle.std.proofs.lemmas.Option.{none-some, same_Some}
use Rattle.mx_base.specs.declared.names.ClientNo.{ClientNo}
use Rattle.mx_base.specs.declared.names.LinkId.{LinkId}
use Rattle.client_session.specs.Errors.{bad_server_bytes, connection_refused}
use Rattle.private_model.proofs.Maps.{same_number}
use Rattle.private_model.specs.Story.{is_client}
use Rattle.session_state.specs.declared.names.SessionName.{SessionName}
use Rattle.core_policy.specs.declared.verdict.GiveUp.{GiveUp}
use Rattle.core_service.specs.Failures.{payload_of}
use Rattle.core_service.specs.declared.failure.Failure.{Failure}
use Rattle.core_service.specs.declared.failure.Failure.TheVariants as failure
use Rattle.client_desk.specs.declared.work.Work.{Work}
use Rattle.core_tables.specs.Parting.{given_row, given_up}
use Rattle.core_tables.specs.Tables.{IsSame, Tabled}
use Rattle.core_tables.specs.declared.client.Client.{Client}
use Rattle.core_tables.specs.declared.server.Server.{Server}
use Rattle.core_laws.specs.clients.Going.{GivenUp}
use Rattle.marked_tables.specs.Marking.{carried_at}
use Rattle.core_promises.specs.Causes.{BadBytes, HeldUp, IsHeardCause, IsLateCause, IsLossCause, LinkLost, LoginBroken, LoginRefused, ShutDown, StepRefused, WaitedTooLong}
use Rattle.router_promises.specs.Errors.{no_connection}
use Rattle.router_laws.specs.decisions.Causes.{AreLate, IsHeardFor, IsLostFor, carries_of}
use Rattle.router_laws.specs.decisions.Noted.{IsInWork, Notes, WasNoted}
use Rattle.router_laws.specs.wakes.Calling.{GivesUpAll}
use Rattle.shared_core.specs.Causes.{given_with, is_heard, is_late, is_lost, is_noted, is_refused}
use Rattle.shared_core.specs.Follows.{IsFor, MayBeGiven, MayBeGivenWith}

heard_by : (carried : Bool) (why : Failure) → is_heard carried why ≡ true → IsHeardCause carried (payload_of why)
heard_by carried (failure.StepRefused code) is = StepRefused code
heard_by carried failure.Refused is = LoginRefused
heard_by carried (failure.BadBytes place) is = BadBytes place is
heard_by carried failure.LinkLost is = absurd (cc)
heard_by carried (failure.NoConnection since now) is = absurd (cc)
heard_by carried (failure.BuffersFull kept announced) is = absurd (cc)
heard_by carried failure.ShuttingDown is = absurd (cc)

lost_by : (carried : Bool) (why : Failure) → is_lost carried why ≡ true → IsLossCause carried (payload_of why)
lost_by carried failure.LinkLost is = LinkLost is
lost_by carried failure.Refused is = LoginBroken
lost_by carried (failure.StepRefused code) is = absurd (cc)
lost_by carried (failure.BadBytes place) is = absurd (cc)
lost_by carried (failure.NoConnection since now) is = absurd (cc)
lost_by carried (failure.BuffersFull kept announced) is = absurd (cc)
lost_by carried failure.ShuttingDown is = absurd (cc)

both : (a b : Bool) → (a && b) ≡ true → (a ≡ true) × (b ≡ true)
both true b is = (refl, is)
both false b is = absurd (cc)

noted_by : (P : ℕ → Type 0) (noted : Option ℕ) (since : ℕ) → IfSome noted P → is_noted noted since ≡ true → P since
noted_by P None since has is = absurd (cc)
noted_by P (Some by_ms) since has is = subst P (eqb-true by_ms since is) has

pub late_by : (wait_ms now_ms : ℕ) (came : Bool) (P : ℕ → Type 0) (noted : Option ℕ) (why : Failure) → IfSome noted P
    → is_late wait_ms now_ms came noted why ≡ true → IsLateCause wait_ms now_ms came P (payload_of why)
late_by wait_ms now_ms came P noted (failure.NoConnection since told) has is =
    let first = both (nat_eq told now_ms) (nat_le since now_ms && (nat_le wait_ms (now_ms - since) && is_noted noted since)) is in
    let second = both (nat_le since now_ms) (nat_le wait_ms (now_ms - since) && is_noted noted since) first.1 in
    let third = both (nat_le wait_ms (now_ms - since)) (is_noted noted since) second.1 in
    let since_then : since ≤ now_ms = leb-true since now_ms second.0 in
    let long : wait_ms ≤ now_ms - since = leb-true wait_ms (now_ms - since) third.0 in
    subst (λ (n : ℕ). IsLateCause wait_ms now_ms came P (no_connection since n)) (sym (eqb-true told now_ms first.0))
    (WaitedTooLong since (noted_by P noted since has third.1) (omega (arith, since_then, long)))
late_by wait_ms now_ms came P noted (failure.BadBytes place) has is =
    subst (λ (n : ℕ). IsLateCause wait_ms now_ms came P (bad_server_bytes n)) (sym (eqb-true place 0 is)) HeldUp
late_by wait_ms now_ms came P noted failure.ShuttingDown has is = ShutDown is
late_by wait_ms now_ms came P noted failure.LinkLost has is = absurd (cc)
late_by wait_ms now_ms came P noted failure.Refused has is = absurd (cc)
late_by wait_ms now_ms came P noted (failure.StepRefused code) has is = absurd (cc)
late_by wait_ms now_ms came P noted (failure.BuffersFull kept announced) has is = absurd (cc)

pub refused_by : (why : Failure) → is_refused why ≡ true → payload_of why ≡ connection_refused
refused_by failure.Refused is = refl
refused_by failure.LinkLost is = absurd (cc)
refused_by (failure.StepRefused code) is = absurd (cc)
refused_by (failure.BadBytes place) is = absurd (cc)
refused_by (failure.NoConnection since now) is = absurd (cc)
refused_by (failure.BuffersFull kept announced) is = absurd (cc)
refused_by failure.ShuttingDown is = absurd (cc)

-- An administrator that came did by the log; and what was noted is.

late_as : (wait_ms now_ms : ℕ) (came has : Bool) (P Q : ℕ → Type 0) → (came ≡ true → has ≡ true) → ((since : ℕ) → P since → Q since)
    → (payload : List ℕ) → IsLateCause wait_ms now_ms came P payload → IsLateCause wait_ms now_ms has Q payload
late_as wait_ms now_ms came has P Q more noted _ (WaitedTooLong since is long) = WaitedTooLong since (noted since is) long
late_as wait_ms now_ms came has P Q more noted _ (ShutDown shut) = ShutDown (more shut)
late_as wait_ms now_ms came has P Q more noted _ HeldUp = HeldUp

late_for : (wait_ms now_ms : ℕ) (came has : Bool) (a b : Notes) (s t : Tabled) → (came ≡ true → has ≡ true)
    → ((c : ClientNo) (since : ℕ) → WasNoted a s c since → WasNoted b t c since) → (given : List GivenUp) → AreLate wait_ms now_ms came a s given
    → AreLate wait_ms now_ms has b t given
late_for wait_ms now_ms came has a b s t more noted given late =
    All-weaker (λ (up : GivenUp). IsLateCause wait_ms now_ms came (WasNoted a s up.client) up.payload)
    (λ (up : GivenUp). IsLateCause wait_ms now_ms has (WasNoted b t up.client) up.payload)
    (λ up cause. late_as wait_ms now_ms came has (WasNoted a s up.client) (WasNoted b t up.client) more (noted up.client) up.payload cause) given late

pub late_more : (wait_ms now_ms : ℕ) (came has : Bool) (notes : Notes) (t : Tabled) → (came ≡ true → has ≡ true) → (given : List GivenUp)
    → AreLate wait_ms now_ms came notes t given → AreLate wait_ms now_ms has notes t given
late_more wait_ms now_ms came has notes t more given late =
    late_for wait_ms now_ms came has notes notes t t more (λ c since was. was) given late

renoted : (a b : Notes) (t : Tabled) → ((c : ClientNo) → b c ≡ a c) → (c : ClientNo) (since : ℕ) → WasNoted a t c since → WasNoted b t c since
renoted a b t same c since was = record { one = was.one; noted = same c ∙ was.noted; in_work = was.in_work; its = was.its }

pub late_noted : (wait_ms now_ms : ℕ) (came : Bool) (a b : Notes) (t : Tabled) → ((c : ClientNo) → b c ≡ a c) → (given : List GivenUp)
    → AreLate wait_ms now_ms came a t given → AreLate wait_ms now_ms came b t given
late_noted wait_ms now_ms came a b t same given late =
    late_for wait_ms now_ms came came a b t t (λ is. is) (renoted a b t same) given late

-- What is in work as some are given up was in work before.

work_before : (payload : List ℕ) (found : Option Client) (row : Client) (work : Work) → option_map (given_row (Some payload)) found ≡ Some row
    → row.desk.work ≡ Some work → ⊥
work_before payload None row work at is = absurd (cc)
work_before payload (Some was) row work at is =
    none-some work (ap (λ (r : Client). r.desk.work) (same_Some (given_row (Some payload) was) row at) ∙ is)

works_before : (up : GivenUp) (old new : Tabled) → IsSame new (given_up up.client up.payload old) → (c : ClientNo) (ordinal : ℕ) → IsInWork c ordinal new
    → IsInWork c ordinal old
works_before up old new same c ordinal works = by (nat_eq up.client.0 c.0) refl (sym (same.clients c) ∙ works.there) where
  by : (b : Bool) → nat_eq up.client.0 c.0 ≡ b
      → (if b then option_map (given_row (Some up.payload)) (old.clients up.client) else old.clients c) ≡ Some works.row → IsInWork c ordinal old
  by true its at = absurd (work_before up.payload (old.clients up.client) works.row works.work at works.in_work)
  by false other at = record { row = works.row; there = at; work = works.work; in_work = works.in_work; its = works.its }

noted_before : (notes : Notes) (given : List GivenUp) (old new : Tabled) → GivesUpAll given old new → (c : ClientNo) (since : ℕ)
    → WasNoted notes new c since → WasNoted notes old c since
noted_before notes [] old new same c since was = record {
  one = was.one;
  noted = was.noted;
  in_work = record {
    row = was.in_work.row;
    there = sym (same.clients c) ∙ was.in_work.there;
    work = was.in_work.work;
    in_work = was.in_work.in_work;
    its = was.in_work.its;
  };
  its = was.its;
}
noted_before notes (up ∷ others) old new gives c since was =
    let mid : WasNoted notes gives.0 c since = noted_before notes others gives.0 new gives.2 c since was in
    record {
      one = mid.one;
      noted = mid.noted;
      in_work = works_before up old gives.0 gives.1.same c mid.one.ordinal mid.in_work;
      its = mid.its;
    }

pub late_before : (wait_ms now_ms : ℕ) (came : Bool) (notes : Notes) (given : List GivenUp) (old new : Tabled) → GivesUpAll given old new
    → (next : List GivenUp) → AreLate wait_ms now_ms came notes new next → AreLate wait_ms now_ms came notes old next
late_before wait_ms now_ms came notes given old new gives next late =
    late_for wait_ms now_ms came came notes notes new old (λ is. is) (noted_before notes given old new gives) next late

-- The link carries a session of the client for which a statement is given up, if it carries one.

carried_row : (found : Option Server) (c : ClientNo)
    → option_map_or (λ (n : SessionName). is_client c n.client) (carried_at found) false
    ≡ option_map_or (λ (server : Server). option_map_or (λ (n : SessionName). is_client c n.client) (carried_at (Some server)) false) found false
carried_row None c = refl
carried_row (Some server) c = refl

its_own : (name : Option SessionName) (c : ClientNo) (t : Tabled) → IsFor name c t
    → is_some name ≡ option_map_or (λ (n : SessionName). is_client c n.client) name false
its_own None c t for = refl
its_own (Some n) c t for = sym (ap (is_client c) (sym for) ∙ same_number c.0)

pub carries_so : (link : LinkId) (name : Option SessionName) (t heard : Tabled) (c : ClientNo) → name ≡ carried_at (t.links link) → IsFor name c heard
    → is_some name ≡ carries_of link t c
carries_so link name t heard c named for =
    its_own name c heard for ∙ ap (λ (o : Option SessionName). option_map_or (λ (n : SessionName). is_client c n.client) o false) named
    ∙ carried_row (t.links link) c

pub heard_for : (link : LinkId) (name : Option SessionName) (t heard : Tabled) (told : Option GivenUp) (given : Option GiveUp)
    → told ≡ option_map given_with given → name ≡ carried_at (t.links link) → IfSome given (λ (up : GiveUp). MayBeGiven link name up heard)
    → IsHeardFor link t told
heard_for link name t heard told None is named may = subst (IsHeardFor link t) (sym is) tt
heard_for link name t heard told (Some up) is named may =
    subst (IsHeardFor link t) (sym is)
    (subst (λ (b : Bool). IsHeardCause b (payload_of up.why)) (carries_so link name t heard up.client named may.its)
    (heard_by (is_some name) up.why may.why))

pub lost_for : (link : LinkId) (name : Option SessionName) (t : Tabled) (told : Option GivenUp) (given : Option GiveUp)
    → told ≡ option_map given_with given → name ≡ carried_at (t.links link) → IfSome given (λ (up : GiveUp). MayBeGivenWith link name up t)
    → IsLostFor link t told
lost_for link name t told None is named may = subst (IsLostFor link t) (sym is) tt
lost_for link name t told (Some up) is named may =
    subst (IsLostFor link t) (sym is)
    (subst (λ (b : Bool). IsLossCause b (payload_of up.why)) (carries_so link name t t up.client named may.its)
    (lost_by (is_some name) up.why may.why))
