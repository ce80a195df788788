-- The core closes a link to a server behind the one write that was offered there.
use Rattle.std.specs.Prelude.{◌≡◌, ◌<◌, ◌≤◌, ◌+◌, ◌++◌, ℕ, zero, suc, Bool, true, false, not, length, take, if◌then◌else◌, List, [], ◌∷◌, Option, Some, None}
use Rattle.std.specs.Option.{option_map}
use Rattle.std.proofs.Common.{refl, sym, ap, ◌∙◌, subst, arith}
use Rattle.std.proofs.lemmas.Bool.{false≢true}
use Rattle.std.proofs.lemmas.Option.{none-some}
use Rattle.mx_base.specs.Sent.{Sent}
use Rattle.mx_base.specs.declared.tag.Tag.{Tag}
use Rattle.mx_wire.specs.Log.{AreMarks, Log}
use Rattle.mx_wire.specs.Tells.{MayFollow}
use Rattle.mx_wire.specs.declared.entry.Entry.{Entry}
use Rattle.mx_wire.specs.declared.entry.Entry.TheVariants as entry
use Rattle.core_service.specs.Serves.{rules_in}
use Rattle.core_service.specs.declared.service.Service.{Service}
use Rattle.core_texts.specs.declared.texts.Texts.{Texts}
use Rattle.private_model.specs.Names.{ClientNo, LinkId}
use Rattle.session_state.specs.declared.names.SessionName.{SessionName}
use Rattle.core_tables.specs.Parting.{given_row, given_up_in, lost_in, name_in, unlinked}
use Rattle.core_tables.specs.declared.client.Client.{Client}
use Rattle.core_tables.specs.Tables.{IsSame, Tabled}
use Rattle.core_tables.specs.Writing.{wrote_on}
use Rattle.core_promises.specs.Ruled.{ruling_of}
use Rattle.router_laws.specs.decisions.Rulings.{IsRuledOn, IsSettledFor}
use Rattle.router_laws.specs.decisions.Speaks.{AreGivenOurs, AreGoingOurs}
use Rattle.core_promises.specs.Administers.{Administered}
use Rattle.router_laws.specs.decisions.Routers.{IsRouter}
use Rattle.core_laws.specs.entry.Cores.{with_entry}
use Rattle.core_laws.specs.clients.Going.{GivenUp, Going, IsCalled, is_going, told_to}
use Rattle.router_laws.specs.quiet.Quiet.{is_quiet}
use Rattle.ready_loop.specs.Machine.{IsFarewell, IsPartOf}
use Rattle.router_laws.proofs.OfLinks.Saying.{closes_lost, closes_then, wrote_before}
use Rattle.router_laws.specs.decisions.Causes.{IsLostFor}
use Rattle.router_laws.specs.decisions.Partings.{IsGoingParted}
use Rattle.router_laws.specs.decisions.Held.{AreHeldFor}
use Rattle.router_laws.specs.links.Closes.{ClosesSo, IsLentThere, MayClose, MaySayFarewell}
use Rattle.router_laws.specs.links.Loses.{Break, LosesSo, WriteFails, entry_by}
use Rattle.router_laws.specs.links.Writes.{WritesSo}
use Rattle.router_laws.specs.waits.Drained.{IsDrainedAt}
use Rattle.core_texts.specs.Texts.{key_at}

-- The laws by which it goes.
pub record Laws : Type 0 where
  pub marks : (service : Service) (texts : Texts) (admin : Administered) (log marks : Log) (t : Tabled) (roomy : ClientNo → Bool) → IsRouter service texts admin log t roomy
      → AreMarks marks → length (log ++ marks) < 281474976710656 → IsRouter service texts admin (log ++ marks) t roomy
  pub quiet : (service : Service) (texts : Texts) (admin : Administered) (log : Log) (e : Entry) (t : Tabled) (roomy : ClientNo → Bool)
      → IsRouter service texts admin log t roomy → MayFollow log e → is_quiet e ≡ true → IsDrainedAt t log e → IsRouter service texts admin (with_entry log e) t roomy
  pub writes : (service : Service) (texts : Texts) (admin : Administered) (log : Log) (t now : Tabled) (roomy : ClientNo → Bool) (l : LinkId) (offer : Sent) (count : ℕ)
      → IsRouter service texts admin log t roomy → MayFollow log (entry.Wrote l offer.tag (take count offer.bytes)) → WritesSo l offer count t now
      → IsRouter service texts admin (with_entry log (entry.Wrote l offer.tag (take count offer.bytes))) now roomy
  pub loses : (service : Service) (texts : Texts) (admin is : Administered) (log : Log) (t now : Tabled) (roomy : ClientNo → Bool) (l : LinkId) (how : Break)
      (given : Option GivenUp) (going : Option Going) → (router : IsRouter service texts admin log t roomy) → MayFollow log (entry_by how l)
      → AreGivenOurs given → AreGoingOurs (rules_in service) texts going → (so : LosesSo service.setup service.default_schema l given going t now)
      → IsRuledOn (ruling_of service texts.since (key_at texts) admin is) going service.setup service.default_schema so.lost now so.goes → IsLostFor l t given → IsGoingParted service.buffer_budget l t going
      → AreHeldFor going texts service.default_schema router.core.decided log → IsSettledFor going service admin
      → IsRouter service texts is (with_entry log (entry_by how l)) now roomy
  pub closes : (service : Service) (texts : Texts) (admin : Administered) (log : Log) (t now : Tabled) (roomy room : ClientNo → Bool) (l : LinkId)
      → IsRouter service texts admin log t roomy → MayFollow log (entry.Closed l) → ((c : ClientNo) → room c ≡ false → roomy c ≡ false)
      → ClosesSo l room t now → IsRouter service texts admin (with_entry log (entry.Closed l)) now room

-- No more is taken than there is.

least_taken : (n : ℕ) (xs : List ℕ) → take (length (take n xs)) xs ≡ take n xs
least_taken zero xs = refl
least_taken (suc n) [] = refl
least_taken (suc n) (x ∷ xs) = ap (λ (ys : List ℕ). x ∷ ys) (least_taken n xs)

most_taken : (n : ℕ) (xs : List ℕ) → length (take n xs) ≤ length xs
most_taken zero xs = omega arith
most_taken (suc n) [] = omega arith
most_taken (suc n) (x ∷ xs) = let fewer : length (take n xs) ≤ length xs = most_taken n xs in omega (arith, fewer)

same_itself : (t : Tabled) → IsSame t t
same_itself t = record { clients = λ c. refl; numbers = λ l. refl; links = λ l. refl }

none_given : (found : Option Client) → found ≡ option_map (given_row None) found
none_given None = refl
none_given (Some row) = refl

given_nobody : (x : Tabled) → IsSame x (given_up_in (told_to None) x)
given_nobody x = record { clients = λ c. none_given (x.clients c); numbers = λ l. refl; links = λ l. refl }

is_not : (b : Bool) → not b ≡ true → b ≡ false
is_not false is = refl
is_not true is = absurd (false≢true is)

module _ {texts : Texts} {admin : Administered} (laws : Laws) (service : Service) (log marks : Log) (t : Tabled) (roomy room : ClientNo → Bool) (l : LinkId)
    (lent : Option Sent) (router : IsRouter service texts admin log t roomy) (only : AreMarks marks)
    (rooms : (c : ClientNo) → room c ≡ false → roomy c ≡ false) (may : MayClose l room t)
    (says : MaySayFarewell l (λ (c : ClientNo). not (is_going (t.clients c))) t) (lends : IsLentThere l lent t) where
  abbrev now : Tabled
  now = unlinked l (lost_in l t)

  abbrev Goes : Entry → Type 0
  Goes e =
      MayFollow log e → MayFollow (log ++ e ∷ [] ++ marks) (entry.Closed l)
      → IsRouter service texts admin (log ++ e ∷ [] ++ marks ++ entry.Closed l ∷ []) now room

  -- behind the write
  behind : (e : Entry) (x : Tabled) → MayFollow (log ++ e ∷ [] ++ marks) (entry.Closed l) → IsRouter service texts admin (with_entry log e) x roomy
      → ClosesSo l room x now → IsRouter service texts admin (log ++ e ∷ [] ++ marks ++ entry.Closed l ∷ []) now room
  behind e x follow stood so =
      let size : length (log ++ e ∷ [] ++ marks) + 1 < 281474976710656 = follow.bounded in
      laws.closes service texts admin (log ++ e ∷ [] ++ marks) x now roomy room l
      (laws.marks service texts admin (with_entry log e) marks x roomy stood only (less (length (log ++ e ∷ [] ++ marks)) size)) follow rooms so
    where
      less : (n : ℕ) → n + 1 < 281474976710656 → n < 281474976710656
      less n is = omega (arith, is)

  -- nothing was written
  nothing : Goes (entry.WriteNothing l)
  nothing follow last =
      behind (entry.WriteNothing l) t last (laws.quiet service texts admin log (entry.WriteNothing l) t roomy router follow refl tt)
      (record { may = may; same = same_itself now })

  -- so much was
  wrote : (sent : Sent) → lent ≡ Some sent → (n : ℕ) → Goes (entry.Wrote l sent.tag (take (length (take n sent.bytes)) sent.bytes))
  wrote sent is n follow last =
      let count : ℕ = length (take n sent.bytes) in
      let x : Tabled = wrote_on l count 0 t in
      let some : 0 < count = subst (λ (xs : List ℕ). 0 < length xs) (least_taken n sent.bytes) follow.fits.some in
      behind (entry.Wrote l sent.tag (take count sent.bytes)) x last
      (laws.writes service texts admin log t x roomy l sent count router follow (record {
        server = says.server;
        there = says.there;
        lent = lends.lends sent is;
        well = λ out. lends.well sent is says.server says.there;
        some = some;
        most = most_taken n sent.bytes;
        moment = 0;
        same = same_itself x;
      }))
      (closes_then l room t x may (wrote_before l count 0 t x says.server says.there says.next (same_itself x)))

  -- the write failed, by which nobody is called
  none_called : (at : Option SessionName) → name_in says.server.row.link.state.carries ≡ at → IsCalled at None t None
  none_called None at = refl
  none_called (Some n) at = (
    λ up some. absurd (none-some up some),
    ap (λ (b : Bool). if b then Some n.client else None) (sym (is_not (is_going (t.clients n.client)) (says.uncalled n at))),
  )

  failed : Goes (entry.WriteFailed l)
  failed follow last =
      let x : Tabled = lost_in l t in
      behind (entry.WriteFailed l) x last
      (laws.loses service texts admin admin log t x roomy l WriteFails None None router follow tt tt (record {
        server = says.server;
        there = says.there;
        may = tt;
        with_it = may.with_it;
        lost = x;
        loses = given_nobody x;
        called = none_called (name_in says.server.row.link.state.carries) refl;
        goes = same_itself x;
      }) refl tt tt tt tt)
      (closes_lost l room t x may (same_itself x))

  part_of : (to : LinkId) (tag : Tag) (bytes : List ℕ) → to ≡ l → IsPartOf lent tag bytes → Goes (entry.Wrote to tag bytes)
  part_of to tag bytes same is =
      subst Goes
      (λ i. entry.Wrote (sym same i) (sym is.same_tag i) ((least_taken is.front.0 is.sent.bytes ∙ sym is.front.1) i))
      (wrote is.sent is.is is.front.0)

  pub farewell : (e : Entry) → IsFarewell lent l e → Goes e
  farewell (entry.Wrote to tag bytes) is = part_of to tag bytes is.0 is.1
  farewell (entry.WriteNothing to) is = subst (λ (k : LinkId). Goes (entry.WriteNothing k)) (sym is) nothing
  farewell (entry.WriteFailed to) is = subst (λ (k : LinkId). Goes (entry.WriteFailed k)) (sym is) failed
  farewell _ is = absurd is
