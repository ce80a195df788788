use Rattle.shared_core.proofs.Clients.{settled_rules}
-- A link to a server is lost: what the router makes of that carries it over the entry.
use Rattle.std.specs.Prelude.{◌≡◌, ◌⊎◌, ◌<◌, ◌^◌, ◌||◌, ℕ, suc, Bool, true, false, not, IfSome, nat_eq, is_some, if◌then◌else◌, List, [], ◌∷◌, Option, Some, None}
use Rattle.std.specs.Option.{option_and_then, option_copied, option_map, option_map_or}
use Rattle.std.specs.Borrow.{Bor}
use Rattle.std.proofs.Common.{◌∙◌, ap, inl, inr, refl, subst, sym}
use Rattle.std.proofs.lemmas.Bool.{false≢true}
use Rattle.std.proofs.lemmas.Option.{none-some, same_Some}
use Rattle.mx_base.specs.declared.names.ClientNo.{ClientNo}
use Rattle.mx_base.specs.declared.names.Hostgroup.{Hostgroup}
use Rattle.mx_base.specs.declared.names.LinkId.{LinkId}
use Rattle.mx_wire.specs.Log.{Log, is_open}
use Rattle.mx_wire.specs.Tells.{MayFollow}
use Rattle.private_model.proofs.Maps.{same_number}
use Rattle.session_state.specs.declared.names.SessionName.{SessionName}
use Rattle.client_seat.specs.Seats.{is_ended}
use Rattle.client_desk.specs.declared.work.Work.{Work}
use Rattle.core_policy.specs.declared.policy.Policy.{Policy}
use Rattle.core_policy.specs.declared.verdict.GiveUp.{GiveUp}
use Rattle.core_service.specs.Serves.{rules_in}
use Rattle.core_service.specs.declared.service.Service.{Service}
use Rattle.core_tables.specs.Parting.{changed_for, given_row, given_up_in, gone_row, lost_in, present_in}
use Rattle.core_tables.specs.Tables.{IsSame, Tabled}
use Rattle.core_tables.specs.declared.client.Client.{Client}
use Rattle.core_tables.specs.declared.server.Server.{Server}
use Rattle.desk_laws.specs.Spares.{IsElsewhere}
use Rattle.marked_tables.specs.Marking.{carried_at}
use Rattle.core_laws.specs.clients.Follows.{LeavesThere}
use Rattle.core_laws.specs.clients.Going.{GivenUp, Going, IsCalled, is_going, told_to}
use Rattle.core_laws.specs.entry.Cores.{with_entry}
use Rattle.core_laws.specs.entry.Freeing.{all_freed}
use Rattle.core_promises.specs.Ruled.{ruling_of}
use Rattle.router_laws.specs.decisions.Rulings.{IsRuledOn, IsSettledFor}
use Rattle.router_laws.specs.decisions.Speaks.{AreGivenOurs, AreGoingOurs}
use Rattle.router_laws.specs.decisions.Held.{AreHeldFor}
use Rattle.router_laws.specs.decisions.Routers.{IsLearned, IsRouter}
use Rattle.router_laws.specs.links.Loses.{Break, GoesWithIt, IsGivenUpWith, LosesEnded, LosesSo, MayGiveUpWith, ReadEnds, ReadFails, WriteFails, entry_by, gives}
use Rattle.router_laws.specs.wakes.Calling.{AreHomesOf}
use Rattle.core_texts.specs.declared.texts.Texts.{Texts}
use Rattle.core_texts.specs.Texts.{HasBegun, key_at}
use Rattle.router_laws.specs.decisions.Causes.{IsLostFor}
use Rattle.router_laws.specs.decisions.Partings.{IsGoingParted}
use Rattle.core_promises.specs.Administers.{Administered}
use Rattle.shared_core.proofs.Carrying.{carries_by, carries_since, worked_same}
use Rattle.shared_core.proofs.Causing.{lost_for}
use Rattle.shared_core.proofs.Partings.{parted-for}
use Rattle.shared_core.proofs.Coming.{BringsNone}
use Rattle.shared_core.proofs.Hears.{its_then}
use Rattle.shared_core.proofs.Tabling.{tables_are}
use Rattle.shared_core.specs.Follows.{HasCalled, HasGiven, IsFor, Keeps, KeepsBut, Made, MayBeGivenWith, is_of, made_by, told_client, up_client}
use Rattle.shared_core.specs.Losses.{EndsWith, HasLost, HasLostEnded, IsHeldBy, MayLose, is_given}
use Rattle.shared_core.specs.Rows.{is_worked_in}
use Rattle.shared_core.specs.Stands.{Carries, IsSettled, Loses, is_roomy, tables, work_of, worked}
use Rattle.shared_core.specs.declared.router.Router.{Router}

-- The laws by which it goes.

abbrev pub Routes : Type 0
Routes =
    (service : Service) (texts : Texts) (admin is : Administered) (log : Log) (t now : Tabled) (roomy : ClientNo → Bool) (l : LinkId) (how : Break)
    (given : Option GivenUp) (going : Option Going) → (router : IsRouter service texts admin log t roomy) → MayFollow log (entry_by how l)
    → AreGivenOurs given → AreGoingOurs (rules_in service) texts going → (so : LosesSo service.setup service.default_schema l given going t now)
    → IsRuledOn (ruling_of service texts.since (key_at texts) admin is) going service.setup service.default_schema so.lost now so.goes → IsLostFor l t given
    → IsGoingParted service.buffer_budget l t going
    → AreHeldFor going texts service.default_schema router.core.decided log
    → IsSettledFor going service admin → IsRouter service texts is (with_entry log (entry_by how l)) now roomy

abbrev pub EndedRoutes : Type 0
EndedRoutes =
    (service : Service) (texts : Texts) (admin : Administered) (log : Log) (t now : Tabled) (roomy : ClientNo → Bool) (l : LinkId) (how : Break) (c : ClientNo)
    (links : List LinkId) → IsRouter service texts admin log t roomy → MayFollow log (entry_by how l) → LosesEnded l c links t now
    → IsRouter service texts admin (with_entry log (entry_by how l)) now roomy

-- the texts are held, whoever goes on
held_for : {service : Service} {texts : Texts} {admin : Administered} {log : Log} {t : Tabled} {roomy : ClientNo → Bool} (going : Option Going)
    → (learnt : IsLearned service texts admin log t roomy) → AreHeldFor going texts service.default_schema learnt.router.core.decided log
held_for None learnt = tt
held_for (Some going) learnt = learnt.since

-- Who went on does so still: no link that is lost, and no statement that is given up, ends a client.

goes_by : (by : Client → Client) → ((row : Client) → is_ended (by row).desk.seat.phase ≡ is_ended row.desk.seat.phase) → (o : Option Client)
    → is_going (option_map by o) ≡ is_going o
goes_by by same None = refl
goes_by by same (Some row) = ap not (same row)

given_goes : (payload : Option (List ℕ)) (row : Client) → is_ended (given_row payload row).desk.seat.phase ≡ is_ended row.desk.seat.phase
given_goes None row = refl
given_goes (Some payload) row = refl

for_goes : (b : Bool) (h : Hostgroup) (o : Option Client) → is_going (if b then option_map (gone_row h) o else o) ≡ is_going o
for_goes true h o = goes_by (gone_row h) (λ row. refl) o
for_goes false h o = refl

changed_goes : (n : Option SessionName) (c : ClientNo) (o : Option Client) → is_going (changed_for gone_row n c o) ≡ is_going o
changed_goes None c o = refl
changed_goes (Some n) c o = for_goes (nat_eq n.client.0 c.0) n.hostgroup o

lost_going : (l : LinkId) (told : Option GivenUp) (old mid : Tabled) (c : ClientNo) → IsSame mid (given_up_in (told_to told) (lost_in l old))
    → is_going (mid.clients c) ≡ is_going (old.clients c)
lost_going l told old mid c gives =
    ap is_going (gives.clients c) ∙ goes_by (given_row (told_to told c)) (given_goes (told_to told c)) ((lost_in l old).clients c)
    ∙ changed_goes (present_in l old) c (old.clients c)

-- so who is called behind it is called before it

called_then : (name : Option SessionName) (told : Option GivenUp) (old mid : Tabled) (called : Option ClientNo)
    → ((c : ClientNo) → is_going (mid.clients c) ≡ is_going (old.clients c)) → IsCalled name told mid called → IsCalled name told old called
called_then None told old mid called still is = is
called_then (Some n) told old mid called still is = (is.0, is.1 ∙ ap (λ (b : Bool). if b then Some n.client else None) (still n.client))

for_then : (link : LinkId) (name : Option SessionName) (given : Option GiveUp) (old mid : Tabled)
    → ((c : ClientNo) → is_going (mid.clients c) ≡ is_going (old.clients c))
    → IfSome given (λ (up : GiveUp). MayBeGivenWith link name up old) → IfSome given (λ (up : GiveUp). IsFor name up.client mid)
for_then link name None old mid still may = tt
for_then link name (Some up) old mid still may = its_then name up.client old mid (still up.client) may.its

-- What is given up is what was to be.

told_is : (b : Bool) (payload : List ℕ) → is_some (if b then Some payload else None) ≡ b
told_is true payload = refl
told_is false payload = refl

given_is : (told : Option GivenUp) (given : Option GiveUp) (c : ClientNo) → told_client told ≡ up_client given → gives told c ≡ is_given given c
given_is None None c its = refl
given_is None (Some up) c its = absurd (none-some up.client its)
given_is (Some told) None c its = absurd (none-some told.client (sym its))
given_is (Some told) (Some up) c its =
    told_is (nat_eq told.client.0 c.0) told.payload
    ∙ ap (λ (k : ClientNo). nat_eq k.0 c.0) (same_Some told.client up.client its)

may_of : (link : LinkId) (name : Option SessionName) (t : Tabled) (told : Option GivenUp) (given : Option GiveUp) → told_client told ≡ up_client given
    → IfSome given (λ (up : GiveUp). MayBeGivenWith link name up t) → MayGiveUpWith link told t
may_of link name t None given its may = tt
may_of link name t (Some told) None its may = absurd (none-some told.client (sym its))
may_of link name t (Some told) (Some up) its may =
    subst (λ (c : ClientNo). IsGivenUpWith link c t) (sym (same_Some told.client up.client its)) may.may

elsewhere_or : (h : Hostgroup) (work : Option Work) (a b : Bool) → b ≡ a → IsElsewhere h work ⊎ (a ≡ true) → IsElsewhere h work ⊎ (b ≡ true)
elsewhere_or h work a b same (inl is) = inl is
elsewhere_or h work a b same (inr is) = inr (same ∙ is)

with_it_then : (link : LinkId) (told : Option GivenUp) (given : Option GiveUp) (t : Tabled) → told_client told ≡ up_client given
    → GoesWithIt link (is_given given) t → GoesWithIt link (gives told) t
with_it_then link told given t its goes = record {
  lives = goes.lives;
  work = λ n row at there.
      elsewhere_or n.hostgroup row.desk.work (is_given given n.client) (gives told n.client) (given_is told given n.client its)
      (goes.work n row at there);
}

-- All of it, where nobody ends.
pub lost_so : (service : Service) (made : Made) (link : LinkId) (name : Option SessionName) (given : Option GiveUp) (old lost mid new : Tabled)
    → IsSame lost (lost_in link old) → HasGiven given lost mid
    → ((told : Option GivenUp) → told_client told ≡ up_client given → IfSome given (λ (up : GiveUp). IsFor name up.client mid)
    → HasCalled service made name told mid new) → MayLose link name given old → HasLost service made link old new
lost_so service made link name given old lost mid new loses gave calls may =
    let same : IsSame mid (given_up_in (told_to gave.told) (lost_in link old)) =
    subst (λ (t : Tabled). IsSame mid (given_up_in (told_to gave.told) t)) (tables_are lost (lost_in link old) loses) gave.same in
    let still : (c : ClientNo) → is_going (mid.clients c) ≡ is_going (old.clients c) = λ c. lost_going link gave.told old mid c same in
    let goes_on : HasCalled service made name gave.told mid new = calls gave.told gave.its (for_then link name given old mid still may.may) in
    let called : IsCalled name gave.told old (option_map (λ (g : Going). g.client) goes_on.going) =
    called_then name gave.told old mid (option_map (λ (g : Going). g.client) goes_on.going) still goes_on.called in
    record {
      given = gave.told;
      going = goes_on.going;
      given_ours = gave.ours;
      why = lost_for link name old gave.told given gave.is may.carried may.may;
      parted = parted-for service.buffer_budget link name gave.told old mid goes_on.going may.carried goes_on.called goes_on.why;
      ours = goes_on.ours;
      so = record {
        server = may.server;
        there = may.there;
        may = may_of link name old gave.told given gave.its may.may;
        with_it = with_it_then link gave.told given old gave.its may.with_it;
        lost = mid;
        loses = same;
        called = subst (λ (n : Option SessionName). IsCalled n gave.told old (option_map (λ (g : Going). g.client) goes_on.going)) may.named called;
        goes = goes_on.goes;
      };
      ruled = goes_on.ruled;
    }

-- And where its client ends.
pub lost_ended : (link : LinkId) (c : ClientNo) (homes : List LinkId) (old lost parted new : Tabled) → IsSame lost (lost_in link old)
    → AreHomesOf (is_of (c ∷ [])) homes lost → LeavesThere c lost parted → IsSame new (all_freed homes parted) → IsHeldBy link c old
    → HasLostEnded link c old new
lost_ended link c homes old lost parted new loses are leaves freed held =
    let is : lost ≡ lost_in link old = tables_are lost (lost_in link old) loses in
    let left : LeavesThere c (lost_in link old) parted = subst (λ (t : Tabled). LeavesThere c t parted) is leaves in
    let its : AreHomesOf (is_of (c ∷ [])) homes (lost_in link old) = subst (λ (t : Tabled). AreHomesOf (is_of (c ∷ [])) homes t) is are in
    record {
      links = homes;
      so = record {
        name = held.name;
        carries = held.carries;
        its = held.its;
        lives = held.lives;
        row = held.row;
        work = held.work;
        at_work = held.at_work;
        there = held.there;
        homes = record {
          row = left.row;
          there = left.there;
          homes = λ h l home there.
              its.homes c left.row h l (ap (λ (b : Bool). b || false) (same_number c.0)) left.there home there;
          known = its.known;
          rising = its.rising;
        };
        parted = parted;
        parts = left;
        freed = freed;
      };
    }

-- Who ends with it.

pub nobody_there : (link : LinkId) (given : Option GiveUp) (t : Tabled) → None ≡ present_in link t → EndsWith link given None t
nobody_there link given t none = record {
  lives = λ n at. absurd (none-some n (none ∙ at));
  work = λ n row at there. absurd (none-some n (none ∙ at));
}

module _ (link : LinkId) (name : SessionName) (given : Option GiveUp) (t : Tabled) (at : Some name ≡ present_in link t)
    (lives : suc name.life < 2 ^ 64) where
  its : (n : SessionName) → present_in link t ≡ Some n → name ≡ n
  its n is = same_Some name n (at ∙ is)

  goes : ((row : Client) → t.clients name.client ≡ Some row → IsElsewhere name.hostgroup row.desk.work ⊎ (is_given given name.client ≡ true))
      → EndsWith link given None t
  goes work = record {
    lives = λ n is. subst (λ (k : SessionName). suc k.life < 2 ^ 64) (its n is) lives;
    work = λ n row is there.
        subst (λ (k : SessionName). (found : Client) → t.clients k.client ≡ Some found
        → IsElsewhere k.hostgroup found.desk.work ⊎ (is_given given k.client ≡ true)) (its n is) work row there;
  }

  pub given_goes_with : is_given given name.client ≡ true → EndsWith link given None t
  given_goes_with is = goes (λ row there. inr is)

  pub idle_goes_with : is_worked_in name t ≡ false → EndsWith link given None t
  idle_goes_with idle =
      goes (λ row there.
      inl (by row.desk.work
      (sym (ap (λ (found : Option Client).
      option_map_or (λ (work : Work). nat_eq work.hostgroup.0 name.hostgroup.0) (option_and_then (λ (client : Client). client.desk.work) found) false)
      there) ∙ idle))) where
        by : (found : Option Work) → option_map_or (λ (work : Work). nat_eq work.hostgroup.0 name.hostgroup.0) found false ≡ false
            → IsElsewhere name.hostgroup found
        by None off = tt
        by (Some work) off = off

  pub held_there : is_worked_in name t ≡ true → EndsWith link given (Some name.client) t
  held_there works = by (t.clients name.client) refl works where
    by : (found : Option Client) → t.clients name.client ≡ found
        → option_map_or (λ (work : Work). nat_eq work.hostgroup.0 name.hostgroup.0) (option_and_then (λ (row : Client). row.desk.work) found) false
        ≡ true
        → IsHeldBy link name.client t
    by None there is = absurd (false≢true is)
    by (Some row) there is = in_it row.desk.work refl is where
      in_it : (found : Option Work) → row.desk.work ≡ found
          → option_map_or (λ (work : Work). nat_eq work.hostgroup.0 name.hostgroup.0) found false ≡ true → IsHeldBy link name.client t
      in_it None idle none = absurd (false≢true none)
      in_it (Some work) some one = record {
        name = name;
        carries = sym at;
        its = refl;
        lives = lives;
        row = row;
        work = work;
        at_work = record { there = there; in_work = some };
        there = one;
      }

pub held_by : (link : LinkId) (given : Option GiveUp) (ended : Option ClientNo) (client : ClientNo) (t : Tabled) → ended ≡ Some client
    → EndsWith link given ended t → IsHeldBy link client t
held_by link given ended client t is ends = subst (λ (o : Option ClientNo). EndsWith link given o t) is ends

-- before it is lost
pub may_lose : (link : LinkId) (name : Option SessionName) (given : Option GiveUp) (ended : Option ClientNo) (t : Tabled)
    → name ≡ carried_at (t.links link) → IfSome given (λ (up : GiveUp). MayBeGivenWith link name up t) → ended ≡ None
    → EndsWith link given ended t → is_some (t.links link) ≡ true → MayLose link name given t
may_lose link name given ended t named may none ends there = by (t.links link) refl there where
  by : (found : Option Server) → t.links link ≡ found → is_some found ≡ true → MayLose link name given t
  by None at some = absurd (false≢true some)
  by (Some server) at some = record {
    server = server;
    there = at;
    named = named ∙ ap carried_at at;
    may = may;
    carried = named;
    with_it = subst (λ (o : Option ClientNo). EndsWith link given o t) none ends;
  }

-- what is chosen by is of no matter
pub chosen_by : (old new : Router) (policy : Policy) → Keeps (record old { policy = policy }) new → Keeps old new
chosen_by old new policy keeps = record {
  goes = keeps.goes;
  roomy = keeps.roomy;
  came = keeps.came;
  asked = keeps.asked;
  client = keeps.client;
  link = keeps.link;
  texts = keeps.texts;
  work = keeps.work;
}

pub but_chosen_by : (old new : Router) (policy : Policy) → KeepsBut (record old { policy = policy }) new → KeepsBut old new
but_chosen_by old new policy keeps = record {
  goes = keeps.goes;
  roomy = keeps.roomy;
  came = keeps.came;
  asked = keeps.asked;
  client = keeps.client;
  link = keeps.link;
  texts = keeps.texts;
}

settled_for : (going : Option Going) (service : Service) (was : Administered) → was.rules ≡ rules_in service → IsSettledFor going service was
settled_for None service was rules = tt
settled_for (Some going) service was rules = rules

-- So the router stands for the log with it, however it is told.

none_come : (how : Break) (link : LinkId) → BringsNone (entry_by how link ∷ [])
none_come ReadEnds link = (refl, λ moment. refl)
none_come ReadFails link = (refl, λ moment. refl)
none_come WriteFails link = (refl, λ moment. refl)

module _ (service : Service) (link : LinkId) (old new : Router) where
  loses_each : ((how : Break) → Carries service (entry_by how link) old new) → Loses service link old new
  loses_each each = record { ended = each ReadEnds; unread = each ReadFails; unwritten = each WriteFails }

  pub lost_loses : Routes → KeepsBut old new → HasBegun old.texts → HasLost service (made_by service old new) link (tables old) (tables new) → IsSettled old
      → Loses service link old new
  lost_loses routes keeps begun has loaded =
      loses_each
      (λ how.
      carries_since service old new keeps.roomy keeps.came keeps.texts begun (entry_by how link) (none_come how link)
      (λ log may learnt.
      routes service new.texts (worked service (work_of old)) (worked service (work_of new)) log (tables old) (tables new) (is_roomy old.roomy) link how has.given has.going learnt.router may
      has.given_ours has.ours has.so has.ruled has.why has.parted (held_for has.going learnt)
      (settled_for has.going service (worked service (work_of old)) (settled_rules service old loaded))))

  pub ended_loses : EndedRoutes → (c : ClientNo) → Keeps old new → HasLostEnded link c (tables old) (tables new) → Loses service link old new
  ended_loses routes c keeps has =
      loses_each
      (λ how.
      carries_by service old new keeps.roomy keeps.came keeps.texts (entry_by how link) (none_come how link)
      (λ log may router.
      worked_same service new.texts (with_entry log (entry_by how link)) (tables new) (is_roomy old.roomy) old new keeps.work
      (routes service new.texts (worked service (work_of old)) log (tables old) (tables new) (is_roomy old.roomy) link how c has.links router may has.so)))

-- whether a row is there
pub copied_is : {T : Type 0} (found : Option (Bor T)) (row : Option T) (test b : Bool) → option_copied found ≡ row → test ≡ is_some found
    → test ≡ b → is_some row ≡ b
copied_is {T} found row test b same tests is = sym (ap (λ (o : Option T). is_some o) same) ∙ (by found ∙ (sym tests ∙ is)) where
  by : (o : Option (Bor T)) → is_some (option_copied o) ≡ is_some o
  by None = refl
  by (Some x) = refl

-- No link is lost that nobody has.

is_open_by : (how : Break) (link : LinkId) (log : Log) → MayFollow log (entry_by how link) → is_open link log ≡ true
is_open_by ReadEnds link log may = may.fits
is_open_by ReadFails link log may = may.fits
is_open_by WriteFails link log may = may.fits

pub nobodys_loses : (service : Service) (link : LinkId) (r : Router) → is_some ((tables r).links link) ≡ false → None ≡ (tables r).numbers link
    → Loses service link r r
nobodys_loses service link r no_server no_client =
    loses_each service link r r
    (λ how log may stood.
    absurd (false≢true
    (sym (stood.router.open_just link
    ∙ ap (λ (b : Bool). b || is_some ((tables r).numbers link)) no_server ∙ sym (ap (λ (found : Option ClientNo). is_some found) no_client))
    ∙ is_open_by how link log may)))
