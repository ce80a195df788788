-- The link of a client is closed that ended, behind a farewell or without one.
use Rattle.std.specs.Prelude.{◌≡◌, ◌<◌, ◌≤◌, ◌+◌, ◌||◌, ◌&&◌, ℕ, Bool, true, false, not, is_some, length, min, nat_eq, take, if◌then◌else◌, List, [], ◌∷◌, ◌++◌, Option, Some, None, IsSome}
use Rattle.std.specs.List.{list_all}
use Rattle.std.specs.Option.{option_map, option_map_or, option_or}
use Rattle.std.proofs.Common.{refl, sym, ap, ◌∙◌, subst, arith, inl, inr, append-nil}
use Rattle.std.proofs.lemmas.Bool.{true≢false}
use Rattle.std.proofs.lemmas.List.{length-take, take_min}
use Rattle.std.proofs.lemmas.List.Elements.{filter_map-append}
use Rattle.mx_base.specs.Sent.{Sent}
use Rattle.mx_base.specs.declared.names.ClientNo.{ClientNo}
use Rattle.mx_base.specs.declared.names.LinkId.{LinkId}
use Rattle.mx_base.specs.declared.tag.Tag.{Tag}
use Rattle.mx_wire.specs.Log.{AreMarks, Log}
use Rattle.mx_wire.specs.Tells.{IsOpen, MayFollow}
use Rattle.mx_wire.specs.declared.entry.Entry.{Entry}
use Rattle.mx_wire.specs.declared.entry.Entry.TheVariants as entry
use Rattle.ready_loop.specs.Machine.{IsFarewell, IsPartOf}
use Rattle.ready_loop.specs.declared.machines.Act.TheVariants as act
use Rattle.client_desk.specs.declared.session.Session.{Session}
use Rattle.client_seat.specs.Seats.{has_room, is_ended, wrote}
use Rattle.client_seat.specs.declared.seat.Seat.{Seat}
use Rattle.private_model.proofs.Maps.{number_of, same_number}
use Rattle.private_model.specs.Story.{is_client}
use Rattle.core_service.specs.declared.service.Service.{Service}
use Rattle.core_tables.specs.Arrivals.{forgotten, seated, without, written_to}
use Rattle.core_tables.specs.Parting.{kept_at, kept_by, left_in, left_row, parted_in, with_kept}
use Rattle.core_tables.specs.Tables.{IsSame, Tabled, client_put}
use Rattle.core_tables.specs.declared.client.Client.{Client}
use Rattle.core_tables.specs.declared.server.Server.{Server}
use Rattle.core_laws.specs.entry.Cores.{with_entry}
use Rattle.marked_tables.specs.Goes.{sends_on}
use Rattle.router_laws.specs.clients.Parts.{PartsSo}
use Rattle.router_laws.specs.clients.Writes.{AreRoomy, lacks_event}
use Rattle.router_laws.specs.decisions.Routers.{IsRouter}
use Rattle.router_laws.specs.quiet.Quiet.{is_quiet}
use Rattle.router_laws.specs.waits.Drained.{IsDrainedAt}
use Rattle.router_laws.specs.routers.Somehow.{AreLinked, IsLinked}
use Rattle.core_texts.specs.declared.texts.Texts.{Texts}
use Rattle.core_promises.specs.Administers.{Administered}
use Rattle.shared_core.proofs.Coming.{BringsNone, come_on}
use Rattle.shared_core.specs.Came.{HaveCome}
use Rattle.shared_core.specs.Parts.{MayPart, is_homeless}
use Rattle.shared_core.specs.Stands.{ActsSo, IsClosed, PartsFor, Shown, StandsBy, work_of, worked}
use Rattle.shared_core.specs.Stands.{is_roomy, parted, shown, tables, without_link}
use Rattle.shared_core.specs.declared.router.Router.{Router}
use Rattle.shared_core.proofs.ClientRows.{left_again}
use Rattle.shared_core.proofs.Clients.{Again}
use Rattle.shared_core.proofs.Machining.{stands_parted}
use Rattle.shared_core.proofs.Tabling.{same_by}
use Rattle.shared_core.proofs.Writings.{ClientWrites, IsSentTo, sent_to}

-- Its sessions have no home: by its leaving links keep nothing of them.

none_home : (at : LinkId) (s : Session) → is_homeless s ≡ true → kept_by at s.home s ≡ None
none_home at s is = by s.home is where
  by : (home : Option LinkId) → not (is_some home) ≡ true → kept_by at home s ≡ None
  by None off = refl
  by (Some l) off = absurd (true≢false (sym off))

both_left : (a b : Bool) → (a && b) ≡ true → a ≡ true
both_left true b is = refl
both_left false b is = absurd (true≢false (sym is))

both_right : (a b : Bool) → (a && b) ≡ true → b ≡ true
both_right true b is = is
both_right false b is = absurd (true≢false (sym is))

keeps_none : (at : LinkId) (rows : List Session) → list_all is_homeless rows ≡ true → kept_at at rows ≡ None
keeps_none at [] all = refl
keeps_none at (row ∷ rows) all =
    (λ i. option_or (keeps_none at rows (both_right (is_homeless row) (list_all is_homeless rows) all) i)
    (none_home at row (both_left (is_homeless row) (list_all is_homeless rows) all) i))

with_none : (server : Option Server) → option_map (with_kept None) server ≡ server
with_none None = refl
with_none (Some server) = refl

-- a client's number is this one's

same_client : (a b : ClientNo) → a.0 ≡ b.0 → a ≡ b
same_client a b is = λ i. record { 0 = is i }

-- It is forgotten with any row on the same link.

put_same : (c : ClientNo) (row : Option Client) (t : Tabled) → (client_put c row t).clients c ≡ row
put_same c row t = ap (λ (b : Bool). if b then row else t.clients c) (same_number c.0)

forgets_put : (c : ClientNo) (row then_row : Client) (t : Tabled) → t.clients c ≡ Some row → then_row.desk.seat.link ≡ row.desk.seat.link
    → IsSame (forgotten c t) (forgotten c (client_put c (Some then_row) t))
forgets_put c row then_row t there link = same_by (forgotten c t) (forgotten c (client_put c (Some then_row) t))
    (ap (λ (found : Option Client). without c found t) there
    ∙ at ∙ sym (ap (λ (found : Option Client). without c found (client_put c (Some then_row) t)) (put_same c (Some then_row) t))) where
      client_by : (b : Bool) (other : ClientNo) → (if b then None else t.clients other) ≡ (if b then None else if b then Some then_row else t.clients other)
      client_by true other = refl
      client_by false other = refl

      at : without c (Some row) t ≡ without c (Some then_row) (client_put c (Some then_row) t)
      at = λ i. record {
        clients = λ (other : ClientNo). client_by (nat_eq c.0 other.0) other i;
        numbers = λ (l : LinkId). if nat_eq (sym link i).0 l.0 then None else t.numbers l;
        links = t.links;
      }

-- Bytes from the front of what is due are so many of them.

record IsFrontOf (xs ys : List ℕ) : Type 0 where
  pub few : length ys ≤ length xs
  pub is : ys ≡ take (length ys) xs

front_of : (n : ℕ) (xs ys : List ℕ) → ys ≡ take n xs → IsFrontOf xs ys
front_of n xs ys is =
    let size : length ys ≡ min n (length xs) = ap (λ (zs : List ℕ). length zs) is ∙ length-take n xs in
    record {
      few = omega (arith, size);
      is = is ∙ sym (take_min n xs) ∙ ap (λ (k : ℕ). take k xs) (sym size);
    }

or_none : (a b : Bool) → a ≡ false → b ≡ false → (a || b) ≡ false
or_none a b one other = λ i. one i || other i

and_none : (a b : Bool) → b ≡ false → (a && b) ≡ false
and_none true b off = off
and_none false b off = refl

or_some : (a : Bool) → (a || true) ≡ true
or_some true = refl
or_some false = refl

-- one that ended lacks no event
none_lacks : (count : ℕ) (c : ClientNo) (row : Client) (roomy : ClientNo → Bool) → is_ended row.desk.seat.phase ≡ true → AreRoomy count c row roomy roomy
none_lacks count c row roomy over other none =
    or_none (roomy other) (is_client c other && lacks_event count row) none
    (and_none (is_client c other) (lacks_event count row)
    (ap (λ (b : Bool). not b && (not (has_room row.desk.seat) && has_room (wrote count row.desk.seat))) over))

-- Marks are of nobody who comes.

mark_comes : (marks : Log) → AreMarks marks → BringsNone marks
mark_comes [] are = (refl, λ moment. refl)
mark_comes (entry.Exec link ∷ marks) are = mark_comes marks are.1
mark_comes (entry.Drop link ∷ marks) are = mark_comes marks are.1
mark_comes (_ ∷ marks) are = absurd are.0

-- The laws by which the router goes on.

abbrev pub Quiets : Type 0
Quiets = (service : Service) (texts : Texts) (admin : Administered) (log : Log) (e : Entry) (t : Tabled) (roomy : ClientNo → Bool) → IsRouter service texts admin log t roomy
    → MayFollow log e → is_quiet e ≡ true → IsDrainedAt t log e → IsRouter service texts admin (with_entry log e) t roomy

abbrev pub Marks : Type 0
Marks = (service : Service) (texts : Texts) (admin : Administered) (log marks : Log) (t : Tabled) (roomy : ClientNo → Bool) → IsRouter service texts admin log t roomy
    → AreMarks marks → length (log ++ marks) < 281474976710656 → IsRouter service texts admin (log ++ marks) t roomy

abbrev pub Parts : Type 0
Parts = (service : Service) (texts : Texts) (admin : Administered) (log : Log) (t now : Tabled) (roomy : ClientNo → Bool) (link : LinkId) (c : ClientNo)
    → IsRouter service texts admin log t roomy → MayFollow log (entry.Closed link) → PartsSo link c t now
    → IsRouter service texts admin (with_entry log (entry.Closed link)) now roomy

abbrev pub Linked : Type 0
Linked = (service : Service) (texts : Texts) (admin : Administered) (log : Log) (t : Tabled) (roomy : ClientNo → Bool) → IsRouter service texts admin log t roomy → AreLinked t

pub record Laws : Type 0 where
  pub writes : ClientWrites
  pub quiet : Quiets
  pub again : Again
  pub marks : Marks
  pub parts : Parts
  pub linked : Linked

-- An entry behind which it is there still, on the same link.
pub record IsBehind (service : Service) (texts : Texts) (admin : Administered) (log : Log) (e : Entry) (c : ClientNo) (row : Client) (t : Tabled) (roomy : ClientNo → Bool) : Type 0 where
  pub row_then : Client
  pub router : IsRouter service texts admin (with_entry log e) (client_put c (Some row_then) t) roomy
  pub over : is_ended row_then.desk.seat.phase ≡ true
  pub link_is : row_then.desk.seat.link ≡ row.desk.seat.link
  pub none : BringsNone (e ∷ [])

module _ (laws : Laws) (old : Router) (link : LinkId) (c : ClientNo) (row : Client) (closed : IsClosed (shown old))
    (numbered : (tables old).numbers link ≡ Some c) (there : (tables old).clients c ≡ Some row) (is : MayPart row) where
  abbrev t : Tabled
  t = tables old

  abbrev roomy : ClientNo → Bool
  roomy = is_roomy old.roomy

  abbrev texts : Texts
  texts = old.texts

  abbrev new : Router
  new = record old { leaving = Some c }

  parts_so : (service : Service) (log : Log) → IsRouter service texts (worked service (work_of old)) log (forgotten c t) roomy
      → HaveCome log old.came → PartsFor service log (shown new)
  parts_so service log router counted = record {
    router = subst (λ (now : Tabled). IsRouter service texts (worked service (work_of old)) log now roomy)
        (sym (ap (λ (l : Option LinkId). without_link l (forgotten c t)) closed.link)) router;
    counted = counted;
  }

  plain : (service : Service) (log : Log) → MayFollow log (entry.Closed link) → StandsBy service log t (shown old)
      → PartsFor service (log ++ entry.Closed link ∷ []) (shown new)
  plain service log may was =
      parts_so service (log ++ entry.Closed link ∷ [])
      (laws.parts service old.texts (worked service (work_of old)) log t (forgotten c t) roomy link c was.router may (record {
        row = row;
        its = record { numbered = numbered; there = there };
        over = is.over;
        same = same_by (forgotten c t) (forgotten c t) refl;
      })) (come_on log (entry.Closed link ∷ []) old.came (refl, λ moment. refl) was.counted)

  ends : (service : Service) (log : Log) (e : Entry) (marks : Log) → IsBehind service old.texts (worked service (work_of old)) log e c row t roomy → StandsBy service log t (shown old) → AreMarks marks
      → MayFollow (log ++ e ∷ [] ++ marks) (entry.Closed link) → PartsFor service (log ++ e ∷ [] ++ marks ++ entry.Closed link ∷ []) (shown new)
  ends service log e marks behind was are may =
      let few : length (with_entry log e ++ marks) < 281474976710656 = let bounded = may.bounded in omega (arith, bounded) in
      parts_so service (log ++ e ∷ [] ++ marks ++ entry.Closed link ∷ [])
      (laws.parts service old.texts (worked service (work_of old)) (with_entry log e ++ marks) (client_put c (Some behind.row_then) t) (forgotten c t) roomy link c
      (laws.marks service old.texts (worked service (work_of old)) (with_entry log e) marks (client_put c (Some behind.row_then) t) roomy behind.router are few) may
      (record {
        row = behind.row_then;
        its = record { numbered = numbered; there = put_same c (Some behind.row_then) t };
        over = behind.over;
        same = forgets_put c row behind.row_then t there behind.link_is;
      }))
      (come_on (with_entry log e ++ marks) (entry.Closed link ∷ []) old.came (refl, λ moment. refl)
      (come_on (with_entry log e) marks old.came (mark_comes marks are) (come_on log (e ∷ []) old.came behind.none was.counted)))

  -- Its farewell is written, in part or whole.

  wrote_so : (tag : Tag) (bytes : List ℕ) → IsPartOf (sends_on old.marked link) tag bytes → (service : Service) (log : Log)
      → MayFollow log (entry.Wrote link tag bytes) → StandsBy service log t (shown old) → IsBehind service old.texts (worked service (work_of old)) log (entry.Wrote link tag bytes) c row t roomy
  wrote_so tag bytes part service log may was =
      let linked : IsLinked link c t = laws.linked service old.texts (worked service (work_of old)) log t roomy was.router link c numbered in
      let to : IsSentTo t c part.sent = sent_to old.marked link c linked.aside numbered part.sent part.is in
      let both : Some to.row ≡ Some row = sym to.there ∙ there in
      let same : to.row ≡ row = cc in
      let due : part.sent.bytes ≡ row.desk.seat.outbox.due = to.bytes ∙ ap (λ (r : Client). r.desk.seat.outbox.due) same in
      let front : IsFrontOf row.desk.seat.outbox.due bytes =
      front_of part.front.0 row.desk.seat.outbox.due bytes (part.front.1 ∙ ap (λ (xs : List ℕ). take part.front.0 xs) due) in
      record {
        row_then = seated (wrote (length bytes)) row;
        router = laws.writes service old.texts (worked service (work_of old)) log t (client_put c (Some (seated (wrote (length bytes)) row)) t) roomy roomy link tag bytes
            (length bytes) c was.router may (record {
              row = row;
              its = record { numbered = numbered; there = there };
              few = front.few;
              front = front.is;
              roomy_then = none_lacks (length bytes) c row roomy is.over;
              same = same_by (client_put c (Some (seated (wrote (length bytes)) row)) t) (written_to c (length bytes) t)
                  (ap (λ (found : Option Client). client_put c (option_map (seated (wrote (length bytes))) found) t) (sym there));
            });
        over = is.over;
        link_is = refl;
        none = (refl, λ moment. refl);
      }

  put_itself : client_put c (Some row) t ≡ t
  put_itself = λ i. record { clients = λ (other : ClientNo). one other i; numbers = t.numbers; links = t.links } where
    one : (other : ClientNo) → (if nat_eq c.0 other.0 then Some row else t.clients other) ≡ t.clients other
    one other = by (nat_eq c.0 other.0) refl where
      by : (b : Bool) → nat_eq c.0 other.0 ≡ b → (if b then Some row else t.clients other) ≡ t.clients other
      by true same = sym there ∙ ap t.clients (same_client c other (number_of c.0 other.0 same))
      by false apart = refl

  nothing_so : (service : Service) (log : Log) → MayFollow log (entry.WriteNothing link) → StandsBy service log t (shown old)
      → IsBehind service old.texts (worked service (work_of old)) log (entry.WriteNothing link) c row t roomy
  nothing_so service log may was = record {
    row_then = row;
    router = subst (λ (now : Tabled). IsRouter service texts (worked service (work_of old)) (with_entry log (entry.WriteNothing link)) now roomy) (sym put_itself)
        (laws.quiet service old.texts (worked service (work_of old)) log (entry.WriteNothing link) t roomy was.router may refl tt);
    over = is.over;
    link_is = refl;
    none = (refl, λ moment. refl);
  }

  -- Or a write fails: it leaves once more.

  abbrev stays : Seat → Seat
  stays seat = seat

  left_links : (parted_in row.desk.sessions t).links ≡ t.links
  left_links = λ i. λ (at : LinkId).
      (ap (λ kept. option_map (with_kept kept) (t.links at)) (keeps_none at row.desk.sessions is.homeless) ∙ with_none (t.links at)) i

  left_so : left_in c stays t ≡ client_put c (Some (left_row stays row)) t
  left_so =
      ap (λ (found : Option Client). option_map_or (λ (r : Client). client_put c (Some (left_row stays r)) (parted_in r.desk.sessions t)) found t) there
      ∙ (λ i. client_put c (Some (left_row stays row)) (record t { links = left_links i }))

  failed_so : (service : Service) (log : Log) → MayFollow log (entry.WriteFailed link) → StandsBy service log t (shown old)
      → IsBehind service old.texts (worked service (work_of old)) log (entry.WriteFailed link) c row t roomy
  failed_so service log may was = record {
    row_then = left_row stays row;
    router = subst (λ (now : Tabled). IsRouter service texts (worked service (work_of old)) (with_entry log (entry.WriteFailed link)) now roomy) left_so
        (laws.again service old.texts (worked service (work_of old)) log (entry.WriteFailed link) t (left_in c stays t) roomy link c was.router may (inr (inr refl))
        (left_again link c t (left_in c stays t) numbered (record { row = row; there = there; is = is.over }) is.lives
        (same_by (left_in c stays t) (left_in c stays t) refl)));
    over = is.over;
    link_is = refl;
    none = (refl, λ moment. refl);
  }

  -- Whatever the farewell's write answers.

  abbrev Offers : Entry → Type 0
  Offers e = (service : Service) (log : Log) → MayFollow log e → StandsBy service log t (shown old) → IsBehind service old.texts (worked service (work_of old)) log e c row t roomy

  offers_by : (e : Entry) → IsFarewell (sends_on old.marked link) link e → Offers e
  offers_by (entry.Wrote to tag bytes) told = subst (λ (l : LinkId). Offers (entry.Wrote l tag bytes)) (sym told.0) (wrote_so tag bytes told.1)
  offers_by (entry.WriteNothing to) told = subst (λ (l : LinkId). Offers (entry.WriteNothing l)) (sym told) nothing_so
  offers_by (entry.WriteFailed to) told = subst (λ (l : LinkId). Offers (entry.WriteFailed l)) (sym told) failed_so
  offers_by _ told = absurd told

  pub client_closes : ActsSo old new (Some (act.Close link))
  client_closes = record {
    opened = λ service log was.
        (stands_parted service log (shown old) closed was).router.open_just link
        ∙ ap (λ (n : Option ClientNo). is_some (t.links link) || is_some n) numbered ∙ or_some (is_some (t.links link));
    plain = λ none service log may was. plain service log may (stands_parted service log (shown old) closed was);
    offered = λ some service log e marks farewell are may then_may was.
        let stood : StandsBy service log t (shown old) = stands_parted service log (shown old) closed was in
        ends service log e marks (offers_by e farewell service log may stood) stood are then_may;
  }

pub numbered_as : (t : Tabled) (link : LinkId) (on c : ClientNo) → Some on ≡ t.numbers link → on.0 ≡ c.0 → t.numbers link ≡ Some c
numbered_as t link on c found is = sym found ∙ ap (λ (n : ClientNo). Some n) (same_client on c is)
