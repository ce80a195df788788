-- What is read and written on links that a change of one row doesn't concern.
use Rattle.std.specs.Prelude.{◌≡◌, ◌⊎◌, Bool, true, false, not, ◌&&◌, ◌||◌, nat_eq, if◌then◌else◌, IsSome, Option, Some, None}
use Rattle.std.specs.Option.{option_map_or}
use Rattle.std.proofs.Common.{◌∙◌, refl, sym, ap, subst, inl, inr}
use Rattle.std.proofs.lemmas.Bool.{cases_Bool}
use Rattle.mx_base.specs.{Sent.Sent, declared.names.ClientNo.ClientNo, declared.names.LinkId.LinkId}
use Rattle.session_state.specs.declared.names.SessionName.{SessionName}
use Rattle.private_model.proofs.Maps.{client_of}
use Rattle.link_state.specs.declared.asking.Form.{Form}
use Rattle.link_state.specs.declared.asking.Purpose.{Purpose}
use Rattle.link_state.specs.declared.asking.Purpose.TheVariants as purposes
use Rattle.lent_link.specs.Links.{left_in}
use Rattle.lent_link.specs.declared.link.Begins.{Begins}
use Rattle.lent_link.specs.declared.link.Begins.TheVariants as begins
use Rattle.client_seat.specs.Seats.{has_room}
use Rattle.served_link.specs.declared.row.Row.{Row}
use Rattle.core_tables.specs.Parting.{name_in}
use Rattle.core_tables.specs.Passing as passing
use Rattle.core_tables.specs.Passing.{passes_for, passes_next}
use Rattle.core_tables.specs.Tables.{Tabled, client_put, link_put, number_put}
use Rattle.core_tables.specs.declared.client.Client.{Client}
use Rattle.core_tables.specs.declared.server.Server.{Server}
use Rattle.core_says.specs.Says.{IsApart, IsNoneOf, IsQuieter, asks_for, begins_for, is_at, is_free, is_free_for, is_clients, is_home, is_named, is_named_for, is_own_of, is_sound, names}
use Rattle.core_says.specs.Says.{reads_by, reads_client, reads_in, reads_row, sends_by, sends_in}

or_true : (a : Bool) → (a || true) ≡ true
or_true true = refl
or_true false = refl

or_right : (a b : Bool) → (a || b) ≡ false → b ≡ false
or_right true b none = cc
or_right false b none = none

and_same : (a b c : Bool) → (b ≡ true → c ≡ true) → (a && b) ≡ true → (a && c) ≡ true
and_same true b c more is = more is
and_same false b c more is = is

and_none : (a b : Bool) → b ≡ false → (a && b) ≡ false
and_none true b none = none
and_none false b none = refl

-- The same of a link by tables of which what it goes by is the same.

passes_same : (p : Purpose) (row : Row) (form : Form) (old new : Tabled)
    → ((n : SessionName) → asks_for p ≡ Some n → new.clients n.client ≡ old.clients n.client)
    → passes_for p row form new ≡ passes_for p row form old
passes_same (purposes.Statement n ordinal key) row form old new same = rw (same n refl) refl
passes_same (purposes.Prep n ordinal key) row form old new same = rw (same n refl) refl
passes_same (purposes.Sync n) row form old new same = rw (same n refl) refl
passes_same purposes.Own row form old new same = refl
passes_same (purposes.End n) row form old new same = refl
passes_same (purposes.Capture n) row form old new same = rw (same n refl) refl

next_same : (next : Option Begins) (row : Row) (old new : Tabled)
    → ((n : SessionName) → begins_for next ≡ Some n → new.clients n.client ≡ old.clients n.client)
    → passes_next next row new ≡ passes_next next row old
next_same None row old new same = refl
next_same (Some begins.Quits) row old new same = refl
next_same (Some (begins.Asks asking)) row old new same =
    ap (λ (b : Bool). passing.is_ready row && b) (passes_same asking.purpose row asking.form old new same)
next_same (Some (begins.Closes number)) row old new same = refl
next_same (Some (begins.Resets number)) row old new same = refl

named_same : (asked : Option SessionName) (old new : Tabled) (link : LinkId)
    → ((n : SessionName) → asked ≡ Some n → new.clients n.client ≡ old.clients n.client)
    → is_named new link asked ≡ is_named old link asked
named_same None old new link same = refl
named_same (Some n) old new link same = ap (is_named_for link n) (same n refl)

none_some : {A R : Type 0} → (b : Bool) (x : Option A) → b ≡ false → IsSome (if b then x else None) → R
none_some true x off is = absurd (let e = off in cc)
none_some false x off is = absurd (let e = is in cc)

-- what is written there, by what stands there
abbrev said_on : Server → Tabled → LinkId → Option Sent
said_on server t link =
    if is_sound server.row && is_named t link (begins_for server.row.link.next) then
    (if passes_next server.row.link.next server.row t then left_in server.row.link else None) else None

said_is : (t : Tabled) (link : LinkId) (server : Server) → t.links link ≡ Some server → sends_in t link ≡ said_on server t link
said_is t link server is =
    ap (λ (o : Option Server). sends_by o t link) is
    ∙ ap (λ (x : Option Sent). if is_sound server.row && is_named t link (begins_for server.row.link.next) then x else None)
    (ap (λ (o : Option Server). passing.sends_by o link t) is
    ∙ ap (λ (b : Bool). if b then left_in server.row.link else None)
    (ap (λ (o : Option Server). option_map_or (λ (s : Server). passes_next s.row.link.next s.row t) o false) is))

-- and by whose link it is

abbrev due_to : Client → Option Sent
due_to row = passing.as_reply row.desk.seat.outbox.due

abbrev said_to : Tabled → LinkId → Option ClientNo → Option Sent
said_to t link owner = if is_clients t link owner then option_map_or (λ (c : ClientNo). option_map_or due_to (t.clients c) None) owner None else None

said_client : (t : Tabled) (link : LinkId) → t.links link ≡ None → sends_in t link ≡ said_to t link (t.numbers link)
said_client t link none =
    ap (λ (o : Option Server). sends_by o t link) none
    ∙ ap (λ (x : Option Sent). if is_clients t link (t.numbers link) then x else None) (ap (λ (o : Option Server). passing.sends_by o link t) none)

module _ (t : Tabled) (c : ClientNo) (row : Option Client) (link : LinkId) (apart : IsApart t c row link) where
  abbrev after : Tabled
  after = client_put c row t

  other_stays : (n : ClientNo) → nat_eq c.0 n.0 ≡ false → after.clients n ≡ t.clients n
  other_stays n off = rw off refl

  itself_is : (n : ClientNo) → nat_eq c.0 n.0 ≡ true → after.clients n ≡ row
  itself_is n on = rw on refl

  free_unnamed : (n : SessionName) (r : Option Client) → IsNoneOf link r → is_free_for link n r ≡ true
  free_unnamed n None none = refl
  free_unnamed n (Some r) none =
      let off : is_home link n.hostgroup r ≡ false = or_right (is_at link r.note.readied) _ (none.unnamed n.hostgroup) in
      rw off (or_true (has_room r.desk.seat))

  was_free : (carried : Option SessionName) → is_free after link carried ≡ true → is_free t link carried ≡ true
  was_free None is = refl
  was_free (Some n) is = elim (cases_Bool (nat_eq c.0 n.client.0)) [
    | inl on ↦ free_unnamed n (t.clients n.client) (subst (λ (k : ClientNo). IsNoneOf link (t.clients k)) (client_of c n.client on) apart.was)
    | inr off ↦ sym (ap (is_free_for link n) (other_stays n.client off)) ∙ is
  ]

  unread : (r : Option Client) → is_own_of link r ≡ false → option_map_or (reads_row link) r false ≡ false
  unread None off = refl
  unread (Some r) off = rw off refl

  read_of : (owner : Option ClientNo) → reads_client after link owner ≡ true → reads_client t link owner ≡ true
  read_of None is = is
  read_of (Some o) is = elim (cases_Bool (nat_eq c.0 o.0)) [
    | inl on ↦ absurd (let none : option_map_or (reads_row link) (after.clients o) false ≡ false = unread (after.clients o) (ap (is_own_of link) (itself_is o on) ∙ apart.becomes.own) in cc)
    | inr off ↦ ap (λ (r : Option Client). option_map_or (reads_row link) r false) (sym (other_stays o off)) ∙ is
  ]

  read_by : (server : Option Server) → reads_by server after link ≡ true → reads_by server t link ≡ true
  read_by None is = read_of (t.numbers link) is
  read_by (Some server) is = and_same _ _ _ (was_free (name_in server.row.link.state.carries)) is

  -- what begins there isn't named, or is by another client's row
  named_or : (asked : Option SessionName)
      → (is_named after link asked ≡ false) ⊎ ((n : SessionName) → asked ≡ Some n → after.clients n.client ≡ t.clients n.client)
  named_or None = inr (λ n e. absurd cc)
  named_or (Some m) = elim (cases_Bool (nat_eq c.0 m.client.0)) [
    | inl on ↦ inl (ap (is_named_for link m) (itself_is m.client on) ∙ apart.becomes.unnamed m.hostgroup)
    | inr off ↦ inr (λ n e. let one : m ≡ n = cc in subst (λ (k : SessionName). after.clients k.client ≡ t.clients k.client) one (other_stays m.client off))
  ]

  unnamed_says : (server : Server) → is_named after link (begins_for server.row.link.next) ≡ false → IsSome (said_on server after link) → IsSome (said_on server t link)
  unnamed_says server none is = none_some _ _ (and_none (is_sound server.row) _ none) is

  said_same : (server : Server) → ((n : SessionName) → begins_for server.row.link.next ≡ Some n → after.clients n.client ≡ t.clients n.client)
      → said_on server after link ≡ said_on server t link
  said_same server same = rw (
    named_same (begins_for server.row.link.next) t after link same,
    next_same server.row.link.next server.row t after same,
  ) refl

  said_before : (server : Server) → IsSome (said_on server after link) → IsSome (said_on server t link)
  said_before server is = elim (named_or (begins_for server.row.link.next)) [
    | inl none ↦ unnamed_says server none is
    | inr same ↦ subst (λ (o : Option Sent). IsSome o) (said_same server same) is
  ]

  unsaid : (o : ClientNo) → is_own_of link (after.clients o) ≡ false → IsSome (said_to after link (Some o)) → IsSome (said_to t link (Some o))
  unsaid o off is = none_some _ _ off is

  to_before : (owner : Option ClientNo) → IsSome (said_to after link owner) → IsSome (said_to t link owner)
  to_before None is = is
  to_before (Some o) is = elim (cases_Bool (nat_eq c.0 o.0)) [
    | inl on ↦ unsaid o (ap (is_own_of link) (itself_is o on) ∙ apart.becomes.own) is
    | inr off ↦ subst (λ (r : Option Client). IsSome (if is_own_of link r then option_map_or due_to r None else None)) (other_stays o off) is
  ]

  written_by : (server : Option Server) → t.links link ≡ server → IsSome (sends_in after link) → IsSome (sends_in t link)
  written_by None none is =
      subst (λ (o : Option Sent). IsSome o) (sym (said_client t link none))
      (to_before (t.numbers link) (subst (λ (o : Option Sent). IsSome o) (said_client after link none) is))
  written_by (Some server) there is =
      subst (λ (o : Option Sent). IsSome o) (sym (said_is t link server there)) (said_before server (subst (λ (o : Option Sent). IsSome o) (said_is after link server there) is))

  pub client_quieter : IsQuieter t after link
  client_quieter = record {
    read = λ is. read_by (t.links link) is;
    written = λ is. written_by (t.links link) refl is;
  }

-- A row of a link, or whose link it is.

module _ (old new : Tabled) (link : LinkId) (clients : (c : ClientNo) → new.clients c ≡ old.clients c) (numbers : new.numbers link ≡ old.numbers link)
    (links : new.links link ≡ old.links link) where
  free_same : (carried : Option SessionName) → is_free new link carried ≡ is_free old link carried
  free_same None = refl
  free_same (Some n) = ap (is_free_for link n) (clients n.client)

  client_same : (owner : Option ClientNo) → reads_client new link owner ≡ reads_client old link owner
  client_same None = refl
  client_same (Some c) = rw (clients c) refl

  read_same : (server : Option Server) → reads_by server new link ≡ reads_by server old link
  read_same None = rw numbers (client_same (old.numbers link))
  read_same (Some server) = ap (λ (b : Bool). is_sound server.row && b) (free_same (name_in server.row.link.state.carries))

  pub all_read : reads_in new link ≡ reads_in old link
  all_read = rw links (read_same (old.links link))

  to_same : (owner : Option ClientNo) → said_to new link owner ≡ said_to old link owner
  to_same None = refl
  to_same (Some c) = rw (clients c) refl

  written_same : (server : Option Server) → old.links link ≡ server → sends_in new link ≡ sends_in old link
  written_same None none =
      said_client new link (links ∙ none) ∙ ap (said_to new link) numbers ∙ to_same (old.numbers link) ∙ sym (said_client old link none)
  written_same (Some server) there =
      said_is new link server (links ∙ there)
      ∙ rw (
        named_same (begins_for server.row.link.next) old new link (λ n e. clients n.client),
        next_same server.row.link.next server.row old new (λ n e. clients n.client),
      ) refl
      ∙ sym (said_is old link server there)

  pub all_written : sends_in new link ≡ sends_in old link
  all_written = written_same (old.links link) refl

  pub same_quieter : IsQuieter old new link
  same_quieter = record {
    read = λ is. sym all_read ∙ is;
    written = λ is. subst (λ (o : Option Sent). IsSome o) all_written is;
  }

pub server_quieter : (t : Tabled) (l : LinkId) (row : Option Server) (link : LinkId) → nat_eq l.0 link.0 ≡ false → IsQuieter t (link_put l row t) link
server_quieter t l row link off = same_quieter t (link_put l row t) link (λ c. refl) refl (rw off refl)

pub number_quieter : (t : Tabled) (l : LinkId) (c : Option ClientNo) (link : LinkId) → nat_eq l.0 link.0 ≡ false → IsQuieter t (number_put l c t) link
number_quieter t l c link off = same_quieter t (number_put l c t) link (λ c. refl) (rw off refl) refl

pub quieter_on : (a b c : Tabled) (link : LinkId) → IsQuieter a b link → IsQuieter b c link → IsQuieter a c link
quieter_on a b c link first next = record {
  read = λ is. first.read (next.read is);
  written = λ is. first.written (next.written is);
}
