-- Links with which a change of the tables has nothing to do: no more is read or written there.
use Rattle.std.specs.Prelude.{◌≡◌, ℕ, true, false, nat_eq, List, [], ◌∷◌, Option, Some, None}
use Rattle.std.specs.Option.{option_map, option_map_or}
use Rattle.std.proofs.Common.{refl, sym, inl, inr, rules, subst}
use Rattle.std.proofs.lemmas.Bool.{cases_Bool}
use Rattle.mx_base.specs.declared.names.ClientNo.{ClientNo}
use Rattle.mx_base.specs.declared.names.Hostgroup.{Hostgroup}
use Rattle.mx_base.specs.declared.names.LinkId.{LinkId}
use Rattle.private_model.proofs.Maps.{client_of}
use Rattle.session_state.specs.declared.names.SessionName.{SessionName}
use Rattle.client_seat.specs.declared.seat.Seat.{Seat}
use Rattle.client_desk.specs.declared.session.Session.{Session}
use Rattle.served_link.specs.declared.row.LeftSession.{LeftSession}
use Rattle.core_tables.specs.Arrivals.{came, forgotten, newcomer, without}
use Rattle.core_tables.specs.Parting.{changed_at, kept_at, kept_by, left_in, left_row, parted_in, with_kept}
use Rattle.core_tables.specs.Tables.{Tabled, client_changed, client_put, link_changed, number_put}
use Rattle.core_tables.specs.declared.client.Client.{Client}
use Rattle.core_tables.specs.declared.client.ClientNote.{ClientNote}
use Rattle.core_tables.specs.declared.server.Server.{Server}
use Rattle.core_says.specs.Marking.{AreAway, IsClear, IsClearOf}
use Rattle.core_says.specs.Says.{IsQuieter, is_at}
use Rattle.core_says.proofs.Concerning.{client_quieter, number_quieter, quieter_on, same_quieter, server_quieter}
use Rattle.core_says.proofs.Links.{clear_none}
use Rattle.marked_tables.specs.Marking.{IsClearAt, IsClearFor, IsOther}
use Rattle.marked_tables.proofs.Clearing.{Spares, left_spares}

pub still_quiet : (t : Tabled) (link : LinkId) → IsQuieter t t link
still_quiet t link = record { read = λ is. is; written = λ is. is }

pub put_quiet : (t : Tabled) (c : ClientNo) (row : Option Client) (link : LinkId) → IsClearAt t c link → IsClearOf link row
    → IsQuieter t (client_put c row t) link
put_quiet t c row link was becomes =
    client_quieter t c row link (record { was = clear_none (t.clients c) link was; becomes = clear_none row link becomes })

pub spared : (link : LinkId) (by : Client → Client) (row : Option Client) → Spares link by → IsClearOf link row → IsClearOf link (option_map by row)
spared link by None spares clear = tt
spared link by (Some row) spares clear = spares row clear

-- A client's row changes, or that of another link.

pub client_quiet : (t : Tabled) (c : ClientNo) (by : Client → Client) (link : LinkId) → Spares link by → IsClearAt t c link
    → IsQuieter t (client_changed c by t) link
client_quiet t c by link spares clear = put_quiet t c (option_map by (t.clients c)) link clear (spared link by (t.clients c) spares clear)

pub link_quiet : (t : Tabled) (l : LinkId) (by : Server → Server) (link : LinkId) → IsOther l link → IsQuieter t (link_changed l by t) link
link_quiet t l by link other = server_quieter t l (option_map by (t.links l)) link other

-- both
pub both_quiet : (a b c : Tabled) (link : LinkId) → IsQuieter a b link → IsQuieter b c link → IsQuieter a c link
both_quiet a b c link first next = quieter_on a b c link first next

-- The row changes of the client whose session that is.

one_quiet : (t : Tabled) (by : Hostgroup → Client → Client) (n : SessionName) (link : LinkId) → ((h : Hostgroup) → Spares link (by h))
    → IsClearAt t n.client link → IsQuieter t (changed_at by (Some n) t) link
one_quiet t by n link spares clear =
    quieter_on t (client_changed n.client (by n.hostgroup) t) (changed_at by (Some n) t) link
    (client_quiet t n.client (by n.hostgroup) link (spares n.hostgroup) clear)
    (same_quieter (client_changed n.client (by n.hostgroup) t) (changed_at by (Some n) t) link
    (λ c. elim (cases_Bool (nat_eq n.client.0 c.0)) [
      | inl on ↦ let one : n.client ≡ c = client_of n.client c on in rw (on, one) refl
      | inr off ↦ rw off refl
    ]) refl refl)

pub named_quiet : (t : Tabled) (by : Hostgroup → Client → Client) (name : Option SessionName) (link : LinkId) → ((h : Hostgroup) → Spares link (by h))
    → IsClearFor t (option_map (λ (n : SessionName). n.client) name) link → IsQuieter t (changed_at by name t) link
named_quiet t by None link spares clear = same_quieter t (changed_at by None t) link (λ c. refl) refl refl
named_quiet t by (Some n) link spares clear = one_quiet t by n link spares clear

-- A client leaves its sessions: links that carry none of them keep nothing of them.

not_kept : (at : LinkId) (home : Option LinkId) (s : Session) → is_at at home ≡ false → kept_by at home s ≡ None
not_kept at None s off = refl
not_kept at (Some l) s off = rw off refl

none_kept : (at : LinkId) (rows : List Session) → AreAway at rows → kept_at at rows ≡ None
none_kept at [] away = refl
none_kept at (s ∷ rows) away = rw (none_kept at rows away.1, not_kept at s.home s away.0) refl

unkept : (server : Option Server) (kept : Option LeftSession) → kept ≡ None → option_map (with_kept kept) server ≡ server
unkept None kept none = refl
unkept (Some server) kept none = rw none refl

parted_quiet : (t : Tabled) (sessions : List Session) (link : LinkId) → AreAway link sessions → IsQuieter t (parted_in sessions t) link
parted_quiet t sessions link away =
    same_quieter t (parted_in sessions t) link (λ c. refl) refl (unkept (t.links link) (kept_at link sessions) (none_kept link sessions away))

left_by : (t : Tabled) (c : ClientNo) (by : Seat → Seat) (link : LinkId) → ((seat : Seat) → (by seat).link ≡ seat.link) → (row : Option Client)
    → t.clients c ≡ row → IsClearOf link row
    → IsQuieter t (option_map_or (λ (client : Client). client_put c (Some (left_row by client)) (parted_in client.desk.sessions t)) row t) link
left_by t c by link same None is clear = still_quiet t link
left_by t c by link same (Some row) is clear =
    let parted : Tabled = parted_in row.desk.sessions t in
    quieter_on t parted (client_put c (Some (left_row by row)) parted) link (parted_quiet t row.desk.sessions link clear.away)
    (put_quiet parted c (Some (left_row by row)) link (subst (λ (r : Option Client). IsClearOf link r) (sym is) clear)
    (left_spares by same link row clear))

pub left_quiet : (t : Tabled) (c : ClientNo) (by : Seat → Seat) (link : LinkId) → ((seat : Seat) → (by seat).link ≡ seat.link) → IsClearAt t c link
    → IsQuieter t (left_in c by t) link
left_quiet t c by link same clear = left_by t c by link same (t.clients c) refl clear

-- and its row behind that has to do with no more

itself : (n : ℕ) → nat_eq n n ≡ true
itself n = search rules

left_clear_by : (t : Tabled) (c : ClientNo) (by : Seat → Seat) (link : LinkId) → ((seat : Seat) → (by seat).link ≡ seat.link) → (row : Option Client)
    → t.clients c ≡ row → IsClearOf link row
    → IsClearOf link ((option_map_or (λ (client : Client). client_put c (Some (left_row by client)) (parted_in client.desk.sessions t)) row t).clients c)
left_clear_by t c by link same None is clear = subst (λ (r : Option Client). IsClearOf link r) (sym is) tt
left_clear_by t c by link same (Some row) is clear = rw (itself c.0) (left_spares by same link row clear)

pub left_clear : (t : Tabled) (c : ClientNo) (by : Seat → Seat) (link : LinkId) → ((seat : Seat) → (by seat).link ≡ seat.link) → IsClearAt t c link
    → IsClearAt (left_in c by t) c link
left_clear t c by link same clear = left_clear_by t c by link same (t.clients c) refl clear

-- A client comes, and is forgotten.

newcomer_clear : (seat : Seat) (note : ClientNote) (link : LinkId) → IsOther seat.link link → is_at link note.readied ≡ false
    → IsClear link (newcomer seat note)
newcomer_clear seat note link other readied = record { own = other; readied = readied; away = tt }

pub came_quiet : (t : Tabled) (c : ClientNo) (l : LinkId) (seat : Seat) (note : ClientNote) (link : LinkId) → IsOther l link → IsOther seat.link link
    → is_at link note.readied ≡ false → IsClearAt t c link → IsQuieter t (came c l seat note t) link
came_quiet t c l seat note link other own readied clear =
    let put : Tabled = client_put c (Some (newcomer seat note)) t in
    quieter_on t put (number_put l (Some c) put) link
    (put_quiet t c (Some (newcomer seat note)) link clear (newcomer_clear seat note link own readied))
    (number_quieter put l (Some c) link other)

without_quiet : (t : Tabled) (c : ClientNo) (row : Option Client) (link : LinkId) → t.clients c ≡ row → IsClearOf link row
    → IsQuieter t (without c row t) link
without_quiet t c None link is clear = still_quiet t link
without_quiet t c (Some row) link is clear =
    let put : Tabled = client_put c None t in
    quieter_on t put (number_put row.desk.seat.link None put) link
    (put_quiet t c None link (subst (λ (r : Option Client). IsClearOf link r) (sym is) clear) tt)
    (number_quieter put row.desk.seat.link None link clear.own)

pub forgotten_quiet : (t : Tabled) (c : ClientNo) (link : LinkId) → IsClearAt t c link → IsQuieter t (forgotten c t) link
forgotten_quiet t c link clear = without_quiet t c (t.clients c) link refl clear
