-- As a question goes out by which a link is lent, its session has the link as its home.
use Rattle.std.specs.Prelude.{◌≡◌, ◌⊎◌, ℕ, Bool, true, false, ◌&&◌, nat_eq, if◌then◌else◌, Option, Some, None}
use Rattle.std.proofs.Common.{refl, sym, ap, ◌∙◌, subst, inl, inr}
use Rattle.std.proofs.lemmas.Bool.{true≢false}
use Rattle.std.proofs.lemmas.Option.{none-some, same_Some}
use Rattle.private_model.proofs.Maps.{client_of, hostgroup_of, link_of, same_link, same_name}
use Rattle.private_model.specs.Names.{ClientNo, Hostgroup, LinkId, SessionName}
use Rattle.private_model.specs.Story.{Question, Sent, is_client, is_hostgroup, is_link_id, is_name, put}
use Rattle.private_model.specs.View.{Held, Setup, View, held_for, view_step}
use Rattle.link_state.specs.Asks.{lends_by}
use Rattle.link_state.specs.declared.state.Carried.{Carried}
use Rattle.link_state.specs.declared.state.Carried.TheVariants.{Nobody, Lent, Joined}
use Rattle.client_desk.specs.Desks.{name_of, session_of}
use Rattle.client_desk.specs.declared.desk.Desk.{Desk}
use Rattle.desk_laws.specs.Stands.{IsDesk, name_at}
use Rattle.row_laws.specs.Whose.{name_in}
use Rattle.core_tables.specs.Tables.{Tabled}
use Rattle.core_tables.specs.declared.client.Client.{Client}
use Rattle.core_tables.specs.declared.server.Server.{Server}
use Rattle.core_stands.specs.Grounds.{Ground}
use Rattle.core_stands.specs.Stands.{AreHomes, IsHome}

put_here : {K A : Type 0} (is : K → K → Bool) (f : K → A) (k : K) (x : A) (j : K) → is j k ≡ true → put is f k x j ≡ x
put_here is f k x j here = ap (λ (b : Bool). if b then x else f j) here

put_apart : {K A : Type 0} (is : K → K → Bool) (f : K → A) (k : K) (x : A) (j : K) → is j k ≡ false → put is f k x j ≡ f j
put_apart is f k x j apart = ap (λ (b : Bool). if b then x else f j) apart

-- The sessions of the desk, as a question goes out by which the link is lent.

pub record SentDesk (desk after : Desk) (h : Hostgroup) (l : LinkId) : Type 0 where
  pub here : (session_of after h).home ≡ Some l
  pub life : (k : Hostgroup) → (session_of after k).life ≡ (session_of desk k).life
  pub other : (k : Hostgroup) → is_hostgroup k h ≡ false → (session_of after k).home ≡ (session_of desk k).home

middle_false : (a b c : Bool) → b ≡ false → (a && (b && c)) ≡ false
middle_false true b c is = ap (λ (x : Bool). x && c) is
middle_false false b c is = refl

module _ (setup : Setup) (view : View) (c : ClientNo) (desk after : Desk) (l : LinkId) (n : SessionName) (question : Question)
    (holds : held_for question l view.held ≡ put is_name view.held n (record (view.held n) { home = Some l }))
    (is : IsDesk setup.reads view c desk) (now : IsDesk setup.reads (view_step setup view (Sent l question)) c after)
    (names : n ≡ name_of desk n.hostgroup) where
  life_same : (k : Hostgroup) → (session_of after k).life ≡ (session_of desk k).life
  life_same k = sym (now.sessions.each k).life ∙ (is.sessions.each k).life

  name_now : name_at c n.hostgroup (session_of after n.hostgroup).life ≡ n
  name_now = (λ i. record { client = sym is.number i; hostgroup = n.hostgroup; life = life_same n.hostgroup i }) ∙ sym names

  pub sent_desk : SentDesk desk after n.hostgroup l
  sent_desk = record {
    here = ap (λ (h : Held). h.home) (sym (now.sessions.each n.hostgroup).held)
        ∙ ap (λ (m : SessionName). (held_for question l view.held m).home) name_now ∙ ap (λ (f : SessionName → Held). (f n).home) holds
        ∙ ap (λ (h : Held). h.home) (put_here is_name view.held n (record (view.held n) { home = Some l }) n (same_name n));
    life = life_same;
    other = λ k apart.
        ap (λ (h : Held). h.home) (sym (now.sessions.each k).held)
        ∙ ap (λ (f : SessionName → Held). (f (name_at c k (session_of after k).life)).home) holds
        ∙ ap (λ (h : Held). h.home) (put_apart is_name view.held n (record (view.held n) { home = Some l }) (name_at c k (session_of after k).life)
        (middle_false (is_client c n.client) (is_hostgroup k n.hostgroup) (nat_eq (session_of after k).life n.life) apart))
        ∙ ap (λ (life : ℕ). (view.held (name_at c k life)).home) (life_same k)
        ∙ ap (λ (h : Held). h.home) (is.sessions.each k).held;
  }

-- A link that carries a session carries it still.
lends_keeps : (name m : SessionName) (c : Carried) → name_in c ≡ Some m → name_in (lends_by name c) ≡ Some m
lends_keeps name m Nobody is = absurd (none-some m is)
lends_keeps name m (Lent k) is = is
lends_keeps name m (Joined k) is = is

-- Homes: the session has the link as its home, which carries it.

module _ (t now : Tabled) (l : LinkId) (n : SessionName) (row row_now : Client) (there : t.clients n.client ≡ Some row) (now_there : now.clients n.client ≡ Some row_now)
    (now_apart : (c : ClientNo) → nat_eq n.client.0 c.0 ≡ false → now.clients c ≡ t.clients c) (names : n ≡ name_of row.desk n.hostgroup)
    (g after : Ground) (server server_now : Server) (homes : SentDesk row.desk row_now.desk n.hostgroup l)
    (link_there : t.links l ≡ Some server) (link_now : now.links l ≡ Some server_now) (links : (k : LinkId) → is_link_id k l ≡ false → now.links k ≡ t.links k)
    (carries : name_in server_now.row.link.state.carries ≡ name_in (lends_by n server.row.link.state.carries))
    (lends : name_in (lends_by n server.row.link.state.carries) ≡ Some n) (left_now : server_now.row.left ≡ server.row.left)
    (lost_now : server_now.row.lost ≡ server.row.lost) (left : server.row.left ≡ None) (lost : server.row.lost ≡ false)
    (home : ((session_of row.desk n.hostgroup).home ≡ None) ⊎ (name_in server.row.link.state.carries ≡ Some n)) (are : AreHomes g t) where
  moved : (k : LinkId) (m : SessionName) (was : Server) → IsHome t k m was → (here : Bool) → is_link_id k l ≡ here → (s : Server) × IsHome now k m s
  moved k m was is true e =
      let at : k ≡ l = link_of k l e in
      let same : server ≡ was = same_Some server was (sym link_there ∙ ap t.links (sym at) ∙ is.there) in
      let carried : name_in server.row.link.state.carries ≡ Some m = ap (λ (s : Server). name_in s.row.link.state.carries) same ∙ is.carries in (
        server_now,
        record {
          there = ap now.links at ∙ link_now;
          carries = carries ∙ lends_keeps n m server.row.link.state.carries carried;
          present = left_now ∙ left;
          whole = lost_now ∙ lost;
        },
      )
  moved k m was is false e = (was, record { there = links k e ∙ is.there; carries = is.carries; present = is.present; whole = is.whole })

  carried_row : (h : Hostgroup) (k : LinkId) → (session_of row_now.desk h).home ≡ Some k → (same : Bool) → is_hostgroup h n.hostgroup ≡ same
      → (s : Server) × IsHome now k (record { client = n.client; hostgroup = h; life = (session_of row_now.desk h).life }) s
  carried_row h k at true e =
      let here : h ≡ n.hostgroup = hostgroup_of h n.hostgroup e in
      let link : l ≡ k = same_Some l k (sym homes.here ∙ ap (λ (x : Hostgroup). (session_of row_now.desk x).home) (sym here) ∙ at) in
      let name : n ≡ record { client = n.client; hostgroup = h; life = (session_of row_now.desk h).life } =
      λ i. record {
        client = n.client;
        hostgroup = sym here i;
        life = (ap (λ (m : SessionName). m.life) names ∙ sym (homes.life n.hostgroup) ∙ ap (λ (x : Hostgroup). (session_of row_now.desk x).life) (sym here)) i;
      } in (
        server_now,
        record {
          there = ap now.links (sym link) ∙ link_now;
          carries = carries ∙ lends ∙ ap (λ (m : SessionName). Some m) name;
          present = left_now ∙ left;
          whole = lost_now ∙ lost;
        },
      )
  carried_row h k at false e =
      let was = are.carried n.client row h k there (sym (homes.other h e) ∙ at) in
      let life : record { client = n.client; hostgroup = h; life = (session_of row.desk h).life } ≡ record { client = n.client; hostgroup = h; life = (session_of row_now.desk h).life } =
      λ i. record { client = n.client; hostgroup = h; life = sym (homes.life h) i } in
      let is : IsHome t k (record { client = n.client; hostgroup = h; life = (session_of row_now.desk h).life }) was.0 =
      subst (λ (m : SessionName). IsHome t k m was.0) life was.1 in
      moved k (record { client = n.client; hostgroup = h; life = (session_of row_now.desk h).life }) was.0 is (is_link_id k l) refl

  carried_by : (c : ClientNo) (r : Client) (h : Hostgroup) (k : LinkId) → now.clients c ≡ Some r → (session_of r.desk h).home ≡ Some k
      → (same : Bool) → nat_eq n.client.0 c.0 ≡ same
      → (s : Server) × IsHome now k (record { client = c; hostgroup = h; life = (session_of r.desk h).life }) s
  carried_by c r h k at has true e =
      let here : n.client ≡ c = client_of n.client c e in
      let same : row_now ≡ r = same_Some row_now r (sym now_there ∙ ap now.clients here ∙ at) in
      let made_home = carried_row h k (ap (λ (x : Client). (session_of x.desk h).home) same ∙ has) (is_hostgroup h n.hostgroup) refl in (
        made_home.0,
        subst (λ (m : SessionName). IsHome now k m made_home.0)
            (λ i. record { client = here i; hostgroup = h; life = (session_of (same i).desk h).life }) made_home.1,
      )
  carried_by c r h k at has false e =
      let was = are.carried c r h k (sym (now_apart c e) ∙ at) has in
      moved k (record { client = c; hostgroup = h; life = (session_of r.desk h).life }) was.0 was.1 (is_link_id k l) refl

  abbrev HasHome : LinkId → SessionName → Type 0
  HasHome k m = (r : Client) × (now.clients m.client ≡ Some r) × ((session_of r.desk m.hostgroup).home ≡ Some k) × ((session_of r.desk m.hostgroup).life ≡ m.life)

  home_here : HasHome l n
  home_here =
      (row_now, now_there, homes.here, homes.life n.hostgroup ∙ ap (λ (m : SessionName). m.life) (sym names))

  not_there : (k : LinkId) → is_link_id k l ≡ false → (session_of row.desk n.hostgroup).home ≡ Some k
      → ((session_of row.desk n.hostgroup).home ≡ None) ⊎ (name_in server.row.link.state.carries ≡ Some n) → ⊥
  not_there k apart has (inl none) = none-some k (sym none ∙ has)
  not_there k apart has (inr carried) =
      let was = are.home l server n link_there carried left lost in
      let same : row ≡ was.0 = same_Some row was.0 (sym there ∙ was.1) in
      let link : l ≡ k = same_Some l k (sym was.2 ∙ ap (λ (r : Client). (session_of r.desk n.hostgroup).home) (sym same) ∙ has) in
      true≢false (sym (same_link k) ∙ ap (λ (x : LinkId). is_link_id k x) (sym link) ∙ apart)

  home_row : (k : LinkId) (m : SessionName) → is_link_id k l ≡ false → n.client ≡ m.client → (session_of row.desk m.hostgroup).home ≡ Some k
      → (session_of row.desk m.hostgroup).life ≡ m.life → (same : Bool) → is_hostgroup m.hostgroup n.hostgroup ≡ same → HasHome k m
  home_row k m apart here has life false e =
      (row_now, ap now.clients (sym here) ∙ now_there, homes.other m.hostgroup e ∙ has, homes.life m.hostgroup ∙ life)
  home_row k m apart here has life true e =
      absurd (not_there k apart (ap (λ (h : Hostgroup). (session_of row.desk h).home) (sym (hostgroup_of m.hostgroup n.hostgroup e)) ∙ has) home)

  home_by : (k : LinkId) (m : SessionName) (s : Server) → is_link_id k l ≡ false → t.links k ≡ Some s → name_in s.row.link.state.carries ≡ Some m
      → s.row.left ≡ None → s.row.lost ≡ false → (same : Bool) → nat_eq n.client.0 m.client.0 ≡ same → HasHome k m
  home_by k m s apart at carried mine kept false e =
      let was = are.home k s m at carried mine kept in
      (was.0, now_apart m.client e ∙ was.1, was.2, was.3)
  home_by k m s apart at carried mine kept true e =
      let was = are.home k s m at carried mine kept in
      let here : n.client ≡ m.client = client_of n.client m.client e in
      let same : row ≡ was.0 = same_Some row was.0 (sym there ∙ ap t.clients here ∙ was.1) in
      home_row k m apart here (ap (λ (r : Client). (session_of r.desk m.hostgroup).home) same ∙ was.2)
      (ap (λ (r : Client). (session_of r.desk m.hostgroup).life) same ∙ was.3) (is_hostgroup m.hostgroup n.hostgroup) refl

  home_at : (k : LinkId) (s : Server) (m : SessionName) → now.links k ≡ Some s → name_in s.row.link.state.carries ≡ Some m
      → s.row.left ≡ None → s.row.lost ≡ false → (here : Bool) → is_link_id k l ≡ here → HasHome k m
  home_at k s m at carried mine kept true e =
      let link : k ≡ l = link_of k l e in
      let same : server_now ≡ s = same_Some server_now s (sym link_now ∙ ap now.links (sym link) ∙ at) in
      let name : n ≡ m = same_Some n m (sym lends ∙ sym carries ∙ ap (λ (x : Server). name_in x.row.link.state.carries) same ∙ carried) in
      subst (λ (x : SessionName). HasHome k x) name (subst (λ (x : LinkId). HasHome x n) (sym link) home_here)
  home_at k s m at carried mine kept false e =
      home_by k m s e (sym (links k e) ∙ at) carried mine kept (nat_eq n.client.0 m.client.0) refl

  pub homes_moved : AreHomes after now
  homes_moved = record {
    carried = λ c r h k at has. carried_by c r h k at has (nat_eq n.client.0 c.0) refl;
    home = λ k s m at carried mine kept. home_at k s m at carried mine kept (is_link_id k l) refl;
  }
