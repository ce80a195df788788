-- Marks of the links that a client's row has to do with.
use Rattle.std.specs.Prelude.{◌≡◌, true, false, List, [], ◌∷◌, Option, Some, None}
use Rattle.mx_base.specs.declared.names.LinkId.{LinkId}
use Rattle.link_marks.specs.Marks.{Marked, is_known, is_marked}
use Rattle.client_desk.specs.declared.session.Session.{Session}
use Rattle.core_tables.specs.declared.client.Client.{Client}
use Rattle.core_says.specs.Says.{is_at, is_own}

-- marks are only added, and no link comes or goes
pub record IsMore (old new : Marked) : Type 0 where
  pub known : (link : LinkId) → is_known new link ≡ is_known old link
  pub kept : (link : LinkId) → is_marked new link ≡ false → is_marked old link ≡ false

-- a link that is open, and isn't marked behind that, is another than this
pub record IsMarkedAt (at : Option LinkId) (old new : Marked) : Type 0 where
  pub more : IsMore old new
  pub away : (link : LinkId) → is_known old link ≡ true → is_marked new link ≡ false → is_at link at ≡ false

-- it carries none of these sessions

abbrev pub AreAway : LinkId → List Session → Type 0
AreAway link [] = Unit {0}
AreAway link (s ∷ sessions) = (is_at link s.home ≡ false) × AreAway link sessions

pub record AreMarked (left all : List Session) (old new : Marked) : Type 0 where
  pub more : IsMore old new
  pub away : (link : LinkId) → is_known old link ≡ true → is_marked new link ≡ false → AreAway link left → AreAway link all

-- a client's row has nothing to do with it: it is neither the client's own, nor readied for the client, nor does it carry a session of it
pub record IsClear (link : LinkId) (row : Client) : Type 0 where
  pub own : is_own link row ≡ false
  pub readied : is_at link row.note.readied ≡ false
  pub away : AreAway link row.desk.sessions

abbrev pub IsClearOf : LinkId → Option Client → Type 0
IsClearOf link None = Unit {0}
IsClearOf link (Some row) = IsClear link row

pub record IsMarkedFor (row : Client) (old new : Marked) : Type 0 where
  pub more : IsMore old new
  pub clear : (link : LinkId) → is_known old link ≡ true → is_marked new link ≡ false → IsClear link row
