-- What tells whether a link is given back, at its client's desk and in its row.
use Rattle.std.specs.Prelude.{◌≡◌, Bool, true, false, not, ◌&&◌, ◌||◌, is_some, Option, Some, None}
use Rattle.std.proofs.Common.{refl, sym, ◌∙◌, ap}
use Rattle.mx_base.specs.declared.names.LinkId.{LinkId}
use Rattle.session_state.specs.Pins.{is_pinned, needs_reset}
use Rattle.session_state.specs.declared.names.SessionName.{SessionName}
use Rattle.link_state.specs.Dones.{is_done_by, is_quiet}
use Rattle.link_state.specs.declared.state.Carried.{Carried}
use Rattle.link_state.specs.declared.state.Carried.TheVariants.{Nobody, Lent, Joined}
use Rattle.link_state.specs.declared.asking.Purpose.{Purpose}
use Rattle.link_state.specs.declared.asking.Purpose.TheVariants as purposes
use Rattle.link_state.specs.declared.wish.Session as links
use Rattle.lent_link.specs.Links as lent
use Rattle.lent_link.specs.Rests.{is_resetting}
use Rattle.lent_link.specs.declared.link.LentLink.{LentLink}
use Rattle.served_link.specs.Wants.{session_in as desk_or_left}
use Rattle.served_link.specs.declared.row.LeftSession.{LeftSession}
use Rattle.core_tables.specs.Tables.{Tabled}
use Rattle.core_tables.specs.Writing.{begun_for}

pub record Alike (a b : links.Session) : Type 0 where
  pub present : a.present ≡ b.present
  pub pin : a.pin ≡ b.pin
  pub id : a.id ≡ b.id

pub begun_links : (p : Option Purpose) (l : LinkId) (lasting : Bool) (t : Tabled) → (begun_for p l lasting t).links ≡ t.links
begun_links (Some (purposes.Statement name ordinal key)) l lasting t = refl
begun_links (Some (purposes.Prep name ordinal key)) l lasting t = refl
begun_links (Some (purposes.Sync name)) l lasting t = refl
begun_links (Some purposes.Own) l lasting t = refl
begun_links (Some (purposes.End name)) l lasting t = refl
begun_links (Some (purposes.Capture name)) l lasting t = refl
begun_links None l lasting t = refl

-- By the parts of a row.

abbrev pub done_with : (lost : Bool) → Option LeftSession → LentLink → links.Session → (given : Bool) → Bool
done_with lost left link s given =
    not lost && (lent.is_in link.login.stage && (is_quiet link.state.stage && (not (is_resetting link.step) && is_done_by link.state.carries (desk_or_left left s) given)))

carried_alike : (carries : Carried) (a b : links.Session) (given : Bool) → Alike a b → is_done_by carries a given ≡ is_done_by carries b given
carried_alike Nobody a b given alike = refl
carried_alike (Lent name) a b given alike = rw (alike.pin, alike.id, alike.present) refl
carried_alike (Joined name) a b given alike = rw (alike.pin, alike.id, alike.present) refl

left_alike : (left : Option LeftSession) (a b : links.Session) → Alike a b → Alike (desk_or_left left a) (desk_or_left left b)
left_alike None a b alike = alike
left_alike (Some left) a b alike = record { present = refl; pin = refl; id = refl }

pub done_alike : (lost : Bool) (left : Option LeftSession) (link : LentLink) (a b : links.Session) (given : Bool) → Alike a b
    → done_with lost left link a given ≡ done_with lost left link b given
done_alike lost left link a b given alike =
    ap (λ (done : Bool). not lost && (lent.is_in link.login.stage && (is_quiet link.state.stage && (not (is_resetting link.step) && done))))
    (carried_alike link.state.carries (desk_or_left left a) (desk_or_left left b) given (left_alike left a b alike))

-- Of a link that is lost, or whose session was left, the desk tells nothing; and what is given up is of no matter where it isn't lent.

or_true : (x : Bool) → (x || true) ≡ true
or_true true = refl
or_true false = refl

given_left : (carries : Carried) (left : LeftSession) (s : links.Session) (given other : Bool)
    → is_done_by carries (desk_or_left (Some left) s) given ≡ is_done_by carries (desk_or_left (Some left) s) other
given_left Nobody left s given other = refl
given_left (Lent name) left s given other =
    ap (λ (b : Bool). not (needs_reset left.pin) && b)
    (or_true ((not (is_pinned left.pin) && is_some left.id) && given) ∙ sym (or_true ((not (is_pinned left.pin) && is_some left.id) && other)))
given_left (Joined name) left s given other = refl

given_whole : (carries : Carried) (s : links.Session) (given other : Bool) → ((n : SessionName) → carries ≡ Lent n → given ≡ other)
    → is_done_by carries s given ≡ is_done_by carries s other
given_whole Nobody s given other same = refl
given_whole (Lent name) s given other same = ap (is_done_by (Lent name) s) (same name refl)
given_whole (Joined name) s given other same = refl

pub given_alike : (lost : Bool) (left : Option LeftSession) (link : LentLink) (s : links.Session) (given other : Bool)
    → (lost ≡ false → left ≡ None → (n : SessionName) → link.state.carries ≡ Lent n → given ≡ other)
    → done_with lost left link s given ≡ done_with lost left link s other
given_alike true left link s given other same = refl
given_alike false (Some left) link s given other same =
    ap (λ (done : Bool). lent.is_in link.login.stage && (is_quiet link.state.stage && (not (is_resetting link.step) && done)))
    (given_left link.state.carries left s given other)
given_alike false None link s given other same =
    ap (λ (done : Bool). lent.is_in link.login.stage && (is_quiet link.state.stage && (not (is_resetting link.step) && done)))
    (given_whole link.state.carries s given other (same refl refl))
