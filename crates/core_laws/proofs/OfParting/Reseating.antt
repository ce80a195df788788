-- A client that left its sessions gets another seat.
use Rattle.std.specs.Prelude.{◌≡◌, Bool, true, false, nat_eq, if◌then◌else◌, Option, Some, None}
use Rattle.std.specs.Option.{option_map, option_map_or}
use Rattle.std.proofs.Common.{refl, sym, ap, ◌∙◌}
use Rattle.private_model.proofs.Maps.{client_of, same_number}
use Rattle.private_model.specs.Names.{ClientNo, LinkId}
use Rattle.client_seat.specs.declared.seat.Seat.{Seat}
use Rattle.core_tables.specs.Parting.{left_in, left_row, parted_in, with_seat}
use Rattle.core_tables.specs.Tables.{IsSame, Tabled, client_changed, client_put}
use Rattle.core_tables.specs.declared.client.Client.{Client}

module _ (t : Tabled) (c : ClientNo) (by : Seat → Seat) where
  -- what leaving makes of the tables, where the row is this
  abbrev left_with : (Seat → Seat) → Option Client → Tabled
  left_with with found = option_map_or (λ (row : Client). client_put c (Some (left_row with row)) (parted_in row.desk.sessions t)) found t

  abbrev then_seated : Option Client → Tabled
  then_seated found = client_changed c (with_seat by) (left_with (λ seat. seat) found)

  row_by : (found : Option Client) → t.clients c ≡ found → (d : ClientNo) → (then_seated found).clients d ≡ (left_with by found).clients d
  row_by None none d = at (nat_eq c.0 d.0) refl where
    at : (b : Bool) → nat_eq c.0 d.0 ≡ b → (if b then option_map (with_seat by) (t.clients c) else t.clients d) ≡ t.clients d
    at false apart = refl
    at true same = ap (option_map (with_seat by)) none ∙ sym none ∙ ap t.clients (client_of c d same)
  row_by (Some row) some d = at (nat_eq c.0 d.0) where
    here : (if nat_eq c.0 c.0 then Some (left_row (λ seat. seat) row) else t.clients c) ≡ Some (left_row (λ seat. seat) row)
    here = ap (λ (b : Bool). if b then Some (left_row (λ seat. seat) row) else t.clients c) (same_number c.0)

    at : (b : Bool) → (if b then option_map (with_seat by) (if nat_eq c.0 c.0 then Some (left_row (λ seat. seat) row) else t.clients c)
        else (if b then Some (left_row (λ seat. seat) row) else t.clients d))
        ≡ (if b then Some (left_row by row) else t.clients d)
    at true = ap (option_map (with_seat by)) here
    at false = refl

  links_by : (found : Option Client) → (l : LinkId) → (then_seated found).links l ≡ (left_with by found).links l
  links_by None l = refl
  links_by (Some row) l = refl

  numbers_by : (found : Option Client) → (l : LinkId) → (then_seated found).numbers l ≡ (left_with by found).numbers l
  numbers_by None l = refl
  numbers_by (Some row) l = refl

  pub seated_so : IsSame (client_changed c (with_seat by) (left_in c (λ seat. seat) t)) (left_in c by t)
  seated_so = record {
    clients = λ d. row_by (t.clients c) refl d;
    numbers = λ l. numbers_by (t.clients c) l;
    links = λ l. links_by (t.clients c) l;
  }
