-- Who has room again.
use Rattle.std.specs.Prelude.{◌≡◌, ◌||◌, ◌&&◌, ℕ, Bool, true, false, not, nat_eq, if◌then◌else◌, List, [], ◌∷◌, Option, Some, None}
use Rattle.std.specs.BTreeSet.{insert_key, keys}
use Rattle.std.specs.List.{list_any}
use Rattle.std.specs.Ordering.{match_ordering, nat_cmp}
use Rattle.std.specs.declared.cmp.Ordering.{Ordering}
use Rattle.std.specs.declared.cmp.Ordering.TheVariants.{Less, Equal, Greater}
use Rattle.std.specs.Option.{option_map, option_map_or}
use Rattle.std.proofs.Common.{refl, sym, ap, ◌∙◌, subst}
use Rattle.std.proofs.lemmas.Bool.{eq-eqb, eqb-true}
use Rattle.private_model.specs.Names.{ClientNo}
use Rattle.private_model.specs.Story.{is_client}
use Rattle.client_seat.specs.Seats.{has_room, is_ended, wrote}
use Rattle.core_tables.specs.Arrivals.{seated, written_to}
use Rattle.core_tables.specs.Tables.{IsSame, Tabled}
use Rattle.core_tables.specs.declared.client.Client.{Client}
use Rattle.core_laws.specs.clients.Going.{is_going}
use Rattle.router_laws.specs.clients.Writes.{AreRoomy, lacks_event}
use Rattle.shared_core.specs.Rooms.{IsRoomier, goes_roomy}
use Rattle.shared_core.specs.Stands.{is_roomy}
use Rattle.shared_core.specs.declared.roomy.Roomy.{Roomy}

or_none : (a b : Bool) → a ≡ false → b ≡ false → (a || b) ≡ false
or_none a b one other = λ i. one i || other i

-- One more is noted.

pub or_true : (a b : Bool) → b ≡ true → (a || b) ≡ true
or_true true b is = refl
or_true false b is = is

either_more : (b rest more : Bool) → (rest ≡ true → more ≡ true) → (b || rest) ≡ true → (b || more) ≡ true
either_more true rest more later some = refl
either_more false rest more later some = later some

pub any_more : (p : ℕ → Bool) (k : ℕ) (ks : List ℕ) → list_any p ks ≡ true → list_any p (insert_key nat_cmp ks k) ≡ true
any_more p k [] is = or_true (p k) false is
any_more p k (x ∷ xs) is = by (nat_cmp k x) (any_more p k xs) is where
  by : (o : Ordering) → (list_any p xs ≡ true → list_any p (insert_key nat_cmp xs k) ≡ true) → list_any p (x ∷ xs) ≡ true
      → list_any p (match_ordering o (k ∷ x ∷ xs) (x ∷ xs) (x ∷ insert_key nat_cmp xs k)) ≡ true
  by Less later some = or_true (p k) (list_any p (x ∷ xs)) some
  by Equal later some = some
  by Greater later some = either_more (p x) (list_any p xs) (list_any p (insert_key nat_cmp xs k)) later some

pub kept : (client : ClientNo) (old new : Roomy) → new.all ≡ old.all → keys new.some ≡ insert_key nat_cmp (keys old.some) client.0
    → (c : ClientNo) → is_roomy old c ≡ true → is_roomy new c ≡ true
kept client old new all same c roomy =
    (λ i. all i || list_any (nat_eq c.0) (same i)) ∙ by old.all roomy where
      by : (b : Bool) → (b || list_any (nat_eq c.0) (keys old.some)) ≡ true
          → (b || list_any (nat_eq c.0) (insert_key nat_cmp (keys old.some) client.0)) ≡ true
      by true some = refl
      by false some = any_more (nat_eq c.0) client.0 (keys old.some) some

-- One more is noted, and all who were stay.
pub added : (client : ClientNo) (old new : Roomy) → is_roomy new client ≡ true → ((c : ClientNo) → is_roomy old c ≡ true → is_roomy new c ≡ true)
    → IsRoomier client old new
added client old new its kept = record { others = λ c none. others c none (is_roomy old c) refl; itself = λ c none. itself c none (is_client client c) refl } where
  others : (c : ClientNo) → is_roomy new c ≡ false → (b : Bool) → is_roomy old c ≡ b → is_roomy old c ≡ false
  others c none true is = let both : true ≡ false = sym (kept c is) ∙ none in absurd (cc)
  others c none false is = is

  itself : (c : ClientNo) → is_roomy new c ≡ false → (b : Bool) → is_client client c ≡ b → is_client client c ≡ false
  itself c none true is =
      let number : client.0 ≡ c.0 = eqb-true client.0 c.0 is in
      let roomy : is_roomy new c ≡ true = subst (λ (k : ℕ). is_roomy new (record { 0 = k }) ≡ true) number its in
      let both : true ≡ false = sym roomy ∙ none in absurd (cc)
  itself c none false is = is

-- It goes on, and has room, as code tests it.
pub tested : (row : Option Client) → (is_going row && option_map_or (λ (x : Client). has_room x.desk.seat) row false) ≡ goes_roomy row
tested None = refl
tested (Some row) = refl

-- Bytes were written to it.

module _ (client : ClientNo) (n : ℕ) (t mid : Tabled) (row : Client) (there : t.clients client ≡ Some row) (same : IsSame mid (written_to client n t)) where
  row_mid : mid.clients client ≡ Some (seated (wrote n) row)
  row_mid =
      same.clients client
      ∙ ap (λ (b : Bool). if b then option_map (seated (wrote n)) (t.clients client) else t.clients client) (eq-eqb client.0 client.0 refl)
      ∙ ap (option_map (seated (wrote n))) there

  and_moved : (full going room : Bool) → (full && (going && room)) ≡ false → (going && (full && room)) ≡ false
  and_moved true going room e = e
  and_moved false true room e = refl
  and_moved false false room e = refl

  pub no_event : (not (option_map_or (λ (x : Client). has_room x.desk.seat) (t.clients client) false) && goes_roomy (mid.clients client)) ≡ false
      → lacks_event n row ≡ false
  no_event none =
      and_moved (not (has_room row.desk.seat)) (not (is_ended row.desk.seat.phase)) (has_room (wrote n row.desk.seat))
      ((λ i. not (option_map_or (λ (x : Client). has_room x.desk.seat) (sym there i) false) && goes_roomy (sym row_mid i)) ∙ none)

  -- it is noted or not
  pub noted : (old new : Roomy) → IsRoomier client old new → AreRoomy n client row (is_roomy old) (is_roomy new)
  noted old new more other none =
      or_none (is_roomy old other) (is_client client other && lacks_event n row) (more.others other none)
      (ap (λ (b : Bool). b && lacks_event n row) (more.itself other none))

  and_none : (a b : Bool) → b ≡ false → (a && b) ≡ false
  and_none true b e = e
  and_none false b e = refl

  pub unnoted : (roomy : Roomy) → lacks_event n row ≡ false → AreRoomy n client row (is_roomy roomy) (is_roomy roomy)
  unnoted roomy lacks other none =
      or_none (is_roomy roomy other) (is_client client other && lacks_event n row) none (and_none (is_client client other) (lacks_event n row) lacks)
