-- A statement of one client is given up.
use Rattle.std.specs.Prelude.{◌≡◌, ℕ, Bool, true, false, nat_eq, if◌then◌else◌, List, Option, Some, None}
use Rattle.std.specs.Option.{option_map}
use Rattle.std.proofs.Common.{refl, ap}
use Rattle.private_model.proofs.Maps.{client_of}
use Rattle.private_model.specs.Names.{ClientNo}
use Rattle.core_tables.specs.Parting.{given_row, given_to, given_up, given_up_in}
use Rattle.core_tables.specs.Tables.{IsSame, Tabled}
use Rattle.core_tables.specs.declared.client.Client.{Client}

none_given : (found : Option Client) → found ≡ option_map (given_row None) found
none_given None = refl
none_given (Some row) = refl

pub nobody_so : (t : Tabled) → IsSame t (given_up_in (λ c. None) t)
nobody_so t = record { clients = λ c. none_given (t.clients c); numbers = λ l. refl; links = λ l. refl }

pub one_so : (t : Tabled) (c : ClientNo) (payload : List ℕ) → IsSame (given_up c payload t) (given_up_in (given_to c payload) t)
one_so t c payload = record { clients = λ d. by d (nat_eq c.0 d.0) refl; numbers = λ l. refl; links = λ l. refl } where
  by : (d : ClientNo) (b : Bool) → nat_eq c.0 d.0 ≡ b
      → (if b then option_map (given_row (Some payload)) (t.clients c) else t.clients d) ≡ option_map (given_row (if b then Some payload else None)) (t.clients d)
  by d true same = ap (λ (k : ClientNo). option_map (given_row (Some payload)) (t.clients k)) (client_of c d same)
  by d false apart = none_given (t.clients d)
