-- What the code's calls make of the tables as bytes come on a link to a server.
use Rattle.std.specs.Prelude.{◌≡◌, ℕ, Bool, true, false, not, if◌then◌else◌, nat_eq, List, Option, Some, None}
use Rattle.std.specs.Option.{option_map}
use Rattle.std.proofs.Common.{refl, ap, ◌∙◌, subst}
use Rattle.mx_base.specs.declared.names.ClientNo.{ClientNo}
use Rattle.mx_base.specs.declared.names.Hostgroup.{Hostgroup}
use Rattle.mx_base.specs.declared.names.LinkId.{LinkId}
use Rattle.client_session.specs.Setups.{Setup as Service}
use Rattle.session_state.specs.declared.names.SessionName.{SessionName}
use Rattle.client_seat.specs.Seats.{is_ended}
use Rattle.core_promises.specs.Ruled.{Ruling}
use Rattle.core_tables.specs.Hearing.{IsHeard, IsHeardBy}
use Rattle.core_tables.specs.Parting.{changed_for, freed_in, freed_of, freed_row, given_row, given_up_in, is_done_in, name_in, present_in}
use Rattle.core_tables.specs.Preparing.{IsKeptFor}
use Rattle.core_tables.specs.Tables.{IsSame, Tabled}
use Rattle.core_tables.specs.declared.client.Client.{Client}
use Rattle.core_tables.specs.declared.said.Said.{Said}
use Rattle.core_tables.specs.declared.server.Server.{Server}
use Rattle.core_laws.specs.clients.Going.{GivenUp, GoesSo, Going, IsCalled, is_going, told_to}
use Rattle.router_laws.specs.decisions.Rulings.{IsRuledOn}
use Rattle.router_laws.specs.reading.Givings.{MayGiveUp}
use Rattle.router_laws.specs.reading.Hears.{HearsRuled}

-- tables that are the same are one
tables_are : (a b : Tabled) → IsSame a b → a ≡ b
tables_are a b same = λ i. record {
  clients = λ (c : ClientNo). same.clients c i;
  numbers = λ (l : LinkId). same.numbers l i;
  links = λ (l : LinkId). same.links l i;
}

pub made_so : (ruling : Ruling) (service : Service) (default : List ℕ) (l : LinkId) (bytes : List ℕ) (clock : ℕ) (given : Option GivenUp) (going : Option Going)
    (server : Server) (said : Said) (old read heard mid freed now : Tabled) → old.links l ≡ Some server → server.row.lost ≡ false
    → server.row.link.spoilt ≡ false → IsHeard l bytes clock said read old → IsKeptFor said l read heard
    → MayGiveUp l given heard
    → IsSame mid (given_up_in (told_to given) heard) → IsSame freed (freed_in l mid)
    → IsCalled (name_in server.row.link.state.carries) given freed (option_map (λ (g : Going). g.client) going)
    → (goes : GoesSo going service default freed now) → IsRuledOn ruling going service default freed now goes
    → HearsRuled ruling service default l bytes clock given going old now
made_so ruling service default l bytes clock given going server said old read heard mid freed now there whole sound hears keeps may gives frees called goes ruled = record {
  so = record {
    server = server;
    there = there;
    whole = whole;
    sound = sound;
    said = said;
    read = read;
    hears = subst (λ (row : Option Server). IsHeardBy row l bytes clock said read old) there hears;
    heard = heard;
    keeps = keeps;
    may = may;
    freed = freed;
    frees = subst (λ (t : Tabled). IsSame freed (freed_in l t)) (tables_are mid (given_up_in (told_to given) heard) gives) frees;
    called = called;
    goes = goes;
  };
  ruled = ruled;
}

-- Who goes on still does: no statement that is given up, and no link that is given back, ends a client.

goes_by : (by : Client → Client) → ((row : Client) → is_ended (by row).desk.seat.phase ≡ is_ended row.desk.seat.phase) → (o : Option Client)
    → is_going (option_map by o) ≡ is_going o
goes_by by same None = refl
goes_by by same (Some row) = ap not (same row)

given_goes : (payload : Option (List ℕ)) (row : Client) → is_ended (given_row payload row).desk.seat.phase ≡ is_ended row.desk.seat.phase
given_goes None row = refl
given_goes (Some payload) row = refl

for_goes : (b : Bool) (h : Hostgroup) (o : Option Client) → is_going (if b then option_map (freed_row h) o else o) ≡ is_going o
for_goes true h o = goes_by (freed_row h) (λ row. refl) o
for_goes false h o = refl

changed_goes : (n : Option SessionName) (c : ClientNo) (o : Option Client) → is_going (changed_for freed_row n c o) ≡ is_going o
changed_goes None c o = refl
changed_goes (Some n) c o = for_goes (nat_eq n.client.0 c.0) n.hostgroup o

freed_goes : (l : LinkId) (t : Tabled) (c : ClientNo) (b : Bool) → is_going ((if b then freed_of l t else t).clients c) ≡ is_going (t.clients c)
freed_goes l t c true = changed_goes (present_in l t) c (t.clients c)
freed_goes l t c false = refl

pub made_going : (l : LinkId) (given : Option GivenUp) (heard mid freed : Tabled) (c : ClientNo) → IsSame mid (given_up_in (told_to given) heard)
    → IsSame freed (freed_in l mid) → is_going (freed.clients c) ≡ is_going (heard.clients c)
made_going l given heard mid freed c gives frees =
    ap is_going (frees.clients c) ∙ freed_goes l mid c (is_done_in l mid) ∙ ap is_going (gives.clients c)
    ∙ goes_by (given_row (told_to given c)) (given_goes (told_to given c)) (heard.clients c)
