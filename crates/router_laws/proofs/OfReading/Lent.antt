-- Links are done with their sessions as before, where statements are given up for whose sessions they aren't lent.
use Rattle.std.specs.Prelude.{◌≡◌, ◌&&◌, ℕ, Bool, true, false, not, IfSome, is_some, if◌then◌else◌, List, Option, Some, None}
use Rattle.std.specs.Option.{option_and_then, option_map, option_map_or}
use Rattle.std.proofs.Common.{refl, sym, ap, ◌∙◌, subst}
use Rattle.std.proofs.lemmas.Bool.{true≢false}
use Rattle.std.proofs.lemmas.Option.{same_Some}
use Rattle.client_session.specs.Setups.{Setup as Service}
use Rattle.private_model.proofs.Maps.{name_of as name_is, same_link}
use Rattle.private_model.specs.Names.{ClientNo, LinkId, SessionName}
use Rattle.private_model.specs.Story.{is_link_id, is_name}
use Rattle.link_state.specs.declared.state.Carried.TheVariants.{Lent}
use Rattle.client_desk.specs.Desks.{name_of, session_of}
use Rattle.client_desk.specs.declared.work.Work.{Work}
use Rattle.row_laws.specs.Whose.{name_in}
use Rattle.served_link.specs.Rests.{is_done as is_done_row}
use Rattle.core_tables.specs.Parting.{at_desk, given_row, given_up_in, is_done_for, is_done_in, is_given_up, waits_in}
use Rattle.core_tables.specs.Passing.{is_lent}
use Rattle.core_tables.specs.Tables.{Tabled}
use Rattle.core_tables.specs.declared.client.Client.{Client}
use Rattle.core_tables.specs.declared.server.Server.{Server}
use Rattle.core_stands.specs.Grounds.{Ground}
use Rattle.core_stands.specs.Stands.{Stands}
use Rattle.core_laws.specs.parting.Partings.{IsAtWork}
use Rattle.core_laws.proofs.OfLinks.Desks.{given_alike}
use Rattle.router_laws.specs.reading.Givings.{IsLentBut, if_lent, lent_home}

-- This link isn't lent to a session whose statement is given up.
abbrev pub IsLentElsewhere : Tabled → (ClientNo → Option (List ℕ)) → LinkId → Type 0
IsLentElsewhere t given other =
    (c : ClientNo) (row : Client) (work : Work) → is_some (given c) ≡ true → IsAtWork t c row work → lent_home t row work ≡ Some other → ⊥

-- where it is lent to none but one
pub lent_elsewhere : (l other : LinkId) (t : Tabled) (row : Client) (work : Work) → is_link_id other l ≡ false → IsLentBut l t row work
    → lent_home t row work ≡ Some other → ⊥
lent_elsewhere l other t row work apart but home =
    let same : other ≡ l = subst (λ (o : Option LinkId). IfSome o (λ (at : LinkId). at ≡ l)) home but in
    true≢false (sym (same_link l) ∙ ap (λ (k : LinkId). is_link_id k l) (sym same) ∙ apart)

-- no session changes
pub desk_alike : (payload : Option (List ℕ)) (n : SessionName) (row : Option Client) → at_desk n (option_map (given_row payload) row) ≡ at_desk n row
desk_alike payload n None = refl
desk_alike None n (Some row) = refl
desk_alike (Some payload) n (Some row) = refl

-- The statement that is given up isn't the one that it is lent for.

lent_there : (l : LinkId) (t : Tabled) (server : Server) → t.links l ≡ Some server → is_lent server.row.link.state.carries ≡ true
    → if_lent t l ≡ Some l
lent_there l t server there lent =
    ap (λ (b : Bool). if b then Some l else None)
    (ap (λ (s : Option Server). option_map_or (λ (x : Server). is_lent x.row.link.state.carries) s false) there ∙ lent)

module _ (service : Service) (g : Ground) (t : Tabled) (is : Stands service g t) (given : ClientNo → Option (List ℕ)) (other : LinkId)
    (aside : IsLentElsewhere t given other) (server : Server) (there : t.links other ≡ Some server) (n : SessionName)
    (carries : server.row.link.state.carries ≡ Lent n) (whole : server.row.lost ≡ false) (mine : server.row.left ≡ None) where
  its_home : (row : Client) (work : Work) → t.clients n.client ≡ Some row → n ≡ name_of row.desk work.hostgroup → lent_home t row work ≡ Some other
  its_home row work at named =
      let homes = is.homes.home other server n there (ap name_in carries) mine whole in
      let row_is : homes.0 ≡ row = same_Some homes.0 row (sym homes.1 ∙ at) in
      let home : (session_of row.desk work.hostgroup).home ≡ Some other =
      (λ i. (session_of (sym row_is i).desk (ap (λ (m : SessionName). m.hostgroup) (sym named) i)).home) ∙ homes.2 in
      ap (option_and_then (if_lent t)) home ∙ lent_there other t server there (ap is_lent carries)

  pub not_waiting : (row : Client) (work : Work) → t.clients n.client ≡ Some row → row.desk.work ≡ Some work → is_some (given n.client) ≡ true
      → waits_in n row.desk work ≡ false
  not_waiting row work at in_work gives = by work.sent (is_name n (name_of row.desk work.hostgroup)) refl where
    by : (sent b : Bool) → is_name n (name_of row.desk work.hostgroup) ≡ b → (not sent && b) ≡ false
    by true b same = refl
    by false false same = refl
    by false true same =
        absurd (aside n.client row work gives (record { there = at; in_work = in_work })
        (its_home row work at (name_is n (name_of row.desk work.hostgroup) same)))

  pub given_same : is_given_up n (option_map (given_row (given n.client)) (t.clients n.client)) ≡ is_given_up n (t.clients n.client)
  given_same = by (t.clients n.client) refl (given n.client) refl where
    in_it : (row : Client) → t.clients n.client ≡ Some row → is_some (given n.client) ≡ true → (work : Option Work) → row.desk.work ≡ work
        → true ≡ not (option_map_or (waits_in n row.desk) work false)
    in_it row at gives None none = refl
    in_it row at gives (Some work) some = sym (ap not (not_waiting row work at some gives))

    by : (found : Option Client) → t.clients n.client ≡ found → (payload : Option (List ℕ)) → given n.client ≡ payload
        → is_given_up n (option_map (given_row payload) found) ≡ is_given_up n found
    by None at payload gives = refl
    by (Some row) at None gives = refl
    by (Some row) at (Some payload) gives = in_it row at (ap is_some gives) row.desk.work refl

module _ (service : Service) (g : Ground) (t : Tabled) (is : Stands service g t) (given : ClientNo → Option (List ℕ)) where
  done_for : (other : LinkId) (server : Server) → t.links other ≡ Some server → IsLentElsewhere t given other → (named : Option SessionName)
      → name_in server.row.link.state.carries ≡ named → is_done_for (given_up_in given t) server named ≡ is_done_for t server named
  done_for other server there aside None at = refl
  done_for other server there aside (Some n) at =
      ap (λ s. is_done_row server.row s (is_given_up n ((given_up_in given t).clients n.client))) (desk_alike (given n.client) n (t.clients n.client))
      ∙ given_alike server.row.lost server.row.left server.row.link (at_desk n (t.clients n.client)) (is_given_up n ((given_up_in given t).clients n.client))
      (is_given_up n (t.clients n.client))
      (λ whole mine m lent.
      let same : m ≡ n = same_Some m n (sym (ap name_in lent) ∙ at) in
      subst (λ (k : SessionName). is_given_up k ((given_up_in given t).clients k.client) ≡ is_given_up k (t.clients k.client)) same
      (given_same service g t is given other aside server there m lent whole mine))

  -- by the rows
  pub given_done : (other : LinkId) → IsLentElsewhere t given other → is_done_in other (given_up_in given t) ≡ is_done_in other t
  given_done other aside = by (t.links other) refl where
    by : (found : Option Server) → t.links other ≡ found
        → option_map_or (λ (s : Server). is_done_for (given_up_in given t) s (name_in s.row.link.state.carries)) found false
        ≡ option_map_or (λ (s : Server). is_done_for t s (name_in s.row.link.state.carries)) found false
    by None there = refl
    by (Some server) there = done_for other server there aside (name_in server.row.link.state.carries) refl
