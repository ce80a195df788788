-- As a client's messages come up the texts of what it has prepared are kept, where they were before.
use Rattle.std.specs.Prelude.{◌≡◌, ◌≤◌, ℕ, Bool, true, false, if◌then◌else◌, is_some, nat_eq, List, [], ◌∷◌, Option, Some, None}
use Rattle.std.specs.Option.{option_and_then, option_map, option_map_or}
use Rattle.std.proofs.Common.{refl, sym, ap, ◌∙◌, subst}
use Rattle.std.proofs.lemmas.Option.{none-some, same_Some}
use Rattle.packet_frame.specs.Packets.{Framed}
use Rattle.private_model.proofs.Maps.{same_number}
use Rattle.private_model.specs.Names.{ClientNo, LinkId}
use Rattle.client_session.specs.Setups.{Setup as Serving}
use Rattle.client_desk.specs.declared.work.Work.{Work}
use Rattle.client_seat.specs.Numbers.{AreNoted, Numbered, drops, noted, numbered}
use Rattle.client_seat.specs.Seats.{got, got_in}
use Rattle.client_seat.specs.Takings.{begun_anew}
use Rattle.client_seat.specs.declared.phase.Phase.{Phase}
use Rattle.client_seat.specs.declared.phase.Phase.TheVariants as phase
use Rattle.client_seat.specs.declared.seat.Seat.{Seat}
use Rattle.log_story.specs.Executes.{bound_after}
use Rattle.stmt_map.specs.Client.{statement_at}
use Rattle.stmt_map.specs.declared.client.ClientStatements.{ClientStatements}
use Rattle.stmt_map.specs.declared.statement.Prepared.{Prepared}
use Rattle.stmt_map.specs.declared.statement.Statement.{Statement}
use Rattle.session_state.specs.declared.names.SessionName.{SessionName}
use Rattle.core_tables.specs.Arrivals.{seated, spoke, turn}
use Rattle.core_tables.specs.Parting.{changed_for, freed_in, freed_of, freed_row, is_done_in, left_in, left_row, parted_in, present_in}
use Rattle.core_tables.specs.Tables.{IsSame, Tabled, client_changed, client_put}
use Rattle.core_tables.specs.Taking.{answers, found_of, goes, goes_found, passes_found}
use Rattle.core_tables.specs.declared.client.Client.{Client}
use Rattle.core_laws.proofs.OfPrepared.Turning.{turn_keeps}
use Rattle.core_laws.specs.clients.Turns.{Answers, Choice, ComesUp, Goes, IsTurn, MakesAnswer}
use Rattle.core_laws.specs.entry.Freeing.{all_freed}
use Rattle.core_laws.specs.taking.Takes.{is_reset}
use Rattle.core_promises.specs.Ruled.{AreKept, IsKept, Ruling}
use Rattle.router_laws.specs.clients.Leaves.{IsGivenBack}
use Rattle.router_laws.specs.decisions.Rulings.{AreKeptIn}

module _ (ruling : Ruling) where
  abbrev Kept : Client → Type 0
  Kept row = AreKept ruling row.desk.seat.statements

  -- A message that is taken up drops some, and binds others.

  key_kept : (was now : Statement) → was.prepared ≡ now.prepared → IsKept ruling.since ruling.keys was → IsKept ruling.since ruling.keys now
  key_kept was now same kept = record {
    early = subst (λ (p : Prepared). p.key ≤ ruling.since) same kept.early;
    there = subst (λ (p : Prepared). is_some (ruling.keys p.key) ≡ true) same kept.there;
  }

  by_drop : (refused : Bool) (number : ℕ) (payload : List ℕ) (was now : Statement) (dropped : Bool)
      → (if dropped then None
      else Some (record { prepared = was.prepared; bound = bound_after was.prepared.params number refused payload (numbered was).bound }))
      ≡ Some (numbered now) → was.prepared ≡ now.prepared
  by_drop refused number payload was now true is = absurd (none-some (numbered now) is)
  by_drop refused number payload was now false is =
      ap (λ (one : Numbered). one.prepared)
      (same_Some (record { prepared = was.prepared; bound = bound_after was.prepared.params number refused payload (numbered was).bound }) (numbered now) is)

  by_found : (refused : Bool) (number : ℕ) (payload : List ℕ) (found : Option Statement) (now : Statement)
      → option_and_then (noted refused number payload) (option_map numbered found) ≡ Some (numbered now)
      → ((was : Statement) → found ≡ Some was → IsKept ruling.since ruling.keys was) → IsKept ruling.since ruling.keys now
  by_found refused number payload None now is kept = absurd (none-some (numbered now) is)
  by_found refused number payload (Some was) now is kept =
      key_kept was now (by_drop refused number payload was now (drops number payload) is) (kept was refl)

  pub noted_kept : (refused : Bool) (payload : List ℕ) (old new : ClientStatements) → AreNoted refused payload old new → AreKept ruling old
      → AreKept ruling new
  noted_kept refused payload old new noted kept number now some at =
      by_found refused number payload (statement_at old number) now (sym (noted.each number) ∙ ap (option_map numbered) at)
      (λ was is. kept number was some is)

  -- A row changes.

  mapped_kept : (by : Client → Client) → ((row : Client) → Kept row → Kept (by row)) → (found : Option Client) → AreKeptIn ruling found
      → AreKeptIn ruling (option_map by found)
  mapped_kept by keeps None kept row is = absurd (none-some row is)
  mapped_kept by keeps (Some was) kept row is = subst Kept (same_Some (by was) row is) (keeps was (kept was refl))

  pub changed_kept : (by : Client → Client) → ((row : Client) → Kept row → Kept (by row)) → (c : ClientNo) (t : Tabled)
      → AreKeptIn ruling (t.clients c) → AreKeptIn ruling ((client_changed c by t).clients c)
  changed_kept by keeps c t kept = at (nat_eq c.0 c.0) where
    at : (same : Bool) → AreKeptIn ruling (if same then option_map by (t.clients c) else t.clients c)
    at true = mapped_kept by keeps (t.clients c) kept
    at false = kept

  pub same_kept : (c : ClientNo) (old new : Tabled) → IsSame new old → AreKeptIn ruling (old.clients c) → AreKeptIn ruling (new.clients c)
  same_kept c old new same = subst (AreKeptIn ruling) (sym (same.clients c))

  only_kept : (row : Client) → Kept row → (found : Option Client) → found ≡ Some row → AreKeptIn ruling found
  only_kept row kept found is other at = subst Kept (same_Some row other (sym is ∙ at)) kept

  -- Links are given back.

  freed_for : (n : Option SessionName) (c : ClientNo) (found : Option Client) → AreKeptIn ruling found
      → AreKeptIn ruling (changed_for freed_row n c found)
  freed_for None c found kept = kept
  freed_for (Some n) c found kept = at (nat_eq n.client.0 c.0) where
    at : (its : Bool) → AreKeptIn ruling (if its then option_map (freed_row n.hostgroup) found else found)
    at true = mapped_kept (freed_row n.hostgroup) (λ row is. is) found kept
    at false = kept

  one_freed : (l : LinkId) (c : ClientNo) (t : Tabled) → AreKeptIn ruling (t.clients c) → AreKeptIn ruling ((freed_in l t).clients c)
  one_freed l c t kept = at (is_done_in l t) where
    at : (done : Bool) → AreKeptIn ruling ((if done then freed_of l t else t).clients c)
    at true = freed_for (present_in l t) c (t.clients c) kept
    at false = kept

  pub all_freed_kept : (links : List LinkId) (c : ClientNo) (t : Tabled) → AreKeptIn ruling (t.clients c)
      → AreKeptIn ruling ((all_freed links t).clients c)
  all_freed_kept [] c t kept = kept
  all_freed_kept (l ∷ links) c t kept = all_freed_kept links c (freed_in l t) (one_freed l c t kept)

  -- A client leaves its sessions.

  left_is : (c : ClientNo) (by : Seat → Seat) (t : Tabled) (row : Client) → t.clients c ≡ Some row
      → (left_in c by t).clients c ≡ Some (left_row by row)
  left_is c by t row there =
      ap (λ (found : Option Client).
      (option_map_or (λ (x : Client). client_put c (Some (left_row by x)) (parted_in x.desk.sessions t)) found t).clients c) there
      ∙ ap (λ (b : Bool). if b then Some (left_row by row) else (parted_in row.desk.sessions t).clients c) (same_number c.0)

  pub left_kept : (c : ClientNo) (by : Seat → Seat) → ((seat : Seat) → (by seat).statements ≡ seat.statements) → (t : Tabled) (row : Client)
      → t.clients c ≡ Some row → Kept row → AreKeptIn ruling ((left_in c by t).clients c)
  left_kept c by keeps t row there kept =
      only_kept (left_row by row) (subst (AreKept ruling) (sym (keeps row.desk.seat)) kept) ((left_in c by t).clients c) (left_is c by t row there)

  -- It speaks, or begins anew.

  got_keeps : (at : Phase) (bytes : List ℕ) (seat : Seat) → (got_in at bytes seat).statements ≡ seat.statements
  got_keeps phase.Ended bytes seat = refl
  got_keeps phase.LoggingIn bytes seat = refl
  got_keeps (phase.Serving account) bytes seat = refl

  pub spoke_kept : (c : ClientNo) (bytes : List ℕ) (t heard : Tabled) → IsSame heard (spoke c bytes t) → AreKeptIn ruling (t.clients c)
      → AreKeptIn ruling (heard.clients c)
  spoke_kept c bytes t heard same kept =
      same_kept c (spoke c bytes t) heard same
      (changed_kept (seated (got bytes)) (λ row is. subst (AreKept ruling) (sym (got_keeps row.desk.seat.phase bytes row.desk.seat)) is) c t kept)

  pub anew_kept : (links : List LinkId) (c : ClientNo) (row : Client) (t between : Tabled) → IsGivenBack begun_anew links c row t between
      → t.clients c ≡ Some row → AreKeptIn ruling (t.clients c) → AreKeptIn ruling (between.clients c)
  anew_kept links c row t between is there kept =
      same_kept c (all_freed links is.left) between is.freed
      (all_freed_kept links c is.left
      (same_kept c (left_in c begun_anew t) is.left is.leaves (left_kept c begun_anew (λ seat. refl) t row there (kept row there))))

  -- A turn.

  module _ (service : Serving) (default : List ℕ) (c : ClientNo) where
    changed_is : (by : Client → Client) (t : Tabled) (row : Client) → t.clients c ≡ Some row → (client_changed c by t).clients c ≡ Some (by row)
    changed_is by t row there =
        ap (λ (b : Bool). if b then option_map by (t.clients c) else t.clients c) (same_number c.0) ∙ ap (option_map by) there

    up_is : (old between : Tabled) (up : ComesUp service default c old between)
        → between.clients c ≡ Some (seated (turn service default) up.row)
    up_is old between up = up.same.clients c ∙ changed_is (seated (turn service default)) old up.row up.looks.there

    -- as its message comes up
    pub up_kept : (old between : Tabled) (up : ComesUp service default c old between) → AreKeptIn ruling (old.clients c)
        → AreKept ruling (turn service default up.row.desk.seat).statements
    up_kept old between up kept = subst (AreKept ruling) (sym (turn_keeps service default up.row.desk.seat).0) (kept up.row up.looks.there)

    goes_kept : (flag : ℕ) (work : Work) (statements : ClientStatements) (found : Option Framed) (row : Client) → Kept row → AreKept ruling statements
        → Kept (goes_found flag work statements found row)
    goes_kept flag work statements None row kept noted = kept
    goes_kept flag work statements (Some message) row kept noted = noted

    passes_kept : (flag : ℕ) (statements : ClientStatements) (found : Option Framed) (row : Client) → Kept row → AreKept ruling statements
        → Kept (passes_found flag statements found row)
    passes_kept flag statements None row kept noted = kept
    passes_kept flag statements (Some message) row kept noted = noted

    answers_kept : (flag : ℕ) (packets : List ℕ) (statements : ClientStatements) (row : Client) → Kept row → AreKept ruling statements
        → Kept (answers flag packets statements row)
    answers_kept flag packets statements row kept noted = passes_kept flag statements (found_of row) row kept noted

    made_kept : (anew : Bool) (flag : ℕ) (packets : List ℕ) (statements : ClientStatements) (row up : Client) (between new : Tabled)
        → between.clients c ≡ Some row → Kept row → AreKept ruling statements → MakesAnswer anew c flag packets statements up between new
        → AreKeptIn ruling (new.clients c)
    made_kept true flag packets statements row up between new there kept noted makes =
        only_kept (answers flag packets statements (left_row (λ (seat : Seat). seat) row))
        (answers_kept flag packets statements (left_row (λ (seat : Seat). seat) row) kept noted) (new.clients c)
        (makes.1.clients c ∙ changed_is (answers flag packets statements) (left_in c (λ (seat : Seat). seat) between) (left_row (λ (seat : Seat). seat) row)
        (left_is c (λ (seat : Seat). seat) between row there))
    made_kept false flag packets statements row up between new there kept noted makes =
        only_kept (answers flag packets statements row) (answers_kept flag packets statements row kept noted) (new.clients c)
        (makes.clients c ∙ changed_is (answers flag packets statements) between row there)

    pub turn_kept : (choice : Choice) (old new : Tabled) → IsTurn choice service default c old new → AreKeptIn ruling (old.clients c)
        → AreKeptIn ruling (new.clients c)
    turn_kept (Goes route keyed) old new is kept =
        let up : AreKept ruling (turn service default is.up.row.desk.seat).statements = up_kept old is.between is.up kept in
        let after : Client = seated (turn service default) is.up.row in
        only_kept (goes is.flag is.work is.statements after)
        (goes_kept is.flag is.work is.statements (found_of after) after up
        (noted_kept false is.up.message.payload (turn service default is.up.row.desk.seat).statements is.statements is.noted up)) (new.clients c)
        (is.same.clients c ∙ changed_is (goes is.flag is.work is.statements) is.between after (up_is old is.between is.up))
    turn_kept (Answers payloads) old new is kept =
        let up : AreKept ruling (turn service default is.up.row.desk.seat).statements = up_kept old is.between is.up kept in
        let after : Client = seated (turn service default) is.up.row in
        made_kept (is_reset is.up.message) is.flag is.packets is.statements after is.up.row is.between new (up_is old is.between is.up) up
        (noted_kept true is.up.message.payload (turn service default is.up.row.desk.seat).statements is.statements is.noted up) is.makes
