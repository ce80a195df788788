-- One turn, by what code does at it.
use Rattle.std.specs.Prelude.{◌≡◌, ℕ, Bool, true, false, if◌then◌else◌, IsSome, List, Option, Some, None}
use Rattle.std.specs.Option.{option_map, option_map_or}
use Rattle.std.proofs.Common.{refl, sym, ap, subst, ◌∙◌}
use Rattle.mx_base.specs.declared.names.ClientNo.{ClientNo}
use Rattle.mx_base.specs.declared.names.Hostgroup.{Hostgroup}
use Rattle.packet_frame.specs.Packets.{Framed}
use Rattle.core_promises.specs.Ruled.{Ruling}
use Rattle.private_model.proofs.Maps.{same_number}
use Rattle.client_session.specs.Setups.{Setup as Service}
use Rattle.client_side.specs.declared.stage.Stage.TheVariants.{Commands}
use Rattle.client_seat.specs.Turns.{IsUp}
use Rattle.client_seat.specs.declared.next.Next.{Next}
use Rattle.client_seat.specs.declared.next.Next.TheVariants as next
use Rattle.client_seat.specs.declared.seat.Seat.{Seat}
use Rattle.stmt_map.specs.declared.client.ClientStatements.{ClientStatements}
use Rattle.core_laws.specs.taking.Takes.{is_reset}
use Rattle.core_tables.specs.Arrivals.{IsUpIn, looked, next_of, seated, turn}
use Rattle.core_tables.specs.Parting.{left_in, left_row, parted_in}
use Rattle.core_tables.specs.Tables.{IsSame, Tabled, client_changed, client_put}
use Rattle.core_tables.specs.Taking.{IsUpOr, answers, found_of}
use Rattle.core_tables.specs.declared.client.Client.{Client}
use Rattle.core_laws.specs.clients.Turns.{Answers, Choice, ComesUp, Goes, IsLookedAt, IsTurn, MakesAnswer, MayLeave, RestsThere}
use Rattle.core_turns.specs.Taken.{IsTakenUp, OnUp, answered_so}
use Rattle.core_turns.specs.Turned.{HasChosen, IsLookable, IsToEnd, IsTurned, is_away}
use Rattle.core_turns.specs.declared.turn.Stop.TheVariants as stops
use Rattle.core_turns.specs.declared.turn.Turn.{Turn}
use Rattle.core_turns.specs.declared.turn.Turn.TheVariants as turns

pub both-same : {a b c : Tabled} → IsSame a b → IsSame b c → IsSame a c
both-same first second = record {
  clients = λ x. first.clients x ∙ second.clients x;
  numbers = λ x. first.numbers x ∙ second.numbers x;
  links = λ x. first.links x ∙ second.links x;
}

pub still-same : (t : Tabled) → IsSame t t
still-same t = record { clients = λ x. refl; numbers = λ x. refl; links = λ x. refl }

pub there-of : (found : Option Client) → IsSome found → (row : Client) × (found ≡ Some row)
there-of None some = let no : false ≡ true = some in absurd (cc)
there-of (Some row) some = (row, refl)

pub not-away : (found : Option Client) → is_away found ≡ false → IsSome found
not-away None is = absurd (let e = is in cc)
not-away (Some row) is = refl

pub changed-there : (c : ClientNo) (by : Client → Client) (t : Tabled) (row : Client) → t.clients c ≡ Some row
    → (client_changed c by t).clients c ≡ Some (by row)
changed-there c by t row there =
    ap (λ (b : Bool). if b then option_map by (t.clients c) else t.clients c) (same_number c.0) ∙ ap (option_map by) there

module _ (service : Service) (default : List ℕ) (c : ClientNo) (old between : Tabled) (row : Client) (there : old.clients c ≡ Some row)
    (same : IsSame between (looked service default c old)) where
  -- the row behind the look
  abbrev pub after : Client
  after = seated (turn service default) row

  pub seated-there : between.clients c ≡ Some after
  seated-there = same.clients c ∙ changed-there c (seated (turn service default)) old row there

  pub looks-at : (said : Next) → IsLookable false row → said ≡ next_of service default (old.clients c) → IsLookedAt service default c old row said
  looks-at said able is = record {
    there = there;
    few = able.able.few;
    captured = able.is;
    says = sym (is ∙ ap (next_of service default) there);
  }

  abbrev pub comes-up : (ordinal : ℕ) (message : Framed) → IsLookedAt service default c old row (next.Message ordinal)
      → found_of after ≡ Some message → ComesUp service default c old between
  comes-up ordinal message looks found = record { row = row; ordinal = ordinal; looks = looks; same = same; message = message; found = found }

  makes-so : (anew : Bool) (flag : ℕ) (packets : List ℕ) (statements : ClientStatements) (new : Tabled) → MayLeave row
      → IsSame new (answered_so anew c flag packets statements between) → MakesAnswer anew c flag packets statements row between new
  makes-so true flag packets statements new lives is = (lives, is)
  makes-so false flag packets statements new lives is = is

  module _ (ruling : Ruling) (ordinal : ℕ) (message : Framed) (able : IsLookable false row) (looks : IsLookedAt service default c old row (next.Message ordinal))
      (found : found_of after ≡ Some message) (past : (turn service default row.desk.seat).client.stage ≡ Commands) (new : Tabled) where
    taken-up : (turned : Turn) → IsTakenUp turned ordinal ruling c after message between new → IsTurned turned ruling service default c old new
    taken-up (turns.Stops (stops.Quits flag)) is = (
      record {
        up = record { row = row; ordinal = ordinal; looks = looks; same = both-same is.0.same same; message = message; found = found };
        past_login = past;
        quits_only = is.0.quits_only;
        says = is.0.says;
        lives = able.able.lives;
      },
      is.1,
    )
    taken-up (turns.Stops stops.Waits) is = absurd is.0
    taken-up (turns.Stops stops.Rests) is = absurd is.0
    taken-up (turns.Stops stops.Ends) is = absurd is.0
    taken-up turns.Answered is = (
      is.payloads,
      is.own,
      (
        record {
          between = between;
          up = comes-up ordinal message looks found;
          flag = is.flag;
          packets = is.packets;
          statements = is.statements;
          spelt = is.spelt;
          noted = is.noted;
          makes = makes-so (is_reset message) is.flag is.packets is.statements new able.able.lives is.makes;
        },
        (is.ruled, is.made),
      ),
    )
    taken-up (turns.Due hostgroup) is = record {
      route = is.route;
      keyed = is.keyed;
      goes = record {
        between = between;
        up = comes-up ordinal message looks found;
        flag = is.flag;
        command = is.command;
        work = is.work;
        statements = is.statements;
        asked = is.asked;
        request = is.request;
        hostgroup = is.at;
        numbered = is.numbered;
        keyed_for = is.keyed_for;
        whole = is.whole;
        noted = is.noted;
        same = is.same;
      };
      there = is.there;
      single = is.single;
      under = is.under;
      prepares = is.prepares;
      ruled = is.ruled;
      nothing = is.nothing;
    }

  pub rests-there : IsLookable false row → next.Nothing ≡ next_of service default (old.clients c) → RestsThere service default c old between
  rests-there able is = record { row = row; looks = looks-at next.Nothing able is; same = same }

  pub ends-there : IsLookable false row → next.Ended ≡ next_of service default (old.clients c) → IsToEnd service default c old between
  ends-there able is = record { row = row; looks = looks-at next.Ended able is; lives = able.able.lives; same = same }

  -- the message that is up is taken up
  pub taken-next : (ruling : Ruling) (ordinal : ℕ) (turned : Turn) (new : Tabled) → IsLookable false row → next.Message ordinal ≡ next_of service default (old.clients c)
      → IsUpIn (next.Message ordinal) (between.clients c)
      → OnUp c between (λ up message. IsTakenUp turned ordinal ruling c up message between new) → IsTurned turned ruling service default c old new
  taken-next ruling ordinal turned new able is up taken = by (found_of after) refl where
    seat : Seat
    seat = turn service default row.desk.seat

    ups : IsUp (next.Message ordinal) seat
    ups = subst (IsUpIn (next.Message ordinal)) seated-there up

    by : (found : Option Framed) → found_of after ≡ found → IsTurned turned ruling service default c old new
    by None none =
        let no : false ≡ true = subst (λ (o : Option Framed). IsSome o) none ups.0 in
        absurd (cc)
    by (Some message) found =
        taken-up ruling ordinal message able (looks-at (next.Message ordinal) able is) found ups.1 new turned (taken after seated-there message found)

-- a message is up there
pub up-there : (ordinal : ℕ) (found : Option Client) → IsSome found → IsUpIn (next.Message ordinal) found → IsUpOr found
up-there ordinal None some up = let no : false ≡ true = some in absurd (cc)
up-there ordinal (Some row) some up = record { found = up.0; past_login = up.1 }

pub looked-some : (service : Service) (default : List ℕ) (c : ClientNo) (old between : Tabled) → IsSome (old.clients c)
    → IsSame between (looked service default c old) → IsSome (between.clients c)
looked-some service default c old between some same =
    let at = there-of (old.clients c) some in
    subst (λ (o : Option Client). IsSome o) (sym (seated-there service default c old between at.0 at.1 same)) refl

-- Its row stays.

some-changed : (c : ClientNo) (by : Client → Client) (t new : Tabled) → IsSame new (client_changed c by t) → IsSome (t.clients c) → IsSome (new.clients c)
some-changed c by t new same some =
    let at = there-of (t.clients c) some in
    subst (λ (o : Option Client). IsSome o) (sym (same.clients c ∙ changed-there c by t at.0 at.1)) refl

abbrev left_by : ClientNo → (Seat → Seat) → Tabled → Option Client → Tabled
left_by c by t found = option_map_or (λ (row : Client). client_put c (Some (left_row by row)) (parted_in row.desk.sessions t)) found t

pub left-there : (c : ClientNo) (by : Seat → Seat) (t : Tabled) (row : Client) → t.clients c ≡ Some row → (left_in c by t).clients c ≡ Some (left_row by row)
left-there c by t row there =
    ap (λ (found : Option Client). (left_by c by t found).clients c) there
    ∙ ap (λ (b : Bool). if b then Some (left_row by row) else (parted_in row.desk.sessions t).clients c) (same_number c.0)

some-left : (c : ClientNo) (by : Seat → Seat) (t : Tabled) → IsSome (t.clients c) → IsSome ((left_in c by t).clients c)
some-left c by t some =
    let at = there-of (t.clients c) some in
    subst (λ (o : Option Client). IsSome o) (sym (left-there c by t at.0 at.1)) refl

up-some : {service : Service} {default : List ℕ} {c : ClientNo} {old between : Tabled} → ComesUp service default c old between → IsSome (between.clients c)
up-some {service} {default} {c} {old} {between} up =
    subst (λ (o : Option Client). IsSome o) (sym (seated-there service default c old between up.row up.looks.there up.same)) refl

answered-some : (anew : Bool) (c : ClientNo) (flag : ℕ) (packets : List ℕ) (statements : ClientStatements) (row : Client) (between new : Tabled)
    → MakesAnswer anew c flag packets statements row between new → IsSome (between.clients c) → IsSome (new.clients c)
answered-some true c flag packets statements row between new makes some =
    some-changed c (answers flag packets statements) (left_in c (λ (seat : Seat). seat) between) new makes.1 (some-left c (λ (seat : Seat). seat) between some)
answered-some false c flag packets statements row between new makes some = some-changed c (answers flag packets statements) between new makes some

pub turn-some : (choice : Choice) (service : Service) (default : List ℕ) (c : ClientNo) (old new : Tabled) → IsTurn choice service default c old new
    → IsSome (new.clients c)
turn-some (Goes route keyed) service default c old new is = some-changed c _ is.between new is.same (up-some is.up)
turn-some (Answers payloads) service default c old new is =
    answered-some (is_reset is.up.message) c is.flag is.packets is.statements is.up.row is.between new is.makes (up-some is.up)

-- a choice by what code says of it

module _ (ruling : Ruling) (service : Service) (default : List ℕ) (c : ClientNo) (old new : Tabled) where
  pub answered-choice : IsTurned turns.Answered ruling service default c old new → HasChosen ruling service default c old new
  answered-choice is = record { choice = Answers is.0; said = is.1; turns = is.2 }

  pub due-choice : (hostgroup : Hostgroup) → IsTurned (turns.Due hostgroup) ruling service default c old new → HasChosen ruling service default c old new
  due-choice hostgroup is = record { choice = Goes is.route is.keyed; said = (is.single, is.under, is.prepares); turns = (is.goes, (is.ruled, is.nothing)) }

  pub chosen-some : HasChosen ruling service default c old new → IsSome (new.clients c)
  chosen-some is = turn-some is.choice service default c old new is.turns.0
