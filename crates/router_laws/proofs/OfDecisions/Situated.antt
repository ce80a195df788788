-- What the core knows of a client by its desk is so of it as its message is taken up.
use Rattle.std.specs.Prelude.{◌≡◌, ◌<◌, ◌-◌, ℕ, suc, Bool, true, false, drop, is_some, not, take, if◌then◌else◌, List, [], Option, Some, None}
use Rattle.std.specs.List.{list_any}
use Rattle.std.specs.Option.{option_and_then, option_map}
use Rattle.std.proofs.Common.{refl, sym, ap, ◌∙◌, arith}
use Rattle.std.proofs.lemmas.Bool.{leb-false}
use Rattle.packet_frame.specs.Packets.{Framed}
use Rattle.pin_classifier.specs.Classes.{class_of}
use Rattle.private_model.specs.Names.{ClientNo, Hostgroup}
use Rattle.private_model.specs.Story.{Key}
use Rattle.private_model.specs.View.{Setup}
use Rattle.log_story.specs.Executes as executes
use Rattle.log_story.specs.Owed.{messages}
use Rattle.log_story.specs.Plan.{Plan}
use Rattle.log_story.specs.Tale.{Client, Tale, view_of}
use Rattle.stmt_map.specs.Client.{statement_at}
use Rattle.stmt_map.specs.declared.statement.Statement.{Statement}
use Rattle.client_seat.specs.Numbers.{drops, number_in, numbered}
use Rattle.client_seat.specs.Stands.{IsNumbered}
use Rattle.client_desk.specs.declared.desk.Desk.{Desk}
use Rattle.core_laws.specs.clients.Found.{IsFoundIn, known_at}
use Rattle.router_promises.specs.Statements.{are_types, between, is_live, known_statement}
use Rattle.router_promises.specs.Takings.{Taking}
use Rattle.message_judge.specs.declared.caller.Prepared.{Prepared}
use Rattle.core_promises.proofs.Knowing.{KnowsMore}
use Rattle.core_promises.specs.Judges.{held_of, situation_of}
use Rattle.core_promises.specs.Ruled.{known_as, known_by, situation_at}
use Rattle.core_promises.specs.Statements.{prepared_as, prepared_on, statement_of}
use Rattle.router_laws.specs.decisions.Judges.{HasKeys}

none_is : {A B : Type 0} (a : A) → None ≡ Some a → B
none_is a is = absurd (let no = is in cc)

-- What stands under a number is known there.
module _ (setup : Setup) (plan : Plan) (client : Client) (tale : Tale) (number : ℕ) (s : Statement)
    (is : IsNumbered (known_at setup plan tale) client (λ (key : ℕ). key) number (numbered s)) where
  abbrev sent : List Framed
  sent = messages plan client

  abbrev pub known : executes.Prepared
  known = record { key = s.prepared.key; params = s.prepared.params; ordinal = is.ordinal }

  since : between (suc is.ordinal) (suc client.taken) sent ≡ drop is.ordinal (take client.taken sent)
  since =
      let first : suc is.ordinal - 1 ≡ is.ordinal = omega arith in
      let last : suc client.taken - 1 ≡ client.taken = omega arith in
      λ i. drop (first i) (take (last i) sent)

  live : is_live plan client number (suc client.taken) known ≡ true
  live =
      ap (λ (ms : List Framed). not (list_any (λ (m : Framed). drops number m.payload) ms)) since
      ∙ ap not is.live

  pub stands : known_statement (view_of setup tale) plan client number (suc client.taken) ≡ Some known
  stands =
      ap (option_and_then (λ (p : executes.Prepared). if is_live plan client number (suc client.taken) p then Some p else None)) is.prepared
      ∙ ap (λ (b : Bool). if b then Some known else None) live

module _ (setup : Setup) (plan : Plan) (client : Client) (tale : Tale) (keys : (key : ℕ) → Option Key) (has : HasKeys keys setup) where
  module _ (number : ℕ) (s : Statement) (is : IsNumbered (known_at setup plan tale) client (λ (key : ℕ). key) number (numbered s)) where
    abbrev its : executes.Prepared
    its = known setup plan client tale number s is

    -- as it is known there
    known_so : (key : Key) → keys s.prepared.key ≡ Some key → prepared_as setup plan client number its is.route ≡ known_as key s
    known_so key at =
        let same : setup.keys s.prepared.key ≡ key = has s.prepared.key key at in
        λ i. record {
          text = (same i).text;
          place = (same i).place;
          params = s.prepared.params;
          bound = are_types s.prepared.params (is.bound i).types;
          hostgroup = is.hostgroup i;
          multiplex = is.multiplex i;
          class = class_of (same i).text;
        }

    statement_so : (key : Key) → keys s.prepared.key ≡ Some key → statement_of setup plan client tale number ≡ Some (known_as key s)
    statement_so key at =
        ap (option_and_then (prepared_on setup plan client number)) (stands setup plan client tale number s is)
        ∙ ap (option_map (prepared_as setup plan client number its)) is.went
        ∙ ap (λ (p : Prepared). Some p) (known_so key at)

    by_key : (found : Option Key) → keys s.prepared.key ≡ found → (prepared : Prepared) → option_map (λ (key : Key). known_as key s) found ≡ Some prepared
        → statement_of setup plan client tale number ≡ Some prepared
    by_key None at prepared same = none_is prepared same
    by_key (Some key) at prepared same = statement_so key at ∙ same

module _ (setup : Setup) (plan : Plan) (taking : Taking) (keys : (key : ℕ) → Option Key) (has : HasKeys keys setup) (c : ClientNo)
    (number_is : taking.client.number ≡ c) (desk : Desk) (up : Framed) (message : Option Framed) (at : IsFoundIn c desk up setup plan taking message) where
  statements_so : (number : ℕ) (found : Option Statement) → statement_at desk.seat.statements number ≡ found → (prepared : Prepared)
      → option_and_then (known_by keys) found ≡ Some prepared → statement_of setup plan taking.client taking.tale number ≡ Some prepared
  statements_so number None is prepared same = none_is prepared same
  statements_so number (Some s) is prepared same =
      by_key setup plan taking.client taking.tale keys has number s (at.prepared number (numbered s) (ap (option_map numbered) is)) (keys s.prepared.key) refl
      prepared same

  -- and what its client knows stands there

  there_by : (number : ℕ) (found : Option executes.Prepared)
      → known_statement (view_of setup taking.tale) plan taking.client number (suc taking.client.taken) ≡ found → 0 < number
      → is_some (option_and_then (prepared_on setup plan taking.client number) found) ≡ true → is_some (number_in desk.seat.statements number) ≡ true
  there_by number None is some there = absurd (let never : false ≡ true = there in cc)
  there_by number (Some made) is some there = at.known number made some is

  mapped_some : (found : Option Statement) → is_some (option_map numbered found) ≡ true → is_some found ≡ true
  mapped_some None is = is
  mapped_some (Some s) is = refl

  statement_there : (number : ℕ) → 0 < number → is_some (statement_of setup plan taking.client taking.tale number) ≡ true
      → is_some (statement_at desk.seat.statements number) ≡ true
  statement_there number some there =
      mapped_some (statement_at desk.seat.statements number)
      (there_by number (known_statement (view_of setup taking.tale) plan taking.client number (suc taking.client.taken)) refl some there)

  module _ (kept : (number : ℕ) (s : Statement) → 0 < number → statement_at desk.seat.statements number ≡ Some s
      → is_some (keys s.prepared.key) ≡ true) where
    known_back : (number : ℕ) (s : Statement) → statement_at desk.seat.statements number ≡ Some s → (found : Option Key)
        → keys s.prepared.key ≡ found → is_some found ≡ true → (prepared : Prepared)
        → statement_of setup plan taking.client taking.tale number ≡ Some prepared → known_by keys s ≡ Some prepared
    known_back number s is None key some prepared there = absurd (let never : false ≡ true = some in cc)
    known_back number s is (Some key) at_key some prepared there =
        let so : known_by keys s ≡ Some (known_as key s) = ap (option_map (λ (k : Key). known_as k s)) at_key in
        so ∙ (sym (statements_so number (Some s) is (known_as key s) so) ∙ there)

    statement_back : (number : ℕ) → 0 < number → (found : Option Statement) → statement_at desk.seat.statements number ≡ found
        → is_some found ≡ true → (prepared : Prepared) → statement_of setup plan taking.client taking.tale number ≡ Some prepared
        → option_and_then (known_by keys) found ≡ Some prepared
    statement_back number some None is there prepared stated = absurd (let never : false ≡ true = there in cc)
    statement_back number some (Some s) is there prepared stated =
        known_back number s is (keys s.prepared.key) refl (kept number s some is) prepared stated

    pub situated : KnowsMore (situation_at keys desk) (situation_of setup plan taking)
    situated = record {
      port = at.port;
      user = ap (λ (n : ClientNo). (setup.accounts n).user) number_is ∙ sym at.login;
      place = ap (λ (n : ClientNo). (view_of setup taking.tale).places n) number_is ∙ at.place;
      pins = ap (λ (n : ClientNo). λ (h : Hostgroup). (held_of setup taking.tale n h).pin) number_is ∙ (λ i. λ h. (at.held h i).pin);
      homes = ap (λ (n : ClientNo). λ (h : Hostgroup). (held_of setup taking.tale n h).home) number_is ∙ (λ i. λ h. (at.held h i).home);
      statements = λ number prepared is. statements_so number (statement_at desk.seat.statements number) refl prepared is;
      back = λ number prepared some is.
          statement_back number some (statement_at desk.seat.statements number) refl
          (statement_there number some (ap is_some is)) prepared is;
      given = λ number is. ap is_some (at.unused number (leb-false number desk.seat.statements.last is));
    }
