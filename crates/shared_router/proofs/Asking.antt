-- What goes to a server asks it for something.
use Rattle.std.specs.Prelude.{◌≡◌, ℕ, suc, Bool, true, false, ◌||◌, is_some, nat_eq, if◌then◌else◌, List, [], ◌∷◌, Option, Some, None}
use Rattle.std.specs.Option.{option_and_then, option_map}
use Rattle.std.proofs.Common.{refl, sym, ap, ◌∙◌, subst}
use Rattle.mx_base.specs.declared.names.{Port.Port, Port.TheVariants.Admin, Port.TheVariants.Traffic}
use Rattle.mx_base.specs.Fields.{number_at}
use Rattle.hostgroups.specs.declared.server.Server.{Server}
use Rattle.packet_frame.specs.Packets.{Framed}
use Rattle.private_model.proofs.Maps.{number_of}
use Rattle.private_model.specs.View.{Setup, View}
use Rattle.log_story.specs.Executes.{Prepared, executed_by, prepared_by, requested}
use Rattle.log_story.specs.Owed.{messages}
use Rattle.log_story.specs.Plan.{Plan, Route, com_execute, com_field_list, com_init_db, com_long_data, com_prepare, com_query, com_reset}
use Rattle.log_story.specs.Tale.{Client, view_of}
use Rattle.tale_world.specs.Deciding.{World}
use Rattle.router_promises.specs.Statements.{com_close, is_live, known_statement}
use Rattle.router_promises.specs.Takings.{Taking}
use Rattle.router_promises.specs.Terms.{Terms, plan_in, setup_in}
use Rattle.router_promises.specs.Verdicts.{Asks, Chooses, Executes, Kind, Lists, Malformed, Pings, Prepares, Quits, ResetsStatement, Restarts, Silent, Unknown, Unprepared}
use Rattle.router_promises.specs.Verdicts.{com_fetch, com_ping, com_quit, executed, is_with_number, kind_in, kind_of, verdict_at, verdict_by, with_number}
use Rattle.shared_router.specs.Fixed.{Fixed}
use Rattle.shared_router.specs.More.{More, terms_of}
use Rattle.shared_router.specs.Shared.{goes_by, judged_by, route_by, starves_now}

no_some : {A B : Type 0} (a : A) → None ≡ Some a → B
no_some a is = absurd (cc)

-- a message of this kind may go to a server
abbrev pub MayGo : Kind → Type 0
MayGo Chooses = Unit {0}
MayGo Lists = Unit {0}
MayGo (Asks text) = Unit {0}
MayGo (Prepares text) = Unit {0}
MayGo (Executes prepared) = Unit {0}
MayGo _ = ⊥

module _ (fixed : Fixed) (terms : Terms) (servers : List Server) (flag : ℕ) (taking : Taking) (r : Route) where
  may_go : (kind : Kind) → goes_by fixed (verdict_by terms servers flag taking kind) ≡ Some r → MayGo kind
  may_go Chooses is = tt
  may_go Lists is = tt
  may_go (Asks text) is = tt
  may_go (Prepares text) is = tt
  may_go (Executes prepared) is = tt
  may_go Quits is = no_some r is
  may_go Pings is = no_some r is
  may_go Restarts is = no_some r is
  may_go ResetsStatement is = no_some r is
  may_go Silent is = no_some r is
  may_go (Unprepared number) is = no_some r is
  may_go Malformed is = no_some r is
  may_go Unknown is = no_some r is

  pub may_go_at : (port : Port) (kind : Kind) → goes_by fixed (verdict_at port terms servers flag taking kind) ≡ Some r → MayGo kind
  may_go_at Traffic kind is = may_go kind is
  may_go_at Admin Quits is = no_some r is
  may_go_at Admin _ is = no_some r is

module _ (setup : Setup) (view : View) (plan : Plan) (client : Client) (ordinal : ℕ) (route : Route) where
  abbrev IsAsked : (payload : List ℕ) → Type 0
  IsAsked payload = is_some (requested setup view plan client ordinal route payload) ≡ true

  abbrev Fine : (payload : List ℕ) → Kind → Type 0
  Fine payload kind = MayGo kind → IsAsked payload

  -- what is known was prepared
  prepared_of : (live : Prepared → Bool) (o : Option Prepared) (prepared : Prepared) → option_and_then (λ p. if live p then Some p else None) o ≡ Some prepared → is_some o ≡ true
  prepared_of live None prepared is = no_some prepared is
  prepared_of live (Some p) prepared is = refl

  mapped : {A B : Type 0} (f : A → B) (o : Option A) → is_some o ≡ true → is_some (option_map f o) ≡ true
  mapped f None is = absurd (cc)
  mapped f (Some a) is = refl

  executed_fine : (number : ℕ) (rest : List ℕ) (o : Option Prepared) → known_statement view plan client number ordinal ≡ o → number_at 4 1 (com_execute ∷ rest) ≡ Some number
      → Fine (com_execute ∷ rest) (executed plan client ordinal number (com_execute ∷ rest) o)
  executed_fine number rest None known at = λ may. absurd may
  executed_fine number rest (Some prepared) known at = λ may.
      ap (λ n. is_some (option_and_then (executed_by setup view plan client ordinal route (com_execute ∷ rest)) n)) at
      ∙ mapped _ (prepared_by view plan client number 1 (messages plan client))
      (prepared_of (is_live plan client number ordinal) (prepared_by view plan client number 1 (messages plan client)) prepared known)

  numbered_fine : (rest : List ℕ) (o : Option ℕ) → number_at 4 1 (com_execute ∷ rest) ≡ o → Fine (com_execute ∷ rest) (with_number view plan client ordinal com_execute (com_execute ∷ rest) o)
  numbered_fine rest None at = λ may. absurd may
  numbered_fine rest (Some number) at = executed_fine number rest (known_statement view plan client number ordinal) refl at

  -- other commands with a number ask for nothing
  other_numbered : (byte : ℕ) (payload : List ℕ) (o : Option ℕ) → nat_eq byte com_execute ≡ false → MayGo (with_number view plan client ordinal byte payload o) → ⊥
  other_numbered byte payload None apart may = may
  other_numbered byte payload (Some number) apart may =
      by_fetch (nat_eq byte com_fetch) (subst (λ b. MayGo (if b then executed plan client ordinal number payload (known_statement view plan client number ordinal) else if nat_eq byte com_fetch then Unprepared number else if is_some (known_statement view plan client number ordinal) then ResetsStatement else Unprepared number)) apart may)
    where
      by_known : (b : Bool) → MayGo (if b then ResetsStatement else Unprepared number) → ⊥
      by_known true may = may
      by_known false may = may

      by_fetch : (b : Bool) → MayGo (if b then Unprepared number else if is_some (known_statement view plan client number ordinal) then ResetsStatement else Unprepared number) → ⊥
      by_fetch true may = may
      by_fetch false may = by_known (is_some (known_statement view plan client number ordinal)) may

  number_fine : (byte : ℕ) (rest : List ℕ) → (b : Bool) → nat_eq byte com_execute ≡ b → Fine (byte ∷ rest) (with_number view plan client ordinal byte (byte ∷ rest) (number_at 4 1 (byte ∷ rest)))
  number_fine byte rest true same =
      subst (λ n. Fine (n ∷ rest) (with_number view plan client ordinal n (n ∷ rest) (number_at 4 1 (n ∷ rest)))) (sym (number_of byte com_execute same))
      (numbered_fine rest (number_at 4 1 (com_execute ∷ rest)) refl)
  number_fine byte rest false apart = λ may. absurd (other_numbered byte (byte ∷ rest) (number_at 4 1 (byte ∷ rest)) apart may)

  either_fine : (payload : List ℕ) (b : Bool) (x y : Kind) → (b ≡ true → Fine payload x) → Fine payload y → Fine payload (if b then x else y)
  either_fine payload true x y first second = first refl
  either_fine payload false x y first second = second

  pub kind_fine : (payload : List ℕ) → Fine payload (kind_of view plan client ordinal payload)
  kind_fine [] = λ may. absurd may
  kind_fine (byte ∷ rest) =
      either_fine (byte ∷ rest) (nat_eq byte com_query) (Asks rest) _ (λ same. λ may. subst (λ n. IsAsked (n ∷ rest)) (sym (number_of byte com_query same)) refl)
      (either_fine (byte ∷ rest) (nat_eq byte com_prepare) (Prepares rest) _ (λ same. λ may. subst (λ n. IsAsked (n ∷ rest)) (sym (number_of byte com_prepare same)) refl)
      (either_fine (byte ∷ rest) (nat_eq byte com_init_db) Chooses _ (λ same. λ may. subst (λ n. IsAsked (n ∷ rest)) (sym (number_of byte com_init_db same)) refl)
      (either_fine (byte ∷ rest) (nat_eq byte com_field_list) Lists _ (λ same. λ may. subst (λ n. IsAsked (n ∷ rest)) (sym (number_of byte com_field_list same)) refl)
      (either_fine (byte ∷ rest) (nat_eq byte com_quit) Quits _ (λ same. λ may. absurd may)
      (either_fine (byte ∷ rest) (nat_eq byte com_ping) Pings _ (λ same. λ may. absurd may)
      (either_fine (byte ∷ rest) (nat_eq byte com_reset) Restarts _ (λ same. λ may. absurd may)
      (either_fine (byte ∷ rest) (nat_eq byte com_long_data || nat_eq byte com_close) Silent _ (λ same. λ may. absurd may)
      (either_fine (byte ∷ rest) (is_with_number byte) _ Unknown (λ same. number_fine byte rest (nat_eq byte com_execute) refl) (λ may. absurd may)))))))))

-- so what goes as it comes up asks for something
pub route_asks : (fixed : Fixed) (w : World More) (client : Client) (message : Framed) (r : Route) → route_by fixed w client message ≡ Some r
    → is_some (requested (setup_in (terms_of fixed w)) (view_of (setup_in (terms_of fixed w)) w.tale) (plan_in (terms_of fixed w)) client (suc client.taken) r message.payload) ≡ true
route_asks fixed w client message r is = by_test (starves_now fixed w client) is where
  terms : Terms
  terms = terms_of fixed w

  taking : Taking
  taking = record { client = client; message = message; tale = w.tale }

  by_test : (b : Bool) → (if b then None else goes_by fixed (judged_by fixed w client message)) ≡ Some r
      → is_some (requested (setup_in terms) (view_of (setup_in terms) w.tale) (plan_in terms) client (suc client.taken) r message.payload) ≡ true
  by_test true is = no_some r is
  by_test false is =
      kind_fine (setup_in terms) (view_of (setup_in terms) w.tale) (plan_in terms) client (suc client.taken) r message.payload
      (may_go_at fixed terms w.more.servers (w.more.flags client.number) taking r client.port (kind_in terms taking) is)
