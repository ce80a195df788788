-- What one command does to one session, by the laws.
use Rattle.std.specs.Prelude.{◌≡◌, ◌⊎◌, ℕ, Bool, true, false, not, ◌&&◌, ◌||◌, if◌then◌else◌, List, [], ◌∷◌, Option, Some, None}
use Rattle.std.specs.Option.{option_or}
use Rattle.std.proofs.Common.{refl, sym, ap, ◌∙◌, subst, inl, inr}
use Rattle.server_rule.proofs.Ends.{IsSilent, Shows, refused_end}
use Rattle.private_model.proofs.Stands.{Follows, IsPlain, Knows, Suits}
use Rattle.private_model.proofs.Tame.{Tame, is_flagged, is_text, brings_id, flags}
use Rattle.private_model.specs.Commands.{Number, Command, FieldList, InitDb, Prepare, Query, Quit, ReadId, Reply, Reset, Run, SetId, Step, class_of, end_of, hides_of, id_after, is_err, is_ok}
use Rattle.private_model.specs.View.{is_reset, told_after, told_schema}
use Rattle.server_rule.specs.Classes.{Reads}
use Rattle.server_rule.specs.Replies.{one_number}
use Rattle.server_rule.specs.Servers.{Accepts, Tests, is_brief, is_some_of}
use Rattle.server_rule.specs.declared.session.Session.{Session}
use Rattle.session_state.specs.Classes.{Effect, Neither, Tracked, Uses, effect_of, frees, frees_locks, is_lone_savepoint, schema_by, sets_next, settings_by, takes, takes_locks}
use Rattle.session_state.specs.Endings.{shows_neither}
use Rattle.session_state.specs.Pins.{deep_after, is_pinned, locks_after, needs_reset, next_after, no_pin, pin_answered, shows_none, tx_after}
use Rattle.session_state.specs.declared.pin.Pin.{Pin}
use Rattle.session_state.specs.declared.place.Told.{Told}
use Rattle.session_vars.specs.Settings.{defaults}

-- Tests.

pub bool_cases : (b : Bool) → (b ≡ true) ⊎ (b ≡ false)
bool_cases true = inl refl
bool_cases false = inr refl

pub apart : {A : Type 0} {b : Bool} → b ≡ true → b ≡ false → A
apart is isnt = absurd (cc)

pub or_left : (a b : Bool) → (a || b) ≡ false → a ≡ false
or_left true b e = e
or_left false b e = refl

pub or_right : (a b : Bool) → (a || b) ≡ false → b ≡ false
or_right true b e = apart refl e
or_right false b e = e

locks_went : (takes frees old : Bool) → (if takes then true else if frees then false else old) ≡ false → (takes ≡ false) × ((frees ≡ true) ⊎ (old ≡ false))
locks_went true frees old e = apart refl e
locks_went false true old e = (refl, inl refl)
locks_went false false old e = (refl, inr e)

next_went : (sets went old : Bool) → (if sets then true else if went then false else old) ≡ false → (sets ≡ false) × ((went ≡ true) ⊎ (old ≡ false))
next_went true went old e = apart refl e
next_went false true old e = (refl, inl refl)
next_went false false old e = (refl, inr e)

pub and_left : (a b : Bool) → (a && b) ≡ true → a ≡ true
and_left true b e = refl
and_left false b e = e

pub and_right : (a b : Bool) → (a && b) ≡ true → b ≡ true
and_right true b e = e
and_right false b e = apart e refl

none_shown : (shown : Option Bool) → shows_none shown ≡ true → shown ≡ Some false
none_shown (Some true) e = apart e refl
none_shown (Some false) e = refl
none_shown None e = apart e refl

pub is_empty : (xs : List ℕ) → is_some_of xs ≡ false → xs ≡ []
is_empty [] e = refl
is_empty (x ∷ xs) e = apart refl e

brief_none : (xs : List ℕ) → xs ≡ [] → is_brief xs ≡ true
brief_none xs e = ap is_brief e

-- an ERR shows no flags
pub refused_reply : (reply : Reply) → is_err reply ≡ true → IsSilent (end_of reply)
refused_reply reply is = refused_end reply.to_prepare reply.payloads is

-- The Pin.

module _ (reads : Reads) (step : Step) (tests : Tests) (tame : Tame reads tests step) (stored : List ℕ) (s : Session) (ok : Accepts tests stored s) (c : Command) where
  suits_tx : (reply : Reply) (had now : Bool) → ((shown : Bool) → flags reply ≡ Some shown → now ≡ shown) → Shows (end_of reply) → now ≡ tx_after (flags reply) had
  suits_tx reply had now law is = law is.in_trans is.shown ∙ sym (ap (λ f. tx_after f had) is.shown)

  suits_locks : (old : Bool) → (class_of reads c).deep ≡ false → (old ≡ false → s.locks ≡ []) → locks_after (class_of reads c) (end_of (step stored s c).reply) old ≡ false → (step stored s c).session.locks ≡ []
  suits_locks old shallow before e =
      let went : (takes_locks (class_of reads c) (end_of (step stored s c).reply) ≡ false) × ((frees_locks (class_of reads c) (end_of (step stored s c).reply) ≡ true) ⊎ (old ≡ false)) = locks_went _ _ _ e in
      elim went.1 [
        | inl freed ↦ tame.frees stored s ok c freed
        | inr none ↦ tame.text.locks stored s ok c shallow went.0 (before none)
      ]

  -- deep state goes with the transaction that it is of
  suits_ended : (class_of reads c).deep ≡ false → sets_next (class_of reads c) (end_of (step stored s c).reply) ≡ false → is_lone_savepoint (class_of reads c) (end_of (step stored s c).reply) ≡ false
      → is_brief s.deep ≡ true → (is_some_of s.tx ≡ false → s.deep ≡ []) → is_some_of (step stored s c).session.tx ≡ false → (step stored s c).session.deep ≡ []
  suits_ended shallow unset inside brief none over = elim (bool_cases (is_some_of s.tx)) [
    | inl there ↦ tame.text.ended stored s ok c shallow there over brief
    | inr shut ↦ tame.text.none stored s ok c shallow unset inside (none shut)
  ]

  suits_none : is_flagged c ≡ true → (pin : Pin) → Suits pin s → pin.deep ≡ false → (class_of reads c).deep ≡ false → is_lone_savepoint (class_of reads c) (end_of (step stored s c).reply) ≡ false
      → next_after (class_of reads c) (end_of (step stored s c).reply) pin ≡ false → (step stored s c).session.deep ≡ []
  suits_none flagged pin suits was shallow inside e =
      let class = class_of reads c in
      let reply = (step stored s c).reply in
      let went : (sets_next class (end_of reply) ≡ false) × (((pin.tx && (shows_none (flags reply) && not class.next_tx)) ≡ true) ⊎ (pin.next_tx ≡ false)) = next_went _ _ _ e in
      elim went.1 [
        | inl over ↦ suits_ended shallow went.0 inside (suits.brief was) (suits.ended was (and_left _ _ over))
            (tame.in_trans stored s ok c flagged false (none_shown _ (and_left _ _ (and_right pin.tx _ over))))
        | inr unset ↦ tame.text.none stored s ok c shallow went.0 inside (suits.none was unset)
      ]

  suits_past : is_flagged c ≡ true → (pin : Pin) → Suits pin s → pin.deep ≡ false → (class_of reads c).deep ≡ false → is_lone_savepoint (class_of reads c) (end_of (step stored s c).reply) ≡ false
      → (err : Bool) → is_err (step stored s c).reply ≡ err → tx_after (flags (step stored s c).reply) pin.tx ≡ true → is_some_of (step stored s c).session.tx ≡ false → (step stored s c).session.deep ≡ []
  suits_past flagged pin suits was shallow inside false is there over =
      let shows = tame.shows stored s ok c flagged is in
      apart (tame.in_trans stored s ok c flagged shows.in_trans shows.shown ∙ sym (ap (λ f. tx_after f pin.tx) shows.shown) ∙ there) over
  suits_past flagged pin suits was shallow inside true is there over =
      let refused = refused_reply (step stored s c).reply is in
      suits_ended shallow (ap (λ b. (class_of reads c).next_tx && b) refused.not_ok ∙ and_false (class_of reads c).next_tx) inside (suits.brief was) (suits.ended was (sym (ap (λ f. tx_after f pin.tx) refused.silent) ∙ there)) over
    where
      and_false : (b : Bool) → (b && false) ≡ false
      and_false true = refl
      and_false false = refl

  pub suits_after : is_flagged c ≡ true → (multiplex : Option Bool) (pin : Pin) → Suits pin s → Suits (pin_answered (class_of reads c) multiplex (end_of (step stored s c).reply) pin) (step stored s c).session
  suits_after flagged multiplex pin suits =
      let class = class_of reads c in
      let reply = (step stored s c).reply in
      let inside : (deep_after class (end_of reply) pin ≡ false) → is_lone_savepoint class (end_of reply) ≡ false = λ e. or_right class.deep _ (or_right pin.deep _ e) in
      let was : (deep_after class (end_of reply) pin ≡ false) → pin.deep ≡ false = λ e. or_left pin.deep _ e in
      let shallow : (deep_after class (end_of reply) pin ≡ false) → class.deep ≡ false = λ e. or_left class.deep _ (or_right pin.deep _ e) in
      record {
        tx = λ fine. suits_tx reply pin.tx (is_some_of (step stored s c).session.tx) (tame.in_trans stored s ok c flagged) (tame.shows stored s ok c flagged fine);
        locks = λ e none. suits_locks pin.locks (shallow e) (suits.locks (was e)) none;
        brief = λ e. tame.text.brief stored s ok c (shallow e) (inside e) (suits.brief (was e));
        none = λ e none. suits_none flagged pin suits (was e) (shallow e) (inside e) none;
        ended = λ e there over. suits_past flagged pin suits (was e) (shallow e) (inside e) (is_err reply) refl there over;
      }

  -- a step leaves the Pin but for an ERR
  pub suits_step : (pin : Pin) → Suits pin s → (class_of reads c).deep ≡ false → takes (class_of reads c) ≡ false → (class_of reads c).next_tx ≡ false → (class_of reads c).savepoint ≡ false
      → (pin.after_err ≡ false → (step stored s c).session.tx ≡ s.tx) → Suits (record pin { after_err = pin.after_err || is_err (step stored s c).reply }) (step stored s c).session
  suits_step pin suits shallow takes next savepoint calm =
      let reply = (step stored s c).reply in
      let no_takes : takes_locks (class_of reads c) (end_of reply) ≡ false = ap (λ b. b && not (is_err reply)) takes in
      let no_next : sets_next (class_of reads c) (end_of reply) ≡ false = ap (λ b. b && is_ok reply) next in
      let inside : is_lone_savepoint (class_of reads c) (end_of reply) ≡ false = ap (λ b. b && shows_neither (end_of reply)) savepoint in
      record {
        tx = λ fine. ap is_some_of (calm (or_left pin.after_err _ fine)) ∙ suits.tx (or_left pin.after_err _ fine);
        locks = λ was none. tame.text.locks stored s ok c shallow no_takes (suits.locks was none);
        brief = λ was. tame.text.brief stored s ok c shallow inside (suits.brief was);
        none = λ was none. tame.text.none stored s ok c shallow no_next inside (suits.none was none);
        ended = λ was there over. suits_ended shallow no_next inside (suits.brief was) (suits.ended was there) over;
      }

  -- What is told.

  schema_told : (shape : Effect) (ok : Bool) (told : Option (List ℕ)) (was now : List ℕ) → now ≡ schema_by shape ok was → ((name : List ℕ) → told ≡ Some name → was ≡ name)
      → (name : List ℕ) → told_schema shape ok told ≡ Some name → now ≡ name
  schema_told (Uses schema) true told was now law before name e = cc
  schema_told (Uses schema) false told was now law before name e = law ∙ before name e
  schema_told (Tracked changes) ok told was now law before name e = law ∙ before name e
  schema_told Neither ok told was now law before name e = law ∙ before name e

  told_go : (reset : Bool) → reset ≡ false → (told : Told) → (class_of reads c).deep ≡ false → Follows told s
      → Follows (if reset then record { schema = None; settings = defaults } else record { schema = told_schema (effect_of (class_of reads c)) (is_ok (step stored s c).reply) told.schema; settings = settings_by (effect_of (class_of reads c)) (is_ok (step stored s c).reply) told.settings }) (step stored s c).session
  told_go true e told shallow before = apart refl e
  told_go false e told shallow before = record {
    schema = schema_told (effect_of (class_of reads c)) (is_ok (step stored s c).reply) told.schema s.schema (step stored s c).session.schema (tame.text.schema stored s ok c shallow) before.schema;
    settings = tame.text.settings stored s ok c shallow ∙ ap (settings_by (effect_of (class_of reads c)) (is_ok (step stored s c).reply)) before.settings;
  }

  pub follows_after : (told : Told) → is_reset c ≡ false → (class_of reads c).deep ≡ false → Follows told s → Follows (told_after reads c (step stored s c).reply told) (step stored s c).session
  follows_after told no_reset shallow before = told_go (is_reset c) no_reset told shallow before

-- The insert id.

known_still : (b : Bool) (id : Option ℕ) (n : ℕ) → (if b then None else id) ≡ Some n → id ≡ Some n
known_still true id n e = cc
known_still false id n e = e

module _ (reads : Reads) (step : Step) (tests : Tests) (tame : Tame reads tests step) (stored : List ℕ) (s : Session) (ok : Accepts tests stored s) where
  -- without the mark it stays
  pub id_stays : (c : Command) → (class_of reads c).marks_id ≡ false → (step stored s c).session.last_id ≡ s.last_id
  id_stays c unmarked = ap (λ o. o.session.last_id) (tame.blind.last_id stored s ok c s.last_id unmarked)

  text_knows : (c : Command) → is_text c ≡ true → (marks deep hides brings : Bool) → (class_of reads c).marks_id ≡ marks → (class_of reads c).deep ≡ deep → hides_of reads c ≡ hides → brings_id (step stored s c).reply ≡ brings
      → (id : Option ℕ) → Knows id s → (n : ℕ) → (if (marks && (deep || (hides || brings))) then None else id) ≡ Some n → (step stored s c).session.last_id ≡ n
  text_knows c text false deep hides brings m d h b id before n e = id_stays c m ∙ before.is n e
  text_knows c text true true hides brings m d h b id before n e = cc
  text_knows c text true false true brings m d h b id before n e = cc
  text_knows c text true false false true m d h b id before n e = cc
  text_knows c text true false false false m d h b id before n e = tame.id.kept stored s ok c text d h b ∙ before.is n e

  set_knows : (k : Number) (ok : Bool) → is_ok (step stored s (SetId k)).reply ≡ ok → (id : Option ℕ) → Knows id s → (n : ℕ) → (if ok then Some k.value else id) ≡ Some n → (step stored s (SetId k)).session.last_id ≡ n
  set_knows k true is id before n e = let set = ap (λ (x : Session). x.last_id) (tame.id.set_done stored s ok k is) in cc
  set_knows k false is id before n e = ap (λ (x : Session). x.last_id) (tame.id.set_refused stored s ok k is) ∙ before.is n e

  read_by : (err : Bool) (row id : Option ℕ) → Knows id s → (err ≡ true) ⊎ (row ≡ Some s.last_id) → (n : ℕ) → (if err then id else option_or row id) ≡ Some n → s.last_id ≡ n
  read_by true row id before law n e = before.is n e
  read_by false None id before law n e = before.is n e
  read_by false (Some k) id before law n e = elim law [
    | inl refused ↦ apart refused refl
    | inr same ↦ cc
  ]

  pub read_knows : (id : Option ℕ) → Knows id s → (n : ℕ) → id_after reads ReadId (step stored s ReadId).reply id ≡ Some n → s.last_id ≡ n
  read_knows id before n e = read_by (is_err (step stored s ReadId).reply) (one_number (step stored s ReadId).reply.payloads) id before (tame.id.read_row stored s ok) n e

  pub knows_after : (c : Command) (id : Option ℕ) → Knows id s → Knows (id_after reads c (step stored s c).reply id) (step stored s c).session
  knows_after (Query text) id before = record { is = text_knows (Query text) refl _ _ _ _ refl refl refl refl id before }
  knows_after (Run text schema settings args) id before = record { is = text_knows (Run text schema settings args) refl _ _ _ _ refl refl refl refl id before }
  knows_after (Prepare text) id before = record { is = λ n e. ap (λ (x : Session). x.last_id) (tame.prepare.session stored s ok text) ∙ before.is n (known_still _ id n e) }
  knows_after (InitDb schema) id before = record { is = λ n e. ap (λ (x : Session). x.last_id) (tame.uses.session stored s ok (InitDb schema) schema refl) ∙ before.is n e }
  knows_after (FieldList rest) id before = record { is = λ n e. ap (λ (x : Session). x.last_id) (tame.prepare.fields_session stored s ok rest) ∙ before.is n e }
  knows_after (SetId k) id before = record { is = set_knows k _ refl id before }
  knows_after ReadId id before = record { is = λ n e. ap (λ (x : Session). x.last_id) (tame.id.read_session stored s ok) ∙ read_knows id before n e }
  knows_after Reset id before = record { is = λ n e. let fresh_one = ap (λ (x : Session). x.last_id) (tame.reset.session stored s ok) in cc }
  knows_after Quit id before = record { is = λ n e. cc }

  -- After a reset.

  pub suits_reset : (step stored s Reset).session.deep ≡ [] → Suits no_pin (step stored s Reset).session
  suits_reset none =
      let law = tame.reset.session stored s ok in
      record { tx = λ e. ap (λ (x : Session). is_some_of x.tx) law; locks = λ e f. ap (λ (x : Session). x.locks) law; brief = λ e. ap is_brief none; none = λ e f. none; ended = λ e f g. none }

  pub follows_reset : Follows (record { schema = None; settings = defaults }) (step stored s Reset).session
  follows_reset = subst (λ x. Follows (record { schema = None; settings = defaults }) x) (sym (tame.reset.session stored s ok)) (record { schema = λ name e. cc; settings = refl })

  pub plain_quit : IsPlain (step stored s Quit).session
  plain_quit = subst IsPlain (sym (tame.reset.quit_session stored s ok)) (record { tx = refl; locks = refl; deep = refl })

-- A session with an empty Pin, and one that needs no reset.

pub plain_suits : (pin : Pin) (s : Session) → pin.tx ≡ false → IsPlain s → Suits pin s
plain_suits pin s out plain = record {
  tx = λ e. ap is_some_of plain.tx ∙ sym out;
  locks = λ e f. plain.locks;
  brief = λ e. ap is_brief plain.deep;
  none = λ e f. plain.deep;
  ended = λ e f g. plain.deep;
}

pub suits_plain : (pin : Pin) (s : Session) → needs_reset pin ≡ false → Suits pin s → IsPlain s
suits_plain pin s harmless suits =
    let tx : pin.tx ≡ false = or_left pin.tx _ harmless in
    let e1 : (pin.after_err || (pin.locks || (pin.next_tx || (pin.deep || (pin.uncommitted || pin.rule))))) ≡ false = or_right pin.tx _ harmless in
    let e2 : (pin.locks || (pin.next_tx || (pin.deep || (pin.uncommitted || pin.rule)))) ≡ false = or_right pin.after_err _ e1 in
    let e3 : (pin.next_tx || (pin.deep || (pin.uncommitted || pin.rule))) ≡ false = or_right pin.locks _ e2 in
    let deep : pin.deep ≡ false = or_left pin.deep _ (or_right pin.next_tx _ e3) in
    record {
      tx = is_empty s.tx (suits.tx (or_left pin.after_err _ e1) ∙ tx);
      locks = suits.locks deep (or_left pin.locks _ e2);
      deep = suits.none deep (or_left pin.next_tx _ e3);
    }

pub unpinned_harmless : (pin : Pin) → is_pinned pin ≡ false → needs_reset pin ≡ false
unpinned_harmless pin e = or_left (needs_reset pin) _ e

pub harmless_shallow : (pin : Pin) → needs_reset pin ≡ false → pin.deep ≡ false
harmless_shallow pin e = or_left pin.deep _ (or_right pin.next_tx _ (or_right pin.locks _ (or_right pin.after_err _ (or_right pin.tx _ e))))
