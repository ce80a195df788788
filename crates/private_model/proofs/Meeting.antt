-- A session on a link and the private one that it is for: what one more command leaves of it.
use Rattle.std.specs.Prelude.{◌≡◌, ◌⊎◌, ℕ, Bool, true, false, not, ◌||◌, ◌&&◌, if◌then◌else◌, nat_lt, List, [], Option, Some, None}
use Rattle.std.proofs.Common.{refl, sym, ap, ◌∙◌, subst, inl, inr}
use Rattle.pin_classifier.specs.declared.class.Class.{Class}
use Rattle.private_model.proofs.Pairs.{IsAlikeAfter, alike_after, alike_set, reset_session}
use Rattle.private_model.proofs.Sessions.{apart, follows_after, follows_reset, is_empty, knows_after, or_left, or_right, plain_suits, read_knows, refused_reply, suits_after, suits_reset, suits_step, unpinned_harmless}
use Rattle.private_model.proofs.Stands.{Follows, IfAlive, IsFree, IsJoined, IsPlain, IsTogether, Knows, Suits}
use Rattle.private_model.proofs.Tame.{SeesSame, Tame, account_of, brings_id, flags}
use Rattle.private_model.specs.Commands.{Number, Account, Args, Command, FieldList, InitDb, Prepare, Query, Quit, ReadId, Reply, Reset, Run, SetId, Step, class_of, end_of, id_after, is_err, is_marked, is_ok, pin_statement}
use Rattle.private_model.specs.Lawful.{Begins, GoesOn, IsOwnStep, IsStepOf, is_statement}
use Rattle.private_model.specs.Story.{Due}
use Rattle.private_model.specs.View.{Setup, is_quit, is_reset, told_after}
use Rattle.private_model.specs.Worlds.{placed, readied}
use Rattle.server_rule.specs.Classes.{Reads, core}
use Rattle.server_rule.specs.Servers.{Accepts, AgreeWhere, Tests, is_some_of, with_diag, with_id}
use Rattle.server_rule.specs.declared.session.Session.{Session}
use Rattle.session_state.specs.Classes.{frees, leaves_diag, leaves_found, sets_autocommit, takes}
use Rattle.session_state.specs.Endings.{shows_neither, warns}
use Rattle.session_state.specs.Pins.{deep_after, is_pinned, no_pin, pin_answered, pin_prepared, shows_none, tx_after}
use Rattle.session_state.specs.declared.names.SessionName.{SessionName}
use Rattle.session_state.specs.declared.pin.Pin.{Pin}
use Rattle.session_state.specs.declared.place.Told.{Told}
use Rattle.session_state.specs.declared.reply_end.ReplyEnd.{ReplyEnd}
use Rattle.session_vars.specs.declared.change.SlotValue.{SlotValue}

session_by : (a b : Session) → a.user ≡ b.user → a.capabilities ≡ b.capabilities → a.schema ≡ b.schema → a.settings ≡ b.settings → a.last_id ≡ b.last_id → a.tx ≡ b.tx → a.locks ≡ b.locks → a.deep ≡ b.deep → a.diag ≡ b.diag → a ≡ b
session_by a b user capabilities schema settings last_id tx locks deep diag = λ i. record { user = user i; capabilities = capabilities i; schema = schema i; settings = settings i; last_id = last_id i; tx = tx i; locks = locks i; deep = deep i; diag = diag i }

-- A Run of one text at one schema, with settings that differ in autocommit alone.
pub record IsRunLike (reads : Reads) (there here : Command) : Type 0 where
  pub text : List ℕ
  pub schema : List ℕ
  pub of_link : List SlotValue
  pub of_session : List SlotValue
  pub args : Args
  pub is_there : there ≡ Run text schema of_link args
  pub is_here : here ≡ Run text schema of_session args
  pub core : core of_link ≡ core of_session

abbrev pub IsDecoded : Reads → (there here : Command) → Type 0
IsDecoded reads there here = (there ≡ here) ⊎ IsRunLike reads there here

-- what a session of its own runs does what the command on the link would do there
pub own_same : (reads : Reads) (tests : Tests) (step : Step) → Tame reads tests step → (stored : List ℕ) (p : Session) → Accepts tests stored p → (there here : Command) → IsDecoded reads there here → step stored p here ≡ step stored p there
own_same reads tests step tame stored p ok there here is = elim is [
  | inl same ↦ ap (λ c. step stored p c) (sym same)
  | inr like ↦ ap (λ c. step stored p c) like.is_here ∙ tame.prepare.core stored p ok like.text like.schema like.of_link like.of_session like.args like.core ∙ sym (ap (λ c. step stored p c) like.is_there)
]

-- A command is decoded with the place of its preparation: what is known of it by its text stays.

pub record IsRunOf (there c : Command) : Type 0 where
  pub text : List ℕ
  pub schema : List ℕ
  pub settings : List SlotValue
  pub schema' : List ℕ
  pub settings' : List SlotValue
  pub args : Args
  pub is_there : there ≡ Run text schema' settings' args
  pub is_told : c ≡ Run text schema settings args

abbrev pub IsTextOf : (there c : Command) → Type 0
IsTextOf there c = (there ≡ c) ⊎ IsRunOf there c

-- a fact that holds of each Run of a text, if of one
pub of_text : (P : Command → Type 0) → ((text schema : List ℕ) (settings : List SlotValue) (schema' : List ℕ) (settings' : List SlotValue) (args : Args) → P (Run text schema' settings' args) → P (Run text schema settings args)) → (there c : Command) → IsTextOf there c → P there → P c
of_text P run there c is x = elim is [
  | inl same ↦ subst P same x
  | inr of ↦ subst P (sym of.is_told) (run of.text of.schema of.settings of.schema' of.settings' of.args (subst P of.is_there x))
]

pub back_text : (P : Command → Type 0) → ((text schema : List ℕ) (settings : List SlotValue) (schema' : List ℕ) (settings' : List SlotValue) (args : Args) → P (Run text schema settings args) → P (Run text schema' settings' args)) → (there c : Command) → IsTextOf there c → P c → P there
back_text P run there c is x = elim is [
  | inl same ↦ subst P (sym same) x
  | inr of ↦ subst P (sym of.is_there) (run of.text of.schema of.settings of.schema' of.settings' of.args (subst P of.is_told x))
]

-- what the law on the insert id looks at is marked
pub mark_of : (reads : Reads) (c : Command) → (class_of reads c).marks_id ≡ true → is_marked reads c ≡ true
mark_of reads (Prepare text) e = apart e refl
mark_of reads (Run text schema settings args) e = e
mark_of reads Reset e = e
mark_of reads Quit e = e
mark_of reads _ e = e

-- A statement meets the session of its own.
pub record IsMet (tests : Tests) (reads : Reads) (c : Command) (user : Account) (marked : Bool) (told : Told) (link_id : Option ℕ) (pin : Pin) (id : Option ℕ) (s p : Session) : Type 0 where
  pub account : account_of s ≡ user
  pub rest : p ≡ with_diag p.diag (with_id p.last_id s)
  pub diag : SeesSame reads tests c p.diag s.diag
  pub own : is_pinned pin ≡ true → AgreeWhere tests pin.own_diag pin.own_found p.diag s.diag
  pub marks : is_marked reads c ≡ true → p.last_id ≡ s.last_id
  pub last_id : marked ≡ true → p.last_id ≡ s.last_id
  pub follows : pin.deep ≡ false → Follows told s
  pub knows : Knows link_id s
  pub suits : Suits pin p
  pub of_session : Knows id p
  pub unknown : id ≡ None → marked ≡ true

agreed : (link_id id : Option ℕ) (n : ℕ) (s p : Session) → Knows link_id s → Knows id p → link_id ≡ Some n → id ≡ Some n → p.last_id ≡ s.last_id
agreed link_id id n s p a b link session = b.is n session ∙ sym (a.is n link)

-- on a link that was lent to it
pub met_lent : (setup : Setup) (tests : Tests) (n : SessionName) (due : Due) (user : Account) (told : Told) (link_id : Option ℕ) (live : ℕ → Option ℕ) (pin : Pin) (id : Option ℕ) (s p : Session)
    → Begins setup n due user told link_id live pin id → IsFree user told link_id s → account_of p ≡ setup.accounts n.client → IsPlain p → Knows id p
    → IsMet tests setup.reads due.command user false told link_id pin id s (readied due p)
met_lent setup tests n due user told link_id live pin id s p begins free owner plain knows =
    let place = due.place in
    let same_account : account_of p ≡ account_of s = owner ∙ sym begins.account ∙ sym free.account in
    let q = placed place p in
    let ready : readied due p ≡ q = ap (λ b. if b then placed place p else p) begins.anew in
    subst (λ x. IsMet tests setup.reads due.command user false told link_id pin id s x) (sym ready) (record {
      account = free.account;
      rest = session_by q (with_diag q.diag (with_id q.last_id s))
          (ap (λ (a : Account). a.user) same_account)
          (ap (λ (a : Account). a.capabilities) same_account)
          (sym (free.follows.schema place.schema begins.placed.schema))
          (sym begins.placed.settings ∙ sym free.follows.settings)
          refl
          (plain.tx ∙ sym free.plain.tx)
          (plain.locks ∙ sym free.plain.locks)
          (plain.deep ∙ sym free.plain.deep)
          refl;
      diag = record { warnings = λ looks. apart looks begins.blind; found = λ looks. apart looks begins.blind_found };
      own = λ pinned. apart pinned begins.unpinned;
      marks = λ marking. knows.is begins.known begins.no_capture ∙ sym (free.knows.is begins.known (begins.marks marking ∙ begins.no_capture));
      last_id = λ e. apart e refl;
      follows = λ e. free.follows;
      knows = free.knows;
      suits = plain_suits pin q (or_left pin.tx _ (unpinned_harmless pin begins.unpinned)) (record { tx = plain.tx; locks = plain.locks; deep = plain.deep });
      of_session = record { is = knows.is };
      unknown = λ e. let known : id ≡ Some begins.known = begins.no_capture in cc;
    })

-- on the link that carries it
pub met_joined : (setup : Setup) (tests : Tests) (due : Due) (user : Account) (marked : Bool) (told : Told) (link_id : Option ℕ) (live : ℕ → Option ℕ) (pin : Pin) (id : Option ℕ) (s p : Session)
    → GoesOn setup due marked told link_id live pin id → IsTogether tests user marked told link_id pin s p → Knows id p → (id ≡ None → marked ≡ true)
    → IsMet tests setup.reads due.command user marked told link_id pin id s (readied due p)
met_joined setup tests due user marked told link_id live pin id s p goes_on together knows unknown =
    let ready : readied due p ≡ p = ap (λ b. if b then placed due.place p else p) goes_on.anew in
    subst (λ x. IsMet tests setup.reads due.command user marked told link_id pin id s x) (sym ready) (record {
      account = together.account;
      rest = together.rest;
      diag = record {
        warnings = λ looks. (together.diag goes_on.pinned).warnings (goes_on.reads.diag looks);
        found = λ looks. (together.diag goes_on.pinned).found (goes_on.reads.found looks);
      };
      own = together.diag;
      marks = λ marking. elim (goes_on.marks marking) [
        | inl was ↦ together.last_id was
        | inr agree ↦ agreed link_id id agree.id s p together.knows knows agree.link agree.session
      ];
      last_id = together.last_id;
      follows = together.follows;
      knows = together.knows;
      suits = together.suits;
      of_session = knows;
      unknown = unknown;
    })

own_split : (leaves pinned own : Bool) → (leaves || (pinned && own)) ≡ true → (leaves ≡ true) ⊎ ((pinned ≡ true) × (own ≡ true))
own_split true pinned own e = inl refl
own_split false true own e = inr (refl, e)
own_split false false own e = apart e refl

-- the answer to a STMT_PREPARE

prepared_diag : (class : Class) (multiplex : Option Bool) (reply : Reply) (pin : Pin) (err : Bool) → is_err reply ≡ err → (if err then pin_answered class multiplex (end_of reply) pin else pin_prepared class (end_of reply) pin).own_diag ≡ true
    → (warns (end_of reply) ≡ true) ⊎ ((is_pinned pin ≡ true) × (pin.own_diag ≡ true))
prepared_diag class multiplex reply pin true is e = inl (ap (λ b. b || nat_lt 0 (end_of reply).warnings) is)
prepared_diag class multiplex reply pin false is e = own_split (warns (end_of reply)) (is_pinned pin) pin.own_diag e

none_found : (keeps err : Bool) → err ≡ true → (not keeps && not err) ≡ false
none_found true err is = refl
none_found false true is = refl
none_found false false is = sym is

prepared_found : (class : Class) (multiplex : Option Bool) (reply : Reply) (pin : Pin) (err : Bool) → is_err reply ≡ err → (if err then pin_answered class multiplex (end_of reply) pin else pin_prepared class (end_of reply) pin).own_found ≡ true
    → (false ≡ true) ⊎ ((is_pinned pin ≡ true) × (pin.own_found ≡ true))
prepared_found class multiplex reply pin true is e =
    own_split false (is_pinned pin) pin.own_found (sym (ap (λ b. b || (is_pinned pin && pin.own_found)) (none_found class.keeps_found (is_err reply) is)) ∙ e)
prepared_found class multiplex reply pin false is e = own_split false (is_pinned pin) pin.own_found e

or_marked : (marks marked : Bool) → (marks || marked) ≡ true → (marks ≡ true) ⊎ (marked ≡ true)
or_marked true marked e = inl refl
or_marked false marked e = inr e

still_marked : (marks marked : Bool) → marked ≡ true → (marks || marked) ≡ true
still_marked true marked e = refl
still_marked false marked e = e

unknown_text : (marks deep brings marked : Bool) (id : Option ℕ) → (id ≡ None → marked ≡ true) → (if (marks && (deep || brings)) then None else id) ≡ None → (marks || marked) ≡ true
unknown_text true deep brings marked id before e = refl
unknown_text false deep brings marked id before e = before e

locks_same : (takes frees old : Bool) → (if (takes && false) then true else if (frees && false) then false else old) ≡ false → old ≡ false
locks_same true true old e = e
locks_same true false old e = e
locks_same false true old e = e
locks_same false false old e = e

next_same : (next tx old : Bool) → (if (next && false) then true else if (tx && (false && not next)) then false else old) ≡ false → old ≡ false
next_same true true old e = e
next_same true false old e = e
next_same false true old e = e
next_same false false old e = e

refused_locks : (takes frees old err ok : Bool) → err ≡ true → ok ≡ false → (if (takes && not err) then true else if (frees && ok) then false else old) ≡ false → (if (takes && false) then true else if (frees && false) then false else old) ≡ false
refused_locks takes frees old true false is isnt e = e
refused_locks takes frees old true true is isnt e = apart refl isnt
refused_locks takes frees old false ok is isnt e = apart is refl

refused_next : (next tx old ok : Bool) (shown : Option Bool) → ok ≡ false → shown ≡ None → (if (next && ok) then true else if (tx && (shows_none shown && not next)) then false else old) ≡ false → (if (next && false) then true else if (tx && (false && not next)) then false else old) ≡ false
refused_next next tx old false None isnt silent e = e
refused_next next tx old false (Some shown) isnt silent e = absurd (cc)
refused_next next tx old true shown isnt silent e = apart refl isnt

module _ (reads : Reads) (step : Step) (tests : Tests) (tame : Tame reads tests step) (stored : List ℕ) (s p : Session) (ok : Accepts tests stored s) (ok_p : Accepts tests stored p) where
  unknown_after : (c : Command) → is_statement c ≡ true → (reply : Reply) (marked : Bool) (id : Option ℕ) → (id ≡ None → marked ≡ true) → id_after reads c reply id ≡ None → (is_marked reads c || marked) ≡ true
  unknown_after (Query text) is reply marked id before e = unknown_text (reads.class text).marks_id (reads.class text).deep (reads.hides_id text || brings_id reply) marked id before e
  unknown_after (Run text schema settings args) is reply marked id before e = unknown_text (reads.class text).marks_id (reads.class text).deep (reads.hides_id text || brings_id reply) marked id before e
  unknown_after (Prepare text) is reply marked id before e = unknown_text (reads.class text).marks_id false (is_err reply) marked id before e
  unknown_after (SetId n) is reply marked id before e = apart is refl
  unknown_after (InitDb schema) is reply marked id before e = before e
  unknown_after (FieldList rest) is reply marked id before e = before e
  unknown_after _ is reply marked id before e = apart is refl

  no_reset : (c : Command) → is_statement c ≡ true → is_reset c ≡ false
  no_reset Reset is = apart is refl
  no_reset Quit is = refl
  no_reset _ is = refl

  pub no_quit : (c : Command) → is_statement c ≡ true → not (is_quit c) ≡ true
  no_quit Quit is = apart is refl
  no_quit _ is = refl

  -- an answer to a STMT_PREPARE

  suits_refused : (class : Class) (multiplex : Option Bool) (pin : Pin) → Suits pin p → (reply : Reply) → is_err reply ≡ true → Suits (pin_answered class multiplex (end_of reply) pin) p
  suits_refused class multiplex pin suits reply is =
      let refused = refused_reply reply is in
      record {
        tx = λ fine. apart is fine;
        locks = λ e none. suits.locks (or_left pin.deep _ e) (locks_same (takes class) (frees class) pin.locks (refused_locks (takes class) (frees class) pin.locks (is_err reply) (is_ok reply) is refused.not_ok none));
        brief = λ e. suits.brief (or_left pin.deep _ e);
        none = λ e none. suits.none (or_left pin.deep _ e) (next_same class.next_tx pin.tx pin.next_tx (refused_next class.next_tx pin.tx pin.next_tx (is_ok reply) (flags reply) refused.not_ok refused.silent none));
        ended = λ e there over. suits.ended (or_left pin.deep _ e) (sym (ap (λ f. tx_after f pin.tx) refused.silent) ∙ there) over;
      }

  suits_prepared : (text : List ℕ) (class : Class) (multiplex : Option Bool) (reply : Reply) (pin : Pin) → Suits pin p → (err : Bool) → is_err reply ≡ err
      → Suits (if err then pin_answered class multiplex (end_of reply) pin else pin_prepared class (end_of reply) pin) (step stored p (Prepare text)).session
  suits_prepared text class multiplex reply pin suits true is = subst (λ x. Suits (pin_answered class multiplex (end_of reply) pin) x) (sym (tame.prepare.session stored p ok_p text))
      (let same = suits_refused class multiplex pin suits reply is in record { tx = same.tx; locks = same.locks; brief = same.brief; none = same.none; ended = same.ended })
  suits_prepared text class multiplex reply pin suits false is = subst (λ x. Suits (pin_prepared class (end_of reply) pin) x) (sym (tame.prepare.session stored p ok_p text))
      (record { tx = suits.tx; locks = suits.locks; brief = suits.brief; none = suits.none; ended = suits.ended })

  suits_statement : (c : Command) (multiplex : Option Bool) (pin : Pin) → Suits pin p → Suits (pin_statement reads c multiplex (step stored p c).reply pin) (step stored p c).session
  suits_statement (Query text) multiplex pin suits = suits_after reads step tests tame stored p ok_p (Query text) refl multiplex pin suits
  suits_statement (InitDb schema) multiplex pin suits = suits_after reads step tests tame stored p ok_p (InitDb schema) refl multiplex pin suits
  suits_statement (FieldList rest) multiplex pin suits = suits_after reads step tests tame stored p ok_p (FieldList rest) refl multiplex pin suits
  suits_statement (SetId n) multiplex pin suits = suits_after reads step tests tame stored p ok_p (SetId n) refl multiplex pin suits
  suits_statement ReadId multiplex pin suits = suits_after reads step tests tame stored p ok_p ReadId refl multiplex pin suits
  suits_statement (Prepare text) multiplex pin suits = suits_prepared text (reads.class text) multiplex (step stored p (Prepare text)).reply pin suits (is_err (step stored p (Prepare text)).reply) refl
  suits_statement (Run text schema settings args) multiplex pin suits = suits_after reads step tests tame stored p ok_p (Run text schema settings args) refl multiplex pin suits
  suits_statement Reset multiplex pin suits = suits_after reads step tests tame stored p ok_p Reset refl multiplex pin suits
  suits_statement Quit multiplex pin suits = suits_after reads step tests tame stored p ok_p Quit refl multiplex pin suits

  shallow_after : (class : Class) (end : ReplyEnd) (pin : Pin) → deep_after class end pin ≡ false → (pin.deep ≡ false) × (class.deep ≡ false)
  shallow_after class end pin e = (or_left pin.deep _ e, or_left class.deep _ (or_right pin.deep _ e))

  shallow_prepared : (class : Class) (multiplex : Option Bool) (reply : Reply) (pin : Pin) (err : Bool) → (if err then pin_answered class multiplex (end_of reply) pin else pin_prepared class (end_of reply) pin).deep ≡ false → (pin.deep ≡ false) × (false ≡ false)
  shallow_prepared class multiplex reply pin true e = (or_left pin.deep _ e, refl)
  shallow_prepared class multiplex reply pin false e = (e, refl)

  pub shallow_before : (c : Command) (multiplex : Option Bool) (reply : Reply) (pin : Pin) → (pin_statement reads c multiplex reply pin).deep ≡ false → (pin.deep ≡ false) × ((class_of reads c).deep ≡ false)
  shallow_before (Query text) multiplex reply pin e = shallow_after (class_of reads (Query text)) (end_of reply) pin e
  shallow_before (InitDb schema) multiplex reply pin e = shallow_after (class_of reads (InitDb schema)) (end_of reply) pin e
  shallow_before (FieldList rest) multiplex reply pin e = shallow_after (class_of reads (FieldList rest)) (end_of reply) pin e
  shallow_before (SetId n) multiplex reply pin e = shallow_after (class_of reads (SetId n)) (end_of reply) pin e
  shallow_before ReadId multiplex reply pin e = shallow_after (class_of reads ReadId) (end_of reply) pin e
  shallow_before (Prepare text) multiplex reply pin e = shallow_prepared (reads.class text) multiplex reply pin (is_err reply) e
  shallow_before (Run text schema settings args) multiplex reply pin e = shallow_after (class_of reads (Run text schema settings args)) (end_of reply) pin e
  shallow_before Reset multiplex reply pin e = shallow_after (class_of reads Reset) (end_of reply) pin e
  shallow_before Quit multiplex reply pin e = shallow_after (class_of reads Quit) (end_of reply) pin e

  pub met_alike : (c : Command) (user : Account) (marked : Bool) (told : Told) (link_id : Option ℕ) (pin : Pin) (id : Option ℕ) → IsMet tests reads c user marked told link_id pin id s p → IsAlikeAfter reads tests c p s (step stored p c) (step stored s c)
  met_alike c user marked told link_id pin id met = alike_after reads step tests tame stored s p ok ok_p met.rest c met.diag (λ e. met.marks (mark_of reads c e))

  -- what is its session's own behind it is its own, or was the session's before

  pub own_diag_by : (c : Command) (multiplex : Option Bool) (reply : Reply) (pin : Pin) → (pin_statement reads c multiplex reply pin).own_diag ≡ true
      → (leaves_diag (class_of reads c) (end_of reply) ≡ true) ⊎ ((is_pinned pin ≡ true) × (pin.own_diag ≡ true))
  own_diag_by (Prepare text) multiplex reply pin e = prepared_diag (reads.class text) multiplex reply pin (is_err reply) refl e
  own_diag_by (Query text) multiplex reply pin e = own_split (leaves_diag (class_of reads (Query text)) (end_of reply)) (is_pinned pin) pin.own_diag e
  own_diag_by (InitDb schema) multiplex reply pin e = own_split (leaves_diag (class_of reads (InitDb schema)) (end_of reply)) (is_pinned pin) pin.own_diag e
  own_diag_by (FieldList rest) multiplex reply pin e = own_split (leaves_diag (class_of reads (FieldList rest)) (end_of reply)) (is_pinned pin) pin.own_diag e
  own_diag_by (SetId n) multiplex reply pin e = own_split (leaves_diag (class_of reads (SetId n)) (end_of reply)) (is_pinned pin) pin.own_diag e
  own_diag_by ReadId multiplex reply pin e = own_split (leaves_diag (class_of reads ReadId) (end_of reply)) (is_pinned pin) pin.own_diag e
  own_diag_by (Run text schema settings args) multiplex reply pin e = own_split (leaves_diag (class_of reads (Run text schema settings args)) (end_of reply)) (is_pinned pin) pin.own_diag e
  own_diag_by Reset multiplex reply pin e = own_split (leaves_diag (class_of reads Reset) (end_of reply)) (is_pinned pin) pin.own_diag e
  own_diag_by Quit multiplex reply pin e = own_split (leaves_diag (class_of reads Quit) (end_of reply)) (is_pinned pin) pin.own_diag e

  pub own_found_by : (c : Command) (multiplex : Option Bool) (reply : Reply) (pin : Pin) → (pin_statement reads c multiplex reply pin).own_found ≡ true
      → (leaves_found (class_of reads c) (end_of reply) ≡ true) ⊎ ((is_pinned pin ≡ true) × (pin.own_found ≡ true))
  own_found_by (Prepare text) multiplex reply pin e = prepared_found (reads.class text) multiplex reply pin (is_err reply) refl e
  own_found_by (Query text) multiplex reply pin e = own_split (leaves_found (class_of reads (Query text)) (end_of reply)) (is_pinned pin) pin.own_found e
  own_found_by (InitDb schema) multiplex reply pin e = own_split (leaves_found (class_of reads (InitDb schema)) (end_of reply)) (is_pinned pin) pin.own_found e
  own_found_by (FieldList rest) multiplex reply pin e = own_split (leaves_found (class_of reads (FieldList rest)) (end_of reply)) (is_pinned pin) pin.own_found e
  own_found_by (SetId n) multiplex reply pin e = own_split (leaves_found (class_of reads (SetId n)) (end_of reply)) (is_pinned pin) pin.own_found e
  own_found_by ReadId multiplex reply pin e = own_split (leaves_found (class_of reads ReadId) (end_of reply)) (is_pinned pin) pin.own_found e
  own_found_by (Run text schema settings args) multiplex reply pin e = own_split (leaves_found (class_of reads (Run text schema settings args)) (end_of reply)) (is_pinned pin) pin.own_found e
  own_found_by Reset multiplex reply pin e = own_split (leaves_found (class_of reads Reset) (end_of reply)) (is_pinned pin) pin.own_found e
  own_found_by Quit multiplex reply pin e = own_split (leaves_found (class_of reads Quit) (end_of reply)) (is_pinned pin) pin.own_found e

  -- and leaves the two together
  pub met_after : (c : Command) (multiplex : Option Bool) (user : Account) (marked : Bool) (told : Told) (link_id : Option ℕ) (pin : Pin) (id : Option ℕ) → is_statement c ≡ true
      → IsMet tests reads c user marked told link_id pin id s p
      → IsJoined tests (not (is_quit c)) user (is_marked reads c || marked) (told_after reads c (step stored s c).reply told) (id_after reads c (step stored s c).reply link_id)
      (pin_statement reads c multiplex (step stored s c).reply pin) (id_after reads c (step stored s c).reply id) (step stored s c).session (step stored p c).session
  met_after c multiplex user marked told link_id pin id statement met =
      let class = class_of reads c in
      let after = met_alike c user marked told link_id pin id met in
      let reply = (step stored s c).reply in
      let together : IsTogether tests user (is_marked reads c || marked) (told_after reads c reply told) (id_after reads c reply link_id) (pin_statement reads c multiplex reply pin) (step stored s c).session (step stored p c).session =
      record {
        account = tame.account stored s ok c ∙ met.account;
        rest = after.alike.rest;
        diag = λ e. record {
          warnings = λ own. elim (own_diag_by c multiplex reply pin own) [
            | inl leaves ↦ after.warnings (λ none. apart leaves none)
            | inr was ↦ after.warnings (λ none. (met.own was.0).warnings was.1)
          ];
          found = λ own. elim (own_found_by c multiplex reply pin own) [
            | inl leaves ↦ after.found (λ none. apart leaves none)
            | inr was ↦ after.found (λ none. (met.own was.0).found was.1)
          ];
        };
        last_id = λ e. after.last_id (elim (or_marked (is_marked reads c) marked e) [ inl marking ↦ met.marks marking | inr was ↦ met.last_id was ]);
        follows = λ e. let was = shallow_before c multiplex reply pin e in follows_after reads step tests tame stored s ok c told (no_reset c statement) was.1 (met.follows was.0);
        knows = knows_after reads step tests tame stored s ok c link_id met.knows;
        suits = subst (λ r. Suits (pin_statement reads c multiplex r pin) (step stored p c).session) after.alike.reply (suits_statement c multiplex pin met.suits);
      } in
      record {
        session = subst (λ b. IfAlive b (IsTogether tests user (is_marked reads c || marked) (told_after reads c reply told) (id_after reads c reply link_id) (pin_statement reads c multiplex reply pin) (step stored s c).session (step stored p c).session) (IsPlain (step stored p c).session)) (sym (no_quit c statement)) together;
        knows = subst (λ r. Knows (id_after reads c r id) (step stored p c).session) after.alike.reply (knows_after reads step tests tame stored p ok_p c id met.of_session);
        unknown = unknown_after c statement reply marked id met.unknown;
      }

  -- A step in a session.

  step_joined : (c : Command) (user : Account) (marked : Bool) (told : Told) (link_id : Option ℕ) (pin : Pin) (id : Option ℕ) → is_pinned pin ≡ true → IsTogether tests user marked told link_id pin s p → Knows id p
      → IsAlikeAfter reads tests c p s (step stored p c) (step stored s c) → is_reset c ≡ false
      → (class_of reads c).deep ≡ false → takes (class_of reads c) ≡ false → (class_of reads c).next_tx ≡ false → (class_of reads c).savepoint ≡ false → (pin.after_err ≡ false → (step stored p c).session.tx ≡ p.tx)
      → (id_after reads c (step stored s c).reply id ≡ None → marked ≡ true)
      → IsJoined tests true user marked (told_after reads c (step stored s c).reply told) (id_after reads c (step stored s c).reply link_id)
      (record pin { after_err = pin.after_err || is_err (step stored s c).reply }) (id_after reads c (step stored s c).reply id) (step stored s c).session (step stored p c).session
  step_joined c user marked told link_id pin id pinned together knows after no_reset shallow takes next savepoint calm unknown = record {
    session = record {
      account = tame.account stored s ok c ∙ together.account;
      rest = after.alike.rest;
      diag = λ e. record { warnings = λ own. after.warnings (λ none. (together.diag pinned).warnings own); found = λ own. after.found (λ none. (together.diag pinned).found own) };
      last_id = λ e. after.last_id (together.last_id e);
      follows = λ was. follows_after reads step tests tame stored s ok c told no_reset shallow (together.follows was);
      knows = knows_after reads step tests tame stored s ok c link_id together.knows;
      suits = subst (λ r. Suits (record pin { after_err = pin.after_err || is_err r }) (step stored p c).session) after.alike.reply (suits_step reads step tests tame stored p ok_p c pin together.suits shallow takes next savepoint calm);
    };
    knows = subst (λ r. Knows (id_after reads c r id) (step stored p c).session) after.alike.reply (knows_after reads step tests tame stored p ok_p c id knows);
    unknown = unknown;
  }

  calm_by : (pin : Pin) (autocommit : Bool) → Suits pin p → (autocommit ≡ true → pin.tx ≡ false) → pin.after_err ≡ false → (p.tx ≡ []) ⊎ (autocommit ≡ false)
  calm_by pin true suits calm fine = inl (is_empty p.tx (suits.tx fine ∙ calm refl))
  calm_by pin false suits calm fine = inr refl

  set_tx : (k : Number) (ok : Bool) → is_ok (step stored p (SetId k)).reply ≡ ok → (step stored p (SetId k)).session.tx ≡ p.tx
  set_tx k true is = ap (λ (x : Session). x.tx) (tame.id.set_done stored p ok_p k is)
  set_tx k false is = ap (λ (x : Session). x.tx) (tame.id.set_refused stored p ok_p k is)

  set_unknown : (k : Number) (ok : Bool) (id : Option ℕ) → id ≡ Some k.value → (marked : Bool) → (if ok then Some k.value else id) ≡ None → marked ≡ true
  set_unknown k true id known marked e = cc
  set_unknown k false id known marked e = cc

  pub step_after : (c : Command) (user : Account) (marked : Bool) (told : Told) (link_id : Option ℕ) (pin : Pin) (id : Option ℕ) → is_pinned pin ≡ true → IsStepOf reads c pin id → IsTogether tests user marked told link_id pin s p → Knows id p → (id ≡ None → marked ≡ true)
      → IsAlikeAfter reads tests c p s (step stored p c) (step stored s c)
      × IsJoined tests (not (is_quit c)) user marked (told_after reads c (step stored s c).reply told) (id_after reads c (step stored s c).reply link_id)
      (record pin { after_err = pin.after_err || is_err (step stored s c).reply }) (id_after reads c (step stored s c).reply id) (step stored s c).session (step stored p c).session
  step_after (InitDb schema) user marked told link_id pin id pinned fits together knows unknown =
      let c = InitDb schema in
      let after = alike_after reads step tests tame stored s p ok ok_p together.rest c (record { warnings = λ e. apart e refl; found = λ e. apart e refl }) (λ e. apart e refl) in
      (after, step_joined c user marked told link_id pin id pinned together knows after refl refl refl refl refl (λ fine. ap (λ (x : Session). x.tx) (tame.uses.session stored p ok_p c schema refl)) unknown)
  step_after (SetId k) user marked told link_id pin id pinned fits together knows unknown =
      let c = SetId k in
      let after = alike_set reads step tests tame stored s p ok ok_p together.rest k in
      (after, step_joined c user marked told link_id pin id pinned together knows after refl refl refl refl refl (λ fine. set_tx k _ refl) (set_unknown k (is_ok (step stored s c).reply) id fits marked))
  step_after (Query text) user marked told link_id pin id pinned fits together knows unknown =
      let c = Query text in
      let after = alike_after reads step tests tame stored s p ok ok_p together.rest c (record { warnings = λ e. apart e fits.blind; found = λ e. apart e fits.blind_found }) (λ e. apart e fits.unmarked) in (
        after,
        step_joined c user marked told link_id pin id pinned together knows after refl fits.shallow fits.no_locks fits.next_tx fits.savepoint
            (λ fine. tame.tracked.calm_tx stored p ok_p c fits.changes fits.effect (calm_by pin (sets_autocommit fits.changes) together.suits fits.calm fine))
            (λ e. unknown (sym (ap (λ b. if (b && ((reads.class text).deep || (reads.hides_id text || brings_id (step stored s c).reply))) then None else id) fits.unmarked) ∙ e)),
      )
  step_after _ user marked told link_id pin id pinned fits together knows unknown = absurd fits

  -- A preparation in a session, and on a link on the way to a statement.

  pub prep_after : (text : List ℕ) (user : Account) (marked : Bool) (told : Told) (link_id : Option ℕ) (pin : Pin) (id : Option ℕ) → is_pinned pin ≡ true → IsTogether tests user marked told link_id pin s p → Knows id p → (id ≡ None → marked ≡ true)
      → IsAlikeAfter reads tests (Prepare text) p s (step stored p (Prepare text)) (step stored s (Prepare text))
      × IsJoined tests true user marked (told_after reads (Prepare text) (step stored s (Prepare text)).reply told) link_id
      (if is_pinned pin then record pin { after_err = pin.after_err || is_err (step stored s (Prepare text)).reply } else pin) id (step stored s (Prepare text)).session (step stored p (Prepare text)).session
  prep_after text user marked told link_id pin id pinned together knows unknown =
      let c = Prepare text in
      let reply = (step stored s c).reply in
      let after = alike_after reads step tests tame stored s p ok ok_p together.rest c (record { warnings = λ e. apart e refl; found = λ e. apart e refl }) (λ e. apart e refl) in
      let joined : IsJoined tests true user marked (told_after reads c reply told) link_id (record pin { after_err = pin.after_err || is_err reply }) id (step stored s c).session (step stored p c).session = record {
        session = record {
          account = tame.account stored s ok c ∙ together.account;
          rest = after.alike.rest;
          diag = λ e. record { warnings = λ own. after.warnings (λ none. (together.diag pinned).warnings own); found = λ own. after.found (λ none. (together.diag pinned).found own) };
          last_id = λ e. after.last_id (together.last_id e);
          follows = λ was. follows_after reads step tests tame stored s ok c told refl refl (together.follows was);
          knows = record { is = λ n e. ap (λ (x : Session). x.last_id) (tame.prepare.session stored s ok text) ∙ together.knows.is n e };
          suits = subst (λ r. Suits (record pin { after_err = pin.after_err || is_err r }) (step stored p c).session) after.alike.reply
              (suits_step reads step tests tame stored p ok_p c pin together.suits refl refl refl refl (λ fine. ap (λ (x : Session). x.tx) (tame.prepare.session stored p ok_p text)));
        };
        knows = record { is = λ n e. ap (λ (x : Session). x.last_id) (tame.prepare.session stored p ok_p text) ∙ knows.is n e };
        unknown = unknown;
      } in
      (after, subst (λ b. IsJoined tests true user marked (told_after reads c reply told) link_id (if b then record pin { after_err = pin.after_err || is_err reply } else pin) id (step stored s c).session (step stored p c).session) (sym pinned) joined)

  -- The end of a session.

  pub end_after : (user : Account) (marked : Bool) (told : Told) (link_id : Option ℕ) (pin : Pin) (id : Option ℕ) → tests.lasts p.deep ≡ false → IsTogether tests user marked told link_id pin s p
      → IsJoined tests true user marked (told_after reads Reset (step stored s Reset).reply told) (id_after reads Reset (step stored s Reset).reply link_id) no_pin (id_after reads Reset (step stored s Reset).reply id) (step stored s Reset).session (step stored p Reset).session
  end_after user marked told link_id pin id lasts together =
      let mine : (step stored p Reset).session.deep ≡ [] = tame.reset.deep stored p ok_p lasts in
      let there : (step stored s Reset).session.deep ≡ [] = tame.reset.deep stored s ok (subst (λ d. tests.lasts d ≡ false) (ap (λ (x : Session). x.deep) together.rest) lasts) in
      let same = reset_session reads step tests tame stored s p ok ok_p together.rest mine there in
      record {
        session = record {
          account = tame.account stored s ok Reset ∙ together.account;
          rest = subst (λ x. x ≡ with_diag x.diag (with_id x.last_id (step stored s Reset).session)) (sym same) refl;
          diag = λ e. record { warnings = λ own. ap (λ (x : Session). tests.warnings x.diag) same; found = λ own. ap (λ (x : Session). tests.found x.diag) same };
          last_id = λ e. ap (λ (x : Session). x.last_id) same;
          follows = λ e. follows_reset reads step tests tame stored s ok;
          knows = record { is = λ n e. ap (λ (x : Session). x.last_id) (tame.reset.session stored s ok) ∙ zero_is n e };
          suits = suits_reset reads step tests tame stored p ok_p mine;
        };
        knows = record { is = λ n e. ap (λ (x : Session). x.last_id) (tame.reset.session stored p ok_p) ∙ zero_is n e };
        unknown = λ e. cc;
      }
    where
      zero_is : (n : ℕ) → Some 0 ≡ Some n → 0 ≡ n
      zero_is n e = cc

  -- The question for the insert id is asked of the link alone.

  pub capture_after : (user : Account) (marked : Bool) (told : Told) (link_id : Option ℕ) (pin : Pin) (id : Option ℕ) → is_pinned pin ≡ false → id ≡ None → IsTogether tests user marked told link_id pin s p → (id ≡ None → marked ≡ true)
      → IsJoined tests true user marked (told_after reads ReadId (step stored s ReadId).reply told) (id_after reads ReadId (step stored s ReadId).reply link_id) pin (id_after reads ReadId (step stored s ReadId).reply id) (step stored s ReadId).session p
  capture_after user marked told link_id pin id unpinned none together unknown =
      let s' = (step stored s ReadId).session in
      let read : s' ≡ with_diag s'.diag s = tame.id.read_session stored s ok in
      let same_id : s'.last_id ≡ s.last_id = ap (λ (x : Session). x.last_id) read in
      record {
        session = record {
          account = tame.account stored s ok ReadId ∙ together.account;
          rest = together.rest ∙ sym (ap (λ x. with_diag p.diag (with_id p.last_id x)) read);
          diag = λ e. apart e unpinned;
          last_id = λ e. together.last_id e ∙ sym same_id;
          follows = λ e. follows_after reads step tests tame stored s ok ReadId told refl refl (together.follows e);
          knows = knows_after reads step tests tame stored s ok ReadId link_id together.knows;
          suits = together.suits;
        };
        knows = record { is = λ n e. together.last_id (unknown none) ∙ read_knows reads step tests tame stored s ok id (record { is = λ k f. cc }) n e };
        unknown = λ e. unknown none;
      }

  -- A step on a free link.

  pub own_calm : (c : Command) → IsOwnStep reads c → IsPlain s → (step stored s c).stored ≡ stored
  own_calm (InitDb schema) fits plain = tame.uses.stored stored s ok (InitDb schema) schema refl
  own_calm (Query text) fits plain = tame.tracked.calm stored s ok (Query text) fits.changes fits.effect (inl plain.tx)
  own_calm (SetId k) fits plain = tame.id.set_stored stored s ok k
  own_calm Quit fits plain = tame.reset.quit_stored stored s ok ∙ tame.reset.idle stored s ok plain.tx plain.locks plain.deep
  own_calm (FieldList rest) fits plain = absurd fits
  own_calm ReadId fits plain = absurd fits
  own_calm Reset fits plain = absurd fits
  own_calm _ fits plain = absurd fits

  own_set_tx : (k : Number) (ok : Bool) → is_ok (step stored s (SetId k)).reply ≡ ok → (step stored s (SetId k)).session.tx ≡ s.tx
  own_set_tx k true is = ap (λ (x : Session). x.tx) (tame.id.set_done stored s ok k is)
  own_set_tx k false is = ap (λ (x : Session). x.tx) (tame.id.set_refused stored s ok k is)

  own_free : (c : Command) (user : Account) (told : Told) (link_id : Option ℕ) → is_reset c ≡ false → (class_of reads c).deep ≡ false → takes (class_of reads c) ≡ false → (class_of reads c).next_tx ≡ false → (class_of reads c).savepoint ≡ false
      → (step stored s c).session.tx ≡ s.tx → IsFree user told link_id s → IsFree user (told_after reads c (step stored s c).reply told) (id_after reads c (step stored s c).reply link_id) (step stored s c).session
  own_free c user told link_id no_reset shallow takes next savepoint calm free = record {
    account = tame.account stored s ok c ∙ free.account;
    plain = record {
      tx = calm ∙ free.plain.tx;
      locks = tame.text.locks stored s ok c shallow (ap (λ b. b && not (is_err (step stored s c).reply)) takes) free.plain.locks;
      deep = tame.text.none stored s ok c shallow (ap (λ b. b && is_ok (step stored s c).reply) next) (ap (λ b. b && shows_neither (end_of (step stored s c).reply)) savepoint) free.plain.deep;
    };
    follows = follows_after reads step tests tame stored s ok c told no_reset shallow free.follows;
    knows = knows_after reads step tests tame stored s ok c link_id free.knows;
  }

  pub prep_free : (text : List ℕ) (user : Account) (told : Told) (link_id : Option ℕ) → IsFree user told link_id s
      → IsFree user (told_after reads (Prepare text) (step stored s (Prepare text)).reply told) link_id (step stored s (Prepare text)).session
  prep_free text user told link_id free =
      let stays = tame.prepare.session stored s ok text in
      let next = own_free (Prepare text) user told link_id refl refl refl refl refl (ap (λ (x : Session). x.tx) stays) free in
      record { account = next.account; plain = next.plain; follows = next.follows; knows = record { is = λ n e. ap (λ (x : Session). x.last_id) stays ∙ free.knows.is n e } }

  pub own_after : (c : Command) (user : Account) (told : Told) (link_id : Option ℕ) → IsOwnStep reads c → IsFree user told link_id s
      → IfAlive (not (is_quit c)) (IsFree user (told_after reads c (step stored s c).reply told) (id_after reads c (step stored s c).reply link_id) (step stored s c).session) (Unit {0})
  own_after (InitDb schema) user told link_id fits free = own_free (InitDb schema) user told link_id refl refl refl refl refl (ap (λ (x : Session). x.tx) (tame.uses.session stored s ok (InitDb schema) schema refl)) free
  own_after (SetId k) user told link_id fits free = own_free (SetId k) user told link_id refl refl refl refl refl (own_set_tx k _ refl) free
  own_after (Query text) user told link_id fits free = own_free (Query text) user told link_id refl fits.shallow fits.no_locks fits.next_tx fits.savepoint
      (tame.tracked.calm_tx stored s ok (Query text) fits.changes fits.effect (inl free.plain.tx)) free
  own_after Quit user told link_id fits free = tt
  own_after (FieldList rest) user told link_id fits free = absurd fits
  own_after ReadId user told link_id fits free = absurd fits
  own_after Reset user told link_id fits free = absurd fits
  own_after _ user told link_id fits free = absurd fits
