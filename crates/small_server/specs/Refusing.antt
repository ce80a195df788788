-- A server that refuses is tame.
use Rattle.std.specs.Prelude.{◌≡◌, ◌≢◌, ℕ, Bool, true, false, ◌&&◌, List, [], ◌∷◌, Some, None}
use Rattle.std.proofs.Common.{refl, sym, ap, ◌∙◌, inl, inr}
use Rattle.session_vars.specs.declared.change.Change.{Change}
use Rattle.session_state.specs.Classes.{Tracked, Uses, Neither, frees, schema_by, settings_by}
use Rattle.session_state.specs.Endings.{is_err, is_ok, shows_transaction}
use Rattle.server_rule.proofs.Blind.{blind_same, blind_whole}
use Rattle.server_rule.specs.Classes.{Reads, effect_run, is_close, sees_diag, sees_id, text_run}
use Rattle.server_rule.specs.Laws.{IsOkOrErr, IsTame}
use Rattle.server_rule.specs.Replies.{reply_end}
use Rattle.server_rule.specs.Servers.{Outcome, is_brief, is_some_of, outcome_with_id, with_diag, with_id}
use Rattle.server_rule.specs.declared.command.Cmd.{Cmd}
use Rattle.server_rule.specs.declared.command.Cmd.TheVariants.{Query, InitDb, FieldList, Prepare, Run, Reset, Close}
use Rattle.server_rule.specs.declared.session.Session.{Session}
use Rattle.small_server.specs.Refusals.{anything, plain_ok, refused, refuses, syntax_error}

apart : {A : Type 0} {b : Bool} → b ≡ true → b ≡ false → A
apart is isnt = absurd (cc)

error_is_err : is_err (reply_end false (syntax_error ∷ [])) ≡ true
unfolding reply_end
error_is_err = refl

error_not_ok : is_ok (reply_end false (syntax_error ∷ [])) ≡ false
unfolding reply_end
error_not_ok = refl

error_silent : shows_transaction (reply_end false (syntax_error ∷ [])) ≡ None
unfolding reply_end
error_silent = refl

made_not : is_err (reply_end true (syntax_error ∷ [])) ≡ true
unfolding reply_end
made_not = refl

ok_is_ok : is_ok (reply_end false (plain_ok ∷ [])) ≡ true
unfolding reply_end
ok_is_ok = refl

ok_shows : shows_transaction (reply_end false (plain_ok ∷ [])) ≡ Some false
unfolding reply_end
ok_shows = refl

-- a command that doesn't end the session
abbrev goes_on : Cmd → Bool
goes_on Reset = false
goes_on Close = false
goes_on _ = true

going : (c : Cmd) → goes_on c ≡ true → (P : Outcome → Type 0) (stored : List ℕ) (s : Session) → P (refused stored s) → P (refuses stored s c)
going (Query text) is P stored s holds = holds
going (InitDb schema) is P stored s holds = holds
going (FieldList rest) is P stored s holds = holds
going (Prepare text) is P stored s holds = holds
going (Run text schema settings types nulls values long) is P stored s holds = holds
going Reset is P stored s holds = apart is refl
going Close is P stored s holds = apart is refl

text_goes : (c : Cmd) (text : List ℕ) → text_run c ≡ Some text → goes_on c ≡ true
text_goes (Query t) text e = refl
text_goes (InitDb schema) text e = refl
text_goes (FieldList rest) text e = refl
text_goes (Prepare t) text e = refl
text_goes (Run t schema settings types nulls values long) text e = refl
text_goes Reset text e = absurd (cc)
text_goes Close text e = absurd (cc)

effect_goes : (reads : Reads) (c : Cmd) → effect_run reads c ≢ Neither → goes_on c ≡ true
effect_goes reads (Query text) some = refl
effect_goes reads (InitDb schema) some = refl
effect_goes reads (FieldList rest) some = refl
effect_goes reads (Prepare text) some = refl
effect_goes reads (Run text schema settings types nulls values long) some = refl
effect_goes reads Reset some = absurd (some refl)
effect_goes reads Close some = absurd (some refl)

tracked_goes : (reads : Reads) (c : Cmd) (changes : List Change) → effect_run reads c ≡ Tracked changes → goes_on c ≡ true
tracked_goes reads c changes e = effect_goes reads c (λ none. absurd (let both : Neither ≡ Tracked changes = sym none ∙ e in cc))

uses_goes : (reads : Reads) (c : Cmd) (schema : List ℕ) → effect_run reads c ≡ Uses schema → goes_on c ≡ true
uses_goes reads c schema e = effect_goes reads c (λ none. absurd (let both : Neither ≡ Uses schema = sym none ∙ e in cc))

both : {A : Type 0} (f : Outcome → A) (stored : List ℕ) (s : Session) (c : Cmd) → f (refused stored s) ≡ f (refused stored s) → goes_on c ≡ true → f (refuses stored s c) ≡ f (refused stored s)
both f stored s c same is = going c is (λ o. f o ≡ f (refused stored s)) stored s same

account : (c : Cmd) (stored : List ℕ) (s : Session) → ((refuses stored s c).session.user ≡ s.user) × ((refuses stored s c).session.capabilities ≡ s.capabilities)
account (Query text) stored s = (refl, refl)
account (InitDb schema) stored s = (refl, refl)
account (FieldList rest) stored s = (refl, refl)
account (Prepare text) stored s = (refl, refl)
account (Run text schema settings types nulls values long) stored s = (refl, refl)
account Reset stored s = (refl, refl)
account Close stored s = (refl, refl)

blind : (reads : Reads) (c : Cmd) (stored : List ℕ) (s : Session) (diag : List ℕ) → sees_diag reads c ≡ false → refuses stored (with_diag diag s) c ≡ refuses stored s c
blind reads (Query text) stored s diag e = refl
blind reads (InitDb schema) stored s diag e = refl
blind reads (FieldList rest) stored s diag e = refl
blind reads (Prepare text) stored s diag e = refl
blind reads (Run text schema settings types nulls values long) stored s diag e = refl
blind reads Reset stored s diag e = refl
blind reads Close stored s diag e = refl

unmarked : (reads : Reads) (c : Cmd) (stored : List ℕ) (s : Session) (n : ℕ) → sees_id reads c ≡ false → refuses stored (with_id n s) c ≡ outcome_with_id n (refuses stored s c)
unmarked reads (Query text) stored s n e = refl
unmarked reads (InitDb schema) stored s n e = refl
unmarked reads (FieldList rest) stored s n e = refl
unmarked reads (Prepare text) stored s n e = refl
unmarked reads (Run text schema settings types nulls values long) stored s n e = refl
unmarked reads Reset stored s n e = apart refl e
unmarked reads Close stored s n e = apart refl e

shown : (c : Cmd) (stored : List ℕ) (s : Session) → is_close c ≡ false → (is : Bool) → shows_transaction (reply_end false (refuses stored s c).reply) ≡ Some is → is_some_of (refuses stored s c).session.tx ≡ is
shown (Query text) stored s stays is e = absurd (let silent = error_silent in cc)
shown (InitDb schema) stored s stays is e = absurd (let silent = error_silent in cc)
shown (FieldList rest) stored s stays is e = absurd (let silent = error_silent in cc)
shown (Prepare text) stored s stays is e = absurd (let silent = error_silent in cc)
shown (Run text schema settings types nulls values long) stored s stays is e = absurd (let silent = error_silent in cc)
shown Reset stored s stays is e = let shows = ok_shows in cc
shown Close stored s stays is e = apart refl stays

refusal : IsOkOrErr (syntax_error ∷ [])
refusal = record { payload = syntax_error; alone = refl; kind = inr error_is_err }

no_locks_freed : (frees ok : Bool) → ok ≡ false → (frees && ok) ≡ true → ⊥
no_locks_freed true ok isnt is = apart is isnt
no_locks_freed false ok isnt is = apart is refl

pub refuses_tame : (reads : Reads) → IsTame reads anything refuses
refuses_tame reads = record {
  tests_kept = record { accepts_fresh = refl; keeps = λ stored s ok c. (refl, refl) };
  account = record { user = λ stored s ok c. (account c stored s).0; capabilities = λ stored s ok c. (account c stored s).1 };
  reset = record { answered = λ stored s ok. ok_is_ok; session = λ stored s ok. refl; deep = λ stored s ok lasts. refl; nothing_lasts = refl; brings = λ stored s ok c plain lasts. refl; blind = λ stored s ok n diag there. refl; idle = λ stored s ok tx locks deep. refl; close_reply = λ stored s ok. refl; close_stored = λ stored s ok. refl; close_session = λ stored s ok. refl };
  tracked = record {
    settings = λ stored s ok c changes e. going c (tracked_goes reads c changes e) (λ o. o.session.settings ≡ settings_by (Tracked changes) (is_ok (reply_end false o.reply)) s.settings) stored s (ap (λ b. settings_by (Tracked changes) b s.settings) (sym error_not_ok));
    schema = λ stored s ok c changes e. going c (tracked_goes reads c changes e) (λ o. o.session.schema ≡ s.schema) stored s refl;
    locks = λ stored s ok c changes e. going c (tracked_goes reads c changes e) (λ o. o.session.locks ≡ s.locks) stored s refl;
    last_id = λ stored s ok c changes e. going c (tracked_goes reads c changes e) (λ o. o.session.last_id ≡ s.last_id) stored s refl;
    calm = λ stored s ok c changes e calm. going c (tracked_goes reads c changes e) (λ o. o.stored ≡ stored) stored s refl;
    calm_tx = λ stored s ok c changes e calm. going c (tracked_goes reads c changes e) (λ o. o.session.tx ≡ s.tx) stored s refl;
  };
  schemas = record {
    stored = λ stored s ok c schema e. going c (uses_goes reads c schema e) (λ o. o.stored ≡ stored) stored s refl;
    session = λ stored s ok c schema e. going c (uses_goes reads c schema e) (λ o. o.session ≡ record s { schema = schema_by (Uses schema) (is_ok (reply_end false o.reply)) s.schema; diag = o.session.diag }) stored s (ap (λ b. record s { schema = schema_by (Uses schema) b s.schema; diag = [] }) (sym error_not_ok));
  };
  texts = record {
    schema = λ stored s ok c text is shallow none. going c (text_goes c text is) (λ o. o.session.schema ≡ s.schema) stored s refl;
    settings = λ stored s ok c text is shallow none. going c (text_goes c text is) (λ o. o.session.settings ≡ s.settings) stored s refl;
    locks = λ stored s ok c text is shallow takes none. going c (text_goes c text is) (λ o. o.session.locks ≡ []) stored s none;
    none = λ stored s ok c text is shallow next inside none. going c (text_goes c text is) (λ o. o.session.deep ≡ []) stored s none;
    brief = λ stored s ok c text is shallow inside brief. going c (text_goes c text is) (λ o. is_brief o.session.deep ≡ true) stored s brief;
    ended = λ stored s ok c text is shallow there over brief. apart (going c (text_goes c text is) (λ o. is_some_of o.session.tx ≡ true) stored s there) over;
    unset = λ stored s ok c text is shallow next err. going c (text_goes c text is) (λ o. o.session.deep ≡ s.deep) stored s refl;
  };
  blind = record { diag = λ stored s ok c diag there sees. blind_whole anything (λ d. refl) refuses stored s c diag _ _ _ _ (λ e. blind reads c stored s diag e) sees; last_id = λ stored s ok c n e. unmarked reads c stored s n e };
  insert_id = record {
    kept = λ stored s ok c text is marks shallow shown none. going c (text_goes c text is) (λ o. o.session.last_id ≡ s.last_id) stored s refl;
    set_stored = λ stored s ok n small. refl;
    set_done = λ stored s ok n small done. apart done error_not_ok;
    set_refused = λ stored s ok n small refused. refl;
    set_reply = λ stored s ok n k small. refl;
    set_diag = λ stored s ok n k small. refl;
    set_blind = λ stored s ok n small diag there. blind_same anything _ _ diag s.diag _ _ refl;
    read_stored = λ stored s ok. refl;
    read_session = λ stored s ok. refl;
    read_row = λ stored s ok. inl error_is_err;
    read_blind = λ stored s ok diag there. blind_same anything _ _ diag s.diag _ _ refl;
  };
  flags = record { in_trans = λ stored s ok c prepare stays is e. shown c stored s stays is e };
  preparing = record {
    stored = λ stored s ok text. refl;
    session = λ stored s ok text. refl;
    fields_stored = λ stored s ok rest. refl;
    fields_session = λ stored s ok rest. refl;
    params = λ stored stored' s s' ok ok' text fine fine'. apart made_not fine;
    run = λ stored s ok text schema there here types nulls values long same. refl;
  };
  unlock = record { frees = λ stored s ok c text is freed. absurd (no_locks_freed (frees (reads.class text)) (is_ok (reply_end false (refuses stored s c).reply)) (going c (text_goes c text is) (λ o. is_ok (reply_end false o.reply) ≡ false) stored s error_not_ok) freed) };
  replies = record { changes = λ stored s ok c some. going c (effect_goes reads c some) (λ o. IsOkOrErr o.reply) stored s refusal; set_id = λ stored s ok n small. refusal };
}
