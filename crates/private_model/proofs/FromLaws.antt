-- A tame server keeps the laws that the proof uses, of the router's commands.
use Rattle.std.specs.Prelude.{◌≡◌, ◌⊎◌, ℕ, Bool, true, false, List, [], Some}
use Rattle.std.proofs.Common.{refl, sym, ap, ◌∙◌, subst, inl, inr}
use Rattle.session_vars.specs.declared.change.Change.{Change}
use Rattle.session_state.specs.Classes.{Effect, Tracked, Uses, Neither, effect_of, frees_locks, is_lone_savepoint, schema_by, sets_autocommit, sets_next, settings_by, takes_locks}
use Rattle.session_state.specs.Endings as ending
use Rattle.server_rule.specs.Classes.{Reads}
use Rattle.server_rule.specs.Laws.{IsTame}
use Rattle.server_rule.specs.Laws as laws
use Rattle.server_rule.specs.Replies.{reply_end}
use Rattle.server_rule.specs.Servers.{Accepts, Tests, is_brief, is_some_of, with_diag, with_id}
use Rattle.server_rule.specs.Servers as server
use Rattle.server_rule.specs.declared.command.Cmd.TheVariants as cmd
use Rattle.server_rule.specs.declared.session.Session.{Session}
use Rattle.server_rule.proofs.Ends.{Shows, nothing_shows, shown_end}
use Rattle.private_model.specs.Commands.{Command, Query, InitDb, FieldList, SetId, ReadId, Number, Prepare, Run, Reset, Quit, Outcome, class_of, cmd_of, end_of, hides_of, is_err, is_ok, is_prepare, outcome_of, runs}
use Rattle.private_model.proofs.Tame.{IsBlind, IsBlindBy, ResetLaw, SeesSame, Tame, is_flagged, is_text, account_of, brings_id, flags, outcome_with_id}
use Rattle.private_model.proofs.Sessions.{apart, bool_cases}

neither_tracked : {A : Type 0} {changes : List Change} → Neither ≡ Tracked changes → A
neither_tracked e = absurd (cc)

uses_tracked : {A : Type 0} {schema : List ℕ} {changes : List Change} → Uses schema ≡ Tracked changes → A
uses_tracked e = absurd (cc)

neither_uses : {A : Type 0} {schema : List ℕ} → Neither ≡ Uses schema → A
neither_uses e = absurd (cc)

module _ (reads : Reads) (tests : Tests) (rule : server.Step) (tame : IsTame reads tests rule) where
  abbrev step : List ℕ → Session → Command → Outcome
  step = runs rule

  account_law : (stored : List ℕ) (s : Session) → Accepts tests stored s → (c : Command) → account_of (step stored s c).session ≡ account_of s
  account_law stored s ok c =
      let user = tame.account.user stored s ok (cmd_of c) in
      let capabilities = tame.account.capabilities stored s ok (cmd_of c) in
      λ i. record { user = user i; capabilities = capabilities i }

  set_kept : (stored : List ℕ) (s : Session) → Accepts tests stored s → (n : Number) (done : Bool) → is_ok (step stored s (SetId n)).reply ≡ done → tests.lasts s.deep ≡ false → tests.lasts (step stored s (SetId n)).session.deep ≡ false
  set_kept stored s ok n true is lasts = subst (λ (x : Session). tests.lasts x.deep ≡ false) (sym (tame.insert_id.set_done stored s ok n.value n.fits is)) lasts
  set_kept stored s ok n false is lasts = subst (λ (x : Session). tests.lasts x.deep ≡ false) (sym (tame.insert_id.set_refused stored s ok n.value n.fits is)) lasts

  brings_law : (stored : List ℕ) (s : Session) → Accepts tests stored s → (c : Command) → (class_of reads c).outlasts_reset ≡ false → tests.lasts s.deep ≡ false → tests.lasts (step stored s c).session.deep ≡ false
  brings_law stored s ok (Query text) plain lasts = tame.reset.brings stored s ok (cmd.Query text) plain lasts
  brings_law stored s ok (Run text schema settings args) plain lasts = tame.reset.brings stored s ok (cmd_of (Run text schema settings args)) plain lasts
  brings_law stored s ok (InitDb schema) plain lasts = tame.reset.brings stored s ok (cmd.InitDb schema) refl lasts
  brings_law stored s ok (FieldList rest) plain lasts = tame.reset.brings stored s ok (cmd.FieldList rest) refl lasts
  brings_law stored s ok (Prepare text) plain lasts = tame.reset.brings stored s ok (cmd.Prepare text) refl lasts
  brings_law stored s ok (SetId n) plain lasts = set_kept stored s ok n (is_ok (step stored s (SetId n)).reply) refl lasts
  brings_law stored s ok ReadId plain lasts = subst (λ (x : Session). tests.lasts x.deep ≡ false) (sym (tame.insert_id.read_session stored s ok)) lasts
  brings_law stored s ok Reset plain lasts = tame.reset.brings stored s ok cmd.Reset refl lasts
  brings_law stored s ok Quit plain lasts = tame.reset.brings stored s ok cmd.Close refl lasts

  reset_law : ResetLaw reads tests step
  reset_law = record {
    session = tame.reset.session;
    deep = tame.reset.deep;
    nothing_lasts = tame.reset.nothing_lasts;
    brings = brings_law;
    blind = tame.reset.blind;
    idle = tame.reset.idle;
    quit_stored = tame.reset.close_stored;
    quit_session = tame.reset.close_session;
  }

  tracked_law : (stored : List ℕ) (s : Session) → Accepts tests stored s → (c : Command) (changes : List Change) → effect_of (class_of reads c) ≡ Tracked changes → (s.tx ≡ []) ⊎ (sets_autocommit changes ≡ false)
      → ((step stored s c).stored ≡ stored) × ((step stored s c).session.tx ≡ s.tx)
  tracked_law stored s ok (Query text) changes e calm = (tame.tracked.calm stored s ok (cmd.Query text) changes e calm, tame.tracked.calm_tx stored s ok (cmd.Query text) changes e calm)
  tracked_law stored s ok (Run text schema settings args) changes e calm =
      let c = cmd_of (Run text schema settings args) in (tame.tracked.calm stored s ok c changes e calm, tame.tracked.calm_tx stored s ok c changes e calm)
  tracked_law stored s ok (InitDb schema) changes e calm = uses_tracked e
  tracked_law stored s ok _ changes e calm = neither_tracked e

  uses_law : (stored : List ℕ) (s : Session) → Accepts tests stored s → (c : Command) (schema : List ℕ) → effect_of (class_of reads c) ≡ Uses schema
      → ((step stored s c).stored ≡ stored) × ((step stored s c).session ≡ record s { schema = schema_by (Uses schema) (is_ok (step stored s c).reply) s.schema; diag = (step stored s c).session.diag })
  uses_law stored s ok (Query text) schema e = (tame.schemas.stored stored s ok (cmd.Query text) schema e, tame.schemas.session stored s ok (cmd.Query text) schema e)
  uses_law stored s ok (Run text schema' settings args) schema e =
      let c = cmd_of (Run text schema' settings args) in (tame.schemas.stored stored s ok c schema e, tame.schemas.session stored s ok c schema e)
  uses_law stored s ok (InitDb schema') schema e = (tame.schemas.stored stored s ok (cmd.InitDb schema') schema e, tame.schemas.session stored s ok (cmd.InitDb schema') schema e)
  uses_law stored s ok _ schema e = neither_uses e

  -- what a command that isn't a text leaves of a session, but for the schema
  abbrev is_aside : Command → Bool
  is_aside (Query text) = false
  is_aside (Run text schema settings args) = false
  is_aside (InitDb schema) = false
  is_aside _ = true

  left : {A : Type 0} (f : Session → A) → ((n : ℕ) (diag : List ℕ) (x : Session) → f (with_diag diag (with_id n x)) ≡ f x)
      → (stored : List ℕ) (s : Session) → Accepts tests stored s → (c : Command) → is_aside c ≡ true → (class_of reads c).deep ≡ false → f (step stored s c).session ≡ f s
  left f same stored s ok (FieldList rest) is shallow = ap f (tame.preparing.fields_session stored s ok rest) ∙ same s.last_id _ s
  left f same stored s ok (Prepare text) is shallow = ap f (tame.preparing.session stored s ok text) ∙ same s.last_id _ s
  left f same stored s ok ReadId is shallow = ap f (tame.insert_id.read_session stored s ok) ∙ same s.last_id _ s
  left f same stored s ok (SetId n) is shallow = elim (bool_cases (is_ok (step stored s (SetId n)).reply)) [
    | inl done ↦ ap f (tame.insert_id.set_done stored s ok n.value n.fits done) ∙ same n.value _ s
    | inr not_done ↦ ap f (tame.insert_id.set_refused stored s ok n.value n.fits not_done) ∙ same s.last_id _ s
  ]
  left f same stored s ok Reset is shallow = apart refl shallow
  left f same stored s ok Quit is shallow = apart refl shallow
  left f same stored s ok _ is shallow = apart is refl

  -- the schema and the settings after a text
  schema_text : (stored : List ℕ) (s : Session) → Accepts tests stored s → (c : Command) (text : List ℕ) → server.Accepts tests stored s → (effect : Effect) → effect_of (class_of reads c) ≡ effect
      → ((changes : List Change) → effect ≡ Tracked changes → (step stored s c).session.schema ≡ s.schema) → (effect ≡ Neither → (step stored s c).session.schema ≡ s.schema)
      → (step stored s c).session.schema ≡ schema_by effect (is_ok (step stored s c).reply) s.schema
  schema_text stored s ok c text ok' (Tracked changes) e tracked neither = tracked changes refl
  schema_text stored s ok c text ok' (Uses schema) e tracked neither = ap (λ (x : Session). x.schema) (uses_law stored s ok c schema e).1
  schema_text stored s ok c text ok' Neither e tracked neither = neither refl

  settings_text : (stored : List ℕ) (s : Session) → Accepts tests stored s → (c : Command) (effect : Effect) → effect_of (class_of reads c) ≡ effect
      → ((changes : List Change) → effect ≡ Tracked changes → (step stored s c).session.settings ≡ settings_by (Tracked changes) (is_ok (step stored s c).reply) s.settings) → (effect ≡ Neither → (step stored s c).session.settings ≡ s.settings)
      → (step stored s c).session.settings ≡ settings_by effect (is_ok (step stored s c).reply) s.settings
  settings_text stored s ok c (Tracked changes) e tracked neither = tracked changes refl
  settings_text stored s ok c (Uses schema) e tracked neither = ap (λ (x : Session). x.settings) (uses_law stored s ok c schema e).1
  settings_text stored s ok c Neither e tracked neither = neither refl

  schema_after : (stored : List ℕ) (s : Session) → Accepts tests stored s → (c : Command) → (class_of reads c).deep ≡ false → (step stored s c).session.schema ≡ schema_by (effect_of (class_of reads c)) (is_ok (step stored s c).reply) s.schema
  schema_after stored s ok (Query text) shallow = schema_text stored s ok (Query text) text ok (effect_of (reads.class text)) refl (λ changes e. tame.tracked.schema stored s ok (cmd.Query text) changes e) (λ e. tame.texts.schema stored s ok (cmd.Query text) text refl shallow e)
  schema_after stored s ok (Run text schema settings args) shallow =
      let c = cmd_of (Run text schema settings args) in
      schema_text stored s ok (Run text schema settings args) text ok (effect_of (reads.class text)) refl (λ changes e. tame.tracked.schema stored s ok c changes e) (λ e. tame.texts.schema stored s ok c text refl shallow e)
  schema_after stored s ok (InitDb schema) shallow = ap (λ (x : Session). x.schema) (uses_law stored s ok (InitDb schema) schema refl).1
  schema_after stored s ok c shallow = left (λ (x : Session). x.schema) (λ n d x. refl) stored s ok c refl shallow

  settings_after : (stored : List ℕ) (s : Session) → Accepts tests stored s → (c : Command) → (class_of reads c).deep ≡ false → (step stored s c).session.settings ≡ settings_by (effect_of (class_of reads c)) (is_ok (step stored s c).reply) s.settings
  settings_after stored s ok (Query text) shallow = settings_text stored s ok (Query text) (effect_of (reads.class text)) refl (λ changes e. tame.tracked.settings stored s ok (cmd.Query text) changes e) (λ e. tame.texts.settings stored s ok (cmd.Query text) text refl shallow e)
  settings_after stored s ok (Run text schema settings args) shallow =
      let c = cmd_of (Run text schema settings args) in
      settings_text stored s ok (Run text schema settings args) (effect_of (reads.class text)) refl (λ changes e. tame.tracked.settings stored s ok c changes e) (λ e. tame.texts.settings stored s ok c text refl shallow e)
  settings_after stored s ok (InitDb schema) shallow = ap (λ (x : Session). x.settings) (uses_law stored s ok (InitDb schema) schema refl).1
  settings_after stored s ok c shallow = left (λ (x : Session). x.settings) (λ n d x. refl) stored s ok c refl shallow

  locks_after : (stored : List ℕ) (s : Session) → Accepts tests stored s → (c : Command) → (class_of reads c).deep ≡ false → takes_locks (class_of reads c) (end_of (step stored s c).reply) ≡ false → s.locks ≡ [] → (step stored s c).session.locks ≡ []
  locks_after stored s ok (Query text) shallow takes none = tame.texts.locks stored s ok (cmd.Query text) text refl shallow takes none
  locks_after stored s ok (Run text schema settings args) shallow takes none = tame.texts.locks stored s ok (cmd_of (Run text schema settings args)) text refl shallow takes none
  locks_after stored s ok (InitDb schema) shallow takes none = ap (λ (x : Session). x.locks) (uses_law stored s ok (InitDb schema) schema refl).1 ∙ none
  locks_after stored s ok c shallow takes none = left (λ (x : Session). x.locks) (λ n d x. refl) stored s ok c refl shallow ∙ none

  none_after : (stored : List ℕ) (s : Session) → Accepts tests stored s → (c : Command) → (class_of reads c).deep ≡ false → sets_next (class_of reads c) (end_of (step stored s c).reply) ≡ false → is_lone_savepoint (class_of reads c) (end_of (step stored s c).reply) ≡ false → s.deep ≡ [] → (step stored s c).session.deep ≡ []
  none_after stored s ok (Query text) shallow next inside none = tame.texts.none stored s ok (cmd.Query text) text refl shallow next inside none
  none_after stored s ok (Run text schema settings args) shallow next inside none = tame.texts.none stored s ok (cmd_of (Run text schema settings args)) text refl shallow next inside none
  none_after stored s ok (InitDb schema) shallow next inside none = ap (λ (x : Session). x.deep) (uses_law stored s ok (InitDb schema) schema refl).1 ∙ none
  none_after stored s ok c shallow next inside none = left (λ (x : Session). x.deep) (λ n d x. refl) stored s ok c refl shallow ∙ none

  brief_after : (stored : List ℕ) (s : Session) → Accepts tests stored s → (c : Command) → (class_of reads c).deep ≡ false → is_lone_savepoint (class_of reads c) (end_of (step stored s c).reply) ≡ false → is_brief s.deep ≡ true → is_brief (step stored s c).session.deep ≡ true
  brief_after stored s ok (Query text) shallow inside brief = tame.texts.brief stored s ok (cmd.Query text) text refl shallow inside brief
  brief_after stored s ok (Run text schema settings args) shallow inside brief = tame.texts.brief stored s ok (cmd_of (Run text schema settings args)) text refl shallow inside brief
  brief_after stored s ok (InitDb schema) shallow inside brief = ap (λ (x : Session). is_brief x.deep) (uses_law stored s ok (InitDb schema) schema refl).1 ∙ brief
  brief_after stored s ok c shallow inside brief = left (λ (x : Session). is_brief x.deep) (λ n d x. refl) stored s ok c refl shallow ∙ brief

  -- a transaction that such a command leaves doesn't end
  still_open : {A : Type 0} (c : Command) (stored : List ℕ) (s : Session) → (step stored s c).session.tx ≡ s.tx → is_some_of s.tx ≡ true → is_some_of (step stored s c).session.tx ≡ false → A
  still_open c stored s same there over = apart (ap is_some_of same ∙ there) over

  ended_after : (stored : List ℕ) (s : Session) → Accepts tests stored s → (c : Command) → (class_of reads c).deep ≡ false → is_some_of s.tx ≡ true → is_some_of (step stored s c).session.tx ≡ false → is_brief s.deep ≡ true → (step stored s c).session.deep ≡ []
  ended_after stored s ok (Query text) shallow there over brief = tame.texts.ended stored s ok (cmd.Query text) text refl shallow there over brief
  ended_after stored s ok (Run text schema settings args) shallow there over brief = tame.texts.ended stored s ok (cmd_of (Run text schema settings args)) text refl shallow there over brief
  ended_after stored s ok (InitDb schema) shallow there over brief = still_open (InitDb schema) stored s (ap (λ (x : Session). x.tx) (uses_law stored s ok (InitDb schema) schema refl).1) there over
  ended_after stored s ok c shallow there over brief = still_open c stored s (left (λ (x : Session). x.tx) (λ n d x. refl) stored s ok c refl shallow) there over

  blind_of : (c : Command) (own_diag own_found : Bool) (diag diag' : List ℕ) (there here : server.Outcome) → laws.IsBlind tests own_diag own_found diag diag' there here
      → IsBlind tests own_diag own_found diag diag' (outcome_of c there) (outcome_of c here)
  blind_of c own_diag own_found diag diag' there here is = record {
    stored = is.stored;
    reply = ap (λ x. record { to_prepare = is_prepare c; payloads = x }) is.reply;
    session = is.session;
    warnings = is.warnings;
    found = is.found;
  }

  diag_law : (stored : List ℕ) (s : Session) → Accepts tests stored s → (c : Command) (diag : List ℕ) → Accepts tests stored (with_diag diag s) → SeesSame reads tests c diag s.diag
      → IsBlindBy reads tests c diag s.diag (step stored (with_diag diag s) c) (step stored s c)
  diag_law stored s ok (SetId n) diag there sees = blind_of (SetId n) _ _ diag s.diag _ _ (tame.insert_id.set_blind stored s ok n.value n.fits diag there)
  diag_law stored s ok ReadId diag there sees = blind_of ReadId _ _ diag s.diag _ _ (tame.insert_id.read_blind stored s ok diag there)
  diag_law stored s ok (Query text) diag there sees = blind_of (Query text) _ _ diag s.diag _ _ (tame.blind.diag stored s ok (cmd.Query text) diag there sees)
  diag_law stored s ok (InitDb schema) diag there sees = blind_of (InitDb schema) _ _ diag s.diag _ _ (tame.blind.diag stored s ok (cmd.InitDb schema) diag there sees)
  diag_law stored s ok (FieldList rest) diag there sees = blind_of (FieldList rest) _ _ diag s.diag _ _ (tame.blind.diag stored s ok (cmd.FieldList rest) diag there sees)
  diag_law stored s ok (Prepare text) diag there sees = blind_of (Prepare text) _ _ diag s.diag _ _ (tame.blind.diag stored s ok (cmd.Prepare text) diag there sees)
  diag_law stored s ok (Run text schema settings args) diag there sees =
      blind_of (Run text schema settings args) _ _ diag s.diag _ _ (tame.blind.diag stored s ok (cmd_of (Run text schema settings args)) diag there sees)
  diag_law stored s ok Reset diag there sees = blind_of Reset _ _ diag s.diag _ _ (tame.blind.diag stored s ok cmd.Reset diag there sees)
  diag_law stored s ok Quit diag there sees = blind_of Quit _ _ diag s.diag _ _ (tame.blind.diag stored s ok cmd.Close diag there sees)

  id_law : (stored : List ℕ) (s : Session) → Accepts tests stored s → (c : Command) (n : ℕ) → (class_of reads c).marks_id ≡ false → step stored (with_id n s) c ≡ outcome_with_id n (step stored s c)
  id_law stored s ok (SetId k) n e = apart refl e
  id_law stored s ok ReadId n e = apart refl e
  id_law stored s ok c n e = ap (outcome_of c) (tame.blind.last_id stored s ok (cmd_of c) n e)

  kept_text : (stored : List ℕ) (s : Session) → Accepts tests stored s → (c : Command) → ((class_of reads c).marks_id ≡ true → (step stored s c).session.last_id ≡ s.last_id) → (step stored s c).session.last_id ≡ s.last_id
  kept_text stored s ok c marked = elim (bool_cases (class_of reads c).marks_id) [
    | inl marks ↦ marked marks
    | inr unmarked ↦ ap (λ (o : Outcome). o.session.last_id) (id_law stored s ok c s.last_id unmarked)
  ]

  id_kept : (stored : List ℕ) (s : Session) → Accepts tests stored s → (c : Command) → is_text c ≡ true → (class_of reads c).deep ≡ false → hides_of reads c ≡ false → brings_id (step stored s c).reply ≡ false → (step stored s c).session.last_id ≡ s.last_id
  id_kept stored s ok (Query text) is shallow shown none = kept_text stored s ok (Query text) (λ marks. tame.insert_id.kept stored s ok (cmd.Query text) text refl marks shallow shown none)
  id_kept stored s ok (Run text schema settings args) is shallow shown none = kept_text stored s ok (Run text schema settings args) (λ marks. tame.insert_id.kept stored s ok (cmd_of (Run text schema settings args)) text refl marks shallow shown none)
  id_kept stored s ok _ is shallow shown none = apart is refl

  -- after the end of a connection no transaction is open
  closed_tx : (stored : List ℕ) (s : Session) → Accepts tests stored s → (step stored s Quit).session.tx ≡ []
  closed_tx stored s ok = ap (λ (x : Session). x.tx) (tame.reset.close_session stored s ok)

  closed_shows : (stored : List ℕ) (s : Session) → Accepts tests stored s → flags (step stored s Quit).reply ≡ Some false
  closed_shows stored s ok = ap (λ x. ending.shows_transaction (reply_end false x)) (tame.reset.close_reply stored s ok) ∙ nothing_shows

  flags_law : (stored : List ℕ) (s : Session) → Accepts tests stored s → (c : Command) → is_flagged c ≡ true → (shown : Bool) → flags (step stored s c).reply ≡ Some shown → is_some_of (step stored s c).session.tx ≡ shown
  flags_law stored s ok (Prepare text) is shown e = apart is refl
  flags_law stored s ok Quit is shown e = let same : Some false ≡ Some shown = sym (closed_shows stored s ok) ∙ e in ap is_some_of (closed_tx stored s ok) ∙ cc
  flags_law stored s ok c is shown e = tame.flags.in_trans stored s ok (cmd_of c) refl refl shown e

  shows_law : (stored : List ℕ) (s : Session) → Accepts tests stored s → (c : Command) → is_flagged c ≡ true → is_err (step stored s c).reply ≡ false → Shows (end_of (step stored s c).reply)
  shows_law stored s ok (Prepare text) is fine = apart is refl
  shows_law stored s ok c is fine = shown_end (step stored s c).reply.payloads fine

  frees_law : (stored : List ℕ) (s : Session) → Accepts tests stored s → (c : Command) → frees_locks (class_of reads c) (end_of (step stored s c).reply) ≡ true → (step stored s c).session.locks ≡ []
  frees_law stored s ok (Query text) e = tame.unlock.frees stored s ok (cmd.Query text) text refl e
  frees_law stored s ok (Run text schema settings args) e = tame.unlock.frees stored s ok (cmd_of (Run text schema settings args)) text refl e
  frees_law stored s ok _ e = apart e refl

  pub tame_runs : Tame reads tests step
  tame_runs = record {
    accepts_fresh = tame.tests_kept.accepts_fresh;
    keeps = λ stored s ok c. tame.tests_kept.keeps stored s ok (cmd_of c);
    account = account_law;
    reset = reset_law;
    tracked = record { calm = λ stored s ok c changes e calm. (tracked_law stored s ok c changes e calm).0; calm_tx = λ stored s ok c changes e calm. (tracked_law stored s ok c changes e calm).1 };
    uses = record { stored = λ stored s ok c schema e. (uses_law stored s ok c schema e).0; session = λ stored s ok c schema e. (uses_law stored s ok c schema e).1 };
    text = record { schema = schema_after; settings = settings_after; locks = locks_after; none = none_after; brief = brief_after; ended = ended_after };
    blind = record { diag = diag_law; last_id = id_law };
    id = record {
      kept = id_kept;
      set_stored = λ stored s ok n. tame.insert_id.set_stored stored s ok n.value n.fits;
      set_done = λ stored s ok n. tame.insert_id.set_done stored s ok n.value n.fits;
      set_refused = λ stored s ok n. tame.insert_id.set_refused stored s ok n.value n.fits;
      set_reply = λ stored s ok n k. ap (λ x. record { to_prepare = false; payloads = x }) (tame.insert_id.set_reply stored s ok n.value k n.fits);
      set_diag = λ stored s ok n k. tame.insert_id.set_diag stored s ok n.value k n.fits;
      read_stored = tame.insert_id.read_stored;
      read_session = tame.insert_id.read_session;
      read_row = tame.insert_id.read_row;
    };
    prepare = record {
      stored = tame.preparing.stored;
      session = tame.preparing.session;
      fields_stored = tame.preparing.fields_stored;
      fields_session = tame.preparing.fields_session;
      core = λ stored s ok text schema there here args same. ap (outcome_of (Run text schema here args)) (tame.preparing.run stored s ok text schema there here args.types args.nulls args.values args.long same);
    };
    in_trans = flags_law;
    shows = shows_law;
    frees = frees_law;
  }
