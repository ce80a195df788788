-- A link that isn't open is of no use: so who goes on and is carried is carried by an open link.
use Rattle.std.specs.Prelude.{◌≡◌, Bool, true, false, fold, if◌then◌else◌, List, [], ◌∷◌, ◌++◌}
use Rattle.std.proofs.Common.{refl, sym, ap, ◌∙◌}
use Rattle.mx_base.specs.declared.names.LinkId.{LinkId}
use Rattle.mx_wire.specs.Log.{Log, is_link, is_open, link_of, open_step}
use Rattle.mx_wire.specs.Tells.{Fits}
use Rattle.mx_wire.specs.declared.entry.Entry.{Entry}
use Rattle.mx_wire.specs.declared.entry.Entry.TheVariants as entry
use Rattle.private_model.proofs.Maps.{link_of as one_link}
use Rattle.private_model.specs.Commands.{Reply}
use Rattle.private_model.specs.Story.{BecameDue, Broke, Dropped, Freed, Gone, Happening, Heard, Left, LoggedIn, Mirrored, Ran, Sent, Unprepared, is_link_id, put}
use Rattle.private_model.specs.View.{Answered, Asked, Link, Quiet, Setup, Stage, View, asked, closed_number, freed, heard, ran_by, view_heard, view_step}
use Rattle.log_story.proofs.Moving.{says-moved, writes-moved}
use Rattle.log_story.specs.Clients.{client_leaves}
use Rattle.log_story.specs.Plan.{Plan}
use Rattle.log_story.specs.Tale.{Client, Tale, is_to_server, link_in, tell, view_of}
use Rattle.log_story.specs.Telling.{is_lost_or_left, tale_step, told}
use Rattle.shared_router.proofs.Closed.{open_more}
use Rattle.shared_router.proofs.Dues.{either}
use Rattle.run_laws.proofs.Going.{IsCalm, Keeps, step_keeps}

isnt : {A : Type 0} → false ≡ true → A
isnt is = absurd (cc)

-- it isn't that the router logs in
abbrev IsNoLogin : Happening → Type 0
IsNoLogin (LoggedIn link server account) = ⊥
IsNoLogin _ = Unit {0}

-- neither read nor written there
abbrev IsElsewhere : Entry → LinkId → Type 0
IsElsewhere (entry.Got link bytes) l = is_link_id l link ≡ false
IsElsewhere (entry.Wrote link tag bytes) l = is_link_id l link ≡ false
IsElsewhere _ l = Unit {0}

module _ (setup : Setup) (l : LinkId) where
  abbrev IsUnused : View → Type 0
  IsUnused view = (view.links l).usable ≡ false

  put_unused : (links : LinkId → Link) (link : LinkId) (value : Link) → ((links link).usable ≡ false → value.usable ≡ false) → (links l).usable ≡ false
      → (put is_link_id links link value l).usable ≡ false
  put_unused links link value keeps none = by_test (is_link_id l link) refl where
    by_test : (b : Bool) → is_link_id l link ≡ b → (if b then value else links l).usable ≡ false
    by_test true here = keeps (ap (λ x. (links x).usable) (sym (one_link l link here)) ∙ none)
    by_test false other = none

  ran_unused : (stage : Stage) (x : Link) → (ran_by setup.reads stage x).usable ≡ x.usable
  ran_unused Quiet x = refl
  ran_unused (Asked question) x = refl
  ran_unused (Answered question) x = refl

  heard_unused : (view : View) (link : LinkId) (reply : Reply) (stage : Stage) → IsUnused view → IsUnused (view_heard setup view link reply stage)
  heard_unused view link reply Quiet none = none
  heard_unused view link reply (Asked question) none = none
  heard_unused view link reply (Answered question) none = put_unused view.links link (heard setup.reads question reply (view.links link)) (λ is. is) none

  unused_after : (view : View) (e : Happening) → IsNoLogin e → IsUnused view → IsUnused (view_step setup view e)
  unused_after view (LoggedIn link server account) other none = absurd other
  unused_after view (Sent link question) other none = put_unused view.links link (asked question (view.links link)) (λ is. is) none
  unused_after view (Ran link) other none = put_unused view.links link _ (λ is. ran_unused (view.links link).stage (view.links link) ∙ is) none
  unused_after view (Heard link reply) other none = heard_unused view link reply (view.links link).stage none
  unused_after view (Freed link) other none = put_unused view.links link (freed (view.links link)) (λ is. is) none
  unused_after view (Unprepared link number) other none = put_unused view.links link (closed_number number (view.links link)) (λ is. is) none
  unused_after view (Gone link) other none = put_unused view.links link (record (view.links link) { usable = false }) (λ is. refl) none
  unused_after view (Dropped link) other none = none
  unused_after view (BecameDue client hostgroup ordinal key command multiplex) other none = none
  unused_after view (Left client) other none = none
  unused_after view (Mirrored client job) other none = none
  unused_after view Broke other none = none

  abbrev Unused : Tale → Type 0
  Unused tale = (link_in setup tale l).usable ≡ false

  calm_login : (e : Happening) → IsCalm e → IsNoLogin e
  calm_login (LoggedIn link server account) calm = calm
  calm_login _ calm = tt

  keeping : Keeps Unused
  keeping = record {
    tells = λ tale e calm none. unused_after (view_of setup tale) e (calm_login e calm) none;
    moves = λ tale client none. none;
    counts = λ tale none. none;
  }

  module _ (plan : Plan) where
    leaving : (link : LinkId) (xs : List Client) (tale : Tale) → Unused tale → Unused (fold (client_leaves link) tale xs)
    leaving link [] tale none = none
    leaving link (x ∷ xs) tale none =
        leaving link xs (client_leaves link tale x) (either Unused (is_link_id x.link link) (tell (Left x.number) tale) tale none none)

    losing : (link : LinkId) (tale : Tale) → Unused tale → Unused (is_lost_or_left link tale)
    losing link tale none =
        either Unused (is_to_server tale link) (tell (Gone link) tale) (fold (client_leaves link) tale tale.clients)
        (unused_after (view_of setup tale) (Gone link) tt none) (leaving link tale.clients tale none)

    told_unused : (tale : Tale) (e : Entry) → IsElsewhere e l → Unused tale → Unused (told setup plan tale e)
    told_unused tale (entry.Got link bytes) other none =
        either Unused (is_to_server tale link) _ _ (ap (λ (x : Link). x.usable) ((says-moved setup plan link bytes tale).view.link l other) ∙ none) none
    told_unused tale (entry.Wrote link for bytes) other none =
        either Unused (is_to_server tale link) _ _ (ap (λ (x : Link). x.usable) ((writes-moved setup plan link for bytes tale).view.link l other) ∙ none) none
    told_unused tale (entry.Exec link) other none =
        either Unused (tale.wires link).entered _ _
        (either (λ e. Unused (tell e tale)) (tale.wires link).quits (Dropped link) (Ran link) none (unused_after (view_of setup tale) (Ran link) tt none)) none
    told_unused tale (entry.Drop link) other none = none
    told_unused tale (entry.Ended link) other none = losing link tale none
    told_unused tale (entry.ReadFailed link) other none = losing link tale none
    told_unused tale (entry.WriteFailed link) other none = losing link tale none
    told_unused tale (entry.Closed link) other none = losing link tale none
    told_unused tale _ other none = none

    step_unused : (tale : Tale) (e : Entry) → IsElsewhere e l → Unused tale → Unused (tale_step setup plan tale e)
    step_unused tale e other none = step_keeps setup plan Unused keeping tale e (told_unused tale e other none)

    -- it is closed
    closes : (tale : Tale) (link : LinkId) → is_link_id l link ≡ true → (is_to_server tale l ≡ false → Unused tale) → Unused (tale_step setup plan tale (entry.Closed link))
    closes tale link here outside = step_keeps setup plan Unused keeping tale (entry.Closed link) (by_test (is_to_server tale link) refl) where
      by_test : (b : Bool) → is_to_server tale link ≡ b → Unused (if b then tell (Gone link) tale else fold (client_leaves link) tale tale.clients)
      by_test true there = ap (λ b. (if b then record (link_in setup tale link) { usable = false } else link_in setup tale l).usable) here
      by_test false none = leaving link tale.clients tale (outside (ap (is_to_server tale) (one_link l link here) ∙ none))

    -- Where it isn't open behind an entry, it was of no use or is closed by it.
    pub shut_step : (before : Log) (tale : Tale) (e : Entry) → Fits before e → (is_open l before ≡ false → Unused tale) → (is_to_server tale l ≡ false → Unused tale)
        → is_open l (before ++ e ∷ []) ≡ false → Unused (tale_step setup plan tale e)
    shut_step before tale e fits was outside shut = by_test (is_link l (link_of e)) refl (sym (open_more l before e) ∙ shut) where
      -- on this link
      on_it : (x : Entry) → x ≡ e → Fits before x → is_link l (link_of x) ≡ true → open_step (is_open l before) x ≡ false → Unused (tale_step setup plan tale x)
      on_it (entry.Accepted port link salt) same fits here shut = isnt (sym shut)
      on_it (entry.Opened server address link) same fits here shut = isnt (sym shut)
      on_it (entry.Closed link) same fits here shut = closes tale link here outside
      on_it (entry.Got link bytes) same fits here shut = isnt (sym shut ∙ ap (λ x. is_open x before) (one_link l link here) ∙ fits.opened)
      on_it (entry.Wrote link tag bytes) same fits here shut = isnt (sym shut ∙ ap (λ x. is_open x before) (one_link l link here) ∙ fits.opened)
      on_it (entry.Exec link) same fits here shut = step_unused tale (entry.Exec link) tt (was shut)
      on_it (entry.Drop link) same fits here shut = step_unused tale (entry.Drop link) tt (was shut)
      on_it (entry.Named link) same fits here shut = step_unused tale (entry.Named link) tt (was shut)
      on_it (entry.Ended link) same fits here shut = step_unused tale (entry.Ended link) tt (was shut)
      on_it (entry.ReadFailed link) same fits here shut = step_unused tale (entry.ReadFailed link) tt (was shut)
      on_it (entry.WriteFailed link) same fits here shut = step_unused tale (entry.WriteFailed link) tt (was shut)
      on_it (entry.ReadNothing link) same fits here shut = step_unused tale (entry.ReadNothing link) tt (was shut)
      on_it (entry.WriteNothing link) same fits here shut = step_unused tale (entry.WriteNothing link) tt (was shut)
      on_it _ same fits here shut = isnt here

      elsewhere : (x : Entry) → is_link l (link_of x) ≡ false → IsElsewhere x l
      elsewhere (entry.Got link bytes) other = other
      elsewhere (entry.Wrote link tag bytes) other = other
      elsewhere _ other = tt

      by_test : (b : Bool) → is_link l (link_of e) ≡ b → fold open_step (is_open l before) (if b then e ∷ [] else []) ≡ false → Unused (tale_step setup plan tale e)
      by_test true here shut = on_it e refl fits here shut
      by_test false other shut = step_unused tale e (elsewhere e other) (was shut)
