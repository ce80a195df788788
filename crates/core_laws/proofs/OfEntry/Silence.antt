-- What was said on a link stays what there is to say, while nothing more is said there.
use Rattle.std.specs.Prelude.{◌≡◌, ◌⊎◌, ℕ, Bool, true, false, not, fold, if◌then◌else◌, List, [], ◌∷◌, ◌++◌, map, Option}
use Rattle.std.proofs.Common.{refl, sym, ap, ◌∙◌, subst, append_assoc, inl, inr}
use Rattle.std.proofs.lemmas.Bool.{true≢false}
use Rattle.mx_wire.specs.declared.entry.Entry.{Entry}
use Rattle.mx_wire.specs.declared.entry.Entry.TheVariants as entry
use Rattle.server_side.specs.Account.{Account as Login}
use Rattle.server_side.specs.Laws.{opening-said}
use Rattle.server_side.specs.Login.{Fails, Goes, LogsIn, Opening, opening, said_of}
use Rattle.private_model.proofs.Maps.{link_of, same_link}
use Rattle.private_model.specs.Names.{LinkId}
use Rattle.private_model.specs.Story.{BecameDue, Broke, Dropped, Freed, Gone, Happening, Left, Mirrored, Ran, is_link_id, put}
use Rattle.private_model.specs.View.{Answered, Asked, Link, Quiet, Setup, Stage, freed, ran_by}
use Rattle.log_story.specs.Clients.{client_leaves}
use Rattle.log_story.specs.Honest.{IsFront}
use Rattle.log_story.specs.Plan.{Plan, StepText}
use Rattle.log_story.specs.Said.{IsNothing, IsQuestion, IsSaid, IsSaidBehind, SaysThere}
use Rattle.log_story.specs.Servers.{entered_by, read_as, reads_on, reset_by}
use Rattle.reply_track.specs.declared.reply.ReplyKind.TheVariants as kind
use Rattle.log_story.specs.Tale.{Client, Tale, Wire, client_hears, counted, is_reset_step, is_to_server, tell, view_of, with_wire}
use Rattle.log_story.specs.Telling.{is_lost_or_left, server_says, tale_step, told, wire_with}
use Rattle.row_laws.proofs.Seeing.{ran_parts, ran_stage}
use Rattle.step_laws.proofs.Telling.{told_spares}
use Rattle.step_laws.specs.Spared.{SparesIn, told_link, told_session}
use Rattle.core_laws.proofs.OfEntry.Remaining.{is_remaining, rest_keeps}
use Rattle.core_laws.specs.entry.Speaks.{IsEntering, IsSilent}

-- A question may run; else what stands there is the same.

record IsAgain (old new : Link) : Type 0 where
  stage : (new.stage ≡ old.stage) ⊎ (new.stage ≡ ran_stage old.stage)
  live : new.live ≡ old.live

again : (link : Link) → IsAgain link link
again link = record { stage = inl refl; live = refl }

ran_twice : (stage : Stage) → ran_stage (ran_stage stage) ≡ ran_stage stage
ran_twice Quiet = refl
ran_twice (Asked question) = refl
ran_twice (Answered question) = refl

stage_on : (a b c : Stage) → (b ≡ a) ⊎ (b ≡ ran_stage a) → (c ≡ b) ⊎ (c ≡ ran_stage b) → (c ≡ a) ⊎ (c ≡ ran_stage a)
stage_on a b c (inl first) (inl next) = inl (next ∙ first)
stage_on a b c (inr first) (inl next) = inr (next ∙ first)
stage_on a b c (inl first) (inr next) = inr (next ∙ ap ran_stage first)
stage_on a b c (inr first) (inr next) = inr (next ∙ ap ran_stage first ∙ ran_twice a)

again_on : (a b c : Link) → IsAgain a b → IsAgain b c → IsAgain a c
again_on a b c first next = record { stage = stage_on a.stage b.stage c.stage first.stage next.stage; live = next.live ∙ first.live }

question_ran : (stage : Stage) (live : ℕ → Option ℕ) (written : List ℕ) → IsQuestion stage live written → IsQuestion (ran_stage stage) live written
question_ran Quiet live written is = is
question_ran (Asked question) live written is = is
question_ran (Answered question) live written is = is

nothing_ran : (stage : Stage) (step : Option StepText) (written : List ℕ) → IsNothing stage step written → IsNothing (ran_stage stage) step written
nothing_ran Quiet step written is = is
nothing_ran (Asked question) step written is = tt
nothing_ran (Answered question) step written is = tt

-- what holds of a stage holds of the same, and of the one that ran
by_stage : (P : Stage → Type 0) (old new : Stage) → (P old → P (ran_stage old)) → (new ≡ old) ⊎ (new ≡ ran_stage old) → P old → P new
by_stage P old new ran (inl same) is = subst P (sym same) is
by_stage P old new ran (inr same) is = subst P (sym same) (ran is)

behind_again : (wire : Wire) (old new : Link) → IsAgain old new → IsSaidBehind wire old → IsSaidBehind wire new
behind_again wire old new same is = record {
  question = subst (λ (live : ℕ → Option ℕ). IsQuestion new.stage live wire.written) (sym same.live)
      (by_stage (λ (s : Stage). IsQuestion s old.live wire.written) old.stage new.stage
      (question_ran old.stage old.live wire.written) same.stage is.question);
  step = is.step;
  quit = is.quit;
  nothing = λ stays. by_stage (λ (s : Stage). IsNothing s wire.step wire.written) old.stage new.stage
      (nothing_ran old.stage wire.step wire.written) same.stage (is.nothing stays);
}

said_again : (entered : Bool) (login : Login) (wire : Wire) (old new : Link) → IsAgain old new → IsSaid entered login wire old
    → IsSaid entered login wire new
said_again false login wire old new same is = is
said_again true login wire old new same is = behind_again wire old new same is

-- Happenings.

put_again : (links : LinkId → Link) (link l : LinkId) (to : Link) → IsAgain (links link) to → IsAgain (links l) (put is_link_id links link to l)
put_again links link l to same = by (is_link_id l link) refl where
  by : (b : Bool) → is_link_id l link ≡ b → IsAgain (links l) (if b then to else links l)
  by true is = subst (λ (k : LinkId). IsAgain (links k) to) (sym (link_of l link is)) same
  by false is = again (links l)

module _ (setup : Setup) (l : LinkId) where
  abbrev there : Tale → Link
  there tale = (view_of setup tale).links l

  tells_again : (e : Happening) (tale : Tale) → is_remaining e ≡ true → IsAgain (there tale) (there (tell e tale))
  tells_again (Freed link) tale is =
      put_again (view_of setup tale).links link l (freed ((view_of setup tale).links link)) (record { stage = inl refl; live = refl })
  tells_again (Left client) tale is = again (there tale)
  tells_again (BecameDue client hostgroup ordinal key command multiplex) tale is = again (there tale)
  tells_again (Mirrored client job) tale is = again (there tale)
  tells_again Broke tale is = again (there tale)
  tells_again _ tale is = absurd (true≢false (sym is))

  ran_again : (link : LinkId) (tale : Tale) → IsAgain (there tale) (there (tell (Ran link) tale))
  ran_again link tale =
      let at : Link = (view_of setup tale).links link in
      let ran = ran_parts setup.reads at in
      put_again (view_of setup tale).links link l (ran_by setup.reads at.stage at) (record { stage = inr ran.stage; live = ran.live })

  gone_again : (link : LinkId) (tale : Tale) → IsAgain (there tale) (there (tell (Gone link) tale))
  gone_again link tale =
      put_again (view_of setup tale).links link l (record ((view_of setup tale).links link) { usable = false }) (record { stage = inl refl; live = refl })

  module _ (plan : Plan) where
    abbrev Says : Tale → Type 0
    Says tale = SaysThere setup plan tale l

    on_again : (old new : Tale) → new.wires l ≡ old.wires l → IsAgain (there old) (there new) → Says old → Says new
    on_again old new wire same is =
        subst (λ (w : Wire). IsSaid w.entered (plan.logins l) w (there new)) (sym wire)
        (said_again (old.wires l).entered (plan.logins l) (old.wires l) (there old) (there new) same is)

    either : (b : Bool) (x y : Tale) → Says x → Says y → Says (if b then x else y)
    either true x y first second = first
    either false x y first second = second

    left_says : (link : LinkId) (xs : List Client) (tale : Tale) → Says tale → Says (fold (client_leaves link) tale xs)
    left_says link [] tale is = is
    left_says link (x ∷ xs) tale is =
        left_says link xs (client_leaves link tale x)
        (either (is_link_id x.link link) (tell (Left x.number) tale) tale
        (on_again tale (tell (Left x.number) tale) refl (again (there tale)) is) is)

    losing_says : (link : LinkId) (tale : Tale) → Says tale → Says (is_lost_or_left link tale)
    losing_says link tale is =
        either (is_to_server tale link) (tell (Gone link) tale) (fold (client_leaves link) tale tale.clients)
        (on_again tale (tell (Gone link) tale) refl (gone_again link tale) is) (left_says link tale.clients tale is)

    exec_says : (link : LinkId) (tale : Tale) → Says tale → Says (told setup plan tale (entry.Exec link))
    exec_says link tale is = by (tale.wires link).entered (tale.wires link).quits where
      by : (a b : Bool) → Says (if a then tell (if b then Dropped link else Ran link) tale else tale)
      by true true = on_again tale (tell (Dropped link) tale) refl (again (there tale)) is
      by true false = on_again tale (tell (Ran link) tale) refl (ran_again link tale) is
      by false b = is

    -- in the login more is read, and what was said stays a front of what there is to say

    more_read : (wire : Wire) (bytes : List ℕ) → IsFront wire.written (said_of (opening (plan.logins l) wire.unread))
        → IsFront wire.written (said_of (opening (plan.logins l) (wire.unread ++ bytes)))
    more_read wire bytes front =
        let grown = opening-said (plan.logins l) wire.unread bytes in
        record {
          rest = front.rest ++ grown.0;
          is = sym (append_assoc wire.written front.rest grown.0) ∙ ap (λ (said : List ℕ). said ++ grown.0) front.is ∙ grown.1;
        }

    entering_says : (wire : Wire) (link : Link) → wire.entered ≡ false → IsFront wire.written (said_of (opening (plan.logins l) wire.unread))
        → IsSaid wire.entered (plan.logins l) wire link
    entering_says wire link entering front = subst (λ (b : Bool). IsSaid b (plan.logins l) wire link) (sym entering) front

    front_says : (tale : Tale) → (tale.wires l).entered ≡ false → Says tale
        → IsFront (tale.wires l).written (said_of (opening (plan.logins l) (tale.wires l).unread))
    front_says tale entering is = subst (λ (b : Bool). IsSaid b (plan.logins l) (tale.wires l) (there tale)) entering is

    module _ (tale : Tale) (bytes : List ℕ) (before : (tale.wires l).entered ≡ false) (is : Says tale) where
      abbrev wire : Wire
      wire = wire_with tale l bytes

      put_here : (w : Wire) → put is_link_id tale.wires l w l ≡ w
      put_here w = ap (λ (b : Bool). if b then w else tale.wires l) (same_link l)

      waits : Says (with_wire l wire tale)
      waits =
          subst (λ (w : Wire). IsSaid w.entered (plan.logins l) w (there tale)) (sym (put_here wire))
          (entering_says wire (there tale) before (more_read (tale.wires l) bytes (front_says tale before is)))

      enters : (to : Opening) → ((entered_by plan l wire to tale).wires l).entered ≡ false → Says (entered_by plan l wire to tale)
      enters (LogsIn said rest) behind =
          absurd (true≢false (sym (ap (λ (w : Wire). w.entered) (put_here (record wire { entered = true; unread = rest; written = [] }))) ∙ behind))
      enters (Goes said) behind = waits
      enters (Fails said fault) behind = waits

      reads : ((server_says setup plan l bytes tale).wires l).entered ≡ false → Says (server_says setup plan l bytes tale)
      reads behind =
          let to : Opening = opening (plan.logins l) wire.unread in
          let on : Tale = if is_reset_step (tale.wires l).step then reset_by l wire (read_as kind.Command wire) tale else reads_on setup l wire tale in
          let same : server_says setup plan l bytes tale ≡ entered_by plan l wire to tale =
          ap (λ (b : Bool). if not b then entered_by plan l wire to tale else on) before in
          subst Says (sym same) (enters to (ap (λ (t : Tale). (t.wires l).entered) (sym same) ∙ behind))

    -- An entry is told.

    spared : (tale : Tale) (e : Entry) → told_link e l ≡ false → Says tale → Says (told setup plan tale e)
    spared tale e untouched is =
        let spares : SparesIn setup (told_link e) (told_session setup plan tale e) tale (told setup plan tale e) = told_spares setup plan tale e in
        on_again tale (told setup plan tale e) (spares.wire l untouched) (record {
          stage = inl (ap (λ (k : Link). k.stage) (spares.view.link l untouched));
          live = ap (λ (k : Link). k.live) (spares.view.link l untouched);
        }) is

    got_here : (tale : Tale) (bytes : List ℕ) → IsEntering setup plan tale (entry.Got l bytes) l → Says tale
        → Says (told setup plan tale (entry.Got l bytes))
    got_here tale bytes entering is = by (is_to_server tale l) entering.behind where
      by : (b : Bool) → ((if b then server_says setup plan l bytes tale else record tale { clients = map (client_hears l bytes) tale.clients }).wires l).entered ≡ false
          → Says (if b then server_says setup plan l bytes tale else record tale { clients = map (client_hears l bytes) tale.clients })
      by true behind = reads tale bytes entering.before is behind
      by false behind = is

    got_says : (tale : Tale) (link : LinkId) (bytes : List ℕ) → IsSilent setup plan tale (entry.Got link bytes) l → Says tale
        → Says (told setup plan tale (entry.Got link bytes))
    got_says tale link bytes silent is = by (is_link_id l link) refl where
      by : (b : Bool) → is_link_id l link ≡ b → Says (told setup plan tale (entry.Got link bytes))
      by true here =
          let same : l ≡ link = link_of l link here in
          subst (λ (k : LinkId). Says (told setup plan tale (entry.Got k bytes))) same
          (got_here tale bytes (subst (λ (k : LinkId). IsEntering setup plan tale (entry.Got k bytes) l) (sym same) (silent here)) is)
      by false other = spared tale (entry.Got link bytes) other is

    told_says : (tale : Tale) (e : Entry) → IsSilent setup plan tale e l → Says tale → Says (told setup plan tale e)
    told_says tale (entry.Got link bytes) silent is = got_says tale link bytes silent is
    told_says tale (entry.Wrote link tag bytes) silent is = spared tale (entry.Wrote link tag bytes) silent is
    told_says tale (entry.Opened server address link) silent is = spared tale (entry.Opened server address link) silent is
    told_says tale (entry.Exec link) silent is = exec_says link tale is
    told_says tale (entry.Drop link) silent is = on_again tale (tell (Dropped link) tale) refl (again (there tale)) is
    told_says tale (entry.Ended link) silent is = losing_says link tale is
    told_says tale (entry.ReadFailed link) silent is = losing_says link tale is
    told_says tale (entry.WriteFailed link) silent is = losing_says link tale is
    told_says tale (entry.Closed link) silent is = losing_says link tale is
    told_says tale _ silent is = is

    abbrev StaysAs : Tale → Tale → Type 0
    StaysAs now t = (t.wires l ≡ now.wires l) × IsAgain (there now) (there t)

    -- where an entry is silent of a link, what was said there stays what there is to say
    pub says_still : (tale : Tale) (e : Entry) → IsSilent setup plan tale e l → Says tale → Says (tale_step setup plan tale e)
    says_still tale e silent is =
        let now : Tale = counted (told setup plan tale e) in
        let rest : StaysAs now (tale_step setup plan tale e) =
        rest_keeps setup plan (StaysAs now)
        (λ h t remaining was. (was.0, again_on (there now) (there t) (there (tell h t)) was.1 (tells_again h t remaining)))
        (λ client t was. was) tale e (refl, again (there now)) in
        on_again now (tale_step setup plan tale e) rest.0 rest.1 (told_says tale e silent is)
