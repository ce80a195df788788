-- Whether a link is to be given back is seen by its row and its client's desk.
use Rattle.std.specs.Prelude.{◌≡◌, ◌<◌, ℕ, Bool, true, false, not, ◌&&◌, ◌||◌, is_some, Option, Some, None}
use Rattle.std.specs.Option.{option_map_or}
use Rattle.std.proofs.Common.{refl, sym, ap, ◌∙◌, subst, arith, inl, inr}
use Rattle.std.proofs.lemmas.Bool.{false≢true}
use Rattle.std.proofs.lemmas.Option.{none-some}
use Rattle.client_session.specs.Setups.{Setup as Service}
use Rattle.session_state.specs.Pins.{is_pinned, needs_reset}
use Rattle.session_state.specs.declared.pin.Pin.{Pin}
use Rattle.server_rule.specs.Classes.{Reads}
use Rattle.server_side.specs.declared.stage.Stage as logins
use Rattle.private_model.proofs.Maps.{name_of, same_name}
use Rattle.private_model.specs.Names.{LinkId, SessionName}
use Rattle.private_model.specs.Story.{is_name}
use Rattle.private_model.specs.View as view
use Rattle.private_model.specs.View.{Held, Link, View, present, session_in}
use Rattle.log_story.specs.Plan as plan
use Rattle.log_story.specs.Plan.{StepText}
use Rattle.log_story.specs.Servers as servers
use Rattle.log_story.specs.Servers.{is_done, is_given_up as is_given_up_by, is_left}
use Rattle.log_story.specs.Tale.{Wire, is_reset_step, is_to_server, link_in}
use Rattle.lent_link.specs.Links.{is_in}
use Rattle.lent_link.specs.Rests as rests
use Rattle.lent_link.specs.declared.link.Step.{Step}
use Rattle.lent_link.specs.declared.link.Step.TheVariants.{Closes, Other, Resets}
use Rattle.link_laws.specs.Stands.{Codes, IsStage, carried_of}
use Rattle.link_state.specs.Asks.{joined_for}
use Rattle.link_state.specs.Dones.{is_quiet}
use Rattle.link_state.specs.Dones as dones
use Rattle.link_state.specs.States.{ran_in}
use Rattle.link_state.specs.declared.asking.Purpose.{Purpose}
use Rattle.link_state.specs.declared.asking.Purpose.TheVariants as purposes
use Rattle.link_state.specs.declared.state.Carried.{Carried}
use Rattle.link_state.specs.declared.state.Carried.TheVariants.{Nobody, Lent, Joined}
use Rattle.link_state.specs.declared.state.LinkState.{LinkState}
use Rattle.link_state.specs.declared.state.Stage.{Stage}
use Rattle.link_state.specs.declared.state.Stage.TheVariants.{Quiet, Asked, Answered}
use Rattle.link_state.specs.declared.wish.Session as links
use Rattle.served_link.specs.Rests as row_rests
use Rattle.served_link.specs.Wants.{session_in as desk_or_left, session_of}
use Rattle.served_link.specs.declared.row.LeftSession.{LeftSession}
use Rattle.served_link.specs.declared.row.Row.{Row}
use Rattle.row_laws.specs.Rows.{IsRowBy, IsSeen, Serves}
use Rattle.row_laws.specs.Whose.{IsFor, IsHolder, IsOwn, IsWhose, name_in}
use Rattle.row_laws.specs.Written.{IsStepOf}
use Rattle.client_desk.specs.Desks as desks
use Rattle.client_desk.specs.declared.session.Session.{Session}
use Rattle.desk_laws.specs.Stands.{held_of, name_at}
use Rattle.core_tables.specs.Parting.{at_desk, is_done_for, is_done_in, is_given_up}
use Rattle.core_tables.specs.Tables.{Tabled}
use Rattle.core_tables.specs.declared.client.Client.{Client}
use Rattle.core_tables.specs.declared.server.Server.{Server}
use Rattle.core_stands.specs.Grounds.{Ground, view_on}
use Rattle.core_stands.specs.Servers.{IsAhead, IsServerBy, OfLent, is_stating}
use Rattle.core_stands.specs.Stands.{Stands}
use Rattle.core_laws.proofs.OfParting.Awaiting.{given_up_so}
use Rattle.core_laws.proofs.OfParting.Named.{row_carries}
use Rattle.core_laws.proofs.OfParting.Forgetting.{server_there}
use Rattle.core_laws.proofs.OfParting.Reading.{some_is}
use Rattle.core_laws.proofs.OfParting.Redesking.{name_path}
use Rattle.core_laws.proofs.OfParting.Same.{known_so}

-- The stage, the step and whom the link carries, as the law has them.

stage_quiet : (reads : Reads) (codes : Codes) (a : Stage) (b : view.Stage) → IsStage reads codes a b → servers.is_quiet b ≡ is_quiet a
stage_quiet reads codes Quiet view.Quiet is = refl
stage_quiet reads codes (Asked asking) (view.Asked question) is = refl
stage_quiet reads codes (Answered asking) (view.Answered question) is = refl
stage_quiet reads codes _ _ is = absurd is

ran_quiet : (stage : Stage) (state : LinkState) → state.stage ≡ stage → is_quiet (ran_in stage state).stage ≡ is_quiet stage
ran_quiet Quiet state at = ap is_quiet at
ran_quiet (Asked asking) state at = refl
ran_quiet (Answered asking) state at = ap is_quiet at

pub seen_quiet : (reads : Reads) (codes : Codes) (state : LinkState) (link : Link) → IsSeen reads codes state link → servers.is_quiet link.stage ≡ is_quiet state.stage
seen_quiet reads codes state link (inl is) = stage_quiet reads codes state.stage link.stage is.stage
seen_quiet reads codes state link (inr is) = stage_quiet reads codes (ran_in state.stage state).stage link.stage is.stage ∙ ran_quiet state.stage state refl

step_reset : (step : Step) (text : Option StepText) → IsStepOf step text → is_reset_step text ≡ rests.is_resetting step
step_reset (Closes number) (Some (plan.Closes n)) is = refl
step_reset (Resets number) (Some (plan.Resets n)) is = refl
step_reset Other None is = refl
step_reset Other (Some (plan.Asks command)) is = refl
step_reset _ _ is = absurd is

joined_carried : (carries : Carried) (purpose : Purpose) (n : SessionName) → carries ≡ Joined n → IsFor purpose carries → joined_for purpose carries ≡ Joined n
joined_carried carries (purposes.Statement m ordinal key) n at for = ap Joined (some_is m n (sym (for m refl) ∙ ap name_in at))
joined_carried carries (purposes.Prep m ordinal key) n at for = at
joined_carried carries (purposes.Sync m) n at for = at
joined_carried carries purposes.Own n at for = at
joined_carried carries (purposes.End m) n at for = at
joined_carried carries (purposes.Capture m) n at for = at

ran_carried : (stage : Stage) (state : LinkState) (n : SessionName) → state.carries ≡ Joined n → IsOwn stage state.carries → (ran_in stage state).carries ≡ Joined n
ran_carried Quiet state n at own = at
ran_carried (Asked asking) state n at own = joined_carried state.carries asking.purpose n at own
ran_carried (Answered asking) state n at own = at

seen_joined : (reads : Reads) (codes : Codes) (state : LinkState) (link : Link) (n : SessionName) → state.carries ≡ Joined n → IsOwn state.stage state.carries
    → IsSeen reads codes state link → link.carries ≡ view.Joined n
seen_joined reads codes state link n at own (inl is) = is.carries ∙ ap carried_of at
seen_joined reads codes state link n at own (inr is) = is.carries ∙ ap carried_of (ran_carried state.stage state n at own)

-- a quiet link carries whom its row says, as the law has it
seen_quietly : (reads : Reads) (codes : Codes) (state : LinkState) (link : Link) → is_quiet state.stage ≡ true → IsSeen reads codes state link
    → link.carries ≡ carried_of state.carries
seen_quietly reads codes state link quiet (inl is) = is.carries
seen_quietly reads codes state link quiet (inr is) = is.carries ∙ ap carried_of (by state.stage refl quiet) where
  by : (stage : Stage) → state.stage ≡ stage → is_quiet stage ≡ true → (ran_in stage state).carries ≡ state.carries
  by Quiet at quiet = refl
  by (Asked asking) at quiet = absurd (false≢true quiet)
  by (Answered asking) at quiet = refl

-- The session.

abbrev inner : Pin → Option ℕ → (left : Bool) → Bool
inner pin id left = not (needs_reset pin) && ((not (is_pinned pin) && is_some id) || left)

abbrev inner_lent : Pin → Option ℕ → (given left : Bool) → Bool
inner_lent pin id given left = not (needs_reset pin) && (((not (is_pinned pin) && is_some id) && given) || left)

-- of a session that was left it doesn't matter what is given up
lent_gone : (pin : Pin) (id : Option ℕ) (one other : Bool) → inner_lent pin id one true ≡ inner_lent pin id other true
lent_gone pin id one other =
    ap (λ (b : Bool). not (needs_reset pin) && b) (ends_true ((not (is_pinned pin) && is_some id) && one)
    ∙ sym (ends_true ((not (is_pinned pin) && is_some id) && other))) where
      ends_true : (a : Bool) → (a || true) ≡ true
      ends_true true = refl
      ends_true false = refl

record Facts (seen : View) (n : SessionName) (s : links.Session) : Type 0 where
  pin : (seen.held n).pin ≡ s.pin
  id : (seen.held n).id ≡ s.id
  left : is_left seen n ≡ not s.present

left_not : (seen : View) (n : SessionName) → n.life ≡ seen.lives n.client n.hostgroup → is_left seen n ≡ false
left_not seen n lives =
    ap not (ap (λ (life : ℕ). is_name n (name_at n.client n.hostgroup life)) (sym lives) ∙ same_name n)

left_so : (seen : View) (n : SessionName) → n.life < seen.lives n.client n.hostgroup → is_left seen n ≡ true
left_so seen n below = by (is_name n (present seen n.client n.hostgroup)) refl where
  by : (b : Bool) → is_name n (present seen n.client n.hostgroup) ≡ b → not (is_name n (present seen n.client n.hostgroup)) ≡ true
  by false apart = ap not apart
  by true same =
      let one : n.life ≡ seen.lives n.client n.hostgroup = ap (λ (m : SessionName). m.life) (name_of n (present seen n.client n.hostgroup) same) in
      absurd (omega (arith, one, below))

module _ (service : Service) (g : Ground) (t : Tabled) (l : LinkId) (is : Stands service g t) (server : Server) (there : t.links l ≡ Some server) where
  abbrev link : Link
  link = link_in g.setup g.tale l

  abbrev wire : Wire
  wire = g.tale.wires l

  abbrev row : Row
  row = server.row

  facts_by : (n : SessionName) → row.lost ≡ false → name_in row.link.state.carries ≡ Some n → (left : Option LeftSession) → row.left ≡ left → IsHolder (view_on g) n left
      → Facts (view_on g) n (session_of row (at_desk n (t.clients n.client)))
  facts_by n kept carries None mine holds =
      let home = is.homes.home l server n there carries mine kept in
      let known = known_so service g t n.client home.0 is home.1 in
      let s : Session = desks.session_of home.0.desk n.hostgroup in
      let name : n ≡ name_at known.0.number n.hostgroup s.life = name_path n known.0.number s.life known.1.number home.3 in
      let held : (view_on g).held n ≡ held_of s = ap (view_on g).held name ∙ (known.2.desk.sessions.each n.hostgroup).held in
      let at : session_of row (at_desk n (t.clients n.client)) ≡ desks.carried_of home.0.desk n.hostgroup =
      ap (λ (x : Option LeftSession). desk_or_left x (at_desk n (t.clients n.client))) mine
      ∙ ap (λ (x : Option Client). at_desk n x) home.1 in
      record {
        pin = ap (λ (h : Held). h.pin) held ∙ ap (λ (x : links.Session). x.pin) (sym at);
        id = ap (λ (h : Held). h.id) held ∙ ap (λ (x : links.Session). x.id) (sym at);
        left = left_not (view_on g) n holds ∙ ap (λ (x : links.Session). not x.present) (sym at);
      }
  facts_by n kept carries (Some left) mine holds =
      let at : session_of row (at_desk n (t.clients n.client)) ≡ record { present = false; pin = left.pin; id = left.id; lasting = left.lasting } =
      ap (λ (x : Option LeftSession). desk_or_left x (at_desk n (t.clients n.client))) mine in
      record {
        pin = holds.pin ∙ ap (λ (x : links.Session). x.pin) (sym at);
        id = holds.id ∙ ap (λ (x : links.Session). x.id) (sym at);
        left = left_so (view_on g) n holds.earlier ∙ ap (λ (x : links.Session). not x.present) (sym at);
      }

  -- a link that isn't quiet, or carries nobody
  abbrev test : Bool
  test = is_done g.plan g.tale.moment (view_on g) wire link

  none_done : (c : view.Carried) → session_in c ≡ None → servers.is_done_by g.plan g.tale.moment (view_on g) c ≡ false
  none_done view.Nobody none = refl
  none_done (view.Lent n) none = absurd (none-some n (sym none))
  none_done (view.Joined n) none = absurd (none-some n (sym none))

  ends_false : (a b c : Bool) → a && (b && (c && false)) ≡ false
  ends_false false b c = refl
  ends_false true false c = refl
  ends_false true true false = refl
  ends_false true true true = refl

  never : (a b c : Bool) → b ≡ false → a && (b && c) ≡ false
  never false b c off = refl
  never true b c off = ap (λ (x : Bool). x && c) off

  -- a quiet link has no statement there
  quiet_stateless : (stage : Stage) → is_quiet stage ≡ true → is_stating stage ≡ false
  quiet_stateless Quiet quiet = refl
  quiet_stateless (Asked asking) quiet = absurd (false≢true quiet)
  quiet_stateless (Answered asking) quiet = refl

  open_so : (serves : Serves g.setup.reads g.codes (g.plan.logins l) (view_on g) row wire link) (n : SessionName) → row.link.state.carries ≡ Joined n → (lost : Bool) → row.lost ≡ lost
      → test ≡ row_rests.is_done row (at_desk n (t.clients n.client)) false
  open_so serves n at true lost =
      ap (λ (u : Bool). u && (servers.is_quiet link.stage && (not (is_reset_step wire.step) && servers.is_done_by g.plan g.tale.moment (view_on g) link.carries)))
      (serves.usable ∙ ap not lost)
      ∙ sym (ap (λ (x : Bool). not x && rests.is_done row.link (session_of row (at_desk n (t.clients n.client))) false) lost)
  open_so serves n at false lost =
      let whose : IsWhose (view_on g) (Joined n) row.left = subst (λ (c : Carried). IsWhose (view_on g) c row.left) at (serves.whose lost) in
      let facts = facts_by n lost (ap name_in at) row.left refl whose in
      let s : links.Session = session_of row (at_desk n (t.clients n.client)) in
      let quiet = seen_quiet g.setup.reads g.codes row.link.state link serves.state in
      let joined = seen_joined g.setup.reads g.codes row.link.state link n at serves.own serves.state in
      let reset = step_reset row.link.step wire.step serves.step in
      ap (λ (c : view.Carried). link.usable && (servers.is_quiet link.stage && (not (is_reset_step wire.step) && servers.is_done_by g.plan g.tale.moment (view_on g) c))) joined
      ∙ (λ i. serves.usable i && (quiet i && (not (reset i) && inner (facts.pin i) (facts.id i) (facts.left i))))
      ∙ sym (ap (λ (c : Carried). not row.lost && (is_quiet row.link.state.stage && (not (rests.is_resetting row.link.step) && dones.is_done_by c s false))) at)
      ∙ sym (ap (λ (x : logins.Stage). not row.lost && (is_in x && (is_quiet row.link.state.stage && (not (rests.is_resetting row.link.step) && dones.is_done_by row.link.state.carries s false)))) serves.inside)

  -- where a link is joined, what is given up is of no matter
  joined_given : (n : SessionName) → row.link.state.carries ≡ Joined n → (given : Bool)
      → row_rests.is_done row (at_desk n (t.clients n.client)) false ≡ row_rests.is_done row (at_desk n (t.clients n.client)) given
  joined_given n at given =
      ap (λ (c : Carried). not row.lost && (is_in row.link.login.stage && (is_quiet row.link.state.stage
      && (not (rests.is_resetting row.link.step) && dones.is_done_by c (session_of row (at_desk n (t.clients n.client))) false)))) at
      ∙ sym (ap (λ (c : Carried). not row.lost && (is_in row.link.login.stage && (is_quiet row.link.state.stage
      && (not (rests.is_resetting row.link.step) && dones.is_done_by c (session_of row (at_desk n (t.clients n.client))) given)))) at)

  abbrev IsLent : Type 0
  IsLent = row.lost ≡ false → row.left ≡ None → is_stating row.link.state.stage ≡ false → OfLent row.link.state.carries (IsAhead (view_on g))

  -- a link that is lent, and on which no statement stands

  module _ (serves : Serves g.setup.reads g.codes (g.plan.logins l) (view_on g) row wire link) (lent : IsLent) (n : SessionName)
      (at : row.link.state.carries ≡ Lent n) where
    abbrev desk : links.Session
    desk = at_desk n (t.clients n.client)

    abbrev law_given : Bool
    law_given = is_given_up_by g.plan g.tale.moment n ((view_on g).dues n)

    abbrev given : Bool
    given = is_given_up n (t.clients n.client)

    given_same : (left : Option LeftSession) → row.left ≡ left → row.lost ≡ false → is_quiet row.link.state.stage ≡ true
        → inner_lent (session_of row desk).pin (session_of row desk).id law_given (not (session_of row desk).present)
        ≡ inner_lent (session_of row desk).pin (session_of row desk).id given (not (session_of row desk).present)
    given_same None mine here quiet =
        ap (λ (b : Bool). inner_lent (session_of row desk).pin (session_of row desk).id b (not (session_of row desk).present))
        (given_up_so service g t l is server there n (ap name_in at) here mine
        (subst (λ (c : Carried). OfLent c (IsAhead (view_on g))) at (lent here mine (quiet_stateless row.link.state.stage quiet))))
    given_same (Some left) mine here quiet =
        let gone : not (session_of row desk).present ≡ true = ap (λ (x : Option LeftSession). not (desk_or_left x desk).present) mine in
        ap (λ (b : Bool). inner_lent (session_of row desk).pin (session_of row desk).id law_given b) gone
        ∙ lent_gone (session_of row desk).pin (session_of row desk).id law_given given
        ∙ sym (ap (λ (b : Bool). inner_lent (session_of row desk).pin (session_of row desk).id given b) gone)

    lent_open : (lost : Bool) → row.lost ≡ lost → is_quiet row.link.state.stage ≡ true → test ≡ row_rests.is_done row desk given
    lent_open true lost quiet =
        ap (λ (u : Bool). u && (servers.is_quiet link.stage && (not (is_reset_step wire.step) && servers.is_done_by g.plan g.tale.moment (view_on g) link.carries)))
        (serves.usable ∙ ap not lost)
        ∙ sym (ap (λ (x : Bool). not x && rests.is_done row.link (session_of row desk) given) lost)
    lent_open false lost quiet =
        let whose : IsWhose (view_on g) (Lent n) row.left = subst (λ (c : Carried). IsWhose (view_on g) c row.left) at (serves.whose lost) in
        let facts = facts_by n lost (ap name_in at) row.left refl whose in
        let s : links.Session = session_of row desk in
        let quiet_same = seen_quiet g.setup.reads g.codes row.link.state link serves.state in
        let carries : link.carries ≡ view.Lent n = seen_quietly g.setup.reads g.codes row.link.state link quiet serves.state ∙ ap carried_of at in
        let reset = step_reset row.link.step wire.step serves.step in
        ap (λ (c : view.Carried). link.usable && (servers.is_quiet link.stage && (not (is_reset_step wire.step) && servers.is_done_by g.plan g.tale.moment (view_on g) c))) carries
        ∙ (λ i. serves.usable i && (quiet_same i && (not (reset i) && inner_lent (facts.pin i) (facts.id i) law_given (facts.left i))))
        ∙ ap (λ (b : Bool). not row.lost && (is_quiet row.link.state.stage && (not (rests.is_resetting row.link.step) && b))) (given_same row.left refl lost quiet)
        ∙ sym (ap (λ (c : Carried). not row.lost && (is_quiet row.link.state.stage && (not (rests.is_resetting row.link.step) && dones.is_done_by c s given))) at)
        ∙ sym (ap (λ (x : logins.Stage). not row.lost && (is_in x && (is_quiet row.link.state.stage && (not (rests.is_resetting row.link.step) && dones.is_done_by row.link.state.carries s given)))) serves.inside)

    lent_test : (quiet : Bool) → is_quiet row.link.state.stage ≡ quiet → test ≡ row_rests.is_done row desk given
    lent_test true quiet = lent_open row.lost refl quiet
    lent_test false quiet =
        never link.usable (servers.is_quiet link.stage) (not (is_reset_step wire.step) && servers.is_done_by g.plan g.tale.moment (view_on g) link.carries)
        (seen_quiet g.setup.reads g.codes row.link.state link serves.state ∙ quiet)
        ∙ sym (ap (λ (b : Bool). not row.lost && b) (never (is_in row.link.login.stage) (is_quiet row.link.state.stage)
        (not (rests.is_resetting row.link.step) && dones.is_done_by row.link.state.carries (session_of row desk) given) quiet)
        ∙ and_false (not row.lost)) where
          and_false : (a : Bool) → a && false ≡ false
          and_false true = refl
          and_false false = refl

  serve_test : (serves : Serves g.setup.reads g.codes (g.plan.logins l) (view_on g) row wire link) → IsLent
      → (carries : Carried) → row.link.state.carries ≡ carries → session_in link.carries ≡ name_in carries → test ≡ is_done_for t server (name_in carries)
  serve_test serves lent Nobody at name =
      ap (λ (b : Bool). link.usable && (servers.is_quiet link.stage && (not (is_reset_step wire.step) && b))) (none_done link.carries name)
      ∙ ends_false link.usable (servers.is_quiet link.stage) (not (is_reset_step wire.step))
  serve_test serves lent (Lent n) at name = lent_test serves lent n at (is_quiet row.link.state.stage) refl
  serve_test serves lent (Joined n) at name =
      open_so serves n at row.lost refl ∙ joined_given n at (is_given_up n (t.clients n.client))

  row_test : (b : Bool) → IsRowBy b g.setup.reads g.codes (g.plan.logins l) (view_on g) row wire link
      → IsLent → session_in link.carries ≡ name_in row.link.state.carries
      → test ≡ is_done_for t server (name_in row.link.state.carries)
  row_test true serves lent name = serve_test serves lent row.link.state.carries refl name
  row_test false enters lent name =
      ap (λ (x : Link). is_done g.plan g.tale.moment (view_on g) wire x) enters.unborn
      ∙ sym (ap (λ (s : LinkState). is_done_for t server (name_in s.carries)) enters.state)

  pub server_test : test ≡ is_done_for t server (name_in row.link.state.carries)
  server_test =
      let stands = server_there service g t l server is there in
      row_test wire.entered stands.row.is stands.lent (row_carries g.setup g.codes g.plan g.tale l row stands.row)

pub test_so : (service : Service) (g : Ground) (t : Tabled) (l : LinkId) → Stands service g t → is_to_server g.tale l ≡ true
    → is_done g.plan g.tale.moment (view_on g) (g.tale.wires l) (link_in g.setup g.tale l) ≡ is_done_in l t
test_so service g t l is to = by (t.links l) refl where
  by : (found : Option Server) → t.links l ≡ found → is_done g.plan g.tale.moment (view_on g) (g.tale.wires l) (link_in g.setup g.tale l)
      ≡ option_map_or (λ (server : Server). is_done_for t server (name_in server.row.link.state.carries)) found false
  by None at =
      let unusable : (link_in g.setup g.tale l).usable ≡ false =
      subst (λ (b : Bool). IsServerBy b g t l None) to (subst (λ (x : Option Server). IsServerBy (is_to_server g.tale l) g t l x) at (is.servers l)) in
      ap (λ (u : Bool). u && (servers.is_quiet (link_in g.setup g.tale l).stage && (not (is_reset_step (g.tale.wires l).step)
      && servers.is_done_by g.plan g.tale.moment (view_on g) (link_in g.setup g.tale l).carries))) unusable
  by (Some server) at = server_test service g t l is server at
