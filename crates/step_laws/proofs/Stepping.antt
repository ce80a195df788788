-- An entry, by the links and clients that it concerns.
use Rattle.std.specs.Prelude.{◌≡◌, ℕ, Bool, true, false, not, ◌||◌, All, filter, List, [], ◌∷◌}
use Rattle.std.proofs.Common.{refl, sym, ap, ◌∙◌, subst, inl, inr}
use Rattle.std.proofs.lemmas.Bool.{and_left, cases_Bool, or_parts}
use Rattle.std.proofs.lemmas.List.Elements.{All-cons, All-head, All-nil, All-tail, filter_passes}
use Rattle.mx_wire.specs.declared.entry.Entry.{Entry}
use Rattle.private_model.proofs.Maps.{client_of, same_number}
use Rattle.private_model.specs.Names.{ClientNo, LinkId, SessionName}
use Rattle.private_model.specs.Story.{Left, is_client, is_name}
use Rattle.private_model.specs.View.{Link, Setup, View}
use Rattle.log_story.specs.Clients.{clients_are_ended, clients_go_on}
use Rattle.log_story.specs.Plan.{Plan}
use Rattle.log_story.specs.Servers.{links_are_freed}
use Rattle.log_story.specs.Tale.{Client, Tale, Wire, is_to_server, tell, view_of}
use Rattle.log_story.specs.Telling.{tale_step}
use Rattle.step_laws.specs.Freed.{AreAll, NoneDone, NoneDoneBut, freed_in}
use Rattle.step_laws.specs.Like.{IsLike}
use Rattle.step_laws.specs.Seats.{clients_of, is_its, numbers}
use Rattle.step_laws.specs.Spared.{SparesIn, is_newest, may_be_freed, touched_session}
use Rattle.step_laws.specs.Steps.{Concerned, IsOfNone, IsOfOne, carries_either, carries_parting, concerned, ended_now, ended_then, ends_now, freed_first, freed_told, its_end, leave, step_by, told_then}
use Rattle.step_laws.specs.Taken.{ArePassedBut, AreSingle, SparesOthers, gone_on}
use Rattle.step_laws.proofs.Giving.{among, isnt, kept_in, none_in, none_left}
use Rattle.step_laws.proofs.Leaving.{ended_leave}
use Rattle.step_laws.proofs.Likewise.{like_all_freed, like_ended, like_go_on, like_on, like_same}
use Rattle.step_laws.proofs.Ordering.{named_like}
use Rattle.step_laws.proofs.Sparing.{done_as_before, more_spared, spares_along, spares_told, stays_spared, tell_spares}
use Rattle.step_laws.proofs.Taking.{all_among, all_spare, none_of, single_none}
use Rattle.step_laws.proofs.Telling.{told_rests}

module _ (setup : Setup) where
  -- What messages that are taken up leave of links and of other clients' sessions.

  abbrev none : LinkId → Bool
  none l = false

  abbrev of_clients : (ClientNo → Bool) → SessionName → Bool
  of_clients whose n = whose n.client

  pub others_spare : (whose : ClientNo → Bool) (old new : Tale) → SparesOthers setup whose old new → SparesIn setup none (of_clients whose) old new
  others_spare whose old new spares = record {
    moment = spares.moment;
    wire = λ l untouched. ap (λ (w : LinkId → Wire). w l) spares.wires;
    view = record {
      link = λ l untouched. ap (λ (ls : LinkId → Link). ls l) spares.links;
      pin = λ n other. λ i. (spares.held i n).pin;
      id = λ n other. λ i. (spares.held i n).id;
      due = λ n other. spares.due n other;
      left = λ n other. ap (λ life. not (is_name n (record { client = n.client; hostgroup = n.hostgroup; life = life }))) (spares.life n.client n.hostgroup other);
    };
  }

  -- Who leaves leaves the sessions of others.

  not_ended : (ends : ClientNo → Bool) (c : ClientNo) (n : SessionName) → ends c ≡ true → ends n.client ≡ false → is_client n.client c ≡ false
  not_ended ends c n is other = elim (cases_Bool (is_client n.client c)) [
    | inl same ↦ isnt (sym other ∙ ap ends (client_of n.client c same) ∙ is)
    | inr different ↦ different
  ]

  one_leaves : (ends : ClientNo → Bool) (c : ClientNo) (tale : Tale) → ends c ≡ true → SparesIn setup none (of_clients ends) tale (tell (Left c) tale)
  one_leaves ends c tale is =
      more_spared setup none none (touched_session (view_of setup tale) (Left c)) (of_clients ends) tale (tell (Left c) tale) (λ l untouched. refl)
      (λ n other. and_left (is_client n.client c) (is_newest (view_of setup tale) n) (not_ended ends c n is other)) (tell_spares setup (Left c) tale)

  pub leaving_spares : (ends : ClientNo → Bool) (cs : List ClientNo) (tale : Tale) → All (λ (c : ClientNo). ends c ≡ true) cs
      → SparesIn setup none (of_clients ends) tale (leave cs tale)
  leaving_spares ends [] tale are = spares_told setup none (of_clients ends) tale tale refl refl refl
  leaving_spares ends (c ∷ cs) tale are =
      spares_along setup none (of_clients ends) tale (tell (Left c) tale) (leave (c ∷ cs) tale)
      (one_leaves ends c tale (All-head (λ (x : ClientNo). ends x ≡ true) c cs are))
      (leaving_spares ends cs (tell (Left c) tale) (All-tail (λ (x : ClientNo). ends x ≡ true) c cs are))

  leave_links : (cs : List ClientNo) (tale : Tale) → (leave cs tale).links ≡ tale.links
  leave_links [] tale = refl
  leave_links (c ∷ cs) tale = leave_links cs (tell (Left c) tale)

  leave_moment : (cs : List ClientNo) (tale : Tale) → (leave cs tale).moment ≡ tale.moment
  leave_moment [] tale = refl
  leave_moment (c ∷ cs) tale = leave_moment cs (tell (Left c) tale)

  module _ (plan : Plan) (view : View) (e : Entry) (called ends : ClientNo → Bool) (single : AreSingle plan called) where
    abbrev either : ClientNo → Bool
    either c = called c || ends c

    -- clients go on, and some are ended
    pub parting_spares : (xs : List Client) (cs : List ClientNo) (tale : Tale) → All (λ (x : Client). called x.number ≡ true) xs
        → All (λ (c : ClientNo). ends c ≡ true) cs → SparesIn setup none (of_clients either) tale (leave cs (gone_on setup plan view e xs tale))
    parting_spares xs cs tale all leaves =
        let gone = gone_on setup plan view e xs tale in
        spares_along setup none (of_clients either) tale gone (leave cs gone)
        (more_spared setup none none (of_clients called) (of_clients either) tale gone (λ l untouched. refl)
        (λ n other. (or_parts (called n.client) (ends n.client) other).0)
        (others_spare called tale gone (all_spare setup called plan single view e xs tale all)))
        (more_spared setup none none (of_clients ends) (of_clients either) gone (leave cs gone) (λ l untouched. refl)
        (λ n other. (or_parts (called n.client) (ends n.client) other).1)
        (leaving_spares ends cs gone leaves))

    gone_spare : (xs : List Client) (tale : Tale) → All (λ (x : Client). called x.number ≡ true) xs → SparesOthers setup called tale (gone_on setup plan view e xs tale)
    gone_spare xs tale all = all_spare setup called plan single view e xs tale all

    pub parting_links : (xs : List Client) (cs : List ClientNo) (tale : Tale) → All (λ (x : Client). called x.number ≡ true) xs
        → (leave cs (gone_on setup plan view e xs tale)).links ≡ tale.links
    parting_links xs cs tale all = leave_links cs (gone_on setup plan view e xs tale) ∙ (gone_spare xs tale all).to_servers

    pub parting_rests : (xs : List Client) (cs : List ClientNo) (tale : Tale) → All (λ (x : Client). called x.number ≡ true) xs
        → All (λ (c : ClientNo). ends c ≡ true) cs → NoneDone setup plan tale
        → NoneDoneBut setup plan (carries_either setup called ends tale) (leave cs (gone_on setup plan view e xs tale))
    parting_rests xs cs tale all leaves rest l there other =
        let last = leave cs (gone_on setup plan view e xs tale) in
        done_as_before setup plan tale last l
        (stays_spared setup plan tale last none (of_clients either) (parting_spares xs cs tale all leaves) l refl other)
        ∙ rest l (sym (ap (λ links. is_to_server (record tale { links = links }) l) (parting_links xs cs tale all)) ∙ there)

  -- By name, as each part is what it is by name.

  module _ (plan : Plan) (tale : Tale) (e : Entry) (by : Concerned) (called : ClientNo → Bool) where
    abbrev now : Tale
    now = told_then setup plan tale e

    abbrev freed : Tale
    freed = freed_first setup plan by tale e

    abbrev gone : Tale
    gone = gone_on setup plan (view_of setup tale) e by.called freed

    abbrev last : Tale
    last = ended_then setup plan by tale e

    freed_clients : freed.clients ≡ now.clients
    freed_clients = kept_in setup plan (λ (t : Tale). t.clients) (λ story t. refl) by.first now

    freed_moment : freed.moment ≡ now.moment
    freed_moment = kept_in setup plan (λ (t : Tale). t.moment) (λ story t. refl) by.first now

    module _ (single : AreSingle plan called) (passes : ArePassedBut setup plan (view_of setup tale) e called freed) (calls : clients_of called now ≡ by.called)
        (ends : ended_now plan now ≡ by.ended) where
      all_called : All (λ (x : Client). called x.number ≡ true) by.called
      all_called = subst (All (λ (x : Client). called x.number ≡ true)) calls (filter_passes (λ (x : Client). called x.number) now.clients)

      goes : clients_go_on setup plan (view_of setup tale) e freed ≡ gone
      goes = all_among setup plan (view_of setup tale) e called single freed passes
          ∙ ap (λ cs. gone_on setup plan (view_of setup tale) e cs freed)
          (ap (λ cs. filter (λ (x : Client). called x.number) cs) freed_clients ∙ calls)

      spared : SparesOthers setup called freed gone
      spared = all_spare setup called plan single (view_of setup tale) e by.called freed all_called

      leaves : clients_are_ended plan gone ≡ last
      leaves = ended_leave plan gone
          ∙ ap (λ cs. leave cs gone)
          ((λ i. filter (ends_now plan ((spared.moment ∙ freed_moment) i)) ((spared.numbered ∙ ap numbers_in freed_clients) i)) ∙ ends)
        where
          numbers_in : List Client → List ClientNo
          numbers_in cs = numbers (record tale { clients = cs })

      pub exactly : links_are_freed setup plan now ≡ freed → links_are_freed setup plan last ≡ freed_in setup plan by.last last
          → tale_step setup plan tale e ≡ step_by setup plan by tale e
      exactly first behind =
          ap (λ t. links_are_freed setup plan (clients_are_ended plan (clients_go_on setup plan (view_of setup tale) e t))) first
          ∙ ap (λ t. links_are_freed setup plan (clients_are_ended plan t)) goes
          ∙ ap (links_are_freed setup plan) leaves
          ∙ behind

      pub likewise : AreAll setup plan by.first now → AreAll setup plan by.last last → IsLike setup (tale_step setup plan tale e) (step_by setup plan by tale e)
      likewise first behind =
          let one = links_are_freed setup plan now in
          let view = view_of setup tale in
          let went = clients_go_on setup plan view e one in
          let were = clients_go_on setup plan view e freed in
          let like : IsLike setup one freed = named_like setup plan by.first now first in
          let go : IsLike setup went gone = like_on setup went were gone (like_go_on setup plan view e one freed like) (like_same setup were gone (sym goes)) in
          let end : IsLike setup (clients_are_ended plan went) last =
          like_on setup (clients_are_ended plan went) (clients_are_ended plan gone) last (like_ended setup plan went gone go)
          (like_same setup (clients_are_ended plan gone) last (sym leaves)) in
          like_on setup (tale_step setup plan tale e) (links_are_freed setup plan last) (step_by setup plan by tale e)
          (like_all_freed setup plan (clients_are_ended plan went) last end)
          (named_like setup plan by.last last behind)

      -- behind that only links may be given back that carry sessions of those
      pub behind_rests : NoneDone setup plan freed → NoneDoneBut setup plan (carries_parting setup plan called freed) last
      behind_rests rest =
          parting_rests plan (view_of setup tale) e called (ends_now plan freed.moment) single by.called by.ended freed all_called
          (subst (All (λ (c : ClientNo). ends_now plan freed.moment c ≡ true)) ends
          (subst (λ (m : ℕ). All (λ (c : ClientNo). ends_now plan m c ≡ true) (ended_now plan now)) (sym freed_moment)
          (filter_passes (ends_now plan now.moment) (numbers now)))) rest

      pub last_links : last.links ≡ now.links
      last_links =
          parting_links plan (view_of setup tale) e called called single by.called by.ended freed all_called
          ∙ kept_in setup plan (λ (t : Tale). t.links) (λ story t. refl) by.first now

-- Whatever the entry, where no link is to be given back before.
pub step_concerned : (setup : Setup) (plan : Plan) (tale : Tale) (e : Entry) (called : ClientNo → Bool) → NoneDone setup plan tale → AreSingle plan called
    → ArePassedBut setup plan (view_of setup tale) e called (freed_told setup plan tale e)
    → tale_step setup plan tale e ≡ step_by setup plan (concerned setup plan called tale e) tale e
step_concerned setup plan tale e called rest single passes =
    let by = concerned setup plan called tale e in
    let now = told_then setup plan tale e in
    let freed = freed_told setup plan tale e in
    let last = ended_then setup plan by tale e in
    let first : links_are_freed setup plan now ≡ freed =
    among setup plan (may_be_freed setup plan tale e) now.links now (told_rests setup plan tale e rest) in
    let resting : NoneDone setup plan freed = subst (NoneDone setup plan) first (none_left setup plan now) in
    let behind : links_are_freed setup plan last ≡ freed_in setup plan by.last last =
    among setup plan (carries_parting setup plan called freed) last.links last (behind_rests setup plan tale e by called single passes refl refl resting)
    ∙ ap (λ links. freed_in setup plan (filter (carries_parting setup plan called freed) links) last)
    (last_links setup plan tale e by called single passes refl refl) in
    exactly setup plan tale e by called single passes refl refl first behind

-- Of one client, or of none: by what the links that are given back first, and last, make.

module _ (setup : Setup) (plan : Plan) (tale : Tale) (e : Entry) where
  abbrev heard : Tale
  heard = told_then setup plan tale e

  pub step_one : (client : Client) (ended : List ClientNo) (given made : Tale) → IsOfOne setup plan tale e client ended given
      → links_are_freed setup plan (its_end setup plan tale e client ended given) ≡ made → tale_step setup plan tale e ≡ made
  step_one client ended given made is behind =
      let one = links_are_freed setup plan heard in
      let by : Concerned = record {
        first = heard.links;
        called = client ∷ [];
        ended = ended;
        last = (its_end setup plan tale e client ended one).links;
      } in
      exactly setup plan tale e by (is_its client) is.single
      (subst (ArePassedBut setup plan (view_of setup tale) e (is_its client)) (sym is.first) is.passes) is.seated is.ends refl refl
      ∙ ap (λ t. links_are_freed setup plan (its_end setup plan tale e client ended t)) is.first
      ∙ behind

  pub step_none : (ended : List ClientNo) (given made : Tale) → IsOfNone setup plan tale e ended given
      → links_are_freed setup plan (leave ended given) ≡ made → tale_step setup plan tale e ≡ made
  step_none ended given made is behind =
      let one = links_are_freed setup plan heard in
      let by : Concerned = record { first = heard.links; called = []; ended = ended; last = (leave ended one).links } in
      exactly setup plan tale e by (λ c. false) (single_none plan)
      (subst (ArePassedBut setup plan (view_of setup tale) e (λ c. false)) (sym is.first) is.passes) (none_of heard.clients) is.ends refl refl
      ∙ ap (λ t. links_are_freed setup plan (leave ended t)) is.first
      ∙ behind

  -- none is to be given back behind that
  freed_rest : (given : Tale) → links_are_freed setup plan heard ≡ given → NoneDone setup plan given
  freed_rest given first = subst (NoneDone setup plan) first (none_left setup plan heard)

  pub step_rests : (given : Tale) → IsOfNone setup plan tale e [] given → tale_step setup plan tale e ≡ given
  step_rests given is = step_none [] given given is (none_in setup plan given.links given (freed_rest given is.first))

  -- only links that carry sessions of the client, or of those that are ended
  pub step_parting : (client : Client) (ended : List ClientNo) (given : Tale) → IsOfOne setup plan tale e client ended given
      → tale_step setup plan tale e
      ≡ freed_in setup plan (filter (carries_parting setup plan (is_its client) given) given.links) (its_end setup plan tale e client ended given)
  step_parting client ended given is =
      let view = view_of setup tale in
      let its : ClientNo → Bool = is_its client in
      let made = its_end setup plan tale e client ended given in
      let called : All (λ (x : Client). its x.number ≡ true) (client ∷ []) =
      All-cons (λ (x : Client). its x.number ≡ true) client [] (same_number client.number.0) (All-nil (λ (x : Client). its x.number ≡ true)) in
      let moment : heard.moment ≡ given.moment =
      sym (kept_in setup plan (λ (t : Tale). t.moment) (λ story t. refl) heard.links heard) ∙ ap (λ (t : Tale). t.moment) is.first in
      let ending : All (λ (c : ClientNo). ends_now plan given.moment c ≡ true) ended =
      subst (All (λ (c : ClientNo). ends_now plan given.moment c ≡ true)) is.ends
      (subst (λ (m : ℕ). All (λ (c : ClientNo). ends_now plan m c ≡ true) (ended_now plan heard)) moment
      (filter_passes (ends_now plan heard.moment) (numbers heard))) in
      let links : made.links ≡ given.links = parting_links setup plan view e its its is.single (client ∷ []) ended given called in
      step_one client ended given (freed_in setup plan (filter (carries_parting setup plan its given) given.links) made) is
      (among setup plan (carries_parting setup plan its given) made.links made
      (parting_rests setup plan view e its (ends_now plan given.moment) is.single (client ∷ []) ended given called ending (freed_rest given is.first))
      ∙ ap (λ xs. freed_in setup plan (filter (carries_parting setup plan its given) xs) made) links)
