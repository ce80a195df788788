-- What was decided of links and of opens that failed stays so for the rest of a log.
use Rattle.std.specs.Prelude.{◌≡◌, ◌+◌, ◌≤◌, ℕ, zero, suc, Bool, true, false, ◌&&◌, ◌||◌, fold, length, if◌then◌else◌, unwrap_or, List, [], ◌∷◌, ◌++◌, Option, Some, None}
use Rattle.std.specs.List.{list_any}
use Rattle.std.specs.Option.{option_map_or}
use Rattle.std.proofs.Common.{refl, sym, ap, ◌∙◌, subst, append_assoc, append-nil, arith, length-append}
use Rattle.std.proofs.lemmas.Bool.{ne_eqb, or_right}
use Rattle.mx_base.specs.declared.names.Address.{Address}
use Rattle.mx_base.specs.declared.names.LinkId.{LinkId}
use Rattle.mx_base.specs.declared.names.ServerId.{ServerId}
use Rattle.mx_base.specs.declared.tag.Tag.{Tag}
use Rattle.mx_wire.specs.Log.{Log, is_link, of_link, opened_links}
use Rattle.mx_wire.specs.Log as wire
use Rattle.mx_wire.specs.Moments.{LawfulAfter}
use Rattle.mx_wire.specs.Tells.{Fits, IsNew}
use Rattle.mx_wire.specs.declared.entry.Entry.{Entry}
use Rattle.mx_wire.specs.declared.entry.Entry.TheVariants as entry
use Rattle.packet_frame.specs.Packets.{Framed}
use Rattle.private_model.proofs.Maps.{link_of, same_link}
use Rattle.private_model.specs.Story.{is_link_id, message_of}
use Rattle.private_model.specs.View.{Setup, View}
use Rattle.server_side.specs.Account.{Account as Login}
use Rattle.log_story.specs.Owed.{messages}
use Rattle.log_story.specs.Plan.{Plan}
use Rattle.log_story.specs.Servers.{may_begin}
use Rattle.log_story.specs.Tale.{Client, Tale, is_to_server, view_of}
use Rattle.tale_world.specs.Decided.{Agrees, Decided, plan_of}
use Rattle.tale_world.specs.Deciding.{Deciding, World}
use Rattle.tale_world.specs.World.{are_freed, are_taken, decided_last, decided_looked, decided_next, decided_told, freed_there, go_on, goes_on, is_called, is_counted, is_ended, is_told, is_up, next_message, next_of, taken_once, with_login, with_route, with_step, with_taken}
use Rattle.tale_world.proofs.Agreeing.{agrees-itself, filled-there, same_login, same_own}
use Rattle.tale_world.proofs.Following.{stepped}
use Rattle.tale_world.proofs.Links.{log_links, new_link}
use Rattle.router_promises.specs.Terms.{Tried, entry_behind}
use Rattle.shared_router.specs.Fixed.{Fixed, IsNumbered, setup_of}
use Rattle.shared_router.specs.Known.{known}
use Rattle.shared_router.specs.More.{More}
use Rattle.shared_router.specs.Shared.{bare_after, shared, tried_after, world_at}
use Rattle.shared_router.specs.Wishes.{tried_by}
use Rattle.shared_router.proofs.Later.{AreAlike}
use Rattle.shared_router.proofs.Owing.{due_seen_at}
use Rattle.shared_router.proofs.Parting.{agrees_then, even_at, first, next, tale_then, world_more}
use Rattle.shared_router.proofs.Routing.{logins_at}
use Rattle.shared_router.proofs.Same.{some_of}
use Rattle.shared_router.proofs.Staying.{log_at, step_at}

any_left : (link : LinkId) (a b : List LinkId) → list_any (is_link_id link) a ≡ true → list_any (is_link_id link) (a ++ b) ≡ true
any_left link [] b is = absurd (cc)
any_left link (x ∷ a) b is = by_test (is_link_id link x) is (any_left link a b) where
  by_test : (t : Bool) → (t || list_any (is_link_id link) a) ≡ true → (list_any (is_link_id link) a ≡ true → list_any (is_link_id link) (a ++ b) ≡ true)
      → (t || list_any (is_link_id link) (a ++ b)) ≡ true
  by_test true there later = refl
  by_test false there later = later there

any_last : (link : LinkId) (a : List LinkId) → list_any (is_link_id link) (a ++ link ∷ []) ≡ true
any_last link [] = ap (λ b. b || false) (same_link link)
any_last link (x ∷ a) = or_right (is_link_id link x) _ (any_last link a)

true-false : {A : Type 0} → true ≡ false → A
true-false is = absurd (cc)

module _ (fixed : Fixed) where
  abbrev setup : Setup
  setup = setup_of fixed

  abbrev by : Deciding More
  by = shared fixed

  -- Links that there are stay there.

  step_links : (w : World More) (e : Entry) → w.decided.until ≡ w.tale.moment → (next fixed w e).tale.links ≡ w.tale.links ++ opened_links (e ∷ [])
  step_links w e even =
      let v : World More = next fixed w e in
      let plan : Plan = plan_of v.decided in
      ap (λ (t : Tale). t.links) (stepped setup by w e plan even (agrees-itself v.decided v.tale.moment)).same ∙ log_links setup plan (e ∷ []) w.tale

  pub links_at : (log : Log) (e : Entry) → (world_at fixed (log ++ e ∷ [])).tale.links ≡ (world_at fixed log).tale.links ++ opened_links (e ∷ [])
  links_at log e = ap (λ (w : World More). w.tale.links) (world_more fixed log (e ∷ [])) ∙ step_links (world_at fixed log) e (even_at fixed log)

  pub still_there : (log : Log) (e : Entry) (link : LinkId) → is_to_server (world_at fixed log).tale link ≡ true → is_to_server (world_at fixed (log ++ e ∷ [])).tale link ≡ true
  still_there log e link there =
      ap (list_any (is_link_id link)) (links_at log e) ∙ any_left link (world_at fixed log).tale.links (opened_links (e ∷ [])) there

  pub opened_there : (log : Log) (server : ServerId) (address : Address) (link : LinkId) → is_to_server (world_at fixed (log ++ entry.Opened server address link ∷ [])).tale link ≡ true
  opened_there log server address link = ap (list_any (is_link_id link)) (links_at log (entry.Opened server address link)) ∙ any_last link (world_at fixed log).tale.links

  pub new_there : (log : Log) (link : LinkId) → IsNew link log → is_to_server (world_at fixed log).tale link ≡ false
  new_there log link new = ap (λ t. is_to_server t link) (sym (tale_then fixed log [])) ∙ new_link setup (plan_of (world_at fixed (log ++ [])).decided) log link new

  -- whether a link is kept for those in no schema

  bare_told : (log : Log) (e : Entry) → Fits log e → (link : LinkId) → is_to_server (world_at fixed log).tale link ≡ true
      → bare_after fixed (world_at fixed log) e link ≡ (world_at fixed log).more.bare link
  bare_told log (entry.Opened server address other) fits link there = by_test (is_link_id link other) refl where
    by_test : (b : Bool) → is_link_id link other ≡ b
        → (if b then (tried_by (known fixed (world_at fixed log))).bare else (world_at fixed log).more.bare link) ≡ (world_at fixed log).more.bare link
    by_test false apart = refl
    by_test true same =
        true-false (sym there ∙ ap (is_to_server (world_at fixed log).tale) (link_of link other same) ∙ new_there log other fits.fresh)
  bare_told log _ fits link there = refl

  pub bare_from : (before later : Log) → LawfulAfter Fits before later → (link : LinkId) → is_to_server (world_at fixed before).tale link ≡ true
      → (world_at fixed (before ++ later)).more.bare link ≡ (world_at fixed before).more.bare link
  bare_from before [] fits link there = ap (λ (l : Log). (world_at fixed l).more.bare link) (append-nil before)
  bare_from before (e ∷ later) fits link there =
      subst (λ (l : Log). (world_at fixed l).more.bare link ≡ (world_at fixed before).more.bare link) (append_assoc before (e ∷ []) later)
      (bare_from (before ++ e ∷ []) later fits.1 link (still_there before e link there)
      ∙ ap (λ (f : LinkId → Bool). f link) (step_at fixed before e).bare ∙ bare_told before e fits.0 link there)

  -- for whom an open failed

  tried_told : (w : World More) (e : Entry) (n : ℕ) → n ≤ length w.more.log → tried_after fixed w e n ≡ w.more.tried n
  tried_told w (entry.OpenFailed server address) n early =
      ap (λ b. if b then tried_by (known fixed w) else w.more.tried n) (ne_eqb n (entry_behind w.more.log) (λ is. omega (arith, is, early)))
  tried_told w _ n early = refl

  pub tried_from : (before later : Log) (n : ℕ) → n ≤ length before → (world_at fixed (before ++ later)).more.tried n ≡ (world_at fixed before).more.tried n
  tried_from before [] n early = ap (λ (l : Log). (world_at fixed l).more.tried n) (append-nil before)
  tried_from before (e ∷ later) n early =
      subst (λ (l : Log). (world_at fixed l).more.tried n ≡ (world_at fixed before).more.tried n) (append_assoc before (e ∷ []) later)
      (tried_from (before ++ e ∷ []) later n (let long : length (before ++ e ∷ []) ≡ length before + 1 = length-append before (e ∷ []) in omega arith)
      ∙ ap (λ (f : ℕ → Tried). f n) (step_at fixed before e).tried
      ∙ tried_told (world_at fixed before) e n (subst (λ (l : Log). n ≤ length l) (sym (log_at fixed before)) early))

  -- Who logs in on a link is decided as an entry is told.

  freeing_logins : (xs : List LinkId) (w : World More) → (fold (freed_there setup by) w xs).decided.logins ≡ w.decided.logins
  freeing_logins [] w = refl
  freeing_logins (x ∷ xs) w = freeing_logins xs (freed_there setup by w x)

  routed_logins : (w : World More) (client : Client) (d : Decided) (found : Option Framed) → (with_route by w client d found).logins ≡ d.logins
  routed_logins w client d None = refl
  routed_logins w client d (Some message) = refl

  next_logins : (w : World More) (client : Client) → (decided_next setup by w client).logins ≡ w.decided.logins
  next_logins w client = by_test (is_up setup (decided_looked setup by w client) w.tale client) where
    by_test : (b : Bool) → (if b then with_route by w client (decided_looked setup by w client) (next_message (decided_looked setup by w client) client)
        else decided_looked setup by w client).logins ≡ w.decided.logins
    by_test true = routed_logins w client (decided_looked setup by w client) (next_message (decided_looked setup by w client) client)
    by_test false = refl

  taking_logins : (most : ℕ) (client : Client) (w : World More) → (are_taken most setup by client w).decided.logins ≡ w.decided.logins
  taking_logins zero client w = refl
  taking_logins (suc most) client w = by_found (taken_once setup by w client) (taking_logins most (next_of client)) where
    by_found : (found : Option Tale) → ((v : World More) → (are_taken most setup by (next_of client) v).decided.logins ≡ v.decided.logins)
        → (option_map_or (λ tale. are_taken most setup by (next_of client) (with_taken setup by w client tale)) found (record w { decided = decided_next setup by w client })).decided.logins
        ≡ w.decided.logins
    by_found None later = next_logins w client
    by_found (Some tale) later = later (with_taken setup by w client tale) ∙ next_logins w client

  going_logins : (view : View) (e : Entry) (xs : List Client) (w : World More) → (fold (goes_on setup by view e) w xs).decided.logins ≡ w.decided.logins
  going_logins view e [] w = refl
  going_logins view e (x ∷ xs) w = going_logins view e xs (goes_on setup by view e w x) ∙ by_test (is_called (decided_last by w x) w.tale.moment view e x) where
    v : World More
    v = record w { decided = decided_last by w x }

    by_test : (b : Bool) → (if b then are_taken (length (messages (plan_of v.decided) x)) setup by x v else v).decided.logins ≡ w.decided.logins
    by_test true = taking_logins (length (messages (plan_of v.decided) x)) x v
    by_test false = refl

  pub step_logins : (w : World More) (e : Entry) → (next fixed w e).decided.logins ≡ (decided_told setup by w e).logins
  step_logins w e =
      let b : World More = is_counted by (is_told setup by w e) e in
      let c : World More = are_freed setup by b in
      let d : World More = go_on setup by (view_of setup w.tale) e c in
      let f : World More = is_ended by d e in
      freeing_logins f.tale.links f ∙ going_logins (view_of setup w.tale) e c.tale.clients c ∙ freeing_logins b.tale.links b

  other_login : (w : World More) (link other : LinkId) → is_link_id link other ≡ false → (with_login by w other).logins link ≡ w.decided.logins link
  other_login w link other apart = ap (λ b. if b then Some (unwrap_or (w.decided.logins link) (by.login w other)) else w.decided.logins link) apart

  begins_logins : (w : World More) (b : Bool) (link : LinkId) (for : Tag) (bytes : List ℕ) → (if b then with_step by w link for bytes else w.decided).logins ≡ w.decided.logins
  begins_logins w true link for bytes = refl
  begins_logins w false link for bytes = refl

  told_login : (w : World More) (e : Entry) (link : LinkId) → is_link link (wire.link_of e) ≡ false → (decided_told setup by w e).logins link ≡ w.decided.logins link
  told_login w (entry.Opened server address other) link apart = other_login w link other apart
  told_login w (entry.Got other bytes) link apart = other_login w link other apart
  told_login w (entry.Wrote other for bytes) link apart =
      ap (λ (f : LinkId → Option Login). f link) (begins_logins w (is_to_server w.tale other && may_begin setup other (w.tale.wires other) w.tale) other for bytes)
  told_login w _ link apart = refl

  logins_new : (link : LinkId) (log : Log) (w : World More) → w.decided.logins link ≡ None → of_link link log ≡ [] → (fold (next fixed) w log).decided.logins link ≡ None
  logins_new link [] w none new = none
  logins_new link (e ∷ log) w none new = by_test (is_link link (wire.link_of e)) refl (logins_new link log (next fixed w e)) new where
    by_test : (b : Bool) → is_link link (wire.link_of e) ≡ b
        → ((next fixed w e).decided.logins link ≡ None → of_link link log ≡ [] → (fold (next fixed) (next fixed w e) log).decided.logins link ≡ None)
        → (if b then e ∷ of_link link log else of_link link log) ≡ [] → (fold (next fixed) (next fixed w e) log).decided.logins link ≡ None
    by_test true here later empty = absurd (cc)
    by_test false here later empty = later (ap (λ (f : LinkId → Option Login). f link) (step_logins w e) ∙ told_login w e link here ∙ none) empty

  -- on a link that is opened it is who the router says
  pub opened_as : (log : Log) (server : ServerId) (address : Address) (link : LinkId) → IsNew link log
      → (next fixed (world_at fixed log) (entry.Opened server address link)).decided.logins link ≡ Some (tried_by (known fixed (world_at fixed log))).login
  opened_as log server address link new =
      let w : World More = world_at fixed log in
      ap (λ (f : LinkId → Option Login). f link) (step_logins w (entry.Opened server address link))
      ∙ filled-there (λ l. is_link_id l link) (λ l. by.login w link) w.decided.logins link (same_link link)
      ∙ ap (λ o. Some (unwrap_or o (by.login w link))) (logins_new link log (first fixed) refl new)

  -- So terms are alike in what they say of a moment.
  pub alike_at : IsNumbered fixed → (before later : Log) → LawfulAfter Fits before later
      → AreAlike fixed (world_at fixed before).tale (world_at fixed before) (world_at fixed (before ++ later))
  alike_at numbered before later fits =
      let w : World More = world_at fixed before in
      let plan : Plan = plan_of (world_at fixed (before ++ later)).decided in
      let agrees : Agrees w.decided w.tale.moment plan = agrees_then fixed before later in
      record {
        logins = λ link there. let login = logins_at fixed numbered before link there in sym (same_login w.decided w.tale.moment plan agrees link login.0 login.1);
        bare = λ link there. bare_from before later fits link there;
        own = λ n due is. let own = some_of (w.decided.own (message_of n due)) (due_seen_at fixed before n due is) in sym (same_own w.decided w.tale.moment plan agrees (message_of n due) own.0 own.1);
      }
