-- Which step begins is decided as it begins, and not before.
use Rattle.std.specs.Prelude.{◌≡◌, ◌≤◌, ◌<◌, ℕ, zero, suc, Bool, true, false, not, ◌&&◌, ◌||◌, fold, length, map, nat_eq, unwrap_or, if◌then◌else◌, List, [], ◌∷◌, ◌++◌, Option, Some, None}
use Rattle.std.specs.List.{list_any}
use Rattle.std.specs.Option.{option_map_or}
use Rattle.std.proofs.Common.{refl, sym, ap, ◌∙◌, subst, arith}
use Rattle.std.proofs.lemmas.Bool.{and_parts}
use Rattle.mx_base.specs.declared.names.LinkId.{LinkId}
use Rattle.mx_base.specs.declared.tag.Tag.{Tag}
use Rattle.mx_wire.specs.Log.{Log}
use Rattle.mx_wire.specs.Tells.{Fits}
use Rattle.mx_wire.specs.declared.entry.Entry.{Entry}
use Rattle.mx_wire.specs.declared.entry.Entry.TheVariants as entry
use Rattle.packet_frame.specs.Packets.{Framed}
use Rattle.private_model.proofs.Maps.{link_of, number_of, same_link}
use Rattle.private_model.specs.Story.{Dropped, Gone, Happening, Left, Ran, is_link_id}
use Rattle.private_model.specs.View.{Answered, Asked, Quiet, Setup, Stage, View}
use Rattle.reply_track.specs.Runs.{Ending}
use Rattle.reply_track.specs.Runs.Ending.{Going, Ended, Failed}
use Rattle.reply_track.specs.declared.reply.ReplyKind.TheVariants as kind
use Rattle.server_side.specs.Login.{Opening, Goes, LogsIn, Fails, opening}
use Rattle.private_model.specs.Story as story
use Rattle.log_story.specs.Clients.{client_leaves}
use Rattle.log_story.specs.Owed.{messages}
use Rattle.log_story.specs.Plan.{Plan, StepText}
use Rattle.log_story.specs.Servers.{begins, entered_by, heard_by, hears, kind_by, may_begin, quits_for, read_as, reset_by, runs_first, step_for, with_run, writes}
use Rattle.log_story.specs.Tale.{Client, Tale, Wire, client_gets, is_reset_step, is_to_server, link_in, new_wire, tell, view_of, with_wire}
use Rattle.log_story.specs.Telling.{is_lost_or_left, server_says, told, wire_with}
use Rattle.tale_world.specs.Decided.{plan_of}
use Rattle.tale_world.specs.Deciding.{Deciding, World}
use Rattle.tale_world.specs.World.{are_freed, are_taken, decided_last, decided_looked, decided_next, decided_told, freed_there, go_on, goes_on, is_called, is_counted, is_ended, is_told, is_up, next_message, next_of, taken_once, with_route}
use Rattle.tale_world.specs.World.{with_step, with_taken}
use Rattle.tale_world.proofs.Agreeing.{agrees-itself}
use Rattle.tale_world.proofs.Following.{stepped}
use Rattle.tale_world.proofs.Links.{new_link, step_of}
use Rattle.shared_router.specs.Fixed.{Fixed, setup_of}
use Rattle.shared_router.specs.More.{More}
use Rattle.shared_router.specs.Shared.{shared, world_at}
use Rattle.shared_router.proofs.Parting.{even_at, first, next, tale_then, world_more}

-- A tale grows: its links stay, and no fewer questions were begun on each.
pub record Grows (old new : Tale) : Type 0 where
  pub links : (l : LinkId) → is_to_server old l ≡ true → is_to_server new l ≡ true
  pub begun : (l : LinkId) → is_to_server old l ≡ true → (old.wires l).begun ≤ (new.wires l).begun

isnt : {A : Type 0} → false ≡ true → A
isnt is = absurd (cc)

same_grows : (tale : Tale) → Grows tale tale
same_grows tale = record { links = λ l is. is; begun = λ l is. omega arith }

grows_on : (a b c : Tale) → Grows a b → Grows b c → Grows a c
grows_on a b c one two = record {
  links = λ l is. two.links l (one.links l is);
  begun = λ l is. omega (arith, one.begun l is, two.begun l (one.links l is));
}

told_grows : (e : Happening) (tale : Tale) → Grows tale (tell e tale)
told_grows e tale = record { links = λ l is. is; begun = λ l is. omega arith }

if_grows : (b : Bool) (old x y : Tale) → Grows old x → Grows old y → Grows old (if b then x else y)
if_grows true old x y one other = one
if_grows false old x y one other = other

wire_grows : (link : LinkId) (wire : Wire) (tale : Tale) → (tale.wires link).begun ≤ wire.begun → Grows tale (with_wire link wire tale)
wire_grows link wire tale less = record { links = λ l is. is; begun = λ l is. by_test l (is_link_id l link) refl } where
  by_test : (l : LinkId) (b : Bool) → is_link_id l link ≡ b → (tale.wires l).begun ≤ (if b then wire else tale.wires l).begun
  by_test l true same = subst (λ k. (tale.wires k).begun ≤ wire.begun) (sym (link_of l link same)) less
  by_test l false same = omega arith

entered_grows : (p : Plan) (link : LinkId) (wire : Wire) (at : Opening) (tale : Tale) → (tale.wires link).begun ≤ wire.begun → Grows tale (entered_by p link wire at tale)
entered_grows p link wire (LogsIn said rest) tale less =
    grows_on tale (with_wire link (record wire { entered = true; unread = rest; written = [] }) tale) _
    (wire_grows link (record wire { entered = true; unread = rest; written = [] }) tale less) (told_grows _ _)
entered_grows p link wire (Goes said) tale less = wire_grows link wire tale less
entered_grows p link wire (Fails said fault) tale less = wire_grows link wire tale less

reset_grows : (link : LinkId) (wire : Wire) (ending : Ending) (tale : Tale) → (tale.wires link).begun ≤ wire.begun → Grows tale (reset_by link wire ending tale)
reset_grows link wire (Ended end rest) tale less = wire_grows link (record wire { unread = rest; written = []; step = None }) tale less
reset_grows link wire (Going state) tale less = wire_grows link wire tale less
reset_grows link wire (Failed rest) tale less = wire_grows link wire tale less

heard_grows : (link : LinkId) (question : story.Question) (wire : Wire) (ending : Ending) (tale : Tale) → (tale.wires link).begun ≤ wire.begun → Grows tale (heard_by link question wire ending tale)
heard_grows link question wire (Ended end rest) tale less =
    grows_on tale (with_wire link (record wire { unread = rest; written = [] }) tale) _ (wire_grows link (record wire { unread = rest; written = [] }) tale less) (told_grows _ _)
heard_grows link question wire (Going state) tale less = wire_grows link wire tale less
heard_grows link question wire (Failed rest) tale less = wire_grows link wire tale less

hears_grows : (link : LinkId) (wire : Wire) (stage : Stage) (tale : Tale) → (tale.wires link).begun ≤ wire.begun → Grows tale (hears link wire stage tale)
hears_grows link wire (Answered question) tale less = heard_grows link question wire (read_as (kind_by (story.command_of question)) wire) tale less
hears_grows link wire Quiet tale less = wire_grows link wire tale less
hears_grows link wire (Asked question) tale less = wire_grows link wire tale less

runs_grows : (stage : Stage) (link : LinkId) (tale : Tale) → Grows tale (runs_first stage link tale)
runs_grows (Asked question) link tale = told_grows _ _
runs_grows Quiet link tale = same_grows tale
runs_grows (Answered question) link tale = same_grows tale

runs_wires : (stage : Stage) (link : LinkId) (tale : Tale) → (runs_first stage link tale).wires ≡ tale.wires
runs_wires (Asked question) link tale = refl
runs_wires Quiet link tale = refl
runs_wires (Answered question) link tale = refl

says_grows : (setup : Setup) (p : Plan) (link : LinkId) (bytes : List ℕ) (tale : Tale) → Grows tale (server_says setup p link bytes tale)
says_grows setup p link bytes tale =
    let wire : Wire = wire_with tale link bytes in
    let ran : Tale = with_run setup link tale in
    if_grows (not (tale.wires link).entered) tale _ _ (entered_grows p link wire (opening (p.logins link) wire.unread) tale (omega arith))
    (if_grows (is_reset_step (tale.wires link).step) tale _ _ (reset_grows link wire (read_as kind.Command wire) tale (omega arith))
    (grows_on tale ran _ (runs_grows (link_in setup tale link).stage link tale)
    (hears_grows link wire (link_in setup ran link).stage ran
    (subst (λ (f : LinkId → Wire). (f link).begun ≤ wire.begun) (sym (runs_wires (link_in setup tale link).stage link tale)) (omega arith)))))

writes_grows : (setup : Setup) (p : Plan) (link : LinkId) (for : Tag) (bytes : List ℕ) (tale : Tale) → Grows tale (writes setup p link for bytes (tale.wires link) tale)
writes_grows setup p link for bytes tale =
    let wire : Wire = tale.wires link in
    let step = p.steps link wire.begun in
    let begun : Wire = record wire { written = bytes; step = step_for for step; begun = suc wire.begun; quits = wire.quits || quits_for for step } in
    if_grows (may_begin setup link wire tale) tale _ _
    (grows_on tale (with_wire link begun tale) _ (wire_grows link begun tale (omega arith)) (record { links = λ l is. is; begun = λ l is. omega arith }))
    (wire_grows link (record wire { written = wire.written ++ bytes }) tale (omega arith))

leaves_grow : (link : LinkId) (xs : List Client) (tale : Tale) → Grows tale (fold (client_leaves link) tale xs)
leaves_grow link [] tale = same_grows tale
leaves_grow link (x ∷ xs) tale =
    grows_on tale (client_leaves link tale x) _ (if_grows (is_link_id x.link link) tale (tell (Left x.number) tale) tale (told_grows _ _) (same_grows tale))
    (leaves_grow link xs (client_leaves link tale x))

lost_grows : (link : LinkId) (tale : Tale) → Grows tale (is_lost_or_left link tale)
lost_grows link tale = if_grows (is_to_server tale link) tale _ _ (told_grows _ _) (leaves_grow link tale.clients tale)

more_any : (l : LinkId) (xs ys : List LinkId) → list_any (is_link_id l) xs ≡ true → list_any (is_link_id l) (xs ++ ys) ≡ true
more_any l [] ys is = isnt is
more_any l (x ∷ xs) ys is = by_test (is_link_id l x) is (more_any l xs ys) where
  by_test : (b : Bool) → (b || list_any (is_link_id l) xs) ≡ true → (list_any (is_link_id l) xs ≡ true → list_any (is_link_id l) (xs ++ ys) ≡ true) → (b || list_any (is_link_id l) (xs ++ ys)) ≡ true
  by_test true is later = refl
  by_test false is later = later is

-- a link that comes is new
abbrev pub IsNewThen : Tale → Entry → Type 0
IsNewThen tale (entry.Opened server address link) = is_to_server tale link ≡ false
IsNewThen tale _ = Unit {0}

entry_grows : (setup : Setup) (p : Plan) (tale : Tale) (e : Entry) → IsNewThen tale e → Grows tale (told setup p tale e)
entry_grows setup p tale (entry.Opened server address link) new = record {
  links = λ l is. more_any l tale.links (link ∷ []) is;
  begun = λ l is. by_test l (is_link_id l link) refl is;
} where
  by_test : (l : LinkId) (b : Bool) → is_link_id l link ≡ b → is_to_server tale l ≡ true → (tale.wires l).begun ≤ (if b then new_wire server else tale.wires l).begun
  by_test l true same is = isnt (sym new ∙ ap (λ k. is_to_server tale k) (sym (link_of l link same)) ∙ is)
  by_test l false same is = omega arith
entry_grows setup p tale (entry.Accepted port link salt) new = record { links = λ l is. is; begun = λ l is. omega arith }
entry_grows setup p tale (entry.Got link bytes) new =
    if_grows (is_to_server tale link) tale _ _ (says_grows setup p link bytes tale) (record { links = λ l is. is; begun = λ l is. omega arith })
entry_grows setup p tale (entry.Wrote link for bytes) new =
    if_grows (is_to_server tale link) tale _ _ (writes_grows setup p link for bytes tale) (record { links = λ l is. is; begun = λ l is. omega arith })
entry_grows setup p tale (entry.Exec link) new = if_grows (tale.wires link).entered tale _ _ (told_grows _ _) (same_grows tale)
entry_grows setup p tale (entry.Drop link) new = told_grows _ _
entry_grows setup p tale (entry.Ended link) new = lost_grows link tale
entry_grows setup p tale (entry.ReadFailed link) new = lost_grows link tale
entry_grows setup p tale (entry.WriteFailed link) new = lost_grows link tale
entry_grows setup p tale (entry.Closed link) new = lost_grows link tale
entry_grows setup p tale _ new = same_grows tale

-- one more question was begun
begins_one : (setup : Setup) (p : Plan) (tale : Tale) (link : LinkId) (for : Tag) (bytes : List ℕ) → is_to_server tale link ≡ true → may_begin setup link (tale.wires link) tale ≡ true
    → ((told setup p tale (entry.Wrote link for bytes)).wires link).begun ≡ suc (tale.wires link).begun
begins_one setup p tale link for bytes there may =
    ap (λ b. ((if b then writes setup p link for bytes (tale.wires link) tale else record tale { clients = map (client_gets link (length bytes)) tale.clients }).wires link).begun) there
    ∙ ap (λ b. ((if b then begins_by else with_wire link (record (tale.wires link) { written = (tale.wires link).written ++ bytes }) tale).wires link).begun) may
    ∙ ap (λ b. (if b then begun else tale.wires link).begun) (same_link link)
  where
    step : StepText
    step = p.steps link (tale.wires link).begun

    begun : Wire
    begun = record (tale.wires link) { written = bytes; step = step_for for step; begun = suc (tale.wires link).begun; quits = (tale.wires link).quits || quits_for for step }

    begins_by : Tale
    begins_by = begins setup p link for bytes (tale.wires link) tale

module _ (fixed : Fixed) where
  abbrev setup : Setup
  setup = setup_of fixed

  abbrev by : Deciding More
  by = shared fixed

  -- steps are decided as an entry is told, and nowhere else

  abbrev Table : Type 0
  Table = LinkId → ℕ → Option StepText

  freeing_steps : (xs : List LinkId) (w : World More) → (fold (freed_there setup by) w xs).decided.steps ≡ w.decided.steps
  freeing_steps [] w = refl
  freeing_steps (x ∷ xs) w = freeing_steps xs (freed_there setup by w x)

  next_steps : (w : World More) (client : Client) (b : Bool) (found : Option Framed)
      → (if b then with_route by w client (decided_looked setup by w client) found else decided_looked setup by w client).steps ≡ w.decided.steps
  next_steps w client true None = refl
  next_steps w client true (Some message) = refl
  next_steps w client false found = refl

  taking_steps : (most : ℕ) (client : Client) (w : World More) → (are_taken most setup by client w).decided.steps ≡ w.decided.steps
  taking_steps zero client w = refl
  taking_steps (suc most) client w = by_found (taken_once setup by w client) (taking_steps most (next_of client)) where
    now : (decided_next setup by w client).steps ≡ w.decided.steps
    now = next_steps w client (is_up setup (decided_looked setup by w client) w.tale client) (next_message (decided_looked setup by w client) client)

    by_found : (o : Option Tale) → ((v : World More) → (are_taken most setup by (next_of client) v).decided.steps ≡ v.decided.steps)
        → (option_map_or (λ tale. are_taken most setup by (next_of client) (with_taken setup by w client tale)) o (record w { decided = decided_next setup by w client })).decided.steps ≡ w.decided.steps
    by_found None later = now
    by_found (Some tale) later = later (with_taken setup by w client tale) ∙ now

  going_steps : (view : View) (e : Entry) (w : World More) (client : Client) → (goes_on setup by view e w client).decided.steps ≡ w.decided.steps
  going_steps view e w client = by_test (is_called (decided_last by w client) w.tale.moment view e client) where
    v : World More
    v = record w { decided = decided_last by w client }

    by_test : (b : Bool) → (if b then are_taken (length (messages (plan_of v.decided) client)) setup by client v else v).decided.steps ≡ w.decided.steps
    by_test true = taking_steps (length (messages (plan_of v.decided) client)) client v
    by_test false = refl

  all_steps : (view : View) (e : Entry) (xs : List Client) (w : World More) → (fold (goes_on setup by view e) w xs).decided.steps ≡ w.decided.steps
  all_steps view e [] w = refl
  all_steps view e (x ∷ xs) w = all_steps view e xs (goes_on setup by view e w x) ∙ going_steps view e w x

  entry_steps : (w : World More) (e : Entry) → (next fixed w e).decided.steps ≡ (decided_told setup by w e).steps
  entry_steps w e =
      let b : World More = is_counted by (is_told setup by w e) e in
      let c : World More = are_freed setup by b in
      let d : World More = go_on setup by (view_of setup w.tale) e c in
      let f : World More = is_ended by d e in
      freeing_steps f.tale.links f ∙ all_steps (view_of setup w.tale) e c.tale.clients c ∙ freeing_steps b.tale.links b

  -- of each step that was decided the question was begun

  abbrev pub WasBegun : Tale → LinkId → ℕ → Type 0
  WasBegun tale l n = (is_to_server tale l ≡ true) × (n < (tale.wires l).begun)

  abbrev pub AreBegun : World More → Type 0
  AreBegun w = (l : LinkId) (n : ℕ) (x : StepText) → w.decided.steps l n ≡ Some x → WasBegun w.tale l n

  was_more : (old new : Tale) (l : LinkId) (n : ℕ) → Grows old new → WasBegun old l n → WasBegun new l n
  was_more old new l n grows was = (grows.links l was.0, omega (arith, was.1, grows.begun l was.0))

  told_begun : (p : Plan) (w : World More) (e : Entry) → IsNewThen w.tale e → AreBegun w
      → (l : LinkId) (n : ℕ) (x : StepText) → (decided_told setup by w e).steps l n ≡ Some x → WasBegun (told setup p w.tale e) l n
  told_begun p w (entry.Wrote link for bytes) new begun l n x is =
      by_test (is_to_server w.tale link && may_begin setup link (w.tale.wires link) w.tale) refl is
    where
      grows : Grows w.tale (told setup p w.tale (entry.Wrote link for bytes))
      grows = entry_grows setup p w.tale (entry.Wrote link for bytes) tt

      by_here : (b : Bool) → (is_link_id l link && nat_eq n (w.tale.wires link).begun) ≡ b → is_to_server w.tale link ≡ true → may_begin setup link (w.tale.wires link) w.tale ≡ true
          → (if b then Some (unwrap_or (w.decided.steps l n) (by.step w link for bytes)) else w.decided.steps l n) ≡ Some x → WasBegun (told setup p w.tale (entry.Wrote link for bytes)) l n
      by_here true here there begins is =
          let parts = and_parts (is_link_id l link) _ here in
          let at : n ≡ (w.tale.wires link).begun = number_of n (w.tale.wires link).begun parts.1 in
          let one : ((told setup p w.tale (entry.Wrote link for bytes)).wires link).begun ≡ suc (w.tale.wires link).begun = begins_one setup p w.tale link for bytes there begins in
          subst (λ k. WasBegun (told setup p w.tale (entry.Wrote link for bytes)) k n) (sym (link_of l link parts.0)) (grows.links link there, omega (arith, at, one))
      by_here false here there begins is = was_more w.tale (told setup p w.tale (entry.Wrote link for bytes)) l n grows (begun l n x is)

      by_test : (b : Bool) → (is_to_server w.tale link && may_begin setup link (w.tale.wires link) w.tale) ≡ b
          → (if b then with_step by w link for bytes else w.decided).steps l n ≡ Some x → WasBegun (told setup p w.tale (entry.Wrote link for bytes)) l n
      by_test true both is =
          let parts = and_parts (is_to_server w.tale link) _ both in by_here (is_link_id l link && nat_eq n (w.tale.wires link).begun) refl parts.0 parts.1 is
      by_test false both is = was_more w.tale (told setup p w.tale (entry.Wrote link for bytes)) l n grows (begun l n x is)
  told_begun p w (entry.Opened server address link) new begun l n x is =
      was_more w.tale (told setup p w.tale (entry.Opened server address link)) l n (entry_grows setup p w.tale (entry.Opened server address link) new) (begun l n x is)
  told_begun p w (entry.Got link bytes) new begun l n x is =
      was_more w.tale (told setup p w.tale (entry.Got link bytes)) l n (entry_grows setup p w.tale (entry.Got link bytes) new) (begun l n x is)
  told_begun p w e new begun l n x is = was_more w.tale (told setup p w.tale e) l n (entry_grows setup p w.tale e new) (begun l n x is)

  begun_step : (w : World More) (e : Entry) → w.decided.until ≡ w.tale.moment → IsNewThen w.tale e → AreBegun w → AreBegun (next fixed w e)
  begun_step w e even new begun l n x is =
      let v : World More = next fixed w e in
      let plan : Plan = plan_of v.decided in
      let same = (stepped setup by w e plan even (agrees-itself v.decided v.tale.moment)).same in
      let links : v.tale.links ≡ (told setup plan w.tale e).links =
      ap (λ (t : Tale). t.links) same ∙ step_of (λ (t : Tale). t.links) (λ past t. refl) (λ clients t. refl) setup plan w.tale e in
      let wires : v.tale.wires ≡ (told setup plan w.tale e).wires =
      ap (λ (t : Tale). t.wires) same ∙ step_of (λ (t : Tale). t.wires) (λ past t. refl) (λ clients t. refl) setup plan w.tale e in
      let was = told_begun plan w e new begun l n x (ap (λ (f : Table). f l n) (sym (entry_steps w e)) ∙ is) in (
        ap (list_any (is_link_id l)) links ∙ was.0,
        subst (λ (f : LinkId → Wire). n < (f l).begun) (sym wires) was.1,
      )

  -- so no step was decided of what begins
  none_of : {A : Type 0} (o : Option A) → ((x : A) → o ≡ Some x → ⊥) → o ≡ None
  none_of None never = refl
  none_of (Some x) never = absurd (never x refl)

  pub none_begun : (w : World More) (link : LinkId) → AreBegun w → w.decided.steps link (w.tale.wires link).begun ≡ None
  none_begun w link begun =
      none_of (w.decided.steps link (w.tale.wires link).begun) (λ x is. let was = begun link (w.tale.wires link).begun x is in omega (arith, was.1))

  new_then : (before : Log) (e : Entry) → Fits before e → IsNewThen (world_at fixed before).tale e
  new_then before (entry.Opened server address link) fits =
      ap (λ t. is_to_server t link) (sym (tale_then fixed before [])) ∙ new_link setup (plan_of (world_at fixed (before ++ [])).decided) before link fits.fresh
  new_then before _ fits = tt

  pub first_begun : AreBegun (first fixed)
  first_begun l n x is = absurd (cc)

  pub begun_then : (before : Log) (e : Entry) → Fits before e → AreBegun (world_at fixed before) → AreBegun (world_at fixed (before ++ e ∷ []))
  begun_then before e fits begun =
      subst (λ (v : World More). AreBegun v) (sym (world_more fixed before (e ∷ []))) (begun_step (world_at fixed before) e (even_at fixed before) (new_then before e fits) begun)
