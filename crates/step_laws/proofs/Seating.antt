-- Clients are numbered by their places, so each has its number for itself.
use Rattle.std.specs.Prelude.{◌≡◌, ◌+◌, ◌≤◌, ◌<◌, ℕ, zero, suc, Bool, true, false, All, cond, filter, fold, if◌then◌else◌, length, map, slice_get, List, [], ◌∷◌, ◌++◌, Option, Some, None}
use Rattle.std.specs.Option.{option_map_or}
use Rattle.std.proofs.Common.{refl, sym, ap, ◌∙◌, subst, arith}
use Rattle.std.proofs.lemmas.Bool.{ne_eqb}
use Rattle.std.proofs.lemmas.List.Elements.{All-cons, All-head, All-nil, All-tail, All-weaker}
use Rattle.mx_base.specs.declared.names.LinkId.{LinkId}
use Rattle.mx_wire.specs.Log.{Log}
use Rattle.mx_wire.specs.declared.entry.Entry.{Entry}
use Rattle.mx_wire.specs.declared.entry.Entry.TheVariants as entry
use Rattle.private_model.proofs.Maps.{same_number}
use Rattle.private_model.specs.Names.{ClientNo}
use Rattle.private_model.specs.Story.{Dropped, Gone, Left, Ran, is_client, is_link_id}
use Rattle.private_model.specs.View.{Setup, View}
use Rattle.log_story.proofs.Moving.{says-moved, writes-moved}
use Rattle.log_story.specs.Clients.{client_goes_on, client_leaves, clients_are_ended, clients_go_on, ended_if_now, taken_up}
use Rattle.log_story.specs.Owed.{messages}
use Rattle.log_story.specs.Plan.{Plan, is_now}
use Rattle.log_story.specs.Servers.{links_are_freed, writes}
use Rattle.log_story.specs.Tale.{Client, Tale, client_gets, client_hears, first_tale, is_to_server, new_client, tell, view_of, with_client}
use Rattle.log_story.specs.Telling.{is_lost_or_left, server_says, tale_step, told}
use Rattle.step_laws.specs.Freed.{NoneDone}
use Rattle.step_laws.specs.Seats.{AreCounted, IsSeated, numbers}
use Rattle.step_laws.specs.Steps.{told_then}
use Rattle.step_laws.specs.Taken.{gone_on, is_called, next_made, next_of}
use Rattle.step_laws.proofs.Giving.{isnt, kept_in, none_left}
use Rattle.step_laws.proofs.Taking.{numbers_new, once_seats}

-- Numbers that count up.

abbrev all_numbers : List Client → List ClientNo
all_numbers xs = map (λ (c : Client). c.number) xs

counted_last : (from : ℕ) (xs : List Client) (y : Client) → AreCounted from (all_numbers xs) → y.number.0 ≡ from + length xs
    → AreCounted from (all_numbers (xs ++ y ∷ []))
counted_last from [] y are last = (omega (arith, last), tt)
counted_last from (x ∷ xs) y are last = (are.0, counted_last (suc from) xs y are.1 (omega (arith, last)))

numbers_map : (f : Client → Client) → ((c : Client) → (f c).number ≡ c.number) → (xs : List Client) → all_numbers (map f xs) ≡ all_numbers xs
numbers_map f same [] = refl
numbers_map f same (x ∷ xs) = λ i. same x i ∷ numbers_map f same xs i

counted_above : (from : ℕ) (xs : List Client) → AreCounted from (all_numbers xs) → All (λ (c : Client). from ≤ c.number.0) xs
counted_above from [] are = All-nil (λ (c : Client). from ≤ c.number.0)
counted_above from (x ∷ xs) are =
    let first : x.number.0 ≡ from = are.0 in
    All-cons (λ (c : Client). from ≤ c.number.0) x xs (omega (arith, first))
    (All-weaker (λ (c : Client). suc from ≤ c.number.0) (λ (c : Client). from ≤ c.number.0) (λ c above. omega (arith, above)) xs
    (counted_above (suc from) xs are.1))

-- So each stands alone under its number.

abbrev of_number : ClientNo → List Client → List Client
of_number number xs = filter (λ (c : Client). is_client c.number number) xs

none_below : (number : ClientNo) (from : ℕ) (xs : List Client) → number.0 < from → All (λ (c : Client). from ≤ c.number.0) xs → of_number number xs ≡ []
none_below number from [] below above = refl
none_below number from (x ∷ xs) below above =
    let here : from ≤ x.number.0 = All-head (λ (c : Client). from ≤ c.number.0) x xs above in
    ap (λ b. cond b (x ∷ of_number number xs) (of_number number xs)) (ne_eqb x.number.0 number.0 (λ same. omega (arith, same, here, below)))
    ∙ none_below number from xs below (All-tail (λ (c : Client). from ≤ c.number.0) x xs above)

abbrev Alone : List Client → Client → Type 0
Alone xs client = of_number client.number xs ≡ client ∷ []

alone_first : (from : ℕ) (x : Client) (xs : List Client) → x.number.0 ≡ from → AreCounted (suc from) (all_numbers xs) → Alone (x ∷ xs) x
alone_first from x xs is are =
    ap (λ b. cond b (x ∷ of_number x.number xs) (of_number x.number xs)) (same_number x.number.0)
    ∙ ap (λ ys. x ∷ ys) (none_below x.number (suc from) xs (omega (arith, is)) (counted_above (suc from) xs are))

alone_behind : (from : ℕ) (x : Client) (xs : List Client) (client : Client) → x.number.0 ≡ from → (suc from ≤ client.number.0) × Alone xs client → Alone (x ∷ xs) client
alone_behind from x xs client is both =
    let above : suc from ≤ client.number.0 = both.0 in
    ap (λ b. cond b (x ∷ of_number client.number xs) (of_number client.number xs)) (ne_eqb x.number.0 client.number.0 (λ same. omega (arith, same, is, above)))
    ∙ both.1

both_all : (P Q : Client → Type 0) (xs : List Client) → All P xs → All Q xs → All (λ c. P c × Q c) xs
both_all P Q xs one other = λ k d below. (one k d below, other k d below)

all_alone : (from : ℕ) (xs : List Client) → AreCounted from (all_numbers xs) → All (Alone xs) xs
all_alone from [] are = All-nil (Alone [])
all_alone from (x ∷ xs) are =
    All-cons (Alone (x ∷ xs)) x xs (alone_first from x xs are.0 are.1)
    (All-weaker (λ (c : Client). (suc from ≤ c.number.0) × Alone xs c) (Alone (x ∷ xs)) (λ c both. alone_behind from x xs c are.0 both) xs
    (both_all (λ (c : Client). suc from ≤ c.number.0) (Alone xs) xs (counted_above (suc from) xs are.1) (all_alone (suc from) xs are.1)))

pub counted_seats : (tale : Tale) → AreCounted 1 (numbers tale) → All (IsSeated tale) tale.clients
counted_seats tale are = all_alone 1 tale.clients are

-- As an entry is told.

module _ (setup : Setup) (plan : Plan) where
  abbrev Counted : Tale → Type 0
  Counted tale = AreCounted 1 (numbers tale)

  counted_if : (b : Bool) (x y : Tale) → Counted x → Counted y → Counted (if b then x else y)
  counted_if true x y one other = one
  counted_if false x y one other = other

  -- the clients stay
  counted_same : (old new : Tale) → new.clients ≡ old.clients → Counted old → Counted new
  counted_same old new same are = subst (λ cs. AreCounted 1 (all_numbers cs)) (sym same) are

  counted_map : (f : Client → Client) → ((c : Client) → (f c).number ≡ c.number) → (tale : Tale) → Counted tale → Counted (record tale { clients = map f tale.clients })
  counted_map f same tale are = subst (AreCounted 1) (sym (numbers_map f same tale.clients)) are

  if_number : (b : Bool) (x y : Client) (n : ClientNo) → x.number ≡ n → y.number ≡ n → (if b then x else y).number ≡ n
  if_number true x y n one other = one
  if_number false x y n one other = other

  leaving_clients : (link : LinkId) (xs : List Client) (tale : Tale) → (fold (client_leaves link) tale xs).clients ≡ tale.clients
  leaving_clients link [] tale = refl
  leaving_clients link (x ∷ xs) tale = leaving_clients link xs (client_leaves link tale x) ∙ by (is_link_id x.link link)
    where
      by : (b : Bool) → (if b then tell (Left x.number) tale else tale).clients ≡ tale.clients
      by true = refl
      by false = refl

  lost_counted : (link : LinkId) (tale : Tale) → Counted tale → Counted (is_lost_or_left link tale)
  lost_counted link tale are =
      counted_if (is_to_server tale link) (tell (Gone link) tale) (fold (client_leaves link) tale tale.clients) are
      (counted_same tale (fold (client_leaves link) tale tale.clients) (leaving_clients link tale.clients tale) are)

  pub told_counted : (tale : Tale) (e : Entry) → Counted tale → Counted (told setup plan tale e)
  told_counted tale (entry.Accepted port link salt) are =
      counted_last 1 tale.clients (new_client (length tale.clients + 1) port link salt) are (omega arith)
  told_counted tale (entry.Got link bytes) are =
      counted_if (is_to_server tale link) (server_says setup plan link bytes tale) (record tale { clients = map (client_hears link bytes) tale.clients })
      (counted_same tale (server_says setup plan link bytes tale) (says-moved setup plan link bytes tale).clients are)
      (counted_map (client_hears link bytes) (λ c. if_number (is_link_id c.link link) (record c { read = c.read ++ bytes }) c c.number refl refl) tale are)
  told_counted tale (entry.Wrote link for bytes) are =
      counted_if (is_to_server tale link) (writes setup plan link for bytes (tale.wires link) tale) (record tale { clients = map (client_gets link (length bytes)) tale.clients })
      (counted_same tale (writes setup plan link for bytes (tale.wires link) tale) (writes-moved setup plan link for bytes tale).clients are)
      (counted_map (client_gets link (length bytes)) (λ c. if_number (is_link_id c.link link) (record c { written = c.written + length bytes }) c c.number refl refl) tale are)
  told_counted tale (entry.Exec link) are =
      counted_if (tale.wires link).entered (tell (if (tale.wires link).quits then Dropped link else Ran link) tale) tale are are
  told_counted tale (entry.Ended link) are = lost_counted link tale are
  told_counted tale (entry.ReadFailed link) are = lost_counted link tale are
  told_counted tale (entry.WriteFailed link) are = lost_counted link tale are
  told_counted tale (entry.Closed link) are = lost_counted link tale are
  told_counted tale _ are = are

  -- As the rest of its step goes on.

  next_counted : (client : Client) (tale : Tale) (found : Option Tale) → next_made setup plan client tale ≡ found → Counted tale
      → (others : Tale → Tale) → ((t : Tale) → Counted t → Counted (others t))
      → Counted (option_map_or (λ other. others (with_client (next_of client) other)) found tale)
  next_counted client tale None is are others goes = are
  next_counted client tale (Some other) is are others goes =
      goes (with_client (next_of client) other)
      (subst (AreCounted 1) (sym (numbers_new (next_of client) other.clients))
      (counted_same tale other (once_seats setup plan client (slice_get (messages plan client) client.taken) tale other is) are))

  taken_counted : (most : ℕ) (client : Client) (tale : Tale) → Counted tale → Counted (taken_up most setup plan client tale)
  taken_counted zero client tale are = are
  taken_counted (suc most) client tale are =
      next_counted client tale (next_made setup plan client tale) refl are (taken_up most setup plan (next_of client)) (taken_counted most (next_of client))

  going_counted : (view : View) (e : Entry) (xs : List Client) (tale : Tale) → Counted tale → Counted (gone_on setup plan view e xs tale)
  going_counted view e [] tale are = are
  going_counted view e (x ∷ xs) tale are =
      going_counted view e xs (client_goes_on setup plan view e tale x)
      (counted_if (is_called plan tale.moment view e x) (taken_up (length (messages plan x)) setup plan x tale) tale
      (taken_counted (length (messages plan x)) x tale are) are)

  ending_counted : (xs : List Client) (tale : Tale) → Counted tale → Counted (fold (ended_if_now plan) tale xs)
  ending_counted [] tale are = are
  ending_counted (x ∷ xs) tale are =
      ending_counted xs (ended_if_now plan tale x) (counted_if (is_now tale.moment (plan.ends x.number)) (tell (Left x.number) tale) tale are are)

  freed_counted : (tale : Tale) → Counted tale → Counted (links_are_freed setup plan tale)
  freed_counted tale are =
      counted_same tale (links_are_freed setup plan tale) (kept_in setup plan (λ (t : Tale). t.clients) (λ story t. refl) tale.links tale) are

  pub step_counted : (tale : Tale) (e : Entry) → Counted tale → Counted (tale_step setup plan tale e)
  step_counted tale e are =
      let heard = told_then setup plan tale e in
      let freed = links_are_freed setup plan heard in
      let gone = clients_go_on setup plan (view_of setup tale) e freed in
      freed_counted (clients_are_ended plan gone) (ending_counted gone.clients gone
      (going_counted (view_of setup tale) e freed.clients freed (freed_counted heard (told_counted tale e are))))

  pub log_counted : (log : Log) (tale : Tale) → Counted tale → Counted (fold (tale_step setup plan) tale log)
  log_counted [] tale are = are
  log_counted (e ∷ log) tale are = log_counted log (tale_step setup plan tale e) (step_counted tale e are)

  -- And no link is to be given back at the end of an entry.
  pub log_rests : (log : Log) (tale : Tale) → NoneDone setup plan tale → NoneDone setup plan (fold (tale_step setup plan) tale log)
  log_rests [] tale rest = rest
  log_rests (e ∷ log) tale rest = log_rests log (tale_step setup plan tale e) (step_rest tale e)
    where
      step_rest : (t : Tale) (f : Entry) → NoneDone setup plan (tale_step setup plan t f)
      step_rest t f = none_left setup plan (clients_are_ended plan (clients_go_on setup plan (view_of setup t) f (links_are_freed setup plan (told_then setup plan t f))))

  pub first_rests : NoneDone setup plan first_tale
  first_rests link there = isnt there
