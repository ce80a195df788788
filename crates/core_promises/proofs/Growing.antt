-- Clients stay, and what was read of them is the beginning of what is.
use Rattle.std.specs.Prelude.{◌≡◌, ◌+◌, ℕ, drop, fold, length, map, take, List, [], ◌∷◌, ◌++◌}
use Rattle.std.proofs.Common.{refl, sym, ap, ◌∙◌, subst, append_assoc, append-nil, take-append-drop}
use Rattle.std.proofs.lemmas.List.Sums.{fold-append}
use Rattle.mx_wire.specs.Log.{Log}
use Rattle.mx_wire.specs.declared.entry.Entry.{Entry}
use Rattle.mx_wire.specs.declared.entry.Entry.TheVariants as entry
use Rattle.private_model.specs.Story.{is_link_id}
use Rattle.private_model.specs.View.{Setup}
use Rattle.log_story.specs.Headline.{tale_of}
use Rattle.log_story.specs.Plan.{Plan}
use Rattle.log_story.specs.Tale.{Client, Tale, client_gets, client_hears, first_tale, is_to_server, new_client}
use Rattle.log_story.specs.Telling.{tale_step, told}
use Rattle.shared_router.proofs.Dues.{either}
use Rattle.shared_router.proofs.Growing.{AreGrown, IsGrown}
use Rattle.shared_router.proofs.Numbered.{AreNumbered}
use Rattle.shared_router.proofs.Seated.{AreLike, clients_by, numbered_step, step_like, told_clients}
use Rattle.core_promises.proofs.Alike.{numbered_of}

grown_itself : (xs : List Client) → AreGrown xs xs
grown_itself [] = tt
grown_itself (x ∷ xs) = (record { number = refl; port = refl; salt = refl; more = []; read = sym (append-nil x.read) }, grown_itself xs)

grown_on : (xs ys zs : List Client) → AreGrown xs ys → AreGrown ys zs → AreGrown xs zs
grown_on [] ys zs one two = tt
grown_on (x ∷ xs) [] zs one two = absurd one
grown_on (x ∷ xs) (y ∷ ys) [] one two = absurd two
grown_on (x ∷ xs) (y ∷ ys) (z ∷ zs) one two = (
  record {
    number = two.0.number ∙ one.0.number;
    port = two.0.port ∙ one.0.port;
    salt = two.0.salt ∙ one.0.salt;
    more = one.0.more ++ two.0.more;
    read = two.0.read ∙ ap (λ r. r ++ two.0.more) one.0.read ∙ append_assoc x.read one.0.more two.0.more;
  },
  grown_on xs ys zs one.1 two.1,
)

grown_like : (xs ys : List Client) → AreLike xs ys → AreGrown xs ys
grown_like [] ys like = tt
grown_like (x ∷ xs) [] like = absurd like
grown_like (x ∷ xs) (y ∷ ys) like =
    (record { number = like.0.number; port = like.0.port; salt = like.0.salt; more = []; read = like.0.read ∙ sym (append-nil x.read) }, grown_like xs ys like.1)

grown_comes : (xs : List Client) (one : Client) → AreGrown xs (xs ++ one ∷ [])
grown_comes [] one = tt
grown_comes (x ∷ xs) one = (record { number = refl; port = refl; salt = refl; more = []; read = sym (append-nil x.read) }, grown_comes xs one)

grown_map : (f : Client → Client) → ((c : Client) → IsGrown c (f c)) → (xs : List Client) → AreGrown xs (map f xs)
grown_map f each [] = tt
grown_map f each (x ∷ xs) = (each x, grown_map f each xs)

module _ (setup : Setup) (plan : Plan) where
  grown_by : (tale : Tale) (e : Entry) → AreGrown tale.clients (clients_by setup plan tale e)
  grown_by tale (entry.Accepted port link salt) = grown_comes tale.clients (new_client (length tale.clients + 1) port link salt)
  grown_by tale (entry.Got link bytes) =
      either (AreGrown tale.clients) (is_to_server tale link) tale.clients (map (client_hears link bytes) tale.clients) (grown_itself tale.clients)
      (grown_map (client_hears link bytes)
      (λ c. either (IsGrown c) (is_link_id c.link link) (record c { read = c.read ++ bytes }) c (record { number = refl; port = refl; salt = refl; more = bytes; read = refl })
      (record { number = refl; port = refl; salt = refl; more = []; read = sym (append-nil c.read) })) tale.clients)
  grown_by tale (entry.Wrote link tag bytes) =
      either (AreGrown tale.clients) (is_to_server tale link) tale.clients (map (client_gets link (length bytes)) tale.clients) (grown_itself tale.clients)
      (grown_map (client_gets link (length bytes))
      (λ c. either (IsGrown c) (is_link_id c.link link) (record c { written = c.written + length bytes }) c
      (record { number = refl; port = refl; salt = refl; more = []; read = sym (append-nil c.read) })
      (record { number = refl; port = refl; salt = refl; more = []; read = sym (append-nil c.read) })) tale.clients)
  grown_by tale _ = grown_itself tale.clients

  grown_step : (tale : Tale) (e : Entry) → AreNumbered 1 tale.clients → AreGrown tale.clients (tale_step setup plan tale e).clients
  grown_step tale e are =
      grown_on tale.clients (told setup plan tale e).clients (tale_step setup plan tale e).clients
      (subst (AreGrown tale.clients) (sym (told_clients setup plan tale e)) (grown_by tale e))
      (grown_like (told setup plan tale e).clients (tale_step setup plan tale e).clients (step_like setup plan tale e are))

  grown_from : (tale : Tale) (log : Log) → AreNumbered 1 tale.clients → AreGrown tale.clients (fold (tale_step setup plan) tale log).clients
  grown_from tale [] are = grown_itself tale.clients
  grown_from tale (e ∷ log) are =
      grown_on tale.clients (tale_step setup plan tale e).clients (fold (tale_step setup plan) (tale_step setup plan tale e) log).clients
      (grown_step tale e are) (grown_from (tale_step setup plan tale e) log (numbered_step setup plan tale e are))

  -- a moment's are there later
  pub grown_since : (n : ℕ) (log : Log) → AreGrown (tale_of setup plan (take n log)).clients (tale_of setup plan log).clients
  grown_since n log =
      let early : Tale = tale_of setup plan (take n log) in
      let whole : fold (tale_step setup plan) early (drop n log) ≡ tale_of setup plan log =
      sym (fold-append (tale_step setup plan) first_tale (take n log) (drop n log))
      ∙ ap (λ (l : Log). tale_of setup plan l) (take-append-drop n log) in
      subst (λ (t : Tale). AreGrown early.clients t.clients) whole (grown_from early (drop n log) (numbered_of setup plan (take n log)))
