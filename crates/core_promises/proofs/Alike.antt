-- What is read of clients hangs on no decision: by all plans a log has the same clients, who said the same.
use Rattle.std.specs.Prelude.{◌≡◌, ◌+◌, ℕ, suc, Bool, true, false, fold, length, map, if◌then◌else◌, List, [], ◌∷◌, ◌++◌}
use Rattle.std.specs.List.{list_any}
use Rattle.std.proofs.Common.{refl, sym, ap, ◌∙◌, subst, arith}
use Rattle.mx_base.specs.declared.names.LinkId.{LinkId}
use Rattle.mx_wire.specs.Log.{Log, opened_links}
use Rattle.mx_wire.specs.declared.entry.Entry.{Entry}
use Rattle.mx_wire.specs.declared.entry.Entry.TheVariants as entry
use Rattle.private_model.specs.Story.{is_link_id}
use Rattle.private_model.specs.View.{Setup}
use Rattle.log_story.specs.Headline.{tale_of}
use Rattle.log_story.specs.Plan.{Plan}
use Rattle.log_story.specs.Tale.{Client, Tale, client_gets, client_hears, first_tale, is_to_server, new_client}
use Rattle.log_story.specs.Telling.{tale_step, told}
use Rattle.tale_world.proofs.Links.{log_links}
use Rattle.shared_router.proofs.Numbered.{AreNumbered}
use Rattle.shared_router.proofs.Seated.{AreLike, IsLike, clients_by, numbered_step, step_like, told_clients}

like_back : (xs ys : List Client) → AreLike xs ys → AreLike ys xs
like_back [] [] like = tt
like_back [] (y ∷ ys) like = absurd like
like_back (x ∷ xs) [] like = absurd like
like_back (x ∷ xs) (y ∷ ys) like = (
  record { number = sym like.0.number; link = sym like.0.link; port = sym like.0.port; salt = sym like.0.salt; read = sym like.0.read },
  like_back xs ys like.1,
)

like_on : (xs ys zs : List Client) → AreLike xs ys → AreLike ys zs → AreLike xs zs
like_on [] [] [] one two = tt
like_on [] [] (z ∷ zs) one two = absurd two
like_on [] (y ∷ ys) zs one two = absurd one
like_on (x ∷ xs) [] zs one two = absurd one
like_on (x ∷ xs) (y ∷ ys) [] one two = absurd two
like_on (x ∷ xs) (y ∷ ys) (z ∷ zs) one two = (
  record {
    number = two.0.number ∙ one.0.number;
    link = two.0.link ∙ one.0.link;
    port = two.0.port ∙ one.0.port;
    salt = two.0.salt ∙ one.0.salt;
    read = two.0.read ∙ one.0.read;
  },
  like_on xs ys zs one.1 two.1,
)

like_length : (xs ys : List Client) → AreLike xs ys → length ys ≡ length xs
like_length [] [] like = refl
like_length [] (y ∷ ys) like = absurd like
like_length (x ∷ xs) [] like = absurd like
like_length (x ∷ xs) (y ∷ ys) like = let rest : length ys ≡ length xs = like_length xs ys like.1 in omega (arith, rest)

like_comes : (xs ys : List Client) (one two : Client) → IsLike one two → AreLike xs ys → AreLike (xs ++ one ∷ []) (ys ++ two ∷ [])
like_comes [] [] one two last like = (last, tt)
like_comes [] (y ∷ ys) one two last like = absurd like
like_comes (x ∷ xs) [] one two last like = absurd like
like_comes (x ∷ xs) (y ∷ ys) one two last like = (like.0, like_comes xs ys one two last like.1)

like_map : (f : Client → Client) → ((x y : Client) → IsLike x y → IsLike (f x) (f y)) → (xs ys : List Client) → AreLike xs ys → AreLike (map f xs) (map f ys)
like_map f keeps [] [] like = tt
like_map f keeps [] (y ∷ ys) like = absurd like
like_map f keeps (x ∷ xs) [] like = absurd like
like_map f keeps (x ∷ xs) (y ∷ ys) like = (keeps x y like.0, like_map f keeps xs ys like.1)

hears_like : (link : LinkId) (bytes : List ℕ) (x y : Client) → IsLike x y → IsLike (client_hears link bytes x) (client_hears link bytes y)
hears_like link bytes x y like =
    subst (λ l. IsLike (client_hears link bytes x) (if is_link_id l link then record y { read = y.read ++ bytes } else y)) (sym like.link) (by_test (is_link_id x.link link)) where
      by_test : (b : Bool) → IsLike (if b then record x { read = x.read ++ bytes } else x) (if b then record y { read = y.read ++ bytes } else y)
      by_test true = record { number = like.number; link = like.link; port = like.port; salt = like.salt; read = ap (λ r. r ++ bytes) like.read }
      by_test false = like

gets_like : (link : LinkId) (count : ℕ) (x y : Client) → IsLike x y → IsLike (client_gets link count x) (client_gets link count y)
gets_like link count x y like =
    subst (λ l. IsLike (client_gets link count x) (if is_link_id l link then record y { written = y.written + count } else y)) (sym like.link) (by_test (is_link_id x.link link)) where
      by_test : (b : Bool) → IsLike (if b then record x { written = x.written + count } else x) (if b then record y { written = y.written + count } else y)
      by_test true = record { number = like.number; link = like.link; port = like.port; salt = like.salt; read = like.read }
      by_test false = like

-- at one entry, and along a log

module _ (setup : Setup) (plan : Plan) where
  like_by : (bare tale : Tale) (e : Entry) → tale.links ≡ bare.links → AreLike bare.clients tale.clients
      → AreLike (clients_by setup plan bare e) (clients_by setup plan tale e)
  like_by bare tale (entry.Accepted port link salt) links like =
      like_comes bare.clients tale.clients (new_client (length bare.clients + 1) port link salt) (new_client (length tale.clients + 1) port link salt)
      (record { number = ap (λ n. record { 0 = n + 1 }) (like_length bare.clients tale.clients like); link = refl; port = refl; salt = refl; read = refl }) like
  like_by bare tale (entry.Got link bytes) links like =
      subst (λ ls. AreLike (clients_by setup plan bare (entry.Got link bytes)) (if list_any (is_link_id link) ls then tale.clients else map (client_hears link bytes) tale.clients)) (sym links)
      (by_test (is_to_server bare link)) where
        by_test : (b : Bool) → AreLike (if b then bare.clients else map (client_hears link bytes) bare.clients) (if b then tale.clients else map (client_hears link bytes) tale.clients)
        by_test true = like
        by_test false = like_map (client_hears link bytes) (hears_like link bytes) bare.clients tale.clients like
  like_by bare tale (entry.Wrote link tag bytes) links like =
      subst (λ ls. AreLike (clients_by setup plan bare (entry.Wrote link tag bytes)) (if list_any (is_link_id link) ls then tale.clients else map (client_gets link (length bytes)) tale.clients))
      (sym links) (by_test (is_to_server bare link)) where
        by_test : (b : Bool) → AreLike (if b then bare.clients else map (client_gets link (length bytes)) bare.clients) (if b then tale.clients else map (client_gets link (length bytes)) tale.clients)
        by_test true = like
        by_test false = like_map (client_gets link (length bytes)) (gets_like link (length bytes)) bare.clients tale.clients like
  like_by bare tale _ links like = like

module _ (one : Setup) (plan : Plan) (other : Setup) (by : Plan) where
  told_alike : (x y : Tale) (e : Entry) → y.links ≡ x.links → AreLike x.clients y.clients → AreLike (told one plan x e).clients (told other by y e).clients
  told_alike x y e links like =
      subst (λ (xs : List Client). AreLike xs (told other by y e).clients) (sym (told_clients one plan x e))
      (subst (AreLike (clients_by one plan x e)) (sym (told_clients other by y e)) (like_by one plan x y e links like))

  step_alike : (x y : Tale) (e : Entry) → AreNumbered 1 x.clients → AreNumbered 1 y.clients → y.links ≡ x.links → AreLike x.clients y.clients
      → AreLike (tale_step one plan x e).clients (tale_step other by y e).clients
  step_alike x y e first second links like =
      like_on (tale_step one plan x e).clients (told one plan x e).clients (tale_step other by y e).clients
      (like_back (told one plan x e).clients (tale_step one plan x e).clients (step_like one plan x e first))
      (like_on (told one plan x e).clients (told other by y e).clients (tale_step other by y e).clients (told_alike x y e links like)
      (step_like other by y e second))

  step_links : (x y : Tale) (e : Entry) → y.links ≡ x.links → (tale_step other by y e).links ≡ (tale_step one plan x e).links
  step_links x y e links =
      log_links other by (e ∷ []) y ∙ ap (λ (ls : List LinkId). ls ++ opened_links (e ∷ [])) links ∙ sym (log_links one plan (e ∷ []) x)

  alike_from : (x y : Tale) (log : Log) → AreNumbered 1 x.clients → AreNumbered 1 y.clients → y.links ≡ x.links → AreLike x.clients y.clients
      → AreLike (fold (tale_step one plan) x log).clients (fold (tale_step other by) y log).clients
  alike_from x y [] first second links like = like
  alike_from x y (e ∷ log) first second links like =
      alike_from (tale_step one plan x e) (tale_step other by y e) log (numbered_step one plan x e first) (numbered_step other by y e second)
      (step_links x y e links) (step_alike x y e first second links like)

  pub alike : (log : Log) → AreLike (tale_of one plan log).clients (tale_of other by log).clients
  alike log = alike_from first_tale first_tale log tt tt refl tt

numbered_from : (setup : Setup) (plan : Plan) (x : Tale) (log : Log) → AreNumbered 1 x.clients → AreNumbered 1 (fold (tale_step setup plan) x log).clients
numbered_from setup plan x [] are = are
numbered_from setup plan x (e ∷ log) are = numbered_from setup plan (tale_step setup plan x e) log (numbered_step setup plan x e are)

pub numbered_of : (setup : Setup) (plan : Plan) (log : Log) → AreNumbered 1 (tale_of setup plan log).clients
numbered_of setup plan log = numbered_from setup plan first_tale log tt
