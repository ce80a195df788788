-- A client as an entry tells of it is let in as the setup has it, where all are who they say behind the entry.
use Rattle.std.specs.Prelude.{◌≡◌, ◌⊎◌, ℕ, suc, Bool, All, List, [], ◌∷◌, Option, Some, None}
use Rattle.std.proofs.Common.{refl, sym, ap, ◌∙◌, subst}
use Rattle.std.proofs.lemmas.List.Elements.{All-nil, All-weaker}
use Rattle.std.proofs.lemmas.Option.{none-some}
use Rattle.mx_wire.specs.declared.entry.Entry.{Entry}
use Rattle.client_side.specs.Login.{Fails, Opening, Says, Waits}
use Rattle.client_session.specs.Answers as talks
use Rattle.client_session.specs.Answers.{Talk, opening_of}
use Rattle.client_seat.specs.Seats.{first_place}
use Rattle.server_side.specs.Account.{Account}
use Rattle.private_model.specs.View.{Setup}
use Rattle.log_story.specs.Owed.{talk_of}
use Rattle.log_story.specs.Plan.{Plan}
use Rattle.log_story.specs.Servers.{logged_in_as}
use Rattle.log_story.specs.Tale.{Client, Tale}
use Rattle.log_story.specs.Telling.{tale_step, told}
use Rattle.step_laws.proofs.Seating.{counted_seats, step_counted}
use Rattle.step_laws.specs.Seats.{AreCounted, IsSeated, numbers}
use Rattle.core_stands.specs.Grounds.{Ground}
use Rattle.core_laws.specs.arrival.Looks.{IsLetIn}
use Rattle.core_laws.proofs.OfEntry.Lists.{seated_of}
use Rattle.core_laws.specs.entry.Tells.{AreWhoTheySay, IsWhoItSays}
use Rattle.router_laws.proofs.OfClients.Continuing.{Grow, IsLater, Pairs, grown_now, step_later}

pairs_grow : (R : Client → Client → Type 0) (N : Client → Type 0) (xs ys : List Client) → Pairs R xs ys → Grow R N xs ys
pairs_grow R N [] [] pairs = All-nil N
pairs_grow R N [] (y ∷ ys) pairs = absurd pairs
pairs_grow R N (x ∷ xs) [] pairs = absurd pairs
pairs_grow R N (x ∷ xs) (y ∷ ys) pairs = (pairs.0, pairs_grow R N xs ys pairs.1)

module _ (setup : Setup) (plan : Plan) (tale : Tale) (e : Entry) (are : AreCounted 1 (numbers tale)) where
  abbrev heard : Tale
  heard = told setup plan tale e

  abbrev new : Tale
  new = tale_step setup plan tale e

  abbrev Later : Client → Type 0
  Later x = (z : Client) × IsSeated new z × IsLater setup plan (suc tale.moment) x z

  pub told_there : (x : Client) → IsSeated heard x → Later x
  told_there x seated =
      seated_of Later heard x seated
      (grown_now (IsLater setup plan (suc tale.moment)) (λ (z : Client). ⊥) (λ (z : Client). ⊥) (IsSeated new) heard.clients new.clients
      (pairs_grow (IsLater setup plan (suc tale.moment)) (λ (z : Client). ⊥) heard.clients new.clients (step_later setup plan tale e are))
      (counted_seats new (step_counted setup plan tale e are)))

-- by what is read of it

module _ (g : Ground) (default : List ℕ) (x z : Client) (number : z.number ≡ x.number) (port : z.port ≡ x.port) (salt : z.salt ≡ x.salt) (read : z.read ≡ x.read) where
  says_as : IsWhoItSays g.setup g.plan default z (opening_of (talk_of g.plan z)) → IsWhoItSays g.setup g.plan default x (opening_of (talk_of g.plan x))
  says_as is =
      let F : Client → Type 0 = λ y. IsWhoItSays g.setup g.plan default y (opening_of (talk_of g.plan y)) in
      let line : (record x { number = z.number; port = z.port; salt = z.salt; read = z.read }) ≡ x =
      λ i. record { number = number i; link = x.link; port = port i; salt = salt i; read = read i; written = x.written; taken = x.taken } in
      subst F line is

  account_by : (login : Account) (o : Opening) → opening_of (talk_of g.plan x) ≡ o → IsWhoItSays g.setup g.plan default x o
      → talks.account (talk_of g.plan x) ≡ Some login → g.setup.accounts x.number ≡ logged_in_as login
  account_by login (Says switched response id rest) at is known = (is login known).0
  account_by login (Waits switched) at is known = absurd (none-some login (sym (ap (talks.account_in (talk_of g.plan x)) at) ∙ known))
  account_by login (Fails switched fault id) at is known = absurd (none-some login (sym (ap (talks.account_in (talk_of g.plan x)) at) ∙ known))

  pub lets_in : IsWhoItSays g.setup g.plan default z (opening_of (talk_of g.plan z)) → IsLetIn g default x
  lets_in is = record {
    account = λ login known. account_by login (opening_of (talk_of g.plan x)) refl (says_as is) known;
    place = λ login switched response id rest known at.
        (subst (IsWhoItSays g.setup g.plan default x) at (says_as is) login known).1;
  }

-- behind the entry all are who they say
pub let_in_then : (g : Ground) (default : List ℕ) (e : Entry) (x : Client) → AreCounted 1 (numbers g.tale)
    → AreWhoTheySay g.setup g.plan default (tale_step g.setup g.plan g.tale e).clients → IsSeated (told g.setup g.plan g.tale e) x → IsLetIn g default x
let_in_then g default e x are who seated =
    let there = told_there g.setup g.plan g.tale e are x seated in
    lets_in g default x there.0 there.2.number there.2.port there.2.salt there.2.read
    (seated_of (λ (z : Client). IsWhoItSays g.setup g.plan default z (opening_of (talk_of g.plan z))) (tale_step g.setup g.plan g.tale e) there.0 there.1 who)
