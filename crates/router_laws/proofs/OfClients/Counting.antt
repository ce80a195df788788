-- How many messages one client takes up.
use Rattle.std.specs.Prelude.{◌≡◌, ◌+◌, ℕ, Bool, true, false, filter, List, [], ◌∷◌}
use Rattle.std.proofs.Common.{refl, sym, ap, ◌∙◌, subst, arith}
use Rattle.std.proofs.lemmas.Bool.{false≢true, true≢false}
use Rattle.private_model.proofs.Maps.{client_of}
use Rattle.private_model.specs.Names.{ClientNo}
use Rattle.private_model.specs.Story.{is_client}
use Rattle.log_story.specs.Tale.{Client, Tale}
use Rattle.step_laws.specs.Seats.{IsSeated, is_its, seats}
use Rattle.core_laws.proofs.OfArrival.Finding.{client-same, client-true}
use Rattle.core_laws.specs.entry.Entries.{KeepsSeats}
use Rattle.router_laws.specs.clients.Counted.{TakesOne}

pub one_seated : (x was : Client) (xs : List Client) → x ∷ [] ≡ xs → xs ≡ was ∷ [] → x ≡ was
one_seated x was xs first second = let both : x ∷ [] ≡ was ∷ [] = first ∙ second in cc

-- both have the one number
pub same_named : (c a b : ClientNo) → is_client c a ≡ true → is_client c b ≡ true → a ≡ b
same_named c a b one other = sym (client-true c a one) ∙ client-true c b other

pub takes_none : (c : ClientNo) (old new : Tale) → new.clients ≡ old.clients → TakesOne c 0 old new
takes_none c old new same = record {
  its = λ was now seated seated_now its its_now.
      ap (λ (x : Client). x.taken)
      (one_seated now was (seats new now.number) (sym seated_now)
      (seats_same now.number ∙ ap (seats old) (same_named c now.number was.number its_now its) ∙ seated))
      ∙ more was.taken;
  others = λ n other. seats_same n;
} where
  seats_same : (n : ClientNo) → seats new n ≡ seats old n
  seats_same n = ap (λ (xs : List Client). filter (λ (x : Client). is_client x.number n) xs) same

  more : (n : ℕ) → n ≡ n + 0
  more n = omega arith

-- one that is called as it stands once the entry is told
pub takes_called : (c : ClientNo) (count : ℕ) (old new : Tale) (it called : Client) → it.number ≡ c → IsSeated old it → called.number ≡ it.number
    → called.taken ≡ it.taken → KeepsSeats (is_its called) old new
    → ((x : Client) → IsSeated new x → is_its called x.number ≡ true → x.taken ≡ called.taken + count) → TakesOne c count old new
takes_called c count old new it called number seated same_number same_taken keeps counts = record {
  its = λ was now there there_now its its_now.
      counts now there_now (client-same now.number called.number (sym (client-true c now.number its_now) ∙ its_number))
      ∙ ap (λ (k : ℕ). k + count) (same_taken ∙ ap (λ (x : Client). x.taken) (is_it was there its));
  others = λ n other. keeps n (apart n other);
} where
  its_number : c ≡ called.number
  its_number = sym (same_number ∙ number)

  is_it : (was : Client) → IsSeated old was → is_client c was.number ≡ true → it ≡ was
  is_it was there its = one_seated it was (seats old it.number) (sym seated) (ap (seats old) (number ∙ client-true c was.number its) ∙ there)

  apart : (n : ClientNo) → is_client c n ≡ false → is_its called n ≡ false
  apart n other = by (is_its called n) refl where
    by : (b : Bool) → is_its called n ≡ b → is_its called n ≡ false
    by false is = is
    by true is = absurd (true≢false (sym (client-same c n (its_number ∙ sym (client_of n called.number is))) ∙ other))
