-- What is due in a client's sessions, whatever happens.
use Rattle.std.specs.Prelude.{◌≡◌, ◌⊎◌, ◌<◌, ◌≤◌, ℕ, suc, Bool, true, false, if◌then◌else◌, Option, Some, None}
use Rattle.std.proofs.Common.{refl, sym, ap, ◌∙◌, arith, subst, inl, inr}
use Rattle.std.proofs.lemmas.Bool.{true≢false}
use Rattle.std.proofs.lemmas.Option.{none-some, same_Some}
use Rattle.mx_base.specs.declared.names.LinkId.{LinkId}
use Rattle.private_model.specs.Names.{ClientNo, MessageName, SessionName}
use Rattle.private_model.specs.Story.{Due, is_client, is_message, is_name, message_of, put}
use Rattle.private_model.proofs.Maps.{message_is, name_of as name_is}
use Rattle.desk_laws.specs.Stands.{AreDueEarlier, IsDueEarlier}
use Rattle.desk_laws.proofs.Names.{same_client, same_name}

none_of : (a b : SessionName) → is_name a b ≡ false → a ≡ b → ⊥
none_of a b apart same = true≢false (sym (same_name b) ∙ ap (λ (n : SessionName). is_name n b) (sym same) ∙ apart)

if_none : (b : Bool) (there : Option Due) (due : Due) → (if b then None else there) ≡ Some due → (b ≡ false) × (there ≡ Some due)
if_none true there due is = absurd (none-some due is)
if_none false there due is = (refl, is)

if_some : (b : Bool) (new : Due) (there : Option Due) (due : Due) → (if b then Some new else there) ≡ Some due
    → ((b ≡ true) × (new ≡ due)) ⊎ ((b ≡ false) × (there ≡ Some due))
if_some true new there due is = inl (refl, same_Some new due is)
if_some false new there due is = inr (refl, is)

module _ (dues : SessionName → Option Due) (carriers : MessageName → Option LinkId) (c : ClientNo) (from : ℕ) (are : AreDueEarlier dues carriers c from) where
  pub due_before : (later : ℕ) → from ≤ later → AreDueEarlier dues carriers c later
  due_before later below n due its there =
      let was : IsDueEarlier dues carriers from n due = are n due its there in
      let earlier : due.ordinal < from = was.earlier in
      record { some = was.some; earlier = omega arith; unsent = was.unsent; alone = was.alone }

  -- A statement is sent.

  module _ (m : SessionName) (sent : Due) (link : LinkId) (spares : (is_client c m.client ≡ false) ⊎ (dues m ≡ Some sent)) where
    abbrev Other : SessionName → Due → Type 0
    Other n due = IsDueEarlier dues carriers from n due

    clash : (n : SessionName) (due : Due) → n.client ≡ c → Other n due → is_name n m ≡ false → message_of n due ≡ message_of m sent → ⊥
    clash n due its was apart same = by spares where
      client : n.client ≡ m.client
      client = ap (λ (x : MessageName). x.client) same

      by : (is_client c m.client ≡ false) ⊎ (dues m ≡ Some sent) → ⊥
      by (inl other) = true≢false (sym (same_client c) ∙ ap (is_client c) (sym its ∙ client) ∙ other)
      by (inr there) = none_of n m apart (sym (was.alone m sent (sym client) there (ap (λ (x : MessageName). x.ordinal) (sym same))))

    unsent_still : (n : SessionName) (due : Due) → n.client ≡ c → Other n due → is_name n m ≡ false
        → put is_message carriers (message_of m sent) (Some link) (message_of n due) ≡ None
    unsent_still n due its was apart = by (is_message (message_of n due) (message_of m sent)) refl where
      by : (b : Bool) → is_message (message_of n due) (message_of m sent) ≡ b → (if b then Some link else carriers (message_of n due)) ≡ None
      by true same = absurd (clash n due its was apart (message_is (message_of n due) (message_of m sent) same))
      by false other = was.unsent

    pub due_sent : AreDueEarlier (put is_name dues m None) (put is_message carriers (message_of m sent) (Some link)) c from
    due_sent n due its there =
        let at = if_none (is_name n m) (dues n) due there in
        let was : Other n due = are n due its at.1 in
        record {
          some = was.some;
          earlier = was.earlier;
          unsent = unsent_still n due its was at.0;
          alone = λ other also client is same. was.alone other also client (if_none (is_name other m) (dues other) also is).1 same;
        }

  -- A message becomes due: another client's, or the next.

  module _ (m : SessionName) (new : Due) where
    abbrev put_due : SessionName → Option Due
    put_due = put is_name dues m (Some new)

    module _ (apart : is_client c m.client ≡ false) where
      not_there : (n : SessionName) → n.client ≡ c → is_name n m ≡ true → ⊥
      not_there n its same =
          true≢false (sym (same_client c) ∙ ap (is_client c) (sym its ∙ ap (λ (x : SessionName). x.client) (name_is n m same)) ∙ apart)

      before : (n : SessionName) (due : Due) → n.client ≡ c → put_due n ≡ Some due → dues n ≡ Some due
      before n due its there = by (if_some (is_name n m) new (dues n) due there) where
        by : ((is_name n m ≡ true) × (new ≡ due)) ⊎ ((is_name n m ≡ false) × (dues n ≡ Some due)) → dues n ≡ Some due
        by (inl here) = absurd (not_there n its here.0)
        by (inr other) = other.1

      pub due_of_other : AreDueEarlier put_due carriers c from
      due_of_other n due its there =
          let was : IsDueEarlier dues carriers from n due = are n due its (before n due its there) in
          record {
            some = was.some;
            earlier = was.earlier;
            unsent = was.unsent;
            alone = λ other also client is same. was.alone other also client (before other also (client ∙ its) is) same;
          }

    module _ (some : 0 < new.ordinal) (next : from ≤ new.ordinal) (fresh : carriers (message_of m new) ≡ None) where
      abbrev Now : SessionName → Due → Type 0
      Now n due = IsDueEarlier put_due carriers (suc new.ordinal) n due

      -- what was due is of an earlier message
      not_next : (n : SessionName) (due : Due) → n.client ≡ c → dues n ≡ Some due → due.ordinal ≡ new.ordinal → ⊥
      not_next n due its there same =
          let earlier : due.ordinal < from = (are n due its there).earlier in
          absurd (omega (arith, earlier, same, next))

      here_alone : (n other : SessionName) (also : Due) → n.client ≡ c → other.client ≡ n.client → put_due other ≡ Some also → also.ordinal ≡ new.ordinal
          → other ≡ m
      here_alone n other also its client is same = by (if_some (is_name other m) new (dues other) also is) where
        by : ((is_name other m ≡ true) × (new ≡ also)) ⊎ ((is_name other m ≡ false) × (dues other ≡ Some also)) → other ≡ m
        by (inl here) = name_is other m here.0
        by (inr was) = absurd (not_next other also (client ∙ its) was.1 same)

      other_alone : (n other : SessionName) (due also : Due) → n.client ≡ c → dues n ≡ Some due → other.client ≡ n.client → put_due other ≡ Some also
          → also.ordinal ≡ due.ordinal → other ≡ n
      other_alone n other due also its there client is same = by (if_some (is_name other m) new (dues other) also is) where
        by : ((is_name other m ≡ true) × (new ≡ also)) ⊎ ((is_name other m ≡ false) × (dues other ≡ Some also)) → other ≡ n
        by (inl here) = absurd (not_next n due its there (sym same ∙ ap (λ (x : Due). x.ordinal) (sym here.1)))
        by (inr was) = (are n due its there).alone other also client was.1 same

      pub due_next : AreDueEarlier put_due carriers c (suc new.ordinal)
      due_next n due its there = by (if_some (is_name n m) new (dues n) due there) where
        by : ((is_name n m ≡ true) × (new ≡ due)) ⊎ ((is_name n m ≡ false) × (dues n ≡ Some due)) → Now n due
        by (inl here) =
            let name : n ≡ m = name_is n m here.0 in
            record {
              some = subst (λ (x : Due). 0 < x.ordinal) here.1 some;
              earlier = subst (λ (x : Due). x.ordinal < suc new.ordinal) here.1 (omega arith);
              unsent = (λ i. carriers (message_of (name i) (sym here.1 i))) ∙ fresh;
              alone = λ other also client is same.
                  here_alone n other also its client is (same ∙ ap (λ (x : Due). x.ordinal) (sym here.1)) ∙ sym name;
            }
        by (inr other) =
            let was : IsDueEarlier dues carriers from n due = are n due its other.1 in
            let earlier : due.ordinal < from = was.earlier in
            record {
              some = was.some;
              earlier = omega (arith, earlier, next);
              unsent = was.unsent;
              alone = λ session also client is same. other_alone n session due also its other.1 client is same;
            }
