-- What is taken up at an entry is of clients that are there and haven't ended; and the last that is taken up of a client is its last message.
use Rattle.std.specs.Prelude.{◌≡◌, ◌⊎◌, ℕ, zero, suc, Bool, true, false, not, ◌&&◌, ◌||◌, fold, length, map, slice_get, if◌then◌else◌, List, [], ◌∷◌, ◌++◌, Option, Some, None}
use Rattle.std.specs.List.{list_any}
use Rattle.std.specs.Option.{option_map_or}
use Rattle.std.proofs.Common.{refl, sym, ap, ◌∙◌, subst, inl, inr}
use Rattle.mx_wire.specs.declared.entry.Entry.{Entry}
use Rattle.packet_frame.specs.Packets.{Framed}
use Rattle.private_model.proofs.Maps.{client_of}
use Rattle.private_model.specs.Names.{ClientNo, MessageName}
use Rattle.private_model.specs.Story.{is_client}
use Rattle.private_model.specs.View.{Setup, View}
use Rattle.log_story.specs.Clients.{client_goes_on, is_event_of, next_taken, taken_up}
use Rattle.log_story.specs.Owed.{messages, name_of}
use Rattle.log_story.specs.Plan.{Plan, gives_up, is_before}
use Rattle.log_story.specs.Tale.{Client, Tale, with_client}
use Rattle.tale_world.proofs.Looking.{next_moment}
use Rattle.router_promises.specs.Takings.{Taking, message_in, taking_then, takings_by, takings_from, takings_of}
use Rattle.shared_router.proofs.Looked.{Each, taken-clients}

isnt : {A : Type 0} → false ≡ true → A
isnt is = absurd (cc)

each-on : {A : Type 0} (Q : A → Type 0) (a b : List A) → Each Q a → Each Q b → Each Q (a ++ b)
each-on Q [] b first second = second
each-on Q (x ∷ a) b first second = (first.0, each-on Q a b first.1 second)

each-parts : {A : Type 0} (Q : A → Type 0) (a b : List A) → Each Q (a ++ b) → Each Q a × Each Q b
each-parts Q [] b each = (tt, each)
each-parts Q (x ∷ a) b each = let later = each-parts Q a b each.1 in ((each.0, later.0), later.1)

any-parts : {A : Type 0} (test : A → Bool) (a b : List A) → list_any test (a ++ b) ≡ true → (list_any test a ≡ true) ⊎ (list_any test b ≡ true)
any-parts test [] b any = inr any
any-parts test (x ∷ a) b any = by_test (test x) refl (any-parts test a b) any where
  by_test : (t : Bool) → test x ≡ t → (list_any test (a ++ b) ≡ true → (list_any test a ≡ true) ⊎ (list_any test b ≡ true))
      → (t || list_any test (a ++ b)) ≡ true → ((test x || list_any test a) ≡ true) ⊎ (list_any test b ≡ true)
  by_test true is later any = inl (ap (λ t. t || list_any test a) is)
  by_test false is later any = elim (later any) [
    | inl first ↦ inl (ap (λ t. t || list_any test a) is ∙ first)
    | inr second ↦ inr second
  ]

module _ (setup : Setup) (plan : Plan) where
  abbrev found_of : Client → Option Framed
  found_of client = slice_get (messages plan client) client.taken

  abbrev onward : Client → Client
  onward client = record client { taken = suc client.taken }

  abbrev later_of : (most : ℕ) → Client → Tale → List Taking
  later_of most client other = takings_of most setup plan (onward client) (with_client (onward client) other)

  -- Who they are, and when.

  pub record IsOf (P : ClientNo → Type 0) (moment : ℕ) (taking : Taking) : Type 0 where
    pub now : taking.tale.moment ≡ moment
    pub alive : is_before moment (plan.ends taking.client.number) ≡ false
    pub one : P taking.client.number

  up-moment : (most : ℕ) (client : Client) (tale : Tale) → (taken_up most setup plan client tale).moment ≡ tale.moment
  up-moment zero client tale = refl
  up-moment (suc most) client tale = by_next (next_taken setup plan client (found_of client) tale) refl (up-moment most (onward client)) where
    by_next : (next : Option Tale) → next_taken setup plan client (found_of client) tale ≡ next
        → ((other : Tale) → (taken_up most setup plan (onward client) other).moment ≡ other.moment)
        → (option_map_or (λ other. taken_up most setup plan (onward client) (with_client (onward client) other)) next tale).moment ≡ tale.moment
    by_next None is others = refl
    by_next (Some other) is others = others (with_client (onward client) other) ∙ next_moment setup plan client (found_of client) tale other is

  goes-moment : (view : View) (e : Entry) (client : Client) (tale : Tale) → (client_goes_on setup plan view e tale client).moment ≡ tale.moment
  goes-moment view e client tale =
      by_test ((is_event_of view client e || gives_up plan tale.moment (name_of client client.taken)) && not (is_before tale.moment (plan.ends client.number)))
    where
      by_test : (b : Bool) → (if b then taken_up (length (messages plan client)) setup plan client tale else tale).moment ≡ tale.moment
      by_test true = up-moment (length (messages plan client)) client tale
      by_test false = refl

  module _ (P : ClientNo → Type 0) (moment : ℕ) where
    abbrev AreOf : List Taking → Type 0
    AreOf takings = Each (IsOf P moment) takings

    of-client : (most : ℕ) (client : Client) (tale : Tale) → tale.moment ≡ moment → is_before moment (plan.ends client.number) ≡ false → P client.number
        → AreOf (takings_of most setup plan client tale)
    of-client zero client tale at alive one = tt
    of-client (suc most) client tale at alive one = by_next (found_of client) (next_taken setup plan client (found_of client) tale) refl (of-client most (onward client)) where
      by_next : (found : Option Framed) (next : Option Tale) → next_taken setup plan client found tale ≡ next
          → ((other : Tale) → other.moment ≡ moment → is_before moment (plan.ends client.number) ≡ false → P client.number → AreOf (takings_of most setup plan (onward client) other))
          → AreOf (taking_then client tale found next (later_of most client))
      by_next None next is others = tt
      by_next (Some message) None is others = tt
      by_next (Some message) (Some other) is others = (
        record { now = at; alive = alive; one = one },
        others (with_client (onward client) other) (next_moment setup plan client (Some message) tale other is ∙ at) alive one,
      )

    module _ (view : View) (e : Entry) where
      of-one : (client : Client) (tale : Tale) → tale.moment ≡ moment → P client.number → AreOf (takings_by setup plan view e tale client)
      of-one client tale at one =
          by_test (is_event_of view client e || gives_up plan tale.moment (name_of client client.taken)) (is_before tale.moment (plan.ends client.number)) refl
        where
          by_test : (called ended : Bool) → is_before tale.moment (plan.ends client.number) ≡ ended
              → AreOf (if called && not ended then takings_of (length (messages plan client)) setup plan client tale else [])
          by_test true false is =
              of-client (length (messages plan client)) client tale at (ap (λ m. is_before m (plan.ends client.number)) (sym at) ∙ is) one
          by_test true true is = tt
          by_test false ended is = tt

      pub of-clients : (xs : List Client) (tale : Tale) → tale.moment ≡ moment → Each (λ (x : Client). P x.number) xs → AreOf (takings_from setup plan view e xs tale)
      of-clients [] tale at each = tt
      of-clients (x ∷ xs) tale at each =
          each-on (IsOf P moment) (takings_by setup plan view e tale x) (takings_from setup plan view e xs (client_goes_on setup plan view e tale x))
          (of-one x tale at each.0) (of-clients xs (client_goes_on setup plan view e tale x) (goes-moment view e x tale ∙ at) each.1)

  -- The last message of one.

  module _ (c : ClientNo) (R : MessageName → Type 0) where
    abbrev pub is_his : Taking → Bool
    is_his taking = is_client taking.client.number c

    -- what is taken up of it
    abbrev pub Taken : Taking → Type 0
    Taken taking = is_his taking ≡ true → R (message_in taking)

    -- its last message, of which there is one
    abbrev pub IsLast : Client → Type 0
    IsLast client = is_client client.number c ≡ true → (i : ℕ) × ((client.taken ≡ suc i) × R (name_of client (suc i)))

    abbrev put : Client → List Client → List Client
    put client xs = map (λ (other : Client). if is_client other.number client.number then client else other) xs

    put-last : (client : Client) → IsLast client → (xs : List Client) → Each IsLast xs → Each IsLast (put client xs)
    put-last client last [] each = tt
    put-last client last (x ∷ xs) each = (by_test (is_client x.number client.number), put-last client last xs each.1) where
      by_test : (b : Bool) → IsLast (if b then client else x)
      by_test true = last
      by_test false = each.0

    put-his : (client : Client) → IsLast client → is_client client.number c ≡ true → (xs : List Client) → Each IsLast (put client xs)
    put-his client last his [] = tt
    put-his client last his (x ∷ xs) = (by_test (is_client x.number client.number) refl, put-his client last his xs) where
      by_test : (b : Bool) → is_client x.number client.number ≡ b → IsLast (if b then client else x)
      by_test true is = last
      by_test false is = λ same. isnt (sym is ∙ ap (is_client x.number) (client_of client.number c his) ∙ same)

    abbrev HasLast : Tale → List Taking → Type 0
    HasLast tale takings = Each IsLast tale.clients ⊎ (list_any is_his takings ≡ true)

    up-last : (most : ℕ) (client : Client) (tale : Tale) → Each Taken (takings_of most setup plan client tale) → HasLast tale (takings_of most setup plan client tale)
        → Each IsLast (taken_up most setup plan client tale).clients
    up-last zero client tale taken (inl last) = last
    up-last zero client tale taken (inr any) = isnt any
    up-last (suc most) client tale taken has =
        by_next (found_of client) (next_taken setup plan client (found_of client) tale) refl (up-last most (onward client)) taken has
      where
        by_next : (found : Option Framed) (next : Option Tale) → next_taken setup plan client found tale ≡ next
            → ((other : Tale) → Each Taken (takings_of most setup plan (onward client) other) → HasLast other (takings_of most setup plan (onward client) other)
            → Each IsLast (taken_up most setup plan (onward client) other).clients)
            → Each Taken (taking_then client tale found next (later_of most client)) → HasLast tale (taking_then client tale found next (later_of most client))
            → Each IsLast (option_map_or (λ other. taken_up most setup plan (onward client) (with_client (onward client) other)) next tale).clients
        by_next None None is others taken (inl last) = last
        by_next None None is others taken (inr any) = isnt any
        by_next None (Some other) is others taken has = absurd (cc)
        by_next (Some message) None is others taken (inl last) = last
        by_next (Some message) None is others taken (inr any) = isnt any
        by_next (Some message) (Some other) is others taken has =
            others (with_client (onward client) other) taken.1 (elim has [ inl last ↦ inl (put-last (onward client) now other.clients (kept last)) | inr any ↦ by_his (is_client client.number c) refl any ])
          where
            now : IsLast (onward client)
            now = λ his. (client.taken, (refl, taken.0 his))

            kept : Each IsLast tale.clients → Each IsLast other.clients
            kept last = subst (Each IsLast) (sym (taken-clients setup plan client (Some message) tale other is).0) last

            by_his : (b : Bool) → is_client client.number c ≡ b → (b || list_any is_his (later_of most client other)) ≡ true
                → HasLast (with_client (onward client) other) (later_of most client other)
            by_his true his any = inl (put-his (onward client) now his other.clients)
            by_his false his any = inr any

    module _ (view : View) (e : Entry) where
      goes-last : (client : Client) (tale : Tale) → Each Taken (takings_by setup plan view e tale client) → HasLast tale (takings_by setup plan view e tale client)
          → Each IsLast (client_goes_on setup plan view e tale client).clients
      goes-last client tale =
          by_test ((is_event_of view client e || gives_up plan tale.moment (name_of client client.taken)) && not (is_before tale.moment (plan.ends client.number)))
        where
          by_test : (b : Bool) → Each Taken (if b then takings_of (length (messages plan client)) setup plan client tale else [])
              → HasLast tale (if b then takings_of (length (messages plan client)) setup plan client tale else [])
              → Each IsLast (if b then taken_up (length (messages plan client)) setup plan client tale else tale).clients
          by_test true taken has = up-last (length (messages plan client)) client tale taken has
          by_test false taken (inl last) = last
          by_test false taken (inr any) = isnt any

      pub last-taken : (xs : List Client) (tale : Tale) → Each Taken (takings_from setup plan view e xs tale) → HasLast tale (takings_from setup plan view e xs tale)
          → Each IsLast (fold (client_goes_on setup plan view e) tale xs).clients
      last-taken [] tale taken (inl last) = last
      last-taken [] tale taken (inr any) = isnt any
      last-taken (x ∷ xs) tale taken has =
          let here : List Taking = takings_by setup plan view e tale x in
          let next : Tale = client_goes_on setup plan view e tale x in
          let later : List Taking = takings_from setup plan view e xs next in
          let parts = each-parts Taken here later taken in
          last-taken xs next parts.1 (elim has [
            | inl last ↦ inl (goes-last x tale parts.0 (inl last))
            | inr any ↦ elim (any-parts is_his here later any) [ inl first ↦ inl (goes-last x tale parts.0 (inr first)) | inr second ↦ inr second ]
          ])

  -- Clients keep their numbers, and the moment stays.

  abbrev numbers : List Client → List ClientNo
  numbers xs = map (λ (x : Client). x.number) xs

  put-numbers : (client : Client) (xs : List Client) → numbers (map (λ (other : Client). if is_client other.number client.number then client else other) xs) ≡ numbers xs
  put-numbers client [] = refl
  put-numbers client (x ∷ xs) =
      ap (λ n. n ∷ numbers (map (λ (other : Client). if is_client other.number client.number then client else other) xs)) (by_test (is_client x.number client.number) refl)
      ∙ ap (λ ns. x.number ∷ ns) (put-numbers client xs)
    where
      by_test : (b : Bool) → is_client x.number client.number ≡ b → (if b then client else x).number ≡ x.number
      by_test true is = sym (client_of x.number client.number is)
      by_test false is = refl

  up-numbers : (most : ℕ) (client : Client) (tale : Tale) → numbers (taken_up most setup plan client tale).clients ≡ numbers tale.clients
  up-numbers zero client tale = refl
  up-numbers (suc most) client tale = by_next (next_taken setup plan client (found_of client) tale) refl (up-numbers most (onward client)) where
    by_next : (next : Option Tale) → next_taken setup plan client (found_of client) tale ≡ next
        → ((other : Tale) → numbers (taken_up most setup plan (onward client) other).clients ≡ numbers other.clients)
        → numbers (option_map_or (λ other. taken_up most setup plan (onward client) (with_client (onward client) other)) next tale).clients ≡ numbers tale.clients
    by_next None is others = refl
    by_next (Some other) is others =
        others (with_client (onward client) other) ∙ put-numbers (onward client) other.clients
        ∙ ap numbers (taken-clients setup plan client (found_of client) tale other is).0

  pub record Stays (old new : Tale) : Type 0 where
    pub moment : new.moment ≡ old.moment
    pub numbers : map (λ (x : Client). x.number) new.clients ≡ map (λ (x : Client). x.number) old.clients

  pub going-stays : (view : View) (e : Entry) (xs : List Client) (tale : Tale) → Stays tale (fold (client_goes_on setup plan view e) tale xs)
  going-stays view e [] tale = record { moment = refl; numbers = refl }
  going-stays view e (x ∷ xs) tale =
      let next : Tale = client_goes_on setup plan view e tale x in
      let later : Stays next (fold (client_goes_on setup plan view e) next xs) = going-stays view e xs next in
      record {
        moment = later.moment ∙ goes-moment view e x tale;
        numbers = later.numbers ∙ by_test ((is_event_of view x e || gives_up plan tale.moment (name_of x x.taken)) && not (is_before tale.moment (plan.ends x.number)));
      }
    where
      by_test : (b : Bool) → numbers (if b then taken_up (length (messages plan x)) setup plan x tale else tale).clients ≡ numbers tale.clients
      by_test true = up-numbers (length (messages plan x)) x tale
      by_test false = refl
