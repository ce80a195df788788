-- A link carries a session exactly where the session has it for its home; and one that goes on, and that no link carries, has no Pin, and its
-- insert id is known.
use Rattle.std.specs.Prelude.{◌≡◌, ◌⊎◌, ◌≤◌, ℕ, suc, Bool, true, false, ◌||◌, if◌then◌else◌, List, Option, Some, None}
use Rattle.std.specs.Option.{option_map_or}
use Rattle.std.proofs.Common.{refl, sym, ap, ◌∙◌, subst, inl, inr, arith}
use Rattle.session_state.specs.Pins.{is_pinned}
use Rattle.session_state.specs.declared.pin.Pin.{Pin}
use Rattle.private_model.proofs.Maps.{link_of, name_of, same_link, same_name}
use Rattle.private_model.specs.Commands.{Reply, is_err}
use Rattle.private_model.specs.Lawful.{IsSettled, MayCome, MayFree, MayLend, MaySend}
use Rattle.private_model.specs.Names.{ClientNo, Hostgroup, LinkId, SessionName}
use Rattle.private_model.specs.Story.{BecameDue, Broke, Capture, Dropped, End, Freed, Gone, Happening, Heard, Left, LoggedIn, Mirrored, Own, Prep, Question, Ran, Sent, Statement, Sync, Unprepared}
use Rattle.private_model.specs.Story.{is_client, is_link_id, is_name, put}
use Rattle.private_model.specs.View.{Answered, Asked, Carried, Held, Joined, Lent, Link, Nobody, Quiet, Setup, Stage, View, asked, carried_for, first_view, freed, heard, held_by, held_for, held_freed, held_heard, lives_after, lives_left, new_link, ran_by, session_in, view_heard, view_step}
use Rattle.log_story.proofs.Frames.{asker}
use Rattle.log_story.proofs.Walking.{IsOfHere, MayBeTold}

abbrev pub Lives : Type 0
Lives = ClientNo → Hostgroup → ℕ

-- by these lives it wasn't left
abbrev pub IsKept : Lives → SessionName → Type 0
IsKept lives n = lives n.client n.hostgroup ≤ n.life

abbrev pub IsBy : Lives → SessionName → Type 0
IsBy lives n = n.life ≤ lives n.client n.hostgroup

-- what stands on a link is of the session that it carries
abbrev pub StandsBy : Stage → Carried → Type 0
StandsBy Quiet carried = Unit {0}
StandsBy (Asked (Statement n due)) carried = session_in carried ≡ Some n
StandsBy (Asked (Prep n key text)) carried = session_in carried ≡ Some n
StandsBy (Asked (Sync n command)) carried = carried ≡ Joined n
StandsBy (Asked (Own command)) carried = Unit {0}
StandsBy (Asked (End n)) carried = carried ≡ Joined n
StandsBy (Asked (Capture n)) carried = carried ≡ Joined n
StandsBy (Answered (Statement n due)) carried = carried ≡ Joined n
StandsBy (Answered (Prep n key text)) carried = session_in carried ≡ Some n
StandsBy (Answered (Sync n command)) carried = carried ≡ Joined n
StandsBy (Answered (Own command)) carried = Unit {0}
StandsBy (Answered (End n)) carried = carried ≡ Joined n
StandsBy (Answered (Capture n)) carried = carried ≡ Joined n

pub record AreTied (lives : Lives) (holds : SessionName → Held) (at : LinkId → Link) : Type 0 where
  pub home : (n : SessionName) (l : LinkId) → (holds n).home ≡ Some l → session_in (at l).carries ≡ Some n
  pub carried : (l : LinkId) (n : SessionName) → session_in (at l).carries ≡ Some n → (holds n).home ≡ Some l
  pub stands : (l : LinkId) → StandsBy (at l).stage (at l).carries
  pub born : (l : LinkId) (n : SessionName) → session_in (at l).carries ≡ Some n → IsBy lives n
  pub rests : (n : SessionName) → IsKept lives n → (holds n).home ≡ None → IsSettled (holds n)
  pub lent : (l : LinkId) (n : SessionName) → IsKept lives n → (at l).carries ≡ Lent n → IsSettled (holds n)
  pub usable : (l : LinkId) (n : SessionName) → IsKept lives n → session_in (at l).carries ≡ Some n → (at l).usable ≡ true

abbrev pub Tied : View → Type 0
Tied view = AreTied view.lives view.held view.links

isnt : {A : Type 0} → false ≡ true → A
isnt is = absurd (cc)

no_some : {A B : Type 0} (a : A) → None ≡ Some a → B
no_some a is = absurd (cc)

some_of : {A : Type 0} (a b : A) → Some a ≡ Some b → a ≡ b
some_of a b is = cc

joined_session : (c : Carried) (n : SessionName) → c ≡ Joined n → session_in c ≡ Some n
joined_session c n is = ap session_in is

lent_session : (c : Carried) (n : SessionName) → c ≡ Lent n → session_in c ≡ Some n
lent_session c n is = ap session_in is

joined_lent : {A : Type 0} (c : Carried) (n m : SessionName) → c ≡ Joined n → c ≡ Lent m → A
joined_lent c n m joined is = absurd (let same : Joined n ≡ Lent m = sym joined ∙ is in cc)

-- a link or another
put_link : (P : LinkId → Link → Type 0) (at : LinkId → Link) (link : LinkId) (value : Link) → P link value → ((l : LinkId) → is_link_id l link ≡ false → P l (at l))
    → (l : LinkId) → P l (put is_link_id at link value l)
put_link P at link value now each l = by_test (is_link_id l link) refl where
  by_test : (b : Bool) → is_link_id l link ≡ b → P l (if b then value else at l)
  by_test true same = subst (λ k. P k value) (sym (link_of l link same)) now
  by_test false other = each l other

put_name : {A : Type 0} (P : SessionName → A → Type 0) (f : SessionName → A) (k : SessionName) (value : A) → P k value → ((n : SessionName) → is_name n k ≡ false → P n (f n))
    → (n : SessionName) → P n (put is_name f k value n)
put_name P f k value now each n = by_test (is_name n k) refl where
  by_test : (b : Bool) → is_name n k ≡ b → P n (if b then value else f n)
  by_test true same = subst (λ m. P m value) (sym (name_of n k same)) now
  by_test false other = each n other

module _ (lives : Lives) (holds : SessionName → Held) (at : LinkId → Link) (tied : AreTied lives holds at) where
  -- one link carries a session
  one_link : (n : SessionName) (l k : LinkId) → session_in (at l).carries ≡ Some n → session_in (at k).carries ≡ Some n → l ≡ k
  one_link n l k one other = some_of l k (sym (tied.carried l n one) ∙ tied.carried k n other)

  -- a link that goes on carrying whom it carried
  same_session : (link : LinkId) (value : Link) → session_in value.carries ≡ session_in (at link).carries → StandsBy value.stage value.carries
      → ((n : SessionName) → value.carries ≡ Lent n → (at link).carries ≡ Lent n) → ((at link).usable ≡ true → value.usable ≡ true)
      → AreTied lives holds (put is_link_id at link value)
  same_session link value same stands fewer stay = record {
    home = λ n l is. put_link (λ l x. (holds n).home ≡ Some l → session_in x.carries ≡ Some n) at link value (λ is. same ∙ tied.home n link is) (λ l other is. tied.home n l is) l is;
    carried = put_link (λ l x. (n : SessionName) → session_in x.carries ≡ Some n → (holds n).home ≡ Some l) at link value
        (λ n is. tied.carried link n (sym same ∙ is)) (λ l other n is. tied.carried l n is);
    stands = put_link (λ l x. StandsBy x.stage x.carries) at link value stands (λ l other. tied.stands l);
    born = put_link (λ l x. (n : SessionName) → session_in x.carries ≡ Some n → IsBy lives n) at link value
        (λ n is. tied.born link n (sym same ∙ is)) (λ l other n is. tied.born l n is);
    rests = tied.rests;
    lent = put_link (λ l x. (n : SessionName) → IsKept lives n → x.carries ≡ Lent n → IsSettled (holds n)) at link value
        (λ n kept is. tied.lent link n kept (fewer n is)) (λ l other n kept is. tied.lent l n kept is);
    usable = put_link (λ l x. (n : SessionName) → IsKept lives n → session_in x.carries ≡ Some n → x.usable ≡ true) at link value
        (λ n kept is. stay (tied.usable link n kept (sym same ∙ is))) (λ l other n kept is. tied.usable l n kept is);
  }

  -- what is held of a session changes, but for its home
  same_home : (k : SessionName) (value : Held) → value.home ≡ (holds k).home
      → (IsKept lives k → (holds k).home ≡ None → IsSettled (holds k) → IsSettled value)
      → ((l : LinkId) → (at l).carries ≡ Lent k → IsSettled (holds k) → IsSettled value) → AreTied lives (put is_name holds k value) at
  same_home k value same rests lent = record {
    home = put_name (λ n h. (l : LinkId) → h.home ≡ Some l → session_in (at l).carries ≡ Some n) holds k value
        (λ l is. tied.home k l (sym same ∙ is)) (λ n other l is. tied.home n l is);
    carried = λ l n is. put_name (λ n h. session_in (at l).carries ≡ Some n → h.home ≡ Some l) holds k value (λ is. same ∙ tied.carried l k is) (λ n other is. tied.carried l n is) n is;
    stands = tied.stands;
    born = tied.born;
    rests = put_name (λ n h. IsKept lives n → h.home ≡ None → IsSettled h) holds k value
        (λ kept none. let was : (holds k).home ≡ None = sym same ∙ none in rests kept was (tied.rests k kept was)) (λ n other kept none. tied.rests n kept none);
    lent = λ l n kept is. put_name (λ n h. IsKept lives n → (at l).carries ≡ Lent n → IsSettled h) holds k value
        (λ kept is. lent l is (tied.lent l k kept is)) (λ n other kept is. tied.lent l n kept is) n kept is;
    usable = tied.usable;
  }

  -- a session is lent a link, or goes on there
  goes_there : (k : SessionName) (link : LinkId) (value : Link)
      → (((at link).carries ≡ Nobody) × ((holds k).home ≡ None)) ⊎ (session_in (at link).carries ≡ Some k) → session_in value.carries ≡ Some k
      → StandsBy value.stage value.carries → IsBy lives k → (IsKept lives k → value.carries ≡ Lent k → IsSettled (holds k)) → value.usable ≡ true
      → AreTied lives (put is_name holds k (record (holds k) { home = Some link })) (put is_link_id at link value)
  goes_there k link value how carries stands born settled works = record {
    home = put_name (λ n h. (l : LinkId) → h.home ≡ Some l → session_in (put is_link_id at link value l).carries ≡ Some n) holds k (record (holds k) { home = Some link })
        (λ l is. put_link (λ l x. Some link ≡ Some l → session_in x.carries ≡ Some k) at link value (λ same. carries)
        (λ l other same. isnt (sym other ∙ ap (λ x. is_link_id x link) (sym (some_of link l same)) ∙ same_link link)) l is)
        (λ n other l is. put_link (λ l x. (holds n).home ≡ Some l → session_in x.carries ≡ Some n) at link value (λ is. others n other is) (λ l apart is. tied.home n l is) l is);
    carried = put_link (λ l x. (n : SessionName) → session_in x.carries ≡ Some n → (put is_name holds k (record (holds k) { home = Some link }) n).home ≡ Some l) at link value
        (λ n is. put_name (λ n h. session_in value.carries ≡ Some n → h.home ≡ Some link) holds k (record (holds k) { home = Some link }) (λ same. refl)
        (λ n other same. absurd (apart n other (sym same ∙ carries))) n is)
        (λ l apart_l n is. put_name (λ n h. session_in (at l).carries ≡ Some n → h.home ≡ Some l) holds k (record (holds k) { home = Some link })
        (λ same. elsewhere l apart_l same) (λ n other same. tied.carried l n same) n is);
    stands = put_link (λ l x. StandsBy x.stage x.carries) at link value stands (λ l other. tied.stands l);
    born = put_link (λ l x. (n : SessionName) → session_in x.carries ≡ Some n → IsBy lives n) at link value
        (λ n is. subst (IsBy lives) (some_of k n (sym carries ∙ is)) born) (λ l other n is. tied.born l n is);
    rests = put_name (λ n h. IsKept lives n → h.home ≡ None → IsSettled h) holds k (record (holds k) { home = Some link })
        (λ kept none. no_some link (sym none)) (λ n other kept none. tied.rests n kept none);
    lent = put_link (λ l x. (n : SessionName) → IsKept lives n → x.carries ≡ Lent n → IsSettled (put is_name holds k (record (holds k) { home = Some link }) n)) at link value
        (λ n kept is. put_name (λ n h. IsKept lives n → value.carries ≡ Lent n → IsSettled h) holds k (record (holds k) { home = Some link })
        (λ kept is. homed (settled kept is)) (λ n other kept is. absurd (apart n other (sym (lent_session value.carries n is) ∙ carries))) n kept is)
        (λ l other n kept is. put_name (λ n h. IsKept lives n → (at l).carries ≡ Lent n → IsSettled h) holds k (record (holds k) { home = Some link })
        (λ kept is. homed (tied.lent l k kept is)) (λ n other kept is. tied.lent l n kept is) n kept is);
    usable = put_link (λ l x. (n : SessionName) → IsKept lives n → session_in x.carries ≡ Some n → x.usable ≡ true) at link value (λ n kept is. works)
        (λ l other n kept is. tied.usable l n kept is);
  } where
    homed : IsSettled (holds k) → IsSettled (record (holds k) { home = Some link })
    homed is = record { unpinned = is.unpinned; known = is.known; is_known = is.is_known }

    apart : (n : SessionName) → is_name n k ≡ false → Some n ≡ Some k → ⊥
    apart n other same = isnt (sym other ∙ ap (λ x. is_name x k) (some_of n k same) ∙ same_name k)

    -- no other session has it for its home
    others : (n : SessionName) → is_name n k ≡ false → (holds n).home ≡ Some link → session_in value.carries ≡ Some n
    others n other is = elim how [
      | inl vacant ↦ no_some n (sym (ap session_in vacant.0) ∙ tied.home n link is)
      | inr there ↦ absurd (apart n other (sym (tied.home n link is) ∙ there))
    ]

    elsewhere : (l : LinkId) → is_link_id l link ≡ false → session_in (at l).carries ≡ Some k → Some link ≡ Some l
    elsewhere l other is = elim how [
      | inl vacant ↦ no_some l (sym vacant.1 ∙ tied.carried l k is)
      | inr there ↦ isnt (sym other ∙ ap (λ x. is_link_id x link) (one_link k l link is there) ∙ same_link link)
    ]

  -- it is given back
  given_back : (k : SessionName) (link : LinkId) (value : Link) → session_in (at link).carries ≡ Some k → session_in value.carries ≡ None → StandsBy value.stage value.carries
      → (IsKept lives k → IsSettled (holds k)) → AreTied lives (put is_name holds k (record (holds k) { home = None })) (put is_link_id at link value)
  given_back k link value there none stands settled = record {
    home = put_name (λ n h. (l : LinkId) → h.home ≡ Some l → session_in (put is_link_id at link value l).carries ≡ Some n) holds k (record (holds k) { home = None })
        (λ l is. no_some l is)
        (λ n other l is. put_link (λ l x. (holds n).home ≡ Some l → session_in x.carries ≡ Some n) at link value
        (λ is. isnt (sym other ∙ ap (λ x. is_name x k) (some_of n k (sym (tied.home n link is) ∙ there)) ∙ same_name k)) (λ l apart is. tied.home n l is) l is);
    carried = put_link (λ l x. (n : SessionName) → session_in x.carries ≡ Some n → (put is_name holds k (record (holds k) { home = None }) n).home ≡ Some l) at link value
        (λ n is. no_some n (sym none ∙ is))
        (λ l apart n is. put_name (λ n h. session_in (at l).carries ≡ Some n → h.home ≡ Some l) holds k (record (holds k) { home = None })
        (λ same. isnt (sym apart ∙ ap (λ x. is_link_id x link) (one_link k l link same there) ∙ same_link link)) (λ n other same. tied.carried l n same) n is);
    stands = put_link (λ l x. StandsBy x.stage x.carries) at link value stands (λ l other. tied.stands l);
    born = put_link (λ l x. (n : SessionName) → session_in x.carries ≡ Some n → IsBy lives n) at link value (λ n is. no_some n (sym none ∙ is)) (λ l other n is. tied.born l n is);
    rests = put_name (λ n h. IsKept lives n → h.home ≡ None → IsSettled h) holds k (record (holds k) { home = None })
        (λ kept none. homeless (settled kept)) (λ n other kept none. tied.rests n kept none);
    lent = put_link (λ l x. (n : SessionName) → IsKept lives n → x.carries ≡ Lent n → IsSettled (put is_name holds k (record (holds k) { home = None }) n)) at link value
        (λ n kept is. no_some n (sym none ∙ lent_session value.carries n is))
        (λ l other n kept is. put_name (λ n h. IsKept lives n → (at l).carries ≡ Lent n → IsSettled h) holds k (record (holds k) { home = None })
        (λ kept is. homeless (settled kept)) (λ n other kept is. tied.lent l n kept is) n kept is);
    usable = put_link (λ l x. (n : SessionName) → IsKept lives n → session_in x.carries ≡ Some n → x.usable ≡ true) at link value (λ n kept is. no_some n (sym none ∙ is))
        (λ l other n kept is. tied.usable l n kept is);
  } where
    homeless : IsSettled (holds k) → IsSettled (record (holds k) { home = None })
    homeless is = record { unpinned = is.unpinned; known = is.known; is_known = is.is_known }

-- lives grow
grown : (old new : Lives) (holds : SessionName → Held) (at : LinkId → Link) → ((c : ClientNo) (h : Hostgroup) → old c h ≤ new c h) → AreTied old holds at → AreTied new holds at
grown old new holds at grows tied = record {
  home = tied.home;
  carried = tied.carried;
  stands = tied.stands;
  born = λ l n is. (let was : IsBy old n = tied.born l n is in let more : old n.client n.hostgroup ≤ new n.client n.hostgroup = grows n.client n.hostgroup in omega arith);
  rests = λ n kept none. tied.rests n (less n kept) none;
  lent = λ l n kept is. tied.lent l n (less n kept) is;
  usable = λ l n kept is. tied.usable l n (less n kept) is;
} where
  less : (n : SessionName) → IsKept new n → IsKept old n
  less n kept = (let more : old n.client n.hostgroup ≤ new n.client n.hostgroup = grows n.client n.hostgroup in omega arith)

module _ (setup : Setup) where
  of_here : (view : View) (link : LinkId) (n : SessionName) → IsOfHere view link (Some n) → Tied view → IsBy view.lives n
  of_here view link n (inl born) tied = born
  of_here view link n (inr there) tied = tied.born link n there

  -- A question goes out.

  abbrev After : View → LinkId → Question → Type 0
  After view link question = AreTied view.lives (held_for question link view.held) (put is_link_id view.links link (asked question (view.links link)))

  stays_there : (view : View) (link : LinkId) (question : Question) → session_in (carried_for question (view.links link).carries) ≡ session_in (view.links link).carries
      → StandsBy (Asked question) (carried_for question (view.links link).carries)
      → ((n : SessionName) → carried_for question (view.links link).carries ≡ Lent n → (view.links link).carries ≡ Lent n) → Tied view
      → AreTied view.lives view.held (put is_link_id view.links link (asked question (view.links link)))
  stays_there view link question same stands fewer tied = same_session view.lives view.held view.links tied link (asked question (view.links link)) same stands fewer (λ is. is)

  lends_it : (view : View) (link : LinkId) (n : SessionName) (question : Question) (lends : MayLend n (view.links link) (view.held n)) → Tied view
      → ((((view.links link).carries ≡ Nobody) × ((view.held n).home ≡ None)) ⊎ (session_in (view.links link).carries ≡ Some n))
  lends_it view link n question (inl vacant) tied = inl (vacant.free, vacant.homeless)
  lends_it view link n question (inr lent) tied = inr (lent_session (view.links link).carries n lent)

  -- whom the link carries then
  carries_by : (question : Question) (n : SessionName) (link : Link) (held : Held) → carried_for question Nobody ≡ Lent n → carried_for question (Lent n) ≡ Lent n → MayLend n link held
      → session_in (carried_for question link.carries) ≡ Some n
  carries_by question n link held first second (inl vacant) = ap (λ c. session_in (carried_for question c)) vacant.free ∙ ap session_in first
  carries_by question n link held first second (inr lent) = ap (λ c. session_in (carried_for question c)) lent ∙ ap session_in second

  was_settled : (view : View) (link : LinkId) (n : SessionName) → MayLend n (view.links link) (view.held n) → Tied view → IsKept view.lives n → IsSettled (view.held n)
  was_settled view link n (inl vacant) tied kept = tied.rests n kept vacant.homeless
  was_settled view link n (inr lent) tied kept = tied.lent link n kept lent

  sent_tied : (view : View) (link : LinkId) (question : Question) → IsOfHere view link (asker question) → MaySend setup view (view.links link) question → Tied view → After view link question
  sent_tied view link (Statement n due) here may tied = elim may.fits.how [
    | inl begins ↦
        let carries = carries_by (Statement n due) n (view.links link) (view.held n) refl refl begins.lends in
        goes_there view.lives view.held view.links tied n link (asked (Statement n due) (view.links link)) (lends_it view link n (Statement n due) begins.lends tied) carries carries
        (of_here view link n here tied)
        (λ kept is. record { unpinned = begins.begins.unpinned; known = begins.begins.known; is_known = begins.begins.no_capture }) may.usable
    | inr goes ↦
        let carries : carried_for (Statement n due) (view.links link).carries ≡ Joined n = ap (carried_for (Statement n due)) goes.carries in
        let there : session_in (carried_for (Statement n due) (view.links link).carries) ≡ Some n = ap session_in carries in
        goes_there view.lives view.held view.links tied n link (asked (Statement n due) (view.links link)) (inr (joined_session (view.links link).carries n goes.carries)) there there
        (of_here view link n here tied)
        (λ kept is. joined_lent (carried_for (Statement n due) (view.links link).carries) n n carries is) may.usable
  ]
  sent_tied view link (Prep n key text) here may tied = elim may.fits [
    | inl first ↦
        let carries = carries_by (Prep n key text) n (view.links link) (view.held n) refl refl first.lends in
        goes_there view.lives view.held view.links tied n link (asked (Prep n key text) (view.links link)) (lends_it view link n (Prep n key text) first.lends tied) carries carries
        (of_here view link n here tied) (λ kept is. was_settled view link n first.lends tied kept) may.usable
    | inr goes ↦
        let carries : carried_for (Prep n key text) (view.links link).carries ≡ Joined n = ap (carried_for (Prep n key text)) goes.carries in
        let there : session_in (carried_for (Prep n key text) (view.links link).carries) ≡ Some n = ap session_in carries in
        goes_there view.lives view.held view.links tied n link (asked (Prep n key text) (view.links link)) (inr (joined_session (view.links link).carries n goes.carries)) there there
        (of_here view link n here tied)
        (λ kept is. joined_lent (carried_for (Prep n key text) (view.links link).carries) n n carries is) may.usable
  ]
  sent_tied view link (Sync n command) here may tied = stays_there view link (Sync n command) refl may.fits.carries (λ m is. is) tied
  sent_tied view link (Own command) here may tied = stays_there view link (Own command) refl tt (λ m is. is) tied
  sent_tied view link (End n) here may tied = stays_there view link (End n) refl may.fits.carries (λ m is. is) tied
  sent_tied view link (Capture n) here may tied = stays_there view link (Capture n) refl may.fits.carries (λ m is. is) tied

  -- It runs, and is answered.

  ran_tied : (view : View) (link : LinkId) (stage : Stage) → (view.links link).stage ≡ stage → Tied view
      → AreTied view.lives view.held (put is_link_id view.links link (ran_by setup.reads stage (view.links link)))
  ran_tied view link Quiet at tied = same_session view.lives view.held view.links tied link (view.links link) refl (tied.stands link) (λ n is. is) (λ is. is)
  ran_tied view link (Answered question) at tied = same_session view.lives view.held view.links tied link (view.links link) refl (tied.stands link) (λ n is. is) (λ is. is)
  ran_tied view link (Asked question) at tied = by_question question (subst (λ s. StandsBy s (view.links link).carries) at (tied.stands link)) where
    by_question : (q : Question) → StandsBy (Asked q) (view.links link).carries
        → AreTied view.lives view.held (put is_link_id view.links link (ran_by setup.reads (Asked q) (view.links link)))
    by_question (Statement n due) stands =
        same_session view.lives view.held view.links tied link (ran_by setup.reads (Asked (Statement n due)) (view.links link)) (sym stands) refl
        (λ m is. absurd (let same : Joined n ≡ Lent m = is in cc)) (λ is. is)
    by_question (Prep n key text) stands = same_session view.lives view.held view.links tied link _ refl stands (λ m is. is) (λ is. is)
    by_question (Sync n command) stands = same_session view.lives view.held view.links tied link _ refl stands (λ m is. is) (λ is. is)
    by_question (Own command) stands = same_session view.lives view.held view.links tied link _ refl stands (λ m is. is) (λ is. is)
    by_question (End n) stands = same_session view.lives view.held view.links tied link _ refl stands (λ m is. is) (λ is. is)
    by_question (Capture n) stands = same_session view.lives view.held view.links tied link _ refl stands (λ m is. is) (λ is. is)

  -- of a session that is joined there
  joined_heard : (view : View) (link : LinkId) (k : SessionName) (value : Held) → value.home ≡ (view.held k).home → (view.links link).carries ≡ Joined k → Tied view
      → AreTied view.lives (put is_name view.held k value) view.links
  joined_heard view link k value same joined tied =
      same_home view.lives view.held view.links tied k value same
      (λ kept none settled. no_some link (sym none ∙ tied.carried link k (joined_session (view.links link).carries k joined)))
      (λ l is settled. joined_lent (view.links link).carries k k joined
      (subst (λ (x : LinkId). (view.links x).carries ≡ Lent k)
      (one_link view.lives view.held view.links tied k l link (lent_session (view.links l).carries k is) (joined_session (view.links link).carries k joined)) is))

  prepared_pin : (pin : Pin) (failed : Bool) → is_pinned pin ≡ false → is_pinned (if is_pinned pin then record pin { after_err = pin.after_err || failed } else pin) ≡ false
  prepared_pin pin failed unpinned = ap (λ b. is_pinned (if b then record pin { after_err = pin.after_err || failed } else pin)) unpinned ∙ unpinned

  prepared_settled : (n : SessionName) (key : ℕ) (text : List ℕ) (reply : Reply) (held : Held) → IsSettled held → IsSettled (held_heard setup.reads (Prep n key text) reply held)
  prepared_settled n key text reply held is = record { unpinned = prepared_pin held.pin (is_err reply) is.unpinned; known = is.known; is_known = is.is_known }

  held_tied : (view : View) (link : LinkId) (reply : Reply) (question : Question) → StandsBy (Answered question) (view.links link).carries → Tied view
      → AreTied view.lives (held_by setup.reads question reply view.held) view.links
  held_tied view link reply (Statement n due) stands tied = joined_heard view link n _ refl stands tied
  held_tied view link reply (Prep n key text) stands tied =
      same_home view.lives view.held view.links tied n _ refl (λ kept none settled. prepared_settled n key text reply (view.held n) settled)
      (λ l is settled. prepared_settled n key text reply (view.held n) settled)
  held_tied view link reply (Sync n command) stands tied = joined_heard view link n _ refl stands tied
  held_tied view link reply (Own command) stands tied = tied
  held_tied view link reply (End n) stands tied = joined_heard view link n _ refl stands tied
  held_tied view link reply (Capture n) stands tied = joined_heard view link n _ refl stands tied

  heard_tied : (view : View) (link : LinkId) (reply : Reply) (stage : Stage) → (view.links link).stage ≡ stage → Tied view → Tied (view_heard setup view link reply stage)
  heard_tied view link reply Quiet at tied = tied
  heard_tied view link reply (Asked question) at tied = tied
  heard_tied view link reply (Answered question) at tied =
      let held : AreTied view.lives (held_by setup.reads question reply view.held) view.links =
      held_tied view link reply question (subst (λ s. StandsBy s (view.links link).carries) at (tied.stands link)) tied in
      same_session view.lives (held_by setup.reads question reply view.held) view.links held link (heard setup.reads question reply (view.links link)) refl tt (λ n is. is) (λ is. is)

  -- It is given back.

  freed_tied : (view : View) (link : LinkId) → MayFree view (view.links link) → Tied view
      → AreTied view.lives (held_freed (view.links link).carries view.held) (put is_link_id view.links link (freed (view.links link)))
  freed_tied view link may tied =
      subst (λ (o : Option SessionName). AreTied view.lives (option_map_or (λ n. put is_name view.held n (record (view.held n) { home = None })) o view.held) (put is_link_id view.links link (freed (view.links link))))
      (sym there)
      (given_back view.lives view.held view.links tied may.who link (freed (view.links link)) there refl (subst (λ s. StandsBy s Nobody) (sym may.quiet) tt) settled)
    where
      there : session_in (view.links link).carries ≡ Some may.who
      there = elim may.carries [
        | inl joined ↦ joined_session (view.links link).carries may.who joined
        | inr lent ↦ lent_session (view.links link).carries may.who lent
      ]

      settled : IsKept view.lives may.who → IsSettled (view.held may.who)
      settled kept = elim may.settled [
        | inl is ↦ is
        | inr left ↦
            let born : IsBy view.lives may.who = tied.born link may.who there in
            let life : may.who.life ≡ view.lives may.who.client may.who.hostgroup = omega (arith, kept, born) in
            absurd (left (ap (λ n. record { client = may.who.client; hostgroup = may.who.hostgroup; life = n }) life))
      ]

  -- It is lost, or closed.

  up_if : (b : Bool) (x : ℕ) → x ≤ (if b then suc x else x)
  up_if true x = omega arith
  up_if false x = omega arith

  abbrev lives_then : Option SessionName → Lives → Lives
  lives_then session lives = option_map_or (λ n. lives_after n lives) session lives

  lives_grow : (lives : Lives) (session : Option SessionName) (c : ClientNo) (h : Hostgroup) → lives c h ≤ lives_then session lives c h
  lives_grow lives None c h = omega arith
  lives_grow lives (Some n) c h = up_if (is_name (record { client = c; hostgroup = h; life = lives c h }) n) (lives c h)

  -- whom it carries is left then
  none_kept : (lives : Lives) (n : SessionName) → IsBy lives n → IsKept (lives_then (Some n) lives) n → ⊥
  none_kept lives n born kept = by_test (is_name (record { client = n.client; hostgroup = n.hostgroup; life = lives n.client n.hostgroup }) n) refl kept where
    by_test : (b : Bool) → is_name (record { client = n.client; hostgroup = n.hostgroup; life = lives n.client n.hostgroup }) n ≡ b
        → (if b then suc (lives n.client n.hostgroup) else lives n.client n.hostgroup) ≤ n.life → ⊥
    by_test true is less = omega (arith, born, less)
    by_test false is less =
        let life : n.life ≡ lives n.client n.hostgroup = omega (arith, born, less) in
        isnt (sym is ∙ ap (λ k. is_name (record { client = n.client; hostgroup = n.hostgroup; life = k }) n) (sym life) ∙ same_name n)

  gone_tied : (view : View) (link : LinkId) → Tied view
      → AreTied (lives_then (session_in (view.links link).carries) view.lives) view.held (put is_link_id view.links link (record (view.links link) { usable = false }))
  gone_tied view link tied =
      let new : Lives = lives_then (session_in (view.links link).carries) view.lives in
      let more = grown view.lives new view.held view.links (lives_grow view.lives (session_in (view.links link).carries)) tied in
      let value : Link = record (view.links link) { usable = false } in
      record {
        home = λ n l is. put_link (λ l x. (view.held n).home ≡ Some l → session_in x.carries ≡ Some n) view.links link value (λ is. tied.home n link is) (λ l other is. tied.home n l is) l is;
        carried = put_link (λ l x. (n : SessionName) → session_in x.carries ≡ Some n → (view.held n).home ≡ Some l) view.links link value
            (λ n is. tied.carried link n is) (λ l other n is. tied.carried l n is);
        stands = put_link (λ l x. StandsBy x.stage x.carries) view.links link value (tied.stands link) (λ l other. tied.stands l);
        born = put_link (λ l x. (n : SessionName) → session_in x.carries ≡ Some n → IsBy new n) view.links link value (λ n is. more.born link n is) (λ l other n is. more.born l n is);
        rests = more.rests;
        lent = put_link (λ l x. (n : SessionName) → IsKept new n → x.carries ≡ Lent n → IsSettled (view.held n)) view.links link value
            (λ n kept is. more.lent link n kept is) (λ l other n kept is. more.lent l n kept is);
        usable = put_link (λ l x. (n : SessionName) → IsKept new n → session_in x.carries ≡ Some n → x.usable ≡ true) view.links link value
            (λ n kept is. absurd (none_kept view.lives n (tied.born link n is) (subst (λ o. IsKept (lives_then o view.lives) n) is kept)))
            (λ l other n kept is. more.usable l n kept is);
      }

  -- Along a story.

  pub step_tied : (view : View) (e : Happening) → MayBeTold view e → MayCome setup view e → Tied view → Tied (view_step setup view e)
  step_tied view (LoggedIn link server account) told may tied =
      same_session view.lives view.held view.links tied link (new_link server account) (sym (ap (λ (x : Link). session_in x.carries) may)) tt
      (λ n is. absurd (let same : Nobody ≡ Lent n = is in cc)) (λ is. refl)
  step_tied view (BecameDue client hostgroup ordinal key command multiplex) told may tied = tied
  step_tied view (Sent link question) told may tied = sent_tied view link question told may tied
  step_tied view (Ran link) told may tied = ran_tied view link (view.links link).stage refl tied
  step_tied view (Heard link reply) told may tied = heard_tied view link reply (view.links link).stage refl tied
  step_tied view (Freed link) told may tied = freed_tied view link may tied
  step_tied view (Unprepared link number) told may tied = same_session view.lives view.held view.links tied link _ refl (tied.stands link) (λ n is. is) (λ is. is)
  step_tied view (Dropped link) told may tied = tied
  step_tied view (Gone link) told may tied = gone_tied view link tied
  step_tied view (Left client) told may tied =
      grown view.lives (lives_left client view.lives) view.held view.links (λ c h. up_if (is_client c client) (view.lives c h)) tied
  step_tied view (Mirrored client job) told may tied = tied
  step_tied view Broke told may tied = tied

  pub first_tied : Tied (first_view setup)
  first_tied = record {
    home = λ n l is. no_some l is;
    carried = λ l n is. no_some n is;
    stands = λ l. tt;
    born = λ l n is. no_some n is;
    rests = λ n kept none. record { unpinned = refl; known = 0; is_known = refl };
    lent = λ l n kept is. absurd (let same : Nobody ≡ Lent n = is in cc);
    usable = λ l n kept is. no_some n is;
  }
