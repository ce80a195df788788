-- In a lawful story each session that a link carries has that link as its home, and no other; and what stands on a link is of the session that
-- it carries.
use Rattle.std.specs.Prelude.{◌≡◌, ◌⊎◌, Bool, true, false, if◌then◌else◌, Some, None, [], ◌∷◌}
use Rattle.std.proofs.Common.{refl, sym, ap, ◌∙◌, inl, inr}
use Rattle.private_model.proofs.Maps.{link_of, name_of, same_link, same_name}
use Rattle.private_model.specs.Commands.{Reply}
use Rattle.private_model.specs.Lawful.{Fits, IsLawful, MayCome, MayLend}
use Rattle.private_model.specs.Names.{LinkId, SessionName}
use Rattle.private_model.specs.Story.{BecameDue, Broke, Capture, Dropped, End, Freed, Gone, Happening, Heard, Left, LoggedIn, Mirrored, Own, Prep, Question, Ran, Sent, Statement, Story, Sync, Unprepared}
use Rattle.private_model.specs.Story.{is_link_id, is_name, put}
use Rattle.private_model.specs.View.{Answered, Asked, Carried, Held, Joined, Lent, Link, Nobody, Quiet, Setup, Stage, View, asked, carried_for, closed_number, freed, heard, held_by, held_for, held_freed}
use Rattle.private_model.specs.View.{held_heard, new_link, ran_by, session_in, view_after, view_heard, view_step}
use Rattle.server_rule.specs.Classes.{Reads}
use Rattle.desk_laws.specs.Spares.{asked_for}
use Rattle.core_laws.specs.parting.Frames.{AreHomed, asker_at}

no_some : {A B : Type 0} (a : A) → None ≡ Some a → B
no_some a is = absurd (cc)

some_of : {A : Type 0} (a b : A) → Some a ≡ Some b → a ≡ b
some_of a b is = cc

-- What passes on a link that carries whom it carried.

module _ (links : LinkId → Link) (held : SessionName → Held) (are : AreHomed links held) where
  same_homes : (new : SessionName → Held) → ((n : SessionName) → (new n).home ≡ (held n).home) → AreHomed links new
  same_homes new same = record { home = λ l n is. same n ∙ are.home l n is; back = λ n l is. are.back n l (sym (same n) ∙ is); asked = are.asked }

  module _ (link : LinkId) (value : Link) where
    abbrev with_it : LinkId → Link
    with_it = put is_link_id links link value

    same_there : session_in value.carries ≡ session_in (links link).carries
        → ((n : SessionName) → asker_at value.stage ≡ Some n → session_in (links link).carries ≡ Some n) → AreHomed with_it held
    same_there same mine = record {
      home = λ l n is. are.home l n (sym (there l) ∙ is);
      back = λ n l is. there l ∙ are.back n l is;
      asked = λ l n is. there l ∙ of_it l n is;
    } where
      there : (l : LinkId) → session_in (with_it l).carries ≡ session_in (links l).carries
      there l = by_test (is_link_id l link) refl where
        by_test : (b : Bool) → is_link_id l link ≡ b → session_in (if b then value else links l).carries ≡ session_in (links l).carries
        by_test true here = same ∙ ap (λ k. session_in (links k).carries) (sym (link_of l link here))
        by_test false other = refl

      of_it : (l : LinkId) (n : SessionName) → asker_at (with_it l).stage ≡ Some n → session_in (links l).carries ≡ Some n
      of_it l n is = by_test (is_link_id l link) refl is where
        by_test : (b : Bool) → is_link_id l link ≡ b → asker_at (if b then value else links l).stage ≡ Some n → session_in (links l).carries ≡ Some n
        by_test true here on = ap (λ k. session_in (links k).carries) (link_of l link here) ∙ mine n on
        by_test false other on = are.asked l n on

    -- it is lent
    goes_home : (n : SessionName) → session_in value.carries ≡ Some n → asker_at value.stage ≡ Some n → session_in (links link).carries ≡ None → (held n).home ≡ None
        → AreHomed with_it (put is_name held n (record (held n) { home = Some link }))
    goes_home n carries asks free homeless = record {
      home = λ l m is. home_by l m (is_link_id l link) (is_name m n) refl refl is;
      back = λ m l is. back_by l m (is_link_id l link) (is_name m n) refl refl is;
      asked = λ l m is. asked_by l m (is_link_id l link) refl is;
    } where
      home_by : (l : LinkId) (m : SessionName) (b c : Bool) → is_link_id l link ≡ b → is_name m n ≡ c → session_in (if b then value else links l).carries ≡ Some m
          → (if c then record (held n) { home = Some link } else held m).home ≡ Some l
      home_by l m true true here same is = ap (λ k. Some k) (sym (link_of l link here))
      home_by l m true false here apart is =
          let one : n ≡ m = some_of n m (sym carries ∙ is) in absurd (let is_it : is_name m n ≡ true = ap (λ k. is_name k n) (sym one) ∙ same_name n in cc)
      home_by l m false true other same is =
          no_some l (sym homeless ∙ ap (λ k. (held k).home) (sym (name_of m n same)) ∙ are.home l m is)
      home_by l m false false other apart is = are.home l m is

      back_by : (l : LinkId) (m : SessionName) (b c : Bool) → is_link_id l link ≡ b → is_name m n ≡ c → (if c then record (held n) { home = Some link } else held m).home ≡ Some l
          → session_in (if b then value else links l).carries ≡ Some m
      back_by l m true true here same is = carries ∙ ap (λ k. Some k) (sym (name_of m n same))
      back_by l m true false here apart is =
          no_some m (sym free ∙ ap (λ k. session_in (links k).carries) (sym (link_of l link here)) ∙ are.back m l is)
      back_by l m false true other same is =
          absurd (let one : link ≡ l = some_of link l is in let here : is_link_id l link ≡ true = ap (λ k. is_link_id k link) (sym one) ∙ same_link link in cc)
      back_by l m false false other apart is = are.back m l is

      asked_by : (l : LinkId) (m : SessionName) (b : Bool) → is_link_id l link ≡ b → asker_at (if b then value else links l).stage ≡ Some m
          → session_in (if b then value else links l).carries ≡ Some m
      asked_by l m true here is = carries ∙ sym asks ∙ is
      asked_by l m false other is = are.asked l m is

    -- it is given back
    leaves_home : (n : SessionName) → session_in (links link).carries ≡ Some n → session_in value.carries ≡ None → asker_at value.stage ≡ None
        → AreHomed with_it (put is_name held n (record (held n) { home = None }))
    leaves_home n carried free quiet = record {
      home = λ l m is. home_by l m (is_link_id l link) (is_name m n) refl refl is;
      back = λ m l is. back_by l m (is_link_id l link) (is_name m n) refl refl is;
      asked = λ l m is. asked_by l m (is_link_id l link) refl is;
    } where
      home_by : (l : LinkId) (m : SessionName) (b c : Bool) → is_link_id l link ≡ b → is_name m n ≡ c → session_in (if b then value else links l).carries ≡ Some m
          → (if c then record (held n) { home = None } else held m).home ≡ Some l
      home_by l m true c here same is = no_some m (sym free ∙ is)
      home_by l m false true other same is =
          absurd (let one : link ≡ l = some_of link l (sym (are.home link n carried) ∙ ap (λ k. (held k).home) (sym (name_of m n same)) ∙ are.home l m is) in
          let here : is_link_id l link ≡ true = ap (λ k. is_link_id k link) (sym one) ∙ same_link link in cc)
      home_by l m false false other apart is = are.home l m is

      back_by : (l : LinkId) (m : SessionName) (b c : Bool) → is_link_id l link ≡ b → is_name m n ≡ c → (if c then record (held n) { home = None } else held m).home ≡ Some l
          → session_in (if b then value else links l).carries ≡ Some m
      back_by l m b true here same is = no_some l is
      back_by l m true false here apart is =
          absurd (let one : n ≡ m = some_of n m (sym carried ∙ ap (λ k. session_in (links k).carries) (sym (link_of l link here)) ∙ are.back m l is) in
          let is_it : is_name m n ≡ true = ap (λ k. is_name k n) (sym one) ∙ same_name n in cc)
      back_by l m false false other apart is = are.back m l is

      asked_by : (l : LinkId) (m : SessionName) (b : Bool) → is_link_id l link ≡ b → asker_at (if b then value else links l).stage ≡ Some m
          → session_in (if b then value else links l).carries ≡ Some m
      asked_by l m true here is = no_some m (sym quiet ∙ is)
      asked_by l m false other is = are.asked l m is

-- another home of it is where it was
home_again : (held : SessionName → Held) (n m : SessionName) (link : LinkId) → (held n).home ≡ Some link
    → (put is_name held n (record (held n) { home = Some link }) m).home ≡ (held m).home
home_again held n m link at = by_test (is_name m n) refl where
  by_test : (b : Bool) → is_name m n ≡ b → (if b then record (held n) { home = Some link } else held m).home ≡ (held m).home
  by_test true same = sym (ap (λ k. (held k).home) (name_of m n same) ∙ at)
  by_test false apart = refl

-- and what is heard leaves homes
home_kept : (held : SessionName → Held) (n m : SessionName) (value : Held) → value.home ≡ (held n).home → (put is_name held n value m).home ≡ (held m).home
home_kept held n m value at = by_test (is_name m n) refl where
  by_test : (b : Bool) → is_name m n ≡ b → (if b then value else held m).home ≡ (held m).home
  by_test true same = at ∙ ap (λ k. (held k).home) (sym (name_of m n same))
  by_test false apart = refl

-- Each happening.

module _ (setup : Setup) (view : View) (are : AreHomed view.links view.held) where
  -- of a session for which a question goes, the link carries it or is lent to it
  lent_homes : (link : LinkId) (question : Question) (n : SessionName) → asked_for question ≡ Some n
      → (session_in (carried_for question Nobody) ≡ Some n)
      → ((other : SessionName) → session_in (carried_for question (Lent other)) ≡ Some other) → ((other : SessionName) → session_in (carried_for question (Joined other)) ≡ Some other)
      → MayLend n (view.links link) (view.held n) ⊎ ((view.links link).carries ≡ Joined n)
      → AreHomed (put is_link_id view.links link (asked question (view.links link))) (put is_name view.held n (record (view.held n) { home = Some link }))
  lent_homes link question n asks first lent joined (inl (inl vacant)) =
      goes_home view.links view.held are link (asked question (view.links link)) n (ap (λ c. session_in (carried_for question c)) vacant.free ∙ first) asks (ap session_in vacant.free) vacant.homeless
  lent_homes link question n asks first lent joined (inl (inr is)) =
      let there : session_in (view.links link).carries ≡ Some n = ap session_in is in
      same_homes _ view.held (same_there view.links view.held are link (asked question (view.links link))
      (ap (λ c. session_in (carried_for question c)) is ∙ lent n ∙ sym there) (λ m on. there ∙ sym asks ∙ on))
      (put is_name view.held n (record (view.held n) { home = Some link })) (λ m. home_again view.held n m link (are.home link n there))
  lent_homes link question n asks first lent joined (inr is) =
      let there : session_in (view.links link).carries ≡ Some n = ap session_in is in
      same_homes _ view.held (same_there view.links view.held are link (asked question (view.links link))
      (ap (λ c. session_in (carried_for question c)) is ∙ joined n ∙ sym there) (λ m on. there ∙ sym asks ∙ on))
      (put is_name view.held n (record (view.held n) { home = Some link })) (λ m. home_again view.held n m link (are.home link n there))

  -- one that is of whom the link carries, or of nobody
  stays_homed : (link : LinkId) (question : Question) → ((c : Carried) → carried_for question c ≡ c) → ((n : SessionName) → asked_for question ≡ Some n → session_in (view.links link).carries ≡ Some n)
      → AreHomed (put is_link_id view.links link (asked question (view.links link))) view.held
  stays_homed link question keeps mine =
      same_there view.links view.held are link (asked question (view.links link)) (ap session_in (keeps (view.links link).carries)) mine

  sent_homes : (link : LinkId) (question : Question) → Fits setup view (view.links link) question
      → AreHomed (put is_link_id view.links link (asked question (view.links link))) (held_for question link view.held)
  sent_homes link (Statement n due) fits =
      lent_homes link (Statement n due) n refl refl (λ other. refl) (λ other. refl) (elim fits.how [
        | inl begins ↦ inl begins.lends
        | inr on ↦ inr on.carries
      ])
  sent_homes link (Prep n key text) fits =
      lent_homes link (Prep n key text) n refl refl (λ other. refl) (λ other. refl) (elim fits [
        | inl first ↦ inl first.lends
        | inr there ↦ inr there.carries
      ])
  sent_homes link (Sync n command) fits = stays_homed link (Sync n command) (λ c. refl) (λ m is. ap session_in fits.carries ∙ is)
  sent_homes link (Own command) fits = stays_homed link (Own command) (λ c. refl) (λ m is. no_some m is)
  sent_homes link (End n) fits = stays_homed link (End n) (λ c. refl) (λ m is. ap session_in fits.carries ∙ is)
  sent_homes link (Capture n) fits = stays_homed link (Capture n) (λ c. refl) (λ m is. ap session_in fits.carries ∙ is)

  ran_session : (reads : Reads) (link : Link) (question : Question) → ((n : SessionName) → asked_for question ≡ Some n → session_in link.carries ≡ Some n)
      → session_in (ran_by reads (Asked question) link).carries ≡ session_in link.carries
  ran_session reads link (Statement n due) mine = sym (mine n refl)
  ran_session reads link (Prep n key text) mine = refl
  ran_session reads link (Sync n command) mine = refl
  ran_session reads link (Own command) mine = refl
  ran_session reads link (End n) mine = refl
  ran_session reads link (Capture n) mine = refl

  ran_homes : (link : LinkId) (stage : Stage) → (view.links link).stage ≡ stage → AreHomed (put is_link_id view.links link (ran_by setup.reads stage (view.links link))) view.held
  ran_homes link Quiet at = same_there view.links view.held are link (view.links link) refl (are.asked link)
  ran_homes link (Answered question) at = same_there view.links view.held are link (view.links link) refl (are.asked link)
  ran_homes link (Asked question) at =
      let mine : (n : SessionName) → asked_for question ≡ Some n → session_in (view.links link).carries ≡ Some n = λ n is. are.asked link n (ap asker_at at ∙ is) in
      same_there view.links view.held are link (ran_by setup.reads (Asked question) (view.links link)) (ran_session setup.reads (view.links link) question mine) mine

  held_homes : (question : Question) (reply : Reply) (m : SessionName) → (held_by setup.reads question reply view.held m).home ≡ (view.held m).home
  held_homes (Statement n due) reply m = home_kept view.held n m (held_heard setup.reads (Statement n due) reply (view.held n)) refl
  held_homes (Prep n key text) reply m = home_kept view.held n m (held_heard setup.reads (Prep n key text) reply (view.held n)) refl
  held_homes (Sync n command) reply m = home_kept view.held n m (held_heard setup.reads (Sync n command) reply (view.held n)) refl
  held_homes (Own command) reply m = refl
  held_homes (End n) reply m = home_kept view.held n m (held_heard setup.reads (End n) reply (view.held n)) refl
  held_homes (Capture n) reply m = home_kept view.held n m (held_heard setup.reads (Capture n) reply (view.held n)) refl

  heard_homes : (link : LinkId) (reply : Reply) (stage : Stage) → AreHomed (view_heard setup view link reply stage).links (view_heard setup view link reply stage).held
  heard_homes link reply Quiet = are
  heard_homes link reply (Asked question) = are
  heard_homes link reply (Answered question) =
      same_homes _ view.held (same_there view.links view.held are link (heard setup.reads question reply (view.links link)) refl (λ n is. no_some n is))
      (held_by setup.reads question reply view.held) (held_homes question reply)

  freed_homes : (link : LinkId) (carried : Carried) (n : SessionName) → (view.links link).carries ≡ carried → session_in carried ≡ Some n → (view.links link).stage ≡ Quiet
      → AreHomed (put is_link_id view.links link (freed (view.links link))) (held_freed carried view.held)
  freed_homes link Nobody n at is quiet = no_some n is
  freed_homes link (Lent m) n at is quiet = leaves_home view.links view.held are link (freed (view.links link)) m (ap session_in at) refl (ap asker_at quiet)
  freed_homes link (Joined m) n at is quiet = leaves_home view.links view.held are link (freed (view.links link)) m (ap session_in at) refl (ap asker_at quiet)

  homes_step : (e : Happening) → MayCome setup view e → AreHomed (view_step setup view e).links (view_step setup view e).held
  homes_step (LoggedIn link server account) may =
      same_there view.links view.held are link (new_link server account) (sym (ap (λ (x : Link). session_in x.carries) may)) (λ n is. no_some n is)
  homes_step (BecameDue client hostgroup ordinal key command multiplex) may = are
  homes_step (Sent link question) may = sent_homes link question may.fits
  homes_step (Ran link) may = ran_homes link (view.links link).stage refl
  homes_step (Heard link reply) may = heard_homes link reply (view.links link).stage
  homes_step (Freed link) may = freed_homes link (view.links link).carries may.who refl (elim may.carries [
    | inl joined ↦ ap session_in joined
    | inr lent ↦ ap session_in lent
  ]) may.quiet
  homes_step (Unprepared link number) may = same_there view.links view.held are link (closed_number number (view.links link)) refl (are.asked link)
  homes_step (Dropped link) may = are
  homes_step (Gone link) may = same_there view.links view.held are link (record (view.links link) { usable = false }) refl (are.asked link)
  homes_step (Left client) may = are
  homes_step Broke may = are
  homes_step (Mirrored client job) may = are

pub homes_so : (setup : Setup) (story : Story) → IsLawful setup story → AreHomed (view_after setup story).links (view_after setup story).held
homes_so setup [] lawful = record { home = λ l n is. no_some n is; back = λ n l is. no_some l is; asked = λ l n is. no_some n is }
homes_so setup (e ∷ past) lawful = homes_step setup (view_after setup past) (homes_so setup past lawful.0) e lawful.1
