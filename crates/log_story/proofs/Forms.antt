-- The answer on a link has the form of what ran there: whether it answers a STMT_PREPARE.
use Rattle.std.specs.Prelude.{◌≡◌, ℕ, Bool, true, false, [], ◌∷◌, Option, Some, None, if◌then◌else◌}
use Rattle.std.proofs.Common.{refl, sym, ap, ◌∙◌, subst, inl, inr}
use Rattle.std.proofs.lemmas.Bool.{cases_Bool}
use Rattle.packet_frame.specs.PacketLaws.{nat_eq-true}
use Rattle.server_rule.specs.Classes.{Reads}
use Rattle.server_rule.specs.Servers.{Step}
use Rattle.private_model.specs.Honest.{IsHonest, IsTrueOf, IsTrueRun}
use Rattle.private_model.specs.Names.{LinkId, ServerId}
use Rattle.private_model.specs.Commands.{Command, Run, Reply, is_prepare, runs}
use Rattle.private_model.specs.Story.{BecameDue, Dropped, Freed, Gone, Happening, Heard, Key, LoggedIn, Question, Ran}
use Rattle.private_model.specs.Story.{Sent, Statement, Story, Unprepared, command_of, is_link_id, put}
use Rattle.private_model.specs.View.{Answered, Asked, Link, Quiet, Setup, Stage, View, ran_by, view_after, view_heard, view_step}
use Rattle.private_model.specs.Worlds.{Peer, Real, decoded, real_after, real_drop, real_run, real_step, there_command}
use Rattle.std.specs.Option.{option_and_then}

abbrev pub HasForm : Stage → Reply → Type 0
HasForm (Answered question) answer = answer.to_prepare ≡ is_prepare (command_of question)
HasForm _ answer = Unit {0}

decoded_form : (entry : Option Key) (command : Command) → is_prepare (decoded entry command) ≡ is_prepare command
decoded_form None command = refl
decoded_form (Some entry) (Run text schema settings args) = refl
decoded_form (Some entry) _ = refl

there_form : (question : Question) (live : ℕ → Option ℕ) (table : ℕ → Option Key)
    → is_prepare (there_command question live table) ≡ is_prepare (command_of question)
there_form (Statement n due) live table = decoded_form (option_and_then table (live due.key)) due.command
there_form _ live table = refl

same_link : (a b : LinkId) → is_link_id a b ≡ true → b ≡ a
same_link a b is = ap (λ n. record { 0 = n }) (sym (nat_eq-true a.0 b.0 is))

-- an entry that is put leaves what is asked of it
put_kept : {A B : Type 0} (of : A → B) (table : LinkId → A) (key : LinkId) (value : A) → of value ≡ of (table key) → (link : LinkId)
    → of (put is_link_id table key value link) ≡ of (table link)
put_kept of table key value same link = elim (cases_Bool (is_link_id link key)) [
  | inl here ↦ rw here (same ∙ ap (λ l. of (table l)) (same_link link key here))
  | inr other ↦ rw other refl
]

abbrev AreFormed : (LinkId → Link) → (LinkId → Peer) → Type 0
AreFormed links peers = (link : LinkId) → HasForm (links link).stage (peers link).answer

both_kept : (stage other : Stage) (answer next : Reply) → other ≡ stage → next ≡ answer → HasForm stage answer → HasForm other next
both_kept stage other answer next same also holds = subst (λ s. HasForm s next) (sym same) (subst (HasForm stage) (sym also) holds)

put_formed : (b : Bool) (new old : Link) (peer : Peer) → ((answer : Reply) → HasForm new.stage answer) → HasForm old.stage peer.answer
    → HasForm (if b then new else old).stage peer.answer
put_formed true new old peer always holds = always peer.answer
put_formed false new old peer always holds = holds

both_formed : (b : Bool) (new old : Link) (next peer : Peer) → HasForm new.stage next.answer → HasForm old.stage peer.answer
    → HasForm (if b then new else old).stage (if b then next else peer).answer
both_formed true new old next peer now holds = now
both_formed false new old next peer now holds = holds

-- a link of another kind in the same stage
still_formed : (links : LinkId → Link) (peers : LinkId → Peer) (l : LinkId) (value : Link) → value.stage ≡ (links l).stage → AreFormed links peers
    → AreFormed (put is_link_id links l value) peers
still_formed links peers l value same holds link =
    both_kept (links link).stage _ (peers link).answer (peers link).answer (put_kept (λ (a : Link). a.stage) links l value same link) refl (holds link)

-- nothing runs on a link that was dropped
dead_runs : {A : Type 0} {b : Bool} → b ≡ false → b ≡ true → A
dead_runs dead lives = absurd (cc)

run_formed : (reads : Reads) (server : Step) (view : View) (real : Real) (l : LinkId) (live : ℕ → Option ℕ) (alive : Bool) (stage : Stage) (at : ServerId)
    → (real.peers l).alive ≡ alive → IsTrueRun (runs server) real l live stage at → AreFormed view.links real.peers
    → AreFormed (put is_link_id view.links l (ran_by reads stage (view.links l))) (real_run (runs server) real l live alive stage at).peers
run_formed reads server view real l live true (Asked question) at is honest holds link =
    both_formed (is_link_id link l) _ (view.links link) _ (real.peers link) (there_form question live (real.peers l).table) (holds link)
run_formed reads server view real l live false (Asked question) at is honest holds link = dead_runs is honest.alive
run_formed reads server view real l live true Quiet at is honest holds link = still_formed view.links real.peers l (view.links l) refl holds link
run_formed reads server view real l live true (Answered question) at is honest holds link = still_formed view.links real.peers l (view.links l) refl holds link
run_formed reads server view real l live false Quiet at is honest holds link = still_formed view.links real.peers l (view.links l) refl holds link
run_formed reads server view real l live false (Answered question) at is honest holds link = still_formed view.links real.peers l (view.links l) refl holds link

dropped_answer : (server : Step) (real : Real) (l : LinkId) (alive : Bool) (at : ServerId) (link : LinkId)
    → ((real_drop (runs server) real l alive at).peers link).answer ≡ (real.peers link).answer
dropped_answer server real l true at link = put_kept (λ (p : Peer). p.answer) real.peers l _ refl link
dropped_answer server real l false at link = refl

heard_formed : (setup : Setup) (view : View) (real : Real) (l : LinkId) (reply : Reply) (stage : Stage) → AreFormed view.links real.peers
    → AreFormed (view_heard setup view l reply stage).links real.peers
heard_formed setup view real l reply (Answered question) holds link =
    put_formed (is_link_id link l) _ (view.links link) (real.peers link) (λ answer. tt) (holds link)
heard_formed setup view real l reply _ holds link = holds link

step_formed : (setup : Setup) (server : Step) (view : View) (real : Real) (e : Happening) → IsTrueOf (runs server) view real e → AreFormed view.links real.peers
    → AreFormed (view_step setup view e).links (real_step (runs server) view real e).peers
step_formed setup server view real (LoggedIn l at account) honest holds link = both_formed (is_link_id link l) _ (view.links link) _ (real.peers link) tt (holds link)
step_formed setup server view real (BecameDue client hostgroup ordinal key command multiplex) honest holds link = holds link
step_formed setup server view real (Sent l question) honest holds link =
    put_formed (is_link_id link l) _ (view.links link) (real.peers link) (λ answer. tt) (holds link)
step_formed setup server view real (Ran l) honest holds link =
    run_formed setup.reads server view real l (view.links l).live (real.peers l).alive (view.links l).stage (view.links l).server refl honest holds link
step_formed setup server view real (Heard l reply) honest holds link = heard_formed setup view real l reply (view.links l).stage holds link
step_formed setup server view real (Freed l) honest holds link = still_formed view.links real.peers l _ refl holds link
step_formed setup server view real (Unprepared l number) honest holds link =
    both_kept (view.links link).stage _ (real.peers link).answer _ (put_kept (λ (a : Link). a.stage) view.links l _ refl link)
    (put_kept (λ (p : Peer). p.answer) real.peers l _ refl link) (holds link)
step_formed setup server view real (Dropped l) honest holds link =
    both_kept (view.links link).stage (view.links link).stage (real.peers link).answer _ refl
    (dropped_answer server real l (real.peers l).alive (view.links l).server link) (holds link)
step_formed setup server view real (Gone l) honest holds link = still_formed view.links real.peers l _ refl holds link
step_formed setup server view real _ honest holds link = holds link

pub story_formed : (setup : Setup) (server : Step) (story : Story) → IsHonest setup (runs server) story
    → AreFormed (view_after setup story).links (real_after setup (runs server) story).peers
story_formed setup server [] honest link = tt
story_formed setup server (e ∷ past) honest link =
    step_formed setup server (view_after setup past) (real_after setup (runs server) past) e honest.1 (story_formed setup server past honest.0) link
