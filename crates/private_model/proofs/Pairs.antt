-- What one command does to a session and to its like in the private world.
use Rattle.std.specs.Prelude.{[], ◌≡◌, ℕ, Bool, true, false, List}
use Rattle.std.proofs.Common.{refl, sym, ap, ◌∙◌, subst, inl, inr}
use Rattle.private_model.proofs.Sessions.{apart, bool_cases, id_stays}
use Rattle.private_model.proofs.Tame.{IsBlindBy, SeesSame, Tame, account_of, outcome_with_id}
use Rattle.private_model.specs.Commands.{Number, Command, Outcome, Quit, Reset, SetId, Step, class_of, end_of, fresh_of, is_ok}
use Rattle.server_rule.specs.Classes.{Reads}
use Rattle.server_rule.specs.Servers.{Accepts, Tests, with_diag, with_id}
use Rattle.server_rule.specs.declared.session.Session.{Session}
use Rattle.session_state.specs.Classes.{leaves_diag, leaves_found}

-- two outcomes that are the same but for the insert id and the diagnostics
pub record IsAlike (private real : Outcome) : Type 0 where
  pub stored : private.stored ≡ real.stored
  pub reply : private.reply ≡ real.reply
  pub rest : private.session ≡ with_diag private.session.diag (with_id private.session.last_id real.session)

-- of one command in two sessions that differ in these
pub record IsAlikeAfter (reads : Reads) (tests : Tests) (c : Command) (p s : Session) (private real : Outcome) : Type 0 where
  pub alike : IsAlike private real
  pub last_id : p.last_id ≡ s.last_id → private.session.last_id ≡ real.session.last_id
  pub warnings : (leaves_diag (class_of reads c) (end_of real.reply) ≡ false → tests.warnings p.diag ≡ tests.warnings s.diag) → tests.warnings private.session.diag ≡ tests.warnings real.session.diag
  pub found : (leaves_found (class_of reads c) (end_of real.reply) ≡ false → tests.found p.diag ≡ tests.found s.diag) → tests.found private.session.diag ≡ tests.found real.session.diag

after_by : (reads : Reads) (tests : Tests) (c : Command) (p s : Session) (private real : Outcome) (n : ℕ) → IsBlindBy reads tests c p.diag s.diag private (outcome_with_id n real)
    → (p.last_id ≡ s.last_id → n ≡ real.session.last_id) → IsAlikeAfter reads tests c p s private real
after_by reads tests c p s private real n blind same =
    let id : private.session.last_id ≡ n = ap (λ (x : Session). x.last_id) blind.session in
    record {
      alike = record {
        stored = blind.stored;
        reply = blind.reply;
        rest = blind.session ∙ ap (λ k. with_diag private.session.diag (with_id k real.session)) (sym id);
      };
      last_id = λ e. id ∙ same e;
      warnings = blind.warnings;
      found = blind.found;
    }

module _ (reads : Reads) (step : Step) (tests : Tests) (tame : Tame reads tests step) (stored : List ℕ) (s p : Session) (ok : Accepts tests stored s) (ok_p : Accepts tests stored p) (rest : p ≡ with_diag p.diag (with_id p.last_id s)) where
  ok_there : Accepts tests stored (with_diag p.diag s)
  ok_there = subst (λ x. Accepts tests stored x) rest ok_p

  -- the diagnostics that it doesn't read don't count
  blind : (c : Command) → SeesSame reads tests c p.diag s.diag → IsBlindBy reads tests c p.diag s.diag (step stored p c) (step stored (with_id p.last_id s) c)
  blind c sees = subst (λ x. IsBlindBy reads tests c p.diag s.diag (step stored x c) (step stored (with_id p.last_id s) c)) (sym rest)
      (tame.blind.diag stored (with_id p.last_id s) ok c p.diag ok_there sees)

  pub alike_after : (c : Command) → SeesSame reads tests c p.diag s.diag → ((class_of reads c).marks_id ≡ true → p.last_id ≡ s.last_id) → IsAlikeAfter reads tests c p s (step stored p c) (step stored s c)
  alike_after c sees marks = elim (bool_cases (class_of reads c).marks_id) [
    | inl marking ↦
        let same : step stored (with_id p.last_id s) c ≡ step stored s c = ap (λ n. step stored (with_id n s) c) (marks marking) in
        after_by reads tests c p s _ _ (step stored s c).session.last_id (subst (λ x. IsBlindBy reads tests c p.diag s.diag (step stored p c) x) same (blind c sees)) (λ e. refl)
    | inr unmarked ↦
        let same : step stored (with_id p.last_id s) c ≡ outcome_with_id p.last_id (step stored s c) = tame.blind.last_id stored s ok c p.last_id unmarked in
        after_by reads tests c p s _ _ p.last_id (subst (λ x. IsBlindBy reads tests c p.diag s.diag (step stored p c) x) same (blind c sees))
        (λ e. e ∙ sym (id_stays reads step tests tame stored s ok c unmarked))
  ]

  set_go : (k : Number) (ok : Bool) → is_ok (step stored s (SetId k)).reply ≡ ok → is_ok (step stored p (SetId k)).reply ≡ ok
      → ((step stored p (SetId k)).session ≡ with_diag (step stored p (SetId k)).session.diag (with_id (step stored p (SetId k)).session.last_id (step stored s (SetId k)).session))
      × (p.last_id ≡ s.last_id → (step stored p (SetId k)).session.last_id ≡ (step stored s (SetId k)).session.last_id)
  set_go k true real private =
      let a : (step stored p (SetId k)).session ≡ with_diag (step stored p (SetId k)).session.diag (with_id k.value p) = tame.id.set_done stored p ok_p k private in
      let b : (step stored s (SetId k)).session ≡ with_diag (step stored s (SetId k)).session.diag (with_id k.value s) = tame.id.set_done stored s ok k real in
      let n : (step stored p (SetId k)).session.last_id ≡ k.value = ap (λ (x : Session). x.last_id) a in
      let m : (step stored s (SetId k)).session.last_id ≡ k.value = ap (λ (x : Session). x.last_id) b in
      let d = (step stored p (SetId k)).session.diag in
      (a ∙ ap (λ x. with_diag d (with_id k.value x)) rest ∙ ap (λ i. with_diag d (with_id i s)) (sym n) ∙ ap (λ x. with_diag d (with_id (step stored p (SetId k)).session.last_id x)) (sym b), λ e. n ∙ sym m)
  set_go k false real private =
      let a : (step stored p (SetId k)).session ≡ with_diag (step stored p (SetId k)).session.diag p = tame.id.set_refused stored p ok_p k private in
      let b : (step stored s (SetId k)).session ≡ with_diag (step stored s (SetId k)).session.diag s = tame.id.set_refused stored s ok k real in
      let n : (step stored p (SetId k)).session.last_id ≡ p.last_id = ap (λ (x : Session). x.last_id) a in
      let m : (step stored s (SetId k)).session.last_id ≡ s.last_id = ap (λ (x : Session). x.last_id) b in
      let d = (step stored p (SetId k)).session.diag in
      (a ∙ ap (λ x. with_diag d x) rest ∙ ap (λ i. with_diag d (with_id i s)) (sym n) ∙ ap (λ x. with_diag d (with_id (step stored p (SetId k)).session.last_id x)) (sym b), λ e. n ∙ e ∙ sym m)

  -- a step that sets the insert id
  pub alike_set : (k : Number) → IsAlikeAfter reads tests (SetId k) p s (step stored p (SetId k)) (step stored s (SetId k))
  alike_set k =
      let is : IsBlindBy reads tests (SetId k) p.diag s.diag (step stored p (SetId k)) (step stored (with_id p.last_id s) (SetId k)) =
      blind (SetId k) (record { warnings = λ t. apart t refl; found = λ t. apart t refl }) in
      let told : (step stored (with_id p.last_id s) (SetId k)).reply ≡ (step stored s (SetId k)).reply = tame.id.set_reply stored s ok k p.last_id in
      let diag : (step stored (with_id p.last_id s) (SetId k)).session.diag ≡ (step stored s (SetId k)).session.diag = tame.id.set_diag stored s ok k p.last_id in
      let reply : (step stored p (SetId k)).reply ≡ (step stored s (SetId k)).reply = is.reply ∙ told in
      let both = set_go k (is_ok (step stored s (SetId k)).reply) refl (ap is_ok reply) in
      record {
        alike = record { stored = tame.id.set_stored stored p ok_p k ∙ sym (tame.id.set_stored stored s ok k); reply = reply; rest = both.0 };
        last_id = both.1;
        warnings = λ same. is.warnings (λ e. same (subst (λ r. leaves_diag (class_of reads (SetId k)) (end_of r) ≡ false) told e)) ∙ ap tests.warnings diag;
        found = λ same. is.found (λ e. same (subst (λ r. leaves_found (class_of reads (SetId k)) (end_of r) ≡ false) told e)) ∙ ap tests.found diag;
      }

  -- a reset
  pub reset_stored : (step stored p Reset).stored ≡ (step stored s Reset).stored
  reset_stored = ap (λ x. (step stored x Reset).stored) rest ∙ tame.reset.blind stored s ok p.last_id p.diag ok_there

  pub quit_stored : (step stored p Quit).stored ≡ (step stored s Quit).stored
  quit_stored = tame.reset.quit_stored stored p ok_p ∙ reset_stored ∙ sym (tame.reset.quit_stored stored s ok)

  pub reset_session : (step stored p Reset).session.deep ≡ [] → (step stored s Reset).session.deep ≡ [] → (step stored p Reset).session ≡ (step stored s Reset).session
  reset_session mine there =
      tame.reset.session stored p ok_p ∙ ap (λ d. record (fresh_of (account_of p) p.schema) { deep = d }) (mine ∙ sym there)
      ∙ ap (λ x. record (fresh_of (account_of x) x.schema) { deep = (step stored s Reset).session.deep }) rest ∙ sym (tame.reset.session stored s ok)
