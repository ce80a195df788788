-- The stories, computed.
use Rattle.std.specs.Prelude.{◌≡◌, ℕ, nat_eq, Bool, true, false, List, [], Option, Some, None}
use Rattle.std.specs.Fmt.{digits}
use Rattle.std.proofs.Common.{refl, sym, ap, ◌∙◌, inl, arith}
use Rattle.server_rule.specs.Replies.{one_number, reply_end}
use Rattle.session_vars.specs.Settings.{defaults}
use Rattle.session_state.specs.Pins.{is_pinned, needs_reset, no_pin}
use Rattle.mx_base.specs.declared.names.LinkId.{LinkId}
use Rattle.server_rule.specs.Laws.{IsTame}
use Rattle.session_state.specs.declared.names.MessageName.{MessageName}
use Rattle.session_state.specs.declared.names.SessionName.{SessionName}
use Rattle.session_state.specs.declared.place.Place.{Place}
use Rattle.session_state.specs.declared.place.Told.{Told}
use Rattle.private_model.specs.Commands.{Reply, class_of}
use Rattle.private_model.specs.Headline.{MeetsPrivate}
use Rattle.private_model.specs.Honest.{IsAccepted, IsHonest}
use Rattle.private_model.specs.Lawful.{Begins, IsKeyed, IsLawful, MayFree, MaySend, is_statement}
use Rattle.private_model.specs.Story.{Due, Statement, Story, message_of}
use Rattle.private_model.specs.View.{Joined, Nobody, Quiet, View, present, view_after}
use Rattle.private_model.specs.Worlds.{private_after, real_after}
use Rattle.small_server.proofs.Honesty.{honest_so, retold}
use Rattle.small_server.proofs.Lawfulness.{tally_tame}
use Rattle.small_server.specs.Stories.{IsBreach, anybody, byte_of, digit_of, due_at, in_a_transaction, insert, link, message, nowhere, on_another_link, reads}
use Rattle.small_server.specs.Stories.{server, session, setup, shared, with_another_id, with_another_id_inside, with_diagnostics}
use Rattle.small_server.specs.Stories.{without_a_capture, without_a_reset, without_its_place}
use Rattle.small_server.specs.Tally.{NoId, LaterId, ok, row, tally, tests}

apart : {A : Type 0} {b : Bool} → b ≡ true → b ≡ false → A
apart is isnt = absurd (cc)

abbrev pub told : Told
told = record { schema = Some []; settings = defaults }

same_number : (n : ℕ) → nat_eq n n ≡ true
same_number n = search arith

differ : (a b : ℕ) → nat_eq a b ≡ false → a ≡ b → ⊥
differ a b isnt e = apart (same_number a) (ap (λ x. nat_eq a x) e ∙ isnt)

-- an unpinned session whose insert id is known begins on a new link
pub begins_with : (n : SessionName) (due : Due) (live : ℕ → Option ℕ) → is_statement due.command ≡ true → IsKeyed setup due.command due.key told live
    → due.anew ≡ true → due.place ≡ nowhere → (class_of reads due.command).reads_diag ≡ false → (class_of reads due.command).reads_found ≡ false → Begins setup n due anybody told (Some 0) live no_pin (Some 0)
begins_with n due live statement keyed anew place blind blind_found = record {
  statement = statement;
  keyed = keyed;
  unpinned = refl;
  anew = anew;
  placed = record { schema = ap (λ (p : Place). Some p.schema) (sym place); settings = ap (λ (p : Place). p.settings) (sym place) };
  account = refl;
  blind = blind;
  blind_found = blind_found;
  known = 0;
  no_capture = refl;
  marks = λ e. refl;
}

pub begins_at : (n : SessionName) → Begins setup n (due_at nowhere 1 true insert) anybody told (Some 0) (λ key. None) no_pin (Some 0)
begins_at n = begins_with n (due_at nowhere 1 true insert) (λ key. None) refl tt refl refl refl refl

-- A statement may be sent on a free link; and a link may be given back where its session is settled.

pub begun_so : (view : View) (l : LinkId) (n : SessionName) (due : Due) → (view.links l).usable ≡ true → (view.links l).stage ≡ Quiet
    → view.dues n ≡ Some due → view.carriers (message_of n due) ≡ None → n ≡ present view n.client n.hostgroup → (view.links l).carries ≡ Nobody
    → (view.held n).home ≡ None
    → Begins setup n due (view.links l).account (view.links l).told (view.links l).id (view.links l).live (view.held n).pin (view.held n).id
    → MaySend setup view (view.links l) (Statement n due)
begun_so view l n due usable quiet is_due unsent is_present free homeless begins = record {
  usable = usable;
  quiet = quiet;
  fits = record {
    is_due = is_due;
    unsent = unsent;
    present = is_present;
    how = inl (record { lends = inl (record { free = free; homeless = homeless }); begins = begins });
  };
}

pub settled_so : (view : View) (l : LinkId) (n : SessionName) (known : ℕ) → (view.links l).carries ≡ Joined n → (view.links l).stage ≡ Quiet
    → needs_reset (view.held n).pin ≡ false → is_pinned (view.held n).pin ≡ false → (view.held n).id ≡ Some known → MayFree view (view.links l)
settled_so view l n known carries quiet harmless unpinned is_known =
    record {
      who = n;
      carries = inl carries;
      quiet = quiet;
      harmless = harmless;
      settled = inl (record { unpinned = unpinned; known = known; is_known = is_known });
    }

pub shared_lawful : IsLawful setup shared
unfolding reply_end one_number digits
shared_lawful = (
  (
    (
      (
        (
          (
            (
              (
                (
                  (
                    (
                      (
                        (
                          (
                            ((tt, tt), refl),
                            begun_so _ (link 3) (session 1) (due_at nowhere 1 true insert) refl refl refl refl refl refl refl
                                (begins_at (session 1)),
                          ),
                          tt,
                        ),
                        tt,
                      ),
                      record { usable = refl; quiet = refl; fits = record { carries = refl; unpinned = refl; unknown = refl } },
                    ),
                    tt,
                  ),
                  tt,
                ),
                settled_so _ (link 3) (session 1) 1 refl refl refl refl refl,
              ),
              tt,
            ),
            record { usable = refl; quiet = refl; fits = record { free = inl refl; fits = tt } },
          ),
          tt,
        ),
        tt,
      ),
      begun_so _ (link 3) (session 2) (due_at nowhere 1 true insert) refl refl refl refl refl refl refl (begins_at (session 2)),
    ),
    tt,
  ),
  tt,
)

pub shared_honest : IsHonest setup server shared
unfolding reply_end one_number digits
shared_honest = honest_so setup server shared refl

pub shared_answered : (private_after setup server shared).answers (message 2 1) ≡ Some (record { to_prepare = false; payloads = ok false LaterId false })
unfolding reply_end one_number digits
shared_answered = refl

-- the law of private worlds, of the small server
abbrev pub Law : Type 0
Law = (story : Story) → IsTame reads tests (tally reads) → IsAccepted setup tests → IsLawful setup story → IsHonest setup server story
    → MeetsPrivate reads tests (view_after setup story) (real_after setup server story) (private_after setup server story)

-- A story that may happen, and in which a reply that was read differs from the private world's in a number, is a breach.
breach : Law → (story : Story) (number : Option Reply → ℕ) (key : MessageName) (payloads : List (List ℕ))
    → (view_after setup story).replies key ≡ Some (record { to_prepare = false; payloads = payloads })
    → nat_eq (number ((private_after setup server story).answers key)) (number (Some (record { to_prepare = false; payloads = payloads }))) ≡ false
    → retold setup server story ≡ story → IsBreach story
breach law story number key payloads read other so =
    record {
      honest = honest_so setup server story so;
      broken = broken;
      unlawful = λ lawful. broken (law story (tally_tame reads) (λ s. refl) lawful (honest_so setup server story so));
    } where
      broken : MeetsPrivate reads tests (view_after setup story) (real_after setup server story) (private_after setup server story) → ⊥
      broken meets = differ _ _ other (ap number (meets.replies key (record { to_prepare = false; payloads = payloads }) read))

pub in_a_transaction_breach : Law → IsBreach in_a_transaction
unfolding reply_end one_number digits
in_a_transaction_breach law = breach law in_a_transaction (byte_of 3) (message 2 1) (ok false NoId true) refl refl refl

pub without_a_reset_breach : Law → IsBreach without_a_reset
unfolding reply_end one_number digits
without_a_reset_breach law = breach law without_a_reset (byte_of 3) (message 2 1) (ok false NoId true) refl refl refl

pub without_its_place_breach : Law → IsBreach without_its_place
unfolding reply_end one_number digits
without_its_place_breach law = breach law without_its_place (byte_of 1) (message 3 1) (ok false NoId false) refl refl refl

pub with_another_id_breach : Law → IsBreach with_another_id
unfolding reply_end one_number digits
with_another_id_breach law = breach law with_another_id digit_of (message 2 1) (row false 49) refl refl refl

pub with_another_id_inside_breach : Law → IsBreach with_another_id_inside
unfolding reply_end one_number digits
with_another_id_inside_breach law = breach law with_another_id_inside digit_of (message 2 2) (row true 49) refl refl refl

pub with_diagnostics_breach : Law → IsBreach with_diagnostics
unfolding reply_end one_number digits
with_diagnostics_breach law = breach law with_diagnostics (byte_of 1) (message 2 1) (ok true NoId false) refl refl refl

pub on_another_link_breach : Law → IsBreach on_another_link
unfolding reply_end one_number digits
on_another_link_breach law = breach law on_another_link (byte_of 3) (message 1 2) (ok false NoId false) refl refl refl

pub without_a_capture_breach : Law → IsBreach without_a_capture
unfolding reply_end one_number digits
without_a_capture_breach law = breach law without_a_capture digit_of (message 1 2) (row false 48) refl refl refl
