-- Where the loop waits, all is written that there is to say in a login.
use Rattle.std.specs.Prelude.{◌≡◌, ℕ, Bool, true, false, not, ◌&&◌, drop, find, length, if◌then◌else◌, List, [], ◌∷◌, ◌++◌, None}
use Rattle.std.specs.Option.{option_map_or}
use Rattle.std.proofs.Common.{refl, sym, ap, ◌∙◌, subst, append_assoc, append-nil, arith}
use Rattle.std.proofs.Math.Seq.{drop-append_seam}
use Rattle.std.proofs.lemmas.Bool.{and_from, and_parts}
use Rattle.std.proofs.lemmas.List.{take-append-le, take_all}
use Rattle.mx_base.specs.declared.names.LinkId.{LinkId}
use Rattle.mx_base.specs.declared.tag.Tag.TheVariants as tags
use Rattle.mx_wire.specs.Log.{Log}
use Rattle.mx_wire.specs.Moments.{AtEachMoment, LawfulAfter}
use Rattle.mx_wire.specs.Tells.{Fits}
use Rattle.mx_wire.specs.declared.entry.Entry.{Entry}
use Rattle.mx_wire.specs.declared.entry.Entry.TheVariants as entry
use Rattle.ready_loop.specs.Drained.{write_dry}
use Rattle.server_side.specs.Login.{opening, said_of}
use Rattle.private_model.specs.Story.{is_link_id}
use Rattle.log_story.specs.Honest.{IsFront}
use Rattle.log_story.specs.Said.{IsSaid}
use Rattle.log_story.specs.Servers.{may_begin}
use Rattle.log_story.specs.Tale.{Client, Tale, is_to_server, link_in}
use Rattle.tale_world.specs.Deciding.{World}
use Rattle.router_promises.specs.Closes.{has_bytes}
use Rattle.router_promises.specs.Headline.{SaysSo}
use Rattle.router_promises.specs.Now.{Now, now_at, wire_now}
use Rattle.router_promises.specs.Running.{is_entering, is_failed, opening_on}
use Rattle.router_promises.specs.Terms.{Terms, plan_in, tale_at}
use Rattle.shared_router.specs.Fixed.{Fixed, IsNumbered, setup_of}
use Rattle.shared_router.specs.Known.{Known, known, setup_by}
use Rattle.shared_router.specs.More.{More, now_of, terms_of}
use Rattle.shared_router.specs.Ours.{IsOurs, MayWait}
use Rattle.shared_router.specs.Owed.{Owed, close_by, farewell, nothing_owed, owed_on, owed_on_client, owed_on_server, owed_there}
use Rattle.shared_router.specs.Rests.{LogsInSo, SaysLogin}
use Rattle.shared_router.specs.Shared.{final_terms, world_at}
use Rattle.shared_router.proofs.Calming.{nothing_closes}
use Rattle.shared_router.proofs.Lasting.{alike_at}
use Rattle.shared_router.proofs.Later.{AreAlike, failed_same}
use Rattle.shared_router.proofs.Parting.{tale_then}
use Rattle.shared_router.proofs.Same.{now_is, now_same}
use Rattle.shared_router.proofs.Staying.{log_at}

-- what is left of a whole, where nothing is
pub all_of : (front whole : List ℕ) → IsFront front whole → has_bytes (drop (length front) whole) ≡ false → front ≡ whole
all_of front whole is none = by_rest is.rest refl where
  by_rest : (rest : List ℕ) → is.rest ≡ rest → front ≡ whole
  by_rest [] same = sym (append-nil front) ∙ ap (λ r. front ++ r) (sym same) ∙ is.is
  by_rest (byte ∷ rest) same =
      let left : drop (length front) whole ≡ byte ∷ rest = ap (drop (length front)) (sym is.is) ∙ drop-append_seam front is.rest ∙ same in
      absurd (let never : true ≡ false = sym (ap has_bytes left) ∙ none in cc)

not_so : (b : Bool) → not b ≡ true → b ≡ false
not_so false is = refl
not_so true is = absurd (cc)

-- what there is to write on a link that logs in, where none is to be closed
module _ (k : Known) (link : LinkId) (stays : close_by k ≡ None) (there : is_to_server k.now.tale link ≡ true)
    (out : (wire_now k.now link).entered ≡ false) (enters : is_entering k.terms k.now.tale link ≡ true) where
  abbrev begins : Bool
  begins = may_begin (setup_by k) link (wire_now k.now link) k.now.tale

  owed_is : (owed_on k link).bytes ≡ drop (length (wire_now k.now link).written) (said_of (opening_on k.terms k.now.tale link))
  owed_is =
      ap (λ b. (by_server b).bytes) there
      ∙ ap (λ o. (if option_map_or (is_link_id link) o false then farewell k link else owed_there k link (wire_now k.now link).entered begins).bytes) stays
      ∙ ap (λ b. (owed_there k link b begins).bytes) out
      ∙ ap (λ b. (in_login b).bytes) enters
    where
      by_server : Bool → Owed
      by_server b = if b then owed_on_server k link else owed_on_client k (find (λ (client : Client). is_link_id client.link link) k.now.tale.clients)

      in_login : Bool → Owed
      in_login b =
          if b then record { tag = tags.Own; bytes = drop (length (wire_now k.now link).written) (said_of (opening_on k.terms k.now.tale link)) }
          else nothing_owed

module _ (fixed : Fixed) (numbered : IsNumbered fixed) where
  says_at : (before later : Log) (e : Entry) → LawfulAfter Fits before (e ∷ later) → MayWait (known fixed (world_at fixed before))
      → SaysSo (final_terms fixed (before ++ e ∷ later)) before → (link : LinkId)
      → SaysLogin (final_terms fixed (before ++ e ∷ later)) (world_at fixed before).more.log (now_of fixed (world_at fixed before)) link
  says_at before later e fits may says link opened enters dry =
      let w : World More = world_at fixed before in
      let last : World More = world_at fixed (before ++ e ∷ later) in
      let k : Known = known fixed w in
      let t : Terms = final_terms fixed (before ++ e ∷ later) in
      let now : Now = now_of fixed w in
      let alike : AreAlike fixed now.tale w last = alike_at fixed numbered before (e ∷ later) fits in
      let parts = and_parts (is_to_server now.tale link) (not (wire_now now link).entered && not (is_failed (opening_on t now.tale link))) enters in
      let more = and_parts (not (wire_now now link).entered) (not (is_failed (opening_on t now.tale link))) parts.1 in
      let out : (wire_now now link).entered ≡ false = not_so (wire_now now link).entered more.0 in
      let mine : is_entering (terms_of fixed w) now.tale link ≡ true = and_from (is_to_server now.tale link) _ parts.0
      (and_from (not (wire_now now link).entered) _ more.0 (ap not (sym (failed_same fixed w.more.log now w last alike link parts.0)) ∙ more.1)) in
      let text : said_of (opening_on t now.tale link) ≡ said_of (opening_on (terms_of fixed w) now.tale link) =
      ap (λ login. said_of (opening login (now.tale.wires link).unread)) (alike.logins link parts.0) in
      let tale : tale_at t before ≡ w.tale = tale_then fixed before (e ∷ later) in
      let said : IsSaid (wire_now now link).entered ((plan_in t).logins link) (wire_now now link) (link_in (setup_of fixed) w.tale link) =
      subst (λ (x : Tale). is_to_server x link ≡ true → IsSaid (x.wires link).entered ((plan_in t).logins link) (x.wires link) (link_in (setup_of fixed) x link)) tale (says link) parts.0 in
      let front : IsFront (wire_now now link).written (said_of (opening_on t now.tale link)) =
      subst (λ b. IsSaid b ((plan_in t).logins link) (wire_now now link) (link_in (setup_of fixed) w.tale link)) out said in
      let owed : (owed_on k link).bytes ≡ drop (length (wire_now now link).written) (said_of (opening_on t now.tale link)) =
      owed_is k link (nothing_closes k may.acted) parts.0 out mine ∙ ap (drop (length (wire_now now link).written)) (sym text) in
      all_of (wire_now now link).written (said_of (opening_on t now.tale link)) front
      (ap has_bytes (sym owed) ∙ none_left (has_bytes (owed_on k link).bytes) (write_dry link w.more.log) (may.written link opened) dry)
    where
      none_left : (b c : Bool) → (b ≡ true → c ≡ true) → c ≡ false → b ≡ false
      none_left false c full dry = refl
      none_left true c full dry = absurd (let never : true ≡ false = sym (full refl) ∙ dry in cc)

  greets_at : (before later : Log) (e : Entry) → LawfulAfter Fits before (e ∷ later) → MayWait (known fixed (world_at fixed before))
      → SaysSo (final_terms fixed (before ++ e ∷ later)) before
      → (link : LinkId) → SaysLogin (final_terms fixed (before ++ e ∷ later)) before (now_at (final_terms fixed (before ++ e ∷ later)) before) link
  greets_at before later e fits may says =
      let t : Terms = final_terms fixed (before ++ e ∷ later) in
      subst (λ (n : Now). (link : LinkId) → SaysLogin t before n link) (sym (now_is fixed t before (now_same fixed numbered before (e ∷ later))))
      (subst (λ (l : Log). (link : LinkId) → SaysLogin t l (now_of fixed (world_at fixed before)) link) (log_at fixed before) (says_at before later e fits may says))

  greets_by : (before later : Log) (e : Entry) → LawfulAfter Fits before (e ∷ later) → IsOurs fixed before e → SaysSo (final_terms fixed (before ++ e ∷ later)) before
      → LogsInSo (final_terms fixed (before ++ e ∷ later)) before e
  greets_by before later (entry.Woke until_ms now_ms) fits our says = greets_at before later (entry.Woke until_ms now_ms) fits our.0 says
  greets_by before later entry.WaitFailed fits our says = greets_at before later entry.WaitFailed fits our says
  greets_by before later entry.Over fits our says = greets_at before later entry.Over fits our says
  greets_by before later _ fits our says = tt

  -- what holds at each moment holds of each beginning
  begun_at : (P : Log → Type 0) (before later : Log) → AtEachMoment P (before ++ later) → P before
  begun_at P before later each =
      subst P (take-append-le (length before) before later (omega arith) ∙ take_all (length before) before (omega arith)) (each (length before))

  greets_from : (before later log : Log) → before ++ later ≡ log → AtEachMoment (SaysSo (final_terms fixed log)) log → LawfulAfter Fits before later
      → LawfulAfter (IsOurs fixed) before later → LawfulAfter (LogsInSo (final_terms fixed log)) before later
  greets_from before [] log is says fits our = tt
  greets_from before (e ∷ later) log is says fits our = (
    subst (λ l. LogsInSo (final_terms fixed l) before e) is
        (greets_by before later e fits our.0
        (begun_at (SaysSo (final_terms fixed (before ++ e ∷ later))) before (e ∷ later)
        (subst (λ l. AtEachMoment (SaysSo (final_terms fixed l)) l) (sym is) says))),
    greets_from (before ++ e ∷ []) later log (append_assoc before (e ∷ []) later ∙ is) says fits.1 our.1,
  )

  pub greets_kept : (log : Log) → AtEachMoment (SaysSo (final_terms fixed log)) log → LawfulAfter (IsOurs fixed) [] log → LawfulAfter Fits [] log
      → LawfulAfter (LogsInSo (final_terms fixed log)) [] log
  greets_kept log says our fits = greets_from [] log log refl says fits our
