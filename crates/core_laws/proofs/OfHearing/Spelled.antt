-- What came of a whole answer with its last bytes is its spelling for the client, and the number that was read of it is the law's.
use Rattle.std.specs.Prelude.{◌≡◌, ◌<◌, ◌≤◌, ℕ, ◌-◌, false, fold, List, ◌++◌, length, take, drop, Option, Some, None}
use Rattle.std.specs.Option.{option_map}
use Rattle.std.proofs.Common.{refl, sym, ap, ◌∙◌, subst, arith, length-append, append_assoc}
use Rattle.std.proofs.Math.Seq.{take-append_seam}
use Rattle.std.proofs.lemmas.List.{length-take-le, take-append-drop}
use Rattle.std.proofs.lemmas.List.Sums.{fold-append}
use Rattle.mx_base.specs.Fields.{AreBytes}
use Rattle.packet_frame.specs.Packets.{spellings}
use Rattle.reply_relay.specs.Cells.{CellRead, byte_taken, cell_number, new_cell}
use Rattle.reply_track.proofs.Answering.{length-renumbered}
use Rattle.reply_track.proofs.Finishing.{AreBytes-append}
use Rattle.reply_track.proofs.Replying.{IsHandedOn, SameEnd, ended-shorter, handed-on, renumbered-more, run-more}
use Rattle.reply_track.specs.Grammar.{renamed}
use Rattle.reply_track.specs.Replying.{payloads_in}
use Rattle.reply_track.specs.Runs.{Ending, renumbered, run}
use Rattle.reply_track.specs.Runs.Ending.{Going, Ended, Failed}
use Rattle.reply_track.specs.Tracking.{Sought, started}
use Rattle.reply_track.specs.declared.reply.ReplyEnd.{ReplyEnd}
use Rattle.reply_track.specs.declared.reply.ReplyKind.{ReplyKind}
use Rattle.reply_track.specs.declared.reply.ReplyKind.TheVariants as kinds
use Rattle.server_rule.specs.Classes.{Reads}
use Rattle.server_rule.specs.Replies.{one_number}
use Rattle.server_side.specs.Account.{Account as Login}
use Rattle.private_model.specs.View.{Link, View}
use Rattle.log_story.specs.Servers.{read_as, reply_id}
use Rattle.log_story.specs.Tale.{Wire}
use Rattle.link_state.specs.Asks.{kind_of}
use Rattle.link_state.specs.Dones.{is_quiet}
use Rattle.link_state.specs.declared.asking.Asking.{Asking}
use Rattle.link_state.specs.declared.asking.Form.{Form}
use Rattle.link_state.specs.declared.asking.Form.TheVariants.{Text, Fields, Prepare, SetId, ReadId, Reset}
use Rattle.link_state.specs.declared.state.Stage.{Stage}
use Rattle.link_state.specs.declared.state.Stage.TheVariants.{Answered}
use Rattle.lent_link.specs.Pieces.{IsRead}
use Rattle.lent_link.specs.Rests.{is_resetting}
use Rattle.lent_link.specs.declared.reading.Reading.{Reading}
use Rattle.link_laws.specs.Stands.{Codes}
use Rattle.served_link.specs.Hears.{made_in, number_read, seen as cell_seen}
use Rattle.served_link.specs.declared.row.Row.{Row}
use Rattle.row_laws.specs.Rows.{Serves}
use Rattle.row_laws.specs.Unread.{IsCellBy, IsCellFor, IsDry, IsNumberFor, IsUnreadBy, kind_answered, sought}
use Rattle.row_laws.proofs.Hearing.{IsAnswered, answered_so, answering, law_end, other_plain, plain_other}

-- what stands in front of a rest

cut_same : (a b s rest : List ℕ) → a ++ b ≡ s ++ rest → length rest ≤ length b → a ++ take (length b - length rest) b ≡ s
cut_same a b s rest same within =
    let k : ℕ = length b - length rest in
    let split : (a ++ take k b) ++ drop k b ≡ a ++ b = append_assoc a (take k b) (drop k b) ∙ ap (λ (xs : List ℕ). a ++ xs) (take-append-drop k b) in
    let size : length (take k b) ≡ k = length-take-le k b (omega arith) in
    let sizes : length (a ++ take k b) ≡ length s =
    omega (arith, length-append a (take k b), size, ap length same, length-append a b, length-append s rest, within) in
    sym (take-append_seam (a ++ take k b) (drop k b)) ∙ ap (take (length (a ++ take k b))) (split ∙ same)
    ∙ ap (λ (n : ℕ). take n (s ++ rest)) sizes ∙ take-append_seam s rest

module _ (kind : ReplyKind) (id first number : ℕ) (unread bytes : List ℕ) (r : Reading) (is : IsRead (sought kind id first number) unread r)
    (small : id < 256) (are : AreBytes (unread ++ bytes)) (end : ReplyEnd) (rest : List ℕ) (ended : run r.tracker.state bytes ≡ Ended end rest) where
  abbrev from : Sought
  from = sought kind id first number

  handed : IsHandedOn from (unread ++ bytes) end rest
  handed = handed-on from (unread ++ bytes) end rest small are (run-more (started from) r.tracker.state unread bytes is.goes ∙ ended)

  within : length rest ≤ length (renumbered r.tracker.state bytes)
  within = omega (arith, ended-shorter r.tracker.state bytes rest end ended, length-renumbered bytes r.tracker.state)

  pub pieces_are : renumbered (started from) unread ++ take (length bytes - length rest) (renumbered r.tracker.state bytes)
      ≡ spellings first (renamed kind number (payloads_in id (take (length (unread ++ bytes) - length rest) (unread ++ bytes))))
  pieces_are =
      ap (λ (n : ℕ). renumbered (started from) unread ++ take (n - length rest) (renumbered r.tracker.state bytes)) (sym (length-renumbered bytes r.tracker.state))
      ∙ cut_same (renumbered (started from) unread) (renumbered r.tracker.state bytes)
      (spellings first (renamed kind number (payloads_in id handed.front))) rest
      (sym (renumbered-more (started from) r.tracker.state unread bytes is.goes) ∙ handed.handed) within
      ∙ ap (λ (front : List ℕ). spellings first (renamed kind number (payloads_in id front))) handed.cut

-- The number of an answer.

pub ended_as : (e : Ending) (end : ReplyEnd) (rest : List ℕ) → SameEnd e (Ended end rest) → e ≡ Ended end rest
ended_as (Ended e r) end rest same = λ i. Ended (same.0 i) (same.1 i)
ended_as (Going state) end rest same = absurd same
ended_as (Failed r) end rest same = absurd same

abbrev pub NumbersAreRead : Type 0
NumbersAreRead = (first : ℕ) (payloads : List (List ℕ)) → cell_number (fold byte_taken new_cell (spellings first payloads)) ≡ one_number payloads

module _ (numbers : NumbersAreRead) (reads : Reads) (codes : Codes) (login : Login) (seen : View) (row : Row) (wire : Wire) (link : Link)
    (stands : Serves reads codes login seen row wire link) (fine : row.link.spoilt ≡ false) (bytes : List ℕ) (are_bytes : AreBytes bytes) where
  abbrev fed : Wire
  fed = record wire { unread = wire.unread ++ bytes }

  abbrev heard_number : Option Reading → (rest : List ℕ) → Option ℕ
  heard_number reading rest = number_read (cell_seen (take (length bytes - length rest) (made_in reading bytes)) row).cell

  module _ (asking : Asking) (end : ReplyEnd) (rest : List ℕ) (there : row.link.state.stage ≡ Answered asking)
      (ended : read_as (kind_of asking.form) fed ≡ Ended end rest) where
    abbrev payloads : List (List ℕ)
    payloads = payloads_in (reply_id wire) (take (length fed.unread - length rest) fed.unread)

    unquiet : is_quiet row.link.state.stage ≡ false
    unquiet = ap is_quiet there

    plain : is_resetting row.link.step ≡ false
    plain = other_plain row.link.step (plain_other row.link.step (is_quiet row.link.state.stage) stands.stepless unquiet)

    module _ (r : Reading) (under_way : row.link.reading ≡ Some r) where
      is : IsAnswered reads codes (answering reads codes login seen row wire link stands fine bytes r under_way are_bytes).kind row.link.state.stage link.stage
      is = answered_so reads codes login seen row wire link stands fine bytes r under_way are_bytes plain

      abbrev kind : ReplyKind
      kind = (answering reads codes login seen row wire link stands fine bytes r under_way are_bytes).kind

      same_asking : (a b : Asking) → Answered a ≡ Answered b → a ≡ b
      same_asking a b same = cc

      asking_is : is.asking ≡ asking
      asking_is = same_asking is.asking asking (sym is.stage ∙ there)

      kind_is : kind_of asking.form ≡ kind
      kind_is = ap (λ (a : Asking). kind_of a.form) (sym asking_is) ∙ is.form_kind

      ends : run r.tracker.state bytes ≡ Ended end rest
      ends = ended_as (run r.tracker.state bytes) end rest
          (subst (λ (f : Ending). SameEnd (run r.tracker.state bytes) f) (ap (λ (k : ReplyKind). read_as k fed) (sym kind_is) ∙ ended)
          (law_end reads codes login seen row wire link stands fine bytes r under_way are_bytes))

      cell_of : (form : Form) → asking.form ≡ form → IsNumberFor form (heard_number (Some r) rest) payloads
      cell_of ReadId same =
          let kind_now : kind ≡ kinds.Command = sym kind_is ∙ ap kind_of same in
          let read = (answering reads codes login seen row wire link stands fine bytes r under_way are_bytes).read in
          let cell : IsCellBy (Answered asking) row.cell (reply_id wire) row.link.first row.link.number wire.unread =
          subst (λ (s : Stage). IsCellBy s row.cell (reply_id wire) row.link.first row.link.number wire.unread) there (stands.cell fine) in
          let was : row.cell ≡ Some (fold byte_taken new_cell (renumbered (started (sought kinds.Command (reply_id wire) row.link.first row.link.number)) wire.unread)) =
          subst (λ (f : Form). IsCellFor f row.cell (reply_id wire) row.link.first row.link.number wire.unread) same cell in
          let are : AreBytes (wire.unread ++ bytes) =
          AreBytes-append wire.unread bytes (answering reads codes login seen row wire link stands fine bytes r under_way are_bytes).are are_bytes in
          let whole = pieces_are kinds.Command (reply_id wire) row.link.first row.link.number wire.unread bytes r
          (subst (λ (k : ReplyKind). IsRead (sought k (reply_id wire) row.link.first row.link.number) wire.unread r) kind_now read) (omega arith) are end rest ends in
          ap (λ (c : Option CellRead). number_read (option_map (λ (cell : CellRead). fold byte_taken cell (take (length bytes - length rest) (renumbered r.tracker.state bytes))) c)) was
          ∙ ap cell_number (sym (fold-append byte_taken new_cell
          (renumbered (started (sought kinds.Command (reply_id wire) row.link.first row.link.number)) wire.unread)
          (take (length bytes - length rest) (renumbered r.tracker.state bytes))))
          ∙ ap (λ (all : List ℕ). cell_number (fold byte_taken new_cell all)) whole
          ∙ numbers row.link.first payloads
      cell_of (Text class) same = tt
      cell_of Fields same = tt
      cell_of (Prepare class) same = tt
      cell_of (SetId n) same = tt
      cell_of Reset same = tt

    by_reading : (reading : Option Reading) → row.link.reading ≡ reading → IsNumberFor asking.form (heard_number reading rest) payloads
    by_reading (Some r) same = cell_of r same asking.form refl
    by_reading None same =
        let dry : IsDry row.link.state.stage wire.unread =
        subst (λ (reading : Option Reading). IsUnreadBy reading row.link.step row.link.state.stage (reply_id wire) row.link.first row.link.number wire.unread) same
        (stands.unread fine) in
        absurd (some_none (kind_of asking.form) (ap kind_answered (sym there) ∙ dry.unanswered)) where
          some_none : (k : ReplyKind) → Some k ≡ None → ⊥
          some_none k same = cc

    pub number_so : IsNumberFor asking.form (heard_number row.link.reading rest) payloads
    number_so = by_reading row.link.reading refl
