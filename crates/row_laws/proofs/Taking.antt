-- How bytes end an answer: as code follows them from piece to piece, and as the law reads all that were read.
use Rattle.std.specs.Prelude.{◌≡◌, ◌<◌, ℕ, ◌+◌, ◌-◌, ◌%◌, ◌^◌, Bool, false, fold, nat_lt, List, [], ◌∷◌, ◌++◌, length, take, Option, Some}
use Rattle.std.specs.Option.{option_map}
use Rattle.std.proofs.Common.{refl, sym, ap, ◌∙◌, subst, arith, length-append}
use Rattle.std.proofs.lemmas.List.Sums.{fold-append}
use Rattle.mx_base.specs.Fields.{AreBytes}
use Rattle.reply_relay.specs.Cells.{CellRead, byte_taken, new_cell}
use Rattle.reply_track.proofs.Replying.{IsHandedOn, SameEnd, ended-shorter, handed-on, renumbered-more, run-more, run-same}
use Rattle.reply_track.specs.Replying.{payloads_in}
use Rattle.reply_track.specs.Runs.{Ending, renumbered, run}
use Rattle.reply_track.specs.Runs.Ending.{Going, Ended, Failed}
use Rattle.reply_track.specs.Tracking.{started}
use Rattle.reply_track.specs.declared.place.State.{State}
use Rattle.reply_track.specs.declared.reply.EndKind as track
use Rattle.reply_track.specs.declared.reply.EndKind.TheVariants as tracked
use Rattle.reply_track.specs.declared.reply.ReplyEnd as track_end
use Rattle.reply_track.specs.declared.reply.ReplyKind.{ReplyKind}
use Rattle.reply_track.specs.declared.reply.ReplyKind.TheVariants as kinds
use Rattle.reply_ends.proofs.Reading.{ends_read}
use Rattle.reply_ends.specs.Ends.{end_read, is_of_prepare, kind_read}
use Rattle.server_rule.specs.Replies.{reply_end}
use Rattle.private_model.specs.Commands as commands
use Rattle.private_model.specs.Commands.{Command, is_prepare}
use Rattle.log_story.specs.Servers.{kind_by}
use Rattle.link_state.specs.Asks.{kind_of}
use Rattle.link_state.specs.declared.asking.Form.{Form}
use Rattle.link_state.specs.declared.asking.Form.TheVariants.{Text, Fields, Prepare, SetId, ReadId, Reset}
use Rattle.lent_link.specs.Pieces.{IsRead}
use Rattle.lent_link.specs.Reads.{end_of, kind_of as kind_ended, walked}
use Rattle.lent_link.specs.declared.reading.Reading.{Reading}
use Rattle.row_laws.specs.Unread.{IsCellFor, has_bytes, is_bad, sought}

-- The same end, but for what the client gets.

pub bad_same : (e f : Ending) → SameEnd e f → is_bad f ≡ is_bad e
bad_same (Going a) (Going b) same = refl
bad_same (Ended e r) (Ended f q) same = refl
bad_same (Failed r) (Failed q) same = refl
bad_same (Going a) (Ended f q) same = absurd same
bad_same (Going a) (Failed q) same = absurd same
bad_same (Ended e r) (Going b) same = absurd same
bad_same (Ended e r) (Failed q) same = absurd same
bad_same (Failed r) (Going b) same = absurd same
bad_same (Failed r) (Ended f q) same = absurd same

pub ended_same : (f : Ending) (end : track_end.ReplyEnd) (rest : List ℕ) → SameEnd (Ended end rest) f → f ≡ Ended end rest
ended_same (Ended e r) end rest same = λ i. Ended (sym same.0 i) (sym same.1 i)
ended_same (Going b) end rest same = absurd same
ended_same (Failed q) end rest same = absurd same

pub going_same : (f : Ending) (state : State) → SameEnd (Going state) f → is_bad f ≡ false
going_same (Going b) state same = refl
going_same (Ended e r) state same = absurd same
going_same (Failed q) state same = absurd same

-- Counts.

more_read : (a b : ℕ) → (a % 2 ^ 64 + b) % 2 ^ 64 ≡ (a + b) % 2 ^ 64
more_read a b = omega arith

-- a piece within an answer, of which these bytes were read before it
module _ (kind : ReplyKind) (id first number : ℕ) (unread bytes : List ℕ) (r : Reading) (is : IsRead (sought kind id first number) unread r) where
  pub ends_as_law : SameEnd (run r.tracker.state bytes) (run (started (record { kind = kind; server = id; client = 0; number = 0 })) (unread ++ bytes))
  ends_as_law =
      subst (λ (e : Ending). SameEnd e (run (started (record { kind = kind; server = id; client = 0; number = 0 })) (unread ++ bytes)))
      (run-more (started (sought kind id first number)) r.tracker.state unread bytes is.goes)
      (run-same (unread ++ bytes) (started (sought kind id first number)) (started (record { kind = kind; server = id; client = 0; number = 0 })) refl)

  pub goes_on : (state : State) → run r.tracker.state bytes ≡ Going state
      → IsRead (sought kind id first number) (unread ++ bytes) (walked (length bytes) r (Going state))
  goes_on state goes = record {
    goes = run-more (started (sought kind id first number)) r.tracker.state unread bytes is.goes ∙ goes;
    count = ap (λ (n : ℕ). n % 2 ^ 64) (length-append unread bytes) ∙ sym (more_read (length unread) (length bytes))
        ∙ ap (λ (n : ℕ). (n + length bytes) % 2 ^ 64) is.count;
  }

  -- what is read of the answer to a question for an insert id goes on with it

  pub cell_read : (form : Form) (cell : Option CellRead) → kind_of form ≡ kind → IsCellFor form cell id first number unread
      → IsCellFor form (option_map (λ (c : CellRead). fold byte_taken c (renumbered r.tracker.state bytes)) cell) id first number (unread ++ bytes)
  cell_read ReadId cell same was =
      let there : renumbered (started (sought kinds.Command id first number)) (unread ++ bytes)
      ≡ renumbered (started (sought kinds.Command id first number)) unread ++ renumbered r.tracker.state bytes =
      renumbered-more (started (sought kinds.Command id first number)) r.tracker.state unread bytes
      (subst (λ (k : ReplyKind). run (started (sought k id first number)) unread ≡ Going r.tracker.state) (sym same) is.goes) in
      ap (option_map (λ (c : CellRead). fold byte_taken c (renumbered r.tracker.state bytes))) was
      ∙ ap (λ (c : CellRead). Some c)
      (sym (fold-append byte_taken new_cell (renumbered (started (sought kinds.Command id first number)) unread) (renumbered r.tracker.state bytes)))
      ∙ ap (λ (all : List ℕ). Some (fold byte_taken new_cell all)) (sym there)
  cell_read (Text class) cell same was = tt
  cell_read Fields cell same was = tt
  cell_read (Prepare class) cell same was = tt
  cell_read (SetId n) cell same was = tt
  cell_read Reset cell same was = tt

-- A whole answer.

kind_end : (kind : track.EndKind) → kind_ended kind ≡ kind_read kind
kind_end tracked.Ok = refl
kind_end tracked.Err = refl
kind_end tracked.Rows = refl
kind_end tracked.Prepared = refl

end_same : (end : track_end.ReplyEnd) → end_of end ≡ end_read end
end_same end = λ i. record {
  kind = kind_end end.kind i;
  flags = end.flags;
  warnings = end.warnings;
  insert_id = end.insert_id;
  code = end.code;
  server_number = end.server_number;
  params = end.params;
}

prepare_kind : (command : Command) → is_of_prepare (kind_by command) ≡ is_prepare command
prepare_kind (commands.Prepare text) = refl
prepare_kind (commands.Query text) = refl
prepare_kind (commands.InitDb schema) = refl
prepare_kind (commands.FieldList rest) = refl
prepare_kind (commands.SetId n) = refl
prepare_kind commands.ReadId = refl
prepare_kind (commands.Run text schema settings args) = refl
prepare_kind commands.Reset = refl
prepare_kind commands.Quit = refl

-- it ended as its payloads say
pub end_told : (command : Command) (id : ℕ) (all rest : List ℕ) (end : track_end.ReplyEnd) → id < 256 → AreBytes all
    → run (started (record { kind = kind_by command; server = id; client = 0; number = 0 })) all ≡ Ended end rest
    → end_of end ≡ reply_end (is_prepare command) (payloads_in id (take (length all - length rest) all))
end_told command id all rest end small are ended =
    let at : IsHandedOn (record { kind = kind_by command; server = id; client = 0; number = 0 }) all end rest =
    handed-on (record { kind = kind_by command; server = id; client = 0; number = 0 }) all end rest small are ended in
    end_same end ∙ ends_read (kind_by command) (payloads_in id at.front) end at.reply
    ∙ ap (λ (prepare : Bool). reply_end prepare (payloads_in id at.front)) (prepare_kind command)
    ∙ ap (λ (front : List ℕ). reply_end (is_prepare command) (payloads_in id front)) at.cut

-- bytes behind it are bad

rest_bad : (size : ℕ) (rest : List ℕ) → length rest < size → has_bytes rest ≡ nat_lt (size - length rest) size
rest_bad size [] within = grind arith
rest_bad size (byte ∷ rest) within = grind arith

pub behind_bad : (bytes rest : List ℕ) (end : track_end.ReplyEnd) (state : State) → run state bytes ≡ Ended end rest
    → has_bytes rest ≡ nat_lt (length bytes - length rest) (length bytes)
behind_bad bytes rest end state ended = rest_bad (length bytes) rest (ended-shorter state bytes rest end ended)
