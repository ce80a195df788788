-- The router settles, deed by deed.
use Rattle.std.specs.Prelude.{◌≡◌, nat_eq, if◌then◌else◌, false, [], Option, Some, None, Result, Ok, Err, OnOk}
use Rattle.std.specs.Option.{option_map}
use Rattle.std.proofs.Common.{refl, sym, ap, subst, ◌∙◌}
use Rattle.mx_base.specs.declared.names.ClientNo.{ClientNo}
use Rattle.mx_base.specs.declared.names.LinkId.{LinkId}
use Rattle.core_tables.specs.Noting.{readied, with_note}
use Rattle.core_tables.specs.Tables.{IsSame, Tabled, client_changed}
use Rattle.core_tables.specs.declared.client.Client.{Client}
use Rattle.core_tables.specs.declared.client.ClientNote.{ClientNote}
use Rattle.marked_tables.specs.Readying.{with_readied}
use Rattle.marked_tables.proofs.Going.{goes_along, still_goes}
use Rattle.router_laws.specs.wakes.Settling.{MaySettle, Notes, Readies, Settles, Settling, settled}
use Rattle.router_laws.proofs.OfWakes.Settled.{same_itself, settles_along, settles_one}
use Rattle.core_texts.specs.declared.texts.Texts.{Texts}
use Rattle.shared_core.specs.Stands.{Chooses, Moves, SettlesSo, Shown, tables, work_of}
use Rattle.shared_core.proofs.Keeping.{tables_chosen}
use Rattle.shared_core.specs.declared.router.Router.{Router}

pub if_ok : {T E : Type 0} (r : Result T E) (P Q : Type 0) → (P → Q) → OnOk r P → OnOk r Q
if_ok (Ok x) P Q so is = so is
if_ok (Err e) P Q so is = tt

-- One deed.
pub settles_so : (step : Settling) (old new : Router) → MaySettle old.texts step (tables old) → IsSame (tables new) (settled step (tables old))
    → new.roomy ≡ old.roomy → new.came ≡ old.came → new.texts ≡ old.texts → work_of new ≡ work_of old → SettlesSo old new
settles_so step old new may same roomy came texts work = record {
  settles = settles_one old.texts step (tables old) (tables new) (record { may = may; same = same });
  roomy = roomy;
  came = came;
  texts = texts;
  work = work;
}

-- A link is readied, and that is noted of the client.

abbrev note_at : Option LinkId → Option Client → ClientNote
note_at at (Some row) = record row.note { readied = at }
note_at at None = record { slot = 0; key = None; readied = None; served = false; broken = false; counted = 0 }

noted_so : (at : Option LinkId) (row : Option Client) → option_map (with_readied at) row ≡ option_map (with_note (note_at at row)) row
noted_so at (Some row) = refl
noted_so at None = refl

noted_by : (texts : Texts) (l : LinkId) (who : Option ClientNo) (c : ClientNo) (at : Option LinkId) (t now : Tabled)
    → IsSame now (client_changed c (with_readied at) (readied l who t)) → Settles texts t now
noted_by texts l who c at t now same =
    settles_along texts t (readied l who t) now
    (settles_one texts (Readies l who) t (readied l who t) (record { may = tt; same = same_itself (readied l who t) }))
    (settles_one texts (Notes c (note_at at (t.clients c))) (readied l who t) now (record {
      may = tt;
      same = record {
        clients = λ other. same.clients other
            ∙ ap (λ (row : Option Client). if nat_eq c.0 other.0 then row else t.clients other) (noted_so at (t.clients c));
        numbers = same.numbers;
        links = same.links;
      };
    }))

pub notes_so : (l : LinkId) (who : Option ClientNo) (c : ClientNo) (at : Option LinkId) (old new : Router)
    → IsSame (tables new) (client_changed c (with_readied at) (readied l who (tables old))) → new.roomy ≡ old.roomy → new.came ≡ old.came
    → new.texts ≡ old.texts → work_of new ≡ work_of old → SettlesSo old new
notes_so l who c at old new same roomy came texts work =
    record { settles = noted_by old.texts l who c at (tables old) (tables new) same; roomy = roomy; came = came; texts = texts; work = work }

-- All of them.

pub record HasSettled (old new : Router) : Type 0 where
  pub settles : SettlesSo old new
  pub moves : Moves old new

pub settles_none : (r : Router) → HasSettled r r
settles_none r = record {
  settles = record { settles = record { steps = []; path = same_itself (tables r) }; roomy = refl; came = refl; texts = refl; work = refl };
  moves = record { goes = still_goes r.marked; client = refl; link = refl };
}

pub settles_more : (a b c : Router) → HasSettled a b → SettlesSo b c → Moves b c → HasSettled a c
settles_more a b c first settles moves = record {
  settles = record {
    settles = settles_along a.texts (tables a) (tables b) (tables c) first.settles.settles
        (subst (λ (k : Texts). Settles k (tables b) (tables c)) first.settles.texts settles.settles);
    roomy = settles.roomy ∙ first.settles.roomy;
    came = settles.came ∙ first.settles.came;
    texts = settles.texts ∙ first.settles.texts;
    work = settles.work ∙ first.settles.work;
  };
  moves = record {
    goes = goes_along a.marked b.marked c.marked first.moves.goes moves.goes;
    client = moves.client ∙ first.moves.client;
    link = moves.link ∙ first.moves.link;
  };
}

-- what is chosen by is of no matter
pub settles_chosen : (a b c : Router) → SettlesSo a b → Chooses b c → SettlesSo a c
settles_chosen a b c settles chosen = record {
  settles = subst (λ (t : Tabled). Settles a.texts (tables a) t) (sym (tables_chosen b c chosen)) settles.settles;
  roomy = ap (λ (s : Shown). s.roomy) chosen.same ∙ settles.roomy;
  came = ap (λ (s : Shown). s.came) chosen.same ∙ settles.came;
  texts = ap (λ (s : Shown). s.texts) chosen.same ∙ settles.texts;
  work = ap (λ (s : Shown). s.work) chosen.same ∙ settles.work;
}

pub chosen_settles : (a b : Router) → Chooses a b → SettlesSo a b
chosen_settles a b chosen = settles_chosen a a b (settles_none a).settles chosen
