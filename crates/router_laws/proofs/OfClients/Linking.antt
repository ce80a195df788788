-- The client of a link, by its row.
use Rattle.std.specs.Prelude.{◌≡◌, ℕ, Bool, true, false, All, cond, filter, fold, if◌then◌else◌, is_some, List, [], ◌∷◌, ◌++◌, Option, Some, None}
use Rattle.std.specs.List.{flat_map}
use Rattle.std.proofs.Common.{refl, sym, ap, ◌∙◌, subst}
use Rattle.std.proofs.lemmas.Bool.{true≢false}
use Rattle.std.proofs.lemmas.List.Elements.{All-head, All-tail, All-weaker}
use Rattle.mx_base.specs.declared.names.LinkId.{LinkId}
use Rattle.mx_base.specs.declared.tag.Tag.{Tag}
use Rattle.mx_wire.specs.Log.{is_link, link_of, wrote_bytes}
use Rattle.mx_wire.specs.declared.entry.Entry.{Entry}
use Rattle.mx_wire.specs.declared.entry.Entry.TheVariants.{Wrote}
use Rattle.client_session.specs.Setups.{Setup as Service}
use Rattle.private_model.proofs.Maps.{client_of}
use Rattle.private_model.specs.Names.{ClientNo}
use Rattle.private_model.specs.Story.{Gone, Left, is_client, is_link_id}
use Rattle.log_story.specs.Clients.{client_leaves}
use Rattle.log_story.specs.Tale as tales
use Rattle.log_story.specs.Tale.{Tale, is_to_server, tell}
use Rattle.log_story.specs.Telling.{is_lost_or_left}
use Rattle.step_laws.specs.Seats.{IsSeated, seats}
use Rattle.core_tables.specs.Tables.{Tabled}
use Rattle.core_tables.specs.declared.client.Client.{Client}
use Rattle.core_stands.specs.Clients.{IsClient, IsClientOr}
use Rattle.core_stands.specs.Grounds.{Ground}
use Rattle.core_stands.specs.Stands.{IsAt, IsKnown, Stands}
use Rattle.core_laws.proofs.OfArrival.Finding.{at-known, client-same, link-same, of-known}
use Rattle.core_laws.specs.entry.Dues.{written_by}
use Rattle.router_laws.specs.clients.Speaks.{IsLinkOf}

-- those of a link leave, if they are those of a number
abbrev leaving : Tale → tales.Client → Tale
leaving tale x = tell (Left x.number) tale

abbrev of_number : ClientNo → List tales.Client → List tales.Client
of_number c xs = filter (λ (x : tales.Client). is_client x.number c) xs

left_of : (link : LinkId) (c : ClientNo) (xs : List tales.Client) (tale : Tale)
    → All (λ (x : tales.Client). is_link_id x.link link ≡ is_client x.number c) xs
    → fold (client_leaves link) tale xs ≡ fold leaving tale (of_number c xs)
left_of link c [] tale same = refl
left_of link c (x ∷ xs) tale same =
    by (is_client x.number c) (All-head (λ (x : tales.Client). is_link_id x.link link ≡ is_client x.number c) x xs same)
    (λ other. left_of link c xs other (All-tail (λ (x : tales.Client). is_link_id x.link link ≡ is_client x.number c) x xs same)) where
      by : (b : Bool) → is_link_id x.link link ≡ b → ((other : Tale) → fold (client_leaves link) other xs ≡ fold leaving other (of_number c xs))
          → fold (client_leaves link) (client_leaves link tale x) xs ≡ fold leaving tale (cond b (x ∷ of_number c xs) (of_number c xs))
      by true here later = ap (λ (b : Bool). fold (client_leaves link) (if b then leaving tale x else tale) xs) here ∙ later (leaving tale x)
      by false aside later = ap (λ (b : Bool). fold (client_leaves link) (if b then leaving tale x else tale) xs) aside ∙ later tale

-- an entry that isn't a write writes nothing

none_by : (e : Entry) → wrote_bytes e ≡ [] → (b : Bool) → flat_map wrote_bytes (if b then e ∷ [] else []) ≡ []
none_by e none true = ap (λ (xs : List ℕ). xs ++ []) none
none_by e none false = refl

pub unwritten : (e : Entry) → wrote_bytes e ≡ [] → (l : LinkId) → written_by l e ≡ []
unwritten e none l = none_by e none (is_link l (link_of e))

module _ (service : Service) (g : Ground) (t : Tabled) (link : LinkId) (c : ClientNo) (row : Client) (stands : Stands service g t)
    (its : IsLinkOf link c row t) where
  abbrev found : (client : tales.Client) × IsKnown g c client × (client.link ≡ link) × (is_some (t.clients c) ≡ true)
  found = stands.clients.named link c its.numbered

  abbrev pub client_there : tales.Client
  client_there = found.0

  pub known : IsKnown g c client_there
  known = found.1

  pub link_is : client_there.link ≡ link
  link_is = found.2

  pub at_client : IsAt g t client_there
  at_client = at-known g t c client_there stands.clients known

  pub row_there : t.clients client_there.number ≡ Some row
  row_there = ap t.clients known.number ∙ its.there

  pub is_client_row : IsClient g client_there row
  is_client_row = subst (λ (r : Option Client). IsClientOr g client_there r) row_there at_client.row

  pub off_server : is_to_server g.tale link ≡ false
  off_server = ap (is_to_server g.tale) (sym link_is) ∙ at_client.aside

  pub alone_there : All (λ (other : tales.Client). is_link_id other.link link ≡ true → other.number ≡ c) g.tale.clients
  alone_there =
      All-weaker (λ (other : tales.Client). is_link_id other.link client_there.link ≡ true → other.number ≡ client_there.number)
      (λ (other : tales.Client). is_link_id other.link link ≡ true → other.number ≡ c)
      (λ other alone same. alone (ap (is_link_id other.link) link_is ∙ same) ∙ known.number) g.tale.clients at_client.alone

  number_of_link : (x : tales.Client) → IsSeated g.tale x → is_link_id x.link link ≡ true → x.number ≡ c
  number_of_link x seated same =
      of-known (λ (other : tales.Client). is_link_id other.link link ≡ true → other.number ≡ c) g x.number x (record { seated = seated; number = refl })
      alone_there same

  link_of_number : (x : tales.Client) → IsAt g t x → x.number ≡ c → x.link ≡ link
  link_of_number x at same =
      let row_of : IsClient g x row = subst (λ (r : Option Client). IsClientOr g x r) (ap t.clients same ∙ its.there) at.row in
      sym row_of.who.link ∙ is_client_row.who.link ∙ link_is

  -- of its link, or of its number
  pub same_test : (x : tales.Client) → IsAt g t x → (is_link_id x.link link ≡ true → x.number ≡ c) → is_link_id x.link link ≡ is_client x.number c
  same_test x at alone = by (is_link_id x.link link) refl (is_client x.number c) refl where
    by : (a : Bool) → is_link_id x.link link ≡ a → (b : Bool) → is_client x.number c ≡ b → is_link_id x.link link ≡ is_client x.number c
    by true here true mine = here ∙ sym mine
    by false aside false other = aside ∙ sym other
    by true here false other = absurd (true≢false (sym (client-same x.number c (alone here)) ∙ other))
    by false aside true mine =
        absurd (true≢false (sym (link-same x.link link (link_of_number x at (client_of x.number c mine))) ∙ aside))

  all_tests : All (λ (x : tales.Client). is_link_id x.link link ≡ is_client x.number c) g.tale.clients
  all_tests = λ k d within. same_test _ (stands.clients.each k d within) (alone_there k d within)

  -- as its link is lost or closed, it leaves
  pub leaves_there : is_lost_or_left link g.tale ≡ tell (Left c) g.tale
  leaves_there =
      ap (λ (b : Bool). if b then tell (Gone link) g.tale else fold (client_leaves link) g.tale g.tale.clients) off_server
      ∙ left_of link c g.tale.clients g.tale all_tests
      ∙ ap (λ (xs : List tales.Client). fold leaving g.tale xs)
      (ap (seats g.tale) (sym known.number) ∙ known.seated)
      ∙ ap (λ (n : ClientNo). tell (Left n) g.tale) known.number

  -- what is written on its link is written to it
  pub none_written : (x : tales.Client) (tag : Tag) (bytes : List ℕ) → IsSeated g.tale x → is_client x.number c ≡ false → written_by x.link (Wrote link tag bytes) ≡ []
  none_written x tag bytes seated other = by (is_link_id x.link link) refl where
    by : (b : Bool) → is_link_id x.link link ≡ b → written_by x.link (Wrote link tag bytes) ≡ []
    by false aside = ap (λ (b : Bool). flat_map wrote_bytes (if b then Wrote link tag bytes ∷ [] else [])) aside
    by true here = absurd (true≢false (sym (client-same x.number c (number_of_link x seated here)) ∙ other))
