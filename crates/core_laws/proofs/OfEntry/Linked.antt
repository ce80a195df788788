-- An entry of a link to a server is of the client whose session that carries, or of nobody.
use Rattle.std.specs.Prelude.{◌≡◌, Bool, true, false, All, if◌then◌else◌, List}
use Rattle.std.proofs.Common.{inl}
use Rattle.std.proofs.lemmas.List.Elements.{All-weaker}
use Rattle.mx_wire.specs.declared.entry.Entry.{Entry}
use Rattle.private_model.specs.Names.{ClientNo, LinkId}
use Rattle.private_model.specs.Story.{Freed}
use Rattle.log_story.specs.Servers.{freed_if_done, is_done, links_are_freed}
use Rattle.log_story.specs.Tale.{Client, Tale, link_in, tell, view_of}
use Rattle.step_laws.proofs.Giving.{one_in}
use Rattle.step_laws.specs.Seats.{is_its}
use Rattle.step_laws.specs.Steps.{IsOfOne, ended_now, told_then}
use Rattle.step_laws.specs.Taken.{IsPassed, is_called}
use Rattle.core_stands.specs.Grounds.{Ground, view_on}
use Rattle.core_laws.specs.entry.Kinds.{IsOnLink}

module _ (g : Ground) (e : Entry) (l : LinkId) (client : Client) (ended : List ClientNo) (is : IsOnLink g e l client)
    (ends : ended_now g.plan (told_then g.setup g.plan g.tale e) ≡ ended) where
  abbrev heard : Tale
  heard = told_then g.setup g.plan g.tale e

  abbrev Passes : Tale → Client → Type 0
  Passes tale c = is_its client c.number ≡ false → IsPassed g.setup g.plan (view_on g) e tale c

  abbrev Uncalled : Client → Type 0
  Uncalled c = is_its client c.number ≡ false → is_called g.plan heard.moment (view_on g) e c ≡ false

  -- whether the link is given back or not
  pass_in : (b : Bool) → All (Passes (if b then tell (Freed l) heard else heard)) (if b then tell (Freed l) heard else heard).clients
  pass_in true = All-weaker Uncalled (Passes (tell (Freed l) heard)) (λ c uncalled other. inl (uncalled other)) heard.clients is.others
  pass_in false = All-weaker Uncalled (Passes heard) (λ c uncalled other. inl (uncalled other)) heard.clients is.others

  pub of_link : links_are_freed g.setup g.plan heard ≡ freed_if_done g.setup g.plan heard l
      → IsOfOne g.setup g.plan g.tale e client ended (freed_if_done g.setup g.plan heard l)
  of_link first = record {
    first = first;
    seated = is.seated;
    single = is.single;
    passes = pass_in (is_done g.plan heard.moment (view_of g.setup heard) (heard.wires l) (link_in g.setup heard l));
    ends = ends;
  }

pub link_alone : (g : Ground) (e : Entry) (l : LinkId) (client : Client) (ended : List ClientNo) → IsOnLink g e l client
    → ended_now g.plan (told_then g.setup g.plan g.tale e) ≡ ended
    → IsOfOne g.setup g.plan g.tale e client ended (freed_if_done g.setup g.plan (told_then g.setup g.plan g.tale e) l)
link_alone g e l client ended is ends =
    of_link g e l client ended is ends
    (one_in g.setup g.plan l (told_then g.setup g.plan g.tale e).links (told_then g.setup g.plan g.tale e) is.to_server is.alone)
