-- Contexts none of whose own nodes changed keep their boxes.
use Rattle.std.proofs.Common.{◌≡◌, inl, inr, ℕ, ◌<◌, Bool, false, List, length, refl, ap, sym, ◌∙◌, arith, slice_index}
use Rattle.std.proofs.lemmas.Bool.{cases_Bool}
use Rattle.lay_style.specs.declared.style.Style.{Style}
use Rattle.lay_style.specs.ComputedStyle.{style_at}
use Rattle.lay_doc.specs.declared.node.Node.{Node}
use Rattle.lay_doc.specs.Document.{Document, IsDocument, parents_of}
use Rattle.lay_after_edits.proofs.Cited.{context_within, got, length-parents}
use Rattle.lay_contexts.specs.ContextList.{AreContextsOf}
use Rattle.lay_contexts.specs.Contexts.{Context}
use Rattle.lay_after_edits.specs.Contexts.Changed.{AreAlikeTo, AreMadeAnew}
use Rattle.lay_after_edits.specs.Contexts.Links.{is_made}
use Rattle.lay_after_edits.specs.Contexts.Near.{AreReached}
use Rattle.lay_after_edits.specs.Contexts.Reach.{ArePlacesOf, IsAlike}
use Rattle.lay_after_edits.specs.Contexts.Rebuilt.{AreRebuilt, SameBoxes}
use Rattle.lay_after_edits.proofs.ContextsLemmas.AlikeBoxes.{AlikeNode}
use Rattle.lay_after_edits.proofs.ContextsLemmas.BuiltSteps.{boxes-before, context-before}
use Rattle.lay_after_edits.proofs.ContextsLemmas.Restyling.{same-alike}
use Rattle.lay_after_edits.proofs.ContextsLemmas.SameBoxes.{Stays, boxes-of-alike, boxes-stay}

pub as-many : (ns ms : List Node) → parents_of ms ≡ parents_of ns → length ms ≡ length ns
as-many ns ms parents = sym (length-parents ms) ∙ (ap length parents ∙ length-parents ns)

module _ (d e : Document) (ss ts : List Style) (made : List Bool) (anew : AreMadeAnew d.nodes e.nodes ss ts made) where
  stays-at : (k : ℕ) → k < length d.nodes → is_made made k ≡ false → Stays d.nodes e.nodes ss ts k
  stays-at k lt unflagged =
      let g = got d.nodes k lt in
      record {
        content = record { one = g.0; other = g.0; here = g.1; there = anew.nodes.same k lt unflagged ∙ g.1; id = refl; kind = refl; text = refl };
        style = anew.styles k lt unflagged;
      }

  module _ (alike : AreAlikeTo d.nodes e.nodes ss ts made (length d.nodes)) where
    alike-node : (k : ℕ) → k < length d.nodes → AlikeNode d.nodes e.nodes k
    alike-node k lt = elim (cases_Bool (is_made made k)) [
      | inl flag ↦ (let f = anew.nodes.form k lt in
          record { one = f.one; other = f.other; here = f.here; there = f.there; id = f.id; kind = f.kind; text = (alike k lt flag).text f.one f.other f.here f.there })
      | inr unflagged ↦ (let s = (stays-at k lt unflagged).content in
          record { one = s.one; other = s.other; here = s.here; there = s.there; id = s.id; kind = s.kind; text = inl s.text })
    ]

    alike-style : (k : ℕ) → k < length d.nodes → IsAlike (style_at ss k) (style_at ts k)
    alike-style k lt = elim (cases_Bool (is_made made k)) [
      | inl flag ↦ (alike k lt flag).style
      | inr unflagged ↦ same-alike (style_at ss k) (style_at ts k) (anew.styles k lt unflagged)
    ]

    same : SameBoxes d.nodes e.nodes ss ts
    same = boxes-of-alike d.nodes e.nodes ss ts anew.nodes.parents alike-node alike-style

    pub rebuilt-after-all : (contexts : List Context) (places : List ℕ) (reached : List Bool) → IsDocument d → IsDocument e → length ss ≡ length d.nodes → length ts ≡ length e.nodes
        → AreContextsOf d.nodes ss contexts → ArePlacesOf contexts places → AreReached d.nodes ss places made reached
        → AreRebuilt d.nodes e.nodes ss ts contexts places reached
    rebuilt-after-all contexts places reached doc other_doc count other_count of places_are is = record {
      places_are = places_are;
      flags = is.count ∙ places_are.count;
      ids = anew.nodes.ids;
      same = same;
      kept = λ i lt unflagged.
          (let here : i < length places = omega (arith, lt, places_are.count) in
          let context = context-before d ss contexts of places places_are i lt in
          let within = context_within d.nodes ss (slice_index places i) context in
          boxes-before d ss contexts of places places_are i lt
          ∙ sym (boxes-stay d e ss ts doc other_doc count other_count same (slice_index places i) within context
          (λ k in_nodes around. stays-at k in_nodes (is.around i k here unflagged in_nodes around))
          (stays-at (slice_index places i) within (is.own i here unflagged))));
    }
