-- Two nodes of one kind with alike styles and texts generate the same box by themselves.
use Rattle.std.proofs.Common.{◌≡◌, inl, inr, ℕ, zero, suc, ◌<◌, ◌==◌, Bool, true, false, List, [], ◌∷◌, length, refl, ap, sym, ◌∙◌, arith, Option, Some, if◌then◌else◌, option_map, slice_get, slice_index_or}
use Rattle.std.proofs.lemmas.Bool.{cases_lt}
use Rattle.std.proofs.lemmas.Option.{slice_get_past}
use Rattle.lay_style.specs.declared.style.Style.{Style}
use Rattle.lay_style.specs.declared.style_words.Display.{Display}
use Rattle.lay_style.specs.declared.style_words.Float.{Float}
use Rattle.lay_style.specs.declared.style_words.Overflow.{Overflow}
use Rattle.lay_style.specs.declared.style_words.Position.{Position}
use Rattle.lay_style.specs.declared.style_words.WhiteSpace.{WhiteSpace}
use Rattle.lay_style.specs.ComputedStyle.{style_at}
use Rattle.lay_doc.specs.declared.node.Kind.{Kind}
use Rattle.lay_doc.specs.declared.node.Kind.TheVariants.{Element, Replaced, Text}
use Rattle.lay_doc.specs.declared.node.Node.{Node}
use Rattle.lay_doc.specs.declared.node.NodeId.{NodeId}
use Rattle.lay_box_tree.specs.declared.box_tree.Flow.{Flow}
use Rattle.lay_box_tree.specs.declared.box_tree.Flow.TheVariants.{InFlow, Floating, Absolute}
use Rattle.lay_boxgen.specs.declared.facts.Facts.{Facts}
use Rattle.lay_boxgen.specs.declared.facts.Form.{Form}
use Rattle.lay_boxgen.specs.declared.facts.Form.TheVariants as form
use Rattle.lay_boxgen.specs.declared.facts.TextForm.TheVariants.{Seen}
use Rattle.lay_boxgen.specs.Contexts.{box_at, box_of_node}
use Rattle.lay_boxgen.specs.Display.{element_form, flow_of, is_floated, is_out_of_flow_position, replaced_display, used_display}
use Rattle.lay_boxgen.specs.NodeBoxes.{establishes_context, form_of, node_box, node_flow, replaced_form}
use Rattle.lay_boxgen.specs.WhiteSpace.{text_form, white_form}
use Rattle.lay_after_edits.proofs.Cited.{SameNode}
use Rattle.lay_after_edits.specs.Contexts.Reach.{AreTextsAlike, IsAlike, IsTextSeen}

-- what is read of a list at a place
pub read-there : {X : Type 0} (xs : List X) (k : ℕ) (d y : X) → k < length xs → slice_get xs k ≡ Some y → slice_index_or xs k d ≡ y
read-there [] k d y lt g = absurd (omega (arith, lt))
read-there (z ∷ zs) zero d y lt g = (let s : Some z ≡ Some y = g in let t : z ≡ y = cc in t)
read-there (z ∷ zs) (suc k) d y lt g = read-there zs k d y (omega (arith, lt)) g

abbrev flow_by : Position → Float → Flow
flow_by p f = if is_out_of_flow_position p then Absolute else (if is_floated f then Floating else InFlow)

flow-alike : (s t : Style) → IsAlike s t → flow_of s ≡ flow_of t
flow-alike s t a = ap (λ (p : Position). flow_by p s.float) a.position ∙ ap (flow_by t.position) a.float

form-alike : (r : Bool) (kind : Kind) (text : List ℕ) (s t : Style) → IsAlike s t → form_of r kind text s ≡ form_of r kind text t
form-alike r (Element colspan rowspan) text s t a =
    ap (λ (f : Flow). element_form colspan rowspan (used_display r f s.display)) (flow-alike s t a)
    ∙ ap (λ (d : Display). element_form colspan rowspan (used_display r (flow_of t) d)) a.display
form-alike r Text [] s t a = refl
form-alike r Text (b ∷ bs) s t a = ap (λ (w : WhiteSpace). Some (form.Text (text_form w (b ∷ bs)))) a.white_space
form-alike r (Replaced w h) text s t a =
    ap (λ (f : Flow). replaced_form w h (used_display r f (replaced_display s.display))) (flow-alike s t a)
    ∙ ap (λ (d : Display). replaced_form w h (used_display r (flow_of t) (replaced_display d))) a.display

node-flow-alike : (kind : Kind) (s t : Style) → IsAlike s t → node_flow kind s ≡ node_flow kind t
node-flow-alike (Element colspan rowspan) s t a = flow-alike s t a
node-flow-alike Text s t a = refl
node-flow-alike (Replaced w h) s t a = flow-alike s t a

form-seen : (r : Bool) (text : List ℕ) (s : Style) → IsTextSeen text → form_of r Text text s ≡ Some (form.Text Seen)
form-seen r [] s seen = absurd (let z : true ≡ false = seen in cc)
form-seen r (b ∷ bs) s seen = ap (λ (a : Bool). Some (form.Text (if a then white_form s.text.white_space (b ∷ bs) else Seen))) seen

form-by-seen : (r : Bool) (kind : Kind) (xs ys : List ℕ) (s : Style) → IsTextSeen xs → IsTextSeen ys → form_of r kind xs s ≡ form_of r kind ys s
form-by-seen r (Element colspan rowspan) xs ys s here there = refl
form-by-seen r Text xs ys s here there = form-seen r xs s here ∙ sym (form-seen r ys s there)
form-by-seen r (Replaced w h) xs ys s here there = refl

form-by-text : (r : Bool) (kind : Kind) (xs ys : List ℕ) (s : Style) → AreTextsAlike xs ys → form_of r kind xs s ≡ form_of r kind ys s
form-by-text r kind xs ys s (inl e) = ap (λ (x : List ℕ). form_of r kind x s) e
form-by-text r kind xs ys s (inr seen) = form-by-seen r kind xs ys s seen.0 seen.1

-- nodes at one place of two lists that differ in declarations alone, and in such texts
pub record AlikeNode (ns ms : List Node) (k : ℕ) : Type 0 where
  pub one : Node
  pub other : Node
  pub here : slice_get ns k ≡ Some one
  pub there : slice_get ms k ≡ Some other
  pub id : one.id ≡ other.id
  pub kind : one.kind ≡ other.kind
  pub text : AreTextsAlike one.text other.text

pub alike-of-same : (ns ms : List Node) (k : ℕ) → SameNode ns ms k k → AlikeNode ns ms k
alike-of-same ns ms k s = record { one = s.one; other = s.other; here = s.here; there = s.there; id = s.id; kind = s.kind; text = inl s.text }

abbrev made : ℕ → NodeId → Flow → Overflow → Option Form → Option Facts
made k id flow overflow o = option_map (λ x. record {
  node = id;
  place = k;
  form = x;
  anonymous = false;
  flow = flow;
  inner = establishes_context (k == 0) flow x overflow;
}) o

alike-box : (k : ℕ) (n o : Node) (s t : Style) → n.id ≡ o.id → n.kind ≡ o.kind → AreTextsAlike n.text o.text → IsAlike s t → node_box k n s ≡ node_box k o t
alike-box k n o s t id kind text a =
    ap (λ (i : NodeId). made k i (node_flow n.kind s) s.overflow (form_of (k == 0) n.kind n.text s)) id
    ∙ (ap (λ (x : Kind). made k o.id (node_flow x s) s.overflow (form_of (k == 0) x n.text s)) kind
    ∙ (ap (λ (f : Option Form). made k o.id (node_flow o.kind s) s.overflow f) (form-by-text (k == 0) o.kind n.text o.text s text)
    ∙ (ap (λ (f : Flow). made k o.id f s.overflow (form_of (k == 0) o.kind o.text s)) (node-flow-alike o.kind s t a)
    ∙ (ap (λ (v : Overflow). made k o.id (node_flow o.kind t) v (form_of (k == 0) o.kind o.text s)) a.overflow
    ∙ ap (made k o.id (node_flow o.kind t) t.overflow) (form-alike (k == 0) o.kind o.text s t a)))))

pub same-box : (ns ms : List Node) (ss ts : List Style) (k : ℕ) → AlikeNode ns ms k → IsAlike (style_at ss k) (style_at ts k) → box_at ms ts k ≡ box_at ns ss k
same-box ns ms ss ts k s a =
    ap (λ (o : Option Node). box_of_node k o (style_at ts k)) s.there
    ∙ (sym (alike-box k s.one s.other (style_at ss k) (style_at ts k) s.id s.kind s.text a) ∙ sym (ap (λ (o : Option Node). box_of_node k o (style_at ss k)) s.here))

-- behind the last node there is none
pub no-box : (ns ms : List Node) (ss ts : List Style) (k : ℕ) → length ns ≡ length ms → (k < length ns → ⊥) → box_at ms ts k ≡ box_at ns ss k
no-box ns ms ss ts k count behind = elim (cases_lt k (length ns)) [
  | inl lt ↦ absurd (behind lt)
  | inr past ↦ ap (λ (o : Option Node). box_of_node k o (style_at ts k)) (slice_get_past ms k (omega (arith, past, count)))
      ∙ sym (ap (λ (o : Option Node). box_of_node k o (style_at ss k)) (slice_get_past ns k past))
]
