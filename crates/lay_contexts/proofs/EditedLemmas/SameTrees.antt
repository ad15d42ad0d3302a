-- Nodes of two documents that are the same ones, wherever they stand, and so are their parents: they have the same styles, the same
-- boxes by themselves, and the same contexts around them.
use Rattle.std.proofs.Common.{◌≡◌, inl, inr, ℕ, zero, suc, ◌+◌, ◌<◌, ◌==◌, Bool, false, List, [], ◌∷◌, length, map, refl, ap, sym, subst, ◌∙◌, arith, IsTrue, Option, None, Some, option_map, slice_get, slice_index_or}
use Rattle.std.proofs.lemmas.Bool.{cases_lt, ne_eqb}
use Rattle.std.proofs.lemmas.Option.{slice_get_within as there}
use Rattle.lay_style.specs.declared.style.Style.{Style}
use Rattle.lay_style.specs.ComputedStyle.{HasStyles, computed_style, declarations_at, parent_style, style_at}
use Rattle.lay_style.specs.Values.{Declaration}
use Rattle.lay_doc.specs.declared.node.Kind.{Kind}
use Rattle.lay_doc.specs.declared.node.Node.{Node}
use Rattle.lay_doc.specs.declared.node.NodeId.{NodeId}
use Rattle.lay_doc.specs.Document.{declarations_of, parents_of}
use Rattle.lay_doc.specs.Tree.{IsTree}
use Rattle.lay_doc.proofs.NodeColumns.{length-parents}
use Rattle.lay_boxgen.specs.declared.facts.Facts.{Facts}
use Rattle.lay_boxgen.specs.declared.facts.Form.{Form}
use Rattle.lay_boxgen.specs.Contexts.{GeneratesBox, IsContextAt, below, box_at, box_of_node, has_box, is_marked, keeps, root}
use Rattle.lay_boxgen.specs.NodeBoxes.{establishes_context, form_of, node_flow}
use Rattle.lay_contexts.specs.ContextTree.{IsAround, further, parent, parent_of}

-- one node stands at k in the one list and at m in the other
pub record SameNode (ns ms : List Node) (k m : ℕ) : Type 0 where
  pub one : Node
  pub other : Node
  pub here : slice_get ns k ≡ Some one
  pub there : slice_get ms m ≡ Some other
  pub id : one.id ≡ other.id
  pub kind : one.kind ≡ other.kind
  pub text : one.text ≡ other.text

-- places that go together: the same nodes stand there, in the same order, and so do their parents
pub record SameTree (ns ms : List Node) (R : ℕ → ℕ → Type 0) : Type 0 where
  pub node : (k m : ℕ) → R k m → SameNode ns ms k m
  pub rising : (j l k m : ℕ) → R j l → R k m → j < k → l < m
  pub falling : (j l k m : ℕ) → R j l → R k m → l < m → j < k
  pub root : (k m : ℕ) → R k m → 0 < m → 0 < k
  pub parent : (k m : ℕ) → R k m → 0 < k → (0 < m) × R (parent_of ns k) (parent_of ms m)

abbrev pub back : (ℕ → ℕ → Type 0) → ℕ → ℕ → Type 0
back R m k = R k m

pub turned-node : (ns ms : List Node) (k m : ℕ) → SameNode ns ms k m → SameNode ms ns m k
turned-node ns ms k m s = record {
  one = s.other;
  other = s.one;
  here = s.there;
  there = s.here;
  id = sym s.id;
  kind = sym s.kind;
  text = sym s.text;
}

pub turned : (ns ms : List Node) (R : ℕ → ℕ → Type 0) → SameTree ns ms R → SameTree ms ns (back R)
turned ns ms R h = record {
  node = λ m k r. turned-node ns ms k m (h.node k m r);
  rising = λ l j m k a b less. h.falling j l k m a b less;
  falling = λ l j m k a b less. h.rising j l k m a b less;
  root = λ m k r positive. (h.parent k m r positive).0;
  parent = λ m k r positive. let up = h.root k m r positive in (up, (h.parent k m r up).1);
}

-- what stands in a column
pub or-map : {X : Type 0} (f : Node → X) (ns : List Node) (k : ℕ) (n : Node) (d : X) → slice_get ns k ≡ Some n → slice_index_or (map f ns) k d ≡ f n
or-map f [] k n d e = absurd cc
or-map f (x ∷ xs) zero n d e = let h : x ≡ n = cc in ap f h
or-map f (x ∷ xs) (suc k) n d e = or-map f xs k n d e

pub same-declarations : (ns ms : List Node) (k m : ℕ) (n o : Node) → slice_get ns k ≡ Some n → slice_get ms m ≡ Some o → n.decls ≡ o.decls
    → declarations_at (declarations_of ns) k ≡ declarations_at (declarations_of ms) m
same-declarations ns ms k m n o here elsewhere e = or-map (λ n. n.decls) ns k n [] here ∙ (e ∙ sym (or-map (λ n. n.decls) ms m o [] elsewhere))

-- the box of a node by itself, by what it has
abbrev plain_box : ℕ → Bool → NodeId → Kind → List ℕ → Style → Option Facts
plain_box p is_root id kind text s =
    option_map (λ x. record {
      node = id;
      place = p;
      form = x;
      anonymous = false;
      flow = node_flow kind s;
      inner = establishes_context is_root (node_flow kind s) x s.overflow;
    }) (form_of is_root kind text s)

abbrev pub at_place : ℕ → Facts → Facts
at_place p f = record f { place = p }

plain-moved : (k m : ℕ) (is_root : Bool) (id : NodeId) (kind : Kind) (text : List ℕ) (s : Style) → plain_box m is_root id kind text s ≡ option_map (at_place m) (plain_box k is_root id kind text s)
plain-moved k m is_root id kind text s = by (form_of is_root kind text s)
  where
    made : ℕ → Form → Facts
    made p x = record {
      node = id;
      place = p;
      form = x;
      anonymous = false;
      flow = node_flow kind s;
      inner = establishes_context is_root (node_flow kind s) x s.overflow;
    }

    by : (o : Option Form) → option_map (λ x. record {
      node = id;
      place = m;
      form = x;
      anonymous = false;
      flow = node_flow kind s;
      inner = establishes_context is_root (node_flow kind s) x s.overflow;
    }) o ≡ option_map (at_place m) (option_map (λ x. record {
      node = id;
      place = k;
      form = x;
      anonymous = false;
      flow = node_flow kind s;
      inner = establishes_context is_root (node_flow kind s) x s.overflow;
    }) o)
    by None = refl
    by (Some x) = refl

plain-is : (ns : List Node) (ss : List Style) (k : ℕ) (n : Node) → slice_get ns k ≡ Some n → box_at ns ss k ≡ plain_box k (k == 0) n.id n.kind n.text (style_at ss k)
plain-is ns ss k n e = ap (λ o. box_of_node k o (style_at ss k)) e

marked-there : (m : ℕ) (o : Option Facts) → is_marked (option_map (at_place m) o) ≡ is_marked o
marked-there m None = refl
marked-there m (Some f) = refl

box-there : (m : ℕ) (o : Option Facts) → has_box (option_map (at_place m) o) ≡ has_box o
box-there m None = refl
box-there m (Some f) = refl

keeps-there : (p m : ℕ) (a b : Option Facts) → keeps (option_map (at_place p) a) (option_map (at_place m) b) ≡ keeps a b
keeps-there p m None None = refl
keeps-there p m None (Some g) = refl
keeps-there p m (Some f) None = refl
keeps-there p m (Some f) (Some g) = refl

is-zero : (k m : ℕ) → (0 < k → 0 < m) → (0 < m → 0 < k) → (k == 0) ≡ (m == 0)
is-zero zero zero f g = refl
is-zero zero (suc m) f g = absurd (let h = g (omega arith) in omega (arith, h))
is-zero (suc k) zero f g = absurd (let h = f (omega arith) in omega (arith, h))
is-zero (suc k) (suc m) f g = ne_eqb (suc k) 0 (λ e. omega (arith, e)) ∙ sym (ne_eqb (suc m) 0 (λ e. omega (arith, e)))

module _ (ns ms : List Node) (ss ts : List Style) (R : ℕ → ℕ → Type 0) (h : SameTree ns ms R) where
  pub one-partner : (k m n : ℕ) → R k m → R k n → m ≡ n
  one-partner k m n a b = elim (cases_lt m n) [
    | inl low ↦ absurd (let z = h.falling k m k n a b low in omega (arith, z))
    | inr high ↦ elim (cases_lt n m) [
      | inl over ↦ absurd (let z = h.falling k n k m b a over in omega (arith, z))
      | inr under ↦ omega (arith, high, under)
    ]
  ]

  pub zeros : (k m : ℕ) → R k m → (k == 0) ≡ (m == 0)
  zeros k m r = is-zero k m (λ p. (h.parent k m r p).0) (λ p. h.root k m r p)

  pub within : (k m : ℕ) → R k m → k < length ns
  within k m r = let s = h.node k m r in there ns k s.one s.here

  -- the styles of the same node are the same, where those of its parent are
  module _ (declared : (k m : ℕ) → R k m → declarations_at (declarations_of ns) k ≡ declarations_at (declarations_of ms) m)
      (is_tree : IsTree (parents_of ns)) (a : HasStyles (parents_of ns) (declarations_of ns) ss) (b : HasStyles (parents_of ms) (declarations_of ms) ts) where
    same-parent : (k m : ℕ) → R k m → (0 < k → style_at ss (parent_of ns k) ≡ style_at ts (parent_of ms m)) → parent_style (parents_of ns) ss k ≡ parent_style (parents_of ms) ts m
    same-parent zero zero r e = refl
    same-parent zero (suc m) r e = absurd (let z = h.root zero (suc m) r (omega arith) in omega (arith, z))
    same-parent (suc k) zero r e = absurd (let z = (h.parent (suc k) zero r (omega arith)).0 in omega (arith, z))
    same-parent (suc k) (suc m) r e = e (omega arith)

    style-to : (n k m : ℕ) → k < n → R k m → style_at ss k ≡ style_at ts m
    style-to zero k m lt r = absurd (omega (arith, lt))
    style-to (suc n) k m lt r =
        let s = h.node k m r in
        let here : k < length (parents_of ns) = (let w = there ns k s.one s.here in omega (arith, w, length-parents ns)) in
        let elsewhere : m < length (parents_of ms) = (let w = there ms m s.other s.there in omega (arith, w, length-parents ms)) in
        let up = same-parent k m r (λ positive. (let l = is_tree.before k positive here in style-to n (parent_of ns k) (parent_of ms m) (omega (arith, l, lt)) (h.parent k m r positive).1)) in
        a.each k here
        ∙ (ap (λ (p : Style). computed_style p (declarations_at (declarations_of ns) k)) up
        ∙ (ap (λ (x : List Declaration). computed_style (parent_style (parents_of ms) ts m) x) (declared k m r)
        ∙ sym (b.each m elsewhere)))

    pub same-style : (k m : ℕ) → R k m → style_at ss k ≡ style_at ts m
    same-style k m r = style-to (k + 1) k m (omega arith) r

  -- where the styles are the same, so are the boxes
  module _ (styled : (k m : ℕ) → R k m → style_at ss k ≡ style_at ts m) where
    pub same-box : (k m : ℕ) → R k m → box_at ms ts m ≡ option_map (at_place m) (box_at ns ss k)
    same-box k m r =
        let s = h.node k m r in
        plain-is ms ts m s.other s.there
        ∙ (ap (λ (x : Bool). plain_box m x s.other.id s.other.kind s.other.text (style_at ts m)) (sym (zeros k m r))
        ∙ (ap (λ (i : NodeId). plain_box m (k == 0) i s.other.kind s.other.text (style_at ts m)) (sym s.id)
        ∙ (ap (λ (x : Kind). plain_box m (k == 0) s.one.id x s.other.text (style_at ts m)) (sym s.kind)
        ∙ (ap (λ (x : List ℕ). plain_box m (k == 0) s.one.id s.one.kind x (style_at ts m)) (sym s.text)
        ∙ (ap (λ (x : Style). plain_box m (k == 0) s.one.id s.one.kind s.one.text x) (sym (styled k m r))
        ∙ (plain-moved k m (k == 0) s.one.id s.one.kind s.one.text (style_at ss k)
        ∙ ap (option_map (at_place m)) (sym (plain-is ns ss k s.one s.here))))))))

    pub same-mark : (k m : ℕ) → R k m → is_marked (box_at ms ts m) ≡ is_marked (box_at ns ss k)
    same-mark k m r = ap is_marked (same-box k m r) ∙ marked-there m (box_at ns ss k)

    same-keep : (k m : ℕ) → R k m → 0 < k → keeps (box_at ms ts (parent_of ms m)) (box_at ms ts m) ≡ keeps (box_at ns ss (parent_of ns k)) (box_at ns ss k)
    same-keep k m r positive =
        let up = (h.parent k m r positive).1 in
        ap (λ (o : Option Facts). keeps o (box_at ms ts m)) (same-box (parent_of ns k) (parent_of ms m) up)
        ∙ (ap (λ (o : Option Facts). keeps (option_map (at_place (parent_of ms m)) (box_at ns ss (parent_of ns k))) o) (same-box k m r)
        ∙ keeps-there (parent_of ms m) m (box_at ns ss (parent_of ns k)) (box_at ns ss k))

    pub same-generation : (k : ℕ) → GeneratesBox ns ss k → (m : ℕ) → R k m → GeneratesBox ms ts m
    same-generation k (root has) m r =
        let z : m ≡ 0 = elim (cases_lt 0 m) [ inl over ↦ absurd (let w = h.root 0 m r over in omega (arith, w)) | inr low ↦ omega (arith, low) ] in
        let r0 : R 0 0 = subst (R 0) z r in
        subst (GeneratesBox ms ts) (sym z) (root (subst IsTrue (sym (ap has_box (same-box 0 0 r0) ∙ box-there 0 (box_at ns ss 0))) has))
    same-generation k (below j positive kept made) m r =
        let up = h.parent j m r positive in
        below m up.0 (subst IsTrue (sym (same-keep j m r positive)) kept) (same-generation (parent_of ns j) made (parent_of ms m) up.1)

    pub same-context : (k m : ℕ) → R k m → IsContextAt ns ss k → IsContextAt ms ts m
    same-context k m r c = record {
      establishes = subst IsTrue (sym (same-mark k m r)) c.establishes;
      generates = same-generation k c.generates m r;
    }

    pub same-around : (k a : ℕ) → IsAround ns ss k a → (m : ℕ) → R k m → (b : ℕ) × R a b × IsAround ms ts m b
    same-around k a (parent j positive e) m r =
        let up = h.parent j m r positive in
        (parent_of ms m, up.1, parent m up.0 (same-mark (parent_of ns j) (parent_of ms m) up.1 ∙ e))
    same-around k a (further j c positive e above) m r =
        let up = h.parent j m r positive in
        let rest = same-around (parent_of ns j) c above (parent_of ms m) up.1 in
        (rest.0, rest.1, further m rest.0 up.0 (same-mark (parent_of ns j) (parent_of ms m) up.1 ∙ e) rest.2)
