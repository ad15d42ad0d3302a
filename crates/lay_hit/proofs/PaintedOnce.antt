-- Each box and each text of a tree is a node's own, of one node.
use Rattle.std.proofs.Common.{◌≡◌, ℕ, zero, suc, ◌<◌, Bool, true, false, cond, ◌&&◌, List, [], ◌∷◌, ◌++◌, length, slice_get, refl, sym, ap, ◌∙◌, subst, arith, inl, inr, IfSome, if◌then◌else◌}
use Rattle.std.proofs.lemmas.Bool.{eq-eqb, ne_eqb, cases_eq, cases_order}
use Rattle.std.proofs.lemmas.List.Sorted.{IsPermutation-refl, IsPermutation-sym, IsPermutation-cons, IsPermutation-trans, IsPermutation-append, IsPermutation-append_right, IsPermutation-middle}
use Rattle.std.specs.Prelude.{◌==◌, IsPermutation}
use Rattle.std.specs.List.{filter, flat_map, range_with_len, AllByRecursion}
use Rattle.lay_style.specs.declared.style.Style.{Style}
use Rattle.lay_style.specs.ComputedStyle.{style_at}
use Rattle.lay_doc.specs.declared.node.Node.{Node}
use Rattle.lay_doc.specs.declared.node.Kind.{Kind}
use Rattle.lay_doc.specs.declared.node.Kind.TheVariants as kind
use Rattle.lay_doc.specs.Document.{Document, IsDocument, is_element_at}
use Rattle.lay_doc.specs.NewNodes.{is_element, is_text}
use Rattle.lay_frag.specs.declared.frag.Frag.{Frag}
use Rattle.lay_frag.specs.declared.frag.FragKind.{FragKind}
use Rattle.lay_frag.specs.declared.frag.FragKind.TheVariants as frag_kind
use Rattle.lay_frag.specs.Pieces.{frags_of}
use Rattle.lay_hit.specs.declared.kinds.PaintKind.{PaintKind}
use Rattle.lay_hit.specs.PaintKinds.{is_inline_paint, kind_at, node_kind, paint_kind}
use Rattle.lay_hit.specs.Pages.{Page, by_part, id_of, is_box_of, is_box_or_text, is_box_or_text_of, page_of}
use Rattle.lay_hit.specs.Painting.{painting}
use Rattle.lay_hit.specs.Hits.{painted}
use Rattle.lay_hit.specs.Wholes.{own_pieces}
use Rattle.lay_hit.specs.Questions.{is_painted}
use Rattle.lay_hit.specs.OrderedPages.{IsOrdered}
use Rattle.lay_hit.specs.Laws.{IsPieceOf, PaintingIsWalk, PaintsEachOnce, is_text_piece}
use Rattle.lay_hit.proofs.Counts.{in_order-same, one_if, range-times, same_times, times}
use Rattle.lay_hit.proofs.FrontSteps.{ordered}
use Rattle.lay_hit.proofs.NotedPieces.{painted_of, part_le}
use Rattle.lay_hit.proofs.PaintedBy.{all-range}
use Rattle.lay_hit.proofs.Walks.{each_once, walk, walk-whole}
use Rattle.lay_hit.proofs.WholePaint.{paint-whole}

-- One piece more in lists that each keep their own.
module _ (own : ℕ → Frag → Bool) where
  abbrev kept : List Frag → ℕ → List Frag
  kept fs k = filter (own k) fs

  none_more : (f : Frag) (fs : List Frag) (ks : List ℕ) → AllByRecursion (λ k. own k f ≡ false) ks → flat_map (kept (f ∷ fs)) ks ≡ flat_map (kept fs) ks
  none_more f fs [] all = refl
  none_more f fs (k ∷ ks) all = ap (λ (b : Bool). cond b (f ∷ filter (own k) fs) (filter (own k) fs) ++ flat_map (kept (f ∷ fs)) ks) all.0 ∙ ap (λ (ws : List Frag). filter (own k) fs ++ ws) (none_more f fs ks all.1)

  none_here : (f : Frag) (p : ℕ) (ks : List ℕ) → times p ks ≡ 0 → AllByRecursion (λ k. own k f ≡ (k == p)) ks → AllByRecursion (λ k. own k f ≡ false) ks
  none_here f p [] none all = tt
  none_here f p (k ∷ ks) none all = by_test (none_here f p ks) (k == p) refl
    where
      by_test : (times p ks ≡ 0 → AllByRecursion (λ k. own k f ≡ (k == p)) ks → AllByRecursion (λ k. own k f ≡ false) ks) → (b : Bool) → (k == p) ≡ b → AllByRecursion (λ k. own k f ≡ false) (k ∷ ks)
      by_test rest true e = absurd (let h : one_if (k == p) ≡ 1 = ap one_if e in omega (arith, h, none))
      by_test rest false e = (all.0 ∙ e, rest (omega (arith, none)) all.1)

  pub one_more : (f : Frag) (fs : List Frag) (p : ℕ) (ks : List ℕ) → times p ks ≡ 1 → AllByRecursion (λ k. own k f ≡ (k == p)) ks → IsPermutation (f ∷ flat_map (kept fs) ks) (flat_map (kept (f ∷ fs)) ks)
  one_more f fs p [] one all = absurd (omega arith)
  one_more f fs p (k ∷ ks) one all = by_test (one_more f fs p ks) (k == p) refl
    where
      by_test : (times p ks ≡ 1 → AllByRecursion (λ k. own k f ≡ (k == p)) ks → IsPermutation (f ∷ flat_map (kept fs) ks) (flat_map (kept (f ∷ fs)) ks)) → (b : Bool) → (k == p) ≡ b
          → IsPermutation (f ∷ (filter (own k) fs ++ flat_map (kept fs) ks)) (cond (own k f) (f ∷ filter (own k) fs) (filter (own k) fs) ++ flat_map (kept (f ∷ fs)) ks)
      by_test rest true e =
          let h : one_if (k == p) ≡ 1 = ap one_if e in
          let none = none_more f fs ks (none_here f p ks (omega (arith, h, one)) all.1) in
          subst (λ (b : Bool). IsPermutation (f ∷ (filter (own k) fs ++ flat_map (kept fs) ks)) (cond b (f ∷ filter (own k) fs) (filter (own k) fs) ++ flat_map (kept (f ∷ fs)) ks)) (sym (all.0 ∙ e))
          (subst (λ (ws : List Frag). IsPermutation (f ∷ (filter (own k) fs ++ flat_map (kept fs) ks)) (f ∷ (filter (own k) fs ++ ws))) (sym none) (IsPermutation-refl (f ∷ (filter (own k) fs ++ flat_map (kept fs) ks))))
      by_test rest false e =
          let h : one_if (k == p) ≡ 0 = ap one_if e in
          subst (λ (b : Bool). IsPermutation (f ∷ (filter (own k) fs ++ flat_map (kept fs) ks)) (cond b (f ∷ filter (own k) fs) (filter (own k) fs) ++ flat_map (kept (f ∷ fs)) ks)) (sym (all.0 ∙ e))
          (IsPermutation-trans (f ∷ (filter (own k) fs ++ flat_map (kept fs) ks)) (filter (own k) fs ++ f ∷ flat_map (kept fs) ks) (filter (own k) fs ++ flat_map (kept (f ∷ fs)) ks)
          (IsPermutation-sym (filter (own k) fs ++ f ∷ flat_map (kept fs) ks) (f ∷ (filter (own k) fs ++ flat_map (kept fs) ks)) (IsPermutation-middle (filter (own k) fs) f (flat_map (kept fs) ks)))
          (IsPermutation-append_right (filter (own k) fs) (f ∷ flat_map (kept fs) ks) (flat_map (kept (f ∷ fs)) ks) (rest (omega (arith, h, one)) all.1)))

  no_pieces : (ks : List ℕ) → flat_map (kept []) ks ≡ []
  no_pieces [] = refl
  no_pieces (k ∷ ks) = no_pieces ks

perm_each : (f g : ℕ → List Frag) (ks : List ℕ) → ((k : ℕ) → IsPermutation (f k) (g k)) → IsPermutation (flat_map f ks) (flat_map g ks)
perm_each f g [] each = IsPermutation-refl []
perm_each f g (k ∷ ks) each = IsPermutation-append (f k) (g k) (flat_map f ks) (flat_map g ks) (each k) (perm_each f g ks each)

-- a text isn't the root, and is painted inline
text_inline : (b : Bool) (k : Kind) (s : Style) → b ≡ false → is_text k ≡ true → is_inline_paint (paint_kind b k s) ≡ true
text_inline true k s e t = absurd cc
text_inline false (kind.Element colspan rowspan) s e t = absurd cc
text_inline false kind.Text s e t = refl
text_inline false (kind.Replaced w h) s e t = absurd cc

never_both : (k : Kind) → is_element k ≡ true → is_text k ≡ true → ⊥
never_both (kind.Element colspan rowspan) e t = cc
never_both kind.Text e t = cc
never_both (kind.Replaced w h) e t = cc

root_not_text : (ns : List Node) → is_element_at ns 0 ≡ true → is_text (node_kind ns 0) ≡ true → ⊥
root_not_text [] e t = cc
root_not_text (n ∷ ns) e t = never_both n.kind e t

module _ (d : Document) (styles : List Style) (is : IsDocument d) where
  abbrev own_test : ℕ → Frag → Bool
  own_test k f = if is_inline_paint (kind_at d.nodes styles k) then is_box_or_text_of (id_of d.nodes k) f else is_box_of (id_of d.nodes k) f

  own_is : (k : ℕ) (f : Frag) → own_test k f ≡ (is_painted f.kind (kind_at d.nodes styles k) && (f.node.0 == id_of d.nodes k))
  own_is k f = painted_of f.kind (kind_at d.nodes styles k) (f.node.0 == id_of d.nodes k)

  inline_at : (k : ℕ) → is_text (node_kind d.nodes k) ≡ true → is_inline_paint (kind_at d.nodes styles k) ≡ true
  inline_at zero t = absurd (root_not_text d.nodes is.root_element t)
  inline_at (suc k) t = text_inline (suc k == 0) (node_kind d.nodes (suc k)) (style_at styles (suc k)) (ne_eqb (suc k) 0 (λ e. omega (arith, e))) t

  same_id : (j k : ℕ) → j < length d.nodes → k < length d.nodes → id_of d.nodes j ≡ id_of d.nodes k → j ≡ k
  same_id j k low high e = elim (cases_order j k) [
    | inl same ↦ same
    | inr other ↦ elim other [
      | inl less ↦ absurd (is.ids j k less high e)
      | inr more ↦ absurd (is.ids k j more low (sym e))
    ]
  ]

  -- a line is painted with no node
  line_not : (x : FragKind) (k : PaintKind) → is_box_or_text x ≡ false → is_painted x k ≡ false
  line_not frag_kind.Box k e = absurd cc
  line_not frag_kind.Line k e = refl
  line_not frag_kind.Text k e = absurd cc

  shown : (x : FragKind) (k : PaintKind) → is_box_or_text x ≡ true → (is_text_piece x ≡ true → is_inline_paint k ≡ true) → is_painted x k ≡ true
  shown frag_kind.Box k e h = refl
  shown frag_kind.Line k e h = absurd cc
  shown frag_kind.Text k e h = h refl

  -- a box or a text is painted with its node alone
  own_at : (f : Frag) → is_box_or_text f.kind ≡ true → (piece : IsPieceOf d f) → (k : ℕ) → k < length d.nodes → own_test k f ≡ (k == piece.at)
  own_at f box piece k within = own_is k f ∙ elim (cases_eq k piece.at) [
    | inl same ↦ tests (is_painted f.kind (kind_at d.nodes styles k)) (f.node.0 == id_of d.nodes k)
        (shown f.kind (kind_at d.nodes styles k) box (λ t. inline_at k (subst (λ (j : ℕ). is_text (node_kind d.nodes j) ≡ true) (sym same) (piece.text t))))
        (eq-eqb f.node.0 (id_of d.nodes k) (sym piece.node ∙ ap (id_of d.nodes) (sym same))) ∙ sym (eq-eqb k piece.at same)
    | inr other ↦ none (is_painted f.kind (kind_at d.nodes styles k)) (f.node.0 == id_of d.nodes k)
        (ne_eqb f.node.0 (id_of d.nodes k) (λ e. other (same_id k piece.at within piece.within (sym e ∙ sym piece.node)))) ∙ sym (ne_eqb k piece.at other)
  ]
    where
      tests : (a b : Bool) → a ≡ true → b ≡ true → (a && b) ≡ true
      tests true b e h = h
      tests false b e h = absurd cc

      none : (a b : Bool) → b ≡ false → (a && b) ≡ false
      none true b e = e
      none false b e = refl

  pieces_once : (fs : List Frag) → ((k : ℕ) → k < length fs → IfSome (slice_get fs k) (IsPieceOf d)) → IsPermutation (filter (λ f. is_box_or_text f.kind) fs) (flat_map (kept own_test fs) (range_with_len 0 (length d.nodes)))
  pieces_once [] each = subst (λ (ws : List Frag). IsPermutation [] ws) (sym (no_pieces own_test (range_with_len 0 (length d.nodes)))) (IsPermutation-refl [])
  pieces_once (f ∷ fs) each = by_test (pieces_once fs (λ k low. each (suc k) (omega (arith, low)))) (is_box_or_text f.kind) refl
    where
      by_test : IsPermutation (filter (λ g. is_box_or_text g.kind) fs) (flat_map (kept own_test fs) (range_with_len 0 (length d.nodes))) → (b : Bool) → is_box_or_text f.kind ≡ b
          → IsPermutation (cond b (f ∷ filter (λ g. is_box_or_text g.kind) fs) (filter (λ g. is_box_or_text g.kind) fs)) (flat_map (kept own_test (f ∷ fs)) (range_with_len 0 (length d.nodes)))
      by_test rest true e =
          let piece = each 0 (omega arith) in
          IsPermutation-trans (f ∷ filter (λ g. is_box_or_text g.kind) fs) (f ∷ flat_map (kept own_test fs) (range_with_len 0 (length d.nodes))) (flat_map (kept own_test (f ∷ fs)) (range_with_len 0 (length d.nodes)))
          (IsPermutation-cons f (filter (λ g. is_box_or_text g.kind) fs) (flat_map (kept own_test fs) (range_with_len 0 (length d.nodes))) rest)
          (one_more own_test f fs piece.at (range_with_len 0 (length d.nodes)) (range-times (length d.nodes) 0 piece.at (omega arith) (let w = piece.within in omega (arith, w)))
          (all-range (λ k. own_test k f ≡ (k == piece.at)) 0 (length d.nodes) (λ k low high. own_at f e piece k (omega (arith, high)))))
      by_test rest false e =
          subst (λ (ws : List Frag). IsPermutation (filter (λ g. is_box_or_text g.kind) fs) ws)
          (sym (none_more own_test f fs (range_with_len 0 (length d.nodes)) (all-range (λ k. own_test k f ≡ false) 0 (length d.nodes)
          (λ k low high. own_is k f ∙ ap (λ (b : Bool). b && (f.node.0 == id_of d.nodes k)) (line_not f.kind (kind_at d.nodes styles k) e)))))
          rest

  -- a node's own pieces are those, by their parts
  own_same : (fs : List Frag) (k : ℕ) → IsPermutation (kept own_test fs k) (own_pieces (page_of d.nodes styles fs) k)
  own_same fs k = by_kind (is_inline_paint (kind_at d.nodes styles k))
    where
      by_kind : (b : Bool) → IsPermutation (filter (λ f. if b then is_box_or_text_of (id_of d.nodes k) f else is_box_of (id_of d.nodes k) f) fs)
          (if b then by_part (filter (is_box_or_text_of (id_of d.nodes k)) fs) else by_part (filter (is_box_of (id_of d.nodes k)) fs))
      by_kind true = in_order-same part_le (filter (is_box_or_text_of (id_of d.nodes k)) fs)
      by_kind false = in_order-same part_le (filter (is_box_of (id_of d.nodes k)) fs)

  painting_same : (fs : List Frag) → IsPermutation (flat_map (own_pieces (page_of d.nodes styles fs)) (range_with_len 0 (length d.nodes))) (painting (page_of d.nodes styles fs))
  painting_same fs =
      let page : Page = page_of d.nodes styles fs in
      let o : IsOrdered page = ordered d styles fs is in
      subst (λ (ws : List Frag). IsPermutation (flat_map (own_pieces page) (range_with_len 0 (length d.nodes))) ws)
      (sym (paint-whole page o page.count 0 (omega arith) is.some refl ∙ walk-whole page o page.count 0))
      (same_times (own_pieces page) (range_with_len 0 (length d.nodes)) (walk page o page.count 0) (λ j. sym (each_once page o j)))

pub paints_each_once_lem : PaintsEachOnce
paints_each_once_lem d styles tree is pieces =
    let fs : List Frag = frags_of tree in
    IsPermutation-trans (filter (λ f. is_box_or_text f.kind) fs) (flat_map (kept (own_test d styles is) fs) (range_with_len 0 (length d.nodes))) (painted d styles tree) (pieces_once d styles is fs pieces)
    (IsPermutation-trans (flat_map (kept (own_test d styles is) fs) (range_with_len 0 (length d.nodes))) (flat_map (own_pieces (page_of d.nodes styles fs)) (range_with_len 0 (length d.nodes))) (painted d styles tree)
    (perm_each (kept (own_test d styles is) fs) (own_pieces (page_of d.nodes styles fs)) (range_with_len 0 (length d.nodes)) (own_same d styles is fs))
    (painting_same d styles is fs))

pub painting_is_walk_lem : PaintingIsWalk
painting_is_walk_lem d styles tree is = paint-whole (page_of d.nodes styles (frags_of tree)) (ordered d styles (frags_of tree) is) (length d.nodes) 0 (omega arith) is.some refl
