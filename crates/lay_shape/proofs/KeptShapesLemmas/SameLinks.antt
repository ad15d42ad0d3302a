-- What of contexts stays with their links.
use Rattle.std.proofs.Common.{◌≡◌, inl, inr, ℕ, zero, suc, ◌≤◌, ◌&&◌, Bool, true, false, List, [], ◌∷◌, length, refl, ap, sym, ◌∙◌, arith, Option, Some, if◌then◌else◌, map, slice_index, slice_index_or}
use Rattle.std.proofs.lemmas.Bool.{cases_lt}
use Rattle.std.proofs.Math.Path.{fun_ext}
use Rattle.lay_box_tree.specs.BoxColumns.{box_at}
use Rattle.lay_box_tree.specs.Containers.{box_parent}
use Rattle.lay_box_tree.specs.declared.box_tree.BoxKind.{BoxKind}
use Rattle.lay_box_tree.specs.declared.box_tree.BoxKind.TheVariants.{Text}
use Rattle.lay_box_tree.specs.declared.box_tree.BoxNode.{BoxNode}
use Rattle.lay_contexts.specs.Contexts.{Context, boxes_in, context_at, no_context}
use Rattle.lay_positioned.specs.Absolute.{is_absolute_flow, is_fixed_position, is_own_absolute, is_own_fixed}
use Rattle.lay_positioned.specs.Holders.{can_hold, holder_for, is_holder, is_holder_at, nearest_in}
use Rattle.lay_shape.specs.Keys.{node_of}
use Rattle.lay_after_edits.specs.Contexts.Links.{AreRestyled, HasLinks}
use Rattle.lay_after_edits.specs.Contexts.Unstyled.{Unstyled, all_unstyled, bare_kind, unstyled}
use Rattle.lay_shape.proofs.Cited.{column}
use Rattle.lay_style.specs.Positions.{is_positioned}

-- a text holds no absolutely positioned box, whichever it is
bare-holds : (k : BoxKind) → can_hold (bare_kind k) ≡ can_hold k
bare-holds (Text text) = refl
bare-holds _ = refl

bare-holders : (xs : List BoxNode) → map is_holder xs ≡ map (λ b. is_positioned b.style.position && can_hold (bare_kind b.kind)) xs
bare-holders xs = ap (λ (f : BoxNode → Bool). map f xs) (fun_ext (λ b. ap (λ (h : Bool). is_positioned b.style.position && h) (sym (bare-holds b.kind))))

-- boxes that are the same but for their styles and texts
module _ (xs ys : List BoxNode) (e : all_unstyled xs ≡ all_unstyled ys) where
  pub same-absolute : is_own_absolute xs ≡ is_own_absolute ys
  same-absolute = ap (λ bs. slice_index_or bs 0 false) (column (λ u. is_absolute_flow u.flow) xs ys e)

  pub same-fixed : is_own_fixed xs ≡ is_own_fixed ys
  same-fixed = ap (λ bs. slice_index_or bs 0 false) (column (λ u. is_fixed_position u.position) xs ys e)

  same-holder : (k : ℕ) → is_holder_at xs k ≡ is_holder_at ys k
  same-holder k = ap (λ bs. slice_index_or bs k false) (bare-holders xs ∙ (column (λ u. is_positioned u.position && can_hold u.kind) xs ys e ∙ sym (bare-holders ys)))

  same-parent : (k : ℕ) → box_parent xs k ≡ box_parent ys k
  same-parent k = ap (λ ps. slice_index ps k) (column (λ u. u.parent) xs ys e)

  abbrev next : Bool → ℕ → Option ℕ → Option ℕ
  next holds p outside = if holds then Some p else outside

  same-nearest : (turns k : ℕ) → nearest_in turns xs k ≡ nearest_in turns ys k
  same-nearest zero k = refl
  same-nearest (suc turns) k =
      ap (λ (h : Bool). next h (box_parent xs k) (nearest_in turns xs (box_parent xs k))) (same-holder (box_parent xs k))
      ∙ (ap (next (is_holder_at ys (box_parent xs k)) (box_parent xs k)) (same-nearest turns (box_parent xs k))
      ∙ ap (λ (p : ℕ). next (is_holder_at ys p) p (nearest_in turns ys p)) (same-parent k))

  pub same-holder-for : (fixed : Bool) (k : ℕ) → holder_for fixed xs k ≡ holder_for fixed ys k
  same-holder-for true k = refl
  same-holder-for false k = same-nearest k k

same-head : (x y : Unstyled) (xs ys : List Unstyled) → x ∷ xs ≡ y ∷ ys → x ≡ y
same-head x y xs ys e = cc

pub same-first : (xs ys : List BoxNode) → all_unstyled xs ≡ all_unstyled ys → (box_at xs 0).node ≡ (box_at ys 0).node
same-first [] [] e = refl
same-first [] (y ∷ ys) e = absurd cc
same-first (x ∷ xs) [] e = absurd cc
same-first (x ∷ xs) (y ∷ ys) e = ap (λ (u : Unstyled). u.node) (same-head (unstyled x) (unstyled y) (all_unstyled xs) (all_unstyled ys) e)

past : (cs : List Context) (i : ℕ) → length cs ≤ i → context_at cs i ≡ no_context
past [] i le = refl
past (c ∷ cs) zero le = absurd (omega (arith, le))
past (c ∷ cs) (suc i) le = past cs i (omega (arith, le))

same-links : (c e : Context) → e ≡ c → HasLinks c e
same-links c e is = record {
  place = ap (λ (x : Context). x.place) is;
  outer = ap (λ (x : Context). x.outer) is;
  outer_box = ap (λ (x : Context). x.outer_box) is;
  inner = ap (λ (x : Context). x.inner) is;
  boxes = ap (λ (x : Context). all_unstyled x.boxes) is;
}

-- of each number, also where there is no context
pub links-at : (contexts later : List Context) (made : List Bool) → AreRestyled contexts later made → (i : ℕ) → HasLinks (context_at contexts i) (context_at later i)
links-at contexts later made are i = elim (cases_lt i (length contexts)) [
  | inl lt ↦ are.links i lt
  | inr behind ↦ same-links (context_at contexts i) (context_at later i) (past later i (omega (arith, behind, are.count)) ∙ sym (past contexts i behind))
]

pub same-node : (contexts later : List Context) (made : List Bool) → AreRestyled contexts later made → (i : ℕ) → node_of later i ≡ node_of contexts i
same-node contexts later made are i = same-first (boxes_in later i) (boxes_in contexts i) (links-at contexts later made are i).boxes
