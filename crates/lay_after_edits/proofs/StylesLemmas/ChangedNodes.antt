-- A change of one node leaves the parents of all, and the declarations of all others.
use Rattle.std.proofs.Common.{◌≡◌, ℕ, zero, suc, ◌<◌, ◌≤◌, List, [], ◌∷◌, length, get_or, refl, sym, ap, ◌∙◌, arith, inl, inr}
use Rattle.std.proofs.lemmas.Bool.{cases_lt}
use Rattle.lay_style.specs.Values.{Declaration}
use Rattle.lay_style.specs.ComputedStyle.{declarations_at}
use Rattle.lay_doc.specs.declared.node.Node.{Node}
use Rattle.lay_doc.specs.Changes.{changed_at}
use Rattle.lay_doc.specs.Document.{declarations_of, parents_of}
use Rattle.lay_doc.specs.Tree.{IsTree, end_of}
use Rattle.lay_after_edits.proofs.Cited.{column_stays, end_is_slot, length-parents, parent_behind}
use Rattle.lay_after_edits.specs.declared.styles.stretch.Stretch.{Stretch}
use Rattle.lay_after_edits.specs.Styles.Stretches.{earlier, none_of, subtree_at}
use Rattle.lay_after_edits.proofs.StylesLemmas.MovedStyles.{IsMoved}
use Rattle.lay_after_edits.proofs.StylesLemmas.StyleLists.{earlier_high, earlier_low}

declared_other : (p k : ℕ) (f : Node → Node) (ns : List Node) → (p ≡ k → ⊥)
    → declarations_at (declarations_of (changed_at p f ns)) k ≡ declarations_at (declarations_of ns) k
declared_other p k f [] other = refl
declared_other zero zero f (x ∷ xs) other = absurd (other refl)
declared_other zero (suc k) f (x ∷ xs) other = refl
declared_other (suc p) zero f (x ∷ xs) other = refl
declared_other (suc p) (suc k) f (x ∷ xs) other = declared_other p k f xs (λ e. other (ap suc e))

-- where the stretch stays, so do the places behind it
stays_behind : (s : Stretch) (k : ℕ) → s.from ≤ s.to → s.until ≡ s.to → (s.from ≤ k → s.to ≤ k) → earlier s k ≡ k
stays_behind s k le same outside = elim (cases_lt k s.from) [
  | inl low ↦ earlier_low s k low
  | inr high ↦ (let e = earlier_high s k high in let h = outside high in omega (arith, e, h, same))
]

-- all places stay, and all declarations but in the stretch
pub stays_moved : (parents news : List ℕ) (decls later : List (List Declaration)) (s : Stretch) → news ≡ parents → s.from ≤ s.to → s.until ≡ s.to → 0 < s.to → s.to ≤ length parents
    → ((k : ℕ) → (s.from ≤ k → s.to ≤ k) → declarations_at later k ≡ declarations_at decls k)
    → ((k : ℕ) → s.to ≤ k → k < length parents → s.from ≤ get_or parents k 0 → s.to ≤ get_or parents k 0)
    → IsMoved parents news decls later s
stays_moved parents news decls later s same le until some within declared behind =
    let len : length news ≡ length parents = ap length same in
    let read : (k : ℕ) → get_or news k 0 ≡ get_or parents k 0 = λ k. ap (λ (us : List ℕ). get_or us k 0) same in
    let outside : (k : ℕ) → s.to ≤ k → k < length news → s.from ≤ get_or news k 0 → s.to ≤ get_or news k 0 =
    λ k high lt from. (let r = read k in let b = behind k high (omega (arith, lt, len)) (omega (arith, from, r)) in omega (arith, b, r)) in
    record {
      starts = omega (arith, le, until);
      positive = omega (arith, some, until);
      some = some;
      ends = le;
      within = omega (arith, within, len);
      count = omega (arith, len, until);
      parent_before = λ k low. read k;
      declared_before = λ k low. declared k (λ from. absurd (omega (arith, low, from)));
      outside = outside;
      parent_behind = λ k high lt. stays_behind s (get_or news k 0) le until (outside k high lt)
          ∙ (read k ∙ ap (λ (m : ℕ). get_or parents m 0) (sym (stays_behind s k le until (λ _. high))));
      declared_behind = λ k high lt. declared k (λ _. high) ∙ ap (declarations_at decls) (sym (stays_behind s k le until (λ _. high)));
    }

pub changed_moved : (nodes : List Node) (p : ℕ) (f : Node → Node) → IsTree (parents_of nodes) → ((n : Node) → (f n).parent ≡ n.parent) → p < length nodes
    → IsMoved (parents_of nodes) (parents_of (changed_at p f nodes)) (declarations_of nodes) (declarations_of (changed_at p f nodes)) (subtree_at (parents_of nodes) p)
changed_moved nodes p f tree same has =
    let slot = end_is_slot (parents_of nodes) tree p (omega (arith, has, length-parents nodes)) in
    let above = slot.after in
    let within = slot.within in
    stays_moved (parents_of nodes) (parents_of (changed_at p f nodes)) (declarations_of nodes) (declarations_of (changed_at p f nodes)) (subtree_at (parents_of nodes) p)
    (column_stays (λ n. n.parent) f same p nodes) (omega (arith, above)) refl (omega (arith, above)) within
    (λ k outside. declared_other p k f nodes (λ e. (let h = outside (omega (arith, e)) in absurd (omega (arith, h, above, e)))))
    (λ k high lt from. parent_behind (parents_of nodes) tree p (end_of (parents_of nodes) p) slot k high lt from)

-- a change that leaves the declarations too
pub all_stay : (nodes : List Node) (p : ℕ) (f : Node → Node) → 0 < length nodes → ((n : Node) → (f n).parent ≡ n.parent) → ((n : Node) → (f n).decls ≡ n.decls)
    → IsMoved (parents_of nodes) (parents_of (changed_at p f nodes)) (declarations_of nodes) (declarations_of (changed_at p f nodes)) (none_of (length nodes))
all_stay nodes p f some same_parent same_decls =
    let l = length-parents nodes in
    stays_moved (parents_of nodes) (parents_of (changed_at p f nodes)) (declarations_of nodes) (declarations_of (changed_at p f nodes)) (none_of (length nodes))
    (column_stays (λ n. n.parent) f same_parent p nodes) (omega arith) refl some (omega (arith, l))
    (λ k outside. ap (λ (ds : List (List Declaration)). declarations_at ds k) (column_stays (λ n. n.decls) f same_decls p nodes))
    (λ k high lt from. absurd (omega (arith, high, lt, l)))
