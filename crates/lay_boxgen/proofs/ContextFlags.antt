-- Flags that grow by one.
use Rattle.std.proofs.Common.{◌≡◌, ◌<◌, ◌↔◌, ℕ, ◌+◌, Bool, true, false, IsTrue, List, Option, None, Some, [], ◌∷◌, ◌++◌, length, length-append, slice_index, slice_index_or, ap, ◌∙◌, refl, sym, subst, arith, inl, inr}
use Rattle.std.proofs.lemmas.Bool.{cases_lt}
use Rattle.std.proofs.lemmas.Grind.{elements}
use Rattle.lay_style.specs.declared.style.Style.{Style}
use Rattle.lay_doc.specs.declared.node.Node.{Node}
use Rattle.lay_doc.specs.Document.{parents_of}
use Rattle.lay_boxgen.specs.declared.facts.Facts.{Facts}
use Rattle.lay_boxgen.specs.Contexts.{AreFlagsOf, GeneratesBox, IsContextAt, below, box_at, has_box, is_marked, keeps}
use Rattle.lay_boxgen.specs.GeneratedBoxes.{AreGenerated, IsGenerated}
use Rattle.lay_boxgen.proofs.Above.{from_root, kept_by, parent_generates, root_has}

module _ (P : ℕ → Type 0) where
  flag_before : (flags : List Bool) (b : Bool) (k : ℕ) → k < length flags → slice_index_or (flags ++ b ∷ []) k false ≡ slice_index_or flags k false
  flag_before flags b k lt = grind (arith, elements, lt)

  flag_last : (flags : List Bool) (b : Bool) → slice_index_or (flags ++ b ∷ []) (length flags) false ≡ b
  flag_last flags b = grind (arith, elements)

  pub one_flag_more : (n : ℕ) (flags : List Bool) (b : Bool) → AreFlagsOf P n flags → IsTrue b ↔ P n → AreFlagsOf P (n + 1) (flags ++ b ∷ [])
  one_flag_more n flags b are is = record {
    count = omega (arith, are.count, length-append flags (b ∷ []));
    each = λ k lt. elim (cases_lt k n) [
      | inl low ↦ subst (λ (f : Bool). IsTrue f ↔ P k) (sym (flag_before flags b k (omega (arith, low, are.count)))) (are.each k low)
      | inr high ↦ (let here : n ≡ k = omega (arith, lt, high) in
          let place : length flags ≡ k = omega (arith, are.count, here) in
          let last : slice_index_or (flags ++ b ∷ []) k false ≡ b = subst (λ (j : ℕ). slice_index_or (flags ++ b ∷ []) j false ≡ b) place (flag_last flags b) in
          subst (λ (f : Bool). IsTrue f ↔ P k) (sym last) (subst (λ (j : ℕ). IsTrue b ↔ P j) here is))
    ];
  }

module _ (nodes : List Node) (styles : List Style) where
  box_before : (boxes : List (Option Facts)) (o : Option Facts) (k : ℕ) → k < length boxes → slice_index_or (boxes ++ o ∷ []) k None ≡ slice_index_or boxes k None
  box_before boxes o k lt = grind (arith, elements, lt)

  box_last : (boxes : List (Option Facts)) (o : Option Facts) (k : ℕ) → k ≡ length boxes → slice_index_or (boxes ++ o ∷ []) k None ≡ o
  box_last boxes o k is = grind (arith, elements, is)

  pub one_generated : (n : ℕ) (boxes : List (Option Facts)) (o : Option Facts) → AreGenerated nodes styles n boxes → IsGenerated nodes styles n o → AreGenerated nodes styles (n + 1) (boxes ++ o ∷ [])
  one_generated n boxes o are is = record {
    count = omega (arith, are.count, length-append boxes (o ∷ []));
    each = λ k lt. elim (cases_lt k n) [
      | inl low ↦ rw (box_before boxes o k (omega (arith, low, are.count))) (are.each k low)
      | inr high ↦ (let here : k ≡ n = omega (arith, lt, high) in
          rw (box_last boxes o k (omega (arith, are.count, here))) (subst (λ (j : ℕ). IsGenerated nodes styles j o) (sym here) is))
    ];
  }

  has_some : (o p : Option Facts) → o ≡ p → IsTrue (has_box o) → IsTrue (has_box p)
  has_some o p e h = subst (λ (q : Option Facts). IsTrue (has_box q)) e h

  module _ (k : ℕ) where
    -- the root generates the box that it has by itself
    pub root_box : (o : Option Facts) → o ≡ box_at nodes styles k → k ≡ 0 → IsGenerated nodes styles k o
    root_box None own low = λ g. (let has = has_some (box_at nodes styles 0) None (ap (box_at nodes styles) (sym low) ∙ sym own) (root_has nodes styles k g low) in absurd cc)
    root_box (Some f) own low = (sym own, from_root nodes styles k low (has_some (Some f) (box_at nodes styles 0) (own ∙ ap (box_at nodes styles) low) refl))

    module _ (high : 0 < k) (around : Option Facts) (known : IsGenerated nodes styles (slice_index (parents_of nodes) k) around) where
      -- another node generates its box where its parent generates one and keeps it
      pub kept_box : (o : Option Facts) → o ≡ box_at nodes styles k → keeps around o ≡ true → IsGenerated nodes styles k o
      kept_box o own kept = kept_in around o known own kept
        where
          kept_in : (a o : Option Facts) → IsGenerated nodes styles (slice_index (parents_of nodes) k) a → o ≡ box_at nodes styles k → keeps a o ≡ true → IsGenerated nodes styles k o
          kept_in None o known own kept = absurd cc
          kept_in (Some f) None known own kept = absurd cc
          kept_in (Some f) (Some g) known own kept = (
            sym own,
            below k high (subst IsTrue (ap (λ (p : Option Facts). keeps p (Some g)) (sym known.0) ∙ ap (keeps (box_at nodes styles (slice_index (parents_of nodes) k))) own) kept) known.1,
          )

      pub lost_box : (o : Option Facts) → o ≡ box_at nodes styles k → keeps around o ≡ false → IsGenerated nodes styles k None
      lost_box o own lost = λ g. lost_in around known lost g
        where
          lost_in : (a : Option Facts) → IsGenerated nodes styles (slice_index (parents_of nodes) k) a → keeps a o ≡ false → GeneratesBox nodes styles k → ⊥
          lost_in None known lost g = known (parent_generates nodes styles k g high)
          lost_in (Some f) known lost g =
              let kept = kept_by nodes styles k g high in
              let same : keeps (box_at nodes styles (slice_index (parents_of nodes) k)) (box_at nodes styles k) ≡ keeps (Some f) o =
              ap (λ (p : Option Facts). keeps p (box_at nodes styles k)) known.0 ∙ ap (keeps (Some f)) (sym own) in
              absurd cc

    -- it is a context where that box is marked
    pub marked_generated : (o : Option Facts) → IsGenerated nodes styles k o → IsTrue (is_marked o) ↔ IsContextAt nodes styles k
    marked_generated None none = (λ m. absurd cc, λ c. absurd (none c.generates))
    marked_generated (Some f) is = (
      λ m. record { establishes = subst (λ (q : Option Facts). IsTrue (is_marked q)) (sym is.0) m; generates = is.1 },
      λ c. subst (λ (q : Option Facts). IsTrue (is_marked q)) is.0 c.establishes,
    )
