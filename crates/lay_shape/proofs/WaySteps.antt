-- The contexts on a way, as a list.
use Rattle.std.proofs.Common.{◌≡◌, ◌⊎◌, ⊎_elim, ℕ, zero, suc, ◌<◌, ◌≤◌, nat_lt, Bool, true, false, List, [], ◌∷◌, length, refl, ap, sym, subst, ◌∙◌, arith, Option, Some, None, if◌then◌else◌}
use Rattle.std.specs.Prelude.{is_none}
use Rattle.std.proofs.lemmas.Bool.{and_from, and_parts, lt-ltb}
use Rattle.lay_cells.specs.Shapes.{IsEachOnce, IsIn}
use Rattle.lay_contexts.specs.Contexts.{AreContexts, Context, boxes_in, context_at}
use Rattle.lay_positioned.specs.Holders.{IsHolderFor, holder_for}
use Rattle.lay_positioned.specs.Levels.{one_if}
use Rattle.lay_shape.proofs.Cited.{holder_is, one_holder_for}
use Rattle.lay_shape.specs.Building.{is_inner_absolute, leads_on}
use Rattle.lay_shape.specs.Levels.{level_of}
use Rattle.lay_shape.specs.Ways.{IsOnContextWay, IsOnContextWayFrom, outside_unless_held, further, here, is_absolute, is_fixed, way_from, way_of}
use Rattle.lay_shape.proofs.LevelSteps.{level_step}
use Rattle.lay_shape.proofs.Members.{in_cases, in_here, in_none, in_there}
use Rattle.lay_shape.proofs.Once.{once_more, once_none}

none_is : (o : Option ℕ) → is_none o ≡ true → o ≡ None
none_is None e = refl
none_is (Some x) e = absurd cc

some_ends : (i : ℕ) (o : Option ℕ) (outside : List ℕ) → (is_none o ≡ true → ⊥) → i ∷ outside_unless_held o outside ≡ i ∷ []
some_ends i None outside not_none = absurd (not_none refl)
some_ends i (Some x) outside not_none = refl

module _ (contexts : List Context) (are : AreContexts contexts) where
  abbrev outer : ℕ → ℕ
  outer i = (context_at contexts i).outer

  abbrev outer_box : ℕ → ℕ
  outer_box i = (context_at contexts i).outer_box

  module _ (fixed : Bool) where
    abbrev way : ℕ → ℕ → ℕ → List ℕ
    way t i k = way_from t fixed contexts i k

    abbrev holder : ℕ → ℕ → Option ℕ
    holder i k = holder_for fixed (boxes_in contexts i) k

    -- more turns than needed find the same
    pub way_same : (t u i k : ℕ) → i ≤ t → i ≤ u → i < length contexts → way t i k ≡ way u i k
    way_same zero zero i k a b within = refl
    way_same zero (suc u) zero k a b within = refl
    way_same zero (suc u) (suc i) k a b within = absurd (omega (arith, a))
    way_same (suc t) zero zero k a b within = refl
    way_same (suc t) zero (suc i) k a b within = absurd (omega (arith, b))
    way_same (suc t) (suc u) zero k a b within = refl
    way_same (suc t) (suc u) (suc i) k a b within =
        let out = are.outer (suc i) (omega arith) within in
        ap (λ l. suc i ∷ outside_unless_held (holder (suc i) k) l)
        (way_same t u (outer (suc i)) (outer_box (suc i)) (omega (arith, a, out)) (omega (arith, b, out)) (omega (arith, out, within)))

    held : (i k : ℕ) → i < length contexts → k < length (boxes_in contexts i) → IsHolderFor fixed (boxes_in contexts i) k (holder i k)
    held i k within box = holder_is (boxes_in contexts i) (are.boxes i within).tree fixed k box

    -- further out only where no holder is
    in_beyond : (o : Option ℕ) (xs : List ℕ) (j : ℕ) → IsIn (outside_unless_held o xs) j → (o ≡ None) × IsIn xs j
    in_beyond None xs j has = (refl, has)
    in_beyond (Some h) xs j has = absurd (in_none j has)

    pub way_is : (t i k j : ℕ) → i ≤ t → i < length contexts → k < length (boxes_in contexts i) → IsIn (way t i k) j → IsOnContextWayFrom fixed contexts j i k
    way_is zero i k j a within box has =
        ⊎_elim (λ e. subst (λ n. IsOnContextWayFrom fixed contexts j n k) e (here k)) (λ rest. absurd (in_none j rest)) (in_cases i j [] has)
    way_is (suc t) zero k j a within box has =
        ⊎_elim (λ e. subst (λ n. IsOnContextWayFrom fixed contexts j n k) e (here k)) (λ rest. absurd (in_none j rest)) (in_cases 0 j [] has)
    way_is (suc t) (suc i) k j a within box has =
        let out = are.outer (suc i) (omega arith) within in
        ⊎_elim
        (λ e. subst (λ n. IsOnContextWayFrom fixed contexts j n k) e (here k))
        (λ rest. let r = in_beyond (holder (suc i) k) (way t (outer (suc i)) (outer_box (suc i))) j rest in
        further (suc i) k (omega arith) (subst (λ o. IsHolderFor fixed (boxes_in contexts (suc i)) k o) r.0 (held (suc i) k within box))
        (way_is t (outer (suc i)) (outer_box (suc i)) j (omega (arith, a, out)) (omega (arith, out, within)) (are.outer_box (suc i) (omega arith) within) r.1))
        (in_cases (suc i) j (outside_unless_held (holder (suc i) k) (way t (outer (suc i)) (outer_box (suc i)))) has)

    way_begins : (t i k : ℕ) → IsIn (way t i k) i
    way_begins zero i k = in_here i []
    way_begins (suc t) zero k = in_here 0 []
    way_begins (suc t) (suc i) k = in_here (suc i) (outside_unless_held (holder (suc i) k) (way t (outer (suc i)) (outer_box (suc i))))

    way_goes_on : (t i k j : ℕ) → 0 < i → holder i k ≡ None → i ≤ t → IsIn (way t (outer i) (outer_box i)) j → outer i < i → i < length contexts → IsIn (way t i k) j
    way_goes_on t zero k j some none a has out within = absurd (omega (arith, some))
    way_goes_on zero (suc i) k j some none a has out within = absurd (omega (arith, a))
    way_goes_on (suc t) (suc i) k j some none a has out within =
        let less : way (suc t) (outer (suc i)) (outer_box (suc i)) ≡ way t (outer (suc i)) (outer_box (suc i)) =
        way_same (suc t) t (outer (suc i)) (outer_box (suc i)) (omega (arith, a, out)) (omega (arith, a, out)) (omega (arith, out, within)) in
        in_there (suc i) j (outside_unless_held (holder (suc i) k) (way t (outer (suc i)) (outer_box (suc i))))
        (subst (λ o. IsIn (outside_unless_held o (way t (outer (suc i)) (outer_box (suc i)))) j) (sym none) (subst (λ l. IsIn l j) less has))

    pub in_way : (t j i k : ℕ) → i ≤ t → i < length contexts → k < length (boxes_in contexts i) → IsOnContextWayFrom fixed contexts j i k → IsIn (way t i k) j
    in_way t j i k a within box (here k-2) = way_begins t i k
    in_way t j i k a within box (further i-2 k-2 some none rest) =
        let out = are.outer i some within in
        way_goes_on t i k j some (one_holder_for fixed (boxes_in contexts i) k (holder i k) None (held i k within box) none) a
        (in_way t j (outer i) (outer_box i) (omega (arith, a, out)) (omega (arith, out, within)) (are.outer_box i some within) rest) out within

    -- it leads out, to no higher level
    pub way_out : (j i k : ℕ) → i < length contexts → IsOnContextWayFrom fixed contexts j i k → (j ≤ i) × (level_of contexts j ≤ level_of contexts i)
    way_out j i k within (here k-2) = (omega arith, omega arith)
    way_out j i k within (further i-2 k-2 some none rest) =
        let out = are.outer i some within in
        let level = level_step contexts are i some within in
        let less = way_out j (outer i) (outer_box i) (omega (arith, out, within)) rest in
        let a = less.0 in
        let b = less.1 in
        (omega (arith, a, out), omega (arith, b, level))

    none_twice : (o : Option ℕ) (i : ℕ) (xs : List ℕ) → (IsIn xs i → ⊥) → IsEachOnce xs → IsEachOnce (i ∷ outside_unless_held o xs)
    none_twice None i xs apart once = once_more i xs apart once
    none_twice (Some h) i xs apart once = once_more i [] (λ has. in_none i has) once_none

    -- and comes to each context once
    pub way_once : (t i k : ℕ) → i ≤ t → i < length contexts → k < length (boxes_in contexts i) → IsEachOnce (way t i k)
    way_once zero i k a within box = once_more i [] (λ has. in_none i has) once_none
    way_once (suc t) zero k a within box = once_more 0 [] (λ has. in_none 0 has) once_none
    way_once (suc t) (suc i) k a within box =
        let out = are.outer (suc i) (omega arith) within in
        let place = are.outer_box (suc i) (omega arith) within in
        none_twice (holder (suc i) k) (suc i) (way t (outer (suc i)) (outer_box (suc i)))
        (λ has. let less = way_out (suc i) (outer (suc i)) (outer_box (suc i)) (omega (arith, out, within))
        (way_is t (outer (suc i)) (outer_box (suc i)) (suc i) (omega (arith, a, out)) (omega (arith, out, within)) place has) in
        let b = less.0 in absurd (omega (arith, b, out)))
        (way_once t (outer (suc i)) (outer_box (suc i)) (omega (arith, a, out)) (omega (arith, out, within)) place)

  -- those on the way of a context
  pub on_way_in : (i j : ℕ) → i < length contexts → IsOnContextWay contexts i j → IsIn (way_of contexts i) j
  on_way_in zero j within on = let s = on.some in absurd (omega (arith, s))
  on_way_in (suc i) j within on =
      let out = are.outer (suc i) (omega arith) within in
      subst (λ b. IsIn (if b then way_from (suc i) (is_fixed contexts (suc i)) contexts (outer (suc i)) (outer_box (suc i)) else []) j) (sym on.absolute)
      (in_way (is_fixed contexts (suc i)) (suc i) j (outer (suc i)) (outer_box (suc i)) (omega (arith, out)) (omega (arith, out, within)) (are.outer_box (suc i) (omega arith) within) on.from)

  by_position : (i j : ℕ) (b : Bool) → is_absolute contexts (suc i) ≡ b → suc i < length contexts
      → IsIn (if b then way_from (suc i) (is_fixed contexts (suc i)) contexts (outer (suc i)) (outer_box (suc i)) else []) j → IsOnContextWay contexts (suc i) j
  by_position i j true e within has =
      let out = are.outer (suc i) (omega arith) within in
      record {
        some = omega arith;
        absolute = e;
        from = way_is (is_fixed contexts (suc i)) (suc i) (outer (suc i)) (outer_box (suc i)) j (omega (arith, out)) (omega (arith, out, within)) (are.outer_box (suc i) (omega arith) within) has;
      }
  by_position i j false e within has = absurd (in_none j has)

  pub in_way_on : (i j : ℕ) → i < length contexts → IsIn (way_of contexts i) j → IsOnContextWay contexts i j
  in_way_on zero j within has = absurd (in_none j has)
  in_way_on (suc i) j within has = by_position i j (is_absolute contexts (suc i)) refl within has

  pub on_way_lower : (i j : ℕ) → i < length contexts → IsOnContextWay contexts i j → (j < i) × (level_of contexts j < level_of contexts i)
  on_way_lower i j within on =
      let out = are.outer i on.some within in
      let level = level_step contexts are i on.some within in
      let one : one_if (is_absolute contexts i) ≡ 1 = ap one_if on.absolute in
      let less = way_out (is_fixed contexts i) j (outer i) (outer_box i) (omega (arith, out, within)) on.from in
      let a = less.0 in
      let b = less.1 in
      (omega (arith, a, out), omega (arith, b, level, one))

  once_by : (i : ℕ) (b : Bool) → suc i < length contexts → IsEachOnce (if b then way_from (suc i) (is_fixed contexts (suc i)) contexts (outer (suc i)) (outer_box (suc i)) else [])
  once_by i true within =
      let out = are.outer (suc i) (omega arith) within in
      way_once (is_fixed contexts (suc i)) (suc i) (outer (suc i)) (outer_box (suc i)) (omega (arith, out)) (omega (arith, out, within)) (are.outer_box (suc i) (omega arith) within)
  once_by i false within = once_none

  pub ways_once : (i : ℕ) → i < length contexts → IsEachOnce (way_of contexts i)
  ways_once zero within = once_none
  ways_once (suc i) within = once_by i (is_absolute contexts (suc i)) within

module _ (contexts : List Context) (are : AreContexts contexts) (fixed : Bool) where
  -- a way that goes on
  pub way_goes : (i k : ℕ) → i < length contexts → leads_on fixed contexts i k ≡ true
      → way_from i fixed contexts i k ≡ i ∷ way_from (context_at contexts i).outer fixed contexts (context_at contexts i).outer (context_at contexts i).outer_box
  way_goes zero k within on = absurd cc
  way_goes (suc i) k within on =
      let o = (context_at contexts (suc i)).outer in
      let out = are.outer (suc i) (omega arith) within in
      let is = none_is (holder_for fixed (boxes_in contexts (suc i)) k) (and_parts (nat_lt 0 (suc i)) (is_none (holder_for fixed (boxes_in contexts (suc i)) k)) on).1 in
      ap (λ p. suc i ∷ outside_unless_held p (way_from i fixed contexts o (context_at contexts (suc i)).outer_box)) is
      ∙ ap (λ l. suc i ∷ l) (way_same contexts are fixed i o o (context_at contexts (suc i)).outer_box (omega (arith, out)) (omega arith) (omega (arith, out, within)))

  -- and one that ends where it begins
  pub way_ends : (i k : ℕ) → leads_on fixed contexts i k ≡ false → way_from i fixed contexts i k ≡ i ∷ []
  way_ends zero k off = refl
  way_ends (suc i) k off =
      some_ends (suc i) (holder_for fixed (boxes_in contexts (suc i)) k) (way_from i fixed contexts (context_at contexts (suc i)).outer (context_at contexts (suc i)).outer_box)
      (λ e. let p = lt-ltb 0 (suc i) (omega arith) in let never : true ≡ false = sym (and_from (nat_lt 0 (suc i)) (is_none (holder_for fixed (boxes_in contexts (suc i)) k)) p e) ∙ off in cc)

  -- the way of an absolutely positioned context, and of others
  pub way_begun : (i : ℕ) → i < length contexts → is_inner_absolute contexts i ≡ true → is_fixed contexts i ≡ fixed
      → way_of contexts i ≡ way_from (context_at contexts i).outer fixed contexts (context_at contexts i).outer (context_at contexts i).outer_box
  way_begun zero within out_of e = absurd cc
  way_begun (suc i) within out_of e =
      let o = (context_at contexts (suc i)).outer in
      let b = (context_at contexts (suc i)).outer_box in
      let out = are.outer (suc i) (omega arith) within in
      let absolute = (and_parts (nat_lt 0 (suc i)) (is_absolute contexts (suc i)) out_of).1 in
      ap (λ (c : Bool). if c then way_from (suc i) (is_fixed contexts (suc i)) contexts o b else []) absolute
      ∙ ap (λ (f : Bool). way_from (suc i) f contexts o b) e
      ∙ way_same contexts are fixed (suc i) o o b (omega (arith, out)) (omega arith) (omega (arith, out, within))

  pub no_way : (i : ℕ) → is_inner_absolute contexts i ≡ false → way_of contexts i ≡ []
  no_way zero e = refl
  no_way (suc i) e = by (is_absolute contexts (suc i)) refl
    where
      by : (c : Bool) → is_absolute contexts (suc i) ≡ c
          → (if c then way_from (suc i) (is_fixed contexts (suc i)) contexts (context_at contexts (suc i)).outer (context_at contexts (suc i)).outer_box else []) ≡ []
      by true h = absurd (let p = lt-ltb 0 (suc i) (omega arith) in let never : true ≡ false = sym (and_from (nat_lt 0 (suc i)) (is_absolute contexts (suc i)) p h) ∙ e in cc)
      by false h = refl
