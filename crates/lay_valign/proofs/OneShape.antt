-- A line has one shape.
use Rattle.std.proofs.Common.{◌≡◌, ℕ, zero, suc, ◌+◌, ◌<◌, ℤ, pos, ◌+ℤ◌, ◌≤ℤ◌, List, inl, inr, length, refl, sym, ap, ◌∙◌, arith, subst, get_or}
use Rattle.std.proofs.Common.{true, if◌then◌else◌, rules}
use Rattle.std.proofs.lemmas.Int.{ints}
use Rattle.std.proofs.lemmas.List.{ext_get_or}
use Rattle.lay_units.specs.declared.length.Unit.{Unit}
use Rattle.lay_units.specs.Lengths.{no_length}
use Rattle.lay_valign.specs.declared.parts.LineEdge.{LineEdge}
use Rattle.lay_valign.specs.declared.parts.LineEdge.TheVariants.{TopEdge, BottomEdge}
use Rattle.lay_valign.specs.declared.parts.LineShape.{LineShape}
use Rattle.lay_valign.specs.declared.parts.Part.{Part}
use Rattle.lay_valign.specs.declared.parts.Shift.{Shift}
use Rattle.lay_valign.specs.declared.parts.Shift.TheVariants.{By, Middle, TextTop, TextBottom, Top, Bottom}
use Rattle.lay_valign.specs.Parts.{part_at, at, shift_at, begins, is_aligned, AreParts}
use Rattle.lay_valign.specs.Raises.{raise_of}
use Rattle.lay_valign.specs.Subtrees.{Subtrees, AreSubtrees, HasRoots, HasRises, HasReaches, IsGreatest, above_of, below_of}
use Rattle.lay_valign.specs.LineShape.{IsAligned, IsLine, IsRaised, beyond, base_by, base_of, shift_of}
use Rattle.lay_valign.specs.Laws.{OneShape}
use Rattle.lay_valign.proofs.Columns.{root_own, root_first, own_root}

roots_to : (ps : List Part) (v w : List ℕ) → AreParts ps → HasRoots ps v → HasRoots ps w → (n k : ℕ) → k < n → k < length ps → get_or v k 0 ≡ get_or w k 0
roots_to ps v w are p q zero k lt within = absurd (omega arith)
roots_to ps v w are p q (suc n) zero lt within = p.each zero within ∙ sym (q.each zero within)
roots_to ps v w are p q (suc n) (suc k) lt within =
    let b = are.before (suc k) (omega arith) within in
    let i = roots_to ps v w are p q n (part_at ps (suc k)).parent (omega (arith, b, lt)) (omega (arith, b, within)) in
    p.each (suc k) within ∙ ap (λ (m : ℕ). if begins (part_at ps (suc k)).shift then suc k else m) i ∙ sym (q.each (suc k) within)

same_roots : (ps : List Part) (v w : List ℕ) → AreParts ps → HasRoots ps v → HasRoots ps w → v ≡ w
same_roots ps v w are p q = ext_get_or 0 v w (p.as_many ∙ sym q.as_many)
    (λ k lt. (let e = p.as_many in roots_to ps v w are p q (k + 1) k (omega arith) (omega (arith, e, lt))))

rises_to : (ps : List Part) (v w : List ℤ) → AreParts ps → HasRises ps v → HasRises ps w → (n k : ℕ) → k < n → k < length ps → at v k ≡ at w k
rises_to ps v w are p q zero k lt within = absurd (omega arith)
rises_to ps v w are p q (suc n) zero lt within = p.each zero within ∙ sym (q.each zero within)
rises_to ps v w are p q (suc n) (suc k) lt within =
    let b = are.before (suc k) (omega arith) within in
    let i = rises_to ps v w are p q n (part_at ps (suc k)).parent (omega (arith, b, lt)) (omega (arith, b, within)) in
    p.each (suc k) within ∙ ap (λ (z : ℤ). if begins (part_at ps (suc k)).shift then pos 0 else z +ℤ raise_of (part_at ps (suc k))) i ∙ sym
    (q.each (suc k) within)

same_rises : (ps : List Part) (v w : List ℤ) → AreParts ps → HasRises ps v → HasRises ps w → v ≡ w
same_rises ps v w are p q = ext_get_or (pos 0) v w (p.as_many ∙ sym q.as_many)
    (λ k lt. (let e = p.as_many in rises_to ps v w are p q (k + 1) k (omega arith) (omega (arith, e, lt))))

greatest_same : (Of : ℕ → Type 0) (value : ℕ → ℤ) (v w : ℤ) → IsGreatest Of value v → IsGreatest Of value w → v ≡ w
greatest_same Of value v w p q =
    let a = q.most p.one_of.0 p.one_of.1 in let b = p.most q.one_of.0 q.one_of.1 in
    let e = p.one_of.2 in let f = q.one_of.2 in
    omega (arith, ints, a, b, e, f)

raised_low : (Of : ℕ → Type 0) (f g : ℕ → ℤ) (c d v w : ℤ) → c ≡ d → ((k : ℕ) → Of k → f k ≡ g k) → IsRaised Of f c v → IsRaised Of g d w → v ≤ℤ w
raised_low Of f g c d v w floors same p q = elim p.least [
  | inl e ↦ (let a = q.from in omega (arith, ints, a, e, floors))
  | inr found ↦ (let a = q.most found.0 found.1 in let s = same found.0 found.1 in let e = found.2 in omega (arith, ints, a, s, e))
]

raised_same : (Of : ℕ → Type 0) (f g : ℕ → ℤ) (c d v w : ℤ) → c ≡ d → ((k : ℕ) → Of k → f k ≡ g k) → IsRaised Of f c v → IsRaised Of g d w → v ≡ w
raised_same Of f g c d v w floors same p q =
    let a = raised_low Of f g c d v w floors same p q in
    let b = raised_low Of g f d c w v (sym floors) (λ k of. sym (same k of)) q p in
    omega (arith, ints, a, b)

pub aligned_begins : (edge : LineEdge) (shift : Shift) → is_aligned edge shift ≡ true → begins shift ≡ true
aligned_begins TopEdge (By v) is = absurd (search rules)
aligned_begins TopEdge (Middle v) is = absurd (search rules)
aligned_begins TopEdge (TextTop v) is = absurd (search rules)
aligned_begins TopEdge (TextBottom v) is = absurd (search rules)
aligned_begins BottomEdge (By v) is = absurd (search rules)
aligned_begins BottomEdge (Middle v) is = absurd (search rules)
aligned_begins BottomEdge (TextTop v) is = absurd (search rules)
aligned_begins BottomEdge (TextBottom v) is = absurd (search rules)
aligned_begins edge Top is = refl
aligned_begins edge Bottom is = refl

-- the subtrees of two shapes agree where they are read
record SameAt (s t : Subtrees) (k : ℕ) : Type 0 where
  pub above : at s.aboves k ≡ at t.aboves k
  pub below : at s.belows k ≡ at t.belows k

same_at : (ps : List Part) (s t : Subtrees) → AreParts ps → AreSubtrees ps s → AreSubtrees ps t → (k : ℕ) → k < length ps → get_or s.roots k 0 ≡ k
    → SameAt s t k
same_at ps s t are p q k lt own = record {
  above = greatest_same _ _ _ _ (p.aboves k within own)
      (subst (λ (r : List ℕ). HasReaches r (above_of ps s.rises) t.aboves) (sym roots)
      (subst (λ (r : List ℤ). HasReaches t.roots (above_of ps r) t.aboves) (sym rises) q.aboves) k within own);
  below = greatest_same _ _ _ _ (p.belows k within own)
      (subst (λ (r : List ℕ). HasReaches r (below_of ps s.rises) t.belows) (sym roots)
      (subst (λ (r : List ℤ). HasReaches t.roots (below_of ps r) t.belows) (sym rises) q.belows) k within own);
}
  where
    roots : s.roots ≡ t.roots
    roots = same_roots ps s.roots t.roots are p.roots q.roots

    rises : s.rises ≡ t.rises
    rises = same_rises ps s.rises t.rises are p.rises q.rises

    within : k < length s.roots
    within = (let e = p.roots.as_many in omega (arith, e, lt))

beyond_same : (edge : LineEdge) (ps : List Part) (s t : Subtrees) (c d : ℤ) → AreParts ps → AreSubtrees ps s → AreSubtrees ps t → c ≡ d → (k : ℕ)
    → IsAligned edge ps k → beyond s c k ≡ beyond t d k
beyond_same edge ps s t c d are p q e k al =
    let same = same_at ps s t are p q k al.within (own_root ps s.roots k p.roots al.within al.no_strut (aligned_begins edge (part_at ps k).shift al.aligned)) in
    let a = same.above in let b = same.below in
    omega (arith, ints, a, b, e)

strut_same : (ps : List Part) (s t : Subtrees) → AreParts ps → AreSubtrees ps s → AreSubtrees ps t → SameAt s t 0
strut_same ps s t are p q = same_at ps s t are p q 0 are.strut (p.roots.each 0 are.strut)

below_same : (ps : List Part) (s t : Subtrees) (a b c d : ℤ) → AreParts ps → AreSubtrees ps s → AreSubtrees ps t → IsLine ps s a b → IsLine ps t c d → b ≡ d
below_same ps s t a b c d are p q l m =
    let strut = strut_same ps s t are p q in
    raised_same _ _ _ _ _ _ _ strut.below (beyond_same TopEdge ps s t _ _ are p q strut.above) l.downward m.downward

above_same : (ps : List Part) (s t : Subtrees) (a b c d : ℤ) → AreParts ps → AreSubtrees ps s → AreSubtrees ps t → IsLine ps s a b → IsLine ps t c d → a ≡ c
above_same ps s t a b c d are p q l m =
    let strut = strut_same ps s t are p q in
    raised_same _ _ _ _ _ _ _ strut.above (beyond_same BottomEdge ps s t _ _ are p q (below_same ps s t a b c d are p q l m)) l.upward m.upward

base_same : (ps : List Part) (s t : Subtrees) (a b : ℤ) (root : ℕ) → SameAt s t root → base_of ps s a b root ≡ base_of ps t a b root
base_same ps s t a b zero same = refl
base_same ps s t a b (suc k) same = ap (λ (z : ℤ). base_by (part_at ps (suc k)).shift z (at s.belows (suc k)) a b) same.above ∙ ap
    (λ (z : ℤ). base_by (part_at ps (suc k)).shift (at t.aboves (suc k)) z a b) same.below

shift_same : (ps : List Part) (s t : Subtrees) (a b : ℤ) → AreParts ps → AreSubtrees ps s → AreSubtrees ps t → (k : ℕ) → k < length ps
    → shift_of ps s a b k ≡ shift_of ps t a b k
shift_same ps s t a b are p q k lt =
    let f = root_first ps s.roots k are p.roots lt in
    let same = same_at ps s t are p q (get_or s.roots k 0) (omega (arith, f, lt)) (root_own ps s.roots k are p.roots lt) in
    let base = base_same ps s t a b (get_or s.roots k 0) same in
    let root = roots_to ps s.roots t.roots are p.roots q.roots (k + 1) k (omega arith) lt in
    let rise = rises_to ps s.rises t.rises are p.rises q.rises (k + 1) k (omega arith) lt in
    ap (λ (z : ℤ). z +ℤ at s.rises k) (base ∙ ap (base_of ps t a b) root) ∙ ap (λ (z : ℤ). base_of ps t a b (get_or t.roots k 0) +ℤ z) rise

abbrev unit : ℤ → Unit
unit v = record { 0 = v }

abbrev shape : List Unit → Unit → Unit → LineShape
shape shifts above below = record { shifts = shifts; above = above; below = below }

pub one_shape_lem : OneShape
one_shape_lem ps s t are p q = ap (λ (xs : List Unit). shape xs s.above s.below) shifts ∙ ap (λ (u : Unit). shape t.shifts u s.below)
    (ap unit above) ∙ ap (shape t.shifts t.above) (ap unit below)
  where
    above : s.above.0 ≡ t.above.0
    above = above_same ps p.subtrees q.subtrees _ _ _ _ are p.are_subtrees q.are_subtrees p.line q.line

    below : s.below.0 ≡ t.below.0
    below = below_same ps p.subtrees q.subtrees _ _ _ _ are p.are_subtrees q.are_subtrees p.line q.line

    each : (k : ℕ) → k < length ps → shift_at s.shifts k ≡ shift_at t.shifts k
    each k lt =
        p.each k lt
        ∙ shift_same ps p.subtrees q.subtrees s.above.0 s.below.0 are p.are_subtrees q.are_subtrees k lt
        ∙ ap (λ (z : ℤ). shift_of ps q.subtrees z s.below.0 k) above
        ∙ ap (λ (z : ℤ). shift_of ps q.subtrees t.above.0 z k) below
        ∙ sym (q.each k lt)

    shifts : s.shifts ≡ t.shifts
    shifts = ext_get_or no_length s.shifts t.shifts (p.as_many ∙ sym q.as_many) (λ k lt. (let e = p.as_many in ap unit (each k (omega (arith, e, lt)))))
